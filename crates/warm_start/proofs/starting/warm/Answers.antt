use Rattle.std.proofs.Common.{None, ◌∙◌, ◌≤◌, false, Bool, inl, inr, ℕ, length, Err, refl, sym, ap, subst}
use Rattle.mas_types.specs.declared.ids.Dev.{Dev}
use Rattle.mas_types.specs.declared.ids.Dev.TheVariants.{Ckpt1, Ckpt2}
use Rattle.ckpt_places.specs.declared.places.Place.TheVariants.{Before}
use Rattle.duplex_pair.specs.Halves.{pick}
use Rattle.mas_complex.specs.Crash.{CopyAt, copy_of, setting}
use Rattle.mas_complex.proofs.Basics.{each}
use Rattle.mas_complex.proofs.Fates.{rested_copy}
use Rattle.spool_plant.specs.View.{disk_now}
use Rattle.ckpt_copy.specs.Pages.{bytes_of, level}
use Rattle.mas_types.specs.declared.queues.Config.{Config}
use Rattle.mas_complex.specs.Texts.{HasTexts, lost_now, spools_at}
use Rattle.warm_start.specs.Starting.{IsHeld, OneFailed, Starts}
use Rattle.warm_start.proofs.Begun.{stand_of, one_called, by_loss, lost_both}
use Rattle.warm_start.proofs.Brought.{brought}
use Rattle.warm_start.proofs.Prepared.{given_kept, held_all, texts_left}
use Rattle.warm_start.proofs.Spooling.{roomy_later, steady_first, steady_then}
use Rattle.warm_start.proofs.starting.warm.Goals as goal

pub returns-in-Err-clause-held : goal.returns-in-Err-clause-held
returns-in-Err-clause-held g c = λ told. inl (c.prepare.ensures.during told, c.prepare.ensures.loses)

pub returns-in_default-clause-lost : goal.returns-in_default-clause-lost
returns-in_default-clause-lost g c = λ why.
    let old = g.P.Plant.view c.args.plant in
    let new = g.P.Plant.view c.bring.new.plant in
    let p = c.bring.new.pair in
    let both = lost_both c.in_default.field-0 p.first.alive p.second.alive (λ e. c.in_default.ensures.both (ap Err e)) (λ e. c.in_default.ensures.halts (ap Err e)) in
    record {
      starts = subst (λ (a : Bool). Starts a false old new) both.0 (subst (λ (b : Bool). Starts p.first.alive b old new) both.1 (c.bring.ensures.starts old c.in-Ok.ensures.starts));
      one = one_called old (g.P.Plant.view c.prepare.new.plant) new c.in-Ok.ready.start c.prepare.ensures.loses c.bring.ensures.kept1 c.bring.ensures.kept2;
      failed = inr (by_loss (OneFailed old new) c.in_default.field-0 (λ e. c.in_default.ensures.failed (ap Err e) old c.in-Ok.ensures.starts) (λ e. c.in_default.ensures.halts (ap Err e)));
    }

pub returns-in_default-clause-held : goal.returns-in_default-clause-held
returns-in_default-clause-held g c = λ told.
    let C = g.C.Copying in
    let view = g.P.Plant.view in
    let old = view c.args.plant in
    let mid = view c.prepare.new.plant in
    let new = view c.bring.new.plant in
    let F = c.in-Ok.ready.start.found in
    let e = c.in-Ok.ensures in
    let p = c.prepare.new.pair in
    let n = c.bring.new.pair in
    let starts : Starts n.first.alive n.second.alive old new = c.bring.ensures.starts old e.starts in
    let brings = (λ (told : g.P.Plant.tells). brought C.count C.room C.room_most C.room_in C.ready C.reads C.rests g.P.Plant.tells old mid new p.first.copy p.second.copy p.first.alive n.first.alive p.second.alive n.second.alive p.first.found p.second.found c.in-Ok.ready.start
    e.chosen e.starts starts c.bring.ensures.goes c.prepare.ensures.loses c.bring.ensures.dead1 c.bring.ensures.dead2 c.bring.ensures.kept1 c.bring.ensures.kept2 told
    (c.bring.ensures.gone1 told (c.prepare.ensures.gone1 told)) (c.bring.ensures.gone2 told (c.prepare.ensures.gone2 told))) in
    inr (
      F.pages,
      record {
        usable = (F.tables, e.chosen.usable);
        sized = e.chosen.sized;
        found = (brings told).found;
        held = held_all C.reads (bytes_of F.pages) old mid new (c.prepare.ensures.during told) (c.bring.ensures.during told);
        kept1 = (brings told).kept1;
        kept2 = (brings told).kept2;
      },
    )

pub make-complex-requires-clause-begins : goal.make-complex-requires-clause-begins
make-complex-requires-clause-begins g c told =
    let C = g.C.Copying in
    let v = g.P.Plant.view c.bring.new.plant in
    let mid = g.P.Plant.view c.prepare.new.plant in
    let n = c.bring.new.pair in
    let F = c.in-Ok.ready.start.found in
    let base = c.in-Ok.ready.base in
    let pages = bytes_of F.pages in
    let copies = λ (d : Dev). copy_of C.rests C.holds (pick d n.first n.second) Before in
    let first = rested_copy (setting C.reads base v.now) Ckpt1 (copies Ckpt1) v pages refl refl
    (λ is. c.in-Ok-bring.ensures.rests1 told is) (λ dead lt. c.bring.ensures.gone1 told (c.prepare.ensures.gone1 told) refl dead lt) in
    let second = rested_copy (setting C.reads base v.now) Ckpt2 (copies Ckpt2) v pages refl refl
    (λ is. c.in-Ok-bring.ensures.rests2 told is) (λ dead lt. c.bring.ensures.gone2 told (c.prepare.ensures.gone2 told) refl dead lt) in
    let at_level = sym (c.pages_level-level.ensures ∙ ap (λ ps. level (bytes_of ps)) c.as_slice.ensures) in
    let queue = stand_of base F.pages F.tables c.in-Ok.ensures.chosen.sized c.in-Ok.ensures.chosen.usable.0 c.in-Ok.ensures.chosen.usable.1.sound c.in-Ok.ensures.tell in
    let texts = subst (λ (cfg : Config). HasTexts (lost_now v) (spools_at v v.now) cfg.groups base) (sym c.in-Ok.ensures.tell.config)
    (texts_left F.tables.config.groups base (IsHeld C.reads (disk_now mid Ckpt1) pages) (IsHeld C.reads (disk_now mid Ckpt2) pages) mid v (c.bring.ensures.during told) (c.in-Ok.ensures.texts told)) in
    ∣ record { pages = pages; stands = record { at_level = at_level; queue = queue }; texts = texts; at = each (λ d. CopyAt (setting C.reads base v.now) pages None d (copies d) v) first second } ∣₁

pub returns-clause-fresh : goal.returns-clause-fresh
returns-clause-fresh g c told =
    let m = c.make-complex.ensures in
    rw (m.plant, m.base, m.since) (m.fresh told)

pub returns-clause-started : goal.returns-clause-started
returns-clause-started g c =
    let C = g.C.Copying in
    let view = g.P.Plant.view in
    let old = view c.args.plant in
    let mid = view c.prepare.new.plant in
    let new = view c.bring.new.plant in
    let F = c.in-Ok.ready.start.found in
    let e = c.in-Ok.ensures in
    let k = c.in-Ok-bring.ensures in
    let p = c.prepare.new.pair in
    let n = c.bring.new.pair in
    let starts : Starts n.first.alive n.second.alive old new = c.bring.ensures.starts old e.starts in
    let brings = (λ (told : g.P.Plant.tells). brought C.count C.room C.room_most C.room_in C.ready C.reads C.rests g.P.Plant.tells old mid new p.first.copy p.second.copy p.first.alive n.first.alive p.second.alive n.second.alive p.first.found p.second.found c.in-Ok.ready.start
    e.chosen e.starts starts c.bring.ensures.goes c.prepare.ensures.loses c.bring.ensures.dead1 c.bring.ensures.dead2 c.bring.ensures.kept1 c.bring.ensures.kept2 told
    (c.bring.ensures.gone1 told (c.prepare.ensures.gone1 told)) (c.bring.ensures.gone2 told (c.prepare.ensures.gone2 told))) in
    let m = c.make-complex.ensures in
    let size = c.prepare.ensures.goes.size in
    rw (m.plant, m.pair, m.base, m.level) (record {
      usable = e.chosen.usable;
      sized = e.chosen.sized;
      leveled = e.levels;
      tells_base = e.tell;
      base_sound = e.sound;
      texts = λ told. texts_left F.tables.config.groups c.in-Ok.ready.base (IsHeld C.reads (disk_now mid Ckpt1) (bytes_of F.pages)) (IsHeld C.reads (disk_now mid Ckpt2) (bytes_of F.pages)) mid new (c.bring.ensures.during told) (e.texts told);
      given = λ told steady. given_kept F.tables.config.groups c.in-Ok.ready.base (IsHeld C.reads (disk_now mid Ckpt1) (bytes_of F.pages)) (IsHeld C.reads (disk_now mid Ckpt2) (bytes_of F.pages)) mid new (c.bring.ensures.during told)
          (steady_then old mid new c.prepare.ensures.goes c.bring.ensures.goes steady) (e.given told (steady_first old mid new c.prepare.ensures.goes c.bring.ensures.goes steady));
      roomy = roomy_later mid new F.tables.config c.bring.ensures.goes e.roomy;
      at_level = c.pages_level-level.ensures ∙ ap (λ ps. level (bytes_of ps)) c.as_slice.ensures;
      found = λ told. (brings told).found;
      starts = starts;
      one = one_called old mid new c.in-Ok.ready.start c.prepare.ensures.loses c.bring.ensures.kept1 c.bring.ensures.kept2;
      some = k.ok;
      large1 = subst (λ (s : ℕ). C.needs (length F.pages) ≤ s) (size Ckpt1) e.large.0;
      large2 = subst (λ (s : ℕ). C.needs (length F.pages) ≤ s) (size Ckpt2) e.large.1;
      as_many1 = c.bring.ensures.as_many1;
      as_many2 = c.bring.ensures.as_many2;
      reads1 = λ told is. g.met.C.Copying.rests_now n.first.copy (bytes_of F.pages) (disk_now new Ckpt1) (k.rests1 told is);
      reads2 = λ told is. g.met.C.Copying.rests_now n.second.copy (bytes_of F.pages) (disk_now new Ckpt2) (k.rests2 told is);
      kept1 = λ told. (brings told).kept1;
      kept2 = λ told. (brings told).kept2;
      held = λ told. held_all C.reads (bytes_of F.pages) old mid new (c.prepare.ensures.during told) (c.bring.ensures.during told);
    })
