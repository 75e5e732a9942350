use Rattle.std.proofs.Common.{◌≡◌, ◌∙◌, ℕ, List, false, length, refl, sym, ap, subst, arith}
use Rattle.std.proofs.Math.Logic.{∥∥₁_map₂}
use Rattle.std.proofs.lemmas.Bool.{eqb-true}
use Rattle.std.proofs.lemmas.Result.{err_from_is_err_and}
use Rattle.mas_types.specs.declared.ids.Dev.{Dev}
use Rattle.mas_types.specs.declared.ids.Dev.TheVariants.{Ckpt1, Ckpt2}
use Rattle.mas_types.specs.declared.ids.Page.{Page}
use Rattle.ckpt_pages.specs.Checkpoints.{SpellSome}
use Rattle.spool_plant.specs.View.{disk_now}
use Rattle.mas_complex.specs.Journals.{kept_all}
use Rattle.mas_complex.specs.Meaning.{run}
use Rattle.member_node.specs.Reads.{ArePagesOf, HasRead, ReadsAs, copies_alive}
use Rattle.member_node.specs.Mirrors.{IsMirror, IsMirrorBut}
use Rattle.member_node.specs.Wanted.{AreUnchanged, level_had, wanted}
use Rattle.ckpt_copy.specs.Pages.{page_in as page_of_bytes}
use Rattle.ckpt_tables.specs.Pages.{page_in}
use Rattle.ckpt_tables.specs.Shape.{HasSpelling, page_count}
use Rattle.page_tables.specs.Bringing.{AreOlder}
use Rattle.ckpt_pages.specs.Given.{levels_given}
use Rattle.duplex_pair.specs.Halves.{pick}
use Rattle.mas_complex.specs.Crash.{Copy, copy_of}
use Rattle.mas_complex.specs.Kept.{HaveKept}
use Rattle.mas_complex.specs.Past.{HavePasts, sight_of, values_of}
use Rattle.mas_complex.proofs.Pasts.{before_unsure}
use Rattle.mas_complex.specs.CallCounts.{pair_of}
use Rattle.member_node.proofs.HeaderLemmas.{own_low}
use Rattle.member_node.proofs.MirrorLemmas.{mirror_all}
use Rattle.member_node.proofs.WantedLemmas.{own_unchanged}
use Rattle.member_node.specs.Spares.{Spares}
use Rattle.member_node.specs.declared.checkpoint.Checkpoint.{Checkpoint}
use Rattle.member_node.proofs.AlikeLemmas.{own_older, own_spell}
use Rattle.member_node.proofs.ReadLemmas.{error_later, fewer_then, lost_later_read, read_then, read_whole, room_after}
use Rattle.member_node.proofs.SpareLemmas.{spares_for, spares_then}
use Rattle.member_node.proofs.member.Member.second_read.Goals as goal

-- pages that are alike to the member's own spell tables
pub are_spelled-requires-clause-own : goal.are_spelled-requires-clause-own
are_spelled-requires-clause-own g c on =
    let some : SpellSome c.spelled.self.room = subst SpellSome (sym (c.spelled.invariant.alike on)) (own_spell c.args.self.now.checkpoint c.requires.drawn) in
    rw c.as_slice.ensures some

-- and each page that doesn't differ is that of the member's tables
pub are_spelled-requires-clause-spelling : goal.are_spelled-requires-clause-spelling
are_spelled-requires-clause-spelling g c = subst (λ (k : Checkpoint). HasSpelling k.tables) (sym c.spelled.invariant.checkpoint) c.requires.drawn.spelling

pub are_spelled-requires-clause-older : goal.are_spelled-requires-clause-older
are_spelled-requires-clause-older g c =
    let i = c.spelled.invariant in
    let s = c.args.self.now in
    let older : AreOlder s.checkpoint.tables c.spelled.self.room c.spelled.differ.pages =
    own_older s.checkpoint c.spelled.self.room c.spelled.differ.pages c.requires.drawn (i.as_many ∙ c.requires.many) (omega (arith, i.as_many, c.requires.few)) i.mirrored in
    rw c.as_slice.ensures (subst (λ (k : Checkpoint). AreOlder k.tables c.spelled.self.room c.spelled.differ.pages) (sym i.checkpoint) older)

pub read_wanted-requires-clause-mirrors : goal.read_wanted-requires-clause-mirrors
read_wanted-requires-clause-mirrors g c =
    let s = c.args.self.now in
    let m : IsMirrorBut s.differ.pages c.as_mut_slice.result.now s.checkpoint.pages = subst (λ (ps : List Page). IsMirrorBut s.differ.pages ps s.checkpoint.pages) (sym c.as_mut_slice.ensures.value) s.mirrored in
    rw c.as_slice-own.ensures m

pub read_wanted-requires-clause-low : goal.read_wanted-requires-clause-low
read_wanted-requires-clause-low g c =
    let s = c.args.self.now in
    rw (c.level-level.ensures, c.as_slice-own.ensures) (own_low c.law_of_levels.ensures.given s.checkpoint c.requires.drawn s.fresh)

-- which they are where no page was read and page 0 is the same
pub are_own-requires-clause-many : goal.are_own-requires-clause-many
are_own-requires-clause-many g c =
    let e = c.in_ok-count.ensures in
    let v = c.as_mut_slice.ensures.value in
    let after = room_after c.args.self.now.room c.as_mut_slice.result.now c.read_wanted.new.room v e.many in
    ap (length {A = Page}) c.as_slice-read.ensures ∙ ap (length {A = Page}) after ∙ e.many ∙ ap (length {A = Page}) v ∙ c.requires.many ∙ sym (ap (length {A = Page}) c.as_slice-own.ensures)

pub are_own-requires-clause-some : goal.are_own-requires-clause-some
are_own-requires-clause-some g c = omega (arith, c.requires.some, c.requires.many, ap (length {A = Page}) c.as_slice-own.ensures)

pub are_own-requires-clause-mirrors : goal.are_own-requires-clause-mirrors
are_own-requires-clause-mirrors g c none =
    let e = c.in_ok-count.ensures in
    let after = room_after c.args.self.now.room c.as_mut_slice.result.now c.read_wanted.new.room c.as_mut_slice.ensures.value e.many in
    subst (λ (ps : List Page). IsMirror ps c.as_slice-own.result.now) (sym (c.as_slice-read.ensures ∙ after)) (e.none (eqb-true c.in_ok-count.count 0 none))

pub are_spelled-requires-clause-config : goal.are_spelled-requires-clause-config
are_spelled-requires-clause-config g c told =
    let i = c.spelled.invariant in
    rw (i.base, i.journal, c.as_slice.ensures) (c.requires.config told ∙ sym i.as_many)

pub are_spelled-requires-clause-read : goal.are_spelled-requires-clause-read
are_spelled-requires-clause-read g c told = rw c.as_slice.ensures (c.spelled.invariant.whole told)

pub read_from-requires-clause-calm1 : goal.read_from-requires-clause-calm1
read_from-requires-clause-calm1 g c =
    let i = c.spelled.invariant in
    let l = c.in_ok-lose_read.ensures in
    record {
      before = l.first ∙ i.first ∙ c.requires.calm1.before;
      as_many = λ on. ap (length {A = Page}) c.as_mut_slice-room.ensures.value ∙ i.as_many ∙ c.requires.calm1.as_many (i.acts.course.alive1 (l.read.acts.course.alive1 on)) ∙ sym (ap g.C.Copying.count (l.copy1 ∙ i.copy1));
    }

pub read_from-requires-clause-calm2 : goal.read_from-requires-clause-calm2
read_from-requires-clause-calm2 g c =
    let i = c.spelled.invariant in
    let l = c.in_ok-lose_read.ensures in
    record {
      before = l.second ∙ i.second ∙ c.requires.calm2.before;
      as_many = λ on. ap (length {A = Page}) c.as_mut_slice-room.ensures.value ∙ i.as_many ∙ c.requires.calm2.as_many (i.acts.course.alive2 (l.read.acts.course.alive2 on)) ∙ sym (ap g.C.Copying.count (l.copy2 ∙ i.copy2));
    }

-- each page may differ, until it is known which do
pub invariant_of-self : goal.invariant_of-self
invariant_of-self g c =
    let s = c.args.self.now in
    record { mirrored = mirror_all _ _ _ c.all-self.ensures; unchanged = s.unchanged; ordered = s.ordered; indexed = s.indexed }

pub invariant_of-self-2-clause-mirrored : goal.invariant_of-self-2-clause-mirrored
invariant_of-self-2-clause-mirrored g c = mirror_all _ _ _ c.all-self.ensures

pub invariant_of-self-in-spelled-clause-mirrored : goal.invariant_of-self-in-spelled-clause-mirrored
invariant_of-self-in-spelled-clause-mirrored g c = mirror_all _ _ _ c.spelled.invariant.all

pub invariant_of-self-3-clause-mirrored : goal.invariant_of-self-3-clause-mirrored
invariant_of-self-3-clause-mirrored g c =
    let i = c.spelled.invariant in
    subst (λ (k : Checkpoint). IsMirrorBut c.spelled.differ.pages c.spelled.self.room k.pages) (sym i.checkpoint) i.mirrored

pub spelled-smaller : goal.spelled-smaller
spelled-smaller g c =
    let z = c.spelled.complex in
    let y = c.lose_read.new.complex in
    let w = c.read_from.new.complex in
    let course = c.in_ok-read_from.ensures.read.acts.course in
    fewer_then (copies_alive z.pair.first.alive z.pair.second.alive) y.pair.first.alive w.pair.first.alive y.pair.second.alive w.pair.second.alive course.alive1 course.alive2 c.lose_read.ensures.lost

pub spelled-init : goal.spelled-init
spelled-init g c =
    let P = g.P.Plant in
    let C = g.C.Copying in
    let x = c.args.complex.now in
    let s = c.args.self.now in
    let z = c.read_wanted.new.complex in
    let e = c.in_ok-count.ensures in
    let v = c.as_mut_slice.ensures.value in
    let room = c.read_wanted.new.room in
    let after = room_after s.room c.as_mut_slice.result.now room v e.many in
    let one = disk_now (P.view x.plant) Ckpt1 in
    let two = disk_now (P.view x.plant) Ckpt2 in
    let copies : Dev → Copy = λ d. copy_of C.rests C.holds (pick d x.pair.first x.pair.second) (pick d x.first x.second) in
    let own : (told : P.tells) (k : HaveKept (run x.base (kept_all x.journal.batches)) x.level copies (P.view x.plant))
    (n : HavePasts (page_count x.base.config) (values_of x.had) (λ d. sight_of C.reads C.behind (pick d x.pair.first x.pair.second) (pick d x.first x.second) d (P.view x.plant)))
    (w : List ℕ) → ReadsAs P.tells x.pair.first.alive (C.reads one.bytes) w → ReadsAs P.tells x.pair.second.alive (C.reads two.bytes) w → AreUnchanged (length c.as_mut_slice.result.now) c.level-level.result c.as_slice-own.result.now w
    = λ told k n w r1 r2.
    let many : page_count x.base.config ≡ length s.checkpoint.pages = ap page_count (c.requires.same_config told) ∙ sym c.requires.drawn.spelled.count in
    let rooms : page_count x.base.config ≡ length s.room = many ∙ sym c.requires.many in
    let same = own_unchanged c.law_of_levels.ensures.each P.tells told (run x.base (kept_all x.journal.batches)) k.was k.queue x.pair.first.alive x.pair.second.alive c.requires.alive (C.reads one.bytes) (C.reads two.bytes)
    (λ on. g.met.C.Copying.rests_now x.pair.first.copy k.was one (k.at Ckpt1 tt on c.requires.calm1.before)) (λ on. g.met.C.Copying.rests_now x.pair.second.copy k.was two (k.at Ckpt2 tt on c.requires.calm2.before))
    (page_count x.base.config) (values_of x.had) (λ on is read. (n Ckpt1 tt).reads on (λ unsure. absurd (before_unsure x.first c.requires.calm1.before unsure)) is read) (λ on is read. (n Ckpt2 tt).reads on (λ unsure. absurd (before_unsure x.second c.requires.calm2.before unsure)) is read)
    s.checkpoint c.requires.drawn many (rooms ∙ sym (c.requires.config told)) (omega (arith, rooms, c.requires.some)) s.fresh s.id.0 c.requires.noted w r1 r2 in
    rw (v, c.level-level.ensures, c.as_slice-own.ensures) (subst (λ (n : ℕ). AreUnchanged n (level_had s.fresh s.checkpoint.level) s.checkpoint.pages w) rooms same) in
    record {
      base = e.base;
      printed = e.printed;
      since = e.since;
      renewals = e.renewals;
      had = e.had;
      book = e.book;
      journal = e.journal;
      current = e.current;
      reserved = e.reserved;
      placed = e.placed;
      first = e.first;
      second = e.second;
      level = e.level;
      copy1 = e.copy1;
      copy2 = e.copy2;
      id = refl;
      checkpoint = refl;
      batch = refl;
      behind = refl;
      fresh = refl;
      count = λ told. c.in_ok-count.ensures.count ∙ ap (λ (l : ℕ). length (wanted l (levels_given room))) c.level-level.ensures ∙ ap (λ (ps : List Page). length (wanted (level_had s.fresh s.checkpoint.level) (levels_given ps))) (sym after);
      took = λ told. e.acts;
      alike = λ on. sym c.as_slice-read.ensures ∙ c.are_own.ensures on ∙ c.as_slice-own.ensures;
      all = c.all-self.ensures;
      mirrored = rw after (subst (λ (ps : List Page). IsMirrorBut c.read_wanted.new.differ.pages c.read_wanted.new.room ps) c.as_slice-own.ensures e.differ);
      as_many = ap (length {A = Page}) after ∙ e.many ∙ ap (length {A = Page}) v;
      some = e.read.cause;
      acts = e.read.acts;
      spares = e.read.spares;
      whole = λ told. ∥∥₁_map₂ (c.kept_pages.ensures.kept told) (c.kept_pages.ensures.noted told) (λ k n. rw (after, e.base, e.journal, e.level)
          (read_whole P.tells (run x.base (kept_all x.journal.batches)) x.level x.pair.first.alive z.pair.first.alive x.pair.second.alive z.pair.second.alive (P.view x.plant) (P.view z.plant) C.reads s.room room e.read.acts told
          k.was k.at_level k.queue (λ on. g.met.C.Copying.rests_now x.pair.first.copy k.was one (k.at Ckpt1 tt on c.requires.calm1.before)) (λ on. g.met.C.Copying.rests_now x.pair.second.copy k.was two (k.at Ckpt2 tt on c.requires.calm2.before))
          (λ w r1 r2. c.requires.page told w r1 r2) (λ w are q from to. (let z : q ≡ 0 = omega (arith, to) in subst (λ (q : ℕ). page_in room q ≡ page_of_bytes q w) (sym z) (e.header ∙ ap (λ (ps : List Page). page_in ps 0) v ∙ are 0 (omega arith) (omega arith))))
          (λ w r1 r2. e.pages told w r1 r2 (subst (ArePagesOf 0 1 w) (sym v) (c.requires.page told w r1 r2)) (own told k n w r1 r2))));
    }

pub spelled-preserved : goal.spelled-preserved
spelled-preserved g c =
    let P = g.P.Plant in
    let x = c.args.complex.now in
    let z = c.spelled.complex in
    let y = c.lose_read.new.complex in
    let w = c.read_from.new.complex in
    let i = c.spelled.invariant in
    let l = c.in_ok-lose_read.ensures in
    let e = c.in_ok-read_from.ensures in
    let v = c.as_mut_slice-room.ensures.value in
    let room = c.read_from.new.room in
    let after = room_after c.spelled.self.room c.as_mut_slice-room.result.now room v e.as_many in
    let lost : HasRead P.tells (pair_of x) (pair_of y)
    = read_then P.tells x.pair.first.alive z.pair.first.alive y.pair.first.alive x.pair.second.alive z.pair.second.alive y.pair.second.alive (P.view x.plant) (P.view z.plant) (P.view y.plant) i.acts l.read.acts in
    let spared : Spares c.args.self.now.id.0 false (P.view x.plant) (P.view y.plant)
    = spares_then c.args.self.now.id.0 false (P.view x.plant) (P.view z.plant) (P.view y.plant) i.spares (spares_for c.args.self.now.id.0 0 (P.view z.plant) (P.view y.plant) l.read.spares) in
    record {
      base = e.base ∙ l.base ∙ i.base;
      printed = e.printed ∙ l.printed ∙ i.printed;
      since = e.since ∙ l.since ∙ i.since;
      renewals = e.renewals ∙ l.renewals ∙ i.renewals;
      had = e.had ∙ l.had ∙ i.had;
      book = e.book ∙ l.book ∙ i.book;
      journal = e.journal ∙ l.journal ∙ i.journal;
      current = e.current ∙ l.current ∙ i.current;
      reserved = e.reserved ∙ l.reserved ∙ i.reserved;
      placed = e.placed ∙ l.placed ∙ i.placed;
      first = e.first ∙ l.first ∙ i.first;
      second = e.second ∙ l.second ∙ i.second;
      level = e.level ∙ l.level ∙ i.level;
      copy1 = e.copy1 ∙ l.copy1 ∙ i.copy1;
      copy2 = e.copy2 ∙ l.copy2 ∙ i.copy2;
      id = i.id;
      checkpoint = i.checkpoint;
      batch = i.batch;
      behind = i.behind;
      fresh = i.fresh;
      count = λ told. absurd (c.are_spelled.ensures.bad c.spelled-test.true told);
      took = λ told. absurd (c.are_spelled.ensures.bad c.spelled-test.true told);
      alike = λ on. absurd (cc);
      mirrored = mirror_all _ _ _ c.all-differ.ensures;
      all = i.all;
      as_many = ap (length {A = Page}) after ∙ e.as_many ∙ ap (length {A = Page}) v ∙ i.as_many;
      some = e.read.cause;
      acts = read_then P.tells x.pair.first.alive y.pair.first.alive w.pair.first.alive x.pair.second.alive y.pair.second.alive w.pair.second.alive (P.view x.plant) (P.view y.plant) (P.view w.plant) lost e.read.acts;
      spares = spares_then c.args.self.now.id.0 false (P.view x.plant) (P.view y.plant) (P.view w.plant) spared e.read.spares;
      whole = λ told. absurd (c.are_spelled.ensures.bad c.spelled-test.true told);
    }

pub returns-in_err-lose_read-clause-read : goal.returns-in_err-lose_read-clause-read
returns-in_err-lose_read-clause-read g c =
    let P = g.P.Plant in
    let x = c.args.complex.now in
    let z = c.spelled.complex in
    let y = c.lose_read.new.complex in
    let p = err_from_is_err_and c.from_residual-in_err-lose_read.result c.from_residual-in_err-lose_read.ensures.1 in
    rw (p.1, p.2) (lost_later_read ℕ P.tells c.args.self.now.id.0 x.pair.first.alive z.pair.first.alive y.pair.first.alive x.pair.second.alive z.pair.second.alive y.pair.second.alive (P.view x.plant) (P.view z.plant) (P.view y.plant)
    c.in_err-lose_read.field-0.0 c.spelled.invariant.acts c.spelled.invariant.spares c.in_err-lose_read.ensures.only c.in_err-lose_read.ensures.read)

pub returns-in_err-read_from-clause-read : goal.returns-in_err-read_from-clause-read
returns-in_err-read_from-clause-read g c =
    let P = g.P.Plant in
    let x = c.args.complex.now in
    let z = c.spelled.complex in
    let y = c.lose_read.new.complex in
    let w = c.read_from.new.complex in
    let i = c.spelled.invariant in
    let l = c.in_ok-lose_read.ensures in
    let e = c.in_err-read_from.ensures in
    let lost : HasRead P.tells (pair_of x) (pair_of y)
    = read_then P.tells x.pair.first.alive z.pair.first.alive y.pair.first.alive x.pair.second.alive z.pair.second.alive y.pair.second.alive (P.view x.plant) (P.view z.plant) (P.view y.plant) i.acts l.read.acts in
    let spared : Spares c.args.self.now.id.0 false (P.view x.plant) (P.view y.plant)
    = spares_then c.args.self.now.id.0 false (P.view x.plant) (P.view z.plant) (P.view y.plant) i.spares (spares_for c.args.self.now.id.0 0 (P.view z.plant) (P.view y.plant) l.read.spares) in
    let p = err_from_is_err_and c.from_residual-in_err-read_from.result c.from_residual-in_err-read_from.ensures.1 in
    rw (p.1, p.2) (error_later (Unit {0}) ℕ P.tells c.args.self.now.id.0 x.pair.first.alive y.pair.first.alive w.pair.first.alive x.pair.second.alive y.pair.second.alive w.pair.second.alive (P.view x.plant) (P.view y.plant) (P.view w.plant)
    c.in_err-read_from.field-0.0 lost spared e.read)

pub returns-clause-spelled : goal.returns-clause-spelled
returns-clause-spelled g c = rw c.as_slice.ensures at (c.are_spelled.ensures.good c.spelled-test.false)

pub returns-clause-rests1 : goal.returns-clause-rests1
returns-clause-rests1 g c =
    let i = c.spelled.invariant in
    record {
      before = i.first ∙ c.requires.calm1.before;
      as_many = λ on. i.as_many ∙ c.requires.calm1.as_many (i.acts.course.alive1 on) ∙ sym (ap g.C.Copying.count i.copy1);
      reads = rw c.as_slice.ensures at c.are_spelled.ensures.reads1;
    }

pub returns-clause-rests2 : goal.returns-clause-rests2
returns-clause-rests2 g c =
    let i = c.spelled.invariant in
    record {
      before = i.second ∙ c.requires.calm2.before;
      as_many = λ on. i.as_many ∙ c.requires.calm2.as_many (i.acts.course.alive2 on) ∙ sym (ap g.C.Copying.count i.copy2);
      reads = rw c.as_slice.ensures at c.are_spelled.ensures.reads2;
    }

pub returns-clause-stand : goal.returns-clause-stand
returns-clause-stand g c = rw c.as_slice.ensures at c.are_spelled.ensures.stand

pub returns-clause-acts : goal.returns-clause-acts
returns-clause-acts g c = c.spelled.invariant.took

pub returns-clause-alike : goal.returns-clause-alike
returns-clause-alike g c on = let i = c.spelled.invariant in i.alike on ∙ ap (λ (k : Checkpoint). k.pages) (sym i.checkpoint)
