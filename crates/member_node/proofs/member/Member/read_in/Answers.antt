use Rattle.std.proofs.Common.{◌≡◌, ◌∙◌, ◌+◌, false, List, length, Some, sym, ap, subst}
use Rattle.ckpt_copy.specs.Pages.{bytes_of}
use Rattle.std.proofs.Math.Logic.{∥∥₁_elim, ∥∥₁_map}
use Rattle.std.proofs.lemmas.Result.{err_from_is_err_and}
use Rattle.std.specs.Coded.{Coded-set, coded_ℕ}
use Rattle.mas_types.specs.declared.ids.Page.{Page}
use Rattle.mas_complex.specs.Journals.{kept_all}
use Rattle.mas_complex.specs.Meaning.{run}
use Rattle.mas_complex.specs.CallCounts.{pair_of}
use Rattle.ckpt_pages.specs.Given.{levels_given}
use Rattle.ckpt_pages.proofs.DecodingLemmas.{one_value}
use Rattle.member_node.specs.declared.checkpoint.Checkpoint.{Checkpoint}
use Rattle.member_node.specs.declared.member.Member.{Member}
use Rattle.member_node.specs.Drawn.{AreDrawn}
use Rattle.member_node.specs.Spares.{Spares}
use Rattle.member_node.specs.Wanted.{level_had, wanted}
use Rattle.member_node.specs.Reads.{HasRead, AreLow, IsUpTo, MayGoOn, TookActs, copies_alive}
use Rattle.member_node.proofs.ReadLemmas.{few_orders, fewer_then, in_error, in_first, in_lost, in_memory, low_goes, low_of, read_then, same_pages, tell_up_to}
use Rattle.member_node.proofs.SpareLemmas.{spares_for, spares_then}
use Rattle.member_node.proofs.member.Member.read_in.Goals as goal

pub is_caught_up-requires-clause-drawn : goal.is_caught_up-requires-clause-drawn
is_caught_up-requires-clause-drawn g c = subst (λ (k : Checkpoint). AreDrawn k.tables k.level k.levels k.pages) (sym c.loop-complex.invariant.checkpoint) c.requires.drawn

pub read_all-requires-in-loop-complex-clause-drawn : goal.read_all-requires-in-loop-complex-clause-drawn
read_all-requires-in-loop-complex-clause-drawn g c =
    let i = c.loop-complex.invariant in
    let same : c.is_caught_up.new.self ≡ c.loop-complex.self = (c.in_ok-is_caught_up.ensures.refused c.if-not-branch.true).0 in
    subst (λ (k : Checkpoint). AreDrawn k.tables k.level k.levels k.pages) (sym (ap (λ (m : Member). m.checkpoint) same ∙ i.checkpoint)) c.requires.drawn

pub lose_read-requires-clause-untold : goal.lose_read-requires-clause-untold
lose_read-requires-clause-untold g c told =
    let P = g.P.Plant in
    let x = c.args.complex.now in
    let z = c.loop-complex.complex in
    let i = c.loop-complex.invariant in
    let s = c.args.self.now in
    let m = c.loop-complex.self in
    let t = i.spelled.0 in
    let batches = length x.journal.batches in
    let low : AreLow s.checkpoint.tables.config batches t = low_of P.tells s.checkpoint.tables.config batches x.pair.first.alive z.pair.first.alive x.pair.second.alive z.pair.second.alive (P.view x.plant) (P.view z.plant) g.C.Copying.reads m.room t
    i.acts told i.some c.is_caught_up.ensures.sized i.spelled.1 (λ on. i.rests1.reads told on) (λ on. i.rests2.reads told on) c.requires.low1 c.requires.low2 in
    ∥∥₁_elim (i.stand told) (λ a b. absurd a) (λ st.
    (c.in_ok-is_caught_up.ensures.refused c.if-not-branch.true).1 t i.spelled.1
    (subst (λ (k : Checkpoint). MayGoOn k.tables.config m.room t) (sym i.checkpoint) (low_goes s.checkpoint.tables.config batches x.level m.room t (few_orders batches x.few) c.requires.level (st.at_level ∙ i.level) low)))

pub loop-complex-preserved : goal.loop-complex-preserved
loop-complex-preserved g c =
    let P = g.P.Plant in
    let x = c.args.complex.now in
    let z = c.loop-complex.complex in
    let y = c.lose_read.new.complex in
    let w = c.read_all-in-loop-complex.new.complex in
    let i = c.loop-complex.invariant in
    let l = c.in_ok-lose_read.ensures in
    let e = c.in_ok-read_all-2.ensures in
    let same : c.is_caught_up.new.self ≡ c.loop-complex.self = (c.in_ok-is_caught_up.ensures.refused c.if-not-branch.true).0 in
    let lost : HasRead P.tells (pair_of x) (pair_of y)
    = read_then P.tells x.pair.first.alive z.pair.first.alive y.pair.first.alive x.pair.second.alive z.pair.second.alive y.pair.second.alive (P.view x.plant) (P.view z.plant) (P.view y.plant) i.acts l.read.acts in
    let spared : Spares c.args.self.now.id.0 false (P.view x.plant) (P.view y.plant)
    = spares_then c.args.self.now.id.0 false (P.view x.plant) (P.view z.plant) (P.view y.plant) i.spares (spares_for c.args.self.now.id.0 0 (P.view z.plant) (P.view y.plant) l.read.spares) in
    record {
      base = e.base ∙ l.base ∙ i.base;
      printed = e.printed ∙ l.printed ∙ i.printed;
      since = e.since ∙ l.since ∙ i.since;
      renewals = e.renewals ∙ l.renewals ∙ i.renewals;
      had = e.had ∙ l.had ∙ i.had;
      book = e.book ∙ l.book ∙ i.book;
      journal = e.journal ∙ l.journal ∙ i.journal;
      current = e.current ∙ l.current ∙ i.current;
      reserved = e.reserved ∙ l.reserved ∙ i.reserved;
      placed = e.placed ∙ l.placed ∙ i.placed;
      first = e.first ∙ l.first ∙ i.first;
      second = e.second ∙ l.second ∙ i.second;
      level = e.level ∙ l.level ∙ i.level;
      copy1 = e.copy1 ∙ l.copy1 ∙ i.copy1;
      copy2 = e.copy2 ∙ l.copy2 ∙ i.copy2;
      id = e.id ∙ ap (λ (m : Member). m.id) same ∙ i.id;
      checkpoint = e.checkpoint ∙ ap (λ (m : Member). m.checkpoint) same ∙ i.checkpoint;
      batch = e.batch ∙ ap (λ (m : Member). m.batch) same ∙ i.batch;
      behind = e.behind;
      fresh = e.fresh ∙ ap (λ (m : Member). m.fresh) same ∙ i.fresh;
      as_many = e.as_many ∙ ap (λ (m : Member). length m.room) same ∙ i.as_many;
      some = e.read.cause;
      acts = read_then P.tells x.pair.first.alive y.pair.first.alive w.pair.first.alive x.pair.second.alive y.pair.second.alive w.pair.second.alive (P.view x.plant) (P.view y.plant) (P.view w.plant) lost e.read.acts;
      spares = spares_then c.args.self.now.id.0 false (P.view x.plant) (P.view y.plant) (P.view w.plant) spared (rw (c.is_caught_up.ensures.id, i.id) at e.read.spares);
      spelled = e.spelled;
      alike = e.alike;
      took = λ told. absurd (c.lose_read.ensures.untold told);
      rests1 = e.rests1;
      rests2 = e.rests2;
      stand = e.stand;
    }

pub returns-in_err-is_caught_up-clause-read : goal.returns-in_err-is_caught_up-clause-read
returns-in_err-is_caught_up-clause-read g c =
    let P = g.P.Plant in
    let x = c.args.complex.now in
    let z = c.loop-complex.complex in
    let i = c.loop-complex.invariant in
    let p = err_from_is_err_and c.from_residual-in_err-is_caught_up.result c.from_residual-in_err-is_caught_up.ensures.1 in
    rw (p.1, p.2) (in_memory (Unit {0}) P.tells c.args.self.now.id.0 x.pair.first.alive z.pair.first.alive x.pair.second.alive z.pair.second.alive (P.view x.plant) (P.view z.plant) c.in_err-is_caught_up.field-0.0 c.in_err-is_caught_up.ensures.only i.acts i.spares i.some)

pub returns-in_err-read_all-clause-read : goal.returns-in_err-read_all-clause-read
returns-in_err-read_all-clause-read g c =
    let P = g.P.Plant in
    let x = c.args.complex.now in
    let y = c.read_all.new.complex in
    let p = err_from_is_err_and c.from_residual.result c.from_residual.ensures.1 in
    rw (p.1, p.2) (in_first P.tells c.args.self.now.id.0 x.pair.first.alive y.pair.first.alive x.pair.second.alive y.pair.second.alive (P.view x.plant) (P.view y.plant) c.in_err-read_all.field-0.0 c.in_err-read_all.ensures.read)

pub returns-in_err-lose_read-clause-read : goal.returns-in_err-lose_read-clause-read
returns-in_err-lose_read-clause-read g c =
    let P = g.P.Plant in
    let x = c.args.complex.now in
    let z = c.loop-complex.complex in
    let y = c.lose_read.new.complex in
    let p = err_from_is_err_and c.from_residual-in_err-lose_read.result c.from_residual-in_err-lose_read.ensures.1 in
    rw (p.1, p.2) (in_lost (Unit {0}) P.tells c.args.self.now.id.0 x.pair.first.alive z.pair.first.alive y.pair.first.alive x.pair.second.alive z.pair.second.alive y.pair.second.alive (P.view x.plant) (P.view z.plant) (P.view y.plant)
    c.in_err-lose_read.field-0.0 c.loop-complex.invariant.acts c.loop-complex.invariant.spares c.in_err-lose_read.ensures.only c.in_err-lose_read.ensures.read)

pub returns-in_err-read_all-2-clause-read : goal.returns-in_err-read_all-2-clause-read
returns-in_err-read_all-2-clause-read g c =
    let P = g.P.Plant in
    let x = c.args.complex.now in
    let z = c.loop-complex.complex in
    let y = c.lose_read.new.complex in
    let w = c.read_all-in-loop-complex.new.complex in
    let i = c.loop-complex.invariant in
    let l = c.in_ok-lose_read.ensures in
    let e = c.in_err-read_all-2.ensures in
    let lost : HasRead P.tells (pair_of x) (pair_of y)
    = read_then P.tells x.pair.first.alive z.pair.first.alive y.pair.first.alive x.pair.second.alive z.pair.second.alive y.pair.second.alive (P.view x.plant) (P.view z.plant) (P.view y.plant) i.acts l.read.acts in
    let spared : Spares c.args.self.now.id.0 false (P.view x.plant) (P.view y.plant)
    = spares_then c.args.self.now.id.0 false (P.view x.plant) (P.view z.plant) (P.view y.plant) i.spares (spares_for c.args.self.now.id.0 0 (P.view z.plant) (P.view y.plant) l.read.spares) in
    let p = err_from_is_err_and c.from_residual-in_err-read_all-2.result c.from_residual-in_err-read_all-2.ensures.1 in
    rw (p.1, p.2) (in_error (Unit {0}) (Unit {0}) P.tells c.args.self.now.id.0 x.pair.first.alive y.pair.first.alive w.pair.first.alive x.pair.second.alive y.pair.second.alive w.pair.second.alive (P.view x.plant) (P.view y.plant) (P.view w.plant)
    c.in_err-read_all-2.field-0.0 lost spared (rw (c.is_caught_up.ensures.id, i.id) at e.read))

pub returns-clause-many : goal.returns-clause-many
returns-clause-many g c =
    let i = c.loop-complex.invariant in
    let up = c.in_ok-is_caught_up.ensures.up c.if-not-branch.false i.behind in
    c.is_caught_up.ensures.as_many (ap (λ (k : Checkpoint). length k.pages) i.checkpoint ∙ sym c.requires.many ∙ sym i.as_many) ∙ ap (length {A = Page}) (sym up.has)

pub returns-clause-told : goal.returns-clause-told
returns-clause-told g c told =
    let z = c.loop-complex.complex in
    let m = c.loop-complex.self in
    let i = c.loop-complex.invariant in
    let up = c.in_ok-is_caught_up.ensures.up c.if-not-branch.false i.behind in
    let e = c.note_pages.ensures.frame in
    rw (ap (λ p. p.base) e, ap (λ p. p.batches) e)
    (∥∥₁_map (i.stand told) (λ st. (tell_up_to one_value same_pages (run z.base (kept_all z.journal.batches)) z.level m.checkpoint.tables.config m.room c.is_caught_up.new.self.checkpoint st up).0))

pub returns-clause-ordered : goal.returns-clause-ordered
returns-clause-ordered g c told =
    let z = c.loop-complex.complex in
    let m = c.loop-complex.self in
    let i = c.loop-complex.invariant in
    let up = c.in_ok-is_caught_up.ensures.up c.if-not-branch.false i.behind in
    ∥∥₁_map (i.stand told) (λ st. (tell_up_to one_value same_pages (run z.base (kept_all z.journal.batches)) z.level m.checkpoint.tables.config m.room c.is_caught_up.new.self.checkpoint st up).2)

pub returns-clause-same_level : goal.returns-clause-same_level
returns-clause-same_level g c told =
    let z = c.loop-complex.complex in
    let m = c.loop-complex.self in
    let i = c.loop-complex.invariant in
    let up = c.in_ok-is_caught_up.ensures.up c.if-not-branch.false i.behind in
    ap (λ p. p.level) c.note_pages.ensures.frame
    ∙ ∥∥₁_elim (i.stand told) (Coded-set coded_ℕ _ _) (λ st. (tell_up_to one_value same_pages (run z.base (kept_all z.journal.batches)) z.level m.checkpoint.tables.config m.room c.is_caught_up.new.self.checkpoint st up).1)

pub read_all-requires-in-loop-complex-clause-calm1 : goal.read_all-requires-in-loop-complex-clause-calm1
read_all-requires-in-loop-complex-clause-calm1 g c =
    let i = c.loop-complex.invariant in
    let l = c.in_ok-lose_read.ensures in
    let same : c.is_caught_up.new.self ≡ c.loop-complex.self = (c.in_ok-is_caught_up.ensures.refused c.if-not-branch.true).0 in
    record {
      before = l.first ∙ i.rests1.before;
      as_many = λ on. ap (λ (m : Member). length m.room) same ∙ i.rests1.as_many (l.read.acts.course.alive1 on) ∙ sym (ap g.C.Copying.count l.copy1);
    }

pub read_all-requires-in-loop-complex-clause-calm2 : goal.read_all-requires-in-loop-complex-clause-calm2
read_all-requires-in-loop-complex-clause-calm2 g c =
    let i = c.loop-complex.invariant in
    let l = c.in_ok-lose_read.ensures in
    let same : c.is_caught_up.new.self ≡ c.loop-complex.self = (c.in_ok-is_caught_up.ensures.refused c.if-not-branch.true).0 in
    record {
      before = l.second ∙ i.rests2.before;
      as_many = λ on. ap (λ (m : Member). length m.room) same ∙ i.rests2.as_many (l.read.acts.course.alive2 on) ∙ sym (ap g.C.Copying.count l.copy2);
    }

pub read_all-requires-in-loop-complex-clause-config : goal.read_all-requires-in-loop-complex-clause-config
read_all-requires-in-loop-complex-clause-config g c told =
    let i = c.loop-complex.invariant in
    let l = c.in_ok-lose_read.ensures in
    let same : c.is_caught_up.new.self ≡ c.loop-complex.self = (c.in_ok-is_caught_up.ensures.refused c.if-not-branch.true).0 in
    rw (l.base ∙ i.base, l.journal ∙ i.journal) (c.requires.config told ∙ sym i.as_many ∙ sym (ap (λ (m : Member). length m.room) same))

pub loop-complex-smaller : goal.loop-complex-smaller
loop-complex-smaller g c =
    let z = c.loop-complex.complex in
    let y = c.lose_read.new.complex in
    let w = c.read_all-in-loop-complex.new.complex in
    let course = c.in_ok-read_all-2.ensures.read.acts.course in
    fewer_then (copies_alive z.pair.first.alive z.pair.second.alive) y.pair.first.alive w.pair.first.alive y.pair.second.alive w.pair.second.alive course.alive1 course.alive2 c.lose_read.ensures.lost

-- the pages that it brought its tables up to are those that each copy reads
pub note_pages-requires-clause-reads1 : goal.note_pages-requires-clause-reads1
note_pages-requires-clause-reads1 g c told on =
    let i = c.loop-complex.invariant in
    let up = c.in_ok-is_caught_up.ensures.up c.if-not-branch.false i.behind in
    i.rests1.reads told on ∙ ap (λ (pages : List Page). Some (bytes_of pages)) (sym up.has)

pub note_pages-requires-clause-reads2 : goal.note_pages-requires-clause-reads2
note_pages-requires-clause-reads2 g c told on =
    let i = c.loop-complex.invariant in
    let up = c.in_ok-is_caught_up.ensures.up c.if-not-branch.false i.behind in
    i.rests2.reads told on ∙ ap (λ (pages : List Page). Some (bytes_of pages)) (sym up.has)

pub read_all-requires-in-loop-complex-clause-same_config : goal.read_all-requires-in-loop-complex-clause-same_config
read_all-requires-in-loop-complex-clause-same_config g c told =
    let i = c.loop-complex.invariant in
    let same : c.is_caught_up.new.self ≡ c.loop-complex.self = (c.in_ok-is_caught_up.ensures.refused c.if-not-branch.true).0 in
    rw (c.in_ok-lose_read.ensures.base ∙ i.base, ap (λ (m : Member). m.checkpoint) same ∙ i.checkpoint) (c.requires.same_config told)

pub read_all-requires-in-loop-complex-clause-noted : goal.read_all-requires-in-loop-complex-clause-noted
read_all-requires-in-loop-complex-clause-noted g c told read =
    let i = c.loop-complex.invariant in
    let same : c.is_caught_up.new.self ≡ c.loop-complex.self = (c.in_ok-is_caught_up.ensures.refused c.if-not-branch.true).0 in
    rw (c.in_ok-lose_read.ensures.had ∙ i.had, ap (λ (m : Member). m.id) same ∙ i.id, ap (λ (m : Member). m.checkpoint) same ∙ i.checkpoint) (c.requires.noted told (sym (ap (λ (m : Member). m.fresh) same ∙ i.fresh) ∙ read))

pub returns-clause-up : goal.returns-clause-up
returns-clause-up g c =
    let i = c.loop-complex.invariant in
    let up = c.in_ok-is_caught_up.ensures.up c.if-not-branch.false i.behind in
    subst (λ (pages : List Page). IsUpTo c.args.self.now.checkpoint.tables.config pages c.is_caught_up.new.self.checkpoint) (sym up.has)
    (subst (λ (k : Checkpoint). IsUpTo k.tables.config c.loop-complex.self.room c.is_caught_up.new.self.checkpoint) i.checkpoint up)

pub returns-clause-read : goal.returns-clause-read
returns-clause-read g c =
    let i = c.loop-complex.invariant in
    let e = c.note_pages.ensures.frame in
    rw (ap (λ p. p.first_alive) e, ap (λ p. p.second_alive) e, ap (λ p. p.plant) e) (record { acts = i.acts; cause = i.some; spares = i.spares })

pub returns-clause-acts : goal.returns-clause-acts
returns-clause-acts g c told =
    let P = g.P.Plant in
    let x = c.args.complex.now in
    let s = c.args.self.now in
    let z = c.loop-complex.complex in
    let i = c.loop-complex.invariant in
    let up = c.in_ok-is_caught_up.ensures.up c.if-not-branch.false i.behind in
    let e = c.note_pages.ensures.frame in
    rw (ap (λ p. p.first_alive) e, ap (λ p. p.second_alive) e, ap (λ p. p.plant) e)
    (subst (λ (pages : List Page). TookActs (1 + length (wanted (level_had s.fresh s.checkpoint.level) (levels_given pages))) (pair_of x) (pair_of z)) (sym up.has) (i.took told))

pub returns-clause-own : goal.returns-clause-own
returns-clause-own g c = (c.in_ok-is_caught_up.ensures.fresh c.if-not-branch.false c.loop-complex.invariant.behind, c.note_pages.ensures.noted)
