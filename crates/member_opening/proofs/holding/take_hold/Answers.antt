use Rattle.std.proofs.Common.{◌≡◌, ◌∙◌, false, List, length, ap, subst, sym, arith}
use Rattle.std.proofs.lemmas.Result.{err_from_is_err_and}
use Rattle.mas_types.specs.declared.ids.Dev.TheVariants.{Ckpt1, Ckpt2}
use Rattle.mas_types.specs.declared.ids.Page.{Page}
use Rattle.mas_types.specs.declared.journals.Journal.{Journal}
use Rattle.spool_plant.specs.View.{disk_now}
use Rattle.mas_complex.specs.CallCounts.{pair_state}
use Rattle.mas_complex.specs.Journals.{kept_all}
use Rattle.mas_complex.specs.Parts.{parts_of}
use Rattle.mas_complex.specs.Past.{HasNoted, values_of}
use Rattle.member_steps.proofs.NoteLemmas.{keeps_error, keeps_noted, notes_same, notes_set}
use Rattle.member_steps.proofs.PageLemmas.{few_pages}
use Rattle.member_steps.proofs.ReadLemmas.{begun_read, begun_settle, between_by, between_read, level_low, low_later, low_read, pages_of_run}
use Rattle.member_steps.proofs.StepLemmas.{ok_of}
use Rattle.member_decks.proofs.HoldingLemmas.{held_by_settle, held_not}
use Rattle.member_decks.proofs.OpenLemmas.{on_ok}
use Rattle.member_opening.proofs.holding.take_hold.Goals as goal

-- THE READS

pub read_in-requires-clause-drawn : goal.read_in-requires-clause-drawn
read_in-requires-clause-drawn g c = c.requires.at_lock.drawn

pub read_in-requires-clause-some : goal.read_in-requires-clause-some
read_in-requires-clause-some g c = let a = c.requires.at_lock in omega (arith, a.many, a.drawn.spelled.count)

pub read_in-requires-clause-few : goal.read_in-requires-clause-few
read_in-requires-clause-few g c =
    let a = c.requires.at_lock in
    let most = few_pages c.args.member.now.checkpoint.tables.config a.drawn.spelling.shape.config in
    omega (arith, a.many, a.drawn.spelled.count, most)

pub read_in-requires-clause-config : goal.read_in-requires-clause-config
read_in-requires-clause-config g c told =
    let m = c.args.member.now in
    let x = c.args.complex.now in
    let a = c.requires.at_lock in
    pages_of_run x.base (kept_all x.journal.batches) m.checkpoint m.room c.requires.config a.drawn a.many

pub returns-in_err-read_in-clause-acts : goal.returns-in_err-read_in-clause-acts
returns-in_err-read_in-clause-acts g c =
    let P = g.P.Plant in
    let x = c.args.complex.now in
    let y = c.read_in.new.complex in
    let read = c.in_err-read_in.ensures.read in
    let p = err_from_is_err_and c.from_residual.result c.from_residual.ensures.1 in
    rw (p.1, p.2) (held_not P.tells c.args.member.now.id.0 (pair_state P.view (parts_of x)) (pair_state P.view (parts_of y)) _
    (begun_read P.tells c.args.member.now.id.0 _ x.pair.first.alive y.pair.first.alive x.pair.second.alive y.pair.second.alive (P.view x.plant) (P.view y.plant) read.acts read.spares) read.cause)

-- AND ROOM

pub primary-requires-clause-may : goal.primary-requires-clause-may
primary-requires-clause-may g c = rw (c.read_in.ensures.book, c.read_in.ensures.id) c.requires.may

pub primary-requires-clause-none : goal.primary-requires-clause-none
primary-requires-clause-none g c = c.read_in.ensures.current ∙ c.requires.at_lock.none

pub primary-requires-clause-rests1 : goal.primary-requires-clause-rests1
primary-requires-clause-rests1 g c = rw c.in_ok-read_in.ensures.here c.in_ok-read_in.ensures.rests1

pub primary-requires-clause-rests2 : goal.primary-requires-clause-rests2
primary-requires-clause-rests2 g c = rw c.in_ok-read_in.ensures.here c.in_ok-read_in.ensures.rests2

pub returns-clause-acts : goal.returns-clause-acts
returns-clause-acts g c =
    let P = g.P.Plant in
    let x = c.args.complex.now in
    let y = c.read_in.new.complex in
    let z = c.primary.new.complex in
    let by = c.args.member.now.id in
    let read = c.in_ok-read_in.ensures.read in
    let settle = rw c.read_in.ensures.id at c.primary.ensures.settle in
    held_by_settle P.tells by.0 (pair_state P.view (parts_of x)) (pair_state P.view (parts_of y)) (pair_state P.view (parts_of z)) c.primary.result
    (begun_settle P.tells by.0 x.pair.first.alive y.pair.first.alive z.pair.first.alive x.pair.second.alive y.pair.second.alive z.pair.second.alive (P.view x.plant) (P.view y.plant) (P.view z.plant) c.primary.result read.acts read.spares settle)
    (begun_read P.tells by.0 false x.pair.first.alive y.pair.first.alive x.pair.second.alive y.pair.second.alive (P.view x.plant) (P.view y.plant) read.acts read.spares) settle

pub returns-clause-here : goal.returns-clause-here
returns-clause-here g c = ok_of c.primary.result c.in_ok-read_in.ensures.here

pub returns-clause-between : goal.returns-clause-between
returns-clause-between g c =
    let P = g.P.Plant in
    let y = c.read_in.new.complex in
    let m = c.read_in.new.self in
    let r = c.read_in.ensures in
    let s = c.primary.ensures in
    let k = c.in_ok-read_in.ensures in
    let a = c.requires.at_lock in
    ok_of c.primary.result (between_by P.tells (parts_of y) (parts_of c.primary.new.complex) m.batch m.checkpoint s.base (ap (λ (j : Journal). j.batches) s.journal) s.current s.placed s.level
    (between_read P.tells (parts_of y) m.batch m.checkpoint c.args.member.now.checkpoint.tables.config (r.current ∙ a.none) (r.placed ∙ a.unplaced) (r.batch ∙ a.nothing) k.up
    k.told k.ordered k.same_level (λ told. rw (r.base, r.journal) (c.requires.sound told))))

pub returns-clause-rests1 : goal.returns-clause-rests1
returns-clause-rests1 g c = on_ok c.primary.result (λ rests. rw c.in_ok-read_in.ensures.here at rests) c.primary.ensures.rests1

pub returns-clause-rests2 : goal.returns-clause-rests2
returns-clause-rests2 g c = on_ok c.primary.result (λ rests. rw c.in_ok-read_in.ensures.here at rests) c.primary.ensures.rests2

pub returns-clause-room1 : goal.returns-clause-room1
returns-clause-room1 g c = c.primary.ensures.room1

pub returns-clause-room2 : goal.returns-clause-room2
returns-clause-room2 g c = c.primary.ensures.room2

pub returns-clause-many : goal.returns-clause-many
returns-clause-many g c = ok_of c.primary.result c.in_ok-read_in.ensures.many

pub returns-clause-config : goal.returns-clause-config
returns-clause-config g c = ok_of c.primary.result c.in_ok-read_in.ensures.up.may.same

pub returns-clause-order : goal.returns-clause-order
returns-clause-order g c = ok_of c.primary.result c.in_ok-read_in.ensures.up.may.low_order

pub returns-clause-low : goal.returns-clause-low
returns-clause-low g c =
    let P = g.P.Plant in
    let C = g.C.Copying in
    let x = c.args.complex.now in
    let y = c.read_in.new.complex in
    let k = c.read_in.new.self.checkpoint in
    let config = c.args.member.now.checkpoint.tables.config in
    let r = c.in_ok-read_in.ensures in
    let read = r.read in
    let many = length x.journal.batches in
    ok_of c.primary.result (low_read P.tells y.pair.first.alive y.pair.second.alive y.first y.second (C.count y.pair.first.copy) (C.count y.pair.second.copy) config many k (C.reads (disk_now (P.view y.plant) Ckpt1).bytes) (C.reads (disk_now (P.view y.plant) Ckpt2).bytes)
    read.cause r.up.drawn r.rests1 r.rests2
    (low_later P.tells x.pair.first.alive y.pair.first.alive config many (C.reads (disk_now (P.view x.plant) Ckpt1).bytes) (C.reads (disk_now (P.view y.plant) Ckpt1).bytes) read.acts.course.alive1 (λ t. ap C.reads (read.acts.bytes t Ckpt1)) c.requires.low1)
    (low_later P.tells x.pair.second.alive y.pair.second.alive config many (C.reads (disk_now (P.view x.plant) Ckpt2).bytes) (C.reads (disk_now (P.view y.plant) Ckpt2).bytes) read.acts.course.alive2 (λ t. ap C.reads (read.acts.bytes t Ckpt2)) c.requires.low2))

pub returns-clause-high : goal.returns-clause-high
returns-clause-high g c = ok_of c.primary.result (level_low c.args.member.now.checkpoint.tables.config c.read_in.new.self.checkpoint c.in_ok-read_in.ensures.up)

-- WHAT WAS NOTED

pub read_in-requires-clause-same_config : goal.read_in-requires-clause-same_config
read_in-requires-clause-same_config g c told = c.requires.config

pub read_in-requires-clause-noted : goal.read_in-requires-clause-noted
read_in-requires-clause-noted g c = c.requires.noted

pub returns-in_err-read_in-clause-notes : goal.returns-in_err-read_in-clause-notes
returns-in_err-read_in-clause-notes g c =
    let x = c.args.complex.now in
    let y = c.read_in.new.complex in
    let m = c.args.member.now in
    let p = err_from_is_err_and c.from_residual.result c.from_residual.ensures.1 in
    rw (p.1, p.2) (keeps_error g.P.Plant.tells (values_of x.had) (values_of y.had) m c.read_in.new.self _ (notes_same m.id (values_of x.had) (values_of y.had) (ap values_of c.in_err-read_in.ensures.noted_err)))

pub returns-clause-notes : goal.returns-clause-notes
returns-clause-notes g c =
    let x = c.args.complex.now in
    let y = c.read_in.new.complex in
    let z = c.primary.new.complex in
    let m = c.args.member.now in
    let n = c.read_in.new.self in
    let k = c.in_ok-read_in.ensures in
    let stays : values_of z.had ≡ values_of y.had = ap values_of c.primary.ensures.had in
    let noted : HasNoted (values_of z.had) n.id.0 n.checkpoint.pages = subst (λ (had : List (List Page)). HasNoted had n.id.0 n.checkpoint.pages) (sym stays) k.own.1 in
    keeps_noted g.P.Plant.tells (values_of x.had) (values_of z.had) m n c.primary.result noted (λ read. k.own.0) (notes_set m.id (values_of x.had) (values_of z.had) n.checkpoint.pages (stays ∙ k.noted.1))
