use Rattle.std.proofs.Common.{◌∙◌, ℕ, ap, sym, subst, Err, refl}
use Rattle.mas_complex.specs.Past.{IsNextOf}
use Rattle.std.proofs.Math.Logic.{∥∥₁_map, ∥∥₁_elim}
use Rattle.std.specs.Coded.{Coded-set, coded_ℕ}
use Rattle.mas_types.specs.declared.journals.Journal.{Journal}
use Rattle.mas_types.specs.declared.queues.Queue.{Queue}
use Rattle.ckpt_copy.specs.Pages.{bytes_of}
use Rattle.queue_telling.specs.Telling.{AreToldAlike}
use Rattle.mas_complex.specs.Journals.{entries_reserved, kept_all}
use Rattle.mas_complex.specs.Meaning.{StandFor, run}
use Rattle.member_node.proofs.StepLemmas.{reserved_is, write_done, write_lost, write_same, write_stopped}
use Rattle.member_node.proofs.WriteLemmas.{run_append}
use Rattle.member_node.proofs.member.Member.put.Goals as goal

pub keep_same-requires-clause-queue : goal.keep_same-requires-clause-queue
keep_same-requires-clause-queue g c told =
    let x = c.args.complex.now in
    ∥∥₁_map (rw c.in-Same.is at (c.requires.draft told)) (subst (AreToldAlike (run x.base (kept_all x.journal.batches))) (sym (run_append x.base (kept_all x.journal.batches) (entries_reserved x.reserved))))

pub commit-requires-clause-queue : goal.commit-requires-clause-queue
commit-requires-clause-queue g c told =
    let x = c.args.complex.now in
    ∥∥₁_map (rw c.in-Changed.is at (c.requires.draft told)) (λ draft.
    rw c.as_slice-pages.ensures (subst (λ (Q : Queue). StandFor Q (bytes_of c.args.self.now.checkpoint.pages)) (sym (run_append x.base (kept_all x.journal.batches) (entries_reserved x.reserved))) draft.2))

pub commit-requires-clause-level : goal.commit-requires-clause-level
commit-requires-clause-level g c told =
    ∥∥₁_elim (rw c.in-Changed.is at (c.requires.draft told)) (Coded-set coded_ℕ _ _) (λ draft. rw c.as_slice-pages.ensures draft.0)

pub returns-in-Same-clause-write : goal.returns-in-Same-clause-write
returns-in-Same-clause-write g c front place one =
    let P = g.P.Plant in
    let x = c.args.complex.now in
    let z = c.keep_same.new.self in
    let k = c.keep_same.ensures in
    let step = write_same (Unit {0}) P.tells c.args.self.now.id (entries_reserved x.reserved) front x.journal.batches z.journal.batches place one z.placed z.current x.pair.first.alive x.pair.second.alive (P.view x.plant)
    (k.fated (entries_reserved x.reserved) (reserved_is x.reserved c.requires.reserved)) k.unplaced (k.current ∙ c.requires.none) tt in
    rw (k.pair, k.plant) step

pub returns-in-Ok-clause-write : goal.returns-in-Ok-clause-write
returns-in-Ok-clause-write g c front place one =
    let P = g.P.Plant in
    let x = c.args.complex.now in
    let z = c.commit.new.complex in
    let k = c.in-Ok.ensures in
    write_done (Unit {0}) P.tells c.args.self.now.id (entries_reserved x.reserved) front x.journal.batches z.journal.batches place one z.placed z.current x.pair.first.alive x.pair.second.alive (P.view x.plant)
    z.pair.first.alive z.pair.second.alive (P.view z.plant) k.apart k.acted k.ok k.kept k.unplaced k.none tt

pub returns-in-Err-BothLost-clause-write : goal.returns-in-Err-BothLost-clause-write
returns-in-Err-BothLost-clause-write g c front place one =
    let P = g.P.Plant in
    let x = c.args.complex.now in
    let z = c.commit.new.complex in
    let k = c.in-Err-BothLost.ensures in
    write_lost (Unit {0}) P.tells c.args.self.now.id (entries_reserved x.reserved) front x.journal.batches z.journal.batches place one z.placed z.current x.pair.first.alive x.pair.second.alive (P.view x.plant)
    z.pair.first.alive z.pair.second.alive (P.view z.plant) k.apart (rw c.in-Err-BothLost.field-0-is at k.acted) (k.both (ap Err c.in-Err-BothLost.field-0-is)) (ap (λ (j : Journal). j.batches) k.journal) k.flying

pub returns-in-Err-Halted-clause-write : goal.returns-in-Err-Halted-clause-write
returns-in-Err-Halted-clause-write g c front place one =
    let P = g.P.Plant in
    let x = c.args.complex.now in
    let z = c.commit.new.complex in
    let k = c.in-Err-Halted.ensures in
    write_stopped (Unit {0}) P.tells c.args.self.now.id (entries_reserved x.reserved) front x.journal.batches z.journal.batches place one z.placed z.current x.pair.first.alive x.pair.second.alive (P.view x.plant)
    z.pair.first.alive z.pair.second.alive (P.view z.plant) k.apart (rw c.in-Err-Halted.field-0-is at k.acted) (ap (λ (j : Journal). j.batches) k.journal) k.flying

pub returns-in-Err-Halted-clause-operator : goal.returns-in-Err-Halted-clause-operator
returns-in-Err-Halted-clause-operator g c halts = (rw c.in-Err-Halted.field-0-is at c.in-Err-Halted.ensures.acted).not_operator refl

pub commit-requires-clause-leveled1 : goal.commit-requires-clause-leveled1
commit-requires-clause-leveled1 g c told on was read =
    let may = rw c.in-Changed.is at c.requires.draft1 in
    rw c.as_slice-pages.ensures (subst (λ (n : ℕ). IsNextOf n was (bytes_of c.args.self.now.checkpoint.pages)) (sym (may.as_many on) ∙ sym (c.requires.config told)) (may.leveled told on was read))

pub commit-requires-clause-leveled2 : goal.commit-requires-clause-leveled2
commit-requires-clause-leveled2 g c told on was read =
    let may = rw c.in-Changed.is at c.requires.draft2 in
    rw c.as_slice-pages.ensures (subst (λ (n : ℕ). IsNextOf n was (bytes_of c.args.self.now.checkpoint.pages)) (sym (may.as_many on) ∙ sym (c.requires.config told)) (may.leveled told on was read))
