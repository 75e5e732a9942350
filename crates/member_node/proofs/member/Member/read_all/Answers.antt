use Rattle.std.proofs.Common.{◌∙◌, ℕ, Bool, false, length, ap, sym, subst}
use Rattle.std.proofs.lemmas.Result.{err_from_is_err_and}
use Rattle.ckpt_pages.specs.Given.{levels_given}
use Rattle.duplex_pair.proofs.ActCounting.{one_read}
use Rattle.member_node.specs.declared.checkpoint.Checkpoint.{Checkpoint}
use Rattle.member_node.specs.Drawn.{AreDrawn}
use Rattle.member_node.specs.Wanted.{level_had, wanted}
use Rattle.member_node.proofs.ReadLemmas.{acts_both, error_later, read_then}
use Rattle.member_node.proofs.SpareLemmas.{spares_then}
use Rattle.member_node.proofs.member.Member.read_all.Goals as goal

pub second_read-requires-clause-drawn : goal.second_read-requires-clause-drawn
second_read-requires-clause-drawn g c = subst (λ (k : Checkpoint). AreDrawn k.tables k.level k.levels k.pages) (sym c.first_read.ensures.checkpoint) c.requires.drawn

pub returns-in_err-second_read-clause-read : goal.returns-in_err-second_read-clause-read
returns-in_err-second_read-clause-read g c =
    let P = g.P.Plant in
    let x = c.args.complex.now in
    let z = c.first_read.new.complex in
    let w = c.second_read.new.complex in
    let p = err_from_is_err_and c.from_residual-in_err-second_read.result c.from_residual-in_err-second_read.ensures.1 in
    rw (p.1, p.2) (error_later ℕ (Unit {0}) P.tells c.args.self.now.id.0 x.pair.first.alive z.pair.first.alive w.pair.first.alive x.pair.second.alive z.pair.second.alive w.pair.second.alive (P.view x.plant) (P.view z.plant) (P.view w.plant)
    c.in_err-second_read.field-0.0 c.in_ok-first_read.ensures.read.acts c.in_ok-first_read.ensures.read.spares (rw c.first_read.ensures.id at c.in_err-second_read.ensures.read))

pub returns-clause-read : goal.returns-clause-read
returns-clause-read g c =
    let P = g.P.Plant in
    let x = c.args.complex.now in
    let z = c.first_read.new.complex in
    let w = c.second_read.new.complex in
    record {
      acts = read_then P.tells x.pair.first.alive z.pair.first.alive w.pair.first.alive x.pair.second.alive z.pair.second.alive w.pair.second.alive (P.view x.plant) (P.view z.plant) (P.view w.plant) c.in_ok-first_read.ensures.read.acts c.in_ok-second_read.ensures.read.acts;
      cause = c.in_ok-second_read.ensures.read.cause;
      spares = spares_then c.args.self.now.id.0 false (P.view x.plant) (P.view z.plant) (P.view w.plant) c.in_ok-first_read.ensures.read.spares (rw c.first_read.ensures.id at c.in_ok-second_read.ensures.read.spares);
    }

-- page 0, and the wanted pages
pub returns-clause-acts : goal.returns-clause-acts
returns-clause-acts g c told =
    let P = g.P.Plant in
    let x = c.args.complex.now in
    let s = c.args.self.now in
    let z = c.first_read.new.complex in
    let w = c.second_read.new.complex in
    let k = c.first_read.new.self.checkpoint in
    let room = c.second_read.new.self.room in
    let one = c.in_ok-first_read.ensures in
    let two = c.in_ok-second_read.ensures in
    let page0 = one_read x.pair.first.alive z.pair.first.alive x.pair.second.alive z.pair.second.alive (P.view x.plant).now (P.view z.plant).now one.read.cause one.acts in
    let many = two.count told ∙ ap (λ (fresh : Bool). length (wanted (level_had fresh k.level) (levels_given room))) one.fresh ∙ ap (λ (k : Checkpoint). length (wanted (level_had s.fresh k.level) (levels_given room))) one.checkpoint in
    acts_both _ (length (wanted (level_had s.fresh s.checkpoint.level) (levels_given room))) x.pair.first.alive z.pair.first.alive w.pair.first.alive x.pair.second.alive z.pair.second.alive w.pair.second.alive (P.view x.plant) (P.view z.plant) (P.view w.plant)
    P.tells one.read.acts two.read.acts many page0 (two.acts told)
