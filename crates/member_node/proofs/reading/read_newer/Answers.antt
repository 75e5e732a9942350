use Rattle.std.proofs.Common.{ℕ, Bool, sym, ap}
use Rattle.std.proofs.lemmas.Result.{err_from_is_err_and}
use Rattle.duplex_pair.proofs.ActCounting.{no_acts, one_read}
use Rattle.member_node.specs.Wanted.{one_if}
use Rattle.member_node.proofs.CourseLemmas.{no as not_both}
use Rattle.member_node.proofs.ReadLemmas.{error_as, read_none}
use Rattle.member_node.proofs.SpareLemmas.{spares_none}
use Rattle.member_node.proofs.reading.read_newer.Goals as goal

-- the page isn't newer, and no act is made
pub returns-then-not-newer-clause-count : goal.returns-then-not-newer-clause-count
returns-then-not-newer-clause-count g c = ap (λ (b : Bool). one_if b) (sym c.if-not-newer.true)

pub returns-then-not-newer-clause-read : goal.returns-then-not-newer-clause-read
returns-then-not-newer-clause-read g c =
    let P = g.P.Plant in
    let x = c.args.complex.now in
    record {
      acts = read_none P.tells x.pair.first.alive x.pair.second.alive (P.view x.plant);
      cause = c.requires.alive;
      spares = spares_none c.args.by.0 (P.view x.plant);
    }

pub returns-then-not-newer-clause-acts : goal.returns-then-not-newer-clause-acts
returns-then-not-newer-clause-acts g c =
    let x = c.args.complex.now in
    no_acts x.pair.first.alive x.pair.second.alive (g.P.Plant.view x.plant).now

pub returns-then-not-newer-clause-page : goal.returns-then-not-newer-clause-page
returns-then-not-newer-clause-page g c newer = absurd (not_both c.args.newer newer c.if-not-newer.true)

pub returns-in_err-read_one-clause-read : goal.returns-in_err-read_one-clause-read
returns-in_err-read_one-clause-read g c =
    let P = g.P.Plant in
    let x = c.args.complex.now in
    let w = c.read_one.new.complex in
    let p = err_from_is_err_and c.from_residual.result c.from_residual.ensures.1 in
    rw (p.1, p.2) (error_as (Unit {0}) ℕ P.tells c.args.by.0 x.pair.first.alive w.pair.first.alive x.pair.second.alive w.pair.second.alive (P.view x.plant) (P.view w.plant) c.in_err-read_one.field-0.0 c.in_err-read_one.ensures.read)

pub returns-in_err-read_one-clause-stays : goal.returns-in_err-read_one-clause-stays
returns-in_err-read_one-clause-stays g c old = absurd (not_both c.args.newer c.if-not-newer.false old)

-- it is newer, and was read
pub returns-clause-count : goal.returns-clause-count
returns-clause-count g c = ap (λ (b : Bool). one_if b) (sym c.if-not-newer.false)

pub returns-clause-stays : goal.returns-clause-stays
returns-clause-stays g c old = absurd (not_both c.args.newer c.if-not-newer.false old)

pub returns-clause-read : goal.returns-clause-read
returns-clause-read g c = let e = c.in_ok-read_one.ensures.read in record { acts = e.acts; cause = e.cause; spares = e.spares }

pub returns-clause-acts : goal.returns-clause-acts
returns-clause-acts g c =
    let P = g.P.Plant in
    let x = c.args.complex.now in
    let w = c.read_one.new.complex in
    let e = c.in_ok-read_one.ensures in
    one_read x.pair.first.alive w.pair.first.alive x.pair.second.alive w.pair.second.alive (P.view x.plant).now (P.view w.plant).now e.read.cause e.acts

pub returns-clause-page : goal.returns-clause-page
returns-clause-page g c newer = c.in_ok-read_one.ensures.page
