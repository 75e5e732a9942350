use Rattle.std.proofs.Common.{◌≡◌, ◌∙◌, ◌*◌, ◌<◌, true, false, length, sym, bytes_eq, arith, rules}
use Rattle.lay_bytes.specs.Fields.{piece}
use Rattle.lay_bytes.proofs.RunLemmas.{run_same, run_differs, runs_over}
use Rattle.lay_bytes.proofs.runs.is_same_page.Goals as goal

pub loop-run-preserved : goal.loop-run-preserved
loop-run-preserved c =
    let a : length c.args.a.now.0 ≡ 4096 = search rules in
    let b : length c.args.b.now.0 ≡ 4096 = search rules in
    let within : c.loop-run.run < 64 = omega arith in
    let same : bytes_eq (piece (64 * c.loop-run.run) 64 c.args.a.now.0) (piece (64 * c.loop-run.run) 64 c.args.b.now.0) ≡ true =
    sym c.is_same_run.ensures ∙ c.if-not-is_same_run.false in
    run_same c.loop-run.run c.args.a.now.0 c.args.b.now.0 a b within same c.loop-run.invariant

pub returns-then-not-is_same_run : goal.returns-then-not-is_same_run
returns-then-not-is_same_run c =
    let a : length c.args.a.now.0 ≡ 4096 = search rules in
    let b : length c.args.b.now.0 ≡ 4096 = search rules in
    let within : c.loop-run.run < 64 = omega arith in
    let differ : bytes_eq (piece (64 * c.loop-run.run) 64 c.args.a.now.0) (piece (64 * c.loop-run.run) 64 c.args.b.now.0) ≡ false =
    sym c.is_same_run.ensures ∙ c.if-not-is_same_run.true in
    run_differs c.loop-run.run c.args.a.now.0 c.args.b.now.0 a b within differ c.loop-run.invariant

pub returns : goal.returns
returns c =
    let a : length c.args.a.now.0 ≡ 4096 = search rules in
    let b : length c.args.b.now.0 ≡ 4096 = search rules in
    runs_over (64 * c.loop-run.run) c.args.a.now.0 c.args.b.now.0 (omega arith) (omega arith) c.loop-run.invariant
