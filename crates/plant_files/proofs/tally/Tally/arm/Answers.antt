use Rattle.std.proofs.Common.{subst, sym, arith}
use Rattle.spool_plant.specs.Acts.{Arms}
use Rattle.plant_files.specs.FileView.{Shown, shown_of, tally_view, view_of}
use Rattle.plant_files.proofs.Counting.{armed_arms}
use Rattle.plant_files.proofs.tally.Tally.arm.Goals as goal

pub returns : goal.returns
returns c =
    subst (λ (s : Shown). Arms c.args.member.0 (tally_view c.args.self.now) (view_of s)) (sym c.count_arm.ensures.shown)
    (armed_arms (shown_of c.args.self.now) c.args.member.0 (omega (arith, c.count_arm.ensures.few, c.args.self.now.counts.arms_len)))
