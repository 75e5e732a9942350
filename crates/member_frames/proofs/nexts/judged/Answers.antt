use Rattle.std.proofs.Common.{◌∙◌, ℕ, ap, sym}
use Rattle.nje_store.specs.Custody.{custody_of}
use Rattle.member_frames.specs.Nexts.{front_by}
use Rattle.member_frames.proofs.Fronts.{got_there}
use Rattle.member_frames.proofs.nexts.judged.Goals as goal

pub returns-in-Next : goal.returns-in-Next
returns-in-Next c Q told =
    let got = got_there Q c.args.line c.count_on.result.now (c.count_on.ensures Q told) in
    ap front_by (sym c.in-Next.is ∙ c.judge.ensures.custody ∙ ap (λ (k : ℕ). custody_of k c.args.number) (sym got))

pub returns-in-Again : goal.returns-in-Again
returns-in-Again c Q told =
    let got = got_there Q c.args.line c.count_on.result.now (c.count_on.ensures Q told) in
    ap front_by (sym c.in-Again.is ∙ c.judge.ensures.custody ∙ ap (λ (k : ℕ). custody_of k c.args.number) (sym got))

pub returns-in-Gap : goal.returns-in-Gap
returns-in-Gap c Q told =
    let got = got_there Q c.args.line c.count_on.result.now (c.count_on.ensures Q told) in
    ap front_by (sym c.in-Gap.is ∙ c.judge.ensures.custody ∙ ap (λ (k : ℕ). custody_of k c.args.number) (sym got))
