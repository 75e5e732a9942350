use Rattle.member_work.proofs.Names.{◌≡◌, ◌≤◌, ℕ, Option, ◌∙◌, ap, subst, option_copied, option_map_or, printer_lines_most, limit_of, Setting, tells_some}
use Rattle.member_work.proofs.PrintedLemmas.{limit_most}
use Rattle.member_work.proofs.chunks.limit_at.Goals as goal

pub returns-in-Some-clause-most : goal.returns-in-Some-clause-most
returns-in-Some-clause-most c =
    let t = c.args.tables.now in
    let s = tells_some t in
    let same : limit_of s.0 c.args.by ≡ c.in-Some.setting.now.lines = ap (λ (o : Option Setting). option_map_or (λ x. x.lines) o 0) (c.setting.ensures s.0 s.1 ∙ ap option_copied c.in-Some.is) in
    subst (λ (n : ℕ). n ≤ printer_lines_most) same (limit_most t s.0 c.args.by c.requires.spelled s.1)
