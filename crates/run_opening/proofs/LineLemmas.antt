-- The lines of a script one after another.
use Rattle.std.proofs.Common.{◌≡◌, ℕ, suc, ◌+◌, ◌<◌, List, ◌∷◌, drop, drop-cons, get_or, length, sym, ◌∙◌, ap, arith}
use Rattle.script_lang.specs.declared.types.Step.{Step}

-- the line of an index, and those after it
pub line_next : (lines : List Step) (k : ℕ) (line : Step) → k < length lines → line ≡ get_or lines k line → drop k lines ≡ line ∷ drop (k + 1) lines
line_next lines k line lt is =
    let e : suc k ≡ k + 1 = omega arith in
    drop-cons lines k line lt ∙ ap (λ (s : Step). s ∷ drop (suc k) lines) (sym is) ∙ ap (λ (n : ℕ). line ∷ drop n lines) e
