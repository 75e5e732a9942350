-- Runs of entries, one entry further.
use Rattle.std.proofs.Common.{◌≡◌, ℕ, zero, suc, ◌+◌, ◌<◌, List, [], ◌∷◌, ◌++◌, length, get_or, take, refl, ap, sym, ◌∙◌, subst, arith}
use Rattle.std.specs.List.{AllByRecursion}
use Rattle.std.proofs.lemmas.List.{take_more}
use Rattle.mas_types.specs.declared.journals.Entry.{Entry}
use Rattle.mas_types.specs.declared.queues.Queue.{Queue}
use Rattle.mas_types.specs.Run.{run}
use Rattle.mas_types.specs.Step.{step}

-- what holds of all holds of the one at a place
pub at_place : {A : Type 0} (P : A → Type 0) (xs : List A) (i : ℕ) (x : A) → AllByRecursion P xs → i < length xs → x ≡ get_or xs i x → P x
at_place P [] i x all inside is = let no : ⊥ = omega arith in absurd no
at_place P (y ∷ ys) zero x all inside is = subst P (sym is) all.0
at_place P (y ∷ ys) (suc i) x all inside is = at_place P ys i x all.1 (omega arith) is

run_push : (Q : Queue) (es : List Entry) (e : Entry) → run Q (es ++ e ∷ []) ≡ (step (run Q es) e.by e.command).0
run_push Q [] e = refl
run_push Q (f ∷ es) e = run_push (step Q f.by f.command).0 es e

pub run_more : (base Q : Queue) (es : List Entry) (i : ℕ) (e : Entry) → i < length es → e ≡ get_or es i e → Q ≡ run base (take i es)
    → (step Q e.by e.command).0 ≡ run base (take (i + 1) es)
run_more base Q es i e inside is so_far =
    let more : take (i + 1) es ≡ take i es ++ e ∷ [] = take_more es i e inside ∙ ap (λ (x : Entry). take i es ++ x ∷ []) (sym is) in
    ap (λ (q : Queue). (step q e.by e.command).0) so_far ∙ sym (ap (run base) more ∙ run_push base (take i es) e)
