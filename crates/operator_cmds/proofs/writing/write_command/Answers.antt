use Rattle.std.proofs.Common.{◌≡◌, ◌∙◌, sym, ap, subst, ℕ, ◌++◌, true, false, List, take, map, get_or, Some, refl, arith, ◌==◌}
use Rattle.std.specs.List.{concat, list_all, list_any}
use Rattle.std.proofs.lemmas.Bool.{and_from, eq-eqb}
use Rattle.std.proofs.lemmas.List.{take_all}
use Rattle.std.proofs.lemmas.List.Folds.{list_all_more, list_any_at}
use Rattle.std.proofs.lemmas.Result.{err_from_is_err_and}
use Rattle.operator_cmds.specs.declared.writing.WriteNo.TheVariants.{NotTyped}
use Rattle.operator_cmds.specs.Forms.{form_text}
use Rattle.operator_cmds.specs.Spellings.{IsSpelling}
use Rattle.operator_cmds.specs.Written.{form_of, may_write, written}
use Rattle.operator_cmds.proofs.Typing.{writes, no_letter, concat_more, not_added}
use Rattle.operator_cmds.proofs.writing.write_command.Goals as goal

pub returns-clause-spelled : goal.returns-clause-spelled
returns-clause-spelled c =
    let typed = c.args.command.now in
    let e : form_of typed ≡ Some c.in-Some.form = cc in
    let all : take c.loop-letter.letter-index c.form_text-letters.result.now ≡ form_text c.in-Some.form = take_all c.loop-letter.letter-index c.form_text-letters.result.now (omega arith) ∙ c.form_text-letters.ensures in
    let may : list_all (may_write typed) (form_text c.in-Some.form) ≡ true = sym (ap (list_all (may_write typed)) all) ∙ c.loop-letter.invariant.each in
    let line : c.loop-letter.line ≡ concat (map (written typed) (form_text c.in-Some.form)) = c.loop-letter.invariant.line ∙ ap (λ (l : List ℕ). concat (map (written typed) l)) all in
    subst (IsSpelling typed) (sym line) (writes typed c.in-Some.form e may)

pub loop-letter-preserved : goal.loop-letter-preserved
loop-letter-preserved c =
    let typed = c.args.command.now in
    let letters = c.form_text-letters.result.now in
    let i = c.loop-letter.letter-index in
    let more = concat_more (written typed) letters i (omega arith) in
    let each = list_all_more (may_write typed) letters i 0 (omega arith) in
    record {
      line = c.in_ok-push_part.ensures.1 ∙ ap (λ (t : List ℕ). t ++ written typed (get_or letters i 0)) c.loop-letter.invariant.line ∙ sym more;
      each = each ∙ and_from _ _ c.loop-letter.invariant.each c.in_ok-push_part.ensures.0;
    }

pub returns-in_err-push_part-clause-not_typed : goal.returns-in_err-push_part-clause-not_typed
returns-in_err-push_part-clause-not_typed c h text s =
    let typed = c.args.command.now in
    let letters = c.form_text-letters.result.now in
    let i = c.loop-letter.letter-index in
    let out = err_from_is_err_and c.from_residual.result c.from_residual.ensures.1 in
    let was : c.in_err-push_part.field-0.0 ≡ NotTyped = cc in
    let may : may_write typed (get_or letters i 0) ≡ false = not_added c.in_err-push_part.field-0.0 (may_write typed (get_or letters i 0)) was c.in_err-push_part.ensures in
    let e : form_of typed ≡ Some c.in-Some.form = cc in
    let there : list_any (λ k. k == get_or letters i 0) letters ≡ true = list_any_at (λ k. k == get_or letters i 0) letters i 0 (omega arith) (eq-eqb _ _ refl) in
    let among : list_any (λ k. k == get_or letters i 0) (form_text c.in-Some.form) ≡ true = sym (ap (list_any (λ k. k == get_or letters i 0)) c.form_text-letters.ensures) ∙ there in
    no_letter typed c.in-Some.form (get_or letters i 0) text e among may s
