-- What is listed of a job with an error.
use Rattle.std.proofs.Common.{◌≡◌, ℕ, zero, suc, ◌+◌, ◌%◌, ◌^◌, ◌<◌, ◌≤◌, Bool, true, false, ◌&&◌, decimal, List, [], ◌∷◌, ◌++◌, length, Result, Ok, Err, All, refl, sym, ap, subst, ◌∙◌, arith, length-append}
use Rattle.std.specs.Prelude.{codes}
use Rattle.std.specs.List.{list_all}
use Rattle.std.proofs.lemmas.Bool.Decides.{nat_tests}
use Rattle.std.proofs.lemmas.Fmt.{decimal_by_steps, length-decimal-le}
use Rattle.std.proofs.lemmas.List.Elements.{All-nil, All-cons, All-head, All-tail}
use Rattle.std.proofs.lemmas.List.Folds.{list_all-append}
use Rattle.mas_types.specs.declared.answers.JclCause.{JclCause}
use Rattle.mas_types.specs.declared.answers.JclCause.TheVariants as jcl
use Rattle.mas_types.specs.declared.jobs.JobFields.{JobFields}
use Rattle.mas_types.specs.declared.jobs.OutSpec.{OutSpec}
use Rattle.mas_types.specs.Fit.{AreLines, is_text_byte, is_text_line}
use Rattle.mas_types.specs.Limits.{line_bytes}
use Rattle.mas_types.specs.Printed.{jcl_cause_word, jcl_error_line}
use Rattle.queue_laws.proofs.Finds.{test_cases}
use Rattle.card_reader.specs.Statements.{Item, items_from, items_of, up_to_end, ends_job, further_cards}
use Rattle.jcl_convert.specs.declared.convert_text.Converted.{Converted}
use Rattle.jcl_convert.specs.declared.convert_text.JclNo.{JclNo}
use Rattle.jcl_convert.specs.declared.convert_text.JclNo.TheVariants as no
use Rattle.jcl_convert.specs.declared.convert_text.Refused.{Refused}
use Rattle.card_reader.specs.Cards.{kind_of}
use Rattle.jcl_convert.specs.Jcl.{Refuses, at_card, card_added, converted, converted_after, converted_then, nothing_converted}
use Rattle.job_exec.specs.Listing.{listing_of}
use Rattle.job_exec.specs.Running.{AreOutputs}
use Rattle.job_outcome.specs.declared.outcomes.Outcome.TheVariants as outcome
use Rattle.job_outcome.specs.Meaning.{line_listed, outputs_run, outputs_unless}
use Rattle.job_outcome.specs.Outcomes.{converted_as, outcome_of_text}

-- THE CARD OF AN ERROR IS ONE OF THE TEXT

abbrev IsUpTo : ℕ → Item → Type 0
IsUpTo most item = item.number ≤ most

from_up_to : (most n skipped : ℕ) (cards : List (List ℕ)) → n + length cards ≤ most → All (IsUpTo most) (items_from n skipped cards)
from_up_to most n zero [] few = All-nil (IsUpTo most)
from_up_to most n (suc skipped) [] few = All-nil (IsUpTo most)
from_up_to most n (suc skipped) (card ∷ cards) few = from_up_to most (n + 1) skipped cards (omega arith)
from_up_to most n zero (card ∷ cards) few =
    All-cons (IsUpTo most) (record { number = n; card = card; behind = cards }) (items_from (n + 1) (further_cards (card ∷ cards)) cards)
    (omega arith) (from_up_to most (n + 1) (further_cards (card ∷ cards)) cards (omega arith))

end_up_to : (P : Item → Type 0) (items : List Item) → All P items → All P (up_to_end items)
end_up_to P [] each = All-nil P
end_up_to P (item ∷ items) each =
    test_cases (ends_job item) (All P (up_to_end (item ∷ items)))
    (λ e. rw e (All-cons P item [] (All-head P item items each) (All-nil P)))
    (λ e. rw e (All-cons P item (up_to_end items) (All-head P item items each) (end_up_to P items (All-tail P item items each))))

refused_up_to : (most : ℕ) (job : JobFields) (so_far : Converted) (items : List Item) (wrong : Refused) → All (IsUpTo most) items → converted_after job so_far items ≡ Err wrong → wrong.card ≤ most
refused_up_to most job so_far [] wrong each e = absurd (cc)
refused_up_to most job so_far (item ∷ items) wrong each e =
    go (λ more f. refused_up_to most job more items wrong (All-tail (IsUpTo most) item items each) f) (card_added job so_far item.card item.behind (kind_of item.card)) e
  where
    go : ((more : Converted) → converted_after job more items ≡ Err wrong → wrong.card ≤ most) → (r : Result Converted JclCause)
        → converted_then (λ more. converted_after job more items) (at_card item.number r) ≡ Err wrong → wrong.card ≤ most
    go later (Err why) e = let same : item.number ≡ wrong.card = cc in subst (λ (v : ℕ). v ≤ most) same (All-head (IsUpTo most) item items each)
    go later (Ok more) e = later more e

card_within : (job : JobFields) (text : List (List ℕ)) (wrong : Refused) → converted job text ≡ Err wrong → wrong.card ≤ 1 + length text
card_within job text wrong e =
    let most = 1 + length text in
    refused_up_to most job nothing_converted (items_of text) wrong (end_up_to (IsUpTo most) (items_from 1 0 text) (from_up_to most 1 0 text (omega arith))) e

-- THE LINE OF AN ERROR

digit_text : (d : ℕ) → d < 10 → is_text_byte (48 + d) ≡ true
digit_text d small = grind (arith, nat_tests)

decimal_text : (n : ℕ) → n < 2 ^ 64 → list_all is_text_byte (decimal n) ≡ true
decimal_text = decimal_by_steps (λ m ds. list_all is_text_byte ds ≡ true) (λ m small. one m small) (λ m ds more is. next m ds is) where
  one : (m : ℕ) → m < 10 → list_all is_text_byte ((48 + m) ∷ []) ≡ true
  one m small = rw (digit_text m small) refl

  next : (m : ℕ) (ds : List ℕ) → list_all is_text_byte ds ≡ true → list_all is_text_byte (ds ++ (48 + m % 10) ∷ []) ≡ true
  next m ds is = list_all-append is_text_byte ds ((48 + m % 10) ∷ []) ∙ ap (λ (v : Bool). v && list_all is_text_byte ((48 + m % 10) ∷ [])) is ∙ one (m % 10) (omega arith)

joined_text : (a b : List ℕ) → list_all is_text_byte a ≡ true → list_all is_text_byte b ≡ true → list_all is_text_byte (a ++ 32 ∷ b) ≡ true
joined_text a b e f = list_all-append is_text_byte a (32 ∷ b) ∙ ap (λ (v : Bool). v && list_all is_text_byte (32 ∷ b)) e ∙ f

word_text : (cause : JclCause) → list_all is_text_byte (jcl_cause_word cause) ≡ true
word_text jcl.Name = refl
word_text jcl.Operation = refl
word_text jcl.Proc = refl
word_text jcl.Pgm = refl
word_text jcl.Dsn = refl
word_text jcl.Operand = refl
word_text jcl.Stray = refl
word_text jcl.Place = refl
word_text jcl.Many = refl

word_short : (cause : JclCause) → length (jcl_cause_word cause) ≤ 9
word_short jcl.Name = omega arith
word_short jcl.Operation = omega arith
word_short jcl.Proc = omega arith
word_short jcl.Pgm = omega arith
word_short jcl.Dsn = omega arith
word_short jcl.Operand = omega arith
word_short jcl.Stray = omega arith
word_short jcl.Place = omega arith
word_short jcl.Many = omega arith

error_text : (card : ℕ) (cause : JclCause) → card < 10 ^ 10 → is_text_line (jcl_error_line card cause) ≡ true
error_text card cause small =
    joined_text (codes "JCL ERROR CARD") (decimal card ++ 32 ∷ jcl_cause_word cause) refl (joined_text (decimal card) (jcl_cause_word cause) (decimal_text card (omega arith)) (word_text cause))

error_short : (card : ℕ) (cause : JclCause) → card < 10 ^ 10 → length (jcl_error_line card cause) ≤ line_bytes
error_short card cause small =
    let front : length (codes "JCL ERROR CARD") ≡ 14 = refl in
    let all : length (codes "JCL ERROR CARD" ++ 32 ∷ (decimal card ++ 32 ∷ jcl_cause_word cause)) ≡ length (codes "JCL ERROR CARD") + length (32 ∷ (decimal card ++ 32 ∷ jcl_cause_word cause)) = length-append (codes "JCL ERROR CARD") (32 ∷ (decimal card ++ 32 ∷ jcl_cause_word cause)) in
    let behind : length (decimal card ++ 32 ∷ jcl_cause_word cause) ≡ length (decimal card) + length (32 ∷ jcl_cause_word cause) = length-append (decimal card) (32 ∷ jcl_cause_word cause) in
    let digits : length (decimal card) ≤ 10 = length-decimal-le 10 card (omega arith) small (omega arith) in
    let word : length (jcl_cause_word cause) ≤ 9 = word_short cause in
    omega arith

-- A JOB WITH AN ERROR

module _ (job : JobFields) (text : List (List ℕ)) (are : AreLines text) where
  -- the card isn't capped, since it is one of the text
  card_is : (why : JclNo) (card : ℕ) (cause : JclCause) → why ≡ no.JclError card cause → Refuses (converted job text) why → (converted job text ≡ Err (record { card = card; cause = cause })) × (card < 10 ^ 10)
  card_is (no.JclError k word) card cause e refuses =
      let same_card : k ≡ card = cc in
      let same_word : word ≡ cause = cc in
      let within : refuses.0 ≤ 1 + length text = card_within job text (record { card = refuses.0; cause = word }) refuses.1 in
      let same : refuses.0 ≡ card = omega (arith, refuses.2, within, are.few, same_card) in
      let at_card : converted job text ≡ Err (record { card = card; cause = word }) = subst (λ (v : ℕ). converted job text ≡ Err (record { card = v; cause = word })) same refuses.1 in
      (subst (λ (w : JclCause). converted job text ≡ Err (record { card = card; cause = w })) same_word at_card, omega (arith, within, are.few, same))
  card_is no.NoMemory card cause e refuses = absurd (cc)

  -- a job with an error ends with its listing, whether it is run or converted
  pub error_ends : (runs : Bool) (why : JclNo) (card : ℕ) (cause : JclCause) (line : List ℕ) (outputs : List OutSpec) → why ≡ no.JclError card cause → Refuses (converted job text) why
      → line ≡ jcl_error_line card cause → outputs ≡ listing_of job line ∷ [] → outcome.End outputs ≡ outcome_of_text runs job text
  error_ends runs why card cause line outputs is refuses said are_listed =
      ap outcome.End (are_listed ∙ ap (λ (l : List ℕ). listing_of job l ∷ []) said) ∙ sym (by_runs runs (card_is why card cause is refuses).0)
    where
      by_runs : (runs : Bool) → converted job text ≡ Err (record { card = card; cause = cause }) → outcome_of_text runs job text ≡ outcome.End (listing_of job (jcl_error_line card cause) ∷ [])
      by_runs true e = ap (λ (said : Result Converted Refused). outcome.End (outputs_unless job (line_listed job said) (outputs_run said))) e
      by_runs false e = ap (λ (said : Result Converted Refused). converted_as job (line_listed job said)) e

  pub error_fits : (why : JclNo) (card : ℕ) (cause : JclCause) (line : List ℕ) (outputs : List OutSpec) → why ≡ no.JclError card cause → Refuses (converted job text) why
      → line ≡ jcl_error_line card cause → (length line ≤ line_bytes → is_text_line line ≡ true → AreOutputs outputs) → AreOutputs outputs
  error_fits why card cause line outputs is refuses said fits =
      let small : card < 10 ^ 10 = (card_is why card cause is refuses).1 in
      fits (subst (λ (l : List ℕ). length l ≤ line_bytes) (sym said) (error_short card cause small)) (subst (λ (l : List ℕ). is_text_line l ≡ true) (sym said) (error_text card cause small))
