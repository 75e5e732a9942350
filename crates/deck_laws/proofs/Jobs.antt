-- A deck's job by its grammar, both ways.
use Rattle.std.proofs.Common.{◌≡◌, ◌∙◌, sym, ap, subst, ℕ, ◌+◌, Bool, true, false, if◌then◌else◌, Option, Some, None, Result, Ok, Err, List, ◌∷◌, refl, arith}
use Rattle.mas_types.specs.declared.answers.CardCause.TheVariants as cause
use Rattle.mas_types.specs.declared.ids.Name8.{Name8}
use Rattle.mas_types.specs.declared.jobs.JobFields.{JobFields}
use Rattle.mas_types.specs.Names.{padded}
use Rattle.card_reader.specs.declared.decks.Refused.{Refused}
use Rattle.card_reader.specs.declared.jobs.JobOperands.{JobOperands}
use Rattle.card_reader.specs.Cards.{name_of, is_statement_name}
use Rattle.card_reader.specs.Jobs.{job_operands_of}
use Rattle.card_reader.specs.Statements.{items_of, operands_from, cards_to_end}
use Rattle.card_reader.specs.Decks.{Sees, bad, refused, refused_card, least, job_or_first, job_seen_in, job_seen, job_statement_seen, result_and_then, seen_after, nothing_seen, read_as}
use Rattle.card_reader.proofs.Fields.{least-ok}
use Rattle.card_reader.proofs.Fronts.{if_yes}
use Rattle.deck_laws.specs.Grammar.{Opening, opening_of, may_follow, with_items, fields_of, AreCards, IsJob}
use Rattle.deck_laws.proofs.Known.{before_job, in_job, Known, behind_known, Opens, front_known, cards_known, none_refused}

-- CARDS

pub are_cards : (cards : List (List ℕ)) → refused_card 1 (cards_to_end 0 cards + 1) cards ≡ None → AreCards cards
are_cards cards e =
    let are = cards_known 1 (cards_to_end 0 cards + 1) cards (omega arith) (omega arith) e in
    record { each = are.each; few = omega (arith, are.few); ended = omega (arith, are.ended) }

pub not_refused : (cards : List (List ℕ)) → AreCards cards → refused_card 1 (cards_to_end 0 cards + 1) cards ≡ None
not_refused cards are = none_refused 1 (cards_to_end 0 cards + 1) cards (record { each = are.each; few = omega (arith, are.few); ended = omega (arith, are.ended) })

-- FROM WHAT IS READ

ok_same : (a b : JobFields) (r : Result JobFields Refused) → r ≡ Ok a → r ≡ Ok b → b ≡ a
ok_same a b r one other = cc

err_not : (x : Refused) (b : JobFields) (r : Result JobFields Refused) (P : Type 0) → r ≡ Err x → r ≡ Ok b → P
err_not x b r P one other = absurd (cc)

module _ (own : Name8) (cards : List (List ℕ)) (fields : JobFields) where
  followed : (opening : Opening) (job : JobFields) (b : Bool) (sees : Sees) → may_follow false opening.behind ≡ b → Known b sees opening.priority (with_items job opening.behind) → job_seen_in sees ≡ Ok fields → (may_follow false opening.behind ≡ true) × (fields ≡ with_items job opening.behind)
  followed opening job true sees is known e = (is, ok_same (with_items job opening.behind) fields (job_seen_in sees) (ap job_seen_in known.1) e)
  followed opening job false sees is known e = err_not known.0 fields (job_seen_in sees) ((may_follow false opening.behind ≡ true) × (fields ≡ with_items job opening.behind)) (ap job_seen_in known.1) e

  stated : (opening : Opening) (v : Bool) (found : Option JobOperands) → opening_of None (items_of cards) ≡ Some opening → is_statement_name (name_of opening.statement.card) ≡ v → job_operands_of (operands_from (opening.statement.card ∷ opening.statement.behind)) ≡ found → job_seen_in (result_and_then (λ more. seen_after own more opening.behind) (if v then job_seen own (before_job opening.priority) opening.statement.number (record { 0 = padded (name_of opening.statement.card) }) found else refused opening.statement.number cause.Name)) ≡ Ok fields → IsJob own cards fields
  stated opening false found opens is read e = err_not (bad opening.statement.number cause.Name) fields (Err (bad opening.statement.number cause.Name)) (IsJob own cards fields) refl e
  stated opening true None opens is read e = err_not (bad opening.statement.number cause.Operand) fields (Err (bad opening.statement.number cause.Operand)) (IsJob own cards fields) refl e
  stated opening true (Some operands) opens is read e =
      let known = followed opening (fields_of own opening operands) (may_follow false opening.behind) (seen_after own (in_job opening.priority (fields_of own opening operands) false) opening.behind) refl (behind_known own opening.priority opening.behind (fields_of own opening operands) false) e in
      record { opening = opening; operands = operands; opens = opens; named = is; read = read; follow = known.0; says = known.1 }

  no_job : (sees : Sees) → Opens own None sees → job_seen_in sees ≡ Ok fields → IsJob own cards fields
  no_job (Ok seen) none e = err_not (bad 1 cause.First) fields (job_or_first seen.job) (IsJob own cards fields) (ap job_or_first none) e
  no_job (Err worse) none e = err_not worse fields (Err worse) (IsJob own cards fields) refl e

  opened_as : (found : Option Opening) (sees : Sees) → opening_of None (items_of cards) ≡ found → Opens own found sees → job_seen_in sees ≡ Ok fields → IsJob own cards fields
  opened_as None sees opens known e = no_job sees known e
  opened_as (Some opening) sees opens known e =
      stated opening (is_statement_name (name_of opening.statement.card)) (job_operands_of (operands_from (opening.statement.card ∷ opening.statement.behind))) opens refl refl (sym (ap job_seen_in known) ∙ e)

  pub job_read : read_as own cards ≡ Ok fields → AreCards cards × IsJob own cards fields
  job_read e =
      let said = least-ok (refused_card 1 (cards_to_end 0 cards + 1) cards) (job_seen_in (seen_after own nothing_seen (items_of cards))) fields e in
      (are_cards cards said.0, opened_as (opening_of None (items_of cards)) (seen_after own nothing_seen (items_of cards)) refl (front_known own (items_of cards) None) said.1)

  -- TO WHAT IS READ

  opens_as : (found : Option Opening) (opening : Opening) (sees : Sees) → found ≡ Some opening → Opens own found sees → sees ≡ result_and_then (λ more. seen_after own more opening.behind) (job_statement_seen own (before_job opening.priority) opening.statement)
  opens_as found opening sees is known = let P : Option Opening → Type 0 = λ o. Opens own o sees in subst P is known

  known_true : (b : Bool) (sees : Sees) (opening : Opening) (job : JobFields) → b ≡ true → Known b sees opening.priority job → job_seen_in sees ≡ Ok job
  known_true true sees opening job is known = ap job_seen_in known.1
  known_true false sees opening job is known = absurd (cc)

  pub job_reads : AreCards cards → IsJob own cards fields → read_as own cards ≡ Ok fields
  job_reads are job =
      let opening = job.opening in
      let first = opens_as (opening_of None (items_of cards)) opening (seen_after own nothing_seen (items_of cards)) job.opens (front_known own (items_of cards) None) in
      let named : job_statement_seen own (before_job opening.priority) opening.statement ≡ job_seen own (before_job opening.priority) opening.statement.number (record { 0 = padded (name_of opening.statement.card) }) (job_operands_of (operands_from (opening.statement.card ∷ opening.statement.behind))) = if_yes (is_statement_name (name_of opening.statement.card)) _ _ job.named in
      let read : job_seen own (before_job opening.priority) opening.statement.number (record { 0 = padded (name_of opening.statement.card) }) (job_operands_of (operands_from (opening.statement.card ∷ opening.statement.behind))) ≡ Ok (in_job opening.priority (fields_of own opening job.operands) false) = ap (job_seen own (before_job opening.priority) opening.statement.number (record { 0 = padded (name_of opening.statement.card) })) job.read in
      let whole : seen_after own nothing_seen (items_of cards) ≡ seen_after own (in_job opening.priority (fields_of own opening job.operands) false) opening.behind = first ∙ ap (result_and_then (λ more. seen_after own more opening.behind)) (named ∙ read) in
      let told : job_seen_in (seen_after own (in_job opening.priority (fields_of own opening job.operands) false) opening.behind) ≡ Ok (with_items (fields_of own opening job.operands) opening.behind) = known_true (may_follow false opening.behind) (seen_after own (in_job opening.priority (fields_of own opening job.operands) false) opening.behind) opening (with_items (fields_of own opening job.operands) opening.behind) job.follow (behind_known own opening.priority opening.behind (fields_of own opening job.operands) false) in
      let said : job_seen_in (seen_after own nothing_seen (items_of cards)) ≡ Ok fields = ap job_seen_in whole ∙ told ∙ ap (λ (f : JobFields). let r : Result JobFields Refused = Ok f in r) (sym job.says) in
      ap (λ (card : Option Refused). least card (job_seen_in (seen_after own nothing_seen (items_of cards)))) (not_refused cards are) ∙ said
