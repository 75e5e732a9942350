-- What a deck says of its job is within the limits.
use Rattle.std.proofs.Common.{◌≡◌, ℕ, ◌+◌, Bool, true, false, ◌&&◌, ◌||◌, not, nat_le, nat_eq, if◌then◌else◌, Option, Some, None, Result, Ok, Err, List, [], ◌∷◌, length, drop, refl, arith, codes}
use Rattle.std.specs.Prelude.{◌==◌, IfSome, IfOk, is_some, option_and_then, unwrap_or}
use Rattle.std.specs.List.{starts_with}
use Rattle.std.specs.Str.{bytes_eq}
use Rattle.std.proofs.lemmas.Bool.Decides.{nat_tests}
use Rattle.mas_types.specs.declared.ids.Class.{Class}
use Rattle.mas_types.specs.declared.ids.Name8.{Name8}
use Rattle.mas_types.specs.declared.ids.Prio.{Prio}
use Rattle.mas_types.specs.declared.jobs.JobFields.{JobFields}
use Rattle.mas_types.specs.Fit.{IsName, IsClass, IsPrio, IsJobFields, is_class_byte}
use Rattle.mas_types.specs.Limits.{prio_most}
use Rattle.mas_types.specs.Names.{is_name_text, padded}
use Rattle.mas_types.specs.Numerals.{is_numeral, value_of}
use Rattle.card_reader.specs.declared.cards.Kind.{Kind}
use Rattle.card_reader.specs.declared.cards.Kind.TheVariants as kind
use Rattle.card_reader.specs.declared.cards.Operation.{Operation}
use Rattle.card_reader.specs.declared.cards.Operation.TheVariants as operation
use Rattle.card_reader.specs.declared.decks.Refused.{Refused}
use Rattle.card_reader.specs.declared.decks.Seen.{Seen}
use Rattle.card_reader.specs.declared.jes.JesCard.{JesCard}
use Rattle.card_reader.specs.declared.jes.JesCard.TheVariants as jes
use Rattle.card_reader.specs.declared.jobs.JobOperands.{JobOperands}
use Rattle.card_reader.specs.Cards.{kind_of, operation_of, is_statement_name, name_of}
use Rattle.card_reader.specs.Jes.{prio_of, name8_of, is_priority, jes_of, priority_card, print_card, node_card, restart_card, card_of_two, route_card, first_word, second_word, third_word, behind_second, behind_third}
use Rattle.card_reader.specs.Jobs.{class_of, class_taken, msgclass_taken, prio_taken, typrun_taken, is_passed_over, with_key, other_keyword_taken, keyword_taken, operand_taken, operands_taken, default_operands, job_operands_of}
use Rattle.card_reader.specs.Operands.{is_keyword, is_balanced, operands_of}
use Rattle.card_reader.specs.declared.statements.Operands.{Operands}
use Rattle.card_reader.specs.Statements.{Item, items_of, operands_from, cards_to_end}
use Rattle.card_reader.specs.Decks.{Sees, refused_card, least, job_or_first, job_seen_in, read_as, nothing_seen, result_and_then, priority_seen, jes_seen, job_seen, job_statement_seen, first_statement_seen, later_statement_seen, seen_before_job, seen_in_job, seen_at, seen_after}

-- either branch of a test
some_if : {A : Type 0} → (P : A → Type 0) → (v : Bool) (a b : Option A) → IfSome a P → IfSome b P → IfSome (if v then a else b) P
some_if P true a b left right = left
some_if P false a b left right = right

some_when : {A : Type 0} → (P : A → Type 0) → (v : Bool) (x : A) → (v ≡ true → P x) → IfSome (if v then Some x else None) P
some_when P true x is = is refl
some_when P false x is = tt

ok_if : (P : Seen → Type 0) → (v : Bool) (a b : Sees) → IfOk a P → IfOk b P → IfOk (if v then a else b) P
ok_if P true a b left right = left
ok_if P false a b left right = right

and_left : (a b : Bool) → (a && b) ≡ true → a ≡ true
and_left true b e = refl
and_left false b e = absurd (cc)

and_right : (a b : Bool) → (a && b) ≡ true → b ≡ true
and_right true b e = e
and_right false b e = absurd (cc)

-- VALUES

prio_fits : (text : List ℕ) → IfSome (prio_of text) IsPrio
prio_fits text = some_when IsPrio (is_numeral text && nat_le (value_of text) prio_most) (record { 0 = value_of text })
    (λ is. let test : nat_le (value_of text) prio_most ≡ true = and_right (is_numeral text) (nat_le (value_of text) prio_most) is in grind (arith, nat_tests))

name_fits : (text : List ℕ) → IfSome (name8_of text) IsName
name_fits text = some_when IsName (is_name_text text) (record { 0 = padded text }) (λ is. (text, is, refl))

class_fits : (text : List ℕ) → IfSome (class_of text) IsClass
class_fits [] = tt
class_fits (b ∷ []) = some_when IsClass (is_class_byte b) (record { 0 = b }) (λ is. is)
class_fits (b ∷ c ∷ text) = tt

-- OPERANDS

pub record AreFit (o : JobOperands) : Type 0 where
  pub class : IsClass o.class
  pub msgclass : IsClass o.msgclass
  pub prio : IsPrio o.prio

class_taken-fits : (so_far : JobOperands) (found : Option Class) → AreFit so_far → IfSome found IsClass → IfSome (class_taken so_far found) AreFit
class_taken-fits so_far None fit is = tt
class_taken-fits so_far (Some class) fit is = record { class = is; msgclass = fit.msgclass; prio = fit.prio }

msgclass_taken-fits : (so_far : JobOperands) (found : Option Class) → AreFit so_far → IfSome found IsClass → IfSome (msgclass_taken so_far found) AreFit
msgclass_taken-fits so_far None fit is = tt
msgclass_taken-fits so_far (Some class) fit is = record { class = fit.class; msgclass = is; prio = fit.prio }

prio_taken-fits : (so_far : JobOperands) (found : Option Prio) → AreFit so_far → IfSome found IsPrio → IfSome (prio_taken so_far found) AreFit
prio_taken-fits so_far None fit is = tt
prio_taken-fits so_far (Some prio) fit is = record { class = fit.class; msgclass = fit.msgclass; prio = is }

same_fit : (so_far : JobOperands) → AreFit so_far → (held scan keyed : Bool) (positional : ℕ) → AreFit (record so_far { held = held; scan = scan; keyed = keyed; positional = positional })
same_fit so_far fit held scan keyed positional = record { class = fit.class; msgclass = fit.msgclass; prio = fit.prio }

typrun_taken-fits : (so_far : JobOperands) (value : List ℕ) → AreFit so_far → IfSome (typrun_taken so_far value) AreFit
typrun_taken-fits so_far value fit =
    some_if AreFit (bytes_eq value (codes "HOLD")) _ _ (same_fit so_far fit true so_far.scan so_far.keyed so_far.positional)
    (some_if AreFit (bytes_eq value (codes "SCAN")) _ _ (same_fit so_far fit so_far.held true so_far.keyed so_far.positional) tt)

other_keyword-fits : (so_far : JobOperands) (operand : List ℕ) → AreFit so_far → IfSome (other_keyword_taken so_far operand) AreFit
other_keyword-fits so_far operand fit =
    some_if AreFit (starts_with nat_eq operand (codes "PRTY=")) _ _ (prio_taken-fits so_far _ fit (prio_fits (drop 5 operand)))
    (some_if AreFit (starts_with nat_eq operand (codes "TYPRUN=")) _ _ (typrun_taken-fits so_far (drop 7 operand) fit)
    (some_if AreFit (is_passed_over operand) (Some so_far) None fit tt))

keyword-fits : (so_far : JobOperands) (operand : List ℕ) → AreFit so_far → IfSome (keyword_taken so_far operand) AreFit
keyword-fits so_far operand fit =
    let keyed : AreFit (with_key so_far) = same_fit so_far fit so_far.held so_far.scan true so_far.positional in
    some_if AreFit (starts_with nat_eq operand (codes "CLASS=")) _ _ (class_taken-fits (with_key so_far) _ keyed (class_fits (drop 6 operand)))
    (some_if AreFit (starts_with nat_eq operand (codes "MSGCLASS=")) _ _ (msgclass_taken-fits (with_key so_far) _ keyed (class_fits (drop 9 operand)))
    (other_keyword-fits (with_key so_far) operand keyed))

operand-fits : (so_far : JobOperands) (operand : List ℕ) → AreFit so_far → IfSome (operand_taken so_far operand) AreFit
operand-fits so_far operand fit =
    some_if AreFit (is_keyword operand) _ _ (keyword-fits so_far operand fit)
    (some_if AreFit (so_far.keyed || nat_le 2 so_far.positional) None _ tt (same_fit so_far fit so_far.held so_far.scan so_far.keyed (so_far.positional + 1)))

then_fits : (found : Option JobOperands) (next : JobOperands → Option JobOperands) → IfSome found AreFit → ((o : JobOperands) → AreFit o → IfSome (next o) AreFit) → IfSome (option_and_then next found) AreFit
then_fits None next fit more = tt
then_fits (Some o) next fit more = more o fit

operands-fit : (so_far : JobOperands) (operands : List (List ℕ)) → AreFit so_far → IfSome (operands_taken so_far operands) AreFit
operands-fit so_far [] fit = fit
operands-fit so_far (operand ∷ operands) fit = then_fits (operand_taken so_far operand) _ (operand-fits so_far operand fit) (λ o is. operands-fit o operands is)

job_operands-fit : (operands : Operands) → IfSome (job_operands_of operands) AreFit
job_operands-fit operands = some_if AreFit (operands.whole && is_balanced operands.text) _ None (operands-fit default_operands (operands_of operands.text) (record { class = refl; msgclass = refl; prio = omega arith })) tt

-- JES2 CARDS

abbrev IsFitCard : JesCard → Type 0
IsFitCard (jes.Priority prio) = IsPrio prio
IsFitCard (jes.Restart restart) = Unit {0}
IsFitCard (jes.Print dest) = IsName dest
IsFitCard (jes.Xeq node) = IsName node

priority_card-fits : (found : Option Prio) → IfSome found IsPrio → IfSome (priority_card found) IsFitCard
priority_card-fits None is = tt
priority_card-fits (Some prio) is = is

print_card-fits : (found : Option Name8) → IfSome found IsName → IfSome (print_card found) IsFitCard
print_card-fits None is = tt
print_card-fits (Some name) is = is

node_card-fits : (found : Option Name8) → IfSome found IsName → IfSome (node_card found) IsFitCard
node_card-fits None is = tt
node_card-fits (Some name) is = is

restart_card-fits : (value : List ℕ) → IfSome (restart_card value) IsFitCard
restart_card-fits value = some_if IsFitCard (bytes_eq value (codes "RESTART=Y")) _ _ tt (some_if IsFitCard (bytes_eq value (codes "RESTART=N")) _ _ tt tt)

two-fits : (first second : List ℕ) → IfSome (card_of_two first second) IsFitCard
two-fits first second = some_if IsFitCard (bytes_eq first (codes "PRIORITY")) _ _ (priority_card-fits _ (prio_fits second)) (some_if IsFitCard (bytes_eq first (codes "JOBPARM")) _ _ (restart_card-fits second) tt)

route-fits : (second third : List ℕ) → IfSome (route_card second third) IsFitCard
route-fits second third = some_if IsFitCard (bytes_eq second (codes "PRINT")) _ _ (print_card-fits _ (name_fits third)) (some_if IsFitCard (bytes_eq second (codes "XEQ")) _ _ (node_card-fits _ (name_fits third)) tt)

jes-fits : (card : List ℕ) → IfSome (jes_of card) IsFitCard
jes-fits card =
    some_if IsFitCard (length (behind_second card) == 0) _ (if not (length (behind_third card) == 0) || not (bytes_eq (first_word card) (codes "ROUTE")) then None else route_card (second_word card) (third_word card)) (two-fits (first_word card) (second_word card))
    (some_if IsFitCard (not (length (behind_third card) == 0) || not (bytes_eq (first_word card) (codes "ROUTE"))) None (route_card (second_word card) (third_word card)) tt (route-fits (second_word card) (third_word card)))

-- WHAT IS SEEN

abbrev FitsSeen : Seen → Type 0
FitsSeen seen = IfSome seen.priority IsPrio × IfSome seen.job IsJobFields

prio-of : (priority : Option Prio) (other : Prio) → IfSome priority IsPrio → IsPrio other → IsPrio (unwrap_or priority other)
prio-of None other first second = second
prio-of (Some prio) other first second = first

priority_seen-fits : (seen : Seen) (n : ℕ) (read : Option JesCard) → FitsSeen seen → IfSome read IsFitCard → IfOk (priority_seen seen n read) FitsSeen
priority_seen-fits seen n None fit is = tt
priority_seen-fits seen n (Some (jes.Priority prio)) fit is = ok_if FitsSeen (is_some seen.priority) _ _ tt (is, fit.1)
priority_seen-fits seen n (Some (jes.Restart restart)) fit is = tt
priority_seen-fits seen n (Some (jes.Print dest)) fit is = tt
priority_seen-fits seen n (Some (jes.Xeq node)) fit is = tt

jes_seen-fits : (seen : Seen) (job : JobFields) (n : ℕ) (read : Option JesCard) → FitsSeen seen → IsJobFields job → IfSome read IsFitCard → IfOk (jes_seen seen job n read) FitsSeen
jes_seen-fits seen job n None fit is read = tt
jes_seen-fits seen job n (Some (jes.Priority prio)) fit is read = tt
jes_seen-fits seen job n (Some (jes.Restart restart)) fit is read = ok_if FitsSeen seen.has_steps _ _ tt (fit.0, record { name = is.name; class = is.class; msgclass = is.msgclass; prio = is.prio; dest = is.dest; node = is.node; origin = is.origin })
jes_seen-fits seen job n (Some (jes.Print dest)) fit is read = ok_if FitsSeen seen.has_steps _ _ tt (fit.0, record { name = is.name; class = is.class; msgclass = is.msgclass; prio = is.prio; dest = read; node = is.node; origin = is.origin })
jes_seen-fits seen job n (Some (jes.Xeq node)) fit is read = ok_if FitsSeen seen.has_steps _ _ tt (fit.0, record { name = is.name; class = is.class; msgclass = is.msgclass; prio = is.prio; dest = is.dest; node = read; origin = is.origin })

module _ (own : Name8) (named : IsName own) where
  job_seen-fits : (seen : Seen) (n : ℕ) (name : Name8) (operands : Option JobOperands) → FitsSeen seen → IsName name → IfSome operands AreFit → IfOk (job_seen own seen n name operands) FitsSeen
  job_seen-fits seen n name None fit is read = tt
  job_seen-fits seen n name (Some operands) fit is read =
      (fit.0, record { name = is; class = read.class; msgclass = read.msgclass; prio = prio-of seen.priority operands.prio fit.0 read.prio; dest = (codes "LOCAL", refl, refl); node = named; origin = named })

  statement_if : (v : Bool) (item : Item) (seen : Seen) (one other : Sees) → (v ≡ true → IfOk one FitsSeen) → IfOk other FitsSeen → IfOk (if v then one else other) FitsSeen
  statement_if true item seen one other left right = left refl
  statement_if false item seen one other left right = right

  job_statement-fits : (seen : Seen) (item : Item) → FitsSeen seen → IfOk (job_statement_seen own seen item) FitsSeen
  job_statement-fits seen item fit =
      statement_if (is_statement_name (name_of item.card)) item seen _ _
      (λ is. job_seen-fits seen item.number _ (job_operands_of (operands_from (item.card ∷ item.behind))) fit (name_of item.card, and_left (is_name_text (name_of item.card)) _ is, refl) (job_operands-fit (operands_from (item.card ∷ item.behind)))) tt

  first_statement-fits : (seen : Seen) (item : Item) (op : Operation) → FitsSeen seen → IfOk (first_statement_seen own seen item op) FitsSeen
  first_statement-fits seen item operation.Job fit = job_statement-fits seen item fit
  first_statement-fits seen item operation.Exec fit = tt
  first_statement-fits seen item operation.Dd fit = tt
  first_statement-fits seen item operation.Other fit = tt

  later_statement-fits : (seen : Seen) (n : ℕ) (op : Operation) → FitsSeen seen → IfOk (later_statement_seen seen n op) FitsSeen
  later_statement-fits seen n operation.Job fit = tt
  later_statement-fits seen n operation.Exec fit = fit
  later_statement-fits seen n operation.Dd fit = fit
  later_statement-fits seen n operation.Other fit = fit

  before_job-fits : (seen : Seen) (item : Item) (k : Kind) → FitsSeen seen → IfOk (seen_before_job own seen item k) FitsSeen
  before_job-fits seen item kind.Comment fit = fit
  before_job-fits seen item kind.Null fit = tt
  before_job-fits seen item kind.Statement fit = first_statement-fits seen item (operation_of item.card) fit
  before_job-fits seen item kind.Delimiter fit = tt
  before_job-fits seen item kind.Jes fit = ok_if FitsSeen (is_priority item.card) _ _ (priority_seen-fits seen item.number (jes_of item.card) fit (jes-fits item.card)) tt
  before_job-fits seen item kind.Stray fit = tt

  in_job-fits : (seen : Seen) (job : JobFields) (n : ℕ) (card : List ℕ) (k : Kind) → FitsSeen seen → IsJobFields job → IfOk (seen_in_job seen job n card k) FitsSeen
  in_job-fits seen job n card kind.Comment fit is = fit
  in_job-fits seen job n card kind.Null fit is = fit
  in_job-fits seen job n card kind.Statement fit is = later_statement-fits seen n (operation_of card) fit
  in_job-fits seen job n card kind.Delimiter fit is = fit
  in_job-fits seen job n card kind.Jes fit is = jes_seen-fits seen job n (jes_of card) fit is (jes-fits card)
  in_job-fits seen job n card kind.Stray fit is = fit

  seen_at-fits : (seen : Seen) (job : Option JobFields) (item : Item) → FitsSeen seen → IfSome job IsJobFields → IfOk (seen_at own seen job item) FitsSeen
  seen_at-fits seen None item fit is = before_job-fits seen item (kind_of item.card) fit
  seen_at-fits seen (Some job) item fit is = in_job-fits seen job item.number item.card (kind_of item.card) fit is

  seen_then : (next : Seen → Sees) (sees : Sees) → IfOk sees FitsSeen → ((more : Seen) → FitsSeen more → IfOk (next more) FitsSeen) → IfOk (result_and_then next sees) FitsSeen
  seen_then next (Ok more) fit then_fit = then_fit more fit
  seen_then next (Err worse) fit then_fit = tt

  seen_after-fits : (seen : Seen) (items : List Item) → FitsSeen seen → IfOk (seen_after own seen items) FitsSeen
  seen_after-fits seen [] fit = fit
  seen_after-fits seen (item ∷ items) fit = seen_then _ (seen_at own seen seen.job item) (seen_at-fits seen seen.job item fit fit.1) (λ more is. seen_after-fits more items is)

-- DECKS

refused_if : (v : Bool) (one other : Refused) (fields : JobFields) (P : Type 0) → (if v then (let r : Result JobFields Refused = Err one in r) else Err other) ≡ Ok fields → P
refused_if true one other fields P e = absurd (cc)
refused_if false one other fields P e = absurd (cc)

pub least-ok : (card : Option Refused) (said : Result JobFields Refused) (fields : JobFields) → least card said ≡ Ok fields → (card ≡ None) × (said ≡ Ok fields)
least-ok None said fields e = (refl, e)
least-ok (Some card) (Ok job) fields e = absurd (cc)
least-ok (Some card) (Err other) fields e = refused_if (nat_le card.card other.card) card other fields _ e

job_found : (job : Option JobFields) (fields : JobFields) → job_or_first job ≡ Ok fields → IfSome job IsJobFields → IsJobFields fields
job_found None fields e fit = absurd (cc)
job_found (Some job) fields e fit = let same : job ≡ fields = cc in rw (← same) fit

seen_job : (sees : Sees) (fields : JobFields) → IfOk sees FitsSeen → job_seen_in sees ≡ Ok fields → IsJobFields fields
seen_job (Err worse) fields fit e = absurd (cc)
seen_job (Ok seen) fields fit e = job_found seen.job fields e fit.1

pub fields_fit : (own : Name8) (cards : List (List ℕ)) (fields : JobFields) → IsName own → read_as own cards ≡ Ok fields → IsJobFields fields
fields_fit own cards fields named e =
    let said = least-ok (refused_card 1 (cards_to_end 0 cards + 1) cards) (job_seen_in (seen_after own nothing_seen (items_of cards))) fields e in
    seen_job (seen_after own nothing_seen (items_of cards)) fields (seen_after-fits own named nothing_seen (items_of cards) (tt, tt)) said.1
