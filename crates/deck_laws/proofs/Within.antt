-- The steps of a text within the limits are within those of a job.
use Rattle.std.proofs.Common.{◌≡◌, ℕ, zero, suc, ◌+◌, ◌-◌, ◌≤◌, Bool, true, false, nat_le, nat_eq, ◌&&◌, if◌then◌else◌, Option, Some, None, Result, Ok, Err, List, [], ◌∷◌, length, take, drop, refl, arith, codes}
use Rattle.std.specs.Prelude.{All, IfSome, IfOk, option_and_then, ◌==◌, slice_index}
use Rattle.std.specs.List.{starts_with, list_any}
use Rattle.std.specs.Str.{bytes_eq}
use Rattle.std.proofs.lemmas.Bool.Decides.{nat_tests}
use Rattle.std.proofs.lemmas.List.{length-take, length-drop}
use Rattle.std.proofs.lemmas.List.Elements.{All-nil, All-cons, All-head, All-tail, All-append, All-take, All-drop}
use Rattle.mas_types.specs.declared.answers.JclCause.{JclCause}
use Rattle.mas_types.specs.declared.ids.Class.{Class}
use Rattle.mas_types.specs.declared.ids.Name8.{Name8}
use Rattle.mas_types.specs.declared.jobs.JobFields.{JobFields}
use Rattle.mas_types.specs.Fit.{IsName, IsClass, IsJobFields, AreLines, is_class_byte, is_text_line}
use Rattle.mas_types.specs.Limits.{line_bytes}
use Rattle.mas_types.specs.Names.{is_name_text, padded}
use Rattle.mas_types.specs.Numerals.{is_numeral, value_of}
use Rattle.card_reader.specs.declared.cards.Kind.{Kind}
use Rattle.card_reader.specs.declared.cards.Kind.TheVariants as kind
use Rattle.card_reader.specs.declared.cards.Operation.{Operation}
use Rattle.card_reader.specs.declared.cards.Operation.TheVariants as operation
use Rattle.card_reader.specs.declared.statements.Operands.{Operands}
use Rattle.card_reader.specs.Cards.{kind_of, operation_of, name_of, is_statement_name}
use Rattle.card_reader.specs.Jes.{name8_of}
use Rattle.card_reader.specs.Operands.{first_operand, operands_of}
use Rattle.card_reader.specs.Statements.{Item, items_of, items_from, up_to_end, ends_job, further_cards, operands_from, statement_data}
use Rattle.jcl_convert.specs.declared.steps.Dd.{Dd}
use Rattle.jcl_convert.specs.declared.steps.Program.{Program}
use Rattle.jcl_convert.specs.declared.steps.Step.{Step}
use Rattle.jcl_convert.specs.Steps.{IsDd, IsDdKind, IsStep, AreSteps}
use Rattle.jcl_convert.specs.declared.dds.DdForm.{DdForm}
use Rattle.jcl_convert.specs.declared.dds.DdForm.TheVariants as form
use Rattle.jcl_convert.specs.declared.dds.SysoutForm.{SysoutForm}
use Rattle.jcl_convert.specs.declared.statements.Line.{Line}
use Rattle.jcl_convert.specs.declared.statements.Line.TheVariants as line
use Rattle.jcl_convert.specs.Dds.{is_passed_over, sysout_class, with_class, is_with_forms, sysout_taken, copies_of, with_dest, with_copies, with_hold, other_operand_taken, dd_operand_taken, dd_operands_taken, no_sysout, std, with_sysout, sysout_of, begins_data, form_of, form_or, dd_of}
use Rattle.jcl_convert.specs.Execs.{names_data_set, are_whole, exec_of}
use Rattle.jcl_convert.specs.Jcl.{exec_line, dd_name_of, dd_line, has_bad_name, line_by, line_of, data_of, kind_with}
use Rattle.deck_laws.specs.Steps.{Statement, statement_if, statement_on, joined, statements_on, leading_by, leading_dds, steps_by, steps_of, IsText}

some_if : {A : Type 0} → (P : A → Type 0) → (v : Bool) (a b : Option A) → IfSome a P → IfSome b P → IfSome (if v then a else b) P
some_if P true a b left right = left
some_if P false a b left right = right

some_when : {A : Type 0} → (P : A → Type 0) → (v : Bool) (x : A) → (v ≡ true → P x) → IfSome (if v then Some x else None) P
some_when P true x is = is refl
some_when P false x is = tt

ok_if : {A E : Type 0} → (P : A → Type 0) → (v : Bool) (a b : Result A E) → IfOk a P → IfOk b P → IfOk (if v then a else b) P
ok_if P true a b left right = left
ok_if P false a b left right = right

and_right : (a b : Bool) → (a && b) ≡ true → b ≡ true
and_right true b e = e
and_right false b e = absurd (cc)

name_fits : (text : List ℕ) → IfSome (name8_of text) IsName
name_fits text = some_when IsName (is_name_text text) (record { 0 = padded text }) (λ is. (text, is, refl))

-- SYSOUT

pub record IsSysout (so : SysoutForm) : Type 0 where
  pub class : IsClass so.class
  pub dest : IsName so.dest
  pub forms : IsName so.forms
  pub copies : 1 ≤ so.copies

abbrev IsFitForm : DdForm → Type 0
IsFitForm form.InStream = Unit {0}
IsFitForm form.Dummy = Unit {0}
IsFitForm (form.Sysout so) = IsSysout so

std-fits : IsName std
std-fits = (83 ∷ 84 ∷ 68 ∷ [], refl, refl)

with_class-fits : (so : SysoutForm) (class : Option Class) (forms : Option Name8) → IsSysout so → IfSome class IsClass → IfSome forms IsName → IfSome (with_class so class forms) IsSysout
with_class-fits so None forms fit is named = tt
with_class-fits so (Some class) None fit is named = tt
with_class-fits so (Some class) (Some forms) fit is named = record { class = is; dest = fit.dest; forms = named; copies = fit.copies }

copies-fit : (value : List ℕ) → IfSome (copies_of value) (λ n. 1 ≤ n)
copies-fit value = some_when (λ (n : ℕ). 1 ≤ n) (is_numeral value && nat_le (value_of value) 255 && nat_le 1 (value_of value)) (value_of value)
    (λ is. let test : nat_le 1 (value_of value) ≡ true = and_right (is_numeral value && nat_le (value_of value) 255) (nat_le 1 (value_of value)) is in grind (arith, nat_tests))

with_dest-fits : (so : SysoutForm) (dest : Option Name8) → IsSysout so → IfSome dest IsName → IfSome (with_dest so dest) IsSysout
with_dest-fits so None fit is = tt
with_dest-fits so (Some dest) fit is = record { class = fit.class; dest = is; forms = fit.forms; copies = fit.copies }

with_copies-fits : (so : SysoutForm) (copies : Option ℕ) → IsSysout so → IfSome copies (λ n. 1 ≤ n) → IfSome (with_copies so copies) IsSysout
with_copies-fits so None fit is = tt
with_copies-fits so (Some copies) fit is = record { class = fit.class; dest = fit.dest; forms = fit.forms; copies = is }

with_hold-fits : (so : SysoutForm) (held : Option Bool) → IsSysout so → IfSome (with_hold so held) IsSysout
with_hold-fits so None fit = tt
with_hold-fits so (Some held) fit = record { class = fit.class; dest = fit.dest; forms = fit.forms; copies = fit.copies }

module _ (job : JobFields) (fits : IsJobFields job) where
  class-fits : (b : ℕ) → IfSome (sysout_class job b) IsClass
  class-fits b = some_if IsClass (b == 42) _ _ fits.msgclass (some_when IsClass (is_class_byte b) (record { 0 = b }) (λ is. is))

  sysout-fits : (so : SysoutForm) (value : List ℕ) → IsSysout so → IfSome (sysout_taken job so value) IsSysout
  sysout-fits so value fit =
      some_if IsSysout (length value == 1) _ _ (with_class-fits so _ _ fit (class-fits (slice_index value 0)) std-fits)
      (some_if IsSysout (is_with_forms value) _ _ (with_class-fits so _ _ fit (class-fits (slice_index value 1)) (name_fits (drop 4 (take (length value - 1) value)))) tt)

  other-fits : (so : SysoutForm) (operand : List ℕ) → IsSysout so → IfSome (other_operand_taken so operand) IsSysout
  other-fits so operand fit =
      some_if IsSysout (starts_with nat_eq operand (codes "COPIES=")) _ _ (with_copies-fits so _ fit (copies-fit (drop 7 operand)))
      (some_if IsSysout (starts_with nat_eq operand (codes "HOLD=")) _ _ (with_hold-fits so _ fit)
      (some_if IsSysout (is_passed_over operand) (Some so) None fit tt))

  operand-fits : (so : SysoutForm) (operand : List ℕ) → IsSysout so → IfSome (dd_operand_taken job so operand) IsSysout
  operand-fits so operand fit =
      some_if IsSysout (starts_with nat_eq operand (codes "SYSOUT=")) _ _ (sysout-fits so (drop 7 operand) fit)
      (some_if IsSysout (starts_with nat_eq operand (codes "DEST=")) _ _ (with_dest-fits so _ fit (name_fits (drop 5 operand))) (other-fits so operand fit))

  then_fits : (found : Option SysoutForm) (next : SysoutForm → Option SysoutForm) → IfSome found IsSysout → ((so : SysoutForm) → IsSysout so → IfSome (next so) IsSysout) → IfSome (option_and_then next found) IsSysout
  then_fits None next fit more = tt
  then_fits (Some so) next fit more = more so fit

  operands-fit : (so : SysoutForm) (operands : List (List ℕ)) → IsSysout so → IfSome (dd_operands_taken job so operands) IsSysout
  operands-fit so [] fit = fit
  operands-fit so (operand ∷ operands) fit = then_fits (dd_operand_taken job so operand) _ (operand-fits so operand fit) (λ more is. operands-fit more operands is)

  with_sysout-fits : (found : Option SysoutForm) → IfSome found IsSysout → IfSome (with_sysout found) IsFitForm
  with_sysout-fits None fit = tt
  with_sysout-fits (Some so) fit = some_when IsFitForm so.is_given (form.Sysout so) (λ is. fit)

  sysout_of-fits : (field : List ℕ) → IfSome (sysout_of job field) IsFitForm
  sysout_of-fits field =
      with_sysout-fits _ (operands-fit (no_sysout job) (operands_of field) (record { class = fits.msgclass; dest = fits.dest; forms = std-fits; copies = omega arith }))

  form-fits : (field : List ℕ) → IfSome (form_of job field) IsFitForm
  form-fits field =
      some_if IsFitForm (begins_data (first_operand field)) _ _ (some_when IsFitForm _ form.InStream (λ is. tt))
      (some_if IsFitForm (bytes_eq (first_operand field) (codes "DUMMY")) _ _ (some_when IsFitForm _ form.Dummy (λ is. tt)) (sysout_of-fits field))

  or-fits : (why : JclCause) (found : Option DdForm) → IfSome found IsFitForm → IfOk (form_or why found) IsFitForm
  or-fits why None fit = tt
  or-fits why (Some is) fit = fit

  dd-fits : (operands : Operands) → IfOk (dd_of job operands) IsFitForm
  dd-fits operands =
      ok_if IsFitForm (list_any names_data_set (operands_of operands.text)) _ _ tt
      (ok_if IsFitForm (are_whole operands) _ _ (or-fits _ (form_of job operands.text) (form-fits operands.text)) tt)

  -- STATEMENTS

  abbrev IsFitLine : Line → Type 0
  IsFitLine line.Job = Unit {0}
  IsFitLine (line.Exec program) = Unit {0}
  IsFitLine (line.Dd name is) = IsName name × IsFitForm is

  exec_line-fits : (said : Result Program JclCause) → IfOk (exec_line said) IsFitLine
  exec_line-fits (Err why) = tt
  exec_line-fits (Ok program) = tt

  dd_line-fits : (name : Option Name8) (said : Result DdForm JclCause) → IfSome name IsName → IfOk said IsFitForm → IfOk (dd_line name said) IsFitLine
  dd_line-fits None said named fit = tt
  dd_line-fits (Some name) (Err why) named fit = tt
  dd_line-fits (Some name) (Ok is) named fit = (named, fit)

  line_by-fits : (o : Operation) (name : List ℕ) (operands : Operands) → IfOk (line_by job o name operands) IsFitLine
  line_by-fits operation.Job name operands = tt
  line_by-fits operation.Exec name operands = ok_if IsFitLine (has_bad_name name) _ _ tt (exec_line-fits (exec_of operands))
  line_by-fits operation.Dd name operands = dd_line-fits (dd_name_of name) (dd_of job operands) (some_if IsName (is_statement_name name) _ _ (name_fits name) tt) (dd-fits operands)
  line_by-fits operation.Other name operands = ok_if IsFitLine (has_bad_name name) _ _ tt tt

  pub record IsFitStatement (s : Statement) : Type 0 where
    pub line : IsFitLine s.line
    pub cards : AreLines s.cards

  statement_if-fits : (said : Result Line JclCause) (cards : List (List ℕ)) → IfOk said IsFitLine → AreLines cards → IfSome (statement_if said cards) (All IsFitStatement)
  statement_if-fits (Err why) cards fit lines = tt
  statement_if-fits (Ok is) cards fit lines = All-cons IsFitStatement _ [] (record { line = fit; cards = lines }) (All-nil IsFitStatement)

  lines-take : (n : ℕ) (lines : List (List ℕ)) → AreLines lines → AreLines (take n lines)
  lines-take n lines are = record {
    few = let short : length (take n lines) ≤ length lines = grind (arith, length-take) in omega (arith, short, are.few);
    short = All-take (λ (l : List ℕ). length l ≤ line_bytes) n lines are.short;
    text = All-take (λ (l : List ℕ). is_text_line l ≡ true) n lines are.text;
  }

  lines-drop : (n : ℕ) (lines : List (List ℕ)) → AreLines lines → AreLines (drop n lines)
  lines-drop n lines are = record {
    few = let short : length (drop n lines) ≤ length lines = grind (arith, length-drop) in omega (arith, short, are.few);
    short = All-drop (λ (l : List ℕ). length l ≤ line_bytes) n lines are.short;
    text = All-drop (λ (l : List ℕ). is_text_line l ≡ true) n lines are.text;
  }

  data-fits : (card : List ℕ) (behind : List (List ℕ)) → AreLines behind → AreLines (data_of card behind)
  data-fits card behind are =
      lines-take (statement_data card (operands_from (card ∷ behind)) behind).cards (drop (operands_from (card ∷ behind)).cards behind) (lines-drop (operands_from (card ∷ behind)).cards behind are)

  nothing-fits : IfSome (Some []) (All IsFitStatement)
  nothing-fits = All-nil IsFitStatement

  statement_on-fits : (k : Kind) (card : List ℕ) (behind : List (List ℕ)) → AreLines behind → IfSome (statement_on job k card behind) (All IsFitStatement)
  statement_on-fits kind.Stray card behind are = tt
  statement_on-fits kind.Statement card behind are = statement_if-fits (line_of job card behind) (data_of card behind) (line_by-fits (operation_of card) (name_of card) (operands_from (card ∷ behind))) (data-fits card behind are)
  statement_on-fits kind.Comment card behind are = nothing-fits
  statement_on-fits kind.Null card behind are = nothing-fits
  statement_on-fits kind.Delimiter card behind are = nothing-fits
  statement_on-fits kind.Jes card behind are = nothing-fits

  joined-fits : (first rest : Option (List Statement)) → IfSome first (All IsFitStatement) → IfSome rest (All IsFitStatement) → IfSome (joined first rest) (All IsFitStatement)
  joined-fits None rest one others = tt
  joined-fits (Some a) None one others = tt
  joined-fits (Some a) (Some b) one others = All-append IsFitStatement a b one others

  abbrev StandsBefore : Item → Type 0
  StandsBefore item = AreLines item.behind

  items-fit : (items : List Item) → All StandsBefore items → IfSome (statements_on job items) (All IsFitStatement)
  items-fit [] each = nothing-fits
  items-fit (item ∷ items) each =
      joined-fits (statement_on job (kind_of item.card) item.card item.behind) (statements_on job items) (statement_on-fits (kind_of item.card) item.card item.behind (All-head StandsBefore item items each)) (items-fit items (All-tail StandsBefore item items each))

  from-fits : (n skipped : ℕ) (cards : List (List ℕ)) → AreLines cards → All StandsBefore (items_from n skipped cards)
  from-fits n skipped [] are = All-nil StandsBefore
  from-fits n (suc skipped) (card ∷ cards) are = from-fits (n + 1) skipped cards (lines-drop 1 (card ∷ cards) are)
  from-fits n zero (card ∷ cards) are = All-cons StandsBefore _ _ (lines-drop 1 (card ∷ cards) are) (from-fits (n + 1) (further_cards (card ∷ cards)) cards (lines-drop 1 (card ∷ cards) are))

  end-fits : (v : Bool) (item : Item) (items : List Item) → StandsBefore item → All StandsBefore items → All StandsBefore (if v then item ∷ [] else item ∷ items)
  end-fits true item items one others = All-cons StandsBefore item [] one (All-nil StandsBefore)
  end-fits false item items one others = All-cons StandsBefore item items one others

  up_to_end-fits : (items : List Item) → All StandsBefore items → All StandsBefore (up_to_end items)
  up_to_end-fits [] each = All-nil StandsBefore
  up_to_end-fits (item ∷ items) each = end-fits (ends_job item) item (up_to_end items) (All-head StandsBefore item items each) (up_to_end-fits items (All-tail StandsBefore item items each))

  -- STEPS

  kind-fits : (is : DdForm) (cards : List (List ℕ)) → IsFitForm is → AreLines cards → IsDdKind (kind_with is cards)
  kind-fits form.InStream cards fit are = are
  kind-fits form.Dummy cards fit are = tt
  kind-fits (form.Sysout so) cards fit are = (fit.class, fit.dest, fit.forms, fit.copies)

  leading_by-fits : (is : Line) (cards : List (List ℕ)) (dds : List Dd) → IsFitLine is → AreLines cards → All IsDd dds → All IsDd (leading_by is cards dds)
  leading_by-fits line.Job cards dds fit are each = each
  leading_by-fits (line.Exec program) cards dds fit are each = All-nil IsDd
  leading_by-fits (line.Dd name is) cards dds fit are each = All-cons IsDd _ dds (record { name = fit.0; kind = kind-fits is cards fit.1 are }) each

  leading-fits : (statements : List Statement) → All IsFitStatement statements → All IsDd (leading_dds statements)
  leading-fits [] each = All-nil IsDd
  leading-fits (s ∷ statements) each =
      let first = All-head IsFitStatement s statements each in
      leading_by-fits s.line s.cards (leading_dds statements) first.line first.cards (leading-fits statements (All-tail IsFitStatement s statements each))

  steps_by-fit : (is : Line) (dds : List Dd) (found : List Step) → All IsDd dds → All IsStep found → All IsStep (steps_by is dds found)
  steps_by-fit line.Job dds found each others = others
  steps_by-fit (line.Exec program) dds found each others = All-cons IsStep _ found each others
  steps_by-fit (line.Dd name is) dds found each others = others

  steps-fit : (statements : List Statement) → All IsFitStatement statements → All IsStep (steps_of statements)
  steps-fit [] each = All-nil IsStep
  steps-fit (s ∷ statements) each =
      let others = All-tail IsFitStatement s statements each in
      steps_by-fit s.line (leading_dds statements) (steps_of statements) (leading-fits statements others) (steps-fit statements others)

  found-fits : (found : Option (List Statement)) (statements : List Statement) → found ≡ Some statements → IfSome found (All IsFitStatement) → All IsFitStatement statements
  found-fits None statements e fit = absurd (cc)
  found-fits (Some x) statements e fit = let same : x ≡ statements = cc in rw (← same) fit

  pub text-fits : (text : List (List ℕ)) (found : List Step) → AreLines text → IsText job text found → AreSteps found
  text-fits text found are is =
      let each : All IsFitStatement is.statements = found-fits (statements_on job (items_of text)) is.statements is.read (items-fit (items_of text) (up_to_end-fits (items_from 1 0 text) (from-fits 1 0 text are))) in record {
        few = is.few;
        each = rw is.says (steps-fit is.statements each);
        outputs = is.outputs;
      }
