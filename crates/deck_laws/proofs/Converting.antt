-- A text is converted exactly where its statements are in the grammar.
use Rattle.std.proofs.Common.{◌≡◌, ◌∙◌, ap, sym, subst, ℕ, zero, suc, ◌+◌, ◌-◌, ◌≤◌, ◌<◌, Bool, true, false, nat_le, ◌&&◌, if◌then◌else◌, Option, Some, None, Result, Ok, Err, List, [], ◌∷◌, ◌++◌, length, refl, arith, length-append}
use Rattle.std.specs.Prelude.{◌==◌}
use Rattle.std.proofs.lemmas.List.{append-nil, append_assoc}
use Rattle.std.proofs.lemmas.Bool.Decides.{nat_tests}
use Rattle.mas_types.specs.declared.answers.JclCause.{JclCause}
use Rattle.mas_types.specs.declared.answers.JclCause.TheVariants as cause
use Rattle.mas_types.specs.declared.jobs.JobFields.{JobFields}
use Rattle.mas_types.specs.Limits.{job_steps_most, index_most}
use Rattle.mas_types.specs.Lists.{change_at}
use Rattle.card_reader.specs.declared.cards.Kind.{Kind}
use Rattle.card_reader.specs.declared.cards.Kind.TheVariants as kind
use Rattle.card_reader.specs.Cards.{kind_of}
use Rattle.card_reader.specs.Statements.{Item, items_of}
use Rattle.jcl_convert.specs.declared.steps.Dd.{Dd}
use Rattle.jcl_convert.specs.declared.steps.Program.{Program}
use Rattle.jcl_convert.specs.declared.steps.Step.{Step}
use Rattle.jcl_convert.specs.Steps.{sysouts, sysouts_among}
use Rattle.jcl_convert.specs.Steps as steps
use Rattle.jcl_convert.specs.declared.convert_text.Converted.{Converted}
use Rattle.jcl_convert.specs.declared.convert_text.Refused.{Refused}
use Rattle.jcl_convert.specs.declared.dds.DdForm.{DdForm}
use Rattle.jcl_convert.specs.declared.dds.DdForm.TheVariants as form
use Rattle.jcl_convert.specs.declared.statements.Line.{Line}
use Rattle.jcl_convert.specs.declared.statements.Line.TheVariants as line
use Rattle.jcl_convert.specs.Jcl.{line_of, data_of, kind_with, is_sysout, with_dd, nothing_converted, exec_added, dd_added, dd_added_unless, line_added, statement_added, card_added, at_card, converted_then, converted_after, converted, Converts}
use Rattle.deck_laws.specs.Steps.{Statement, statement_if, statement_on, joined, statements_on, leading_dds, steps_of, IsText}

-- STEPS SO FAR

abbrev dd_step : Dd → Step → Step
dd_step d step = record { program = step.program; dds = step.dds ++ d ∷ [] }

-- a DD counts if it has SYSOUT
abbrev one : Dd → ℕ
one d = if steps.is_sysout d.kind then 1 else 0

-- DDs behind those of the last step
abbrev with_dds : List Dd → List Step → List Step
with_dds [] so_far = so_far
with_dds (d ∷ dds) so_far = with_dds dds (with_dd d so_far)

-- statements behind those of which these steps are
abbrev onto : List Statement → List Step → List Step
onto statements so_far = with_dds (leading_dds statements) so_far ++ steps_of statements

-- the number of DDs with SYSOUT is right, and the limits hold
pub record Counted (so_far : Converted) : Type 0 where
  pub sum : so_far.sysouts ≡ sysouts so_far.steps
  pub few : length so_far.steps ≤ job_steps_most
  pub outputs : so_far.sysouts ≤ index_most

among_added : (dds : List Dd) (d : Dd) → sysouts_among (dds ++ d ∷ []) ≡ sysouts_among dds + one d
among_added [] d = omega arith
among_added (e ∷ dds) d = let rest : sysouts_among (dds ++ d ∷ []) ≡ sysouts_among dds + one d = among_added dds d in omega arith

sysouts-append : (a b : List Step) → sysouts (a ++ b) ≡ sysouts a + sysouts b
sysouts-append [] b = omega arith
sysouts-append (step ∷ a) b = let rest : sysouts (a ++ b) ≡ sysouts a + sysouts b = sysouts-append a b in omega arith

length-change_at : (k : ℕ) (f : Step → Step) (xs : List Step) → length (change_at k f xs) ≡ length xs
length-change_at k f [] = refl
length-change_at zero f (x ∷ xs) = refl
length-change_at (suc k) f (x ∷ xs) = ap suc (length-change_at k f xs)

sysouts-change_at : (k : ℕ) (d : Dd) (xs : List Step) → k < length xs → sysouts (change_at k (dd_step d) xs) ≡ sysouts xs + one d
sysouts-change_at k d [] less = absurd (omega (arith, less))
sysouts-change_at zero d (x ∷ xs) less = let first : sysouts_among (x.dds ++ d ∷ []) ≡ sysouts_among x.dds + one d = among_added x.dds d in omega arith
sysouts-change_at (suc k) d (x ∷ xs) less =
    let rest : sysouts (change_at k (dd_step d) xs) ≡ sysouts xs + one d = sysouts-change_at k d xs (omega (arith, less)) in omega arith

length-with_dd : (d : Dd) (so_far : List Step) → length (with_dd d so_far) ≡ length so_far
length-with_dd d so_far = length-change_at (length so_far - 1) (dd_step d) so_far

sysouts-with_dd : (d : Dd) (so_far : List Step) → 0 < length so_far → sysouts (with_dd d so_far) ≡ sysouts so_far + one d
sysouts-with_dd d so_far some = sysouts-change_at (length so_far - 1) d so_far (omega (arith, some))

length-with_dds : (dds : List Dd) (so_far : List Step) → length (with_dds dds so_far) ≡ length so_far
length-with_dds [] so_far = refl
length-with_dds (d ∷ dds) so_far = length-with_dds dds (with_dd d so_far) ∙ length-with_dd d so_far

sysouts-with_dds : (dds : List Dd) (so_far : List Step) → 0 < length so_far → sysouts (with_dds dds so_far) ≡ sysouts so_far + sysouts_among dds
sysouts-with_dds [] so_far some = omega arith
sysouts-with_dds (d ∷ dds) so_far some =
    let same : length (with_dd d so_far) ≡ length so_far = length-with_dd d so_far in
    let more : sysouts (with_dd d so_far) ≡ sysouts so_far + one d = sysouts-with_dd d so_far some in
    let rest : sysouts (with_dds dds (with_dd d so_far)) ≡ sysouts (with_dd d so_far) + sysouts_among dds = sysouts-with_dds dds (with_dd d so_far) (omega (arith, same, some)) in
    omega (arith, more, rest)

-- a DD behind a last step is one of its DDs
change_at-last : (f : Step → Step) (xs : List Step) (step : Step) → change_at (length xs) f (xs ++ step ∷ []) ≡ xs ++ f step ∷ []
change_at-last f [] step = refl
change_at-last f (x ∷ xs) step = ap (λ (l : List Step). x ∷ l) (change_at-last f xs step)

with_dd-last : (d : Dd) (xs : List Step) (program : Program) (dds : List Dd) → with_dd d (xs ++ record { program = program; dds = dds } ∷ []) ≡ xs ++ record { program = program; dds = dds ++ d ∷ [] } ∷ []
with_dd-last d xs program dds =
    let all : length (xs ++ record { program = program; dds = dds } ∷ []) ≡ length xs + 1 = length-append xs (record { program = program; dds = dds } ∷ []) in
    let last : length (xs ++ record { program = program; dds = dds } ∷ []) - 1 ≡ length xs = omega (arith, all) in
    ap (λ (k : ℕ). change_at k (dd_step d) (xs ++ record { program = program; dds = dds } ∷ [])) last ∙ change_at-last (dd_step d) xs (record { program = program; dds = dds })

with_dds-last : (ds : List Dd) (xs : List Step) (program : Program) (dds : List Dd) → with_dds ds (xs ++ record { program = program; dds = dds } ∷ []) ≡ xs ++ record { program = program; dds = dds ++ ds } ∷ []
with_dds-last [] xs program dds = ap (λ (l : List Dd). xs ++ (let s : Step = record { program = program; dds = l } in s) ∷ []) (sym (append-nil dds))
with_dds-last (d ∷ ds) xs program dds =
    ap (with_dds ds) (with_dd-last d xs program dds)
    ∙ with_dds-last ds xs program (dds ++ d ∷ [])
    ∙ ap (λ (l : List Dd). xs ++ (let s : Step = record { program = program; dds = l } in s) ∷ []) (append_assoc dds (d ∷ []) ds)

-- an EXEC behind steps begins the next one
onto-exec : (program : Program) (statements : List Statement) (so_far : List Step) → onto statements (so_far ++ record { program = program; dds = [] } ∷ []) ≡ so_far ++ record { program = program; dds = leading_dds statements } ∷ steps_of statements
onto-exec program statements so_far =
    ap (λ (l : List Step). l ++ steps_of statements) (with_dds-last (leading_dds statements) so_far program [])
    ∙ append_assoc so_far (record { program = program; dds = leading_dds statements } ∷ []) (steps_of statements)

same_sysout : (is : DdForm) (cards : List (List ℕ)) → steps.is_sysout (kind_with is cards) ≡ is_sysout is
same_sysout form.InStream cards = refl
same_sysout form.Dummy cards = refl
same_sysout (form.Sysout sysout) cards = refl

exec-counted : (so_far : Converted) (program : Program) → nat_le job_steps_most (length so_far.steps) ≡ false → Counted so_far → Counted (record { steps = so_far.steps ++ record { program = program; dds = [] } ∷ []; sysouts = so_far.sysouts })
exec-counted so_far program room counted = record {
  sum = let all : sysouts (so_far.steps ++ record { program = program; dds = [] } ∷ []) ≡ sysouts so_far.steps + 0 = sysouts-append so_far.steps (record { program = program; dds = [] } ∷ []) in omega (arith, counted.sum, all);
  few = let all : length (so_far.steps ++ record { program = program; dds = [] } ∷ []) ≡ length so_far.steps + 1 = length-append so_far.steps (record { program = program; dds = [] } ∷ []) in grind (arith, nat_tests);
  outputs = counted.outputs;
}

dd-counted : (so_far : Converted) (d : Dd) (sysout : Bool) → steps.is_sysout d.kind ≡ sysout → 0 < length so_far.steps → (sysout && nat_le index_most so_far.sysouts) ≡ false → Counted so_far → Counted (dd_added so_far d sysout)
dd-counted so_far d true is some room counted =
    let more : sysouts (with_dd d so_far.steps) ≡ sysouts so_far.steps + one d = sysouts-with_dd d so_far.steps some in
    let counts : one d ≡ 1 = ap (λ (v : Bool). if v then 1 else 0) is in record {
      sum = omega (arith, counted.sum, more, counts);
      few = let same : length (with_dd d so_far.steps) ≡ length so_far.steps = length-with_dd d so_far.steps in omega (arith, counted.few, same);
      outputs = grind (arith, nat_tests);
    }
dd-counted so_far d false is some room counted =
    let more : sysouts (with_dd d so_far.steps) ≡ sysouts so_far.steps + one d = sysouts-with_dd d so_far.steps some in
    let counts : one d ≡ 0 = ap (λ (v : Bool). if v then 1 else 0) is in record {
      sum = omega (arith, counted.sum, more, counts);
      few = let same : length (with_dd d so_far.steps) ≡ length so_far.steps = length-with_dd d so_far.steps in omega (arith, counted.few, same);
      outputs = counted.outputs;
    }

-- FROM WHAT IS CONVERTED TO THE GRAMMAR

-- statements that are found behind what was converted, and make it what it is then
pub record Reads (found : Option (List Statement)) (before after : Converted) : Type 0 where
  pub statements : List Statement
  pub read : found ≡ Some statements
  pub placed : before.steps ≡ [] → leading_dds statements ≡ []
  pub steps : after.steps ≡ onto statements before.steps
  pub counted : Counted after

some_steps : (xs : List Step) → xs ≡ [] → 0 < length xs → {P : Type 0} → P
some_steps xs none some = absurd (let l : length xs ≡ 0 = ap length none in omega (arith, l, some))

not_zero : (n : ℕ) → (n == 0) ≡ false → 0 < n
not_zero n e = grind (arith, nat_tests)

module _ (after : Converted) (rest : Option (List Statement)) (next : Converted → Result Converted Refused) (n : ℕ) (go_on : (more : Converted) → Counted more → next more ≡ Ok after → Reads rest more after) where
  exec_reads : (before : Converted) (program : Program) (cards : List (List ℕ)) (v : Bool) → nat_le job_steps_most (length before.steps) ≡ v → Counted before
      → converted_then next (at_card n (if v then Err cause.Many else Ok (record { steps = before.steps ++ record { program = program; dds = [] } ∷ []; sysouts = before.sysouts }))) ≡ Ok after → Reads (joined (Some (record { line = line.Exec program; cards = cards } ∷ [])) rest) before after
  exec_reads before program cards true room counted e = absurd (cc)
  exec_reads before program cards false room counted e =
      let reads = go_on (record { steps = before.steps ++ record { program = program; dds = [] } ∷ []; sysouts = before.sysouts }) (exec-counted before program room counted) e in record {
        statements = record { line = line.Exec program; cards = cards } ∷ reads.statements;
        read = ap (joined (Some (record { line = line.Exec program; cards = cards } ∷ []))) reads.read;
        placed = λ none. refl;
        steps = reads.steps ∙ onto-exec program reads.statements before.steps;
        counted = reads.counted;
      }

  dd_reads : (before : Converted) (name : _) (is : DdForm) (cards : List (List ℕ)) (unplaced many : Bool) → (length before.steps == 0) ≡ unplaced → (is_sysout is && nat_le index_most before.sysouts) ≡ many → Counted before
      → converted_then next (at_card n (dd_added_unless (if unplaced then Some cause.Place else if many then Some cause.Many else None) before (record { name = name; kind = kind_with is cards }) (is_sysout is))) ≡ Ok after
      → Reads (joined (Some (record { line = line.Dd name is; cards = cards } ∷ [])) rest) before after
  dd_reads before name is cards true many place room counted e = absurd (cc)
  dd_reads before name is cards false true place room counted e = absurd (cc)
  dd_reads before name is cards false false place room counted e =
      let some : 0 < length before.steps = not_zero (length before.steps) place in
      let reads = go_on (dd_added before (record { name = name; kind = kind_with is cards }) (is_sysout is)) (dd-counted before (record { name = name; kind = kind_with is cards }) (is_sysout is) (same_sysout is cards) some room counted) e in record {
        statements = record { line = line.Dd name is; cards = cards } ∷ reads.statements;
        read = ap (joined (Some (record { line = line.Dd name is; cards = cards } ∷ []))) reads.read;
        placed = λ none. some_steps before.steps none some;
        steps = reads.steps;
        counted = reads.counted;
      }

  line_reads : (before : Converted) (is : Line) (cards : List (List ℕ)) → Counted before → converted_then next (at_card n (line_added before is cards)) ≡ Ok after → Reads (joined (Some (record { line = is; cards = cards } ∷ [])) rest) before after
  line_reads before line.Job cards counted e =
      let reads = go_on before counted e in record {
        statements = record { line = line.Job; cards = cards } ∷ reads.statements;
        read = ap (joined (Some (record { line = line.Job; cards = cards } ∷ []))) reads.read;
        placed = reads.placed;
        steps = reads.steps;
        counted = reads.counted;
      }
  line_reads before (line.Exec program) cards counted e = exec_reads before program cards (nat_le job_steps_most (length before.steps)) refl counted e
  line_reads before (line.Dd name is) cards counted e = dd_reads before name is cards (length before.steps == 0) (is_sysout is && nat_le index_most before.sysouts) refl refl counted e

  statement_reads : (before : Converted) (said : Result Line JclCause) (cards : List (List ℕ)) → Counted before → converted_then next (at_card n (statement_added before said cards)) ≡ Ok after → Reads (joined (statement_if said cards) rest) before after
  statement_reads before (Err why) cards counted e = absurd (cc)
  statement_reads before (Ok is) cards counted e = line_reads before is cards counted e

  nothing_reads : (before : Converted) → Counted before → next before ≡ Ok after → Reads (joined (Some []) rest) before after
  nothing_reads before counted e =
      let reads = go_on before counted e in record {
        statements = reads.statements;
        read = ap (joined (Some [])) reads.read;
        placed = reads.placed;
        steps = reads.steps;
        counted = reads.counted;
      }

  card_reads : (job : JobFields) (before : Converted) (card : List ℕ) (behind : List (List ℕ)) (k : Kind) → Counted before → converted_then next (at_card n (card_added job before card behind k)) ≡ Ok after → Reads (joined (statement_on job k card behind) rest) before after
  card_reads job before card behind kind.Stray counted e = absurd (cc)
  card_reads job before card behind kind.Statement counted e = statement_reads before (line_of job card behind) (data_of card behind) counted e
  card_reads job before card behind kind.Comment counted e = nothing_reads before counted e
  card_reads job before card behind kind.Null counted e = nothing_reads before counted e
  card_reads job before card behind kind.Delimiter counted e = nothing_reads before counted e
  card_reads job before card behind kind.Jes counted e = nothing_reads before counted e

items_read : (job : JobFields) (items : List Item) (before after : Converted) → Counted before → converted_after job before items ≡ Ok after → Reads (statements_on job items) before after
items_read job [] before after counted e =
    let same : before ≡ after = cc in record {
      statements = [];
      read = refl;
      placed = λ none. refl;
      steps = ap (λ (c : Converted). c.steps) (sym same) ∙ sym (append-nil before.steps);
      counted = rw (← same) counted;
    }
items_read job (item ∷ items) before after counted e =
    card_reads after (statements_on job items) (λ more. converted_after job more items) item.number (λ more right same. items_read job items more after right same) job before item.card item.behind (kind_of item.card) counted e

nothing_counted : Counted nothing_converted
nothing_counted = record { sum = refl; few = omega arith; outputs = omega arith }

placed_first : (statements : List Statement) (found : List Step) → leading_dds statements ≡ [] → found ≡ onto statements [] → found ≡ steps_of statements
placed_first statements found none e = e ∙ ap (λ (dds : List Dd). with_dds dds [] ++ steps_of statements) none

pub text_read : (job : JobFields) (text : List (List ℕ)) (found : List Step) → Converts (converted job text) found → IsText job text found
text_read job text found is =
    let reads = items_read job (items_of text) nothing_converted (record { steps = found; sysouts = is.0 }) nothing_counted is.1 in
    let placed : leading_dds reads.statements ≡ [] = reads.placed refl in record {
      statements = reads.statements;
      read = reads.read;
      placed = placed;
      says = placed_first reads.statements found placed reads.steps;
      few = reads.counted.few;
      outputs = omega (arith, reads.counted.sum, reads.counted.outputs);
    }

-- FROM THE GRAMMAR TO WHAT IS CONVERTED

-- what was converted, and these statements after it
abbrev done : List Statement → Converted → Converted
done statements before = record { steps = onto statements before.steps; sysouts = sysouts (onto statements before.steps) }

-- the statements may stand after what was converted
pub record MayFollow (statements : List Statement) (before : Converted) : Type 0 where
  pub placed : before.steps ≡ [] → leading_dds statements ≡ []
  pub few : length (onto statements before.steps) ≤ job_steps_most
  pub outputs : sysouts (onto statements before.steps) ≤ index_most
  pub counted : Counted before

-- two lists of statements that are joined
pub record AreJoined (first rest : Option (List Statement)) (all : List Statement) : Type 0 where
  pub a : List Statement
  pub b : List Statement
  pub is_a : first ≡ Some a
  pub is_b : rest ≡ Some b
  pub both : all ≡ a ++ b

joined_from : (first rest : Option (List Statement)) (all : List Statement) → joined first rest ≡ Some all → AreJoined first rest all
joined_from None rest all e = absurd (cc)
joined_from (Some a) None all e = absurd (cc)
joined_from (Some a) (Some b) all e = record { a = a; b = b; is_a = refl; is_b = refl; both = cc }

-- the last step has room for DDs only where there is one
first_dd : (xs : List Step) (d : Dd) (dds : List Dd) → (xs ≡ [] → d ∷ dds ≡ []) → 0 < length xs
first_dd [] d dds placed = let no : d ∷ dds ≡ [] = placed refl in absurd (cc)
first_dd (x ∷ xs) d dds placed = omega arith

zero_not : (n : ℕ) → 0 < n → (n == 0) ≡ false
zero_not n some = grind (arith, nat_tests)

no_le : (a b : ℕ) → b < a → nat_le a b ≡ false
no_le a b less = grind (arith, nat_tests)

room_for : (sysout : Bool) (n : ℕ) → n + (if sysout then 1 else 0) ≤ index_most → (sysout && nat_le index_most n) ≡ false
room_for true n less = grind (arith, nat_tests)
room_for false n less = refl

module _ (rest : Option (List Statement)) (next : Converted → Result Converted Refused) (n : ℕ) (go_on : (more : Converted) (statements : List Statement) → rest ≡ Some statements → MayFollow statements more → next more ≡ Ok (done statements more)) where
  exec_room : (before : Converted) (program : Program) (cards : List (List ℕ)) (b : List Statement) → MayFollow (record { line = line.Exec program; cards = cards } ∷ b) before → nat_le job_steps_most (length before.steps) ≡ false
  exec_room before program cards b may =
      let all : length (before.steps ++ record { program = program; dds = leading_dds b } ∷ steps_of b) ≡ length before.steps + suc (length (steps_of b)) = length-append before.steps (record { program = program; dds = leading_dds b } ∷ steps_of b) in
      no_le job_steps_most (length before.steps) (omega (arith, all, may.few))

  exec_done : (before : Converted) (program : Program) (cards : List (List ℕ)) (b : List Statement) → rest ≡ Some b → MayFollow (record { line = line.Exec program; cards = cards } ∷ b) before
      → converted_then next (at_card n (exec_added before program)) ≡ Ok (done (record { line = line.Exec program; cards = cards } ∷ b) before)
  exec_done before program cards b is may =
      let room = exec_room before program cards b may in
      let moved : onto b (before.steps ++ record { program = program; dds = [] } ∷ []) ≡ before.steps ++ record { program = program; dds = leading_dds b } ∷ steps_of b = onto-exec program b before.steps in
      ap (λ (v : Bool). converted_then next (at_card n (if v then Err cause.Many else Ok (record { steps = before.steps ++ record { program = program; dds = [] } ∷ []; sysouts = before.sysouts })))) room
      ∙ go_on (record { steps = before.steps ++ record { program = program; dds = [] } ∷ []; sysouts = before.sysouts }) b is (record {
        placed = λ none. some_steps (before.steps ++ record { program = program; dds = [] } ∷ []) none (let l : length (before.steps ++ record { program = program; dds = [] } ∷ []) ≡ length before.steps + 1 = length-append before.steps (record { program = program; dds = [] } ∷ []) in omega (arith, l));
        few = rw moved may.few;
        outputs = rw moved may.outputs;
        counted = exec-counted before program room may.counted;
      })
      ∙ ap (λ (l : List Step). Ok (let c : Converted = record { steps = l; sysouts = sysouts l } in c)) moved

  dd_outputs : (before : Converted) (d : Dd) (b : List Statement) → 0 < length before.steps → sysouts (with_dds (d ∷ leading_dds b) before.steps ++ steps_of b) ≤ index_most → sysouts before.steps + one d ≤ index_most
  dd_outputs before d b some few =
      let all : sysouts (with_dds (d ∷ leading_dds b) before.steps ++ steps_of b) ≡ sysouts (with_dds (d ∷ leading_dds b) before.steps) + sysouts (steps_of b) = sysouts-append (with_dds (d ∷ leading_dds b) before.steps) (steps_of b) in
      let front : sysouts (with_dds (d ∷ leading_dds b) before.steps) ≡ sysouts before.steps + (one d + sysouts_among (leading_dds b)) = sysouts-with_dds (d ∷ leading_dds b) before.steps some in
      omega (arith, all, front, few)

  dd_done : (before : Converted) (name : _) (is : DdForm) (cards : List (List ℕ)) (b : List Statement) → rest ≡ Some b → MayFollow (record { line = line.Dd name is; cards = cards } ∷ b) before
      → converted_then next (at_card n (line_added before (line.Dd name is) cards)) ≡ Ok (done (record { line = line.Dd name is; cards = cards } ∷ b) before)
  dd_done before name is cards b found may =
      let some : 0 < length before.steps = first_dd before.steps (record { name = name; kind = kind_with is cards }) (leading_dds b) may.placed in
      let outputs : sysouts before.steps + one (record { name = name; kind = kind_with is cards }) ≤ index_most = dd_outputs before (record { name = name; kind = kind_with is cards }) b some may.outputs in
      let counts : one (record { name = name; kind = kind_with is cards }) ≡ (if is_sysout is then 1 else 0) = ap (λ (v : Bool). if v then 1 else 0) (same_sysout is cards) in
      let room : (is_sysout is && nat_le index_most before.sysouts) ≡ false = room_for (is_sysout is) before.sysouts (omega (arith, outputs, counts, may.counted.sum)) in
      ap (λ (v : Bool). converted_then next (at_card n (dd_added_unless (if v then Some cause.Place else if is_sysout is && nat_le index_most before.sysouts then Some cause.Many else None) before (record { name = name; kind = kind_with is cards }) (is_sysout is)))) (zero_not (length before.steps) some)
      ∙ ap (λ (v : Bool). converted_then next (at_card n (dd_added_unless (if v then Some cause.Many else None) before (record { name = name; kind = kind_with is cards }) (is_sysout is)))) room
      ∙ go_on (dd_added before (record { name = name; kind = kind_with is cards }) (is_sysout is)) b found (record {
        placed = λ none. some_steps (with_dd (record { name = name; kind = kind_with is cards }) before.steps) none (let l : length (with_dd (record { name = name; kind = kind_with is cards }) before.steps) ≡ length before.steps = length-with_dd (record { name = name; kind = kind_with is cards }) before.steps in omega (arith, l, some));
        few = may.few;
        outputs = may.outputs;
        counted = dd-counted before (record { name = name; kind = kind_with is cards }) (is_sysout is) (same_sysout is cards) some room may.counted;
      })

  job_done : (before : Converted) (cards : List (List ℕ)) (b : List Statement) → rest ≡ Some b → MayFollow (record { line = line.Job; cards = cards } ∷ b) before → next before ≡ Ok (done (record { line = line.Job; cards = cards } ∷ b) before)
  job_done before cards b is may = go_on before b is (record { placed = may.placed; few = may.few; outputs = may.outputs; counted = may.counted })

  line_done : (before : Converted) (is : Line) (cards : List (List ℕ)) (b : List Statement) → rest ≡ Some b → MayFollow (record { line = is; cards = cards } ∷ b) before → converted_then next (at_card n (line_added before is cards)) ≡ Ok (done (record { line = is; cards = cards } ∷ b) before)
  line_done before line.Job cards b found may = job_done before cards b found may
  line_done before (line.Exec program) cards b found may = exec_done before program cards b found may
  line_done before (line.Dd name is) cards b found may = dd_done before name is cards b found may

  statement_done : (before : Converted) (said : Result Line JclCause) (cards : List (List ℕ)) (a b : List Statement) → statement_if said cards ≡ Some a → rest ≡ Some b → MayFollow (a ++ b) before → converted_then next (at_card n (statement_added before said cards)) ≡ Ok (done (a ++ b) before)
  statement_done before (Err why) cards a b e found may = absurd (cc)
  statement_done before (Ok is) cards a b e found may =
      let same : record { line = is; cards = cards } ∷ [] ≡ a = cc in
      let may_one : MayFollow (record { line = is; cards = cards } ∷ b) before = subst (λ (l : List Statement). MayFollow (l ++ b) before) (sym same) may in
      line_done before is cards b found may_one ∙ ap (λ (l : List Statement). Ok (done (l ++ b) before)) same

  nothing_done : (before : Converted) (a b : List Statement) → Some [] ≡ Some a → rest ≡ Some b → MayFollow (a ++ b) before → next before ≡ Ok (done (a ++ b) before)
  nothing_done before a b e found may =
      let same : [] ≡ a = cc in
      let may_one : MayFollow b before = subst (λ (l : List Statement). MayFollow (l ++ b) before) (sym same) may in
      go_on before b found may_one ∙ ap (λ (l : List Statement). Ok (done (l ++ b) before)) same

  card_done : (job : JobFields) (before : Converted) (card : List ℕ) (behind : List (List ℕ)) (k : Kind) (a b : List Statement) → statement_on job k card behind ≡ Some a → rest ≡ Some b → MayFollow (a ++ b) before
      → converted_then next (at_card n (card_added job before card behind k)) ≡ Ok (done (a ++ b) before)
  card_done job before card behind kind.Stray a b e found may = absurd (cc)
  card_done job before card behind kind.Statement a b e found may = statement_done before (line_of job card behind) (data_of card behind) a b e found may
  card_done job before card behind kind.Comment a b e found may = nothing_done before a b e found may
  card_done job before card behind kind.Null a b e found may = nothing_done before a b e found may
  card_done job before card behind kind.Delimiter a b e found may = nothing_done before a b e found may
  card_done job before card behind kind.Jes a b e found may = nothing_done before a b e found may

same_converted : (before : Converted) (statements : List Statement) → [] ≡ statements → Counted before → (let r : Result Converted Refused = Ok before in r) ≡ Ok (done statements before)
same_converted before statements none counted =
    ap (λ (k : ℕ). Ok (let c : Converted = record { steps = before.steps; sysouts = k } in c)) counted.sum
    ∙ ap (λ (l : List Step). Ok (let c : Converted = record { steps = l; sysouts = sysouts l } in c)) (sym (append-nil before.steps))
    ∙ ap (λ (l : List Statement). Ok (done l before)) none

items_done : (job : JobFields) (items : List Item) (before : Converted) (statements : List Statement) → statements_on job items ≡ Some statements → MayFollow statements before → converted_after job before items ≡ Ok (done statements before)
items_done job [] before statements e may = let none : [] ≡ statements = cc in same_converted before statements none may.counted
items_done job (item ∷ items) before statements e may =
    let both = joined_from (statement_on job (kind_of item.card) item.card item.behind) (statements_on job items) statements e in
    let may_both : MayFollow (both.a ++ both.b) before = rw (← both.both) may in
    card_done (statements_on job items) (λ more. converted_after job more items) item.number (λ more found is can. items_done job items more found is can) job before item.card item.behind (kind_of item.card) both.a both.b both.is_a both.is_b may_both
    ∙ ap (λ (l : List Statement). Ok (done l before)) (sym both.both)

pub text_reads : (job : JobFields) (text : List (List ℕ)) (found : List Step) → IsText job text found → Converts (converted job text) found
text_reads job text found is =
    let first : onto is.statements [] ≡ found = ap (λ (dds : List Dd). with_dds dds [] ++ steps_of is.statements) is.placed ∙ sym is.says in (
      sysouts found,
      items_done job (items_of text) nothing_converted is.statements is.read (record { placed = λ none. is.placed; few = rw first is.few; outputs = rw first is.outputs; counted = nothing_counted })
          ∙ ap (λ (l : List Step). Ok (let c : Converted = record { steps = l; sysouts = sysouts l } in c)) first,
    )
