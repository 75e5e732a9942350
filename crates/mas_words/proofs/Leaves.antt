-- The walk over the words behind a command comes to the grammar.
use Rattle.std.proofs.Common.{◌≡◌, ◌∙◌, Bool, true, false, cond, not, ◌&&◌, ◌||◌, List, [], ◌∷◌, ◌++◌, Option, Some, None, is_some, codes, refl, sym, ap, ap₂, subst, inl, inr, true≢false}
use Rattle.std.specs.Prelude.{option_and_then, option_map}
use Rattle.std.specs.Option.{option_map_or}
use Rattle.std.specs.List.{list_any}
use Rattle.std.specs.Str.{bytes_eq}
use Rattle.std.proofs.lemmas.Bool.{or_parts}
use Rattle.clap.specs.Facts.{explicit_source}
use Rattle.clap.specs.Faults.{check_fault, defaults_fault, repeat_fault, settle_fault}
use Rattle.clap.specs.Kinds.{Kinds, or_else}
use Rattle.clap.specs.Takes.{is_given}
use Rattle.clap.specs.Walk.{Row, finished, first_of, has_row, settled_rows, with_default, with_values}
use Rattle.clap.specs.declared.builder.value_parser.Reading.TheVariants.{AsWritten}
use Rattle.clap.specs.declared.error.kind.ErrorKind.TheVariants as kind
use Rattle.clap.specs.declared.parser.matches.ValueSource.TheVariants.{DefaultValue}
use Rattle.mas_words.specs.declared.types.Verb.{Verb}
use Rattle.mas_words.specs.declared.types.Words.{Words}
use Rattle.mas_words.specs.Words.{Command, play, race, format, report, check, generate, Given, Text, takes_cold, verb_of, with_cold, with_dir, with_number, with_word, with_words, has_its_options, words_for, words_with}
use Rattle.mas_words.specs.Program.{given_by, is_set, takes_number, words_by}
use Rattle.mas_words.proofs.Built.{Form, bare, colds, numbers, cold_rule, dir_rule, number_rule, form_of, rules, shape}
use Rattle.mas_words.proofs.Dooms.{doomed, hyphen_dir, hyphen_number, words_behind}
use Rattle.mas_words.proofs.Rows.{Found, OnlyCold, OnlyNumber, Says, absent, add_cold, add_dir, add_number, default_says, found_says, has_row-at, number_row, row_at}
use Rattle.mas_words.proofs.Sorts.{IsOther, IsPlain, Sort, held, is_cold, is_dir, is_dir_of, is_flag, is_plain, sort_of}
use Rattle.mas_words.proofs.Steps.{NoDashes, at_clear, at_or, cold_used, dashes, dir_next, dir_used, due_at, due_cold, due_dir, due_dir_of, due_end, due_flag, due_plain, ended, idle_at, no_cold, number_used, reads, settle, step_cold, step_dir, step_dir_of, step_end, step_flag, step_number, step_stray}

abbrev pub given : Bool → Option Text → Option Text → Bool → Given
given c d n due = record { cold = c; dir = d; number = n; is_due = due }

abbrev has_cold : Form → Bool
has_cold bare = false
has_cold colds = true
has_cold numbers = false

abbrev has_number : Form → Bool
has_number bare = false
has_number colds = false
has_number numbers = true

-- ---- the end

abbrev no_kinds : Kinds
no_kinds = []

both_clear : (b e : Bool) → cond (b || e) [] [] ≡ no_kinds
both_clear true e = refl
both_clear false true = refl
both_clear false false = refl

defaults_clear : (f : Form) (rows : List Row) → defaults_fault rows (rules f) ≡ []
unfolding defaults_fault
defaults_clear bare rows = rw (both_clear (has_row (codes "dir") rows) true) refl
defaults_clear colds rows = rw (both_clear (has_row (codes "dir") rows) true, both_clear (has_row (codes "cold") (with_default rows dir_rule)) false) refl
defaults_clear numbers rows = rw (both_clear (has_row (codes "dir") rows) true, both_clear (has_row (codes "n") (with_default rows dir_rule)) true) refl

same_rows : (b : Bool) (rows : List Row) → cond b rows rows ≡ rows
same_rows true rows = refl
same_rows false rows = refl

finished_bare : (rows : List Row) → finished (rules bare) (held rows None) ≡ rows
finished_bare rows = same_rows (has_row (codes "dir") rows) rows

finished_numbers : (rows : List Row) → finished (rules numbers) (held rows None) ≡ rows
finished_numbers rows =
    ap (λ (rs : List Row). with_default rs number_rule) (same_rows (has_row (codes "dir") rows) rows) ∙ same_rows (has_row (codes "n") rows) rows

finished_colds : (rows : List Row) → finished (rules colds) (held rows None)
    ≡ cond (has_row (codes "cold") rows) rows (with_values (codes "cold") AsWritten DefaultValue (codes "false" ∷ []) rows)
finished_colds rows = ap (λ (rs : List Row). with_default rs cold_rule) (same_rows (has_row (codes "dir") rows) rows)

-- what the code reads is what was given
takes_by_form : (k : Command) (f : Form) → form_of k ≡ f → takes_cold k ≡ has_cold f
takes_by_form k f is = go k ∙ ap has_cold is
  where
    go : (k : Command) → takes_cold k ≡ has_cold (form_of k)
    go play = refl
    go race = refl
    go format = refl
    go report = refl
    go check = refl
    go generate = refl

number_by_form : (k : Command) (f : Form) → form_of k ≡ f → takes_number k ≡ has_number f
number_by_form k f is = go k ∙ ap has_number is
  where
    go : (k : Command) → takes_number k ≡ has_number (form_of k)
    go play = refl
    go race = refl
    go format = refl
    go report = refl
    go check = refl
    go generate = refl

cold_given : (f : Form) (c : Bool) → OnlyCold f c → (has_cold f && c) ≡ c
cold_given bare c only = sym only
cold_given colds c only = refl
cold_given numbers c only = sym only

number_given : (f : Form) (n : Option Text) → OnlyNumber f n → cond (has_number f) n None ≡ n
number_given bare n only = sym only
number_given colds n only = sym only
number_given numbers n only = refl

reads_given : (k : Command) (f : Form) → form_of k ≡ f → (c : Bool) (d n : Option Text) (rows : List Row) → Says f c d n rows → given_by k rows ≡ given c d n false
reads_given k f is c d n rows says =
    let cold : (takes_cold k && is_set (first_of (codes "cold") rows)) ≡ c =
    ap (λ (b : Bool). b && is_set (first_of (codes "cold") rows)) (takes_by_form k f is) ∙ ap (λ (b : Bool). has_cold f && b) says.cold ∙ cold_given f c says.only_cold in
    let number : cond (takes_number k) (first_of (codes "n") rows) None ≡ n =
    ap (λ (b : Bool). cond b (first_of (codes "n") rows) None) (number_by_form k f is) ∙ ap (λ (o : Option Text). cond (has_number f) o None) says.number ∙ number_given f n says.only_number in
    λ i. record { cold = cold i; dir = says.dir i; number = number i; is_due = false }

no_verb : (k : Command) → form_of k ≡ numbers → verb_of k None ≡ None
no_verb play is = cc
no_verb race is = cc
no_verb format is = cc
no_verb report is = cc
no_verb check is = cc
no_verb generate is = refl

without_number : (k : Command) (c : Bool) (d : Option Text) → form_of k ≡ numbers → words_with k (given c d None false) ≡ None
without_number k c d is = go (has_its_options k (given c d None false)) (verb_of k None) (no_verb k is)
  where
    go : (b : Bool) (o : Option Verb) → o ≡ None → cond b (option_map (words_for (given c d None false)) o) None ≡ None
    go true o none = ap (option_map (words_for (given c d None false))) none
    go false o none = refl

end_bare : (k : Command) → form_of k ≡ bare → (name : Text) (c : Bool) (d n : Option Text) (rows : List Row) → Found bare c d n rows
    → ended name (words_by k) rows None (is_some n) bare rows ≡ words_with k (given c d n false)
end_bare k is name c d n rows found =
    ap₂ (λ (fault : Kinds) (rs : List Row). at_clear (or_else fault (check_fault (shape bare name) rs false)) (words_by k rs)) (defaults_clear bare rows) (finished_bare rows)
    ∙ ap (words_with k) (reads_given k bare is c d n rows (found_says bare c d n rows found))

end_colds : (k : Command) → form_of k ≡ colds → (name : Text) (c : Bool) (d n : Option Text) (rows : List Row) → Found colds c d n rows
    → ended name (words_by k) rows None (is_some n) colds rows ≡ words_with k (given c d n false)
end_colds k is name c d n rows found =
    ap₂ (λ (fault : Kinds) (rs : List Row). at_clear (or_else fault (check_fault (shape colds name) rs false)) (words_by k rs)) (defaults_clear colds rows) (finished_colds rows)
    ∙ go c found
  where
    go : (c : Bool) → Found colds c d n rows
        → words_by k (cond (has_row (codes "cold") rows) rows (with_values (codes "cold") AsWritten DefaultValue (codes "false" ∷ []) rows)) ≡ words_with k (given c d n false)
    go true found =
        ap (λ (b : Bool). words_by k (cond b rows (with_values (codes "cold") AsWritten DefaultValue (codes "false" ∷ []) rows))) (has_row-at (codes "cold") rows ∙ ap is_some found.cold)
        ∙ ap (words_with k) (reads_given k colds is true d n rows (found_says colds true d n rows found))
    go false found =
        ap (λ (b : Bool). words_by k (cond b rows (with_values (codes "cold") AsWritten DefaultValue (codes "false" ∷ []) rows))) (absent (codes "cold") rows found.cold)
        ∙ ap (words_with k) (reads_given k colds is false d n (with_values (codes "cold") AsWritten DefaultValue (codes "false" ∷ []) rows) (default_says d n rows found))

given_row : (n : Option Text) (rows : List Row) → row_at (codes "n") rows ≡ option_map number_row n → is_given (codes "n") rows ≡ is_some n
given_row n rows found = ap (λ (o : Option Row). option_map_or (λ r. explicit_source r.source) o false) found ∙ go n
  where
    go : (n : Option Text) → option_map_or (λ r. explicit_source r.source) (option_map number_row n) false ≡ is_some n
    go None = refl
    go (Some t) = refl

end_numbers : (k : Command) → form_of k ≡ numbers → (name : Text) (c : Bool) (d n : Option Text) (rows : List Row) → Found numbers c d n rows
    → ended name (words_by k) rows None (is_some n) numbers rows ≡ words_with k (given c d n false)
end_numbers k is name c d n rows found =
    ap₂ (λ (fault : Kinds) (rs : List Row). at_clear (or_else fault (check_fault (shape numbers name) rs false)) (words_by k rs)) (defaults_clear numbers rows) (finished_numbers rows)
    ∙ ap (λ (b : Bool). at_clear (cond (not b || false) (kind.MissingRequiredArgument ∷ []) []) (words_by k rows)) (given_row n rows found.number)
    ∙ go n found
  where
    go : (n : Option Text) → Found numbers c d n rows → at_clear (cond (not (is_some n) || false) (kind.MissingRequiredArgument ∷ []) []) (words_by k rows) ≡ words_with k (given c d n false)
    go None found = sym (without_number k c d is)
    go (Some t) found = ap (words_with k) (reads_given k numbers is c d (Some t) rows (found_says numbers c d (Some t) rows found))

leaf_end : (k : Command) (f : Form) → form_of k ≡ f → (name : Text) (c : Bool) (d n : Option Text) (rows : List Row) → Found f c d n rows
    → reads f name (words_by k) (idle_at rows None (is_some n)) [] ≡ words_with k (given c d n false)
leaf_end k bare is name c d n rows found = step_end name (words_by k) rows None (is_some n) bare ∙ end_bare k is name c d n rows found
leaf_end k colds is name c d n rows found = step_end name (words_by k) rows None (is_some n) colds ∙ end_colds k is name c d n rows found
leaf_end k numbers is name c d n rows found = step_end name (words_by k) rows None (is_some n) numbers ∙ end_numbers k is name c d n rows found

-- ---- words

-- a folder that begins with a hyphen is none
pub due_hyphen : (k : Command) (c : Bool) (d n : Option Text) (y : Text) (rest : List Text) → words_behind k (given c d n true) ((45 ∷ y) ∷ rest) ≡ None
due_hyphen k c None n y rest = hyphen_dir k y rest (given c (Some (45 ∷ y)) n false) refl
due_hyphen k c (Some d) n y rest = refl

-- what follows, by induction, for the rest of the words
abbrev Rest : Command → Form → Text → List Text → Type 0
Rest k f name rest = (due c : Bool) (d n : Option Text) (rows : List Row) → Found f c d n rows
    → reads f name (words_by k) (cond due (due_at rows (is_some n)) (idle_at rows None (is_some n))) rest ≡ words_behind k (given c d n due) rest

abbrev pub with_rest : Command → List Text → Option Given → Option Words
with_rest k rest o = option_and_then (words_with k) (option_and_then (λ next. with_words next rest) o)

clear_again : (id : Text) (rows : List Row) (b : Bool) → has_row id rows ≡ b → repeat_fault false id rows ≡ cond b (kind.ArgumentConflict ∷ []) []
clear_again id rows b is = ap (λ (c : Bool). cond (c && true) (kind.ArgumentConflict ∷ []) []) is ∙ go b
  where
    go : (b : Bool) → cond (b && true) (kind.ArgumentConflict ∷ []) [] ≡ cond b (kind.ArgumentConflict ∷ []) []
    go true = refl
    go false = refl

dir_case : (k : Command) (f : Form) (name : Text) (rest : List Text) → Rest k f name rest → (due c : Bool) (d n : Option Text) (rows : List Row) (x : Text) → Found f c d n rows
    → dir_next name (words_by k) rows None (is_some n) rest f x rows ≡ with_rest k rest (with_dir x (given c d n due))
dir_case k f name rest more due c None n rows x found =
    ap (λ (fault : Kinds). at_clear fault (reads f name (words_by k) (idle_at (dir_used x rows) None (is_some n)) rest))
    (clear_again (codes "dir") rows false (absent (codes "dir") rows found.dir))
    ∙ more false c (Some x) n (dir_used x rows) (add_dir f c n x rows found)
dir_case k f name rest more due c (Some d) n rows x found =
    ap (λ (fault : Kinds). at_clear fault (reads f name (words_by k) (idle_at (dir_used x rows) None (is_some n)) rest))
    (clear_again (codes "dir") rows true (has_row-at (codes "dir") rows ∙ ap is_some found.dir))

-- a folder that is still to be used
dir_pending : (k : Command) (name : Text) (rest : List Text) (n : Option Text) (rows : List Row) (x : Text) (f : Form)
    → at_clear (settle_fault (rules f) false (held rows (Some (codes "dir", x ∷ [])))) (reads f name (words_by k) (idle_at (settled_rows (rules f) (Some (codes "dir", x ∷ [])) rows) None (is_some n)) rest)
    ≡ dir_next name (words_by k) rows None (is_some n) rest f x rows
dir_pending k name rest n rows x bare = at_or (repeat_fault false (codes "dir") rows) [] _
dir_pending k name rest n rows x colds = at_or (repeat_fault false (codes "dir") rows) [] _
dir_pending k name rest n rows x numbers = at_or (repeat_fault false (codes "dir") rows) [] _

number_word : (x : Text) (g : Given) → g.is_due ≡ false → IsOther x → with_word x g ≡ with_number x g
number_word x g idle other = rw (idle, other.cold, other.dir, other.dir_is) refl

pub flag_case : (k : Command) (c : Bool) (d n : Option Text) (y : Text) (rest : List Text) → with_rest k rest (with_number (45 ∷ y) (given c d n false)) ≡ None
flag_case k c d None y rest = hyphen_number k y rest (given c d (Some (45 ∷ y)) false) refl
flag_case k c d (Some n) y rest = refl

cold_case : (k : Command) (f : Form) → form_of k ≡ f → (name : Text) (rest : List Text) → Rest k f name rest → (c : Bool) (d n : Option Text) (rows : List Row) → Found f c d n rows
    → reads f name (words_by k) (idle_at rows None (is_some n)) (codes "--cold" ∷ rest) ≡ with_rest k rest (with_cold (given c d n false))
cold_case k bare is name rest more c d n rows found = no_cold name (words_by k) rows None (is_some n) rest bare (λ e. cc) ∙ sym (refused c found.only_cold)
  where
    refused : (c : Bool) → c ≡ false → with_rest k rest (with_cold (given c d n false)) ≡ None
    refused true e = refl
    refused false e = doomed k rest (given true d n false) (inl (refl, takes_by_form k bare is))
cold_case k numbers is name rest more c d n rows found = no_cold name (words_by k) rows None (is_some n) rest numbers (λ e. cc) ∙ sym (refused c)
  where
    refused : (c : Bool) → with_rest k rest (with_cold (given c d n false)) ≡ None
    refused true = refl
    refused false = doomed k rest (given true d n false) (inl (refl, takes_by_form k numbers is))
cold_case k colds is name rest more true d n rows found = step_cold name (words_by k) rows None (is_some n) rest
    ∙ ap (λ (fault : Kinds). at_clear fault (reads colds name (words_by k) (idle_at (cold_used rows) None (is_some n)) rest))
    (clear_again (codes "cold") rows true (has_row-at (codes "cold") rows ∙ ap is_some found.cold))
cold_case k colds is name rest more false d n rows found = step_cold name (words_by k) rows None (is_some n) rest
    ∙ ap (λ (fault : Kinds). at_clear fault (reads colds name (words_by k) (idle_at (cold_used rows) None (is_some n)) rest))
    (clear_again (codes "cold") rows false (absent (codes "cold") rows found.cold))
    ∙ more false true d n (cold_used rows) (add_cold d n rows found)

unnumbered : (k : Command) (x : Text) → takes_number k ≡ false → verb_of k (Some x) ≡ None
unnumbered play x h = refl
unnumbered race x h = refl
unnumbered format x h = refl
unnumbered report x h = refl
unnumbered check x h = refl
unnumbered generate x h = absurd (true≢false h)

stray_refused : (k : Command) (c : Bool) (d n : Option Text) (x : Text) (rest : List Text) → takes_number k ≡ false → with_rest k rest (with_number x (given c d n false)) ≡ None
stray_refused k c d None x rest h = doomed k rest (given c d (Some x) false) (inr (inr (x, refl, unnumbered k x h)))
stray_refused k c d (Some n) x rest h = refl

plain_case : (k : Command) (f : Form) → form_of k ≡ f → (name : Text) (rest : List Text) → Rest k f name rest → (c : Bool) (d n : Option Text) (rows : List Row) → Found f c d n rows
    → (x : Text) → bytes_eq x dashes ≡ false → NoDashes rest → IsPlain x
    → reads f name (words_by k) (idle_at rows None (is_some n)) (x ∷ rest) ≡ with_rest k rest (with_number x (given c d n false))
plain_case k bare is name rest more c d n rows found x free others plain =
    step_stray name (words_by k) rows None (is_some n) rest bare x (λ e. cc) free plain ∙ sym (stray_refused k c d n x rest (number_by_form k bare is))
plain_case k colds is name rest more c d n rows found x free others plain =
    step_stray name (words_by k) rows None (is_some n) rest colds x (λ e. cc) free plain ∙ sym (stray_refused k c d n x rest (number_by_form k colds is))
plain_case k numbers is name rest more c d (Some n) rows found x free others plain =
    step_stray name (words_by k) rows None true rest numbers x (λ e. refl) free plain
plain_case k numbers is name rest more c d None rows found x free others plain =
    step_number name (words_by k) rows None false rest x refl free plain
    ∙ settle name (words_by k) rows (codes "n", x ∷ []) true numbers rest others
    ∙ at_or (repeat_fault false (codes "n") rows) [] (reads numbers name (words_by k) (idle_at (number_used x rows) None true) rest)
    ∙ ap (λ (fault : Kinds). at_clear fault (reads numbers name (words_by k) (idle_at (number_used x rows) None true) rest))
    (clear_again (codes "n") rows false (absent (codes "n") rows found.number))
    ∙ more false c d (Some x) (number_used x rows) (add_number c d x rows found)

module _ (k : Command) (f : Form) (is : form_of k ≡ f) (name : Text) where
  due_word : (rest : List Text) → Rest k f name rest → NoDashes rest → (c : Bool) (d n : Option Text) (rows : List Row) → Found f c d n rows → (x : Text) → bytes_eq x dashes ≡ false → Sort x
      → reads f name (words_by k) (due_at rows (is_some n)) (x ∷ rest) ≡ words_behind k (given c d n true) (x ∷ rest)
  due_word rest more others c d n rows found x free (is_cold e) =
      subst (λ (z : Text). reads f name (words_by k) (due_at rows (is_some n)) (z ∷ rest) ≡ words_behind k (given c d n true) (z ∷ rest)) (sym e)
      (due_cold name (words_by k) rows (is_some n) rest f ∙ sym (due_hyphen k c d n (codes "-cold") rest))
  due_word rest more others c d n rows found x free (is_dir e) =
      subst (λ (z : Text). reads f name (words_by k) (due_at rows (is_some n)) (z ∷ rest) ≡ words_behind k (given c d n true) (z ∷ rest)) (sym e)
      (due_dir name (words_by k) rows (is_some n) rest f ∙ sym (due_hyphen k c d n (codes "-dir") rest))
  due_word rest more others c d n rows found x free (is_dir_of t e) =
      subst (λ (z : Text). reads f name (words_by k) (due_at rows (is_some n)) (z ∷ rest) ≡ words_behind k (given c d n true) (z ∷ rest)) (sym e)
      (due_dir_of name (words_by k) rows (is_some n) rest t f ∙ sym (due_hyphen k c d n (codes "-dir=" ++ t) rest))
  due_word rest more others c d n rows found x free (is_flag flag y e other) =
      due_flag name (words_by k) rows (is_some n) rest f x free flag
      ∙ sym (subst (λ (z : Text). words_behind k (given c d n true) (z ∷ rest) ≡ None) (sym e) (due_hyphen k c d n y rest))
  due_word rest more others c d n rows found x free (is_plain plain other) =
      due_plain name (words_by k) rows (is_some n) rest f x free plain
      ∙ settle name (words_by k) rows (codes "dir", x ∷ []) (is_some n) f rest others
      ∙ dir_pending k name rest n rows x f
      ∙ dir_case k f name rest more true c d n rows x found

  idle_word : (rest : List Text) → Rest k f name rest → NoDashes rest → (c : Bool) (d n : Option Text) (rows : List Row) → Found f c d n rows → (x : Text) → bytes_eq x dashes ≡ false → Sort x
      → reads f name (words_by k) (idle_at rows None (is_some n)) (x ∷ rest) ≡ words_behind k (given c d n false) (x ∷ rest)
  idle_word rest more others c d n rows found x free (is_cold e) =
      subst (λ (z : Text). reads f name (words_by k) (idle_at rows None (is_some n)) (z ∷ rest) ≡ words_behind k (given c d n false) (z ∷ rest)) (sym e)
      (cold_case k f is name rest more c d n rows found)
  idle_word rest more others c d n rows found x free (is_dir e) =
      subst (λ (z : Text). reads f name (words_by k) (idle_at rows None (is_some n)) (z ∷ rest) ≡ words_behind k (given c d n false) (z ∷ rest)) (sym e)
      (step_dir name (words_by k) rows None (is_some n) rest f ∙ more true c d n rows found)
  idle_word rest more others c d n rows found x free (is_dir_of t e) =
      subst (λ (z : Text). reads f name (words_by k) (idle_at rows None (is_some n)) (z ∷ rest) ≡ words_behind k (given c d n false) (z ∷ rest)) (sym e)
      (step_dir_of name (words_by k) rows None (is_some n) rest t f ∙ dir_case k f name rest more false c d n rows t found)
  idle_word rest more others c d n rows found x free (is_flag flag y e other) =
      step_flag name (words_by k) rows None (is_some n) rest f x free flag
      ∙ sym (ap (with_rest k rest) (number_word x (given c d n false) refl other)
      ∙ subst (λ (z : Text). with_rest k rest (with_number z (given c d n false)) ≡ None) (sym e) (flag_case k c d n y rest))
  idle_word rest more others c d n rows found x free (is_plain plain other) =
      plain_case k f is name rest more c d n rows found x free others plain
      ∙ sym (ap (with_rest k rest) (number_word x (given c d n false) refl other))

  pub leaf : (words : List Text) → NoDashes words → Rest k f name words
  leaf [] free true c d n rows found = due_end name (words_by k) rows (is_some n) f
  leaf [] free false c d n rows found = leaf_end k f is name c d n rows found
  leaf (x ∷ rest) free true c d n rows found =
      let parts = or_parts (bytes_eq x dashes) (list_any (λ w. bytes_eq w dashes) rest) free in
      due_word rest (leaf rest parts.1) parts.1 c d n rows found x parts.0 (sort_of x parts.0)
  leaf (x ∷ rest) free false c d n rows found =
      let parts = or_parts (bytes_eq x dashes) (list_any (λ w. bytes_eq w dashes) rest) free in
      idle_word rest (leaf rest parts.1) parts.1 c d n rows found x parts.0 (sort_of x parts.0)
