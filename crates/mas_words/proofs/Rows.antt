-- What the rows of a walk say of the options behind a command.
use Rattle.std.proofs.Common.{◌≡◌, ◌∙◌, Bool, true, false, cond, ◌||◌, List, [], ◌∷◌, ◌++◌, Option, Some, None, is_some, codes, refl, sym, ap, subst, append-nil, slice_get, true≢false}
use Rattle.std.specs.Prelude.{option_and_then, option_map, find}
use Rattle.std.specs.Str.{bytes_eq}
use Rattle.clap.specs.Walk.{Row, at_row, first_of, has_row, more_values, with_values, without}
use Rattle.clap.specs.declared.builder.value_parser.Reading.TheVariants.{AsWritten}
use Rattle.clap.specs.declared.parser.matches.ValueSource.{ValueSource}
use Rattle.clap.specs.declared.parser.matches.ValueSource.TheVariants.{CommandLine, DefaultValue}
use Rattle.mas_words.specs.Words.{Text}
use Rattle.mas_words.specs.Program.{is_set}
use Rattle.mas_words.proofs.Built.{Form, bare, colds, numbers}
use Rattle.mas_words.proofs.Steps.{cold_used, dir_used, number_used}

abbrev pub row_at : Text → List Row → Option Row
row_at id rows = find (λ r. bytes_eq r.id id) rows

abbrev pub one_row : Text → ValueSource → Text → Row
one_row id source value = record { id = id; values = value ∷ []; count = None; source = Some source; reading = AsWritten }

abbrev pub cold_row : Row
cold_row = one_row (codes "cold") CommandLine (codes "true")

abbrev pub dir_row : Text → Row
dir_row d = one_row (codes "dir") CommandLine d

abbrev pub number_row : Text → Row
number_row t = one_row (codes "n") CommandLine t

-- ---- rows by their id

pub has_row-at : (id : Text) (rows : List Row) → has_row id rows ≡ is_some (row_at id rows)
has_row-at id [] = refl
has_row-at id (r ∷ rs) = go (has_row-at id rs) (bytes_eq r.id id)
  where
    go : has_row id rs ≡ is_some (row_at id rs) → (b : Bool) → (b || has_row id rs) ≡ is_some (cond b (Some r) (row_at id rs))
    go more true = refl
    go more false = more

at_row-absent : (id : Text) (change : Row → List Row) (missing rows : List Row) → has_row id rows ≡ false → at_row id change missing rows ≡ rows ++ missing
at_row-absent id change missing [] h = refl
at_row-absent id change missing (r ∷ rs) h = go (at_row-absent id change missing rs) (bytes_eq r.id id) h
  where
    go : (has_row id rs ≡ false → at_row id change missing rs ≡ rs ++ missing) → (b : Bool) → (b || has_row id rs) ≡ false → cond b (change r ++ rs) (r ∷ at_row id change missing rs) ≡ (r ∷ rs) ++ missing
    go more true e = absurd (true≢false e)
    go more false e = ap (λ (z : List Row). r ∷ z) (more e)

appended_other : (id : Text) (rows : List Row) (r : Row) → bytes_eq r.id id ≡ false → row_at id (rows ++ r ∷ []) ≡ row_at id rows
appended_other id [] r h = rw h refl
appended_other id (x ∷ rows) r h = ap (λ (o : Option Row). cond (bytes_eq x.id id) (Some x) o) (appended_other id rows r h)

appended_same : (id : Text) (rows : List Row) (r : Row) → bytes_eq r.id id ≡ true → row_at id rows ≡ None → row_at id (rows ++ r ∷ []) ≡ Some r
appended_same id [] r h none = rw h refl
appended_same id (x ∷ rows) r h none = go (appended_same id rows r h) (bytes_eq x.id id) none
  where
    go : (row_at id rows ≡ None → row_at id (rows ++ r ∷ []) ≡ Some r) → (b : Bool) → cond b (Some x) (row_at id rows) ≡ None → cond b (Some x) (row_at id (rows ++ r ∷ [])) ≡ Some r
    go more true e = cc
    go more false e = more e

pub absent : (id : Text) (rows : List Row) → row_at id rows ≡ None → has_row id rows ≡ false
absent id rows none = has_row-at id rows ∙ ap is_some none

with_absent : (id : Text) (source : ValueSource) (value : Text) (rows : List Row) → row_at id rows ≡ None
    → with_values id AsWritten source (value ∷ []) rows ≡ rows ++ one_row id source value ∷ []
with_absent id source value rows none = at_row-absent id (more_values source (value ∷ [])) (one_row id source value ∷ []) rows (absent id rows none)

used_absent : (id value : Text) (rows : List Row) → row_at id rows ≡ None
    → with_values id AsWritten CommandLine (value ∷ []) (without id rows) ≡ rows ++ one_row id CommandLine value ∷ []
used_absent id value rows none =
    let same : without id rows ≡ rows = at_row-absent id (λ _. []) [] rows (absent id rows none) ∙ append-nil rows in
    ap (with_values id AsWritten CommandLine (value ∷ [])) same ∙ with_absent id CommandLine value rows none

-- ---- the options

abbrev pub OnlyCold : Form → Bool → Type 0
OnlyCold colds c = Unit {0}
OnlyCold _ c = c ≡ false

abbrev pub OnlyNumber : Form → Option Text → Type 0
OnlyNumber numbers n = Unit {0}
OnlyNumber _ n = n ≡ None

-- the rows of what was given, where all of it is settled
pub record Found (f : Form) (c : Bool) (d n : Option Text) (rows : List Row) : Type 0 where
  pub cold : row_at (codes "cold") rows ≡ cond c (Some cold_row) None
  pub dir : row_at (codes "dir") rows ≡ option_map dir_row d
  pub number : row_at (codes "n") rows ≡ option_map number_row n
  pub only_cold : OnlyCold f c
  pub only_number : OnlyNumber f n

pub found_none : (f : Form) → Found f false None None []
found_none f = record { cold = refl; dir = refl; number = refl; only_cold = first f; only_number = second f }
  where
    first : (f : Form) → OnlyCold f false
    first bare = refl
    first colds = tt
    first numbers = refl

    second : (f : Form) → OnlyNumber f None
    second bare = refl
    second colds = refl
    second numbers = tt

pub add_cold : (d n : Option Text) (rows : List Row) → Found colds false d n rows → Found colds true d n (cold_used rows)
add_cold d n rows found = subst (Found colds true d n) (sym (used_absent (codes "cold") (codes "true") rows found.cold)) (record {
  cold = appended_same (codes "cold") rows cold_row refl found.cold;
  dir = appended_other (codes "dir") rows cold_row refl ∙ found.dir;
  number = appended_other (codes "n") rows cold_row refl ∙ found.number;
  only_cold = tt;
  only_number = found.only_number;
})

pub add_dir : (f : Form) (c : Bool) (n : Option Text) (x : Text) (rows : List Row) → Found f c None n rows → Found f c (Some x) n (dir_used x rows)
add_dir f c n x rows found = subst (Found f c (Some x) n) (sym (used_absent (codes "dir") x rows found.dir)) (record {
  cold = appended_other (codes "cold") rows (dir_row x) refl ∙ found.cold;
  dir = appended_same (codes "dir") rows (dir_row x) refl found.dir;
  number = appended_other (codes "n") rows (dir_row x) refl ∙ found.number;
  only_cold = found.only_cold;
  only_number = found.only_number;
})

pub add_number : (c : Bool) (d : Option Text) (x : Text) (rows : List Row) → Found numbers c d None rows → Found numbers c d (Some x) (number_used x rows)
add_number c d x rows found = subst (Found numbers c d (Some x)) (sym (used_absent (codes "n") x rows found.number)) (record {
  cold = appended_other (codes "cold") rows (number_row x) refl ∙ found.cold;
  dir = appended_other (codes "dir") rows (number_row x) refl ∙ found.dir;
  number = appended_same (codes "n") rows (number_row x) refl found.number;
  only_cold = found.only_cold;
  only_number = tt;
})

-- what is read of rows
pub record Says (f : Form) (c : Bool) (d n : Option Text) (rows : List Row) : Type 0 where
  pub cold : is_set (first_of (codes "cold") rows) ≡ c
  pub dir : first_of (codes "dir") rows ≡ d
  pub number : first_of (codes "n") rows ≡ n
  pub only_cold : OnlyCold f c
  pub only_number : OnlyNumber f n

first_value : (id : Text) (row : Text → Row) (rows : List Row) (o : Option Text) → ((t : Text) → (row t).values ≡ t ∷ []) → row_at id rows ≡ option_map row o → first_of id rows ≡ o
first_value id row rows o values is = ap (option_and_then (λ (r : Row). slice_get r.values 0)) is ∙ go o
  where
    go : (o : Option Text) → option_and_then (λ (r : Row). slice_get r.values 0) (option_map row o) ≡ o
    go None = refl
    go (Some t) = ap (λ (vs : List Text). slice_get vs 0) (values t)

pub found_says : (f : Form) (c : Bool) (d n : Option Text) (rows : List Row) → Found f c d n rows → Says f c d n rows
found_says f c d n rows found = record {
  cold = ap (λ (o : Option Row). is_set (option_and_then (λ (r : Row). slice_get r.values 0) o)) found.cold ∙ cold_set c;
  dir = first_value (codes "dir") dir_row rows d (λ t. refl) found.dir;
  number = first_value (codes "n") number_row rows n (λ t. refl) found.number;
  only_cold = found.only_cold;
  only_number = found.only_number;
}
  where
    cold_set : (c : Bool) → is_set (option_and_then (λ (r : Row). slice_get r.values 0) (cond c (Some cold_row) None)) ≡ c
    cold_set true = refl
    cold_set false = refl

-- what rows say is the same with the default of `--cold`
pub default_says : (d n : Option Text) (rows : List Row) → Found colds false d n rows
    → Says colds false d n (with_values (codes "cold") AsWritten DefaultValue (codes "false" ∷ []) rows)
default_says d n rows found =
    let unset = one_row (codes "cold") DefaultValue (codes "false") in
    subst (Says colds false d n) (sym (with_absent (codes "cold") DefaultValue (codes "false") rows found.cold)) (record {
      cold = ap (λ (o : Option Row). is_set (option_and_then (λ (r : Row). slice_get r.values 0) o)) (appended_same (codes "cold") rows unset refl found.cold);
      dir = first_value (codes "dir") dir_row (rows ++ unset ∷ []) d (λ t. refl) (appended_other (codes "dir") rows unset refl ∙ found.dir);
      number = first_value (codes "n") number_row (rows ++ unset ∷ []) n (λ t. refl) (appended_other (codes "n") rows unset refl ∙ found.number);
      only_cold = tt;
      only_number = found.only_number;
    })
