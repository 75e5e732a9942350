-- The fronts of padded names.
use Rattle.std.proofs.Common.{◌≡◌, ℕ, zero, suc, ◌+◌, ◌-◌, ◌≤◌, ◌<◌, Bool, true, false, List, [], ◌∷◌, ◌++◌, length, replicate, refl, sym, ap, ◌∙◌, append_assoc, arith}
use Rattle.std.specs.Prelude.{◌==◌, ◌&&◌, if◌then◌else◌, codes}
use Rattle.std.specs.List.{list_all}
use Rattle.std.proofs.lemmas.Bool.{and_parts, and_from}
use Rattle.std.proofs.lemmas.List.{append-nil, length-append, length-replicate}
use Rattle.std.proofs.lemmas.List.Folds.{list_all-append}
use Rattle.mas_types.specs.declared.ids.Name8.{Name8}
use Rattle.mas_types.specs.Fit.{IsName}
use Rattle.mas_types.specs.Limits.{name_bytes}
use Rattle.mas_types.specs.Names.{is_name_byte, is_blank, is_padded, is_name8}
use Rattle.lay_bytes.proofs.NameLemmas.{name_from, name_to}
use Rattle.nje_frames.specs.Reading.{begins_name, name_of, name_at}
use Rattle.nje_frames.proofs.Readers.{Begins, Fronts, Reads, part_reads}

abbrev pub name_bytes_of : Name8 → List ℕ
name_bytes_of name = name.0

blanks_are : (k : ℕ) → list_all is_blank (replicate k 32) ≡ true
blanks_are zero = refl
blanks_are (suc k) = blanks_are k

-- blanks may follow what is padded
padded-blanks : (text : List ℕ) (k : ℕ) → is_padded text ≡ true → is_padded (text ++ replicate k 32) ≡ true
padded-blanks [] zero h = refl
padded-blanks [] (suc k) h = blanks_are k
padded-blanks (b ∷ text) k h = go (λ e. padded-blanks text k e) (is_name_byte b) refl
  where
    go : (is_padded text ≡ true → is_padded (text ++ replicate k 32) ≡ true) → (t : Bool) → is_name_byte b ≡ t → is_padded (b ∷ (text ++ replicate k 32)) ≡ true
    go further true e = rw e (further (rw e at h))
    go further false e =
        let blanks = rw e at h in
        rw e (list_all-append is_blank (b ∷ text) (replicate k 32) ∙ and_from (list_all is_blank (b ∷ text)) (list_all is_blank (replicate k 32)) blanks (blanks_are k))

-- each front of what is padded is so
padded-front : (front more : List ℕ) → is_padded (front ++ more) ≡ true → is_padded front ≡ true
padded-front [] more h = refl
padded-front (b ∷ front) more h = go (λ e. padded-front front more e) (is_name_byte b) refl
  where
    go : (is_padded (front ++ more) ≡ true → is_padded front ≡ true) → (t : Bool) → is_name_byte b ≡ t → is_padded (b ∷ front) ≡ true
    go further true e = rw e (further (rw e at h))
    go further false e =
        let blanks = rw e at h in
        let parts = and_parts (list_all is_blank (b ∷ front)) (list_all is_blank more) (sym (list_all-append is_blank (b ∷ front) more) ∙ blanks) in
        rw e parts.0

padded-first : (b : ℕ) (text : List ℕ) → is_name_byte b ≡ true → is_padded (b ∷ text) ≡ is_padded text
padded-first b text e = rw e refl

-- some name
pub any_name : Name8
any_name = record { 0 = codes "A       " }

pub any_name_fits : IsName any_name
unfolding any_name
any_name_fits = name_to (record { 0 = codes "A       " }) refl refl

pub name_wide : (name : Name8) → IsName name → length name.0 ≡ name_bytes
name_wide name h = (name_from name h).0

name_sound : (front : List ℕ) → length front ≤ name_bytes → begins_name front ≡ true → Begins IsName name_bytes_of front
unfolding any_name
name_sound [] le h = record { x = any_name; more = codes "A       "; fits = any_name_fits; is = refl }
name_sound (b ∷ text) le h =
    let parts = and_parts (is_name_byte b) (is_padded text) h in
    let k = name_bytes - length (b ∷ text) in
    let whole = b ∷ (text ++ replicate k 32) in
    let len : length whole ≡ name_bytes = omega (arith, length-append text (replicate k 32), length-replicate {A = ℕ} k 32) in
    let padded : is_padded whole ≡ true = padded-first b (text ++ replicate k 32) parts.0 ∙ padded-blanks text k parts.1 in
    record { x = record { 0 = whole }; more = replicate k 32; fits = name_to (record { 0 = whole }) len (and_from (is_name_byte b) (is_padded whole) parts.0 padded); is = refl }

name_complete : (front : List ℕ) → Begins IsName name_bytes_of front → begins_name front ≡ true
name_complete [] b = refl
name_complete (c ∷ text) b =
    let from = name_from b.x b.fits in
    let is8 : is_name8 (c ∷ (text ++ b.more)) ≡ true = ap is_name8 (sym b.is) ∙ from.1 in
    let parts = and_parts (is_name_byte c) (is_padded (c ∷ (text ++ b.more))) is8 in
    let padded : is_padded (text ++ b.more) ≡ true = sym (padded-first c (text ++ b.more) parts.0) ∙ parts.1 in
    and_from (is_name_byte c) (is_padded text) parts.0 (padded-front text b.more padded)

pub name_fronts : Fronts IsName name_bytes_of begins_name name_bytes name_of
name_fronts = record { wide = name_wide; back = λ name h. refl; sound = name_sound; complete = name_complete }

pub name_reads : Reads IsName name_bytes_of name_at
unfolding name_at
name_reads = part_reads IsName name_bytes_of begins_name name_bytes name_of name_fronts refl
