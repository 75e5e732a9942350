-- What `clap` makes of a word behind a command, for each sort of word.
use Rattle.std.proofs.Common.{◌≡◌, ℕ, suc, ◌+◌, Bool, true, false, cond, not, ◌||◌, List, [], ◌∷◌, ◌++◌, length, take, drop, Option, Some, None, codes, refl, sym, ap, ◌∙◌, ◌&&◌, subst, arith, nat_eq, slice_get, true≢false}
use Rattle.std.specs.List.{prefix_len, starts_with, before_first, after_first}
use Rattle.std.specs.Str.{bytes_eq, chars}
use Rattle.std.proofs.lemmas.Bool.{eqb-true}
use Rattle.std.proofs.lemmas.Slice.Eq.{bytes_eq-Decides}
use Rattle.clap.specs.Lexer.{has_byte, long_of, name_and_value, short_of}
use Rattle.clap.specs.Faults.{flag_word_fault, flags_fault}
use Rattle.clap.specs.Kinds.{Kinds}
use Rattle.clap.specs.Walk.{Held, Row, Waiting, bundle_met, long_or_other, plain_word}
use Rattle.mas_words.specs.Words.{Text}
use Rattle.mas_words.proofs.Built.{Form, bare, colds, numbers, rules}

abbrev pub is_clear : Kinds → Bool
is_clear [] = true
is_clear (k ∷ ks) = false

abbrev pub held : List Row → Option (Text × List Text) → Held
held rows pending = record { rows = rows; pending = pending; skip = 0 }

-- refused as an unknown option, or one with a value that it doesn't take
abbrev pub IsFlag : Text → Type 0
IsFlag x = (f : Form) (rows : List Row) (p : Option (Text × List Text)) → is_clear (flag_word_fault (rules f) false (long_of x) x (held rows p)) ≡ false

-- no option, but a value of whatever waits for one
pub record IsPlain (x : Text) : Type 0 where
  pub passes : (f : Form) (rows : List Row) (p : Option (Text × List Text)) → flag_word_fault (rules f) false (long_of x) x (held rows p) ≡ []
  pub met : (f : Form) (rows : List Row) (p : Option (Text × List Text)) (w : Waiting)
      → long_or_other (rules f) w x (long_of x) (held rows p) ≡ plain_word (rules f) w x (held rows p)

pub record IsOther (x : Text) : Type 0 where
  pub cold : bytes_eq x (codes "--cold") ≡ false
  pub dir : bytes_eq x (codes "--dir") ≡ false
  pub dir_is : starts_with nat_eq x (codes "--dir=") ≡ false

pub data Sort (x : Text) : Type 0 where
  is_cold : x ≡ codes "--cold" → Sort x
  is_dir : x ≡ codes "--dir" → Sort x
  is_dir_of : (d : Text) → x ≡ codes "--dir=" ++ d → Sort x
  is_flag : IsFlag x → (y : Text) → x ≡ 45 ∷ y → IsOther x → Sort x
  is_plain : IsPlain x → IsOther x → Sort x

-- ---- where an option is cut at its `=`

abbrev is_equals : ℕ → Bool
is_equals b = nat_eq b 61

both_of : (b : Bool) → b ≡ false → b ≡ true → ⊥
both_of b n y = true≢false (sym y ∙ n)

uncut : (t : Text) → has_byte 61 t ≡ false → before_first is_equals t ≡ t
uncut [] e = refl
uncut (b ∷ t) e = go (uncut t) (is_equals b) e
  where
    go : (has_byte 61 t ≡ false → before_first is_equals t ≡ t) → (c : Bool) → (c || has_byte 61 t) ≡ false → take (cond (not c) (1 + prefix_len (λ x. not (is_equals x)) t) 0) (b ∷ t) ≡ b ∷ t
    go more true h = absurd (true≢false h)
    go more false h =
        let one : 1 + prefix_len (λ x. not (is_equals x)) t ≡ suc (prefix_len (λ x. not (is_equals x)) t) = omega arith in
        rw one (ap (λ (z : Text). b ∷ z) (more h))

cut : (t : Text) → has_byte 61 t ≡ true → t ≡ before_first is_equals t ++ 61 ∷ after_first is_equals t
cut [] e = absurd (true≢false (sym e))
cut (b ∷ t) e = go (cut t) (is_equals b) refl e
  where
    go : (has_byte 61 t ≡ true → t ≡ before_first is_equals t ++ 61 ∷ after_first is_equals t) → (c : Bool) → is_equals b ≡ c → (c || has_byte 61 t) ≡ true
        → b ∷ t ≡ take (cond (not c) (1 + prefix_len (λ x. not (is_equals x)) t) 0) (b ∷ t)
        ++ 61 ∷ drop (cond (not c) (1 + prefix_len (λ x. not (is_equals x)) t) 0 + 1) (b ∷ t)
    go more true is h = ap (λ (z : ℕ). z ∷ t) (eqb-true b 61 is)
    go more false is h =
        let two : 1 + prefix_len (λ x. not (is_equals x)) t + 1 ≡ suc (prefix_len (λ x. not (is_equals x)) t + 1) = omega arith in
        let one : 1 + prefix_len (λ x. not (is_equals x)) t ≡ suc (prefix_len (λ x. not (is_equals x)) t) = omega arith in
        rw (two, one) (ap (λ (z : Text). b ∷ z) (more h))

-- ---- words with one hyphen or none

plain_from : (x : Text) → long_of x ≡ None → short_of x ≡ None → IsPlain x
plain_from x long short = record {
  passes = λ f rows p. rw (long, short) refl;
  met = λ f rows p w. rw (long, short) refl;
}

unknown : (f : Form) (rows : List Row) (p : Option (Text × List Text)) (b : ℕ) (ys : Text) (c : ℕ) → slice_get (chars (b ∷ ys)) 0 ≡ Some c
    → is_clear (flags_fault (rules f) false (length (b ∷ ys)) (b ∷ ys) 0 (held rows p)) ≡ false
unfolding flags_fault
unknown bare rows p b ys c some = rw some refl
unknown colds rows p b ys c some = rw some refl
unknown numbers rows p b ys c some = rw some refl

one_hyphen : (b : ℕ) (ys : Text) → long_of (45 ∷ b ∷ ys) ≡ None → short_of (45 ∷ b ∷ ys) ≡ Some (b ∷ ys) → IsOther (45 ∷ b ∷ ys) → Sort (45 ∷ b ∷ ys)
unfolding flags_fault bundle_met
one_hyphen b ys long short other = go (slice_get (chars (b ∷ ys)) 0) refl
  where
    go : (o : Option ℕ) → slice_get (chars (b ∷ ys)) 0 ≡ o → Sort (45 ∷ b ∷ ys)
    go None none = is_plain (record { passes = λ f rows p. rw (long, short, none) refl; met = λ f rows p w. rw (long, short, none) refl }) other
    go (Some c) some = is_flag (λ f rows p. rw (long, short) (unknown f rows p b ys c some)) (b ∷ ys) refl other

-- ---- words with two

-- an option with this name that is none of ours, or a value at `--cold`
two_hyphens : (x name : Text) (v : Option Text) → long_of x ≡ Some (name, v) → (bytes_eq (codes "dir") name ≡ false)
    → (bytes_eq (codes "cold") name ≡ true → (d : Text) × (v ≡ Some d)) → IsFlag x
two_hyphens x name v long no_dir cold = go (bytes_eq (codes "cold") name) refl
  where
    go : (c : Bool) → bytes_eq (codes "cold") name ≡ c → IsFlag x
    go false no_cold bare rows p = rw (long, no_dir) refl
    go false no_cold colds rows p = rw (long, no_dir, no_cold) refl
    go false no_cold numbers rows p = rw (long, no_dir) refl
    go true is bare rows p = rw (long, no_dir) refl
    go true is colds rows p = let d = cold is in rw (long, no_dir, is, d.1) refl
    go true is numbers rows p = rw (long, no_dir) refl

dir_named : (t : Text) → bytes_eq (codes "dir") (before_first is_equals t) ≡ true → IsOther (45 ∷ 45 ∷ t) → ⊥
dir_named t named other = go (has_byte 61 t) refl
  where
    name_is : codes "dir" ≡ before_first is_equals t
    name_is = (bytes_eq-Decides _ _).0 named

    go : (c : Bool) → has_byte 61 t ≡ c → ⊥
    go false h =
        let t_is : t ≡ codes "dir" = sym (name_is ∙ uncut t h) in
        both_of (bytes_eq (45 ∷ 45 ∷ t) (codes "--dir")) other.dir (ap (λ (z : Text). bytes_eq (45 ∷ 45 ∷ z) (codes "--dir")) t_is)
    go true h =
        let t_is : t ≡ codes "dir" ++ 61 ∷ after_first is_equals t =
        cut t h ∙ ap (λ (z : Text). z ++ 61 ∷ after_first is_equals t) (sym name_is) in
        both_of (starts_with nat_eq (45 ∷ 45 ∷ t) (codes "--dir=")) other.dir_is
        (ap (λ (z : Text). starts_with nat_eq (45 ∷ 45 ∷ z) (codes "--dir=")) t_is)

cold_valued : (t : Text) → bytes_eq (codes "cold") (before_first is_equals t) ≡ true → IsOther (45 ∷ 45 ∷ t) → (d : Text) × ((name_and_value t).1 ≡ Some d)
cold_valued t named other = go (has_byte 61 t) refl
  where
    name_is : codes "cold" ≡ before_first is_equals t
    name_is = (bytes_eq-Decides _ _).0 named

    go : (c : Bool) → has_byte 61 t ≡ c → (d : Text) × ((name_and_value t).1 ≡ Some d)
    go false h =
        let t_is : t ≡ codes "cold" = sym (name_is ∙ uncut t h) in
        absurd (both_of (bytes_eq (45 ∷ 45 ∷ t) (codes "--cold")) other.cold (ap (λ (z : Text). bytes_eq (45 ∷ 45 ∷ z) (codes "--cold")) t_is))
    go true h = (after_first is_equals t, rw h refl)

long_sort : (y : ℕ) (ys : Text) → IsOther (45 ∷ 45 ∷ y ∷ ys) → Sort (45 ∷ 45 ∷ y ∷ ys)
long_sort y ys other = go (bytes_eq (codes "dir") (before_first is_equals (y ∷ ys))) refl
  where
    go : (c : Bool) → bytes_eq (codes "dir") (before_first is_equals (y ∷ ys)) ≡ c → Sort (45 ∷ 45 ∷ y ∷ ys)
    go true named = absurd (dir_named (y ∷ ys) named other)
    go false no_dir = is_flag (two_hyphens (45 ∷ 45 ∷ y ∷ ys) (name_and_value (y ∷ ys)).0 (name_and_value (y ∷ ys)).1 refl no_dir
        (λ named. cold_valued (y ∷ ys) named other)) (45 ∷ y ∷ ys) refl other

-- ---- all words

hyphened : (xs : Text) → bytes_eq (45 ∷ xs) (45 ∷ 45 ∷ []) ≡ false → IsOther (45 ∷ xs) → Sort (45 ∷ xs)
hyphened [] free other = is_plain (plain_from (45 ∷ []) refl refl) other
hyphened (b ∷ ys) free other = go (nat_eq b 45) refl
  where
    two : (c : ℕ) (zs : Text) → c ≡ 45 → bytes_eq (45 ∷ c ∷ zs) (45 ∷ 45 ∷ []) ≡ false → IsOther (45 ∷ c ∷ zs) → Sort (45 ∷ c ∷ zs)
    two c [] is free other = absurd (both_of (bytes_eq (45 ∷ c ∷ []) (45 ∷ 45 ∷ [])) free (ap (λ (z : ℕ). bytes_eq (45 ∷ z ∷ []) (45 ∷ 45 ∷ [])) is))
    two c (z ∷ zs) is free other = subst (λ (d : ℕ). IsOther (45 ∷ d ∷ z ∷ zs) → Sort (45 ∷ d ∷ z ∷ zs)) (sym is) (long_sort z zs) other

    go : (c : Bool) → nat_eq b 45 ≡ c → Sort (45 ∷ b ∷ ys)
    go true is = two b ys (eqb-true b 45 is) free other
    go false is = one_hyphen b ys (rw is refl) (rw is refl) other

other_sort : (x : Text) → bytes_eq x (45 ∷ 45 ∷ []) ≡ false → IsOther x → Sort x
other_sort [] free other = is_plain (plain_from [] refl refl) other
other_sort (a ∷ xs) free other = go (nat_eq a 45) refl
  where
    go : (c : Bool) → nat_eq a 45 ≡ c → Sort (a ∷ xs)
    go true is = subst (λ (d : ℕ). bytes_eq (d ∷ xs) (45 ∷ 45 ∷ []) ≡ false → IsOther (d ∷ xs) → Sort (d ∷ xs)) (sym (eqb-true a 45 is)) (hyphened xs) free other
    go false is = is_plain (plain_from (a ∷ xs) (rw is refl) (rw is refl)) other

-- a text that begins so
begun : (x p : Text) → starts_with nat_eq x p ≡ true → (d : Text) × (x ≡ p ++ d)
begun x [] e = (x, refl)
begun [] (b ∷ p) e = absurd (true≢false (sym e))
begun (a ∷ x) (b ∷ p) e = go (begun x p) (nat_eq b a) refl e
  where
    go : (starts_with nat_eq x p ≡ true → (d : Text) × (x ≡ p ++ d)) → (c : Bool) → nat_eq b a ≡ c → (c && starts_with nat_eq x p) ≡ true → (d : Text) × (a ∷ x ≡ (b ∷ p) ++ d)
    go more true is h =
        let rest = more h in
        (rest.0, ap (λ (z : ℕ). z ∷ x) (sym (eqb-true b a is)) ∙ ap (λ (z : Text). b ∷ z) rest.1)
    go more false is h = absurd (true≢false (sym h))

pub sort_of : (x : Text) → bytes_eq x (45 ∷ 45 ∷ []) ≡ false → Sort x
sort_of x free = go (bytes_eq x (codes "--cold")) refl (bytes_eq x (codes "--dir")) refl (starts_with nat_eq x (codes "--dir=")) refl
  where
    go : (c : Bool) → bytes_eq x (codes "--cold") ≡ c → (d : Bool) → bytes_eq x (codes "--dir") ≡ d
        → (e : Bool) → starts_with nat_eq x (codes "--dir=") ≡ e → Sort x
    go true cold d dir e starts = is_cold ((bytes_eq-Decides _ _).0 cold)
    go false cold true dir e starts = is_dir ((bytes_eq-Decides _ _).0 dir)
    go false cold false dir true starts = let rest = begun x (codes "--dir=") starts in is_dir_of rest.0 rest.1
    go false cold false dir false starts = other_sort x free (record { cold = cold; dir = dir; dir_is = starts })
