-- One word more on `clap`'s walk at a command, for each sort of word.
use Rattle.std.proofs.Common.{◌≡◌, ◌∙◌, Bool, true, false, cond, ◌&&◌, List, [], ◌∷◌, ◌++◌, Option, Some, None, codes, refl, sym, ap, subst}
use Rattle.std.specs.Str.{bytes_eq}
use Rattle.std.specs.List.{list_any}
use Rattle.std.proofs.lemmas.Bool.{or_parts}
use Rattle.clap.specs.Faults.{check_fault, defaults_fault, repeat_fault, settle_fault, turn_fault, word_fault}
use Rattle.clap.specs.Kinds.{Kinds, or_else}
use Rattle.clap.specs.Walk.{Row, Walk, idle, option, finished, is_pending, settled, settled_rows, walked, with_values, without}
use Rattle.clap.specs.declared.builder.value_parser.Reading.TheVariants.{AsWritten}
use Rattle.clap.specs.declared.parser.matches.ValueSource.TheVariants.{CommandLine}
use Rattle.mas_words.specs.Words.{Text}
use Rattle.mas_words.proofs.Built.{Form, bare, colds, numbers, number_rule, rules, shape}
use Rattle.mas_words.proofs.Sorts.{IsFlag, IsPlain, Sort, is_cold, is_dir, is_dir_of, is_flag, is_plain, held, is_clear, sort_of}

abbrev pub dashes : Text
dashes = 45 ∷ 45 ∷ []

module _ {X : Type 0} where
  -- o, where no kind of error stands before it
  abbrev pub at_clear : Kinds → Option X → Option X
  at_clear [] o = o
  at_clear (k ∷ ks) o = None

  pub at_or : (a b : Kinds) (o : Option X) → at_clear (or_else a b) o ≡ at_clear a (at_clear b o)
  at_or [] b o = refl
  at_or (k ∷ ks) b o = refl

  pub at_none : (a : Kinds) → at_clear a None ≡ None
  at_none [] = refl
  at_none (k ∷ ks) = refl

  pub at_fault : (a : Kinds) (o : Option X) → is_clear a ≡ false → at_clear a o ≡ None
  at_fault [] o h = cc
  at_fault (k ∷ ks) o h = refl

  -- what follows a walk at its end, and over words
  abbrev pub ends : Form → Text → (List Row → Option X) → Walk → Option X
  ends f name take w = at_clear (or_else (settle_fault (rules f) false w.held)
      (or_else (defaults_fault (settled (rules f) w.held).rows (rules f)) (check_fault (shape f name) (finished (rules f) w.held) false)))
      (take (finished (rules f) w.held))

  unfoldable pub reads : Form → Text → (List Row → Option X) → Walk → List Text → Option X
  reads f name take w [] = ends f name take w
  reads f name take w (x ∷ rest) = at_clear (turn_fault (shape f name) [] w x) (reads f name take (walked (rules f) [] w x) rest)

and_false : (b : Bool) → (b && false) ≡ false
and_false true = refl
and_false false = refl

-- where the walk stands between two options, and behind `--dir`
abbrev pub idle_at : List Row → Option (Text × List Text) → Bool → Walk
idle_at rows p has_number = record {
  held = held rows p;
  waiting = idle;
  position = cond has_number 2 1;
  is_trailing = false;
  stopped = None;
}

abbrev pub due_at : List Row → Bool → Walk
due_at rows has_number = record {
  held = held rows (Some (codes "dir", []));
  waiting = option (codes "dir");
  position = cond has_number 2 1;
  is_trailing = false;
  stopped = None;
}

abbrev pub cold_used : List Row → List Row
cold_used rows = with_values (codes "cold") AsWritten CommandLine (codes "true" ∷ []) (without (codes "cold") rows)

abbrev pub dir_used : Text → List Row → List Row
dir_used d rows = with_values (codes "dir") AsWritten CommandLine (d ∷ []) (without (codes "dir") rows)

abbrev pub number_used : Text → List Row → List Row
number_used t rows = with_values (codes "n") AsWritten CommandLine (t ∷ []) (without (codes "n") rows)

module _ {X : Type 0} (name : Text) (take : List Row → Option X) (rows : List Row) (p : Option (Text × List Text)) (has_number : Bool) where
  abbrev sf : Form → Kinds
  sf f = settle_fault (rules f) false (held rows p)

  abbrev R : Form → List Row
  R f = settled_rows (rules f) p rows

  -- the end
  abbrev pub ended : Form → List Row → Option X
  ended f rs = at_clear (or_else (defaults_fault rs (rules f)) (check_fault (shape f name) (finished (rules f) (held rs None)) false)) (take (finished (rules f) (held rs None)))

  pub step_end : (f : Form) → reads f name take (idle_at rows p has_number) [] ≡ at_clear (sf f) (ended f (R f))
  unfolding reads
  step_end f = at_or (sf f) _ _

  module _ (rest : List Text) where
    pub step_cold : reads colds name take (idle_at rows p has_number) (codes "--cold" ∷ rest)
        ≡ at_clear (sf colds) (at_clear (repeat_fault false (codes "cold") (R colds)) (reads colds name take (idle_at (cold_used (R colds)) None has_number) rest))
    unfolding reads walked
    step_cold =
        let next = reads colds name take (idle_at (cold_used (R colds)) None has_number) rest in
        let again = repeat_fault false (codes "cold") (R colds) in
        at_or (or_else (sf colds) (or_else again [])) [] next ∙ at_or (sf colds) (or_else again []) next ∙ ap (at_clear (sf colds)) (at_or again [] next)

    pub no_cold : (f : Form) → (f ≡ colds → ⊥) → reads f name take (idle_at rows p has_number) (codes "--cold" ∷ rest) ≡ None
    unfolding reads walked
    no_cold bare h = refl
    no_cold colds h = absurd (h refl)
    no_cold numbers h = refl

    pub step_dir : (f : Form) → reads f name take (idle_at rows p has_number) (codes "--dir" ∷ rest) ≡ at_clear (sf f) (reads f name take (due_at (R f) has_number) rest)
    unfolding reads walked
    step_dir bare = at_or (sf bare) [] _
    step_dir colds = at_or (sf colds) [] _
    step_dir numbers = at_or (sf numbers) [] _

    abbrev pub dir_next : Form → Text → List Row → Option X
    dir_next f d rs = at_clear (repeat_fault false (codes "dir") rs) (reads f name take (idle_at (dir_used d rs) None has_number) rest)

    of_dir : (d : Text) (f : Form) → at_clear (or_else (or_else (sf f) (or_else (repeat_fault false (codes "dir") (R f)) [])) []) (reads f name take (idle_at (dir_used d (R f)) None has_number) rest)
        ≡ at_clear (sf f) (dir_next f d (R f))
    of_dir d f =
        let next = reads f name take (idle_at (dir_used d (R f)) None has_number) rest in
        let again = repeat_fault false (codes "dir") (R f) in
        at_or (or_else (sf f) (or_else again [])) [] next ∙ at_or (sf f) (or_else again []) next ∙ ap (at_clear (sf f)) (at_or again [] next)

    pub step_dir_of : (d : Text) (f : Form) → reads f name take (idle_at rows p has_number) ((codes "--dir=" ++ d) ∷ rest) ≡ at_clear (sf f) (dir_next f d (R f))
    unfolding reads walked
    step_dir_of d bare = of_dir d bare
    step_dir_of d colds = of_dir d colds
    step_dir_of d numbers = of_dir d numbers

    pub step_flag : (f : Form) (x : Text) → bytes_eq x dashes ≡ false → IsFlag x → reads f name take (idle_at rows p has_number) (x ∷ rest) ≡ None
    unfolding reads walked
    step_flag f x free flag =
        let fault : is_clear (word_fault (shape f name) [] false idle x (held rows p)) ≡ false = rw free (flag f rows p) in
        at_or (word_fault (shape f name) [] false idle x (held rows p)) _ _ ∙ at_fault (word_fault (shape f name) [] false idle x (held rows p)) _ fault

    pub step_number : (x : Text) → has_number ≡ false → bytes_eq x dashes ≡ false → IsPlain x
        → reads numbers name take (idle_at rows p has_number) (x ∷ rest) ≡ at_clear (sf numbers) (reads numbers name take (idle_at (R numbers) (Some (codes "n", x ∷ [])) true) rest)
    unfolding reads walked
    step_number x none free plain = rw (none, free, plain.passes numbers rows p, plain.met numbers rows p idle, and_false (is_pending number_rule p)) refl

    pub step_stray : (f : Form) (x : Text) → (f ≡ numbers → has_number ≡ true) → bytes_eq x dashes ≡ false → IsPlain x
        → reads f name take (idle_at rows p has_number) (x ∷ rest) ≡ None
    unfolding reads walked
    step_stray bare x some free plain = rw (free, plain.passes bare rows p, plain.met bare rows p idle) refl
    step_stray colds x some free plain = rw (free, plain.passes colds rows p, plain.met colds rows p idle) refl
    step_stray numbers x some free plain = rw (some refl, free, plain.passes numbers rows p, plain.met numbers rows p idle) refl

-- the walk's steps after `--dir`
module _ {X : Type 0} (name : Text) (take : List Row → Option X) (rows : List Row) (has_number : Bool) where
  pub due_end : (f : Form) → reads f name take (due_at rows has_number) [] ≡ None
  unfolding reads
  due_end bare = refl
  due_end colds = refl
  due_end numbers = refl

  module _ (rest : List Text) where
    pub due_cold : (f : Form) → reads f name take (due_at rows has_number) (codes "--cold" ∷ rest) ≡ None
    unfolding reads walked
    due_cold bare = refl
    due_cold colds = refl
    due_cold numbers = refl

    pub due_dir : (f : Form) → reads f name take (due_at rows has_number) (codes "--dir" ∷ rest) ≡ None
    unfolding reads walked
    due_dir bare = refl
    due_dir colds = refl
    due_dir numbers = refl

    pub due_dir_of : (d : Text) (f : Form) → reads f name take (due_at rows has_number) ((codes "--dir=" ++ d) ∷ rest) ≡ None
    unfolding reads walked
    due_dir_of d bare = refl
    due_dir_of d colds = refl
    due_dir_of d numbers = refl

    pub due_flag : (f : Form) (x : Text) → bytes_eq x dashes ≡ false → IsFlag x → reads f name take (due_at rows has_number) (x ∷ rest) ≡ None
    unfolding reads walked
    due_flag f x free flag =
        let fault : is_clear (word_fault (shape f name) [] false (option (codes "dir")) x (held rows (Some (codes "dir", [])))) ≡ false = rw free (flag f rows (Some (codes "dir", []))) in
        at_or (word_fault (shape f name) [] false (option (codes "dir")) x (held rows (Some (codes "dir", [])))) _ _
        ∙ at_fault (word_fault (shape f name) [] false (option (codes "dir")) x (held rows (Some (codes "dir", [])))) _ fault

    pub due_plain : (f : Form) (x : Text) → bytes_eq x dashes ≡ false → IsPlain x
        → reads f name take (due_at rows has_number) (x ∷ rest) ≡ reads f name take (idle_at rows (Some (codes "dir", x ∷ [])) has_number) rest
    unfolding reads walked
    due_plain bare x free plain = rw (free, plain.passes bare rows (Some (codes "dir", [])), plain.met bare rows (Some (codes "dir", [])) (option (codes "dir"))) refl
    due_plain colds x free plain = rw (free, plain.passes colds rows (Some (codes "dir", [])), plain.met colds rows (Some (codes "dir", [])) (option (codes "dir"))) refl
    due_plain numbers x free plain = rw (free, plain.passes numbers rows (Some (codes "dir", [])), plain.met numbers rows (Some (codes "dir", [])) (option (codes "dir"))) refl

-- ---- what is pending is used first

both_none : {X : Type 0} (s : Kinds) (a b : Option X) → a ≡ None → b ≡ None → a ≡ at_clear s b
both_none s a b x y = x ∙ sym (ap (at_clear s) y ∙ at_none s)

both_next : {X : Type 0} (s : Kinds) (a b k : Option X) → a ≡ at_clear s k → b ≡ k → a ≡ at_clear s b
both_next s a b k x y = x ∙ ap (at_clear s) (sym y)

abbrev pub NoDashes : List Text → Type 0
NoDashes words = list_any (λ w. bytes_eq w dashes) words ≡ false

module _ {X : Type 0} (name : Text) (take : List Row → Option X) (rows : List Row) (q : Text × List Text) (has_number : Bool) (f : Form) where
  abbrev before : List Text → Option X
  before words = reads f name take (idle_at rows (Some q) has_number) words

  abbrev after : List Text → Option X
  after words = reads f name take (idle_at (settled_rows (rules f) (Some q) rows) None has_number) words

  abbrev fault : Kinds
  fault = settle_fault (rules f) false (held rows (Some q))

  settle_at : (x : Text) (rest : List Text) → bytes_eq x dashes ≡ false → Sort x → before (x ∷ rest) ≡ at_clear fault (after (x ∷ rest))
  settle_at x rest free (is_cold e) = subst (λ (z : Text). before (z ∷ rest) ≡ at_clear fault (after (z ∷ rest))) (sym e) (colds_at f)
    where
      colds_at : (g : Form) → reads g name take (idle_at rows (Some q) has_number) (codes "--cold" ∷ rest)
          ≡ at_clear (settle_fault (rules g) false (held rows (Some q))) (reads g name take (idle_at (settled_rows (rules g) (Some q) rows) None has_number) (codes "--cold" ∷ rest))
      colds_at bare = both_none _ _ _ (no_cold name take rows (Some q) has_number rest bare (λ e. cc)) (no_cold name take _ None has_number rest bare (λ e. cc))
      colds_at colds = both_next _ _ _ _ (step_cold name take rows (Some q) has_number rest) (step_cold name take _ None has_number rest)
      colds_at numbers = both_none _ _ _ (no_cold name take rows (Some q) has_number rest numbers (λ e. cc)) (no_cold name take _ None has_number rest numbers (λ e. cc))
  settle_at x rest free (is_dir e) = subst (λ (z : Text). before (z ∷ rest) ≡ at_clear fault (after (z ∷ rest))) (sym e)
      (both_next _ _ _ _ (step_dir name take rows (Some q) has_number rest f) (step_dir name take _ None has_number rest f))
  settle_at x rest free (is_dir_of d e) = subst (λ (z : Text). before (z ∷ rest) ≡ at_clear fault (after (z ∷ rest))) (sym e)
      (both_next _ _ _ _ (step_dir_of name take rows (Some q) has_number rest d f) (step_dir_of name take _ None has_number rest d f))
  settle_at x rest free (is_flag flag y e other) =
      both_none _ _ _ (step_flag name take rows (Some q) has_number rest f x free flag) (step_flag name take _ None has_number rest f x free flag)
  settle_at x rest free (is_plain plain other) = plain_at f has_number
    where
      plain_at : (g : Form) (n : Bool) → reads g name take (idle_at rows (Some q) n) (x ∷ rest)
          ≡ at_clear (settle_fault (rules g) false (held rows (Some q))) (reads g name take (idle_at (settled_rows (rules g) (Some q) rows) None n) (x ∷ rest))
      plain_at bare n = both_none _ _ _ (step_stray name take rows (Some q) n rest bare x (λ e. cc) free plain) (step_stray name take _ None n rest bare x (λ e. cc) free plain)
      plain_at colds n = both_none _ _ _ (step_stray name take rows (Some q) n rest colds x (λ e. cc) free plain) (step_stray name take _ None n rest colds x (λ e. cc) free plain)
      plain_at numbers true = both_none _ _ _ (step_stray name take rows (Some q) true rest numbers x (λ e. refl) free plain) (step_stray name take _ None true rest numbers x (λ e. refl) free plain)
      plain_at numbers false = both_next _ _ _ _ (step_number name take rows (Some q) false rest x refl free plain) (step_number name take _ None false rest x refl free plain)

  pub settle : (words : List Text) → NoDashes words → before words ≡ at_clear fault (after words)
  settle [] free = both_next _ _ _ _ (step_end name take rows (Some q) has_number f) (step_end name take _ None has_number f)
  settle (x ∷ rest) free =
      let parts = or_parts (bytes_eq x dashes) (list_any (λ w. bytes_eq w dashes) rest) free in
      settle_at x rest parts.0 (sort_of x parts.0)
