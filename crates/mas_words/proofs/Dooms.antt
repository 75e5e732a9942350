-- What no more words can mend: an option, a folder or a number that the command doesn't take.
use Rattle.std.proofs.Common.{◌≡◌, ◌∙◌, Bool, true, false, cond, not, ◌&&◌, ◌||◌, List, [], ◌∷◌, drop, Option, Some, None, is_some, codes, refl, sym, ap, nat_eq, nat_le, length, ◌⊎◌, inl, inr, IfSome, true≢false}
use Rattle.std.specs.Prelude.{option_and_then, option_map}
use Rattle.std.specs.List.{starts_with}
use Rattle.std.specs.Str.{bytes_eq}
use Rattle.std.specs.Option.{option_map_or}
use Rattle.mas_words.specs.Words.{Command, play, race, format, report, check, generate, Given, Text, has_its_options, is_folder, takes_cold, verb_of, with_cold, with_dir, with_number, with_word, with_words, words_for, words_with}
use Rattle.mas_words.specs.declared.types.Verb.TheVariants as verb
use Rattle.mas_types.specs.Numerals.{value_of}
use Rattle.mas_words.specs.declared.types.Words.{Words}

-- what the words behind a command ask for, after those that said g
abbrev pub words_behind : Command → Given → List Text → Option Words
words_behind k g words = option_and_then (words_with k) (with_words g words)

abbrev pub Doomed : Command → Given → Type 0
Doomed k g = ((g.cold ≡ true) × (takes_cold k ≡ false))
    ⊎ (((d : Text) × (g.dir ≡ Some d) × (is_folder d ≡ false)) ⊎ ((t : Text) × (g.number ≡ Some t) × (verb_of k (Some t) ≡ None)))

-- ---- at the end

no_words : (b : Bool) (o : Option Words) → (b ≡ false) ⊎ (o ≡ None) → cond b o None ≡ None
no_words false o h = refl
no_words true o (inl h) = absurd (true≢false h)
no_words true o (inr h) = h

and_false : (b : Bool) → (b && false) ≡ false
and_false true = refl
and_false false = refl

doomed_end : (k : Command) (g : Given) → Doomed k g → words_with k g ≡ None
doomed_end k g (inl h) = no_words (has_its_options k g) (option_map (words_for g) (verb_of k g.number)) (inl (rw (h.0, h.1) (cold_end g.is_due (option_map_or is_folder g.dir true))))
  where
    cold_end : (due dir : Bool) → (not due && false && dir) ≡ false
    cold_end true dir = refl
    cold_end false dir = refl
doomed_end k g (inr (inl h)) = no_words (has_its_options k g) (option_map (words_for g) (verb_of k g.number)) (inl (rw (h.1, h.2) (and_false (not g.is_due && (not g.cold || takes_cold k)))))
doomed_end k g (inr (inr h)) = no_words (has_its_options k g) (option_map (words_for g) (verb_of k g.number)) (inr (rw (h.1, h.2) refl))

-- ---- a word more

abbrev Keeps : Given → Given → Type 0
Keeps g h = (g.cold ≡ true → h.cold ≡ true) × ((d : Text) → g.dir ≡ Some d → h.dir ≡ Some d) × ((t : Text) → g.number ≡ Some t → h.number ≡ Some t)

some_none : {X : Type 0} (x : X) → None ≡ Some x → ⊥
some_none x e = cc

keeps_cold : (g : Given) → IfSome (with_cold g) (Keeps g)
keeps_cold g = go g.cold
  where
    go : (b : Bool) → IfSome (cond b None (Some (record g { cold = true }))) (Keeps g)
    go true = tt
    go false = (λ e. refl, λ d e. e, λ t e. e)

keeps_dir : (x : Text) (g : Given) → IfSome (with_dir x g) (Keeps g)
keeps_dir x g = go g.dir refl
  where
    go : (o : Option Text) → g.dir ≡ o → IfSome (cond (is_some o) None (Some (record g { dir = Some x; is_due = false }))) (Keeps g)
    go (Some d) is = tt
    go None is = (λ e. e, λ d e. absurd (some_none d (sym is ∙ e)), λ t e. e)

keeps_number : (x : Text) (g : Given) → IfSome (with_number x g) (Keeps g)
keeps_number x g = go g.number refl
  where
    go : (o : Option Text) → g.number ≡ o → IfSome (cond (is_some o) None (Some (record g { number = Some x }))) (Keeps g)
    go (Some t) is = tt
    go None is = (λ e. e, λ d e. e, λ t e. absurd (some_none t (sym is ∙ e)))

if_cond : (b : Bool) (x y : Option Given) (P : Given → Type 0) → IfSome x P → IfSome y P → IfSome (cond b x y) P
if_cond true x y P a b = a
if_cond false x y P a b = b

keeps : (x : Text) (g : Given) → IfSome (with_word x g) (Keeps g)
keeps x g =
    if_cond g.is_due _ _ (Keeps g) (keeps_dir x g)
    (if_cond (bytes_eq x (codes "--cold")) _ _ (Keeps g) (keeps_cold g)
    (if_cond (bytes_eq x (codes "--dir")) _ _ (Keeps g) (λ e. e, λ d e. e, λ t e. e)
    (if_cond (starts_with nat_eq x (codes "--dir=")) _ _ (Keeps g) (keeps_dir (drop 6 x) g) (keeps_number x g))))

stays : (k : Command) (g h : Given) → Keeps g h → Doomed k g → Doomed k h
stays k g h kept (inl d) = inl (kept.0 d.0, d.1)
stays k g h kept (inr (inl d)) = inr (inl (d.0, kept.1 d.0 d.1, d.2))
stays k g h kept (inr (inr d)) = inr (inr (d.0, kept.2 d.0 d.1, d.2))

pub doomed : (k : Command) (words : List Text) (g : Given) → Doomed k g → words_behind k g words ≡ None
doomed k [] g d = doomed_end k g d
doomed k (x ∷ rest) g d = go (doomed k rest) (with_word x g) (keeps x g)
  where
    go : ((h : Given) → Doomed k h → words_behind k h rest ≡ None) → (o : Option Given) → IfSome o (Keeps g) → option_and_then (words_with k) (option_and_then (λ next. with_words next rest) o) ≡ None
    go more None h = refl
    go more (Some h) kept = more h (stays k g h kept d)

-- ---- what no command takes

-- a folder that begins with a hyphen
pub hyphen_dir : (k : Command) (y : Text) (rest : List Text) (g : Given) → g.dir ≡ Some (45 ∷ y) → words_behind k g rest ≡ None
hyphen_dir k y rest g is = doomed k rest g (inr (inl (45 ∷ y, is, refl)))

-- text that is no number
no_verb : (k : Command) (t : Text) → (verb_of generate (Some t) ≡ None) → verb_of k (Some t) ≡ None
no_verb play t h = refl
no_verb race t h = refl
no_verb format t h = refl
no_verb report t h = refl
no_verb check t h = refl
no_verb generate t h = h

pub hyphen_number : (k : Command) (y : Text) (rest : List Text) (g : Given) → g.number ≡ Some (45 ∷ y) → words_behind k g rest ≡ None
hyphen_number k y rest g is = doomed k rest g (inr (inr (45 ∷ y, is, no_verb k (45 ∷ y) (hyphened y))))
  where
    hyphened : (y : Text) → verb_of generate (Some (45 ∷ y)) ≡ None
    hyphened y = ap (λ b. cond (b && nat_le (length (45 ∷ y)) 4 && nat_le 1 (value_of (45 ∷ y)) && nat_le (value_of (45 ∷ y)) 1000) (Some (verb.Generate (value_of (45 ∷ y)))) None)
        (and_false (nat_le 1 (length (45 ∷ y)) && nat_le (length (45 ∷ y)) 10))
