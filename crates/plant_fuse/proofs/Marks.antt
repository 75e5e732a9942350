-- Lines of which some count as torn.
use Rattle.std.proofs.Common.{◌≡◌, ℕ, suc, ◌+◌, ◌≤◌, ◌<◌, ◌==◌, nat_lt, ◌&&◌, not, Bool, true, false, if◌then◌else◌, List, [], ◌∷◌, ◌++◌, length, refl, sym, ◌∙◌, ap, arith}
use Rattle.std.proofs.lemmas.Bool.Decides.{nat_tests}
use Rattle.std.proofs.lemmas.List.{append-nil}
use Rattle.std.proofs.lemmas.List.Elements.{All-head, All-tail, All-nil, All-cons}
use Rattle.std.specs.Prelude.{All}
use Rattle.spool_plant.specs.View.{Line}
use Rattle.spool_disk.proofs.Acting.{same_test, other_test}
use Rattle.plant_fuse.specs.Torn.{Halved, grew, is_torn, torn_before, has_number, torn_from, lines_at}

-- a test of three
all_three : (a b c : Bool) → a ≡ true → b ≡ true → c ≡ true → (a && (b && c)) ≡ true
all_three true true true x y z = refl
all_three false b c x y z = absurd (cc)
all_three true false c x y z = absurd (cc)
all_three true true false x y z = absurd (cc)

-- an act that is halved counts the same where its lines are the same
torn_cong : (old new : ℕ → List Line) (place t t' : ℕ) (h : Halved) → new h.1 ≡ old h.1 → new (h.1 + 1) ≡ old (h.1 + 1) → nat_lt h.1 t' ≡ nat_lt h.1 t → is_torn new place t' h ≡ is_torn old place t h
torn_cong old new place t t' h here there same =
    ap (λ (l : List Line). h.0 == place && (nat_lt h.1 t' && nat_lt (length l) (length (new (h.1 + 1))))) here
    ∙ ap (λ (l : List Line). h.0 == place && (nat_lt h.1 t' && nat_lt (length (old h.1)) (length l))) there
    ∙ ap (λ (b : Bool). h.0 == place && (b && nat_lt (length (old h.1)) (length (old (h.1 + 1))))) same

and_late : (a b c : Bool) → b ≡ false → (a && (b && c)) ≡ false
and_late true false c x = refl
and_late false b c x = refl
and_late true true c x = absurd (cc)

-- the lines of one place at each moment, before and after an act
module _ (old new : ℕ → List Line) (place now : ℕ) (past : (i : ℕ) → i ≤ now → new i ≡ old i) where
  step : (h : Halved) (t t' : ℕ) (ns ms : List ℕ) → is_torn new place t' h ≡ is_torn old place t h → new h.1 ≡ old h.1 → ns ≡ ms
      → (if is_torn new place t' h then length (new h.1) ∷ ns else ns) ≡ (if is_torn old place t h then length (old h.1) ∷ ms else ms)
  step h t t' ns ms torn here rest =
      ap (λ (b : Bool). if b then length (new h.1) ∷ ns else ns) torn
      ∙ ap (λ (l : List Line). if is_torn old place t h then length l ∷ ns else ns) here
      ∙ ap (λ (ks : List ℕ). if is_torn old place t h then length (old h.1) ∷ ks else ks) rest

  -- what was halved before a past moment
  pub torn_past : (hs : List Halved) (t : ℕ) → t ≤ now → torn_before new place hs t ≡ torn_before old place hs t
  torn_past [] t le = refl
  torn_past (h ∷ hs) t le = by_test (nat_lt h.1 t) refl (torn_past hs t le) where
    by_test : (b : Bool) → nat_lt h.1 t ≡ b → torn_before new place hs t ≡ torn_before old place hs t
        → (if is_torn new place t h then length (new h.1) ∷ torn_before new place hs t else torn_before new place hs t) ≡ (if is_torn old place t h then length (old h.1) ∷ torn_before old place hs t else torn_before old place hs t)
    by_test true e rest =
        let early : h.1 < t = grind (arith, nat_tests) in
        step h t t (torn_before new place hs t) (torn_before old place hs t) (torn_cong old new place t t h (past h.1 (omega (arith, early, le))) (past (h.1 + 1) (omega (arith, early, le))) refl) (past h.1 (omega (arith, early, le))) rest
    by_test false e rest =
        ap (λ (b : Bool). if b then length (new h.1) ∷ torn_before new place hs t else torn_before new place hs t) (and_late (h.0 == place) (nat_lt h.1 t) (grew new h.1) e)
        ∙ rest
        ∙ sym (ap (λ (b : Bool). if b then length (old h.1) ∷ torn_before old place hs t else torn_before old place hs t) (and_late (h.0 == place) (nat_lt h.1 t) (grew old h.1) e))

  -- what is halved now changes no past moment
  pub torn_late : (hs : List Halved) (p t : ℕ) → t ≤ now → torn_before new place (hs ++ (p, now) ∷ []) t ≡ torn_before new place hs t
  torn_late [] p t le =
      let late : nat_lt now t ≡ false = grind (arith, nat_tests) in
      ap (λ (b : Bool). if b then length (new now) ∷ [] else []) (and_late (p == place) (nat_lt now t) (grew new now) late)
  torn_late (h ∷ hs) p t le = ap (λ (ns : List ℕ). if is_torn new place t h then length (new h.1) ∷ ns else ns) (torn_late hs p t le)

  -- what was halved before now
  pub torn_now : (hs : List Halved) (later : ℕ) → now ≤ later → All (λ h. h.1 < now) hs → torn_before new place hs later ≡ torn_before old place hs now
  torn_now [] later le before = refl
  torn_now (h ∷ hs) later le before =
      let early : h.1 < now = All-head (λ (x : Halved). x.1 < now) h hs before in
      let first : nat_lt h.1 later ≡ true = grind (arith, nat_tests) in
      let second : nat_lt h.1 now ≡ true = grind (arith, nat_tests) in
      let here = past h.1 (omega (arith, early)) in
      step h now later (torn_before new place hs later) (torn_before old place hs now) (torn_cong old new place now later h here (past (h.1 + 1) (omega (arith, early))) (first ∙ sym second)) here
      (torn_now hs later le (All-tail (λ (x : Halved). x.1 < now) h hs before))

-- the torn lines with one more act that is halved
pub torn_push : (lines : ℕ → List Line) (place later : ℕ) (h : Halved) (hs : List Halved)
    → torn_before lines place (hs ++ h ∷ []) later ≡ torn_before lines place hs later ++ (if is_torn lines place later h then length (lines h.1) ∷ [] else [])
torn_push lines place later h [] = refl
torn_push lines place later h (g ∷ hs) = by_test (is_torn lines place later g) (torn_push lines place later h hs) where
  by_test : (b : Bool) → torn_before lines place (hs ++ h ∷ []) later ≡ torn_before lines place hs later ++ (if is_torn lines place later h then length (lines h.1) ∷ [] else [])
      → (if b then length (lines g.1) ∷ torn_before lines place (hs ++ h ∷ []) later else torn_before lines place (hs ++ h ∷ []) later)
      ≡ (if b then length (lines g.1) ∷ torn_before lines place hs later else torn_before lines place hs later) ++ (if is_torn lines place later h then length (lines h.1) ∷ [] else [])
  by_test true rest = ap (λ (ns : List ℕ). length (lines g.1) ∷ ns) rest
  by_test false rest = rest

-- numbers below some number
pub torn_small : (lines : ℕ → List Line) (place now n : ℕ) (hs : List Halved) → All (λ h. h.0 ≡ place → length (lines h.1) < length (lines (h.1 + 1)) → length (lines h.1) < n) hs → All (λ m. m < n) (torn_before lines place hs now)
torn_small lines place now n [] small = All-nil (λ (m : ℕ). m < n)
torn_small lines place now n (h ∷ hs) small =
    by_tests (h.0 == place) refl (nat_lt h.1 now) (grew lines h.1) refl (torn_small lines place now n hs (All-tail (λ (x : Halved). x.0 ≡ place → length (lines x.1) < length (lines (x.1 + 1)) → length (lines x.1) < n) h hs small))
  where
    by_tests : (a : Bool) → (h.0 == place) ≡ a → (b c : Bool) → grew lines h.1 ≡ c → All (λ m. m < n) (torn_before lines place hs now)
        → All (λ m. m < n) (if a && (b && c) then length (lines h.1) ∷ torn_before lines place hs now else torn_before lines place hs now)
    by_tests true e true true f rest =
        let there : h.0 ≡ place = grind (arith, nat_tests) in
        let more : length (lines h.1) < length (lines (h.1 + 1)) = grind (arith, nat_tests) in
        All-cons (λ (m : ℕ). m < n) (length (lines h.1)) (torn_before lines place hs now)
        (All-head (λ (x : Halved). x.0 ≡ place → length (lines x.1) < length (lines (x.1 + 1)) → length (lines x.1) < n) h hs small there more) rest
    by_tests true e true false f rest = rest
    by_tests true e false c f rest = rest
    by_tests false e b c f rest = rest

pub has_none : (torn : List ℕ) (n k : ℕ) → All (λ m. m < n) torn → n ≤ k → has_number torn k ≡ false
has_none [] n k small le = refl
has_none (m ∷ torn) n k small le =
    let below : m < n = All-head (λ (x : ℕ). x < n) m torn small in
    let other : (m == k) ≡ false = other_test m k (λ same. omega (arith, below, le, same)) in
    ap (λ (b : Bool). if b then true else has_number torn k) other ∙ has_none torn n k (All-tail (λ (x : ℕ). x < n) m torn small) le

has_push_other : (torn : List ℕ) (m k : ℕ) → (m ≡ k → ⊥) → has_number (torn ++ m ∷ []) k ≡ has_number torn k
has_push_other [] m k ne = ap (λ (b : Bool). if b then true else false) (other_test m k ne)
has_push_other (t ∷ torn) m k ne = ap (λ (b : Bool). if t == k then true else b) (has_push_other torn m k ne)

has_push_same : (torn : List ℕ) (m : ℕ) → has_number (torn ++ m ∷ []) m ≡ true
has_push_same [] m = ap (λ (b : Bool). if b then true else false) (same_test m)
has_push_same (t ∷ torn) m = ap (λ (b : Bool). if t == m then true else b) (has_push_same torn m) ∙ either_true (t == m) where
  either_true : (b : Bool) → (if b then true else true) ≡ true
  either_true true = refl
  either_true false = refl

stays_whole : (b : Bool) → (b && not false) ≡ b
stays_whole true = refl
stays_whole false = refl

-- lines of which none is torn
pub torn_none : (torn : List ℕ) (n : ℕ) (ls : List Line) → All (λ m. m < n) torn → torn_from torn n ls ≡ ls
torn_none torn n [] small = refl
torn_none torn n (l ∷ ls) small =
    ap (λ (b : Bool). record { text = l.text; whole = l.whole && not b } ∷ torn_from torn (n + 1) ls) (has_none torn n n small (omega arith))
    ∙ ap (λ (b : Bool). record { text = l.text; whole = b } ∷ torn_from torn (n + 1) ls) (stays_whole l.whole)
    ∙ ap (λ (rest : List Line). l ∷ rest) (torn_none torn (n + 1) ls (further torn n small))
  where
    further : (torn : List ℕ) (n : ℕ) → All (λ m. m < n) torn → All (λ m. m < n + 1) torn
    further torn n small k d lt = omega (arith, small k d lt)

torn_append : (torn : List ℕ) (n : ℕ) (a b : List Line) → torn_from torn n (a ++ b) ≡ torn_from torn n a ++ torn_from torn (n + length a) b
torn_append torn n [] b = ap (λ (k : ℕ). torn_from torn k b) (let e : n ≡ n + 0 = omega arith in e)
torn_append torn n (l ∷ a) b =
    ap (λ (rest : List Line). record { text = l.text; whole = l.whole && not (has_number torn n) } ∷ rest)
    (torn_append torn (n + 1) a b ∙ ap (λ (k : ℕ). torn_from torn (n + 1) a ++ torn_from torn k b) (let e : (n + 1) + length a ≡ n + suc (length a) = omega arith in e))

-- a number behind the lines changes none of them
torn_behind : (torn : List ℕ) (n m : ℕ) (ls : List Line) → n + length ls ≤ m → torn_from (torn ++ m ∷ []) n ls ≡ torn_from torn n ls
torn_behind torn n m [] le = refl
torn_behind torn n m (l ∷ ls) le =
    ap (λ (b : Bool). record { text = l.text; whole = l.whole && not b } ∷ torn_from (torn ++ m ∷ []) (n + 1) ls) (has_push_other torn m n (λ same. omega (arith, le, same)))
    ∙ ap (λ (rest : List Line). record { text = l.text; whole = l.whole && not (has_number torn n) } ∷ rest) (torn_behind torn (n + 1) m ls (omega (arith, le)))

-- at past moments, whatever is halved now
pub lines_past : (old new : ℕ → List Line) (place now : ℕ) (hs : List Halved) → ((i : ℕ) → i ≤ now → new i ≡ old i) → (p t : ℕ) → t ≤ now → lines_at new place (hs ++ (p, now) ∷ []) t ≡ lines_at old place hs t
lines_past old new place now hs past p t le =
    ap (λ (ns : List ℕ). torn_from ns 0 (new t)) (torn_late old new place now past hs p t le ∙ torn_past old new place now past hs t le)
    ∙ ap (torn_from (torn_before old place hs t) 0) (past t le)

module _ (old new : ℕ → List Line) (place now later : ℕ) (hs : List Halved) (past : (i : ℕ) → i ≤ now → new i ≡ old i) (on : now ≤ later) (before : All (λ h. h.1 < now) hs) where
  -- lines that are as before
  pub lines_same : new later ≡ old now → lines_at new place hs later ≡ lines_at old place hs now
  lines_same same = ap (λ (ns : List ℕ). torn_from ns 0 (new later)) (torn_now old new place now past hs later on before) ∙ ap (torn_from (torn_before old place hs now) 0) same

  -- an act that is halved, and puts nothing on this place
  pub lines_elsewhere : (h : Halved) → is_torn new place later h ≡ false → new later ≡ old now → lines_at new place (hs ++ h ∷ []) later ≡ lines_at old place hs now
  lines_elsewhere h none same =
      ap (λ (ms : List ℕ). torn_from ms 0 (new later))
      (torn_push new place later h hs
      ∙ ap (λ (b : Bool). torn_before new place hs later ++ (if b then length (new h.1) ∷ [] else [])) none
      ∙ append-nil (torn_before new place hs later)
      ∙ torn_now old new place now past hs later on before)
      ∙ ap (torn_from (torn_before old place hs now) 0) same

  module _ (small : All (λ h. h.0 ≡ place → length (old h.1) < length (old (h.1 + 1)) → length (old h.1) < length (old now)) hs) where
    -- lines that are added
    pub lines_added : (more : List Line) → new later ≡ old now ++ more → lines_at new place hs later ≡ lines_at old place hs now ++ more
    lines_added more added =
        let ns = torn_before old place hs now in
        ap (λ (ms : List ℕ). torn_from ms 0 (new later)) (torn_now old new place now past hs later on before)
        ∙ ap (torn_from ns 0) added
        ∙ torn_append ns 0 (old now) more
        ∙ ap (λ (rest : List Line). torn_from ns 0 (old now) ++ rest) (torn_none ns (0 + length (old now)) more (λ k d lt. omega (arith, torn_small old place now (length (old now)) hs small k d lt)))

    -- a line that is halved
    pub lines_torn : (l : Line) → is_torn new place later (place, now) ≡ true → new later ≡ old now ++ l ∷ []
        → lines_at new place (hs ++ (place, now) ∷ []) later ≡ lines_at old place hs now ++ record { text = l.text; whole = false } ∷ []
    lines_torn l torn added =
        let ns = torn_before old place hs now in
        let n = length (old now) in
        let torn_is : torn_before new place (hs ++ (place, now) ∷ []) later ≡ ns ++ n ∷ [] =
        torn_push new place later (place, now) hs
        ∙ ap (λ (b : Bool). torn_before new place hs later ++ (if b then length (new now) ∷ [] else [])) torn
        ∙ ap (λ (ms : List ℕ). ms ++ length (new now) ∷ []) (torn_now old new place now past hs later on before)
        ∙ ap (λ (ls : List Line). ns ++ length ls ∷ []) (past now (omega arith)) in
        ap (λ (ms : List ℕ). torn_from ms 0 (new later)) torn_is
        ∙ ap (torn_from (ns ++ n ∷ []) 0) added
        ∙ torn_append (ns ++ n ∷ []) 0 (old now) (l ∷ [])
        ∙ ap (λ (front : List Line). front ++ torn_from (ns ++ n ∷ []) (0 + n) (l ∷ [])) (torn_behind ns 0 n (old now) (omega arith))
        ∙ ap (λ (b : Bool). torn_from ns 0 (old now) ++ record { text = l.text; whole = l.whole && not b } ∷ []) (ap (has_number (ns ++ n ∷ [])) (let e : 0 + n ≡ n = omega arith in e) ∙ has_push_same ns n)
        ∙ ap (λ (b : Bool). torn_from ns 0 (old now) ++ record { text = l.text; whole = b } ∷ []) (never l.whole)
      where
        never : (b : Bool) → (b && not true) ≡ false
        never true = refl
        never false = refl

-- an act that added a line to this place, and one that was of another place, or added none
pub torn_here : (lines : ℕ → List Line) (place now : ℕ) → length (lines now) < length (lines (now + 1)) → is_torn lines place (now + 1) (place, now) ≡ true
torn_here lines place now more =
    let early : nat_lt now (now + 1) ≡ true = grind (arith, nat_tests) in
    let grown : grew lines now ≡ true = grind (arith, nat_tests) in
    all_three (place == place) (nat_lt now (now + 1)) (grew lines now) (same_test place) early grown

pub torn_elsewhere : (lines : ℕ → List Line) (place p now t : ℕ) → (p ≡ place → ⊥) → is_torn lines place t (p, now) ≡ false
torn_elsewhere lines place p now t ne = ap (λ (b : Bool). b && (nat_lt now t && grew lines now)) (other_test p place ne)

pub torn_nothing : (lines : ℕ → List Line) (place p now : ℕ) → lines (now + 1) ≡ lines now → is_torn lines place (now + 1) (p, now) ≡ false
torn_nothing lines place p now same =
    let long : length (lines (now + 1)) ≡ length (lines now) = ap (λ (l : List Line). length l) same in
    let not_grown : grew lines now ≡ false = grind (arith, nat_tests, long) in
    last_false (p == place) (nat_lt now (now + 1)) (grew lines now) not_grown
  where
    last_false : (a b c : Bool) → c ≡ false → (a && (b && c)) ≡ false
    last_false true true false x = refl
    last_false true false c x = refl
    last_false false b c x = refl
    last_false true true true x = absurd (cc)
