-- Readers of parts, and of parts one after another: what a reader reads is what the part's text is, and where it stops
-- no text of the part goes on.
use Rattle.std.proofs.Common.{◌≡◌, ℕ, zero, suc, ◌+◌, ◌-◌, ◌≤◌, ◌<◌, Bool, true, false, List, [], ◌∷◌, ◌++◌, length, take, drop, Result, Ok, Err, refl, sym, ap, subst, ◌∙◌, append_assoc, arith, inl, inr}
use Rattle.std.specs.Prelude.{nat_lt, ◌==◌, if◌then◌else◌}
use Rattle.std.proofs.lemmas.Bool.{eqb-true, eq-eqb, ltb-true, ltb-false, lt-ltb, le-ltb}
use Rattle.std.proofs.lemmas.List.{append-nil, append_cancel_left, length-append, length-take, length-take-le, length-drop, take-append-drop, take_at, drop_at, take_all, nil_from_length}
use Rattle.nje_frames.specs.Reading.{◌>>=◌, front_size, part_of, part_at, byte_at, both, told, unless_byte}

-- READERS

-- the bytes can be gone on with to a text of the part
pub record Begins {X : Type 0} (Fit : X → Type 0) (text : X → List ℕ) (bytes : List ℕ) : Type 0 where
  pub x : X
  pub more : List ℕ
  pub fits : Fit x
  pub is : text x ≡ bytes ++ more

-- the reader stopped with so many bytes left: those before them begin a text, and with the next one they don't
pub record Stops {X : Type 0} (Fit : X → Type 0) (text : X → List ℕ) (bytes : List ℕ) (left : ℕ) : Type 0 where
  pub front : List ℕ
  pub rest : List ℕ
  pub whole : bytes ≡ front ++ rest
  pub count : left ≡ length rest
  pub begins : Begins Fit text front
  pub ends : (b : ℕ) (more : List ℕ) → rest ≡ b ∷ more → Begins Fit text (front ++ b ∷ []) → ⊥

-- what was read, and what was left, are the bytes
pub record Takes {X : Type 0} (Fit : X → Type 0) (text : X → List ℕ) (bytes : List ℕ) (x : X) (rest : List ℕ) : Type 0 where
  pub fits : Fit x
  pub is : bytes ≡ text x ++ rest

pub record Reads {X : Type 0} (Fit : X → Type 0) (text : X → List ℕ) (p : List ℕ → Result (X × List ℕ) ℕ) : Type 0 where
  pub takes : (bytes : List ℕ) (x : X) (rest : List ℕ) → p bytes ≡ Ok (x, rest) → Takes Fit text bytes x rest
  pub again : (x : X) (rest : List ℕ) → Fit x → p (text x ++ rest) ≡ Ok (x, rest)
  pub stops : (bytes : List ℕ) (left : ℕ) → p bytes ≡ Err left → Stops Fit text bytes left

-- cases on what a reader answered
pub read_cases : {X : Type 0} (r : Result (X × List ℕ) ℕ) (P : Type 0) → ((x : X) (rest : List ℕ) → r ≡ Ok (x, rest) → P) → ((left : ℕ) → r ≡ Err left → P) → P
read_cases (Ok x) P ok err = ok x.0 x.1 refl
read_cases (Err left) P ok err = err left refl

pub ok_same : {X : Type 0} (a x : X) (b y : List ℕ) → ◌≡◌ {A = Result (X × List ℕ) ℕ} (Ok (a, b)) (Ok (x, y)) → (a ≡ x) × (b ≡ y)
ok_same a x b y e = let s : ◌≡◌ {A = _ × List ℕ} (a, b) (x, y) = cc in (ap (λ p. p.0) s, ap (λ p. p.1) s)

pub ok_err : {X : Type 0} (a : X) (b : List ℕ) (left : ℕ) → ◌≡◌ {A = Result (X × List ℕ) ℕ} (Ok (a, b)) (Err left) → ⊥
ok_err a b left e = cc

pub err_same : {X : Type 0} (a b : ℕ) → ◌≡◌ {A = Result (X × List ℕ) ℕ} (Err a) (Err b) → a ≡ b
err_same a b e = cc

-- fronts of one length that go on to the same list are the same
pub same_front : (a b x y : List ℕ) → length a ≡ length b → a ++ x ≡ b ++ y → (a ≡ b) × (x ≡ y)
same_front [] [] x y len e = (refl, e)
same_front [] (c ∷ b) x y len e = absurd (omega arith)
same_front (c ∷ a) [] x y len e = absurd (omega arith)
same_front (c ∷ a) (d ∷ b) x y len e =
    let head : c ≡ d = cc in
    let tail : a ++ x ≡ b ++ y = cc in
    let rest = same_front a b x y (omega arith) tail in
    (ap (λ (w : List ℕ). c ∷ w) rest.0 ∙ ap (λ (h : ℕ). h ∷ b) head, rest.1)

-- of two fronts of one list the shorter is a front of the longer
pub longer_front : (a b x y : List ℕ) → length a ≤ length b → a ++ x ≡ b ++ y → (more : List ℕ) × ((b ≡ a ++ more) × (x ≡ more ++ y))
longer_front [] b x y le e = (b, (refl, e))
longer_front (c ∷ a) [] x y le e = absurd (omega arith)
longer_front (c ∷ a) (d ∷ b) x y le e =
    let head : d ≡ c = cc in
    let tail : a ++ x ≡ b ++ y = cc in
    let rest = longer_front a b x y (omega arith) tail in
    (rest.0, (ap (λ (w : List ℕ). d ∷ w) rest.1.0 ∙ ap (λ (h : ℕ). h ∷ (a ++ rest.0)) head, rest.1.1))

-- PARTS OF A FIXED WIDTH

-- the test holds of the fronts of texts of one width, and of nothing else that is no longer
pub record Fronts {X : Type 0} (Fit : X → Type 0) (text : X → List ℕ) (test : List ℕ → Bool) (width : ℕ) (value : List ℕ → X) : Type 0 where
  pub wide : (x : X) → Fit x → length (text x) ≡ width
  pub back : (x : X) → Fit x → value (text x) ≡ x
  pub sound : (front : List ℕ) → length front ≤ width → test front ≡ true → Begins Fit text front
  pub complete : (front : List ℕ) → Begins Fit text front → test front ≡ true

-- what the size of a front says
pub record IsSize (test : List ℕ → Bool) (more : ℕ) (front bytes : List ℕ) (size : ℕ) : Type 0 where
  pub few : size ≤ more
  pub inside : size ≤ length bytes
  pub holds : test (front ++ take size bytes) ≡ true
  pub ends : (b : ℕ) (rest : List ℕ) → size < more → drop size bytes ≡ b ∷ rest → test (front ++ take size bytes ++ b ∷ []) ≡ false

pub size_is : (test : List ℕ → Bool) (more : ℕ) (front bytes : List ℕ) → test front ≡ true → IsSize test more front bytes (front_size test more front bytes)
size_is test zero front bytes h = record { few = omega arith; inside = omega arith; holds = rw (append-nil front) h; ends = λ b rest lt e. absurd (omega arith) }
size_is test (suc more) front [] h = record { few = omega arith; inside = omega arith; holds = rw (append-nil front) h; ends = λ b rest lt e. absurd cc }
size_is test (suc more) front (b ∷ bytes) h = go (λ e. size_is test more (front ++ b ∷ []) bytes e) (test (front ++ b ∷ [])) refl
  where
    go : (test (front ++ b ∷ []) ≡ true → IsSize test more (front ++ b ∷ []) bytes (front_size test more (front ++ b ∷ []) bytes)) → (t : Bool) → test (front ++ b ∷ []) ≡ t → IsSize test (suc more) front (b ∷ bytes) (if t then suc (front_size test more (front ++ b ∷ []) bytes) else 0)
    go further false e = record {
      few = omega arith;
      inside = omega arith;
      holds = rw (append-nil front) h;
      ends = λ c rest lt is. let same : c ≡ b = cc in rw (append-nil front, same) e;
    }
    go further true e =
        let size = front_size test more (front ++ b ∷ []) bytes in
        let next = further e in
        let joined : front ++ b ∷ [] ++ take size bytes ≡ front ++ (b ∷ take size bytes) = append_assoc front (b ∷ []) (take size bytes) in
        record {
          few = omega (arith, next.few);
          inside = omega (arith, next.inside);
          holds = rw (← joined) next.holds;
          ends = λ c rest lt is. rw (← joined) (next.ends c rest (omega arith) is);
        }

-- where each front meets the test, all of the width is taken
pub size_all : (test : List ℕ → Bool) (more : ℕ) (front text rest : List ℕ) → length text ≡ more → ((part after : List ℕ) → text ≡ part ++ after → test (front ++ part) ≡ true) → front_size test more front (text ++ rest) ≡ more
size_all test zero front text rest len each = refl
size_all test (suc more) front [] rest len each = absurd (omega arith)
size_all test (suc more) front (b ∷ text) rest len each =
    let here : test (front ++ b ∷ []) ≡ true = each (b ∷ []) text refl in
    let next = size_all test more (front ++ b ∷ []) text rest (omega arith)
    (λ part after e. rw (append_assoc front (b ∷ []) part) (each (b ∷ part) after (ap (λ (t : List ℕ). b ∷ t) e))) in
    rw (here, next) refl

module _ {X : Type 0} (Fit : X → Type 0) (text : X → List ℕ) (test : List ℕ → Bool) (width : ℕ) (value : List ℕ → X) (f : Fronts Fit text test width value) (none : test [] ≡ true) where
  part_size : (bytes : List ℕ) → IsSize test width [] bytes (front_size test width [] bytes)
  part_size bytes = size_is test width [] bytes none

  part_short : (bytes : List ℕ) (size : ℕ) → IsSize test width [] bytes size → size < width → Stops Fit text bytes (length bytes - size)
  part_short bytes size s lt =
      let len : length (take size bytes) ≡ size = length-take-le size bytes s.inside in
      record {
        front = take size bytes;
        rest = drop size bytes;
        whole = sym (take-append-drop size bytes);
        count = sym (length-drop size bytes);
        begins = f.sound (take size bytes) (omega (arith, len, lt)) s.holds;
        ends = λ b more is begins. let yes = f.complete (take size bytes ++ b ∷ []) begins in let no = s.ends b more lt is in cc;
      }

  part_whole : (bytes : List ℕ) (size : ℕ) → IsSize test width [] bytes size → width ≤ size → Takes Fit text bytes (value (take width bytes)) (drop width bytes)
  part_whole bytes size s ge =
      let same : size ≡ width = omega (arith, s.few) in
      let len : length (take width bytes) ≡ width = length-take-le width bytes (omega (arith, s.inside)) in
      let holds : test (take width bytes) ≡ true = rw (← same) s.holds in
      let b = f.sound (take width bytes) (omega (arith, len)) holds in
      let sizes : length (text b.x) ≡ length (take width bytes) + length b.more = ap length b.is ∙ length-append (take width bytes) b.more in
      let nothing : b.more ≡ [] = nil_from_length b.more (omega (arith, sizes, len, f.wide b.x b.fits)) in
      let is : text b.x ≡ take width bytes = b.is ∙ rw nothing (append-nil (take width bytes)) in
      let said : value (take width bytes) ≡ b.x = ap value (sym is) ∙ f.back b.x b.fits in
      record {
        fits = rw said b.fits;
        is = rw (said, is) (sym (take-append-drop width bytes));
      }

  part_takes_of : (bytes : List ℕ) (size : ℕ) (t : Bool) → IsSize test width [] bytes size → nat_lt size width ≡ t → (x : X) (rest : List ℕ) → ◌≡◌ {A = Result (X × List ℕ) ℕ} (if t then Err (length bytes - size) else Ok (value (take width bytes), drop width bytes)) (Ok (x, rest)) → Takes Fit text bytes x rest
  part_takes_of bytes size true s lt x rest e = absurd cc
  part_takes_of bytes size false s lt x rest e =
      let same = ok_same (value (take width bytes)) x (drop width bytes) rest e in
      let all = part_whole bytes size s (ltb-false size width lt) in
      rw (← same.0, ← same.1) all

  part_stops_of : (bytes : List ℕ) (size : ℕ) (t : Bool) → IsSize test width [] bytes size → nat_lt size width ≡ t → (left : ℕ) → ◌≡◌ {A = Result (X × List ℕ) ℕ} (if t then Err (length bytes - size) else Ok (value (take width bytes), drop width bytes)) (Err left) → Stops Fit text bytes left
  part_stops_of bytes size true s lt left e =
      let same : length bytes - size ≡ left = err_same {X = X} (length bytes - size) left e in
      rw (← same) (part_short bytes size s (ltb-true size width lt))
  part_stops_of bytes size false s lt left e = absurd (ok_err (value (take width bytes)) (drop width bytes) left e)

  part_again : (x : X) (rest : List ℕ) → Fit x → part_at test width value (text x ++ rest) ≡ Ok (x, rest)
  part_again x rest fits =
      let wide = f.wide x fits in
      let all = size_all test width [] (text x) rest wide (λ part after e. f.complete part (record { x = x; more = after; fits = fits; is = e })) in
      let enough : nat_lt width width ≡ false = le-ltb width width (omega arith) in
      rw (all, enough, take_at (text x) rest width wide, drop_at (text x) rest width wide, f.back x fits) refl

  pub part_reads : Reads Fit text (part_at test width value)
  part_reads = record {
    takes = λ bytes x rest e. part_takes_of bytes (front_size test width [] bytes) (nat_lt (front_size test width [] bytes) width) (part_size bytes) refl x rest e;
    again = part_again;
    stops = λ bytes left e. part_stops_of bytes (front_size test width [] bytes) (nat_lt (front_size test width [] bytes) width) (part_size bytes) refl left e;
  }

-- ONE BYTE

module _ (byte : ℕ) where
  abbrev pub FitsByte : Unit {0} → Type 0
  FitsByte x = Unit {0}

  abbrev pub byte_text : Unit {0} → List ℕ
  byte_text x = byte ∷ []

  byte_takes : (bytes : List ℕ) (x : Unit {0}) (rest : List ℕ) → byte_at byte bytes ≡ Ok (x, rest) → Takes FitsByte byte_text bytes x rest
  byte_takes [] x rest e = absurd cc
  byte_takes (b ∷ bytes) x rest e = go (b == byte) refl e
    where
      go : (t : Bool) → (b == byte) ≡ t → ◌≡◌ {A = Result (Unit {0} × List ℕ) ℕ} (if t then Ok (tt, bytes) else Err (suc (length bytes))) (Ok (x, rest)) → Takes FitsByte byte_text (b ∷ bytes) x rest
      go true is e = let same = eqb-true b byte is in let rests = ok_same tt x bytes rest e in record { fits = tt; is = rw (same, rests.1) refl }
      go false is e = absurd cc

  byte_stops : (bytes : List ℕ) (left : ℕ) → byte_at byte bytes ≡ Err left → Stops FitsByte byte_text bytes left
  byte_stops [] left e =
      let none : 0 ≡ left = err_same {X = Unit {0}} 0 left e in
      record { front = []; rest = []; whole = refl; count = sym none; begins = record { x = tt; more = byte ∷ []; fits = tt; is = refl }; ends = λ b more is begins. absurd cc }
  byte_stops (b ∷ bytes) left e = go (b == byte) refl e
    where
      go : (t : Bool) → (b == byte) ≡ t → ◌≡◌ {A = Result (Unit {0} × List ℕ) ℕ} (if t then Ok (tt, bytes) else Err (suc (length bytes))) (Err left) → Stops FitsByte byte_text (b ∷ bytes) left
      go true is e = absurd cc
      go false is e =
          let size : suc (length bytes) ≡ left = err_same {X = Unit {0}} (suc (length bytes)) left e in
          record {
            front = [];
            rest = b ∷ bytes;
            whole = refl;
            count = sym size;
            begins = record { x = tt; more = byte ∷ []; fits = tt; is = refl };
            ends = λ c more at begins.
                let head : c ≡ b = cc in
                let whole : byte ∷ [] ≡ c ∷ begins.more = begins.is in
                let same : b ≡ byte = cc in
                let yes = eq-eqb b byte same in cc;
          }

  byte_again : (x : Unit {0}) (rest : List ℕ) → FitsByte x → byte_at byte (byte_text x ++ rest) ≡ Ok (x, rest)
  byte_again x rest fits = rw (eq-eqb byte byte refl) refl

  pub byte_reads : Reads FitsByte byte_text (byte_at byte)
  byte_reads = record { takes = byte_takes; again = byte_again; stops = byte_stops }
