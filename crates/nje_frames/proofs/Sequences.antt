-- Readers of two parts one after the other, and of one of two parts.
use Rattle.std.proofs.Common.{◌≡◌, ℕ, zero, suc, ◌+◌, ◌≤◌, ◌<◌, ◌⊎◌, Bool, true, false, List, [], ◌∷◌, ◌++◌, length, Result, Ok, Err, refl, sym, ap, ◌∙◌, append_assoc, arith, inl, inr}
use Rattle.std.specs.Prelude.{◌==◌, if◌then◌else◌}
use Rattle.std.proofs.lemmas.Bool.{eqb-true, eq-eqb, cases_lt}
use Rattle.std.proofs.lemmas.List.{append-nil, append_cancel_left}
use Rattle.nje_frames.specs.Reading.{◌>>=◌, both, told, unless_byte}
use Rattle.nje_frames.proofs.Readers.{Begins, Stops, Takes, Reads, read_cases, ok_same, ok_err, err_same, longer_front}

abbrev pub FitBoth : {X Y : Type 0} → (X → Type 0) → (Y → Type 0) → X × Y → Type 0
FitBoth F G z = F z.0 × G z.1

abbrev pub both_text : {X Y : Type 0} → (X → List ℕ) → (Y → List ℕ) → X × Y → List ℕ
both_text t u z = t z.0 ++ u z.1

module _ {X Y : Type 0} (F : X → Type 0) (t : X → List ℕ) (p : List ℕ → Result (X × List ℕ) ℕ) (G : Y → Type 0) (u : Y → List ℕ) (q : List ℕ → Result (Y × List ℕ) ℕ) (rp : Reads F t p) (rq : Reads G u q) where
  -- what follows once the first part was read
  both_after : (bytes : List ℕ) (x : X) (rest : List ℕ) → p bytes ≡ Ok (x, rest) → both p q bytes ≡ (q rest >>= λ b. Ok ((x, b.0), b.1))
  both_after bytes x rest e = rw e refl

  both_stopped : (bytes : List ℕ) (left : ℕ) → p bytes ≡ Err left → both p q bytes ≡ Err left
  both_stopped bytes left e = rw e refl

  second_after : (x : X) (rest : List ℕ) (y : Y) (more : List ℕ) → q rest ≡ Ok (y, more) → ◌≡◌ {A = Result ((X × Y) × List ℕ) ℕ} (q rest >>= λ b. Ok ((x, b.0), b.1)) (Ok ((x, y), more))
  second_after x rest y more e = rw e refl

  second_stopped : (x : X) (rest : List ℕ) (left : ℕ) → q rest ≡ Err left → ◌≡◌ {A = Result ((X × Y) × List ℕ) ℕ} (q rest >>= λ b. Ok ((x, b.0), b.1)) (Err left)
  second_stopped x rest left e = rw e refl

  both_takes : (bytes : List ℕ) (z : X × Y) (rest : List ℕ) → both p q bytes ≡ Ok (z, rest) → Takes (FitBoth F G) (both_text t u) bytes z rest
  both_takes bytes z rest e =
      read_cases (p bytes) (Takes (FitBoth F G) (both_text t u) bytes z rest)
      (λ x mid ep. read_cases (q mid) (Takes (FitBoth F G) (both_text t u) bytes z rest)
      (λ y more eq.
      let all = sym (both_after bytes x mid ep ∙ second_after x mid y more eq) ∙ e in
      let same = ok_same (x, y) z more rest all in
      let first = rp.takes bytes x mid ep in
      let second = rq.takes mid y more eq in
      let made : Takes (FitBoth F G) (both_text t u) bytes (x, y) more = record {
        fits = (first.fits, second.fits);
        is = first.is ∙ ap (λ (s : List ℕ). t x ++ s) second.is ∙ sym (append_assoc (t x) (u y) more);
      } in
      rw (← same.0, ← same.1) made)
      (λ left eq. absurd (ok_err z rest left (sym e ∙ both_after bytes x mid ep ∙ second_stopped x mid left eq))))
      (λ left ep. absurd (ok_err z rest left (sym e ∙ both_stopped bytes left ep)))

  both_again : (z : X × Y) (rest : List ℕ) → FitBoth F G z → both p q (both_text t u z ++ rest) ≡ Ok (z, rest)
  both_again z rest fits =
      let first = rp.again z.0 (u z.1 ++ rest) fits.0 in
      let second = rq.again z.1 rest fits.1 in
      ap (both p q) (append_assoc (t z.0) (u z.1) rest) ∙ both_after (t z.0 ++ (u z.1 ++ rest)) z.0 (u z.1 ++ rest) first ∙ second_after z.0 (u z.1 ++ rest) z.1 rest second

  -- the first part stopped
  first_stops : (y : Y) → G y → (bytes : List ℕ) (left : ℕ) → p bytes ≡ Err left → Stops (FitBoth F G) (both_text t u) bytes left
  first_stops y fits bytes left ep =
      let s = rp.stops bytes left ep in
      record {
        front = s.front;
        rest = s.rest;
        whole = s.whole;
        count = s.count;
        begins = record {
          x = (s.begins.x, y);
          more = s.begins.more ++ u y;
          fits = (s.begins.fits, fits);
          is = ap (λ (w : List ℕ). w ++ u y) s.begins.is ∙ append_assoc s.front s.begins.more (u y);
        };
        ends = λ b more at begins. further s.front s.rest s.whole b more at (s.ends b more at) begins;
      }
    where
      further : (front rest : List ℕ) → bytes ≡ front ++ rest → (b : ℕ) (more : List ℕ) → rest ≡ b ∷ more → (Begins F t (front ++ b ∷ []) → ⊥) → Begins (FitBoth F G) (both_text t u) (front ++ b ∷ []) → ⊥
      further front rest whole b more at never begins =
          let x = begins.x.0 in
          let tail = u begins.x.1 in
          go (cases_lt (length (t x)) (length (front ++ b ∷ [])))
        where
          go : (length (t begins.x.0) < length (front ++ b ∷ [])) ⊎ (length (front ++ b ∷ []) ≤ length (t begins.x.0)) → ⊥
          go (inr ge) =
              let l = longer_front (front ++ b ∷ []) (t begins.x.0) begins.more (u begins.x.1) ge (sym begins.is) in
              never (record { x = begins.x.0; more = l.0; fits = begins.fits.0; is = l.1.0 })
          go (inl lt) =
              let l = longer_front (t begins.x.0) (front ++ b ∷ []) (u begins.x.1) begins.more (omega arith) begins.is in
              let all : bytes ≡ t begins.x.0 ++ (l.0 ++ more) =
              whole ∙ ap (λ (w : List ℕ). front ++ w) at ∙ sym (append_assoc front (b ∷ []) more) ∙ ap (λ (w : List ℕ). w ++ more) l.1.0 ∙ append_assoc (t begins.x.0) l.0 more in
              let read = ap p all ∙ rp.again begins.x.0 (l.0 ++ more) begins.fits.0 in
              ok_err begins.x.0 (l.0 ++ more) left (sym read ∙ ep)

  -- two parts, one after the other, stop where the second stops
  second_stops : (bytes : List ℕ) (x : X) (mid : List ℕ) (left : ℕ) → p bytes ≡ Ok (x, mid) → q mid ≡ Err left → Stops (FitBoth F G) (both_text t u) bytes left
  second_stops bytes x mid left ep eq =
      let first = rp.takes bytes x mid ep in
      let s = rq.stops mid left eq in
      record {
        front = t x ++ s.front;
        rest = s.rest;
        whole = first.is ∙ ap (λ (w : List ℕ). t x ++ w) s.whole ∙ sym (append_assoc (t x) s.front s.rest);
        count = s.count;
        begins = record {
          x = (x, s.begins.x);
          more = s.begins.more;
          fits = (first.fits, s.begins.fits);
          is = ap (λ (w : List ℕ). t x ++ w) s.begins.is ∙ sym (append_assoc (t x) s.front s.begins.more);
        };
        ends = λ b more at begins. further s.front b (λ found. s.ends b more at found) begins;
      }
    where
      further : (front : List ℕ) (b : ℕ) → (Begins G u (front ++ b ∷ []) → ⊥) → Begins (FitBoth F G) (both_text t u) (t x ++ front ++ b ∷ []) → ⊥
      further front b never begins =
          let first = rp.takes bytes x mid ep in
          let rest = front ++ b ∷ [] ++ begins.more in
          let joined : (t x ++ front ++ b ∷ []) ++ begins.more ≡ t x ++ rest =
          ap (λ (w : List ℕ). w ++ begins.more) (append_assoc (t x) front (b ∷ [])) ∙ append_assoc (t x) (front ++ b ∷ []) begins.more in
          let one = rp.again x rest first.fits in
          let other = rp.again begins.x.0 (u begins.x.1) begins.fits.0 in
          let same = ok_same begins.x.0 x (u begins.x.1) rest (sym other ∙ ap p (begins.is ∙ joined) ∙ one) in
          never (record { x = begins.x.1; more = begins.more; fits = begins.fits.1; is = same.1 })

  both_stops : (y : Y) → G y → (bytes : List ℕ) (left : ℕ) → both p q bytes ≡ Err left → Stops (FitBoth F G) (both_text t u) bytes left
  both_stops y fits bytes left e =
      read_cases (p bytes) (Stops (FitBoth F G) (both_text t u) bytes left)
      (λ x mid ep. read_cases (q mid) (Stops (FitBoth F G) (both_text t u) bytes left)
      (λ z more eq. absurd (ok_err (x, z) more left (sym (both_after bytes x mid ep ∙ second_after x mid z more eq) ∙ e)))
      (λ found eq.
      let same : found ≡ left = err_same {X = X × Y} found left (sym (both_after bytes x mid ep ∙ second_stopped x mid found eq) ∙ e) in
      rw (← same) (second_stops bytes x mid found ep eq)))
      (λ found ep.
      let same : found ≡ left = err_same {X = X × Y} found left (sym (both_stopped bytes found ep) ∙ e) in
      rw (← same) (first_stops y fits bytes found ep))

  -- some text of the second part is needed, so that what the first begins can be gone on with
  pub both_reads : (y : Y) → G y → Reads (FitBoth F G) (both_text t u) (both p q)
  both_reads y fits = record { takes = both_takes; again = both_again; stops = both_stops y fits }

-- OTHERWISE TOLD

-- each value of the one is told by one of the other, with its text
pub record SaysAll {X Y : Type 0} (F : X → Type 0) (t : X → List ℕ) (G : Y → Type 0) (u : Y → List ℕ) (f : X → Y) (g : Y → X) : Type 0 where
  pub fits : (x : X) → F x → G (f x)
  pub text : (x : X) → F x → u (f x) ≡ t x
  pub fits_back : (y : Y) → G y → F (g y)
  pub text_back : (y : Y) → G y → t (g y) ≡ u y
  pub back : (y : Y) → G y → f (g y) ≡ y

module _ {X Y : Type 0} (F : X → Type 0) (t : X → List ℕ) (p : List ℕ → Result (X × List ℕ) ℕ) (G : Y → Type 0) (u : Y → List ℕ) (f : X → Y) (g : Y → X) (rp : Reads F t p) (s : SaysAll F t G u f g) where
  told_after : (bytes : List ℕ) (x : X) (rest : List ℕ) → p bytes ≡ Ok (x, rest) → told f p bytes ≡ Ok (f x, rest)
  told_after bytes x rest e = rw e refl

  told_stopped : (bytes : List ℕ) (left : ℕ) → p bytes ≡ Err left → told f p bytes ≡ Err left
  told_stopped bytes left e = rw e refl

  told_takes : (bytes : List ℕ) (y : Y) (rest : List ℕ) → told f p bytes ≡ Ok (y, rest) → Takes G u bytes y rest
  told_takes bytes y rest e =
      read_cases (p bytes) (Takes G u bytes y rest)
      (λ x more ep.
      let same = ok_same (f x) y more rest (sym (told_after bytes x more ep) ∙ e) in
      let taken = rp.takes bytes x more ep in
      let made : Takes G u bytes (f x) more = record { fits = s.fits x taken.fits; is = taken.is ∙ ap (λ (w : List ℕ). w ++ more) (sym (s.text x taken.fits)) } in
      rw (← same.0, ← same.1) made)
      (λ left ep. absurd (ok_err y rest left (sym e ∙ told_stopped bytes left ep)))

  told_again : (y : Y) (rest : List ℕ) → G y → told f p (u y ++ rest) ≡ Ok (y, rest)
  told_again y rest fits =
      let read = ap (λ (w : List ℕ). p (w ++ rest)) (sym (s.text_back y fits)) ∙ rp.again (g y) rest (s.fits_back y fits) in
      told_after (u y ++ rest) (g y) rest read ∙ ap (λ (z : Y). Ok (z, rest)) (s.back y fits)

  begins_told : (bytes : List ℕ) → Begins F t bytes → Begins G u bytes
  begins_told bytes b = record { x = f b.x; more = b.more; fits = s.fits b.x b.fits; is = s.text b.x b.fits ∙ b.is }

  begins_back : (bytes : List ℕ) → Begins G u bytes → Begins F t bytes
  begins_back bytes b = record { x = g b.x; more = b.more; fits = s.fits_back b.x b.fits; is = s.text_back b.x b.fits ∙ b.is }

  told_stops : (bytes : List ℕ) (left : ℕ) → told f p bytes ≡ Err left → Stops G u bytes left
  told_stops bytes left e =
      read_cases (p bytes) (Stops G u bytes left)
      (λ x more ep. absurd (ok_err (f x) more left (sym (told_after bytes x more ep) ∙ e)))
      (λ found ep.
      let same : found ≡ left = err_same {X = Y} found left (sym (told_stopped bytes found ep) ∙ e) in
      let found_stops = rp.stops bytes found ep in
      let made : Stops G u bytes found = record {
        front = found_stops.front;
        rest = found_stops.rest;
        whole = found_stops.whole;
        count = found_stops.count;
        begins = begins_told found_stops.front found_stops.begins;
        ends = λ b more at begins. found_stops.ends b more at (begins_back (found_stops.front ++ b ∷ []) begins);
      } in
      rw (← same) made)

  pub told_reads : Reads G u (told f p)
  told_reads = record { takes = told_takes; again = told_again; stops = told_stops }
