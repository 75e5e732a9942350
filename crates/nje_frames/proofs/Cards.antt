-- Reading cards.
use Rattle.std.proofs.Common.{◌≡◌, ℕ, zero, suc, ◌+◌, ◌-◌, ◌≤◌, ◌<◌, ◌⊎◌, Bool, true, false, List, [], ◌∷◌, ◌++◌, length, Result, Ok, Err, refl, sym, ap, ◌∙◌, append_assoc, arith, inl, inr}
use Rattle.std.specs.Prelude.{◌==◌, nat_le, nat_lt, ◌&&◌, if◌then◌else◌, All}
use Rattle.std.proofs.lemmas.Bool.{eqb-true, eq-eqb, ne_eqb, leb-true, le-leb, ltb-true, lt-ltb, and_parts, and_from}
use Rattle.std.proofs.lemmas.List.{append-nil, nil_from_length}
use Rattle.std.proofs.lemmas.List.Elements.{All-cons, All-head, All-tail, All-nil}
use Rattle.mas_types.specs.Fit.{is_text_byte, is_text_line}
use Rattle.mas_types.specs.Limits.{card_bytes, text_lines_most}
use Rattle.nje_frames.specs.Grammar.{line_feed, etx, cards_text, is_card, AreCards}
use Rattle.nje_frames.specs.Reading.{◌>>=◌, byte_at, with_bytes, card_at, both, told, unless_byte, first_and_rest, cards_at, text_at}
use Rattle.nje_frames.proofs.Readers.{Begins, Stops, Takes, Reads, read_cases, ok_same, ok_err, err_same, FitsByte, byte_text, byte_reads}
use Rattle.nje_frames.proofs.Sequences.{FitBoth, both_text, both_reads, SaysAll, told_reads}

-- ONE CARD

abbrev pub FitsCard : ℕ → List ℕ → Type 0
FitsCard room card = (length card ≤ room) × (is_text_line card ≡ true)

abbrev pub card_line : List ℕ → List ℕ
card_line card = card ++ line_feed ∷ []

pub card-ended : (room b : ℕ) (bytes : List ℕ) → (b == line_feed) ≡ true → card_at room (b ∷ bytes) ≡ Ok ([], bytes)
unfolding card_at
card-ended room b bytes e = rw e refl

pub card-goes_on : (room b : ℕ) (bytes : List ℕ) → (b == line_feed) ≡ false → (is_text_byte b && nat_lt 0 room) ≡ true → card_at room (b ∷ bytes) ≡ with_bytes (b ∷ []) (card_at (room - 1) bytes)
unfolding card_at
card-goes_on room b bytes e go = rw (e, go) refl

pub card-stopped : (room b : ℕ) (bytes : List ℕ) → (b == line_feed) ≡ false → (is_text_byte b && nat_lt 0 room) ≡ false → card_at room (b ∷ bytes) ≡ Err (suc (length bytes))
unfolding card_at
card-stopped room b bytes e stop = rw (e, stop) refl

pub card-nothing : (room : ℕ) → card_at room [] ≡ Err 0
unfolding card_at
card-nothing room = refl

-- cases on the first byte of a card
card_cases : (room b : ℕ) (P : Type 0) → ((b == line_feed) ≡ true → P) → ((b == line_feed) ≡ false → (is_text_byte b && nat_lt 0 room) ≡ true → P) → ((b == line_feed) ≡ false → (is_text_byte b && nat_lt 0 room) ≡ false → P) → P
card_cases room b P ended goes stopped = first (b == line_feed) refl
  where
    second : (t : Bool) → (is_text_byte b && nat_lt 0 room) ≡ t → (b == line_feed) ≡ false → P
    second true e f = goes f e
    second false e f = stopped f e

    first : (t : Bool) → (b == line_feed) ≡ t → P
    first true e = ended e
    first false e = second (is_text_byte b && nat_lt 0 room) refl e

text_no_feed : (b : ℕ) → is_text_byte b ≡ true → (b == line_feed) ≡ false
text_no_feed b h = let parts = and_parts (nat_le 32 b) (nat_le b 126) h in let low : 32 ≤ b = leb-true 32 b parts.0 in ne_eqb b line_feed (λ e. absurd (omega arith))

card_takes : (room : ℕ) (bytes : List ℕ) (x rest : List ℕ) → card_at room bytes ≡ Ok (x, rest) → Takes (FitsCard room) card_line bytes x rest
card_takes room [] x rest e = absurd (ok_err x rest 0 (sym e ∙ card-nothing room))
card_takes room (b ∷ bytes) x rest e =
    card_cases room b (Takes (FitsCard room) card_line (b ∷ bytes) x rest)
    (λ f. let same = ok_same [] x bytes rest (sym (card-ended room b bytes f) ∙ e) in
    let feed = eqb-true b line_feed f in
    rw (← same.0, ← same.1, feed) record { fits = (omega arith, refl); is = refl })
    (λ f go. goes (λ y more ey. card_takes (room - 1) bytes y more ey) go (sym (card-goes_on room b bytes f go) ∙ e))
    (λ f stop. absurd (ok_err x rest (suc (length bytes)) (sym e ∙ card-stopped room b bytes f stop)))
  where
    goes : ((y more : List ℕ) → card_at (room - 1) bytes ≡ Ok (y, more) → Takes (FitsCard (room - 1)) card_line bytes y more) → (is_text_byte b && nat_lt 0 room) ≡ true → with_bytes (b ∷ []) (card_at (room - 1) bytes) ≡ Ok (x, rest) → Takes (FitsCard room) card_line (b ∷ bytes) x rest
    goes further go is =
        let parts = and_parts (is_text_byte b) (nat_lt 0 room) go in
        let some : 0 < room = ltb-true 0 room parts.1 in
        read_cases (card_at (room - 1) bytes) (Takes (FitsCard room) card_line (b ∷ bytes) x rest)
        (λ y more ey.
        let read : ◌≡◌ {A = Result (List ℕ × List ℕ) ℕ} (Ok (b ∷ y, more)) (Ok (x, rest)) = sym (ap (with_bytes (b ∷ [])) ey) ∙ is in
        let same = ok_same (b ∷ y) x more rest read in
        let taken = further y more ey in
        let made : Takes (FitsCard room) card_line (b ∷ bytes) (b ∷ y) more = record {
          fits = (omega (arith, taken.fits.0), and_from (is_text_byte b) (is_text_line y) parts.0 taken.fits.1);
          is = ap (λ (w : List ℕ). b ∷ w) taken.is;
        } in
        rw (← same.0, ← same.1) made)
        (λ left ey. absurd (ok_err x rest left (sym is ∙ ap (with_bytes (b ∷ [])) ey)))

card_again : (room : ℕ) (x rest : List ℕ) → FitsCard room x → card_at room (card_line x ++ rest) ≡ Ok (x, rest)
card_again room [] rest fits = card-ended room line_feed rest refl
card_again room (b ∷ x) rest fits =
    let parts = and_parts (is_text_byte b) (is_text_line x) fits.1 in
    let some : nat_lt 0 room ≡ true = lt-ltb 0 room (omega (arith, fits.0)) in
    let next = card_again (room - 1) x rest (omega (arith, fits.0), parts.1) in
    card-goes_on room b (card_line x ++ rest) (text_no_feed b parts.0) (and_from (is_text_byte b) (nat_lt 0 room) parts.0 some) ∙ ap (with_bytes (b ∷ [])) next

card_stops : (room : ℕ) (bytes : List ℕ) (left : ℕ) → card_at room bytes ≡ Err left → Stops (FitsCard room) card_line bytes left
card_stops room [] left e =
    let none : 0 ≡ left = err_same {X = List ℕ} 0 left (sym (card-nothing room) ∙ e) in
    record { front = []; rest = []; whole = refl; count = sym none; begins = record { x = []; more = line_feed ∷ []; fits = (omega arith, refl); is = refl }; ends = λ b more at begins. absurd cc }
card_stops room (b ∷ bytes) left e =
    card_cases room b (Stops (FitsCard room) card_line (b ∷ bytes) left)
    (λ f. absurd (ok_err [] bytes left (sym (card-ended room b bytes f) ∙ e)))
    (λ f go. goes (λ found ey. card_stops (room - 1) bytes found ey) f go (sym (card-goes_on room b bytes f go) ∙ e))
    (λ f stop. stopped f stop (err_same {X = List ℕ} (suc (length bytes)) left (sym (card-stopped room b bytes f stop) ∙ e)))
  where
    stopped : (b == line_feed) ≡ false → (is_text_byte b && nat_lt 0 room) ≡ false → suc (length bytes) ≡ left → Stops (FitsCard room) card_line (b ∷ bytes) left
    stopped f stop size = record {
      front = [];
      rest = b ∷ bytes;
      whole = refl;
      count = sym size;
      begins = record { x = []; more = line_feed ∷ []; fits = (omega arith, refl); is = refl };
      ends = λ c more at begins. let head : c ≡ b = cc in never c head begins.x begins.more begins.fits begins.is;
    }
      where
        never : (c : ℕ) → c ≡ b → (x more : List ℕ) → FitsCard room x → card_line x ≡ c ∷ more → ⊥
        never c head [] more fits is = let same : b ≡ line_feed = cc in let yes = eq-eqb b line_feed same in absurd cc
        never c head (d ∷ x) more fits is =
            let same : d ≡ b = cc in
            let parts = and_parts (is_text_byte d) (is_text_line x) fits.1 in
            let text : is_text_byte b ≡ true = rw (← same) parts.0 in
            let some : nat_lt 0 room ≡ true = lt-ltb 0 room (omega (arith, fits.0)) in
            let yes = and_from (is_text_byte b) (nat_lt 0 room) text some in
            absurd cc

    goes : ((found : ℕ) → card_at (room - 1) bytes ≡ Err found → Stops (FitsCard (room - 1)) card_line bytes found) → (b == line_feed) ≡ false → (is_text_byte b && nat_lt 0 room) ≡ true → with_bytes (b ∷ []) (card_at (room - 1) bytes) ≡ Err left → Stops (FitsCard room) card_line (b ∷ bytes) left
    goes recur f go is =
        let parts = and_parts (is_text_byte b) (nat_lt 0 room) go in
        let some : 0 < room = ltb-true 0 room parts.1 in
        read_cases (card_at (room - 1) bytes) (Stops (FitsCard room) card_line (b ∷ bytes) left)
        (λ y more ey. absurd (ok_err (b ∷ y) more left (sym (ap (with_bytes (b ∷ [])) ey) ∙ is)))
        (λ found ey.
        let same : found ≡ left = err_same {X = List ℕ} found left (sym (ap (with_bytes (b ∷ [])) ey) ∙ is) in
        let s = recur found ey in
        let made : Stops (FitsCard room) card_line (b ∷ bytes) found = record {
          front = b ∷ s.front;
          rest = s.rest;
          whole = ap (λ (w : List ℕ). b ∷ w) s.whole;
          count = s.count;
          begins = record {
            x = b ∷ s.begins.x;
            more = s.begins.more;
            fits = (omega (arith, s.begins.fits.0), and_from (is_text_byte b) (is_text_line s.begins.x) parts.0 s.begins.fits.1);
            is = ap (λ (w : List ℕ). b ∷ w) s.begins.is;
          };
          ends = λ c more at begins. further s.front c (s.ends c more at) begins.x begins.more begins.fits begins.is;
        } in
        rw (← same) made)
      where
        further : (front : List ℕ) (c : ℕ) → (Begins (FitsCard (room - 1)) card_line (front ++ c ∷ []) → ⊥) → (x more : List ℕ) → FitsCard room x → card_line x ≡ b ∷ (front ++ c ∷ [] ++ more) → ⊥
        further front c never [] more fits is = let same : b ≡ line_feed = cc in let yes = eq-eqb b line_feed same in absurd cc
        further front c never (d ∷ x) more fits is =
            let parts = and_parts (is_text_byte d) (is_text_line x) fits.1 in
            let tail : card_line x ≡ front ++ c ∷ [] ++ more = cc in
            never (record { x = x; more = more; fits = (omega (arith, fits.0), parts.1); is = tail })

pub card_reads : (room : ℕ) → Reads (FitsCard room) card_line (card_at room)
card_reads room = record { takes = card_takes room; again = card_again room; stops = card_stops room }

-- A PART, OR ONE BYTE

-- the texts of the part, none of which begins with the byte, and the byte
pub record HasBoth {X : Type 0} (byte : ℕ) (alone : X) (F : X → Type 0) (t : X → List ℕ) (G : X → Type 0) (u : X → List ℕ) : Type 0 where
  pub alone_fits : G alone
  pub alone_text : u alone ≡ byte ∷ []
  pub fits : (x : X) → F x → G x
  pub text : (x : X) → F x → u x ≡ t x
  pub only : (x : X) → G x → (x ≡ alone) ⊎ (F x)
  pub starts : (x : X) → F x → (b : ℕ) × ((more : List ℕ) × ((t x ≡ b ∷ more) × ((b == byte) ≡ false)))

module _ {X : Type 0} (byte : ℕ) (alone : X) (F : X → Type 0) (t : X → List ℕ) (G : X → Type 0) (u : X → List ℕ) (p : List ℕ → Result (X × List ℕ) ℕ) (rp : Reads F t p) (h : HasBoth byte alone F t G u) where
  unless_there : (b : ℕ) (bytes : List ℕ) → (b == byte) ≡ true → unless_byte byte alone p (b ∷ bytes) ≡ Ok (alone, bytes)
  unless_there b bytes e = rw e refl

  unless_else : (b : ℕ) (bytes : List ℕ) → (b == byte) ≡ false → unless_byte byte alone p (b ∷ bytes) ≡ p (b ∷ bytes)
  unless_else b bytes e = rw e refl

  begins_up : (bytes : List ℕ) → Begins F t bytes → Begins G u bytes
  begins_up bytes b = record { x = b.x; more = b.more; fits = h.fits b.x b.fits; is = h.text b.x b.fits ∙ b.is }

  takes_up : (bytes : List ℕ) (x : X) (rest : List ℕ) → Takes F t bytes x rest → Takes G u bytes x rest
  takes_up bytes x rest taken = record { fits = h.fits x taken.fits; is = taken.is ∙ ap (λ (w : List ℕ). w ++ rest) (sym (h.text x taken.fits)) }

  unless_takes : (bytes : List ℕ) (x : X) (rest : List ℕ) → unless_byte byte alone p bytes ≡ Ok (x, rest) → Takes G u bytes x rest
  unless_takes [] x rest e = takes_up [] x rest (rp.takes [] x rest e)
  unless_takes (b ∷ bytes) x rest e = go (b == byte) refl
    where
      go : (z : Bool) → (b == byte) ≡ z → Takes G u (b ∷ bytes) x rest
      go true is =
          let same = ok_same alone x bytes rest (sym (unless_there b bytes is) ∙ e) in
          let one = eqb-true b byte is in
          rw (← same.0, ← same.1, one) record { fits = h.alone_fits; is = rw h.alone_text refl }
      go false is = takes_up (b ∷ bytes) x rest (rp.takes (b ∷ bytes) x rest (sym (unless_else b bytes is) ∙ e))

  unless_again : (x : X) (rest : List ℕ) → G x → unless_byte byte alone p (u x ++ rest) ≡ Ok (x, rest)
  unless_again x rest fits = go (h.only x fits)
    where
      go : (x ≡ alone) ⊎ (F x) → unless_byte byte alone p (u x ++ rest) ≡ Ok (x, rest)
      go (inl is) = rw (is, h.alone_text) (unless_there byte rest (eq-eqb byte byte refl))
      go (inr fx) =
          let s = h.starts x fx in
          let split : u x ++ rest ≡ s.0 ∷ (s.1.0 ++ rest) = ap (λ (w : List ℕ). w ++ rest) (h.text x fx ∙ s.1.1.0) in
          let back : s.0 ∷ (s.1.0 ++ rest) ≡ t x ++ rest = ap (λ (w : List ℕ). w ++ rest) (sym s.1.1.0) in
          ap (unless_byte byte alone p) split ∙ unless_else s.0 (s.1.0 ++ rest) s.1.1.1 ∙ ap p back ∙ rp.again x rest fx

  one_byte : (front : List ℕ) (c : ℕ) (more : List ℕ) → byte ∷ [] ≡ front ++ c ∷ [] ++ more → (front ≡ []) × (byte ≡ c)
  one_byte [] c more e = (refl, cc)
  one_byte (d ∷ []) c more e = absurd (let tail : [] ≡ c ∷ more = cc in cc)
  one_byte (d ∷ d' ∷ front) c more e = absurd (let tail : [] ≡ d' ∷ (front ++ c ∷ [] ++ more) = cc in cc)

  up_stops : (bytes : List ℕ) (left : ℕ) → ((c : ℕ) (more : List ℕ) → bytes ≡ c ∷ more → (c == byte) ≡ false) → Stops F t bytes left → Stops G u bytes left
  up_stops bytes left other s = record {
    front = s.front;
    rest = s.rest;
    whole = s.whole;
    count = s.count;
    begins = begins_up s.front s.begins;
    ends = λ c more at begins. further s.front s.rest s.whole c more at (s.ends c more at) begins.x begins.more begins.fits begins.is (h.only begins.x begins.fits);
  }
    where
      further : (front rest : List ℕ) → bytes ≡ front ++ rest → (c : ℕ) (more : List ℕ) → rest ≡ c ∷ more → (Begins F t (front ++ c ∷ []) → ⊥) → (x : X) (after : List ℕ) → G x → u x ≡ front ++ c ∷ [] ++ after → (x ≡ alone) ⊎ (F x) → ⊥
      further front rest whole c more at never x after fits is (inr fx) = never (record { x = x; more = after; fits = fx; is = sym (h.text x fx) ∙ is })
      further front rest whole c more at never x after fits is (inl same) =
          let alone_is : byte ∷ [] ≡ front ++ c ∷ [] ++ after = sym h.alone_text ∙ ap u (sym same) ∙ is in
          let one = one_byte front c after alone_is in
          let first : bytes ≡ c ∷ more = whole ∙ ap (λ (w : List ℕ). w ++ rest) one.0 ∙ at in
          let no = other c more first in
          let yes = eq-eqb c byte (sym one.1) in
          absurd cc

  unless_stops : (bytes : List ℕ) (left : ℕ) → unless_byte byte alone p bytes ≡ Err left → Stops G u bytes left
  unless_stops [] left e = up_stops [] left (λ c more at. absurd cc) (rp.stops [] left e)
  unless_stops (b ∷ bytes) left e = go (b == byte) refl
    where
      go : (z : Bool) → (b == byte) ≡ z → Stops G u (b ∷ bytes) left
      go true is = absurd (ok_err alone bytes left (sym (unless_there b bytes is) ∙ e))
      go false is =
          up_stops (b ∷ bytes) left (λ c more at. let same : c ≡ b = cc in rw same is)
          (rp.stops (b ∷ bytes) left (sym (unless_else b bytes is) ∙ e))

  pub unless_reads : Reads G u (unless_byte byte alone p)
  unless_reads = record { takes = unless_takes; again = unless_again; stops = unless_stops }

-- ALL CARDS

abbrev pub FitsCards : ℕ → List (List ℕ) → Type 0
FitsCards left cards = (length cards ≤ left) × All (λ card. is_card card ≡ true) cards

abbrev pub cards_line : List (List ℕ) → List ℕ
cards_line cards = cards_text cards ++ etx ∷ []

-- the cards fit, and there is at least one
abbrev pub FitsSome : ℕ → List (List ℕ) → Type 0
FitsSome left cards = (1 ≤ length cards) × FitsCards left cards

fits_card : (card : List ℕ) → FitsCard card_bytes card → is_card card ≡ true
fits_card card fits = and_from (nat_le (length card) card_bytes) (is_text_line card) (le-leb (length card) card_bytes fits.0) fits.1

card_fits : (card : List ℕ) → is_card card ≡ true → FitsCard card_bytes card
card_fits card is = let parts = and_parts (nat_le (length card) card_bytes) (is_text_line card) is in (leb-true (length card) card_bytes parts.0, parts.1)

abbrev pub rest_of : List (List ℕ) → List ℕ × List (List ℕ)
rest_of [] = ([], [])
rest_of (card ∷ cards) = (card, cards)

joined : (card : List ℕ) (cards : List (List ℕ)) → card_line card ++ cards_line cards ≡ cards_line (card ∷ cards)
joined card cards =
    append_assoc card (line_feed ∷ []) (cards_line cards) ∙ sym (append_assoc card (line_feed ∷ cards_text cards) (etx ∷ []))

says_some : (left : ℕ) → SaysAll (FitBoth (FitsCard card_bytes) (FitsCards left)) (both_text card_line cards_line) (FitsSome (suc left)) cards_line first_and_rest rest_of
says_some left = record {
  fits = λ x f. (omega arith, (omega (arith, f.1.0), All-cons (λ card. is_card card ≡ true) x.0 x.1 (fits_card x.0 f.0) f.1.1));
  text = λ x f. sym (joined x.0 x.1);
  fits_back = back;
  text_back = texts;
  back = again;
}
  where
    back : (y : List (List ℕ)) → FitsSome (suc left) y → FitsCard card_bytes (rest_of y).0 × FitsCards left (rest_of y).1
    back [] f = absurd (omega (arith, f.0))
    back (card ∷ cards) f = (card_fits card (All-head (λ card. is_card card ≡ true) card cards f.1.1), (omega (arith, f.1.0), All-tail (λ card. is_card card ≡ true) card cards f.1.1))

    texts : (y : List (List ℕ)) → FitsSome (suc left) y → card_line (rest_of y).0 ++ cards_line (rest_of y).1 ≡ cards_line y
    texts [] f = absurd (omega (arith, f.0))
    texts (card ∷ cards) f = joined card cards

    again : (y : List (List ℕ)) → FitsSome (suc left) y → first_and_rest (rest_of y) ≡ y
    again [] f = absurd (omega (arith, f.0))
    again (card ∷ cards) f = refl

some_reads : (left : ℕ) → Reads (FitsCards left) cards_line (cards_at left) → Reads (FitsSome (suc left)) cards_line (told first_and_rest (both (card_at card_bytes) (cards_at left)))
some_reads left rest =
    told_reads (FitBoth (FitsCard card_bytes) (FitsCards left)) (both_text card_line cards_line) (both (card_at card_bytes) (cards_at left)) (FitsSome (suc left)) cards_line first_and_rest rest_of
    (both_reads (FitsCard card_bytes) card_line (card_at card_bytes) (FitsCards left) cards_line (cards_at left) (card_reads card_bytes) rest [] (omega arith, All-nil (λ card. is_card card ≡ true)))
    (says_some left)

no_etx : (card : List ℕ) (cards : List (List ℕ)) → is_card card ≡ true → (b : ℕ) × ((more : List ℕ) × ((cards_line (card ∷ cards) ≡ b ∷ more) × ((b == etx) ≡ false)))
no_etx [] cards is = (line_feed, (cards_text cards ++ etx ∷ [], (refl, refl)))
no_etx (b ∷ card) cards is =
    let fits = card_fits (b ∷ card) is in
    let parts = and_parts (is_text_byte b) (is_text_line card) fits.1 in
    let low = and_parts (nat_le 32 b) (nat_le b 126) parts.0 in
    let least : 32 ≤ b = leb-true 32 b low.0 in
    (b, (card ++ line_feed ∷ cards_text cards ++ etx ∷ [], (refl, ne_eqb b etx (λ e. absurd (omega arith)))))

has_both : (left : ℕ) → HasBoth etx [] (FitsSome (suc left)) cards_line (FitsCards (suc left)) cards_line
has_both left = record {
  alone_fits = (omega arith, All-nil (λ card. is_card card ≡ true));
  alone_text = refl;
  fits = λ x f. f.1;
  text = λ x f. refl;
  only = some_or_none;
  starts = first;
}
  where
    some_or_none : (x : List (List ℕ)) → FitsCards (suc left) x → (x ≡ []) ⊎ (FitsSome (suc left) x)
    some_or_none [] f = inl refl
    some_or_none (card ∷ cards) f = inr (omega arith, f)

    first : (x : List (List ℕ)) → FitsSome (suc left) x → (b : ℕ) × ((more : List ℕ) × ((cards_line x ≡ b ∷ more) × ((b == etx) ≡ false)))
    first [] f = absurd (omega (arith, f.0))
    first (card ∷ cards) f = no_etx card cards (All-head (λ card. is_card card ≡ true) card cards f.1.1)

says_none : SaysAll (FitsByte etx) (byte_text etx) (FitsCards 0) cards_line (λ (x : Unit {0}). []) (λ (y : List (List ℕ)). tt)
says_none = record {
  fits = λ x f. (omega arith, All-nil (λ card. is_card card ≡ true));
  text = λ x f. refl;
  fits_back = λ y f. tt;
  text_back = λ y f. let none : y ≡ [] = nil_from_length y (omega (arith, f.0)) in rw none refl;
  back = λ y f. sym (nil_from_length y (omega (arith, f.0)));
}

pub reads_same : {X : Type 0} (F : X → Type 0) (t : X → List ℕ) (p q : List ℕ → Result (X × List ℕ) ℕ) → ((bytes : List ℕ) → q bytes ≡ p bytes) → Reads F t p → Reads F t q
reads_same F t p q same r = record {
  takes = λ bytes x rest e. r.takes bytes x rest (sym (same bytes) ∙ e);
  again = λ x rest f. same (t x ++ rest) ∙ r.again x rest f;
  stops = λ bytes left e. r.stops bytes left (sym (same bytes) ∙ e);
}

pub cards-none : (bytes : List ℕ) → cards_at 0 bytes ≡ told (λ (x : Unit {0}). []) (byte_at etx) bytes
unfolding cards_at
cards-none bytes = refl

pub cards-some : (left : ℕ) (bytes : List ℕ) → cards_at (suc left) bytes ≡ unless_byte etx [] (told first_and_rest (both (card_at card_bytes) (cards_at left))) bytes
unfolding cards_at
cards-some left bytes = refl

pub cards_reads : (left : ℕ) → Reads (FitsCards left) cards_line (cards_at left)
cards_reads zero =
    reads_same (FitsCards 0) cards_line (told (λ (x : Unit {0}). []) (byte_at etx)) (cards_at 0) cards-none
    (told_reads (FitsByte etx) (byte_text etx) (byte_at etx) (FitsCards 0) cards_line (λ (x : Unit {0}). []) (λ (y : List (List ℕ)). tt) (byte_reads etx) says_none)
cards_reads (suc left) =
    reads_same (FitsCards (suc left)) cards_line (unless_byte etx [] (told first_and_rest (both (card_at card_bytes) (cards_at left)))) (cards_at (suc left)) (cards-some left)
    (unless_reads etx [] (FitsSome (suc left)) cards_line (FitsCards (suc left)) cards_line (told first_and_rest (both (card_at card_bytes) (cards_at left))) (some_reads left (cards_reads left)) (has_both left))

-- THE CARDS OF A FRAME

same_fit : {X : Type 0} (F G : X → Type 0) (t : X → List ℕ) (p : List ℕ → Result (X × List ℕ) ℕ) → ((x : X) → F x → G x) → ((x : X) → G x → F x) → Reads F t p → Reads G t p
same_fit F G t p up down r = record {
  takes = λ bytes x rest e. let taken = r.takes bytes x rest e in record { fits = up x taken.fits; is = taken.is };
  again = λ x rest f. r.again x rest (down x f);
  stops = λ bytes left e. let s = r.stops bytes left e in record {
    front = s.front;
    rest = s.rest;
    whole = s.whole;
    count = s.count;
    begins = record { x = s.begins.x; more = s.begins.more; fits = up s.begins.x s.begins.fits; is = s.begins.is };
    ends = λ b more at begins. s.ends b more at (record { x = begins.x; more = begins.more; fits = down begins.x begins.fits; is = begins.is });
  };
}

text_reads_of : (left : ℕ) → suc left ≡ text_lines_most → Reads AreCards cards_line (told first_and_rest (both (card_at card_bytes) (cards_at left)))
text_reads_of left is =
    same_fit (FitsSome (suc left)) AreCards cards_line (told first_and_rest (both (card_at card_bytes) (cards_at left)))
    (λ x f. record { some = f.0; few = omega (arith, f.1.0); each = f.1.1 })
    (λ y f. (f.some, (omega (arith, f.few), f.each)))
    (some_reads left (cards_reads left))

pub text_reads : Reads AreCards cards_line text_at
text_reads = text_reads_of (text_lines_most - 1) refl
