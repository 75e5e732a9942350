-- What every event keeps on a wire.
use Rattle.std.proofs.Common.{◌≡◌, ℕ, zero, suc, ◌+◌, ◌-◌, ◌≤◌, ◌<◌, ◌⊎◌, Bool, true, false, List, [], ◌∷◌, ◌++◌, length, take, drop, Option, Some, None, slice_get, refl, sym, ap, subst, ◌∙◌, arith, inl, inr, append_assoc}
use Rattle.std.specs.Prelude.{◌==◌, nat_le, nat_lt, ◌&&◌, if◌then◌else◌}
use Rattle.std.proofs.lemmas.Bool.{leb-true, leb-false, ltb-false, eqb-true, and_parts}
use Rattle.std.proofs.lemmas.List.{append-nil, length-append, take-append-drop, take-append-le}
use Rattle.std.proofs.lemmas.Option.{slice_get_within, slice_get_past}
use Rattle.mas_types.proofs.ListLemmas.{take-one_more}
use Rattle.nje_store.specs.declared.wire.WireWorld.{WireWorld}
use Rattle.nje_store.specs.declared.wire.WireFrame.{WireFrame}
use Rattle.nje_store.specs.declared.wire.WireEvent.{WireEvent}
use Rattle.nje_store.specs.declared.wire.WireEvent.TheVariants.{Load, Give, Frame, Ack}
use Rattle.nje_store.specs.declared.custody.Custody.{Custody}
use Rattle.nje_store.specs.declared.custody.Custody.TheVariants.{Next, Again, Gap}
use Rattle.nje_store.specs.Custody.{custody_of, refusal_of, number_refusal}
use Rattle.nje_store.specs.Wire.{quiet, item_at, loads, gives, gives_text, judged, gets, leaves, happens, run, got_number, got_frame, got_by, all_got, numbers_to, NoneIsLost, HasCustody}

abbrev Cards : Type 0
Cards = List (List ℕ)

-- LISTS

-- an item of a list with one more is one of the list, or the one more
pub pushed_item : {A : Type 0} (xs : List A) (y : A) (i : ℕ) (x : A) → slice_get (xs ++ y ∷ []) i ≡ Some x → (slice_get xs i ≡ Some x) ⊎ (y ≡ x)
pushed_item [] y zero x e = inr cc
pushed_item [] y (suc i) x e = absurd cc
pushed_item (z ∷ xs) y zero x e = inl e
pushed_item (z ∷ xs) y (suc i) x e = pushed_item xs y i x e

pub item_stays : {A : Type 0} (xs ys : List A) (i : ℕ) (x : A) → slice_get xs i ≡ Some x → slice_get (xs ++ ys) i ≡ Some x
item_stays [] ys i x e = absurd cc
item_stays (z ∷ xs) ys zero x e = e
item_stays (z ∷ xs) ys (suc i) x e = item_stays xs ys i x e

pub item-place : {A : Type 0} (xs : List A) (i : ℕ) (x : A) → item_at xs i ≡ Some x → (k : ℕ) × (slice_get xs k ≡ Some x)
item-place xs zero x e = absurd cc
item-place xs (suc i) x e = (i, e)

-- WHAT HOLDS AT EACH MOMENT

-- the frame is of a loaded job, with its number
pub record IsGiven (loaded : List Cards) (f : WireFrame) : Type 0 where
  pub place : ℕ
  pub number : f.number ≡ place + 1
  pub text : slice_get loaded place ≡ Some f.text

pub record IsSound (w : WireWorld) : Type 0 where
  pub kept : w.kept ≡ take (length w.kept) w.loaded
  pub few : length w.kept ≤ length w.loaded
  pub frames : (i : ℕ) (f : WireFrame) → slice_get w.frames i ≡ Some f → IsGiven w.loaded f
  pub acks : (i n : ℕ) → slice_get w.acks i ≡ Some n → n ≤ length w.kept
  pub sent : w.sent ≤ length w.kept
  pub loaded : length w.loaded ≡ (if w.busy then w.sent + 1 else w.sent)

quiet_sound : IsSound quiet
quiet_sound = record {
  kept = refl;
  few = omega arith;
  frames = λ i f e. absurd cc;
  acks = λ i n e. absurd cc;
  sent = omega arith;
  loaded = refl;
}

given_later : (loaded : List Cards) (text : Cards) (f : WireFrame) → IsGiven loaded f → IsGiven (loaded ++ text ∷ []) f
given_later loaded text f g = record { place = g.place; number = g.number; text = item_stays loaded (text ∷ []) g.place f.text g.text }

loads_sound : (w : WireWorld) (text : Cards) → IsSound w → IsSound (loads w text)
loads_sound w text s = go w.busy refl
  where
    go : (b : Bool) → w.busy ≡ b → IsSound (if b then w else record w { loaded = w.loaded ++ text ∷ []; busy = true })
    go true e = s
    go false e = record {
      kept = s.kept ∙ sym (take-append-le (length w.kept) w.loaded (text ∷ []) s.few);
      few = omega (arith, s.few, length-append w.loaded (text ∷ []));
      frames = λ i f h. given_later w.loaded text f (s.frames i f h);
      acks = s.acks;
      sent = s.sent;
      loaded = let size : length w.loaded ≡ w.sent = rw e at s.loaded in omega (arith, size, length-append w.loaded (text ∷ []));
    }

gives_sound : (w : WireWorld) → IsSound w → IsSound (gives w)
gives_sound w s = go w.busy refl
  where
    with_frame : w.busy ≡ true → (o : Option Cards) → slice_get w.loaded (length w.loaded - 1) ≡ o → IsSound (gives_text w o)
    with_frame e None h = s
    with_frame e (Some text) h =
        let size : length w.loaded ≡ w.sent + 1 = rw e at s.loaded in
        let last : length w.loaded - 1 ≡ w.sent = omega arith in
        let there : slice_get w.loaded w.sent ≡ Some text = rw last at h in
        let made : WireFrame = record { number = w.sent + 1; text = text } in
        record {
          kept = s.kept;
          few = s.few;
          frames = λ i f is. one i f (pushed_item w.frames made i f is) there;
          acks = s.acks;
          sent = s.sent;
          loaded = s.loaded;
        }
      where
        one : (i : ℕ) (f : WireFrame) → (slice_get w.frames i ≡ Some f) ⊎ (◌≡◌ {A = WireFrame} (record { number = w.sent + 1; text = text }) f) → slice_get w.loaded w.sent ≡ Some text → IsGiven w.loaded f
        one i f (inl old) there = s.frames i f old
        one i f (inr same) there = subst (λ (g : WireFrame). IsGiven w.loaded g) same (record { place = w.sent; number = refl; text = there })

    go : (b : Bool) → w.busy ≡ b → IsSound (if b then gives_text w (slice_get w.loaded (length w.loaded - 1)) else w)
    go true e = with_frame e (slice_get w.loaded (length w.loaded - 1)) refl
    go false e = s

-- what a judgement says of the number
record IsJudged (kept number : ℕ) (c : Custody) : Type 0 where
  next : c ≡ Next → number ≡ kept + 1
  again : (n : ℕ) → c ≡ Again n → (n ≡ number) × (number ≤ kept)

judged_is : (kept number : ℕ) → IsJudged kept number (custody_of kept number)
judged_is kept number = first (nat_le number kept) refl
  where
    second : (b : Bool) → nat_lt (kept + 1) number ≡ b → nat_le number kept ≡ false → IsJudged kept number (if b then Gap number kept else Next)
    second true e f = record { next = λ is. absurd cc; again = λ n is. absurd cc }
    second false e f = record { next = λ is. omega (arith, leb-false number kept f, ltb-false (kept + 1) number e); again = λ n is. absurd cc }

    first : (b : Bool) → nat_le number kept ≡ b → IsJudged kept number (if b then Again number else (if nat_lt (kept + 1) number then Gap number kept else Next))
    first true e = record { next = λ is. absurd cc; again = λ n is. (cc, leb-true number kept e) }
    first false e = second (nat_lt (kept + 1) number) refl e

judged_sound : (w : WireWorld) (f : WireFrame) (c : Custody) → IsSound w → IsGiven w.loaded f → IsJudged (length w.kept) f.number c → IsSound (judged w f c)
judged_sound w f (Gap number kept) s g j = s
judged_sound w f (Again number) s g j =
    let is = j.again number refl in
    record {
      kept = s.kept;
      few = s.few;
      frames = s.frames;
      acks = λ i n h. old i n (pushed_item w.acks f.number i n h) is.1;
      sent = s.sent;
      loaded = s.loaded;
    }
  where
    old : (i n : ℕ) → (slice_get w.acks i ≡ Some n) ⊎ (f.number ≡ n) → f.number ≤ length w.kept → n ≤ length w.kept
    old i n (inl h) le = s.acks i n h
    old i n (inr same) le = omega arith
judged_sound w f Next s g j =
    let number = j.next refl in
    let place : g.place ≡ length w.kept = omega (arith, g.number, number) in
    let there : slice_get w.loaded (length w.kept) ≡ Some f.text = subst (λ (k : ℕ). slice_get w.loaded k ≡ Some f.text) place g.text in
    let inside = slice_get_within w.loaded (length w.kept) f.text there in
    let size : length (w.kept ++ f.text ∷ []) ≡ length w.kept + 1 = length-append w.kept (f.text ∷ []) in
    record {
      kept =
          ap (λ (k : List Cards). k ++ f.text ∷ []) s.kept
          ∙ sym (take-one_more w.loaded (length w.kept) f.text there)
          ∙ ap (λ (n : ℕ). take n w.loaded) (sym size);
      few = omega (arith, size, inside);
      frames = s.frames;
      acks = λ i n h. old i n (pushed_item w.acks f.number i n h) number size;
      sent = omega (arith, size, s.sent);
      loaded = s.loaded;
    }
  where
    old : (i n : ℕ) → (slice_get w.acks i ≡ Some n) ⊎ (f.number ≡ n) → f.number ≡ length w.kept + 1 → length (w.kept ++ f.text ∷ []) ≡ length w.kept + 1 → n ≤ length (w.kept ++ f.text ∷ [])
    old i n (inl h) number size = let le = s.acks i n h in omega arith
    old i n (inr same) number size = omega arith

gets_sound : (w : WireWorld) (o : Option WireFrame) → IsSound w → ((f : WireFrame) → o ≡ Some f → IsGiven w.loaded f) → IsSound (gets w o)
gets_sound w None s g = s
gets_sound w (Some f) s g = judged_sound w f (custody_of (length w.kept) f.number) s (g f refl) (judged_is (length w.kept) f.number)

leaves_sound : (w : WireWorld) (o : Option ℕ) → IsSound w → ((n : ℕ) → o ≡ Some n → n ≤ length w.kept) → IsSound (leaves w o)
leaves_sound w None s h = s
leaves_sound w (Some n) s h = go (w.busy && (n == w.sent + 1)) refl
  where
    go : (b : Bool) → (w.busy && (n == w.sent + 1)) ≡ b → IsSound (if b then record w { sent = n; busy = false } else w)
    go false e = s
    go true e =
        let parts = and_parts w.busy (n == w.sent + 1) e in
        let number = eqb-true n (w.sent + 1) parts.1 in
        let size : length w.loaded ≡ w.sent + 1 = rw parts.0 at s.loaded in
        record { kept = s.kept; few = s.few; frames = s.frames; acks = s.acks; sent = h n refl; loaded = size ∙ sym number }

happens_sound : (w : WireWorld) (e : WireEvent) → IsSound w → IsSound (happens w e)
happens_sound w (Load text) s = loads_sound w text s
happens_sound w Give s = gives_sound w s
happens_sound w (Frame i) s = gets_sound w (item_at w.frames i) s (λ f h. let p = item-place w.frames i f h in s.frames p.0 f p.1)
happens_sound w (Ack i) s = leaves_sound w (item_at w.acks i) s (λ n h. let p = item-place w.acks i n h in s.acks p.0 n p.1)

run_sound : (w : WireWorld) (events : List WireEvent) → IsSound w → IsSound (run w events)
run_sound w [] s = s
run_sound w (e ∷ events) s = run_sound (happens w e) events (happens_sound w e s)

pub sound_at : (events : List WireEvent) → IsSound (run quiet events)
sound_at events = run_sound quiet events quiet_sound

-- the list goes on by the rest, which is no more than one item
one_at_most : (w : WireWorld) (rest : List Cards) → w.kept ++ rest ≡ w.loaded → length w.loaded ≤ length w.kept + 1 → (w.busy ≡ false → length w.loaded ≤ length w.kept) → NoneIsLost w
one_at_most w [] e most still = inl (sym e ∙ append-nil w.kept)
one_at_most w (text ∷ []) e most still = inr (text, busy w.busy refl, sym e)
  where
    busy : (b : Bool) → w.busy ≡ b → w.busy ≡ true
    busy true is = is
    busy false is = absurd (omega (arith, still is, ap (λ (k : List Cards). length k) e, length-append w.kept (text ∷ [])))
one_at_most w (text ∷ more ∷ rest) e most still = absurd (omega (arith, most, ap (λ (k : List Cards). length k) e, length-append w.kept (text ∷ more ∷ rest)))

custody_from : (w : WireWorld) → IsSound w → HasCustody w
custody_from w s = record { front = (rest, is); sent = s.sent; loaded = s.loaded; all = one_at_most w rest is (most w.busy s.loaded) still }
  where
    rest : List Cards
    rest = drop (length w.kept) w.loaded

    is : w.kept ++ rest ≡ w.loaded
    is = ap (λ (k : List Cards). k ++ drop (length w.kept) w.loaded) s.kept ∙ take-append-drop (length w.kept) w.loaded

    most : (b : Bool) → length w.loaded ≡ (if b then w.sent + 1 else w.sent) → length w.loaded ≤ length w.kept + 1
    most true e = omega (arith, s.sent)
    most false e = omega (arith, s.sent)

    still : w.busy ≡ false → length w.loaded ≤ length w.kept
    still e = let size : length w.loaded ≡ w.sent = rw e at s.loaded in omega (arith, size, s.sent)

pub keeps_custody : (events : List WireEvent) → HasCustody (run quiet events)
keeps_custody events = custody_from (run quiet events) (sound_at events)

-- EACH NUMBER ONCE

number_got : (w : WireWorld) (f : WireFrame) (c : Custody) → IsJudged (length w.kept) f.number c → numbers_to (length w.kept) ++ got_number c f.number ≡ numbers_to (length (judged w f c).kept)
number_got w f Next j =
    let number : f.number ≡ suc (length w.kept) = omega (arith, j.next refl) in
    let size : length (w.kept ++ f.text ∷ []) ≡ suc (length w.kept) = omega (arith, length-append w.kept (f.text ∷ [])) in
    ap (λ (n : ℕ). numbers_to (length w.kept) ++ n ∷ []) number ∙ ap numbers_to (sym size)
number_got w f (Again number) j = append-nil (numbers_to (length w.kept))
number_got w f (Gap number kept) j = append-nil (numbers_to (length w.kept))

loads_none : (w : WireWorld) (text : Cards) → numbers_to (length w.kept) ++ [] ≡ numbers_to (length (loads w text).kept)
loads_none w text = go w.busy
  where
    go : (b : Bool) → numbers_to (length w.kept) ++ [] ≡ numbers_to (length (if b then w else record w { loaded = w.loaded ++ text ∷ []; busy = true }).kept)
    go true = append-nil (numbers_to (length w.kept))
    go false = append-nil (numbers_to (length w.kept))

gives_none : (w : WireWorld) → numbers_to (length w.kept) ++ [] ≡ numbers_to (length (gives w).kept)
gives_none w = go w.busy (slice_get w.loaded (length w.loaded - 1))
  where
    go : (b : Bool) (o : Option Cards) → numbers_to (length w.kept) ++ [] ≡ numbers_to (length (if b then gives_text w o else w).kept)
    go true None = append-nil (numbers_to (length w.kept))
    go true (Some text) = append-nil (numbers_to (length w.kept))
    go false o = append-nil (numbers_to (length w.kept))

frame_got : (w : WireWorld) (o : Option WireFrame) → numbers_to (length w.kept) ++ got_frame w o ≡ numbers_to (length (gets w o).kept)
frame_got w None = append-nil (numbers_to (length w.kept))
frame_got w (Some f) = number_got w f (custody_of (length w.kept) f.number) (judged_is (length w.kept) f.number)

leaves_none : (w : WireWorld) (o : Option ℕ) → numbers_to (length w.kept) ++ [] ≡ numbers_to (length (leaves w o).kept)
leaves_none w None = append-nil (numbers_to (length w.kept))
leaves_none w (Some n) = go (w.busy && (n == w.sent + 1))
  where
    go : (b : Bool) → numbers_to (length w.kept) ++ [] ≡ numbers_to (length (if b then record w { sent = n; busy = false } else w).kept)
    go true = append-nil (numbers_to (length w.kept))
    go false = append-nil (numbers_to (length w.kept))

one_got : (w : WireWorld) (e : WireEvent) → numbers_to (length w.kept) ++ got_by w e ≡ numbers_to (length (happens w e).kept)
one_got w (Load text) = loads_none w text
one_got w Give = gives_none w
one_got w (Frame i) = frame_got w (item_at w.frames i)
one_got w (Ack i) = leaves_none w (item_at w.acks i)

all_are_got : (w : WireWorld) (events : List WireEvent) → numbers_to (length w.kept) ++ all_got w events ≡ numbers_to (length (run w events).kept)
all_are_got w [] = append-nil (numbers_to (length w.kept))
all_are_got w (e ∷ events) =
    sym (append_assoc (numbers_to (length w.kept)) (got_by w e) (all_got (happens w e) events))
    ∙ ap (λ (k : List ℕ). k ++ all_got (happens w e) events) (one_got w e)
    ∙ all_are_got (happens w e) events

pub gets_each_once : (events : List WireEvent) → all_got quiet events ≡ numbers_to (length (run quiet events).kept)
gets_each_once events = all_are_got quiet events

pub judges_as_got : (kept number : ℕ) → refusal_of (custody_of kept number) ≡ number_refusal kept number
judges_as_got kept number = first (nat_le number kept) refl
  where
    second : (b : Bool) → nat_lt (kept + 1) number ≡ b → nat_le number kept ≡ false → refusal_of (custody_of kept number) ≡ number_refusal kept number
    second true e f = rw (f, e) refl
    second false e f = rw (f, e) refl

    first : (b : Bool) → nat_le number kept ≡ b → refusal_of (custody_of kept number) ≡ number_refusal kept number
    first true e = rw e refl
    first false e = second (nat_lt (kept + 1) number) refl e

-- BOUNDS

loads_few : (w : WireWorld) (e : WireEvent) → length (happens w e).loaded ≤ length w.loaded + 1
loads_few w (Load text) = go w.busy
  where
    go : (b : Bool) → length (if b then w else record w { loaded = w.loaded ++ text ∷ []; busy = true }).loaded ≤ length w.loaded + 1
    go true = omega arith
    go false = omega (arith, length-append w.loaded (text ∷ []))
loads_few w Give = go w.busy (slice_get w.loaded (length w.loaded - 1))
  where
    text : (o : Option Cards) → length (gives_text w o).loaded ≤ length w.loaded + 1
    text None = omega arith
    text (Some t) = omega arith

    go : (b : Bool) (o : Option Cards) → length (if b then gives_text w o else w).loaded ≤ length w.loaded + 1
    go true o = text o
    go false o = omega arith
loads_few w (Frame i) = one (item_at w.frames i)
  where
    done : (f : WireFrame) (c : Custody) → length (judged w f c).loaded ≤ length w.loaded + 1
    done f Next = omega arith
    done f (Again n) = omega arith
    done f (Gap n k) = omega arith

    one : (o : Option WireFrame) → length (gets w o).loaded ≤ length w.loaded + 1
    one None = omega arith
    one (Some f) = done f (custody_of (length w.kept) f.number)
loads_few w (Ack i) = one (item_at w.acks i)
  where
    one : (o : Option ℕ) → length (leaves w o).loaded ≤ length w.loaded + 1
    one None = omega arith
    one (Some n) = go (w.busy && (n == w.sent + 1))
      where
        go : (b : Bool) → length (if b then record w { sent = n; busy = false } else w).loaded ≤ length w.loaded + 1
        go true = omega arith
        go false = omega arith

runs_few : (w : WireWorld) (events : List WireEvent) → length (run w events).loaded ≤ length w.loaded + length events
runs_few w [] = omega arith
runs_few w (e ∷ events) = omega (arith, loads_few w e, runs_few (happens w e) events)

-- what a wire holds after so many events
pub record IsBounded (w : WireWorld) (n : ℕ) : Type 0 where
  pub sent : w.sent ≤ n
  pub kept : length w.kept ≤ n

pub bounded_at : (events : List WireEvent) → IsBounded (run quiet events) (length events)
bounded_at events =
    let s = sound_at events in
    let few = runs_few quiet events in
    record { sent = omega (arith, s.sent, s.few, few); kept = omega (arith, s.few, few) }

run-append : (w : WireWorld) (xs ys : List WireEvent) → run w (xs ++ ys) ≡ run (run w xs) ys
run-append w [] ys = refl
run-append w (x ∷ xs) ys = run-append (happens w x) xs ys

pub run_more : (events : List WireEvent) (i : ℕ) (e : WireEvent) → slice_get events i ≡ Some e → run quiet (take (i + 1) events) ≡ happens (run quiet (take i events)) e
run_more events i e there =
    ap (run quiet) (take-one_more events i e there) ∙ run-append quiet (take i events) (e ∷ [])

-- ITEMS COUNTED FROM 1

pub item_there : {A : Type 0} (xs : List A) (at place : ℕ) → at ≡ suc place → item_at xs at ≡ slice_get xs place
item_there xs at place e = rw e refl

pub item_none : {A : Type 0} (xs : List A) (at : ℕ) → (at ≡ 0) ⊎ (length xs < at) → item_at xs at ≡ None
item_none xs zero h = refl
item_none xs (suc i) (inl e) = absurd (omega arith)
item_none xs (suc i) (inr lt) = slice_get_past xs i (omega arith)
