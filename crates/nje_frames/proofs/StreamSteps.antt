-- What each step of reading a stream adds, and what it leaves.
use Rattle.std.proofs.Common.{◌≡◌, ℕ, zero, suc, ◌+◌, ◌-◌, ◌≤◌, ◌<◌, Bool, true, false, List, [], ◌∷◌, ◌++◌, length, take, drop, get_or, Option, Some, None, Ok, Err, refl, sym, ap, subst, ◌∙◌, append_assoc, arith, add-one}
use Rattle.std.specs.Prelude.{◌==◌, nat_lt, not, ◌&&◌, ◌||◌, if◌then◌else◌}
use Rattle.std.specs.List.{list_all, slice_index}
use Rattle.std.proofs.lemmas.Bool.{eqb-true, eq-eqb, ltb-true, ltb-false, lt-ltb, le-ltb, and_parts, and_from}
use Rattle.std.proofs.lemmas.List.{append-nil, length-append, take-append-drop, take_all, take_more, drop_more, take_at}
use Rattle.std.proofs.lemmas.List.Folds.{list_all_more}
use Rattle.nje_frames.specs.declared.frames.Frame.{Frame}
use Rattle.nje_frames.specs.Grammar.{stx, etx}
use Rattle.nje_frames.specs.Reading.{frame_at}
use Rattle.nje_frames.specs.Streams.{is_mark, is_plain, is_start, IsFirst, frame_of, frames_in, frame_most, last_start, if_short, open_end, is_open, Gains, AddsFirst, HasTaken, HasFed, HasFailed}
use Rattle.nje_frames.proofs.StreamLemmas.{IsPlain, all_joined, long_none, frames-skip, start-skip, frames-none, start-none, frames-ended, frames-again, frames-open, start-open, start-marked, short-true}

-- THE FIRST BYTE THAT MEETS A TEST

module _ (test : ℕ → Bool) (bytes : List ℕ) (at : ℕ) (f : IsFirst test bytes at) where
  pub first_tail : drop at bytes ≡ get_or bytes at 0 ∷ drop (at + 1) bytes
  first_tail = drop_more bytes at 0 f.inside

  pub first_split : bytes ≡ take at bytes ++ get_or bytes at 0 ∷ drop (at + 1) bytes
  first_split = sym (take-append-drop at bytes) ∙ ap (λ (w : List ℕ). take at bytes ++ w) first_tail

-- the bytes from the first STX on
pub start_is : (bytes : List ℕ) (at : ℕ) → IsFirst is_start bytes at → drop at bytes ≡ stx ∷ drop (at + 1) bytes
start_is bytes at f = first_tail is_start bytes at f ∙ ap (λ (b : ℕ). b ∷ drop (at + 1) bytes) (eqb-true (get_or bytes at 0) stx f.here)

pub start_frames : (bytes : List ℕ) (at : ℕ) → IsFirst is_start bytes at → frames_in bytes ≡ frames_in (drop at bytes)
start_frames bytes at f = ap frames_in (sym (take-append-drop at bytes)) ∙ frames-skip (take at bytes) (drop at bytes) f.before

pub start_last : (bytes : List ℕ) (at : ℕ) → IsFirst is_start bytes at → last_start bytes ≡ last_start (drop at bytes)
start_last bytes at f = ap last_start (sym (take-append-drop at bytes)) ∙ start-skip (take at bytes) (drop at bytes) f.before

-- AN STX AND PLAIN BYTES, AND MORE BYTES UP TO THE NEXT MARK

mark_cases : (m : ℕ) → is_mark m ≡ true → (m == etx) ≡ false → m ≡ stx
mark_cases m h other = go (m == stx) refl h
  where
    go : (z : Bool) → (m == stx) ≡ z → (z || (m == etx)) ≡ true → m ≡ stx
    go true e k = eqb-true m stx e
    go false e k = absurd (let both : false ≡ true = sym other ∙ k in cc)

module _ (front more : List ℕ) (at : ℕ) (plain : IsPlain front) (f : IsFirst is_mark more at) where
  all_plain : IsPlain (front ++ take at more)
  all_plain = all_joined is_plain front (take at more) plain f.before

  regrouped : front ++ more ≡ (front ++ take at more) ++ get_or more at 0 ∷ drop (at + 1) more
  regrouped = ap (λ (w : List ℕ). front ++ w) (first_split is_mark more at f) ∙ sym (append_assoc front (take at more) (get_or more at 0 ∷ drop (at + 1) more))

  pub mark_last : last_start (stx ∷ (front ++ more)) ≡ last_start (drop at more)
  mark_last =
      ap (λ (w : List ℕ). last_start (stx ∷ w)) regrouped
      ∙ start-marked (front ++ take at more) (get_or more at 0) (drop (at + 1) more) all_plain f.here
      ∙ ap last_start (sym (first_tail is_mark more at f))

  pub mark_ends : get_or more at 0 ≡ etx → frames_in (stx ∷ (front ++ more)) ≡ frame_of (stx ∷ (front ++ take (at + 1) more)) ++ frames_in (drop at more)
  mark_ends is =
      let tail : drop at more ≡ etx ∷ drop (at + 1) more = first_tail is_mark more at f ∙ ap (λ (b : ℕ). b ∷ drop (at + 1) more) is in
      let whole : stx ∷ ((front ++ take at more) ++ etx ∷ []) ≡ stx ∷ (front ++ take (at + 1) more) =
      ap (λ (w : List ℕ). stx ∷ w) (append_assoc front (take at more) (etx ∷ [])
      ∙ ap (λ (b : ℕ). front ++ (take at more ++ b ∷ [])) (sym is)
      ∙ ap (λ (w : List ℕ). front ++ w) (sym (take_more more at 0 f.inside))) in
      ap (λ (w : List ℕ). frames_in (stx ∷ w)) (regrouped ∙ ap (λ (b : ℕ). (front ++ take at more) ++ b ∷ drop (at + 1) more) is)
      ∙ frames-ended (front ++ take at more) (drop (at + 1) more) all_plain
      ∙ ap (λ (w : List ℕ). frame_of w ++ frames_in (etx ∷ drop (at + 1) more)) whole
      ∙ ap (λ (w : List ℕ). frame_of (stx ∷ (front ++ take (at + 1) more)) ++ frames_in w) (sym tail)

  pub mark_anew : (get_or more at 0 == etx) ≡ false → frames_in (stx ∷ (front ++ more)) ≡ frames_in (drop at more)
  mark_anew other =
      let is : get_or more at 0 ≡ stx = mark_cases (get_or more at 0) f.here other in
      let tail : drop at more ≡ stx ∷ drop (at + 1) more = first_tail is_mark more at f ∙ ap (λ (b : ℕ). b ∷ drop (at + 1) more) is in
      ap (λ (w : List ℕ). frames_in (stx ∷ w)) (regrouped ∙ ap (λ (b : ℕ). (front ++ take at more) ++ b ∷ drop (at + 1) more) is)
      ∙ frames-again (front ++ take at more) (drop (at + 1) more) all_plain
      ∙ ap frames_in (sym tail)

-- BYTES THAT BEGIN WITH AN STX

pub started : (ahead : List ℕ) → slice_index ahead 0 ≡ stx → 0 < length ahead → ahead ≡ stx ∷ drop 1 ahead
started [] h some = absurd (omega arith)
started (b ∷ ahead) h some = ap (λ (c : ℕ). c ∷ ahead) h

module _ (ahead : List ℕ) (at : ℕ) (is : ahead ≡ stx ∷ drop 1 ahead) (f : IsFirst is_mark (drop 1 ahead) at) where
  next_byte : get_or ahead (at + 1) 0 ≡ get_or (drop 1 ahead) at 0
  next_byte = ap (λ (w : List ℕ). get_or w (at + 1) 0) is ∙ rw add-one refl

  pub next_rest : drop (at + 1) ahead ≡ drop at (drop 1 ahead)
  next_rest = ap (λ (w : List ℕ). drop (at + 1) w) is ∙ rw add-one refl

  next_front : take (at + 2) ahead ≡ stx ∷ take (at + 1) (drop 1 ahead)
  next_front =
      let two : at + 2 ≡ suc (at + 1) = omega arith in
      ap (λ (w : List ℕ). take (at + 2) w) is ∙ rw two refl

  pub open_last : last_start ahead ≡ last_start (drop (at + 1) ahead)
  open_last = ap last_start is ∙ mark_last [] (drop 1 ahead) at refl f ∙ ap last_start (sym next_rest)

  pub open_ends : get_or ahead (at + 1) 0 ≡ etx → (before after : List Frame) → after ≡ before ++ frame_of (take (at + 2) ahead) → Gains ahead (drop (at + 1) ahead) before after
  open_ends end before after added = record {
    gained = frame_of (take (at + 2) ahead);
    is = added;
    left =
        let whole = mark_ends [] (drop 1 ahead) at refl f (sym next_byte ∙ end) in
        ap (λ (w : List ℕ). frame_of w ++ frames_in (drop (at + 1) ahead)) next_front
        ∙ ap (λ (w : List ℕ). frame_of (stx ∷ take (at + 1) (drop 1 ahead)) ++ frames_in w) next_rest
        ∙ sym whole ∙ ap frames_in (sym is);
  }

  pub open_anew : (get_or ahead (at + 1) 0 == etx) ≡ false → (before : List Frame) → Gains ahead (drop (at + 1) ahead) before before
  open_anew other before = record {
    gained = [];
    is = sym (append-nil before);
    left =
        let test : (get_or (drop 1 ahead) at 0 == etx) ≡ false = ap (λ (b : ℕ). b == etx) (sym next_byte) ∙ other in
        ap frames_in next_rest ∙ sym (mark_anew [] (drop 1 ahead) at refl f test) ∙ ap frames_in (sym is);
  }

-- A WHOLE PIECE

-- what was added so far, and what is left
pub record HasPushed (stream rest : List ℕ) (before after : List Frame) : Type 0 where
  pub gains : Gains stream rest before after
  pub last : last_start rest ≡ last_start stream

pub pushed_none : (stream : List ℕ) (before : List Frame) → HasPushed stream stream before before
pushed_none stream before = record { gains = record { gained = []; is = sym (append-nil before); left = refl }; last = refl }

pub pushed_more : (stream rest ahead next : List ℕ) (before mid after : List Frame) → HasPushed stream rest before mid → frames_in rest ≡ frames_in ahead → last_start rest ≡ last_start ahead → Gains ahead next mid after → last_start ahead ≡ last_start next → HasPushed stream next before after
pushed_more stream rest ahead next before mid after h frames last g more = record {
  gains = record {
    gained = h.gains.gained ++ g.gained;
    is = g.is ∙ ap (λ (f : List Frame). f ++ g.gained) h.gains.is ∙ append_assoc before h.gains.gained g.gained;
    left =
        append_assoc h.gains.gained g.gained (frames_in next)
        ∙ ap (λ (f : List Frame). h.gains.gained ++ f) (g.left ∙ sym frames)
        ∙ h.gains.left;
  };
  last = sym more ∙ sym last ∙ h.last;
}

-- nothing is left to be added
pub pushed_all : (stream rest : List ℕ) (before after : List Frame) → HasPushed stream rest before after → frames_in rest ≡ [] → after ≡ before ++ frames_in stream
pushed_all stream rest before after h none =
    h.gains.is ∙ ap (λ (f : List Frame). before ++ f) (sym (append-nil h.gains.gained) ∙ ap (λ (f : List Frame). h.gains.gained ++ f) (sym none) ∙ h.gains.left)

-- what was added are the first frames
pub pushed_first : (stream rest : List ℕ) (before after : List Frame) → Gains stream rest before after → AddsFirst (frames_in stream) before after
pushed_first stream rest before after g = record {
  count = length g.gained;
  is = g.is ∙ ap (λ (f : List Frame). before ++ f) (sym (ap (take (length g.gained)) (sym g.left) ∙ take_at g.gained (frames_in rest) (length g.gained) refl));
}

pub first_none : (frames before : List Frame) → AddsFirst frames before before
first_none frames before = record { count = 0; is = sym (append-nil before) }

-- the first ones of those after some
pub first_later : (gained later before mid after : List Frame) → mid ≡ before ++ gained → AddsFirst later mid after → AddsFirst (gained ++ later) before after
first_later gained later before mid after is a = record {
  count = length gained + a.count;
  is = a.is ∙ ap (λ (f : List Frame). f ++ take a.count later) is ∙ append_assoc before gained (take a.count later)
      ∙ ap (λ (f : List Frame). before ++ f) (sym (taken gained));
}
  where
    taken : (g : List Frame) → take (length g + a.count) (g ++ later) ≡ g ++ take a.count later
    taken [] = let none : 0 + a.count ≡ a.count = omega arith in rw none refl
    taken (x ∷ g) = let one : suc (length g) + a.count ≡ suc (length g + a.count) = omega arith in rw one (ap (λ (f : List Frame). x ∷ f) (taken g))

-- WHAT WAITS

-- the bytes that wait begin with an STX, and no mark follows
pub record IsStarted (rest : List ℕ) : Type 0 where
  pub inner : List ℕ
  pub is : rest ≡ stx ∷ inner
  pub plain : IsPlain inner

pub open_started : (rest : List ℕ) → is_open rest ≡ true → 0 < length rest → IsStarted rest
open_started [] h some = absurd (omega arith)
open_started (b ∷ inner) h some =
    let one = and_parts ((b == stx) && list_all is_plain inner) (nat_lt (suc (length inner)) frame_most) h in
    let two = and_parts (b == stx) (list_all is_plain inner) one.0 in
    record { inner = inner; is = ap (λ (c : ℕ). c ∷ inner) (eqb-true b stx two.0); plain = two.1 }

module _ (rest piece : List ℕ) (s : IsStarted rest) where
  joined : rest ++ piece ≡ stx ∷ (s.inner ++ piece)
  joined = ap (λ (w : List ℕ). w ++ piece) s.is

  pub waits_plain : IsPlain piece → frames_in (rest ++ piece) ≡ []
  waits_plain p = ap frames_in joined ∙ frames-open (s.inner ++ piece) (all_joined is_plain s.inner piece s.plain p)

  pub waits_longer : IsPlain piece → open_end (rest ++ piece) ≡ if_short (rest ++ piece)
  waits_longer p = ap if_short (ap last_start joined ∙ start-open (s.inner ++ piece) (all_joined is_plain s.inner piece s.plain p) ∙ sym joined)

  pub waits_last : (at : ℕ) → IsFirst is_mark piece at → open_end (rest ++ piece) ≡ open_end (drop at piece)
  waits_last at f = ap if_short (ap last_start joined ∙ mark_last s.inner piece at s.plain f)

  pub waits_ends : (at : ℕ) → IsFirst is_mark piece at → get_or piece at 0 ≡ etx → frames_in (rest ++ piece) ≡ frame_of (rest ++ take (at + 1) piece) ++ frames_in (drop at piece)
  waits_ends at f is =
      ap frames_in joined ∙ mark_ends s.inner piece at s.plain f is
      ∙ ap (λ (w : List ℕ). frame_of (w ++ take (at + 1) piece) ++ frames_in (drop at piece)) (sym s.is)

  pub waits_anew : (at : ℕ) → IsFirst is_mark piece at → (get_or piece at 0 == etx) ≡ false → frames_in (rest ++ piece) ≡ frames_in (drop at piece)
  waits_anew at f other = ap frames_in joined ∙ mark_anew s.inner piece at s.plain f other

-- what is kept may be the front of a frame
start_open : (s : List ℕ) → nat_lt (length (last_start s)) frame_most ≡ true → is_open (last_start s) ≡ true
start_open [] h = refl
start_open (b ∷ s) h = go (λ k. start_open s k) ((b == stx) && list_all is_plain s) refl h
  where
    go : (nat_lt (length (last_start s)) frame_most ≡ true → is_open (last_start s) ≡ true) → (z : Bool) → ((b == stx) && list_all is_plain s) ≡ z → nat_lt (length (if z then b ∷ s else last_start s)) frame_most ≡ true → is_open (if z then b ∷ s else last_start s) ≡ true
    go further true e k = and_from ((b == stx) && list_all is_plain s) (nat_lt (suc (length s)) frame_most) e k
    go further false e k = further k

pub end_open : (s : List ℕ) → is_open (open_end s) ≡ true
end_open s = go (nat_lt (length (last_start s)) frame_most) refl
  where
    go : (z : Bool) → nat_lt (length (last_start s)) frame_most ≡ z → is_open (if z then last_start s else []) ≡ true
    go true e = start_open s e
    go false e = refl

pub open_small : (rest : List ℕ) → is_open rest ≡ true → length rest < frame_most
open_small [] h = omega arith
open_small (b ∷ rest) h =
    let one = and_parts ((b == stx) && list_all is_plain rest) (nat_lt (suc (length rest)) frame_most) h in
    ltb-true (suc (length rest)) frame_most one.1

pub if_short-kept : (xs : List ℕ) → length xs < frame_most → if_short xs ≡ xs
if_short-kept xs lt = short-true xs (lt-ltb (length xs) frame_most lt)

pub if_short-lost : (xs : List ℕ) → frame_most ≤ length xs → if_short xs ≡ []
if_short-lost xs le = let test : nat_lt (length xs) frame_most ≡ false = le-ltb (length xs) frame_most le in rw test refl

-- where the bytes and those that wait are too many
pub short-kept : (xs ys : List ℕ) → nat_lt (length xs + length ys) frame_most ≡ true → if_short (xs ++ ys) ≡ xs ++ ys
short-kept xs ys h = short-true (xs ++ ys) (ap (λ (n : ℕ). nat_lt n frame_most) (length-append xs ys) ∙ h)

pub short-lost : (xs ys : List ℕ) → nat_lt (length xs + length ys) frame_most ≡ false → if_short (xs ++ ys) ≡ []
short-lost xs ys h = let test : nat_lt (length (xs ++ ys)) frame_most ≡ false = ap (λ (n : ℕ). nat_lt n frame_most) (length-append xs ys) ∙ h in rw test refl

pub short_sum : (bytes more : ℕ) → more < frame_most → nat_lt bytes (frame_most - more) ≡ nat_lt (bytes + more) frame_most
short_sum bytes more lt = go (nat_lt bytes (frame_most - more)) refl
  where
    go : (z : Bool) → nat_lt bytes (frame_most - more) ≡ z → z ≡ nat_lt (bytes + more) frame_most
    go true e = let below = ltb-true bytes (frame_most - more) e in sym (lt-ltb (bytes + more) frame_most (omega arith))
    go false e = let above = ltb-false bytes (frame_most - more) e in sym (le-ltb (bytes + more) frame_most (omega arith))

-- one stream in place of another that has the same frames
pub taken_same : (stream other rest : List ℕ) (before after : List Frame) → frames_in stream ≡ frames_in other → open_end stream ≡ open_end other → HasTaken other rest before after → HasTaken stream rest before after
taken_same stream other rest before after frames ends h = record {
  waits = h.waits ∙ sym ends;
  gained = h.gained ∙ ap (λ (f : List Frame). before ++ f) (sym frames);
}

-- frames were taken, and then those of what is left of the stream
pub taken_later : (stream other rest : List ℕ) (gained before mid after : List Frame) → frames_in stream ≡ gained ++ frames_in other → open_end stream ≡ open_end other → mid ≡ before ++ gained → HasTaken other rest mid after → HasTaken stream rest before after
taken_later stream other rest gained before mid after frames ends is h = record {
  waits = h.waits ∙ sym ends;
  gained = h.gained ∙ ap (λ (f : List Frame). f ++ frames_in other) is ∙ append_assoc before gained (frames_in other) ∙ ap (λ (f : List Frame). before ++ f) (sym frames);
}

pub first_same : (frames other before after : List Frame) → frames ≡ other → AddsFirst other before after → AddsFirst frames before after
first_same frames other before after same a = subst (λ (f : List Frame). AddsFirst f before after) (sym same) a

-- all of the frames were added
pub first_all : (frames before after : List Frame) → after ≡ before ++ frames → AddsFirst frames before after
first_all frames before after is = record { count = length frames; is = is ∙ ap (λ (f : List Frame). before ++ f) (sym (take_all (length frames) frames (omega arith))) }

-- what was read as a whole, or not
pub whole_read : (bytes : List ℕ) (x : Frame) (rest : List ℕ) → frame_at bytes ≡ Ok (x, rest) → (length rest == 0) ≡ true → frame_of bytes ≡ x ∷ []
unfolding frame_of
whole_read bytes x [] e none = rw e refl
whole_read bytes x (b ∷ rest) e none = absurd (let same = eqb-true (suc (length rest)) 0 none in omega arith)

pub more_read : (bytes : List ℕ) (x : Frame) (rest : List ℕ) → frame_at bytes ≡ Ok (x, rest) → (length rest == 0) ≡ false → frame_of bytes ≡ []
unfolding frame_of
more_read bytes x [] e some = absurd cc
more_read bytes x (b ∷ rest) e some = rw e refl

pub none_read : (bytes : List ℕ) (left : ℕ) → frame_at bytes ≡ Err left → frame_of bytes ≡ []
unfolding frame_of
none_read bytes left e = rw e refl

-- no byte so far meets the test
pub none_more : (test : ℕ → Bool) (bytes : List ℕ) (i : ℕ) → i < length bytes → list_all (λ b. not (test b)) (take i bytes) ≡ true → test (get_or bytes i 0) ≡ false → list_all (λ b. not (test b)) (take (i + 1) bytes) ≡ true
none_more test bytes i inside h no_more =
    list_all_more (λ b. not (test b)) bytes i 0 inside
    ∙ and_from (list_all (λ b. not (test b)) (take i bytes)) (not (test (get_or bytes i 0))) h (ap not no_more)

pub none_all : (test : ℕ → Bool) (bytes : List ℕ) (i : ℕ) → length bytes ≤ i → list_all (λ b. not (test b)) (take i bytes) ≡ true → list_all (λ b. not (test b)) bytes ≡ true
none_all test bytes i out h = ap (λ (w : List ℕ). list_all (λ b. not (test b)) w) (sym (take_all i bytes out)) ∙ h

-- FEEDING

pub view_some : (failed : Bool) (items : List ℕ) → failed ≡ false → ◌≡◌ {A = Option (List ℕ)} (if failed then None else Some items) (Some items)
view_some true items h = absurd cc
view_some false items h = refl

pub view_none : (failed : Bool) (items : List ℕ) → failed ≡ true → ◌≡◌ {A = Option (List ℕ)} (if failed then None else Some items) None
view_none true items h = refl
view_none false items h = absurd cc

-- a reader that failed before
pub failed_before : (seen now_seen : Option (List ℕ)) (piece : List ℕ) (frames : List Frame) → seen ≡ None → now_seen ≡ None → HasFailed seen now_seen piece frames frames
failed_before seen now_seen piece frames h k = record {
  ended = k;
  at_once = λ e. refl;
  first_ones = λ rest e. absurd (let other : None ≡ Some rest = sym h ∙ e in cc);
}

pub fed_whole : (seen now_seen : Option (List ℕ)) (items rest piece : List ℕ) (before after : List Frame) → seen ≡ Some items → now_seen ≡ Some rest → HasTaken (items ++ piece) rest before after → HasFed seen now_seen piece before after
fed_whole seen now_seen items rest piece before after h k taken = record {
  rest = items;
  was = h;
  now_is = k ∙ ap (λ (w : List ℕ). Some w) taken.waits;
  gained = taken.gained;
}

pub fed_part : (seen now_seen : Option (List ℕ)) (items piece : List ℕ) (before after : List Frame) → seen ≡ Some items → now_seen ≡ None → AddsFirst (frames_in (items ++ piece)) before after → HasFailed seen now_seen piece before after
fed_part seen now_seen items piece before after h k first = record {
  ended = k;
  at_once = λ e. absurd (let other : None ≡ Some items = sym e ∙ h in cc);
  first_ones = λ rest e. let both : Some items ≡ Some rest = sym h ∙ e in let same : items ≡ rest = cc in subst (λ (w : List ℕ). AddsFirst (frames_in (w ++ piece)) before after) same first;
}
