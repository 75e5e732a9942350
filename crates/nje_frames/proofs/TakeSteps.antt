-- The steps of taking a piece.
use Rattle.std.proofs.Common.{◌≡◌, ℕ, ◌+◌, ◌≤◌, ◌<◌, true, false, List, [], ◌∷◌, ◌++◌, length, take, drop, get_or, Result, Ok, Err, refl, sym, ap, subst, ◌∙◌, arith}
use Rattle.std.specs.Prelude.{◌==◌, OnOk, OnErr}
use Rattle.std.proofs.lemmas.Bool.{eqb-true}
use Rattle.std.proofs.lemmas.List.{append-nil}
use Rattle.nje_frames.specs.declared.frames.Frame.{Frame}
use Rattle.nje_frames.specs.Grammar.{etx}
use Rattle.nje_frames.specs.Streams.{is_mark, is_open, IsFirst, frame_of, frames_in, last_start, if_short, open_end, AddsFirst, HasTaken}
use Rattle.nje_frames.proofs.StreamLemmas.{IsPlain}
use Rattle.nje_frames.proofs.StreamSteps.{IsStarted, open_started, waits_plain, waits_longer, waits_last, waits_ends, waits_anew, end_open, taken_same, taken_later, first_same, first_all, first_none, first_later}

pub any_err : {T E : Type 0} (r : Result T E) (P : Type 0) → P → OnErr r P
any_err (Ok x) P p = tt
any_err (Err e) P p = p

-- WHERE NOTHING WAITED

pub alone_open : {T E : Type 0} (r : Result T E) (items new start stream : List ℕ) → items ≡ [] → start ≡ last_start stream → OnOk r (new ≡ if_short (items ++ start)) → OnErr r (new ≡ items) → is_open new ≡ true
alone_open (Ok x) items new start stream none is ok err =
    let kept : new ≡ open_end stream = ok ∙ ap (λ (w : List ℕ). if_short (w ++ start)) none ∙ ap if_short is in
    ap is_open kept ∙ end_open stream
alone_open (Err e) items new start stream none is ok err = ap is_open (err ∙ none)

pub alone_taken : (items new start stream : List ℕ) (before after : List Frame) → items ≡ [] → start ≡ last_start stream → after ≡ before ++ frames_in stream → new ≡ if_short (items ++ start) → HasTaken stream new before after
alone_taken items new start stream before after none is gained kept = record {
  waits = kept ∙ ap (λ (w : List ℕ). if_short (w ++ start)) none ∙ ap if_short is;
  gained = gained;
}

-- WHERE SOME BYTES WAITED

module _ (rest piece : List ℕ) (is : is_open rest ≡ true) (some : (length rest == 0) ≡ false) where
  starts : IsStarted rest
  starts = go rest is some
    where
      go : (w : List ℕ) → is_open w ≡ true → (length w == 0) ≡ false → IsStarted w
      go [] h k = absurd cc
      go (b ∷ w) h k = open_started (b ∷ w) h (omega arith)

  pub longer_open : {T E : Type 0} (r : Result T E) (new : List ℕ) → IsPlain piece → OnOk r (new ≡ if_short (rest ++ piece)) → OnErr r (new ≡ rest) → is_open new ≡ true
  longer_open (Ok x) new plain ok err = ap is_open (ok ∙ sym (waits_longer rest piece starts plain)) ∙ end_open (rest ++ piece)
  longer_open (Err e) new plain ok err = ap is_open err ∙ is

  pub longer_taken : (new : List ℕ) (before : List Frame) → IsPlain piece → new ≡ if_short (rest ++ piece) → HasTaken (rest ++ piece) new before before
  longer_taken new before plain kept = record {
    waits = kept ∙ sym (waits_longer rest piece starts plain);
    gained = sym (append-nil before) ∙ ap (λ (f : List Frame). before ++ f) (sym (waits_plain rest piece starts plain));
  }

  module _ (at : ℕ) (f : IsFirst is_mark piece at) where
    pub anew_taken : (new : List ℕ) (before after : List Frame) → (get_or piece at 0 == etx) ≡ false → HasTaken (drop at piece) new before after → HasTaken (rest ++ piece) new before after
    anew_taken new before after other h = taken_same (rest ++ piece) (drop at piece) new before after (waits_anew rest piece starts at f other) (waits_last rest piece starts at f) h

    pub anew_first : (before after : List Frame) → (get_or piece at 0 == etx) ≡ false → AddsFirst (frames_in (drop at piece)) before after → AddsFirst (frames_in (rest ++ piece)) before after
    anew_first before after other h = first_same (frames_in (rest ++ piece)) (frames_in (drop at piece)) before after (waits_anew rest piece starts at f other) h

    pub ended_taken : (new : List ℕ) (before mid after : List Frame) → get_or piece at 0 ≡ etx → mid ≡ before ++ frame_of (rest ++ take (at + 1) piece) → HasTaken (drop at piece) new mid after → HasTaken (rest ++ piece) new before after
    ended_taken new before mid after end added h =
        taken_later (rest ++ piece) (drop at piece) new (frame_of (rest ++ take (at + 1) piece)) before mid after (waits_ends rest piece starts at f end) (waits_last rest piece starts at f) added h

    pub ended_first : (before mid after : List Frame) → get_or piece at 0 ≡ etx → mid ≡ before ++ frame_of (rest ++ take (at + 1) piece) → AddsFirst (frames_in (drop at piece)) mid after → AddsFirst (frames_in (rest ++ piece)) before after
    ended_first before mid after end added h =
        first_same (frames_in (rest ++ piece)) (frame_of (rest ++ take (at + 1) piece) ++ frames_in (drop at piece)) before after (waits_ends rest piece starts at f end)
        (first_later (frame_of (rest ++ take (at + 1) piece)) (frames_in (drop at piece)) before mid after added h)

-- where nothing waited, the stream is the piece
pub empty_rest : (rest : List ℕ) → (length rest == 0) ≡ true → rest ≡ []
empty_rest [] h = refl
empty_rest (b ∷ rest) h = absurd (let same = eqb-true (length (b ∷ rest)) 0 h in omega arith)
