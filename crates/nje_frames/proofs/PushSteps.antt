-- The steps of adding all frames of a piece.
use Rattle.std.proofs.Common.{◌≡◌, ℕ, suc, ◌+◌, ◌-◌, ◌≤◌, ◌<◌, true, List, [], ◌∷◌, ◌++◌, length, take, drop, refl, sym, ap, subst, ◌∙◌, arith, add-one}
use Rattle.std.proofs.lemmas.List.{length-drop, append-nil}
use Rattle.nje_frames.specs.declared.frames.Frame.{Frame}
use Rattle.nje_frames.specs.Grammar.{stx}
use Rattle.nje_frames.specs.Streams.{is_mark, is_start, IsFirst, frames_in, last_start, Gains, AddsFirst}
use Rattle.nje_frames.proofs.StreamLemmas.{IsPlain, NoStart, frames-none, start-none, frames-open, start-open}
use Rattle.nje_frames.proofs.StreamSteps.{start_is, start_frames, start_last, open_last, next_rest, HasPushed, pushed_more, pushed_all, pushed_first}

module _ (rest : List ℕ) (start : ℕ) (first : IsFirst is_start rest start) (ahead : List ℕ) (is : ahead ≡ drop start rest) where
  pub ahead_starts : ahead ≡ stx ∷ drop 1 ahead
  ahead_starts =
      let begins : ahead ≡ stx ∷ drop (start + 1) rest = is ∙ start_is rest start first in
      begins ∙ ap (λ (w : List ℕ). stx ∷ w) (sym (ap (drop 1) begins))

  ahead_frames : frames_in rest ≡ frames_in ahead
  ahead_frames = start_frames rest start first ∙ ap frames_in (sym is)

  ahead_last : last_start rest ≡ last_start ahead
  ahead_last = start_last rest start first ∙ ap last_start (sym is)

  pub ahead_size : length ahead ≡ length rest - start
  ahead_size = ap length is ∙ length-drop start rest

  module _ (stream : List ℕ) (before mid : List Frame) (pushed : HasPushed stream rest before mid) (tail : List ℕ) (tail_is : tail ≡ drop 1 ahead) where
    -- one frame more was looked at
    pub pushed_step : (at : ℕ) (after : List Frame) → IsFirst is_mark tail at → Gains ahead (drop (at + 1) ahead) mid after → (next : List ℕ) → next ≡ drop at tail → HasPushed stream next before after
    pushed_step at after mark gains next next_is =
        let f : IsFirst is_mark (drop 1 ahead) at = subst (λ (w : List ℕ). IsFirst is_mark w at) tail_is mark in
        let same : next ≡ drop (at + 1) ahead = next_is ∙ ap (drop at) tail_is ∙ sym (next_rest ahead at ahead_starts f) in
        subst (λ (w : List ℕ). HasPushed stream w before after) (sym same)
        (pushed_more stream rest ahead (drop (at + 1) ahead) before mid after pushed ahead_frames ahead_last gains (open_last ahead at ahead_starts f))

    -- no mark follows
    pub pushed_open : IsPlain tail → (ahead ≡ last_start stream) × (mid ≡ before ++ frames_in stream)
    pushed_open plain =
        let p : IsPlain (drop 1 ahead) = subst IsPlain tail_is plain in
        let none : frames_in ahead ≡ [] = ap frames_in ahead_starts ∙ frames-open (drop 1 ahead) p in
        let whole : last_start ahead ≡ ahead = ap last_start ahead_starts ∙ start-open (drop 1 ahead) p ∙ sym ahead_starts in
        (sym whole ∙ sym ahead_last ∙ pushed.last, pushed_all stream rest before mid pushed (ahead_frames ∙ none))

-- no frame begins any more
pub pushed_done : (stream rest : List ℕ) (before mid : List Frame) → HasPushed stream rest before mid → NoStart rest → ([] ≡ last_start stream) × (mid ≡ before ++ frames_in stream)
pushed_done stream rest before mid pushed none =
    (sym (start-none rest none) ∙ pushed.last, pushed_all stream rest before mid pushed (frames-none rest none))

-- memory ran out
pub pushed_failed : (stream rest : List ℕ) (before mid after : List Frame) → HasPushed stream rest before mid → after ≡ mid → AddsFirst (frames_in stream) before after
pushed_failed stream rest before mid after pushed same =
    subst (λ (f : List Frame). AddsFirst (frames_in stream) before f) (sym same) (pushed_first stream rest before mid pushed.gains)
