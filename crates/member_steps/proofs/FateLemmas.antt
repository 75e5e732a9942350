-- Batches that are kept, or have their fates at least, as the journal grows; and which lines may be said then.
use Rattle.std.proofs.Common.{◌≡◌, ◌⊎◌, inl, inr, ⊎_elim, ℕ, ◌≤◌, ◌<◌, ◌^◌, ◌==◌, Bool, false, List, [], ◌∷◌, ◌++◌, codes, Option, Some, None, slice_get, refl, sym, ◌∙◌, subst, arith}
use Rattle.std.proofs.lemmas.Bool.{eqb-true}
use Rattle.std.proofs.lemmas.List.Elements.{All-nil, All-cons, All-head, All-tail, All-append, All-get_or, All-weaker}
use Rattle.std.proofs.lemmas.Option.{get_or_from_slice_get, slice_get_within}
use Rattle.mas_types.specs.declared.answers.Closing.{Closing}
use Rattle.mas_types.specs.declared.answers.Closing.TheVariants as closing
use Rattle.mas_types.specs.declared.commands.Reply.{Reply}
use Rattle.mas_types.specs.declared.commands.Reply.TheVariants as reply
use Rattle.mas_types.specs.declared.ids.MemberId.{MemberId}
use Rattle.mas_types.specs.declared.journals.Batch.{Batch}
use Rattle.mas_types.specs.declared.journals.Entry.{Entry}
use Rattle.mas_types.specs.declared.journals.Fate.TheVariants.{Kept}
use Rattle.mas_types.specs.Closings.{closing_line, closing_text, detail_line, detail_lines, reply_lines}
use Rattle.mas_types.specs.Ids.{same_member}
use Rattle.mas_complex.specs.Journals.{AreSettled, StepIsKept, end_of, fated, has_step}
use Rattle.mas_complex.specs.Meaning.{Closes}
use Rattle.mas_complex.proofs.Batches.{step_later}
use Rattle.member_node.specs.Writes.{HasKept}
use Rattle.member_node.proofs.WriteLemmas.{none_out}
use Rattle.member_steps.specs.Saying.{TellKept}
use Rattle.member_steps.specs.Steps.{AreAllKept, AreEarlier, AreKeptFrom, IsKeptBy}
use Rattle.member_steps.proofs.LineLemmas.{by_test, line_of, one_member, same_id, same_step}

-- EACH BATCH HAS ITS FATE

pub settled_later : (batches : List Batch) (now t : ℕ) → now ≤ t → AreSettled batches now → AreSettled batches t
settled_later [] now t le all = tt
settled_later (b ∷ batches) now t le all = (all.0, all.1, omega (arith, le, all.2), settled_later batches now t le all.3)

pub settled_append : (one two : List Batch) (t : ℕ) → AreSettled one t → AreSettled two t → AreSettled (one ++ two) t
settled_append [] two t a b = b
settled_append (c ∷ one) two t a b = (a.0, a.1, a.2, settled_append one two t a.3 b)

-- and after a call that kept one more
pub settled_out : (front batches : List Batch) (placed : Bool) (current : Option Batch) (b : Batch) (old now : ℕ) → old ≤ now → placed ≡ false → current ≡ None → HasKept front (end_of placed current batches) b now → AreSettled front old → AreSettled batches now
settled_out front batches placed current b old now le unplaced none kept all =
    subst (λ (bs : List Batch). AreSettled bs now) (sym (sym (none_out batches batches placed current refl unplaced none) ∙ kept.3))
    (settled_append front (fated Kept kept.0 b ∷ []) now (settled_later front old now le all) (refl, kept.1, kept.2, tt))

-- EACH BATCH WITH AN ENTRY OF A STEP OR OF A LATER ONE IS KEPT

module _ (by : MemberId) (at : ℕ) where
  abbrev Holds : ℕ → Batch → Type 0
  Holds now b = IsKeptBy now b ⊎ AreEarlier by at b.entries

  pub all_kept_from : (batches : List Batch) (now : ℕ) → AreAllKept batches now → AreKeptFrom by at batches now
  all_kept_from batches now all = All-weaker (λ (b : Batch). IsKeptBy now b × (b.first ≤ b.last)) (Holds now) (λ b is. inl is.0) batches all

  pub kept_from_later : (batches : List Batch) (now t : ℕ) → now ≤ t → AreKeptFrom by at batches now → AreKeptFrom by at batches t
  kept_from_later batches now t le all = All-weaker (Holds now) (Holds t) (λ b is. ⊎_elim (λ k. inl (k.0, omega (arith, le, k.1))) (λ e. inr e) is) batches all

  pub kept_from_append : (one two : List Batch) (now : ℕ) → AreKeptFrom by at one now → AreKeptFrom by at two now → AreKeptFrom by at (one ++ two) now
  kept_from_append one two now a b = All-append (Holds now) one two a b

  -- also after a call that kept one more
  pub kept_from_out : (front batches : List Batch) (placed : Bool) (current : Option Batch) (b : Batch) (old now : ℕ) → old ≤ now → placed ≡ false → current ≡ None → HasKept front (end_of placed current batches) b now → AreKeptFrom by at front old → AreKeptFrom by at batches now
  kept_from_out front batches placed current b old now le unplaced none kept all =
      subst (λ (bs : List Batch). AreKeptFrom by at bs now) (sym (sym (none_out batches batches placed current refl unplaced none) ∙ kept.3))
      (kept_from_append front (fated Kept kept.0 b ∷ []) now (kept_from_later front old now le all) (All-cons (Holds now) (fated Kept kept.0 b) [] (inl (refl, kept.2)) (All-nil (Holds now))))

-- LINES THAT MAY BE SAID

abbrev IsTold : List Batch → ℕ → List ℕ → Type 0
IsTold batches now line = (m : MemberId) (s : ℕ) → Closes line m s → StepIsKept batches now m s

pub told_at : (lines : List (List ℕ)) (i : ℕ) (line : List ℕ) (batches : List Batch) (now : ℕ) → TellKept lines batches now → slice_get lines i ≡ Some line → IsTold batches now line
told_at lines i line batches now all at =
    subst (IsTold batches now) (get_or_from_slice_get lines i line line at) (All-get_or (IsTold batches now) lines i line (slice_get_within lines i line at) all)

step_append : (one two : List Batch) (t : ℕ) (m : MemberId) (s : ℕ) → StepIsKept one t m s → StepIsKept two t m s → StepIsKept (one ++ two) t m s
step_append [] two t m s a b = b
step_append (c ∷ one) two t m s a b = (a.0, step_append one two t m s a.1 b)

-- also later
pub tell_later : (lines : List (List ℕ)) (batches : List Batch) (now t : ℕ) → now ≤ t → TellKept lines batches now → TellKept lines batches t
tell_later lines batches now t le all = All-weaker (IsTold batches now) (IsTold batches t) (λ line told m s closes. step_later batches now t m s le (told m s closes)) lines all

-- also after a call that kept one more
pub tell_out : (lines : List (List ℕ)) (front batches : List Batch) (placed : Bool) (current : Option Batch) (b : Batch) (old now : ℕ) → old ≤ now → placed ≡ false → current ≡ None → HasKept front (end_of placed current batches) b now → TellKept lines front old → TellKept lines batches now
tell_out lines front batches placed current b old now le unplaced none kept all =
    subst (λ (bs : List Batch). TellKept lines bs now) (sym (sym (none_out batches batches placed current refl unplaced none) ∙ kept.3))
    (All-weaker (IsTold front old) (IsTold (front ++ fated Kept kept.0 b ∷ []) now) (λ line told m s closes. step_append front (fated Kept kept.0 b ∷ []) now m s (step_later front old now m s le (told m s closes)) ((λ has. (refl, kept.2)), tt)) lines all)

-- THE LINES OF A STEP tell no earlier step, and no other member's

module _ (by : MemberId) (at : ℕ) (small : at < 2 ^ 64) (rest : List ℕ) (m : MemberId) (s : ℕ) (closes : Closes (line_of by at rest) m s) where
  of_member : by ≡ m
  of_member = one_member by m _ _ closes.is

  not_earlier : s < at → ⊥
  not_earlier less = let same : at ≡ s = same_step by m at s rest (closing_text closes.end) small (omega (arith, less, small)) closes.is in absurd (omega (arith, less, same))

  none_earlier : (es : List Entry) → AreEarlier by at es → has_step m s es ≡ false
  none_earlier [] before = refl
  none_earlier (e ∷ es) before =
      let here : e.by ≡ by → e.step < at = All-head (λ (d : Entry). d.by ≡ by → d.step < at) e es before in
      let more : has_step m s es ≡ false = none_earlier es (All-tail (λ (d : Entry). d.by ≡ by → d.step < at) e es before) in
      by_test (same_member e.by m)
      (λ own. by_test (e.step == s)
      (λ same. absurd (not_earlier (subst (λ (n : ℕ). n < at) (eqb-true e.step s same) (here (same_id e.by m (eqb-true e.by.0 m.0 own) ∙ sym of_member)))))
      (λ other. rw (own, other) more))
      (λ other. rw other more)

  line_kept : (batches : List Batch) (now : ℕ) → AreKeptFrom by at batches now → StepIsKept batches now m s
  line_kept [] now all = tt
  line_kept (b ∷ batches) now all =
      let here : IsKeptBy now b ⊎ AreEarlier by at b.entries = All-head (λ (c : Batch). IsKeptBy now c ⊎ AreEarlier by at c.entries) b batches all in (
        (λ has. ⊎_elim (λ is. is) (λ before. absurd (let no : has_step m s b.entries ≡ false = none_earlier b.entries before in cc)) here),
        line_kept batches now (All-tail (λ (c : Batch). IsKeptBy now c ⊎ AreEarlier by at c.entries) b batches all),
      )

module _ (by : MemberId) (at : ℕ) (small : at < 2 ^ 64) (batches : List Batch) (now : ℕ) (kept : AreKeptFrom by at batches now) where
  pub closing_tells : (end : Closing) → TellKept (closing_line by at end ∷ []) batches now
  closing_tells end = All-cons (IsTold batches now) (closing_line by at end) [] (λ m s closes. line_kept by at small (closing_text end) m s closes batches now kept) (All-nil (IsTold batches now))

  details_tell : (shown : List (List ℕ)) → TellKept (detail_lines by at shown) batches now
  details_tell [] = All-nil (IsTold batches now)
  details_tell (text ∷ shown) = All-cons (IsTold batches now) (detail_line by at text) (detail_lines by at shown) (λ m s closes. line_kept by at small (codes "-" ++ 32 ∷ text) m s closes batches now kept) (details_tell shown)

  pub reply_tells : (r : Reply) → TellKept (reply_lines by at r) batches now
  reply_tells reply.Plain = closing_tells (closing.Reply reply.Plain)
  reply_tells (reply.Job job) = closing_tells (closing.Reply (reply.Job job))
  reply_tells (reply.Output job index) = closing_tells (closing.Reply (reply.Output job index))
  reply_tells (reply.Count n) = closing_tells (closing.Reply (reply.Count n))
  reply_tells (reply.No why) = closing_tells (closing.Reply (reply.No why))
  reply_tells (reply.Shown shown) = All-append (IsTold batches now) (detail_lines by at shown) (closing_line by at (closing.Reply (reply.Shown shown)) ∷ []) (details_tell shown) (closing_tells (closing.Reply (reply.Shown shown)))
