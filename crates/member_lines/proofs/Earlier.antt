-- A line of a step tells none of those before it, and none of another member.
use Rattle.std.proofs.Common.{◌≡◌, ◌∙◌, ◌⊎◌, inr, ⊎_elim, ℕ, ◌+◌, ◌^◌, ◌<◌, ◌==◌, true, false, List, [], ◌∷◌, All, refl, ap, subst, sym, arith}
use Rattle.std.proofs.lemmas.Bool.{eqb-true}
use Rattle.std.proofs.lemmas.List.Elements.{All-head, All-tail, All-weaker}
use Rattle.mas_types.specs.declared.ids.MemberId.{MemberId}
use Rattle.mas_types.specs.declared.answers.Closing.{Closing}
use Rattle.mas_types.specs.declared.answers.Closing.TheVariants as closing
use Rattle.mas_types.specs.declared.commands.Reply.TheVariants as reply
use Rattle.mas_types.specs.declared.journals.Batch.{Batch}
use Rattle.mas_types.specs.declared.journals.Entry.{Entry}
use Rattle.mas_types.specs.Closings.{closing_line, closing_text}
use Rattle.mas_types.specs.Ids.{same_member}
use Rattle.mas_complex.specs.Journals.{StepIsKept, has_step}
use Rattle.mas_complex.specs.Meaning.{Closes, is_telling}
use Rattle.member_steps.specs.Steps.{AreEarlier, AreKeptFrom, IsKeptBy}
use Rattle.member_steps.proofs.LineLemmas.{by_test, one_member, same_id}
pub use Rattle.member_steps.proofs.LineLemmas.{line_of, same_step, same_text}

-- WHAT A CLOSING LINE TELLS: no earlier step

pub never_earlier : (by : MemberId) (at : ℕ) (end : Closing) → at < 2 ^ 64 → (m : MemberId) (s : ℕ) → s < at → Closes (closing_line by at end) m s → ⊥
never_earlier by at end small m s less closes =
    let same : at ≡ s = same_step by m at s (closing_text end) (closing_text closes.end) small (omega arith) closes.is in
    absurd (omega (arith, same))

abbrev first_byte : List ℕ → ℕ
first_byte [] = 0
first_byte (b ∷ bs) = b

-- a line that tells a step doesn't say that its member stopped
not_stopped : (end : Closing) → is_telling end ≡ true → 83 ≡ first_byte (closing_text end) → ⊥
not_stopped (closing.Reply reply.Plain) is e = absurd (omega (arith, e))
not_stopped (closing.Reply (reply.Job job)) is e = absurd (omega (arith, e))
not_stopped (closing.Reply (reply.Output job index)) is e = absurd (omega (arith, e))
not_stopped (closing.Reply (reply.Count n)) is e = absurd (omega (arith, e))
not_stopped (closing.Reply (reply.Shown lines)) is e = absurd (omega (arith, e))
not_stopped (closing.Reply (reply.No why)) is e = absurd (omega (arith, e))
not_stopped (closing.DoneUnits n) is e = absurd (omega (arith, e))
not_stopped (closing.Busy m) is e = absurd (omega (arith, e))
not_stopped (closing.Dormant tick) is e = absurd (omega (arith, e))
not_stopped closing.Down is e = absurd (cc)
not_stopped closing.Stopped is e = absurd (cc)
not_stopped (closing.Up m) is e = absurd (omega (arith, e))
not_stopped (closing.ResetOf m) is e = absurd (omega (arith, e))
not_stopped closing.NotHolder is e = absurd (omega (arith, e))
not_stopped (closing.BadCard card cause) is e = absurd (omega (arith, e))
not_stopped (closing.SpoolLost volume) is e = absurd (omega (arith, e))
not_stopped closing.PrinterLost is e = absurd (omega (arith, e))
not_stopped (closing.LineLost line) is e = absurd (omega (arith, e))
not_stopped (closing.NoText group) is e = absurd (omega (arith, e))
not_stopped (closing.NotLost copy) is e = absurd (omega (arith, e))
not_stopped (closing.CkptLost copy) is e = absurd (omega (arith, e))
not_stopped (closing.Line sent got) is e = absurd (omega (arith, e))

-- and nothing of its own step where its member stopped
pub never_stopped : (by : MemberId) (at : ℕ) → at < 2 ^ 64 → (m : MemberId) (s : ℕ) → s < at + 1 → Closes (closing_line by at closing.Stopped) m s → ⊥
never_stopped by at small m s less closes =
    not_stopped closes.end closes.telling
    (ap first_byte (same_text by m at s (closing_text closing.Stopped) (closing_text closes.end) small (omega arith) closes.is))

-- and no other member's
pub its_member : (by : MemberId) (at : ℕ) (end : Closing) (m : MemberId) (s : ℕ) → Closes (closing_line by at end) m s → by ≡ m
its_member by at end m s closes = one_member by m _ _ closes.is

-- WHAT A LINE OF A MEMBER TELLS IS KEPT, where it tells no step before this one, and each batch is kept that has an entry
-- of this step of the member, or of a later one

module _ (by m : MemberId) (s last : ℕ) (own : by ≡ m) (never : s < last → ⊥) where
  none_of : (es : List Entry) → AreEarlier by last es → has_step m s es ≡ false
  none_of [] before = refl
  none_of (e ∷ es) before =
      let here : e.by ≡ by → e.step < last = All-head (λ (d : Entry). d.by ≡ by → d.step < last) e es before in
      let more : has_step m s es ≡ false = none_of es (All-tail (λ (d : Entry). d.by ≡ by → d.step < last) e es before) in
      by_test (same_member e.by m)
      (λ its. by_test (e.step == s)
      (λ same. absurd (never (subst (λ (n : ℕ). n < last) (eqb-true e.step s same) (here (same_id e.by m (eqb-true e.by.0 m.0 its) ∙ sym own)))))
      (λ other. rw (its, other) more))
      (λ other. rw other more)

  pub step_kept : (bs : List Batch) (now : ℕ) → AreKeptFrom by last bs now → StepIsKept bs now m s
  step_kept [] now all = tt
  step_kept (b ∷ bs) now all =
      let here : IsKeptBy now b ⊎ AreEarlier by last b.entries = All-head (λ (c : Batch). IsKeptBy now c ⊎ AreEarlier by last c.entries) b bs all in (
        (λ has. ⊎_elim (λ is. is) (λ before. absurd (let no : has_step m s b.entries ≡ false = none_of b.entries before in cc)) here),
        step_kept bs now (All-tail (λ (c : Batch). IsKeptBy now c ⊎ AreEarlier by last c.entries) b bs all),
      )

-- WHERE EACH ENTRY is of an earlier step
pub earlier_kept : (by : MemberId) (at now : ℕ) (bs : List Batch) → All (λ b. All (λ e. e.step < at) b.entries) bs → AreKeptFrom by at bs now
earlier_kept by at now bs are =
    All-weaker (λ (b : Batch). All (λ e. e.step < at) b.entries) (λ (b : Batch). IsKeptBy now b ⊎ AreEarlier by at b.entries)
    (λ b of. inr (All-weaker (λ (e : Entry). e.step < at) (λ (e : Entry). e.by ≡ by → e.step < at) (λ e less same. less) b.entries of)) bs are
