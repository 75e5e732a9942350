-- What moves on lines in a step, one stretch of acts after another.
use Rattle.std.proofs.Common.{◌≡◌, ◌≢◌, ◌⊎◌, ⊎_elim, inl, inr, ℕ, ◌==◌, Bool, true, false, List, [], ◌++◌, length, take, append_assoc, append-nil, Option, Some, None, refl, sym, ap, ◌∙◌, subst}
use Rattle.std.proofs.Math.Seq.{take-length}
use Rattle.std.proofs.lemmas.Bool.{eqb-false, eqb-true}
use Rattle.mas_types.specs.declared.answers.Closing.{Closing}
use Rattle.mas_types.specs.declared.ids.MemberId.{MemberId}
use Rattle.queue_laws.proofs.Finds.{test_cases}
use Rattle.spool_plant.specs.Acts.{SameWires}
use Rattle.spool_plant.specs.View.{View, given_now, taken_now}
use Rattle.step_turns.specs.Serving.{exchange_end, unless_cut, unread}
use Rattle.step_turns.specs.declared.states.Found.{Found}
use Rattle.step_turns.specs.declared.states.Offer.{Offer}
use Rattle.step_turns.specs.declared.states.State.{State}
use Rattle.step_turns.specs.declared.states.Aside.TheVariants.{Acknowledge, Exchange, PrintLines, ReadText, SpoolArrival, SpoolDeck, SpoolOutputs}
use Rattle.step_turns.specs.declared.states.State.TheVariants.{Away, Fresh, Rested, Told}
use Rattle.run_turns.specs.Pieces.{poured_of}
use Rattle.member_hand.specs.Hears.{GivesOnly, HasTaken, Hears, HearsIn, IsElsewhere, TakesNothing}

-- WHERE NOTHING MOVES

pub takes_none : (v : View) → TakesNothing v v
takes_none v = record { taken = λ w m. refl; waiting = λ w. refl }

pub takes_then : (v0 v1 v2 : View) → TakesNothing v0 v1 → TakesNothing v1 v2 → TakesNothing v0 v2
takes_then v0 v1 v2 one two = record { taken = λ w m. two.taken w m ∙ one.taken w m; waiting = λ w. two.waiting w ∙ one.waiting w }

pub takes_still : (v w : View) → SameWires v w → TakesNothing v w
takes_still v w same = record { taken = same.taken; waiting = same.waiting }

module _ (by : MemberId) (served : Option ℕ) where
  pub gives_still : (v w : View) → SameWires v w → GivesOnly by served [] v w
  gives_still v w same = record {
    given = λ l is. same.given l by.0 ∙ sym (append-nil (given_now v l by.0));
    else_given = λ l m other. same.given l m;
    else_taken = λ l m other. same.taken l m;
  }

  pub gives_none : (v : View) → GivesOnly by served [] v v
  gives_none v = record { given = λ l is. sym (append-nil (given_now v l by.0)); else_given = λ l m other. refl; else_taken = λ l m other. refl }

  -- one stretch after another
  pub gives_then : (xs ys : List ℕ) (v0 v1 v2 : View) → GivesOnly by served xs v0 v1 → GivesOnly by served ys v1 v2 → GivesOnly by served (xs ++ ys) v0 v2
  gives_then xs ys v0 v1 v2 one two = record {
    given = λ l is. two.given l is ∙ ap (λ (bytes : List ℕ). bytes ++ ys) (one.given l is) ∙ append_assoc (given_now v0 l by.0) xs ys;
    else_given = λ l m other. two.else_given l m other ∙ one.else_given l m other;
    else_taken = λ l m other. two.else_taken l m other ∙ one.else_taken l m other;
  }

  pub gives_after : (bytes : List ℕ) (v0 v1 v2 : View) → SameWires v0 v1 → GivesOnly by served bytes v1 v2 → GivesOnly by served bytes v0 v2
  gives_after bytes v0 v1 v2 same more = gives_then [] bytes v0 v1 v2 (gives_still v0 v1 same) more

-- WHICH END OF A LINE: this one, or another

either_end : (w l m k : ℕ) (A : Type 0) → (w ≡ l → m ≡ k → A) → ((w ≢ l) ⊎ (m ≢ k) → A) → A
either_end w l m k A here there =
    test_cases (w == l) A
    (λ same. test_cases (m == k) A (λ own. here (eqb-true w l same) (eqb-true m k own)) (λ other. there (inr (eqb-false m k other))))
    (λ other. there (inl (eqb-false w l other)))

-- another than the one that is served
elsewhere_of : (l w m : ℕ) (by : MemberId) → IsElsewhere (Some l) by w m → (w ≢ l) ⊎ (m ≢ by.0)
elsewhere_of l w m by other = ⊎_elim (λ apart. inl (λ same. apart (ap (λ (k : ℕ). Some k) (sym same)))) (λ apart. inr apart) other

own_line : (l w : ℕ) → Some l ≡ Some w → w ≡ l
own_line l w same = cc

-- GIVING ON ONE LINE

pub gives_line : (by : MemberId) (l : ℕ) (bytes : List ℕ) (v w : View) → given_now w l by.0 ≡ given_now v l by.0 ++ bytes → ((k m : ℕ) → (k ≢ l) ⊎ (m ≢ by.0) → given_now w k m ≡ given_now v k m)
    → ((k m : ℕ) → (k ≢ l) ⊎ (m ≢ by.0) → taken_now w k m ≡ taken_now v k m) → GivesOnly by (Some l) bytes v w
gives_line by l bytes v w own given taken = record {
  given = λ k is. subst (λ (n : ℕ). given_now w n by.0 ≡ given_now v n by.0 ++ bytes) (sym (own_line l k is)) own;
  else_given = λ k m other. given k m (elsewhere_of l k m by other);
  else_taken = λ k m other. taken k m (elsewhere_of l k m by other);
}

-- an acknowledgement takes nothing
pub takes_given : (by : MemberId) (l : ℕ) (v w : View) → taken_now w l by.0 ≡ taken_now v l by.0 → ((k m : ℕ) → (k ≢ l) ⊎ (m ≢ by.0) → taken_now w k m ≡ taken_now v k m) → ((k : ℕ) → w.waiting k ≡ v.waiting k) → TakesNothing v w
takes_given by l v w own taken waiting = record {
  taken = λ k m. either_end k l m by.0 (taken_now w k m ≡ taken_now v k m)
      (λ line mine. subst (λ (n : ℕ). taken_now w n m ≡ taken_now v n m) (sym line) (subst (λ (i : ℕ). taken_now w l i ≡ taken_now v l i) (sym mine) own))
      (λ other. taken k m other);
  waiting = waiting;
}

-- where the line wasn't found lost, all was given
pub all_given : (b : Bool) (n : ℕ) (bytes : List ℕ) → (b ≡ false → n ≡ length bytes) → poured_of b n bytes ≡ take n bytes
all_given true n bytes all = refl
all_given false n bytes all = sym (ap (λ (k : ℕ). take k bytes) (all refl) ∙ take-length bytes)

-- HEARING

-- a step isn't closed by the exchange only where the line wasn't found lost
uncut : (l : ℕ) (b : Bool) (o : Option Closing) → unless_cut l b o ≡ None → (b ≡ false) × (o ≡ None)
uncut l b (Some end) none = absurd (cc)
uncut l true None none = absurd (cc)
uncut l false None none = (refl, refl)

pub not_ended : (offer : Option Offer) (l : ℕ) (found : Found) → exchange_end offer l found ≡ None → (found.wire ≡ false) × (unread offer found.read ≡ None)
not_ended offer l found none = uncut l found.wire (unread offer found.read) none

-- in a longer stretch, of which nothing moved before or after
pub taken_wider : (by : MemberId) (l : ℕ) (offer : Option Offer) (found : Found) (v0 v1 v2 v3 : View) → TakesNothing v0 v1 → (h : HasTaken by l offer found v1 v2) → TakesNothing v2 v3
    → (t : HasTaken by l offer found v0 v3) × (t.bytes ≡ h.bytes)
taken_wider by l offer found v0 v1 v2 v3 before h after = (
  record {
    bytes = h.bytes;
    few = h.few;
    taken = after.taken l by.0 ∙ h.taken ∙ ap (λ (bytes : List ℕ). bytes ++ h.bytes) (before.taken l by.0);
    waited = sym (before.waiting l) ∙ h.waited ∙ ap (λ (bytes : List ℕ). h.bytes ++ bytes) (sym (after.waiting l));
    others = λ w other. after.waiting w ∙ h.others w other ∙ before.waiting w;
    all = λ on. ⊎_elim (λ full. inl full) (λ none. inr (after.waiting l ∙ none)) (h.all on);
  },
  refl,
)

module _ (by : MemberId) (was mid is : Option (List ℕ)) where
  pub hears_in : (n : State) (found : Found) (v0 v1 v2 v3 : View) → TakesNothing v0 v1 → HearsIn by v1 v2 was mid n found → TakesNothing v2 v3 → is ≡ mid → HearsIn by v0 v3 was is n found
  hears_in (Away (Exchange l offer)) found v0 v1 v2 v3 before h after same =
      let t = taken_wider by l offer found v0 v1 v2 v3 before h.0 after in
      (t.0, subst (λ (bytes : List ℕ). Hears l offer found was is bytes) (sym t.1) (subst (λ (o : Option (List ℕ)). Hears l offer found was o h.0.bytes) (sym same) h.1))
  hears_in (Away (SpoolDeck n text)) found v0 v1 v2 v3 before h after same = takes_then v0 v1 v3 before (takes_then v1 v2 v3 h after)
  hears_in (Away (ReadText runs n fields p)) found v0 v1 v2 v3 before h after same = takes_then v0 v1 v3 before (takes_then v1 v2 v3 h after)
  hears_in (Away (SpoolOutputs n specs p)) found v0 v1 v2 v3 before h after same = takes_then v0 v1 v3 before (takes_then v1 v2 v3 h after)
  hears_in (Away (PrintLines n i last p)) found v0 v1 v2 v3 before h after same = takes_then v0 v1 v3 before (takes_then v1 v2 v3 h after)
  hears_in (Away (SpoolArrival number n text service)) found v0 v1 v2 v3 before h after same = takes_then v0 v1 v3 before (takes_then v1 v2 v3 h after)
  hears_in (Away (Acknowledge number service)) found v0 v1 v2 v3 before h after same = takes_then v0 v1 v3 before (takes_then v1 v2 v3 h after)
  hears_in (Fresh task) found v0 v1 v2 v3 before h after same = takes_then v0 v1 v3 before (takes_then v1 v2 v3 h after)
  hears_in (Rested p) found v0 v1 v2 v3 before h after same = takes_then v0 v1 v3 before (takes_then v1 v2 v3 h after)
  hears_in Told found v0 v1 v2 v3 before h after same = takes_then v0 v1 v3 before (takes_then v1 v2 v3 h after)
