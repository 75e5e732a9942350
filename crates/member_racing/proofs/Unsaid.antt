-- A member's lines are as it left them, so no line tells a step of it that none told then.
use Rattle.std.proofs.Common.{◌≡◌, ◌∙◌, ℕ, ◌==◌, true, false, List, [], ◌∷◌, length, map, filter, drop, All, ap, refl, subst, sym, arith}
use Rattle.std.proofs.lemmas.Bool.{eqb-true}
use Rattle.std.proofs.lemmas.List.Elements.{All-cons, All-head, All-nil, All-tail}
use Rattle.mas_types.specs.declared.ids.MemberId.{MemberId}
use Rattle.mas_types.specs.declared.journals.Entry.{Entry}
use Rattle.mas_types.specs.Ids.{same_member}
use Rattle.mas_types.specs.declared.queues.Queue.{Queue}
use Rattle.spool_plant.specs.declared.plant.Plant.{Ghosts as PlantGhosts}
use Rattle.spool_plant.specs.View.{Line, View}
use Rattle.ckpt_copy.specs.declared.copying.Copying.{Ghosts as CopyGhosts}
use Rattle.mas_complex.specs.Crash.{EachTells}
use Rattle.mas_complex.specs.Journals.{has_step}
use Rattle.mas_complex.specs.Meaning.{Closes}
use Rattle.mas_complex.specs.Parts.{Parts}
use Rattle.gate_turns.specs.Shared.{said_since}
use Rattle.gate_turns.specs.Words.{lines_by, speaker}
use Rattle.gate_turns.specs.Actors.{named_among}
use Rattle.gate_turns.proofs.Actors.{lines_named}
use Rattle.member_decks.specs.Steps.{AreOf}
use Rattle.member_steps.proofs.LineLemmas.{by_test, same_id}
use Rattle.member_sittings.specs.Whole.{HasUntold}

module _ (members : ℕ) (m : MemberId) (its : named_among members m ≡ m.0) (at : ℕ) (es : List Entry) (of : AreOf m at es) where
  -- the line tells no step with one of the entries
  abbrev TellsNone : List ℕ → Type 0
  TellsNone text = (s : ℕ) → Closes text m s → has_step m s es ≡ false

  abbrev Says : List Line → Type 0
  Says lines = EachTells Closes lines (λ k s. has_step k s es ≡ false)

  abbrev own_lines : List Line → List (List ℕ)
  own_lines lines = lines_by members m.0 (map (λ l. l.text) (filter (λ l. l.whole) lines))

  -- a line that closes a step of the member is the member's
  its_line : (text : List ℕ) (s : ℕ) → Closes text m s → (speaker members text == m.0) ≡ true
  its_line text s closes =
      let here : speaker members text ≡ m.0 = ap (λ (l : List ℕ). speaker members l) closes.is ∙ (lines_named members m s).0 closes.end ∙ its in
      ap (λ (k : ℕ). k == m.0) here ∙ same_number m.0
    where
      same_number : (n : ℕ) → (n == n) ≡ true
      same_number n = grind arith

  -- another member's step has no entry among them
  none_else : (k : MemberId) (s : ℕ) (gs : List Entry) → AreOf m at gs → same_member m k ≡ false → has_step k s gs ≡ false
  none_else k s [] own apart = refl
  none_else k s (g ∷ gs) own apart =
      let here : g.by ≡ m = (All-head (λ (e : Entry). (e.by ≡ m) × (e.step ≡ at)) g gs own).0 in
      let more : has_step k s gs ≡ false = none_else k s gs (All-tail (λ (e : Entry). (e.by ≡ m) × (e.step ≡ at)) g gs own) apart in
      let away : same_member g.by k ≡ false = ap (λ (i : MemberId). same_member i k) here ∙ apart in
      rw away more

  -- FROM THE VALUE THAT WAS LEFT: each line of the member tells none of the entries
  pub each_own : (lines : List Line) → Says lines → All TellsNone (own_lines lines)
  each_own [] says = All-nil TellsNone
  each_own (l ∷ lines) says = by_test l.whole
      (λ whole. by_test (speaker members l.text == m.0)
      (λ mine. rw (whole, mine) (All-cons TellsNone l.text (own_lines lines) (λ s closes. says.0 whole m s closes) (each_own lines says.1)))
      (λ other. rw (whole, other) (each_own lines says.1)))
      (λ torn. rw torn (each_own lines says.1))

  -- TO THE ONE THAT IS FOUND, where the member's lines are the same
  pub none_tells : (lines : List Line) → All TellsNone (own_lines lines) → Says lines
  none_tells [] all = tt
  none_tells (l ∷ lines) all = by_test l.whole
      (λ whole. by_test (speaker members l.text == m.0)
      (λ mine.
      let here : All TellsNone (l.text ∷ own_lines lines) = rw (whole, mine) at all in (
        (λ is k s closes. by_test (same_member m k)
            (λ same.
            let one : k ≡ m = sym (same_id m k (eqb-true m.0 k.0 same)) in
            subst (λ (i : MemberId). has_step i s es ≡ false) (sym one) (All-head TellsNone l.text (own_lines lines) here s (subst (λ (i : MemberId). Closes l.text i s) one closes)))
            (λ apart. none_else k s es of apart)),
        none_tells lines (All-tail TellsNone l.text (own_lines lines) here),
      ))
      (λ other.
      let here : All TellsNone (own_lines lines) = rw (whole, other) at all in (
        (λ is k s closes. by_test (same_member m k)
            (λ same.
            let one : k ≡ m = sym (same_id m k (eqb-true m.0 k.0 same)) in
            absurd (let mine = its_line l.text s (subst (λ (i : MemberId). Closes l.text i s) one closes) in let bad : true ≡ false = sym mine ∙ other in cc))
            (λ apart. none_else k s es of apart)),
        none_tells lines here,
      )))
      (λ torn.
      let here : All TellsNone (own_lines lines) = rw torn at all in (
        (λ is k s closes. absurd (let bad : true ≡ false = sym is ∙ torn in cc)),
        none_tells lines here,
      ))

-- OVER THE PARTS of two values

module _ {P C : Type 0} (plants : PlantGhosts P) (copies : CopyGhosts C) where
  abbrev v : Parts P C → View
  v x = plants.view x.plant

  -- the member's whole lines since the value began
  abbrev pub lines_in : Parts P C → MemberId → List (List ℕ)
  lines_in x m = lines_by x.base.config.members m.0 (said_since x.since (v x))

  -- A step that no line told isn't told later, where the member's lines are the same.
  pub untold_on : (x y : Parts P C) (m : MemberId) (at : ℕ) → y.base ≡ x.base → named_among x.base.config.members m ≡ m.0 → (plants.tells → lines_in y m ≡ lines_in x m)
      → HasUntold plants copies x m at → HasUntold plants copies y m at
  untold_on x y m at base its same was t es of =
      let members : ℕ = x.base.config.members in
      let said_x : List Line = drop (length ((v x).world x.since).console) ((v x).world (v x).now).console in
      let said_y : List Line = drop (length ((v y).world y.since).console) ((v y).world (v y).now).console in
      let counts : y.base.config.members ≡ members = ap (λ (q : Queue). q.config.members) base in
      let left : All (TellsNone members m its at es of) (own_lines members m its at es of said_x) = each_own members m its at es of said_x (was t es of) in
      let lines : own_lines members m its at es of said_y ≡ own_lines members m its at es of said_x =
      sym (ap (λ (k : ℕ). lines_by k m.0 (said_since y.since (v y))) counts) ∙ same t in
      none_tells members m its at es of said_y (subst (λ (ls : List (List ℕ)). All (TellsNone members m its at es of) ls) (sym lines) left)
