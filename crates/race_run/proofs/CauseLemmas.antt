-- Why a race ended as it did.
use Rattle.std.proofs.Common.{◌≡◌, ◌∙◌, ◌⊎◌, inl, inr, ⊎_elim, nat_le, ℕ, Bool, true, false, if◌then◌else◌, List, [], ◌∷◌, Result, Err, refl, sym, ap, subst, arith}
use Rattle.std.proofs.lemmas.Bool.{le-leb}
use Rattle.std.proofs.lemmas.Bool.Decides.{nat_tests}
use Rattle.mas_types.specs.declared.answers.Status.{Status}
use Rattle.mas_types.specs.declared.answers.Status.TheVariants as status
use Rattle.mas_types.specs.declared.ids.Dev.{Dev}
use Rattle.mas_types.specs.Statuses.{status_code}
use Rattle.script_lang.specs.declared.types.Step.{Step}
use Rattle.spool_plant.specs.declared.plant.Part.TheVariants.{Console, Disk}
use Rattle.spool_plant.specs.Acts.{Rose, next}
use Rattle.spool_plant.specs.View.{View as Shown}
use Rattle.gate_facts.specs.declared.marks.Marks.{Marks}
use Rattle.gate_facts.specs.Values.{marked_at, number_at}
use Rattle.member_gate.specs.declared.view.View.{View}
use Rattle.member_gate.specs.Marking.{either_of, greatest}
use Rattle.member_gate.specs.Views.{giving, memory_in, sight}
use Rattle.member_gate.proofs.Places.{either_left, either_right, greatest_at}
use Rattle.member_node.specs.Calls.{WasLost}
use Rattle.member_node.specs.declared.member.Member.{Member}
use Rattle.member_node.specs.declared.member.NodeNo.{NodeNo}
use Rattle.member_node.specs.declared.member.NodeNo.TheVariants as no_node
use Rattle.run_opening.specs.Statuses.{status_of}
use Rattle.race_run.specs.Races.{is_less, lesser}
use Rattle.race_run.specs.Racing.{IsCausedIn, console_mark}
use Rattle.race_run.specs.Rounds.{RacedOn}

-- the lesser of two statuses is one of them
either_status : (b : Bool) (one other : Status) (s : Status) → (if b then other else one) ≡ s → (one ≡ s) ⊎ (other ≡ s)
either_status true one other s is = inr is
either_status false one other s is = inl is

pub one_of : (answer one other s : Status) → answer ≡ lesser one other → answer ≡ s → (one ≡ s) ⊎ (other ≡ s)
one_of answer one other s least_is is = either_status (is_less (status_code one) (status_code other)) one other s (sym least_is ∙ is)

-- which answer has which status
pub lost_answer : (r : Result (Unit {0}) NodeNo) → status_of r ≡ status.BothLost → r ≡ Err no_node.BothLost
lost_answer (Err no_node.BothLost) is = refl
lost_answer _ is = absurd (cc)

pub failed_answer : (r : Result (Unit {0}) NodeNo) → status_of r ≡ status.ConsoleFault → r ≡ Err no_node.ConsoleFault
failed_answer (Err no_node.ConsoleFault) is = refl
failed_answer _ is = absurd (cc)

done_lost : status.Done ≡ status.BothLost → ⊥
done_lost e = cc

done_failed : status.Done ≡ status.ConsoleFault → ⊥
done_failed e = cc

-- what is marked as lost, and a count of faults, stay where another pass is taken in
abbrev pub marks_of : View → Marks
marks_of v = (sight v false).last.marks

module _ (tells : Type 0) (entry : Shown) (steps : List Step) where
  pub both_marked : (root : View) (ms : List Member) (end : View) (answer : Status)
      → RacedOn tells entry steps root ms end answer → answer ≡ status.BothLost
      → (marked_at (marks_of end).lost 0 ≡ true) × (marked_at (marks_of end).lost 1 ≡ true)
  both_marked root [] end answer raced is = absurd (done_lost (sym raced.1 ∙ is))
  both_marked root (m ∷ ms) end answer (mid, v, one, rest, more, raced, joins, least_is) is =
      let lost : (d : ℕ) → marked_at (either_of (marks_of mid).lost (marks_of v).lost) d ≡ true → marked_at (marks_of end).lost d ≡ true =
      λ d there. subst (λ (w : View). marked_at (marks_of w).lost d ≡ true) (sym joins) there in
      ⊎_elim
      (λ own. let both = subst (λ (r : Result (Unit {0}) NodeNo). IsCausedIn entry (memory_in v false) r) (lost_answer one own) raced.caused in
      (lost 0 (either_right (marks_of mid).lost (marks_of v).lost 0 both.0), lost 1 (either_right (marks_of mid).lost (marks_of v).lost 1 both.1)))
      (λ others. let both = both_marked (giving m.id.0 root) ms mid rest more others in
      (lost 0 (either_left (marks_of mid).lost (marks_of v).lost 0 both.0), lost 1 (either_left (marks_of mid).lost (marks_of v).lost 1 both.1)))
      (one_of answer (status_of one) rest status.BothLost least_is is)

  pub faults_marked : (root : View) (ms : List Member) (end : View) (answer : Status)
      → RacedOn tells entry steps root ms end answer → answer ≡ status.ConsoleFault
      → Rose (entry.faults Console) (number_at (marks_of end).faults console_mark)
  faults_marked root [] end answer raced is = absurd (done_failed (sym raced.1 ∙ is))
  faults_marked root (m ∷ ms) end answer (mid, v, one, rest, more, raced, joins, least_is) is =
      let g = greatest_at (marks_of mid).faults (marks_of v).faults console_mark in
      let e : number_at (marks_of end).faults console_mark ≡ number_at (greatest (marks_of mid).faults (marks_of v).faults) console_mark =
      ap (λ (w : View). number_at (marks_of w).faults console_mark) joins in
      ⊎_elim
      (λ own. let rose = subst (λ (r : Result (Unit {0}) NodeNo). IsCausedIn entry (memory_in v false) r) (failed_answer one own) raced.caused in omega (arith, g, e, rose))
      (λ others. let rose = faults_marked (giving m.id.0 root) ms mid rest more others in omega (arith, g, e, rose))
      (one_of answer (status_of one) rest status.ConsoleFault least_is is)

-- A DEVICE WAS LOST, if it can't be that it wasn't

pub rose_or : (a b : ℕ) → Rose a b ⊎ (Rose a b → ⊥)
rose_or a b = by_test (nat_le (next a) b) refl where
  clash : true ≡ false → ⊥
  clash e = cc

  by_test : (t : Bool) → nat_le (next a) b ≡ t → Rose a b ⊎ (Rose a b → ⊥)
  by_test true is = inl (grind (arith, nat_tests))
  by_test false is = inr (λ r. let there : nat_le (next a) b ≡ true = le-leb (next a) b r in absurd (clash (sym there ∙ is)))

pub was_lost : (d : Dev) (old new : Shown)
    → ((Rose (old.faults (Disk d)) (new.faults (Disk d)) → ⊥) → (Rose (old.loses d) (new.loses d) → ⊥) → ⊥) → WasLost d old new
was_lost d old new not_neither = ⊎_elim
    (λ failed. inl failed)
    (λ sound. ⊎_elim (λ called. inr called) (λ kept. absurd (not_neither sound kept)) (rose_or (old.loses d) (new.loses d)))
    (rose_or (old.faults (Disk d)) (new.faults (Disk d)))
