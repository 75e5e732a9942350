-- What the operator does before the members begin.
use Rattle.std.proofs.Common.{◌≡◌, ◌∙◌, inr, ℕ, ◌≤◌, ◌<◌, nat_lt, take, Bool, true, false, [], ◌∷◌, ◌++◌, Ok, Err, Result, map, append-nil, refl, sym, ap, arith}
use Rattle.std.proofs.lemmas.Bool.Decides.{nat_tests}
use Rattle.mas_types.specs.declared.ids.MemberId.{MemberId}
use Rattle.mas_types.specs.Closings.{closing_line}
use Rattle.run_turns.specs.Admissions.{no_member}
use Rattle.spool_plant.specs.declared.plant.Plant.{Ghosts as PlantGhosts}
use Rattle.spool_plant.specs.declared.plant.Part.TheVariants.{Console}
use Rattle.spool_plant.specs.Acts.{Rose}
use Rattle.spool_plant.specs.View.{View}
use Rattle.mas_complex.specs.Headline.{whole}
use Rattle.mas_complex.specs.Parts.{Parts}
use Rattle.member_node.specs.Calls.{console_now}
use Rattle.member_node.specs.Spares.{Spares}
use Rattle.member_node.specs.declared.member.NodeNo.{NodeNo}
use Rattle.member_node.specs.declared.member.NodeNo.TheVariants as no_node
use Rattle.member_node.proofs.SpareLemmas.{spares_none}
use Rattle.member_steps.specs.Saying.{OnConsole}
use Rattle.member_steps.proofs.SayLemmas.{console_none}
use Rattle.run_opening.proofs.ProceedLemmas.{proceeds_of}
use Rattle.race_ends.specs.Before.{armed_by, if_refused, refused_lines}
use Rattle.race_ends.specs.Prepared.{HasPrepared, step_by}

module _ {P C : Type 0} (plants : PlantGhosts P) (by : MemberId) (at : ℕ) where
  abbrev v : Parts P C → View
  v x = plants.view x.plant

  -- one line of the operator, by its answer
  prepares_so : (x y : Parts P C) (result : Result (Unit {0}) NodeNo) → OnConsole plants.tells (v x) (v y) → Spares 0 false (v x) (v y)
      → (result ≡ Err no_node.Halted → ⊥) × (result ≡ Err no_node.BothLost → ⊥)
      → (result ≡ Err no_node.ConsoleFault → Rose ((v x).faults Console) ((v y).faults Console))
      → (seen : ℕ) → seen ≤ 1 → (result ≡ Ok tt → seen ≡ 1)
      → ((m : MemberId) (arms : ℕ) → armed_by x.base.config.members m (take seen (step_by by ∷ [])) arms ≡ arms)
      → (plants.tells → console_now (v y) ≡ console_now (v x) ++ map whole (refused_lines x.base.config.members at (take seen (step_by by ∷ []))))
      → HasPrepared plants at (step_by by ∷ []) x y result
  prepares_so x y result acts spares cause failed seen few all unarmed console = record {
    goes = proceeds_of (v x) (v y) acts.goes;
    lost = acts.lost;
    faults = acts.faults;
    stops = λ m. spares.stops m (inr refl);
    loses = acts.loses;
    disks = acts.disks;
    seen = seen;
    few = few;
    all = all;
    arms = λ m one. acts.goes.arms m.0 ∙ sym (unarmed m ((v x).arms m.0));
    console = console;
    cause = cause;
    failed = failed;
  }

  pub refuses_none : (x : Parts P C) → HasPrepared plants at (step_by by ∷ []) x x (Err no_node.NoMemory)
  refuses_none x =
      prepares_so x x (Err no_node.NoMemory) (console_none plants.tells (v x)) (spares_none 0 (v x)) ((λ is. cc), (λ is. cc)) (λ is. absurd (cc))
      0 (omega arith) (λ is. absurd (cc)) (λ m arms. refl) (λ t. sym (append-nil (console_now (v x))))

  pub refuses_done : (x y : Parts P C) → x.base.config.members < by.0 → OnConsole plants.tells (v x) (v y) → Spares 0 false (v x) (v y)
      → (plants.tells → console_now (v y) ≡ console_now (v x) ++ whole (closing_line by at no_member) ∷ [])
      → HasPrepared plants at (step_by by ∷ []) x y (Ok tt)
  refuses_done x y none acts spares said =
      let out : nat_lt x.base.config.members by.0 ≡ true = grind (arith, nat_tests, none) in
      prepares_so x y (Ok tt) acts spares ((λ is. cc), (λ is. cc)) (λ is. absurd (cc))
      1 (omega arith) (λ is. refl) (λ m arms. refl)
      (λ t. said t ∙ ap (λ (b : Bool). console_now (v x) ++ map whole (if_refused b (closing_line by at no_member) [])) (sym out))

  pub refuses_failed : (x y : Parts P C) → OnConsole plants.tells (v x) (v y) → Spares 0 false (v x) (v y)
      → Rose ((v x).faults Console) ((v y).faults Console) → (plants.tells → console_now (v y) ≡ console_now (v x))
      → HasPrepared plants at (step_by by ∷ []) x y (Err no_node.ConsoleFault)
  refuses_failed x y acts spares rose said =
      prepares_so x y (Err no_node.ConsoleFault) acts spares ((λ is. cc), (λ is. cc)) (λ is. rose)
      0 (omega arith) (λ is. absurd (cc)) (λ m arms. refl) (λ t. said t ∙ sym (append-nil (console_now (v x))))
