-- What follows in a sitting by the next unit.
use Rattle.member_units.proofs.Names.{◌≡◌, ℕ, zero, suc, ◌-◌, ◌≤◌, true, false, Option, Some, None, ◌∙◌, ap, refl, sym, arith, Command, JobNo, MemberId, OutNo, Queue, Works, queue_here, tells_here, units_from, Member, Complex, PlantGhosts, SteadyGhosts, CopyGhosts, command_of, PrintLines, ReadText, Aside, Holder, Progress, option_map, option_map_or, is_member, job_at, output_at, Tell, IsOfUnit, aside_of, subst, is_drop}
use Rattle.mas_types.specs.declared.commands.Command.TheVariants as command
use Rattle.mas_types.specs.declared.units.Unit as units
use Rattle.mas_types.specs.declared.units.Unit.TheVariants as unit
use Rattle.mas_types.specs.Fit.{IsFit, IsIndex}
use Rattle.mas_types.specs.Limits.{members_most}
use Rattle.mas_types.specs.Step.{may_give}
use Rattle.mas_types.specs.Units.{unit_of}
use Rattle.ckpt_tables.specs.declared.tables.Tables.{Tables}
use Rattle.queue_commands.specs.Given.{IsGiver, is_plain}
use Rattle.member_giving.specs.Ready.{IsReadyFor, IsReadyUnit, MayBeGiven}
use Rattle.step_turns.specs.Turns.{Turn, next_unit, no_more, one_command, waits_for}
use Rattle.std.proofs.lemmas.Option.{same_Some}

-- a unit that waits for no acts
pub by_none : (by : MemberId) (p : Progress) (Q : Queue) (u : units.Unit) → ((n : JobNo) (i : OutNo) → u ≡ unit.Print n i → ⊥) → ((n : JobNo) → u ≡ unit.Run n → ⊥) → ((n : JobNo) → u ≡ unit.Convert n → ⊥) → None ≡ aside_of by p Q u
by_none by p Q (unit.Print n i) prints runs converts = absurd (prints n i refl)
by_none by p Q (unit.Run n) prints runs converts = absurd (runs n refl)
by_none by p Q (unit.Convert n) prints runs converts = absurd (converts n refl)
by_none by p Q _ prints runs converts = refl

module _ (h : Holder) (left : ℕ) (Q : Queue) (given done : ℕ) where
  -- the turn where the next unit gives this command, or else waits for these acts
  abbrev turn_by : Option Command → Option Aside → Turn
  turn_by c a = option_map_or (λ d. one_command h d left (units_from h left) Q given done) c (option_map_or (waits_for h) a (no_more h done))

  mapped : {A : Type 0} (f : A → Aside) (o : Option A) → option_map_or (λ x. waits_for h (f x)) o (no_more h done) ≡ option_map_or (waits_for h) (option_map f o) (no_more h done)
  mapped f None = refl
  mapped f (Some x) = refl

  by_unit : (u : units.Unit) → next_unit h u left (units_from h left) Q given done ≡ turn_by (command_of u) (aside_of h.by (record { done = done; left = left }) Q u)
  by_unit (unit.Print n i) = mapped _ (output_at Q n i)
  by_unit (unit.Run n) = mapped _ (job_at Q n)
  by_unit (unit.Convert n) = mapped _ (job_at Q n)
  by_unit (unit.Finish n i) = refl
  by_unit _ = refl

less_one : (left : ℕ) → (left ≡ 0 → ⊥) → suc (left - 1) ≡ left
less_one zero some = absurd (some refl)
less_one (suc left) some = omega arith

-- the turn of the units that follow, where some are left
module _ {P C : Type 0} {plants : PlantGhosts P} {steadies : SteadyGhosts C} {copies : CopyGhosts C} (x : Complex P C plants steadies copies) (m : Member) (h : Holder) (w : Works x m h) (p : Progress) (some : p.left ≡ 0 → ⊥) where
  pub turn_next : (u : units.Unit) (c : Option Command) (a : Option Aside) → ((Q : Queue) → Tell m.checkpoint.tables Q → u ≡ unit_of Q m.id) → command_of u ≡ c → ((Q : Queue) → Tell m.checkpoint.tables Q → a ≡ aside_of m.id (record { done = p.done; left = p.left - 1 }) Q u) → plants.tells → (given : ℕ)
      → turn_by h (p.left - 1) (queue_here x m) given p.done c a ≡ units_from h p.left (queue_here x m) given p.done
  turn_next u c a unit is acts told given =
      let Q : Queue = queue_here x m in
      let left = p.left - 1 in
      let tell = tells_here x m h w told in
      ap (λ (o : Option Aside). turn_by h left Q given p.done c o) (acts Q tell ∙ ap (λ (i : MemberId). aside_of i (record { done = p.done; left = left }) Q u) (sym w.own))
      ∙ ap (λ (d : Option Command). turn_by h left Q given p.done d (aside_of h.by (record { done = p.done; left = left }) Q u)) (sym is)
      ∙ sym (by_unit h left Q given p.done u)
      ∙ ap (λ (v : units.Unit). next_unit h v left (units_from h left) Q given p.done) (unit Q tell ∙ ap (unit_of Q) (sym w.own))
      ∙ ap (λ (k : ℕ). units_from h k Q given p.done) (less_one p.left some)

-- THE COMMAND OF A UNIT

pub each_command : (P : units.Unit → Command → Type 0) → ((n : JobNo) (i : OutNo) → P (unit.Finish n i) (command.Done n i)) → P unit.Pick command.Pick → P unit.Purge command.Purge → P unit.Gather command.Gather → P unit.TakeExec command.TakeExec → P unit.TakeConvert command.TakeConvert
    → (u : units.Unit) (c : Command) → command_of u ≡ Some c → P u c
each_command P done pick purge gather exec convert (unit.Finish n i) c is = subst (P (unit.Finish n i)) (same_Some (command.Done n i) c is) (done n i)
each_command P done pick purge gather exec convert unit.Pick c is = subst (P unit.Pick) (same_Some command.Pick c is) pick
each_command P done pick purge gather exec convert unit.Purge c is = subst (P unit.Purge) (same_Some command.Purge c is) purge
each_command P done pick purge gather exec convert unit.Gather c is = subst (P unit.Gather) (same_Some command.Gather c is) gather
each_command P done pick purge gather exec convert unit.TakeExec c is = subst (P unit.TakeExec) (same_Some command.TakeExec c is) exec
each_command P done pick purge gather exec convert unit.TakeConvert c is = subst (P unit.TakeConvert) (same_Some command.TakeConvert c is) convert
each_command P done pick purge gather exec convert _ c is = absurd (cc)

-- a unit's command is within the limits, where that which finishes an output is
pub command_fits : (u : units.Unit) (c : Command) → command_of u ≡ Some c → ((n : JobNo) (i : OutNo) → u ≡ unit.Finish n i → IsIndex i.0) → IsFit c
command_fits = each_command (λ u c. ((n : JobNo) (i : OutNo) → u ≡ unit.Finish n i → IsIndex i.0) → IsFit c) (λ n i index. index n i refl) (λ _. tt) (λ _. tt) (λ _. tt) (λ _. tt) (λ _. tt)

pub unit_given : (base : Queue) (by : MemberId) (c : Command) → 1 ≤ by.0 → by.0 ≤ members_most → is_member base.config by ≡ true → IsOfUnit c → MayBeGiven base by c
unit_given base by c some few member u =
    let may : IsFit c → MayBeGiven base by c = each_command (λ _ d. IsFit d → MayBeGiven base by d) (λ n i. given (command.Done n i) refl (some, few) member refl) (given command.Pick refl (some, few) member refl) (given command.Purge refl (some, few) member refl) (given command.Gather refl (some, few) member refl) (given command.TakeExec refl (some, few) member refl) (given command.TakeConvert refl (some, few) member refl) u.of c u.is in
    may u.fit
  where
    given : (d : Command) → is_plain d ≡ true → IsGiver by d → may_give base by d ≡ true → is_drop d ≡ false → IsFit d → MayBeGiven base by d
    given d plain giver may closes fit = record { plain = plain; fit = fit; giver = giver; may = may; closes = closes }

-- a step that waits for a unit's acts is ready
pub unit_ready : (told : Type 0) (Q : Queue) (t : Tables) (by : MemberId) (a : Aside) → IsReadyUnit t by a → IsReadyFor told Q t by a
unit_ready told Q t by (ReadText runs n fields p) ready = ready
unit_ready told Q t by (PrintLines n i last p) ready = ready
unit_ready told Q t by _ ready = absurd ready
