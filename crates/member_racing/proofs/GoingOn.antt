-- A step that waits goes on, whatever others gave.
use Rattle.std.proofs.Common.{◌≡◌, ◌∙◌, ◌≤◌, ◌||◌, not, nat_le, if◌then◌else◌, ℕ, ◌+◌, Bool, true, false, List, [], take, All, Option, Some, ap, refl, subst, sym, arith}
use Rattle.std.proofs.lemmas.Option.{same_Some as some_same}
use Rattle.std.specs.Coded.{Coded-set, coded_list}
use Rattle.std.proofs.Math.Logic.{∥∥₁_elim, ∥∥₁_map}
use Rattle.std.proofs.lemmas.Bool.{eq-eqb}
use Rattle.std.proofs.lemmas.Bool.Decides.{nat_tests}
use Rattle.mas_types.specs.declared.commands.Command.TheVariants as command
use Rattle.mas_types.specs.declared.ids.GroupNo.{GroupNo}
use Rattle.mas_types.specs.declared.ids.JobNo.{JobNo}
use Rattle.mas_types.specs.declared.ids.MemberId.{MemberId}
use Rattle.mas_types.specs.declared.ids.OutNo.{OutNo}
use Rattle.mas_types.specs.declared.jobs.OutSpec.{OutSpec}
use Rattle.mas_types.specs.declared.jobs.Output.{Output}
use Rattle.mas_types.specs.declared.jobs.Text.TheVariants.{Whole}
use Rattle.mas_types.specs.declared.queues.Queue.{Queue}
use Rattle.mas_types.specs.contracts.ids.GroupNo.{the_row as group_row}
use Rattle.mas_types.specs.Commands.Life.{groups_of_outputs, is_cancelled}
use Rattle.mas_types.specs.Ids.{is_somebody, same_member}
use Rattle.mas_types.specs.Owners.{groups_needed}
use Rattle.mas_types.specs.Queue.{job_at}
use Rattle.mas_types.specs.Sound.{IsSound}
use Rattle.spool_plant.specs.declared.plant.Plant.{Ghosts as PlantGhosts}
use Rattle.spool_plant.specs.View.{View, disk_now}
use Rattle.ckpt_copy.specs.declared.copying.Copying.{Ghosts as CopyGhosts}
use Rattle.mas_complex.specs.Journals.{kept_all}
use Rattle.mas_complex.specs.Paper.{counts_of}
use Rattle.mas_complex.specs.Parts.{Parts}
use Rattle.mas_complex.specs.Texts.{IsThere, Spools, spools_at}
use Rattle.gate_turns.specs.Busy.{Stays}
use Rattle.gate_turns.specs.Desks.{groups_from}
use Rattle.paper_laws.specs.Counts.{IsMarkRight, may_mark}
use Rattle.queue_laws.specs.Laws.{IsBusyKept}
use Rattle.queue_laws.proofs.RunLaws.{runs_keep_configuration}
use Rattle.track_groups.specs.Groups.{held_by}
use Rattle.step_turns.specs.Laws.{on_line}
use Rattle.step_turns.specs.declared.states.Found.{Found}
use Rattle.step_turns.specs.declared.states.State.{State}
use Rattle.step_turns.specs.declared.states.State.TheVariants.{Away, Fresh, Rested, Told}
use Rattle.step_turns.specs.declared.states.Aside.TheVariants.{Acknowledge, Exchange, PrintLines, ReadText, SpoolArrival, SpoolDeck, SpoolOutputs}
use Rattle.member_asides.specs.Asides.{lowest_for}
use Rattle.member_resets.specs.Sits.{IsFoundRight, MayBeAsked}
use Rattle.member_sittings.specs.Asides.{lowest_groups}
use Rattle.member_sittings.specs.Whole.{queue_of}
use Rattle.member_resets.proofs.Sat.{lines_resume}
use Rattle.member_work.specs.Printing.{IsPrinting}
use Rattle.member_work.specs.Spooled.{AreSpooled}
use Rattle.member_racing.specs.Waits.{IsMine, IsStillRight}
use Rattle.member_racing.proofs.BusyStill.{at_its, held_on, output_on, printing_on, same_held, working_on}
use Rattle.member_racing.proofs.GroupsStill.{Kept, outputs_still, some_still}

-- THE OUTPUTS of a job, if it wasn't cancelled

by_cancelled : (b : Bool) (disks : Spools) (per : ℕ) (specs : List OutSpec) (groups : List GroupNo) → AreSpooled disks per specs (take (groups_of_outputs specs) groups)
    → AreSpooled disks per (if b then [] else specs) (take (groups_of_outputs (if b then [] else specs)) groups)
by_cancelled true disks per specs groups spooled = tt
by_cancelled false disks per specs groups spooled = spooled

-- a line that was printed of an output
below_mark : (m : MemberId) (printed at : ℕ) (o : Output) → same_member o.busy m ≡ true → may_mark m printed at (Some o) ≡ true → at ≤ o.mark + printed
below_mark m printed at o busy may = by_test (nat_le at (o.mark + printed)) refl where
  by_test : (t : Bool) → nat_le at (o.mark + printed) ≡ t → at ≤ o.mark + printed
  by_test true is = grind (arith, nat_tests, is)
  by_test false is =
      absurd (let none : may_mark m printed at (Some o) ≡ false = ap (λ (b : Bool). not b || nat_le at (o.mark + printed)) busy ∙ ap (λ (t : Bool). not true || t) is in let bad : true ≡ false = sym may ∙ none in cc)

module _ {P C : Type 0} (plants : PlantGhosts P) (copies : CopyGhosts C) where
  abbrev v : Parts P C → View
  v x = plants.view x.plant

  groups_same : (x : Parts P C) → (queue_of x).config.groups ≡ x.base.config.groups
  groups_same x = ap (λ c. c.groups) (runs_keep_configuration x.base (kept_all x.batches)).config

  -- what a step finds at its turn is right
  pub right_now : (x : Parts P C) (m : MemberId) (s : State) (found : Found) → (plants.tells → IsMine (queue_of x) m s) → IsStillRight plants copies x m s found → IsFoundRight plants copies x m s found
  right_now x m (Away (SpoolOutputs n specs p)) found mine r = (
    r.0,
    mine,
    λ none t.
        by_cancelled (is_cancelled (job_at (queue_of x) n)) (spools_at (v x) (v x).now) (queue_of x).config.groups specs (held_by m (queue_of x).owners)
        (subst (λ (per : ℕ). AreSpooled (spools_at (v x) (v x).now) per specs (lowest_for m (queue_of x).owners specs)) (sym (groups_same x)) (r.1 none t)),
  )
  right_now x m (Fresh task) found mine r = r
  right_now x m (Away (SpoolDeck n text)) found mine r = r
  right_now x m (Away (ReadText runs n fields p)) found mine r = r
  right_now x m (Away (PrintLines n i last p)) found mine r = r
  right_now x m (Away (Exchange l offer)) found mine r = r
  right_now x m (Away (SpoolArrival number job cards service)) found mine r = r
  right_now x m (Away (Acknowledge number service)) found mine r = r
  right_now x m (Rested p) found mine r = r
  right_now x m Told found mine r = r

  module _ (x y : Parts P C) (m : MemberId) (somebody : is_somebody m ≡ true) (base : y.base ≡ x.base) (stays : plants.tells → ∥ Stays m (queue_of x) (queue_of y) ∥₁) (sound : plants.tells → IsSound (queue_of y))
      (counts : counts_of y.printed m ≡ counts_of x.printed m) (spared : plants.tells → All (Kept x.base.config.groups (disk_now (v x)) (disk_now (v y))) (groups_from m 0 (queue_of x).owners)) where
    kept : plants.tells → ∥ IsBusyKept m (queue_of x) (queue_of y) ∥₁
    kept t = ∥∥₁_map (stays t) (λ k. k.busy)

    pub mine_on : plants.tells → (s : State) → IsMine (queue_of x) m s → IsMine (queue_of y) m s
    mine_on t (Away (ReadText runs n fields p)) mine = working_on (queue_of x) (queue_of y) m somebody (kept t) (sound t) n mine
    mine_on t (Away (SpoolOutputs n specs p)) mine = working_on (queue_of x) (queue_of y) m somebody (kept t) (sound t) n mine
    mine_on t (Away (PrintLines n i last p)) mine = printing_on (queue_of x) (queue_of y) m somebody (kept t) (sound t) n i mine
    mine_on t (Away (SpoolDeck n text)) mine = tt
    mine_on t (Away (Exchange l offer)) mine = tt
    mine_on t (Away (SpoolArrival number job cards service)) mine = tt
    mine_on t (Away (Acknowledge number service)) mine = tt
    mine_on t (Fresh task) mine = tt
    mine_on t (Rested p) mine = tt
    mine_on t Told mine = tt

    pub same_groups_held : plants.tells → held_by m (queue_of y).owners ≡ held_by m (queue_of x).owners
    same_groups_held t = held_on m (queue_of x).owners (queue_of y).owners (∥∥₁_elim (stays t) (Coded-set (coded_list group_row.coded) _ _) (λ k. k.groups))

    per_is : y.base.config.groups ≡ x.base.config.groups
    per_is = ap (λ (q : Queue). q.config.groups) base

    spared_held : (t : plants.tells) → All (Kept x.base.config.groups (disk_now (v x)) (disk_now (v y))) (held_by m (queue_of x).owners)
    spared_held t = subst (λ (gs : List GroupNo). All (Kept x.base.config.groups (disk_now (v x)) (disk_now (v y))) gs) (same_held m 0 (queue_of x).owners) (spared t)

    deck_on : (text : List (List ℕ)) → plants.tells → IsThere (spools_at (v x) (v x).now) x.base.config.groups (Whole text) (lowest_groups m (queue_of x).owners text)
        → IsThere (spools_at (v y) (v y).now) y.base.config.groups (Whole text) (lowest_groups m (queue_of y).owners text)
    deck_on text t there =
        subst (λ (per : ℕ). IsThere (spools_at (v y) (v y).now) per (Whole text) (lowest_groups m (queue_of y).owners text)) (sym per_is)
        (subst (λ (gs : List GroupNo). IsThere (spools_at (v y) (v y).now) x.base.config.groups (Whole text) (take (groups_needed text) gs)) (sym (same_groups_held t))
        (some_still x.base.config.groups (disk_now (v x)) (disk_now (v y)) (groups_needed text) (Whole text) (held_by m (queue_of x).owners) (spared_held t) there))

    outputs_on : (specs : List OutSpec) → plants.tells → AreSpooled (spools_at (v x) (v x).now) x.base.config.groups specs (lowest_for m (queue_of x).owners specs)
        → AreSpooled (spools_at (v y) (v y).now) y.base.config.groups specs (lowest_for m (queue_of y).owners specs)
    outputs_on specs t there =
        subst (λ (per : ℕ). AreSpooled (spools_at (v y) (v y).now) per specs (lowest_for m (queue_of y).owners specs)) (sym per_is)
        (subst (λ (gs : List GroupNo). AreSpooled (spools_at (v y) (v y).now) x.base.config.groups specs (take (groups_of_outputs specs) gs)) (sym (same_groups_held t))
        (outputs_still x.base.config.groups (disk_now (v x)) (disk_now (v y)) (groups_of_outputs specs) specs (held_by m (queue_of x).owners) (spared_held t) there))

    -- a mark of what was printed is right still
    mark_on : (n : JobNo) (i : OutNo) (last : ℕ) → (t : plants.tells) → IsPrinting (queue_of x) m n i → IsMarkRight (queue_of x) m (counts_of x.printed m) (command.Mark n i last)
        → IsMarkRight (queue_of y) m (counts_of y.printed m) (command.Mark n i last)
    mark_on n i last t p right =
        let mine : p.output.busy ≡ m = at_its_own p in
        let busy : same_member p.output.busy m ≡ true = subst (λ (k : MemberId). same_member k m ≡ true) (sym mine) (eq-eqb m.0 m.0 refl) in
        let le : last ≤ p.output.mark + counts_of x.printed m = below_mark m (counts_of x.printed m) last p.output busy (subst (λ (o : Option Output). may_mark m (counts_of x.printed m) last o ≡ true) p.there right.1) in
        let s = output_on (queue_of x) (queue_of y) m somebody (kept t) (sound t) n i p.output p.there mine in
        lines_resume (queue_of y) m n i last (counts_of y.printed m) somebody
        (λ o is.
        let same : o ≡ s.output = some_same o s.output (sym is ∙ s.there) in
        let mark : o.mark ≡ p.output.mark = ap (λ (q : Output). q.mark) same ∙ s.mark in
        let all = counts in
        omega (arith, le, mark, all))
      where
        at_its_own : (p : IsPrinting (queue_of x) m n i) → p.output.busy ≡ m
        at_its_own p = at_its (queue_of x) (queue_of y) m somebody (kept t) (sound t) p.output p.busy

    pub right_on : (s : State) (found : Found) → (plants.tells → IsMine (queue_of x) m s) → IsStillRight plants copies x m s found → on_line s ≡ false → IsStillRight plants copies y m s found
    right_on (Fresh task) found mine r off = (subst (λ (q : Queue). MayBeAsked q m task) (sym base) r.0, r.1)
    right_on (Away (SpoolDeck n text)) found mine r off = (r.0, r.1, λ none t. deck_on text t (r.2 none t))
    right_on (Away (ReadText runs n fields p)) found mine r off = (r.0, r.1, λ t. mine_on t (Away (ReadText runs n fields p)) (mine t))
    right_on (Away (SpoolOutputs n specs p)) found mine r off = (r.0, λ none t. outputs_on specs t (r.1 none t))
    right_on (Away (PrintLines n i last p)) found mine r off = (r.0, λ none t. mark_on n i last t (mine t) (r.1 none t))
    right_on (Away (Exchange l offer)) found mine r off = absurd (cc)
    right_on (Away (SpoolArrival number job cards service)) found mine r off = absurd (cc)
    right_on (Away (Acknowledge number service)) found mine r off = absurd (cc)
    right_on (Rested p) found mine r off = r
    right_on Told found mine r off = r
