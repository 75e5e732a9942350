-- What a member's line waits for stands where others gave something, also for a copy of the member that reads all pages anew.
use Rattle.std.proofs.Common.{◌≡◌, ◌∙◌, ℕ, true, false, ◌≤◌, List, All, None, ap, subst, sym}
use Rattle.std.specs.Coded.{Coded-set, coded_list}
use Rattle.std.proofs.Math.Logic.{∥∥₁_elim, ∥∥₁_map}
use Rattle.mas_types.specs.declared.queues.Queue.{Queue}
use Rattle.mas_types.specs.contracts.ids.GroupNo.{the_row as group_row}
use Rattle.mas_types.specs.Ids.{is_somebody}
use Rattle.mas_types.specs.Sound.{IsSound}
use Rattle.lock_cycle.specs.Books.{IsMember, is_stopped}
use Rattle.spool_plant.specs.View.{disk_now}
use Rattle.spool_plant.specs.declared.plant.Plant.{Ghosts as PlantGhosts}
use Rattle.spool_volumes.specs.Volumes.{AreRoomy}
use Rattle.ckpt_copy.specs.declared.copying.Copying.{Ghosts as CopyGhosts}
use Rattle.mas_complex.specs.Paper.{counts_of}
use Rattle.mas_complex.specs.Parts.{Parts}
use Rattle.gate_turns.specs.Busy.{Stays}
use Rattle.gate_turns.specs.Desks.{groups_from}
use Rattle.queue_laws.specs.Laws.{IsBusyKept}
use Rattle.race_turns.specs.Turns.{racer}
use Rattle.step_turns.specs.Laws.{on_line}
use Rattle.step_turns.specs.declared.states.State.{State}
use Rattle.step_turns.specs.declared.states.State.TheVariants.{Away, Fresh, Rested, Told}
use Rattle.step_turns.specs.declared.states.Aside.TheVariants.{Acknowledge, Exchange, PrintLines, ReadText, SpoolArrival, SpoolDeck, SpoolOutputs}
use Rattle.track_groups.specs.Groups.{held_by}
use Rattle.member_asides.specs.Asides.{MayAside}
use Rattle.member_resets.specs.Asides.{MayActAfter}
use Rattle.member_resets.specs.Sits.{WaitsWell}
use Rattle.member_resets.specs.Stand.{Stand}
use Rattle.member_node.specs.declared.member.Member.{Member}
use Rattle.member_sittings.specs.Whole.{queue_of}
use Rattle.member_steps.proofs.SoundQueues.{sound_is}
use Rattle.member_racing.specs.Waits.{GoesOnIn, IsMine, IsStillRight, MayActNext, MaySitNext}
use Rattle.member_racing.proofs.ActingOn.{acts_on, well_on}
use Rattle.member_racing.proofs.BusyStill.{held_on}
use Rattle.member_racing.proofs.GoingOn.{mine_on, right_on}
use Rattle.member_racing.proofs.GroupsStill.{Kept}
use Rattle.member_racing.proofs.OthersGave.{OthersGave, deck_somehow, limit_somehow, others_stay, output_somehow, sound_after}
use Rattle.std.specs.Prelude.{is_some}
use Rattle.mas_types.specs.declared.ids.MemberId.{MemberId}
use Rattle.mas_types.specs.Commands.Life.{groups_of_outputs}
use Rattle.mas_types.specs.Limits.{members_most}
use Rattle.mas_types.specs.Owners.{groups_needed, member_count}
use Rattle.mas_types.specs.Queue.{job_at}
use Rattle.ckpt_tables.specs.Shape.{HasShape, HasSpelling}
use Rattle.queue_telling.specs.Telling.{Tell, TellSound}
use Rattle.mas_complex.specs.Locking.{IsUp}
use Rattle.mas_complex.specs.Spool.{IsHeldBy}
use Rattle.member_node.specs.declared.checkpoint.Checkpoint.{Checkpoint}
use Rattle.member_sittings.specs.Asides.{HasGroups}
use Rattle.member_asides.specs.Asides.{IsJobStill, IsOutputStill}
use Rattle.member_asides.specs.Ready.{AreOutputsReady, IsJobReady, IsOutputReady}

module _ {P C : Type 0} (plants : PlantGhosts P) (copies : CopyGhosts C) (p q : Parts P C) (m : Member) (number : ℕ) (by : is_somebody m.id ≡ true) (base : q.base ≡ p.base) (up : is_stopped q.book m.id ≡ false) (gave : plants.tells → ∥ OthersGave m.id (queue_of p) (queue_of q) ∥₁)
    (counts : counts_of q.printed m.id ≡ counts_of p.printed m.id) (spared : plants.tells → All (Kept p.base.config.groups (disk_now (plants.view p.plant)) (disk_now (plants.view q.plant))) (groups_from m.id 0 (queue_of p).owners)) (seated : IsMember q.book m.id)
    (roomy : plants.tells → AreRoomy (plants.view q.plant) q.base.config) where
  stays : plants.tells → ∥ Stays m.id (queue_of p) (queue_of q) ∥₁
  stays t = ∥∥₁_map (gave t) (λ g. others_stay m.id by (queue_of p) (queue_of q) g)

  sound : plants.tells → IsSound (queue_of q)
  sound t = sound_is (queue_of q) (∥∥₁_map (gave t) (λ g. sound_after m.id by (queue_of p) (queue_of q) g))

  same_from : plants.tells → groups_from m.id 0 (queue_of q).owners ≡ groups_from m.id 0 (queue_of p).owners
  same_from t = ∥∥₁_elim (stays t) (Coded-set (coded_list group_row.coded) _ _) (λ k. k.groups)

  goes_still : (at : Stand) → GoesOnIn plants copies p m number at → GoesOnIn plants copies q m number at
  goes_still at g = record {
    up = up;
    off = g.off;
    begun = g.begun;
    holder = g.holder ∙ ap (λ (b : Queue). racer b.config m.id number) (sym base);
    few = g.few;
    mine = λ t. mine_on plants copies p q m.id by base stays sound counts spared t at.state (g.mine t);
  }

  pub sits_still : (at : Stand) → MaySitNext plants copies p m number at → MaySitNext plants copies q m number at
  sits_still at w = record {
    goes = goes_still at w.goes;
    right = right_on plants copies p q m.id by base stays sound counts spared at.state at.found w.goes.mine w.right w.goes.off;
  }

  same_held : (at : Stand) → MayActNext plants copies p m number at → plants.tells → held_by m.id (queue_of q).owners ≡ held_by m.id m.checkpoint.tables.owners
  same_held at w t = held_on m.id (queue_of p).owners (queue_of q).owners (same_from t) ∙ w.groups t

  kept : plants.tells → ∥ IsBusyKept m.id (queue_of p) (queue_of q) ∥₁
  kept t = ∥∥₁_map (stays t) (λ k. k.busy)

  pub acts_still : (at : Stand) → MayActNext plants copies p m number at → MayActNext plants copies q m number at
  acts_still at w =
      let goes : GoesOnIn plants copies q m number at = goes_still at w.goes in
      record {
        goes = goes;
        may = acts_on plants copies p q m by base up kept sound (same_held at w) seated roomy (λ t. deck_somehow m.id by (queue_of p) (queue_of q) (gave t)) (λ t. output_somehow m.id by (queue_of p) (queue_of q) (gave t))
            (λ t. limit_somehow m.id by (queue_of p) (queue_of q) (gave t)) at.state w.goes.off w.goes.mine w.may;
        well = well_on plants copies p q m by base up kept sound (same_held at w) seated roomy (λ t. deck_somehow m.id by (queue_of p) (queue_of q) (gave t)) (λ t. output_somehow m.id by (queue_of p) (queue_of q) (gave t))
            (λ t. limit_somehow m.id by (queue_of p) (queue_of q) (gave t)) at.state w.goes.off goes.mine w.well;
        groups = same_held at w;
      }

-- BY ANOTHER COPY OF THE MEMBER

module _ {P C : Type 0} (plants : PlantGhosts P) (copies : CopyGhosts C) (x : Parts P C) (m n : Member) (id : n.id ≡ m.id) (number : ℕ) where
  pub goes_as : (at : Stand) → GoesOnIn plants copies x m number at → GoesOnIn plants copies x n number at
  goes_as at g = record {
    up = ap (is_stopped x.book) id ∙ g.up;
    off = g.off;
    begun = g.begun;
    holder = g.holder ∙ ap (λ i. racer x.base.config i number) (sym id);
    few = g.few;
    mine = λ t. subst (λ i. IsMine (queue_of x) i at.state) (sym id) (g.mine t);
  }

  pub sits_as : (at : Stand) → MaySitNext plants copies x m number at → MaySitNext plants copies x n number at
  sits_as at w = record { goes = goes_as at w.goes; right = subst (λ i. IsStillRight plants copies x i at.state at.found) (sym id) w.right }

-- with the same tables
module _ {P C : Type 0} (plants : PlantGhosts P) (copies : CopyGhosts C) (x : Parts P C) (m n : Member) (id : n.id ≡ m.id) (same : n.checkpoint ≡ m.checkpoint) (number : ℕ) where
  by_both : (A : MemberId → Checkpoint → Type 0) → A m.id m.checkpoint → A n.id n.checkpoint
  by_both A a = subst (λ (i : MemberId). A i n.checkpoint) (sym id) (subst (λ (k : Checkpoint). A m.id k) (sym same) a)

  aside_as : (z : Parts P C) → MayAside plants z m → MayAside plants z n
  aside_as z a = record {
    up = by_both (λ i k. IsUp z.book i) a.up;
    sound = a.sound;
    spelling = by_both (λ i k. HasSpelling k.tables) a.spelling;
    config = by_both (λ i k. z.base.config ≡ k.tables.config) a.config;
    some = a.some;
  }

  held_as : (z : Parts P C) → (plants.tells → All (λ g. IsHeldBy m.id g (queue_of z)) (held_by m.id m.checkpoint.tables.owners)) → plants.tells → All (λ g. IsHeldBy n.id g (queue_of z)) (held_by n.id n.checkpoint.tables.owners)
  held_as z held = by_both (λ i k. plants.tells → All (λ g. IsHeldBy i g (queue_of z)) (held_by i k.tables.owners)) held

  groups_as : (text : List (List ℕ)) → HasGroups m text → HasGroups n text
  groups_as text w = record { lines = w.lines; enough = by_both (λ i k. groups_needed text ≤ member_count i k.tables.owners) w.enough }

  may_as : (z : Parts P C) (s : State) → on_line s ≡ false → MayActAfter plants z m s → MayActAfter plants z n s
  may_as z (Away (SpoolDeck k text)) off w = record {
    up = by_both (λ i c. IsUp z.book i) w.up;
    none = w.none;
    groups = groups_as text w.groups;
    shape = by_both (λ i c. HasShape c.tables) w.shape;
    config = by_both (λ i c. z.base.config ≡ c.tables.config) w.config;
    held = held_as z w.held;
  }
  may_as z (Away (ReadText runs k fields p)) off w = record {
    may = aside_as z w.may;
    sound = by_both (λ i c. plants.tells → TellSound c.tables) w.sound;
    there = by_both (λ i c. (Q : Queue) → Tell c.tables Q → is_some (job_at Q k) ≡ true) w.there;
    still = by_both (λ i c. plants.tells → IsJobStill c.tables k (queue_of z)) w.still;
  }
  may_as z (Away (SpoolOutputs k specs p)) off w = record {
    may = aside_as z w.may;
    none = w.none;
    outputs = w.outputs;
    enough = by_both (λ i c. groups_of_outputs specs ≤ member_count i c.tables.owners) w.enough;
    held = held_as z w.held;
  }
  may_as z (Away (PrintLines k o last p)) off w = record {
    may = aside_as z w.may;
    few = by_both (λ i c. i.0 ≤ members_most) w.few;
    some = by_both (λ i c. 1 ≤ i.0) w.some;
    seated = by_both (λ i c. IsMember z.book i) w.seated;
    none = w.none;
    sound = by_both (λ i c. plants.tells → TellSound c.tables) w.sound;
    output = by_both (λ i c. IsOutputReady c.tables i k o last) w.output;
    still = by_both (λ i c. plants.tells → IsOutputStill c.tables i k o (queue_of z)) w.still;
    roomy = w.roomy;
  }
  may_as z (Away (Exchange l offer)) off w = absurd (cc)
  may_as z (Away (SpoolArrival number job cards service)) off w = absurd (cc)
  may_as z (Away (Acknowledge number service)) off w = absurd (cc)
  may_as z (Fresh task) off w = tt
  may_as z (Rested p) off w = tt
  may_as z Told off w = tt

  well_as : (Q : Queue) (s : State) → on_line s ≡ false → WaitsWell plants.tells Q m s → WaitsWell plants.tells Q n s
  well_as Q (Away (SpoolDeck k text)) off w = groups_as text w
  well_as Q (Away (ReadText runs k fields p)) off w = (w.0, by_both (λ i c. IsJobReady c.tables i k) w.1)
  well_as Q (Away (SpoolOutputs k specs p)) off w = by_both (λ i c. AreOutputsReady plants.tells Q c.tables i k specs) w
  well_as Q (Away (PrintLines k o last p)) off w = by_both (λ i c. IsOutputReady c.tables i k o last) w
  well_as Q (Away (Exchange l offer)) off w = absurd (cc)
  well_as Q (Away (SpoolArrival number job cards service)) off w = absurd (cc)
  well_as Q (Away (Acknowledge number service)) off w = absurd (cc)
  well_as Q (Fresh task) off w = w
  well_as Q (Rested p) off w = w
  well_as Q Told off w = w

  pub acts_as : (at : Stand) → MayActNext plants copies x m number at → MayActNext plants copies x n number at
  acts_as at w = record {
    goes = goes_as plants copies x m n id number at w.goes;
    may = may_as (record x { current = None }) at.state w.goes.off w.may;
    well = well_as (queue_of x) at.state w.goes.off w.well;
    groups = by_both (λ i c. plants.tells → held_by i (queue_of x).owners ≡ held_by i c.tables.owners) w.groups;
  }
