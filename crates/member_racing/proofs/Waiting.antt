-- A member that waits for its next turn in a race waits still at the value that it finds then.
use Rattle.std.proofs.Common.{◌≡◌, ◌∙◌, ◌≤◌, ℕ, true, false, Bool, List, All, ap, subst, sym}
use Rattle.std.specs.Coded.{Coded-set, coded_list}
use Rattle.std.proofs.Math.Logic.{∥∥₁_elim, ∥∥₁_map}
use Rattle.mas_types.specs.declared.queues.Queue.{Queue}
use Rattle.mas_types.specs.contracts.ids.GroupNo.{the_row as group_row}
use Rattle.mas_types.specs.Ids.{is_somebody}
use Rattle.mas_types.specs.Limits.{members_most}
use Rattle.mas_types.specs.Queue.{is_member}
use Rattle.mas_types.specs.Sound.{IsSound}
use Rattle.lock_cycle.specs.Books.{is_stopped}
use Rattle.spool_plant.specs.View.{disk_now}
use Rattle.spool_plant.specs.declared.plant.Plant.{Ghosts as PlantGhosts}
use Rattle.ckpt_copy.specs.declared.copying.Copying.{Ghosts as CopyGhosts}
use Rattle.ckpt_form.specs.declared.steady.Steady.{Ghosts as SteadyGhosts}
use Rattle.mas_complex.specs.declared.complex.Complex.{Complex}
use Rattle.mas_complex.specs.Paper.{counts_of}
use Rattle.mas_complex.specs.Parts.{Parts, parts_of, shown_of}
use Rattle.gate_facts.specs.Values.{SyncedGroups, marked_at}
use Rattle.gate_turns.specs.Busy.{Stays}
use Rattle.gate_turns.specs.Desks.{groups_from, groups_on}
use Rattle.mas_race.specs.Beginnings.{Began}
use Rattle.mas_race.specs.Passings.{RestsAs}
use Rattle.queue_laws.specs.Laws.{IsBusyKept}
use Rattle.race_turns.specs.Turns.{racer}
use Rattle.script_lang.specs.declared.types.Ask.{Ask}
use Rattle.track_groups.specs.Groups.{held_by}
use Rattle.member_resets.specs.Stand.{Stand}
use Rattle.member_node.specs.declared.member.Member.{Member}
use Rattle.member_sittings.specs.Whole.{queue_of}
use Rattle.member_steps.proofs.SoundQueues.{sound_is}
use Rattle.member_racing.specs.Waits.{GoesOnIn, MayActNext, MaySitNext, Waits, WaitsAt}
use Rattle.member_racing.specs.declared.stages.Stage.{Stage as Stands}
use Rattle.member_racing.specs.declared.stages.Stage.TheVariants as line
use Rattle.member_racing.proofs.ActingOn.{acts_on, well_on}
use Rattle.member_racing.proofs.BusyStill.{held_on}
use Rattle.member_racing.proofs.GoingOn.{mine_on, right_on}
use Rattle.member_racing.proofs.GroupsStill.{Kept, groups_spared}
use Rattle.member_racing.proofs.Histories.{others_gave}
use Rattle.member_racing.proofs.Later.{KnowsOf, bare_desk, same_base, same_stop, somebody, stopped_at, told_desk}
use Rattle.member_racing.proofs.Members.{few_of, inside_of, some_of}
use Rattle.member_racing.proofs.Next.{waits_on}
use Rattle.member_racing.proofs.OthersGave.{OthersGave, deck_somehow, limit_somehow, others_stay, output_somehow, sound_after}

module _ {P C : Type 0} {plants : PlantGhosts P} {steadies : SteadyGhosts C} {copies : CopyGhosts C} (o : Began) (x y : Complex P C plants steadies copies) (m : Member) (number : ℕ) (what : Ask) (s : Stands) (cares : List Bool)
    (mine : marked_at cares m.id.0 ≡ true) (rests_x : RestsAs o x) (rests_y : RestsAs o y) (known : KnowsOf m.id cares x y) (was : Waits x m number what s) where
  abbrev p : Parts P C
  p = parts_of x

  abbrev q : Parts P C
  q = parts_of y

  some : 1 ≤ m.id.0
  some = some_of x.base.config m.id was.member

  few : m.id.0 ≤ members_most
  few = few_of x.base.config m.id was.member was.config

  by : is_somebody m.id ≡ true
  by = somebody m.id some few

  base : y.base ≡ x.base
  base = same_base m.id cares some few mine x y known

  module _ (up : is_stopped y.book m.id ≡ false) where
    gave : plants.tells → ∥ OthersGave m.id (queue_of p) (queue_of q) ∥₁
    gave t =
        others_gave o x y rests_x.from rests_y.from rests_y.between known.bare.kept.0 known.bare.kept.1 m.id by up base (was.sound t) (known.bare.no_more (stopped_at m.id some few false (shown_of y) ∙ up)) t

    stays : plants.tells → ∥ Stays m.id (queue_of p) (queue_of q) ∥₁
    stays t = ∥∥₁_map (gave t) (λ g. others_stay m.id by (queue_of p) (queue_of q) g)

    sound : plants.tells → IsSound (queue_of q)
    sound t = sound_is (queue_of q) (∥∥₁_map (gave t) (λ g. sound_after m.id by (queue_of p) (queue_of q) g))

    counts : counts_of q.printed m.id ≡ counts_of p.printed m.id
    counts = (bare_desk m.id cares some few mine x y known up).printed

    same_from : plants.tells → groups_from m.id 0 (queue_of q).owners ≡ groups_from m.id 0 (queue_of p).owners
    same_from t = ∥∥₁_elim (stays t) (Coded-set (coded_list group_row.coded) _ _) (λ k. k.groups)

    synced : plants.tells → SyncedGroups (groups_on (disk_now (plants.view y.plant)) x.base.config.groups m.id (queue_of q).owners) (groups_on (disk_now (plants.view x.plant)) x.base.config.groups m.id (queue_of p).owners)
    synced t =
        subst (λ (b : Queue). SyncedGroups (groups_on (disk_now (plants.view y.plant)) b.config.groups m.id (queue_of q).owners) (groups_on (disk_now (plants.view x.plant)) x.base.config.groups m.id (queue_of p).owners)) base
        (told_desk m.id cares some few mine x y known t up).groups

    spared : plants.tells → All (Kept x.base.config.groups (disk_now (plants.view x.plant)) (disk_now (plants.view y.plant))) (groups_from m.id 0 (queue_of p).owners)
    spared t = groups_spared x.base.config.groups (disk_now (plants.view x.plant)) (disk_now (plants.view y.plant)) m.id (queue_of p).owners (queue_of q).owners (same_from t) (synced t)

    goes_on : (at : Stand) → GoesOnIn plants copies p m number at → GoesOnIn plants copies q m number at
    goes_on at g = record {
      up = up;
      off = g.off;
      begun = g.begun;
      holder = g.holder ∙ ap (λ (b : Queue). racer b.config m.id number) (sym base);
      few = g.few;
      mine = λ t. mine_on plants copies p q m.id by base stays sound counts spared t at.state (g.mine t);
    }

    sits_on : (at : Stand) → MaySitNext plants copies p m number at → MaySitNext plants copies q m number at
    sits_on at w = record {
      goes = goes_on at w.goes;
      right = right_on plants copies p q m.id by base stays sound counts spared at.state at.found w.goes.mine w.right w.goes.off;
    }

    same_held : (at : Stand) → MayActNext plants copies p m number at → plants.tells → held_by m.id (queue_of q).owners ≡ held_by m.id m.checkpoint.tables.owners
    same_held at w t = held_on m.id (queue_of p).owners (queue_of q).owners (same_from t) ∙ w.groups t

    acts_next : (at : Stand) → MayActNext plants copies p m number at → MayActNext plants copies q m number at
    acts_next at w =
        let goes : GoesOnIn plants copies q m number at = goes_on at w.goes in
        let kept : plants.tells → ∥ IsBusyKept m.id (queue_of p) (queue_of q) ∥₁ = λ t. ∥∥₁_map (stays t) (λ k. k.busy) in
        let seated = inside_of y.base.config m.id (ap (λ (b : Queue). is_member b.config m.id) base ∙ was.member) y.book rests_y.between.members in
        record {
          goes = goes;
          may = acts_on plants copies p q m by base up kept sound (same_held at w) seated rests_y.between.roomy (λ t. deck_somehow m.id by (queue_of p) (queue_of q) (gave t)) (λ t. output_somehow m.id by (queue_of p) (queue_of q) (gave t))
              (λ t. limit_somehow m.id by (queue_of p) (queue_of q) (gave t)) at.state w.goes.off w.goes.mine w.may;
          well = well_on plants copies p q m by base up kept sound (same_held at w) seated rests_y.between.roomy (λ t. deck_somehow m.id by (queue_of p) (queue_of q) (gave t)) (λ t. output_somehow m.id by (queue_of p) (queue_of q) (gave t))
              (λ t. limit_somehow m.id by (queue_of p) (queue_of q) (gave t)) at.state w.goes.off goes.mine w.well;
          groups = same_held at w;
        }

  up_now : is_stopped x.book m.id ≡ false → is_stopped y.book m.id ≡ false
  up_now up = same_stop m.id cares some few mine x y known ∙ up

  stands_on : (at : Stands) → WaitsAt plants copies p m number at → WaitsAt plants copies q m number at
  stands_on line.Opens w = tt
  stands_on (line.Sits at) w = sits_on (up_now w.goes.up) at w
  stands_on (line.Acts at) w = acts_next (up_now w.goes.up) at w
  stands_on line.Closed w = tt

  -- it waits there still
  pub waits_next : Waits y m number what s
  waits_next = waits_on m cares mine x y known number what s was (stands_on s)
