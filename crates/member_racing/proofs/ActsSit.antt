-- After the acts for which a step waits, its member may sit with what it found.
use Rattle.std.proofs.Common.{◌≡◌, ◌∙◌, ℕ, false, true, List, [], take, Option, Some, Result, Ok, ap, refl, sym, subst}
use Rattle.mas_types.specs.declared.commands.Command.TheVariants as command
use Rattle.mas_types.specs.declared.ids.GroupNo.{GroupNo}
use Rattle.mas_types.specs.declared.jobs.Text.TheVariants.{Whole}
use Rattle.mas_types.specs.declared.queues.Queue.{Queue}
use Rattle.mas_types.specs.Commands.Life.{groups_of_outputs}
use Rattle.mas_types.specs.Ids.{is_somebody}
use Rattle.mas_types.specs.Owners.{groups_needed}
use Rattle.lock_cycle.specs.Books.{is_stopped}
use Rattle.spool_plant.specs.View.{View}
use Rattle.spool_plant.specs.declared.plant.Plant.{Ghosts as PlantGhosts}
use Rattle.spool_volumes.specs.Volumes.{AreRoomy}
use Rattle.ckpt_copy.specs.declared.copying.Copying.{Ghosts as CopyGhosts}
use Rattle.mas_complex.specs.Paper.{counts_of}
use Rattle.mas_complex.specs.Parts.{Parts}
use Rattle.mas_complex.specs.Texts.{IsThere, Spools, spools_at}
use Rattle.paper_laws.specs.Counts.{IsMarkRight}
use Rattle.race_turns.specs.Turns.{racer}
use Rattle.track_groups.specs.Groups.{held_by}
use Rattle.step_turns.specs.Laws.{on_line}
use Rattle.step_turns.specs.declared.states.Found.{Found}
use Rattle.step_turns.specs.States.{nothing_found}
use Rattle.step_turns.specs.declared.states.State.{State}
use Rattle.step_turns.specs.declared.states.State.TheVariants.{Away, Fresh, Rested, Told}
use Rattle.step_turns.specs.declared.states.Aside.TheVariants.{Acknowledge, Exchange, PrintLines, ReadText, SpoolArrival, SpoolDeck, SpoolOutputs}
use Rattle.member_asides.specs.Asides.{printed_in}
use Rattle.member_resets.proofs.Acting.{changed_only}
use Rattle.member_resets.specs.Asides.{ActsAfter}
use Rattle.member_resets.specs.Sits.{WaitsWell}
use Rattle.member_resets.specs.Stand.{Stand}
use Rattle.member_resets.proofs.Sat.{lines_resume}
use Rattle.member_node.specs.declared.member.Member.{Member}
use Rattle.member_node.specs.declared.member.NodeNo.{NodeNo}
use Rattle.member_sittings.specs.Whole.{queue_of}
use Rattle.member_work.specs.Spooled.{AreSpooled}
use Rattle.member_racing.specs.Waits.{IsMine, IsStillRight, MayActNext, MaySitNext, is_begun}

module _ {P C : Type 0} (plants : PlantGhosts P) (copies : CopyGhosts C) (x y : Parts P C) (m : Member) (number : ℕ) (somebody : is_somebody m.id ≡ true) (roomy : plants.tells → AreRoomy (plants.view x.plant) x.base.config) where
  abbrev v : Parts P C → View
  v q = plants.view q.plant

  abbrev disks : Spools
  disks = spools_at (v y) (v y).now

  -- a text stands in the groups that the queue gives the member
  in_groups : (same : held_by m.id (queue_of x).owners ≡ held_by m.id m.checkpoint.tables.owners) (per : ℕ) (text : List (List ℕ)) → per ≡ x.base.config.groups → IsThere disks x.base.config.groups (Whole text) (take (groups_needed text) (held_by m.id m.checkpoint.tables.owners))
      → IsThere disks per (Whole text) (take (groups_needed text) (held_by m.id (queue_of x).owners))
  in_groups same per text is there =
      subst (λ (gs : List GroupNo). IsThere disks per (Whole text) (take (groups_needed text) gs)) (sym same)
      (subst (λ (k : ℕ). IsThere disks k (Whole text) (take (groups_needed text) (held_by m.id m.checkpoint.tables.owners))) (sym is) there)

  right_then : (frame : y ≡ printed_in y x) (is : Option (List ℕ)) (s : State) (found : Found) → on_line s ≡ false → is_begun s ≡ true → (plants.tells → IsMine (queue_of x) m.id s) → WaitsWell plants.tells (queue_of x) m s
      → (plants.tells → held_by m.id (queue_of x).owners ≡ held_by m.id m.checkpoint.tables.owners) → ActsAfter plants x y m s (Some []) is (Ok found) → IsStillRight plants copies y m.id s found
  right_then frame is (Away (SpoolDeck n text)) found off begun mine w same a = (
    w.lines,
    a.1.finds.only,
    λ none t.
        subst (λ (Q : Queue). IsThere disks y.base.config.groups (Whole text) (take (groups_needed text) (held_by m.id Q.owners))) (ap (λ (q : Parts P C). queue_of q) (sym frame))
        (in_groups (same t) y.base.config.groups text (ap (λ (q : Parts P C). q.base.config.groups) frame) (a.1.finds.there none t (roomy t))),
  )
  right_then frame is (Away (ReadText runs n fields p)) found off begun mine w same a =
      (w.0, a.1.finds.fits, λ t. subst (λ (Q : Queue). IsMine Q m.id (Away (ReadText runs n fields p))) (ap (λ (q : Parts P C). queue_of q) (sym frame)) (mine t))
  right_then frame is (Away (SpoolOutputs n specs p)) found off begun mine w same a = (
    w.outputs,
    λ none t.
        subst (λ (Q : Queue). AreSpooled disks y.base.config.groups specs (take (groups_of_outputs specs) (held_by m.id Q.owners))) (ap (λ (q : Parts P C). queue_of q) (sym frame))
        (subst (λ (gs : List GroupNo). AreSpooled disks y.base.config.groups specs (take (groups_of_outputs specs) gs)) (sym (same t))
        (subst (λ (k : ℕ). AreSpooled disks k specs (take (groups_of_outputs specs) (held_by m.id m.checkpoint.tables.owners))) (sym (ap (λ (q : Parts P C). q.base.config.groups) frame))
        (a.1.finds.there none t (roomy t)))),
  )
  right_then frame is (Away (PrintLines n i last p)) found off begun mine w same a = (
    w.index,
    λ none t.
        subst (λ (Q : Queue). IsMarkRight Q m.id (counts_of y.printed m.id) (command.Mark n i last)) (ap (λ (q : Parts P C). queue_of q) (sym frame))
        (lines_resume (queue_of x) m.id n i last (counts_of y.printed m.id) somebody (λ o here. a.1.finds.counted none t o here)),
  )
  right_then frame is (Away (Exchange l offer)) found off begun mine w same a = absurd (cc)
  right_then frame is (Away (SpoolArrival number job cards service)) found off begun mine w same a = absurd (cc)
  right_then frame is (Away (Acknowledge number service)) found off begun mine w same a = absurd (cc)
  right_then frame is (Fresh task) found off begun mine w same a = absurd (cc)
  right_then frame is (Rested p) found off begun mine w same a = ok_is (Ok found) refl a.1 where
    ok_is : (r : Result Found NodeNo) → r ≡ Ok found → r ≡ Ok nothing_found → found ≡ nothing_found
    ok_is r one two = let same : Ok found ≡ Ok nothing_found = sym one ∙ two in cc
  right_then frame is Told found off begun mine w same a = absurd (cc)

  -- it waits for a sitting
  pub acts_sit : (s : Stand) (is : Option (List ℕ)) (found : Found) → MayActNext plants copies x m number s → ActsAfter plants x y m s.state (Some []) is (Ok found) → MaySitNext plants copies y m number (record s { found = found })
  acts_sit s is found w a =
      let frame : y ≡ printed_in y x = changed_only plants copies x y m s.state (Some []) is (Ok found) a in
      record {
        goes = record {
          up = ap (λ (q : Parts P C). is_stopped q.book m.id) frame ∙ w.goes.up;
          off = w.goes.off;
          begun = w.goes.begun;
          holder = w.goes.holder ∙ ap (λ (q : Parts P C). racer q.base.config m.id number) (sym frame);
          few = w.goes.few;
          mine = λ t. subst (λ (Q : Queue). IsMine Q m.id s.state) (ap (λ (q : Parts P C). queue_of q) (sym frame)) (w.goes.mine t);
        };
        right = right_then frame is s.state found w.goes.off w.goes.begun w.goes.mine w.well w.groups a;
      }
