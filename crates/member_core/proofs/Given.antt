-- The entries of a world are given by those that may give them, and what a member's next command asks for.
use Rattle.std.proofs.Common.{◌≡◌, suc, ◌<◌, ◌≤◌, true, nat_le, ◌++◌, length, Some, sym, subst, arith}
use Rattle.std.proofs.lemmas.Bool.{le-leb}
use Rattle.mas_types.specs.declared.ids.MemberId.{MemberId}
use Rattle.mas_types.specs.declared.commands.Command.{Command}
use Rattle.mas_types.specs.declared.commands.Command.TheVariants as command
use Rattle.mas_types.specs.declared.jobs.Output.{Output}
use Rattle.mas_types.specs.declared.queues.Queue.{Queue}
use Rattle.mas_types.specs.Ids.{is_somebody}
use Rattle.mas_types.specs.Limits.{text_lines_most}
use Rattle.mas_types.specs.Queue.{line_count, printing_at, prints_at}
use Rattle.mas_types.specs.Run.{run}
use Rattle.mas_types.specs.Sound.{IsSound}
use Rattle.mas_types.specs.Step.{may_give}
use Rattle.queue_laws.specs.Runs.{IsGiven}
use Rattle.queue_laws.proofs.RunLaws.{give_alike, runs_keep_configuration}
use Rattle.member_core.specs.declared.worlds.At.TheVariants as at
use Rattle.member_core.specs.declared.worlds.World.{World}
use Rattle.member_core.specs.Worlds.{is_ready, is_logged1, acts, first_copy, second_copy, flying, is_up, kept, member_at}
use Rattle.member_core.specs.Events.{allowed}
use Rattle.member_core.specs.Holds.{AreGiven, Holds, IsReady, IsLogged1}
use Rattle.model_queue.proofs.Rows.{few_lines}
use Rattle.member_core.proofs.Basics.{test_cases, acting_inside, all_append, and_both, and_left, ready_is, logged1_is}
use Rattle.member_core.proofs.Locks.{up_acts}

module _ (w : World) (h : Holds w) where
  pub given_kept : AreGiven w.base (kept w)
  given_kept = h.all.given.0

  pub given_both : AreGiven w.base (kept w ++ flying w)
  given_both = all_append (IsGiven w.base) (kept w) (flying w) h.all.given.0 h.all.given.1

  module _ (m : MemberId) (act : acts w m ≡ true) where
    -- a member that is ready has the kept entries and its batch
    pub given_ready : is_ready (member_at w m).stage ≡ true → AreGiven w.base (member_at w m).own
    given_ready now =
        let x = member_at w m in
        let stage : x.stage ≡ at.Ready = ready_is x.stage now in
        let ready : IsReady w.base m (kept w) (flying w) (first_copy w.copies) (second_copy w.copies) x = (rw stage at (h.all.stages m act)) in
        subst (λ es. AreGiven w.base es) (sym ready.own) (all_append (IsGiven w.base) (kept w) x.batch h.all.given.0 ready.given)

    -- one that has logged its batch on the first copy has the kept entries and those in flight
    pub given_logged1 : is_logged1 (member_at w m).stage ≡ true → AreGiven w.base (member_at w m).own
    given_logged1 now =
        let x = member_at w m in
        let stage : x.stage ≡ at.Logged1 = logged1_is x.stage now in
        let logged : IsLogged1 (kept w) (flying w) (first_copy w.copies) (second_copy w.copies) x = (rw stage at (h.all.stages m act)) in
        subst (λ es. AreGiven w.base es) (sym logged.own) given_both

  give_allowed : (m : MemberId) (c : Command) → is_somebody m ≡ true → nat_le m.0 w.base.config.members ≡ true → allowed w m c ≡ true → may_give w.base m c ≡ true
  give_allowed m command.Restart some few may = absurd (cc)
  give_allowed m _ some few may = and_both (is_somebody m) (nat_le m.0 w.base.config.members) some few

  -- a member that is up may give a command that is allowed
  pub may_do : (m : MemberId) (c : Command) → is_up w m ≡ true → allowed w m c ≡ true → may_give (run w.base (member_at w m).own) m c ≡ true
  may_do m c up may =
      let some : is_somebody m ≡ true = and_left (is_somebody m) (member_at w m).up up in
      let inside : m.0 < length w.members = acting_inside w.members m w.base.config.members h.all.fit (up_acts w.members m up) in
      let fit : length w.members ≡ suc w.base.config.members = h.all.fit in
      let few : nat_le m.0 w.base.config.members ≡ true = le-leb m.0 w.base.config.members (omega arith) in
      give_alike w.base (run w.base (member_at w m).own) m c (runs_keep_configuration w.base (member_at w m).own).config (give_allowed m c some few may)

-- the text of an output that a member prints has few lines
pub few_printed : (Q : Queue) → IsSound Q → (m : MemberId) (o : Output) → printing_at Q m ≡ Some o → line_count o.text ≤ text_lines_most
few_printed Q sound m o found =
    test_cases (is_somebody m) (line_count o.text ≤ text_lines_most)
    (λ e. few_lines Q sound (prints_at m) o (rw e at found))
    (λ e. absurd (let w = rw e at found in cc))
