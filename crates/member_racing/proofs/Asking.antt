-- A command that may begin a step of a member, and isn't played as a line that resets, resets nobody. So of such a step
-- no entry resets a member that isn't stopped.
use Rattle.std.proofs.Common.{◌≡◌, ◌∙◌, ◌≤◌, false, true, All, None, List, ap, refl, subst, sym, arith}
use Rattle.mas_types.specs.declared.commands.Command.{Command}
use Rattle.mas_types.specs.declared.commands.Command.TheVariants as command
use Rattle.mas_types.specs.declared.ids.MemberId.{MemberId}
use Rattle.mas_types.specs.declared.journals.Entry.{Entry}
use Rattle.mas_types.specs.declared.queues.Queue.{Queue}
use Rattle.lock_cycle.specs.Books.{Book}
use Rattle.gate_turns.specs.Actors.{ResetsStopped}
use Rattle.run_turns.specs.Admissions.{resets}
use Rattle.step_turns.specs.Laws.{on_line}
use Rattle.step_turns.specs.Sittings.{sit}
use Rattle.step_turns.specs.declared.states.Found.{Found}
use Rattle.step_turns.specs.declared.states.Holder.{Holder}
use Rattle.step_turns.specs.declared.states.State.{State}
use Rattle.step_turns.specs.declared.states.State.TheVariants.{Fresh}
use Rattle.step_turns.specs.declared.states.Task.{Task}
use Rattle.step_turns.specs.declared.states.Task.TheVariants.{Give}
use Rattle.member_sittings.specs.Whole.{IsGivable}
use Rattle.member_resets.specs.Sits.{MayBeAsked}
use Rattle.member_racing.specs.Asked.{resets_of}
use Rattle.member_racing.specs.Waits.{is_begun}
use Rattle.member_racing.proofs.NoResets.{IsNoReset, only_stopped, sits_no_resets}

pub no_reset_given : (base : Queue) (by : MemberId) (c : Command) → 1 ≤ by.0 → IsGivable base by c → resets c ≡ None → IsNoReset c
no_reset_given base by (command.Begin fields) some may none = λ m. refl
no_reset_given base by (command.Take want) some may none = λ m. refl
no_reset_given base by (command.Drop job) some may none = λ m. refl
no_reset_given base by (command.Enter job text) some may none = λ m. refl
no_reset_given base by command.TakeConvert some may none = λ m. refl
no_reset_given base by (command.Converted job) some may none = λ m. refl
no_reset_given base by command.TakeExec some may none = λ m. refl
no_reset_given base by (command.Ended job specs) some may none = λ m. refl
no_reset_given base by command.Gather some may none = λ m. refl
no_reset_given base by command.Pick some may none = λ m. refl
no_reset_given base by (command.Mark job index at) some may none = λ m. refl
no_reset_given base by (command.Done job index) some may none = λ m. refl
no_reset_given base by command.Purge some may none = λ m. refl
no_reset_given base by (command.Hold job) some may none = λ m. refl
no_reset_given base by (command.Release job) some may none = λ m. refl
no_reset_given base by (command.Cancel job) some may none = λ m. refl
no_reset_given base by (command.SetPrio job prio) some may none = λ m. refl
no_reset_given base by (command.SetClass job class) some may none = λ m. refl
no_reset_given base by (command.Out job) some may none = λ m. refl
no_reset_given base by (command.CancelOut job index) some may none = λ m. refl
no_reset_given base by (command.SetOut job index class) some may none = λ m. refl
no_reset_given base by (command.Show what) some may none = λ m. refl
no_reset_given base by (command.SetInit classes) some may none = λ m. refl
no_reset_given base by (command.SetPrt classes forms lines) some may none = λ m. refl
no_reset_given base by (command.Back lines) some may none = λ m. refl
no_reset_given base by (command.Forward lines) some may none = λ m. refl
no_reset_given base by (command.Reset of_member) some may none = absurd (cc)
no_reset_given base by command.Restart some may none = absurd (let zero = may.giver in omega (arith, some, zero))
no_reset_given base by (command.Load line) some may none = λ m. refl
no_reset_given base by (command.Sent line number) some may none = λ m. refl
no_reset_given base by (command.Got line number job text) some may none = λ m. refl

module _ (book : Book) (h : Holder) (found : Found) where
  abbrev pub SitsQuietly : State → Type 0
  SitsQuietly s = (Q : Queue) → All (λ (es : List Entry). All (λ (e : Entry). ResetsStopped book e.command) es) (sit Q h s found).batches

  quiet_sit : (s : State) → on_line s ≡ false → ((c : Command) → s ≡ Fresh (Give c) → IsNoReset c) → SitsQuietly s
  quiet_sit s off none Q = λ k d lt j e less. only_stopped book _ (sits_no_resets h Q s found off none k d lt j e less)

  fresh_begun : (s : State) (c : Command) → is_begun s ≡ true → s ≡ Fresh (Give c) → ⊥
  fresh_begun s c begun is = absurd (let bad : true ≡ false = sym begun ∙ ap is_begun is in cc)

  -- a step that goes on
  pub begun_quietly : (s : State) → on_line s ≡ false → is_begun s ≡ true → SitsQuietly s
  begun_quietly s off begun = quiet_sit s off (λ c is. absurd (fresh_begun s c begun is))

  -- and one that is played
  pub played_quietly : (base : Queue) (by : MemberId) (task : Task) → 1 ≤ by.0 → MayBeAsked base by task → on_line (Fresh task) ≡ false → resets_of task ≡ None → SitsQuietly (Fresh task)
  played_quietly base by task some may off none = quiet_sit (Fresh task) off (λ c is. by_task c task (let same : task ≡ Give c = cc in same) may none) where
    by_task : (c : Command) (t : Task) → t ≡ Give c → MayBeAsked base by t → resets_of t ≡ None → IsNoReset c
    by_task c t is its not = no_reset_given base by c some (subst (λ (u : Task). MayBeAsked base by u) is its) (ap resets_of (sym is) ∙ not)
