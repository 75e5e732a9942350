-- A refused command changes nothing.
use Rattle.std.proofs.Common.{◌≡◌, true, false, Option, Some, None, refl}
use Rattle.mas_types.specs.declared.ids.MemberId.{MemberId}
use Rattle.mas_types.specs.declared.queues.Queue.{Queue}
use Rattle.mas_types.specs.declared.commands.Command.{Command}
use Rattle.mas_types.specs.declared.commands.Command.TheVariants as command
use Rattle.mas_types.specs.declared.commands.Refusal.{Refusal}
use Rattle.mas_types.specs.declared.commands.Reply.{Reply}
use Rattle.mas_types.specs.Lists.{first_some}
use Rattle.mas_types.specs.Row.{settled}
use Rattle.mas_types.specs.Step.{row_of}
use Rattle.queue_laws.specs.Laws.{is_refusal, RefusedChangesNothing}

-- no row answers with a refusal
pub answers : (Q : Queue) (m : MemberId) (c : Command) → is_refusal (row_of Q m c).answer ≡ false
answers Q m (command.Begin fields) = refl
answers Q m (command.Take want) = refl
answers Q m (command.Drop job) = refl
answers Q m (command.Enter job text) = refl
answers Q m command.TakeConvert = refl
answers Q m (command.Converted job) = refl
answers Q m command.TakeExec = refl
answers Q m (command.Ended job specs) = refl
answers Q m command.Gather = refl
answers Q m command.Pick = refl
answers Q m (command.Mark job index at) = refl
answers Q m (command.Done job index) = refl
answers Q m command.Purge = refl
answers Q m (command.Hold job) = refl
answers Q m (command.Release job) = refl
answers Q m (command.Cancel job) = refl
answers Q m (command.SetPrio job prio) = refl
answers Q m (command.SetClass job class) = refl
answers Q m (command.Out job) = refl
answers Q m (command.CancelOut job index) = refl
answers Q m (command.SetOut job index class) = refl
answers Q m (command.Show what) = refl
answers Q m (command.SetInit classes) = refl
answers Q m (command.SetPrt classes forms lines) = refl
answers Q m (command.Back lines) = refl
answers Q m (command.Forward lines) = refl
answers Q m (command.Reset of_member) = refl
answers Q m command.Restart = refl
answers Q m (command.Load line) = refl
answers Q m (command.Sent line number) = refl
answers Q m (command.Got line number job text) = refl

-- a refusal leaves the queue
settled_refused : (Q effect : Queue) (answer : Reply) (o : Option Refusal) → is_refusal answer ≡ false → is_refusal (settled Q effect answer o).1 ≡ true → (settled Q effect answer o).0 ≡ Q
settled_refused Q effect answer None none h = absurd (cc)
settled_refused Q effect answer (Some w) none h = refl

pub refused_changes_nothing : RefusedChangesNothing
refused_changes_nothing Q m c h =
    settled_refused Q (row_of Q m c).effect (row_of Q m c).answer (first_some (row_of Q m c).refusals) (answers Q m c) h
