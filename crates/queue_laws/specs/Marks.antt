-- How a command may change an output: its mark, with whom it is busy, and whether it is there.
use Rattle.std.specs.Prelude.{◌≡◌, ◌⊎◌, ℕ, ◌≤◌, Bool, true, false, Option, Some, None}
use Rattle.mas_types.specs.declared.ids.MemberId.{MemberId}
use Rattle.mas_types.specs.declared.ids.JobNo.{JobNo}
use Rattle.mas_types.specs.declared.ids.OutNo.{OutNo}
use Rattle.mas_types.specs.declared.jobs.Output.{Output}
use Rattle.mas_types.specs.declared.queues.Queue.{Queue}
use Rattle.mas_types.specs.declared.commands.Command.{Command}
use Rattle.mas_types.specs.declared.commands.Command.TheVariants as command
use Rattle.mas_types.specs.declared.commands.Reply.TheVariants as reply
use Rattle.mas_types.specs.Ids.{same_member, is_somebody}
use Rattle.mas_types.specs.Queue.{has_key, is_of, output_at, total}
use Rattle.mas_types.specs.Sound.{IsSound}
use Rattle.mas_types.specs.Step.{step}
use Rattle.queue_laws.specs.Laws.{is_refusal}

-- the command marks this output: Mark leaves it at most at its number, Back doesn't raise it
abbrev pub MayMark : Command → Output → Output → Type 0
MayMark (command.Mark n i at) old new = (has_key n i old ≡ true) × (new.mark ≤ at)
MayMark (command.Back lines) old new = new.mark ≤ old.mark
MayMark (command.Forward lines) old new = Unit {0}
MayMark _ old new = ⊥

abbrev pub is_pick : Command → Bool
is_pick command.Pick = true
is_pick _ = false

-- the output is one of those that the command makes: Ended, of its job
abbrev pub MayMake : Command → Output → Type 0
MayMake (command.Ended n specs) new = is_of n new ≡ true
MayMake _ new = ⊥

-- the command takes this output away: Done where all its lines are printed, CancelOut, or Cancel of its job
abbrev pub MayTake : Command → Output → Type 0
MayTake (command.Done n i) old = (has_key n i old ≡ true) × (total old ≤ old.mark)
MayTake (command.CancelOut n i) old = has_key n i old ≡ true
MayTake (command.Cancel n) old = is_of n old ≡ true
MayTake _ old = ⊥

-- an output before and after a command of m: its lines stay; its mark stays, or the command marks it and m prints it;
-- it is busy as before, or with nobody, or m picked it
pub record OutputFollows (m : MemberId) (c : Command) (old new : Output) : Type 0 where
  pub text : new.text ≡ old.text
  pub copies : new.copies ≡ old.copies
  pub mark : (new.mark ≡ old.mark) ⊎ ((same_member old.busy m ≡ true) × MayMark c old new)
  pub busy : (new.busy ≡ old.busy) ⊎ ((is_somebody new.busy ≡ false) ⊎ ((is_pick c ≡ true) × (new.busy ≡ m)))

-- an output that comes: nothing of it is printed, and nobody is busy with it
pub record OutputComes (c : Command) (new : Output) : Type 0 where
  pub made : MayMake c new
  pub mark : new.mark ≡ 0
  pub busy : is_somebody new.busy ≡ false

-- an output before and after a command of m, where it may also come or go
abbrev pub FollowsAt : MemberId → Command → Option Output → Option Output → Type 0
FollowsAt m c None None = Unit {0}
FollowsAt m c None (Some new) = OutputComes c new
FollowsAt m c (Some old) None = MayTake c old
FollowsAt m c (Some old) (Some new) = OutputFollows m c old new

-- each output goes so, by every command
abbrev pub MarksFollow : Type 0
MarksFollow = (Q : Queue) (m : MemberId) (c : Command) → IsSound Q → (n : JobNo) (i : OutNo)
    → FollowsAt m c (output_at Q n i) (output_at (step Q m c).0 n i)

-- a Mark that isn't refused leaves the output with a mark of at most its number, and answers that mark
abbrev pub MarkIsAtMost : Type 0
MarkIsAtMost = (Q : Queue) (m : MemberId) (n : JobNo) (i : OutNo) (at : ℕ)
    → is_refusal (step Q m (command.Mark n i at)).1 ≡ false
    → (o : Output) × (output_at (step Q m (command.Mark n i at)).0 n i ≡ Some o) × (o.mark ≤ at)
    × ((step Q m (command.Mark n i at)).1 ≡ reply.Count o.mark)
