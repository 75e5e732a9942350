-- What holds of every command: the laws that histories rest on.
use Rattle.std.specs.Prelude.{◌≡◌, Bool, true, false, List, Some, find}
use Rattle.mas_types.specs.declared.ids.MemberId.{MemberId}
use Rattle.mas_types.specs.declared.ids.JobNo.{JobNo}
use Rattle.mas_types.specs.declared.ids.OutNo.{OutNo}
use Rattle.mas_types.specs.declared.jobs.Job.{Job}
use Rattle.mas_types.specs.declared.jobs.Output.{Output}
use Rattle.mas_types.specs.declared.queues.Queue.{Queue}
use Rattle.mas_types.specs.declared.commands.Command.{Command}
use Rattle.mas_types.specs.declared.commands.Command.TheVariants as command
use Rattle.mas_types.specs.declared.commands.Reply.{Reply}
use Rattle.mas_types.specs.declared.commands.Reply.TheVariants as reply
use Rattle.mas_types.specs.Ids.{is_somebody, same_member}
use Rattle.mas_types.specs.Queue.{has_number, has_key}
use Rattle.mas_types.specs.Closings.{IsReplyNamed}
use Rattle.mas_types.specs.Fit.{IsFit}
use Rattle.mas_types.specs.Sound.{IsSound}
use Rattle.mas_types.specs.Step.{step, may_give}

-- the reply says that the command was refused
abbrev pub is_refusal : Reply → Bool
is_refusal (reply.No why) = true
is_refusal _ = false

-- a refused command changes nothing
abbrev pub RefusedChangesNothing : Type 0
RefusedChangesNothing = (Q : Queue) (m : MemberId) (c : Command) → is_refusal (step Q m c).1 ≡ true → (step Q m c).0 ≡ Q

-- the configuration and the routes stay
pub record IsConfigurationKept (old new : Queue) : Type 0 where
  pub config : new.config ≡ old.config
  pub routes : new.routes ≡ old.routes

-- every command keeps the configuration and the routes
abbrev pub KeepsConfiguration : Type 0
KeepsConfiguration = (Q : Queue) (m : MemberId) (c : Command) → IsConfigurationKept Q (step Q m c).0

-- a command within its limits, by one who may give it, keeps the sound parts
abbrev pub KeepsSound : Type 0
KeepsSound = (Q : Queue) (m : MemberId) (c : Command) → IsSound Q → IsFit c → may_give Q m c ≡ true
    → IsSound (step Q m c).0

-- a reply names nobody but the operator and members that there may be
abbrev pub NamesMembers : Type 0
NamesMembers = (Q : Queue) (m : MemberId) (c : Command) → IsSound Q → may_give Q m c ≡ true
    → IsReplyNamed (step Q m c).1

-- WHAT STAYS BUSY

-- the job is still busy at the member, in its phase and with its text
pub record IsJobKept (h : MemberId) (old new : Job) : Type 0 where
  pub busy : new.busy ≡ h
  pub phase : new.phase ≡ old.phase
  pub text : new.text ≡ old.text

-- the output is still busy at the member, with its mark and its lines
pub record IsOutputKept (h : MemberId) (old new : Output) : Type 0 where
  pub busy : new.busy ≡ h
  pub mark : new.mark ≡ old.mark
  pub text : new.text ≡ old.text
  pub copies : new.copies ≡ old.copies

-- each job that is busy at the member is kept
abbrev pub AreJobsKept : MemberId → List Job → List Job → Type 0
AreJobsKept h old new =
    (n : JobNo) (j : Job) → find (has_number n) old ≡ Some j → j.busy ≡ h → (j' : Job)
    × (find (has_number n) new ≡ Some j') × IsJobKept h j j'

-- each output that is busy at the member is kept
abbrev pub AreOutputsKept : MemberId → List Output → List Output → Type 0
AreOutputsKept h old new =
    (n : JobNo) (i : OutNo) (o : Output) → find (has_key n i) old ≡ Some o → o.busy ≡ h → (o' : Output)
    × (find (has_key n i) new ≡ Some o') × IsOutputKept h o o'

pub record IsBusyKept (h : MemberId) (old new : Queue) : Type 0 where
  pub jobs : AreJobsKept h old.jobs new.jobs
  pub outputs : AreOutputsKept h old.outputs new.outputs

-- the command resets the member
abbrev pub resets : MemberId → Command → Bool
resets h (command.Reset of_member) = same_member h of_member
resets h command.Restart = true
resets h _ = false

-- what is busy at a member stays so under the commands of others that don't reset it
abbrev pub KeepsBusy : Type 0
KeepsBusy = (Q : Queue) (m h : MemberId) (c : Command) → IsSound Q → is_somebody h ≡ true → same_member h m ≡ false
    → resets h c ≡ false → IsBusyKept h Q (step Q m c).0
