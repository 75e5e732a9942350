-- The job that is offered on a line.
use Rattle.std.proofs.Common.{◌≡◌, ◌∙◌, ℕ, Bool, false, true, if◌then◌else◌, Option, None, Some, ap, refl}
use Rattle.std.specs.Prelude.{nat_lt, option_map}
use Rattle.mas_types.specs.declared.commands.Reply.{Reply}
use Rattle.mas_types.specs.declared.commands.Reply.TheVariants as reply
use Rattle.mas_types.specs.declared.ids.JobNo.{JobNo}
use Rattle.mas_types.specs.declared.jobs.Job.{Job}
use Rattle.mas_types.specs.declared.queues.Queue.{Queue}
use Rattle.mas_types.specs.Commands.Wire.{sent_on}
use Rattle.mas_types.specs.Queue.{job_at}
use Rattle.nje_frames.specs.Grammar.{number_greatest}
use Rattle.step_turns.specs.Serving.{offer_at, offer_of, offered}
use Rattle.step_turns.specs.declared.states.Offer.{Offer}

module _ (Q : Queue) (l : ℕ) (n : JobNo) where
  abbrev there_is : Option Offer
  there_is = option_map (offer_of (sent_on Q l) n) (job_at Q n)

  pub none_offered : nat_lt (sent_on Q l) number_greatest ≡ false → offer_at Q l n ≡ None
  none_offered most = ap (λ (b : Bool). if b then there_is else None) most

  pub offered_as : (j : Job) → nat_lt (sent_on Q l) number_greatest ≡ true → job_at Q n ≡ Some j → offer_at Q l n ≡ Some (offer_of (sent_on Q l) n j)
  offered_as j few there = ap (λ (b : Bool). if b then there_is else None) few ∙ ap (λ (o : Option Job). option_map (offer_of (sent_on Q l) n) o) there

-- no job was answered
pub other_offered : (Q : Queue) (l : ℕ) (r : Reply) → ((n : JobNo) → r ≡ reply.Job n → ⊥) → offered Q l r ≡ None
other_offered Q l (reply.Job n) other = absurd (other n refl)
other_offered Q l reply.Plain other = refl
other_offered Q l (reply.Output n i) other = refl
other_offered Q l (reply.Count n) other = refl
other_offered Q l (reply.Shown lines) other = refl
other_offered Q l (reply.No why) other = refl
