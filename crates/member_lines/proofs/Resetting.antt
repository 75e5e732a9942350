-- The sitting of a reset.
use Rattle.std.proofs.Common.{◌≡◌, ◌≤◌, false, [], ◌∷◌, refl}
use Rattle.mas_types.specs.declared.commands.Command.TheVariants as command
use Rattle.mas_types.specs.declared.commands.Reply.{Reply}
use Rattle.mas_types.specs.declared.commands.Reply.TheVariants as reply
use Rattle.mas_types.specs.declared.ids.MemberId.{MemberId}
use Rattle.mas_types.specs.declared.queues.Queue.{Queue}
use Rattle.mas_types.specs.Closings.{AreMembersNamed, IsReplyNamed, closing_line}
use Rattle.mas_types.specs.Limits.{members_most}
use Rattle.member_steps.specs.Steps.{entry_of, reply_to}
use Rattle.step_turns.specs.declared.states.Holder.{Holder}
use Rattle.step_turns.specs.declared.states.State.TheVariants.{Told}
use Rattle.member_sittings.specs.Ends.{ends_in}
use Rattle.run_turns.specs.Pieces.{piece_of, reset_closing, reset_pieces}

-- the only piece of a reset has one batch, of one command, and closes with the name of the member that was reset
pub reset_sits : (Q : Queue) (h : Holder) (of : MemberId)
    → reset_pieces Q h of ≡ piece_of (ends_in h ((entry_of Q h.by h.step (command.Reset of) ∷ []) ∷ []) Told (closing_line h.by h.step (reset_closing of (reply_to Q h.by (command.Reset of))) ∷ [])) false [] ∷ []
reset_sits Q h of = refl

-- whom it names
pub closes_named : (of : MemberId) (r : Reply) → of.0 ≤ members_most → IsReplyNamed r → AreMembersNamed (reset_closing of r)
closes_named of reply.Plain le named = le
closes_named of (reply.Job job) le named = le
closes_named of (reply.Output job index) le named = le
closes_named of (reply.Count n) le named = le
closes_named of (reply.Shown lines) le named = le
closes_named of (reply.No why) le named = named
