-- What the machine of steps gives in the first sitting of a line.
use Rattle.std.proofs.Common.{◌≡◌, ℕ, [], ◌∷◌, refl, arith}
use Rattle.mas_types.specs.declared.commands.Command.TheVariants as command
use Rattle.mas_types.specs.declared.queues.Queue.{Queue}
use Rattle.mas_types.specs.Run.{run}
use Rattle.step_turns.specs.Entries.{given_in, reply_to}
use Rattle.step_turns.specs.Serving.{line_begins, offered}
use Rattle.step_turns.specs.Sittings.{sit}
use Rattle.step_turns.specs.declared.states.Holder.{Holder}
use Rattle.step_turns.specs.declared.states.State.TheVariants.{Away, Fresh}
use Rattle.step_turns.specs.declared.states.Aside.TheVariants.{Exchange}
use Rattle.step_turns.specs.declared.states.Task.TheVariants.{Line}
use Rattle.step_turns.specs.States.{nothing_found}
use Rattle.member_sittings.specs.Ends.{ends_in}
use Rattle.member_sittings.proofs.TurnLemmas.{sit_one}

pub load_sits : (Q : Queue) (h : Holder) (l : ℕ)
    → let es = given_in Q h.by h.step (command.Load l ∷ []) in
    sit Q h (Fresh (Line l)) nothing_found ≡ ends_in h (es ∷ []) (Away (Exchange l (offered (run Q es) l (reply_to Q h.by (command.Load l))))) []
load_sits Q h l = sit_one h (line_begins h.by h.step Q l) (given_in Q h.by h.step (command.Load l ∷ [])) refl (omega arith)
