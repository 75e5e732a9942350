-- The entries of commands that a member gives in a step, and the reply with which a step closes.
use Rattle.std.specs.Prelude.{ℕ, Bool, true, false, not, List, [], ◌∷◌, ◌++◌, reverse, map, Option, Some, None}
use Rattle.std.specs.List.{find}
use Rattle.mas_types.specs.declared.ids.MemberId.{MemberId}
use Rattle.mas_types.specs.declared.commands.Command.{Command}
use Rattle.mas_types.specs.declared.commands.Command.TheVariants as command
use Rattle.mas_types.specs.declared.commands.Reply.{Reply}
use Rattle.mas_types.specs.declared.commands.Reply.TheVariants as reply
use Rattle.mas_types.specs.declared.journals.Entry.{Entry}
use Rattle.mas_types.specs.declared.queues.Queue.{Queue}
use Rattle.mas_types.specs.Step.{step}

-- the reply that a command has at a queue
abbrev pub reply_to : Queue → MemberId → Command → Reply
reply_to Q by c = (step Q by c).1

-- the entry of a command that a member gives in a step
abbrev pub entry_of : Queue → MemberId → ℕ → Command → Entry
entry_of Q by at c = record { by = by; step = at; command = c; reply = reply_to Q by c }

-- the entries of commands that a member gives one after another in a step, each with the reply that it has at its place
abbrev pub given_in : Queue → MemberId → ℕ → List Command → List Entry
given_in Q by at [] = []
given_in Q by at (c ∷ cs) = entry_of Q by at c ∷ given_in (step Q by c).0 by at cs

abbrev pub commands_in : List Entry → List Command
commands_in es = map (λ e. e.command) es

-- the entries of batches, one after another
abbrev pub all_entries : List (List Entry) → List Entry
all_entries [] = []
all_entries (es ∷ ess) = es ++ all_entries ess

-- A STEP CLOSES WITH THE REPLY TO ITS LAST COMMAND THAT ISN'T DROP

abbrev pub is_drop : Command → Bool
is_drop (command.Drop n) = true
is_drop _ = false

abbrev pub closes : Entry → Bool
closes e = not (is_drop e.command)

abbrev pub reply_in : Option Entry → Reply
reply_in None = reply.Plain
reply_in (Some e) = e.reply

abbrev pub closing_reply : List Entry → Reply
closing_reply es = reply_in (find closes (reverse es))
