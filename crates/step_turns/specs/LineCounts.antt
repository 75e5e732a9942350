-- How many jobs left over a line in a step, and how many came: the commands Sent and Got that weren't refused.
use Rattle.std.specs.Prelude.{ℕ, Bool, true, false, not, ◌&&◌, List, count_by}
use Rattle.mas_types.specs.declared.commands.Command.{Command}
use Rattle.mas_types.specs.declared.commands.Command.TheVariants as command
use Rattle.mas_types.specs.declared.journals.Entry.{Entry}
use Rattle.queue_laws.specs.Laws.{is_refusal}
use Rattle.step_turns.specs.States.{Acknowledge, Away, SpoolArrival, State}

abbrev pub is_sent : Command → Bool
is_sent (command.Sent line number) = true
is_sent _ = false

abbrev pub is_got : Command → Bool
is_got (command.Got line number n text) = true
is_got _ = false

-- a job left, or came, by this entry
abbrev pub sends_job : Entry → Bool
sends_job e = is_sent e.command && not (is_refusal e.reply)

abbrev pub gets_job : Entry → Bool
gets_job e = is_got e.command && not (is_refusal e.reply)

abbrev pub sents_in : List Entry → ℕ
sents_in es = count_by sends_job es

abbrev pub gots_in : List Entry → ℕ
gots_in es = count_by gets_job es

-- as a state of the step counts them
abbrev pub sent_before : State → ℕ
sent_before (Away (SpoolArrival number n text s)) = s.sent
sent_before (Away (Acknowledge number s)) = s.sent
sent_before _ = 0

abbrev pub got_before : State → ℕ
got_before (Away (SpoolArrival number n text s)) = s.got
got_before (Away (Acknowledge number s)) = s.got
got_before _ = 0
