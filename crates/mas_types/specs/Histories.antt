-- The lines of a history: one for each entry that was kept, in order, and the number of them.
use Rattle.std.specs.Prelude.{ℕ, ◌+◌, List, [], ◌∷◌, ◌++◌, length, decimal, codes}
use Rattle.mas_types.specs.declared.commands.Command.{Command}
use Rattle.mas_types.specs.declared.commands.Command.TheVariants as command
use Rattle.mas_types.specs.declared.commands.Reply.{Reply}
use Rattle.mas_types.specs.declared.commands.Reply.TheVariants as reply
use Rattle.mas_types.specs.declared.journals.Entry.{Entry}
use Rattle.mas_types.specs.declared.journals.Journal.{Journal}
use Rattle.mas_types.specs.Closings.{refusal_text}
use Rattle.mas_types.specs.Journal.{kept_list}
use Rattle.mas_types.specs.Numerals.{in_digits, key_of}
use Rattle.mas_types.specs.Shown.{words, member_word, output_key}

abbrev pub command_word : Command → List ℕ
command_word (command.Begin fields) = codes "BEGIN"
command_word (command.Take want) = codes "TAKE"
command_word (command.Drop job) = codes "DROP"
command_word (command.Enter job text) = codes "ENTER"
command_word command.TakeConvert = codes "TAKECONVERT"
command_word (command.Converted job) = codes "CONVERTED"
command_word command.TakeExec = codes "TAKEEXEC"
command_word (command.Ended job specs) = codes "ENDED"
command_word command.Gather = codes "GATHER"
command_word command.Pick = codes "PICK"
command_word (command.Mark job index at) = codes "MARK"
command_word (command.Done job index) = codes "DONE"
command_word command.Purge = codes "PURGE"
command_word (command.Hold job) = codes "HOLD"
command_word (command.Release job) = codes "RELEASE"
command_word (command.Cancel job) = codes "CANCEL"
command_word (command.SetPrio job prio) = codes "SETPRIO"
command_word (command.SetClass job class) = codes "SETCLASS"
command_word (command.Out job) = codes "OUT"
command_word (command.CancelOut job index) = codes "CANCELOUT"
command_word (command.SetOut job index class) = codes "SETOUT"
command_word (command.Show what) = codes "SHOW"
command_word (command.SetInit classes) = codes "SETINIT"
command_word (command.SetPrt classes forms lines) = codes "SETPRT"
command_word (command.Back lines) = codes "BACK"
command_word (command.Forward lines) = codes "FORWARD"
command_word (command.Reset of_member) = codes "RESET"
command_word command.Restart = codes "RESTART"
command_word (command.Load line) = codes "LOAD"
command_word (command.Sent line number) = codes "SENT"
command_word (command.Got line number job text) = codes "GOT"

-- the job or output that a reply names, its count, NO and the refusal, of a display the number of its lines, else OK
abbrev pub outcome_text : Reply → List ℕ
outcome_text reply.Plain = codes "OK"
outcome_text (reply.Job job) = key_of job.0
outcome_text (reply.Output job index) = output_key job index
outcome_text (reply.Count n) = decimal n
outcome_text (reply.Shown lines) = decimal (length lines)
outcome_text (reply.No why) = words (codes "NO" ∷ refusal_text why ∷ [])

-- the line of the entry at a place
abbrev pub history_line : ℕ → Entry → List ℕ
history_line place e = words (
    codes "H" ∷ decimal place ∷ member_word e.by ∷ in_digits 5 e.step ∷ command_word e.command ∷ outcome_text e.reply ∷ [])

-- the lines of entries, of which the first stands at a place
abbrev pub history_lines : ℕ → List Entry → List (List ℕ)
history_lines place [] = []
history_lines place (e ∷ entries) = history_line place e ∷ history_lines (place + 1) entries

abbrev pub history_end : ℕ → List ℕ
history_end total = words (codes "H END" ∷ decimal total ∷ [])

-- the lines of a journal's history: of the entries that were kept, from 1 on, and of the end
abbrev pub history : Journal → List (List ℕ)
history J = history_lines 1 (kept_list J) ++ history_end (length (kept_list J)) ∷ []
