-- What entries in brief count for is what the entries count for.
use Rattle.std.proofs.Common.{◌≡◌, ◌∙◌, ap, refl, ℕ, if◌then◌else◌, List, [], ◌∷◌, ◌++◌, Option, None, map}
use Rattle.mas_types.specs.declared.commands.Command.{Command}
use Rattle.mas_types.specs.declared.commands.Command.TheVariants as command
use Rattle.mas_types.specs.declared.commands.Reply.{Reply}
use Rattle.mas_types.specs.declared.commands.Reply.TheVariants as reply
use Rattle.mas_types.specs.declared.journals.Entry.{Entry}
use Rattle.std.specs.List.{cons_option}
use Rattle.brief_journal.specs.Brief.{brief_command, brief_of, brief_reply, command_of, entry_of, reply_of}
use Rattle.gen_work.specs.declared.summaries.Counted.{Counted}
use Rattle.gen_work.specs.Summaries.{count_in, counted_as, counted_in, counted_of, is_refusal}

command_counts : (c : Command) (n : ℕ) → counted_as (command_of (brief_command c)) n ≡ counted_as c n
command_counts (command.Begin fields) n = refl
command_counts (command.Take want) n = refl
command_counts (command.Drop job) n = refl
command_counts (command.Enter job text) n = refl
command_counts command.TakeConvert n = refl
command_counts (command.Converted job) n = refl
command_counts command.TakeExec n = refl
command_counts (command.Ended job outputs) n = refl
command_counts command.Gather n = refl
command_counts command.Pick n = refl
command_counts (command.Mark job index mark) n = refl
command_counts (command.Done job index) n = refl
command_counts command.Purge n = refl
command_counts (command.Hold job) n = refl
command_counts (command.Release job) n = refl
command_counts (command.Cancel job) n = refl
command_counts (command.SetPrio job prio) n = refl
command_counts (command.SetClass job class) n = refl
command_counts (command.Out job) n = refl
command_counts (command.CancelOut job index) n = refl
command_counts (command.SetOut job index class) n = refl
command_counts (command.Show what) n = refl
command_counts (command.SetInit classes) n = refl
command_counts (command.SetPrt classes forms lines) n = refl
command_counts (command.Back lines) n = refl
command_counts (command.Forward lines) n = refl
command_counts (command.Reset member) n = refl
command_counts command.Restart n = refl
command_counts (command.Load line) n = refl
command_counts (command.Sent line number) n = refl
command_counts (command.Got line number job text) n = refl

entry_counts : (c : Command) (r : Reply)
    → (if is_refusal (reply_of (brief_reply r)) then None else counted_as (command_of (brief_command c)) (count_in (reply_of (brief_reply r))))
    ≡ (if is_refusal r then None else counted_as c (count_in r))
entry_counts c reply.Plain = command_counts c 0
entry_counts c (reply.Job job) = command_counts c 0
entry_counts c (reply.Output job index) = command_counts c 0
entry_counts c (reply.Count count) = command_counts c count
entry_counts c (reply.Shown lines) = command_counts c 0
entry_counts c (reply.No why) = refl

counts : (e : Entry) → counted_of (entry_of (brief_of e)) ≡ counted_of e
counts e = entry_counts e.command e.reply

-- the entries in brief of a batch count for what its entries count for
pub all_count : (es : List Entry) → counted_in (map entry_of (map brief_of es)) ≡ counted_in es
all_count [] = refl
all_count (e ∷ es) =
    ap (λ (o : Option Counted). cons_option o (counted_in (map entry_of (map brief_of es)))) (counts e)
    ∙ ap (λ (l : List Counted). cons_option (counted_of e) l) (all_count es)
