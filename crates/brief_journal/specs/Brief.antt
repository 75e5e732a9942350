-- What memory keeps of an entry: all but its texts, its lists, the fields of its job and its number on a line.
use Rattle.std.specs.Prelude.{◌≡◌, false, List, [], length, map, replicate}
use Rattle.mas_types.specs.declared.commands.Command.{Command}
use Rattle.mas_types.specs.declared.commands.Command.TheVariants as command
use Rattle.mas_types.specs.declared.commands.Reply.{Reply}
use Rattle.mas_types.specs.declared.commands.Reply.TheVariants as reply
use Rattle.mas_types.specs.declared.commands.What.TheVariants.{Queue}
use Rattle.mas_types.specs.declared.ids.Name8.{Name8}
use Rattle.mas_types.specs.declared.jobs.JobFields.{JobFields}
use Rattle.mas_types.specs.declared.journals.Entry.{Entry}
use Rattle.brief_journal.specs.declared.entries.BriefCommand.{BriefCommand}
use Rattle.brief_journal.specs.declared.entries.BriefCommand.TheVariants as brief
use Rattle.brief_journal.specs.declared.entries.BriefReply.{BriefReply}
use Rattle.brief_journal.specs.declared.entries.BriefReply.TheVariants as answer
use Rattle.brief_journal.specs.declared.entries.BriefEntry.{BriefEntry}

abbrev pub brief_command : Command → BriefCommand
brief_command (command.Begin fields) = brief.Begin
brief_command (command.Take want) = brief.Take want
brief_command (command.Drop job) = brief.Drop job
brief_command (command.Enter job text) = brief.Enter job
brief_command command.TakeConvert = brief.TakeConvert
brief_command (command.Converted job) = brief.Converted job
brief_command command.TakeExec = brief.TakeExec
brief_command (command.Ended job outputs) = brief.Ended job
brief_command command.Gather = brief.Gather
brief_command command.Pick = brief.Pick
brief_command (command.Mark job index mark) = brief.Mark job index mark
brief_command (command.Done job index) = brief.Done job index
brief_command command.Purge = brief.Purge
brief_command (command.Hold job) = brief.Hold job
brief_command (command.Release job) = brief.Release job
brief_command (command.Cancel job) = brief.Cancel job
brief_command (command.SetPrio job prio) = brief.SetPrio job prio
brief_command (command.SetClass job class) = brief.SetClass job class
brief_command (command.Out job) = brief.Out job
brief_command (command.CancelOut job index) = brief.CancelOut job index
brief_command (command.SetOut job index class) = brief.SetOut job index class
brief_command (command.Show what) = brief.Show
brief_command (command.SetInit classes) = brief.SetInit
brief_command (command.SetPrt classes forms lines) = brief.SetPrt
brief_command (command.Back lines) = brief.Back lines
brief_command (command.Forward lines) = brief.Forward lines
brief_command (command.Reset member) = brief.Reset member
brief_command command.Restart = brief.Restart
brief_command (command.Load line) = brief.Load line
brief_command (command.Sent line number) = brief.Sent line number
brief_command (command.Got line number job text) = brief.Got line job

abbrev pub brief_reply : Reply → BriefReply
brief_reply reply.Plain = answer.Plain
brief_reply (reply.Job job) = answer.Job job
brief_reply (reply.Output job index) = answer.Output job index
brief_reply (reply.Count n) = answer.Count n
brief_reply (reply.Shown lines) = answer.Shown (length lines)
brief_reply (reply.No why) = answer.No why

abbrev pub brief_of : Entry → BriefEntry
brief_of e = record {
  by = e.by;
  step = e.step;
  command = brief_command e.command;
  reply = brief_reply e.reply;
}

-- BLANK TEXTS: an entry that is so in brief, with blank texts, lists and fields

abbrev pub no_name : Name8
no_name = record { 0 = [] }

abbrev pub no_fields : JobFields
no_fields = record {
  name = no_name;
  class = record { 0 = 0 };
  msgclass = record { 0 = 0 };
  prio = record { 0 = 0 };
  held = false;
  scan = false;
  restart = false;
  dest = no_name;
  node = no_name;
  origin = no_name;
}

abbrev pub command_of : BriefCommand → Command
command_of brief.Begin = command.Begin no_fields
command_of (brief.Take want) = command.Take want
command_of (brief.Drop job) = command.Drop job
command_of (brief.Enter job) = command.Enter job []
command_of brief.TakeConvert = command.TakeConvert
command_of (brief.Converted job) = command.Converted job
command_of brief.TakeExec = command.TakeExec
command_of (brief.Ended job) = command.Ended job []
command_of brief.Gather = command.Gather
command_of brief.Pick = command.Pick
command_of (brief.Mark job index mark) = command.Mark job index mark
command_of (brief.Done job index) = command.Done job index
command_of brief.Purge = command.Purge
command_of (brief.Hold job) = command.Hold job
command_of (brief.Release job) = command.Release job
command_of (brief.Cancel job) = command.Cancel job
command_of (brief.SetPrio job prio) = command.SetPrio job prio
command_of (brief.SetClass job class) = command.SetClass job class
command_of (brief.Out job) = command.Out job
command_of (brief.CancelOut job index) = command.CancelOut job index
command_of (brief.SetOut job index class) = command.SetOut job index class
command_of brief.Show = command.Show Queue
command_of brief.SetInit = command.SetInit []
command_of brief.SetPrt = command.SetPrt [] no_name 0
command_of (brief.Back lines) = command.Back lines
command_of (brief.Forward lines) = command.Forward lines
command_of (brief.Reset member) = command.Reset member
command_of brief.Restart = command.Restart
command_of (brief.Load line) = command.Load line
command_of (brief.Sent line number) = command.Sent line number
command_of (brief.Got line job) = command.Got line 0 job []

abbrev pub reply_of : BriefReply → Reply
reply_of answer.Plain = reply.Plain
reply_of (answer.Job job) = reply.Job job
reply_of (answer.Output job index) = reply.Output job index
reply_of (answer.Count n) = reply.Count n
reply_of (answer.Shown count) = reply.Shown (replicate count [])
reply_of (answer.No why) = reply.No why

abbrev pub entry_of : BriefEntry → Entry
entry_of b = record {
  by = b.by;
  step = b.step;
  command = command_of b.command;
  reply = reply_of b.reply;
}

-- memory has these entries in brief
abbrev pub AreBrief : List BriefEntry → List Entry → Type 0
AreBrief briefs entries = briefs ≡ map brief_of entries
