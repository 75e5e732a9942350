-- The lines of entries in brief are those of the entries.
use Rattle.std.proofs.Common.{◌≡◌, ◌∙◌, ap, refl, ℕ, ◌+◌, List, [], ◌∷◌, ◌++◌, length, map, decimal, All, codes}
use Rattle.std.proofs.lemmas.List.{length-replicate}
use Rattle.std.proofs.lemmas.List.Elements.{All-cons, All-head, All-nil, All-tail}
use Rattle.mas_types.specs.declared.commands.Command.{Command}
use Rattle.mas_types.specs.declared.commands.Command.TheVariants as command
use Rattle.mas_types.specs.declared.commands.Reply.{Reply}
use Rattle.mas_types.specs.declared.commands.Reply.TheVariants as reply
use Rattle.mas_types.specs.declared.journals.Entry.{Entry}
use Rattle.mas_types.specs.Closings.{IsReplyNamed}
use Rattle.mas_types.specs.Histories.{command_word, history_line, history_lines, outcome_text}
use Rattle.mas_types.specs.Numerals.{in_digits}
use Rattle.mas_types.specs.Shown.{member_word, words}
use Rattle.brief_journal.specs.declared.entries.BriefEntry.{BriefEntry}
use Rattle.brief_journal.specs.Brief.{brief_command, brief_of, brief_reply, command_of, entry_of, reply_of}
use Rattle.cmd_report.specs.Named.{IsEntryNamed}

word : (c : Command) → command_word (command_of (brief_command c)) ≡ command_word c
word (command.Begin fields) = refl
word (command.Take want) = refl
word (command.Drop job) = refl
word (command.Enter job text) = refl
word command.TakeConvert = refl
word (command.Converted job) = refl
word command.TakeExec = refl
word (command.Ended job outputs) = refl
word command.Gather = refl
word command.Pick = refl
word (command.Mark job index mark) = refl
word (command.Done job index) = refl
word command.Purge = refl
word (command.Hold job) = refl
word (command.Release job) = refl
word (command.Cancel job) = refl
word (command.SetPrio job prio) = refl
word (command.SetClass job class) = refl
word (command.Out job) = refl
word (command.CancelOut job index) = refl
word (command.SetOut job index class) = refl
word (command.Show what) = refl
word (command.SetInit classes) = refl
word (command.SetPrt classes forms lines) = refl
word (command.Back lines) = refl
word (command.Forward lines) = refl
word (command.Reset member) = refl
word command.Restart = refl
word (command.Load line) = refl
word (command.Sent line number) = refl
word (command.Got line number job text) = refl

outcome : (r : Reply) → outcome_text (reply_of (brief_reply r)) ≡ outcome_text r
outcome reply.Plain = refl
outcome (reply.Job job) = refl
outcome (reply.Output job index) = refl
outcome (reply.Count count) = refl
outcome (reply.Shown lines) = ap decimal (length-replicate (length lines) [])
outcome (reply.No why) = refl

line : (place : ℕ) (e : Entry) → history_line place (entry_of (brief_of e)) ≡ history_line place e
line place e =
    let texts : List ℕ → List ℕ → List ℕ = λ given came. words (codes "H" ∷ decimal place ∷ member_word e.by ∷ in_digits 5 e.step ∷ given ∷ came ∷ []) in
    ap (λ (w : List ℕ). texts w (outcome_text (reply_of (brief_reply e.reply)))) (word e.command)
    ∙ ap (λ (w : List ℕ). texts (command_word e.command) w) (outcome e.reply)

pub all_lines : (place : ℕ) (es : List Entry) → history_lines place (map entry_of (map brief_of es)) ≡ history_lines place es
all_lines place [] = refl
all_lines place (e ∷ es) =
    ap (λ (l : List ℕ). l ∷ history_lines (place + 1) (map entry_of (map brief_of es))) (line place e)
    ∙ ap (λ (l : List (List ℕ)). history_line place e ∷ l) (all_lines (place + 1) es)

reply_named : (r : Reply) → IsReplyNamed r → IsReplyNamed (reply_of (brief_reply r))
reply_named reply.Plain h = h
reply_named (reply.Job job) h = h
reply_named (reply.Output job index) h = h
reply_named (reply.Count count) h = h
reply_named (reply.Shown lines) h = h
reply_named (reply.No why) h = h

pub named_briefs : (es : List Entry) → All IsEntryNamed es → All (λ (b : BriefEntry). IsEntryNamed (entry_of b)) (map brief_of es)
named_briefs [] all = All-nil (λ (b : BriefEntry). IsEntryNamed (entry_of b))
named_briefs (e ∷ es) all =
    let h = All-head IsEntryNamed e es all in
    All-cons (λ (b : BriefEntry). IsEntryNamed (entry_of b)) (brief_of e) (map brief_of es) (h.0, reply_named e.reply h.1) (named_briefs es (All-tail IsEntryNamed e es all))
