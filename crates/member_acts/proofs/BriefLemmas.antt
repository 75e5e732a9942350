-- What is read of entries in brief is what is read of the entries.
use Rattle.member_acts.proofs.Names.{◌≡◌, Bool, List, [], ◌∷◌, ◌∙◌, ap, refl, ◌||◌, map, list_any, command_of, reply_of, brief_command, brief_of, brief_reply, brings_job, brings_outputs, is_brought, names_job, Command, Reply, JobNo, OutSpec, Entry, brings_by}
use Rattle.mas_types.specs.declared.commands.Command.TheVariants as command
use Rattle.mas_types.specs.declared.commands.Reply.TheVariants as reply
use Rattle.mas_types.specs.declared.queues.Thing.{Thing}
use Rattle.mas_types.specs.declared.queues.Thing.TheVariants as thing

names : (n : JobNo) (r : Reply) → names_job n (reply_of (brief_reply r)) ≡ names_job n r
names n reply.Plain = refl
names n _ = refl

brings : (n : JobNo) (c : Command) (r : Reply)
    → brings_job n (command_of (brief_command c)) (reply_of (brief_reply r)) ≡ brings_job n c r
brings n (command.Begin fields) r = names n r
brings n (command.Enter job text) r = names n r
brings n (command.Got line number job text) r = names n r
brings n _ r = refl

ended : (n job : JobNo) (all none : List OutSpec) (r : Reply)
    → brings_outputs n (command.Ended job none) (reply_of (brief_reply r)) ≡ brings_outputs n (command.Ended job all) r
ended n job all none reply.Plain = refl
ended n job all none _ = refl

outs : (n : JobNo) (c : Command) (r : Reply)
    → brings_outputs n (command_of (brief_command c)) (reply_of (brief_reply r)) ≡ brings_outputs n c r
outs n (command.Ended job outputs) r = ended n job outputs [] r
outs n _ r = refl

brings_either : (text : Thing) (c : Command) (r : Reply) → brings_by text (command_of (brief_command c)) (reply_of (brief_reply r)) ≡ brings_by text c r
brings_either (thing.Deck n) c r = brings n c r
brings_either (thing.Output n i) c r = outs n c r

pub any_brought : (text : Thing) (es : List Entry) → list_any (λ b. brings_by text (command_of b.command) (reply_of b.reply)) (map brief_of es) ≡ is_brought (brings_by text) es
any_brought text [] = refl
any_brought text (e ∷ es) =
    ap (λ (v : Bool). v || list_any (λ b. brings_by text (command_of b.command) (reply_of b.reply)) (map brief_of es)) (brings_either text e.command e.reply)
    ∙ ap (λ (v : Bool). brings_by text e.command e.reply || v) (any_brought text es)
