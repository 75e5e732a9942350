-- The laws of commands hold of runs of entries.
use Rattle.std.proofs.Common.{◌≡◌, true, List, [], ◌∷◌, All, refl, sym, ◌∙◌, subst}
use Rattle.std.proofs.lemmas.List.Elements.{All-cons, All-head, All-tail, All-nil, All-weaker}
use Rattle.mas_types.specs.declared.ids.MemberId.{MemberId}
use Rattle.mas_types.specs.declared.journals.Entry.{Entry}
use Rattle.mas_types.specs.declared.queues.Config.{Config}
use Rattle.mas_types.specs.declared.queues.Queue.{Queue}
use Rattle.mas_types.specs.declared.commands.Command.{Command}
use Rattle.mas_types.specs.declared.commands.Command.TheVariants as command
use Rattle.mas_types.specs.Closings.{IsReplyNamed}
use Rattle.mas_types.specs.Queue.{is_member}
use Rattle.mas_types.specs.Run.{replies}
use Rattle.mas_types.specs.Sound.{IsSound}
use Rattle.mas_types.specs.Step.{step, may_give}
use Rattle.queue_laws.specs.Runs.{IsGiven, RunsKeepConfiguration, RunsKeepSound, RunsNameMembers}
use Rattle.queue_laws.proofs.Configuration.{keeps_configuration}
use Rattle.queue_laws.proofs.SoundAll.{keeps_sound}
use Rattle.queue_laws.proofs.Replies.{names_members}

pub runs_keep_configuration : RunsKeepConfiguration
runs_keep_configuration Q [] = record { config = refl; routes = refl }
runs_keep_configuration Q (e ∷ es) =
    let first = keeps_configuration Q e.by e.command in
    let rest = runs_keep_configuration (step Q e.by e.command).0 es in
    record { config = rest.config ∙ first.config; routes = rest.routes ∙ first.routes }

-- who may give a command is a matter of the configuration
pub give_alike : (Q R : Queue) (m : MemberId) (c : Command) → R.config ≡ Q.config → may_give Q m c ≡ true → may_give R m c ≡ true
give_alike Q R m command.Restart same may = may
give_alike Q R m _ same may = subst (λ (k : Config). is_member k m ≡ true) (sym same) may

given_alike : (Q R : Queue) → R.config ≡ Q.config → (es : List Entry) → All (IsGiven Q) es → All (IsGiven R) es
given_alike Q R same es all = All-weaker (IsGiven Q) (IsGiven R) (λ e given. record { by = give_alike Q R e.by e.command same given.by; fit = given.fit }) es all

-- the entries after the first, at the queue that it leaves
rest_given : (Q : Queue) (e : Entry) (es : List Entry) → All (IsGiven Q) (e ∷ es) → All (IsGiven (step Q e.by e.command).0) es
rest_given Q e es all = given_alike Q (step Q e.by e.command).0 (keeps_configuration Q e.by e.command).config es (All-tail (IsGiven Q) e es all)

first_sound : (Q : Queue) (e : Entry) (es : List Entry) → IsSound Q → All (IsGiven Q) (e ∷ es) → IsSound (step Q e.by e.command).0
first_sound Q e es sound all = let given = All-head (IsGiven Q) e es all in keeps_sound Q e.by e.command sound given.fit given.by

pub runs_keep_sound : RunsKeepSound
runs_keep_sound Q [] sound all = sound
runs_keep_sound Q (e ∷ es) sound all = runs_keep_sound (step Q e.by e.command).0 es (first_sound Q e es sound all) (rest_given Q e es all)

pub runs_name_members : RunsNameMembers
runs_name_members Q [] sound all = All-nil IsReplyNamed
runs_name_members Q (e ∷ es) sound all =
    All-cons IsReplyNamed (step Q e.by e.command).1 (replies (step Q e.by e.command).0 es)
    (names_members Q e.by e.command sound (All-head (IsGiven Q) e es all).by)
    (runs_name_members (step Q e.by e.command).0 es (first_sound Q e es sound all) (rest_given Q e es all))
