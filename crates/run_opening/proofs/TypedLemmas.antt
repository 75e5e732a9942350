-- A command that a script may give, by a member of the configuration.
use Rattle.std.proofs.Common.{◌≡◌, ◌≤◌, true, false, Some, refl, ap, subst}
use Rattle.mas_types.specs.declared.commands.Command.{Command}
use Rattle.mas_types.specs.declared.commands.Command.TheVariants as command
use Rattle.mas_types.specs.declared.ids.MemberId.{MemberId}
use Rattle.mas_types.specs.declared.queues.Queue.{Queue}
use Rattle.mas_types.specs.Fit.{IsConfig, IsFit}
use Rattle.mas_types.specs.Limits.{members_most}
use Rattle.mas_types.specs.Queue.{is_member}
use Rattle.mas_types.specs.Step.{may_give}
use Rattle.paper_laws.specs.Counts.{is_mark}
use Rattle.queue_commands.specs.Given.{IsGiver, is_plain}
use Rattle.script_input.specs.Commands.{is_typed}
use Rattle.run_turns.specs.Admissions.{resets}
use Rattle.run_turns.proofs.Comes.{few_of, some_of}
use Rattle.member_sittings.specs.Whole.{IsGivable}

typed_plain : (c : Command) → is_typed c ≡ true → is_plain c ≡ true
typed_plain (command.Enter job text) is = absurd (cc)
typed_plain (command.Ended job specs) is = absurd (cc)
typed_plain (command.Load line) is = absurd (cc)
typed_plain (command.Sent line number) is = absurd (cc)
typed_plain (command.Got line number job text) is = absurd (cc)
typed_plain _ is = refl

typed_unmarked : (c : Command) → is_typed c ≡ true → is_mark c ≡ false
typed_unmarked (command.Mark job index at) is = absurd (cc)
typed_unmarked _ is = refl

typed_giver : (by : MemberId) (c : Command) → is_typed c ≡ true → (1 ≤ by.0) × (by.0 ≤ members_most) → IsGiver by c
typed_giver by command.Restart is some = absurd (cc)
typed_giver by _ is some = some

typed_may : (Q : Queue) (by : MemberId) (c : Command) → is_typed c ≡ true → is_member Q.config by ≡ true → may_give Q by c ≡ true
typed_may Q by command.Restart is member = absurd (cc)
typed_may Q by _ is member = member

module _ (Q : Queue) (by : MemberId) (config : IsConfig Q.config) (member : is_member Q.config by ≡ true) where
  pub typed_givable : (c : Command) → IsFit c → is_typed c ≡ true → IsGivable Q by c
  typed_givable c fit is = record {
    plain = typed_plain c is;
    fit = fit;
    giver = typed_giver by c is (some_of Q.config by member, few_of Q.config by member config);
    may = typed_may Q by c is member;
    unmarked = typed_unmarked c is;
  }

  -- a command that resets a member
  pub reset_givable : (c : Command) (of : MemberId) → resets c ≡ Some of → IsFit c → IsGivable Q by (command.Reset of)
  reset_givable c of is fit = typed_givable (command.Reset of) (subst IsFit (reset_of c is) fit) refl where
    reset_of : (c : Command) → resets c ≡ Some of → c ≡ command.Reset of
    reset_of (command.Reset m) is = let same : m ≡ of = cc in ap (λ (k : MemberId). command.Reset k) same
    reset_of _ is = absurd (cc)
