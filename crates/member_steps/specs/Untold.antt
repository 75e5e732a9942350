-- What the lines of a step tell.
use Rattle.std.specs.Prelude.{◌≡◌, ℕ, ◌<◌, ◌^◌, false, [], ◌∷◌, map}
use Rattle.mas_types.specs.declared.commands.Command.{Command}
use Rattle.mas_types.specs.declared.ids.MemberId.{MemberId}
use Rattle.mas_types.specs.declared.queues.Queue.{Queue}
use Rattle.mas_complex.specs.Crash.{EachTells}
use Rattle.mas_complex.specs.Headline.{whole}
use Rattle.mas_complex.specs.Journals.{has_step}
use Rattle.mas_complex.specs.Meaning.{Closes}
use Rattle.member_steps.specs.Steps.{entry_of, step_lines}

-- The lines of a member's step, those of a display too, tell no later step of it, whatever the queues and commands: so
-- while only these stand on the console the later one is untold.
abbrev pub TellNoLaterStep : Type 0
TellNoLaterStep = (Q R : Queue) (by : MemberId) (at later : ℕ) (c d : Command) → at < later → later < 2 ^ 64
    → EachTells Closes (map whole (step_lines Q by at c)) (λ m s. has_step m s (entry_of R by later d ∷ []) ≡ false)
