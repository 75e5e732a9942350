use Rattle.std.proofs.Common.{◌≡◌, ℕ, ◌⊎◌, nat_lt, Bool, true, false, if◌then◌else◌, length, Err}
use Rattle.mas_types.specs.declared.answers.LineCause.{LineCause}
use Rattle.mas_types.specs.declared.answers.LineCause.TheVariants as cause
use Rattle.mas_types.specs.Limits.{script_bytes}
use Rattle.script_lang.specs.declared.types.ScriptNo.TheVariants as no
use Rattle.script_lang.specs.Lines.{lines_of}
use Rattle.script_lang.specs.Script.{Said, said_from, start}
use Rattle.script_laws.specs.Refused.{IsCutOff, IsFirstOutside}
use Rattle.script_laws.proofs.Refusals.{refused_first}
use Rattle.script_laws.proofs.law_of_refusals.Goals as goal

by_length : (long : Bool) (said : Said) (number : ℕ) (why : LineCause) (P : Type 0) → (said ≡ Err (no.BadLine number why) → P) → (if long then Err no.TooLong else said) ≡ Err (no.BadLine number why) → P
by_length true said number why P h e = absurd (cc)
by_length false said number why P h e = h e

pub returns : goal.returns
returns c run bytes number why e =
    by_length (nat_lt script_bytes (length bytes)) (said_from run 1 start (lines_of bytes)) number why (((why ≡ cause.End) × IsCutOff run (lines_of bytes) number) ⊎ IsFirstOutside run (lines_of bytes) number)
    (λ said. refused_first c.law_of_commands.ensures run (lines_of bytes) number why said) e
