-- A member of the configuration, in the book too.
use Rattle.std.proofs.Common.{◌≡◌, ◌∙◌, ◌&&◌, nat_le, if◌then◌else◌, Bool, true, ap, refl}
use Rattle.std.proofs.lemmas.Bool.{and_parts, le-leb}
use Rattle.mas_types.specs.declared.commands.Command.TheVariants as command
use Rattle.mas_types.specs.declared.ids.MemberId.{MemberId}
use Rattle.mas_types.specs.declared.queues.Config.{Config}
use Rattle.mas_types.specs.declared.queues.Queue.{Queue}
use Rattle.mas_types.specs.Fit.{IsConfig}
use Rattle.mas_types.specs.Ids.{is_somebody}
use Rattle.mas_types.specs.Queue.{is_member}
use Rattle.gate_turns.specs.Actors.{named_among}
use Rattle.member_sittings.specs.Whole.{IsGivable}
pub use Rattle.run_turns.proofs.Comes.{few_of, inside_of, some_of, somebody_of}

-- its name is one of theirs
pub named_own : (config : Config) (m : MemberId) → is_member config m ≡ true → named_among config.members m ≡ m.0
named_own config m is =
    let least : nat_le 1 m.0 ≡ true = le-leb 1 m.0 (some_of config m is) in
    ap (λ (t : Bool). if t && nat_le m.0 config.members then m.0 else 0) least ∙ ap (λ (t : Bool). if t then m.0 else 0) (and_parts (is_somebody m) (nat_le m.0 config.members) is).1

-- it may reset a stopped member
pub reset_givable : (Q : Queue) (by of : MemberId) → IsConfig Q.config → is_member Q.config by ≡ true → IsGivable Q by (command.Reset of)
reset_givable Q by of fits member =
    record { plain = refl; fit = tt; giver = (some_of Q.config by member, few_of Q.config by member fits); may = member; unmarked = refl }
