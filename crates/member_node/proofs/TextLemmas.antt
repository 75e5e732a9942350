-- The texts of a queue stand after a command that brings none.
use Rattle.std.proofs.Common.{◌≡◌, ℕ, Bool, true, false, [], refl}
use Rattle.std.proofs.lemmas.List.Elements.{All-nil}
use Rattle.mas_types.specs.declared.ids.MemberId.{MemberId}
use Rattle.mas_types.specs.declared.jobs.Text.TheVariants.{Whole}
use Rattle.mas_types.specs.declared.commands.Command.{Command}
use Rattle.mas_types.specs.declared.commands.Command.TheVariants as command
use Rattle.mas_types.specs.declared.queues.Queue.{Queue}
use Rattle.mas_types.specs.declared.queues.Thing.{Thing}
use Rattle.mas_types.specs.Step as table
use Rattle.queue_texts.specs.Leaving.{AreTheirOwn, OthersLeaveTexts, brings_text}
use Rattle.queue_texts.proofs.LeftLemmas.{left_holds}
use Rattle.mas_complex.specs.Texts.{Spools, HasTexts, IsSynced, IsThereUnless}
use Rattle.queue_indexed.specs.Given.{is_plain}

-- a plain command brings none
pub plain_brings : (c : Command) → is_plain c ≡ true → brings_text c ≡ false
plain_brings (command.Enter job text) plain = absurd (cc)
plain_brings (command.Ended job specs) plain = absurd (cc)
plain_brings (command.Got line number job text) plain = absurd (cc)
plain_brings _ plain = refl

pub texts_after : OthersLeaveTexts → (gone : ℕ → Bool) (disks : Spools) (per : ℕ) (Q : Queue) (m : MemberId) (c : Command) → brings_text c ≡ false → AreTheirOwn Q → HasTexts gone disks per Q → HasTexts gone disks per (table.step Q m c).0
texts_after law gone disks per Q m c brings own has =
    let left = left_holds (λ t text groups. IsThereUnless gone disks per text groups) Q (table.step Q m c).0 blank (law Q m c brings own) (record { decks = has.decks; outputs = has.outputs }) in
    record { decks = left.decks; outputs = left.outputs }
  where
    blank : (t : Thing) → IsThereUnless gone disks per (Whole []) []
    blank t none = record { is = refl; synced = All-nil (IsSynced disks per) }
