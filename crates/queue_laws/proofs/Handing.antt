-- Groups that are handed out.
use Rattle.std.proofs.Common.{◌≡◌, suc, true, false, List, [], ◌∷◌, length, refl, ap}
use Rattle.std.specs.Prelude.{unwrap_or}
use Rattle.mas_types.specs.declared.ids.MemberId.{MemberId}
use Rattle.mas_types.specs.declared.queues.Owner.{Owner}
use Rattle.mas_types.specs.declared.queues.Owner.TheVariants as owner
use Rattle.mas_types.specs.Lists.{head, tail}
use Rattle.mas_types.specs.Owners.{is_members, handed_out}

-- a group of the member gets the first of the new owners
pub handed_out-mine : (m : MemberId) (new : List Owner) (g : Owner) (gs : List Owner) → is_members m g ≡ true → handed_out m new (g ∷ gs) ≡ unwrap_or (head new) owner.Free ∷ handed_out m (tail new) gs
handed_out-mine m new g gs h = rw h refl

-- a group that isn't the member's stays
pub handed_out-other : (m : MemberId) (new : List Owner) (g : Owner) (gs : List Owner) → is_members m g ≡ false → handed_out m new (g ∷ gs) ≡ g ∷ handed_out m new gs
handed_out-other m new g gs h = rw h refl

-- a step that hands a group out keeps how many there are
pub length-handed_out : (m : MemberId) (new gs : List Owner) → length (handed_out m new gs) ≡ length gs
length-handed_out m new [] = refl
length-handed_out m new (g ∷ gs) =
    elim (is_members m g) as (λ b. is_members m g ≡ b → length (handed_out m new (g ∷ gs)) ≡ length (g ∷ gs)) [
      | true ↦ λ e. rw e (ap suc (length-handed_out m (tail new) gs))
      | false ↦ λ e. rw e (ap suc (length-handed_out m new gs))
    ] refl
