-- How a command may change whose a group is.
use Rattle.std.specs.Prelude.{◌≡◌, ◌⊎◌, ℕ, Bool, true, false, Some, slice_get}
use Rattle.std.specs.List.{AllZip}
use Rattle.mas_types.specs.declared.ids.MemberId.{MemberId}
use Rattle.mas_types.specs.declared.queues.Owner.{Owner}
use Rattle.mas_types.specs.declared.queues.Owner.TheVariants as owner
use Rattle.mas_types.specs.declared.queues.Queue.{Queue}
use Rattle.mas_types.specs.declared.commands.Command.{Command}
use Rattle.mas_types.specs.Ids.{same_member}
use Rattle.queue_laws.specs.Laws.{resets}
use Rattle.mas_types.specs.Step.{step}

-- a group that no member has
abbrev pub is_no_members : Owner → Bool
is_no_members (owner.Member m) = false
is_no_members _ = true

-- a deck's or an output's
abbrev pub is_thing : Owner → Bool
is_thing (owner.Deck n p) = true
is_thing (owner.Output n i p) = true
is_thing _ = false

-- a group before and after a command of m, where the members of the test are reset: it stays, a Free one becomes m's,
-- one of m's becomes a deck's, an output's or Free, one of a deck or an output becomes Free, and so does one of a
-- member that is reset
pub data OwnerChange (m : MemberId) (is_reset : MemberId → Bool) : Owner → Owner → Type 0 where
  Stays : (g : Owner) → OwnerChange m is_reset g g
  Taken : OwnerChange m is_reset owner.Free (owner.Member m)
  Given : (g : Owner) → is_no_members g ≡ true → OwnerChange m is_reset (owner.Member m) g
  DeckFreed : (n : _) (p : _) → OwnerChange m is_reset (owner.Deck n p) owner.Free
  OutputFreed : (n : _) (i : _) (p : _) → OwnerChange m is_reset (owner.Output n i p) owner.Free
  Released : (h : MemberId) → is_reset h ≡ true → OwnerChange m is_reset (owner.Member h) owner.Free

-- each group goes so, by every command
abbrev pub OwnersFollow : Type 0
OwnersFollow = (Q : Queue) (m : MemberId) (c : Command)
    → AllZip (OwnerChange m (λ h. resets h c)) Q.owners (step Q m c).0.owners

-- a group that a member has is still the member's, except after its own commands and its resets
abbrev pub GroupsStay : Type 0
GroupsStay = (Q : Queue) (m h : MemberId) (c : Command) (g : ℕ) → same_member h m ≡ false → resets h c ≡ false
    → slice_get Q.owners g ≡ Some (owner.Member h) → slice_get (step Q m c).0.owners g ≡ Some (owner.Member h)

-- a group becomes a member's only by a command of that member
abbrev pub GroupsTaken : Type 0
GroupsTaken = (Q : Queue) (m h : MemberId) (c : Command) (g : ℕ) (old : Owner) → same_member h m ≡ false
    → slice_get Q.owners g ≡ Some old → slice_get (step Q m c).0.owners g ≡ Some (owner.Member h) → old ≡ owner.Member h

-- a group that becomes a deck's or an output's was the commanding member's
abbrev pub GroupsGiven : Type 0
GroupsGiven = (Q : Queue) (m : MemberId) (c : Command) (g : ℕ) (old new : Owner) → is_thing new ≡ true
    → slice_get Q.owners g ≡ Some old → slice_get (step Q m c).0.owners g ≡ Some new → (old ≡ new)
    ⊎ (old ≡ owner.Member m)
