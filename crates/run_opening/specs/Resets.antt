-- What Restart leaves, by its answer.
use Rattle.std.specs.Prelude.{◌≡◌, ◌⊎◌, ◌≤◌, ℕ, Bool, List, [], ◌∷◌, Result, Ok, Err}
use Rattle.mas_types.specs.declared.ids.Dev.{Dev}
use Rattle.mas_types.specs.declared.commands.Command.TheVariants.{Restart}
use Rattle.mas_types.specs.declared.commands.Reply.TheVariants.{Plain}
use Rattle.mas_types.specs.declared.journals.Batch.{Batch}
use Rattle.mas_types.specs.declared.journals.Entry.{Entry}
use Rattle.mas_types.specs.declared.journals.Fate.TheVariants.{Kept}
use Rattle.mas_types.specs.Ids.{nobody}
use Rattle.spool_plant.specs.View.{View}
use Rattle.duplex_pair.specs.Halves.{IsBothLost, SomeAlive}
use Rattle.mas_complex.specs.Journals.{begun, fated}
use Rattle.mas_complex.specs.CallCounts.{PairState}
use Rattle.member_node.specs.declared.member.NodeNo.{NodeNo}
use Rattle.member_node.specs.declared.member.NodeNo.TheVariants as no_node
use Rattle.member_node.specs.Calls.{Apart, Course}

-- Restart by the operator, before the first step
abbrev pub restart_entries : List Entry
restart_entries = record { by = nobody; step = 0; command = Restart; reply = Plain } ∷ []

-- Restart's batch, in flight since this moment
abbrev pub restart_at : ℕ → Batch
restart_at first = begun first nobody restart_entries

-- Restart's batch is kept; or both copies were lost in it and it is in flight, or while room was made for it; or there
-- was no memory for it. It begins after so many acts.
abbrev pub ResetsTo : {T : Type 0} → Result T NodeNo → List Batch → Bool → Bool → ℕ → ℕ → Type 0
ResetsTo (Ok done) batches is1 is2 from now = ((first last : ℕ) × (from ≤ first) × (first ≤ last) × (last ≤ now)
    × (batches ≡ fated Kept last (restart_at first) ∷ [])) × SomeAlive is1 is2
ResetsTo (Err no_node.NoMemory) batches is1 is2 from now = (batches ≡ []) × SomeAlive is1 is2
ResetsTo (Err no_node.BothLost) batches is1 is2 from now = ((batches ≡ [])
    ⊎ ((first : ℕ) × (from ≤ first) × (batches ≡ restart_at first ∷ []))) × IsBothLost is1 is2
ResetsTo (Err no_node.ConsoleFault) batches is1 is2 from now = ⊥
ResetsTo (Err no_node.Halted) batches is1 is2 from now = ⊥

-- Restart as the first batch, and what it leaves as it was.
pub record HasReset {T : Type 0} (told : Type 0) (batches : List Batch) (old new : PairState)
    (result : Result T NodeNo) : Type 0 where
  pub course : Course old new
  pub loses : (d : Dev) → new.view.loses d ≡ old.view.loses d
  pub ends : ResetsTo result batches new.first new.second old.view.now new.view.now
  pub apart : told → Apart old.view new.view
