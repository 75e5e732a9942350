-- What a crash leaves after acts.
use Rattle.std.specs.Prelude.{◌≡◌, ◌⊎◌, ℕ, ◌==◌, if◌then◌else◌, Bool, true, false, length, replicate, List, [], ◌∷◌, ◌++◌}
use Rattle.spool_plant.specs.declared.choice.Choice.{Choice}
use Rattle.spool_plant.specs.declared.choice.Choice.TheVariants.{Old, New, Ones}
use Rattle.spool_disk.specs.declared.entry.Entry.{Entry}
use Rattle.spool_disk.specs.declared.entry.Entry.TheVariants.{Idle as EntryIdle, Wrote as EntryWrote, Synced as EntrySynced, Said as EntrySaid, Passed as EntryPassed, Fetched as EntryFetched, Renewed as EntryRenewed}
use Rattle.spool_plant.specs.View.{Disk}
use Rattle.spool_disk.specs.Deeds.{Deed, Idle, Wrote, Synced, Said, Passed, Fetched, Renewed, effect}
use Rattle.spool_plant.specs.Crash.{IsOnes}

-- the bytes of the last sync, after an act
abbrev pub synced_by : ℕ → List ℕ → Disk → Deed → List ℕ
synced_by slot bytes d Idle = bytes
synced_by slot bytes d (Wrote s at len some) = bytes
synced_by slot bytes d (Synced s) = if s == slot then d.bytes else bytes
synced_by slot bytes d (Said place text whole) = bytes
synced_by slot bytes d (Passed given wire member some) = bytes
synced_by slot bytes d (Fetched s) = bytes
synced_by slot bytes d (Renewed s since) = if s == slot then replicate (length d.bytes) 0 else bytes

-- the bytes of the last sync, after all acts of a list
abbrev pub last_synced : ℕ → List ℕ → Disk → List Deed → List ℕ
last_synced slot bytes d [] = bytes
last_synced slot bytes d (e ∷ es) = last_synced slot (synced_by slot bytes d e) (effect slot d e) es

abbrev pub Leaves : Choice → List ℕ → Disk → List ℕ → Type 0
Leaves Old synced d image = image ≡ synced
Leaves New synced d image = image ≡ d.bytes
Leaves Ones synced d image = IsOnes d image

-- an entry leaves nothing of a slot unsynced: it is a sync of it, or its renewal
abbrev pub is_sync : ℕ → Entry → Bool
is_sync slot EntryIdle = false
is_sync slot (EntryWrote s at len kept) = false
is_sync slot (EntrySynced s) = s == slot
is_sync slot (EntrySaid place kept whole) = false
is_sync slot (EntryPassed given wire member kept) = false
is_sync slot (EntryFetched s) = false
is_sync slot (EntryRenewed s since) = s == slot

-- no entry is a sync or a renewal of a slot
abbrev pub IsQuiet : ℕ → List Entry → Type 0
IsQuiet slot [] = Unit {0}
IsQuiet slot (e ∷ es) = (is_sync slot e ≡ false) × IsQuiet slot es

-- the last entry, if there is one, is a sync or a renewal of a slot
abbrev pub EndsSynced : ℕ → List Entry → Type 0
EndsSynced slot es = (es ≡ [])
    ⊎ ((front : List Entry) × ((e : Entry) × ((is_sync slot e ≡ true) × (es ≡ front ++ e ∷ []))))
