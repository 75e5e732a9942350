-- The entries of a record, and the acts that they stand for.
use Rattle.std.specs.Prelude.{ℕ, ◌+◌, ◌==◌, max, Bool, false, List, [], ◌∷◌, take, drop}
use Rattle.spool_disk.specs.declared.entry.Entry.{Entry}
use Rattle.spool_disk.specs.declared.entry.Entry.TheVariants.{Idle as EntryIdle, Wrote as EntryWrote, Synced as EntrySynced, Said as EntrySaid, Passed as EntryPassed, Fetched as EntryFetched, Renewed as EntryRenewed}
use Rattle.spool_disk.specs.Deeds.{Deed, Idle, Wrote, Synced, Said, Passed, Fetched, Renewed}

-- how many of the record's bytes are an entry's
abbrev pub kept_by : Entry → ℕ
kept_by EntryIdle = 0
kept_by (EntryWrote slot at len kept) = kept
kept_by (EntrySynced slot) = 0
kept_by (EntrySaid place kept whole) = kept
kept_by (EntryPassed given wire member kept) = kept
kept_by (EntryFetched slot) = 0
kept_by (EntryRenewed slot since) = 0

-- how many of the record's bytes are those of all entries
abbrev pub kept_in : List Entry → ℕ
kept_in [] = 0
kept_in (e ∷ es) = kept_by e + kept_in es

-- the act that an entry with its bytes stands for
abbrev pub deed_of : Entry → List ℕ → Deed
deed_of EntryIdle bytes = Idle
deed_of (EntryWrote slot at len kept) bytes = Wrote slot at (max len kept) bytes
deed_of (EntrySynced slot) bytes = Synced slot
deed_of (EntrySaid place kept whole) bytes = Said place bytes whole
deed_of (EntryPassed given wire member kept) bytes = Passed given wire member bytes
deed_of (EntryFetched slot) bytes = Fetched slot
deed_of (EntryRenewed slot since) bytes = Renewed slot since

-- the acts of a record
abbrev pub deeds_of : List Entry → List ℕ → List Deed
deeds_of [] arena = []
deeds_of (e ∷ es) arena = deed_of e (take (kept_by e) arena) ∷ deeds_of es (drop (kept_by e) arena)

-- an entry is a read of a slot
abbrev pub reads_at : ℕ → Entry → Bool
reads_at slot EntryIdle = false
reads_at slot (EntryWrote s at len kept) = false
reads_at slot (EntrySynced s) = false
reads_at slot (EntrySaid place kept whole) = false
reads_at slot (EntryPassed given wire member kept) = false
reads_at slot (EntryFetched s) = s == slot
reads_at slot (EntryRenewed s since) = false
