-- A deck's acts aside: its text goes into groups of the member, without the lock.
use Rattle.member_sittings.specs.Names.{MemberId, AreLines, IsJobFields, View, PlantGhosts, AreRoomy, Ghosts as CopyGhosts, HasShape, Complex, SteadyGhosts, IsUp, Parts, parts_of, IsThere, spools_at, Member, NodeNo, IsFoundLost, SpoolStops, names_volume, Found, State, Away, Told, SpoolDeck, nothing_found}
use Rattle.std.specs.Prelude.{◌≡◌, ℕ, ◌≤◌, Bool, true, List, take, All, Option, Some, None, Result, Ok, Err, IfOk}
use Rattle.mas_types.specs.declared.ids.GroupNo.{GroupNo}
use Rattle.mas_types.specs.declared.jobs.Text.TheVariants.{Whole}
use Rattle.mas_types.specs.declared.queues.Owner.{Owner}
use Rattle.mas_types.specs.Owners.{groups_needed, member_count}
use Rattle.job_outcome.specs.declared.outcomes.Read.{Read}
use Rattle.card_reader.specs.declared.decks.Deck.{Deck}
use Rattle.track_groups.specs.Groups.{held_by}
use Rattle.mas_complex.specs.Spool.{IsHeldBy}
use Rattle.mas_complex.specs.Texts.{Spools}
use Rattle.member_node.specs.declared.member.NodeNo.TheVariants as no_node
use Rattle.member_decks.specs.declared.spooling.SpoolError.{SpoolError}
use Rattle.member_decks.specs.declared.spooling.SpoolError.TheVariants as spool
use Rattle.member_decks.specs.Spooling.{OnVolumes, lies_there, GroupsKept}
use Rattle.member_sittings.specs.Whole.{queue_of}

-- the lowest groups of a member, as many as a text needs
abbrev pub lowest_groups : MemberId → List Owner → List (List ℕ) → List GroupNo
lowest_groups by owners text = take (groups_needed text) (held_by by owners)

-- what a deck says is within the limits
pub record IsReadDeck (deck : Deck) : Type 0 where
  pub fields : IsJobFields deck.fields
  pub text : AreLines deck.text

-- a member that waits for a deck's text to be spooled has the groups for it
pub record HasGroups (m : Member) (text : List (List ℕ)) : Type 0 where
  pub lines : AreLines text
  pub enough : groups_needed text ≤ member_count m.id m.checkpoint.tables.owners

-- a member's step waits for a deck's text, for which it has the groups, or is told
abbrev pub WaitsRightly : Member → State → Type 0
WaitsRightly m (Away (SpoolDeck n text)) = HasGroups m text
WaitsRightly m Told = Unit {0}
WaitsRightly m _ = ⊥

-- one of the groups lies on the volume that was found lost
abbrev pub LiesOnOne : ℕ → List GroupNo → Option ℕ → Type 0
LiesOnOne per groups None = Unit {0}
LiesOnOne per groups (Some volume) = lies_there per volume groups ≡ true

-- what a member found that read a text, looked whether a volume is lost, and perhaps found its printer lost
abbrev pub found_as : Read → Option ℕ → Bool → Found
found_as read lost printer = record nothing_found { read = read; lost = lost; printer = printer }

-- what a member found that looked only whether a volume is lost
abbrev pub deck_found : Option ℕ → Found
deck_found lost = record nothing_found { lost = lost }

-- what was found, by the answer of the acts
abbrev pub finds_of : Result (Unit {0}) SpoolError → Result Found NodeNo
finds_of (Ok done) = Ok (deck_found None)
finds_of (Err (spool.Lost volume)) = Ok (deck_found (Some volume))
finds_of (Err spool.Halted) = Err no_node.Halted

module _ {P C : Type 0} (plants : PlantGhosts P) where
  abbrev v : Parts P C → View
  v x = plants.view x.plant

  -- A member that isn't stopped may spool a deck's text into its groups, whoever holds the lock. Where content is told
  -- these are its own in the queue, so no text of a deck or an output stands in them.
  pub record MaySpool (x : Parts P C) (m : Member) (text : List (List ℕ)) : Type 0 where
    pub up : IsUp x.book m.id
    pub none : x.current ≡ None
    pub groups : HasGroups m text
    pub shape : HasShape m.checkpoint.tables
    pub config : x.base.config ≡ m.checkpoint.tables.config
    pub held : plants.tells → All (λ g. IsHeldBy m.id g (queue_of x)) (held_by m.id m.checkpoint.tables.owners)

  -- the text stands in the lowest groups that the queue gives the member, where no volume was found lost
  abbrev pub IsSpooled : Parts P C → MemberId → List (List ℕ) → Option ℕ → Type 0
  IsSpooled x by text lost =
      lost ≡ None → plants.tells → IsThere (spools_at (v x) (v x).now) x.base.config.groups (Whole text)
      (lowest_groups by (queue_of x).owners text)

  -- What was found: a volume that failed in the acts, is lost, and has one of the groups; else what was written stands
  -- so in these, all of it synced.
  pub record FindsPlaced (x y : Parts P C) (groups : List GroupNo) (Stands : Spools → ℕ → Type 0) (found : Found) :
      Type 0 where
    pub only : found ≡ deck_found found.lost
    pub lost : IsFoundLost found.lost (v x) (v y)
    pub lies : LiesOnOne x.base.config.groups groups found.lost
    pub there : found.lost ≡ None → plants.tells → AreRoomy (v x) x.base.config
        → Stands (spools_at (v y) (v y).now) x.base.config.groups

  -- Acts aside of a member that writes into these groups, by their answer: on the volumes alone, of which each stays as
  -- it is that isn't found lost. Halted comes only where the member was stopped.
  pub record HasPlaced (x y : Parts P C) (by : MemberId) (groups : List GroupNo) (Stands : Spools → ℕ → Type 0)
      (result : Result Found NodeNo) : Type 0 where
    pub frame : y ≡ record x { plant = y.plant }
    pub acts : OnVolumes plants.tells by.0 (v x) (v y)
    pub cause : SpoolStops (λ found. names_volume found.lost) result by.0 (v x) (v y)
    pub finds : IfOk result (FindsPlaced x y groups Stands)
    pub spares : plants.tells → GroupsKept x.base.config.groups groups (spools_at (v x) (v x).now)
        (spools_at (v y) (v y).now)

  -- a deck's text was written into the lowest groups of the member
  abbrev pub HasSpooled : Parts P C → Parts P C → Member → List (List ℕ) → Result Found NodeNo → Type 0
  HasSpooled x y m text result = HasPlaced x y m.id (lowest_groups m.id m.checkpoint.tables.owners text)
      (λ disks per. IsThere disks per (Whole text) (lowest_groups m.id m.checkpoint.tables.owners text)) result

-- OVER THE SHARED VALUE

module _ {P C : Type 0} {plants : PlantGhosts P} {steadies : SteadyGhosts C} {copies : CopyGhosts C} where
  abbrev pub MaySpoolDeck : Complex P C plants steadies copies → Member → List (List ℕ) → Type 0
  MaySpoolDeck x m text = MaySpool plants (parts_of x) m text

  abbrev pub DeckIsSpooled : Complex P C plants steadies copies → MemberId → List (List ℕ) → Option ℕ → Type 0
  DeckIsSpooled x by text lost = IsSpooled plants (parts_of x) by text lost

  abbrev pub SpoolsDeck : Complex P C plants steadies copies → Complex P C plants steadies copies → Member
      → List (List ℕ) → Result Found NodeNo → Type 0
  SpoolsDeck x y m text result = HasSpooled plants (parts_of x) (parts_of y) m text result
