-- A text that is read from the spool volumes, group by group.
use Rattle.member_node.specs.declared.member.NodeNo.{NodeNo}
use Rattle.member_acts.specs.Names.{SpoolStops, names_volume, Text, line_count, Spool, Disk as DiskPart, volume_of, AreRoomy, IsUp, Parts, parts_of, IsGroupOf, bytes_on, lost_now, spools_at, IsThereUnless, OnVolumes, IsReadable, IsCounted, IsFailedRead, IsReadOf, OnlyReads, HasFailed, SteadyGhosts}
use Rattle.std.specs.Prelude.{◌≡◌, ℕ, ◌≤◌, true, false, List, [], ◌∷◌, ◌++◌, length, All, Option, None, Some, Result, IfOk, unwrap_or}
use Rattle.std.specs.Option.{option_or}
use Rattle.spool_volumes.specs.Texts.{gone_or, records_on}
use Rattle.mas_types.specs.declared.queues.Config.{Config}
use Rattle.mas_types.specs.Limits.{line_bytes}
use Rattle.mas_types.specs.Fit.{is_text_line}
use Rattle.mas_types.specs.declared.ids.GroupNo.{GroupNo}
use Rattle.mas_types.specs.declared.ids.MemberId.{MemberId}
use Rattle.spool_plant.specs.View.{View}
use Rattle.spool_plant.specs.declared.plant.Plant.{Ghosts as PlantGhosts}
use Rattle.ckpt_copy.specs.declared.copying.Copying.{Ghosts as CopyGhosts}
use Rattle.mas_types.specs.declared.queues.Thing.{Thing}
use Rattle.member_asides.specs.Asides.{MayAside}
use Rattle.member_asides.specs.Whole.{queue_of}
use Rattle.queue_gone.specs.Gone.{text_at}
use Rattle.member_node.specs.declared.member.Member.{Member}
use Rattle.member_work.specs.Rounds.{IsReadAs, names_read}
use Rattle.track_groups.specs.Places.{groups_of}
use Rattle.job_outcome.specs.declared.outcomes.Read.{Read}
use Rattle.mas_complex.specs.declared.complex.Complex.{Complex}

-- lines that a group may hold
pub record AreRecords (lines : List (List ℕ)) : Type 0 where
  pub short : All (λ line. length line ≤ line_bytes) lines
  pub text : All (λ line. is_text_line line ≡ true) lines

-- what was read of a text so far: its lines, and the group with which it is gone
pub record SoFar : Type 0 where
  pub lines : List (List ℕ)
  pub gone : Option GroupNo

abbrev pub so_far : List (List ℕ) → Option GroupNo → SoFar
so_far lines gone = record { lines = lines; gone = gone }

-- a group that is added to it
pub record Adding : Type 0 where
  pub group : GroupNo
  pub was : SoFar
  pub is : SoFar

abbrev pub adding : GroupNo → SoFar → SoFar → Adding
adding group was is = record { group = group; was = was; is = is }

-- A group was read, so its volume wasn't lost: its lines are added, none where it holds no records; then the text is
-- gone with this group, unless one before it held none. Where content is told these are the records that stand there.
pub record AddsGroup (told : Type 0) (config : Config) (g : GroupNo) (old : View) (was is : SoFar) : Type 0 where
  pub records : Option (List (List ℕ))
  pub added : is.lines ≡ was.lines ++ unwrap_or records []
  pub fits : AreRecords (unwrap_or records [])
  pub gone_is : is.gone ≡ option_or was.gone (gone_or g records None)
  pub there : old.lost (DiskPart (Spool (volume_of config.groups g))) ≡ false
  pub are_held : told → AreRoomy old config → records_on (bytes_on (spools_at old old.now)) config.groups g ≡ records

module _ {P C : Type 0} (plants : PlantGhosts P) where
  abbrev v : Parts P C → View
  v x = plants.view x.plant

  -- a member that isn't stopped may read groups of the configuration
  pub record IsToRead (x : Parts P C) (by : MemberId) (groups : List GroupNo) : Type 0 where
    pub up : IsUp x.book by
    pub some : 1 ≤ x.base.config.groups
    pub within : All (IsGroupOf x.base.config) groups

  -- acts on the volumes that read alone; the rest is as it was
  pub record HasReadOn (x y : Parts P C) (by : MemberId) : Type 0 where
    pub frame : y ≡ record x { plant = y.plant }
    pub acts : OnVolumes plants.tells by.0 (v x) (v y)
    pub reads : OnlyReads plants.tells (v x) (v y)

  -- a group is read, or its volume was found lost
  abbrev pub IsAddedUnless : Parts P C → Parts P C → Adding → Option ℕ → Type 0
  IsAddedUnless x y a None = AddsGroup plants.tells x.base.config a.group (v x) a.was a.is
  IsAddedUnless x y a (Some volume) = HasFailed x.base.config.groups (a.group ∷ []) volume (v x) (v y)

  -- a group is read alone, by the answer
  pub record HasAdded (x y : Parts P C) (by : MemberId) (a : Adding) (result : Result (Option ℕ) NodeNo) : Type 0
    where
      pub on : HasReadOn x y by
      pub cause : SpoolStops names_volume result by.0 (v x) (v y)
      pub added : IfOk result (IsAddedUnless x y a)

  -- A text of so many lines was read. Where content is told it is as it stands in its groups, if none of them lies on a
  -- volume that was found lost.
  pub record IsTextOf (x y : Parts P C) (groups : List GroupNo) (count : ℕ) (read : Read) : Type 0 where
    pub fits : IsReadable read
    pub counted : IsCounted count read
    pub failed : IsFailedRead x.base.config.groups groups read (v x) (v y)
    pub text : (t : Text) → line_count t ≡ count → plants.tells → AreRoomy (v x) x.base.config
        → IsThereUnless (lost_now (v x)) (spools_at (v x) (v x).now) x.base.config.groups t groups
        → IsReadOf x.base.config.groups t groups read (v x) (v y)

  -- How the text of a job or of an output was read whose groups the member's tables tell. Where content is told it is
  -- as the queue has it, if this has the groups still, and so many lines.
  pub record IsReadThing (x y : Parts P C) (m : Member) (thing : Thing) (count : ℕ) (read : Read) : Type 0 where
    pub fits : IsReadable read
    pub counted : IsCounted count read
    pub failed : IsFailedRead x.base.config.groups (groups_of thing m.checkpoint.tables.owners) read (v x) (v y)
    pub seen : plants.tells → AreRoomy (v x) x.base.config → (text : Text) → text_at thing (queue_of x) ≡ Some text
        → line_count text ≡ count → groups_of thing (queue_of x).owners ≡ groups_of thing m.checkpoint.tables.owners
        → IsReadAs plants.tells x.base.config.groups (text, groups_of thing (queue_of x).owners) (Some read) (v x) (v y)

  pub record HasReadThing (x y : Parts P C) (m : Member) (thing : Thing) (count : ℕ) (result : Result Read NodeNo) :
      Type 0 where
    pub on : HasReadOn x y m.id
    pub cause : SpoolStops names_read result m.id.0 (v x) (v y)
    pub read : IfOk result (IsReadThing x y m thing count)

-- OVER THE SHARED VALUE

module _ {P C : Type 0} {plants : PlantGhosts P} {steadies : SteadyGhosts C} {copies : CopyGhosts C} where
  abbrev pub MayReadGroups : Complex P C plants steadies copies → MemberId → List GroupNo → Type 0
  MayReadGroups x by groups = IsToRead plants (parts_of x) by groups

  abbrev pub MayReadThing : Complex P C plants steadies copies → Member → Type 0
  MayReadThing x m = MayAside plants (parts_of x) m

  abbrev pub ReadsThing : Complex P C plants steadies copies → Complex P C plants steadies copies → Member → Thing → ℕ
      → Result Read NodeNo → Type 0
  ReadsThing x y m thing count result = HasReadThing plants (parts_of x) (parts_of y) m thing count result

  abbrev pub ReadsOn : Complex P C plants steadies copies → Complex P C plants steadies copies → MemberId → Type 0
  ReadsOn x y by = HasReadOn plants (parts_of x) (parts_of y) by

  abbrev pub Adds : Complex P C plants steadies copies → Complex P C plants steadies copies → MemberId → Adding
      → Result (Option ℕ) NodeNo → Type 0
  Adds x y by a result = HasAdded plants (parts_of x) (parts_of y) by a result

  abbrev pub ReadsTextOf : Complex P C plants steadies copies → Complex P C plants steadies copies → List GroupNo → ℕ
      → Read → Type 0
  ReadsTextOf x y groups count read = IsTextOf plants (parts_of x) (parts_of y) groups count read
