-- What stands between two lines of a script that several members play.
use Rattle.std.specs.Prelude.{ℕ, if◌then◌else◌, List, [], ◌∷◌, ◌++◌, Option, Some, None}
use Rattle.std.specs.List.{list_any}
use Rattle.mas_types.specs.declared.ids.MemberId.{MemberId}
use Rattle.mas_types.specs.declared.journals.Entry.{Entry}
use Rattle.mas_types.specs.declared.journals.Fate.{Fate}
use Rattle.mas_types.specs.declared.journals.Fate.TheVariants.{Kept, Dropped, Flying}
use Rattle.mas_types.specs.declared.queues.Queue.{Queue}
use Rattle.mas_types.specs.Ids.{same_member}
use Rattle.mas_types.specs.Run.{run}
use Rattle.lock_cycle.specs.Books.{Book, new_book}
use Rattle.paper_laws.specs.Counts.{Counts, begins_anew, none_printed}
use Rattle.spool_plant.specs.declared.plant.Fuse.{Fuse}

-- BATCHES

-- a batch of a step, and what became of it
pub record Batched : Type 0 where
  pub entries : List Entry
  pub fate : Fate

abbrev pub with_fate : Fate → List Entry → Batched
with_fate fate es = record { entries = es; fate = fate }

-- the entries of a batch with this fate that are kept, and those that are in flight
abbrev pub kept_of : Fate → List Entry → List Entry
kept_of Kept es = es
kept_of Dropped es = []
kept_of Flying es = []

abbrev pub kept_in : List Batched → List Entry
kept_in [] = []
kept_in (b ∷ bs) = kept_of b.fate b.entries ++ kept_in bs

-- a batch in flight, if one is; there is one at most
abbrev pub flies_as : Fate → List Entry → Option (List Entry) → Option (List Entry)
flies_as Kept es rest = rest
flies_as Dropped es rest = rest
flies_as Flying es rest = Some es

abbrev pub flying_in : List Batched → Option (List Entry)
flying_in [] = None
flying_in (b ∷ bs) = flies_as b.fate b.entries (flying_in bs)

-- STOPS THAT ARE ARMED

-- a member that will halt after so many acts, or prints; of prints this counts those that are left
pub record Armed : Type 0 where
  pub member : MemberId
  pub fuse : Fuse
  pub left : ℕ

-- THE SCENE

-- The queue after what is kept; the book of the lock, which says who holds, who is stopped, and what is left of each
-- hold; a batch in flight, whose member stopped as it wrote it; how many lines each member has printed since it last
-- took up an output or moved its mark; and the stops that were armed.
pub record Scene : Type 0 where
  pub queue : Queue
  pub book : Book
  pub flight : Option (List Entry)
  pub counts : Counts
  pub armed : List Armed

-- the scene before the first line
abbrev pub scene_of : Queue → Scene
scene_of Q = record {
  queue = Q;
  book = new_book Q.config.members Q.config.hold Q.config.dormancy;
  flight = None;
  counts = none_printed;
  armed = [];
}

-- what a takeover finds: a batch in flight is kept, or it is dropped, or nothing is found out of it
abbrev pub queue_found : Fate → Option (List Entry) → Queue → Queue
queue_found Kept (Some es) Q = run Q es
queue_found _ _ Q = Q

abbrev pub flight_found : Fate → Option (List Entry) → Option (List Entry)
flight_found Kept flight = None
flight_found Dropped flight = None
flight_found Flying flight = flight

-- PAPER

-- a member's count after it gave these entries
abbrev pub count_then : MemberId → List Entry → ℕ → ℕ
count_then by es count = if list_any (begins_anew by) es then 0 else count

-- the counts, where the member's count is this
abbrev pub with_count : MemberId → ℕ → Counts → Counts
with_count by count counts m = if same_member m by then count else counts m
