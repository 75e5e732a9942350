-- Commands of a unit on a member's tables.
use Rattle.member_work.specs.Names.{JobNo, MemberId, Command, OutSpec, Entry, Queue, outputs_at_end, job_at, is_member, members_most, Tables, HasSpelling, Tell, TellSound, AreFit, run, HasTexts, Spools, HasDone, AreOf, IsFit, IsGiver, UnitEnd, end_by, may_give, reply_to}
use Rattle.std.specs.Prelude.{◌≡◌, ℕ, ◌+◌, ◌*◌, ◌≤◌, ◌<◌, ◌^◌, Bool, false, true, List, [], ◌∷◌, length, take, Result, IfOk}
use Rattle.mas_types.specs.declared.ids.NoMemory.{NoMemory}
use Rattle.track_groups.specs.Groups.{held_by}
use Rattle.queue_texts.specs.Leaving.{brings_text}
use Rattle.member_node.specs.declared.member.Member.{Member}
use Rattle.member_decks.specs.Taking.{GivesAt, asked}
use Rattle.member_work.specs.Spooled.{AreSpooled}
use Rattle.member_work.specs.Steps.{IsUnderWay}
use Rattle.member_work.specs.Units.{groups_for_end, drop_groups, ended_as, taken_end, taking}

-- A member that may give commands for itself: it is one of the configuration, and knows where its tables stand.
pub record CanGive (m : Member) : Type 0 where
  pub some : 1 ≤ m.id.0
  pub by : m.id.0 ≤ members_most
  pub here : m.behind ≡ false
  pub member : is_member m.checkpoint.tables.config m.id ≡ true
  pub spelling : HasSpelling m.checkpoint.tables
  pub fit : AreFit m.checkpoint.tables

-- A member before and after commands of a step, whatever their replies are.
pub record HasGiven (at : ℕ) (m n : Member) : Type 0 where
  pub id : n.id ≡ m.id
  pub room : n.room ≡ m.room
  pub behind : n.behind ≡ m.behind
  pub fresh : n.fresh ≡ m.fresh
  pub level : n.checkpoint.level ≡ m.checkpoint.level
  pub levels : n.checkpoint.levels ≡ m.checkpoint.levels
  pub pages : n.checkpoint.pages ≡ m.checkpoint.pages
  pub config : n.checkpoint.tables.config ≡ m.checkpoint.tables.config
  pub spelling : HasSpelling n.checkpoint.tables
  pub fit : AreFit n.checkpoint.tables
  pub own : AreOf m.id at m.batch → AreOf m.id at n.batch
  pub grows : length m.batch ≤ length n.batch
  pub still : length n.batch ≡ length m.batch → n ≡ m
  pub done : (Q : Queue) → HasDone Q m.batch m.checkpoint → HasDone Q n.batch n.checkpoint
  pub sound : TellSound m.checkpoint.tables → TellSound n.checkpoint.tables
  pub order : n.checkpoint.tables.order + 32 * length m.batch ≤ m.checkpoint.tables.order + 32 * length n.batch

-- what a command asks of a member that gives it, by its tables
pub record IsOwn (m : Member) (c : Command) : Type 0 where
  pub fit : IsFit c
  pub giver : IsGiver m.id c
  pub may : (s : TellSound m.checkpoint.tables) → may_give s.queue m.id c ≡ true

-- a member may give this command
pub record MayGiveOne (m : Member) (c : Command) : Type 0 where
  pub here : m.behind ≡ false
  pub own : IsOwn m c
  pub spelling : HasSpelling m.checkpoint.tables
  pub fit : AreFit m.checkpoint.tables
  pub order : m.checkpoint.tables.order + 32 < 2 ^ 63

-- what a member gives in a step, by the queue: its commands, and how a unit ends with them
pub record Giving : Type 0 where
  pub at : ℕ
  pub commands : Queue → List Command
  pub ends : Queue → UnitEnd

-- one command; one with Drop after it where it was refused; Drop alone, after which a unit ends so; and Take of groups
abbrev pub gives_one : ℕ → MemberId → Command → Giving
gives_one at by c = record { at = at; commands = λ Q. c ∷ []; ends = λ Q. end_by (reply_to Q by c) }

abbrev pub gives_or_drops : ℕ → MemberId → Command → Giving
gives_or_drops at by c = record {
  at = at;
  commands = λ Q. ended_as (reply_to Q by c) c;
  ends = λ Q. end_by (reply_to Q by c);
}

abbrev pub gives_back : ℕ → UnitEnd → Giving
gives_back at end = record { at = at; commands = λ Q. drop_groups ∷ []; ends = λ Q. end }

abbrev pub gives_takes : ℕ → MemberId → ℕ → Giving
gives_takes at by needed = record { at = at; commands = λ Q. taking Q by needed; ends = λ Q. taken_end Q by at needed }

-- At each queue that the tables tell these are given, which leave its texts on volumes where this holds; and the unit
-- ends so, unless memory is out.
pub record GivesAs (g : Giving) (holds : Queue → Spools → ℕ → Type 0) (m n : Member)
    (result : Result UnitEnd NoMemory) : Type 0 where
  pub has : HasGiven g.at m n
  pub gives : (Q : Queue) → Tell m.checkpoint.tables Q → GivesAt (asked Q m.id g.at (g.commands Q)) (holds Q) m n result
  pub end : IfOk result (λ end. (Q : Queue) → Tell m.checkpoint.tables Q → end ≡ g.ends Q)

-- the tables are those of a sound queue, whose texts a command leaves on these volumes
pub record LeavesTexts (t : Tables) (Q : Queue) (e : Entry) (disks : Spools) (per : ℕ) : Type 0 where
  pub sound : TellSound t
  pub leaves : (gone : ℕ → Bool) → HasTexts gone disks per Q → HasTexts gone disks per (run Q (e ∷ []))

-- the command brings no text, and is given to tables of a sound queue
abbrev pub IsSoundPlain : Tables → Command → Type 0
IsSoundPlain t c = TellSound t × (brings_text c ≡ false)

-- the job may end, and its outputs stand in the lowest groups of the member
pub record MayEnd (Q : Queue) (by : MemberId) (n : JobNo) (specs : List OutSpec) (disks : Spools) (per : ℕ)
    : Type 0 where
  pub under_way : IsUnderWay Q by n
  pub spooled : AreSpooled disks per (outputs_at_end (job_at Q n) specs)
      (take (groups_for_end Q n specs) (held_by by Q.owners))
