-- What a pass knows, and how its steps change it.
use Rattle.std.specs.Prelude.{◌≡◌, ℕ, ◌+◌, ◌<◌, Bool, true, false, if◌then◌else◌, List, [], ◌∷◌, ◌++◌, length, replicate, slice_set}
use Rattle.mas_types.specs.declared.journals.Entry.{Entry}
use Rattle.mas_types.specs.Starts.{no_queue}
use Rattle.gate_facts.specs.declared.facts.Facts.{Facts}
use Rattle.gate_facts.specs.declared.marks.Marks.{Marks}
use Rattle.gate_facts.specs.Values.{StartsWith, marked_at, no_desk, begun_of, stopped_of, desk_of, lines_of, entries_by}
use Rattle.gate_facts.specs.Memory.{seats, Memory, Knows, MayGiveBack, EachOf}
use Rattle.gate_facts.specs.Ways.{EachWay}
use Rattle.member_gate.specs.declared.view.View.{View}
use Rattle.member_gate.specs.declared.view.Sight.{Sight}
use Rattle.member_gate.specs.Marking.{marked, grown, single, either_of, longer, greatest, chosen}

-- what the pass knows of the value in one of the two ways
abbrev pub sight : View → Bool → Sight
sight v told = if told then v.told else v.bare

-- the entries that became kept in the pass's turns
abbrev pub mine : View → Bool → List Entry
mine v told = marked v.own (sight v told).last.kept

abbrev pub CaresFor : View → ℕ → Type 0
CaresFor v m = marked_at v.cares m ≡ true

-- what is remembered of a value by one who cares for these members. Of stops and desks it is its member's
abbrev pub memory_by : List Bool → Sight → Memory
memory_by cares s = record {
  base = s.last.base;
  seen = s.last.kept;
  cares = cares;
  begun = begun_of s.last;
  lines = lines_of s.last;
  stopped = λ m. s.stopped;
  desk = λ m. s.desk;
  marks = s.last.marks;
}

-- what the pass remembers
abbrev pub memory_in : View → Bool → Memory
memory_in v told = memory_by v.cares (sight v told)

-- what the value may be at the pass's turn
abbrev pub Meets : View → Bool → Facts → Type 0
Meets v told is = Knows v.member (memory_in v told) is

-- what a pass that has the turn may give back
abbrev pub MayEnd : View → Bool → Facts → Type 0
MayEnd v told is = MayGiveBack v.member v.cares (sight v told).out is

-- Of each member whose pass it is, or has taken in, and that isn't stopped, the value's entries are those that became
-- kept in the pass's turns
abbrev pub HasAll : View → Bool → Facts → Type 0
HasAll v told is = (m : ℕ) → 0 < m → marked_at v.holds m ≡ true → stopped_of is m ≡ false
    → entries_by m is.kept ≡ entries_by m (mine v told)

-- the list begins with each of these
abbrev pub AllBegin : List Entry → List (List Entry) → Type 0
AllBegin kept [] = Unit {0}
AllBegin kept (seen ∷ more) = StartsWith kept seen × AllBegin kept more

-- what the passes that it took in had seen is the beginning of what is kept
abbrev pub HasHeard : View → Bool → Facts → Type 0
HasHeard v told is = AllBegin is.kept (sight v told).heard

-- what the pass finds at its turn
abbrev pub Finds : Type 0 → View → (Bool → Facts) → Type 0
Finds tells v is = EachWay tells
    (λ told. Meets v told (is told) × HasAll v told (is told) × HasHeard v told (is told))

-- the value that the pass gives back is one that it may give back
abbrev pub MayLeave : Type 0 → View → (Bool → Facts) → Type 0
MayLeave tells v is = EachWay tells (λ told. MayEnd v told (is told))

-- what becomes kept in the turn is the pass's own
abbrev pub MineGrows : Type 0 → View → View → (Bool → Facts) → Type 0
MineGrows tells v w is = EachWay tells (λ told. (more : List Entry)
    → (is told).kept ≡ (sight v told).out.kept ++ more → mine w told ≡ mine v told ++ more)

-- what a new gate may begin with
pub record MayBegin (is : Facts) : Type 0 where
  pub kept : EachOf (λ e. e.by.0 ≡ 0) is.kept
  pub stopped : (m : ℕ) → stopped_of is m ≡ false
  pub desks : (m : ℕ) → 0 < m → desk_of is m ≡ no_desk

-- A STEP OF A PASS

-- a try found this number, and the turn wasn't free
abbrev pub refused : View → ℕ → View
refused v found = record v { tries = v.tries + 1; met = found }

-- the view after this many tries, of which the last found this number
abbrev pub after_tries : View → ℕ → ℕ → View
after_tries v n found = record v { tries = n; met = found }

-- this value was taken
abbrev pub with_out : Sight → Facts → Sight
with_out s is = record s { out = is }

-- the n-th try took the turn, and this value with it
abbrev pub taking : View → ℕ → (Bool → Facts) → View
taking v n is = record v {
  has = true;
  tries = n;
  met = 0;
  bare = with_out v.bare (is false);
  told = with_out v.told (is true);
}

-- what a member's pass knows that will give this value back
abbrev pub sees : ℕ → Facts → Sight
sees m is = record { stopped = stopped_of is m; last = is; desk = desk_of is m; out = is; heard = [] }

-- it has heard from other passes what it had
abbrev pub seeing : Sight → ℕ → Facts → Sight
seeing s m is = record (sees m is) { heard = s.heard }

-- the number of entries is stored: from now on the pass knows the value that it will give back, and what was added is
-- its own
abbrev pub counting : View → (Bool → Facts) → View
counting v is = record v {
  own = grown v.own (length v.bare.out.kept) (length (is false).kept);
  bare = seeing v.bare v.member (is false);
  told = seeing v.told v.member (is true);
}

-- the turn is given up
abbrev pub ending : View → View
ending v = record v { has = false }

-- the gate is made except its value
abbrev pub opened : View → View
opened v = record v { opening = false }

-- the old pass after a split for a member
abbrev pub giving : ℕ → View → View
giving m v = record v { cares = slice_set v.cares m false; given = either_of v.given (single m) }

-- what a new pass knows of the value
abbrev pub handed : Sight → Sight
handed s = record s { stopped = false; desk = no_desk; heard = [] }

-- the new pass
abbrev pub given_to : ℕ → View → View
given_to m v = record {
  live = true;
  root = false;
  opening = false;
  has = false;
  member = m;
  tries = 0;
  met = 0;
  own = [];
  cares = single m;
  holds = single m;
  given = [];
  bare = handed v.bare;
  told = handed v.told;
}

-- no value
abbrev pub nothing : Facts
nothing = record {
  base = no_queue;
  kept = [];
  begun = [];
  stopped = [];
  desks = [];
  lines = [];
  marks = record
      { since = 0; faults = []; loses = []; arms = []; stops = []; lost = [] };
}

-- the first pass, which still has to put the value into its slot
abbrev pub opener : (Bool → Facts) → View
opener is = record {
  live = true;
  root = true;
  opening = true;
  has = true;
  member = 0;
  tries = 0;
  met = 0;
  own = [];
  cares = replicate seats true;
  holds = single 0;
  given = [];
  bare = sees 0 (is false);
  told = sees 0 (is true);
}

-- a pass that was taken in
abbrev pub spent : View
spent = record {
  live = false;
  root = false;
  opening = false;
  has = false;
  member = 0;
  tries = 0;
  met = 0;
  own = [];
  cares = [];
  holds = [];
  given = [];
  bare = sees 0 nothing;
  told = sees 0 nothing;
}

-- the marks that two passes know: the greater of each count, and every loss that one of the two knows
abbrev pub both_marks : Marks → Marks → Marks
both_marks a b = record {
  since = a.since;
  faults = greatest a.faults b.faults;
  loses = greatest a.loses b.loses;
  arms
      = a.arms;
  stops = greatest a.stops b.stops;
  lost = either_of a.lost b.lost;
}

-- the facts that two passes know: the second's of the members for which it cares, and else the first's
abbrev pub both_facts : List Bool → Facts → Facts → Facts
both_facts cs a b = record a {
  kept = longer a.kept b.kept;
  begun = chosen [] cs b.begun a.begun;
  lines = chosen [] cs
      b.lines a.lines;
  marks = both_marks a.marks b.marks;
}

-- what two passes know of the value
abbrev pub both_sights : List Bool → Sight → Sight → Sight
both_sights cs s t =
    record s { last = both_facts cs s.last t.last; heard = s.heard ++ t.last.kept ∷ t.heard }

-- the first pass, once it took in the second
abbrev pub joined : View → View → View
joined v w = record v {
  own = either_of v.own w.own;
  cares = either_of v.cares w.cares;
  holds = either_of v.holds w.holds;
  bare = both_sights w.cares v.bare w.bare;
  told = both_sights w.cares v.told w.told;
}
