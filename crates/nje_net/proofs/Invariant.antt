-- What holds of a net at every moment. Of each job one copy lives: it has arrived, or a node holds it whose line has
-- not yet handed it on. Over a line the other end has got what was acknowledged, or that and the current job.
use Rattle.std.proofs.Common.{◌≡◌, ℕ, zero, suc, ◌+◌, ◌<◌, ◌≤◌, ◌⊎◌, Bool, true, false, ◌&&◌, ◌||◌, ◌==◌, nat_lt, List, [], ◌∷◌, length, map, Some, refl, ap, ◌∙◌, arith}
use Rattle.std.specs.List.{AllByRecursion, filter}
use Rattle.std.proofs.lemmas.Bool.Decides.{nat_tests}
use Rattle.mas_types.specs.declared.ids.Name8.{Name8}
use Rattle.nje_net.specs.declared.nets.End.{End}
use Rattle.nje_net.specs.declared.nets.Net.{Net}
use Rattle.nje_net.specs.declared.worlds.Held.{Held}
use Rattle.nje_net.specs.declared.worlds.NetFrame.{NetFrame}
use Rattle.nje_net.specs.declared.worlds.NetAck.{NetAck}
use Rattle.nje_net.specs.declared.worlds.NetLine.{NetLine}
use Rattle.nje_net.specs.declared.worlds.NetWorld.{NetWorld}
use Rattle.nje_net.specs.Numbered.{item, numbered}
use Rattle.nje_net.specs.Nets.{is_node, is_line, end_at}
use Rattle.nje_net.specs.Worlds.{line_in, line_at, held_at}
use Rattle.nje_net.specs.Events.{is_on, has_job}
use Rattle.nje_net.specs.Lossless.{has_id, is_job, IsAtItsNode, IsForItsNode}
use Rattle.nje_net.proofs.Tests.{test_cases, is_other}
use Rattle.nje_net.proofs.Counts.{one_if, count, total, total_changed}
use Rattle.nje_net.proofs.Writes.{Lines, IsInside}

-- the number that an end of a line has got
abbrev pub got_in : Lines → End → ℕ
got_in lines e = (line_in lines e.node e.line).got

-- a job that waits lives, and one on a line that the other end has not got
abbrev pub is_live : Net → Lines → ℕ → ℕ → Bool
is_live net lines n l = (l == 0) || (got_in lines (end_at net n l) == (line_in lines n l).sent)

abbrev pub live_in : Net → Lines → ℕ → ℕ → Held → Bool
live_in net lines id n h = is_job id h && is_live net lines n h.line

-- how many of its copies live
abbrev pub lives : Net → Lines → List (List Held) → ℕ → ℕ
lives net lines held id = total (λ (j : ℕ). live_in net lines id (suc j)) held

-- the current job, if there is one
abbrev pub ids_of : ℕ → List ℕ
ids_of zero = []
ids_of (suc i) = suc i ∷ []

abbrev pub id_of : Held → ℕ
id_of h = h.id

abbrev pub ids_on : ℕ → List Held → List ℕ
ids_on l hs = map id_of (filter (is_on l) hs)

-- what the other end of a line has got
abbrev pub IsWindow : NetLine → ℕ → Type 0
IsWindow x g = (g ≡ x.sent) ⊎ ((g ≡ x.sent + 1) × (has_job x ≡ true))

-- a frame of a line is an old one, or has the current job
abbrev pub IsNumbered : ℕ → ℕ → NetLine → Type 0
IsNumbered number id x = (number ≤ x.sent) ⊎ ((number ≡ x.sent + 1) × (id ≡ x.current))

pub record IsFrame (dests : List Name8) (lines : Lines) (f : NetFrame) : Type 0 where
  pub known : numbered f.id dests ≡ Some f.dest
  pub number : IsNumbered f.number f.id (line_in lines f.node f.line)

abbrev pub IsAck : Lines → NetAck → Type 0
IsAck lines a = a.number ≤ (line_in lines a.node a.line).got

-- `want` says how many copies of a job live
pub record Holds (net : Net) (dests : List Name8) (want : ℕ → ℕ) (w : NetWorld) : Type 0 where
  pub held_long : length w.held ≡ length net.nodes
  pub lines_long : (n l : ℕ) → is_node net n ≡ true → is_line l ≡ true → IsInside w.lines n l
  pub slots : (n l : ℕ) → (l == 0) ≡ false → ids_on l (held_at w n) ≡ ids_of (line_at w n l).current
  pub windows : (n l : ℕ) → IsWindow (line_at w n l) (got_in w.lines (end_at net n l))
  pub counted : (id : ℕ) → count (has_id id) w.arrived + lives net w.lines w.held id ≡ want id
  pub known : AllByRecursion (AllByRecursion (IsForItsNode dests)) w.held
  pub there : AllByRecursion (IsAtItsNode net dests) w.arrived
  pub frames : AllByRecursion (IsFrame dests w.lines) w.frames
  pub acks : AllByRecursion (IsAck w.lines) w.acks

-- one copy of each job that was entered
abbrev pub wanted : ℕ → ℕ → ℕ
wanted k zero = 0
wanted k (suc i) = one_if (nat_lt i k)

pub record Inv (net : Net) (dests : List Name8) (w : NetWorld) : Type 0 where
  pub entered : w.entered ≡ length dests
  pub holds : Holds net dests (wanted w.entered) w

-- the count that is wanted of each job, where one more job is entered
pub one_more : (k i : ℕ) → wanted (k + 1) i ≡ wanted k i + one_if (k + 1 == i)
one_more k zero = let none : (k + 1 == 0) ≡ false = is_other (k + 1) 0 (λ e. omega arith) in rw none refl
one_more k (suc i) =
    test_cases (nat_lt i k) (one_if (nat_lt i (k + 1)) ≡ one_if (nat_lt i k) + one_if (k + 1 == suc i))
    (λ e.
    let below : nat_lt i (k + 1) ≡ true = grind (arith, nat_tests) in
    let apart : (k + 1 == suc i) ≡ false = grind (arith, nat_tests) in
    rw (e, below, apart) refl)
    (λ e.
    test_cases (k + 1 == suc i) (one_if (nat_lt i (k + 1)) ≡ one_if (nat_lt i k) + one_if (k + 1 == suc i))
    (λ s. let below : nat_lt i (k + 1) ≡ true = grind (arith, nat_tests) in rw (e, below, s) refl)
    (λ s. let above : nat_lt i (k + 1) ≡ false = grind (arith, nat_tests) in rw (e, above, s) refl))

-- ONE NODE'S JOBS CHANGE

-- the copies that live, where those of one node are more or fewer than before
pub lives_at : (net : Net) (lines lines' : Lines) (held held' : List (List Held)) (id n a b : ℕ) → length held ≡ length held' → 1 ≤ n → n ≤ length held
    → ((m : ℕ) → (m == n) ≡ false → count (live_in net lines' id m) (item [] m held') ≡ count (live_in net lines id m) (item [] m held))
    → a + count (live_in net lines' id n) (item [] n held') ≡ b + count (live_in net lines id n) (item [] n held)
    → a + lives net lines' held' id ≡ b + lives net lines held id
lives_at net lines lines' held held' id zero a b long low high others here = let no : ⊥ = omega arith in absurd no
lives_at net lines lines' held held' id (suc k) a b long low high others here =
    let within : k < length held = omega arith in
    total_changed k a b (λ (j : ℕ). live_in net lines id (suc j)) (λ (j : ℕ). live_in net lines' id (suc j)) held held' long within
    (λ j apart. others (suc j) (apart_too j k apart)) here
  where
    apart_too : (j k : ℕ) → (j == k) ≡ false → (suc j == suc k) ≡ false
    apart_too j k h = grind (arith, nat_tests)

-- a line's numbers that stay keep what lives
pub live_kept : (net : Net) (lines lines' : Lines) (n l : ℕ) → got_in lines' (end_at net n l) ≡ got_in lines (end_at net n l)
    → (line_in lines' n l).sent ≡ (line_in lines n l).sent → is_live net lines' n l ≡ is_live net lines n l
live_kept net lines lines' n l got sent =
    ap (λ (g : ℕ). (l == 0) || (g == (line_in lines' n l).sent)) got
    ∙ ap (λ (s : ℕ). (l == 0) || (got_in lines (end_at net n l) == s)) sent

-- MORE JOBS ARE KNOWN

pub recounted : (net : Net) (dests : List Name8) (want want' : ℕ → ℕ) (w : NetWorld) → ((i : ℕ) → want i ≡ want' i) → Holds net dests want w → Holds net dests want' w
recounted net dests want want' w same h = record {
  held_long = h.held_long;
  lines_long = h.lines_long;
  slots = h.slots;
  windows = h.windows;
  counted = λ i. h.counted i ∙ same i;
  known = h.known;
  there = h.there;
  frames = h.frames;
  acks = h.acks;
}
