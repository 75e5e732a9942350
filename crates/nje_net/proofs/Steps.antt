-- Each event keeps what holds of a net.
use Rattle.std.proofs.Common.{◌≡◌, ℕ, zero, suc, ◌+◌, ◌≤◌, inl, inr, Bool, true, false, ◌&&◌, ◌||◌, ◌==◌, List, [], ◌∷◌, ◌++◌, length, map, Option, Some, None, refl, ap, sym, ◌∙◌, subst, arith}
use Rattle.std.specs.List.{AllByRecursion, find}
use Rattle.mas_types.specs.declared.ids.Name8.{Name8}
use Rattle.mas_types.specs.declared.queues.Route.{Route}
use Rattle.mas_types.specs.Ids.{same_name}
use Rattle.mas_types.specs.Lists.{change_first, without_first}
use Rattle.nje_net.specs.declared.nets.End.{End}
use Rattle.nje_net.specs.declared.nets.Net.{Net}
use Rattle.nje_net.specs.declared.worlds.Held.{Held}
use Rattle.nje_net.specs.declared.worlds.NetFrame.{NetFrame}
use Rattle.nje_net.specs.declared.worlds.NetAck.{NetAck}
use Rattle.nje_net.specs.declared.worlds.NetLine.{NetLine}
use Rattle.nje_net.specs.declared.worlds.NetWorld.{NetWorld}
use Rattle.nje_net.specs.Numbered.{item, numbered, change_item}
use Rattle.nje_net.specs.Nets.{node_at, is_node, is_line, end_at}
use Rattle.nje_net.specs.Worlds.{line_in, line_at, put_line, held_at}
use Rattle.nje_net.specs.Events.{arrived_at, waiting_job, arrives, with_job, is_held, job_at, waits_for, on_line, first_id, has_current, loaded, is_on, frames_of, has_job, ack_of, acknowledges}
use Rattle.nje_net.specs.Lossless.{has_id, is_job, IsAtItsNode, IsForItsNode}
use Rattle.nje_net.proofs.Tests.{test_cases, and_left, same_number, is_itself, is_other, turned_round, all_weaker, all_append, all_push}
use Rattle.nje_net.proofs.Items.{item_length, item_kept, item_same, item_other, all_item, all_change_item, numbered_some}
use Rattle.nje_net.proofs.Counts.{one_if, count, count_same, count_push, count_changed, filter_changed, filter_push}
use Rattle.nje_net.proofs.Writes.{Lines, IsInside, line_same, line_other, each_line, kept_in_lines, inside_still, each_held, each_held_inside}
use Rattle.nje_net.proofs.Joined.{node_inside}
use Rattle.nje_net.proofs.Invariant.{got_in, is_live, live_in, lives, ids_of, id_of, ids_on, IsWindow, IsNumbered, IsFrame, IsAck, Holds, lives_at, live_kept}

-- SMALL FACTS

and_true : (p : Bool) → (p && true) ≡ p
and_true true = refl
and_true false = refl

and_false : (p : Bool) → (p && false) ≡ false
and_false true = refl
and_false false = refl

or_true : (p : Bool) → (p || true) ≡ true
or_true true = refl
or_true false = refl

-- the list of one job, by its number
pub only : (xs : List Held) (c : ℕ) → map id_of xs ≡ ids_of c → length xs ≤ 1
only [] c h = omega arith
only (x ∷ []) c h = omega arith
only (x ∷ (y ∷ xs)) zero h = absurd (cc)
only (x ∷ (y ∷ xs)) (suc c) h = absurd (cc)

-- how many copies of a job are on a line
pub count_on : (id l : ℕ) (hs : List Held) → count (λ h. is_job id h && is_on l h) hs ≡ count (λ i. i == id) (ids_on l hs)
count_on id l [] = refl
count_on id l (h ∷ hs) =
    test_cases (is_on l h) (count (λ h. is_job id h && is_on l h) (h ∷ hs) ≡ count (λ i. i == id) (ids_on l (h ∷ hs)))
    (λ e. rw (e, and_true (is_job id h)) (ap (λ (n : ℕ). one_if (is_job id h) + n) (count_on id l hs)))
    (λ e. let rest = count_on id l hs in rw (e, and_false (is_job id h)) (omega arith))

pub one_current : (id c : ℕ) → (c == 0) ≡ false → count (λ i. i == id) (ids_of c) ≡ one_if (c == id)
one_current id zero some = absurd (cc)
one_current id (suc c) some = omega arith

-- the job that a test finds on a line is the current one
found_current : (l c : ℕ) (hs : List Held) (h : Held) → find (is_on l) hs ≡ Some h → ids_on l hs ≡ ids_of c → h.id ≡ c
found_current l c [] h found is = absurd (cc)
found_current l c (x ∷ hs) h found is =
    test_cases (is_on l x) (h.id ≡ c)
    (λ e.
    let here : Some x ≡ Some h = rw e at found in
    let ids : (x.id ∷ ids_on l hs) ≡ ids_of c = rw e at is in
    let same : x ≡ h = cc in
    ap id_of (sym same) ∙ first c ids)
    (λ e. found_current l c hs h (rw e at found) (rw e at is))
  where
    first : (c : ℕ) → (x.id ∷ ids_on l hs) ≡ ids_of c → x.id ≡ c
    first zero ids = absurd (cc)
    first (suc c) ids = cc

found_all : (P : Held → Type 0) (test : Held → Bool) (hs : List Held) (h : Held) → AllByRecursion P hs → find test hs ≡ Some h → P h
found_all P test [] h all found = absurd (cc)
found_all P test (x ∷ hs) h all found =
    test_cases (test x) (P h)
    (λ e. let here : Some x ≡ Some h = rw e at found in let same : x ≡ h = cc in subst P same all.0)
    (λ e. found_all P test hs h all.1 (rw e at found))

all_changed : (P : Held → Type 0) (test : Held → Bool) (f : Held → Held) → ((x : Held) → P x → P (f x)) → (hs : List Held) → AllByRecursion P hs
    → AllByRecursion P (change_first test f hs)
all_changed P test f keeps [] all = tt
all_changed P test f keeps (x ∷ hs) all =
    test_cases (test x) (AllByRecursion P (change_first test f (x ∷ hs)))
    (λ e. rw e (keeps x all.0, all.1))
    (λ e. rw e (all.0, all_changed P test f keeps hs all.1))

pub all_without : (P : Held → Type 0) (test : Held → Bool) (hs : List Held) → AllByRecursion P hs → AllByRecursion P (without_first test hs)
all_without P test [] all = tt
all_without P test (x ∷ hs) all =
    test_cases (test x) (AllByRecursion P (without_first test (x ∷ hs)))
    (λ e. rw e all.1)
    (λ e. rw e (all.0, all_without P test hs all.1))

-- the first job that waits for a line is the only one on it
slot_loaded : (dests : List Name8) (routes : List Route) (l : ℕ) → (l == 0) ≡ false → (hs : List Held) → AllByRecursion (IsForItsNode dests) hs → ids_on l hs ≡ []
    → ids_on l (change_first (waits_for routes l) (on_line l) hs) ≡ ids_of (first_id (waits_for routes l) hs)
slot_loaded dests routes l some [] known none = refl
slot_loaded dests routes l some (x ∷ hs) known none =
    test_cases (waits_for routes l x) (ids_on l (change_first (waits_for routes l) (on_line l) (x ∷ hs)) ≡ ids_of (first_id (waits_for routes l) (x ∷ hs)))
    (λ e.
    let waits : (x.line == 0) ≡ true = and_left (x.line == 0) _ e in
    let zero_line : x.line ≡ 0 = same_number x.line 0 waits in
    let off : is_on l x ≡ false = rw zero_line (turned_round l 0 some) in
    let rest : ids_on l hs ≡ [] = rw off at none in
    let on : is_on l (on_line l x) ≡ true = is_itself l in
    rw (e, on, rest) (numbered_id x.id known.0))
    (λ e.
    test_cases (is_on l x) (ids_on l (change_first (waits_for routes l) (on_line l) (x ∷ hs)) ≡ ids_of (first_id (waits_for routes l) (x ∷ hs)))
    (λ k. absurd (let there = rw k at none in cc))
    (λ k. rw (e, k) (slot_loaded dests routes l some hs known.1 (rw k at none))))
  where
    numbered_id : (i : ℕ) {d : Name8} → numbered i dests ≡ Some d → (i ∷ []) ≡ ids_of i
    numbered_id zero h = absurd (numbered_some zero dests _ h refl)
    numbered_id (suc i) h = refl

-- A JOB AT A NODE

module _ (net : Net) (dests : List Name8) (want want' : ℕ → ℕ) (w : NetWorld) (h : Holds net dests want w) where
  pub arrives_holds : (id n : ℕ) (dest : Name8) → is_node net n ≡ true → numbered id dests ≡ Some dest → same_name (node_at net n).name dest ≡ true
      → (node_at net n).name ≡ dest → ((i : ℕ) → want' i ≡ want i + one_if (id == i)) → Holds net dests want' (arrives id n w)
  arrives_holds id n dest there known is same more = record {
    held_long = h.held_long;
    lines_long = h.lines_long;
    slots = h.slots;
    windows = h.windows;
    counted = λ i.
        let pushed : count (has_id i) (w.arrived ++ arrived_at id n ∷ []) ≡ count (has_id i) w.arrived + one_if (id == i) = count_push (has_id i) w.arrived (arrived_at id n) in
        let was = h.counted i in
        let is_more = more i in
        omega arith;
    known = h.known;
    there = all_push (IsAtItsNode net dests) w.arrived (arrived_at id n) h.there (there, known ∙ ap (λ (d : Name8). Some d) (sym same));
    frames = h.frames;
    acks = h.acks;
  }

  pub held_holds : (id n : ℕ) (dest : Name8) → is_node net n ≡ true → numbered id dests ≡ Some dest → ((i : ℕ) → want' i ≡ want i + one_if (id == i))
      → Holds net dests want' (is_held n (waiting_job id dest) w)
  held_holds id n dest there known more =
      let job : Held = waiting_job id dest in
      let f : List Held → List Held = with_job job in
      let inside = node_inside net n there in
      let low : 1 ≤ n = inside.0 in
      let high : n ≤ length w.held = (let long = h.held_long in let top = inside.1 in omega arith) in
      let long' : length w.held ≡ length (change_item n f w.held) = sym (item_length f n w.held) in
      let here : item [] n (change_item n f w.held) ≡ f (item [] n w.held) = item_same [] f n w.held low high in
      record {
        held_long = item_length f n w.held ∙ h.held_long;
        lines_long = h.lines_long;
        slots = λ m l some.
            each_held_inside (λ (j : ℕ) (hs : List Held). ids_on l hs ≡ ids_of (line_at w j l).current) n f w.held low high
            (ap (map id_of) (filter_push (is_on l) (held_at w n) job (turned_round l 0 some)) ∙ h.slots n l some)
            (λ j apart. h.slots j l some) m;
        windows = h.windows;
        counted = λ i.
            let live : live_in net w.lines i n job ≡ (id == i) = and_true (id == i) in
            let pushed : count (live_in net w.lines i n) (f (item [] n w.held)) ≡ count (live_in net w.lines i n) (item [] n w.held) + one_if (id == i) =
            count_push (live_in net w.lines i n) (item [] n w.held) job ∙ ap (λ (b : Bool). count (live_in net w.lines i n) (item [] n w.held) + one_if b) live in
            let placed : count (live_in net w.lines i n) (item [] n (change_item n f w.held)) ≡ count (live_in net w.lines i n) (f (item [] n w.held)) =
            ap (count (live_in net w.lines i n)) here in
            let all = lives_at net w.lines w.lines w.held (change_item n f w.held) i n 0 (one_if (id == i)) long' low high
            (λ m apart. ap (count (live_in net w.lines i m)) (item_other [] f n m w.held apart)) (omega arith) in
            let was = h.counted i in
            let is_more = more i in
            omega arith;
        known =
            all_change_item (AllByRecursion (IsForItsNode dests)) f (λ hs all. all_push (IsForItsNode dests) hs job all known) n w.held h.known;
        there = h.there;
        frames = h.frames;
        acks = h.acks;
      }

  pub job_at_holds : (id n : ℕ) (dest : Name8) → is_node net n ≡ true → numbered id dests ≡ Some dest
      → (same_name (node_at net n).name dest ≡ true → (node_at net n).name ≡ dest)
      → ((i : ℕ) → want' i ≡ want i + one_if (id == i)) → Holds net dests want' (job_at net n id dest w)
  job_at_holds id n dest there known same more =
      test_cases (same_name (node_at net n).name dest) (Holds net dests want' (job_at net n id dest w))
      (λ e. rw e (arrives_holds id n dest there known e (same e) more))
      (λ e. rw e (held_holds id n dest there known more))

-- ACKNOWLEDGEMENTS AND FRAMES ARE GIVEN

module _ (net : Net) (dests : List Name8) (want : ℕ → ℕ) (w : NetWorld) (h : Holds net dests want w) where
  pub acknowledges_holds : (e : End) (number : ℕ) → number ≤ (line_at w e.node e.line).got → Holds net dests want (acknowledges e number w)
  acknowledges_holds e number got = record {
    held_long = h.held_long;
    lines_long = h.lines_long;
    slots = h.slots;
    windows = h.windows;
    counted = h.counted;
    known = h.known;
    there = h.there;
    frames = h.frames;
    acks = all_push (IsAck w.lines) w.acks (ack_of e number) h.acks got;
  }

  framed : (n l : ℕ) (o : Option Held) → find (is_on l) (held_at w n) ≡ o → has_job (line_at w n l) ≡ true
      → AllByRecursion (IsFrame dests w.lines) (frames_of n l ((line_at w n l).sent + 1) o)
  framed n l None found some = tt
  framed n l (Some job) found some =
      let on : (l == 0) ≡ false = is_other l 0 (λ e. no_line_there e) in
      let known : IsForItsNode dests job =
      found_all (IsForItsNode dests) (is_on l) (held_at w n) job (all_item [] (AllByRecursion (IsForItsNode dests)) tt n w.held h.known) found in
      let current : job.id ≡ (line_at w n l).current = found_current l (line_at w n l).current (held_at w n) job found (h.slots n l on) in
      (record { known = known; number = inr (refl, current) }, tt)
    where
      no_line_there : l ≡ 0 → ⊥
      no_line_there e =
          let none : has_job (line_at w n 0) ≡ true = subst (λ (k : ℕ). has_job (line_at w n k) ≡ true) e some in
          cc

  pub give_holds : (n l : ℕ) → has_job (line_at w n l) ≡ true
      → Holds net dests want (record w { frames = w.frames ++ frames_of n l ((line_at w n l).sent + 1) (find (is_on l) (held_at w n)) })
  give_holds n l some = record {
    held_long = h.held_long;
    lines_long = h.lines_long;
    slots = h.slots;
    windows = h.windows;
    counted = h.counted;
    known = h.known;
    there = h.there;
    frames = all_append (IsFrame dests w.lines) w.frames _ h.frames (framed n l (find (is_on l) (held_at w n)) refl some);
    acks = h.acks;
  }

-- A LINE CHANGES

-- a frame is as before on another line
pub frames_kept : (dests : List Name8) (n l : ℕ) (x : NetLine) (lines : Lines) → IsInside lines n l
    → ((f : NetFrame) → numbered f.id dests ≡ Some f.dest → IsNumbered f.number f.id (line_in lines n l) → IsNumbered f.number f.id x)
    → (fs : List NetFrame) → AllByRecursion (IsFrame dests lines) fs → AllByRecursion (IsFrame dests (put_line n l x lines)) fs
frames_kept dests n l x lines inside keeps fs all =
    all_weaker (IsFrame dests lines) (IsFrame dests (put_line n l x lines))
    (λ f was. record {
      known = was.known;
      number =
          each_line (λ (m k : ℕ) (y : NetLine). IsNumbered f.number f.id (line_in lines m k) → IsNumbered f.number f.id y) n l x lines inside
          (keeps f was.known) (λ m k apart number. number) f.node f.line was.number;
    }) fs all

pub acks_kept : (n l : ℕ) (x : NetLine) (lines : Lines) → IsInside lines n l → (line_in lines n l).got ≤ x.got
    → (acks : List NetAck) → AllByRecursion (IsAck lines) acks → AllByRecursion (IsAck (put_line n l x lines)) acks
acks_kept n l x lines inside grows acks all =
    all_weaker (IsAck lines) (IsAck (put_line n l x lines))
    (λ a was.
    each_line (λ (m k : ℕ) (y : NetLine). a.number ≤ (line_in lines m k).got → a.number ≤ y.got) n l x lines inside
    (λ got. omega arith) (λ m k apart got. got) a.node a.line was) acks all

-- A JOB GOES ON A LINE

module _ (net : Net) (dests : List Name8) (want : ℕ → ℕ) (w : NetWorld) (h : Holds net dests want w) where
  pub loaded_holds : (routes : List Route) (n l : ℕ) → is_node net n ≡ true → is_line l ≡ true → (l == 0) ≡ false → (line_at w n l).current ≡ 0
      → Holds net dests want (loaded routes w n l)
  loaded_holds routes n l there line some idle =
      let test : Held → Bool = waits_for routes l in
      let f : List Held → List Held = change_first test (on_line l) in
      let c : ℕ = first_id test (held_at w n) in
      let x : NetLine = has_current c (line_at w n l) in
      let lines' : Lines = put_line n l x w.lines in
      let held' : List (List Held) = change_item n f w.held in
      let inside = h.lines_long n l there line in
      let low : 1 ≤ n = (node_inside net n there).0 in
      let high : n ≤ length w.held = (let long = h.held_long in let top = (node_inside net n there).1 in omega arith) in
      let got_kept : (m k : ℕ) → (line_in lines' m k).got ≡ (line_in w.lines m k).got = kept_in_lines (λ y. y.got) n l x w.lines inside refl in
      let sent_kept : (m k : ℕ) → (line_in lines' m k).sent ≡ (line_in w.lines m k).sent = kept_in_lines (λ y. y.sent) n l x w.lines inside refl in
      let same : (m k : ℕ) → is_live net lines' m k ≡ is_live net w.lines m k =
      λ m k. live_kept net w.lines lines' m k (got_kept (end_at net m k).node (end_at net m k).line) (sent_kept m k) in
      let nothing_on : ids_on l (held_at w n) ≡ [] = h.slots n l some ∙ ap ids_of idle in
      let sent_all : got_in w.lines (end_at net n l) ≡ (line_at w n l).sent = idle_window (line_at w n l) (got_in w.lines (end_at net n l)) idle (h.windows n l) in
      let lives_on : is_live net w.lines n l ≡ true =
      ap (λ (g : ℕ). (l == 0) || (g == (line_at w n l).sent)) sent_all
      ∙ (ap (λ (b : Bool). (l == 0) || b) (is_itself (line_at w n l).sent) ∙ or_true (l == 0)) in
      let known_here : AllByRecursion (IsForItsNode dests) (held_at w n) = all_item [] (AllByRecursion (IsForItsNode dests)) tt n w.held h.known in
      record {
        held_long = item_length f n w.held ∙ h.held_long;
        lines_long = λ m k t i. inside_still n l x w.lines m k (h.lines_long m k t i);
        slots = λ m k on.
            each_held (λ (j : ℕ) (hs : List Held). ids_on k hs ≡ ids_of (line_in lines' j k).current) n f w.held refl
            (test_cases (k == l) (ids_on k (f (held_at w n)) ≡ ids_of (line_in lines' n k).current)
            (λ e.
            subst (λ (j : ℕ). ids_on j (f (held_at w n)) ≡ ids_of (line_in lines' n j).current) (sym (same_number k l e))
            (slot_loaded dests routes l some (held_at w n) known_here nothing_on ∙ ap (λ (y : NetLine). ids_of y.current) (sym (line_same n l x w.lines inside))))
            (λ e.
            ap (map id_of) (filter_changed (is_on k) test (on_line l) (off_line k e on) (held_at w n))
            ∙ (h.slots n k on ∙ ap (λ (y : NetLine). ids_of y.current) (sym (line_other n l x w.lines n k (second_apart n k e))))))
            (λ j apart. h.slots j k on ∙ ap (λ (y : NetLine). ids_of y.current) (sym (line_other n l x w.lines j k (first_apart j k apart)))) m;
        windows = λ m k.
            subst (IsWindow (line_in lines' m k)) (sym (got_kept (end_at net m k).node (end_at net m k).line))
            (each_line (λ (i j : ℕ) (y : NetLine). IsWindow y (got_in w.lines (end_at net i j))) n l x w.lines inside (inl sent_all) (λ i j apart. h.windows i j) m k);
        counted = λ i.
            let moved_one : count (live_in net lines' i n) (f (item [] n w.held)) ≡ count (live_in net lines' i n) (item [] n w.held) =
            count_changed (live_in net lines' i n) test (on_line l) (stays lines' (same n l ∙ lives_on) i) (item [] n w.held) in
            let as_before : (m : ℕ) → count (live_in net lines' i m) (item [] m w.held) ≡ count (live_in net w.lines i m) (item [] m w.held) =
            λ m. count_same (live_in net lines' i m) (live_in net w.lines i m) (λ y. ap (λ (b : Bool). is_job i y && b) (same m y.line)) (item [] m w.held) in
            let placed : count (live_in net lines' i n) (item [] n held') ≡ count (live_in net lines' i n) (f (item [] n w.held)) =
            ap (count (live_in net lines' i n)) (item_kept [] f n w.held refl) in
            let all : 0 + lives net lines' held' i ≡ 0 + lives net w.lines w.held i =
            lives_at net w.lines lines' w.held held' i n 0 0 (sym (item_length f n w.held)) low high
            (λ m apart. ap (count (live_in net lines' i m)) (item_other [] f n m w.held apart) ∙ as_before m)
            (let here = as_before n in omega arith) in
            let was = h.counted i in
            omega arith;
        known =
            all_change_item (AllByRecursion (IsForItsNode dests)) f
            (λ hs all. all_changed (IsForItsNode dests) test (on_line l) (λ y is. is) hs all) n w.held h.known;
        there = h.there;
        frames = frames_kept dests n l x w.lines inside (λ y known number. old_number y known number) w.frames h.frames;
        acks = acks_kept n l x w.lines inside (omega arith) w.acks h.acks;
      }
    where
      idle_window : (y : NetLine) (g : ℕ) → y.current ≡ 0 → IsWindow y g → g ≡ y.sent
      idle_window y g none (inl is) = is
      idle_window y g none (inr both) = let has = both.1 in absurd (let now = rw none at has in cc)

      first_apart : (j k : ℕ) → (j == n) ≡ false → ((j == n) && (k == l)) ≡ false
      first_apart j k e = rw e refl

      second_apart : (j k : ℕ) → (k == l) ≡ false → ((j == n) && (k == l)) ≡ false
      second_apart j k e = rw e (and_false (j == n))

      off_line : (k : ℕ) → (k == l) ≡ false → (k == 0) ≡ false → (y : Held) → waits_for routes l y ≡ true → (is_on k y ≡ false) × (is_on k (on_line l y) ≡ false)
      off_line k apart on y waits =
          let zero_line : y.line ≡ 0 = same_number y.line 0 (and_left (y.line == 0) _ waits) in
          (rw zero_line (turned_round k 0 on), turned_round k l apart)

      stays : (lines : Lines) → is_live net lines n l ≡ true → (i : ℕ) (y : Held) → waits_for routes l y ≡ true
          → live_in net lines i n (on_line l y) ≡ live_in net lines i n y
      stays lines on i y waits =
          let zero_line : y.line ≡ 0 = same_number y.line 0 (and_left (y.line == 0) _ waits) in
          let off : is_live net lines n y.line ≡ true = subst (λ (k : ℕ). is_live net lines n k ≡ true) (sym zero_line) refl in
          ap (λ (b : Bool). is_job i y && b) (on ∙ sym off)

      old_number : (y : NetFrame) → numbered y.id dests ≡ Some y.dest → IsNumbered y.number y.id (line_at w n l) → IsNumbered y.number y.id (has_current (first_id (waits_for routes l) (held_at w n)) (line_at w n l))
      old_number y known (inl old) = inl old
      old_number y known (inr both) = let zero_id : y.id ≡ 0 = both.1 ∙ idle in absurd (numbered_some y.id dests y.dest known zero_id)
