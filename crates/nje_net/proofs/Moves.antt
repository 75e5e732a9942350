-- What holds of a net holds at its start, after each event, and so after every run.
use Rattle.std.proofs.Common.{◌≡◌, ℕ, zero, suc, ◌+◌, ◌<◌, ◌≤◌, inl, inr, Bool, true, false, not, ◌&&◌, ◌==◌, nat_le, nat_lt, List, [], ◌∷◌, ◌++◌, length, replicate, Option, Some, None, refl, ap, sym, ◌∙◌, subst, arith, append_assoc, append-nil, length-append, rules}
use Rattle.std.specs.Prelude.{if◌then◌else◌}
use Rattle.std.specs.List.{AllByRecursion, find}
use Rattle.std.specs.Str.{bytes_eq}
use Rattle.std.proofs.lemmas.Slice.Eq.{bytes_eq-Decides}
use Rattle.std.proofs.lemmas.Bool.Decides.{nat_tests}
use Rattle.mas_types.specs.declared.ids.Name8.{Name8}
use Rattle.mas_types.specs.Ids.{same_name}
use Rattle.mas_types.specs.Limits.{wires_most}
use Rattle.nje_net.specs.declared.nets.End.{End}
use Rattle.nje_net.specs.declared.nets.Net.{Net}
use Rattle.nje_net.specs.declared.worlds.Arrived.{Arrived}
use Rattle.nje_net.specs.declared.worlds.Held.{Held}
use Rattle.nje_net.specs.declared.worlds.NetFrame.{NetFrame}
use Rattle.nje_net.specs.declared.worlds.NetAck.{NetAck}
use Rattle.nje_net.specs.declared.worlds.NetLine.{NetLine}
use Rattle.nje_net.specs.declared.worlds.NetWorld.{NetWorld}
use Rattle.nje_net.specs.declared.worlds.NetEvent.{NetEvent}
use Rattle.nje_net.specs.declared.worlds.NetEvent.TheVariants as event
use Rattle.nje_net.specs.Numbered.{at_or, item, numbered}
use Rattle.nje_net.specs.Nets.{node_at, is_node, is_line, is_net, is_none, is_end, end_at}
use Rattle.nje_net.specs.Worlds.{no_line, line_in, line_at, held_in, held_at, idle_lines, start}
use Rattle.nje_net.specs.Events.{waiting_job, arrives, is_held, job_at, may_take, can_load, loaded, load, is_on, frames_of, has_job, give, is_again, is_next, acknowledges, has_got, gets, take_over, receive, frame_comes_to, frame_comes, is_of_current, sends, ack_comes_to, ack_comes, moved, runs}
use Rattle.nje_net.specs.Lossless.{dest_entered, dests_entered, has_id, is_job, is_held_somewhere, IsAtItsNode, IsForItsNode, NoneIsLost}
use Rattle.nje_net.proofs.Tests.{test_cases, and_left, and_right, same_number, is_other, all_weaker, all_get}
use Rattle.nje_net.proofs.Items.{all_item, numbered_push, numbered_end}
use Rattle.nje_net.proofs.Counts.{one_if, count, count_none, total, total_none, distinct}
use Rattle.nje_net.proofs.Writes.{line_same}
use Rattle.nje_net.proofs.Joined.{node_inside, other_end, end_is, line_of_node}
use Rattle.nje_net.proofs.Invariant.{got_in, is_live, live_in, lives, ids_of, ids_on, IsWindow, IsNumbered, IsFrame, IsAck, Holds, wanted, Inv, one_more}
use Rattle.nje_net.proofs.Steps.{arrives_holds, held_holds, job_at_holds, acknowledges_holds, give_holds, loaded_holds}
use Rattle.nje_net.proofs.Sending.{IsLink, copies, gets_holds, sends_holds}

pub all_numbered_get : {A : Type 0} (P : A → Type 0) (i : ℕ) (xs : List A) (x : A) → AllByRecursion P xs → numbered i xs ≡ Some x → P x
all_numbered_get P zero xs x all found = absurd (cc)
all_numbered_get P (suc i) xs x all found = all_get P i xs x all found

abbrev to_end : ℕ → ℕ → End
to_end m k = record { node = m; line = k }

ends_same : (y : End) (m k : ℕ) → y.node ≡ m → y.line ≡ k → y ≡ to_end m k
ends_same y m k node line =
    let first : y ≡ to_end m y.line = ap (λ (i : ℕ). to_end i y.line) node in
    first ∙ ap (λ (j : ℕ). to_end m j) line

-- NAMES

abbrev name_of : List ℕ → Name8
name_of bytes = record { 0 = bytes }

same_bytes : (xs ys : List ℕ) → bytes_eq xs ys ≡ true → xs ≡ ys
same_bytes xs ys h = search (rules, bytes_eq-Decides xs ys, h)

pub name_is : (a b : Name8) → same_name a b ≡ true → a ≡ b
name_is a b h = ap name_of (same_bytes a.0 b.0 h)

-- THE START

replicate_length : {A : Type 0} (x : A) (k : ℕ) → length (replicate k x) ≡ k
replicate_length x zero = refl
replicate_length x (suc k) = ap suc (replicate_length x k)

at_replicate : {A : Type 0} (d : A) (i k : ℕ) → at_or d i (replicate k d) ≡ d
at_replicate d i zero = refl
at_replicate d zero (suc k) = refl
at_replicate d (suc i) (suc k) = at_replicate d i k

item_replicate : {A : Type 0} (d : A) (n k : ℕ) → item d n (replicate k d) ≡ d
item_replicate d zero k = refl
item_replicate d (suc i) k = at_replicate d i k

all_replicate : {A : Type 0} (P : A → Type 0) (x : A) → P x → (k : ℕ) → AllByRecursion P (replicate k x)
all_replicate P x is zero = tt
all_replicate P x is (suc k) = (is, all_replicate P x is k)

none_there : (l : ℕ) → item no_line l [] ≡ no_line
none_there zero = refl
none_there (suc i) = refl

idle_line : (k n l : ℕ) → line_in (replicate k idle_lines) n l ≡ no_line
idle_line k n l =
    let P : List NetLine → Type 0 = λ xs. item no_line l xs ≡ no_line in
    all_item [] P (none_there l) n (replicate k idle_lines) (all_replicate P idle_lines (item_replicate no_line l wires_most) k)

nothing_at : (k n : ℕ) → held_in (replicate k []) n ≡ []
nothing_at k n = item_replicate [] n k

nothing_counts : (p : ℕ → Held → Bool) (k : ℕ) → total p (replicate k []) ≡ 0
nothing_counts p zero = refl
nothing_counts p (suc k) = let rest = nothing_counts (λ (j : ℕ). p (suc j)) k in omega arith

eight_there : (k n : ℕ) → 1 ≤ n → n ≤ k → length (item [] n (replicate k idle_lines)) ≡ wires_most
eight_there k zero low high = let no : ⊥ = omega arith in absurd no
eight_there k (suc i) low high = at i k (omega arith)
  where
    at : (i k : ℕ) → i < k → length (at_or [] i (replicate k idle_lines)) ≡ wires_most
    at i zero h = let no : ⊥ = omega arith in absurd no
    at zero (suc k) h = refl
    at (suc i) (suc k) h = at i k (omega arith)

start_holds : (net : Net) → Holds net [] (wanted 0) (start net)
start_holds net = record {
  held_long = replicate_length [] (length net.nodes);
  lines_long = λ n l there line.
      let inside = node_inside net n there in
      let low : 1 ≤ l = (let at_least = and_left (nat_le 1 l) _ line in grind (arith, nat_tests)) in
      let high : l ≤ wires_most = (let at_most = and_right (nat_le 1 l) _ line in grind (arith, nat_tests)) in
      let eight = eight_there (length net.nodes) n inside.0 inside.1 in
      (low, omega arith);
  slots = λ n l on.
      ap (ids_on l) (nothing_at (length net.nodes) n) ∙ ap (λ (x : NetLine). ids_of x.current) (sym (idle_line (length net.nodes) n l));
  windows = λ n l.
      inl (ap (λ (x : NetLine). x.got) (idle_line (length net.nodes) (end_at net n l).node (end_at net n l).line) ∙ ap (λ (x : NetLine). x.sent) (sym (idle_line (length net.nodes) n l)));
  counted = λ id.
      let none = nothing_counts (λ (j : ℕ). live_in net (replicate (length net.nodes) idle_lines) id (suc j)) (length net.nodes) in
      let zero_wanted = nothing_wanted id in
      omega arith;
  known = all_replicate (AllByRecursion (IsForItsNode [])) [] tt (length net.nodes);
  there = tt;
  frames = tt;
  acks = tt;
}
  where
    nothing_wanted : (id : ℕ) → 0 ≡ wanted 0 id
    nothing_wanted zero = refl
    nothing_wanted (suc i) = let none : nat_lt i 0 ≡ false = grind (arith, nat_tests) in rw none refl

pub start_inv : (net : Net) → Inv net [] (start net)
start_inv net = record { entered = refl; holds = start_holds net }

-- EVENTS

module _ (net : Net) (ok : is_net net ≡ true) (dests : List Name8) where
  -- the invariant holds where one more job is known
  more_known : (want : ℕ → ℕ) (w : NetWorld) (d : Name8) → Holds net dests want w → Holds net (dests ++ d ∷ []) want w
  more_known want w d h = record {
    held_long = h.held_long;
    lines_long = h.lines_long;
    slots = h.slots;
    windows = h.windows;
    counted = h.counted;
    known =
        all_weaker (AllByRecursion (IsForItsNode dests)) (AllByRecursion (IsForItsNode (dests ++ d ∷ [])))
        (λ hs all. all_weaker (IsForItsNode dests) (IsForItsNode (dests ++ d ∷ [])) (λ x is. numbered_push x.id dests (d ∷ []) x.dest is) hs all) w.held h.known;
    there =
        all_weaker (IsAtItsNode net dests) (IsAtItsNode net (dests ++ d ∷ []))
        (λ a is. (is.0, numbered_push a.id dests (d ∷ []) (node_at net a.node).name is.1)) w.arrived h.there;
    frames =
        all_weaker (IsFrame dests w.lines) (IsFrame (dests ++ d ∷ []) w.lines)
        (λ f is. record { known = numbered_push f.id dests (d ∷ []) f.dest is.known; number = is.number }) w.frames h.frames;
    acks = h.acks;
  }

  has_entered : (want : ℕ → ℕ) (w : NetWorld) (k : ℕ) → Holds net dests want w → Holds net dests want (record w { entered = k })
  has_entered want w k h = record {
    held_long = h.held_long;
    lines_long = h.lines_long;
    slots = h.slots;
    windows = h.windows;
    counted = h.counted;
    known = h.known;
    there = h.there;
    frames = h.frames;
    acks = h.acks;
  }

  -- a line with a current job, and its other end
  linked : (want : ℕ → ℕ) (w : NetWorld) (n l : ℕ) (e : End) → Holds net dests want w → end_at net n l ≡ e → is_none e ≡ false → IsLink net w n l e
  linked want w n l e h is some =
      let there : is_none (end_at net n l) ≡ false = ap is_none is ∙ some in
      let far = other_end net ok n l there in
      let node = line_of_node net ok n l there in
      let forth : is_none (end_at net (end_at net n l).node (end_at net n l).line) ≡ false =
      ap (λ (m : ℕ). m == 0) far.back_node ∙ is_other n 0 (λ z. no_zero z node) in
      let back = other_end net ok (end_at net n l).node (end_at net n l).line forth in
      let line : is_line l ≡ true = subst (λ (k : ℕ). is_line k ≡ true) far.back_line back.line in
      record {
        node = node;
        line = line;
        on = is_other l 0 (λ z. no_line_zero z line);
        far_node = subst (λ (x : End). is_node net x.node ≡ true) is far.node;
        far_line = subst (λ (x : End). is_line x.line ≡ true) is far.line;
        forth = is;
        alone = λ m k same. alone e is some m k same;
      }
    where
      no_zero : n ≡ 0 → is_node net n ≡ true → ⊥
      no_zero z node = let none : is_node net 0 ≡ true = subst (λ (m : ℕ). is_node net m ≡ true) z node in cc

      no_line_zero : l ≡ 0 → is_line l ≡ true → ⊥
      no_line_zero z line = let none : is_line 0 ≡ true = subst (λ (m : ℕ). is_line m ≡ true) z line in cc

      alone : (e : End) → end_at net n l ≡ e → is_none e ≡ false → (m k : ℕ) → is_end e.node e.line (end_at net m k) ≡ true → (m ≡ n) × (k ≡ l)
      alone e is some m k same =
          let at = end_is e.node e.line (end_at net m k) same in
          let here = other_end net ok n l (ap is_none is ∙ some) in
          let far = other_end net ok m k (ap (λ (j : ℕ). j == 0) at.0 ∙ some) in
          let same_end : end_at net (end_at net m k).node (end_at net m k).line ≡ end_at net (end_at net n l).node (end_at net n l).line =
          ap (λ (j : ℕ). end_at net j (end_at net m k).line) at.0
          ∙ (ap (λ (j : ℕ). end_at net e.node j) at.1 ∙ ap (λ (x : End). end_at net x.node x.line) (sym is)) in (
            sym far.back_node ∙ (ap (λ (x : End). x.node) same_end ∙ here.back_node),
            sym far.back_line ∙ (ap (λ (x : End). x.line) same_end ∙ here.back_line),
          )

  -- the next frame of a line has the current job, which lives on at its other end
  took_over : (want : ℕ → ℕ) (w : NetWorld) (f : NetFrame) (e : End) → Holds net dests want w → IsFrame dests w.lines f → end_at net f.node f.line ≡ e → is_none e ≡ false
      → is_next f.number (line_at w e.node e.line) ≡ true → Holds net dests want (take_over net w f e)
  took_over want w f e h frame is some next =
      test_cases (may_take net e.node f.dest) (Holds net dests want (take_over net w f e))
      (λ t. rw t (taken t (number (got_in w.lines e) (line_at w f.node f.line) follows window frame.number)))
      (λ t. rw t h)
    where
      follows : f.number ≡ got_in w.lines e + 1
      follows = same_number f.number (got_in w.lines e + 1) next

      window : IsWindow (line_at w f.node f.line) (got_in w.lines e)
      window = subst (λ (x : End). IsWindow (line_at w f.node f.line) (got_in w.lines x)) is (h.windows f.node f.line)

      -- the frame has the line's current job, and all before that job was acknowledged
      number : (g : ℕ) (x : NetLine) → f.number ≡ g + 1 → IsWindow x g → IsNumbered f.number f.id x → (g ≡ x.sent) × (f.id ≡ x.current)
      number g x next (inl all) (inl old) = let no : ⊥ = omega arith in absurd no
      number g x next (inl all) (inr both) = (all, both.1)
      number g x next (inr got) (inl old) = let more = got.0 in let no : ⊥ = omega arith in absurd no
      number g x next (inr got) (inr both) = let more = got.0 in let new = both.0 in let no : ⊥ = omega arith in absurd no

      no_zero : (c : ℕ) → suc c ≡ 0 → ⊥
      no_zero c z = omega arith

      some_id : (c i : ℕ) → numbered i dests ≡ Some f.dest → i ≡ c → not (c == 0) ≡ true
      some_id zero zero known same = absurd (cc)
      some_id zero (suc i) known same = let no : ⊥ = omega arith in absurd no
      some_id (suc c) i known same = rw (is_other (suc c) 0 (λ z. no_zero c z)) refl

      one_back : (id c i left all : ℕ) → id ≡ c → one_if (c == i) + left ≡ all → all ≡ left + one_if (id == i)
      one_back id c i left all same sum = rw same (omega arith)

      taken : may_take net e.node f.dest ≡ true → (got_in w.lines e ≡ (line_at w f.node f.line).sent) × (f.id ≡ (line_at w f.node f.line).current)
          → Holds net dests want (gets e (line_at w e.node e.line) (job_at net e.node f.id f.dest (acknowledges e f.number w)))
      taken t both =
          let link = linked want w f.node f.line e h is some in
          let x : NetLine = line_at w e.node e.line in
          let got = gets_holds net dests want w h f.node f.line e link both.0 (some_id (line_at w f.node f.line).current f.id frame.known both.1) in
          let left : ℕ → ℕ = copies net (gets e x w) in
          let back : (i : ℕ) → want i ≡ left i + one_if (f.id == i) =
          λ i. one_back (f.id) (line_at w f.node f.line).current i (left i) (want i) both.1 (got.1 i) in
          let inside = h.lines_long e.node e.line link.far_node link.far_line in
          let number : f.number ≤ (line_at (gets e x w) e.node e.line).got =
          (let has : (line_at (gets e x w) e.node e.line).got ≡ x.got + 1 = ap (λ (y : NetLine). y.got) (line_same e.node e.line (has_got x) w.lines inside) in
          let next_one = follows in omega arith) in
          test_cases (same_name (node_at net e.node).name f.dest) (Holds net dests want (gets e x (job_at net e.node f.id f.dest (acknowledges e f.number w))))
          (λ s.
          let name = name_is (node_at net e.node).name f.dest s in
          let put = arrives_holds net dests left want (gets e x w) got.0 f.id e.node f.dest link.far_node frame.known s name back in
          rw s (acknowledges_holds net dests want (arrives f.id e.node (gets e x w)) put e f.number number))
          (λ s.
          let put = held_holds net dests left want (gets e x w) got.0 f.id e.node f.dest link.far_node frame.known back in
          rw s (acknowledges_holds net dests want (is_held e.node (waiting_job f.id f.dest) (gets e x w)) put e f.number number))

  received : (want : ℕ → ℕ) (w : NetWorld) (f : NetFrame) (e : End) → Holds net dests want w → IsFrame dests w.lines f → end_at net f.node f.line ≡ e
      → Holds net dests want (frame_comes_to net w f e)
  received want w f e h frame is =
      test_cases (is_none e) (Holds net dests want (frame_comes_to net w f e))
      (λ n. rw n h)
      (λ n.
      rw n
      (test_cases (is_again f.number (line_at w e.node e.line)) (Holds net dests want (receive net w f e))
      (λ a.
      let known : f.number ≤ (line_at w e.node e.line).got = grind (arith, nat_tests) in
      rw a (acknowledges_holds net dests want w h e f.number known))
      (λ a.
      rw a
      (test_cases (is_next f.number (line_at w e.node e.line)) (Holds net dests want (if is_next f.number (line_at w e.node e.line) then take_over net w f e else w))
      (λ t. rw t (took_over want w f e h frame is n t))
      (λ t. rw t h)))))

  frame_came : (want : ℕ → ℕ) (w : NetWorld) (i : ℕ) (o : Option NetFrame) → Holds net dests want w → numbered i w.frames ≡ o → Holds net dests want (frame_comes net w o)
  frame_came want w i None h found = h
  frame_came want w i (Some f) h found =
      received want w f (end_at net f.node f.line) h (all_numbered_get (IsFrame dests w.lines) i w.frames f h.frames found) refl

  acknowledged : (want : ℕ → ℕ) (w : NetWorld) (a : NetAck) (e : End) → Holds net dests want w → IsAck w.lines a → end_at net a.node a.line ≡ e
      → Holds net dests want (ack_comes_to w a.number e)
  acknowledged want w a e h known is =
      test_cases (is_of_current a.number (line_at w e.node e.line)) (Holds net dests want (ack_comes_to w a.number e))
      (λ t. rw t (gone t))
      (λ t. rw t h)
    where
      nobody : e.node ≡ 0 → has_job (line_at w e.node e.line) ≡ true → ⊥
      nobody z some = let none : has_job (line_at w 0 e.line) ≡ true = subst (λ (m : ℕ). has_job (line_at w m e.line) ≡ true) z some in nothing e.line none
        where
          nothing : (l : ℕ) → has_job (line_in w.lines 0 l) ≡ true → ⊥
          nothing l h = let idle : line_in w.lines 0 l ≡ no_line = none_there l in let no = rw idle at h in cc

      away : a.node ≡ 0 → is_none (end_at net a.node a.line) ≡ false → ⊥
      away z some =
          let there = line_of_node net ok a.node a.line some in
          let none : is_node net 0 ≡ true = subst (λ (m : ℕ). is_node net m ≡ true) z there in
          cc

      has_got_one : (g : ℕ) (x : NetLine) → a.number ≡ x.sent + 1 → a.number ≤ g → IsWindow x g → g ≡ x.sent + 1
      has_got_one g x next got (inl all) = let no : ⊥ = omega arith in absurd no
      has_got_one g x next got (inr both) = both.0

      gone : is_of_current a.number (line_at w e.node e.line) ≡ true → Holds net dests want (sends e (line_at w e.node e.line) w)
      gone t =
          let x : NetLine = line_at w e.node e.line in
          let follows : a.number ≡ x.sent + 1 = same_number a.number (x.sent + 1) (and_left (a.number == x.sent + 1) _ t) in
          let some : has_job x ≡ true = and_right (a.number == x.sent + 1) _ t in
          let there : is_none e ≡ false = is_other e.node 0 (λ z. nobody z some) in
          let here = other_end net ok a.node a.line (ap is_none is ∙ there) in
          let back : end_at net e.node e.line ≡ to_end a.node a.line =
          ends_same (end_at net e.node e.line) a.node a.line
          (ap (λ (y : End). (end_at net y.node y.line).node) (sym is) ∙ here.back_node)
          (ap (λ (y : End). (end_at net y.node y.line).line) (sym is) ∙ here.back_line) in
          let back_some : is_none (to_end a.node a.line) ≡ false = is_other a.node 0 (λ z. away z (ap is_none is ∙ there)) in
          let link = linked want w e.node e.line (to_end a.node a.line) h back back_some in
          let got : (line_at w a.node a.line).got ≡ x.sent + 1 =
          has_got_one (line_at w a.node a.line).got x follows known
          (subst (λ (y : End). IsWindow x (got_in w.lines y)) back (h.windows e.node e.line)) in
          sends_holds net dests want w h e.node e.line (to_end a.node a.line) link got

  ack_came : (want : ℕ → ℕ) (w : NetWorld) (i : ℕ) (o : Option NetAck) → Holds net dests want w → numbered i w.acks ≡ o → Holds net dests want (ack_comes net w o)
  ack_came want w i None h found = h
  ack_came want w i (Some a) h found =
      acknowledged want w a (end_at net a.node a.line) h (all_numbered_get (IsAck w.lines) i w.acks a h.acks found) refl

  loads : (want : ℕ → ℕ) (w : NetWorld) (n l : ℕ) → Holds net dests want w → Holds net dests want (load net w n l)
  loads want w n l h =
      test_cases (can_load net w n l) (Holds net dests want (load net w n l))
      (λ t.
      let there : is_node net n ≡ true = and_left (is_node net n) _ t in
      let rest : (is_line l && ((line_at w n l).current == 0)) ≡ true = and_right (is_node net n) _ t in
      let line : is_line l ≡ true = and_left (is_line l) _ rest in
      let idle : (line_at w n l).current ≡ 0 = same_number (line_at w n l).current 0 (and_right (is_line l) _ rest) in
      rw t (loaded_holds net dests want w h (node_at net n).routes n l there line (is_other l 0 (λ z. no_line_zero z line)) idle))
      (λ t. rw t h)
    where
      no_line_zero : l ≡ 0 → is_line l ≡ true → ⊥
      no_line_zero z line = let none : is_line 0 ≡ true = subst (λ (m : ℕ). is_line m ≡ true) z line in cc

  gives : (want : ℕ → ℕ) (w : NetWorld) (n l : ℕ) → Holds net dests want w → Holds net dests want (give w n l)
  gives want w n l h =
      test_cases (has_job (line_at w n l)) (Holds net dests want (give w n l))
      (λ t. rw t (give_holds net dests want w h n l t))
      (λ t. rw t h)

-- the invariant holds where one more job is entered
entered_one : (net : Net) (dests : List Name8) (w : NetWorld) (n : ℕ) (dest : Name8) → is_net net ≡ true → Inv net dests w → is_node net n ≡ true
    → Inv net (dests ++ dest ∷ []) (record (job_at net n (w.entered + 1) dest w) { entered = w.entered + 1 })
entered_one net dests w n dest ok inv there =
    let k : ℕ = w.entered + 1 in
    let known : numbered k (dests ++ dest ∷ []) ≡ Some dest = numbered_end k dests dest (ap (λ (i : ℕ). i + 1) inv.entered) in
    let before = more_known net ok dests (wanted w.entered) w dest inv.holds in
    let put =
    job_at_holds net (dests ++ dest ∷ []) (wanted w.entered) (wanted k) w before k n dest there known
    (name_is (node_at net n).name dest) (λ i. one_more w.entered i) in
    record {
      entered = (let was = inv.entered in let long = length-append dests (dest ∷ []) in omega arith);
      holds = has_entered net ok (dests ++ dest ∷ []) (wanted k) (job_at net n k dest w) k put;
    }

-- where no job is entered, none is known more
same_dests : (net : Net) (dests : List Name8) (w v : NetWorld) → Inv net dests w → v.entered ≡ w.entered → Holds net dests (wanted w.entered) v → Inv net (dests ++ []) v
same_dests net dests w v inv same h =
    subst (λ (ds : List Name8). Inv net ds v) (sym (append-nil dests))
    (record { entered = same ∙ inv.entered; holds = subst (λ (k : ℕ). Holds net dests (wanted k) v) (sym same) h })

pub moved_inv : (net : Net) (dests : List Name8) (w : NetWorld) (e : NetEvent) → is_net net ≡ true → Inv net dests w → Inv net (dests ++ dest_entered net e) (moved net w e)
moved_inv net dests w (event.Enter n dest) ok inv =
    test_cases (may_take net n dest) (Inv net (dests ++ dest_entered net (event.Enter n dest)) (moved net w (event.Enter n dest)))
    (λ t. rw t (entered_one net dests w n dest ok inv (and_left (is_node net n) _ t)))
    (λ t. rw t (same_dests net dests w w inv refl inv.holds))
moved_inv net dests w (event.Load n l) ok inv = same_dests net dests w (load net w n l) inv (kept (can_load net w n l)) (loads net ok dests (wanted w.entered) w n l inv.holds)
  where
    kept : (b : Bool) → (if b then loaded (node_at net n).routes w n l else w).entered ≡ w.entered
    kept true = refl
    kept false = refl
moved_inv net dests w (event.Give n l) ok inv = same_dests net dests w (give w n l) inv (kept (has_job (line_at w n l))) (gives net ok dests (wanted w.entered) w n l inv.holds)
  where
    kept : (b : Bool) → (if b then record w { frames = w.frames ++ frames_of n l ((line_at w n l).sent + 1) (find (is_on l) (held_at w n)) } else w).entered ≡ w.entered
    kept true = refl
    kept false = refl
moved_inv net dests w (event.Frame i) ok inv =
    same_dests net dests w (frame_comes net w (numbered i w.frames)) inv (came (numbered i w.frames)) (frame_came net ok dests (wanted w.entered) w i (numbered i w.frames) inv.holds refl)
  where
    put : (b : Bool) (id n : ℕ) (dest : Name8) (v : NetWorld) → v.entered ≡ w.entered → (if b then arrives id n v else is_held n (waiting_job id dest) v).entered ≡ w.entered
    put true id n dest v same = same
    put false id n dest v same = same

    over : (b : Bool) (f : NetFrame) (e : End)
        → (if b then gets e (line_at w e.node e.line) (job_at net e.node f.id f.dest (acknowledges e f.number w)) else w).entered ≡ w.entered
    over true f e = put (same_name (node_at net e.node).name f.dest) f.id e.node f.dest (acknowledges e f.number w) refl
    over false f e = refl

    three : (none again next : Bool) (f : NetFrame) (e : End)
        → (if none then w else (if again then acknowledges e f.number w else (if next then take_over net w f e else w))).entered ≡ w.entered
    three true again next f e = refl
    three false true next f e = refl
    three false false true f e = over (may_take net e.node f.dest) f e
    three false false false f e = refl

    came : (o : Option NetFrame) → (frame_comes net w o).entered ≡ w.entered
    came None = refl
    came (Some f) =
        let e : End = end_at net f.node f.line in
        three (is_none (end_at net f.node f.line)) (is_again f.number (line_at w (end_at net f.node f.line).node (end_at net f.node f.line).line))
        (is_next f.number (line_at w (end_at net f.node f.line).node (end_at net f.node f.line).line)) f (end_at net f.node f.line)
moved_inv net dests w (event.Ack i) ok inv =
    same_dests net dests w (ack_comes net w (numbered i w.acks)) inv (came (numbered i w.acks)) (ack_came net ok dests (wanted w.entered) w i (numbered i w.acks) inv.holds refl)
  where
    kept : (b : Bool) (e : End) → (if b then sends e (line_at w e.node e.line) w else w).entered ≡ w.entered
    kept true e = refl
    kept false e = refl

    came : (o : Option NetAck) → (ack_comes net w o).entered ≡ w.entered
    came None = refl
    came (Some a) = kept (is_of_current a.number (line_at w (end_at net a.node a.line).node (end_at net a.node a.line).line)) (end_at net a.node a.line)

runs_inv : (net : Net) (dests : List Name8) (w : NetWorld) (es : List NetEvent) → is_net net ≡ true → Inv net dests w → Inv net (dests ++ dests_entered net es) (runs net w es)
runs_inv net dests w [] ok inv = subst (λ (ds : List Name8). Inv net ds w) (sym (append-nil dests)) inv
runs_inv net dests w (e ∷ es) ok inv =
    subst (λ (ds : List Name8). Inv net ds (runs net (moved net w e) es)) (append_assoc dests (dest_entered net e) (dests_entered net es))
    (runs_inv net (dests ++ dest_entered net e) (moved net w e) es ok (moved_inv net dests w e ok inv))

-- WHAT IT MEANS

none_lost : (net : Net) (dests : List Name8) (w : NetWorld) → Inv net dests w → NoneIsLost net dests w
none_lost net dests w inv =
    let h = inv.holds in
    record {
      entered = inv.entered;
      once = distinct (λ (a : Arrived). a.id) w.arrived (λ i. at_most (count (has_id i) w.arrived) (lives net w.lines w.held i) (wanted w.entered i) (wanted_few w.entered i) (h.counted i));
      there = h.there;
      held = λ id low high gone.
          test_cases (is_held_somewhere w id) (is_held_somewhere w id ≡ true)
          (λ t. t)
          (λ t.
          let no_arrival : count (has_id id) w.arrived ≡ 0 = count_none (has_id id) w.arrived gone in
          let no_copy : lives net w.lines w.held id ≡ 0 =
          total_none (λ (j : ℕ). live_in net w.lines id (suc j)) (is_job id) (λ j x off. not_live id x off (is_live net w.lines (suc j) x.line)) w.held t in
          let one : wanted w.entered id ≡ 1 = wanted_one w.entered id low high in
          let all = h.counted id in
          let no : ⊥ = omega arith in
          absurd no);
      known = h.known;
    }
  where
    at_most : (n m k : ℕ) → k ≤ 1 → n + m ≡ k → n ≤ 1
    at_most n m k few all = omega arith

    one_at_most : (b : Bool) → one_if b ≤ 1
    one_at_most true = omega arith
    one_at_most false = omega arith

    wanted_few : (k i : ℕ) → wanted k i ≤ 1
    wanted_few k zero = omega arith
    wanted_few k (suc i) = one_at_most (nat_lt i k)

    wanted_one : (k i : ℕ) → 1 ≤ i → i ≤ k → wanted k i ≡ 1
    wanted_one k zero low high = let no : ⊥ = omega arith in absurd no
    wanted_one k (suc i) low high = let below : nat_lt i k ≡ true = grind (arith, nat_tests) in rw below refl

    not_live : (id : ℕ) (x : Held) → is_job id x ≡ false → (b : Bool) → (is_job id x && b) ≡ false
    not_live id x off b = rw off refl

pub no_run_loses : (net : Net) (es : List NetEvent) → is_net net ≡ true → NoneIsLost net (dests_entered net es) (runs net (start net) es)
no_run_loses net es ok = none_lost net (dests_entered net es) (runs net (start net) es) (runs_inv net [] (start net) es ok (start_inv net))
