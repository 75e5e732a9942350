-- What holds of a net stays so as a line's other end gets a job, and as the node that sent it lets it go.
use Rattle.std.proofs.Common.{◌≡◌, ℕ, zero, suc, ◌+◌, ◌≤◌, inl, inr, Bool, true, false, not, ◌&&◌, ◌==◌, List, [], length, map, refl, ap, sym, ◌∙◌, subst, arith}
use Rattle.std.specs.List.{AllByRecursion, filter}
use Rattle.mas_types.specs.declared.ids.Name8.{Name8}
use Rattle.mas_types.specs.Lists.{without_first}
use Rattle.nje_net.specs.declared.nets.End.{End}
use Rattle.nje_net.specs.declared.nets.Net.{Net}
use Rattle.nje_net.specs.declared.worlds.Held.{Held}
use Rattle.nje_net.specs.declared.worlds.NetFrame.{NetFrame}
use Rattle.nje_net.specs.declared.worlds.NetLine.{NetLine}
use Rattle.nje_net.specs.declared.worlds.NetWorld.{NetWorld}
use Rattle.nje_net.specs.Numbered.{item, change_item}
use Rattle.nje_net.specs.Nets.{is_node, is_line, is_end, end_at}
use Rattle.nje_net.specs.Worlds.{line_in, line_at, put_line, held_at}
use Rattle.nje_net.specs.Events.{is_on, has_job, has_got, gets, has_sent, sends}
use Rattle.nje_net.specs.Lossless.{has_id, is_job, IsForItsNode}
use Rattle.nje_net.proofs.Tests.{test_cases, and_left, and_right, both_ways, not_true, same_number, is_itself, is_other, turned_round}
use Rattle.nje_net.proofs.Items.{item_length, item_kept, item_other, all_change_item}
use Rattle.nje_net.proofs.Counts.{one_if, count, count_same, count_sum, count_without, filter_without, filter_gone}
use Rattle.nje_net.proofs.Writes.{Lines, line_same, line_other, each_line, kept_in_lines, inside_still, each_held}
use Rattle.nje_net.proofs.Joined.{node_inside}
use Rattle.nje_net.proofs.Invariant.{got_in, is_live, live_in, lives, ids_of, id_of, ids_on, IsWindow, IsNumbered, Holds, lives_at, live_kept}
use Rattle.nje_net.proofs.Steps.{only, count_on, one_current, all_without, frames_kept, acks_kept}

and_false : (p : Bool) → (p && false) ≡ false
and_false true = refl
and_false false = refl

ids_few : (c : ℕ) → length (ids_of c) ≤ 1
ids_few zero = omega arith
ids_few (suc c) = omega arith

-- a window stays where the numbers that it speaks of stay
window_kept : (x y : NetLine) (g g' : ℕ) → y.sent ≡ x.sent → y.current ≡ x.current → g' ≡ g → IsWindow x g → IsWindow y g'
window_kept x y g g' sent current got (inl is) = inl (got ∙ (is ∙ sym sent))
window_kept x y g g' sent current got (inr both) = inr (got ∙ (both.0 ∙ ap (λ (s : ℕ). s + 1) (sym sent)), ap (λ (c : ℕ). not (c == 0)) current ∙ both.1)

-- a line of a node, the other end of it, and what is known of both
pub record IsLink (net : Net) (w : NetWorld) (n l : ℕ) (e : End) : Type 0 where
  pub node : is_node net n ≡ true
  pub line : is_line l ≡ true
  pub on : (l == 0) ≡ false
  pub far_node : is_node net e.node ≡ true
  pub far_line : is_line e.line ≡ true
  pub forth : end_at net n l ≡ e
  -- no other line leads to that end
  pub alone : (m k : ℕ) → is_end e.node e.line (end_at net m k) ≡ true → (m ≡ n) × (k ≡ l)

-- THE OTHER END GETS THE CURRENT JOB

-- how many copies of a job there are that have arrived or live
abbrev pub copies : Net → NetWorld → ℕ → ℕ
copies net w i = count (has_id i) w.arrived + lives net w.lines w.held i

module _ (net : Net) (dests : List Name8) (want : ℕ → ℕ) (w : NetWorld) (h : Holds net dests want w) where
  -- the copy that is on the line lives no longer
  pub gets_holds : (n l : ℕ) (e : End) → IsLink net w n l e → (line_at w e.node e.line).got ≡ (line_at w n l).sent → has_job (line_at w n l) ≡ true
      → Holds net dests (copies net (gets e (line_at w e.node e.line) w)) (gets e (line_at w e.node e.line) w)
      × ((i : ℕ) → one_if ((line_at w n l).current == i) + copies net (gets e (line_at w e.node e.line) w) i ≡ want i)
  gets_holds n l e link all_sent some =
      let y : NetLine = has_got (line_at w e.node e.line) in
      let lines' : Lines = put_line e.node e.line y w.lines in
      let inside = h.lines_long e.node e.line link.far_node link.far_line in
      let low : 1 ≤ n = (node_inside net n link.node).0 in
      let high : n ≤ length w.held = (let long = h.held_long in let top = (node_inside net n link.node).1 in omega arith) in
      let sent_kept : (m k : ℕ) → (line_in lines' m k).sent ≡ (line_in w.lines m k).sent = kept_in_lines (λ x. x.sent) e.node e.line y w.lines inside refl in
      let current_kept : (m k : ℕ) → (line_in lines' m k).current ≡ (line_in w.lines m k).current =
      kept_in_lines (λ x. x.current) e.node e.line y w.lines inside refl in
      let got_here : got_in lines' (end_at net n l) ≡ (line_at w n l).sent + 1 =
      ap (got_in lines') link.forth ∙ (ap (λ (x : NetLine). x.got) (line_same e.node e.line y w.lines inside) ∙ ap (λ (g : ℕ). g + 1) all_sent) in
      let got_other : (m k : ℕ) → ((m == n) && (k == l)) ≡ false → got_in lines' (end_at net m k) ≡ got_in w.lines (end_at net m k) =
      λ m k apart. ap (λ (x : NetLine). x.got) (line_other e.node e.line y w.lines (end_at net m k).node (end_at net m k).line (elsewhere n l e link m k apart)) in
      let live_other : (m k : ℕ) → ((m == n) && (k == l)) ≡ false → is_live net lines' m k ≡ is_live net w.lines m k =
      λ m k apart. live_kept net w.lines lines' m k (got_other m k apart) (sent_kept m k) in
      let live_before : is_live net w.lines n l ≡ true = here_live n l link (ap (got_in w.lines) link.forth ∙ all_sent) in
      let dead_after : is_live net lines' n l ≡ false = here_dead lines' n l link (got_here ∙ ap (λ (s : ℕ). s + 1) (sym (sent_kept n l))) in (
        record {
          held_long = h.held_long;
          lines_long = λ m k t i. inside_still e.node e.line y w.lines m k (h.lines_long m k t i);
          slots = λ m k on. h.slots m k on ∙ ap ids_of (sym (current_kept m k));
          windows = λ m k.
              test_cases ((m == n) && (k == l)) (IsWindow (line_in lines' m k) (got_in lines' (end_at net m k)))
              (λ same.
              let at_n : m ≡ n = same_number m n (and_left (m == n) (k == l) same) in
              let at_l : k ≡ l = same_number k l (and_right (m == n) (k == l) same) in
              subst (λ (i : ℕ). IsWindow (line_in lines' i k) (got_in lines' (end_at net i k))) (sym at_n)
              (subst (λ (j : ℕ). IsWindow (line_in lines' n j) (got_in lines' (end_at net n j))) (sym at_l)
              (inr (got_here ∙ ap (λ (s : ℕ). s + 1) (sym (sent_kept n l)), ap (λ (c : ℕ). not (c == 0)) (current_kept n l) ∙ some))))
              (λ apart.
              window_kept (line_in w.lines m k) (line_in lines' m k) (got_in w.lines (end_at net m k)) (got_in lines' (end_at net m k))
              (sent_kept m k) (current_kept m k) (got_other m k apart) (h.windows m k));
          counted = λ i. refl;
          known = h.known;
          there = h.there;
          frames = frames_kept dests e.node e.line y w.lines inside (λ f known number. number) w.frames h.frames;
          acks = acks_kept e.node e.line y w.lines inside (omega arith) w.acks h.acks;
        },
        λ i.
            let split : count (live_in net lines' i n) (held_at w n) + count (λ x. is_job i x && is_on l x) (held_at w n) ≡ count (live_in net w.lines i n) (held_at w n) =
            count_sum (live_in net lines' i n) (λ x. is_job i x && is_on l x) (live_in net w.lines i n)
            (parted lines' n l i live_before dead_after (λ k apart. live_other n k (second_apart n l n k apart))) (held_at w n) in
            let gone : count (λ x. is_job i x && is_on l x) (held_at w n) ≡ one_if ((line_at w n l).current == i) =
            count_on i l (held_at w n) ∙ (ap (count (λ x. x == i)) (h.slots n l link.on) ∙ one_current i (line_at w n l).current (not_true ((line_at w n l).current == 0) some)) in
            let all : one_if ((line_at w n l).current == i) + lives net lines' w.held i ≡ 0 + lives net w.lines w.held i =
            lives_at net w.lines lines' w.held w.held i n (one_if ((line_at w n l).current == i)) 0 refl low high
            (λ m apart. count_same (live_in net lines' i m) (live_in net w.lines i m) (λ x. ap (λ (b : Bool). is_job i x && b) (live_other m x.line (first_apart n l m x.line apart))) (item [] m w.held))
            (omega arith) in
            let was = h.counted i in
            omega arith,
      )
    where
      first_apart : (n l m k : ℕ) → (m == n) ≡ false → ((m == n) && (k == l)) ≡ false
      first_apart n l m k e = rw e refl

      second_apart : (n l m k : ℕ) → (k == l) ≡ false → ((m == n) && (k == l)) ≡ false
      second_apart n l m k e = rw e (and_false (m == n))

      -- a line other than the given one doesn't lead to the end of the given one
      elsewhere : (n l : ℕ) (e : End) → IsLink net w n l e → (m k : ℕ) → ((m == n) && (k == l)) ≡ false
          → (((end_at net m k).node == e.node) && ((end_at net m k).line == e.line)) ≡ false
      elsewhere n l e link m k apart =
          test_cases (is_end e.node e.line (end_at net m k)) (is_end e.node e.line (end_at net m k) ≡ false)
          (λ same.
          let here = link.alone m k same in
          let both : ((m == n) && (k == l)) ≡ true = rw (here.0, here.1, is_itself n) (is_itself l) in
          both_ways ((m == n) && (k == l)) both apart)
          (λ other. other)

      here_live : (n l : ℕ) {e : End} → IsLink net w n l e → got_in w.lines (end_at net n l) ≡ (line_at w n l).sent → is_live net w.lines n l ≡ true
      here_live n l link got = rw (link.on, got) (is_itself (line_at w n l).sent)

      here_dead : (lines : Lines) (n l : ℕ) {e : End} → IsLink net w n l e → got_in lines (end_at net n l) ≡ (line_in lines n l).sent + 1 → is_live net lines n l ≡ false
      here_dead lines n l link got = rw (link.on, got) (is_other ((line_in lines n l).sent + 1) (line_in lines n l).sent (λ e. omega arith))

      parted : (lines : Lines) (n l i : ℕ) → is_live net w.lines n l ≡ true → is_live net lines n l ≡ false
          → ((k : ℕ) → (k == l) ≡ false → is_live net lines n k ≡ is_live net w.lines n k) → (x : Held)
          → one_if (live_in net lines i n x) + one_if (is_job i x && is_on l x) ≡ one_if (live_in net w.lines i n x)
      parted lines n l i before after others x =
          test_cases (x.line == l) (one_if (live_in net lines i n x) + one_if (is_job i x && is_on l x) ≡ one_if (live_in net w.lines i n x))
          (λ e.
          let at : x.line ≡ l = same_number x.line l e in
          let was : is_live net w.lines n x.line ≡ true = subst (λ (k : ℕ). is_live net w.lines n k ≡ true) (sym at) before in
          let is : is_live net lines n x.line ≡ false = subst (λ (k : ℕ). is_live net lines n k ≡ false) (sym at) after in
          three (is_job i x) (is_live net lines n x.line) (x.line == l) (is_live net w.lines n x.line) is e was)
          (λ e. other (is_job i x) (is_live net lines n x.line) (x.line == l) (is_live net w.lines n x.line) e (others x.line e))
        where
          three : (job live on was : Bool) → live ≡ false → on ≡ true → was ≡ true → one_if (job && live) + one_if (job && on) ≡ one_if (job && was)
          three true live on was a b c = rw (a, b, c) refl
          three false live on was a b c = refl

          other : (job live on was : Bool) → on ≡ false → live ≡ was → one_if (job && live) + one_if (job && on) ≡ one_if (job && was)
          other true live on was a b = rw (a, b) (omega arith)
          other false live on was a b = refl

-- THE CURRENT JOB IS HELD NO LONGER

module _ (net : Net) (dests : List Name8) (want : ℕ → ℕ) (w : NetWorld) (h : Holds net dests want w) where
  pub sends_holds : (n l : ℕ) (e : End) → IsLink net w n l e → (line_at w e.node e.line).got ≡ (line_at w n l).sent + 1
      → Holds net dests want (sends (record { node = n; line = l }) (line_at w n l) w)
  sends_holds n l e link one_got =
      let x : NetLine = has_sent (line_at w n l) in
      let lines' : Lines = put_line n l x w.lines in
      let f : List Held → List Held = without_first (is_on l) in
      let held' : List (List Held) = change_item n f w.held in
      let inside = h.lines_long n l link.node link.line in
      let low : 1 ≤ n = (node_inside net n link.node).0 in
      let high : n ≤ length w.held = (let long = h.held_long in let top = (node_inside net n link.node).1 in omega arith) in
      let got_kept : (m k : ℕ) → (line_in lines' m k).got ≡ (line_in w.lines m k).got = kept_in_lines (λ y. y.got) n l x w.lines inside refl in
      let here : line_in lines' n l ≡ x = line_same n l x w.lines inside in
      let got_here : got_in w.lines (end_at net n l) ≡ (line_at w n l).sent + 1 = ap (got_in w.lines) link.forth ∙ one_got in
      let live_other : (m k : ℕ) → ((m == n) && (k == l)) ≡ false → is_live net lines' m k ≡ is_live net w.lines m k =
      λ m k apart.
      live_kept net w.lines lines' m k (got_kept (end_at net m k).node (end_at net m k).line)
      (ap (λ (y : NetLine). y.sent) (line_other n l x w.lines m k apart)) in
      let dead : is_live net w.lines n l ≡ false =
      rw (link.on, got_here) (is_other ((line_at w n l).sent + 1) (line_at w n l).sent (λ s. omega arith)) in
      let one : length (filter (is_on l) (held_at w n)) ≤ 1 = only (filter (is_on l) (held_at w n)) (line_at w n l).current (h.slots n l link.on) in
      record {
        held_long = item_length f n w.held ∙ h.held_long;
        lines_long = λ m k t i. inside_still n l x w.lines m k (h.lines_long m k t i);
        slots = λ m k on.
            each_held (λ (j : ℕ) (hs : List Held). ids_on k hs ≡ ids_of (line_in lines' j k).current) n f w.held refl
            (test_cases (k == l) (ids_on k (f (held_at w n)) ≡ ids_of (line_in lines' n k).current)
            (λ s.
            subst (λ (j : ℕ). ids_on j (f (held_at w n)) ≡ ids_of (line_in lines' n j).current) (sym (same_number k l s))
            (ap (map id_of) (filter_gone (is_on l) (held_at w n) one) ∙ ap (λ (y : NetLine). ids_of y.current) (sym here)))
            (λ s.
            ap (map id_of) (filter_without (is_on k) (is_on l) (λ y on_l. off y.line k on_l s) (held_at w n))
            ∙ (h.slots n k on ∙ ap (λ (y : NetLine). ids_of y.current) (sym (line_other n l x w.lines n k (second_apart n k s))))))
            (λ j apart. h.slots j k on ∙ ap (λ (y : NetLine). ids_of y.current) (sym (line_other n l x w.lines j k (first_apart j k apart)))) m;
        windows = λ m k.
            subst (IsWindow (line_in lines' m k)) (sym (got_kept (end_at net m k).node (end_at net m k).line))
            (each_line (λ (i j : ℕ) (y : NetLine). IsWindow y (got_in w.lines (end_at net i j))) n l x w.lines inside (inl got_here) (λ i j apart. h.windows i j) m k);
        counted = λ i.
            let gone : count (live_in net lines' i n) (f (held_at w n)) ≡ count (live_in net w.lines i n) (held_at w n) =
            count_without (live_in net w.lines i n) (live_in net lines' i n) (is_on l)
            (λ y on_l. subst (λ (k : ℕ). (is_job i y && is_live net w.lines n k) ≡ false) (sym (same_number y.line l on_l)) (ap (λ (b : Bool). is_job i y && b) dead ∙ and_false (is_job i y)))
            (λ y off_l. ap (λ (b : Bool). is_job i y && b) (live_other n y.line (second_apart n y.line off_l))) (held_at w n) one in
            let placed : count (live_in net lines' i n) (item [] n held') ≡ count (live_in net lines' i n) (f (item [] n w.held)) =
            ap (count (live_in net lines' i n)) (item_kept [] f n w.held refl) in
            let all : 0 + lives net lines' held' i ≡ 0 + lives net w.lines w.held i =
            lives_at net w.lines lines' w.held held' i n 0 0 (sym (item_length f n w.held)) low high
            (λ m apart.
            ap (count (live_in net lines' i m)) (item_other [] f n m w.held apart)
            ∙ count_same (live_in net lines' i m) (live_in net w.lines i m) (λ y. ap (λ (b : Bool). is_job i y && b) (live_other m y.line (first_apart m y.line apart))) (item [] m w.held))
            (omega arith) in
            let was = h.counted i in
            omega arith;
        known = all_change_item (AllByRecursion (IsForItsNode dests)) f (λ hs all. all_without (IsForItsNode dests) (is_on l) hs all) n w.held h.known;
        there = h.there;
        frames = frames_kept dests n l x w.lines inside (λ y known number. old_number y number) w.frames h.frames;
        acks = acks_kept n l x w.lines inside (omega arith) w.acks h.acks;
      }
    where
      first_apart : (j k : ℕ) → (j == n) ≡ false → ((j == n) && (k == l)) ≡ false
      first_apart j k e = rw e refl

      second_apart : (j k : ℕ) → (k == l) ≡ false → ((j == n) && (k == l)) ≡ false
      second_apart j k e = rw e (and_false (j == n))

      off : (j k : ℕ) → (j == l) ≡ true → (k == l) ≡ false → (j == k) ≡ false
      off j k on apart = let at : j ≡ l = same_number j l on in rw at (turned_round k l apart)

      old_number : (y : NetFrame) → IsNumbered y.number y.id (line_at w n l) → IsNumbered y.number y.id (has_sent (line_at w n l))
      old_number y (inl old) = inl (omega arith)
      old_number y (inr both) = inl (let is = both.0 in omega arith)
