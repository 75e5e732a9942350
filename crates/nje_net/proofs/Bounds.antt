-- No number grows by more than one in an event.
use Rattle.std.proofs.Common.{◌≡◌, ℕ, zero, suc, ◌+◌, ◌<◌, ◌≤◌, Bool, true, false, List, [], ◌∷◌, ◌++◌, length, replicate, Option, Some, None, get_or, take, refl, ap, sym, ◌∙◌, subst, arith}
use Rattle.std.specs.Prelude.{Result, Ok, Err, OnOk, OnErr, if◌then◌else◌}
use Rattle.std.specs.List.{AllByRecursion, find}
use Rattle.std.proofs.lemmas.List.{take_more}
use Rattle.mas_types.specs.declared.ids.Name8.{Name8}
use Rattle.mas_types.specs.declared.ids.NoMemory.{NoMemory}
use Rattle.mas_types.specs.Ids.{same_name}
use Rattle.mas_types.specs.Limits.{wires_most}
use Rattle.nje_net.specs.declared.nets.End.{End}
use Rattle.nje_net.specs.declared.nets.Net.{Net}
use Rattle.nje_net.specs.declared.worlds.NetFrame.{NetFrame}
use Rattle.nje_net.specs.declared.worlds.NetAck.{NetAck}
use Rattle.nje_net.specs.declared.worlds.NetLine.{NetLine}
use Rattle.nje_net.specs.declared.worlds.NetWorld.{NetWorld}
use Rattle.nje_net.specs.declared.worlds.NetEvent.{NetEvent}
use Rattle.nje_net.specs.declared.worlds.NetEvent.TheVariants as event
use Rattle.nje_net.specs.Numbered.{item, numbered}
use Rattle.nje_net.specs.Nets.{node_at, is_none, end_at}
use Rattle.nje_net.specs.Worlds.{no_line, line_at, put_line, held_at, idle_lines, start}
use Rattle.nje_net.specs.Events.{arrives, is_held, waiting_job, job_at, may_take, can_load, loaded, is_on, frames_of, has_job, is_again, is_next, acknowledges, has_got, gets, take_over, frame_comes, is_of_current, has_sent, sends, ack_comes, moved, runs}
use Rattle.nje_net.specs.Lossless.{IsLineBelow, IsBelow}
use Rattle.nje_net.proofs.Tests.{all_weaker}
use Rattle.nje_net.proofs.Items.{all_item, all_change_item}
use Rattle.nje_net.proofs.Writes.{Lines}

abbrev AreBelow : ℕ → Lines → Type 0
AreBelow b lines = AllByRecursion (AllByRecursion (IsLineBelow b)) lines

lines_more : (b c : ℕ) → b ≤ c → (lines : Lines) → AreBelow b lines → AreBelow c lines
lines_more b c more lines all =
    all_weaker (AllByRecursion (IsLineBelow b)) (AllByRecursion (IsLineBelow c))
    (λ xs each. all_weaker (IsLineBelow b) (IsLineBelow c) (λ x low. (let sent = low.0 in omega arith, let got = low.1 in omega arith)) xs each) lines all

pub below_more : (b c : ℕ) (w : NetWorld) → b ≤ c → IsBelow b w → IsBelow c w
below_more b c w more h = (let low = h.0 in omega arith, lines_more b c more w.lines h.1)

-- a line is below, also one that isn't there
pub line_below : (b : ℕ) (w : NetWorld) (n l : ℕ) → 0 < b → IsBelow b w → IsLineBelow b (line_at w n l)
line_below b w n l some h = all_item no_line (IsLineBelow b) (some, some) l (item [] n w.lines) (all_item [] (AllByRecursion (IsLineBelow b)) tt n w.lines h.1)

put_below : (b n l : ℕ) (x : NetLine) (lines : Lines) → IsLineBelow b x → AreBelow b lines → AreBelow b (put_line n l x lines)
put_below b n l x lines new all =
    all_change_item (AllByRecursion (IsLineBelow b)) _ (λ xs each. all_change_item (IsLineBelow b) (λ was. x) (λ y low. new) l xs each) n lines all

module _ (b : ℕ) (w : NetWorld) (h : IsBelow b w) where
  more : IsBelow (b + 1) w
  more = below_more b (b + 1) w (omega arith) h

  some : 0 < b
  some = let low = h.0 in omega arith

  -- a write of a line whose numbers are at most one more
  one_line : (n l : ℕ) (x : NetLine) → x.sent ≤ (line_at w n l).sent + 1 → x.got ≤ (line_at w n l).got + 1 → AreBelow (b + 1) (put_line n l x w.lines)
  one_line n l x sent got =
      let was = line_below b w n l some h in
      put_below (b + 1) n l x w.lines (let low = was.0 in omega arith, let low = was.1 in omega arith) (lines_more b (b + 1) (omega arith) w.lines h.1)

  -- a job at a node changes no line
  placed : (same : Bool) (id n k : ℕ) (dest : Name8) (v : NetWorld) → k < b + 1 → AreBelow (b + 1) v.lines
      → IsBelow (b + 1) (record (if same then arrives id n v else is_held n (waiting_job id dest) v) { entered = k })
  placed true id n k dest v low lines = (low, lines)
  placed false id n k dest v low lines = (low, lines)

  entered_below : (n : ℕ) (dest : Name8) (net : Net) (may : Bool)
      → IsBelow (b + 1) (if may then record (job_at net n (w.entered + 1) dest w) { entered = w.entered + 1 } else w)
  entered_below n dest net true = placed (same_name (node_at net n).name dest) (w.entered + 1) n (w.entered + 1) dest w (let low = h.0 in omega arith) (more).1
  entered_below n dest net false = more

  loaded_below : (net : Net) (n l : ℕ) (may : Bool) → IsBelow (b + 1) (if may then loaded (node_at net n).routes w n l else w)
  loaded_below net n l true = ((more).0, one_line n l _ (omega arith) (omega arith))
  loaded_below net n l false = more

  given_below : (n l : ℕ) (may : Bool)
      → IsBelow (b + 1) (if may then record w { frames = w.frames ++ frames_of n l ((line_at w n l).sent + 1) (find (is_on l) (held_at w n)) } else w)
  given_below n l true = more
  given_below n l false = more

  put_got : (same : Bool) (f : NetFrame) (e : End)
      → IsBelow (b + 1) (gets e (line_at w e.node e.line) (if same then arrives f.id e.node (acknowledges e f.number w) else is_held e.node (waiting_job f.id f.dest) (acknowledges e f.number w)))
  put_got true f e = ((more).0, one_line e.node e.line (has_got (line_at w e.node e.line)) (omega arith) (omega arith))
  put_got false f e = ((more).0, one_line e.node e.line (has_got (line_at w e.node e.line)) (omega arith) (omega arith))

  taken_below : (net : Net) (f : NetFrame) (e : End) (may : Bool)
      → IsBelow (b + 1) (if may then gets e (line_at w e.node e.line) (job_at net e.node f.id f.dest (acknowledges e f.number w)) else w)
  taken_below net f e true = put_got (same_name (node_at net e.node).name f.dest) f e
  taken_below net f e false = more

  received_below : (net : Net) (f : NetFrame) (e : End) (none again next : Bool)
      → IsBelow (b + 1) (if none then w else (if again then acknowledges e f.number w else (if next then take_over net w f e else w)))
  received_below net f e true again next = more
  received_below net f e false true next = more
  received_below net f e false false true = taken_below net f e (may_take net e.node f.dest)
  received_below net f e false false false = more

  frame_below : (net : Net) (o : Option NetFrame) → IsBelow (b + 1) (frame_comes net w o)
  frame_below net None = more
  frame_below net (Some f) =
      received_below net f (end_at net f.node f.line) (is_none (end_at net f.node f.line))
      (is_again f.number (line_at w (end_at net f.node f.line).node (end_at net f.node f.line).line))
      (is_next f.number (line_at w (end_at net f.node f.line).node (end_at net f.node f.line).line))

  sent_below : (e : End) (may : Bool) → IsBelow (b + 1) (if may then sends e (line_at w e.node e.line) w else w)
  sent_below e true = ((more).0, one_line e.node e.line (has_sent (line_at w e.node e.line)) (omega arith) (omega arith))
  sent_below e false = more

  ack_below : (net : Net) (o : Option NetAck) → IsBelow (b + 1) (ack_comes net w o)
  ack_below net None = more
  ack_below net (Some a) = sent_below (end_at net a.node a.line) (is_of_current a.number (line_at w (end_at net a.node a.line).node (end_at net a.node a.line).line))

  moved_below : (net : Net) (e : NetEvent) → IsBelow (b + 1) (moved net w e)
  moved_below net (event.Enter n dest) = entered_below n dest net (may_take net n dest)
  moved_below net (event.Load n l) = loaded_below net n l (can_load net w n l)
  moved_below net (event.Give n l) = given_below n l (has_job (line_at w n l))
  moved_below net (event.Frame i) = frame_below net (numbered i w.frames)
  moved_below net (event.Ack i) = ack_below net (numbered i w.acks)

-- the numbers stay below the next bound after an event, or out of memory
pub step_below : (net : Net) (w new : NetWorld) (e : NetEvent) (r : Result (Unit {0}) NoMemory) → OnOk r (new ≡ moved net w e) → OnErr r (new ≡ w)
    → (b : ℕ) → IsBelow b w → IsBelow (b + 1) new
step_below net w new e (Ok done) moves stays b h = subst (IsBelow (b + 1)) (sym moves) (moved_below b w h net e)
step_below net w new e (Err why) moves stays b h = subst (IsBelow (b + 1)) (sym stays) (below_more b (b + 1) w (omega arith) h)

all_replicate : {A : Type 0} (P : A → Type 0) (x : A) → P x → (k : ℕ) → AllByRecursion P (replicate k x)
all_replicate P x is zero = tt
all_replicate P x is (suc k) = (is, all_replicate P x is k)

pub start_below : (net : Net) → IsBelow 1 (start net)
start_below net =
    let idle : AllByRecursion (IsLineBelow 1) idle_lines = all_replicate (IsLineBelow 1) no_line (omega arith, omega arith) wires_most in
    (omega arith, all_replicate (AllByRecursion (IsLineBelow 1)) idle_lines idle (length net.nodes))

runs_push : (net : Net) (w : NetWorld) (es : List NetEvent) (e : NetEvent) → runs net w (es ++ e ∷ []) ≡ moved net (runs net w es) e
runs_push net w [] e = refl
runs_push net w (x ∷ es) e = runs_push net (moved net w x) es e

-- one event further
pub runs_more : (net : Net) (w was : NetWorld) (es : List NetEvent) (i : ℕ) (d : NetEvent) → i < length es → was ≡ runs net w (take i es)
    → moved net was (get_or es i d) ≡ runs net w (take (i + 1) es)
runs_more net w was es i d inside so_far =
    ap (λ (v : NetWorld). moved net v (get_or es i d)) so_far
    ∙ sym (ap (runs net w) (take_more es i d inside) ∙ runs_push net w (take i es) (get_or es i d))
