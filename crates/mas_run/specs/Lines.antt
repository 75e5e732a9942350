-- A line of a script as it was played: what it gave, why it was cut, and what it did to the plant.
use Rattle.mas_run.specs.Names.{Dev, Ckpt1, Ckpt2, Spool, MemberId, Batch, Ask, Console, Disk, ViewLine as Line, View, paper_now, Rose, next, SamePapers, NodeNo, VolumesStay, console_now, none_lost, Deck, Work, Line as Node, Cut, Ends, Stops, Writing, Scene, Admission, Plays, Replaces, TakesOver, Piece, Played, is_up, IsRight, queue_met, AreBatched, AtCut, IsBroken, IsHaltBy, IsTight, whole_pieces, AreFoundIn, named_in, waits_in, AreVolumesKept, HasStopped, OnlyStops, Proceeds, StaysLost}
use Rattle.std.specs.Prelude.{◌≡◌, ◌≢◌, ◌⊎◌, ℕ, ◌+◌, ◌<◌, ◌==◌, ◌&&◌, Bool, true, false, if◌then◌else◌, List, [], ◌++◌, length, map, take, Option, Some, None, Result, Ok, Err}
use Rattle.mas_types.specs.declared.journals.Fate.{Fate}
use Rattle.script_lang.specs.declared.types.Ask.TheVariants as ask
use Rattle.member_node.specs.declared.member.NodeNo.TheVariants as no_node
use Rattle.mas_run.specs.LinesAt.{LineAt, admitted_at, pieces_as, pieces_at, played_at}
use Rattle.mas_run.specs.Shapes.{IsShaped}
use Rattle.member_resets.specs.WhyLost.{IsWhyLost}

-- LINES OF MEMBERS: all but stops, stops that are armed, and losses of a device

abbrev pub IfOfMember : Ask → Type 0 → Type 0
IfOfMember ask.Stop P = Unit {0}
IfOfMember (ask.StopIn what n) P = Unit {0}
IfOfMember (ask.Lose dev) P = Unit {0}
IfOfMember what P = P

-- where it was cut, if it was
abbrev pub cut_in : Ask → Option Cut → Option Cut
cut_in ask.Stop cut = None
cut_in (ask.StopIn what n) cut = None
cut_in (ask.Lose dev) cut = None
cut_in what cut = cut

abbrev pub cut_of : LineAt → Option Cut
cut_of l = cut_in l.step.what l.given.sight.cut

-- Where content is told its pieces are those that the queue gives, by what the line found; and else they are shaped as
-- its task gives them.
pub record IsGiven (told : Type 0) (l : LineAt) (old new : View) : Type 0 where
  pub shaped : told ⊎ IfOfMember l.step.what (IsShaped l old new)
  pub right : told → IsRight l.scene l.number l.given l.step

-- what it found in the acts that it waited for, in the pieces that it played whole, failed in it
abbrev pub IsHonestAs : LineAt → Admission → Option Cut → View → View → Type 0
IsHonestAs l a cut old new =
    let ps = pieces_as l a in
    AreFoundIn l.scene.queue.config.groups l.step.by old new l.given.sight.finds
    (waits_in (take (whole_pieces cut ps) ps) (queue_met l.scene a l.given.sight))

abbrev pub IsHonest : LineAt → View → View → Type 0
IsHonest l old new = IsHonestAs l (admitted_at l) (cut_of l) old new

-- both are one device
abbrev pub same_device : Dev → Dev → Bool
same_device Ckpt1 Ckpt1 = true
same_device Ckpt2 Ckpt2 = true
same_device (Spool n) (Spool volume) = n == volume
same_device _ _ = false

-- VOLUMES THAT STAY: each but those that the line names is lost where it was, and no fault of it is counted. A line of
-- a member names those that its acts found lost, in the pieces that it played whole; one that loses a volume names
-- that.

abbrev pub named_as : LineAt → Admission → Option Cut → ℕ → Bool
named_as l a cut =
    let ps = pieces_as l a in
    named_in l.given.sight.finds (waits_in (take (whole_pieces cut ps) ps) (queue_met l.scene a l.given.sight))

abbrev pub StaysAs : LineAt → Admission → Option Cut → View → View → Type 0
StaysAs l a cut old new = VolumesStay (named_as l a cut) old new

abbrev pub names_in : Ask → (ℕ → Bool) → ℕ → Bool
names_in ask.Stop found = none_lost
names_in (ask.StopIn what n) found = none_lost
names_in (ask.Lose dev) found = λ volume. same_device (Spool volume) dev
names_in what found = found

abbrev pub named_by : LineAt → ℕ → Bool
named_by l = names_in l.step.what (named_as l (admitted_at l) (cut_of l))

-- WHY IT WAS CUT

-- one act followed that in which a member was stopped: the operator said so, or could not
abbrev pub IsNextAct : View → Type 0
IsNextAct v = v.now ≡ next v.halt

-- the operator could not say that the member was stopped: the console failed at it, or there was no memory for the
-- line, and nothing followed
abbrev pub IsUnsaid : NodeNo → View → Type 0
IsUnsaid no_node.ConsoleFault v = IsNextAct v
IsUnsaid no_node.NoMemory v = v.now ≡ v.halt
IsUnsaid _ v = ⊥

-- the run ends with this answer, and nobody was stopped
pub record EndsBy (e : NodeNo) (by : MemberId) (cut : Cut) (old new : View) : Type 0 where
  pub why : IsHaltBy e cut.halt
  pub other : e ≢ no_node.Halted
  pub up : new.stops by.0 ≡ old.stops by.0

-- the member was stopped, and the operator could not say so
pub record StopsUnsaid (e : NodeNo) (by : MemberId) (cut : Cut) (old new : View) : Type 0 where
  pub why : IsHaltBy no_node.Halted cut.halt
  pub stopped : HasStopped by old new
  pub unsaid : IsUnsaid e new

-- A line that was cut while the run went on: its member was stopped, and made no act after that. Or the run ended in
-- it.
abbrev pub IsCutAs : {T : Type 0} → Result T NodeNo → MemberId → Cut → View → View → Type 0
IsCutAs (Ok done) by cut old new = (cut.cause ≡ Stops) × IsHaltBy no_node.Halted cut.halt × HasStopped by old new
    × IsNextAct new
IsCutAs (Err e) by cut old new = (cut.cause ≡ Ends) × (EndsBy e by cut old new ⊎ StopsUnsaid e by cut old new)

abbrev pub CutsAs : {T : Type 0} → Result T NodeNo → MemberId → Option Cut → View → View → Type 0
CutsAs (Ok done) by None old new = new.stops by.0 ≡ old.stops by.0
CutsAs (Err e) by None old new = ⊥
CutsAs result by (Some cut) old new = IsCutAs result by cut old new

-- a piece was begun, and cut in it; or the batch in flight wasn't found out, and the line has no piece
abbrev pub IsThere : Cut → List Piece → Type 0
IsThere cut ps = (cut.sittings < length ps) ⊎ ((ps ≡ []) × (cut.halt ≡ Writing 0 None))

abbrev pub IsWithin : Option Cut → List Piece → Type 0
IsWithin None ps = Unit {0}
IsWithin (Some cut) ps = IsThere cut ps

-- WHAT A CUT MAY NOT LEAVE: a batch without its last entries is kept only if memory wanted, or the line works or serves
-- another node

abbrev pub is_work : Admission → Bool
is_work (Plays (Work n)) = true
is_work (Plays (Node n)) = true
is_work _ = false

-- why a line was cut that was cut: its member was stopped, or else this was the answer
abbrev pub IsWhy : {T : Type 0} → Result T NodeNo → MemberId → View → View → NodeNo → Type 0
IsWhy (Ok done) by old new why = why ≡ no_node.Halted
IsWhy (Err e) by old new why = ((why ≡ e) × (new.stops by.0 ≡ old.stops by.0))
    ⊎ ((why ≡ no_node.Halted) × HasStopped by old new)

abbrev pub IfIdle : Bool → Type 0 → Type 0
IfIdle true P = Unit {0}
IfIdle false P = P

-- DEVICES LOST BY A CALL

-- a line puts another device in the place of this one
abbrev pub is_replaced : Dev → Admission → Bool
is_replaced d (Replaces dev) = same_device d dev
is_replaced d _ = false

-- how often a call lost a device after a line that lost this one, or none
abbrev pub loses_then : Option Dev → Dev → ℕ → ℕ
loses_then None d loses = loses
loses_then (Some lost) d loses = if same_device d lost then next loses else loses

-- a takeover may lose a copy once, which may not stay beside the pages found
abbrev pub is_takeover : Admission → Bool
is_takeover (TakesOver of) = true
is_takeover _ = false

-- what a line that takes the lock over found of a batch in flight; Flying is nothing yet
abbrev pub taking : Bool → Fate → Option Fate
taking true found = Some found
taking false found = None

abbrev pub MayLoseCopy : (List ℕ → Option (List ℕ)) → Option Fate → Dev → View → View → Type 0
MayLoseCopy reads (Some found) Ckpt1 old new = (new.loses Ckpt1 ≡ old.loses Ckpt1 + 1)
    × (new.lost (Disk Ckpt1) ≡ true) × IsWhyLost reads found Ckpt1 Ckpt2 old new
MayLoseCopy reads (Some found) Ckpt2 old new = (new.loses Ckpt2 ≡ old.loses Ckpt2 + 1)
    × (new.lost (Disk Ckpt2) ≡ true) × IsWhyLost reads found Ckpt2 Ckpt1 old new
MayLoseCopy reads _ d old new = ⊥

abbrev pub LosesAs : (List ℕ → Option (List ℕ)) → Option Fate → Option Dev → View → View → Type 0
LosesAs reads took lost old new = (d : Dev)
    → (new.loses d ≡ loses_then lost d (old.loses d)) ⊎ MayLoseCopy reads took d old new

-- STOPS THAT ARE ARMED, by a line that isn't one of a member that is none, or was stopped before

abbrev pub arms_by : Scene → MemberId → Ask → Bool
arms_by S by (ask.StopIn what n) = is_up S by
arms_by S by _ = false

-- AN ACCOUNT of a line: what it comes to, where it was cut, the volumes that it names, and whether it arms a stop
pub record Account : Type 0 where
  pub line : LineAt
  pub played : Played
  pub cut : Option Cut
  pub named : ℕ → Bool
  pub arms : Bool

abbrev pub account_at : LineAt → Account
account_at l = record {
  line = l;
  played = played_at l;
  cut = cut_of l;
  named = named_by l;
  arms = arms_by l.scene l.step.by l.step.what;
}

abbrev pub arms_then : Account → ℕ → ℕ → ℕ
arms_then w m arms = if w.arms && (w.line.step.by.0 == m) then next arms else arms

-- WHAT STAYS

-- no line is printed: the line doesn't work
abbrev pub PrintsNone : Admission → Type 0
PrintsNone (Plays (Work n)) = ⊥
PrintsNone _ = Unit {0}

-- the volumes stay as they are: the line plays no deck and no work, serves no other node, and loses no volume
abbrev pub AdmissionLeaves : Admission → Type 0
AdmissionLeaves (Plays (Work n)) = ⊥
AdmissionLeaves (Plays (Node n)) = ⊥
AdmissionLeaves (Plays (Deck fields text)) = ⊥
AdmissionLeaves _ = Unit {0}

abbrev pub AskLeaves : Admission → Ask → Type 0
AskLeaves a (ask.Lose (Spool n)) = ⊥
AskLeaves a (ask.Lose dev) = Unit {0}
AskLeaves a what = AdmissionLeaves a

abbrev pub LeavesVolumes : LineAt → Type 0
LeavesVolumes l = AskLeaves (admitted_at l) l.step.what

-- the lines that the member's printer got, and no others
abbrev pub printed_at : Account → ℕ → List Line
printed_at w m = if w.line.step.by.0 == m then w.played.outcome.printed else []

-- A LINE THAT WAS PLAYED, on a plant that showed `old` before and `new` after it, with these batches of its own and
-- this answer.
pub record IsPassed (told : Type 0) (w : Account) (own : List Batch) (old new : View)
    (answer : Result (Unit {0}) NodeNo) : Type 0 where
  pub goes : Proceeds old new
  pub given : IsGiven told w.line old new
  pub honest : told → IfOfMember w.line.step.what (IsHonestAs w.line (admitted_at w.line) w.cut old new)
  pub stay : told → VolumesStay w.named old new
  pub cut : CutsAs answer w.line.step.by w.cut old new
  pub within : IsWithin w.cut (pieces_at w.line)
  pub why : NodeNo
  pub is_why : IsWhy answer w.line.step.by old new why
  pub tight : IfIdle (is_work (admitted_at w.line)) (AtCut (IsTight why) w.cut (pieces_at w.line))
  pub broke : told → AtCut (IsBroken why) w.cut (pieces_at w.line)
  pub spares : OnlyStops w.line.step.by old new
  pub failed : answer ≡ Err no_node.ConsoleFault → Rose (old.faults Console) (new.faults Console)
  -- its batches are in the journal, its lines on the console and on its member's printer, and no others
  pub batches : AreBatched w.line.step.by old.now new.now w.played.outcome.batches own
  pub console : told → console_now new ≡ console_now old ++ map (λ s. s.line) w.played.outcome.said
  pub paper : told → (m : ℕ) → paper_now new m ≡ paper_now old m ++ printed_at w m
  pub dry : told → PrintsNone (admitted_at w.line) → SamePapers old new
  pub stays : (d : Dev) → is_replaced d (admitted_at w.line) ≡ false → StaysLost d old new
  pub arms : (m : ℕ) → new.arms m ≡ arms_then w m (old.arms m)
  pub volumes : told → LeavesVolumes w.line → AreVolumesKept old new
