-- What a takeover in the middle of a line, a sitting, and a line that resets left of their piece.
use Rattle.std.proofs.lemmas.List.Elements.{All-nil}
use Rattle.std.proofs.Common.{◌≡◌, ◌≢◌, ◌∙◌, ⊎_elim, ◌<◌, ℕ, false, List, [], ◌∷◌, length, Option, Some, None, Result, Ok, Err, ap, refl, subst, sym, arith}
use Rattle.mas_types.specs.declared.commands.Command.TheVariants as command
use Rattle.mas_types.specs.declared.ids.MemberId.{MemberId}
use Rattle.mas_types.specs.declared.queues.Queue.{Queue}
use Rattle.mas_types.specs.Closings.{closing_line}
use Rattle.lock_cycle.specs.Books.{Book}
use Rattle.spool_plant.specs.View.{View}
use Rattle.spool_plant.specs.declared.plant.Plant.{Ghosts as PlantGhosts}
use Rattle.ckpt_copy.specs.declared.copying.Copying.{Ghosts as CopyGhosts}
use Rattle.mas_complex.specs.Paper.{counts_of}
use Rattle.mas_complex.specs.Parts.{Parts}
use Rattle.run_turns.specs.Pieces.{Piece, piece_of, reset_closing}
use Rattle.run_turns.specs.Sights.{Cause, Cut}
use Rattle.race_turns.specs.Turns.{reset_sitting, stage_after}
use Rattle.step_turns.specs.Entries.{reply_to}
use Rattle.step_turns.specs.Laws.{on_line}
use Rattle.step_turns.specs.Sittings.{Sitting, sit}
use Rattle.step_turns.specs.States.{nothing_found}
use Rattle.step_turns.specs.declared.states.Holder.{Holder}
use Rattle.step_turns.specs.declared.states.Release.TheVariants.{Inner}
use Rattle.step_turns.specs.declared.states.State.TheVariants.{Fresh, Told}
use Rattle.step_turns.specs.declared.states.Task.TheVariants.{Give}
use Rattle.member_node.specs.declared.member.Member.{Member}
use Rattle.member_node.specs.declared.member.NodeNo.{NodeNo}
use Rattle.member_sittings.specs.declared.ends.SittingEnd.{SittingEnd}
use Rattle.member_sittings.specs.Sat.{Start, begins}
use Rattle.member_sittings.specs.Whole.{queue_of}
use Rattle.member_resets.specs.Cuts.{IsCut, IsCutBy}
use Rattle.member_resets.specs.Locks.{MayHold}
use Rattle.member_resets.specs.Plays.{Leaves, Writes, left_of}
use Rattle.member_resets.proofs.Cutting.{cut_at}
use Rattle.member_resets.proofs.Turning.{seat_queue}
use Rattle.member_resets.specs.Resetting.{HasResetBy, reset_begins}
use Rattle.member_racing.specs.Kinds.{GaveReset, HasSeat, SeatsAndResets, SitsBy}
use Rattle.member_racing.specs.Stages.{stage_of}
use Rattle.member_racing.specs.Opened.{done_of}
use Rattle.member_racing.specs.declared.stages.Stage.{Stage as Stands}
use Rattle.member_racing.proofs.TurnLeft.{OwnTexts, cut_so, own_closing, own_shaped, silent_shaped, whole_so}
use Rattle.member_racing.proofs.TurnSits.{PieceGone, cut_gone, piece_as, piece_released, unseated_gone, whole_gone}

-- the piece of a line that resets
abbrev pub reset_piece_of : Queue → Holder → MemberId → Piece
reset_piece_of Q h of =
    let c = command.Reset of in
    piece_of (record (sit Q h (Fresh (Give c)) nothing_found) { lines = closing_line h.by h.step (reset_closing of (reply_to Q h.by c)) ∷ [] }) false []

-- the same answer, but for what comes with Ok
abbrev pub IsSame : {T : Type 0} → Result (Unit {0}) NodeNo → Result T NodeNo → Type 0
IsSame (Ok done) (Ok value) = Unit {0}
IsSame (Ok done) (Err e) = ⊥
IsSame (Err e) (Ok value) = ⊥
IsSame (Err e) (Err f) = e ≡ f

pub same_done : (q : Result Stands NodeNo) → IsSame (done_of q) q
same_done (Ok s) = tt
same_done (Err e) = refl

module _ {P C : Type 0} (plants : PlantGhosts P) (copies : CopyGhosts C) (t : plants.tells) where
  abbrev v : Parts P C → View
  v q = plants.view q.plant

  -- A SITTING

  module _ (s : Start) (x : Parts P C) (may : MayHold x.book s.holder.by) (none : x.current ≡ None) (unplaced : x.placed ≡ false) (ne : s.state ≢ Told) (off : on_line s.state ≡ false) where
    abbrev me : MemberId
    me = s.holder.by

    abbrev its : Sitting
    its = sit (queue_of x) s.holder s.state s.found

    -- where the step stands then
    pub sits_next : (y : Parts P C) (n : Member) (next : Stands) → SitsBy plants copies s x y n (Ok next) → stage_of next ≡ stage_after its.next
    sits_next y n next o =
        let sat = o.turn.sat in
        o.stands ∙ ap stage_after (sat.sat.ends.next ∙ ap (λ (u : Sitting). u.next) (sat.is t ∙ ap (λ (Q : Queue). sit Q s.holder s.state s.found) (seat_queue plants copies s x o.turn.seat may none unplaced o.turn.locked ne)))

    -- it says nothing before the step is told
    pub sits_silent : (y : Parts P C) (n : Member) (next : Stands) → SitsBy plants copies s x y n (Ok next) → its.next ≢ Told → its.lines ≡ []
    sits_silent y n next o =
        let sat = o.turn.sat in
        let is : sat.sitting ≡ its = sat.is t ∙ ap (λ (Q : Queue). sit Q s.holder s.state s.found) (seat_queue plants copies s x o.turn.seat may none unplaced o.turn.locked ne) in
        subst (λ (u : Sitting). u.next ≢ Told → u.lines ≡ []) is (silent_shaped s.holder s.found sat.sitting s.state off sat.shaped)

    pub sits_gone : (y : Parts P C) (n : Member) (r : Result Stands NodeNo) → SitsBy plants copies s x y n r → PieceGone plants copies me s.holder.step x.batches (v x) (counts_of x.printed me) y its r
    sits_gone y n (Ok next) o =
        let sat = o.turn.sat in
        let seat = o.turn.seat in
        let is : sat.sitting ≡ its = sat.is t ∙ ap (λ (Q : Queue). sit Q s.holder s.state s.found) (seat_queue plants copies s x seat may none unplaced o.turn.locked ne) in
        piece_as plants copies me s.holder.step x.batches (v x) (counts_of x.printed me) y sat.sitting its (Ok next) is
        (whole_gone plants copies s x seat may none unplaced o.turn.locked ne t o.turn.took o.there o.turn.frame next o.end sat.sitting (own_shaped s.holder s.found sat.sitting s.state off sat.shaped) sat.sat y
        (o.frame ∙ ap (λ (b : Book). record o.there { book = b }) (sym (ap (λ (q : Parts P C). q.book) o.frame))))
    sits_gone y n (Err e) o = ⊎_elim
        (λ took. unseated_gone plants copies s x y may none unplaced took.frame ne t 0 e took.acts Stands its)
        (λ cut.
        let sat = cut.sat in
        let is : sat.sitting ≡ its = sat.is t ∙ ap (λ (Q : Queue). sit Q s.holder s.state s.found) (seat_queue plants copies s x cut.seat may none unplaced cut.took.frame ne) in
        piece_as plants copies {T = Stands} me s.holder.step x.batches (v x) (counts_of x.printed me) y sat.sitting its (Err e) is
        (cut_gone plants copies s x cut.seat may none unplaced cut.took.frame ne t cut.took.acts y cut.frame Stands e sat.sitting (own_shaped s.holder s.found sat.sitting s.state off sat.shaped) sat.sat sat.tight)) o

  -- A RESET that says nothing

  module _ (h : Holder) (of : MemberId) (x : Parts P C) (may : MayHold x.book h.by) (none : x.current ≡ None) (unplaced : x.placed ≡ false) where
    abbrev start : Start
    start = begins h (reset_begins of)

    not_told : start.state ≢ Told
    not_told e = absurd (cc)

    abbrev resets : Sitting
    resets = reset_sitting (queue_of x) h.by h.step of

    -- it says nothing
    silent : (y seat : Parts P C) (r : Result SittingEnd NodeNo) (g : GaveReset plants copies h of seat y r) → OwnTexts h.by h.step g.sitting.lines
    silent y seat r g = subst (λ (u : Sitting). OwnTexts h.by h.step u.lines) (sym g.shaped.1) (All-nil _)

    its_sitting : (y seat : Parts P C) (r : Result SittingEnd NodeNo) (g : GaveReset plants copies h of seat y r) → queue_of seat ≡ queue_of x → record g.sitting { release = Inner } ≡ resets
    its_sitting y seat r g same = g.is t ∙ ap (λ (Q : Queue). reset_sitting Q h.by h.step of) same

    pub gave_gone : (T : Type 0) (y : Parts P C) (e : NodeNo) → SeatsAndResets plants copies h of x y (Err e) → PieceGone plants copies {T = T} h.by h.step x.batches (v x) (counts_of x.printed h.by) y resets (Err e)
    gave_gone T y e g =
        let w : Sitting = g.gave.sitting in
        let same : queue_of g.seat ≡ queue_of x = seat_queue plants copies start x g.seat may none unplaced g.took.frame not_told in
        piece_as plants copies {T = T} h.by h.step x.batches (v x) (counts_of x.printed h.by) y (record w { release = Inner }) resets (Err e) (its_sitting y g.seat (Err e) g.gave same)
        (piece_released plants copies {T = T} h.by h.step x.batches (v x) (counts_of x.printed h.by) y w Inner (Err e)
        (cut_gone plants copies start x g.seat may none unplaced g.took.frame not_told t g.took.acts y g.frame T e w (silent y g.seat (Err e) g.gave) g.gave.sat.sat g.gave.sat.tight))

    pub whole_gave : {T : Type 0} (done : T) (there y : Parts P C) (end : SittingEnd) → SeatsAndResets plants copies h of x there (Ok end) → y ≡ record there { book = y.book } → PieceGone plants copies h.by h.step x.batches (v x) (counts_of x.printed h.by) y resets (Ok done)
    whole_gave done there y end g left =
        let w : Sitting = g.gave.sitting in
        let same : queue_of g.seat ≡ queue_of x = seat_queue plants copies start x g.seat may none unplaced g.took.frame not_told in
        piece_as plants copies h.by h.step x.batches (v x) (counts_of x.printed h.by) y (record w { release = Inner }) resets (Ok done) (its_sitting there g.seat (Ok end) g.gave same)
        (piece_released plants copies h.by h.step x.batches (v x) (counts_of x.printed h.by) y w Inner (Ok done)
        (whole_gone plants copies start x g.seat may none unplaced g.took.frame not_told t g.took.acts there g.frame done end w (silent there g.seat (Ok end) g.gave) g.gave.sat.sat y left))

    pub unseated_gave : (T : Type 0) (y : Parts P C) (e : NodeNo) → HasSeat plants copies h.by x y (Err e) → PieceGone plants copies {T = T} h.by h.step x.batches (v x) (counts_of x.printed h.by) y resets (Err e)
    unseated_gave T y e took = unseated_gone plants copies start x y may none unplaced took.frame not_told t 0 e took.acts T resets

  -- A LINE THAT RESETS

  module _ (h : Holder) (of : MemberId) (x y : Parts P C) where
    abbrev reset_now : Piece
    reset_now = reset_piece_of (queue_of x) h of

    abbrev Gone : {T : Type 0} → Result T NodeNo → Type 0
    Gone r = PieceGone plants copies h.by h.step x.batches (v x) (counts_of x.printed h.by) y reset_now.sitting r

    reset_own : OwnTexts h.by h.step reset_now.sitting.lines
    reset_own = own_closing h.by h.step (reset_closing of (reply_to (queue_of x) h.by (command.Reset of)))

    resets_whole : {T : Type 0} (done : T) (ps : List Piece) (cut : Option Cut) → ps ≡ reset_now ∷ [] → cut ≡ None → (q : Result (Unit {0}) NodeNo) → q ≡ Ok tt → Leaves plants copies h.by (left_of plants copies h.by cut ps x) x y → Writes plants copies h.by (left_of plants copies h.by cut ps x) x y q → Gone (Ok done)
    resets_whole done ps cut one none_cut q well l w =
        let leaves : Leaves plants copies h.by (left_of plants copies h.by None (reset_now ∷ []) x) x y =
        subst (λ (c : Option Cut). Leaves plants copies h.by (left_of plants copies h.by c (reset_now ∷ []) x) x y) none_cut (subst (λ (qs : List Piece). Leaves plants copies h.by (left_of plants copies h.by cut qs x) x y) one l) in
        let writes : Writes plants copies h.by (left_of plants copies h.by None (reset_now ∷ []) x) x y (Ok tt) =
        subst (λ (d : Result (Unit {0}) NodeNo). Writes plants copies h.by (left_of plants copies h.by None (reset_now ∷ []) x) x y d) well
        (subst (λ (c : Option Cut). Writes plants copies h.by (left_of plants copies h.by c (reset_now ∷ []) x) x y q) none_cut (subst (λ (qs : List Piece). Writes plants copies h.by (left_of plants copies h.by cut qs x) x y q) one w)) in (
          λ b Q. whole_so plants copies h.by h.step x.batches (v x) y b Q (counts_of x.printed h.by) reset_now leaves.more leaves.journal (v x).now (v y).now leaves.batches writes.console reset_own,
          writes.count,
        )

    resets_cut : (T : Type 0) (e : NodeNo) (ps : List Piece) (cut : Cut) → ps ≡ reset_now ∷ [] → IsCut e ps cut → (q : Result (Unit {0}) NodeNo) → Leaves plants copies h.by (left_of plants copies h.by (Some cut) ps x) x y → Writes plants copies h.by (left_of plants copies h.by (Some cut) ps x) x y q
        → Gone {T = T} (Err e)
    resets_cut T e ps cut one is q l w =
        let there : cut.sittings < length (reset_now ∷ []) = subst (λ (qs : List Piece). cut.sittings < length qs) one is.there in
        let zero : cut.sittings ≡ 0 = omega (arith, there) in
        let same : cut ≡ cut_at e cut.halt = ap (λ (k : ℕ). record cut { sittings = k }) zero ∙ ap (λ (c : Cause). record cut { sittings = 0; cause = c }) is.cause in
        let leaves : Leaves plants copies h.by (left_of plants copies h.by (Some (cut_at e cut.halt)) (reset_now ∷ []) x) x y =
        subst (λ (c : Cut). Leaves plants copies h.by (left_of plants copies h.by (Some c) (reset_now ∷ []) x) x y) same (subst (λ (qs : List Piece). Leaves plants copies h.by (left_of plants copies h.by (Some cut) qs x) x y) one l) in
        let writes : Writes plants copies h.by (left_of plants copies h.by (Some (cut_at e cut.halt)) (reset_now ∷ []) x) x y q =
        subst (λ (c : Cut). Writes plants copies h.by (left_of plants copies h.by (Some c) (reset_now ∷ []) x) x y q) same (subst (λ (qs : List Piece). Writes plants copies h.by (left_of plants copies h.by (Some cut) qs x) x y q) one w) in (
          cut.halt,
          is.halt,
          λ b Q. cut_so plants copies h.by h.step x.batches (v x) y b Q (counts_of x.printed h.by) reset_now e cut.halt leaves.more leaves.journal (v x).now (v y).now leaves.batches writes.console reset_own,
        )

    pub resets_gone : (pages : ℕ) (r : Result (Unit {0}) NodeNo) → HasResetBy plants copies h of x y pages r → {T : Type 0} (q : Result T NodeNo) → IsSame r q → Gone q
    resets_gone pages (Ok done) o (Ok d) same =
        let told = o.told t in resets_whole d told.pieces told.cut told.is told.left.by_answer (Ok done) refl told.left.leaves told.writes
    resets_gone pages (Err e) o {T} (Err f) same =
        let told = o.told t in
        by_cut told.cut told.left.by_answer told.left.leaves told.writes
      where
        by_cut : (cut : Option Cut) → IsCutBy {T = Unit {0}} (Err e) (o.told t).pieces cut → Leaves plants copies h.by (left_of plants copies h.by cut (o.told t).pieces x) x y → Writes plants copies h.by (left_of plants copies h.by cut (o.told t).pieces x) x y (Err e) → Gone {T = T} (Err f)
        by_cut None never l w = absurd never
        by_cut (Some cut) is l w = subst (λ (k : NodeNo). Gone {T = T} (Err k)) same (resets_cut T e (o.told t).pieces cut (o.told t).is is (Err e) l w)
    resets_gone pages (Ok done) o (Err f) same = absurd same
    resets_gone pages (Err e) o (Ok d) same = absurd same
