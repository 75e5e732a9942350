-- What a sitting left of its piece: all of it, or what stood where it was cut.
use Rattle.std.proofs.Common.{◌≡◌, ◌≢◌, ◌∙◌, ◌+◌, ℕ, false, List, [], ◌∷◌, ◌++◌, append-nil, length, map, take, IfOk, Option, Some, None, Result, Ok, Err, ap, refl, subst, sym, arith}
use Rattle.mas_types.specs.declared.ids.MemberId.{MemberId}
use Rattle.mas_types.specs.declared.journals.Batch.{Batch}
use Rattle.mas_types.specs.declared.journals.Entry.{Entry}
use Rattle.mas_types.specs.declared.journals.Fate.{Fate}
use Rattle.mas_types.specs.declared.journals.Fate.TheVariants.{Flying}
use Rattle.mas_types.specs.declared.queues.Queue.{Queue}
use Rattle.lock_cycle.specs.Books.{Book}
use Rattle.spool_plant.specs.View.{Line, View}
use Rattle.spool_plant.specs.declared.plant.Plant.{Ghosts as PlantGhosts}
use Rattle.ckpt_copy.specs.declared.copying.Copying.{Ghosts as CopyGhosts}
use Rattle.mas_complex.specs.Paper.{counts_of}
use Rattle.mas_complex.specs.Parts.{Parts}
use Rattle.run_turns.proofs.Locks.{entries_kept}
use Rattle.run_turns.specs.Cuts.{Left, entries_of, kept_all, whole}
use Rattle.run_turns.specs.Pieces.{Piece, piece_of}
use Rattle.run_turns.specs.Scenes.{count_then}
use Rattle.run_turns.specs.Sights.{Cut, Halt, Writing}
use Rattle.step_turns.specs.Entries.{all_entries}
use Rattle.race_turns.specs.Turns.{Stage, Turn}
use Rattle.step_turns.specs.Sittings.{Sitting}
use Rattle.step_turns.specs.declared.states.Found.{Found}
use Rattle.step_turns.specs.declared.states.Release.{Release}
use Rattle.step_turns.specs.declared.states.State.TheVariants.{Told}
use Rattle.member_node.specs.Calls.{console_now}
use Rattle.member_node.specs.declared.member.NodeNo.{NodeNo}
use Rattle.member_sittings.specs.declared.ends.SittingEnd.{SittingEnd}
use Rattle.member_sittings.specs.Left.{Said, said_of}
use Rattle.member_sittings.specs.Sat.{CopiesActed, IsSat, Start, journal_of, sat_in, seated_in}
use Rattle.member_sittings.specs.Tight.{IfNoWork, IsTightBy}
use Rattle.member_resets.specs.Cuts.{IsHaltBy}
use Rattle.member_resets.specs.Found.{IsFoundAt}
use Rattle.member_resets.specs.Locks.{MayHold}
use Rattle.member_resets.specs.Turns.{taken}
use Rattle.member_resets.proofs.Cutting.{IsLeftAt, cut_at}
use Rattle.member_resets.proofs.Reaching.{reached_all}
use Rattle.member_resets.proofs.Turning.{IsCutIn, seat_batches, seat_printed, told_in, unsat}
use Rattle.member_resets.proofs.SettleLemmas.{journal_still}
use Rattle.member_resets.specs.Settling.{settle}
use Rattle.member_racing.specs.Stages.{Raced, stage_of}
use Rattle.member_racing.specs.Turned.{IfActed}
use Rattle.member_racing.specs.declared.stages.Stage.{Stage as Stands}
use Rattle.member_racing.specs.declared.stages.Stage.TheVariants as line
use Rattle.member_racing.proofs.TurnLeft.{HasGone, LeavesSo, OwnTexts, cut_so, gone_by, left_pieces, none_so, nothing_so, queue_found, turn_in, whole_so}

take_all : (lines : List (List ℕ)) → take (length lines) lines ≡ lines
take_all [] = refl
take_all (l ∷ ls) = ap (λ (k : List (List ℕ)). l ∷ k) (take_all ls)

more_none : (k : ℕ) → k ≡ k + 0
more_none k = omega arith

module _ {P C : Type 0} (plants : PlantGhosts P) (copies : CopyGhosts C) where
  abbrev v : Parts P C → View
  v q = plants.view q.plant

  -- a sitting's piece, all of it, or as far as it came
  abbrev Leaves : MemberId → ℕ → List Batch → View → ℕ → Parts P C → Sitting → Option Cut → Type 0
  Leaves by at front old count y w cut = (b : Book) (Q : Queue) → LeavesSo plants copies by at front (left_pieces by (piece_of w false [] ∷ []) b Q count cut) old y

  abbrev pub PieceGone : {T : Type 0} → MemberId → ℕ → List Batch → View → ℕ → Parts P C → Sitting → Result T NodeNo → Type 0
  PieceGone by at front old count y w (Ok done) = Leaves by at front old count y w None × (counts_of y.printed by ≡ count_then by (entries_of (kept_all w.batches)) count + 0)
  PieceGone by at front old count y w (Err e) = (halt : Halt) × IsHaltBy e halt × Leaves by at front old count y w (Some (cut_at e halt))

  -- of the sitting that it is
  pub piece_as : {T : Type 0} (by : MemberId) (at : ℕ) (front : List Batch) (old : View) (count : ℕ) (y : Parts P C) (w u : Sitting) (r : Result T NodeNo) → w ≡ u → PieceGone by at front old count y w r → PieceGone by at front old count y u r
  piece_as by at front old count y w u r same p = subst (λ (t : Sitting). PieceGone by at front old count y t r) same p

  -- after another moment with the same console
  leaves_seen : (by : MemberId) (at : ℕ) (front : List Batch) (l : Left) (old new : View) (y : Parts P C) → console_now old ≡ console_now new → LeavesSo plants copies by at front l old y → LeavesSo plants copies by at front l new y
  leaves_seen by at front l old new y same s =
      record { more = s.more; journal = s.journal; from = s.from; now = s.now; batches = s.batches; console = s.console ∙ ap (λ (ls : List Line). ls ++ l.lines) same; texts = s.texts }

  pub seen_from : {T : Type 0} (by : MemberId) (at : ℕ) (front : List Batch) (old new : View) (count : ℕ) (y : Parts P C) (w : Sitting) (r : Result T NodeNo) → console_now old ≡ console_now new → PieceGone by at front old count y w r → PieceGone by at front new count y w r
  seen_from by at front old new count y w (Ok done) same p = (λ b Q. leaves_seen by at front _ old new y same (p.0 b Q), p.1)
  seen_from by at front old new count y w (Err e) same p = (p.0, p.1, λ b Q. leaves_seen by at front _ old new y same (p.2 b Q))

  -- which release of the lock it says makes no difference
  pub piece_released : {T : Type 0} (by : MemberId) (at : ℕ) (front : List Batch) (old : View) (count : ℕ) (y : Parts P C) (w : Sitting) (release : Release) (r : Result T NodeNo) → PieceGone by at front old count y w r → PieceGone by at front old count y (record w { release = release }) r
  piece_released by at front old count y w release (Ok done) p = (p.0, p.1)
  piece_released by at front old count y w release (Err e) p = (p.0, p.1, p.2)

  module _ (s : Start) (x z : Parts P C) (may : MayHold x.book s.holder.by) (none : x.current ≡ None) (unplaced : x.placed ≡ false) (frame : z ≡ seated_in z (taken s.holder.by x)) (ne : s.state ≢ Told) (t : plants.tells) where
    abbrev me : MemberId
    me = s.holder.by

    abbrev at : ℕ
    at = s.holder.step

    abbrev count : ℕ
    count = counts_of x.printed me

    seat_journal : journal_of z ≡ x.batches
    seat_journal = ap (λ (q : Parts P C). journal_of q) frame ∙ journal_still x none unplaced

    -- IT TOOK NO SEAT
    pub unseated_gone : (pages : ℕ) (e : NodeNo) → CopiesActed plants {T = Unit {0}} me (taken me x) z (Err e) → (T : Type 0) (w : Sitting) → PieceGone {T = T} me at x.batches (v x) count z w (Err e)
    unseated_gone pages e acts T w =
        let i : IsLeftAt plants copies (Unit {0}) me (piece_of w false []) e (Writing 0 None) x z = unsat plants copies s x z may none unplaced frame ne pages e acts (Unit {0}) (λ u. t) (piece_of w false []) in
        (Writing 0 None, i.by_answer, λ b Q. nothing_so plants copies me at x.batches (v x) z b Q count (piece_of w false [] ∷ []) e seat_journal (acts.on.apart t).console)

    module _ (took : CopiesActed plants {T = Unit {0}} me (taken me x) z (Ok tt)) (y : Parts P C) (same : y ≡ sat_in y z) where
      -- ITS SITTING WAS CUT
      pub cut_gone : (T : Type 0) (e : NodeNo) (w : Sitting) → OwnTexts me at w.lines → (sat : IsSat plants me w z y (Err e)) → IfNoWork s.state (IsTightBy {T = SittingEnd} (Err e) w.batches sat.reach) → PieceGone {T = T} me at x.batches (v x) count y w (Err e)
      cut_gone T e w own sat tight =
          let p : Piece = piece_of w false [] in
          let d : IsCutIn plants copies s x z may none unplaced frame ne took y same (Unit {0}) p e = told_in plants copies s x z may none unplaced frame ne took y same t p e sat tight in
          (d.halt, d.left.by_answer, λ b Q. cut_so plants copies me at x.batches (v x) y b Q count p e d.halt d.left.more d.left.journal (v x).now (v y).now d.left.batches (d.left.console tt) own)

      -- IT ENDED WELL
      pub whole_gone : {T : Type 0} (done : T) (end : SittingEnd) (w : Sitting) → OwnTexts me at w.lines → (sat : IsSat plants me w z y (Ok end)) → (u : Parts P C) → u ≡ record y { book = u.book } → PieceGone {T = T} me at x.batches (v x) count u w (Ok done)
      whole_gone done end w own sat u left =
          let said = sat.console t in
          let plant_same : v u ≡ v y = ap (λ (q : Parts P C). v q) left in
          let console : console_now (v u) ≡ console_now (v x) ++ map whole w.lines =
          ap (λ (q : View). console_now q) plant_same
          ∙ said.is ∙ ap (λ (k : Said). console_now (v z) ++ said_of k w.lines) said.by_answer
          ∙ ap (λ (ls : List Line). console_now (v z) ++ ls) (append-nil (map whole (take (length w.lines) w.lines)) ∙ ap (λ (ls : List (List ℕ)). map whole ls) (take_all w.lines))
          ∙ ap (λ (ls : List Line). ls ++ map whole w.lines) (took.on.apart t).console in
          let counted : counts_of u.printed me ≡ count_then me (all_entries w.batches) count =
          ap (λ (q : Parts P C). counts_of q.printed me) left ∙ sat.counts.own
          ∙ ap (λ (l : List ℕ). count_then me (all_entries w.batches) (counts_of l me)) (seat_printed plants copies s x z may none unplaced frame ne) in (
            λ b Q. whole_so plants copies me at x.batches (v x) u b Q count (piece_of w false []) sat.more
                (ap (λ (q : Parts P C). journal_of q) left ∙ sat.journal ∙ ap (λ (bs : List Batch). bs ++ sat.more) (seat_batches plants copies s x z may none unplaced frame ne)) (v z).now (v y).now
                (reached_all me (v z).now (v y).now sat.reach w.batches sat.more sat.left sat.reached) console own,
            counted ∙ ap (λ (es : List Entry). count_then me es count) (sym (entries_kept w.batches)) ∙ more_none _,
          )

-- WHAT A TURN OF ONE PIECE, or of none, left

module _ {P C : Type 0} (plants : PlantGhosts P) (copies : CopyGhosts C) (r : Raced) (x y : Parts P C) (found : Fate) (moment : ℕ) (saw : Found) (inked : ℕ) (sayer : MemberId) (after : Stage) where
  abbrev u : Parts P C → View
  u q = plants.view q.plant

  abbrev front : List Batch
  front = settle found moment (journal_of x)

  abbrev Honest : Type 0
  Honest = IfActed x.book (stage_of r.stands) (λ s. IsFoundAt x.base.config.groups r.by (u x) (u y) (queue_found plants copies x found moment) s saw)

  abbrev turn_of : List Piece → Turn
  turn_of ps = record { sayer = sayer; pieces = ps; next = after }

  pub gone_piece : (w : Sitting) → turn_in plants copies r x found moment inked saw ≡ turn_of (piece_of w false [] ∷ []) → (tried : Result Stands NodeNo) → PieceGone plants copies r.by r.number front (u x) (counts_of x.printed r.by) y w tried
      → Honest → IfOk tried (λ s. stage_of s ≡ after) → IfOk tried (λ s. s ≢ line.Closed → w.lines ≡ []) → HasGone plants copies r x y tried
  gone_piece w same (Ok s) p honest next silent =
      gone_by plants copies r x y (Ok s) found moment saw inked None (turn_of (piece_of w false [] ∷ [])) same (p.0 x.book (queue_found plants copies x found moment)) (λ is. p.1) honest refl next
      (λ open_still. (p.0 x.book (queue_found plants copies x found moment)).console ∙ ap (λ (ls : List (List ℕ)). console_now (u x) ++ map whole ls) (silent open_still) ∙ append-nil (console_now (u x)))
  gone_piece w same (Err e) p honest next silent =
      gone_by plants copies r x y (Err e) found moment saw inked (Some (cut_at e p.0)) (turn_of (piece_of w false [] ∷ [])) same (p.2 x.book (queue_found plants copies x found moment)) (λ is. absurd (cc)) honest (p.0, refl, p.1) tt tt

  -- nothing was done, and nothing was to be
  pub gone_none : turn_in plants copies r x found moment inked saw ≡ turn_of [] → (s : Stands) (tried : Result Stands NodeNo) → tried ≡ Ok s → stage_of s ≡ after → journal_of y ≡ front → console_now (u y) ≡ console_now (u x) → counts_of y.printed r.by ≡ counts_of x.printed r.by
      → Honest → HasGone plants copies r x y tried
  gone_none same s tried is stage journal console counts honest =
      subst (HasGone plants copies r x y) (sym is)
      (gone_by plants copies r x y (Ok s) found moment saw inked None (turn_of []) same (none_so plants copies r.by r.number front (u x) y x.book (queue_found plants copies x found moment) (counts_of x.printed r.by) journal console) (λ none. counts) honest refl stage (λ open_still. console))

-- nothing was done of what was to be
pub gone_nothing : {P C : Type 0} (plants : PlantGhosts P) (copies : CopyGhosts C) (r : Raced) (x y : Parts P C) (e : NodeNo) → IsHaltBy e (Writing 0 None) → (saw : Found) → journal_of y ≡ settle Flying 0 (journal_of x) → console_now (plants.view y.plant) ≡ console_now (plants.view x.plant)
    → IfActed x.book (stage_of r.stands) (λ s. IsFoundAt x.base.config.groups r.by (plants.view x.plant) (plants.view y.plant) (queue_found plants copies x Flying 0) s saw) → HasGone plants copies r x y (Err e)
gone_nothing plants copies r x y e halt saw journal console honest =
    let turn = turn_in plants copies r x Flying 0 0 saw in
    gone_by plants copies r x y (Err e) Flying 0 saw 0 (Some (cut_at e (Writing 0 None))) turn refl
    (nothing_so plants copies r.by r.number (settle Flying 0 (journal_of x)) (plants.view x.plant) y x.book (queue_found plants copies x Flying 0) (counts_of x.printed r.by) turn.pieces e journal console) (λ is. absurd (cc)) honest (Writing 0 None, refl, halt) tt tt
