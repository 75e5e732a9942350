-- A turn adds to the journal batches of its member alone, once what was in flight was found out, if it was.
use Rattle.std.proofs.Common.{◌≡◌, ◌∙◌, ⊎_elim, ℕ, true, false, List, [], ◌∷◌, ◌++◌, append-nil, All, Some, None, Result, Ok, Err, ap, subst, sym}
use Rattle.std.proofs.lemmas.Bool.{eqb-true}
use Rattle.std.proofs.lemmas.List.Elements.{All-cons, All-head, All-nil, All-weaker}
use Rattle.mas_types.specs.declared.commands.Command.TheVariants as command
use Rattle.mas_types.specs.declared.commands.Reply.{Reply}
use Rattle.mas_types.specs.declared.ids.MemberId.{MemberId}
use Rattle.mas_types.specs.declared.journals.Batch.{Batch}
use Rattle.mas_types.specs.declared.journals.Entry.{Entry}
use Rattle.mas_types.specs.declared.journals.Fate.{Fate}
use Rattle.mas_types.specs.declared.journals.Fate.TheVariants.{Flying}
use Rattle.mas_types.specs.declared.queues.Queue.{Queue}
use Rattle.lock_cycle.specs.Books.{Book}
use Rattle.gate_turns.specs.Actors.{ResetsStopped}
use Rattle.gate_turns.specs.Seats.{shows_stopped}
use Rattle.run_turns.specs.Pieces.{Piece}
use Rattle.spool_plant.specs.declared.plant.Plant.{Ghosts as PlantGhosts}
use Rattle.ckpt_copy.specs.declared.copying.Copying.{Ghosts as CopyGhosts}
use Rattle.ckpt_form.specs.declared.steady.Steady.{Ghosts as SteadyGhosts}
use Rattle.mas_complex.specs.declared.complex.Complex.{Complex}
use Rattle.mas_complex.specs.Paper.{counts_of}
use Rattle.mas_complex.specs.Parts.{Parts, parts_of}
use Rattle.step_turns.specs.Sittings.{Sitting, sit}
use Rattle.step_turns.specs.declared.states.Found.{Found}
use Rattle.step_turns.specs.declared.states.Holder.{Holder}
use Rattle.member_resets.specs.Stand.{Stand}
use Rattle.member_node.specs.declared.member.Member.{Member}
use Rattle.member_node.specs.declared.member.NodeNo.{NodeNo}
use Rattle.member_node.specs.declared.member.NodeNo.TheVariants as no_node
use Rattle.member_asides.specs.Asides.{stopped_at}
use Rattle.member_sittings.specs.declared.ends.SittingEnd.{SittingEnd}
use Rattle.member_steps.specs.Steps.{entry_with}
use Rattle.member_decks.specs.Steps.{AreOf}
use Rattle.member_resets.specs.Plays.{IsOwnPiece, play_in}
use Rattle.member_sittings.specs.Sat.{IsSat, Start, journal_of}
use Rattle.member_sittings.specs.Whole.{queue_of}
use Rattle.member_resets.proofs.Acting.{changed_only, only_these}
use Rattle.member_lines.specs.Closes.{stopped_so}
use Rattle.member_racing.specs.Kinds.{ActsBy, HasSeat, SeatsAndResets, SitsBy, TakesBy}
use Rattle.member_resets.specs.Resetting.{HasResetBy, IsTaken, TakesAndResets, TakesBy as ClosesTaken, taker_at}
use Rattle.member_resets.specs.Settling.{IsResetPiece, reset_piece, settle}
use Rattle.member_racing.specs.Turned.{Adds}
use Rattle.member_racing.specs.Turning.{EndsTurn}
use Rattle.member_racing.specs.declared.stages.Stage.{Stage as Stands}
use Rattle.member_resets.proofs.Flights.{journal_unreserved}
use Rattle.member_racing.proofs.OwnEntries.{FliesAt, IsGivenPiece, IsOwnBatch, MayFly, batched_of, left_its, left_of, of_quiet, own_fly}
use Rattle.member_resets.proofs.SettleLemmas.{journal_still, settle_none}

-- WHAT IS ADDED: batches of which this holds

pub record AddsOf {P C : Type 0} (Own : Batch → Type 0) (x y : Parts P C) : Type 0 where
  pub found : Fate
  pub moment : ℕ
  pub own : List Batch
  pub journal : journal_of y ≡ settle found moment (journal_of x) ++ own
  pub theirs : All Own own

module _ {P C : Type 0} (Own : Batch → Type 0) where
  -- they are the member's
  pub adds_by : (by : MemberId) → ((b : Batch) → Own b → b.by ≡ by) → (x y : Parts P C) → AddsOf Own x y → Adds by x y
  adds_by by its x y a = record { found = a.found; at = a.moment; own = a.own; journal = a.journal; theirs = All-weaker Own (λ (b : Batch). b.by ≡ by) its a.own a.theirs }

  -- nothing is added
  pub adds_none : (x y : Parts P C) → journal_of y ≡ journal_of x → AddsOf Own x y
  adds_none x y same = record { found = Flying; moment = 0; own = []; journal = same ∙ sym (settle_none 0 (journal_of x)) ∙ sym (append-nil (settle Flying 0 (journal_of x))); theirs = All-nil Own }

  adds_more : (x y : Parts P C) (own : List Batch) → journal_of y ≡ journal_of x ++ own → All Own own → AddsOf Own x y
  adds_more x y own same theirs = record { found = Flying; moment = 0; own = own; journal = same ∙ ap (λ (bs : List Batch). bs ++ own) (sym (settle_none 0 (journal_of x))); theirs = theirs }

  -- of which less holds
  pub adds_weaker : (Its : Batch → Type 0) → ((b : Batch) → Own b → Its b) → (x y : Parts P C) → AddsOf Own x y → AddsOf Its x y
  adds_weaker Its f x y a = record { found = a.found; moment = a.moment; own = a.own; journal = a.journal; theirs = All-weaker Own Its f a.own a.theirs }

  -- to a journal that stands alike
  pub adds_as : (x y z : Parts P C) → journal_of z ≡ journal_of y → AddsOf Own x y → AddsOf Own x z
  adds_as x y z same a = record { found = a.found; moment = a.moment; own = a.own; journal = same ∙ a.journal; theirs = a.theirs }

  pub adds_from : (w x y : Parts P C) → journal_of x ≡ journal_of w → AddsOf Own x y → AddsOf Own w y
  adds_from w x y same a = record { found = a.found; moment = a.moment; own = a.own; journal = a.journal ∙ ap (λ (bs : List Batch). settle a.found a.moment bs ++ a.own) same; theirs = a.theirs }

  -- after what was found
  adds_found : (x mid y : Parts P C) (found : Fate) (moment : ℕ) (own : List Batch) → journal_of mid ≡ settle found moment (journal_of x) → journal_of y ≡ journal_of mid ++ own → All Own own → AddsOf Own x y
  adds_found x mid y found moment own first more theirs = record { found = found; moment = moment; own = own; journal = more ∙ ap (λ (bs : List Batch). bs ++ own) first; theirs = theirs }

-- what an entry that resets a stopped member resets, and what is given of it
pub quiet_reset : (book : Book) (of : MemberId) → shows_stopped book of ≡ true → ResetsStopped book (command.Reset of)
quiet_reset book of down = λ m is. let same : of ≡ m = ap (λ (k : ℕ). let i : MemberId = record { 0 = k } in i) (sym (eqb-true m.0 of.0 is)) in subst (λ (i : MemberId). shows_stopped book i ≡ true) same down

module _ (book : Book) (by : MemberId) (at : ℕ) (of : MemberId) (down : shows_stopped book of ≡ true) where
  abbrev Quiet : List Entry → Type 0
  Quiet es = All (λ (e : Entry). ResetsStopped book e.command) es

  quiet_one : (r : Reply) → All Quiet ((entry_with by at (command.Reset of) r ∷ []) ∷ [])
  quiet_one r = All-cons Quiet _ [] (All-cons (λ (e : Entry). ResetsStopped book e.command) _ [] (quiet_reset book of down) (All-nil (λ (e : Entry). ResetsStopped book e.command))) (All-nil Quiet)

module _ {P C : Type 0} (plants : PlantGhosts P) (copies : CopyGhosts C) (book : Book) where
  abbrev pub Mine : MemberId → ℕ → Type 0 → Batch → Type 0
  Mine by at fly = IsOwnBatch plants.tells book by at fly

  abbrev pub AreQuietIn : Sitting → Type 0
  AreQuietIn t = All (λ (es : List Entry). All (λ (e : Entry). ResetsStopped book e.command) es) t.batches

  -- A SITTING

  seat_journal : (by : MemberId) (x seat : Parts P C) (r : Result (Unit {0}) NodeNo) → HasSeat plants copies by x seat r → journal_of seat ≡ journal_of x
  seat_journal by x seat r took = ap (λ (q : Parts P C). journal_of q) took.frame

  seat_batches : (by : MemberId) (x seat : Parts P C) (r : Result (Unit {0}) NodeNo) → HasSeat plants copies by x seat r → x.current ≡ None → x.placed ≡ false → seat.batches ≡ journal_of x
  seat_batches by x seat r took none unplaced = ap (λ (q : Parts P C). q.batches) took.frame ∙ sym (journal_still x none unplaced)

  -- what is kept of it, and what is in flight
  sat_own : (fly : Type 0) (by : MemberId) (at : ℕ) (seat y : Parts P C) (t : Sitting) (q : Result SittingEnd NodeNo) → (MayFly q → fly) → All (AreOf by at) t.batches → (plants.tells → AreQuietIn t) → (sat : IsSat plants by t seat y q) → All (Mine by at fly) sat.more
  sat_own fly by at seat y t q may of quiet sat =
      All-weaker (Mine by at (MayFly q)) (Mine by at fly) (own_fly plants.tells book by at (MayFly q) fly may) sat.more
      (left_of plants.tells book by at q _ _ t.batches sat.reach sat.more sat.reached sat.left (of_quiet plants.tells book by at t.batches of quiet))

  pub sits_adds : (s : Start) (x y : Parts P C) (n : Member) (r : Result Stands NodeNo) → x.current ≡ None → x.placed ≡ false → ((Q : Queue) → AreQuietIn (sit Q s.holder s.state s.found)) → SitsBy plants copies s x y n r
      → AddsOf (Mine s.holder.by s.holder.step (MayFly r)) x y
  sits_adds s x y n (Ok next) none unplaced quiet o =
      let sat = o.turn.sat in
      adds_as _ x o.there y (ap (λ (q : Parts P C). journal_of q) o.frame)
      (adds_more _ x o.there sat.sat.more (sat.sat.journal ∙ ap (λ (bs : List Batch). bs ++ sat.sat.more) (ap (λ (q : Parts P C). q.batches) o.turn.locked ∙ sym (journal_still x none unplaced)))
      (sat_own ⊥ s.holder.by s.holder.step o.turn.seat o.there sat.sitting (Ok o.end) (λ f. f) sat.of (λ t. subst AreQuietIn (sym (sat.is t)) (quiet (queue_of o.turn.seat))) sat.sat))
  sits_adds s x y n (Err e) none unplaced quiet o = ⊎_elim
      (λ took. adds_none _ x y (seat_journal s.holder.by x y (Err e) took))
      (λ cut.
      let sat = cut.sat in
      adds_more _ x y sat.sat.more (sat.sat.journal ∙ ap (λ (bs : List Batch). bs ++ sat.sat.more) (seat_batches s.holder.by x cut.seat (Ok tt) cut.took none unplaced))
      (sat_own (FliesAt e) s.holder.by s.holder.step cut.seat y sat.sitting (Err e) (λ f. f) sat.of (λ t. subst AreQuietIn (sym (sat.is t)) (quiet (queue_of cut.seat))) sat.sat)) o

  -- ACTS ASIDE

  pub acts_adds : (Q : Batch → Type 0) (x y : Parts P C) (m : Member) (s : Stand) (r : Result Stands NodeNo) → ActsBy plants copies x y m s r → AddsOf Q x y
  acts_adds Q x y m s (Ok next) o =
      let stand = o.0 in
      let is = o.1 in
      adds_none Q x y (ap (λ (q : Parts P C). journal_of q) (only_these (Ok stand.found) m.id x y (changed_only plants copies x y m s.state (Some []) is (Ok stand.found) o.4)))
  acts_adds Q x y m s (Err e) o =
      adds_none Q x y (ap (λ (q : Parts P C). journal_of q) (only_these {T = Found} (Err e) m.id x y (changed_only plants copies x y m s.state (Some []) o.0 (Err e) o.1)))

  -- A TAKEOVER

  taken_still : (by of : MemberId) (x mid : Parts P C) (found : Fate) → IsTaken plants copies by of x mid found → journal_of mid ≡ mid.batches
  taken_still by of x mid found t = journal_still mid t.quiet.none t.quiet.unplaced

  module _ (by : MemberId) (at : ℕ) (of : MemberId) (down : shows_stopped book of ≡ true) where
    gave_adds : (fly : Type 0) (x mid y : Parts P C) (found : Fate) (q : Result SittingEnd NodeNo) → (MayFly q → fly) → IsTaken plants copies by of x mid found → SeatsAndResets plants copies (taker_at plants copies by at mid) of mid y q → AddsOf (Mine by at fly) x y
    gave_adds fly x mid y found q may t g =
        let same : g.seat.batches ≡ journal_of mid = seat_batches by mid g.seat (Ok tt) g.took t.quiet.none t.quiet.unplaced in
        let sat = g.gave.sat.sat in
        let shaped = g.gave.shaped in
        adds_found _ x mid y found (plants.view mid.plant).now sat.more t.journal (sat.journal ∙ ap (λ (bs : List Batch). bs ++ sat.more) same)
        (sat_own fly by at g.seat y g.gave.sitting q may g.gave.own (λ told. subst AreQuietIn (sym shaped.1) (quiet_one book by at of down shaped.0)) sat)

    pub takes_adds : (fly : Type 0) (x y : Parts P C) (r : Result (Unit {0}) NodeNo) → (MayFly r → fly) → TakesBy plants copies by at of x y r → AddsOf (Mine by at fly) x y
    takes_adds fly x y (Ok done) may o = adds_as _ x o.there y (ap (λ (p : Parts P C). journal_of p) o.frame) (gave_adds fly x o.mid o.there o.found (Ok o.end) may o.taken_over o.reset)
    takes_adds fly x y (Err e) may o = ⊎_elim
        (λ u. adds_none _ x y u.journal)
        (λ b. ⊎_elim
        (λ took. adds_found _ x b.mid y b.found (plants.view b.mid.plant).now [] b.taken_over.journal (seat_journal by b.mid y (Err e) took ∙ sym (append-nil (journal_of b.mid))) (All-nil _))
        (λ reset. gave_adds fly x b.mid y b.found (Err e) may b.taken_over reset) b.why) o

  -- A LINE THAT RESETS

  piece_quiet : (h : Holder) (of : MemberId) (ps : List Piece) → shows_stopped book of ≡ true → IsResetPiece h of ps → All (IsOwnPiece h.by h.step) ps → All (IsGivenPiece plants.tells book h.by h.step) ps
  piece_quiet h of ps down shaped own =
      subst (λ (qs : List Piece). All (IsOwnPiece h.by h.step) qs → All (IsGivenPiece plants.tells book h.by h.step) qs) (sym shaped.1)
      (λ its. All-cons (IsGivenPiece plants.tells book h.by h.step) (reset_piece h of shaped.0) []
      (of_quiet plants.tells book h.by h.step (reset_piece h of shaped.0).sitting.batches (All-head (IsOwnPiece h.by h.step) (reset_piece h of shaped.0) [] its) (λ told. quiet_one book h.by h.step of down shaped.0))
      (All-nil (IsGivenPiece plants.tells book h.by h.step))) own

  reset_more : (h : Holder) (of : MemberId) (x y : Parts P C) (pages : ℕ) (r : Result (Unit {0}) NodeNo) → shows_stopped book of ≡ true → HasResetBy plants copies h of x y pages r
      → (own : List Batch) × (journal_of y ≡ x.batches ++ own) × All (Mine h.by h.step (MayFly r)) own
  reset_more h of x y pages r down o =
      let l = o.played.leaves in (
        l.more,
        l.journal,
        batched_of plants.tells book h.by h.step (MayFly r) _ _ _ l.more l.batches
            (left_its plants.tells book h.by h.step r o.cut (play_in h.by o.pieces x.book (queue_of x)) (counts_of x.printed h.by) o.played.by_answer (piece_quiet h of o.pieces down o.shaped o.played.of)),
      )

  pub resets_adds : (h : Holder) (of : MemberId) (x y : Parts P C) (pages : ℕ) (r : Result (Unit {0}) NodeNo) → shows_stopped book of ≡ true → x.current ≡ None → x.placed ≡ false → HasResetBy plants copies h of x y pages r
      → AddsOf (Mine h.by h.step (MayFly r)) x y
  resets_adds h of x y pages r down none unplaced o =
      let m = reset_more h of x y pages r down o in
      adds_more _ x y m.0 (m.1 ∙ ap (λ (bs : List Batch). bs ++ m.0) (sym (journal_still x none unplaced))) m.2

  taken_adds : (by : MemberId) (at : ℕ) (of : MemberId) (x y : Parts P C) (pages : ℕ) (r : Result (Unit {0}) NodeNo) → shows_stopped book of ≡ true → TakesAndResets plants copies by at of x y pages r → AddsOf (Mine by at (MayFly r)) x y
  taken_adds by at of x y pages r down t =
      let m = reset_more _ of t.mid y pages r down t.reset in
      adds_found _ x t.mid y t.found (plants.view t.mid.plant).now m.0 t.taken.journal (m.1 ∙ ap (λ (bs : List Batch). bs ++ m.0) (sym (taken_still by of x t.mid t.found t.taken))) m.2

  pub closes_adds : (by : MemberId) (at : ℕ) (of : MemberId) (x y : Parts P C) (pages : ℕ) (r : Result (Unit {0}) NodeNo) → shows_stopped book of ≡ true → ClosesTaken plants copies by at of x y pages r → AddsOf (Mine by at (MayFly r)) x y
  closes_adds by at of x y pages (Ok done) down t = taken_adds by at of x y pages (Ok done) down t
  closes_adds by at of x y pages (Err e) down t = ⊎_elim (λ u. adds_none _ x y u.journal) (λ k. taken_adds by at of x y pages (Err e) down k) t

-- LINES THAT ONLY CLOSE

pub said_journal : {P C : Type 0} (x y : Parts P C) (by : MemberId) (r : Result (Unit {0}) NodeNo) → y ≡ stopped_so r by (record x { plant = y.plant }) → journal_of y ≡ journal_of x
said_journal x y by (Ok done) e = ap (λ (q : Parts _ _). journal_of q) e
said_journal x y by (Err no_node.NoMemory) e = ap (λ (q : Parts _ _). journal_of q) e
said_journal x y by (Err no_node.BothLost) e = ap (λ (q : Parts _ _). journal_of q) e
said_journal x y by (Err no_node.Halted) e = ap (λ (q : Parts _ _). journal_of q) e
said_journal x y by (Err no_node.ConsoleFault) e = ap (λ (q : Parts _ _). journal_of q) e

-- THE END OF A TURN leaves the journal

pub end_journal : {P C : Type 0} {plants : PlantGhosts P} {steadies : SteadyGhosts C} {copies : CopyGhosts C} (by : MemberId) (at : ℕ) (x y : Complex P C plants steadies copies) (tried result : Result Stands NodeNo) → EndsTurn by at x y tried result
    → journal_of (parts_of y) ≡ journal_of (parts_of x)
end_journal by at x y (Ok s) result e = ap (λ (q : Parts _ _). journal_of q) e.0
end_journal by at x y (Err no_node.Halted) result e =
    ap (λ (q : Parts _ _). journal_of q) e.frame ∙ ap (λ (q : Parts _ _). journal_of q) e.stopped ∙ journal_unreserved (stopped_at by (parts_of x))
end_journal by at x y (Err no_node.BothLost) result e = ap (λ (q : Parts _ _). journal_of q) e.0
end_journal by at x y (Err no_node.NoMemory) result e = ap (λ (q : Parts _ _). journal_of q) e.0 ∙ journal_unreserved (parts_of x)
end_journal by at x y (Err no_node.ConsoleFault) result e = ap (λ (q : Parts _ _). journal_of q) e.0 ∙ journal_unreserved (parts_of x)

-- and the base, the first moment, and when copies were replaced
pub record SameBase {P C : Type 0} (x y : Parts P C) : Type 0 where
  pub base : y.base ≡ x.base
  pub since : y.since ≡ x.since
  pub renewals : y.renewals ≡ x.renewals

pub end_base : {P C : Type 0} {plants : PlantGhosts P} {steadies : SteadyGhosts C} {copies : CopyGhosts C} (by : MemberId) (at : ℕ) (x y : Complex P C plants steadies copies) (tried result : Result Stands NodeNo) → EndsTurn by at x y tried result
    → SameBase (parts_of x) (parts_of y)
end_base by at x y (Ok s) result e = record { base = ap (λ (q : Parts _ _). q.base) e.0; since = ap (λ (q : Parts _ _). q.since) e.0; renewals = ap (λ (q : Parts _ _). q.renewals) e.0 }
end_base by at x y (Err no_node.Halted) result e = record {
  base = ap (λ (q : Parts _ _). q.base) e.frame ∙ ap (λ (q : Parts _ _). q.base) e.stopped;
  since = ap (λ (q : Parts _ _). q.since) e.frame ∙ ap (λ (q : Parts _ _). q.since) e.stopped;
  renewals = ap (λ (q : Parts _ _). q.renewals) e.frame ∙ ap (λ (q : Parts _ _). q.renewals) e.stopped;
}
end_base by at x y (Err no_node.BothLost) result e = record { base = ap (λ (q : Parts _ _). q.base) e.0; since = ap (λ (q : Parts _ _). q.since) e.0; renewals = ap (λ (q : Parts _ _). q.renewals) e.0 }
end_base by at x y (Err no_node.NoMemory) result e = record { base = ap (λ (q : Parts _ _). q.base) e.0; since = ap (λ (q : Parts _ _). q.since) e.0; renewals = ap (λ (q : Parts _ _). q.renewals) e.0 }
end_base by at x y (Err no_node.ConsoleFault) result e = record { base = ap (λ (q : Parts _ _). q.base) e.0; since = ap (λ (q : Parts _ _). q.since) e.0; renewals = ap (λ (q : Parts _ _). q.renewals) e.0 }
