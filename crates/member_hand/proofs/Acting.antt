-- Acts that a step waits for: its member may do them once it has left the lock, and what they leave alone.
use Rattle.std.proofs.Common.{◌≡◌, ⊎_elim, inr, ℕ, ◌≤◌, Bool, false, List, [], ◌∷◌, length, take, All, Option, Some, None, Result, Ok, Err, refl, sym, ap, ◌∙◌, subst, arith}
use Rattle.mas_types.specs.declared.ids.GroupNo.{GroupNo}
use Rattle.mas_types.specs.declared.ids.MemberId.{MemberId}
use Rattle.mas_types.specs.declared.journals.Entry.{Entry}
use Rattle.mas_types.specs.declared.jobs.Output.{Output}
use Rattle.mas_types.specs.declared.queues.Config.{Config}
use Rattle.mas_types.specs.Sound.{IsSound}
use Rattle.lock_cycle.specs.Books.{Book, IsMember, after_stop, is_stopped}
use Rattle.mas_types.specs.declared.ids.Dev.TheVariants.{Ckpt1, Ckpt2}
use Rattle.spool_plant.specs.View.{Disk, View}
use Rattle.spool_plant.specs.declared.plant.Part.TheVariants.{Disk as DiskPart}
use Rattle.spool_plant.specs.declared.plant.Plant.{Ghosts as PlantGhosts}
use Rattle.spool_volumes.specs.Volumes.{AreRoomy}
use Rattle.track_groups.specs.Groups.{held_by}
use Rattle.ckpt_copy.specs.declared.copying.Copying.{Ghosts as CopyGhosts}
use Rattle.ckpt_places.specs.declared.places.Place.{Place}
use Rattle.mas_complex.specs.Journals.{AreSettled}
use Rattle.mas_complex.specs.Locking.{reserved_after_stop}
use Rattle.mas_complex.specs.Parts.{Parts}
use Rattle.mas_complex.specs.Spool.{IsHeldBy}
use Rattle.mas_complex.proofs.Batches.{settled_later}
use Rattle.mas_complex.specs.CallCounts.{pair_at}
use Rattle.member_node.specs.declared.member.Member.{Member}
use Rattle.member_node.specs.declared.member.NodeNo.{NodeNo}
use Rattle.member_node.specs.declared.member.NodeNo.TheVariants.{BothLost, Halted, ConsoleFault, NoMemory}
use Rattle.member_node.specs.Reads.{IsCalm}
use Rattle.member_node.specs.Calls.{VolumesStay, none_lost}
use Rattle.member_node.specs.Spares.{Spares, is_stop}
use Rattle.member_node.specs.Wanted.{HasHad}
use Rattle.member_node.proofs.SpareLemmas.{sparing_more, sparing_none}
use Rattle.member_steps.specs.Steps.{StepCauses}
use Rattle.member_steps.proofs.ReadLemmas.{between_by, calm_rest, low_later, low_written, told_sound}
use Rattle.member_decks.specs.Steps.{SpoolStops, names_volume}
use Rattle.member_work.specs.Rounds.{names_read}
use Rattle.member_hand.specs.Found.{names_found}
use Rattle.member_hand.proofs.Passages.{or_none, passage_beside}
use Rattle.member_decks.proofs.HeldLemmas.{all_held}
use Rattle.member_decks.proofs.PageLemmas.{still_roomy}
use Rattle.member_work.specs.Printing.{IsBeside}
use Rattle.member_work.proofs.PrintedLemmas.{beside_none, beside_volumes}
use Rattle.step_turns.specs.declared.states.Found.{Found}
use Rattle.step_turns.specs.States.{nothing_found}
use Rattle.step_turns.specs.declared.states.State.{State}
use Rattle.step_turns.specs.declared.states.Aside.TheVariants.{Acknowledge, Exchange, PrintLines, ReadText, SpoolArrival, SpoolDeck, SpoolOutputs}
use Rattle.step_turns.specs.declared.states.State.TheVariants.{Away, Fresh, Rested, Told}
use Rattle.member_sittings.specs.Gates.{IsOpen}
use Rattle.member_sittings.specs.Whole.{Half, HoldsLock, IsAtRest, IsSeat, first_half, queue_of, second_half}
use Rattle.member_frames.specs.Asides.{HasOnlyPrinted, HasStayed, MayAside, printed_in, stopped_at}
use Rattle.member_wires.specs.Acts.{StopsBeside}
use Rattle.member_wires.specs.Asides.{wire_of}
use Rattle.member_hand.specs.Asides.{ActsAfter, MayActAfter}
use Rattle.member_hand.specs.Plays.{HasActedIn, stopped_by}
use Rattle.member_hand.specs.Quiet.{IsAside, IsQuiet}
use Rattle.member_hand.specs.Sits.{WaitsWell}
use Rattle.member_hand.proofs.Locking.{stopped_twice}
use Rattle.member_hand.proofs.Printing.{only_plant}

-- WHICH ACTS A MEMBER MAY DO, once its sitting has ended and the lock is left or kept: of the book this asks only that
-- it isn't stopped

stayed : (o : Output) → HasStayed o o
stayed o = record { mark = refl; text = refl; copies = refl }

whole_of : {A : Type 0} (xs : List A) → take (length xs) xs ≡ xs
whole_of [] = refl
whole_of (x ∷ xs) = ap (λ l. x ∷ l) (whole_of xs)

module _ {P C : Type 0} (plants : PlantGhosts P) (copies : CopyGhosts C) (y : Parts P C) (m : Member) (b : Book) (seat : IsSeat plants copies y m) (sound : plants.tells → IsSound y.base)
    (up : is_stopped b m.id ≡ false) (seated : IsMember b m.id) where
  abbrev left : Parts P C
  left = record y { book = b }

  may_aside : MayAside plants left m
  may_aside = record {
    up = λ positive. up;
    sound = sound;
    spelling = seat.between.drawn.spelling;
    config = seat.still.config;
    some = subst (λ (c : Config). 1 ≤ c.groups) (sym seat.still.config) seat.between.drawn.spelling.shape.config.groups.0;
  }

  held : plants.tells → All (λ g. IsHeldBy m.id g (queue_of y)) (held_by m.id m.checkpoint.tables.owners)
  held t =
      let groups : List GroupNo = held_by m.id m.checkpoint.tables.owners in
      subst (All (λ (g : GroupNo). IsHeldBy m.id g (queue_of y))) (whole_of groups) (all_held m.id m.checkpoint.tables.owners (length groups) (queue_of y) (seat.between.queue t).owners)

  pub may_act : (s : State) → WaitsWell plants.tells (queue_of y) m s → MayActAfter plants left m s
  may_act (Away (SpoolDeck n text)) w =
      record { up = λ positive. up; none = seat.still.none; groups = w; shape = seat.between.drawn.spelling.shape; config = seat.still.config; held = held }
  may_act (Away (ReadText runs n fields p)) w = record {
    may = may_aside;
    sound = seat.between.sound;
    there = w.1.there;
    still = λ t. record { was = queue_of y; told = seat.between.queue t; text = λ j found. (j, found, refl); groups = refl };
  }
  may_act (Away (SpoolOutputs n specs p)) w = record { may = may_aside; none = seat.still.none; outputs = w.outputs; enough = w.enough; held = held }
  may_act (Away (PrintLines n i last p)) w = record {
    may = may_aside;
    few = seat.still.holds.few;
    some = seat.still.holds.some;
    seated = seated;
    none = seat.still.none;
    sound = seat.between.sound;
    output = w;
    still = λ t. record {
      was = queue_of y;
      told = seat.between.queue t;
      output = λ o found. (o, found, stayed o);
      busy = λ o there busy. (o, there, busy, stayed o);
      groups = refl;
      limit = refl;
    };
    roomy = seat.still.roomy;
  }
  may_act (Away (Exchange l None)) w = record { up = λ positive. up; line = w.0; offer = tt }
  may_act (Away (Exchange l (Some o))) w = record {
    up = λ positive. up;
    line = w.0;
    offer = record {
      may = may_aside;
      sound = seat.between.sound;
      there = w.1.there;
      still = λ t. record { was = queue_of y; told = seat.between.queue t; text = λ j found. (j, found, refl); groups = refl };
    };
  }
  may_act (Away (SpoolArrival number job cards service)) w =
      record { up = λ positive. up; none = seat.still.none; groups = w.2; shape = seat.between.drawn.spelling.shape; config = seat.still.config; held = held }
  may_act (Away (Acknowledge number service)) w = record { up = λ positive. up; line = w.line }
  may_act (Fresh task) w = tt
  may_act (Rested p) w = tt
  may_act Told w = tt

gives_up : (by : MemberId) (r : Option (List Entry)) → r ≡ None → reserved_after_stop by r ≡ None
gives_up by r none = ap (reserved_after_stop by) none

-- WHAT THEY CHANGE

-- the plant, how many lines were printed, and the lock's book and what was reserved where the member was stopped
abbrev pub asided : {P C : Type 0} → Parts P C → Parts P C → Parts P C
asided is was = record was { plant = is.plant; printed = is.printed; book = is.book; reserved = is.reserved }

module _ {P C : Type 0} where
  as_asided : (x y : Parts P C) → y ≡ printed_in y x → y ≡ asided y x
  as_asided x y frame =
      frame
      ∙ ap (λ (b : Book). record x { plant = y.plant; printed = y.printed; book = b }) (sym (ap (λ (q : Parts P C). q.book) frame))
      ∙ ap (λ (r : Option (List Entry)). record x { plant = y.plant; printed = y.printed; book = y.book; reserved = r }) (sym (ap (λ (q : Parts P C). q.reserved) frame))

  as_stopped : (by : MemberId) (x y : Parts P C) → y ≡ printed_in y (stopped_at by x) → y ≡ asided y x
  as_stopped by x y frame =
      frame
      ∙ ap (λ (b : Book). record (printed_in y (stopped_at by x)) { book = b }) (sym (ap (λ (q : Parts P C). q.book) frame))
      ∙ ap (λ (r : Option (List Entry)). record (printed_in y (stopped_at by x)) { book = y.book; reserved = r }) (sym (ap (λ (q : Parts P C). q.reserved) frame))

  pub only_these : {T : Type 0} (r : Result T NodeNo) (by : MemberId) (x y : Parts P C) → HasOnlyPrinted r by x y → y ≡ asided y x
  only_these (Ok done) by x y frame = as_asided x y frame
  only_these (Err NoMemory) by x y frame = as_asided x y frame
  only_these (Err BothLost) by x y frame = as_asided x y frame
  only_these (Err ConsoleFault) by x y frame = as_asided x y frame
  only_these (Err Halted) by x y frame = ⊎_elim (λ f. as_asided x y f) (λ f. as_stopped by x y f) frame

  -- a member that was halted is stopped then, if it wasn't before
  pub then_stopped : (e : NodeNo) (by : MemberId) (x y : Parts P C) → y ≡ asided y x → stopped_by e by y ≡ asided (stopped_by e by y) x
  then_stopped Halted by x y frame = ap (λ (q : Parts P C). record q { book = after_stop y.book by; reserved = reserved_after_stop by y.reserved }) frame
  then_stopped BothLost by x y frame = frame
  then_stopped ConsoleFault by x y frame = frame
  then_stopped NoMemory by x y frame = frame

  -- nothing is reserved then, either
  pub unreserved_by : {T : Type 0} (r : Result T NodeNo) (by : MemberId) (x y : Parts P C) → HasOnlyPrinted r by x y → x.reserved ≡ None → y.reserved ≡ None
  unreserved_by (Ok done) by x y frame none = ap (λ (q : Parts P C). q.reserved) frame ∙ none
  unreserved_by (Err NoMemory) by x y frame none = ap (λ (q : Parts P C). q.reserved) frame ∙ none
  unreserved_by (Err BothLost) by x y frame none = ap (λ (q : Parts P C). q.reserved) frame ∙ none
  unreserved_by (Err ConsoleFault) by x y frame none = ap (λ (q : Parts P C). q.reserved) frame ∙ none
  unreserved_by (Err Halted) by x y frame none =
      ⊎_elim (λ f. ap (λ (q : Parts P C). q.reserved) f ∙ none) (λ f. ap (λ (q : Parts P C). q.reserved) f ∙ gives_up by x.reserved none) frame

  pub unreserved_then : (e : NodeNo) (by : MemberId) (y : Parts P C) → y.reserved ≡ None → (stopped_by e by y).reserved ≡ None
  unreserved_then Halted by y none = gives_up by y.reserved none
  unreserved_then BothLost by y none = none
  unreserved_then ConsoleFault by y none = none
  unreserved_then NoMemory by y none = none

  -- the book once the member is stopped, if it was halted
  pub book_then : (e : NodeNo) (by : MemberId) (x y : Parts P C) → 1 ≤ by.0 → by.0 ≤ length x.book.members → HasOnlyPrinted {T = Found} (Err e) by x y → (stopped_by e by y).book ≡ (stopped_by e by x).book
  book_then Halted by x y some few frame =
      ⊎_elim (λ f. ap (λ (q : Parts P C). after_stop q.book by) f) (λ f. ap (λ (q : Parts P C). after_stop q.book by) f ∙ stopped_twice x.book by some few) frame
  book_then BothLost by x y some few frame = ap (λ (q : Parts P C). q.book) frame
  book_then ConsoleFault by x y some few frame = ap (λ (q : Parts P C). q.book) frame
  book_then NoMemory by x y some few frame = ap (λ (q : Parts P C). q.book) frame

-- THE VOLUMES THAT ARE NAMED

-- acts that name fewer volumes
stops_named : (few but : Found → ℕ → Bool) (by : ℕ) (v w : View) → ((f : Found) (n : ℕ) → but f n ≡ false → few f n ≡ false) → (r : Result Found NodeNo) → SpoolStops few r by v w → SpoolStops but r by v w
stops_named few but by v w fewer (Ok found) stops = sparing_more by false (few found) (but found) v w (fewer found) stops
stops_named few but by v w fewer (Err NoMemory) stops = stops
stops_named few but by v w fewer (Err Halted) stops = stops
stops_named few but by v w fewer (Err BothLost) stops = stops
stops_named few but by v w fewer (Err ConsoleFault) stops = stops

volume_named : (by : ℕ) (v w : View) (r : Result Found NodeNo) → SpoolStops (λ found. names_volume found.lost) r by v w → SpoolStops names_found r by v w
volume_named by v w r stops = stops_named (λ found. names_volume found.lost) names_found by v w (λ f n none. (or_none (names_volume f.lost n) (names_read f.read n) none).0) r stops

-- and those that name none
beside_named : (by : ℕ) (v w : View) (r : Result Found NodeNo) → StopsBeside (wire_of r) by v w → SpoolStops names_found r by v w
beside_named by v w (Ok found) stops = sparing_more by false none_lost (names_found found) v w (λ n other. refl) stops
beside_named by v w (Err NoMemory) stops = stops
beside_named by v w (Err Halted) stops = stops
beside_named by v w (Err BothLost) stops = absurd stops
beside_named by v w (Err ConsoleFault) stops = absurd stops

read_named : (by : ℕ) (v w : View) (r : Result Found NodeNo) → SpoolStops (λ found. names_read found.read) r by v w → SpoolStops names_found r by v w
read_named by v w r stops = stops_named (λ found. names_read found.read) names_found by v w (λ f n none. (or_none (names_volume f.lost n) (names_read f.read n) none).1) r stops

-- ACTS BESIDE THE COPIES, with the cause of their answer

pub record ActsBeside (told : Type 0) (by : ℕ) (old new : View) (r : Result Found NodeNo) : Type 0 where
  pub beside : IsBeside told old new
  pub cause : SpoolStops names_found r by old new

module _ {P C : Type 0} (plants : PlantGhosts P) (copies : CopyGhosts C) where
  abbrev v : Parts P C → View
  v x = plants.view x.plant

  none_done : (x y : Parts P C) (by : ℕ) (r : Result Found NodeNo) → y ≡ x → r ≡ Ok nothing_found → ActsBeside plants.tells by (v x) (v y) r
  none_done x y by r same is =
      subst (λ (q : Parts P C). ActsBeside plants.tells by (v x) (v q) r) (sym same)
      (subst (λ (a : Result Found NodeNo). ActsBeside plants.tells by (v x) (v x) a) (sym is) (record { beside = beside_none plants.tells (v x); cause = sparing_more by false none_lost (names_found nothing_found) (v x) (v x) (λ n other. refl) (sparing_none by (v x)) }))

  pub acts_beside : (x y : Parts P C) (m : Member) (s : State) (was is : Option (List ℕ)) (r : Result Found NodeNo) → ActsAfter plants x y m s was is r → ActsBeside plants.tells m.id.0 (v x) (v y) r
  acts_beside x y m (Away (SpoolDeck n text)) was is r a = record { beside = beside_volumes plants.tells m.id.0 (v x) (v y) a.1.acts; cause = volume_named m.id.0 (v x) (v y) r a.1.cause }
  acts_beside x y m (Away (ReadText runs n fields p)) was is r a = record { beside = beside_volumes plants.tells m.id.0 (v x) (v y) a.1.acts; cause = read_named m.id.0 (v x) (v y) r a.1.cause }
  acts_beside x y m (Away (SpoolOutputs n specs p)) was is r a = record { beside = beside_volumes plants.tells m.id.0 (v x) (v y) a.1.acts; cause = volume_named m.id.0 (v x) (v y) r a.1.cause }
  acts_beside x y m (Away (PrintLines n i last p)) was is r a = record { beside = a.1.acts; cause = read_named m.id.0 (v x) (v y) r a.1.cause }
  acts_beside x y m (Away (Exchange l offer)) was is r a = record { beside = record { goes = a.1.acts.goes; lost1 = a.1.acts.else_lost (DiskPart Ckpt1) (λ same. absurd (cc)) (λ n same. absurd (cc)); lost2 = a.1.acts.else_lost (DiskPart Ckpt2) (λ same. absurd (cc)) (λ n same. absurd (cc)); loses = a.1.acts.loses; first = a.1.acts.first; second = a.1.acts.second; console = a.1.acts.console }; cause = read_named m.id.0 (v x) (v y) r a.1.stops }
  acts_beside x y m (Away (SpoolArrival number job cards service)) was is r a = record { beside = beside_volumes plants.tells m.id.0 (v x) (v y) a.1.acts; cause = volume_named m.id.0 (v x) (v y) r a.1.cause }
  acts_beside x y m (Away (Acknowledge number service)) was is r a = record { beside = record { goes = a.1.gives.acts.goes; lost1 = a.1.gives.acts.else_lost (DiskPart Ckpt1) (λ same. absurd (cc)) (λ n same. absurd (cc)); lost2 = a.1.gives.acts.else_lost (DiskPart Ckpt2) (λ same. absurd (cc)) (λ n same. absurd (cc)); loses = a.1.gives.acts.loses; first = a.1.gives.acts.first; second = a.1.gives.acts.second; console = a.1.gives.acts.console }; cause = beside_named m.id.0 (v x) (v y) r a.1.gives.stops }
  acts_beside x y m (Fresh task) was is r a = none_done x y m.id.0 r a.0 a.1
  acts_beside x y m (Rested p) was is r a = none_done x y m.id.0 r a.0 a.1
  acts_beside x y m Told was is r a = none_done x y m.id.0 r a.0 a.1

  -- what they changed
  none_changed : (x y : Parts P C) (by : MemberId) (r : Result Found NodeNo) → y ≡ x → HasOnlyPrinted r by x y
  none_changed x y by r same = only_plant x y (same ∙ ap (λ (p : P). record x { plant = p }) (sym (ap (λ (q : Parts P C). q.plant) same))) r by

  pub changed_only : (x y : Parts P C) (m : Member) (s : State) (was is : Option (List ℕ)) (r : Result Found NodeNo) → ActsAfter plants x y m s was is r → HasOnlyPrinted r m.id x y
  changed_only x y m (Away (SpoolDeck n text)) was is r a = only_plant x y a.0 r m.id
  changed_only x y m (Away (ReadText runs n fields p)) was is r a = only_plant x y a.0 r m.id
  changed_only x y m (Away (SpoolOutputs n specs p)) was is r a = only_plant x y a.0 r m.id
  changed_only x y m (Away (PrintLines n i last p)) was is r a = a.0
  changed_only x y m (Away (Exchange l offer)) was is r a = only_plant x y a.0 r m.id
  changed_only x y m (Away (SpoolArrival number job cards service)) was is r a = only_plant x y a.0 r m.id
  changed_only x y m (Away (Acknowledge number service)) was is r a = only_plant x y a.0 r m.id
  changed_only x y m (Fresh task) was is r a = none_changed x y m.id r a.0
  changed_only x y m (Rested p) was is r a = none_changed x y m.id r a.0
  changed_only x y m Told was is r a = none_changed x y m.id r a.0

  -- as acts of a step
  spares_by : (e : NodeNo) (by : ℕ) (v w : View) → SpoolStops names_found (Err e) by v w → Spares by (is_stop e) v w
  spares_by NoMemory by v w cause = cause.spares
  spares_by Halted by v w cause = cause.0.spares
  spares_by BothLost by v w cause = absurd cause
  spares_by ConsoleFault by v w cause = absurd cause

  pub stay_by : (e : NodeNo) (by : ℕ) (v w : View) → SpoolStops names_found (Err e) by v w → VolumesStay none_lost v w
  stay_by NoMemory by v w cause = cause.volumes
  stay_by Halted by v w cause = cause.0.volumes
  stay_by BothLost by v w cause = absurd cause
  stay_by ConsoleFault by v w cause = absurd cause

  caused_by : (e : NodeNo) (by : ℕ) (a b : Bool) (v w : View) → SpoolStops names_found (Err e) by v w → StepCauses {T = Unit {0}} (Err e) by (pair_at a b v) (pair_at a b w)
  caused_by NoMemory by a b v w cause = inr (refl, refl)
  caused_by Halted by a b v w cause = (inr (refl, refl), cause.1)
  caused_by BothLost by a b v w cause = absurd cause
  caused_by ConsoleFault by a b v w cause = absurd cause

  pub acted_err : (x y : Parts P C) (by : MemberId) (e : NodeNo) → y ≡ asided y x → ActsBeside plants.tells by.0 (v x) (v y) (Err e) → HasActedIn plants copies by x y (Err e)
  acted_err x y by e frame a =
      subst (λ (q : Parts P C). HasActedIn plants copies by x q (Err e)) (sym frame) (record {
        course = passage_beside plants.tells x.first_alive x.second_alive (v x) (v y) a.beside;
        loses = λ t d. a.beside.loses d;
        spares = spares_by e by.0 (v x) (v y) a.cause;
        cause = caused_by e by.0 x.first_alive x.second_alive (v x) (v y) a.cause;
        notes = λ m other. refl;
      })

  pub acted_ok : (x y : Parts P C) (by : MemberId) (found : Found) → y ≡ asided y x → ActsBeside plants.tells by.0 (v x) (v y) (Ok found) → HasActedIn plants copies by x y (Ok tt)
  acted_ok x y by found frame a =
      subst (λ (q : Parts P C). HasActedIn plants copies by x q (Ok tt)) (sym frame) (record {
        course = passage_beside plants.tells x.first_alive x.second_alive (v x) (v y) a.beside;
        loses = λ t d. a.beside.loses d;
        spares = a.cause.spares;
        cause = inr (refl, refl);
        notes = λ m other. refl;
      })

  -- A MEMBER THAT SAT IS IDLE after them, and at its seat if it has the lock still

  module _ (y w : Parts P C) (m : Member) (seat : IsSeat plants copies y m) (frame : w ≡ asided w y) (beside : IsBeside plants.tells (v y) (v w)) (unreserved : w.reserved ≡ None) where
    abbrev now : Parts P C
    now = asided w y

    kept_now : AreSettled y.batches (v w).now
    kept_now = settled_later y.batches (v y).now (v w).now seat.still.kept beside.goes.later

    begun_now : y.since ≤ (v w).now
    begun_now = let begun = seat.still.begun in let later = beside.goes.later in omega (arith, begun, later)

    roomy_now : plants.tells → AreRoomy (v w) y.base.config
    roomy_now t = still_roomy y.base.config (v y) (v w) beside.goes (seat.still.roomy t)

    read1 : plants.tells → (first_half plants copies now).read ≡ (first_half plants copies y).read
    read1 t = ap (λ (d : Disk). copies.reads d.bytes) (beside.first t)

    read2 : plants.tells → (second_half plants copies now).read ≡ (second_half plants copies y).read
    read2 t = ap (λ (d : Disk). copies.reads d.bytes) (beside.second t)

    -- a copy that has the member's pages
    open_by : (h h' : Half) → h'.alive ≡ h.alive → h'.place ≡ h.place → h'.count ≡ h.count → (plants.tells → h'.read ≡ h.read) → IsAtRest plants.tells h m.checkpoint.pages → IsOpen plants.tells h' y.base.config (length y.batches) (length m.room)
    open_by h h' alive place count read rests =
        let low = low_written plants.tells h.alive h.place h.count y.base.config (length y.batches) m.checkpoint h.read seat.between.drawn seat.low rests in
        record {
          calm = subst (λ (a : Bool). IsCalm a h'.place h'.count (length m.room)) (sym alive)
              (subst (λ (q : Place). IsCalm h.alive q h'.count (length m.room)) (sym place)
              (subst (λ (k : ℕ). IsCalm h.alive h.place k (length m.room)) (sym count)
              (calm_rest plants.tells h.alive h.place h.count m.checkpoint.pages h.read (length m.room) seat.still.many rests)));
          low = low_later plants.tells h.alive h'.alive y.base.config (length y.batches) h.read h'.read (λ on. sym alive ∙ on) read low;
        }

    quiet_now : IsQuiet plants copies now (length m.room)
    quiet_now = record {
      none = seat.still.none;
      unplaced = seat.still.unplaced;
      unreserved = unreserved;
      first = open_by (first_half plants copies y) (first_half plants copies now) refl refl refl read1 seat.still.first;
      second = open_by (second_half plants copies y) (second_half plants copies now) refl refl refl read2 seat.still.second;
      sound = λ t. told_sound m.checkpoint.tables (queue_of y) (seat.between.sound t) (seat.between.queue t);
      kept = kept_now;
      begun = begun_now;
      roomy = roomy_now;
    }

    pub quiet_then : IsQuiet plants copies w (length m.room)
    quiet_then = subst (λ (q : Parts P C). IsQuiet plants copies q (length m.room)) (sym frame) quiet_now

    pub aside_then : IsAside plants copies w m
    aside_then = record {
      quiet = quiet_then;
      idle = record { nothing = seat.between.nothing; drawn = seat.between.drawn; many = seat.still.many };
      noted = subst (λ (q : Parts P C). HasHad plants.tells m.fresh q.had m.id.0 m.checkpoint.pages) (sym frame) seat.still.noted;
      config = ap (λ (q : Parts P C). q.base.config) frame ∙ seat.still.config;
    }

    rest_by : (h h' : Half) → h'.alive ≡ h.alive → h'.place ≡ h.place → h'.count ≡ h.count → (plants.tells → h'.read ≡ h.read) → IsAtRest plants.tells h m.checkpoint.pages → IsAtRest plants.tells h' m.checkpoint.pages
    rest_by h h' alive place count read rests =
        record { before = place ∙ rests.before; as_many = λ on. rests.as_many (sym alive ∙ on) ∙ sym count; reads = λ t on. read t ∙ rests.reads t (sym alive ∙ on) }

    pub seat_then : HoldsLock w.book y.base.config m.id → IsSeat plants copies w m
    seat_then holds = subst (λ (q : Parts P C). IsSeat plants copies q m) (sym frame) (record {
      still = record {
        holds = holds;
        none = seat.still.none;
        unreserved = unreserved;
        unplaced = seat.still.unplaced;
        here = seat.still.here;
        many = seat.still.many;
        config = seat.still.config;
        first = rest_by (first_half plants copies y) (first_half plants copies now) refl refl refl read1 seat.still.first;
        second = rest_by (second_half plants copies y) (second_half plants copies now) refl refl refl read2 seat.still.second;
        kept = kept_now;
        begun = begun_now;
        roomy = roomy_now;
        noted = seat.still.noted;
      };
      between = between_by plants.tells y now m.batch m.checkpoint refl refl refl refl refl seat.between;
      low = seat.low;
    })
