-- A stopped member's lock was taken over in the middle of a line, and that member reset: what others gave since, as the queue
-- shows it to the line's member, and what stays of its own.
use Rattle.std.proofs.Common.{◌≡◌, ◌≢◌, ◌∙◌, ◌≤◌, ◌&&◌, ◌||◌, not, nat_le, if◌then◌else◌, ℕ, Bool, true, false, List, [], ◌∷◌, ◌++◌, length, All, Option, Some, None, ap, refl, subst, sym, arith}
use Rattle.std.proofs.Math.Logic.{∥∥₁_map}
use Rattle.std.proofs.lemmas.Bool.{false_from_ne_true as not_true, le-leb, ne_eqb}
use Rattle.std.proofs.lemmas.List.Elements.{All-append, All-cons, All-head, All-nil, All-tail}
use Rattle.mas_types.specs.declared.commands.Command.{Command}
use Rattle.mas_types.specs.declared.commands.Command.TheVariants as command
use Rattle.mas_types.specs.declared.ids.Dev.TheVariants.{Spool}
use Rattle.mas_types.specs.declared.ids.GroupNo.{GroupNo}
use Rattle.mas_types.specs.declared.ids.MemberId.{MemberId}
use Rattle.mas_types.specs.declared.journals.Batch.{Batch}
use Rattle.mas_types.specs.declared.journals.Entry.{Entry}
use Rattle.mas_types.specs.declared.journals.Fate.{Fate}
use Rattle.mas_types.specs.declared.journals.Fate.TheVariants.{Dropped, Flying, Kept}
use Rattle.mas_types.specs.declared.queues.Queue.{Queue}
use Rattle.mas_types.specs.Ids.{is_somebody, same_member}
use Rattle.mas_types.specs.Journal.{is_kept}
use Rattle.mas_types.specs.Queue.{is_member}
use Rattle.mas_types.specs.Sound.{IsSound}
use Rattle.lock_cycle.specs.Books.{IsMember, is_stopped}
use Rattle.spool_plant.specs.View.{Disk, View, disk_now}
use Rattle.spool_plant.specs.declared.plant.Plant.{Ghosts as PlantGhosts}
use Rattle.ckpt_copy.specs.declared.copying.Copying.{Ghosts as CopyGhosts}
use Rattle.ckpt_form.specs.declared.steady.Steady.{Ghosts as SteadyGhosts}
use Rattle.duplex_pair.specs.Halves.{SomeAlive}
use Rattle.mas_complex.proofs.Batches.{kept_all_append, run_append, past_kept}
use Rattle.mas_complex.specs.declared.complex.Complex.{Complex}
use Rattle.mas_complex.specs.Journals.{end_of, entries_in, in_flight, kept_all, past_batches}
use Rattle.mas_complex.specs.Meaning.{run}
use Rattle.mas_complex.specs.Paper.{AreGivenIn, counts_of}
use Rattle.mas_complex.specs.Parts.{Parts, parts_of}
use Rattle.mas_complex.specs.Texts.{spools_at}
use Rattle.paper_laws.specs.Counts.{counts_after}
use Rattle.paper_laws.proofs.Runs.{all_given_after}
use Rattle.queue_laws.specs.Laws.{resets}
use Rattle.queue_laws.specs.Runs.{IsGiven}
use Rattle.queue_laws.proofs.RunLaws.{runs_keep_sound}
use Rattle.gate_turns.specs.Actors.{ResetsStopped}
use Rattle.gate_turns.specs.Laws.{Passes}
use Rattle.gate_turns.specs.Seats.{shows_stopped}
use Rattle.mas_race.specs.Between.{BetweenTurns}
use Rattle.race_turns.specs.Turns.{left_holder}
use Rattle.step_turns.specs.Entries.{all_entries}
use Rattle.step_turns.specs.Sittings.{Sitting}
use Rattle.step_turns.specs.declared.states.Holder.{Holder}
use Rattle.member_decks.specs.Spooling.{IsGroupKept, IsQuiet}
use Rattle.member_decks.proofs.PageLemmas.{kept_quiet, quiet_none}
use Rattle.member_sittings.specs.Left.{Reach, StandThere, left_by, reach_all}
use Rattle.member_sittings.specs.Sat.{journal_of}
use Rattle.member_sittings.specs.Whole.{queue_of}
use Rattle.member_steps.specs.Steps.{entry_with}
use Rattle.member_resets.specs.Resetting.{taker_at}
use Rattle.member_racing.specs.Kinds.{ResetsTaken}
use Rattle.member_racing.proofs.GroupsStill.{Kept as KeptGroup}
use Rattle.member_racing.proofs.Histories.{each_kept}
use Rattle.member_racing.proofs.OthersGave.{OthersGave}
use Rattle.member_racing.proofs.Resting.{all_back}
use Rattle.member_racing.proofs.Settled.{found_of, kept_settled}
use Rattle.member_racing.proofs.Turns.{left_is}

-- WHOLE PAGES STAY where the volumes are as they were

pub groups_same : (per : ℕ) (old new : View) → ((n : ℕ) → disk_now new (Spool n) ≡ disk_now old (Spool n)) → (gs : List GroupNo) → All (KeptGroup per (disk_now old) (disk_now new)) gs
groups_same per old new same [] = All-nil (KeptGroup per (disk_now old) (disk_now new))
groups_same per old new same (g ∷ gs) =
    let quiet : (n : ℕ) → IsQuiet (disk_now old (Spool n)) (disk_now new (Spool n)) = λ n. subst (λ (d : Disk). IsQuiet (disk_now old (Spool n)) d) (sym (same n)) (quiet_none (spools_at old old.now) n) in
    let k : IsGroupKept per g (spools_at old old.now) (spools_at new new.now) = kept_quiet per [] (spools_at old old.now) (spools_at new new.now) quiet g (All-nil (λ (h : GroupNo). g.0 ≢ h.0)) in
    All-cons (KeptGroup per (disk_now old) (disk_now new)) g gs (record { page = k.page; synced = k.synced }) (groups_same per old new same gs)

-- THE ENTRY of a reset, as the whole of a sitting

one_kept : (by : MemberId) (from now : ℕ) (e : Entry) (bs : List Batch) → StandThere false by from now ((e ∷ []) ∷ []) bs → kept_all bs ≡ e ∷ []
one_kept by from now e [] s = absurd s
one_kept by from now e (b ∷ bs) s =
    ap (λ (l : List Batch). kept_all (b ∷ l)) s.0
    ∙ ap (λ (f : Fate). (if is_kept f then b.entries else []) ++ []) s.1.kept
    ∙ ap (λ (es : List Entry). es ++ []) s.1.entries

append_three : (xs ys zs : List Entry) → (xs ++ ys) ++ zs ≡ xs ++ (ys ++ zs)
append_three [] ys zs = refl
append_three (e ∷ xs) ys zs = ap (λ (l : List Entry). e ∷ l) (append_three xs ys zs)

and_false : (b : Bool) → (b && false) ≡ false
and_false true = refl
and_false false = refl

given_each : (base : Queue) (bs : List Batch) → AreGivenIn base bs → All (λ (b : Batch). All (IsGiven base) b.entries) bs
given_each base [] given = All-nil (λ (b : Batch). All (IsGiven base) b.entries)
given_each base (b ∷ bs) given = All-cons (λ (b : Batch). All (IsGiven base) b.entries) b bs given.0 (given_each base bs given.1)

-- of a batch in flight, what holds of each entry of it holds of what was found kept
found_all : (R : Entry → Type 0) (f : Fate) (o : Option Batch) → All R (entries_in o) → All R (found_of f o)
found_all R Kept (Some c) all = all
found_all R Kept None all = All-nil R
found_all R Dropped o all = All-nil R
found_all R Flying o all = All-nil R

module _ {P C : Type 0} {plants : PlantGhosts P} {steadies : SteadyGhosts C} {copies : CopyGhosts C} (x : Complex P C plants steadies copies) (rest : BetweenTurns x) (some : SomeAlive x.pair.first.alive x.pair.second.alive) (m of : MemberId) (somebody : is_somebody m ≡ true) (up : is_stopped x.book m ≡ false)
    (left : left_holder x.book ≡ Some of) (at : ℕ) (y : Parts P C) (took : ResetsTaken plants copies m at of (parts_of x) y) where
  abbrev p : Parts P C
  p = parts_of x

  abbrev v : Parts P C → View
  v q = plants.view q.plant

  abbrev mid : Parts P C
  mid = took.mid

  abbrev there : Parts P C
  there = took.there

  abbrev h : Holder
  h = taker_at plants copies m at mid

  abbrev it : Entry
  it = entry_with m at (command.Reset of) took.reset.gave.shaped.0

  abbrev its : Sitting
  its = took.reset.gave.sitting

  batches_are : its.batches ≡ (it ∷ []) ∷ []
  batches_are = ap (λ (t : Sitting). t.batches) took.reset.gave.shaped.1

  abbrev sat_more : List Batch
  sat_more = took.reset.gave.sat.sat.more

  -- the reset alone is added
  more_kept : kept_all sat_more ≡ it ∷ []
  more_kept =
      let sat = took.reset.gave.sat.sat in
      let reach : sat.reach ≡ reach_all ((it ∷ []) ∷ []) = sat.reached ∙ ap reach_all batches_are in
      one_kept m (v took.reset.seat).now (v there).now it sat_more
      (subst (λ (r : Reach). StandThere r.flies m (v took.reset.seat).now (v there).now (left_by r ((it ∷ []) ∷ [])) sat_more) reach
      (subst (λ (ess : List (List Entry)). StandThere sat.reach.flies m (v took.reset.seat).now (v there).now (left_by sat.reach ess) sat_more) batches_are sat.left.stand))

  -- a journal with nothing in flight in a place is the batches
  journal_is : (q : Parts P C) → q.current ≡ None → q.placed ≡ false → journal_of q ≡ q.batches
  journal_is q none unplaced = ap (λ (o : Option Batch). end_of q.placed o q.batches) none ∙ ap (λ (b : Bool). end_of b None q.batches) unplaced

  journal_there : journal_of there ≡ there.batches
  journal_there =
      journal_is there (ap (λ (q : Parts P C). q.current) (sym took.frame) ∙ took.quiet.none) (ap (λ (q : Parts P C). q.placed) (sym took.frame) ∙ took.quiet.unplaced)

  mid_kept : kept_all mid.batches ≡ kept_all p.batches ++ found_of took.found p.current
  mid_kept =
      ap kept_all (sym (journal_is mid took.taken_over.quiet.none took.taken_over.quiet.unplaced)) ∙ ap kept_all took.taken_over.journal ∙ kept_settled x took.found (v mid).now

  seat_batches : took.reset.seat.batches ≡ mid.batches
  seat_batches = ap (λ (q : Parts P C). q.batches) took.reset.took.frame

  abbrev found : List Entry
  found = found_of took.found p.current

  kept_y : kept_all y.batches ≡ kept_all p.batches ++ (found ++ it ∷ [])
  kept_y =
      ap (λ (q : Parts P C). kept_all q.batches) took.frame ∙ ap kept_all (sym journal_there) ∙ ap kept_all took.reset.gave.sat.sat.journal
      ∙ kept_all_append took.reset.seat.batches sat_more
      ∙ ap (λ (bs : List Batch). kept_all bs ++ kept_all sat_more) seat_batches
      ∙ ap (λ (es : List Entry). es ++ kept_all sat_more) mid_kept
      ∙ ap (λ (es : List Entry). (kept_all p.batches ++ found) ++ es) more_kept
      ∙ append_three (kept_all p.batches) found (it ∷ [])

  -- IT PASSES BY THE MEMBER: what was in flight was a stopped one's, and the one reset is stopped

  apart : (k : MemberId) → is_stopped x.book k ≡ true → m.0 ≢ k.0
  apart k down same =
      let one : k ≡ m = ap (λ (n : ℕ). let i : MemberId = record { 0 = n } in i) (sym same) in
      absurd (let bad : true ≡ false = sym down ∙ ap (is_stopped x.book) one ∙ up in cc)

  not_it : (c : Command) → ResetsStopped x.book c → resets m c ≡ false
  not_it c stopped = not_true (resets m c) (λ t. let shown : shows_stopped x.book m ≡ true = stopped m t in let bad : true ≡ false = sym shown ∙ ap (λ (b : Bool). b && is_stopped x.book m) somebody ∙ up in absurd (cc))

  passes_of : (c : Batch) → is_somebody c.by ≡ true → is_stopped x.book c.by ≡ true → (es : List Entry) → All (λ e. e.by ≡ c.by) es → All (λ e. is_somebody e.by ≡ true → ResetsStopped x.book e.command) es → All (Passes m) es
  passes_of c by down [] own stopped = All-nil (Passes m)
  passes_of c by down (e ∷ es) own stopped =
      let mine : e.by ≡ c.by = All-head (λ (e : Entry). e.by ≡ c.by) e es own in
      All-cons (Passes m) e es
      (ne_eqb m.0 e.by.0 (λ same. apart c.by down (same ∙ ap (λ (i : MemberId). i.0) mine)), not_it e.command (All-head (λ (e : Entry). is_somebody e.by ≡ true → ResetsStopped x.book e.command) e es stopped (ap is_somebody mine ∙ by)))
      (passes_of c by down es (All-tail (λ (e : Entry). e.by ≡ c.by) e es own) (All-tail (λ (e : Entry). is_somebody e.by ≡ true → ResetsStopped x.book e.command) e es stopped))

  some_by : (k : MemberId) → IsMember x.book k → is_somebody k ≡ true
  some_by k inside = let some = inside.0 in ap not (ne_eqb k.0 0 (λ zero. omega (arith, some, zero)))

  flight_passes : plants.tells → (o : Option Batch) → x.current ≡ o → All (Passes m) (entries_in o)
  flight_passes t None is = All-nil (Passes m)
  flight_passes t (Some c) is =
      let f = rest.flying some c is in
      let own : All (λ (b : Batch). All (λ e. e.by ≡ b.by) b.entries) (c ∷ []) = subst (λ (o : Option Batch). All (λ (b : Batch). All (λ e. e.by ≡ b.by) b.entries) (in_flight o)) is (all_back (λ (b : Batch). All (λ e. e.by ≡ b.by) b.entries) p.batches (in_flight p.current) rest.own) in
      let stopped : All (λ (b : Batch). All (λ e. is_somebody e.by ≡ true → ResetsStopped x.book e.command) b.entries) (c ∷ []) =
      subst (λ (o : Option Batch). All (λ (b : Batch). All (λ e. is_somebody e.by ≡ true → ResetsStopped x.book e.command) b.entries) (in_flight o)) is
      (all_back (λ (b : Batch). All (λ e. is_somebody e.by ≡ true → ResetsStopped x.book e.command) b.entries) p.batches (in_flight p.current) (rest.resets t)) in
      passes_of c (some_by c.by f.0) f.1 c.entries (All-head (λ (b : Batch). All (λ e. e.by ≡ b.by) b.entries) c [] own) (All-head (λ (b : Batch). All (λ e. is_somebody e.by ≡ true → ResetsStopped x.book e.command) b.entries) c [] stopped)

  -- as if the stopped member had reset itself: the queue is the same
  abbrev as_its : Entry
  as_its = entry_with of at (command.Reset of) took.reset.gave.shaped.0

  other : same_member m of ≡ false
  other = ne_eqb m.0 of.0 (apart of (left_is x.book of left).stopped)

  passes : plants.tells → All (Passes m) (found ++ as_its ∷ [])
  passes t = All-append (Passes m) found (as_its ∷ []) (found_all (Passes m) took.found p.current (flight_passes t p.current refl)) (All-cons (Passes m) as_its [] (other, other) (All-nil (Passes m)))

  of_member : is_member x.base.config of ≡ true
  of_member =
      let l = left_is x.book of left in
      let le : of.0 ≤ length x.book.members = subst (λ (k : MemberId). k.0 ≤ length x.book.members) l.holds rest.seated in
      let few = rest.members in
      ap (λ (b : Bool). b && nat_le of.0 x.base.config.members) l.somebody ∙ le-leb of.0 x.base.config.members (omega (arith, le, few))

  run_same : (Q : Queue) (es : List Entry) → run Q (es ++ it ∷ []) ≡ run Q (es ++ as_its ∷ [])
  run_same Q es = run_append Q es (it ∷ []) ∙ sym (run_append Q es (as_its ∷ []))

  module _ (base : y.base ≡ x.base) (sound : plants.tells → IsSound x.base) where
    queue_is : queue_of y ≡ run (queue_of p) (found ++ as_its ∷ [])
    queue_is =
        ap (λ (q : Queue). run q (kept_all y.batches)) base ∙ ap (run x.base) kept_y ∙ run_append x.base (kept_all p.batches) (found ++ it ∷ []) ∙ run_same (queue_of p) found

    pub others_took : plants.tells → ∥ OthersGave m (queue_of p) (queue_of y) ∥₁
    others_took t =
        ∥∥₁_map (x.paper t (sound t))
        (λ k.
        let past : List Batch = past_batches x.placed x.journal.batches in
        let flew : All (IsGiven x.base) found = found_all (IsGiven x.base) took.found p.current k.coming_given in
        let was : All (IsGiven x.base) (kept_all p.batches) =
        subst (λ (es : List Entry). All (IsGiven x.base) es) (past_kept x.placed x.journal.batches x.place) (each_kept (IsGiven x.base) past (given_each x.base past k.given)) in
        let reset : IsGiven x.base as_its = record { by = of_member; fit = tt } in
        record {
          es = found ++ as_its ∷ [];
          is = queue_is;
          passes = passes t;
          given = all_given_after x.base (kept_all p.batches) (found ++ as_its ∷ []) (All-append (IsGiven x.base) found (as_its ∷ []) flew (All-cons (IsGiven x.base) as_its [] reset (All-nil (IsGiven x.base))));
          sound = runs_keep_sound x.base (kept_all p.batches) (sound t) was;
        })

  -- how much it has printed stays
  pub counts_took : counts_of y.printed m ≡ counts_of x.printed m
  counts_took =
      ap (λ (q : Parts P C). counts_of q.printed m) took.frame ∙ took.reset.gave.sat.sat.counts.own
      ∙ ap (λ (ess : List (List Entry)). counts_after (all_entries ess) (counts_of took.reset.seat.printed) m) batches_are
      ∙ ap (λ (b : Bool). if b || false then 0 else counts_of took.reset.seat.printed m) (and_false (same_member m m))
      ∙ ap (λ (q : Parts P C). counts_of q.printed m) took.reset.took.frame ∙ ap (λ (l : List ℕ). counts_of l m) took.taken_over.printed
