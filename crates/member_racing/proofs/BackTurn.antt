-- A turn of a member's line may hand its value back: what is another member's is as it was.
use Rattle.std.proofs.Common.{◌≡◌, ◌≢◌, ◌∙◌, ◌⊎◌, inl, inr, ⊎_elim, ℕ, zero, suc, ◌≤◌, Bool, true, false, not, if◌then◌else◌, List, [], ◌∷◌, ◌++◌, append-nil, drop, length, All, Option, Some, None, Result, Ok, Err, ap, refl, subst, sym, arith, slice_get}
use Rattle.std.specs.Coded.{le_prop}
use Rattle.std.proofs.Math.Logic.{∥∥₁_elim}
use Rattle.std.proofs.lemmas.Bool.{ne_eqb}
use Rattle.std.proofs.lemmas.List.{append_assoc, length-append}
use Rattle.std.proofs.lemmas.List.Elements.{All-append, All-cons, All-head, All-nil, All-tail, All-weaker}
use Rattle.mas_types.specs.declared.ids.Dev.TheVariants.{Spool}
use Rattle.mas_types.specs.declared.ids.GroupNo.{GroupNo}
use Rattle.mas_types.specs.declared.ids.MemberId.{MemberId}
use Rattle.mas_types.specs.declared.ids.Page.{Page}
use Rattle.mas_types.specs.declared.journals.Batch.{Batch}
use Rattle.mas_types.specs.declared.journals.Entry.{Entry}
use Rattle.mas_types.specs.declared.journals.Fate.{Fate}
use Rattle.mas_types.specs.declared.journals.Fate.TheVariants.{Dropped, Flying, Kept}
use Rattle.mas_types.specs.declared.queues.Queue.{Queue}
use Rattle.mas_types.specs.Ids.{is_somebody}
use Rattle.mas_types.specs.Limits.{members_most}
use Rattle.mas_types.specs.Run.{run}
use Rattle.lock_cycle.specs.Books.{IsMember, is_stopped}
use Rattle.spool_plant.specs.declared.plant.Plant.{Ghosts as PlantGhosts}
use Rattle.spool_plant.specs.Acts.{Goes}
use Rattle.spool_plant.specs.View.{Line, View, World, disk_now}
use Rattle.ckpt_copy.specs.declared.copying.Copying.{Ghosts as CopyGhosts}
use Rattle.ckpt_form.specs.declared.steady.Steady.{Ghosts as SteadyGhosts}
use Rattle.duplex_pair.specs.Halves.{SomeAlive}
use Rattle.queue_laws.specs.Laws.{resets}
use Rattle.gate_facts.specs.Memory.{EachOf, MayGiveBack}
use Rattle.gate_facts.specs.Values.{SyncedGroups, stopped_of}
use Rattle.gate_turns.specs.Actors.{ResetsStopped}
use Rattle.gate_turns.specs.Desks.{groups_from, groups_on}
use Rattle.gate_turns.specs.Laws.{Passes}
use Rattle.gate_turns.specs.Seats.{has_lock, shows_stopped}
use Rattle.gate_turns.specs.Shared.{begun_by, facts_of, groups_of, said_of}
use Rattle.gate_turns.specs.Words.{lines_by, speaker}
use Rattle.gate_turns.proofs.Acted.{whole_texts}
use Rattle.gate_turns.proofs.Actors.{lines_named}
use Rattle.gate_turns.proofs.Giving.{may_itself}
use Rattle.gate_turns.proofs.KeptSame.{begun_append}
use Rattle.gate_turns.proofs.LeftGroups.{passing_leaves}
use Rattle.gate_turns.proofs.Seats.{seat_at}
use Rattle.mas_complex.proofs.Batches.{kept_all_append}
use Rattle.mas_complex.specs.declared.complex.Complex.{Complex}
use Rattle.mas_complex.specs.Journals.{in_flight, kept_all}
use Rattle.mas_complex.specs.Parts.{Parts, Shown, parts_of, shown_of, shows, unreserved_in}
use Rattle.mas_complex.specs.Past.{noted_by}
use Rattle.mas_complex.specs.Spool.{IsHeldBy}
use Rattle.mas_complex.specs.Texts.{spools_at}
use Rattle.mas_race.specs.Between.{BetweenTurns, is_held}
use Rattle.script_lang.specs.declared.types.Ask.{Ask}
use Rattle.member_node.specs.declared.member.Member.{Member}
use Rattle.member_node.specs.declared.member.NodeNo.{NodeNo}
use Rattle.member_node.specs.declared.member.NodeNo.TheVariants as no_node
use Rattle.member_node.specs.Calls.{console_now}
use Rattle.member_decks.specs.Spooling.{IsGroupKept}
use Rattle.member_sittings.specs.Sat.{journal_of}
use Rattle.member_sittings.specs.Whole.{queue_of}
use Rattle.step_turns.specs.Laws.{on_line}
use Rattle.member_resets.specs.Asides.{MayActAfter}
use Rattle.member_resets.specs.Plays.{played_in}
use Rattle.member_resets.specs.Stand.{Stand}
use Rattle.member_resets.specs.Settling.{settle}
use Rattle.member_racing.specs.Backs.{MayGoBack}
use Rattle.member_racing.specs.Opened.{IsIdleTurn, Tries}
use Rattle.member_racing.specs.Turning.{EndsTurn, raced_at}
use Rattle.member_racing.specs.Waits.{MayActNext, Waits, WaitsAt}
use Rattle.member_racing.specs.declared.stages.Stage.{Stage as Stands}
use Rattle.member_racing.specs.declared.stages.Stage.TheVariants as line
use Rattle.member_racing.proofs.Adding.{AddsOf, Mine, end_base}
use Rattle.member_racing.proofs.BackLemmas.{LeavesOthers, leaves_may}
use Rattle.member_racing.proofs.BackParts.{by_test, found_at, groups_kept, its_groups, lines_kept, no_hold_either, none_after, none_before, not_both, one_owner, shown_down, still_shown, still_up, unreserved_none}
use Rattle.member_racing.proofs.Books.{OnlyBy}
use Rattle.member_racing.proofs.CostTurn.{EndedActs}
use Rattle.member_racing.proofs.GroupsTurn.{OthersKept, then_kept, tries_kept}
use Rattle.member_racing.proofs.Histories.{each_kept, journal_kept}
use Rattle.member_racing.proofs.Journaled.{journal_begun}
use Rattle.member_racing.proofs.Members.{named_own, somebody_of}
use Rattle.member_racing.proofs.OwnEntries.{IsEntry, MayFly}
use Rattle.member_racing.proofs.Resting.{all_back}
use Rattle.member_racing.proofs.Settled.{found_of, kept_settled, settle_begun}
use Rattle.member_racing.proofs.TurnLeft.{IsOwnText, OwnLines}
use Rattle.member_racing.proofs.TurnParts.{acts_end, adds_end, only_end}

-- THE TURN

module _ {P C : Type 0} {plants : PlantGhosts P} {steadies : SteadyGhosts C} {copies : CopyGhosts C} (x mid : Complex P C plants steadies copies) (m n : Member) (at : ℕ) (what : Ask) (s : Stands) (tried : Result Stands NodeNo) (rest : BetweenTurns x) (waits : Waits x m at what s)
    (tries : Tries (raced_at m.id at what s) x mid m n tried) (y : Complex P C plants steadies copies) (result : Result Stands NodeNo) (ends : EndsTurn m.id at mid y tried result)
    (frame : parts_of mid ≡ played_in (parts_of mid) (parts_of x)) (said : plants.tells → (more : List Line) × (console_now (plants.view y.plant) ≡ console_now (plants.view x.plant) ++ more) × OwnLines m.id at more) where
  abbrev by : MemberId
  by = m.id

  abbrev v : Complex P C plants steadies copies → View
  v c = plants.view c.plant

  -- NOTHING WAS DONE

  same_parts : parts_of y ≡ parts_of x → MayGoBack by x y
  same_parts same cares mine =
      let shown : shown_of y ≡ shown_of x = ap (λ (q : Parts P C). shows copies.reads plants.view q) same in
      let back : (told : Bool) → MayGiveBack by.0 cares (facts_of told (shown_of x)) (facts_of told (shown_of y)) = λ (told : Bool). subst (λ (z : Shown). MayGiveBack by.0 cares (facts_of told (shown_of x)) (facts_of told z)) (sym shown) (may_itself by.0 cares (facts_of told (shown_of x))) in
      record { bare = back false; told = λ t. back true }

  idle_back : IsIdleTurn plants copies (parts_of x) (parts_of mid) m n tried → MayGoBack by x y
  idle_back idle = ⊎_elim
      (λ lost. let e : EndsTurn by at mid y (Err no_node.BothLost) result = subst (λ (t : Result Stands NodeNo). EndsTurn by at mid y t result) lost.0 ends in same_parts (e.0 ∙ idle.frame))
      (λ out.
      let still : unreserved_in (parts_of x) ≡ parts_of x = unreserved_none (parts_of x) (rest.unreserved out.1) (rest.unplaced out.1) in
      let e : EndsTurn by at mid y (Err no_node.NoMemory) result = subst (λ (t : Result Stands NodeNo). EndsTurn by at mid y t result) out.0 ends in
      same_parts (e.0 ∙ ap (λ (q : Parts P C). unreserved_in q) idle.frame ∙ still)) idle.answer

  -- THE LINE WENT ON

  module _ (some : SomeAlive x.pair.first.alive x.pair.second.alive) (unheld : is_held x.book ≡ false) where
    adds : AddsOf (Mine plants copies x.book by at (MayFly tried)) (parts_of x) (parts_of y)
    adds = adds_end x mid m n at what s tried rest waits tries y result ends

    only : OnlyBy by x.book y.book
    only = only_end x mid m n at what s tried rest waits tries y result ends

    acts : EndedActs plants by (parts_of x) (parts_of y) result
    acts = acts_end x mid m n at what s tried rest waits tries y result ends

    base : y.base ≡ x.base
    base = (end_base by at mid y tried result ends).base ∙ ap (λ (q : Parts P C). q.base) frame

    since : y.since ≡ x.since
    since = (end_base by at mid y tried result ends).since ∙ ap (λ (q : Parts P C). q.since) frame

    somebody : is_somebody by ≡ true
    somebody = somebody_of x.base.config by waits.member

    -- WHAT IS KEPT MORE

    abbrev more : List Entry
    more = found_of adds.found x.current ++ kept_all adds.own

    kept : kept_all y.journal.batches ≡ kept_all x.journal.batches ++ more
    kept =
        sym (journal_kept y) ∙ ap kept_all adds.journal ∙ kept_all_append (settle adds.found adds.moment (journal_of (parts_of x))) adds.own
        ∙ ap (λ (es : List Entry). es ++ kept_all adds.own) (kept_settled x adds.found adds.moment)
        ∙ append_assoc (kept_all x.journal.batches) (found_of adds.found x.current) (kept_all adds.own)

    -- an entry is the member's, or of a member that was stopped before; where content is told it resets only such
    abbrev IsBy : Entry → Type 0
    IsBy e = (e.by ≡ by) ⊎ (IsMember x.book e.by × (is_stopped x.book e.by ≡ true))

    abbrev IsTheirs : Entry → Type 0
    IsTheirs e = IsBy e × (plants.tells → ResetsStopped x.book e.command)

    some_of_theirs : (e : Entry) → IsBy e → is_somebody e.by ≡ true
    some_of_theirs e its = ⊎_elim (λ mine. ap is_somebody mine ∙ somebody) (λ down. let pos = down.0.0 in ap not (ne_eqb e.by.0 0 (λ zero_is. omega (arith, pos, zero_is)))) its

    -- what was in flight is of a stopped member
    flying_theirs : (c : Batch) → x.current ≡ Some c → All IsTheirs c.entries
    flying_theirs c is = each_theirs c.entries own (λ t. resets_of t) where
      its : IsMember x.book c.by × (is_stopped x.book c.by ≡ true)
      its = rest.flying some c is

      Own : Batch → Type 0
      Own b = All (λ (e : Entry). e.by ≡ b.by) b.entries

      Resets : Batch → Type 0
      Resets b = All (λ (e : Entry). is_somebody e.by ≡ true → ResetsStopped x.book e.command) b.entries

      own : All (λ (e : Entry). e.by ≡ c.by) c.entries
      own = All-head (λ (b : Batch). All (λ (e : Entry). e.by ≡ b.by) b.entries) c [] (subst (λ (o : Option Batch). All (λ (b : Batch). All (λ (e : Entry). e.by ≡ b.by) b.entries) (in_flight o)) is (all_back (λ (b : Batch). All (λ (e : Entry). e.by ≡ b.by) b.entries) x.journal.batches (in_flight x.current) rest.own))

      resets_of : plants.tells → All (λ (e : Entry). is_somebody e.by ≡ true → ResetsStopped x.book e.command) c.entries
      resets_of t = All-head (λ (b : Batch). All (λ (e : Entry). is_somebody e.by ≡ true → ResetsStopped x.book e.command) b.entries) c []
          (subst (λ (o : Option Batch). All (λ (b : Batch). All (λ (e : Entry). is_somebody e.by ≡ true → ResetsStopped x.book e.command) b.entries) (in_flight o)) is
          (all_back (λ (b : Batch). All (λ (e : Entry). is_somebody e.by ≡ true → ResetsStopped x.book e.command) b.entries) x.journal.batches (in_flight x.current) (rest.resets t)))

      one_by : (e : Entry) → e.by ≡ c.by → IsBy e
      one_by e same = inr (subst (λ (k : MemberId). IsMember x.book k × (is_stopped x.book k ≡ true)) (sym same) its)

      each_theirs : (es : List Entry) → All (λ (e : Entry). e.by ≡ c.by) es → (plants.tells → All (λ (e : Entry). is_somebody e.by ≡ true → ResetsStopped x.book e.command) es) → All IsTheirs es
      each_theirs [] a b = All-nil IsTheirs
      each_theirs (e ∷ es) a b =
          let mine = one_by e (All-head (λ (e : Entry). e.by ≡ c.by) e es a) in
          All-cons IsTheirs e es (mine, λ t. All-head (λ (e : Entry). is_somebody e.by ≡ true → ResetsStopped x.book e.command) e es (b t) (some_of_theirs e mine))
          (each_theirs es (All-tail (λ (e : Entry). e.by ≡ c.by) e es a) (λ t. All-tail (λ (e : Entry). is_somebody e.by ≡ true → ResetsStopped x.book e.command) e es (b t)))

    found_theirs : (f : Fate) (o : Option Batch) → x.current ≡ o → All IsTheirs (found_of f o)
    found_theirs Kept (Some c) is = flying_theirs c is
    found_theirs Kept None is = All-nil IsTheirs
    found_theirs Dropped o is = All-nil IsTheirs
    found_theirs Flying o is = All-nil IsTheirs

    own_theirs : All IsTheirs (kept_all adds.own)
    own_theirs =
        each_kept IsTheirs adds.own
        (All-weaker (Mine plants copies x.book by at (MayFly tried)) (λ (b : Batch). All IsTheirs b.entries)
        (λ b own. All-weaker (IsEntry plants.tells x.book by at) IsTheirs (λ e of. (inl of.0, of.2)) b.entries own.1) adds.own adds.theirs)

    theirs : All IsTheirs more
    theirs = All-append IsTheirs (found_of adds.found x.current) (kept_all adds.own) (found_theirs adds.found x.current refl) own_theirs

    many : length x.book.members ≤ members_most
    many =
        let is : length x.book.members ≡ x.base.config.members = rest.members in
        let few : x.base.config.members ≤ members_most = waits.config.members.1 in
        omega (arith, is, few)

    abbrev IsKeptFor : Bool → Entry → Type 0
    IsKeptFor told e = (e.by.0 ≡ by.0) ⊎ (stopped_of (facts_of told (shown_of y)) e.by.0 ≡ true)

    kept_for : (told : Bool) (e : Entry) → IsBy e → IsKeptFor told e
    kept_for told e its = ⊎_elim
        (λ mine. inl (ap (λ (k : MemberId). k.0) mine))
        (λ down.
        let most = down.0.1 in
        let below = many in
        inr (seat_at (shows_stopped y.book) false 0 9 e.by.0 e.by (omega (arith, most, below)) (omega arith) ∙ shown_down y.book e.by (some_of_theirs e (inr down)) (only.stays e.by down.1))) its

    each_of : (told : Bool) (es : List Entry) → All IsTheirs es → EachOf (IsKeptFor told) es
    each_of told [] all = tt
    each_of told (e ∷ es) all = (kept_for told e (All-head IsTheirs e es all).0, each_of told es (All-tail IsTheirs e es all))

    -- WHAT OTHERS BEGAN

    own_begun : (k : MemberId) → k.0 ≢ by.0 → (bs : List Batch) → All (Mine plants copies x.book by at (MayFly tried)) bs → begun_by k bs ≡ []
    own_begun k ne [] all = refl
    own_begun k ne (b ∷ bs) all =
        let own = All-head (Mine plants copies x.book by at (MayFly tried)) b bs all in
        ap (λ (t : Bool). (if t then b.entries else []) ++ begun_by k bs) (ne_eqb b.by.0 k.0 (λ same. ne (sym same ∙ ap (λ (i : MemberId). i.0) own.0)))
        ∙ own_begun k ne bs (All-tail (Mine plants copies x.book by at (MayFly tried)) b bs all)

    begun : (k : MemberId) → k.0 ≢ by.0 → begun_by k (y.journal.batches ++ in_flight y.current) ≡ begun_by k (x.journal.batches ++ in_flight x.current)
    begun k ne =
        journal_begun y k ∙ ap (begun_by k) adds.journal ∙ begun_append k (settle adds.found adds.moment (journal_of (parts_of x))) adds.own
        ∙ ap (λ (es : List Entry). begun_by k (settle adds.found adds.moment (journal_of (parts_of x))) ++ es) (own_begun k ne adds.own adds.theirs)
        ∙ append-nil (begun_by k (settle adds.found adds.moment (journal_of (parts_of x)))) ∙ settle_begun k adds.found adds.moment (journal_of (parts_of x)) ∙ sym (journal_begun x k)

    -- WHAT WAS SAID

    older : plants.tells → length ((v x).world x.since).console ≤ length (console_now (v x))
    older t =
        ∥∥₁_elim (x.kept t) le_prop
        (λ k.
        let b = k.grows x.since (omega arith) rest.begun in
        let many = ap length b.is ∙ length-append ((v x).world x.since).console b.more in
        omega (arith, many))

    -- its lines are the member's
    its_text : (text : List ℕ) → IsOwnText by at text → speaker x.base.config.members text ≡ by.0
    its_text text own =
        let members = x.base.config.members in
        let named = lines_named members by at in
        let its = named_own x.base.config by waits.member in
        ⊎_elim
        (λ closing. ap (speaker members) closing.1 ∙ named.0 closing.0 ∙ its)
        (λ detail. ap (speaker members) detail.1 ∙ named.1 detail.0 ∙ its) own

    lines_told : plants.tells → (k : MemberId) → k.0 ≢ by.0 → lines_by x.base.config.members k.0 (said_of true (shown_of y)) ≡ lines_by x.base.config.members k.0 (said_of true (shown_of x))
    lines_told t k ne =
        let w = said t in
        let goes : Goes (v x) (v y) = acts.passage.goes in
        let members = x.base.config.members in
        ap (λ (from : ℕ). lines_by members k.0 (whole_texts (drop (length ((v y).world from).console) (console_now (v y))))) since
        ∙ ap (λ (u : World). lines_by members k.0 (whole_texts (drop (length u.console) (console_now (v y))))) (goes.past x.since rest.begun)
        ∙ ap (λ (ls : List Line). lines_by members k.0 (whole_texts (drop (length ((v x).world x.since).console) ls))) w.1
        ∙ lines_kept members k.0 (length ((v x).world x.since).console) (console_now (v x)) w.0 (older t)
        (All-weaker (λ (l : Line). l.whole ≡ true → IsOwnText by at l.text) (λ (l : Line). l.whole ≡ true → speaker members l.text ≢ k.0) (λ l its whole same. ne (sym same ∙ its_text l.text (its whole))) w.0 w.2)

    lines : (told : Bool) → (told ≡ true → plants.tells) → (k : MemberId) → k.0 ≢ by.0 → lines_by x.base.config.members k.0 (said_of told (shown_of y)) ≡ lines_by x.base.config.members k.0 (said_of told (shown_of x))
    lines false tells k ne = refl
    lines true tells k ne = lines_told (tells refl) k ne

    -- WHAT THEIR GROUPS HOLD

    apart : (k : MemberId) → k.0 ≢ by.0 → shows_stopped x.book k ≡ false → (e : Entry) → IsBy e → k.0 ≢ e.by.0
    apart k ne up e its same = ⊎_elim
        (λ mine. ne (same ∙ ap (λ (i : MemberId). i.0) mine))
        (λ down.
        let here : k ≡ e.by = ap (λ (n : ℕ). let i : MemberId = record { 0 = n } in i) same in
        not_both (shows_stopped x.book k) (subst (λ (i : MemberId). shows_stopped x.book i ≡ true) (sym here) (shown_down x.book e.by (some_of_theirs e (inr down)) down.1)) up) its

    passes : plants.tells → (k : MemberId) → k.0 ≢ by.0 → shows_stopped x.book k ≡ false → All (Passes k) more
    passes t k ne up =
        All-weaker IsTheirs (Passes k)
        (λ e its. (
          ne_eqb k.0 e.by.0 (apart k ne up e its.0),
          by_test (resets k e.command) (λ is. absurd (not_both (shows_stopped x.book k) (its.1 t k is) up)) (λ none_so. none_so),
        )) more theirs

    same_numbers : plants.tells → (k : MemberId) → k.0 ≢ by.0 → shows_stopped x.book k ≡ false → groups_from k 0 (run y.base (kept_all y.journal.batches)).owners ≡ groups_from k 0 (run x.base (kept_all x.journal.batches)).owners
    same_numbers t k ne up =
        ap (λ (q : Queue). groups_from k 0 (run q (kept_all y.journal.batches)).owners) base
        ∙ ap (λ (es : List Entry). groups_from k 0 (run x.base es).owners) kept
        ∙ passing_leaves (shown_of x) by more (λ i other_i up_i. passes t i other_i up_i) k ne up

    its_acts : (stand : Stand) → s ≡ line.Acts stand → (on_line stand.state ≡ false) × MayActAfter plants (record (parts_of x) { current = None }) m stand.state
    its_acts stand is =
        let w : MayActNext plants copies (parts_of x) m at stand = subst (λ (q : Stands). WaitsAt plants copies (parts_of x) m at q) is waits.stands in
        (w.goes.off, w.may)

    ended_same : (t : Result Stands NodeNo) → EndsTurn by at mid y t result → plants.tells → (k : ℕ) → disk_now (v y) (Spool k) ≡ disk_now (v mid) (Spool k)
    ended_same (Ok stage) e told k = ap (λ (q : Parts P C). disk_now (plants.view q.plant) (Spool k)) e.0
    ended_same (Err no_node.BothLost) e told k = ap (λ (q : Parts P C). disk_now (plants.view q.plant) (Spool k)) e.0
    ended_same (Err no_node.NoMemory) e told k = ap (λ (q : Parts P C). disk_now (plants.view q.plant) (Spool k)) e.0
    ended_same (Err no_node.ConsoleFault) e told k = ap (λ (q : Parts P C). disk_now (plants.view q.plant) (Spool k)) e.0
    ended_same (Err no_node.Halted) e told k = e.says.acts.disks told (Spool k) ∙ ap (λ (q : Parts P C). disk_now (plants.view q.plant) (Spool k)) e.stopped

    others_kept : plants.tells → OthersKept x.base.config.groups (v x) (v y) by (queue_of (parts_of x))
    others_kept t = then_kept plants copies (parts_of x) (parts_of mid) (parts_of y) by (ended_same tried ends t) (tries_kept plants copies (raced_at m.id at what s) (parts_of x) (parts_of mid) m n tried refl its_acts tries t)

    groups_told : plants.tells → (k : MemberId) → k.0 ≢ by.0 → shows_stopped y.book k ≡ false → SyncedGroups (groups_of true (shown_of y) k) (groups_of true (shown_of x) k)
    groups_told t k ne up =
        let Q : Queue = queue_of (parts_of x) in
        let per = x.base.config.groups in
        let up_x : shows_stopped x.book k ≡ false = by_test (shows_stopped x.book k) (λ down. absurd (not_both (shows_stopped y.book k) (still_shown by x.book y.book only unheld k down) up)) (λ none. none) in
        subst (λ (q : Queue). SyncedGroups (groups_on (disk_now (v y)) q.config.groups k (run y.base (kept_all y.journal.batches)).owners) (groups_of true (shown_of x) k)) (sym base)
        (groups_kept per (v x) (v y) k Q.owners (run y.base (kept_all y.journal.batches)).owners (same_numbers t k ne up_x)
        (All-weaker (λ (g : GroupNo). IsHeldBy k g Q) (λ (g : GroupNo). IsGroupKept per g (spools_at (v x) (v x).now) (spools_at (v y) (v y).now))
        (λ g its. others_kept t g (λ mine. ne (one_owner k by (sym its ∙ mine)))) (groups_from k 0 Q.owners) (its_groups k Q)))

    groups : (told : Bool) → (told ≡ true → plants.tells) → (k : MemberId) → k.0 ≢ by.0 → shows_stopped y.book k ≡ false → SyncedGroups (groups_of told (shown_of y) k) (groups_of told (shown_of x) k)
    groups false tells k ne up = tt
    groups true tells k ne up = groups_told (tells refl) k ne up

    -- THEIR NOTES

    note_of : (had : List (List Page)) (k : ℕ) → noted_by had k ≡ found_at (slice_get had k)
    note_of [] k = refl
    note_of (one ∷ had) zero = refl
    note_of (one ∷ had) (suc k) = note_of had k

    leaves : (told : Bool) → (told ≡ true → plants.tells) → LeavesOthers by told (shown_of x) (shown_of y)
    leaves told tells = record {
      base = base;
      since = since;
      more = more;
      kept = kept;
      theirs = each_of told more theirs;
      begun = begun;
      still_stopped = still_shown by x.book y.book only unheld;
      still_up = still_up by x.book y.book only unheld;
      lines = lines told tells;
      hold = λ k ne up. no_hold_either (has_lock y.book k) (has_lock x.book k) _ _ _ (none_after by x.book y.book only unheld k ne up) (none_before by x.book y.book only unheld k up);
      printed = λ k ne. acts.counts k (λ same. ne (ap (λ (i : MemberId). i.0) same));
      groups = groups told tells;
      noted = λ k ne. note_of (parts_of y).had k.0 ∙ ap found_at (acts.notes k.0 ne) ∙ sym (note_of (parts_of x).had k.0);
      goes = acts.passage.goes;
      alive1 = acts.passage.alive1;
      alive2 = acts.passage.alive2;
      once1 = acts.once.first;
      once2 = acts.once.second;
      volumes = acts.volumes;
      stops = acts.others;
    }

    goes_back : MayGoBack by x y
    goes_back cares mine = record {
      bare = leaves_may by false (shown_of x) (shown_of y) cares mine (leaves false (λ is. absurd (cc)));
      told = λ t. leaves_may by true (shown_of x) (shown_of y) cares mine (leaves true (λ is. t));
    }

  pub back : MayGoBack by x y
  back = ⊎_elim idle_back (λ goes. goes_back goes.0 goes.1) tries
