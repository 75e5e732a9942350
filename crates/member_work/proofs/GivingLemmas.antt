-- Commands of a unit on a member's tables, one after another.
use Rattle.member_work.proofs.Names.{◌≡◌, ℕ, zero, suc, ◌+◌, ◌-◌, ◌<◌, ◌≤◌, ◌==◌, min, ◌⊎◌, take, drop, if◌then◌else◌, Bool, true, false, List, [], ◌∷◌, ◌++◌, length, Some, Result, Ok, Err, ◌∙◌, ⊎_elim, length-append, refl, ap, subst, sym, arith, append-nil, slice_get, Command, Reply, Closing, GroupNo, JobNo, MemberId, OutSpec, Text, Whole, Entry, Queue, groups_of_outputs, outputs_at_end, job_at, groups_needed, free_count, Tables, Tell, TellSound, run, step, IsThere, Spools, IsThereUnless, entry_of, reply_to, are_refused, closing_reply, given_in, takes, AreOf, IsNamedEnd, end_by, All-contains, All-weaker, Thing, held_by, groups_of, sum-groups, test_cases, HoldsOfTexts, OthersLeaveTexts, ToldAreTheirOwn, WasThere, last_reply, IsPart, AreSpooled, drop_groups, ending, taken_end, taking, is_refusal, if_ok, tells_some, eq-eqb, drop-take, take-take, last_push, ended_as, CanGive, GivesAs, GivesAt, HasGiven, IsSoundPlain, LeaveWhere, MayEnd, asked, Asked}
use Rattle.mas_types.specs.declared.commands.Command.TheVariants as command
use Rattle.mas_types.specs.declared.commands.Refusal.TheVariants as refusal
use Rattle.mas_types.specs.declared.commands.Reply.TheVariants as reply
use Rattle.mas_types.specs.declared.answers.Closing.TheVariants as closing
use Rattle.mas_types.specs.declared.queues.Thing.TheVariants as thing
use Rattle.mas_types.specs.Closings.{IsReplyNamed}
use Rattle.queue_laws.proofs.FreeGroups.{free_then}
use Rattle.mas_types.specs.declared.ids.NoMemory.{NoMemory}
use Rattle.member_node.specs.declared.member.Member.{Member}
use Rattle.member_node.proofs.TextLemmas.{texts_after}
use Rattle.member_decks.proofs.OpenLemmas.{gives_none as none_given, gives_then, gives_told}
use Rattle.member_decks.proofs.TakeLemmas.{take_first, take_last, take_none}
use Rattle.job_outcome.specs.declared.units.UnitEnd.{UnitEnd}
use Rattle.job_outcome.specs.declared.units.UnitEnd.TheVariants as ends
use Rattle.job_outcome.specs.Ending.{EndedBringsTexts, IsOfOutput, shares}

-- WHAT A MEMBER HAS

module _ (at : ℕ) (m n o : Member) where
  pub given_then : HasGiven at m n → HasGiven at n o → HasGiven at m o
  given_then one two = record {
    id = two.id ∙ one.id;
    room = two.room ∙ one.room;
    behind = two.behind ∙ one.behind;
    fresh = two.fresh ∙ one.fresh;
    level = two.level ∙ one.level;
    levels = two.levels ∙ one.levels;
    pages = two.pages ∙ one.pages;
    config = two.config ∙ one.config;
    spelling = two.spelling;
    fit = two.fit;
    own = λ of. subst (λ (i : MemberId). AreOf i at o.batch) one.id (two.own (subst (λ (i : MemberId). AreOf i at n.batch) (sym one.id) (one.own of)));
    grows = let a = one.grows in let b = two.grows in omega (arith, a, b);
    still = λ same. let a = one.grows in let b = two.grows in two.still (omega (arith, a, b, same)) ∙ one.still (omega (arith, a, b, same));
    done = λ Q done. two.done Q (one.done Q done);
    sound = λ s. two.sound (one.sound s);
    order = let a = one.order in let b = two.order in omega (arith, a, b);
  }

  pub can_then : HasGiven at m n → CanGive m → CanGive n
  can_then one can = record { some = rw one.id can.some; by = rw one.id can.by; here = one.behind ∙ can.here; member = rw (one.config, one.id) can.member; spelling = one.spelling; fit = one.fit }

pub named_end : (r : Reply) → IsReplyNamed r → IsNamedEnd (end_by r)
named_end (reply.No why) named = named
named_end _ named = tt

-- one entry more
pub one_longer : (es mid : List Entry) (e : Entry) → mid ≡ es ++ e ∷ [] → length mid ≡ length es + 1
one_longer es mid e is = ap length is ∙ length-append es (e ∷ [])

-- COMMANDS AT A QUEUE

-- what was given, by another condition and another answer
pub gives_by : (a : Asked) (holds more : Spools → ℕ → Type 0) (m n : Member) (r s : Result UnitEnd NoMemory) → ((gave all : List Entry) → IsPart r gave all → IsPart s gave all) → ((disks : Spools) (per : ℕ) → more disks per → holds disks per) → GivesAt a holds m n r → GivesAt a more m n s
gives_by a holds more m n r s parts to one = record { gave = one.gave; batch = one.batch; gives = record { part = parts one.gave _ one.gives.part; effect = one.gives.effect; texts = λ gone disks per h has. one.gives.texts gone disks per (to disks per h) has } }

pub gives_so : (at : ℕ) (cs : Queue → List Command) (es fs : Queue → UnitEnd) (holds more : Queue → Spools → ℕ → Type 0) (m n : Member) (r : Result UnitEnd NoMemory) → ((Q : Queue) → es Q ≡ fs Q) → ((Q : Queue) → Tell m.checkpoint.tables Q → (disks : Spools) (per : ℕ) → more Q disks per → holds Q disks per)
    → GivesAs (record { at = at; commands = cs; ends = es }) holds m n r → GivesAs (record { at = at; commands = cs; ends = fs }) more m n r
gives_so at cs es fs holds more m n r ends to g = record {
  has = g.has;
  gives = λ Q told. gives_by (asked Q m.id at (cs Q)) (holds Q) (more Q) m n r r (λ gave all part. part) (to Q told) (g.gives Q told);
  end = if_ok _ (λ e. (Q : Queue) → Tell m.checkpoint.tables Q → e ≡ fs Q) r (λ e is Q told. is Q told ∙ ends Q) g.end;
}

-- nothing was given of some commands
pub gives_none : (Q : Queue) (by : MemberId) (at : ℕ) (cs : List Command) (holds : Spools → ℕ → Type 0) (m n : Member) (e : NoMemory) → 1 ≤ length cs → n ≡ m → Tell m.checkpoint.tables Q → GivesAt {T = UnitEnd} (asked Q by at cs) holds m n (Err e)
gives_none Q by at [] holds m n e some same told = absurd (omega (arith, some))
gives_none Q by at (c ∷ cs) holds m n e some same told = rw same (none_given Q by at (c ∷ cs) holds m (Err e) (given_in Q by at (c ∷ cs), refl, omega arith) told)

-- a command that brings no text
pub leaves_texts : OthersLeaveTexts → ToldAreTheirOwn → (Q : Queue) (by : MemberId) (at : ℕ) (c : Command) (t : Tables) → Tell t Q → LeaveWhere (λ disks per. IsSoundPlain t c) Q (entry_of Q by at c ∷ [])
leaves_texts others own Q by at c t told gone disks per h has = texts_after others gone disks per Q by c h.1 (own t Q h.0 told) has

-- ONE COMMAND, AND WHAT IS GIVEN AFTER IT

module _ (at : ℕ) (c : Command) (first : Queue → Spools → ℕ → Type 0) (m n : Member) (x : UnitEnd) (gives : (Q : Queue) → Tell m.checkpoint.tables Q → GivesAt {E = NoMemory} (asked Q m.id at (c ∷ [])) (first Q) m n (Ok x)) where
  one_batch : (Q : Queue) → Tell m.checkpoint.tables Q → n.batch ≡ m.batch ++ entry_of Q m.id at c ∷ []
  one_batch Q told = let g = gives Q told in g.batch ∙ ap (λ (es : List Entry). m.batch ++ es) g.gives.part

  one_told : (Q : Queue) → Tell m.checkpoint.tables Q → Tell n.checkpoint.tables (step Q m.id c).0
  one_told Q told = gives_told Q m.id at (c ∷ []) (first Q) m n x (gives Q told)

  pub one_more : length n.batch ≡ length m.batch + 1
  one_more = let s = tells_some m.checkpoint.tables in one_longer m.batch n.batch _ (one_batch s.0 s.1)

  pub one_reply : (r : Reply) → r ≡ last_reply n.batch → (Q : Queue) → Tell m.checkpoint.tables Q → reply_to Q m.id c ≡ r
  one_reply r last Q told = sym (last ∙ ap last_reply (one_batch Q told) ∙ last_push m.batch (entry_of Q m.id at c))

  pub then_gives : (cs ds : Queue → List Command) (es fs : Queue → UnitEnd) (holds after : Queue → Spools → ℕ → Type 0) (o : Member) (r : Result UnitEnd NoMemory)
      → ((Q : Queue) → Tell m.checkpoint.tables Q → (cs Q ≡ c ∷ ds (step Q m.id c).0) × (es Q ≡ fs (step Q m.id c).0))
      → ((Q : Queue) → Tell m.checkpoint.tables Q → LeaveWhere (holds Q) Q (entry_of Q m.id at c ∷ []))
      → ((Q : Queue) → Tell m.checkpoint.tables Q → (disks : Spools) (per : ℕ) → holds Q disks per → after (step Q m.id c).0 disks per)
      → HasGiven at m n → GivesAs (record { at = at; commands = ds; ends = fs }) after n o r → GivesAs (record { at = at; commands = cs; ends = es }) holds m o r
  then_gives cs ds es fs holds after o r is leaves to has two = record {
    has = given_then at m n o has two.has;
    gives = λ Q told.
        let one : GivesAt {E = NoMemory} (asked Q m.id at (c ∷ [])) (holds Q) m n (Ok x) = record { gave = entry_of Q m.id at c ∷ []; batch = one_batch Q told; gives = record { part = refl; effect = one_told Q told; texts = leaves Q told } } in
        subst (λ (l : List Command). GivesAt (asked Q m.id at l) (holds Q) m o r) (sym (is Q told).0)
        (gives_then Q m.id at (c ∷ []) (holds Q) (ds (step Q m.id c).0) (after (step Q m.id c).0) m n o x r (to Q told) one (subst (λ (i : MemberId). GivesAt (asked (step Q m.id c).0 i at (ds (step Q m.id c).0)) (after (step Q m.id c).0) n o r) has.id (two.gives (step Q m.id c).0 (one_told Q told))));
    end = if_ok _ (λ e. (Q : Queue) → Tell m.checkpoint.tables Q → e ≡ es Q) r (λ e ends Q told. ends (step Q m.id c).0 (one_told Q told) ∙ sym (is Q told).1) two.end;
  }

-- TAKES

module _ (Q : Queue) (by : MemberId) where
  -- all that was free is taken where fewer are taken than are wanted
  pub none_free : (want n : ℕ) → (step Q by (command.Take want)).1 ≡ reply.Count n → n < want → free_count (step Q by (command.Take want)).0.owners ≡ 0
  none_free want n is less =
      test_cases (free_count Q.owners == 0) (free_count (step Q by (command.Take want)).0.owners ≡ 0)
      (λ e. absurd (let w = rw e at is in cc))
      (λ e. let counted : reply.Count (min want (free_count Q.owners)) ≡ reply.Count n = rw e at is in
      let same : min want (free_count Q.owners) ≡ n = cc in
      let left = free_then by want Q.owners in
      rw e (omega (arith, left, same, less)))

  -- a Take is refused where no group is free
  pub next_full : (want : ℕ) → free_count Q.owners ≡ 0 → (step Q by (command.Take want)).1 ≡ reply.No refusal.SpoolFull
  next_full want none = let e : (free_count Q.owners == 0) ≡ true = eq-eqb (free_count Q.owners) 0 none in rw e refl

  pub next_refused : (want : ℕ) → free_count Q.owners ≡ 0 → (n : ℕ) → (step Q by (command.Take want)).1 ≡ reply.Count n → ⊥
  next_refused want none n is = let both : reply.No refusal.SpoolFull ≡ reply.Count n = sym (next_full want none) ∙ is in absurd (cc)

  -- a Take that is refused doesn't end as done
  pub take_not_done : (want : ℕ) → ((n : ℕ) → (step Q by (command.Take want)).1 ≡ reply.Count n → ⊥) → end_by (reply_to Q by (command.Take want)) ≡ ends.Done → ⊥
  take_not_done want other is =
      test_cases (free_count Q.owners == 0) ⊥
      (λ e. let same : (step Q by (command.Take want)).1 ≡ reply.No refusal.SpoolFull = rw e refl in let both : end_by (reply.No refusal.SpoolFull) ≡ ends.Done = ap end_by (sym same) ∙ is in cc)
      (λ e. other (min want (free_count Q.owners)) (rw e refl))

  -- Drop after them, and how the unit ends
  taking_by : (at needed : ℕ) (cs : List Command) (b : Bool) → (takes needed Q by needed ≡ cs) × (are_refused needed Q by needed ≡ b)
      → (taking Q by needed ≡ cs ++ (if b then drop_groups ∷ [] else [])) × (taken_end Q by at needed ≡ (if b then end_by (closing_reply (given_in Q by at (cs ++ (if b then drop_groups ∷ [] else [])))) else ends.Done))
  taking_by at needed cs b both =
      let all : taking Q by needed ≡ cs ++ (if b then drop_groups ∷ [] else []) = ap (λ (ds : List Command). ds ++ (if are_refused needed Q by needed then drop_groups ∷ [] else [])) both.0 ∙ ap (λ (a : Bool). cs ++ (if a then drop_groups ∷ [] else [])) both.1 in
      (all, ap (λ (a : Bool). if a then end_by (closing_reply (given_in Q by at (taking Q by needed))) else ends.Done) both.1 ∙ ap (λ (ds : List Command). if b then end_by (closing_reply (given_in Q by at ds)) else ends.Done) all)

-- The first Take is refused; or it takes all groups that are needed; or some of them, and the next one is refused: the
-- commands that are given, and how the unit ends.
module _ (Q : Queue) (by : MemberId) (at needed : ℕ) (some : 1 ≤ needed) where
  abbrev Takes : List Command → UnitEnd → Type 0
  Takes cs e = (taking Q by needed ≡ cs) × (taken_end Q by at needed ≡ e)

  pub taken_none : ((n : ℕ) → (step Q by (command.Take needed)).1 ≡ reply.Count n → ⊥) → Takes (command.Take needed ∷ drop_groups ∷ []) (end_by (reply_to Q by (command.Take needed)))
  taken_none other = taking_by Q by at needed (command.Take needed ∷ []) true (take_last Q by needed needed some some other)

  -- all of them
  pub all_of : (step Q by (command.Take needed)).1 ≡ reply.Count needed → (takes needed Q by needed ≡ command.Take needed ∷ []) × (are_refused needed Q by needed ≡ false)
  all_of got =
      let first = take_first Q by needed needed needed some (omega arith) got in
      let none = take_none (step Q by (command.Take needed)).0 by first.0 (needed - needed) (omega arith) in
      (first.2 ∙ ap (λ (cs : List Command). command.Take needed ∷ cs) none.0, first.3 ∙ none.1)

  pub taken_all : (step Q by (command.Take needed)).1 ≡ reply.Count needed → Takes (command.Take needed ∷ []) ends.Done
  taken_all got = taking_by Q by at needed (command.Take needed ∷ []) false (all_of got)

  module _ (n : ℕ) (got : (step Q by (command.Take needed)).1 ≡ reply.Count n) (less : n < needed) where
    abbrev Q1 : Queue
    Q1 = (step Q by (command.Take needed)).0

    abbrev second : Command
    second = command.Take (needed - n)

    both_of : (takes needed Q by needed ≡ command.Take needed ∷ second ∷ []) × (are_refused needed Q by needed ≡ true)
    both_of =
        let first = take_first Q by needed needed n some (omega arith) got in
        let last = take_last Q1 by first.0 (needed - n) (omega (arith, first.1, less)) (omega (arith, less)) (next_refused Q1 by (needed - n) (none_free Q by needed n got less)) in
        (first.2 ∙ ap (λ (cs : List Command). command.Take needed ∷ cs) last.0, first.3 ∙ last.1)

    pub taken_some : Takes (command.Take needed ∷ ended_as (reply_to Q1 by second) second) (end_by (reply_to Q1 by second))
    taken_some =
        let both = taking_by Q by at needed (command.Take needed ∷ second ∷ []) true both_of in
        (both.0 ∙ ap (λ (r : Reply). command.Take needed ∷ ended_as r second) (sym (next_full Q1 by (needed - n) (none_free Q by needed n got less))), both.1)

pub taking_long : (Q : Queue) (by : MemberId) (needed : ℕ) → 1 ≤ needed → 1 ≤ length (taking Q by needed)
taking_long Q by zero some = absurd (omega (arith, some))
taking_long Q by (suc needed) some = omega arith

-- ENDED

pub ended_refused : (r : Reply) (c : Command) (why : Closing) → end_by r ≡ ends.Refused why → ended_as r c ≡ c ∷ drop_groups ∷ []
ended_refused (reply.No reason) c why is = refl
ended_refused _ c why is = absurd (cc)

pub ended_taken : (r : Reply) (c : Command) → ((why : Closing) → end_by r ≡ ends.Refused why → ⊥) → ended_as r c ≡ c ∷ []
ended_taken (reply.No reason) c never = absurd (never (closing.Reply (reply.No reason)) refl)
ended_taken _ c never = refl

pub end_ending : (Q : Queue) (by : MemberId) (at : ℕ) (n : JobNo) (specs : List OutSpec) → end_by (closing_reply (given_in Q by at (ending Q by n specs))) ≡ end_by (reply_to Q by (command.Ended n specs))
end_ending Q by at n specs = by_reply (is_refusal (reply_to Q by (command.Ended n specs))) where
  by_reply : (b : Bool) → end_by (closing_reply (given_in Q by at (command.Ended n specs ∷ (if b then drop_groups ∷ [] else [])))) ≡ end_by (reply_to Q by (command.Ended n specs))
  by_reply true = refl
  by_reply false = refl

-- shares of the groups that all outputs need
share_there : (disks : Spools) (per : ℕ) (specs : List OutSpec) (groups : List GroupNo) (k : ℕ) (spec : OutSpec) (its : List GroupNo) → slice_get specs k ≡ Some spec → slice_get (shares specs groups) k ≡ Some its
    → AreSpooled disks per specs (take (groups_of_outputs specs) groups) → IsThere disks per (Whole spec.text) its
share_there disks per [] groups k spec its here there are = absurd (cc)
share_there disks per (s ∷ specs) groups zero spec its here there are =
    let same : s ≡ spec = cc in
    let share : take (groups_needed s.text) groups ≡ its = cc in
    let first : take (groups_needed s.text) (take (groups_of_outputs (s ∷ specs)) groups) ≡ take (groups_needed s.text) groups =
    take-take (groups_needed s.text) (groups_of_outputs (s ∷ specs)) groups (let sum = sum-groups s specs in omega (arith, sum)) in
    subst (λ (x : OutSpec). IsThere disks per (Whole x.text) its) same (subst (IsThere disks per (Whole s.text)) (first ∙ share) are.0)
share_there disks per (s ∷ specs) groups (suc k) spec its here there are =
    let all : groups_of_outputs (s ∷ specs) ≡ groups_needed s.text + groups_of_outputs specs = let sum = sum-groups s specs in omega (arith, sum) in
    let rest : drop (groups_needed s.text) (take (groups_of_outputs (s ∷ specs)) groups) ≡ take (groups_of_outputs specs) (drop (groups_needed s.text) groups) =
    ap (λ (k : ℕ). drop (groups_needed s.text) (take k groups)) all ∙ drop-take (groups_needed s.text) (groups_of_outputs specs) groups in
    share_there disks per specs (drop (groups_needed s.text) groups) k spec its here there (subst (AreSpooled disks per specs) rest are.1)

module _ (P : Thing → Text → List GroupNo → Type 0) (Q : Queue) (h : HoldsOfTexts P Q) where
  was_holds : (t : Thing) (text : Text) (groups : List GroupNo) → WasThere Q t text groups → P t text groups
  was_holds (thing.Deck n) text groups w = rw (← w.where_it_was, ← w.same, ← w.number) (All-contains (λ j. P (thing.Deck j.number) j.text (groups_of (thing.Deck j.number) Q.owners)) Q.jobs w.job h.decks w.there)
  was_holds (thing.Output n i) text groups w = rw (← w.where_it_was, ← w.same, ← w.number, ← w.index_is) (All-contains (λ o. P (thing.Output o.job o.index) o.text (groups_of (thing.Output o.job o.index) Q.owners)) Q.outputs w.output h.outputs w.there)

  -- what holds of each text and of the outputs' texts holds of all that are left
  module _ (n : JobNo) (specs : List OutSpec) (groups : List GroupNo) (new : (t : Thing) (text : Text) (its : List GroupNo) → IsOfOutput n specs groups t text its → P t text its) where
    abbrev Is : Thing → Text → List GroupNo → Type 0
    Is t text its = IsOfOutput n specs groups t text its ⊎ WasThere Q t text its

    either : (t : Thing) (text : Text) (its : List GroupNo) → Is t text its → P t text its
    either t text its is = ⊎_elim (λ o. new t text its o) (λ w. was_holds t text its w) is

    ended_holds : (R : Queue) → HoldsOfTexts Is R → HoldsOfTexts P R
    ended_holds R b = record {
      decks = All-weaker (λ j. Is (thing.Deck j.number) j.text (groups_of (thing.Deck j.number) R.owners)) (λ j. P (thing.Deck j.number) j.text (groups_of (thing.Deck j.number) R.owners))
          (λ j is. either (thing.Deck j.number) j.text (groups_of (thing.Deck j.number) R.owners) is) R.jobs b.decks;
      outputs = All-weaker (λ o. Is (thing.Output o.job o.index) o.text (groups_of (thing.Output o.job o.index) R.owners)) (λ o. P (thing.Output o.job o.index) o.text (groups_of (thing.Output o.job o.index) R.owners))
          (λ o is. either (thing.Output o.job o.index) o.text (groups_of (thing.Output o.job o.index) R.owners) is) R.outputs b.outputs;
    }

pub ended_leaves : EndedBringsTexts → ToldAreTheirOwn → (t : Tables) (Q : Queue) (by : MemberId) (at : ℕ) (n : JobNo) (specs : List OutSpec) → Tell t Q → LeaveWhere (λ disks per. TellSound t × MayEnd Q by n specs disks per) Q (entry_of Q by at (command.Ended n specs) ∷ [])
ended_leaves law own t Q by at n specs told gone disks per h has =
    let given = outputs_at_end (job_at Q n) specs in
    let groups = held_by by Q.owners in
    let after = ended_holds (λ thing text its. IsThereUnless gone disks per text its) Q (record { decks = has.decks; outputs = has.outputs }) n given groups
    (λ thing text its o none. subst (λ (x : Text). IsThere disks per x its) (sym o.whole) (share_there disks per given groups o.place o.spec its o.is o.there h.1.spooled))
    (step Q by (command.Ended n specs)).0 (law Q by n specs (own t Q h.0 told) h.1.under_way.none) in
    record { decks = after.decks; outputs = after.outputs }
