-- The members of a run that is open can begin, once the operator has refused lines of members that are none.
use Rattle.std.proofs.Common.{◌≡◌, ◌∙◌, ◌+◌, ◌-◌, ◌<◌, ◌≤◌, ◌==◌, ◌&&◌, not, nat_le, ℕ, zero, suc, Bool, true, false, if◌then◌else◌, List, [], ◌∷◌, ◌++◌, length, map, take, drop, replicate, All, append-nil, Option, None, Ok, slice_index_or, refl, sym, ap, subst, arith}
use Rattle.std.proofs.lemmas.Bool.{le-leb, ne_eqb}
use Rattle.std.proofs.lemmas.List.{drop_all, take_all}
use Rattle.std.proofs.lemmas.List.Elements.{All-cons, All-head, All-nil, All-tail, All-weaker}
use Rattle.mas_types.specs.declared.ids.Dev.{Dev}
use Rattle.mas_types.specs.declared.ids.MemberId.{MemberId}
use Rattle.mas_types.specs.declared.journals.Batch.{Batch}
use Rattle.mas_types.specs.declared.journals.Entry.{Entry}
use Rattle.mas_types.specs.declared.queues.Config.{Config}
use Rattle.mas_types.specs.declared.queues.Owner.{Owner}
use Rattle.mas_types.specs.Fit.{IsConfig}
use Rattle.mas_types.specs.Ids.{is_somebody, nobody, same_member}
use Rattle.mas_types.specs.Journal.{is_flying, is_kept}
use Rattle.mas_types.specs.Limits.{steps_most}
use Rattle.mas_types.specs.Queue.{is_member}
use Rattle.mas_types.specs.Sound.{IsSound}
use Rattle.lock_cycle.specs.Books.{Book, beginner, is_stopped, new_book}
use Rattle.queue_laws.proofs.RunLaws.{runs_keep_configuration}
use Rattle.run_opening.proofs.QuietLemmas.{quiet_on}
use Rattle.script_input.specs.Played.{IsPlayed, MayBeRaced}
use Rattle.script_lang.specs.declared.types.Step.{Step}
use Rattle.spool_plant.specs.declared.plant.Plant.{Ghosts as PlantGhosts}
use Rattle.spool_plant.specs.View.{Disk, View, disk_now}
use Rattle.ckpt_copy.specs.Moments.{goes_none}
use Rattle.ckpt_copy.specs.declared.copying.Copying.{Ghosts as CopyGhosts}
use Rattle.ckpt_form.specs.declared.steady.Steady.{Ghosts as SteadyGhosts}
use Rattle.ckpt_tables.specs.Shape.{page_count}
use Rattle.mas_complex.specs.declared.complex.Complex.{Complex}
use Rattle.mas_complex.specs.Headline.{whole}
use Rattle.mas_complex.specs.Journals.{AreSettled, coming, end_of, has_step, in_flight, kept_all}
use Rattle.mas_complex.specs.Meaning.{Closes, run}
use Rattle.mas_complex.specs.Parts.{Parts, Shown, parts_of, shows}
use Rattle.mas_complex.specs.Past.{noted_by}
use Rattle.mas_complex.specs.Renewals.{no_renewals}
use Rattle.gate_facts.specs.declared.desks.Desk.{Desk}
use Rattle.gate_facts.specs.Memory.{EachOf}
use Rattle.gate_facts.specs.Values.{no_desk}
use Rattle.gate_facts.specs.Ways.{EachWay}
use Rattle.gate_turns.specs.Actors.{ResetsStopped}
use Rattle.gate_turns.specs.Desks.{group_on, groups_from, groups_on, no_hold, whole_hold}
use Rattle.gate_turns.specs.Seats.{has_lock, shows_stopped}
use Rattle.gate_turns.specs.Shared.{begun_by, desk_in, facts_of, groups_of, pages_had, said_of as texts_of, said_since}
use Rattle.gate_turns.specs.Told.{told_by}
use Rattle.gate_turns.specs.Words.{lines_by}
use Rattle.gate_turns.proofs.Seats.{each_seat}
use Rattle.member_gate.specs.Views.{MayBegin as MayOpen}
use Rattle.member_node.specs.declared.member.Member.{Member}
use Rattle.member_node.specs.Calls.{console_now}
use Rattle.member_sittings.specs.Sat.{journal_of}
use Rattle.member_sittings.specs.Whole.{HasUntold}
use Rattle.member_racing.specs.Quiet.{IsQuiet}
use Rattle.member_racing.specs.Standing.{StandsIn}
use Rattle.run_turns.specs.Scenes.{scene_of}
use Rattle.mas_race.specs.Beginnings.{Began, ComesFrom}
use Rattle.mas_race.specs.Between.{IsBetweenTurns}
use Rattle.member_racing.specs.Waits.{IsAtEase, given_by}
use Rattle.member_racing.proofs.Members.{named_own}
use Rattle.member_racing.proofs.RestLemmas.{rest_quiet}
use Rattle.member_racing.proofs.Unsaid.{none_tells}
use Rattle.run_opening.specs.Fresh.{AreFresh, AreFreshFrom, IsFresh}
use Rattle.run_opening.specs.Shows.{BetweenLines, Shows}
use Rattle.race_turns.specs.Races.{lines_of}
use Rattle.race_ends.specs.Before.{refused_lines}
use Rattle.race_ends.specs.Prepared.{HasPrepared, MayPrepare}
use Rattle.race_run.specs.Racing.{AreAsked, MayBegin}
use Rattle.race_run.specs.Values.{AreNew, CanBegin, IsOperators, IsUntouched, MayAllBegin}
use Rattle.race_run.proofs.AskedLemmas.{are_asked}
use Rattle.race_ends.proofs.SpokenLemmas.{refused_none, said_then}

-- A NEW BOOK: nobody holds in it, and nobody is stopped

beginner_up : (n i hold : ℕ) → (slice_index_or (replicate n (beginner hold)) i (beginner 0)).stopped ≡ false
beginner_up zero i hold = refl
beginner_up (suc n) zero hold = refl
beginner_up (suc n) (suc i) hold = beginner_up n i hold

nobody_stopped : (b : Book) (count hold dormancy : ℕ) → b ≡ new_book count hold dormancy → (m : MemberId) → is_stopped b m ≡ false
nobody_stopped b count hold dormancy is m = ap (λ (k : Book). is_stopped k m) is ∙ beginner_up count (m.0 - 1) hold

not_seen : (t : Bool) → (t && false) ≡ false
not_seen true = refl
not_seen false = refl

same_none : (n : ℕ) → (not (n == 0) && (0 == n)) ≡ false
same_none zero = refl
same_none (suc n) = ap (λ (t : Bool). not (suc n == 0) && t) (ne_eqb 0 (suc n) (λ e. absurd (omega (arith, e)))) ∙ not_seen (not (suc n == 0))

nobody_holds : (b : Book) (count hold dormancy : ℕ) → b ≡ new_book count hold dormancy → (m : MemberId) → has_lock b m ≡ false
nobody_holds b count hold dormancy is m = ap (λ (k : Book). has_lock k m) is ∙ same_none m.0

-- WHAT THE OPERATOR GAVE

none_there : (m : MemberId) → 0 < m.0 → (b : Batch) → IsOperators b → (if same_member b.by m then b.entries else []) ≡ []
none_there m some b of =
    ap (λ (k : MemberId). if same_member k m then b.entries else []) of.by
    ∙ ap (λ (t : Bool). if t then b.entries else []) (ne_eqb 0 m.0 (λ e. absurd (omega (arith, e, some))))

none_begun : (m : MemberId) → 0 < m.0 → (bs : List Batch) → All IsOperators bs → begun_by m bs ≡ []
none_begun m some [] all = refl
none_begun m some (b ∷ bs) all =
    ap (λ (es : List Entry). es ++ begun_by m bs) (none_there m some b (All-head IsOperators b bs all)) ∙ none_begun m some bs (All-tail IsOperators b bs all)

each_append : (P : Entry → Type 0) (es fs : List Entry) → EachOf P es → EachOf P fs → EachOf P (es ++ fs)
each_append P [] fs one two = two
each_append P (e ∷ es) fs one two = (one.0, each_append P es fs one.1 two)

each_operator : (es : List Entry) → All (λ (e : Entry). e.by ≡ nobody) es → EachOf (λ (e : Entry). e.by.0 ≡ 0) es
each_operator [] all = tt
each_operator (e ∷ es) all = (
  ap (λ (m : MemberId). m.0) (All-head (λ (e : Entry). e.by ≡ nobody) e es all),
  each_operator es (All-tail (λ (e : Entry). e.by ≡ nobody) e es all),
)

kept_operator : (bs : List Batch) → All IsOperators bs → EachOf (λ (e : Entry). e.by.0 ≡ 0) (kept_all bs)
kept_operator [] all = tt
kept_operator (b ∷ bs) all =
    let of : IsOperators b = All-head IsOperators b bs all in
    subst (λ (t : Bool). EachOf (λ (e : Entry). e.by.0 ≡ 0) ((if t then b.entries else []) ++ kept_all bs)) (sym of.kept)
    (each_append (λ (e : Entry). e.by.0 ≡ 0) b.entries (kept_all bs) (each_operator b.entries of.entries) (kept_operator bs (All-tail IsOperators b bs all)))

none_flies : (bs : List Batch) (now : ℕ) → AreSettled bs now → All (λ (b : Batch). is_flying b.fate ≡ false) bs
none_flies [] now are = All-nil (λ (b : Batch). is_flying b.fate ≡ false)
none_flies (b ∷ bs) now are = All-cons (λ (b : Batch). is_flying b.fate ≡ false) b bs are.0 (none_flies bs now are.3)

not_somebody : (m : MemberId) → m ≡ nobody → is_somebody m ≡ true → ⊥
not_somebody m is some = let bad : true ≡ false = sym some ∙ ap is_somebody is in cc

-- A DESK with nothing on it

no_groups : (disks : Dev → Disk) (per : ℕ) (m : MemberId) (owners : List Owner) → groups_from m 0 owners ≡ [] → groups_on disks per m owners ≡ []
unfolding groups_on
no_groups disks per m owners none = ap (map (group_on disks per)) none

none_told : (m : MemberId) (lines : List (List ℕ)) → lines ≡ [] → told_by m lines ≡ 0
unfolding told_by
none_told m lines none = ap (told_by m) none

desk_is : (d : Desk) → d.hold ≡ no_hold → d.printed ≡ 0 → d.told ≡ 0 → d.groups ≡ [] → d.noted ≡ [] → d ≡ no_desk
desk_is d hold printed told groups noted i = record {
  hold = hold i;
  printed = printed i;
  told = told i;
  groups = groups i;
  noted = noted i;
}

-- BEFORE ITS LINES the operator may act
module _ {P C : Type 0} {plants : PlantGhosts P} {steadies : SteadyGhosts C} {copies : CopyGhosts C} (x : Complex P C plants steadies copies)
    (ms : List Member) (between : BetweenLines x ms 1) (shown : Shows (Unit {0}) (scene_of (run x.base (kept_all x.journal.batches))) x) where
  same_config : (run x.base (kept_all x.journal.batches)).config ≡ x.base.config
  same_config = (runs_keep_configuration x.base (kept_all x.journal.batches)).config

  book_is : x.book ≡ new_book x.base.config.members x.base.config.hold x.base.config.dormancy
  book_is = shown.book ∙ ap (λ (c : Config). new_book c.members c.hold c.dormancy) same_config

  up : (m : MemberId) → is_stopped x.book m ≡ false
  up = nobody_stopped x.book x.base.config.members x.base.config.hold x.base.config.dormancy book_is

  pub nothing_flies : x.current ≡ None
  nothing_flies = shown.flight

  pub nothing_placed : x.placed ≡ false
  nothing_placed = subst (λ (o : Option Batch). StandsIn x.journal.batches x.placed x.book o) nothing_flies between.stands

  pub may_prepare : MayPrepare x
  may_prepare = record { members = between.booked; up = up; earlier = between.earlier }

module _ {P C : Type 0} {plants : PlantGhosts P} {steadies : SteadyGhosts C} {copies : CopyGhosts C} (x y : Complex P C plants steadies copies)
    (ms : List Member) (steps : List Step) (between : BetweenLines x ms 1) (fresh : AreFresh x.base.config ms)
    (shown : Shows (Unit {0}) (scene_of (run x.base (kept_all x.journal.batches))) x) (untouched : IsUntouched x) (unrenewed : x.renewals ≡ no_renewals)
    (frame : parts_of y ≡ record (parts_of x) { plant = y.plant }) (done : HasPrepared plants 1 steps (parts_of x) (parts_of y) (Ok tt)) where
  abbrev p : Parts P C
  p = parts_of x

  abbrev q : Parts P C
  q = record (parts_of x) { plant = y.plant }

  abbrev v : View
  v = plants.view x.plant

  abbrev w : View
  w = plants.view y.plant

  abbrev members : ℕ
  members = x.base.config.members

  is_book : x.book ≡ new_book members x.base.config.hold x.base.config.dormancy
  is_book = book_is x ms between shown

  is_up : (m : MemberId) → is_stopped x.book m ≡ false
  is_up = up x ms between shown

  free : x.book.holder ≡ nobody
  free = ap (λ (b : Book). b.holder) is_book

  none : x.current ≡ None
  none = nothing_flies x ms between shown

  unplaced : x.placed ≡ false
  unplaced = nothing_placed x ms between shown

  config : IsConfig x.base.config
  config = between.config

  -- THE VALUE, once the operator refused lines and armed stops

  quiet : IsQuiet plants copies p (page_count x.base.config)
  quiet = between.quiet (ap (λ (m : MemberId). is_somebody m && is_stopped x.book m) free)

  quiet_then : IsQuiet plants copies q (page_count x.base.config)
  quiet_then = quiet_on plants copies p y.plant p.first_alive p.second_alive p.first_found p.second_found done.goes (λ on. on) (λ on. on) (λ t d. ap (λ (k : Disk). k.bytes) (done.disks t d)) (page_count x.base.config) quiet

  rest : IsBetweenTurns plants copies q
  rest = rest_quiet plants copies q quiet_then between.booked
      (let held = between.held in let booked = between.booked in omega (arith, held, booked))
      (ap (λ (b : Book). b.hold) is_book)
      (All-weaker IsOperators (λ (b : Batch). All (λ (e : Entry). e.by ≡ b.by) b.entries)
      (λ b of. All-weaker (λ (e : Entry). e.by ≡ nobody) (λ (e : Entry). e.by ≡ b.by) (λ e is. is ∙ sym of.by) b.entries of.entries) x.journal.batches untouched.operator)
      (All-weaker IsOperators (λ (b : Batch). is_kept b.fate ≡ false → 0 < length b.entries → is_stopped x.book b.by ≡ true)
      (λ b of dropped more. absurd (let bad : true ≡ false = sym of.kept ∙ dropped in cc)) x.journal.batches untouched.operator)
      (λ t. All-weaker IsOperators (λ (b : Batch). All (λ (e : Entry). is_somebody e.by ≡ true → ResetsStopped x.book e.command) b.entries)
      (λ b of. All-weaker (λ (e : Entry). e.by ≡ nobody) (λ (e : Entry). is_somebody e.by ≡ true → ResetsStopped x.book e.command) (λ e is some. absurd (not_somebody e.by is some)) b.entries of.entries) x.journal.batches untouched.operator)

  -- what the race begins with
  abbrev began_in : Parts P C → Began
  began_in z = record { view = plants.view z.plant; batches = z.batches; first_alive = z.first_alive; second_alive = z.second_alive }

  journal_is : journal_of q ≡ x.journal.batches
  journal_is = ap (λ (o : Option Batch). end_of x.placed o x.journal.batches) none ∙ ap (λ (t : Bool). end_of t None x.journal.batches) unplaced

  comes : ComesFrom plants (began_in q) q
  comes = record {
    goes = goes_none w;
    lost1 = λ was is failed called. absurd (let bad : true ≡ false = sym was ∙ is in cc);
    lost2 = λ was is failed called. absurd (let bad : true ≡ false = sym was ∙ is in cc);
    there1 = λ is there. there;
    there2 = λ is there. there;
    alive1 = λ is. is;
    alive2 = λ is. is;
    grow = λ d same rose. same refl;
    volumes = λ t n. refl;
    renewals = unrenewed;
    settled = none_flies x.journal.batches v.now quiet.kept;
    opening = ap (take (length x.journal.batches)) journal_is ∙ take_all (length x.journal.batches) x.journal.batches (omega arith);
    members = subst (All (λ (b : Batch). is_somebody b.by ≡ true)) (sym (ap (drop (length x.journal.batches)) journal_is ∙ drop_all (length x.journal.batches) x.journal.batches (omega arith)))
        (All-nil (λ (b : Batch). is_somebody b.by ≡ true));
    stopped = λ m some is. absurd (let bad : true ≡ false = sym is ∙ is_up m in cc);
  }

  -- WHAT IT TELLS

  abbrev shown_in : Parts P C → Shown
  shown_in z = shows copies.reads plants.view z

  given : (m : MemberId) → 0 < m.0 → begun_by m (x.journal.batches ++ in_flight x.current) ≡ []
  given m some = ap (λ (o : Option Batch). begun_by m (x.journal.batches ++ in_flight o)) none ∙ ap (begun_by m) (append-nil x.journal.batches)
      ∙ none_begun m some x.journal.batches untouched.operator

  said : plants.tells → said_since x.since w ≡ refused_lines members 1 steps
  said t =
      said_then x.since v w (refused_lines members 1 steps) quiet.begun done.goes (untouched.unsaid t)
      (done.console t ∙ ap (λ (ss : List Step). console_now v ++ map whole (refused_lines members 1 ss)) (ap (λ (n : ℕ). take n steps) (done.all refl) ∙ take_all (length steps) steps (omega arith)))

  said_by : plants.tells → (m : ℕ) → 0 < m → lines_by members m (said_since x.since w) ≡ []
  said_by t m some = ap (lines_by members m) (said t) ∙ refused_none members m some 1 steps

  module _ (told : Bool) (tells : told ≡ true → plants.tells) where
    texts_by : (b : Bool) → (b ≡ true → plants.tells) → (m : ℕ) → 0 < m → lines_by members m (texts_of b (shown_in q)) ≡ []
    texts_by true t m some = said_by (t refl) m some
    texts_by false t m some = refl

    groups_by : (b : Bool) → (b ≡ true → plants.tells) → (m : MemberId) → 0 < m.0 → groups_of b (shown_in q) m ≡ []
    groups_by true t m some = no_groups (disk_now w) x.base.config.groups m (run x.base (kept_all x.journal.batches)).owners (untouched.ungrouped (t refl) m some)
    groups_by false t m some = refl

    noted_in : (b : Bool) (m : ℕ) → 0 < m → (if b then noted_by p.had m else []) ≡ []
    noted_in true m some = untouched.unnoted m some
    noted_in false m some = refl

    desk_new : (m : MemberId) → 0 < m.0 → desk_in told (shown_in q) m ≡ no_desk
    desk_new m some = desk_is (desk_in told (shown_in q) m)
        (ap (λ (t : Bool). if t then whole_hold (pages_had told (shown_in q)) (coming x.current x.reserved) x.first x.second else no_hold) (nobody_holds x.book members x.base.config.hold x.base.config.dormancy is_book m))
        (shown.counts tt m (sym (ap (λ (b : Book). is_stopped b m) shown.book) ∙ is_up m)) (none_told m _ (texts_by told tells m.0 some)) (groups_by told tells m some) (noted_in told m.0 some)

    opens : MayOpen (facts_of told (shown_in q))
    opens = record {
      kept = kept_operator x.journal.batches untouched.operator;
      stopped = λ m. each_seat (λ (a b : Bool). a ≡ false) (shows_stopped x.book) (shows_stopped x.book) false refl 0 9 m (λ k is few. ap (λ (t : Bool). is_somebody k && t) (is_up k) ∙ not_seen (is_somebody k));
      desks = λ m some. each_seat (λ (a b : Desk). a ≡ no_desk) (desk_in told (shown_in q)) (desk_in told (shown_in q)) no_desk refl 0 9 m (λ k is few. desk_new k (omega (arith, is, some)));
    }

  new_in : plants.tells → AreNew (facts_of true (shown_in q))
  new_in t m some = (
    each_seat (λ (a b : List Entry). a ≡ []) (λ (k : MemberId). begun_by k (x.journal.batches ++ in_flight x.current)) (λ (k : MemberId). begun_by k (x.journal.batches ++ in_flight x.current)) [] refl 0 9 m
        (λ k is few. given k (omega (arith, is, some))),
    each_seat (λ (a b : List (List ℕ)). a ≡ []) (λ (k : MemberId). lines_by members k.0 (said_since x.since w)) (λ (k : MemberId). lines_by members k.0 (said_since x.since w)) [] refl 0 9 m
        (λ k is few. said_by t k.0 (omega (arith, is, some))),
  )

  -- EACH MEMBER

  to_y : (T : Parts P C → Type 0) → T q → T (parts_of y)
  to_y T is = subst T (sym frame) is

  module _ (m : Member) (at : ℕ) (some : 1 ≤ at) (few : at ≤ members) (is : IsFresh x.base.config at m) where
    number : m.id.0 ≡ at
    number = ap (λ (k : MemberId). k.0) is.id

    member : is_member x.base.config m.id ≡ true
    member =
        let n = number in
        let one : is_somebody m.id ≡ true = ap not (ne_eqb m.id.0 0 (λ e. absurd (omega (arith, e, n, some)))) in
        ap (λ (t : Bool). t && nat_le m.id.0 members) one ∙ le-leb m.id.0 members (omega (arith, n, few))

    ease : IsAtEase plants copies q m
    ease = record {
      idle = is.idle;
      many = is.many;
      tables = sym is.config;
      noted = λ t read. absurd (let bad : true ≡ false = sym is.fresh ∙ read in cc);
    }

    untold : (later : ℕ) → HasUntold plants copies q m.id later
    untold later t es of =
        let n = number in
        none_tells members m.id (named_own x.base.config m.id member) later es of (drop (length (w.world x.since).console) (w.world w.now).console)
        (subst (All (λ (text : List ℕ). (s : ℕ) → Closes text m.id s → has_step m.id s es ≡ false)) (sym (said_by t m.id.0 (omega (arith, n, some))))
        (All-nil (λ (text : List ℕ). (s : ℕ) → Closes text m.id s → has_step m.id s es ≡ false)))

    begins : MayBegin y m 1
    begins = record {
      config = to_y (λ z. IsConfig z.base.config) config;
      sound = λ t. to_y (λ z. IsSound z.base) between.sound;
      member = to_y (λ z. is_member z.base.config m.id ≡ true) member;
      ease = λ awake. to_y (λ z. IsAtEase plants copies z m) ease;
      given = to_y (λ z. All (λ (e : Entry). e.step < 1) (given_by plants copies z m.id))
          (subst (All (λ (e : Entry). e.step < 1)) (sym (given m.id (let n = number in omega (arith, n, some)))) (All-nil (λ (e : Entry). e.step < 1)));
      untold = λ later from most. to_y (λ z. HasUntold plants copies z m.id later) (untold later);
    }

    asks : length steps ≤ steps_most → All IsPlayed steps → All MayBeRaced steps → AreAsked y.base m.id (lines_of m.id 1 steps)
    asks most played raced = to_y (λ z. AreAsked z.base m.id (lines_of m.id 1 steps)) (are_asked x.base m.id config member 1 steps (omega arith) (omega (arith, most)) played raced)

  module _ (most : length steps ≤ steps_most) (played : All IsPlayed steps) (raced : All MayBeRaced steps) where
    each_begins : (at : ℕ) (ns : List Member) → 1 ≤ at → at + length ns ≤ members + 1 → AreFreshFrom x.base.config at ns → MayAllBegin y steps at ns
    each_begins at [] some few are = tt
    each_begins at (m ∷ ns) some few are =
        let least : at ≤ members = omega (arith, few) in (
          are.0.id,
          begins m at some least are.0,
          asks m at some least are.0 most played raced,
          each_begins (at + 1) ns (omega (arith, some)) (omega (arith, few)) are.1,
        )

    pub can_begin : CanBegin y ms steps
    can_begin = record {
      between = to_y (λ z. IsBetweenTurns plants copies z) rest;
      from = to_y (λ z. ComesFrom plants (began_in z) z) comes;
      opens = to_y (λ z. EachWay plants.tells (λ told. MayOpen (facts_of told (shown_in z)))) (record { bare = opens false (λ is. absurd (let bad : false ≡ true = is in cc)); told = λ t. opens true (λ is. t) });
      new = λ t. to_y (λ z. AreNew (facts_of true (shown_in z))) (new_in t);
      many = to_y (λ z. length ms ≡ z.base.config.members) fresh.many;
      few = (let many = fresh.many in let few = config.members.1 in omega (arith, many, few));
      lines = most;
      each = each_begins 1 ms (omega arith) (let many = fresh.many in omega (arith, many)) fresh.each;
    }
