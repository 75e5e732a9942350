-- How a race ends, from the opening of its run on.
use Rattle.std.proofs.Common.{◌≡◌, ◌∙◌, ◌⊎◌, ⊎_elim, inl, inr, ◌==◌, ℕ, Bool, true, false, List, [], ◌++◌, length, map, take, drop, append-nil, Option, None, Result, Ok, Err, refl, sym, ap, subst, arith}
use Rattle.std.proofs.lemmas.Bool.Decides.{nat_tests}
use Rattle.std.proofs.lemmas.List.{take-append-drop}
use Rattle.mas_types.specs.declared.answers.Status.{Status}
use Rattle.mas_types.specs.declared.answers.Status.TheVariants as status
use Rattle.mas_types.specs.declared.ids.Dev.{Dev}
use Rattle.mas_types.specs.declared.ids.Dev.TheVariants.{Ckpt1, Ckpt2, Spool}
use Rattle.mas_types.specs.declared.journals.Batch.{Batch}
use Rattle.mas_types.specs.declared.journals.Journal.{Journal}
use Rattle.mas_types.specs.declared.queues.Queue.{Queue}
use Rattle.mas_types.specs.Histories.{history}
use Rattle.script_lang.specs.declared.types.Step.{Step}
use Rattle.spool_plant.specs.declared.plant.Part.TheVariants.{Console, Disk}
use Rattle.spool_plant.specs.declared.plant.Plant.{Ghosts as PlantGhosts}
use Rattle.spool_plant.specs.View.{View}
use Rattle.spool_plant.specs.Acts.{Rose}
use Rattle.ckpt_copy.specs.declared.copying.Copying.{Ghosts as CopyGhosts}
use Rattle.ckpt_form.specs.declared.steady.Steady.{Ghosts as SteadyGhosts}
use Rattle.duplex_pair.specs.Halves.{SomeAlive}
use Rattle.mas_complex.specs.declared.complex.Complex.{Complex}
use Rattle.mas_complex.specs.declared.renewals.Renewals.{Renewals}
use Rattle.ckpt_form.specs.Form.{form_reads}
use Rattle.mas_types.specs.Sound.{IsSound}
use Rattle.mas_complex.specs.Headline.{Headline, whole}
use Rattle.mas_complex.specs.Journals.{end_of}
use Rattle.mas_complex.specs.Parts.{Parts, parts_of}
use Rattle.mas_complex.specs.Renewals.{is_open, no_renewals}
use Rattle.member_node.specs.declared.member.NodeNo.{NodeNo}
use Rattle.member_node.specs.declared.member.NodeNo.TheVariants as no_node
use Rattle.member_node.specs.Calls.{Grows, WasLost, console_now}
use Rattle.member_sittings.specs.Sat.{journal_of}
use Rattle.mas_race.specs.Beginnings.{GrowsIf}
use Rattle.run_opening.proofs.OpeningLemmas.{safe_of}
use Rattle.run_opening.proofs.ProceedLemmas.{proceeds_of, proceeds_on}
use Rattle.run_opening.specs.Lines.{Proceeds}
use Rattle.run_opening.specs.Runs.{AreAway, IsSafe, OneIsGood}
use Rattle.run_opening.specs.Statuses.{IsCausedFrom, is_of_play, status_of}
use Rattle.race_ends.specs.Histories.{EndsRace, IsSaying, SaysHistory, SaysSome}
use Rattle.race_ends.specs.Prepared.{HasPrepared}
use Rattle.race_run.specs.Races.{HaveNotRaced, HaveRaced, IsGone, IsRaceOf, MembersBegun, begun_as, ended_as}
use Rattle.race_run.specs.Values.{HaveAllRaced}
use Rattle.race_run.proofs.CauseLemmas.{rose_or}

-- COUNTS

pub grows_so : (a b : ℕ) → GrowsIf a b → Grows a b
grows_so a b g = by_same (b == a) refl where
  by_same : (t : Bool) → (b == a) ≡ t → Grows a b
  by_same true is = inl (grind (arith, nat_tests, is))
  by_same false is =
      ⊎_elim (λ rose. inr rose)
      (λ none. absurd (g (λ e. absurd (let same : (b == a) ≡ true = grind (arith, nat_tests, e) in let bad : true ≡ false = sym same ∙ is in cc)) none))
      (rose_or a b)

lost_then : (d : Dev) (v0 v1 v2 v3 : View) → v1.faults (Disk d) ≡ v0.faults (Disk d) → v1.loses d ≡ v0.loses d → v3.faults (Disk d) ≡ v2.faults (Disk d) → v3.loses d ≡ v2.loses d
    → WasLost d v1 v2 → WasLost d v0 v3
lost_then d v0 v1 v2 v3 faults loses more_faults more_loses lost = ⊎_elim
    (λ failed. inl (subst (λ (n : ℕ). Rose n (v3.faults (Disk d))) faults (subst (λ (n : ℕ). Rose (v1.faults (Disk d)) n) (sym more_faults) failed)))
    (λ called. inr (subst (λ (n : ℕ). Rose n (v3.loses d)) loses (subst (λ (n : ℕ). Rose (v1.loses d) n) (sym more_loses) called))) lost

-- THE HISTORY LINES

pub said_as : (tells : Type 0) (answer : Status) (J K : Journal) (old new : View) → history J ≡ history K → SaysHistory tells answer J old new → SaysHistory tells answer K old new
said_as tells status.Done J K old new same says = λ t. says t ∙ ap (λ (ls : List (List ℕ)). console_now old ++ map whole ls) same
said_as tells status.ConsoleFault J K old new same says = subst (λ (ls : List (List ℕ)). SaysSome tells ls old new) same says
said_as tells status.NoMemory J K old new same says = says
said_as tells _ J K old new same says = absurd says

pub ends_as : (tells : Type 0) (ended answer : Status) (J K : Journal) (old new : View) → history J ≡ history K → EndsRace tells ended answer J old new → EndsRace tells ended answer K old new
ends_as tells status.Done answer J K old new same ends = said_as tells answer J K old new same ends
ends_as tells _ answer J K old new same ends = ends

-- it ends for want of both copies only where the members' lines did
pub ended_lost : (tells : Type 0) (ended answer : Status) (J : Journal) (old new : View) → EndsRace tells ended answer J old new → answer ≡ status.BothLost → ended ≡ status.BothLost
ended_lost tells status.Done answer J old new ends is = absurd (subst (λ (s : Status). SaysHistory tells s J old new) is ends)
ended_lost tells _ answer J old new ends is = sym ends.0 ∙ is

pub ended_failed : (tells : Type 0) (ended answer : Status) (J : Journal) (old new : View) → EndsRace tells ended answer J old new → answer ≡ status.ConsoleFault
    → (ended ≡ status.ConsoleFault) ⊎ Rose (old.faults Console) (new.faults Console)
ended_failed tells status.Done answer J old new ends is = inr (subst (λ (s : Status). SaysHistory tells s J old new) is ends).failed
ended_failed tells _ answer J old new ends is = inl (sym ends.0 ∙ is)

said_kind : (tells : Type 0) (answer : Status) (J : Journal) (old new : View) → SaysHistory tells answer J old new → is_of_play answer ≡ true
said_kind tells status.Done J old new says = refl
said_kind tells status.ConsoleFault J old new says = refl
said_kind tells status.NoMemory J old new says = refl
said_kind tells _ J old new says = absurd says

pub ended_kind : (tells : Type 0) (ended answer : Status) (J : Journal) (old new : View) → EndsRace tells ended answer J old new → is_of_play ended ≡ true → is_of_play answer ≡ true
ended_kind tells status.Done answer J old new ends is = said_kind tells answer J old new ends
ended_kind tells _ answer J old new ends is = ap is_of_play ends.0 ∙ is

pub ends_other : (tells : Type 0) (ended : Status) (J : Journal) (v : View) → (ended ≡ status.Done → ⊥) → EndsRace tells ended ended J v v
ends_other tells status.Done J v other = absurd (other refl)
ends_other tells _ J v other = (refl, refl)

pub ends_done : (tells : Type 0) (ended answer : Status) (J : Journal) (old new : View) → ended ≡ status.Done → SaysHistory tells answer J old new → EndsRace tells ended answer J old new
ends_done tells ended answer J old new is says = subst (λ (s : Status). EndsRace tells s answer J old new) (sym is) says

one_good : (one two : Bool) (v : View) → SomeAlive one two → (one ≡ true → v.lost (Disk Ckpt1) ≡ false) → (two ≡ true → v.lost (Disk Ckpt2) ≡ false) → OneIsGood no_renewals v
one_good true two v some there1 there2 = inl (there1 refl, refl)
one_good false true v some there1 there2 = inr (there2 refl, refl)
one_good false false v some there1 there2 = absurd (let bad : false ≡ true = some in cc)

abbrev err_of : NodeNo → Result (Unit {0}) NodeNo
err_of e = Err e

-- what ends for the operator is the console, or memory
abbrev IsNeither : NodeNo → Type 0
IsNeither e = (err_of e ≡ Err no_node.Halted → ⊥) × (err_of e ≡ Err no_node.BothLost → ⊥)

-- THE RUN, open and prepared

module _ {P C : Type 0} {plants : PlantGhosts P} {steadies : SteadyGhosts C} {copies : CopyGhosts C} (x m : Complex P C plants steadies copies) (steps : List Step)
    (none : x.current ≡ None) (unplaced : x.placed ≡ false) (frame : parts_of m ≡ record (parts_of x) { plant = m.plant })
    (there1 : x.pair.first.alive ≡ true → (plants.view x.plant).lost (Disk Ckpt1) ≡ false)
    (there2 : x.pair.second.alive ≡ true → (plants.view x.plant).lost (Disk Ckpt2) ≡ false) where
  abbrev v : View
  v = plants.view x.plant

  abbrev u : View
  u = plants.view m.plant

  opening_is : journal_of (parts_of x) ≡ x.journal.batches
  opening_is = ap (λ (o : Option Batch). end_of x.placed o x.journal.batches) none ∙ ap (λ (t : Bool). end_of t None x.journal.batches) unplaced

  pub journal_is : journal_of (parts_of m) ≡ x.journal.batches
  journal_is = ap (λ (z : Parts P C). journal_of z) frame ∙ opening_is

  begun_is : begun_as steps m.base (journal_of (parts_of m)) m.since u ≡ begun_as steps x.base x.journal.batches x.since u
  begun_is = ap (λ (z : Parts P C). begun_as steps z.base (journal_of z) z.since (plants.view z.plant)) frame ∙ ap (λ (bs : List Batch). begun_as steps x.base bs x.since u) opening_is

  -- NOBODY RACED, since a line couldn't be refused
  module _ (e : NodeNo) (h : HasPrepared plants 1 steps (parts_of x) (parts_of m) (Err e)) where
    why : (e ≡ no_node.NoMemory) ⊎ (e ≡ no_node.ConsoleFault)
    why = by_case e h.cause where
      by_case : (d : NodeNo) → IsNeither d → (d ≡ no_node.NoMemory) ⊎ (d ≡ no_node.ConsoleFault)
      by_case no_node.NoMemory neither = inl refl
      by_case no_node.ConsoleFault neither = inr refl
      by_case no_node.Halted neither = absurd (neither.0 refl)
      by_case no_node.BothLost neither = absurd (neither.1 refl)

    pub refused_kind : is_of_play (status_of {T = Unit {0}} (Err e)) ≡ true
    refused_kind = ⊎_elim (λ is. ap (λ (d : NodeNo). is_of_play (status_of {T = Unit {0}} (Err d))) is) (λ is. ap (λ (d : NodeNo). is_of_play (status_of {T = Unit {0}} (Err d))) is) why

    not_lost : status_of {T = Unit {0}} (Err e) ≡ status.BothLost → ⊥
    not_lost is = ⊎_elim
        (λ short. let bad : status.NoMemory ≡ status.BothLost = ap (λ (d : NodeNo). status_of {T = Unit {0}} (Err d)) (sym short) ∙ is in cc)
        (λ failed. let bad : status.ConsoleFault ≡ status.BothLost = ap (λ (d : NodeNo). status_of {T = Unit {0}} (Err d)) (sym failed) ∙ is in cc) why

    pub refused_cause : IsCausedFrom x.pair.first.alive x.pair.second.alive (status_of {T = Unit {0}} (Err e)) v u
    refused_cause = record {
      failed1 = λ is up. absurd (not_lost is);
      failed2 = λ is up. absurd (not_lost is);
      console = λ is. ⊎_elim
          (λ short. absurd (let bad : status.NoMemory ≡ status.ConsoleFault = ap (λ (d : NodeNo). status_of {T = Unit {0}} (Err d)) (sym short) ∙ is in cc))
          (λ failed. h.failed (ap (λ (d : NodeNo). let r : Result (Unit {0}) NodeNo = Err d in r) failed)) why;
    }

    has_not : (J : Journal) → J.batches ≡ journal_of (parts_of m)
        → HaveNotRaced (begun_as steps x.base x.journal.batches x.since u) (ended_as J.batches u (status_of {T = Unit {0}} (Err e)))
    has_not J is = record {
      why = ⊎_elim (λ short. inl (ap (λ (d : NodeNo). status_of {T = Unit {0}} (Err d)) short)) (λ failed. inr (ap (λ (d : NodeNo). status_of {T = Unit {0}} (Err d)) failed)) why;
      batches = is ∙ journal_is;
    }

    ends_so : (J : Journal) → EndsRace plants.tells (status_of {T = Unit {0}} (Err e)) (status_of {T = Unit {0}} (Err e)) J u u
    ends_so J = ⊎_elim
        (λ short. subst (λ (d : NodeNo). EndsRace plants.tells (status_of {T = Unit {0}} (Err d)) (status_of {T = Unit {0}} (Err d)) J u u) (sym short) (refl, refl))
        (λ failed. subst (λ (d : NodeNo). EndsRace plants.tells (status_of {T = Unit {0}} (Err d)) (status_of {T = Unit {0}} (Err d)) J u u) (sym failed) (refl, refl)) why

    pub refused_race : SomeAlive x.pair.first.alive x.pair.second.alive → (J : Journal) → J.batches ≡ journal_of (parts_of m) → IsSafe plants.tells x.base J no_renewals x.since u
        → IsRaceOf plants.tells steps (status_of {T = Unit {0}} (Err e)) x.base x.journal.batches J x.since v u
    refused_race some J is safe = record {
      rest = [];
      batches = is ∙ journal_is ∙ sym (append-nil x.journal.batches);
      seen = h.seen;
      few = h.few;
      start = u;
      stops = h.stops;
      refused = h.console;
      between = u;
      ended = status_of {T = Unit {0}} (Err e);
      arms = h.arms;
      all = inr (has_not J is);
      volumes = λ t n. h.loses (Spool n);
      stays = λ d lost. h.lost d ∙ lost;
      raced = λ t. inr (has_not J is);
      ends = ends_so J;
      safe = safe;
      away = λ lost. absurd (not_lost lost);
      good = λ not_both. one_good x.pair.first.alive x.pair.second.alive u some (λ up. h.lost Ckpt1 ∙ there1 up) (λ up. h.lost Ckpt2 ∙ there2 up);
    }

  -- ALL RACED, and the history was to be said
  module _ (h : HasPrepared plants 1 steps (parts_of x) (parts_of m) (Ok tt)) (y : Complex P C plants steadies copies) (ended : Status) (raced : HaveAllRaced m y steps ended)
      (new : View) (says : IsSaying (plants.view y.plant) new) (answer : Status) (J : Journal) (is : J.batches ≡ journal_of (parts_of y))
      (ends : EndsRace plants.tells ended answer J (plants.view y.plant) new) where
    abbrev w : View
    w = plants.view y.plant

    alive1 : y.pair.first.alive ≡ true → x.pair.first.alive ≡ true
    alive1 up = ap (λ (z : Parts P C). z.first_alive) (sym frame) ∙ raced.from.alive1 up

    alive2 : y.pair.second.alive ≡ true → x.pair.second.alive ≡ true
    alive2 up = ap (λ (z : Parts P C). z.second_alive) (sym frame) ∙ raced.from.alive2 up

    pub race_kind : is_of_play answer ≡ true
    race_kind = ended_kind plants.tells ended answer J w new ends raced.kind

    pub race_goes : Proceeds v new
    race_goes = proceeds_on v u new h.goes (proceeds_on u w new (proceeds_of u w raced.from.goes) (proceeds_of w new says.goes))

    pub race_grows : (d : Dev) → Grows (v.loses d) (new.loses d)
    race_grows d = subst (λ (n : ℕ). Grows n (new.loses d)) (h.loses d) (subst (λ (n : ℕ). Grows (u.loses d) n) (sym (says.loses d)) (grows_so (u.loses d) (w.loses d) (raced.from.grow d)))

    lift : (d : Dev) → WasLost d u w → WasLost d v new
    lift d lost = lost_then d v u w new (h.faults d) (h.loses d) (says.faults d) (says.loses d) lost

    gone : (d : Dev) → IsGone d u w → IsGone d v new
    gone d g = ⊎_elim (λ was. inl (sym (h.lost d) ∙ was)) (λ lost. inr (lift d lost)) g

    console_rose : Rose (u.faults Console) (w.faults Console) ⊎ Rose (w.faults Console) (new.faults Console) → Rose (v.faults Console) (new.faults Console)
    console_rose rose =
        let before = h.goes.faults Console in
        let mid = raced.from.goes.faults Console in
        let after = says.goes.faults Console in
        ⊎_elim (λ r. omega (arith, before, after, r)) (λ r. omega (arith, before, mid, r)) rose

    pub race_cause : IsCausedFrom x.pair.first.alive x.pair.second.alive answer v new
    race_cause = record {
      failed1 = λ lost up. lift Ckpt1 (raced.cause.failed1 (ended_lost plants.tells ended answer J w new ends lost) (ap (λ (z : Parts P C). z.first_alive) frame ∙ up));
      failed2 = λ lost up. lift Ckpt2 (raced.cause.failed2 (ended_lost plants.tells ended answer J w new ends lost) (ap (λ (z : Parts P C). z.second_alive) frame ∙ up));
      console = λ failed. console_rose (⊎_elim (λ own. inl (raced.cause.console own)) (λ said. inr said) (ended_failed plants.tells ended answer J w new ends failed));
    }

    front_is : take (length x.journal.batches) (journal_of (parts_of y)) ≡ x.journal.batches
    front_is =
        let same : m.journal.batches ≡ x.journal.batches = ap (λ (z : Parts P C). z.batches) frame in
        subst (λ (bs : List Batch). take (length bs) (journal_of (parts_of y)) ≡ bs) same raced.from.opening

    did : plants.tells → HaveRaced (begun_as steps x.base x.journal.batches x.since u) (ended_as J.batches w ended)
        ⊎ HaveNotRaced (begun_as steps x.base x.journal.batches x.since u) (ended_as J.batches w ended)
    did t =
        subst (λ (b : MembersBegun). HaveRaced b (ended_as J.batches w ended) ⊎ HaveNotRaced b (ended_as J.batches w ended)) begun_is
        (subst (λ (bs : List Batch). HaveRaced (begun_as steps m.base (journal_of (parts_of m)) m.since u) (ended_as bs w ended)
        ⊎ HaveNotRaced (begun_as steps m.base (journal_of (parts_of m)) m.since u) (ended_as bs w ended)) (sym is) (raced.raced t))

    away_so : answer ≡ status.BothLost → AreAway no_renewals new
    away_so lost =
        let both = raced.lost (ended_lost plants.tells ended answer J w new ends lost) in (
          inl (says.goes.lost (Disk Ckpt1) (y.lost Ckpt1 tt both.0 (ap (λ (r : Renewals). is_open r.first) raced.from.renewals))),
          inl (says.goes.lost (Disk Ckpt2) (y.lost Ckpt2 tt both.1 (ap (λ (r : Renewals). is_open r.second) raced.from.renewals))),
        )

    pub race_is : IsSafe plants.tells x.base J no_renewals x.since new → IsRaceOf plants.tells steps answer x.base x.journal.batches J x.since v new
    race_is safe = record {
      rest = drop (length x.journal.batches) J.batches;
      batches = sym (take-append-drop (length x.journal.batches) J.batches)
          ∙ ap (λ (bs : List Batch). bs ++ drop (length x.journal.batches) J.batches) (ap (take (length x.journal.batches)) is ∙ front_is);
      seen = h.seen;
      few = h.few;
      start = u;
      stops = h.stops;
      refused = h.console;
      between = w;
      ended = ended;
      arms = λ k one. raced.from.goes.arms k.0 ∙ h.arms k one;
      all = inl (h.all refl);
      volumes = λ t n. raced.from.volumes t n ∙ h.loses (Spool n);
      stays = λ d lost. says.goes.lost (Disk d) (raced.from.goes.lost (Disk d) (h.lost d ∙ lost));
      raced = did;
      ends = ends;
      safe = safe;
      away = away_so;
      good = λ not_both. one_good y.pair.first.alive y.pair.second.alive new (raced.some (λ one two. not_both (gone Ckpt1 one) (gone Ckpt2 two)))
          (λ up. says.lost Ckpt1 ∙ raced.from.there1 up (h.lost Ckpt1 ∙ there1 (alive1 up)))
          (λ up. says.lost Ckpt2 ∙ raced.from.there2 up (h.lost Ckpt2 ∙ there2 (alive2 up)));
    }

-- BY OTHER NAMES, as the end of the run gives them

pub safe_by : (tells : Type 0) (B C : Queue) (t s : ℕ) (J : Journal) (rs : Renewals) (u w : View) → B ≡ C → t ≡ s → rs ≡ no_renewals → u ≡ w → IsSound C
    → (tells → ∥ Headline form_reads B t J rs u ∥₁) → IsSafe tells C J no_renewals s w
safe_by tells B C t s J rs u w base since renewals view sound head =
    safe_of tells C J no_renewals s w sound
    (λ told. subst (λ (z : View). ∥ Headline form_reads C s J no_renewals z ∥₁) view
    (subst (λ (z : Renewals). ∥ Headline form_reads C s J z u ∥₁) renewals
    (subst (λ (z : ℕ). ∥ Headline form_reads C z J rs u ∥₁) since
    (subst (λ (z : Queue). ∥ Headline form_reads z t J rs u ∥₁) base (head told)))))

pub race_by : (tells : Type 0) (steps : List Step) (a b : Status) (B C : Queue) (front : List Batch) (J : Journal) (t s : ℕ) (v u w : View) → a ≡ b → B ≡ C → t ≡ s → u ≡ w
    → IsRaceOf tells steps b C front J s v w → IsRaceOf tells steps a B front J t v u
race_by tells steps a b B C front J t s v u w answer base since view race =
    subst (λ (z : Status). IsRaceOf tells steps z B front J t v u) (sym answer)
    (subst (λ (z : Queue). IsRaceOf tells steps b z front J t v u) (sym base)
    (subst (λ (z : ℕ). IsRaceOf tells steps b C front J z v u) (sym since)
    (subst (λ (z : View). IsRaceOf tells steps b C front J s v z) (sym view) race)))

pub cause_by : (one two : Bool) (a b : Status) (v u w : View) → a ≡ b → u ≡ w → IsCausedFrom one two b v w → IsCausedFrom one two a v u
cause_by one two a b v u w answer view cause =
    subst (λ (z : Status). IsCausedFrom one two z v u) (sym answer) (subst (λ (z : View). IsCausedFrom one two b v z) (sym view) cause)
