-- What a member that may take its turn finds: who holds the lock, and what was given of its step.
use Rattle.std.proofs.Common.{◌≡◌, ◌∙◌, ◌⊎◌, inr, ◌≤◌, ◌<◌, ◌==◌, ℕ, zero, suc, ◌-◌, ◌&&◌, if◌then◌else◌, Bool, true, false, List, [], ◌∷◌, ◌++◌, length, All, Option, Some, None, ap, refl, subst, sym, arith}
use Rattle.std.specs.Prelude.{slice_index_or}
use Rattle.std.proofs.lemmas.Bool.{and_parts as both_true, eq-eqb}
use Rattle.std.proofs.lemmas.Bool.Decides.{nat_tests}
use Rattle.std.proofs.lemmas.List.Elements.{All-cons, All-head, All-nil, All-tail, All-weaker}
use Rattle.mas_types.specs.declared.ids.MemberId.{MemberId}
use Rattle.mas_types.specs.declared.journals.Batch.{Batch}
use Rattle.mas_types.specs.declared.journals.Entry.{Entry}
use Rattle.mas_types.specs.Ids.{is_somebody, nobody, same_member}
use Rattle.lock_cycle.specs.declared.standings.Standing.{Standing}
use Rattle.lock_cycle.specs.Books.{Book, beginner, is_stopped}
use Rattle.spool_plant.specs.declared.plant.Plant.{Ghosts as PlantGhosts}
use Rattle.ckpt_copy.specs.declared.copying.Copying.{Ghosts as CopyGhosts}
use Rattle.ckpt_form.specs.declared.steady.Steady.{Ghosts as SteadyGhosts}
use Rattle.duplex_pair.specs.Halves.{SomeAlive}
use Rattle.mas_complex.specs.declared.complex.Complex.{Complex}
use Rattle.mas_complex.specs.Journals.{in_flight}
use Rattle.mas_complex.specs.Parts.{Parts, parts_of}
use Rattle.gate_turns.specs.Shared.{begun_by}
use Rattle.mas_race.specs.Between.{BetweenTurns}
use Rattle.race_turns.specs.Turns.{left_holder}
use Rattle.script_lang.specs.declared.types.Ask.{Ask}
use Rattle.member_node.specs.declared.member.Member.{Member}
use Rattle.member_steps.specs.Steps.{AreEarlier, AreKeptFrom, IsKeptBy}
use Rattle.member_resets.specs.Resetting.{MayTakeAt}
use Rattle.member_racing.specs.Stages.{first_unsaid}
use Rattle.member_racing.specs.Turning.{MayTurn}
use Rattle.member_racing.specs.Waits.{IsAtEase}
use Rattle.member_racing.specs.declared.stages.Stage.{Stage as Stands}
use Rattle.member_resets.proofs.Flights.{stands_held}
use Rattle.member_racing.proofs.Members.{few_of, inside_of, reset_givable, some_of}
use Rattle.member_racing.proofs.Resting.{steps_kept}
use Rattle.member_resets.specs.Standing.{StandsIn}

by_test : {A : Type 0} (b : Bool) → (b ≡ true → A) → (b ≡ false → A) → A
by_test true f g = f refl
by_test false f g = g refl

-- THE STOPPED MEMBER THAT HOLDS THE LOCK

pub record IsLeft (b : Book) (of : MemberId) : Type 0 where
  pub holds : b.holder ≡ of
  pub somebody : is_somebody of ≡ true
  pub stopped : is_stopped b of ≡ true

left_by : (c : Bool) (h of : MemberId) → (if c then Some h else None) ≡ Some of → (c ≡ true) × (h ≡ of)
left_by true h of is = (refl, cc)
left_by false h of is = absurd (cc)

pub left_is : (b : Book) (of : MemberId) → left_holder b ≡ Some of → IsLeft b of
left_is b of is =
    let l = left_by (is_somebody b.holder && is_stopped b b.holder) b.holder of is in
    let t = both_true (is_somebody b.holder) (is_stopped b b.holder) l.0 in
    record { holds = l.1; somebody = subst (λ (m : MemberId). is_somebody m ≡ true) l.1 t.0; stopped = subst (λ (m : MemberId). is_stopped b m ≡ true) l.1 t.1 }

positive : (n : ℕ) → is_somebody (record { 0 = n }) ≡ true → 0 < n
positive zero is = absurd (cc)
positive (suc n) is = omega arith

pub nobody_is : (m : MemberId) → is_somebody m ≡ false → m ≡ nobody
nobody_is m is = ap (λ (k : ℕ). let q : MemberId = record { 0 = k } in q) (zero_of m.0 is) where
  zero_of : (n : ℕ) → is_somebody (record { 0 = n }) ≡ false → n ≡ 0
  zero_of n none = grind (arith, nat_tests, none)

-- who is stopped goes by how the members stand
same_stops : (b d : Book) → d.members ≡ b.members → (k : MemberId) → is_stopped d k ≡ is_stopped b k
same_stops b d same k = ap (λ (ss : List Standing). (slice_index_or ss (k.0 - 1) (beginner 0)).stopped) same

stands_as : (bs : List Batch) (placed : Bool) (b d : Book) (o : Option Batch) → ((k : MemberId) → is_stopped d k ≡ is_stopped b k) → StandsIn bs placed b o → StandsIn bs placed d o
stands_as bs placed b d None same stands = stands
stands_as bs placed b d (Some c) same stands = (stands.0, stands.1, same c.by ∙ stands.2)

-- WHAT THE MEMBER GAVE, which is all of earlier steps, tells nothing of this one that isn't kept

module _ (m : MemberId) (at now : ℕ) where
  abbrev Own : Batch → Type 0
  Own c = All (λ e. e.by ≡ c.by) c.entries

  abbrev pub Holds : Batch → Type 0
  Holds c = IsKeptBy now c ⊎ AreEarlier m at c.entries

  abbrev IsBefore : Entry → Type 0
  IsBefore e = e.step < at

  front : (xs ys : List Entry) → All IsBefore (xs ++ ys) → All IsBefore xs × All IsBefore ys
  front [] ys all = (All-nil IsBefore, all)
  front (x ∷ xs) ys all =
      let more = front xs ys (All-tail IsBefore x (xs ++ ys) all) in
      (All-cons IsBefore x xs (All-head IsBefore x (xs ++ ys) all) more.0, more.1)

  same_number : (n : ℕ) → (n == n) ≡ true
  same_number n = eq-eqb n n refl

  one_before : (c : Batch) → Own c → (same_member c.by m ≡ true → All IsBefore c.entries) → AreEarlier m at c.entries
  one_before c own before = by_test (same_member c.by m)
      (λ same. All-weaker IsBefore (λ (e : Entry). e.by ≡ m → e.step < at) (λ e is mine. is) c.entries (before same))
      (λ other. All-weaker (λ (e : Entry). e.by ≡ c.by) (λ (e : Entry). e.by ≡ m → e.step < at)
      (λ e is mine. absurd (let its : same_member c.by m ≡ true = subst (λ (k : MemberId). same_member k m ≡ true) (sym mine ∙ is) (same_number m.0) in let bad : true ≡ false = sym its ∙ other in cc))
      c.entries own)

  pub kept_before : (bs : List Batch) → All Own bs → All IsBefore (begun_by m bs) → AreKeptFrom m at bs now
  kept_before [] own all = All-nil Holds
  kept_before (c ∷ bs) own all =
      let parts = front (if same_member c.by m then c.entries else []) (begun_by m bs) all in
      All-cons Holds c bs (inr (one_before c (All-head Own c bs own) (λ same. subst (λ (t : Bool). All IsBefore (if t then c.entries else [])) same parts.0))) (kept_before bs (All-tail Own c bs own) parts.1)

-- A MEMBER THAT MAY TAKE ITS TURN

module _ {P C : Type 0} {plants : PlantGhosts P} {steadies : SteadyGhosts C} {copies : CopyGhosts C} (x : Complex P C plants steadies copies) (rest : BetweenTurns x) (some : SomeAlive x.pair.first.alive x.pair.second.alive) where
  pub nothing_flies : x.book.holder ≡ nobody → x.current ≡ None
  nothing_flies none = (rest.free some none).none

  module _ (m : Member) (at : ℕ) (what : Ask) (s : Stands) (may : MayTurn x m at what s) where
    abbrev p : Parts P C
    p = parts_of x

    -- what was given of the step is kept
    pub step_kept : first_unsaid at s ≡ at → AreKeptFrom m.id at (p.batches ++ in_flight p.current) (plants.view x.plant).now
    step_kept opened = by_test (is_stopped x.book m.id)
        (λ down. kept_before m.id at (plants.view x.plant).now (p.batches ++ in_flight p.current) rest.own (subst (λ (k : ℕ). All (λ (e : Entry). e.step < k) (begun_by m.id (p.batches ++ in_flight p.current))) opened (may.waits.earlier down)))
        (λ up. steps_kept plants copies p rest some m.id at up x.settled (λ c is. (rest.flying some c is).1))

    -- the lock of a stopped member may be taken over, from a book in which all stand as they stood
    pub may_take : first_unsaid at s ≡ at → (of : MemberId) → left_holder x.book ≡ Some of → is_stopped x.book m.id ≡ false → (b : Book) → b.holder ≡ x.book.holder → b.members ≡ x.book.members
        → MayTakeAt plants copies (record p { book = b }) m at of
    may_take opened of left up b holder members =
        let l = left_is x.book of left in
        let w = may.waits in
        let ease : IsAtEase plants copies p m = w.ease up in
        let low = may.level in
        let booked : length b.members ≡ x.base.config.members = ap (λ (ss : List Standing). length ss) members ∙ rest.members in
        let least : 0 < of.0 = positive of.0 l.somebody in
        let most : of.0 ≤ length x.book.members = subst (λ (k : MemberId). k.0 ≤ length x.book.members) l.holds rest.seated in
        let fits = w.config.members.1 in
        let count = rest.members in
        record {
          stands = stands_as x.journal.batches x.placed x.book b x.current (same_stops x.book b members) (stands_held x of l.stopped l.holds (rest.unplaced some));
          idle = ease.idle;
          noted = ease.noted;
          config = ease.tables;
          fits = w.config;
          some = some_of x.base.config m.id w.member;
          least = few_of x.base.config m.id w.member w.config;
          member = w.member;
          seated = inside_of x.base.config m.id w.member b booked;
          up = same_stops x.book b members m.id ∙ up;
          of_seated = (least, subst (λ (k : ℕ). of.0 ≤ k) (sym (ap (λ (ss : List Standing). length ss) members)) most);
          of_stopped = same_stops x.book b members of ∙ l.stopped;
          of_holds = subst (λ (k : MemberId). (k.0 == of.0) ≡ true) (sym (holder ∙ l.holds)) (same_number m.id at at of.0);
          few = omega (arith, most, fits, count);
          base_sound = w.sound;
          roomy = rest.roomy;
          untold = w.untold at (subst (λ (k : ℕ). k ≤ at) (sym opened) (omega arith)) w.few;
          step = step_kept opened;
          begun = rest.begun;
          givable = reset_givable x.base m.id of w.config w.member;
          level = omega (arith, low);
        }
