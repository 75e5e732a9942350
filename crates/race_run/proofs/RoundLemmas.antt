-- The members race beside each other, and the root pass takes their passes in.
use Rattle.std.proofs.Common.{◌≡◌, ◌≢◌, ◌∙◌, ℕ, ◌+◌, ◌<◌, ◌≤◌, Bool, true, false, List, [], ◌∷◌, ◌++◌, length, suc, refl, sym, ap, subst, arith}
use Rattle.std.proofs.lemmas.List.{get_or-set_other}
use Rattle.mas_types.specs.declared.answers.Status.{Status}
use Rattle.mas_types.specs.declared.ids.MemberId.{MemberId}
use Rattle.mas_types.specs.declared.journals.Entry.{Entry}
use Rattle.script_lang.specs.declared.types.Step.{Step}
use Rattle.spool_plant.specs.View.{View as Shown}
use Rattle.spool_plant.specs.declared.plant.Plant.{Ghosts as PlantGhosts}
use Rattle.ckpt_copy.specs.declared.copying.Copying.{Ghosts as CopyGhosts}
use Rattle.ckpt_form.specs.declared.steady.Steady.{Ghosts as SteadyGhosts}
use Rattle.mas_complex.specs.declared.complex.Complex.{Complex}
use Rattle.mas_complex.specs.Parts.{shown_of}
use Rattle.gate_facts.specs.declared.facts.Facts.{Facts}
use Rattle.gate_facts.specs.Memory.{Knows, Memory}
use Rattle.gate_facts.specs.Values.{StartsWith, begun_of, desk_of, lines_of, marked_at, no_desk, stopped_of}
use Rattle.gate_facts.specs.Ways.{EachWay}
use Rattle.gate_turns.specs.Shared.{facts_of}
use Rattle.member_gate.specs.declared.pass.Pass.{Pass}
use Rattle.member_gate.specs.declared.view.View.{View}
use Rattle.member_gate.specs.declared.view.Sight.{Sight}
use Rattle.member_gate.specs.Marking.{single}
use Rattle.member_gate.specs.Passes.{view}
use Rattle.member_gate.specs.Views.{AllBegin, MayBegin as MayOpen, both_sights, giving, given_to, joined, memory_by, memory_in, sees, sight}
use Rattle.member_gate.proofs.Places.{chosen_first, chosen_second, either_left, either_right, none_both, single_else, single_here}
use Rattle.member_node.specs.declared.member.Member.{Member}
use Rattle.run_opening.specs.Statuses.{status_of}
use Rattle.mas_race.specs.Beginnings.{Began}
use Rattle.mas_race.specs.Passings.{RestsAs, found_by}
use Rattle.member_racing.proofs.Waiting.{waits_next}
use Rattle.race_turns.specs.Races.{lines_of as asked_of}
use Rattle.mas_types.specs.declared.queues.Queue.{Queue}
use Rattle.race_run.specs.Races.{least, lesser}
use Rattle.race_run.specs.Racers.{MayRaceWithin}
use Rattle.race_run.specs.Racing.{AreAsked, MayBegin, MayOpen as OpensAt}
use Rattle.race_run.specs.Rounds.{IsRoot, KnowsAs, MayAllRace, RacedOn}
use Rattle.member_racing.specs.Asked.{IsAsked}
use Rattle.member_racing.specs.declared.stages.Stage.TheVariants as line
use Rattle.race_run.proofs.LineLemmas.{waits_first}
use Rattle.race_run.proofs.RacerLemmas.{KnowsBy}

-- WHAT BEGINS a list

begin_left : (kept : List Entry) (hs gs : List (List Entry)) → AllBegin kept (hs ++ gs) → AllBegin kept hs
begin_left kept [] gs all = tt
begin_left kept (h ∷ hs) gs all = (all.0, begin_left kept hs gs all.1)

begin_right : (kept : List Entry) (hs gs : List (List Entry)) → AllBegin kept (hs ++ gs) → AllBegin kept gs
begin_right kept [] gs all = all
begin_right kept (h ∷ hs) gs all = begin_right kept hs gs all.1

-- THE ROOT GIVES a pass to one more

pub giving_sight : (told : Bool) (m : ℕ) (v : View) → sight (giving m v) told ≡ sight v told
giving_sight true m v = refl
giving_sight false m v = refl

pub root_gives : (start : Bool → Facts) (at : ℕ) (v : View) → 0 < at → IsRoot start at v → IsRoot start (at + 1) (giving at v)
root_gives start at v some r = record {
  free = r.free;
  root = r.root;
  member = r.member;
  fresh = λ m le. none_both v.given (single at) m (r.fresh m (omega (arith, le))) (single_else at m (λ e. absurd (omega (arith, le, e))));
  operator = get_or-set_other v.cares at 0 false false (λ e. absurd (omega (arith, e, some))) ∙ r.operator;
  cares = λ m le lt. get_or-set_other v.cares at m false false (λ e. absurd (omega (arith, le, e))) ∙ r.cares m (omega (arith, le)) lt;
  last = λ told. ap (λ (s : Sight). s.last) (giving_sight told at v) ∙ r.last told;
  unheard = λ told. ap (λ (s : Sight). s.heard) (giving_sight told at v) ∙ r.unheard told;
}

given_sight : (told : Bool) (m : ℕ) (v : View) (f : Facts) → (sight v told).last ≡ f
    → stopped_of f m ≡ false → desk_of f m ≡ no_desk
    → memory_in (given_to m v) told ≡ memory_by (single m) (sees m f)
given_sight true m v f is up none i = record {
  base = (is i).base;
  seen = (is i).kept;
  cares = single m;
  begun = begun_of (is i);
  lines = lines_of (is i);
  stopped = λ k. sym up i;
  desk = λ k. sym none i;
  marks = (is i).marks;
}
given_sight false m v f is up none i = record {
  base = (is i).base;
  seen = (is i).kept;
  cares = single m;
  begun = begun_of (is i);
  lines = lines_of (is i);
  stopped = λ k. sym up i;
  desk = λ k. sym none i;
  marks = (is i).marks;
}

module _ {P C : Type 0} {plants : PlantGhosts P} {steadies : SteadyGhosts C} {copies : CopyGhosts C} where
  -- what the value with which the race began told
  abbrev start_of : Complex P C plants steadies copies → Bool → Facts
  start_of x told = facts_of told (shown_of x)

  module _ (o : Began) (x : Complex P C plants steadies copies) (m : Member) (at : ℕ) (is : m.id ≡ record { 0 = at }) (some : 0 < at) (root : View)
      (r : IsRoot (start_of x) at root) (rests : RestsAs o x)
      (opens : EachWay plants.tells (λ told. MayOpen (start_of x told))) where
    abbrev given : View
    given = given_to at root

    -- of a value that its new pass may find it knows what that value told
    known_first : (y : Complex P C plants steadies copies) → found_by o given y → KnowsBy at (single at) x y
    known_first y f = record {
      bare = subst (λ (z : Memory). Knows at z (start_of y false)) (given_sight false at root (start_of x false) (r.last false) (opens.bare.stopped at) (opens.bare.desks at some)) f.finds.bare.0;
      told = λ t. subst (λ (z : Memory). Knows at z (start_of y true)) (given_sight true at root (start_of x true) (r.last true) ((opens.told t).stopped at) ((opens.told t).desks at some)) (f.finds.told t).0;
    }

    -- so the member may begin there with any of its lines
    pub opens_there : (y : Complex P C plants steadies copies) → MayBegin x m 1 → found_by o given y → OpensAt y m 1
    opens_there y b f number what le most asked =
        let by_number : m.id.0 ≡ at = ap (λ (k : MemberId). k.0) is in
        let known = known_first y f in
        waits_next o x y m number what line.Opens (single at)
        (ap (λ (k : ℕ). marked_at (single at) k) by_number ∙ single_here at) rests f.rest
        (subst (λ (k : ℕ). KnowsBy k (single at) x y) (sym by_number) known)
        (waits_first x m 1 number what b le most (subst (λ (q : Queue). IsAsked q m.id what) known.bare.base asked))

    -- and its pass is one that it races with
    pub may_within : {V : Type 0} (p : Pass V) (value : V → Complex P C plants steadies copies) (steps : List Step) → view p ≡ given → MayBegin x m 1
        → AreAsked x.base m.id (asked_of m.id 1 steps) → MayRaceWithin p value o m steps
    may_within p value steps pass b asked = record {
      free = ap (λ (w : View). w.has) pass;
      member = ap (λ (w : View). w.member) pass ∙ sym (ap (λ (k : MemberId). k.0) is);
      somebody = subst (λ (k : MemberId). 0 < k.0) (sym is) some;
      cares = ap (λ (w : View). w.cares) pass ∙ ap single (sym (ap (λ (k : MemberId). k.0) is));
      first = λ y f. opens_there y b (subst (λ (w : View). found_by o w y) pass f);
      asked = subst (λ (q : Queue). AreAsked q m.id (asked_of m.id 1 steps))
          (sym (ap (λ (w : View). (memory_in w false).base) pass ∙ ap (λ (f : Facts). f.base) (r.last false))) asked;
    }

-- THE NEXT MEMBER, and those after it

module _ {V P C : Type 0} {plants : PlantGhosts P} {steadies : SteadyGhosts C} {copies : CopyGhosts C}
    (value : V → Complex P C plants steadies copies) (o : Began) (count : ℕ) (m : Member) (ms : List Member) (steps : List Step)
    (root : Pass V) (may : MayAllRace root value o count (m ∷ ms) steps) where
  number_is : m.id.0 ≡ may.at
  number_is = ap (λ (k : MemberId). k.0) may.each.0

  -- the root may split a pass for it
  pub may_split : (0 < m.id.0) × (m.id.0 ≤ count) × (marked_at (view root).given m.id.0 ≡ false)
  may_split =
      let many = may.many in
      let e = number_is in
      let some = may.some in (
        omega (arith, e, some),
        omega (arith, e, many),
        ap (λ (k : ℕ). marked_at (view root).given k) e ∙ may.is_root.fresh may.at (omega arith),
      )

  -- it may race with that
  pub may_next : (p : Pass V) → view p ≡ given_to m.id.0 (view root) → MayRaceWithin p value o m steps
  may_next p pass =
      may_within o may.start m may.at may.each.0 may.some (view root) may.is_root may.rests may.opens p value steps
      (pass ∙ ap (λ (k : ℕ). given_to k (view root)) number_is) may.each.1 may.each.2

  -- and the others with what is left
  pub may_others : (q : Pass V) → view q ≡ giving m.id.0 (view root) → MayAllRace q value o count ms steps
  may_others q left =
      let many = may.many in
      let some = may.some in
      record {
        start = may.start;
        at = may.at + 1;
        some = omega arith;
        many = omega (arith, many);
        few = may.few;
        rests = may.rests;
        opens = may.opens;
        new = may.new;
        is_root = subst (λ (w : View). IsRoot (λ told. facts_of told (shown_of may.start)) (may.at + 1) w) (sym (left ∙ ap (λ (k : ℕ). giving k (view root)) number_is)) (root_gives (λ told. facts_of told (shown_of may.start)) may.at (view root) some may.is_root);
        each = may.each.3;
      }

-- WHAT THE ROOT KNOWS once it took in a pass

pub joined_sight : (told : Bool) (v w : View) → sight (joined v w) told ≡ both_sights w.cares (sight v told) (sight w told)
joined_sight true v w = refl
joined_sight false v w = refl

module _ (told : Bool) (root w : View) (at : ℕ) (own : w.cares ≡ single at) where
  both : Sight
  both = both_sights w.cares (sight root told) (sight w told)

  -- of that pass's member it knows what that knew
  pub knows_joined : KnowsAs (joined root w) w told at
  knows_joined =
      let here : marked_at w.cares at ≡ true = ap (λ (l : List Bool). marked_at l at) own ∙ single_here at in
      record {
        cares = either_right root.cares w.cares at here;
        begun = ap (λ (s : Sight). begun_of s.last at) (joined_sight told root w)
            ∙ chosen_first [] w.cares (sight w told).last.begun (sight root told).last.begun at here;
        lines = ap (λ (s : Sight). lines_of s.last at) (joined_sight told root w)
            ∙ chosen_first [] w.cares (sight w told).last.lines (sight root told).last.lines at here;
      }

  -- of the others what it knew
  pub knows_still : (v : View) (m : ℕ) → m ≢ at → KnowsAs root v told m → KnowsAs (joined root w) v told m
  knows_still v m other k =
      let none : marked_at w.cares m ≡ false = ap (λ (l : List Bool). marked_at l m) own ∙ single_else at m other in
      record {
        cares = either_left root.cares w.cares m k.cares;
        begun = ap (λ (s : Sight). begun_of s.last m) (joined_sight told root w)
            ∙ chosen_second [] w.cares (sight w told).last.begun (sight root told).last.begun m none ∙ k.begun;
        lines = ap (λ (s : Sight). lines_of s.last m) (joined_sight told root w)
            ∙ chosen_second [] w.cares (sight w told).last.lines (sight root told).last.lines m none ∙ k.lines;
      }

-- IT TOOK ALL IN

-- the members stand in the order of their numbers
abbrev pub AreFrom : ℕ → List Member → Type 0
AreFrom at [] = Unit {0}
AreFrom at (m ∷ ms) = (m.id ≡ record { 0 = at }) × AreFrom (at + 1) ms

module _ (tells : Type 0) (entry : Shown) (steps : List Step) where
  -- the members' passes know this, each of its own member
  abbrev pub AllKnow : (told : Bool) (top : View) (kept : List Entry) (root : View) (ms : List Member) (end : View) (answer : Status)
      → RacedOn tells entry steps root ms end answer → Type 0
  AllKnow told top kept root [] end answer raced = Unit {0}
  AllKnow told top kept root (m ∷ ms) end answer (mid, v, one, rest, more, raced, joins, least_is) =
      KnowsAs top v told m.id.0 × StartsWith kept (sight v told).last.kept × AllKnow told top kept (giving m.id.0 root) ms mid rest more

  -- these statuses are theirs
  abbrev pub answers_of : (root : View) (ms : List Member) (end : View) (answer : Status)
      → RacedOn tells entry steps root ms end answer → List Status
  answers_of root [] end answer raced = []
  answers_of root (m ∷ ms) end answer (mid, v, one, rest, more, raced, joins, least_is) =
      status_of one ∷ answers_of (giving m.id.0 root) ms mid rest more

  pub many_answers : (root : View) (ms : List Member) (end : View) (answer : Status)
      → (raced : RacedOn tells entry steps root ms end answer) → length (answers_of root ms end answer raced) ≡ length ms
  many_answers root [] end answer raced = refl
  many_answers root (m ∷ ms) end answer (mid, v, one, rest, more, raced, joins, least_is) = ap suc (many_answers (giving m.id.0 root) ms mid rest more)

  pub least_answer : (root : View) (ms : List Member) (end : View) (answer : Status)
      → (raced : RacedOn tells entry steps root ms end answer) → answer ≡ least (answers_of root ms end answer raced)
  least_answer root [] end answer raced = raced.1
  least_answer root (m ∷ ms) end answer (mid, v, one, rest, more, raced, joins, least_is) =
      least_is ∙ ap (lesser (status_of one)) (least_answer (giving m.id.0 root) ms mid rest more)

  -- what the root had begins what it knows
  pub heard_before : (told : Bool) (kept : List Entry) (root : View) (ms : List Member) (end : View) (answer : Status)
      → RacedOn tells entry steps root ms end answer → AllBegin kept (sight end told).heard → AllBegin kept (sight root told).heard
  heard_before told kept root [] end answer raced all = subst (λ (w : View). AllBegin kept (sight w told).heard) raced.0 all
  heard_before told kept root (m ∷ ms) end answer (mid, v, one, rest, more, raced, joins, least_is) all =
      let here = subst (λ (s : Sight). AllBegin kept s.heard) (joined_sight told mid v) (subst (λ (w : View). AllBegin kept (sight w told).heard) joins all) in
      let first = begin_left kept (sight mid told).heard ((sight v told).last.kept ∷ (sight v told).heard) here in
      subst (λ (s : Sight). AllBegin kept s.heard) (giving_sight told m.id.0 root) (heard_before told kept (giving m.id.0 root) ms mid rest more first)

  -- each knew a beginning of what is kept, and the root knows of its member what it knew
  all_lift : (told : Bool) (top low : View) (kept : List Entry) (at : ℕ)
      → ((v : View) (j : ℕ) → at ≤ j → KnowsAs low v told j → KnowsAs top v told j)
      → (root : View) (ms : List Member) (end : View) (answer : Status) (raced : RacedOn tells entry steps root ms end answer)
      → AreFrom at ms → AllKnow told low kept root ms end answer raced → AllKnow told top kept root ms end answer raced
  all_lift told top low kept at lift root [] end answer raced from all = tt
  all_lift told top low kept at lift root (m ∷ ms) end answer (mid, v, one, rest, more, raced, joins, least_is) from all = (
    lift v m.id.0 (let e = ap (λ (k : MemberId). k.0) from.0 in omega (arith, e)) all.0,
    all.1,
    all_lift told top low kept (at + 1) (λ w j le. lift w j (omega (arith, le))) (giving m.id.0 root) ms mid rest more from.1 all.2,
  )

  pub all_know : (told : Bool) (kept : List Entry) (at : ℕ) (root : View) (ms : List Member) (end : View) (answer : Status)
      → (raced : RacedOn tells entry steps root ms end answer) → AreFrom at ms → AllBegin kept (sight end told).heard
      → AllKnow told end kept root ms end answer raced
  all_know told kept at root [] end answer raced from all = tt
  all_know told kept at root (m ∷ ms) end answer (mid, v, one, rest, more, raced, joins, least_is) from all =
      let here : AllBegin kept ((sight mid told).heard ++ (sight v told).last.kept ∷ (sight v told).heard) =
      subst (λ (s : Sight). AllBegin kept s.heard) (joined_sight told mid v) (subst (λ (w : View). AllBegin kept (sight w told).heard) joins all) in
      let own : v.cares ≡ single m.id.0 = raced.cares in
      let number = ap (λ (k : MemberId). k.0) from.0 in
      let tail = all_know told kept (at + 1) (giving m.id.0 root) ms mid rest more from.1 (begin_left kept (sight mid told).heard ((sight v told).last.kept ∷ (sight v told).heard) here) in (
        subst (λ (w : View). KnowsAs w v told m.id.0) (sym joins) (knows_joined told mid v m.id.0 own),
        (begin_right kept (sight mid told).heard ((sight v told).last.kept ∷ (sight v told).heard) here).0,
        all_lift told end mid kept (at + 1) (λ w j le k. subst (λ (z : View). KnowsAs z w told j) (sym joins)
            (knows_still told mid v m.id.0 own w j (λ e. absurd (omega (arith, le, e, number))) k))
            (giving m.id.0 root) ms mid rest more from.1 tail,
      )

  -- WHAT THE ROOT HAD of itself it has still
  pub record IsRootStill (root end : View) (told : Bool) : Type 0 where
    pub member : end.member ≡ root.member
    pub free : end.has ≡ root.has
    pub base : (sight end told).last.base ≡ (sight root told).last.base
    pub since : (sight end told).last.marks.since ≡ (sight root told).last.marks.since

  pub root_still : (told : Bool) (root : View) (ms : List Member) (end : View) (answer : Status)
      → RacedOn tells entry steps root ms end answer → IsRootStill root end told
  root_still told root [] end answer raced = record {
    member = ap (λ (w : View). w.member) raced.0;
    free = ap (λ (w : View). w.has) raced.0;
    base = ap (λ (w : View). (sight w told).last.base) raced.0;
    since = ap (λ (w : View). (sight w told).last.marks.since) raced.0;
  }
  root_still told root (m ∷ ms) end answer (mid, v, one, rest, more, raced, joins, least_is) =
      let t = root_still told (giving m.id.0 root) ms mid rest more in
      record {
        member = ap (λ (w : View). w.member) joins ∙ t.member;
        free = ap (λ (w : View). w.has) joins ∙ t.free;
        base = ap (λ (w : View). (sight w told).last.base) joins ∙ ap (λ (s : Sight). s.last.base) (joined_sight told mid v) ∙ t.base
            ∙ ap (λ (s : Sight). s.last.base) (giving_sight told m.id.0 root);
        since = ap (λ (w : View). (sight w told).last.marks.since) joins ∙ ap (λ (s : Sight). s.last.marks.since) (joined_sight told mid v) ∙ t.since
            ∙ ap (λ (s : Sight). s.last.marks.since) (giving_sight told m.id.0 root);
      }

  -- and what it knew of the operator
  pub root_known : (told : Bool) (at : ℕ) (root : View) (ms : List Member) (end : View) (answer : Status)
      → RacedOn tells entry steps root ms end answer → 0 < at → AreFrom at ms → marked_at root.cares 0 ≡ true → KnowsAs end root told 0
  root_known told at root [] end answer raced some from cares =
      subst (λ (w : View). KnowsAs w root told 0) (sym raced.0) (record { cares = cares; begun = refl; lines = refl })
  root_known told at root (m ∷ ms) end answer (mid, v, one, rest, more, raced, joins, least_is) some from cares =
      let e = ap (λ (k : MemberId). k.0) from.0 in
      let own : v.cares ≡ single m.id.0 = raced.cares in
      let cares_still : marked_at (giving m.id.0 root).cares 0 ≡ true = get_or-set_other root.cares m.id.0 0 false false (λ z. absurd (omega (arith, z, some, e))) ∙ cares in
      let t = root_known told (at + 1) (giving m.id.0 root) ms mid rest more (omega arith) from.1 cares_still in
      let here : KnowsAs mid root told 0 = record {
        cares = t.cares;
        begun = t.begun ∙ ap (λ (s : Sight). begun_of s.last 0) (giving_sight told m.id.0 root);
        lines = t.lines ∙ ap (λ (s : Sight). lines_of s.last 0) (giving_sight told m.id.0 root);
      } in
      subst (λ (w : View). KnowsAs w root told 0) (sym joins) (knows_still told mid v m.id.0 own root 0 (λ z. absurd (omega (arith, z, some, e))) here)
