-- What the operator does before the members begin, line by line.
use Rattle.std.proofs.Common.{◌≡◌, ◌∙◌, ◌+◌, ◌<◌, ◌≤◌, ◌&&◌, not, nat_le, nat_lt, ℕ, zero, suc, Bool, true, false, if◌then◌else◌, List, [], ◌∷◌, ◌++◌, drop, get_or, length, map, take, All, append-nil, append_assoc, Result, Ok, Err, refl, sym, ap, subst, arith}
use Rattle.std.proofs.lemmas.Bool.{and_parts as both, and_right as none_out, eqb-true, ne_eqb}
use Rattle.std.proofs.lemmas.Bool.Decides.{nat_tests}
use Rattle.std.proofs.lemmas.List.{length-append, length-take, map-append, take-append-drop, take-append-le, take_all}
use Rattle.std.proofs.lemmas.List.Elements.{All-weaker}
use Rattle.mas_types.specs.declared.ids.MemberId.{MemberId}
use Rattle.mas_types.specs.declared.journals.Batch.{Batch}
use Rattle.mas_types.specs.declared.journals.Entry.{Entry}
use Rattle.mas_types.specs.Closings.{closing_line}
use Rattle.mas_types.specs.Ids.{is_somebody, same_member}
use Rattle.mas_types.specs.Limits.{members_most}
use Rattle.mas_types.specs.Queue.{is_member}
use Rattle.script_lang.specs.declared.types.Ask.{Ask}
use Rattle.script_lang.specs.declared.types.Ask.TheVariants as ask
use Rattle.script_lang.specs.declared.types.Step.{Step}
use Rattle.script_laws.specs.Grammar.{MayRace}
use Rattle.script_laws.specs.Limits.{IsBy}
use Rattle.spool_plant.specs.declared.plant.Fuse.{Fuse}
use Rattle.spool_plant.specs.declared.plant.Part.TheVariants.{Console, Disk}
use Rattle.spool_plant.specs.declared.plant.Plant.{Ghosts as PlantGhosts}
use Rattle.spool_plant.specs.View.{View, disk_now}
use Rattle.spool_plant.specs.Acts.{Arms, next}
use Rattle.ckpt_copy.specs.declared.copying.Copying.{Ghosts as CopyGhosts}
use Rattle.ckpt_form.specs.declared.steady.Steady.{Ghosts as SteadyGhosts}
use Rattle.lock_cycle.specs.Books.{is_stopped}
use Rattle.mas_complex.specs.Headline.{whole}
use Rattle.mas_complex.specs.declared.complex.Complex.{Complex}
use Rattle.mas_complex.specs.Journals.{in_flight}
use Rattle.mas_complex.specs.Parts.{Parts, parts_of}
use Rattle.member_node.specs.Calls.{console_now}
use Rattle.member_node.specs.declared.member.NodeNo.{NodeNo}
use Rattle.member_steps.specs.Steps.{AreKeptFrom}
use Rattle.member_lines.proofs.Earlier.{earlier_kept}
use Rattle.member_lines.specs.Stops.{ArmsIf, ArmsStop}
use Rattle.run_turns.specs.Scenes.{scene_of}
use Rattle.run_turns.specs.Admissions.{no_member}
use Rattle.race_turns.specs.Races.{is_raced}
use Rattle.run_opening.proofs.ProceedLemmas.{proceeds_none, proceeds_on}
use Rattle.race_ends.specs.Before.{IsOne, armed_by, arms_one, if_refused, is_refused, is_stop_in, refused_lines}
use Rattle.race_ends.specs.Prepared.{HasPrepared, MayPrepare, step_by}

-- NO ENTRY IS OF A LINE

pub kept_before : (by : MemberId) (at now : ℕ) (bs : List Batch) → 1 ≤ at → All (λ (b : Batch). All (λ (e : Entry). e.step < 1) b.entries) bs → AreKeptFrom by at bs now
kept_before by at now bs some are =
    earlier_kept by at now bs (All-weaker (λ (b : Batch). All (λ (e : Entry). e.step < 1) b.entries) (λ (b : Batch). All (λ (e : Entry). e.step < at) b.entries)
    (λ b of. All-weaker (λ (e : Entry). e.step < 1) (λ (e : Entry). e.step < at) (λ e less. omega (arith, less, some)) b.entries of) bs are)

-- LINES ONE AFTER ANOTHER

take_next : (lines : List Step) (k : ℕ) (line : Step) → k < length lines → line ≡ get_or lines k line → take (k + 1) lines ≡ take k lines ++ line ∷ []
take_next [] k line lt is = absurd (omega (arith, lt))
take_next (s ∷ lines) zero line lt is = ap (λ (t : Step). t ∷ []) (sym is)
take_next (s ∷ lines) (suc k) line lt is =
    let e : suc k + 1 ≡ suc (k + 1) = omega arith in
    ap (λ (n : ℕ). take n (s ∷ lines)) e ∙ ap (λ (ts : List Step). s ∷ ts) (take_next lines k line (omega (arith, lt)) is)

pub lines_on : (members at : ℕ) (front back : List Step) → refused_lines members at (front ++ back) ≡ refused_lines members at front ++ refused_lines members (at + length front) back
lines_on members at [] back = ap (λ (n : ℕ). refused_lines members n back) (omega arith)
lines_on members at (s ∷ front) back =
    ap (if_refused (is_refused members s) (closing_line s.by at no_member)) (lines_on members (at + 1) front back
    ∙ ap (λ (n : ℕ). refused_lines members (at + 1) front ++ refused_lines members n back) (omega arith))
    ∙ one_more (is_refused members s) (closing_line s.by at no_member) (refused_lines members (at + 1) front) (refused_lines members (at + suc (length front)) back)
  where
    one_more : (b : Bool) (line : List ℕ) (xs ys : List (List ℕ)) → if_refused b line (xs ++ ys) ≡ if_refused b line xs ++ ys
    one_more true line xs ys = refl
    one_more false line xs ys = refl

pub armed_on : (members : ℕ) (m : MemberId) (front back : List Step) (arms : ℕ) → armed_by members m (front ++ back) arms ≡ armed_by members m back (armed_by members m front arms)
armed_on members m [] back arms = refl
armed_on members m (s ∷ front) back arms = armed_on members m front back (if arms_one members m s then next arms else arms)

take_front : (front back : List Step) (n : ℕ) → take (length front + n) (front ++ back) ≡ front ++ take n back
take_front [] back n = ap (λ (k : ℕ). take k back) (omega arith)
take_front (s ∷ front) back n =
    ap (λ (k : ℕ). take k (s ∷ front ++ back)) (let e : length (s ∷ front) + n ≡ suc (length front + n) = omega arith in e) ∙ ap (λ (ss : List Step). s ∷ ss) (take_front front back n)

module _ {P C : Type 0} (plants : PlantGhosts P) where
  abbrev v : Parts P C → View
  v x = plants.view x.plant

  -- before any of them
  pub prepared_none : (at : ℕ) (x : Parts P C) → HasPrepared plants at [] x x (Ok tt)
  prepared_none at x = record {
    goes = proceeds_none (v x);
    lost = λ d. refl;
    faults = λ d. refl;
    stops = λ m. refl;
    loses = λ d. refl;
    disks = λ t d. refl;
    seen = 0;
    few = omega arith;
    all = λ is. refl;
    arms = λ m one. refl;
    console = λ t. sym (append-nil (console_now (v x)));
    cause = ((λ is. cc), (λ is. cc));
    failed = λ is. absurd (cc);
  }

  -- these after those
  module _ (at : ℕ) (front back : List Step) (x m y : Parts P C) (r : Result (Unit {0}) NodeNo) (base : m.base ≡ x.base)
      (one : HasPrepared plants at front x m (Ok tt)) (two : HasPrepared plants (at + length front) back m y r) where
    abbrev members : ℕ
    members = x.base.config.members

    same_members : m.base.config.members ≡ x.base.config.members
    same_members = ap (λ Q. Q.config.members) base

    front_all : take one.seen front ≡ front
    front_all = ap (λ (n : ℕ). take n front) (one.all refl) ∙ take_all (length front) front (omega arith)

    both_seen : take (length front + two.seen) (front ++ back) ≡ front ++ take two.seen back
    both_seen = take_front front back two.seen

    pub prepared_on : HasPrepared plants at (front ++ back) x y r
    prepared_on = record {
      goes = proceeds_on (v x) (v m) (v y) one.goes two.goes;
      lost = λ d. two.lost d ∙ one.lost d;
      faults = λ d. two.faults d ∙ one.faults d;
      stops = λ k. two.stops k ∙ one.stops k;
      loses = λ d. two.loses d ∙ one.loses d;
      disks = λ t d. two.disks t d ∙ one.disks t d;
      seen = length front + two.seen;
      few = (let few = two.few in let all = length-append front back in omega (arith, few, all));
      all = λ is. (let all = two.all is in let many = length-append front back in omega (arith, all, many));
      arms = λ k is.
          two.arms k (subst (λ (n : ℕ). (0 < k.0) × (k.0 ≤ n)) (sym same_members) is)
          ∙ ap (λ (n : ℕ). armed_by n k (take two.seen back) ((v m).arms k.0)) same_members
          ∙ ap (armed_by members k (take two.seen back)) (one.arms k is ∙ ap (λ (ss : List Step). armed_by members k ss ((v x).arms k.0)) front_all)
          ∙ sym (armed_on members k front (take two.seen back) ((v x).arms k.0))
          ∙ ap (λ (ss : List Step). armed_by members k ss ((v x).arms k.0)) (sym both_seen);
      console = λ t.
          two.console t
          ∙ ap (λ (n : ℕ). console_now (v m) ++ map whole (refused_lines n (at + length front) (take two.seen back))) same_members
          ∙ ap (λ ls. ls ++ map whole (refused_lines members (at + length front) (take two.seen back)))
          (one.console t ∙ ap (λ (ss : List Step). console_now (v x) ++ map whole (refused_lines members at ss)) front_all)
          ∙ append_assoc (console_now (v x)) (map whole (refused_lines members at front)) (map whole (refused_lines members (at + length front) (take two.seen back)))
          ∙ ap (λ ls. console_now (v x) ++ ls) (sym (map-append whole (refused_lines members at front) (refused_lines members (at + length front) (take two.seen back)))
          ∙ ap (map whole) (sym (lines_on members at front (take two.seen back)) ∙ ap (refused_lines members at) (sym both_seen)));
      cause = two.cause;
      failed = λ is. (let rose = two.failed is in let before = one.goes.faults Console in omega (arith, rose, before));
    }

  -- more lines follow, which were not gone through
  pub prepared_more : (at : ℕ) (front back : List Step) (x y : Parts P C) (e : NodeNo) → HasPrepared plants at front x y (Err e) → HasPrepared plants at (front ++ back) x y (Err e)
  prepared_more at front back x y e h =
      let same : take h.seen (front ++ back) ≡ take h.seen front = take-append-le h.seen front back h.few in
      record {
        goes = h.goes;
        lost = h.lost;
        faults = h.faults;
        stops = h.stops;
        loses = h.loses;
        disks = h.disks;
        seen = h.seen;
        few = (let few = h.few in let all = length-append front back in omega (arith, few, all));
        all = λ is. absurd (cc);
        arms = λ m one. h.arms m one ∙ ap (λ (ss : List Step). armed_by x.base.config.members m ss ((v x).arms m.0)) (sym same);
        console = λ t. h.console t ∙ ap (λ (ss : List Step). console_now (v x) ++ map whole (refused_lines x.base.config.members at ss)) (sym same);
        cause = h.cause;
        failed = h.failed;
      }

  -- ONE LINE

  module _ (at : ℕ) (s : Step) (x y : Parts P C) where
    -- of a member that is none: any line of it closes so
    same_lines : is_raced s.what ≡ true → (n : ℕ) → refused_lines x.base.config.members at (take n (step_by s.by ∷ [])) ≡ refused_lines x.base.config.members at (take n (s ∷ []))
    same_lines raced zero = refl
    same_lines raced (suc n) = ap (λ (t : Bool). if_refused (t && nat_lt x.base.config.members s.by.0) (closing_line s.by at no_member) (refused_lines x.base.config.members (at + 1) (take n []))) (sym raced)

    same_arms : is_stop_in s.what ≡ false → (n : ℕ) (m : MemberId) (arms : ℕ) → armed_by x.base.config.members m (take n (step_by s.by ∷ [])) arms ≡ armed_by x.base.config.members m (take n (s ∷ [])) arms
    same_arms no_stop zero m arms = refl
    same_arms no_stop (suc n) m arms =
        ap (λ (t : Bool). armed_by x.base.config.members m (take n []) (if t && same_member s.by m && not (nat_lt x.base.config.members s.by.0) then next arms else arms)) (sym no_stop)

    pub prepared_as : (r : Result (Unit {0}) NodeNo) → is_raced s.what ≡ true → is_stop_in s.what ≡ false → HasPrepared plants at (step_by s.by ∷ []) x y r → HasPrepared plants at (s ∷ []) x y r
    prepared_as r raced no_stop h = record {
      goes = h.goes;
      lost = h.lost;
      faults = h.faults;
      stops = h.stops;
      loses = h.loses;
      disks = h.disks;
      seen = h.seen;
      few = h.few;
      all = h.all;
      arms = λ m one. h.arms m one ∙ same_arms no_stop h.seen m ((v x).arms m.0);
      console = λ t. h.console t ∙ ap (λ (ls : List (List ℕ)). console_now (v x) ++ map whole ls) (same_lines raced h.seen);
      cause = h.cause;
      failed = h.failed;
    }

    -- that changes no more than how often stops are armed
    prepared_arms : (v y) ≡ record (v x) { arms = (v y).arms }
        → ((m : MemberId) → IsOne x.base.config.members m → (v y).arms m.0 ≡ (if arms_one x.base.config.members m s then next ((v x).arms m.0) else (v x).arms m.0))
        → is_refused x.base.config.members s ≡ false → HasPrepared plants at (s ∷ []) x y (Ok tt)
    prepared_arms same arms kept =
        record {
          goes = record {
            later = (let e = ap (λ (z : View). z.now) same in omega (arith, e));
            past = λ t le. ap (λ (z : View). z.world t) same;
            size = λ d. ap (λ (z : View). z.size d) same;
            faults = λ p. (let e = ap (λ (z : View). z.faults p) same in omega (arith, e));
            stops = λ m. (let e = ap (λ (z : View). z.stops m) same in omega (arith, e));
            lost = λ p other is. ap (λ (z : View). z.lost p) same ∙ is;
          };
          lost = λ d. ap (λ (z : View). z.lost (Disk d)) same;
          faults = λ d. ap (λ (z : View). z.faults (Disk d)) same;
          stops = λ m. ap (λ (z : View). z.stops m) same;
          loses = λ d. ap (λ (z : View). z.loses d) same;
          disks = λ t d. ap (λ (z : View). disk_now z d) same;
          seen = 1;
          few = omega arith;
          all = λ is. refl;
          arms = arms;
          console = λ t.
              ap console_now same ∙ sym (append-nil (console_now (v x)))
              ∙ ap (λ (t : Bool). console_now (v x) ++ map whole (if_refused t (closing_line s.by at no_member) [])) (sym kept);
          cause = ((λ is. cc), (λ is. cc));
          failed = λ is. absurd (cc);
        }

    -- of a member that plays it in turns
    pub prepared_later : y.plant ≡ x.plant → is_stop_in s.what ≡ false → s.by.0 ≤ x.base.config.members → HasPrepared plants at (s ∷ []) x y (Ok tt)
    prepared_later same no_stop le =
        let view : v y ≡ v x = ap plants.view same in
        let within : nat_lt x.base.config.members s.by.0 ≡ false = grind (arith, nat_tests, le) in
        prepared_arms (view ∙ (λ i. record (v x) { arms = (sym view i).arms }))
        (λ m one. ap (λ (z : View). z.arms m.0) view
        ∙ ap (λ (t : Bool). if t && same_member s.by m && not (nat_lt x.base.config.members s.by.0) then next ((v x).arms m.0) else (v x).arms m.0) (sym no_stop))
        (none_out (is_raced s.what) (nat_lt x.base.config.members s.by.0) within)

    -- a stop that is armed
    module _ (fuse : Fuse) (n : ℕ) (is : s.what ≡ ask.StopIn fuse n) where
      not_refused : is_refused x.base.config.members s ≡ false
      not_refused = ap (λ (what : Ask). is_raced what && nat_lt x.base.config.members s.by.0) is

      arms_by : (m : MemberId) → arms_one x.base.config.members m s ≡ (same_member s.by m && not (nat_lt x.base.config.members s.by.0))
      arms_by m = ap (λ (what : Ask). is_stop_in what && same_member s.by m && not (nat_lt x.base.config.members s.by.0)) is

      pub prepared_armed : is_member x.base.config s.by ≡ true → Arms s.by.0 (v x) (v y) → HasPrepared plants at (s ∷ []) x y (Ok tt)
      prepared_armed member a = prepared_arms a.same counts not_refused where
        within : nat_lt x.base.config.members s.by.0 ≡ false
        within = (let le : nat_le s.by.0 x.base.config.members ≡ true = (both (is_somebody s.by) (nat_le s.by.0 x.base.config.members) member).1 in grind (arith, nat_tests))

        counts : (m : MemberId) → IsOne x.base.config.members m → (v y).arms m.0 ≡ (if arms_one x.base.config.members m s then next ((v x).arms m.0) else (v x).arms m.0)
        counts m one = by_same (same_member s.by m) refl where
          by_same : (t : Bool) → same_member s.by m ≡ t → (v y).arms m.0 ≡ (if arms_one x.base.config.members m s then next ((v x).arms m.0) else (v x).arms m.0)
          by_same true its =
              let e : s.by.0 ≡ m.0 = eqb-true s.by.0 m.0 its in
              let on : arms_one x.base.config.members m s ≡ true = arms_by m ∙ ap (λ (t : Bool). t && not (nat_lt x.base.config.members s.by.0)) its ∙ ap not within in
              ap (v y).arms (sym e) ∙ a.counted ∙ ap (λ (k : ℕ). next ((v x).arms k)) e ∙ ap (λ (t : Bool). if t then next ((v x).arms m.0) else (v x).arms m.0) (sym on)
          by_same false other =
              let off : arms_one x.base.config.members m s ≡ false = arms_by m ∙ ap (λ (t : Bool). t && not (nat_lt x.base.config.members s.by.0)) other in
              a.else_counted m.0 (λ e. absurd (let its : same_member s.by m ≡ true = grind (arith, e) in let bad : true ≡ false = sym its ∙ other in cc))
              ∙ ap (λ (t : Bool). if t then next ((v x).arms m.0) else (v x).arms m.0) (sym off)

      -- of a member that is none nothing is armed
      pub prepared_unarmed : 0 < s.by.0 → is_member x.base.config s.by ≡ false → y.plant ≡ x.plant → HasPrepared plants at (s ∷ []) x y (Ok tt)
      prepared_unarmed some none same =
          let view : v y ≡ v x = ap plants.view same in
          prepared_arms (view ∙ (λ i. record (v x) { arms = (sym view i).arms }))
          (λ m one. ap (λ (z : View). z.arms m.0) view
          ∙ ap (λ (t : Bool). if t then next ((v x).arms m.0) else (v x).arms m.0) (sym (arms_by m ∙ not_both (same_member s.by m) (nat_lt x.base.config.members s.by.0) out)))
          not_refused
        where
          out : nat_lt x.base.config.members s.by.0 ≡ true
          out =
              let is : is_somebody s.by ≡ true = ap not (ne_eqb s.by.0 0 (λ e. absurd (omega (arith, e, some)))) in
              let above : nat_le s.by.0 x.base.config.members ≡ false = ap (λ (t : Bool). t && nat_le s.by.0 x.base.config.members) (sym is) ∙ none in
              grind (arith, nat_tests)

          not_both : (a b : Bool) → b ≡ true → (a && not b) ≡ false
          not_both true b is = ap not is
          not_both false b is = refl

-- WHAT A LINE OF A RACE ASKS FOR

pub raced_or : (what : Ask) → MayRace what → ((fuse : Fuse) (n : ℕ) → what ≡ ask.StopIn fuse n → ⊥) → (is_raced what ≡ true) × (is_stop_in what ≡ false)
raced_or (ask.Deck cards) may other = (refl, refl)
raced_or (ask.Command c) may other = (refl, refl)
raced_or (ask.Work n) may other = (refl, refl)
raced_or ask.Lock may other = absurd may
raced_or ask.Free may other = absurd may
raced_or (ask.Line n) may other = absurd may
raced_or (ask.Replace dev) may other = absurd may
raced_or ask.Stop may other = absurd may
raced_or (ask.StopIn fuse n) may other = absurd (other fuse n refl)
raced_or (ask.Lose dev) may other = absurd may

pub few_by : (by : MemberId) (what : Ask) → MayRace what → IsBy by what → (1 ≤ by.0) × (by.0 ≤ members_most)
few_by by (ask.Deck cards) may is = is
few_by by (ask.Command c) may is = is
few_by by (ask.Work n) may is = is
few_by by ask.Lock may is = is
few_by by ask.Free may is = is
few_by by (ask.Line n) may is = is
few_by by (ask.Replace dev) may is = is
few_by by ask.Stop may is = is
few_by by (ask.StopIn fuse n) may is = is
few_by by (ask.Lose dev) may is = absurd may

-- OVER THE SHARED VALUE

module _ {P C : Type 0} {plants : PlantGhosts P} {steadies : SteadyGhosts C} {copies : CopyGhosts C} where
  pub may_still : (x y : Complex P C plants steadies copies) → parts_of y ≡ record (parts_of x) { plant = y.plant } → MayPrepare x → MayPrepare y
  may_still x y frame may = record {
    members = subst (λ (z : Parts P C). length z.book.members ≡ z.base.config.members) (sym frame) may.members;
    up = λ m. subst (λ (z : Parts P C). is_stopped z.book m ≡ false) (sym frame) (may.up m);
    earlier = subst (λ (z : Parts P C). All (λ (b : Batch). All (λ (e : Entry). e.step < 1) b.entries) (z.batches ++ in_flight z.current)) (sym frame) may.earlier;
  }

  module _ (x y : Complex P C plants steadies copies) (at : ℕ) (s : Step) (fuse : Fuse) (n : ℕ) (is : s.what ≡ ask.StopIn fuse n) (some : 0 < s.by.0)
      (up : (m : MemberId) → is_stopped x.book m ≡ false) (arms : ArmsStop s.by x y) where
    pub armed_line : HasPrepared plants at (s ∷ []) (parts_of x) (parts_of y) (Ok tt)
    armed_line = by_member (is_member x.base.config s.by) refl where
      armed : ArmsIf (if is_member x.base.config s.by then not (is_stopped x.book s.by) else false) s.by x y
      armed = arms (record (scene_of x.base) { book = x.book }) (record { book = refl; config = refl })

      by_member : (t : Bool) → is_member x.base.config s.by ≡ t → HasPrepared plants at (s ∷ []) (parts_of x) (parts_of y) (Ok tt)
      by_member true member =
          let on : (if is_member x.base.config s.by then not (is_stopped x.book s.by) else false) ≡ true = ap (λ (t : Bool). if t then not (is_stopped x.book s.by) else false) member ∙ ap not (up s.by) in
          prepared_armed plants at s (parts_of x) (parts_of y) fuse n is member (subst (λ (t : Bool). ArmsIf t s.by x y) on armed)
      by_member false none =
          let off : (if is_member x.base.config s.by then not (is_stopped x.book s.by) else false) ≡ false = ap (λ (t : Bool). if t then not (is_stopped x.book s.by) else false) none in
          prepared_unarmed plants at s (parts_of x) (parts_of y) fuse n is some none (subst (λ (t : Bool). ArmsIf t s.by x y) off armed)

  -- THE NEXT OF THEM

  module _ (lines : List Step) (k number : ℕ) (line : Step) (is_number : number ≡ k) (lt : k < length lines) (is : line ≡ get_or lines k line) (x m y : Complex P C plants steadies copies)
      (frame : parts_of m ≡ record (parts_of x) { plant = m.plant }) (one : HasPrepared plants 1 (take k lines) (parts_of x) (parts_of m) (Ok tt)) where
    many : length (take k lines) ≡ k
    many = (let e = length-take k lines in omega (arith, e, lt))

    module _ (r : Result (Unit {0}) NodeNo) (two : HasPrepared plants (number + 1) (line ∷ []) (parts_of m) (parts_of y) r) where
      next_of : HasPrepared plants 1 (take k lines ++ line ∷ []) (parts_of x) (parts_of y) r
      next_of = prepared_on plants 1 (take k lines) (line ∷ []) (parts_of x) (parts_of m) (parts_of y) r (ap (λ (z : Parts P C). z.base) frame) one
          (subst (λ (n : ℕ). HasPrepared plants n (line ∷ []) (parts_of m) (parts_of y) r) (omega (arith, is_number, many)) two)

    pub then_prepared : HasPrepared plants (number + 1) (line ∷ []) (parts_of m) (parts_of y) (Ok tt) → HasPrepared plants 1 (take (k + 1) lines) (parts_of x) (parts_of y) (Ok tt)
    then_prepared two = subst (λ (ss : List Step). HasPrepared plants 1 ss (parts_of x) (parts_of y) (Ok tt)) (sym (take_next lines k line lt is)) (next_of (Ok tt) two)

    pub then_refused : (e : NodeNo) → HasPrepared plants (number + 1) (line ∷ []) (parts_of m) (parts_of y) (Err e) → HasPrepared plants 1 lines (parts_of x) (parts_of y) (Err e)
    then_refused e two =
        subst (λ (ss : List Step). HasPrepared plants 1 ss (parts_of x) (parts_of y) (Err e))
        (ap (λ (ss : List Step). ss ++ drop (k + 1) lines) (sym (take_next lines k line lt is)) ∙ take-append-drop (k + 1) lines)
        (prepared_more plants 1 (take k lines ++ line ∷ []) (drop (k + 1) lines) (parts_of x) (parts_of y) e (next_of (Err e) two))
