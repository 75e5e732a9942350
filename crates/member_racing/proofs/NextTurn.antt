-- After a turn that went well the member waits for its next one.
use Rattle.std.proofs.Common.{◌≡◌, ◌≢◌, ◌∙◌, ◌⊎◌, inl, inr, ⊎_elim, ℕ, ◌+◌, ◌≤◌, ◌<◌, ◌^◌, true, List, [], ◌∷◌, ◌++◌, append-nil, codes, All, IfOk, Result, Ok, Err, ap, refl, subst, sym, arith}
use Rattle.std.proofs.lemmas.List.Elements.{All-head, All-tail, All-weaker}
use Rattle.mas_types.specs.declared.ids.MemberId.{MemberId}
use Rattle.mas_types.specs.declared.journals.Entry.{Entry}
use Rattle.mas_types.specs.declared.queues.Queue.{Queue}
use Rattle.mas_types.specs.Closings.{closing_text}
use Rattle.mas_types.specs.Fit.{IsConfig}
use Rattle.mas_types.specs.Limits.{steps_most}
use Rattle.mas_types.specs.Queue.{is_member}
use Rattle.mas_types.specs.Sound.{IsSound}
use Rattle.lock_cycle.specs.Books.{Book, is_stopped}
use Rattle.spool_plant.specs.declared.plant.Plant.{Ghosts as PlantGhosts}
use Rattle.spool_plant.specs.View.{Line, View}
use Rattle.ckpt_copy.specs.declared.copying.Copying.{Ghosts as CopyGhosts}
use Rattle.ckpt_form.specs.declared.steady.Steady.{Ghosts as SteadyGhosts}
use Rattle.mas_complex.specs.declared.complex.Complex.{Complex}
use Rattle.mas_complex.specs.Parts.{Parts, parts_of}
use Rattle.mas_race.specs.Between.{BetweenTurns}
use Rattle.script_lang.specs.declared.types.Ask.{Ask}
use Rattle.run_turns.specs.Admissions.{Admission, Denied, Frees, Locks, Plays, Refused, Replaces, Resets, TakesOver, Unplayed, admitted}
use Rattle.member_node.specs.declared.member.Member.{Member}
use Rattle.member_node.specs.declared.member.NodeNo.{NodeNo}
use Rattle.member_node.specs.declared.member.NodeNo.TheVariants as no_node
use Rattle.member_node.specs.Calls.{console_now}
use Rattle.member_lines.proofs.Earlier.{line_of}
use Rattle.member_sittings.specs.Whole.{HasUntold}
use Rattle.member_resets.specs.Plays.{played_in}
use Rattle.member_resets.proofs.BookLemmas.{stopped_now}
use Rattle.member_resets.proofs.ToldLemmas.{Untells, untold_then, whole_later}
use Rattle.member_racing.specs.Asked.{IsAsked, IsKnown}
use Rattle.member_racing.specs.Opened.{GoesAs, IsIdleTurn, OpensAs, Tries}
use Rattle.member_racing.specs.Stages.{first_unsaid}
use Rattle.member_racing.specs.Turning.{EndsTurn, closed_by, raced_at}
use Rattle.member_racing.specs.Waits.{HasEase, MayActNext, MaySitNext, Waits, WaitsAt, given_by}
use Rattle.member_racing.specs.declared.stages.Stage.{Stage as Stands}
use Rattle.member_racing.specs.declared.stages.Stage.TheVariants as line
use Rattle.member_racing.proofs.Adding.{end_base}
use Rattle.member_racing.proofs.BackParts.{not_both}
use Rattle.member_racing.proofs.BooksEnd.{halted_book}
use Rattle.member_racing.proofs.BooksTurn.{inside_only}
use Rattle.member_racing.proofs.Easing.{ease_as}
use Rattle.member_racing.proofs.Given.{steps_after}
use Rattle.member_racing.proofs.OwnEntries.{MayFly}
use Rattle.member_racing.proofs.TurnLeft.{IsOwnText, OwnLines}
use Rattle.member_racing.proofs.TurnParts.{acts_end, adds_end, inside, only_tried, stops_end}

-- A LINE OF A STEP tells no later one

own_step : (by : MemberId) (at : ℕ) (text : List ℕ) → IsOwnText by at text → (after : List ℕ) × (text ≡ line_of by at after)
own_step by at text own = ⊎_elim
    (λ closing. (closing_text closing.0, closing.1))
    (λ detail. (codes "-" ++ 32 ∷ detail.0, detail.1)) own

own_untells : (by : MemberId) (at k : ℕ) → at < k → k < 2 ^ 64 → (es : List Entry) → All (λ (e : Entry). e.step ≡ k) es → (ls : List Line) → OwnLines by at ls → Untells es ls
own_untells by at k less small es of [] own = tt
own_untells by at k less small es of (l ∷ ls) own =
    let Own : Line → Type 0 = λ (l : Line). l.whole ≡ true → IsOwnText by at l.text in (
      (λ is m s closes. (whole_later by at k less small es of (l.text ∷ []) (own_step by at l.text (All-head Own l ls own is), tt)).0 refl m s closes),
      own_untells by at k less small es of ls (All-tail Own l ls own),
    )

-- ANSWERS

ok_stands : (p q : Stands) (r : Result Stands NodeNo) → r ≡ Ok p → r ≡ Ok q → p ≡ q
ok_stands p q r one two = let same : Ok p ≡ r = sym one in let both : Ok p ≡ Ok q = same ∙ two in cc

no_err : (e : NodeNo) (q : Stands) (r : Result Stands NodeNo) → r ≡ Err e → r ≡ Ok q → ⊥
no_err e q r one two = absurd (let both : Err e ≡ Ok q = sym one ∙ two in cc)

said_closed : (said : Result (Unit {0}) NodeNo) (q : Stands) → closed_by said ≡ Ok q → q ≡ line.Closed
said_closed (Ok done) q is = let same : line.Closed ≡ q = cc in sym same
said_closed (Err e) q is = absurd (cc)

module _ {P C : Type 0} {plants : PlantGhosts P} {steadies : SteadyGhosts C} {copies : CopyGhosts C} (x mid : Complex P C plants steadies copies) (m n : Member) (at : ℕ) (what : Ask) (s : Stands) (tried : Result Stands NodeNo) (rest : BetweenTurns x) (waits : Waits x m at what s)
    (tries : Tries (raced_at m.id at what s) x mid m n tried) (y : Complex P C plants steadies copies) (result : Result Stands NodeNo) (ends : EndsTurn m.id at mid y tried result)
    (frame : parts_of mid ≡ played_in (parts_of mid) (parts_of x)) (id : n.id ≡ m.id) (ease : IfOk tried (λ q. HasEase mid n))
    (said : plants.tells → (more : List Line) × (console_now (plants.view y.plant) ≡ console_now (plants.view x.plant) ++ more) × OwnLines m.id at more)
    (unclosed : plants.tells → IfOk result (λ q. q ≢ line.Closed → console_now (plants.view y.plant) ≡ console_now (plants.view x.plant)))
    (stands : (q : Stands) → result ≡ Ok q → WaitsAt plants copies (parts_of y) n at q) where
  abbrev by : MemberId
  by = m.id

  base : y.base ≡ x.base
  base = (end_base by at mid y tried result ends).base ∙ ap (λ (q : Parts P C). q.base) frame

  since : y.since ≡ x.since
  since = (end_base by at mid y tried result ends).since ∙ ap (λ (q : Parts P C). q.since) frame

  -- HOW IT ENDED: as it was tried, or its line has closed with the stop of its member

  ended_ok : (t : Result Stands NodeNo) → EndsTurn by at mid y t result → (q : Stands) → result ≡ Ok q → (t ≡ Ok q) ⊎ (q ≡ line.Closed)
  ended_ok (Ok p) e q is = inl (ap (λ (k : Stands). let r : Result Stands NodeNo = Ok k in r) (ok_stands p q result e.1 is))
  ended_ok (Err no_node.BothLost) e q is = absurd (no_err no_node.BothLost q result e.1 is)
  ended_ok (Err no_node.NoMemory) e q is = absurd (no_err no_node.NoMemory q result e.1 is)
  ended_ok (Err no_node.ConsoleFault) e q is = absurd (no_err no_node.ConsoleFault q result e.1 is)
  ended_ok (Err no_node.Halted) e q is = inr (said_closed e.said q (sym e.answer ∙ is))

  -- A MEMBER THAT IS STOPPED has closed its line

  if_closed : (t : Result Stands NodeNo) → IfOk t (λ next. next ≡ line.Closed) → (q : Stands) → t ≡ Ok q → q ≡ line.Closed
  if_closed (Ok p) closed q is = ok_stands q p (Ok p) is refl ∙ closed
  if_closed (Err e) closed q is = absurd (no_err e q (Err e) refl is)

  opens_closed : is_stopped x.book by ≡ true → (a : Admission) → IsKnown x.base x.book by a → OpensAs plants copies (raced_at by at what s) (parts_of x) (parts_of mid) m n tried a → (q : Stands) → tried ≡ Ok q → q ≡ line.Closed
  opens_closed down (Refused sayer end) known o q is = if_closed tried o.next q is
  opens_closed down (Denied why) known o q is = absurd (not_both (is_stopped x.book by) down known.0.up)
  opens_closed down (Plays task) known o q is = absurd (not_both (is_stopped x.book by) down known.0.up)
  opens_closed down (Resets of) known o q is = absurd (not_both (is_stopped x.book by) down known.0.up)
  opens_closed down (TakesOver of) known o q is = absurd (not_both (is_stopped x.book by) down known.0.up)
  opens_closed down (Replaces dev) known o q is = absurd o
  opens_closed down Locks known o q is = absurd o
  opens_closed down Frees known o q is = absurd o
  opens_closed down Unplayed known o q is = absurd o

  goes_closed : is_stopped x.book by ≡ true → (stand : Stands) → s ≡ stand → GoesAs plants copies (raced_at by at what s) (parts_of x) (parts_of mid) m n tried stand → (q : Stands) → tried ≡ Ok q → q ≡ line.Closed
  goes_closed down line.Opens same o q is = opens_closed down (admitted x.base.config x.book by what) (waits.asked.known x.book) o q is
  goes_closed down (line.Sits stand) same o q is =
      let w : MaySitNext plants copies (parts_of x) m at stand = subst (λ (k : Stands). WaitsAt plants copies (parts_of x) m at k) same waits.stands in
      absurd (not_both (is_stopped x.book by) down w.goes.up)
  goes_closed down (line.Acts stand) same o q is =
      let w : MayActNext plants copies (parts_of x) m at stand = subst (λ (k : Stands). WaitsAt plants copies (parts_of x) m at k) same waits.stands in
      absurd (not_both (is_stopped x.book by) down w.goes.up)
  goes_closed down line.Closed same o q is = ok_stands q s tried is o.answer ∙ same

  idle_not : IsIdleTurn plants copies (parts_of x) (parts_of mid) m n tried → (q : Stands) → tried ≡ Ok q → ⊥
  idle_not idle q is = ⊎_elim (λ lost. no_err no_node.BothLost q tried lost.0 is) (λ out. no_err no_node.NoMemory q tried out.0 is) idle.answer

  tried_closed : is_stopped x.book by ≡ true → (q : Stands) → tried ≡ Ok q → q ≡ line.Closed
  tried_closed down q is = ⊎_elim (λ idle. absurd (idle_not idle q is)) (λ goes. goes_closed down s refl goes.2 q is) tries

  halted_closed : tried ≡ Err no_node.Halted → (q : Stands) → result ≡ Ok q → q ≡ line.Closed
  halted_closed halted q is =
      let e : EndsTurn by at mid y (Err no_node.Halted) result = subst (λ (t : Result Stands NodeNo). EndsTurn by at mid y t result) halted ends in
      said_closed e.said q (sym e.answer ∙ is)

  down_closed : is_stopped y.book by ≡ true → (q : Stands) → result ≡ Ok q → q ≡ line.Closed
  down_closed down q is = ⊎_elim
      (λ was. ⊎_elim (λ same. tried_closed was q same) (λ closed. closed) (ended_ok tried ends q is))
      (λ halted. halted_closed halted q is)
      (stops_end x mid m n at what s tried rest waits tries y result ends down)

  -- ITS EASE

  ease_by : (t : Result Stands NodeNo) → tried ≡ t → IfOk t (λ q. HasEase mid n) → EndsTurn by at mid y t result → (q : Stands) → result ≡ Ok q → HasEase y n
  ease_by (Ok p) same its e q is up =
      ease_as plants copies (parts_of mid) (parts_of y) n (ap (λ (k : Parts P C). k.base) e.0) (ap (λ (k : Parts P C). k.had) e.0)
      (its (sym (ap (λ (k : Parts P C). is_stopped k.book n.id) e.0) ∙ up))
  ease_by (Err no_node.BothLost) same its e q is up = absurd (no_err no_node.BothLost q result e.1 is)
  ease_by (Err no_node.NoMemory) same its e q is up = absurd (no_err no_node.NoMemory q result e.1 is)
  ease_by (Err no_node.ConsoleFault) same its e q is up = absurd (no_err no_node.ConsoleFault q result e.1 is)
  ease_by (Err no_node.Halted) same its e q is up =
      let there = inside_only by x.book mid.book (only_tried x mid m n at what s tried rest waits tries) (inside x mid m n at what s tried rest waits tries) in
      let down : is_stopped y.book by ≡ true = ap (λ (b : Book). is_stopped b by) (halted_book by at mid y result e) ∙ stopped_now mid.book by there in
      absurd (not_both (is_stopped y.book by) down (ap (λ (i : MemberId). is_stopped y.book i) (sym id) ∙ up))

  -- WHAT IT GAVE

  given : All (λ (e : Entry). e.step ≤ at) (given_by plants copies (parts_of y) by)
  given = steps_after x.book by at (MayFly tried) x y (adds_end x mid m n at what s tried rest waits tries y result ends) by waits.given

  earlier : (q : Stands) → result ≡ Ok q → is_stopped y.book by ≡ true → All (λ (e : Entry). e.step < first_unsaid at q) (given_by plants copies (parts_of y) by)
  earlier q is down =
      subst (λ (k : Stands). All (λ (e : Entry). e.step < first_unsaid at k) (given_by plants copies (parts_of y) by)) (sym (down_closed down q is))
      (All-weaker (λ (e : Entry). e.step ≤ at) (λ (e : Entry). e.step < at + 1) (λ e le. omega (arith, le)) (given_by plants copies (parts_of y) by) given)

  -- NO LINE TELLS A STEP that isn't told yet

  least : (k : Stands) → at ≤ first_unsaid at k
  least line.Opens = omega arith
  least (line.Sits stand) = omega arith
  least (line.Acts stand) = omega arith
  least line.Closed = omega arith

  most : (k : Stands) → first_unsaid at k ≤ at + 1
  most line.Opens = omega arith
  most (line.Sits stand) = omega arith
  most (line.Acts stand) = omega arith
  most line.Closed = omega arith

  abbrev v : Complex P C plants steadies copies → View
  v c = plants.view c.plant

  past : (t : ℕ) → t ≤ (v x).now → (v y).world t ≡ (v x).world t
  past = (acts_end x mid m n at what s tried rest waits tries y result ends).passage.goes.past

  -- after lines of this step, and no others
  untold_more : plants.tells → (k : ℕ) → at < k → k ≤ steps_most → HasUntold plants copies (parts_of x) by k → HasUntold plants copies (parts_of y) by k
  untold_more t k less small was =
      let w = said t in
      untold_then plants copies (parts_of x) (parts_of y) base since rest.begun past w.0 (λ u. w.1) by k (λ es of. own_untells by at k less (omega (arith, small)) es of w.0 w.2) was

  -- after none
  untold_same : (k : ℕ) → (plants.tells → console_now (v y) ≡ console_now (v x)) → HasUntold plants copies (parts_of x) by k → HasUntold plants copies (parts_of y) by k
  untold_same k same was =
      untold_then plants copies (parts_of x) (parts_of y) base since rest.begun past [] (λ t. same t ∙ sym (append-nil (console_now (v x)))) by k (λ es of. tt) was

  not_begun : (k : Stands) → k ≡ line.Closed → first_unsaid at k ≡ at + 1
  not_begun k closed = ap (first_unsaid at) closed

  if_ok : (r : Result Stands NodeNo) (A : Stands → Type 0) (q : Stands) → r ≡ Ok q → IfOk r A → A q
  if_ok (Ok p) A q is its = subst A (ok_stands p q (Ok p) refl is) its
  if_ok (Err e) A q is its = absurd (no_err e q (Err e) refl is)

  -- a line that goes on has told nothing
  open_still : (q : Stands) → result ≡ Ok q → q ≢ line.Closed → plants.tells → console_now (v y) ≡ console_now (v x)
  open_still q is open_so t = if_ok result (λ k. k ≢ line.Closed → console_now (v y) ≡ console_now (v x)) q is (unclosed t) open_so

  -- by where the line stood, and where it stands
  untold_at : (p q : Stands) → s ≡ p → result ≡ Ok q → (later : ℕ) → first_unsaid at q ≤ later → later ≤ steps_most → HasUntold plants copies (parts_of x) by later → HasUntold plants copies (parts_of y) by later
  untold_at p line.Closed same is later le small was = λ t. untold_more t later (omega (arith, le)) small was t
  untold_at p line.Opens same is later le small was = untold_same later (open_still line.Opens is (λ e. absurd (cc))) was
  untold_at p (line.Sits stand) same is later le small was = untold_same later (open_still (line.Sits stand) is (λ e. absurd (cc))) was
  untold_at p (line.Acts stand) same is later le small was = untold_same later (open_still (line.Acts stand) is (λ e. absurd (cc))) was

  -- a line that has closed stays so
  closed_stays : s ≡ line.Closed → (q : Stands) → result ≡ Ok q → q ≡ line.Closed
  closed_stays closed q is = ⊎_elim
      (λ same. ⊎_elim (λ idle. absurd (idle_not idle q same))
      (λ goes. let o = subst (λ (k : Stands). GoesAs plants copies (raced_at by at what s) (parts_of x) (parts_of mid) m n tried k) closed goes.2 in ok_stands q s tried same o.answer ∙ closed) tries)
      (λ done. done) (ended_ok tried ends q is)

  unsaid_grows : (p q : Stands) → s ≡ p → result ≡ Ok q → first_unsaid at p ≤ first_unsaid at q
  unsaid_grows line.Opens q same is = least q
  unsaid_grows (line.Sits stand) q same is = least q
  unsaid_grows (line.Acts stand) q same is = least q
  unsaid_grows line.Closed q same is = let now = not_begun q (closed_stays same q is) in omega (arith, now)

  untold : (q : Stands) → result ≡ Ok q → (later : ℕ) → first_unsaid at q ≤ later → later ≤ steps_most → HasUntold plants copies (parts_of y) by later
  untold q is later le small =
      let grows = unsaid_grows s q refl is in
      untold_at s q refl is later le small (waits.untold later (omega (arith, le, grows)) small)

  -- IT WAITS

  waits_at : (q : Stands) → result ≡ Ok q → Waits y n at what q
  waits_at q is = record {
    config = subst (λ (b : Queue). IsConfig b.config) (sym base) waits.config;
    sound = λ t. subst (λ (b : Queue). IsSound b) (sym base) (waits.sound t);
    member = ap (λ (b : Queue). is_member b.config n.id) base ∙ ap (is_member x.base.config) id ∙ waits.member;
    few = waits.few;
    asked = subst (λ (i : MemberId). IsAsked y.base i what) (sym id) (subst (λ (b : Queue). IsAsked b by what) (sym base) waits.asked);
    ease = ease_by tried refl ease ends q is;
    given = subst (λ (i : MemberId). All (λ (e : Entry). e.step ≤ at) (given_by plants copies (parts_of y) i)) (sym id) given;
    earlier = λ down. subst (λ (i : MemberId). All (λ (e : Entry). e.step < first_unsaid at q) (given_by plants copies (parts_of y) i)) (sym id) (earlier q is (ap (is_stopped y.book) (sym id) ∙ down));
    untold = λ later le small. subst (λ (i : MemberId). HasUntold plants copies (parts_of y) i later) (sym id) (untold q is later le small);
    stands = stands q is;
  }

  by_result : (r : Result Stands NodeNo) → result ≡ r → IfOk r (Waits y n at what)
  by_result (Ok q) is = waits_at q is
  by_result (Err e) is = tt

  pub next : IfOk result (Waits y n at what)
  next = by_result result refl
