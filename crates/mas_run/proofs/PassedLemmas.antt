-- The lines of a run one after another, and the copies that they replaced.
use Rattle.mas_run.proofs.Names.{of_if, Began, BeganAndEnded, NoneBegan, NoMember, SaysNo, StillUp, NotGranted, kept_then, ◌≡◌, ◌≢◌, ◌⊎◌, inl, inr, ℕ, suc, ◌+◌, ◌≤◌, ◌==◌, ◌&&◌, Bool, true, false, if◌then◌else◌, List, [], ◌∷◌, ◌++◌, length, map, drop, append_assoc, append-nil, Option, Some, None, Result, Ok, Err, refl, sym, ◌∙◌, ap, subst, arith, ⊎_elim, nat_lt, All, map-append, Dev, Spool, Ckpt1, Ckpt2, MemberId, Batch, Fate, Kept, Dropped, Flying, same_member, Step, Ask, Rose, next as next_count, SameWires, top, Fuse, Console, View, given_now, paper_now, AreBatched, IsBatched as StandsAs, console_now, NodeNo, Cause, Cut, Renewed, fate_found, Armed, Batched, Scene, Said, cause_of, counted, counted_at, is_up, run_goes_on, silent, Outcome, console, given_on, history_from, outcomes_if, paper_of, scene_if, serves_line, settled, serves_ask, AreRight, Given, IsRight, LeavesVolumes, RightIf, ViewLine, ask_with, cut_if, given_first, last_cut, outcomes_with, scene_with, admitted_at, played_at, LineAt, AreHistory, settle, CutsAs, EndsBy, IsUnsaid, MayLoseCopy, StopsUnsaid, arms_by, cut_in, is_takeover, taking, is_replaced, same_device, Proceeds, StaysLost, ArePassed, GoesOn, Here, There, arms_after, here_after, line_of, loses_after, IsNext, Passed, AreVolumesKept, kept_none, proceeds_none, proceeds_on, eqb-true, nat_tests, Config, Book, same_member_is, Line as Node, Admission, Plays, Replaces, Carries, settle_both, All-head, All-tail, Renewal, Renewals, with_device, RenewsAs, RenewsBy, IsCkpt, of_device, no, CopiesAt, known_by, Comes, LineCame, ReplaceCame, comes, and_none, false_from_ne_true, AreEach, IsInLine, Renewing, renewed_by, EndsAs, Status, status_of, Played, CameTo, Halted, ConsoleFault, Stop, StopIn, Lose, Replace}
use Rattle.mas_run.proofs.JournalLemmas.{history_more, history_own}
use Rattle.spool_plant.specs.declared.plant.Fuse.TheVariants as fuse
use Rattle.mas_types.specs.declared.answers.Status.TheVariants as status

-- WHAT WAS GIVEN on a line to another node

module _ (since : ℕ) (l : LineAt) (given : List ℕ) (old new : View) (m : MemberId) (line : ℕ) where
  abbrev Gave : Bool → Type 0
  Gave serves = given_now new line m.0 ≡ given_now old line m.0 ++ (if serves then given else [])

  still : (serves : Bool) → SameWires old new → (serves ≡ true → given ≡ []) → Gave serves
  still true same none = same.given line m.0 ∙ sym (append-nil (given_now old line m.0)) ∙ ap (λ (bytes : List ℕ). given_now old line m.0 ++ bytes) (sym (none refl))
  still false same none = same.given line m.0 ∙ sym (append-nil (given_now old line m.0))

  -- it serves a line: by whether it is this line and this member
  served : (n : ℕ) → Carries since l (Plays (Node n)) given old new → Gave (same_member l.step.by m && (n == line))
  served n c = by_tests (same_member l.step.by m) (n == line) refl refl where
    by_tests : (k j : Bool) → same_member l.step.by m ≡ k → (n == line) ≡ j → Gave (k && j)
    by_tests true true own is =
        subst (λ (k : MemberId). given_now new line k.0 ≡ given_now old line k.0 ++ given) (same_member_is l.step.by m own)
        (c.gives.given line (ap (λ (k : ℕ). Some k) (eqb-true n line is)))
    by_tests true false own is = c.gives.else_given line m.0 (inl (λ same. no (n == line) (let e : n ≡ line = cc in grind (arith, nat_tests, e)) is)) ∙ sym (append-nil (given_now old line m.0))
    by_tests false j own is = c.gives.else_given line m.0 (inr (λ same. no (same_member l.step.by m) (grind (arith, nat_tests, same)) own)) ∙ sym (append-nil (given_now old line m.0))

  gave_by : {config : Config} {b : Book} {what : Ask} {a : Admission} → Comes config b l.step.by what a → Carries since l a given old new → Gave (same_member l.step.by m && serves_ask line what)
  gave_by (LineCame n got) c = served n c
  gave_by (NoMember end named) c = still _ c.1 (λ is. c.0)
  gave_by (SaysNo end up named) c = still _ c.1 (λ is. c.0)
  gave_by (StillUp of up member) c = still _ c.1 (λ is. c.0)
  gave_by (NotGranted why up refused) c = still _ c.1 (λ is. c.0)
  gave_by _ c = still _ c (λ is. absurd (no (same_member l.step.by m && false) is (and_none (same_member l.step.by m) false refl)))

-- LINES

-- by whether the run goes on after a line
pub by_going : (b : Bool) (P : Bool → Type 0) {M E : Type 0} → GoesOn b M E → (b ≡ true → M → P true) → (b ≡ false → E → P false) → P b
by_going q0 q1 x more ends = grind arith

going : (b c : Bool) (M E : Type 0) → b ≡ c → GoesOn c M E → GoesOn b M E
going b c M E is = subst (λ (k : Bool). GoesOn k M E) (sym is)

-- WHETHER THE RUN GOES ON after a line follows from its answer; and it was cut where the run ends in it

abbrev Agrees : Result (Unit {0}) NodeNo → Option Cut → Bool → Type 0
Agrees (Ok done) cut goes = goes ≡ true
Agrees (Err e) cut goes = (goes ≡ false) × (cut ≢ None) × (e ≢ Halted)

agrees_cut : (answer : Result (Unit {0}) NodeNo) (by : MemberId) (cut : Option Cut) (old new : View) → CutsAs answer by cut old new → Agrees answer cut (run_goes_on (cause_of cut))
agrees_cut (Ok done) by None old new so = refl
agrees_cut (Err e) by None old new so = absurd so
agrees_cut (Ok done) by (Some cut) old new so = ap (λ (why : Cause). run_goes_on (Some why)) so.0
agrees_cut (Err e) by (Some cut) old new so = (ap (λ (why : Cause). run_goes_on (Some why)) so.0, (λ none. absurd (cc)), never e so.1) where
  unsaid : (k : NodeNo) → IsUnsaid k new → k ≢ Halted
  unsaid q0 h halted = grind arith

  never : (k : NodeNo) → EndsBy k by cut old new ⊎ StopsUnsaid k by cut old new → k ≢ Halted
  never k q1 = grind arith

agrees_mute : (answer : Result (Unit {0}) NodeNo) (by : MemberId) (cut : Option Cut) (goes : Bool) (old new : View) → goes ≡ true → CutsAs answer by None old new → Agrees answer cut goes
agrees_mute q0 by cut goes old new is so = grind arith

pub silent_if : (b : Bool) (S T : Scene) → (if b then silent S else silent T) ≡ silent (if b then S else T)
silent_if q0 q1 q2 = grind arith

agrees_ask : (S : Scene) (by : MemberId) (at : ℕ) (g : Given) (what : Ask) (answer : Result (Unit {0}) NodeNo) (old new : View)
    → CutsAs answer by (cut_in what g.sight.cut) old new → Agrees answer g.sight.cut (ask_with S by at g what).goes_on
agrees_ask S by at g Stop answer old new so = agrees_mute answer by _ _ old new (ap (λ (p : Played). p.goes_on) (silent_if (is_up S by) _ _)) so
agrees_ask S by at g (StopIn what n) answer old new so = agrees_mute answer by _ _ old new (ap (λ (p : Played). p.goes_on) (silent_if (is_up S by) _ _)) so
agrees_ask S by at g (Lose dev) answer old new so = agrees_mute answer by _ true old new refl so
agrees_ask S by at g _ answer old new so = agrees_cut answer by g.sight.cut old new so

module _ (told : Type 0) (h : Here) (g : Given) (step : Step) (there : There) (next : IsNext told h g step there) where
  line_agrees : Agrees there.answer g.sight.cut (played_at (line_of h g step)).goes_on
  line_agrees = agrees_ask h.scene step.by h.number g step.what there.answer h.view there.view next.passed.cut

  agrees_so : (r : Result (Unit {0}) NodeNo) → there.answer ≡ r → Agrees r g.sight.cut (played_at (line_of h g step)).goes_on
  agrees_so r is = subst (λ (k : Result (Unit {0}) NodeNo). Agrees k g.sight.cut (played_at (line_of h g step)).goes_on) is line_agrees

  -- a line after which others were played
  pub more_lines : (steps : List Step) (more : ℕ) (end : There) → there.answer ≡ Ok tt → Passed told (here_after h g step there) steps more end
      → Passed told h (step ∷ steps) (suc more) end
  more_lines steps more end ok p = record { given = g ∷ p.given; are = (there, more, refl, next, going _ true _ _ (agrees_so (Ok tt) ok) (ok, p.are)) }

  -- a line that ended the run
  pub last_line : (steps : List Step) (e : NodeNo) → there.answer ≡ Err e → Passed told h (step ∷ steps) 1 there
  last_line steps e err = record { given = g ∷ []; are = (there, 0, refl, next, going _ false _ _ (agrees_so (Err e) err).0 (refl, refl)) }

-- WHY IT ENDED: each line was played and none ended the run, or the last one did that was played

ended_more : (k : Status) (cut : Option Cut) (many more lines : ℕ) → many ≡ suc more → EndsAs k cut more lines → EndsAs k cut many (suc lines)
ended_more q0 cut many more lines is ended = grind arith

ended_last : (r : Result (Unit {0}) NodeNo) (cut : Option Cut) (goes : Bool) (many more lines : ℕ) → many ≡ suc more → goes ≡ false → Agrees r cut goes → EndsAs (status_of r) cut many lines
ended_last q0 cut goes many more lines is off so = grind arith

pub passed_ended : (told : Type 0) (h : Here) (gs : List Given) (steps : List Step) (many : ℕ) (end : There)
    → ArePassed told h gs steps many end → EndsAs (status_of end.answer) (last_cut h.scene h.number gs steps) many (length steps)
passed_ended told h gs [] many end p = subst (λ (r : Result (Unit {0}) NodeNo). EndsAs (status_of r) None many 0) (sym p.2) (refl, p.3)
passed_ended told h gs (step ∷ steps) many end (there, more, is, next, rest) =
    let g = given_first gs in
    let p = played_at (line_of h g step) in
    by_going p.goes_on (λ b. EndsAs (status_of end.answer) (cut_if b (last_cut p.next (h.number + 1) (drop 1 gs) steps) g.sight.cut) many (suc (length steps))) rest
    (λ on m. ended_more (status_of end.answer) _ many more (length steps) is (passed_ended told (here_after h g step there) (drop 1 gs) steps more end m.1))
    (λ off e. ended_last end.answer g.sight.cut p.goes_on many more (suc (length steps)) is off
    (subst (λ (x : There). Agrees x.answer g.sight.cut p.goes_on) (sym e.0) (line_agrees told h g step there next)))

-- the console failed in the last line, if it says so
pub passed_failed : (told : Type 0) (h : Here) (gs : List Given) (steps : List Step) (many : ℕ) (end : There)
    → ArePassed told h gs steps many end → end.answer ≡ Err ConsoleFault → Rose (h.view.faults Console) (end.view.faults Console)
passed_failed told h gs [] many end p failed = absurd (let e = sym p.2 ∙ failed in cc)
passed_failed told h gs (step ∷ steps) many end (there, more, is, next, rest) failed =
    let p = played_at (line_of h (given_first gs) step) in
    by_going p.goes_on (λ b. Rose (h.view.faults Console) (end.view.faults Console)) rest
    (λ on m. let later = passed_failed told (here_after h (given_first gs) step there) (drop 1 gs) steps more end m.1 failed in
    let before = next.passed.goes.faults Console in omega (arith, before, later))
    (λ off e. subst (λ (x : There). Rose (h.view.faults Console) (x.view.faults Console)) (sym e.0)
    (next.passed.failed (subst (λ (x : There). x.answer ≡ Err ConsoleFault) e.0 failed)))

-- STOPS THAT WERE ARMED

arms_counted : (m : ℕ) (by : MemberId) (made : ℕ) (armed : List Armed) (n : ℕ) → arms_after m (counted by made armed) n ≡ arms_after m armed n
arms_counted m by made [] n = refl
arms_counted m by made (a ∷ more) n =
    ap (λ (k : ℕ). arms_after m (counted by made more) (if k == m then next_count n else n)) (same_at a.fuse) ∙ arms_counted m by made more (if a.member.0 == m then next_count n else n) where
      same_at : (f : Fuse) → (counted_at f by made a).member.0 ≡ a.member.0
      same_at q0 = grind arith

arms_more : (m : ℕ) (armed : List Armed) (a : Armed) (n : ℕ) → arms_after m (armed ++ a ∷ []) n ≡ (if a.member.0 == m then next_count (arms_after m armed n) else arms_after m armed n)
arms_more m [] a n = refl
arms_more m (b ∷ more) a n = arms_more m more a (if b.member.0 == m then next_count n else n)

arms_up : (b : Bool) (m : ℕ) (S : Scene) (a : Armed) (first : ℕ)
    → arms_after m (if b then silent (record S { armed = S.armed ++ a ∷ [] }) else silent S).next.armed first ≡ (if b && (a.member.0 == m) then next_count (arms_after m S.armed first) else arms_after m S.armed first)
arms_up true m S a first = arms_more m S.armed a first
arms_up false m S a first = refl

pub arms_ask : (S : Scene) (by : MemberId) (at : ℕ) (g : Given) (what : Ask) (m first : ℕ)
    → arms_after m (ask_with S by at g what).next.armed first
    ≡ (if arms_by S by what && (by.0 == m) then next_count (arms_after m S.armed first) else arms_after m S.armed first)
arms_ask S by at g Stop m first = of_if (λ (p : Played). arms_after m p.next.armed first ≡ arms_after m S.armed first) (is_up S by) _ _ (λ is. refl) (λ is. refl)
arms_ask S by at g (StopIn what n) m first = arms_up (is_up S by) m S (record { member = by; fuse = what; left = n }) first
arms_ask S by at g (Lose dev) m first = refl
arms_ask S by at g _ m first = arms_counted m by _ S.armed first

-- DEVICES LOST BY A CALL

no_volume : (reads : List ℕ → Option (List ℕ)) (t : Option Fate) (n : ℕ) (old new : View) → MayLoseCopy reads t (Spool n) old new → ⊥
no_volume reads q1 n old new h = grind arith

no_copy : (reads : List ℕ → Option (List ℕ)) (b : Bool) (found : Fate) (d : Dev) (old new : View) → b ≡ false → MayLoseCopy reads (taking b found) d old new → ⊥
no_copy reads q1 found d old new is h = grind arith

-- BATCHES of a line, since an earlier moment and by a later one

stands_within : (f : Fate) (by : MemberId) (x : Batched) (early from now later : ℕ) (b : Batch) → early ≤ from → now ≤ later → StandsAs f by x from now b → StandsAs f by x early later b
stands_within Kept by x early from now later b since le is =
    record { by_it = is.by_it; entries = is.entries; kept = is.kept; moments = (omega (arith, is.moments.0, since), is.moments.1, omega (arith, is.moments.2, le)) }
stands_within Flying by x early from now later b since le is =
    record { by_it = is.by_it; entries = is.entries; flies = is.flies; moments = (omega (arith, is.moments.0, since), omega (arith, is.moments.1, le), is.moments.2) }
stands_within Dropped by x early from now later b since le is = absurd is

pub batched_within : (by : MemberId) (early from now later : ℕ) (xs : List Batched) (bs : List Batch) → early ≤ from → now ≤ later → AreBatched by from now xs bs → AreBatched by early later xs bs
batched_within by early from now later [] [] since le are = tt
batched_within by early from now later (x ∷ xs) (b ∷ bs) since le are =
    (stands_within x.fate by x early from now later b since le are.0, batched_within by b.last b.last now later xs bs (omega arith) le are.1)
batched_within by early from now later _ _ since le are = absurd are

-- The copies that lines replace, one line after another.

-- A STEP THAT REPLACES NO COPY on a device has no such admission

pub same_dev : (d e : Dev) → same_device d e ≡ true → d ≡ e
same_dev Ckpt1 Ckpt1 is = refl
same_dev Ckpt2 Ckpt2 is = refl
same_dev (Spool n) (Spool m) is = ap (λ (k : ℕ). Spool k) (eqb-true n m is)
same_dev _ _ is = absurd (cc)

pub device_is : (d e : Dev) → (d ≡ e → ⊥) → same_device d e ≡ false
device_is d e apart = false_from_ne_true (same_device d e) (λ is. apart (same_dev d e is))

pub kept_by : {config : Config} {b : Book} {by : MemberId} {what : Ask} {a : Admission} (d : Dev) → Comes config b by what a → what ≢ Replace d → is_replaced d a ≡ false
kept_by d (ReplaceCame e got) other = device_is d e (λ same. other (ap (λ (k : Dev). Replace k) (sym same)))
kept_by d _ other = refl

-- OF A LATER VIEW

in_later : (did : Renewing) (old new later : ℕ) → new ≤ later → IsInLine did old new → IsInLine did old later
in_later q0 old new later on is = grind arith

pub renews_later : (a : Admission) (cut : Option Cut) (found : Renewed) (x y : CopiesAt) (later : View) → y.view.now ≤ later.now → RenewsAs a cut found x y → RenewsAs a cut found x (record y { view = later })
renews_later (Replaces dev) cut found x y later on r = record { did = r.did; came = r.came; within = in_later r.did x.view.now y.view.now later.now on r.within; is = r.is }
renews_later _ cut found x y later on r = r

-- whyever it was cut
pub renews_caused : (a : Admission) (cut : Cut) (why : Cause) (found : Renewed) (x y : CopiesAt) → RenewsAs a (Some cut) found x y → RenewsAs a (Some (record cut { cause = why })) found x y
renews_caused q0 cut why found x y r = grind arith

-- a line leaves the moments as they were that replaces no copy, or began no replacement as far as is known
pub renews_same : (a : Admission) (cut : Option Cut) (found : Renewed) (x y : CopiesAt) → ((dev : Dev) → a ≡ Replaces dev → CameTo (known_by cut found) NoneBegan) → y.renewals ≡ x.renewals → RenewsAs a cut found x y
renews_same (Replaces dev) cut found x y came same = record { did = NoneBegan; came = came dev refl; within = tt; is = same }
renews_same _ cut found x y came same = same

-- WHAT STAYS of the copy on a device, where another is replaced

of_apart : (d dev : Dev) → IsCkpt d → same_device d dev ≡ false → (of : List Renewal) (rs : Renewals) → of_device d (with_device dev of rs) ≡ of_device d rs
of_apart q0 dev ckpt other of rs = grind arith

module _ (d : Dev) (ckpt : IsCkpt d) (dev : Dev) (other : same_device d dev ≡ false) (x y : CopiesAt) where
  begun_keeps : (t : Bool) (of : List Renewal) → of_device d (if t then with_device dev of x.renewals else x.renewals) ≡ of_device d x.renewals
  begun_keeps t of = of_if (λ (rs : Renewals). of_device d rs ≡ of_device d x.renewals) t _ _ (λ is. of_apart d dev ckpt other of x.renewals) (λ is. refl)

  did_keeps : (did : Renewing) → of_device d (renewed_by dev did x.renewals) ≡ of_device d x.renewals
  did_keeps NoneBegan = refl
  did_keeps (Began from) = begun_keeps (nat_lt from top) _
  did_keeps (BeganAndEnded from until) = of_apart d dev ckpt other _ _ ∙ begun_keeps (nat_lt from top) _

  pub by_keeps : (known : Option Renewed) → RenewsBy known dev x y → of_device d y.renewals ≡ of_device d x.renewals
  by_keeps known r = ap (of_device d) r.is ∙ did_keeps r.did

as_keeps : (d : Dev) → IsCkpt d → (a : Admission) → is_replaced d a ≡ false → (cut : Option Cut) (found : Renewed) (x y : CopiesAt) → RenewsAs a cut found x y → of_device d y.renewals ≡ of_device d x.renewals
as_keeps d ckpt (Replaces dev) other cut found x y r = by_keeps d ckpt dev other x y (known_by cut found) r
as_keeps d ckpt _ other cut found x y r = ap (of_device d) r

-- LINES ONE AFTER ANOTHER: what they came to, the scene that they left, and what is known of each of them

pub record Sum : Type 1 where
  pub many : ℕ
  pub outcomes : List Outcome
  pub last : Scene
  pub right : Type 0
  pub each : (LineAt → Type 0) → Type 0

abbrev no_sum : Scene → Sum
no_sum S = record { many = 0; outcomes = []; last = S; right = Unit {0}; each = λ P. Unit {0} }

-- with a line before them
abbrev more_sum : LineAt → Sum → Sum
more_sum l s = record {
  many = suc s.many;
  outcomes = (played_at l).outcome ∷ s.outcomes;
  last = s.last;
  right = IsRight l.scene l.number l.given l.step × s.right;
  each = λ P. P l × s.each P;
}

-- what follows of all of them, from what the plant showed before the first one
pub record Came (told : Type 0) (h : Here) (steps : List Step) (end : There) (s : Sum) : Type 0 where
  pub goes : Proceeds h.view end.view
  pub counted : length s.outcomes ≡ s.many
  pub right : told → s.right
  pub said : told → console_now end.view ≡ console_now h.view ++ map (λ (m : Said). m.line) (console s.outcomes)
  pub paper : told → (m : MemberId) → paper_now end.view m.0 ≡ paper_now h.view m.0 ++ paper_of m steps s.outcomes
  pub gave : told → (m : MemberId) (line : ℕ) → given_now end.view line m.0 ≡ given_now h.view line m.0 ++ given_on m line steps s.outcomes
  -- the journal has their history after an opening that is settled
  pub history : (front own : List Batch) → ((f : Fate) (at : ℕ) → settle f at front ≡ front) → h.batches ≡ front ++ own → (xs : List Batched) → AreHistory xs own
      → (rest : List Batch) × (end.batches ≡ front ++ rest) × AreHistory (history_from xs s.outcomes) rest
  pub arms : (m first : ℕ) → h.view.arms m ≡ arms_after m h.scene.armed first → end.view.arms m ≡ arms_after m s.last.armed first
  pub loses : told → (n : ℕ) → end.view.loses (Spool n) ≡ loses_after (Spool n) s.outcomes (h.view.loses (Spool n))
  pub loses_copies : told → s.each (λ (l : LineAt). is_takeover (admitted_at l) ≡ false) → (d : Dev) → end.view.loses d ≡ loses_after d s.outcomes (h.view.loses d)
  pub volumes : told → s.each LeavesVolumes → AreVolumesKept h.view end.view
  pub stays : (d : Dev) → All (λ (k : Step). k.what ≢ Replace d) steps → StaysLost d h.view end.view
  pub keeps : (d : Dev) → IsCkpt d → All (λ (k : Step). k.what ≢ Replace d) steps → of_device d end.renewals ≡ of_device d h.renewals

module _ (told : Type 0) where
  -- none was played
  came_none : (h : Here) (steps : List Step) (answer : Result (Unit {0}) NodeNo) → Came told h steps (record { batches = h.batches; renewals = h.renewals; view = h.view; answer = answer }) (no_sum h.scene)
  came_none h steps answer = record {
    goes = proceeds_none h.view;
    counted = refl;
    right = λ t. tt;
    said = λ t. none_added console_now [] refl;
    paper = λ t m. none_added (λ (v : View). paper_now v m.0) (paper_of m steps []) (none_printed m steps);
    gave = λ t m line. none_added (λ (v : View). given_now v line m.0) (given_on m line steps []) (none_gave m line steps);
    history = λ front own still is xs are. (own, is, are);
    arms = λ m first is. is;
    loses = λ t n. refl;
    loses_copies = λ t none d. refl;
    volumes = λ t leave. kept_none h.view;
    stays = λ d none gone. gone;
    keeps = λ d ckpt none. refl;
  } where
    none_added : {X : Type 0} (seen : View → List X) (more : List X) → more ≡ [] → seen h.view ≡ seen h.view ++ more
    none_added {X = X} seen more none = sym (append-nil (seen h.view)) ∙ ap (λ (xs : List X). seen h.view ++ xs) (sym none)

    none_printed : (m : MemberId) (steps : List Step) → paper_of m steps [] ≡ []
    none_printed m [] = refl
    none_printed m (step ∷ steps) = refl

    none_gave : (m : MemberId) (line : ℕ) (steps : List Step) → given_on m line steps [] ≡ []
    none_gave m line [] = refl
    none_gave m line (step ∷ steps) = refl

  -- a line was, and then these
  came_more : (h : Here) (g : Given) (step : Step) (there : There) → IsNext told h g step there → (steps : List Step) (end : There) (s : Sum) → Came told (here_after h g step there) steps end s
      → Came told h (step ∷ steps) end (more_sum (line_of h g step) s)
  came_more h g step there next steps end s rest =
      let l = line_of h g step in
      let o = (played_at l).outcome in
      let others = λ (d : Dev). kept_by d (comes h.scene.queue.config h.scene.book step.by step.what) in
      record {
        goes = proceeds_on h.view there.view end.view next.passed.goes rest.goes;
        counted = ap suc rest.counted;
        right = λ t. (next.passed.given.right t, rest.right t);
        said = λ t. added console_now (map (λ (m : Said). m.line) o.said) (map (λ (m : Said). m.line) (console s.outcomes)) (next.passed.console t) (rest.said t)
            ∙ ap (λ (ls : List ViewLine). console_now h.view ++ ls) (sym (map-append (λ (m : Said). m.line) o.said (console s.outcomes)));
        paper = λ t m. added (λ (v : View). paper_now v m.0) (if same_member step.by m then o.printed else []) (paper_of m steps s.outcomes) (next.passed.paper t m.0) (rest.paper t m);
        gave = λ t m line. added (λ (v : View). given_now v line m.0) (if serves_line m line step then o.given else []) (given_on m line steps s.outcomes)
            (gave_by h.since l o.given h.view there.view m line (comes h.scene.queue.config h.scene.book step.by step.what) (next.wires t)) (rest.gave t m line);
        history = λ front own still is xs are.
            let met = settle o.found next.at own in
            rest.history front (met ++ next.own) still (next.batches ∙ ap (λ (bs : List Batch). settle o.found next.at bs ++ next.own) is
            ∙ ap (λ (bs : List Batch). bs ++ next.own) (settle_both o.found next.at front own ∙ ap (λ (bs : List Batch). bs ++ met) (still o.found next.at)) ∙ append_assoc front met next.own)
            (settled o.found xs ++ o.batches) (history_more o.found next.at xs o.batches own next.own are (history_own step.by h.view.now there.view.now o.batches next.own next.passed.batches));
        arms = λ m first is. rest.arms m first (next.passed.arms m ∙ ap (λ (n : ℕ). if arms_by h.scene step.by step.what && (step.by.0 == m) then next_count n else n) is
            ∙ sym (arms_ask h.scene step.by h.number g step.what m first));
        loses = λ t n. rest.loses t n ∙ ap (loses_after (Spool n) s.outcomes) (⊎_elim (λ once. once) (λ may. absurd (no_volume h.reads _ n h.view there.view may)) (next.loses t (Spool n)));
        loses_copies = λ t none d. rest.loses_copies t none.1 d
            ∙ ap (loses_after d s.outcomes) (⊎_elim (λ once. once) (λ may. absurd (no_copy h.reads (is_takeover (admitted_at l)) (fate_found (admitted_at l) g.sight) d h.view there.view none.0 may)) (next.loses t d));
        volumes = λ t leave. kept_then end.view.now h.view there.view end.view next.passed.goes.later rest.goes (next.passed.volumes t leave.0) (rest.volumes t leave.1);
        stays = λ d none gone. rest.stays d (All-tail (λ (k : Step). k.what ≢ Replace d) step steps none) (next.passed.stays d (others d (All-head (λ (k : Step). k.what ≢ Replace d) step steps none)) gone);
        keeps = λ d ckpt none. rest.keeps d ckpt (All-tail (λ (k : Step). k.what ≢ Replace d) step steps none)
            ∙ as_keeps d ckpt (admitted_at l) (others d (All-head (λ (k : Step). k.what ≢ Replace d) step steps none)) g.sight.cut g.sight.renewed _ _ next.renews;
      } where
        added : {X : Type 0} (seen : View → List X) (own more : List X) → seen there.view ≡ seen h.view ++ own → seen end.view ≡ seen there.view ++ more → seen end.view ≡ seen h.view ++ (own ++ more)
        added {X = X} seen own more one two = two ∙ ap (λ (xs : List X). xs ++ more) one ∙ append_assoc (seen h.view) own more

  abbrev sum_of : ℕ → Here → List Given → List Step → Sum
  sum_of many h gs steps = record {
    many = many;
    outcomes = outcomes_with h.scene h.number gs steps;
    last = scene_with h.scene h.number gs steps;
    right = AreRight h.scene h.number gs steps;
    each = λ P. AreEach P h.scene h.number gs steps;
  }

  pub came : (h : Here) (gs : List Given) (steps : List Step) (many : ℕ) (end : There) → ArePassed told h gs steps many end → Came told h steps end (sum_of many h gs steps)
  came h gs [] many end p =
      let is : end ≡ record { batches = h.batches; renewals = h.renewals; view = h.view; answer = end.answer } = rw (sym p.0, sym p.1, sym p.4) refl in
      subst (λ (n : ℕ). Came told h [] end (sum_of n h gs [])) (sym p.3) (subst (λ (x : There). Came told h [] x (no_sum h.scene)) (sym is) (came_none h [] end.answer))
  came h gs (step ∷ steps) many end (there, more, is, next, rest) =
      let g = given_first gs in
      let l = line_of h g step in
      let p = played_at l in
      let after = here_after h g step there in
      let s = sum_of more after (drop 1 gs) steps in
      by_going p.goes_on (λ b. Came told h (step ∷ steps) end (record {
        many = many;
        outcomes = p.outcome ∷ outcomes_if b s.outcomes;
        last = scene_if b s.last p.next;
        right = IsRight h.scene h.number g step × RightIf b s.right;
        each = λ P. P l × RightIf b (s.each P);
      })) rest
      (λ on m. subst (λ (n : ℕ). Came told h (step ∷ steps) end (record (more_sum l s) { many = n })) (sym is) (came_more h g step there next steps end s (came after (drop 1 gs) steps more end m.1)))
      (λ off e. subst (λ (x : There). Came told h (step ∷ steps) x (record (more_sum l (no_sum p.next)) { many = many })) (sym e.0)
      (subst (λ (n : ℕ). Came told h (step ∷ steps) there (record (more_sum l (no_sum p.next)) { many = n })) (sym (is ∙ ap suc e.1)) (came_more h g step there next steps there (no_sum p.next) (came_none after steps there.answer))))

  pub passed_goes : (h : Here) (gs : List Given) (steps : List Step) (many : ℕ) (end : There) → ArePassed told h gs steps many end → Proceeds h.view end.view
  passed_goes h gs steps many end p = (came h gs steps many end p).goes
