-- A run as its lines begin: what it began with, whatever its plant shows later.
use Rattle.std.proofs.Common.{◌≡◌, inl, inr, ⊎_elim, ℕ, zero, suc, ◌<◌, ◌≤◌, nat_lt, Bool, true, false, ◌||◌, List, length, Some, None, Err, refl, sym, ◌∙◌, ap, subst, arith, le_refl, replicate, All}
use Rattle.std.proofs.lemmas.Bool.{or_left as true_or}
use Rattle.std.specs.Coded.{×_prop, Coded, Coded-set, coded_ℕ, code_by, le_prop}
use Rattle.std.proofs.Math.Logic.{∥∥₁_map, ∥∥₁_elim, ∥∥₁_prop}
use Rattle.std.proofs.lemmas.Bool.Decides.{nat_tests}
use Rattle.std.proofs.lemmas.List.Elements.{All-nil}
use Rattle.ckpt_tables.specs.Shape.{HasShape}
use Rattle.queue_effect.specs.Standing.{AreFit, IsFitJob, IsFitOutput}
use Rattle.member_node.specs.Calls.{Course, Grows}
use Rattle.member_node.specs.Reads.{AreLow, orders_after}
use Rattle.ckpt_tables.specs.declared.tables.Tables.{Tables}
use Rattle.lay_bytes.specs.Used.{used}
use Rattle.ckpt_pages.specs.Starts.{empty_tables}
use Rattle.mas_types.specs.declared.ids.Dev.TheVariants.{Ckpt1, Ckpt2, Spool}
use Rattle.mas_types.specs.declared.ids.Dev.{Dev}
use Rattle.mas_types.specs.declared.journals.Journal.{Journal}
use Rattle.mas_types.specs.declared.journals.Fate.{Fate}
use Rattle.mas_types.specs.declared.journals.Fate.TheVariants.{Kept, Dropped, Flying}
use Rattle.mas_types.specs.declared.queues.Queue.{Queue}
use Rattle.mas_types.specs.declared.answers.Status.{Status}
use Rattle.mas_types.specs.Starts.{empty_queue}
use Rattle.mas_types.specs.declared.queues.Config.{Config}
use Rattle.mas_types.specs.declared.queues.Route.{Route}
use Rattle.mas_types.specs.Fit.{IsConfig}
use Rattle.mas_types.specs.Limits.{routes_most}
use Rattle.mas_types.specs.Sound.{IsSound}
use Rattle.mas_types.proofs.EmptyQueue.{empty_queue-sound}
use Rattle.queue_telling.specs.Orders.{HaveOrders}
use Rattle.queue_telling.specs.Telling.{Tell, TellSound}
use Rattle.queue_tables.proofs.OrderLemmas.{empty_orders}
use Rattle.mas_complex.specs.Texts.{HasTexts, Spools}
use Rattle.spool_plant.specs.View.{View, World, Disk, disk_at, disk_now}
use Rattle.spool_plant.specs.declared.plant.Part.{Part}
use Rattle.spool_plant.specs.declared.plant.Part.TheVariants.{Disk as DiskPart, Console, Printer, Wire}
use Rattle.spool_plant.specs.Acts.{Goes, top}
use Rattle.ckpt_form.specs.Form.{form_reads}
use Rattle.ckpt_copy.specs.Reading.{AllRead}
use Rattle.duplex_pair.specs.Halves.{IsBothLost}
use Rattle.duplex_pair.specs.declared.errors.PairNo.{PairNo}
use Rattle.duplex_pair.specs.Outcomes.{pair_stopped}
use Rattle.duplex_pair.specs.Both.{PairActed}
use Rattle.mas_complex.specs.declared.renewals.Renewals.{Renewals}
use Rattle.mas_complex.specs.Headline.{Headline, AreToldKept}
use Rattle.mas_complex.specs.CallCounts.{pair_at}
use Rattle.run_opening.specs.Runs.{has_begun, IsSafe, ReadsThere, as_found, lost_from}
use Rattle.run_opening.specs.Statuses.{IsCaused, IsCausedFrom, LeavesLost}
use Rattle.run_opening.specs.Lines.{Proceeds, StaysLost}
use Rattle.run_opening.proofs.LossLemmas.{lost_after, lost_before}
use Rattle.run_opening.proofs.ProceedLemmas.{proceeds_of}
use Rattle.mas_types.specs.declared.answers.Status.TheVariants as status
use Rattle.duplex_pair.specs.declared.errors.PairNo.TheVariants as pair_no

abbrev fate_code : Fate → ℕ
fate_code Kept = 0
fate_code Dropped = 1
fate_code Flying = 2

abbrev fate_from : ℕ → Fate
fate_from zero = Kept
fate_from (suc zero) = Dropped
fate_from (suc (suc n)) = Flying

fate_back : (f : Fate) → fate_from (fate_code f) ≡ f
fate_back Kept = refl
fate_back Dropped = refl
fate_back Flying = refl

abbrev coded_fate : Coded Fate
coded_fate = code_by ℕ coded_ℕ fate_code fate_from fate_back

-- what is told is kept, which needs no choice
pub told_of : (base : Queue) (since : ℕ) (J : Journal) (rs : Renewals) (v : View) → ∥ Headline form_reads base since J rs v ∥₁ → AreToldKept J since v
told_of base since J rs v head t from le by at end telling there k d lt has =
    ∥∥₁_elim head (×_prop (Coded-set coded_fate _ _) le_prop) (λ h. h.told t from le by at end telling there k d lt has)

-- a copy that was there at a moment, with these pages, was so then whatever came later
pub reads_there : (dev : Dev) (pages : List ℕ) (old new : View) → Proceeds old new → (disk_now old dev).lost ≡ false → form_reads (disk_now old dev).bytes ≡ Some pages → ReadsThere dev pages old.now new
reads_there dev pages old new goes there reads =
    let same : disk_at new old.now dev ≡ disk_now old dev = ap (λ (w : World). w.disk dev) (goes.past old.now (le_refl old.now)) in
    (ap (λ (d : Disk). d.lost) same ∙ there, ap (λ (d : Disk). form_reads d.bytes) same ∙ reads)

-- devices of copies that were lost before or are so after
abbrev pub lost_ever : View → View → Dev → Bool
lost_ever old new d = old.lost (DiskPart d) || new.lost (DiskPart d)

pub ever_lost : (old new : View) → Proceeds old new → (p : Part) → old.lost p ≡ true → (as_found (lost_ever old new) new).lost p ≡ true
ever_lost old new goes (DiskPart Ckpt1) is = true_or (old.lost (DiskPart Ckpt1)) (new.lost (DiskPart Ckpt1)) is
ever_lost old new goes (DiskPart Ckpt2) is = true_or (old.lost (DiskPart Ckpt2)) (new.lost (DiskPart Ckpt2)) is
ever_lost old new goes (DiskPart (Spool n)) is = goes.lost (DiskPart (Spool n)) refl is
ever_lost old new goes Console is = goes.lost Console refl is
ever_lost old new goes (Printer m) is = goes.lost (Printer m) refl is
ever_lost old new goes (Wire w) is = goes.lost (Wire w) refl is

or_on : (a b : Bool) → (a ≡ true → b ≡ true) → (a || b) ≡ b
or_on true b on = sym (on refl)
or_on false b on = refl

pub ever_on : (old new : View) (d : Dev) → StaysLost d old new → lost_ever old new d ≡ new.lost (DiskPart d)
ever_on old new d stays = or_on (old.lost (DiskPart d)) (new.lost (DiskPart d)) stays

-- but for stops that were armed, and copies that were replaced, it went as acts go
abbrev pub unarmed_view : View → View → View
unarmed_view old new = record new { lost = λ p. lost_from (lost_ever old new) p (new.lost p); arms = old.arms }

pub unarmed : (old new : View) → Proceeds old new → Goes old (unarmed_view old new)
unarmed old new goes = record {
  later = goes.later;
  past = goes.past;
  size = goes.size;
  faults = goes.faults;
  stops = goes.stops;
  lost = ever_lost old new goes;
  arms = λ m. refl;
}

-- what holds at each moment
pub safe_of : (told : Type 0) (base : Queue) (journal : Journal) (rs : Renewals) (since : ℕ) (new : View) → IsSound base → (told → ∥ Headline form_reads base since journal rs new ∥₁) → IsSafe told base journal rs since new
safe_of told base journal rs since new sound head = record {
  crash = λ t. ∥∥₁_map (head t) (λ h. h.crash);
  alike = λ t. ∥∥₁_map (head t) (λ h. h.alike);
  texts = λ t. ∥∥₁_map (head t) (λ h. h.texts);
  told = λ t. told_of base since journal rs new (head t);
  paper = λ t. ∥∥₁_elim (head t) ∥∥₁_prop (λ h. h.paper sound);
  levels = λ t. ∥∥₁_map (head t) (λ h. h.levels);
  few = λ t. ∥∥₁_elim (head t) le_prop (λ h. h.few);
}

-- THE LINES AS THE CALL HAS THEM, which began before the formatting or the start

-- how both copies were lost: in the formatting, or later
pub caused_since : (by : ℕ) (a b stopped : Bool) (answer : Status) (entry old new : View) → PairActed by true a true b stopped entry old → Proceeds old new → ((d : Dev) → Grows (old.loses d) (new.loses d)) → IsCausedFrom a b answer old new → IsCaused answer entry new
caused_since by a b stopped answer entry old new formed goes grow caused = record {
  failed1 = λ d. by_copy a (λ is. lost_after Ckpt1 entry old new (proceeds_of entry old formed.goes) (inl (formed.loses Ckpt1)) (caused.failed1 d is)) (λ not. lost_before Ckpt1 entry old new (inl (formed.failed1 refl not)) goes (grow Ckpt1));
  failed2 = λ d. by_copy b (λ is. lost_after Ckpt2 entry old new (proceeds_of entry old formed.goes) (inl (formed.loses Ckpt2)) (caused.failed2 d is)) (λ not. lost_before Ckpt2 entry old new (inl (formed.failed2 refl not)) goes (grow Ckpt2));
  console = λ d. omega (arith, formed.goes.faults Console, caused.console d);
} where
  by_copy : {A : Type 0} (x : Bool) → (x ≡ true → A) → (x ≡ false → A) → A
  by_copy true f g = f refl
  by_copy false f g = g refl

-- a run that lost both copies in the formatting
pub caused_formed : (by : ℕ) (a b stopped : Bool) (entry new : View) → PairActed by true a true b stopped entry new → IsBothLost a b → IsCaused status.BothLost entry new
caused_formed by a b stopped entry new formed both = record {
  failed1 = λ d. inl (formed.failed1 refl both.0);
  failed2 = λ d. inl (formed.failed2 refl both.1);
  console = λ d. absurd (cc);
}

-- the operator is never stopped in the formatting
pub caused_unformed : (T : Type 0) (a b : Bool) (why : PairNo) (entry new : View) → PairActed 0 true a true b (pair_stopped {T = T} (Err why)) entry new → (why ≡ pair_no.BothLost → IsBothLost a b) → IsCaused status.BothLost entry new
caused_unformed T a b pair_no.BothLost entry new formed both = caused_formed 0 a b false entry new formed (both refl)
caused_unformed T a b pair_no.Halted entry new formed both = let some = formed.not_operator refl in absurd (omega (arith, some))

-- and what that leaves lost
pub formed_lost : (T : Type 0) (a b : Bool) (why : PairNo) (entry new : View) → PairActed 0 true a true b (pair_stopped {T = T} (Err why)) entry new → (why ≡ pair_no.BothLost → IsBothLost a b) → LeavesLost status.BothLost entry new
formed_lost T a b pair_no.BothLost entry new formed both = record { stays = formed.goes.lost; both = λ is. (formed.is_lost1 refl (both refl).0, formed.is_lost2 refl (both refl).1) }
formed_lost T a b pair_no.Halted entry new formed both = let some = formed.not_operator refl in absurd (omega (arith, some))

-- A COPY AS IT WAS FORMED

-- what the images of a copy read as later
pub formed_images : (dev : Dev) (rests : List ℕ → Disk → Type 0) (pages : List ℕ) (alive : Bool) (v w : View) → Proceeds v w → ((d : Disk) → rests pages d → AllRead form_reads pages d)
    → (alive ≡ true → rests pages (disk_now v dev)) → (alive ≡ false → v.now < top → (disk_now v dev).lost ≡ true) → v.now < top → AllRead form_reads pages (disk_at w v.now dev)
formed_images dev rests pages alive v w goes read rested gone lt =
    let le : v.now ≤ v.now = omega arith in
    subst (λ (x : World). AllRead form_reads pages (x.disk dev)) (sym (goes.past v.now le)) (by_copy alive (λ a. read (disk_now v dev) (rested a)) (λ n image is. absurd (clash (disk_now v dev).lost (gone n lt) is.there)))
  where
    by_copy : {A : Type 0} (x : Bool) → (x ≡ true → A) → (x ≡ false → A) → A
    by_copy true f g = f refl
    by_copy false f g = g refl

    clash : (b : Bool) → b ≡ true → b ≡ false → ⊥
    clash b p q = absurd (cc)

-- WHAT IS KNOWN OF THE EMPTY QUEUE

none_used : {A : Type 0} (P : A → Type 0) (n : ℕ) → All P (used (replicate n None))
none_used P zero = All-nil P
none_used P (suc n) = none_used P n

module _ (config : Config) (routes : List Route) (t : Tables) (is : t ≡ empty_tables config routes) where
  pub fit_empty : HasShape t → AreFit t
  fit_empty shape = record {
    shape = shape;
    jobs = subst (λ (u : Tables). All (IsFitJob u.order) (used u.jobs)) (sym is) (none_used (IsFitJob 0) config.jobs);
    outputs = subst (λ (u : Tables). All (IsFitOutput u.order) (used u.outputs)) (sym is) (none_used (IsFitOutput 0) config.outputs);
  }

  pub low_empty : (batches : ℕ) → HasShape t → AreLow t.config batches t
  low_empty batches shape = record { same = refl; fit = fit_empty shape; order = subst (λ (u : Tables). u.order ≤ orders_after batches) (sym is) (omega arith) }

  pub orders_empty : HaveOrders t
  orders_empty = subst HaveOrders (sym is) (empty_orders config routes)

  pub told_empty : (Q : Queue) → Q ≡ empty_queue config routes → Tell (empty_tables config routes) (empty_queue config routes) → Tell t Q
  told_empty Q queue told = subst (Tell t) (sym queue) (subst (λ (u : Tables). Tell u (empty_queue config routes)) (sym is) told)

  pub sound_empty : IsConfig config → length routes ≤ routes_most → Tell (empty_tables config routes) (empty_queue config routes) → TellSound t
  sound_empty fits few told = subst TellSound (sym is) (record { queue = empty_queue config routes; told = told; sound = empty_queue-sound config routes fits few })

-- an empty queue has the sound parts
pub sound_base : (config : Config) (routes : List Route) (Q : Queue) → Q ≡ empty_queue config routes → IsConfig config → length routes ≤ routes_most → IsSound Q
sound_base config routes Q is fits few = subst IsSound (sym is) (empty_queue-sound config routes fits few)

-- an empty queue has members
pub begun_empty : (config : Config) (routes : List Route) (Q : Queue) → Q ≡ empty_queue config routes → IsConfig config → has_begun Q ≡ true
begun_empty config routes Q is fits = let some = fits.members.0 in let e : nat_lt 0 config.members ≡ true = grind (arith, nat_tests, some) in ap has_begun is ∙ e

-- an empty queue has no texts
pub empty_texts : (config : Config) (routes : List Route) (gone : ℕ → Bool) (disks : Spools) (Q : Queue) → Q ≡ empty_queue config routes → HasTexts gone disks Q.config.groups Q
empty_texts config routes gone disks Q is = subst (λ (R : Queue). HasTexts gone disks R.config.groups R) (sym is) (record { decks = All-nil _; outputs = All-nil _ })

-- CAUSES, THROUGH RESTART AND THE START

pub grows_through : (v0 v1 v2 : View) (d : Dev) → v1.loses d ≡ v0.loses d → Grows (v1.loses d) (v2.loses d) → Grows (v0.loses d) (v2.loses d)
grows_through v0 v1 v2 d same grow = ⊎_elim (λ e. inl (e ∙ same)) (λ r. inr (omega (arith, r, same))) grow

by_alive : {A : Type 0} (x : Bool) → (x ≡ true → A) → (x ≡ false → A) → A
by_alive true f g = f refl
by_alive false f g = g refl

pub caused_through : (a a' c c' : Bool) (answer : Status) (v0 v1 v2 : View) → Course (pair_at a c v0) (pair_at a' c' v1) → Proceeds v1 v2 → ((d : Dev) → Grows (v1.loses d) (v2.loses d)) → IsCausedFrom a' c' answer v1 v2 → IsCausedFrom a c answer v0 v2
caused_through a a' c c' answer v0 v1 v2 course goes grow caused = record {
  failed1 = λ e was. by_alive a' (λ is. lost_after Ckpt1 v0 v1 v2 (proceeds_of v0 v1 course.goes) (course.grow Ckpt1) (caused.failed1 e is)) (λ not. lost_before Ckpt1 v0 v1 v2 (course.failed1 was not) goes (grow Ckpt1));
  failed2 = λ e was. by_alive c' (λ is. lost_after Ckpt2 v0 v1 v2 (proceeds_of v0 v1 course.goes) (course.grow Ckpt2) (caused.failed2 e is)) (λ not. lost_before Ckpt2 v0 v1 v2 (course.failed2 was not) goes (grow Ckpt2));
  console = λ e. omega (arith, course.goes.faults Console, caused.console e);
}
