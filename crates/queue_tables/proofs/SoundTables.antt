-- Tables that tell a queue with the sound parts have no fault.
use Rattle.std.proofs.Common.{◌≡◌, ℕ, ◌*◌, ◌<◌, ◌==◌, nat_le, nat_lt, Bool, true, false, not, ◌&&◌, ◌||◌, List, [], ◌∷◌, length, Option, Some, None, refl, sym, ◌∙◌, subst, arith}
use Rattle.std.specs.List.{list_any, All}
use Rattle.std.proofs.lemmas.Bool.{or_from, not_from_true, le-ltb, ltb-true}
use Rattle.std.proofs.lemmas.Bool.Decides.{nat_tests}
use Rattle.std.proofs.lemmas.List.Elements.{All-nil, All-cons, All-head, All-tail, All-weaker}
use Rattle.mas_types.specs.declared.ids.JobNo.{JobNo}
use Rattle.mas_types.specs.declared.jobs.Job.{Job}
use Rattle.mas_types.specs.declared.jobs.Output.{Output as QueueOutput}
use Rattle.mas_types.specs.declared.queues.Config.{Config}
use Rattle.mas_types.specs.declared.queues.Owner.{Owner}
use Rattle.mas_types.specs.declared.queues.Owner.TheVariants as owner
use Rattle.mas_types.specs.declared.queues.Queue.{Queue}
use Rattle.mas_types.specs.Fit.{AreDistinct}
use Rattle.mas_types.specs.Ids.{same_member, same_number, same_index, is_somebody}
use Rattle.mas_types.specs.Owners.{is_deck_of, is_output_of}
use Rattle.mas_types.specs.Queue.{in_input, is_member, has_number, has_key}
use Rattle.mas_types.specs.Sound.{IsSound, IsSoundJob, IsSoundOutput, HasDeckGroup, HasOutputGroup, is_owner_there, is_place_before_there, may_be_busy, may_have_outputs, same_place, is_there as is_job_there}
use Rattle.lay_bytes.specs.declared.records.JobRec.{JobRec}
use Rattle.lay_bytes.specs.declared.records.OutRec.{OutRec}
use Rattle.lay_bytes.specs.Slots.{IfUsed}
use Rattle.ckpt_tables.specs.declared.tables.Tables.{Tables}
use Rattle.ckpt_pages.specs.declared.faults.TableFault.TheVariants as fault
use Rattle.lay_bytes.specs.Used.{used}
use Rattle.ckpt_pages.specs.Sound.{first_wrong, holds_one, is_there, is_above, is_wrong_job_slot, has_outputs, same_print, is_wrong_output_slot, has_deck, is_wrong_owner, is_wrong_place, or_else, map_some, wrong_slot, wrong_owner, wrong_place, AreSound}
use Rattle.ckpt_pages.proofs.SlotLists.{test_cases, eq_sym, any_weaker, any_used, distinct_agree, in_slots}
use Rattle.queue_telling.specs.Telling.{Tell}
use Rattle.job_queue.specs.Jobs as jobs
use Rattle.output_queue.specs.Outputs as outputs
use Rattle.queue_tables.specs.Laws.{ToldAreSound}
use Rattle.queue_telling.specs.Orders.{HaveOrders}
use Rattle.queue_tables.proofs.Lists.{all_are_right, each_is_right, all_slots, distinct_slots, distinct_or, all_told, distinct_told, any_told, found_passes, found_there}

-- SMALL FACTS

both_not : (a b : Bool) → (a ≡ true → b ≡ true) → (a && not b) ≡ false
both_not true b h = rw (h refl) refl
both_not false b h = refl

never_some : (a : Bool) (n : ℕ) → (a ≡ true → n ≡ 0) → (a && nat_lt 0 n) ≡ false
never_some true n h = rw (h refl) refl
never_some false n h = refl

not_above : (most n : ℕ) → (not (not (n == 0)) || (not (n == 0) && nat_le n most)) ≡ true → nat_lt most n ≡ false
not_above most n h = grind (arith, nat_tests)

not_reached : (next n : ℕ) → n < next → nat_le next n ≡ false
not_reached next n h = grind (arith, nat_tests)

all_both : {X : Type 0} (P Q R : X → Type 0) (xs : List X) → ((x : X) → P x → Q x → R x) → All P xs → All Q xs → All R xs
all_both P Q R [] f p q = All-nil R
all_both P Q R (x ∷ xs) f p q = All-cons R x xs (f x (All-head P x xs p) (All-head Q x xs q)) (all_both P Q R xs f (All-tail P x xs p) (All-tail Q x xs q))

holds_weaker : {X : Type 0} (t u : X → Bool) → ((x : X) → t x ≡ false → u x ≡ false) → (slot : Option X) → holds_one t slot ≡ false → holds_one u slot ≡ false
holds_weaker t u weaker None h = refl
holds_weaker t u weaker (Some x) h = weaker x h

-- what no slot holds
none_holds : {X : Type 0} (t u : X → Bool) → ((x : X) → t x ≡ false → u x ≡ false) → (slots : List (Option X)) → list_any (holds_one t) slots ≡ false → is_there u slots ≡ false
none_holds t u weaker slots h = any_weaker (holds_one t) (holds_one u) (holds_weaker t u weaker) slots h

first_of : (a b : Bool) → (a || b) ≡ false → a ≡ false
first_of true b e = absurd (cc)
first_of false b e = refl

second_of : (a b : Bool) → (a || b) ≡ false → b ≡ false
second_of true b e = absurd (cc)
second_of false b e = e

-- JOBS

-- what a job's slot says that isn't wrong, except its number and order
abbrev RightJob : Tables → JobRec → Type 0
RightJob t r =
    (is_above t r.busy ≡ false) × ((is_somebody r.busy && not (may_be_busy r.phase)) ≡ false) × ((in_input r.phase && nat_lt 0 r.cards) ≡ false)
    × ((nat_lt 0 r.cards && not (list_any (is_deck_of r.number) t.owners)) ≡ false)

abbrev FitJob : Tables → JobRec → Type 0
FitJob t r = RightJob t r × (r.order < t.order)

abbrev same_job : JobRec → JobRec → Bool
same_job a b = same_number a.number b.number || (a.order == b.order)

module _ (t : Tables) where
  says_job : (before : List (Option JobRec)) (slot : Option JobRec) → IfUsed (FitJob t) slot → list_any (λ y. in_slots same_job y slot) before ≡ false → is_wrong_job_slot t before slot ≡ false
  says_job before None p h = refl
  says_job before (Some j) p h =
      let number : is_there (λ (i : JobRec). same_number i.number j.number) before ≡ false =
      none_holds (λ i. same_job i j) (λ (i : JobRec). same_number i.number j.number) (λ i e. first_of (same_number i.number j.number) (i.order == j.order) e) before h in
      let order : is_there (λ (i : JobRec). i.order == j.order) before ≡ false =
      none_holds (λ i. same_job i j) (λ (i : JobRec). i.order == j.order) (λ i e. second_of (same_number i.number j.number) (i.order == j.order) e) before h in
      let one = or_from (is_there (λ (i : JobRec). same_number i.number j.number) before) (is_there (λ (i : JobRec). i.order == j.order) before) number order in
      let two = or_from _ (nat_le t.order j.order) one (not_reached t.order j.order p.1) in
      let three = or_from _ (is_above t j.busy) two p.0.0 in
      let four = or_from _ (is_somebody j.busy && not (may_be_busy j.phase)) three p.0.1 in
      let five = or_from _ (in_input j.phase && nat_lt 0 j.cards) four p.0.2 in
      or_from _ (nat_lt 0 j.cards && not (list_any (is_deck_of j.number) t.owners)) five p.0.3

right_job : (t : Tables) (j : Job) → IsSoundJob t.config j → HasDeckGroup t.owners j → RightJob t (jobs.rec_of j)
right_job t j sound group = (
  not_above t.config.members j.busy.0 sound.busy,
  both_not (is_somebody j.busy) (may_be_busy j.phase) sound.busy_phase,
  never_some (in_input j.phase) (jobs.rec_of j).cards sound.no_cards,
  both_not (nat_lt 0 (jobs.rec_of j).cards) (list_any (is_deck_of j.number) t.owners) (λ e. group (ltb-true 0 (jobs.rec_of j).cards e)),
)

-- OUTPUTS

abbrev RightOutput : Tables → OutRec → Type 0
RightOutput t o =
    (is_there (has_outputs o.job) t.jobs ≡ true) × (is_above t o.busy ≡ false) × (nat_lt (o.lines * o.copies) o.mark ≡ false)
    × ((nat_lt 0 o.lines && not (list_any (is_output_of o.job o.index) t.owners)) ≡ false)

abbrev FitOutput : Tables → OutRec → Type 0
FitOutput t o = RightOutput t o × (list_any (λ j. j.order == o.order) (used t.jobs) ≡ false) × (o.order < t.order)

abbrev same_desk : OutRec → OutRec → Bool
same_desk a b = is_somebody a.busy && same_member a.busy b.busy

abbrev same_out : OutRec → OutRec → Bool
same_out a b = ((a.order == b.order) || same_print b a) || same_desk a b

desk_free : (a b : ℕ) → not (b == 0) ≡ true → (not (a == 0) && (a == b)) ≡ false → (a == b) ≡ false
desk_free a b some h = grind (arith, nat_tests)

module _ (t : Tables) where
  no_printer : (before : List (Option OutRec)) (o : OutRec) → list_any (holds_one (λ p. same_desk p o)) before ≡ false → (is_somebody o.busy && is_there (λ p. same_member p.busy o.busy) before) ≡ false
  no_printer before o h =
      test_cases (is_somebody o.busy) ((is_somebody o.busy && is_there (λ p. same_member p.busy o.busy) before) ≡ false)
      (λ e. let none : is_there (λ (p : OutRec). same_member p.busy o.busy) before ≡ false =
      none_holds (λ (p : OutRec). same_desk p o) (λ (p : OutRec). same_member p.busy o.busy) (λ p n. desk_free p.busy.0 o.busy.0 e n) before h in
      rw (e, none) refl)
      (λ e. rw e refl)

  says_output : (before : List (Option OutRec)) (slot : Option OutRec) → IfUsed (FitOutput t) slot → list_any (λ y. in_slots same_out y slot) before ≡ false → is_wrong_output_slot t before slot ≡ false
  says_output before None p h = refl
  says_output before (Some o) p h =
      let of_jobs : is_there (λ (j : JobRec). j.order == o.order) t.jobs ≡ false = any_used (λ (j : JobRec). j.order == o.order) t.jobs ∙ p.1 in
      let order : is_there (λ (q : OutRec). q.order == o.order) before ≡ false =
      none_holds (λ q. same_out q o) (λ (q : OutRec). q.order == o.order)
      (λ q e. first_of (q.order == o.order) (same_print o q) (first_of ((q.order == o.order) || same_print o q) (same_desk q o) e)) before h in
      let key : is_there (same_print o) before ≡ false =
      none_holds (λ q. same_out q o) (same_print o)
      (λ q e. second_of (q.order == o.order) (same_print o q) (first_of ((q.order == o.order) || same_print o q) (same_desk q o) e)) before h in
      let desk : list_any (holds_one (λ q. same_desk q o)) before ≡ false =
      none_holds (λ q. same_out q o) (λ q. same_desk q o) (λ q e. second_of ((q.order == o.order) || same_print o q) (same_desk q o) e) before h in
      let one = or_from (is_there (λ (j : JobRec). j.order == o.order) t.jobs) (is_there (λ (q : OutRec). q.order == o.order) before) of_jobs order in
      let two = or_from _ (nat_le t.order o.order) one (not_reached t.order o.order p.2) in
      let three = or_from _ (not (is_there (has_outputs o.job) t.jobs)) two (not_from_true (is_there (has_outputs o.job) t.jobs) p.0.0) in
      let four = or_from _ (is_there (same_print o) before) three key in
      let five = or_from _ (is_somebody o.busy && is_there (λ (q : OutRec). same_member q.busy o.busy) before) four (no_printer before o desk) in
      let six = or_from _ (is_above t o.busy) five p.0.1 in
      let seven = or_from _ (nat_lt (o.lines * o.copies) o.mark) six p.0.2 in
      or_from _ (nat_lt 0 o.lines && not (list_any (is_output_of o.job o.index) t.owners)) seven p.0.3

print_sym : (a b : OutRec) → same_print b a ≡ same_print a b
print_sym a b = rw (eq_sym a.job.0 b.job.0, eq_sym a.index.0 b.index.0) refl

desk_sym : (a b : OutRec) → same_desk a b ≡ same_desk b a
desk_sym a b = go a.busy.0 b.busy.0
  where
    go : (m n : ℕ) → (not (m == 0) && (m == n)) ≡ (not (n == 0) && (n == m))
    go m n = grind (arith, nat_tests)

-- GROUPS

place_sym : (a b : Owner) → same_place b a ≡ same_place a b
place_sym (owner.Deck n p) (owner.Deck k q) = rw (eq_sym n.0 k.0, eq_sym p q) refl
place_sym (owner.Output n i p) (owner.Output k j q) = rw (eq_sym n.0 k.0, eq_sym i.0 j.0, eq_sym p q) refl
place_sym owner.Free owner.Free = refl
place_sym owner.Free (owner.Member m) = refl
place_sym owner.Free (owner.Deck n p) = refl
place_sym owner.Free (owner.Output n i p) = refl
place_sym (owner.Member m) owner.Free = refl
place_sym (owner.Member m) (owner.Member l) = refl
place_sym (owner.Member m) (owner.Deck n p) = refl
place_sym (owner.Member m) (owner.Output n i p) = refl
place_sym (owner.Deck n p) owner.Free = refl
place_sym (owner.Deck n p) (owner.Member m) = refl
place_sym (owner.Deck n p) (owner.Output k j q) = refl
place_sym (owner.Output n i p) owner.Free = refl
place_sym (owner.Output n i p) (owner.Member m) = refl
place_sym (owner.Output n i p) (owner.Deck k q) = refl

says_place : (t : Tables) (before : List Owner) (g : Owner) → is_place_before_there t.owners g ≡ true → list_any (λ y. same_place y g) before ≡ false → is_wrong_place t before g ≡ false
says_place t before g there none =
    or_from (list_any (same_place g) before) (not (is_place_before_there t.owners g))
    (any_weaker (λ y. same_place y g) (same_place g) (λ y e. place_sym y g ∙ e) before none) (not_from_true (is_place_before_there t.owners g) there)

-- ALL OF IT

none_or : {A : Type 0} (a b : Option A) → a ≡ None → b ≡ None → or_else a b ≡ None
none_or None b e h = h
none_or (Some x) b e h = absurd (cc)

none_some : {A B : Type 0} (f : A → B) (a : Option A) → a ≡ None → map_some f a ≡ None
none_some f None e = refl
none_some f (Some x) e = absurd (cc)

module _ (t : Tables) (Q : Queue) (told : Tell t Q) (sound : IsSound Q) (orders : HaveOrders t) where
  -- a job that is there stands in a slot
  job_there : (test : Job → Bool) (n : JobNo) (shows : JobRec → Bool) → ((j : Job) → (has_number n j && test j) ≡ shows (jobs.rec_of j)) → ((r : JobRec) → shows (jobs.unordered r) ≡ shows r) → is_job_there test Q.jobs n ≡ true → is_there shows t.jobs ≡ true
  job_there test n shows as_shown as_told h =
      any_used shows t.jobs
      ∙ any_same (λ r. shows r) (λ r. shows (jobs.unordered r)) (λ r. sym (as_told r)) (used t.jobs)
      ∙ any_told jobs.order_of jobs.unordered jobs.rec_of t.jobs Q.jobs told.jobs shows
      ∙ any_same (λ j. shows (jobs.rec_of j)) (λ j. has_number n j && test j) (λ j. sym (as_shown j)) Q.jobs
      ∙ found_passes (has_number n) test Q.jobs h
    where
      any_same : {X : Type 0} (p q : X → Bool) → ((x : X) → p x ≡ q x) → (xs : List X) → list_any p xs ≡ list_any q xs
      any_same p q same [] = refl
      any_same p q same (x ∷ xs) = rw (same x, any_same p q same xs) refl

  jobs_right : All (FitJob t) (used t.jobs)
  jobs_right =
      all_both (RightJob t) (λ r. r.order < t.order) (FitJob t) (used t.jobs) (λ r p q. (p, q))
      (all_told jobs.order_of jobs.unordered jobs.rec_of t.jobs Q.jobs told.jobs (RightJob t)
      (all_both (IsSoundJob t.config) (HasDeckGroup t.owners) (λ j. RightJob t (jobs.rec_of j)) Q.jobs (right_job t)
      (subst (λ (c : Config). All (IsSoundJob c) Q.jobs) told.config sound.jobs) (subst (λ (os : List Owner). All (HasDeckGroup os) Q.jobs) told.owners sound.decks)))
      orders.jobs_below

  numbers_apart : AreDistinct (λ a b. same_number a.number b.number) (used t.jobs)
  numbers_apart = distinct_told jobs.order_of jobs.unordered jobs.rec_of t.jobs Q.jobs told.jobs (λ a b. same_number a.number b.number) (λ a b. eq_sym a.number.0 b.number.0) sound.numbers

  no_wrong_job : first_wrong (is_wrong_job_slot t) [] 0 t.jobs ≡ None
  no_wrong_job =
      all_are_right (is_wrong_job_slot t) (IfUsed (FitJob t)) (in_slots same_job) (says_job t) 0 t.jobs (all_slots (FitJob t) t.jobs jobs_right)
      (distinct_slots same_job t.jobs (distinct_or (λ a b. same_number a.number b.number) (λ a b. a.order == b.order) (used t.jobs) numbers_apart orders.jobs))

  right_output : (o : QueueOutput) → IsSoundOutput t.config Q.jobs o → HasOutputGroup t.owners o → RightOutput t (outputs.rec_of o)
  right_output o is group = (
    job_there (λ j. may_have_outputs j.phase) o.job (has_outputs o.job) (λ j. refl) (λ r. refl) is.job,
    not_above t.config.members o.busy.0 is.busy,
    le-ltb ((outputs.rec_of o).lines * o.copies) o.mark is.mark,
    both_not (nat_lt 0 (outputs.rec_of o).lines) (list_any (is_output_of o.job o.index) t.owners) (λ e. group (ltb-true 0 (outputs.rec_of o).lines e)),
  )

  outputs_right : All (FitOutput t) (used t.outputs)
  outputs_right =
      all_both (RightOutput t) (λ o. (list_any (λ j. j.order == o.order) (used t.jobs) ≡ false) × (o.order < t.order)) (FitOutput t) (used t.outputs) (λ o p q. (p, q.0, q.1))
      (all_told outputs.order_of outputs.unordered outputs.rec_of t.outputs Q.outputs told.outputs (RightOutput t)
      (all_both (IsSoundOutput t.config Q.jobs) (HasOutputGroup t.owners) (λ o. RightOutput t (outputs.rec_of o)) Q.outputs right_output
      (subst (λ (c : Config). All (IsSoundOutput c Q.jobs) Q.outputs) told.config sound.outputs) (subst (λ (os : List Owner). All (HasOutputGroup os) Q.outputs) told.owners sound.groups)))
      (all_both (λ o. list_any (λ j. j.order == o.order) (used t.jobs) ≡ false) (λ o. o.order < t.order) (λ o. (list_any (λ j. j.order == o.order) (used t.jobs) ≡ false) × (o.order < t.order)) (used t.outputs) (λ o p q. (p, q)) orders.apart orders.outputs_below)

  keys_apart : AreDistinct (λ a b. same_print b a) (used t.outputs)
  keys_apart =
      distinct_agree same_print (λ a b. same_print b a) (λ a b. print_sym b a) (used t.outputs)
      (distinct_told outputs.order_of outputs.unordered outputs.rec_of t.outputs Q.outputs told.outputs same_print (λ a b. print_sym b a) sound.keys)

  printers_apart : AreDistinct same_desk (used t.outputs)
  printers_apart = distinct_told outputs.order_of outputs.unordered outputs.rec_of t.outputs Q.outputs told.outputs same_desk desk_sym sound.printers

  no_wrong_output : first_wrong (is_wrong_output_slot t) [] (length t.jobs) t.outputs ≡ None
  no_wrong_output =
      all_are_right (is_wrong_output_slot t) (IfUsed (FitOutput t)) (in_slots same_out) (says_output t) (length t.jobs) t.outputs (all_slots (FitOutput t) t.outputs outputs_right)
      (distinct_slots same_out t.outputs
      (distinct_or (λ a b. (a.order == b.order) || same_print b a) same_desk (used t.outputs)
      (distinct_or (λ a b. a.order == b.order) (λ a b. same_print b a) (used t.outputs) orders.outputs keys_apart) printers_apart))

  -- GROUPS OF TABLES

  right_owner : (g : Owner) → is_owner_there Q.config Q.jobs Q.outputs g ≡ true → is_wrong_owner t g ≡ false
  right_owner owner.Free h = refl
  right_owner (owner.Member m) h = not_from_true (is_member t.config m) (subst (λ (c : Config). is_member c m ≡ true) told.config h)
  right_owner (owner.Deck n place) h = not_from_true (is_there (has_deck n) t.jobs) (job_there (λ j. not (in_input j.phase)) n (has_deck n) (λ j. refl) (λ r. refl) h)
  right_owner (owner.Output n i place) h =
      let shows : OutRec → Bool = λ o. same_number o.job n && same_index o.index i in
      not_from_true (is_there shows t.outputs)
      (any_used shows t.outputs ∙ any_told outputs.order_of outputs.unordered outputs.rec_of t.outputs Q.outputs told.outputs shows ∙ found_there (has_key n i) Q.outputs h)

  no_wrong_owner : wrong_owner t ≡ None
  no_wrong_owner =
      each_is_right (is_wrong_owner t) [] 0 t.owners
      (subst (λ (os : List Owner). All (λ g. is_wrong_owner t g ≡ false) os) told.owners
      (All-weaker (λ g. is_owner_there Q.config Q.jobs Q.outputs g ≡ true) (λ g. is_wrong_owner t g ≡ false) right_owner Q.owners sound.owners))

  no_wrong_place : wrong_place t ≡ None
  no_wrong_place =
      all_are_right (is_wrong_place t) (λ g. is_place_before_there t.owners g ≡ true) same_place (says_place t) 0 t.owners
      (subst (λ (os : List Owner). All (λ g. is_place_before_there os g ≡ true) os) told.owners sound.no_gaps)
      (subst (λ (os : List Owner). AreDistinct same_place os) told.owners sound.places)

  no_fault : AreSound t
  no_fault =
      none_or (map_some fault.Number (wrong_slot t)) (or_else (map_some fault.Owner (wrong_owner t)) (map_some fault.Place (wrong_place t)))
      (none_some fault.Number (wrong_slot t) (none_or (first_wrong (is_wrong_job_slot t) [] 0 t.jobs) (first_wrong (is_wrong_output_slot t) [] (length t.jobs) t.outputs) no_wrong_job no_wrong_output))
      (none_or (map_some fault.Owner (wrong_owner t)) (map_some fault.Place (wrong_place t)) (none_some fault.Owner (wrong_owner t) no_wrong_owner) (none_some fault.Place (wrong_place t) no_wrong_place))

pub told_are_sound : ToldAreSound
told_are_sound t Q told sound orders = no_fault t Q told sound orders
