-- Sound tables stand for sound queues.
use Rattle.std.proofs.Common.{◌≡◌, ℕ, ◌*◌, ◌<◌, ◌==◌, nat_le, nat_lt, Bool, true, false, not, ◌&&◌, ◌||◌, List, [], ◌∷◌, length, Option, Some, None, refl, ◌∙◌, ⊎_elim, arith}
use Rattle.std.specs.List.{list_any, All}
use Rattle.std.proofs.lemmas.Bool.{and_cases, and_left, and_right, lt-ltb, ltb-false, not-false, or_parts}
use Rattle.std.proofs.lemmas.Bool.Decides.{nat_tests}
use Rattle.mas_types.specs.declared.ids.MemberId.{MemberId}
use Rattle.mas_types.specs.declared.ids.JobNo.{JobNo}
use Rattle.mas_types.specs.declared.jobs.Job.{Job}
use Rattle.mas_types.specs.declared.queues.Owner.{Owner}
use Rattle.mas_types.specs.declared.queues.Owner.TheVariants as owner
use Rattle.mas_types.specs.Ids.{same_member, same_number, is_somebody}
use Rattle.mas_types.specs.Queue.{in_input}
use Rattle.mas_types.specs.Owners.{is_deck_of, is_output_of}
use Rattle.mas_types.specs.Fit.{AreDistinct}
use Rattle.mas_types.specs.Sound.{is_busy_right, is_there as is_job_there, may_be_busy, same_place, is_place_before_there}
use Rattle.lay_bytes.specs.declared.records.JobRec.{JobRec}
use Rattle.lay_bytes.specs.declared.records.OutRec.{OutRec}
use Rattle.lay_bytes.specs.Slots.{IfUsed}
use Rattle.ckpt_tables.specs.declared.tables.Tables.{Tables}
use Rattle.ckpt_pages.specs.declared.faults.TableFault.TheVariants as fault
use Rattle.ckpt_pages.specs.Sound.{first_wrong, holds_one, is_there, is_above, is_wrong_job, is_wrong_job_slot, has_outputs, same_print, is_wrong_output, is_wrong_output_slot, is_wrong_place, or_else, map_some, wrong_slot, wrong_owner, wrong_place, AreSound}
use Rattle.ckpt_pages.proofs.SlotLists.{test_cases, eq_sym, any_weaker, any_never, all_right, apart_right, in_slots}

-- NO FAULT OF ANY KIND

or_else_none : {A : Type 0} (a b : Option A) → or_else a b ≡ None → (a ≡ None) × (b ≡ None)
or_else_none None b h = (refl, h)
or_else_none (Some a) b h = absurd (cc)

map_none : {A B : Type 0} (f : A → B) (a : Option A) → map_some f a ≡ None → a ≡ None
map_none f None h = refl
map_none f (Some a) h = absurd (cc)

pub record NoneWrong (t : Tables) : Type 0 where
  pub jobs : first_wrong (is_wrong_job_slot t) [] 0 t.jobs ≡ None
  pub outputs : first_wrong (is_wrong_output_slot t) [] (length t.jobs) t.outputs ≡ None
  pub owners : wrong_owner t ≡ None
  pub places : wrong_place t ≡ None

pub none_wrong : (t : Tables) → AreSound t → NoneWrong t
none_wrong t sound =
    let number = or_else_none (map_some fault.Number (wrong_slot t)) (or_else (map_some fault.Owner (wrong_owner t)) (map_some fault.Place (wrong_place t))) sound in
    let group = or_else_none (map_some fault.Owner (wrong_owner t)) (map_some fault.Place (wrong_place t)) number.1 in
    let slot = or_else_none (first_wrong (is_wrong_job_slot t) [] 0 t.jobs) (first_wrong (is_wrong_output_slot t) [] (length t.jobs) t.outputs) (map_none fault.Number (wrong_slot t) number.0) in
    record {
      jobs = slot.0;
      outputs = slot.1;
      owners = map_none fault.Owner (wrong_owner t) group.0;
      places = map_none fault.Place (wrong_place t) group.1;
    }

-- SMALL FACTS

pub busy_right : (t : Tables) (m : MemberId) → is_above t m ≡ false → is_busy_right t.config m ≡ true
busy_right t m h = go t.config.members m.0 h
  where
    go : (most n : ℕ) → nat_lt most n ≡ false → (not (not (n == 0)) || (not (n == 0) && nat_le n most)) ≡ true
    go most n h = grind (arith, nat_tests)

pub not_both : (a b : Bool) → (a && not b) ≡ false → a ≡ true → b ≡ true
not_both true true h e = refl
not_both true false h e = absurd (cc)
not_both false b h e = absurd (cc)

pub some_lines : (lines : ℕ) (b : Bool) → (nat_lt 0 lines && not b) ≡ false → 0 < lines → b ≡ true
some_lines lines b h some = not_both (nat_lt 0 lines) b h (lt-ltb 0 lines some)

pub no_lines : (a : Bool) (lines : ℕ) → (a && nat_lt 0 lines) ≡ false → a ≡ true → lines ≡ 0
no_lines true lines h e = omega (arith, ltb-false 0 lines h)
no_lines false lines h e = absurd (cc)

-- a job of that number that passes is the one that is found, where no number is there twice
pub there_first : (n : JobNo) (test : Job → Bool) (js : List Job) → AreDistinct (λ a b. same_number a.number b.number) js → list_any (λ j. same_number j.number n && test j) js ≡ true → is_job_there test js n ≡ true
there_first n test [] d h = absurd (cc)
there_first n test (j ∷ js) d h =
    test_cases (same_number j.number n) (is_job_there test (j ∷ js) n ≡ true)
    (λ e. rw e (test_cases (test j) (test j ≡ true) (λ p. p)
    (λ p. absurd (let none : list_any (λ j. same_number j.number n && test j) js ≡ false = none_else j js e d.0 in let w = rw (e, p, none) at h in cc))))
    (λ e. rw e (there_first n test js d.1 (rw e at h)))
  where
    other : (a b n : ℕ) → (a == n) ≡ true → (a == b) ≡ false → (b == n) ≡ false
    other a b n h g = grind (arith, nat_tests)

    none_else : (j : Job) (js : List Job) → same_number j.number n ≡ true → list_any (λ b. same_number j.number b.number) js ≡ false → list_any (λ j. same_number j.number n && test j) js ≡ false
    none_else j js e h =
        any_weaker (λ (b : Job). same_number j.number b.number) (λ (b : Job). same_number b.number n && test b) (λ b g. and_left (same_number b.number n) (test b) (other j.number.0 b.number.0 n.0 e g)) js h

-- WHAT IS RIGHT

module _ (t : Tables) where
  -- what holds of a job that isn't wrong, whatever stands before it
  pub record IsRightJob (j : JobRec) : Type 0 where
    pub busy : is_above t j.busy ≡ false
    pub phase : (is_somebody j.busy && not (may_be_busy j.phase)) ≡ false
    pub cards : (in_input j.phase && nat_lt 0 j.cards) ≡ false
    pub group : (nat_lt 0 j.cards && not (list_any (is_deck_of j.number) t.owners)) ≡ false

  right_job : (before : List (Option JobRec)) (j : JobRec) → is_wrong_job t before j ≡ false → IsRightJob j × (is_there (λ i. same_number i.number j.number) before ≡ false)
  right_job before j h =
      let number : Bool = is_there (λ (i : JobRec). same_number i.number j.number) before in
      let order : Bool = is_there (λ (i : JobRec). i.order == j.order) before in
      let next : Bool = nat_le t.order j.order in
      let above : Bool = is_above t j.busy in
      let phase : Bool = is_somebody j.busy && not (may_be_busy j.phase) in
      let cards : Bool = in_input j.phase && nat_lt 0 j.cards in
      let group : Bool = nat_lt 0 j.cards && not (list_any (is_deck_of j.number) t.owners) in
      let g = or_parts (((((number || order) || next) || above) || phase) || cards) group h in
      let f = or_parts ((((number || order) || next) || above) || phase) cards g.0 in
      let e = or_parts (((number || order) || next) || above) phase f.0 in
      let d = or_parts ((number || order) || next) above e.0 in
      let c = or_parts (number || order) next d.0 in
      let b = or_parts number order c.0 in
      (record { busy = d.1; phase = e.1; cards = f.1; group = g.1 }, b.0)

  pub right_job_slot : (before : List (Option JobRec)) (slot : Option JobRec) → is_wrong_job_slot t before slot ≡ false → IfUsed IsRightJob slot
  right_job_slot before None h = tt
  right_job_slot before (Some j) h = (right_job before j h).0

  pub new_number : (before : List (Option JobRec)) (slot : Option JobRec) → is_wrong_job_slot t before slot ≡ false → list_any (λ y. in_slots (λ (a b : JobRec). same_number a.number b.number) y slot) before ≡ false
  new_number before None h = any_never (λ (y : Option JobRec). false) (λ y. refl) before
  new_number before (Some j) h = (right_job before j h).1

  -- what holds of an output that isn't wrong
  pub record IsRightOutput (o : OutRec) : Type 0 where
    pub job : is_there (has_outputs o.job) t.jobs ≡ true
    pub busy : is_above t o.busy ≡ false
    pub mark : nat_lt (o.lines * o.copies) o.mark ≡ false
    pub group : (nat_lt 0 o.lines && not (list_any (is_output_of o.job o.index) t.owners)) ≡ false

  pub record IsNewOutput (before : List (Option OutRec)) (o : OutRec) : Type 0 where
    pub key : is_there (same_print o) before ≡ false
    pub printer : (is_somebody o.busy && is_there (λ p. same_member p.busy o.busy) before) ≡ false

  right_output : (before : List (Option OutRec)) (o : OutRec) → is_wrong_output t before o ≡ false → IsRightOutput o × IsNewOutput before o
  right_output before o h =
      let of_jobs : Bool = is_there (λ (j : JobRec). j.order == o.order) t.jobs in
      let order : Bool = is_there (λ (p : OutRec). p.order == o.order) before in
      let next : Bool = nat_le t.order o.order in
      let job : Bool = is_there (has_outputs o.job) t.jobs in
      let key : Bool = is_there (same_print o) before in
      let printer : Bool = is_somebody o.busy && is_there (λ (p : OutRec). same_member p.busy o.busy) before in
      let above : Bool = is_above t o.busy in
      let mark : Bool = nat_lt (o.lines * o.copies) o.mark in
      let group : Bool = nat_lt 0 o.lines && not (list_any (is_output_of o.job o.index) t.owners) in
      let i = or_parts (((((((of_jobs || order) || next) || not job) || key) || printer) || above) || mark) group h in
      let g = or_parts ((((((of_jobs || order) || next) || not job) || key) || printer) || above) mark i.0 in
      let f = or_parts (((((of_jobs || order) || next) || not job) || key) || printer) above g.0 in
      let e = or_parts ((((of_jobs || order) || next) || not job) || key) printer f.0 in
      let d = or_parts (((of_jobs || order) || next) || not job) key e.0 in
      let c = or_parts ((of_jobs || order) || next) (not job) d.0 in
      (record { job = not-false job c.1; busy = f.1; mark = g.1; group = i.1 }, record { key = d.1; printer = e.1 })

  pub right_output_slot : (before : List (Option OutRec)) (slot : Option OutRec) → is_wrong_output_slot t before slot ≡ false → IfUsed IsRightOutput slot
  right_output_slot before None h = tt
  right_output_slot before (Some o) h = (right_output before o h).0

  pub new_key : (before : List (Option OutRec)) (slot : Option OutRec) → is_wrong_output_slot t before slot ≡ false → list_any (λ y. in_slots (λ (a b : OutRec). same_print b a) y slot) before ≡ false
  new_key before None h = any_never (λ (y : Option OutRec). false) (λ y. refl) before
  new_key before (Some o) h = (right_output before o h).1.key

  abbrev pub same_desk : OutRec → OutRec → Bool
  same_desk a b = is_somebody a.busy && same_member a.busy b.busy

  pub new_printer : (before : List (Option OutRec)) (slot : Option OutRec) → is_wrong_output_slot t before slot ≡ false → list_any (λ y. in_slots same_desk y slot) before ≡ false
  new_printer before None h = any_never (λ (y : Option OutRec). false) (λ y. refl) before
  new_printer before (Some o) h = go o before (right_output before o h).1.printer
    where
      both_nobody : (a b : ℕ) → not (b == 0) ≡ false → (not (a == 0) && (a == b)) ≡ false
      both_nobody a b h = grind (arith, nat_tests)

      nobody_else : (o : OutRec) → is_somebody o.busy ≡ false → (slot : Option OutRec) → holds_one (λ y. same_desk y o) slot ≡ false
      nobody_else o h None = refl
      nobody_else o h (Some p) = both_nobody p.busy.0 o.busy.0 h

      weaker : (o : OutRec) (slot : Option OutRec) → holds_one (λ p. same_member p.busy o.busy) slot ≡ false → holds_one (λ y. same_desk y o) slot ≡ false
      weaker o None h = refl
      weaker o (Some p) h = and_right (is_somebody p.busy) (same_member p.busy o.busy) h

      go : (o : OutRec) (before : List (Option OutRec)) → (is_somebody o.busy && is_there (λ p. same_member p.busy o.busy) before) ≡ false → list_any (holds_one (λ y. same_desk y o)) before ≡ false
      go o before h =
          ⊎_elim (λ e. any_never (holds_one (λ (y : OutRec). same_desk y o)) (nobody_else o e) before)
          (λ e. any_weaker (holds_one (λ (p : OutRec). same_member p.busy o.busy)) (holds_one (λ (y : OutRec). same_desk y o)) (weaker o) before e)
          (and_cases (is_somebody o.busy) (is_there (λ (p : OutRec). same_member p.busy o.busy) before) h)

-- GROUPS

place_sym : (a b : Owner) → same_place a b ≡ same_place b a
place_sym (owner.Deck n p) (owner.Deck k q) = rw (eq_sym n.0 k.0, eq_sym p q) refl
place_sym (owner.Output n i p) (owner.Output k j q) = rw (eq_sym n.0 k.0, eq_sym i.0 j.0, eq_sym p q) refl
place_sym owner.Free owner.Free = refl
place_sym owner.Free (owner.Member m) = refl
place_sym owner.Free (owner.Deck n p) = refl
place_sym owner.Free (owner.Output n i p) = refl
place_sym (owner.Member m) owner.Free = refl
place_sym (owner.Member m) (owner.Member l) = refl
place_sym (owner.Member m) (owner.Deck n p) = refl
place_sym (owner.Member m) (owner.Output n i p) = refl
place_sym (owner.Deck n p) owner.Free = refl
place_sym (owner.Deck n p) (owner.Member m) = refl
place_sym (owner.Deck n p) (owner.Output k j q) = refl
place_sym (owner.Output n i p) owner.Free = refl
place_sym (owner.Output n i p) (owner.Member m) = refl
place_sym (owner.Output n i p) (owner.Deck k q) = refl

module _ (t : Tables) (sound : NoneWrong t) where
  new_place : (before : List Owner) (g : Owner) → is_wrong_place t before g ≡ false → list_any (λ y. same_place y g) before ≡ false
  new_place before g h =
      any_weaker (same_place g) (λ y. same_place y g) (λ y e. place_sym y g ∙ e) before (or_parts (list_any (same_place g) before) (not (is_place_before_there t.owners g)) h).0

  pub places_apart : AreDistinct same_place t.owners
  places_apart = (apart_right (is_wrong_place t) same_place new_place [] 0 t.owners sound.places).0

  no_gap : (before : List Owner) (g : Owner) → is_wrong_place t before g ≡ false → is_place_before_there t.owners g ≡ true
  no_gap before g h = not-false (is_place_before_there t.owners g) (or_parts (list_any (same_place g) before) (not (is_place_before_there t.owners g)) h).1

  pub gaps : All (λ g. is_place_before_there t.owners g ≡ true) t.owners
  gaps = all_right (is_wrong_place t) (λ g. is_place_before_there t.owners g ≡ true) no_gap [] 0 t.owners sound.places
