-- The job that a member goes on with is in Convert or Execute, and has no output; and the output that it prints.
use Rattle.member_work.proofs.Names.{◌≡◌, if◌then◌else◌, Bool, true, false, [], ◌∷◌, Option, Some, None, unwrap_or, ◌&&◌, nat_lt, refl, sym, ap, subst, ◌∙◌, arith, option_map, JobNo, MemberId, OutNo, Job, Output, Queue, runs, IsIndex, same_number, is_somebody, same_member, has_output, job_at, output_at, printing_at, total, first_in, in_convert, in_execute, in_output, in_purge, is_busy_at, prints_at, Tables, HasSpelling, Tell, TellSound, nat_tests, find-All, JobRec, OutRec, IsOutRec, ToldAreTheirOwn, IsPrinting, IsUnderWay, and_parts, or_left, or_right, same_member_is}
use Rattle.mas_types.specs.declared.jobs.Phase.{Phase}
use Rattle.mas_types.specs.declared.jobs.Phase.TheVariants as phase
use Rattle.mas_types.specs.declared.units.Unit as units
use Rattle.mas_types.specs.declared.units.Unit.TheVariants as unit
use Rattle.mas_types.specs.Lists.{first_some}
use Rattle.mas_types.specs.Selection.{for_convert, for_execute, for_printer}
use Rattle.mas_types.specs.Units.{print_unit, unit_if, unit_of, working_at}
use Rattle.queue_laws.proofs.Others.{IsFoundIn, IsKeyFoundIn, found_itself, key_found_itself}
use Rattle.queue_slots.proofs.Alike.{find_some-alike, list_any-alike}
use Rattle.queue_gone.proofs.GoneLemmas.{sound_none}
use Rattle.lay_bytes.specs.Used.{used}
use Rattle.ckpt_pages.proofs.SlotLists.{all_used}
use Rattle.queue_slots.specs.Listed.{listed}
use Rattle.queue_slots.proofs.Rising.{All-in_order}
use Rattle.job_queue.specs.Jobs as jobs
use Rattle.output_queue.specs.Outputs as outputs

-- WHICH UNIT IS NEXT

module _ (p k : Option Output) (a b r c e f : Option Job) where
  abbrev chosen : units.Unit
  chosen = unwrap_or (first_some (option_map print_unit p ∷ unit_if unit.Pick k ∷ unit_if unit.Purge a ∷ unit_if unit.Gather b ∷ option_map (λ j. unit.Run j.number) r ∷ option_map (λ j. unit.Convert j.number) c ∷ unit_if unit.TakeExec e ∷ unit_if unit.TakeConvert f ∷ [])) unit.Idle

module _ (Q : Queue) (m : MemberId) where
  -- what the member has at hand of which this is the unit
  abbrev IsAtHand : units.Unit → Type 0
  IsAtHand (unit.Print n i) = (o : Output) × (printing_at Q m ≡ Some o) × (nat_lt o.mark (total o) ≡ true) × (o.job ≡ n) × (o.index ≡ i)
  IsAtHand (unit.Finish n i) = (o : Output) × (printing_at Q m ≡ Some o) × (o.index ≡ i)
  IsAtHand (unit.Run n) = (j : Job) × (working_at Q m in_execute ≡ Some j) × (j.number ≡ n)
  IsAtHand (unit.Convert n) = (j : Job) × (working_at Q m in_convert ≡ Some j) × (j.number ≡ n)
  IsAtHand _ = Unit {0}

  printed_hand : (o : Output) → printing_at Q m ≡ Some o → (b : Bool) → nat_lt o.mark (total o) ≡ b → IsAtHand (if b then unit.Print o.job o.index else unit.Finish o.job o.index)
  printed_hand o is true below = (o, is, below, refl, refl)
  printed_hand o is false below = (o, is, refl)

  chosen_hand : (p k : Option Output) (a b r c e f : Option Job) → printing_at Q m ≡ p → working_at Q m in_execute ≡ r → working_at Q m in_convert ≡ c → IsAtHand (chosen p k a b r c e f)
  chosen_hand (Some o) k a b r c e f prints runs converts = printed_hand o prints (nat_lt o.mark (total o)) refl
  chosen_hand None (Some x) a b r c e f prints runs converts = tt
  chosen_hand None None (Some x) b r c e f prints runs converts = tt
  chosen_hand None None None (Some x) r c e f prints runs converts = tt
  chosen_hand None None None None (Some j) c e f prints runs converts = (j, runs, refl)
  chosen_hand None None None None None (Some j) e f prints runs converts = (j, converts, refl)
  chosen_hand None None None None None None (Some x) f prints runs converts = tt
  chosen_hand None None None None None None None (Some x) prints runs converts = tt
  chosen_hand None None None None None None None None prints runs converts = tt

  at_hand : (u : units.Unit) → u ≡ unit_of Q m → IsAtHand u
  at_hand u is = subst IsAtHand (sym is) (chosen_hand (printing_at Q m) (for_printer Q m) (first_in in_purge Q) (first_in in_output Q) (working_at Q m in_execute) (working_at Q m in_convert) (for_execute Q m) (for_convert Q) refl refl refl)

-- what is busy at somebody
pub found_busy : {A : Type 0} (b : Bool) (o : Option A) (x : A) → (if b then o else None) ≡ Some x → o ≡ Some x
found_busy true o x is = is
found_busy false o x is = absurd (cc)

-- THE JOB AT WORK

pub both_second : (a b : Bool) → (a && b) ≡ true → b ≡ true
both_second a b e = (and_parts a b e).1

-- a job at work of each queue that the tables tell has no output, since it has none in a sound one
none_of : (t : Tables) (Q : Queue) (n : JobNo) (j : Job) → TellSound t → Tell t Q → job_at Q n ≡ Some j → runs j.phase ≡ true → has_output n Q ≡ false
none_of t Q n j s told found ran =
    let x = find_some-alike jobs.rec_of jobs.rec_of (λ (r : JobRec). same_number r.number n) Q.jobs s.queue.jobs j (sym told.jobs ∙ s.told.jobs) found in
    list_any-alike outputs.rec_of outputs.rec_of (λ (r : OutRec). same_number r.job n) Q.outputs s.queue.outputs (sym told.outputs ∙ s.told.outputs)
    ∙ sound_none s.queue n x.item s.sound x.found (ap (λ (r : JobRec). runs r.phase) x.is ∙ ran)

-- the job at work is in the queue, busy at the member
under_way : (t : Tables) (Q : Queue) (m : MemberId) (n : JobNo) (in_phase : Phase → Bool) (j : Job) → ToldAreTheirOwn → TellSound t → Tell t Q → ((p : Phase) → in_phase p ≡ true → runs p ≡ true) → working_at Q m in_phase ≡ Some j → j.number ≡ n → IsUnderWay Q m n
under_way t Q m n in_phase j own s told ran is number =
    let here = find-All (IsFoundIn Q.jobs) (λ (x : Job). in_phase x.phase && is_busy_at m x) Q.jobs j (found_itself Q.jobs (own t Q s told).numbers) (found_busy (is_somebody m) _ j is) in
    let both = and_parts (in_phase j.phase) (is_busy_at m j) here.1 in
    let found : job_at Q n ≡ Some j = subst (λ (k : JobNo). job_at Q k ≡ Some j) number here.0 in
    let runs_it : runs j.phase ≡ true = ran j.phase both.0 in
    record { job = j; there = found; busy = same_member_is j.busy m both.1; phase = runs_it; none = none_of t Q n j s told found runs_it }

pub text_under_way : (t : Tables) (Q : Queue) (m : MemberId) (n : JobNo) (runs_it : Bool) → ToldAreTheirOwn → TellSound t → Tell t Q → (if runs_it then unit.Run n else unit.Convert n) ≡ unit_of Q m → IsUnderWay Q m n
text_under_way t Q m n true own s told is = let w = at_hand Q m (unit.Run n) is in under_way t Q m n in_execute w.0 own s told (λ p e. or_right (in_convert p) (in_execute p) e) w.1 w.2
text_under_way t Q m n false own s told is = let w = at_hand Q m (unit.Convert n) is in under_way t Q m n in_convert w.0 own s told (λ p e. or_left (in_convert p) (in_execute p) e) w.1 w.2

-- THE OUTPUT AT THE PRINTER

pub print_under_way : (t : Tables) (Q : Queue) (m : MemberId) (n : JobNo) (i : OutNo) → ToldAreTheirOwn → TellSound t → Tell t Q → unit.Print n i ≡ unit_of Q m → IsPrinting Q m n i
print_under_way t Q m n i own s told is =
    let w = at_hand Q m (unit.Print n i) is in
    let there = (find-All (IsKeyFoundIn Q.outputs) (prints_at m) Q.outputs w.0 (key_found_itself Q.outputs (own t Q s told).keys) (found_busy (is_somebody m) _ w.0 w.1)).0 in
    record {
      output = w.0;
      there = subst (λ (k : JobNo). output_at Q k i ≡ Some w.0) w.3 (subst (λ (x : OutNo). output_at Q w.0.job x ≡ Some w.0) w.4 there);
      busy = w.1;
      below = let small = w.2 in grind (arith, nat_tests);
    }

-- an output at the printer has an index that an output may have, as its record does
pub finish_indexed : (t : Tables) (Q : Queue) (m : MemberId) (n : JobNo) (i : OutNo) → HasSpelling t → Tell t Q → unit.Finish n i ≡ unit_of Q m → IsIndex i.0
finish_indexed t Q m n i spelled told is =
    let w = at_hand Q m (unit.Finish n i) is in
    let rs = listed outputs.order_of t.outputs in
    let r = find_some-alike outputs.rec_of outputs.unordered (λ (x : OutRec). same_member x.busy m) Q.outputs rs w.0 (sym told.outputs) (found_busy (is_somebody m) _ w.0 w.1) in
    let rec = (find-All IsOutRec (λ (x : OutRec). same_member x.busy m) rs r.item (All-in_order outputs.order_of IsOutRec (used t.outputs) (all_used IsOutRec t.outputs spelled.outputs)) r.found).0 in
    subst (λ (x : OutNo). IsIndex x.0) (ap (λ (x : OutRec). x.index) r.is ∙ w.2) rec.index
