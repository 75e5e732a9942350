-- What is found among jobs.
use Rattle.std.proofs.Common.{◌≡◌, ℕ, ◌-◌, ◌<◌, suc, zero, Bool, true, false, List, [], ◌∷◌, length, Option, Some, None, set, slice_get, ◌++◌, refl, sym, ap, ◌∙◌, arith}
use Rattle.std.specs.Prelude.{find, is_some, option_map, IfSome, IfNone}
use Rattle.std.specs.List.{All}
use Rattle.mas_types.specs.declared.ids.MemberId.{MemberId}
use Rattle.mas_types.specs.declared.jobs.JobFields.{JobFields}
use Rattle.mas_types.specs.declared.jobs.Phase.TheVariants as phase
use Rattle.mas_types.specs.Commands.Input.{new_job}
use Rattle.mas_types.specs.declared.ids.JobNo.{JobNo}
use Rattle.mas_types.specs.declared.jobs.Job.{Job}
use Rattle.mas_types.specs.Number.{after, free_from, is_number_used}
use Rattle.mas_types.specs.Queue.{has_number}
use Rattle.lay_bytes.specs.declared.records.JobRec.{JobRec}
use Rattle.queue_slots.specs.declared.slots.Found.{Found}
use Rattle.queue_slots.proofs.Keys.{any-none, any-some}
use Rattle.lay_bytes.specs.Used.{used}
use Rattle.queue_slots.specs.Listed.{listed, StandsFirst}
use Rattle.queue_slots.proofs.Changes.{length-listed, listed-free}
use Rattle.queue_slots.proofs.Alike.{length-alike, push-alike}
use Rattle.job_queue.specs.Jobs.{AreJobs, HasJob, order_of, unordered, rec_of}

-- the number of the job that is found
pub number_found : (test : Job → Bool) (slots : List (Option JobRec)) (js : List Job) (o : Option (Found JobRec)) → AreJobs slots js
    → IfSome o (λ f. (ks : List Job) → AreJobs slots ks → HasJob test slots ks f.at f.item) → IfNone o ((ks : List Job) → AreJobs slots ks → find test ks ≡ None)
    → option_map (λ f. f.item.number) o ≡ option_map (λ j. j.number) (find test js)
number_found test slots js None are some none = rw (none js are) refl
number_found test slots js (Some f) are some none =
    let has = some js are in
    let same : has.item.number ≡ f.item.number = ap (λ (r : JobRec). r.number) has.is in
    rw (has.found, same) refl

-- a job has the number
pub used_found : (n : ℕ) (slots : List (Option JobRec)) (js : List Job) (o : Option (Found JobRec)) → AreJobs slots js
    → IfSome o (λ f. (ks : List Job) → AreJobs slots ks → HasJob (has_number (record { 0 = n })) slots ks f.at f.item) → IfNone o ((ks : List Job) → AreJobs slots ks → find (has_number (record { 0 = n })) ks ≡ None)
    → is_some o ≡ is_number_used js n
used_found n slots js None are some none = sym (any-none (λ j. has_number (record { 0 = n }) j) js (none js are))
used_found n slots js (Some f) are some none =
    let has = some js are in sym (any-some (λ j. has_number (record { 0 = n }) j) js has.item has.found)

-- a number that is used is passed over
pub free_from-used : (js : List Job) (n more : ℕ) → 0 < more → is_number_used js n ≡ true → free_from js (after n) (more - 1) ≡ free_from js n more
free_from-used js n zero some used = absurd (omega arith)
free_from-used js n (suc more) some used = let e : suc more - 1 ≡ more = omega arith in rw (used, e) refl

-- a number that isn't used is the first free one from it on
pub free_from-free : (js : List Job) (n more : ℕ) → is_number_used js n ≡ false → n ≡ free_from js n more
free_from-free js n zero free = refl
free_from-free js n (suc more) free = rw free refl

-- as many jobs as slots are used
pub length-jobs : (slots : List (Option JobRec)) (js : List Job) → AreJobs slots js → length (used slots) ≡ length js
length-jobs slots js are = sym (length-listed order_of slots) ∙ length-alike unordered rec_of (listed order_of slots) js are

-- a new job
pub jobs-added : (slots : List (Option JobRec)) (at : ℕ) (js : List Job) (m : MemberId) (n : JobNo) (fields : JobFields) (order : ℕ) → slice_get slots at ≡ Some None
    → All (λ r. r.order < order) (used slots) → AreJobs slots js
    → AreJobs (set slots at (Some (record { number = n; fields = fields; phase = phase.Input; cancelled = false; busy = m; cards = 0; order = order }))) (js ++ new_job m n fields ∷ [])
jobs-added slots at js m n fields order free above are =
    let x : JobRec = record { number = n; fields = fields; phase = phase.Input; cancelled = false; busy = m; cards = 0; order = order } in
    rw (listed-free order_of x slots at free above)
    (push-alike unordered rec_of (listed order_of slots) js x (new_job m n fields) are refl)

-- the record that is found
pub record_found : (p : JobRec → Bool) (slots : List (Option JobRec)) (o : Option (Found JobRec)) → IfSome o (λ f. StandsFirst order_of p slots f.at f.item)
    → IfNone o (find p (listed order_of slots) ≡ None) → option_map (λ f. f.item) o ≡ find p (listed order_of slots)
record_found p slots None some none = sym none
record_found p slots (Some f) some none = sym some.first
