-- An index that lags behind tables, where these change.
use Rattle.std.proofs.Common.{◌≡◌, ◌⊎◌, ⊎_elim, inl, inr, ℕ, zero, suc, ◌+◌, ◌-◌, ◌*◌, ◌/◌, ◌<◌, ◌≤◌, Bool, false, List, [], ◌∷◌, length, take, drop, map, Option, slice_get, refl, sym, ap, ◌∙◌, All, arith}
use Rattle.std.specs.Prelude.{min, nat_lt}
use Rattle.std.proofs.lemmas.Bool.Decides.{nat_tests}
use Rattle.std.proofs.lemmas.Option.{slice_get_past}
use Rattle.mas_types.specs.declared.queues.Config.{Config}
use Rattle.lay_bytes.specs.declared.records.JobRec.{JobRec}
use Rattle.lay_bytes.specs.declared.records.OutRec.{OutRec}
use Rattle.lay_bytes.specs.Slots.{job_slot, output_slot, IsJobRec, IsOutRec, IfUsed}
use Rattle.lay_bytes.proofs.SlotLemmas.{job_length, job_one, output_length, output_one}
use Rattle.ckpt_tables.specs.declared.tables.Tables.{Tables}
use Rattle.ckpt_tables.specs.Pages.{filled, page_of, part}
use Rattle.ckpt_tables.specs.Shape.{HasSpelling, jobs_a_page, outputs_a_page, first_job_page, first_output_page, first_group_page}
use Rattle.ckpt_pages.proofs.CheckpointLemmas.{job_page as page_of_jobs, output_page as page_of_outputs}
use Rattle.ckpt_pages.proofs.EntryLemmas.{one_list}
use Rattle.ckpt_pages.proofs.SlotPageLemmas.{part_entries}
use Rattle.queue_slots.proofs.Cases.{test_cases}
use Rattle.page_marks.specs.Marks.{is_marked, job_page, output_page, Touches}
use Rattle.job_select.specs.declared.index.Index.{Index}
use Rattle.job_select.specs.Behind.{AreSpelledAlike, IsBehind}
use Rattle.job_select.specs.Indexes.{IsOf}

sides : (a b : ℕ) → (a < b) ⊎ (b ≤ a)
sides a b = test_cases (nat_lt a b) ((a < b) ⊎ (b ≤ a)) (λ is. inl (grind (arith, nat_tests, is))) (λ is. inr (grind (arith, nat_tests, is)))

module _ {X : Type 0} where
  get_take : (n i : ℕ) (xs : List X) → i < n → slice_get (take n xs) i ≡ slice_get xs i
  get_take zero i xs lt = absurd (omega (arith, lt))
  get_take (suc n) i [] lt = refl
  get_take (suc n) zero (x ∷ xs) lt = refl
  get_take (suc n) (suc i) (x ∷ xs) lt = get_take n i xs (omega (arith, lt))

  get_drop : (n i : ℕ) (xs : List X) → slice_get (drop n xs) i ≡ slice_get xs (n + i)
  get_drop zero i xs = let e : i ≡ 0 + i = omega arith in ap (slice_get xs) e
  get_drop (suc n) i [] = refl
  get_drop (suc n) i (x ∷ xs) = get_drop n i xs ∙ ap (slice_get (x ∷ xs)) (let e : suc (n + i) ≡ suc n + i = omega arith in e)

  get_part : (count k i : ℕ) (xs : List X) → i < count → slice_get (part count k xs) i ≡ slice_get xs (count * k + i)
  get_part count k i xs lt = get_take count i (drop (count * k) xs) lt ∙ get_drop (count * k) i xs

  -- what stands in a slot is the same where its page is
  same_slot : (count k i at : ℕ) (xs ys : List X) → i < count → at ≡ count * k + i → part count k ys ≡ part count k xs → slice_get ys at ≡ slice_get xs at
  same_slot count k i at xs ys lt is same =
      ap (slice_get ys) is ∙ sym (get_part count k i ys lt) ∙ ap (λ (zs : List X). slice_get zs i) same ∙ get_part count k i xs lt ∙ ap (slice_get xs) (sym is)

  past_both : (at : ℕ) (xs ys : List X) → length ys ≡ length xs → length xs ≤ at → slice_get ys at ≡ slice_get xs at
  past_both at xs ys size past = slice_get_past ys at (omega (arith, size, past)) ∙ sym (slice_get_past xs at past)

  -- slots with one spelling each stand on one page in one way
  same_part : (slot : X → List ℕ) (Fits : X → Type 0) (w : ℕ) → ((x : X) → Fits x → length (slot x) ≡ w) → ((x y : X) → Fits x → Fits y → slot x ≡ slot y → x ≡ y)
      → (count k : ℕ) (page : List ℕ) (xs ys : List X) → w * count ≤ 4096 → All Fits xs → All Fits ys → length ys ≡ length xs
      → page ≡ filled (map slot (part count k xs)) → page ≡ filled (map slot (part count k ys)) → part count k ys ≡ part count k xs
  same_part slot Fits w long apart count k page xs ys room fit_xs fit_ys size is_xs is_ys =
      one_list slot Fits w long apart (min (length xs - count * k) count) page (part count k ys) (part count k xs)
      (part_entries slot Fits w long count (length xs) k page ys fit_ys size room is_ys)
      (part_entries slot Fits w long count (length xs) k page xs fit_xs refl room is_xs)

module _ (t u : Tables) (levels : List ℕ) (marks : List Bool) (old : HasSpelling t) (new : HasSpelling u) (config : u.config ≡ t.config) (alike : AreSpelledAlike marks levels t u) where
  jobs_size : length u.jobs ≡ length t.jobs
  jobs_size = new.shape.jobs ∙ ap (λ (c : Config). c.jobs) config ∙ sym old.shape.jobs

  outputs_size : length u.outputs ≡ length t.outputs
  outputs_size = new.shape.outputs ∙ ap (λ (c : Config). c.outputs) config ∙ sym old.shape.outputs

  job_on : (at k : ℕ) → k ≡ at / jobs_a_page → at < length t.jobs → is_marked marks (first_job_page + k) ≡ false → slice_get u.jobs at ≡ slice_get t.jobs at
  job_on at k page lt off =
      let from : first_job_page ≤ first_job_page + k = omega arith in
      let to : first_job_page + k < first_output_page t.config = omega (arith, page, lt, old.shape.jobs, old.shape.config.jobs.2) in
      let same : first_output_page u.config ≡ first_output_page t.config = ap (λ (c : Config). first_output_page c) config in
      let there : first_job_page + k < first_output_page u.config = omega (arith, same, to) in
      let inside : first_job_page + k < first_group_page t.config = omega (arith, to) in
      let is : page_of t levels (first_job_page + k) ≡ filled (map job_slot (part jobs_a_page (first_job_page + k - first_job_page) t.jobs)) = page_of_jobs t levels (first_job_page + k) from to in
      let are : page_of t levels (first_job_page + k) ≡ filled (map job_slot (part jobs_a_page (first_job_page + k - first_job_page) u.jobs)) = sym (alike (first_job_page + k) from inside off) ∙ page_of_jobs u levels (first_job_page + k) from there in
      same_slot jobs_a_page (first_job_page + k - first_job_page) (at - jobs_a_page * k) at t.jobs u.jobs (omega (arith, page)) (omega (arith, page))
      (same_part job_slot (IfUsed IsJobRec) 256 job_length job_one jobs_a_page (first_job_page + k - first_job_page) (page_of t levels (first_job_page + k)) t.jobs u.jobs (omega arith) old.jobs new.jobs jobs_size is are)

  same_job : (at : ℕ) → is_marked marks (job_page at) ≡ false → slice_get u.jobs at ≡ slice_get t.jobs at
  same_job at off = ⊎_elim (λ lt. job_on at (at / jobs_a_page) refl lt off) (λ past. past_both at t.jobs u.jobs jobs_size past) (sides at (length t.jobs))

  output_on : (at k : ℕ) → k ≡ at / outputs_a_page → at < length t.outputs → is_marked marks (first_output_page t.config + k) ≡ false → slice_get u.outputs at ≡ slice_get t.outputs at
  output_on at k page lt off =
      let from : first_output_page t.config ≤ first_output_page t.config + k = omega arith in
      let to : first_output_page t.config + k < first_group_page t.config = omega (arith, page, lt, old.shape.outputs, old.shape.config.outputs.2) in
      let first : first_output_page u.config ≡ first_output_page t.config = ap (λ (c : Config). first_output_page c) config in
      let last : first_group_page u.config ≡ first_group_page t.config = ap (λ (c : Config). first_group_page c) config in
      let from_there : first_output_page u.config ≤ first_output_page t.config + k = omega (arith, first, from) in
      let there : first_output_page t.config + k < first_group_page u.config = omega (arith, last, to) in
      let low : first_job_page ≤ first_output_page t.config + k = omega arith in
      let is : page_of t levels (first_output_page t.config + k) ≡ filled (map output_slot (part outputs_a_page (first_output_page t.config + k - first_output_page t.config) t.outputs)) =
      page_of_outputs t levels (first_output_page t.config + k) from to in
      let hers : page_of u levels (first_output_page t.config + k) ≡ filled (map output_slot (part outputs_a_page (first_output_page t.config + k - first_output_page t.config) u.outputs)) =
      page_of_outputs u levels (first_output_page t.config + k) from_there there
      ∙ ap (λ (m : ℕ). filled (map output_slot (part outputs_a_page (first_output_page t.config + k - m) u.outputs))) first in
      let are : page_of t levels (first_output_page t.config + k) ≡ filled (map output_slot (part outputs_a_page (first_output_page t.config + k - first_output_page t.config) u.outputs)) =
      sym (alike (first_output_page t.config + k) low to off) ∙ hers in
      same_slot outputs_a_page (first_output_page t.config + k - first_output_page t.config) (at - outputs_a_page * k) at t.outputs u.outputs (omega (arith, page)) (omega (arith, page))
      (same_part output_slot (IfUsed IsOutRec) 128 output_length output_one outputs_a_page (first_output_page t.config + k - first_output_page t.config) (page_of t levels (first_output_page t.config + k)) t.outputs u.outputs (omega arith) old.outputs new.outputs
      outputs_size is are)

  same_output : (at : ℕ) → is_marked marks (output_page t.config at) ≡ false → slice_get u.outputs at ≡ slice_get t.outputs at
  same_output at off = ⊎_elim (λ lt. output_on at (at / outputs_a_page) refl lt off) (λ past. past_both at t.outputs u.outputs outputs_size past) (sides at (length t.outputs))

  -- an index of the old tables lags behind the new ones on pages with marks alone
  pub behind_alike : (index : Index) → IsOf index t → IsBehind index u marks
  behind_alike index is = record {
    job_count = ap (λ (s : List (Option JobRec)). length s) is.jobs ∙ sym jobs_size;
    output_count = ap (λ (s : List (Option OutRec)). length s) is.outputs ∙ sym outputs_size;
    jobs = λ at off. ap (λ (s : List (Option JobRec)). slice_get s at) is.jobs ∙ sym (same_job at off);
    outputs = λ at off.
        let own : is_marked marks (output_page t.config at) ≡ false = ap (λ (c : Config). is_marked marks (output_page c at)) (sym config) ∙ off in
        ap (λ (s : List (Option OutRec)). slice_get s at) is.outputs ∙ sym (same_output at own);
  }

-- so it does where a command marked what it changed
pub behind_touched : (index : Index) (was marks : List Bool) (t u : Tables) → HasSpelling t → HasSpelling u → Touches was marks t u → IsOf index t → IsBehind index u marks
behind_touched index was marks t u old new touches is = behind_alike t u [] marks old new touches.config (λ p from to off. touches.alike p off []) index is
