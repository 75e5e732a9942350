-- Marks over tables that are fit.
use Rattle.std.proofs.Common.{◌≡◌, ℕ, ◌*◌, ◌<◌, ◌≤◌, ◌||◌, ◌&&◌, Bool, true, List, ◌++◌, length, take, drop, nat_le, nat_lt, Option, slice_set, refl, sym, ◌∙◌, ap, arith}
use Rattle.std.specs.List.{refill, length_refill}
use Rattle.std.proofs.Math.ListN.{length-set}
use Rattle.std.proofs.lemmas.List.{append-nil, drop_all, take_all}
use Rattle.std.proofs.lemmas.Nat.{mul-le}
use Rattle.mas_types.specs.declared.ids.JobNo.{JobNo}
use Rattle.mas_types.specs.Fit.{IsConfig}
use Rattle.mas_types.specs.Limits.{pages_most, volumes_most, groups_most}
use Rattle.mas_types.specs.declared.queues.Config.{Config}
use Rattle.mas_types.specs.declared.queues.Owner.{Owner}
use Rattle.lay_bytes.specs.declared.records.JobRec.{JobRec}
use Rattle.lay_bytes.specs.declared.records.OutRec.{OutRec}
use Rattle.ckpt_tables.specs.declared.tables.Tables.{Tables}
use Rattle.ckpt_tables.specs.Shape.{page_count, first_job_page, first_output_page, first_group_page}
use Rattle.page_marks.specs.Marks.{group_page, groups_end_page, is_marked, job_page, marked, output_page, Touches}
use Rattle.page_marks.proofs.MarkLemmas.{touches_then, touch_header, touch_job, touch_jobs, touch_output, touch_outputs, touch_owners, touch_owners_between}
use Rattle.queue_effect.specs.declared.spans.Span.{Span}
use Rattle.queue_effect.specs.Spans.{StaysOutside}
use Rattle.queue_effect.specs.Standing.{AreFit}

-- one change after the other
pub then_touched : (a b c : List Bool) (t u v : Tables) → (AreFit t → Touches a b t u) → (AreFit t → AreFit u) → (AreFit u → Touches b c u v) → AreFit t → Touches a c t v
then_touched a b c t u v one keeps two fit = touches_then a b c t u v (one fit) (two (keeps fit))

few_pages : (c : Config) → IsConfig c → page_count c ≤ pages_most
few_pages c is =
    let groups : c.volumes * c.groups ≤ volumes_most * groups_most = mul-le c.volumes c.groups volumes_most groups_most is.volumes.1 is.groups.1 in
    omega (arith, is.jobs.1, is.outputs.1, groups)

refill_same : (xs ws : List Owner) → length ws ≡ length xs → refill (length xs) xs ws ≡ ws
refill_same xs ws same =
    ap (λ (l : List Owner). take (length xs) (ws ++ l)) (drop_all (length ws) xs (omega (arith, same))) ∙ ap (take (length xs)) (append-nil ws) ∙ take_all (length xs) ws (omega (arith, same))

module _ (m n : List Bool) (many : length m ≡ pages_most) (t : Tables) (fit : AreFit t) where
  -- the owners are others, as many as there were
  pub owners_touched : (os : List Owner) → length os ≡ length t.owners → ((p : ℕ) → p < pages_most → is_marked n p ≡ (is_marked m p || nat_le (first_group_page t.config) p)) → Touches m n t (record t { owners = os })
  owners_touched os same are =
      let owners = fit.shape.owners in
      touch_owners m n many t (few_pages t.config fit.shape.config) os are (omega (arith, same, owners)) (omega (arith, owners))

  pub outputs_touched : (os : List (Option OutRec)) → ((p : ℕ) → p < pages_most → is_marked n p ≡ (is_marked m p || (nat_le (first_output_page t.config) p && nat_lt p (first_group_page t.config))))
      → Touches m n t (record t { outputs = os })
  outputs_touched os are = touch_outputs m n many t (few_pages t.config fit.shape.config) os are

  pub jobs_touched : (js : List (Option JobRec)) → ((p : ℕ) → p < pages_most → is_marked n p ≡ (is_marked m p || (nat_le first_job_page p && nat_lt p (first_output_page t.config)))) → Touches m n t (record t { jobs = js })
  jobs_touched js are = touch_jobs m n many t (few_pages t.config fit.shape.config) js are

  pub owners_refilled : (ws : List Owner) → ((p : ℕ) → p < pages_most → is_marked n p ≡ (is_marked m p || nat_le (first_group_page t.config) p)) → Touches m n t (record t { owners = refill (length t.owners) t.owners ws })
  owners_refilled ws are = owners_touched (refill (length t.owners) t.owners ws) (sym (length_refill (length t.owners) t.owners ws refl)) are

  -- the owners in the span are others
  pub owners_changed : (s : Span) (gs ws : List Owner) → gs ≡ t.owners → StaysOutside s gs ws → ((p : ℕ) → p < pages_most → is_marked n p ≡ (is_marked m p || (nat_le (group_page t.config s.first) p && nat_lt p (groups_end_page t.config s.end))))
      → Touches m n t (record t { owners = refill (length t.owners) t.owners ws })
  owners_changed s gs ws owners changed are =
      let shape = fit.shape.owners in
      let stays : StaysOutside s t.owners ws = rw owners at changed in
      let same : refill (length t.owners) t.owners ws ≡ ws = refill_same t.owners ws stays.size in
      touch_owners_between m n many t (few_pages t.config fit.shape.config) (refill (length t.owners) t.owners ws) s.first s.end are (omega (arith, stays.end, shape)) (ap (take s.first) same ∙ stays.low) (ap (drop s.end) same ∙ stays.high)

-- one slot gets another item, and the header tells of it
module _ (m : List Bool) (many : length m ≡ pages_most) (t : Tables) (fit : AreFit t) where
  pub job_added_touched : (at : ℕ) (x : Option JobRec) (last : JobNo) (order : ℕ) → at < length t.jobs → Touches m (marked 0 (marked (job_page at) m)) t (record t { jobs = slice_set t.jobs at x; last = last; order = order })
  job_added_touched at x last order inside =
      let shape = fit.shape in
      touches_then m (marked (job_page at) m) (marked 0 (marked (job_page at) m)) t (record t { jobs = slice_set t.jobs at x }) (record t { jobs = slice_set t.jobs at x; last = last; order = order })
      (touch_job m t at x (omega (arith, many, shape.jobs, shape.config.jobs.1, inside)))
      (touch_header (marked (job_page at) m) (record t { jobs = slice_set t.jobs at x }) last order (omega (arith, many, length-set m (job_page at) true)))

  pub output_added_touched : (at : ℕ) (x : Option OutRec) (order : ℕ) → at < length t.outputs → Touches m (marked 0 (marked (output_page t.config at) m)) t (record t { outputs = slice_set t.outputs at x; order = order })
  output_added_touched at x order inside =
      let shape = fit.shape in
      touches_then m (marked (output_page t.config at) m) (marked 0 (marked (output_page t.config at) m)) t (record t { outputs = slice_set t.outputs at x }) (record t { outputs = slice_set t.outputs at x; order = order })
      (touch_output m t at x (omega (arith, many, shape.outputs, shape.config.jobs.1, shape.config.outputs.1, inside)))
      (touch_header (marked (output_page t.config at) m) (record t { outputs = slice_set t.outputs at x }) t.last order (omega (arith, many, length-set m (output_page t.config at) true)))
