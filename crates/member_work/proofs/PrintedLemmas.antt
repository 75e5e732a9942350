-- Printing the lines of an output, act by act.
use Rattle.member_work.proofs.Names.{◌≡◌, ℕ, ◌+◌, ◌-◌, ◌*◌, ◌≤◌, min, true, List, All, Option, None, Some, inl, slice_get, refl, sym, ◌∙◌, ap, subst, arith, find, option_map_or, Ckpt1, Ckpt2, GroupNo, JobNo, MemberId, OutNo, Output, Text, Whole, Gone, Queue, printer_lines_most, line_count, output_at, printing_at, total, has_key, prints_at, Tables, HasSpelling, Tell, Disk as DiskPart, Printer, View, Goes, Acts, Prints, limit_of, Setting, IsSetting, is_somebody, OutRec, IfUsed, IsOutRec, test_cases, OnVolumes, tells_some, all_at, IsBeside, IsChunkOf, IsToldOutput, HasPrinterFailed, IsReadAs, IsWhole, one_output, find_passes, own_key, same_key_is}
use Rattle.queue_gone.specs.Gone.{gone_with}
use Rattle.output_queue.specs.Outputs.{AreOutputs, HasOutput}
use Rattle.spool_plant.specs.declared.plant.Act.{Act}
use Rattle.spool_plant.specs.declared.plant.Act.TheVariants.{Failed}
use Rattle.ckpt_copy.specs.Moments.{goes_none, goes_on}
use Rattle.paper_laws.specs.Paper.{busy_in}
use Rattle.member_work.proofs.UnderWayLemmas.{found_busy}
use Rattle.job_outcome.specs.declared.outcomes.Read.TheVariants as read

-- ACTS BESIDE THE COPIES

pub beside_none : (told : Type 0) (v : View) → IsBeside told v v
beside_none told v = record { goes = goes_none v; lost1 = refl; lost2 = refl; loses = λ d. refl; first = λ t. refl; second = λ t. refl; console = λ t. refl }

pub beside_on : (told : Type 0) (old mid new : View) → IsBeside told old mid → IsBeside told mid new → IsBeside told old new
beside_on told old mid new one two = record {
  goes = goes_on old mid new one.goes two.goes;
  lost1 = two.lost1 ∙ one.lost1;
  lost2 = two.lost2 ∙ one.lost2;
  loses = λ d. two.loses d ∙ one.loses d;
  first = λ t. two.first t ∙ one.first t;
  second = λ t. two.second t ∙ one.second t;
  console = λ t. two.console t ∙ one.console t;
}

pub beside_volumes : (told : Type 0) (by : ℕ) (old new : View) → OnVolumes told by old new → IsBeside told old new
beside_volumes told by old new acts =
    let lost1 : new.lost (DiskPart Ckpt1) ≡ old.lost (DiskPart Ckpt1) = acts.else_lost (DiskPart Ckpt1) (λ n same. absurd (cc)) in
    let lost2 : new.lost (DiskPart Ckpt2) ≡ old.lost (DiskPart Ckpt2) = acts.else_lost (DiskPart Ckpt2) (λ n same. absurd (cc)) in
    assumption (acts, lost1, lost2)

pub beside_print : (told : Type 0) (by : MemberId) (line : List ℕ) (old new : View) (r : Act) → Acts by.0 (Printer by) old new r → (told → Prints by.0 line old new r) → IsBeside told old new
beside_print told by line old new r acts content = record {
  goes = acts.goes;
  lost1 = acts.else_lost (DiskPart Ckpt1) (inl (λ same. absurd (cc)));
  lost2 = acts.else_lost (DiskPart Ckpt2) (inl (λ same. absurd (cc)));
  loses = acts.loses;
  first = λ t. (content t).disks Ckpt1;
  second = λ t. (content t).disks Ckpt2;
  console = λ t. (content t).console;
}

-- a printer that failed in a stretch failed in a wider one
pub failed_wider : (by : MemberId) (old from till new : View) → Goes old from → Goes till new → HasPrinterFailed by from till → HasPrinterFailed by old new
failed_wider by old from till new before after f = record { lost = after.lost (Printer by) f.lost; rose = omega (arith, f.rose, before.faults (Printer by), after.faults (Printer by)) }

pub print_failed : (by : MemberId) (old new : View) (r : Act) → r ≡ Failed → Acts by.0 (Printer by) old new r → HasPrinterFailed by old new
print_failed by old new r is acts = record { lost = acts.is_lost is; rose = acts.failed is }

-- THE RECORD OF AN OUTPUT

pub key_of : (n : JobNo) (i : OutNo) (os : List Output) (o : Output) → find (has_key n i) os ≡ Some o → (o.job ≡ n) × (o.index ≡ i)
key_of n i os o found = same_key_is n o.job i o.index o (find_passes (has_key n i) os o found) (own_key o)

pub told_output : (t : Tables) (n : JobNo) (i : OutNo) (at : ℕ) (r : OutRec) → HasSpelling t → ((os : List Output) → AreOutputs t.outputs os → HasOutput (has_key n i) t.outputs os at r) → slice_get t.outputs at ≡ Some (Some r) → IsToldOutput t r
told_output t n i at r spelled some here = record {
  some = rec.lines.0;
  few = rec.lines.1;
  index = rec.index;
  same = λ Q o told found. alike Q o (some Q.outputs told.outputs) found;
} where
  rec : IsOutRec r
  rec = all_at (IfUsed IsOutRec) t.outputs at (Some r) spelled.outputs here

  alike : (Q : Queue) (o : Output) → HasOutput (has_key n i) t.outputs Q.outputs at r → output_at Q r.job r.index ≡ Some o → (o.job ≡ r.job) × (o.index ≡ r.index) × (o.mark ≡ r.mark) × (line_count o.text ≡ r.lines) × (total o ≡ r.lines * r.copies)
  alike Q o has found =
      let key = key_of n i Q.outputs has.item has.found in
      let job : has.item.job ≡ r.job = ap (λ (x : OutRec). x.job) has.is in
      let index : has.item.index ≡ r.index = ap (λ (x : OutRec). x.index) has.is in
      let same : o ≡ has.item = one_output o has.item (sym found ∙ ap (λ (k : JobNo). output_at Q k r.index) (sym job ∙ key.0) ∙ ap (output_at Q n) (sym index ∙ key.1) ∙ has.found) in
      let lines : line_count has.item.text ≡ r.lines = ap (λ (x : OutRec). x.lines) has.is in
      let copies : has.item.copies ≡ r.copies = ap (λ (x : OutRec). x.copies) has.is in (
        ap (λ (x : Output). x.job) same ∙ job,
        ap (λ (x : Output). x.index) same ∙ index,
        ap (λ (x : Output). x.mark) same ∙ ap (λ (x : OutRec). x.mark) has.is,
        ap (λ (x : Output). line_count x.text) same ∙ lines,
        ap total same ∙ ap (λ (k : ℕ). k * has.item.copies) lines ∙ ap (λ (k : ℕ). r.lines * k) copies,
      )

-- the record of an output that was found has the key that was looked for
pub output_key : (t : Tables) (n : JobNo) (i : OutNo) (at : ℕ) (r : OutRec) → ((os : List Output) → AreOutputs t.outputs os → HasOutput (has_key n i) t.outputs os at r) → (r.job ≡ n) × (r.index ≡ i)
output_key t n i at r some =
    let s = tells_some t in
    let has = some s.0.outputs s.1.outputs in
    let key = key_of n i s.0.outputs has.item has.found in
    (sym (ap (λ (x : OutRec). x.job) has.is) ∙ key.0, sym (ap (λ (x : OutRec). x.index) has.is) ∙ key.1)

-- THE LINES THAT ARE PRINTED NEXT

setting_at : (ss : List Setting) (k : ℕ) (found : Option Setting) → All IsSetting ss → slice_get ss k ≡ found → option_map_or (λ s. s.lines) found 0 ≤ printer_lines_most
setting_at ss k None all is = omega arith
setting_at ss k (Some s) all is = (all_at IsSetting ss k s all is).lines.1

pub limit_most : (t : Tables) (Q : Queue) (by : MemberId) → HasSpelling t → Tell t Q → limit_of Q by ≤ printer_lines_most
limit_most t Q by spelled told =
    test_cases (is_somebody by) (limit_of Q by ≤ printer_lines_most)
    (λ e. rw e (setting_at Q.members (by.0 - 1) (slice_get Q.members (by.0 - 1)) (subst (All IsSetting) (sym told.members) spelled.shape.settings) refl))
    (λ e. rw e (omega arith))

pub chunk_of : (t : Tables) (by : MemberId) (r : OutRec) (last : ℕ) → IsToldOutput t r → last ≤ r.mark + printer_lines_most → last ≤ r.lines * r.copies → ((Q : Queue) → Tell t Q → last ≡ min (r.mark + limit_of Q by) (r.lines * r.copies)) → IsChunkOf t by r last
chunk_of t by r last output limit upto is = record {
  limit = limit;
  total = upto;
  is = λ Q o told found. let same = output.same Q o told found in is Q told ∙ sym (ap (λ (k : ℕ). min (k + limit_of Q by) (total o)) same.2 ∙ ap (λ (k : ℕ). min (r.mark + limit_of Q by) k) same.4);
}

pub still_busy : (Q : Queue) (m : MemberId) (n : JobNo) (i : OutNo) (o : Output) → output_at Q n i ≡ Some o → printing_at Q m ≡ Some o → busy_in (output_at Q n i) m ≡ true
still_busy Q m n i o there busy = rw there (find_passes (prints_at m) Q.outputs o (found_busy (is_somebody m) _ o busy))

-- WHAT WAS READ

-- lines that were read are those of a text that is whole
pub lines_whole : (told : Type 0) (per : ℕ) (text : Text) (groups : List GroupNo) (lines : List (List ℕ)) (v w : View) → told → IsReadAs told per (text, groups) (Some (read.Lines lines)) v w → text ≡ Whole lines
lines_whole told per (Whole ls) groups lines v w tells seen = let same = seen tells in let equal : lines ≡ ls = cc in ap Whole (sym equal)
lines_whole told per (Gone group count) groups lines v w tells seen = absurd (let same = seen tells in cc)

-- AN OUTPUT'S LINES ARE PRINTED

pub whole_text : (t : Text) → gone_with t ≡ None → IsWhole t
whole_text (Whole lines) none = tt
whole_text (Gone group count) none = absurd (cc)
