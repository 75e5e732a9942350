-- What acts without the lock show of a text.
use Rattle.std.proofs.lemmas.Option.{same_Some as one_group}
use Rattle.std.specs.Option.{option_map}
use Rattle.mas_types.specs.declared.queues.Thing.{Thing}
use Rattle.member_asides.specs.Whole.{queue_of}
use Rattle.queue_gone.specs.Gone.{text_at}
use Rattle.member_acts.specs.Reads.{IsTextOf}
use Rattle.member_acts.proofs.Names.{◌≡◌, ℕ, ◌≤◌, Bool, true, false, List, Option, Some, None, ◌+◌, Result, Err, ◌∙◌, ◌*◌, append-nil, ap, refl, sym, subst, arith, inl, inr, Job, Output, Text, job_at, line_count, output_at, has_key, has_number, printing_at, total, Spool, Disk as DiskPart, AreRoomy, kept_all, run, IsThereUnless, lost_now, spools_at, HasTexts, Spools, counts_of, gone_with, as_it_is, after_lines, IsChunkOf, IsPrinting, IsToldOutput, IsFailedRead, HasFailed, IsReadAs, IsWhole, lines_read, HasInked, OnVolumes, AreQuiet, IsQuiet, SpoolStops, HasOnlyPrinted, HasStayed, IsJobStill, IsOutputStill, lines_next, printed_in, Coded-set, find-All, GroupNo, JobNo, MemberId, OutNo, Whole, Gone, Queue, Batch, Entry, Deck, OutputThing, Goes, View, ViewDisk as Disk, disk_now, paper_now, Ghosts as PlantGhosts, groups_of, Parts, whole, Read, chunk_end, key_of, limit_most, output_key, still_busy, coded_read, number_of, tells_some, NodeNo, NoMemory, Halted, slice_get, told_output, ∥∥₁_elim, names_read, nat_tests, ◌==◌}
use Rattle.member_acts.specs.Prints.{MayPrintTo, upto}
use Rattle.mas_types.specs.declared.ids.Dev.{Dev}
use Rattle.lay_bytes.specs.declared.records.JobRec.{JobRec}
use Rattle.lay_bytes.specs.declared.records.OutRec.{OutRec}
use Rattle.ckpt_tables.specs.Shape.{HasSpelling}
use Rattle.ckpt_tables.specs.declared.tables.Tables.{Tables}
use Rattle.output_queue.specs.Outputs.{AreOutputs, HasOutput}
use Rattle.queue_telling.specs.Telling.{Tell}
use Rattle.paper_laws.specs.Paper.{busy_in}
use Rattle.job_outcome.specs.declared.outcomes.Read.TheVariants as read
use Rattle.member_work.specs.Steps.{IsTold}
use Rattle.member_acts.proofs.InkedLemmas.{unprinted_yet, inked_by}

-- a text that was gone
pub gone_is : (t : Text) (g : GroupNo) → Some g ≡ gone_with t → read.Gone g ≡ as_it_is t
gone_is (Whole lines) g is = absurd (cc)
gone_is (Gone group count) g is = ap read.Gone (one_group g group is)

-- the text of a job, or of an output, stands in its groups
stands_there : (v : View) (per : ℕ) (Q : Queue) (thing : Thing) (text : Text) → text_at thing Q ≡ Some text → HasTexts (lost_now v) (spools_at v v.now) per Q → IsThereUnless (lost_now v) (spools_at v v.now) per text (groups_of thing Q.owners)
stands_there v per Q (Deck n) text found texts = by_job (job_at Q n) refl found where
  by_job : (o : Option Job) → job_at Q n ≡ o → option_map (λ j. j.text) o ≡ Some text → IsThereUnless (lost_now v) (spools_at v v.now) per text (groups_of (Deck n) Q.owners)
  by_job None is found = absurd (cc)
  by_job (Some j) is found =
      let same : j.text ≡ text = cc in
      subst (λ (k : JobNo). IsThereUnless (lost_now v) (spools_at v v.now) per text (groups_of (Deck k) Q.owners)) (number_of n j Q.jobs is)
      (subst (λ (t : Text). IsThereUnless (lost_now v) (spools_at v v.now) per t (groups_of (Deck j.number) Q.owners)) same
      (find-All (λ (x : Job). IsThereUnless (lost_now v) (spools_at v v.now) per x.text (groups_of (Deck x.number) Q.owners)) (has_number n) Q.jobs j texts.decks is).0)
stands_there v per Q (OutputThing n i) text found texts = by_output (output_at Q n i) refl found where
  by_output : (o : Option Output) → output_at Q n i ≡ o → option_map (λ o. o.text) o ≡ Some text → IsThereUnless (lost_now v) (spools_at v v.now) per text (groups_of (OutputThing n i) Q.owners)
  by_output None is found = absurd (cc)
  by_output (Some o) is found =
      let same : o.text ≡ text = cc in
      let key = key_of n i Q.outputs o is in
      subst (λ (k : JobNo). IsThereUnless (lost_now v) (spools_at v v.now) per text (groups_of (OutputThing k i) Q.owners)) key.0
      (subst (λ (l : OutNo). IsThereUnless (lost_now v) (spools_at v v.now) per text (groups_of (OutputThing o.job l) Q.owners)) key.1
      (subst (λ (t : Text). IsThereUnless (lost_now v) (spools_at v v.now) per t (groups_of (OutputThing o.job o.index) Q.owners)) same
      (find-All (λ (x : Output). IsThereUnless (lost_now v) (spools_at v v.now) per x.text (groups_of (OutputThing x.job x.index) Q.owners)) (has_key n i) Q.outputs o texts.outputs is).0))

module _ {P C : Type 0} (plants : PlantGhosts P) (x y : Parts P C) (thing : Thing) (text : Text) where
  abbrev v : View
  v = plants.view x.plant

  abbrev its : List GroupNo
  its = groups_of thing (queue_of x).owners

  -- a text that stands in these groups, or stood there
  pub text_seen : (groups : List GroupNo) (count : ℕ) (o : Read) → IsTextOf plants x y groups count o → text_at thing (queue_of x) ≡ Some text → line_count text ≡ count → its ≡ groups → plants.tells → IsWhole text → AreRoomy v x.base.config
      → ∥ HasTexts (lost_now v) (spools_at v v.now) x.base.config.groups (queue_of x) ∥₁ → IsReadAs plants.tells x.base.config.groups (text, its) (Some o) v (plants.view y.plant)
  text_seen groups count (read.Lost volume) is found lines same tells whole roomy texts =
      (λ again. whole, subst (λ (gs : List GroupNo). HasFailed x.base.config.groups gs volume v (plants.view y.plant)) (sym same) is.failed)
  text_seen groups count _ is found lines same tells whole roomy texts =
      λ again. ∥∥₁_elim texts (Coded-set coded_read _ _) (λ has. is.text text lines tells roomy (subst (λ (gs : List GroupNo). IsThereUnless (lost_now v) (spools_at v v.now) x.base.config.groups text gs) same (stands_there v x.base.config.groups (queue_of x) thing text found has)))

-- the lines of a job, as the member's tables still tell them
pub job_lines : (t : Tables) (Q : Queue) (n : JobNo) (r : JobRec) (j : Job) → IsJobStill t n Q → IsTold t r → r.number ≡ n → job_at Q n ≡ Some j → line_count j.text ≡ r.cards
job_lines t Q n r j still job number found =
    let had = still.text j found in
    let there : job_at still.was r.number ≡ Some had.0 = ap (job_at still.was) number ∙ had.1 in
    ap line_count had.2 ∙ (job.same still.was had.0 still.told there).2

-- what the member's tables have of the output with this key
pub record IsRecordOf (t : Tables) (n : JobNo) (i : OutNo) (r : OutRec) : Type 0 where
  pub told : IsToldOutput t r
  pub job : r.job ≡ n
  pub index : r.index ≡ i

pub record_of : (t : Tables) (n : JobNo) (i : OutNo) (at : ℕ) (r : OutRec) → HasSpelling t → ((os : List Output) → AreOutputs t.outputs os → HasOutput (has_key n i) t.outputs os at r) → slice_get t.outputs at ≡ Some (Some r) → IsRecordOf t n i r
record_of t n i at r spelled some here = let key = output_key t n i at r some in record { told = told_output t n i at r spelled some here; job = key.0; index = key.1 }

-- as many lines in all
same_total : (had has : Output) → HasStayed had has → total has ≡ total had
same_total had has same = ap (λ (k : Text). line_count k * has.copies) same.text ∙ ap (λ (k : ℕ). line_count had.text * k) same.copies

-- what the record says of an output, as the member's tables still tell it
pub output_was : (t : Tables) (Q : Queue) (n : JobNo) (i : OutNo) (by : MemberId) (r : OutRec) (o : Output) → IsOutputStill t by n i Q → IsRecordOf t n i r → output_at Q n i ≡ Some o
    → (o.job ≡ r.job) × (o.index ≡ r.index) × (o.mark ≡ r.mark) × (line_count o.text ≡ r.lines) × (total o ≡ r.lines * r.copies)
output_was t Q n i by r o still rec found =
    let key = key_of n i Q.outputs o found in
    let had = still.output o found in
    let same = rec.told.same still.was had.0 still.told (ap (λ (k : JobNo). output_at still.was k r.index) rec.job ∙ ap (output_at still.was n) rec.index ∙ had.1) in (
      key.0 ∙ sym rec.job,
      key.1 ∙ sym rec.index,
      had.2.mark ∙ same.2,
      ap line_count had.2.text ∙ same.3,
      same_total had.0 o had.2 ∙ same.4,
    )

-- its next lines may be printed
pub may_print_still : (base : Queue) (batches : List Batch) (current : Option Batch) (m : MemberId) (t : Tables) (n : JobNo) (i : OutNo) (r : OutRec) (last : ℕ) (lines : List (List ℕ)) → current ≡ None → (still : IsOutputStill t m n i (run base (kept_all batches))) → IsRecordOf t n i r → IsChunkOf t m r last
    → (p : IsPrinting still.was m n i) → (still.busy p.output p.there p.busy).0.text ≡ Whole lines → MayPrintTo base batches current m (upto r last) lines
may_print_still base batches current m t n i r last lines none still rec chunk p text =
    let Q : Queue = run base (kept_all batches) in
    let w : Output = p.output in
    let has = still.busy w p.there p.busy in
    let o : Output = has.0 in
    let key = key_of n i Q.outputs o has.1 in
    let named : (R : Queue) → output_at R r.job r.index ≡ output_at R n i = λ R. ap (λ (k : JobNo). output_at R k r.index) rec.job ∙ ap (output_at R n) rec.index in
    let was : output_at still.was r.job r.index ≡ Some w = named still.was ∙ p.there in
    let there : output_at Q r.job r.index ≡ Some o = named Q ∙ has.1 in
    let busy : printing_at Q m ≡ Some o = has.2 in
    let is = chunk.is still.was w still.told was in
    let mark : o.mark ≡ w.mark = has.3.mark in
    let upto : last ≤ total w = omega (arith, is) in
    record {
      output = o;
      busy = busy;
      job = key.0 ∙ sym rec.job;
      index = key.1 ∙ sym rec.index;
      mark_is = mark ∙ (rec.told.same still.was w still.told was).2;
      text = text;
      upto = subst (λ (k : ℕ). last ≤ k) (sym (same_total w o has.3)) upto;
      limit = omega (arith, is, still.limit, mark);
      still = rw none (subst (λ (es : List Entry). busy_in (output_at (run base es) r.job r.index) m ≡ true) (sym (append-nil (kept_all batches))) (still_busy Q m r.job r.index o there busy));
    }

-- THE NEXT LINES OF AN OUTPUT

-- the last of an output's next lines, by the record that the member's tables have
pub chunk_from : (t : Tables) (by : MemberId) (n : JobNo) (i : OutNo) (at : ℕ) (r : OutRec) (last : ℕ) → HasSpelling t → ((os : List Output) → AreOutputs t.outputs os → HasOutput (has_key n i) t.outputs os at r) → IsRecordOf t n i r
    → ((Q : Queue) (o : Output) → Tell t Q → output_at Q n i ≡ Some o → last ≡ chunk_end Q by o) → IsChunkOf t by r last
chunk_from t by n i at r last spelled some its is =
    let s = tells_some t in
    let named : (Q : Queue) → output_at Q r.job r.index ≡ output_at Q n i = λ Q. ap (λ (k : JobNo). output_at Q k r.index) its.job ∙ ap (output_at Q n) its.index in
    let has = some s.0.outputs s.1.outputs in
    let end = is s.0 has.item s.1 has.found in
    let same = its.told.same s.0 has.item s.1 (named s.0 ∙ has.found) in
    record {
      limit = omega (arith, end, same.2, (limit_most t s.0 by spelled s.1));
      total = omega (arith, end, same.4);
      is = λ Q o told found. is Q o told (sym (named Q) ∙ found);
    }

-- a volume that failed before has failed
pub failed_later : (per : ℕ) (groups : List GroupNo) (o : Read) (old mid new : View) → Goes mid new → IsFailedRead per groups o old mid → IsFailedRead per groups o old new
failed_later per groups (read.Lines lines) old mid new after failed = tt
failed_later per groups (read.Gone group) old mid new after failed = tt
failed_later per groups (read.Lost volume) old mid new after failed = record {
  there = failed.there;
  lost = after.lost (DiskPart (Spool volume)) failed.lost;
  rose = let more = after.faults (DiskPart (Spool volume)) in let rose = failed.rose in omega (arith, rose, more);
}

-- PAPER

-- acts on volumes print nothing
pub papers_now : (told : Type 0) (by : ℕ) (v w : View) → OnVolumes told by v w → told → (m : ℕ) → paper_now w m ≡ paper_now v m
papers_now told by v w acts t m = acts.papers t w.now acts.goes.later (omega arith) m

-- nor do prints write to any volume
pub quiet_disks : (old : Spools) (v w : View) → ((d : Dev) → disk_now w d ≡ disk_now v d) → AreQuiet old (spools_at v v.now) → AreQuiet old (spools_at w w.now)
quiet_disks old v w same quiet n = subst (λ (d : Disk). IsQuiet (old n) d) (sym (same (Spool n))) (quiet n)

-- the text wasn't read
pub inked_unread : {P C T : Type 0} (plants : PlantGhosts P) (by : MemberId) (lines : List (List ℕ)) (x y : Parts P C) (names : T → ℕ → Bool) (e : NodeNo) → SpoolStops names (Err e) by.0 (plants.view x.plant) (plants.view y.plant)
    → ((m : ℕ) → paper_now (plants.view y.plant) m ≡ paper_now (plants.view x.plant) m) → y.printed ≡ x.printed → HasInked plants by lines x y (Err e)
inked_unread plants by lines x y names e stops papers same = by_error e stops where
  counts : counts_of y.printed by ≡ counts_of x.printed by
  counts = ap (λ (l : List ℕ). counts_of l by) same

  by_error : (e : NodeNo) → SpoolStops names (Err e) by.0 (plants.view x.plant) (plants.view y.plant) → HasInked plants by lines x y (Err e)
  by_error NoMemory stops = inked_by plants by lines x y (unprinted_yet plants by lines x y papers same) (omega (arith, counts)) (Err NoMemory) (omega (arith, counts), refl) (omega (arith, counts))
  by_error Halted stops = inked_by plants by lines x y (unprinted_yet plants by lines x y papers same) (omega (arith, counts)) (Err Halted) (omega (arith, counts), inl refl) (omega (arith, counts), omega (arith, counts))
  by_error _ stops = absurd stops

-- the lines of the record are those of the output
pub same_lines : (r : OutRec) (o : Output) (was is last : ℕ) (x : Read) → o.job ≡ r.job → o.index ≡ r.index → o.mark ≡ r.mark → is ≡ was → lines_read r.job r.index (r.mark + is) last x ≡ lines_next was last o x
same_lines r o was is last x job index mark same =
    ap (λ (n : JobNo). lines_read n r.index (r.mark + is) last x) (sym job)
    ∙ ap (λ (i : OutNo). lines_read o.job i (r.mark + is) last x) (sym index)
    ∙ ap (λ (k : ℕ). lines_read o.job o.index (k + is) last x) (sym mark)
    ∙ ap (λ (k : ℕ). lines_read o.job o.index (o.mark + k) last x) same

-- what was read is as the output's text is, unless a volume was found lost
pub read_as_it_is : (told : Type 0) (per : ℕ) (text : Text) (groups : List GroupNo) (v w : View) (a : Read) → told → ((n : ℕ) → names_read a n ≡ false) → IsReadAs told per (text, groups) (Some a) v w → a ≡ as_it_is text
read_as_it_is told per text groups v w (read.Lost volume) t not seen = absurd (itself volume (not volume)) where
  itself : (n : ℕ) → (n == n) ≡ false → ⊥
  itself n other = absurd (grind (arith, nat_tests))
read_as_it_is told per text groups v w _ t not seen = seen t

-- THE REST

module _ {P C : Type 0} (by : MemberId) (x y : Parts P C) where
  pub only_error : (T : Type 0) (e : NodeNo) → y ≡ printed_in y x → HasOnlyPrinted {T = T} (Err e) by x y
  only_error T Halted same = inl same
  only_error T _ same = same

  -- lines were printed
  pub only_lines : (T : Type 0) (e : NodeNo) → y ≡ after_lines {T = Bool} (Err e) by y x → HasOnlyPrinted {T = T} (Err e) by x y
  only_lines T Halted same = inr same
  only_lines T _ same = same

  -- a text was read
  pub only_read : y ≡ record x { plant = y.plant } → y ≡ printed_in y x
  only_read same = same ∙ ap (λ (l : List ℕ). record x { plant = y.plant; printed = l }) (sym (ap (λ (p : Parts P C). p.printed) same))

  -- and then lines were printed
  pub lines_behind : {T : Type 0} (w : Parts P C) (r : Result T NodeNo) → w ≡ record x { plant = w.plant } → y ≡ after_lines r by y w → y ≡ after_lines r by y x
  lines_behind w r read same = same ∙ ap (after_lines r by y) read
