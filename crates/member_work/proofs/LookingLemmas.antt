-- Looking at a job's text.
use Rattle.member_work.proofs.Names.{◌≡◌, ℕ, zero, suc, ◌*◌, List, [], length, All, Some, slice_get, refl, sym, ap, ◌∙◌, arith, find, JobNo, Job, Config, Queue, job_at, line_count, has_number, Tables, HasSpelling, Read, Owner, Thing, JobRec, IfUsed, IsJobRec, AreJobs, HasJob, groups_where, is_things, groups_of, all_at, IsTold, eqb-true, All-weaker, Picked, lists, same_Some, slice_get_within, find_passes}
use Rattle.std.specs.Coded.{Coded, coded_list, coded_ℕ, coded×, code_by}
use Rattle.std.proofs.lemmas.List.Sorted.{All-permutation}
use Rattle.track_groups.specs.Laws.{AreItsOwn}
use Rattle.mas_complex.specs.Spool.{IsGroupOf}
use Rattle.job_outcome.specs.declared.outcomes.Read.TheVariants as read

-- THE GROUPS OF A TEXT are of the configuration

pub groups_within : AreItsOwn → (t : Thing) (gs : List Owner) (config : Config) → length gs ≡ config.volumes * config.groups → All (IsGroupOf config) (groups_of t gs)
groups_within own t gs config long =
    let all = groups_where (is_things t) 0 gs in
    All-permutation (IsGroupOf config) all (groups_of t gs) (own t gs)
    (All-weaker (Picked (is_things t) 0 gs) (IsGroupOf config) (λ g found. omega (arith, found.number, slice_get_within gs found.place found.owner_there found.there, long)) all (lists (is_things t) 0 gs).0)

-- THE RECORD OF A JOB

pub number_of : (n : JobNo) (x : Job) (js : List Job) → find (has_number n) js ≡ Some x → x.number ≡ n
number_of n x js e = ap (λ (v : ℕ). let m : JobNo = record { 0 = v } in m) (eqb-true x.number.0 n.0 (find_passes (has_number n) js x e))

pub told_job : (t : Tables) (n : JobNo) (at : ℕ) (r : JobRec) → HasSpelling t → ((js : List Job) → AreJobs t.jobs js → HasJob (has_number n) t.jobs js at r) → slice_get t.jobs at ≡ Some (Some r) → IsTold t r
told_job t n at r spelled some here = record {
  fields = record { name = rec.name; class = rec.class; msgclass = rec.msgclass; prio = rec.prio; dest = rec.dest; node = rec.node; origin = rec.origin };
  few = rec.cards;
  same = λ Q j told found. alike Q j (some Q.jobs told.jobs) found;
} where
  rec : IsJobRec r
  rec = all_at (IfUsed IsJobRec) t.jobs at (Some r) spelled.jobs here

  alike : (Q : Queue) (j : Job) → HasJob (has_number n) t.jobs Q.jobs at r → job_at Q r.number ≡ Some j → (j.number ≡ r.number) × (j.fields ≡ r.fields) × (line_count j.text ≡ r.cards)
  alike Q j has found =
      let number : has.item.number ≡ r.number = ap (λ (x : JobRec). x.number) has.is in
      let same : j ≡ has.item = same_Some j has.item (sym found ∙ ap (λ (k : JobNo). job_at Q k) (sym number ∙ number_of n has.item Q.jobs has.found) ∙ has.found) in (
        ap (λ (x : Job). x.number) same ∙ number,
        ap (λ (x : Job). x.fields) same ∙ ap (λ (x : JobRec). x.fields) has.is,
        ap (λ (x : Job). line_count x.text) same ∙ ap (λ (x : JobRec). x.cards) has.is,
      )

-- WHAT WAS READ

abbrev pub read_code : Read → ℕ × (List (List ℕ) × ℕ)
read_code (read.Lines lines) = (0, (lines, 0))
read_code (read.Gone group) = (1, ([], group.0))
read_code (read.Lost volume) = (2, ([], volume))

abbrev pub read_by : ℕ → List (List ℕ) → ℕ → Read
read_by zero lines n = read.Lines lines
read_by (suc zero) lines n = read.Gone (record { 0 = n })
read_by (suc (suc k)) lines n = read.Lost n

pub read_back : (r : Read) → (let p = read_code r in read_by p.0 p.1.0 p.1.1) ≡ r
read_back (read.Lines lines) = refl
read_back _ = refl

abbrev pub coded_read : Coded Read
coded_read = code_by (ℕ × (List (List ℕ) × ℕ)) (coded× coded_ℕ (coded× (coded_list (coded_list coded_ℕ)) coded_ℕ)) read_code (λ p. read_by p.0 p.1.0 p.1.1) read_back
