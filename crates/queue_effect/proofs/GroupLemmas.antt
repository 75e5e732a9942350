-- How many groups there are, and how many a text takes.
use Rattle.std.proofs.Common.{◌≡◌, ℕ, suc, ◌+◌, ◌-◌, ◌<◌, ◌≤◌, Bool, true, false, List, [], ◌∷◌, length, take, get_or, Option, Some, None, refl, sym, ap, arith}
use Rattle.std.specs.Prelude.{◌&&◌, ◌||◌, ◌==◌, nat_le, nat_lt, filter, is_some, find, if◌then◌else◌, IfSome, IfNone}
use Rattle.std.specs.List.{list_any}
use Rattle.std.proofs.lemmas.List.{length-map, take_more}
use Rattle.std.proofs.lemmas.List.Sums.{sum_by-cons, sum_by-append}
use Rattle.mas_types.specs.declared.ids.MemberId.{MemberId}
use Rattle.mas_types.specs.declared.ids.JobNo.{JobNo}
use Rattle.mas_types.specs.declared.ids.OutNo.{OutNo}
use Rattle.mas_types.specs.declared.jobs.Output.{Output}
use Rattle.mas_types.specs.declared.jobs.OutSpec.{OutSpec}
use Rattle.mas_types.specs.declared.queues.Owner.{Owner}
use Rattle.mas_types.specs.declared.queues.Owner.TheVariants as owner
use Rattle.mas_types.specs.Fit.{AreLines}
use Rattle.mas_types.specs.Ids.{same_number}
use Rattle.mas_types.specs.Limits.{page_bytes}
use Rattle.mas_types.specs.Owners.{taken, freed, is_free, is_members, is_of_any, groups_after, groups_needed}
use Rattle.mas_types.specs.Queue.{is_of, has_key}
use Rattle.mas_types.specs.Commands.Life.{groups_of_outputs}
use Rattle.track_groups.specs.Groups.{given}
use Rattle.std.proofs.lemmas.Bool.Decides.{nat_tests}
use Rattle.lay_bytes.specs.declared.records.OutRec.{OutRec}
use Rattle.queue_slots.specs.declared.slots.Found.{Found}
use Rattle.queue_slots.proofs.Cases.{test_cases}
use Rattle.queue_slots.proofs.Keys.{any-none, any-some}
use Rattle.output_queue.specs.Outputs.{AreOutputs, HasOutput}
use Rattle.queue_effect.specs.Spans.{is_jobs_print}

pub length-taken : (m : MemberId) (want : ℕ) (gs : List Owner) → length (taken m want gs) ≡ length gs
length-taken m want [] = refl
length-taken m want (g ∷ gs) =
    test_cases (is_free g && nat_lt 0 want) (length (taken m want (g ∷ gs)) ≡ length (g ∷ gs))
    (λ e. rw e (ap suc (length-taken m (want - 1) gs)))
    (λ e. rw e (ap suc (length-taken m want gs)))

pub length-given : (m : MemberId) (new gs : List Owner) → length (given m new gs) ≡ length gs
length-given m [] [] = refl
length-given m (o ∷ new) [] = refl
length-given m [] (g ∷ gs) = refl
length-given m (o ∷ new) (g ∷ gs) =
    test_cases (is_members m g) (length (given m (o ∷ new) (g ∷ gs)) ≡ length (g ∷ gs))
    (λ e. rw e (ap suc (length-given m new gs)))
    (λ e. rw e (ap suc (length-given m (o ∷ new) gs)))

pub length-freed : (test : Owner → Bool) (gs : List Owner) → length (freed test gs) ≡ length gs
length-freed test gs = length-map gs (λ g. if test g then owner.Free else g)

-- a group is begun at most for each line
groups_few : (used : ℕ) (lines : List (List ℕ)) → groups_after used lines ≤ 1 + length lines
groups_few used [] = omega arith
groups_few used (line ∷ lines) =
    test_cases (nat_le (used + length line + 2) page_bytes) (groups_after used (line ∷ lines) ≤ 1 + length (line ∷ lines))
    (λ e. rw e (let low = groups_few (used + length line + 1) lines in omega arith))
    (λ e. rw e (let low = groups_few (length line + 1) lines in omega arith))

-- the places of a text have 16 bits
pub groups_small : (lines : List (List ℕ)) → AreLines lines → groups_needed lines ≤ 10000
groups_small lines are = let low = groups_few 0 lines in let few = are.few in omega arith

-- THE GROUPS OF A JOB'S OUTPUTS

other_job : (a n j : ℕ) → (a == n) ≡ false → (j == n) ≡ true → (a == j) ≡ false
other_job a n j apart same = grind (arith, nat_tests)

same_job : (a n j : ℕ) → (a == n) ≡ true → (j == n) ≡ false → (a == j) ≡ false
same_job a n j same apart = grind (arith, nat_tests)

pub any_filtered : (n j : JobNo) (i : OutNo) (os : List Output) → same_number j n ≡ true → list_any (has_key j i) (filter (is_of n) os) ≡ list_any (has_key j i) os
any_filtered n j i [] same = refl
any_filtered n j i (o ∷ os) same =
    test_cases (same_number o.job n) (list_any (has_key j i) (filter (is_of n) (o ∷ os)) ≡ list_any (has_key j i) (o ∷ os))
    (λ e. rw e (ap (λ (b : Bool). has_key j i o || b) (any_filtered n j i os same)))
    (λ e. let apart : same_number o.job j ≡ false = other_job o.job.0 n.0 j.0 e same in rw (e, apart) (any_filtered n j i os same))

pub none_filtered : (n j : JobNo) (i : OutNo) (os : List Output) → same_number j n ≡ false → list_any (has_key j i) (filter (is_of n) os) ≡ false
none_filtered n j i [] apart = refl
none_filtered n j i (o ∷ os) apart =
    test_cases (same_number o.job n) (list_any (has_key j i) (filter (is_of n) (o ∷ os)) ≡ false)
    (λ e. let off : same_number o.job j ≡ false = same_job o.job.0 n.0 j.0 e apart in rw (e, off) (none_filtered n j i os apart))
    (λ e. rw e (none_filtered n j i os apart))

-- a group of one of the job's outputs is said to be of an output of the job
pub print_of : (n : JobNo) (os : List Output) (g : Owner) → is_of_any (filter (is_of n) os) g ≡ true → is_jobs_print n g ≡ true
print_of n os owner.Free is = absurd (cc)
print_of n os (owner.Member m) is = absurd (cc)
print_of n os (owner.Deck j place) is = absurd (cc)
print_of n os (owner.Output j i place) is =
    test_cases (same_number j n) (same_number j n ≡ true) (λ e. e) (λ apart. absurd (let none = none_filtered n j i os apart in cc))

-- an output with the key is there where its slot is found
pub key_found : (j : JobNo) (i : OutNo) (slots : List (Option OutRec)) (os : List Output) (r : Option (Found OutRec)) → AreOutputs slots os
    → IfSome r (λ f. (ps : List Output) → AreOutputs slots ps → HasOutput (has_key j i) slots ps f.at f.item) → IfNone r ((ps : List Output) → AreOutputs slots ps → find (has_key j i) ps ≡ None)
    → is_some r ≡ list_any (has_key j i) os
key_found j i slots os None are some none = sym (any-none (has_key j i) os (none os are))
key_found j i slots os (Some f) are some none = let has = some os are in sym (any-some (has_key j i) os has.item has.found)

-- OUTPUTS ONE AFTER THE OTHER

-- the groups of outputs that are given one after the other
pub sum-groups : (s : OutSpec) (specs : List OutSpec) → groups_of_outputs (s ∷ specs) ≡ groups_needed s.text + groups_of_outputs specs
sum-groups s specs = sum_by-cons (λ (z : OutSpec). groups_needed z.text) s specs

pub sum_more : (xs : List OutSpec) (i : ℕ) (s : OutSpec) → i < length xs → s ≡ get_or xs i s → groups_of_outputs (take (i + 1) xs) ≡ groups_of_outputs (take i xs) + groups_needed s.text
sum_more xs i s inside is =
    rw (take_more xs i s inside, ← is, sum_by-append (λ (z : OutSpec). groups_needed z.text) (take i xs) (s ∷ [])) (omega arith)
