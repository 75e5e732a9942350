-- A member takes its groups by two Takes at most, since one that gets fewer than it wants leaves none to be taken.
use Rattle.std.proofs.Common.{◌≡◌, ℕ, zero, suc, ◌-◌, ◌≤◌, ◌==◌, min, Bool, true, false, if◌then◌else◌, List, [], ◌∷◌, ◌++◌, length, refl, eq-eqb, arith}
use Rattle.std.proofs.lemmas.List.{length-append}
use Rattle.mas_types.specs.declared.ids.MemberId.{MemberId}
use Rattle.mas_types.specs.declared.ids.JobNo.{JobNo}
use Rattle.mas_types.specs.declared.commands.Command.{Command}
use Rattle.mas_types.specs.declared.commands.Command.TheVariants as command
use Rattle.mas_types.specs.declared.commands.Reply.{Reply}
use Rattle.mas_types.specs.declared.commands.Reply.TheVariants as reply
use Rattle.mas_types.specs.declared.jobs.JobFields.{JobFields}
use Rattle.mas_types.specs.declared.jobs.OutSpec.{OutSpec}
use Rattle.mas_types.specs.declared.queues.Queue.{Queue}
use Rattle.mas_types.specs.Owners.{free_count}
use Rattle.mas_types.specs.Step.{step}
use Rattle.queue_laws.specs.Laws.{is_refusal}
use Rattle.queue_laws.proofs.Finds.{test_cases}
use Rattle.queue_laws.proofs.FreeGroups.{free_then}
use Rattle.step_turns.specs.Decks.{after_begin, are_refused, opening, takes}
use Rattle.step_turns.specs.Entries.{reply_to}
use Rattle.step_turns.specs.JobEnds.{drop_groups, ending, taking}

-- HOW MANY TAKES

-- where no group is free the first Take is refused, and is the last
takes_dry : (times : ℕ) (Q : Queue) (by : MemberId) (missing : ℕ) → free_count Q.owners ≡ 0 → length (takes times Q by missing) ≤ 1
takes_dry zero Q by missing none = omega arith
takes_dry (suc times) Q by zero none = omega arith
takes_dry (suc times) Q by (suc missing) none = let e : (free_count Q.owners == 0) ≡ true = eq-eqb (free_count Q.owners) 0 none in rw e (omega arith)

-- how many Takes follow a Take of so many groups where so many were free
takes_then : (times : ℕ) (Q : Queue) (by : MemberId) (left want free : ℕ) → left ≡ want - min want free → free_count Q.owners ≡ free - want → length (takes times Q by left) ≤ 1
takes_then zero Q by left want free is count = omega arith
takes_then (suc times) Q by zero want free is count = omega arith
takes_then (suc times) Q by (suc left) want free is count = takes_dry (suc times) Q by (suc left) (omega (arith, is, count))

one_more : (n : ℕ) → n ≤ 1 → suc n ≤ 2
one_more n le = omega (arith, le)

pub takes_few : (times : ℕ) (Q : Queue) (by : MemberId) (missing : ℕ) → length (takes times Q by missing) ≤ 2
takes_few zero Q by missing = omega arith
takes_few (suc times) Q by zero = omega arith
takes_few (suc times) Q by (suc missing) =
    test_cases (free_count Q.owners == 0) (length (takes (suc times) Q by (suc missing)) ≤ 2)
    (λ e. rw e (omega arith))
    (λ e. let free = free_count Q.owners in
    let want = suc missing in
    let now = (step Q by (command.Take want)).0 in
    let is : (step Q by (command.Take want)).1 ≡ reply.Count (min want free) = rw e refl in
    let counted : free_count now.owners ≡ free - want = rw e (free_then by want Q.owners) in
    let few : length (takes times now by (want - min want free)) ≤ 1 = takes_then times now by (want - min want free) want free refl counted in
    rw is (one_more (length (takes times now by (want - min want free))) few))

pub takes_some : (times : ℕ) (Q : Queue) (by : MemberId) (missing : ℕ) → 1 ≤ length (takes (suc times) Q by (suc missing))
takes_some times Q by missing = omega arith

-- WHAT A PART HAS

one_if : (b : Bool) (c : Command) → length (if b then c ∷ [] else []) ≤ 1
one_if true c = omega arith
one_if false c = omega arith

few_with : (b : Bool) (cs : List Command) (c : Command) → length cs ≤ 2 → length (cs ++ (if b then c ∷ [] else [])) ≤ 3
few_with b cs c few = let both = length-append cs (if b then c ∷ [] else []) in let one = one_if b c in omega (arith, both, one, few)

some_with : (cs ds : List Command) → 1 ≤ length cs → 1 ≤ length (cs ++ ds)
some_with cs ds some = let both = length-append cs ds in omega (arith, both, some)

few_after_begin : (Q : Queue) (by : MemberId) (groups : ℕ) (r : Reply) → length (after_begin Q by groups r) ≤ 3
few_after_begin Q by groups reply.Plain = omega arith
few_after_begin Q by groups (reply.Job n) = few_with (are_refused groups Q by groups) (takes groups Q by groups) (command.Drop n) (takes_few groups Q by groups)
few_after_begin Q by groups (reply.Output n i) = omega arith
few_after_begin Q by groups (reply.Count n) = omega arith
few_after_begin Q by groups (reply.Shown lines) = omega arith
few_after_begin Q by groups (reply.No why) = omega arith

pub few_opening : (Q : Queue) (by : MemberId) (fields : JobFields) (groups : ℕ) → length (opening Q by fields groups) ≤ 4
few_opening Q by fields groups = let few = few_after_begin (step Q by (command.Begin fields)).0 by groups (step Q by (command.Begin fields)).1 in omega (arith, few)

pub some_opening : (Q : Queue) (by : MemberId) (fields : JobFields) (groups : ℕ) → 1 ≤ length (opening Q by fields groups)
some_opening Q by fields groups = omega arith

pub few_taking : (Q : Queue) (by : MemberId) (needed : ℕ) → length (taking Q by needed) ≤ 3
few_taking Q by needed = few_with (are_refused needed Q by needed) (takes needed Q by needed) drop_groups (takes_few needed Q by needed)

pub some_taking : (Q : Queue) (by : MemberId) (needed : ℕ) → 1 ≤ length (taking Q by (suc needed))
some_taking Q by needed = some_with (takes (suc needed) Q by (suc needed)) (if are_refused (suc needed) Q by (suc needed) then drop_groups ∷ [] else []) (takes_some needed Q by needed)

pub few_ending : (Q : Queue) (by : MemberId) (n : JobNo) (specs : List OutSpec) → length (ending Q by n specs) ≤ 2
few_ending Q by n specs = let one = one_if (is_refusal (reply_to Q by (command.Ended n specs))) drop_groups in omega (arith, one)

pub some_ending : (Q : Queue) (by : MemberId) (n : JobNo) (specs : List OutSpec) → 1 ≤ length (ending Q by n specs)
some_ending Q by n specs = omega arith
