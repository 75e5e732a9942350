-- What a command brings: groups of a text, outputs at a job's end, a changed count of a line.
use Rattle.std.proofs.Common.{ℕ, zero, suc, ◌+◌, ◌<◌, ◌≤◌, ◌^◌, nat_le, List, [], ◌∷◌, length, Option, Some, None, All, arith}
use Rattle.std.proofs.lemmas.List.Elements.{All-nil, All-cons, All-head, All-tail, All-append}
use Rattle.mas_types.specs.declared.ids.JobNo.{JobNo}
use Rattle.mas_types.specs.declared.jobs.Job.{Job}
use Rattle.mas_types.specs.declared.jobs.OutSpec.{OutSpec}
use Rattle.mas_types.specs.declared.queues.Owner.{Owner}
use Rattle.mas_types.specs.declared.queues.Owner.TheVariants as owner
use Rattle.mas_types.specs.Fit.{IsOutSpec}
use Rattle.mas_types.specs.Limits.{number_most}
use Rattle.mas_types.specs.Lists.{change_at}
use Rattle.mas_types.specs.Owners.{places, deck_places, output_places, groups_after, groups_needed}
use Rattle.mas_types.specs.Queue.{number_of}
use Rattle.mas_types.specs.Commands.Life.{places_of_outputs, outputs_at_end, is_cancelled}
use Rattle.mas_types.specs.Commands.Wire.{either}
use Rattle.lay_bytes.specs.Slots.{IsNumber, IsOwner}
use Rattle.queue_laws.proofs.Finds.{test_cases}

-- a text takes at most one group more than it has lines
pub few_groups : (used : ℕ) (lines : List (List ℕ)) → groups_after used lines ≤ length lines + 1
few_groups used [] = omega arith
few_groups used (line ∷ lines) =
    let within = few_groups (used + length line + 1) lines in
    let behind = few_groups (length line + 1) lines in
    test_cases (nat_le (used + length line + 2) 4096) (groups_after used (line ∷ lines) ≤ length (line ∷ lines) + 1)
    (λ e. rw e (omega (arith, within)))
    (λ e. rw e (omega (arith, behind)))

-- places below a number
places_below : (P : Owner → Type 0) (at : ℕ → Owner) (p count most : ℕ) → ((q : ℕ) → q < most → P (at q)) → p + count ≤ most → All P (places at p count)
places_below P at p zero most holds le = All-nil P
places_below P at p (suc count) most holds le =
    All-cons P (at p) (places at (p + 1) count) (holds p (omega (arith, le))) (places_below P at (p + 1) count most holds (omega (arith, le)))

pub deck_owners : (n : JobNo) (text : List (List ℕ)) → IsNumber n → length text ≤ 9999 → All IsOwner (deck_places n (groups_needed text))
deck_owners n text number few =
    let groups = few_groups 0 text in
    places_below IsOwner (λ p. owner.Deck n p) 0 (groups_needed text) (2 ^ 16) (λ p lt. (number, lt)) (omega (arith, groups, few))

pub output_owners : (n : JobNo) (i : ℕ) (specs : List OutSpec) → IsNumber n → 1 ≤ i → i + length specs ≤ 33 → All IsOutSpec specs → All IsOwner (places_of_outputs n i specs)
output_owners n i [] number some few fit = All-nil IsOwner
output_owners n i (s ∷ specs) number some few fit =
    let groups = few_groups 0 s.text in
    let lines = (All-head IsOutSpec s specs fit).text.few in
    All-append IsOwner (output_places n (record { 0 = i }) (groups_needed s.text)) (places_of_outputs n (i + 1) specs)
    (places_below IsOwner (λ p. owner.Output n (record { 0 = i }) p) 0 (groups_needed s.text) (2 ^ 16) (λ p lt. (number, (some, omega (arith, few)), lt)) (omega (arith, groups, lines)))
    (output_owners n (i + 1) specs number (omega arith) (omega (arith, few)) (All-tail IsOutSpec s specs fit))

-- what holds of each output that is given holds of each that comes
pub All-at_end : (P : OutSpec → Type 0) (found : Option Job) (specs : List OutSpec) → All P specs → All P (outputs_at_end found specs)
All-at_end P found specs all = test_cases (is_cancelled found) (All P (outputs_at_end found specs)) (λ e. rw e (All-nil P)) (λ e. rw e all)

pub few_at_end : (found : Option Job) (specs : List OutSpec) (most : ℕ) → length specs ≤ most → length (outputs_at_end found specs) ≤ most
few_at_end found specs most few = test_cases (is_cancelled found) (length (outputs_at_end found specs) ≤ most) (λ e. rw e (omega arith)) (λ e. rw e few)

pub either_small : (a b : Option Job) → (number_of a).0 ≤ number_most → (number_of b).0 ≤ number_most → (number_of (either a b)).0 ≤ number_most
either_small None b first second = second
either_small (Some j) b first second = first

-- one item is changed
pub All-change_at : {A : Type 0} (f : A → A) (P : A → Type 0) → ((x : A) → P x → P (f x)) → (k : ℕ) (xs : List A) → All P xs → All P (change_at k f xs)
All-change_at f P keeps k [] all = All-nil P
All-change_at f P keeps zero (x ∷ xs) all = All-cons P (f x) xs (keeps x (All-head P x xs all)) (All-tail P x xs all)
All-change_at f P keeps (suc k) (x ∷ xs) all = All-cons P x (change_at k f xs) (All-head P x xs all) (All-change_at f P keeps k xs (All-tail P x xs all))
