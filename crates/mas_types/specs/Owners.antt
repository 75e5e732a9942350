-- Whose the track groups are, and how many a text takes.
use Rattle.std.specs.Prelude.{ℕ, zero, suc, ◌+◌, ◌-◌, nat_le, nat_lt, Bool, true, false, ◌&&◌, if◌then◌else◌, List, [], ◌∷◌, length, count_by, unwrap_or}
use Rattle.std.specs.List.{list_any}
use Rattle.mas_types.specs.declared.ids.MemberId.{MemberId}
use Rattle.mas_types.specs.declared.ids.JobNo.{JobNo}
use Rattle.mas_types.specs.declared.ids.OutNo.{OutNo}
use Rattle.mas_types.specs.declared.jobs.Output.{Output}
use Rattle.mas_types.specs.declared.queues.Owner.{Owner}
use Rattle.mas_types.specs.declared.queues.Owner.TheVariants as owner
use Rattle.mas_types.specs.Lists.{change, head, tail}
use Rattle.mas_types.specs.Ids.{same_member, same_number, same_index}
use Rattle.mas_types.specs.Limits.{page_bytes}
use Rattle.mas_types.specs.Queue.{has_key}

abbrev pub is_free : Owner → Bool
is_free owner.Free = true
is_free _ = false

-- a member that the test picks has the group
abbrev pub is_held_by : (MemberId → Bool) → Owner → Bool
is_held_by picks (owner.Member m) = picks m
is_held_by picks _ = false

abbrev pub is_members : MemberId → Owner → Bool
is_members m = is_held_by (λ h. same_member h m)

abbrev pub is_deck_of : JobNo → Owner → Bool
is_deck_of n (owner.Deck job place) = same_number job n
is_deck_of n _ = false

abbrev pub is_output_of : JobNo → OutNo → Owner → Bool
is_output_of n i (owner.Output job index place) = same_number job n && same_index index i
is_output_of n i _ = false

-- the group is of one of the outputs
abbrev pub is_of_any : List Output → Owner → Bool
is_of_any outputs (owner.Output job index place) = list_any (has_key job index) outputs
is_of_any outputs _ = false

-- the groups, where those that the test picks become Free
abbrev pub freed : (Owner → Bool) → List Owner → List Owner
freed test gs = change test (λ g. owner.Free) gs

-- how many groups are Free
abbrev pub free_count : List Owner → ℕ
free_count gs = count_by is_free gs

-- how many groups a member has
abbrev pub member_count : MemberId → List Owner → ℕ
member_count m gs = count_by (is_members m) gs

-- the groups, where the lowest Free ones, at most so many, become the member's
abbrev pub taken : MemberId → ℕ → List Owner → List Owner
taken m want [] = []
taken m want (g ∷ gs) =
    if is_free g && nat_lt 0 want then owner.Member m ∷ taken m (want - 1) gs else g ∷ taken m want gs

-- the groups, where those of the member get new owners, the lowest the first of them; those left over become Free
abbrev pub handed_out : MemberId → List Owner → List Owner → List Owner
handed_out m new [] = []
handed_out m new (g ∷ gs) =
    if is_members m g then unwrap_or (head new) owner.Free ∷ handed_out m (tail new) gs
    else g ∷ handed_out m new gs

-- consecutive places of a deck or an output, as many as are counted, from the first of them on
abbrev pub places : (ℕ → Owner) → ℕ → ℕ → List Owner
places at place zero = []
places at place (suc n) = at place ∷ places at (place + 1) n

abbrev pub deck_places : JobNo → ℕ → List Owner
deck_places n count = places (λ p. owner.Deck n p) 0 count

abbrev pub output_places : JobNo → OutNo → ℕ → List Owner
output_places n i count = places (λ p. owner.Output n i p) 0 count

-- how many groups the lines take, where so many bytes of the present group are used. A line is one record of its bytes
-- and one more, and a group of 4,096 bytes has a last byte after its records
abbrev pub groups_after : ℕ → List (List ℕ) → ℕ
groups_after used [] = 1
groups_after used (line ∷ lines) =
    if nat_le (used + length line + 2) page_bytes then groups_after (used + length line + 1) lines
    else 1 + groups_after (length line + 1) lines

-- how many groups a text takes
abbrev pub groups_needed : List (List ℕ) → ℕ
groups_needed lines = groups_after 0 lines
