-- Worked examples: track groups that are taken, given and freed, and the groups of a text.
use Rattle.std.specs.Prelude.{◌≡◌, ℕ, List, [], ◌∷◌, map}
use Rattle.mas_types.specs.declared.ids.MemberId.{MemberId}
use Rattle.mas_types.specs.declared.ids.JobNo.{JobNo}
use Rattle.mas_types.specs.declared.ids.OutNo.{OutNo}
use Rattle.mas_types.specs.declared.queues.Owner.{Owner}
use Rattle.mas_types.specs.declared.queues.Owner.TheVariants as owner
use Rattle.mas_types.specs.declared.queues.Thing.TheVariants.{Deck, Output}
use Rattle.mas_types.specs.Owners.{is_members, freed, free_count, member_count, taken}
use Rattle.track_groups.specs.Groups.{is_things, first_places, given, held_by}
use Rattle.track_groups.specs.Places.{groups_of}

abbrev pub first : MemberId
first = record { 0 = 1 }

abbrev pub second : MemberId
second = record { 0 = 2 }

abbrev pub job : ℕ → JobNo
job n = record { 0 = n }

abbrev pub one : OutNo
one = record { 0 = 1 }

abbrev pub mine : Owner
mine = owner.Member first

abbrev pub others : Owner
others = owner.Member second

abbrev pub deck : ℕ → ℕ → Owner
deck n place = owner.Deck (job n) place

-- three free groups, and one of another member
abbrev pub three_free : List Owner
three_free = owner.Free ∷ others ∷ owner.Free ∷ owner.Free ∷ []

-- four groups of a member, one of another and a free one
abbrev pub four_taken : List Owner
four_taken = mine ∷ others ∷ mine ∷ mine ∷ mine ∷ owner.Free ∷ []

-- two of them become a deck and one an output
abbrev pub three_given : List Owner
three_given = given first (first_places (Output (job 7) one) 1) (given first (first_places (Deck (job 7)) 2) four_taken)

-- without what is left of the member's and without the deck
abbrev pub two_freed : List Owner
two_freed = freed (is_things (Deck (job 7))) (freed (is_members first) three_given)

-- two texts whose groups do not stand in the order of their places
abbrev pub two_texts : List Owner
two_texts = deck 2 1 ∷ deck 1 2 ∷ owner.Free ∷ deck 1 0 ∷ deck 1 1 ∷ deck 2 0 ∷ []

pub record GroupsAreGiven : Type 0 where
  -- the lowest free ones are taken: none, some, all, and no more than there are
  pub none : taken first 0 three_free ≡ three_free
  pub two : taken first 2 three_free ≡ mine ∷ others ∷ mine ∷ owner.Free ∷ []
  pub three : taken first 3 three_free ≡ mine ∷ others ∷ mine ∷ mine ∷ []
  pub most : taken first 9 three_free ≡ mine ∷ others ∷ mine ∷ mine ∷ []
  -- two volumes of one group each: the second has room while the first is full, and then neither has
  pub room : free_count (deck 1 0 ∷ owner.Free ∷ []) ≡ 1
  pub next : taken first 1 (deck 1 0 ∷ owner.Free ∷ []) ≡ deck 1 0 ∷ mine ∷ []
  pub full : free_count (deck 1 0 ∷ mine ∷ []) ≡ 0
  pub given_away : three_given ≡ deck 7 0 ∷ others ∷ deck 7 1 ∷ owner.Output (job 7) one 0 ∷ mine ∷ owner.Free ∷ []
  pub left : map (λ g. g.0) (held_by first three_given) ≡ 4 ∷ []
  pub count : member_count first three_given ≡ 1
  pub freed_again : two_freed ≡ owner.Free ∷ others ∷ owner.Free ∷ owner.Output (job 7) one 0 ∷ owner.Free ∷ owner.Free
      ∷ []
  pub all_but_one : free_count (freed (is_things (Output (job 7) one)) two_freed) ≡ 5
  pub in_order : map (λ g. g.0) (groups_of (Deck (job 1)) two_texts) ≡ 3 ∷ 4 ∷ 1 ∷ []
  pub no_text : groups_of (Output (job 1) one) two_texts ≡ []
