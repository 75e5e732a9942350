-- Which keys stand in tables, as sets have them.
use Rattle.std.specs.Prelude.{◌≡◌, ℕ, suc, ◌==◌, nat_eq, Bool, true, false, ◌&&◌, ◌||◌, List, [], ◌∷◌, ◌++◌, Option}
use Rattle.std.specs.List.{list_any}
use Rattle.std.specs.HashSet.{HashSet, contains}
use Rattle.mas_types.specs.declared.ids.MemberId.{MemberId}
use Rattle.mas_types.specs.declared.ids.JobNo.{JobNo}
use Rattle.mas_types.specs.declared.ids.OutNo.{OutNo}
use Rattle.mas_types.specs.declared.queues.Owner.{Owner}
use Rattle.mas_types.specs.declared.queues.Owner.TheVariants as owner
use Rattle.mas_types.specs.Ids.{same_member, same_number, same_index}
use Rattle.mas_types.specs.Owners.{is_deck_of, is_output_of}
use Rattle.mas_types.specs.Sound.{same_place}
use Rattle.lay_bytes.specs.declared.records.JobRec.{JobRec}
use Rattle.lay_bytes.specs.declared.records.OutRec.{OutRec}
use Rattle.ckpt_pages.specs.declared.keys.GroupKeys.{GroupKeys}
use Rattle.ckpt_pages.specs.declared.keys.JobKeys.{JobKeys}
use Rattle.ckpt_pages.specs.declared.keys.OutputKeys.{OutputKeys}
use Rattle.ckpt_pages.specs.declared.keys.PlaceKeys.{PlaceKeys}
use Rattle.ckpt_pages.specs.Sound.{is_there, has_outputs, has_deck}

-- the set has the key afterwards too, where it is wanted, and each other key as before
abbrev pub Adds : {K S : Type 0} → (K → K → Bool) → HashSet K S → Bool → K → HashSet K S → Type 0
Adds {K} eq old wanted key new = (q : K) → contains eq new q ≡ (contains eq old q || (eq key q && wanted))

-- what has the keys of some items has those of one more item afterwards
abbrev pub AddsOne : {Keys X : Type 0} → (Keys → List X → Type 0) → Keys → X → Keys → Type 0
AddsOne {Keys} {X} Are old x new = (xs : List X) → Are old xs → Are new (xs ++ x ∷ [])

-- a job's number and an output's index
abbrev pub same_print_key : ℕ × ℕ → ℕ × ℕ → Bool
same_print_key a b = nat_eq a.0 b.0 && nat_eq a.1 b.1

-- a job's number, an output's index and a place of that output
abbrev pub same_print_place : (ℕ × ℕ) × ℕ → (ℕ × ℕ) × ℕ → Bool
same_print_place a b = same_print_key a.0 b.0 && nat_eq a.1 b.1

-- the keys are those of the texts that have groups among the owners
pub record AreGroupKeys (keys : GroupKeys) (owners : List Owner) : Type 0 where
  pub decks : (n : JobNo) → contains nat_eq keys.decks n.0 ≡ list_any (is_deck_of n) owners
  pub prints : (n : JobNo) (i : OutNo)
      → contains same_print_key keys.prints (n.0, i.0) ≡ list_any (is_output_of n i) owners

-- the keys are those of the jobs in the slots
pub record AreJobKeys (keys : JobKeys) (slots : List (Option JobRec)) : Type 0 where
  pub numbers : (n : JobNo) → contains nat_eq keys.numbers n.0 ≡ is_there (λ i. same_number i.number n) slots
  pub orders : (order : ℕ) → contains nat_eq keys.orders order ≡ is_there (λ i. i.order == order) slots
  pub with_outputs : (n : JobNo) → contains nat_eq keys.with_outputs n.0 ≡ is_there (has_outputs n) slots
  pub past_input : (n : JobNo) → contains nat_eq keys.past_input n.0 ≡ is_there (has_deck n) slots

-- the keys are those of the outputs in the slots
pub record AreOutputKeys (keys : OutputKeys) (slots : List (Option OutRec)) : Type 0 where
  pub orders : (order : ℕ) → contains nat_eq keys.orders order ≡ is_there (λ p. p.order == order) slots
  pub prints : (n : JobNo) (i : OutNo)
      → contains same_print_key keys.prints (n.0, i.0)
      ≡ is_there (λ o. same_number o.job n && same_index o.index i) slots
  pub printers : (m : MemberId) → contains nat_eq keys.printers m.0 ≡ is_there (λ p. same_member p.busy m) slots

-- whether a group's place is taken
abbrev pub has_place : PlaceKeys → Owner → Bool
has_place keys owner.Free = false
has_place keys (owner.Member m) = false
has_place keys (owner.Deck n place) = contains same_print_key keys.decks (n.0, place)
has_place keys (owner.Output n i place) = contains same_print_place keys.prints ((n.0, i.0), place)

-- whether the place before it is taken, where it isn't the first
abbrev pub has_place_before : PlaceKeys → Owner → Bool
has_place_before keys (owner.Deck n (suc place)) = has_place keys (owner.Deck n place)
has_place_before keys (owner.Output n i (suc place)) = has_place keys (owner.Output n i place)
has_place_before keys _ = true

-- the places that these groups take
abbrev pub ArePlaceKeys : PlaceKeys → List Owner → Type 0
ArePlaceKeys keys owners = (o : Owner) → has_place keys o ≡ list_any (same_place o) owners
