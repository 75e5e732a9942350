-- Groups that are taken and handed out, one after another.
use Rattle.std.proofs.Common.{◌≡◌, ℕ, suc, ◌+◌, ◌-◌, ◌<◌, Bool, true, false, ◌&&◌, nat_lt, List, [], ◌∷◌, ◌++◌, length, get_or, set, take, drop, refl, ◌∙◌, arith, inl, inr, append_assoc}
use Rattle.std.specs.Prelude.{if◌then◌else◌, unwrap_or}
use Rattle.std.proofs.lemmas.Bool.Decides.{leb_tells}
use Rattle.std.proofs.lemmas.List.{drop_all}
use Rattle.mas_types.specs.declared.ids.MemberId.{MemberId}
use Rattle.mas_types.specs.declared.queues.Owner.{Owner}
use Rattle.mas_types.specs.declared.queues.Owner.TheVariants as owner
use Rattle.mas_types.specs.Lists.{head, tail}
use Rattle.mas_types.specs.Owners.{is_free, is_members, handed_out, taken, places}
use Rattle.queue_laws.proofs.Finds.{test_cases}
use Rattle.queue_laws.proofs.Handing.{handed_out-mine, handed_out-other}
use Rattle.model_queue.proofs.Writes.{drop_here, drop_more, write_more}

-- one step of a loop that takes groups
module _ (m : MemberId) (left : ℕ) (all gs : List Owner) (i : ℕ) (inside : i < length gs) (so_far : take i gs ++ taken m left (drop i gs) ≡ all) where
  abbrev here : Owner
  here = get_or gs i owner.Free

  abbrev takes : Bool
  takes = is_free here && nat_lt 0 left

  pub take_here : (v : Owner) (rest : ℕ) → v ≡ (if takes then owner.Member m else here) → rest ≡ (if takes then left - 1 else left)
      → take (i + 1) (set gs i v) ++ taken m rest (drop (i + 1) (set gs i v)) ≡ all
  take_here v rest is less =
      let so = rw (drop_here gs i inside owner.Free) at so_far in
      rw (drop_more gs i inside v, write_more gs i inside v (taken m rest (drop (i + 1) gs)), is, less)
      (test_cases takes (take i gs ++ ((if takes then owner.Member m else here) ∷ taken m (if takes then left - 1 else left) (drop (i + 1) gs)) ≡ all)
      (λ e. let w = rw e at so in rw e w) (λ e. let w = rw e at so in rw e w))

-- one step of a loop that hands groups out
module _ (m : MemberId) (new all gs : List Owner) (i : ℕ) (inside : i < length gs) (so_far : take i gs ++ handed_out m new (drop i gs) ≡ all) where
  pub hand_mine : (v : Owner) → is_members m (get_or gs i owner.Free) ≡ true → v ≡ unwrap_or (head new) owner.Free
      → take (i + 1) (set gs i v) ++ handed_out m (tail new) (drop (i + 1) (set gs i v)) ≡ all
  hand_mine v mine is =
      let so = rw (drop_here gs i inside owner.Free, handed_out-mine m new (get_or gs i owner.Free) (drop (i + 1) gs) mine) at so_far in
      rw (drop_more gs i inside v, write_more gs i inside v (handed_out m (tail new) (drop (i + 1) gs)), is) so

  pub hand_other : is_members m (get_or gs i owner.Free) ≡ false → take (i + 1) (set gs i (get_or gs i owner.Free)) ++ handed_out m new (drop (i + 1) (set gs i (get_or gs i owner.Free))) ≡ all
  hand_other other =
      let g = get_or gs i owner.Free in
      let so = rw (drop_here gs i inside owner.Free, handed_out-other m new g (drop (i + 1) gs) other) at so_far in
      rw (drop_more gs i inside g, write_more gs i inside g (handed_out m new (drop (i + 1) gs))) so

-- what is left of the new owners after one
pub tail-drop : (new : List Owner) (next : ℕ) → tail (drop next new) ≡ drop (if nat_lt next (length new) then next + 1 else next) new
tail-drop new next =
    elim (leb_tells (suc next) (length new)) [
      | inl w ↦ rw (w.0, drop_here new next w.1 owner.Free) refl
      | inr w ↦ rw (w.0, drop_all next new (let low = w.1 in omega arith)) refl
    ]

-- one place more of a thing
pub places_more : (at : ℕ → Owner) (place count : ℕ) (front all : List Owner) → place < count → front ++ places at place (count - place) ≡ all
    → (front ++ at place ∷ []) ++ places at (place + 1) (count - (place + 1)) ≡ all
places_more at place count front all inside so_far =
    let more : count - place ≡ suc (count - (place + 1)) = omega arith in
    append_assoc front (at place ∷ []) (places at (place + 1) (count - (place + 1))) ∙ rw more at so_far
