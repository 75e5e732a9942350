-- A member's groups that are given away, step by step.
use Rattle.std.proofs.Common.{◌≡◌, ℕ, ◌+◌, ◌<◌, true, false, List, [], ◌∷◌, ◌++◌, length, get_or, set, take, drop, refl}
use Rattle.std.proofs.lemmas.List.{take_more_set}
use Rattle.mas_types.specs.declared.ids.MemberId.{MemberId}
use Rattle.mas_types.specs.declared.queues.Owner.{Owner}
use Rattle.mas_types.specs.declared.queues.Owner.TheVariants as owner
use Rattle.mas_types.specs.declared.queues.Thing.{Thing}
use Rattle.mas_types.specs.declared.queues.Thing.TheVariants as thing
use Rattle.mas_types.specs.Owners.{is_members, member_count}
use Rattle.track_groups.specs.Groups.{given, owner_at}
use Rattle.track_groups.proofs.Walks.{count_by-cons_yes, count_by-cons_no, count_by-push_no, count_by-either, drop_here, write_more}

-- a group of a text is no member's
pub owner_at-no_members : (m : MemberId) (t : Thing) (p : ℕ) → is_members m (owner_at t p) ≡ false
owner_at-no_members m (thing.Deck n) p = refl
owner_at-no_members m (thing.Output n i) p = refl

given-mine : (m : MemberId) (o : Owner) (new : List Owner) (g : Owner) (gs : List Owner) → is_members m g ≡ true → given m (o ∷ new) (g ∷ gs) ≡ o ∷ given m new gs
given-mine m o new g gs h = rw h refl

pub given-none : (m : MemberId) (gs : List Owner) → given m [] gs ≡ gs
given-none m [] = refl
given-none m (g ∷ gs) = refl

pub given-other : (m : MemberId) (new : List Owner) (g : Owner) (gs : List Owner) → is_members m g ≡ false → given m new (g ∷ gs) ≡ g ∷ given m new gs
given-other m [] g gs h = rw (given-none m gs) refl
given-other m (o ∷ new) g gs h = rw h refl

-- a step of a loop that gives groups away: the groups left get these owners, and `all` is the loop's result
module _ (m : MemberId) (all gs : List Owner) (i : ℕ) (inside : i < length gs) where
  pub give_mine : (o : Owner) (new : List Owner) → take i gs ++ given m (o ∷ new) (drop i gs) ≡ all → is_members m (get_or gs i owner.Free) ≡ true → take (i + 1) (set gs i o) ++ given m new (drop (i + 1) gs) ≡ all
  give_mine o new so_far mine =
      let so = rw (drop_here gs i inside owner.Free, given-mine m o new (get_or gs i owner.Free) (drop (i + 1) gs) mine) at so_far in
      rw (write_more gs i inside o (given m new (drop (i + 1) gs))) so

  pub give_other : (new : List Owner) → take i gs ++ given m new (drop i gs) ≡ all → is_members m (get_or gs i owner.Free) ≡ false → take (i + 1) (set gs i (get_or gs i owner.Free)) ++ given m new (drop (i + 1) gs) ≡ all
  give_other new so_far other =
      let so = rw (drop_here gs i inside owner.Free, given-other m new (get_or gs i owner.Free) (drop (i + 1) gs) other) at so_far in
      rw (write_more gs i inside (get_or gs i owner.Free) (given m new (drop (i + 1) gs))) so

  pub give_enough : take i gs ++ given m [] (drop i gs) ≡ all → take (i + 1) (set gs i (get_or gs i owner.Free)) ++ given m [] (drop (i + 1) gs) ≡ all
  give_enough so_far =
      let so = rw (given-none m (drop i gs), drop_here gs i inside owner.Free) at so_far in
      rw (given-none m (drop (i + 1) gs), write_more gs i inside (get_or gs i owner.Free) (drop (i + 1) gs)) so

  -- the member's groups so far, and those that are left
  pub counted_before : (o : Owner) → is_members m o ≡ false → member_count m (take (i + 1) (set gs i o)) ≡ member_count m (take i gs)
  counted_before o other = rw (take_more_set gs i o inside) (count_by-push_no (is_members m) o (take i gs) other)

  pub counted_mine : is_members m (get_or gs i owner.Free) ≡ true → member_count m (drop i gs) ≡ 1 + member_count m (drop (i + 1) gs)
  counted_mine mine = rw (drop_here gs i inside owner.Free) (count_by-cons_yes (is_members m) (get_or gs i owner.Free) (drop (i + 1) gs) mine)

  pub counted_other : is_members m (get_or gs i owner.Free) ≡ false → member_count m (drop i gs) ≡ member_count m (drop (i + 1) gs)
  counted_other other = rw (drop_here gs i inside owner.Free) (count_by-cons_no (is_members m) (get_or gs i owner.Free) (drop (i + 1) gs) other)

  pub counted_all : member_count m (take (i + 1) (set gs i (get_or gs i owner.Free))) + member_count m (drop (i + 1) gs) ≡ member_count m (take i gs) + member_count m (drop i gs)
  counted_all = rw (take_more_set gs i (get_or gs i owner.Free) inside, drop_here gs i inside owner.Free) (count_by-either (is_members m) (get_or gs i owner.Free) (drop (i + 1) gs) (take i gs))
