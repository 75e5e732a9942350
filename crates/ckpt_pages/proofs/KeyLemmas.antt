-- Sets of keys, and what is wrong by them.
use Rattle.std.proofs.Common.{◌≡◌, ◌+◌, ◌<◌, ◌≤◌, add-one, drop-cons, get_or, take, drop, length, subst, ℕ, zero, suc, ◌*◌, nat_le, nat_lt, nat_eq, Bool, true, false, not, ◌&&◌, ◌||◌, List, [], ◌∷◌, ◌++◌, Option, Some, None, Result, Ok, Err, refl, sym, ap, ◌∙◌}
use Rattle.std.specs.Prelude.{OnOk}
use Rattle.std.specs.List.{list_any}
use Rattle.std.specs.HashSet.{HashSet, contains}
use Rattle.std.proofs.lemmas.List.Folds.{list_any-append}
use Rattle.std.proofs.lemmas.List.{take_more, drop_all}
use Rattle.mas_types.specs.declared.ids.JobNo.{JobNo}
use Rattle.mas_types.specs.declared.ids.OutNo.{OutNo}
use Rattle.mas_types.specs.declared.ids.MemberId.{MemberId}
use Rattle.mas_types.specs.declared.queues.Owner.{Owner}
use Rattle.mas_types.specs.declared.queues.Owner.TheVariants as owner
use Rattle.mas_types.specs.Ids.{is_somebody}
use Rattle.mas_types.specs.Queue.{in_input}
use Rattle.mas_types.specs.Sound.{may_be_busy, same_place, is_place_before_there}
use Rattle.lay_bytes.specs.declared.records.JobRec.{JobRec}
use Rattle.lay_bytes.specs.declared.records.OutRec.{OutRec}
use Rattle.ckpt_tables.specs.declared.tables.Tables.{Tables}
use Rattle.ckpt_pages.specs.declared.keys.GroupKeys.{GroupKeys}
use Rattle.ckpt_pages.specs.declared.keys.JobKeys.{JobKeys}
use Rattle.ckpt_pages.specs.declared.keys.OutputKeys.{OutputKeys}
use Rattle.ckpt_pages.specs.declared.keys.PlaceKeys.{PlaceKeys}
use Rattle.ckpt_pages.proofs.SlotLists.{eq_sym as slots_eq_sym}
use Rattle.ckpt_pages.specs.Sound as sound
use Rattle.ckpt_pages.specs.Sound.{is_above}
use Rattle.ckpt_pages.specs.Keys.{same_print_key, same_print_place, Adds, AreGroupKeys, AreJobKeys, AreOutputKeys, ArePlaceKeys, has_place, has_place_before}
use Rattle.ckpt_pages.specs.Indexed.{is_wrong_job, is_wrong_job_slot, is_wrong_output, is_wrong_output_slot, AreSlotKeys, is_wrong_owner, is_wrong_place}

-- ONE MORE ITEM

pub on_ok : {T E P Q : Type 0} (r : Result T E) → (P → Q) → OnOk r P → OnOk r Q
on_ok (Ok x) f h = f h
on_ok (Err e) f h = tt

pub and_true : (b : Bool) → (b && true) ≡ b
and_true true = refl
and_true false = refl

pub and_false : (b : Bool) → (b && false) ≡ false
and_false true = refl
and_false false = refl

or_false : (b : Bool) → (b || false) ≡ b
or_false true = refl
or_false false = refl

module _ {X : Type 0} (t : X → Bool) (xs : List X) (x : X) where
  any_one_more : list_any t (xs ++ x ∷ []) ≡ (list_any t xs || t x)
  any_one_more = list_any-append t xs (x ∷ []) ∙ ap (λ (b : Bool). list_any t xs || b) (or_false (t x))

  -- a key that the item may have was added
  pub more_with : {K S : Type 0} (eq : K → K → Bool) (old new : HashSet K S) (wanted : Bool) (key q : K) → Adds eq old wanted key new → (eq key q && wanted) ≡ t x
      → contains eq old q ≡ list_any t xs → contains eq new q ≡ list_any t (xs ++ x ∷ [])
  more_with eq old new wanted key q adds is before = adds q ∙ (λ d. before d || is d) ∙ sym any_one_more

  -- the item has no key
  pub more_without : (b : Bool) → t x ≡ false → b ≡ list_any t xs → b ≡ list_any t (xs ++ x ∷ [])
  more_without b none before = before ∙ sym (or_false (list_any t xs)) ∙ ap (λ (c : Bool). list_any t xs || c) (sym none) ∙ sym any_one_more

pub eq_sym : (a b : ℕ) → nat_eq a b ≡ nat_eq b a
eq_sym a b = slots_eq_sym a b

-- THE FIRST THAT IS WRONG

module _ {X : Type 0} (w : List X → X → Bool) (xs : List X) (i at : ℕ) (d : X) (o : Option ℕ) (inside : i < length xs) (before : sound.first_wrong w (take i xs) at (drop i xs) ≡ o) where
  here : sound.first_wrong w (take i xs) at (get_or xs i d ∷ drop (i + 1) xs) ≡ o
  here = let e : drop i xs ≡ get_or xs i d ∷ drop (i + 1) xs = rw (drop-cons xs i d inside, add-one) refl in
      subst (λ (ys : List X). sound.first_wrong w (take i xs) at ys ≡ o) e before

  -- item i is right: the search for a wrong one goes on after it
  pub step_on : w (take i xs) (get_or xs i d) ≡ false → sound.first_wrong w (take (i + 1) xs) (at + 1) (drop (i + 1) xs) ≡ o
  step_on right = subst (λ (ys : List X). sound.first_wrong w ys (at + 1) (drop (i + 1) xs) ≡ o) (sym (take_more xs i d inside)) (let h = here in rw right at h)

  -- item i is wrong: the search ends at it
  pub stop_here : w (take i xs) (get_or xs i d) ≡ true → Some at ≡ o
  stop_here wrong = let h = here in rw wrong at h

-- none is
pub none_wrong : {X : Type 0} (w : List X → X → Bool) (xs : List X) (i at : ℕ) (o : Option ℕ) → length xs ≤ i → sound.first_wrong w (take i xs) at (drop i xs) ≡ o → None ≡ o
none_wrong {X} w xs i at o past before = subst (λ (ys : List X). sound.first_wrong w (take i xs) at ys ≡ o) (drop_all i xs past) before

-- PLACES

-- a group without a place
pub no_place : (keys : PlaceKeys) (owners : List Owner) (x : Owner) → ((o : Owner) → same_place o x ≡ false) → ArePlaceKeys keys owners → ArePlaceKeys keys (owners ++ x ∷ [])
no_place keys owners x none are = λ o. more_without (same_place o) owners x (has_place keys o) (none o) (are o)

pub free_place : (o : Owner) → same_place o owner.Free ≡ false
free_place owner.Free = refl
free_place (owner.Member m) = refl
free_place (owner.Deck n p) = refl
free_place (owner.Output n i p) = refl

pub member_place : (m : MemberId) (o : Owner) → same_place o (owner.Member m) ≡ false
member_place m owner.Free = refl
member_place m (owner.Member k) = refl
member_place m (owner.Deck n p) = refl
member_place m (owner.Output n i p) = refl

module _ (old new : PlaceKeys) (owners : List Owner) (n : JobNo) where
  pub deck_place : (p : ℕ) → Adds same_print_key old.decks true (n.0, p) new.decks → new.prints ≡ old.prints → ArePlaceKeys old owners → ArePlaceKeys new (owners ++ owner.Deck n p ∷ [])
  deck_place p adds same are owner.Free = more_without (same_place owner.Free) owners (owner.Deck n p) false refl (are owner.Free)
  deck_place p adds same are (owner.Member m) = more_without (same_place (owner.Member m)) owners (owner.Deck n p) false refl (are (owner.Member m))
  deck_place p adds same are (owner.Deck m q) =
      more_with (same_place (owner.Deck m q)) owners (owner.Deck n p) same_print_key old.decks new.decks true (n.0, p) (m.0, q) adds
      (and_true _ ∙ (λ d. eq_sym n.0 m.0 d && eq_sym p q d)) (are (owner.Deck m q))
  deck_place p adds same are (owner.Output m i q) =
      ap (λ (s : _). contains same_print_place s ((m.0, i.0), q)) same
      ∙ more_without (same_place (owner.Output m i q)) owners (owner.Deck n p) (has_place old (owner.Output m i q)) refl (are (owner.Output m i q))

  pub output_place : (i : OutNo) (p : ℕ) → Adds same_print_place old.prints true ((n.0, i.0), p) new.prints → new.decks ≡ old.decks → ArePlaceKeys old owners → ArePlaceKeys new (owners ++ owner.Output n i p ∷ [])
  output_place i p adds same are owner.Free = more_without (same_place owner.Free) owners (owner.Output n i p) false refl (are owner.Free)
  output_place i p adds same are (owner.Member m) = more_without (same_place (owner.Member m)) owners (owner.Output n i p) false refl (are (owner.Member m))
  output_place i p adds same are (owner.Deck m q) =
      ap (λ (s : _). contains same_print_key s (m.0, q)) same
      ∙ more_without (same_place (owner.Deck m q)) owners (owner.Output n i p) (has_place old (owner.Deck m q)) refl (are (owner.Deck m q))
  output_place i p adds same are (owner.Output m j q) =
      more_with (same_place (owner.Output m j q)) owners (owner.Output n i p) same_print_place old.prints new.prints true ((n.0, i.0), p) ((m.0, j.0), q) adds
      (and_true _ ∙ (λ d. (eq_sym n.0 m.0 d && eq_sym i.0 j.0 d) && eq_sym p q d)) (are (owner.Output m j q))

-- WHAT IS WRONG

module _ (t : Tables) (groups : GroupKeys) (groups_are : AreGroupKeys groups t.owners) where
  wrong_job : (keys : JobKeys) (before : List (Option JobRec)) (j : JobRec) → AreJobKeys keys before → is_wrong_job t groups keys j ≡ sound.is_wrong_job t before j
  wrong_job keys before j are = λ d.
      are.numbers j.number d || are.orders j.order d || nat_le t.order j.order || is_above t j.busy
      || (is_somebody j.busy && not (may_be_busy j.phase)) || (in_input j.phase && nat_lt 0 j.cards)
      || (nat_lt 0 j.cards && not (groups_are.decks j.number d))

  pub wrong_job_slot : (keys : JobKeys) (before : List (Option JobRec)) (slot : Option JobRec) → AreJobKeys keys before → is_wrong_job_slot t groups keys slot ≡ sound.is_wrong_job_slot t before slot
  wrong_job_slot keys before None are = refl
  wrong_job_slot keys before (Some j) are = wrong_job keys before j are

  wrong_output : (jobs : JobKeys) (keys : OutputKeys) (before : List (Option OutRec)) (o : OutRec) → AreJobKeys jobs t.jobs → AreOutputKeys keys before → is_wrong_output t groups jobs keys o ≡ sound.is_wrong_output t before o
  wrong_output jobs keys before o jobs_are are = λ d.
      jobs_are.orders o.order d || are.orders o.order d || nat_le t.order o.order
      || not (jobs_are.with_outputs o.job d) || are.prints o.job o.index d
      || (is_somebody o.busy && are.printers o.busy d) || is_above t o.busy
      || nat_lt (o.lines * o.copies) o.mark || (nat_lt 0 o.lines && not (groups_are.prints o.job o.index d))

  pub wrong_output_slot : (jobs : JobKeys) (keys : OutputKeys) (before : List (Option OutRec)) (slot : Option OutRec) → AreJobKeys jobs t.jobs → AreOutputKeys keys before → is_wrong_output_slot t groups jobs keys slot ≡ sound.is_wrong_output_slot t before slot
  wrong_output_slot jobs keys before None jobs_are are = refl
  wrong_output_slot jobs keys before (Some o) jobs_are are = wrong_output jobs keys before o jobs_are are

pub wrong_owner : (t : Tables) (jobs : JobKeys) (outputs : OutputKeys) → AreSlotKeys t jobs outputs → (g : Owner) → is_wrong_owner t jobs outputs g ≡ sound.is_wrong_owner t g
wrong_owner t jobs outputs are owner.Free = refl
wrong_owner t jobs outputs are (owner.Member m) = refl
wrong_owner t jobs outputs are (owner.Deck n place) = ap not (are.jobs_are.past_input n)
wrong_owner t jobs outputs are (owner.Output n i place) = ap not (are.outputs_are.prints n i)

place_before : (keys : PlaceKeys) (owners : List Owner) → ArePlaceKeys keys owners → (g : Owner) → has_place_before keys g ≡ is_place_before_there owners g
place_before keys owners are owner.Free = refl
place_before keys owners are (owner.Member m) = refl
place_before keys owners are (owner.Deck n zero) = refl
place_before keys owners are (owner.Deck n (suc p)) = are (owner.Deck n p)
place_before keys owners are (owner.Output n i zero) = refl
place_before keys owners are (owner.Output n i (suc p)) = are (owner.Output n i p)

pub wrong_place : (t : Tables) (all keys : PlaceKeys) (before : List Owner) (g : Owner) → ArePlaceKeys all t.owners → ArePlaceKeys keys before → is_wrong_place all keys g ≡ sound.is_wrong_place t before g
wrong_place t all keys before g all_are are = λ d. are g d || not (place_before all t.owners all_are g d)
