-- Commands of others leave a member's groups.
use Rattle.std.proofs.Common.{◌≡◌, ℕ, ◌+◌, Bool, true, false, List, [], ◌∷◌, refl, sym, ap, ◌∙◌}
use Rattle.std.proofs.lemmas.Bool.{eq-eqb, ne_eqb}
use Rattle.std.proofs.lemmas.List.Elements.{All-head, All-tail}
use Rattle.std.specs.Prelude.{if◌then◌else◌, All}
use Rattle.std.specs.List.{AllZip}
use Rattle.mas_types.specs.declared.ids.MemberId.{MemberId}
use Rattle.mas_types.specs.declared.ids.GroupNo.{GroupNo}
use Rattle.mas_types.specs.declared.journals.Entry.{Entry}
use Rattle.mas_types.specs.declared.queues.Owner.{Owner}
use Rattle.mas_types.specs.declared.queues.Owner.TheVariants as owner
use Rattle.mas_types.specs.declared.queues.Queue.{Queue}
use Rattle.mas_types.specs.Ids.{same_member}
use Rattle.mas_types.specs.Owners.{is_members}
use Rattle.queue_laws.specs.Laws.{resets}
use Rattle.queue_laws.specs.OwnerChange.{OwnerChange, is_no_members, Stays, Taken, Given, DeckFreed, OutputFreed, Released}
use Rattle.queue_laws.proofs.OwnersFollow.{owners_follow}
use Rattle.gate_facts.proofs.Lists.{true_false}
use Rattle.mas_complex.specs.Journals.{kept_all}
use Rattle.mas_complex.specs.Meaning.{step, run}
use Rattle.mas_complex.proofs.Batches.{run_append}
use Rattle.gate_turns.specs.Desks.{groups_from}
use Rattle.gate_turns.specs.Laws.{Passes, PassingLeavesGroups}

module _ (h m : MemberId) (is_reset : MemberId → Bool) (apart : same_member h m ≡ false) (up : is_reset h ≡ false) where
  -- no other member is this one
  other_way : same_member m h ≡ false
  other_way = ne_eqb m.0 h.0 (λ e. true_false (same_member h m) (eq-eqb h.0 m.0 (sym e)) apart)

  not_reset : (k : MemberId) → is_reset k ≡ true → same_member k h ≡ false
  not_reset k is = ne_eqb k.0 h.0 (λ e. true_false (is_reset h) (ap is_reset (λ i. record { 0 = sym e i }) ∙ is) up)

  none_held : (g : Owner) → is_no_members g ≡ true → is_members h g ≡ false
  none_held owner.Free is = refl
  none_held (owner.Member k) is = absurd (cc)
  none_held (owner.Deck n p) is = refl
  none_held (owner.Output n i p) is = refl

  same_held : (x y : Owner) → OwnerChange m is_reset x y → is_members h y ≡ is_members h x
  same_held x y (Stays g) = refl
  same_held x y Taken = other_way
  same_held x y (Given g none) = none_held g none ∙ sym other_way
  same_held x y (DeckFreed n p) = refl
  same_held x y (OutputFreed n i p) = refl
  same_held x y (Released k is) = sym (not_reset k is)

  same_from : (at : ℕ) (xs ys : List Owner) → AllZip (OwnerChange m is_reset) xs ys → groups_from h at ys ≡ groups_from h at xs
  same_from at [] [] all = refl
  same_from at [] (y ∷ ys) all = absurd all
  same_from at (x ∷ xs) [] all = absurd all
  same_from at (x ∷ xs) (y ∷ ys) all =
      let first : GroupNo = record { 0 = at } in
      ap (λ z. if z then first ∷ groups_from h (at + 1) ys else groups_from h (at + 1) ys) (same_held x y all.0)
      ∙ ap (λ (l : List GroupNo). if is_members h x then first ∷ l else l) (same_from (at + 1) xs ys all.1)

pub left_run : (h : MemberId) (Q : Queue) (es : List Entry) → All (Passes h) es → groups_from h 0 (run Q es).owners ≡ groups_from h 0 Q.owners
left_run h Q [] all = refl
left_run h Q (e ∷ es) all =
    let one = All-head (Passes h) e es all in
    left_run h (step Q e.by e.command).0 es (All-tail (Passes h) e es all)
    ∙ same_from h e.by (λ k. resets k e.command) one.0 one.1 0 Q.owners (step Q e.by e.command).0.owners (owners_follow Q e.by e.command)

pub passing_leaves : PassingLeavesGroups
passing_leaves x by es pass m ne up =
    ap (λ (Q : Queue). groups_from m 0 Q.owners) (run_append x.base (kept_all x.batches) es) ∙ left_run m (run x.base (kept_all x.batches)) es (pass m ne up)
