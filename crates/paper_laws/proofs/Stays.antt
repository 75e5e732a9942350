-- Outputs that stay in a list, or are taken out of it.
use Rattle.std.proofs.Common.{◌≡◌, Bool, true, false, List, [], ◌∷◌, ◌++◌, map, Some, None, ap, ◌∙◌, inl, inr, arith}
use Rattle.std.specs.Prelude.{option_map}
use Rattle.std.specs.List.{find}
use Rattle.std.proofs.lemmas.Bool.Decides.{eqb_tells, nat_tests}
use Rattle.mas_types.specs.declared.ids.JobNo.{JobNo}
use Rattle.mas_types.specs.declared.ids.OutNo.{OutNo}
use Rattle.mas_types.specs.declared.jobs.Output.{Output}
use Rattle.mas_types.specs.declared.commands.Command.{Command}
use Rattle.mas_types.specs.Lists.{change_first, without_first, without}
use Rattle.mas_types.specs.Queue.{has_key, is_of}
use Rattle.queue_laws.specs.Marks.{MayTake}
use Rattle.queue_laws.proofs.Finds.{test_cases, find-append, find-map, find-without_first, find-without}
use Rattle.queue_laws.proofs.Kept.{key_cases, key_found_alike}

-- one that is found passes
pub found_passes : (p : Output → Bool) (os : List Output) (x : Output) → find p os ≡ Some x → p x ≡ true
found_passes p [] x found = absurd (cc)
found_passes p (y ∷ ys) x found =
    test_cases (p y) (p x ≡ true)
    (λ e. let same : y ≡ x = (let w = rw e at found in cc) in rw (← same) e)
    (λ e. found_passes p ys x (rw e at found))

-- one that is found is found where the first of some kind is changed
change_finds : (p q : Output → Bool) (f : Output → Output) (os : List Output) (x : Output) → ((o : Output) → p (f o) ≡ p o) → find p os ≡ Some x → find p (change_first q f os) ≡ None → ⊥
change_finds p q f [] x keys found none = cc
change_finds p q f (y ∷ ys) x keys found none =
    test_cases (p y) ⊥
    (λ e. test_cases (q y) ⊥
    (λ d. let w = rw (d, keys y, e) at none in cc)
    (λ d. let w = rw (d, e) at none in cc))
    (λ e. test_cases (q y) ⊥
    (λ d. let w = rw (d, keys y, e) at none in let v = rw e at found in cc)
    (λ d. change_finds p q f ys x keys (rw e at found) (rw (d, e) at none)))

of_same : (n k : JobNo) (i : OutNo) (o : Output) → n.0 ≡ k.0 → has_key n i o ≡ true → is_of k o ≡ true
of_same n k i o same h = grind (arith, nat_tests)

of_other : (n k : JobNo) (i : OutNo) (o : Output) → (n.0 ≡ k.0 → ⊥) → has_key n i o ≡ true → is_of k o ≡ false
of_other n k i o apart h = grind (arith, nat_tests)

-- an output with this key that is in the first list, and not in the second one, is one that the command takes
abbrev pub Stays : Command → List Output → List Output → JobNo → OutNo → Type 0
Stays c os left n i = (x : Output) → find (has_key n i) os ≡ Some x → find (has_key n i) left ≡ None → MayTake c x

module _ (c : Command) (n : JobNo) (i : OutNo) where
  pub same_list : (os : List Output) → Stays c os os n i
  same_list os x found none = absurd (cc)

  pub changed : (q : Output → Bool) (f : Output → Output) (os : List Output) → ((o : Output) → has_key n i (f o) ≡ has_key n i o) → Stays c os (change_first q f os) n i
  changed q f os keys x found none = absurd (change_finds (has_key n i) q f os x keys found none)

  pub mapped : (f : Output → Output) (os : List Output) → ((o : Output) → has_key n i (f o) ≡ has_key n i o) → Stays c os (map f os) n i
  mapped f os keys x found none =
      let there : find (has_key n i) (map f os) ≡ Some (f x) = find-map (has_key n i) f os keys ∙ ap (option_map f) found in
      absurd (cc)

  pub appended : (os ps : List Output) → Stays c os (os ++ ps) n i
  appended os ps x found none = let there = find-append (has_key n i) os ps x found in absurd (cc)

  pub removed : (k : JobNo) (l : OutNo) (os : List Output) → ((x : Output) → find (has_key k l) os ≡ Some x → MayTake c x) → Stays c os (without_first (has_key k l) os) n i
  removed k l os may x found none =
      elim (key_cases n k i l) [
        | inl w ↦ may x (key_found_alike n k i l os x w.0 w.1 found)
        | inr w ↦ let same = find-without_first (has_key n i) (has_key k l) os w in absurd (cc)
      ]

  pub left_without : (k : JobNo) (os : List Output) → ((x : Output) → is_of k x ≡ true → MayTake c x) → Stays c os (without (is_of k) os) n i
  left_without k os may x found none =
      elim (eqb_tells n.0 k.0) [
        | inl w ↦ may x (of_same n k i x w.1 (found_passes (has_key n i) os x found))
        | inr w ↦ let same = find-without (has_key n i) (is_of k) os (λ o h. of_other n k i o w.1 h) in absurd (cc)
      ]
