-- What a find does beside: two looks, and at most one loss.
use Rattle.std.proofs.Common.{◌≡◌, ◌≢◌, ◌⊎◌, ◌&&◌, not, inl, inr, ℕ, Bool, true, false, List, Option, OnErr, refl, sym, ◌∙◌, ap, subst}
use Rattle.mas_types.specs.declared.ids.Dev.{Dev}
use Rattle.mas_types.specs.declared.ids.Dev.TheVariants.{Ckpt1, Ckpt2}
use Rattle.spool_plant.specs.declared.plant.Part.{Part}
use Rattle.spool_plant.specs.declared.plant.Part.TheVariants.{Disk as DiskPart}
use Rattle.spool_plant.specs.View.{View, Disk}
use Rattle.spool_plant.specs.Acts.{Loses, next}
use Rattle.ckpt_copy.specs.Moments.{goes_on}
use Rattle.duplex_pair.specs.declared.errors.Look.{Look}
use Rattle.duplex_pair.specs.declared.errors.Look.TheVariants.{Lost, Unread, Pages}
use Rattle.duplex_pair.specs.Both.{PairActed}
use Rattle.duplex_pair.specs.Finds.{PairFound}
use Rattle.duplex_pair.specs.Founds.{chosen, goes_away}
use Rattle.duplex_pair.specs.Looks.{WasSeen}
use Rattle.duplex_pair.specs.Outcomes.{find_stopped}
use Rattle.duplex_pair.proofs.Composing.{ne12, ne21}

part_is : (d e : Dev) → d ≢ e → DiskPart d ≢ DiskPart e
part_is d e ne same = ne (cc)

-- looks alone
pub found_none : (by : ℕ) (a a' b b' stopped : Bool) (old new : View) → PairActed by a a' b b' stopped old new → PairFound by a a' b b' stopped old new
found_none by a a' b b' stopped old new x = record {
  goes = x.goes;
  alive1 = x.alive1;
  alive2 = x.alive2;
  loses1 = inl (x.loses Ckpt1);
  loses2 = inl (x.loses Ckpt2);
  else_loses = λ d one two. x.loses d;
  failed1 = λ was not. inl (x.failed1 was not);
  failed2 = λ was not. inl (x.failed2 was not);
  else_lost = x.else_lost;
  else_faults = x.else_faults;
  halted = x.halted;
  at_halt = x.at_halt;
  not_operator = x.not_operator;
  no_other_stop = x.no_other_stop;
}

module _ (by : ℕ) (a b : Bool) (old mid new : View) (x : PairActed by a true b true false old mid) where
  -- after acts on both copies the first goes
  pub found_first : Loses (DiskPart Ckpt1) mid new → PairFound by a false b true false old new
  found_first y = record {
    goes = goes_on old mid new x.goes y.goes;
    alive1 = λ is. absurd (cc);
    alive2 = x.alive2;
    loses1 = inr (record { counted = counted; alive = x.alive1 refl; gone = refl; beside = refl });
    loses2 = inl (y.else_counted Ckpt2 (part_is Ckpt2 Ckpt1 ne21) ∙ x.loses Ckpt2);
    else_loses = λ d one two. y.else_counted d (part_is d Ckpt1 one) ∙ x.loses d;
    failed1 = λ was not. inr counted;
    failed2 = λ was not. absurd (cc);
    else_lost = λ p one two. y.else_lost p (other p one) ∙ x.else_lost p (inr (sym (x.alive1 refl))) two;
    else_faults = λ p one two. y.faults p ∙ x.else_faults p (inr (sym (x.alive1 refl))) two;
    halted = λ is. absurd (cc);
    at_halt = λ is. absurd (cc);
    not_operator = λ is. absurd (cc);
    no_other_stop = λ m why. y.stops m ∙ x.no_other_stop m why;
  } where
    counted : new.loses Ckpt1 ≡ next (old.loses Ckpt1)
    counted = y.counted Ckpt1 refl ∙ ap next (x.loses Ckpt1)

    other : (p : Part) → (p ≢ DiskPart Ckpt1) ⊎ (false ≡ a) → p ≢ DiskPart Ckpt1
    other p (inl ne) = ne
    other p (inr e) = let was : a ≡ true = x.alive1 refl in absurd (cc)

  -- after acts on both copies the second goes
  pub found_second : Loses (DiskPart Ckpt2) mid new → PairFound by a true b false false old new
  found_second y = record {
    goes = goes_on old mid new x.goes y.goes;
    alive1 = x.alive1;
    alive2 = λ is. absurd (cc);
    loses1 = inl (y.else_counted Ckpt1 (part_is Ckpt1 Ckpt2 ne12) ∙ x.loses Ckpt1);
    loses2 = inr (record { counted = counted; alive = x.alive2 refl; gone = refl; beside = refl });
    else_loses = λ d one two. y.else_counted d (part_is d Ckpt2 two) ∙ x.loses d;
    failed1 = λ was not. absurd (cc);
    failed2 = λ was not. inr counted;
    else_lost = λ p one two. y.else_lost p (other p two) ∙ x.else_lost p one (inr (sym (x.alive2 refl)));
    else_faults = λ p one two. y.faults p ∙ x.else_faults p one (inr (sym (x.alive2 refl)));
    halted = λ is. absurd (cc);
    at_halt = λ is. absurd (cc);
    not_operator = λ is. absurd (cc);
    no_other_stop = λ m why. y.stops m ∙ x.no_other_stop m why;
  } where
    counted : new.loses Ckpt2 ≡ next (old.loses Ckpt2)
    counted = y.counted Ckpt2 refl ∙ ap next (x.loses Ckpt2)

    other : (p : Part) → (p ≢ DiskPart Ckpt2) ⊎ (false ≡ b) → p ≢ DiskPart Ckpt2
    other p (inl ne) = ne
    other p (inr e) = let was : b ≡ true = x.alive2 refl in absurd (cc)

-- looks, and the copy that can't be read goes where the other one can
module _ (by : ℕ) (a b : Bool) (old two three new : View) where
  pub found_all : (a' b' g1 g2 : Bool) → PairActed by a a' b b' false old two → (g1 ≡ true → Loses (DiskPart Ckpt1) two three) → (g1 ≡ false → three ≡ two) → (g2 ≡ true → Loses (DiskPart Ckpt2) three new) → (g2 ≡ false → new ≡ three)
      → (g1 ≡ true → (a' ≡ true) × (b' ≡ true) × (g2 ≡ false)) → (g2 ≡ true → (b' ≡ true) × (a' ≡ true) × (g1 ≡ false)) → PairFound by a (a' && not g1) b (b' && not g2) false old new
  found_all true true true false x lose1 same1 lose2 same2 one two' = subst (λ (v : View). PairFound by a false b true false old v) (sym (same2 refl)) (found_first by a b old two three x (lose1 refl))
  found_all true true false true x lose1 same1 lose2 same2 one two' =
      found_second by a b old two new x (subst (λ (v : View). Loses (DiskPart Ckpt2) v new) (same1 refl) (lose2 refl))
  found_all true true true true x lose1 same1 lose2 same2 one two' = let e : true ≡ false = (one refl).2 in absurd (cc)
  found_all true false true g2 x lose1 same1 lose2 same2 one two' = let e : false ≡ true = (one refl).1 in absurd (cc)
  found_all false b' true g2 x lose1 same1 lose2 same2 one two' = let e : false ≡ true = (one refl).0 in absurd (cc)
  found_all true false false true x lose1 same1 lose2 same2 one two' = let e : false ≡ true = (two' refl).0 in absurd (cc)
  found_all false b' false true x lose1 same1 lose2 same2 one two' = let e : false ≡ true = (two' refl).1 in absurd (cc)
  found_all true true false false x lose1 same1 lose2 same2 one two' = subst (λ (v : View). PairFound by a true b true false old v) (sym (same2 refl ∙ same1 refl)) (found_none by a true b true false old two x)
  found_all true false false false x lose1 same1 lose2 same2 one two' = subst (λ (v : View). PairFound by a true b false false old v) (sym (same2 refl ∙ same1 refl)) (found_none by a true b false false old two x)
  found_all false true false false x lose1 same1 lose2 same2 one two' = subst (λ (v : View). PairFound by a false b true false old v) (sym (same2 refl ∙ same1 refl)) (found_none by a false b true false old two x)
  found_all false false false false x lose1 same1 lose2 same2 one two' = subst (λ (v : View). PairFound by a false b false false old v) (sym (same2 refl ∙ same1 refl)) (found_none by a false b false false old two x)

-- what looks give together is no stop
pub unstopped : (first second : Look) → find_stopped (chosen first second) ≡ false
unstopped (Pages one) (Pages two) = refl
unstopped (Pages one) Lost = refl
unstopped (Pages one) Unread = refl
unstopped Lost (Pages two) = refl
unstopped Lost Lost = refl
unstopped Lost Unread = refl
unstopped Unread (Pages two) = refl
unstopped Unread Lost = refl
unstopped Unread Unread = refl

-- a copy goes only where it counts as alive, and the other does, which then stays
module _ {C : Type 0} (count room : C → ℕ) (room_most : ℕ) (ready : C → View → Type 0) (reads : List ℕ → Option (List ℕ)) (rests : C → List ℕ → Disk → Type 0) (tells : Type 0) where
  pub goes_beside : (dev1 dev2 : Dev) (v w : View) (was1 is1 was2 is2 : C) (a b : Bool) (first second : Look)
      → WasSeen count room room_most ready reads rests tells dev1 v was1 is1 a first → WasSeen count room room_most ready reads rests tells dev2 w was2 is2 b second
      → goes_away first second ≡ true → (a ≡ true) × (b ≡ true) × (goes_away second first ≡ false)
  goes_beside dev1 dev2 v w was1 is1 was2 is2 a b Unread (Pages pages) one two goes = (one.is_alive, two.is_alive, refl)
  goes_beside dev1 dev2 v w was1 is1 was2 is2 a b Unread Lost one two goes = absurd (cc)
  goes_beside dev1 dev2 v w was1 is1 was2 is2 a b Unread Unread one two goes = absurd (cc)
  goes_beside dev1 dev2 v w was1 is1 was2 is2 a b Lost second one two goes = absurd (cc)
  goes_beside dev1 dev2 v w was1 is1 was2 is2 a b (Pages pages) second one two goes = absurd (cc)

-- where no pages are given no copy goes
pub none_goes : (P : Type 0) (first second : Look) → (goes_away first second ≡ false → goes_away second first ≡ false → P) → OnErr (chosen first second) P
none_goes P (Pages one) (Pages two) so = tt
none_goes P (Pages one) Lost so = tt
none_goes P (Pages one) Unread so = tt
none_goes P Lost (Pages two) so = tt
none_goes P Unread (Pages two) so = tt
none_goes P Lost Lost so = so refl refl
none_goes P Lost Unread so = so refl refl
none_goes P Unread Lost so = so refl refl
none_goes P Unread Unread so = so refl refl
