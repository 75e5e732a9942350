-- What a pass knows in a turn and after it.
use Rattle.std.proofs.Common.{◌≡◌, ◌∙◌, ℕ, suc, ◌<◌, Bool, true, false, List, [], ◌∷◌, length, slice_index_or, ap, refl, subst, sym, arith}
use Rattle.std.specs.Prelude.{Option, Some, None, IfSome, is_some, if◌then◌else◌}
use Rattle.gate_facts.specs.declared.facts.Facts.{Facts}
use Rattle.gate_facts.specs.Memory.{Knows}
use Rattle.gate_facts.specs.Ways.{EachWay}
use Rattle.member_gate.specs.declared.view.View.{View}
use Rattle.member_gate.specs.Views.{Finds, memory_by, memory_in, sees, taking, counting, ending}

-- THE PASS

-- a pass remembers in its turn what it remembered before
pub memory_taking : (told : Bool) (v : View) (n : ℕ) (is : Bool → Facts) → memory_in (taking v n is) told ≡ memory_in v told
memory_taking true v n is = refl
memory_taking false v n is = refl

-- the value that it finds is one that it knows, as the member to whom it is bound
pub knows_found : (tells : Type 0) (v : View) (is : Bool → Facts) → Finds tells v is
    → EachWay tells (λ told. (m : ℕ) → v.member ≡ m → Knows m (memory_in v told) (is told))
knows_found tells v is f = record {
  bare = λ m e. subst (λ (k : ℕ). Knows k (memory_in v false) (is false)) e f.bare.0;
  told = λ t m e. subst (λ (k : ℕ). Knows k (memory_in v true) (is true)) e (f.told t).0;
}

-- after it gave a value back it may find one that it knows to follow that
pub knows_after : (tells : Type 0) (v : View) (is next : Bool → Facts) → Finds tells (ending (counting v is)) next
    → EachWay tells (λ told. Knows v.member (memory_by v.cares (sees v.member (is told))) (next told))
knows_after tells v is next f = record { bare = f.bare.0; told = λ t. (f.told t).0 }

-- of the value that it gives back, where it is in a turn
pub if_held : {A : Type 0} (has : Bool) (value : Option A) (x : A) (P : A → Type 0) → Some x ≡ value → P x → IfSome (if has then value else None) P
if_held true value x P is so = subst (λ (o : Option _). IfSome o P) is so
if_held false value x P is so = tt

-- in a turn the value is here
pub value_here : {A : Type 0} (has : Bool) (value : Option A) → is_some (if has then value else None) ≡ true → is_some value ≡ true
value_here true value held = held
value_here false value held = absurd (cc)

pub held_here : {A : Type 0} (has : Bool) (value : Option A) (x : A) → is_some (if has then value else None) ≡ true → value ≡ Some x → (if has then value else None) ≡ Some x
held_here true value x held is = is
held_here false value x held is = absurd (cc)
