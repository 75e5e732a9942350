-- Copies that acts may lose by a call, each once: one act after another.
use Rattle.std.proofs.Common.{◌≡◌, ◌∙◌, ◌+◌, ℕ, Bool, true, false, inl, inr, refl, ap, sym}
use Rattle.mas_types.specs.declared.ids.Dev.TheVariants.{Ckpt1, Ckpt2}
use Rattle.mas_types.specs.declared.ids.MemberId.{MemberId}
use Rattle.spool_plant.specs.declared.plant.Plant.{Ghosts as PlantGhosts}
use Rattle.spool_plant.specs.View.{View}
use Rattle.mas_complex.specs.CallCounts.{IsLostOnce, KeepsCounts, pair_state, pair_at}
use Rattle.mas_complex.specs.Parts.{Parts}
use Rattle.member_node.specs.declared.member.NodeNo.{NodeNo}
use Rattle.member_node.specs.declared.member.NodeNo.TheVariants as no_node
use Rattle.member_node.specs.Calls.{Course}
use Rattle.member_hand.specs.Plays.{stopped_by}
use Rattle.member_resets.specs.Resetting.{AreLostOnce}

no : (b : Bool) → b ≡ true → b ≡ false → ⊥
no true is dead = cc
no false is dead = cc

once_more : (a b c : Bool) (k l m : ℕ) → (b ≡ true → a ≡ true) → (c ≡ true → b ≡ true) → IsLostOnce a b k l → IsLostOnce b c l m → IsLostOnce a c k m
once_more a b c k l m f g (inl x) (inl y) = inl (y ∙ x)
once_more a b c k l m f g (inl x) (inr y) = inr (f y.0, y.1, y.2 ∙ ap (λ (n : ℕ). n + 1) x)
once_more a b c k l m f g (inr x) (inl y) = inr (x.0, gone c g x.1, y ∙ x.2) where
  gone : (c : Bool) → (c ≡ true → b ≡ true) → b ≡ false → c ≡ false
  gone false h dead = refl
  gone true h dead = absurd (no b (h refl) dead)
once_more a b c k l m f g (inr x) (inr y) = absurd (no b y.0 x.1)

module _ {P C : Type 0} (plants : PlantGhosts P) where
  abbrev v : Parts P C → View
  v x = plants.view x.plant

  pub course_once : (x y : Parts P C) → Course (pair_at x.first_alive x.second_alive (v x)) (pair_at y.first_alive y.second_alive (v y)) → AreLostOnce plants x y
  course_once x y c = record { first = c.once1; second = c.once2 }

  pub counted_once : (by : ℕ) (stopped : Bool) (x y : Parts P C) → KeepsCounts by stopped (pair_state plants.view x) (pair_state plants.view y) → AreLostOnce plants x y
  counted_once by stopped x y c = record { first = c.first.once; second = c.second.once }

  pub then_once : (x y z : Parts P C) → (y.first_alive ≡ true → x.first_alive ≡ true) → (z.first_alive ≡ true → y.first_alive ≡ true) → (y.second_alive ≡ true → x.second_alive ≡ true) → (z.second_alive ≡ true → y.second_alive ≡ true)
      → AreLostOnce plants x y → AreLostOnce plants y z → AreLostOnce plants x z
  then_once x y z one1 two1 one2 two2 a b = record {
    first = once_more x.first_alive y.first_alive z.first_alive ((v x).loses Ckpt1) ((v y).loses Ckpt1) ((v z).loses Ckpt1) one1 two1 a.first b.first;
    second = once_more x.second_alive y.second_alive z.second_alive ((v x).loses Ckpt2) ((v y).loses Ckpt2) ((v z).loses Ckpt2) one2 two2 a.second b.second;
  }

  -- calls with a course, one after another
  pub courses_once : (x y z : Parts P C) → Course (pair_at x.first_alive x.second_alive (v x)) (pair_at y.first_alive y.second_alive (v y)) → Course (pair_at y.first_alive y.second_alive (v y)) (pair_at z.first_alive z.second_alive (v z)) → AreLostOnce plants x z
  courses_once x y z a b = then_once x y z a.alive1 b.alive1 a.alive2 b.alive2 (course_once x y a) (course_once y z b)

  -- a stop in the book loses none
  pub stopped_once : (e : NodeNo) (by : MemberId) (x w : Parts P C) → AreLostOnce plants x w → AreLostOnce plants x (stopped_by e by w)
  stopped_once no_node.Halted by x w a = record { first = a.first; second = a.second }
  stopped_once no_node.NoMemory by x w a = a
  stopped_once no_node.BothLost by x w a = a
  stopped_once no_node.ConsoleFault by x w a = a
