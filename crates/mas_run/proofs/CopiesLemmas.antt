-- The copies in lines one after another.
use Rattle.mas_run.proofs.Names.{arith, IsCopyKept, each, is_alive, of_device, pick, ◌≡◌, ◌⊎◌, inl, inr, ℕ, Bool, true, Result, Ok, refl, sym, ◌∙◌, ⊎_elim, ap, Dev, Ckpt1, Ckpt2, PlantGhosts, View, Parts, NodeNo, Grows, IsLeft, grow_rose, no, rose_grow, KeepCopies, LeavesCopies, LeavesOne, LeavesSome, ends_both, sides_of, HasLost, proceeds_none, proceeds_of, proceeds_on, OnConsole, StepCauses, HasActedIn, Passage, MemberId, Ghosts as CopyGhosts, is_open, Renewals, Disk, Proceeds, Rose, by_test, HasCause}
use Rattle.run_opening.proofs.LossLemmas.{lost_after, lost_before}
use Rattle.member_steps.proofs.KeepLemmas.{left_then}
use Rattle.member_node.specs.declared.member.NodeNo.TheVariants as no_node
use Rattle.mas_complex.specs.CallCounts.{pair_at}

-- by what follows for each copy
each_lost : (v0 v1 v2 v3 : View) → ((d : Dev) → Rose (v0.loses d) (v1.loses d) → Rose (v2.loses d) (v3.loses d)) → HasLost v0 v1 → HasLost v2 v3
each_lost v0 v1 v2 v3 on lost = ⊎_elim (λ rose. inl (on Ckpt1 rose)) (λ rose. inr (on Ckpt2 rose)) lost

module _ {P C : Type 0} (plants : PlantGhosts P) where
  abbrev v : Parts P C → View
  v x = plants.view x.plant

  abbrev Left : Parts P C → Parts P C → Type 0
  Left x y = IsLeft x.first_alive y.first_alive x.second_alive y.second_alive ⊎ HasLost (v x) (v y)

  lefts : (x y z : Parts P C) → ((d : Dev) → Grows ((v x).loses d) ((v y).loses d)) → ((d : Dev) → Grows ((v y).loses d) ((v z).loses d))
      → Left x y → Left y z → Left x z
  lefts x y z grow more one two = ⊎_elim
      (λ some. ⊎_elim (λ others. inl (left_then x.first_alive y.first_alive z.first_alive x.second_alive y.second_alive z.second_alive some others))
      (λ lost. inr (each_lost (v y) (v z) (v x) (v z) (λ d rose. grow_rose ((v x).loses d) ((v y).loses d) ((v z).loses d) (grow d) rose) lost)) two)
      (λ lost. inr (each_lost (v x) (v y) (v x) (v z) (λ d rose. rose_grow ((v x).loses d) ((v y).loses d) ((v z).loses d) rose (more d)) lost)) one

  left_by : (both : Bool) (x y z : Parts P C) → ((d : Dev) → Grows ((v x).loses d) ((v y).loses d)) → ((d : Dev) → Grows ((v y).loses d) ((v z).loses d))
      → Left x y → LeavesOne both (sides_of plants y) (sides_of plants z) → LeavesOne both (sides_of plants x) (sides_of plants z)
  left_by q0 x y z grow more one two = grind arith

  pub alive_same : (x y : Parts P C) → y.first_alive ≡ x.first_alive → y.second_alive ≡ x.second_alive → (d : Dev) → is_alive d (sides_of plants y) ≡ is_alive d (sides_of plants x)
  alive_same x y one two d = ap (λ (a : Bool). pick d a y.second_alive) one ∙ ap (λ (b : Bool). pick d x.first_alive b) two

  -- copies that count as before: the device of one that counts as alive is lost if it was
  pub copies_still : {T : Type 0} (x y : Parts P C) (r : Result T NodeNo) → Proceeds (v x) (v y) → y.first_alive ≡ x.first_alive → y.second_alive ≡ x.second_alive
      → ((d : Dev) → (v y).lost (Disk d) ≡ (v x).lost (Disk d)) → ((d : Dev) → (v y).loses d ≡ (v x).loses d) → LeavesSome plants x y r → KeepCopies plants x y r
  copies_still x y r goes one two lost loses left = record {
    goes = goes;
    copies = λ d ckpt.
        let same = alive_same x y one two d in
        record { failed = λ was gone. absurd (no (is_alive d (sides_of plants x)) was (sym same ∙ gone)); there = λ is there. lost d ∙ there (sym same ∙ is) };
    grow = λ d. inl (loses d);
    left = left;
  }

  pub copies_then : {T : Type 0} (x y z : Parts P C) (r : Result T NodeNo) → KeepCopies plants {T = Unit {0}} x y (Ok tt) → KeepCopies plants y z r → KeepCopies plants x z r
  copies_then x y z r one two = let grows_on : (x y z : ℕ) → Grows x y → Grows y z → Grows x z = λ x y z one two. ⊎_elim (λ same. ⊎_elim (λ still. inl (still ∙ same)) (λ rose. inr (grow_rose x y z one rose)) two) (λ rose. inr (rose_grow x y z rose two)) one in
      record {
        goes = proceeds_on (v x) (v y) (v z) one.goes two.goes;
        copies = λ d ckpt. record {
          failed = λ is not. by_test (is_alive d (sides_of plants y))
              (λ still. lost_after d (v x) (v y) (v z) one.goes (one.grow d) ((two.copies d ckpt).failed still not))
              (λ gone. lost_before d (v x) (v y) (v z) ((one.copies d ckpt).failed is gone) two.goes (two.grow d));
          there = λ is there. (two.copies d ckpt).there is (λ then_is. (one.copies d ckpt).there then_is there);
        };
        grow = λ d. grows_on ((v x).loses d) ((v y).loses d) ((v z).loses d) (one.grow d) (two.grow d);
        left = left_by (ends_both r) x y z one.grow two.grow one.left two.left;
      }

  -- calls without a stop that is armed
  pub copies_of : {T : Type 0} (x y : Parts P C) (r : Result T NodeNo) → Passage x.first_alive y.first_alive x.second_alive y.second_alive (v x) (v y)
      → LeavesSome plants x y r → KeepCopies plants x y r
  copies_of x y r course left = record {
    goes = proceeds_of (v x) (v y) course.goes;
    copies = each (IsCopyKept (sides_of plants x) (sides_of plants y)) (record { failed = course.failed1; there = λ is there. course.there1 is (there (course.alive1 is)) })
        (record { failed = course.failed2; there = λ is there. course.there2 is (there (course.alive2 is)) });
    grow = course.grow;
    left = left;
  }

  -- a step, by the cause of its answer
  pub step_leaves : (by : ℕ) (x y : Parts P C) (r : Result (Unit {0}) NodeNo) → StepCauses r by (pair_at x.first_alive x.second_alive (v x)) (pair_at y.first_alive y.second_alive (v y))
      → LeavesSome plants x y r
  step_leaves by x y q3 cause = grind arith

  -- a line that was said, by the cause of its answer
  pub cause_said : (by : ℕ) (x y : Parts P C) (r : Result (Unit {0}) NodeNo) → (y.first_alive ≡ x.first_alive) × (y.second_alive ≡ x.second_alive) → HasCause r by (v x) (v y)
      → StepCauses r by (pair_at x.first_alive x.second_alive (v x)) (pair_at y.first_alive y.second_alive (v y))
  cause_said by x y q3 same cause = grind arith

  pub said_copies : (by : ℕ) (x y : Parts P C) (r : Result (Unit {0}) NodeNo) → OnConsole plants.tells (v x) (v y) → y.first_alive ≡ x.first_alive → y.second_alive ≡ x.second_alive
      → HasCause r by (v x) (v y) → KeepCopies plants x y r
  said_copies by x y r acts same1 same2 cause =
      copies_still x y r (proceeds_of (v x) (v y) acts.goes) same1 same2 (λ d. acts.lost d) (λ d. acts.loses d) (step_leaves by x y r (cause_said by x y r (same1, same2) cause))

  -- AND WHETHER THEY ARE BEING REPLACED

  pub leaves_same : {T : Type 0} (x y : Parts P C) (r : Result T NodeNo) → KeepCopies plants x y r → y.renewals ≡ x.renewals → (y.first_alive ≡ true → x.first_alive ≡ true) → (y.second_alive ≡ true → x.second_alive ≡ true)
      → LeavesCopies plants x y r
  leaves_same x y r keep same one two = record {
    devices = keep;
    whole = λ d ckpt now before. ap (λ (rs : Renewals). is_open (of_device d rs)) same ∙ before (each (λ (e : Dev). is_alive e (sides_of plants y) ≡ true → is_alive e (sides_of plants x) ≡ true) one two d ckpt now);
  }

  pub leaves_none : (x : Parts P C) → LeavesCopies plants {T = Unit {0}} x x (Ok tt)
  leaves_none x = leaves_same {T = Unit {0}} x x (Ok tt) (copies_still {T = Unit {0}} x x (Ok tt) (proceeds_none (v x)) refl refl (λ d. refl) (λ d. refl) (inl (inr (refl, refl)))) refl (λ is. is) (λ is. is)

  pub leaves_then : {T : Type 0} (x y z : Parts P C) (r : Result T NodeNo) → LeavesCopies plants {T = Unit {0}} x y (Ok tt) → LeavesCopies plants y z r → LeavesCopies plants x z r
  leaves_then x y z r one two = record {
    devices = copies_then x y z r one.devices two.devices;
    whole = λ d ckpt now before. two.whole d ckpt now (λ mid. one.whole d ckpt mid before);
  }

  -- a step after which they are as it found them
  pub acted_leaves : (copies : CopyGhosts C) (by : MemberId) (x y : Parts P C) (r : Result (Unit {0}) NodeNo) → HasActedIn plants copies by x y r → y.renewals ≡ x.renewals → LeavesCopies plants x y r
  acted_leaves copies by x y r acts same = leaves_same x y r (copies_of x y r acts.course (step_leaves by.0 x y r acts.cause)) same acts.course.alive1 acts.course.alive2
