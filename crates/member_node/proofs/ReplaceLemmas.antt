-- What the copies read once one was to be replaced.
use Rattle.std.proofs.Common.{◌≡◌, ◌≢◌, ℕ, Bool, true, List, length, Option, Some, Result, Ok, Err, OnOk, sym, ◌∙◌, ap, subst}
use Rattle.std.specs.Prelude.{IsErrOf}
use Rattle.mas_types.specs.declared.ids.Dev.{Dev}
use Rattle.mas_types.specs.declared.ids.Dev.TheVariants.{Ckpt1, Ckpt2, Spool}
use Rattle.mas_types.specs.declared.ids.Page.{Page}
use Rattle.ckpt_copy.specs.Pages.{bytes_of}
use Rattle.duplex_pair.specs.Halves.{IsCkpt, other, pick}
use Rattle.mas_complex.specs.ReplaceNo.{ReplaceNo}
use Rattle.mas_complex.specs.ReplaceNo.TheVariants.{NotLost, BothLost, Failed, Halted, NoMemory}
use Rattle.ckpt_places.specs.declared.places.Place.{Place}
use Rattle.ckpt_places.specs.declared.places.Place.TheVariants.{Before}
use Rattle.mas_complex.specs.Parts.{Parts, replaced_in}
use Rattle.member_node.specs.Copies.{RestsAt}

-- BEFORE IT: the other copy

pub place_other : (dev : Dev) → IsCkpt dev → (p q : Place) → p ≡ Before → q ≡ Before → other dev p q ≡ Before
place_other Ckpt1 ckpt p q one two = two
place_other Ckpt2 ckpt p q one two = one
place_other (Spool n) ckpt p q one two = absurd ckpt

module _ {H : Type 0} (alive : H → Bool) where
  pub count_other : (count : H → ℕ) (many : ℕ) (dev : Dev) → IsCkpt dev → (h k : H) → (alive h ≡ true → many ≡ count h) → (alive k ≡ true → many ≡ count k)
      → alive (other dev h k) ≡ true → many ≡ count (other dev h k)
  count_other count many Ckpt1 ckpt h k one two = two
  count_other count many Ckpt2 ckpt h k one two = one
  count_other count many (Spool n) ckpt h k one two = absurd ckpt

  pub read_other : (read : Dev → Option (List ℕ)) (was : List ℕ) (dev : Dev) → IsCkpt dev → (h k : H) → (alive h ≡ true → read Ckpt1 ≡ Some was) → (alive k ≡ true → read Ckpt2 ≡ Some was)
      → alive (other dev h k) ≡ true → read (other dev Ckpt1 Ckpt2) ≡ Some was
  read_other read was Ckpt1 ckpt h k one two = two
  read_other read was Ckpt2 ckpt h k one two = one
  read_other read was (Spool n) ckpt h k one two = absurd ckpt

-- AFTER IT

pub on_ok : {A E X Y : Type 0} (r : Result A E) → (X → Y) → OnOk r X → OnOk r Y
on_ok (Ok a) f x = f x
on_ok (Err e) f x = tt

pub picked_alive : {H : Type 0} (alive : H → Bool) (dev : Dev) (h k : H) → pick dev (alive h) (alive k) ≡ true → alive (pick dev h k) ≡ true
picked_alive alive Ckpt1 h k on = on
picked_alive alive Ckpt2 h k on = on
picked_alive alive (Spool n) h k on = on

pub picked_count : {H C : Type 0} (copy : H → C) (count : C → ℕ) (n : ℕ) (dev : Dev) (h k : H) → count (copy (pick dev h k)) ≡ n → count (pick dev (copy h) (copy k)) ≡ n
picked_count copy count n Ckpt1 h k many = many
picked_count copy count n Ckpt2 h k many = many
picked_count copy count n (Spool m) h k many = many

-- a copy that stays as it was
stays : (tells : Type 0) (alive alive' : Bool) (place place' : Place) (count count' : ℕ) (pages : List Page) (read read' : Option (List ℕ)) → alive' ≡ alive → place' ≡ place → count' ≡ count → (tells → read' ≡ read)
    → RestsAt tells alive place count pages read → RestsAt tells alive' place' count' pages read'
stays tells alive alive' place place' count count' pages read read' a p n r h = record {
  before = p ∙ h.before;
  as_many = λ on. h.as_many (sym a ∙ on) ∙ sym n;
  reads = λ told on. r told ∙ h.reads told (sym a ∙ on);
}

-- a copy that counts as lost as it did
stays_lost : (tells : Type 0) (alive alive' : Bool) (place place' : Place) (count count' : ℕ) (pages : List Page) (read read' : Option (List ℕ)) → (alive ≡ true → ⊥) → alive' ≡ alive → place' ≡ place
    → RestsAt tells alive place count pages read → RestsAt tells alive' place' count' pages read'
stays_lost tells alive alive' place place' count count' pages read read' dead a p h = record {
  before = p ∙ h.before;
  as_many = λ on. absurd (dead (sym a ∙ on));
  reads = λ told on. absurd (dead (sym a ∙ on));
}

module _ {P C : Type 0} (tells : Type 0) (count : C → ℕ) (pages : List Page) (read : P → Dev → Option (List ℕ)) where
  -- what each copy is after a read
  abbrev pub RestsFirst : Parts P C → Type 0
  RestsFirst x = RestsAt tells x.first_alive x.first (count x.first_copy) pages (read x.plant Ckpt1)

  abbrev pub RestsSecond : Parts P C → Type 0
  RestsSecond x = RestsAt tells x.second_alive x.second (count x.second_copy) pages (read x.plant Ckpt2)

  -- the copy that was to be replaced
  renewed_first : (r : Result (Unit {0}) ReplaceNo) (from now : ℕ) (is was : Parts P C) → is ≡ replaced_in r Ckpt1 from now is was → (was.first_alive ≡ true → IsErrOf r NotLost)
      → OnOk r (count is.first_copy ≡ length pages) → OnOk r (tells → read is.plant Ckpt1 ≡ Some (bytes_of pages)) → RestsFirst was → RestsFirst is
  renewed_first (Ok u) from now is was frame alive many reads h = record { before = ap (λ (x : Parts P C). x.first) frame; as_many = λ on. sym many; reads = λ told on. reads told }
  renewed_first (Err NotLost) from now is was frame alive many reads h = subst RestsFirst (sym frame) h
  renewed_first (Err BothLost) from now is was frame alive many reads h = subst RestsFirst (sym frame) h
  renewed_first (Err NoMemory) from now is was frame alive many reads h = subst RestsFirst (sym frame) h
  renewed_first (Err Failed) from now is was frame alive many reads h =
      stays_lost tells was.first_alive is.first_alive was.first is.first (count was.first_copy) (count is.first_copy) pages (read was.plant Ckpt1) (read is.plant Ckpt1) (λ on. absurd (let w = alive on in cc)) (ap (λ (x : Parts P C). x.first_alive) frame) (ap (λ (x : Parts P C). x.first) frame) h
  renewed_first (Err Halted) from now is was frame alive many reads h =
      stays_lost tells was.first_alive is.first_alive was.first is.first (count was.first_copy) (count is.first_copy) pages (read was.plant Ckpt1) (read is.plant Ckpt1) (λ on. absurd (let w = alive on in cc)) (ap (λ (x : Parts P C). x.first_alive) frame) (ap (λ (x : Parts P C). x.first) frame) h

  renewed_second : (r : Result (Unit {0}) ReplaceNo) (from now : ℕ) (is was : Parts P C) → is ≡ replaced_in r Ckpt2 from now is was → (was.second_alive ≡ true → IsErrOf r NotLost)
      → OnOk r (count is.second_copy ≡ length pages) → OnOk r (tells → read is.plant Ckpt2 ≡ Some (bytes_of pages)) → RestsSecond was → RestsSecond is
  renewed_second (Ok u) from now is was frame alive many reads h = record { before = ap (λ (x : Parts P C). x.second) frame; as_many = λ on. sym many; reads = λ told on. reads told }
  renewed_second (Err NotLost) from now is was frame alive many reads h = subst RestsSecond (sym frame) h
  renewed_second (Err BothLost) from now is was frame alive many reads h = subst RestsSecond (sym frame) h
  renewed_second (Err NoMemory) from now is was frame alive many reads h = subst RestsSecond (sym frame) h
  renewed_second (Err Failed) from now is was frame alive many reads h =
      stays_lost tells was.second_alive is.second_alive was.second is.second (count was.second_copy) (count is.second_copy) pages (read was.plant Ckpt2) (read is.plant Ckpt2) (λ on. absurd (let w = alive on in cc)) (ap (λ (x : Parts P C). x.second_alive) frame) (ap (λ (x : Parts P C). x.second) frame) h
  renewed_second (Err Halted) from now is was frame alive many reads h =
      stays_lost tells was.second_alive is.second_alive was.second is.second (count was.second_copy) (count is.second_copy) pages (read was.plant Ckpt2) (read is.plant Ckpt2) (λ on. absurd (let w = alive on in cc)) (ap (λ (x : Parts P C). x.second_alive) frame) (ap (λ (x : Parts P C). x.second) frame) h

  -- the other copy, whose device stays as it was
  kept_first : (r : Result (Unit {0}) ReplaceNo) (from now : ℕ) (is was : Parts P C) → is ≡ replaced_in r Ckpt2 from now is was → (tells → read is.plant Ckpt1 ≡ read was.plant Ckpt1) → RestsFirst was → RestsFirst is
  kept_first r from now is was frame same h = by r frame where
    stand : is.first_alive ≡ was.first_alive → is.first ≡ was.first → is.first_copy ≡ was.first_copy → RestsFirst is
    stand a p k = stays tells was.first_alive is.first_alive was.first is.first (count was.first_copy) (count is.first_copy) pages (read was.plant Ckpt1) (read is.plant Ckpt1) a p (ap count k) same h

    by : (r : Result (Unit {0}) ReplaceNo) → is ≡ replaced_in r Ckpt2 from now is was → RestsFirst is
    by (Ok u) e = stand (ap (λ (x : Parts P C). x.first_alive) e) (ap (λ (x : Parts P C). x.first) e) (ap (λ (x : Parts P C). x.first_copy) e)
    by (Err NotLost) e = subst RestsFirst (sym e) h
    by (Err BothLost) e = subst RestsFirst (sym e) h
    by (Err NoMemory) e = subst RestsFirst (sym e) h
    by (Err Failed) e = stand (ap (λ (x : Parts P C). x.first_alive) e) (ap (λ (x : Parts P C). x.first) e) (ap (λ (x : Parts P C). x.first_copy) e)
    by (Err Halted) e = stand (ap (λ (x : Parts P C). x.first_alive) e) (ap (λ (x : Parts P C). x.first) e) (ap (λ (x : Parts P C). x.first_copy) e)

  kept_second : (r : Result (Unit {0}) ReplaceNo) (from now : ℕ) (is was : Parts P C) → is ≡ replaced_in r Ckpt1 from now is was → (tells → read is.plant Ckpt2 ≡ read was.plant Ckpt2) → RestsSecond was → RestsSecond is
  kept_second r from now is was frame same h = by r frame where
    stand : is.second_alive ≡ was.second_alive → is.second ≡ was.second → is.second_copy ≡ was.second_copy → RestsSecond is
    stand a p k = stays tells was.second_alive is.second_alive was.second is.second (count was.second_copy) (count is.second_copy) pages (read was.plant Ckpt2) (read is.plant Ckpt2) a p (ap count k) same h

    by : (r : Result (Unit {0}) ReplaceNo) → is ≡ replaced_in r Ckpt1 from now is was → RestsSecond is
    by (Ok u) e = stand (ap (λ (x : Parts P C). x.second_alive) e) (ap (λ (x : Parts P C). x.second) e) (ap (λ (x : Parts P C). x.second_copy) e)
    by (Err NotLost) e = subst RestsSecond (sym e) h
    by (Err BothLost) e = subst RestsSecond (sym e) h
    by (Err NoMemory) e = subst RestsSecond (sym e) h
    by (Err Failed) e = stand (ap (λ (x : Parts P C). x.second_alive) e) (ap (λ (x : Parts P C). x.second) e) (ap (λ (x : Parts P C). x.second_copy) e)
    by (Err Halted) e = stand (ap (λ (x : Parts P C). x.second_alive) e) (ap (λ (x : Parts P C). x.second) e) (ap (λ (x : Parts P C). x.second_copy) e)

  -- both copies after a call that was to replace the one on a device: all other devices stay as they were
  pub both_rest : (r : Result (Unit {0}) ReplaceNo) (from now : ℕ) (is was : Parts P C) (dev : Dev) → IsCkpt dev → is ≡ replaced_in r dev from now is was → (pick dev was.first_alive was.second_alive ≡ true → IsErrOf r NotLost)
      → OnOk r (count (pick dev is.first_copy is.second_copy) ≡ length pages) → OnOk r (tells → read is.plant dev ≡ Some (bytes_of pages)) → (tells → (d : Dev) → d ≢ dev → read is.plant d ≡ read was.plant d)
      → RestsFirst was → RestsSecond was → RestsFirst is × RestsSecond is
  both_rest r from now is was Ckpt1 ckpt frame alive many reads same one two =
      (renewed_first r from now is was frame alive many reads one, kept_second r from now is was frame (λ told. same told Ckpt2 (λ e. absurd (cc))) two)
  both_rest r from now is was Ckpt2 ckpt frame alive many reads same one two =
      (kept_first r from now is was frame (λ told. same told Ckpt1 (λ e. absurd (cc))) one, renewed_second r from now is was frame alive many reads two)
  both_rest r from now is was (Spool n) ckpt frame alive many reads same one two = absurd ckpt
