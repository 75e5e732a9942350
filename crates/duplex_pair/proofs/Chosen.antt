-- What looks at both copies give.
use Rattle.std.proofs.Common.{◌≡◌, ◌≢◌, inl, inr, ℕ, ◌≤◌, ◌<◌, nat_lt, not, ◌&&◌, Bool, true, false, if◌then◌else◌, List, [], length, Option, IfOk, IsErrOf, refl, sym, ◌∙◌, ap, subst, arith}
use Rattle.std.proofs.lemmas.Bool.Decides.{nat_tests}
use Rattle.mas_types.specs.declared.ids.Dev.{Dev}
use Rattle.mas_types.specs.declared.ids.Dev.TheVariants.{Ckpt1, Ckpt2}
use Rattle.mas_types.specs.declared.ids.Page.{Page}
use Rattle.spool_plant.specs.declared.plant.Part.TheVariants.{Disk as DiskPart}
use Rattle.spool_plant.specs.View.{View, Disk, disk_now}
use Rattle.ckpt_copy.specs.Changes.{NoMore}
use Rattle.ckpt_copy.specs.Pages.{bytes_of, level}
use Rattle.ckpt_copy.specs.Reading.{IsNone}
use Rattle.duplex_pair.specs.declared.errors.Look.{Look}
use Rattle.duplex_pair.specs.declared.errors.Look.TheVariants.{Lost, Unread, Pages}
use Rattle.duplex_pair.specs.declared.errors.PairFindNo.TheVariants.{NotValid}
use Rattle.duplex_pair.specs.Looks.{WasFound, WasSeen}
use Rattle.duplex_pair.specs.Lagging.{IsLevelFound}
use Rattle.duplex_pair.specs.Founds.{chosen, has_pages, goes_away, WasChosen}
use Rattle.duplex_pair.specs.Both.{BothMeanwhile}
use Rattle.duplex_pair.proofs.Composing.{no, both_then}

no_more_then : (a b c : Disk) → NoMore a b → NoMore b c → NoMore a c
no_more_then a b c x y = record { bytes = y.bytes ∙ x.bytes; unsynced = λ s avoids. y.unsynced s (x.unsynced s avoids); there = λ is. x.there (y.there is) }

-- two calls that change no byte
pub more_then : (old mid new : View) → BothMeanwhile (NoMore (disk_now old Ckpt1)) (NoMore (disk_now old Ckpt2)) old mid → BothMeanwhile (NoMore (disk_now mid Ckpt1)) (NoMore (disk_now mid Ckpt2)) mid new
    → BothMeanwhile (NoMore (disk_now old Ckpt1)) (NoMore (disk_now old Ckpt2)) old new
more_then old mid new x y =
    let one : NoMore (disk_now old Ckpt1) (disk_now mid Ckpt1) = x.first mid.now x.goes.later (omega arith) in
    let two : NoMore (disk_now old Ckpt2) (disk_now mid Ckpt2) = x.second mid.now x.goes.later (omega arith) in
    both_then (NoMore (disk_now old Ckpt1)) (NoMore (disk_now old Ckpt2)) old mid new x (record {
      goes = y.goes;
      first = λ t from le. no_more_then (disk_now old Ckpt1) (disk_now mid Ckpt1) ((new.world t).disk Ckpt1) one (y.first t from le);
      second = λ t from le. no_more_then (disk_now old Ckpt2) (disk_now mid Ckpt2) ((new.world t).disk Ckpt2) two (y.second t from le);
      others = y.others;
      console = y.console;
      sides = y.sides;
      waiting = y.waiting;
    })

module _ {C : Type 0} (count room : C → ℕ) (room_most : ℕ) (ready : C → View → Type 0) (reads : List ℕ → Option (List ℕ)) (rests : C → List ℕ → Disk → Type 0) (tells : Type 0) where
  -- a copy after the find, by what was seen of it and of the other
  abbrev After : Dev → View → C → Bool → ℕ → Look → Look → Type 0
  After dev v copy alive found Lost other = alive ≡ false
  After dev v copy alive found Unread other = has_pages other ≡ true → alive ≡ false
  After dev v copy alive found (Pages own) other = WasFound count room room_most ready rests tells dev v copy alive own × (found ≡ level (bytes_of own))

  module _ (dev : Dev) (v w : View) (was copy copy' : C) (alive alive' : Bool) (found found' : ℕ) (same_copy : copy' ≡ copy) (same_found : found' ≡ found) where
    pub after_seen : (look other : Look) → WasSeen count room room_most ready reads rests tells dev v was copy alive look → IsLevelFound look found
        → (goes_away look other ≡ true → alive' ≡ false) → (goes_away look other ≡ false → alive' ≡ alive) → (alive' ≡ true → alive ≡ true) → (goes_away look other ≡ false → w.lost (DiskPart dev) ≡ v.lost (DiskPart dev)) → (ready copy v → ready copy' w) → (goes_away look other ≡ false → tells → disk_now w dev ≡ disk_now v dev)
        → After dev w copy' alive' found' look other
    after_seen Lost other seen at goes stays less lost ready disk = by_alive alive' less seen.is_dead where
      by_alive : (b : Bool) → (b ≡ true → alive ≡ true) → alive ≡ false → b ≡ false
      by_alive false f dead = refl
      by_alive true f dead = absurd (no alive (f refl) dead)
    after_seen Unread other seen at goes stays less lost ready disk = λ is. goes is
    after_seen (Pages own) other seen at goes stays less lost ready disk = (
      record {
        is_alive = stays refl ∙ seen.is_alive;
        there = lost refl ∙ seen.there;
        as_many = subst (λ (x : C). count x ≡ length own) (sym same_copy) seen.as_many;
        has_room = subst (λ (x : C). room x ≤ room_most) (sym same_copy) seen.has_room;
        is_ready = ready seen.is_ready;
        found = λ told. subst (λ (x : C). rests x (bytes_of own) (disk_now w dev)) (sym same_copy) (subst (λ (d : Disk). rests copy (bytes_of own) d) (sym (disk refl told)) (seen.found told));
        settled = λ told. subst (λ (d : Disk). d.unsynced ≡ []) (sym (disk refl told)) (seen.settled told);
      },
      same_found ∙ at,
    )

  module _ (v : View) (first second : C) (alive1 alive2 : Bool) (found1 found2 : ℕ) where
    abbrev Are : List Page → Type 0
    Are pages = WasChosen count room room_most ready rests tells v first alive1 found1 second alive2 found2 pages

    abbrev On1 : List Page → Type 0
    On1 own = WasFound count room room_most ready rests tells Ckpt1 v first alive1 own × (found1 ≡ level (bytes_of own))

    abbrev On2 : List Page → Type 0
    On2 own = WasFound count room room_most ready rests tells Ckpt2 v second alive2 own × (found2 ≡ level (bytes_of own))

    from_first : (one : List Page) → On1 one → alive2 ≡ false → Are one
    from_first one x dead = record { on_first = λ is. record { own = one; was = x.0; at = x.1 }; on_second = λ is. absurd (no alive2 is dead); from = inl (x.0, x.1, λ is. absurd (no alive2 is dead)) }

    from_second : (two : List Page) → On2 two → alive1 ≡ false → Are two
    from_second two y dead = record { on_first = λ is. absurd (no alive1 is dead); on_second = λ is. record { own = two; was = y.0; at = y.1 }; from = inr (y.0, y.1, λ is. absurd (no alive1 is dead)) }

    from_both : (one two : List Page) → On1 one → On2 two → (b : Bool) → nat_lt (level (bytes_of one)) (level (bytes_of two)) ≡ b → Are (if b then two else one)
    from_both one two x y true e = let lt : level (bytes_of one) < level (bytes_of two) = grind (arith, nat_tests) in record { on_first = λ is. record { own = one; was = x.0; at = x.1 }; on_second = λ is. record { own = two; was = y.0; at = y.1 }; from = inr (y.0, y.1, λ is. omega (arith, x.1, y.1, lt)) }
    from_both one two x y false e = let le : level (bytes_of two) ≤ level (bytes_of one) = grind (arith, nat_tests) in record { on_first = λ is. record { own = one; was = x.0; at = x.1 }; on_second = λ is. record { own = two; was = y.0; at = y.1 }; from = inl (x.0, x.1, λ is. omega (arith, x.1, y.1, le)) }

    pub chosen_found : (one two : Look) → After Ckpt1 v first alive1 found1 one two → After Ckpt2 v second alive2 found2 two one → IfOk (chosen one two) Are
    chosen_found (Pages one) (Pages two) x y = from_both one two x y (nat_lt (level (bytes_of one)) (level (bytes_of two))) refl
    chosen_found (Pages one) Lost x y = from_first one x y
    chosen_found (Pages one) Unread x y = from_first one x (y refl)
    chosen_found Lost (Pages two) x y = from_second two y x
    chosen_found Unread (Pages two) x y = from_second two y (x refl)
    chosen_found Lost Lost x y = tt
    chosen_found Lost Unread x y = tt
    chosen_found Unread Lost x y = tt
    chosen_found Unread Unread x y = tt

  pub none_first : (dev : Dev) (v w : View) (was copy : C) (alive alive' : Bool) (one two : Look) → IsErrOf (chosen one two) NotValid → WasSeen count room room_most ready reads rests tells dev v was copy alive one → (alive' ≡ true → alive ≡ true) → alive' ≡ true → tells
      → (goes_away one two ≡ false → disk_now w dev ≡ disk_now v dev) → IsNone reads (disk_now w dev)
  none_first dev v w was copy alive alive' (Pages one) (Pages two) err seen less is told disk = absurd (cc)
  none_first dev v w was copy alive alive' (Pages one) Lost err seen less is told disk = absurd (cc)
  none_first dev v w was copy alive alive' (Pages one) Unread err seen less is told disk = absurd (cc)
  none_first dev v w was copy alive alive' Lost two err seen less is told disk = absurd (no alive (less is) seen.is_dead)
  none_first dev v w was copy alive alive' Unread (Pages two) err seen less is told disk = absurd (cc)
  none_first dev v w was copy alive alive' Unread Lost err seen less is told disk = subst (λ (d : Disk). IsNone reads d) (sym (disk refl)) (seen.none told)
  none_first dev v w was copy alive alive' Unread Unread err seen less is told disk = subst (λ (d : Disk). IsNone reads d) (sym (disk refl)) (seen.none told)

-- no copy reads, whichever is named first
pub none_swapped : (one two : Look) → IsErrOf (chosen one two) NotValid → IsErrOf (chosen two one) NotValid
none_swapped (Pages one) (Pages two) err = absurd (cc)
none_swapped (Pages one) Lost err = absurd (cc)
none_swapped (Pages one) Unread err = absurd (cc)
none_swapped Lost (Pages two) err = absurd (cc)
none_swapped Lost Lost err = err
none_swapped Lost Unread err = err
none_swapped Unread (Pages two) err = absurd (cc)
none_swapped Unread Lost err = err
none_swapped Unread Unread err = err

-- a copy that counts as alive, except those that go
pub alive_goes : (a c x : Bool) → x ≡ (a && not c) → c ≡ true → x ≡ false
alive_goes true c x e is = e ∙ ap not is
alive_goes false c x e is = e

pub alive_stays : (a c x : Bool) → x ≡ (a && not c) → c ≡ false → x ≡ a
alive_stays true c x e is = e ∙ ap not is
alive_stays false c x e is = e

pub alive_less : (a c x : Bool) → x ≡ (a && not c) → x ≡ true → a ≡ true
alive_less true c x e is = refl
alive_less false c x e is = sym e ∙ is

pub part12 : DiskPart Ckpt1 ≢ DiskPart Ckpt2
part12 e = absurd (cc)

pub part21 : DiskPart Ckpt2 ≢ DiskPart Ckpt1
part21 e = absurd (cc)
