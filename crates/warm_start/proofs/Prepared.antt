-- A start that reads the spool volumes once it has looked at the copies.
use Rattle.std.proofs.lemmas.List.Elements.{All-weaker}
use Rattle.std.proofs.Common.{◌≡◌, ◌≢◌, inl, inr, ⊎_elim, ℕ, ◌<◌, ◌≤◌, Bool, true, false, List, Option, refl, sym, ◌∙◌, ap, subst, arith}
use Rattle.mas_types.specs.declared.ids.Dev.TheVariants.{Ckpt1, Ckpt2, Spool}
use Rattle.mas_types.specs.declared.jobs.Job.{Job}
use Rattle.mas_types.specs.declared.jobs.Output.{Output as QueueOutput}
use Rattle.mas_types.specs.declared.queues.Queue.{Queue}
use Rattle.mas_types.specs.declared.queues.Thing.TheVariants.{Deck, Output}
use Rattle.spool_plant.specs.declared.plant.Part.TheVariants.{Disk as DiskPart}
use Rattle.spool_plant.specs.View.{View, World, Disk, disk_at, disk_now}
use Rattle.ckpt_copy.specs.Changes.{NoMore}
use Rattle.ckpt_copy.specs.Moments.{either_way, goes_on, sides_on}
use Rattle.ckpt_copy.specs.Pages.{bytes_of}
use Rattle.track_groups.specs.Places.{groups_of}
use Rattle.spool_volumes.specs.Volumes.{volumes_now, bytes_unless, IsSteady}
use Rattle.spool_volumes.specs.Looks.{OnlyLooksAt, LooksAt}
use Rattle.duplex_pair.specs.Halves.{IsGone}
use Rattle.duplex_pair.specs.Both.{PairActed, BothMeanwhile}
use Rattle.duplex_pair.proofs.Composing.{no_more_start}
use Rattle.mas_complex.specs.Texts.{HasTexts, lost_now, spools_at}
use Rattle.mas_complex.proofs.Spooled.{texts_fewer, texts_same}
use Rattle.start_choice.specs.declared.choosing.Start.{Start}
use Rattle.start_choice.specs.declared.choosing.StartNo.{StartNo}
use Rattle.start_choice.specs.declared.choosing.StartNo.TheVariants.{BothLost}
use Rattle.warm_start.specs.Starting.{Chosen, HasGone, IsCauseOf, IsHeld, OnlyLooked, OnlyLookedAtAll, LosesBoth, WhileStarting, mark_of}
use Rattle.warm_start.specs.Spooled.{IsGiven, AreGiven}
use Rattle.warm_start.proofs.Begun.{found_later, gone_on_to, unfit_later}
use Rattle.warm_start.proofs.Spooling.{given_same}
use Rattle.warm_start.proofs.Seeing.{has_later}
use Rattle.warm_start.proofs.Starts.{each_failed, fits_later, held_since, less_held, less_more, no_volume1, no_volume2, starts_looked}

no_volume : (n : ℕ) → Spool n ≢ Ckpt1
no_volume n e = absurd (cc)

no_volume_too : (n : ℕ) → Spool n ≢ Ckpt2
no_volume_too n e = absurd (cc)

-- THE COPIES ARE AS THEY WERE

module _ (tells : Type 0) (mid new : View) (looks : LooksAt tells 0 mid new) where
  same1 : tells → disk_now new Ckpt1 ≡ disk_now mid Ckpt1
  same1 told = (looks.during told).first new.now looks.goes.later (omega arith)

  same2 : tells → disk_now new Ckpt2 ≡ disk_now mid Ckpt2
  same2 told = (looks.during told).second new.now looks.goes.later (omega arith)

  pub gone_read1 : (alive : Bool) → tells → IsGone Ckpt1 true alive mid → IsGone Ckpt1 true alive new
  gone_read1 alive told gone was dead lt = ap (λ (d : Disk). d.lost) (same1 told) ∙ gone was dead (omega (arith, looks.goes.later, lt))

  pub gone_read2 : (alive : Bool) → tells → IsGone Ckpt2 true alive mid → IsGone Ckpt2 true alive new
  gone_read2 alive told gone was dead lt = ap (λ (d : Disk). d.lost) (same2 told) ∙ gone was dead (omega (arith, looks.goes.later, lt))

  -- what was chosen still is
  module _ {C : Type 0} (count room : C → ℕ) (room_most : ℕ) (room_in : List ℕ → ℕ) (ready : C → View → Type 0) (reads : List ℕ → Option (List ℕ)) (rests : C → List ℕ → Disk → Type 0) where
    pub chosen_read : (old : View) (one two : C) (a b : Bool) (f g : ℕ) (start : Start) → (ready one mid → ready one new) → (ready two mid → ready two new)
        → Chosen count room room_most room_in ready reads rests tells old mid one two a b f g start → Chosen count room room_most room_in ready reads rests tells old new one two a b f g start
    chosen_read old one two a b f g start stays1 stays2 x =
        let lost1 = looks.else_lost (DiskPart Ckpt1) no_volume1 in
        let lost2 = looks.else_lost (DiskPart Ckpt2) no_volume2 in
        let gone1 : tells → HasGone Ckpt1 old mid (mark_of mid) → HasGone Ckpt1 old new (mark_of new) =
        (λ told x. gone_on_to Ckpt1 old mid new looks.goes (looks.loses Ckpt1) (λ lt. ap (λ (d : Disk). d.lost) (same1 told) ∙ x.gone (omega (arith, looks.goes.later, lt))) x) in
        let gone2 : tells → HasGone Ckpt2 old mid (mark_of mid) → HasGone Ckpt2 old new (mark_of new) =
        (λ told x. gone_on_to Ckpt2 old mid new looks.goes (looks.loses Ckpt2) (λ lt. ap (λ (d : Disk). d.lost) (same2 told) ∙ x.gone (omega (arith, looks.goes.later, lt))) x) in
        record {
          usable = x.usable;
          sized = x.sized;
          found = λ told. found_later reads old mid new (mark_of mid) (mark_of new) (bytes_of start.found.pages) (gone1 told) (gone2 told) (x.found told);
          fits1 = λ stays alive. fits_later count room room_most ready reads rests tells Ckpt1 mid new one one a a f f start.found.pages refl refl refl lost1 stays1 same1 (x.fits1 stays alive);
          fits2 = λ stays alive. fits_later count room room_most ready reads rests tells Ckpt2 mid new two two b b g g start.found.pages refl refl refl lost2 stays2 same2 (x.fits2 stays alive);
          unfit1 = λ told to_go. unfit_later reads Ckpt1 old mid new (mark_of mid) (mark_of new) (room_in (disk_now old Ckpt1).bytes) start.found.pages (gone1 told) (x.unfit1 told to_go);
          unfit2 = λ told to_go. unfit_later reads Ckpt2 old mid new (mark_of mid) (mark_of new) (room_in (disk_now old Ckpt2).bytes) start.found.pages (gone2 told) (x.unfit2 told to_go);
          one = ⊎_elim
              (λ h. inl (h.0, has_later count room room_most ready reads rests tells Ckpt1 mid new one a f lost1 stays1 same1 start.found.pages h.1))
              (λ h. inr (h.0, has_later count room room_most ready reads rests tells Ckpt2 mid new two b g lost2 stays2 same2 start.found.pages h.1))
              x.one;
        }

-- MOMENTS

-- looks at the copies, and then at the volumes
pub looked_all : (old mid new : View) → OnlyLooked old mid → OnlyLooksAt mid new → OnlyLookedAtAll old new
looked_all old mid new x y = record {
  goes = goes_on old mid new x.goes y.goes;
  first = λ t le ge. ⊎_elim
      (λ (h : t ≤ mid.now). subst (λ (w : World). NoMore (disk_now old Ckpt1) (w.disk Ckpt1)) (sym (y.goes.past t h)) (x.first t le h))
      (λ (h : mid.now < t). subst (NoMore (disk_now old Ckpt1)) (sym (y.first t (omega arith) ge)) (x.first mid.now x.goes.later (omega arith)))
      (either_way t mid.now);
  second = λ t le ge. ⊎_elim
      (λ (h : t ≤ mid.now). subst (λ (w : World). NoMore (disk_now old Ckpt2) (w.disk Ckpt2)) (sym (y.goes.past t h)) (x.second t le h))
      (λ (h : mid.now < t). subst (NoMore (disk_now old Ckpt2)) (sym (y.second t (omega arith) ge)) (x.second mid.now x.goes.later (omega arith)))
      (either_way t mid.now);
  volumes = λ t le ge n. ⊎_elim
      (λ (h : t ≤ mid.now). subst (λ (w : World). NoMore (disk_now old (Spool n)) (w.disk (Spool n))) (sym (y.goes.past t h)) (same_more n t (x.others t le h (Spool n) (no_volume n) (no_volume_too n))))
      (λ (h : mid.now < t). subst (λ (d : Disk). NoMore d (disk_at new t (Spool n))) (x.others mid.now x.goes.later (omega arith) (Spool n) (no_volume n) (no_volume_too n)) (y.volumes t (omega arith) ge n))
      (either_way t mid.now);
  console = λ t le ge. ⊎_elim
      (λ (h : t ≤ mid.now). ap (λ (w : World). w.console) (y.goes.past t h) ∙ x.console t le h)
      (λ (h : mid.now < t). y.console t (omega arith) ge ∙ x.console mid.now x.goes.later (omega arith))
      (either_way t mid.now);
  sides = sides_on old mid new x.goes y.goes x.sides y.sides;
} where
  same_more : (n t : ℕ) → disk_at mid t (Spool n) ≡ disk_now old (Spool n) → NoMore (disk_now old (Spool n)) (disk_at mid t (Spool n))
  same_more n t same = subst (NoMore (disk_now old (Spool n))) (sym same) (no_more_start (disk_now old (Spool n)))

-- looks at the copies alone
pub looked_only : (old new : View) → OnlyLooked old new → OnlyLookedAtAll old new
looked_only old new x = record {
  goes = x.goes;
  first = x.first;
  second = x.second;
  volumes = λ t le ge n. subst (NoMore (disk_now old (Spool n))) (sym (x.others t le ge (Spool n) (no_volume n) (no_volume_too n))) (no_more_start (disk_now old (Spool n)));
  console = x.console;
  sides = x.sides;
}

-- both copies are lost where looks at them find it so
pub starts_lost : (reads : List ℕ → Option (List ℕ)) (tells : Type 0) (needs : ℕ → ℕ) (old v : View) (a b : Bool) (why : StartNo) → PairActed 0 true a true b false old v → IsCauseOf reads tells needs old v a b why → why ≡ BothLost → LosesBoth old v
starts_lost reads tells needs old v a b why acted cause is =
    let both : (a ≡ false) × (b ≡ false) = subst (λ (w : StartNo). IsCauseOf reads tells needs old v a b w) is cause in
    let lost : PairActed 0 true false true false false old v = subst (λ (x : Bool). PairActed 0 true x true false false old v) both.0 (subst (λ (y : Bool). PairActed 0 true a true y false old v) both.1 acted) in
    record { starts = starts_looked old v false false lost (λ e. absurd (cc)) (λ e. absurd (cc)); failed = each_failed old v (acted.failed1 refl both.0) (acted.failed2 refl both.1); one = inl (acted.loses Ckpt1) }

-- images of the copies, from the looks on
pub held_all : (reads : List ℕ → Option (List ℕ)) (found : List ℕ) (old mid new : View) → OnlyLookedAtAll old mid → BothMeanwhile (IsHeld reads (disk_now mid Ckpt1) found) (IsHeld reads (disk_now mid Ckpt2) found) mid new
    → WhileStarting (IsHeld reads (disk_now old Ckpt1) found) (IsHeld reads (disk_now old Ckpt2) found) old new
held_all reads found old mid new x y =
    let d1 = disk_now old Ckpt1 in
    let d2 = disk_now old Ckpt2 in
    let m1 = disk_now mid Ckpt1 in
    let m2 = disk_now mid Ckpt2 in
    record {
      goes = goes_on old mid new x.goes y.goes;
      first = λ t le ge. ⊎_elim
          (λ (h : t ≤ mid.now). subst (λ (w : World). IsHeld reads d1 found (w.disk Ckpt1)) (sym (y.goes.past t h)) (less_held reads d1 (disk_at mid t Ckpt1) found (less_more d1 (disk_at mid t Ckpt1) (x.first t le h))))
          (λ (h : mid.now < t). held_since reads d1 m1 (disk_at new t Ckpt1) found (less_more d1 m1 (x.first mid.now x.goes.later (omega arith))) (y.first t (omega arith) ge))
          (either_way t mid.now);
      second = λ t le ge. ⊎_elim
          (λ (h : t ≤ mid.now). subst (λ (w : World). IsHeld reads d2 found (w.disk Ckpt2)) (sym (y.goes.past t h)) (less_held reads d2 (disk_at mid t Ckpt2) found (less_more d2 (disk_at mid t Ckpt2) (x.second t le h))))
          (λ (h : mid.now < t). held_since reads d2 m2 (disk_at new t Ckpt2) found (less_more d2 m2 (x.second mid.now x.goes.later (omega arith))) (y.second t (omega arith) ge))
          (either_way t mid.now);
      volumes = λ t le ge n. ⊎_elim
          (λ (h : t ≤ mid.now). subst (λ (w : World). NoMore (disk_now old (Spool n)) (w.disk (Spool n))) (sym (y.goes.past t h)) (x.volumes t le h n))
          (λ (h : mid.now < t). subst (NoMore (disk_now old (Spool n))) (sym (y.others t (omega arith) ge (Spool n) (no_volume n) (no_volume_too n))) (x.volumes mid.now x.goes.later (omega arith) n))
          (either_way t mid.now);
      console = λ t le ge. ⊎_elim
          (λ (h : t ≤ mid.now). ap (λ (w : World). w.console) (y.goes.past t h) ∙ x.console t le h)
          (λ (h : mid.now < t). y.console t (omega arith) ge ∙ x.console mid.now x.goes.later (omega arith))
          (either_way t mid.now);
      sides = sides_on old mid new x.goes y.goes x.sides y.sides;
    }

-- texts stay while the copies are written
pub texts_left : (per : ℕ) (Q : Queue) (P R : Disk → Type 0) (mid new : View) → BothMeanwhile P R mid new → HasTexts (lost_now mid) (spools_at mid mid.now) per Q → HasTexts (lost_now new) (spools_at new new.now) per Q
texts_left per Q P R mid new held has =
    texts_same per (spools_at mid mid.now) (spools_at new new.now) (lost_now new) Q (λ n. held.others new.now held.goes.later (omega arith) (Spool n) (no_volume n) (no_volume_too n))
    (texts_fewer (lost_now mid) (lost_now new) (spools_at mid mid.now) per Q (λ n lost. held.goes.lost (DiskPart (Spool n)) lost) has)

-- the volumes give a queue's texts at any time at which they give the same bytes
pub given_alike : (per : ℕ) (Q : Queue) (v w : View) → ((n : ℕ) → volumes_now w n ≡ volumes_now v n) → AreGiven v per Q → AreGiven w per Q
given_alike per Q v w same given = record {
  decks = All-weaker (λ (j : Job). IsGiven v per j.text (groups_of (Deck j.number) Q.owners)) (λ (j : Job). IsGiven w per j.text (groups_of (Deck j.number) Q.owners))
      (λ j was. given_same v w per j.text (groups_of (Deck j.number) Q.owners) same was) Q.jobs given.decks;
  outputs = All-weaker (λ (o : QueueOutput). IsGiven v per o.text (groups_of (Output o.job o.index) Q.owners)) (λ (o : QueueOutput). IsGiven w per o.text (groups_of (Output o.job o.index) Q.owners))
      (λ o was. given_same v w per o.text (groups_of (Output o.job o.index) Q.owners) same was) Q.outputs given.outputs;
}

pub given_kept : (per : ℕ) (Q : Queue) (P R : Disk → Type 0) (mid new : View) → BothMeanwhile P R mid new → IsSteady mid new → AreGiven mid per Q → AreGiven new per Q
given_kept per Q P R mid new held steady given = given_alike per Q mid new same given where
  same : (n : ℕ) → volumes_now new n ≡ volumes_now mid n
  same n =
      ap (λ (b : Bool). bytes_unless b (disk_now new (Spool n)).bytes) (steady n)
      ∙ ap (λ (d : Disk). bytes_unless (mid.lost (DiskPart (Spool n))) d.bytes) (held.others new.now held.goes.later (omega arith) (Spool n) (no_volume n) (no_volume_too n))

-- what the volumes give after the start is what they gave before it
pub given_before : (per : ℕ) (Q : Queue) (P R : Disk → Type 0) (old new : View) → WhileStarting P R old new → IsSteady old new → AreGiven new per Q → AreGiven old per Q
given_before per Q P R old new held steady given = given_alike per Q new old same given where
  same : (n : ℕ) → volumes_now old n ≡ volumes_now new n
  same n =
      sym
      (ap (λ (b : Bool). bytes_unless b (disk_now new (Spool n)).bytes) (steady n)
      ∙ ap (bytes_unless (old.lost (DiskPart (Spool n)))) (held.volumes new.now held.goes.later (omega arith) n).bytes)
