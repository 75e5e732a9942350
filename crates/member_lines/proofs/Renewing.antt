-- A member that was to replace a copy: its seat, what its line leaves, and what is as it was.
use Rattle.std.proofs.Common.{◌≡◌, ◌≢◌, ◌∙◌, ◌++◌, ◌≤◌, ◌*◌, ℕ, Bool, List, length, Option, None, Result, Ok, Err, ap, inr, refl, subst, sym, arith}
use Rattle.mas_types.specs.declared.answers.Closing.{Closing}
use Rattle.mas_types.specs.declared.ids.Dev.{Dev}
use Rattle.mas_types.specs.declared.ids.Dev.TheVariants.{Ckpt1, Ckpt2, Spool}
use Rattle.mas_types.specs.declared.ids.MemberId.{MemberId}
use Rattle.mas_types.specs.declared.ids.Page.{Page}
use Rattle.mas_types.specs.declared.journals.Batch.{Batch}
use Rattle.mas_types.specs.declared.journals.Entry.{Entry}
use Rattle.mas_types.specs.declared.queues.Config.{Config}
use Rattle.mas_types.specs.declared.queues.Queue.{Queue}
use Rattle.mas_types.specs.Closings.{AreMembersNamed}
use Rattle.mas_types.specs.Limits.{page_bytes}
use Rattle.lock_cycle.specs.Books.{Book, after_stop}
use Rattle.spool_plant.specs.declared.plant.Part.TheVariants.{Disk as DiskPart}
use Rattle.spool_plant.specs.declared.plant.Plant.{Ghosts as PlantGhosts}
use Rattle.spool_plant.specs.View.{View}
use Rattle.spool_volumes.specs.Volumes.{AreRoomy}
use Rattle.ckpt_copy.specs.declared.copying.Copying.{Ghosts as CopyGhosts}
use Rattle.mas_complex.specs.ReplaceNo.{ReplaceNo}
use Rattle.mas_complex.specs.ReplaceNo.TheVariants as no
use Rattle.duplex_pair.specs.Halves.{IsCkpt, pick}
use Rattle.mas_complex.specs.Replacing.{Replaces}
use Rattle.mas_complex.specs.Journals.{AreSettled}
use Rattle.mas_complex.specs.Locking.{reserved_after_stop}
use Rattle.mas_complex.specs.Parts.{Parts, replaced_in}
use Rattle.member_node.specs.declared.member.Member.{Member}
use Rattle.member_node.specs.declared.member.NodeNo.{NodeNo}
use Rattle.member_node.specs.declared.member.NodeNo.TheVariants.{BothLost, ConsoleFault, Halted, NoMemory}
use Rattle.member_node.specs.Calls.{console_now}
use Rattle.member_node.specs.Reads.{AreLow}
use Rattle.member_node.specs.Wanted.{HasHad}
use Rattle.member_steps.proofs.FateLemmas.{settled_later}
use Rattle.member_steps.proofs.ReadLemmas.{between_by}
use Rattle.member_sittings.specs.Sat.{seated_in}
use Rattle.member_sittings.specs.Whole.{HoldsLock, IsAtRest, IsSeat, first_half, second_half}
use Rattle.step_turns.specs.declared.states.Grant.{Grant}
use Rattle.step_turns.specs.declared.states.Grant.TheVariants.{ByLock, ForStep}
use Rattle.step_turns.specs.declared.states.Holder.{Holder}
use Rattle.step_turns.specs.declared.states.Release.{Release}
use Rattle.step_turns.specs.declared.states.State.TheVariants.{Told}
use Rattle.step_turns.specs.Sittings.{released}
use Rattle.run_turns.specs.Admissions.{Replaces as ReplacesCopy}
use Rattle.run_turns.specs.Cuts.{Left}
use Rattle.run_turns.specs.Pieces.{holder_of, replaced_closing}
use Rattle.run_turns.specs.Scenes.{Scene}
use Rattle.run_turns.specs.Sights.{Cut, LostAgain, NotLost, Renewed, Replaced}
use Rattle.member_lines.specs.Closes.{HasClosedBy, ended_by, failed, holds_at, stopped_so}
use Rattle.member_lines.specs.Replaces.{IsTestedAs, MayBeAt, left_found, replacing_in}
use Rattle.member_lines.proofs.Holding.{is_empty}

-- WHAT THE LINE SAYS names no member
pub closing_named : (dev : Dev) (found : Renewed) → AreMembersNamed (replaced_closing dev found)
closing_named dev Replaced = tt
closing_named dev NotLost = tt
closing_named dev LostAgain = tt

-- a thing of the copy on a device, by that of both
pub picked : {A B : Type 0} (f : A → B) (dev : Dev) (h k : A) → f (pick dev h k) ≡ pick dev (f h) (f k)
picked f Ckpt1 h k = refl
picked f Ckpt2 h k = refl
picked f (Spool n) h k = refl

-- no copy's device is a volume
pub apart_volume : (dev : Dev) (n : ℕ) → IsCkpt dev → DiskPart (Spool n) ≢ DiskPart dev
apart_volume Ckpt1 n ckpt is = absurd (cc)
apart_volume Ckpt2 n ckpt is = absurd (cc)
apart_volume (Spool m) n ckpt is = absurd ckpt

-- WHAT A LINE LEAVES by a cut, at a scene at which it was tested so: what one of the lock's holder leaves
module _ (S : Scene) (by : MemberId) (h : Holder) (dev : Dev) (b : Book) (tested : IsTestedAs S by h dev b) (found : Renewed) where
  abbrev end : Closing
  end = replaced_closing dev found

  abbrev held : Scene → Book → Holder → Option Cut → Left
  held Z c k cut = holds_at by h.step end Z c (released k.grant k.hold 0 Told) cut

  pub replaces_as : (cut : Option Cut) → left_found S by h.step dev found cut ≡ holds_at by h.step end S b (released h.grant h.hold 0 Told) cut
  replaces_as cut =
      ap (λ (Z : Scene). left_found Z by h.step dev found cut) (is_empty S (tested.tested.flight refl))
      ∙ ap (λ (c : Book). held S c (holder_of S by h.step (ReplacesCopy dev)) cut) tested.tested.book
      ∙ ap (λ (k : Holder). held S b k cut) tested.holder

-- a line that closed so, by another name of what it leaves
module _ {P C : Type 0} (plants : PlantGhosts P) (left it : Option Cut → Left) (same : (cut : Option Cut) → it cut ≡ left cut) (by : MemberId) (x y : Parts P C) (r : Result (Unit {0}) NodeNo) where
  pub closed_as : HasClosedBy plants left by x y r → HasClosedBy plants it by x y r
  closed_as h = record {
    acts = h.acts;
    spares = h.spares;
    cause = h.cause;
    book = λ cut is. h.book cut is ∙ sym (ap (λ (l : Left). l.book) (same cut));
    console = λ t. record {
      cut = (h.console t).cut;
      is_cut = (h.console t).is_cut;
      lines = (h.console t).lines ∙ ap (λ (l : Left). console_now (plants.view x.plant) ++ l.lines) (sym (same (h.console t).cut));
    };
  }

-- WHAT IS AS IT WAS

module _ {P C : Type 0} where
  -- all but the book and what was noted, of what a replacement leaves
  abbrev pub renewed_in : Parts P C → Parts P C → Parts P C
  renewed_in is was = record (replacing_in is was) { book = was.book; had = was.had }

  pub renewed_rest : (r : Result (Unit {0}) ReplaceNo) (dev : Dev) (from now : ℕ) (y x : Parts P C) → y ≡ replaced_in r dev from now y x → y ≡ renewed_in y x
  renewed_rest (Ok value) dev from now y x e = e ∙ ap (λ (z : Parts P C). renewed_in z x) (sym e)
  renewed_rest (Err no.NotLost) dev from now y x e = e ∙ ap (λ (z : Parts P C). renewed_in z x) (sym e)
  renewed_rest (Err no.BothLost) dev from now y x e = e ∙ ap (λ (z : Parts P C). renewed_in z x) (sym e)
  renewed_rest (Err no.NoMemory) dev from now y x e = e ∙ ap (λ (z : Parts P C). renewed_in z x) (sym e)
  renewed_rest (Err no.Failed) dev from now y x e = e ∙ ap (λ (z : Parts P C). renewed_in z x) (sym e)
  renewed_rest (Err no.Halted) dev from now y x e = e ∙ ap (λ (z : Parts P C). renewed_in z x) (sym e)

  -- a member that was stopped had nothing reserved
  pub stopped_keeps : (why : NodeNo) (by : MemberId) (x y : Parts P C) → x.reserved ≡ None → y ≡ stopped_so (failed why) by x → y ≡ record x { plant = y.plant; book = y.book }
  stopped_keeps Halted by x y none e =
      let still : reserved_after_stop by x.reserved ≡ x.reserved = ap (reserved_after_stop by) none ∙ sym none in
      let is : y ≡ record x { book = after_stop x.book by } = e ∙ ap (λ (rs : Option (List Entry)). record x { book = after_stop x.book by; reserved = rs }) still in
      is ∙ ap (λ (z : Parts P C). record x { plant = z.plant; book = z.book }) (sym is)
  stopped_keeps BothLost by x y none e = e ∙ ap (λ (z : Parts P C). record x { plant = z.plant; book = z.book }) (sym e)
  stopped_keeps ConsoleFault by x y none e = e ∙ ap (λ (z : Parts P C). record x { plant = z.plant; book = z.book }) (sym e)
  stopped_keeps NoMemory by x y none e = e ∙ ap (λ (z : Parts P C). record x { plant = z.plant; book = z.book }) (sym e)

  -- nor had one that said its line, and left the lock or kept it
  pub ended_keeps : (r : Result (Unit {0}) NodeNo) (by : MemberId) (release : Release) (x y : Parts P C) → x.reserved ≡ None → y ≡ ended_by r by release (record x { plant = y.plant }) → y ≡ record x { plant = y.plant; book = y.book }
  ended_keeps (Ok value) by release x y none e = e ∙ ap (λ (z : Parts P C). record x { plant = y.plant; book = z.book }) (sym e)
  ended_keeps (Err why) by release x y none e = stopped_keeps why by (record x { plant = y.plant }) y none e

  -- a replacement, and what follows it
  pub follows_in : (x z y : Parts P C) → z ≡ renewed_in z x → y ≡ record z { plant = y.plant; book = y.book } → y ≡ replacing_in y x
  follows_in x z y one two =
      let is : y ≡ record (renewed_in z x) { plant = y.plant; book = y.book } = two ∙ ap (λ (w : Parts P C). record w { plant = y.plant; book = y.book }) one in
      is ∙ ap (λ (w : Parts P C). replacing_in w x) (sym is)

  -- and a seat that wasn't had
  pub unseated_in : (x z y : Parts P C) → z ≡ seated_in z x → y ≡ record z { plant = y.plant; book = y.book } → y ≡ replacing_in y x
  unseated_in x z y one two =
      let is : y ≡ record (seated_in z x) { plant = y.plant; book = y.book } = two ∙ ap (λ (w : Parts P C). record w { plant = y.plant; book = y.book }) one in
      is ∙ ap (λ (w : Parts P C). replacing_in w x) (sym is)

  pub then_replaced : (x z y : Parts P C) → z ≡ seated_in z x → y ≡ replacing_in y z → y ≡ replacing_in y x
  then_replaced x z y one two = two ∙ ap (λ (w : Parts P C). replacing_in y w) one

-- THE SEAT, which the member has still
module _ {P C : Type 0} (plants : PlantGhosts P) (copies : CopyGhosts C) (by : ℕ) (m : Member) (dev : Dev) (ckpt : IsCkpt dev) (stopped : Bool) (x y : Parts P C) (rest : y ≡ renewed_in y x)
    (replaces : Replaces by dev stopped (plants.view x.plant) (plants.view y.plant)) where
  abbrev V : View
  V = plants.view x.plant

  abbrev W : View
  W = plants.view y.plant

  base : y.base ≡ x.base
  base = ap (λ (z : Parts P C). z.base) rest

  config : y.base.config ≡ x.base.config
  config = ap (λ (Q : Queue). Q.config) base

  batches : y.batches ≡ x.batches
  batches = ap (λ (z : Parts P C). z.batches) rest

  current : y.current ≡ x.current
  current = ap (λ (z : Parts P C). z.current) rest

  placed : y.placed ≡ x.placed
  placed = ap (λ (z : Parts P C). z.placed) rest

  roomy : (c : Config) → AreRoomy V c → AreRoomy W c
  roomy c has n some few there =
      subst (λ (size : ℕ). page_bytes * c.groups ≤ size) (sym (replaces.size (Spool n)))
      (has n some few (sym (replaces.else_lost (DiskPart (Spool n)) (apart_volume dev n ckpt)) ∙ there))

  pub seat_stays : IsSeat plants copies x m → IsAtRest plants.tells (first_half plants copies y) m.checkpoint.pages → IsAtRest plants.tells (second_half plants copies y) m.checkpoint.pages → IsSeat plants copies y m
  seat_stays s first second = record {
    still = record {
      holds = subst (λ (b : Book). HoldsLock b y.base.config m.id) (sym (ap (λ (z : Parts P C). z.book) rest)) (subst (λ (c : Config). HoldsLock x.book c m.id) (sym config) s.still.holds);
      none = current ∙ s.still.none;
      unreserved = ap (λ (z : Parts P C). z.reserved) rest ∙ s.still.unreserved;
      unplaced = placed ∙ s.still.unplaced;
      here = s.still.here;
      many = s.still.many;
      config = config ∙ s.still.config;
      first = first;
      second = second;
      kept = subst (λ (bs : List Batch). AreSettled bs W.now) (sym batches) (settled_later x.batches V.now W.now replaces.later s.still.kept);
      begun = let later = replaces.later in let begun = s.still.begun in subst (λ (since : ℕ). since ≤ W.now) (sym (ap (λ (z : Parts P C). z.since) rest)) (omega (arith, begun, later));
      roomy = λ t. subst (AreRoomy W) (sym config) (roomy x.base.config (s.still.roomy t));
      noted = subst (λ (h : List (List Page)). HasHad plants.tells m.fresh h m.id.0 m.checkpoint.pages) (sym (ap (λ (z : Parts P C). z.had) rest)) s.still.noted;
    };
    between = between_by plants.tells x y m.batch m.checkpoint base batches current placed (ap (λ (z : Parts P C). z.level) rest) s.between;
    low = λ t. subst (λ (c : Config). AreLow c (length y.batches) m.checkpoint.tables) (sym config) (subst (λ (bs : List Batch). AreLow x.base.config (length bs) m.checkpoint.tables) (sym batches) (s.low t));
  }

-- BEFORE IT: a member that may be given its seat, or has it
module _ {P C : Type 0} (plants : PlantGhosts P) (copies : CopyGhosts C) where
  pub at_holds : (grant : Grant) (x : Parts P C) (m : Member) → MayBeAt plants copies grant x m → HoldsLock x.book x.base.config m.id
  at_holds ForStep x m at = at.holds
  at_holds ByLock x m at = at.seat.still.holds

  pub at_unreserved : (grant : Grant) (x : Parts P C) (m : Member) → MayBeAt plants copies grant x m → x.reserved ≡ None
  at_unreserved ForStep x m at = at.unreserved
  at_unreserved ByLock x m at = at.seat.still.unreserved
