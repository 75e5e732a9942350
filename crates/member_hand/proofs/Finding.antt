-- What was found in the acts that a step waited for: it is such as may be found there, and the step may go on with it.
use Rattle.std.proofs.Common.{◌≡◌, ◌≢◌, ⊎_elim, ℕ, Bool, true, false, List, [], All, Option, Some, None, Ok, refl, sym, ap, ◌∙◌, subst, arith}
use Rattle.std.specs.Prelude.{IfSome, not}
use Rattle.std.proofs.lemmas.List.Elements.{All-nil}
use Rattle.std.proofs.lemmas.Bool.{ne_eqb}
use Rattle.mas_types.specs.declared.answers.Closing.TheVariants.{PrinterLost}
use Rattle.mas_types.specs.declared.commands.Command.TheVariants as command
use Rattle.mas_types.specs.declared.ids.GroupNo.{GroupNo}
use Rattle.mas_types.specs.declared.ids.MemberId.{MemberId}
use Rattle.mas_types.specs.declared.jobs.Text.{Text}
use Rattle.mas_types.specs.declared.jobs.Text.TheVariants.{Whole}
use Rattle.mas_types.specs.declared.queues.Owner.{Owner}
use Rattle.mas_types.specs.declared.queues.Queue.{Queue}
use Rattle.mas_types.specs.declared.queues.Thing.TheVariants.{Deck, Output as OutputThing}
use Rattle.mas_types.specs.Ids.{is_somebody}
use Rattle.mas_types.specs.Queue.{job_at}
use Rattle.nje_frames.specs.declared.frames.Frame.{Frame}
use Rattle.nje_frames.specs.Grammar.{IsFrame}
use Rattle.lock_cycle.specs.Books.{Book}
use Rattle.spool_plant.specs.Acts.{Goes}
use Rattle.spool_plant.specs.View.{View}
use Rattle.spool_plant.specs.declared.plant.Plant.{Ghosts as PlantGhosts}
use Rattle.track_groups.specs.Places.{groups_of}
use Rattle.ckpt_copy.specs.declared.copying.Copying.{Ghosts as CopyGhosts}
use Rattle.ckpt_copy.specs.Moments.{goes_none}
use Rattle.paper_laws.specs.Counts.{IsMarkRight}
use Rattle.mas_complex.specs.Journals.{kept_all}
use Rattle.mas_complex.specs.Paper.{counts_of}
use Rattle.mas_complex.specs.Parts.{Parts}
use Rattle.mas_complex.specs.Texts.{IsThere, spools_at}
use Rattle.queue_laws.proofs.RunLaws.{runs_keep_configuration}
use Rattle.member_node.specs.declared.member.Member.{Member}
use Rattle.member_decks.specs.Steps.{IsFoundLost}
use Rattle.job_outcome.specs.declared.outcomes.Read.{Read}
use Rattle.job_outcome.specs.declared.outcomes.Read.TheVariants.{Gone, Lines, Lost}
use Rattle.member_work.proofs.CauseLemmas.{wider_found, wider_refusal}
use Rattle.member_work.specs.Reading.{IsFailedRead}
use Rattle.member_work.specs.Rounds.{IsReadAs, IsSpoolLost}
use Rattle.member_work.specs.Spooled.{AreSpooled}
use Rattle.member_work.specs.Steps.{IsUnderWay}
use Rattle.step_turns.specs.States.{nothing_found}
use Rattle.step_turns.specs.declared.states.Found.{Found}
use Rattle.step_turns.specs.declared.states.Offer.{Offer}
use Rattle.step_turns.specs.declared.states.State.{State}
use Rattle.step_turns.specs.declared.states.Task.{Task}
use Rattle.step_turns.specs.declared.states.Aside.TheVariants.{Acknowledge, Exchange, PrintLines, ReadText, SpoolArrival, SpoolDeck, SpoolOutputs}
use Rattle.step_turns.specs.declared.states.State.TheVariants.{Away, Fresh, Rested, Told}
use Rattle.member_sittings.specs.Asides.{LiesOnOne, deck_found, lowest_groups}
use Rattle.member_sittings.specs.Whole.{IsSeat, queue_of}
use Rattle.member_frames.specs.Asides.{lowest_for, wire_found}
use Rattle.member_frames.specs.Ready.{AreStanding}
use Rattle.member_frames.proofs.Sat.{lines_resume, outputs_stand}
use Rattle.member_wires.specs.Acts.{IfLost}
use Rattle.member_wires.specs.Asides.{Exchanged, FindsOffered as WasOffered}
use Rattle.member_hand.specs.Asides.{ActsAfter}
use Rattle.member_hand.specs.Found.{IsFoundAt}
use Rattle.member_hand.specs.Shapes.{IsFailedFound}
use Rattle.member_hand.specs.Sits.{IsFoundRight, WaitsWell}
use Rattle.member_hand.proofs.Following.{found_in}
use Rattle.member_hand.proofs.Inking.{one_found, some_of}

spool_lost : (per : ℕ) (groups : List GroupNo) (lost : Option ℕ) (old new : View) → LiesOnOne per groups lost → IsFoundLost lost old new → IsSpoolLost per groups lost old new
spool_lost per groups None old new lies found = tt
spool_lost per groups (Some volume) old new lies found = record { there = lies; lost = found.0; rose = found.1 }

read_told : (told : Type 0) (per : ℕ) (text : Text) (groups : List GroupNo) (r : Read) (old new : View) → told → IsReadAs told per (text, groups) (Some r) old new → IsReadAs (Unit {0}) per (text, groups) (Some r) old new
read_told told per text groups (Lines lines) old new t f = λ u. f t
read_told told per text groups (Gone group) old new t f = λ u. f t
read_told told per text groups (Lost volume) old new t f = (λ u. f.0 t, f.1)

if_lost : (b : Bool) (A : Type 0) → b ≡ true → IfLost (Ok b) A → A
if_lost true A lost a = a
if_lost false A lost a = absurd (cc)

module _ {P C : Type 0} (plants : PlantGhosts P) (copies : CopyGhosts C) (y : Parts P C) (b : Book) (u : Parts P C) (m : Member) (seat : IsSeat plants copies y m) where
  abbrev v : Parts P C → View
  v x = plants.view x.plant

  abbrev left : Parts P C
  left = record y { book = b }

  owners_are : plants.tells → m.checkpoint.tables.owners ≡ (queue_of y).owners
  owners_are t = sym (seat.between.queue t).owners

  -- WHAT WAS FOUND ON A LINE

  text_found : (l : ℕ) (offer : Option Offer) (was is : Option (List ℕ)) (found : Found) → Exchanged plants left u m l offer was is (Ok found) → WasOffered plants left u m offer found.read
  text_found l offer was is found a = subst (λ (o : Option Read). IfSome o (λ r. WasOffered plants left u m offer r)) a.finds.is_read a.there

  frames_fit : (l : ℕ) (offer : Option Offer) (was is : Option (List ℕ)) (found : Found) → Exchanged plants left u m l offer was is (Ok found) → All IsFrame found.frames
  frames_fit l offer was is found a = ⊎_elim (λ none. subst (All IsFrame) (sym none.frames) (All-nil IsFrame)) (λ some. some.frames) a.finds.heard

  here : (s : State) (was is : Option (List ℕ)) (found : Found) → plants.tells → WaitsWell plants.tells (queue_of y) m s → ActsAfter plants left u m s was is (Ok found) → IsFoundAt y.base.config.groups m.id (v y) (v u) (queue_of y) s found
  here (Away (SpoolDeck n text)) was is found t w a = record {
    only = a.1.finds.only;
    lost = spool_lost y.base.config.groups (lowest_groups m.id (queue_of y).owners text) found.lost (v y) (v u)
        (subst (λ (os : List Owner). LiesOnOne y.base.config.groups (lowest_groups m.id os text) found.lost) (owners_are t) a.1.finds.lies) a.1.finds.lost;
  }
  here (Away (SpoolOutputs n specs p)) was is found t w a = record {
    only = a.1.finds.only;
    lost = spool_lost y.base.config.groups (lowest_for m.id (queue_of y).owners specs) found.lost (v y) (v u)
        (subst (λ (os : List Owner). LiesOnOne y.base.config.groups (lowest_for m.id os specs) found.lost) (owners_are t) a.1.finds.lies) a.1.finds.lost;
  }
  here (Away (ReadText runs n fields p)) was is found t w a =
      let its = w.1.under_way (queue_of y) (seat.between.queue t) (seat.between.sound t) in
      record {
        only = a.1.finds.only;
        job = its.job;
        there = its.there;
        as_had = read_told plants.tells y.base.config.groups its.job.text (groups_of (Deck n) (queue_of y).owners) found.read (v y) (v u) t (a.1.finds.read t (seat.still.roomy t) its.job its.there);
      }
  here (Away (PrintLines n i last p)) was is found t w a =
      let its = w.printing (queue_of y) (seat.between.queue t) (seat.between.sound t) in
      record {
        only = a.1.finds.only;
        lost = a.1.finds.printer;
        output = its.output;
        there = its.there;
        as_had = read_told plants.tells y.base.config.groups its.output.text (groups_of (OutputThing n i) (queue_of y).owners) found.read (v y) (v u) t (a.1.finds.read t (seat.still.roomy t) its.output its.there);
      }
  here (Away (Exchange l None)) was is found t w a =
      record { only = a.1.finds.only; text = text_found l None was is found a.1; lost = a.1.finds.failed; frames = frames_fit l None was is found a.1 }
  here (Away (Exchange l (Some o))) was is found t w a =
      let its = some_of (job_at (queue_of y) o.job) (w.1.there (queue_of y) (seat.between.queue t)) in
      record {
        only = a.1.finds.only;
        text = (
          its.0,
          its.1,
          read_told plants.tells y.base.config.groups its.0.text (groups_of (Deck o.job) (queue_of y).owners) found.read (v y) (v u) t ((text_found l (Some o) was is found a.1).1 t (seat.still.roomy t) its.0 its.1),
        );
        lost = a.1.finds.failed;
        frames = frames_fit l (Some o) was is found a.1;
      }
  here (Away (SpoolArrival number job cards service)) was is found t w a = record {
    only = a.1.finds.only;
    lost = spool_lost y.base.config.groups (lowest_groups m.id (queue_of y).owners cards) found.lost (v y) (v u)
        (subst (λ (os : List Owner). LiesOnOne y.base.config.groups (lowest_groups m.id os cards) found.lost) (owners_are t) a.1.finds.lies) a.1.finds.lost;
  }
  here (Away (Acknowledge number service)) was is found t w a = record { only = a.1.only; lost = λ lost. if_lost found.wire _ lost a.1.gives.failed }
  here (Fresh task) was is found t w a = one_found found nothing_found a.1
  here (Rested p) was is found t w a = one_found found nothing_found a.1
  here Told was is found t w a = one_found found nothing_found a.1

  -- in a longer stretch of acts, in the words of the step
  pub found_at : (old : View) → Goes old (v y) → (per : ℕ) → y.base.config.groups ≡ per → (me : MemberId) → me ≡ m.id → (s : State) (was is : Option (List ℕ)) (found : Found) → queue_of u ≡ queue_of y → plants.tells → WaitsWell plants.tells (queue_of y) m s → ActsAfter plants left u m s was is (Ok found)
      → IsFoundAt per me old (v u) (queue_of u) s found
  found_at old before per groups me mine s was is found queue t w a =
      subst (λ (Q : Queue). IsFoundAt per me old (v u) Q s found) (sym queue)
      (subst (λ (i : MemberId). IsFoundAt per i old (v u) (queue_of y) s found) (sym mine)
      (subst (λ (k : ℕ). IsFoundAt k m.id old (v u) (queue_of y) s found) groups
      (found_in y.base.config.groups old (v y) (v u) (v u) before (goes_none (v u)) m.id (queue_of y) s found (here s was is found t w a))))

  -- THE STEP MAY GO ON with it

  groups_are : (queue_of y).config.groups ≡ y.base.config.groups
  groups_are = ap (λ c. c.groups) (runs_keep_configuration y.base (kept_all y.batches)).config

  somebody : is_somebody m.id ≡ true
  somebody = let some = seat.still.holds.some in ap not (ne_eqb m.id.0 0 (λ is. omega (arith, some, is)))

  right_here : (s : State) (was is : Option (List ℕ)) (found : Found) → ((task : Task) → s ≢ Fresh task) → s ≢ Told → queue_of u ≡ queue_of y → u.base ≡ y.base → WaitsWell plants.tells (queue_of y) m s → ActsAfter plants left u m s was is (Ok found)
      → IsFoundRight plants copies u m.id s found
  right_here (Away (SpoolDeck n text)) was is found fresh ne queue base w a = (
    w.lines,
    a.1.finds.only,
    λ none t.
        subst (λ (k : ℕ). IsThere (spools_at (v u) (v u).now) k (Whole text) (lowest_groups m.id (queue_of u).owners text)) (sym (ap (λ (q : Queue). q.config.groups) base))
        (subst (λ (os : List Owner). IsThere (spools_at (v u) (v u).now) y.base.config.groups (Whole text) (lowest_groups m.id os text)) (owners_are t ∙ sym (ap (λ (q : Queue). q.owners) queue))
        (a.1.finds.there none t (seat.still.roomy t))),
  )
  right_here (Away (ReadText runs n fields p)) was is found fresh ne queue base w a =
      (w.0, a.1.finds.fits, λ t. subst (λ (Q : Queue). IsUnderWay Q m.id n) (sym queue) (w.1.under_way (queue_of y) (seat.between.queue t) (seat.between.sound t)))
  right_here (Away (SpoolOutputs n specs p)) was is found fresh ne queue base w a = (
    w.outputs,
    λ t. subst (λ (Q : Queue). IsUnderWay Q m.id n) (sym queue) (w.job t),
    λ none t. subst (λ (Q : Queue). AreStanding (spools_at (v u) (v u).now) Q m.id n specs) (sym queue)
        (outputs_stand m.checkpoint.tables (queue_of y) m.id (spools_at (v u) (v u).now) n specs (seat.between.queue t)
        (subst (λ (k : ℕ). AreSpooled (spools_at (v u) (v u).now) k specs (lowest_for m.id m.checkpoint.tables.owners specs)) (sym groups_are) (a.1.finds.there none t (seat.still.roomy t)))),
  )
  right_here (Away (PrintLines n i last p)) was is found fresh ne queue base w a = (
    w.index,
    λ none t. subst (λ (Q : Queue). IsMarkRight Q m.id (counts_of u.printed m.id) (command.Mark n i last)) (sym queue)
        (lines_resume (queue_of y) m.id n i last (counts_of u.printed m.id) somebody (λ o is. a.1.finds.counted none t o is)),
  )
  right_here (Away (Exchange l offer)) was is found fresh ne queue base w a = (w.0, a.1.finds.only, frames_fit l offer was is found a.1)
  right_here (Away (SpoolArrival number job cards service)) was is found fresh ne queue base w a = (
    w.0,
    w.1,
    w.2.lines,
    a.1.finds.only,
    λ none t.
        subst (λ (k : ℕ). IsThere (spools_at (v u) (v u).now) k (Whole cards) (lowest_groups m.id (queue_of u).owners cards)) (sym (ap (λ (q : Queue). q.config.groups) base))
        (subst (λ (os : List Owner). IsThere (spools_at (v u) (v u).now) y.base.config.groups (Whole cards) (lowest_groups m.id os cards)) (owners_are t ∙ sym (ap (λ (q : Queue). q.owners) queue))
        (a.1.finds.there none t (seat.still.roomy t))),
  )
  right_here (Away (Acknowledge number service)) was is found fresh ne queue base w a = (w, a.1.only)
  right_here (Fresh task) was is found fresh ne queue base w a = absurd (fresh task refl)
  right_here (Rested p) was is found fresh ne queue base w a = one_found found nothing_found a.1
  right_here Told was is found fresh ne queue base w a = absurd (ne refl)

  not_fresh : (s : State) → WaitsWell plants.tells (queue_of y) m s → (task : Task) → s ≢ Fresh task
  not_fresh (Fresh other) w task = absurd w
  not_fresh (Away a) w task = λ e. absurd (cc)
  not_fresh (Rested p) w task = λ e. absurd (cc)
  not_fresh Told w task = λ e. absurd (cc)

  pub right_at : (s : State) (was is : Option (List ℕ)) (found : Found) → s ≢ Told → queue_of u ≡ queue_of y → u.base ≡ y.base → WaitsWell plants.tells (queue_of y) m s → ActsAfter plants left u m s was is (Ok found) → IsFoundRight plants copies u m.id s found
  right_at s was is found ne queue base w a = right_here s was is found (not_fresh s w) ne queue base w a

  -- WHAT WAS FOUND LOST failed in them, whatever the plant tells

  read_of : (per : ℕ) (groups : List GroupNo) (r : Read) (old new : View) → IsFailedRead per groups r old new → (volume : ℕ) → r ≡ Lost volume → IsFoundLost (Some volume) old new
  read_of per groups r old new f volume is = let g = subst (λ (q : Read). IsFailedRead per groups q old new) is f in (g.lost, g.rose)

  no_read : (found : Found) → found.read ≡ Lines [] → (volume : ℕ) → found.read ≡ Lost volume → ⊥
  no_read found none volume is = absurd (let no = sym none ∙ is in cc)

  no_printer : (found : Found) → found.printer ≡ false → found.printer ≡ true → ⊥
  no_printer found none is = absurd (let no : false ≡ true = sym none ∙ is in cc)

  -- where nothing but a volume was looked at, or nothing but a text
  failed_lost : (found : Found) (new : View) → found ≡ deck_found found.lost → IsFoundLost found.lost (v y) new → IsFailedFound m.id found (v y) new
  failed_lost found new only lost = record {
    lost = lost;
    read = λ volume is. absurd (no_read found (ap (λ (f : Found). f.read) only) volume is);
    printer = λ is. absurd (no_printer found (ap (λ (f : Found). f.printer) only) is);
  }

  -- or only a text and a line
  failed_wire : (found : Found) (new : View) (frames : List Frame) → found ≡ wire_found found.read found.wire frames → ((volume : ℕ) → found.read ≡ Lost volume → IsFoundLost (Some volume) (v y) new) → IsFailedFound m.id found (v y) new
  failed_wire found new frames only read = record {
    lost = subst (λ (l : Option ℕ). IsFoundLost l (v y) new) (sym (ap (λ (f : Found). f.lost) only)) tt;
    read = read;
    printer = λ is. absurd (no_printer found (ap (λ (f : Found). f.printer) only) is);
  }

  failed_none : (found : Found) (new : View) → found ≡ nothing_found → IsFailedFound m.id found (v y) new
  failed_none found new only = record {
    lost = subst (λ (l : Option ℕ). IsFoundLost l (v y) new) (sym (ap (λ (f : Found). f.lost) only)) tt;
    read = λ volume is. absurd (no_read found (ap (λ (f : Found). f.read) only) volume is);
    printer = λ is. absurd (no_printer found (ap (λ (f : Found). f.printer) only) is);
  }

  failed_here : (s : State) (was is : Option (List ℕ)) (found : Found) → ActsAfter plants left u m s was is (Ok found) → IsFailedFound m.id found (v y) (v u)
  failed_here (Away (SpoolDeck n text)) was is found a = failed_lost found (v u) a.1.finds.only a.1.finds.lost
  failed_here (Away (SpoolOutputs n specs p)) was is found a = failed_lost found (v u) a.1.finds.only a.1.finds.lost
  failed_here (Away (ReadText runs n fields p)) was is found a = record {
    lost = subst (λ (l : Option ℕ). IsFoundLost l (v y) (v u)) (sym (ap (λ (f : Found). f.lost) a.1.finds.only)) tt;
    read = read_of y.base.config.groups (groups_of (Deck n) m.checkpoint.tables.owners) found.read (v y) (v u) a.1.finds.failed;
    printer = λ is. absurd (no_printer found (ap (λ (f : Found). f.printer) a.1.finds.only) is);
  }
  failed_here (Away (PrintLines n i last p)) was is found a = record {
    lost = subst (λ (l : Option ℕ). IsFoundLost l (v y) (v u)) (sym (ap (λ (f : Found). f.lost) a.1.finds.only)) tt;
    read = read_of y.base.config.groups (groups_of (OutputThing n i) m.checkpoint.tables.owners) found.read (v y) (v u) a.1.finds.failed;
    printer = a.1.finds.printer;
  }
  failed_here (Away (Exchange l None)) was is found a = failed_wire found (v u) found.frames a.1.finds.only (λ volume lost. absurd (no_read found (text_found l None was is found a.1) volume lost))
  failed_here (Away (Exchange l (Some o))) was is found a =
      failed_wire found (v u) found.frames a.1.finds.only (read_of y.base.config.groups (groups_of (Deck o.job) m.checkpoint.tables.owners) found.read (v y) (v u) (text_found l (Some o) was is found a.1).0)
  failed_here (Away (SpoolArrival number job cards service)) was is found a = failed_lost found (v u) a.1.finds.only a.1.finds.lost
  failed_here (Away (Acknowledge number service)) was is found a =
      failed_wire found (v u) [] (a.1.only ∙ ap (λ (r : Read). wire_found r found.wire []) (sym (ap (λ (f : Found). f.read) a.1.only))) (λ volume is. absurd (no_read found (ap (λ (f : Found). f.read) a.1.only) volume is))
  failed_here (Fresh task) was is found a = failed_none found (v u) (one_found found nothing_found a.1)
  failed_here (Rested p) was is found a = failed_none found (v u) (one_found found nothing_found a.1)
  failed_here Told was is found a = failed_none found (v u) (one_found found nothing_found a.1)

  pub failed_at : (old : View) → Goes old (v y) → (me : MemberId) → me ≡ m.id → (s : State) (was is : Option (List ℕ)) (found : Found) → ActsAfter plants left u m s was is (Ok found) → IsFailedFound me found old (v u)
  failed_at old before me mine s was is found a =
      let f = failed_here s was is found a in
      subst (λ (i : MemberId). IsFailedFound i found old (v u)) (sym mine) (record {
        lost = wider_found found.lost old (v y) (v u) (v u) before (goes_none (v u)) f.lost;
        read = λ volume is. wider_found (Some volume) old (v y) (v u) (v u) before (goes_none (v u)) (f.read volume is);
        printer = λ is. wider_refusal m.id old (v y) (v u) (v u) before (goes_none (v u)) PrinterLost (f.printer is);
      })
