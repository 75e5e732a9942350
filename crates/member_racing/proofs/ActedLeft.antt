-- What acts aside left, and what may be found in them: the step waits for what is its member's still.
use Rattle.std.proofs.Common.{◌≡◌, ◌∙◌, ◌+◌, ◌<◌, ℕ, Bool, true, false, List, [], length, take, Option, Some, None, Ok, ap, refl, subst, sym, arith}
use Rattle.std.proofs.lemmas.List.{length-take-le}
use Rattle.mas_types.specs.declared.ids.GroupNo.{GroupNo}
use Rattle.mas_types.specs.declared.jobs.OutSpec.{OutSpec}
use Rattle.mas_types.specs.declared.jobs.Text.{Text}
use Rattle.mas_types.specs.declared.jobs.Text.TheVariants.{Gone, Whole}
use Rattle.mas_types.specs.declared.queues.Thing.TheVariants.{Deck as DeckThing, Output as OutputThing}
use Rattle.mas_types.specs.Commands.Life.{groups_of_outputs}
use Rattle.mas_types.specs.Owners.{groups_needed}
use Rattle.spool_plant.specs.View.{View}
use Rattle.spool_plant.specs.declared.plant.Plant.{Ghosts as PlantGhosts}
use Rattle.spool_volumes.specs.Volumes.{AreRoomy}
use Rattle.ckpt_copy.specs.declared.copying.Copying.{Ghosts as CopyGhosts}
use Rattle.track_groups.specs.Groups.{held_by}
use Rattle.track_groups.specs.Places.{groups_of}
use Rattle.mas_complex.specs.Paper.{counts_of}
use Rattle.mas_complex.specs.Parts.{Parts}
use Rattle.job_outcome.specs.declared.outcomes.Read.{Read}
use Rattle.job_outcome.specs.declared.outcomes.Read.TheVariants as read
use Rattle.run_turns.specs.Pieces.{chunk, inked_of}
use Rattle.step_turns.specs.Laws.{on_line}
use Rattle.step_turns.specs.States.{nothing_found}
use Rattle.step_turns.specs.declared.states.Found.{Found}
use Rattle.step_turns.specs.declared.states.State.{State}
use Rattle.step_turns.specs.declared.states.State.TheVariants.{Away, Fresh, Rested, Told}
use Rattle.step_turns.specs.declared.states.Aside.TheVariants.{Acknowledge, Exchange, PrintLines, ReadText, SpoolArrival, SpoolDeck, SpoolOutputs}
use Rattle.member_node.specs.declared.member.Member.{Member}
use Rattle.member_decks.specs.Steps.{IsFoundLost}
use Rattle.member_work.specs.Inked.{HasInked, IsInkedTo}
use Rattle.member_work.specs.Looks.{as_it_is}
use Rattle.member_work.specs.Rounds.{IsReadAs, IsSpoolLost}
use Rattle.member_sittings.specs.Asides.{LiesOnOne, deck_found, lowest_groups}
use Rattle.member_sittings.specs.Whole.{queue_of}
use Rattle.member_asides.specs.Asides.{lowest_for, printed_found, read_found}
use Rattle.member_resets.specs.Asides.{ActsAfter}
use Rattle.member_resets.specs.Found.{IsFoundAt}
use Rattle.member_resets.proofs.Inking.{chunk_is, one_found}
use Rattle.member_racing.specs.Waits.{IsMine}

spool_lost : (per : ℕ) (groups : List GroupNo) (lost : Option ℕ) (old new : View) → LiesOnOne per groups lost → IsFoundLost lost old new → IsSpoolLost per groups lost old new
spool_lost per groups None old new lies found = tt
spool_lost per groups (Some volume) old new lies found = record { there = lies; lost = found.0; rose = found.1 }

read_told : (told : Type 0) (per : ℕ) (text : Text) (groups : List GroupNo) (r : Read) (old new : View) → told → IsReadAs told per (text, groups) (Some r) old new → IsReadAs (Unit {0}) per (text, groups) (Some r) old new
read_told told per text groups (read.Lines lines) old new t f = λ u. f t
read_told told per text groups (read.Gone group) old new t f = λ u. f t
read_told told per text groups (read.Lost volume) old new t f = (λ u. f.0 t, f.1)

-- a text as it is
read_calm : (per : ℕ) (text : Text) (groups : List GroupNo) (old new : View) → IsReadAs (Unit {0}) per (text, groups) (Some (as_it_is text)) old new
read_calm per (Whole lines) groups old new = λ u. refl
read_calm per (Gone group count) groups old new = λ u. refl

-- HOW MANY LINES were printed

none_inked : (b : Bool) → length (inked_of b 0 []) ≡ 0
none_inked true = refl
none_inked false = refl

inked_by : (lines : List (List ℕ)) (was now : ℕ) (b : Bool) (inked : ℕ) → now ≡ was + inked → ((b ≡ false) → inked ≡ length lines) → ((b ≡ true) → inked < length lines) → (k : ℕ) × (now ≡ was + length (inked_of b k lines))
inked_by lines was now false inked counted all some = (0, let many = all refl in omega (arith, counted, many))
inked_by lines was now true inked counted all some =
    let less = some refl in (
      inked,
      (let many : length (take inked lines) ≡ inked = length-take-le inked lines (omega (arith, less)) in omega (arith, counted, many)),
    )

module _ {P C : Type 0} (plants : PlantGhosts P) (copies : CopyGhosts C) (x y : Parts P C) (m : Member) (t : plants.tells) (roomy : AreRoomy (plants.view x.plant) x.base.config) where
  abbrev v : Parts P C → View
  v q = plants.view q.plant

  abbrev count : ℕ
  count = counts_of x.printed m.id

  -- no line was
  still_count : (s : State) (found : Found) → chunk (queue_of x) count s found.read ≡ [] → counts_of y.printed m.id ≡ count → (k : ℕ) × (counts_of y.printed m.id ≡ count + length (inked_of found.printer k (chunk (queue_of x) count s found.read)))
  still_count s found none same = (
    0,
    (let zero : length (inked_of found.printer 0 (chunk (queue_of x) count s found.read)) ≡ 0 = ap (λ (ls : List (List ℕ)). length (inked_of found.printer 0 ls)) none ∙ none_inked found.printer in omega (arith, same, zero)),
  )

  pub acted_count : (s : State) (was is : Option (List ℕ)) (found : Found) → on_line s ≡ false → IsMine (queue_of x) m.id s → ActsAfter plants x y m s was is (Ok found)
      → (k : ℕ) × (counts_of y.printed m.id ≡ count + length (inked_of found.printer k (chunk (queue_of x) count s found.read)))
  acted_count (Away (SpoolDeck n text)) was is found off its a = still_count (Away (SpoolDeck n text)) found refl (ap (λ (q : Parts P C). counts_of q.printed m.id) a.0)
  acted_count (Away (ReadText runs n fields p)) was is found off its a = still_count (Away (ReadText runs n fields p)) found refl (ap (λ (q : Parts P C). counts_of q.printed m.id) a.0)
  acted_count (Away (SpoolOutputs n specs p)) was is found off its a = still_count (Away (SpoolOutputs n specs p)) found refl (ap (λ (q : Parts P C). counts_of q.printed m.id) a.0)
  acted_count (Away (PrintLines n i last p)) was is found off its a =
      let s : State = Away (PrintLines n i last p) in
      let lines : List (List ℕ) = chunk (queue_of x) count s found.read in
      let i : HasInked plants m.id lines x y (Ok found.printer) =
      subst (λ (ls : List (List ℕ)). HasInked plants m.id ls x y (Ok found.printer)) (chunk_is (queue_of x) count n i last p its.output found.read its.there) (a.1.inks t its.output its.there) in
      inked_by lines count (counts_of y.printed m.id) found.printer i.inked.lines i.counted
      (λ is. ap (λ k. k.lines) (subst (λ (b : Bool). IsInkedTo b (length lines) i.inked) is i.by_answer))
      (λ is. (subst (λ (b : Bool). IsInkedTo b (length lines) i.inked) is i.by_answer).0)
  acted_count (Away (Exchange l offer)) was is found off its a = absurd (cc)
  acted_count (Away (SpoolArrival number job cards service)) was is found off its a = absurd (cc)
  acted_count (Away (Acknowledge number service)) was is found off its a = absurd (cc)
  acted_count (Fresh task) was is found off its a = still_count (Fresh task) found refl (ap (λ (q : Parts P C). counts_of q.printed m.id) a.0)
  acted_count (Rested p) was is found off its a = still_count (Rested p) found refl (ap (λ (q : Parts P C). counts_of q.printed m.id) a.0)
  acted_count Told was is found off its a = still_count Told found refl (ap (λ (q : Parts P C). counts_of q.printed m.id) a.0)

  -- WHAT WAS FOUND, with the groups that the member has by the queue as by its tables

  module _ (groups : held_by m.id (queue_of x).owners ≡ held_by m.id m.checkpoint.tables.owners) where
    abbrev per : ℕ
    per = x.base.config.groups

    deck_groups : (text : List (List ℕ)) → lowest_groups m.id m.checkpoint.tables.owners text ≡ lowest_groups m.id (queue_of x).owners text
    deck_groups text = ap (λ (gs : List GroupNo). take (groups_needed text) gs) (sym groups)

    out_groups : (specs : List OutSpec) → lowest_for m.id m.checkpoint.tables.owners specs ≡ lowest_for m.id (queue_of x).owners specs
    out_groups specs = ap (λ (gs : List GroupNo). take (groups_of_outputs specs) gs) (sym groups)

    pub found_here : (s : State) (was is : Option (List ℕ)) (found : Found) → on_line s ≡ false → IsMine (queue_of x) m.id s → ActsAfter plants x y m s was is (Ok found) → IsFoundAt per m.id (v x) (v y) (queue_of x) s found
    found_here (Away (SpoolDeck n text)) was is found off its a = record {
      only = a.1.finds.only;
      lost = spool_lost per (lowest_groups m.id (queue_of x).owners text) found.lost (v x) (v y) (subst (λ (gs : List GroupNo). LiesOnOne per gs found.lost) (deck_groups text) a.1.finds.lies) a.1.finds.lost;
    }
    found_here (Away (SpoolOutputs n specs p)) was is found off its a = record {
      only = a.1.finds.only;
      lost = spool_lost per (lowest_for m.id (queue_of x).owners specs) found.lost (v x) (v y) (subst (λ (gs : List GroupNo). LiesOnOne per gs found.lost) (out_groups specs) a.1.finds.lies) a.1.finds.lost;
    }
    found_here (Away (ReadText runs n fields p)) was is found off its a = record {
      only = a.1.finds.only;
      job = its.job;
      there = its.there;
      as_had = read_told plants.tells per its.job.text (groups_of (DeckThing n) (queue_of x).owners) found.read (v x) (v y) t (a.1.finds.read t roomy its.job its.there);
    }
    found_here (Away (PrintLines n i last p)) was is found off its a = record {
      only = a.1.finds.only;
      lost = a.1.finds.printer;
      output = its.output;
      there = its.there;
      as_had = read_told plants.tells per its.output.text (groups_of (OutputThing n i) (queue_of x).owners) found.read (v x) (v y) t (a.1.finds.read t roomy its.output its.there);
    }
    found_here (Away (Exchange l offer)) was is found off its a = absurd (cc)
    found_here (Away (SpoolArrival number job cards service)) was is found off its a = absurd (cc)
    found_here (Away (Acknowledge number service)) was is found off its a = absurd (cc)
    found_here (Fresh task) was is found off its a = one_found found nothing_found a.1
    found_here (Rested p) was is found off its a = one_found found nothing_found a.1
    found_here Told was is found off its a = one_found found nothing_found a.1

  -- WHAT MIGHT HAVE BEEN FOUND, where the acts were cut

  pub calm_here : (s : State) → on_line s ≡ false → IsMine (queue_of x) m.id s → (found : Found) × IsFoundAt x.base.config.groups m.id (v x) (v y) (queue_of x) s found
  calm_here (Away (SpoolDeck n text)) off its = (deck_found None, record { only = refl; lost = tt })
  calm_here (Away (SpoolOutputs n specs p)) off its = (deck_found None, record { only = refl; lost = tt })
  calm_here (Away (ReadText runs n fields p)) off its = (
    read_found (as_it_is its.job.text),
    record { only = refl; job = its.job; there = its.there; as_had = read_calm x.base.config.groups its.job.text (groups_of (DeckThing n) (queue_of x).owners) (v x) (v y) },
  )
  calm_here (Away (PrintLines n i last p)) off its = (
    printed_found (as_it_is its.output.text) false,
    record {
      only = refl;
      lost = λ is. absurd (cc);
      output = its.output;
      there = its.there;
      as_had = read_calm x.base.config.groups its.output.text (groups_of (OutputThing n i) (queue_of x).owners) (v x) (v y);
    },
  )
  calm_here (Away (Exchange l offer)) off its = absurd (cc)
  calm_here (Away (SpoolArrival number job cards service)) off its = absurd (cc)
  calm_here (Away (Acknowledge number service)) off its = absurd (cc)
  calm_here (Fresh task) off its = (nothing_found, refl)
  calm_here (Rested p) off its = (nothing_found, refl)
  calm_here Told off its = (nothing_found, refl)
