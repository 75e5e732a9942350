-- A step that waits for acts may do them, whatever others gave since its member left the lock.
use Rattle.std.proofs.Common.{◌≡◌, ◌∙◌, ◌≤◌, false, true, List, [], ◌∷◌, length, take, All, Some, None, ap, refl, subst, sym}
use Rattle.mas_types.specs.declared.ids.GroupNo.{GroupNo}
use Rattle.mas_types.specs.declared.ids.JobNo.{JobNo}
use Rattle.mas_types.specs.declared.ids.OutNo.{OutNo}
use Rattle.mas_types.specs.declared.jobs.Job.{Job}
use Rattle.mas_types.specs.declared.jobs.Output.{Output}
use Rattle.mas_types.specs.declared.queues.Queue.{Queue}
use Rattle.mas_types.specs.declared.queues.Thing.TheVariants.{Deck, Output as OutputThing}
use Rattle.mas_types.specs.Ids.{is_somebody}
use Rattle.mas_types.specs.Queue.{job_at, output_at}
use Rattle.mas_types.specs.Sound.{IsSound}
use Rattle.lock_cycle.specs.Books.{IsMember, is_stopped}
use Rattle.paper_laws.specs.Next.{limit_of}
use Rattle.queue_laws.specs.Laws.{IsBusyKept}
use Rattle.spool_plant.specs.declared.plant.Plant.{Ghosts as PlantGhosts}
use Rattle.spool_volumes.specs.Volumes.{AreRoomy}
use Rattle.ckpt_copy.specs.declared.copying.Copying.{Ghosts as CopyGhosts}
use Rattle.mas_complex.specs.Parts.{Parts}
use Rattle.mas_complex.specs.Spool.{IsHeldBy}
use Rattle.track_groups.specs.Groups.{held_by}
use Rattle.track_groups.specs.Places.{groups_of}
use Rattle.step_turns.specs.Laws.{on_line}
use Rattle.step_turns.specs.declared.states.State.{State}
use Rattle.step_turns.specs.declared.states.State.TheVariants.{Away, Fresh, Rested, Told}
use Rattle.step_turns.specs.declared.states.Aside.TheVariants.{Acknowledge, Exchange, PrintLines, ReadText, SpoolArrival, SpoolDeck, SpoolOutputs}
use Rattle.member_node.specs.declared.member.Member.{Member}
use Rattle.member_decks.proofs.HeldLemmas.{all_held}
use Rattle.member_sittings.specs.Whole.{queue_of}
use Rattle.member_asides.specs.Asides.{HasStayed, IsJobStill, IsOutputStill, MayAside}
use Rattle.member_resets.specs.Asides.{MayActAfter}
use Rattle.member_resets.specs.Sits.{WaitsWell}
use Rattle.member_work.specs.Printing.{IsPrinting}
use Rattle.member_work.specs.Steps.{IsUnderWay}
use Rattle.member_racing.specs.Waits.{IsMine}
use Rattle.member_racing.proofs.BusyStill.{HasJob, HasOutput, at_its, job_on, output_on}

whole_of : {A : Type 0} (xs : List A) → take (length xs) xs ≡ xs
whole_of [] = refl
whole_of (x ∷ xs) = ap (λ (l : List _). x ∷ l) (whole_of xs)

module _ {P C : Type 0} (plants : PlantGhosts P) (copies : CopyGhosts C) (x y : Parts P C) (m : Member) (somebody : is_somebody m.id ≡ true) (base : y.base ≡ x.base) (up : is_stopped y.book m.id ≡ false)
    (kept : plants.tells → ∥ IsBusyKept m.id (queue_of x) (queue_of y) ∥₁) (sound : plants.tells → IsSound (queue_of y))
    (same_held : plants.tells → held_by m.id (queue_of y).owners ≡ held_by m.id m.checkpoint.tables.owners) (seated : IsMember y.book m.id) (roomy : plants.tells → AreRoomy (plants.view y.plant) y.base.config)
    (decks : plants.tells → (n : JobNo) (j : Job) → job_at (queue_of x) n ≡ Some j → j.busy ≡ m.id → groups_of (Deck n) (queue_of y).owners ≡ groups_of (Deck n) (queue_of x).owners)
    (outputs : plants.tells → (n : JobNo) (i : OutNo) (o : Output) → output_at (queue_of x) n i ≡ Some o → o.busy ≡ m.id → groups_of (OutputThing n i) (queue_of y).owners ≡ groups_of (OutputThing n i) (queue_of x).owners)
    (limit : plants.tells → limit_of (queue_of y) m.id ≡ limit_of (queue_of x) m.id) where
  abbrev left : Parts P C → Parts P C
  left q = record q { current = None }

  some_is : {A : Type 0} (a b : A) → Some a ≡ Some b → a ≡ b
  some_is a b e = cc

  aside : MayAside plants (left x) m → MayAside plants (left y) m
  aside a = record {
    up = λ positive. up;
    sound = λ t. subst IsSound (sym base) (a.sound t);
    spelling = a.spelling;
    config = ap (λ (q : Queue). q.config) base ∙ a.config;
    some = subst (λ (q : Queue). 1 ≤ q.config.groups) (sym base) a.some;
  }

  held : plants.tells → All (λ g. IsHeldBy m.id g (queue_of y)) (held_by m.id m.checkpoint.tables.owners)
  held t =
      subst (λ (gs : List GroupNo). All (λ (g : GroupNo). IsHeldBy m.id g (queue_of y)) gs) (whole_of (held_by m.id (queue_of y).owners) ∙ same_held t)
      (all_held m.id (queue_of y).owners (length (held_by m.id (queue_of y).owners)) (queue_of y) refl)

  job_still : (n : JobNo) → (t : plants.tells) → IsUnderWay (queue_of x) m.id n → IsJobStill m.checkpoint.tables n (queue_of x) → IsJobStill m.checkpoint.tables n (queue_of y)
  job_still n t w s =
      let k : HasJob (queue_of x) (queue_of y) m.id somebody (kept t) (sound t) n w.job = job_on (queue_of x) (queue_of y) m.id somebody (kept t) (sound t) n w.job w.there w.busy in
      let old = s.text w.job w.there in
      record {
        was = s.was;
        told = s.told;
        text = λ has found. (old.0, old.1, ap (λ (j : Job). j.text) (some_is has k.job (sym found ∙ k.there)) ∙ k.text ∙ old.2);
        groups = decks t n w.job w.there w.busy ∙ s.groups;
      }

  stayed : (had mid has : Output) → has.mark ≡ mid.mark → has.text ≡ mid.text → has.copies ≡ mid.copies → HasStayed had mid → HasStayed had has
  stayed had mid has mark text copies s = record { mark = mark ∙ s.mark; text = text ∙ s.text; copies = copies ∙ s.copies }

  output_still : (n : JobNo) (i : OutNo) → (t : plants.tells) → IsPrinting (queue_of x) m.id n i → IsOutputStill m.checkpoint.tables m.id n i (queue_of x) → IsOutputStill m.checkpoint.tables m.id n i (queue_of y)
  output_still n i t p s =
      let mine = at_its (queue_of x) (queue_of y) m.id somebody (kept t) (sound t) p.output p.busy in
      let k : HasOutput (queue_of x) (queue_of y) m.id somebody (kept t) (sound t) n i p.output = output_on (queue_of x) (queue_of y) m.id somebody (kept t) (sound t) n i p.output p.there mine in
      let old = s.output p.output p.there in
      record {
        was = s.was;
        told = s.told;
        output = λ has found.
            let same : has ≡ k.output = some_is has k.output (sym found ∙ k.there) in
            (old.0, old.1, subst (λ (o : Output). HasStayed old.0 o) (sym same) (stayed old.0 p.output k.output k.mark k.text k.copies old.2));
        busy = λ had there printing.
            let b = s.busy had there printing in
            let same : b.0 ≡ p.output = some_is b.0 p.output (sym b.1 ∙ p.there) in
            (k.output, k.there, k.printing, stayed had p.output k.output k.mark k.text k.copies (subst (λ (o : Output). HasStayed had o) same b.3));
        groups = outputs t n i p.output p.there mine ∙ s.groups;
        limit = limit t ∙ s.limit;
      }

  pub acts_on : (s : State) → on_line s ≡ false → (plants.tells → IsMine (queue_of x) m.id s) → MayActAfter plants (left x) m s → MayActAfter plants (left y) m s
  acts_on (Away (SpoolDeck n text)) off mine w = record { up = λ positive. up; none = refl; groups = w.groups; shape = w.shape; config = ap (λ (q : Queue). q.config) base ∙ w.config; held = held }
  acts_on (Away (ReadText runs n fields p)) off mine w = record { may = aside w.may; sound = w.sound; there = w.there; still = λ t. job_still n t (mine t) (w.still t) }
  acts_on (Away (SpoolOutputs n specs p)) off mine w = record { may = aside w.may; none = refl; outputs = w.outputs; enough = w.enough; held = held }
  acts_on (Away (PrintLines n i last p)) off mine w = record {
    may = aside w.may;
    few = w.few;
    some = w.some;
    seated = seated;
    none = refl;
    sound = w.sound;
    output = w.output;
    still = λ t. output_still n i t (mine t) (w.still t);
    roomy = roomy;
  }
  acts_on (Away (Exchange l offer)) off mine w = absurd (cc)
  acts_on (Away (SpoolArrival number job cards service)) off mine w = absurd (cc)
  acts_on (Away (Acknowledge number service)) off mine w = absurd (cc)
  acts_on (Fresh task) off mine w = tt
  acts_on (Rested p) off mine w = tt
  acts_on Told off mine w = tt

  -- it waits rightly still
  pub well_on : (s : State) → on_line s ≡ false → (plants.tells → IsMine (queue_of y) m.id s) → WaitsWell plants.tells (queue_of x) m s → WaitsWell plants.tells (queue_of y) m s
  well_on (Away (SpoolDeck n text)) off mine w = w
  well_on (Away (ReadText runs n fields p)) off mine w = w
  well_on (Away (SpoolOutputs n specs p)) off mine w = record { outputs = w.outputs; some = w.some; enough = w.enough; job = mine }
  well_on (Away (PrintLines n i last p)) off mine w = w
  well_on (Away (Exchange l offer)) off mine w = absurd (cc)
  well_on (Away (SpoolArrival number job cards service)) off mine w = absurd (cc)
  well_on (Away (Acknowledge number service)) off mine w = absurd (cc)
  well_on (Fresh task) off mine w = absurd w
  well_on (Rested p) off mine w = tt
  well_on Told off mine w = tt
