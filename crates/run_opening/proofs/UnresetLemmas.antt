-- A warm run that ends at Restart: both copies were lost, or there was no memory.
use Rattle.std.proofs.Common.{◌≡◌, ◌≢◌, ◌⊎◌, inl, inr, ⊎_elim, ℕ, Bool, true, false, List, [], ◌∷◌, Result, Err, refl, sym, subst, arith}
use Rattle.mas_types.specs.declared.answers.Status.{Status}
use Rattle.mas_types.specs.declared.answers.Status.TheVariants as status
use Rattle.mas_types.specs.declared.ids.Dev.TheVariants.{Ckpt1, Ckpt2}
use Rattle.mas_types.specs.declared.ids.Dev.{Dev}
use Rattle.mas_types.specs.declared.journals.Batch.{Batch}
use Rattle.mas_types.specs.declared.journals.Journal.{Journal}
use Rattle.mas_types.specs.Sound.{IsSound}
use Rattle.spool_plant.specs.Acts.{Goes}
use Rattle.spool_plant.specs.View.{View}
use Rattle.spool_plant.specs.declared.plant.Part.TheVariants.{Disk as DiskPart}
use Rattle.spool_plant.specs.declared.plant.Plant.{Ghosts as PlantGhosts}
use Rattle.ckpt_copy.specs.declared.copying.Copying.{Ghosts as CopyGhosts}
use Rattle.ckpt_form.specs.declared.steady.Steady.{Ghosts as SteadyGhosts}
use Rattle.ckpt_form.specs.Form.{form_reads}
use Rattle.duplex_pair.specs.Halves.{SomeAlive}
use Rattle.mas_complex.specs.declared.complex.Complex.{Complex}
use Rattle.mas_complex.specs.Headline.{Headline}
use Rattle.mas_complex.specs.Renewals.{no_renewals}
use Rattle.mas_complex.specs.CallCounts.{pair_at}
use Rattle.member_node.proofs.CourseLemmas.{left}
use Rattle.member_node.specs.Calls.{Apart}
use Rattle.member_node.specs.declared.member.NodeNo.{NodeNo}
use Rattle.member_node.specs.declared.member.NodeNo.TheVariants as no_node
use Rattle.run_opening.specs.Openings.{at_end, IsUnreset}
use Rattle.run_opening.specs.Resets.{HasReset, restart_at}
use Rattle.run_opening.specs.Runs.{AreAway, IsReset, OneIsGood}
use Rattle.run_opening.specs.Statuses.{IsCausedFrom, status_of}
use Rattle.run_opening.proofs.OpeningLemmas.{safe_of}
use Rattle.run_opening.proofs.ResetLemmas.{reset_caused}

module _ {P C : Type 0} {plants : PlantGhosts P} {steadies : SteadyGhosts C} {copies : CopyGhosts C} (x : Complex P C plants steadies copies) (J : Journal) (new : View)
    (sound : IsSound x.base) (here : x.since ≡ (at_end x).now) (head : plants.tells → ∥ Headline form_reads x.base x.since J no_renewals new ∥₁) where
  alone : (answer : Status) (opening : List Batch) → J.batches ≡ opening → Goes (at_end x) new → IsReset answer x.since new.now opening 0 [] → (answer ≡ status.NoMemory) ⊎ (answer ≡ status.BothLost)
      → ((d : Dev) → new.loses d ≡ (at_end x).loses d) → IsCausedFrom x.pair.first.alive x.pair.second.alive answer (at_end x) new → (plants.tells → Apart (at_end x) new)
      → (answer ≡ status.BothLost → AreAway no_renewals new) → (answer ≢ status.BothLost → OneIsGood no_renewals new) → IsUnreset x answer x.base J x.since new
  alone answer opening are goes reset why same caused apart away good = record {
    why = why;
    base_is = refl;
    since_is = refl;
    opened = subst (λ (bs : List Batch). IsReset answer x.since new.now bs 0 []) (sym are) reset;
    goes = goes;
    loses = same;
    cause = caused;
    apart = apart;
    safe = safe_of plants.tells x.base J no_renewals x.since new sound head;
    away = away;
    good = good;
  }

  -- by how Restart ended
  pub unreset : {T : Type 0} (is1 is2 : Bool) (why : NodeNo) → SomeAlive x.pair.first.alive x.pair.second.alive
      → (x.pair.first.alive ≡ true → (at_end x).lost (DiskPart Ckpt1) ≡ false) → (x.pair.second.alive ≡ true → (at_end x).lost (DiskPart Ckpt2) ≡ false)
      → (is1 ≡ false → new.lost (DiskPart Ckpt1) ≡ true) → (is2 ≡ false → new.lost (DiskPart Ckpt2) ≡ true)
      → HasReset {T = T} plants.tells J.batches (pair_at x.pair.first.alive x.pair.second.alive (at_end x)) (pair_at is1 is2 new) (Err why)
      → IsUnreset x (status_of {T = T} (Err why)) x.base J x.since new
  unreset {T} is1 is2 no_node.NoMemory some there1 there2 lost1 lost2 r =
      alone status.NoMemory [] r.ends.0 r.course.goes (inr (inr (refl, inl refl, refl, refl))) (inl refl) r.loses
      (reset_caused {T = T} plants.tells J.batches x.pair.first.alive is1 x.pair.second.alive is2 (at_end x) new no_node.NoMemory r) r.apart (λ both. absurd (cc))
      (λ ne. ⊎_elim (λ one. inl (one, refl)) (λ two. inr (two, refl))
      (left is1 is2 r.ends.1 (λ a. r.course.there1 a (there1 (r.course.alive1 a))) (λ b. r.course.there2 b (there2 (r.course.alive2 b)))))
  unreset {T} is1 is2 no_node.BothLost some there1 there2 lost1 lost2 r =
      let caused = reset_caused {T = T} plants.tells J.batches x.pair.first.alive is1 x.pair.second.alive is2 (at_end x) new no_node.BothLost r in
      ⊎_elim
      (λ none. alone status.BothLost [] none r.course.goes (inr (inr (refl, inr refl, refl, refl))) (inr refl) r.loses caused r.apart
      (λ both. (inl (lost1 r.ends.1.0), inl (lost2 r.ends.1.1))) (λ ne. absurd (ne refl)))
      (λ flies. alone status.BothLost (restart_at flies.0 ∷ []) flies.2 r.course.goes
      (inr (inl (restart_at flies.0, refl, record { by = refl; entries = refl; began = omega (arith, here, flies.1) }, refl, refl, refl, refl, refl))) (inr refl) r.loses caused r.apart
      (λ both. (inl (lost1 r.ends.1.0), inl (lost2 r.ends.1.1))) (λ ne. absurd (ne refl)))
      r.ends.0
  unreset is1 is2 no_node.ConsoleFault some there1 there2 lost1 lost2 r = absurd r.ends
  unreset is1 is2 no_node.Halted some there1 there2 lost1 lost2 r = absurd r.ends
