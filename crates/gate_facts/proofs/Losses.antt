-- What the rules say of lost copies.
use Rattle.std.proofs.Common.{◌≡◌, ℕ, ◌+◌, ◌≤◌, true, [], refl, sym, ⊎_elim, arith}
use Rattle.std.proofs.lemmas.List.{append-nil}
use Rattle.gate_facts.specs.declared.marks.Marks.{Marks}
use Rattle.gate_facts.specs.Values.{marked_at, number_at, desk_of, LostOnce}
use Rattle.gate_facts.specs.Laws.{HoldersAreSpared, LostMayBeLostAgain, NobodyElseLosesAgain, LossesAreKnown}
use Rattle.gate_facts.proofs.Lists.{true_false}
use Rattle.gate_facts.proofs.Values.{synced_refl}

pub holders_spared : HoldersAreSpared
holders_spared m k cares was is may ne up = (may.desks k ne up).hold

pub lost_again : LostMayBeLostAgain
lost_again m cares was loses op only = record {
  base = refl;
  kept = ([], sym (append-nil was.kept), tt);
  still_stopped = λ k e. e;
  still_up = λ k ne e. e;
  begun = λ k e. refl;
  lines = λ k e. refl;
  desks = λ k ne up. synced_refl (desk_of was k);
  other_stops = λ k e. refl;
  other_loses = λ other d. true_false (marked_at cares 0) op other;
  marks = record { since = refl; arms = refl; own_stops = λ k e. refl; stops = λ k. omega arith; faults = λ k. omega arith; lost = λ d e. e; own_loses = λ none d. true_false (marked_at [] 0) none refl; loses = only };
}

one_at_most : (a b : Marks) (d : ℕ) → LostOnce a b d → (number_at a.loses d ≤ number_at b.loses d + 1) × (marked_at b.lost d ≡ true → number_at a.loses d ≡ number_at b.loses d)
one_at_most a b d once = ⊎_elim
    (λ same. ((let p = same in omega arith), λ lost. same))
    (λ more. ((let p = more.0 in omega arith), λ lost. true_false (marked_at b.lost d) lost more.2))
    once

pub nobody_else : NobodyElseLosesAgain
nobody_else m cares was is other may d = one_at_most is.marks was.marks d (may.other_loses other d)

pub losses_known : LossesAreKnown
losses_known m y is knows d = (
  (knows.marks.loses d).1,
  λ op. ⊎_elim
      (λ same. let p = same in omega arith)
      (λ more. let p = more.0 in omega arith)
      (knows.marks.own_loses op d),
)
