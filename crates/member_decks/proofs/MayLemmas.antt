-- Entries of commands, or the first ones of them: they are of the step, and may begin where no command is a Mark.
use Rattle.member_decks.proofs.Names.{◌≡◌, ℕ, zero, suc, Bool, true, false, if◌then◌else◌, List, [], ◌∷◌, ◌++◌, length, All, Option, Some, None, refl, subst, sym, option_map_or, All-nil, All-cons, All-append, All-take, JobNo, MemberId, Command, Reply, JobFields, Batch, Entry, Queue, IsFit, IsJobFields, is_mark, step, MayBegin, are_refused, behind_begin, given_in, left_after, opening, takes, IsPart, Result, Ok, Err}
use Rattle.member_steps.specs.Steps.{entry_with}
use Rattle.mas_types.specs.declared.commands.Command.TheVariants as command
use Rattle.mas_types.specs.declared.commands.Reply.TheVariants as reply
use Rattle.mas_types.specs.Queue.{is_member}
use Rattle.mas_types.specs.Step.{may_give}
use Rattle.queue_laws.specs.Runs.{IsGiven}
use Rattle.mas_complex.proofs.Batches.{unmarked_begin}
use Rattle.std.proofs.Math.Seq.{take-append_seam}
use Rattle.member_decks.specs.Steps.{AreOf}
use Rattle.member_decks.proofs.DeckLemmas.{given_each}

-- the command is within the limits, the member may give it, and it is no Mark
abbrev pub IsUnmarked : Queue → MemberId → Command → Type 0
IsUnmarked base by c = (may_give base by c ≡ true) × IsFit c × (is_mark c ≡ false)

-- such commands, or the first ones of them
module _ {T E : Type 0} (by : MemberId) (r : Result T E) (Q : Queue) (at : ℕ) (cs : List Command) (gave : List Entry) (part : IsPart r gave (given_in Q by at cs)) where
  part_each : (R : Command → Type 0) (P : Entry → Type 0) → ((c : Command) (a : Reply) → R c → P (entry_with by at c a)) → All R cs → All P gave
  part_each R P to all = by_part r part where
    each : All P (given_in Q by at cs)
    each = given_each by at R P to cs Q all

    by_part : (r : Result T E) → IsPart r gave (given_in Q by at cs) → All P gave
    by_part (Ok done) part = subst (All P) (sym part) each
    by_part (Err why) part = subst (All P) (take-append_seam gave part.0) (All-take P (length gave) (gave ++ part.0) (subst (All P) part.1 each))

  pub part_of : AreOf by at gave
  part_of = part_each (λ c. Unit {0}) (λ e. (e.by ≡ by) × (e.step ≡ at)) (λ c a u. (refl, refl)) (λ k d lt. tt)

  pub part_begins : (base : Queue) (js : List Batch) (printed : List ℕ) → All (IsUnmarked base by) cs → MayBegin base js printed gave
  part_begins base js printed all = unmarked_begin base js printed gave (part_each (IsUnmarked base by) (IsGiven base) (λ c a its. record { by = its.0; fit = its.1 }) all) (part_each (IsUnmarked base by) (λ e. is_mark e.command ≡ false) (λ c a its. its.2) all)

module _ (base : Queue) (by : MemberId) (member : is_member base.config by ≡ true) where
  pub takes_unmarked : (times : ℕ) (Q : Queue) (missing : ℕ) → All (IsUnmarked base by) (takes times Q by missing)
  takes_unmarked zero Q missing = All-nil (IsUnmarked base by)
  takes_unmarked (suc times) Q zero = All-nil (IsUnmarked base by)
  takes_unmarked (suc times) Q (suc missing) =
      All-cons (IsUnmarked base by) (command.Take (suc missing)) _ (member, tt, refl)
      (rest (λ n. takes times (step Q by (command.Take (suc missing))).0 by n) (takes_unmarked times (step Q by (command.Take (suc missing))).0) (left_after (suc missing) (step Q by (command.Take (suc missing))).1))
    where
      rest : (f : ℕ → List Command) → ((n : ℕ) → All (IsUnmarked base by) (f n)) → (left : Option ℕ) → All (IsUnmarked base by) (option_map_or f left [])
      rest f later None = All-nil (IsUnmarked base by)
      rest f later (Some left) = later left

  pub opening_unmarked : (Q : Queue) (fields : JobFields) (groups : ℕ) → IsJobFields fields → All (IsUnmarked base by) (opening Q by fields groups)
  opening_unmarked Q fields groups fit = All-cons (IsUnmarked base by) (command.Begin fields) _ (member, fit, refl) (behind (step Q by (command.Begin fields)).0 (step Q by (command.Begin fields)).1)
    where
      dropped : (b : Bool) (n : JobNo) → All (IsUnmarked base by) (if b then command.Drop n ∷ [] else [])
      dropped true n = All-cons (IsUnmarked base by) (command.Drop n) [] (member, tt, refl) (All-nil (IsUnmarked base by))
      dropped false n = All-nil (IsUnmarked base by)

      behind : (R : Queue) (r : Reply) → All (IsUnmarked base by) (behind_begin R by groups r)
      behind R (reply.Job n) = All-append (IsUnmarked base by) (takes groups R by groups) (if are_refused groups R by groups then command.Drop n ∷ [] else []) (takes_unmarked groups R groups) (dropped (are_refused groups R by groups) n)
      behind R _ = All-nil (IsUnmarked base by)
