-- Which entries are allowed: those without a Mark, and one more behind others.
use Rattle.std.proofs.Common.{◌≡◌, ℕ, ◌+◌, ◌≤◌, nat_le, Bool, true, false, not, ◌||◌, List, [], ◌∷◌, ◌++◌, Option, Some, All, sym, subst, arith}
use Rattle.std.proofs.lemmas.Bool.Decides.{nat_tests}
use Rattle.std.proofs.lemmas.List.Elements.{All-head, All-tail}
use Rattle.mas_types.specs.declared.ids.MemberId.{MemberId}
use Rattle.mas_types.specs.declared.ids.JobNo.{JobNo}
use Rattle.mas_types.specs.declared.ids.OutNo.{OutNo}
use Rattle.mas_types.specs.declared.jobs.Output.{Output}
use Rattle.mas_types.specs.declared.commands.Command.{Command}
use Rattle.mas_types.specs.declared.commands.Command.TheVariants as command
use Rattle.mas_types.specs.declared.journals.Entry.{Entry}
use Rattle.mas_types.specs.declared.queues.Queue.{Queue}
use Rattle.mas_types.specs.Ids.{is_somebody, same_member}
use Rattle.mas_types.specs.Queue.{output_at}
use Rattle.mas_types.specs.Run.{run}
use Rattle.mas_types.specs.Step.{step}
use Rattle.queue_laws.specs.Runs.{IsGiven}
use Rattle.paper_laws.specs.Counts.{Counts, IsAllowed, IsMarkRight, may_mark, AreAllowed, count_after, counts_after, is_mark}
use Rattle.paper_laws.proofs.Commands.{counts_both}

pub plain_right : (Q : Queue) (m : MemberId) (printed : ℕ) (c : Command) → is_mark c ≡ false → IsMarkRight Q m printed c
plain_right Q m printed (command.Mark job index at) plain = absurd (cc)
plain_right Q m printed _ plain = tt

-- a Mark of the output that is busy at the member, up to what it has printed
pub mark_right : (Q : Queue) (m : MemberId) (printed at : ℕ) (n : JobNo) (i : OutNo) (o : Output) → is_somebody m ≡ true → output_at Q n i ≡ Some o → at ≤ o.mark + printed → IsMarkRight Q m printed (command.Mark n i at)
mark_right Q m printed at n i o some found le = (some, subst (λ (x : Option Output). may_mark m printed at x ≡ true) (sym found) (upto (same_member o.busy m) at (o.mark + printed) le))
  where
    upto : (b : Bool) (at k : ℕ) → at ≤ k → (not b || nat_le at k) ≡ true
    upto b at k le = grind (arith, nat_tests)

pub plain_allowed : (base Q : Queue) (counts : Counts) (es : List Entry) → All (IsGiven base) es → All (λ e. is_mark e.command ≡ false) es → AreAllowed base Q counts es
plain_allowed base Q counts [] given plain = tt
plain_allowed base Q counts (e ∷ es) given plain = (
  record { given = All-head (IsGiven base) e es given; mark = plain_right Q e.by (counts e.by) e.command (All-head (λ x. is_mark x.command ≡ false) e es plain) },
  plain_allowed base (step Q e.by e.command).0 (count_after e counts) es (All-tail (IsGiven base) e es given) (All-tail (λ x. is_mark x.command ≡ false) e es plain),
)

pub allowed_push : (base Q : Queue) (counts : Counts) (es : List Entry) (e : Entry) → AreAllowed base Q counts es → IsAllowed base (run Q es) (counts_after es counts) e → AreAllowed base Q counts (es ++ e ∷ [])
allowed_push base Q counts [] e are is = (is, tt)
allowed_push base Q counts (x ∷ es) e are is = (
  are.0,
  allowed_push base (step Q x.by x.command).0 (count_after x counts) es e are.1 (record {
    given = is.given;
    mark = subst (λ (n : ℕ). IsMarkRight (run (step Q x.by x.command).0 es) e.by n e.command) (sym (counts_both x es counts e.by)) is.mark;
  }),
)
