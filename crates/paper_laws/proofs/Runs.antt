-- Runs of entries, one entry further.
use Rattle.std.proofs.Common.{◌≡◌, false, List, [], ◌∷◌, ◌++◌, All, refl}
use Rattle.std.proofs.lemmas.List.Elements.{All-weaker}
use Rattle.mas_types.specs.declared.ids.JobNo.{JobNo}
use Rattle.mas_types.specs.declared.ids.OutNo.{OutNo}
use Rattle.mas_types.specs.declared.journals.Entry.{Entry}
use Rattle.mas_types.specs.declared.queues.Queue.{Queue}
use Rattle.mas_types.specs.Run.{run}
use Rattle.mas_types.specs.Step.{step}
use Rattle.queue_laws.specs.Runs.{IsGiven}
use Rattle.queue_laws.proofs.RunLaws.{runs_keep_configuration, give_alike}
use Rattle.paper_laws.specs.Paper.{touches, touched}
use Rattle.paper_laws.proofs.Bools.{neither}

pub run_push : (Q : Queue) (es : List Entry) (e : Entry) → run Q (es ++ e ∷ []) ≡ (step (run Q es) e.by e.command).0
run_push Q [] e = refl
run_push Q (x ∷ es) e = run_push (step Q x.by x.command).0 es e

pub run_append : (Q : Queue) (es fs : List Entry) → run Q (es ++ fs) ≡ run (run Q es) fs
run_append Q [] fs = refl
run_append Q (x ∷ es) fs = run_append (step Q x.by x.command).0 es fs

pub touched_push : (Q : Queue) (es : List Entry) (e : Entry) (n : JobNo) (i : OutNo) → touched Q (es ++ e ∷ []) n i ≡ false → (touched Q es n i ≡ false) × (touches (run Q es) e n i ≡ false)
touched_push Q [] e n i h = (refl, (neither (touches Q e n i) false h).0)
touched_push Q (x ∷ es) e n i h =
    let parts : (touches Q x n i ≡ false) × (touched (step Q x.by x.command).0 (es ++ e ∷ []) n i ≡ false) = neither (touches Q x n i) (touched (step Q x.by x.command).0 (es ++ e ∷ []) n i) h in
    let rest : (touched (step Q x.by x.command).0 es n i ≡ false) × (touches (run (step Q x.by x.command).0 es) e n i ≡ false) = touched_push (step Q x.by x.command).0 es e n i parts.1 in
    (rw (parts.0, rest.0) refl, rest.1)

-- who may give a command stays after a run
pub given_after : (base : Queue) (K : List Entry) (e : Entry) → IsGiven base e → IsGiven (run base K) e
given_after base K e given = record { by = give_alike base (run base K) e.by e.command (runs_keep_configuration base K).config given.by; fit = given.fit }

pub all_given_after : (base : Queue) (K es : List Entry) → All (IsGiven base) es → All (IsGiven (run base K)) es
all_given_after base K es all = All-weaker (IsGiven base) (IsGiven (run base K)) (given_after base K) es all
