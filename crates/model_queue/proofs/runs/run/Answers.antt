use Rattle.std.proofs.Common.{◌≡◌, ◌∙◌, subst, sym}
use Rattle.std.specs.List.{AllByRecursion}
use Rattle.mas_types.specs.Step.{step}
use Rattle.queue_laws.specs.Runs.{IsGiven}
use Rattle.queue_laws.proofs.Configuration.{keeps_configuration}
use Rattle.queue_laws.proofs.RunLaws.{give_alike}
use Rattle.queue_laws.proofs.SoundAll.{keeps_sound}
use Rattle.model_queue.proofs.RunLemmas.{at_place, run_more}
use Rattle.model_queue.proofs.runs.run.Goals as goal

pub play-requires-clause-fit : goal.play-requires-clause-fit
play-requires-clause-fit c =
    let all = subst (AllByRecursion (IsGiven c.args.base.now)) (sym c.as_slice-entry-items.ensures) c.requires.given in
    (at_place (IsGiven c.args.base.now) c.as_slice-entry-items.result.now c.loop-entry.entry-index c.entry-item.result all c.loop-entry-test.true c.entry-item.is).fit

pub play-requires-clause-by : goal.play-requires-clause-by
play-requires-clause-by c =
    let e = c.entry-item.result in
    let all = subst (AllByRecursion (IsGiven c.args.base.now)) (sym c.as_slice-entry-items.ensures) c.requires.given in
    let given = at_place (IsGiven c.args.base.now) c.as_slice-entry-items.result.now c.loop-entry.entry-index e all c.loop-entry-test.true c.entry-item.is in
    give_alike c.args.base.now c.loop-entry.queue e.by e.command c.loop-entry.invariant.config given.by

pub loop-entry-preserved : goal.loop-entry-preserved
loop-entry-preserved c =
    let e = c.entry-item.result in
    let q = c.loop-entry.queue in
    let base = c.args.base.now in
    let es = c.as_slice-entry-items.result.now in
    let all = subst (AllByRecursion (IsGiven base)) (sym c.as_slice-entry-items.ensures) c.requires.given in
    let given = at_place (IsGiven base) es c.loop-entry.entry-index e all c.loop-entry-test.true c.entry-item.is in
    let new : c.play.new.queue ≡ (step q e.by e.command).0 = c.in_ok-play.ensures in
    rw new record {
      value = run_more base q es c.loop-entry.entry-index e c.loop-entry-test.true c.entry-item.is c.loop-entry.invariant.value;
      sound = keeps_sound q e.by e.command c.loop-entry.invariant.sound given.fit (give_alike base q e.by e.command c.loop-entry.invariant.config given.by);
      config = (keeps_configuration q e.by e.command).config ∙ c.loop-entry.invariant.config;
    }
