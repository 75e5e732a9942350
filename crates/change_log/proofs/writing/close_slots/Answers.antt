use Rattle.std.proofs.Common.{◌≡◌, ℕ, ◌∷◌, [], false, subst, ◌∙◌, arith}
use Rattle.spool_plant.specs.View.{disk_now}
use Rattle.ckpt_copy.specs.Changes.{Spreads, IsPut}
use Rattle.ckpt_copy.specs.Meanwhile.{Meanwhile}
use Rattle.ckpt_copy.specs.Moments.{meanwhile_none, meanwhile_then}
use Rattle.ckpt_copy.specs.Reading.{AllRead}
use Rattle.ckpt_copy.proofs.Causing.{caused_then, caused_none}
use Rattle.change_log.specs.Logs.{reads, slots}
use Rattle.change_log.specs.LogRests.{Closing}
use Rattle.change_log.specs.LogStaying.{rests_all}
use Rattle.change_log.proofs.Gates.{same_default}
use Rattle.change_log.proofs.Gating.{closing_during, closing_on, closing_past, closing_done}
use Rattle.change_log.proofs.Homing.{closing_first}
use Rattle.change_log.proofs.writing.close_slots.Goals as goal

pub loop-slot-init : goal.loop-slot-init
loop-slot-init g c = record {
  cause = caused_none _ _ _;
  during = λ told n places pages rests home. meanwhile_none c.args.dev (AllRead reads pages) _ (rests_all n c.args.gates.now places pages _ rests);
  closing = λ told n places pages rests home. closing_first n c.args.gates.now places pages _ rests home;
}

pub loop-slot-preserved-then-not-gates-slot : goal.loop-slot-preserved-then-not-gates-slot
loop-slot-preserved-then-not-gates-slot g c =
    let now = c.loop-slot.invariant in
    let inside = c.loop-slot-test.true in
    let four = c.told-gates in
    record {
      cause = now.cause;
      during = now.during;
      closing = λ told n places pages rests home. closing_past n c.args.gates.now c.loop-slot.slot pages (disk_now (g.P.Plant.view c.loop-slot.plant) c.args.dev) inside
          (same_default c.args.gates.now c.loop-slot.slot false _ (omega (arith, inside, four)) ∙ c.if-not-gates-slot.true) (now.closing told n places pages rests home);
    }

pub returns-in_err-write_synced-clause-during : goal.returns-in_err-write_synced-clause-during
returns-in_err-write_synced-clause-during g c told n places pages rests home =
    let now = c.loop-slot.invariant in
    let inside = c.loop-slot-test.true in
    let four = c.told-gates in
    meanwhile_then c.args.dev (AllRead reads pages) _ _ _ (now.during told n places pages rests home)
    (closing_during c.args.dev n c.args.gates.now c.loop-slot.slot pages (g.P.Plant.view c.loop-slot.plant) (g.P.Plant.view c.write_synced.new.plant) inside
    (same_default c.args.gates.now c.loop-slot.slot false _ (omega (arith, inside, four)) ∙ c.if-not-gates-slot.false)
    (subst (λ (m : ℕ). Meanwhile c.args.dev (Spreads m 1 (disk_now (g.P.Plant.view c.loop-slot.plant) c.args.dev)) (g.P.Plant.view c.loop-slot.plant) (g.P.Plant.view c.write_synced.new.plant)) c.gate_at.ensures (c.write_synced.ensures.during told))
    (now.closing told n places pages rests home))

pub loop-slot-preserved : goal.loop-slot-preserved
loop-slot-preserved g c =
    let now = c.loop-slot.invariant in
    let inside = c.loop-slot-test.true in
    let four = c.told-gates in
    let view = g.P.Plant.view in
    record {
      cause = caused_then _ _ _ _ _ _ now.cause c.in_ok-write_synced.ensures.cause;
      during = λ told n places pages rests home. meanwhile_then c.args.dev (AllRead reads pages) _ _ _ (now.during told n places pages rests home)
          (closing_during c.args.dev n c.args.gates.now c.loop-slot.slot pages (view c.loop-slot.plant) (view c.write_synced.new.plant) inside
          (same_default c.args.gates.now c.loop-slot.slot false _ (omega (arith, inside, four)) ∙ c.if-not-gates-slot.false)
          (subst (λ (m : ℕ). Meanwhile c.args.dev (Spreads m 1 (disk_now (view c.loop-slot.plant) c.args.dev)) (view c.loop-slot.plant) (view c.write_synced.new.plant)) c.gate_at.ensures (c.write_synced.ensures.during told))
          (now.closing told n places pages rests home));
      closing = λ told n places pages rests home. closing_on c.args.dev n c.args.gates.now c.loop-slot.slot pages (view c.loop-slot.plant) (view c.write_synced.new.plant) inside
          (same_default c.args.gates.now c.loop-slot.slot false _ (omega (arith, inside, four)) ∙ c.if-not-gates-slot.false)
          (subst (λ (m : ℕ). Meanwhile c.args.dev (Spreads m 1 (disk_now (view c.loop-slot.plant) c.args.dev)) (view c.loop-slot.plant) (view c.write_synced.new.plant)) c.gate_at.ensures (c.write_synced.ensures.during told))
          (subst (λ (m : ℕ). IsPut m 1 (0 ∷ []) (disk_now (view c.write_synced.new.plant) c.args.dev)) c.gate_at.ensures (c.in_ok-write_synced.ensures.put told))
          (now.closing told n places pages rests home);
    }

pub returns-clause-closed : goal.returns-clause-closed
returns-clause-closed g c told n places pages rests home =
    let last : c.loop-slot.slot ≡ slots = omega (arith, c.loop-slot-test.false, c.loop-slot.auto.slot-end) in
    let disk = disk_now (g.P.Plant.view c.loop-slot.plant) c.args.dev in
    closing_done n c.args.gates.now pages disk (subst (λ (m : ℕ). Closing n c.args.gates.now m pages disk) last (c.loop-slot.invariant.closing told n places pages rests home))
