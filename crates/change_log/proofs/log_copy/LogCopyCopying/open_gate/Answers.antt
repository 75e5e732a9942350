use Rattle.std.proofs.Common.{ℕ, ◌∷◌, [], true, slice_set, sym, ◌∙◌, ap, subst, arith}
use Rattle.std.proofs.lemmas.List.{length-set}
use Rattle.spool_plant.specs.View.{disk_now}
use Rattle.ckpt_copy.specs.declared.layout.TheConstants.{GATE_OPEN}
use Rattle.ckpt_copy.specs.Changes.{Spreads, IsPut}
use Rattle.ckpt_copy.specs.Meanwhile.{Meanwhile}
use Rattle.change_log.specs.Logs.{gate_of}
use Rattle.change_log.specs.LogStates.{IsReady}
use Rattle.change_log.specs.LogRests.{Rests}
use Rattle.change_log.proofs.Gates.{room_opened, next_inside}
use Rattle.change_log.proofs.Putting.{opens_reads, opens_rests}
use Rattle.change_log.proofs.log_copy.LogCopyCopying.open_gate.Goals as goal

pub write_synced-requires : goal.write_synced-requires
write_synced-requires g c =
    let inside = next_inside c.args.self.now.gates c.requires.room in
    omega (arith, inside, c.next_slot-slot.ensures, c.gate_at.ensures, c.requires.ready.ready.large)

pub returns-in_err-write_synced-clause-during : goal.returns-in_err-write_synced-clause-during
returns-in_err-write_synced-clause-during g c told was next holds =
    let s = c.args.self.now in
    let view = g.P.Plant.view in
    opens_reads s.dev s.pages s.gates s.places s.next_places was next (view c.args.plant.now) (view c.write_synced.new.plant) c.requires.ready.four (next_inside s.gates c.requires.room) holds
    (subst (λ (m : ℕ). Meanwhile s.dev (Spreads m 1 (disk_now (view c.args.plant.now) s.dev)) (view c.args.plant.now) (view c.write_synced.new.plant))
    (c.gate_at.ensures ∙ ap gate_of c.next_slot-slot.ensures) (c.write_synced.ensures.during told))

pub returns-clause-during : goal.returns-clause-during
returns-clause-during g c told was next holds =
    let s = c.args.self.now in
    let view = g.P.Plant.view in
    opens_reads s.dev s.pages s.gates s.places s.next_places was next (view c.args.plant.now) (view c.write_synced.new.plant) c.requires.ready.four (next_inside s.gates c.requires.room) holds
    (subst (λ (m : ℕ). Meanwhile s.dev (Spreads m 1 (disk_now (view c.args.plant.now) s.dev)) (view c.args.plant.now) (view c.write_synced.new.plant))
    (c.gate_at.ensures ∙ ap gate_of c.next_slot-slot.ensures) (c.write_synced.ensures.during told))

pub returns-clause-opened : goal.returns-clause-opened
returns-clause-opened g c told was next holds =
    let s = c.args.self.now in
    let view = g.P.Plant.view in
    let disk = disk_now (view c.write_synced.new.plant) s.dev in
    let place = c.gate_at.ensures ∙ ap gate_of c.next_slot-slot.ensures in
    subst (λ (i : ℕ). Rests s.pages (slice_set s.gates i true) s.next_places next disk) (sym c.next_slot-slot.ensures)
    (opens_rests s.dev s.pages s.gates s.places s.next_places was next (view c.args.plant.now) (view c.write_synced.new.plant) c.requires.ready.four (next_inside s.gates c.requires.room) holds
    (subst (λ (m : ℕ). Meanwhile s.dev (Spreads m 1 (disk_now (view c.args.plant.now) s.dev)) (view c.args.plant.now) (view c.write_synced.new.plant)) place (c.write_synced.ensures.during told))
    (subst (λ (m : ℕ). IsPut m 1 (GATE_OPEN ∷ []) disk) place (c.in_ok-write_synced.ensures.put told)))

pub returns-clause-room : goal.returns-clause-room
returns-clause-room g c = room_opened c.args.self.now.gates c.next_slot-slot.result c.requires.ready.four c.requires.room c.next_slot-slot.ensures

pub returns-clause-ready : goal.returns-clause-ready
returns-clause-ready g c =
    let s = c.args.self.now in
    let kept = c.requires.ready in
    record {
      ready = subst (λ (k : ℕ). IsReady s.pages k) (sym (c.write_synced.ensures.cause.goes.size s.dev)) kept.ready;
      four = length-set s.gates c.next_slot-slot.result true ∙ kept.four;
      inside = kept.next_inside;
      next_inside = kept.next_inside;
    }
