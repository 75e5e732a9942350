use Rattle.std.proofs.Common.{◌≡◌, ◌<◌, ◌+◌, List, length, map, set, Some, None, refl, sym, ap, ◌∙◌, arith}
use Rattle.std.specs.Prelude.{is_none, position}
use Rattle.std.proofs.lemmas.List.{length-set}
use Rattle.std.proofs.lemmas.Option.{slice_get_within}
use Rattle.mas_types.specs.declared.jobs.Output.{Output}
use Rattle.mas_types.specs.Owners.{groups_needed, output_places}
use Rattle.lay_bytes.specs.declared.records.OutRec.{OutRec}
use Rattle.lay_bytes.specs.Used.{used}
use Rattle.queue_slots.specs.Listed.{listed}
use Rattle.queue_slots.proofs.Changes.{all_used, free_at}
use Rattle.output_queue.specs.Outputs.{order_of, new_rec}
use Rattle.output_queue.proofs.OutputLemmas.{length-outputs}
use Rattle.track_groups.specs.Groups.{given}
use Rattle.page_marks.specs.Marks.{marked, output_page, Touches}
use Rattle.page_marks.proofs.MarkLemmas.{touches_then}
use Rattle.queue_effect.specs.Gone.{output_of}
use Rattle.queue_effect.specs.Standing.{AreFit}
use Rattle.queue_effect.proofs.FitLemmas.{length-used_set, output_added_fit, refill_whole}
use Rattle.queue_effect.proofs.OrderLemmas.{output_added_orders}
use Rattle.queue_effect.proofs.Marking.{output_added_touched}
use Rattle.queue_effect.proofs.Showing.{some_outputs}
use Rattle.queue_effect.proofs.ending.add_output.Goals as goal

pub unreachable-requires : goal.unreachable-requires
unreachable-requires c =
    let slots = c.args.tables.now.outputs in
    let none : position is_none slots ≡ None = rw c.as_slice.ensures at (sym c.free_slot.ensures ∙ c.in_default.is) in
    let used_all : length (used slots) ≡ length slots = all_used slots none in
    let room : length (used slots) < length slots = c.requires.slot in
    omega arith

pub unreachable-requires-in_default-add : goal.unreachable-requires-in_default-add
unreachable-requires-in_default-add c =
    let slots = c.args.tables.now.outputs in
    let os : List Output = map output_of (listed order_of slots) in
    let full : length os ≡ length slots = (rw c.as_mut_slice.ensures.value at c.in_default-add.ensures.full) os (some_outputs slots) in
    let used_all : length (used slots) ≡ length os = length-outputs slots os (some_outputs slots) in
    let room : length (used slots) < length slots = c.requires.slot in
    omega arith

pub returns-clause-stands : goal.returns-clause-stands
returns-clause-stands c = λ Q stands.
    let t = c.args.tables.now in
    let added = (rw c.as_mut_slice.ensures.value at c.in-Ok.ensures.added) Q.outputs stands.outputs in
    let placed = c.in-Ok.ensures.placed in
    let r : OutRec = new_rec c.args.job c.args.index c.args.output.now t.order in
    let is : c.add.new.outputs ≡ set t.outputs placed.0 (Some r) = placed.2 ∙ ap (λ os. set os placed.0 (Some r)) c.as_mut_slice.ensures.value in
    let whole = refill_whole t.outputs c.add.new.outputs (sym (ap length is ∙ length-set t.outputs placed.0 (Some r))) in
    rw (c.give_groups.ensures.value, whole, c.groups_needed.ensures)
    record {
      config = stands.config;
      jobs = stands.jobs;
      outputs = added;
      owners = ap (given c.args.by (output_places c.args.job c.args.index (groups_needed c.args.output.now.text))) stands.owners;
      members = stands.members;
      routes = stands.routes;
      lines = stands.lines;
      last = stands.last;
    }

pub returns-clause-used : goal.returns-clause-used
returns-clause-used c =
    let t = c.args.tables.now in
    let placed = c.in-Ok.ensures.placed in
    let r : OutRec = new_rec c.args.job c.args.index c.args.output.now t.order in
    let is : c.add.new.outputs ≡ set t.outputs placed.0 (Some r) = placed.2 ∙ ap (λ os. set os placed.0 (Some r)) c.as_mut_slice.ensures.value in
    let whole = refill_whole t.outputs c.add.new.outputs (sym (ap length is ∙ length-set t.outputs placed.0 (Some r))) in
    let free = free_at t.outputs placed.0 (rw c.as_mut_slice.ensures.value at placed.1) in
    rw (c.give_groups.ensures.value, whole, is) (length-used_set t.outputs placed.0 r free)

pub returns-clause-fits : goal.returns-clause-fits
returns-clause-fits c =
    let t = c.args.tables.now in
    let placed = c.in-Ok.ensures.placed in
    let r : OutRec = new_rec c.args.job c.args.index c.args.output.now t.order in
    let is : c.add.new.outputs ≡ set t.outputs placed.0 (Some r) = placed.2 ∙ ap (λ os. set os placed.0 (Some r)) c.as_mut_slice.ensures.value in
    let whole = refill_whole t.outputs c.add.new.outputs (sym (ap length is ∙ length-set t.outputs placed.0 (Some r))) in
    c.give_groups.ensures.fit (rw whole (output_added_fit t c.requires.fit c.args.job c.args.index c.args.output.now placed.0 c.add.new.outputs is))

pub returns-clause-orders : goal.returns-clause-orders
returns-clause-orders c = λ had.
    let t = c.args.tables.now in
    let placed = c.in-Ok.ensures.placed in
    let r : OutRec = new_rec c.args.job c.args.index c.args.output.now t.order in
    let is : c.add.new.outputs ≡ set t.outputs placed.0 (Some r) = placed.2 ∙ ap (λ os. set os placed.0 (Some r)) c.as_mut_slice.ensures.value in
    let whole = refill_whole t.outputs c.add.new.outputs (sym (ap length is ∙ length-set t.outputs placed.0 (Some r))) in
    c.give_groups.ensures.orders (rw (whole, is) (output_added_orders t.jobs t.outputs placed.0 r had))

pub returns-clause-touches : goal.returns-clause-touches
returns-clause-touches c fit =
    let t = c.args.tables.now in
    let placed = c.in-Ok.ensures.placed in
    let r : OutRec = new_rec c.args.job c.args.index c.args.output.now t.order in
    let free : position is_none t.outputs ≡ Some placed.0 = rw c.as_mut_slice.ensures.value at placed.1 in
    let here : position is_none t.outputs ≡ Some c.in-Some.at = rw c.as_slice.ensures at (sym c.free_slot.ensures ∙ c.in-Some.is) in
    let same : c.in-Some.at ≡ placed.0 = cc in
    let is : c.add.new.outputs ≡ set t.outputs placed.0 (Some r) = placed.2 ∙ ap (λ os. set os placed.0 (Some r)) c.as_mut_slice.ensures.value in
    let whole = refill_whole t.outputs c.add.new.outputs (sym (ap length is ∙ length-set t.outputs placed.0 (Some r))) in
    let added = record t { outputs = set t.outputs placed.0 (Some r); order = t.order + 1 } in
    let marks = marked 0 (marked (output_page t.config placed.0) c.args.marks.now.pages) in
    let one : Touches c.args.marks.now.pages marks t added = output_added_touched c.args.marks.now.pages c.args.marks.now.many t fit placed.0 (Some r) (t.order + 1) (slice_get_within t.outputs placed.0 None (free_at t.outputs placed.0 free)) in
    let fits : AreFit added = output_added_fit t fit c.args.job c.args.index c.args.output.now placed.0 (set t.outputs placed.0 (Some r)) refl in
    let two = (rw (c.put.ensures, c.put_output.ensures, whole, is, same) at c.give_groups.ensures.touches) fits in
    touches_then c.args.marks.now.pages marks c.give_groups.new.marks.pages t added c.give_groups.new.tables one two
