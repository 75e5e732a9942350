use Rattle.std.proofs.Common.{◌≡◌, ◌∷◌, ◌++◌, [], true, nat_lt, length, refl, ap, ◌∙◌, rules}
use Rattle.mas_types.specs.declared.journals.Entry.{Entry}
use Rattle.mas_types.specs.Run.{run}
use Rattle.model_queue.proofs.Writes.{refill_same}
use Rattle.member_core.specs.Worlds.{kept, longest, settled}
use Rattle.member_core.specs.Events.{fate_by, is_any_good, is_nobody_up}
use Rattle.member_core.proofs.Restarts.{restarted}
use Rattle.member_core.proofs.starts.start_again.Goals as goal

pub returns-clause-moves : goal.returns-clause-moves
returns-clause-moves c =
    let w = c.args.world.now in
    let found = c.in_ok-found.found in
    let Q = run w.base (longest w.copies) in
    let up : is_nobody_up w.members ≡ true = search rules in
    let good : is_any_good w.copies ≡ true = search rules in
    let hit : c.is_past_kept-is_found.result ≡ nat_lt (length (kept w)) (length found) = search rules in
    let given : c.settle.new.batches ≡ settled (fate_by c.is_past_kept-is_found.result) w.journal.batches = rw (← c.fate_by.ensures, ← c.as_mut_slice.ensures.value) c.settle.ensures in
    let long : length c.settle.new.batches ≡ length w.journal.batches = search rules in
    restarted w found c.is_past_kept-is_found.result _ c.start_copies.new.copies c.rise_members.new.members c.end_start.new.world up good c.in_ok-found.ensures hit c.end_start.ensures
    (refill_same w.journal.batches c.settle.new.batches long ∙ given)
    (c.start_copies.ensures found c.in_ok-first.ensures c.in_ok-second.ensures)
    (c.rise_members.ensures found _ (c.in_ok-own.ensures ∙ ap (λ (x : Entry). found ++ x ∷ []) (c.restart_entry.ensures Q)) (c.in_ok-batch.ensures ∙ rw (c.new.ensures, c.restart_entry-2.ensures Q) refl))
