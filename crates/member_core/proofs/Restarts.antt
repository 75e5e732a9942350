-- What a start leaves, put together from its parts.
use Rattle.std.proofs.Common.{◌≡◌, Bool, true, nat_lt, List, [], length, refl, ◌∙◌}
use Rattle.mas_types.specs.declared.journals.Entry.{Entry}
use Rattle.mas_types.specs.declared.journals.Batch.{Batch}
use Rattle.mas_types.specs.Ids.{nobody}
use Rattle.mas_types.specs.Run.{run}
use Rattle.member_core.specs.declared.worlds.CopyAt.{CopyAt}
use Rattle.member_core.specs.declared.worlds.Event.TheVariants as event
use Rattle.member_core.specs.declared.worlds.MemberAt.{MemberAt}
use Rattle.member_core.specs.declared.worlds.World.{World}
use Rattle.member_core.specs.Worlds.{kept, longest, on_copies, settled, with_batches}
use Rattle.member_core.specs.Events.{after_start, fate_by, is_any_good, is_nobody_up, moved, restart_entry, risen}

pub restarted : (w : World) (found : List Entry) (hit : Bool) (bs : List Batch) (copies : List CopyAt) (members : List MemberAt) (new : World)
    → is_nobody_up w.members ≡ true → is_any_good w.copies ≡ true → found ≡ longest w.copies → hit ≡ nat_lt (length (kept w)) (length found)
    → new ≡ record w { journal = with_batches bs; copies = copies; members = members; holder = nobody; unsynced = [] }
    → bs ≡ settled (fate_by hit) w.journal.batches
    → copies ≡ on_copies (after_start hit found) (after_start hit found) w.copies
    → members ≡ risen found (restart_entry (run w.base (longest w.copies))) w.members
    → new ≡ moved w event.Start
restarted w found hit bs copies members new up good found_is hit_is new_is bs_is copies_is members_is =
    new_is ∙ rw (up, good, bs_is, copies_is, members_is, hit_is, found_is) refl
