-- The names that many proofs take, each from where it is declared.
pub use Rattle.std.proofs.Common.{All, Bool, Err, List, None, Ok, OnOk, Option, Result, Some, [], ap, append-nil, append_assoc, arith, cond, false, if◌then◌else◌, inl, inr, length, min, nat_lt, refl, reverse, slice_get, subst, suc, sym, take, true, zero, ℕ, ⊎_elim, ◌%◌, ◌*◌, ◌++◌, ◌+◌, ◌-◌, ◌<◌, ◌==◌, ◌||◌, ◌∙◌, ◌∷◌, ◌≡◌, ◌≢◌, ◌≤◌}
pub use Rattle.std.proofs.lemmas.List.{get_or-reverse, length-append, length-reverse, length-take-le}
pub use Rattle.std.proofs.lemmas.List.Sums.{sum_by-cons}
pub use Rattle.std.proofs.lemmas.List.Elements.{All-append, All-cons, All-head, All-nil, All-push, All-tail, All-take, All-weaker}
pub use Rattle.std.proofs.lemmas.Option.{get_or_from_slice_get, slice_get_within}
pub use Rattle.std.specs.List.{count_by, find}
pub use Rattle.std.specs.Option.{option_copied, option_map_or}
pub use Rattle.ckpt_tables.specs.declared.tables.Tables.{Tables}
pub use Rattle.mas_complex.proofs.Names.{GroupNo, IsThere, IsThereUnless, JobNo, Kept, PairState, Text, bytes_on, eq-eqb, fated, is_mark, nat_tests}
pub use Rattle.member_decks.specs.Names.{begun, run, step, MayBegin, HasTexts, IsSynced, Spools, spools_at, IsReplyNamed, page_bytes, Command, Ckpt1, Ckpt2, Spool, MemberId, JobFields, Batch, Entry, Queue, none_lost, NodeNo, BothLost, ConsoleFault, Halted, NoMemory, SparesBut, stopped_in, entry_of, Tell, TellSound, Goes, View, disk_now, slice, Disk}
pub use Rattle.mas_complex.specs.Spool.{IsGroupOf, IsHeldBy, WritesGroup, device_of, is_within, page_part, page_start}
pub use Rattle.mas_types.specs.Fit.{AreLines, IsFit, IsJobFields}
pub use Rattle.mas_types.specs.Owners.{free_count, groups_needed, is_free, is_members, member_count, taken}
pub use Rattle.mas_types.specs.declared.commands.Reply.{Reply}
pub use Rattle.mas_types.specs.declared.jobs.Text.TheVariants.{Gone, Whole}
pub use Rattle.mas_types.specs.declared.queues.Config.{Config}
pub use Rattle.mas_types.specs.declared.queues.Owner.{Owner}
pub use Rattle.member_decks.specs.Batches.{AreAll, IsFlyingBatch, IsKeptBatch}
pub use Rattle.member_decks.specs.Decks.{are_refused, behind_begin, closes, ends_as, ends_begun, finishing, given_in, left_after, opening, takes}
pub use Rattle.member_decks.specs.Keeping.{CopyCauses, IsOnCopies}
pub use Rattle.member_decks.specs.Spooling.{AreQuiet, GroupsKept, IsGroupKept, OnVolumes, Rise, SpoolCauses, StandBelow, answer_of, lies_there, page_in}
pub use Rattle.member_decks.specs.Taking.{Asked, Gives, GivesAt, IsPart, asked}
pub use Rattle.member_steps.proofs.CourseLemmas.{papers_act, papers_none, papers_on, wires_none, wires_then}
pub use Rattle.member_steps.proofs.SpareLemmas.{sparing_done, sparing_failed, sparing_halted, sparing_then}
pub use Rattle.member_steps.proofs.TextLemmas.{texts_after}
pub use Rattle.member_steps.proofs.WriteLemmas.{run_append}
pub use Rattle.member_steps.specs.Batches.{last_reply}
pub use Rattle.member_steps.specs.Calls.{IsOnlyOn}
pub use Rattle.member_steps.specs.Leaving.{AreTheirOwn, OthersLeaveTexts, ToldAreTheirOwn}
pub use Rattle.member_steps.specs.Spares.{is_stop}
pub use Rattle.queue_laws.proofs.Finds.{find-All, test_cases}
pub use Rattle.spool_plant.specs.Acts.{Acts, OnDevice, Written}
