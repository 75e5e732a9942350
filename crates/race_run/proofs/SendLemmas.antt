-- What a race hands to another thread may cross: its members, its passes, the gate with the shared value, and its lines.
-- Each type by itself, since one `search` of them all ends at its limits. A field of type X has the row `X.the_field.row`.
use denote.RattleType.{RattleType}
use denote.Ref.{NamedLft}
use mathlib.Core.List.{[], ◌∷◌}
use denote.Struct.Declared.{shape}
use denote.Struct.Field.{unit-field}
use denote.Param.Send.{AllSend, fixed_send, view_send, IsSend, IsSync, sendable, plain_send, plain_sync, such_send, such_sync, param_send, param_sync, recorded_send, recorded_sync, struct_send, struct_sync, enum_send, enum_sync, array_send, array_sync, number_array_send, number_array_sync}
use Rattle.std.proofs.Crossing.{Vec-send, crosses}
use Rattle.std.specs.contracts.result.Result as results
use Rattle.atomic_table.proofs.shared.Seat.TheSendSync.{the_send as seat_send}
use Rattle.atomic_table.proofs.shared.Shared.TheSendSync.{the_sync as table_sync}
use Rattle.atomic_table.proofs.send_lease.SendLease.TheSendSync.{the_sync as lease_sync}
use Rattle.spool_plant.specs.declared.plant.Plant.{Ghosts as PlantGhosts}
use Rattle.ckpt_copy.specs.declared.copying.Copying.{Ghosts as CopyGhosts}
use Rattle.ckpt_form.specs.declared.steady.Steady.{Ghosts as SteadyGhosts}
use Rattle.mas_race.specs.declared.shared.Beginning.{Ghosts as BeginningGhosts}
use Rattle.member_gate.specs.declared.kept.Kept.{Ghosts as KeptGhosts}
use Rattle.mas_types.specs.contracts.lists.List as lists
use Rattle.change_log.specs.contracts.log_copy.LogCopy as forms
use Rattle.mas_types.specs.contracts.ids.Class.{the_row as class_row}
use Rattle.mas_types.specs.contracts.ids.Dev as devices
use Rattle.mas_types.specs.contracts.ids.MemberId.{the_field as id_field}
use Rattle.mas_types.specs.contracts.ids.Page.{the_row as page_row}
use Rattle.mas_types.specs.contracts.texts.Lines.{the_row as lines_row}
use Rattle.mas_types.specs.contracts.jobs.JobFields.{the_field as fields_field}
use Rattle.mas_types.specs.contracts.jobs.OutSpec.{the_row as spec_row}
use Rattle.mas_types.specs.contracts.commands.Command.{the_field as command_field}
use Rattle.mas_types.specs.contracts.commands.Reply.{the_field as reply_field}
use Rattle.mas_types.specs.contracts.journals.Entry.{the_row as entry_row}
use Rattle.brief_journal.specs.contracts.entries.BriefCommand.{the_field as brief_command_field}
use Rattle.brief_journal.specs.contracts.entries.BriefReply.{the_field as brief_reply_field}
use Rattle.brief_journal.specs.contracts.entries.BriefEntry.{the_row as brief_row}
use Rattle.brief_journal.specs.contracts.batches.BriefEntries.{the_row as entries_row}
use Rattle.brief_journal.specs.contracts.batches.BriefBatch.{the_row as batch_row}
use Rattle.brief_journal.specs.contracts.journals.BriefJournal.{the_field as journal_field}
use Rattle.mas_types.specs.contracts.queues.Owner.{the_row as owner_row}
use Rattle.mas_types.specs.contracts.queues.Setting.{the_row as setting_row}
use Rattle.mas_types.specs.contracts.queues.Route.{the_row as route_row}
use Rattle.mas_types.specs.contracts.queues.LineCount.{the_row as count_row}
use Rattle.brief_queue.specs.contracts.texts.BriefText.{the_row as text_row}
use Rattle.brief_queue.specs.contracts.jobs.BriefJob.{the_row as job_row}
use Rattle.brief_queue.specs.contracts.jobs.BriefOutput.{the_row as output_row}
use Rattle.brief_queue.specs.contracts.queues.BriefQueue.{the_field as queue_field}
use Rattle.brief_queue.proofs.Sent.{told_send}
use Rattle.lock_cycle.specs.contracts.book.LockBook.{the_row as book_row}
use Rattle.mas_complex.specs.contracts.renewals.Renewal.{the_row as renewal_row}
use Rattle.mas_complex.specs.contracts.renewals.Renewals.{the_field as renewals_field}
use Rattle.mas_complex.specs.contracts.noting.Note.{the_field as note_field}
use Rattle.mas_complex.specs.contracts.complex.Complex as complexes
use Rattle.mas_race.specs.contracts.shared.Shared as shareds
use Rattle.member_gate.specs.contracts.pass.Pass as passes
use Rattle.member_gate.specs.contracts.pass.Gate as gates
use Rattle.member_node.specs.contracts.checkpoint.Checkpoint.{the_field as checkpoint_field}
use Rattle.job_select.specs.contracts.index.Index as indexes
use Rattle.job_select.specs.contracts.kept.KeptIndex as kepts
use Rattle.member_node.specs.contracts.member.Member as members
use Rattle.member_node.specs.contracts.member.NodeNo as refusals
use Rattle.race_run.specs.contracts.lines.Course as courses
use Rattle.script_lang.specs.contracts.types.Ask.{the_field as ask_field}
use Rattle.script_lang.specs.contracts.types.Step.{the_row as step_row}

ruleset sends = (tt, plain_send, such_send, param_send, recorded_send, struct_send, enum_send, array_send, number_array_send)

ruleset syncs = (tt, plain_sync, such_sync, param_sync, recorded_sync, struct_sync, enum_sync, array_sync, number_array_sync)

-- ALL OF SEVERAL, as the fields of a struct are
one_send : (A : RattleType) → IsSend A → AllSend (A ∷ [])
one_send A a = (a, tt)

three_send : (A B C : RattleType) → IsSend A → IsSend B → IsSend C → AllSend (A ∷ B ∷ C ∷ [])
three_send A B C a b c = (a, (b, (c, tt)))

pub two_send : (A B : RattleType) → IsSend A → IsSend B → AllSend (A ∷ B ∷ [])
two_send A B a b = (a, (b, tt))

pub four_send : (A B C D : RattleType) → IsSend A → IsSend B → IsSend C → IsSend D → AllSend (A ∷ B ∷ C ∷ D ∷ [])
four_send A B C D a b c d = (a, (b, (c, (d, tt))))

five_send : (A B C D E : RattleType) → IsSend A → IsSend B → IsSend C → IsSend D → IsSend E → AllSend (A ∷ B ∷ C ∷ D ∷ E ∷ [])
five_send A B C D E a b c d e = (a, (b, (c, (d, (e, tt)))))

pub list_send : (T : RattleType) → IsSend T → IsSend (lists.the_row T)
list_send T s = search (sendable, crosses) depth 40 fits 20000

pub lines_send : IsSend lines_row
lines_send = search (sendable, crosses) depth 40 fits 20000

-- COMMANDS and entries

class_send : IsSend class_row
class_send = search sends depth 40 fits 20000

id_send : IsSend id_field.row
id_send = search sends depth 40 fits 20000

fields_send : IsSend fields_field.row
fields_send = search sends depth 40 fits 20000

spec_send : IsSend spec_row
spec_send = search (lines_send, sends) depth 40 fits 20000

command_send : IsSend command_field.row
command_send = search (list_send, class_send, lines_send, fields_send, spec_send, sends) depth 300 fits 100000

reply_send : IsSend reply_field.row
reply_send = search (lines_send, sends) depth 100 fits 100000

entry_send : IsSend entry_row
entry_send = search (id_send, command_send, reply_send, sends) depth 100 fits 100000

brief_command_send : IsSend brief_command_field.row
brief_command_send = search sends depth 300 fits 100000

brief_reply_send : IsSend brief_reply_field.row
brief_reply_send = search sends depth 100 fits 100000

brief_send : IsSend brief_row
brief_send = search (id_send, brief_command_send, brief_reply_send, sends) depth 100 fits 100000

entries_send : IsSend entries_row
entries_send = search (brief_send, sendable, crosses) depth 100 fits 100000

batch_send : IsSend batch_row
batch_send = search (id_send, entries_send, sendable, crosses) depth 100 fits 100000

journal_send : IsSend journal_field.row
journal_send = search (list_send, batch_send, sendable, crosses) depth 100 fits 100000

-- A QUEUE

owner_send : IsSend owner_row
owner_send = search sends depth 100 fits 100000

setting_send : IsSend setting_row
setting_send = search (list_send, class_send, sends) depth 100 fits 100000

route_send : IsSend route_row
route_send = search sends depth 100 fits 100000

count_send : IsSend count_row
count_send = search sends depth 100 fits 100000

text_send : IsSend text_row
text_send = search (told_send, sendable, crosses) depth 100 fits 100000

job_send : IsSend job_row
job_send = search (text_send, fields_send, sendable, crosses) depth 100 fits 100000

output_send : IsSend output_row
output_send = search (text_send, sendable, crosses) depth 100 fits 100000

queue_send : IsSend queue_field.row
queue_send = search (list_send, job_send, output_send, owner_send, setting_send, route_send, count_send, sendable, crosses) depth 40 fits 20000

-- A MEMBER

page_send : IsSend page_row
page_send = search sends depth 100 fits 100000

checkpoint_send : IsSend checkpoint_field.row
checkpoint_send = search (list_send, page_send, owner_send, setting_send, route_send, count_send, sendable, crosses) depth 40 fits 20000

-- the chains of an index, each a map whose values are lists of slots
ruleset maps = (view_send, fixed_send, Vec-send, recorded_send, struct_send, three_send, two_send, one_send, array_send, number_array_send, plain_send)

index_send : IsSend indexes.the_field.row
index_send = struct_send (shape indexes.the_type) (
  search (list_send, sendable, crosses) depth 40 fits 20000,
  (
    search (list_send, sendable, crosses) depth 40 fits 20000,
    (search maps depth 40 fits 20000, (search maps depth 40 fits 20000, (search maps depth 40 fits 20000, (search sends depth 40 fits 20000, (search sends depth 40 fits 20000, tt))))),
  ),
)

kept_send : IsSend kepts.the_field.row
kept_send = struct_send (shape kepts.the_type) (index_send, (search sends, tt))

member_send : IsSend members.the_field.row
member_send = search (list_send, page_send, entry_send, checkpoint_send, kept_send, one_send, sends) depth 100 fits 100000

pub member_row : IsSend members.the_row
member_row = search (member_send, recorded_send)

pub refusal_send : IsSend refusals.the_row
refusal_send = search sends depth 100 fits 100000

pub result_send : (A B : RattleType) → IsSend A → IsSend B → IsSend (results.the_row A B)
result_send A B a b = search sends depth 100 fits 100000

pub nothing_send : IsSend unit-field.row
nothing_send = search sends depth 40 fits 20000

-- THE SHARED VALUE, its gate and its passes

renewal_send : IsSend renewal_row
renewal_send = search sends depth 100 fits 100000

renewals_send : IsSend renewals_field.row
renewals_send = search (list_send, renewal_send, sends) depth 100 fits 100000

device_send : IsSend devices.the_field.row
device_send = search sends depth 100 fits 100000

pub form_send : IsSend forms.the_row
form_send = search (device_send, five_send, sends) depth 100 fits 100000

note_send : IsSend note_field.row
note_send = search (sendable, crosses) depth 40 fits 20000

book_send : IsSend book_row
book_send = search (sendable, crosses) depth 40 fits 20000

module _ (P C : RattleType) (plants : PlantGhosts P.Denot) (steadies : SteadyGhosts C.Denot) (copies : CopyGhosts C.Denot) where
  complex_send : IsSend P → IsSend C → IsSend (complexes.the_field P C plants steadies copies).row
  complex_send p c = search (list_send, book_send, queue_send, journal_send, batch_send, entries_send, renewals_send, note_send, sendable, crosses) depth 200 fits 200000

  pub shared_send : (K : RattleType) (o : BeginningGhosts K.Denot) → IsSend P → IsSend C → IsSend K → IsSend (shareds.the_row P C K plants steadies copies o)
  shared_send K o p c k = search (list_send, book_send, queue_send, journal_send, batch_send, entries_send, renewals_send, note_send, sendable, crosses) depth 200 fits 200000

pub pass_row : (T : RattleType) → IsSend T → IsSend (passes.the_row T)
pass_row T s = search (seat_send, sendable) depth 60 fits 20000

pub gate_sync : (T : RattleType) (g : KeptGhosts T.Denot) → IsSend T → IsSync (gates.the_row T g)
gate_sync T g s = search (table_sync, lease_sync, sendable, crosses) depth 60 fits 20000

-- THE LINES, which all threads read

list_sync : (T : RattleType) → IsSync T → IsSync (lists.the_row T)
list_sync T y = search (sendable, crosses) depth 40 fits 20000

lines_sync : IsSync lines_row
lines_sync = search (sendable, crosses) depth 40 fits 20000

class_sync : IsSync class_row
class_sync = search syncs depth 40 fits 20000

fields_sync : IsSync fields_field.row
fields_sync = search syncs depth 40 fits 20000

spec_sync : IsSync spec_row
spec_sync = search (lines_sync, syncs) depth 40 fits 20000

command_sync : IsSync command_field.row
command_sync = search (list_sync, class_sync, lines_sync, fields_sync, spec_sync, syncs) depth 300 fits 100000

ask_sync : IsSync ask_field.row
ask_sync = search (command_sync, lines_sync, syncs) depth 100 fits 100000

step_sync : IsSync step_row
step_sync = search (ask_sync, syncs) depth 100 fits 20000

pub course_sync : (n : NamedLft) (R M : RattleType) → IsSync R → IsSync M → IsSync (courses.the_row n R M)
course_sync n R M r m = search (step_sync, sendable, crosses) depth 40 fits 20000
