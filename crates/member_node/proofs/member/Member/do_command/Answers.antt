use Rattle.std.proofs.Common.{◌≡◌, ◌∙◌, ◌++◌, List, [], ◌∷◌, All, ap, sym, subst, refl}
use Rattle.std.proofs.lemmas.List.Elements.{All-push}
use Rattle.mas_types.specs.declared.commands.Reply.{Reply}
use Rattle.mas_types.specs.declared.journals.Entry.{Entry}
use Rattle.mas_types.specs.Closings.{IsReplyNamed}
use Rattle.mas_complex.specs.Meaning.{run}
use Rattle.queue_indexed.specs.Standing.{IfRefused}
use Rattle.member_node.specs.Batches.{HasDone}
use Rattle.member_node.proofs.FitLemmas.{orders_low}
use Rattle.member_node.proofs.EntryLemmas.{err_any, given_entry, given_reply, given_tells, member_same, still_unchanged, taken_entry, more_done}
use Rattle.member_node.proofs.member.Member.do_command.Goals as goal

-- its index is that of its tables
pub apply_with-requires-clause-kept : goal.apply_with-requires-clause-kept
apply_with-requires-clause-kept c = c.args.self.now.indexed

pub returns-in-Ok-clause-entry : goal.returns-in-Ok-clause-entry
returns-in-Ok-clause-entry c Q told =
    let k = c.args.self.now in
    given_entry k.batch c.push.new.self c.put_entry.new.batch c.place.result (record { by = k.id; step = c.args.step; command = c.args.command; reply = c.in-Ok.reply }) c.len-at.result c.in_ok-push.ensures.ok c.len-at.ensures c.put_entry.ensures
    ∙ ap (λ (r : Reply). k.batch ++ record { by = k.id; step = c.args.step; command = c.args.command; reply = r } ∷ []) (given_reply k.checkpoint.tables c.apply_with.new.tables k.id c.args.command c.in-Ok.reply c.in-Ok.ensures.plays Q told)

pub returns-in-Ok-clause-effect : goal.returns-in-Ok-clause-effect
returns-in-Ok-clause-effect c Q told =
    let k = c.args.self.now in
    given_tells k.checkpoint.tables c.apply_with.new.tables k.id c.args.command c.in-Ok.reply c.in-Ok.ensures.plays Q told

pub returns-in-Ok-clause-named : goal.returns-in-Ok-clause-named
returns-in-Ok-clause-named c Q told =
    let k = c.args.self.now in
    subst IsReplyNamed (given_reply k.checkpoint.tables c.apply_with.new.tables k.id c.args.command c.in-Ok.reply c.in-Ok.ensures.plays Q told) c.in-Ok.ensures.named

pub returns-in-Ok-clause-refused : goal.returns-in-Ok-clause-refused
returns-in-Ok-clause-refused c Q told =
    let k = c.args.self.now in
    subst (λ (r : Reply). IfRefused r (c.apply_with.new.tables ≡ k.checkpoint.tables)) (given_reply k.checkpoint.tables c.apply_with.new.tables k.id c.args.command c.in-Ok.reply c.in-Ok.ensures.plays Q told) c.in-Ok.ensures.refused

pub returns-in-Ok-clause-own : goal.returns-in-Ok-clause-own
returns-in-Ok-clause-own c all =
    let k = c.args.self.now in
    let e : Entry = record { by = k.id; step = c.args.step; command = c.args.command; reply = c.in-Ok.reply } in
    subst (All (λ (x : Entry). x.by ≡ k.id)) (sym (given_entry k.batch c.push.new.self c.put_entry.new.batch c.place.result e c.len-at.result c.in_ok-push.ensures.ok c.len-at.ensures c.put_entry.ensures))
    (All-push (λ (x : Entry). x.by ≡ k.id) k.batch e all refl)

pub returns-in-Ok-clause-done : goal.returns-in-Ok-clause-done
returns-in-Ok-clause-done c Q done =
    let k = c.args.self.now in
    let n = record k.checkpoint { tables = c.apply_with.new.tables } in
    let e : Entry = record { by = k.id; step = c.args.step; command = c.args.command; reply = c.in-Ok.reply } in
    subst (λ (es : List Entry). HasDone Q es n) (sym (given_entry k.batch c.push.new.self c.put_entry.new.batch c.place.result e c.len-at.result c.in_ok-push.ensures.ok c.len-at.ensures c.put_entry.ensures))
    (more_done Q k.batch k.checkpoint n e done refl refl refl c.apply_with.ensures.config c.apply_with.ensures.spelling c.apply_with.ensures.fit (c.apply_with.ensures.orders done.orders) c.apply_with.ensures.order
    (given_reply k.checkpoint.tables c.apply_with.new.tables k.id c.args.command c.in-Ok.reply c.in-Ok.ensures.plays (run Q k.batch) done.queue)
    (given_tells k.checkpoint.tables c.apply_with.new.tables k.id c.args.command c.in-Ok.reply c.in-Ok.ensures.plays (run Q k.batch) done.queue))

-- the facts of the type stay: the room and the pages are as they were, and what the tables change is marked
pub invariant_of-self-in-Ok-clause-unchanged : goal.invariant_of-self-in-Ok-clause-unchanged
invariant_of-self-in-Ok-clause-unchanged c = still_unchanged c.args.self.now c.apply_with.new.marks.pages c.apply_with.new.tables c.apply_with.ensures.touches

pub invariant_of-self-in-Err-clause-unchanged : goal.invariant_of-self-in-Err-clause-unchanged
invariant_of-self-in-Err-clause-unchanged c = still_unchanged c.args.self.now c.apply_with.new.marks.pages c.apply_with.new.tables c.apply_with.ensures.touches

pub invariant_of-self-in-Ok-clause-indexed : goal.invariant_of-self-in-Ok-clause-indexed
invariant_of-self-in-Ok-clause-indexed c = c.apply_with.ensures.kept

pub invariant_of-self-in-Err-clause-indexed : goal.invariant_of-self-in-Err-clause-indexed
invariant_of-self-in-Err-clause-indexed c = c.apply_with.ensures.kept

pub invariant_of-self-in-Ok-clause-ordered : goal.invariant_of-self-in-Ok-clause-ordered
invariant_of-self-in-Ok-clause-ordered c read = orders_low c.apply_with.new.tables c.apply_with.ensures.fit

pub invariant_of-self-in-Err-clause-ordered : goal.invariant_of-self-in-Err-clause-ordered
invariant_of-self-in-Err-clause-ordered c read = orders_low c.apply_with.new.tables c.apply_with.ensures.fit

pub returns-in_err-push-clause-err : goal.returns-in_err-push-clause-err
returns-in_err-push-clause-err c =
    let k = c.args.self.now in
    err_any c.from_residual.result (member_same k k.checkpoint.tables c.push.new.self k.marks k.kept _ _ _ _ refl c.in_err-push.ensures.err refl refl)

pub returns-in-Err-clause-err : goal.returns-in-Err-clause-err
returns-in-Err-clause-err c =
    let k = c.args.self.now in
    let e = c.in-Err.ensures in
    member_same k c.apply_with.new.tables c.remove.new.self c.apply_with.new.marks c.apply_with.new.kept _ _ _ _ e.no_memory.0
    (taken_entry k.batch c.push.new.self c.remove.new.self c.place.result c.len-at.result c.in_ok-push.ensures.ok c.len-at.ensures c.remove.ensures.rest) e.no_memory.1 e.no_memory.2

-- whatever the tables tell, there is a reply, and it is named
pub returns-in-Ok-clause-pushed : goal.returns-in-Ok-clause-pushed
returns-in-Ok-clause-pushed c =
    let k = c.args.self.now in
    (c.in-Ok.reply, given_entry k.batch c.push.new.self c.put_entry.new.batch c.place.result (record { by = k.id; step = c.args.step; command = c.args.command; reply = c.in-Ok.reply }) c.len-at.result c.in_ok-push.ensures.ok c.len-at.ensures c.put_entry.ensures, c.in-Ok.ensures.named)
