use Rattle.std.proofs.Common.{◌≡◌, ◌≤◌, ◌∙◌, List, length, ap, subst, sym, arith}
use Rattle.mas_types.specs.declared.journals.Entry.{Entry}
use Rattle.mas_types.specs.declared.queues.Queue.{Queue}
use Rattle.mas_types.specs.Closings.{IsReplyNamed, reply_lines}
use Rattle.queue_telling.specs.Telling.{Tell}
use Rattle.member_node.specs.Batches.{last_reply}
use Rattle.member_steps.specs.Steps.{IsGiven, entry_of, entry_with, step_lines}
use Rattle.member_steps.proofs.StepLemmas.{if_ok, ok_of, only_entry}
use Rattle.member_steps.proofs.playing.give.Goals as goal

pub last_reply-requires : goal.last_reply-requires
last_reply-requires c =
    let m = c.args.member.now in
    let p = c.in_ok-do_command.ensures.pushed in
    subst (λ (es : List Entry). 1 ≤ length es) (sym (only_entry m.batch c.do_command.new.self.batch (entry_with m.id c.args.step c.args.command p.0) p.1 c.requires.nothing)) (omega arith)

pub reply_lines-requires-clause-named : goal.reply_lines-requires-clause-named
reply_lines-requires-clause-named c =
    let m = c.args.member.now in
    let p = c.in_ok-do_command.ensures.pushed in
    let batch = only_entry m.batch c.do_command.new.self.batch (entry_with m.id c.args.step c.args.command p.0) p.1 c.requires.nothing in
    subst IsReplyNamed (sym (c.last_reply.ensures ∙ ap last_reply batch)) p.2

pub returns-clause-given : goal.returns-clause-given
returns-clause-given c =
    let m = c.args.member.now in
    let p = c.in_ok-do_command.ensures.pushed in
    let batch = only_entry m.batch c.do_command.new.self.batch (entry_with m.id c.args.step c.args.command p.0) p.1 c.requires.nothing in
    if_ok _ (λ lines. IsGiven m.id c.args.step c.args.command lines c.do_command.new.self.batch) c.reply_lines.result
    (λ lines is. (p.0, rw c.do_command.ensures.id at is ∙ ap (reply_lines m.id c.args.step) (c.last_reply.ensures ∙ ap last_reply batch), batch)) c.reply_lines.ensures

pub returns-clause-entry : goal.returns-clause-entry
returns-clause-entry c =
    let m = c.args.member.now in
    ok_of c.reply_lines.result (λ Q told. only_entry m.batch c.do_command.new.self.batch (entry_of Q m.id c.args.step c.args.command) (c.in_ok-do_command.ensures.entry Q told) c.requires.nothing)

pub returns-clause-lines : goal.returns-clause-lines
returns-clause-lines c =
    let m = c.args.member.now in
    if_ok _ (λ lines. (Q : Queue) → Tell m.checkpoint.tables Q → lines ≡ step_lines Q m.id c.args.step c.args.command) c.reply_lines.result
    (λ lines is Q told. rw c.do_command.ensures.id at is
    ∙ ap (reply_lines m.id c.args.step) (c.last_reply.ensures ∙ ap last_reply (only_entry m.batch c.do_command.new.self.batch (entry_of Q m.id c.args.step c.args.command) (c.in_ok-do_command.ensures.entry Q told) c.requires.nothing)))
    c.reply_lines.ensures

pub returns-clause-sound : goal.returns-clause-sound
returns-clause-sound c = ok_of c.reply_lines.result c.in_ok-do_command.ensures.sound

pub returns-clause-done : goal.returns-clause-done
returns-clause-done c = ok_of c.reply_lines.result c.in_ok-do_command.ensures.done
