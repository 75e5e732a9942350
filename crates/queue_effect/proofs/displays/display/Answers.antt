use Rattle.std.proofs.Common.{ap, sym, ◌∙◌}
use Rattle.mas_types.specs.declared.queues.Queue.{Queue}
use Rattle.mas_types.specs.declared.commands.Reply.{Reply}
use Rattle.queue_effect.proofs.Showing.{shown_leaves}
use Rattle.queue_effect.proofs.displays.display.Goals as goal

pub returns : goal.returns
returns c = λ Q stands.
    shown_leaves c.args.tables.now Q c.args.what c.in_ok-reply.reply stands (sym (c.in_ok-part.ensures.same Q stands) ∙ ap (λ (p : Queue × Reply). p.1) c.in_ok-reply.ensures)
