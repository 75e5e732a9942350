use Rattle.std.proofs.Common.{sym, ap, ◌∙◌, length}
use Rattle.std.proofs.lemmas.Slice.Eq.{bytes_eq-Decides}
use Rattle.ckpt_tables.specs.Pages.{page_of}
use Rattle.member_node.proofs.checkpoint.is_as_drawn.Goals as goal

pub returns-then-not-has-clause-same : goal.returns-then-not-has-clause-same
returns-then-not-has-clause-same c =
    sym ((bytes_eq-Decides c.args.own.now.0 (page_of c.args.tables.now c.args.levels.now c.args.number)).1 (c.requires.unchanged (sym c.has.ensures ∙ c.if-not-has.true)))

pub returns-then-not-has-clause-sized : goal.returns-then-not-has-clause-sized
returns-then-not-has-clause-sized c = ap length (sym (c.requires.unchanged (sym c.has.ensures ∙ c.if-not-has.true))) ∙ c.requires.size
