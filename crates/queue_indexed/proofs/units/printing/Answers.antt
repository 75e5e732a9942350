use Rattle.std.proofs.Common.{sym, ap, ◌∙◌}
use Rattle.std.specs.Prelude.{option_map}
use Rattle.mas_types.specs.Queue.{printing_at}
use Rattle.queue_commands.specs.Outputs.{unordered}
use Rattle.queue_indexed.proofs.ToldUnits.{told, prints, prints_none}
use Rattle.queue_indexed.proofs.units.printing.Goals as goal

pub returns-in-Some : goal.returns-in-Some
returns-in-Some c = λ Q tell.
    rw c.print_unit.ensures (prints c.in-Some.output (printing_at Q c.args.by)
    (sym (ap (option_map unordered) c.in-Some.is) ∙ c.printing.ensures Q (told c.args.index.now c.args.tables.now Q c.requires tell)))

pub returns-in-None : goal.returns-in-None
returns-in-None c = λ Q tell.
    prints_none (printing_at Q c.args.by)
    (sym (ap (option_map unordered) c.in-None.is) ∙ c.printing.ensures Q (told c.args.index.now c.args.tables.now Q c.requires tell))
