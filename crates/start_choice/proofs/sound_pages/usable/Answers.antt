use Rattle.std.proofs.Common.{◌≡◌, subst, sym}
use Rattle.ckpt_tables.specs.declared.tables.Tables.{Tables}
use Rattle.start_choice.specs.Usable.{MayStart}
use Rattle.start_choice.proofs.sound_pages.usable.Goals as goal

pub returns-else-may-clause-none : goal.returns-else-may-clause-none
returns-else-may-clause-none c = λ usable.
    let same : c.in-Ok.tables ≡ usable.0 = c.in-Ok.ensures.only usable.0 usable.1.0 in
    c.in_ok-may.ensures.not (c.if-may.false) (subst (λ (t : Tables). MayStart c.args.pages.now t) (sym same) usable.1.1)
