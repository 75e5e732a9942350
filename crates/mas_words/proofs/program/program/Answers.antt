use Rattle.std.proofs.Common.{codes}
use Rattle.std.proofs.lemmas.Result.{IfOk-weaker}
use Rattle.mas_words.specs.Program.{bare_app, cold_app, dir_app, number_app}
use Rattle.mas_words.proofs.Built.{added}
use Rattle.mas_words.proofs.program.program.Goals as goal

pub returns : goal.returns
returns c =
    let play = added bare_app (cold_app (codes "play")) c.bare.result c.in_ok-with_cold.field-0 c.in_ok-subcommand.field-0 c.bare.ensures c.in_ok-with_cold.ensures c.in_ok-subcommand.ensures in
    let race = added _ (cold_app (codes "race")) c.in_ok-subcommand.field-0 c.in_ok-with_cold-2.field-0 c.in_ok-subcommand-2.field-0 play c.in_ok-with_cold-2.ensures c.in_ok-subcommand-2.ensures in
    let format = added _ (dir_app (codes "format")) c.in_ok-subcommand-2.field-0 c.in_ok-with_dir.field-0 c.in_ok-subcommand-3.field-0 race c.in_ok-with_dir.ensures c.in_ok-subcommand-3.ensures in
    let report = added _ (dir_app (codes "report")) c.in_ok-subcommand-3.field-0 c.in_ok-with_dir-2.field-0 c.in_ok-subcommand-4.field-0 format c.in_ok-with_dir-2.ensures c.in_ok-subcommand-4.ensures in
    let check = added _ (dir_app (codes "check")) c.in_ok-subcommand-4.field-0 c.in_ok-with_dir-3.field-0 c.in_ok-subcommand-5.field-0 report c.in_ok-with_dir-3.ensures c.in_ok-subcommand-5.ensures in
    IfOk-weaker c.subcommand-6.result _ _ (λ app adds. added _ (number_app (codes "generate")) c.in_ok-subcommand-5.field-0 c.in_ok-with_number.field-0 app check c.in_ok-with_number.ensures adds) c.subcommand-6.ensures
