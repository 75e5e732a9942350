use Rattle.std.proofs.Common.{ap, refl}
use Rattle.mas_types.specs.declared.ids.MemberId.{MemberId}
use Rattle.run_opening.proofs.ResetLemmas.{ok_then, restart_entry}
use Rattle.run_opening.proofs.reset.give_restart.Goals as goal

pub do_command-requires-clause-giver : goal.do_command-requires-clause-giver
do_command-requires-clause-giver c = ap (λ (m : MemberId). m.0) c.requires.id

pub returns-clause-entries : goal.returns-clause-entries
returns-clause-entries c =
    let m = c.args.member.now in
    let s = c.requires.sound in
    ok_then c.do_command.result (λ entry. restart_entry m.batch c.do_command.new.self.batch s.queue m.id c.requires.nothing c.requires.id (entry s.queue s.told)) c.do_command.ensures.entry

pub returns-clause-sound : goal.returns-clause-sound
returns-clause-sound c =
    let s = c.requires.sound in
    ok_then c.do_command.result (λ sound. sound s (rw c.requires.id refl)) c.do_command.ensures.sound
