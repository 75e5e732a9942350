use Rattle.mas_run.proofs.Names.{sym, subst, Ask, line_by}
use Rattle.mas_run.proofs.MuteLineLemmas.{IsMuteLine, arm_mute, lose_mute, stop_mute}
use Rattle.mas_run.proofs.running.Running.play_line.Goals as goal

pub returns-in-Stop : goal.returns-in-Stop
returns-in-Stop g c =
    let mute = subst (λ (w : Ask). IsMuteLine c.args.self.now.complex c.stop_line.new.complex c.args.self.now.members c.args.number (line_by c.args.line.now.by w)) (sym c.in-Stop.is)
    (stop_mute c.args.self.now.complex c.stop_line.new.complex c.args.self.now.members c.args.number c.args.line.now.by c.requires.few c.requires.between c.stop_line.ensures) in
    record { line = mute.line; heard = mute.heard c.args.self.now.readers c.requires.readers }

pub returns-in-StopIn : goal.returns-in-StopIn
returns-in-StopIn g c =
    let e = c.arm_line.ensures in
    let mute = subst (λ (w : Ask). IsMuteLine c.args.self.now.complex c.arm_line.new.complex c.args.self.now.members c.args.number (line_by c.args.line.now.by w)) (sym c.in-StopIn.is)
    (arm_mute c.args.self.now.complex c.arm_line.new.complex c.args.self.now.members c.args.number c.args.line.now.by c.requires.few c.requires.between _ _ e.frame e.arms) in
    record { line = mute.line; heard = mute.heard c.args.self.now.readers c.requires.readers }

pub returns-in-Lose : goal.returns-in-Lose
returns-in-Lose g c =
    let e = c.lose.ensures in
    let mute = subst (λ (w : Ask). IsMuteLine c.args.self.now.complex c.lose.new.self c.args.self.now.members c.args.number (line_by c.args.line.now.by w)) (sym c.in-Lose.is)
    (lose_mute c.args.self.now.complex c.lose.new.self c.args.self.now.members c.args.number c.args.line.now.by c.requires.few c.requires.between _ e.frame e.dead e.volume e.copy e.loses e.elsewhere e.bytes) in
    record { line = mute.line; heard = mute.heard c.args.self.now.readers c.requires.readers }
