use Rattle.std.proofs.Common.{subst}
use Rattle.mas_complex.specs.Parts.{parts_of}
use Rattle.step_turns.specs.declared.states.Grant.{Grant}
use Rattle.member_lines.specs.Replaces.{MayBeAt}
use Rattle.member_lines.proofs.replacing.sit_down.Goals as goal

pub take_seat-requires : goal.take_seat-requires
take_seat-requires g c = subst (λ (k : Grant). MayBeAt g.P.Plant g.C.Copying k (parts_of c.args.complex.now) c.args.member.now) c.in-ForStep.is c.requires

pub keep_seat-requires : goal.keep_seat-requires
keep_seat-requires g c = subst (λ (k : Grant). MayBeAt g.P.Plant g.C.Copying k (parts_of c.args.complex.now) c.args.member.now) c.in-ByLock.is c.requires
