use Rattle.mas_complex.proofs.Answering.{◌≡◌, ◌++◌, map, take, drop, ended_at}
use Rattle.mas_complex.proofs.renewals.end_all.Given as goal

-- those so far have ended
abbrev pub invariant-loop-renewal : goal.invariant-loop-renewal
invariant-loop-renewal l = take l.renewal-index l.renewals ++ map (ended_at l.now) (drop l.renewal-index l.renewals) ≡ map (ended_at l.now) l.fn.renewals
