use Rattle.member_work.proofs.Names.{◌≡◌, ◌≤◌, ◌*◌, take, groups_of_outputs}
use Rattle.member_work.proofs.spooling.groups_of_outputs.Given as goal

-- the groups that the outputs before this one need
abbrev pub invariant-loop-spec : goal.invariant-loop-spec
invariant-loop-spec l = record {
  sum : l.groups ≡ groups_of_outputs (take l.spec-index l.specs);
  few : l.groups ≤ 10000 * l.spec-index;
}
