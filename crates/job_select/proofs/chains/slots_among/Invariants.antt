use Rattle.std.proofs.Common.{◌≡◌, nat_eq, []}
use Rattle.std.specs.Option.{option_map_or}
use Rattle.std.specs.Map.{lookup}
use Rattle.job_select.specs.Chains.{slots_of}
use Rattle.job_select.proofs.chains.slots_among.Given as goal

-- the chain is among those that are left, if it is there
abbrev pub invariant-loop-number : goal.invariant-loop-number
invariant-loop-number l = option_map_or (λ v. v.items) (lookup (nat_eq l.chain) l.number-iterator) [] ≡ slots_of l.chains l.chain
