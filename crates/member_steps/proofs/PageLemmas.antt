-- How many pages a checkpoint has at most.
use Rattle.std.proofs.Common.{◌*◌, ◌≤◌, arith}
use Rattle.std.proofs.lemmas.Nat.{mul-le}
use Rattle.mas_types.specs.declared.queues.Config.{Config}
use Rattle.mas_types.specs.Fit.{IsConfig}
use Rattle.mas_types.specs.Limits.{groups_most, pages_most, volumes_most}
use Rattle.ckpt_tables.specs.Shape.{page_count}

pub few_pages : (c : Config) → IsConfig c → page_count c ≤ pages_most
few_pages c fits =
    let groups : c.volumes * c.groups ≤ volumes_most * groups_most = mul-le c.volumes c.groups volumes_most groups_most fits.volumes.1 fits.groups.1 in
    omega (arith, groups, fits.jobs.1, fits.outputs.1)
