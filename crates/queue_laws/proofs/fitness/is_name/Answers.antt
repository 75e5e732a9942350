use Rattle.std.proofs.Common.{◌≡◌, length, rules}
use Rattle.lay_bytes.proofs.NameLemmas.{name_from, name_to}
use Rattle.queue_laws.proofs.fitness.is_name.Goals as goal

pub returns : goal.returns
returns c =
    let long : length c.args.name.now.0 ≡ 8 = search rules in
    (λ yes. name_to c.args.name.now long (rw (← c.is_name.ensures) yes), λ name. rw c.is_name.ensures (name_from c.args.name.now name).1)
