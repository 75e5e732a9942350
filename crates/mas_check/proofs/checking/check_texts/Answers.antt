use Rattle.std.proofs.Common.{◌≡◌, ◌∙◌, ◌≤◌, ◌*◌, inr, List, Some, None, sym, subst, ap, length}
use Rattle.mas_types.specs.declared.queues.Owner.{Owner}
use Rattle.mas_check.specs.declared.groups.Group.{Group}
use Rattle.mas_check.specs.Groups.{wrong_group}
use Rattle.mas_check.specs.Volumes.{AreGroups, lost_volume}
use Rattle.mas_check.proofs.CheckLemmas.{lost_check, text_check}
use Rattle.mas_check.proofs.GroupLemmas.{few_owners}
use Rattle.mas_check.proofs.checking.check_texts.Goals as goal

pub read_groups-requires-clause-few : goal.read_groups-requires-clause-few
read_groups-requires-clause-few g c =
    let t = c.args.tables.now in
    let shape = c.requires.spelling.shape in
    let few = few_owners (length t.owners) t.config.volumes t.config.groups shape.owners shape.config.volumes.1 in
    subst (λ (os : List Owner). length os ≤ 8 * t.config.groups) (sym c.as_slice-owners.ensures) few

pub returns-in-Some-clause-answer : goal.returns-in-Some-clause-answer
returns-in-Some-clause-answer g c =
    let P = g.P.Plant in
    let t = c.args.tables.now in
    let new = P.view c.read_groups.new.plant in
    let lost = subst (λ (os : List Owner). Some c.in-Some.volume ≡ lost_volume new t.config.groups os) c.as_slice-owners.ensures c.in-Some.ensures in
    inr (lost_check P.tells t (P.view c.args.plant.now) new c.requires.sound c.in-Some.volume lost)

pub returns-clause-answer : goal.returns-clause-answer
returns-clause-answer g c =
    let P = g.P.Plant in
    let t = c.args.tables.now in
    let old = P.view c.args.plant.now in
    let new = P.view c.read_groups.new.plant in
    let none = subst (λ (os : List Owner). None ≡ lost_volume new t.config.groups os) c.as_slice-owners.ensures c.in_default.ensures in
    let read = subst (λ (os : List Owner). AreGroups P.tells old new t.config.groups 0 os c.in_ok-groups.groups) c.as_slice-owners.ensures c.in_ok-groups.ensures.groups in
    let first = c.in_ok-wrong.ensures.first ∙ ap (λ (gs : List Group). wrong_group t gs) c.as_slice.ensures in
    rw c.text_verdict.ensures (inr (text_check P.tells t old new c.requires.sound c.in_ok-groups.groups c.in_ok-wrong.wrong none (λ told all. sym (read told all)) first))
