use Rattle.std.proofs.Common.{◌≡◌, ◌*◌, ◌<◌, ◌∙◌, ℕ, false, All, List, length, sym, ap, subst}
use Rattle.mas_types.specs.declared.ids.GroupNo.{GroupNo}
use Rattle.mas_types.specs.declared.queues.Owner.{Owner}
use Rattle.mas_types.specs.declared.queues.Thing.{Thing}
use Rattle.track_groups.specs.Places.{groups_of}
use Rattle.spool_volumes.specs.Volumes.{volumes_now}
use Rattle.spool_volumes.specs.Looks.{volumes_shown, lie_on_lost}
use Rattle.spool_volumes.specs.Texts.{records_on, text_of}
use Rattle.track_texts.specs.Index.{AreTextGroups}
use Rattle.warm_start.proofs.Spooling.{placed, read_unless, given_as}
use Rattle.warm_start.proofs.spooled.text_in.Goals as goal

pub groups_in-requires : goal.groups_in-requires
groups_in-requires g c = subst (λ (os : List Owner). AreTextGroups c.args.texts.now os) (sym c.as_slice.ensures) c.requires.index

pub read_text-requires-clause-placed : goal.read_text-requires-clause-placed
read_text-requires-clause-placed g c =
    let t = c.args.tables.now in
    let v = g.P.Plant.view c.args.plant.now in
    let shape = c.requires.spelling.shape in
    let owned = c.in_ok-groups.ensures.groups ∙ ap (groups_of c.args.thing) c.as_slice.ensures in
    let same : c.as_slice-2.result.now ≡ groups_of c.args.thing t.owners = c.as_slice-2.ensures ∙ owned in
    let each = subst (λ (os : List Owner). (h : Thing) → All (λ (x : GroupNo). x.0 < length os) (groups_of h os)) c.as_slice.ensures c.groups_in.ensures.numbered in
    let below = subst (λ (n : ℕ). All (λ (x : GroupNo). x.0 < n) (groups_of c.args.thing t.owners)) shape.owners (each c.args.thing) in
    placed t.config shape.config c.as_slice-2.result.now (subst (λ (gs : List GroupNo). All (λ (x : GroupNo). x.0 < t.config.volumes * t.config.groups) gs) (sym same) below) v c.requires.roomy

pub returns-clause-text : goal.returns-clause-text
returns-clause-text g c told =
    let t = c.args.tables.now in
    let old = g.P.Plant.view c.args.plant.now in
    let new = g.P.Plant.view c.read_text.new.plant in
    let same : c.as_slice-2.result.now ≡ groups_of c.args.thing t.owners = c.as_slice-2.ensures ∙ c.in_ok-groups.ensures.groups ∙ ap (groups_of c.args.thing) c.as_slice.ensures in
    read_unless new (volumes_shown old) t.config.groups c.args.count c.in-Ok.text (groups_of c.args.thing t.owners) c.in-Ok.ensures.count
    (subst (λ (gs : List GroupNo). lie_on_lost new t.config.groups gs ≡ false → c.in-Ok.text ≡ text_of (records_on (volumes_shown old) t.config.groups) c.args.count gs) same (c.in-Ok.ensures.left told))

pub returns-clause-given : goal.returns-clause-given
returns-clause-given g c told steady =
    let t = c.args.tables.now in
    let old = g.P.Plant.view c.args.plant.now in
    let same : c.as_slice-2.result.now ≡ groups_of c.args.thing t.owners = c.as_slice-2.ensures ∙ c.in_ok-groups.ensures.groups ∙ ap (groups_of c.args.thing) c.as_slice.ensures in
    given_as old t.config.groups c.args.count c.in-Ok.text (groups_of c.args.thing t.owners) c.in-Ok.ensures.count
    (subst (λ (gs : List GroupNo). c.in-Ok.text ≡ text_of (records_on (volumes_now old) t.config.groups) c.args.count gs) same (c.in-Ok.ensures.text told steady))
