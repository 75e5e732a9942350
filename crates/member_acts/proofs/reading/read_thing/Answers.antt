use Rattle.member_acts.proofs.Names.{◌≡◌, ◌∙◌, List, All, IfOk, ap, refl, sym, subst, parts_of, spools_at, IsGroupOf, GroupNo, Config, groups_of, groups_within, acts_none, quiet_none, sparing_none, whole_text}
use Rattle.std.proofs.lemmas.Result.{IfOk-weaker}
use Rattle.member_acts.specs.Reads.{IsTextOf}
use Rattle.member_acts.proofs.Shown.{gone_is, text_seen}
use Rattle.member_acts.proofs.reading.read_thing.Goals as goal

-- A TEXT THAT WAS GONE

pub gone_group-requires : goal.gone_group-requires
gone_group-requires g c = c.requires.may.sound

pub returns-in-Some : goal.returns-in-Some
returns-in-Some g c =
    let v = g.P.Plant.view c.args.complex.now.plant in
    record {
      on = record { frame = refl; acts = acts_none g.P.Plant.tells c.args.member.now.id.0 v; reads = λ told. quiet_none (spools_at v v.now) };
      cause = sparing_none c.args.member.now.id.0 v;
      read = record { fits = tt; counted = tt; failed = tt; seen = λ told roomy text found lines same again. gone_is text c.in-Some.group (sym c.in-Some.is ∙ c.gone_group.ensures.gone_is told text found) };
    }

-- ONE THAT IS READ FROM ITS GROUPS

pub returns-in_default-groups_of : goal.returns-in_default-groups_of
returns-in_default-groups_of g c =
    let v = g.P.Plant.view c.args.complex.now.plant in
    record {
      on = record { frame = refl; acts = acts_none g.P.Plant.tells c.args.member.now.id.0 v; reads = λ told. quiet_none (spools_at v v.now) };
      cause = sparing_none c.args.member.now.id.0 v;
      read = tt;
    }

pub read_text-requires-clause-may : goal.read_text-requires-clause-may
read_text-requires-clause-may g c =
    let t = c.args.member.now.checkpoint.tables in
    let may = c.requires.may in
    let list : c.as_slice-2.result.now ≡ groups_of c.args.thing t.owners = c.as_slice-2.ensures ∙ c.in-Ok.ensures ∙ ap (groups_of c.args.thing) c.as_slice.ensures in
    record {
      up = may.up;
      some = may.some;
      within = subst (λ (l : List GroupNo). All (IsGroupOf c.args.complex.now.base.config) l) (sym list)
          (subst (λ (k : Config). All (IsGroupOf k) (groups_of c.args.thing t.owners)) (sym may.config) (groups_within c.law_of_places.ensures.own c.args.thing t.owners t.config may.spelling.shape.owners));
    }

pub returns : goal.returns
returns g c =
    let P = g.P.Plant in
    let x = parts_of c.args.complex.now in
    let y = parts_of c.read_text.new.complex in
    let t = c.args.member.now.checkpoint.tables in
    let thing = c.args.thing in
    let list : c.as_slice-2.result.now ≡ groups_of thing t.owners = c.as_slice-2.ensures ∙ c.in-Ok.ensures ∙ ap (groups_of thing) c.as_slice.ensures in
    let its : IfOk c.read_text.result (IsTextOf P x y (groups_of thing t.owners) c.args.count) = rw list at c.read_text.ensures.text in
    record {
      on = c.read_text.ensures.on;
      cause = c.read_text.ensures.cause;
      read = IfOk-weaker c.read_text.result _ _ (λ read is. record {
        fits = is.fits;
        counted = is.counted;
        failed = is.failed;
        seen = λ told roomy text found lines same. text_seen P x y thing text (groups_of thing t.owners) c.args.count read is found lines same told (whole_text text (sym (c.gone_group.ensures.gone_is told text found) ∙ c.in_default.is)) roomy (c.kept_texts.ensures.kept told);
      }) its;
    }
