use Rattle.member_sittings.proofs.Names.{arith, groups_few, ◌≡◌, ◌≤◌, ℕ, List, All, Result, length, take, ◌∙◌, ap, subst, sym, Config, groups_needed, member_count, kept_all, run, parts_of, spools_at, NodeNo, Rise, acts_none, kept_none, sparing_none, Found, HasSpooled, IsThere, lowest_groups, All-take, refl}
use Rattle.mas_types.specs.declared.ids.GroupNo.{GroupNo}
use Rattle.track_groups.specs.Groups.{held_by}
use Rattle.mas_complex.specs.Spool.{IsGroupOf, IsHeldBy}
use Rattle.member_decks.proofs.HeldLemmas.{all_within, as_many_held, lowest_rise}
use Rattle.mas_types.specs.declared.jobs.Text.TheVariants.{Whole}
use Rattle.member_sittings.proofs.AsideLemmas.{places_by}
use Rattle.member_sittings.proofs.asides.spool_deck.Goals as goal

pub slice_bounds-spool_text-end : goal.slice_bounds-spool_text-end
slice_bounds-spool_text-end g c =
    let m = c.args.member.now in
    let need : ℕ = c.groups_needed-groups.result in
    let list : c.as_slice-2.result.now ≡ held_by m.id m.checkpoint.tables.owners = c.as_slice-2.ensures ∙ c.in-Ok.ensures ∙ ap (held_by m.id) c.as_slice.ensures in
    let enough : need ≤ member_count m.id m.checkpoint.tables.owners = subst (λ (k : ℕ). k ≤ member_count m.id m.checkpoint.tables.owners) (sym c.groups_needed-groups.ensures) c.requires.groups.enough in
    subst (λ (l : List GroupNo). need ≡ length (take need l)) (sym list) (sym (as_many_held m.id m.checkpoint.tables.owners need enough))

pub spool_text-requires : goal.spool_text-requires
spool_text-requires g c =
    let m = c.args.member.now in
    let x = c.args.complex.now in
    let need : ℕ = c.groups_needed-groups.result in
    let its : List GroupNo = held_by m.id m.checkpoint.tables.owners in
    let list : c.as_slice-2.result.now ≡ its = c.as_slice-2.ensures ∙ c.in-Ok.ensures ∙ ap (held_by m.id) c.as_slice.ensures in
    let enough : need ≤ member_count m.id m.checkpoint.tables.owners = subst (λ (k : ℕ). k ≤ member_count m.id m.checkpoint.tables.owners) (sym c.groups_needed-groups.ensures) c.requires.groups.enough in
    let many : length (take need c.as_slice-2.result.now) ≡ groups_needed c.args.text.now = subst (λ (l : List GroupNo). length (take need l) ≡ groups_needed c.args.text.now) (sym list) (as_many_held m.id m.checkpoint.tables.owners need enough ∙ c.groups_needed-groups.ensures) in
    let Held = λ (h : GroupNo). IsHeldBy m.id h (run x.base (kept_all x.journal.batches)) in
    record {
      up = c.requires.up;
      none = c.requires.none;
      text = c.requires.groups.lines;
      few = let most = groups_few c.args.text.now c.requires.groups.lines in omega (arith, many, most);
      as_many = many;
      rise = subst (λ (l : List GroupNo). Rise (take need l)) (sym list) (lowest_rise m.id m.checkpoint.tables.owners need);
      some = subst (λ (k : Config). 1 ≤ k.groups) (sym c.requires.config) c.requires.shape.config.groups.0;
      within = subst (λ (l : List GroupNo). All (IsGroupOf x.base.config) (take need l)) (sym list)
          (subst (λ (k : Config). All (IsGroupOf k) (take need its)) (sym c.requires.config) (all_within m.id m.checkpoint.tables.owners need m.checkpoint.tables.config c.requires.shape.owners));
      held = λ told. subst (λ (l : List GroupNo). All Held (take need l)) (sym list) (All-take Held need its (c.requires.held told));
    }

pub returns-in_default : goal.returns-in_default
returns-in_default g c =
    let P = g.P.Plant in
    let v = P.view c.args.complex.now.plant in
    let m = c.args.member.now in
    record {
      frame = refl;
      acts = acts_none P.tells m.id.0 v;
      cause = sparing_none m.id.0 v;
      finds = tt;
      spares = λ told. kept_none c.args.complex.now.base.config.groups (lowest_groups m.id m.checkpoint.tables.owners c.args.text.now) (spools_at v v.now);
    }

pub returns : goal.returns
returns g c =
    let P = g.P.Plant in
    let x = c.args.complex.now in
    let y = c.spool_text.new.complex in
    let m = c.args.member.now in
    let text = c.args.text.now in
    let list : c.as_slice-2.result.now ≡ held_by m.id m.checkpoint.tables.owners = c.as_slice-2.ensures ∙ c.in-Ok.ensures ∙ ap (held_by m.id) c.as_slice.ensures in
    let cause = rw (list, c.groups_needed-groups.ensures) at c.spool_text.ensures.cause in
    let there = rw (list, c.groups_needed-groups.ensures) at c.spool_text.ensures.there in
    let spares = rw (list, c.groups_needed-groups.ensures) at c.spool_text.ensures.spares in
    subst (λ (r : Result Found NodeNo). HasSpooled P (parts_of x) (parts_of y) m text r) (sym c.found_by.ensures)
    (places_by P (parts_of x) (parts_of y) m.id (lowest_groups m.id m.checkpoint.tables.owners text) (λ disks per. IsThere disks per (Whole text) (lowest_groups m.id m.checkpoint.tables.owners text)) c.spool_text.result c.spool_text.ensures.frame c.spool_text.ensures.acts cause there spares)
