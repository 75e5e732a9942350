use Rattle.member_acts.proofs.Names.{Result, ◌≡◌, ◌≤◌, ℕ, List, All, length, ◌∙◌, ap, subst, sym, take, groups_of_outputs, kept_all, run, parts_of, IsGroupOf, IsHeldBy, spools_at, Rise, GroupNo, Config, member_count, acts_none, kept_none, sparing_none, Found, NodeNo, HasWritten, lowest_for, All-take, refl}
use Rattle.track_groups.specs.Groups.{held_by}
use Rattle.member_decks.proofs.HeldLemmas.{all_within, as_many_held, lowest_rise}
use Rattle.member_asides.proofs.AsideLemmas.{places_by}
use Rattle.member_work.specs.Spooled.{AreSpooled}
use Rattle.member_acts.proofs.asides.write_outputs.Goals as goal

pub slice_bounds-write_and_sync-end : goal.slice_bounds-write_and_sync-end
slice_bounds-write_and_sync-end g c =
    let m = c.args.member.now in
    let need : ℕ = c.groups_of_outputs-needed.result in
    let list : c.as_slice-2.result.now ≡ held_by m.id m.checkpoint.tables.owners = c.as_slice-2.ensures ∙ c.in-Ok.ensures ∙ ap (held_by m.id) c.as_slice.ensures in
    let enough : need ≤ member_count m.id m.checkpoint.tables.owners = subst (λ (k : ℕ). k ≤ member_count m.id m.checkpoint.tables.owners) (sym c.groups_of_outputs-needed.ensures.groups) c.requires.enough in
    subst (λ (l : List GroupNo). need ≡ length (take need l)) (sym list) (sym (as_many_held m.id m.checkpoint.tables.owners need enough))

pub write_and_sync-requires : goal.write_and_sync-requires
write_and_sync-requires g c =
    let m = c.args.member.now in
    let need : ℕ = c.groups_of_outputs-needed.result in
    let list : c.as_slice-2.result.now ≡ held_by m.id m.checkpoint.tables.owners = c.as_slice-2.ensures ∙ c.in-Ok.ensures ∙ ap (held_by m.id) c.as_slice.ensures in
    let x = c.args.complex.now in
    record {
      up = c.requires.may.up;
      none = c.requires.none;
      some = c.requires.may.some;
      outputs = c.requires.outputs.each;
      as_many =
          let enough : need ≤ member_count m.id m.checkpoint.tables.owners = subst (λ (k : ℕ). k ≤ member_count m.id m.checkpoint.tables.owners) (sym c.groups_of_outputs-needed.ensures.groups) c.requires.enough in
          subst (λ (l : List GroupNo). length (take need l) ≡ groups_of_outputs c.args.outputs.now) (sym list) (as_many_held m.id m.checkpoint.tables.owners need enough ∙ c.groups_of_outputs-needed.ensures.groups);
      rise = subst (λ (l : List GroupNo). Rise (take need l)) (sym list) (lowest_rise m.id m.checkpoint.tables.owners need);
      within = subst (λ (l : List GroupNo). All (IsGroupOf x.base.config) (take need l)) (sym list)
          (subst (λ (k : Config). All (IsGroupOf k) (take need (held_by m.id m.checkpoint.tables.owners))) (sym c.requires.may.config) (all_within m.id m.checkpoint.tables.owners need m.checkpoint.tables.config c.requires.may.spelling.shape.owners));
      held = λ told. subst (λ (l : List GroupNo). All (λ h. IsHeldBy m.id h (run x.base (kept_all x.journal.batches))) (take need l)) (sym list)
          (All-take (λ (h : GroupNo). IsHeldBy m.id h (run x.base (kept_all x.journal.batches))) need (held_by m.id m.checkpoint.tables.owners) (c.requires.held told));
    }

pub returns-in_default : goal.returns-in_default
returns-in_default g c =
    let P = g.P.Plant in
    let v = P.view c.args.complex.now.plant in
    let m = c.args.member.now in
    record {
      frame = refl;
      acts = acts_none P.tells m.id.0 v;
      cause = sparing_none m.id.0 v;
      finds = tt;
      spares = λ told. kept_none c.args.complex.now.base.config.groups (lowest_for m.id m.checkpoint.tables.owners c.args.outputs.now) (spools_at v v.now);
    }

pub returns : goal.returns
returns g c =
    let P = g.P.Plant in
    let x = c.args.complex.now in
    let y = c.write_and_sync.new.complex in
    let m = c.args.member.now in
    let specs = c.args.outputs.now in
    let list : c.as_slice-2.result.now ≡ held_by m.id m.checkpoint.tables.owners = c.as_slice-2.ensures ∙ c.in-Ok.ensures ∙ ap (held_by m.id) c.as_slice.ensures in
    let on = rw (list, c.groups_of_outputs-needed.ensures.groups) at c.write_and_sync.ensures.on in
    let there = rw (list, c.groups_of_outputs-needed.ensures.groups) at c.write_and_sync.ensures.there in
    subst (λ (r : Result Found NodeNo). HasWritten P (parts_of x) (parts_of y) m specs r) (sym c.found_by.ensures)
    (places_by P (parts_of x) (parts_of y) m.id (lowest_for m.id m.checkpoint.tables.owners specs) (λ disks per. AreSpooled disks per specs (lowest_for m.id m.checkpoint.tables.owners specs)) c.write_and_sync.result on.frame on.acts on.cause there on.spares)
