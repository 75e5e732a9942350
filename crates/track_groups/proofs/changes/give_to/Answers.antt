use Rattle.std.proofs.Common.{◌≡◌, suc, ◌+◌, ◌-◌, ◌<◌, true, false, length, get_or, set, drop, arith}
use Rattle.mas_types.specs.declared.queues.Owner.{Owner}
use Rattle.mas_types.specs.declared.queues.Owner.TheVariants as owner
use Rattle.mas_types.specs.Owners.{is_members, places}
use Rattle.track_groups.specs.Groups.{owner_at, first_places, given}
use Rattle.track_groups.proofs.Giving.{give_mine, give_other, give_enough, counted_before, counted_mine, counted_all, counted_other, owner_at-no_members}
use Rattle.track_groups.proofs.Walks.{drop_more}
use Rattle.track_groups.proofs.changes.give_to.Goals as goal
use Rattle.track_groups.proofs.changes.give_to.Goals.{then-place-count+then-is_members, else-place-count, else-place-count-via-then-place-count+else-is_members, else-place-count-via-else-place-count}

pub loop-owner-preserved : goal.loop-owner-preserved
loop-owner-preserved c =
    let m = c.args.by in
    let gs = c.loop-owner.owners in
    let i = c.loop-owner.owner-index in
    let place = c.loop-owner.place in
    let count = c.args.count in
    let at = owner_at c.args.thing in
    let all = given c.args.by (first_places c.args.thing c.args.count) c.args.owners.now in
    let g = get_or gs i owner.Free in
    let inside : i < length gs = omega arith in
    let same_left : (v : Owner) → drop (i + 1) (set gs i v) ≡ drop (i + 1) gs = λ v. drop_more gs i inside v in
    elim c.if-place-count.branch [
      | then-place-count+then-is_members w ↦
          let mine : is_members m g ≡ true = cc in
          let more : count - place ≡ suc (count - (place + 1)) = omega arith in
          let so = rw more at c.loop-owner.invariant.rest in
          let before = counted_before m all gs i inside (at place) (owner_at-no_members m c.args.thing place) in
          let after = counted_mine m all gs i inside mine in
          rw (w.owners-is, w.place-is, w.owner_at.ensures, same_left (at place)) record {
            within = omega arith;
            rest = give_mine m all gs i inside (at place) (places at (place + 1) (count - (place + 1))) so mine;
            room = omega arith;
            left = omega arith;
          }
      | else-place-count w ↦
          let total = counted_all m all gs i inside in
          elim w.else-place-count.branch [
            | else-place-count-via-then-place-count+else-is_members w' ↦
                let other : is_members m g ≡ false = cc in
                let after = counted_other m all gs i inside other in
                rw (w.place-is, w.owners-is, w'.owners-is, same_left g) record {
                  within = omega arith;
                  rest = give_other m all gs i inside (places at place (count - place)) c.loop-owner.invariant.rest other;
                  room = omega arith;
                  left = omega arith;
                }
            | else-place-count-via-else-place-count w' ↦
                let none : count - place ≡ 0 = omega arith in
                let so = rw none at c.loop-owner.invariant.rest in
                rw (w.place-is, w.owners-is, w'.owners-is, same_left g, none) record {
                  within = omega arith;
                  rest = give_enough m all gs i inside so;
                  room = omega arith;
                  left = omega arith;
                }
          ]
    ]
