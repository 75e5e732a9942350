use Rattle.member_units.proofs.Names.{[], ◌≡◌, ◌+◌, ◌*◌, ◌≤◌, Result, NodeNo, Found, SittingEnd, Plays, bounds, unwritten, wrote_of, Follow, Outside, Works, place_of, queue_here, run_of, to_play, IsCaused, IsRoomy, IsUpTo, MayBegin, action_turn, ahead, left_of, most_of, HasRoom}
use Rattle.member_units.proofs.units.play.Given as goal

abbrev pub decreases-loop-action : goal.decreases-loop-action
decreases-loop-action g l = left_of l.action

-- what the sitting does from here is the rest of what it does as a whole
abbrev pub invariant-loop-action : goal.invariant-loop-action
invariant-loop-action g l =
    let P = g.P.Plant in
    let x = l.fn.complex in
    let m = l.fn.member in
    let z = l.complex in
    let n = l.member in
    let h = l.holder in
    record {
      run : run_of z n ≡ run_of x m;
      works : Works z n h;
      room : IsRoomy z n (left_of l.action + 3);
      one : HasRoom z n 1;
      may : MayBegin z n l.action;
      few : l.given + 64 * left_of l.action ≤ 64 * left_of l.fn.action;
      upto : IsUpTo (ahead z.level l.action) (ahead x.level l.fn.action);
      caused : (f : Follow) (found : Found) → IsUpTo (ahead x.level l.fn.action) f → IsCaused f.units found l.fn.action → IsCaused f.units found l.action;
      then : (f : Follow) (found : Found) → IsUpTo (ahead x.level l.fn.action) f → IsCaused f.units found l.fn.action → (new : Outside) (r : Result SittingEnd NodeNo)
          → Plays P.tells (bounds (most_of l.action + unwritten n.batch) f.units found) (to_play h l.given (wrote_of n.batch (action_turn h (queue_here z n) l.given l.action))) (place_of z n) new r
          → Plays P.tells (bounds f.most f.units found) (to_play h 0 (wrote_of [] (action_turn h (queue_here x m) 0 l.fn.action))) (place_of x m) new r;
    }
