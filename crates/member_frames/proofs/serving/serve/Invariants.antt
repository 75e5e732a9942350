use Rattle.std.proofs.Common.{◌≡◌, ◌+◌, ◌*◌, ◌≤◌, ◌<◌, ◌^◌, [], length, Result}
use Rattle.member_node.specs.declared.member.NodeNo.{NodeNo}
use Rattle.step_turns.specs.Serving.{taken_most}
use Rattle.member_sittings.specs.declared.ends.SittingEnd.{SittingEnd}
use Rattle.member_giving.specs.Plays.{unwritten, wrote_of, to_play}
use Rattle.member_giving.specs.Works.{HasRoom, Outside, Works, place_of, queue_here, run_of}
use Rattle.member_frames.specs.Nexts.{IsNoBegin, IsServableNext, frames_in, turn_by}
use Rattle.member_frames.specs.Plays.{ServesLine}
use Rattle.member_frames.proofs.serving.serve.Given as goal

abbrev pub decreases-frames : goal.decreases-frames
decreases-frames g l = frames_in l.next

-- what the sitting does from here is the rest of what it does as a whole
abbrev pub invariant-frames : goal.invariant-frames
invariant-frames g l =
    let P = g.P.Plant in
    let x = l.fn.complex in
    let m = l.fn.member in
    let z = l.complex in
    let n = l.member in
    let h = l.holder in
    record {
      run : run_of z n ≡ run_of x m;
      works : Works z n h;
      few : length n.batch < 64;
      servable : IsServableNext l.next;
      room : HasRoom z n (frames_in l.next + 1);
      order : n.checkpoint.tables.order + 32 * (frames_in l.next + 2) < 2 ^ 63;
      left : frames_in l.next + l.given ≤ frames_in l.fn.first;
      small : frames_in l.next + l.given ≤ taken_most;
      begins : l.given ≡ 0 → IsNoBegin l.next;
      level : z.level ≤ x.level + l.given;
      then : (new : Outside) (r : Result SittingEnd NodeNo)
          → ServesLine P.tells (2 * frames_in l.next + 1 + unwritten n.batch) (to_play h l.given (wrote_of n.batch (turn_by h.by h.step l.next (queue_here z n) l.given))) (place_of z n) new r
          → ServesLine P.tells (2 * frames_in l.fn.first + 1) (to_play h 0 (wrote_of [] (turn_by h.by h.step l.fn.first (queue_here x m) 0))) (place_of x m) new r;
    }
