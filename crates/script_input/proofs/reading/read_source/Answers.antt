use Rattle.std.proofs.Common.{◌≡◌, ◌++◌, length, take, length-append, arith}
use Rattle.std.proofs.lemmas.List.{length-take}
use Rattle.script_input.proofs.Rest.{left_behind, left_behind_both}
use Rattle.script_input.proofs.reading.read_source.Goals as goal

pub returns-in_err-push_all-clause-taken : goal.returns-in_err-push_all-clause-taken
returns-in_err-push_all-clause-taken g c tells =
    let read = c.loop-bytes.bytes ++ take c.in_ok-n.n c.next_piece.new.piece in
    (length read, simp (length-append, length-take) (omega (arith, c.in_ok-n.ensures.within, c.min-room.ensures)), left_behind_both c.loop-bytes.bytes (take c.in_ok-n.n c.next_piece.new.piece) (g.S.Source.left c.next_piece.new.source) (g.S.Source.left c.loop-bytes.source) (g.S.Source.left c.args.source.now) (c.loop-bytes.invariant.whole tells) (c.in_ok-n.ensures.came tells))

pub returns-clause-read : goal.returns-clause-read
returns-clause-read g c tells why =
    let all_read : length c.loop-bytes.bytes ≡ 16777217 = omega arith in
    left_behind c.loop-bytes.bytes (g.S.Source.left c.loop-bytes.source) (g.S.Source.left c.args.source.now) 16777217 (c.loop-bytes.invariant.whole tells) all_read
