use Rattle.std.proofs.Common.{◌≡◌, true, false, length, sym, ◌∙◌}
use Rattle.std.specs.Prelude.{◌==◌}
use Rattle.std.proofs.lemmas.List.{append-nil}
use Rattle.nje_frames.proofs.StreamSteps.{whole_read, more_read, none_read}
use Rattle.nje_frames.proofs.streams.push_frame.Goals as goal

pub returns-in-Err-At-clause-ok : goal.returns-in-Err-At-clause-ok
returns-in-Err-At-clause-ok c =
    let none = none_read c.args.bytes.now c.in-Err-At.field-0-0 (rw c.in-Err-At.field-0-is at c.in-Err-At.ensures) in
    rw none (sym (append-nil c.args.out.now))

pub returns-then-not-is_empty-clause-ok : goal.returns-then-not-is_empty-clause-ok
returns-then-not-is_empty-clause-ok c =
    let none = more_read c.args.bytes.now c.in-Ok.found.0 c.in-Ok.found.1.now c.in-Ok.ensures (sym c.is_empty.ensures ∙ c.if-not-is_empty.true) in
    rw none (sym (append-nil c.args.out.now))

pub returns-clause-ok : goal.returns-clause-ok
returns-clause-ok c =
    let whole = whole_read c.args.bytes.now c.in-Ok.found.0 c.in-Ok.found.1.now c.in-Ok.ensures (sym c.is_empty.ensures ∙ c.if-not-is_empty.false) in
    rw whole c.push.ensures.ok
