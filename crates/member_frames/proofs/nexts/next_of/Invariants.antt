use Rattle.std.proofs.Common.{◌≡◌, length}
use Rattle.mas_types.specs.declared.queues.Queue.{Queue}
use Rattle.queue_telling.specs.Telling.{Tell}
use Rattle.member_frames.specs.Nexts.{next_of}
use Rattle.member_frames.proofs.nexts.next_of.Given as goal

-- what is passed over changes nothing
abbrev pub invariant-frames : goal.invariant-frames
invariant-frames l = record {
  line : l.service.line ≡ l.fn.service.line;
  same : (Q : Queue) → Tell l.tables Q → next_of Q l.service ≡ next_of Q l.fn.service;
}

abbrev pub decreases-frames : goal.decreases-frames
decreases-frames l = length l.service.frames
