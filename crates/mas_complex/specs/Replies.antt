-- The replies of a history.
use Rattle.mas_complex.specs.Names.{Queue, Batch, Entry, is_kept}
use Rattle.std.specs.Prelude.{◌≡◌, if◌then◌else◌, List, [], ◌∷◌}
use Rattle.mas_complex.specs.Meaning.{step, run}

-- each entry has the reply that its command is given at its place
abbrev pub HaveReplies : Queue → List Entry → Type 0
HaveReplies Q [] = Unit {0}
HaveReplies Q (e ∷ es) = (e.reply ≡ (step Q e.by e.command).1) × HaveReplies (step Q e.by e.command).0 es

-- the queue after a batch, which counts where it is kept
abbrev pub after_batch : Queue → Batch → Queue
after_batch Q b = if is_kept b.fate then run Q b.entries else Q

-- the entries of each batch have their replies, after the kept batches before it
abbrev pub AreReplied : Queue → List Batch → Type 0
AreReplied Q [] = Unit {0}
AreReplied Q (b ∷ bs) = HaveReplies Q b.entries × AreReplied (after_batch Q b) bs
