use Rattle.std.proofs.Common.{arith, ap, ◌∙◌, ◌≡◌, ◌++◌, ◌∷◌, [], ℕ, max, length}
use Rattle.spool_disk.specs.Deeds.{Wrote}
use Rattle.spool_disk.specs.Entries.{deeds_of}
use Rattle.spool_disk.proofs.Current.{current_write, current_size}
use Rattle.spool_disk.proofs.record.Record.add_write.Goals as goal

pub put_at-requires-clause-room : goal.put_at-requires-clause-room
put_at-requires-clause-room c =
    let s = c.args.self.now in
    omega (arith, c.requires.within, current_size s.base s.disks.items (deeds_of s.log.items s.arena.items) c.args.slot s.current c.requires.there)

pub invariant_of-self-clause-current : goal.invariant_of-self-clause-current
invariant_of-self-clause-current c =
    let s = c.args.self.now in
    let widest : max c.args.len (length c.args.bytes.now) ≡ c.args.len = omega (arith, c.requires.few) in
    current_write s.base s.disks.items c.put_at.new.disks.items (deeds_of s.log.items s.arena.items) _ c.args.slot c.args.at c.args.len c.args.bytes.now s.current c.put_at.ensures.bytes
    (c.append.ensures.added ∙ ap (λ (n : ℕ). deeds_of s.log.items s.arena.items ++ Wrote c.args.slot c.args.at n c.args.bytes.now ∷ []) widest)
