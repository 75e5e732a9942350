use Rattle.std.proofs.Common.{◌≡◌, ◌+◌, true, false, length}
use Rattle.mas_types.specs.declared.ids.Dev.TheVariants.{Ckpt1, Ckpt2}
use Rattle.spool_plant.specs.View.{disk_now}
use Rattle.ckpt_pages.specs.Checkpoints.{SpellSome}
use Rattle.ckpt_pages.specs.Given.{levels_given}
use Rattle.duplex_pair.specs.Halves.{SomeAlive}
use Rattle.mas_complex.specs.Journals.{kept_all}
use Rattle.mas_complex.specs.Meaning.{run}
use Rattle.mas_complex.specs.CallCounts.{pair_of}
use Rattle.member_node.specs.Copies.{RestsAt}
use Rattle.member_node.specs.Reads.{HasRead, StandAt, TookActs, copies_alive}
use Rattle.member_node.specs.Spares.{Spares}
use Rattle.member_node.specs.Wanted.{level_had, wanted}
use Rattle.member_node.proofs.member.Member.read_in.Given as goal

abbrev pub decreases-loop-complex : goal.decreases-loop-complex
decreases-loop-complex g l = copies_alive l.complex.pair.first.alive l.complex.pair.second.alive

-- all pages were read, and the member's tables aren't brought up to them
abbrev pub invariant-loop-complex : goal.invariant-loop-complex
invariant-loop-complex g l =
    let P = g.P.Plant in
    let C = g.C.Copying in
    let x = l.fn.complex in
    let z = l.complex in
    record {
      base : z.base ≡ x.base;
      printed : z.printed ≡ x.printed;
      since : z.since ≡ x.since;
      renewals : z.renewals ≡ x.renewals;
      had : z.had ≡ x.had;
      book : z.book ≡ x.book;
      journal : z.journal ≡ x.journal;
      current : z.current ≡ x.current;
      reserved : z.reserved ≡ x.reserved;
      placed : z.placed ≡ x.placed;
      first : z.first ≡ x.first;
      second : z.second ≡ x.second;
      level : z.level ≡ x.level;
      copy1 : z.pair.first.copy ≡ x.pair.first.copy;
      copy2 : z.pair.second.copy ≡ x.pair.second.copy;
      id : l.self.id ≡ l.fn.self.id;
      checkpoint : l.self.checkpoint ≡ l.fn.self.checkpoint;
      batch : l.self.batch ≡ l.fn.self.batch;
      behind : l.self.behind ≡ true;
      fresh : l.self.fresh ≡ l.fn.self.fresh;
      as_many : length l.self.room ≡ length l.fn.self.room;
      some : SomeAlive z.pair.first.alive z.pair.second.alive;
      acts : HasRead P.tells (pair_of x) (pair_of z);
      spares : Spares l.fn.self.id.0 false (P.view x.plant) (P.view z.plant);
      spelled : SpellSome l.self.room;
      alike : l.alike ≡ true → l.self.room ≡ l.self.checkpoint.pages;
      took : P.tells → TookActs (1 + length (wanted (level_had l.fn.self.fresh l.fn.self.checkpoint.level) (levels_given l.self.room))) (pair_of x) (pair_of z);
      rests1 : RestsAt P.tells z.pair.first.alive z.first (C.count z.pair.first.copy) l.self.room (C.reads (disk_now (P.view z.plant) Ckpt1).bytes);
      rests2 : RestsAt P.tells z.pair.second.alive z.second (C.count z.pair.second.copy) l.self.room (C.reads (disk_now (P.view z.plant) Ckpt2).bytes);
      stand : P.tells → ∥ StandAt (run z.base (kept_all z.journal.batches)) z.level l.self.room ∥₁;
    }
