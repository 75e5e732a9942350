use Rattle.std.proofs.Common.{◌≡◌, true, false, length, replicate}
use Rattle.mas_types.specs.Limits.{pages_most}
use Rattle.mas_types.specs.declared.ids.Dev.TheVariants.{Ckpt1, Ckpt2}
use Rattle.spool_plant.specs.View.{disk_now}
use Rattle.duplex_pair.specs.Halves.{SomeAlive}
use Rattle.mas_complex.specs.Journals.{kept_all}
use Rattle.mas_complex.specs.Meaning.{run}
use Rattle.mas_complex.specs.CallCounts.{pair_of}
use Rattle.member_node.specs.Mirrors.{IsMirrorBut}
use Rattle.member_node.specs.Reads.{HasRead, IsReadWhole, TookActs, copies_alive}
use Rattle.member_node.specs.Spares.{Spares}
use Rattle.member_node.specs.Wanted.{level_had, wanted}
use Rattle.ckpt_pages.specs.Given.{levels_given}
use Rattle.member_node.proofs.member.Member.second_read.Given as goal

-- a copy is lost at each turn
abbrev pub decreases-spelled : goal.decreases-spelled
decreases-spelled g l = copies_alive l.complex.pair.first.alive l.complex.pair.second.alive

abbrev pub invariant-spelled : goal.invariant-spelled
invariant-spelled g l =
    let P = g.P.Plant in
    let C = g.C.Copying in
    let x = l.fn.complex in
    let z = l.complex in
    record {
      base : z.base ≡ x.base;
      printed : z.printed ≡ x.printed;
      since : z.since ≡ x.since;
      renewals : z.renewals ≡ x.renewals;
      had : z.had ≡ x.had;
      book : z.book ≡ x.book;
      journal : z.journal ≡ x.journal;
      current : z.current ≡ x.current;
      reserved : z.reserved ≡ x.reserved;
      placed : z.placed ≡ x.placed;
      first : z.first ≡ x.first;
      second : z.second ≡ x.second;
      level : z.level ≡ x.level;
      copy1 : z.pair.first.copy ≡ x.pair.first.copy;
      copy2 : z.pair.second.copy ≡ x.pair.second.copy;
      id : l.self.id ≡ l.fn.self.id;
      checkpoint : l.self.checkpoint ≡ l.fn.self.checkpoint;
      batch : l.self.batch ≡ l.fn.self.batch;
      behind : l.self.behind ≡ false;
      fresh : l.self.fresh ≡ l.fn.self.fresh;
      count : P.tells → l.count ≡ length (wanted (level_had l.fn.self.fresh l.fn.self.checkpoint.level) (levels_given l.self.room));
      took : P.tells → TookActs l.count (pair_of x) (pair_of z);
      alike : l.alike ≡ true → l.self.room ≡ l.fn.self.checkpoint.pages;
      mirrored : IsMirrorBut l.differ.pages l.self.room l.fn.self.checkpoint.pages;
      all : l.self.differ.pages ≡ replicate pages_most true;
      as_many : length l.self.room ≡ length l.fn.self.room;
      some : SomeAlive z.pair.first.alive z.pair.second.alive;
      acts : HasRead P.tells (pair_of x) (pair_of z);
      spares : Spares l.fn.self.id.0 false (P.view x.plant) (P.view z.plant);
      whole : P.tells → ∥ IsReadWhole (run z.base (kept_all z.journal.batches)) z.level (z.pair.first.alive, C.reads (disk_now (P.view z.plant) Ckpt1).bytes) (z.pair.second.alive, C.reads (disk_now (P.view z.plant) Ckpt2).bytes) l.self.room ∥₁;
    }
