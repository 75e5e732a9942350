use Rattle.std.proofs.Common.{ℕ, List, ap, subst, sym}
use Rattle.mas_types.specs.declared.ids.Dev.{Dev}
use Rattle.mas_types.specs.declared.ids.Dev.TheVariants.{Ckpt1, Ckpt2}
use Rattle.mas_types.specs.declared.queues.Queue.{Queue}
use Rattle.mas_types.specs.Fit.{IsConfig}
use Rattle.spool_plant.specs.View.{disk_now}
use Rattle.ckpt_copy.specs.Pages.{bytes_of}
use Rattle.duplex_pair.specs.Halves.{pick}
use Rattle.mas_complex.specs.Crash.{Copy, copy_of}
use Rattle.mas_complex.specs.Journals.{kept_all}
use Rattle.mas_complex.specs.Meaning.{run}
use Rattle.mas_complex.specs.Parts.{parts_of}
use Rattle.warm_start.proofs.Taking.{at_images, found_seized}
use Rattle.warm_start.proofs.takeovers.takeover.Goals as goal

pub returns-in-Ok-clause-tells : goal.returns-in-Ok-clause-tells
returns-in-Ok-clause-tells g c =
    let C = g.C.Copying in
    let laws = g.met.C.Copying in
    let s = c.recover.new.self in
    let found = c.in-Ok.ensures in
    let Q : Queue = run s.base (kept_all s.journal.batches) in
    let v = g.P.Plant.view s.plant in
    let copies : Dev → Copy = λ d. copy_of C.rests C.holds (pick d s.pair.first s.pair.second) (pick d s.first s.second) in
    let pages : List ℕ = bytes_of c.in-Ok.pages in
    found_seized g.P.Plant C (parts_of c.args.complex.now) (parts_of c.seize.new.self) (parts_of s) _ c.in-Ok.pages c.seize.ensures.frame (record {
      some = found.ok;
      many = found.many;
      near = found.near;
      low = found.low;
      first = λ alive. record {
        at_rest = found.first alive;
        as_many = found.as_many1 alive;
        now = λ t. found.reads1 t alive;
        images = λ t. at_images C.reads Q s.level copies v (c.kept_pages.ensures.kept t) pages Ckpt1 tt
            (λ was rest. laws.rests_reads s.pair.first.copy was (disk_now v Ckpt1) rest) alive (found.first alive) (found.reads1 t alive);
      };
      second = λ alive. record {
        at_rest = found.second alive;
        as_many = found.as_many2 alive;
        now = λ t. found.reads2 t alive;
        images = λ t. at_images C.reads Q s.level copies v (c.kept_pages.ensures.kept t) pages Ckpt2 tt
            (λ was rest. laws.rests_reads s.pair.second.copy was (disk_now v Ckpt2) rest) alive (found.second alive) (found.reads2 t alive);
      };
      stands = found.stands;
      picked = found.picked;
      left1 = λ t. found.left t Ckpt1 tt;
      left2 = λ t. found.left t Ckpt2 tt;
    })

pub recover-requires-clause-config : goal.recover-requires-clause-config
recover-requires-clause-config g c = subst (λ (q : Queue). IsConfig q.config) (sym (ap (λ p. p.base) c.seize.ensures.frame)) c.requires.config
