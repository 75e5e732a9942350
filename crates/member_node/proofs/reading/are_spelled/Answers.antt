use Rattle.std.proofs.Common.{sym, ◌∙◌, ap, Some}
use Rattle.std.proofs.Math.Logic.{∥∥₁_elim, ∥∥₁_map}
use Rattle.std.specs.Coded.{Coded-set, coded_list, coded_option, coded_ℕ}
use Rattle.mas_types.specs.declared.ids.Dev.TheVariants.{Ckpt1, Ckpt2}
use Rattle.spool_plant.specs.View.{disk_now}
use Rattle.mas_complex.specs.Journals.{kept_all}
use Rattle.mas_complex.specs.Meaning.{run}
use Rattle.member_node.proofs.ReadLemmas.{whole_bytes, whole_spells, whole_stands}
use Rattle.member_node.proofs.reading.are_spelled.Goals as goal

pub returns-clause-bad : goal.returns-clause-bad
returns-clause-bad g c not told =
    let P = g.P.Plant in
    let C = g.C.Copying in
    let x = c.args.complex.now in
    let v = P.view x.plant in
    ∥∥₁_elim (c.requires.read told) (λ a b. absurd a) (λ w. c.spells.ensures.bad not
    (whole_spells (run x.base (kept_all x.journal.batches)) x.level (x.pair.first.alive, C.reads (disk_now v Ckpt1).bytes) (x.pair.second.alive, C.reads (disk_now v Ckpt2).bytes) c.args.room.now (c.requires.config told) w))

pub returns-clause-reads1 : goal.returns-clause-reads1
returns-clause-reads1 g c told on =
    let P = g.P.Plant in
    let C = g.C.Copying in
    let x = c.args.complex.now in
    let v = P.view x.plant in
    ∥∥₁_elim (c.requires.read told) (Coded-set (coded_option (coded_list coded_ℕ)) _ _) (λ w. w.first on
    ∙ ap Some (sym (whole_bytes (run x.base (kept_all x.journal.batches)) x.level (x.pair.first.alive, C.reads (disk_now v Ckpt1).bytes) (x.pair.second.alive, C.reads (disk_now v Ckpt2).bytes) c.args.room.now (c.requires.config told) w)))

pub returns-clause-reads2 : goal.returns-clause-reads2
returns-clause-reads2 g c told on =
    let P = g.P.Plant in
    let C = g.C.Copying in
    let x = c.args.complex.now in
    let v = P.view x.plant in
    ∥∥₁_elim (c.requires.read told) (Coded-set (coded_option (coded_list coded_ℕ)) _ _) (λ w. w.second on
    ∙ ap Some (sym (whole_bytes (run x.base (kept_all x.journal.batches)) x.level (x.pair.first.alive, C.reads (disk_now v Ckpt1).bytes) (x.pair.second.alive, C.reads (disk_now v Ckpt2).bytes) c.args.room.now (c.requires.config told) w)))

pub returns-clause-stand : goal.returns-clause-stand
returns-clause-stand g c told =
    let P = g.P.Plant in
    let C = g.C.Copying in
    let x = c.args.complex.now in
    let v = P.view x.plant in
    ∥∥₁_map (c.requires.read told) (λ w. whole_stands (run x.base (kept_all x.journal.batches)) x.level (x.pair.first.alive, C.reads (disk_now v Ckpt1).bytes) (x.pair.second.alive, C.reads (disk_now v Ckpt2).bytes) c.args.room.now (c.requires.config told) w)
