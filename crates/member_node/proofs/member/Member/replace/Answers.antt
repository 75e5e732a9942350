use Rattle.std.proofs.Common.{◌∙◌, List, length, Some, ap, le_refl, sym}
use Rattle.mas_types.specs.declared.ids.Page.{Page}
use Rattle.spool_plant.specs.View.{disk_now}
use Rattle.ckpt_copy.specs.Pages.{bytes_of}
use Rattle.mas_complex.specs.Parts.{parts_of}
use Rattle.member_node.specs.Reads.{pages_had}
use Rattle.member_node.proofs.ReplaceLemmas.{place_other, count_other, read_other, both_rest, on_ok, picked_alive, picked_count}
use Rattle.member_node.proofs.member.Member.replace.Goals as goal

pub replace-requires-clause-place : goal.replace-requires-clause-place
replace-requires-clause-place g c on =
    let x = c.args.complex.now in
    place_other c.args.dev c.requires.ckpt x.first x.second c.requires.rests1.before c.requires.rests2.before

pub replace-requires-clause-as_many : goal.replace-requires-clause-as_many
replace-requires-clause-as_many g c on =
    let x = c.args.complex.now in
    let s = c.args.self.now in
    let C = g.C.Copying in
    ap length c.pages.ensures ∙ count_other (λ h. h.alive) (λ h. C.count h.copy) (length (pages_had s.behind s.room s.checkpoint.pages)) c.args.dev c.requires.ckpt x.pair.first x.pair.second c.requires.rests1.as_many c.requires.rests2.as_many on

pub replace-requires-clause-reads : goal.replace-requires-clause-reads
replace-requires-clause-reads g c told on =
    let x = c.args.complex.now in
    let s = c.args.self.now in
    let C = g.C.Copying in
    read_other (λ h. h.alive) (λ d. C.reads (disk_now (g.P.Plant.view x.plant) d).bytes) (bytes_of (pages_had s.behind s.room s.checkpoint.pages)) c.args.dev c.requires.ckpt x.pair.first x.pair.second (c.requires.rests1.reads told) (c.requires.rests2.reads told) on
    ∙ sym (ap (λ (ps : List Page). Some (bytes_of ps)) c.pages.ensures)

pub returns-clause-rests1 : goal.returns-clause-rests1
returns-clause-rests1 g c =
    let P = g.P.Plant in
    let C = g.C.Copying in
    let s = c.args.self.now in
    let x = c.args.complex.now in
    let z = c.replace.new.self in
    let e = c.replace.ensures in
    let pages = pages_had s.behind s.room s.checkpoint.pages in
    let dev = c.args.dev in
    (both_rest P.tells C.count pages (λ p d. C.reads (disk_now (P.view p) d).bytes) c.replace.result (P.view x.plant).now (P.view z.plant).now (parts_of z) (parts_of x) dev c.requires.ckpt e.frame
    (λ on. e.alive (picked_alive (λ h. h.alive) dev x.pair.first x.pair.second on))
    (on_ok c.replace.result (λ f. picked_count (λ h. h.copy) C.count (length pages) dev z.pair.first z.pair.second (f.1.as_many ∙ ap length c.pages.ensures)) e.formed)
    (on_ok c.replace.result (λ k told. k told ∙ ap (λ (ps : List Page). Some (bytes_of ps)) c.pages.ensures) e.reads)
    (λ told d not. ap (λ disk. C.reads disk.bytes) ((e.elsewhere told).others (P.view z.plant).now e.replaces.later (le_refl (P.view z.plant).now) d not))
    c.requires.rests1 c.requires.rests2).0

pub returns-clause-rests2 : goal.returns-clause-rests2
returns-clause-rests2 g c =
    let P = g.P.Plant in
    let C = g.C.Copying in
    let s = c.args.self.now in
    let x = c.args.complex.now in
    let z = c.replace.new.self in
    let e = c.replace.ensures in
    let pages = pages_had s.behind s.room s.checkpoint.pages in
    let dev = c.args.dev in
    (both_rest P.tells C.count pages (λ p d. C.reads (disk_now (P.view p) d).bytes) c.replace.result (P.view x.plant).now (P.view z.plant).now (parts_of z) (parts_of x) dev c.requires.ckpt e.frame
    (λ on. e.alive (picked_alive (λ h. h.alive) dev x.pair.first x.pair.second on))
    (on_ok c.replace.result (λ f. picked_count (λ h. h.copy) C.count (length pages) dev z.pair.first z.pair.second (f.1.as_many ∙ ap length c.pages.ensures)) e.formed)
    (on_ok c.replace.result (λ k told. k told ∙ ap (λ (ps : List Page). Some (bytes_of ps)) c.pages.ensures) e.reads)
    (λ told d not. ap (λ disk. C.reads disk.bytes) ((e.elsewhere told).others (P.view z.plant).now e.replaces.later (le_refl (P.view z.plant).now) d not))
    c.requires.rests1 c.requires.rests2).1
