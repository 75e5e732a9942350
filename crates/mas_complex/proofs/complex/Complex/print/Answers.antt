use Rattle.mas_complex.proofs.Answering.{◌≡◌, ◌⊎◌, List, Option, arith, subst, sym, ∥∥₁_map₂, ∥∥₁_elim, ∥∥₁_prop, Entry, counts_of, None, MayPrint, entries_in, stopped_up, prints_on_paper, passes_of, somebody_is, left_after_print, IsOwned, prints, beside_all, kept_past, laws_of, left_with, past_of, view_of}
use Rattle.mas_complex.proofs.complex.Complex.print.Goals as goal

pub invariant_of-self : goal.invariant_of-self
invariant_of-self g c =
    let s = c.args.self.now in
    let new = g.P.Plant.view c.print-done.new.self in
    let done = c.print-done.result in
    let acts = c.print-done.ensures.acts in
    let e = c.stop_halted.ensures in
    left_with s new acts.time (laws_of g.world g.met.P.Plant g.met.C.Steady g.met.C.Copying) acts.goes c.count_line.new.printed c.stop_halted.new.book c.stop_halted.new.reserved
    (λ told. beside_all s new acts.time (c.print-done.ensures.content told).disks (c.print-done.ensures.content told).console)
    (λ told sound. ∥∥₁_elim (s.kept told) ∥∥₁_prop (λ k. ∥∥₁_map₂ (s.paper told sound) (c.requires.next told sound) (λ on may. rw (c.count_line.ensures.counted, e.book)
    (prints_on_paper s.base s.since (past_of s) s.current s.printed s.book (view_of s) new k.started k.settled k.begun (passes_of (view_of s) new acts.goes) on acts.goes sound c.args.by (somebody_is c.args.by c.requires.member.0)
    (omega (arith, c.count_line.ensures.whole, c.requires.few)) c.requires.up c.requires.other c.args.line.now (subst (λ (K : List Entry). MayPrint s.base K (entries_in s.current) c.args.by (counts_of s.printed c.args.by) c.args.line.now) (sym (kept_past s)) may) done acts.time acts.last acts.halted (c.print-done.ensures.content told) (stopped_up s.book c.args.by c.requires.member)))))
    (subst (IsOwned s.current) (sym e.book) (prints s.book c.args.by s.current c.requires.member s.owned done).owned)
    (left_after_print c.args.by done s.reserved _ e.reserved)
