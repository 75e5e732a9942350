use Rattle.std.proofs.Common.{◌≤◌, ◌^◌, ◌∙◌, inl, Bool, List, ap, sym, subst, length, rules}
use Rattle.std.proofs.Math.Logic.{∥∥₁_map}
use Rattle.mas_types.specs.declared.ids.Dev.TheVariants.{Ckpt1, Ckpt2}
use Rattle.spool_plant.specs.View.{disk_now}
use Rattle.mas_complex.specs.Journals.{kept_all}
use Rattle.mas_complex.specs.Meaning.{run}
use Rattle.ckpt_tables.specs.Pages.{Spell}
use Rattle.ckpt_pages.proofs.DecodingLemmas.{one_queue, one_value}
use Rattle.queue_indexed.proofs.ToldLemmas.{pages_alike}
use Rattle.queue_indexed.specs.Behind.{IsKept}
use Rattle.member_node.specs.Mirrors.{IsMirrorBut}
use Rattle.page_tables.specs.Bringing.{are_orders_low}
use Rattle.member_node.proofs.EntryLemmas.{err_any, facts_same}
use Rattle.member_node.proofs.ReadyLemmas.{ready_copy, ready_count, ready_draft, ready_level, ready_mirror, ready_raises}
use Rattle.member_node.proofs.member.Member.ready.Goals as goal

pub returns-clause-level : goal.returns-clause-level
returns-clause-level g c =
    let k = c.args.self.now.checkpoint in
    let n = c.redraw.new.checkpoint in
    ready_level c.in_ok-draft.draft k.level n.level k.pages n.pages c.redraw.ensures.draft

pub returns-clause-draft : goal.returns-clause-draft
returns-clause-draft g c told =
    let x = c.args.complex.now in
    let e = c.redraw.ensures in
    ∥∥₁_map (c.requires.done told) (λ done. ready_draft (λ pages. pages_alike pages one_value one_queue) c.in_ok-draft.draft g.P.Plant.tells (run x.base (kept_all x.journal.batches)) c.args.self.now.batch c.args.self.now.checkpoint c.redraw.new.checkpoint x.level
    done (c.requires.level told) c.requires.small e.tables e.drawn e.draft)

pub returns-clause-draft1 : goal.returns-clause-draft1
returns-clause-draft1 g c =
    let x = c.args.complex.now in
    let k = c.args.self.now.checkpoint in
    let n = c.redraw.new.checkpoint in
    let e = c.redraw.ensures in
    let C = g.C.Copying in
    ready_copy c.in_ok-draft.draft (Spell k.tables k.levels k.pages) g.P.Plant.tells x.pair.first.alive x.first (C.count x.pair.first.copy) (C.room x.pair.first.copy) k.level n.level k.pages n.pages (C.reads (disk_now (g.P.Plant.view x.plant) Ckpt1).bytes)
    c.requires.rests1 c.requires.room1 (ready_count k n c.requires.draws e.tables e.drawn) e.same e.draft
    (λ told. ready_raises (run x.base (kept_all x.journal.batches)) c.args.self.now.batch k n (c.requires.done told) few e.tables e.drawn) where
      few : length c.args.self.now.batch ≤ 2 ^ 14
      few = search (rules, c.in_ok-reserve.ensures.few)

pub returns-clause-draft2 : goal.returns-clause-draft2
returns-clause-draft2 g c =
    let x = c.args.complex.now in
    let k = c.args.self.now.checkpoint in
    let n = c.redraw.new.checkpoint in
    let e = c.redraw.ensures in
    let C = g.C.Copying in
    ready_copy c.in_ok-draft.draft (Spell k.tables k.levels k.pages) g.P.Plant.tells x.pair.second.alive x.second (C.count x.pair.second.copy) (C.room x.pair.second.copy) k.level n.level k.pages n.pages (C.reads (disk_now (g.P.Plant.view x.plant) Ckpt2).bytes)
    c.requires.rests2 c.requires.room2 (ready_count k n c.requires.draws e.tables e.drawn) e.same e.draft
    (λ told. ready_raises (run x.base (kept_all x.journal.batches)) c.args.self.now.batch k n (c.requires.done told) few e.tables e.drawn) where
      few : length c.args.self.now.batch ≤ 2 ^ 14
      few = search (rules, c.in_ok-reserve.ensures.few)

pub returns-in_err-draft-clause-given_up : goal.returns-in_err-draft-clause-given_up
returns-in_err-draft-clause-given_up g c = err_any c.from_residual.result (inl (facts_same c.args.self.now _ _ _ _))

pub returns-clause-grown : goal.returns-clause-grown
returns-clause-grown g c placed = let grown = c.in_ok-reserve.ensures.grown placed in (grown.0, grown.1)

-- pages that were drawn are those of the tables, and the room has each other page as before
pub invariant_of-self-in-Break-branch-2 : goal.invariant_of-self-in-Break-branch-2
invariant_of-self-in-Break-branch-2 g c =
    let m = c.args.self.now in
    let k = m.checkpoint in
    let n = c.redraw.new.checkpoint in
    let e = c.redraw.ensures in
    let same = ready_mirror c.in_ok-draft.draft k n m.room m.differ.pages m.differ.many c.requires.draws.sized e.drawn.sized (ready_count k n c.requires.draws e.tables e.drawn) e.draft m.mirrored in
    record {
      mirrored = subst (λ (marks : List Bool). IsMirrorBut marks m.room n.pages) (sym c.mark_drawn.ensures) same;
      unchanged = λ p lt none. e.drawn.spelled.each p lt;
      ordered = λ read. absurd (cc);
      indexed = subst (IsKept m.kept) (sym e.tables) m.indexed;
    }

pub invariant_of-self-2-clause-unchanged : goal.invariant_of-self-2-clause-unchanged
invariant_of-self-2-clause-unchanged g c p lt none = c.redraw.ensures.drawn.spelled.each p lt

pub invariant_of-self-2-clause-mirrored : goal.invariant_of-self-2-clause-mirrored
invariant_of-self-2-clause-mirrored g c =
    let m = c.args.self.now in
    let k = m.checkpoint in
    let n = c.redraw.new.checkpoint in
    let e = c.redraw.ensures in
    let same = ready_mirror c.in_ok-draft.draft k n m.room m.differ.pages m.differ.many c.requires.draws.sized e.drawn.sized (ready_count k n c.requires.draws e.tables e.drawn) e.draft m.mirrored in
    subst (λ (marks : List Bool). IsMirrorBut marks m.room n.pages) (sym c.mark_drawn.ensures) same

pub invariant_of-self-2-clause-indexed : goal.invariant_of-self-2-clause-indexed
invariant_of-self-2-clause-indexed g c = subst (IsKept c.args.self.now.kept) (sym c.redraw.ensures.tables) c.args.self.now.indexed

pub invariant_of-self-2-clause-ordered : goal.invariant_of-self-2-clause-ordered
invariant_of-self-2-clause-ordered g c read = ap are_orders_low c.redraw.ensures.tables ∙ c.args.self.now.ordered (sym c.replace-fresh.ensures.value ∙ read)
