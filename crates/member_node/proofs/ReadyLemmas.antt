-- A draft of a member's pages.
use Rattle.std.proofs.Common.{◌≡◌, ⊎_elim, ℕ, ◌+◌, ◌*◌, ◌≤◌, ◌<◌, ◌^◌, Bool, true, List, length, Option, Some, sym, ◌∙◌, ap, subst, arith, All}
use Rattle.std.proofs.lemmas.Option.{same_Some as some_same}
use Rattle.std.proofs.Math.Logic.{∥∥₁_elim}
use Rattle.mas_types.specs.declared.ids.Page.{Page}
use Rattle.mas_types.specs.Limits.{page_bytes, pages_most}
use Rattle.mas_types.specs.declared.journals.Entry.{Entry}
use Rattle.mas_types.specs.declared.queues.Queue.{Queue}
use Rattle.ckpt_copy.specs.Moments.{either_way}
use Rattle.ckpt_copy.specs.Pages.{bytes_of, ArePages}
use Rattle.ckpt_tables.specs.declared.tables.Tables.{Tables}
use Rattle.ckpt_tables.specs.Shape.{page_count}
use Rattle.queue_indexed.specs.Laws.{PagesTellAlike}
use Rattle.queue_telling.specs.Orders.{HaveOrders}
use Rattle.queue_telling.specs.Telling.{Tell, PagesTell}
use Rattle.mas_complex.specs.Crash.{RaisesOrders, next_order, orders_most}
use Rattle.mas_complex.specs.Meaning.{run}
use Rattle.mas_complex.specs.Past.{IsNextOf}
use Rattle.ckpt_places.specs.declared.places.Place.{Place}
use Rattle.member_node.specs.declared.checkpoint.Checkpoint.{Checkpoint}
use Rattle.member_node.specs.declared.checkpoint.Draft.{Draft}
use Rattle.member_node.specs.declared.checkpoint.Draft.TheVariants as draft
use Rattle.member_node.specs.Batches.{CanDraw, HasDone, IsDraftOf, level_with}
use Rattle.member_node.specs.Copies.{IsDraftFor, RestsAt}
use Rattle.member_node.specs.Drawn.{AreDrawn}
use Rattle.member_node.specs.Mirrors.{IsMirrorBut, marked_by}
use Rattle.member_node.specs.Redrawn.{IsRedrawn, IsSameWhere}
use Rattle.member_node.proofs.DrawnLemmas.{drawn_level, drawn_order, drawn_stand, drawn_tell, page_joined}
use Rattle.member_node.proofs.MirrorLemmas.{unmarked_all}
use Rattle.member_node.proofs.WriteLemmas.{covers_read, names_read}

pub ready_level : (d : Draft) (was is : ℕ) (old new : List Page) → IsRedrawn d was old is new → is ≡ level_with d was
ready_level draft.Same was is old new drawn = drawn.0
ready_level (draft.Changed numbers) was is old new drawn = drawn.level

-- the tables were drawn again
pub ready_draft : PagesTellAlike → (d : Draft) (told : Type 0) (Q : Queue) (entries : List Entry) (k n : Checkpoint) (reached : ℕ) → HasDone Q entries k → reached ≡ k.level → k.level + 1 < 2 ^ 63
    → n.tables ≡ k.tables → AreDrawn n.tables n.level n.levels n.pages → IsRedrawn d k.level k.pages n.level n.pages → IsDraftOf d told Q entries reached n.pages
ready_draft alike d told Q entries k n reached done at small same drawn redrawn = by_draft d redrawn where
  after : Tell n.tables (run Q entries)
  after = subst (λ (t : Tables). Tell t (run Q entries)) (sym same) done.queue

  orders : HaveOrders n.tables
  orders = subst HaveOrders (sym same) done.orders

  by_draft : (e : Draft) → IsRedrawn e k.level k.pages n.level n.pages → IsDraftOf e told Q entries reached n.pages
  by_draft draft.Same redrawn =
      let here : PagesTell k.pages n.level (run Q entries) = subst (λ (ps : List Page). PagesTell ps n.level (run Q entries)) redrawn.1 (drawn_tell n.tables n.level n.levels n.pages (run Q entries) drawn orders after) in
      (alike k.pages k.level n.level Q (run Q entries) done.pages here).0
  by_draft (draft.Changed numbers) redrawn = (
    drawn_level n.tables n.level n.levels n.pages drawn ∙ redrawn.level ∙ ap (λ (l : ℕ). l + 1) (sym at),
    omega (arith, at, small),
    drawn_stand n.tables n.level n.levels n.pages (run Q entries) drawn orders after,
  )

-- the pages are as many as before
pub ready_count : (k n : Checkpoint) → CanDraw k → n.tables ≡ k.tables → AreDrawn n.tables n.level n.levels n.pages → length n.pages ≡ length k.pages
ready_count k n draws same drawn = drawn.spelled.count ∙ ap (λ (t : Tables). page_count t.config) same ∙ sym draws.as_many

-- a batch of so few entries raises the next order by no more than it may
pub ready_raises : (Q : Queue) (entries : List Entry) (k n : Checkpoint) → ∥ HasDone Q entries k ∥₁ → length entries ≤ 2 ^ 14 → n.tables ≡ k.tables → AreDrawn n.tables n.level n.levels n.pages → RaisesOrders (bytes_of k.pages) (bytes_of n.pages)
ready_raises Q entries k n done few same drawn =
    ⊎_elim (λ le. le) (λ lt. absurd (∥∥₁_elim done (λ a b. absurd a) (λ (d : HasDone Q entries k). clash (length entries) k.tables.order n.tables.order (next_order (bytes_of k.pages)) (next_order (bytes_of n.pages)) few
    d.raised (ap (λ (t : Tables). t.order) same) (drawn_order n.tables n.level n.levels n.pages drawn) lt)))
    (either_way (next_order (bytes_of n.pages)) (next_order (bytes_of k.pages) + orders_most)) where
      clash : (many was is old new : ℕ) → many ≤ 2 ^ 14 → was ≤ old + 32 * many → is ≡ was → new ≡ is → old + orders_most < new → ⊥
      clash many was is old new few raised same drawn lt = omega (arith, few, raised, same, drawn, lt)

-- a copy that rests at the old pages may be given the new ones
pub ready_copy : (d : Draft) (X told : Type 0) (alive : Bool) (place : Place) (count room was is : ℕ) (old new : List Page) (read : Option (List ℕ)) → RestsAt told alive place count old read → (alive ≡ true → (X → ⊥) → 1 ≤ room) → length new ≡ length old
    → IsSameWhere d X → IsRedrawn d was old is new → (told → RaisesOrders (bytes_of old) (bytes_of new)) → IsDraftFor d told (alive, read) count room new
ready_copy draft.Same X told alive place count room was is old new read rests some many same drawn raises =
    ((λ on. many ∙ rests.as_many on), (λ t on. rests.reads t on ∙ ap (λ (ps : List Page). Some (bytes_of ps)) (sym drawn.1)))
ready_copy (draft.Changed numbers) X told alive place count room was is old new read rests some many anew drawn raises = record {
  room = λ on. some on anew;
  as_many = λ on. many ∙ rests.as_many on;
  numbers = λ on. subst (λ (n : ℕ). ArePages n numbers) (many ∙ rests.as_many on) drawn.numbers;
  covered = λ t on before reads. covers_read count (length new) numbers before (bytes_of old) (bytes_of new) read (sym (many ∙ rests.as_many on)) drawn.covered (rests.reads t on) reads;
  exact = λ t on before reads. names_read numbers before (bytes_of old) (bytes_of new) read drawn.exact (rests.reads t on) reads;
  leveled = λ t on before reads. subst (λ (n : ℕ). IsNextOf n before (bytes_of new)) (many ∙ rests.as_many on) (subst (λ (w : List ℕ). IsNextOf (length new) w (bytes_of new)) (some_same (bytes_of old) before (sym (rests.reads t on) ∙ reads)) drawn.leveled);
  orders = λ t on before reads. subst (λ (w : List ℕ). RaisesOrders w (bytes_of new)) (some_same (bytes_of old) before (sym (rests.reads t on) ∙ reads)) (raises t);
}

-- Pages that the room has, and that a draft doesn't change.
pub ready_mirror : (d : Draft) (k n : Checkpoint) (room : List Page) (marks : List Bool) → length marks ≡ pages_most → All (λ page. length page.0 ≡ page_bytes) k.pages → All (λ page. length page.0 ≡ page_bytes) n.pages → length n.pages ≡ length k.pages
    → IsRedrawn d k.level k.pages n.level n.pages → IsMirrorBut marks room k.pages → IsMirrorBut (marked_by d marks) room n.pages
ready_mirror draft.Same k n room marks long was is many drawn mirror = subst (IsMirrorBut marks room) (sym drawn.1) mirror
ready_mirror (draft.Changed numbers) k n room marks long was is many newer mirror = λ q from few to1 to2 off.
    let inside : q < length k.pages = omega (arith, to2, many) in
    let both = unmarked_all numbers marks q (omega (arith, few, long)) off in
    mirror q from few to1 inside both.0
    ∙ ⊎_elim (λ one. absurd (both.1 one)) (λ same. sym (page_joined k.pages q was inside) ∙ sym same ∙ page_joined n.pages q is to2) (newer.covered q to2)
