-- What is known of many members when their passes come back.
use Rattle.std.proofs.Common.{◌≡◌, ℕ, ◌+◌, ◌<◌, true, false, List, [], take, refl, sym, ap, ◌∙◌, arith}
use Rattle.std.proofs.lemmas.List.{get_or-set_other, get_or-replicate}
use mathlib.Core.Logic.{dite}
use native.Mathlib.Decide.{ℕ_discrete}
use Rattle.mas_types.specs.declared.journals.Entry.{Entry}
use Rattle.gate_facts.specs.Values.{begun_of, marked_at, entries_by}
use Rattle.gate_facts.specs.Memory.{seats}
use Rattle.member_gate.specs.declared.view.View.{View}
use Rattle.member_gate.specs.Marking.{single}
use Rattle.member_gate.specs.Views.{Meets, opener, opened, ending, giving, joined}
use Rattle.member_gate.proofs.Places.{none_both, single_here, single_else, either_left, either_right, chosen_first, chosen_second}
use Rattle.gate_example.specs.Writing.{diary_facts, written}
use Rattle.gate_example.specs.Crowds.{IsRest, HaveWritten, StandInOrder}
use Rattle.gate_example.proofs.Entries.{begun_is}

-- a new gate's pass
pub rest_first : (es : List Entry) → es ≡ [] → IsRest (ending (opened (opener (λ told. diary_facts es)))) 1
rest_first es e = record {
  free = refl;
  root = refl;
  fresh = λ m le. refl;
  cares = λ m le lt. get_or-replicate seats m true false lt;
  new = λ m le lt. begun_is es m lt ∙ ap (entries_by m) e;
}

-- once it split one more
pub rest_next : (v : View) (by : ℕ) → IsRest v by → IsRest (giving by v) (by + 1)
rest_next v by r = record {
  free = r.free;
  root = r.root;
  fresh = λ m le. none_both v.given (single by) m (r.fresh m (omega arith)) (single_else by m (λ e. absurd (omega arith)));
  cares = λ m le lt. get_or-set_other v.cares by m false false (λ e. absurd (omega arith)) ∙ r.cares m (omega arith) lt;
  new = λ m le lt. r.new m (omega arith) lt;
}

-- the pass of one member is joined to that of the members above it
pub written_joined : (r a : View) (by last n : ℕ) (steps : List ℕ) → HaveWritten r (by + 1) last steps → a.cares ≡ single by → begun_of a.bare.last by ≡ written by (take n steps)
    → HaveWritten (joined r a) by last steps
written_joined r a by last n steps above cares mine m low high = dite (ℕ_discrete m by)
    (λ e. let here : marked_at a.cares m ≡ true = ap (λ l. marked_at l m) cares ∙ (ap (λ k. marked_at (single by) k) e ∙ single_here by) in (
      either_right r.cares a.cares m here,
      (n, chosen_first [] a.cares a.bare.last.begun r.bare.last.begun m here ∙ (ap (begun_of a.bare.last) e ∙ (mine ∙ ap (λ k. written k (take n steps)) (sym e)))),
    ))
    (λ ne. let w = above m (omega arith) high in (
      either_left r.cares a.cares m w.0,
      (w.1.0, chosen_second [] a.cares a.bare.last.begun r.bare.last.begun m (ap (λ l. marked_at l m) cares ∙ single_else by m ne) ∙ w.1.1),
    ))

-- in the end each member's entries stand in order
pub stand_in_order : (v : View) (es : List Entry) (members : ℕ) (steps : List ℕ) → members < seats → Meets v false (diary_facts es) → HaveWritten v 1 members steps → StandInOrder es members steps
stand_in_order v es members steps few meets wrote m pos high =
    let w = wrote m (omega arith) high in
    (w.1.0, sym (begun_is es m (omega arith)) ∙ (meets.begun m w.0 ∙ w.1.1))
