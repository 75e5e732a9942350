-- What one member may give back, the others still know.
use Rattle.std.proofs.Common.{◌≡◌, ℕ, ◌⊎◌, true, false, List, [], length, sym, ap, subst, ◌∙◌, ⊎_elim, arith}
use Rattle.std.proofs.lemmas.List.{append-nil}
use lib.ListN.{get_elem?}
use Rattle.mas_types.specs.declared.journals.Entry.{Entry}
use Rattle.gate_facts.specs.Values.{marked_at, stopped_of, desk_of, Synced, Later}
use Rattle.gate_facts.specs.Laws.{OthersStillKnow, WhatIsLeftIsKnown}
use Rattle.gate_facts.proofs.Lists.{true_false, not_true, same_bool, starts_trans, at_within, at_append, each_at}
use Rattle.gate_facts.proofs.Values.{synced_refl, synced_trans, later_refl, later_trans}

pub others_know : OthersStillKnow
others_know m other cares y was is differ apart may k =
    let not_mine : (j : ℕ) → marked_at y.cares j ≡ true → marked_at cares j ≡ false = λ j c. not_true (marked_at cares j) (λ t. apart j t c) in
    let up_before : (j : ℕ) → stopped_of is j ≡ false → stopped_of was j ≡ false = λ j f. not_true (stopped_of was j) (λ t. true_false (stopped_of is j) (may.still_stopped j t) f) in
    record {
      base = may.base ∙ k.base;
      kept = starts_trans is.kept was.kept y.seen (may.kept.0, may.kept.1) k.kept;
      begun = λ j c. may.begun j (not_mine j c) ∙ k.begun j c;
      lines = λ j c. may.lines j (not_mine j c) ∙ k.lines j c;
      stopped = λ pos. same_bool (stopped_of is other) (stopped_of was other) (may.still_stopped other) (may.still_up other differ) ∙ k.stopped pos;
      desk = λ up. synced_trans (desk_of is other) (desk_of was other) (y.desk other) (may.desks other differ up) (k.desk (up_before other up));
      no_more = λ up j e atj le.
          ⊎_elim
          (λ t. k.no_more (up_before other up) j e t le)
          (λ t same. ⊎_elim
          (λ by. differ (sym same ∙ by))
          (λ st. true_false (stopped_of is other) (ap (λ (z : ℕ). stopped_of is z) (sym same) ∙ st) up)
          (each_at (λ (z : Entry). (z.by.0 ≡ m) ⊎ (stopped_of is z.by.0 ≡ true)) may.kept.0 t.1.0 e may.kept.2 t.1.1))
          (at_append was.kept may.kept.0 j e (ap (λ (l : List Entry). get_elem? l j) (sym may.kept.1) ∙ atj));
      marks = later_trans y.cares is.marks was.marks y.marks may.marks (λ j c. may.other_stops j (not_mine j c)) (λ op d. may.other_loses (not_mine 0 op) d) k.marks;
    }

pub left_known : WhatIsLeftIsKnown
left_known m y is l = record {
  base = sym l.base;
  kept = ([], sym l.seen ∙ sym (append-nil y.seen));
  begun = λ k c. sym (l.begun k c);
  lines = λ k c. sym (l.lines k c);
  stopped = λ pos. sym l.stopped;
  desk = λ up. subst (Synced (desk_of is m)) (sym l.desk) (synced_refl (desk_of is m));
  no_more = λ up k e atk le. let lt = at_within is.kept k e atk in let same = ap length l.seen in absurd (omega arith);
  marks = subst (Later y.cares is.marks) (sym l.marks) (later_refl y.cares is.marks);
}
