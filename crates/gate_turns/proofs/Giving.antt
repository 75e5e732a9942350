-- What may be given back, from one call to the next.
use Rattle.std.proofs.Common.{◌≡◌, ℕ, ◌⊎◌, Bool, true, List, [], ◌∷◌, ◌++◌, refl, sym, ap, ◌∙◌, inl, inr, ⊎_elim, append_assoc}
use Rattle.std.proofs.lemmas.List.{append-nil}
use Rattle.mas_types.specs.declared.journals.Entry.{Entry}
use Rattle.gate_facts.specs.declared.facts.Facts.{Facts}
use Rattle.gate_facts.specs.Values.{marked_at, stopped_of, desk_of}
use Rattle.gate_facts.specs.Memory.{EachOf, MayGiveBack}
use Rattle.gate_facts.proofs.Lists.{true_false, not_true}
use Rattle.gate_facts.proofs.Values.{synced_refl, synced_trans, once_trans, later_refl, later_trans}

pub may_itself : (m : ℕ) (cares : List Bool) (is : Facts) → MayGiveBack m cares is is
may_itself m cares is = record {
  base = refl;
  kept = ([], sym (append-nil is.kept), tt);
  still_stopped = λ k e. e;
  still_up = λ k ne e. e;
  begun = λ k e. refl;
  lines = λ k e. refl;
  desks = λ k ne up. synced_refl (desk_of is k);
  other_stops = λ k e. refl;
  other_loses = λ none d. inl refl;
  marks = later_refl [] is.marks;
}

each_map : (P Q : Entry → Type 0) (es : List Entry) → ((e : Entry) → P e → Q e) → EachOf P es → EachOf Q es
each_map P Q [] f all = tt
each_map P Q (e ∷ es) f all = (f e all.0, each_map P Q es f all.1)

each_append : (P : Entry → Type 0) (xs ys : List Entry) → EachOf P xs → EachOf P ys → EachOf P (xs ++ ys)
each_append P [] ys a b = b
each_append P (x ∷ xs) ys a b = (a.0, each_append P xs ys a.1 b)

pub may_go_on : (m : ℕ) (cares : List Bool) (was then_ is : Facts) → MayGiveBack m cares was then_ → MayGiveBack m cares then_ is → MayGiveBack m cares was is
may_go_on m cares was then_ is a b = record {
  base = b.base ∙ a.base;
  kept = (
    a.kept.0 ++ b.kept.0,
    b.kept.1 ∙ (ap (λ l. l ++ b.kept.0) a.kept.1 ∙ append_assoc was.kept a.kept.0 b.kept.0),
    each_append (λ (e : Entry). (e.by.0 ≡ m) ⊎ (stopped_of is e.by.0 ≡ true)) a.kept.0 b.kept.0
        (each_map (λ (e : Entry). (e.by.0 ≡ m) ⊎ (stopped_of then_ e.by.0 ≡ true)) (λ (e : Entry). (e.by.0 ≡ m) ⊎ (stopped_of is e.by.0 ≡ true)) a.kept.0 (λ e s. ⊎_elim inl (λ t. inr (b.still_stopped e.by.0 t)) s) a.kept.2)
        b.kept.2,
  );
  still_stopped = λ k e. b.still_stopped k (a.still_stopped k e);
  still_up = λ k ne e. b.still_up k ne (a.still_up k ne e);
  begun = λ k e. b.begun k e ∙ a.begun k e;
  lines = λ k e. b.lines k e ∙ a.lines k e;
  desks = λ k ne up. synced_trans (desk_of is k) (desk_of then_ k) (desk_of was k) (b.desks k ne up) (a.desks k ne (not_true (stopped_of then_ k) (λ t. true_false (stopped_of is k) (b.still_stopped k t) up)));
  other_stops = λ k e. b.other_stops k e ∙ a.other_stops k e;
  other_loses = λ none d. once_trans is.marks then_.marks was.marks d (b.marks.lost d) (a.marks.lost d) (b.other_loses none d) (a.other_loses none d);
  marks = later_trans [] is.marks then_.marks was.marks b.marks (λ k e. true_false (marked_at [] k) e refl) (λ op d. true_false (marked_at [] 0) op refl) a.marks;
}
