-- What a diary may be given back as.
use Rattle.std.proofs.Common.{◌≡◌, ◌≢◌, ℕ, zero, suc, ◌<◌, Bool, true, false, List, [], ◌∷◌, ◌++◌, refl, sym, ap, subst, ◌∙◌, inl, arith, nat_eq, ne_eqb, eq-eqb, if◌then◌else◌}
use Rattle.std.proofs.lemmas.List.{append-nil}
use Rattle.gate_facts.specs.declared.facts.Facts.{Facts}
use Rattle.mas_types.specs.declared.journals.Entry.{Entry}
use Rattle.member_gate.specs.declared.view.View.{View}
use Rattle.gate_facts.specs.Values.{marked_at, number_at, no_desk, begun_of, lines_of, desk_of, entries_by, Synced, LostOnce, Later}
use Rattle.member_gate.specs.Marking.{either_of, chosen}
use Rattle.member_gate.specs.Views.{sight, Meets, MayEnd, MayLeave, joined}
use Rattle.member_gate.proofs.Places.{either_left, either_right, chosen_first, chosen_second}
use Rattle.gate_facts.proofs.Values.{synced_refl, later_refl}
use Rattle.gate_example.specs.Writing.{diary_facts, entry}

begun_same : (es es' : List Entry) (m : ℕ) → entries_by m es' ≡ entries_by m es → begun_of (diary_facts es') m ≡ begun_of (diary_facts es) m
begun_same es es' zero h = h
begun_same es es' (suc zero) h = h
begun_same es es' (suc (suc zero)) h = h
begun_same es es' (suc (suc (suc zero))) h = h
begun_same es es' (suc (suc (suc (suc zero)))) h = h
begun_same es es' (suc (suc (suc (suc (suc zero))))) h = h
begun_same es es' (suc (suc (suc (suc (suc (suc zero)))))) h = h
begun_same es es' (suc (suc (suc (suc (suc (suc (suc zero))))))) h = h
begun_same es es' (suc (suc (suc (suc (suc (suc (suc (suc zero)))))))) h = h
begun_same es es' (suc (suc (suc (suc (suc (suc (suc (suc (suc m))))))))) h = refl

pub begun_is : (es : List Entry) (m : ℕ) → m < 9 → begun_of (diary_facts es) m ≡ entries_by m es
begun_is es zero lt = refl
begun_is es (suc zero) lt = refl
begun_is es (suc (suc zero)) lt = refl
begun_is es (suc (suc (suc zero))) lt = refl
begun_is es (suc (suc (suc (suc zero)))) lt = refl
begun_is es (suc (suc (suc (suc (suc zero))))) lt = refl
begun_is es (suc (suc (suc (suc (suc (suc zero)))))) lt = refl
begun_is es (suc (suc (suc (suc (suc (suc (suc zero))))))) lt = refl
begun_is es (suc (suc (suc (suc (suc (suc (suc (suc zero)))))))) lt = refl
begun_is es (suc (suc (suc (suc (suc (suc (suc (suc (suc m))))))))) lt = absurd (omega arith)

differ : {A : Type 0} (b : Bool) → b ≡ true → b ≡ false → A
differ b t f = cc

pick_append : (b : Bool) (e : Entry) (l k r : List Entry) → l ≡ k ++ r → (if b then e ∷ l else l) ≡ (if b then e ∷ k else k) ++ r
pick_append true e l k r h = ap (λ (z : List Entry). e ∷ z) h
pick_append false e l k r h = h

by_append : (m : ℕ) (es more : List Entry) → entries_by m (es ++ more) ≡ entries_by m es ++ entries_by m more
by_append m [] more = refl
by_append m (e ∷ es) more = pick_append (nat_eq e.by.0 m) e (entries_by m (es ++ more)) (entries_by m es) (entries_by m more) (by_append m es more)

pub by_one : (by step : ℕ) → entries_by by (entry by step ∷ []) ≡ entry by step ∷ []
by_one by step = ap (λ (b : Bool). if b then entry by step ∷ [] else []) (eq-eqb by by refl)

by_other : (m by step : ℕ) → by ≢ m → entries_by m (entry by step ∷ []) ≡ []
by_other m by step ne = ap (λ (b : Bool). if b then entry by step ∷ [] else []) (ne_eqb by m ne)

may_same : (v : View) (told : Bool) (es : List Entry) → (sight v told).out ≡ diary_facts es → MayEnd v told (diary_facts es)
may_same v told es out = subst (λ (z : Facts). MayEnd v told z) out record {
  base = refl;
  kept = ([], sym (append-nil (sight v told).out.kept), tt);
  still_stopped = λ m s. s;
  still_up = λ m ne u. u;
  begun = λ m c. refl;
  lines = λ m c. refl;
  desks = λ m ne u. synced_refl _;
  other_stops = λ m c. refl;
  other_loses = λ none d. inl refl;
  marks = later_refl [] (sight v told).out.marks;
}

-- a value to which nothing was added may be given back
pub may_keep : (v : View) (es es' : List Entry) → v.bare.out ≡ diary_facts es → v.told.out ≡ diary_facts es → es' ≡ es → MayLeave (Unit {0}) v (λ told. diary_facts es')
may_keep v es es' bare told e = record { bare = may_same v false es' (bare ∙ ap diary_facts (sym e)); told = λ t. may_same v true es' (told ∙ ap diary_facts (sym e)) }

adds : (v : View) (told : Bool) (es es' : List Entry) (by step : ℕ) → (sight v told).out ≡ diary_facts es → es' ≡ es ++ entry by step ∷ [] → v.member ≡ by → marked_at v.cares by ≡ true → MayEnd v told (diary_facts es')
adds v told es es' by step out e member cares = record {
  base = ap (λ (z : Facts). z.base) (sym out);
  kept = (entry by step ∷ [], e ∙ ap (λ (z : Facts). z.kept ++ entry by step ∷ []) (sym out), (inl (sym member), tt));
  still_stopped = λ m s. ap (λ (z : Facts). marked_at z.stopped m) (sym out) ∙ s;
  still_up = λ m ne u. refl;
  begun = λ m c. begun_same es es' m (ap (entries_by m) e ∙ (by_append m es (entry by step ∷ []) ∙ (ap (λ (l : List Entry). entries_by m es ++ l)
      (by_other m by step (λ q. differ (marked_at v.cares by) cares (ap (λ (z : ℕ). marked_at v.cares z) q ∙ c))) ∙ append-nil (entries_by m es)))) ∙ ap (λ (z : Facts). begun_of z m) (sym out);
  lines = λ m c. ap (λ (z : Facts). lines_of z m) (sym out);
  desks = λ m ne u. subst (λ (z : Facts). Synced no_desk (desk_of z m)) (sym out) (synced_refl no_desk);
  other_stops = λ m c. ap (λ (z : Facts). number_at z.marks.stops m) (sym out);
  other_loses = λ none d. subst (λ (z : Facts). LostOnce (diary_facts es').marks z.marks d) (sym out) (inl refl);
  marks = subst (λ (z : Facts). Later [] (diary_facts es').marks z.marks) (sym out) (later_refl [] (diary_facts es).marks);
}

-- an entry of the pass's member was added
pub may_add : (v : View) (es es' : List Entry) (by step : ℕ) → v.bare.out ≡ diary_facts es → v.told.out ≡ diary_facts es → es' ≡ es ++ entry by step ∷ [] → v.member ≡ by → marked_at v.cares by ≡ true
    → MayLeave (Unit {0}) v (λ told. diary_facts es')
may_add v es es' by step bare told e member cares = record { bare = adds v false es es' by step bare e member cares; told = λ t. adds v true es es' by step told e member cares }

-- what was written before, and then one more
pub begun_more : (es es' : List Entry) (by step : ℕ) → by < 9 → es' ≡ es ++ entry by step ∷ [] → begun_of (diary_facts es') by ≡ begun_of (diary_facts es) by ++ entry by step ∷ []
begun_more es es' by step lt e = begun_is es' by lt ∙ (ap (entries_by by) e ∙ (by_append by es (entry by step ∷ []) ∙
    (ap (λ (l : List Entry). entries_by by es ++ l) (by_one by step) ∙ ap (λ (l : List Entry). l ++ entry by step ∷ []) (sym (begun_is es by lt)))))

-- what the last pass knows of a member whose pass came back first
pub joined_first : (r a b : View) (K : Facts) (m : ℕ) → marked_at a.cares m ≡ true → marked_at b.cares m ≡ false → Meets (joined (joined r a) b) false K → begun_of K m ≡ begun_of a.bare.last m
joined_first r a b K m ca cb k =
    k.begun m (either_left (either_of r.cares a.cares) b.cares m (either_right r.cares a.cares m ca))
    ∙ (chosen_second [] b.cares b.bare.last.begun (chosen [] a.cares a.bare.last.begun r.bare.last.begun) m cb
    ∙ chosen_first [] a.cares a.bare.last.begun r.bare.last.begun m ca)

pub joined_second : (r a b : View) (K : Facts) (m : ℕ) → marked_at b.cares m ≡ true → Meets (joined (joined r a) b) false K → begun_of K m ≡ begun_of b.bare.last m
joined_second r a b K m cb k =
    k.begun m (either_right (either_of r.cares a.cares) b.cares m cb)
    ∙ chosen_first [] b.cares b.bare.last.begun (chosen [] a.cares a.bare.last.begun r.bare.last.begun) m cb
