-- What a span of groups holds, and changes of the groups in it alone.
use Rattle.std.proofs.Common.{◌≡◌, ℕ, zero, suc, ◌+◌, ◌-◌, ◌<◌, ◌≤◌, Bool, true, false, List, [], ◌∷◌, ◌++◌, length, take, drop, get_or, refl, sym, ◌∙◌, ap, arith, append_assoc, length-append, length-drop, drop-drop}
use Rattle.std.specs.Prelude.{◌==◌, nat_lt, count_by, if◌then◌else◌, min, Result, Ok, Err, OnOk, OnErr}
use Rattle.std.proofs.lemmas.Bool.Decides.{nat_tests}
use Rattle.std.proofs.lemmas.List.{append-nil, drop-append-le, drop_all, length-take-le, map-append, take-append-drop, take-append-le, take-take, take_all}
use borrow.Rule.Slice.PartMut.{put_mid}
use Rattle.std.proofs.lemmas.List.Sums.{count_by-le-length, count_by_more_no, count_by_more_yes, sum_by-append, sum_by-cons, sum_by-take-drop, sum_by-take-le}
use Rattle.mas_types.specs.declared.ids.MemberId.{MemberId}
use Rattle.mas_types.specs.declared.queues.Owner.{Owner}
use Rattle.mas_types.specs.declared.queues.Owner.TheVariants as owner
use Rattle.mas_types.specs.declared.queues.Thing.{Thing}
use Rattle.mas_types.specs.Owners.{freed, free_count, is_free, is_members, member_count, places, taken}
use Rattle.track_groups.specs.declared.changes.SpoolFull.{SpoolFull}
use Rattle.track_groups.specs.Groups.{first_places, given, owner_at}
use Rattle.queue_slots.proofs.Cases.{test_cases}
use Rattle.queue_effect.proofs.GroupLemmas.{length-freed, length-given, length-taken}
use Rattle.queue_effect.specs.declared.spans.Span.{Span}
use Rattle.queue_effect.specs.Spans.{HoldsAll, HoldsEnough, StaysOutside}

clash : (b : Bool) → b ≡ true → b ≡ false → ⊥
clash b one two = cc

by_none : {A : Type 0} (n : ℕ) → (n ≡ 0 → A) → (0 < n → A) → A
by_none zero none some = none refl
by_none (suc n) none some = some (omega arith)

pub on_ok : {A B : Type 0} (r : Result ℕ SpoolFull) → (A → B) → OnOk r A → OnOk r B
on_ok (Ok n) f is = f is
on_ok (Err e) f is = is

pub on_err : {A B : Type 0} (r : Result ℕ SpoolFull) → (A → B) → OnErr r A → OnErr r B
on_err (Ok n) f is = is
on_err (Err e) f is = f is

-- COUNTS

module _ (test : Owner → Bool) where
  count-yes : (g : Owner) (gs : List Owner) → test g ≡ true → count_by test (g ∷ gs) ≡ 1 + count_by test gs
  count-yes g gs h = rw (sum_by-cons (λ y. if test y then 1 else 0) g gs, h) refl

  count-no : (g : Owner) (gs : List Owner) → test g ≡ false → count_by test (g ∷ gs) ≡ count_by test gs
  count-no g gs h = rw (sum_by-cons (λ y. if test y then 1 else 0) g gs, h) (omega arith)

  count-append : (xs ys : List Owner) → count_by test (xs ++ ys) ≡ count_by test xs + count_by test ys
  count-append xs ys = sum_by-append (λ y. if test y then 1 else 0) xs ys

  -- of a list in two parts
  count-parts : (gs : List Owner) (n : ℕ) → count_by test (take n gs) + count_by test (drop n gs) ≡ count_by test gs
  count-parts gs n = sum_by-take-drop (λ y. if test y then 1 else 0) gs n

-- THE WALK

-- of the groups below a place so many are sought, and the span holds them
pub record SpanTo (test : Owner → Bool) (gs : List Owner) (at first end found : ℕ) : Type 0 where
  pub order : first ≤ end
  pub upto : end ≤ at
  pub few : found ≤ at
  pub low : count_by test (take first gs) ≡ 0
  pub here : count_by test (take end gs) ≡ found
  pub all : count_by test (take at gs) ≡ found

module _ (test : Owner → Bool) (gs : List Owner) where
  pub span_none : SpanTo test gs 0 0 0 0
  span_none = record { order = omega arith; upto = omega arith; few = omega arith; low = refl; here = refl; all = refl }

  pub span_hit : (at first end found new : ℕ) → at < length gs → test (get_or gs at owner.Free) ≡ true → new ≡ (if found == 0 then at else first) → SpanTo test gs at first end found → SpanTo test gs (at + 1) new (at + 1) (found + 1)
  span_hit at first end found new inside hit is so =
      let more : count_by test (take (at + 1) gs) ≡ found + 1 = count_by_more_yes test gs at owner.Free inside hit ∙ ap (λ (n : ℕ). n + 1) so.all in
      test_cases (found == 0) (SpanTo test gs (at + 1) new (at + 1) (found + 1))
      (λ none. let e : new ≡ at = rw none at is in let zero : found ≡ 0 = grind (arith, nat_tests, none) in
      record { order = omega (arith, e); upto = omega arith; few = omega (arith, so.few); low = ap (λ (n : ℕ). count_by test (take n gs)) e ∙ so.all ∙ zero; here = more; all = more })
      (λ some. let e : new ≡ first = rw some at is in
      record { order = omega (arith, e, so.order, so.upto); upto = omega arith; few = omega (arith, so.few); low = ap (λ (n : ℕ). count_by test (take n gs)) e ∙ so.low; here = more; all = more })

  pub span_miss : (at first end found : ℕ) → at < length gs → test (get_or gs at owner.Free) ≡ false → SpanTo test gs at first end found → SpanTo test gs (at + 1) first end found
  span_miss at first end found inside miss so = record {
    order = so.order;
    upto = omega (arith, so.upto);
    few = omega (arith, so.few);
    low = so.low;
    here = so.here;
    all = count_by_more_no test gs at owner.Free inside miss ∙ so.all;
  }

  pub enough_found : (most at found : ℕ) (s : Span) → at ≤ length gs → found ≡ most → 0 < found → SpanTo test gs at s.first s.end found → HoldsEnough test most s gs
  enough_found most at found s inside is some so = record {
    order = so.order;
    end = omega (arith, so.upto, inside);
    low = so.low;
    within = sum_by-take-le (λ y. if test y then 1 else 0) gs s.end;
    some = λ less. omega (arith, so.here, some);
    enough = λ less. omega (arith, so.here, is);
  }

  pub all_seen : (most at found : ℕ) (s : Span) → at ≤ length gs → length gs ≤ at → SpanTo test gs at s.first s.end found → HoldsEnough test most s gs
  all_seen most at found s inside over so =
      let all : count_by test gs ≡ found = ap (λ (l : List Owner). count_by test l) (sym (take_all at gs over)) ∙ so.all in
      record {
        order = so.order;
        end = omega (arith, so.upto, inside);
        low = so.low;
        within = omega (arith, so.here, all);
        some = λ less. absurd (omega (arith, so.here, all, less));
        enough = λ less. absurd (omega (arith, so.here, all, less));
      }

  pub holds_all : (s : Span) → HoldsEnough test (length gs) s gs → HoldsAll test s gs
  holds_all s holds = record {
    order = holds.order;
    end = holds.end;
    low = holds.low;
    all = test_cases (nat_lt (count_by test (take s.end gs)) (count_by test gs)) (count_by test (take s.end gs) ≡ count_by test gs)
        (λ e. let less : count_by test (take s.end gs) < count_by test gs = grind (arith, nat_tests, e) in absurd (omega (arith, holds.enough less, less, count_by-le-length test gs)))
        (λ e. let no_less : count_by test gs ≤ count_by test (take s.end gs) = grind (arith, nat_tests, e) in omega (arith, no_less, holds.within));
  }

-- of a list that is the same
pub holds_there : (test : Owner → Bool) (most : ℕ) (s : Span) (gs hs owners : List Owner) → gs ≡ owners → hs ≡ owners → HoldsEnough test most s gs → HoldsEnough test most s hs
holds_there test most s gs hs owners one two holds = rw two (rw one at holds)

-- THE PARTS OF A LIST

module _ (s : Span) (gs : List Owner) where
  -- the groups in the span
  abbrev pub inside : List Owner
  inside = take (s.end - s.first) (drop s.first gs)

  parts : s.first ≤ s.end → take s.first gs ++ inside ++ drop s.end gs ≡ gs
  parts order =
      let e : s.first + (s.end - s.first) ≡ s.end = omega (arith, order) in
      let rest : inside ++ drop s.end gs ≡ drop s.first gs =
      ap (λ (n : ℕ). inside ++ drop n gs) (sym e) ∙ ap (λ (l : List Owner). inside ++ l) (sym (drop-drop (s.end - s.first) s.first gs)) ∙ take-append-drop (s.end - s.first) (drop s.first gs) in
      append_assoc (take s.first gs) inside (drop s.end gs) ∙ ap (λ (l : List Owner). take s.first gs ++ l) rest ∙ take-append-drop s.first gs

  count-inside : (test : Owner → Bool) → s.first ≤ s.end → count_by test (take s.first gs) ≡ 0 → count_by test inside + count_by test (drop s.end gs) ≡ count_by test gs
  count-inside test order low =
      let e : count_by test (take s.first gs ++ inside ++ drop s.end gs) ≡ count_by test gs = ap (λ (l : List Owner). count_by test l) (parts order) in
      let one = count-append test (take s.first gs ++ inside) (drop s.end gs) in
      let two = count-append test (take s.first gs) inside in
      omega (arith, e, one, two, low)

  -- what a write to the span leaves
  abbrev pub written : List Owner → List Owner
  written new = put_mid s.first (s.end - s.first) gs new

  written-parts : s.first ≤ s.end → (new : List Owner) → written new ≡ take s.first gs ++ new ++ drop s.end gs
  written-parts order new =
      let e : s.first + (s.end - s.first) ≡ s.end = omega (arith, order) in
      ap (λ (l : List Owner). take s.first gs ++ (new ++ l)) (drop-drop (s.end - s.first) s.first gs ∙ ap (λ (n : ℕ). drop n gs) e) ∙ sym (append_assoc (take s.first gs) new (drop s.end gs))

  count-written : (test : Owner → Bool) (new : List Owner) → s.first ≤ s.end → count_by test (take s.first gs) ≡ 0 → count_by test (written new) ≡ count_by test new + count_by test (drop s.end gs)
  count-written test new order low =
      let e : count_by test (written new) ≡ count_by test (take s.first gs ++ new ++ drop s.end gs) = ap (λ (l : List Owner). count_by test l) (written-parts order new) in
      let one = count-append test (take s.first gs ++ new) (drop s.end gs) in
      let two = count-append test (take s.first gs) new in
      omega (arith, e, one, two, low)

  -- other owners in the span, as many
  outside : (new : List Owner) → s.first ≤ s.end → s.end ≤ length gs → length new ≡ length inside → StaysOutside s gs (take s.first gs ++ new ++ drop s.end gs)
  outside new order end same =
      let low : length (take s.first gs) ≡ s.first = length-take-le s.first gs (omega (arith, order, end)) in
      let left : length (drop s.first gs) ≡ length gs - s.first = length-drop s.first gs in
      let many : length inside ≡ s.end - s.first = length-take-le (s.end - s.first) (drop s.first gs) (omega (arith, left, order, end)) in
      let upto : length (take s.first gs ++ new) ≡ s.end = length-append (take s.first gs) new ∙ omega (arith, low, many, same, order) in
      let after : length (drop s.end gs) ≡ length gs - s.end = length-drop s.end gs in
      record {
        end = end;
        size = length-append (take s.first gs ++ new) (drop s.end gs) ∙ omega (arith, upto, after, end);
        low = ap (take s.first) (append_assoc (take s.first gs) new (drop s.end gs)) ∙ take-append-le s.first (take s.first gs) (new ++ drop s.end gs) (omega (arith, low)) ∙ take-take s.first s.first gs (omega arith);
        high = drop-append-le s.end (take s.first gs ++ new) (drop s.end gs) (omega (arith, upto)) ∙ ap (λ (l : List Owner). l ++ drop s.end gs) (drop_all s.end (take s.first gs ++ new) (omega (arith, upto)));
      }

  pub stays_outside : (new : List Owner) → s.first ≤ s.end → s.end ≤ length gs → length new ≡ length inside → StaysOutside s gs (written new)
  stays_outside new order end same = rw (written-parts order new) (outside new order end same)

  -- what a span that holds enough has of them
  module _ (test : Owner → Bool) (most : ℕ) (holds : HoldsEnough test most s gs) where
    above-few : count_by test (drop s.end gs) ≡ 0 → count_by test inside ≡ count_by test gs
    above-few none = omega (arith, count-inside test holds.order holds.low, none)

    above-many : 0 < count_by test (drop s.end gs) → (most ≤ count_by test inside) × (0 < count_by test inside)
    above-many some =
        let all = count-inside test holds.order holds.low in
        let halves = count-parts test gs s.end in
        let less : count_by test (take s.end gs) < count_by test gs = omega (arith, halves, some) in
        (omega (arith, all, halves, holds.enough less), omega (arith, all, halves, holds.some less))

    either : {A : Type 0} → (count_by test inside ≡ count_by test gs → A) → (most ≤ count_by test inside → 0 < count_by test inside → A) → A
    either all some =
        by_none (count_by test (drop s.end gs)) (λ none. all (above-few none)) (λ more. some (above-many more).0 (above-many more).1)

    pub room_in : most ≤ count_by test gs → most ≤ count_by test inside
    room_in room = either (λ e. omega (arith, e, room)) (λ enough some. enough)

    within : count_by test inside ≤ count_by test gs
    within = omega (arith, count-inside test holds.order holds.low)

    pub min_in : min most (count_by test inside) ≡ min most (count_by test gs)
    min_in = either (λ e. ap (min most) e) (λ enough some. omega (arith, enough, within))

    pub some_in : 0 < count_by test inside → 0 < count_by test gs
    some_in some = omega (arith, some, within)

    pub none_in : count_by test inside ≡ 0 → count_by test gs ≡ 0
    none_in none = either (λ e. sym e ∙ none) (λ enough some. absurd (omega (arith, some, none)))

    pub left_in : (new : List Owner) (count : ℕ) → count_by test new + count ≡ count_by test inside → count_by test (written new) + count ≡ count_by test gs
    left_in new count left = omega (arith, count-written test new holds.order holds.low, left, count-inside test holds.order holds.low)

-- FREEING

module _ (test wide : Owner → Bool) (implies : (g : Owner) → test g ≡ true → wide g ≡ true) where
  freed_none : (gs : List Owner) → count_by wide gs ≡ 0 → freed test gs ≡ gs
  freed_none [] none = refl
  freed_none (g ∷ gs) none =
      test_cases (wide g) (freed test (g ∷ gs) ≡ g ∷ gs)
      (λ e. absurd (omega (arith, count-yes wide g gs e, none)))
      (λ e. let rest = freed_none gs (sym (count-no wide g gs e) ∙ none) in
      test_cases (test g) (freed test (g ∷ gs) ≡ g ∷ gs) (λ is. absurd (clash (wide g) (implies g is) e)) (λ no. rw no (ap (λ (l : List Owner). g ∷ l) rest)))

  freed-append : (xs ys : List Owner) → freed test (xs ++ ys) ≡ freed test xs ++ freed test ys
  freed-append xs ys = map-append (λ g. if test g then owner.Free else g) xs ys

  freed_wide : (s : Span) (gs : List Owner) → HoldsAll wide s gs → take s.first gs ++ freed test (inside s gs) ++ drop s.end gs ≡ freed test gs
  freed_wide s gs holds =
      let above : count_by wide (drop s.end gs) ≡ 0 = omega (arith, count-parts wide gs s.end, holds.all) in
      ap (λ (l : List Owner). l ++ freed test (inside s gs) ++ drop s.end gs) (sym (freed_none (take s.first gs) holds.low))
      ∙ ap (λ (l : List Owner). freed test (take s.first gs) ++ freed test (inside s gs) ++ l) (sym (freed_none (drop s.end gs) above))
      ∙ ap (λ (l : List Owner). l ++ freed test (drop s.end gs)) (sym (freed-append (take s.first gs) (inside s gs)))
      ∙ sym (freed-append (take s.first gs ++ inside s gs) (drop s.end gs))
      ∙ ap (freed test) (parts s gs holds.order)

  pub freed_put : (s : Span) (gs new : List Owner) → HoldsAll wide s gs → new ≡ freed test (inside s gs) → written s gs new ≡ freed test gs
  freed_put s gs new holds is = written-parts s gs holds.order new ∙ ap (λ (l : List Owner). take s.first gs ++ l ++ drop s.end gs) is ∙ freed_wide s gs holds

pub freed_in : (test : Owner → Bool) (s : Span) (gs new : List Owner) → HoldsAll test s gs → new ≡ freed test (inside s gs) → written s gs new ≡ freed test gs
freed_in test s gs new holds is = freed_put test test (λ g is. is) s gs new holds is

pub freed_outside : (test wide : Owner → Bool) (s : Span) (gs new : List Owner) → HoldsAll wide s gs → new ≡ freed test (inside s gs) → StaysOutside s gs (written s gs new)
freed_outside test wide s gs new holds is = stays_outside s gs new holds.order holds.end (ap length is ∙ length-freed test (inside s gs))

-- TAKING

module _ (m : MemberId) where
  taken_zero : (gs : List Owner) → taken m 0 gs ≡ gs
  taken_zero [] = refl
  taken_zero (g ∷ gs) =
      test_cases (is_free g) (taken m 0 (g ∷ gs) ≡ g ∷ gs) (λ e. rw e (ap (λ (l : List Owner). g ∷ l) (taken_zero gs))) (λ e. rw e (ap (λ (l : List Owner). g ∷ l) (taken_zero gs)))

  taken_below : (want : ℕ) (pre xs : List Owner) → free_count pre ≡ 0 → taken m want (pre ++ xs) ≡ pre ++ taken m want xs
  taken_below want [] xs none = refl
  taken_below want (g ∷ pre) xs none =
      test_cases (is_free g) (taken m want (g ∷ pre ++ xs) ≡ g ∷ pre ++ taken m want xs)
      (λ e. absurd (omega (arith, count-yes is_free g pre e, none)))
      (λ e. rw e (ap (λ (l : List Owner). g ∷ l) (taken_below want pre xs (sym (count-no is_free g pre e) ∙ none))))

  taken_none : (want : ℕ) (gs : List Owner) → free_count gs ≡ 0 → taken m want gs ≡ gs
  taken_none want gs none = ap (taken m want) (sym (append-nil gs)) ∙ taken_below want gs [] none ∙ append-nil gs

  taken_above : (want : ℕ) (mid post : List Owner) → (0 < free_count post → want ≤ free_count mid) → taken m want (mid ++ post) ≡ taken m want mid ++ post
  taken_above want [] post enough =
      test_cases (nat_lt 0 (free_count post)) (taken m want post ≡ post)
      (λ e. let some : 0 < free_count post = grind (arith, nat_tests, e) in let few : want ≤ free_count [] = enough some in let e : want ≡ 0 = omega (arith, few) in ap (λ (n : ℕ). taken m n post) e ∙ taken_zero post)
      (λ e. taken_none want post (grind (arith, nat_tests, e)))
  taken_above want (g ∷ mid) post enough =
      test_cases (is_free g) (taken m want (g ∷ mid ++ post) ≡ taken m want (g ∷ mid) ++ post)
      (λ free. test_cases (nat_lt 0 want) (taken m want (g ∷ mid ++ post) ≡ taken m want (g ∷ mid) ++ post)
      (λ e. rw (free, e) (ap (λ (l : List Owner). owner.Member m ∷ l) (taken_above (want - 1) mid post (λ some. omega (arith, enough some, count-yes is_free g mid free)))))
      (λ e. let none : want ≡ 0 = grind (arith, nat_tests, e) in rw (free, e) (ap (λ (l : List Owner). g ∷ l) (taken_above want mid post (λ some. omega (arith, none))))))
      (λ other. rw other (ap (λ (l : List Owner). g ∷ l) (taken_above want mid post (λ some. omega (arith, enough some, count-no is_free g mid other)))))

  taken_parts : (want : ℕ) (s : Span) (gs : List Owner) → HoldsEnough is_free want s gs → take s.first gs ++ taken m want (inside s gs) ++ drop s.end gs ≡ taken m want gs
  taken_parts want s gs holds =
      append_assoc (take s.first gs) (taken m want (inside s gs)) (drop s.end gs)
      ∙ ap (λ (l : List Owner). take s.first gs ++ l) (sym (taken_above want (inside s gs) (drop s.end gs) (λ some. let less = count-parts is_free gs s.end in let all = count-inside s gs is_free holds.order holds.low in omega (arith, less, all, holds.enough (omega (arith, less, some))))))
      ∙ sym (taken_below want (take s.first gs) (inside s gs ++ drop s.end gs) holds.low)
      ∙ ap (taken m want) (sym (append_assoc (take s.first gs) (inside s gs) (drop s.end gs)) ∙ parts s gs holds.order)

  pub taken_in : (want : ℕ) (s : Span) (gs new : List Owner) → HoldsEnough is_free want s gs → new ≡ taken m want (inside s gs) → written s gs new ≡ taken m want gs
  taken_in want s gs new holds is = written-parts s gs holds.order new ∙ ap (λ (l : List Owner). take s.first gs ++ l ++ drop s.end gs) is ∙ taken_parts want s gs holds

  pub taken_outside : (want : ℕ) (s : Span) (gs new : List Owner) → HoldsEnough is_free want s gs → new ≡ taken m want (inside s gs) → StaysOutside s gs (written s gs new)
  taken_outside want s gs new holds is = stays_outside s gs new holds.order holds.end (ap length is ∙ length-taken m want (inside s gs))

  -- GIVING

  given_nothing : (gs : List Owner) → given m [] gs ≡ gs
  given_nothing [] = refl
  given_nothing (g ∷ gs) = refl

  given_below : (new pre xs : List Owner) → member_count m pre ≡ 0 → given m new (pre ++ xs) ≡ pre ++ given m new xs
  given_below new [] xs none = refl
  given_below [] (g ∷ pre) xs none = ap (λ (l : List Owner). g ∷ pre ++ l) (sym (given_nothing xs))
  given_below (o ∷ new) (g ∷ pre) xs none =
      test_cases (is_members m g) (given m (o ∷ new) (g ∷ pre ++ xs) ≡ g ∷ pre ++ given m (o ∷ new) xs)
      (λ e. absurd (omega (arith, count-yes (is_members m) g pre e, none)))
      (λ e. rw e (ap (λ (l : List Owner). g ∷ l) (given_below (o ∷ new) pre xs (sym (count-no (is_members m) g pre e) ∙ none))))

  given_none : (new gs : List Owner) → member_count m gs ≡ 0 → given m new gs ≡ gs
  given_none new gs none = ap (given m new) (sym (append-nil gs)) ∙ given_below new gs [] none ∙ append-nil gs

  given_above : (new mid post : List Owner) → (0 < member_count m post → length new ≤ member_count m mid) → given m new (mid ++ post) ≡ given m new mid ++ post
  given_above [] mid post enough = given_nothing (mid ++ post) ∙ ap (λ (l : List Owner). l ++ post) (sym (given_nothing mid))
  given_above (o ∷ new) [] post enough =
      given_none (o ∷ new) post (test_cases (nat_lt 0 (member_count m post)) (member_count m post ≡ 0)
      (λ e. let some : 0 < member_count m post = grind (arith, nat_tests, e) in let few : length (o ∷ new) ≤ member_count m [] = enough some in absurd (omega (arith, few)))
      (λ e. grind (arith, nat_tests, e)))
  given_above (o ∷ new) (g ∷ mid) post enough =
      test_cases (is_members m g) (given m (o ∷ new) (g ∷ mid ++ post) ≡ given m (o ∷ new) (g ∷ mid) ++ post)
      (λ mine. rw mine (ap (λ (l : List Owner). o ∷ l) (given_above new mid post (λ some. let few : length (o ∷ new) ≤ member_count m (g ∷ mid) = enough some in omega (arith, few, count-yes (is_members m) g mid mine)))))
      (λ other. rw other (ap (λ (l : List Owner). g ∷ l) (given_above (o ∷ new) mid post (λ some. omega (arith, enough some, count-no (is_members m) g mid other)))))

  given_parts : (new : List Owner) (s : Span) (gs : List Owner) → HoldsEnough (is_members m) (length new) s gs → take s.first gs ++ given m new (inside s gs) ++ drop s.end gs ≡ given m new gs
  given_parts new s gs holds =
      append_assoc (take s.first gs) (given m new (inside s gs)) (drop s.end gs)
      ∙ ap (λ (l : List Owner). take s.first gs ++ l) (sym (given_above new (inside s gs) (drop s.end gs) (λ some. let less = count-parts (is_members m) gs s.end in let all = count-inside s gs (is_members m) holds.order holds.low in omega (arith, less, all, holds.enough (omega (arith, less, some))))))
      ∙ sym (given_below new (take s.first gs) (inside s gs ++ drop s.end gs) holds.low)
      ∙ ap (given m new) (sym (append_assoc (take s.first gs) (inside s gs) (drop s.end gs)) ∙ parts s gs holds.order)

length-places : (at : ℕ → Owner) (place n : ℕ) → length (places at place n) ≡ n
length-places at place zero = refl
length-places at place (suc n) = ap suc (length-places at (place + 1) n)

module _ (m : MemberId) (t : Thing) (count : ℕ) (s : Span) (gs new : List Owner) (holds : HoldsEnough (is_members m) count s gs) (is : new ≡ given m (first_places t count) (inside s gs)) where
  pub given_in : written s gs new ≡ given m (first_places t count) gs
  given_in =
      let many : length (first_places t count) ≡ count = length-places (owner_at t) 0 count in
      let enough : HoldsEnough (is_members m) (length (first_places t count)) s gs = rw many holds in
      written-parts s gs holds.order new ∙ ap (λ (l : List Owner). take s.first gs ++ l ++ drop s.end gs) is ∙ given_parts m (first_places t count) s gs enough

  pub given_outside : StaysOutside s gs (written s gs new)
  given_outside = stays_outside s gs new holds.order holds.end (ap length is ∙ length-given m (first_places t count) (inside s gs))
