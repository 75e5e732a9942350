-- Which pages are drawn alike after one part of tables was changed.
use Rattle.std.proofs.Common.{◌≡◌, ◌≢◌, ◌⊎◌, ⊎_elim, inl, inr, ℕ, ◌+◌, ◌-◌, ◌*◌, ◌<◌, ◌≤◌, ◌||◌, ◌&&◌, if◌then◌else◌, Bool, true, false, zero, suc, List, [], ◌∷◌, length, take, drop, nat_lt, nat_le, slice_set, slice_index_or, Option, refl, sym, ◌∙◌, ap, arith}
use Rattle.std.proofs.lemmas.Bool.{and_from as both, or_left, or_parts as or_none}
use Rattle.std.specs.Prelude.{◌==◌}
use Rattle.std.proofs.lemmas.Bool.Decides.{nat_tests}
use Rattle.std.proofs.lemmas.List.{drop_all, drop-drop, drop-take, take-take, get_or-set_other, get_or-set_same, take-set-le, drop-set-lt, drop-set-add}
use Rattle.mas_types.specs.declared.ids.JobNo.{JobNo}
use Rattle.mas_types.specs.declared.queues.LineCount.{LineCount}
use Rattle.mas_types.specs.declared.queues.Owner.{Owner}
use Rattle.mas_types.specs.declared.queues.Setting.{Setting}
use Rattle.lay_bytes.specs.declared.records.JobRec.{JobRec}
use Rattle.lay_bytes.specs.declared.records.OutRec.{OutRec}
use Rattle.mas_types.specs.Limits.{pages_most}
use Rattle.ckpt_tables.specs.declared.tables.Tables.{Tables}
use Rattle.ckpt_tables.specs.Pages.{filled, page_pieces, part}
use Rattle.ckpt_tables.specs.Shape.{page_count, jobs_a_page, outputs_a_page, owners_a_page, first_job_page, first_output_page, first_group_page}
use Rattle.page_marks.specs.Marks.{group_page, groups_end_page, is_marked, job_page, marked, output_page, IsDrawnAlike, Touches}

clash : (b : Bool) → b ≡ true → b ≡ false → ⊥
clash b one two = cc

pub by_bool : {A : Type 0} (b : Bool) → (b ≡ true → A) → (b ≡ false → A) → A
by_bool true holds fails = holds refl
by_bool false holds fails = fails refl

-- ONE AFTER THE OTHER

pub touches_none : (m : List Bool) (t : Tables) → Touches m m t t
touches_none m t = record { config = refl; rise = λ p is. is; alike = λ p is levels. refl }

pub touches_then : (a b c : List Bool) (t u v : Tables) → Touches a b t u → Touches b c u v → Touches a c t v
touches_then a b c t u v one two = record {
  config = two.config ∙ one.config;
  rise = λ p is. two.rise p (one.rise p is);
  alike = λ p is levels. two.alike p is levels ∙ one.alike p (by_bool {A = is_marked b p ≡ false} (is_marked b p) (λ on. absurd (clash (is_marked c p) (two.rise p on) is)) (λ off. off)) levels;
}

-- a mark more
rise_one : (m : List Bool) (n p : ℕ) → is_marked m p ≡ true → is_marked (marked n m) p ≡ true
rise_one m n p is = by_bool (p == n)
    (λ same. let at : p ≡ n = grind (arith, nat_tests, same) in let inside : p < length m = within m p is in ap (λ (q : ℕ). slice_index_or (slice_set m n true) q false) at ∙ get_or-set_same m n true false (omega (arith, inside, at)))
    (λ other. let ne : p ≢ n = λ e. clash (p == n) (grind (arith, nat_tests, e)) other in get_or-set_other m n p true false ne ∙ is)
  where
    within : (m : List Bool) (p : ℕ) → is_marked m p ≡ true → p < length m
    within [] p is = absurd (cc)
    within (x ∷ m) zero is = omega arith
    within (x ∷ m) (suc p) is = let rest = within m p is in omega (arith, rest)

-- where the page has no mark yet, it isn't the one that got one
not_one : (m : List Bool) (n p : ℕ) → n < length m → is_marked (marked n m) p ≡ false → p ≢ n
not_one m n p inside is e = clash (is_marked (marked n m) p) (ap (λ (q : ℕ). slice_index_or (slice_set m n true) q false) e ∙ get_or-set_same m n true false inside) is

-- PARTS OF A LIST

-- what stands on another page stays
pub part_other : {X : Type 0} (count k at : ℕ) (xs : List X) (x : X) → (at < count * k) ⊎ (count * k + count ≤ at) → part count k (slice_set xs at x) ≡ part count k xs
part_other count k at xs x apart = ⊎_elim
    (λ below. ap (take count) (drop-set-lt (count * k) xs at x below))
    (λ above. let e : at ≡ count * k + (at - count * k) = omega (arith, above) in
    ap (λ (n : ℕ). take count (drop (count * k) (slice_set xs n x))) e ∙ ap (take count) (drop-set-add (count * k) xs (at - count * k) x)
    ∙ take-set-le count (drop (count * k) xs) (at - count * k) x (omega (arith, above)))
    apart

sides : (a b : ℕ) → (a < b) ⊎ (b ≤ a)
sides a b = by_bool (nat_lt a b) (λ is. inl (grind (arith, nat_tests, is))) (λ is. inr (grind (arith, nat_tests, is)))

-- THE PAGES

-- a page is drawn alike where its part is the same
pub alike_by : (t u : Tables) → u.config ≡ t.config → (p : ℕ) → (p ≡ 0 → (u.last ≡ t.last) × (u.order ≡ t.order)) → (p ≡ 1 → u.members ≡ t.members) → (p ≡ 2 → (u.routes ≡ t.routes) × (u.lines ≡ t.lines))
    → (3 ≤ p → p < first_output_page t.config → part jobs_a_page (p - first_job_page) u.jobs ≡ part jobs_a_page (p - first_job_page) t.jobs)
    → (first_output_page t.config ≤ p → p < first_group_page t.config → part outputs_a_page (p - first_output_page t.config) u.outputs ≡ part outputs_a_page (p - first_output_page t.config) t.outputs)
    → (first_group_page t.config ≤ p → part owners_a_page (p - first_group_page t.config) u.owners ≡ part owners_a_page (p - first_group_page t.config) t.owners)
    → IsDrawnAlike p t u
alike_by t u config p header members nodes jobs outputs owners levels = ap filled pieces where
  pieces : page_pieces u levels p ≡ page_pieces t levels p
  pieces = by_bool (p == 0)
      (λ e. let h = header (grind (arith, nat_tests, e)) in rw (e, config, h.0, h.1) refl)
      (λ n0. by_bool (p == 1)
      (λ e. rw (n0, e, members (grind (arith, nat_tests, e))) refl)
      (λ n1. by_bool (p == 2)
      (λ e. let h = nodes (grind (arith, nat_tests, e)) in rw (n0, n1, e, config, h.0, h.1) refl)
      (λ n2. by_bool (nat_lt p (first_output_page t.config))
      (λ e. rw (n0, n1, n2, config, e, jobs (grind (arith, nat_tests, n0, n1, n2)) (grind (arith, nat_tests, e))) refl)
      (λ n3. by_bool (nat_lt p (first_group_page t.config))
      (λ e. rw (n0, n1, n2, config, n3, e, outputs (grind (arith, nat_tests, n3)) (grind (arith, nat_tests, e))) refl)
      (λ n4. rw (n0, n1, n2, config, n3, n4, owners (grind (arith, nat_tests, n4))) refl)))))

-- ONE PART CHANGED, over any marks

module _ (m : List Bool) (t : Tables) where
  pub touch_job : (at : ℕ) (x : Option JobRec) → job_page at < length m → Touches m (marked (job_page at) m) t (record t { jobs = slice_set t.jobs at x })
  touch_job at x inside = record {
    config = refl;
    rise = rise_one m (job_page at);
    alike = λ p is. let other = not_one m (job_page at) p inside is in alike_by t (record t { jobs = slice_set t.jobs at x }) refl p (λ e. (refl, refl)) (λ e. refl) (λ e. (refl, refl))
        (λ from to. part_other jobs_a_page (p - first_job_page) at t.jobs x (⊎_elim (λ lt. inl (omega (arith, lt))) (λ ge. inr (omega (arith, ge, from, other))) (sides at (jobs_a_page * (p - first_job_page)))))
        (λ from to. refl) (λ from. refl);
  }

  pub touch_output : (at : ℕ) (x : Option OutRec) → output_page t.config at < length m → Touches m (marked (output_page t.config at) m) t (record t { outputs = slice_set t.outputs at x })
  touch_output at x inside = record {
    config = refl;
    rise = rise_one m (output_page t.config at);
    alike = λ p is. let other = not_one m (output_page t.config at) p inside is in alike_by t (record t { outputs = slice_set t.outputs at x }) refl p (λ e. (refl, refl)) (λ e. refl) (λ e. (refl, refl)) (λ from to. refl)
        (λ from to. part_other outputs_a_page (p - first_output_page t.config) at t.outputs x
        (⊎_elim (λ lt. inl (omega (arith, lt))) (λ ge. inr (omega (arith, ge, from, other))) (sides at (outputs_a_page * (p - first_output_page t.config))))) (λ from. refl);
  }

  pub touch_members : (ms : List Setting) → 1 < length m → Touches m (marked 1 m) t (record t { members = ms })
  touch_members ms inside = record {
    config = refl;
    rise = rise_one m 1;
    alike = λ p is. let other = not_one m 1 p inside is in alike_by t (record t { members = ms }) refl p (λ e. (refl, refl)) (λ e. absurd (other e)) (λ e. (refl, refl)) (λ from to. refl) (λ from to. refl) (λ from. refl);
  }

  pub touch_lines : (ls : List LineCount) → 2 < length m → Touches m (marked 2 m) t (record t { lines = ls })
  touch_lines ls inside = record {
    config = refl;
    rise = rise_one m 2;
    alike = λ p is. let other = not_one m 2 p inside is in alike_by t (record t { lines = ls }) refl p (λ e. (refl, refl)) (λ e. refl) (λ e. absurd (other e)) (λ from to. refl) (λ from to. refl) (λ from. refl);
  }

  pub touch_header : (last : JobNo) (order : ℕ) → 0 < length m → Touches m (marked 0 m) t (record t { last = last; order = order })
  touch_header last order inside = record {
    config = refl;
    rise = rise_one m 0;
    alike = λ p is. let other = not_one m 0 p inside is in alike_by t (record t { last = last; order = order }) refl p (λ e. absurd (other e)) (λ e. refl) (λ e. (refl, refl)) (λ from to. refl) (λ from to. refl) (λ from. refl);
  }

-- ALL PAGES OF A KIND CHANGED, over marks that are those from before and those of the kind

beyond : (m : List Bool) (p : ℕ) → length m ≤ p → is_marked m p ≡ false
beyond [] p over = refl
beyond (x ∷ m) zero over = absurd (omega (arith, over))
beyond (x ∷ m) (suc p) over = beyond m p (omega (arith, over))

part_beyond : {X : Type 0} (count k : ℕ) (xs ys : List X) → length xs ≤ count * k → length ys ≤ count * k → part count k xs ≡ part count k ys
part_beyond count k xs ys one two = ap (take count) (drop_all (count * k) xs one ∙ sym (drop_all (count * k) ys two))

-- a part that ends where both lists are the same up to there, and one that begins where they are the same from there on
part_low : {X : Type 0} (count k first : ℕ) (xs ys : List X) → count * k + count ≤ first → take first xs ≡ take first ys → part count k xs ≡ part count k ys
part_low count k first xs ys below same =
    sym (drop-take (count * k) count xs) ∙ ap (drop (count * k)) (sym (take-take (count * k + count) first xs below) ∙ ap (take (count * k + count)) same ∙ take-take (count * k + count) first ys below)
    ∙ drop-take (count * k) count ys

part_high : {X : Type 0} (count k end : ℕ) (xs ys : List X) → end ≤ count * k → drop end xs ≡ drop end ys → part count k xs ≡ part count k ys
part_high count k end xs ys above same =
    let e : count * k ≡ end + (count * k - end) = omega (arith, above) in
    rw e (ap (take count) (sym (drop-drop (count * k - end) end xs) ∙ ap (drop (count * k - end)) same ∙ drop-drop (count * k - end) end ys))

module _ (m n : List Bool) (many : length m ≡ pages_most) (kind : ℕ → Bool) (are : (p : ℕ) → p < pages_most → is_marked n p ≡ (is_marked m p || kind p)) where
  rise_kind : (p : ℕ) → is_marked m p ≡ true → is_marked n p ≡ true
  rise_kind p is = ⊎_elim (λ lt. are p lt ∙ or_left (is_marked m p) (kind p) is) (λ ge. absurd (clash (is_marked m p) is (beyond m p (omega (arith, many, ge))))) (sides p pages_most)

  -- an unmarked page is none of the kind, or no page
  not_kind : (p : ℕ) → is_marked n p ≡ false → (pages_most ≤ p) ⊎ (kind p ≡ false)
  not_kind p is = ⊎_elim (λ lt. inr (or_none (is_marked m p) (kind p) (sym (are p lt) ∙ is)).1) inl (sides p pages_most)

module _ (m n : List Bool) (many : length m ≡ pages_most) (t : Tables) (few : page_count t.config ≤ pages_most) where
  pub touch_owners : (os : List Owner) → ((p : ℕ) → p < pages_most → is_marked n p ≡ (is_marked m p || nat_le (first_group_page t.config) p)) → length os ≤ owners_a_page * (page_count t.config - first_group_page t.config) → length t.owners ≤ owners_a_page * (page_count t.config - first_group_page t.config)
      → Touches m n t (record t { owners = os })
  touch_owners os are one two = record {
    config = refl;
    rise = rise_kind m n many (λ p. nat_le (first_group_page t.config) p) are;
    alike = λ p is. alike_by t (record t { owners = os }) refl p (λ e. (refl, refl)) (λ e. refl) (λ e. (refl, refl)) (λ from to. refl) (λ from to. refl)
        (λ from. ⊎_elim
        (λ over. part_beyond owners_a_page (p - first_group_page t.config) os t.owners (omega (arith, one, few, over)) (omega (arith, two, few, over)))
        (λ none. absurd (clash (nat_le (first_group_page t.config) p) (grind (arith, nat_tests, from)) none))
        (not_kind m n many (λ q. nat_le (first_group_page t.config) q) are p is));
  }

  -- the owners outside first .. end are the same
  pub touch_owners_between : (os : List Owner) (first end : ℕ) → ((p : ℕ) → p < pages_most → is_marked n p ≡ (is_marked m p || (nat_le (group_page t.config first) p && nat_lt p (groups_end_page t.config end))))
      → end ≤ owners_a_page * (page_count t.config - first_group_page t.config) → take first os ≡ take first t.owners → drop end os ≡ drop end t.owners → Touches m n t (record t { owners = os })
  touch_owners_between os first end are within low high = record {
    config = refl;
    rise = rise_kind m n many (λ p. nat_le (group_page t.config first) p && nat_lt p (groups_end_page t.config end)) are;
    alike = λ p is. alike_by t (record t { owners = os }) refl p (λ e. (refl, refl)) (λ e. refl) (λ e. (refl, refl)) (λ from to. refl) (λ from to. refl)
        (λ from. ⊎_elim
        (λ over. above p (omega (arith, within, few, over)))
        (λ none. ⊎_elim
        (λ lt. below p from lt)
        (λ ge. ⊎_elim
        (λ lt. absurd (clash (nat_le (group_page t.config first) p && nat_lt p (groups_end_page t.config end))
        (both (nat_le (group_page t.config first) p) (nat_lt p (groups_end_page t.config end)) (grind (arith, nat_tests, ge)) (grind (arith, nat_tests, lt))) none))
        (λ after. above p (omega (arith, after)))
        (sides p (groups_end_page t.config end)))
        (sides p (group_page t.config first)))
        (not_kind m n many (λ q. nat_le (group_page t.config first) q && nat_lt q (groups_end_page t.config end)) are p is));
  } where
    above : (p : ℕ) → end ≤ owners_a_page * (p - first_group_page t.config) → part owners_a_page (p - first_group_page t.config) os ≡ part owners_a_page (p - first_group_page t.config) t.owners
    above p from = part_high owners_a_page (p - first_group_page t.config) end os t.owners from high

    below : (p : ℕ) → first_group_page t.config ≤ p → p < group_page t.config first → part owners_a_page (p - first_group_page t.config) os ≡ part owners_a_page (p - first_group_page t.config) t.owners
    below p from lt = part_low owners_a_page (p - first_group_page t.config) first os t.owners (omega (arith, from, lt)) low

  pub touch_outputs : (os : List (Option OutRec)) → ((p : ℕ) → p < pages_most → is_marked n p ≡ (is_marked m p || (nat_le (first_output_page t.config) p && nat_lt p (first_group_page t.config))))
      → Touches m n t (record t { outputs = os })
  touch_outputs os are = record {
    config = refl;
    rise = rise_kind m n many (λ p. nat_le (first_output_page t.config) p && nat_lt p (first_group_page t.config)) are;
    alike = λ p is. alike_by t (record t { outputs = os }) refl p (λ e. (refl, refl)) (λ e. refl) (λ e. (refl, refl)) (λ from to. refl)
        (λ from to. ⊎_elim (λ over. absurd (omega (arith, to, few, over)))
        (λ none. absurd (clash (nat_le (first_output_page t.config) p && nat_lt p (first_group_page t.config))
        (both (nat_le (first_output_page t.config) p) (nat_lt p (first_group_page t.config)) (grind (arith, nat_tests, from)) (grind (arith, nat_tests, to))) none))
        (not_kind m n many (λ q. nat_le (first_output_page t.config) q && nat_lt q (first_group_page t.config)) are p is))
        (λ from. refl);
  }

  pub touch_jobs : (js : List (Option JobRec)) → ((p : ℕ) → p < pages_most → is_marked n p ≡ (is_marked m p || (nat_le first_job_page p && nat_lt p (first_output_page t.config)))) → Touches m n t (record t { jobs = js })
  touch_jobs js are = record {
    config = refl;
    rise = rise_kind m n many (λ p. nat_le first_job_page p && nat_lt p (first_output_page t.config)) are;
    alike = λ p is. alike_by t (record t { jobs = js }) refl p (λ e. (refl, refl)) (λ e. refl) (λ e. (refl, refl))
        (λ from to. ⊎_elim (λ over. absurd (omega (arith, to, few, over)))
        (λ none. absurd (clash (nat_le first_job_page p && nat_lt p (first_output_page t.config))
        (both (nat_le first_job_page p) (nat_lt p (first_output_page t.config)) (grind (arith, nat_tests, from)) (grind (arith, nat_tests, to))) none))
        (not_kind m n many (λ q. nat_le first_job_page q && nat_lt q (first_output_page t.config)) are p is))
        (λ from to. refl) (λ from. refl);
  }

-- A LOOP THAT MARKS SOME PAGES

-- the marks after the pages up to this one were seen, of which those of the kind got one
abbrev pub MarksSome : (ℕ → Bool) → ℕ → List Bool → List Bool → Type 0
MarksSome kind n was is = (p : ℕ) → is_marked is p ≡ (if nat_lt p n then is_marked was p || kind p else is_marked was p)

pub some_none : (kind : ℕ → Bool) (m : List Bool) → MarksSome kind 0 m m
some_none kind m p = let none : nat_lt p 0 ≡ false = grind (arith, nat_tests) in rw none refl

pub some_more : (kind : ℕ → Bool) (n : ℕ) (was is : List Bool) → n < length is → MarksSome kind n was is → MarksSome kind (n + 1) was (slice_set is n (slice_index_or is n false || kind n))
some_more kind n was is inside so_far p = by_bool (p == n)
    (λ same. let at : p ≡ n = grind (arith, nat_tests, same) in let low : nat_lt p (n + 1) ≡ true = grind (arith, nat_tests, at) in let not_yet : nat_lt p n ≡ false = grind (arith, nat_tests, at) in
    let old : is_marked is p ≡ is_marked was p = rw not_yet at (so_far p) in
    rw low (ap (λ (q : ℕ). slice_index_or (slice_set is n (slice_index_or is n false || kind n)) q false) at ∙ get_or-set_same is n (slice_index_or is n false || kind n) false inside
    ∙ ap (λ (q : ℕ). is_marked is q || kind q) (sym at) ∙ ap (λ (b : Bool). b || kind p) old))
    (λ other. let ne : p ≢ n = λ e. clash (p == n) (grind (arith, nat_tests, e)) other in let alike : nat_lt p (n + 1) ≡ nat_lt p n = later p n ne in
    get_or-set_other is n p (slice_index_or is n false || kind n) false ne ∙ so_far p ∙ ap (λ (b : Bool). if b then is_marked was p || kind p else is_marked was p) (sym alike)) where
      later : (p n : ℕ) → p ≢ n → nat_lt p (n + 1) ≡ nat_lt p n
      later p n ne = by_bool (nat_lt p n)
          (λ lt. let more : nat_lt p (n + 1) ≡ true = grind (arith, nat_tests, lt) in more ∙ sym lt)
          (λ ge. let more : nat_lt p (n + 1) ≡ false = grind (arith, nat_tests, ge, ne) in more ∙ sym ge)

pub some_all : (kind : ℕ → Bool) (n : ℕ) (was is : List Bool) → pages_most ≤ n → MarksSome kind n was is → (p : ℕ) → p < pages_most → is_marked is p ≡ (is_marked was p || kind p)
some_all kind n was is over all p lt = let low : nat_lt p n ≡ true = grind (arith, nat_tests, lt, over) in rw low at (all p)
