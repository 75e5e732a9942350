-- A value whose plant alone is changed, by an act of the member, may be given back.
use Rattle.std.proofs.Common.{◌≡◌, ◌≢◌, ℕ, zero, suc, ◌+◌, ◌≤◌, Bool, true, false, List, [], ◌∷◌, ◌++◌, length, refl, sym, ap, ◌∙◌, inl, ⊎_elim, subst, arith}
use Rattle.std.proofs.lemmas.List.{append-nil, drop-append-le, map-append}
use Rattle.std.proofs.lemmas.List.Elements.{filter-append}
use Rattle.std.proofs.lemmas.Bool.{eqb-true}
use Rattle.std.specs.Prelude.{◌==◌, map, filter, drop, slice_index_or, if◌then◌else◌}
use Rattle.mas_types.specs.declared.ids.MemberId.{MemberId}
use Rattle.spool_plant.specs.declared.plant.Act.{Act}
use Rattle.spool_plant.specs.declared.plant.Act.TheVariants.{Done, Failed, Halted}
use Rattle.spool_plant.specs.declared.plant.Part.{Part}
use Rattle.spool_plant.specs.declared.plant.Part.TheVariants.{Console}
use Rattle.spool_plant.specs.View.{View, World, Line, disk_now}
use Rattle.spool_plant.specs.Acts.{Acts, Goes, Said, Says}
use Rattle.gate_facts.specs.declared.desks.Desk.{Desk}
use Rattle.gate_facts.specs.declared.desks.Group.{Group}
use Rattle.gate_facts.specs.Values.{marked_at, no_desk, SyncedGroups, Synced, Later}
use Rattle.gate_facts.specs.Memory.{MayGiveBack}
use Rattle.gate_facts.proofs.Lists.{true_false}
use Rattle.gate_facts.proofs.Values.{synced_refl}
use Rattle.mas_complex.specs.Journals.{kept_all, coming}
use Rattle.mas_complex.specs.Meaning.{run}
use Rattle.mas_complex.specs.Paper.{counts_of}
use Rattle.mas_complex.specs.Parts.{Shown}
use Rattle.gate_turns.specs.Seats.{all_seats, has_lock}
use Rattle.gate_turns.specs.Words.{speaker, lines_by}
use Rattle.gate_turns.specs.Told.{told_by}
use Rattle.gate_turns.specs.Marked.{parts, devices}
use Rattle.gate_turns.specs.Desks.{kept_pages, no_hold, whole_hold, groups_on}
use Rattle.gate_turns.specs.Shared.{said_since, said_of, pages_had, groups_of, desk_in, marks_of, facts_of}
use Rattle.gate_turns.specs.Laws.{with_view, HasBegun, SaysMayGoBack}
use Rattle.gate_turns.proofs.Seats.{each_seat}

-- what holds of each item holds at each place
pub at_map : {X : Type 0} (R : ℕ → ℕ → Type 0) (f g : X → ℕ) (d : ℕ) → R d d → ((x : X) → R (f x) (g x)) → (xs : List X) (k : ℕ) → R (slice_index_or (map f xs) k d) (slice_index_or (map g xs) k d)
at_map R f g d none each [] k = none
at_map R f g d none each (x ∷ xs) zero = each x
at_map R f g d none each (x ∷ xs) (suc k) = at_map R f g d none each xs k

-- the marks after an act
marked : (x : Shown) (view : View) (by : ℕ) (part : Part) (result : Act) → Acts by part x.view view result → (told : Bool)
    → Later [] (marks_of (with_view x view)) (marks_of x)
marked x view by part result acts told = record {
  since = refl;
  arms = λ i. map (λ (m : MemberId). acts.arms m.0 i) all_seats;
  own_stops = λ m e. true_false (marked_at [] m) e refl;
  stops = λ k. at_map (λ a b. b ≤ a) (λ (m : MemberId). view.stops m.0) (λ (m : MemberId). x.view.stops m.0) 0 (omega arith) (λ m. acts.goes.stops m.0) all_seats k;
  faults = λ k. at_map (λ a b. b ≤ a) view.faults x.view.faults 0 (omega arith) acts.goes.faults parts k;
  lost = λ d e. e;
  own_loses = λ op d. true_false (marked_at [] 0) op refl;
  loses = λ d. let e = at_map (λ a b. a ≡ b) view.loses x.view.loses 0 refl acts.loses devices d in ((omega arith), λ alive. e);
}

-- what an act leaves of the content
pub record Spares (told : Bool) (x : Shown) (view : View) (by : ℕ) : Type 0 where
  pub lines : (k : MemberId) → k.0 ≢ by → lines_by x.base.config.members k.0 (said_of told (with_view x view)) ≡ lines_by x.base.config.members k.0 (said_of told x)
  pub pages : pages_had told (with_view x view) ≡ pages_had told x
  pub groups : (k : MemberId) → k.0 ≢ by → SyncedGroups (groups_of told (with_view x view) k) (groups_of told x k)

-- an act of one member, in the pass of another, or of the operator
pub counted_for : (x : Shown) (view : View) (printed : List ℕ) (actor : ℕ) (by : MemberId) (part : Part) (result : Act) → Acts actor part x.view view result → (told : Bool) (cares : List Bool)
    → marked_at cares by.0 ≡ true → ((k : ℕ) → marked_at cares k ≡ false → view.stops k ≡ x.view.stops k) → Spares told x view by.0 → ((m : MemberId) → m.0 ≢ by.0 → counts_of printed m ≡ counts_of x.printed m)
    → MayGiveBack by.0 cares (facts_of told x) (facts_of told (record x { view = view; printed = printed }))
counted_for x view printed actor by part result acts told cares own stops spares counts = record {
  base = refl;
  kept = ([], sym (append-nil (facts_of told x).kept), tt);
  still_stopped = λ k e. e;
  still_up = λ k ne e. e;
  begun = λ k e. refl;
  lines = λ k e. each_seat (λ a b. a ≡ b) (lines_at (with_view x view)) (lines_at x) [] refl 0 9 k (λ s at lt. spares.lines s (other k s (not_own k e) at));
  desks = λ k ne up. each_seat (λ (a b : Desk). Synced a b) (desk_in told (record x { view = view; printed = printed })) (desk_in told x) no_desk (synced_refl no_desk) 0 9 k (λ s at lt. record {
    hold = ap (λ pages. if has_lock x.book s then whole_hold pages (coming x.current x.reserved) x.first x.second else no_hold) spares.pages;
    printed = counts s (other k s ne at);
    told = ap (told_by s) (spares.lines s (other k s ne at));
    groups = spares.groups s (other k s ne at);
    noted = refl;
  });
  other_stops = λ k e. each_seat (λ a b. a ≡ b) (λ (m : MemberId). view.stops m.0) (λ (m : MemberId). x.view.stops m.0) 0 refl 0 9 k (λ s at lt. stops s.0 (ap (marked_at cares) (here k s at) ∙ e));
  other_loses = λ none d. inl (at_map (λ a b. a ≡ b) view.loses x.view.loses 0 refl acts.loses devices d);
  marks = marked x view actor part result acts told;
} where
  lines_at : Shown → MemberId → List (List ℕ)
  lines_at y m = lines_by y.base.config.members m.0 (said_of told y)

  not_own : (k : ℕ) → marked_at cares k ≡ false → k ≢ by.0
  not_own k e same = true_false (marked_at cares k) (ap (marked_at cares) same ∙ own) e

  here : (k : ℕ) (s : MemberId) → s.0 ≡ 0 + k → s.0 ≡ k
  here k s at = omega (arith, at)

  other : (k : ℕ) (s : MemberId) → k ≢ by.0 → s.0 ≡ 0 + k → s.0 ≢ by.0
  other k s ne at same = ne (sym (here k s at) ∙ same)

pub counted : (x : Shown) (view : View) (printed : List ℕ) (by : MemberId) (part : Part) (result : Act) → Acts by.0 part x.view view result → (told : Bool) (cares : List Bool)
    → marked_at cares by.0 ≡ true → Spares told x view by.0 → ((m : MemberId) → m.0 ≢ by.0 → counts_of printed m ≡ counts_of x.printed m)
    → MayGiveBack by.0 cares (facts_of told x) (facts_of told (record x { view = view; printed = printed }))
counted x view printed by part result acts told cares own spares counts =
    counted_for x view printed by.0 by part result acts told cares own (λ k e. acts.no_other_stop k (inl (λ (same : k ≡ by.0). true_false (marked_at cares k) (ap (marked_at cares) same ∙ own) e))) spares counts

pub acted : (x : Shown) (view : View) (by : MemberId) (part : Part) (result : Act) → Acts by.0 part x.view view result → (told : Bool) (cares : List Bool)
    → marked_at cares by.0 ≡ true → Spares told x view by.0 → MayGiveBack by.0 cares (facts_of told x) (facts_of told (with_view x view))
acted x view by part result acts told cares own spares = counted x view x.printed by part result acts told cares own spares (λ m ne. refl)

-- A LINE

-- the lines of a member with one more line
one_more : (members k : ℕ) (lines : List (List ℕ)) (line : List ℕ) → speaker members line ≢ k → lines_by members k (lines ++ line ∷ []) ≡ lines_by members k lines
one_more members k lines line ne = filter-append (λ l. speaker members l == k) lines (line ∷ []) ∙ (ap (λ r. lines_by members k lines ++ r) (none (speaker members line == k) (λ e. ne (eqb-true (speaker members line) k e))) ∙ append-nil (lines_by members k lines)) where
  none : (b : Bool) → (b ≡ true → ⊥) → (if b then line ∷ [] else []) ≡ []
  none true f = absurd (f refl)
  none false f = refl

abbrev pub whole_texts : List Line → List (List ℕ)
whole_texts lines = map (λ l. l.text) (filter (λ l. l.whole) lines)

-- a line after the others, of which a part at the front is left out
one_behind : (members k n : ℕ) (was : List Line) (l : Line) → n ≤ length was → (l.whole ≡ true → speaker members l.text ≢ k)
    → lines_by members k (whole_texts (drop n (was ++ l ∷ []))) ≡ lines_by members k (whole_texts (drop n was))
one_behind members k n was l le ne =
    ap (λ ls. lines_by members k (whole_texts ls)) (drop-append-le n was (l ∷ []) le)
    ∙ (ap (λ ls. lines_by members k (map (λ r. r.text) ls)) (filter-append (λ r. r.whole) (drop n was) (l ∷ []))
    ∙ (ap (λ ls. lines_by members k ls) (map-append (λ (r : Line). r.text) (filter (λ r. r.whole) (drop n was)) (if l.whole then l ∷ [] else []))
    ∙ last l.whole ne)) where
      last : (b : Bool) → (b ≡ true → speaker members l.text ≢ k) → lines_by members k (whole_texts (drop n was) ++ map (λ r. r.text) (if b then l ∷ [] else [])) ≡ lines_by members k (whole_texts (drop n was))
      last true f = one_more members k (whole_texts (drop n was)) l.text (f refl)
      last false f = ap (λ ls. lines_by members k ls) (append-nil (whole_texts (drop n was)))

after_said : (members k n : ℕ) (line : List ℕ) (was is : List Line) (result : Act) → n ≤ length was → speaker members line ≢ k → Said line was is result
    → lines_by members k (whole_texts (drop n is)) ≡ lines_by members k (whole_texts (drop n was))
after_said members k n line was is Done le ne said = ap (λ ls. lines_by members k (whole_texts (drop n ls))) said ∙ one_behind members k n was (record { text = line; whole = true }) le (λ e. ne)
after_said members k n line was is Failed le ne said = ap (λ ls. lines_by members k (whole_texts (drop n ls))) said
after_said members k n line was is Halted le ne said = ⊎_elim
    (λ same. ap (λ ls. lines_by members k (whole_texts (drop n ls))) same)
    (λ some. ⊎_elim
    (λ torn. ap (λ ls. lines_by members k (whole_texts (drop n ls))) torn.1 ∙ one_behind members k n was (record { text = torn.0; whole = false }) le (λ e. true_false false e refl))
    (λ all. ap (λ ls. lines_by members k (whole_texts (drop n ls))) all ∙ one_behind members k n was (record { text = line; whole = true }) le (λ e. ne))
    some)
    said

-- what was said before a moment is past
pub said_lines : (x : Shown) (view : View) (by : ℕ) (line : List ℕ) (result : Act) (k : ℕ) → Goes x.view view → Says line x.view view result
    → HasBegun x
    → speaker x.base.config.members line ≢ k
    → lines_by x.base.config.members k (said_since x.since view) ≡ lines_by x.base.config.members k (said_since x.since x.view)
said_lines x view by line result k goes says before ne =
    ap (λ (w : World). lines_by x.base.config.members k (whole_texts (drop (length w.console) (view.world view.now).console))) (goes.past x.since before.0)
    ∙ after_said x.base.config.members k (length (x.view.world x.since).console) line (x.view.world x.view.now).console (view.world view.now).console result
    before.1 ne says.console

pub said_spares : (x : Shown) (view : View) (by : MemberId) (line : List ℕ) (result : Act) (told : Bool) → Goes x.view view
    → (told ≡ true → Says line x.view view result)
    → (told ≡ true → HasBegun x)
    → speaker x.base.config.members line ≡ by.0 → Spares told x view by.0
said_spares x view by line result false goes says before own = record { lines = λ k ne. refl; pages = refl; groups = λ k ne. tt }
said_spares x view by line result true goes says before own = record {
  lines = λ k ne. said_lines x view by.0 line result k.0 goes (says refl) (before refl) (λ same. ne (sym same ∙ own));
  pages = λ i. kept_pages x.reads x.level x.first_alive x.second_alive (λ d. (says refl).disks d i);
  groups = λ k ne. same_groups (groups_on (disk_now view) x.base.config.groups k (run x.base (kept_all x.batches)).owners) (groups_on (disk_now x.view) x.base.config.groups k (run x.base (kept_all x.batches)).owners)
      (λ i. groups_on (λ d. (says refl).disks d i) x.base.config.groups k (run x.base (kept_all x.batches)).owners);
} where
  same_groups : (a b : List Group) → a ≡ b → SyncedGroups a b
  same_groups a b e = subst (λ c. SyncedGroups a c) e (synced_refl (record { hold = no_hold; printed = 0; told = 0; groups = a; noted = [] })).groups

pub says_may : SaysMayGoBack
says_may x view by line result told cares acts says before own mine = acted x view by Console result acts told cares mine (said_spares x view by line result told acts.goes says before own)
