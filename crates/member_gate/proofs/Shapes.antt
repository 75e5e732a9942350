-- What the rule says of the value and all views stays true at each kind of step.
use Rattle.std.proofs.Common.{◌≡◌, ◌≢◌, ℕ, zero, suc, ◌<◌, ◌≤◌, ◌⊎◌, Bool, true, false, List, [], ◌∷◌, ◌++◌, length, set, refl, sym, ap, subst, ◌∙◌, inl, inr, ⊎_elim, arith, ne_eqb, nat_eq, if◌then◌else◌}
use Rattle.std.proofs.lemmas.List.{append_assoc, length-append, get_or-set_same, get_or-set_other, get_or-replicate}
use Rattle.std.proofs.Math.ListN.{replicate}
use mathlib.Core.Option.{some, some-injective, some-ne-none}
use mathlib.Core.Logic.{dite}
use native.Mathlib.Decide.{ℕ_discrete}
use lib.ListN.{get_elem?}
use Rattle.gate_facts.specs.declared.facts.Facts.{Facts}
use Rattle.mas_types.specs.declared.journals.Entry.{Entry}
use Rattle.gate_facts.specs.Values.{StartsWith, marked_at, no_desk, begun_of, stopped_of, desk_of, lines_of, entries_by, Synced, Later}
use Rattle.gate_facts.specs.Memory.{seats, Knows, MayGiveBack}
use Rattle.gate_facts.specs.Laws.{Apart}
use Rattle.gate_facts.proofs.Lists.{true_false, not_true, starts_self, starts_length, at_within, at_append, each_at}
use Rattle.gate_facts.proofs.Values.{synced_refl, synced_none, later_refl}
use Rattle.gate_facts.proofs.Turns.{others_know}
use Rattle.member_gate.specs.Marking.{marked, single}
use Rattle.member_gate.specs.Views.{memory_by, AllBegin, MayBegin}
use Rattle.member_gate.specs.Rules.{OneWay, Has, Fits, Distinct, NoneHolds, Shape}
use Rattle.atomic_table.proofs.Lists.{at_set, set_here, set_else, at_longer}
use Rattle.member_gate.proofs.Places.{true_within, grown_at, grown_length, grown_new, single_here, single_only, single_else, either_at, either_left, either_right, none_left, none_right, none_both, either_within, longer_left, longer_right, longer_starts, marked_more, chosen_first, chosen_second}
use Rattle.member_gate.proofs.Joining.{later_both}
use Rattle.member_gate.proofs.Ways.{SameSeen, counting_one, giving_one, given_one, opener_one, spent_one, joined_one}

pub set_has : (vs : List OneWay) (id : ℕ) (v w : OneWay) → Has vs id v → Has (set vs id w) id w
set_has vs id v w at = set_here vs id w (at_within vs id v at)

-- two views at one place are one
pub one_view : (vs : List OneWay) (i j : ℕ) (v w : OneWay) → Has vs i v → Has vs j w → i ≡ j → v ≡ w
one_view vs i j v w ati atj e = some-injective v w (sym ati ∙ (ap (λ (k : ℕ). get_elem? vs k) e ∙ atj))

pub distinct_sym : (v w : OneWay) → Distinct v w → Distinct w v
distinct_sym v w d = record { own = λ k x y. d.own k y x; cares = λ k x y. d.cares k y x; holds = λ k x y. d.holds k y x; root = λ x y. d.root y x }

abbrev pub AllFit : List OneWay → Facts → Type 0
AllFit vs is = (id : ℕ) (v : OneWay) → Has vs id v → Fits is v

abbrev pub AllDistinct : List OneWay → Type 0
AllDistinct vs = (i j : ℕ) (v w : OneWay) → Has vs i v → Has vs j w → i ≢ j → Distinct v w

pub set_fits : (vs : List OneWay) (id : ℕ) (w : OneWay) (is is' : Facts) → ((j : ℕ) (u : OneWay) → Has vs j u → j ≢ id → Fits is' u) → Fits is' w → AllFit (set vs id w) is'
set_fits vs id w is is' others this j u at = ⊎_elim (λ t. subst (λ (z : OneWay). Fits is' z) t.1 this) (λ t. others j u t.1 t.0) (at_set vs id j w u at)

pub set_distinct : (vs : List OneWay) (id : ℕ) (w : OneWay) → AllDistinct vs → ((j : ℕ) (u : OneWay) → Has vs j u → j ≢ id → Distinct w u) → AllDistinct (set vs id w)
set_distinct vs id w all new i j a b ati atj ne =
    ⊎_elim
    (λ t. ⊎_elim
    (λ s. absurd (ne (t.0 ∙ sym s.0)))
    (λ s. subst (λ (z : OneWay). Distinct z b) t.1 (new j b s.1 s.0))
    (at_set vs id j w b atj))
    (λ t. ⊎_elim
    (λ s. subst (λ (z : OneWay). Distinct a z) s.1 (distinct_sym w a (new i a t.1 t.0)))
    (λ s. all i j a b t.1 s.1 ne)
    (at_set vs id j w b atj))
    (at_set vs id i w a ati)

-- where a view changes and holds no fewer members, who held none holds none
pub none_before : (vs : List OneWay) (id : ℕ) (v w : OneWay) (m : ℕ) → Has vs id v → (marked_at w.holds m ≡ false → marked_at v.holds m ≡ false) → NoneHolds (set vs id w) m → NoneHolds vs m
none_before vs id v w m at fewer none j u atj = dite (ℕ_discrete j id)
    (λ e. subst (λ (z : OneWay). marked_at z.holds m ≡ false) (one_view vs id j v u at atj (sym e)) (fewer (none id w (set_has vs id v w at))))
    (λ ne. none j u (set_else vs id j w ne ∙ atj))

pub none_after : (vs : List OneWay) (id : ℕ) (w : OneWay) (m : ℕ) → marked_at w.holds m ≡ false → NoneHolds vs m → NoneHolds (set vs id w) m
none_after vs id w m new none j u atj = ⊎_elim (λ t. subst (λ (z : OneWay). marked_at z.holds m ≡ false) t.1 new) (λ t. none j u t.1) (at_set vs id j w u atj)

-- someone's mark of place k, who holds the member m
abbrev pub Marked : List OneWay → ℕ → ℕ → Type 0
Marked vs k m = (id : ℕ) × (v : OneWay) × Has vs id v × (marked_at v.own k ≡ true) × (marked_at v.holds m ≡ true)

-- where a view changes and has no fewer marks, what was marked is marked
pub marked_after : (vs : List OneWay) (id : ℕ) (v w : OneWay) (k m : ℕ) → Has vs id v → (marked_at v.own k ≡ true → marked_at w.own k ≡ true) → (marked_at v.holds m ≡ true → marked_at w.holds m ≡ true) → Marked vs k m → Marked (set vs id w) k m
marked_after vs id v w k m at own holds (j, u, atj, o, h) = dite (ℕ_discrete j id)
    (λ e. let same : u ≡ v = one_view vs j id u v atj at e in
    (id, w, set_has vs id v w at, own (subst (λ (z : OneWay). marked_at z.own k ≡ true) same o), holds (subst (λ (z : OneWay). marked_at z.holds m ≡ true) same h)))
    (λ ne. (j, u, set_else vs id j w ne ∙ atj, o, h))

-- a view changes, except its marks, and the value does not
pub quiet : (is : Facts) (vs : List OneWay) (id : ℕ) (v w : OneWay) → Has vs id v → Shape is vs → Fits is w → w.own ≡ v.own → w.cares ≡ v.cares → w.holds ≡ v.holds → w.given ≡ v.given → w.root ≡ v.root → Shape is (set vs id w)
quiet is vs id v w at s fit own cares holds given root = record {
  each = set_fits vs id w is is (λ j u atj ne. s.each j u atj) fit;
  distinct = set_distinct vs id w s.distinct (λ j u atj ne. let d = s.distinct id j v u at atj (λ e. ne (sym e)) in
      record {
        own = subst (λ (l : List Bool). Apart l u.own) (sym own) d.own;
        cares = subst (λ (l : List Bool). Apart l u.cares) (sym cares) d.cares;
        holds = subst (λ (l : List Bool). Apart l u.holds) (sym holds) d.holds;
        root = λ x y. d.root (sym root ∙ x) y;
      });
  mines = λ k e atk pos up. marked_after vs id v w k e.by.0 at (λ x. ap (λ (l : List Bool). marked_at l k) own ∙ x) (λ x. ap (λ (l : List Bool). marked_at l e.by.0) holds ∙ x) (s.mines k e atk pos up);
  never = λ m pos none. s.never m pos (none_before vs id v w m at (λ x. ap (λ (l : List Bool). marked_at l m) (sym holds) ∙ x) none);
  fresh = λ j u atj isroot m pos small out.
      ⊎_elim
      (λ t. let same : w ≡ u = t.1 in
      let g : marked_at v.given m ≡ false = ap (λ (l : List Bool). marked_at l m) (sym given) ∙ (ap (λ (z : OneWay). marked_at z.given m) same ∙ out) in
      let f = s.fresh id v at (sym root ∙ (ap (λ (z : OneWay). z.root) same ∙ isroot)) m pos small g in (
        ap (λ (z : OneWay). marked_at z.cares m) (sym same) ∙ (ap (λ (l : List Bool). marked_at l m) cares ∙ f.0),
        none_after vs id w m (ap (λ (l : List Bool). marked_at l m) holds ∙ f.1 id v at) f.1,
      ))
      (λ t. let f = s.fresh j u t.1 isroot m pos small out in
      (f.0, none_after vs id w m (ap (λ (l : List Bool). marked_at l m) holds ∙ f.1 id v at) f.1))
      (at_set vs id j w u atj);
}

-- WHAT WAS HEARD

-- what a list begins with a longer one begins with
starts_more : (ks more ys : List Entry) → StartsWith ks ys → StartsWith (ks ++ more) ys
starts_more ks more ys s = (s.0 ++ more, ap (λ (l : List Entry). l ++ more) s.1 ∙ append_assoc ys s.0 more)

pub begin_more : (ks more : List Entry) (hs : List (List Entry)) → AllBegin ks hs → AllBegin (ks ++ more) hs
begin_more ks more [] all = tt
begin_more ks more (h ∷ hs) all = (starts_more ks more h all.0, begin_more ks more hs all.1)

pub begin_both : (ks : List Entry) (hs gs : List (List Entry)) → AllBegin ks hs → AllBegin ks gs → AllBegin ks (hs ++ gs)
begin_both ks [] gs all more = more
begin_both ks (h ∷ hs) gs all more = (all.0, begin_both ks hs gs all.1 more)

-- what a view knows holds of the value
abbrev pub Knowing : OneWay → Facts → Type 0
Knowing v is = Knows v.member (memory_by v.cares v.sight) is

-- what another pass knows still fits when a pass gives back what it may
others_meet : (is is' : Facts) (v u : OneWay) → v.sight.out ≡ is → Distinct v u → marked_at v.holds v.member ≡ true → marked_at u.holds u.member ≡ true → MayGiveBack v.member v.cares v.sight.out is' → Knowing u is → Knowing u is'
others_meet is is' v u out d itself itself' may =
    others_know v.member u.member v.cares (memory_by u.cares u.sight) is is'
    (λ e. d.holds v.member itself (ap (λ (k : ℕ). marked_at u.holds k) (sym e) ∙ itself'))
    d.cares
    (subst (λ (z : Facts). MayGiveBack v.member v.cares z is') out may)

-- a pass that has the turn counts the value that it gives back
pub counts_shape : (is is' : Facts) (vs : List OneWay) (id : ℕ) (v : OneWay) → Has vs id v → Shape is vs → v.sight.out ≡ is → v.has ≡ true → v.live ≡ true → v.opening ≡ false → MayGiveBack v.member v.cares v.sight.out is' → Shape is' (set vs id (counting_one (length v.sight.out.kept) (length is'.kept) v is'))
counts_shape is is' vs id v at s out has live begun may =
    let w : OneWay = counting_one (length v.sight.out.kept) (length is'.kept) v is' in
    let mine = s.each id v at in
    let itself = mine.itself live in
    let more : List Entry = may.kept.0 in
    let kept_is : is'.kept ≡ is.kept ++ more = may.kept.1 ∙ ap (λ (z : Facts). z.kept ++ more) out in
    let n : ℕ = length v.sight.out.kept in
    let same_n : n ≡ length is.kept = ap (λ (z : Facts). length z.kept) out in
    let grew : length is.kept ≤ length is'.kept = let a = ap length kept_is in let b = length-append is.kept more in omega arith in
    let long : length w.own ≡ length is'.kept = grown_length v.own n (length is'.kept) (omega arith) in
    let up_before : (k : ℕ) → stopped_of is' k ≡ false → stopped_of is k ≡ false = λ k f. not_true (stopped_of is k) (λ t. true_false (stopped_of is' k) (may.still_stopped k (ap (λ (z : Facts). stopped_of z k) out ∙ t)) f) in
    let new_entry : (k : ℕ) (e : Entry) → get_elem? is'.kept k ≡ some e → (get_elem? is.kept k ≡ some e) ⊎ ((length is.kept ≤ k) × ((e.by.0 ≡ v.member) ⊎ (stopped_of is' e.by.0 ≡ true))) = λ k e atk.
    ⊎_elim inl (λ t. inr (t.0, each_at (λ (z : Entry). (z.by.0 ≡ v.member) ⊎ (stopped_of is' z.by.0 ≡ true)) more t.1.0 e may.kept.2 t.1.1)) (at_append is.kept more k e (ap (λ (l : List Entry). get_elem? l k) (sym kept_is) ∙ atk)) in
    let old_mark : (k : ℕ) → marked_at v.own k ≡ true → marked_at w.own k ≡ true = λ k t.
    let lt = true_within v.own k t in let a = mine.within in let b = mine.before in grown_at v.own n (length is'.kept) k (omega arith) ∙ t in
    record {
      each = set_fits vs id w is is'
          (λ j u atj ne. let f = s.each j u atj in
          record { knows = λ l. others_meet is is' v u out (s.distinct id j v u at atj (λ e. ne (sym e))) itself (f.itself l) may (f.knows l); within = f.within; before = (let b = f.before in omega arith); small = f.small; opens = f.opens; itself = f.itself; heard = λ l. subst (λ (ks : List Entry). AllBegin ks u.sight.heard) (sym kept_is) (begin_more is.kept more u.sight.heard (f.heard l)) })
          record {
            knows = λ _. record {
              base = refl;
              kept = starts_self is'.kept;
              begun = λ m c. refl;
              lines = λ m c. refl;
              stopped = λ pos. refl;
              desk = λ up. synced_refl (desk_of is' v.member);
              no_more = λ up k e atk le. let lt = at_within is'.kept k e atk in absurd (omega arith);
              marks = later_refl v.cares is'.marks;
            };
            within = omega arith;
            before = omega arith;
            small = mine.small;
            opens = λ o. has;
            itself = mine.itself;
            heard = λ l. subst (λ (ks : List Entry). AllBegin ks v.sight.heard) (sym kept_is) (begin_more is.kept more v.sight.heard (mine.heard l));
          };
      distinct = set_distinct vs id w s.distinct (λ j u atj ne.
          let d = s.distinct id j v u at atj (λ e. ne (sym e)) in
          let f = s.each j u atj in
          record {
            own = λ k y z. let lt = true_within u.own k z in let a = f.within in let b = f.before in d.own k (sym (grown_at v.own n (length is'.kept) k (omega arith)) ∙ y) z;
            cares = d.cares;
            holds = d.holds;
            root = d.root;
          });
      mines = λ k e atk pos up.
          ⊎_elim
          (λ t. marked_after vs id v w k e.by.0 at (old_mark k) (λ h. h) (s.mines k e t pos (up_before e.by.0 up)))
          (λ t. ⊎_elim
          (λ by. (id, w, set_has vs id v w at, grown_new v.own n (length is'.kept) k (let a = t.0 in omega arith) (at_within is'.kept k e atk), ap (λ (z : ℕ). marked_at v.holds z) by ∙ itself))
          (λ st. true_false (stopped_of is' e.by.0) st up)
          t.1)
          (new_entry k e atk);
      never = λ m pos none.
          let none' = none_before vs id v w m at (λ x. x) none in
          let o = s.never m pos none' in
          let differ : m ≢ v.member = λ e. true_false (marked_at v.holds v.member) itself (ap (λ (z : ℕ). marked_at v.holds z) (sym e) ∙ none' id v at) in
          let up : stopped_of is' m ≡ false = may.still_up m differ (ap (λ (z : Facts). stopped_of z m) out ∙ o.0) in (
            up,
            (λ k e atk by. ⊎_elim (λ t. o.1 k e t by) (λ t. ⊎_elim (λ q. differ (sym by ∙ q)) (λ q. true_false (stopped_of is' m) (ap (λ (z : ℕ). stopped_of is' z) (sym by) ∙ q) up) t.1) (new_entry k e atk)),
            synced_none (desk_of is' m) (subst (λ (d : _). Synced (desk_of is' m) d) (ap (λ (z : Facts). desk_of z m) out ∙ o.2) (may.desks m differ up)),
          );
      fresh = λ j u atj isroot m pos small out'.
          ⊎_elim
          (λ t. let same : w ≡ u = t.1 in
          let f = s.fresh id v at (ap (λ (z : OneWay). z.root) same ∙ isroot) m pos small (ap (λ (z : OneWay). marked_at z.given m) same ∙ out') in
          (ap (λ (z : OneWay). marked_at z.cares m) (sym same) ∙ f.0, none_after vs id w m (f.1 id v at) f.1))
          (λ t. let f = s.fresh j u t.1 isroot m pos small out' in (f.0, none_after vs id w m (f.1 id v at) f.1))
          (at_set vs id j w u atj);
    }

-- an item of a longer list is one of the list, or the last
pub snoc_at : (vs : List OneWay) (w u : OneWay) (j : ℕ) → Has (vs ++ w ∷ []) j u → (Has vs j u × (j < length vs)) ⊎ ((w ≡ u) × (j ≡ length vs))
snoc_at [] w u zero e = inr (some-injective w u e, refl)
snoc_at [] w u (suc j) e = absurd (some-ne-none u (sym e))
snoc_at (x ∷ xs) w u zero e = inl (e, omega arith)
snoc_at (x ∷ xs) w u (suc j) e = ⊎_elim (λ t. inl (t.0, (let a = t.1 in omega arith))) (λ t. inr (t.0, ap suc t.1)) (snoc_at xs w u j e)

-- a pass is split for a member that never had one
pub split_shape : (is : Facts) (vs : List OneWay) (id : ℕ) (v : OneWay) (m : ℕ) → Has vs id v → Shape is vs → v.live ≡ true → v.root ≡ true → v.has ≡ false → 0 < m → m < seats → marked_at v.given m ≡ false
    → Shape is (set vs id (giving_one m v) ++ given_one m v ∷ [])
split_shape is vs id v m at s live root idle pos small new =
    let l : OneWay = giving_one m v in
    let r : OneWay = given_one m v in
    let ws : List OneWay = set vs id l in
    let mine = s.each id v at in
    let know = mine.knows live in
    let f = s.fresh id v at root m pos small new in
    let o = s.never m pos f.1 in
    let cared : (k : ℕ) → marked_at l.cares k ≡ true → (k ≢ m) × (marked_at v.cares k ≡ true) = λ k c. dite (ℕ_discrete k m)
    (λ e. let lt : m < length v.cares = true_within v.cares m f.0 in true_false (marked_at l.cares k) c (ap (λ (z : ℕ). marked_at l.cares z) e ∙ get_or-set_same v.cares m false false lt))
    (λ ne. (ne, sym (get_or-set_other v.cares m k false false ne) ∙ c)) in
    let fit : AllFit ws is = set_fits vs id l is is (λ j u atj ne. s.each j u atj) record {
      knows = λ _. record {
        base = know.base;
        kept = know.kept;
        begun = λ k c. know.begun k (cared k c).1;
        lines = λ k c. know.lines k (cared k c).1;
        stopped = know.stopped;
        desk = know.desk;
        no_more = know.no_more;
        marks = record { since = know.marks.since; arms = know.marks.arms; own_stops = λ k c. know.marks.own_stops k (cared k c).1; stops = know.marks.stops; faults = know.marks.faults; lost = know.marks.lost; own_loses = λ op. know.marks.own_loses (cared 0 op).1; loses = know.marks.loses };
      };
      within = mine.within;
      before = mine.before;
      small = mine.small;
      opens = mine.opens;
      itself = mine.itself;
      heard = mine.heard;
    } in
    let apart : AllDistinct ws = set_distinct vs id l s.distinct (λ j u atj ne. let d = s.distinct id j v u at atj (λ e. ne (sym e)) in
    record { own = d.own; cares = λ k y z. d.cares k (cared k y).1 z; holds = d.holds; root = d.root }) in
    let fit_new : Fits is r = record {
      knows = λ _. record {
        base = know.base;
        kept = know.kept;
        begun = λ k c. know.begun k (ap (λ (z : ℕ). marked_at v.cares z) (single_only m k c) ∙ f.0);
        lines = λ k c. know.lines k (ap (λ (z : ℕ). marked_at v.cares z) (single_only m k c) ∙ f.0);
        stopped = λ _. o.0;
        desk = λ _. subst (λ (d : _). Synced d no_desk) (sym o.2) (synced_refl no_desk);
        no_more = λ _ k e atk _. o.1 k e atk;
        marks = record { since = know.marks.since; arms = know.marks.arms; own_stops = λ k c. know.marks.own_stops k (ap (λ (z : ℕ). marked_at v.cares z) (single_only m k c) ∙ f.0); stops = know.marks.stops; faults = know.marks.faults; lost = know.marks.lost; own_loses = λ op. let e : 0 ≡ m = single_only m 0 op in absurd (omega arith); loses = know.marks.loses };
      };
      within = omega arith;
      before = mine.before;
      small = small;
      opens = λ e. true_false false e refl;
      itself = λ _. single_here m;
      heard = λ _. tt;
    } in
    let distinct_new : (j : ℕ) (u : OneWay) → Has ws j u → Distinct r u = λ j u atj. record {
      own = λ k y z. true_false false y refl;
      cares = λ k y z. let e : k ≡ m = single_only m k y in
          ⊎_elim
          (λ t. (cared k (ap (λ (w : OneWay). marked_at w.cares k) t.1 ∙ z)).0 e)
          (λ t. (s.distinct id j v u at t.1 (λ q. t.0 (sym q))).cares m f.0 (ap (λ (w : ℕ). marked_at u.cares w) (sym e) ∙ z))
          (at_set vs id j l u atj);
      holds = λ k y z. let e : k ≡ m = single_only m k y in
          ⊎_elim
          (λ t. true_false (marked_at v.holds m) (ap (λ (w : ℕ). marked_at v.holds w) (sym e) ∙ (ap (λ (w : OneWay). marked_at w.holds k) t.1 ∙ z)) (f.1 id v at))
          (λ t. true_false (marked_at u.holds m) (ap (λ (w : ℕ). marked_at u.holds w) (sym e) ∙ z) (f.1 j u t.1))
          (at_set vs id j l u atj);
      root = λ x y. true_false false x refl;
    } in
    let none_in : (k : ℕ) → NoneHolds (ws ++ r ∷ []) k → NoneHolds vs k = λ k none. none_before vs id v l k at (λ x. x) (λ j u atj. none j u (at_longer ws (r ∷ []) j u atj)) in
    let none_out : (k : ℕ) → k ≢ m → NoneHolds vs k → NoneHolds (ws ++ r ∷ []) k = λ k ne none j u atj.
    ⊎_elim (λ t. none_after vs id l k (none id v at) none j u t.0) (λ t. ap (λ (w : OneWay). marked_at w.holds k) (sym t.0) ∙ single_else m k ne) (snoc_at ws r u j atj) in
    record {
      each = λ j u atj. ⊎_elim (λ t. fit j u t.0) (λ t. subst (λ (z : OneWay). Fits is z) t.0 fit_new) (snoc_at ws r u j atj);
      distinct = λ i j a b ati atj ne.
          ⊎_elim
          (λ t. ⊎_elim (λ q. apart i j a b t.0 q.0 ne) (λ q. subst (λ (z : OneWay). Distinct a z) q.0 (distinct_sym r a (distinct_new i a t.0))) (snoc_at ws r b j atj))
          (λ t. ⊎_elim (λ q. subst (λ (z : OneWay). Distinct z b) t.0 (distinct_new j b q.0)) (λ q. absurd (ne (t.1 ∙ sym q.1))) (snoc_at ws r b j atj))
          (snoc_at ws r a i ati);
      mines = λ k e atk p up. let q = marked_after vs id v l k e.by.0 at (λ x. x) (λ x. x) (s.mines k e atk p up) in (q.0, q.1, at_longer ws (r ∷ []) q.0 q.1 q.2, q.3, q.4);
      never = λ k p none. s.never k p (none_in k none);
      fresh = λ j u atj isroot k p sm out.
          ⊎_elim
          (λ t. ⊎_elim
          (λ q. let same : l ≡ u = q.1 in
          let out' : marked_at l.given k ≡ false = ap (λ (z : OneWay). marked_at z.given k) same ∙ out in
          let ne : k ≢ m = λ e. true_false (marked_at l.given k) (either_right v.given (single m) k (ap (λ (z : ℕ). marked_at (single m) z) e ∙ single_here m)) out' in
          let g = s.fresh id v at root k p sm (none_left v.given (single m) k out') in
          (ap (λ (z : OneWay). marked_at z.cares k) (sym same) ∙ (get_or-set_other v.cares m k false false ne ∙ g.0), none_out k ne g.1))
          (λ q. absurd ((s.distinct id j v u at q.1 (λ e. q.0 (sym e))).root root isroot))
          (at_set vs id j l u t.0))
          (λ t. true_false false (ap (λ (z : OneWay). z.root) t.0 ∙ isroot) refl)
          (snoc_at ws r u j atj);
    }

-- a pass takes in another
pub join_shape : (is : Facts) (vs : List OneWay) (id other : ℕ) (v w : OneWay) → Has vs id v → Has vs other w → other ≢ id → Shape is vs → v.live ≡ true → w.live ≡ true → v.opening ≡ false
    → Shape is (set (set vs id (joined_one v w)) other spent_one)
join_shape is vs id other v w at ato ne s live live' begun =
    let b : OneWay = joined_one v w in
    let ws : List OneWay = set vs id b in
    let fv = s.each id v at in
    let fw = s.each other w ato in
    let kv = fv.knows live in
    let kw = fw.knows live' in
    let d = s.distinct id other v w at ato (λ e. ne (sym e)) in
    let ato' : Has ws other w = set_else vs id other b ne ∙ ato in
    let longest = longer_starts is.kept v.sight.last.kept w.sight.last.kept kv.kept kw.kept in
    let above : length v.sight.last.kept ≤ length b.sight.last.kept = longer_left v.sight.last.kept w.sight.last.kept in
    let above' : length w.sight.last.kept ≤ length b.sight.last.kept = longer_right v.sight.last.kept w.sight.last.kept in
    let fit : AllFit ws is = set_fits vs id b is is (λ j u atj _. s.each j u atj) record {
      knows = λ _. record {
        base = kv.base;
        kept = longest;
        begun = λ k c. ⊎_elim
            (λ t. kv.begun k t ∙ sym (chosen_second [] w.cares w.sight.last.begun v.sight.last.begun k (not_true (marked_at w.cares k) (λ q. d.cares k t q))))
            (λ t. kw.begun k t ∙ sym (chosen_first [] w.cares w.sight.last.begun v.sight.last.begun k t))
            (either_at v.cares w.cares k c);
        lines = λ k c. ⊎_elim
            (λ t. kv.lines k t ∙ sym (chosen_second [] w.cares w.sight.last.lines v.sight.last.lines k (not_true (marked_at w.cares k) (λ q. d.cares k t q))))
            (λ t. kw.lines k t ∙ sym (chosen_first [] w.cares w.sight.last.lines v.sight.last.lines k t))
            (either_at v.cares w.cares k c);
        stopped = kv.stopped;
        desk = kv.desk;
        no_more = λ up k e atk le. kv.no_more up k e atk (omega arith);
        marks = later_both v.cares w.cares is.marks v.sight.last.marks w.sight.last.marks kv.marks kw.marks;
      };
      within = either_within v.own w.own (length b.sight.last.kept) (let c = fv.within in omega arith) (let c = fw.within in omega arith);
      before = starts_length is.kept b.sight.last.kept longest;
      small = fv.small;
      opens = λ o. true_false v.opening o begun;
      itself = λ _. either_left v.holds w.holds v.member (fv.itself live);
      heard = λ _. begin_both is.kept v.sight.heard (w.sight.last.kept ∷ w.sight.heard) (fv.heard live) (kw.kept, fw.heard live');
    } in
    let others : (j : ℕ) (u : OneWay) → Has vs j u → j ≢ id → j ≢ other → Distinct b u = λ j u atj no no'.
    let dv = s.distinct id j v u at atj (λ e. no (sym e)) in
    let dw = s.distinct other j w u ato atj (λ e. no' (sym e)) in
    record {
      own = λ k y z. ⊎_elim (λ t. dv.own k t z) (λ t. dw.own k t z) (either_at v.own w.own k y);
      cares = λ k y z. ⊎_elim (λ t. dv.cares k t z) (λ t. dw.cares k t z) (either_at v.cares w.cares k y);
      holds = λ k y z. ⊎_elim (λ t. dv.holds k t z) (λ t. dw.holds k t z) (either_at v.holds w.holds k y);
      root = dv.root;
    } in
    let empty : (u : OneWay) → Distinct spent_one u = λ u. record { own = λ k y z. true_false false y refl; cares = λ k y z. true_false false y refl; holds = λ k y z. true_false false y refl; root = λ x y. true_false false x refl } in
    let none_in : (k : ℕ) → NoneHolds (set ws other spent_one) k → NoneHolds vs k = λ k none j u atj.
    let at_b : Has (set ws other spent_one) id b = set_else ws other id spent_one (λ e. ne (sym e)) ∙ set_has vs id v b at in
    let nb = none id b at_b in
    dite (ℕ_discrete j id)
    (λ e. subst (λ (z : OneWay). marked_at z.holds k ≡ false) (one_view vs id j v u at atj (sym e)) (none_left v.holds w.holds k nb))
    (λ no. dite (ℕ_discrete j other)
    (λ e. subst (λ (z : OneWay). marked_at z.holds k ≡ false) (one_view vs other j w u ato atj (sym e)) (none_right v.holds w.holds k nb))
    (λ no'. none j u (set_else ws other j spent_one no' ∙ (set_else vs id j b no ∙ atj)))) in
    let none_out : (k : ℕ) → NoneHolds vs k → NoneHolds (set ws other spent_one) k = λ k none.
    none_after ws other spent_one k refl (none_after vs id b k (none_both v.holds w.holds k (none id v at) (none other w ato)) none) in
    record {
      each = set_fits ws other spent_one is is (λ j u atj _. fit j u atj) record { knows = λ l. true_false false l refl; within = omega arith; before = omega arith; small = omega arith; opens = λ o. true_false false o refl; itself = λ l. true_false false l refl; heard = λ l. true_false false l refl };
      distinct = λ i j x y ati atj no.
          ⊎_elim
          (λ t. subst (λ (z : OneWay). Distinct z y) t.1 (empty y))
          (λ t. ⊎_elim
          (λ q. subst (λ (z : OneWay). Distinct x z) q.1 (distinct_sym spent_one x (empty x)))
          (λ q. ⊎_elim
          (λ e. ⊎_elim
          (λ f. absurd (no (e.0 ∙ sym f.0)))
          (λ f. subst (λ (z : OneWay). Distinct z y) e.1 (others j y f.1 f.0 q.0))
          (at_set vs id j b y q.1))
          (λ e. ⊎_elim
          (λ f. subst (λ (z : OneWay). Distinct x z) f.1 (distinct_sym b x (others i x e.1 e.0 t.0)))
          (λ f. s.distinct i j x y e.1 f.1 no)
          (at_set vs id j b y q.1))
          (at_set vs id i b x t.1))
          (at_set ws other j spent_one y atj))
          (at_set ws other i spent_one x ati);
      mines = λ k e atk p up.
          let q = s.mines k e atk p up in
          let at_b : Has (set ws other spent_one) id b = set_else ws other id spent_one (λ z. ne (sym z)) ∙ set_has vs id v b at in
          dite (ℕ_discrete q.0 id)
          (λ z. let same = one_view vs q.0 id q.1 v q.2 at z in (
            id,
            b,
            at_b,
            either_left v.own w.own k (subst (λ (y : OneWay). marked_at y.own k ≡ true) same q.3),
            either_left v.holds w.holds e.by.0 (subst (λ (y : OneWay). marked_at y.holds e.by.0 ≡ true) same q.4),
          ))
          (λ no. dite (ℕ_discrete q.0 other)
          (λ z. let same = one_view vs q.0 other q.1 w q.2 ato z in (
            id,
            b,
            at_b,
            either_right v.own w.own k (subst (λ (y : OneWay). marked_at y.own k ≡ true) same q.3),
            either_right v.holds w.holds e.by.0 (subst (λ (y : OneWay). marked_at y.holds e.by.0 ≡ true) same q.4),
          ))
          (λ no'. (q.0, q.1, set_else ws other q.0 spent_one no' ∙ (set_else vs id q.0 b no ∙ q.2), q.3, q.4)));
      never = λ k p none. s.never k p (none_in k none);
      fresh = λ j u atj isroot k p sm out.
          ⊎_elim
          (λ t. true_false false (ap (λ (z : OneWay). z.root) t.1 ∙ isroot) refl)
          (λ t. ⊎_elim
          (λ q. let same : b ≡ u = q.1 in
          let g = s.fresh id v at (ap (λ (z : OneWay). z.root) same ∙ isroot) k p sm (ap (λ (z : OneWay). marked_at z.given k) same ∙ out) in
          (ap (λ (z : OneWay). marked_at z.cares k) (sym same) ∙ either_left v.cares w.cares k g.0, none_out k g.1))
          (λ q. let g = s.fresh j u q.1 isroot k p sm out in (g.0, none_out k g.1))
          (at_set vs id j b u t.1))
          (at_set ws other j spent_one u atj);
    }

only_one : (v w : OneWay) (j : ℕ) → Has (v ∷ []) j w → (j ≡ 0) × (v ≡ w)
only_one v w zero e = (refl, some-injective v w e)
only_one v w (suc j) e = absurd (some-ne-none w (sym e))

cared_first : (k : ℕ) → k < seats → marked_at (replicate seats true) k ≡ true
cared_first k lt = get_or-replicate seats k true false lt

-- a new gate
pub open_shape : (is : Facts) → MayBegin is → Shape is (opener_one is ∷ [])
open_shape is may =
    let v : OneWay = opener_one is in
    let fit : Fits is v = record {
      knows = λ _. record {
        base = refl;
        kept = starts_self is.kept;
        begun = λ m c. refl;
        lines = λ m c. refl;
        stopped = λ pos. absurd (omega arith);
        desk = λ up. synced_refl (desk_of is 0);
        no_more = λ up k e atk le. let lt = at_within is.kept k e atk in absurd (omega arith);
        marks = later_refl v.cares is.marks;
      };
      within = omega arith;
      before = omega arith;
      small = omega arith;
      opens = λ o. refl;
      itself = λ l. refl;
      heard = λ l. tt;
    } in
    record {
      each = λ j w atj. subst (λ (z : OneWay). Fits is z) (only_one v w j atj).1 fit;
      distinct = λ i j a b ati atj ne. absurd (ne ((only_one v a i ati).0 ∙ sym (only_one v b j atj).0));
      mines = λ k e atk pos up. let z = each_at (λ (y : Entry). y.by.0 ≡ 0) is.kept k e may.kept atk in absurd (omega arith);
      never = λ m pos none. (may.stopped m, (λ k e atk by. let z = each_at (λ (y : Entry). y.by.0 ≡ 0) is.kept k e may.kept atk in absurd (omega arith)), may.desks m pos);
      fresh = λ j u atj isroot m pos small out. let same = (only_one v u j atj).1 in (
        ap (λ (z : OneWay). marked_at z.cares m) (sym same) ∙ cared_first m small,
        λ i x ati. ap (λ (z : OneWay). marked_at z.holds m) (sym (only_one v x i ati).1) ∙ single_else 0 m (λ e. absurd (omega arith)),
      );
    }

-- who knows the same of the value meets the same values
pub meets_same : (v w : OneWay) (is : Facts) → SameSeen w.sight v.sight → w.member ≡ v.member → w.cares ≡ v.cares → Knowing v is → Knowing w is
meets_same v w is seen member cares m =
    let last = seen.0 in
    let desk = seen.1 in
    let stopped = seen.2 in
    record {
      base = m.base ∙ ap (λ (z : Facts). z.base) (sym last);
      kept = (m.kept.0, m.kept.1 ∙ ap (λ (z : Facts). z.kept ++ m.kept.0) (sym last));
      begun = λ k c. m.begun k (ap (λ (l : List Bool). marked_at l k) (sym cares) ∙ c) ∙ ap (λ (z : Facts). begun_of z k) (sym last);
      lines = λ k c. m.lines k (ap (λ (l : List Bool). marked_at l k) (sym cares) ∙ c) ∙ ap (λ (z : Facts). lines_of z k) (sym last);
      stopped = λ pos. ap (λ (z : ℕ). stopped_of is z) member ∙ (m.stopped (subst (λ (z : ℕ). 0 < z) member pos) ∙ sym stopped);
      desk = λ up. let up' : stopped_of is v.member ≡ false = ap (λ (z : ℕ). stopped_of is z) (sym member) ∙ up in
          subst (λ (z : _). Synced (desk_of is w.member) z) (sym desk) (subst (λ (z : ℕ). Synced (desk_of is z) v.sight.desk) (sym member) (m.desk up'));
      no_more = λ up k e atk le by. m.no_more (ap (λ (z : ℕ). stopped_of is z) (sym member) ∙ up) k e atk (subst (λ (z : Facts). length z.kept ≤ k) last le) (by ∙ member);
      marks = subst (λ (z : Facts). Later w.cares is.marks z.marks) (sym last) (subst (λ (l : List Bool). Later l is.marks v.sight.last.marks) (sym cares) m.marks);
    }

-- an entry of the member that is at the place k of the list is marked
abbrev pub AllMarked : ℕ → List Bool → List Entry → Type 0
AllMarked m bs es = (k : ℕ) (e : Entry) → get_elem? es k ≡ some e → e.by.0 ≡ m → marked_at bs k ≡ true

picks : (m : ℕ) (bs : List Bool) (es : List Entry) → AllMarked m bs es → entries_by m es ≡ entries_by m (marked bs es)
picks m [] [] all = refl
picks m (b ∷ bs) [] all = refl
picks m [] (e ∷ es) all = dite (ℕ_discrete e.by.0 m)
    (λ q. true_false false (all 0 e refl q) refl)
    (λ q. ap (λ (b : Bool). if b then e ∷ entries_by m es else entries_by m es) (ne_eqb e.by.0 m q) ∙ picks m [] es (λ k x at. all (suc k) x at))
picks m (true ∷ bs) (e ∷ es) all = ap (λ (l : List Entry). if nat_eq e.by.0 m then e ∷ l else l) (picks m bs es (λ k x at. all (suc k) x at))
picks m (false ∷ bs) (e ∷ es) all = dite (ℕ_discrete e.by.0 m)
    (λ q. true_false false (all 0 e refl q) refl)
    (λ q. ap (λ (b : Bool). if b then e ∷ entries_by m es else entries_by m es) (ne_eqb e.by.0 m q) ∙ picks m bs es (λ k x at. all (suc k) x at))

-- a pass has all entries of the members that it holds
pub has_all : (is : Facts) (vs : List OneWay) (id : ℕ) (v : OneWay) → Has vs id v → Shape is vs → v.live ≡ true
    → (m : ℕ) → 0 < m → marked_at v.holds m ≡ true → stopped_of is m ≡ false → entries_by m is.kept ≡ entries_by m (marked v.own v.sight.last.kept)
has_all is vs id v at s live m pos holds up =
    let f = s.each id v at in
    let starts = (f.knows live).kept in
    picks m v.own is.kept (λ k e atk by.
    let q = s.mines k e atk (subst (λ (z : ℕ). 0 < z) (sym by) pos) (ap (λ (z : ℕ). stopped_of is z) by ∙ up) in
    dite (ℕ_discrete q.0 id)
    (λ z. subst (λ (y : OneWay). marked_at y.own k ≡ true) (one_view vs q.0 id q.1 v q.2 at z) q.3)
    (λ no. absurd ((s.distinct q.0 id q.1 v q.2 at no).holds m (ap (λ (z : ℕ). marked_at q.1.holds z) (sym by) ∙ q.4) holds)))
    ∙ ap (entries_by m) (ap (λ (l : List Entry). marked v.own l) starts.1 ∙ marked_more v.own v.sight.last.kept starts.0 f.within)
