-- Pages of entries, one after another.
use Rattle.std.proofs.Common.{◌≡◌, ℕ, zero, suc, ◌+◌, ◌-◌, ◌*◌, ◌≤◌, ◌<◌, List, [], ◌∷◌, ◌++◌, length, get_or, take, drop, map, refl, sym, ap, subst, ◌∙◌, inl, inr, arith}
use Rattle.std.specs.Prelude.{min}
use Rattle.std.proofs.Math.Nat.{mul-suc, mul-le-mul_left}
use Rattle.std.proofs.lemmas.Bool.{cases_lt}
use Rattle.std.proofs.lemmas.List.{drop_at, length-append, length-drop, take_all, drop-append-le, take-append-le}
use Rattle.std.proofs.lemmas.List.Elements.{All-nil, All-append}
use Rattle.mas_types.specs.declared.ids.Page.{Page}
use Rattle.ckpt_tables.specs.Pages.{filled, filled_to, part, page_in}
use Rattle.ckpt_pages.specs.Reading.{ReadsEntries, AreNoEntries, ArePages, IsFirstBad}
use Rattle.ckpt_pages.proofs.EntryLemmas.{room_below}

pub page_at : (pages : List Page) (p : ℕ) (d : Page) → p < length pages → page_in pages p ≡ (get_or pages p d).0
page_at [] p d lt = absurd (omega arith)
page_at (x ∷ xs) zero d lt = refl
page_at (x ∷ xs) (suc p) d lt = page_at xs p d (omega arith)

module _ {X : Type 0} (slot : X → List ℕ) (Fits : X → Type 0) (a_page first total : ℕ) (pages : List Page) where
  -- the pages before page are read
  pub record AreReadTo (page : ℕ) (items : List X) : Type 0 where
    pub from : first ≤ page
    pub reads : ArePages slot Fits a_page first (min total (a_page * (page - first))) pages items

  pub none_read : AreReadTo first []
  none_read =
      let z : first - first ≡ 0 = omega arith in
      let none = ap (λ (k : ℕ). a_page * k) z in
      record { from = omega arith; reads = record { len = omega (arith, none); fit = All-nil Fits; each = λ q lt. absurd (omega (arith, none)) } }

  -- while items are missing, each page before is full
  full : (page : ℕ) (items : List X) → AreReadTo page items → length items < total → length items ≡ a_page * (page - first)
  full page items h lt = omega (arith, h.reads.len)

  -- there is a page where items are missing
  pub within : (page : ℕ) (items : List X) → AreReadTo page items → length items < total → total ≤ a_page * (length pages - first) → page < length pages
  within page items h lt enough =
      let len = full page items h lt in
      elim (cases_lt (page - first) (length pages - first)) [
        | inl before ↦ omega (arith, before, h.from)
        | inr le ↦ absurd (omega (arith, mul-le-mul_left {m = length pages - first} {n = page - first} a_page le, len, lt, enough))
      ]

  one_read : (page count : ℕ) (bytes : List ℕ) (old new : List X) → AreReadTo page old → length old < total → page_in pages page ≡ bytes → length bytes ≡ 4096
      → count ≡ min (total - length old) a_page → ReadsEntries slot Fits count bytes old new → AreReadTo (page + 1) new
  one_read page count bytes old new h lt here size e r =
      let len : length old ≡ a_page * (page - first) = full page old h lt in
      let next : page + 1 - first ≡ suc (page - first) = omega (arith, h.from) in
      let grow : a_page * (page + 1 - first) ≡ a_page + a_page * (page - first) = omega (arith, ap (λ (k : ℕ). a_page * k) next, mul-suc a_page (page - first)) in
      let more : length new ≡ length old + count = omega (arith, ap length r.is, length-append old r.more, r.reads.len) in
      record {
        from = omega (arith, h.from);
        reads = record {
          len = omega (arith, more, len, grow, e);
          fit = rw r.is (All-append Fits old r.more h.reads.fit r.reads.fit);
          each = λ q lq. elim (cases_lt q (page - first)) [
            | inl before ↦
                let room = room_below a_page q (page - first) before in
                let d : drop (a_page * q) (old ++ r.more) ≡ drop (a_page * q) old ++ r.more = drop-append-le (a_page * q) old r.more (omega (arith, len, room)) in
                let t : take a_page (drop (a_page * q) old ++ r.more) ≡ take a_page (drop (a_page * q) old) = take-append-le a_page (drop (a_page * q) old) r.more (omega (arith, length-drop (a_page * q) old, len, room)) in
                h.reads.each q (omega (arith, len, room, lt)) ∙ ap (λ (xs : List X). filled (map slot xs)) (sym (ap (part a_page q) r.is ∙ ap (take a_page) d ∙ t))
            | inr le ↦
                let same : q ≡ page - first = omega (arith, le, same_place q lq) in
                let d : drop (a_page * q) (old ++ r.more) ≡ r.more = drop_at old r.more (a_page * q) (len ∙ ap (λ (k : ℕ). a_page * k) (sym same)) in
                let t : take a_page r.more ≡ r.more = take_all a_page r.more (omega (arith, r.reads.len, e)) in
                let at : first + q ≡ page = omega (arith, h.from, same) in
                ap (page_in pages) at ∙ here ∙ r.reads.is ∙ ap (λ (k : ℕ). filled_to k (map slot r.more)) size ∙ ap (λ (xs : List X). filled (map slot xs)) (sym (ap (part a_page q) r.is ∙ ap (take a_page) d ∙ t))
          ];
        };
      }
    where
      same_place : (q : ℕ) → a_page * q < min total (a_page * (page + 1 - first)) → q < page + 1 - first
      same_place q lq = elim (cases_lt q (page + 1 - first)) [
        | inl before ↦ before
        | inr le ↦ absurd (omega (arith, mul-le-mul_left {m = page + 1 - first} {n = q} a_page le, lq))
      ]

  pub one_more : (page rest count : ℕ) (bytes : List ℕ) (old new : List X) → rest + length old ≡ total → AreReadTo page old → length old < total → page_in pages page ≡ bytes → length bytes ≡ 4096
      → count ≡ min (total - length old) a_page → ReadsEntries slot Fits count bytes old new → (rest - count + length new ≡ total) × AreReadTo (page + 1) new
  one_more page rest count bytes old new sum h lt here size e r = (
    omega (arith, sum, e, ap length r.is, length-append old r.more, r.reads.len),
    one_read page count bytes old new h lt here size e r,
  )

  pub all_read : (page : ℕ) (items : List X) → AreReadTo page items → total ≤ length items → ArePages slot Fits a_page first total pages items
  all_read page items h le =
      let e : min total (a_page * (page - first)) ≡ total = omega (arith, h.reads.len) in
      subst (λ (k : ℕ). ArePages slot Fits a_page first k pages items) e h.reads

  pub bad_page : (page count : ℕ) (bytes : List ℕ) (items : List X) → AreReadTo page items → length items < total → page_in pages page ≡ bytes → count ≡ min (total - length items) a_page
      → AreNoEntries slot Fits count bytes → IsFirstBad slot Fits a_page first total pages page
  bad_page page count bytes items h lt here e none =
      let len : length items ≡ a_page * (page - first) = full page items h lt in
      let room : min total (a_page * (page - first)) ≡ a_page * (page - first) = omega (arith, len, lt) in
      let some : count ≡ min (total - a_page * (page - first)) a_page = e ∙ ap (λ (k : ℕ). min (total - k) a_page) len in
      record {
        from = h.from;
        within = omega (arith, len, lt);
        before = items;
        good = subst (λ (k : ℕ). ArePages slot Fits a_page first k pages items) room h.reads;
        bad = subst (λ (k : ℕ). AreNoEntries slot Fits k (page_in pages page)) some (subst (λ (x : List ℕ). AreNoEntries slot Fits count x) (sym here) none);
      }
