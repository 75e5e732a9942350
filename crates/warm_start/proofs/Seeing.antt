-- What was seen of a copy, and how it was judged.
use Rattle.std.proofs.Common.{◌≡◌, inl, inr, ℕ, Bool, true, false, List, [], ◌∷◌, ◌++◌, length, take, drop, Option, Some, None, refl, sym, ◌∙◌, ap, subst, arith}
use Rattle.std.proofs.lemmas.Option.{same_Some as some_is}
use Rattle.std.proofs.lemmas.List.{take-append-le, take_all, drop_at, length-append}
use Rattle.std.proofs.lemmas.List.Elements.{All-head, All-tail}
use Rattle.mas_types.specs.declared.ids.Dev.{Dev}
use Rattle.mas_types.specs.declared.ids.Page.{Page}
use Rattle.mas_types.specs.declared.answers.CopyState.{CopyState}
use Rattle.mas_types.specs.declared.answers.CopyState.TheVariants as state
use Rattle.mas_types.specs.Limits.{page_bytes}
use Rattle.spool_plant.specs.declared.plant.Part.TheVariants.{Disk as DiskPart}
use Rattle.spool_plant.specs.View.{View, Disk, disk_now}
use Rattle.spool_plant.specs.Acts.{Goes}
use Rattle.ckpt_copy.specs.Pages.{bytes_of}
use Rattle.ckpt_copy.specs.Reading.{IsNone}
use Rattle.duplex_pair.specs.declared.errors.Look.{Look}
use Rattle.duplex_pair.specs.declared.errors.Look.TheVariants.{Lost, Unread, Pages}
use Rattle.duplex_pair.specs.Halves.{Acted}
use Rattle.duplex_pair.specs.Lagging.{IsLevelFound}
use Rattle.duplex_pair.specs.Looks.{HasRoom, WasSeen}
use Rattle.duplex_pair.proofs.Composing.{no}
use Rattle.start_choice.specs.declared.choosing.Judged.{Judged}
use Rattle.start_choice.specs.declared.choosing.Judged.TheVariants.{Good, Bad}
use Rattle.start_choice.specs.Usable.{AreOf, IsUsable, HaveSize, AreUsable}
use Rattle.start_choice.specs.Choosing.{IsJudged}
use Rattle.warm_start.specs.Judging.{HasSizes, Has, WasLooked, WasJudged, HasRoomBy}
use Rattle.warm_start.specs.Starting.{HasGone, IsSeen, IsState, mark_of}

-- the operator is never stopped
pub acted_by_operator : (dev : Dev) (was is stopped : Bool) (old new : View) → Acted 0 dev was is stopped old new → was ≡ true → Acted 0 dev true is false old new
acted_by_operator dev was is true old new acted e = absurd (omega (arith, acted.not_operator refl))
acted_by_operator dev was is false old new acted e = subst (λ (w : Bool). Acted 0 dev w is false old new) e acted

-- PAGES AND THEIR BYTES

page_is : (x y : Page) → x.0 ≡ y.0 → x ≡ y
page_is x y e = ap (λ (bytes : List ℕ). record { 0 = bytes }) e

-- pages of one size are known by their bytes
pub same_pages : (xs ys : List Page) → HaveSize xs → HaveSize ys → bytes_of xs ≡ bytes_of ys → xs ≡ ys
same_pages [] [] sx sy e = refl
same_pages [] (y ∷ ys) sx sy e = absurd (empty y ys (All-head (λ page. length page.0 ≡ page_bytes) y ys sy) e) where
  empty : (y : Page) (ys : List Page) → length y.0 ≡ page_bytes → [] ≡ y.0 ++ bytes_of ys → ⊥
  empty y ys size e = omega (arith, ap (length {A = ℕ}) e, length-append y.0 (bytes_of ys), size)
same_pages (x ∷ xs) [] sx sy e = absurd (empty x xs (All-head (λ page. length page.0 ≡ page_bytes) x xs sx) e) where
  empty : (x : Page) (xs : List Page) → length x.0 ≡ page_bytes → x.0 ++ bytes_of xs ≡ [] → ⊥
  empty x xs size e = omega (arith, ap (length {A = ℕ}) e, length-append x.0 (bytes_of xs), size)
same_pages (x ∷ xs) (y ∷ ys) sx sy e =
    let hx : length x.0 ≡ page_bytes = All-head (λ page. length page.0 ≡ page_bytes) x xs sx in
    let hy : length y.0 ≡ page_bytes = All-head (λ page. length page.0 ≡ page_bytes) y ys sy in
    let front : x.0 ≡ y.0 = sym (front_of x.0 (bytes_of xs) hx) ∙ ap (take page_bytes) e ∙ front_of y.0 (bytes_of ys) hy in
    let rest : bytes_of xs ≡ bytes_of ys = sym (drop_at x.0 (bytes_of xs) page_bytes hx) ∙ ap (drop page_bytes) e ∙ drop_at y.0 (bytes_of ys) page_bytes hy in
    ap (λ (p : Page). p ∷ xs) (page_is x y front) ∙ ap (λ (ps : List Page). y ∷ ps)
    (same_pages xs ys (All-tail (λ page. length page.0 ≡ page_bytes) x xs sx) (All-tail (λ page. length page.0 ≡ page_bytes) y ys sy) rest) where
      front_of : (a b : List ℕ) → length a ≡ page_bytes → take page_bytes (a ++ b) ≡ a
      front_of a b h = take-append-le page_bytes a b (omega arith) ∙ take_all page_bytes a (omega arith)

-- pages that can't be used have bytes that can't
pub unusable_bytes : (own : List Page) → HaveSize own → (IsUsable own → ⊥) → AreUsable (bytes_of own) → ⊥
unusable_bytes own sized not are = not (subst IsUsable (same_pages are.pages own are.sized sized are.joined) are.usable)

-- what a look shows
abbrev pub shown : Look → Option (List ℕ)
shown Lost = None
shown Unread = None
shown (Pages pages) = Some (bytes_of pages)

-- ONE COPY

module _ {C : Type 0} (count room : C → ℕ) (room_most : ℕ) (ready : C → View → Type 0) (reads : List ℕ → Option (List ℕ)) (rests : C → List ℕ → Disk → Type 0) (tells : Type 0) where
  abbrev pub Judges : Dev → View → C → Bool → ℕ → Judged → Type 0
  Judges dev v copy alive found j = WasJudged count room room_most ready reads rests tells dev v copy alive found j

  abbrev pub Looked : Dev → View → C → Bool → ℕ → Look → Type 0
  Looked dev v copy alive found look = WasLooked count room room_most ready reads rests tells dev v copy alive found look

  pub looked_seen : (dev : Dev) (v : View) (was copy : C) (alive : Bool) (found : ℕ) (look : Look) → WasSeen count room room_most ready reads rests tells dev v was copy alive look
      → IsLevelFound look found → HasSizes look → Looked dev v copy alive found look
  looked_seen dev v was copy alive found Lost seen at sized = seen
  looked_seen dev v was copy alive found Unread seen at sized = record { is_alive = seen.is_alive; there = seen.there; none = seen.none }
  looked_seen dev v was copy alive found (Pages pages) seen at sized = record { was = seen; at = at; sized = sized }

  pub judged_looked : (dev : Dev) (v : View) (copy : C) (alive : Bool) (found : ℕ) (look : Look) (j : Judged) → Looked dev v copy alive found look → IsJudged look j → Judges dev v copy alive found j
  judged_looked dev v copy alive found Lost j looked is = subst (λ (k : Judged). Judges dev v copy alive found k) (sym is) looked
  judged_looked dev v copy alive found Unread j looked is = subst (λ (k : Judged). Judges dev v copy alive found k) (sym is) looked
  judged_looked dev v copy alive found (Pages pages) (Good good) looked is = (
    subst (λ (ps : List Page). Has count room room_most ready rests tells dev v copy alive found ps) (sym is.0) looked,
    subst (λ (ps : List Page). AreOf ps good.tables) (sym is.0) is.1,
  )
  judged_looked dev v copy alive found (Pages pages) (Bad why) looked is =
      subst (λ (w : CopyState). Judges dev v copy alive found (Bad w)) (sym is.0) (record { pages = pages; has = looked; unusable = is.1 })

  pub judged_room : (room_in : List ℕ → ℕ) (copy : C) (look : Look) (j : Judged) (bytes : List ℕ) → HasRoom room room_in copy look bytes → IsJudged look j → HasRoomBy room room_in copy j bytes
  judged_room room_in copy Lost j bytes has is = subst (λ (k : Judged). HasRoomBy room room_in copy k bytes) (sym is) has
  judged_room room_in copy Unread j bytes has is = subst (λ (k : Judged). HasRoomBy room room_in copy k bytes) (sym is) has
  judged_room room_in copy (Pages pages) (Good good) bytes has is = has
  judged_room room_in copy (Pages pages) (Bad why) bytes has is = tt

  module _ (dev : Dev) (v w : View) (one : C) (alive : Bool) (found : ℕ) (lost : w.lost (DiskPart dev) ≡ v.lost (DiskPart dev)) (stays : ready one v → ready one w) (disk : tells → disk_now w dev ≡ disk_now v dev) where
    pub has_later : (pages : List Page) → Has count room room_most ready rests tells dev v one alive found pages → Has count room room_most ready rests tells dev w one alive found pages
    has_later pages has = record {
      was = record {
        is_alive = has.was.is_alive;
        there = lost ∙ has.was.there;
        as_many = has.was.as_many;
        has_room = has.was.has_room;
        is_ready = stays has.was.is_ready;
        found = λ told. subst (λ (d : Disk). rests one (bytes_of pages) d) (sym (disk told)) (has.was.found told);
        settled = λ told. subst (λ (d : Disk). d.unsynced ≡ []) (sym (disk told)) (has.was.settled told);
      };
      at = has.at;
      sized = has.sized;
    }

    pub looked_later : (look : Look) → Looked dev v one alive found look → Looked dev w one alive found look
    looked_later Lost is = record { is_dead = is.is_dead; lost = lost ∙ is.lost }
    looked_later Unread is = record { is_alive = is.is_alive; there = lost ∙ is.there; none = λ told. subst (λ (d : Disk). IsNone reads d) (sym (disk told)) (is.none told) }
    looked_later (Pages pages) is = has_later pages is

  -- WHAT WAS SEEN

  abbrev pub SeenAs : Judged → Option (List ℕ) → Type 0
  SeenAs (Good good) seen = seen ≡ Some (bytes_of good.pages)
  SeenAs (Bad why) seen = (bytes : List ℕ) → seen ≡ Some bytes → AreUsable bytes → ⊥

  pub record Seeing (dev : Dev) (old new : View) (j : Judged) : Type 0 where
    pub seen : Option (List ℕ)
    pub is : IsSeen reads dev old new (mark_of new) seen
    pub as_judged : SeenAs j seen

  false_later : (a b : Bool) → (a ≡ true → b ≡ true) → b ≡ false → a ≡ false
  false_later true b f e = absurd (cc (f refl))
  false_later false b f e = refl

  module _ (dev : Dev) (old v : View) (one : C) (alive : Bool) (found : ℕ) (rests_now : (pages : List ℕ) (d : Disk) → rests one pages d → reads d.bytes ≡ Some pages)
      (gone : alive ≡ false → HasGone dev old v (mark_of v)) (goes : Goes old v) (told : tells) (bytes : (disk_now v dev).bytes ≡ (disk_now old dev).bytes) where
    has_read : (pages : List Page) → Has count room room_most ready rests tells dev v one alive found pages → IsSeen reads dev old v (mark_of v) (Some (bytes_of pages))
    has_read pages has = (
      false_later (old.lost (DiskPart dev)) (v.lost (DiskPart dev)) (goes.lost (DiskPart dev)) has.was.there,
      ap reads (sym bytes) ∙ rests_now (bytes_of pages) (disk_now v dev) (has.was.found told),
    )

    pub is_seen : (look : Look) → Looked dev v one alive found look → IsSeen reads dev old v (mark_of v) (shown look)
    is_seen Lost is = inl (gone is.is_dead)
    is_seen Unread is = inr (ap reads (sym bytes) ∙ (is.none told).now)
    is_seen (Pages pages) is = has_read pages is

    pub seeing : (j : Judged) → Judges dev v one alive found j → Seeing dev old v j
    seeing (Good good) is = record { seen = Some (bytes_of good.pages); is = has_read good.pages is.0; as_judged = refl }
    seeing (Bad state.Lost) is = record { seen = None; is = inl (gone is.is_dead); as_judged = λ b e usable. absurd (cc) }
    seeing (Bad state.Unread) is = record { seen = None; is = inr (ap reads (sym bytes) ∙ (is.none told).now); as_judged = λ b e usable. absurd (cc) }
    seeing (Bad state.Unsound) is = record {
      seen = Some (bytes_of is.pages);
      is = has_read is.pages is.has;
      as_judged = λ b e usable. unusable_bytes is.pages is.has.sized is.unusable (subst AreUsable (sym (some_is (bytes_of is.pages) b e)) usable);
    }

  -- ITS STATE

  pub state_of : (dev : Dev) (v : View) (one : C) (alive : Bool) (found : ℕ) → ((pages : List ℕ) (d : Disk) → rests one pages d → reads d.bytes ≡ Some pages) → (why : CopyState) → Judges dev v one alive found (Bad why) → IsState reads tells dev v alive why
  state_of dev v one alive found rests_now state.Lost is = is
  state_of dev v one alive found rests_now state.Unread is = is
  state_of dev v one alive found rests_now state.Unsound is = (
    is.has.was.is_alive,
    is.has.was.there,
    λ told. (bytes_of is.pages, rests_now (bytes_of is.pages) (disk_now v dev) (is.has.was.found told), unusable_bytes is.pages is.has.sized is.unusable),
  )

  -- one that counts as alive isn't lost
  pub judged_there : (dev : Dev) (v : View) (one : C) (alive : Bool) (found : ℕ) (j : Judged) → Judges dev v one alive found j → alive ≡ true → v.lost (DiskPart dev) ≡ false
  judged_there dev v one alive found (Good good) is a = is.0.was.there
  judged_there dev v one alive found (Bad state.Lost) is a = absurd (no alive a is.is_dead)
  judged_there dev v one alive found (Bad state.Unread) is a = is.there
  judged_there dev v one alive found (Bad state.Unsound) is a = is.has.was.there
