-- What a turn leaves to others: the lock of a book, the groups of a queue, and the lines of a console.
use Rattle.std.proofs.Common.{◌≡◌, ◌≢◌, ◌∙◌, ⊎_elim, ℕ, ◌≤◌, ◌==◌, Bool, true, false, not, ◌&&◌, if◌then◌else◌, List, [], ◌∷◌, ◌++◌, append-nil, drop, filter, length, map, take, All, Option, Some, None, ap, refl, subst, sym}
use Rattle.std.proofs.lemmas.Bool.{and_parts as both_of, eqb-true}
use Rattle.std.proofs.lemmas.List.{drop-append-le, map-append}
use Rattle.std.proofs.lemmas.List.Elements.{All-head, All-tail, filter-append}
use Rattle.mas_types.specs.declared.ids.Dev.TheVariants.{Spool}
use Rattle.mas_types.specs.declared.ids.GroupNo.{GroupNo}
use Rattle.mas_types.specs.declared.ids.MemberId.{MemberId}
use Rattle.mas_types.specs.declared.ids.Page.{Page}
use Rattle.mas_types.specs.declared.journals.Batch.{Batch}
use Rattle.mas_types.specs.declared.journals.Entry.{Entry}
use Rattle.mas_types.specs.declared.queues.Owner.{Owner}
use Rattle.mas_types.specs.declared.queues.Owner.TheVariants as owner
use Rattle.mas_types.specs.declared.queues.Queue.{Queue}
use Rattle.mas_types.specs.Ids.{is_somebody, same_member}
use Rattle.lock_cycle.specs.Books.{Book, is_stopped}
use Rattle.spool_plant.specs.View.{Line, View, disk_now}
use Rattle.spool_volumes.specs.Volumes.{volume_of}
use Rattle.track_groups.specs.Groups.{held_by}
use Rattle.gate_facts.specs.Values.{SyncedGroups}
use Rattle.gate_facts.proofs.Lists.{true_false}
use Rattle.gate_turns.specs.Desks.{group_on, groups_from, groups_on, is_unsynced, page_stretch}
use Rattle.gate_turns.specs.Seats.{has_lock, shows_stopped}
use Rattle.gate_turns.specs.Words.{lines_by, speaker}
use Rattle.gate_turns.proofs.Acted.{whole_texts}
use Rattle.mas_complex.specs.Parts.{Parts, batches_left, placed_left, unreserved_in}
use Rattle.mas_complex.specs.Spool.{IsHeldBy}
use Rattle.mas_complex.specs.Texts.{spools_at}
use Rattle.mas_race.specs.Between.{is_held}
use Rattle.member_decks.proofs.HeldLemmas.{all_held}
use Rattle.member_decks.specs.Spooling.{IsGroupKept}
use Rattle.member_racing.proofs.Books.{OnlyBy}
use Rattle.member_racing.proofs.BusyStill.{same_held}
use Rattle.member_racing.proofs.GroupsStill.{avoids_synced, synced_avoids}

pub by_test : {A : Type 0} (b : Bool) → (b ≡ true → A) → (b ≡ false → A) → A
by_test true f g = f refl
by_test false f g = g refl

pub not_both : (b : Bool) → b ≡ true → b ≡ false → ⊥
not_both b is off = true_false b is off

pub member_of : ℕ → MemberId
member_of n = record { 0 = n }

same_id : (a b : MemberId) → same_member a b ≡ true → a ≡ b
same_id a b is = ap (λ (n : ℕ). let m : MemberId = record { 0 = n } in m) (eqb-true a.0 b.0 is)

-- the pages of a note that is there
abbrev pub found_at : Option (List Page) → List Page
found_at None = []
found_at (Some pages) = pages

-- THE BOOK: who isn't stopped has the lock only if it is the member of the turn

pub shown_down : (b : Book) (s : MemberId) → is_somebody s ≡ true → is_stopped b s ≡ true → shows_stopped b s ≡ true
shown_down b s some down = ap (λ (t : Bool). t && is_stopped b s) some ∙ down

module _ (by : MemberId) (b c : Book) (only : OnlyBy by b c) (unheld : is_held b ≡ false) where
  -- whoever holds before the turn was stopped
  holder_down : (s : MemberId) → is_somebody s ≡ true → b.holder ≡ s → is_stopped b s ≡ true
  holder_down s some mine = by_test (is_stopped b s) (λ down. down)
      (λ up.
      let held : is_held b ≡ true = ap (λ (k : MemberId). is_somebody k && not (is_stopped b k)) mine ∙ ap (λ (t : Bool). t && not (is_stopped b s)) some ∙ ap not up in
      absurd (not_both (is_held b) held unheld))

  pub none_before : (s : MemberId) → shows_stopped c s ≡ false → has_lock b s ≡ true → ⊥
  none_before s up has =
      let h = both_of (is_somebody s) (same_member b.holder s) has in
      let down = only.stays s (holder_down s h.0 (same_id b.holder s h.1)) in
      not_both (shows_stopped c s) (shown_down c s h.0 down) up

  pub none_after : (s : MemberId) → s.0 ≢ by.0 → shows_stopped c s ≡ false → has_lock c s ≡ true → ⊥
  none_after s ne up has =
      let h = both_of (is_somebody s) (same_member c.holder s) has in
      let its : c.holder ≡ s = same_id c.holder s h.1 in
      ⊎_elim
      (λ same. not_both (shows_stopped c s) (shown_down c s h.0 (only.stays s (holder_down s h.0 (sym same ∙ its)))) up)
      (λ else_so. ⊎_elim
      (λ mine. ne (ap (λ (k : MemberId). k.0) (sym its ∙ mine)))
      (λ free. not_both (is_somebody s) h.0 (ap is_somebody (sym its ∙ free))) else_so) only.holder

  pub still_shown : (s : MemberId) → shows_stopped b s ≡ true → shows_stopped c s ≡ true
  still_shown s down = let h = both_of (is_somebody s) (is_stopped b s) down in shown_down c s h.0 (only.stays s h.1)

  pub still_up : (s : MemberId) → s.0 ≢ by.0 → shows_stopped b s ≡ false → shows_stopped c s ≡ false
  still_up s ne up = by_test (is_somebody s)
      (λ some. ap (λ (t : Bool). is_somebody s && t) (only.others s some ne) ∙ up)
      (λ none. ap (λ (t : Bool). t && is_stopped c s) none)

pub no_hold_either : {A : Type 0} (z w : Bool) (one two none : A) → (z ≡ true → ⊥) → (w ≡ true → ⊥) → (if z then one else none) ≡ (if w then two else none)
no_hold_either true w one two none f g = absurd (f refl)
no_hold_either false true one two none f g = absurd (g refl)
no_hold_either false false one two none f g = refl

-- GROUPS that are as they were

kept_unsynced : (a b : Bool) → (b ≡ false → a ≡ false) → a ≡ true → b ≡ true
kept_unsynced a true f is = refl
kept_unsynced a false f is = absurd (not_both a is (f refl))

module _ (per : ℕ) (old new : View) where
  group_kept : (g : GroupNo) → IsGroupKept per g (spools_at old old.now) (spools_at new new.now)
      → ((group_on (disk_now new) per g).bytes ≡ (group_on (disk_now old) per g).bytes) × ((group_on (disk_now new) per g).unsynced ≡ true → (group_on (disk_now old) per g).unsynced ≡ true)
  group_kept g k = (
    ap (λ (bytes : List ℕ). let p : Page = record { 0 = bytes } in p) k.page,
    kept_unsynced (is_unsynced (disk_now new (Spool (volume_of per g))) (page_stretch per g)) (is_unsynced (disk_now old (Spool (volume_of per g))) (page_stretch per g))
        (λ none. avoids_synced (disk_now new (Spool (volume_of per g))).unsynced (page_stretch per g) (k.synced (synced_avoids (disk_now old (Spool (volume_of per g))).unsynced (page_stretch per g) none))),
  )

  mapped_kept : (gs : List GroupNo) → All (λ g. IsGroupKept per g (spools_at old old.now) (spools_at new new.now)) gs → SyncedGroups (map (group_on (disk_now new) per) gs) (map (group_on (disk_now old) per) gs)
  mapped_kept [] all = tt
  mapped_kept (g ∷ gs) all =
      let R : GroupNo → Type 0 = λ (h : GroupNo). IsGroupKept per h (spools_at old old.now) (spools_at new new.now) in
      let one = group_kept g (All-head R g gs all) in
      (refl, one.0, one.1, mapped_kept gs (All-tail R g gs all))

  pub groups_kept : (s : MemberId) (was is : List Owner) → groups_from s 0 is ≡ groups_from s 0 was → All (λ g. IsGroupKept per g (spools_at old old.now) (spools_at new new.now)) (groups_from s 0 was)
      → SyncedGroups (groups_on (disk_now new) per s is) (groups_on (disk_now old) per s was)
  unfolding groups_on
  groups_kept s was is same all =
      subst (λ (gs : List GroupNo). SyncedGroups (map (group_on (disk_now new) per) gs) (map (group_on (disk_now old) per) (groups_from s 0 was))) (sym same) (mapped_kept (groups_from s 0 was) all)

-- the groups of a member are its own
whole_take : {A : Type 0} (xs : List A) → take (length xs) xs ≡ xs
whole_take [] = refl
whole_take (x ∷ xs) = ap (λ l. x ∷ l) (whole_take xs)

pub its_groups : (s : MemberId) (Q : Queue) → All (λ g. IsHeldBy s g Q) (groups_from s 0 Q.owners)
its_groups s Q =
    let R : GroupNo → Type 0 = λ (g : GroupNo). IsHeldBy s g Q in
    subst (λ (gs : List GroupNo). All R gs) (whole_take (held_by s Q.owners) ∙ sym (same_held s 0 Q.owners)) (all_held s Q.owners (length (held_by s Q.owners)) Q refl)

pub one_owner : (a b : MemberId) → Some (owner.Member a) ≡ Some (owner.Member b) → a.0 ≡ b.0
one_owner a b is = let same : a ≡ b = cc in ap (λ (m : MemberId). m.0) same

-- LINES that name another member

module _ (members k n : ℕ) (was more : List Line) (le : n ≤ length was) where
  abbrev IsOther : Line → Type 0
  IsOther l = l.whole ≡ true → speaker members l.text ≢ k

  drop_one : (l : Line) (ls : List Line) → lines_by members k (whole_texts ls) ≡ [] → (b : Bool) → (b ≡ true → ⊥) → (if b then l.text ∷ lines_by members k (whole_texts ls) else lines_by members k (whole_texts ls)) ≡ []
  drop_one l ls none true f = absurd (f refl)
  drop_one l ls none false f = none

  drop_whole : (l : Line) (ls : List Line) → lines_by members k (whole_texts ls) ≡ [] → (b : Bool) → (b ≡ true → speaker members l.text ≢ k) → lines_by members k (map (λ j. j.text) (if b then l ∷ filter (λ j. j.whole) ls else filter (λ j. j.whole) ls)) ≡ []
  drop_whole l ls none true f = drop_one l ls none (speaker members l.text == k) (λ e. f refl (eqb-true (speaker members l.text) k e))
  drop_whole l ls none false f = none

  none_named : (ls : List Line) → All IsOther ls → lines_by members k (whole_texts ls) ≡ []
  none_named [] all = refl
  none_named (l ∷ ls) all = drop_whole l ls (none_named ls (All-tail IsOther l ls all)) l.whole (All-head IsOther l ls all)

  pub lines_kept : All (λ l. l.whole ≡ true → speaker members l.text ≢ k) more → lines_by members k (whole_texts (drop n (was ++ more))) ≡ lines_by members k (whole_texts (drop n was))
  lines_kept all =
      ap (λ ls. lines_by members k (whole_texts ls)) (drop-append-le n was more le)
      ∙ ap (λ ls. lines_by members k (map (λ (j : Line). j.text) ls)) (filter-append (λ (j : Line). j.whole) (drop n was) more)
      ∙ ap (lines_by members k) (map-append (λ (j : Line). j.text) (filter (λ (j : Line). j.whole) (drop n was)) (filter (λ (j : Line). j.whole) more))
      ∙ filter-append (λ l. speaker members l == k) (whole_texts (drop n was)) (whole_texts more)
      ∙ ap (λ ls. lines_by members k (whole_texts (drop n was)) ++ ls) (none_named more all)
      ∙ append-nil (lines_by members k (whole_texts (drop n was)))

-- A VALUE THAT IS GIVEN UP as it stands

pub unreserved_none : {P C : Type 0} (x : Parts P C) → x.reserved ≡ None → (x.current ≡ None → x.placed ≡ false) → unreserved_in x ≡ x
unreserved_none x none unplaced = by_current x.current refl where
  by_placed : x.current ≡ None → unreserved_in x ≡ x
  by_placed is =
      ap (λ (o : Option Batch). record x { batches = batches_left x.placed o x.batches; placed = placed_left x.placed o; reserved = None }) is
      ∙ ap (λ (p : Bool). record x { batches = batches_left p None x.batches; placed = false; reserved = None }) (unplaced is)
      ∙ ap (λ (p : Bool). record x { placed = p; reserved = None }) (sym (unplaced is))
      ∙ ap (λ (r : Option (List Entry)). record x { reserved = r }) (sym none)

  by_current : (o : Option Batch) → x.current ≡ o → unreserved_in x ≡ x
  by_current None is = by_placed is
  by_current (Some b) is =
      ap (λ (o : Option Batch). record x { batches = batches_left x.placed o x.batches; placed = placed_left x.placed o; reserved = None }) is
      ∙ ap (λ (r : Option (List Entry)). record x { reserved = r }) (sym none)
