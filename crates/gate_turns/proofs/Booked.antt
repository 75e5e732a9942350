-- A value whose book and whose reserved batch alone are changed may be given back.
use Rattle.std.proofs.Common.{◌≡◌, ◌≢◌, ℕ, ◌+◌, Bool, true, false, List, [], ◌∷◌, refl, sym, ap, ◌∙◌, inl, arith}
use Rattle.std.proofs.lemmas.List.{append-nil}
use Rattle.std.proofs.lemmas.Bool.{ne_eqb}
use Rattle.std.proofs.lemmas.List.Elements.{All-head}
use Rattle.std.specs.Prelude.{if◌then◌else◌, Option, Some, None, All}
use Rattle.mas_types.specs.declared.ids.MemberId.{MemberId}
use Rattle.mas_types.specs.declared.journals.Batch.{Batch}
use Rattle.mas_types.specs.declared.journals.Entry.{Entry}
use Rattle.mas_types.specs.declared.ids.Page.{Page}
use Rattle.lock_cycle.specs.Books.{Book, after_try, after_free, after_stop, after_seize, after_spend}
use Rattle.gate_facts.specs.declared.desks.Desk.{Desk}
use Rattle.gate_facts.specs.Values.{no_desk, Synced}
use Rattle.gate_facts.proofs.Lists.{true_false}
use Rattle.gate_facts.proofs.Values.{synced_refl, later_refl}
use Rattle.ckpt_places.specs.declared.places.Place.{Place}
use Rattle.mas_complex.specs.Journals.{coming, entries_reserved}
use Rattle.mas_complex.specs.Locking.{reserved_after_stop}
use Rattle.mas_complex.specs.Parts.{Shown}
use Rattle.gate_turns.specs.Seats.{has_lock, shows_stopped}
use Rattle.gate_turns.specs.Desks.{no_hold, whole_hold}
use Rattle.gate_turns.specs.Shared.{pages_had, hold_of, desk_in, marks_of, facts_of}
use Rattle.gate_turns.specs.Laws.{with_book, MayGoBack, TriesMayGoBack, FreesMayGoBack, StopsMayGoBack, SeizesMayGoBack, SpendsMayGoBack}
use Rattle.gate_turns.proofs.Seats.{each_seat, seat_at}
use Rattle.gate_turns.proofs.BookLemmas.{holder_is, tries_stop, tries_lock, frees_stop, frees_lock, stops_still, stops_others, seizes_stop, seizes_lock, spends_stop}

-- a part of the checkpoint is the same where the lock is, and where it isn't had
pub same_hold : (pages : List Page) (current : Option Batch) (first second : Place) (p q : Bool) (r s : Option (List Entry)) → p ≡ q → (q ≡ true → coming current r ≡ coming current s)
    → (if p then whole_hold pages (coming current r) first second else no_hold) ≡ (if q then whole_hold pages (coming current s) first second else no_hold)
same_hold pages current first second p q r s e c = ap (λ z. if z then whole_hold pages (coming current r) first second else no_hold) e ∙ here q c where
  here : (z : Bool) → (z ≡ true → coming current r ≡ coming current s) → (if z then whole_hold pages (coming current r) first second else no_hold) ≡ (if z then whole_hold pages (coming current s) first second else no_hold)
  here true f = ap (λ es. whole_hold pages es first second) (f refl)
  here false f = refl

-- what a book and a reserved batch leave of those before them
record Leaves (m : MemberId) (was is : Book) (before after : Option (List Entry)) (current : Option Batch) : Type 0 where
  still : (k : MemberId) → shows_stopped was k ≡ true → shows_stopped is k ≡ true
  others : (k : MemberId) → k.0 ≢ m.0 → shows_stopped is k ≡ shows_stopped was k
  lock : (k : MemberId) → k.0 ≢ m.0 → shows_stopped is k ≡ false → has_lock is k ≡ has_lock was k
  batch : (k : MemberId) → k.0 ≢ m.0 → shows_stopped is k ≡ false → has_lock was k ≡ true → coming current after ≡ coming current before

-- the batch that another holder reserved isn't given up
stays_reserved : (b : Book) (m k : MemberId) → k.0 ≢ m.0 → has_lock b k ≡ true → (r : Option (List Entry)) → All (λ e. e.by ≡ b.holder) (entries_reserved r) → reserved_after_stop m r ≡ r
stays_reserved b m k ne has None own = refl
stays_reserved b m k ne has (Some []) own = refl
stays_reserved b m k ne has (Some (e ∷ es)) own = ap (λ z. if z then None else Some (e ∷ es)) (ne_eqb e.by.0 m.0 (λ same. ne (sym (holder_is b k has) ∙ (sym (ap (λ (h : MemberId). h.0) (All-head (λ (d : Entry). d.by ≡ b.holder) e es own)) ∙ same))))

desk_same : (told : Bool) (x : Shown) (b : Book) (r : Option (List Entry)) (k : MemberId) → hold_of told (with_book x b r) k ≡ hold_of told x k
    → Synced (desk_in told (with_book x b r) k) (desk_in told x k)
desk_same told x b r k e = record { hold = e; printed = refl; told = refl; groups = (synced_refl (desk_in told x k)).groups; noted = refl }

booked : (x : Shown) (b : Book) (r : Option (List Entry)) (m : MemberId) → Leaves m x.book b x.reserved r x.current → MayGoBack m x b r
booked x b r m leaves told cares = record {
  base = refl;
  kept = ([], sym (append-nil (facts_of told x).kept), tt);
  still_stopped = λ k. each_seat (λ p q. p ≡ true → q ≡ true) (shows_stopped x.book) (shows_stopped b) false (λ e. e) 0 9 k (λ s e lt. leaves.still s);
  still_up = λ k ne. each_seat (λ p q. p ≡ false → q ≡ false) (shows_stopped x.book) (shows_stopped b) false (λ e. e) 0 9 k (λ s e lt f. leaves.others s (λ (same : s.0 ≡ m.0). ne (sym (zero_on k) ∙ (sym e ∙ same))) ∙ f);
  begun = λ k e. refl;
  lines = λ k e. refl;
  desks = λ k ne up. each_seat (λ (d e : Desk). Synced d e) (desk_in told (with_book x b r)) (desk_in told x) no_desk (synced_refl no_desk) 0 9 k (λ s e lt.
      let other : s.0 ≢ m.0 = λ (same : s.0 ≡ m.0). ne (sym (zero_on k) ∙ (sym e ∙ same)) in
      let shown : shows_stopped b s ≡ false = sym (seat_at (shows_stopped b) false 0 9 k s lt e) ∙ up in
      desk_same told x b r s (same_hold (pages_had told x) x.current x.first x.second (has_lock b s) (has_lock x.book s) r x.reserved (leaves.lock s other shown) (leaves.batch s other shown)));
  other_stops = λ k e. refl;
  other_loses = λ none d. inl refl;
  marks = later_refl [] (marks_of x);
} where
  zero_on : (k : ℕ) → 0 + k ≡ k
  zero_on k = omega arith

same_batch : (x : Shown) (b : Book) (m : MemberId) → ((k : MemberId) → shows_stopped b k ≡ shows_stopped x.book k) → ((k : MemberId) → k.0 ≢ m.0 → shows_stopped b k ≡ false → has_lock b k ≡ has_lock x.book k) → Leaves m x.book b x.reserved x.reserved x.current
same_batch x b m stop lock = record { still = λ k e. stop k ∙ e; others = λ k ne. stop k; lock = lock; batch = λ k ne up e. refl }

pub tries_may : TriesMayGoBack
tries_may x by inner is = booked x (after_try x.book by inner) x.reserved by (same_batch x (after_try x.book by inner) by (λ k. tries_stop x.book by k inner) (λ k ne up. tries_lock x.book by k inner ne))

pub frees_may : FreesMayGoBack
frees_may x by inner is holds = booked x (after_free x.book by inner) None by (record {
  still = λ k e. frees_stop x.book by k inner holds ∙ e;
  others = λ k ne. frees_stop x.book by k inner holds;
  lock = λ k ne up. let l = frees_lock x.book by k inner holds ne in l.0 ∙ sym l.1;
  batch = λ k ne up e. true_false (has_lock x.book k) e (frees_lock x.book by k inner holds ne).1;
})

pub stops_may : StopsMayGoBack
stops_may x by is own = booked x (after_stop x.book by) (reserved_after_stop by x.reserved) by (record {
  still = λ k e. stops_still x.book by k e;
  others = λ k ne. stops_others x.book by k is.0 ne;
  lock = λ k ne up. refl;
  batch = λ k ne up e. ap (coming x.current) (stays_reserved x.book by k ne e x.reserved own);
})

pub seizes_may : SeizesMayGoBack
seizes_may x by of is there = booked x (after_seize x.book by of) x.reserved by (same_batch x (after_seize x.book by of) by (λ k. seizes_stop x.book by of k)
    (λ k ne up. seizes_lock x.book by of k ne (sym (seizes_stop x.book by of k) ∙ up)))

pub spends_may : SpendsMayGoBack
spends_may x by commands is = booked x (after_spend x.book by commands) x.reserved by (same_batch x (after_spend x.book by commands) by (λ k. spends_stop x.book by k commands) (λ k ne up. refl))
