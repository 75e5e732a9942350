-- Who is up in the book that a line leaves was up before it, and a member that it stopped is stopped there.
use Rattle.std.proofs.Common.{◌≡◌, ◌≢◌, ⊎_elim, slice_index_or, slice_set, zero, suc, ℕ, ◌-◌, ◌≤◌, ◌||◌, Bool, true, false, if◌then◌else◌, List, [], ◌∷◌, length, is_some, Option, Some, None, refl, sym, ◌∙◌, ap, subst}
use Rattle.std.proofs.lemmas.Bool.{cases_eq}
use Rattle.std.proofs.lemmas.List.{get_or-set_other, length-set}
use Rattle.mas_types.specs.declared.ids.MemberId.{MemberId}
use Rattle.mas_types.specs.Ids.{is_somebody, nobody}
use Rattle.lock_cycle.specs.declared.answers.LockNo.{LockNo}
use Rattle.lock_cycle.specs.declared.answers.LockNo.TheVariants as lock
use Rattle.lock_cycle.specs.declared.standings.Standing.{Standing}
use Rattle.lock_cycle.specs.Books.{Book, is_dormant, wakes, beginner, left_of, standing, IsMember, after_free, after_seize, after_spend, after_stop, after_try, granted, is_holder, is_stopped, noted, seize_refusal, ticked, try_refusal, with_holder, with_standing}
use Rattle.mas_complex.proofs.Books.{freed_up, seized_up, spent_up, stopped_up, tried_up}
use Rattle.run_turns.specs.Sights.{Cause, Cut, Stops}
use Rattle.run_turns.specs.Admissions.{Admission, tried}
use Rattle.run_turns.specs.Cuts.{Left, adds, adds_all, left_by, stopped_by}
use Rattle.run_turns.proofs.Keeping.{CallsKeep, before_cut, before_keeps, left_keeps, piece_keeps, tried_keeps}
use Rattle.run_turns.specs.Pieces.{Piece, Play, after_piece}
use Rattle.mas_types.specs.declared.journals.Batch.{Batch}
use Rattle.member_hand.specs.Standing.{StandsIn}

-- from one book to a later one: nobody who was stopped is up again, and there are as many members
pub record Since (b c : Book) : Type 0 where
  pub many : length c.members ≡ length b.members
  pub up : (k : MemberId) → is_stopped c k ≡ false → is_stopped b k ≡ false

pub none_since : (b : Book) → Since b b
none_since b = record { many = refl; up = λ k up. up }

pub then_since : (a b c : Book) → Since a b → Since b c → Since a c
then_since a b c one two = record { many = two.many ∙ one.many; up = λ k up. one.up k (two.up k up) }

pub inside_since : (b c : Book) (by : MemberId) → Since b c → IsMember b by → IsMember c by
inside_since b c by since inside = (inside.0, subst (λ (n : ℕ). by.0 ≤ n) (sym since.many) inside.1)

-- who was stopped is still, and what is in flight stands
pub still_stopped : (b c : Book) → Since b c → (k : MemberId) → is_stopped b k ≡ true → is_stopped c k ≡ true
still_stopped b c since k was = either (is_stopped c k) refl where
  either : (s : Bool) → is_stopped c k ≡ s → is_stopped c k ≡ true
  either true is = is
  either false up = absurd (let both : true ≡ false = sym was ∙ since.up k up in cc)

pub stands_later : (bs : List Batch) (placed : Bool) (b c : Book) → Since b c → (o : Option Batch) → StandsIn bs placed b o → StandsIn bs placed c o
stands_later bs placed b c since None stands = stands
stands_later bs placed b c since (Some o) stands = (stands.0, stands.1, still_stopped b c since o.by stands.2)

-- WHO GOT THE LOCK by a try, and didn't hold it before

module _ (b : Book) (by : MemberId) (up : is_stopped b by ≡ false) (other : is_holder b by ≡ false) (got : try_refusal b by false ≡ None) where
  abbrev refusal : Bool → Bool → Bool → Option LockNo
  refusal stopped holds held =
      if stopped then Some lock.Down
      else if holds then None
      else if held then Some (lock.Busy b.holder)
      else if is_dormant b by false then Some (lock.Dormant (wakes b by))
      else None

  free_by : (held : Bool) → is_somebody b.holder ≡ held → refusal false false held ≡ None → is_somebody b.holder ≡ false
  free_by true is none = absurd (cc)
  free_by false is none = is

  -- nobody held it
  pub got_free : is_somebody b.holder ≡ false
  got_free =
      free_by (is_somebody b.holder) refl
      (sym (ap (λ (s : Bool). refusal s (is_holder b by) (is_somebody b.holder)) up ∙ ap (λ (h : Bool). refusal false h (is_somebody b.holder)) other) ∙ got)

-- CALLS OF THE BOOK

many_either : (x : Bool) (b c d : Book) → length c.members ≡ length b.members → length d.members ≡ length b.members → length (if x then c else d).members ≡ length b.members
many_either true b c d ec ed = ec
many_either false b c d ec ed = ed

module _ (b : Book) (by : MemberId) (inside : IsMember b by) where
  many_set : (c : Book) (s : Standing) → length (with_standing c by s).members ≡ length c.members
  many_set c s = length-set c.members (by.0 - 1) s

  pub tried_since : (inner : Bool) → Since b (after_try b by inner)
  tried_since inner = record {
    many = many_either (is_stopped b by || is_holder b by) b b (if is_some (try_refusal b by inner) then ticked b inner else granted (ticked b inner) by) refl
        (many_either (is_some (try_refusal b by inner)) b (ticked b inner) (granted (ticked b inner) by) refl (many_set (with_holder (ticked b inner) by) _));
    up = tried_up b by inner inside;
  }

  pub freed_since : (inner : Bool) → Since b (after_free b by inner)
  freed_since inner = record {
    many = many_either (is_holder b by) b (if inner then with_holder b nobody else with_holder (noted b by) nobody) b
        (many_either inner b (with_holder b nobody) (with_holder (noted b by) nobody) refl (many_set b _)) refl;
    up = freed_up b by inner inside;
  }

  pub stopped_since : Since b (after_stop b by)
  stopped_since = record { many = many_set b _; up = λ k up. (stopped_up b by inside k up).1 }

  pub seized_since : (of : MemberId) → Since b (after_seize b by of)
  seized_since of = record {
    many = many_either (is_some (seize_refusal b of)) b b (granted b by) refl (many_set (with_holder b by) _);
    up = seized_up b by of inside;
  }

  pub spent_since : (commands : ℕ) → Since b (after_spend b by commands)
  spent_since commands = record { many = many_set b _; up = spent_up b by commands inside }

  -- a member that is stopped is
  pub stopped_now : is_stopped (after_stop b by) by ≡ true
  stopped_now = either (is_stopped (after_stop b by) by) refl where
    either : (s : Bool) → is_stopped (after_stop b by) by ≡ s → is_stopped (after_stop b by) by ≡ true
    either true is = is
    either false is = absurd ((stopped_up b by inside by is).0 refl)

-- WHAT CALLS OF A BOOK KEEP that their parts keep

module _ (by : MemberId) where
  pub calls_keep : (K : Book → Type 0) → ((b : Book) (inner : Bool) → K b → K (ticked b inner)) → ((b : Book) → K b → K (granted b by)) → ((b : Book) → K b → K (with_holder b nobody))
      → ((b : Book) → K b → K (with_holder (noted b by) nobody)) → ((b : Book) (n : ℕ) → K b → K (after_spend b by n)) → CallsKeep by K
  calls_keep K ticks grants leaves notes spends = record {
    tries = λ b inner is. either (is_stopped b by || is_holder b by) b (if is_some (try_refusal b by inner) then ticked b inner else granted (ticked b inner) by) is
        (either (is_some (try_refusal b by inner)) (ticked b inner) (granted (ticked b inner) by) (ticks b inner is) (grants (ticked b inner) (ticks b inner is)));
    seizes = λ b of is. either (is_some (seize_refusal b of)) b (granted b by) is (grants b is);
    frees = λ b inner is. either (is_holder b by) (if inner then with_holder b nobody else with_holder (noted b by) nobody) b
        (either inner (with_holder b nobody) (with_holder (noted b by) nobody) (leaves b is) (notes b is)) is;
    spends = spends;
  } where
    either : (t : Bool) (b c : Book) → K b → K c → K (if t then b else c)
    either true b c one two = one
    either false b c one two = two

  -- A member is stopped exactly if it was.

  module _ (k : MemberId) where
    abbrev pub SameStop : Book → Book → Type 0
    SameStop b c = is_stopped c k ≡ is_stopped b k

    pub other_set : k.0 - 1 ≢ by.0 - 1 → (b : Book) (s : Standing) → SameStop b (with_standing b by s)
    other_set apart b s = ap (λ (x : Standing). x.stopped) (get_or-set_other b.members (by.0 - 1) (k.0 - 1) s (beginner 0) apart)

    set_same : (b : Book) (s : Standing) → s.stopped ≡ is_stopped b by → SameStop b (with_standing b by s)
    set_same b s same =
        ⊎_elim
        (λ here. subst (λ (i : ℕ). (slice_index_or (slice_set b.members (by.0 - 1) s) i (beginner 0)).stopped ≡ (slice_index_or b.members i (beginner 0)).stopped) (sym here) (set_as b.members (by.0 - 1) same))
        (λ apart. other_set apart b s) (cases_eq (k.0 - 1) (by.0 - 1))
      where
        set_as : (xs : List Standing) (i : ℕ) → s.stopped ≡ (slice_index_or xs i (beginner 0)).stopped → (slice_index_or (slice_set xs i s) i (beginner 0)).stopped ≡ (slice_index_or xs i (beginner 0)).stopped
        set_as [] i as_was = refl
        set_as (x ∷ xs) zero as_was = as_was
        set_as (x ∷ xs) (suc i) as_was = set_as xs i as_was

    pub same_calls : (b : Book) → CallsKeep by (λ (c : Book). SameStop b c)
    same_calls b = calls_keep (λ (c : Book). SameStop b c) (λ c inner is. is) (λ c is. set_same (with_holder c by) (record (standing c by) { left = c.hold }) refl ∙ is) (λ c is. is)
        (λ c is. set_same c (record (standing c by) { freed = Some c.tick }) refl ∙ is) (λ c n is. set_same c (record (standing c by) { left = left_of c by - n }) refl ∙ is)

-- WHAT A MEMBER'S CALLS LEAVE of a book in which it has its place

module _ (by : MemberId) where
  since_keeps : (b : Book) → IsMember b by → CallsKeep by (λ (c : Book). Since b c)
  since_keeps b inside = record {
    tries = λ c inner since. then_since b c (after_try c by inner) since (tried_since c by (inside_since b c by since inside) inner);
    seizes = λ c of since. then_since b c (after_seize c by of) since (seized_since c by (inside_since b c by since inside) of);
    frees = λ c inner since. then_since b c (after_free c by inner) since (freed_since c by (inside_since b c by since inside) inner);
    spends = λ c commands since. then_since b c (after_spend c by commands) since (spent_since c by (inside_since b c by since inside) commands);
  }

  pub piece_since : (b : Book) (p : Piece) → IsMember b by → Since b (after_piece b by p)
  piece_since b p inside = piece_keeps by (λ (c : Book). Since b c) (since_keeps b inside) b p (none_since b)

  pub admitted_since : (a : Admission) (b : Book) → IsMember b by → Since b (tried b by a)
  admitted_since a b inside = tried_keeps by (λ (c : Book). Since b c) (since_keeps b inside) a b (none_since b)

  -- A LINE

  module _ (play : Play) (count : ℕ) (inside : IsMember play.book by) where
    pub play_since : (cut : Option Cut) → Since play.book (left_by by cut play count).book
    play_since cut =
        left_keeps by (λ (c : Book). Since play.book c) (since_keeps play.book inside) cut
        (λ k is why c since. then_since play.book c (after_stop c by) since (stopped_since c by (inside_since play.book c by since inside))) play count (none_since play.book)

    -- a line whose member was stopped leaves it stopped
    pub play_stops : (cut : Option Cut) → (c : Cut) → cut ≡ Some c → c.cause ≡ Stops → is_stopped (left_by by cut play count).book by ≡ true
    play_stops cut c is why =
        let b = (before_cut by c play count).book in
        ap (λ (k : Option Cut). is_stopped (left_by by k play count).book by) is
        ∙ ap (λ (cause : Cause). is_stopped (stopped_by by cause b) by) why
        ∙ stopped_now b by (inside_since play.book b by (before_keeps by (λ (d : Book). Since play.book d) (since_keeps play.book inside) c play count (none_since play.book)) inside)

  pub line_since : (b : Book) (a : Admission) (play : Play) (count : ℕ) (cut : Option Cut) → play.book ≡ tried b by a → IsMember b by → Since b (left_by by cut play count).book
  line_since b a play count cut is inside =
      let one : Since b play.book = subst (λ (c : Book). Since b c) (sym is) (admitted_since a b inside) in
      then_since b play.book (left_by by cut play count).book one (play_since play count (inside_since b play.book by one inside) cut)

  -- A LINE WITHOUT THE LOCK leaves the book

  pub unlocked_book : (l : Left) (ps : List Piece) → (adds_all by false l ps).book ≡ l.book
  unlocked_book l [] = refl
  unlocked_book l (p ∷ ps) = unlocked_book (adds by false l p) ps
