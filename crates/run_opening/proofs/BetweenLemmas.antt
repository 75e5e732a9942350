-- A run as its lines begin: nobody holds the lock, and each member is idle.
use Rattle.std.proofs.Common.{◌≡◌, ℕ, zero, suc, ◌+◌, ◌≤◌, min, Bool, true, false, List, [], ◌∷◌, ◌++◌, length, replicate, All, Option, Some, None, refl, sym, ◌∙◌, ap, subst, arith}
use Rattle.std.proofs.lemmas.Bool.{eqb-true}
use Rattle.std.proofs.lemmas.List.Elements.{All-nil, All-cons}
use Rattle.std.specs.List.{slice_get}
use Rattle.mas_types.specs.declared.ids.Dev.TheVariants.{Ckpt1, Ckpt2}
use Rattle.mas_types.specs.declared.ids.MemberId.{MemberId}
use Rattle.mas_types.specs.declared.journals.Batch.{Batch}
use Rattle.mas_types.specs.declared.queues.Config.{Config}
use Rattle.mas_types.specs.Fit.{IsConfig}
use Rattle.mas_types.specs.Ids.{nobody}
use Rattle.mas_types.specs.Limits.{members_most, steps_most}
use Rattle.mas_types.specs.Sound.{IsSound}
use Rattle.lock_cycle.specs.Books.{Book, beginner, is_holder, new_book}
use Rattle.queue_laws.proofs.RunLaws.{runs_keep_configuration}
use Rattle.spool_plant.specs.View.{View, disk_now}
use Rattle.spool_plant.specs.Acts.{Goes}
use Rattle.spool_plant.specs.declared.plant.Plant.{Ghosts as PlantGhosts}
use Rattle.ckpt_copy.specs.declared.copying.Copying.{Ghosts as CopyGhosts}
use Rattle.ckpt_form.specs.declared.steady.Steady.{Ghosts as SteadyGhosts}
use Rattle.ckpt_tables.specs.Shape.{page_count}
use Rattle.mas_complex.specs.declared.complex.Complex.{Complex}
use Rattle.mas_complex.specs.Journals.{AreSettled, in_flight, kept_all}
use Rattle.mas_complex.specs.Locking.{book_of}
use Rattle.mas_complex.specs.Paper.{counts_of, no_counts}
use Rattle.mas_complex.specs.Meaning.{run}
use Rattle.mas_complex.specs.Parts.{Parts, parts_of}
use Rattle.member_node.specs.declared.checkpoint.Checkpoint.{Checkpoint}
use Rattle.member_node.specs.declared.member.Member.{Member}
use Rattle.member_node.specs.Calls.{console_now}
use Rattle.member_node.specs.Copies.{RestsAt}
use Rattle.member_node.specs.Drawn.{AreDrawn}
use Rattle.member_node.specs.Reads.{AreLow, ReadsLow}
use Rattle.member_steps.proofs.ReadLemmas.{calm_rest, low_written}
use Rattle.member_quiet.specs.Gates.{IsOpen}
use Rattle.member_quiet.specs.Whole.{Half, HasUntold, IsAtRest, first_half, queue_of, second_half}
use Rattle.member_quiet.specs.Quiet.{IsQuiet}
use Rattle.run_turns.specs.Scenes.{scene_of}
use Rattle.run_opening.specs.Fresh.{AreFresh, AreFreshFrom, IsFresh}
use Rattle.run_opening.specs.Shows.{AreLarge, BetweenLines, IsBetween, IsMemberAt, IsShown, QuietFor, Shows}
use Rattle.member_quiet.specs.Standing.{IsOfEarlier, StandsIn}
use Rattle.run_opening.proofs.ResetLemmas.{none_untold_later}

-- the book of a run has as many members as the configuration
few_members : (n : ℕ) → n ≤ members_most → min n members_most ≡ n
few_members n le = omega (arith, le)

length_new : {A : Type 0} (n : ℕ) (a : A) → length (replicate n a) ≡ n
length_new zero a = refl
length_new (suc n) a = ap suc (length_new n a)

-- A MEMBER THAT IS MADE

pub fresh_of : (config : Config) (at : ℕ) (m : Member) → m.id ≡ record { 0 = at } → m.checkpoint.tables.config ≡ config
    → AreDrawn m.checkpoint.tables m.checkpoint.level m.checkpoint.levels m.checkpoint.pages → m.batch ≡ [] → length m.room ≡ length m.checkpoint.pages → m.fresh ≡ true → IsFresh config at m
fresh_of config at m id same drawn nothing many fresh = record {
  id = id;
  fresh = fresh;
  idle = record { nothing = nothing; drawn = drawn; many = many };
  config = same;
  many = many ∙ drawn.spelled.count ∙ ap page_count same;
}

-- and one more of them
pub fresh_more : (config : Config) (at : ℕ) (ms : List Member) (m : Member) → AreFreshFrom config at ms → IsFresh config (at + length ms) m → AreFreshFrom config at (ms ++ m ∷ [])
fresh_more config at [] m are fresh = (subst (λ (n : ℕ). IsFresh config n m) (here at) fresh, tt) where
  here : (n : ℕ) → n + 0 ≡ n
  here n = omega arith
fresh_more config at (k ∷ ms) m are fresh =
    (are.0, fresh_more config (at + 1) ms m are.1 (subst (λ (n : ℕ). IsFresh config n m) (on at (length ms)) fresh)) where
      on : (n many : ℕ) → n + suc many ≡ n + 1 + many
      on n many = omega arith

-- A COPY that has a member's pages, which are low, is open

pub open_rest : (tells : Type 0) (h : Half) (k : Checkpoint) (config : Config) (batches pages : ℕ) → AreDrawn k.tables k.level k.levels k.pages → config ≡ k.tables.config → pages ≡ length k.pages
    → (tells → AreLow k.tables.config batches k.tables) → IsAtRest tells h k.pages → IsOpen tells h config batches pages
open_rest tells h k config batches pages drawn same many low rests = record {
  calm = calm_rest tells h.alive h.place h.count k.pages h.read pages many rests;
  low = subst (λ (c : Config). ReadsLow tells h.alive c batches h.read) (sym same) (low_written tells h.alive h.place h.count k.tables.config batches k h.read drawn low rests);
}

-- BATCHES of an opening are of no line

pub none_earlier : (batches : List Batch) (current : Option Batch) → batches ≡ [] → current ≡ None → All (IsOfEarlier 1) (batches ++ in_flight current)
none_earlier batches current none out = subst (λ (bs : List Batch). All (IsOfEarlier 1) bs) (sym (ap (λ (bs : List Batch). bs ++ in_flight current) none ∙ ap in_flight out)) (All-nil (IsOfEarlier 1))

pub one_earlier : (b : Batch) (batches : List Batch) (current : Option Batch) → batches ≡ b ∷ [] → current ≡ None → IsOfEarlier 1 b → All (IsOfEarlier 1) (batches ++ in_flight current)
one_earlier b batches current one out is =
    subst (λ (bs : List Batch). All (IsOfEarlier 1) bs) (sym (ap (λ (bs : List Batch). bs ++ in_flight current) one ∙ ap (λ (c : Option Batch). b ∷ in_flight c) out))
    (All-cons (IsOfEarlier 1) b [] is (All-nil (IsOfEarlier 1)))

-- nobody has printed anything
pub none_counted : (printed : List ℕ) → printed ≡ no_counts → (m : MemberId) → counts_of printed m ≡ 0
none_counted printed is m = ap (λ (l : List ℕ). counts_of l m) is ∙ zero_of m.0 (members_most + 1) where
  zero_of : (i n : ℕ) → counts_of (replicate n 0) (record { 0 = i }) ≡ 0
  zero_of i zero = refl
  zero_of zero (suc n) = refl
  zero_of (suc i) (suc n) = zero_of i n

-- one that has read no pages yet has none that it noted
fresh_read : (fresh : Bool) → fresh ≡ true → fresh ≡ false → ⊥
fresh_read fresh none read = cc

-- the book of a run that begins has a place for each member
pub members_booked : {P C : Type 0} (x : Parts P C) → x.book ≡ book_of x.base.config → IsConfig x.base.config → length x.book.members ≡ x.base.config.members
members_booked x book config =
    ap (λ (b : Book). length b.members) book ∙ length_new (min x.base.config.members members_most) (beginner x.base.config.hold) ∙ few_members x.base.config.members config.members.1

module _ {P C : Type 0} (plants : PlantGhosts P) (copies : CopyGhosts C) (x : Parts P C) (book : x.book ≡ book_of x.base.config) where
  here : x.book.holder ≡ nobody
  here = ap (λ (b : Book). b.holder) book

  -- a member of a number from 1 on doesn't hold
  not_holder : (at : ℕ) (m : Member) → 1 ≤ at → m.id ≡ record { 0 = at } → is_holder x.book m.id ≡ true → ⊥
  not_holder at m some id holds =
      let same : x.book.holder.0 ≡ m.id.0 = eqb-true x.book.holder.0 m.id.0 holds in
      let none : x.book.holder.0 ≡ 0 = ap (λ (k : MemberId). k.0) here in
      let number : m.id.0 ≡ at = ap (λ (k : MemberId). k.0) id in
      absurd (omega (arith, same, none, number, some))

  member_first : (at : ℕ) (m : Member) → 1 ≤ at → IsFresh x.base.config at m → IsMemberAt plants copies x at m
  member_first at m some fresh = record {
    id = fresh.id;
    up = λ up. record {
      config = sym fresh.config;
      many = fresh.many;
      idle = fresh.idle;
      noted = λ t read. absurd (fresh_read m.fresh fresh.fresh read);
      seated = λ holds. absurd (not_holder at m some fresh.id holds);
    };
  }

  members_first : (at : ℕ) (ms : List Member) → 1 ≤ at → AreFreshFrom x.base.config at ms → (i : ℕ) (m : Member) → slice_get ms i ≡ Some m → IsMemberAt plants copies x (at + i) m
  members_first at [] some fresh i m here = absurd (cc)
  members_first at (n ∷ ms) some fresh zero m here =
      let same : n ≡ m = cc in
      let number : at ≡ at + 0 = omega arith in
      subst (λ (k : ℕ). IsMemberAt plants copies x k m) number (subst (λ (k : Member). IsMemberAt plants copies x at k) same (member_first at n some fresh.0))
  members_first at (n ∷ ms) some fresh (suc i) m here =
      let number : at + 1 + i ≡ at + suc i = omega arith in
      subst (λ (k : ℕ). IsMemberAt plants copies x k m) number (members_first (at + 1) ms (omega (arith, some)) fresh.1 i m here)

  first_stands : (c : Option Batch) → c ≡ None → x.placed ≡ false → StandsIn x.batches x.placed x.book c
  first_stands None none unplaced = unplaced
  first_stands (Some b) none unplaced = absurd (cc)

  -- Nothing is done yet but the run's opening, and no line tells a step of it.
  pub between_first : (ms : List Member) → IsConfig x.base.config → IsSound x.base → AreFresh x.base.config ms → IsQuiet plants copies x (page_count x.base.config)
      → ((by : MemberId) (later : ℕ) → 1 ≤ later → later ≤ steps_most → HasUntold plants copies x by later) → All (IsOfEarlier 1) (x.batches ++ in_flight x.current)
      → AreSettled x.batches (plants.view x.plant).now → AreLarge plants copies x → IsBetween plants copies x ms 1
  between_first ms config sound fresh quiet untold earlier settled large = record {
    stands = first_stands x.current quiet.none quiet.unplaced;
    settled = settled;
    quiet = λ free. quiet;
    unreserved = quiet.unreserved;
    members = members_first 1 ms (omega arith) fresh.each;
    many = fresh.many;
    booked = members_booked x book config;
    held = let none = ap (λ (k : MemberId). k.0) here in omega (arith, none);
    config = config;
    sound = sound;
    begun = quiet.begun;
    roomy = quiet.roomy;
    large = large;
    untold = untold;
    earlier = earlier;
    few = omega arith;
  }

  -- the first scene
  pub shown_first : (told : Type 0) → IsConfig (queue_of x).config → (queue_of x).config ≡ x.base.config → x.current ≡ None → (told → (m : MemberId) → counts_of x.printed m ≡ 0)
      → IsShown plants copies told (scene_of (queue_of x)) x
  shown_first told config same none counts = record {
    queue = refl;
    book = book ∙ ap (λ (c : Config). book_of c) (sym same)
        ∙ ap (λ (n : ℕ). new_book n (queue_of x).config.hold (queue_of x).config.dormancy) (few_members (queue_of x).config.members config.members.1);
    flight = none;
    counts = λ t m up. counts t m;
  }

-- OVER THE SHARED VALUE

module _ {P C : Type 0} {plants : PlantGhosts P} {steadies : SteadyGhosts C} {copies : CopyGhosts C} (y : Complex P C plants steadies copies) where
  abbrev w : View
  w = plants.view y.plant

  -- nothing was said since it was made
  pub untold_since : (old : View) → y.since ≡ old.now → Goes old w → (plants.tells → console_now w ≡ console_now old)
      → (by : MemberId) (later : ℕ) → 1 ≤ later → later ≤ steps_most → HasUntold plants copies (parts_of y) by later
  untold_since old since goes same by later some few t es of = none_untold_later copies.reads y.base y.since old w es since goes (same t)

  -- each copy that counts as alive has the pages of low tables
  module _ (k : Checkpoint) (pages : ℕ) (drawn : AreDrawn k.tables k.level k.levels k.pages) (same : y.base.config ≡ k.tables.config) (many : pages ≡ length k.pages)
      (low : plants.tells → AreLow k.tables.config (length y.journal.batches) k.tables) where
    pub opened_first : RestsAt plants.tells y.pair.first.alive y.first (copies.count y.pair.first.copy) k.pages (copies.reads (disk_now w Ckpt1).bytes)
        → IsOpen plants.tells (first_half plants copies (parts_of y)) y.base.config (length y.journal.batches) pages
    opened_first rests = open_rest plants.tells (first_half plants copies (parts_of y)) k y.base.config (length y.journal.batches) pages drawn same many low rests

    pub opened_second : RestsAt plants.tells y.pair.second.alive y.second (copies.count y.pair.second.copy) k.pages (copies.reads (disk_now w Ckpt2).bytes)
        → IsOpen plants.tells (second_half plants copies (parts_of y)) y.base.config (length y.journal.batches) pages
    opened_second rests = open_rest plants.tells (second_half plants copies (parts_of y)) k y.base.config (length y.journal.batches) pages drawn same many low rests

  module _ (book : y.book ≡ book_of y.base.config) where
    pub lines_between : (ms : List Member) → IsConfig y.base.config → IsSound y.base → AreFresh y.base.config ms → QuietFor y (page_count y.base.config)
        → ((by : MemberId) (later : ℕ) → 1 ≤ later → later ≤ steps_most → HasUntold plants copies (parts_of y) by later) → All (IsOfEarlier 1) (y.journal.batches ++ in_flight y.current)
        → AreSettled y.journal.batches w.now → AreLarge plants copies (parts_of y) → BetweenLines y ms 1
    lines_between ms config sound fresh quiet untold earlier settled large = between_first plants copies (parts_of y) book ms config sound fresh quiet untold earlier settled large

    pub lines_shown : IsConfig y.base.config → y.current ≡ None → y.printed ≡ no_counts → Shows (Unit {0}) (scene_of (run y.base (kept_all y.journal.batches))) y
    lines_shown config none printed =
        let same = (runs_keep_configuration y.base (kept_all y.journal.batches)).config in
        shown_first plants copies (parts_of y) book (Unit {0}) (subst IsConfig (sym same) config) same none (λ t m. none_counted y.printed printed m)
