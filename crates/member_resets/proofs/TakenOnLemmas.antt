-- A member that took the lock of a stopped member over may reset that.
use Rattle.std.proofs.Common.{◌≡◌, ◌⊎◌, inl, inr, ℕ, ◌-◌, ◌++◌, Bool, true, false, not, if◌then◌else◌, List, [], ◌∷◌, All, is_some, Option, Some, None, Result, Ok, Err, refl, sym, ◌∙◌, ap, subst, arith}
use Rattle.std.specs.Prelude.{OnOk}
use Rattle.std.proofs.lemmas.List.{get_or-set_same}
use Rattle.std.proofs.lemmas.List.Elements.{All-append}
use Rattle.mas_types.specs.declared.commands.Command.TheVariants as command
use Rattle.mas_types.specs.declared.ids.MemberId.{MemberId}
use Rattle.mas_types.specs.declared.journals.Batch.{Batch}
use Rattle.mas_types.specs.declared.journals.Fate.{Fate}
use Rattle.mas_types.specs.declared.queues.Queue.{Queue}
use Rattle.mas_types.specs.Queue.{is_member}
use Rattle.mas_types.specs.Sound.{IsSound}
use Rattle.mas_types.specs.declared.ids.Page.{Page}
use Rattle.lock_cycle.specs.declared.answers.SeizeNo.{SeizeNo}
use Rattle.lock_cycle.specs.declared.answers.SeizeNo.TheVariants as seized
use Rattle.lock_cycle.specs.declared.standings.Standing.{Standing}
use Rattle.lock_cycle.specs.Books.{Book, IsMember, after_seize, beginner, granted, is_holder, is_stopped, standing}
use Rattle.spool_plant.specs.declared.plant.Plant.{Ghosts as PlantGhosts}
use Rattle.spool_plant.specs.View.{View}
use Rattle.ckpt_copy.specs.declared.copying.Copying.{Ghosts as CopyGhosts}
use Rattle.mas_complex.proofs.Batches.{with_last-append}
use Rattle.mas_complex.specs.Crash.{IsUntold, setting}
use Rattle.mas_complex.specs.Journals.{end_of, in_flight, with_last}
use Rattle.mas_complex.specs.Parts.{Parts}
use Rattle.member_node.specs.declared.member.Member.{Member}
use Rattle.member_node.specs.declared.member.NodeNo.{NodeNo}
use Rattle.member_node.specs.Wanted.{HasHad}
use Rattle.member_steps.proofs.ReadLemmas.{pages_of_run, untold_later}
use Rattle.member_steps.specs.Steps.{AreEarlier, AreKeptFrom, IsKeptBy}
use Rattle.member_hand.specs.Locks.{MayHold}
use Rattle.member_hand.specs.Quiet.{IsAside, IsQuiet}
use Rattle.member_sittings.specs.Sat.{journal_of}
use Rattle.member_sittings.specs.Whole.{HasStepKept, HasUntold, IsGivable}
use Rattle.member_resets.specs.Resetting.{IsTaken, MayResetAt, MayTakeAt, TakesAndResets, TakesBy, taker_at}
use Rattle.member_hand.specs.Standing.{StandsIn}
use Rattle.member_resets.proofs.BookLemmas.{inside_since, seized_since}
use Rattle.member_resets.proofs.SettleLemmas.{journal_still, settled_kept}
use Rattle.member_hand.proofs.Halting.{all_back, all_front}

-- BATCHES THAT ARE KEPT, or have no entry of a member's step, or of a later one

abbrev Holds : MemberId → ℕ → ℕ → Batch → Type 0
Holds m at now b = IsKeptBy now b ⊎ AreEarlier m at b.entries

-- what holds of each batch, and of the one in flight, holds of those of the journal
pub journal_holds : (R : Batch → Type 0) (batches : List Batch) (placed : Bool) (b : Book) (c : Option Batch) → StandsIn batches placed b c → All R (batches ++ in_flight c) → All R (end_of placed c batches)
journal_holds R batches placed b None stands are = subst (λ (p : Bool). All R (end_of p None batches)) (sym stands) (all_front R batches [] are)
journal_holds R batches placed b (Some c) stands are =
    let e = stands.0 in
    let all : All R (e.before ++ e.place ∷ []) = subst (λ (bs : List Batch). All R bs) e.is (all_front R batches (c ∷ []) are) in
    subst (λ (bs : List Batch). All R bs) (sym (ap (λ (bs : List Batch). with_last c bs) e.is ∙ with_last-append c e.before e.place))
    (All-append R e.before (c ∷ []) (all_front R e.before (e.place ∷ []) all) (all_back R batches (c ∷ []) are))

pub kept_journal : (m : MemberId) (at now : ℕ) (batches : List Batch) (placed : Bool) (b : Book) (c : Option Batch) → StandsIn batches placed b c → AreKeptFrom m at (batches ++ in_flight c) now
    → AreKeptFrom m at (end_of placed c batches) now
kept_journal m at now batches placed b c stands are = journal_holds (Holds m at now) batches placed b c stands are

-- THE BOOK

module _ (b : Book) (by of : MemberId) (stopped : is_stopped b of ≡ true) (holds : is_holder b of ≡ true) where
  abbrev refusal : Bool → Bool → Option SeizeNo
  refusal s h = if not s then Some seized.StillUp else if h then None else Some (seized.NotHolder b.holder)

  pub seized_now : after_seize b by of ≡ granted b by
  seized_now =
      ap (λ (s : Bool). if is_some (refusal s (is_holder b of)) then b else granted b by) stopped
      ∙ ap (λ (h : Bool). if is_some (refusal true h) then b else granted b by) holds

  pub up_still : is_stopped b by ≡ false → IsMember b by → is_stopped (after_seize b by of) by ≡ false
  up_still up inside =
      let some = inside.0 in
      let few = inside.1 in
      ap (λ (c : Book). is_stopped c by) seized_now
      ∙ ap (λ (s : Standing). s.stopped) (get_or-set_same b.members (by.0 - 1) (record (standing b by) { left = b.hold }) (beginner 0) (omega (arith, some, few))) ∙ up

module _ {P C : Type 0} (plants : PlantGhosts P) (copies : CopyGhosts C) (x mid : Parts P C) (m : Member) (at : ℕ) (of : MemberId) (may : MayTakeAt plants copies x m at of)
    (found : Fate) (taken : IsTaken plants copies m.id of x mid found) (base : mid.base ≡ x.base) (since : mid.since ≡ x.since) where
  abbrev v : Parts P C → View
  v w = plants.view w.plant

  pub holds_now : mid.book.holder ≡ m.id
  holds_now = ap (λ (b : Book). b.holder) (taken.book ∙ seized_now x.book m.id of may.of_stopped may.of_holds)

  pub may_hold : MayHold mid.book m.id
  may_hold = record {
    some = may.some;
    few = may.least;
    seated = subst (λ (b : Book). IsMember b m.id) (sym taken.book) (inside_since x.book (after_seize x.book m.id of) m.id (seized_since x.book m.id may.seated of) may.seated);
    up = ap (λ (b : Book). is_stopped b m.id) taken.book ∙ up_still x.book m.id of may.of_stopped may.of_holds may.up may.seated;
    free = inl holds_now;
  }

  aside : IsAside plants copies mid m
  aside = record {
    quiet = subst (λ (n : ℕ). IsQuiet plants copies mid n) (pages_of_run x.base [] m.checkpoint m.room may.config may.idle.drawn may.idle.many) taken.quiet;
    idle = may.idle;
    noted = subst (λ (h : List (List Page)). HasHad plants.tells m.fresh h m.id.0 m.checkpoint.pages) (sym taken.had) may.noted;
    config = ap (λ (Q : Queue). Q.config) base ∙ may.config;
  }

  untold : HasUntold plants copies mid m.id at
  untold t es own =
      subst (λ (Q : Queue). IsUntold (setting copies.reads Q mid.since) (v mid) es) (sym base)
      (subst (λ (n : ℕ). IsUntold (setting copies.reads x.base n) (v mid) es) (sym since)
      (untold_later copies.reads x.base x.since (v x) (v mid) es may.begun taken.counts.goes (taken.apart t).console (may.untold t es own)))

  step_kept : HasStepKept plants copies mid m.id at
  step_kept =
      subst (λ (bs : List Batch). AreKeptFrom m.id at bs (v mid).now) (sym taken.journal ∙ journal_still mid taken.quiet.none taken.quiet.unplaced)
      (settled_kept m.id at found (v mid).now (v x).now (v mid).now taken.counts.goes.later (journal_of x) (kept_journal m.id at (v x).now x.batches x.placed x.book x.current may.stands may.step))

  pub may_reset : MayResetAt plants copies mid m (taker_at plants copies m.id at mid) of
  may_reset = record {
    goes = record {
      aside = aside;
      hold = may_hold;
      member = subst (λ (Q : Queue). is_member Q.config m.id ≡ true) (sym base) may.member;
      base_sound = λ t. subst IsSound (sym base) (may.base_sound t);
      untold = untold;
      step = step_kept;
      seat = tt;
      level = let low = taken.level in let high = may.level in omega (arith, low, high);
      holder = refl;
    };
    holds = holds_now;
    givable = subst (λ (Q : Queue). IsGivable Q m.id (command.Reset of)) (sym base) may.givable;
    few = may.few;
  }

  -- for every answer of the reset
  pub takes_by : (y : Parts P C) (pages : ℕ) (r : Result (Unit {0}) NodeNo) → TakesAndResets plants copies m.id at of x y pages r → TakesBy plants copies m.id at of x y pages r
  takes_by y pages (Ok done) takes = takes
  takes_by y pages (Err e) takes = inr takes

pub on_done : (A B : Type 0) (r : Result (Unit {0}) NodeNo) → (A → B) → OnOk r A → OnOk r B
on_done A B (Ok done) f a = f a
on_done A B (Err e) f a = tt
