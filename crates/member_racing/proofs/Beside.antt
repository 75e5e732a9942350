-- A second copy of a member takes the lock over in its place: it may do what the member may, and the member has to read all
-- pages anew.
use Rattle.std.proofs.Common.{◌≡◌, ◌++◌, ◌∙◌, inl, inr, ⊎_elim, ℕ, ◌≤◌, true, false, [], Some, IfOk, OnOk, Result, Ok, Err, ap, refl, subst, sym}
use Rattle.mas_types.specs.declared.commands.Command.TheVariants as command
use Rattle.mas_types.specs.declared.ids.MemberId.{MemberId}
use Rattle.mas_types.specs.Limits.{members_most}
use Rattle.mas_types.specs.Queue.{is_member}
use Rattle.lock_cycle.specs.Books.{IsMember, is_stopped}
use Rattle.spool_plant.specs.declared.plant.Plant.{Ghosts as PlantGhosts}
use Rattle.ckpt_copy.specs.declared.copying.Copying.{Ghosts as CopyGhosts}
use Rattle.ckpt_form.specs.declared.steady.Steady.{Ghosts as SteadyGhosts}
use Rattle.duplex_pair.specs.Halves.{SomeAlive}
use Rattle.mas_complex.specs.declared.complex.Complex.{Complex}
use Rattle.mas_complex.specs.Journals.{in_flight}
use Rattle.mas_complex.specs.Parts.{Parts, parts_of}
use Rattle.mas_race.specs.Between.{is_held}
use Rattle.race_turns.specs.Turns.{left_holder}
use Rattle.member_node.specs.declared.member.Member.{Member}
use Rattle.member_node.specs.declared.member.NodeNo.{NodeNo}
use Rattle.member_node.specs.declared.member.NodeNo.TheVariants as no_node
use Rattle.member_steps.proofs.ReadLemmas.{pages_of_run}
use Rattle.member_steps.specs.Steps.{AreKeptFrom}
use Rattle.member_sittings.specs.Whole.{HasUntold, IsGivable}
use Rattle.member_resets.specs.Quiet.{IsIdle}
use Rattle.member_resets.specs.Stand.{Stand}
use Rattle.member_resets.specs.Resetting.{IsAfterTakeover, MayTakeAt}
use Rattle.member_racing.specs.Kinds.{ActsBy, TakesBy}
use Rattle.member_racing.specs.Opened.{KeepsActing, TakesBeside, Tries}
use Rattle.member_racing.specs.Stages.{IsBegun, Raced}
use Rattle.member_racing.specs.Waits.{HasEase, IsAtEase}
use Rattle.member_racing.specs.declared.stages.Stage.{Stage as Stands}
use Rattle.member_racing.specs.declared.stages.Stage.TheVariants as line
use Rattle.member_racing.proofs.Easing.{ease_aside}
use Rattle.member_racing.proofs.Turning.{takes_up_err, takes_up_ok}

module _ {P C : Type 0} (plants : PlantGhosts P) (copies : CopyGhosts C) (x : Parts P C) (m k : Member) (at : ℕ) (of : MemberId) (id : k.id ≡ m.id) (idle : IsIdle k) (fresh : k.fresh ≡ true) (config : k.checkpoint.tables.config ≡ m.checkpoint.tables.config)
    (may : MayTakeAt plants copies x m at of) where
  by_id : (A : MemberId → Type 0) → A m.id → A k.id
  by_id A a = subst A (sym id) a

  pub may_beside : MayTakeAt plants copies x k at of
  may_beside = record {
    stands = may.stands;
    idle = idle;
    noted = λ t not_fresh. absurd (let bad : true ≡ false = sym fresh ∙ not_fresh in cc);
    config = may.config ∙ sym config;
    fits = may.fits;
    some = by_id (λ i. 1 ≤ i.0) may.some;
    least = by_id (λ i. i.0 ≤ members_most) may.least;
    member = by_id (λ i. is_member x.base.config i ≡ true) may.member;
    seated = by_id (λ i. IsMember x.book i) may.seated;
    up = by_id (λ i. is_stopped x.book i ≡ false) may.up;
    of_seated = may.of_seated;
    of_stopped = may.of_stopped;
    of_holds = may.of_holds;
    few = may.few;
    base_sound = may.base_sound;
    roomy = may.roomy;
    untold = by_id (λ i. HasUntold plants copies x i at) may.untold;
    step = by_id (λ i. AreKeptFrom i at (x.batches ++ in_flight x.current) (plants.view x.plant).now) may.step;
    begun = may.begun;
    givable = by_id (λ i. IsGivable x.base i (command.Reset of)) may.givable;
    level = may.level;
  }

module _ {P C : Type 0} (plants : PlantGhosts P) (copies : CopyGhosts C) where
  -- a member that reads all pages anew is at its ease
  pub ease_fresh : (y : Parts P C) (n : Member) → IsIdle n → n.fresh ≡ true → y.base.config ≡ n.checkpoint.tables.config → IsAtEase plants copies y n
  ease_fresh y n idle fresh config = record {
    idle = idle;
    many = sym (pages_of_run y.base [] n.checkpoint n.room config idle.drawn idle.many);
    tables = config;
    noted = λ t not_fresh. absurd (let bad : true ≡ false = sym fresh ∙ not_fresh in cc);
  }

-- what holds anyway holds where it was done
pub on_done : {A : Type 0} (r : Result (Unit {0}) NodeNo) → A → OnOk r A
on_done (Ok done) a = a
on_done (Err e) a = tt

-- A LINE THAT WAITS FOR ACTS has its member's tables for them

-- one that sat, or did the acts, doesn't
pub sat_acting : (stand : Stand) (m n : Member) (r : Result Stands NodeNo) → IfOk r (λ q. KeepsActing (line.Sits stand) q m n)
sat_acting stand m n (Ok q) = tt
sat_acting stand m n (Err e) = tt

pub opened_acting : (m n : Member) (r : Result Stands NodeNo) → IfOk r (λ q. KeepsActing line.Opens q m n)
opened_acting m n (Ok q) = tt
opened_acting m n (Err e) = tt

pub acted_acting : {P C : Type 0} (plants : PlantGhosts P) (copies : CopyGhosts C) (x y : Parts P C) (stand : Stand) (m n : Member) (r : Result Stands NodeNo) → ActsBy plants copies x y m stand r → IfOk r (λ q. KeepsActing (line.Acts stand) q m n)
acted_acting plants copies x y stand m n (Ok q) acts = subst (λ (t : Stands). KeepsActing (line.Acts stand) t m n) (sym acts.2) tt
acted_acting plants copies x y stand m n (Err e) acts = tt

-- nor one that waits for something else
keeps_other : (s : Stands) (m n : Member) → ((stand : Stand) → s ≡ line.Acts stand → ⊥) → KeepsActing s s m n
keeps_other line.Opens m n unlike = tt
keeps_other (line.Sits stand) m n unlike = tt
keeps_other (line.Acts stand) m n unlike = absurd (unlike stand refl)
keeps_other line.Closed m n unlike = tt

pub other_acting : (s : Stands) (m n : Member) → ((stand : Stand) → s ≡ line.Acts stand → ⊥) → (r : Result (Unit {0}) NodeNo) → OnOk r (KeepsActing s s m n)
other_acting s m n unlike (Ok done) = keeps_other s m n unlike
other_acting s m n unlike (Err e) = tt

module _ {P C : Type 0} {plants : PlantGhosts P} {steadies : SteadyGhosts C} {copies : CopyGhosts C} where
  pub ease_after : (x y : Complex P C plants steadies copies) (m n : Member) (r : Result (Unit {0}) NodeNo) → OnOk r (IsAfterTakeover x y m n) → OnOk r (HasEase y n)
  ease_after x y m n (Ok done) after = λ up. ease_aside plants copies (parts_of y) n after.aside
  ease_after x y m n (Err e) after = tt

-- WHAT IT DID, as a turn

module _ {P C : Type 0} {plants : PlantGhosts P} {steadies : SteadyGhosts C} {copies : CopyGhosts C} (x y : Complex P C plants steadies copies) (at : ℕ) (of : MemberId) (m n : Member) where
  pub beside_err : (r : Raced) (e : NodeNo) → m.id ≡ r.by → at ≡ r.number → SomeAlive x.pair.first.alive x.pair.second.alive → is_held x.book ≡ false → left_holder x.book ≡ Some of → IsBegun r.stands → TakesBeside at of x y m n (Err e) → Tries r x y m n (Err e)
  beside_err r e by number some unheld left begun t = ⊎_elim
      (λ none. inl (record { frame = none.0; member = none.1; answer = inr (ap (λ (q : Result (Unit {0}) NodeNo). stands_of q) none.2, some) }))
      (λ takes. inr (
        some,
        unheld,
        takes_up_err plants copies r (parts_of x) (parts_of y) m n e of left r.stands begun
            (subst (λ (j : ℕ). TakesBy plants copies r.by j of (parts_of x) (parts_of y) (Err e)) number (subst (λ (i : MemberId). TakesBy plants copies i at of (parts_of x) (parts_of y) (Err e)) by takes)),
      )) t
    where
      stands_of : Result (Unit {0}) NodeNo → Result Stands NodeNo
      stands_of (Ok done) = Ok line.Closed
      stands_of (Err f) = Err f

  pub beside_ok : (r : Raced) → m.id ≡ r.by → at ≡ r.number → SomeAlive x.pair.first.alive x.pair.second.alive → is_held x.book ≡ false → left_holder x.book ≡ Some of → IsBegun r.stands → TakesBeside at of x y m n (Ok tt) → Tries r x y m n (Ok r.stands)
  beside_ok r by number some unheld left begun t = ⊎_elim
      (λ none. absurd (no_memory (Ok tt) refl none.2))
      (λ takes. inr (
        some,
        unheld,
        takes_up_ok plants copies r (parts_of x) (parts_of y) m n of left r.stands begun refl
            (subst (λ (j : ℕ). TakesBy plants copies r.by j of (parts_of x) (parts_of y) (Ok tt)) number (subst (λ (i : MemberId). TakesBy plants copies i at of (parts_of x) (parts_of y) (Ok tt)) by takes)),
      )) t
    where
      no_memory : (r : Result (Unit {0}) NodeNo) → r ≡ Ok tt → r ≡ Err no_node.NoMemory → ⊥
      no_memory r one two = absurd (let bad : Ok tt ≡ Err no_node.NoMemory = sym one ∙ two in cc)
