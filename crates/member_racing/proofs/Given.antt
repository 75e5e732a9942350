-- What a turn gave: entries of its member's step, in batches of that member.
use Rattle.std.proofs.Common.{◌≡◌, ◌∙◌, ◌≤◌, ◌<◌, ◌+◌, ℕ, Bool, true, false, if◌then◌else◌, List, [], ◌∷◌, ◌++◌, All, ap, refl, subst, sym, arith}
use Rattle.std.proofs.lemmas.List.Elements.{All-append, All-head, All-nil, All-tail, All-weaker}
use Rattle.mas_types.specs.declared.ids.MemberId.{MemberId}
use Rattle.mas_types.specs.declared.journals.Batch.{Batch}
use Rattle.mas_types.specs.declared.journals.Entry.{Entry}
use Rattle.mas_types.specs.Ids.{same_member}
use Rattle.lock_cycle.specs.Books.{Book}
use Rattle.spool_plant.specs.declared.plant.Plant.{Ghosts as PlantGhosts}
use Rattle.ckpt_copy.specs.declared.copying.Copying.{Ghosts as CopyGhosts}
use Rattle.ckpt_form.specs.declared.steady.Steady.{Ghosts as SteadyGhosts}
use Rattle.gate_turns.specs.Shared.{begun_by}
use Rattle.gate_turns.proofs.KeptSame.{begun_append}
use Rattle.mas_complex.specs.declared.complex.Complex.{Complex}
use Rattle.mas_complex.specs.Journals.{in_flight}
use Rattle.mas_complex.specs.Parts.{parts_of}
use Rattle.member_steps.specs.Steps.{AreKeptFrom}
use Rattle.member_sittings.specs.Sat.{journal_of}
use Rattle.member_resets.specs.Settling.{settle}
use Rattle.member_racing.proofs.Adding.{AddsOf, Mine}
use Rattle.member_racing.proofs.Histories.{journal_all}
use Rattle.member_racing.proofs.Journaled.{batches_all, journal_begun}
use Rattle.member_racing.proofs.OwnEntries.{IsEntry, IsOwnBatch}
use Rattle.member_racing.proofs.Settled.{settle_all, settle_begun}
use Rattle.member_racing.proofs.Turns.{kept_before}

abbrev IsStepTo : ℕ → Entry → Type 0
IsStepTo at e = e.step ≤ at

abbrev pub Own : Batch → Type 0
Own c = All (λ e. e.by ≡ c.by) c.entries

module _ (told : Type 0) (book : Book) (by : MemberId) (at : ℕ) (fly : Type 0) where
  abbrev Its : Batch → Type 0
  Its = IsOwnBatch told book by at fly

  -- OWN BATCHES

  own_one : (b : Batch) → Its b → Own b
  own_one b is = All-weaker (IsEntry told book by at) (λ (e : Entry). e.by ≡ b.by) (λ e its. its.0 ∙ sym is.0) b.entries is.1

  steps_one : (b : Batch) → Its b → (t : Bool) → All (IsStepTo at) (if t then b.entries else [])
  steps_one b is true = All-weaker (IsEntry told book by at) (IsStepTo at) (λ e its. let same : e.step ≡ at = its.1 in omega (arith, same)) b.entries is.1
  steps_one b is false = All-nil (IsStepTo at)

  pub steps_own : (m : MemberId) (own : List Batch) → All Its own → All (IsStepTo at) (begun_by m own)
  steps_own m [] are = All-nil (IsStepTo at)
  steps_own m (b ∷ own) are =
      All-append (IsStepTo at) (if same_member b.by m then b.entries else []) (begun_by m own) (steps_one b (All-head Its b own are) (same_member b.by m)) (steps_own m own (All-tail Its b own are))

  -- none is another's
  pub begun_other : (m : MemberId) (own : List Batch) → same_member by m ≡ false → All Its own → begun_by m own ≡ []
  begun_other m [] other are = refl
  begun_other m (b ∷ own) other are =
      ap (λ (k : MemberId). (if same_member k m then b.entries else []) ++ begun_by m own) (All-head Its b own are).0
      ∙ ap (λ (t : Bool). (if t then b.entries else []) ++ begun_by m own) other ∙ begun_other m own other (All-tail Its b own are)

module _ {P C : Type 0} {plants : PlantGhosts P} {steadies : SteadyGhosts C} {copies : CopyGhosts C} (book : Book) (by : MemberId) (at : ℕ) (fly : Type 0) (x y : Complex P C plants steadies copies) (a : AddsOf (Mine plants copies book by at fly) (parts_of x) (parts_of y)) where
  -- each entry is of its batch's member still
  pub own_after : All Own (x.journal.batches ++ in_flight x.current) → All Own (y.journal.batches ++ in_flight y.current)
  own_after was =
      batches_all y Own (λ b free. subst (λ (es : List Entry). All (λ (e : Entry). e.by ≡ b.by) es) (sym free.empty) (All-nil (λ (e : Entry). e.by ≡ b.by)))
      (subst (λ (bs : List Batch). All Own bs) (sym a.journal)
      (All-append Own (settle a.found a.moment (journal_of (parts_of x))) a.own
      (settle_all (λ (m : MemberId) (es : List Entry). All (λ (e : Entry). e.by ≡ m) es) a.found a.moment (journal_of (parts_of x)) (journal_all x Own was))
      (All-weaker (Mine plants copies book by at fly) Own (own_one plants.tells book by at fly) a.own a.theirs)))

  -- a member has begun what it had, and of the own batches what is its
  pub begun_after : (m : MemberId) → begun_by m (y.journal.batches ++ in_flight y.current) ≡ begun_by m (x.journal.batches ++ in_flight x.current) ++ begun_by m a.own
  begun_after m =
      journal_begun y m ∙ ap (begun_by m) a.journal ∙ begun_append m (settle a.found a.moment (journal_of (parts_of x))) a.own
      ∙ ap (λ (es : List Entry). es ++ begun_by m a.own) (settle_begun m a.found a.moment (journal_of (parts_of x)) ∙ sym (journal_begun x m))

  pub steps_after : (m : MemberId) → All (IsStepTo at) (begun_by m (x.journal.batches ++ in_flight x.current)) → All (IsStepTo at) (begun_by m (y.journal.batches ++ in_flight y.current))
  steps_after m was =
      subst (λ (es : List Entry). All (IsStepTo at) es) (sym (begun_after m)) (All-append (IsStepTo at) (begun_by m (x.journal.batches ++ in_flight x.current)) (begun_by m a.own) was (steps_own plants.tells book by at fly m a.own a.theirs))

  -- of the step after this one it gave nothing
  pub next_kept : (m : MemberId) (now : ℕ) → All Own (x.journal.batches ++ in_flight x.current) → All (IsStepTo at) (begun_by m (x.journal.batches ++ in_flight x.current))
      → AreKeptFrom m (at + 1) (y.journal.batches ++ in_flight y.current) now
  next_kept m now own was =
      kept_before m (at + 1) now (y.journal.batches ++ in_flight y.current) (own_after own)
      (All-weaker (IsStepTo at) (λ (e : Entry). e.step < at + 1) (λ e is. omega (arith, is)) (begun_by m (y.journal.batches ++ in_flight y.current)) (steps_after m was))
