-- A run that ended before its lines.
use Rattle.std.proofs.Common.{◌≡◌, ◌≢◌, ◌⊎◌, inl, inr, ⊎_elim, ℕ, Bool, true, false, Option, Some, None, Err, refl, sym, ◌∙◌, ap, subst, arith}
use Rattle.mas_types.specs.declared.answers.CopyState.{CopyState}
use Rattle.mas_types.specs.declared.answers.Status.{Status}
use Rattle.mas_types.specs.declared.answers.Status.TheVariants as status
use Rattle.mas_types.specs.declared.ids.Dev.{Dev}
use Rattle.mas_types.specs.declared.journals.Journal.{Journal}
use Rattle.mas_types.specs.declared.queues.Queue.{Queue}
use Rattle.mas_types.specs.Lists.{first_some}
use Rattle.script_lang.specs.declared.types.Script.{Script}
use Rattle.spool_plant.specs.Acts.{Goes}
use Rattle.spool_plant.specs.View.{View}
use Rattle.ckpt_copy.specs.Meanwhile.{SameSides}
use Rattle.ckpt_copy.specs.Moments.{sides_none}
use Rattle.ckpt_form.specs.Form.{form_reads, form_needs, form_room}
use Rattle.duplex_pair.specs.declared.errors.PairNo.{PairNo}
use Rattle.duplex_pair.specs.declared.errors.PairNo.TheVariants as pair_no
use Rattle.duplex_pair.specs.Both.{PairActed}
use Rattle.duplex_pair.specs.Halves.{IsBothLost}
use Rattle.duplex_pair.specs.Outcomes.{pair_stopped}
use Rattle.member_node.specs.Calls.{console_now}
use Rattle.start_choice.specs.declared.choosing.StartNo.{StartNo}
use Rattle.start_choice.specs.declared.choosing.StartNo.TheVariants as no_start
use Rattle.warm_start.specs.Starting.{HeldBack, IsCauseOf, LosesBoth, OnlyLookedAtAll}
use Rattle.run_opening.specs.Lines.{Proceeds}
use Rattle.run_opening.specs.Openings.{EndsFirst, HasNoLines}
use Rattle.run_opening.specs.Refusals.{refused_devices, Answers, IsDeviceSize, IsTooSmall, is_refusal}
use Rattle.run_opening.specs.Runs.{has_begun, AreSidesKept, Begins, IsUnbegun}
use Rattle.run_opening.specs.Statuses.{IsCaused, LeavesLost, is_of_text}
use Rattle.run_opening.specs.Unstarted.{status_of_start}
use Rattle.run_opening.specs.Volumes.{AreVolumesKept}
use Rattle.run_opening.proofs.OpeningLemmas.{caused_unformed, formed_lost}
use Rattle.run_opening.proofs.ProceedLemmas.{proceeds_none, proceeds_of}
use Rattle.run_opening.proofs.RefusalLemmas.{free_answer, warm_free}
use Rattle.run_opening.proofs.VolumeLemmas.{kept_none}
use Rattle.run_opening.proofs.WarmLemmas.{held_whole, no, not_begun, not_source, not_started, not_text, start_caused, start_leaves, why_not_lost}

-- a run that hasn't begun has no members
pub unbegun_not : (base : Queue) (J : Journal) (since now : ℕ) → IsUnbegun base J since now → has_begun base ≡ true → ⊥
unbegun_not base J since now un begun = no base begun (ap has_begun un.queue)

not_done : (why : StartNo) → status_of_start why ≡ status.Done → ⊥
not_done (no_start.NotFormatted first second) e = absurd (cc)
not_done no_start.BothLost e = absurd (cc)
not_done (no_start.DeviceSize dev size) e = absurd (cc)
not_done no_start.NoMemory e = absurd (cc)

-- a run that has begun doesn't end with a refusal
pub begins_free : (answer : Status) (base : Queue) → has_begun base ≡ true → Begins answer base → is_of_text answer ≡ false → is_refusal true answer ≡ false
begins_free status.Done base has begins text = refl
begins_free status.NoMemory base has begins text = refl
begins_free status.BothLost base has begins text = refl
begins_free status.ConsoleFault base has begins text = refl
begins_free status.SourceFault base has begins text = refl
begins_free (status.NotFormatted first second) base has begins text = absurd (no base has begins)
begins_free (status.DeviceSize dev size) base has begins text = absurd (no base has begins)
begins_free status.Words base has begins text = absurd (cc)
begins_free (status.BadLine line cause) base has begins text = absurd (cc)
begins_free status.TooLong base has begins text = absurd (cc)

-- A WARM RUN that found no queue

pub unstarted_ends : (tells same : Type 0) (script : Script) (why : StartNo) (base : Queue) (J : Journal) (since : ℕ) (old new : View) → IsUnbegun base J since new.now
    → ((alive1 alive2 : Bool) × IsCauseOf form_reads tells form_needs old new alive1 alive2 why)
    → (why ≢ no_start.BothLost → (tells → OnlyLookedAtAll old new) × ((d : Dev) → new.loses d ≡ old.loses d))
    → (why ≡ no_start.BothLost → LosesBoth old new) → Goes old new → (tells → HeldBack form_reads form_room old new)
    → EndsFirst false tells same script (status_of_start why) base J since old new
unstarted_ends tells same script why base J since old new un cause looked lost goes held = record {
  refused = warm_free (status_of_start why) (not_text why);
  device = λ cold dev size is. absurd (cc);
  no_source = not_source why;
  no_text = not_text why;
  not_done = not_done why;
  formatted = λ cold first second is. absurd (cc);
  unstarted = λ warm none. not_started tells why old new cause lost held;
  cause = start_caused why old new lost;
  begun = not_begun why base un.queue;
  unbegun = λ none. un;
  untouched = λ none. ⊎_elim (λ e. inl (ap status_of_start e)) (λ ne. inr (inr (refl, (looked ne).0))) (why_not_lost why);
  unsaid = λ t none. (held_whole old new (held t)).0;
  unprinted = λ t none. (held_whole old new (held t)).2;
  goes = proceeds_of old new goes;
  arms = λ none m. goes.arms m;
  loses = λ none other d. ⊎_elim (λ e. absurd (⊎_elim (λ ne. ne (ap status_of_start e)) (λ cold. absurd (cc)) other)) (λ ne. (looked ne).1 d) (why_not_lost why);
  lost = λ none. start_leaves why old new goes lost;
  volumes = λ t none. (held_whole old new (held t)).1;
  room = λ begun. absurd (unbegun_not base J since new.now un begun);
  roomy = λ begun. absurd (unbegun_not base J since new.now un begun);
  none = λ begun. absurd (unbegun_not base J since new.now un begun);
}

-- A COLD RUN that made no act

module _ (tells same : Type 0) (script : Script) (base : Queue) (J : Journal) (since : ℕ) (v : View) (is : same) (un : IsUnbegun base J since v.now) where
  still : (answer : Status) → Answers true (first_some (refused_devices script.config v)) answer → ((dev : Dev) (size : ℕ) → answer ≡ status.DeviceSize dev size → IsTooSmall script.config dev size v)
      → is_of_text answer ≡ false → answer ≢ status.SourceFault → answer ≢ status.Done → answer ≢ status.BothLost → answer ≢ status.ConsoleFault
      → ((first second : CopyState) → answer ≢ status.NotFormatted first second) → Begins answer base → EndsFirst true tells same script answer base J since v v
  still answer refused device no_text no_source not_done not_lost not_failed formatted begins = record {
    refused = refused;
    device = λ cold. device;
    no_source = no_source;
    no_text = no_text;
    not_done = not_done;
    formatted = λ cold. formatted;
    unstarted = λ warm none. absurd (cc);
    cause = record { failed1 = λ e. absurd (not_lost e); failed2 = λ e. absurd (not_lost e); console = λ e. absurd (not_failed e) };
    begun = begins;
    unbegun = λ none. un;
    untouched = λ none. inr (inl is);
    unsaid = λ t none. refl;
    unprinted = λ t none. sides_none (v.world v.now);
    goes = proceeds_none v;
    arms = λ none m. refl;
    loses = λ none other d. refl;
    lost = λ none. record { stays = λ p e. e; both = λ e. absurd (not_lost e) };
    volumes = λ t none. kept_none v;
    room = λ begun. absurd (unbegun_not base J since v.now un begun);
    roomy = λ begun. absurd (unbegun_not base J since v.now un begun);
    none = λ begun. absurd (unbegun_not base J since v.now un begun);
  }

  -- out of memory
  pub short_ends : EndsFirst true tells same script status.NoMemory base J since v v
  short_ends = still status.NoMemory (free_answer true (first_some (refused_devices script.config v)) status.NoMemory (inr refl)) (λ dev size e. absurd (cc)) refl
      (λ e. absurd (cc)) (λ e. absurd (cc)) (λ e. absurd (cc)) (λ e. absurd (cc)) (λ first second e. absurd (cc)) tt

  -- a device was too small
  pub small_ends : (answer : Status) → IsDeviceSize script.config answer v → first_some (refused_devices script.config v) ≡ Some answer → EndsFirst true tells same script answer base J since v v
  small_ends (status.DeviceSize dev size) small first =
      still (status.DeviceSize dev size) (subst (λ (o : Option Status). Answers true o (status.DeviceSize dev size)) (sym first) (inl refl)) (λ d s e. its d s e) refl
      (λ e. absurd (cc)) (λ e. absurd (cc)) (λ e. absurd (cc)) (λ e. absurd (cc)) (λ one two e. absurd (cc)) (ap has_begun un.queue)
    where
      its : (d : Dev) (s : ℕ) → status.DeviceSize dev size ≡ status.DeviceSize d s → IsTooSmall script.config d s v
      its d s e = subst (λ (answer : Status). IsDeviceSize script.config answer v) e small
  small_ends status.Done small first = absurd small
  small_ends status.Words small first = absurd small
  small_ends (status.BadLine line cause) small first = absurd small
  small_ends status.TooLong small first = absurd small
  small_ends status.SourceFault small first = absurd small
  small_ends (status.NotFormatted one two) small first = absurd small
  small_ends status.BothLost small first = absurd small
  small_ends status.ConsoleFault small first = absurd small
  small_ends status.NoMemory small first = absurd small

-- A COLD RUN that lost both copies in the formatting

pub unformed_ends : (tells same : Type 0) (T : Type 0) (script : Script) (base : Queue) (J : Journal) (since : ℕ) (old new : View) (a b : Bool) (why : PairNo) → IsUnbegun base J since new.now
    → first_some (refused_devices script.config old) ≡ None → PairActed 0 true a true b (pair_stopped {T = T} (Err why)) old new → (why ≡ pair_no.BothLost → IsBothLost a b)
    → (tells → console_now new ≡ console_now old) → (tells → AreSidesKept old new) → (tells → AreVolumesKept old new)
    → EndsFirst true tells same script status.BothLost base J since old new
unformed_ends tells same T script base J since old new a b why un none acted both quiet sides kept = record {
  refused = subst (λ (o : Option Status). Answers true o status.BothLost) (sym none) refl;
  device = λ cold dev size e. absurd (cc);
  no_source = λ e. absurd (cc);
  no_text = refl;
  not_done = λ e. absurd (cc);
  formatted = λ cold first second e. absurd (cc);
  unstarted = λ warm none. absurd (cc);
  cause = caused_unformed T a b why old new acted both;
  begun = tt;
  unbegun = λ none. un;
  untouched = λ none. inl refl;
  unsaid = λ t none. quiet t;
  unprinted = λ t none. sides t;
  goes = proceeds_of old new acted.goes;
  arms = λ none m. acted.goes.arms m;
  loses = λ none other d. acted.loses d;
  lost = λ none. formed_lost T a b why old new acted both;
  volumes = λ t none. kept t;
  room = λ begun. absurd (unbegun_not base J since new.now un begun);
  roomy = λ begun. absurd (unbegun_not base J since new.now un begun);
  none = λ begun. absurd (unbegun_not base J since new.now un begun);
}
