-- A warm run: what its start leaves, and why it doesn't begin.
use Rattle.std.proofs.Common.{◌≡◌, ◌≢◌, ◌⊎◌, inl, inr, ⊎_elim, ℕ, ◌≤◌, nat_lt, Bool, true, false, List, [], ◌∷◌, refl, sym, ◌∙◌, ap, subst, arith}
use Rattle.std.proofs.lemmas.Bool.{or_parts}
use Rattle.std.proofs.lemmas.Bool.Decides.{nat_tests}
use Rattle.std.proofs.lemmas.List.Elements.{All-weaker}
use Rattle.mas_types.specs.declared.ids.GroupNo.{GroupNo}
use Rattle.mas_types.specs.declared.queues.Thing.TheVariants.{Deck, Output}
use Rattle.mas_types.specs.declared.ids.Dev.{Dev}
use Rattle.mas_types.specs.declared.ids.Dev.TheVariants.{Ckpt1, Ckpt2, Spool}
use Rattle.mas_types.specs.declared.ids.Page.{Page}
use Rattle.mas_types.specs.declared.answers.Status.{Status}
use Rattle.mas_types.specs.declared.answers.Status.TheVariants as status
use Rattle.mas_types.specs.declared.queues.Config.{Config}
use Rattle.mas_types.specs.declared.queues.Queue.{Queue}
use Rattle.mas_types.specs.Starts.{no_queue}
use Rattle.ckpt_form.specs.Form.{form_reads, form_needs, form_room}
use Rattle.ckpt_copy.specs.Pages.{bytes_of, level}
use Rattle.ckpt_tables.specs.declared.tables.Tables.{Tables}
use Rattle.ckpt_pages.specs.Checkpoints.{IsCheckpoint}
use Rattle.ckpt_pages.specs.Given.{levels_given}
use Rattle.ckpt_pages.proofs.GivenLevels.{their_levels}
use Rattle.spool_plant.specs.declared.plant.Part.TheVariants.{Console, Disk as DiskPart}
use Rattle.spool_plant.specs.View.{View, World, disk_now}
use Rattle.spool_plant.specs.Acts.{Goes}
use Rattle.queue_telling.specs.Telling.{Tell}
use Rattle.mas_complex.specs.Texts.{HasTexts, IsThereUnless, lies_on, lost_now, spools_at}
use Rattle.spool_volumes.specs.Volumes.{volume_of}
use Rattle.track_groups.specs.Places.{groups_of}
use Rattle.start_choice.specs.declared.choosing.StartNo.{StartNo}
use Rattle.start_choice.specs.declared.choosing.StartNo.TheVariants as no_start
use Rattle.warm_start.specs.Starting.{HasGone, HeldBack, IsCauseOf, Mark, Starts, LosesBoth, IsOnce, IsHeld, WhileStarting}
use Rattle.start_choice.specs.Usable.{AreOf, HaveSize}
use Rattle.member_node.specs.Calls.{Grows, console_now}
use Rattle.member_node.specs.Drawn.{AreDrawn}
use Rattle.member_node.proofs.DrawnLemmas.{drawn_level}
use Rattle.run_opening.specs.Lines.{Proceeds}
use Rattle.run_opening.specs.Runs.{has_begun, AreSidesKept, Begins, LosesFirst, IsHeldUntil, as_found}
use Rattle.run_opening.specs.Volumes.{AreVolumesKept}
use Rattle.run_opening.specs.Statuses.{IsCaused, IsCausedFrom, LeavesLost, is_of_play, is_of_text}
use Rattle.run_opening.specs.Unstarted.{status_of_start, IsNotStarted}
use Rattle.run_opening.proofs.LossLemmas.{lost_after, lost_before}
use Rattle.run_opening.proofs.ProceedLemmas.{proceeds_of}
use Rattle.run_opening.proofs.OpeningLemmas.{ever_lost, lost_ever}

-- WHAT IS FOUND

-- the pages found are drawn from their tables
pub found_drawn : (pages : List Page) (t : Tables) (levels : List ℕ) (at : ℕ) → AreOf pages t → HaveSize pages → levels ≡ levels_given pages → at ≡ level (bytes_of pages) → AreDrawn t at levels pages
found_drawn pages t levels at are sized leveled is =
    let c : IsCheckpoint pages t = are.0 in
    let drawn : AreDrawn t c.level c.levels pages = record { spelling = c.fit; leveled = c.ages; spelled = c.spell; sized = sized } in
    let same : at ≡ c.level = is ∙ drawn_level t c.level c.levels pages drawn in
    let lists : levels ≡ c.levels = leveled ∙ their_levels pages t c in
    subst (λ (n : ℕ). AreDrawn t n levels pages) (sym same) (subst (λ (ls : List ℕ). AreDrawn t c.level ls pages) (sym lists) drawn)

-- the queue that a copy's pages stand for has members
pub found_begun : (pages : List Page) (t : Tables) (base : Queue) → AreOf pages t → Tell t base → has_begun base ≡ true
found_begun pages t base are told = ap (λ (c : Config). nat_lt 0 c.members) told.config ∙ some t.config.members are.0.fit.shape.config.members.0 where
  some : (n : ℕ) → 1 ≤ n → nat_lt 0 n ≡ true
  some n le = grind (arith, nat_tests)

-- THE STATUS OF A RUN THAT DIDN'T BEGIN

pub not_source : (why : StartNo) → status_of_start why ≡ status.SourceFault → ⊥
not_source (no_start.NotFormatted first second) e = absurd (cc)
not_source no_start.BothLost e = absurd (cc)
not_source (no_start.DeviceSize dev size) e = absurd (cc)
not_source no_start.NoMemory e = absurd (cc)

pub not_text : (why : StartNo) → is_of_text (status_of_start why) ≡ false
not_text (no_start.NotFormatted first second) = refl
not_text no_start.BothLost = refl
not_text (no_start.DeviceSize dev size) = refl
not_text no_start.NoMemory = refl

pub play_not_text : (answer : Status) → is_of_play answer ≡ true → is_of_text answer ≡ false
play_not_text status.Done e = refl
play_not_text status.NoMemory e = refl
play_not_text status.BothLost e = refl
play_not_text status.ConsoleFault e = refl
play_not_text status.SourceFault e = refl
play_not_text status.Words e = absurd (cc)
play_not_text (status.BadLine line cause) e = absurd (cc)
play_not_text status.TooLong e = absurd (cc)
play_not_text (status.NotFormatted first second) e = refl
play_not_text (status.DeviceSize dev size) e = refl

pub play_not_source : (answer : Status) → is_of_play answer ≡ true → answer ≡ status.SourceFault → ⊥
play_not_source answer e is = no (sym (ap is_of_play is) ∙ e) where
  no : false ≡ true → ⊥
  no e = absurd (cc)

pub play_begins : (answer : Status) (base : Queue) → is_of_play answer ≡ true → has_begun base ≡ true → Begins answer base
play_begins status.Done base e begun = begun
play_begins status.NoMemory base e begun = tt
play_begins status.BothLost base e begun = tt
play_begins status.ConsoleFault base e begun = begun
play_begins status.SourceFault base e begun = absurd (cc)
play_begins status.Words base e begun = absurd (cc)
play_begins (status.BadLine line cause) base e begun = absurd (cc)
play_begins status.TooLong base e begun = absurd (cc)
play_begins (status.NotFormatted first second) base e begun = absurd (cc)
play_begins (status.DeviceSize dev size) base e begun = absurd (cc)

pub not_begun : (why : StartNo) (base : Queue) → base ≡ no_queue → Begins (status_of_start why) base
not_begun (no_start.NotFormatted first second) base is = ap has_begun is
not_begun no_start.BothLost base is = tt
not_begun (no_start.DeviceSize dev size) base is = ap has_begun is
not_begun no_start.NoMemory base is = tt

pub why_not_lost : (why : StartNo) → (why ≡ no_start.BothLost) ⊎ (why ≢ no_start.BothLost)
why_not_lost (no_start.NotFormatted first second) = inr (λ e. absurd (cc))
why_not_lost no_start.BothLost = inl refl
why_not_lost (no_start.DeviceSize dev size) = inr (λ e. absurd (cc))
why_not_lost no_start.NoMemory = inr (λ e. absurd (cc))

pub not_started : (tells : Type 0) (why : StartNo) (old new : View) → ((alive1 alive2 : Bool) × IsCauseOf form_reads tells form_needs old new alive1 alive2 why) → (why ≡ no_start.BothLost → LosesBoth old new) → (tells → HeldBack form_reads form_room old new) → IsNotStarted tells (status_of_start why) old new
not_started tells (no_start.NotFormatted first second) old new cause lost held = record { alive1 = cause.0; alive2 = cause.1; cause = cause.2 }
not_started tells no_start.BothLost old new cause lost held = (lost refl, held)
not_started tells (no_start.DeviceSize dev size) old new cause lost held = record { alive1 = cause.0; alive2 = cause.1; cause = cause.2 }
not_started tells no_start.NoMemory old new cause lost held = tt

-- nothing is said by a start that gave nothing, no byte of a volume changes, and nothing is printed
pub held_whole : (old new : View) → HeldBack form_reads form_room old new → (console_now new ≡ console_now old) × AreVolumesKept old new × AreSidesKept old new
held_whole old new (inl x) = (x.0.console new.now x.0.goes.later (omega arith), x.0.volumes, x.0.sides new.now x.0.goes.later (omega arith))
held_whole old new (inr x) = (x.1.held.console new.now x.1.held.goes.later (omega arith), x.1.held.volumes, x.1.held.sides new.now x.1.held.goes.later (omega arith))

pub start_caused : (why : StartNo) (old new : View) → (why ≡ no_start.BothLost → LosesBoth old new) → IsCaused (status_of_start why) old new
start_caused (no_start.NotFormatted first second) old new lost = record { failed1 = λ e. absurd (cc); failed2 = λ e. absurd (cc); console = λ e. absurd (cc) }
start_caused no_start.BothLost old new lost = let s = (lost refl).starts in record { failed1 = λ e. s.taken1 refl; failed2 = λ e. s.taken2 refl; console = λ e. absurd (cc) }
start_caused (no_start.DeviceSize dev size) old new lost = record { failed1 = λ e. absurd (cc); failed2 = λ e. absurd (cc); console = λ e. absurd (cc) }
start_caused no_start.NoMemory old new lost = record { failed1 = λ e. absurd (cc); failed2 = λ e. absurd (cc); console = λ e. absurd (cc) }

-- what such a start leaves lost
pub start_leaves : (why : StartNo) (old new : View) → Goes old new → (why ≡ no_start.BothLost → LosesBoth old new) → LeavesLost (status_of_start why) old new
start_leaves (no_start.NotFormatted first second) old new goes lost = record { stays = goes.lost; both = λ e. absurd (cc) }
start_leaves no_start.BothLost old new goes lost = let s = (lost refl).starts in record { stays = goes.lost; both = λ e. (s.lost1 refl, s.lost2 refl) }
start_leaves (no_start.DeviceSize dev size) old new goes lost = record { stays = goes.lost; both = λ e. absurd (cc) }
start_leaves no_start.NoMemory old new goes lost = record { stays = goes.lost; both = λ e. absurd (cc) }

-- A RUN THAT BEGAN

once_grows : (dev : Dev) (is : Bool) (old new : View) → IsOnce dev is old new → Grows (old.loses dev) (new.loses dev)
once_grows dev is old new once = ⊎_elim inl (λ x. inr (omega (arith, x.1))) once

pub starts_grow : (a b : Bool) (old new : View) → Starts a b old new → (d : Dev) → Grows (old.loses d) (new.loses d)
starts_grow a b old new s Ckpt1 = once_grows Ckpt1 a old new s.once1
starts_grow a b old new s Ckpt2 = once_grows Ckpt2 b old new s.once2
starts_grow a b old new s (Spool n) = inl (s.else_once (Spool n) (λ e. absurd (cc)) (λ e. absurd (cc)))

pub starts_first : (a b : Bool) (old new : View) → Starts a b old new → (d : Dev) → LosesFirst false d (old.loses d) (new.loses d)
starts_first a b old new s Ckpt1 = ⊎_elim inl (λ x. inr x.1) s.once1
starts_first a b old new s Ckpt2 = ⊎_elim inl (λ x. inr x.1) s.once2
starts_first a b old new s (Spool n) = s.else_once (Spool n) (λ e. absurd (cc)) (λ e. absurd (cc))

by_alive : {A : Type 0} (x : Bool) → (x ≡ true → A) → (x ≡ false → A) → A
by_alive true f g = f refl
by_alive false f g = g refl

pub start_causes : (a b : Bool) (answer : Status) (v0 v1 v2 : View) → Starts a b v0 v1 → Proceeds v1 v2 → ((d : Dev) → Grows (v1.loses d) (v2.loses d)) → IsCausedFrom a b answer v1 v2 → IsCaused answer v0 v2
start_causes a b answer v0 v1 v2 s goes grow caused = record {
  failed1 = λ e. by_alive a (λ is. lost_after Ckpt1 v0 v1 v2 (proceeds_of v0 v1 s.goes) (starts_grow a b v0 v1 s Ckpt1) (caused.failed1 e is)) (λ not. lost_before Ckpt1 v0 v1 v2 (s.taken1 not) goes (grow Ckpt1));
  failed2 = λ e. by_alive b (λ is. lost_after Ckpt2 v0 v1 v2 (proceeds_of v0 v1 s.goes) (starts_grow a b v0 v1 s Ckpt2) (caused.failed2 e is)) (λ not. lost_before Ckpt2 v0 v1 v2 (s.taken2 not) goes (grow Ckpt2));
  console = λ e. omega (arith, s.goes.faults Console, caused.console e);
}

pub no : (base : Queue) → has_begun base ≡ true → has_begun base ≡ false → ⊥
no base p q = cc

-- a copy that had gone when a start ended has gone when the run has ended
pub gone_on : (dev : Dev) (old mid new : View) (mark : Mark) → mark.at ≤ mid.now → Proceeds mid new → HasGone dev old mid mark → HasGone dev old (as_found (lost_ever mid new) new) mark
gone_on dev old mid new mark before goes x = record {
  failed = omega (arith, x.failed, goes.faults (DiskPart dev));
  is_lost = ever_lost mid new goes (DiskPart dev) x.is_lost;
  uncalled = x.uncalled;
  gone = λ lt. ap (λ (w : World). (w.disk dev).lost) (goes.past mark.at before) ∙ x.gone lt;
}

-- what an image was during the start, it was when the run has ended
pub held_until : (v0 v1 v2 : View) (found : List ℕ) → Proceeds v1 v2 → WhileStarting (IsHeld form_reads (disk_now v0 Ckpt1) found) (IsHeld form_reads (disk_now v0 Ckpt2) found) v0 v1 → IsHeldUntil v1.now found v0 v2
held_until v0 v1 v2 found goes held = record {
  first = λ t from le. subst (λ (w : World). IsHeld form_reads (disk_now v0 Ckpt1) found (w.disk Ckpt1)) (sym (goes.past t le)) (held.first t from le);
  second = λ t from le. subst (λ (w : World). IsHeld form_reads (disk_now v0 Ckpt2) found (w.disk Ckpt2)) (sym (goes.past t le)) (held.second t from le);
}

-- texts that stood on the volumes at a moment still stood there then, except those with a group on a volume that is
-- lost since
lost_more_of : (gone later : ℕ → Bool) → ((n : ℕ) → gone n ≡ true → later n ≡ true) → (per : ℕ) (groups : List GroupNo) → lies_on later per groups ≡ false → lies_on gone per groups ≡ false
lost_more_of gone later more per [] none = refl
lost_more_of gone later more per (g ∷ groups) none =
    let parts = or_parts (later (volume_of per g)) (lies_on later per groups) none in
    rw (not_gone (gone (volume_of per g)) (later (volume_of per g)) (more (volume_of per g)) parts.0) (lost_more_of gone later more per groups parts.1)
  where
    not_gone : (a b : Bool) → (a ≡ true → b ≡ true) → b ≡ false → a ≡ false
    not_gone true b to no = absurd (let e = to refl in cc)
    not_gone false b to no = refl

pub texts_later : (v1 v2 : View) (per : ℕ) (Q : Queue) → Proceeds v1 v2 → HasTexts (lost_now v1) (spools_at v1 v1.now) per Q → HasTexts (lost_now v2) (spools_at v2 v1.now) per Q
texts_later v1 v2 per Q goes has = subst (λ (w : World). HasTexts (lost_now v2) (λ n. w.disk (Spool n)) per Q) (sym (goes.past v1.now (omega arith)))
    (record {
      decks = All-weaker (λ j. IsThereUnless (lost_now v1) (spools_at v1 v1.now) per j.text (groups_of (Deck j.number) Q.owners)) (λ j. IsThereUnless (lost_now v2) (spools_at v1 v1.now) per j.text (groups_of (Deck j.number) Q.owners))
          (λ j is none. is (lost_more_of (lost_now v1) (lost_now v2) (λ n. goes.lost (DiskPart (Spool n)) refl) per (groups_of (Deck j.number) Q.owners) none)) Q.jobs has.decks;
      outputs = All-weaker (λ o. IsThereUnless (lost_now v1) (spools_at v1 v1.now) per o.text (groups_of (Output o.job o.index) Q.owners)) (λ o. IsThereUnless (lost_now v2) (spools_at v1 v1.now) per o.text (groups_of (Output o.job o.index) Q.owners))
          (λ o is none. is (lost_more_of (lost_now v1) (lost_now v2) (λ n. goes.lost (DiskPart (Spool n)) refl) per (groups_of (Output o.job o.index) Q.owners) none)) Q.outputs has.outputs;
    })
