-- A job that came is got once its text stands in its groups, or dropped where Got is refused.
use Rattle.std.proofs.Common.{◌≡◌, ℕ, ◌+◌, ◌*◌, ◌≤◌, Bool, true, false, List, [], ◌∷◌, ◌++◌, length, All, None, Some, Result, refl, sym, ◌∙◌, ap, subst, arith}
use Rattle.std.proofs.lemmas.List.Elements.{All-append, All-cons, All-nil}
use Rattle.mas_types.specs.declared.answers.Closing.TheVariants as closing
use Rattle.mas_types.specs.declared.commands.Command.{Command}
use Rattle.mas_types.specs.declared.commands.Command.TheVariants as command
use Rattle.mas_types.specs.declared.commands.Reply.{Reply}
use Rattle.mas_types.specs.declared.commands.Reply.TheVariants as reply
use Rattle.mas_types.specs.declared.commands.Refusal.{Refusal}
use Rattle.mas_types.specs.declared.ids.GroupNo.{GroupNo}
use Rattle.mas_types.specs.declared.ids.JobNo.{JobNo}
use Rattle.mas_types.specs.declared.ids.MemberId.{MemberId}
use Rattle.mas_types.specs.declared.jobs.Text.{Text}
use Rattle.mas_types.specs.declared.jobs.Text.TheVariants.{Whole}
use Rattle.mas_types.specs.declared.journals.Batch.{Batch}
use Rattle.mas_types.specs.declared.journals.Entry.{Entry}
use Rattle.mas_types.specs.declared.queues.Queue.{Queue}
use Rattle.mas_types.specs.declared.queues.Thing.{Thing}
use Rattle.mas_types.specs.declared.queues.Thing.TheVariants.{Deck}
use Rattle.mas_types.specs.Closings.{IsReplyNamed, reply_lines}
use Rattle.mas_types.specs.Fit.{IsFit}
use Rattle.mas_types.specs.Step as table
use Rattle.queue_laws.specs.Laws.{is_refusal}
use Rattle.queue_laws.specs.Runs.{IsGiven}
use Rattle.queue_telling.specs.Telling.{TellSound}
use Rattle.queue_texts.specs.Entering.{GotBringsText, groups_for}
use Rattle.queue_texts.specs.Leaving.{AreTheirOwn}
use Rattle.queue_texts.proofs.BroughtLemmas.{brought_holds}
use Rattle.paper_laws.specs.Counts.{is_mark}
use Rattle.spool_plant.specs.declared.plant.Plant.{Ghosts as PlantGhosts}
use Rattle.ckpt_copy.specs.declared.copying.Copying.{Ghosts as CopyGhosts}
use Rattle.mas_complex.specs.Paper.{MayBegin}
use Rattle.mas_complex.specs.Parts.{Parts}
use Rattle.mas_complex.specs.Texts.{HasTexts, IsThere, IsThereUnless, Spools}
use Rattle.mas_complex.proofs.Batches.{unmarked_begin}
use Rattle.member_node.specs.declared.member.Member.{Member}
use Rattle.member_node.specs.declared.member.NodeNo.{NodeNo}
use Rattle.member_node.specs.Batches.{HasDone}
use Rattle.member_steps.specs.Steps.{entry_of, entry_with, reply_to}
use Rattle.member_steps.proofs.StepLemmas.{between_done}
use Rattle.member_decks.specs.Decks.{given_in}
use Rattle.member_decks.specs.Steps.{AreOf}
use Rattle.member_decks.proofs.DeckLemmas.{given_of}
use Rattle.step_turns.specs.Serving.{counts_got, kept}
use Rattle.step_turns.specs.Sittings.{sit, sitting_of}
use Rattle.step_turns.specs.declared.states.Holder.{Holder}
use Rattle.step_turns.specs.declared.states.Service.{Service}
use Rattle.step_turns.specs.declared.states.State.{State}
use Rattle.step_turns.specs.declared.states.Aside.TheVariants.{Acknowledge, SpoolArrival, SpoolDeck}
use Rattle.step_turns.specs.declared.states.State.TheVariants.{Away, Fresh, Rested, Told}
use Rattle.step_turns.specs.TurnParts.{Turn}
use Rattle.member_sittings.specs.Asides.{deck_found}
use Rattle.member_sittings.specs.Ends.{deck_end, ends_in}
use Rattle.member_sittings.specs.declared.ends.SittingEnd.{SittingEnd}
use Rattle.member_sittings.specs.Sat.{Sat, resumes}
use Rattle.member_sittings.specs.Shapes.{DeckLines, IsShaped, LineLines, SaysAtEnd}
use Rattle.member_sittings.specs.Whole.{Commanded, HasTextsAfter, IsGiving, IsSitting, queue_of}
use Rattle.member_sittings.proofs.SeatLemmas.{gives_commanded}
use Rattle.member_sittings.proofs.TurnLemmas.{all_of_one, sit_one}
use Rattle.member_giving.specs.Ready.{HasFewer}
use Rattle.member_frames.specs.Waits.{HasFrameMore, IsServable}

-- THE REPLY TO GOT

pub is_refused : (r : Reply) (why : Refusal) → r ≡ reply.No why → is_refusal r ≡ true
is_refused r why is = ap is_refusal is

pub not_refused : (r : Reply) → ((why : Refusal) → r ≡ reply.No why → ⊥) → is_refusal r ≡ false
not_refused reply.Plain other = refl
not_refused (reply.Job n) other = refl
not_refused (reply.Output n i) other = refl
not_refused (reply.Count n) other = refl
not_refused (reply.Shown lines) other = refl
not_refused (reply.No why) other = absurd (other why refl)

-- WHAT THE MACHINE OF STEPS GIVES

module _ (Q : Queue) (h : Holder) (number : ℕ) (n : JobNo) (text : List (List ℕ)) (s : Service) where
  abbrev pub GotOf : Command
  GotOf = command.Got s.line number n text

  abbrev Waited : State
  Waited = Away (SpoolArrival number n text s)

  -- by whether Got is refused
  abbrev KeptTurn : Bool → Turn
  KeptTurn b = kept h.by h.step b GotOf number n s Q

  pub arrival_got : is_refusal (reply_to Q h.by GotOf) ≡ false → sit Q h Waited (deck_found None) ≡ ends_in h ((entry_of Q h.by h.step GotOf ∷ []) ∷ []) (Away (Acknowledge (Some number) (counts_got s))) []
  arrival_got got = ap (λ (b : Bool). sitting_of h (KeptTurn b)) got ∙ sit_one h (KeptTurn false) (given_in Q h.by h.step (GotOf ∷ [])) refl (omega arith)

  pub arrival_refused : is_refusal (reply_to Q h.by GotOf) ≡ true
      → sit Q h Waited (deck_found None) ≡ ends_in h (given_in Q h.by h.step (GotOf ∷ command.Drop n ∷ []) ∷ []) Told (reply_lines h.by h.step (reply_to Q h.by GotOf))
  arrival_refused not = ap (λ (b : Bool). sitting_of h (KeptTurn b)) not ∙ sit_one h (KeptTurn true) (given_in Q h.by h.step (GotOf ∷ command.Drop n ∷ [])) refl (omega arith)

  -- the step closes with the reply to Got
  pub drop_closes : deck_end h (given_in Q h.by h.step (GotOf ∷ command.Drop n ∷ [])) None ≡ ends_in h (given_in Q h.by h.step (GotOf ∷ command.Drop n ∷ []) ∷ []) Told (reply_lines h.by h.step (reply_to Q h.by GotOf))
  drop_closes = refl

  kept_of : (b : Bool) → All (AreOf h.by h.step) (sitting_of h (KeptTurn b)).batches
  kept_of true = all_of_one h.by h.step (given_in Q h.by h.step (GotOf ∷ command.Drop n ∷ [])) (given_of h.by h.step (GotOf ∷ command.Drop n ∷ []) Q)
  kept_of false = all_of_one h.by h.step (given_in Q h.by h.step (GotOf ∷ [])) (given_of h.by h.step (GotOf ∷ []) Q)

  kept_shaped : (b : Bool) → IsShaped h Waited (deck_found None) (sitting_of h (KeptTurn b))
  kept_shaped true = record { few = omega arith; says = (refl, (closing.Reply (reply_to Q h.by GotOf), refl, tt)); release = refl }
  kept_shaped false = record { few = omega arith; says = (refl, refl); release = refl }

  pub got_of : All (AreOf h.by h.step) (sit Q h Waited (deck_found None)).batches
  got_of = kept_of (is_refusal (reply_to Q h.by GotOf))

  pub got_shaped : IsShaped h Waited (deck_found None) (sit Q h Waited (deck_found None))
  got_shaped = kept_shaped (is_refusal (reply_to Q h.by GotOf))

-- the shape of a sitting of one batch, whatever this has
module _ (h : Holder) (number : ℕ) (n : JobNo) (text : List (List ℕ)) (s : Service) (es : List Entry) where
  pub told_shaped : (r : Reply) → IsShaped h (Away (SpoolArrival number n text s)) (deck_found None) (ends_in h (es ∷ []) Told (reply_lines h.by h.step r))
  told_shaped r = record { few = omega arith; says = (refl, (closing.Reply r, refl, tt)); release = refl }

  pub away_shaped : IsShaped h (Away (SpoolArrival number n text s)) (deck_found None) (ends_in h (es ∷ []) (Away (Acknowledge (Some number) (counts_got s))) [])
  away_shaped = record { few = omega arith; says = (refl, refl); release = refl }

-- A VOLUME WAS FOUND LOST: the step ends as a deck's

lost_says : (h : Holder) (v : ℕ) (next : State) (lines : List (List ℕ)) → SaysAtEnd next (DeckLines h (Some v)) lines → SaysAtEnd next (LineLines h) lines
lost_says h v Told lines says = (closing.SpoolLost v, says.1, tt)
lost_says h v (Fresh task) lines says = says
lost_says h v (Away aside) lines says = says
lost_says h v (Rested p) lines says = says

pub lost_sat : {P C : Type 0} (plants : PlantGhosts P) (x y : Parts P C) (h : Holder) (number : ℕ) (n : JobNo) (text : List (List ℕ)) (s : Service) (v : ℕ) (r : Result SittingEnd NodeNo) → Sat plants (resumes h (SpoolDeck n text) (deck_found (Some v))) x y r
    → Sat plants (resumes h (SpoolArrival number n text s) (deck_found (Some v))) x y r
lost_sat plants x y h number n text s v r t =
    let few = t.shaped.few in
    record {
      sitting = t.sitting;
      is = t.is;
      of = t.of;
      shaped = record { few = omega (arith, few); says = (t.shaped.says.0, lost_says h v t.sitting.next t.sitting.lines t.shaped.says.1); release = t.shaped.release };
      sat = t.sat;
      tight = tt;
    }

-- THE STATE THAT IT LEAVES

pub got_servable : (s : Service) → IsServable s → HasFrameMore s → IsServable (counts_got s)
got_servable s is more = record { line = is.line; frames = is.frames; few = omega (arith, more) }

pub got_fewer : (number : ℕ) (s : Service) → HasFewer (2 * length s.frames + 2) (2 * length s.frames + 1) (Away (Acknowledge (Some number) (counts_got s)))
got_fewer number s = record { falls = omega arith; few = omega arith }

-- TEXTS

-- after Got, refused or not, each text stands, the one that came too
pub got_texts : (gone : ℕ → Bool) (disks : Spools) (per : ℕ) (Q : Queue) (m : MemberId) → AreTheirOwn Q → HasTexts gone disks per Q → GotBringsText → (l number : ℕ) (n : JobNo) (text : List (List ℕ)) → IsThere disks per (Whole text) (groups_for Q m text)
    → HasTexts gone disks per (table.step Q m (command.Got l number n text)).0
got_texts gone disks per Q m own has law l number n text there =
    let after = brought_holds (λ (thing : Thing) (t : Text) (groups : List GroupNo). IsThereUnless gone disks per t groups) Q (record { decks = has.decks; outputs = has.outputs }) (Deck n) text (groups_for Q m text) (λ none. there) (table.step Q m (command.Got l number n text)).0
    (law Q m l number n text own) in
    record { decks = after.decks; outputs = after.outputs }

-- TWO COMMANDS

pub two_entries : (was mid is : List Entry) (e f : Entry) → mid ≡ was ++ e ∷ [] → is ≡ mid ++ f ∷ [] → was ≡ [] → is ≡ e ∷ f ∷ []
two_entries was mid is e f one two none = two ∙ ap (λ (l : List Entry). l ++ f ∷ []) (one ∙ ap (λ (l : List Entry). l ++ e ∷ []) none)

pub two_of : (by : MemberId) (at : ℕ) (es : List Entry) (e f : Entry) → es ≡ e ∷ f ∷ [] → (e.by ≡ by) × (e.step ≡ at) → (f.by ≡ by) × (f.step ≡ at) → AreOf by at es
two_of by at es e f is one two =
    let P = λ (k : Entry). (k.by ≡ by) × (k.step ≡ at) in
    subst (All P) (sym is) (All-cons P e (f ∷ []) one (All-cons P f [] two (All-nil P)))

pub of_more : (by : MemberId) (at : ℕ) (es : List Entry) (f : Entry) → AreOf by at es → (f.by ≡ by) × (f.step ≡ at) → AreOf by at (es ++ f ∷ [])
of_more by at es f of one =
    let P = λ (k : Entry). (k.by ≡ by) × (k.step ≡ at) in
    All-append P es (f ∷ []) of (All-cons P f [] one (All-nil P))

pub two_named : (es : List Entry) (e f : Entry) → es ≡ e ∷ f ∷ [] → IsReplyNamed e.reply → IsReplyNamed f.reply → All (λ (k : Entry). IsReplyNamed k.reply) es
two_named es e f is one two =
    let P = λ (k : Entry). IsReplyNamed k.reply in
    subst (All P) (sym is) (All-cons P e (f ∷ []) one (All-cons P f [] two (All-nil P)))

-- none of which is a Mark
two_begin : (base : Queue) (js : List Batch) (printed : List ℕ) (m : MemberId) (at : ℕ) (c d : Command) (p q : Reply) (es : List Entry) → es ≡ entry_with m at c p ∷ entry_with m at d q ∷ [] → table.may_give base m c ≡ true → table.may_give base m d ≡ true
    → IsFit c → IsFit d → is_mark c ≡ false → is_mark d ≡ false → MayBegin base js printed es
two_begin base js printed m at c d p q es is may may2 fit fit2 plain plain2 =
    let e : Entry = entry_with m at c p in
    let f : Entry = entry_with m at d q in
    let M = λ (k : Entry). is_mark k.command ≡ false in
    subst (λ (l : List Entry). MayBegin base js printed l) (sym is)
    (unmarked_begin base js printed (e ∷ f ∷ [])
    (All-cons (IsGiven base) e (f ∷ []) (record { by = may; fit = fit }) (All-cons (IsGiven base) f [] (record { by = may2; fit = fit2 }) (All-nil (IsGiven base))))
    (All-cons M e (f ∷ []) plain (All-cons M f [] plain2 (All-nil M))))

module _ {P C : Type 0} (plants : PlantGhosts P) (copies : CopyGhosts C) where
  pub gives_two : (x : Parts P C) (m n : Member) → Commanded m n → (at : ℕ) → IsSitting plants copies x m at → (c d : Command) (p q : Reply) → n.batch ≡ entry_with m.id at c p ∷ entry_with m.id at d q ∷ []
      → table.may_give x.base m.id c ≡ true → table.may_give x.base m.id d ≡ true → IsFit c → IsFit d → is_mark c ≡ false → is_mark d ≡ false → n.checkpoint.tables.order ≤ m.checkpoint.tables.order + 64
      → ((Q : Queue) → HasDone Q m.batch m.checkpoint → HasDone Q n.batch n.checkpoint) → (plants.tells → TellSound n.checkpoint.tables) → HasTextsAfter plants copies x n.batch → IsGiving plants copies x n at
  gives_two x m n did at s c d p q batch may may2 fit fit2 plain plain2 order done sound texts =
      gives_commanded plants copies x m n did at s (two_of m.id at n.batch (entry_with m.id at c p) (entry_with m.id at d q) batch (refl, refl) (refl, refl)) (omega (arith, order))
      (λ t. done (queue_of x) (between_done plants.tells x m.batch m.checkpoint s.seat.between t))
      sound texts (λ t. two_begin x.base x.batches x.printed m.id at c d p q n.batch batch may may2 fit fit2 plain plain2)
