-- A step that is cut into sittings gives what it gives as a whole.
use Rattle.std.proofs.Common.{◌≡◌, ℕ, ◌*◌, Bool, true, false, if◌then◌else◌, List, [], ◌∷◌, ◌++◌, append-nil, Option, Some, None, refl, sym, ap, ◌∙◌, add-one, arith}
use Rattle.std.proofs.lemmas.List.{reverse-append}
use Rattle.std.specs.List.{find}
use Rattle.mas_types.specs.declared.commands.Command.TheVariants as command
use Rattle.mas_types.specs.declared.commands.Reply.{Reply}
use Rattle.mas_types.specs.declared.commands.Reply.TheVariants as reply
use Rattle.mas_types.specs.declared.ids.JobNo.{JobNo}
use Rattle.mas_types.specs.declared.ids.MemberId.{MemberId}
use Rattle.mas_types.specs.declared.jobs.JobFields.{JobFields}
use Rattle.mas_types.specs.declared.journals.Entry.{Entry}
use Rattle.mas_types.specs.declared.queues.Queue.{Queue}
use Rattle.mas_types.specs.Closings.{reply_lines}
use Rattle.mas_types.specs.Owners.{groups_needed}
use Rattle.mas_types.specs.Run.{run}
use Rattle.mas_types.specs.Step.{step}
use Rattle.member_steps.specs.Steps.{step_lines}
use Rattle.member_decks.specs.declared.opening.Opened.{Opened}
use Rattle.member_decks.specs.declared.opening.Opened.TheVariants.{Closed, Ready}
use Rattle.member_decks.specs.Decks.{batches_behind, ends_as, ends_begun}
use Rattle.member_work.specs.Looks.{Look}
use Rattle.member_work.specs.Work.{Round}
use Rattle.step_turns.specs.Courses.{Course, Finds, course}
use Rattle.step_turns.specs.Decks.{are_refused, finishing, job_begun, lines_by, opening}
use Rattle.step_turns.specs.Entries.{all_entries, closes, closing_reply, entry_of, given_in, reply_in}
use Rattle.step_turns.specs.declared.states.Holder.{Holder}
use Rattle.step_turns.specs.declared.states.State.TheVariants.{Away, Fresh, Told}
use Rattle.step_turns.specs.declared.states.Task.TheVariants.{Deck, Work}
use Rattle.step_turns.specs.declared.states.Aside.TheVariants.{SpoolDeck}
use Rattle.step_turns.specs.Turns.{deck_opens}
use Rattle.step_turns.proofs.Endings.{told_gives_none}
use Rattle.step_laws.specs.Joins.{CommandIsCut, DeckIsCut, MayLose, WorkIsCut, WorkIsOfLooks, finds_by, finds_lost, holds_for}
use Rattle.step_laws.proofs.Courses.{finishes, finishes_last, keeps_hold, later, one_sitting, works}
use Rattle.step_laws.proofs.Looks.{found_agrees, found_look, listed, listed_agrees, looks_from, looks_length, rounds_found, rounds_listed}
use Rattle.step_laws.proofs.Work.{Agrees, rounds_at, units_work}

-- WORK

module _ (finds : Finds) (Q : Queue) (by : MemberId) (at : ℕ) (look : ℕ → ℕ → Queue → Look) (agrees : Agrees finds (holds_for Q by at) refl look) where
  abbrev worked : List Round → Course
  worked rs = works by at Q.config.hold 0 [] 0 rs

  pub work_course : (n : ℕ) (rs : List Round) → rounds_at finds (holds_for Q by at) refl look n 0 Q ≡ rs → course finds Q (holds_for Q by at) (Work n) ≡ worked rs
  work_course n rs is =
      ap (λ (k : ℕ). later finds (holds_for Q by at) k Q (Fresh (Work n))) (add-one (3 * n))
      ∙ one_sitting finds (holds_for Q by at) refl (3 * n) Q (Fresh (Work n)) refl
      ∙ units_work finds (holds_for Q by at) refl look agrees n (3 * n) 0 0 [] Q (omega arith) refl
      ∙ ap worked is

pub work_is_cut : WorkIsCut
work_is_cut Q by at n looks =
    work_course (finds_by looks) Q by at (listed looks (holds_for Q by at) refl) (listed_agrees looks (holds_for Q by at) refl) n _ (rounds_listed looks (holds_for Q by at) refl n 0 Q)

pub work_is_of_looks : WorkIsOfLooks
work_is_of_looks Q by at n finds =
    let h = holds_for Q by at in
    (looks_from finds h refl n 0 Q, looks_length finds h refl n 0 Q, work_course finds Q by at (found_look finds h refl) (found_agrees finds h refl) n _ (rounds_found finds h refl n 0 Q))

-- COMMANDS

pub command_is_cut : CommandIsCut
command_is_cut Q by at c finds = ap (λ (lines : List (List ℕ)). record { batches = (entry_of Q by at c ∷ []) ∷ []; lines = lines }) (append-nil (step_lines Q by at c))

-- DECKS

-- a last entry that isn't Drop closes the step
last_closes : (es : List Entry) (e : Entry) → closes e ≡ true → closing_reply (es ++ e ∷ []) ≡ e.reply
last_closes es e is = ap (λ (fs : List Entry). reply_in (find closes fs)) (reverse-append es (e ∷ [])) ∙ rw is refl

module _ (Q : Queue) (by : MemberId) (at : ℕ) (fields : JobFields) (text : List (List ℕ)) (lost : Option ℕ) where
  abbrev h : Holder
  h = holds_for Q by at

  abbrev finds : Finds
  finds = finds_lost lost

  abbrev groups : ℕ
  groups = groups_needed text

  abbrev es : List Entry
  es = given_in Q by at (opening Q by fields groups)

  -- the deck's course as it ends, with the second batch where the job has its groups
  abbrev whole : Opened → Course
  whole o = record {
    batches = es ∷ batches_behind (run Q es) by at text lost o;
    lines = lines_by by at lost (closing_reply (all_entries (es ∷ batches_behind (run Q es) by at text lost o)));
  }

  last_lines : (l : Option ℕ) (n : JobNo) → lines_by by at l (closing_reply (given_in (run Q es) by at (finishing l n text ∷ []))) ≡ lines_by by at l (closing_reply (es ++ given_in (run Q es) by at (finishing l n text ∷ [])))
  last_lines None n = ap (lines_by by at None) (sym (last_closes es (entry_of (run Q es) by at (command.Enter n text)) refl))
  last_lines (Some volume) n = refl

  ready : (n : JobNo) → finishes finds h 1 Q [] (deck_opens h (Some n) es text) ≡ whole (Ready n)
  ready n =
      let R = run Q es in
      let fs = given_in R by at (finishing lost n text ∷ []) in
      let lines = lines_by by at lost (closing_reply fs) in
      finishes_last finds h refl 1 Q [] es (Away (SpoolDeck n text)) []
      ∙ ap (λ (c : Course). record { batches = es ∷ c.batches; lines = c.lines })
      (one_sitting finds h refl 0 R (Away (SpoolDeck n text)) (keeps_hold finds h Q es refl) ∙ finishes_last finds h refl 0 R [] fs Told lines)
      ∙ ap (λ (ls : List (List ℕ)). record { batches = es ∷ fs ∷ []; lines = ls }) (append-nil lines ∙ last_lines lost n)

  closed : MayLose Closed lost → finishes finds h 1 Q [] (deck_opens h None es text) ≡ whole Closed
  closed none =
      let lines = reply_lines by at (closing_reply es) in
      finishes_last finds h refl 1 Q [] es Told lines
      ∙ ap (λ (c : Course). record { batches = es ∷ c.batches; lines = lines ++ c.lines }) (told_gives_none finds 1 (run Q es) h)
      ∙ ap (λ (ls : List (List ℕ)). record { batches = es ∷ []; lines = ls }) (append-nil lines)
      ∙ ap (λ (fs : List Entry). record { batches = es ∷ []; lines = reply_lines by at (closing_reply fs) }) (sym (append-nil es))
      ∙ ap (λ (l : Option ℕ). record { batches = es ∷ []; lines = lines_by by at l (closing_reply (es ++ [])) }) (sym none)

  -- by whether a Take is refused, and by the reply to Begin
  taken_so : (R : Queue) (n : JobNo) (refused : Bool) → MayLose (if refused then Closed else Ready n) lost → finishes finds h 1 Q [] (deck_opens h (if refused then None else Some n) es text) ≡ whole (if refused then Closed else Ready n)
  taken_so R n true may = closed may
  taken_so R n false may = ready n

  begun_so : (R : Queue) (r : Reply) → MayLose (ends_begun R by groups r) lost → finishes finds h 1 Q [] (deck_opens h (job_begun R by groups r) es text) ≡ whole (ends_begun R by groups r)
  begun_so R reply.Plain may = closed may
  begun_so R (reply.Job n) may = taken_so R n (are_refused groups R by groups) may
  begun_so R (reply.Output n i) may = closed may
  begun_so R (reply.Count n) may = closed may
  begun_so R (reply.Shown lines) may = closed may
  begun_so R (reply.No why) may = closed may

  pub deck_course : MayLose (ends_as Q by fields groups) lost → course finds Q h (Deck fields text) ≡ whole (ends_as Q by fields groups)
  deck_course may =
      one_sitting finds h refl 1 Q (Fresh (Deck fields text)) refl
      ∙ begun_so (step Q by (command.Begin fields)).0 (step Q by (command.Begin fields)).1 may

pub deck_is_cut : DeckIsCut
deck_is_cut Q by at fields text lost may = deck_course Q by at fields text lost may
