-- A sitting of a step that serves a line leaves it on that line, unless it is told.
use Rattle.std.proofs.Common.{◌≡◌, ◌⊎◌, ⊎_elim, inl, inr, ℕ, zero, suc, Bool, true, false, List, [], ◌∷◌, Option, Some, None, Result, Ok, Err, refl, sym, ◌∙◌, subst}
use Rattle.mas_types.specs.declared.answers.Closing.{Closing}
use Rattle.mas_types.specs.declared.commands.Command.{Command}
use Rattle.mas_types.specs.declared.commands.Command.TheVariants as command
use Rattle.mas_types.specs.declared.ids.JobNo.{JobNo}
use Rattle.mas_types.specs.declared.ids.MemberId.{MemberId}
use Rattle.mas_types.specs.declared.jobs.JobFields.{JobFields}
use Rattle.mas_types.specs.declared.journals.Entry.{Entry}
use Rattle.mas_types.specs.declared.queues.Queue.{Queue}
use Rattle.mas_types.specs.Commands.Wire.{got_on}
use Rattle.mas_types.specs.Owners.{groups_needed}
use Rattle.mas_types.specs.Run.{run}
use Rattle.queue_laws.specs.Laws.{is_refusal}
use Rattle.card_reader.specs.declared.decks.Refused.{Refused}
use Rattle.card_reader.specs.Decks.{read_as, text_of}
use Rattle.nje_frames.specs.declared.frames.Frame.{Frame}
use Rattle.nje_frames.specs.declared.frames.Frame.TheVariants as frame
use Rattle.nje_store.specs.declared.custody.Custody.{Custody}
use Rattle.nje_store.specs.declared.custody.Custody.TheVariants as custody
use Rattle.nje_store.specs.Custody.{custody_of}
use Rattle.step_turns.specs.Decks.{job_opened, opening}
use Rattle.step_turns.specs.Entries.{given_in, reply_to}
use Rattle.step_turns.specs.Serving.{Arrival, Serves, acknowledged, arrived, begins, comes, counts_sent, exchange_end, exchanged, heard, kept, opens, reads, serves, serves_first, stored, with_frames}
use Rattle.step_turns.specs.Sittings.{sit}
use Rattle.step_turns.specs.declared.states.Found.{Found}
use Rattle.step_turns.specs.declared.states.Holder.{Holder}
use Rattle.step_turns.specs.declared.states.Service.{Service}
use Rattle.step_turns.specs.declared.states.State.{State}
use Rattle.step_turns.specs.declared.states.Aside.TheVariants.{Acknowledge, Exchange, PrintLines, ReadText, SpoolArrival, SpoolDeck, SpoolOutputs}
use Rattle.step_turns.specs.declared.states.State.TheVariants.{Away, Fresh, Rested, Told}
use Rattle.step_turns.specs.declared.states.Task.TheVariants.{Deck, Give, Line, Work}
use Rattle.member_hand.specs.Hears.{line_served}
use Rattle.member_hand.specs.Sits.{ComesTo, IsLineTask, IsServing}

-- the step is told, or serves this line still
abbrev pub StaysOn : Option ℕ → State → Type 0
StaysOn served n = (n ≡ Told) ⊎ (line_served n ≡ served)

module _ (by : MemberId) (at : ℕ) where
  on_opens : (job : Option JobNo) (es : List Entry) (a : Arrival) (s : Service) → StaysOn (Some s.line) (opens by at job es a s).next
  on_opens (Some n) es a s = inr refl
  on_opens None es a s = inl refl

  on_reads : (r : Result JobFields Refused) (a : Arrival) (s : Service) (Q : Queue) → StaysOn (Some s.line) (reads by at r a s Q).next
  on_reads (Err bad) a s Q = inl refl
  on_reads (Ok fields) a s Q =
      let groups = groups_needed (text_of a.text) in
      on_opens (job_opened Q by (arrived a fields) groups) (given_in Q by at (opening Q by (arrived a fields) groups)) a s

  on_begins : (given : ℕ) (a : Arrival) (s : Service) (Q : Queue) → StaysOn (Some s.line) (begins by at given a s Q).next
  on_begins zero a s Q = on_reads (read_as Q.config.node a.text) a s Q
  on_begins (suc given) a s Q = inr refl

  on_comes : (c : Custody) (a : Arrival) (more : Serves) (s : Service) (Q : Queue) (given : ℕ) → StaysOn (Some s.line) (more s Q given).next → StaysOn (Some s.line) (comes by at c a more s Q given).next
  on_comes custody.Next a more s Q given rest = on_begins given a s Q
  on_comes (custody.Again k) a more s Q given rest = inr refl
  on_comes (custody.Gap k count) a more s Q given rest = rest

  on_serves : (fs : List Frame) (s : Service) (Q : Queue) (given : ℕ) → StaysOn (Some s.line) (serves by at fs s Q given).next
  on_serves [] s Q given = inl refl
  on_serves (frame.Ack number ∷ fs) s Q given =
      let c = command.Sent s.line number in
      on_serves fs (counts_sent (reply_to Q by c) (with_frames fs s)) (run Q (given_in Q by at (c ∷ []))) (suc given)
  on_serves (frame.Job number origin node text ∷ fs) s Q given =
      let a : Arrival = record { number = number; origin = origin; node = node; text = text } in
      on_comes (custody_of (got_on Q s.line) number) a (serves by at fs) (with_frames fs s) Q given (on_serves fs (with_frames fs s) Q given)

  on_exchanged : (end : Option Closing) (l : ℕ) (fs : List Frame) (Q : Queue) → StaysOn (Some l) (exchanged by at end l fs Q).next
  on_exchanged (Some end) l fs Q = inl refl
  on_exchanged None l fs Q = on_serves fs (serves_first l) Q 0

  on_kept : (b : Bool) (c : Command) (number : ℕ) (n : JobNo) (s : Service) (Q : Queue) → StaysOn (Some s.line) (kept by at b c number n s Q).next
  on_kept true c number n s Q = inl refl
  on_kept false c number n s Q = inr refl

  on_stored : (lost : Option ℕ) (number : ℕ) (n : JobNo) (text : List (List ℕ)) (s : Service) (Q : Queue) → StaysOn (Some s.line) (stored by at lost number n text s Q).next
  on_stored None number n text s Q =
      let c = command.Got s.line number n text in
      on_kept (is_refusal (reply_to Q by c)) c number n s Q
  on_stored (Some volume) number n text s Q = inl refl

  on_acknowledged : (number : Option ℕ) (lost : Bool) (s : Service) (Q : Queue) → StaysOn (Some s.line) (acknowledged by at number lost s Q).next
  on_acknowledged None lost s Q = on_serves s.frames s Q 0
  on_acknowledged (Some number) true s Q = inl refl
  on_acknowledged (Some number) false s Q = on_serves s.frames s Q 0

-- one that serves a line
line_kept : (Q : Queue) (h : Holder) (s : State) (found : Found) (l : ℕ) → line_served s ≡ Some l → StaysOn (Some l) (sit Q h s found).next
line_kept Q h (Fresh (Line k)) found l is = inr is
line_kept Q h (Away (Exchange k offer)) found l is =
    subst (λ (o : Option ℕ). StaysOn o (sit Q h (Away (Exchange k offer)) found).next) is (on_exchanged h.by h.step (exchange_end offer k found) k (heard found) Q)
line_kept Q h (Away (SpoolArrival number n text s)) found l is =
    subst (λ (o : Option ℕ). StaysOn o (sit Q h (Away (SpoolArrival number n text s)) found).next) is (on_stored h.by h.step found.lost number n text s Q)
line_kept Q h (Away (Acknowledge number s)) found l is =
    subst (λ (o : Option ℕ). StaysOn o (sit Q h (Away (Acknowledge number s)) found).next) is (on_acknowledged h.by h.step number found.wire s Q)
line_kept Q h (Fresh (Give c)) found l is = absurd (cc)
line_kept Q h (Fresh (Deck fields text)) found l is = absurd (cc)
line_kept Q h (Fresh (Work n)) found l is = absurd (cc)
line_kept Q h (Away (SpoolDeck n text)) found l is = absurd (cc)
line_kept Q h (Away (ReadText runs n fields p)) found l is = absurd (cc)
line_kept Q h (Away (SpoolOutputs n specs p)) found l is = absurd (cc)
line_kept Q h (Away (PrintLines n i last p)) found l is = absurd (cc)
line_kept Q h (Rested p) found l is = absurd (cc)
line_kept Q h Told found l is = absurd (cc)

-- and one that serves none comes to no state of a line

task_serves : (s : State) → IsLineTask s → line_served s ≡ None → ⊥
task_serves (Fresh (Line l)) w none = absurd (cc)
task_serves (Fresh (Give c)) w none = w
task_serves (Fresh (Deck fields text)) w none = w
task_serves (Fresh (Work n)) w none = w
task_serves (Away aside) w none = w
task_serves (Rested p) w none = w
task_serves Told w none = w

on_serves_line : (s : State) → IsServing s → line_served s ≡ None → ⊥
on_serves_line (Fresh (Line l)) w none = absurd (cc)
on_serves_line (Fresh (Give c)) w none = w
on_serves_line (Fresh (Deck fields text)) w none = w
on_serves_line (Fresh (Work n)) w none = w
on_serves_line (Away (Exchange l offer)) w none = absurd (cc)
on_serves_line (Away (SpoolArrival number n text service)) w none = absurd (cc)
on_serves_line (Away (Acknowledge number service)) w none = absurd (cc)
on_serves_line (Away (SpoolDeck n text)) w none = w
on_serves_line (Away (ReadText runs n fields p)) w none = w
on_serves_line (Away (SpoolOutputs n specs p)) w none = w
on_serves_line (Away (PrintLines n i last p)) w none = w
on_serves_line (Rested p) w none = w
on_serves_line Told w none = w

no_line : (s n : State) → line_served s ≡ None → ComesTo s n → line_served n ≡ None
no_line s Told none comes = refl
no_line s (Rested p) none comes = refl
no_line s (Fresh task) none comes = absurd comes
no_line s (Away (SpoolDeck n text)) none comes = refl
no_line s (Away (ReadText runs n fields p)) none comes = refl
no_line s (Away (SpoolOutputs n specs p)) none comes = refl
no_line s (Away (PrintLines n i last p)) none comes = refl
no_line s (Away (Exchange l offer)) none comes = absurd (task_serves s comes none)
no_line s (Away (SpoolArrival number n text service)) none comes = absurd (on_serves_line s comes none)
no_line s (Away (Acknowledge number service)) none comes = absurd (on_serves_line s comes none)

pub same_line : (Q : Queue) (h : Holder) (s : State) (found : Found) → ComesTo s (sit Q h s found).next → StaysOn (line_served s) (sit Q h s found).next
same_line Q h s found comes = by_line (line_served s) refl where
  by_line : (o : Option ℕ) → line_served s ≡ o → StaysOn (line_served s) (sit Q h s found).next
  by_line None none = inr (no_line s (sit Q h s found).next none comes ∙ sym none)
  by_line (Some l) is = ⊎_elim (λ told. inl told) (λ on. inr (on ∙ sym is)) (line_kept Q h s found l is)
