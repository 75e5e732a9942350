-- What a turn of a step that serves a line may come to on every plant.
use Rattle.std.proofs.Common.{ℕ, zero, suc, ◌+◌, ◌*◌, ◌≤◌, List, [], ◌∷◌, length, All, Option, Some, None, Result, Ok, Err, refl, arith}
use Rattle.std.proofs.lemmas.List.Elements.{All-cons, All-nil}
use Rattle.mas_types.specs.declared.answers.Closing.TheVariants as closing
use Rattle.mas_types.specs.declared.commands.Command.TheVariants as command
use Rattle.mas_types.specs.declared.commands.Reply.{Reply}
use Rattle.mas_types.specs.declared.ids.JobNo.{JobNo}
use Rattle.mas_types.specs.declared.jobs.JobFields.{JobFields}
use Rattle.mas_types.specs.declared.journals.Entry.{Entry}
use Rattle.mas_types.specs.declared.queues.Queue.{Queue}
use Rattle.mas_types.specs.Closings.{reply_lines}
use Rattle.mas_types.specs.Commands.Wire.{got_on}
use Rattle.mas_types.specs.Owners.{groups_needed}
use Rattle.mas_types.specs.Run.{run}
use Rattle.card_reader.specs.declared.decks.Refused.{Refused}
use Rattle.card_reader.specs.Decks.{read_as, text_of}
use Rattle.member_decks.specs.Steps.{AreOf}
use Rattle.member_decks.proofs.DeckLemmas.{given_of}
use Rattle.nje_frames.specs.declared.frames.Frame.{Frame}
use Rattle.nje_frames.specs.declared.frames.Frame.TheVariants as frame
use Rattle.nje_store.specs.declared.custody.Custody.{Custody}
use Rattle.nje_store.specs.declared.custody.Custody.TheVariants as custody
use Rattle.nje_store.specs.Custody.{custody_of}
use Rattle.step_turns.specs.Courses.{sittings_most}
use Rattle.step_turns.specs.Decks.{job_opened, opening}
use Rattle.step_turns.specs.Entries.{closing_reply, given_in, reply_to}
use Rattle.step_turns.specs.Serving.{Arrival, Serves, arrived, begins, comes, counts_sent, opens, reads, serves, with_frames}
use Rattle.step_turns.specs.declared.states.Holder.{Holder}
use Rattle.step_turns.specs.declared.states.Service.{Service}
use Rattle.step_turns.specs.TurnParts.{Turn, after_part, says}
use Rattle.member_sittings.specs.Shapes.{LineLines, SaysAtEnd}
use Rattle.member_giving.specs.Plays.{unwritten, wrote_after, wrote_of}
use Rattle.member_giving.proofs.Within.{after_few, cut_few}
use Rattle.member_frames.specs.Plays.{IsWithinLine}

-- its parts and the sittings that may follow are so many together at most; its lines are such, and its entries those of
-- the holder's step
pub record TurnOfLine (h : Holder) (most : ℕ) (t : Turn) : Type 0 where
  pub few : length t.parts + sittings_most t.next ≤ most
  pub says : SaysAtEnd t.next (LineLines h) t.lines
  pub of : All (AreOf h.by h.step) t.parts

module _ (h : Holder) where
  none_of : All (AreOf h.by h.step) []
  none_of = All-nil (AreOf h.by h.step)

  turn_more : (most least : ℕ) (t : Turn) → least ≤ most → TurnOfLine h least t → TurnOfLine h most t
  turn_more most least t le v = record { few = let few = v.few in omega (arith, few, le); says = v.says; of = v.of }

  turn_part : (most : ℕ) (es : List Entry) (t : Turn) → AreOf h.by h.step es → TurnOfLine h most t → TurnOfLine h (suc most) (after_part es t)
  turn_part most es t own v = record { few = let few = v.few in omega (arith, few); says = v.says; of = All-cons (AreOf h.by h.step) es t.parts own v.of }

  says_reply : (most : ℕ) (r : Reply) → TurnOfLine h most (says (reply_lines h.by h.step r))
  says_reply most r = record { few = omega arith; says = (closing.Reply r, refl, tt); of = none_of }

  -- A JOB'S FIRST COMMANDS, where so many frames follow it

  turn_opens : (job : Option JobNo) (es : List Entry) (a : Arrival) (s : Service) → AreOf h.by h.step es → TurnOfLine h (2 * length s.frames + 3) (opens h.by h.step job es a s)
  turn_opens (Some n) es a s own = record { few = omega arith; says = refl; of = All-cons (AreOf h.by h.step) es [] own none_of }
  turn_opens None es a s own = record { few = omega arith; says = (closing.Reply (closing_reply es), refl, tt); of = All-cons (AreOf h.by h.step) es [] own none_of }

  turn_reads : (r : Result JobFields Refused) (a : Arrival) (s : Service) (Q : Queue) → TurnOfLine h (2 * length s.frames + 3) (reads h.by h.step r a s Q)
  turn_reads (Err bad) a s Q = record { few = omega arith; says = (closing.BadCard bad.card bad.cause, refl, tt); of = none_of }
  turn_reads (Ok fields) a s Q =
      let groups = groups_needed (text_of a.text) in
      let cs = opening Q h.by (arrived a fields) groups in
      turn_opens (job_opened Q h.by (arrived a fields) groups) (given_in Q h.by h.step cs) a s (given_of h.by h.step cs Q)

  pub turn_begins : (given : ℕ) (a : Arrival) (s : Service) (Q : Queue) → TurnOfLine h (2 * length s.frames + 3) (begins h.by h.step given a s Q)
  turn_begins zero a s Q = turn_reads (read_as Q.config.node a.text) a s Q
  turn_begins (suc given) a s Q = record { few = omega arith; says = refl; of = none_of }

  turn_comes : (c : Custody) (a : Arrival) (more : Serves) (s : Service) (Q : Queue) (given : ℕ) → TurnOfLine h (2 * length s.frames + 1) (more s Q given) → TurnOfLine h (2 * length s.frames + 3) (comes h.by h.step c a more s Q given)
  turn_comes custody.Next a more s Q given rest = turn_begins given a s Q
  turn_comes (custody.Again k) a more s Q given rest = record { few = omega arith; says = refl; of = none_of }
  turn_comes (custody.Gap k kept) a more s Q given rest = turn_more (2 * length s.frames + 3) (2 * length s.frames + 1) (more s Q given) (omega arith) rest

  -- FRAMES

  pub turn_serves : (fs : List Frame) (s : Service) (Q : Queue) (given : ℕ) → TurnOfLine h (2 * length fs + 1) (serves h.by h.step fs s Q given)
  turn_serves [] s Q given = record { few = omega arith; says = (closing.Line s.sent s.got, refl, tt); of = none_of }
  turn_serves (frame.Ack number ∷ fs) s Q given =
      let c = command.Sent s.line number in
      let es = given_in Q h.by h.step (c ∷ []) in
      let v = counts_sent (reply_to Q h.by c) (with_frames fs s) in
      let t = serves h.by h.step fs v (run Q es) (suc given) in
      turn_more (2 * suc (length fs) + 1) (suc (2 * length fs + 1)) (after_part es t) (omega arith) (turn_part (2 * length fs + 1) es t (given_of h.by h.step (c ∷ []) Q) (turn_serves fs v (run Q es) (suc given)))
  turn_serves (frame.Job number origin node text ∷ fs) s Q given =
      let a : Arrival = record { number = number; origin = origin; node = node; text = text } in
      let c = custody_of (got_on Q s.line) number in
      turn_more (2 * suc (length fs) + 1) (2 * length fs + 3) (comes h.by h.step c a (serves h.by h.step fs) (with_frames fs s) Q given) (omega arith)
      (turn_comes c a (serves h.by h.step fs) (with_frames fs s) Q given (turn_serves fs (with_frames fs s) Q given))

  -- WHAT IS WRITTEN of it, after entries that aren't written yet

  pub part_within : (most : ℕ) (so_far es : List Entry) (t : Turn) (least : ℕ) → least + 1 + unwritten so_far ≤ most → TurnOfLine h least t → IsWithinLine h most (wrote_of so_far (after_part es t))
  part_within most so_far es t least le v = record { few = let few = v.few in let all = cut_few so_far (es ∷ t.parts) in omega (arith, few, all, le); says = v.says }

  pub after_within : (most : ℕ) (es : List Entry) (t : Turn) (least : ℕ) → least + unwritten es ≤ most → TurnOfLine h least t → IsWithinLine h most (wrote_after es t)
  after_within most es t least le v = record { few = let few = v.few in let all = after_few es t.parts in omega (arith, few, all, le); says = v.says }
