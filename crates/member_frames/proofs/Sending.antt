-- An acknowledgement that is handled: Sent is given, what is full is kept, and the rest of the sitting follows.
use Rattle.std.proofs.Common.{◌≡◌, ◌∙◌, ℕ, suc, ◌+◌, ◌*◌, ◌≤◌, List, [], ◌∷◌, length, Result, Ok, Err, ap, refl, sym, arith}
use Rattle.std.proofs.lemmas.List.{length-append}
use Rattle.mas_types.specs.declared.commands.Command.{Command}
use Rattle.mas_types.specs.declared.commands.Command.TheVariants as command
use Rattle.mas_types.specs.declared.journals.Entry.{Entry}
use Rattle.mas_types.specs.declared.queues.Queue.{Queue}
use Rattle.mas_types.specs.Run.{run}
use Rattle.job_outcome.specs.declared.units.UnitEnd.{UnitEnd}
use Rattle.job_outcome.specs.Next.{end_by}
use Rattle.member_node.specs.declared.member.NodeNo.{NodeNo}
use Rattle.member_steps.specs.Counting.{HasCounted}
use Rattle.member_decks.specs.Steps.{AreOf}
use Rattle.step_turns.specs.Entries.{all_entries, closing_reply, given_in, reply_to}
use Rattle.step_turns.specs.Serving.{counts_sent, serves}
use Rattle.step_turns.specs.declared.states.Holder.{Holder}
use Rattle.step_turns.specs.declared.states.Service.{Service}
use Rattle.step_turns.specs.TurnParts.{Turn}
use Rattle.member_sittings.specs.declared.ends.SittingEnd.{SittingEnd}
use Rattle.member_giving.specs.Plays.{HasGiven, Keeps, SparesOthers, Wrote, after_full, full_of, unwritten, wrote_of, unit_part, to_play}
use Rattle.member_giving.specs.Works.{Outside, Place}
use Rattle.member_giving.proofs.Given.{closing_one}
use Rattle.member_giving.proofs.Going.{after_batches, played_fits, played_full, played_full_error, played_part, played_part_error}
use Rattle.member_giving.proofs.Within.{full_le, unwritten_one}
use Rattle.member_frames.specs.declared.nexts.Next.{Next}
use Rattle.member_frames.specs.declared.nexts.Next.TheVariants as next
use Rattle.member_frames.specs.Nexts.{counts_by, frames_in, next_of, turn_by}
use Rattle.member_frames.specs.Plays.{IsWithinLine, ServesLine}
use Rattle.member_frames.proofs.Fronts.{counts_as, serves_as}
use Rattle.member_frames.proofs.TurnLemmas.{after_within, part_within, turn_serves}

-- bounds that leave more
pub line_more : (h : Holder) (most least : ℕ) (w : Wrote) → least ≤ most → IsWithinLine h least w → IsWithinLine h most w
line_more h most least w le v = record { few = let few = v.few in omega (arith, few, le); says = v.says }

pub serves_more : (told : Type 0) (h : Holder) (most least given : ℕ) (w : Wrote) (old : Place) (new : Outside) (r : Result SittingEnd NodeNo) → least ≤ most → ServesLine told least (to_play h given w) old new r → ServesLine told most (to_play h given w) old new r
serves_more told h most least given w old new r le p = played_fits told h (IsWithinLine h most) given (IsWithinLine h least) w old new r (λ x v. line_more h most least x le v) p

module _ (told : Type 0) (h : Holder) (number : ℕ) (s : Service) (old mid : Place) (given : ℕ) where
  abbrev sent : Command
  sent = command.Sent s.line number

  abbrev es : List Entry
  es = given_in old.queue h.by h.step (sent ∷ [])

  abbrev end_as : UnitEnd
  end_as = end_by (closing_reply es)

  abbrev counts : Service
  counts = counts_sent (reply_to old.queue h.by sent) s

  -- what follows these entries
  abbrev rest : List Entry → Turn
  rest fs = serves h.by h.step s.frames counts (run old.queue fs) (suc given)

  abbrev most : ℕ
  most = 2 * suc (length s.frames) + 1 + unwritten old.batch

  abbrev Whole : Outside → Result SittingEnd NodeNo → Type 0
  Whole new r = ServesLine told most (to_play h given (wrote_of old.batch (turn_by h.by h.step (next.Send number s) old.queue given))) old new r

  -- out of memory for Sent
  pub send_error : AreOf h.by h.step old.batch → (why : NodeNo) → HasGiven told h (unit_part (sent ∷ []) end_as) old mid (Err why) → Whole mid.outside (Err why)
  send_error of why g =
      played_part_error told h (IsWithinLine h most) given (sent ∷ []) end_as old mid rest of (λ fs. (turn_serves h s.frames counts (run old.queue fs) (suc given)).of)
      (λ fs. part_within h most old.batch fs (rest fs) (2 * length s.frames + 1) (omega arith) (turn_serves h s.frames counts (run old.queue fs) (suc given)))
      why g

  module _ (end : UnitEnd) (g : HasGiven told h (unit_part (sent ∷ []) end_as) old mid (Ok end)) (one : length mid.batch ≡ length old.batch + 1) (of : AreOf h.by h.step mid.batch) where
    one_more : given + 1 ≡ given + length g.es
    one_more = let longer = ap (λ (l : List Entry). length l) g.left in let both = length-append old.batch g.es in omega (arith, one, longer, both)

    -- a full batch couldn't be kept
    pub send_full_error : (new : Outside) (why : NodeNo) → SparesOthers told h.by mid.outside new → Keeps {T = Unit {0}} told h.by (full_of mid.batch) mid.outside new (Err why)
        → {gave : List Entry} → HasCounted {T = Unit {0}} h.by gave mid.outside.printed new.printed (Err why) → Whole new (Err why)
    send_full_error new why spares keeps {gave} counted =
        let v = turn_serves h s.frames counts (run old.queue es) (suc given) in
        let few = unwritten_one mid.batch in
        played_part told h (IsWithinLine h most) given (sent ∷ []) end_as old mid (rest es) (rest es) end (given + 1) new (Err why) g one_more (λ t. refl)
        (played_full_error told h (IsWithinLine h most) (given + 1) {S = Unit {0}} why (rest es) mid new of v.of (after_within h most mid.batch (rest es) (2 * length s.frames + 1) (omega (arith, few)) v) spares keeps {gave = gave} counted)

    module _ (after : Place) (n : Next) (left : after.batch ≡ after_full mid.batch) (queue : after.queue ≡ mid.queue) (is : told → n ≡ next_of after.queue (counts_by end s)) (few : frames_in n ≤ length s.frames) where
      abbrev t : Turn
      t = turn_by h.by h.step n after.queue (given + 1)

      abbrev least : ℕ
      least = 2 * frames_in n + 1 + unwritten after.batch

      fits : (w : Wrote) → IsWithinLine h least w → IsWithinLine h most (after_batches (full_of mid.batch) w)
      fits w v = record {
        few = let few_w = v.few in let both = length-append (full_of mid.batch) w.batches in let le = full_le mid.batch after.batch (2 * frames_in n + 1) (2 * suc (length s.frames) + 1) left (omega (arith, few)) in omega (arith, few_w, both, le);
        says = v.says;
      }

      follows : told → t ≡ rest es
      follows seen =
          let counted_so : counts_by end s ≡ counts = ap (λ (x : UnitEnd). counts_by x s) (g.ends seen ∙ ap end_by (closing_one old.queue h.by h.step sent refl)) ∙ counts_as (reply_to old.queue h.by sent) s in
          let later : given + 1 ≡ suc given = omega arith in
          ap (λ (x : Next). turn_by h.by h.step x after.queue (given + 1)) (is seen)
          ∙ ap (λ (v : Service). turn_by h.by h.step (next_of after.queue v) after.queue (given + 1)) counted_so
          ∙ sym (serves_as h.by h.step s.frames counts after.queue (given + 1))
          ∙ ap (λ (q : Queue). serves h.by h.step s.frames counts q (given + 1)) (queue ∙ g.queue ∙ ap (run old.queue) (g.is seen))
          ∙ ap (λ (k : ℕ). serves h.by h.step s.frames counts (run old.queue es) k) later

      -- the next frame follows
      pub send_then : (new : Outside) (r : Result SittingEnd NodeNo) {S : Type 0} (done : S) → SparesOthers told h.by mid.outside after.outside → Keeps {T = S} told h.by (full_of mid.batch) mid.outside after.outside (Ok done)
          → HasCounted {T = S} h.by (all_entries (full_of mid.batch)) mid.outside.printed after.outside.printed (Ok done) → ServesLine told least (to_play h (given + 1) (wrote_of after.batch t)) after new r → Whole new r
      send_then new r {S} done spares keeps counted p =
          played_part told h (IsWithinLine h most) given (sent ∷ []) end_as old mid t (rest es) end (given + 1) new r g one_more follows
          (played_full told h (IsWithinLine h most) (given + 1) {S = S} done t (IsWithinLine h least) mid after new r fits of left spares keeps counted p)
