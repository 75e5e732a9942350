-- What follows by the first frame that is left.
use Rattle.std.proofs.Common.{◌≡◌, ◌∙◌, ℕ, zero, suc, ◌+◌, ◌-◌, ◌≤◌, ◌==◌, Bool, false, if◌then◌else◌, List, [], ◌∷◌, length, All, Option, Some, None, ap, refl, sym, subst, arith}
use Rattle.std.specs.Prelude.{remove, slice_get}
use Rattle.std.specs.Option.{option_map_or}
use Rattle.std.proofs.lemmas.Bool.{ne_eqb}
use Rattle.std.proofs.lemmas.List.Elements.{All-head, All-tail}
use Rattle.mas_types.specs.declared.commands.Reply.{Reply}
use Rattle.mas_types.specs.declared.commands.Reply.TheVariants as reply
use Rattle.mas_types.specs.declared.ids.MemberId.{MemberId}
use Rattle.mas_types.specs.declared.queues.LineCount.{LineCount}
use Rattle.mas_types.specs.declared.queues.Queue.{Queue}
use Rattle.mas_types.specs.Commands.Wire.{got_on, sent_on}
use Rattle.mas_types.specs.Fit.{IsLine}
use Rattle.mas_types.specs.Queue.{wire_at}
use Rattle.ckpt_tables.specs.declared.tables.Tables.{Tables}
use Rattle.queue_telling.specs.Telling.{Tell}
use Rattle.job_outcome.specs.declared.units.UnitEnd.{UnitEnd}
use Rattle.job_outcome.specs.declared.units.UnitEnd.TheVariants as ends
use Rattle.job_outcome.specs.Next.{end_by}
use Rattle.member_decks.proofs.OpenLemmas.{tells_some}
use Rattle.nje_frames.specs.declared.frames.Frame.{Frame}
use Rattle.nje_frames.specs.declared.frames.Frame.TheVariants as frame
use Rattle.nje_frames.specs.Grammar.{IsFrame}
use Rattle.nje_store.specs.declared.custody.Custody.{Custody}
use Rattle.nje_store.specs.declared.custody.Custody.TheVariants as custody
use Rattle.nje_store.specs.Custody.{custody_of}
use Rattle.step_turns.specs.Serving.{Arrival, begins, comes, counts_sent, serves, taken_most, with_frames}
use Rattle.step_turns.specs.declared.states.Service.{Service}
use Rattle.step_turns.specs.declared.states.Aside.TheVariants.{Acknowledge}
use Rattle.step_turns.specs.declared.states.State.TheVariants.{Away}
use Rattle.step_turns.specs.TurnParts.{leaves}
use Rattle.member_frames.specs.declared.nexts.Front.{Front}
use Rattle.member_frames.specs.declared.nexts.Next.{Next}
use Rattle.member_frames.specs.declared.nexts.Next.TheVariants as next
use Rattle.member_frames.specs.Nexts.{IsJobFirst, IsNoBegin, IsRightNext, IsServableNext, begins_first, counts_by, frames_after, frames_in, front_by, front_of, next_by, next_from, next_of, turn_by}
use Rattle.member_frames.specs.Arriving.{IsJobFrame}
use Rattle.member_frames.specs.Plays.{arrival_of}
use Rattle.member_frames.specs.Waits.{HasFrameMore, IsServable}

-- WHAT WENT OVER A LINE

pub wire_told : (t : Tables) (Q : Queue) (l : ℕ) (count : LineCount) → IsLine l → Tell t Q → slice_get t.lines (l - 1) ≡ Some count → wire_at Q l ≡ Some count
wire_told t Q l count line told here =
    let some : (l == 0) ≡ false = ne_eqb l 0 (λ e. absurd (omega (arith, line.0, e))) in
    ap (λ (b : Bool). if b then None else slice_get Q.lines (l - 1)) some ∙ ap (λ (ls : List LineCount). slice_get ls (l - 1)) told.lines ∙ here

pub got_there : (Q : Queue) (l : ℕ) (count : LineCount) → wire_at Q l ≡ Some count → got_on Q l ≡ count.got
got_there Q l count here = ap (λ (o : Option LineCount). option_map_or (λ count. count.got) o 0) here

pub sent_there : (Q : Queue) (l : ℕ) (count : LineCount) → wire_at Q l ≡ Some count → sent_on Q l ≡ count.sent
sent_there Q l count here = ap (λ (o : Option LineCount). option_map_or (λ count. count.sent) o 0) here

-- THE FIRST FRAME

pub removed : (fs : List Frame) → remove fs 0 ≡ frames_after fs
removed [] = refl
removed (f ∷ fs) = refl

pub after_length : (fs : List Frame) → 1 ≤ length fs → length (frames_after fs) + 1 ≡ length fs
after_length [] some = absurd (omega (arith, some))
after_length (f ∷ fs) some = omega arith

pub first_whole : (fs : List Frame) (f : Frame) → slice_get fs 0 ≡ Some f → f ∷ frames_after fs ≡ fs
first_whole [] f at = absurd (cc)
first_whole (g ∷ gs) f at = let same : g ≡ f = cc in ap (λ (x : Frame). x ∷ gs) (sym same)

pub first_holds : (fs : List Frame) (f : Frame) → slice_get fs 0 ≡ Some f → All IsFrame fs → IsFrame f
first_holds [] f at all = absurd (cc)
first_holds (g ∷ gs) f at all = let same : g ≡ f = cc in subst IsFrame same (All-head IsFrame g gs all)

pub job_some : (fs : List Frame) → IsJobFirst fs → 1 ≤ length fs
job_some [] job = absurd job
job_some (f ∷ fs) job = omega arith

pub job_first : (fs : List Frame) (f : Frame) → slice_get fs 0 ≡ Some f → IsJobFirst fs → IsJobFrame f
job_first [] f at job = absurd job
job_first (frame.Ack number ∷ gs) f at job = absurd job
job_first (frame.Job number origin node text ∷ gs) f at job = let same : frame.Job number origin node text ≡ f = cc in subst IsJobFrame same tt

-- WHAT FOLLOWS

pub first_next : (Q : Queue) (fs : List Frame) (s : Service) (f : Frame) (w : Front) → slice_get fs 0 ≡ Some f → w ≡ front_of Q s.line f
    → next_from Q fs s ≡ next_by w f (frames_after fs) s (next_from Q (frames_after fs) (with_frames (frames_after fs) s))
first_next Q [] s f w at is = absurd (cc)
first_next Q (g ∷ gs) s f w at is =
    let same : g ≡ f = cc in
    let more : Next = next_from Q gs (with_frames gs s) in
    ap (λ (v : Front). next_by v g gs s more) (ap (front_of Q s.line) same ∙ sym is) ∙ ap (λ (x : Frame). next_by w x gs s more) same

pub none_next : (Q : Queue) (s : Service) (fs : List Frame) → fs ≡ s.frames → length fs ≡ 0 → next_from Q fs s ≡ next.End s
none_next Q s [] is none = ap (λ (gs : List Frame). next.End (with_frames gs s)) is
none_next Q s (f ∷ fs) is none = absurd (omega (arith, none))

-- THE TURN

module _ (by : MemberId) (at : ℕ) where
  -- the frames that a service has are not those that are served
  pub serves_any : (fs gs : List Frame) (s : Service) (Q : Queue) (given : ℕ) → serves by at fs (with_frames gs s) Q given ≡ serves by at fs s Q given
  serves_any [] gs s Q given = refl
  serves_any (f ∷ fs) gs s Q given = refl

  judged_as : (c : Custody) (number : ℕ) (a : Arrival) (f : Frame) (fs : List Frame) (s : Service) (Q : Queue) (given : ℕ) (more : Next) → begins by at given a (with_frames fs s) Q ≡ begins_first by at (f ∷ fs) (with_frames (f ∷ fs) s) Q given
      → serves by at fs (with_frames fs s) Q given ≡ turn_by by at more Q given → comes by at c a (serves by at fs) (with_frames fs s) Q given ≡ turn_by by at (next_by (front_by c) f fs s more) Q given
  judged_as custody.Next number a f fs s Q given more begun rest = begun
  judged_as (custody.Again k) number a f fs s Q given more begun rest = refl
  judged_as (custody.Gap k kept) number a f fs s Q given more begun rest = rest

  pub serves_as : (fs : List Frame) (s : Service) (Q : Queue) (given : ℕ) → serves by at fs s Q given ≡ turn_by by at (next_from Q fs s) Q given
  serves_as [] s Q given = refl
  serves_as (frame.Ack number ∷ fs) s Q given = refl
  serves_as (frame.Job number origin node text ∷ fs) s Q given =
      let a : Arrival = record { number = number; origin = origin; node = node; text = text } in
      judged_as (custody_of (got_on Q s.line) number) number a (frame.Job number origin node text) fs s Q given (next_from Q fs (with_frames fs s)) refl (serves_as fs (with_frames fs s) Q given)

  -- a job doesn't begin in a sitting in which others were handled
  pub begin_waits : (fs : List Frame) (s : Service) (Q : Queue) (given : ℕ) → IsJobFirst fs → 1 ≤ given → begins_first by at fs s Q given ≡ leaves (Away (Acknowledge None (with_frames fs s)))
  begin_waits [] s Q given job some = absurd job
  begin_waits (frame.Ack number ∷ fs) s Q given job some = absurd job
  begin_waits (frame.Job number origin node text ∷ fs) s Q zero job some = absurd (omega (arith, some))
  begin_waits (frame.Job number origin node text ∷ fs) s Q (suc given) job some = refl

  begun_list : (fs : List Frame) (v : Service) (f : Frame) (Q : Queue) → slice_get fs 0 ≡ Some f → begins by at 0 (arrival_of f) (with_frames (frames_after fs) v) Q ≡ begins_first by at fs v Q 0
  begun_list [] v f Q here = absurd (cc)
  begun_list (g ∷ gs) v f Q here = let same : g ≡ f = cc in ap (λ (x : Frame). begins by at 0 (arrival_of x) (with_frames gs v) Q) (sym same)

  -- it begins where nothing was given
  pub begun_first : (v : Service) (f : Frame) (u : Service) (Q : Queue) → slice_get v.frames 0 ≡ Some f → u ≡ with_frames (frames_after v.frames) v → begins by at 0 (arrival_of f) u Q ≡ turn_by by at (next.Begin v) Q 0
  begun_first v f u Q here rest = ap (λ (w : Service). begins by at 0 (arrival_of f) w Q) rest ∙ begun_list v.frames v f Q here

-- HOW MANY FRAMES

servable_after : (f : Frame) (fs : List Frame) (s : Service) → IsServable (with_frames (f ∷ fs) s) → IsServable (with_frames fs s)
servable_after f fs s v = record { line = v.line; frames = All-tail IsFrame f fs v.frames; few = let few = v.few in omega (arith, few) }

more_after : (f : Frame) (fs : List Frame) (s : Service) → IsServable (with_frames (f ∷ fs) s) → HasFrameMore (with_frames fs s)
more_after f fs s v = let few = v.few in omega (arith, few)

rest_servable : (fs : List Frame) (s : Service) (f : Frame) → slice_get fs 0 ≡ Some f → IsServable (with_frames fs s) → IsServable (with_frames (frames_after fs) s) × HasFrameMore (with_frames (frames_after fs) s)
rest_servable [] s f at v = absurd (cc)
rest_servable (g ∷ gs) s f at v = (servable_after g gs s v, more_after g gs s v)

pub servable_rest : (s : Service) (f : Frame) → slice_get s.frames 0 ≡ Some f → IsServable s → IsServable (with_frames (frames_after s.frames) s) × HasFrameMore (with_frames (frames_after s.frames) s)
servable_rest s f at v = rest_servable s.frames s f at v

module _ (f : Frame) (fs : List Frame) (s : Service) (v : IsServable (with_frames (f ∷ fs) s)) (job : IsJobFirst (f ∷ fs)) where
  judged_right : (c : Custody) (more : Next) → IsRightNext (length fs) more → IsRightNext (suc (length fs)) (next_by (front_by c) f fs s more)
  judged_right custody.Next more rest = record { few = omega arith; servable = (v, job) }
  judged_right (custody.Again k) more rest = record { few = omega arith; servable = (servable_after f fs s v, more_after f fs s v) }
  judged_right (custody.Gap k kept) more rest = record { few = let few = rest.few in omega (arith, few); servable = rest.servable }

next_right : (Q : Queue) (fs : List Frame) (s : Service) → IsServable (with_frames fs s) → IsRightNext (length fs) (next_from Q fs s)
next_right Q [] s v = record { few = omega arith; servable = v }
next_right Q (frame.Ack number ∷ fs) s v = record { few = omega arith; servable = (servable_after (frame.Ack number) fs s v, more_after (frame.Ack number) fs s v) }
next_right Q (frame.Job number origin node text ∷ fs) s v =
    let f = frame.Job number origin node text in
    judged_right f fs s v tt (custody_of (got_on Q s.line) number) (next_from Q fs (with_frames fs s)) (next_right Q fs (with_frames fs s) (servable_after f fs s v))

-- whatever queue the tables tell
pub right_of : (t : Tables) (s : Service) (n : Next) → ((Q : Queue) → Tell t Q → n ≡ next_of Q s) → IsServable s → IsRightNext (length s.frames) n
right_of t s n is v = let q = tells_some t in subst (IsRightNext (length s.frames)) (sym (is q.0 q.1)) (next_right q.0 s.frames s v)

pub next_few : (n : Next) → IsServableNext n → frames_in n ≤ taken_most
next_few (next.Send number s) v = let more = v.1 in omega (arith, more)
next_few (next.Begin s) v = let few = v.0.few in omega (arith, few)
next_few (next.Again number s) v = let more = v.1 in omega (arith, more)
next_few (next.End s) v = let few = v.few in omega (arith, few)

pub no_begin : (n : Next) → ((s : Service) → n ≡ next.Begin s → ⊥) → IsNoBegin n
no_begin (next.Send number s) other = tt
no_begin (next.Begin s) other = absurd (other s refl)
no_begin (next.Again number s) other = tt
no_begin (next.End s) other = tt

pub some_given : (given : ℕ) → (given ≡ 0 → ⊥) → 1 ≤ given
some_given zero other = absurd (other refl)
some_given (suc given) other = omega arith

-- A JOB THAT LEFT IS COUNTED

pub counts_as : (r : Reply) (s : Service) → counts_by (end_by r) s ≡ counts_sent r s
counts_as (reply.No why) s = let same : s.sent ≡ s.sent + 0 = omega arith in ap (λ (k : ℕ). record s { sent = k }) same
counts_as reply.Plain s = refl
counts_as (reply.Job n) s = refl
counts_as (reply.Output n i) s = refl
counts_as (reply.Count n) s = refl
counts_as (reply.Shown lines) s = refl

pub counted_servable : (e : UnitEnd) (s : Service) → IsServable s → HasFrameMore s → IsServable (counts_by e s)
counted_servable ends.Done s v more = record { line = v.line; frames = v.frames; few = omega (arith, more) }
counted_servable ends.Idle s v more = v
counted_servable (ends.Refused end) s v more = v

pub counted_frames : (e : UnitEnd) (s : Service) → (counts_by e s).frames ≡ s.frames
counted_frames ends.Done s = refl
counted_frames ends.Idle s = refl
counted_frames (ends.Refused end) s = refl
