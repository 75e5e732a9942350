-- The laws of a step that serves a line: what its frame names, what it acknowledges, and what it counts.
use Rattle.std.proofs.Common.{◌≡◌, ◌≢◌, ℕ, zero, suc, ◌+◌, ◌-◌, ◌≤◌, ◌==◌, nat_le, nat_lt, Bool, true, false, if◌then◌else◌, List, [], ◌∷◌, ◌++◌, Option, Some, None, Result, Ok, Err, refl, sym, ap, subst, ◌∙◌, arith}
use Rattle.std.proofs.lemmas.Bool.Decides.{nat_tests}
use Rattle.std.specs.Prelude.{option_map, slice_get}
use Rattle.std.specs.Option.{option_map_or}
use Rattle.mas_types.specs.declared.answers.Closing.{Closing}
use Rattle.mas_types.specs.declared.commands.Command.{Command}
use Rattle.mas_types.specs.declared.commands.Command.TheVariants as command
use Rattle.mas_types.specs.declared.commands.Refusal.{Refusal}
use Rattle.mas_types.specs.declared.commands.Reply.{Reply}
use Rattle.mas_types.specs.declared.commands.Reply.TheVariants as reply
use Rattle.mas_types.specs.declared.ids.JobNo.{JobNo}
use Rattle.mas_types.specs.declared.ids.MemberId.{MemberId}
use Rattle.mas_types.specs.declared.jobs.Job.{Job}
use Rattle.mas_types.specs.declared.jobs.JobFields.{JobFields}
use Rattle.mas_types.specs.declared.journals.Entry.{Entry}
use Rattle.mas_types.specs.declared.queues.LineCount.{LineCount}
use Rattle.mas_types.specs.declared.queues.Queue.{Queue}
use Rattle.mas_types.specs.Commands.Input.{entered}
use Rattle.mas_types.specs.Commands.Wire.{got_on, sent_on}
use Rattle.mas_types.specs.Lists.{change_at, first_some}
use Rattle.mas_types.specs.Owners.{groups_needed}
use Rattle.mas_types.specs.Queue.{change_wire, job_at, wire_at}
use Rattle.mas_types.specs.Row.{settled}
use Rattle.mas_types.specs.Run.{run}
use Rattle.mas_types.specs.Step.{row_of, step}
use Rattle.queue_laws.specs.Laws.{is_refusal}
use Rattle.queue_laws.proofs.Finds.{test_cases}
use Rattle.card_reader.specs.declared.decks.Refused.{Refused}
use Rattle.card_reader.specs.Decks.{read_as, text_of}
use Rattle.nje_frames.specs.declared.frames.Frame.{Frame}
use Rattle.nje_frames.specs.declared.frames.Frame.TheVariants as frame
use Rattle.nje_frames.specs.Grammar.{number_greatest}
use Rattle.nje_store.specs.declared.custody.Custody.{Custody}
use Rattle.nje_store.specs.declared.custody.Custody.TheVariants as custody
use Rattle.nje_store.specs.Custody.{custody_of}
use Rattle.nje_store.specs.Numbers.{HasLine}
use Rattle.step_turns.specs.Decks.{after_begin, are_refused, job_opened, left_after, opening, takes}
use Rattle.step_turns.specs.Entries.{all_entries, entry_of, given_in, reply_to}
use Rattle.step_turns.specs.Laws.{on_line}
use Rattle.step_turns.specs.LineCounts.{gets_job, got_before, gots_in, is_got, is_sent, sends_job, sent_before, sents_in}
use Rattle.step_turns.specs.LineLaws.{AcknowledgedAreGot, CountsGoOn, IsOfferAt, OffersAreLoaded}
use Rattle.step_turns.specs.Serving.{Arrival, Serves, acknowledged, arrived, begins, comes, counts_got, counts_sent, exchange_end, exchanged, frame_for, heard, kept, offer_at, offer_of, offered, opens, reads, serves, serves_first, stored, with_frames}
use Rattle.step_turns.specs.States.{Acknowledge, Aside, Away, Deck, Exchange, Found, Fresh, Give, Holder, Line, Offer, PrintLines, ReadText, Rested, Service, SpoolArrival, SpoolDeck, SpoolOutputs, State, Task, Told, Work}
use Rattle.step_turns.specs.TurnParts.{Turn, after_part, leaves}
use Rattle.step_turns.specs.Turns.{turn}
use Rattle.step_turns.proofs.Causes.{count_append, count_one, sent_or_not}
use Rattle.step_turns.proofs.Cutting.{cut_entries}
use Rattle.step_turns.proofs.Given.{run_append}

-- THE JOB THAT IS OFFERED

module _ (Q : Queue) (l : ℕ) (n : JobNo) (o : Offer) where
  offer_there : nat_lt (sent_on Q l) number_greatest ≡ true → (j : Option Job) → job_at Q n ≡ j → option_map (offer_of (sent_on Q l) n) j ≡ Some o → IsOfferAt Q l n o
  offer_there few None there is = absurd (cc)
  offer_there few (Some j) there is =
      let same : offer_of (sent_on Q l) n j ≡ o = cc in
      let number : sent_on Q l + 1 ≡ o.number = ap (λ (x : Offer). x.number) same in
      let below : sent_on Q l + 1 ≤ number_greatest = grind (arith, nat_tests) in
      record {
        own = sym (ap (λ (x : Offer). x.job) same);
        next = sym number;
        within = omega (arith, number, below);
        job = j;
        there = there;
        origin = sym (ap (λ (x : Offer). x.origin) same);
        node = sym (ap (λ (x : Offer). x.node) same);
      }

  offer_is : offer_at Q l n ≡ Some o → IsOfferAt Q l n o
  offer_is is =
      test_cases (nat_lt (sent_on Q l) number_greatest) (IsOfferAt Q l n o)
      (λ e. let w : option_map (offer_of (sent_on Q l) n) (job_at Q n) ≡ Some o = rw e at is in offer_there e (job_at Q n) refl w)
      (λ e. let w : None ≡ Some o = rw e at is in absurd (cc))

-- a Load answered it
offered_is : (Q : Queue) (l : ℕ) (r : Reply) (o : Offer) → offered Q l r ≡ Some o → (r ≡ reply.Job o.job) × IsOfferAt Q l o.job o
offered_is Q l (reply.Job n) o is =
    let at_n = offer_is Q l n o is in
    let own : o.job ≡ n = at_n.own in
    (ap reply.Job (sym own), subst (λ (k : JobNo). IsOfferAt Q l k o) (sym own) at_n)
offered_is Q l reply.Plain o is = absurd (cc)
offered_is Q l (reply.Output n i) o is = absurd (cc)
offered_is Q l (reply.Count n) o is = absurd (cc)
offered_is Q l (reply.Shown lines) o is = absurd (cc)
offered_is Q l (reply.No why) o is = absurd (cc)

pub offers_are_loaded : OffersAreLoaded
offers_are_loaded Q h l found o is =
    let es = given_in Q h.by h.step (command.Load l ∷ []) in
    let same : offered (run Q es) l (reply_to Q h.by (command.Load l)) ≡ Some o = cc in
    let found_so = offered_is (run Q es) l (reply_to Q h.by (command.Load l)) o same in
    record { given = refl; answered = found_so.0; offer = found_so.1 }

-- WHAT IS ACKNOWLEDGED IS GOT

-- a Got that isn't refused raises the line's count
got_at : (k : ℕ) (f : LineCount → LineCount) (counts : List LineCount) (count : LineCount) → slice_get counts k ≡ Some count → slice_get (change_at k f counts) k ≡ Some (f count)
got_at k f [] count is = absurd (cc)
got_at zero f (c ∷ counts) count is = let same : c ≡ count = cc in ap (λ (x : LineCount). Some (f x)) same
got_at (suc k) f (c ∷ counts) count is = got_at k f counts count is

wire_changed : (Q : Queue) (l : ℕ) (f : LineCount → LineCount) (count : LineCount) → wire_at Q l ≡ Some count → wire_at (change_wire l f Q) l ≡ Some (f count)
wire_changed Q l f count is =
    test_cases (l == 0) (wire_at (change_wire l f Q) l ≡ Some (f count))
    (λ e. let w : None ≡ Some count = rw e at is in absurd (cc))
    (λ e. let w : slice_get Q.lines (l - 1) ≡ Some count = rw e at is in rw e (got_at (l - 1) f Q.lines count w))

module _ (Q : Queue) (by : MemberId) (l number : ℕ) (n : JobNo) (text : List (List ℕ)) where
  abbrev got : Command
  got = command.Got l number n text

  got_settled : (o : Option Refusal) → is_refusal (settled Q (row_of Q by got).effect (row_of Q by got).answer o).1 ≡ false
      → (settled Q (row_of Q by got).effect (row_of Q by got).answer o).0 ≡ (row_of Q by got).effect
  got_settled None ok = refl
  got_settled (Some why) ok = absurd (cc)

  got_counts : (count : LineCount) → wire_at Q l ≡ Some count → is_refusal (reply_to Q by got) ≡ false → got_on (step Q by got).0 l ≡ number
  got_counts count there ok =
      let after : (step Q by got).0 ≡ (row_of Q by got).effect = got_settled (first_some (row_of Q by got).refusals) ok in
      let f : LineCount → LineCount = λ c. record c { got = number } in
      let on : wire_at ((row_of Q by got).effect) l ≡ Some (f count) = wire_changed (entered by n text Q) l f count there in
      ap (λ (R : Queue). got_on R l) after ∙ ap (λ (o : Option LineCount). option_map_or (λ (c : LineCount). c.got) o 0) on

-- a number that was got before
again_le : (kept number k : ℕ) → custody_of kept number ≡ custody.Again k → k ≤ kept
again_le kept number k is =
    test_cases (nat_le number kept) (k ≤ kept)
    (λ e. let w : custody.Again number ≡ custody.Again k = rw e at is in let same : number ≡ k = cc in let le : number ≤ kept = grind (arith, nat_tests) in omega (arith, same, le))
    (λ e. test_cases (nat_lt (kept + 1) number) (k ≤ kept)
    (λ d. let w : custody.Gap number kept ≡ custody.Again k = rw (e, d) at is in absurd (cc))
    (λ d. let w : custody.Next ≡ custody.Again k = rw (e, d) at is in absurd (cc)))

module _ (h : Holder) where
  -- the numbers that a turn acknowledges are got in the queue after it
  abbrev Acks : Queue → Turn → Type 0
  Acks Q t = (k : ℕ) (v : Service) → HasLine Q v.line → t.next ≡ Away (Acknowledge (Some k) v) → k ≤ got_on (run Q (all_entries t.parts)) v.line

  -- whether the queue counts what goes over the line or not
  abbrev AlwaysAcks : Queue → Turn → Type 0
  AlwaysAcks Q t = (k : ℕ) (v : Service) → t.next ≡ Away (Acknowledge (Some k) v) → k ≤ got_on (run Q (all_entries t.parts)) v.line

  acks_part : (Q : Queue) (es : List Entry) (t : Turn) → AlwaysAcks (run Q es) t → AlwaysAcks Q (after_part es t)
  acks_part Q es t acks k v is = subst (λ (R : Queue). k ≤ got_on R v.line) (sym (run_append Q es (all_entries t.parts))) (acks k v is)

  acks_opens : (job : Option JobNo) (es : List Entry) (a : Arrival) (s : Service) (Q : Queue) → AlwaysAcks Q (opens h.by h.step job es a s)
  acks_opens (Some n) es a s Q = λ k v is. absurd (cc)
  acks_opens None es a s Q = λ k v is. absurd (cc)

  acks_reads : (r : Result JobFields Refused) (a : Arrival) (s : Service) (Q : Queue) → AlwaysAcks Q (reads h.by h.step r a s Q)
  acks_reads (Err bad) a s Q = λ k v is. absurd (cc)
  acks_reads (Ok fields) a s Q =
      let groups = groups_needed (text_of a.text) in
      acks_opens (job_opened Q h.by (arrived a fields) groups) (given_in Q h.by h.step (opening Q h.by (arrived a fields) groups)) a s Q

  acks_begins : (given : ℕ) (a : Arrival) (s : Service) (Q : Queue) → AlwaysAcks Q (begins h.by h.step given a s Q)
  acks_begins zero a s Q = acks_reads (read_as Q.config.node a.text) a s Q
  acks_begins (suc given) a s Q = λ k v is. absurd (cc)

  acks_comes : (c : Custody) (number : ℕ) (a : Arrival) (more : Serves) (s : Service) (Q : Queue) (given : ℕ) → custody_of (got_on Q s.line) number ≡ c → AlwaysAcks Q (more s Q given) → AlwaysAcks Q (comes h.by h.step c a more s Q given)
  acks_comes custody.Next number a more s Q given is rest = acks_begins given a s Q
  acks_comes (custody.Again j) number a more s Q given is rest = λ k v e.
      (let number_is : j ≡ k = cc in
      let same : s ≡ v = cc in
      let le : j ≤ got_on Q s.line = again_le (got_on Q s.line) number j is in
      subst (λ (w : Service). k ≤ got_on Q w.line) same (omega (arith, number_is, le)))
  acks_comes (custody.Gap j count) number a more s Q given is rest = rest

  acks_serves : (fs : List Frame) (s : Service) (Q : Queue) (given : ℕ) → AlwaysAcks Q (serves h.by h.step fs s Q given)
  acks_serves [] s Q given = λ k v is. absurd (cc)
  acks_serves (frame.Ack number ∷ fs) s Q given =
      let c = command.Sent s.line number in
      let es = given_in Q h.by h.step (c ∷ []) in
      let w = counts_sent (reply_to Q h.by c) (with_frames fs s) in
      acks_part Q es (serves h.by h.step fs w (run Q es) (suc given)) (acks_serves fs w (run Q es) (suc given))
  acks_serves (frame.Job number origin node text ∷ fs) s Q given =
      let a : Arrival = record { number = number; origin = origin; node = node; text = text } in
      acks_comes (custody_of (got_on Q s.line) number) number a (serves h.by h.step fs) (with_frames fs s) Q given refl (acks_serves fs (with_frames fs s) Q given)

  acks_exchanged : (end : Option Closing) (l : ℕ) (fs : List Frame) (Q : Queue) → AlwaysAcks Q (exchanged h.by h.step end l fs Q)
  acks_exchanged (Some end) l fs Q = λ k v is. absurd (cc)
  acks_exchanged None l fs Q = acks_serves fs (serves_first l) Q 0

  acks_kept : (refused : Bool) (number : ℕ) (n : JobNo) (text : List (List ℕ)) (s : Service) (Q : Queue) → is_refusal (reply_to Q h.by (command.Got s.line number n text)) ≡ refused
      → Acks Q (kept h.by h.step refused (command.Got s.line number n text) number n s Q)
  acks_kept true number n text s Q is = λ k v line e. absurd (cc)
  acks_kept false number n text s Q is = λ k v line e.
      (let number_is : number ≡ k = cc in
      let same : counts_got s ≡ v = cc in
      let on : s.line ≡ v.line = ap (λ (w : Service). w.line) same in
      let there : wire_at Q s.line ≡ Some line.0 = ap (λ (l : ℕ). wire_at Q l) on ∙ line.1 in
      let counted : got_on (step Q h.by (command.Got s.line number n text)).0 s.line ≡ number = got_counts Q h.by s.line number n text line.0 there is in
      let R = (step Q h.by (command.Got s.line number n text)).0 in
      let counted_on : got_on R v.line ≡ number = ap (λ (l : ℕ). got_on R l) (sym on) ∙ counted in
      omega (arith, counted_on, number_is))

  acks_stored : (lost : Option ℕ) (number : ℕ) (n : JobNo) (text : List (List ℕ)) (s : Service) (Q : Queue) → Acks Q (stored h.by h.step lost number n text s Q)
  acks_stored None number n text s Q = acks_kept (is_refusal (reply_to Q h.by (command.Got s.line number n text))) number n text s Q refl
  acks_stored (Some volume) number n text s Q = λ k v line is. absurd (cc)

  acks_acknowledged : (number : Option ℕ) (lost : Bool) (s : Service) (Q : Queue) → AlwaysAcks Q (acknowledged h.by h.step number lost s Q)
  acks_acknowledged None lost s Q = acks_serves s.frames s Q 0
  acks_acknowledged (Some k) true s Q = λ j v is. absurd (cc)
  acks_acknowledged (Some k) false s Q = acks_serves s.frames s Q 0

  acks_task : (task : Task) (Q : Queue) (found : Found) → on_line (Fresh task) ≡ true → Acks Q (turn h Q (Fresh task) found)
  acks_task (Give c) Q found on = absurd (cc)
  acks_task (Deck fields text) Q found on = absurd (cc)
  acks_task (Work n) Q found on = absurd (cc)
  acks_task (Line l) Q found on = λ k v line is. absurd (cc)

  acks_aside : (a : Aside) (Q : Queue) (found : Found) → on_line (Away a) ≡ true → Acks Q (turn h Q (Away a) found)
  acks_aside (SpoolDeck n text) Q found on = absurd (cc)
  acks_aside (ReadText runs n fields p) Q found on = absurd (cc)
  acks_aside (SpoolOutputs n specs p) Q found on = absurd (cc)
  acks_aside (PrintLines n i last p) Q found on = absurd (cc)
  acks_aside (Exchange l offer) Q found on = λ k v line is. acks_exchanged (exchange_end offer l found) l (heard found) Q k v is
  acks_aside (SpoolArrival number n text s) Q found on = acks_stored found.lost number n text s Q
  acks_aside (Acknowledge number s) Q found on = λ k v line is. acks_acknowledged number found.wire s Q k v is

  acks_turn : (s : State) (Q : Queue) (found : Found) → on_line s ≡ true → Acks Q (turn h Q s found)
  acks_turn (Fresh task) Q found on = acks_task task Q found on
  acks_turn (Away a) Q found on = acks_aside a Q found on
  acks_turn (Rested p) Q found on = absurd (cc)
  acks_turn Told Q found on = absurd (cc)

pub acknowledged_are_got : AcknowledgedAreGot
acknowledged_are_got Q h s found on k v line is =
    subst (λ (es : List Entry). k ≤ got_on (run Q es) v.line) (sym (cut_entries [] (turn h Q s found).parts)) (acks_turn h s Q found on k v line is)

-- WHAT IS COUNTED

-- an entry alone
none_sent_of : (e : Entry) → sends_job e ≡ false → sents_in (e ∷ []) ≡ 0
none_sent_of e off =
    let here = count_one sends_job e [] in
    let none : sents_in [] ≡ 0 = refl in
    let zero_here : ◌≡◌ {A = ℕ} (if sends_job e then 1 else 0) 0 = rw off refl in
    omega (arith, here, none, zero_here)

none_got_of : (e : Entry) → gets_job e ≡ false → gots_in (e ∷ []) ≡ 0
none_got_of e off =
    let here = count_one gets_job e [] in
    let none : gots_in [] ≡ 0 = refl in
    let zero_here : ◌≡◌ {A = ℕ} (if gets_job e then 1 else 0) 0 = rw off refl in
    omega (arith, here, none, zero_here)

-- commands that aren't counted
abbrev AreUncounted : List Command → Type 0
AreUncounted [] = Unit {0}
AreUncounted (c ∷ cs) = (is_sent c ≡ false) × (is_got c ≡ false) × AreUncounted cs

none_sent : (Q : Queue) (by : MemberId) (at : ℕ) (cs : List Command) → AreUncounted cs → sents_in (given_in Q by at cs) ≡ 0
none_sent Q by at [] un = refl
none_sent Q by at (c ∷ cs) un =
    let here = count_one sends_job (entry_of Q by at c) (given_in (step Q by c).0 by at cs) in
    let off : sends_job (entry_of Q by at c) ≡ false = rw un.0 refl in
    let zero_here : ◌≡◌ {A = ℕ} (if sends_job (entry_of Q by at c) then 1 else 0) 0 = rw off refl in
    let rest = none_sent (step Q by c).0 by at cs un.2 in
    omega (arith, here, zero_here, rest)

none_got : (Q : Queue) (by : MemberId) (at : ℕ) (cs : List Command) → AreUncounted cs → gots_in (given_in Q by at cs) ≡ 0
none_got Q by at [] un = refl
none_got Q by at (c ∷ cs) un =
    let here = count_one gets_job (entry_of Q by at c) (given_in (step Q by c).0 by at cs) in
    let off : gets_job (entry_of Q by at c) ≡ false = rw un.1 refl in
    let zero_here : ◌≡◌ {A = ℕ} (if gets_job (entry_of Q by at c) then 1 else 0) 0 = rw off refl in
    let rest = none_got (step Q by c).0 by at cs un.2 in
    omega (arith, here, zero_here, rest)

uncounted_append : (cs ds : List Command) → AreUncounted cs → AreUncounted ds → AreUncounted (cs ++ ds)
uncounted_append [] ds un deux = deux
uncounted_append (c ∷ cs) ds un deux = (un.0, un.1, uncounted_append cs ds un.2 deux)

uncounted_then : (left : Option ℕ) (more : ℕ → List Command) → ((k : ℕ) → AreUncounted (more k)) → AreUncounted (option_map_or more left [])
uncounted_then None more un = tt
uncounted_then (Some k) more un = un k

uncounted_takes : (times : ℕ) (Q : Queue) (by : MemberId) (missing : ℕ) → AreUncounted (takes times Q by missing)
uncounted_takes zero Q by missing = tt
uncounted_takes (suc times) Q by zero = tt
uncounted_takes (suc times) Q by (suc missing) =
    let c = command.Take (suc missing) in
    (refl, refl, uncounted_then (left_after (suc missing) (step Q by c).1) (λ (k : ℕ). takes times (step Q by c).0 by k) (λ (k : ℕ). uncounted_takes times (step Q by c).0 by k))

uncounted_if : (b : Bool) (c : Command) → is_sent c ≡ false → is_got c ≡ false → AreUncounted (if b then c ∷ [] else [])
uncounted_if true c no_sent no_got = (no_sent, no_got, tt)
uncounted_if false c no_sent no_got = tt

uncounted_after : (Q : Queue) (by : MemberId) (groups : ℕ) (r : Reply) → AreUncounted (after_begin Q by groups r)
uncounted_after Q by groups (reply.Job n) =
    uncounted_append (takes groups Q by groups) (if are_refused groups Q by groups then command.Drop n ∷ [] else []) (uncounted_takes groups Q by groups)
    (uncounted_if (are_refused groups Q by groups) (command.Drop n) refl refl)
uncounted_after Q by groups reply.Plain = tt
uncounted_after Q by groups (reply.Output n i) = tt
uncounted_after Q by groups (reply.Count n) = tt
uncounted_after Q by groups (reply.Shown lines) = tt
uncounted_after Q by groups (reply.No why) = tt

uncounted_opening : (Q : Queue) (by : MemberId) (fields : JobFields) (groups : ℕ) → AreUncounted (opening Q by fields groups)
uncounted_opening Q by fields groups = (refl, refl, uncounted_after (step Q by (command.Begin fields)).0 by groups (step Q by (command.Begin fields)).1)

-- A turn that doesn't close the step counts its entries, from these counts on.
pub record Counts (sent got : ℕ) (t : Turn) : Type 0 where
  pub sents : t.next ≢ Told → sent_before t.next ≡ sent + sents_in (all_entries t.parts)
  pub gots : t.next ≢ Told → got_before t.next ≡ got + gots_in (all_entries t.parts)

counts_told : (sent got : ℕ) (t : Turn) → t.next ≡ Told → Counts sent got t
counts_told sents gots t told = record { sents = λ ne. absurd (ne told); gots = λ ne. absurd (ne told) }

counts_waits : (sent got : ℕ) (a : Aside) → sent_before (Away a) ≡ sent → got_before (Away a) ≡ got → Counts sent got (leaves (Away a))
counts_waits sent got a s g =
    let none : sents_in [] ≡ 0 = refl in
    let none' : gots_in [] ≡ 0 = refl in
    record { sents = λ ne. omega (arith, s, none); gots = λ ne. omega (arith, g, none') }

-- entries before
counts_part : (sent got : ℕ) (es : List Entry) (t : Turn) → Counts (sent + sents_in es) (got + gots_in es) t → Counts sent got (after_part es t)
counts_part sent got es t c =
    let s = count_append sends_job es (all_entries t.parts) in
    let g = count_append gets_job es (all_entries t.parts) in
    record {
      sents = λ ne. let more = c.sents ne in omega (arith, more, s);
      gots = λ ne. let more = c.gots ne in omega (arith, more, g);
    }

counts_from : (sent sent' got got' : ℕ) (t : Turn) → sent ≡ sent' → got ≡ got' → Counts sent got t → Counts sent' got' t
counts_from sent sent' got got' t s g c = record {
  sents = λ ne. let is = c.sents ne in omega (arith, is, s);
  gots = λ ne. let is = c.gots ne in omega (arith, is, g);
}

module _ (h : Holder) where
  counts_opens : (job : Option JobNo) (Q : Queue) (cs : List Command) (a : Arrival) (s : Service) → AreUncounted cs → Counts s.sent s.got (opens h.by h.step job (given_in Q h.by h.step cs) a s)
  counts_opens (Some n) Q cs a s un =
      let es = given_in Q h.by h.step cs in
      let none = none_sent Q h.by h.step cs un in
      let none' = none_got Q h.by h.step cs un in
      counts_part s.sent s.got es (leaves (Away (SpoolArrival a.number n (text_of a.text) s)))
      (counts_waits (s.sent + sents_in es) (s.got + gots_in es) (SpoolArrival a.number n (text_of a.text) s) (omega (arith, none)) (omega (arith, none')))
  counts_opens None Q cs a s un = counts_told s.sent s.got (opens h.by h.step None (given_in Q h.by h.step cs) a s) refl

  counts_reads : (r : Result JobFields Refused) (a : Arrival) (s : Service) (Q : Queue) → Counts s.sent s.got (reads h.by h.step r a s Q)
  counts_reads (Err bad) a s Q = counts_told s.sent s.got (reads h.by h.step (Err bad) a s Q) refl
  counts_reads (Ok fields) a s Q =
      let groups = groups_needed (text_of a.text) in
      counts_opens (job_opened Q h.by (arrived a fields) groups) Q (opening Q h.by (arrived a fields) groups) a s (uncounted_opening Q h.by (arrived a fields) groups)

  counts_begins : (given : ℕ) (a : Arrival) (s : Service) (Q : Queue) → Counts s.sent s.got (begins h.by h.step given a s Q)
  counts_begins zero a s Q = counts_reads (read_as Q.config.node a.text) a s Q
  counts_begins (suc given) a s Q = counts_waits s.sent s.got (Acknowledge None (with_frames (frame_for a ∷ s.frames) s)) refl refl

  counts_comes : (c : Custody) (a : Arrival) (more : Serves) (s : Service) (Q : Queue) (given : ℕ) → Counts s.sent s.got (more s Q given) → Counts s.sent s.got (comes h.by h.step c a more s Q given)
  counts_comes custody.Next a more s Q given rest = counts_begins given a s Q
  counts_comes (custody.Again k) a more s Q given rest = counts_waits s.sent s.got (Acknowledge (Some k) s) refl refl
  counts_comes (custody.Gap k count) a more s Q given rest = rest

  counts_serves : (fs : List Frame) (s : Service) (Q : Queue) (given : ℕ) → Counts s.sent s.got (serves h.by h.step fs s Q given)
  counts_serves [] s Q given = counts_told s.sent s.got (serves h.by h.step [] s Q given) refl
  counts_serves (frame.Ack number ∷ fs) s Q given =
      let c = command.Sent s.line number in
      let e = entry_of Q h.by h.step c in
      let es = given_in Q h.by h.step (c ∷ []) in
      let w = counts_sent (reply_to Q h.by c) (with_frames fs s) in
      let t = serves h.by h.step fs w (run Q es) (suc given) in
      let one = count_one sends_job e [] in
      let none : sents_in [] ≡ 0 = refl in
      let same : ◌≡◌ {A = ℕ} (if sends_job e then 1 else 0) (if is_refusal (reply_to Q h.by c) then 0 else 1) = sent_or_not (is_refusal (reply_to Q h.by c)) in
      let no_got : gots_in es ≡ 0 = none_got_of e refl in
      counts_part s.sent s.got es t
      (counts_from w.sent (s.sent + sents_in es) w.got (s.got + gots_in es) t (omega (arith, one, none, same)) (omega (arith, no_got)) (counts_serves fs w (run Q es) (suc given)))
  counts_serves (frame.Job number origin node text ∷ fs) s Q given =
      let a : Arrival = record { number = number; origin = origin; node = node; text = text } in
      counts_comes (custody_of (got_on Q s.line) number) a (serves h.by h.step fs) (with_frames fs s) Q given (counts_serves fs (with_frames fs s) Q given)

  counts_exchanged : (end : Option Closing) (l : ℕ) (fs : List Frame) (Q : Queue) → Counts 0 0 (exchanged h.by h.step end l fs Q)
  counts_exchanged (Some end) l fs Q = counts_told 0 0 (exchanged h.by h.step (Some end) l fs Q) refl
  counts_exchanged None l fs Q = counts_serves fs (serves_first l) Q 0

  counts_kept : (refused : Bool) (number : ℕ) (n : JobNo) (text : List (List ℕ)) (s : Service) (Q : Queue) → is_refusal (reply_to Q h.by (command.Got s.line number n text)) ≡ refused
      → Counts s.sent s.got (kept h.by h.step refused (command.Got s.line number n text) number n s Q)
  counts_kept true number n text s Q is = counts_told s.sent s.got (kept h.by h.step true (command.Got s.line number n text) number n s Q) refl
  counts_kept false number n text s Q is =
      let c = command.Got s.line number n text in
      let e = entry_of Q h.by h.step c in
      let es = given_in Q h.by h.step (c ∷ []) in
      let one = count_one gets_job e [] in
      let none : gots_in [] ≡ 0 = refl in
      let on : gets_job e ≡ true = rw is refl in
      let one_here : ◌≡◌ {A = ℕ} (if gets_job e then 1 else 0) 1 = rw on refl in
      let no_sent : sents_in es ≡ 0 = none_sent_of e refl in
      counts_part s.sent s.got es (leaves (Away (Acknowledge (Some number) (counts_got s))))
      (counts_waits (s.sent + sents_in es) (s.got + gots_in es) (Acknowledge (Some number) (counts_got s)) (omega (arith, no_sent)) (omega (arith, one, none, one_here)))

  counts_stored : (lost : Option ℕ) (number : ℕ) (n : JobNo) (text : List (List ℕ)) (s : Service) (Q : Queue) → Counts s.sent s.got (stored h.by h.step lost number n text s Q)
  counts_stored None number n text s Q = counts_kept (is_refusal (reply_to Q h.by (command.Got s.line number n text))) number n text s Q refl
  counts_stored (Some volume) number n text s Q = counts_told s.sent s.got (stored h.by h.step (Some volume) number n text s Q) refl

  counts_acknowledged : (number : Option ℕ) (lost : Bool) (s : Service) (Q : Queue) → Counts s.sent s.got (acknowledged h.by h.step number lost s Q)
  counts_acknowledged None lost s Q = counts_serves s.frames s Q 0
  counts_acknowledged (Some k) true s Q = counts_told s.sent s.got (acknowledged h.by h.step (Some k) true s Q) refl
  counts_acknowledged (Some k) false s Q = counts_serves s.frames s Q 0

  counts_task : (task : Task) (Q : Queue) (found : Found) → on_line (Fresh task) ≡ true → Counts 0 0 (turn h Q (Fresh task) found)
  counts_task (Give c) Q found on = absurd (cc)
  counts_task (Deck fields text) Q found on = absurd (cc)
  counts_task (Work n) Q found on = absurd (cc)
  counts_task (Line l) Q found on =
      let c = command.Load l in
      let es = given_in Q h.by h.step (c ∷ []) in
      let a = Exchange l (offered (run Q es) l (reply_to Q h.by c)) in
      counts_part 0 0 es (leaves (Away a))
      (counts_waits (0 + sents_in es) (0 + gots_in es) a (sym (none_sent_of (entry_of Q h.by h.step c) refl)) (sym (none_got_of (entry_of Q h.by h.step c) refl)))

  counts_aside : (a : Aside) (Q : Queue) (found : Found) → on_line (Away a) ≡ true → Counts (sent_before (Away a)) (got_before (Away a)) (turn h Q (Away a) found)
  counts_aside (SpoolDeck n text) Q found on = absurd (cc)
  counts_aside (ReadText runs n fields p) Q found on = absurd (cc)
  counts_aside (SpoolOutputs n specs p) Q found on = absurd (cc)
  counts_aside (PrintLines n i last p) Q found on = absurd (cc)
  counts_aside (Exchange l offer) Q found on = counts_exchanged (exchange_end offer l found) l (heard found) Q
  counts_aside (SpoolArrival number n text s) Q found on = counts_stored found.lost number n text s Q
  counts_aside (Acknowledge number s) Q found on = counts_acknowledged number found.wire s Q

  counts_turn : (s : State) (Q : Queue) (found : Found) → on_line s ≡ true → Counts (sent_before s) (got_before s) (turn h Q s found)
  counts_turn (Fresh task) Q found on = counts_task task Q found on
  counts_turn (Away a) Q found on = counts_aside a Q found on
  counts_turn (Rested p) Q found on = absurd (cc)
  counts_turn Told Q found on = absurd (cc)

pub counts_go_on : CountsGoOn
counts_go_on Q h s found on open_now =
    let c = counts_turn h s Q found on in
    let same = sym (cut_entries [] (turn h Q s found).parts) in (
      subst (λ (es : List Entry). sent_before (turn h Q s found).next ≡ sent_before s + sents_in es) same (c.sents open_now),
      subst (λ (es : List Entry). got_before (turn h Q s found).next ≡ got_before s + gots_in es) same (c.gots open_now),
    )
