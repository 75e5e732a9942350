-- What the machine of steps gives where a job that came over a line begins.
use Rattle.std.proofs.Common.{◌≡◌, ℕ, ◌+◌, ◌*◌, ◌≤◌, List, [], ◌∷◌, length, All, IfOk, Option, None, Some, Result, Ok, Err, refl, sym, ◌∙◌, ap, subst, arith}
use Rattle.std.proofs.lemmas.List.Elements.{All-nil}
use Rattle.mas_types.specs.declared.answers.Closing.TheVariants as closing
use Rattle.mas_types.specs.declared.ids.JobNo.{JobNo}
use Rattle.mas_types.specs.declared.journals.Entry.{Entry}
use Rattle.mas_types.specs.declared.queues.Queue.{Queue}
use Rattle.mas_types.specs.declared.jobs.JobFields.{JobFields}
use Rattle.mas_types.specs.Closings.{closing_line, reply_lines}
use Rattle.mas_types.specs.Owners.{groups_needed}
use Rattle.card_reader.specs.declared.decks.Refused.{Refused}
use Rattle.card_reader.specs.Decks.{read_as, text_of}
use Rattle.member_decks.specs.Decks.{closing_reply, given_in, opening}
use Rattle.member_decks.specs.Steps.{AreOf}
use Rattle.member_decks.proofs.DeckLemmas.{given_of}
use Rattle.step_turns.specs.Courses.{sittings_most}
use Rattle.step_turns.specs.Decks.{job_opened}
use Rattle.step_turns.specs.Entries.{all_entries}
use Rattle.step_turns.specs.Serving.{Arrival, arrived, begins, opens, reads}
use Rattle.step_turns.specs.Sittings.{Sitting, released, sitting_of}
use Rattle.step_turns.specs.declared.states.Holder.{Holder}
use Rattle.step_turns.specs.declared.states.Service.{Service}
use Rattle.step_turns.specs.declared.states.State.TheVariants.{Away, Told}
use Rattle.step_turns.specs.declared.states.Aside.TheVariants.{SpoolArrival}
use Rattle.step_turns.specs.TurnParts.{Turn, says}
use Rattle.member_node.specs.declared.member.NodeNo.{NodeNo}
use Rattle.member_sittings.specs.declared.ends.SittingEnd.{SittingEnd}
use Rattle.member_sittings.specs.Ends.{ends_in}
use Rattle.member_sittings.specs.Sat.{IsEndOf}
use Rattle.member_sittings.specs.Shapes.{LineLines, SaysAtEnd}
use Rattle.member_sittings.proofs.TurnLemmas.{all_of_one, sit_one}
use Rattle.member_giving.specs.Ready.{HasFewer}
use Rattle.member_frames.specs.declared.arrivals.ReadJob.{ReadJob}
use Rattle.member_frames.specs.Arriving.{arrival_opens, arrival_turn}

module _ (Q : Queue) (h : Holder) (r : ReadJob) (s : Service) where
  abbrev Groups : ℕ
  Groups = groups_needed r.text

  -- the entries of the job's first commands
  abbrev pub Firsts : List Entry
  Firsts = given_in Q h.by h.step (opening Q h.by r.fields Groups)

  abbrev pub ArrivalTurn : Turn
  ArrivalTurn = arrival_turn h r s Q

  parts_are : (o : Option JobNo) → (arrival_opens h o Firsts r s).parts ≡ Firsts ∷ []
  parts_are None = refl
  parts_are (Some n) = refl

  firsts_some : 1 ≤ length Firsts
  firsts_some = omega arith

  pub arrival_sits : sitting_of h (arrival_turn h r s Q) ≡ ends_in h (Firsts ∷ []) ArrivalTurn.next ArrivalTurn.lines
  arrival_sits = sit_one h ArrivalTurn Firsts (parts_are (job_opened Q h.by r.fields Groups)) firsts_some

  abbrev as_opened : Option JobNo → Sitting
  as_opened o = sitting_of h (arrival_opens h o Firsts r s)

  pub arrival_closes : job_opened Q h.by r.fields Groups ≡ None → sitting_of h (arrival_turn h r s Q) ≡ ends_in h (Firsts ∷ []) Told (reply_lines h.by h.step (closing_reply Firsts))
  arrival_closes none = ap as_opened none ∙ sit_one h (arrival_opens h None Firsts r s) Firsts refl firsts_some

  pub arrival_waits : (n : JobNo) → job_opened Q h.by r.fields Groups ≡ Some n → sitting_of h (arrival_turn h r s Q) ≡ ends_in h (Firsts ∷ []) (Away (SpoolArrival r.number n r.text s)) []
  arrival_waits n one = ap as_opened one ∙ sit_one h (arrival_opens h (Some n) Firsts r s) Firsts refl firsts_some

-- however the job's first commands end
module _ (h : Holder) (r : ReadJob) (s : Service) where
  pub arrival_few : (o : Option JobNo) (first es : List Entry) → length (es ∷ []) + sittings_most (arrival_opens h o first r s).next ≤ 2 * length s.frames + 3
  arrival_few None first es = omega arith
  arrival_few (Some n) first es = omega arith

  pub arrival_says : (o : Option JobNo) (first : List Entry) → SaysAtEnd (arrival_opens h o first r s).next (LineLines h) (arrival_opens h o first r s).lines
  arrival_says None first = (closing.Reply (closing_reply first), refl, tt)
  arrival_says (Some n) first = refl

-- THE CARDS, as they were read

module _ (Q : Queue) (h : Holder) (a : Arrival) (s : Service) where
  -- the job as its cards say
  abbrev read_of : JobFields → ReadJob
  read_of fields = record { number = a.number; fields = arrived a fields; text = text_of a.text }

  opens_as : (fields : JobFields) (o : Option JobNo) (es : List Entry) → arrival_opens h o es (read_of fields) s ≡ opens h.by h.step o es a s
  opens_as fields None es = refl
  opens_as fields (Some n) es = refl

  abbrev groups_of : ℕ
  groups_of = groups_needed (text_of a.text)

  -- they are those of a job
  pub cards_open : (fields : JobFields) (text : List (List ℕ)) → read_as Q.config.node a.text ≡ Ok fields → text ≡ text_of a.text → arrival_turn h (record { number = a.number; fields = arrived a fields; text = text }) s Q ≡ begins h.by h.step 0 a s Q
  cards_open fields text is same =
      ap (λ (t : List (List ℕ)). arrival_turn h (record { number = a.number; fields = arrived a fields; text = t }) s Q) same
      ∙ opens_as fields (job_opened Q h.by (arrived a fields) groups_of) (given_in Q h.by h.step (opening Q h.by (arrived a fields) groups_of))
      ∙ ap (λ (r : Result JobFields Refused). reads h.by h.step r a s Q) (sym is)

  -- one of them is refused
  pub card_closes : (bad : Refused) → read_as Q.config.node a.text ≡ Err bad → says (closing_line h.by h.step (closing.BadCard bad.card bad.cause) ∷ []) ≡ begins h.by h.step 0 a s Q
  card_closes bad is = ap (λ (r : Result JobFields Refused). reads h.by h.step r a s Q) (sym is)

  -- however they are read, a sitting comes of it that may be one of a line
  pub record IsOfLine (t : Sitting) : Type 0 where
    pub of : All (AreOf h.by h.step) t.batches
    pub few : length t.batches + sittings_most t.next ≤ 2 * length s.frames + 3
    pub says : SaysAtEnd t.next (LineLines h) t.lines
    pub release : t.release ≡ released h.grant h.hold (length (all_entries t.batches)) t.next

  pub reads_line : (r : Result JobFields Refused) → IsOfLine (sitting_of h (reads h.by h.step r a s Q))
  reads_line (Err bad) = record { of = All-nil (AreOf h.by h.step); few = omega arith; says = (closing.BadCard bad.card bad.cause, refl, tt); release = refl }
  reads_line (Ok fields) =
      let r : ReadJob = read_of fields in
      let o : Option JobNo = job_opened Q h.by r.fields groups_of in
      let first : List Entry = Firsts Q h r s in
      let t : Turn = ArrivalTurn Q h r s in
      subst IsOfLine (sym (arrival_sits Q h r s) ∙ ap (sitting_of h) (opens_as fields o first))
      (record {
        of = all_of_one h.by h.step first (given_of h.by h.step (opening Q h.by r.fields groups_of) Q);
        few = arrival_few h r s o first first;
        says = arrival_says h r s o first;
        release = refl;
      })

-- THE STATE THAT IT LEAVES

pub ends_next : (t : Sitting) (r : Result SittingEnd NodeNo) → IfOk r (λ e. IsEndOf t e) → IfOk r (λ e. e.next ≡ t.next)
ends_next t (Ok e) ends = ends.next
ends_next t (Err why) ends = tt

pub fewer_away : (number : ℕ) (n : JobNo) (text : List (List ℕ)) (s : Service) → HasFewer (2 * length s.frames + 3) (2 * length s.frames + 2) (Away (SpoolArrival number n text s))
fewer_away number n text s = record { falls = omega arith; few = omega arith }
