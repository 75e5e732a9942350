-- What the machine of steps gives in the sittings of a command and of a deck.
use Rattle.member_sittings.proofs.Names.{◌≡◌, ℕ, ◌≤◌, Bool, true, false, List, [], ◌∷◌, length, All, Option, None, Some, if◌then◌else◌, refl, ◌∙◌, ap, arith, All-nil, All-cons, MemberId, Command, Reply, JobFields, Entry, Queue, reply_lines, groups_needed, step, entry_of, reply_to, Opened, are_refused, closing_reply, ends_as, ends_begun, finishing, given_in, lines_by, opening, AreOf, batch_of, cut, is_full, job_begun, job_opened, all_entries, Sitting, released, sit, sitting_of, Found, Holder, State, Away, Fresh, Told, SpoolDeck, deck_found, ends_in, Err, IsSeat, Member, NoMemory, NodeNo, Parts, PlantGhosts, Result, SittingEnd, if_ok, none_out, queue_of, subst, sym, ◌+◌, ◌^◌, Tables}
use Rattle.mas_types.specs.declared.ids.JobNo.{JobNo}
use Rattle.mas_types.specs.declared.commands.Command.TheVariants as command
use Rattle.mas_types.specs.declared.commands.Reply.TheVariants as reply
use Rattle.member_decks.specs.declared.opening.Opened.TheVariants as opened
use Rattle.step_turns.specs.declared.states.Task.TheVariants.{Deck, Give}
use Rattle.step_turns.specs.Turns.{Turn, deck_opens, turn}
use Rattle.member_sittings.specs.Shapes.{IsShaped}
use Rattle.member_sittings.proofs.ReachLemmas.{batch_some}
use Rattle.ckpt_copy.specs.declared.copying.Copying.{Ghosts as CopyGhosts}
use Rattle.member_sittings.proofs.KeepLemmas.{sat_none}
use Rattle.member_sittings.proofs.SeatLemmas.{sat_on}
use Rattle.member_sittings.specs.Ends.{ended, ending}
use Rattle.member_sittings.specs.Sat.{EndsAs, GoesOn, SitsFrom, Start}
use Rattle.member_sittings.specs.Tight.{IfNoWork}

-- A SITTING OF ONE PART

cut_full : (es : List Entry) (b : Bool) → batch_of es ≡ es ∷ [] → (if b then es ∷ [] else batch_of es) ≡ es ∷ []
cut_full es true one = refl
cut_full es false one = one

-- a sitting's only part is one batch
pub cut_one : (es : List Entry) → 1 ≤ length es → cut [] (es ∷ []) ≡ es ∷ []
cut_one es some = cut_full es (is_full es) (batch_some es some)

abbrev sat_with : Holder → State → List (List ℕ) → List (List Entry) → List (List Entry) → Sitting
sat_with h next lines parts batches = record {
  batches = batches;
  next = next;
  lines = lines;
  release = released h.grant h.hold (length (all_entries parts)) next;
}

pub sit_one : (h : Holder) (t : Turn) (es : List Entry) → t.parts ≡ es ∷ [] → 1 ≤ length es → sitting_of h t ≡ ends_in h (es ∷ []) t.next t.lines
sit_one h t es one some =
    ap (λ (parts : List (List Entry)). sat_with h t.next t.lines parts (cut [] parts)) one
    ∙ ap (sat_with h t.next t.lines (es ∷ [])) (cut_one es some)

-- A COMMAND

pub command_sits : (Q : Queue) (h : Holder) (c : Command) (found : Found) → sit Q h (Fresh (Give c)) found ≡ ends_in h ((entry_of Q h.by h.step c ∷ []) ∷ []) Told (reply_lines h.by h.step (reply_to Q h.by c))
command_sits Q h c found = refl

-- A DECK'S FIRST PART

-- how a deck's opening ends, by the job that has its groups
abbrev pub opened_with : Option JobNo → Opened
opened_with None = opened.Closed
opened_with (Some n) = opened.Ready n

by_refused : (b : Bool) (n : JobNo) → (if b then opened.Closed else opened.Ready n) ≡ opened_with (if b then None else Some n)
by_refused true n = refl
by_refused false n = refl

begun_alike : (Q : Queue) (by : MemberId) (groups : ℕ) (r : Reply) → ends_begun Q by groups r ≡ opened_with (job_begun Q by groups r)
begun_alike Q by groups (reply.Job n) = by_refused (are_refused groups Q by groups) n
begun_alike Q by groups _ = refl

pub opened_alike : (Q : Queue) (by : MemberId) (fields : JobFields) (groups : ℕ) → ends_as Q by fields groups ≡ opened_with (job_opened Q by fields groups)
opened_alike Q by fields groups = begun_alike (step Q by (command.Begin fields)).0 by groups (step Q by (command.Begin fields)).1

pub with_closed : (o : Option JobNo) → opened_with o ≡ opened.Closed → o ≡ None
with_closed None is = refl
with_closed (Some n) is = absurd (cc)

pub with_ready : (o : Option JobNo) (n : JobNo) → opened_with o ≡ opened.Ready n → o ≡ Some n
with_ready None n is = absurd (cc)
with_ready (Some m) n is = let same : m ≡ n = cc in ap Some same

module _ (Q : Queue) (h : Holder) (fields : JobFields) (text : List (List ℕ)) (found : Found) where
  abbrev Groups : ℕ
  Groups = groups_needed text

  -- the entries of a deck's opening
  abbrev pub FirstPart : List Entry
  FirstPart = given_in Q h.by h.step (opening Q h.by fields Groups)

  abbrev pub DeckTurn : Turn
  DeckTurn = turn h Q (Fresh (Deck fields text)) found

  parts_are : (o : Option JobNo) → (deck_opens h o FirstPart text).parts ≡ FirstPart ∷ []
  parts_are None = refl
  parts_are (Some n) = refl

  pub first_some : 1 ≤ length FirstPart
  first_some = omega arith

  -- its sitting, by the job that has its groups
  pub deck_sits : (o : Option JobNo) → job_opened Q h.by fields Groups ≡ o → sit Q h (Fresh (Deck fields text)) found ≡ ends_in h (FirstPart ∷ []) (deck_opens h o FirstPart text).next (deck_opens h o FirstPart text).lines
  deck_sits o is = ap (λ (o : Option JobNo). sitting_of h (deck_opens h o FirstPart text)) is ∙ sit_one h (deck_opens h o FirstPart text) FirstPart (parts_are o) first_some

-- however it ends, the first sitting of a deck has the shape of one; its only batch may have other entries
pub opens_shaped : (h : Holder) (fields : JobFields) (text : List (List ℕ)) (found : Found) (o : Option JobNo) (first es : List Entry)
    → IsShaped h (Fresh (Deck fields text)) found (ends_in h (es ∷ []) (deck_opens h o first text).next (deck_opens h o first text).lines)
opens_shaped h fields text found None first es = record { few = omega arith; release = refl; says = (refl, (closing_reply first, refl)) }
opens_shaped h fields text found (Some n) first es = record { few = omega arith; release = refl; says = (refl, refl) }

-- A DECK'S SECOND PART

pub spooled_sits : (Q : Queue) (h : Holder) (n : JobNo) (text : List (List ℕ)) (lost : Option ℕ)
    → sit Q h (Away (SpoolDeck n text)) (deck_found lost) ≡ ends_in h ((entry_of Q h.by h.step (finishing lost n text) ∷ []) ∷ []) Told (lines_by h.by h.step lost (closing_reply (entry_of Q h.by h.step (finishing lost n text) ∷ [])))
spooled_sits Q h n text lost = refl

-- A BATCH OF ONE KIND OF ENTRIES

pub all_of_one : (by : MemberId) (at : ℕ) (es : List Entry) → AreOf by at es → All (λ (l : List Entry). AreOf by at l) (es ∷ [])
all_of_one by at es of = All-cons (λ (l : List Entry). AreOf by at l) es [] of (All-nil (λ (l : List Entry). AreOf by at l))

-- A SITTING that gave commands, and then kept them and ended so

module _ {P C : Type 0} (plants : PlantGhosts P) (copies : CopyGhosts C) (s : Start) (next : State) (lines : List (List ℕ)) where
  abbrev Ends : List Entry → Sitting
  Ends es = ended (ending s.holder next lines) es

  pub sits_by : (x z : Parts P C) (m n l : Member) (r : Result SittingEnd NodeNo) → n.id ≡ m.id → n.checkpoint.level ≡ m.checkpoint.level → n.checkpoint.tables.order ≤ m.checkpoint.tables.order + 2 ^ 19 → EndsAs plants copies (ending s.holder next lines) x z n l r
      → (plants.tells → Ends n.batch ≡ sit (queue_of x) s.holder s.state s.found) → AreOf s.holder.by s.holder.step n.batch → IsShaped s.holder s.state s.found (Ends n.batch) → ((A : Type 0) → A → IfNoWork s.state A) → GoesOn s.state l next
      → SitsFrom plants copies s x z m l r
  sits_by x z m n l r id level order ends is of shaped tight goes =
      let tables = ap (λ (t : Tables). t.order) ends.tables in
      record {
        frame = ends.frame;
        id = ends.id ∙ id;
        sat = record { sitting = Ends n.batch; is = is; of = all_of_one s.holder.by s.holder.step n.batch of; shaped = shaped; sat = ends.sat.sat; tight = tight _ ends.sat.tight };
        again = sat_on plants copies x m n level z l s.holder.step r (omega (arith, order, tables)) ends.again;
        goes = if_ok _ (λ e. GoesOn s.state l e.next) r (λ e end. subst (GoesOn s.state l) (sym end.next) goes) ends.sat.sat.ends;
      }

  -- nothing was done, out of memory
  pub sits_none : (x : Parts P C) (m n : Member) (es : List Entry) → n.id ≡ m.id → 1 ≤ length es → IsSeat plants copies x m → (plants.tells → Ends es ≡ sit (queue_of x) s.holder s.state s.found) → AreOf s.holder.by s.holder.step es → IsShaped s.holder s.state s.found (Ends es) → ((A : Type 0) → A → IfNoWork s.state A)
      → SitsFrom plants copies s x x m n (Err NoMemory)
  sits_none x m n es id some seat is of shaped tight =
      let none = sat_none plants s.holder next lines x es some (none_out x.batches x.batches x.placed x.current refl seat.between.unplaced seat.between.none) in
      record { frame = refl; id = id; sat = record { sitting = Ends es; is = is; of = all_of_one s.holder.by s.holder.step es of; shaped = shaped; sat = none.sat; tight = tight _ none.tight }; again = tt; goes = tt }
