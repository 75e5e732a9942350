-- What a turn left of the pieces that it was to give, before it was ended.
use Rattle.std.proofs.Common.{◌≡◌, ◌≢◌, ◌∙◌, ◌⊎◌, inl, inr, ℕ, zero, suc, true, false, List, [], ◌∷◌, ◌++◌, append-nil, drop, map, take, All, IfOk, Option, Some, None, Result, Ok, Err, ap, refl, subst, sym}
use Rattle.std.proofs.lemmas.List.Elements.{All-append, All-cons, All-head, All-nil, All-tail}
use Rattle.mas_types.specs.declared.answers.Closing.{Closing}
use Rattle.mas_types.specs.declared.answers.Closing.TheVariants as closing
use Rattle.mas_types.specs.declared.commands.Reply.{Reply}
use Rattle.mas_types.specs.declared.commands.Reply.TheVariants as reply
use Rattle.mas_types.specs.declared.ids.MemberId.{MemberId}
use Rattle.mas_types.specs.declared.journals.Batch.{Batch}
use Rattle.mas_types.specs.declared.journals.Fate.{Fate}
use Rattle.mas_types.specs.declared.queues.Queue.{Queue}
use Rattle.mas_types.specs.Closings.{closing_line, detail_line, detail_lines, details_of, reply_lines}
use Rattle.mas_types.specs.Run.{run}
use Rattle.lock_cycle.specs.Books.{Book}
use Rattle.spool_plant.specs.View.{Line, View}
use Rattle.spool_plant.specs.declared.plant.Plant.{Ghosts as PlantGhosts}
use Rattle.ckpt_copy.specs.declared.copying.Copying.{Ghosts as CopyGhosts}
use Rattle.mas_complex.specs.Journals.{kept_all}
use Rattle.mas_complex.specs.Paper.{counts_of}
use Rattle.mas_complex.specs.Parts.{Parts}
use Rattle.run_turns.specs.Cuts.{Left, batches_cut, kept_all as kept_pieces, left_by, lines_cut, torn, whole}
use Rattle.run_turns.specs.Pieces.{Piece}
use Rattle.run_turns.specs.Sights.{Cut, Halt, Saying, Waiting, Writing}
use Rattle.race_turns.specs.Turns.{Turn, turn_at}
use Rattle.step_turns.specs.Decks.{lines_by}
use Rattle.step_turns.specs.declared.states.Found.{Found}
use Rattle.step_turns.specs.declared.states.Holder.{Holder}
use Rattle.step_turns.specs.declared.states.State.{State}
use Rattle.step_turns.specs.declared.states.State.TheVariants.{Away, Fresh, Rested, Told}
use Rattle.step_turns.specs.declared.states.Aside.TheVariants.{Acknowledge, Exchange, PrintLines, ReadText, SpoolArrival, SpoolDeck, SpoolOutputs}
use Rattle.step_turns.specs.declared.states.Task.TheVariants.{Deck, Give, Line as LineTask, Work}
use Rattle.step_turns.specs.Laws.{on_line}
use Rattle.step_turns.specs.Sittings.{Sitting}
use Rattle.member_node.specs.Calls.{console_now}
use Rattle.member_node.specs.declared.member.NodeNo.{NodeNo}
use Rattle.member_sittings.specs.Sat.{journal_of}
use Rattle.member_sittings.specs.Shapes.{IsShaped, Says, SaysAtEnd}
use Rattle.member_resets.specs.Cuts.{AreBatched, IsHaltBy}
use Rattle.member_resets.specs.Found.{IsFoundAt}
use Rattle.member_resets.proofs.Cutting.{cut_at}
use Rattle.member_resets.specs.Settling.{settle}
use Rattle.member_racing.specs.Stages.{Raced, stage_of}
use Rattle.member_racing.specs.Turned.{IfActed}
use Rattle.member_racing.specs.declared.stages.Stage.{Stage as Stands}
use Rattle.member_racing.specs.declared.stages.Stage.TheVariants as line

-- LINES of the member's own step

abbrev pub IsOwnText : MemberId → ℕ → List ℕ → Type 0
IsOwnText by at text = ((end : Closing) × (text ≡ closing_line by at end)) ⊎ ((shown : List ℕ) × (text ≡ detail_line by at shown))

abbrev pub OwnTexts : MemberId → ℕ → List (List ℕ) → Type 0
OwnTexts by at texts = All (IsOwnText by at) texts

-- each line that is whole is one of them
abbrev pub OwnLines : MemberId → ℕ → List Line → Type 0
OwnLines by at lines = All (λ (l : Line). l.whole ≡ true → IsOwnText by at l.text) lines

module _ (by : MemberId) (at : ℕ) where
  abbrev IsOwn : Line → Type 0
  IsOwn l = l.whole ≡ true → IsOwnText by at l.text

  pub own_closing : (end : Closing) → OwnTexts by at (closing_line by at end ∷ [])
  own_closing end = All-cons (IsOwnText by at) (closing_line by at end) [] (inl (end, refl)) (All-nil (IsOwnText by at))

  own_details : (shown : List (List ℕ)) → OwnTexts by at (detail_lines by at shown)
  own_details [] = All-nil (IsOwnText by at)
  own_details (t ∷ ts) = All-cons (IsOwnText by at) (detail_line by at t) (detail_lines by at ts) (inr (t, refl)) (own_details ts)

  own_details_of : (r : Reply) → OwnTexts by at (details_of by at r)
  own_details_of (reply.Shown lines) = own_details lines
  own_details_of reply.Plain = All-nil (IsOwnText by at)
  own_details_of (reply.Job n) = All-nil (IsOwnText by at)
  own_details_of (reply.Output n i) = All-nil (IsOwnText by at)
  own_details_of (reply.Count n) = All-nil (IsOwnText by at)
  own_details_of (reply.No why) = All-nil (IsOwnText by at)

  own_reply : (r : Reply) → OwnTexts by at (reply_lines by at r)
  own_reply r = All-append (IsOwnText by at) (details_of by at r) (closing_line by at (closing.Reply r) ∷ []) (own_details_of r) (own_closing (closing.Reply r))

  own_deck : (lost : Option ℕ) (r : Reply) → OwnTexts by at (lines_by by at lost r)
  own_deck None r = own_reply r
  own_deck (Some volume) r = own_closing (closing.SpoolLost volume)

  -- WHOLE LINES, and torn ones
  pub own_whole : (texts : List (List ℕ)) → OwnTexts by at texts → OwnLines by at (map whole texts)
  own_whole [] own = All-nil IsOwn
  own_whole (t ∷ ts) own = All-cons IsOwn (whole t) (map whole ts) (λ is. All-head (IsOwnText by at) t ts own) (own_whole ts (All-tail (IsOwnText by at) t ts own))

  own_take : (n : ℕ) (texts : List (List ℕ)) → OwnTexts by at texts → OwnTexts by at (take n texts)
  own_take zero texts own = All-nil (IsOwnText by at)
  own_take (suc n) [] own = All-nil (IsOwnText by at)
  own_take (suc n) (t ∷ ts) own = All-cons (IsOwnText by at) t (take n ts) (All-head (IsOwnText by at) t ts own) (own_take n ts (All-tail (IsOwnText by at) t ts own))

  own_torn : (tail : Option (List ℕ)) (texts : List (List ℕ)) → OwnLines by at (torn tail texts)
  own_torn None texts = All-nil IsOwn
  own_torn (Some text) [] = All-nil IsOwn
  own_torn (Some text) (t ∷ ts) = All-cons IsOwn (record { text = text; whole = false }) [] (λ is. absurd (cc)) (All-nil IsOwn)

  own_cut : (halt : Halt) (texts : List (List ℕ)) → OwnTexts by at texts → OwnLines by at (lines_cut by halt texts)
  own_cut (Saying n tail) texts own = All-append IsOwn (map whole (take n texts)) (torn tail (drop n texts)) (own_whole (take n texts) (own_take n texts own)) (own_torn tail (drop n texts))
  own_cut (Writing n b) texts own = All-nil IsOwn
  own_cut (Waiting n tail) texts own = All-nil IsOwn

-- of a sitting, by its shape
module _ (h : Holder) (found : Found) (t : Sitting) where
  none_said : (texts : List (List ℕ)) → texts ≡ [] → OwnTexts h.by h.step texts
  none_said texts is = subst (λ (ts : List (List ℕ)). OwnTexts h.by h.step ts) (sym is) (All-nil (IsOwnText h.by h.step))

  at_end : (says : List (List ℕ) → Type 0) → ((texts : List (List ℕ)) → says texts → OwnTexts h.by h.step texts) → (next : State) (texts : List (List ℕ)) → SaysAtEnd next says texts → OwnTexts h.by h.step texts
  at_end says f Told texts s = f texts s
  at_end says f (Fresh task) texts s = none_said texts s
  at_end says f (Away aside) texts s = none_said texts s
  at_end says f (Rested p) texts s = none_said texts s

  own_says : (s : State) → on_line s ≡ false → Says h s found t → OwnTexts h.by h.step t.lines
  own_says (Fresh (Give c)) off says = subst (λ (u : Sitting). OwnTexts h.by h.step u.lines) (sym says.1) (own_reply h.by h.step says.0)
  own_says (Fresh (Deck fields text)) off says =
      at_end _ (λ texts d. subst (λ (ts : List (List ℕ)). OwnTexts h.by h.step ts) (sym d.1) (own_deck h.by h.step None d.0)) t.next t.lines says.1
  own_says (Fresh (Work n)) off says =
      at_end _ (λ texts d. subst (λ (ts : List (List ℕ)). OwnTexts h.by h.step ts) (sym d.1) (own_closing h.by h.step d.0)) t.next t.lines says
  own_says (Fresh (LineTask l)) off says = absurd (cc)
  own_says (Away (SpoolDeck n text)) off says =
      at_end _ (λ texts d. subst (λ (ts : List (List ℕ)). OwnTexts h.by h.step ts) (sym d.1) (own_deck h.by h.step found.lost d.0)) t.next t.lines says.1
  own_says (Away (ReadText runs n fields p)) off says =
      at_end _ (λ texts d. subst (λ (ts : List (List ℕ)). OwnTexts h.by h.step ts) (sym d.1) (own_closing h.by h.step d.0)) t.next t.lines says
  own_says (Away (SpoolOutputs n specs p)) off says =
      at_end _ (λ texts d. subst (λ (ts : List (List ℕ)). OwnTexts h.by h.step ts) (sym d.1) (own_closing h.by h.step d.0)) t.next t.lines says
  own_says (Away (PrintLines n i last p)) off says =
      at_end _ (λ texts d. subst (λ (ts : List (List ℕ)). OwnTexts h.by h.step ts) (sym d.1) (own_closing h.by h.step d.0)) t.next t.lines says
  own_says (Away (Exchange l offer)) off says = absurd (cc)
  own_says (Away (SpoolArrival number n text s)) off says = absurd (cc)
  own_says (Away (Acknowledge number s)) off says = absurd (cc)
  own_says (Rested p) off says =
      at_end _ (λ texts d. subst (λ (ts : List (List ℕ)). OwnTexts h.by h.step ts) (sym d.1) (own_closing h.by h.step d.0)) t.next t.lines says
  own_says Told off says = none_said t.lines says

  pub own_shaped : (s : State) → on_line s ≡ false → IsShaped h s found t → OwnTexts h.by h.step t.lines
  own_shaped s off shaped = own_says s off shaped.says

  -- and before the step is told it says nothing
  end_silent : (says : List (List ℕ) → Type 0) (next : State) (texts : List (List ℕ)) → SaysAtEnd next says texts → next ≢ Told → texts ≡ []
  end_silent says Told texts s unlike = absurd (unlike refl)
  end_silent says (Fresh task) texts s unlike = s
  end_silent says (Away aside) texts s unlike = s
  end_silent says (Rested p) texts s unlike = s

  says_silent : (s : State) → on_line s ≡ false → Says h s found t → t.next ≢ Told → t.lines ≡ []
  says_silent (Fresh (Give c)) off says unlike = absurd (unlike (ap (λ (u : Sitting). u.next) says.1))
  says_silent (Fresh (Deck fields text)) off says unlike = end_silent _ t.next t.lines says.1 unlike
  says_silent (Fresh (Work n)) off says unlike = end_silent _ t.next t.lines says unlike
  says_silent (Fresh (LineTask l)) off says unlike = absurd (cc)
  says_silent (Away (SpoolDeck n text)) off says unlike = end_silent _ t.next t.lines says.1 unlike
  says_silent (Away (ReadText runs n fields p)) off says unlike = end_silent _ t.next t.lines says unlike
  says_silent (Away (SpoolOutputs n specs p)) off says unlike = end_silent _ t.next t.lines says unlike
  says_silent (Away (PrintLines n i last p)) off says unlike = end_silent _ t.next t.lines says unlike
  says_silent (Away (Exchange l offer)) off says unlike = absurd (cc)
  says_silent (Away (SpoolArrival number n text s)) off says unlike = absurd (cc)
  says_silent (Away (Acknowledge number s)) off says unlike = absurd (cc)
  says_silent (Rested p) off says unlike = end_silent _ t.next t.lines says unlike
  says_silent Told off says unlike = says

  pub silent_shaped : (s : State) → on_line s ≡ false → IsShaped h s found t → t.next ≢ Told → t.lines ≡ []
  silent_shaped s off shaped unlike = says_silent s off shaped.says unlike

-- WHAT IS LEFT OF PIECES

abbrev pub left_pieces : MemberId → List Piece → Book → Queue → ℕ → Option Cut → Left
left_pieces by ps b Q count cut = left_by by cut (record { sayer = by; pieces = ps; book = b; locked = false; queue = Q; flight = None }) count

module _ {P C : Type 0} (plants : PlantGhosts P) (copies : CopyGhosts C) where
  abbrev v : Parts P C → View
  v x = plants.view x.plant

  -- these batches stand in the journal behind the others, and these lines on the console
  pub record LeavesSo (by : MemberId) (at : ℕ) (front : List Batch) (l : Left) (old : View) (y : Parts P C) : Type 0 where
    pub more : List Batch
    pub journal : journal_of y ≡ front ++ more
    pub from : ℕ
    pub now : ℕ
    pub batches : AreBatched by from now l.batches more
    pub console : console_now (v y) ≡ console_now old ++ l.lines
    pub texts : OwnLines by at l.lines

  module _ (by : MemberId) (at : ℕ) (front : List Batch) (old : View) (y : Parts P C) (b : Book) (Q : Queue) (count : ℕ) where
    -- all of a piece
    pub whole_so : (p : Piece) (more : List Batch) → journal_of y ≡ front ++ more → (from now : ℕ) → AreBatched by from now (kept_pieces p.sitting.batches) more → console_now (v y) ≡ console_now old ++ map whole p.sitting.lines → OwnTexts by at p.sitting.lines
        → LeavesSo by at front (left_pieces by (p ∷ []) b Q count None) old y
    whole_so p more journal from now batches console own =
        record { more = more; journal = journal; from = from; now = now; batches = batches; console = console; texts = own_whole by at p.sitting.lines own }

    -- what a cut left of it
    pub cut_so : (p : Piece) (e : NodeNo) (halt : Halt) (more : List Batch) → journal_of y ≡ front ++ more → (from now : ℕ) → AreBatched by from now (batches_cut by halt p.sitting.batches) more → console_now (v y) ≡ console_now old ++ lines_cut by halt p.sitting.lines
        → OwnTexts by at p.sitting.lines → LeavesSo by at front (left_pieces by (p ∷ []) b Q count (Some (cut_at e halt))) old y
    cut_so p e halt more journal from now batches console own =
        record { more = more; journal = journal; from = from; now = now; batches = batches; console = console; texts = own_cut by at halt p.sitting.lines own }

    -- nothing
    pub none_so : journal_of y ≡ front → console_now (v y) ≡ console_now old → LeavesSo by at front (left_pieces by [] b Q count None) old y
    none_so journal console = record {
      more = [];
      journal = journal ∙ sym (append-nil front);
      from = 0;
      now = 0;
      batches = tt;
      console = console ∙ sym (append-nil (console_now old));
      texts = All-nil (IsOwn by at);
    }

    pub nothing_so : (ps : List Piece) (e : NodeNo) → journal_of y ≡ front → console_now (v y) ≡ console_now old → LeavesSo by at front (left_pieces by ps b Q count (Some (cut_at e (Writing 0 None)))) old y
    nothing_so [] e journal console = record {
      more = [];
      journal = journal ∙ sym (append-nil front);
      from = 0;
      now = 0;
      batches = tt;
      console = console ∙ sym (append-nil (console_now old));
      texts = All-nil (IsOwn by at);
    }
    nothing_so (p ∷ ps) e journal console = record {
      more = [];
      journal = journal ∙ sym (append-nil front);
      from = 0;
      now = 0;
      batches = tt;
      console = console ∙ sym (append-nil (console_now old));
      texts = All-nil (IsOwn by at);
    }

  -- A TURN

  abbrev pub queue_found : Parts P C → Fate → ℕ → Queue
  queue_found x f moment = run x.base (kept_all (settle f moment (journal_of x)))

  abbrev pub turn_in : Raced → Parts P C → Fate → ℕ → ℕ → Found → Turn
  turn_in r x f moment inked saw = turn_at (queue_found x f moment) x.book r.by r.number r.what (counts_of x.printed r.by) inked saw (stage_of r.stands)

  -- where it was cut, by its answer
  abbrev pub IsCutOf : {T : Type 0} → Result T NodeNo → Option Cut → Type 0
  IsCutOf (Ok done) cut = cut ≡ None
  IsCutOf (Err e) cut = (halt : Halt) × (cut ≡ Some (cut_at e halt)) × IsHaltBy e halt

  -- the turn that the queue and the book give, what was found, and what was left of it
  pub record HasGone (r : Raced) (x y : Parts P C) (tried : Result Stands NodeNo) : Type 0 where
    pub found : Fate
    pub moment : ℕ
    pub saw : Found
    pub inked : ℕ
    pub cut : Option Cut
    pub leaves : LeavesSo r.by r.number (settle found moment (journal_of x))
        (left_pieces r.by (turn_in r x found moment inked saw).pieces x.book (queue_found x found moment) (counts_of x.printed r.by) cut) (v x) y
    pub count : cut ≡ None → counts_of y.printed r.by
        ≡ (left_pieces r.by (turn_in r x found moment inked saw).pieces x.book (queue_found x found moment) (counts_of x.printed r.by) cut).count
    pub honest : IfActed x.book (stage_of r.stands) (λ s. IsFoundAt x.base.config.groups r.by (v x) (v y) (queue_found x found moment) s saw)
    pub by_answer : IsCutOf tried cut
    pub next : IfOk tried (λ s. stage_of s ≡ (turn_in r x found moment inked saw).next)
    -- before the line closes nothing is said
    pub silent : IfOk tried (λ s. s ≢ line.Closed → console_now (v y) ≡ console_now (v x))

  -- by the pieces and the stage after them
  module _ (r : Raced) (x y : Parts P C) (tried : Result Stands NodeNo) (found : Fate) (moment : ℕ) (saw : Found) (inked : ℕ) (cut : Option Cut) (turn : Turn) (same : turn_in r x found moment inked saw ≡ turn) where
    pub gone_by : LeavesSo r.by r.number (settle found moment (journal_of x)) (left_pieces r.by turn.pieces x.book (queue_found x found moment) (counts_of x.printed r.by) cut) (v x) y
        → (cut ≡ None → counts_of y.printed r.by ≡ (left_pieces r.by turn.pieces x.book (queue_found x found moment) (counts_of x.printed r.by) cut).count)
        → IfActed x.book (stage_of r.stands) (λ s. IsFoundAt x.base.config.groups r.by (v x) (v y) (queue_found x found moment) s saw) → IsCutOf tried cut → IfOk tried (λ s. stage_of s ≡ turn.next)
        → IfOk tried (λ s. s ≢ line.Closed → console_now (v y) ≡ console_now (v x)) → HasGone r x y tried
    gone_by leaves count honest by_answer next silent = record {
      silent = silent;
      found = found;
      moment = moment;
      saw = saw;
      inked = inked;
      cut = cut;
      leaves = subst (λ (u : Turn). LeavesSo r.by r.number (settle found moment (journal_of x)) (left_pieces r.by u.pieces x.book (queue_found x found moment) (counts_of x.printed r.by) cut) (v x) y) (sym same) leaves;
      count = subst (λ (u : Turn). cut ≡ None → counts_of y.printed r.by ≡ (left_pieces r.by u.pieces x.book (queue_found x found moment) (counts_of x.printed r.by) cut).count) (sym same) count;
      honest = honest;
      by_answer = by_answer;
      next = subst (λ (u : Turn). IfOk tried (λ s. stage_of s ≡ u.next)) (sym same) next;
    }
