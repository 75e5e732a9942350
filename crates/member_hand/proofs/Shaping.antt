-- The pieces of a step on every plant: of its first one, and of those that follow it.
use Rattle.std.proofs.Common.{◌≡◌, ◌≢◌, ⊎_elim, inl, inr, ℕ, ◌+◌, ◌≤◌, ◌<◌, false, List, [], ◌∷◌, ◌++◌, length, append-nil, All, Option, Some, None, refl, sym, ap, subst, arith}
use Rattle.std.proofs.lemmas.List.{length-append}
use Rattle.std.proofs.lemmas.List.Elements.{All-cons, All-nil, All-weaker}
use Rattle.mas_types.specs.declared.answers.Closing.{Closing}
use Rattle.mas_types.specs.declared.answers.Closing.TheVariants as closing
use Rattle.mas_types.specs.declared.commands.Reply.{Reply}
use Rattle.mas_types.specs.declared.commands.Reply.TheVariants as reply
use Rattle.mas_types.specs.declared.ids.JobNo.{JobNo}
use Rattle.mas_types.specs.declared.ids.MemberId.{MemberId}
use Rattle.mas_types.specs.Closings.{reply_lines}
use Rattle.spool_plant.specs.Acts.{Goes}
use Rattle.spool_plant.specs.View.{View}
use Rattle.ckpt_copy.specs.Moments.{goes_none}
use Rattle.member_steps.specs.Steps.{entry_with}
use Rattle.member_decks.specs.Steps.{AreOf, IsFoundLost}
use Rattle.member_work.specs.Causes.{MayRefuse}
use Rattle.member_work.proofs.CauseLemmas.{wider_found, wider_refusal}
use Rattle.step_turns.specs.Courses.{sittings_most}
use Rattle.step_turns.specs.Laws.{units_done, units_left}
use Rattle.step_turns.specs.Sittings.{Sitting}
use Rattle.step_turns.specs.declared.states.Found.{Found}
use Rattle.step_turns.specs.declared.states.Holder.{Holder}
use Rattle.step_turns.specs.declared.states.State.{State}
use Rattle.step_turns.specs.declared.states.Aside.TheVariants.{Acknowledge, Exchange, PrintLines, ReadText, SpoolArrival, SpoolDeck, SpoolOutputs}
use Rattle.step_turns.specs.declared.states.State.TheVariants.{Away, Fresh, Rested, Told}
use Rattle.step_turns.specs.declared.states.Task.TheVariants.{Deck, Give, Line, Work}
use Rattle.run_turns.specs.Pieces.{Piece, piece_of}
use Rattle.member_sittings.specs.Ends.{ends_in}
use Rattle.member_sittings.specs.Shapes.{LineLines, DeckLines, IsShaped, MayRefuseBy, Says, SaysAtEnd, SaysLine, WorkLines}
use Rattle.member_hand.specs.Shapes.{AreFewPieces, AreShaped, DeckLinesIn, IsFailedFound, SaysIn, WorkLinesIn, batches_in}
use Rattle.member_hand.specs.Sits.{ComesTo, IsDeckTask, IsLineTask, IsServing, IsWork}

-- lines that are said at the end alone
at_end : (next : State) (P Q : List (List ℕ) → Type 0) → ((ls : List (List ℕ)) → P ls → Q ls) → (lines : List (List ℕ)) → SaysAtEnd next P lines → SaysAtEnd next Q lines
at_end Told P Q f lines says = f lines says
at_end (Fresh task) P Q f lines says = says
at_end (Away aside) P Q f lines says = says
at_end (Rested p) P Q f lines says = says

-- WHAT FAILED IN A STRETCH OF ACTS failed in a longer one

module _ (old v0 v1 new : View) (before : Goes old v0) (after : Goes v1 new) where
  lost_in : (lost : Option ℕ) → IsFoundLost lost v0 v1 → IsFoundLost lost old new
  lost_in lost f = wider_found lost old v0 v1 new before after f

  refuse_in : (by : MemberId) (end : Closing) → MayRefuse by end v0 v1 → MayRefuse by end old new
  refuse_in by end f = wider_refusal by old v0 v1 new before after end f

-- A SITTING'S LINES, by its state

work_first : (h : Holder) (units : ℕ) (found : Found) (old new : View) (t : Sitting) → SaysAtEnd t.next (WorkLines h units found) t.lines → SaysAtEnd t.next (WorkLinesIn h units found old new) t.lines
work_first h units found old new t says = at_end t.next (WorkLines h units found) (WorkLinesIn h units found old new) (λ ls w. (w.0, w.1, inl w.2)) t.lines says

says_first : (h : Holder) (s : State) (found : Found) (old new : View) (t : Sitting) → Says h s found t → SaysIn h s found old new t
says_first h (Fresh (Give c)) found old new t says = tt
says_first h (Fresh (Deck fields text)) found old new t says =
    at_end t.next (DeckLines h None) (DeckLinesIn h found old new) (λ ls d. (None, d.0, d.1, inr tt)) t.lines says.1
says_first h (Away (SpoolDeck n text)) found old new t says =
    at_end t.next (DeckLines h found.lost) (DeckLinesIn h found old new) (λ ls d. (found.lost, d.0, d.1, inl refl)) t.lines says.1
says_first h (Fresh (Work n)) found old new t says = work_first h (units_done (Fresh (Work n)) + units_left (Fresh (Work n))) found old new t says
says_first h (Away (ReadText runs n fields p)) found old new t says =
    work_first h (units_done (Away (ReadText runs n fields p)) + units_left (Away (ReadText runs n fields p))) found old new t says
says_first h (Away (SpoolOutputs n specs p)) found old new t says = work_first h (units_done (Away (SpoolOutputs n specs p)) + units_left (Away (SpoolOutputs n specs p))) found old new t says
says_first h (Away (PrintLines n i last p)) found old new t says = work_first h (units_done (Away (PrintLines n i last p)) + units_left (Away (PrintLines n i last p))) found old new t says
says_first h (Fresh (Line l)) found old new t says = at_end t.next (λ (ls : List (List ℕ)). ⊥) (LineLines h) (λ ls none. absurd none) t.lines says.1
says_first h (Away (Exchange l offer)) found old new t says = says
says_first h (Away (SpoolArrival number job cards service)) found old new t says = says.1
says_first h (Away (Acknowledge number service)) found old new t says = says
says_first h (Rested p) found old new t says = work_first h (units_done (Rested p) + units_left (Rested p)) found old new t says
says_first h Told found old new t says = tt

task_serves : (s : State) → IsLineTask s → IsServing s
task_serves (Fresh (Line l)) task = tt
task_serves (Fresh (Give c)) task = absurd task
task_serves (Fresh (Deck fields cards)) task = absurd task
task_serves (Fresh (Work m)) task = absurd task
task_serves (Away aside) task = absurd task
task_serves (Rested p) task = absurd task
task_serves Told task = absurd task

-- ITS PIECE ALONE

module _ (h : Holder) (found : Found) (old new : View) (t : Sitting) where
  abbrev p : Piece
  p = piece_of t false []

  few_one : (s : State) → 1 ≤ sittings_most s → length t.batches ≤ sittings_most s → SaysIn h s found old new t → AreFewPieces h s found old new (p ∷ [])
  few_one s some few says =
      let many : length (t.batches ++ []) ≡ length t.batches = ap length (append-nil t.batches) in
      record { few = some; kept = omega (arith, many, few); says = All-cons (λ q. SaysIn h s found old new q.sitting) p [] says (All-nil (λ q. SaysIn h s found old new q.sitting)) }

  pub shaped_one : (s : State) → s ≢ Told → 1 ≤ sittings_most s → IsShaped h s found t → AreShaped h s found old new (p ∷ [])
  shaped_one (Fresh (Give c)) ne some is = (is.says.0, ap (λ (u : Sitting). piece_of u false [] ∷ []) is.says.1)
  shaped_one (Fresh (Deck fields text)) ne some is = let few = is.few in few_one (Fresh (Deck fields text)) some (omega (arith, few)) (says_first h (Fresh (Deck fields text)) found old new t is.says)
  shaped_one (Fresh (Work n)) ne some is = let few = is.few in few_one (Fresh (Work n)) some (omega (arith, few)) (says_first h (Fresh (Work n)) found old new t is.says)
  shaped_one (Fresh (Line l)) ne some is = let few = is.few in few_one (Fresh (Line l)) some (omega (arith, few)) (says_first h (Fresh (Line l)) found old new t is.says)
  shaped_one (Away aside) ne some is = let few = is.few in few_one (Away aside) some (omega (arith, few)) (says_first h (Away aside) found old new t is.says)
  shaped_one (Rested q) ne some is = let few = is.few in few_one (Rested q) some (omega (arith, few)) (says_first h (Rested q) found old new t is.says)
  shaped_one Told ne some is = absurd (ne refl)

-- A STEP THAT TOOK NO SEAT has a piece of no sitting

abbrev pub blank_sitting : Holder → State → Sitting
blank_sitting h (Fresh (Give c)) = ends_in h ((entry_with h.by h.step c reply.Plain ∷ []) ∷ []) Told (reply_lines h.by h.step reply.Plain)
blank_sitting h s = ends_in h [] (Rested (record { done = 0; left = 0 })) []

few_blank : (h : Holder) (found : Found) (old new : View) (s : State) → 1 ≤ sittings_most s → SaysIn h s found old new (ends_in h [] (Rested (record { done = 0; left = 0 })) [])
    → AreFewPieces h s found old new (piece_of (ends_in h [] (Rested (record { done = 0; left = 0 })) []) false [] ∷ [])
few_blank h found old new s some says = record { few = some; kept = omega arith; says = All-cons (λ q. SaysIn h s found old new q.sitting) (piece_of (ends_in h [] (Rested (record { done = 0; left = 0 })) []) false []) [] says (All-nil _) }

pub shaped_blank : (h : Holder) (found : Found) (old new : View) (s : State) → s ≢ Told → 1 ≤ sittings_most s → AreShaped h s found old new (piece_of (blank_sitting h s) false [] ∷ [])
shaped_blank h found old new (Fresh (Give c)) ne some = (reply.Plain, refl)
shaped_blank h found old new (Fresh (Deck fields text)) ne some = few_blank h found old new (Fresh (Deck fields text)) some refl
shaped_blank h found old new (Fresh (Work n)) ne some = few_blank h found old new (Fresh (Work n)) some refl
shaped_blank h found old new (Fresh (Line l)) ne some = few_blank h found old new (Fresh (Line l)) some refl
shaped_blank h found old new (Away (SpoolDeck n text)) ne some = few_blank h found old new (Away (SpoolDeck n text)) some refl
shaped_blank h found old new (Away (ReadText runs n fields p)) ne some = few_blank h found old new (Away (ReadText runs n fields p)) some refl
shaped_blank h found old new (Away (SpoolOutputs n specs p)) ne some = few_blank h found old new (Away (SpoolOutputs n specs p)) some refl
shaped_blank h found old new (Away (PrintLines n i last p)) ne some = few_blank h found old new (Away (PrintLines n i last p)) some refl
shaped_blank h found old new (Away (Exchange l offer)) ne some = few_blank h found old new (Away (Exchange l offer)) some refl
shaped_blank h found old new (Away (SpoolArrival number job cards service)) ne some = few_blank h found old new (Away (SpoolArrival number job cards service)) some refl
shaped_blank h found old new (Away (Acknowledge number service)) ne some = few_blank h found old new (Away (Acknowledge number service)) some refl
shaped_blank h found old new (Rested p) ne some = few_blank h found old new (Rested p) some refl
shaped_blank h found old new Told ne some = absurd (ne refl)

pub blank_own : (h : Holder) (s : State) → All (AreOf h.by h.step) (blank_sitting h s).batches
blank_own h (Fresh (Give c)) = All-cons (AreOf h.by h.step) _ [] (All-cons (λ e. (e.by ≡ h.by) × (e.step ≡ h.step)) _ [] (refl, refl) (All-nil _)) (All-nil _)
blank_own h (Fresh (Deck fields text)) = All-nil _
blank_own h (Fresh (Work n)) = All-nil _
blank_own h (Fresh (Line l)) = All-nil _
blank_own h (Away aside) = All-nil _
blank_own h (Rested p) = All-nil _
blank_own h Told = All-nil _

-- THE FIRST PIECE AND THOSE THAT FOLLOW

module _ (h : Holder) (hold : ℕ) (found later : Found) (v0 v1 v2 : View) (one : Goes v0 v1) (two : Goes v1 v2) (failed : IsFailedFound h.by later v0 v1) (t : Sitting) (ps : List Piece) where
  abbrev k : Holder
  k = record h { hold = hold }

  abbrev first : Piece
  first = piece_of t false []

  refused_reply : (r : Reply) → MayRefuseBy later (closing.Reply r) → MayRefuse h.by (closing.Reply r) v0 v2
  refused_reply (reply.No why) r = tt
  refused_reply reply.Plain r = absurd r
  refused_reply (reply.Job n) r = absurd r
  refused_reply (reply.Output n i) r = absurd r
  refused_reply (reply.Count n) r = absurd r
  refused_reply (reply.Shown lines) r = absurd r

  -- what was found before the sitting failed in the acts before it
  refused : (end : Closing) → MayRefuseBy later end → MayRefuse h.by end v0 v2
  refused (closing.Reply answer) r = refused_reply answer r
  refused (closing.NoText group) r = tt
  refused (closing.SpoolLost volume) r =
      lost_in v0 v0 v1 v2 (goes_none v0) two (Some volume) (⊎_elim (λ is. subst (λ (l : Option ℕ). IsFoundLost l v0 v1) is failed.lost) (λ is. failed.read volume is) r)
  refused closing.PrinterLost r = refuse_in v0 v0 v1 v2 (goes_none v0) two h.by closing.PrinterLost (failed.printer r)
  refused (closing.DoneUnits n) r = absurd r
  refused (closing.Busy m) r = absurd r
  refused (closing.Dormant tick) r = absurd r
  refused closing.Down r = absurd r
  refused closing.Stopped r = absurd r
  refused (closing.Up m) r = absurd r
  refused (closing.ResetOf m) r = absurd r
  refused closing.NotHolder r = absurd r
  refused (closing.BadCard card cause) r = absurd r
  refused (closing.LineLost line) r = absurd r
  refused (closing.NotLost copy) r = absurd r
  refused (closing.CkptLost copy) r = absurd r
  refused (closing.Line sent got) r = absurd r

  work_lines : (was is : ℕ) → is ≤ was → (ls : List (List ℕ)) → WorkLinesIn k is later v1 v2 ls → WorkLinesIn h was found v0 v2 ls
  work_lines was is le ls w = (
    w.0,
    w.1,
    ⊎_elim
        (λ c. ⊎_elim (λ d. inl (inl (d.0, let few = d.1 in omega (arith, few, le), d.2))) (λ r. inr (refused w.0 r)) c)
        (λ r. inr (refuse_in v0 v1 v2 v2 one (goes_none v2) h.by w.0 r)) w.2,
  )

  deck_lines : (ls : List (List ℕ)) → DeckLinesIn k later v1 v2 ls → DeckLinesIn h found v0 v2 ls
  deck_lines ls d =
      (d.0, d.1, d.2, inr (⊎_elim (λ is. lost_in v0 v0 v1 v2 (goes_none v0) two d.0 (subst (λ (l : Option ℕ). IsFoundLost l v0 v1) (sym is) failed.lost)) (λ f. lost_in v0 v1 v2 v2 one (goes_none v2) d.0 f) d.3))

  -- as work says
  to_work : (s : State) (q : Sitting) → IsWork s → SaysAtEnd q.next (WorkLinesIn h (units_done s + units_left s) found v0 v2) q.lines → SaysIn h s found v0 v2 q
  to_work (Fresh (Work n)) q w says = says
  to_work (Away (ReadText runs n fields p)) q w says = says
  to_work (Away (SpoolOutputs n specs p)) q w says = says
  to_work (Away (PrintLines n i last p)) q w says = says
  to_work (Rested p) q w says = says
  to_work (Fresh (Give c)) q w says = absurd w
  to_work (Fresh (Deck fields text)) q w says = absurd w
  to_work (Away (SpoolDeck n text)) q w says = absurd w
  to_work (Fresh (Line l)) q w says = absurd w
  to_work (Away (Exchange l offer)) q w says = absurd w
  to_work (Away (SpoolArrival number job cards service)) q w says = absurd w
  to_work (Away (Acknowledge number service)) q w says = absurd w
  to_work Told q w says = absurd w

  of_work : (s : State) (q : Sitting) → IsWork s → SaysIn k s later v1 v2 q → SaysAtEnd q.next (WorkLinesIn k (units_done s + units_left s) later v1 v2) q.lines
  of_work (Fresh (Work n)) q w says = says
  of_work (Away (ReadText runs n fields p)) q w says = says
  of_work (Away (SpoolOutputs n specs p)) q w says = says
  of_work (Away (PrintLines n i last p)) q w says = says
  of_work (Rested p) q w says = says
  of_work (Fresh (Give c)) q w says = absurd w
  of_work (Fresh (Deck fields text)) q w says = absurd w
  of_work (Away (SpoolDeck n text)) q w says = absurd w
  of_work (Fresh (Line l)) q w says = absurd w
  of_work (Away (Exchange l offer)) q w says = absurd w
  of_work (Away (SpoolArrival number job cards service)) q w says = absurd w
  of_work (Away (Acknowledge number service)) q w says = absurd w
  of_work Told q w says = absurd w

  to_few : (s : State) → IsWork s → AreFewPieces h s found v0 v2 (first ∷ ps) → AreShaped h s found v0 v2 (first ∷ ps)
  to_few (Fresh (Work n)) w few = few
  to_few (Away aside) w few = few
  to_few (Rested p) w few = few
  to_few (Fresh (Give c)) w few = absurd w
  to_few (Fresh (Deck fields text)) w few = absurd w
  to_few (Fresh (Line l)) w few = absurd w
  to_few Told w few = absurd w

  of_few : (s : State) → IsWork s → AreShaped k s later v1 v2 ps → AreFewPieces k s later v1 v2 ps
  of_few (Fresh (Work n)) w few = few
  of_few (Away aside) w few = few
  of_few (Rested p) w few = few
  of_few (Fresh (Give c)) w few = absurd w
  of_few (Fresh (Deck fields text)) w few = absurd w
  of_few (Fresh (Line l)) w few = absurd w
  of_few Told w few = absurd w

  few_then : (s n : State) → t.next ≡ n → sittings_most n < sittings_most s → length t.batches + sittings_most t.next ≤ sittings_most s → SaysIn h s found v0 v2 t
      → ((q : Sitting) → SaysIn k n later v1 v2 q → SaysIn h s found v0 v2 q) → AreFewPieces k n later v1 v2 ps → AreFewPieces h s found v0 v2 (first ∷ ps)
  few_then s n next falls few says conv rest =
      let same : sittings_most t.next ≡ sittings_most n = ap sittings_most next in
      let less = rest.few in
      let kept = rest.kept in
      let both : length (t.batches ++ batches_in ps) ≡ length t.batches + length (batches_in ps) = length-append t.batches (batches_in ps) in
      record {
        few = omega (arith, falls, less);
        kept = omega (arith, both, kept, few, same);
        says = All-cons (λ q. SaysIn h s found v0 v2 q.sitting) first ps says (All-weaker (λ q. SaysIn k n later v1 v2 q.sitting) (λ q. SaysIn h s found v0 v2 q.sitting) (λ q is. conv q.sitting is) ps rest.says);
      }

  none_left : (n : State) → n ≡ Told → AreShaped k n later v1 v2 ps → ps ≡ []
  none_left Told is rest = no_more ps rest.few where
    no_more : (qs : List Piece) → length qs ≤ 0 → qs ≡ []
    no_more [] le = refl
    no_more (q ∷ qs) le = absurd (omega (arith, le))
  none_left (Fresh task) is rest = absurd (cc)
  none_left (Away aside) is rest = absurd (cc)
  none_left (Rested p) is rest = absurd (cc)

  -- a step that works
  work_then : (s n : State) → IsWork s → IsWork n → s ≢ Told → t.next ≡ n → sittings_most n < sittings_most s → units_done n + units_left n ≤ units_done s + units_left s → IsShaped h s found t → AreShaped k n later v1 v2 ps
      → AreShaped h s found v0 v2 (first ∷ ps)
  work_then s n ws wn ne next falls units is rest =
      to_few s ws (few_then s n next falls is.few (says_first h s found v0 v2 t is.says)
      (λ q says. to_work s q ws (at_end q.next (WorkLinesIn k (units_done n + units_left n) later v1 v2) (WorkLinesIn h (units_done s + units_left s) found v0 v2) (work_lines (units_done s + units_left s) (units_done n + units_left n) units) q.lines (of_work n q wn says)))
      (of_few n wn rest))

  -- a step that serves a line

  of_line : (n : State) (q : Sitting) → IsServing n → SaysIn k n later v1 v2 q → SaysLine h q
  of_line (Away (Exchange l offer)) q on says = says
  of_line (Away (SpoolArrival number job cards service)) q on says = says
  of_line (Away (Acknowledge number service)) q on says = says
  of_line (Away (SpoolDeck n text)) q on says = absurd on
  of_line (Away (ReadText runs n fields p)) q on says = absurd on
  of_line (Away (SpoolOutputs n specs p)) q on says = absurd on
  of_line (Away (PrintLines n i last p)) q on says = absurd on
  of_line (Fresh (Line l)) q on says = says
  of_line (Fresh (Give c)) q on says = absurd on
  of_line (Fresh (Deck fields text)) q on says = absurd on
  of_line (Fresh (Work n)) q on says = absurd on
  of_line (Rested p) q on says = absurd on
  of_line Told q on says = absurd on

  few_line : (n : State) → IsServing n → AreShaped k n later v1 v2 ps → AreFewPieces k n later v1 v2 ps
  few_line (Away aside) on few = few
  few_line (Fresh (Line l)) on few = few
  few_line (Fresh (Give c)) on few = absurd on
  few_line (Fresh (Deck fields text)) on few = absurd on
  few_line (Fresh (Work n)) on few = absurd on
  few_line (Rested p) on few = absurd on
  few_line Told on few = absurd on

  serves_then : (s n : State) → IsServing n → ((q : Sitting) → SaysLine h q → SaysIn h s found v0 v2 q) → t.next ≡ n → sittings_most n < sittings_most s → IsShaped h s found t → AreShaped k n later v1 v2 ps → AreFewPieces h s found v0 v2 (first ∷ ps)
  serves_then s n on to next falls is rest =
      few_then s n next falls is.few (says_first h s found v0 v2 t is.says) (λ q says. to q (of_line n q on says)) (few_line n on rest)

  line_then : (s n : State) → IsServing s → IsServing n → t.next ≡ n → sittings_most n < sittings_most s → IsShaped h s found t → AreShaped k n later v1 v2 ps → AreShaped h s found v0 v2 (first ∷ ps)
  line_then (Away (Exchange l offer)) n was on next falls is rest = serves_then (Away (Exchange l offer)) n on (λ q says. says) next falls is rest
  line_then (Away (SpoolArrival number job cards service)) n was on next falls is rest = serves_then (Away (SpoolArrival number job cards service)) n on (λ q says. says) next falls is rest
  line_then (Away (Acknowledge number service)) n was on next falls is rest = serves_then (Away (Acknowledge number service)) n on (λ q says. says) next falls is rest
  line_then (Away (SpoolDeck m text)) n was on next falls is rest = absurd was
  line_then (Away (ReadText runs m fields p)) n was on next falls is rest = absurd was
  line_then (Away (SpoolOutputs m specs p)) n was on next falls is rest = absurd was
  line_then (Away (PrintLines m i last p)) n was on next falls is rest = absurd was
  line_then (Fresh (Line l)) n was on next falls is rest = serves_then (Fresh (Line l)) n on (λ q says. says) next falls is rest
  line_then (Fresh (Give c)) n was on next falls is rest = absurd was
  line_then (Fresh (Deck fields cards)) n was on next falls is rest = absurd was
  line_then (Fresh (Work m)) n was on next falls is rest = absurd was
  line_then (Rested p) n was on next falls is rest = absurd was
  line_then Told n was on next falls is rest = absurd was

  told_then : (s : State) → s ≢ Told → 1 ≤ sittings_most s → IsShaped h s found t → ps ≡ [] → AreShaped h s found v0 v2 (first ∷ ps)
  told_then s ne some is none = subst (λ (qs : List Piece). AreShaped h s found v0 v2 (first ∷ qs)) (sym none) (shaped_one h found v0 v2 t s ne some is)

  deck_then : (s : State) (n : JobNo) (text : List (List ℕ)) → IsDeckTask s → t.next ≡ Away (SpoolDeck n text) → sittings_most (Away (SpoolDeck n text)) < sittings_most s → IsShaped h s found t → AreShaped k (Away (SpoolDeck n text)) later v1 v2 ps
      → AreShaped h s found v0 v2 (first ∷ ps)
  deck_then (Fresh (Deck fields cards)) n text d next falls is rest =
      few_then (Fresh (Deck fields cards)) (Away (SpoolDeck n text)) next falls is.few (says_first h (Fresh (Deck fields cards)) found v0 v2 t is.says)
      (λ q says. at_end q.next (DeckLinesIn k later v1 v2) (DeckLinesIn h found v0 v2) deck_lines q.lines says) rest
  deck_then (Fresh (Give c)) n text d next falls is rest = absurd d
  deck_then (Fresh (Work m)) n text d next falls is rest = absurd d
  deck_then (Fresh (Line l)) n text d next falls is rest = absurd d
  deck_then (Away aside) n text d next falls is rest = absurd d
  deck_then (Rested p) n text d next falls is rest = absurd d
  deck_then Told n text d next falls is rest = absurd d

  pub shaped_then : (s n : State) → s ≢ Told → 1 ≤ sittings_most s → t.next ≡ n → ComesTo s n → sittings_most n < sittings_most s → units_done n + units_left n ≤ units_done s + units_left s → IsShaped h s found t → AreShaped k n later v1 v2 ps
      → AreShaped h s found v0 v2 (first ∷ ps)
  shaped_then s Told ne some next comes falls units is rest = told_then s ne some is (none_left Told refl rest)
  shaped_then s (Fresh task) ne some next comes falls units is rest = absurd comes
  shaped_then s (Rested p) ne some next comes falls units is rest = work_then s (Rested p) comes tt ne next falls units is rest
  shaped_then s (Away (SpoolDeck n text)) ne some next comes falls units is rest = deck_then s n text comes next falls is rest
  shaped_then s (Away (ReadText runs n fields p)) ne some next comes falls units is rest = work_then s (Away (ReadText runs n fields p)) comes tt ne next falls units is rest
  shaped_then s (Away (SpoolOutputs n specs p)) ne some next comes falls units is rest = work_then s (Away (SpoolOutputs n specs p)) comes tt ne next falls units is rest
  shaped_then s (Away (PrintLines n i last p)) ne some next comes falls units is rest = work_then s (Away (PrintLines n i last p)) comes tt ne next falls units is rest
  shaped_then s (Away (Exchange l offer)) ne some next comes falls units is rest = line_then s (Away (Exchange l offer)) (task_serves s comes) tt next falls is rest
  shaped_then s (Away (SpoolArrival number job cards service)) ne some next comes falls units is rest = line_then s (Away (SpoolArrival number job cards service)) comes tt next falls is rest
  shaped_then s (Away (Acknowledge number service)) ne some next comes falls units is rest = line_then s (Away (Acknowledge number service)) comes tt next falls is rest
