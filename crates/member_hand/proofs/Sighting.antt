-- What a step finds from a state on, with what it found before: its pieces are the first one and those that follow.
use Rattle.std.proofs.Common.{◌≡◌, ◌≢◌, ℕ, zero, suc, ◌+◌, ◌<◌, Bool, true, false, if◌then◌else◌, List, [], ◌∷◌, length, Option, Some, None, refl, sym, ap, ◌∙◌, arith}
use Rattle.std.proofs.Math.Seq.{take-nil}
use Rattle.mas_types.specs.declared.journals.Entry.{Entry}
use Rattle.mas_types.specs.declared.queues.Queue.{Queue}
use Rattle.mas_types.specs.Run.{run}
use Rattle.step_turns.specs.Courses.{holder_then, sittings_most}
use Rattle.step_turns.specs.Entries.{all_entries}
use Rattle.step_turns.specs.Sittings.{Sitting, sit}
use Rattle.step_turns.specs.declared.states.Found.{Found}
use Rattle.step_turns.specs.declared.states.Holder.{Holder}
use Rattle.step_turns.specs.declared.states.State.{State}
use Rattle.step_turns.specs.declared.states.State.TheVariants.{Away, Fresh, Rested, Told}
use Rattle.step_turns.specs.declared.states.Aside.TheVariants.{Acknowledge, Exchange, PrintLines, ReadText, SpoolArrival, SpoolDeck, SpoolOutputs}
use Rattle.step_turns.specs.Serving.{bytes_given}
use Rattle.step_turns.proofs.Sittings.{some_may_follow, steps_end}
use Rattle.run_turns.specs.Scenes.{count_then}
use Rattle.run_turns.specs.Sights.{Cut, Sight}
use Rattle.run_turns.specs.Pieces.{Piece, chunk, inked_of, piece_of, pieces_from, poured, poured_of, unless_told, with_given}
use Rattle.member_hand.proofs.Fuel.{enough_of, finding, finds_here, finds_later, ink_is_free, loses_ink, none_inked, piece_by, same_pieces}

-- THE SAME STANDS ON PAPER, and on the line, whichever number is looked at

same_ink : (b : Bool) (i j : ℕ) (lines : List (List ℕ)) → inked_of b (if b then i else j) lines ≡ inked_of b i lines
same_ink true i j lines = refl
same_ink false i j lines = refl

no_ink : (b : Bool) (i j : ℕ) → inked_of b j [] ≡ inked_of b i []
no_ink b i j = none_inked b j ∙ sym (none_inked b i)

ink_alike : (s : State) (found : Found) (i j : ℕ) (Q : Queue) (count : ℕ)
    → inked_of found.printer (if loses_ink s found then i else j) (chunk Q count s found.read) ≡ inked_of found.printer i (chunk Q count s found.read)
ink_alike (Away (PrintLines n output last p)) found i j Q count = same_ink found.printer i j (chunk Q count (Away (PrintLines n output last p)) found.read)
ink_alike (Away (Exchange l offer)) found i j Q count = no_ink found.printer i (if found.wire then i else j)
ink_alike (Away (Acknowledge (Some number) service)) found i j Q count = no_ink found.printer i (if found.wire then i else j)
ink_alike (Away (Acknowledge None service)) found i j Q count = no_ink found.printer i j
ink_alike (Away (SpoolArrival number job cards service)) found i j Q count = no_ink found.printer i j
ink_alike (Away (SpoolDeck n text)) found i j Q count = no_ink found.printer i j
ink_alike (Away (ReadText runs n fields p)) found i j Q count = no_ink found.printer i j
ink_alike (Away (SpoolOutputs n specs p)) found i j Q count = no_ink found.printer i j
ink_alike (Fresh task) found i j Q count = no_ink found.printer i j
ink_alike (Rested p) found i j Q count = no_ink found.printer i j
ink_alike Told found i j Q count = no_ink found.printer i j

same_poured : (b : Bool) (i j : ℕ) (bytes : List ℕ) → poured_of b (if b then i else j) bytes ≡ poured_of b i bytes
same_poured true i j bytes = refl
same_poured false i j bytes = refl

none_poured : (b : Bool) (i j : ℕ) → poured_of b j [] ≡ poured_of b i []
none_poured true i j = take-nil j ∙ sym (take-nil i)
none_poured false i j = refl

pour_alike : (s : State) (found : Found) (i j : ℕ) → poured (if loses_ink s found then i else j) s found ≡ poured i s found
pour_alike (Away (Exchange l offer)) found i j = same_poured found.wire i j (bytes_given (Away (Exchange l offer)) found.read)
pour_alike (Away (Acknowledge (Some number) service)) found i j = same_poured found.wire i j (bytes_given (Away (Acknowledge (Some number) service)) found.read)
pour_alike (Away (Acknowledge None service)) found i j = none_poured found.wire i j
pour_alike (Away (SpoolArrival number job cards service)) found i j = refl
pour_alike (Away (SpoolDeck n text)) found i j = refl
pour_alike (Away (ReadText runs n fields p)) found i j = refl
pour_alike (Away (SpoolOutputs n specs p)) found i j = refl
pour_alike (Away (PrintLines n output last p)) found i j = refl
pour_alike (Fresh task) found i j = refl
pour_alike (Rested p) found i j = refl
pour_alike Told found i j = refl

-- a sight from here on, with what is found here and how much of it was done of what is printed or given after it
abbrev pub sight_then : Sight → ℕ → Found → Bool → ℕ → Option Cut → Sight
sight_then R most found lost inked cut =
    record { finds = finding most found R.finds; inked = if lost then inked else R.inked; flight = R.flight; renewed = R.renewed; cut = cut }

-- a piece of this sitting, by what was found in the acts after it
abbrev pub piece_now : ℕ → Queue → Holder → Sitting → Found → ℕ → Piece
piece_now n Q h t found inked =
    let es = all_entries t.batches in
    with_given (poured inked t.next found) (piece_of t found.printer (inked_of found.printer inked (chunk (run Q es) (count_then h.by es n) t.next found.read)))

-- a piece, and those that follow it by a sight
abbrev pub piece_and : Sight → ℕ → Queue → Holder → Piece → List Piece
piece_and R n Q h p =
    let es = all_entries p.sitting.batches in
    p ∷ pieces_from (sittings_most p.sitting.next) R (count_then h.by es n + length p.printed) (run Q es) (holder_then Q h es) p.sitting.next

module _ (R : Sight) (found later : Found) (inked : ℕ) (cut : Option Cut) (n : ℕ) (Q : Queue) (h : Holder) (s : State) (ne : s ≢ Told)
    (found_then : R.finds (run Q (all_entries (sit Q h s found).batches)) (sit Q h s found).next ≡ later) where
  abbrev t : Sitting
  t = sit Q h s found

  abbrev es : List Entry
  es = all_entries t.batches

  abbrev now : Queue
  now = run Q es

  abbrev A : Sight
  A = sight_then R (sittings_most s) found (loses_ink t.next later) inked cut

  abbrev p : Piece
  p = piece_now n Q h t later inked

  fewer : sittings_most t.next < sittings_most s
  fewer = steps_end Q h s found ne

  its_first : piece_by A.inked A.finds n Q h (sit Q h s (A.finds Q s)) ≡ p
  its_first =
      ap (λ (f : Found). piece_by A.inked A.finds n Q h (sit Q h s f)) (finds_here (sittings_most s) found R.finds Q s refl)
      ∙ ap (λ (f : Found). with_given (poured A.inked t.next f) (piece_of t f.printer (inked_of f.printer A.inked (chunk now (count_then h.by es n) t.next f.read)))) (finds_later (sittings_most s) found R.finds now t.next fewer ∙ found_then)
      ∙ ap (λ (ls : List (List ℕ)). with_given (poured A.inked t.next later) (piece_of t later.printer ls)) (ink_alike t.next later inked R.inked now (count_then h.by es n))
      ∙ ap (λ (bytes : List ℕ). with_given bytes (piece_of t later.printer (inked_of later.printer inked (chunk now (count_then h.by es n) t.next later.read)))) (pour_alike t.next later inked R.inked)

  abbrev count : ℕ
  count = count_then h.by es n + length p.printed

  abbrev more : Sight → List Piece
  more S = pieces_from (sittings_most t.next) S count now (holder_then Q h es) t.next

  -- whichever number of lines is looked at, the pieces that follow are the same
  ink_after : (b : Bool) → loses_ink t.next later ≡ b → more (record R { inked = if b then inked else R.inked }) ≡ more R
  ink_after true e = sym (ink_is_free R inked (sittings_most t.next) count now (holder_then Q h es) t.next later found_then e)
  ink_after false e = refl

  its_more : more A ≡ more R
  its_more =
      same_pieces A (record R { inked = A.inked }) (sittings_most s) (λ S z less. finds_later (sittings_most s) found R.finds S z less) refl (sittings_most t.next) count now (holder_then Q h es) t.next fewer
      ∙ ink_after (loses_ink t.next later) refl

  from_first : (k : ℕ) → sittings_most s ≡ k → pieces_from k A n Q h s ≡ p ∷ more R
  from_first zero e = let some = some_may_follow s ne in absurd (omega (arith, e, some))
  from_first (suc j) e =
      let less = fewer in
      ap (λ (q : Piece). let fs = all_entries q.sitting.batches in
      q ∷ unless_told q.sitting.next (pieces_from j A (count_then h.by fs n + length q.printed) (run Q fs) (holder_then Q h fs) q.sitting.next)) its_first
      ∙ ap (λ (ps : List Piece). p ∷ ps) (enough_of A j count now (holder_then Q h es) t.next (omega (arith, less, e)) ∙ its_more)

  pub first_and_more : (q : Piece) → q ≡ p → pieces_from (sittings_most s) A n Q h s ≡ piece_and R n Q h q
  first_and_more q is = from_first (sittings_most s) refl ∙ ap (piece_and R n Q h) (sym is)
