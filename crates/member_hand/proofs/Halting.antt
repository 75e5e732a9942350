-- A step that ends with an error before its member sat: nothing of it is left but the lock.
use Rattle.std.proofs.Common.{◌≡◌, ℕ, zero, suc, ◌+◌, List, [], ◌∷◌, ◌++◌, length, All, subst}
use Rattle.std.proofs.lemmas.List.Elements.{All-cons, All-head, All-nil, All-tail}
use Rattle.mas_types.specs.declared.ids.MemberId.{MemberId}
use Rattle.mas_types.specs.declared.journals.Entry.{Entry}
use Rattle.mas_types.specs.declared.queues.Queue.{Queue}
use Rattle.mas_types.specs.Run.{run}
use Rattle.member_decks.specs.Steps.{AreOf}
use Rattle.member_decks.proofs.DeckLemmas.{given_of}
use Rattle.step_turns.specs.Courses.{holder_then}
use Rattle.step_turns.specs.Entries.{all_entries, commands_in}
use Rattle.step_turns.specs.Sittings.{sit}
use Rattle.step_turns.specs.declared.states.Found.{Found}
use Rattle.step_turns.specs.declared.states.Holder.{Holder}
use Rattle.step_turns.specs.declared.states.State.{State}
use Rattle.step_turns.specs.declared.states.State.TheVariants.{Away, Fresh, Rested, Told}
use Rattle.step_turns.proofs.Sittings.{entries_are_given}
use Rattle.run_turns.specs.Pieces.{Piece, piece_at, pieces_from, unless_told}
use Rattle.run_turns.specs.Scenes.{count_then}
use Rattle.run_turns.specs.Sights.{Sight}
use Rattle.member_hand.specs.Plays.{IsOwnPiece}

-- EACH PIECE OF A STEP HAS ITS MEMBER'S ENTRIES OF THE STEP

pub all_front : {X : Type 0} (R : X → Type 0) (xs ys : List X) → All R (xs ++ ys) → All R xs
all_front R [] ys all = All-nil R
all_front R (x ∷ xs) ys all = All-cons R x xs (All-head R x (xs ++ ys) all) (all_front R xs ys (All-tail R x (xs ++ ys) all))

pub all_back : {X : Type 0} (R : X → Type 0) (xs ys : List X) → All R (xs ++ ys) → All R ys
all_back R [] ys all = all
all_back R (x ∷ xs) ys all = all_back R xs ys (All-tail R x (xs ++ ys) all)

batches_own : (by : MemberId) (at : ℕ) (ess : List (List Entry)) → AreOf by at (all_entries ess) → All (AreOf by at) ess
batches_own by at [] own = All-nil (AreOf by at)
batches_own by at (es ∷ ess) own =
    All-cons (AreOf by at) es ess (all_front (λ (e : Entry). (e.by ≡ by) × (e.step ≡ at)) es (all_entries ess) own) (batches_own by at ess (all_back (λ (e : Entry). (e.by ≡ by) × (e.step ≡ at)) es (all_entries ess) own))

pub sitting_own : (Q : Queue) (h : Holder) (s : State) (found : Found) → All (AreOf h.by h.step) (sit Q h s found).batches
sitting_own Q h s found =
    let t = sit Q h s found in
    let es = all_entries t.batches in
    batches_own h.by h.step t.batches (subst (λ (fs : List Entry). AreOf h.by h.step fs) (entries_are_given Q h s found) (given_of h.by h.step (commands_in es) Q))

own_unless : (by : MemberId) (at : ℕ) (s : State) (ps : List Piece) → All (IsOwnPiece by at) ps → All (IsOwnPiece by at) (unless_told s ps)
own_unless by at (Fresh task) ps all = all
own_unless by at (Away a) ps all = all
own_unless by at (Rested p) ps all = all
own_unless by at Told ps all = All-nil (IsOwnPiece by at)

pub pieces_own : (sight : Sight) (k n : ℕ) (Q : Queue) (h : Holder) (s : State) → All (IsOwnPiece h.by h.step) (pieces_from k sight n Q h s)
pieces_own sight zero n Q h s = All-nil (IsOwnPiece h.by h.step)
pieces_own sight (suc k) n Q h s =
    let p = piece_at sight n Q h s in
    let es = all_entries p.sitting.batches in
    let more = pieces_from k sight (count_then h.by es n + length p.printed) (run Q es) (holder_then Q h es) p.sitting.next in
    All-cons (IsOwnPiece h.by h.step) p (unless_told p.sitting.next more) (sitting_own Q h s (sight.finds Q s))
    (own_unless h.by h.step p.sitting.next more (pieces_own sight k (count_then h.by es n + length p.printed) (run Q es) (holder_then Q h es) p.sitting.next))
