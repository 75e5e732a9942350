-- A line of a step stands only after all of its batches.
use Rattle.std.proofs.Common.{◌≡◌, ◌≢◌, ◌⊎◌, inl, inr, ⊎_elim, ℕ, zero, suc, Bool, true, false, List, [], ◌∷◌, ◌++◌, drop, map, take, append-nil, Option, Some, None, refl, sym, ap, ◌∙◌}
use Rattle.mas_types.specs.declared.ids.MemberId.{MemberId}
use Rattle.mas_types.specs.declared.journals.Entry.{Entry}
use Rattle.mas_types.specs.declared.queues.Queue.{Queue}
use Rattle.mas_types.specs.Run.{run}
use Rattle.spool_plant.specs.View.{Line}
use Rattle.step_turns.specs.Courses.{holder_then, task_most}
use Rattle.step_turns.specs.Entries.{all_entries}
use Rattle.step_turns.specs.Sittings.{sit}
use Rattle.step_turns.specs.declared.states.State.{State}
use Rattle.step_turns.specs.declared.states.State.TheVariants.{Away, Fresh, Rested, Told}
use Rattle.step_turns.specs.declared.states.Holder.{Holder}
use Rattle.step_turns.proofs.Sittings.{by_state, lines_are_said_at_the_end}
use Rattle.run_turns.specs.Sights.{Cut, Halt, Saying, Sight, Waiting, Writing}
use Rattle.run_turns.specs.Scenes.{Scene}
use Rattle.run_turns.specs.Admissions.{Admission, Denied, Frees, Locks, Plays, Refused, Replaces, Resets, TakesOver, Unplayed}
use Rattle.run_turns.specs.Cuts.{Left, adds, adds_all, adds_first, broken, left_by, lines_cut, none_left, torn, whole}
use Rattle.run_turns.specs.Laws.{SaidIsKept}
use Rattle.run_turns.specs.Pieces.{Piece, Play, holder_of, once_found, pieces_found, pieces_from, pieces_of, play_of, unless_told}

-- only the last piece says lines
abbrev OnlyLastSpeaks : List Piece → Type 0
OnlyLastSpeaks [] = Unit {0}
OnlyLastSpeaks (p ∷ ps) = ((p.sitting.lines ≡ []) ⊎ (ps ≡ [])) × OnlyLastSpeaks ps

pub told_or : (s : State) → (s ≡ Told) ⊎ (s ≢ Told)
told_or = by_state (λ s. (s ≡ Told) ⊎ (s ≢ Told)) (inl refl) (λ s ne. inr ne)

speaks_unless : (s : State) (ps : List Piece) → OnlyLastSpeaks ps → OnlyLastSpeaks (unless_told s ps)
speaks_unless (Fresh task) ps speaks = speaks
speaks_unless (Away aside) ps speaks = speaks
speaks_unless (Rested p) ps speaks = speaks
speaks_unless Told ps speaks = tt

pub none_after : (s : State) (ps : List Piece) → s ≡ Told → unless_told s ps ≡ []
none_after s ps told = ap (λ (now : State). unless_told now ps) told

speaks_from : (sight : Sight) (k n : ℕ) (Q : Queue) (h : Holder) (s : State) → OnlyLastSpeaks (pieces_from k sight n Q h s)
speaks_from sight zero n Q h s = tt
speaks_from sight (suc k) n Q h s =
    let found = sight.finds Q s in
    let t = sit Q h s found in
    let es = all_entries t.batches in
    let more = pieces_from k sight _ (run Q es) (holder_then Q h es) t.next in (
      ⊎_elim (λ told. inr (none_after t.next more told)) (λ ne. inl ((lines_are_said_at_the_end Q h s found).1 ne)) (told_or t.next),
      speaks_unless t.next more (speaks_from sight k _ (run Q es) (holder_then Q h es) t.next),
    )

speaks_once : (flight : Option (List Entry)) (ps : List Piece) → OnlyLastSpeaks ps → OnlyLastSpeaks (once_found flight ps)
speaks_once None ps speaks = speaks
speaks_once (Some es) ps speaks = tt

speaks_found : (locked : Bool) (flight : Option (List Entry)) (ps : List Piece) → OnlyLastSpeaks ps → OnlyLastSpeaks (pieces_found locked flight ps)
speaks_found true flight ps speaks = speaks_once flight ps speaks
speaks_found false flight ps speaks = speaks

speaks_of : (S : Scene) (by : MemberId) (at : ℕ) (sight : Sight) (Q : Queue) (a : Admission) → OnlyLastSpeaks (pieces_of S by at sight Q a)
speaks_of S by at sight Q (Refused sayer end) = (inr refl, tt)
speaks_of S by at sight Q (Denied why) = (inr refl, tt)
speaks_of S by at sight Q (Plays task) = speaks_from sight (task_most task) (S.counts by) Q (holder_of S by at (Plays task)) (Fresh task)
speaks_of S by at sight Q (Resets of) = (inr refl, tt)
speaks_of S by at sight Q (Replaces dev) = (inr refl, tt)
speaks_of S by at sight Q (TakesOver of) = (inr refl, tt)
speaks_of S by at sight Q Locks = (inr refl, tt)
speaks_of S by at sight Q Frees = (inr refl, tt)
speaks_of S by at sight Q Unplayed = tt

none_torn : (tail : Option (List ℕ)) → torn tail [] ≡ []
none_torn None = refl
none_torn (Some text) = refl

none_broken : (n : ℕ) (tail : Option (List ℕ)) → broken n tail [] ≡ []
none_broken zero tail = none_torn tail
none_broken (suc n) tail = none_torn tail

module _ (by : MemberId) (locked : Bool) (halt : Halt) where
  none_said : (h : Halt) → lines_cut by h [] ≡ []
  none_said (Writing n g) = refl
  none_said (Saying n tail) = none_broken n tail
  none_said (Waiting n tail) = refl

  abbrev cut_left_of : ℕ → Left → List Piece → Left
  cut_left_of n l ps = adds_first by locked halt (adds_all by locked l (take n ps)) (drop n ps)

  -- a cut adds nothing where all pieces are whole
  at_end : (n : ℕ) (l : Left) (ps : List Piece) → ps ≡ [] → cut_left_of n l ps ≡ l
  at_end zero l [] e = refl
  at_end (suc n) l [] e = refl
  at_end n l (p ∷ ps) e = absurd (cc)

  -- the first piece is the one that was cut
  at_cut : (h : Halt) (l : Left) (p : Piece) (ps : List Piece) → l.lines ≡ [] → (p.sitting.lines ≡ []) ⊎ (ps ≡ [])
      → (adds_first by locked h l (p ∷ ps)).lines ≢ [] → (adds_first by locked h l (p ∷ ps)).batches ≡ (adds_all by locked (adds by locked l p) ps).batches
  at_cut (Writing n g) l p ps silent last said = absurd (said (append-nil l.lines ∙ silent))
  at_cut (Waiting n tail) l p ps silent last said = absurd (said (append-nil l.lines ∙ silent))
  at_cut (Saying n tail) l p ps silent last said =
      ⊎_elim
      (λ none. absurd (said (ap (λ (ls : List Line). ls ++ broken n tail p.sitting.lines) silent ∙ ap (broken n tail) none ∙ none_broken n tail)))
      (λ end. ap (λ (qs : List Piece). (adds_all by locked (adds by locked l p) qs).batches) (sym end))
      last

  all_kept : (n : ℕ) (l : Left) (ps : List Piece) → l.lines ≡ [] → OnlyLastSpeaks ps → (cut_left_of n l ps).lines ≢ []
      → (cut_left_of n l ps).batches ≡ (adds_all by locked l ps).batches
  all_kept zero l [] silent speaks said = refl
  all_kept zero l (p ∷ ps) silent speaks said = at_cut halt l p ps silent speaks.0 said
  all_kept (suc n) l [] silent speaks said = refl
  all_kept (suc n) l (p ∷ ps) silent speaks said =
      ⊎_elim
      (λ none. all_kept n (adds by locked l p) ps (ap (λ (ls : List Line). ls ++ map whole p.sitting.lines) silent ∙ ap (map whole) none) speaks.1 said)
      (λ end.
      ap (λ (m : Left). m.batches) (at_end n (adds by locked l p) ps end)
      ∙ ap (λ (qs : List Piece). (adds_all by locked (adds by locked l p) qs).batches) (sym end))
      speaks.0

kept_by : (by : MemberId) (play : Play) (count : ℕ) → OnlyLastSpeaks play.pieces → (cut : Option Cut) → (left_by by cut play count).lines ≢ []
    → (left_by by cut play count).batches ≡ (left_by by None play count).batches
kept_by by play count speaks None said = refl
kept_by by play count speaks (Some cut) said =
    all_kept by play.locked cut.halt cut.sittings (none_left by play.book count) play.pieces refl speaks said

pub said_is_kept : SaidIsKept
said_is_kept S by at sight a =
    let play = play_of S by at sight a in
    kept_by by play (S.counts by) (speaks_found play.locked play.flight (pieces_of S by at sight play.queue a) (speaks_of S by at sight play.queue a)) sight.cut
