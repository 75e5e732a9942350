-- The turns of a member on a value that others change between them stand in the one history.
use Rattle.std.proofs.Common.{◌≡◌, ◌∙◌, ℕ, ◌+◌, ◌≤◌, Bool, true, false, not, ◌||◌, List, [], ◌∷◌, ◌++◌, append-nil, length, map, filter, take, drop, Option, Some, None, refl, sym, ap, subst, arith}
use Rattle.std.proofs.lemmas.List.{append_assoc, drop-append-le, length-append, map-append, take-append-le}
use Rattle.std.proofs.lemmas.List.Elements.{filter-append}
use Rattle.std.proofs.Math.Seq.{take-append_seam}
use Rattle.mas_types.specs.declared.ids.MemberId.{MemberId}
use Rattle.mas_types.specs.declared.journals.Entry.{Entry}
use Rattle.mas_types.specs.declared.queues.Queue.{Queue}
use Rattle.mas_types.specs.Run.{run}
use Rattle.spool_plant.specs.View.{Line}
use Rattle.run_turns.specs.Cuts.{Left, entries_of}
use Rattle.run_turns.specs.Scenes.{Batched, kept_in}
use Rattle.run_turns.specs.Sights.{Cut}
use Rattle.run_turns.specs.Steps.{cause_of, stopped_lines}
use Rattle.race_turns.specs.Turns.{Stage, Turn, turn_at}
use Rattle.race_turns.specs.Races.{Asked, IsEnd, IsTurn, Leaves, Standing, Taken, TakesTurns, ends_in, is_stop, is_stopped_in, left_at, none, queue_at, stands_then, stops_in, then_left, unless_ended, whole_texts}
use Rattle.race_turns.specs.Sides.{AreTaken, Extends, Follows, HasSides, Side, Sided, StandsAs, Takes, TakesOn, and_then, taken_of}

-- WHAT IS ADDED TO A LIST

pub extends_none : (xs : List Entry) → Extends xs xs
extends_none xs = ([], sym (append-nil xs))

pub extends_on : (xs ys zs : List Entry) → Extends zs ys → Extends ys xs → Extends zs xs
extends_on xs ys zs (late, is) (more, was) =
    (more ++ late, is ∙ ap (λ (l : List Entry). l ++ late) was ∙ append_assoc xs more late)

pub extends_length : (xs ys : List Entry) → Extends ys xs → length xs ≤ length ys
extends_length xs ys (more, is) = let a = ap length is in let b = length-append xs more in omega arith

pub entries_added : (bs cs : List Batched) → entries_of (bs ++ cs) ≡ entries_of bs ++ entries_of cs
entries_added [] cs = refl
entries_added (b ∷ bs) cs =
    ap (λ (es : List Entry). b.entries ++ es) (entries_added bs cs)
    ∙ sym (append_assoc b.entries (entries_of bs) (entries_of cs))

pub texts_added : (xs ys : List Line) → whole_texts (xs ++ ys) ≡ whole_texts xs ++ whole_texts ys
texts_added xs ys =
    ap (map (λ (l : Line). l.text)) (filter-append (λ (l : Line). l.whole) xs ys)
    ∙ map-append (λ (l : Line). l.text) (filter (λ (l : Line). l.whole) xs) (filter (λ (l : Line). l.whole) ys)

-- CUTS

either_not : {A : Type 0} (b : Bool) → b ≡ false → not b ≡ false → A
either_not true s e = cc
either_not false s e = cc

-- where nobody was stopped and the run didn't end, nothing was cut
pub uncut : (cut : Option Cut) → stops_in cut ≡ false → ends_in cut ≡ false → cut ≡ None
uncut None stops ends = refl
uncut (Some cut) stops ends = either_not (is_stop cut.cause) stops ends

no_left : (a b : Bool) → (a || b) ≡ false → a ≡ false
no_left true b e = e
no_left false b e = refl

no_right : (a b : Bool) → (a || b) ≡ false → b ≡ false
no_right true b e = absurd (cc)
no_right false b e = e

if_ended : (b : Bool) {E M F N R : Type 0} → (b ≡ true → E → F × R) → (b ≡ false → M → N × R) → unless_ended b E M
    → unless_ended b F N × R
if_ended true at_end on e = at_end refl e
if_ended false at_end on m = on refl m

-- ONE TURN

module _ (base : Queue) (by : MemberId) (at : Standing) (a : Asked) (t : Taken) (turn : Turn) (l : Left) where
  -- A turn at the history that it left is one at each longer history.
  pub turn_stands : (saw : Queue → Stage → Taken → Turn → Type 0) (s was is : Side) (later : List Entry)
      → StandsAs at s → Follows s was → Takes base by at a t turn l was is
      → saw (queue_at base is.kept by t.place) at.stage t turn → Extends later is.kept
      → IsTurn base later by saw at a t turn l
  turn_stands saw s was is later stands follows takes seen (more, longer) =
      let k : List Entry = kept_in l.batches in
      let placed : t.place ≤ length is.kept = omega (arith, takes.within) in
      let same : take t.place later ≡ take t.place is.kept =
      ap (take t.place) longer ∙ take-append-le t.place is.kept more placed in
      let rest : drop t.place later ≡ k ++ more =
      ap (drop t.place) longer ∙ drop-append-le t.place is.kept more placed
      ∙ ap (λ (es : List Entry). es ++ more) takes.kept in
      record {
        turn_is = subst
            (λ (es : List Entry). turn ≡ turn_at (run base es) t.book by a.number a.what t.count t.inked t.found at.stage)
            (sym same) takes.turn_is;
        left = subst
            (λ (es : List Entry). l ≡ (let l = left_at by t.count t.cut turn t.book (run base es) in
            record l { lines = l.lines ++ map (λ s. s.line) (stopped_lines by a.number (cause_of t.cut)) }))
            (sym same) takes.left;
        later =
            let grew = extends_length s.kept was.kept follows.kept in
            omega (arith, stands.from, grew, takes.behind);
        stopped = takes.stopped ∙ follows.stopped ∙ sym stands.stopped;
        printed = λ up.
            let here = sym stands.stopped ∙ up in
            takes.printed ∙ follows.count (follows.stopped ∙ here) ∙ sym (stands.printed here);
        kept = ap (take (length k)) rest ∙ take-append_seam k more;
        seen = subst (λ (es : List Entry). saw (run base es) at.stage t turn) (sym same) seen;
      }

  -- and where the run goes on the member stands then as the value shows it
  pub stands_on : (s was is : Side) → StandsAs at s → Follows s was → Takes base by at a t turn l was is
      → ends_in t.cut ≡ false → StandsAs (stands_then at t turn l) is
  stands_on s was is stands follows takes goes = record {
    from = omega (arith, takes.within);
    stopped = ap (λ (b : Bool). b || stops_in t.cut) (stands.stopped ∙ sym follows.stopped) ∙ sym (takes.stops goes);
    printed = λ up.
        let both = sym (takes.stops goes) ∙ up in
        sym (takes.count (uncut t.cut (no_right was.stopped (stops_in t.cut) both) goes));
  }

-- ALL OF THEM

-- what a value has later of what it showed
pub record HasSince (ended : Bool) (s : Side) (ts : List Taken) (all : Leaves) (end : Side) : Type 0 where
  pub begun : end.begun ≡ s.begun ++ entries_of all.batches
  pub said : end.said ≡ s.said ++ whole_texts all.lines
  pub kept : Extends end.kept s.kept
  pub stopped : ended ≡ false → end.stopped ≡ (s.stopped || is_stopped_in ts)

true_false : true ≡ false → ⊥
true_false e = absurd (cc)

or_false : (b : Bool) → b ≡ (b || false)
or_false true = refl
or_false false = refl

or_or : (a b c : Bool) → ((a || b) || c) ≡ (a || (b || c))
or_or true b c = refl
or_or false b c = refl

nothing_since : (ended : Bool) (s last end : Side) (all : Leaves) → last ≡ s → all ≡ none → Follows last end
    → HasSince ended s [] all end
nothing_since ended s last end all is nothing_left follows = record {
  begun = follows.begun ∙ ap (λ (x : Side). x.begun) is ∙ sym (append-nil s.begun)
      ∙ ap (λ (x : Leaves). s.begun ++ entries_of x.batches) (sym nothing_left);
  said = follows.said ∙ ap (λ (x : Side). x.said) is ∙ sym (append-nil s.said)
      ∙ ap (λ (x : Leaves). s.said ++ whole_texts x.lines) (sym nothing_left);
  kept = subst (λ (x : Side). Extends end.kept x.kept) is follows.kept;
  stopped = λ no. follows.stopped ∙ ap (λ (x : Side). x.stopped) is ∙ or_false s.stopped;
}

since_turn : (ended : Bool) (s was is end : Side) (t : Taken) (ts : List Taken) (l : Left) (more all : Leaves) → Follows s was
    → Extends is.kept was.kept → is.begun ≡ was.begun ++ entries_of l.batches
    → is.said ≡ was.said ++ whole_texts l.lines → (ended ≡ false → is.stopped ≡ (was.stopped || stops_in t.cut))
    → all ≡ then_left l more → HasSince ended is ts more end → HasSince ended s (t ∷ ts) all end
since_turn ended s was is end t ts l more all follows grows begun said stops both later = record {
  begun = later.begun ∙ ap (λ (es : List Entry). es ++ entries_of more.batches)
      (begun ∙ ap (λ (es : List Entry). es ++ entries_of l.batches) follows.begun)
      ∙ append_assoc s.begun (entries_of l.batches) (entries_of more.batches)
      ∙ ap (λ (es : List Entry). s.begun ++ es) (sym (entries_added l.batches more.batches))
      ∙ ap (λ (x : Leaves). s.begun ++ entries_of x.batches) (sym both);
  said = later.said ∙ ap (λ (ts : List (List ℕ)). ts ++ whole_texts more.lines)
      (said ∙ ap (λ (ts : List (List ℕ)). ts ++ whole_texts l.lines) follows.said)
      ∙ append_assoc s.said (whole_texts l.lines) (whole_texts more.lines)
      ∙ ap (λ (ts : List (List ℕ)). s.said ++ ts) (sym (texts_added l.lines more.lines))
      ∙ ap (λ (x : Leaves). s.said ++ whole_texts x.lines) (sym both);
  kept = extends_on s.kept was.kept end.kept (extends_on was.kept is.kept end.kept later.kept grows) follows.kept;
  stopped = λ no. later.stopped no ∙ ap (λ (b : Bool). b || is_stopped_in ts)
      (stops no ∙ ap (λ (b : Bool). b || stops_in t.cut) follows.stopped)
      ∙ or_or s.stopped (stops_in t.cut) (is_stopped_in ts);
}

module _ (base : Queue) (by : MemberId) (saw : Queue → Stage → Taken → Turn → Type 0) (ended : Bool) where
  turns_since : (s : Side) (at : Standing) (lines : List Asked) (hs : List Sided) (all : Leaves) (last end : Side)
      → StandsAs at s → AreTaken base by saw ended s at lines hs all last → Follows last end
      → TakesTurns base end.kept by saw ended at lines (taken_of hs) all × HasSince ended s (taken_of hs) all end
  turns_since s at [] [] all last end stands (is, over, nothing_left) follows =
      ((over, nothing_left), nothing_since ended s last end all is nothing_left follows)
  turns_since s at (a ∷ lines) [] all last end stands (is, over, nothing_left) follows =
      ((over, nothing_left), nothing_since ended s last end all is nothing_left follows)
  turns_since s at [] (h ∷ hs) all last end stands never follows = absurd never
  turns_since s at (a ∷ lines) (h ∷ hs) all last end stands (found, (turn, l, more, takes, seen, both, then_so)) follows =
      let t : Taken = h.taken in
      let next : Standing = stands_then at t turn l in
      let rest = if_ended (ends_in t.cut) {R = HasSince ended h.is (taken_of hs) more end × (ended ≡ false → ends_in t.cut ≡ false)}
      (λ ends e. (
        (e.0, ap taken_of e.1, e.2),
        (
          subst (λ (xs : List Sided). HasSince ended h.is (taken_of xs) more end) (sym e.1)
              (nothing_since ended h.is last end more e.3 e.2 follows),
          λ no. absurd (true_false (sym e.0 ∙ no)),
        ),
      ))
      (λ goes m.
      let both_so = turns_since h.is next next.lines hs more last end
      (stands_on base by at a t turn l s h.was h.is stands found takes goes) m follows in
      (both_so.0, (both_so.1, λ no. goes)))
      then_so in (
        (
          turn,
          l,
          more,
          turn_stands base by at a t turn l saw s h.was h.is end.kept stands found takes seen rest.1.0.kept,
          both,
          rest.0,
        ),
        since_turn ended s h.was h.is end t (taken_of hs) l more all found takes.grows takes.begun takes.said
            (λ no. takes.stops (rest.1.1 no)) both rest.1.0,
      )

  pub one_history : (s : Side) (at : Standing) (lines : List Asked) (hs : List Sided) (all : Leaves) (last end : Side)
      → StandsAs at s → AreTaken base by saw ended s at lines hs all last → Follows last end
      → HasSides base by saw ended s at lines hs all end
  one_history s at lines hs all last end stands taken follows =
      let both = turns_since s at lines hs all last end stands taken follows in
      record { takes = both.0; begun = both.1.begun; said = both.1.said; stopped = both.1.stopped }

-- TURNS JOINED to those before them

and_none : (all : Leaves) → and_then none all ≡ all
and_none all = refl

then_both : (l : Left) (one more : Leaves) → and_then (then_left l one) more ≡ then_left l (and_then one more)
then_both l one more i = record {
  batches = append_assoc l.batches one.batches more.batches i;
  lines = append_assoc l.lines one.lines more.lines i;
}

module _ (base : Queue) (by : MemberId) (saw : Queue → Stage → Taken → Turn → Type 0) where
  pub on_and_on : (s mid last : Side) (at then_at late : Standing) (hs gs : List Sided) (all more : Leaves)
      → TakesOn base by saw s at hs all mid then_at → TakesOn base by saw mid then_at gs more last late
      → TakesOn base by saw s at (hs ++ gs) (and_then all more) last late
  on_and_on s mid last at then_at late [] gs all more (is, stands, nothing_left) next =
      subst (λ (x : Side). TakesOn base by saw x at gs (and_then all more) last late) is
      (subst (λ (x : Standing). TakesOn base by saw mid x gs (and_then all more) last late) stands
      (subst (λ (x : Leaves). TakesOn base by saw mid then_at gs (and_then x more) last late) (sym nothing_left) next))
  on_and_on s mid last at then_at late (h ∷ hs) gs all more (found, (a, lines, turn, l, rest, first, takes, seen, both, goes, then_so)) next = (
    found,
    (
      a,
      lines,
      turn,
      l,
      and_then rest more,
      first,
      takes,
      seen,
      ap (λ (x : Leaves). and_then x more) both ∙ then_both l rest more,
      goes,
      on_and_on h.is mid last (stands_then at h.taken turn l) then_at late hs gs rest more then_so next,
    ),
  )

  -- and the end
  pub on_to_end : (ended : Bool) (s mid last : Side) (at then_at : Standing) (hs gs : List Sided) (all more : Leaves)
      → TakesOn base by saw s at hs all mid then_at → AreTaken base by saw ended mid then_at then_at.lines gs more last
      → AreTaken base by saw ended s at at.lines (hs ++ gs) (and_then all more) last
  on_to_end ended s mid last at then_at [] gs all more (is, stands, nothing_left) next =
      subst (λ (x : Side). AreTaken base by saw ended x at at.lines gs (and_then all more) last) is
      (subst (λ (x : Standing). AreTaken base by saw ended mid x x.lines gs (and_then all more) last) stands
      (subst (λ (x : Leaves). AreTaken base by saw ended mid then_at then_at.lines gs (and_then x more) last) (sym nothing_left) next))
  on_to_end ended s mid last at then_at (h ∷ hs) gs all more (found, (a, lines, turn, l, rest, first, takes, seen, both, goes, then_so)) next =
      let t : Taken = h.taken in
      let then_stands : Standing = stands_then at t turn l in
      subst (λ (ls : List Asked). AreTaken base by saw ended s at ls (h ∷ (hs ++ gs)) (and_then all more) last) (sym first) (
        found,
        (
          turn,
          l,
          and_then rest more,
          takes,
          seen,
          ap (λ (x : Leaves). and_then x more) both ∙ then_both l rest more,
          subst (λ (b : Bool). unless_ended b ((ended ≡ true) × ((hs ++ gs) ≡ []) × (and_then rest more ≡ none) × (last ≡ h.is))
              (AreTaken base by saw ended h.is then_stands then_stands.lines (hs ++ gs) (and_then rest more) last)) (sym goes)
              (on_to_end ended h.is mid last then_stands then_at hs gs rest more then_so next),
        ),
      )
