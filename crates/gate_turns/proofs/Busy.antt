-- What a member that is up has busy, while others take their turns.
use Rattle.std.proofs.Common.{◌≡◌, ◌≢◌, ℕ, zero, suc, ◌+◌, true, List, [], ◌∷◌, ◌++◌, length, refl, sym, ap, subst, ◌∙◌, arith}
use Rattle.std.proofs.lemmas.Bool.{ne_eqb}
use Rattle.std.proofs.lemmas.List.Elements.{All-nil, All-cons, All-head, All-tail}
use Rattle.std.specs.Prelude.{All}
use mathlib.Core.Option.{some}
use lib.ListN.{get_elem?}
use Rattle.mas_types.specs.declared.ids.MemberId.{MemberId}
use Rattle.mas_types.specs.declared.journals.Entry.{Entry}
use Rattle.mas_types.specs.declared.queues.Queue.{Queue}
use Rattle.mas_types.specs.Ids.{is_somebody}
use Rattle.mas_types.specs.Sound.{IsSound}
use Rattle.queue_laws.specs.Laws.{resets, IsBusyKept}
use Rattle.queue_laws.specs.Runs.{IsGiven}
use Rattle.queue_laws.proofs.Others.{keeps_busy}
use Rattle.queue_laws.proofs.RunLaws.{runs_keep_sound}
use Rattle.queue_laws.proofs.SoundAll.{keeps_sound}
use Rattle.paper_laws.proofs.Runs.{all_given_after}
use Rattle.gate_facts.proofs.Lists.{true_false, not_true}
use Rattle.gate_facts.specs.Values.{stopped_of}
use Rattle.mas_complex.specs.Meaning.{run, step}
use Rattle.mas_complex.proofs.Batches.{run_append}
use Rattle.gate_turns.specs.Laws.{Passes}
use Rattle.gate_turns.specs.Busy.{Stays, BusyStays, ResetsShownStopped, BusyIsKnown}
use Rattle.gate_turns.proofs.LeftGroups.{left_run}

-- WHAT IS BUSY, FROM QUEUE TO QUEUE

busy_itself : (m : MemberId) (Q : Queue) → IsBusyKept m Q Q
busy_itself m Q = record {
  jobs = λ n j found busy. (j, found, record { busy = busy; phase = refl; text = refl });
  outputs = λ n i o found busy. (o, found, record { busy = busy; mark = refl; text = refl; copies = refl });
}

busy_on : (m : MemberId) (P Q R : Queue) → IsBusyKept m P Q → IsBusyKept m Q R → IsBusyKept m P R
busy_on m P Q R s t = record {
  jobs = λ n j found busy. let one = s.jobs n j found busy in let two = t.jobs n one.0 one.1 one.2.busy in
      (two.0, two.1, record { busy = two.2.busy; phase = two.2.phase ∙ one.2.phase; text = two.2.text ∙ one.2.text });
  outputs = λ n i o found busy. let one = s.outputs n i o found busy in let two = t.outputs n i one.0 one.1 one.2.busy in
      (two.0, two.1, record { busy = two.2.busy; mark = two.2.mark ∙ one.2.mark; text = two.2.text ∙ one.2.text; copies = two.2.copies ∙ one.2.copies });
}

busy_run : (Q : Queue) (m : MemberId) (es : List Entry) → IsSound Q → All (IsGiven Q) es → is_somebody m ≡ true → All (Passes m) es → IsBusyKept m Q (run Q es)
busy_run Q m [] sound given somebody pass = busy_itself m Q
busy_run Q m (e ∷ es) sound given somebody pass =
    let mine : IsGiven Q e = All-head (IsGiven Q) e es given in
    let other = All-head (Passes m) e es pass in
    let next : Queue = (step Q e.by e.command).0 in
    busy_on m Q next (run next es)
    (keeps_busy Q e.by m e.command sound somebody other.0 other.1)
    (busy_run next m es (keeps_sound Q e.by e.command sound mine.fit mine.by) (all_given_after Q (e ∷ []) es (All-tail (IsGiven Q) e es given)) somebody (All-tail (Passes m) e es pass))

pub busy_stays : BusyStays
busy_stays Q m es sound given somebody pass = record { busy = busy_run Q m es sound given somebody pass; groups = left_run m Q es pass }

-- ENTRIES AT THEIR PLACES

-- an item of the second list has its place in both
place_at : (xs ys : List Entry) (k j : ℕ) (e : Entry) → j ≡ length xs + k → get_elem? ys k ≡ some e → get_elem? (xs ++ ys) j ≡ some e
place_at [] ys k j e same at = subst (λ (n : ℕ). get_elem? ys n ≡ some e) (let s : k ≡ j = omega (arith, same) in s) at
place_at (x ∷ xs) ys k zero e same at = absurd (omega (arith, same))
place_at (x ∷ xs) ys k (suc j) e same at = place_at xs ys k j e (omega (arith, same)) at

all_from : (P : Entry → Type 0) (es : List Entry) → ((k : ℕ) (e : Entry) → get_elem? es k ≡ some e → P e) → All P es
all_from P [] each = All-nil P
all_from P (e ∷ es) each = All-cons P e es (each 0 e refl) (all_from P es (λ k x at. each (suc k) x at))

all_first : (P : Entry → Type 0) (xs ys : List Entry) → All P (xs ++ ys) → All P xs
all_first P [] ys all = All-nil P
all_first P (x ∷ xs) ys all = All-cons P x xs (All-head P x (xs ++ ys) all) (all_first P xs ys (All-tail P x (xs ++ ys) all))

all_rest : (P : Entry → Type 0) (xs ys : List Entry) → All P (xs ++ ys) → All P ys
all_rest P [] ys all = all
all_rest P (x ∷ xs) ys all = all_rest P xs ys (All-tail P x (xs ++ ys) all)

all_both : (P Q R : Entry → Type 0) (es : List Entry) → ((e : Entry) → P e → Q e → R e) → All P es → All Q es → All R es
all_both P Q R [] f p q = All-nil R
all_both P Q R (e ∷ es) f p q = All-cons R e es (f e (All-head P e es p) (All-head Q e es q)) (all_both P Q R es f (All-tail P e es p) (All-tail Q e es q))

pub busy_known : BusyIsKnown
busy_known m y is more knows up somebody grown sound given gone =
    let given' : All (IsGiven is.base) (y.seen ++ more) = subst (λ (es : List Entry). All (IsGiven is.base) es) grown given in
    let others : All (λ e. e.by.0 ≢ m.0) more = all_from (λ e. e.by.0 ≢ m.0) more (λ k e at.
    knows.no_more up (length y.seen + k) e (ap (λ (es : List Entry). get_elem? es (length y.seen + k)) grown ∙ place_at y.seen more k (length y.seen + k) e refl at) (omega arith)) in
    let pass : All (Passes m) more = all_both (λ e. e.by.0 ≢ m.0) (λ e. ResetsShownStopped is e.command) (Passes m) more
    (λ e other stopped. (
      ne_eqb m.0 e.by.0 (λ same. other (sym same)),
      not_true (resets m e.command) (λ t. true_false (stopped_of is m.0) (stopped m t) up),
    ))
    others gone in
    subst (λ (Q : Queue). Stays m (run is.base y.seen) Q) (sym (ap (run is.base) grown ∙ run_append is.base y.seen more))
    (busy_stays (run is.base y.seen) m more
    (runs_keep_sound is.base y.seen sound (all_first (IsGiven is.base) y.seen more given'))
    (all_given_after is.base y.seen more (all_rest (IsGiven is.base) y.seen more given')) somebody pass)
