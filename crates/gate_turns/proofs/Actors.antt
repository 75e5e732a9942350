-- Who acts, and in whose pass.
use Rattle.std.proofs.Common.{◌≡◌, ◌≢◌, inl, inr, ⊎_elim, ℕ, zero, suc, ◌≤◌, nat_le, Bool, true, false, ◌&&◌, if◌then◌else◌, List, [], ◌∷◌, ◌++◌, Option, None, length, refl, sym, ap, subst, ◌∙◌, arith}
use Rattle.std.proofs.lemmas.Bool.{ne_eqb, leb-true, le-leb}
use Rattle.std.proofs.lemmas.List.{length-set}
use Rattle.std.proofs.lemmas.List.Elements.{All-nil, All-cons, All-head, All-tail}
use Rattle.std.proofs.lemmas.Slice.Eq.{bytes_eq-Decides}
use Rattle.std.specs.Prelude.{All, is_some}
use Rattle.std.specs.Str.{bytes_eq}
use mathlib.Core.Logic.{dite}
use native.Mathlib.Decide.{ℕ_discrete}
use Rattle.mas_types.specs.declared.ids.MemberId.{MemberId}
use Rattle.mas_types.specs.declared.journals.Entry.{Entry}
use Rattle.mas_types.specs.Closings.{closing_text}
use Rattle.mas_types.specs.Numerals.{in_digits}
use Rattle.mas_types.specs.Shown.{member_word}
use Rattle.spool_plant.specs.declared.plant.Part.TheVariants.{Console}
use Rattle.queue_laws.specs.Laws.{resets}
use Rattle.lock_cycle.specs.Books.{Book, IsMember, seize_refusal, granted, after_seize, after_stop}
use Rattle.gate_facts.specs.Values.{marked_at}
use Rattle.gate_facts.specs.Memory.{MayGiveBack}
use Rattle.gate_facts.proofs.Lists.{true_false, not_true}
use Rattle.mas_complex.specs.Journals.{entries_reserved}
use Rattle.mas_complex.specs.Locking.{reserved_after_stop}
use Rattle.mas_complex.specs.Parts.{Shown}
use Rattle.gate_turns.specs.Seats.{shows_stopped}
use Rattle.gate_turns.specs.Words.{named, speaker, word_at}
use Rattle.gate_turns.specs.Told.{member_in}
use Rattle.gate_turns.specs.Shared.{facts_of}
use Rattle.gate_turns.specs.Laws.{with_book, Passes}
use Rattle.gate_turns.specs.Actors.{named_among, LinesAreNamed, SaysForMayGoBack, ResetsStopped, OwnLeaveGroups, OthersLeaveGroups, taken, TakeoversMayGoBack, FailedTakeoversMayGoBack}
use Rattle.gate_turns.proofs.Acted.{counted_for, said_spares}
use Rattle.gate_turns.proofs.Booked.{seizes_may, stops_may}
use Rattle.gate_turns.proofs.Called.{calls_may, recovers_may}
use Rattle.gate_turns.proofs.Giving.{may_go_on}
use Rattle.gate_turns.proofs.LeftGroups.{passing_leaves}
use Rattle.gate_turns.proofs.TellLemmas.{part_one, word_lacks, member_read}

-- NAMES

same_word : (m n : ℕ) → bytes_eq (member_word (record { 0 = m })) (member_word (record { 0 = n })) ≡ true → m ≡ n
same_word m n e = ap (λ (k : MemberId). k.0) (sym (member_read m) ∙ (ap member_in ((bytes_eq-Decides (member_word (record { 0 = m })) (member_word (record { 0 = n }))).0 e) ∙ member_read n))

named_here : (n m : ℕ) → 1 ≤ m → m ≤ n → named n (member_word (record { 0 = m })) ≡ m
named_here zero m low high = absurd (omega arith)
named_here (suc n) m low high = dite (ℕ_discrete m (suc n))
    (λ e. ap (λ z. if z then suc n else named n (member_word (record { 0 = m }))) ((bytes_eq-Decides (member_word (record { 0 = m })) (member_word (record { 0 = suc n }))).1 (ap (λ k. member_word (record { 0 = k })) e)) ∙ sym e)
    (λ ne. ap (λ z. if z then suc n else named n (member_word (record { 0 = m }))) (not_true (bytes_eq (member_word (record { 0 = m })) (member_word (record { 0 = suc n }))) (λ t. ne (same_word m (suc n) t))) ∙ named_here n m low (let other : m ≢ suc n = ne in omega arith))

named_nowhere : (n m : ℕ) → ((k : ℕ) → 1 ≤ k → k ≤ n → m ≢ k) → named n (member_word (record { 0 = m })) ≡ 0
named_nowhere zero m none = refl
named_nowhere (suc n) m none =
    ap (λ z. if z then suc n else named n (member_word (record { 0 = m }))) (not_true (bytes_eq (member_word (record { 0 = m })) (member_word (record { 0 = suc n }))) (λ t. none (suc n) (omega arith) (omega arith) (same_word m (suc n) t)))
    ∙ named_nowhere n m (λ k low high. none k low (omega arith))

named_is : (members : ℕ) (m : MemberId) → named members (member_word m) ≡ named_among members m
named_is members m = elim (nat_le 1 m.0) as (λ z. nat_le 1 m.0 ≡ z → named members (member_word m) ≡ (if z && nat_le m.0 members then m.0 else 0)) [
  | true ↦ λ low. elim (nat_le m.0 members) as (λ z. nat_le m.0 members ≡ z → named members (member_word m) ≡ (if z then m.0 else 0)) [
    | true ↦ λ high. named_here members m.0 (leb-true 1 m.0 low) (leb-true m.0 members high)
    | false ↦ λ high. named_nowhere members m.0 (λ k low' high' same. true_false (nat_le m.0 members) (le-leb m.0 members (omega (arith, same, high'))) high)
  ] refl
  | false ↦ λ low. named_nowhere members m.0 (λ k low' high' same. true_false (nat_le 1 m.0) (le-leb 1 m.0 (omega (arith, same, low'))) low)
] refl

spoken : (members : ℕ) (m : MemberId) (rest : List ℕ) → speaker members (member_word m ++ 32 ∷ rest) ≡ named_among members m
unfolding speaker
spoken members m rest = ap (λ (ws : List (List ℕ)). named members (word_at ws 0)) (part_one 32 (member_word m) rest (word_lacks m.0)) ∙ named_is members m

pub lines_named : LinesAreNamed
lines_named members m at = (
  (λ end. spoken members m (in_digits 5 at ++ 32 ∷ closing_text end)),
  (λ text. spoken members m (in_digits 5 at ++ 32 ∷ 45 ∷ 32 ∷ text)),
)

-- LINES

pub says_for : SaysForMayGoBack
says_for x view actor pass line result told cares acts says before acts_for mine own =
    counted_for x view x.printed actor.0 pass Console result acts told cares mine stops (said_spares x view pass line result told acts.goes says before own) (λ m ne. refl)
  where
    stops : (k : ℕ) → marked_at cares k ≡ false → view.stops k ≡ x.view.stops k
    stops k other = ⊎_elim
        (λ operator. dite (ℕ_discrete k actor.0)
        (λ e. acts.no_other_stop k (inr (λ halted. let pos = acts.not_operator halted in absurd (omega (arith, pos, operator)))))
        (λ ne. acts.no_other_stop k (inl ne)))
        (λ cared. acts.no_other_stop k (inl (λ (same : k ≡ actor.0). true_false (marked_at cares k) (ap (marked_at cares) same ∙ cared) other)))
        acts_for

-- ENTRIES

-- an entry of this member, which resets no member that is up, passes by each other that is up
passes : (book : Book) (of m : MemberId) → of.0 ≢ m.0 → shows_stopped book m ≡ false → (es : List Entry) → All (λ e. e.by ≡ of) es → All (λ e. ResetsStopped book e.command) es → All (Passes m) es
passes book of m ne up [] own resets_ = All-nil (Passes m)
passes book of m ne up (e ∷ es) own resets_ =
    All-cons (Passes m) e es
    ((
      ne_eqb m.0 e.by.0 (λ same. ne (sym (same ∙ ap (λ (k : MemberId). k.0) (All-head (λ (d : Entry). d.by ≡ of) e es own)))),
      not_true (resets m e.command) (λ t. true_false (shows_stopped book m) (All-head (λ (d : Entry). ResetsStopped book d.command) e es resets_ m t) up),
    ))
    (passes book of m ne up es (All-tail (λ (d : Entry). d.by ≡ of) e es own) (All-tail (λ (d : Entry). ResetsStopped book d.command) e es resets_))

pub own_leave : OwnLeaveGroups
own_leave x by entries own resets_ = passing_leaves x by entries (λ m ne up. passes x.book by m (λ same. ne (sym same)) up entries own resets_)

pub others_leave : OthersLeaveGroups
others_leave x by of entries own gone resets_ = passing_leaves x by entries
    (λ m ne up. passes x.book of m (λ same. true_false (shows_stopped x.book m) ((λ i. shows_stopped x.book (record { 0 = sym same i })) ∙ gone) up) up entries own resets_)

-- TAKEOVERS

pub takeovers_may : TakeoversMayGoBack
takeovers_may x c by of stopped told cares now found is there mine call of_stopped fate ended leaves =
    let y : Shown = with_book x (after_seize x.book by of) x.reserved in
    may_go_on by.0 cares (facts_of told x) (facts_of told y) (facts_of told (taken x c by of))
    (seizes_may x by of is there told cares)
    (recovers_may y c by stopped told cares now found call mine of_stopped fate ended leaves)

-- the book has as many members after a takeover
seized_many : (b : Book) (m of : MemberId) → length (after_seize b m of).members ≡ length b.members
seized_many b m of = by_refusal (is_some (seize_refusal b of)) where
  by_refusal : (z : Bool) → length (if z then b else granted b m).members ≡ length b.members
  by_refusal true = refl
  by_refusal false = length-set b.members _ _

pub failed_takeovers_may : FailedTakeoversMayGoBack
failed_takeovers_may x c by of stopped told cares is there mine call same flying none =
    let y : Shown = with_book x (after_seize x.book by of) x.reserved in
    let z : Shown = taken x c by of in
    let first = may_go_on by.0 cares (facts_of told x) (facts_of told y) (facts_of told z) (seizes_may x by of is there told cares) (calls_may y c by stopped told cares call mine same flying) in
    let member : IsMember z.book by = (is.0, (let l = is.1 in let many = seized_many x.book by of in omega arith)) in
    let nothing_reserved : All (λ e. e.by ≡ z.book.holder) (entries_reserved z.reserved) = subst (λ (r : Option (List Entry)). All (λ e. e.by ≡ z.book.holder) (entries_reserved r)) (sym none) (All-nil (λ (e : Entry). e.by ≡ z.book.holder)) in
    let last : MayGiveBack by.0 cares (facts_of told z) (facts_of told (with_book z (after_stop z.book by) None)) = subst (λ (r : Option (List Entry)). MayGiveBack by.0 cares (facts_of told z) (facts_of told (with_book z (after_stop z.book by) r))) (ap (reserved_after_stop by) none) (stops_may z by member nothing_reserved told cares) in
    (first, may_go_on by.0 cares (facts_of told x) (facts_of told z) (facts_of told (with_book z (after_stop z.book by) None)) first last)
