-- Slots: what is read is spelled so, and what is spelled so is read.
use Rattle.std.proofs.Common.{◌≡◌, ℕ, zero, suc, ◌+◌, ◌-◌, ◌^◌, ◌≤◌, ◌<◌, Bool, true, false, List, [], ◌∷◌, ◌++◌, length, get_or, drop, replicate, Option, Some, None, refl, sym, ap, subst, ◌∙◌, arith, inl, inr}
pub use Rattle.std.proofs.lemmas.Bool.{eqb-true as same_from_eq}
use Rattle.std.specs.Prelude.{◌==◌, ◌&&◌}
use Rattle.std.specs.List.{concat, slice_index}
use Rattle.std.specs.Int.{w16, w32, w64, from_be_bytes, to_be_bytes}
use Rattle.std.proofs.lemmas.Bool.{cases_eq}
use Rattle.std.proofs.lemmas.List.{get_or-take, get_or-drop, length-append, length-drop, drop_all, append-nil}
use Rattle.std.proofs.lemmas.Nat.{from_be_bytes-to_be_bytes_2, from_be_bytes-to_be_bytes_4, from_be_bytes-to_be_bytes_8}
use Rattle.mas_types.specs.declared.jobs.Phase.{Phase}
use Rattle.mas_types.specs.declared.jobs.Phase.TheVariants as phase
use Rattle.mas_types.specs.declared.queues.Owner.{Owner}
use Rattle.mas_types.specs.declared.queues.Owner.TheVariants as owner
use Rattle.lay_bytes.specs.declared.records.JobRec.{JobRec}
use Rattle.lay_bytes.specs.declared.records.OutRec.{OutRec}
use Rattle.lay_bytes.specs.declared.fields.Field.{Field}
use Rattle.lay_bytes.specs.declared.fields.Field.TheVariants.{Half, Word, Long, Zeros}
use Rattle.lay_bytes.specs.Bytes.{are_zeros}
use Rattle.lay_bytes.specs.Fields.{piece, width_of, widths, may_stand, first_bad, pieces, is_between}
use Rattle.lay_bytes.specs.Slots.{phase_number, phase_of, flag, has_flag, job_flags, job_fields, job_pieces, job_slot, job_in, output_fields, output_pieces, output_slot, output_in, owner_fields, owner_pieces, owner_entry, owner_in, owner_of, IsJobRec, IsOutRec, IsOwner, IfUsed, bad_field, bad_owner_field}
use Rattle.lay_bytes.proofs.Pieces.{AreNext, in_turn, puts, puts_in_turn, test_cases, IsPiece, EachStands, AreSpelled, join_pieces, each_stands, spelled_again, byte_back, half_back, word_back, long_back, cons_same, between, is_least, is_most, both_true}
use Rattle.lay_bytes.proofs.NameLemmas.{name_from, name_to}

-- ---- a test of the numbers below a bound

abbrev all_below : ℕ → (ℕ → Bool) → Bool
all_below zero test = true
all_below (suc k) test = test k && all_below k test

holds_below : (k : ℕ) (test : ℕ → Bool) → all_below k test ≡ true → (n : ℕ) → n < k → test n ≡ true
holds_below zero test h n lt = absurd (omega arith)
holds_below (suc k) test h n lt =
    let p = both_true (test k) (all_below k test) h in
    elim (cases_eq n k) [
      | inl e ↦ rw e p.0
      | inr ne ↦ holds_below k test p.1 n (omega arith)
    ]

-- ---- fields

flags_back : (n : ℕ) → n ≤ 15 → flag 1 (has_flag 1 n) + flag 2 (has_flag 2 n) + flag 4 (has_flag 4 n) + flag 8 (has_flag 8 n) ≡ n
flags_back n le = same_from_eq _ _ (holds_below 16 (λ k. (flag 1 (has_flag 1 k) + flag 2 (has_flag 2 k) + flag 4 (has_flag 4 k) + flag 8 (has_flag 8 k)) == k) refl n (omega arith))

flag_back : (n : ℕ) → n ≤ 1 → flag 1 (has_flag 1 n) ≡ n
flag_back n le = same_from_eq _ _ (holds_below 2 (λ k. flag 1 (has_flag 1 k) == k) refl n (omega arith))

phase_back : (n : ℕ) → 1 ≤ n → n ≤ 7 → phase_number (phase_of n) ≡ n
phase_back n some le =
    let h : phase_number (phase_of (n - 1 + 1)) ≡ n - 1 + 1 = same_from_eq _ _ (holds_below 7 (λ k. phase_number (phase_of (k + 1)) == (k + 1)) refl (n - 1) (omega arith)) in
    let e : n - 1 + 1 ≡ n = omega arith in
    subst (λ (k : ℕ). phase_number (phase_of k) ≡ k) e h

record AreFlags (a b c d : Bool) : Type 0 where
  one : has_flag 1 (flag 1 a + flag 2 b + flag 4 c + flag 8 d) ≡ a
  two : has_flag 2 (flag 1 a + flag 2 b + flag 4 c + flag 8 d) ≡ b
  four : has_flag 4 (flag 1 a + flag 2 b + flag 4 c + flag 8 d) ≡ c
  eight : has_flag 8 (flag 1 a + flag 2 b + flag 4 c + flag 8 d) ≡ d
  most : is_between 0 15 (flag 1 a + flag 2 b + flag 4 c + flag 8 d) ≡ true

flags_again : (a b c d : Bool) → AreFlags a b c d
flags_again false false false false = record { one = refl; two = refl; four = refl; eight = refl; most = refl }
flags_again false false false true = record { one = refl; two = refl; four = refl; eight = refl; most = refl }
flags_again false false true false = record { one = refl; two = refl; four = refl; eight = refl; most = refl }
flags_again false false true true = record { one = refl; two = refl; four = refl; eight = refl; most = refl }
flags_again false true false false = record { one = refl; two = refl; four = refl; eight = refl; most = refl }
flags_again false true false true = record { one = refl; two = refl; four = refl; eight = refl; most = refl }
flags_again false true true false = record { one = refl; two = refl; four = refl; eight = refl; most = refl }
flags_again false true true true = record { one = refl; two = refl; four = refl; eight = refl; most = refl }
flags_again true false false false = record { one = refl; two = refl; four = refl; eight = refl; most = refl }
flags_again true false false true = record { one = refl; two = refl; four = refl; eight = refl; most = refl }
flags_again true false true false = record { one = refl; two = refl; four = refl; eight = refl; most = refl }
flags_again true false true true = record { one = refl; two = refl; four = refl; eight = refl; most = refl }
flags_again true true false false = record { one = refl; two = refl; four = refl; eight = refl; most = refl }
flags_again true true false true = record { one = refl; two = refl; four = refl; eight = refl; most = refl }
flags_again true true true false = record { one = refl; two = refl; four = refl; eight = refl; most = refl }
flags_again true true true true = record { one = refl; two = refl; four = refl; eight = refl; most = refl }

flag_again : (a : Bool) → (has_flag 1 (flag 1 a) ≡ a) × (is_between 0 1 (flag 1 a) ≡ true)
flag_again true = (refl, refl)
flag_again false = (refl, refl)

phase_again : (p : Phase) → (phase_of (phase_number p) ≡ p) × (is_between 1 7 (phase_number p) ≡ true)
phase_again phase.Input = (refl, refl)
phase_again phase.Convert = (refl, refl)
phase_again phase.Execute = (refl, refl)
phase_again phase.Output = (refl, refl)
phase_again phase.Hardcopy = (refl, refl)
phase_again phase.Purge = (refl, refl)
phase_again phase.Xmit = (refl, refl)

pub half_again : (least most n : ℕ) → n < 2 ^ 16 → least ≤ n → n ≤ most → may_stand (Half least most) (to_be_bytes w16 n) ≡ true
half_again least most n lt a b = ap (is_between least most) (from_be_bytes-to_be_bytes_2 n lt) ∙ between least most n a b

pub word_again : (least most n : ℕ) → n < 2 ^ 32 → least ≤ n → n ≤ most → may_stand (Word least most) (to_be_bytes w32 n) ≡ true
word_again least most n lt a b = ap (is_between least most) (from_be_bytes-to_be_bytes_4 n lt) ∙ between least most n a b

pub long_again : (least most n : ℕ) → n < 2 ^ 64 → least ≤ n → n ≤ most → may_stand (Long least most) (to_be_bytes w64 n) ≡ true
long_again least most n lt a b = ap (is_between least most) (from_be_bytes-to_be_bytes_8 n lt) ∙ between least most n a b

pub byte_takes : {f : Field} {p : List ℕ} (n : ℕ) → n ≡ slice_index p 0 → width_of f ≡ 1 → IsPiece f p → n ∷ [] ≡ p
byte_takes {p = p} n e w h = ap (λ (k : ℕ). k ∷ []) e ∙ byte_back p (h.len ∙ w)

pub half_takes : {f : Field} {p : List ℕ} → width_of f ≡ 2 → IsPiece f p → to_be_bytes w16 (from_be_bytes w16 p) ≡ p
half_takes {p = p} w h = half_back p (h.len ∙ w) h.bytes

pub word_takes : {f : Field} {p : List ℕ} → width_of f ≡ 4 → IsPiece f p → to_be_bytes w32 (from_be_bytes w32 p) ≡ p
word_takes {p = p} w h = word_back p (h.len ∙ w) h.bytes

pub long_takes : {f : Field} {p : List ℕ} → width_of f ≡ 8 → IsPiece f p → to_be_bytes w64 (from_be_bytes w64 p) ≡ p
long_takes {p = p} w h = long_back p (h.len ∙ w) h.bytes

pub zeros_are : (bytes : List ℕ) → are_zeros bytes ≡ true → bytes ≡ replicate (length bytes) 0
zeros_are [] h = refl
zeros_are (b ∷ bs) h =
    let parts = both_true (b == 0) (are_zeros bs) h in
    let is : b ≡ 0 = same_from_eq b 0 parts.0 in
    rw is (ap (λ (x : List ℕ). 0 ∷ x) (zeros_are bs parts.1))

pub zeros_take : (n : ℕ) {p : List ℕ} → IsPiece (Zeros n) p → replicate n 0 ≡ p
zeros_take n {p = p} h = ap (λ (k : ℕ). replicate k 0) (sym h.len) ∙ sym (zeros_are p h.stands)

pub below_from : (most n : ℕ) → n ≤ most → n < most + 1
below_from most n h = omega arith

-- ---- jobs

abbrev made : JobRec → Phase → Bool → Bool → Bool → Bool → ℕ → ℕ → ℕ → JobRec
made j p h c r s n k o = record {
  number = record { 0 = n };
  fields = record j.fields { held = h; restart = r; scan = s };
  phase = p;
  cancelled = c;
  busy = j.busy;
  cards = k;
  order = o;
}

same_job : (j : JobRec) (p p' : Phase) (h h' c c' r r' s s' : Bool) (n n' k k' o o' : ℕ) → p ≡ p' → h ≡ h' → c ≡ c' → r ≡ r' → s ≡ s' → n ≡ n' → k ≡ k' → o ≡ o'
    → made j p h c r s n k o ≡ made j p' h' c' r' s' n' k' o'
same_job j p p' h h' c c' r r' s s' n n' k k' o o' e1 e2 e3 e4 e5 e6 e7 e8 = rw (e1, e2, e3, e4, e5, e6, e7, e8) refl

pub job_again : (j : JobRec) → IsJobRec j → job_in (job_pieces j) ≡ j
job_again j h =
    let f = flags_again j.fields.held j.cancelled j.fields.restart j.fields.scan in
    same_job j _ j.phase _ j.fields.held _ j.cancelled _ j.fields.restart _ j.fields.scan _ j.number.0 _ j.cards _ j.order
    (phase_again j.phase).0 f.one f.two f.four f.eight
    (from_be_bytes-to_be_bytes_4 j.number.0 (omega (arith, h.number.1)))
    (from_be_bytes-to_be_bytes_2 j.cards (omega (arith, h.cards)))
    (from_be_bytes-to_be_bytes_8 j.order h.order)

pub job_spelled : (j : JobRec) → IsJobRec j → AreSpelled job_fields (job_pieces j)
job_spelled j h =
    let name = name_from j.fields.name h.name in
    let dest = name_from j.fields.dest h.dest in
    let node = name_from j.fields.node h.node in
    let origin = name_from j.fields.origin h.origin in (
      (refl, (phase_again j.phase).1),
      (
        (refl, h.class),
        (
          (refl, between 0 15 _ (omega arith) h.prio),
          (
            (refl, (flags_again j.fields.held j.cancelled j.fields.restart j.fields.scan).most),
            (
              (refl, between 0 8 _ (omega arith) h.busy),
              (
                (refl, h.msgclass),
                (
                  (refl, half_again 0 9999 j.cards (omega (arith, h.cards)) (omega arith) h.cards),
                  (
                    (refl, word_again 1 99999 j.number.0 (omega (arith, h.number.1)) h.number.0 h.number.1),
                    (
                      (refl, long_again 0 18446744073709551615 j.order h.order (omega arith) (omega (arith, h.order))),
                      (name, (dest, (node, (origin, ((refl, refl), tt))))),
                    ),
                  ),
                ),
              ),
            ),
          ),
        ),
      ),
    )

pub job_takes : (slot : List ℕ) → length slot ≡ 256 → ((i : ℕ) → get_or slot i 0 < 256) → first_bad 0 job_fields slot ≡ None
    → IsJobRec (job_in (pieces 0 job_fields slot)) × (slot ≡ concat (job_pieces (job_in (pieces 0 job_fields slot))))
job_takes slot len fits good =
    let s = each_stands 0 job_fields slot (omega (arith, len)) fits good in
    let joined : concat (pieces 0 job_fields slot) ≡ slot = join_pieces 0 job_fields slot (sym len) in
    let phase = s.0 in let class = s.1.0 in let prio = s.1.1.0 in let flags = s.1.1.1.0 in let busy = s.1.1.1.1.0 in let msgclass = s.1.1.1.1.1.0 in
    let cards = s.1.1.1.1.1.1.0 in let number = s.1.1.1.1.1.1.1.0 in let order = s.1.1.1.1.1.1.1.1.0 in
    let name = s.1.1.1.1.1.1.1.1.1.0 in let dest = s.1.1.1.1.1.1.1.1.1.1.0 in let node = s.1.1.1.1.1.1.1.1.1.1.1.0 in let origin = s.1.1.1.1.1.1.1.1.1.1.1.1.0 in let rest = s.1.1.1.1.1.1.1.1.1.1.1.1.1.0 in
    let same : job_pieces (job_in (pieces 0 job_fields slot)) ≡ pieces 0 job_fields slot =
    cons_same _ _ _ _ (byte_takes _ (phase_back _ (is_least 1 7 _ phase.stands) (is_most 1 7 _ phase.stands)) refl phase)
    (cons_same _ _ _ _ (byte_takes _ refl refl class)
    (cons_same _ _ _ _ (byte_takes _ refl refl prio)
    (cons_same _ _ _ _ (byte_takes _ (flags_back _ (is_most 0 15 _ flags.stands)) refl flags)
    (cons_same _ _ _ _ (byte_takes _ refl refl busy)
    (cons_same _ _ _ _ (byte_takes _ refl refl msgclass)
    (cons_same _ _ _ _ (half_takes refl cards)
    (cons_same _ _ _ _ (word_takes refl number)
    (cons_same _ _ _ _ (long_takes refl order)
    (cons_same _ _ _ _ refl (cons_same _ _ _ _ refl (cons_same _ _ _ _ refl (cons_same _ _ _ _ refl
    (cons_same _ _ _ _ (zeros_take 204 rest) refl))))))))))))) in
    let fit : IsJobRec (job_in (pieces 0 job_fields slot)) = record {
      class = class.stands;
      prio = is_most 0 15 _ prio.stands;
      busy = is_most 0 8 _ busy.stands;
      msgclass = msgclass.stands;
      cards = is_most 0 9999 _ cards.stands;
      number = (is_least 1 99999 _ number.stands, is_most 1 99999 _ number.stands);
      order = below_from 18446744073709551615 _ (is_most 0 18446744073709551615 _ order.stands);
      name = name_to (record { 0 = piece 20 8 slot }) name.len name.stands;
      dest = name_to (record { 0 = piece 28 8 slot }) dest.len dest.stands;
      node = name_to (record { 0 = piece 36 8 slot }) node.len node.stands;
      origin = name_to (record { 0 = piece 44 8 slot }) origin.len origin.stands;
    } in
    (fit, sym joined ∙ ap concat (sym same))

phase_some : (p : Phase) → (phase_number p == 0) ≡ false
phase_some phase.Input = refl
phase_some phase.Convert = refl
phase_some phase.Execute = refl
phase_some phase.Output = refl
phase_some phase.Hardcopy = refl
phase_some phase.Purge = refl
phase_some phase.Xmit = refl

abbrev job_pieces_after : JobRec → List (List ℕ)
job_pieces_after j =
    (j.fields.class.0 ∷ []) ∷ (j.fields.prio.0 ∷ []) ∷ (job_flags j ∷ []) ∷ (j.busy.0 ∷ []) ∷ (j.fields.msgclass.0 ∷ [])
    ∷ to_be_bytes w16 j.cards ∷ to_be_bytes w32 j.number.0 ∷ to_be_bytes w64 j.order
    ∷ j.fields.name.0 ∷ j.fields.dest.0 ∷ j.fields.node.0 ∷ j.fields.origin.0 ∷ replicate 204 0 ∷ []

zeros_front : (b : ℕ) (ps : List (List ℕ)) → are_zeros (concat ((b ∷ []) ∷ ps)) ≡ true → (b == 0) ≡ true
zeros_front b ps h = (both_true (b == 0) (are_zeros (concat ps)) h).0

-- zeros are a free slot alone
pub job_only_free : (slot : List ℕ) (job : Option JobRec) → are_zeros slot ≡ true → slot ≡ job_slot job → None ≡ job
job_only_free slot None z e = refl
job_only_free slot (Some j) z e =
    let z' : are_zeros (job_slot (Some j)) ≡ true = ap are_zeros (sym e) ∙ z in
    absurd (some_phase j.phase (zeros_front (phase_number j.phase) (job_pieces_after j) z'))
  where
    some_phase : (p : Phase) → (phase_number p == 0) ≡ true → ⊥
    some_phase p h = let w = phase_some p in absurd cc

pub job_only_used : (slot : List ℕ) (job : Option JobRec) → are_zeros slot ≡ false → IfUsed IsJobRec job → slot ≡ job_slot job → (first_bad 0 job_fields slot ≡ None) × (Some (job_in (pieces 0 job_fields slot)) ≡ job)
job_only_used slot None z h e = let z' = rw e at z in absurd cc
job_only_used slot (Some j) z h e =
    let r = spelled_again job_fields (job_pieces j) (job_spelled j h) in
    (ap (first_bad 0 job_fields) e ∙ r.good, ap Some (ap (λ (x : List ℕ). job_in (pieces 0 job_fields x)) e ∙ ap job_in r.cut ∙ job_again j h))

-- ---- outputs

abbrev made_output : OutRec → Bool → ℕ → ℕ → ℕ → ℕ → OutRec
made_output o h n m l r = record o { job = record { 0 = n }; held = h; mark = m; lines = l; order = r }

same_output : (o : OutRec) (h h' : Bool) (n n' m m' l l' r r' : ℕ) → h ≡ h' → n ≡ n' → m ≡ m' → l ≡ l' → r ≡ r' → made_output o h n m l r ≡ made_output o h' n' m' l' r'
same_output o h h' n n' m m' l l' r r' e1 e2 e3 e4 e5 = rw (e1, e2, e3, e4, e5) refl

pub output_again : (o : OutRec) → IsOutRec o → output_in (output_pieces o) ≡ o
output_again o h =
    same_output o _ o.held _ o.job.0 _ o.mark _ o.lines _ o.order
    (flag_again o.held).0
    (from_be_bytes-to_be_bytes_4 o.job.0 (omega (arith, h.job.1)))
    (from_be_bytes-to_be_bytes_4 o.mark h.mark)
    (from_be_bytes-to_be_bytes_2 o.lines (omega (arith, h.lines.1)))
    (from_be_bytes-to_be_bytes_8 o.order h.order)

pub output_spelled : (o : OutRec) → IsOutRec o → AreSpelled output_fields (output_pieces o)
output_spelled o h =
    let dest = name_from o.dest h.dest in
    let forms = name_from o.forms h.forms in (
      (refl, refl),
      (
        (refl, h.class),
        (
          (refl, (flag_again o.held).1),
          (
            (refl, between 0 8 _ (omega arith) h.busy),
            (
              (refl, word_again 1 99999 o.job.0 (omega (arith, h.job.1)) h.job.0 h.job.1),
              (
                (refl, between 1 32 _ h.index.0 h.index.1),
                (
                  (refl, between 1 255 _ h.copies.0 h.copies.1),
                  (
                    (refl, half_again 1 9999 o.lines (omega (arith, h.lines.1)) h.lines.0 h.lines.1),
                    (
                      (refl, word_again 0 4294967295 o.mark h.mark (omega arith) (omega (arith, h.mark))),
                      (
                        (refl, long_again 0 18446744073709551615 o.order h.order (omega arith) (omega (arith, h.order))),
                        (dest, (forms, ((refl, refl), tt))),
                      ),
                    ),
                  ),
                ),
              ),
            ),
          ),
        ),
      ),
    )

pub output_takes : (slot : List ℕ) → length slot ≡ 128 → ((i : ℕ) → get_or slot i 0 < 256) → first_bad 0 output_fields slot ≡ None
    → IsOutRec (output_in (pieces 0 output_fields slot)) × (slot ≡ concat (output_pieces (output_in (pieces 0 output_fields slot))))
output_takes slot len fits good =
    let s = each_stands 0 output_fields slot (omega (arith, len)) fits good in
    let joined : concat (pieces 0 output_fields slot) ≡ slot = join_pieces 0 output_fields slot (sym len) in
    let used = s.0 in let class = s.1.0 in let flags = s.1.1.0 in let busy = s.1.1.1.0 in let job = s.1.1.1.1.0 in let index = s.1.1.1.1.1.0 in
    let copies = s.1.1.1.1.1.1.0 in let lines = s.1.1.1.1.1.1.1.0 in let mark = s.1.1.1.1.1.1.1.1.0 in
    let order = s.1.1.1.1.1.1.1.1.1.0 in let dest = s.1.1.1.1.1.1.1.1.1.1.0 in let forms = s.1.1.1.1.1.1.1.1.1.1.1.0 in let rest = s.1.1.1.1.1.1.1.1.1.1.1.1.0 in
    let same : output_pieces (output_in (pieces 0 output_fields slot)) ≡ pieces 0 output_fields slot =
    cons_same _ _ _ _ (byte_takes 1 (one_only _ (is_least 1 1 _ used.stands) (is_most 1 1 _ used.stands)) refl used)
    (cons_same _ _ _ _ (byte_takes _ refl refl class)
    (cons_same _ _ _ _ (byte_takes _ (flag_back _ (is_most 0 1 _ flags.stands)) refl flags)
    (cons_same _ _ _ _ (byte_takes _ refl refl busy)
    (cons_same _ _ _ _ (word_takes refl job)
    (cons_same _ _ _ _ (byte_takes _ refl refl index)
    (cons_same _ _ _ _ (byte_takes _ refl refl copies)
    (cons_same _ _ _ _ (half_takes refl lines)
    (cons_same _ _ _ _ (word_takes refl mark)
    (cons_same _ _ _ _ (long_takes refl order)
    (cons_same _ _ _ _ refl (cons_same _ _ _ _ refl
    (cons_same _ _ _ _ (zeros_take 88 rest) refl)))))))))))) in
    let fit : IsOutRec (output_in (pieces 0 output_fields slot)) = record {
      class = class.stands;
      busy = is_most 0 8 _ busy.stands;
      job = (is_least 1 99999 _ job.stands, is_most 1 99999 _ job.stands);
      index = (is_least 1 32 _ index.stands, is_most 1 32 _ index.stands);
      copies = (is_least 1 255 _ copies.stands, is_most 1 255 _ copies.stands);
      lines = (is_least 1 9999 _ lines.stands, is_most 1 9999 _ lines.stands);
      mark = below_from 4294967295 _ (is_most 0 4294967295 _ mark.stands);
      order = below_from 18446744073709551615 _ (is_most 0 18446744073709551615 _ order.stands);
      dest = name_to (record { 0 = piece 24 8 slot }) dest.len dest.stands;
      forms = name_to (record { 0 = piece 32 8 slot }) forms.len forms.stands;
    } in
    (fit, sym joined ∙ ap concat (sym same))
  where
    one_only : (n : ℕ) → 1 ≤ n → n ≤ 1 → 1 ≡ n
    one_only n a b = omega arith

pub output_only_free : (slot : List ℕ) (output : Option OutRec) → are_zeros slot ≡ true → slot ≡ output_slot output → None ≡ output
output_only_free slot None z e = refl
output_only_free slot (Some o) z e = let z' = rw e at z in absurd cc

pub output_only_used : (slot : List ℕ) (output : Option OutRec) → are_zeros slot ≡ false → IfUsed IsOutRec output → slot ≡ output_slot output → (first_bad 0 output_fields slot ≡ None) × (Some (output_in (pieces 0 output_fields slot)) ≡ output)
output_only_used slot None z h e = let z' = rw e at z in absurd cc
output_only_used slot (Some o) z h e =
    let r = spelled_again output_fields (output_pieces o) (output_spelled o h) in
    (ap (first_bad 0 output_fields) e ∙ r.good, ap Some (ap (λ (x : List ℕ). output_in (pieces 0 output_fields x)) e ∙ ap output_in r.cut ∙ output_again o h))

-- ---- owners

abbrev kind_of : Owner → ℕ
kind_of owner.Free = 0
kind_of (owner.Member m) = 1
kind_of (owner.Deck job place) = 2
kind_of (owner.Output job index place) = 3

owner_spelled : (o : Owner) → IsOwner o → AreSpelled (owner_fields (kind_of o)) (owner_pieces o)
owner_spelled owner.Free h = ((refl, refl), ((refl, refl), ((refl, refl), ((refl, refl), tt))))
owner_spelled (owner.Member m) h = ((refl, refl), ((refl, between 1 8 _ h.0 h.1), ((refl, refl), ((refl, refl), tt))))
owner_spelled (owner.Deck job place) h = ((refl, refl), ((refl, refl), ((refl, half_again 0 65535 place h.1 (omega arith) (omega (arith, h.1))), ((refl, word_again 1 99999 job.0 (omega (arith, h.0.1)) h.0.0 h.0.1), tt))))
owner_spelled (owner.Output job index place) h = ((refl, refl), ((refl, between 1 32 _ h.1.0 h.1.1), ((refl, half_again 0 65535 place h.2 (omega arith) (omega (arith, h.2))), ((refl, word_again 1 99999 job.0 (omega (arith, h.0.1)) h.0.0 h.0.1), tt))))

owner_again : (o : Owner) → IsOwner o → owner_in (owner_pieces o) ≡ o
owner_again owner.Free h = refl
owner_again (owner.Member m) h = refl
owner_again (owner.Deck job place) h =
    ap (λ (n : ℕ). owner_of 2 0 n (from_be_bytes w32 (to_be_bytes w32 job.0))) (from_be_bytes-to_be_bytes_2 place h.1) ∙ ap (λ (n : ℕ). owner_of 2 0 place n) (from_be_bytes-to_be_bytes_4 job.0 (omega (arith, h.0.1)))
owner_again (owner.Output job index place) h =
    ap (λ (n : ℕ). owner_of 3 index.0 n (from_be_bytes w32 (to_be_bytes w32 job.0))) (from_be_bytes-to_be_bytes_2 place h.2) ∙ ap (λ (n : ℕ). owner_of 3 index.0 place n) (from_be_bytes-to_be_bytes_4 job.0 (omega (arith, h.0.1)))

kind_is : (o : Owner) → slice_index (owner_entry o) 0 ≡ kind_of o
kind_is owner.Free = refl
kind_is (owner.Member m) = refl
kind_is (owner.Deck job place) = refl
kind_is (owner.Output job index place) = refl

-- the four pieces of an entry
abbrev pub owner_cut : List ℕ → List (List ℕ)
owner_cut entry = piece 0 1 entry ∷ piece 1 1 entry ∷ piece 2 2 entry ∷ piece 4 4 entry ∷ []

pub owner_only : (entry : List ℕ) (o : Owner) → IsOwner o → entry ≡ owner_entry o → (bad_owner_field entry ≡ None) × (owner_in (owner_cut entry) ≡ o)
owner_only entry o h e =
    let r = spelled_again (owner_fields (kind_of o)) (owner_pieces o) (owner_spelled o h) in
    let good : bad_owner_field (owner_entry o) ≡ None = ap (λ (k : ℕ). first_bad 0 (owner_fields k) (owner_entry o)) (kind_is o) ∙ r.good in
    let cut : owner_cut (owner_entry o) ≡ owner_pieces o = owner_cut_is o r.cut in
    (ap bad_owner_field e ∙ good, ap (λ (x : List ℕ). owner_in (owner_cut x)) e ∙ ap owner_in cut ∙ owner_again o h)
  where
    owner_cut_is : (o : Owner) → pieces 0 (owner_fields (kind_of o)) (owner_entry o) ≡ owner_pieces o → owner_cut (owner_entry o) ≡ owner_pieces o
    owner_cut_is owner.Free h = h
    owner_cut_is (owner.Member m) h = h
    owner_cut_is (owner.Deck job place) h = h
    owner_cut_is (owner.Output job index place) h = h

no_number : (p : List ℕ) → length p ≡ 2 → ((i : ℕ) → get_or p i 0 < 256) → from_be_bytes w16 p ≤ 0 → to_be_bytes w16 0 ≡ p
no_number p len fits h = let z : from_be_bytes w16 p ≡ 0 = omega arith in subst (λ (n : ℕ). to_be_bytes w16 n ≡ p) z (half_back p len fits)

no_word : (p : List ℕ) → length p ≡ 4 → ((i : ℕ) → get_or p i 0 < 256) → from_be_bytes w32 p ≤ 0 → to_be_bytes w32 0 ≡ p
no_word p len fits h = let z : from_be_bytes w32 p ≡ 0 = omega arith in subst (λ (n : ℕ). to_be_bytes w32 n ≡ p) z (word_back p len fits)

pub known : (k n : ℕ) → k ≤ n → n ≤ k → k ≡ n
known k n a b = omega arith

-- what an entry of a kind's fields is
record IsEntry (entry : List ℕ) (o : Owner) : Type 0 where
  fit : IsOwner o
  is : owner_pieces o ≡ owner_cut entry

abbrev who_in : List ℕ → ℕ
who_in entry = slice_index (piece 1 1 entry) 0

abbrev place_in : List ℕ → ℕ
place_in entry = from_be_bytes w16 (piece 2 2 entry)

abbrev number_in : List ℕ → ℕ
number_in entry = from_be_bytes w32 (piece 4 4 entry)

entry_free : (entry : List ℕ) → EachStands (owner_fields 0) (owner_cut entry) → IsEntry entry owner.Free
entry_free entry s =
    let kind = s.0 in let who = s.1.0 in let place = s.1.1.0 in let job = s.1.1.1.0 in
    record {
      fit = tt;
      is =
          cons_same _ _ _ _ (byte_takes 0 (known 0 _ (is_least 0 0 _ kind.stands) (is_most 0 0 _ kind.stands)) refl kind)
          (cons_same _ _ _ _ (byte_takes 0 (known 0 _ (is_least 0 0 _ who.stands) (is_most 0 0 _ who.stands)) refl who)
          (cons_same _ _ _ _ (no_number _ place.len place.bytes (is_most 0 0 _ place.stands))
          (cons_same _ _ _ _ (no_word _ job.len job.bytes (is_most 0 0 _ job.stands)) refl)));
    }

entry_member : (entry : List ℕ) → EachStands (owner_fields 1) (owner_cut entry) → IsEntry entry (owner.Member (record { 0 = who_in entry }))
entry_member entry s =
    let kind = s.0 in let who = s.1.0 in let place = s.1.1.0 in let job = s.1.1.1.0 in
    record {
      fit = (is_least 1 8 _ who.stands, is_most 1 8 _ who.stands);
      is =
          cons_same _ _ _ _ (byte_takes 1 (known 1 _ (is_least 1 1 _ kind.stands) (is_most 1 1 _ kind.stands)) refl kind)
          (cons_same _ _ _ _ (byte_takes _ refl refl who)
          (cons_same _ _ _ _ (no_number _ place.len place.bytes (is_most 0 0 _ place.stands))
          (cons_same _ _ _ _ (no_word _ job.len job.bytes (is_most 0 0 _ job.stands)) refl)));
    }

entry_deck : (entry : List ℕ) → EachStands (owner_fields 2) (owner_cut entry) → IsEntry entry (owner.Deck (record { 0 = number_in entry }) (place_in entry))
entry_deck entry s =
    let kind = s.0 in let who = s.1.0 in let place = s.1.1.0 in let job = s.1.1.1.0 in
    record {
      fit = ((is_least 1 99999 _ job.stands, is_most 1 99999 _ job.stands), below_from 65535 _ (is_most 0 65535 _ place.stands));
      is =
          cons_same _ _ _ _ (byte_takes 2 (known 2 _ (is_least 2 2 _ kind.stands) (is_most 2 2 _ kind.stands)) refl kind)
          (cons_same _ _ _ _ (byte_takes 0 (known 0 _ (is_least 0 0 _ who.stands) (is_most 0 0 _ who.stands)) refl who)
          (cons_same _ _ _ _ (half_takes refl place)
          (cons_same _ _ _ _ (word_takes refl job) refl)));
    }

entry_output : (entry : List ℕ) → EachStands (owner_fields 3) (owner_cut entry) → IsEntry entry (owner.Output (record { 0 = number_in entry }) (record { 0 = who_in entry }) (place_in entry))
entry_output entry s =
    let kind = s.0 in let who = s.1.0 in let place = s.1.1.0 in let job = s.1.1.1.0 in
    record {
      fit = ((is_least 1 99999 _ job.stands, is_most 1 99999 _ job.stands), (is_least 1 32 _ who.stands, is_most 1 32 _ who.stands), below_from 65535 _ (is_most 0 65535 _ place.stands));
      is =
          cons_same _ _ _ _ (byte_takes 3 (known 3 _ (is_least 3 3 _ kind.stands) (is_most 3 3 _ kind.stands)) refl kind)
          (cons_same _ _ _ _ (byte_takes _ refl refl who)
          (cons_same _ _ _ _ (half_takes refl place)
          (cons_same _ _ _ _ (word_takes refl job) refl)));
    }

owner_widths : (kind : ℕ) → widths (owner_fields kind) ≡ 8
owner_widths kind =
    test_cases (kind == 0) (widths (owner_fields kind) ≡ 8) (λ e. rw e refl)
    (λ e. test_cases (kind == 1) (widths (owner_fields kind) ≡ 8) (λ e1. rw (e, e1) refl)
    (λ e1. test_cases (kind == 2) (widths (owner_fields kind) ≡ 8) (λ e2. rw (e, e1, e2) refl) (λ e2. rw (e, e1, e2) refl)))

entry_of : (kind : ℕ) (entry : List ℕ) → EachStands (owner_fields kind) (pieces 0 (owner_fields kind) entry) → IsEntry entry (owner_of kind (who_in entry) (place_in entry) (number_in entry))
entry_of kind entry s =
    test_cases (kind == 0) (IsEntry entry (owner_of kind (who_in entry) (place_in entry) (number_in entry)))
    (λ e. let s' = rw e at s in rw e (entry_free entry s'))
    (λ e. test_cases (kind == 1) (IsEntry entry (owner_of kind (who_in entry) (place_in entry) (number_in entry)))
    (λ e1. let s' = rw (e, e1) at s in rw (e, e1) (entry_member entry s'))
    (λ e1. test_cases (kind == 2) (IsEntry entry (owner_of kind (who_in entry) (place_in entry) (number_in entry)))
    (λ e2. let s' = rw (e, e1, e2) at s in rw (e, e1, e2) (entry_deck entry s'))
    (λ e2. let s' = rw (e, e1, e2) at s in rw (e, e1, e2) (entry_output entry s'))))

four_pieces : (entry : List ℕ) → length entry ≡ 8 → concat (owner_cut entry) ≡ entry
four_pieces entry len = join_pieces 0 (owner_fields 0) entry (sym len)

pub owner_takes : (entry : List ℕ) → length entry ≡ 8 → ((i : ℕ) → get_or entry i 0 < 256) → bad_owner_field entry ≡ None
    → IsOwner (owner_of (slice_index entry 0) (slice_index entry 1) (place_in entry) (number_in entry)) × (entry ≡ owner_entry (owner_of (slice_index entry 0) (slice_index entry 1) (place_in entry) (number_in entry)))
owner_takes entry len fits good =
    let kind = slice_index entry 0 in
    let s = each_stands 0 (owner_fields kind) entry (omega (arith, len, owner_widths kind)) fits good in
    let f = entry_of kind entry s in
    let who : who_in entry ≡ slice_index entry 1 = get_or-take 1 (drop 1 entry) 0 0 (omega arith) ∙ get_or-drop 1 entry 0 0 in
    let f' = subst (λ (w : ℕ). IsEntry entry (owner_of kind w (place_in entry) (number_in entry))) who f in
    (f'.fit, sym (four_pieces entry len) ∙ ap concat (sym f'.is))

pub owner_same : (entry : List ℕ) → owner_in (owner_cut entry) ≡ owner_of (slice_index entry 0) (slice_index entry 1) (place_in entry) (number_in entry)
owner_same entry =
    let kind : slice_index (piece 0 1 entry) 0 ≡ slice_index entry 0 = get_or-take 1 entry 0 0 (omega arith) in
    let who : who_in entry ≡ slice_index entry 1 = get_or-take 1 (drop 1 entry) 0 0 (omega arith) ∙ get_or-drop 1 entry 0 0 in
    ap (λ (k : ℕ). owner_of k (who_in entry) (place_in entry) (number_in entry)) kind ∙ ap (λ (w : ℕ). owner_of (slice_index entry 0) w (place_in entry) (number_in entry)) who

-- ---- for the readers

pub zeros_of : (n : ℕ) (slot : List ℕ) → are_zeros slot ≡ true → length slot ≡ n → slot ≡ replicate n 0
zeros_of n slot z len = zeros_are slot z ∙ ap (λ (k : ℕ). replicate k 0) len

pub none_some : (o : Option ℕ) (n : ℕ) → o ≡ None → o ≡ Some n → ⊥
none_some o n a b = absurd cc

pub bad_is : (fields : List Field) (slot : List ℕ) (n : ℕ) → are_zeros slot ≡ false → first_bad 0 fields slot ≡ Some n → bad_field fields slot ≡ Some n
bad_is fields slot n z h = rw z h

-- ---- for the writers

-- the pieces as the code writes them over zeros
abbrev pub job_puts : JobRec → ℕ → ℕ → List ℕ → List ℕ → List ℕ → List (ℕ × List ℕ)
job_puts j phase flags cards number order =
    (0, phase ∷ j.fields.class.0 ∷ j.fields.prio.0 ∷ flags ∷ j.busy.0 ∷ j.fields.msgclass.0 ∷ []) ∷ (6, cards) ∷ (8, number) ∷ (12, order)
    ∷ (20, j.fields.name.0) ∷ (28, j.fields.dest.0) ∷ (36, j.fields.node.0) ∷ (44, j.fields.origin.0) ∷ []

abbrev pub output_puts : OutRec → ℕ → List ℕ → List ℕ → List ℕ → List ℕ → List (ℕ × List ℕ)
output_puts o flags job lines mark order =
    (0, 1 ∷ o.class.0 ∷ flags ∷ o.busy.0 ∷ []) ∷ (4, job) ∷ (8, o.index.0 ∷ o.copies ∷ []) ∷ (10, lines) ∷ (12, mark) ∷ (16, order) ∷ (24, o.dest.0) ∷ (32, o.forms.0) ∷ []

abbrev pub owner_puts : ℕ → ℕ → List ℕ → List ℕ → List (ℕ × List ℕ)
owner_puts kind who place job = (0, kind ∷ who ∷ []) ∷ (2, place) ∷ (4, job) ∷ []

abbrev zeros_to : ℕ → List ℕ
zeros_to n = replicate n 0

-- the zeros behind the last field of a job
job_rest : (c n o a b d e : List ℕ) → length c ≡ 2 → length n ≡ 4 → length o ≡ 8 → length a ≡ 8 → length b ≡ 8 → length d ≡ 8 → length e ≡ 8
    → drop (length e) (drop (length d) (drop (length b) (drop (length a) (drop (length o) (drop (length n) (drop (length c) (zeros_to 250))))))) ≡ zeros_to 204
job_rest c n o a b d e hc hn ho ha hb hd he = rw (hc, hn, ho, ha, hb, hd, he) refl

job_next : (j : JobRec) (phase flags : ℕ) (cards number order : List ℕ) → length cards ≡ 2 → length number ≡ 4 → length order ≡ 8
    → length j.fields.name.0 ≡ 8 → length j.fields.dest.0 ≡ 8 → length j.fields.node.0 ≡ 8 → AreNext 0 (job_puts j phase flags cards number order)
job_next j phase flags cards number order hc hn ho ha hb hd = (refl, (refl, (omega (arith, hc), (omega (arith, hc, hn), (omega (arith, hc, hn, ho), (omega (arith, hc, hn, ho, ha), (omega (arith, hc, hn, ho, ha, hb), (omega (arith, hc, hn, ho, ha, hb, hd), tt))))))))

pub job_written : (j : JobRec) (phase flags : ℕ) (cards number order zeros into : List ℕ) → zeros ≡ replicate 256 0
    → length j.fields.name.0 ≡ 8 → length j.fields.dest.0 ≡ 8 → length j.fields.node.0 ≡ 8 → length j.fields.origin.0 ≡ 8
    → phase ≡ phase_number j.phase → flags ≡ job_flags j → cards ≡ to_be_bytes w16 j.cards → number ≡ to_be_bytes w32 j.number.0 → order ≡ to_be_bytes w64 j.order
    → into ≡ puts (job_puts j phase flags cards number order) zeros
    → into ≡ concat (job_pieces j)
job_written j phase flags cards number order zeros into free ha hb hd he e1 e2 e3 e4 e5 h =
    let hc : length cards ≡ 2 = ap length e3 in
    let hn : length number ≡ 4 = ap length e4 in
    let ho : length order ≡ 8 = ap length e5 in
    let turn : puts (job_puts j phase flags cards number order) (replicate 256 0) ≡ in_turn (job_puts j phase flags cards number order) (replicate 256 0) =
    puts_in_turn (job_puts j phase flags cards number order) 0 [] (replicate 256 0) refl (job_next j phase flags cards number order hc hn ho ha hb hd) in
    let rest = job_rest cards number order j.fields.name.0 j.fields.dest.0 j.fields.node.0 j.fields.origin.0 hc hn ho ha hb hd he in
    let text : in_turn (job_puts j phase flags cards number order) (replicate 256 0)
    ≡ phase ∷ j.fields.class.0 ∷ j.fields.prio.0 ∷ flags ∷ j.busy.0 ∷ j.fields.msgclass.0
    ∷ (cards ++ (number ++ (order ++ (j.fields.name.0 ++ (j.fields.dest.0 ++ (j.fields.node.0 ++ (j.fields.origin.0 ++ (replicate 204 0 ++ [])))))))) =
    ap (λ (z : List ℕ). phase ∷ j.fields.class.0 ∷ j.fields.prio.0 ∷ flags ∷ j.busy.0 ∷ j.fields.msgclass.0
    ∷ (cards ++ (number ++ (order ++ (j.fields.name.0 ++ (j.fields.dest.0 ++ (j.fields.node.0 ++ (j.fields.origin.0 ++ (z ++ []))))))))) rest in
    h ∙ ap (puts (job_puts j phase flags cards number order)) free ∙ turn ∙ text ∙ (rw (e1, e2, e3, e4, e5) refl)

output_rest : (j l m o a b : List ℕ) → length j ≡ 4 → length l ≡ 2 → length m ≡ 4 → length o ≡ 8 → length a ≡ 8 → length b ≡ 8
    → drop (length b) (drop (length a) (drop (length o) (drop (length m) (drop (length l) (drop 2 (drop (length j) (zeros_to 124))))))) ≡ zeros_to 88
output_rest j l m o a b hj hl hm ho ha hb = rw (hj, hl, hm, ho, ha, hb) refl

output_next : (o : OutRec) (flags : ℕ) (job lines mark order : List ℕ) → length job ≡ 4 → length lines ≡ 2 → length mark ≡ 4 → length order ≡ 8 → length o.dest.0 ≡ 8
    → AreNext 0 (output_puts o flags job lines mark order)
output_next o flags job lines mark order hj hl hm ho ha = (refl, (refl, (omega (arith, hj), (omega (arith, hj), (omega (arith, hj, hl), (omega (arith, hj, hl, hm), (omega (arith, hj, hl, hm, ho), (omega (arith, hj, hl, hm, ho, ha), tt))))))))

pub output_written : (o : OutRec) (flags : ℕ) (job lines mark order zeros into : List ℕ) → zeros ≡ replicate 128 0
    → length o.dest.0 ≡ 8 → length o.forms.0 ≡ 8
    → flags ≡ flag 1 o.held → job ≡ to_be_bytes w32 o.job.0 → lines ≡ to_be_bytes w16 o.lines → mark ≡ to_be_bytes w32 o.mark → order ≡ to_be_bytes w64 o.order
    → into ≡ puts (output_puts o flags job lines mark order) zeros
    → into ≡ concat (output_pieces o)
output_written o flags job lines mark order zeros into free ha hb e1 e2 e3 e4 e5 h =
    let hj : length job ≡ 4 = ap length e2 in
    let hl : length lines ≡ 2 = ap length e3 in
    let hm : length mark ≡ 4 = ap length e4 in
    let ho : length order ≡ 8 = ap length e5 in
    let turn : puts (output_puts o flags job lines mark order) (replicate 128 0) ≡ in_turn (output_puts o flags job lines mark order) (replicate 128 0) =
    puts_in_turn (output_puts o flags job lines mark order) 0 [] (replicate 128 0) refl (output_next o flags job lines mark order hj hl hm ho ha) in
    let rest = output_rest job lines mark order o.dest.0 o.forms.0 hj hl hm ho ha hb in
    let text : in_turn (output_puts o flags job lines mark order) (replicate 128 0)
    ≡ 1 ∷ o.class.0 ∷ flags ∷ o.busy.0 ∷ (job ++ (o.index.0 ∷ o.copies ∷ (lines ++ (mark ++ (order ++ (o.dest.0 ++ (o.forms.0 ++ (replicate 88 0 ++ [])))))))) =
    ap (λ (z : List ℕ). 1 ∷ o.class.0 ∷ flags ∷ o.busy.0 ∷ (job ++ (o.index.0 ∷ o.copies ∷ (lines ++ (mark ++ (order ++ (o.dest.0 ++ (o.forms.0 ++ (z ++ []))))))))) rest in
    h ∙ ap (puts (output_puts o flags job lines mark order)) free ∙ turn ∙ text ∙ (rw (e1, e2, e3, e4, e5) refl)

pub owner_written : (kind who : ℕ) (place job old into : List ℕ) → length old ≡ 8 → length place ≡ 2 → length job ≡ 4 → into ≡ puts (owner_puts kind who place job) old
    → into ≡ (kind ∷ []) ++ (who ∷ []) ++ place ++ job
owner_written kind who place job old into len hp hj h =
    let turn : puts (owner_puts kind who place job) old ≡ in_turn (owner_puts kind who place job) old = puts_in_turn (owner_puts kind who place job) 0 [] old refl (refl, (refl, (omega (arith, hp), tt))) in
    let over : drop (length job) (drop (length place) (drop 2 old)) ≡ [] = drop_all (length job) (drop (length place) (drop 2 old)) (omega (arith, len, hp, hj, length-drop (length place) (drop 2 old), length-drop 2 old)) in
    let end : kind ∷ who ∷ (place ++ (job ++ (drop (length job) (drop (length place) (drop 2 old)) ++ []))) ≡ kind ∷ who ∷ (place ++ job) =
    ap (λ (z : List ℕ). kind ∷ who ∷ (place ++ (job ++ (z ++ [])))) over ∙ ap (λ (z : List ℕ). kind ∷ who ∷ (place ++ z)) (append-nil job) in
    h ∙ turn ∙ end

-- ---- the lengths of slots

pub spelled_length : (fs : List Field) (ps : List (List ℕ)) → AreSpelled fs ps → length (concat ps) ≡ widths fs
spelled_length [] [] h = refl
spelled_length [] (p ∷ ps) h = absurd h
spelled_length (f ∷ fs) [] h = absurd h
spelled_length (f ∷ fs) (p ∷ ps) h = omega (arith, length-append p (concat ps), h.0.0, spelled_length fs ps h.1)

pub job_length : (job : Option JobRec) → IfUsed IsJobRec job → length (job_slot job) ≡ 256
job_length None h = refl
job_length (Some j) h = spelled_length job_fields (job_pieces j) (job_spelled j h)

pub output_length : (output : Option OutRec) → IfUsed IsOutRec output → length (output_slot output) ≡ 128
output_length None h = refl
output_length (Some o) h = spelled_length output_fields (output_pieces o) (output_spelled o h)

pub owner_length : (o : Owner) → IsOwner o → length (owner_entry o) ≡ 8
owner_length owner.Free h = refl
owner_length (owner.Member m) h = refl
owner_length (owner.Deck job place) h = refl
owner_length (owner.Output job index place) h = refl

-- ---- no two things have one spelling

pub job_one : (x y : Option JobRec) → IfUsed IsJobRec x → IfUsed IsJobRec y → job_slot x ≡ job_slot y → x ≡ y
job_one x y hx hy e =
    test_cases (are_zeros (job_slot x)) (x ≡ y)
    (λ z. sym (job_only_free (job_slot x) x z refl) ∙ job_only_free (job_slot x) y z e)
    (λ z. sym (job_only_used (job_slot x) x z hx refl).1 ∙ (job_only_used (job_slot x) y z hy e).1)

pub output_one : (x y : Option OutRec) → IfUsed IsOutRec x → IfUsed IsOutRec y → output_slot x ≡ output_slot y → x ≡ y
output_one x y hx hy e =
    test_cases (are_zeros (output_slot x)) (x ≡ y)
    (λ z. sym (output_only_free (output_slot x) x z refl) ∙ output_only_free (output_slot x) y z e)
    (λ z. sym (output_only_used (output_slot x) x z hx refl).1 ∙ (output_only_used (output_slot x) y z hy e).1)

pub owner_one : (x y : Owner) → IsOwner x → IsOwner y → owner_entry x ≡ owner_entry y → x ≡ y
owner_one x y hx hy e = sym (owner_only (owner_entry x) x hx refl).1 ∙ (owner_only (owner_entry x) y hy e).1
