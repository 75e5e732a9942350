-- A text is gone only where it was when the run began.
use Rattle.member_acts.proofs.Names.{Ghosts as PlantGhosts, Parts, Text, ◌||◌, ◌++◌, refl, sym, ◌∙◌, ap, subst, ◌≡◌, ℕ, ◌&&◌, if◌then◌else◌, Bool, true, false, List, [], ◌∷◌, Option, Some, None, All, ◌+◌, list_any, is_kept, kept_all, in_flight, run, gone_with, is_brought, Coded, Coded-set, coded_ℕ, coded_option, code_by, ∥∥₁_elim, All-nil, All-cons, All-head, All-tail, GroupNo, Batch, Entry, Command, Reply, Queue, AreGivenIn, test_cases, list_any-append}
use Rattle.mas_types.specs.Step.{step}
use Rattle.mas_types.specs.Sound.{IsSound}
use Rattle.mas_types.specs.declared.queues.Thing.{Thing}
use Rattle.member_acts.specs.Brings.{IsGoneIn, gone_since}
use Rattle.queue_gone.specs.Gone.{IsGoneAs, brings_by, gone_at, text_at}
use Rattle.queue_gone.proofs.GoneLemmas.{gone_first, gone_now, gone_step}
use Rattle.mas_complex.specs.Replies.{AreReplied, HaveReplies, after_batch}
use Rattle.mas_complex.proofs.Batches.{replied_front}
use Rattle.mas_complex.proofs.Papers.{given_kept_all}
use Rattle.queue_laws.specs.Runs.{IsGiven}
use Rattle.queue_laws.proofs.RunLaws.{runs_keep_sound}
use Rattle.paper_laws.proofs.Runs.{all_given_after}

-- BATCHES

-- a text is brought in the kept entries where it is by a kept batch
brought_in : (brings : Command → Reply → Bool) (bs : List Batch) → list_any (λ b. is_kept b.fate && is_brought brings b.entries) bs ≡ is_brought brings (kept_all bs)
brought_in brings [] = refl
brought_in brings (b ∷ bs) =
    test_cases (is_kept b.fate) (list_any (λ b. is_kept b.fate && is_brought brings b.entries) (b ∷ bs) ≡ is_brought brings (kept_all (b ∷ bs)))
    (λ e. rw e (ap (λ (x : Bool). is_brought brings b.entries || x) (brought_in brings bs) ∙ sym (list_any-append (λ (e : Entry). brings e.command e.reply) b.entries (kept_all bs))))
    (λ e. rw e (brought_in brings bs))

pub since_when : (brings : Command → Reply → Bool) (gone : Option GroupNo) (bs slice : List Batch) (b : Bool) → slice ≡ bs → b ≡ list_any (λ b. is_kept b.fate && is_brought brings b.entries) slice → (if is_brought brings (kept_all bs) then None else gone) ≡ (if b then None else gone)
since_when brings gone bs slice b at is = ap (λ (x : Bool). if x then None else gone) (sym (is ∙ ap (λ (l : List Batch). list_any (λ b. is_kept b.fate && is_brought brings b.entries) l) at ∙ brought_in brings bs))

-- once brought a text is whole
pub either : {A : Type 0} (Fits : Option GroupNo → A → Type 0) (a b : Bool) (g : Option GroupNo) (x : A) → Fits (if b then None else (if a then None else g)) x → Fits (if a || b then None else g) x
either Fits true true g x are = are
either Fits true false g x are = are
either Fits false b g x are = are

replies_append : (Q : Queue) (es fs : List Entry) → HaveReplies Q es → HaveReplies (run Q es) fs → HaveReplies Q (es ++ fs)
replies_append Q [] fs one two = two
replies_append Q (e ∷ es) fs one two = (one.0, replies_append (step Q e.by e.command).0 es fs one.1 two)

pub kept_have : (Q : Queue) (bs : List Batch) → AreReplied Q bs → HaveReplies Q (kept_all bs)
kept_have Q [] are = tt
kept_have Q (b ∷ bs) are = by_fate (is_kept b.fate) (kept_have (after_batch Q b) bs are.1) where
  by_fate : (c : Bool) → HaveReplies (if c then run Q b.entries else Q) (kept_all bs) → HaveReplies Q ((if c then b.entries else []) ++ kept_all bs)
  by_fate true rest = replies_append Q b.entries (kept_all bs) are.0 rest
  by_fate false rest = rest

abbrev coded_group : Coded GroupNo
coded_group = code_by ℕ coded_ℕ (λ g. g.0) (λ n. record { 0 = n }) (λ _. refl)

-- a text over some entries
run_gone : (thing : Thing) (g : Option GroupNo) (Q : Queue) (es : List Entry) → HaveReplies Q es → IsSound Q → All (IsGiven Q) es → IsGoneAs thing g Q → IsGoneAs thing (if is_brought (brings_by thing) es then None else g) (run Q es)
run_gone thing g Q [] have sound given is = is
run_gone thing g Q (e ∷ es) have sound given is =
    let R : Queue = (step Q e.by e.command).0 in
    let b : Bool = brings_by thing e.command e.reply in
    let here : IsGoneAs thing (if b then None else g) R = subst (λ (answer : Reply). IsGoneAs thing (if brings_by thing e.command answer then None else g) R) (sym have.0) (gone_step thing g Q e.by e.command sound is) in
    let later : IsSound R = runs_keep_sound Q (e ∷ []) sound (All-cons (IsGiven Q) e [] (All-head (IsGiven Q) e es given) (All-nil (IsGiven Q))) in
    either (IsGoneAs thing) b (is_brought (brings_by thing) es) g (run R es) (run_gone thing (if b then None else g) R es have.1 later (all_given_after Q (e ∷ []) es (All-tail (IsGiven Q) e es given)) here)

-- so it is at the queue after the kept batches
pub gone_is : (thing : Thing) (Q : Queue) (bs : List Batch) (current : Option Batch) → ∥ AreReplied Q (bs ++ in_flight current) ∥₁ → IsSound Q → ∥ AreGivenIn Q bs ∥₁ → (t : Text) → text_at thing (run Q (kept_all bs)) ≡ Some t → gone_since thing Q (kept_all bs) ≡ gone_with t
gone_is thing Q bs current some sound given t found =
    ∥∥₁_elim some (Coded-set (coded_option coded_group) _ _) (λ are. ∥∥₁_elim given (Coded-set (coded_option coded_group) _ _) (λ each.
    let since = run_gone thing (gone_at thing Q) Q (kept_all bs) (kept_have Q bs (replied_front Q bs (in_flight current) are)) sound (given_kept_all Q bs each) (gone_first thing Q sound) in
    gone_now thing (gone_since thing Q (kept_all bs)) (run Q (kept_all bs)) t since found))

-- what that shows of it
pub gone_so : {P C : Type 0} (plants : PlantGhosts P) (x : Parts P C) (thing : Thing) (gone : Option GroupNo) → gone ≡ gone_since thing x.base (kept_all x.batches) → (plants.tells → ∥ AreReplied x.base (x.batches ++ in_flight x.current) ∥₁) → (plants.tells → IsSound x.base)
    → (plants.tells → IsSound x.base → ∥ AreGivenIn x.base x.batches ∥₁) → IsGoneIn plants x thing gone
gone_so plants x thing gone since some sound given = record { since = since; gone_is = λ told t found. since ∙ gone_is thing x.base x.batches x.current (some told) (sound told) (given told (sound told)) t found }

-- a text that was whole is so whatever was brought
pub whole_stays : (b : Bool) (gone : Option GroupNo) → gone ≡ None → None ≡ (if b then None else gone)
whole_stays true gone whole = refl
whole_stays false gone whole = sym whole
