-- Summaries of entries, one after another, by the table of commands.
use Rattle.std.proofs.Common.{◌≡◌, ℕ, ◌+◌, Bool, false, List, [], ◌∷◌, ◌++◌, cond, drop, get_or, length, map, Option, Some, None, refl, sym, ◌∙◌, ap, subst, arith}
use Rattle.std.specs.Prelude.{count_by}
use Rattle.std.specs.List.{All, cons_option, find}
use Rattle.std.proofs.lemmas.List.Elements.{All-head, All-tail, All-weaker}
use Rattle.std.proofs.lemmas.List.Sums.{sum_by-cons}
use Rattle.mas_types.specs.declared.commands.Reply.{Reply}
use Rattle.mas_types.specs.declared.commands.Reply.TheVariants as reply
use Rattle.mas_types.specs.declared.ids.JobNo.{JobNo}
use Rattle.mas_types.specs.declared.ids.OutNo.{OutNo}
use Rattle.mas_types.specs.declared.journals.Entry.{Entry}
use Rattle.mas_types.specs.declared.queues.Queue.{Queue}
use Rattle.mas_types.specs.Queue.{has_key}
use Rattle.mas_types.specs.Run.{replies, run}
use Rattle.mas_types.specs.Sound.{IsSound}
use Rattle.mas_types.specs.Step.{step}
use Rattle.queue_laws.specs.Runs.{IsGiven}
use Rattle.queue_laws.proofs.Configuration.{keeps_configuration}
use Rattle.queue_laws.proofs.RunLaws.{give_alike}
use Rattle.queue_laws.proofs.SoundAll.{keeps_sound}
use Rattle.gen_work.specs.declared.summaries.Counted.{Counted}
use Rattle.gen_work.specs.Summaries.{counted_in, counted_of, is_begun, is_gone, mark_after, mark_then, printed_behind}
use Rattle.script_generated.specs.Sums.{SumsAreOfTable, lines_in, lines_of, sets_mark}
use Rattle.script_generated.proofs.Rows.{AreMarked, counted_if, jobs_step, lines_step, mark_if, marks_step, one_if, printed_if}

-- THE FIRST ENTRY, with its reply by the table

first_reply : (Q : Queue) (e : Entry) (es : List Entry) → map (λ (x : Entry). x.reply) (e ∷ es) ≡ replies Q (e ∷ es) → e.reply ≡ (step Q e.by e.command).1
first_reply Q e es are = ap (λ (rs : List Reply). get_or rs 0 reply.Plain) are

rest_replies : (Q : Queue) (e : Entry) (es : List Entry) → map (λ (x : Entry). x.reply) (e ∷ es) ≡ replies Q (e ∷ es) → map (λ (x : Entry). x.reply) es ≡ replies (step Q e.by e.command).0 es
rest_replies Q e es are = ap (drop 1) are

counted_is : (Q : Queue) (e : Entry) → e.reply ≡ (step Q e.by e.command).1 → counted_of e ≡ counted_if (step Q e.by e.command).1 e.command
counted_is Q e is = ap (λ (r : Reply). counted_if r e.command) is

rest_given : (Q : Queue) (e : Entry) (es : List Entry) → All (IsGiven Q) (e ∷ es) → All (IsGiven (step Q e.by e.command).0) es
rest_given Q e es all =
    let same = (keeps_configuration Q e.by e.command).config in
    All-weaker (IsGiven Q) (IsGiven (step Q e.by e.command).0) (λ x given. record { by = give_alike Q (step Q e.by e.command).0 x.by x.command same given.by; fit = given.fit }) es (All-tail (IsGiven Q) e es all)

-- JOBS

count_one : (p : Counted → Bool) (o : Option Counted) (xs : List Counted) → count_by p (cons_option o xs) ≡ one_if p o + count_by p xs
count_one p None xs = omega arith
count_one p (Some x) xs = sum_by-cons (λ (y : Counted). cond (p y) 1 0) x xs

jobs_of : (Q : Queue) (es : List Entry) → map (λ (x : Entry). x.reply) es ≡ replies Q es → length (run Q es).jobs + count_by is_gone (counted_in es) ≡ length Q.jobs + count_by is_begun (counted_in es)
jobs_of Q [] are = refl
jobs_of Q (e ∷ es) are =
    let Q' = (step Q e.by e.command).0 in
    let o = counted_of e in
    let rest = jobs_of Q' es (rest_replies Q e es are) in
    let one : length Q'.jobs + one_if is_gone o ≡ length Q.jobs + one_if is_begun o =
    subst (λ (x : Option Counted). length Q'.jobs + one_if is_gone x ≡ length Q.jobs + one_if is_begun x) (sym (counted_is Q e (first_reply Q e es are))) (jobs_step Q e.by e.command) in
    let gone = count_one is_gone o (counted_in es) in
    let begun = count_one is_begun o (counted_in es) in
    omega (arith, rest, one, gone, begun)

-- LINES

abbrev push_if : List Counted → Option Counted → List Counted
push_if before None = before
push_if before (Some x) = before ++ x ∷ []

mark_push : (n : JobNo) (i : OutNo) (mark : ℕ) (before : List Counted) (x : Counted) → mark_after n i mark (before ++ x ∷ []) ≡ mark_then n i (mark_after n i mark before) x
mark_push n i mark [] x = refl
mark_push n i mark (y ∷ ys) x = mark_push n i (mark_then n i mark y) ys x

mark_pushed : (n : JobNo) (i : OutNo) (before : List Counted) (o : Option Counted) → mark_after n i 0 (push_if before o) ≡ mark_if n i (mark_after n i 0 before) o
mark_pushed n i before None = refl
mark_pushed n i before (Some x) = mark_push n i 0 before x

printed_one : (before : List Counted) (o : Option Counted) (xs : List Counted) → printed_behind before (cons_option o xs) ≡ printed_if before o + printed_behind (push_if before o) xs
printed_one before None xs = omega arith
printed_one before (Some x) xs = refl

lines_are : (Q : Queue) (before : List Counted) (es : List Entry) → IsSound Q → AreMarked Q before → All (IsGiven Q) es → map (λ (x : Entry). x.reply) es ≡ replies Q es → All (λ (x : Entry). sets_mark x.command ≡ false) es
    → printed_behind before (counted_in es) ≡ lines_of Q es
lines_are Q before [] sound marked given are none = refl
lines_are Q before (e ∷ es) sound marked given are none =
    let Q' = (step Q e.by e.command).0 in
    let o = counted_of e in
    let is = counted_is Q e (first_reply Q e es are) in
    let head = All-head (IsGiven Q) e es given in
    let set = All-head (λ (x : Entry). sets_mark x.command ≡ false) e es none in
    let next : AreMarked Q' (push_if before o) = λ n i new there.
    subst (λ (x : Option Counted). new.mark ≡ mark_if n i (mark_after n i 0 before) x) (sym is) (marks_step Q e.by sound before marked n i new e.command set there) ∙ sym (mark_pushed n i before o) in
    let rest = lines_are Q' (push_if before o) es (keeps_sound Q e.by e.command sound head.fit head.by) next (rest_given Q e es given) (rest_replies Q e es are) (All-tail (λ (x : Entry). sets_mark x.command ≡ false) e es none) in
    let one : lines_in Q o ≡ printed_if before o = subst (λ (x : Option Counted). lines_in Q x ≡ printed_if before x) (sym is) (lines_step Q e.by before marked e.command) in
    printed_one before o (counted_in es) ∙ ap (λ (k : ℕ). k + printed_behind (push_if before o) (counted_in es)) (sym one) ∙ ap (λ (k : ℕ). lines_in Q o + k) rest

none_marked : (Q : Queue) → Q.outputs ≡ [] → AreMarked Q []
none_marked Q none n i o there = absurd (let w : find (has_key n i) Q.outputs ≡ None = ap (find (has_key n i)) none in cc)

pub sums_are : SumsAreOfTable
sums_are Q es sound none given are set = record {
  lines = lines_are Q [] es sound (none_marked Q none) given are set;
  jobs = let jobs = jobs_of Q es are in omega (arith, jobs);
}
