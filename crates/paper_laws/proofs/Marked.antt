-- What each Mark answered stands on paper.
use Rattle.std.proofs.Common.{◌≡◌, ℕ, ◌+◌, ◌≤◌, Bool, true, false, ◌||◌, List, [], ◌∷◌, ◌++◌, All, Option, Some, None, refl, ap, sym, ◌∙◌, subst, arith, append_assoc}
use Rattle.std.proofs.lemmas.List.Elements.{All-head, All-tail, All-cons, All-nil}
use Rattle.mas_types.specs.declared.ids.JobNo.{JobNo}
use Rattle.mas_types.specs.declared.ids.OutNo.{OutNo}
use Rattle.mas_types.specs.declared.jobs.Output.{Output}
use Rattle.mas_types.specs.declared.jobs.Text.{Text}
use Rattle.mas_types.specs.declared.queues.Queue.{Queue}
use Rattle.mas_types.specs.declared.commands.Command.{Command}
use Rattle.mas_types.specs.declared.commands.Command.TheVariants as command
use Rattle.mas_types.specs.declared.commands.Reply.{Reply}
use Rattle.mas_types.specs.declared.commands.Reply.TheVariants as reply
use Rattle.mas_types.specs.declared.journals.Entry.{Entry}
use Rattle.mas_types.specs.Queue.{output_at}
use Rattle.mas_types.specs.Run.{run}
use Rattle.mas_types.specs.Sound.{IsSound}
use Rattle.mas_types.specs.Step.{step}
use Rattle.queue_laws.specs.Laws.{is_refusal}
use Rattle.queue_laws.specs.Marks.{FollowsAt}
use Rattle.queue_laws.specs.Runs.{IsGiven}
use Rattle.queue_laws.proofs.MarksFollow.{marks_follow, mark_is_at_most}
use Rattle.queue_laws.proofs.RunLaws.{runs_keep_sound}
use Rattle.paper_laws.specs.Paper.{touches, touched, printed_at, AreMarksOn, AreMarkedLinesOn}
use Rattle.paper_laws.specs.Counts.{none_printed}
use Rattle.paper_laws.proofs.Runs.{run_push}

front_all : {A : Type 0} (P : A → Type 0) (xs ys : List A) → All P (xs ++ ys) → All P xs
front_all P [] ys all = All-nil P
front_all P (x ∷ xs) ys all = All-cons P x xs (All-head P x (xs ++ ys) all) (front_all P xs ys (All-tail P x (xs ++ ys) all))

-- a Mark touches nothing
mark_calm : (Q : Queue) (es : List Entry) (e : Entry) (n : JobNo) (i : OutNo) (at : ℕ) → e.command ≡ command.Mark n i at → touched Q es n i ≡ false → touched Q (es ++ e ∷ []) n i ≡ false
mark_calm Q [] e n i at is un = rw is refl
mark_calm Q (x ∷ es) e n i at is un = rest (touches Q x n i) (touched (step Q x.by x.command).0 es n i) (touched (step Q x.by x.command).0 (es ++ e ∷ []) n i) un (λ w. mark_calm (step Q x.by x.command).0 es e n i at is w)
  where
    rest : (a b c : Bool) → (a || b) ≡ false → (b ≡ false → c ≡ false) → (a || c) ≡ false
    rest true b c h so = absurd (cc)
    rest false b c h so = so h

pub marks_answer : (On : JobNo → OutNo → ℕ → Text → Type 0) (base : Queue) (es : List Entry) → IsSound base → All (IsGiven base) es → AreMarksOn On base es → AreMarkedLinesOn On base es
marks_answer On base es sound given marks before after e n i at count o is mark answer found un line low high =
    let Q : Queue = run base before in
    let calm : is_refusal (step Q e.by (command.Mark n i at)).1 ≡ false = subst (λ (r : Reply). is_refusal r ≡ false) (sym answer') refl in
    let most = mark_is_at_most Q e.by n i at calm in
    let same : count ≡ most.0.mark = count_is count most.0.mark (sym answer' ∙ most.3) in
    let there : output_at (run base (before ++ e ∷ [])) n i ≡ Some most.0 =
    subst (λ (R : Queue). output_at R n i ≡ Some most.0) (sym (run_push base before e)) (subst (λ (c : Command). output_at (step Q e.by c).0 n i ≡ Some most.0) (sym mark) most.1) in
    let text : most.0.text ≡ o.text = same_text (output_at Q n i) found most.0 (subst (λ (x : Option Output). FollowsAt e.by (command.Mark n i at) (output_at Q n i) x) most.1
    (marks_follow Q e.by (command.Mark n i at) now n i)) in
    subst (λ (t : Text). On n i line t) text
    (marks (before ++ e ∷ []) after (is ∙ sym (append_assoc before (e ∷ []) after)) n i most.0 there (mark_calm base before e n i at mark un) line low
    (upto line count most.0.mark (printed_at none_printed most.0.busy) high same))
  where
    answer' : (step (run base before) e.by (command.Mark n i at)).1 ≡ reply.Count count
    answer' = subst (λ (c : Command). (step (run base before) e.by c).1 ≡ reply.Count count) mark answer

    now : IsSound (run base before)
    now = runs_keep_sound base before sound (front_all (IsGiven base) before (e ∷ after) (subst (λ (l : List Entry). All (IsGiven base) l) is given))

    count_is : (a b : ℕ) → reply.Count a ≡ reply.Count b → a ≡ b
    count_is a b h = cc

    upto : (line count k p : ℕ) → line ≤ count → count ≡ k → line ≤ k + p
    upto line count k p l s = omega arith

    same_text : (x : Option Output) → x ≡ Some o → (new : Output) → FollowsAt e.by (command.Mark n i at) x (Some new) → new.text ≡ o.text
    same_text None h new follows = absurd (cc)
    same_text (Some old) h new follows = let w : old ≡ o = cc in follows.text ∙ ap (λ (y : Output). y.text) w
