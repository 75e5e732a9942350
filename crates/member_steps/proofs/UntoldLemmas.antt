-- The lines of one step tell no later one.
use Rattle.std.proofs.Common.{◌≡◌, ℕ, ◌^◌, ◌<◌, ◌==◌, false, List, [], ◌∷◌, ◌++◌, map, codes, All, refl, sym, ◌∙◌, ap, subst, arith}
use Rattle.std.proofs.lemmas.Bool.{eqb-true}
use Rattle.std.proofs.lemmas.List.{map-append}
use Rattle.std.proofs.lemmas.List.Elements.{All-nil, All-cons, All-head, All-tail}
use Rattle.mas_types.specs.declared.ids.MemberId.{MemberId}
use Rattle.mas_types.specs.declared.answers.Closing.{Closing}
use Rattle.mas_types.specs.declared.answers.Closing.TheVariants as closing
use Rattle.mas_types.specs.declared.commands.Reply.{Reply}
use Rattle.mas_types.specs.declared.commands.Reply.TheVariants as reply
use Rattle.mas_types.specs.declared.journals.Entry.{Entry}
use Rattle.mas_types.specs.Closings.{closing_line, closing_text, detail_lines, reply_lines}
use Rattle.spool_plant.specs.View.{Line}
use Rattle.mas_complex.specs.Crash.{EachTells}
use Rattle.mas_complex.specs.Headline.{whole}
use Rattle.mas_complex.specs.Journals.{has_step}
use Rattle.mas_complex.specs.Meaning.{Closes}
use Rattle.member_steps.specs.Steps.{entry_of, reply_to}
use Rattle.member_steps.specs.Untold.{TellNoLaterStep}
use Rattle.member_steps.proofs.LineLemmas.{by_test, line_of, same_id, same_step}

-- a line of an earlier step tells not the later one
line_untold : (by : MemberId) (a k : ℕ) (rest : List ℕ) (e : Entry) (m : MemberId) (s : ℕ) → a < k → k < 2 ^ 64 → e.by ≡ by → e.step ≡ k → Closes (line_of by a rest) m s → has_step m s (e ∷ []) ≡ false
line_untold by a k rest e m s less small of at closes = by_test (e.by.0 == m.0)
    (λ one. by_test (e.step == s)
    (λ two.
    let member : m ≡ by = sym (same_id e.by m (eqb-true e.by.0 m.0 one)) ∙ of in
    let number : s ≡ k = sym (eqb-true e.step s two) ∙ at in
    let here : line_of by a rest ≡ line_of by k (closing_text closes.end) = closes.is ∙ ap (λ (n : MemberId). closing_line n s closes.end) member ∙ ap (λ (n : ℕ). closing_line by n closes.end) number in
    let same : a ≡ k = same_step by by a k rest (closing_text closes.end) (omega arith) small here in
    absurd (omega (arith, same)))
    (λ two. rw (one, two) refl))
    (λ one. rw one refl)

-- a line of an earlier step tells none of a later step's entries
lines_untold : (by : MemberId) (a k : ℕ) (rest : List ℕ) (es : List Entry) (m : MemberId) (s : ℕ) → a < k → k < 2 ^ 64 → All (λ (e : Entry). (e.by ≡ by) × (e.step ≡ k)) es → Closes (line_of by a rest) m s → has_step m s es ≡ false
lines_untold by a k rest [] m s less small of closes = refl
lines_untold by a k rest (e ∷ es) m s less small of closes =
    let here : (e.by ≡ by) × (e.step ≡ k) = All-head (λ (e : Entry). (e.by ≡ by) × (e.step ≡ k)) e es of in
    let one : has_step m s (e ∷ []) ≡ false = line_untold by a k rest e m s less small here.0 here.1 closes in
    let more : has_step m s es ≡ false = lines_untold by a k rest es m s less small (All-tail (λ (e : Entry). (e.by ≡ by) × (e.step ≡ k)) e es of) closes in
    by_test (e.by.0 == m.0)
    (λ same. by_test (e.step == s) (λ both. absurd (let told = rw (same, both) at one in cc)) (λ other. rw (same, other) more))
    (λ other. rw other more)

module _ (by : MemberId) (a k : ℕ) (less : a < k) (small : k < 2 ^ 64) (es : List Entry) (of : All (λ (e : Entry). (e.by ≡ by) × (e.step ≡ k)) es) where
  details_untold : (shown : List (List ℕ)) → EachTells Closes (map whole (detail_lines by a shown)) (λ m s. has_step m s es ≡ false)
  details_untold [] = tt
  details_untold (text ∷ shown) = ((λ is m s closes. lines_untold by a k (codes "-" ++ 32 ∷ text) es m s less small of closes), details_untold shown)

  pub both_untold : (xs ys : List Line) → EachTells Closes xs (λ m s. has_step m s es ≡ false) → EachTells Closes ys (λ m s. has_step m s es ≡ false) → EachTells Closes (xs ++ ys) (λ m s. has_step m s es ≡ false)
  both_untold [] ys one two = two
  both_untold (x ∷ xs) ys one two = (one.0, both_untold xs ys one.1 two)

  pub closing_untold : (end : Closing) → EachTells Closes (whole (closing_line by a end) ∷ []) (λ m s. has_step m s es ≡ false)
  closing_untold end = ((λ is m s closes. lines_untold by a k (closing_text end) es m s less small of closes), tt)

  pub reply_untold : (r : Reply) → EachTells Closes (map whole (reply_lines by a r)) (λ m s. has_step m s es ≡ false)
  reply_untold reply.Plain = closing_untold (closing.Reply reply.Plain)
  reply_untold (reply.Job job) = closing_untold (closing.Reply (reply.Job job))
  reply_untold (reply.Output job index) = closing_untold (closing.Reply (reply.Output job index))
  reply_untold (reply.Count n) = closing_untold (closing.Reply (reply.Count n))
  reply_untold (reply.No why) = closing_untold (closing.Reply (reply.No why))
  reply_untold (reply.Shown shown) = subst (λ (ls : List Line). EachTells Closes ls (λ m s. has_step m s es ≡ false))
      (sym (map-append whole (detail_lines by a shown) (closing_line by a (closing.Reply (reply.Shown shown)) ∷ [])))
      (both_untold (map whole (detail_lines by a shown)) (whole (closing_line by a (closing.Reply (reply.Shown shown))) ∷ []) (details_untold shown) (closing_untold (closing.Reply (reply.Shown shown))))

pub tell_no_later_step : TellNoLaterStep
tell_no_later_step Q R by a k c d less small = reply_untold by a k less small (entry_of R by k d ∷ []) (All-cons (λ (e : Entry). (e.by ≡ by) × (e.step ≡ k)) (entry_of R by k d) [] (refl, refl) (All-nil (λ (e : Entry). (e.by ≡ by) × (e.step ≡ k)))) (reply_to Q by c)
