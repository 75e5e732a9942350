use Rattle.std.proofs.Common.{◌≡◌, ℕ, ◌+◌, List, ◌∷◌, ◌++◌, ◌∙◌, ap, sym, subst, length, arith}
use Rattle.mas_types.specs.LineBytes.{line_bytes, with_mark, AreKept}
use Rattle.mas_types.proofs.LineLemmas.{pushed, marked, kept_pushed, room_for_one}
use Rattle.mas_types.proofs.texts.Lines.push.Goals as goal

pub invariant_of-self-in_err-push_line : goal.invariant_of-self-in_err-push_line
invariant_of-self-in_err-push_line c =
    let count = c.self.inside.count in
    let bytes = c.self.inside.bytes.items in
    let place : c.len.result ≡ length bytes = c.len.ensures ∙ c.self.inside.bytes.ok.0 in
    let added : 0 ∷ c.push_mark.new.marks.items ≡ with_mark count (length bytes) (0 ∷ c.self.inside.marks.items) = c.in_ok-push_mark.ensures.ok ∙ ap (λ (n : ℕ). with_mark count n (0 ∷ c.self.inside.marks.items)) place in
    rw c.in_err-push_line.ensures.err (subst (λ (marks : List ℕ). AreKept count bytes marks) (sym added) (marked count bytes (0 ∷ c.self.inside.marks.items) c.self.invariant).0)

pub overflow_add-self : goal.overflow_add-self
overflow_add-self c =
    let count = c.self.inside.count in
    let bytes = c.self.inside.bytes.items in
    let line = c.args.line.now in
    let room = room_for_one count bytes (0 ∷ c.self.inside.marks.items) line c.self.invariant in
    let all : length c.push_line.new.bytes.items ≡ length (bytes ++ line_bytes line) = ap length c.in_ok-push_line.ensures.ok in
    omega (arith, room, all, c.push_line.new.bytes.ok.0, c.push_line.new.bytes.ok.1, c.push_line.new.bytes.small)

pub invariant_of-self-2 : goal.invariant_of-self-2
invariant_of-self-2 c =
    let count = c.self.inside.count in
    let bytes = c.self.inside.bytes.items in
    let place : c.len.result ≡ length bytes = c.len.ensures ∙ c.self.inside.bytes.ok.0 in
    let added : 0 ∷ c.push_mark.new.marks.items ≡ with_mark count (length bytes) (0 ∷ c.self.inside.marks.items) = c.in_ok-push_mark.ensures.ok ∙ ap (λ (n : ℕ). with_mark count n (0 ∷ c.self.inside.marks.items)) place in
    let marks = marked count bytes (0 ∷ c.self.inside.marks.items) c.self.invariant in
    rw c.in_ok-push_line.ensures.ok (subst (λ (marks : List ℕ). AreKept (count + 1) (bytes ++ line_bytes c.args.line.now) marks) (sym added) (kept_pushed count bytes (with_mark count (length bytes) (0 ∷ c.self.inside.marks.items)) c.args.line.now marks.0 marks.1 c.in_ok-push_line.ensures.short))

pub returns-clause-ok : goal.returns-clause-ok
returns-clause-ok c =
    let count = c.self.inside.count in
    let bytes = c.self.inside.bytes.items in
    rw (c.in_ok-push_line.ensures.ok, ← c.self.view_is) (pushed count bytes (0 ∷ c.self.inside.marks.items) c.args.line.now c.self.invariant c.in_ok-push_line.ensures.short)
