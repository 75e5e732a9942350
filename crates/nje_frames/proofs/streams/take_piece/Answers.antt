use Rattle.std.proofs.Common.{◌≡◌, ℕ, false, List, length, get_or, sym, ap, subst, ◌∙◌}
use Rattle.std.specs.Prelude.{◌==◌, OnOk, OnErr}
use Rattle.std.proofs.lemmas.Bool.{ne_eqb}
use Rattle.std.proofs.lemmas.List.{take_rest}
use Rattle.std.proofs.lemmas.Result.{on_ok_weaker, on_err_weaker}
use Rattle.nje_frames.specs.Grammar.{etx}
use Rattle.nje_frames.specs.Streams.{frames_in, AddsFirst, HasTaken}
use Rattle.nje_frames.proofs.TakeSteps.{longer_taken, anew_taken, anew_first, ended_taken, ended_first}
use Rattle.nje_frames.proofs.streams.take_piece.Goals as goal

pub returns-in_default-clause-ok : goal.returns-in_default-clause-ok
returns-in_default-clause-ok c =
    let some : (length c.args.rest.now.items == 0) ≡ false = ap (λ (n : ℕ). n == 0) (sym c.args.rest.now.ok.0) ∙ sym c.is_empty.ensures ∙ c.if-is_empty.false in
    on_ok_weaker c.keep.result (longer_taken c.args.rest.now.items c.args.piece.now c.requires some c.keep.new.rest.items c.args.out.now c.in_default.ensures.none) c.keep.ensures.ok

pub returns-then-piece-at-ne-ETX-clause-ok : goal.returns-then-piece-at-ne-ETX-clause-ok
returns-then-piece-at-ne-ETX-clause-ok c =
    let some : (length c.args.rest.now.items == 0) ≡ false = ap (λ (n : ℕ). n == 0) (sym c.args.rest.now.ok.0) ∙ sym c.is_empty.ensures ∙ c.if-is_empty.false in
    let r = c.take_alone-then-piece-at-ne-ETX.result in
    let new = c.take_alone-then-piece-at-ne-ETX.new.rest.items in
    let after = c.take_alone-then-piece-at-ne-ETX.new.out in
    on_ok_weaker r
    (anew_taken c.args.rest.now.items c.args.piece.now c.requires some c.in-Some.at c.in-Some.ensures.found new c.args.out.now after (ne_eqb (get_or c.args.piece.now c.in-Some.at 0) etx c.if-piece-at-ne-ETX.true))
    (subst (λ (w : List ℕ). OnOk r (HasTaken w new c.args.out.now after)) (take_rest c.args.piece.now c.in-Some.at) c.take_alone-then-piece-at-ne-ETX.ensures.ok)

pub returns-then-piece-at-ne-ETX-clause-err : goal.returns-then-piece-at-ne-ETX-clause-err
returns-then-piece-at-ne-ETX-clause-err c =
    let some : (length c.args.rest.now.items == 0) ≡ false = ap (λ (n : ℕ). n == 0) (sym c.args.rest.now.ok.0) ∙ sym c.is_empty.ensures ∙ c.if-is_empty.false in
    let r = c.take_alone-then-piece-at-ne-ETX.result in
    let after = c.take_alone-then-piece-at-ne-ETX.new.out in
    on_err_weaker r
    (anew_first c.args.rest.now.items c.args.piece.now c.requires some c.in-Some.at c.in-Some.ensures.found c.args.out.now after (ne_eqb (get_or c.args.piece.now c.in-Some.at 0) etx c.if-piece-at-ne-ETX.true))
    (subst (λ (w : List ℕ). OnErr r (AddsFirst (frames_in w) c.args.out.now after)) (take_rest c.args.piece.now c.in-Some.at) c.take_alone-then-piece-at-ne-ETX.ensures.err)

pub returns-clause-ok : goal.returns-clause-ok
returns-clause-ok c =
    let some : (length c.args.rest.now.items == 0) ≡ false = ap (λ (n : ℕ). n == 0) (sym c.args.rest.now.ok.0) ∙ sym c.is_empty.ensures ∙ c.if-is_empty.false in
    let r = c.take_alone-2.result in
    let new = c.take_alone-2.new.rest.items in
    let after = c.take_alone-2.new.out in
    on_ok_weaker r
    (ended_taken c.args.rest.now.items c.args.piece.now c.requires some c.in-Some.at c.in-Some.ensures.found new c.args.out.now c.end_frame.new.out after c.if-piece-at-ne-ETX.false c.in_ok-end_frame.ensures.ok)
    (subst (λ (w : List ℕ). OnOk r (HasTaken w new c.end_frame.new.out after)) (take_rest c.args.piece.now c.in-Some.at) c.take_alone-2.ensures.ok)

pub returns-clause-err : goal.returns-clause-err
returns-clause-err c =
    let some : (length c.args.rest.now.items == 0) ≡ false = ap (λ (n : ℕ). n == 0) (sym c.args.rest.now.ok.0) ∙ sym c.is_empty.ensures ∙ c.if-is_empty.false in
    let r = c.take_alone-2.result in
    let after = c.take_alone-2.new.out in
    on_err_weaker r
    (ended_first c.args.rest.now.items c.args.piece.now c.requires some c.in-Some.at c.in-Some.ensures.found c.args.out.now c.end_frame.new.out after c.if-piece-at-ne-ETX.false c.in_ok-end_frame.ensures.ok)
    (subst (λ (w : List ℕ). OnErr r (AddsFirst (frames_in w) c.end_frame.new.out after)) (take_rest c.args.piece.now c.in-Some.at) c.take_alone-2.ensures.err)
