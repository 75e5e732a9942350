use Rattle.std.proofs.Common.{◌∙◌, Err, Ok, ℕ, List, Option, ap, refl, subst, sym}
use Rattle.std.proofs.lemmas.Result.{err_from_is_err_and}
use Rattle.lock_cycle.specs.Books.{is_stopped}
use Rattle.mas_complex.specs.Parts.{Parts, parts_of}
use Rattle.member_resets.specs.Asides.{ActsAfter}
use Rattle.member_resets.proofs.Acting.{changed_only}
use Rattle.member_racing.proofs.Easing.{ease_as}
use Rattle.member_racing.proofs.SittingLemmas.{acted_frame}
use Rattle.member_racing.proofs.sitting.act_turn.Goals as goal

pub returns-in_err-found-clause-acts : goal.returns-in_err-found-clause-acts
returns-in_err-found-clause-acts g c =
    let x = parts_of c.args.complex.now in
    let y = parts_of c.act_then.new.complex in
    let m = c.args.member.now in
    let e = c.in_err-found.field-0.0 in
    let p = err_from_is_err_and c.from_residual.result c.from_residual.ensures.1 in
    let acts = subst (λ (was : Option (List ℕ)). ActsAfter g.P.Plant x y m c.args.stand.state was c.act_then.new.reader (Err e)) c.new-reader.ensures c.in_err-found.ensures.acts in
    rw (p.1, p.2) (c.act_then.new.reader, acts)

pub returns-clause-acts : goal.returns-clause-acts
returns-clause-acts g c =
    let x = parts_of c.args.complex.now in
    let y = parts_of c.act_then.new.complex in
    let m = c.args.member.now in
    let found = c.in_ok-found.found in
    let acts = subst (λ (was : Option (List ℕ)). ActsAfter g.P.Plant x y m c.args.stand.state was c.act_then.new.reader (Ok found)) c.new-reader.ensures c.in_ok-found.ensures.acts in
    (record c.args.stand { found = found }, c.act_then.new.reader, refl, refl, acts)

-- nothing but the plant and the count of printed lines differs, or the book, where the member was stopped at its
-- printer

pub returns-in_err-found-clause-frame : goal.returns-in_err-found-clause-frame
returns-in_err-found-clause-frame g c =
    acted_frame g.P.Plant g.C.Copying (parts_of c.args.complex.now) (parts_of c.act_then.new.complex) c.args.member.now c.args.stand.state c.new-reader.result c.act_then.new.reader c.act_then.result c.act_then.ensures.acts

pub returns-clause-frame : goal.returns-clause-frame
returns-clause-frame g c =
    acted_frame g.P.Plant g.C.Copying (parts_of c.args.complex.now) (parts_of c.act_then.new.complex) c.args.member.now c.args.stand.state c.new-reader.result c.act_then.new.reader c.act_then.result c.act_then.ensures.acts

pub returns-clause-ease : goal.returns-clause-ease
returns-clause-ease g c = λ up.
    let P = g.P.Plant in
    let C = g.C.Copying in
    let x = parts_of c.args.complex.now in
    let y = parts_of c.act_then.new.complex in
    let m = c.args.member.now in
    let changed = changed_only P C x y m c.args.stand.state c.new-reader.result c.act_then.new.reader (Ok c.in_ok-found.found) c.in_ok-found.ensures.acts in
    ease_as P C x y m (ap (λ (q : Parts _ _). q.base) changed) (ap (λ (q : Parts _ _). q.had) changed)
    (c.requires.ease (ap (λ (q : Parts _ _). is_stopped q.book m.id) (sym changed) ∙ up))
