use Rattle.std.proofs.Common.{◌≡◌, ◌∙◌, ℕ, List, [], ◌++◌, drop, length, take, ap, append-nil, drop_of_length-le, arith}
use Rattle.std.proofs.lemmas.List.{take_all}
use Rattle.std.proofs.lemmas.Result.{err_from_is_err_and}
use Rattle.member_wires.specs.declared.acts.Taken.{Taken}
use Rattle.member_wires.proofs.Reading.{hears_all, hears_none, hears_stopped, hears_unread}
use Rattle.member_wires.proofs.asides.hear.Goals as goal

pub returns-in_default-clause-hears : goal.returns-in_default-clause-hears
returns-in_default-clause-hears g c = hears_none g.P.Plant.tells c.args.end (g.P.Plant.view c.args.complex.now.plant) c.args.reader.now c.args.frames.now

pub returns-in_err-count-clause-hears : goal.returns-in_err-count-clause-hears
returns-in_err-count-clause-hears g c =
    let P = g.P.Plant in
    let into = c.take_waiting.new.into in
    let room : length into ≡ 65536 = c.take_waiting.ensures.room ∙ ap length c.as_mut_slice.ensures.value ∙ c.in-Ok.ensures in
    let p = err_from_is_err_and c.from_residual.result c.from_residual.ensures.1 in
    rw (p.1, p.2) (hears_stopped P.tells c.args.end into (P.view c.args.complex.now.plant) (P.view c.take_waiting.new.complex.plant) c.args.reader.now c.args.reader.now c.args.frames.now room _ c.in_err-count.ensures.takes)

pub returns-in_err-read_on-clause-hears : goal.returns-in_err-read_on-clause-hears
returns-in_err-read_on-clause-hears g c =
    let P = g.P.Plant in
    let into = c.take_waiting.new.into in
    let room : length into ≡ 65536 = c.take_waiting.ensures.room ∙ ap length c.as_mut_slice.ensures.value ∙ c.in-Ok.ensures in
    let taken : Taken = c.in_ok-count.field-0 in
    let p = err_from_is_err_and c.from_residual-in_err-read_on.result c.from_residual-in_err-read_on.ensures.1 in
    rw (p.1, p.2, c.in_err-read_on.ensures.err)
    (hears_unread P.tells c.args.end into (P.view c.args.complex.now.plant) (P.view c.take_waiting.new.complex.plant) c.args.reader.now c.read_on.new.reader c.read_on.new.frames room taken c.in_ok-count.ensures.few c.in_ok-count.ensures.takes)

-- bytes that were lent whole
whole_back : (lent items : List ℕ) (n : ℕ) → length lent ≡ length items → n ≡ length items → take n (lent ++ drop (length lent) items) ≡ lent
whole_back lent items n same many =
    let none : drop (length lent) items ≡ [] = drop_of_length-le items (omega (arith, same)) in
    ap (λ (rest : List ℕ). take n (lent ++ rest)) none
    ∙ ap (take n) (append-nil lent)
    ∙ take_all n lent (omega (arith, same, many))

pub returns-clause-hears : goal.returns-clause-hears
returns-clause-hears g c =
    let P = g.P.Plant in
    let into = c.take_waiting.new.into in
    let room : length into ≡ 65536 = c.take_waiting.ensures.room ∙ ap length c.as_mut_slice.ensures.value ∙ c.in-Ok.ensures in
    let taken : Taken = c.in_ok-count.field-0 in
    let items = c.in-Ok.bytes.items in
    let many : c.in-Ok.bytes.len ≡ length items = omega (arith, c.in-Ok.bytes.ok.0) in
    let back : c.deref.result.now ≡ into = c.deref.ensures.value ∙ whole_back into items c.in-Ok.bytes.len (c.take_waiting.ensures.room ∙ ap length c.as_mut_slice.ensures.value) many in
    hears_all P.tells c.args.end into (P.view c.args.complex.now.plant) (P.view c.take_waiting.new.complex.plant) c.args.reader.now c.read_on.new.reader c.read_on.new.frames room taken c.in_ok-count.ensures.few c.in_ok-count.ensures.takes
    (rw back at c.in_ok-read_on.ensures.reads) c.in_ok-read_on.ensures.each
