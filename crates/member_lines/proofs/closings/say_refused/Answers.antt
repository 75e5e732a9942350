use Rattle.std.proofs.Common.{◌≡◌, ◌∙◌, ◌++◌, ◌^◌, ◌<◌, ℕ, List, ap, refl, subst, sym, arith}
use Rattle.mas_types.specs.Closings.{closing_line}
use Rattle.lock_cycle.specs.Books.{Book, IsMember, after_stop}
use Rattle.spool_plant.specs.declared.plant.Act.TheVariants.{Done, Failed, Halted}
use Rattle.spool_plant.specs.declared.plant.Part.TheVariants.{Console}
use Rattle.spool_plant.specs.Acts.{Acts, Says}
use Rattle.mas_complex.specs.Journals.{in_flight}
use Rattle.mas_complex.specs.Meaning.{Closes}
use Rattle.mas_complex.specs.Parts.{parts_of}
use Rattle.member_lines.proofs.Closing.{closed_done, closed_failed, closed_halted, closed_none, sayer_seated, sayer_up}
use Rattle.member_lines.proofs.Earlier.{its_member, never_earlier, step_kept}
use Rattle.member_lines.proofs.closings.say_refused.Goals as goal

pub say-requires-clause-up : goal.say-requires-clause-up
say-requires-clause-up g c = sayer_up c.args.complex.now.book c.args.of.sayer c.args.of.by c.requires.says

pub say-requires-clause-told : goal.say-requires-clause-told
say-requires-clause-told g c told m s closes =
    let x = c.args.complex.now in
    let line : List ℕ = closing_line c.args.of.by c.args.of.step c.args.end.now in
    let small : c.args.of.step < 2 ^ 64 = omega arith in
    let same : c.as_slice.result.now ≡ line = c.as_slice.ensures ∙ c.in-Ok.ensures in
    let its : Closes line m s = subst (λ (l : List ℕ). Closes l m s) same closes in
    step_kept c.args.of.by m s c.args.of.step (its_member c.args.of.by c.args.of.step c.args.end.now m s its)
    (λ less. never_earlier c.args.of.by c.args.of.step c.args.end.now small m s less its)
    (x.journal.batches ++ in_flight x.current) (g.P.Plant.view x.plant).now (c.requires.kept told)

pub returns-in_default-clause-closed : goal.returns-in_default-clause-closed
returns-in_default-clause-closed g c S tested =
    let x = c.args.complex.now in
    closed_none g.P.Plant S c.args.of.by c.args.of.step c.args.of.sayer c.args.end.now (parts_of x) (parts_of x) tested.book refl

pub returns-in-Done-clause-closed : goal.returns-in-Done-clause-closed
returns-in-Done-clause-closed g c S tested =
    let x = c.args.complex.now in
    let y = c.say.new.self in
    let V = g.P.Plant.view x.plant in
    let W = g.P.Plant.view y.plant in
    let same : c.as_slice.result.now ≡ closing_line c.args.of.by c.args.of.step c.args.end.now = c.as_slice.ensures ∙ c.in-Ok.ensures in
    closed_done g.P.Plant S c.args.of.by c.args.of.step c.args.of.sayer c.args.end.now (parts_of x) (parts_of y) tested.book c.in-Done.ensures.acts
    (λ t. subst (λ (l : List ℕ). Says l V W Done) same (c.in-Done.ensures.content t)) c.say.ensures.book

pub returns-in-Failed-clause-closed : goal.returns-in-Failed-clause-closed
returns-in-Failed-clause-closed g c S tested =
    let x = c.args.complex.now in
    let y = c.say.new.self in
    let V = g.P.Plant.view x.plant in
    let W = g.P.Plant.view y.plant in
    let same : c.as_slice.result.now ≡ closing_line c.args.of.by c.args.of.step c.args.end.now = c.as_slice.ensures ∙ c.in-Ok.ensures in
    closed_failed g.P.Plant S c.args.of.by c.args.of.step c.args.of.sayer c.args.end.now (parts_of x) (parts_of y) tested.book c.in-Failed.ensures.acts
    (λ t. subst (λ (l : List ℕ). Says l V W Failed) same (c.in-Failed.ensures.content t)) c.say.ensures.book

pub stop-requires : goal.stop-requires
stop-requires g c =
    subst (λ (b : Book). IsMember b c.args.of.by) (sym c.say.ensures.book)
    (sayer_seated c.args.complex.now.book c.args.of.sayer c.args.of.by c.requires.says (c.in-Halted.ensures.acts.not_operator refl))

pub returns-clause-closed : goal.returns-clause-closed
returns-clause-closed g c S tested =
    let x = c.args.complex.now in
    let y = c.say.new.self in
    let z = c.stop.new.self in
    let V = g.P.Plant.view x.plant in
    let same : c.as_slice.result.now ≡ closing_line c.args.of.by c.args.of.step c.args.end.now = c.as_slice.ensures ∙ c.in-Ok.ensures in
    let acts : Acts c.args.of.sayer.0 Console V (g.P.Plant.view z.plant) Halted = subst (λ p. Acts c.args.of.sayer.0 Console V (g.P.Plant.view p) Halted) (sym c.stop.ensures.plant) c.in-Halted.ensures.acts in
    closed_halted g.P.Plant S c.args.of.by c.args.of.step c.args.of.sayer c.args.end.now (parts_of x) (parts_of z) tested.book acts
    (λ t. subst (λ p. Says (closing_line c.args.of.by c.args.of.step c.args.end.now) V (g.P.Plant.view p) Halted) (sym c.stop.ensures.plant)
    (subst (λ (l : List ℕ). Says l V (g.P.Plant.view y.plant) Halted) same (c.in-Halted.ensures.content t)))
    (c.stop.ensures.book ∙ ap (λ (b : Book). after_stop b c.args.of.by) c.say.ensures.book)
