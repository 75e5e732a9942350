use Rattle.std.proofs.Common.{◌≡◌, ◌∙◌, ◌++◌, ◌^◌, ◌<◌, ℕ, List, refl, subst, arith}
use Rattle.mas_types.specs.Closings.{closing_line}
use Rattle.run_turns.specs.Admissions.{no_member}
use Rattle.spool_plant.specs.declared.plant.Act.TheVariants.{Done, Failed}
use Rattle.spool_plant.specs.declared.plant.Part.TheVariants.{Console}
use Rattle.spool_plant.specs.Acts.{Says}
use Rattle.mas_complex.specs.Journals.{in_flight}
use Rattle.mas_complex.specs.Meaning.{Closes}
use Rattle.mas_complex.specs.Parts.{parts_of}
use Rattle.member_node.proofs.SpareLemmas.{spares_done, spares_failed}
use Rattle.member_lines.proofs.Closing.{says_done, says_failed}
use Rattle.member_lines.proofs.Earlier.{its_member, never_earlier, step_kept}
use Rattle.race_ends.proofs.BeforeLemmas.{refuses_done, refuses_failed, refuses_none}
use Rattle.race_ends.proofs.PrepareLemmas.{kept_before}
use Rattle.race_ends.proofs.before.refuse_line.Goals as goal

pub say-requires-clause-told : goal.say-requires-clause-told
say-requires-clause-told g c told m s closes =
    let x = c.args.complex.now in
    let line : List ℕ = closing_line c.args.by c.args.step no_member in
    let few = c.requires.few in
    let small : c.args.step < 2 ^ 64 = omega (arith, few) in
    let same : c.as_slice.result.now ≡ line = c.as_slice.ensures ∙ c.in-Ok.ensures in
    let its : Closes line m s = subst (λ (l : List ℕ). Closes l m s) same closes in
    step_kept c.args.by m s c.args.step (its_member c.args.by c.args.step no_member m s its)
    (λ less. never_earlier c.args.by c.args.step no_member small m s less its)
    (x.journal.batches ++ in_flight x.current) (g.P.Plant.view x.plant).now
    (kept_before c.args.by c.args.step (g.P.Plant.view x.plant).now (x.journal.batches ++ in_flight x.current) few.0 c.requires.may.earlier)

pub returns-in_default-clause-refuses : goal.returns-in_default-clause-refuses
returns-in_default-clause-refuses g c =
    let x = c.args.complex.now in
    refuses_none g.P.Plant c.args.by c.args.step (parts_of x)

pub returns-in-Done-clause-refuses : goal.returns-in-Done-clause-refuses
returns-in-Done-clause-refuses g c =
    let x = c.args.complex.now in
    let v = g.P.Plant.view x.plant in
    let w = g.P.Plant.view c.say.new.self.plant in
    let line : List ℕ = closing_line c.args.by c.args.step no_member in
    let same : c.as_slice.result.now ≡ line = c.as_slice.ensures ∙ c.in-Ok.ensures in
    refuses_done g.P.Plant c.args.by c.args.step (parts_of x) (parts_of c.say.new.self) c.requires.none
    (says_done g.P.Plant line v w c.in-Done.ensures.acts (λ t. subst (λ (l : List ℕ). Says l v w Done) same (c.in-Done.ensures.content t)))
    (spares_done 0 Console v w c.in-Done.ensures.acts)
    (λ t. (subst (λ (l : List ℕ). Says l v w Done) same (c.in-Done.ensures.content t)).console)

pub returns-in-Failed-clause-refuses : goal.returns-in-Failed-clause-refuses
returns-in-Failed-clause-refuses g c =
    let x = c.args.complex.now in
    let v = g.P.Plant.view x.plant in
    let w = g.P.Plant.view c.say.new.self.plant in
    let line : List ℕ = closing_line c.args.by c.args.step no_member in
    let same : c.as_slice.result.now ≡ line = c.as_slice.ensures ∙ c.in-Ok.ensures in
    refuses_failed g.P.Plant c.args.by c.args.step (parts_of x) (parts_of c.say.new.self)
    (says_failed g.P.Plant line v w c.in-Failed.ensures.acts (λ t. subst (λ (l : List ℕ). Says l v w Failed) same (c.in-Failed.ensures.content t)))
    (spares_failed 0 Console v w c.in-Failed.ensures.acts) (c.in-Failed.ensures.acts.failed refl)
    (λ t. (subst (λ (l : List ℕ). Says l v w Failed) same (c.in-Failed.ensures.content t)).console)
