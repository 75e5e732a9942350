use Rattle.std.proofs.Common.{◌≡◌, ◌+◌, ◌∙◌, ◌++◌, ◌^◌, ◌<◌, ℕ, List, append-nil, refl, subst, sym, arith}
use Rattle.mas_types.specs.declared.answers.Closing.TheVariants as closing
use Rattle.mas_types.specs.Closings.{closing_line}
use Rattle.spool_plant.specs.declared.plant.Act.TheVariants.{Done, Failed}
use Rattle.spool_plant.specs.declared.plant.Part.TheVariants.{Console}
use Rattle.spool_plant.specs.Acts.{Says}
use Rattle.mas_complex.specs.Journals.{in_flight}
use Rattle.mas_complex.specs.Meaning.{Closes}
use Rattle.member_node.specs.Calls.{console_now}
use Rattle.member_node.proofs.SpareLemmas.{spares_done, spares_failed, spares_none}
use Rattle.member_steps.proofs.SayLemmas.{console_none}
use Rattle.member_lines.proofs.Closing.{says_done, says_failed}
use Rattle.member_lines.proofs.Earlier.{its_member, never_stopped, step_kept}
use Rattle.member_lines.proofs.closings.say_stopped.Goals as goal

pub say-requires-clause-told : goal.say-requires-clause-told
say-requires-clause-told g c told m s closes =
    let x = c.args.complex.now in
    let line : List ℕ = closing_line c.args.by c.args.step closing.Stopped in
    let small : c.args.step < 2 ^ 64 = omega arith in
    let same : c.as_slice.result.now ≡ line = c.as_slice.ensures ∙ c.in-Ok.ensures in
    let its : Closes line m s = subst (λ (l : List ℕ). Closes l m s) same closes in
    step_kept c.args.by m s (c.args.step + 1) (its_member c.args.by c.args.step closing.Stopped m s its)
    (λ less. never_stopped c.args.by c.args.step small m s less its)
    (x.journal.batches ++ in_flight x.current) (g.P.Plant.view x.plant).now (c.requires.kept told)

pub returns-in_default-clause-says : goal.returns-in_default-clause-says
returns-in_default-clause-says g c =
    let v = g.P.Plant.view c.args.complex.now.plant in
    record {
      acts = console_none g.P.Plant.tells v;
      spares = spares_none 0 v;
      acted = refl;
      cause = refl;
      unhalted = refl;
      console = λ t. sym (append-nil (console_now v));
    }

pub returns-in-Done-clause-says : goal.returns-in-Done-clause-says
returns-in-Done-clause-says g c =
    let v = g.P.Plant.view c.args.complex.now.plant in
    let w = g.P.Plant.view c.say.new.self.plant in
    let line : List ℕ = closing_line c.args.by c.args.step closing.Stopped in
    let same : c.as_slice.result.now ≡ line = c.as_slice.ensures ∙ c.in-Ok.ensures in
    record {
      acts = says_done g.P.Plant line v w c.in-Done.ensures.acts (λ t. subst (λ (l : List ℕ). Says l v w Done) same (c.in-Done.ensures.content t));
      spares = spares_done 0 Console v w c.in-Done.ensures.acts;
      acted = record { time = c.in-Done.ensures.acts.time; halt = c.in-Done.ensures.acts.else_halt (λ e. absurd (cc)) };
      cause = tt;
      unhalted = refl;
      console = λ t. (subst (λ (l : List ℕ). Says l v w Done) same (c.in-Done.ensures.content t)).console;
    }

pub returns-in-Failed-clause-says : goal.returns-in-Failed-clause-says
returns-in-Failed-clause-says g c =
    let v = g.P.Plant.view c.args.complex.now.plant in
    let w = g.P.Plant.view c.say.new.self.plant in
    let line : List ℕ = closing_line c.args.by c.args.step closing.Stopped in
    let same : c.as_slice.result.now ≡ line = c.as_slice.ensures ∙ c.in-Ok.ensures in
    record {
      acts = says_failed g.P.Plant line v w c.in-Failed.ensures.acts (λ t. subst (λ (l : List ℕ). Says l v w Failed) same (c.in-Failed.ensures.content t));
      spares = spares_failed 0 Console v w c.in-Failed.ensures.acts;
      acted = record { time = c.in-Failed.ensures.acts.time; halt = c.in-Failed.ensures.acts.else_halt (λ e. absurd (cc)) };
      cause = c.in-Failed.ensures.acts.failed refl;
      unhalted = refl;
      console = λ t. (subst (λ (l : List ℕ). Says l v w Failed) same (c.in-Failed.ensures.content t)).console ∙ sym (append-nil (console_now v));
    }
