use Rattle.std.proofs.Common.{◌≡◌, ◌∙◌, sym, ap, subst, ℕ, ◌+◌, List, get_or, Some, None, arith}
use Rattle.mas_types.specs.declared.commands.Command.{Command}
use Rattle.operator_cmds.specs.declared.forms.TheConstants.{FORMS}
use Rattle.operator_cmds.specs.declared.forms.Form.TheVariants as form
use Rattle.operator_cmds.specs.Forms.{form_text}
use Rattle.operator_cmds.specs.Walks.{stop}
use Rattle.operator_cmds.specs.Spellings.{IsSpelling, IsLongestBeginning}
use Rattle.operator_cmds.proofs.AllForms.{LeaveBy, leave_none, leave_more, spelled, one_command, no_command, longest_of}
use Rattle.operator_cmds.proofs.Computing.{leaves_from, command_in-at, command_in-none}
use Rattle.operator_cmds.proofs.reading.read_command.Goals as goal

pub loop-form-init : goal.loop-form-init
loop-form-init c = leave_none FORMS c.args.text.now

pub returns-in-None-clause-found : goal.returns-in-None-clause-found
returns-in-None-clause-found c =
    let f = get_or FORMS c.loop-form.form-index form.Hold in
    let follows : stop (form_text f) c.args.text.now ≡ None = ap (λ (x : List ℕ). stop x c.args.text.now) (sym c.form_text.ensures) ∙ sym c.in-None.ensures.value in
    subst (λ (typed : Command). IsSpelling typed c.args.text.now) (sym c.in_ok-command_of-in-None.ensures) (spelled f c.args.text.now follows)

pub returns-in-None-clause-only : goal.returns-in-None-clause-only
returns-in-None-clause-only c typed is =
    one_command c.args.text.now c.in_ok-command_of-in-None.field-0 typed (returns-in-None-clause-found c) is

pub loop-form-preserved : goal.loop-form-preserved
loop-form-preserved c =
    let f = get_or FORMS c.loop-form.form-index form.Hold in
    let leaves : stop (form_text f) c.args.text.now ≡ Some c.in-Some.n = ap (λ (x : List ℕ). stop x c.args.text.now) (sym c.form_text.ensures) ∙ sym c.in-Some.ensures.value in
    subst (LeaveBy FORMS (c.loop-form.form-index + 1) c.args.text.now) (sym c.max-longest.ensures) (leave_more FORMS c.args.text.now c.loop-form.form-index c.loop-form.longest c.in-Some.n c.loop-form.invariant leaves)

pub returns-clause-only : goal.returns-clause-only
returns-clause-only c typed is =
    let all : c.loop-form.form-index ≡ 18 = omega arith in
    no_command c.args.text.now c.loop-form.longest typed (subst (λ (i : ℕ). LeaveBy FORMS i c.args.text.now c.loop-form.longest) all c.loop-form.invariant) is

pub returns-clause-bad : goal.returns-clause-bad
returns-clause-bad c n e =
    let all : c.loop-form.form-index ≡ 18 = omega arith in
    let same : c.loop-form.longest ≡ n = cc in
    subst (IsLongestBeginning c.args.text.now) same (longest_of c.args.text.now c.loop-form.longest (subst (λ (i : ℕ). LeaveBy FORMS i c.args.text.now c.loop-form.longest) all c.loop-form.invariant))

pub returns-in-None-clause-computed : goal.returns-in-None-clause-computed
returns-in-None-clause-computed c =
    let f = get_or FORMS c.loop-form.form-index form.Hold in
    let follows : stop (form_text f) c.args.text.now ≡ None = ap (λ (x : List ℕ). stop x c.args.text.now) (sym c.form_text.ensures) ∙ sym c.in-None.ensures.value in
    command_in-at c.loop-form.form-index c.args.text.now (omega arith) (leaves_from FORMS c.loop-form.form-index c.args.text.now c.loop-form.longest c.loop-form.invariant) follows ∙ ap (λ (typed : Command). Some typed) (sym c.in_ok-command_of-in-None.ensures)

pub returns-clause-computed : goal.returns-clause-computed
returns-clause-computed c =
    let all : c.loop-form.form-index ≡ 18 = omega arith in
    command_in-none c.args.text.now (leaves_from FORMS 18 c.args.text.now c.loop-form.longest (subst (λ (i : ℕ). LeaveBy FORMS i c.args.text.now c.loop-form.longest) all c.loop-form.invariant))
