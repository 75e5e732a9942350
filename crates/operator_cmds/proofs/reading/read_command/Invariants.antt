use Rattle.operator_cmds.specs.declared.forms.TheConstants.{FORMS}
use Rattle.operator_cmds.proofs.AllForms.{LeaveBy}
use Rattle.operator_cmds.proofs.reading.read_command.Given as goal

-- the text leaves each form so far
abbrev pub invariant-loop-form : goal.invariant-loop-form
invariant-loop-form l = LeaveBy FORMS l.form-index l.text l.longest
