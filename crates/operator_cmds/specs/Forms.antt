-- The forms in which commands are typed. A small letter stands for a text, any other byte for itself.
use Rattle.std.specs.Prelude.{ℕ, List, codes}
use Rattle.operator_cmds.specs.declared.forms.Form.{Form}
use Rattle.operator_cmds.specs.declared.forms.Form.TheVariants as form

-- n is a job's number, k the index of an output, p a priority, c a class, s classes, f forms, l lines of a printer,
-- b lines of a mark, m the last letter of a member's name
abbrev pub form_text : Form → List ℕ
form_text form.Hold = codes "$HJn"
form_text form.Release = codes "$AJn"
form_text form.Cancel = codes "$CJn"
form_text form.SetPrio = codes "$TJn,P=p"
form_text form.SetClass = codes "$TJn,C=c"
form_text form.Out = codes "$OJn"
form_text form.CancelOut = codes "$COJn.k"
form_text form.SetOut = codes "$TOJn.k,Q=c"
form_text form.ShowJob = codes "$DJn"
form_text form.ShowQueue = codes "$DQ"
form_text form.ShowOutputs = codes "$DO"
form_text form.ShowSpool = codes "$DSPL"
form_text form.ShowMembers = codes "$DMEMBER"
form_text form.SetInit = codes "$TINIT,C=s"
form_text form.SetPrt = codes "$TPRT,Q=s,F=f,L=l"
form_text form.Back = codes "$BPRT,b"
form_text form.Forward = codes "$FPRT,b"
form_text form.Reset = codes "$EMEMBER(SYSm)"
