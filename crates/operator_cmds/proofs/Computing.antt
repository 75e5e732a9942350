-- Which command a text is, computed, and its spelling.
use Rattle.std.proofs.Common.{◌≡◌, ◌∙◌, sym, ap, subst, ℕ, zero, suc, ◌<◌, Bool, true, false, if◌then◌else◌, List, [], ◌∷◌, length, get_or, Option, Some, None, option_map, is_none, refl, arith}
use Rattle.mas_types.specs.declared.commands.Command.{Command}
use Rattle.operator_cmds.specs.declared.forms.Form.{Form}
use Rattle.operator_cmds.specs.declared.forms.Form.TheVariants as form
use Rattle.operator_cmds.specs.declared.forms.TheConstants.{FORMS}
use Rattle.operator_cmds.specs.Forms.{form_text}
use Rattle.operator_cmds.specs.Walks.{stop}
use Rattle.operator_cmds.specs.Spellings.{IsSpelling}
use Rattle.operator_cmds.specs.Typed.{form_in, command_at, command_in}
use Rattle.operator_cmds.proofs.AllForms.{LeaveBy, number_of_form, form_at, form_below, spelled, one_command, follows_none}

-- the text leaves each of the first forms
abbrev pub Leaves : List Form → ℕ → List ℕ → Type 0
Leaves forms i text = (k : ℕ) → k < i → is_none (stop (form_text (get_or forms k form.Hold)) text) ≡ false

leaves_one : (o : Option ℕ) (n : ℕ) → o ≡ Some n → is_none o ≡ false
leaves_one None n e = absurd (cc)
leaves_one (Some m) n e = refl

pub leaves_from : (forms : List Form) (i : ℕ) (text : List ℕ) (longest : ℕ) → LeaveBy forms i text longest → Leaves forms i text
leaves_from forms i text longest all k below =
    let here = all.each k below in
    leaves_one (stop (form_text (get_or forms k form.Hold)) text) here.0 here.1

-- the first form that the text follows
pub form_in-at : (forms : List Form) (i : ℕ) (text : List ℕ) → i < length forms → Leaves forms i text → stop (form_text (get_or forms i form.Hold)) text ≡ None → form_in forms text ≡ Some (get_or forms i form.Hold)
form_in-at [] i text inside leaves follows = absurd (omega arith)
form_in-at (f ∷ forms) zero text inside leaves follows = rw follows refl
form_in-at (f ∷ forms) (suc i) text inside leaves follows =
    let first : is_none (stop (form_text f) text) ≡ false = leaves 0 (omega arith) in
    rw first (form_in-at forms i text (omega arith) (λ k below. leaves (suc k) (omega arith)) follows)

-- no form that the text follows
pub form_in-none : (forms : List Form) (text : List ℕ) → Leaves forms (length forms) text → form_in forms text ≡ None
form_in-none [] text leaves = refl
form_in-none (f ∷ forms) text leaves =
    let first : is_none (stop (form_text f) text) ≡ false = leaves 0 (omega arith) in
    rw first (form_in-none forms text (λ k below. leaves (suc k) (omega arith)))

none_of : (o : Option ℕ) → is_none o ≡ true → o ≡ None
none_of None e = refl
none_of (Some n) e = absurd (cc)

-- a form that is found is one that the text follows
first_found : (v : Bool) (g f : Form) (rest : Option Form) (text : List ℕ) → is_none (stop (form_text g) text) ≡ v → (rest ≡ Some f → stop (form_text f) text ≡ None) → (if v then Some g else rest) ≡ Some f → stop (form_text f) text ≡ None
first_found true g f rest text is more e =
    let same : g ≡ f = cc in
    ap (λ (h : Form). stop (form_text h) text) (sym same) ∙ none_of (stop (form_text g) text) is
first_found false g f rest text is more e = more e

found_follows : (forms : List Form) (text : List ℕ) (f : Form) → form_in forms text ≡ Some f → stop (form_text f) text ≡ None
found_follows [] text f e = absurd (cc)
found_follows (g ∷ forms) text f e = first_found (is_none (stop (form_text g) text)) g f (form_in forms text) text refl (found_follows forms text f) e

-- where none is found, the text leaves each
first_leaves : (v : Bool) (g : Form) (forms : List Form) (rest : Option Form) (text : List ℕ) → is_none (stop (form_text g) text) ≡ v → (rest ≡ None → Leaves forms (length forms) text) → (if v then Some g else rest) ≡ None → Leaves (g ∷ forms) (length (g ∷ forms)) text
first_leaves true g forms rest text is more e k below = absurd (cc)
first_leaves false g forms rest text is more e zero below = is
first_leaves false g forms rest text is more e (suc k) below = more e k (omega arith)

none_leaves : (forms : List Form) (text : List ℕ) → form_in forms text ≡ None → Leaves forms (length forms) text
none_leaves [] text e = λ k below. absurd (omega arith)
none_leaves (g ∷ forms) text e = first_leaves (is_none (stop (form_text g) text)) g forms (form_in forms text) text refl (none_leaves forms text) e

some_of : (o : Option ℕ) → is_none o ≡ false → (n : ℕ) × (o ≡ Some n)
some_of None e = absurd (cc)
some_of (Some n) e = (n, refl)

-- COMMANDS

pub command_in-at : (i : ℕ) (text : List ℕ) → i < 18 → Leaves FORMS i text → stop (form_text (get_or FORMS i form.Hold)) text ≡ None → command_in text ≡ Some (command_at text (get_or FORMS i form.Hold))
unfolding command_in
command_in-at i text inside leaves follows = ap (option_map (command_at text)) (form_in-at FORMS i text inside leaves follows)

pub command_in-none : (text : List ℕ) → Leaves FORMS 18 text → command_in text ≡ None
unfolding command_in
command_in-none text leaves = ap (option_map (command_at text)) (form_in-none FORMS text leaves)

-- what is computed is spelled so
pub computed_spelled : (text : List ℕ) (typed : Command) → command_in text ≡ Some typed → IsSpelling typed text
unfolding command_in
computed_spelled text typed e = by_form (form_in FORMS text) refl e
  where
    by_form : (o : Option Form) → form_in FORMS text ≡ o → option_map (command_at text) o ≡ Some typed → IsSpelling typed text
    by_form None is e = absurd (cc)
    by_form (Some f) is e =
        let same : command_at text f ≡ typed = cc in
        subst (λ (c : Command). IsSpelling c text) same (spelled f text (found_follows FORMS text f is))

-- what is spelled so is computed
pub spelled_computed : (text : List ℕ) (typed : Command) → IsSpelling typed text → command_in text ≡ Some typed
unfolding command_in
spelled_computed text typed s = by_form (form_in FORMS text) refl
  where
    by_form : (o : Option Form) → form_in FORMS text ≡ o → option_map (command_at text) o ≡ Some typed
    by_form None is =
        let here = none_leaves FORMS text is (number_of_form s.kind) (form_below s.kind) in
        let leaves : is_none (stop (form_text s.kind) text) ≡ false = ap (λ (g : Form). is_none (stop (form_text g) text)) (sym (form_at s.kind)) ∙ here in
        let at = some_of (stop (form_text s.kind) text) leaves in
        absurd (follows_none text typed s.kind at.0 s refl at.1)
    by_form (Some f) is = ap (λ (c : Command). Some c) (one_command text (command_at text f) typed (spelled f text (found_follows FORMS text f is)) s)
