-- All forms: a text follows at most one of them.
use Rattle.std.proofs.Common.{◌≡◌, ◌∙◌, sym, ap, subst, inl, inr, ℕ, zero, suc, ◌+◌, ◌≤◌, ◌<◌, ◌⊎◌, Bool, true, ◌||◌, ◌==◌, List, [], ◌∷◌, ◌++◌, length, take, drop, get_or, Some, None, max, lit<, lit≤, refl, arith}
use Rattle.std.specs.List.{concat, list_all}
use Rattle.std.proofs.lemmas.Bool.{eqb-true, and_parts, or_cases, cases_lt}
use Rattle.std.proofs.lemmas.List.{take-append-drop, length-take-le}
use Rattle.mas_types.specs.declared.commands.Command.{Command}
use Rattle.operator_cmds.specs.declared.forms.Form.{Form}
use Rattle.operator_cmds.specs.declared.forms.Form.TheVariants as form
use Rattle.operator_cmds.specs.declared.forms.TheConstants.{FORMS}
use Rattle.operator_cmds.specs.Forms.{form_text}
use Rattle.operator_cmds.specs.Walks.{stop, text_in}
use Rattle.operator_cmds.specs.Spellings.{AreParts, in_place, command_of, IsSpelling, BeginsCommand, IsLongestBeginning}
use Rattle.operator_cmds.proofs.Following.{Begins, is_clear, do_differ, differ, same_parts, follows, stop-concat, text_in-concat, stop_begins, stop_within, stop_short, stop_longest, begins_none}

-- the place of a form among all
abbrev pub number_of_form : Form → ℕ
number_of_form form.Hold = 0
number_of_form form.Release = 1
number_of_form form.Cancel = 2
number_of_form form.SetPrio = 3
number_of_form form.SetClass = 4
number_of_form form.Out = 5
number_of_form form.CancelOut = 6
number_of_form form.SetOut = 7
number_of_form form.ShowJob = 8
number_of_form form.ShowQueue = 9
number_of_form form.ShowOutputs = 10
number_of_form form.ShowSpool = 11
number_of_form form.ShowMembers = 12
number_of_form form.SetInit = 13
number_of_form form.SetPrt = 14
number_of_form form.Back = 15
number_of_form form.Forward = 16
number_of_form form.Reset = 17

-- each form is among all
pub form_at : (f : Form) → get_or FORMS (number_of_form f) form.Hold ≡ f
form_at form.Hold = refl
form_at form.Release = refl
form_at form.Cancel = refl
form_at form.SetPrio = refl
form_at form.SetClass = refl
form_at form.Out = refl
form_at form.CancelOut = refl
form_at form.SetOut = refl
form_at form.ShowJob = refl
form_at form.ShowQueue = refl
form_at form.ShowOutputs = refl
form_at form.ShowSpool = refl
form_at form.ShowMembers = refl
form_at form.SetInit = refl
form_at form.SetPrt = refl
form_at form.Back = refl
form_at form.Forward = refl
form_at form.Reset = refl

all_at : (p : Form → Bool) (fs : List Form) (i : ℕ) (d : Form) → i < length fs → list_all p fs ≡ true → p (get_or fs i d) ≡ true
all_at p [] i d less h = absurd (omega arith)
all_at p (f ∷ fs) zero d less h = (and_parts (p f) (list_all p fs) h).0
all_at p (f ∷ fs) (suc i) d less h = all_at p fs i d (omega arith) (and_parts (p f) (list_all p fs) h).1

pub form_below : (f : Form) → number_of_form f < 18
form_below form.Hold = lit< tt
form_below form.Release = lit< tt
form_below form.Cancel = lit< tt
form_below form.SetPrio = lit< tt
form_below form.SetClass = lit< tt
form_below form.Out = lit< tt
form_below form.CancelOut = lit< tt
form_below form.SetOut = lit< tt
form_below form.ShowJob = lit< tt
form_below form.ShowQueue = lit< tt
form_below form.ShowOutputs = lit< tt
form_below form.ShowSpool = lit< tt
form_below form.ShowMembers = lit< tt
form_below form.SetInit = lit< tt
form_below form.SetPrt = lit< tt
form_below form.Back = lit< tt
form_below form.Forward = lit< tt
form_below form.Reset = lit< tt

-- what a test finds of all forms it finds of each
pub of_each : (p : Form → Bool) → list_all p FORMS ≡ true → (f : Form) → p f ≡ true
of_each p h f = ap p (sym (form_at f)) ∙ all_at p FORMS (number_of_form f) form.Hold (form_below f) h

pub clear_of : (f : Form) → is_clear (form_text f) ≡ true
clear_of = of_each (λ f. is_clear (form_text f)) refl

pub short_of : (f : Form) → length (form_text f) ≤ 18
short_of form.Hold = lit≤ tt
short_of form.Release = lit≤ tt
short_of form.Cancel = lit≤ tt
short_of form.SetPrio = lit≤ tt
short_of form.SetClass = lit≤ tt
short_of form.Out = lit≤ tt
short_of form.CancelOut = lit≤ tt
short_of form.SetOut = lit≤ tt
short_of form.ShowJob = lit≤ tt
short_of form.ShowQueue = lit≤ tt
short_of form.ShowOutputs = lit≤ tt
short_of form.ShowSpool = lit≤ tt
short_of form.ShowMembers = lit≤ tt
short_of form.SetInit = lit≤ tt
short_of form.SetPrt = lit≤ tt
short_of form.Back = lit≤ tt
short_of form.Forward = lit≤ tt
short_of form.Reset = lit≤ tt

are_apart : (f g : Form) → ((number_of_form f == number_of_form g) || do_differ (form_text f) (form_text g)) ≡ true
are_apart f = of_each (λ g. (number_of_form f == number_of_form g) || do_differ (form_text f) (form_text g))
    (of_each (λ f. list_all (λ g. (number_of_form f == number_of_form g) || do_differ (form_text f) (form_text g)) FORMS) refl f)

-- a text follows one form at most
pub same_form : (f g : Form) (ps rs : List (List ℕ)) → AreParts (form_text f) ps → AreParts (form_text g) rs → concat ps ≡ concat rs → f ≡ g
same_form f g ps rs are be e = by_cases (or_cases (number_of_form f == number_of_form g) (do_differ (form_text f) (form_text g)) (are_apart f g))
  where
    by_cases : ((number_of_form f == number_of_form g) ≡ true) ⊎ (do_differ (form_text f) (form_text g) ≡ true) → f ≡ g
    by_cases (inl h) = sym (form_at f) ∙ ap (λ i. get_or FORMS i form.Hold) (eqb-true _ _ h) ∙ form_at g
    by_cases (inr h) = absurd (differ (form_text f) (form_text g) ps rs (clear_of f) (clear_of g) h are be e)

-- READING

same_texts : (f : Form) (s t : ℕ → List ℕ) → ((l : ℕ) → s l ≡ t l) → command_of f s ≡ command_of f t
same_texts f s t h = let same : s ≡ t = λ i l. h l i in ap (command_of f) same

texts_of : (f : Form) (parts : List (List ℕ)) → AreParts (form_text f) parts → command_of f (text_in (form_text f) (concat parts)) ≡ command_of f (in_place (form_text f) parts)
texts_of f parts are = same_texts f (text_in (form_text f) (concat parts)) (in_place (form_text f) parts) (λ l. text_in-concat (form_text f) parts l (clear_of f) are)

-- the command of a form that all of the text follows
pub spelled : (f : Form) (text : List ℕ) → stop (form_text f) text ≡ None → IsSpelling (command_of f (text_in (form_text f) text)) text
spelled f text h =
    let is = follows (form_text f) text h in
    record {
      kind = f;
      parts = is.parts;
      each = is.each;
      whole = is.whole;
      says = subst (λ (t : List ℕ). command_of f (text_in (form_text f) t) ≡ command_of f (in_place (form_text f) is.parts)) (sym is.whole) (texts_of f is.parts is.each);
    }

-- a text has one command
pub one_command : (text : List ℕ) (c e : Command) → IsSpelling c text → IsSpelling e text → c ≡ e
one_command text c e first second = by_form first.kind second.kind first.parts second.parts first.each second.each (sym first.whole ∙ second.whole) first.says second.says
  where
    by_form : (f g : Form) (ps rs : List (List ℕ)) → AreParts (form_text f) ps → AreParts (form_text g) rs → concat ps ≡ concat rs → c ≡ command_of f (in_place (form_text f) ps) → e ≡ command_of g (in_place (form_text g) rs) → c ≡ e
    by_form f g ps rs are be h says also =
        let same : f ≡ g = same_form f g ps rs are be h in
        let there : AreParts (form_text g) ps = subst (λ (k : Form). AreParts (form_text k) ps) same are in
        let parts : ps ≡ rs = same_parts (form_text g) ps rs (clear_of g) there be h in
        says ∙ ap (λ (k : Form). command_of k (in_place (form_text k) ps)) same ∙ ap (λ (qs : List (List ℕ)). command_of g (in_place (form_text g) qs)) parts ∙ sym also

-- a text that leaves every form is no command
pub follows_none : (text : List ℕ) (c : Command) (f : Form) (n : ℕ) (s : IsSpelling c text) → s.kind ≡ f → stop (form_text f) text ≡ Some n → ⊥
follows_none text c f n s e h =
    let follow : stop (form_text s.kind) (concat s.parts) ≡ None = stop-concat (form_text s.kind) s.parts (clear_of s.kind) s.each in
    let at : stop (form_text f) text ≡ None = ap (λ (k : Form). stop (form_text k) text) (sym e) ∙ ap (stop (form_text s.kind)) s.whole ∙ follow in
    cc

-- a front that begins a form begins a command
pub command_begins : (f : Form) (front : List ℕ) → Begins (form_text f) front → BeginsCommand front
command_begins f front b = record {
  more = b.more;
  typed = command_of f (in_place (form_text f) b.parts);
  spelled = record { kind = f; parts = b.parts; each = b.each; whole = sym b.whole; says = refl };
}

-- each of the forms so far leaves the text at most so far on
pub record LeaveBy (forms : List Form) (i : ℕ) (text : List ℕ) (longest : ℕ) : Type 0 where
  pub within : longest ≤ length text
  pub small : longest ≤ 648
  pub begins : BeginsCommand (take longest text)
  pub each : (k : ℕ) → k < i → (n : ℕ) × (stop (form_text (get_or forms k form.Hold)) text ≡ Some n) × (n ≤ longest)

pub leave_none : (forms : List Form) (text : List ℕ) → LeaveBy forms 0 text 0
leave_none forms text = record {
  within = omega arith;
  small = omega arith;
  begins = command_begins form.Hold [] (begins_none (form_text form.Hold));
  each = λ k h. absurd (omega arith);
}

leave_at : (forms : List Form) (text : List ℕ) (i longest n : ℕ) → LeaveBy forms i text longest → stop (form_text (get_or forms i form.Hold)) text ≡ Some n → (new : ℕ) → longest ≤ new → n ≤ new → (k : ℕ) → k < i + 1 → (m : ℕ) × (stop (form_text (get_or forms k form.Hold)) text ≡ Some m) × (m ≤ new)
leave_at forms text i longest n so_far h new more enough k below = by_place (cases_lt k i)
  where
    by_place : (k < i) ⊎ (i ≤ k) → (m : ℕ) × (stop (form_text (get_or forms k form.Hold)) text ≡ Some m) × (m ≤ new)
    by_place (inl before) = let was = so_far.each k before in (was.0, was.1, omega (arith, was.2))
    by_place (inr here) =
        let same : i ≡ k = omega arith in
        (n, subst (λ (j : ℕ). stop (form_text (get_or forms j form.Hold)) text ≡ Some n) same h, enough)

-- one form more
pub leave_more : (forms : List Form) (text : List ℕ) (i longest n : ℕ) → LeaveBy forms i text longest → stop (form_text (get_or forms i form.Hold)) text ≡ Some n → LeaveBy forms (i + 1) text (max longest n)
leave_more forms text i longest n so_far h = by_order (cases_lt longest n)
  where
    by_order : (longest < n) ⊎ (n ≤ longest) → LeaveBy forms (i + 1) text (max longest n)
    by_order (inl less) =
        let new : max longest n ≡ n = omega arith in
        let few = stop_short (form_text (get_or forms i form.Hold)) text n h in
        rw new (record {
          within = stop_within (form_text (get_or forms i form.Hold)) text n h;
          small = omega (arith, few, short_of (get_or forms i form.Hold));
          begins = command_begins (get_or forms i form.Hold) (take n text) (stop_begins (form_text (get_or forms i form.Hold)) text n h);
          each = leave_at forms text i longest n so_far h n (omega arith) (omega arith);
        })
    by_order (inr more) =
        let new : max longest n ≡ longest = omega arith in
        rw new (record {
          within = so_far.within;
          small = so_far.small;
          begins = so_far.begins;
          each = leave_at forms text i longest n so_far h longest (omega arith) more;
        })

stop_of : (f : Form) (text : List ℕ) (longest : ℕ) → LeaveBy FORMS 18 text longest → (n : ℕ) × (stop (form_text f) text ≡ Some n) × (n ≤ longest)
stop_of f text longest all =
    let here = all.each (number_of_form f) (form_below f) in
    (here.0, ap (λ (g : Form). stop (form_text g) text) (sym (form_at f)) ∙ here.1, here.2)

-- a text that leaves every form is no command
pub no_command : (text : List ℕ) (longest : ℕ) (c : Command) → LeaveBy FORMS 18 text longest → IsSpelling c text → ⊥
no_command text longest c all s = let there = stop_of s.kind text longest all in follows_none text c s.kind there.0 s refl there.1

-- where a text leaves the last of the forms, its longest front that begins a command ends
pub longest_of : (text : List ℕ) (longest : ℕ) → LeaveBy FORMS 18 text longest → IsLongestBeginning text longest
longest_of text longest all = record {
  within = all.within;
  begins = all.begins;
  longest = λ m within b.
      let there = stop_of b.spelled.kind text longest all in
      let whole : stop (form_text b.spelled.kind) (take m text ++ drop m text) ≡ Some there.0 = ap (stop (form_text b.spelled.kind)) (take-append-drop m text) ∙ there.1 in
      let long = stop_longest (form_text b.spelled.kind) b.spelled.parts (take m text) b.more (drop m text) there.0 (clear_of b.spelled.kind) b.spelled.each (sym b.spelled.whole) whole in
      omega (arith, long, length-take-le m text within, there.2);
}
