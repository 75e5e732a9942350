-- A command that may be written is spelled so, and a command that is spelled may be written.
use Rattle.std.proofs.Common.{◌≡◌, ◌∙◌, sym, ap, subst, ℕ, zero, suc, ◌+◌, ◌-◌, ◌/◌, ◌%◌, ◌^◌, ◌≤◌, ◌<◌, Bool, true, false, nat_le, ◌&&◌, ◌==◌, if◌then◌else◌, lit<, lit≤, List, [], ◌∷◌, ◌++◌, length, map, take, get_or, replicate, decimal, Some, None, refl, append_assoc, arith}
use Rattle.std.specs.List.{concat, list_all, list_any, slice_index}
use Rattle.std.specs.Str.{bytes_eq}
use Rattle.std.proofs.lemmas.Bool.{leb-true, eqb-true, le-leb, ne_eqb, and_parts, and_from}
use Rattle.std.proofs.lemmas.Fmt.{decimal_by_steps, decimal_nonempty, length-decimal-le}
use Rattle.std.proofs.lemmas.List.{append-nil, map_more}
use Rattle.std.proofs.lemmas.List.Folds.{list_all-append}
use Rattle.std.proofs.lemmas.Slice.Eq.{bytes_eq-Decides}
use Rattle.mas_types.specs.declared.ids.Class.{Class}
use Rattle.mas_types.specs.declared.ids.Name8.{Name8}
use Rattle.mas_types.specs.declared.commands.Command.{Command}
use Rattle.mas_types.specs.declared.commands.Command.TheVariants as command
use Rattle.mas_types.specs.declared.commands.What.TheVariants as what
use Rattle.mas_types.specs.Fit.{is_class_byte}
use Rattle.mas_types.specs.Names.{is_blank, is_name_byte, is_name_text, name_text, padded, unpadded}
use Rattle.mas_types.specs.Numerals.{is_digit, value_of}
use Rattle.mas_types.specs.Shown.{classes_text}
use Rattle.mas_types.specs.Starts.{blank_name}
use Rattle.operator_cmds.specs.declared.forms.Form.{Form}
use Rattle.operator_cmds.specs.declared.forms.Form.TheVariants as form
use Rattle.operator_cmds.specs.declared.places.Numbers.{Numbers}
use Rattle.operator_cmds.specs.declared.places.Place.{Place}
use Rattle.operator_cmds.specs.declared.places.Place.TheVariants as place
use Rattle.operator_cmds.specs.Forms.{form_text}
use Rattle.operator_cmds.specs.Places.{is_number, is_member_letter, are_classes, job_numbers, index_numbers, prio_numbers, line_numbers, mark_numbers, place_of, stands_in}
use Rattle.operator_cmds.specs.Spellings.{AreParts, in_place, number_of, classes_in, command_of, IsSpelling}
use Rattle.operator_cmds.specs.declared.writing.WriteNo.{WriteNo}
use Rattle.operator_cmds.specs.declared.writing.WriteNo.TheVariants.{NotTyped, NoMemory}
use Rattle.operator_cmds.specs.Written.{form_of, job_in, index_in, forms_in, member_in, IsRefused, is_within, is_written_name, may_write, written, written_text}
use Rattle.operator_cmds.proofs.Reaching.{IsIn, is_in, in_is, value_after-append}

-- NUMBERS

abbrev IsWritten : ℕ → List ℕ → Type 0
IsWritten n d = (list_all is_digit d ≡ true) × (value_of d ≡ n)

last_digit : (n : ℕ) → n < 10 → is_digit (48 + n) ≡ true
last_digit n less = and_from _ _ (le-leb 48 (48 + n) (omega arith)) (le-leb (48 + n) 57 (omega arith))

digits_written : (n : ℕ) → n < 2 ^ 64 → IsWritten n (decimal n)
digits_written n small = decimal_by_steps IsWritten one more n small
  where
    one : (n : ℕ) → n < 10 → IsWritten n ((48 + n) ∷ [])
    one n less = (and_from _ _ (last_digit n less) refl, omega arith)

    more : (n : ℕ) (ds : List ℕ) → 10 ≤ n → IsWritten (n / 10) ds → IsWritten n (ds ++ ((48 + n % 10) ∷ []))
    more n ds enough h =
        let digit : is_digit (48 + n % 10) ≡ true = last_digit (n % 10) (omega arith) in
        let last : list_all is_digit ((48 + n % 10) ∷ []) ≡ true = and_from _ _ digit refl in (
          list_all-append is_digit ds ((48 + n % 10) ∷ []) ∙ and_from _ _ h.0 last,
          value_after-append 0 ds ((48 + n % 10) ∷ []) ∙ rw h.1 (omega arith),
        )

-- numbers whose digits are few enough
pub record IsShort (r : Numbers) : Type 0 where
  pub most : r.most < 10 ^ r.width
  pub some : 0 < r.width
  pub ten : r.width ≤ 10
  pub small : r.most < 2 ^ 64

pub number_written : (r : Numbers) (n : ℕ) → IsShort r → is_within r n ≡ true → IsIn r (decimal n) × (value_of (decimal n) ≡ n)
number_written r n short h =
    let both = and_parts (nat_le r.least n) (nat_le n r.most) h in
    let least : r.least ≤ n = leb-true _ _ both.0 in
    let most : n ≤ r.most = leb-true _ _ both.1 in
    let small : n < 2 ^ 64 = omega (arith, short.small) in
    let is = digits_written n small in
    let below : n < 10 ^ r.width = omega (arith, short.most) in
    let long = length-decimal-le r.width n short.some below small in
    let some = decimal_nonempty n small in (
      record { some = omega (arith, some); ten = omega (arith, long, short.ten); digits = is.0; width = long; least = rw is.1 least; most = rw is.1 most },
      is.1,
    )

pub number_stands : (r : Numbers) (n : ℕ) → IsShort r → is_within r n ≡ true → is_number r (decimal n) ≡ true
number_stands r n short h = in_is r (decimal n) (number_written r n short h).0

pub number_of-decimal : (r : Numbers) (n : ℕ) → IsShort r → is_within r n ≡ true → number_of r (decimal n) ≡ n
number_of-decimal r n short h = let stands = number_stands r n short h in rw stands (number_written r n short h).1

pub number_within : (r : Numbers) (t : List ℕ) → is_number r t ≡ true → is_within r (number_of r t) ≡ true
number_within r t h = let is = is_in r t h in rw h (and_from _ _ (le-leb _ _ is.least) (le-leb _ _ is.most))

jobs_short : IsShort job_numbers
jobs_short = record { most = lit< tt; some = lit< tt; ten = lit≤ tt; small = lit< tt }

indexes_short : IsShort index_numbers
indexes_short = record { most = lit< tt; some = lit< tt; ten = lit≤ tt; small = lit< tt }

prios_short : IsShort prio_numbers
prios_short = record { most = lit< tt; some = lit< tt; ten = lit≤ tt; small = lit< tt }

lines_short : IsShort line_numbers
lines_short = record { most = lit< tt; some = lit< tt; ten = lit≤ tt; small = lit< tt }

marks_short : IsShort mark_numbers
marks_short = record { most = lit< tt; some = lit< tt; ten = lit≤ tt; small = lit< tt }

-- NAMES

blanks_none : (k : ℕ) → unpadded (replicate k 32) ≡ []
blanks_none zero = refl
blanks_none (suc k) = let all : list_all is_blank (replicate (suc k) 32) ≡ true = blanks k in rw all refl
  where
    blanks : (k : ℕ) → list_all is_blank (replicate (suc k) 32) ≡ true
    blanks zero = refl
    blanks (suc k) = blanks k

name_not_blank : (b : ℕ) → is_name_byte b ≡ true → is_blank b ≡ false
name_not_blank b h = ne_eqb b 32 (λ e. let none : is_name_byte 32 ≡ true = ap is_name_byte (sym e) ∙ h in cc)

unpadded-padded : (t : List ℕ) (k : ℕ) → list_all is_name_byte t ≡ true → unpadded (t ++ replicate k 32) ≡ t
unpadded-padded [] k h = blanks_none k
unpadded-padded (b ∷ t) k h =
    let both = and_parts (is_name_byte b) (list_all is_name_byte t) h in
    let none : is_blank b ≡ false = name_not_blank b both.0 in
    rw none (ap (λ (x : List ℕ). b ∷ x) (unpadded-padded t k both.1))

-- the name of a text is written as the text
pub padded_written : (t : List ℕ) → is_name_text t ≡ true → is_written_name (record { 0 = padded t }) ≡ true
padded_written t h =
    let each = (and_parts (nat_le 1 (length t) && nat_le (length t) 8) (list_all is_name_byte t) h).1 in
    let same : unpadded (padded t) ≡ t = unpadded-padded t (8 - length t) each in
    rw same (and_from _ _ h ((bytes_eq-Decides (padded t) (padded t)).1 refl))

-- PLACES

choose3 : (P : Place → List ℕ → Bool → Type 0) (b : Bool) (x y : Place) (u v : List ℕ) (f g : Bool) → P x u f → P y v g → P (if b then x else y) (if b then u else v) (if b then f else g)
choose3 P true x y u v f g p q = p
choose3 P false x y u v f g p q = q

abbrev Stands : Place → List ℕ → Bool → Type 0
Stands p t may = may ≡ true → stands_in p t ≡ true

member_stands : (m : ℕ) → (nat_le 1 m && nat_le m 8) ≡ true → stands_in place.Member ((64 + m) ∷ []) ≡ true
member_stands m h =
    let both = and_parts (nat_le 1 m) (nat_le m 8) h in
    let low : 1 ≤ m = leb-true _ _ both.0 in
    let high : m ≤ 8 = leb-true _ _ both.1 in
    and_from _ _ (and_from _ _ (le-leb 65 (64 + m) (omega arith)) (le-leb (64 + m) 72 (omega arith))) refl

-- what may be written stands in its place
pub written_stands : (c : Command) (l : ℕ) → may_write c l ≡ true → stands_in (place_of l) (written c l) ≡ true
written_stands c l =
    choose3 Stands (l == 110) _ _ _ _ _ _ (number_stands job_numbers _ jobs_short)
    (choose3 Stands (l == 107) _ _ _ _ _ _ (number_stands index_numbers _ indexes_short)
    (choose3 Stands (l == 112) _ _ _ _ _ _ (number_stands prio_numbers _ prios_short)
    (choose3 Stands (l == 108) _ _ _ _ _ _ (number_stands line_numbers _ lines_short)
    (choose3 Stands (l == 98) _ _ _ _ _ _ (number_stands mark_numbers _ marks_short)
    (choose3 Stands (l == 99) _ _ _ _ _ _ (λ h. h)
    (choose3 Stands (l == 115) _ _ _ _ _ _ (λ h. h)
    (choose3 Stands (l == 102) _ _ _ _ _ _ (λ h. (and_parts (is_name_text (name_text (forms_in c))) (bytes_eq (padded (name_text (forms_in c))) (forms_in c).0) h).0)
    (choose3 Stands (l == 109) place.Member (place.Byte l) ((64 + member_in c) ∷ []) (l ∷ []) (nat_le 1 (member_in c) && nat_le (member_in c) 8) true (member_stands (member_in c)) (λ h. (bytes_eq-Decides (l ∷ []) (l ∷ [])).1 refl)))))))))

-- the parts of a form that may be written
pub parts_written : (c : Command) (letters : List ℕ) → list_all (may_write c) letters ≡ true → AreParts letters (map (written c) letters)
parts_written c [] h = tt
parts_written c (l ∷ letters) h =
    let both = and_parts (may_write c l) (list_all (may_write c) letters) h in
    (written_stands c l both.0, parts_written c letters both.1)

-- the text in the place of a letter may stand there
pub stands_at : (letters : List ℕ) (parts : List (List ℕ)) (l : ℕ) → AreParts letters parts → list_any (λ k. k == l) letters ≡ true → stands_in (place_of l) (in_place letters parts l) ≡ true
stands_at [] parts l are h = absurd (cc)
stands_at (k ∷ letters) [] l are h = absurd are
stands_at (k ∷ letters) (part ∷ parts) l are h = by_test (λ e. stands_at letters parts l are.1 e) (k == l) refl
  where
    by_test : (list_any (λ k. k == l) letters ≡ true → stands_in (place_of l) (in_place letters parts l) ≡ true) → (v : Bool) → (k == l) ≡ v → stands_in (place_of l) (in_place (k ∷ letters) (part ∷ parts) l) ≡ true
    by_test go true e =
        let same : k ≡ l = eqb-true k l e in
        rw e (ap (λ (j : ℕ). stands_in (place_of j) part) (sym same) ∙ are.0)
    by_test go false e = rw e (go (rw e at h))

-- WRITTEN COMMANDS

classes_back : (classes : List Class) → classes_in (classes_text classes) ≡ classes
classes_back [] = refl
classes_back (c ∷ classes) = ap (λ (cs : List Class). c ∷ cs) (classes_back classes)

classes_forth : (text : List ℕ) → classes_text (classes_in text) ≡ text
classes_forth [] = refl
classes_forth (b ∷ text) = ap (λ (bs : List ℕ). b ∷ bs) (classes_forth text)

-- the fact that a test finds of all letters, of one of them
pub letter_passes : (p : ℕ → Bool) (letters : List ℕ) (l : ℕ) → list_all p letters ≡ true → list_any (λ k. k == l) letters ≡ true → p l ≡ true
letter_passes p [] l h is = absurd (cc)
letter_passes p (k ∷ letters) l h is = by_test (λ e. letter_passes p letters l (and_parts (p k) (list_all p letters) h).1 e) (k == l) refl
  where
    by_test : (list_any (λ k. k == l) letters ≡ true → p l ≡ true) → (v : Bool) → (k == l) ≡ v → p l ≡ true
    by_test go true e = ap p (sym (eqb-true k l e)) ∙ (and_parts (p k) (list_all p letters) h).0
    by_test go false e = go (rw e at is)

-- the command of a form, with what it writes in the places of its letters
abbrev retyped : Form → Command → Command
retyped f c = command_of f (in_place (form_text f) (map (written c) (form_text f)))

abbrev MayWrite : Form → Command → Type 0
MayWrite f c = list_all (may_write c) (form_text f) ≡ true

job_back : (c : Command) (f : Form) → MayWrite f c → list_any (λ k. k == 110) (form_text f) ≡ true → number_of job_numbers (decimal (job_in c)) ≡ job_in c
job_back c f h is = number_of-decimal job_numbers (job_in c) jobs_short (letter_passes (may_write c) (form_text f) 110 h is)

index_back : (c : Command) (f : Form) → MayWrite f c → list_any (λ k. k == 107) (form_text f) ≡ true → number_of index_numbers (decimal (index_in c)) ≡ index_in c
index_back c f h is = number_of-decimal index_numbers (index_in c) indexes_short (letter_passes (may_write c) (form_text f) 107 h is)

name_back : (name : Name8) → is_written_name name ≡ true → (if is_name_text (name_text name) then record { 0 = padded (name_text name) } else blank_name) ≡ name
name_back name h =
    let both = and_parts (is_name_text (name_text name)) (bytes_eq (padded (name_text name)) name.0) h in
    let same : padded (name_text name) ≡ name.0 = (bytes_eq-Decides (padded (name_text name)) name.0).0 both.1 in
    rw (both.0, same) refl

-- the one form of a command
with_form : (c : Command) (f g : Form) → Some f ≡ Some g → MayWrite g c → (MayWrite f c → retyped f c ≡ c) → retyped g c ≡ c
with_form c f g e h body =
    let same : f ≡ g = cc in
    subst (λ (k : Form). MayWrite k c → retyped k c ≡ c) same body h

-- a command is that of its form, with what it writes
pub same_command : (c : Command) (f : Form) → form_of c ≡ Some f → MayWrite f c → retyped f c ≡ c
same_command (command.Begin fields) f e h = absurd (cc)
same_command (command.Take want) f e h = absurd (cc)
same_command (command.Drop job) f e h = absurd (cc)
same_command (command.Enter job text) f e h = absurd (cc)
same_command command.TakeConvert f e h = absurd (cc)
same_command (command.Converted job) f e h = absurd (cc)
same_command command.TakeExec f e h = absurd (cc)
same_command (command.Ended job specs) f e h = absurd (cc)
same_command command.Gather f e h = absurd (cc)
same_command command.Pick f e h = absurd (cc)
same_command (command.Mark job index at) f e h = absurd (cc)
same_command (command.Done job index) f e h = absurd (cc)
same_command command.Purge f e h = absurd (cc)
same_command (command.Hold job) f e h = with_form (command.Hold job) form.Hold f e h (λ h. let f0 = job_back (command.Hold job) form.Hold h refl in rw (f0) refl)
same_command (command.Release job) f e h = with_form (command.Release job) form.Release f e h (λ h. let f0 = job_back (command.Release job) form.Release h refl in rw (f0) refl)
same_command (command.Cancel job) f e h = with_form (command.Cancel job) form.Cancel f e h (λ h. let f0 = job_back (command.Cancel job) form.Cancel h refl in rw (f0) refl)
same_command (command.SetPrio job prio) f e h = with_form (command.SetPrio job prio) form.SetPrio f e h (λ h. let f0 = job_back (command.SetPrio job prio) form.SetPrio h refl in let f1 = number_of-decimal prio_numbers prio.0 prios_short (letter_passes (may_write (command.SetPrio job prio)) (form_text form.SetPrio) 112 h refl) in rw (f0, f1) refl)
same_command (command.SetClass job class) f e h = with_form (command.SetClass job class) form.SetClass f e h (λ h. let f0 = job_back (command.SetClass job class) form.SetClass h refl in rw (f0) refl)
same_command (command.Out job) f e h = with_form (command.Out job) form.Out f e h (λ h. let f0 = job_back (command.Out job) form.Out h refl in rw (f0) refl)
same_command (command.CancelOut job index) f e h = with_form (command.CancelOut job index) form.CancelOut f e h (λ h. let f0 = job_back (command.CancelOut job index) form.CancelOut h refl in let f1 = index_back (command.CancelOut job index) form.CancelOut h refl in rw (f0, f1) refl)
same_command (command.SetOut job index class) f e h = with_form (command.SetOut job index class) form.SetOut f e h (λ h. let f0 = job_back (command.SetOut job index class) form.SetOut h refl in let f1 = index_back (command.SetOut job index class) form.SetOut h refl in rw (f0, f1) refl)
same_command (command.SetInit classes) f e h = with_form (command.SetInit classes) form.SetInit f e h (λ h. let f0 = classes_back classes in rw (f0) refl)
same_command (command.SetPrt classes forms lines) f e h = with_form (command.SetPrt classes forms lines) form.SetPrt f e h (λ h. let f0 = classes_back classes in let f1 = name_back forms (letter_passes (may_write (command.SetPrt classes forms lines)) (form_text form.SetPrt) 102 h refl) in let f2 = number_of-decimal line_numbers lines lines_short (letter_passes (may_write (command.SetPrt classes forms lines)) (form_text form.SetPrt) 108 h refl) in rw (f0, f1, f2) refl)
same_command (command.Back lines) f e h = with_form (command.Back lines) form.Back f e h (λ h. let f0 = number_of-decimal mark_numbers lines marks_short (letter_passes (may_write (command.Back lines)) (form_text form.Back) 98 h refl) in rw (f0) refl)
same_command (command.Forward lines) f e h = with_form (command.Forward lines) form.Forward f e h (λ h. let f0 = number_of-decimal mark_numbers lines marks_short (letter_passes (may_write (command.Forward lines)) (form_text form.Forward) 98 h refl) in rw (f0) refl)
same_command (command.Reset m) f e h = with_form (command.Reset m) form.Reset f e h (λ h. let less : 64 + m.0 - 64 ≡ m.0 = omega arith in rw less refl)
same_command command.Restart f e h = absurd (cc)
same_command (command.Load line) f e h = absurd (cc)
same_command (command.Sent line number) f e h = absurd (cc)
same_command (command.Got line number job text) f e h = absurd (cc)
same_command (command.Show (what.Job job)) f e h = with_form (command.Show (what.Job job)) form.ShowJob f e h (λ h. let f0 = job_back (command.Show (what.Job job)) form.ShowJob h refl in rw (f0) refl)
same_command (command.Show what.Queue) f e h = with_form (command.Show what.Queue) form.ShowQueue f e h (λ h. refl)
same_command (command.Show what.Outputs) f e h = with_form (command.Show what.Outputs) form.ShowOutputs f e h (λ h. refl)
same_command (command.Show what.Spool) f e h = with_form (command.Show what.Spool) form.ShowSpool f e h (λ h. refl)
same_command (command.Show what.Members) f e h = with_form (command.Show what.Members) form.ShowMembers f e h (λ h. refl)

class_within : (t : List ℕ) → stands_in place.Class t ≡ true → stands_in place.Class (slice_index t 0 ∷ []) ≡ true
class_within [] h = absurd (cc)
class_within (b ∷ []) h = h
class_within (b ∷ d ∷ t) h = absurd (let none : (length (b ∷ d ∷ t) == 1) ≡ false = ne_eqb _ _ (λ e. omega arith) in let both = and_parts (length (b ∷ d ∷ t) == 1) (list_all is_class_byte (b ∷ d ∷ t)) h in cc)

classes_within : (t : List ℕ) → are_classes t ≡ true → are_classes (classes_text (classes_in t)) ≡ true
classes_within t h = ap are_classes (classes_forth t) ∙ h

forms_within : (t : List ℕ) → is_name_text t ≡ true → is_written_name (if is_name_text t then record { 0 = padded t } else blank_name) ≡ true
forms_within t h = rw h (padded_written t h)

member_within : (t : List ℕ) → stands_in place.Member t ≡ true → (nat_le 1 (slice_index t 0 - 64) && nat_le (slice_index t 0 - 64) 8) ≡ true
member_within [] h = absurd (cc)
member_within (b ∷ t) h =
    let both = and_parts (length (b ∷ t) == 1) (list_all is_member_letter (b ∷ t)) h in
    let first = and_parts (is_member_letter b) (list_all is_member_letter t) both.1 in
    let ends = and_parts (nat_le 65 b) (nat_le b 72) first.0 in
    let low : 65 ≤ b = leb-true _ _ ends.0 in
    let high : b ≤ 72 = leb-true _ _ ends.1 in
    and_from _ _ (le-leb 1 (b - 64) (omega arith)) (le-leb (b - 64) 8 (omega arith))

-- WHAT IS SPELLED MAY BE WRITTEN

pub may_be_written : (f : Form) (parts : List (List ℕ)) → AreParts (form_text f) parts → (form_of (command_of f (in_place (form_text f) parts)) ≡ Some f) × MayWrite f (command_of f (in_place (form_text f) parts))
may_be_written form.Hold parts are =
    let nw = number_within job_numbers (in_place (form_text form.Hold) parts 110) (stands_at (form_text form.Hold) parts 110 are refl) in
    (refl, rw (nw) refl)
may_be_written form.Release parts are =
    let nw = number_within job_numbers (in_place (form_text form.Release) parts 110) (stands_at (form_text form.Release) parts 110 are refl) in
    (refl, rw (nw) refl)
may_be_written form.Cancel parts are =
    let nw = number_within job_numbers (in_place (form_text form.Cancel) parts 110) (stands_at (form_text form.Cancel) parts 110 are refl) in
    (refl, rw (nw) refl)
may_be_written form.SetPrio parts are =
    let nw = number_within job_numbers (in_place (form_text form.SetPrio) parts 110) (stands_at (form_text form.SetPrio) parts 110 are refl) in
    let pw = number_within prio_numbers (in_place (form_text form.SetPrio) parts 112) (stands_at (form_text form.SetPrio) parts 112 are refl) in
    (refl, rw (nw, pw) refl)
may_be_written form.SetClass parts are =
    let nw = number_within job_numbers (in_place (form_text form.SetClass) parts 110) (stands_at (form_text form.SetClass) parts 110 are refl) in
    let cw = class_within (in_place (form_text form.SetClass) parts 99) (stands_at (form_text form.SetClass) parts 99 are refl) in
    (refl, rw (nw, cw) refl)
may_be_written form.Out parts are =
    let nw = number_within job_numbers (in_place (form_text form.Out) parts 110) (stands_at (form_text form.Out) parts 110 are refl) in
    (refl, rw (nw) refl)
may_be_written form.CancelOut parts are =
    let nw = number_within job_numbers (in_place (form_text form.CancelOut) parts 110) (stands_at (form_text form.CancelOut) parts 110 are refl) in
    let kw = number_within index_numbers (in_place (form_text form.CancelOut) parts 107) (stands_at (form_text form.CancelOut) parts 107 are refl) in
    (refl, rw (nw, kw) refl)
may_be_written form.SetOut parts are =
    let nw = number_within job_numbers (in_place (form_text form.SetOut) parts 110) (stands_at (form_text form.SetOut) parts 110 are refl) in
    let kw = number_within index_numbers (in_place (form_text form.SetOut) parts 107) (stands_at (form_text form.SetOut) parts 107 are refl) in
    let cw = class_within (in_place (form_text form.SetOut) parts 99) (stands_at (form_text form.SetOut) parts 99 are refl) in
    (refl, rw (nw, kw, cw) refl)
may_be_written form.ShowJob parts are =
    let nw = number_within job_numbers (in_place (form_text form.ShowJob) parts 110) (stands_at (form_text form.ShowJob) parts 110 are refl) in
    (refl, rw (nw) refl)
may_be_written form.ShowQueue parts are =
    (refl, refl)
may_be_written form.ShowOutputs parts are =
    (refl, refl)
may_be_written form.ShowSpool parts are =
    (refl, refl)
may_be_written form.ShowMembers parts are =
    (refl, refl)
may_be_written form.SetInit parts are =
    let sw = classes_within (in_place (form_text form.SetInit) parts 115) (stands_at (form_text form.SetInit) parts 115 are refl) in
    (refl, rw (sw) refl)
may_be_written form.SetPrt parts are =
    let sw = classes_within (in_place (form_text form.SetPrt) parts 115) (stands_at (form_text form.SetPrt) parts 115 are refl) in
    let fw = forms_within (in_place (form_text form.SetPrt) parts 102) (stands_at (form_text form.SetPrt) parts 102 are refl) in
    let lw = number_within line_numbers (in_place (form_text form.SetPrt) parts 108) (stands_at (form_text form.SetPrt) parts 108 are refl) in
    (refl, rw (sw, fw, lw) refl)
may_be_written form.Back parts are =
    let bw = number_within mark_numbers (in_place (form_text form.Back) parts 98) (stands_at (form_text form.Back) parts 98 are refl) in
    (refl, rw (bw) refl)
may_be_written form.Forward parts are =
    let bw = number_within mark_numbers (in_place (form_text form.Forward) parts 98) (stands_at (form_text form.Forward) parts 98 are refl) in
    (refl, rw (bw) refl)
may_be_written form.Reset parts are =
    let mw = member_within (in_place (form_text form.Reset) parts 109) (stands_at (form_text form.Reset) parts 109 are refl) in
    (refl, rw (mw) refl)

-- THE TWO TOGETHER

-- a command of which all may be written is spelled by what is written
pub writes : (c : Command) (f : Form) → form_of c ≡ Some f → MayWrite f c → IsSpelling c (concat (map (written c) (form_text f)))
writes c f e h = record {
  kind = f;
  parts = map (written c) (form_text f);
  each = parts_written c (form_text f) h;
  whole = refl;
  says = sym (same_command c f e h);
}

-- what is written of a command with a form
pub written_text-form : (c : Command) (f : Form) → form_of c ≡ Some f → written_text c ≡ concat (map (written c) (form_text f))
written_text-form c f e = rw e refl

-- a spelled command has a form, and may be written in it
pub spelled_may : (c : Command) (text : List ℕ) → IsSpelling c text → (f : Form) × (form_of c ≡ Some f) × MayWrite f c
spelled_may c text s =
    let both = may_be_written s.kind s.parts s.each in (
      s.kind,
      ap form_of s.says ∙ both.0,
      subst (λ (d : Command). MayWrite s.kind d) (sym s.says) both.1,
    )

-- a command without a form is not spelled
pub no_form : (c : Command) (text : List ℕ) → form_of c ≡ None → IsSpelling c text → ⊥
no_form c text e s = let may = spelled_may c text s in let there : form_of c ≡ Some may.0 = may.1 in cc

-- a command that may not be written at a letter of its form is not spelled
pub no_letter : (c : Command) (f : Form) (l : ℕ) (text : List ℕ) → form_of c ≡ Some f → list_any (λ k. k == l) (form_text f) ≡ true → may_write c l ≡ false → IsSpelling c text → ⊥
no_letter c f l text e is h s =
    let may = spelled_may c text s in
    let there : form_of c ≡ Some may.0 = may.1 in
    let same : may.0 ≡ f = cc in
    let all : MayWrite f c = subst (λ (k : Form). MayWrite k c) same may.2 in
    let yes : may_write c l ≡ true = letter_passes (may_write c) (form_text f) l all is in
    cc

-- THE LOOP OVER THE LETTERS

concat-push : (xs : List (List ℕ)) (x : List ℕ) → concat (xs ++ x ∷ []) ≡ concat xs ++ x
concat-push [] x = append-nil x
concat-push (y ∷ xs) x = ap (λ (t : List ℕ). y ++ t) (concat-push xs x) ∙ sym (append_assoc y (concat xs) x)

-- the text of one letter more
pub concat_more : (w : ℕ → List ℕ) (letters : List ℕ) (i : ℕ) → i < length letters → concat (map w (take (i + 1) letters)) ≡ concat (map w (take i letters)) ++ w (get_or letters i 0)
concat_more w letters i inside = ap concat (map_more w letters i 0 inside) ∙ concat-push (map w (take i letters)) (w (get_or letters i 0))

pub not_added : (no : WriteNo) (may : Bool) → no ≡ NotTyped → IsRefused no may → may ≡ false
not_added NotTyped may e h = h
not_added NoMemory may e h = absurd (cc)
