-- Words, names, numbers and commands of lines.
use Rattle.std.proofs.Common.{◌≡◌, ◌∙◌, sym, ap, ℕ, ◌+◌, ◌-◌, ◌==◌, ◌≤◌, nat_le, nat_eq, true, ◌&&◌, List, [], ◌∷◌, ◌++◌, length, drop, codes, slice_index, Some, None, refl, arith}
use Rattle.std.specs.List.{starts_with, concat}
use Rattle.std.specs.Str.{bytes_eq}
use Rattle.std.proofs.lemmas.Bool.{eqb-true, leb-true, le-leb, and_parts, and_from, cond-true}
use Rattle.std.proofs.lemmas.Bool.Decides.{Decides-eqb}
use Rattle.std.proofs.lemmas.Option.{cond_some}
use Rattle.std.proofs.lemmas.Slice.Eq.{bytes_eq-Decides, starts_is}
use Rattle.mas_types.specs.declared.commands.Command.{Command}
use Rattle.mas_types.specs.declared.ids.MemberId.{MemberId}
use Rattle.mas_types.specs.Names.{member_text}
use Rattle.mas_types.specs.Numerals.{is_numeral, value_of}
use Rattle.operator_cmds.specs.declared.forms.Form.{Form}
use Rattle.operator_cmds.specs.declared.forms.Form.TheVariants as form
use Rattle.operator_cmds.specs.Forms.{form_text}
use Rattle.operator_cmds.specs.Spellings.{AreParts, IsSpelling}
use Rattle.script_lang.specs.Asks.{is_member_letter, member_of}
use Rattle.script_lang.specs.Config.{number_in}
use Rattle.script_laws.specs.Grammar.{IsNameOf, IsNumber}
use Rattle.script_laws.proofs.AskFits.{member-within, number-within}

-- WORDS

pub word_is : (word text : List ℕ) → bytes_eq word text ≡ true → word ≡ text
word_is word text is = (bytes_eq-Decides word text).0 is

-- a word that begins with a text
pub begins : (word text : List ℕ) → starts_with nat_eq word text ≡ true → word ≡ text ++ drop (length text) word
begins word text is = (starts_is Decides-eqb word text (starts_with nat_eq word text) refl).0 is

pub two_words : (words : List (List ℕ)) → (length words == 2) ≡ true → (a : List ℕ) × (b : List ℕ) × (words ≡ a ∷ b ∷ [])
two_words [] is = absurd (cc)
two_words (a ∷ []) is = absurd (cc)
two_words (a ∷ b ∷ []) is = (a, b, refl)
two_words (a ∷ b ∷ c ∷ words) is = absurd (let two : length (a ∷ b ∷ c ∷ words) ≡ 2 = eqb-true _ _ is in omega arith)

pub three_words : (words : List (List ℕ)) → (length words == 3) ≡ true → (a : List ℕ) × (b : List ℕ) × (c : List ℕ) × (words ≡ a ∷ b ∷ c ∷ [])
three_words [] is = absurd (cc)
three_words (a ∷ []) is = absurd (cc)
three_words (a ∷ b ∷ []) is = absurd (cc)
three_words (a ∷ b ∷ c ∷ []) is = (a, b, c, refl)
three_words (a ∷ b ∷ c ∷ d ∷ words) is = absurd (let three : length (a ∷ b ∷ c ∷ d ∷ words) ≡ 3 = eqb-true _ _ is in omega arith)

pub four_words : (words : List (List ℕ)) → (length words == 4) ≡ true → (a : List ℕ) × (b : List ℕ) × (c : List ℕ) × (d : List ℕ) × (words ≡ a ∷ b ∷ c ∷ d ∷ [])
four_words [] is = absurd (cc)
four_words (a ∷ []) is = absurd (cc)
four_words (a ∷ b ∷ []) is = absurd (cc)
four_words (a ∷ b ∷ c ∷ []) is = absurd (cc)
four_words (a ∷ b ∷ c ∷ d ∷ []) is = (a, b, c, d, refl)
four_words (a ∷ b ∷ c ∷ d ∷ e ∷ words) is = absurd (let four : length (a ∷ b ∷ c ∷ d ∷ e ∷ words) ≡ 4 = eqb-true _ _ is in omega arith)

-- NUMBERS

pub number_is : (least most : ℕ) (text : List ℕ) (n : ℕ) → number_in least most text ≡ Some n → IsNumber least most n text
number_is least most text n e =
    let found = cond_some (is_numeral text && nat_le (value_of text) most && nat_le least (value_of text)) (value_of text) n e in
    let low = and_parts (is_numeral text && nat_le (value_of text) most) (nat_le least (value_of text)) found.0 in
    let high = and_parts (is_numeral text) (nat_le (value_of text) most) low.0 in
    record { numeral = high.0; value = found.1; within = number-within least most text n e }

pub number_from : (least most : ℕ) (text : List ℕ) (n : ℕ) → IsNumber least most n text → number_in least most text ≡ Some n
number_from least most text n is =
    let value : value_of text ≡ n = is.value in
    let low : least ≤ n = is.within.0 in
    let high : n ≤ most = is.within.1 in
    let high_is : nat_le (value_of text) most ≡ true = le-leb _ _ (omega arith) in
    let low_is : nat_le least (value_of text) ≡ true = le-leb _ _ (omega arith) in
    let all : (is_numeral text && nat_le (value_of text) most && nat_le least (value_of text)) ≡ true = and_from _ _ (and_from _ _ is.numeral high_is) low_is in
    cond-true (is_numeral text && nat_le (value_of text) most && nat_le least (value_of text)) (Some (value_of text)) None all ∙ ap (λ (k : ℕ). Some k) value

-- MEMBERS

-- the name of a member is read as it
pub name_from : (m : MemberId) → 1 ≤ m.0 → m.0 ≤ 8 → member_of (member_text m.0) ≡ Some m
name_from m least most =
    let low : nat_le 65 (m.0 + 64) ≡ true = le-leb _ _ (omega arith) in
    let high : nat_le (m.0 + 64) 72 ≡ true = le-leb _ _ (omega arith) in
    let back : m.0 + 64 - 64 ≡ m.0 = omega arith in
    rw (low, high, back) refl

letters : (a b c d : ℕ) → starts_with nat_eq (a ∷ b ∷ c ∷ d ∷ []) (codes "SYS") ≡ true → (a ≡ 83) × (b ≡ 89) × (c ≡ 83)
letters a b c d h =
    let first = and_parts (nat_eq 83 a) _ h in
    let second = and_parts (nat_eq 89 b) _ first.1 in
    let third = and_parts (nat_eq 83 c) _ second.1 in
    (sym (eqb-true 83 a first.0), sym (eqb-true 89 b second.0), sym (eqb-true 83 c third.0))

has_name : (text : List ℕ) (k : ℕ) → (length text == 4) ≡ true → starts_with nat_eq text (codes "SYS") ≡ true → is_member_letter (slice_index text 3) ≡ true → slice_index text 3 - 64 ≡ k → text ≡ member_text k
has_name [] k four front last is = absurd (cc)
has_name (a ∷ []) k four front last is = absurd (cc)
has_name (a ∷ b ∷ []) k four front last is = absurd (cc)
has_name (a ∷ b ∷ c ∷ []) k four front last is = absurd (cc)
has_name (a ∷ b ∷ c ∷ d ∷ []) k four front last is =
    let are = letters a b c d front in
    let both = and_parts (nat_le 65 d) (nat_le d 72) last in
    let low : 65 ≤ d = leb-true _ _ both.0 in
    let whole : k + 64 ≡ d = omega arith in
    rw (are.0, are.1, are.2, whole) refl
has_name (a ∷ b ∷ c ∷ d ∷ e ∷ text) k four front last is = absurd (let long : length (a ∷ b ∷ c ∷ d ∷ e ∷ text) ≡ 4 = eqb-true _ _ four in omega arith)

-- what is read as a member is its name
pub name_is : (text : List ℕ) (m : MemberId) → member_of text ≡ Some m → IsNameOf m text
name_is text m e =
    let found = cond_some ((length text == 4) && starts_with nat_eq text (codes "SYS") && is_member_letter (slice_index text 3)) (record { 0 = slice_index text 3 - 64 }) m e in
    let last = and_parts ((length text == 4) && starts_with nat_eq text (codes "SYS")) (is_member_letter (slice_index text 3)) found.0 in
    let front = and_parts (length text == 4) (starts_with nat_eq text (codes "SYS")) last.0 in
    record { within = member-within text m e; named = has_name text m.0 front.0 front.1 last.1 (ap (λ (k : MemberId). k.0) found.1) }

-- COMMANDS

dollar_first : (letters : List ℕ) (parts : List (List ℕ)) → AreParts (36 ∷ letters) parts → (rest : List ℕ) × (concat parts ≡ 36 ∷ rest)
dollar_first letters [] are = absurd are
dollar_first letters (part ∷ parts) are =
    let same : part ≡ 36 ∷ [] = word_is part (36 ∷ []) are.0 in
    (concat parts, ap (λ (p : List ℕ). p ++ concat parts) same)

dollar_of : (f : Form) (parts : List (List ℕ)) → AreParts (form_text f) parts → (rest : List ℕ) × (concat parts ≡ 36 ∷ rest)
dollar_of form.Hold parts are = dollar_first (drop 1 (form_text form.Hold)) parts are
dollar_of form.Release parts are = dollar_first (drop 1 (form_text form.Release)) parts are
dollar_of form.Cancel parts are = dollar_first (drop 1 (form_text form.Cancel)) parts are
dollar_of form.SetPrio parts are = dollar_first (drop 1 (form_text form.SetPrio)) parts are
dollar_of form.SetClass parts are = dollar_first (drop 1 (form_text form.SetClass)) parts are
dollar_of form.Out parts are = dollar_first (drop 1 (form_text form.Out)) parts are
dollar_of form.CancelOut parts are = dollar_first (drop 1 (form_text form.CancelOut)) parts are
dollar_of form.SetOut parts are = dollar_first (drop 1 (form_text form.SetOut)) parts are
dollar_of form.ShowJob parts are = dollar_first (drop 1 (form_text form.ShowJob)) parts are
dollar_of form.ShowQueue parts are = dollar_first (drop 1 (form_text form.ShowQueue)) parts are
dollar_of form.ShowOutputs parts are = dollar_first (drop 1 (form_text form.ShowOutputs)) parts are
dollar_of form.ShowSpool parts are = dollar_first (drop 1 (form_text form.ShowSpool)) parts are
dollar_of form.ShowMembers parts are = dollar_first (drop 1 (form_text form.ShowMembers)) parts are
dollar_of form.SetInit parts are = dollar_first (drop 1 (form_text form.SetInit)) parts are
dollar_of form.SetPrt parts are = dollar_first (drop 1 (form_text form.SetPrt)) parts are
dollar_of form.Back parts are = dollar_first (drop 1 (form_text form.Back)) parts are
dollar_of form.Forward parts are = dollar_first (drop 1 (form_text form.Forward)) parts are
dollar_of form.Reset parts are = dollar_first (drop 1 (form_text form.Reset)) parts are

-- a command begins with `$`
pub dollar : (text : List ℕ) (c : Command) → IsSpelling c text → (rest : List ℕ) × (text ≡ 36 ∷ rest)
dollar text c s = let first = dollar_of s.kind s.parts s.each in (first.0, s.whole ∙ first.1)
