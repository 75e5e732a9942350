-- What the code reads of the matches.
use Rattle.std.proofs.Common.{◌≡◌, ◌≢◌, ◌∙◌, ℕ, Bool, true, false, cond, not, ◌&&◌, ◌||◌, List, Option, Some, None, Err, map, unwrap_or, [], refl, sym, ap, codes, inl, inr}
use Rattle.std.specs.Prelude.{option_and_then, option_map, string_bytes, String}
use Rattle.std.specs.Option.{option_map_or}
use Rattle.std.specs.List.{list_any}
use Rattle.std.specs.Str.{bytes_eq}
use Rattle.std.specs.Borrow.{Bor}
use Rattle.clap.proofs.WalkLemmas.{first_value-rows, list_any-map}
use Rattle.clap.specs.Matches.{first_value, found_of, subcommand_name_of}
use Rattle.clap.specs.declared.parser.matches.ArgMatches.{ArgMatches}
use Rattle.clap.specs.declared.parser.matches.ArgMatches.TheViews.{out-ArgMatches, out-SubCommand}
use Rattle.clap.specs.declared.parser.matches.SubCommand.{SubCommand}
use Rattle.std.specs.Prelude.{Box, box_value}
use Rattle.clap.specs.Faults.{fault_of}
use Rattle.clap.specs.Kinds.{HasKind}
use Rattle.clap.specs.Simple.{subcommand_of, subcommand_rows, subcommand_rows_of}
use Rattle.clap.specs.Values.{kind_of}
use Rattle.clap.specs.Walk.{Row, first_of, rows_of}
use Rattle.clap.specs.declared.error.Error.{Error}
use Rattle.clap.specs.declared.error.kind.ErrorKind.TheVariants as kind
use Rattle.mas_words.specs.Words.{Command, play, race, format, report, check, generate, Reads, Text, command_of, has_its_options, is_folder, is_number, takes_cold, verb_of, words_for, words_of}
use Rattle.mas_words.specs.Program.{folder_of, given_by, is_cold_verb, is_set, number_of, program_app, verb_by, words_by, words_met}
use Rattle.mas_words.specs.declared.types.Verb.{Verb}
use Rattle.mas_words.specs.declared.types.Verb.TheVariants as verb
use Rattle.mas_words.specs.declared.types.WordsNo.{WordsNo}
use Rattle.mas_words.specs.declared.types.WordsNo.TheVariants as refused
use Rattle.mas_types.specs.Numerals.{value_of}
use Rattle.mas_words.proofs.Steps.{NoDashes, dashes}
use Rattle.mas_words.proofs.Tops.{dashes_refused, err_read, ok_read}

pub generate_ok : (o : Option Text) (n : ℕ) → number_of o ≡ Some n → verb_of generate o ≡ Some (verb.Generate n)
generate_ok None n h = cc
generate_ok (Some text) n h = go (is_number text) h
  where
    go : (b : Bool) → cond b (Some (value_of text)) None ≡ Some n → cond b (Some (verb.Generate (value_of text))) None ≡ Some (verb.Generate n)
    go true e = cc
    go false e = cc

generate_none : (o : Option Text) → number_of o ≡ None → verb_of generate o ≡ None
generate_none None h = refl
generate_none (Some text) h = go (is_number text) h
  where
    go : (b : Bool) → cond b (Some (value_of text)) None ≡ None → cond b (Some (verb.Generate (value_of text))) None ≡ None
    go true e = cc
    go false e = refl

pub generate_err : (o : Option Text) (e : WordsNo) → Reads (number_of o) (Err e) → Reads (verb_of generate o) (Err e)
generate_err o refused.Words h = generate_none o h
generate_err o refused.NoMemory h = tt

-- ---- what the getters say

pub read_text : (id : Text) (m : ArgMatches) (o : Option (Bor Text)) → option_map (λ s. s.now) o ≡ first_value (found_of m) id → option_map (λ s. s.now) o ≡ first_of id (rows_of (found_of m))
read_text id m o h = h ∙ first_value-rows (found_of m) id

pub read_cold : (m : ArgMatches) (o : Option (Bor Text)) → option_map (λ s. s.now) o ≡ first_value (found_of m) (codes "cold")
    → is_set (option_map (λ s. s.now) o) ≡ is_set (first_of (codes "cold") (rows_of (found_of m)))
read_cold m o h = ap is_set (read_text (codes "cold") m o h)

generate_is : (name : Text) (m : ArgMatches) (o : Option (Bor Text)) → name ≡ codes "generate" → option_map (λ s. s.now) o ≡ first_value (found_of m) (codes "n")
    → verb_of generate (option_map (λ s. s.now) o) ≡ option_and_then (λ command. verb_by command (rows_of (found_of m))) (command_of name)
generate_is name m o named h = ap (verb_of generate) (read_text (codes "n") m o h)
    ∙ sym (ap (λ (n : Text). option_and_then (λ command. verb_by command (rows_of (found_of m))) (command_of n)) named)

pub generate_refused : (name : Text) (m : ArgMatches) (o : Option (Bor Text)) → name ≡ codes "generate" → option_map (λ s. s.now) o ≡ first_value (found_of m) (codes "n")
    → (e : WordsNo) → Reads (number_of (option_map (λ s. s.now) o)) (Err e) → Reads (option_and_then (λ command. verb_by command (rows_of (found_of m))) (command_of name)) (Err e)
generate_refused name m o named h refused.NoMemory r = tt
generate_refused name m o named h refused.Words r = sym (generate_is name m o named h) ∙ generate_none (option_map (λ s. s.now) o) r

pub generate_read : (name : Text) (m : ArgMatches) (o : Option (Bor Text)) → name ≡ codes "generate" → option_map (λ s. s.now) o ≡ first_value (found_of m) (codes "n")
    → (n : ℕ) → number_of (option_map (λ s. s.now) o) ≡ Some n → option_and_then (λ command. verb_by command (rows_of (found_of m))) (command_of name) ≡ Some (verb.Generate n)
generate_read name m o named h n r = sym (generate_is name m o named h) ∙ generate_ok (option_map (λ s. s.now) o) n r

-- ---- a subcommand's words

folder_some : (o : Option Text) (dir : Text) → folder_of o ≡ Some dir → option_map_or is_folder o true ≡ true
folder_some None dir h = refl
folder_some (Some d) dir h = go (is_folder d) h
  where
    go : (b : Bool) → cond b (Some d) None ≡ Some dir → b ≡ true
    go true e = refl
    go false e = cc

folder_is : (o : Option Text) (dir : Text) → folder_of o ≡ Some dir → unwrap_or o [] ≡ dir
folder_is None dir h = cc
folder_is (Some d) dir h = go (is_folder d) h
  where
    go : (b : Bool) → cond b (Some d) None ≡ Some dir → d ≡ dir
    go true e = cc
    go false e = cc

folder_none : (o : Option Text) → folder_of o ≡ None → option_map_or is_folder o true ≡ false
folder_none None h = cc
folder_none (Some d) h = go (is_folder d) h
  where
    go : (b : Bool) → cond b (Some d) None ≡ None → b ≡ false
    go true e = cc
    go false e = refl

taken : (a b : Bool) → (not (a && b) || a) ≡ true
taken true true = refl
taken true false = refl
taken false b = refl

options_by : (k : Command) (rows : List Row) → has_its_options k (given_by k rows) ≡ option_map_or is_folder (first_of (codes "dir") rows) true
options_by k rows = ap (λ (b : Bool). b && option_map_or is_folder (first_of (codes "dir") rows) true) (taken (takes_cold k) (is_set (first_of (codes "cold") rows)))

no_folder : (k : Command) (rows : List Row) → folder_of (first_of (codes "dir") rows) ≡ None → words_by k rows ≡ None
no_folder k rows h = ap (λ (b : Bool). cond b (option_map (words_for (given_by k rows)) (verb_of k (given_by k rows).number)) None) (options_by k rows ∙ folder_none (first_of (codes "dir") rows) h)

pub folder_refused : (name : Text) (rows : List Row) (e : WordsNo) → Reads (folder_of (first_of (codes "dir") rows)) (Err e) → Reads (words_met name rows) (Err e)
folder_refused name rows refused.NoMemory h = tt
folder_refused name rows refused.Words h = go (command_of name)
  where
    go : (o : Option Command) → option_and_then (λ command. words_by command rows) o ≡ None
    go None = refl
    go (Some k) = no_folder k rows h

no_verb : (k : Command) (rows : List Row) → verb_by k rows ≡ None → words_by k rows ≡ None
no_verb k rows h = go (has_its_options k (given_by k rows)) (verb_by k rows) h
  where
    go : (b : Bool) (o : Option Verb) → o ≡ None → cond b (option_map (words_for (given_by k rows)) o) None ≡ None
    go true o e = ap (option_map (words_for (given_by k rows))) e
    go false o e = refl

pub verb_refused : (name : Text) (rows : List Row) (e : WordsNo) → Reads (option_and_then (λ command. verb_by command rows) (command_of name)) (Err e) → Reads (words_met name rows) (Err e)
verb_refused name rows refused.NoMemory h = tt
verb_refused name rows refused.Words h = go (command_of name) h
  where
    go : (o : Option Command) → option_and_then (λ command. verb_by command rows) o ≡ None → option_and_then (λ command. words_by command rows) o ≡ None
    go None e = refl
    go (Some k) e = no_verb k rows e

cold_verb : (k : Command) (n : Option Text) (v : Verb) → verb_of k n ≡ Some v → takes_cold k ≡ is_cold_verb v
cold_verb play None v h = let e : verb.Play ≡ v = cc in ap is_cold_verb e
cold_verb race None v h = let e : verb.Race ≡ v = cc in ap is_cold_verb e
cold_verb format None v h = let e : verb.Format ≡ v = cc in ap is_cold_verb e
cold_verb report None v h = let e : verb.Report ≡ v = cc in ap is_cold_verb e
cold_verb check None v h = let e : verb.Check ≡ v = cc in ap is_cold_verb e
cold_verb generate None v h = cc
cold_verb play (Some t) v h = cc
cold_verb race (Some t) v h = cc
cold_verb format (Some t) v h = cc
cold_verb report (Some t) v h = cc
cold_verb check (Some t) v h = cc
cold_verb generate (Some t) v h = go (is_number t) h
  where
    go : (b : Bool) → cond b (Some (verb.Generate (value_of t))) None ≡ Some v → false ≡ is_cold_verb v
    go true e = let is : verb.Generate (value_of t) ≡ v = cc in ap is_cold_verb is
    go false e = cc

pub words_read : (name : Text) (rows : List Row) (v : Verb) (cold : Bool) (dir : Text) → option_and_then (λ command. verb_by command rows) (command_of name) ≡ Some v
    → cold ≡ (is_cold_verb v && is_set (first_of (codes "cold") rows)) → folder_of (first_of (codes "dir") rows) ≡ Some dir
    → words_met name rows ≡ Some (record { verb = v; cold = cold; dir = dir })
words_read name rows v cold dir verb_is cold_is dir_is = go (command_of name) verb_is
  where
    go : (o : Option Command) → option_and_then (λ command. verb_by command rows) o ≡ Some v → option_and_then (λ command. words_by command rows) o ≡ Some (record { verb = v; cold = cold; dir = dir })
    go None e = cc
    go (Some k) e =
        let options : has_its_options k (given_by k rows) ≡ true = options_by k rows ∙ folder_some (first_of (codes "dir") rows) dir dir_is in
        let same_cold : (takes_cold k && is_set (first_of (codes "cold") rows)) ≡ cold =
        ap (λ (b : Bool). b && is_set (first_of (codes "cold") rows)) (cold_verb k (given_by k rows).number v e) ∙ sym cold_is in
        let same_dir : unwrap_or (first_of (codes "dir") rows) [] ≡ dir = folder_is (first_of (codes "dir") rows) dir dir_is in
        let same_words : words_for (given_by k rows) v ≡ record { verb = v; cold = cold; dir = dir } = λ i. record { verb = v; cold = same_cold i; dir = same_dir i } in
        ap (λ (b : Bool). cond b (option_map (words_for (given_by k rows)) (verb_by k rows)) None) options
        ∙ ap (option_map (words_for (given_by k rows))) e
        ∙ ap Some same_words

-- ---- all words

pub no_dashes : {A : Type 0} (words : List (String A)) → list_any (λ w. bytes_eq (string_bytes w) (codes "--")) words ≡ false → NoDashes (map string_bytes words)
no_dashes words h = sym (list_any-map (λ w. bytes_eq w dashes) string_bytes words) ∙ h

pub some_dashes : {A : Type 0} (words : List (String A)) → list_any (λ w. bytes_eq (string_bytes w) (codes "--")) words ≡ true → words_of (map string_bytes words) ≡ None
some_dashes words h = dashes_refused (map string_bytes words) (sym (list_any-map (λ w. bytes_eq w dashes) string_bytes words) ∙ h)

pub refusal_reads : (words : List Text) → NoDashes words → (e : Error) (r : WordsNo) → (r ≡ refused.Words → kind_of e ≢ kind.OutOfMemory) → HasKind (fault_of program_app words) e → Reads (words_of words) (Err r)
refusal_reads words free e refused.NoMemory why has = tt
refusal_reads words free e refused.Words why (inl h) = absurd (why refl h)
refusal_reads words free e refused.Words why (inr h) = err_read words free (kind_of e) h

-- what is met is the pair of what is named and what is found
pub paired : {B : Type 0} (name : B → Text) (rows : B → List Row) (o : Option B) (n : Text) (rs : List Row) → Some n ≡ option_map name o
    → Some rs ≡ option_map (λ (p : Text × List Row). p.1) (option_map {U = Text × List Row} (λ b. (name b, rows b)) o) → option_map {U = Text × List Row} (λ b. (name b, rows b)) o ≡ Some (n, rs)
paired name rows None n rs named found = cc
paired name rows (Some b) n rs named found =
    let n_is : name b ≡ n = cc in
    let rs_is : rows b ≡ rs = cc in
    λ i. Some (n_is i, rs_is i)

-- the words of the subcommand that was met
pub subcommand_met : (m : ArgMatches) (n : Text) (rs : List Row) → Some n ≡ subcommand_name_of m → Some rs ≡ option_map (λ p. p.1) (subcommand_rows (out-ArgMatches m).subcommand)
    → subcommand_rows_of m ≡ Some (n, rs)
subcommand_met m n rs named found =
    paired (λ b. (out-SubCommand (box_value b)).name.now) (λ b. rows_of (found_of (out-SubCommand (box_value b)).matches)) (out-ArgMatches m).subcommand n rs named found

pub subcommand_unmet : (m : ArgMatches) → None ≡ subcommand_name_of m → subcommand_rows_of m ≡ None
subcommand_unmet m h = go (out-ArgMatches m).subcommand h
  where
    go : {Z : Type 0} (o : Option (Box SubCommand Z)) → None ≡ option_map (λ b. (out-SubCommand (box_value b)).name.now) o → subcommand_rows o ≡ None
    go None e = refl
    go (Some b) e = cc

-- what is read of the matches is what the words ask for
pub matches_read : (words : List Text) → NoDashes words → fault_of program_app words ≡ [] → (m : ArgMatches) → subcommand_rows_of m ≡ subcommand_of program_app words
    → option_and_then (λ p. words_met p.0 p.1) (subcommand_rows_of m) ≡ words_of words
matches_read words free clear m is = ap (option_and_then (λ p. words_met p.0 p.1)) is ∙ sym (ok_read words free clear)
