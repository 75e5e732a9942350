-- What the words ask for.
use Rattle.std.proofs.Common.{◌≡◌, ◌∙◌, ◌⊎◌, inl, inr, ℕ, ◌≤◌, nat_le, Bool, true, false, ◌&&◌, if◌then◌else◌, List, [], ◌∷◌, length, Option, Some, None, Err, refl, ap, subst}
use Rattle.std.specs.Prelude.{option_and_then, option_map}
use Rattle.std.proofs.lemmas.Bool.{and_parts as both, leb-true}
use Rattle.std.proofs.lemmas.Option.{option_and_then_some}
use Rattle.mas_types.specs.Numerals.{is_numeral, value_of}
use Rattle.gen_work.specs.Generated.{IsDeckCount}
use Rattle.mas_words.specs.declared.types.Verb.{Verb}
use Rattle.mas_words.specs.declared.types.Verb.TheVariants as verb
use Rattle.mas_words.specs.declared.types.Words.{Words}
use Rattle.mas_words.specs.declared.types.WordsNo.{WordsNo}
use Rattle.mas_words.specs.declared.types.WordsNo.TheVariants as no_words
use Rattle.mas_words.specs.Words.{Command, play, race, format, report, check, generate, Given, Reads, Text, command_of, decks_most, digits_most, has_its_options, is_number, nothing, verb_of, with_words, words_for, words_of, words_with}
use Rattle.mas_types.specs.declared.answers.Status.{Status}
use Rattle.mas_types.specs.declared.answers.Status.TheVariants as status
use Rattle.mas_types.specs.declared.queues.Queue.{Queue}
use Rattle.mas_types.specs.Starts.{no_queue}
use Rattle.spool_plant.specs.View.{View}
use Rattle.run_opening.specs.Runs.{has_begun, Begins}
use Rattle.run_opening.specs.Statuses.{IsCaused, LeavesLost}
use Rattle.mas_tasks.specs.declared.tasks.Task.{Task}
use Rattle.mas_tasks.specs.declared.tasks.Task.TheVariants as task
use Rattle.mas_tasks.specs.Tasks.{status_of_no, task_asked, task_by, task_of}

-- ONE TASK

pub none_some : (asked : Option Task) (x : Task) → asked ≡ None → asked ≡ Some x → ⊥
none_some asked x none some = absurd (cc)

pub play_same : (asked : Option Task) (a b : Bool) → asked ≡ Some (task.Play a) → asked ≡ Some (task.Play b) → a ≡ b
play_same asked a b one two = cc

pub play_not_report : (asked : Option Task) (a : Bool) → asked ≡ Some (task.Play a) → asked ≡ Some task.Report → ⊥
play_not_report asked a one two = absurd (cc)

pub play_not_format : (asked : Option Task) (a : Bool) → asked ≡ Some (task.Play a) → asked ≡ Some task.Format → ⊥
play_not_format asked a one two = absurd (cc)

pub report_not_format : (asked : Option Task) → asked ≡ Some task.Report → asked ≡ Some task.Format → ⊥
report_not_format asked one two = absurd (cc)

pub play_not_check : (asked : Option Task) (a : Bool) → asked ≡ Some (task.Play a) → asked ≡ Some task.Check → ⊥
play_not_check asked a one two = absurd (cc)

pub report_not_check : (asked : Option Task) → asked ≡ Some task.Report → asked ≡ Some task.Check → ⊥
report_not_check asked one two = absurd (cc)

pub format_not_check : (asked : Option Task) → asked ≡ Some task.Format → asked ≡ Some task.Check → ⊥
format_not_check asked one two = absurd (cc)

pub generate_same : (asked : Option Task) (a b : ℕ) → asked ≡ Some (task.Generate a) → asked ≡ Some (task.Generate b) → a ≡ b
generate_same asked a b one two = cc

pub generate_not_play : (asked : Option Task) (a : ℕ) (b : Bool) → asked ≡ Some (task.Generate a) → asked ≡ Some (task.Play b) → ⊥
generate_not_play asked a b one two = absurd (cc)

pub generate_not_report : (asked : Option Task) (a : ℕ) → asked ≡ Some (task.Generate a) → asked ≡ Some task.Report → ⊥
generate_not_report asked a one two = absurd (cc)

pub generate_not_format : (asked : Option Task) (a : ℕ) → asked ≡ Some (task.Generate a) → asked ≡ Some task.Format → ⊥
generate_not_format asked a one two = absurd (cc)

pub generate_not_check : (asked : Option Task) (a : ℕ) → asked ≡ Some (task.Generate a) → asked ≡ Some task.Check → ⊥
generate_not_check asked a one two = absurd (cc)

-- A NUMBER OF DECKS that is asked for is one that is made

number_count : (text : Text) (n : ℕ) (is : Bool) → is_number text ≡ is → (if is then Some (verb.Generate (value_of text)) else None) ≡ Some (verb.Generate n) → IsDeckCount n
number_count text n false not e = absurd (cc)
number_count text n true is e =
    let four = both (is_numeral text && nat_le (length text) digits_most && nat_le 1 (value_of text)) (nat_le (value_of text) decks_most) is in
    let three = both (is_numeral text && nat_le (length text) digits_most) (nat_le 1 (value_of text)) four.0 in
    let few : value_of text ≤ 1000 = leb-true _ _ four.1 in
    let some : 1 ≤ value_of text = leb-true _ _ three.1 in
    let same : value_of text ≡ n = cc in
    subst IsDeckCount same (some, few)

verb_count : (c : Command) (number : Option Text) (n : ℕ) → verb_of c number ≡ Some (verb.Generate n) → IsDeckCount n
verb_count generate (Some text) n e = number_count text n (is_number text) refl e
verb_count generate None n e = absurd (cc)
verb_count play None n e = absurd (cc)
verb_count play (Some text) n e = absurd (cc)
verb_count race None n e = absurd (cc)
verb_count race (Some text) n e = absurd (cc)
verb_count format None n e = absurd (cc)
verb_count format (Some text) n e = absurd (cc)
verb_count report None n e = absurd (cc)
verb_count report (Some text) n e = absurd (cc)
verb_count check None n e = absurd (cc)
verb_count check (Some text) n e = absurd (cc)

with_count : (c : Command) (given : Given) (w : Words) (n : ℕ) → words_with c given ≡ Some w → w.verb ≡ verb.Generate n → IsDeckCount n
with_count c given w n e is = by_parts (has_its_options c given) (verb_of c given.number) refl e where
  by_parts : (fits : Bool) (v : Option Verb) → verb_of c given.number ≡ v → (if fits then option_map (words_for given) v else None) ≡ Some w → IsDeckCount n
  by_parts false v same f = absurd (cc)
  by_parts true None same f = absurd (cc)
  by_parts true (Some v) same f =
      let verbs : Some v ≡ Some w.verb = ap (option_map (λ (x : Words). x.verb)) f in
      verb_count c given.number n (same ∙ verbs ∙ ap Some is)

words_count : (texts : List Text) (w : Words) (n : ℕ) → words_of texts ≡ Some w → w.verb ≡ verb.Generate n → IsDeckCount n
words_count [] w n e is = absurd (cc)
words_count (word ∷ rest) w n e is =
    option_and_then_some (λ (c : Command). option_and_then (words_with c) (with_words nothing rest)) (command_of word) w e
    (λ c at f. option_and_then_some (words_with c) (with_words nothing rest) w f (λ given so with. with_count c given w n with is))

verb_asked : (cold : Bool) (v : Verb) (n : ℕ) → task_by cold v ≡ Some (task.Generate n) → v ≡ verb.Generate n
verb_asked cold (verb.Generate m) n e = cc
verb_asked cold verb.Play n e = absurd (cc)
verb_asked cold verb.Race n e = absurd (cc)
verb_asked cold verb.Format n e = absurd (cc)
verb_asked cold verb.Report n e = absurd (cc)
verb_asked cold verb.Check n e = absurd (cc)

pub deck_count : (texts : List Text) (n : ℕ) → task_asked texts ≡ Some (task.Generate n) → IsDeckCount n
deck_count texts n e = option_and_then_some task_of (words_of texts) (task.Generate n) e (λ w at f. words_count texts w n at (verb_asked w.cold w.verb n f))

-- WORDS THAT AREN'T READ

pub none_words : (asked : Option Task) (why : WordsNo) → Reads asked (Err why) → status_of_no why ≡ status.Words → asked ≡ None
none_words asked no_words.Words is e = is
none_words asked no_words.NoMemory is e = absurd (cc)

pub words_or_memory : (why : WordsNo) → (status_of_no why ≡ status.Words) ⊎ (status_of_no why ≡ status.NoMemory)
words_or_memory no_words.Words = inl refl
words_or_memory no_words.NoMemory = inr refl

pub some_memory : (asked : Option Task) (x : Task) (why : WordsNo) → Reads asked (Err why) → asked ≡ Some x → status_of_no why ≡ status.NoMemory
some_memory asked x no_words.Words is e = absurd (none_some asked x is e)
some_memory asked x no_words.NoMemory is e = refl

pub memory_not_source : (answer : Status) → answer ≡ status.NoMemory → answer ≡ status.SourceFault → ⊥
memory_not_source answer e f = absurd (cc)

pub words_caused : (why : WordsNo) (old new : View) → IsCaused (status_of_no why) old new
words_caused no_words.Words old new = record { failed1 = λ e. absurd (cc); failed2 = λ e. absurd (cc); console = λ e. absurd (cc) }
words_caused no_words.NoMemory old new = record { failed1 = λ e. absurd (cc); failed2 = λ e. absurd (cc); console = λ e. absurd (cc) }

pub words_lost : (why : WordsNo) (v : View) → LeavesLost (status_of_no why) v v
words_lost no_words.Words v = record { stays = λ p gone. gone; both = λ e. absurd (cc) }
words_lost no_words.NoMemory v = record { stays = λ p gone. gone; both = λ e. absurd (cc) }

pub words_begins : (why : WordsNo) (base : Queue) → base ≡ no_queue → Begins (status_of_no why) base
words_begins no_words.Words base is = ap has_begun is
words_begins no_words.NoMemory base is = tt
