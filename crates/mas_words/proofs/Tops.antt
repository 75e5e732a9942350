-- What `clap` makes of the program's words comes to the grammar.
use Rattle.std.proofs.Common.{◌≡◌, ◌∙◌, ℕ, Bool, true, false, List, [], ◌∷◌, ◌++◌, Option, Some, None, is_some, codes, refl, sym, ap, subst, fold, slice_get, ◌⊎◌, inl, inr, true≢false}
use Rattle.std.specs.Prelude.{option_and_then}
use Rattle.std.specs.List.{list_any}
use Rattle.std.specs.Str.{bytes_eq, chars}
use Rattle.std.proofs.lemmas.Bool.{false_from_ne_true, or_cases, or_parts}
use Rattle.std.proofs.lemmas.Slice.Eq.{bytes_eq-Decides}
use Rattle.clap.specs.Faults.{check_fault, entered_fault, defaults_fault, fault_of, flags_fault, level_fault, other_fault, settle_fault, step_fault, turn_fault, walk_fault}
use Rattle.clap.specs.Kinds.{IsAmong, Kinds, or_else}
use Rattle.clap.specs.Lexer.{long_of, short_of}
use Rattle.clap.specs.Simple.{entered, names_of, subcommand_of}
use Rattle.clap.specs.Walk.{Names, Row, Walk, bundle_met, finished, idle, nothing_held, rows_after, settled, subcommand_met, subcommand_or_other, walk_from, walked}
use Rattle.clap.specs.declared.error.kind.ErrorKind.{ErrorKind}
use Rattle.clap.proofs.WalkLemmas.{walk_stopped}
use Rattle.mas_words.specs.declared.types.Words.{Words}
use Rattle.mas_words.specs.Words.{Command, play, race, format, report, check, generate, Given, Text, command_of, nothing, with_word, with_words, words_of, words_with}
use Rattle.mas_words.specs.Program.{program_app, words_by, words_met}
use Rattle.mas_words.proofs.Built.{Form, built_program, form_of, name_of, rules, shape, shape_of_command, top}
use Rattle.mas_words.proofs.Dooms.{words_behind}
use Rattle.mas_words.proofs.Leaves.{due_hyphen, flag_case, given, leaf, with_rest}
use Rattle.mas_words.proofs.Rows.{found_none}
use Rattle.mas_words.proofs.Sorts.{is_clear}
use Rattle.mas_words.proofs.Steps.{NoDashes, at_clear, at_fault, at_or, dashes, idle_at, reads}

-- what is read of the words by way of `clap`
abbrev pub met_of : List Text → Option Words
met_of words = option_and_then (λ p. words_met p.0 p.1) (subcommand_of program_app words)

abbrev read_by_clap : List Text → Option Words
read_by_clap words = at_clear (fault_of program_app words) (met_of words)

abbrev names : Names
names = names_of built_program

-- ---- one level

module _ {X : Type 0} (f : Form) (name : Text) (take : List Row → Option X) where
  abbrev end_of : Walk → Kinds
  end_of w = or_else (settle_fault (rules f) false w.held)
      (or_else (defaults_fault (settled (rules f) w.held).rows (rules f)) (check_fault (shape f name) (finished (rules f) w.held) false))

  linked : (words : List Text) (w : Walk) → at_clear (or_else (walk_fault (shape f name) [] w words) (end_of (fold (walked (rules f) []) w words)))
      (take (finished (rules f) (fold (walked (rules f) []) w words).held)) ≡ reads f name take w words
  unfolding walk_fault reads
  linked [] w = refl
  linked (x ∷ rest) w =
      let turn = turn_fault (shape f name) [] w x in
      let next = walked (rules f) [] w x in
      let faults = walk_fault (shape f name) [] next rest in
      let end = fold (walked (rules f) []) next rest in
      at_or (or_else turn faults) (end_of end) (take (finished (rules f) end.held))
      ∙ at_or turn faults (at_clear (end_of end) (take (finished (rules f) end.held)))
      ∙ ap (at_clear turn) (sym (at_or faults (end_of end) (take (finished (rules f) end.held))) ∙ linked rest next)

leaf_reads : (k : Command) (words : List Text) → NoDashes words
    → at_clear (level_fault (shape_of_command k) [] nothing_held words false []) (words_by k (rows_after (rules (form_of k)) [] words)) ≡ words_behind k nothing words
leaf_reads k words free = linked (form_of k) (name_of k) (words_by k) words (idle_at [] None false)
    ∙ leaf k (form_of k) refl (name_of k) words free false false None None [] (found_none (form_of k))

-- ---- a command and the words behind it

stopped_clear : (words : List Text) (p : Text × List Text) (w : Walk) → walk_fault top names (record w { stopped = Some p }) words ≡ []
unfolding walk_fault walked
stopped_clear [] p w = refl
stopped_clear (x ∷ rest) p w = stopped_clear rest (p.0, p.1 ++ x ∷ []) w

abbrev start : Walk
start = walk_from nothing_held

abbrev at_command : Command → List Text → Walk
at_command k rest = record start { stopped = Some (name_of k, rest) }

abbrev below : Command → List Text → Kinds
below k rest = level_fault (shape_of_command k) [] nothing_held rest false []

abbrev rows : Command → List Text → List Row
rows k rest = rows_after (rules (form_of k)) [] rest

-- what `clap` finds, by where the walk of the program stops
module _ (k : Command) (rest : List Text) where
  abbrev level : Walk → Kinds
  level end = or_else (walk_fault top names (record start { stopped = Some (name_of k, []) }) rest)
      (or_else (entered_fault built_program end.stopped) (or_else (settle_fault [] false end.held)
      (or_else (defaults_fault (settled [] end.held).rows []) (check_fault top (finished [] end.held) (is_some (entered built_program end.stopped))))))

  abbrev met : Walk → Option Words
  met end = option_and_then (λ p. words_met p.0 p.1) (entered built_program end.stopped)

  opened : at_clear (level (fold (walked [] names) (record start { stopped = Some (name_of k, []) }) rest)) (met (fold (walked [] names) (record start { stopped = Some (name_of k, []) }) rest))
      ≡ at_clear (level (at_command k rest)) (met (at_command k rest))
  opened = ap (λ (end : Walk). at_clear (level end) (met end)) (sym (walk_stopped [] names start (name_of k) [] rest))

-- the program's command stands first
command_read : (k : Command) (rest : List Text) → NoDashes rest → read_by_clap (name_of k ∷ rest) ≡ words_behind k nothing rest
unfolding walked walk_fault defaults_fault
command_read play rest free = opened play rest
    ∙ ap (λ (fs : Kinds). at_clear (or_else fs (or_else (below play rest) [])) (words_by play (rows play rest))) (stopped_clear rest (name_of play, []) start)
    ∙ at_or (below play rest) [] (words_by play (rows play rest)) ∙ leaf_reads play rest free
command_read race rest free = opened race rest
    ∙ ap (λ (fs : Kinds). at_clear (or_else fs (or_else (below race rest) [])) (words_by race (rows race rest))) (stopped_clear rest (name_of race, []) start)
    ∙ at_or (below race rest) [] (words_by race (rows race rest)) ∙ leaf_reads race rest free
command_read format rest free = opened format rest
    ∙ ap (λ (fs : Kinds). at_clear (or_else fs (or_else (below format rest) [])) (words_by format (rows format rest))) (stopped_clear rest (name_of format, []) start)
    ∙ at_or (below format rest) [] (words_by format (rows format rest)) ∙ leaf_reads format rest free
command_read report rest free = opened report rest
    ∙ ap (λ (fs : Kinds). at_clear (or_else fs (or_else (below report rest) [])) (words_by report (rows report rest))) (stopped_clear rest (name_of report, []) start)
    ∙ at_or (below report rest) [] (words_by report (rows report rest)) ∙ leaf_reads report rest free
command_read check rest free = opened check rest
    ∙ ap (λ (fs : Kinds). at_clear (or_else fs (or_else (below check rest) [])) (words_by check (rows check rest))) (stopped_clear rest (name_of check, []) start)
    ∙ at_or (below check rest) [] (words_by check (rows check rest)) ∙ leaf_reads check rest free
command_read generate rest free = opened generate rest
    ∙ ap (λ (fs : Kinds). at_clear (or_else fs (or_else (below generate rest) [])) (words_by generate (rows generate rest))) (stopped_clear rest (name_of generate, []) start)
    ∙ at_or (below generate rest) [] (words_by generate (rows generate rest)) ∙ leaf_reads generate rest free

named : (k : Command) (rest : List Text) → words_of (name_of k ∷ rest) ≡ words_behind k nothing rest
named play rest = refl
named race rest = refl
named format rest = refl
named report rest = refl
named check rest = refl
named generate rest = refl

-- ---- no command stands first

abbrev first_fault : Text → Option Text → Kinds
first_fault x o = or_else (other_fault top o x nothing_held)
    (step_fault top 1 (subcommand_or_other [] o idle 1 x nothing_held).0 (subcommand_or_other [] o idle 1 x nothing_held).1)

stray : (x : Text) → bytes_eq x dashes ≡ false → is_clear (first_fault x None) ≡ false
unfolding flags_fault bundle_met
stray x free = go (long_of x) refl (short_of x) refl
  where
    short : (b : ℕ) (ys : Text) → long_of x ≡ None → short_of x ≡ Some (b ∷ ys) → (o : Option ℕ) → slice_get (chars (b ∷ ys)) 0 ≡ o → is_clear (first_fault x None) ≡ false
    short b ys long one None none = rw (free, long, one, none) refl
    short b ys long one (Some c) some = rw (free, long, one, some) refl

    go : (l : Option (Text × Option Text)) → long_of x ≡ l → (s : Option Text) → short_of x ≡ s → is_clear (first_fault x None) ≡ false
    go (Some p) long s is = rw (free, long) refl
    go None long None is = rw (free, long, is) refl
    go None long (Some []) is = rw (free, long, is) refl
    go None long (Some (b ∷ ys)) is = short b ys long is (slice_get (chars (b ∷ ys)) 0) refl

unmet : (x : Text) → ((k : Command) → x ≡ name_of k → ⊥) → subcommand_met names idle x ≡ None
unmet x other = rw (differs play, differs race, differs format, differs report, differs check, differs generate) refl
  where
    differs : (k : Command) → bytes_eq (name_of k) x ≡ false
    differs k = false_from_ne_true (bytes_eq (name_of k) x) (λ e. other k (sym ((bytes_eq-Decides (name_of k) x).0 e)))

no_command : (x : Text) → ((k : Command) → x ≡ name_of k → ⊥) → command_of x ≡ None
no_command x other = rw (differs play, differs race, differs format, differs report, differs check, differs generate) refl
  where
    differs : (k : Command) → bytes_eq x (name_of k) ≡ false
    differs k = false_from_ne_true (bytes_eq x (name_of k)) (λ e. other k ((bytes_eq-Decides x (name_of k)).0 e))

first_refused : (x : Text) (rest : List Text) → bytes_eq x dashes ≡ false → ((k : Command) → x ≡ name_of k → ⊥) → is_clear (turn_fault top names start x) ≡ false
first_refused x rest free other = ap (λ (o : Option Text). is_clear (first_fault x o)) (unmet x other) ∙ stray x free

other_read : (x : Text) (rest : List Text) → bytes_eq x dashes ≡ false → ((k : Command) → x ≡ name_of k → ⊥) → read_by_clap (x ∷ rest) ≡ words_of (x ∷ rest)
unfolding walk_fault
other_read x rest free other =
    at_or (or_else (turn_fault top names start x) (walk_fault top names (walked [] names start x) rest)) _ (met_of (x ∷ rest))
    ∙ at_or (turn_fault top names start x) (walk_fault top names (walked [] names start x) rest) _
    ∙ at_fault (turn_fault top names start x) _ (first_refused x rest free other)
    ∙ sym (ap (option_and_then (λ command. option_and_then (words_with command) (with_words nothing rest))) (no_command x other))

-- the command that the word is, if it is one
which : (x : Text) → ((k : Command) × (x ≡ name_of k)) ⊎ ((k : Command) → x ≡ name_of k → ⊥)
which x = go (bytes_eq x (codes "play")) refl (bytes_eq x (codes "race")) refl (bytes_eq x (codes "format")) refl
    (bytes_eq x (codes "report")) refl (bytes_eq x (codes "check")) refl (bytes_eq x (codes "generate")) refl
  where
    not_it : (k : Command) → bytes_eq x (name_of k) ≡ false → x ≡ name_of k → ⊥
    not_it k unlike e = true≢false (sym ((bytes_eq-Decides x (name_of k)).1 e) ∙ unlike)

    go : (a : Bool) → bytes_eq x (codes "play") ≡ a → (b : Bool) → bytes_eq x (codes "race") ≡ b → (c : Bool) → bytes_eq x (codes "format") ≡ c
        → (d : Bool) → bytes_eq x (codes "report") ≡ d → (e : Bool) → bytes_eq x (codes "check") ≡ e → (f : Bool) → bytes_eq x (codes "generate") ≡ f
        → ((k : Command) × (x ≡ name_of k)) ⊎ ((k : Command) → x ≡ name_of k → ⊥)
    go true h b i c j d k e l f m = inl (play, (bytes_eq-Decides x (codes "play")).0 h)
    go false h true i c j d k e l f m = inl (race, (bytes_eq-Decides x (codes "race")).0 i)
    go false h false i true j d k e l f m = inl (format, (bytes_eq-Decides x (codes "format")).0 j)
    go false h false i false j true k e l f m = inl (report, (bytes_eq-Decides x (codes "report")).0 k)
    go false h false i false j false k true l f m = inl (check, (bytes_eq-Decides x (codes "check")).0 l)
    go false h false i false j false k false l true m = inl (generate, (bytes_eq-Decides x (codes "generate")).0 m)
    go false h false i false j false k false l false m = inr (λ z. elim z as (λ z. x ≡ name_of z → ⊥) [
      | play ↦ not_it play h
      | race ↦ not_it race i
      | format ↦ not_it format j
      | report ↦ not_it report k
      | check ↦ not_it check l
      | generate ↦ not_it generate m
    ])

pub all_read : (words : List Text) → NoDashes words → read_by_clap words ≡ words_of words
unfolding walk_fault defaults_fault
all_read [] free = refl
all_read (x ∷ rest) free =
    let parts = or_parts (bytes_eq x dashes) (list_any (λ w. bytes_eq w dashes) rest) free in
    elim (which x) [
      | inl h ↦ subst (λ (z : Text). read_by_clap (z ∷ rest) ≡ words_of (z ∷ rest)) (sym h.1) (command_read h.0 rest parts.1 ∙ sym (named h.0 rest))
      | inr h ↦ other_read x rest parts.0 h
    ]

-- ---- for the code

-- a word `--`
pub with_dashes : (k : Command) (words : List Text) (g : Given) → list_any (λ w. bytes_eq w dashes) words ≡ true → words_behind k g words ≡ None
with_dashes k [] g e = absurd (true≢false (sym e))
with_dashes k (x ∷ rest) g e = elim (or_cases (bytes_eq x dashes) (list_any (λ w. bytes_eq w dashes) rest) e) [
  | inl h ↦ subst (λ (z : Text). words_behind k g (z ∷ rest) ≡ None) (sym ((bytes_eq-Decides x dashes).0 h)) (here g.cold g.dir g.number g.is_due)
  | inr h ↦ later (λ next. with_dashes k rest next h) (with_word x g)
]
  where
    here : (c : Bool) (d n : Option Text) (due : Bool) → words_behind k (given c d n due) (dashes ∷ rest) ≡ None
    here c d n true = due_hyphen k c d n (45 ∷ []) rest
    here c d n false = flag_case k c d n (45 ∷ []) rest

    later : ((next : Given) → words_behind k next rest ≡ None) → (o : Option Given) → with_rest k rest o ≡ None
    later more None = refl
    later more (Some next) = more next

pub dashes_refused : (words : List Text) → list_any (λ w. bytes_eq w dashes) words ≡ true → words_of words ≡ None
dashes_refused [] e = refl
dashes_refused (x ∷ rest) e = elim (or_cases (bytes_eq x dashes) (list_any (λ w. bytes_eq w dashes) rest) e) [
  | inl h ↦ subst (λ (z : Text). words_of (z ∷ rest) ≡ None) (sym ((bytes_eq-Decides x dashes).0 h)) refl
  | inr h ↦ go (command_of x) h
]
  where
    go : (o : Option Command) → list_any (λ w. bytes_eq w dashes) rest ≡ true → option_and_then (λ command. option_and_then (words_with command) (with_words nothing rest)) o ≡ None
    go None h = refl
    go (Some k) h = with_dashes k rest nothing h

-- where `clap` takes the words, they are the command that was met
pub ok_read : (words : List Text) → NoDashes words → fault_of program_app words ≡ [] → words_of words ≡ met_of words
ok_read words free clear = sym (all_read words free) ∙ ap (λ (fs : Kinds). at_clear fs (met_of words)) clear

-- where `clap` refuses the words, they are no command
pub err_read : (words : List Text) → NoDashes words → (e : ErrorKind) → IsAmong e (fault_of program_app words) → words_of words ≡ None
err_read words free e among = sym (all_read words free) ∙ go (fault_of program_app words) among
  where
    go : (fs : Kinds) → IsAmong e fs → at_clear fs (met_of words) ≡ None
    go [] h = elim h [ ]
    go (f ∷ fs) h = refl
