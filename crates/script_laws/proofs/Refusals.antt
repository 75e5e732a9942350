-- The least line that is refused is the first with which no script may begin.
use Rattle.std.proofs.Common.{◌≡◌, ◌∙◌, sym, ap, subst, inl, inr, ℕ, ◌+◌, ◌-◌, ◌⊎◌, Bool, true, false, not, ◌&&◌, ◌||◌, if◌then◌else◌, List, [], ◌∷◌, ◌++◌, length, take, codes, Option, Some, None, Result, Ok, Err, refl, append_assoc, length-append, arith}
use Rattle.std.specs.List.{list_any}
use Rattle.std.proofs.lemmas.Bool.{or_right}
use Rattle.std.proofs.lemmas.List.{take_at}
use Rattle.mas_types.specs.declared.answers.LineCause.{LineCause}
use Rattle.mas_types.specs.declared.answers.LineCause.TheVariants as cause
use Rattle.mas_types.specs.declared.ids.MemberId.{MemberId}
use Rattle.operator_cmds.specs.Laws.{ComputesCommands}
use Rattle.script_lang.specs.declared.config.Setup.{Setup}
use Rattle.script_lang.specs.declared.script.OpenDeck.{OpenDeck}
use Rattle.script_lang.specs.declared.script.State.{State}
use Rattle.script_lang.specs.declared.types.Ask.{Ask}
use Rattle.script_lang.specs.declared.types.Ask.TheVariants as ask
use Rattle.script_lang.specs.declared.types.Run.{Run}
use Rattle.script_lang.specs.declared.types.Script.{Script}
use Rattle.script_lang.specs.declared.types.ScriptNo.TheVariants as no
use Rattle.script_lang.specs.declared.types.Step.{Step}
use Rattle.script_lang.specs.Asks.{step_of}
use Rattle.script_lang.specs.Config.{configured}
use Rattle.script_lang.specs.Lines.{has_word, is_deck_end, is_empty, is_line, words_of}
use Rattle.script_lang.specs.Script.{Next, Said, has_room, with_step, with_deck, if_room, is_deck, with_setup, next_config, next_deck, next_asked, next_step, next_outside, next_card, closed, next_in, next, and_then, said_from}
use Rattle.script_laws.specs.Grammar.{step_of_member}
use Rattle.script_laws.specs.Refused.{IsCutOff, IsFirstOutside, MayBegin}
use Rattle.script_laws.specs.Whole.{has_words, IsStepLine}
use Rattle.script_laws.proofs.NoEnd.{IsNoEnd, if_none, one_none, step_none}
use Rattle.script_laws.proofs.ScriptFits.{script_from, start_within}
use Rattle.script_laws.proofs.ScriptReads.{first_state, line_deck, script_read, step_line, words_there}
use Rattle.script_laws.proofs.ScriptSays.{script_said}

-- WHAT OF A LINE DEPENDS ON THE LINES BEHIND IT

by_bool : (b : Bool) (P : Type 0) → (b ≡ true → P) → (b ≡ false → P) → P
by_bool true P left right = left refl
by_bool false P left right = right refl

if_yes : (b : Bool) (one other : Next) → b ≡ true → (if b then one else other) ≡ one
if_yes true one other is = refl
if_yes false one other is = absurd (cc)

if_no : (b : Bool) (one other : Next) → b ≡ false → (if b then one else other) ≡ other
if_no true one other is = absurd (cc)
if_no false one other is = refl

-- only a DECK line asks whether a line behind it ends a deck
data Depends (run : Run) (s : State) (line : List ℕ) : Type 0 where
  Not_at_all : (r : Next) → IsNoEnd r → ((ends : Bool) → next run s ends line ≡ r) → Depends run s line
  By_its_deck : (step : Step) → has_words line ≡ true → step_of run (words_of line) ≡ Ok step → is_deck step.what ≡ true → ((ends : Bool) → next run s ends line ≡ next_deck (closed s) ends step.by) → Depends run s line

room_none : (s t : State) → IsNoEnd (if_room s t)
room_none s t = if_none (has_room s) _ _ (one_none t) (λ e. absurd (cc))

setup_none : (s : State) (o : Option Setup) → IsNoEnd (with_setup s o)
setup_none s None e = absurd (cc)
setup_none s (Some setup) e = absurd (cc)

config_none : (run : Run) (s : State) (words : List (List ℕ)) → IsNoEnd (next_config run s words)
config_none run s words = if_none s.seen _ _ (λ e. absurd (cc)) (if_none (not run.cold && not run.only) _ _ (λ e. absurd (cc)) (setup_none s (configured words)))

card_none : (s : State) (deck : OpenDeck) (line : List ℕ) → IsNoEnd (next_card s deck line)
card_none s deck line = if_none (is_deck_end line) _ _ (one_none _) (if_none (is_line line) _ _ (one_none _) (λ e. absurd (cc)))

refused_none : (run : Run) (words : List (List ℕ)) (why : LineCause) → step_of run words ≡ Err why → IsNoEnd {A = State} (Err why)
refused_none run words why is e =
    let same : why ≡ cause.End = cc in
    step_none run words (is ∙ ap (λ (w : LineCause). let x : Result Step LineCause = Err w in x) same)

asked_depends : (run : Run) (s : State) (line : List ℕ) (step : Step) → has_words line ≡ true → step_of run (words_of line) ≡ Ok step → ((ends : Bool) → next run s ends line ≡ next_asked (closed s) ends step) → Depends run s line
asked_depends run s line step text is all =
    by_bool (is_deck step.what) (Depends run s line)
    (λ deck. By_its_deck step text is deck (λ ends. all ends ∙ if_yes (is_deck step.what) _ _ deck))
    (λ other. Not_at_all (if_room (closed s) (with_step (closed s) step.by step.what)) (room_none (closed s) (with_step (closed s) step.by step.what)) (λ ends. all ends ∙ if_no (is_deck step.what) _ _ other))

step_depends : (run : Run) (s : State) (line : List ℕ) (r : Result Step LineCause) → has_words line ≡ true → step_of run (words_of line) ≡ r → ((ends : Bool) → next run s ends line ≡ next_step (closed s) ends r) → Depends run s line
step_depends run s line (Err why) text is all = Not_at_all (Err why) (refused_none run (words_of line) why is) all
step_depends run s line (Ok step) text is all = asked_depends run s line step text is all

outside_depends : (run : Run) (s : State) (line : List ℕ) → ((ends : Bool) → next run s ends line ≡ next_outside run (closed s) ends line) → Depends run s line
outside_depends run s line all =
    by_bool (not (is_line line)) (Depends run s line)
    (λ text. Not_at_all (Err cause.Text) (λ e. absurd (cc)) (λ ends. all ends ∙ if_yes (not (is_line line)) _ _ text))
    (λ text. by_bool (is_empty line) (Depends run s line)
    (λ empty. Not_at_all (Ok (closed s)) (one_none (closed s)) (λ ends. all ends ∙ if_no (not (is_line line)) _ _ text ∙ if_yes (is_empty line) _ _ empty))
    (λ some. by_bool (has_word (words_of line) 0 (codes "CONFIG")) (Depends run s line)
    (λ config. Not_at_all (next_config run (closed s) (words_of line)) (config_none run (closed s) (words_of line)) (λ ends. all ends ∙ if_no (not (is_line line)) _ _ text ∙ if_no (is_empty line) _ _ some ∙ if_yes (has_word (words_of line) 0 (codes "CONFIG")) _ _ config))
    (λ config. step_depends run s line (step_of run (words_of line)) (words_there line text some) refl (λ ends. all ends ∙ if_no (not (is_line line)) _ _ text ∙ if_no (is_empty line) _ _ some ∙ if_no (has_word (words_of line) 0 (codes "CONFIG")) _ _ config))))

deck_depends : (run : Run) (s : State) (line : List ℕ) (deck : Option OpenDeck) → ((ends : Bool) → next run s ends line ≡ next_in run (closed s) deck ends line) → Depends run s line
deck_depends run s line None all = outside_depends run s line all
deck_depends run s line (Some deck) all = Not_at_all (next_card (closed s) deck line) (card_none (closed s) deck line) all

depends : (run : Run) (s : State) (line : List ℕ) → Depends run s line
depends run s line = deck_depends run s line s.deck (λ ends. refl)

-- THE STATE BEHIND A LINE

-- an open deck has its end in these lines
abbrev EndIn : State → List (List ℕ) → Type 0
EndIn t lines = (d : OpenDeck) → t.deck ≡ Some d → list_any is_deck_end lines ≡ true

not_both : (why : LineCause) (t : State) (P : Type 0) → ◌≡◌ {A = Next} (Err why) (Ok t) → P
not_both why t P e = absurd (cc)

same_ok : (t u : State) → ◌≡◌ {A = Next} (Ok t) (Ok u) → t ≡ u
same_ok t u e = cc

same_err : (why other : LineCause) → ◌≡◌ {A = Next} (Err why) (Err other) → why ≡ other
same_err why other e = cc

-- where a DECK line is taken, its deck is open, and its end was there
deck_taken : (s t : State) (ends : Bool) (m : MemberId) → next_deck s ends m ≡ Ok t → (ends ≡ true) × (has_room s ≡ true) × (t ≡ with_deck s m [])
deck_taken s t ends m e = by_ends ends (has_room s) e
  where
    by_ends : (v room : Bool) → (if v then (if room then Ok (with_deck s m []) else Err cause.Steps) else Err cause.End) ≡ Ok t → (v ≡ true) × (room ≡ true) × (t ≡ with_deck s m [])
    by_ends true true e = (refl, refl, sym (same_ok (with_deck s m []) t e))
    by_ends true false e = not_both cause.Steps t ((true ≡ true) × (false ≡ true) × (t ≡ with_deck s m [])) e
    by_ends false room e = not_both cause.End t ((false ≡ true) × (room ≡ true) × (t ≡ with_deck s m [])) e

deck_begun : (s : State) (ends : Bool) (m : MemberId) → ends ≡ true → has_room s ≡ true → next_deck s ends m ≡ Ok (with_deck s m [])
deck_begun s ends m there room = if_yes ends _ _ there ∙ if_yes (has_room s) _ _ room

-- a line that is taken is taken before any other lines, where they have the end of the deck that is open behind it
goes_on : (run : Run) (s t : State) (line : List ℕ) (ends other : Bool) → Depends run s line → ((d : OpenDeck) → t.deck ≡ Some d → other ≡ true) → next run s ends line ≡ Ok t → next run s other line ≡ Ok t
goes_on run s t line ends other (Not_at_all r none all) opened e = all other ∙ sym (all ends) ∙ e
goes_on run s t line ends other (By_its_deck step text is deck all) opened e =
    let taken = deck_taken (closed s) t ends step.by (sym (all ends) ∙ e) in
    let there : other ≡ true = opened (record { by = step.by; cards = [] }) (ap (λ (u : State). u.deck) taken.2) in
    all other ∙ deck_begun (closed s) other step.by there taken.1 ∙ ap (λ (u : State). let x : Next = Ok u in x) (sym taken.2)

-- a line that is taken before any lines leaves the same state before any others
same_behind : (run : Run) (s t u : State) (line : List ℕ) (ends other : Bool) → Depends run s line → next run s ends line ≡ Ok t → next run s other line ≡ Ok u → t ≡ u
same_behind run s t u line ends other (Not_at_all r none all) e f = same_ok t u (sym e ∙ all ends ∙ sym (all other) ∙ f)
same_behind run s t u line ends other (By_its_deck step text is deck all) e f =
    (deck_taken (closed s) t ends step.by (sym (all ends) ∙ e)).2 ∙ sym (deck_taken (closed s) u other step.by (sym (all other) ∙ f)).2

-- a line that is refused by another cause than End is taken before no lines
still_refused : (run : Run) (s u : State) (line : List ℕ) (ends other : Bool) (why : LineCause) → Depends run s line → (why ≡ cause.End → ⊥) → next run s ends line ≡ Err why → next run s other line ≡ Ok u → ⊥
still_refused run s u line ends other why (Not_at_all r none all) not_end e f = not_both why u ⊥ (sym e ∙ all ends ∙ sym (all other) ∙ f)
still_refused run s u line ends other why (By_its_deck step text is deck all) not_end e f =
    let taken = deck_taken (closed s) u other step.by (sym (all other) ∙ f) in
    by_bool ends ⊥
    (λ there. not_both why (with_deck (closed s) step.by []) ⊥ (sym e ∙ all ends ∙ deck_begun (closed s) ends step.by there taken.1))
    (λ none. not_end (same_err why cause.End (sym e ∙ all ends ∙ if_no ends _ _ none)))

-- SOME LINES

abbrev then_take : (State → Next) → Next → Next
then_take f (Ok t) = f t
then_take f (Err why) = Err why

-- what is said behind some lines, before others
abbrev after : Run → State → List (List ℕ) → List (List ℕ) → Next
after run s [] rest = Ok s
after run s (line ∷ front) rest = then_take (λ t. after run t front rest) (next run s (list_any is_deck_end (front ++ rest)) line)

taken_first : (f : State → Next) (r : Next) (t : State) (P : Type 0) → ((u : State) → r ≡ Ok u → f u ≡ Ok t → P) → then_take f r ≡ Ok t → P
taken_first f (Ok u) t P h e = h u refl e
taken_first f (Err why) t P h e = not_both why t P e

-- the deck is still open after a card
card_open : (run : Run) (s u : State) (d : OpenDeck) (line : List ℕ) (ends : Bool) → s.deck ≡ Some d → is_deck_end line ≡ false → next run s ends line ≡ Ok u → (c : OpenDeck) × (u.deck ≡ Some c)
card_open run s u d line ends opened other e =
    let card : next_card (closed s) d line ≡ Ok u = sym (ap (λ (o : Option OpenDeck). next_in run (closed s) o ends line) opened) ∙ e in
    let text : (if is_line line then Ok (with_deck (closed s) d.by (d.cards ++ line ∷ [])) else Err cause.Text) ≡ Ok u = sym (if_no (is_deck_end line) _ _ other) ∙ card in
    by_bool (is_line line) ((c : OpenDeck) × (u.deck ≡ Some c))
    (λ is. (record { by = d.by; cards = d.cards ++ line ∷ [] }, ap (λ (x : State). x.deck) (same_ok u (with_deck (closed s) d.by (d.cards ++ line ∷ [])) (sym text ∙ if_yes (is_line line) _ _ is))))
    (λ is. not_both cause.Text u ((c : OpenDeck) × (u.deck ≡ Some c)) (sym (if_no (is_line line) _ _ is) ∙ text))

-- a deck that is open before some lines has its end in them, or in those behind them
open_ends : (run : Run) (s t : State) (front rest behind : List (List ℕ)) → after run s front rest ≡ Ok t → (d : OpenDeck) → s.deck ≡ Some d → EndIn t behind → list_any is_deck_end (front ++ behind) ≡ true
open_ends run s t [] rest behind e d opened ends = ends d (ap (λ (u : State). u.deck) (sym (same_ok s t e)) ∙ opened)
open_ends run s t (line ∷ front) rest behind e d opened ends =
    taken_first (λ u. after run u front rest) (next run s (list_any is_deck_end (front ++ rest)) line) t ((is_deck_end line || list_any is_deck_end (front ++ behind)) ≡ true)
    (λ u h more. by_bool (is_deck_end line) ((is_deck_end line || list_any is_deck_end (front ++ behind)) ≡ true)
    (λ is. rw is refl)
    (λ other. let still = card_open run s u d line (list_any is_deck_end (front ++ rest)) opened other h in
    or_right (is_deck_end line) (list_any is_deck_end (front ++ behind)) (open_ends run u t front rest behind more still.0 still.1 ends))) e

-- lines that are taken are taken before any others that have the end of the deck that is open behind them
goes_far : (run : Run) (s t : State) (front rest behind : List (List ℕ)) → after run s front rest ≡ Ok t → EndIn t behind → after run s front behind ≡ Ok t
goes_far run s t [] rest behind e ends = e
goes_far run s t (line ∷ front) rest behind e ends =
    taken_first (λ u. after run u front rest) (next run s (list_any is_deck_end (front ++ rest)) line) t (after run s (line ∷ front) behind ≡ Ok t)
    (λ u h more.
    ap (then_take (λ v. after run v front behind)) (goes_on run s u line (list_any is_deck_end (front ++ rest)) (list_any is_deck_end (front ++ behind)) (depends run s line) (λ d opened. open_ends run u t front rest behind more d opened ends) h)
    ∙ goes_far run u t front rest behind more ends) e

-- lines that are taken before any lines leave the same state before any others
same_after : (run : Run) (s t u : State) (front rest behind : List (List ℕ)) → after run s front rest ≡ Ok t → after run s front behind ≡ Ok u → t ≡ u
same_after run s t u [] rest behind e f = same_ok t u (sym e ∙ f)
same_after run s t u (line ∷ front) rest behind e f =
    taken_first (λ v. after run v front rest) (next run s (list_any is_deck_end (front ++ rest)) line) t (t ≡ u)
    (λ v h more. taken_first (λ w. after run w front behind) (next run s (list_any is_deck_end (front ++ behind)) line) u (t ≡ u)
    (λ w i also.
    let same : v ≡ w = same_behind run s v w line (list_any is_deck_end (front ++ rest)) (list_any is_deck_end (front ++ behind)) (depends run s line) h i in
    same_after run v t u front rest behind more (ap (λ (x : State). after run x front behind) same ∙ also)) f) e

-- WHAT THEY SAY

said_after : (run : Run) (number : ℕ) (s t : State) (front rest : List (List ℕ)) → after run s front rest ≡ Ok t → (k : ℕ) × (said_from run number s (front ++ rest) ≡ said_from run k t rest)
said_after run number s t [] rest e = (number, ap (λ (u : State). said_from run number u rest) (same_ok s t e))
said_after run number s t (line ∷ front) rest e =
    taken_first (λ u. after run u front rest) (next run s (list_any is_deck_end (front ++ rest)) line) t ((k : ℕ) × (said_from run number s (line ∷ front ++ rest) ≡ said_from run k t rest))
    (λ u h more. let behind = said_after run (number + 1) u t front rest more in
    (behind.0, ap (and_then number (λ v. said_from run (number + 1) v (front ++ rest))) h ∙ behind.1)) e

said_more : (number : ℕ) (more : State → Said) (r : Next) (script : Script) (P : Type 0) → ((t : State) → r ≡ Ok t → more t ≡ Ok script → P) → and_then number more r ≡ Ok script → P
said_more number more (Ok t) script P h e = h t refl e
said_more number more (Err why) script P h e = absurd (cc)

taken_said : (run : Run) (number : ℕ) (s : State) (front rest : List (List ℕ)) (script : Script) → said_from run number s (front ++ rest) ≡ Ok script → (t : State) × (k : ℕ) × (after run s front rest ≡ Ok t) × (said_from run k t rest ≡ Ok script)
taken_said run number s [] rest script e = (s, number, refl, e)
taken_said run number s (line ∷ front) rest script e =
    said_more number (λ t. said_from run (number + 1) t (front ++ rest)) (next run s (list_any is_deck_end (front ++ rest)) line) script ((t : State) × (k : ℕ) × (after run s (line ∷ front) rest ≡ Ok t) × (said_from run k t rest ≡ Ok script))
    (λ t h more. let behind = taken_said run (number + 1) t front rest script more in
    (behind.0, behind.1, ap (then_take (λ v. after run v front rest)) h ∙ behind.2, behind.3)) e

-- THE LINE THAT IS REFUSED

record RefusedAt (run : Run) (s : State) (lines : List (List ℕ)) (from number : ℕ) (why : LineCause) : Type 0 where
  front : List (List ℕ)
  line : List ℕ
  rest : List (List ℕ)
  t : State
  whole : lines ≡ front ++ line ∷ rest
  numbered : number ≡ from + length front
  taken : after run s front (line ∷ rest) ≡ Ok t
  is : next run t (list_any is_deck_end rest) line ≡ Err why

first_refused : (run : Run) (from number : ℕ) (s : State) (line : List ℕ) (lines : List (List ℕ)) (why : LineCause) (r : Next) → next run s (list_any is_deck_end lines) line ≡ r → ((t : State) → said_from run (from + 1) t lines ≡ Err (no.BadLine number why) → RefusedAt run t lines (from + 1) number why) → and_then from (λ t. said_from run (from + 1) t lines) r ≡ Err (no.BadLine number why) → RefusedAt run s (line ∷ lines) from number why
first_refused run from number s line lines why (Err other) is more e =
    let place : from ≡ number = cc in
    let same : other ≡ why = cc in
    record { front = []; line = line; rest = lines; t = s; whole = refl; numbered = omega arith; taken = refl; is = is ∙ ap (λ (w : LineCause). let x : Next = Err w in x) same }
first_refused run from number s line lines why (Ok t) is more e =
    let behind = more t e in
    record {
      front = line ∷ behind.front;
      line = behind.line;
      rest = behind.rest;
      t = behind.t;
      whole = ap (λ (ls : List (List ℕ)). line ∷ ls) behind.whole;
      numbered = omega (arith, behind.numbered);
      taken = ap (then_take (λ u. after run u behind.front (behind.line ∷ behind.rest))) (subst (λ (ls : List (List ℕ)). next run s (list_any is_deck_end ls) line ≡ Ok t) behind.whole is) ∙ behind.taken;
      is = behind.is;
    }

refused_at : (run : Run) (from number : ℕ) (s : State) (lines : List (List ℕ)) (why : LineCause) → said_from run from s lines ≡ Err (no.BadLine number why) → RefusedAt run s lines from number why
refused_at run from number s [] why e = absurd (cc)
refused_at run from number s (line ∷ lines) why e = first_refused run from number s line lines why (next run s (list_any is_deck_end lines) line) refl (λ t h. refused_at run (from + 1) number t lines why h) e

-- WITH WHICH LINES A SCRIPT MAY BEGIN

-- lines that close what is open, and the script that is then said
record Closes (run : Run) (t : State) : Type 0 where
  rest : List (List ℕ)
  ends : EndIn t rest
  script : Script
  says : (k : ℕ) → said_from run k t rest ≡ Ok script

closes_by : (run : Run) (t : State) (o : Option OpenDeck) → t.deck ≡ o → Closes run t
closes_by run t None is = record { rest = []; ends = λ d opened. absurd (cc); script = t.script; says = λ k. refl }
closes_by run t (Some d) is = record {
  rest = codes "++END" ∷ [];
  ends = λ c opened. refl;
  script = (with_step (closed t) d.by (ask.Deck d.cards)).script;
  says = λ k. ap (λ (o : Option OpenDeck). and_then k (λ u. said_from run (k + 1) u []) (next_in run (closed t) o false (codes "++END"))) is;
}

may_begin : (computes : ComputesCommands) (run : Run) (front rest : List (List ℕ)) (t : State) → after run first_state front rest ≡ Ok t → MayBegin run front
may_begin computes run front rest t e =
    let close = closes_by run t t.deck refl in
    let far = said_after run 1 first_state t front close.rest (goes_far run first_state t front rest close.rest e close.ends) in
    let said : said_from run 1 first_state (front ++ close.rest) ≡ Ok close.script = far.1 ∙ close.says far.0 in
    record {
      rest = close.rest;
      script = close.script;
      is = script_read computes run 1 (front ++ close.rest) close.script said;
      short = (script_from computes run 1 first_state (front ++ close.rest) close.script start_within said).short;
    }

never_begins : (computes : ComputesCommands) (run : Run) (front rest : List (List ℕ)) (line : List ℕ) (t : State) (why : LineCause) → (why ≡ cause.End → ⊥) → after run first_state front (line ∷ rest) ≡ Ok t → next run t (list_any is_deck_end rest) line ≡ Err why → MayBegin run (front ++ line ∷ []) → ⊥
never_begins computes run front rest line t why not_end taken is b =
    let whole : (front ++ line ∷ []) ++ b.rest ≡ front ++ line ∷ b.rest = append_assoc front (line ∷ []) b.rest in
    let said : said_from run 1 first_state (front ++ line ∷ b.rest) ≡ Ok b.script = subst (λ (ls : List (List ℕ)). said_from run 1 first_state ls ≡ Ok b.script) whole (script_said computes run 1 ((front ++ line ∷ []) ++ b.rest) b.script b.is b.short) in
    let found = taken_said run 1 first_state front (line ∷ b.rest) b.script said in
    let same : t ≡ found.0 = same_after run first_state t found.0 front (line ∷ rest) (line ∷ b.rest) taken found.2 in
    said_more found.1 (λ u. said_from run (found.1 + 1) u b.rest) (next run found.0 (list_any is_deck_end b.rest) line) b.script ⊥
    (λ u h more. still_refused run t u line (list_any is_deck_end rest) (list_any is_deck_end b.rest) why (depends run t line) not_end is (ap (λ (v : State). next run v (list_any is_deck_end b.rest) line) same ∙ h)) found.3

is_end : (why : LineCause) → (why ≡ cause.End) ⊎ (why ≡ cause.End → ⊥)
is_end cause.Text = inr (λ e. absurd (cc))
is_end cause.Late = inr (λ e. absurd (cc))
is_end cause.Warm = inr (λ e. absurd (cc))
is_end cause.Config = inr (λ e. absurd (cc))
is_end cause.Only = inr (λ e. absurd (cc))
is_end cause.Member = inr (λ e. absurd (cc))
is_end cause.Race = inr (λ e. absurd (cc))
is_end cause.Verb = inr (λ e. absurd (cc))
is_end cause.Number = inr (λ e. absurd (cc))
is_end cause.Command = inr (λ e. absurd (cc))
is_end cause.End = inl refl
is_end cause.Steps = inr (λ e. absurd (cc))
is_end cause.NotBuilt = inr (λ e. absurd (cc))

first_outside : (computes : ComputesCommands) (run : Run) (lines : List (List ℕ)) (number : ℕ) (why : LineCause) → (why ≡ cause.End → ⊥) → RefusedAt run first_state lines 1 number why → IsFirstOutside run lines number
first_outside computes run lines number why not_end r =
    let place : number ≡ 1 + length r.front = r.numbered in
    let whole : lines ≡ (r.front ++ r.line ∷ []) ++ r.rest = r.whole ∙ sym (append_assoc r.front (r.line ∷ []) r.rest) in
    let count : length (r.front ++ r.line ∷ []) ≡ number = omega (arith, length-append r.front (r.line ∷ [])) in
    let all : length lines ≡ length (r.front ++ r.line ∷ r.rest) = ap length r.whole in
    let fewer : take (number - 1) lines ≡ r.front = ap (take (number - 1)) r.whole ∙ take_at r.front (r.line ∷ r.rest) (number - 1) (omega arith) in
    let first : take number lines ≡ r.front ++ r.line ∷ [] = ap (take number) whole ∙ take_at (r.front ++ r.line ∷ []) r.rest number count in
    record {
      numbered = omega arith;
      within = omega (arith, length-append r.front (r.line ∷ r.rest));
      before = subst (MayBegin run) (sym fewer) (may_begin computes run r.front (r.line ∷ r.rest) r.t r.taken);
      outside = λ b. never_begins computes run r.front r.rest r.line r.t why not_end r.taken r.is (subst (MayBegin run) first b);
    }

-- a line that is refused by End is a DECK line whose deck has no end
deck_cut_off : (computes : ComputesCommands) (run : Run) (t : State) (line : List ℕ) (ends : Bool) → Depends run t line → next run t ends line ≡ Err cause.End → (m : MemberId) × IsStepLine run line (step_of_member m (ask.Deck [])) × (ends ≡ false)
deck_cut_off computes run t line ends (Not_at_all r none all) e = absurd (none (sym (all ends) ∙ e))
deck_cut_off computes run t line ends (By_its_deck step text is deck all) e =
    let line_is = step_line computes run line step text is in
    let empty : step ≡ step_of_member step.by (ask.Deck []) = ap (λ (a : Ask). step_of_member step.by a) (line_deck (words_of line) step line_is.words deck) in
    by_bool ends ((m : MemberId) × IsStepLine run line (step_of_member m (ask.Deck [])) × (ends ≡ false))
    (λ there. absurd (room_none (closed t) (with_deck (closed t) step.by []) (sym (if_yes ends _ _ there) ∙ sym (all ends) ∙ e)))
    (λ no_end. (step.by, subst (IsStepLine run line) empty line_is, no_end))

cut_off : (computes : ComputesCommands) (run : Run) (lines : List (List ℕ)) (number : ℕ) → RefusedAt run first_state lines 1 number cause.End → IsCutOff run lines number
cut_off computes run lines number r =
    let deck = deck_cut_off computes run r.t r.line (list_any is_deck_end r.rest) (depends run r.t r.line) r.is in
    record {
      front = r.front;
      deck = r.line;
      rest = r.rest;
      m = deck.0;
      whole = r.whole;
      numbered = omega (arith, r.numbered);
      before = may_begin computes run r.front (r.line ∷ r.rest) r.t r.taken;
      is = deck.1;
      no_end = deck.2;
    }

pub refused_first : (computes : ComputesCommands) (run : Run) (lines : List (List ℕ)) (number : ℕ) (why : LineCause) → said_from run 1 first_state lines ≡ Err (no.BadLine number why) → ((why ≡ cause.End) × IsCutOff run lines number) ⊎ IsFirstOutside run lines number
refused_first computes run lines number why e = by_cause (is_end why)
  where
    by_cause : (why ≡ cause.End) ⊎ (why ≡ cause.End → ⊥) → ((why ≡ cause.End) × IsCutOff run lines number) ⊎ IsFirstOutside run lines number
    by_cause (inl is) = inl (is, cut_off computes run lines number (refused_at run 1 number first_state lines cause.End (e ∙ ap (λ (w : LineCause). let x : Said = Err (no.BadLine number w) in x) is)))
    by_cause (inr other) = inr (first_outside computes run lines number why other (refused_at run 1 number first_state lines why e))
