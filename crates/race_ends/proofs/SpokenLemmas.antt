-- Lines of members that are none: no member's, and they tell no member's step.
use Rattle.std.proofs.Common.{◌≡◌, ◌∙◌, ◌+◌, ◌<◌, ◌≤◌, ◌==◌, ◌&&◌, nat_le, nat_lt, ℕ, Bool, true, false, if◌then◌else◌, List, [], ◌∷◌, ◌++◌, length, map, filter, drop, refl, sym, ap, arith}
use Rattle.std.proofs.lemmas.Bool.{and_parts as both, ne_eqb}
use Rattle.std.proofs.lemmas.Bool.Decides.{nat_tests}
use Rattle.std.proofs.lemmas.List.{drop_at}
use Rattle.mas_types.specs.declared.ids.MemberId.{MemberId}
use Rattle.mas_types.specs.Closings.{closing_line}
use Rattle.script_lang.specs.declared.types.Step.{Step}
use Rattle.spool_plant.specs.View.{Line, View}
use Rattle.mas_complex.specs.Headline.{whole}
use Rattle.gate_turns.specs.Actors.{named_among}
use Rattle.gate_turns.specs.Shared.{said_since}
use Rattle.gate_turns.specs.Words.{lines_by, speaker}
use Rattle.gate_turns.proofs.Actors.{lines_named}
use Rattle.member_node.specs.Calls.{console_now}
use Rattle.run_turns.specs.Admissions.{no_member}
use Rattle.run_opening.specs.Lines.{Proceeds}
use Rattle.race_ends.specs.Before.{if_refused, is_refused, refused_lines}

-- the texts of whole lines
pub whole_again : (texts : List (List ℕ)) → map (λ (l : Line). l.text) (filter (λ (l : Line). l.whole) (map whole texts)) ≡ texts
whole_again [] = refl
whole_again (text ∷ texts) = ap (λ (ts : List (List ℕ)). text ∷ ts) (whole_again texts)

-- a line that names no member of so many is of none of them
module _ (members : ℕ) (m : ℕ) (some : 0 < m) where
  named_none : (by : MemberId) → members < by.0 → named_among members by ≡ 0
  named_none by out =
      let above : nat_le by.0 members ≡ false = grind (arith, nat_tests, out) in
      by_first (nat_le 1 by.0) (nat_le by.0 members) above where
        by_first : (a b : Bool) → b ≡ false → (if a && b then by.0 else 0) ≡ 0
        by_first true true is = absurd (cc)
        by_first true false is = refl
        by_first false b is = refl

  not_its : (by : MemberId) (at : ℕ) → members < by.0 → (speaker members (closing_line by at no_member) == m) ≡ false
  not_its by at out =
      ap (λ (k : ℕ). k == m) ((lines_named members by at).0 no_member ∙ named_none by out) ∙ ne_eqb 0 m (λ e. absurd (omega (arith, e, some)))

  one_refused : (b : Bool) (by : MemberId) (at : ℕ) (more : List (List ℕ)) → (b ≡ true → members < by.0) → lines_by members m more ≡ []
      → lines_by members m (if_refused b (closing_line by at no_member) more) ≡ []
  one_refused true by at more out none =
      ap (λ (t : Bool). if t then closing_line by at no_member ∷ lines_by members m more else lines_by members m more) (not_its by at (out refl)) ∙ none
  one_refused false by at more out none = none

  pub refused_none : (at : ℕ) (steps : List Step) → lines_by members m (refused_lines members at steps) ≡ []
  refused_none at [] = refl
  refused_none at (s ∷ steps) =
      one_refused (is_refused members s) s.by at (refused_lines members (at + 1) steps)
      (λ is. let above : nat_lt members s.by.0 ≡ true = (both _ (nat_lt members s.by.0) is).1 in grind (arith, nat_tests)) (refused_none (at + 1) steps)

-- what was said since a moment, if at first nothing was
pub said_then : (since : ℕ) (old new : View) (texts : List (List ℕ)) → since ≤ old.now → Proceeds old new
    → (old.world since).console ≡ console_now old → console_now new ≡ console_now old ++ map whole texts
    → said_since since new ≡ texts
said_then since old new texts begun goes none said =
    let before : length (new.world since).console ≡ length (console_now old) = ap (λ w. length w.console) (goes.past since begun) ∙ ap length none in
    ap (λ (ls : List Line). map (λ (l : Line). l.text) (filter (λ (l : Line). l.whole) ls))
    (ap (λ (ls : List Line). drop (length (new.world since).console) ls) said
    ∙ drop_at (console_now old) (map whole texts) (length (new.world since).console) (sym before))
    ∙ whole_again texts
