-- What holds of however a sitting goes.
use Rattle.std.proofs.Common.{◌≡◌, ◌≢◌, ℕ, ◌+◌, ◌≤◌, Bool, true, false, List, [], ◌∷◌, ◌++◌, length, refl, ap, ◌∙◌, arith}
use Rattle.std.proofs.lemmas.List.{length-append}
use Rattle.mas_types.specs.declared.commands.Command.{Command}
use Rattle.mas_types.specs.declared.journals.Entry.{Entry}
use Rattle.mas_types.specs.declared.queues.Queue.{Queue}
use Rattle.mas_types.specs.Run.{run}
use Rattle.step_turns.specs.Courses.{sittings_most}
use Rattle.step_turns.specs.Entries.{all_entries, given_in}
use Rattle.step_turns.specs.Laws.{AsMany, units_done, units_left}
use Rattle.step_turns.specs.States.{ForStep, Holder, Progress, Rested, Told}
use Rattle.step_turns.specs.Turns.{Turn}
use Rattle.step_turns.proofs.Cutting.{AreOnes, AreSmall, AreSome}
use Rattle.step_turns.proofs.Given.{given_append, given_length}
use Rattle.step_turns.proofs.Served.{Served}
use Rattle.step_turns.proofs.Shapes.{Begins, Goes, bare, closes_here, first, plays, rests, taken, waits}

-- what holds of a turn of units one after another
record Went (h : Holder) (most : ℕ) (Q : Queue) (given left done : ℕ) (t : Turn) : Type 0 where
  said : t.next ≡ Told → 1 ≤ length t.lines
  silent : t.next ≢ Told → t.lines ≡ []
  within : sittings_most t.next ≤ most
  few : length t.parts ≤ left
  same : t.next ≢ Told → units_done t.next + units_left t.next ≡ done + left
  grows : t.next ≢ Told → done ≤ units_done t.next
  rest : (p : Progress) → t.next ≡ Rested p → (h.grant ≡ ForStep) × (h.hold ≤ given + length (all_entries t.parts))
  commands : List Command
  gave : all_entries t.parts ≡ given_in Q h.by h.step commands
  ones : AreOnes t.parts

went : (h : Holder) (most : ℕ) (Q : Queue) (given left done : ℕ) (t : Turn) → Goes h most Q given left done t → Went h most Q given left done t
went h most _ _ _ _ _ (closes_here Q given left done lines some) = record {
  said = λ _. some;
  silent = λ ne. absurd (ne refl);
  within = omega arith;
  few = omega arith;
  same = λ ne. absurd (ne refl);
  grows = λ ne. absurd (ne refl);
  rest = λ p e. absurd (cc);
  commands = [];
  gave = refl;
  ones = tt;
}
went h most _ _ _ _ _ (waits Q given left done a units is_done le) = record {
  said = λ e. absurd (cc);
  silent = λ _. refl;
  within = le;
  few = omega arith;
  same = λ _. omega (arith, units, is_done);
  grows = λ _. omega (arith, is_done);
  rest = λ p e. absurd (cc);
  commands = [];
  gave = refl;
  ones = tt;
}
went h most _ _ _ _ _ (rests Q given left done p for_step spent units is_done le) = record {
  said = λ e. absurd (cc);
  silent = λ _. refl;
  within = le;
  few = omega arith;
  same = λ _. omega (arith, units, is_done);
  grows = λ _. omega (arith, is_done);
  rest = λ q e. (for_step, omega (arith, spent));
  commands = [];
  gave = refl;
  ones = tt;
}
went h most _ _ _ _ _ (plays Q given left done c u goes) =
    let es = given_in Q h.by h.step (c ∷ []) in
    let r = went h most (run Q es) (given + length es) left (done + 1) u goes in
    let long = length-append es (all_entries u.parts) in
    record {
      said = r.said;
      silent = r.silent;
      within = r.within;
      few = let few = r.few in omega (arith, few);
      same = λ ne. let same = r.same ne in omega (arith, same);
      grows = λ ne. let grows = r.grows ne in omega (arith, grows);
      rest = λ p e. let rest = r.rest p e in let spent = rest.1 in (rest.0, omega (arith, spent, long));
      commands = c ∷ r.commands;
      gave = ap (λ (fs : List Entry). es ++ fs) r.gave ∙ given_append h.by h.step Q (c ∷ []) r.commands;
      ones = (refl, r.ones);
    }

-- OF A SITTING, on a line or not

pub record Sat (h : Holder) (most : ℕ) (Q : Queue) (line : Bool) (left done : ℕ) (t : Turn) : Type 0 where
  pub said : t.next ≡ Told → 1 ≤ length t.lines
  pub silent : t.next ≢ Told → t.lines ≡ []
  pub within : sittings_most t.next ≤ most
  pub few : length t.parts ≤ left
  pub same : t.next ≢ Told → AsMany line (units_done t.next + units_left t.next) (done + left)
  pub grows : t.next ≢ Told → done ≤ units_done t.next
  pub rest : (p : Progress) → t.next ≡ Rested p → (h.grant ≡ ForStep) × (h.hold ≤ length (all_entries t.parts))
  pub commands : List Command
  pub gave : all_entries t.parts ≡ given_in Q h.by h.step commands
  pub small : AreSmall t.parts

ones_small : (parts : List (List Entry)) → AreOnes parts → AreSmall parts
ones_small [] ones = tt
ones_small (es ∷ parts) ones = let one : length es ≡ 1 = ones.0 in (omega (arith, one), omega (arith, one), ones.1)

ones_some : (parts : List (List Entry)) → AreOnes parts → AreSome parts
ones_some [] ones = tt
ones_some (es ∷ parts) ones = let one : length es ≡ 1 = ones.0 in (omega (arith, one), ones_some parts ones.1)

pub small_some : (parts : List (List Entry)) → AreSmall parts → AreSome parts
small_some [] small = tt
small_some (es ∷ parts) small = (small.0, ones_some parts small.2)

pub sat : (h : Holder) (most : ℕ) (Q : Queue) (left done : ℕ) (t : Turn) → Begins h most Q left done t → Sat h most Q false left done t
sat h most Q _ _ _ (bare left done u goes) =
    let r = went h most Q 0 left done u goes in
    record {
      said = r.said;
      silent = r.silent;
      within = r.within;
      few = r.few;
      same = r.same;
      grows = r.grows;
      rest = λ p e. let rest = r.rest p e in let spent = rest.1 in (rest.0, omega (arith, spent));
      commands = r.commands;
      gave = r.gave;
      small = ones_small u.parts r.ones;
    }
sat h most Q _ _ _ (first left done cs u some few goes) =
    let es = given_in Q h.by h.step cs in
    let r = went h most (run Q es) (0 + length es) left (done + 1) u goes in
    let long = length-append es (all_entries u.parts) in
    let many : length es ≡ length cs = given_length h.by h.step Q cs in
    record {
      said = r.said;
      silent = r.silent;
      within = r.within;
      few = let less = r.few in omega (arith, less);
      same = λ ne. let same = r.same ne in omega (arith, same);
      grows = λ ne. let grows = r.grows ne in omega (arith, grows);
      rest = λ p e. let rest = r.rest p e in let spent = rest.1 in (rest.0, omega (arith, spent, long));
      commands = cs ++ r.commands;
      gave = ap (λ (fs : List Entry). es ++ fs) r.gave ∙ given_append h.by h.step Q cs r.commands;
      small = (omega (arith, many, some), omega (arith, many, few), r.ones);
    }
sat h most Q _ _ _ (taken left done cs a some few one units is_done le) =
    let es = given_in Q h.by h.step cs in
    let many : length es ≡ length cs = given_length h.by h.step Q cs in
    record {
      said = λ e. absurd (cc);
      silent = λ _. refl;
      within = le;
      few = omega (arith, one);
      same = λ _. omega (arith, units, is_done);
      grows = λ _. omega (arith, is_done);
      rest = λ p e. absurd (cc);
      commands = cs ++ [];
      gave = given_append h.by h.step Q cs [];
      small = (omega (arith, many, some), omega (arith, many, few), tt);
    }

-- on a line
pub sat_served : (h : Holder) (most may : ℕ) (Q : Queue) (units : ℕ) (t : Turn) → most ≤ may → Served h Q most units 0 t → Sat h may Q true units 0 t
sat_served h most may Q units t le r = record {
  said = r.said;
  silent = r.silent;
  within = let within = r.within in omega (arith, within, le);
  few = let few = r.few in omega (arith, few);
  same = λ ne. let few = r.few in let none = r.none_done in omega (arith, few, none);
  grows = λ ne. omega arith;
  rest = λ p e. absurd (r.unrested p e);
  commands = r.commands;
  gave = r.gave;
  small = r.sized;
}
