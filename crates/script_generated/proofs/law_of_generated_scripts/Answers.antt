use Rattle.std.proofs.Common.{◌≡◌, sym, subst, ℕ, ◌+◌, ◌<◌, ◌≤◌, true, List, [], ◌∷◌, length, codes, arith, length-append}
use Rattle.std.specs.List.{flat_map, list_all, range_with_len}
use Rattle.mas_types.specs.Limits.{script_bytes, steps_most}
use Rattle.script_lang.specs.declared.types.Ask.TheVariants as ask
use Rattle.script_lang.specs.Lines.{is_line, lines_of}
use Rattle.script_laws.specs.Grammar.{step_of_member}
use Rattle.script_laws.specs.Laws.{ReadsScripts}
use Rattle.script_laws.specs.Whole.{IsScriptOf, Plain}
use Rattle.gen_work.specs.Generated.{part_lines, script_lines, script_text}
use Rattle.script_generated.specs.Steps.{ReadsGenerated, part_steps, script_generated, script_steps, sysb}
use Rattle.script_generated.proofs.Lines.{lines_back, lines_length}
use Rattle.script_generated.proofs.Parts.{parts_are, parts_count, parts_read, steps_count}
use Rattle.script_generated.proofs.law_of_generated_scripts.Goals as goal

read_by : ReadsScripts → ReadsGenerated
read_by reads run n is only =
    let few : 1 + n < 100000 = omega (arith, is.1) in
    let lines = flat_map part_lines (range_with_len 1 n) in
    let are : list_all is_line (script_lines n) ≡ true = parts_are n 1 few in
    let back : lines_of (script_text n) ≡ script_lines n = lines_back (script_lines n) are in
    let size = lines_length (script_lines n) are in
    let count = parts_count n 1 in
    let all = length-append lines (codes "SYSB WORK 9999" ∷ []) in
    let short : length (script_text n) ≤ script_bytes = omega (arith, is.1, size, count, all) in
    let steps = steps_count n 1 in
    let all_steps = length-append (flat_map part_steps (range_with_len 1 n)) (step_of_member sysb (ask.Work 9999) ∷ []) in
    let room : length (script_steps n) ≤ steps_most = omega (arith, is.1, steps, all_steps) in
    let read : IsScriptOf run (lines_of (script_text n)) (script_generated n) =
    subst (λ (ls : List (List ℕ)). IsScriptOf run ls (script_generated n)) (sym back)
    (Plain (script_lines n) (script_steps n) (parts_read run n 1 only few)) in
    (reads run (script_text n) (script_generated n)).1 (short, room, read)

pub returns-clause-reads : goal.returns-clause-reads
returns-clause-reads c run n is only = read_by c.law_of_scripts.ensures run n is only

pub returns-clause-plays : goal.returns-clause-plays
returns-clause-plays c run n is only = read_by c.law_of_scripts.ensures run n is only
