-- Where neither a volume nor a printer failed, what becomes of a script's lines follows from the script, from where
-- members were stopped, and from what came over lines to other nodes, alone.
use Rattle.mas_run.specs.Names.{Spool, Step, Disk, Printer, View, Rose, Finds, sights_of, outcomes_of, Sight}
use Rattle.std.specs.Prelude.{◌≡◌, ℕ, if◌then◌else◌, List, map, All}
use Rattle.step_turns.specs.Examples.{calm}
use Rattle.step_turns.specs.Laws.{on_line}
use Rattle.run_turns.specs.Alone.{shown}
use Rattle.mas_run.specs.Runs.{LinesBegun, LinesEnded, HavePassed}

-- what is found where each text is as the queue has it, and nothing is lost; of a step that serves a line to another
-- node what it found
abbrev pub calm_but : Finds → Finds
calm_but finds Q s = if on_line s then finds Q s else calm Q s

-- a line that finds this, and is cut as before
abbrev pub calmed : Sight → Sight
calmed s = record s { finds = calm_but s.finds; inked = 0 }

-- no act on a volume failed, nor one on the printer of a member that has one of these lines
pub record NoneFailed (steps : List Step) (old new : View) : Type 0 where
  pub volumes : (n : ℕ) → Rose (old.faults (Disk (Spool n))) (new.faults (Disk (Spool n))) → ⊥
  pub printers : All (λ (s : Step). Rose (old.faults (Printer s.by)) (new.faults (Printer s.by)) → ⊥) steps

-- where content is told, the batches and the lines of the lines are what they are where nothing else is found lost
abbrev pub FindNone : Type 0 → Type 0
FindNone told = told → (b : LinesBegun) (e : LinesEnded) → NoneFailed b.steps b.view e.view
    → (p : HavePassed (Unit {0}) b e)
    → map shown p.did ≡ map shown (outcomes_of b.from (map calmed (sights_of p.given)) b.steps)
