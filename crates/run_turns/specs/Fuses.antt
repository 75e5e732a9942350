-- The prints at which a member stops, as a stop was armed at one of its prints. Nothing else of a run tells which act
-- halts.
use Rattle.std.specs.Prelude.{ℕ, ◌+◌, ◌-◌, ◌/◌, nat_le, nat_lt, Bool, ◌&&◌, if◌then◌else◌, List, [], ◌∷◌, drop, length, min, take, Option, Some, None}
use Rattle.std.specs.Option.{option_map_or}
use Rattle.mas_types.specs.declared.ids.MemberId.{MemberId}
use Rattle.mas_types.specs.declared.queues.Queue.{Queue}
use Rattle.mas_types.specs.Ids.{same_member}
use Rattle.script_lang.specs.declared.types.Step.{Step}
use Rattle.spool_plant.specs.declared.plant.Fuse.{Fuse}
use Rattle.spool_plant.specs.declared.plant.Fuse.TheVariants as fuse
use Rattle.run_turns.specs.Sights.{Cut, Sight, Stops, Waiting, clear}
use Rattle.run_turns.specs.Scenes.{Armed, Scene, scene_of}
use Rattle.run_turns.specs.Admissions.{admitted}
use Rattle.run_turns.specs.Pieces.{Piece, play_of}
use Rattle.run_turns.specs.Steps.{Outcome, played}
use Rattle.run_turns.specs.Runs.{outcomes_if}

-- WHICH PRINT

-- the lesser of the numbers of prints after which a stop is due; none was due before its first
abbrev pub lesser : ℕ → Option ℕ → Option ℕ
lesser n None = Some n
lesser n (Some m) = Some (min n m)

abbrev pub due_at : Fuse → ℕ → Bool → Option ℕ → Option ℕ
due_at fuse.Print left own rest = if nat_lt 0 left && own then lesser left rest else rest
due_at fuse.Any left own rest = rest

abbrev pub due : MemberId → List Armed → Option ℕ
due by [] = None
due by (a ∷ more) = due_at a.fuse a.left (same_member a.member by) (due by more)

-- the first half of a line's bytes
abbrev pub half : List ℕ → List ℕ
half line = take (length line / 2) line

-- the print after so many of these lines halts at the next one, which is torn; one that fails halts nothing
abbrev pub halts_after : ℕ → ℕ → List (List ℕ) → Option Cut
halts_after sittings n [] = None
halts_after sittings n (line ∷ lines) = Some
    (record { sittings = sittings; halt = Waiting n (Some (half line)); cause = Stops })

-- the n-th print from these pieces on, before which so many sittings stand
abbrev pub cut_at : ℕ → ℕ → List Piece → Option Cut
cut_at sittings n [] = None
cut_at sittings n (p ∷ ps) =
    if nat_le n p.prints then halts_after sittings (n - 1) (drop (n - 1) p.printed)
    else cut_at (sittings + 1) (n - p.prints) ps

-- the cut that an armed stop makes in a line that finds nothing lost
abbrev pub struck : Scene → ℕ → Step → Option Cut
struck S at step =
    let play = play_of S step.by at clear (admitted S.queue.config S.book step.by step.what) in
    option_map_or (λ n. cut_at 0 n play.pieces) (due step.by S.armed) None

-- A RUN in which nothing is lost, and no act halts but a print at which a stop was armed

abbrev pub calm_sight : Scene → ℕ → Step → Sight
calm_sight S at step = record clear { cut = struck S at step }

abbrev pub calm_from : Scene → ℕ → List Step → List Outcome
calm_from S at [] = []
calm_from S at (step ∷ steps) =
    let p = played S at (calm_sight S at step) step in
    p.outcome ∷ outcomes_if p.goes_on (calm_from p.next (at + 1) steps)

abbrev pub calm_run : Queue → List Step → List Outcome
calm_run Q steps = calm_from (scene_of Q) 1 steps
