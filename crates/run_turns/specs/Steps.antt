-- What each line of a script comes to, and the scene that it leaves.
use Rattle.std.specs.Prelude.{ℕ, ◌-◌, Bool, true, false, not, if◌then◌else◌, List, [], ◌∷◌, ◌++◌, map, Option, Some, None}
use Rattle.mas_types.specs.declared.answers.Closing.TheVariants as closing
use Rattle.mas_types.specs.declared.ids.Dev.{Dev}
use Rattle.mas_types.specs.declared.ids.MemberId.{MemberId}
use Rattle.mas_types.specs.declared.journals.Entry.{Entry}
use Rattle.mas_types.specs.declared.journals.Fate.{Fate}
use Rattle.mas_types.specs.declared.journals.Fate.TheVariants.{Flying}
use Rattle.mas_types.specs.Closings.{closing_line}
use Rattle.mas_types.specs.Ids.{nobody, same_member}
use Rattle.mas_types.specs.Queue.{is_member}
use Rattle.mas_types.specs.Run.{run}
use Rattle.lock_cycle.specs.Books.{after_stop, is_stopped}
use Rattle.script_lang.specs.declared.types.Ask.{Ask}
use Rattle.script_lang.specs.declared.types.Ask.TheVariants as ask
use Rattle.script_lang.specs.declared.types.Step.{Step}
use Rattle.spool_plant.specs.declared.plant.Fuse.{Fuse}
use Rattle.spool_plant.specs.declared.plant.Fuse.TheVariants as fuse
use Rattle.spool_plant.specs.View.{Line}
use Rattle.run_turns.specs.Sights.{Cause, Cut, Ends, Sight, Stops}
use Rattle.run_turns.specs.Scenes.{Armed, Batched, Scene, flying_in, kept_in, with_count}
use Rattle.run_turns.specs.Admissions.{Admission, admitted}
use Rattle.run_turns.specs.Pieces.{Play, fate_found, play_of}
use Rattle.run_turns.specs.Cuts.{Left, left_by, whole}

-- a line on the console, and who said it
pub record Said : Type 0 where
  pub by : MemberId
  pub line : Line

abbrev pub said_by : MemberId → Line → Said
said_by by line = record { by = by; line = line }

-- What a line comes to: what it found of a batch in flight, its batches, its lines on the console and on its member's
-- printer, the bytes that it gave on a line to another node, and a device that it lost.
pub record Outcome : Type 0 where
  pub found : Fate
  pub batches : List Batched
  pub said : List Said
  pub printed : List Line
  pub given : List ℕ
  pub loses : Option Dev

-- a line's outcome, with what it leaves for the next line, if the run goes on
pub record Played : Type 0 where
  pub outcome : Outcome
  pub next : Scene
  pub goes_on : Bool

abbrev pub nothing : Outcome
nothing = record { found = Flying; batches = []; said = []; printed = []; given = []; loses = None }

-- LINES THAT SAY NOTHING

abbrev pub silent : Scene → Played
silent S = record { outcome = nothing; next = S; goes_on = true }

-- the member is one, and isn't stopped
abbrev pub is_up : Scene → MemberId → Bool
is_up S m = if is_member S.queue.config m then not (is_stopped S.book m) else false

-- a member that is up stops between acts, and holds what it held
abbrev pub stop : Scene → MemberId → Played
stop S m = if is_up S m then silent (record S { book = after_stop S.book m }) else silent S

-- a member that is up is to halt later, at an act or a print
abbrev pub arm : Scene → MemberId → Fuse → ℕ → Played
arm S m what n =
    if is_up S m then silent (record S { armed = S.armed ++ record { member = m; fuse = what; left = n } ∷ [] }) else
    silent S

abbrev pub lose : Scene → Dev → Played
lose S dev = record { outcome = record nothing { loses = Some dev }; next = S; goes_on = true }

-- LINES OF MEMBERS

-- a step whose member stopped in it closes with that; the operator says it
abbrev pub stopped_lines : MemberId → ℕ → Option Cause → List Said
stopped_lines by at (Some Stops) = said_by nobody (whole (closing_line by at closing.Stopped)) ∷ []
stopped_lines by at _ = []

abbrev pub cause_of : Option Cut → Option Cause
cause_of None = None
cause_of (Some cut) = Some cut.cause

-- a step that ends the run is its last
abbrev pub run_goes_on : Option Cause → Bool
run_goes_on (Some Ends) = false
run_goes_on _ = true

-- the prints that a member made count for the stops that were armed at its prints
abbrev pub prints_counted : MemberId → ℕ → Armed → ℕ
prints_counted by made a = if same_member a.member by then a.left - made else a.left

abbrev pub counted_at : Fuse → MemberId → ℕ → Armed → Armed
counted_at fuse.Any by made a = a
counted_at fuse.Print by made a = record a { left = prints_counted by made a }

abbrev pub counted : MemberId → ℕ → List Armed → List Armed
counted by made stops = map (λ a. counted_at a.fuse by made a) stops

-- a batch in flight: the one that was begun last, or else the one that was found
abbrev pub flight_then : Option (List Entry) → Option (List Entry) → Option (List Entry)
flight_then (Some es) before = Some es
flight_then None before = before

abbrev pub outcome_of : MemberId → ℕ → Fate → Play → Option Cause → Left → Outcome
outcome_of by at fate play cause l = record {
  found = fate;
  batches = l.batches;
  said = map (said_by play.sayer) l.lines ++ stopped_lines by at cause;
  printed = l.printed;
  given = l.given;
  loses = None;
}

abbrev pub scene_left : Scene → MemberId → Play → Left → Scene
scene_left S by play l = record {
  queue = run play.queue (kept_in l.batches);
  book = l.book;
  flight = flight_then (flying_in l.batches) play.flight;
  counts = with_count by l.count S.counts;
  armed = counted by l.prints S.armed;
}

abbrev pub played_as : Scene → MemberId → ℕ → Sight → Admission → Played
played_as S by at sight a =
    let play = play_of S by at sight a in
    let l = left_by by sight.cut play (S.counts by) in
    record {
      outcome = outcome_of by at (fate_found a sight) play (cause_of sight.cut) l;
      next = scene_left S by play l;
      goes_on = run_goes_on (cause_of sight.cut);
    }

-- A LINE

abbrev pub played_ask : Scene → MemberId → ℕ → Sight → Ask → Played
played_ask S by at sight ask.Stop = stop S by
played_ask S by at sight (ask.StopIn what n) = arm S by what n
played_ask S by at sight (ask.Lose dev) = lose S dev
played_ask S by at sight what = played_as S by at sight (admitted S.queue.config S.book by what)

abbrev pub played : Scene → ℕ → Sight → Step → Played
played S at sight step = played_ask S step.by at sight step.what
