-- A line of a script at the scene that it finds, with what it gave.
use Rattle.mas_run.specs.Names.{Step, Scene, Admission, admitted, Piece, Play, Played, Given, line_with, play_with}
use Rattle.std.specs.Prelude.{ℕ, List}

-- a line, the scene that it finds, its number, and what it gave
pub record LineAt : Type 0 where
  pub scene : Scene
  pub number : ℕ
  pub step : Step
  pub given : Given

abbrev pub played_at : LineAt → Played
played_at l = line_with l.scene l.number l.given l.step

-- what becomes of it, where it is a line of a member, and the pieces that it has then
abbrev pub admitted_at : LineAt → Admission
admitted_at l = admitted l.scene.queue.config l.scene.book l.step.by l.step.what

abbrev pub play_as : LineAt → Admission → Play
play_as l a = play_with l.scene l.step.by a l.given

abbrev pub pieces_as : LineAt → Admission → List Piece
pieces_as l a = (play_as l a).pieces

abbrev pub pieces_at : LineAt → List Piece
pieces_at l = pieces_as l (admitted_at l)
