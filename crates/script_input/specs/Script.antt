-- What a script says, or the least line that is refused.
use Rattle.std.specs.Prelude.{ℕ, List}
use Rattle.script_lang.specs.declared.types.Run.{Run}
use Rattle.script_lang.specs.Script.{Said, said}

-- What a script says in a run: what it says by the whole language, of which each line is played. Lines are numbered
-- from 1.
abbrev pub read_as : Run → List ℕ → Said
read_as run bytes = said run bytes
