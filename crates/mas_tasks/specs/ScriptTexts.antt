-- What the text of a script in memory has left.
use Rattle.std.specs.Prelude.{ℕ, List, drop}
use Rattle.mas_tasks.specs.declared.generating.ScriptText.{ScriptText}

abbrev pub left_of : ScriptText → List ℕ
left_of script = drop script.taken script.bytes
