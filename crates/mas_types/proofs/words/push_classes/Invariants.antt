use Rattle.std.proofs.Common.{◌≡◌, ◌++◌, take}
use Rattle.mas_types.specs.Shown.{classes_text}
use Rattle.mas_types.proofs.words.push_classes.Given as goal

-- the classes so far stand at the end
abbrev pub invariant-loop-class : goal.invariant-loop-class
invariant-loop-class l = l.line ≡ l.initial.line ++ classes_text (take l.class-index l.classes)
