-- What comes of saying a line.
use Rattle.std.specs.Prelude.{Result, Ok, Err}
use Rattle.spool_plant.specs.declared.plant.Act.{Act}
use Rattle.spool_plant.specs.declared.plant.Act.TheVariants.{Done, Failed, Halted}
use Rattle.member_node.specs.declared.member.NodeNo.{NodeNo}
use Rattle.member_node.specs.declared.member.NodeNo.TheVariants as no_node

-- the act on the console that an answer tells of
abbrev pub said_as : {T : Type 0} → Result T NodeNo → Act
said_as (Ok done) = Done
said_as (Err no_node.Halted) = Halted
said_as (Err _) = Failed

-- an answer of saying a line
abbrev pub IsAnswerOfSay : {T : Type 0} → Result T NodeNo → Type 0
IsAnswerOfSay (Ok done) = Unit {0}
IsAnswerOfSay (Err no_node.Halted) = Unit {0}
IsAnswerOfSay (Err no_node.ConsoleFault) = Unit {0}
IsAnswerOfSay (Err no_node.BothLost) = ⊥
IsAnswerOfSay (Err no_node.NoMemory) = ⊥
