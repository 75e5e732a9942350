use Rattle.std.proofs.Common.{◌≡◌, true, ◌+◌, ◌-◌, ◌≤◌, length, take, drop}
use Rattle.std.specs.Prelude.{not}
use Rattle.std.specs.List.{list_all}
use Rattle.mas_types.specs.Names.{is_name_byte}
use Rattle.nje_frames.specs.Reading.{front_size, begins_name, name_size}
use Rattle.nje_frames.proofs.parts.name_size.Given as goal

abbrev pub invariant-loop-at : goal.invariant-loop-at
invariant-loop-at l = record {
  inside : l.at ≤ length l.bytes;
  size : l.at + front_size begins_name (8 - l.at) (take l.at l.bytes) (drop l.at l.bytes) ≡ name_size l.bytes;
  holds : begins_name (take l.at l.bytes) ≡ true;
  letters : l.padding ≡ not (list_all is_name_byte (take l.at l.bytes));
}
