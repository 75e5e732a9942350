use Rattle.std.proofs.Common.{◌≡◌, true, ◌+◌, ◌-◌, ◌^◌, ◌≤◌, ◌++◌, length, take, drop, replicate}
use Rattle.std.specs.List.{list_all}
use Rattle.mas_types.specs.Numerals.{is_digit, value_of}
use Rattle.nje_frames.specs.Reading.{front_size, begins_number, number_size}
use Rattle.nje_frames.proofs.parts.number_size.Given as goal

abbrev pub invariant-loop-at : goal.invariant-loop-at
invariant-loop-at l = record {
  inside : l.at ≤ length l.bytes;
  size : l.at + front_size begins_number (10 - l.at) (take l.at l.bytes) (drop l.at l.bytes) ≡ number_size l.bytes;
  digits : list_all is_digit (take l.at l.bytes) ≡ true;
  holds : begins_number (take l.at l.bytes) ≡ true;
  least : l.least ≡ value_of (take l.at l.bytes ++ replicate (10 - l.at) 48);
  few : l.least ≤ 4294967295;
  unit : l.unit ≡ 10 ^ (10 - l.at);
  small : l.unit ≤ 10000000000;
}
