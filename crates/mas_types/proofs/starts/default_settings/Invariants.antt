use Rattle.std.proofs.Common.{◌≡◌, replicate}
use Rattle.mas_types.specs.Starts.{default_setting}
use Rattle.mas_types.proofs.starts.default_settings.Given as goal

abbrev pub invariant-loop-member : goal.invariant-loop-member
invariant-loop-member l = l.settings ≡ replicate l._member default_setting
