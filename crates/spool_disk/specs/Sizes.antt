-- How large each device is.
use Rattle.std.specs.Prelude.{ℕ, ◌+◌, nat_lt, nat_le, ◌&&◌, if◌then◌else◌}
use Rattle.spool_disk.specs.declared.sizes.Sizes.{Sizes}

abbrev pub size_in : Sizes → ℕ → ℕ
size_in sizes slot =
    if nat_lt slot 2 then sizes.ckpt else (if nat_lt 2 slot && nat_le slot (2 + sizes.volumes) then sizes.volume else 0)
