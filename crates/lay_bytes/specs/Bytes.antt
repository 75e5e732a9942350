-- Which bytes are zeros, and which are classes.
use Rattle.std.specs.Prelude.{ℕ, ◌==◌, nat_le, Bool, true, false, not, ◌&&◌, List, [], ◌∷◌, take, drop}
use Rattle.std.specs.List.{list_all, list_any}
use Rattle.mas_types.specs.Fit.{is_class_byte}

abbrev pub are_zeros : List ℕ → Bool
are_zeros bytes = list_all (λ b. b == 0) bytes

-- no byte is there twice
abbrev pub are_different : List ℕ → Bool
are_different [] = true
are_different (b ∷ bs) = not (list_any (λ c. c == b) bs) && are_different bs

-- a number from 1 to 36, so many different classes, and zeros
abbrev pub are_classes : List ℕ → Bool
are_classes [] = false
are_classes (n ∷ bs) = nat_le 1 n && nat_le n 36 && list_all is_class_byte (take n bs) && are_different (take n bs) &&
    are_zeros (drop n bs)
