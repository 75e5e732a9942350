-- Numbers as texts.
use Rattle.std.specs.Prelude.{ℕ, ◌+◌, ◌-◌, ◌*◌, nat_le, Bool, ◌&&◌, if◌then◌else◌, List, [], ◌∷◌, ◌++◌, length, replicate, decimal, codes}
use Rattle.std.specs.List.{list_all}

abbrev pub is_digit : ℕ → Bool
is_digit b = nat_le 48 b && nat_le b 57

-- 1 to 10 digits
abbrev pub is_numeral : List ℕ → Bool
is_numeral text = nat_le 1 (length text) && nat_le (length text) 10 && list_all is_digit text

-- the number that the digits go on to, after those that give n
abbrev pub value_after : ℕ → List ℕ → ℕ
value_after n [] = n
value_after n (b ∷ text) = value_after (n * 10 + (b - 48)) text

-- the number that the digits give
abbrev pub value_of : List ℕ → ℕ
value_of text = value_after 0 text

-- a number in at least so many digits: all that it has, and zeros before them up to the width
abbrev pub in_digits : ℕ → ℕ → List ℕ
in_digits width n = replicate (width - length (decimal n)) 48 ++ decimal n

-- the job identifier: JOB and five digits, above 99,999 J0 and six digits
abbrev pub key_of : ℕ → List ℕ
key_of n = if nat_le n 99999 then codes "JOB" ++ in_digits 5 n else codes "J0" ++ in_digits 6 n
