-- The directory of a log slot: the numbers of the pages that its images are of.
use Rattle.std.specs.Int.{w16, to_be_bytes}
use Rattle.std.specs.Prelude.{ℕ, ◌+◌, ◌*◌, ◌-◌, ◌&&◌, ◌==◌, nat_le, nat_lt, zero, suc, Bool, true, false, List, [], ◌∷◌, ◌++◌, length, take, drop, replicate, slice_index}
use Rattle.spool_plant.specs.View.{slice}
use Rattle.mas_types.specs.Limits.{page_bytes}
use Rattle.lay_bytes.specs.Bytes.{are_zeros}

-- how many images the slot has
abbrev pub count_in : List ℕ → ℕ
count_in block = 256 * slice_index block 0 + slice_index block 1

-- the first numbers that bytes spell: so many of two bytes each, the greater byte first
abbrev pub words : ℕ → List ℕ → List ℕ
words zero bytes = []
words (suc k) [] = []
words (suc k) (high ∷ []) = []
words (suc k) (high ∷ low ∷ bytes) = (256 * high + low) ∷ words k bytes

-- the numbers of the pages, one for each image
abbrev pub numbers_in : List ℕ → List ℕ
numbers_in block = words (count_in block) (drop 16 block)

-- each number is above the one before it, and below n
abbrev pub ascend : ℕ → ℕ → List ℕ → Bool
ascend n last [] = true
ascend n last (x ∷ numbers) = nat_lt last x && nat_lt x n && ascend n x numbers

-- numbers of pages out of n, ascending from 0
abbrev pub are_pages : ℕ → List ℕ → Bool
are_pages n [] = false
are_pages n (x ∷ numbers) = (x == 0) && nat_lt 0 n && ascend n 0 numbers

-- This block is the directory of a slot: one to n images, of pages that ascend from 0, and zeros wherever neither the
-- count nor the level nor a number stands. The level, in bytes 8 to 15, may be any.
abbrev pub is_directory : ℕ → List ℕ → Bool
is_directory n block =
    nat_le (count_in block) n && are_pages n (numbers_in block) && are_zeros (slice 2 6 block) && are_zeros
    (drop (16 + 2 * count_in block) block)

-- the bytes of numbers
abbrev pub word_bytes : List ℕ → List ℕ
word_bytes [] = []
word_bytes (x ∷ numbers) = to_be_bytes w16 x ++ word_bytes numbers

-- bytes of a directory, with these numbers after its level
abbrev pub with_numbers : List ℕ → List ℕ → List ℕ
with_numbers numbers bytes = take 16 bytes ++ word_bytes numbers ++ drop (16 + 2 * length numbers) bytes

-- a directory up to its last number: of images of these pages, at a level of eight bytes
abbrev pub directory_front : List ℕ → List ℕ → List ℕ
directory_front level numbers = to_be_bytes w16 (length numbers) ++ replicate 6 0 ++ level ++ word_bytes numbers

-- the whole block of a directory, with zeros after its last number
abbrev pub directory : List ℕ → List ℕ → List ℕ
directory level numbers = directory_front level numbers ++ replicate (page_bytes - (16 + 2 * length numbers)) 0
