-- Logs written out.
use Rattle.std.specs.Prelude.{◌≡◌, ℕ, ◌*◌, zero, suc, true, false, List, [], ◌∷◌, replicate, refl}
use Rattle.change_log.specs.Directories.{numbers_in, is_directory, directory_front}
use Rattle.change_log.specs.Logs.{log_size, directory_block, block_head, place, free_after, is_valid, room_in}

-- pages 0, 3 and 259 at a level that may be any
pub three_numbers : numbers_in
    (0 ∷ 3 ∷ 0 ∷ 0 ∷ 0 ∷ 0 ∷ 0 ∷ 0 ∷ 0 ∷ 0 ∷ 0 ∷ 0 ∷ 0 ∷ 0 ∷ 1 ∷ 7 ∷ 0 ∷ 0 ∷ 0 ∷ 3 ∷ 1 ∷ 3 ∷ 0 ∷ []) ≡ 0 ∷ 3 ∷ 259 ∷ []
three_numbers = refl

-- pages 0, 3 and 259 are pages of 260, but not of 259
pub three_of_260 : is_directory 260
    (0 ∷ 3 ∷ 0 ∷ 0 ∷ 0 ∷ 0 ∷ 0 ∷ 0 ∷ 9 ∷ 9 ∷ 9 ∷ 9 ∷ 9 ∷ 9 ∷ 9 ∷ 9 ∷ 0 ∷ 0 ∷ 0 ∷ 3 ∷ 1 ∷ 3 ∷ 0 ∷ []) ≡ true
three_of_260 = refl

pub three_of_259 : is_directory 259
    (0 ∷ 3 ∷ 0 ∷ 0 ∷ 0 ∷ 0 ∷ 0 ∷ 0 ∷ 9 ∷ 9 ∷ 9 ∷ 9 ∷ 9 ∷ 9 ∷ 9 ∷ 9 ∷ 0 ∷ 0 ∷ 0 ∷ 3 ∷ 1 ∷ 3 ∷ 0 ∷ []) ≡ false
three_of_259 = refl

-- a page twice, no page 0, no page at all, a byte after the numbers
pub twice : is_directory 9 (0 ∷ 3 ∷ 0 ∷ 0 ∷ 0 ∷ 0 ∷ 0 ∷ 0 ∷ 0 ∷ 0 ∷ 0 ∷ 0 ∷ 0 ∷ 0 ∷ 0 ∷ 2 ∷ 0 ∷ 0 ∷ 0 ∷ 3 ∷ 0 ∷ 3 ∷ 0
    ∷ []) ≡ false
twice = refl

pub no_first : is_directory 9 (0 ∷ 1 ∷ 0 ∷ 0 ∷ 0 ∷ 0 ∷ 0 ∷ 0 ∷ 0 ∷ 0 ∷ 0 ∷ 0 ∷ 0 ∷ 0 ∷ 0 ∷ 2 ∷ 0 ∷ 3 ∷ 0 ∷ []) ≡ false
no_first = refl

pub none_at_all : is_directory 9 (replicate 20 0) ≡ false
none_at_all = refl

pub one_behind : is_directory 9 (0 ∷ 1 ∷ 0 ∷ 0 ∷ 0 ∷ 0 ∷ 0 ∷ 0 ∷ 0 ∷ 0 ∷ 0 ∷ 0 ∷ 0 ∷ 0 ∷ 0 ∷ 2 ∷ 0 ∷ 0 ∷ 0 ∷ 1 ∷ [])
    ≡ false
one_behind = refl

-- block 0 after VALID, of 36 pages
pub head_of_36 : block_head 36 ≡ 2 ∷ 0 ∷ 36 ∷ 0 ∷ 0 ∷ 0 ∷ 0 ∷ 0 ∷ 0 ∷ 0 ∷ 0 ∷ []
head_of_36 = refl

-- a valid block 0 of 36 pages, slots 0 and 1 open: on a device with room for a log of them, and on one with a byte less
abbrev head : List ℕ
head = 165 ∷ 2 ∷ 0 ∷ 36 ∷ 0 ∷ 0 ∷ 0 ∷ 0 ∷ 165 ∷ 165 ∷ 0 ∷ 0 ∷ []

pub valid_head : is_valid head 757760 ≡ true
valid_head = refl

pub small_device : is_valid head 757759 ≡ false
small_device = refl

pub room_of_head : room_in head ≡ 2
room_of_head = refl

-- heads that aren't valid: with VALID closed, and of another form
pub shut_head : is_valid (0 ∷ 2 ∷ 0 ∷ 36 ∷ []) 757760 ≡ false
shut_head = refl

pub other_head : is_valid (165 ∷ 1 ∷ 0 ∷ 36 ∷ []) 757760 ≡ false
other_head = refl

-- the directory of pages 0, 3 and 259 at level 9, up to its last number
pub front_of_three : directory_front (0 ∷ 0 ∷ 0 ∷ 0 ∷ 0 ∷ 0 ∷ 0 ∷ 9 ∷ []) (0 ∷ 3 ∷ 259 ∷ [])
    ≡ 0 ∷ 3 ∷ 0 ∷ 0 ∷ 0 ∷ 0 ∷ 0 ∷ 0 ∷ 0 ∷ 0 ∷ 0 ∷ 0 ∷ 0 ∷ 0 ∷ 0 ∷ 9 ∷ 0 ∷ 0 ∷ 0 ∷ 3 ∷ 1 ∷ 3 ∷ []
front_of_three = refl

-- the places of six pages: slot 0 lists pages 0 and 3, slot 1 pages 0 and 5, slots 2 and 3 are closed
abbrev two_slots : ℕ → List ℕ
two_slots zero = 0 ∷ 3 ∷ []
two_slots (suc zero) = 0 ∷ 5 ∷ []
two_slots (suc (suc s)) = []

pub page_0_of_two : place 6 0 two_slots 4 ≡ 15
page_0_of_two = refl

pub page_3_of_two : place 6 3 two_slots 4 ≡ 9
page_3_of_two = refl

pub page_4_of_two : place 6 4 two_slots 4 ≡ 5
page_4_of_two = refl

pub page_5_of_two : place 6 5 two_slots 4 ≡ 16
page_5_of_two = refl

pub last_block_of_six : 4096 * directory_block 6 4 ≡ log_size 6
last_block_of_six = refl

-- the room behind slots 0 to 2; behind slots 1 and 2, after slot 0 was closed; with none open
pub room_behind_three : free_after 0 (true ∷ true ∷ true ∷ false ∷ []) ≡ 1
room_behind_three = refl

pub room_behind_gap : free_after 0 (false ∷ true ∷ true ∷ false ∷ []) ≡ 1
room_behind_gap = refl

pub room_of_all : free_after 0 (false ∷ false ∷ false ∷ false ∷ []) ≡ 4
room_of_all = refl
