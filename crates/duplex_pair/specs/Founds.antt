-- What is found on two copies.
use Rattle.std.specs.Prelude.{◌≡◌, ◌⊎◌, ℕ, ◌≤◌, ◌<◌, nat_lt, ◌&&◌, if◌then◌else◌, Bool, true, false, List, Result, Ok, Err}
use Rattle.mas_types.specs.declared.ids.Dev.{Dev}
use Rattle.mas_types.specs.declared.ids.Dev.TheVariants.{Ckpt1, Ckpt2}
use Rattle.mas_types.specs.declared.ids.Page.{Page}
use Rattle.spool_plant.specs.View.{View, Disk}
use Rattle.ckpt_copy.specs.Pages.{bytes_of, level}
use Rattle.duplex_pair.specs.declared.errors.Look.{Look}
use Rattle.duplex_pair.specs.declared.errors.Look.TheVariants.{Lost, Unread, Pages}
use Rattle.duplex_pair.specs.declared.errors.PairFindNo.{PairFindNo}
use Rattle.duplex_pair.specs.declared.errors.PairFindNo.TheVariants.{BothLost, NotValid}
use Rattle.duplex_pair.specs.Looks.{WasFound}

-- the pages of greater level, the first on a tie
abbrev pub better : List Page → List Page → List Page
better one two = if nat_lt (level (bytes_of one)) (level (bytes_of two)) then two else one

-- what looks at both copies give together
abbrev pub chosen : Look → Look → Result (List Page) PairFindNo
chosen (Pages one) (Pages two) = Ok (better one two)
chosen (Pages one) Lost = Ok one
chosen (Pages one) Unread = Ok one
chosen Lost (Pages two) = Ok two
chosen Lost Lost = Err BothLost
chosen Lost Unread = Err NotValid
chosen Unread (Pages two) = Ok two
chosen Unread Lost = Err NotValid
chosen Unread Unread = Err NotValid

abbrev pub is_unread : Look → Bool
is_unread Unread = true
is_unread _ = false

abbrev pub has_pages : Look → Bool
has_pages (Pages pages) = true
has_pages _ = false

-- a copy that isn't read while the other is
abbrev pub goes_away : Look → Look → Bool
goes_away look other = is_unread look && has_pages other

-- A copy that counts as alive has pages of its own, of the level that was found on it.
pub record FoundOn {C : Type 0} (count room : C → ℕ) (room_most : ℕ) (ready : C → View → Type 0)
    (rests : C → List ℕ → Disk → Type 0) (tells : Type 0) (dev : Dev) (v : View) (copy : C) (alive : Bool)
    (found : ℕ) : Type 0 where
  pub own : List Page
  pub was : WasFound count room room_most ready rests tells dev v copy alive own
  pub at : found ≡ level (bytes_of own)

-- These pages were found: they are those of the copy of greater level, of CKPT1 on a tie. A copy without pages counts
-- as lost.
pub record WasChosen {C : Type 0} (count room : C → ℕ) (room_most : ℕ) (ready : C → View → Type 0)
    (rests : C → List ℕ → Disk → Type 0) (tells : Type 0) (v : View) (first : C) (alive1 : Bool) (found1 : ℕ)
    (second : C) (alive2 : Bool) (found2 : ℕ) (pages : List Page) : Type 0 where
  pub on_first : alive1 ≡ true → FoundOn count room room_most ready rests tells Ckpt1 v first alive1 found1
  pub on_second : alive2 ≡ true → FoundOn count room room_most ready rests tells Ckpt2 v second alive2 found2
  pub from : (WasFound count room room_most ready rests tells Ckpt1 v first alive1 pages
      × (found1 ≡ level (bytes_of pages)) × (alive2 ≡ true → found2 ≤ found1))
      ⊎ (WasFound count room room_most ready rests tells Ckpt2 v second alive2 pages × (found2 ≡ level (bytes_of pages))
      × (alive1 ≡ true → found1 < found2))
