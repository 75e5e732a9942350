-- Which copy counts at a start, and whether the other one stays.
use Rattle.std.specs.Prelude.{◌≡◌, ℕ, ◌≤◌, nat_lt, if◌then◌else◌, Bool, true, false, not, ◌&&◌, length, Result, Ok, Err}
use Rattle.mas_types.specs.declared.ids.Dev.{Dev}
use Rattle.mas_types.specs.declared.ids.Dev.TheVariants.{Ckpt1, Ckpt2}
use Rattle.mas_types.specs.declared.answers.CopyState.{CopyState}
use Rattle.mas_types.specs.declared.answers.CopyState.TheVariants as state
use Rattle.mas_types.specs.Limits.{pages_most}
use Rattle.ckpt_copy.specs.Pages.{bytes_of, level}
use Rattle.duplex_pair.specs.declared.errors.Look.{Look}
use Rattle.duplex_pair.specs.declared.errors.Look.TheVariants as look
use Rattle.mas_complex.specs.Fits.{fits}
use Rattle.start_choice.specs.declared.choosing.Good.{Good as GoodPages}
use Rattle.start_choice.specs.declared.choosing.Judged.{Judged}
use Rattle.start_choice.specs.declared.choosing.Judged.TheVariants.{Good, Bad}
use Rattle.start_choice.specs.declared.choosing.Start.{Start}
use Rattle.start_choice.specs.declared.choosing.StartNo.{StartNo}
use Rattle.start_choice.specs.declared.choosing.StartNo.TheVariants.{NotFormatted, BothLost}
use Rattle.start_choice.specs.Usable.{AreOf, IsUsable}

-- a copy that was looked at so can be used, or this is why it can't
abbrev pub IsJudged : Look → Judged → Type 0
IsJudged look.Lost judged = judged ≡ Bad state.Lost
IsJudged look.Unread judged = judged ≡ Bad state.Unread
IsJudged (look.Pages pages) (Good good) = (good.pages ≡ pages) × AreOf pages good.tables
IsJudged (look.Pages pages) (Bad why) = (why ≡ state.Unsound) × (IsUsable pages → ⊥)

-- the pages are as many as a checkpoint may have, at most
abbrev pub IsFew : GoodPages → Type 0
IsFew good = length good.pages ≤ pages_most

abbrev pub HasFew : Judged → Type 0
HasFew (Good good) = IsFew good
HasFew (Bad why) = Unit {0}

-- what a start makes of some copy: pages that can be used have their tables
abbrev pub IsSomeJudged : Judged → Type 0
IsSomeJudged (Good good) = AreOf good.pages good.tables × IsFew good
IsSomeJudged (Bad why) = Unit {0}

abbrev pub is_lower : GoodPages → GoodPages → Bool
is_lower one two = nat_lt (level (bytes_of one.pages)) (level (bytes_of two.pages))

-- the copy on this device counts; the other stays where it fits, with so much room
abbrev pub started : Dev → GoodPages → GoodPages → ℕ → Start
started dev found other room = record { dev = dev; found = found; stays = fits found.pages other.pages room }

abbrev pub alone : Dev → GoodPages → Start
alone dev found = record { dev = dev; found = found; stays = false }

abbrev pub neither : CopyState → CopyState → StartNo
neither state.Lost state.Lost = BothLost
neither first second = NotFormatted first second

-- the choice: of the copies that can be used the one of greater level, the first on a tie
abbrev pub chosen : Judged → ℕ → Judged → ℕ → Result Start StartNo
chosen (Good one) room1 (Good two) room2 = if is_lower one two then Ok (started Ckpt2 two one room1) else Ok
    (started Ckpt1 one two room2)
chosen (Good one) room1 (Bad why) room2 = Ok (alone Ckpt1 one)
chosen (Bad why) room1 (Good two) room2 = Ok (alone Ckpt2 two)
chosen (Bad first) room1 (Bad second) room2 = Err (neither first second)

-- LOSING

abbrev pub are_beside : Dev → Dev → Bool
are_beside Ckpt1 Ckpt2 = true
are_beside Ckpt2 Ckpt1 = true
are_beside _ _ = false

-- a copy goes where the other one counts and it may not stay beside that
abbrev pub goes : Dev → Start → Bool
goes dev start = are_beside dev start.dev && not start.stays
