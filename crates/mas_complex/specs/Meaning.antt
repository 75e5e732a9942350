-- What the bytes of a copy's pages stand for, and what closing lines tell. What entries do is the table of commands.
use Rattle.mas_complex.specs.Names.{MemberId, Page, Queue, Closing, page_bytes, closing_line, bytes_of, PagesTell}
use Rattle.std.specs.Prelude.{◌≡◌, ℕ, Bool, true, false, List, length, All}
use Rattle.mas_types.specs.declared.answers.Closing.TheVariants as closing
pub use Rattle.mas_types.specs.Run.{run, replies}
pub use Rattle.mas_types.specs.Step.{step}

-- The bytes are the pages of a checkpoint, whose tables tell the queue: all of it but its texts, of which they tell the
-- numbers of lines. This is the one place where the pages are compared with a queue; which texts it has is said of the
-- spool volumes.
pub record StandFor (Q : Queue) (bytes : List ℕ) : Type 0 where
  pub pages : List Page
  pub level : ℕ
  pub sized : All (λ page. length page.0 ≡ page_bytes) pages
  pub joined : bytes_of pages ≡ bytes
  pub tell : PagesTell pages level Q

-- a step that closes so is told: its member was not stopped
abbrev pub is_telling : Closing → Bool
is_telling closing.Down = false
is_telling closing.Stopped = false
is_telling _ = true

-- the line tells this member's step
pub record Closes (line : List ℕ) (by : MemberId) (at : ℕ) : Type 0 where
  pub end : Closing
  pub telling : is_telling end ≡ true
  pub is : line ≡ closing_line by at end
