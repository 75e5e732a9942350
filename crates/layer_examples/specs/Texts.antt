-- Worked examples: names, classes and numbers as texts, the limits, and the queue of a cold start.
use Rattle.std.specs.Prelude.{◌≡◌, ℕ, nat_le, Bool, true, false, ◌&&◌, if◌then◌else◌, List, [], ◌∷◌, length, map, codes, Option, None, Some}
use Rattle.mas_types.specs.declared.ids.MemberId.{MemberId}
use Rattle.mas_types.specs.declared.ids.Class.{Class}
use Rattle.mas_types.specs.declared.ids.Dev.TheVariants as dev
use Rattle.mas_types.specs.declared.queues.Config.{Config}
use Rattle.mas_types.specs.declared.queues.Queue.{Queue}
use Rattle.mas_types.specs.declared.answers.Closing.TheVariants as closing
use Rattle.mas_types.specs.declared.answers.CopyState.TheVariants as copy
use Rattle.mas_types.specs.declared.answers.LineCause.TheVariants as cause
use Rattle.mas_types.specs.declared.answers.Status.TheVariants as status
use Rattle.mas_types.specs.Closings.{closing_text}
use Rattle.mas_types.specs.Fit.{is_class_byte, is_text_line}
use Rattle.mas_types.specs.Limits.{classes_most, index_most, line_bytes, prio_most, printer_lines_most, text_lines_most, wires_most}
use Rattle.mas_types.specs.Names.{is_name_text, member_name, member_text, padded}
use Rattle.mas_types.specs.Numerals.{is_numeral, key_of, value_of}
use Rattle.mas_types.specs.Starts.{default_config, default_setting, empty_queue}
use Rattle.mas_types.specs.Statuses.{status_code}

-- the number that a text is read as, none where it is no numeral or above the most
abbrev pub number_in : List ℕ → ℕ → Option ℕ
number_in text most = if is_numeral text && nat_le (value_of text) most then Some (value_of text) else None

abbrev pub member : ℕ → MemberId
member m = record { 0 = m }

abbrev pub begun : Queue
begun = empty_queue default_config []

pub record TextsAreRead : Type 0 where
  -- one to eight capital letters, digits and @, #, $
  pub names :
      map is_name_text (codes "A" ∷ codes "PAY$#@9Z" ∷ [] ∷ codes "NINEBYTES" ∷ codes "pay" ∷ codes "A B" ∷ codes "A-B" ∷ [])
      ≡ true ∷ true ∷ false ∷ false ∷ false ∷ false ∷ false ∷ []
  pub padding : map padded (codes "A" ∷ codes "PAY$#@9Z" ∷ []) ≡ codes "A       " ∷ codes "PAY$#@9Z" ∷ []
  -- A, Z, 0 and 9; the bytes next to them, a and $
  pub classes :
      map is_class_byte (65 ∷ 90 ∷ 48 ∷ 57 ∷ 64 ∷ 91 ∷ 47 ∷ 58 ∷ 97 ∷ 36 ∷ [])
      ≡ true ∷ true ∷ true ∷ true ∷ false ∷ false ∷ false ∷ false ∷ false ∷ false ∷ []
  -- a number has at most ten digits, and no sign
  pub numbers :
      (number_in (codes "0") 0 ∷ number_in (codes "1") 0 ∷ number_in (codes "15") 15 ∷ number_in (codes "16") 15
      ∷ number_in (codes "0000000016") 16 ∷ number_in (codes "00000000016") 16 ∷ number_in (codes "4294967295") 4294967295
      ∷ number_in (codes "4294967296") 4294967295 ∷ number_in (codes "9999999999") 4294967295 ∷ number_in [] 9 ∷ number_in (codes "+1") 9
      ∷ number_in (codes "1 ") 9 ∷ number_in (codes "A") 99 ∷ [])
      ≡ (Some 0 ∷ None ∷ Some 15 ∷ None ∷ Some 16 ∷ None ∷ Some 4294967295 ∷ None ∷ None ∷ None ∷ None ∷ None ∷ None
      ∷ [])
  pub keys : map key_of (1 ∷ 99999 ∷ 100000 ∷ 999999 ∷ []) ≡ codes "JOB00001" ∷ codes "JOB99999" ∷ codes "J0100000" ∷ codes "J0999999" ∷ []
  pub members : map member_text (1 ∷ 8 ∷ []) ≡ codes "SYSA" ∷ codes "SYSH" ∷ []
  pub operator : map (λ m. (member_name (member m)).0) (0 ∷ 1 ∷ 8 ∷ []) ≡ codes "OPER    " ∷ codes "SYSA    " ∷ codes "SYSH    " ∷ []
  pub dormant : closing_text (closing.Dormant 18446744073709551615) ≡ codes "DORMANT 18446744073709551615"
  pub statuses :
      map status_code (
      status.Done ∷ status.Words ∷ status.BadLine 1 cause.Text ∷ status.TooLong ∷ status.SourceFault
      ∷ status.NotFormatted copy.Unread copy.Unread ∷ status.BothLost ∷ status.ConsoleFault
      ∷ status.DeviceSize (dev.Spool 2) 4096
      ∷ status.NoMemory ∷ [])
      ≡ 0 ∷ 1 ∷ 2 ∷ 2 ∷ 3 ∷ 4 ∷ 5 ∷ 6 ∷ 7 ∷ 8 ∷ []
  -- a blank and a tilde; the bytes next to them
  pub bytes :
      map is_text_line ((32 ∷ 126 ∷ []) ∷ [] ∷ (127 ∷ []) ∷ (31 ∷ []) ∷ []) ≡ true ∷ true ∷ false ∷ false ∷ []
  pub limits :
      prio_most ∷ classes_most ∷ index_most ∷ wires_most ∷ line_bytes ∷ text_lines_most ∷ printer_lines_most ∷ []
      ≡ 15 ∷ 36 ∷ 32 ∷ 8 ∷ 132 ∷ 9999 ∷ 9999 ∷ []
  pub queue : length begun.owners ∷ length begun.members ∷ length begun.lines ∷ length begun.jobs ∷ []
      ≡ 512 ∷ 2 ∷ 8 ∷ 0 ∷ []
  pub node : begun.config.node.0 ≡ codes "HERE    "
  pub setting : map (λ c. c.0) default_setting.prt ≡ codes "ABCDEFGHIJKLMNOPQRSTUVWXYZ0123456789"
  pub lines : default_setting.lines ≡ 20
