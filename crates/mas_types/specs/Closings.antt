-- The closing line of a step, and its detail lines.
use Rattle.std.specs.Prelude.{ℕ, ◌≤◌, List, [], ◌∷◌, ◌++◌, length, map, decimal, codes}
use Rattle.mas_types.specs.declared.ids.MemberId.{MemberId}
use Rattle.mas_types.specs.declared.ids.Dev.{Dev}
use Rattle.mas_types.specs.declared.ids.Dev.TheVariants as dev
use Rattle.mas_types.specs.declared.commands.Refusal.{Refusal}
use Rattle.mas_types.specs.declared.commands.Refusal.TheVariants as refusal
use Rattle.mas_types.specs.declared.commands.Reply.{Reply}
use Rattle.mas_types.specs.declared.commands.Reply.TheVariants as reply
use Rattle.mas_types.specs.declared.answers.CardCause.{CardCause}
use Rattle.mas_types.specs.declared.answers.CardCause.TheVariants as cards
use Rattle.mas_types.specs.declared.answers.Closing.{Closing}
use Rattle.mas_types.specs.declared.answers.Closing.TheVariants as closing
use Rattle.mas_types.specs.Limits.{members_most}
use Rattle.mas_types.specs.Numerals.{in_digits, key_of}
use Rattle.mas_types.specs.Shown.{words, member_word, output_key, phase_text}

abbrev pub refusal_text : Refusal → List ℕ
refusal_text refusal.JobsFull = codes "JOBS FULL"
refusal_text refusal.OutputsFull = codes "OUTPUTS FULL"
refusal_text refusal.SpoolFull = codes "SPOOL FULL"
refusal_text refusal.NoJob = codes "NO JOB"
refusal_text refusal.NoOutput = codes "NO OUTPUT"
refusal_text (refusal.InUse m) = words (codes "IN USE" ∷ member_word m ∷ [])
refusal_text (refusal.WrongPhase phase) = words (codes "PHASE" ∷ phase_text phase ∷ [])
refusal_text refusal.Nothing = codes "NOTHING"
refusal_text refusal.NoMember = codes "NO MEMBER"
refusal_text refusal.NoNode = codes "NO NODE"
refusal_text (refusal.Again n) = words (codes "AGAIN" ∷ decimal n ∷ [])
refusal_text (refusal.Gap n kept) = words (codes "GAP" ∷ decimal n ∷ decimal kept ∷ [])

-- the word of a card that is refused
abbrev pub card_cause_text : CardCause → List ℕ
card_cause_text cards.Text = codes "TEXT"
card_cause_text cards.Many = codes "MANY"
card_cause_text cards.After = codes "AFTER"
card_cause_text cards.First = codes "FIRST"
card_cause_text cards.Name = codes "NAME"
card_cause_text cards.Operand = codes "OPERAND"
card_cause_text cards.Jes = codes "JES"
card_cause_text cards.Place = codes "PLACE"

abbrev pub device_word : Dev → List ℕ
device_word dev.Ckpt1 = codes "CKPT1"
device_word dev.Ckpt2 = codes "CKPT2"
device_word (dev.Spool volume) = codes "SPOOL" ++ decimal volume

-- a reply as the text after OK, or NO and the refusal
abbrev pub reply_text : Reply → List ℕ
reply_text reply.Plain = codes "OK"
reply_text (reply.Job job) = words (codes "OK" ∷ key_of job.0 ∷ [])
reply_text (reply.Output job index) = words (codes "OK" ∷ output_key job index ∷ [])
reply_text (reply.Count n) = words (codes "OK" ∷ decimal n ∷ [])
reply_text (reply.Shown lines) = words (codes "OK" ∷ decimal (length lines) ∷ [])
reply_text (reply.No why) = words (codes "NO" ∷ refusal_text why ∷ [])

abbrev pub closing_text : Closing → List ℕ
closing_text (closing.Reply answer) = reply_text answer
closing_text (closing.DoneUnits n) = words (codes "OK DONE" ∷ decimal n ∷ [])
closing_text (closing.Busy holder) = words (codes "BUSY" ∷ member_word holder ∷ [])
closing_text (closing.Dormant tick) = words (codes "DORMANT" ∷ decimal tick ∷ [])
closing_text closing.Down = codes "DOWN"
closing_text closing.Stopped = codes "STOPPED"
closing_text (closing.Up m) = words (codes "NO UP" ∷ member_word m ∷ [])
closing_text (closing.ResetOf m) = words (codes "OK" ∷ member_word m ∷ [])
closing_text closing.NotHolder = codes "NO NOT HOLDER"
closing_text (closing.BadCard card cause) = words (codes "NO BAD CARD" ∷ decimal card ∷ card_cause_text cause ∷ [])
closing_text (closing.SpoolLost volume) = words (codes "NO SPOOL LOST" ∷ decimal volume ∷ [])
closing_text closing.PrinterLost = codes "NO PRINTER LOST"
closing_text (closing.LineLost line) = words (codes "NO LINE LOST" ∷ decimal line ∷ [])
closing_text (closing.NoText group) = words (codes "NO TEXT" ∷ decimal group.0 ∷ [])
closing_text (closing.NotLost copy) = words (codes "NO NOT LOST" ∷ device_word copy ∷ [])
closing_text (closing.CkptLost copy) = words (codes "NO CKPT LOST" ∷ device_word copy ∷ [])
closing_text (closing.Line sent got) = words (codes "OK SENT" ∷ decimal sent ∷ codes "GOT" ∷ decimal got ∷ [])

-- WHOSE NAMES STAND IN A CLOSING. Members from 1 on have names up to the greatest member

abbrev pub IsRefusalNamed : Refusal → Type 0
IsRefusalNamed (refusal.InUse m) = m.0 ≤ members_most
IsRefusalNamed _ = Unit {0}

abbrev pub IsReplyNamed : Reply → Type 0
IsReplyNamed (reply.No why) = IsRefusalNamed why
IsReplyNamed _ = Unit {0}

abbrev pub AreMembersNamed : Closing → Type 0
AreMembersNamed (closing.Reply answer) = IsReplyNamed answer
AreMembersNamed (closing.Busy m) = m.0 ≤ members_most
AreMembersNamed (closing.Up m) = m.0 ≤ members_most
AreMembersNamed (closing.ResetOf m) = m.0 ≤ members_most
AreMembersNamed _ = Unit {0}

-- THE LINES

-- the line with which a step closes: who says it, the step in five digits, and how it closed
abbrev pub closing_line : MemberId → ℕ → Closing → List ℕ
closing_line by step end = words (member_word by ∷ in_digits 5 step ∷ closing_text end ∷ [])

-- a line of a display: who says it, the step in five digits, and the line's text
abbrev pub detail_line : MemberId → ℕ → List ℕ → List ℕ
detail_line by step text = words (member_word by ∷ in_digits 5 step ∷ codes "-" ∷ text ∷ [])

-- the lines of a display, which stand before the closing line
abbrev pub detail_lines : MemberId → ℕ → List (List ℕ) → List (List ℕ)
detail_lines by step shown = map (detail_line by step) shown

-- the lines of a reply: those of a display
abbrev pub details_of : MemberId → ℕ → Reply → List (List ℕ)
details_of by step (reply.Shown lines) = detail_lines by step lines
details_of by step _ = []

-- the lines of a step that closes with the reply: those of a display, and behind them the closing line
abbrev pub reply_lines : MemberId → ℕ → Reply → List (List ℕ)
reply_lines by step answer = details_of by step answer ++ closing_line by step (closing.Reply answer) ∷ []
