-- What goes over a line to another node: Load, Sent and Got.
use Rattle.std.specs.Prelude.{ℕ, ◌+◌, nat_le, nat_lt, List, [], ◌∷◌, Option, Some, None}
use Rattle.std.specs.Option.{option_map_or}
use Rattle.mas_types.specs.declared.ids.MemberId.{MemberId}
use Rattle.mas_types.specs.declared.ids.JobNo.{JobNo}
use Rattle.mas_types.specs.declared.jobs.Phase.TheVariants as phase
use Rattle.mas_types.specs.declared.queues.Queue.{Queue}
use Rattle.mas_types.specs.declared.commands.Refusal.{Refusal}
use Rattle.mas_types.specs.declared.commands.Refusal.TheVariants as refusal
use Rattle.mas_types.specs.declared.commands.Reply.TheVariants as reply
use Rattle.mas_types.specs.Lists.{change_first}
use Rattle.mas_types.specs.Ids.{no_number}
use Rattle.mas_types.specs.Queue.{current_on, is_current_on, number_of, wire_at, change_wire}
use Rattle.mas_types.specs.Selection.{for_wire}
use Rattle.mas_types.specs.Row.{Row, refused_where, none_such}
use Rattle.mas_types.specs.Commands.Input.{entered, not_entered}

-- the first of the two that is there
abbrev pub either : {A : Type 0} → Option A → Option A → Option A
either None second = second
either (Some x) second = Some x

-- LOAD: where no job is current on it, the selected one becomes so

abbrev pub load_row : Queue → ℕ → Row
load_row Q l = let found = either (current_on Q l) (for_wire Q l) in record {
  refusals = none_such refusal.Nothing found ∷ [];
  effect = change_wire l (λ count. record count { current = number_of found }) Q;
  answer = reply.Job (number_of found);
}

-- the refusals of a number that does not follow the one that is kept
abbrev pub again : ℕ → ℕ → Option Refusal
again kept number = refused_where (nat_le number kept) (refusal.Again number)

abbrev pub gap : ℕ → ℕ → Option Refusal
gap kept number = refused_where (nat_lt (kept + 1) number) (refusal.Gap number kept)

abbrev pub sent_on : Queue → ℕ → ℕ
sent_on Q l = option_map_or (λ count. count.sent) (wire_at Q l) 0

abbrev pub got_on : Queue → ℕ → ℕ
got_on Q l = option_map_or (λ count. count.got) (wire_at Q l) 0

-- SENT: the current job moves to Purge

abbrev pub sent_row : Queue → ℕ → ℕ → Row
sent_row Q l number = let found = current_on Q l in record {
  refusals = again (sent_on Q l) number ∷ gap (sent_on Q l) number ∷ none_such refusal.Nothing found ∷ [];
  effect = change_wire l (λ count. record count { sent = number; current = no_number })
      (record Q { jobs = change_first (is_current_on Q l) (λ j. record j { phase = phase.Purge }) Q.jobs });
  answer = reply.Count number;
}

-- GOT: as Enter, and the number is got

abbrev pub got_row : Queue → MemberId → ℕ → ℕ → JobNo → List (List ℕ) → Row
got_row Q m l number n text = record {
  refusals = again (got_on Q l) number ∷ gap (got_on Q l) number ∷ not_entered Q m n text;
  effect = change_wire l (λ count. record count { got = number }) (entered m n text Q);
  answer = reply.Job n;
}
