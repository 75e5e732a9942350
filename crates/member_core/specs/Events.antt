-- The events of a world: where each is possible, and what it does.
use Rattle.std.specs.Prelude.{ℕ, zero, suc, ◌+◌, ◌-◌, ◌*◌, Bool, true, false, not, ◌&&◌, ◌||◌, nat_lt, nat_le, if◌then◌else◌, List, [], ◌∷◌, ◌++◌, length, Option, Some, None, map, filter}
use Rattle.std.specs.List.{list_any, list_all}
use Rattle.mas_types.specs.declared.ids.MemberId.{MemberId}
use Rattle.mas_types.specs.declared.ids.GroupNo.{GroupNo}
use Rattle.mas_types.specs.declared.ids.Dev.{Dev}
use Rattle.mas_types.specs.declared.ids.Dev.TheVariants as dev
use Rattle.mas_types.specs.declared.jobs.Output.{Output}
use Rattle.mas_types.specs.declared.queues.Config.{Config}
use Rattle.mas_types.specs.declared.queues.Owner.TheVariants as owner
use Rattle.mas_types.specs.declared.queues.Queue.{Queue}
use Rattle.mas_types.specs.declared.commands.Command.{Command}
use Rattle.mas_types.specs.declared.commands.Command.TheVariants as command
use Rattle.mas_types.specs.declared.journals.Fate.{Fate}
use Rattle.mas_types.specs.declared.journals.Fate.TheVariants as fate
use Rattle.mas_types.specs.declared.journals.Entry.{Entry}
use Rattle.mas_types.specs.declared.journals.Batch.{Batch}
use Rattle.mas_types.specs.Ids.{is_somebody, same_member, nobody}
use Rattle.mas_types.specs.Queue.{output_at, printing_at, total}
use Rattle.mas_types.specs.Owners.{is_members}
use Rattle.queue_laws.specs.OwnerChange.{is_thing}
use Rattle.paper_laws.specs.Counts.{may_mark}
use Rattle.paper_laws.specs.Paper.{busy_in}
use Rattle.mas_types.specs.Step.{step}
use Rattle.mas_types.specs.Run.{run}
use Rattle.member_core.specs.declared.worlds.At.{At}
use Rattle.member_core.specs.declared.worlds.At.TheVariants as at
use Rattle.member_core.specs.declared.worlds.Left.{Left}
use Rattle.member_core.specs.declared.worlds.Left.TheVariants as left
use Rattle.member_core.specs.declared.worlds.CopyAt.{CopyAt}
use Rattle.member_core.specs.declared.worlds.MemberAt.{MemberAt}
use Rattle.member_core.specs.declared.worlds.Inked.{Inked}
use Rattle.member_core.specs.declared.worlds.Said.{Said}
use Rattle.member_core.specs.declared.worlds.Event.{Event}
use Rattle.member_core.specs.declared.worlds.Event.TheVariants as event
use Rattle.member_core.specs.declared.worlds.World.{World}
use Rattle.member_core.specs.Worlds.{is_nil, at_or, is_away, is_locked, is_read1, is_read2, is_ready, is_logged1, is_logged2, is_opened1, absent, member_at, on_member, is_up, acts, to_stage, first_copy, second_copy, on_copies, same_copy, longest, reads_so_many, kept, flying, settled, with_batches, is_of, has_unkept}

-- A NEW WORLD

abbrev pub new_copy : CopyAt
new_copy = record { good = true; reads = []; next = None; sure = true }

abbrev pub new_member : MemberAt
new_member = record { up = true; stage = at.Away; own = []; batch = []; printed = 0; step = 1 }

abbrev pub new_members : ℕ → List MemberAt
new_members zero = []
new_members (suc n) = new_member ∷ new_members n

abbrev pub start : Queue → World
start base = record {
  base = base;
  journal = with_batches [];
  copies = new_copy ∷ (new_copy ∷ []);
  holder = nobody;
  members = absent ∷ new_members base.config.members;
  printed = [];
  unsynced = [];
  told = [];
}

-- LOCK, FREE, SEIZE

abbrev pub can_lock : World → MemberId → Bool
can_lock w m = is_up w m && (is_away (member_at w m).stage &&
    (not (is_somebody w.holder) && is_away (member_at w nobody).stage))

abbrev pub lock : World → MemberId → World
lock w m = record w { holder = m; members = on_member m (to_stage at.Locked) w.members }

abbrev pub can_free : World → MemberId → Bool
can_free w m = is_up w m && (same_member w.holder m && (is_nil (member_at w m).batch && is_nil (flying w)))

abbrev pub free : World → MemberId → World
free w m = record w { holder = nobody; members = on_member m (to_stage at.Away) w.members }

abbrev pub can_seize : World → MemberId → MemberId → Bool
can_seize w by of_member =
    is_up w by && (is_away (member_at w by).stage &&
    (is_somebody of_member && (not (member_at w of_member).up && same_member w.holder of_member)))

abbrev pub seize : World → MemberId → World
seize w by = record w { holder = by; members = on_member by (to_stage at.Locked) w.members }

-- FIRST READ, SECOND READ, PRIMARY

abbrev pub can_read_first : World → MemberId → Bool
can_read_first w m = is_up w m && is_locked (member_at w m).stage

abbrev pub made_sure : CopyAt → CopyAt
made_sure c = record c { sure = true }

abbrev pub read_first : World → MemberId → World
read_first w m = record w {
  copies = on_copies made_sure made_sure w.copies;
  members = on_member m (to_stage at.Read1)
      w.members;
}

abbrev pub is_any_good : List CopyAt → Bool
is_any_good copies = (first_copy copies).good || (second_copy copies).good

abbrev pub can_read_second : World → MemberId → Bool
can_read_second w m = is_up w m && (is_read1 (member_at w m).stage && is_any_good w.copies)

abbrev pub has_read : List Entry → MemberAt → MemberAt
has_read own a = record a { stage = at.Read2; own = own }

abbrev pub read_second : World → MemberId → World
read_second w m = record w { members = on_member m (has_read (longest w.copies)) w.members }

-- whether a list that is the kept one, or that and the batch in flight, has that batch
abbrev pub has_flying : World → List Entry → Bool
has_flying w own = nat_lt (length (kept w)) (length own)

-- the fate of the batch in flight, by whether it was found
abbrev pub fate_by : Bool → Fate
fate_by true = fate.Kept
fate_by false = fate.Dropped

abbrev pub reads_after : Bool → List Entry → List Entry → List Entry
reads_after true own reads = own
reads_after false own reads = reads

-- a copy once the batch in flight has its fate: no next list, and a good one reads a batch that was found
abbrev pub after_primary : Bool → List Entry → CopyAt → CopyAt
after_primary found own c = record c { reads = reads_after (found && c.good) own c.reads; next = None }

abbrev pub can_settle : World → MemberId → Bool
can_settle w m = is_up w m && is_read2 (member_at w m).stage

abbrev pub primary : World → MemberId → World
primary w m = record w {
  journal = with_batches (settled (fate_by (has_flying w (member_at w m).own)) w.journal.batches);
  copies = on_copies (after_primary (has_flying w (member_at w m).own) (member_at w m).own)
      (after_primary (has_flying w (member_at w m).own) (member_at w m).own) w.copies;
  members = on_member m (to_stage at.Ready) w.members;
}

-- DO

abbrev pub allowed : World → MemberId → Command → Bool
allowed w m (command.Reset of_member) = not (is_up w of_member)
allowed w m command.Restart = false
allowed w m (command.Mark job index n) = may_mark m (member_at w m).printed n
    (output_at (run w.base (member_at w m).own) job index)
allowed w m _ = true

abbrev pub can_do : World → MemberId → Command → Bool
can_do w m c = is_up w m && (is_ready (member_at w m).stage && allowed w m c)

-- a command with its reply
abbrev pub entry_of : Queue → MemberId → ℕ → Command → Entry
entry_of Q m n c = record { by = m; step = n; command = c; reply = (step Q m c).1 }

-- after Pick, Mark, Back and Forward a member counts its printed lines anew
abbrev pub printed_after : Command → ℕ → ℕ
printed_after command.Pick n = 0
printed_after (command.Mark job index line) n = 0
printed_after (command.Back lines) n = 0
printed_after (command.Forward lines) n = 0
printed_after _ n = n

abbrev pub has_done : Command → Entry → MemberAt → MemberAt
has_done c e a = record a { own = a.own ++ e ∷ []; batch = a.batch ++ e ∷ []; printed = printed_after c a.printed }

abbrev pub do_command : World → MemberId → Command → World
do_command w m c = record w {
  members = on_member m (has_done c (entry_of (run w.base (member_at w m).own) m (member_at w m).step c)) w.members;
}

-- LOG, OPEN

-- a deck's or an output's group
abbrev pub is_thing_at : Queue → GroupNo → Bool
is_thing_at Q g = is_thing (at_or owner.Free g.0 Q.owners)

-- no group of a deck or an output is unsynced
abbrev pub is_synced : Queue → List GroupNo → Bool
is_synced Q unsynced = list_all (λ g. not (is_thing_at Q g)) unsynced

abbrev pub can_log : World → MemberId → Dev → Bool
can_log w m dev.Ckpt1 = acts w m &&
    (is_ready (member_at w m).stage &&
    (not (is_nil (member_at w m).batch) && is_synced (run w.base (member_at w m).own) w.unsynced))
can_log w m dev.Ckpt2 = acts w m &&
    (is_logged1 (member_at w m).stage && is_synced (run w.base (member_at w m).own) w.unsynced)
can_log w m (dev.Spool v) = false

abbrev pub next_if : Bool → List Entry → Option (List Entry) → Option (List Entry)
next_if true own next = Some own
next_if false own next = next

abbrev pub has_next : List Entry → CopyAt → CopyAt
has_next own c = record c { next = next_if c.good own c.next }

abbrev pub flying_batch : MemberId → List Entry → Batch
flying_batch m es = record { first = 0; last = 0; by = m; fate = fate.Flying; entries = es }

abbrev pub log_first : World → MemberId → World
log_first w m = record w {
  journal = with_batches (w.journal.batches ++ flying_batch m (member_at w m).batch ∷ []);
  copies = on_copies (has_next (member_at w m).own) same_copy w.copies;
  members = on_member m (to_stage at.Logged1) w.members;
}

abbrev pub log_second : World → MemberId → World
log_second w m = record w {
  copies = on_copies same_copy (has_next (member_at w m).own) w.copies;
  members = on_member m (to_stage at.Logged2) w.members;
}

abbrev pub can_open : World → MemberId → Dev → Bool
can_open w m dev.Ckpt1 = acts w m && is_logged2 (member_at w m).stage
can_open w m dev.Ckpt2 = acts w m && is_opened1 (member_at w m).stage
can_open w m (dev.Spool v) = false

abbrev pub next_unless : Bool → Option (List Entry) → Option (List Entry)
next_unless true next = None
next_unless false next = next

-- a good copy reads its member's list
abbrev pub opened : List Entry → CopyAt → CopyAt
opened own c = record c { reads = reads_after c.good own c.reads; next = next_unless c.good c.next }

-- the batches, kept once each good copy reads so many entries
abbrev pub kept_once : Bool → List Batch → List Batch
kept_once true bs = settled fate.Kept bs
kept_once false bs = bs

abbrev pub all_read : List Entry → List CopyAt → Bool
all_read own copies = reads_so_many (length own) (first_copy copies) && reads_so_many (length own) (second_copy copies)

abbrev pub open_first : World → MemberId → World
open_first w m = record w {
  journal = with_batches (kept_once
      (all_read (member_at w m).own (on_copies (opened (member_at w m).own) same_copy w.copies)) w.journal.batches);
  copies = on_copies (opened (member_at w m).own) same_copy w.copies;
  members = on_member m (to_stage at.Opened1) w.members;
}

-- where a member goes that has written its batch
abbrev pub written_stage : MemberId → At
written_stage m = if is_somebody m then at.Ready else at.Away

abbrev pub has_written : At → MemberAt → MemberAt
has_written s a = record a { stage = s; batch = [] }

abbrev pub open_second : World → MemberId → World
open_second w m = record w {
  journal = with_batches (kept_once
      (all_read (member_at w m).own (on_copies same_copy (opened (member_at w m).own) w.copies)) w.journal.batches);
  copies = on_copies same_copy (opened (member_at w m).own) w.copies;
  members = on_member m (has_written (written_stage m)) w.members;
}

-- TELL

-- a batch in Ready that has an entry of the step
abbrev pub has_begun : MemberId → MemberAt → Bool
has_begun m a = is_ready a.stage && list_any (is_of m a.step) a.batch

abbrev pub can_tell : World → MemberId → Bool
can_tell w m = is_up w m && (list_any (is_of m (member_at w m).step) (kept w)
    && (not (has_unkept w.journal.batches m (member_at w m).step) && not (has_begun m (member_at w m))))

abbrev pub next_step : MemberAt → MemberAt
next_step a = record a { step = a.step + 1 }

abbrev pub said : MemberId → ℕ → Said
said m n = record { by = m; step = n }

abbrev pub tell : World → MemberId → World
tell w m = record w { told = w.told ++ said m (member_at w m).step ∷ []; members = on_member m next_step w.members }

-- SPOOL WRITES AND SYNCS

abbrev pub is_members_at : Queue → MemberId → GroupNo → Bool
is_members_at Q m g = is_members m (at_or owner.Free g.0 Q.owners)

abbrev pub can_write : World → MemberId → GroupNo → Bool
can_write w m g = is_up w m &&
    (is_members_at (run w.base (kept w)) m g && is_members_at (run w.base (kept w ++ flying w)) m g)

abbrev pub spool_write : World → GroupNo → World
spool_write w g = record w { unsynced = w.unsynced ++ g ∷ [] }

-- a group of the volume, counted from 1
abbrev pub is_in_volume : Config → ℕ → GroupNo → Bool
is_in_volume config v g = nat_le ((v - 1) * config.groups) g.0 && nat_lt g.0 (v * config.groups)

abbrev pub spool_sync : World → ℕ → World
spool_sync w v = record w { unsynced = filter (λ g. not (is_in_volume w.base.config v g)) w.unsynced }

-- PRINTED LINES

-- the output is busy there in the other queue too, and has a further line
abbrev pub has_line : Queue → MemberId → ℕ → Option Output → Bool
has_line Q m printed None = false
has_line Q m printed (Some o) = busy_in (output_at Q o.job o.index) m && nat_lt (o.mark + printed) (total o)

abbrev pub is_idle : MemberAt → Bool
is_idle a = is_away a.stage || (is_ready a.stage && is_nil a.batch)

abbrev pub can_print : World → MemberId → Bool
can_print w m = is_up w m && (is_idle (member_at w m)
    && has_line (run w.base (kept w ++ flying w)) m (member_at w m).printed (printing_at (run w.base (kept w)) m))

abbrev pub next_line : ℕ → Option Output → List Inked
next_line printed None = []
next_line printed (Some o) = record { job = o.job; index = o.index; line = o.mark + printed + 1 } ∷ []

abbrev pub has_printed : MemberAt → MemberAt
has_printed a = record a { printed = a.printed + 1 }

abbrev pub print_line : World → MemberId → World
print_line w m = record w {
  printed = w.printed ++ next_line (member_at w m).printed (printing_at (run w.base (kept w)) m);
  members = on_member m has_printed w.members;
}

-- STOPS AND LOSSES

-- the next list is longer than what the copy reads
abbrev pub is_longer : List Entry → Option (List Entry) → Bool
is_longer reads None = false
is_longer reads (Some next) = nat_lt (length reads) (length next)

-- whether the next event of a member in this stage writes the gate of the first copy, of the second
abbrev pub opens_first : List Entry → At → List Entry → Bool
opens_first kept at.Logged2 own = true
opens_first kept at.Read2 own = nat_lt (length kept) (length own)
opens_first kept _ own = false

abbrev pub opens_second : List Entry → At → List Entry → Bool
opens_second kept at.Opened1 own = true
opens_second kept at.Read2 own = nat_lt (length kept) (length own)
opens_second kept _ own = false

-- what the act in hand left of a list and the next one
abbrev pub left_of : Left → List Entry → Option (List Entry) → List Entry
left_of left.Old reads next = reads
left_of left.New reads None = reads
left_of left.New reads (Some next) = next

-- a copy that an opening would make read a longer list
abbrev pub is_hit : Bool → CopyAt → Bool
is_hit opens c = opens && (c.good && is_longer c.reads c.next)

abbrev pub after_stop : Left → Bool → CopyAt → CopyAt
after_stop l opens c = if is_hit opens c then record c { sure = false; reads = left_of l c.reads c.next } else c

abbrev pub has_stopped : MemberAt → MemberAt
has_stopped a = record a { up = false; step = a.step + 1 }

abbrev pub stop : World → MemberId → Left → World
stop w m l = record w {
  copies = on_copies (after_stop l (opens_first (kept w) (member_at w m).stage (member_at w m).own))
      (after_stop l (opens_second (kept w) (member_at w m).stage (member_at w m).own)) w.copies;
  members = on_member m has_stopped w.members;
}

abbrev pub lost : CopyAt → CopyAt
lost c = record c { good = false }

abbrev pub can_lose : World → Dev → Bool
can_lose w dev.Ckpt1 = (first_copy w.copies).good
can_lose w dev.Ckpt2 = (second_copy w.copies).good
can_lose w (dev.Spool v) = false

abbrev pub lose : World → Dev → World
lose w dev.Ckpt1 = record w { copies = on_copies lost same_copy w.copies }
lose w dev.Ckpt2 = record w { copies = on_copies same_copy lost w.copies }
lose w (dev.Spool v) = w

-- RENEWED COPIES

-- a copy that is written anew reads as the kept entries
abbrev pub renewed : List Entry → CopyAt → CopyAt
renewed kept c = record { good = true; reads = kept; next = None; sure = true }

-- the member may give commands and has given none, so nothing is in flight
abbrev pub is_at_rest : World → MemberId → Bool
is_at_rest w m = is_up w m && (is_ready (member_at w m).stage && is_nil (member_at w m).batch)

-- the copy isn't good, and the other one is
abbrev pub can_renew : World → MemberId → Dev → Bool
can_renew w m dev.Ckpt1 = is_at_rest w m && (not (first_copy w.copies).good && (second_copy w.copies).good)
can_renew w m dev.Ckpt2 = is_at_rest w m && ((first_copy w.copies).good && not (second_copy w.copies).good)
can_renew w m (dev.Spool v) = false

abbrev pub renew : World → Dev → World
renew w dev.Ckpt1 = record w { copies = on_copies (renewed (kept w)) same_copy w.copies }
renew w dev.Ckpt2 = record w { copies = on_copies same_copy (renewed (kept w)) w.copies }
renew w (dev.Spool v) = w

-- CRASHES

-- an unsure gate is old with the kept entries
abbrev pub after_crash : Left → List Entry → Bool → CopyAt → CopyAt
after_crash l kept opens c =
    if c.sure then (if is_hit opens c then record c { reads = left_of l c.reads c.next } else c)
    else record c { sure = true; reads = left_of l kept c.next }

-- whether the next event of the holder, or of member 0, opens the first copy, the second
abbrev pub anyone_opens : (At → List Entry → Bool) → World → Bool
anyone_opens opens w = (is_up w w.holder && opens (member_at w w.holder).stage (member_at w w.holder).own) || opens
    (member_at w nobody).stage (member_at w nobody).own

abbrev pub has_fallen : MemberAt → MemberAt
has_fallen a = record a { up = false; stage = at.Away; batch = []; step = a.step + 1 }

abbrev pub crash : World → Left → World
crash w l = record w {
  copies = on_copies (after_crash l (kept w) (anyone_opens (opens_first (kept w)) w))
      (after_crash l (kept w) (anyone_opens (opens_second (kept w)) w)) w.copies;
  holder = nobody;
  members = map has_fallen w.members;
}

-- START

abbrev pub is_nobody_up : List MemberAt → Bool
is_nobody_up members = not (list_any (λ a. a.up) members)

abbrev pub can_start : World → Bool
can_start w = is_nobody_up w.members && is_any_good w.copies

abbrev pub has_risen : MemberAt → MemberAt
has_risen a = record a { up = true; stage = at.Away; batch = [] }

-- member 0 with the batch Restart
abbrev pub restarting : List Entry → Entry → MemberAt → MemberAt
restarting own e a = record {
  up = false;
  stage = at.Ready;
  own = own
      ++ e ∷ [];
  batch = e ∷ [];
  printed = a.printed;
  step = 0;
}

abbrev pub risen : List Entry → Entry → List MemberAt → List MemberAt
risen own e [] = []
risen own e (a ∷ members) = restarting own e a ∷ map has_risen members

abbrev pub restart_entry : Queue → Entry
restart_entry Q = entry_of Q nobody 0 command.Restart

abbrev pub after_start : Bool → List Entry → CopyAt → CopyAt
after_start found own c = after_primary found own (made_sure c)

abbrev pub restart : World → World
restart w = record w {
  journal = with_batches (settled (fate_by (has_flying w (longest w.copies))) w.journal.batches);
  copies = on_copies (after_start (has_flying w (longest w.copies)) (longest w.copies))
      (after_start (has_flying w (longest w.copies)) (longest w.copies)) w.copies;
  holder = nobody;
  members = risen (longest w.copies) (restart_entry (run w.base (longest w.copies))) w.members;
  unsynced = [];
}

-- ALL OF THEM

abbrev pub possible : World → Event → Bool
possible w (event.Lock m) = can_lock w m
possible w (event.FirstRead m) = can_read_first w m
possible w (event.SecondRead m) = can_read_second w m
possible w (event.Primary m) = can_settle w m
possible w (event.Do m c) = can_do w m c
possible w (event.Log m d) = can_log w m d
possible w (event.OpenCopy m d) = can_open w m d
possible w (event.Free m) = can_free w m
possible w (event.Tell m) = can_tell w m
possible w (event.SpoolWrite m g) = can_write w m g
possible w (event.SpoolSync m v) = is_up w m
possible w (event.PrintLine m) = can_print w m
possible w (event.Stop m l) = is_up w m
possible w (event.Seize by of_member) = can_seize w by of_member
possible w (event.Lose d) = can_lose w d
possible w (event.Renew m d) = can_renew w m d
possible w (event.Crash l) = true
possible w event.Start = can_start w

abbrev pub log : World → MemberId → Dev → World
log w m dev.Ckpt1 = log_first w m
log w m dev.Ckpt2 = log_second w m
log w m (dev.Spool v) = w

abbrev pub open_copy : World → MemberId → Dev → World
open_copy w m dev.Ckpt1 = open_first w m
open_copy w m dev.Ckpt2 = open_second w m
open_copy w m (dev.Spool v) = w

abbrev pub happens : World → Event → World
happens w (event.Lock m) = lock w m
happens w (event.FirstRead m) = read_first w m
happens w (event.SecondRead m) = read_second w m
happens w (event.Primary m) = primary w m
happens w (event.Do m c) = do_command w m c
happens w (event.Log m d) = log w m d
happens w (event.OpenCopy m d) = open_copy w m d
happens w (event.Free m) = free w m
happens w (event.Tell m) = tell w m
happens w (event.SpoolWrite m g) = spool_write w g
happens w (event.SpoolSync m v) = spool_sync w v
happens w (event.PrintLine m) = print_line w m
happens w (event.Stop m l) = stop w m l
happens w (event.Seize by of_member) = seize w by
happens w (event.Lose d) = lose w d
happens w (event.Renew m d) = renew w d
happens w (event.Crash l) = crash w l
happens w event.Start = restart w

-- the world after an event, if it is possible
abbrev pub moved : World → Event → World
moved w e = if possible w e then happens w e else w

-- the world after the events, those skipped that aren't possible
abbrev pub runs : World → List Event → World
runs w [] = w
runs w (e ∷ es) = runs (moved w e) es
