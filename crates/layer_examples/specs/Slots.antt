-- Worked examples: the slots of a job, an output and a group, the entry of a member and page 0, byte by byte.
use Rattle.std.specs.Prelude.{◌≡◌, ℕ, ◌+◌, true, false, List, [], ◌∷◌, ◌++◌, length, map, take, drop, replicate, codes, Option, None, Some}
use Rattle.std.specs.Int.{w16, w32, w64, from_be_bytes, to_be_bytes}
use Rattle.std.specs.List.{concat}
use Rattle.mas_types.specs.declared.ids.MemberId.{MemberId}
use Rattle.mas_types.specs.declared.ids.JobNo.{JobNo}
use Rattle.mas_types.specs.declared.ids.Class.{Class}
use Rattle.mas_types.specs.declared.ids.Name8.{Name8}
use Rattle.mas_types.specs.declared.jobs.Phase.TheVariants as phase
use Rattle.mas_types.specs.declared.queues.Owner.TheVariants as owner
use Rattle.mas_types.specs.Starts.{default_config, default_setting}
use Rattle.queue_laws.specs.Examples.Small.{job, class, name, member, index}
use Rattle.lay_bytes.specs.declared.records.JobRec.{JobRec}
use Rattle.lay_bytes.specs.declared.records.OutRec.{OutRec}
use Rattle.lay_bytes.specs.Slots.{job_slot, output_slot, owner_entry, job_fields, output_fields, bad_field, bad_owner_field}
use Rattle.ckpt_tables.specs.declared.tables.Tables.{Tables}
use Rattle.ckpt_tables.specs.Pages.{header_pieces, node_pieces, setting_entry}
use Rattle.ckpt_tables.specs.Shape.{page_count}
use Rattle.ckpt_pages.specs.Starts.{empty_tables}

-- the job of //HELLO JOB (1),'ME',CLASS=A, the first one that is entered
abbrev pub hello : JobRec
hello = record {
  number = job 1;
  fields = record {
    name = name (codes "HELLO");
    class = class 65;
    msgclass = class 65;
    prio = record { 0 = 5 };
    held = false;
    scan = false;
    restart = true;
    dest = name (codes "LOCAL");
    node = name (codes "HERE");
    origin = name (codes "HERE");
  };
  phase = phase.Convert;
  cancelled = false;
  busy = member 0;
  cards = 0;
  order = 0;
}

abbrev pub hello_bytes : List ℕ
hello_bytes = 2 ∷ 65 ∷ 5 ∷ 4 ∷ 0 ∷ 65 ∷ 0 ∷ 0 ∷ 0 ∷ 0 ∷ 0 ∷ 1 ∷ 0 ∷ 0 ∷ 0 ∷ 0 ∷ 0 ∷ 0 ∷ 0 ∷ 0 ∷ codes "HELLO   LOCAL   HERE    HERE    "

-- a job with another value in each field
abbrev pub payroll : JobRec
payroll = record {
  number = job 99999;
  fields = record {
    name = name (codes "PAY$#@9A");
    class = class 66;
    msgclass = class 55;
    prio = record { 0 = 15 };
    held = true;
    scan = true;
    restart = false;
    dest = name (codes "REMOTE1");
    node = name (codes "FAR");
    origin = name (codes "NEAR");
  };
  phase = phase.Xmit;
  cancelled = true;
  busy = member 8;
  cards = 9999;
  order = 72623859790382856;
}

abbrev pub payroll_bytes : List ℕ
payroll_bytes = 7 ∷ 66 ∷ 15 ∷ 11 ∷ 8 ∷ 55 ∷ 39 ∷ 15 ∷ 0 ∷ 1 ∷ 134 ∷ 159 ∷ 1 ∷ 2 ∷ 3 ∷ 4 ∷ 5 ∷ 6 ∷ 7 ∷ 8 ∷ codes "PAY$#@9AREMOTE1 FAR     NEAR    "

abbrev pub listing : OutRec
listing = record {
  job = job 1234;
  index = index 5;
  class = class 81;
  dest = name (codes "LOCAL");
  forms = name (codes "STD");
  copies = 2;
  held = true;
  busy = member 4;
  mark = 599;
  lines = 300;
  order = 78;
}

abbrev pub listing_bytes : List ℕ
listing_bytes = 1 ∷ 81 ∷ 1 ∷ 4 ∷ 0 ∷ 0 ∷ 4 ∷ 210 ∷ 5 ∷ 2 ∷ 1 ∷ 44 ∷ 0 ∷ 0 ∷ 2 ∷ 87 ∷ 0 ∷ 0 ∷ 0 ∷ 0 ∷ 0 ∷ 0 ∷ 0 ∷ 78 ∷ codes "LOCAL   STD     "

-- bytes of which one, counted from 0, is another
abbrev pub damaged : List ℕ → ℕ → ℕ → List ℕ
damaged bytes at byte = take at bytes ++ byte ∷ drop (at + 1) bytes

-- the field of a job's slot that a byte of another value is found in
abbrev pub found_in_job : ℕ → ℕ → Option ℕ
found_in_job at byte = bad_field job_fields (damaged (job_slot (Some hello)) at byte)

abbrev pub found_in_output : ℕ → ℕ → Option ℕ
found_in_output at byte = bad_field output_fields (damaged (output_slot (Some listing)) at byte)

abbrev pub tables : Tables
tables = empty_tables default_config []

-- the bytes of a member's settings: 36 classes twice, STD and 20 lines
abbrev pub setting_bytes : List ℕ
setting_bytes =
    1 ∷ 36 ∷ (codes "ABCDEFGHIJKLMNOPQRSTUVWXYZ0123456789" ++ 36 ∷ (codes "ABCDEFGHIJKLMNOPQRSTUVWXYZ0123456789STD     " ++ 0 ∷ 20 ∷ replicate 43 0))

-- the header: MASCKPT1, level 1, area 1, 2 members, 1 volume, 256 jobs, 512 outputs, 512 groups, a hold of 64
abbrev pub header_bytes : List ℕ
header_bytes =
    codes "MASCKPT1" ++ 0 ∷ 0 ∷ 0 ∷ 0 ∷ 0 ∷ 0 ∷ 0 ∷ 1 ∷ 1 ∷ 2 ∷ 1 ∷ 0 ∷ 1 ∷ 0 ∷ 2 ∷ 0 ∷ 2 ∷ 0 ∷ 0 ∷ 64 ∷ replicate 20 0

pub record SlotsAreSpelled : Type 0 where
  pub first_job : job_slot (Some hello) ≡ hello_bytes ++ replicate 204 0
  pub other_job : job_slot (Some payroll) ≡ payroll_bytes ++ replicate 204 0
  pub no_job : job_slot None ≡ replicate 256 0
  pub output : output_slot (Some listing) ≡ listing_bytes ++ replicate 88 0
  pub no_output : output_slot None ≡ replicate 128 0
  pub owners :
      map owner_entry (owner.Free ∷ owner.Member (member 3) ∷ owner.Deck (job 1234) 5
      ∷ owner.Output (job 1234) (index 7) 300 ∷ [])
      ≡ (0 ∷ 0 ∷ 0 ∷ 0 ∷ 0 ∷ 0 ∷ 0 ∷ 0 ∷ []) ∷ (1 ∷ 3 ∷ 0 ∷ 0 ∷ 0 ∷ 0 ∷ 0 ∷ 0 ∷ [])
      ∷ (2 ∷ 0 ∷ 0 ∷ 5 ∷ 0 ∷ 0 ∷ 4 ∷ 210 ∷ [])
      ∷ (3 ∷ 7 ∷ 1 ∷ 44 ∷ 0 ∷ 0 ∷ 4 ∷ 210 ∷ []) ∷ []
  -- the greatest byte stands first
  pub numbers :
      to_be_bytes w16 258 ++ to_be_bytes w32 50595078 ++ to_be_bytes w64 506664896818842894
      ≡ 1 ∷ 2 ∷ 3 ∷ 4 ∷ 5 ∷ 6 ∷ 7 ∷ 8 ∷ 9 ∷ 10 ∷ 11 ∷ 12 ∷ 13 ∷ 14 ∷ []
  pub read_number : from_be_bytes w32 (1 ∷ 2 ∷ 3 ∷ 4 ∷ []) ≡ 16909060
  pub setting : setting_entry default_setting ≡ setting_bytes
  pub node : concat (node_pieces tables) ≡ codes "HERE    " ++ replicate 120 0
  pub header : take 48 (concat (header_pieces tables 1)) ≡ header_bytes
  pub pages : page_count default_config ≡ 36

-- a byte of another value is found in the field that it falls in
pub record DamageIsFound : Type 0 where
  pub phase : found_in_job 0 0 ∷ found_in_job 0 8 ∷ [] ≡ Some 0 ∷ Some 0 ∷ []
  pub bytes :
      found_in_job 1 97 ∷ found_in_job 2 16 ∷ found_in_job 3 16 ∷ found_in_job 4 9 ∷ found_in_job 5 32
      ∷ found_in_job 6 255 ∷ []
      ≡ Some 1 ∷ Some 2 ∷ Some 3 ∷ Some 4 ∷ Some 5 ∷ Some 6 ∷ []
  pub number : found_in_job 8 1 ∷ found_in_job 11 0 ∷ [] ≡ Some 8 ∷ Some 8 ∷ []
  pub names :
      found_in_job 20 32 ∷ found_in_job 21 32 ∷ found_in_job 27 0 ∷ found_in_job 35 65 ∷ found_in_job 36 45
      ∷ found_in_job 51 1 ∷ []
      ≡ Some 20 ∷ Some 20 ∷ Some 20 ∷ Some 28 ∷ Some 36 ∷ Some 44 ∷ []
  pub zeros : found_in_job 52 1 ∷ found_in_job 255 1 ∷ [] ≡ Some 52 ∷ Some 52 ∷ []
  pub output :
      found_in_output 0 2 ∷ found_in_output 1 0 ∷ found_in_output 2 2 ∷ found_in_output 3 9 ∷ found_in_output 4 1
      ∷ found_in_output 8 0
      ∷ found_in_output 8 33 ∷ found_in_output 9 0 ∷ found_in_output 10 255 ∷ found_in_output 24 0
      ∷ found_in_output 39 120
      ∷ found_in_output 40 1 ∷ found_in_output 127 1 ∷ []
      ≡ Some 0 ∷ Some 1 ∷ Some 2 ∷ Some 3 ∷ Some 4 ∷ Some 8 ∷ Some 8 ∷ Some 9 ∷ Some 10 ∷ Some 24 ∷ Some 32 ∷ Some 40
      ∷ Some 40 ∷ []
  pub free : bad_owner_field (0 ∷ 1 ∷ 0 ∷ 0 ∷ 0 ∷ 0 ∷ 0 ∷ 0 ∷ []) ∷ bad_owner_field (0 ∷ 0 ∷ 0 ∷ 0 ∷ 0 ∷ 0 ∷ 0 ∷ 1 ∷ [])
      ∷ [] ≡ Some 1 ∷ Some 4 ∷ []
  pub member :
      bad_owner_field (1 ∷ 0 ∷ 0 ∷ 0 ∷ 0 ∷ 0 ∷ 0 ∷ 0 ∷ []) ∷ bad_owner_field (1 ∷ 9 ∷ 0 ∷ 0 ∷ 0 ∷ 0 ∷ 0 ∷ 0 ∷ [])
      ∷ bad_owner_field (1 ∷ 3 ∷ 0 ∷ 1 ∷ 0 ∷ 0 ∷ 0 ∷ 0 ∷ []) ∷ []
      ≡ Some 1 ∷ Some 1 ∷ Some 2 ∷ []
  pub deck :
      bad_owner_field (2 ∷ 1 ∷ 0 ∷ 0 ∷ 0 ∷ 0 ∷ 0 ∷ 1 ∷ []) ∷ bad_owner_field (2 ∷ 0 ∷ 0 ∷ 0 ∷ 0 ∷ 0 ∷ 0 ∷ 0 ∷ [])
      ∷ bad_owner_field (2 ∷ 0 ∷ 0 ∷ 0 ∷ 0 ∷ 1 ∷ 134 ∷ 160 ∷ []) ∷ []
      ≡ Some 1 ∷ Some 4 ∷ Some 4 ∷ []
  pub others :
      bad_owner_field (3 ∷ 33 ∷ 0 ∷ 0 ∷ 0 ∷ 0 ∷ 0 ∷ 1 ∷ []) ∷ bad_owner_field (4 ∷ 0 ∷ 0 ∷ 0 ∷ 0 ∷ 0 ∷ 0 ∷ 0 ∷ []) ∷ []
      ≡ Some 1 ∷ Some 0 ∷ []
