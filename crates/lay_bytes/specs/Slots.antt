-- The spelling of a job, an output and an owner, and which of them have one.
use Rattle.std.specs.Prelude.{◌≡◌, ℕ, zero, suc, ◌+◌, ◌^◌, ◌≤◌, ◌<◌, ◌==◌, Bool, not, if◌then◌else◌, List, [], ◌∷◌, length, Option, Some, None, replicate, bit_and}
use Rattle.std.specs.List.{concat, slice_index}
use Rattle.std.specs.Int.{w16, w32, w64, from_be_bytes, to_be_bytes}
use Rattle.mas_types.specs.declared.ids.MemberId.{MemberId}
use Rattle.mas_types.specs.declared.ids.JobNo.{JobNo}
use Rattle.mas_types.specs.declared.ids.Name8.{Name8}
use Rattle.mas_types.specs.declared.jobs.Phase.{Phase}
use Rattle.mas_types.specs.declared.jobs.Phase.TheVariants as phase
use Rattle.mas_types.specs.declared.jobs.JobFields.{JobFields}
use Rattle.mas_types.specs.declared.queues.Owner.{Owner}
use Rattle.mas_types.specs.declared.queues.Owner.TheVariants as owner
use Rattle.mas_types.specs.Fit.{IsClass, IsName, IsIndex}
use Rattle.lay_bytes.specs.declared.records.JobRec.{JobRec}
use Rattle.lay_bytes.specs.declared.records.OutRec.{OutRec}
use Rattle.lay_bytes.specs.declared.fields.Field.{Field}
use Rattle.lay_bytes.specs.declared.fields.Field.TheVariants as field
use Rattle.lay_bytes.specs.Limits.{member_most, job_most, index_most, prio_most, copies_most, lines_most}
use Rattle.lay_bytes.specs.Bytes.{are_zeros}
use Rattle.lay_bytes.specs.Fields.{first_bad}

-- WHAT HAS A SPELLING

abbrev pub IsNumber : JobNo → Type 0
IsNumber n = (1 ≤ n.0) × (n.0 ≤ job_most)

-- nobody, or one of eight members
abbrev pub IsBusy : MemberId → Type 0
IsBusy m = m.0 ≤ member_most

pub record IsJobRec (j : JobRec) : Type 0 where
  pub class : IsClass j.fields.class
  pub prio : j.fields.prio.0 ≤ prio_most
  pub busy : IsBusy j.busy
  pub msgclass : IsClass j.fields.msgclass
  pub cards : j.cards ≤ lines_most
  pub number : IsNumber j.number
  pub order : j.order < 2 ^ 64
  pub name : IsName j.fields.name
  pub dest : IsName j.fields.dest
  pub node : IsName j.fields.node
  pub origin : IsName j.fields.origin

pub record IsOutRec (o : OutRec) : Type 0 where
  pub class : IsClass o.class
  pub busy : IsBusy o.busy
  pub job : IsNumber o.job
  pub index : IsIndex o.index.0
  pub copies : (1 ≤ o.copies) × (o.copies ≤ copies_most)
  pub lines : (1 ≤ o.lines) × (o.lines ≤ lines_most)
  pub mark : o.mark < 2 ^ 32
  pub order : o.order < 2 ^ 64
  pub dest : IsName o.dest
  pub forms : IsName o.forms

-- a free slot, or one with something that has a spelling
abbrev pub IfUsed : {X : Type 0} → (X → Type 0) → Option X → Type 0
IfUsed P None = Unit {0}
IfUsed P (Some x) = P x

abbrev pub IsOwner : Owner → Type 0
IsOwner owner.Free = Unit {0}
IsOwner (owner.Member m) = (1 ≤ m.0) × (m.0 ≤ member_most)
IsOwner (owner.Deck job place) = IsNumber job × (place < 2 ^ 16)
IsOwner (owner.Output job index place) = IsNumber job × IsIndex index.0 × (place < 2 ^ 16)

-- JOBS

abbrev pub phase_number : Phase → ℕ
phase_number phase.Input = 1
phase_number phase.Convert = 2
phase_number phase.Execute = 3
phase_number phase.Output = 4
phase_number phase.Hardcopy = 5
phase_number phase.Purge = 6
phase_number phase.Xmit = 7

abbrev pub phase_of : ℕ → Phase
phase_of n = if n == 1 then phase.Input else if n == 2 then phase.Convert else if n == 3 then phase.Execute else if n ==
    4 then phase.Output else if n == 5 then phase.Hardcopy else if n == 6 then phase.Purge else phase.Xmit

-- a flag of this value
abbrev pub flag : ℕ → Bool → ℕ
flag value is_set = if is_set then value else 0

abbrev pub has_flag : ℕ → ℕ → Bool
has_flag value flags = not (bit_and flags value == 0)

abbrev pub job_flags : JobRec → ℕ
job_flags j = flag 1 j.fields.held + flag 2 j.cancelled + flag 4 j.fields.restart + flag 8 j.fields.scan

-- the fields of a job's slot
abbrev pub job_fields : List Field
job_fields = field.Byte 1 7 ∷ field.Class ∷ field.Byte 0 prio_most ∷ field.Byte 0 15 ∷ field.Byte 0 member_most
    ∷ field.Class ∷ field.Half 0 lines_most ∷ field.Word 1 job_most ∷ field.Long 0 18446744073709551615 ∷ field.Name
    ∷ field.Name ∷ field.Name ∷ field.Name ∷ field.Zeros 204 ∷ []

-- what stands in them
abbrev pub job_pieces : JobRec → List (List ℕ)
job_pieces j =
    (phase_number j.phase ∷ []) ∷ (j.fields.class.0 ∷ []) ∷ (j.fields.prio.0 ∷ []) ∷ (job_flags j ∷ [])
    ∷ (j.busy.0 ∷ []) ∷ (j.fields.msgclass.0 ∷ [])
    ∷ to_be_bytes w16 j.cards ∷ to_be_bytes w32 j.number.0 ∷ to_be_bytes w64 j.order
    ∷ j.fields.name.0 ∷ j.fields.dest.0 ∷ j.fields.node.0 ∷ j.fields.origin.0 ∷ replicate 204 0 ∷ []

-- the spelling of a job's slot
abbrev pub job_slot : Option JobRec → List ℕ
job_slot None = replicate 256 0
job_slot (Some j) = concat (job_pieces j)

-- the least offset of a field that is outside its range, where a slot isn't free
abbrev pub bad_field : List Field → List ℕ → Option ℕ
bad_field fields slot = if are_zeros slot then None else first_bad 0 fields slot

-- OUTPUTS

abbrev pub output_fields : List Field
output_fields = field.Byte 1 1 ∷ field.Class ∷ field.Byte 0 1 ∷ field.Byte 0 member_most ∷ field.Word 1 job_most
    ∷ field.Byte 1 index_most ∷ field.Byte 1 copies_most ∷ field.Half 1 lines_most ∷ field.Word 0 4294967295
    ∷ field.Long 0 18446744073709551615 ∷ field.Name ∷ field.Name ∷ field.Zeros 88 ∷ []

abbrev pub output_pieces : OutRec → List (List ℕ)
output_pieces o =
    (1 ∷ []) ∷ (o.class.0 ∷ []) ∷ (flag 1 o.held ∷ []) ∷ (o.busy.0 ∷ []) ∷ to_be_bytes w32 o.job.0 ∷ (o.index.0 ∷ [])
    ∷ (o.copies ∷ [])
    ∷ to_be_bytes w16 o.lines ∷ to_be_bytes w32 o.mark ∷ to_be_bytes w64 o.order ∷ o.dest.0 ∷ o.forms.0 ∷ replicate 88 0
    ∷ []

abbrev pub output_slot : Option OutRec → List ℕ
output_slot None = replicate 128 0
output_slot (Some o) = concat (output_pieces o)

-- GROUPS

-- the fields of a group's entry, by its kind
abbrev pub owner_fields : ℕ → List Field
owner_fields kind =
    if kind == 0 then field.Byte 0 0 ∷ field.Byte 0 0 ∷ field.Half 0 0 ∷ field.Word 0 0 ∷ []
    else if kind == 1 then field.Byte 1 1 ∷ field.Byte 1 member_most ∷ field.Half 0 0 ∷ field.Word 0 0 ∷ []
    else if kind == 2 then field.Byte 2 2 ∷ field.Byte 0 0 ∷ field.Half 0 65535 ∷ field.Word 1 job_most ∷ []
    else field.Byte 3 3 ∷ field.Byte 1 index_most ∷ field.Half 0 65535 ∷ field.Word 1 job_most ∷ []

abbrev pub owner_pieces : Owner → List (List ℕ)
owner_pieces owner.Free = (0 ∷ []) ∷ (0 ∷ []) ∷ to_be_bytes w16 0 ∷ to_be_bytes w32 0 ∷ []
owner_pieces (owner.Member m) = (1 ∷ []) ∷ (m.0 ∷ []) ∷ to_be_bytes w16 0 ∷ to_be_bytes w32 0 ∷ []
owner_pieces (owner.Deck job place) = (2 ∷ []) ∷ (0 ∷ []) ∷ to_be_bytes w16 place ∷ to_be_bytes w32 job.0 ∷ []
owner_pieces (owner.Output job index place) = (3 ∷ []) ∷ (index.0 ∷ []) ∷ to_be_bytes w16 place ∷ to_be_bytes w32 job.0
    ∷ []

-- the spelling of a group's entry
abbrev pub owner_entry : Owner → List ℕ
owner_entry o = concat (owner_pieces o)

abbrev pub bad_owner_field : List ℕ → Option ℕ
bad_owner_field slot = first_bad 0 (owner_fields (slice_index slot 0)) slot

-- ONE SPELLING, ONE VALUE

-- each value with a spelling has one of its own, so many bytes long
pub record IsSpelledApart {X : Type 0} (slot : X → List ℕ) (Fits : X → Type 0) (width : ℕ) : Type 0 where
  pub size : (x : X) → Fits x → length (slot x) ≡ width
  pub apart : (x y : X) → Fits x → Fits y → slot x ≡ slot y → x ≡ y

-- READING: what the pieces of a slot say

abbrev pub piece_at : List (List ℕ) → ℕ → List ℕ
piece_at [] i = []
piece_at (p ∷ ps) zero = p
piece_at (p ∷ ps) (suc i) = piece_at ps i

abbrev pub byte_in : List (List ℕ) → ℕ → ℕ
byte_in ps i = slice_index (piece_at ps i) 0

abbrev pub name_in : List (List ℕ) → ℕ → Name8
name_in ps i = record { 0 = piece_at ps i }

abbrev pub fields_in : List (List ℕ) → JobFields
fields_in ps = record {
  name = name_in ps 9;
  class = record { 0 = byte_in ps 1 };
  msgclass = record { 0 = byte_in ps 5 };
  prio = record { 0 = byte_in ps 2 };
  held = has_flag 1 (byte_in ps 3);
  scan = has_flag 8 (byte_in ps 3);
  restart = has_flag 4 (byte_in ps 3);
  dest = name_in ps 10;
  node = name_in ps 11;
  origin = name_in ps 12;
}

abbrev pub job_in : List (List ℕ) → JobRec
job_in ps = record {
  number = record { 0 = from_be_bytes w32 (piece_at ps 7) };
  fields = fields_in ps;
  phase = phase_of (byte_in ps 0);
  cancelled = has_flag 2 (byte_in ps 3);
  busy = record { 0 = byte_in ps 4 };
  cards = from_be_bytes w16 (piece_at ps 6);
  order = from_be_bytes w64 (piece_at ps 8);
}

abbrev pub output_in : List (List ℕ) → OutRec
output_in ps = record {
  job = record { 0 = from_be_bytes w32 (piece_at ps 4) };
  index = record { 0 = byte_in ps 5 };
  class = record { 0 = byte_in ps 1 };
  dest = name_in ps 10;
  forms = name_in ps 11;
  copies = byte_in ps 6;
  held = has_flag 1 (byte_in ps 2);
  busy = record { 0 = byte_in ps 3 };
  mark = from_be_bytes w32 (piece_at ps 8);
  lines = from_be_bytes w16 (piece_at ps 7);
  order = from_be_bytes w64 (piece_at ps 9);
}

abbrev pub owner_of : ℕ → ℕ → ℕ → ℕ → Owner
owner_of kind who place job =
    if kind == 0 then owner.Free
    else if kind == 1 then owner.Member (record { 0 = who })
    else if kind == 2 then owner.Deck (record { 0 = job }) place
    else owner.Output (record { 0 = job }) (record { 0 = who }) place

abbrev pub owner_in : List (List ℕ) → Owner
owner_in ps = owner_of (byte_in ps 0) (byte_in ps 1) (from_be_bytes w16 (piece_at ps 2))
    (from_be_bytes w32 (piece_at ps 3))
