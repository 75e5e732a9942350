-- Worked slots, from another program.
use Rattle.std.proofs.Common.{◌≡◌, ℕ, true, false, List, [], ◌∷◌, set, replicate, Some, None, refl}
use Rattle.std.specs.Prelude.{codes}
use Rattle.mas_types.specs.declared.jobs.Phase.TheVariants as phase
use Rattle.mas_types.specs.declared.queues.Owner.TheVariants as owner
use Rattle.lay_bytes.specs.declared.records.JobRec.{JobRec}
use Rattle.lay_bytes.specs.declared.records.OutRec.{OutRec}
use Rattle.lay_bytes.specs.Slots.{job_slot, output_slot, owner_entry, job_fields, bad_field, bad_owner_field}

payroll : JobRec
payroll = record {
  number = record { 0 = 1234 };
  fields = record {
    name = record { 0 = codes "PAYROLL " };
    class = record { 0 = 66 };
    msgclass = record { 0 = 67 };
    prio = record { 0 = 7 };
    held = true;
    scan = false;
    restart = true;
    dest = record { 0 = codes "LOCAL   " };
    node = record { 0 = codes "HERE    " };
    origin = record { 0 = codes "HERE    " };
  };
  phase = phase.Execute;
  cancelled = true;
  busy = record { 0 = 3 };
  cards = 51;
  order = 77;
}

abbrev payroll_bytes : List ℕ
payroll_bytes = 3 ∷ 66 ∷ 7 ∷ 7 ∷ 3 ∷ 67 ∷ 0 ∷ 51 ∷ 0 ∷ 0 ∷ 4 ∷ 210 ∷ 0 ∷ 0 ∷ 0 ∷ 0 ∷ 0 ∷ 0 ∷ 0 ∷ 77 ∷ 80 ∷ 65 ∷ 89 ∷ 82 ∷ 79 ∷ 76 ∷ 76 ∷ 32 ∷ 76 ∷ 79 ∷ 67 ∷ 65 ∷ 76 ∷ 32 ∷ 32 ∷ 32 ∷ 72 ∷ 69 ∷ 82 ∷ 69 ∷ 32 ∷ 32 ∷ 32 ∷ 32 ∷ 72 ∷ 69 ∷ 82 ∷ 69 ∷ 32 ∷ 32 ∷ 32 ∷ 32 ∷ replicate 204 0

job_vector : job_slot (Some payroll) ≡ payroll_bytes
unfolding payroll
job_vector = refl

print : OutRec
print = record {
  job = record { 0 = 1234 };
  index = record { 0 = 5 };
  class = record { 0 = 81 };
  dest = record { 0 = codes "LOCAL   " };
  forms = record { 0 = codes "STD     " };
  copies = 2;
  held = true;
  busy = record { 0 = 4 };
  mark = 999;
  lines = 300;
  order = 78;
}

output_vector : output_slot (Some print) ≡ 1 ∷ 81 ∷ 1 ∷ 4 ∷ 0 ∷ 0 ∷ 4 ∷ 210 ∷ 5 ∷ 2 ∷ 1 ∷ 44 ∷ 0 ∷ 0 ∷ 3 ∷ 231 ∷ 0 ∷ 0 ∷ 0 ∷ 0 ∷ 0 ∷ 0 ∷ 0 ∷ 78 ∷ 76 ∷ 79 ∷ 67 ∷ 65 ∷ 76 ∷ 32 ∷ 32 ∷ 32 ∷ 83 ∷ 84 ∷ 68 ∷ 32 ∷ 32 ∷ 32 ∷ 32 ∷ 32 ∷ replicate 88 0
unfolding print
output_vector = refl

member_vector : owner_entry (owner.Member (record { 0 = 3 })) ≡ 1 ∷ 3 ∷ 0 ∷ 0 ∷ 0 ∷ 0 ∷ 0 ∷ 0 ∷ []
member_vector = refl

deck_vector : owner_entry (owner.Deck (record { 0 = 1234 }) 5) ≡ 2 ∷ 0 ∷ 0 ∷ 5 ∷ 0 ∷ 0 ∷ 4 ∷ 210 ∷ []
deck_vector = refl

print_vector : owner_entry (owner.Output (record { 0 = 1234 }) (record { 0 = 7 }) 300) ≡ 3 ∷ 7 ∷ 1 ∷ 44 ∷ 0 ∷ 0 ∷ 4 ∷ 210 ∷ []
print_vector = refl

good_job : bad_field job_fields payroll_bytes ≡ None
good_job = refl

bad_prio : bad_field job_fields (set (set payroll_bytes 2 16) 4 9) ≡ Some 2
bad_prio = refl

bad_cards : bad_field job_fields (set (set payroll_bytes 6 255) 36 0) ≡ Some 6
bad_cards = refl

bad_node : bad_field job_fields (set payroll_bytes 42 65) ≡ Some 36
bad_node = refl

bad_rest : bad_field job_fields (set payroll_bytes 200 1) ≡ Some 52
bad_rest = refl

bad_free : bad_field job_fields (set (replicate 256 0) 255 1) ≡ Some 0
bad_free = refl

bad_kind : bad_owner_field (4 ∷ 0 ∷ 0 ∷ 0 ∷ 0 ∷ 0 ∷ 0 ∷ 0 ∷ []) ≡ Some 0
bad_kind = refl

bad_place : bad_owner_field (1 ∷ 3 ∷ 0 ∷ 1 ∷ 0 ∷ 0 ∷ 0 ∷ 0 ∷ []) ≡ Some 2
bad_place = refl
