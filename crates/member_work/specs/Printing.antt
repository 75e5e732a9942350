-- A unit that prints the next lines of an output, part by part.
use Rattle.member_work.specs.Names.{Dev, Ckpt1, Ckpt2, JobNo, MemberId, OutNo, Output, Queue, IsIndex, printer_lines_most, text_lines_most, line_count, output_at, printing_at, total, Tables, Tell, Disk as DiskPart, View, disk_now, Goes, Parts, NodeNo, stopped_in, console_now}
use Rattle.std.specs.Prelude.{◌≡◌, ℕ, ◌+◌, ◌*◌, ◌≤◌, ◌<◌, if◌then◌else◌, Some, Result}
use Rattle.lay_bytes.specs.declared.records.OutRec.{OutRec}
use Rattle.mas_complex.specs.Locking.{reserved_after_stop}
use Rattle.lock_cycle.specs.Books.{after_stop}
use Rattle.member_work.specs.Units.{chunk_end}

-- ACTS ON THE PRINTER AND THE VOLUMES

-- Acts of a member beside the copies: neither copy is lost, and where content is told both are as they were, and so is
-- the console.
pub record IsBeside (told : Type 0) (old new : View) : Type 0 where
  pub goes : Goes old new
  pub lost1 : new.lost (DiskPart Ckpt1) ≡ old.lost (DiskPart Ckpt1)
  pub lost2 : new.lost (DiskPart Ckpt2) ≡ old.lost (DiskPart Ckpt2)
  pub loses : (d : Dev) → new.loses d ≡ old.loses d
  pub first : told → disk_now new Ckpt1 ≡ disk_now old Ckpt1
  pub second : told → disk_now new Ckpt2 ≡ disk_now old Ckpt2
  pub console : told → console_now new ≡ console_now old

-- After lines were printed the plant and the counts of lines differ. A member that was stopped in it is stopped in the
-- book, and what it has reserved is given up.
abbrev pub after_lines : {P C T : Type 0} → Result T NodeNo → MemberId → Parts P C → Parts P C → Parts P C
after_lines result by is was = record was {
  plant = is.plant;
  printed = is.printed;
  book = if stopped_in result then after_stop was.book by else was.book;
  reserved = if stopped_in result then reserved_after_stop by was.reserved else was.reserved;
}

-- each device holds what it held
abbrev pub SameDisks : Type 0 → View → View → Type 0
SameDisks told old new = told → (d : Dev) → disk_now new d ≡ disk_now old d

-- THE OUTPUT

-- the output with this key is busy at the member, and has lines after its mark
pub record IsPrinting (Q : Queue) (m : MemberId) (n : JobNo) (i : OutNo) : Type 0 where
  pub output : Output
  pub there : output_at Q n i ≡ Some output
  pub busy : printing_at Q m ≡ Some output
  pub below : output.mark < total output

-- the record of an output says what each queue has of it that the tables tell
pub record IsToldOutput (t : Tables) (r : OutRec) : Type 0 where
  pub some : 1 ≤ r.lines
  pub few : r.lines ≤ text_lines_most
  pub index : IsIndex r.index.0
  pub same : (Q : Queue) (o : Output) → Tell t Q → output_at Q r.job r.index ≡ Some o → (o.job ≡ r.job)
      × (o.index ≡ r.index) × (o.mark ≡ r.mark) × (line_count o.text ≡ r.lines) × (total o ≡ r.lines * r.copies)

-- the last of an output's lines that are printed next
pub record IsChunkOf (t : Tables) (by : MemberId) (r : OutRec) (last : ℕ) : Type 0 where
  pub limit : last ≤ r.mark + printer_lines_most
  pub total : last ≤ r.lines * r.copies
  pub is : (Q : Queue) (o : Output) → Tell t Q → output_at Q r.job r.index ≡ Some o → last ≡ chunk_end Q by o
