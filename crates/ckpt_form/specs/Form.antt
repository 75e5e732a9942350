-- The form of the copies of the checkpoint: the log. What the crates above say of it they say by these names.
use Rattle.std.specs.Prelude.{◌≡◌, ℕ, List, Option, Some}
use Rattle.spool_plant.specs.View.{Disk}
use Rattle.change_log.specs.declared.log_copy.LogCopy.{LogCopy}
use Rattle.change_log.specs.Logs.{reads, log_size, room_in}
use Rattle.change_log.specs.LogRests.{Rests, Holds}
use Rattle.change_log.specs.LogStaying.{rests_all, rests_bytes}
use Rattle.ckpt_copy.specs.Reading.{AllRead}

-- the bytes of the pages that a copy's bytes read as
abbrev pub form_reads : List ℕ → Option (List ℕ)
form_reads = reads

-- the bytes of device that a copy of so many pages needs
abbrev pub form_needs : ℕ → ℕ
form_needs = log_size

-- the puts possible before a settle, of a copy's bytes
abbrev pub form_room : List ℕ → ℕ
form_room = room_in

-- the number of pages of a copy
abbrev pub form_count : LogCopy → ℕ
form_count c = c.pages

-- a copy at rest with these pages
abbrev pub form_rests : LogCopy → List ℕ → Disk → Type 0
form_rests c was disk = Rests c.pages c.gates c.places was disk

-- a copy that holds these pages, and the next pages behind a closed gate
abbrev pub form_holds : LogCopy → List ℕ → List ℕ → Disk → Type 0
form_holds c was next disk = Holds c.pages c.gates c.places c.next_places was next disk

-- at rest the bytes of the device, and of each image, read as the pages
pub form_rests_now : (c : LogCopy) (pages : List ℕ) (disk : Disk) → form_rests c pages disk
    → form_reads disk.bytes ≡ Some pages
form_rests_now c pages disk rests = rests_bytes c.pages c.gates c.places pages disk rests

pub form_rests_reads : (c : LogCopy) (pages : List ℕ) (disk : Disk) → form_rests c pages disk
    → AllRead form_reads pages disk
form_rests_reads c pages disk rests = rests_all c.pages c.gates c.places pages disk rests
