-- What is refused before the lines of a run: devices that are too small, and a script that can't be read.
use Rattle.std.specs.Prelude.{◌≡◌, ◌⊎◌, ℕ, zero, suc, ◌+◌, ◌*◌, nat_lt, Bool, true, false, not, ◌&&◌, if◌then◌else◌, List, [], ◌∷◌, Option, Some, None, Ok, Err}
use Rattle.mas_types.specs.declared.ids.Dev.{Dev}
use Rattle.mas_types.specs.declared.ids.Dev.TheVariants.{Ckpt1, Ckpt2, Spool}
use Rattle.mas_types.specs.declared.answers.Status.{Status}
use Rattle.mas_types.specs.declared.answers.Status.TheVariants as status
use Rattle.mas_types.specs.declared.queues.Config.{Config}
use Rattle.mas_types.specs.Limits.{page_bytes, script_bytes}
use Rattle.mas_types.specs.Lists.{first_some}
use Rattle.script_lang.specs.Script.{Said}
use Rattle.script_lang.specs.declared.types.ScriptNo.{ScriptNo}
use Rattle.script_lang.specs.declared.types.ScriptNo.TheVariants as no
use Rattle.script_input.specs.Reading.{TakesAtMost}
use Rattle.spool_plant.specs.declared.plant.Part.TheVariants.{Disk}
use Rattle.spool_plant.specs.View.{View}
use Rattle.ckpt_form.specs.Form.{form_needs}
use Rattle.ckpt_tables.specs.Shape.{page_count}
use Rattle.warm_start.specs.Starting.{IsSmall}

-- how many bytes a checkpoint device needs for the pages of a configuration
abbrev pub bytes_needed : Config → ℕ
bytes_needed config = form_needs (page_count config)

abbrev pub refused_where : Bool → Status → Option Status
refused_where holds why = if holds then Some why else None

-- the refusal of a checkpoint device that has fewer bytes than are needed
abbrev pub refused_copy : View → ℕ → Dev → Option Status
refused_copy v needed dev = refused_where (nat_lt (v.size dev) needed) (status.DeviceSize dev (v.size dev))

-- the refusal of a volume that isn't lost and has no room for so many groups
abbrev pub refused_volume : View → ℕ → ℕ → Option Status
refused_volume v per n = refused_where (not (v.lost (Disk (Spool n))) && nat_lt (v.size (Spool n)) (page_bytes * per))
    (status.DeviceSize (Spool n) (v.size (Spool n)))

-- the refusals of so many volumes, from this number on
abbrev pub refused_volumes : View → ℕ → ℕ → ℕ → List (Option Status)
refused_volumes v per n zero = []
refused_volumes v per n (suc more) = refused_volume v per n ∷ refused_volumes v per (n + 1) more

-- the devices of a configuration that are too small: CKPT1, CKPT2, and then the volumes in their order
abbrev pub refused_devices : Config → View → List (Option Status)
refused_devices config v = refused_copy v (bytes_needed config) Ckpt1 ∷ refused_copy v (bytes_needed config) Ckpt2
    ∷ refused_volumes v config.groups 1 config.volumes

-- the devices that a script's configuration needs are known before a cold run; what a warm run needs stands on the
-- copies
abbrev pub refused_sizes : Bool → Config → View → List (Option Status)
refused_sizes cold config v = if cold then refused_devices config v else []

-- the first refusal of what a script says, or of a device that it needs
abbrev pub refusal_of : Bool → View → Said → Option Status
refusal_of cold v (Err (no.BadLine line why)) = Some (status.BadLine line why)
refusal_of cold v (Err no.TooLong) = Some status.TooLong
refusal_of cold v (Err no.NoMemory) = None
refusal_of cold v (Ok script) = first_some (refused_sizes cold script.config v)

-- the first device that is too small for a configuration, with its size
abbrev pub IsTooSmall : Config → Dev → ℕ → View → Type 0
IsTooSmall config dev size v = IsSmall (bytes_needed config) config dev size v

abbrev pub IsDeviceSize : Config → Status → View → Type 0
IsDeviceSize config (status.DeviceSize dev size) v = IsTooSmall config dev size v
IsDeviceSize config _ v = ⊥

-- the status says what the words, the script or a device of a cold run lack
abbrev pub is_refusal : Bool → Status → Bool
is_refusal cold status.Done = false
is_refusal cold status.SourceFault = false
is_refusal cold status.BothLost = false
is_refusal cold status.ConsoleFault = false
is_refusal cold status.NoMemory = false
is_refusal cold (status.NotFormatted first second) = cold
is_refusal cold (status.DeviceSize dev size) = cold
is_refusal cold status.Words = true
is_refusal cold (status.BadLine line cause) = true
is_refusal cold status.TooLong = true

-- A refusal is answered, except where the source failed or the run is out of memory.
abbrev pub Answers : Bool → Option Status → Status → Type 0
Answers cold None answer = is_refusal cold answer ≡ false
Answers cold (Some why) answer = (answer ≡ why) ⊎ ((answer ≡ status.SourceFault) ⊎ (answer ≡ status.NoMemory))

-- why a script isn't played: what it says, its length, its source, or want of memory
abbrev pub is_of_script : Status → Bool
is_of_script (status.BadLine line cause) = true
is_of_script status.TooLong = true
is_of_script status.SourceFault = true
is_of_script status.NoMemory = true
is_of_script _ = false

-- the status of a run whose script isn't read
abbrev pub status_of_script : ScriptNo → Status
status_of_script (no.BadLine line why) = status.BadLine line why
status_of_script no.TooLong = status.TooLong
status_of_script no.NoMemory = status.NoMemory

-- at most one byte more than a script may have was taken from the front of a source
abbrev pub IsTakenFrom : List ℕ → List ℕ → Type 0
IsTakenFrom left rest = TakesAtMost (script_bytes + 1) left rest

-- how a run ends that nothing hinders: with Done, or for want of memory; a warm one also where it finds no queue, or a
-- device is too small for what it finds
abbrev pub IsPlayedOut : Bool → Status → Type 0
IsPlayedOut cold status.Done = Unit {0}
IsPlayedOut cold status.NoMemory = Unit {0}
IsPlayedOut cold (status.NotFormatted first second) = cold ≡ false
IsPlayedOut cold (status.DeviceSize dev size) = cold ≡ false
IsPlayedOut cold _ = ⊥
