-- Refused devices, and the answers of a run that is refused.
use Rattle.std.proofs.Common.{◌≡◌, ◌⊎◌, inl, inr, ⊎_elim, ℕ, zero, suc, ◌+◌, ◌*◌, ◌≤◌, ◌<◌, nat_lt, not, ◌&&◌, Bool, true, false, if◌then◌else◌, List, length, Option, Some, None, Err, refl, sym, ap, subst, arith}
use Rattle.std.proofs.lemmas.Bool.Decides.{nat_tests}
use Rattle.mas_types.specs.declared.answers.Status.{Status}
use Rattle.mas_types.specs.declared.answers.Status.TheVariants as status
use Rattle.mas_types.specs.declared.ids.Dev.{Dev}
use Rattle.mas_types.specs.declared.ids.Dev.TheVariants.{Ckpt1, Ckpt2, Spool}
use Rattle.mas_types.specs.declared.queues.Config.{Config}
use Rattle.mas_types.specs.declared.answers.LineCause.{LineCause}
use Rattle.mas_types.specs.Limits.{page_bytes, script_bytes}
use Rattle.script_lang.specs.declared.types.Run.{Run}
use Rattle.script_lang.specs.declared.types.ScriptNo.{ScriptNo}
use Rattle.script_lang.specs.declared.types.ScriptNo.TheVariants as no_script
use Rattle.script_lang.specs.Lines.{lines_of}
use Rattle.script_lang.specs.Script.{ComesTo, Said, said_from, start}
use Rattle.script_input.specs.Script.{read_as}
use Rattle.mas_types.specs.Lists.{first_some}
use Rattle.spool_plant.specs.declared.plant.Part.TheVariants.{Disk}
use Rattle.spool_plant.specs.View.{View}
use Rattle.spool_volumes.specs.Volumes.{AreRoomy}
use Rattle.start_choice.specs.declared.choosing.StartNo.{StartNo}
use Rattle.start_choice.specs.declared.choosing.StartNo.TheVariants as no_start
use Rattle.warm_start.specs.Starting.{IsSmallAt, IsSmallVolume}
use Rattle.run_opening.specs.Refusals.{bytes_needed, refused_where, refused_copy, refused_volume, refused_volumes, refused_devices, Answers, is_refusal, IsDeviceSize, is_of_script, refusal_of, status_of_script}
use Rattle.run_opening.specs.Statuses.{is_of_text, is_unplayed}
use Rattle.run_opening.specs.Unstarted.{status_of_start}

-- DEVICES THAT ARE TOO SMALL

module _ (v : View) where
  copy_large : (needed : ℕ) (dev : Dev) → needed ≤ v.size dev → refused_copy v needed dev ≡ None
  copy_large needed dev le = let e : nat_lt (v.size dev) needed ≡ false = grind (arith, nat_tests, le) in rw e refl

  copy_small : (needed : ℕ) (dev : Dev) → v.size dev < needed → refused_copy v needed dev ≡ Some (status.DeviceSize dev (v.size dev))
  copy_small needed dev lt = let e : nat_lt (v.size dev) needed ≡ true = grind (arith, nat_tests, lt) in rw e refl

  module _ (per : ℕ) where
    -- a volume that is lost or large enough
    abbrev Fits : ℕ → Type 0
    Fits n = v.lost (Disk (Spool n)) ≡ false → page_bytes * per ≤ v.size (Spool n)

    volume_fits : (n : ℕ) → Fits n → refused_volume v per n ≡ None
    volume_fits n fits = by_lost (v.lost (Disk (Spool n))) refl where
      by_lost : (lost : Bool) → v.lost (Disk (Spool n)) ≡ lost → refused_where (not lost && nat_lt (v.size (Spool n)) (page_bytes * per)) (status.DeviceSize (Spool n) (v.size (Spool n))) ≡ None
      by_lost true is = refl
      by_lost false is = let le = fits is in let e : nat_lt (v.size (Spool n)) (page_bytes * per) ≡ false = grind (arith, nat_tests, le) in rw e refl

    volume_small : (n : ℕ) → v.lost (Disk (Spool n)) ≡ false → v.size (Spool n) < page_bytes * per → refused_volume v per n ≡ Some (status.DeviceSize (Spool n) (v.size (Spool n)))
    volume_small n there lt = let e : nat_lt (v.size (Spool n)) (page_bytes * per) ≡ true = grind (arith, nat_tests, lt) in rw (there, e) refl

    volumes_fit : (n more : ℕ) → ((k : ℕ) → n ≤ k → k < n + more → Fits k) → first_some (refused_volumes v per n more) ≡ None
    volumes_fit n zero fit = refl
    volumes_fit n (suc more) fit =
        let one : refused_volume v per n ≡ None = volume_fits n (fit n (omega arith) (omega arith)) in
        rw one (volumes_fit (n + 1) more (λ k from to. fit k (omega arith) (omega arith)))

    abbrev Small : ℕ → ℕ → ℕ → Type 0
    Small n more k = first_some (refused_volumes v per n more) ≡ Some (status.DeviceSize (Spool k) (v.size (Spool k)))

    small_at : (n more k : ℕ) → n ≤ k → ((m : ℕ) → n ≤ m → m < k → Fits m) → v.lost (Disk (Spool k)) ≡ false → v.size (Spool k) < page_bytes * per → (n < k → Small (n + 1) more k) → (less : Bool) → nat_lt n k ≡ less → Small n (suc more) k
    small_at n more k from fit there lt behind true e =
        let before : n < k = grind (arith, nat_tests, e) in
        let one : refused_volume v per n ≡ None = volume_fits n (fit n (omega arith) before) in
        rw one (behind before)
    small_at n more k from fit there lt behind false e =
        let here : k ≡ n = grind (arith, nat_tests, e, from) in
        let one : refused_volume v per n ≡ Some (status.DeviceSize (Spool n) (v.size (Spool n))) = volume_small n (subst (λ (m : ℕ). v.lost (Disk (Spool m)) ≡ false) here there) (subst (λ (m : ℕ). v.size (Spool m) < page_bytes * per) here lt) in
        subst (λ (m : ℕ). Small n (suc more) m) (sym here) (rw one refl)

    first_small : (n more k : ℕ) → n ≤ k → k < n + more → ((m : ℕ) → n ≤ m → m < k → Fits m) → v.lost (Disk (Spool k)) ≡ false → v.size (Spool k) < page_bytes * per → Small n more k
    first_small n zero k from to fit there lt = absurd (omega arith)
    first_small n (suc more) k from to fit there lt =
        small_at n more k from fit there lt (λ before. first_small (n + 1) more k (omega arith) (omega arith) (λ m at less. fit m (omega arith) less) there lt) (nat_lt n k) refl

  -- no device is too small
  pub all_large : (config : Config) → bytes_needed config ≤ v.size Ckpt1 → bytes_needed config ≤ v.size Ckpt2 → AreRoomy v config → first_some (refused_devices config v) ≡ None
  all_large config one two roomy =
      let a : refused_copy v (bytes_needed config) Ckpt1 ≡ None = copy_large (bytes_needed config) Ckpt1 one in
      let b : refused_copy v (bytes_needed config) Ckpt2 ≡ None = copy_large (bytes_needed config) Ckpt2 two in
      rw (a, b) (volumes_fit config.groups 1 config.volumes (λ k from to there. roomy k from (omega arith) there))

  -- the first device that is too small
  pub some_small : (config : Config) (why : StartNo) → IsSmallAt (bytes_needed config) config v why → first_some (refused_devices config v) ≡ Some (status_of_start why)
  some_small config (no_start.DeviceSize Ckpt1 size) small =
      let a : refused_copy v (bytes_needed config) Ckpt1 ≡ Some (status.DeviceSize Ckpt1 (v.size Ckpt1)) = copy_small (bytes_needed config) Ckpt1 (subst (λ (n : ℕ). n < bytes_needed config) small.0 small.1) in
      rw (a, small.0) refl
  some_small config (no_start.DeviceSize Ckpt2 size) small =
      let a : refused_copy v (bytes_needed config) Ckpt1 ≡ None = copy_large (bytes_needed config) Ckpt1 small.2 in
      let b : refused_copy v (bytes_needed config) Ckpt2 ≡ Some (status.DeviceSize Ckpt2 (v.size Ckpt2)) = copy_small (bytes_needed config) Ckpt2 (subst (λ (n : ℕ). n < bytes_needed config) small.0 small.1) in
      rw (a, b, small.0) refl
  some_small config (no_start.DeviceSize (Spool n) size) small =
      let s : IsSmallVolume config n v = small.1 in
      let a : refused_copy v (bytes_needed config) Ckpt1 ≡ None = copy_large (bytes_needed config) Ckpt1 small.2 in
      let b : refused_copy v (bytes_needed config) Ckpt2 ≡ None = copy_large (bytes_needed config) Ckpt2 small.3 in
      let few = s.few in
      let some = s.some in
      rw (a, b, small.0) (first_small config.groups 1 config.volumes n some (omega arith) (λ m from less there. s.before m from less there) s.there s.small)
  some_small config (no_start.NotFormatted first second) small = absurd small
  some_small config no_start.BothLost small = absurd small
  some_small config no_start.NoMemory small = absurd small

  pub size_of : (config : Config) (why : StartNo) → IsSmallAt (bytes_needed config) config v why → IsDeviceSize config (status_of_start why) v
  size_of config (no_start.DeviceSize dev size) small = small
  size_of config (no_start.NotFormatted first second) small = absurd small
  size_of config no_start.BothLost small = absurd small
  size_of config no_start.NoMemory small = absurd small

-- ANSWERS

-- a failed source and want of memory answer whatever is refused
pub free_answer : (cold : Bool) (why : Option Status) (answer : Status) → (answer ≡ status.SourceFault) ⊎ (answer ≡ status.NoMemory) → Answers cold why answer
free_answer cold None answer free = ⊎_elim (λ is. ap (is_refusal cold) is) (λ is. ap (is_refusal cold) is) free
free_answer cold (Some why) answer free = inr free

-- a warm run's status is no refusal except by what it reads
pub warm_free : (answer : Status) → is_of_text answer ≡ false → is_refusal false answer ≡ false
warm_free status.Done e = refl
warm_free status.NoMemory e = refl
warm_free status.SourceFault e = refl
warm_free status.BothLost e = refl
warm_free status.ConsoleFault e = refl
warm_free (status.NotFormatted first second) e = refl
warm_free (status.DeviceSize dev size) e = refl
warm_free status.Words e = absurd (cc)
warm_free (status.BadLine line cause) e = absurd (cc)
warm_free status.TooLong e = absurd (cc)

-- what a run of play answers is no refusal of a script
pub not_unplayed : (answer : Status) → is_of_text answer ≡ false → (answer ≡ status.SourceFault → ⊥) → is_unplayed answer ≡ true → ⊥
not_unplayed status.SourceFault text source e = source refl
not_unplayed status.Done text source e = absurd (cc)
not_unplayed status.NoMemory text source e = absurd (cc)
not_unplayed status.BothLost text source e = absurd (cc)
not_unplayed status.ConsoleFault text source e = absurd (cc)
not_unplayed status.Words text source e = absurd (cc)
not_unplayed (status.BadLine line cause) text source e = absurd (cc)
not_unplayed status.TooLong text source e = absurd (cc)
not_unplayed (status.NotFormatted first second) text source e = absurd (cc)
not_unplayed (status.DeviceSize dev size) text source e = absurd (cc)

-- A SCRIPT THAT ISN'T READ

-- of its length, by its source, or for want of memory
pub unread_answers : (cold : Bool) (run : Run) (bytes : List ℕ) (v : View) (answer : Status) → is_of_script answer ≡ true → (answer ≡ status.TooLong → script_bytes < length bytes)
    → ((line : ℕ) (why : LineCause) → answer ≡ status.BadLine line why → ⊥) → Answers cold (refusal_of cold v (read_as run bytes)) answer
unread_answers cold run bytes v status.SourceFault kind long line = free_answer cold (refusal_of cold v (read_as run bytes)) status.SourceFault (inl refl)
unread_answers cold run bytes v status.NoMemory kind long line = free_answer cold (refusal_of cold v (read_as run bytes)) status.NoMemory (inr refl)
unread_answers cold run bytes v status.TooLong kind long line =
    let less = long refl in
    let test : nat_lt script_bytes (length bytes) ≡ true = grind (arith, nat_tests, less) in
    subst (λ (b : Bool). Answers cold (refusal_of cold v (if b then Err no_script.TooLong else said_from run 1 start (lines_of bytes))) status.TooLong) (sym test) (inl refl)
unread_answers cold run bytes v (status.BadLine at why) kind long line = absurd (line at why refl)
unread_answers cold run bytes v status.Done kind long line = absurd (cc)
unread_answers cold run bytes v status.Words kind long line = absurd (cc)
unread_answers cold run bytes v (status.NotFormatted first second) kind long line = absurd (cc)
unread_answers cold run bytes v status.BothLost kind long line = absurd (cc)
unread_answers cold run bytes v status.ConsoleFault kind long line = absurd (cc)
unread_answers cold run bytes v (status.DeviceSize dev size) kind long line = absurd (cc)

-- by what it says
pub said_answers : (cold : Bool) (said : Said) (v : View) (why : ScriptNo) → ComesTo (Err why) said → Answers cold (refusal_of cold v said) (status_of_script why)
said_answers cold said v (no_script.BadLine line cause) is = subst (λ (s : Said). Answers cold (refusal_of cold v s) (status.BadLine line cause)) (sym is) (inl refl)
said_answers cold said v no_script.TooLong is = subst (λ (s : Said). Answers cold (refusal_of cold v s) status.TooLong) (sym is) (inl refl)
said_answers cold said v no_script.NoMemory is = free_answer cold (refusal_of cold v said) status.NoMemory (inr refl)

pub script_kind : (why : ScriptNo) → is_of_script (status_of_script why) ≡ true
script_kind (no_script.BadLine line cause) = refl
script_kind no_script.TooLong = refl
script_kind no_script.NoMemory = refl

pub script_source : (why : ScriptNo) → status_of_script why ≡ status.SourceFault → ⊥
script_source (no_script.BadLine line cause) e = absurd (cc)
script_source no_script.TooLong e = absurd (cc)
script_source no_script.NoMemory e = absurd (cc)
