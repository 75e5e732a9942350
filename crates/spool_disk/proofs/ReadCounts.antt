-- What acts that read nothing of a device leave of the count of its reads.
use Rattle.std.proofs.Common.{◌≡◌, ℕ, ◌≤◌, ◌<◌, ◌==◌, nat_lt, nat_le, Bool, true, false, if◌then◌else◌, List, [], ◌∷◌, ◌++◌, length, take, drop, filter, refl, ◌∙◌, ap, arith}
use Rattle.std.proofs.lemmas.Bool.Decides.{nat_tests}
use Rattle.std.proofs.lemmas.List.{drop-append-le, append-nil}
use Rattle.std.proofs.lemmas.List.Elements.{filter-append}
use Rattle.mas_types.specs.declared.ids.Dev.{Dev}
use Rattle.spool_disk.specs.declared.memory.MemPlant.{MemPlant}
use Rattle.spool_disk.specs.Courses.{deed_left}
use Rattle.spool_disk.specs.Deeds.{Deed, Idle, Said, is_read, idled}
use Rattle.spool_disk.specs.MemView.{state_of, SameReads}
use Rattle.spool_disk.specs.Places.{slot_of}
use Rattle.spool_disk.specs.State.{State, halted, recorded}
use Rattle.spool_disk.proofs.Entering.{length-deeds}
use Rattle.spool_disk.proofs.MemActs.{in_full, halted_state}

count_else : (slot t : ℕ) (es : List Deed) (e : Deed) → t ≤ length es → is_read slot e ≡ false → length (filter (is_read slot) (drop t (es ++ e ∷ []))) ≡ length (filter (is_read slot) (drop t es))
count_else slot t es e le is =
    ap (λ (l : List Deed). length (filter (is_read slot) l)) (drop-append-le t es (e ∷ []) le)
    ∙ ap (λ (l : List Deed). length l) (filter-append (is_read slot) (drop t es) (e ∷ []))
    ∙ ap (λ (b : Bool). length (filter (is_read slot) (drop t es) ++ (if b then e ∷ [] else []))) is
    ∙ ap (λ (l : List Deed). length l) (append-nil (filter (is_read slot) (drop t es)))

count_idled : (slot t acts : ℕ) (es : List Deed) → (length es < acts → t ≤ length es) → length (filter (is_read slot) (drop t (idled acts es))) ≡ length (filter (is_read slot) (drop t es))
count_idled slot t acts es le = by_test (nat_lt (length es) acts) refl where
  by_test : (b : Bool) → nat_lt (length es) acts ≡ b → length (filter (is_read slot) (drop t (if b then es ++ Idle ∷ [] else es))) ≡ length (filter (is_read slot) (drop t es))
  by_test true e = count_else slot t es Idle (le (grind (arith, nat_tests))) refl
  by_test false e = refl

-- a halted line is no read
pub line_reads : (slot place keep : ℕ) (line : List ℕ) → is_read slot (deed_left place keep line) ≡ false
line_reads slot place keep line = by_test (nat_le (length line) keep) (keep == 0) where
  by_test : (b c : Bool) → is_read slot (if b then Said place line true else (if c then Idle else Said place (take keep line) false)) ≡ false
  by_test true c = refl
  by_test false true = refl
  by_test false false = refl

-- an act that was recorded and is no read adds no read
pub reads_recorded : (m m' : MemPlant) (e : Deed) (dev : Dev) → m.moment < m.kept.acts → (state_of m').deeds ≡ (state_of m).deeds ++ e ∷ [] → is_read (slot_of dev) e ≡ false → SameReads dev m m'
reads_recorded m m' e dev below is none t le =
    ap (λ (l : List Deed). length (filter (is_read (slot_of dev)) (drop t l))) is ∙ count_else (slot_of dev) t (state_of m).deeds e (omega (arith, le, in_full m below)) none

-- an act that halted and is no read adds no read
pub reads_halted : (m m1 m2 : MemPlant) (e : Deed) (by : ℕ) (dev : Dev) → m.moment < m.kept.acts → state_of m1 ≡ recorded (state_of m) e (state_of m).stops
    → state_of m2 ≡ record (state_of m1) { stops = halted (state_of m1).stops by (state_of m1).now } → is_read (slot_of dev) e ≡ false → SameReads dev m m2
reads_halted m m1 m2 e by dev below first next_is none =
    reads_recorded m m2 e dev below (ap (λ (x : State). x.deeds) (halted_state (state_of m) (state_of m1) (state_of m2) e by first next_is)) none

-- a moment in which nothing was done adds no read
pub reads_idled : (m m' : MemPlant) (dev : Dev) → (state_of m').deeds ≡ idled m.kept.acts (state_of m).deeds → SameReads dev m m'
reads_idled m m' dev is t le =
    let logged = length-deeds m.kept.log.items m.kept.arena.items in
    ap (λ (l : List Deed). length (filter (is_read (slot_of dev)) (drop t l))) is
    ∙ count_idled (slot_of dev) t m.kept.acts (state_of m).deeds (λ room. let stands = m.in_step.1 (omega (arith, room, logged)) in omega (arith, le, logged, stands))
