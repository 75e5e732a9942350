-- Pages of a text in their groups.
use Rattle.member_decks.proofs.Names.{◌≡◌, ◌≢◌, inl, inr, ⊎_elim, ◌||◌, ◌==◌, ℕ, zero, suc, ◌+◌, ◌*◌, ◌%◌, ◌≤◌, ◌<◌, Bool, true, false, List, [], ◌∷◌, length, All, Some, Ok, Err, slice_get, refl, sym, ◌∙◌, ap, subst, arith, OnOk, Result, eq-eqb, slice_get_within, nat_tests, GroupNo, Ckpt1, Ckpt2, Spool, Config, Whole, AreLines, page_bytes, groups_needed, Disk as DiskPart, View, disk_now, slice, Acts, Goes, Written, OnDevice, IsGroupOf, device_of, is_within, page_start, page_part, WritesGroup, Spools, spools_at, bytes_on, IsSynced, IsThere, none_lost, SparesBut, papers_act, papers_none, papers_on, wires_none, wires_then, sparing_done, sparing_failed, sparing_halted, sparing_then, AreQuiet, GroupsKept, IsGroupKept, OnVolumes, Rise, SpoolCauses, StandBelow, answer_of, lies_there, page_in}
pub use Rattle.mas_types.proofs.ListLemmas.{All-at as all_at}
use Rattle.std.proofs.lemmas.List.Folds.{list_any_at}
use Rattle.std.proofs.lemmas.Option.{get_or_from_slice_get}
use Rattle.mas_types.specs.declared.ids.Page.{Page}
use Rattle.spool_plant.specs.declared.plant.Act.{Act}
use Rattle.spool_plant.specs.declared.plant.Act.TheVariants.{Done, Failed, Halted}
use Rattle.ckpt_copy.specs.Moments.{either_way, goes_on, goes_none}
use Rattle.spool_text.specs.Laws.{HasNeededGroups}
use Rattle.spool_text.specs.Texts.{packed}
use Rattle.spool_volumes.specs.Laws.{HavePages, ReadsTexts}
use Rattle.spool_volumes.specs.Volumes.{volume_of, start_of, AreRoomy}
use Rattle.mas_complex.proofs.Basics.{few_quotient}
use Rattle.member_decks.specs.declared.spooling.SpoolError.{SpoolError}
use Rattle.member_decks.specs.declared.spooling.SpoolError.TheVariants.{Lost, Halted as Stopped}
pub use Rattle.std.proofs.lemmas.Bool.{false_from_ne_true as there_by}

-- ACTS

pub acts_none : (told : Type 0) (by : ℕ) (v : View) → OnVolumes told by v v
acts_none told by v = assumption (goes_none v, papers_none v, wires_none v)

pub acts_on : (told : Type 0) (by : ℕ) (old mid new : View) → OnVolumes told by old mid → OnVolumes told by mid new → OnVolumes told by old new
acts_on told by old mid new one two =
    let goes = goes_on old mid new one.goes two.goes in
    let papers = λ (t : told). papers_on old mid new one.goes.later two.goes (one.papers t) (two.papers t) in
    let wires = λ (t : told). wires_then old mid new (one.wires t) (two.wires t) in
    search (goes, papers, wires, one.else_lost, two.else_lost, one.loses, two.loses, one.no_other_stop, two.no_other_stop, one.first, two.first, one.second, two.second, one.console, two.console)

-- one act on a volume
pub act_on : (told : Type 0) (by v : ℕ) (old new : View) (r : Act) → Acts by (DiskPart (Spool v)) old new r → (told → OnDevice (Spool v) old new) → OnVolumes told by old new
act_on told by v old new r acts only =
    let papers = λ (t : told). papers_act old new acts.goes acts.time (only t).paper in
    search (arith, papers, acts, only)

-- ONE PAGE

pub some_groups : (volumes groups n : ℕ) → n < volumes * groups → 1 ≤ groups
some_groups volumes zero n lt = absurd (omega (arith, lt))
some_groups volumes (suc groups) n lt = omega arith

-- a group of the configuration lies within its volume, if that isn't lost
pub within : (v : View) (config : Config) (g : GroupNo) → IsGroupOf config g → AreRoomy v config → v.lost (DiskPart (device_of config.groups g)) ≡ false → is_within v config.groups g ≡ true
within v config g is roomy there =
    let some : 1 ≤ config.groups = some_groups config.volumes config.groups g.0 is in
    let size = roomy (volume_of config.groups g) (omega arith) (few_quotient g.0 config.volumes config.groups some is) there in
    let below : g.0 % config.groups < config.groups = omega (arith, some) in
    grind (arith, nat_tests, below, size)

-- once a page is written it is there
pub stands : (v w : View) (config : Config) (g : GroupNo) (bytes : Page) (by : ℕ) → length bytes.0 ≡ page_bytes → IsGroupOf config g → AreRoomy v config
    → Acts by (DiskPart (device_of config.groups g)) v w Done → WritesGroup config.groups g v w bytes Done → page_in (spools_at w w.now) config.groups g ≡ bytes.0
stands v w config g bytes by long is roomy acts writes =
    let alive = there_by (v.lost (DiskPart (device_of config.groups g))) (λ lost. acts.stays_lost lost refl) in
    let written = subst (λ (b : Bool). Written (page_start b (start_of config.groups g)) (page_part b bytes.0) (disk_now v (device_of config.groups g)) (disk_now w (device_of config.groups g)) Done) (within v config g is roomy alive) writes.disk in
    subst (λ (n : ℕ). slice (start_of config.groups g) n (disk_now w (device_of config.groups g)).bytes ≡ bytes.0) long written.1

-- GROUPS THAT ARE AS THEY WERE

pub kept_none : (per : ℕ) (groups : List GroupNo) (disks : Spools) → GroupsKept per groups disks disks
kept_none per groups disks h apart = record { page = refl; synced = λ is. is }

pub kept_then : (per : ℕ) (h : GroupNo) (old mid new : Spools) → IsGroupKept per h old mid → IsGroupKept per h mid new → IsGroupKept per h old new
kept_then per h old mid new one two = record { page = two.page ∙ one.page; synced = λ is. two.synced (one.synced is) }

-- acts that change no byte, and leave synced what was synced
pub kept_quiet : (per : ℕ) (groups : List GroupNo) (old new : Spools) → AreQuiet old new → GroupsKept per groups old new
kept_quiet per groups old new quiet h apart = record {
  page = ap (λ (bytes : List ℕ). slice (start_of per h) page_bytes bytes) (quiet (volume_of per h)).bytes;
  synced = λ is. (quiet (volume_of per h)).synced (record { from = start_of per h; len = page_bytes }) is;
}

-- ANSWERS

pub on_done : (A : Type 0) (r : Act) (v : ℕ) → (r ≡ Done → A) → OnOk (answer_of r v) A
on_done A Done v f = f refl
on_done A _ v f = tt

-- the cause of an act on a volume on which one of the groups lies
pub cause_of : (by per v : ℕ) (groups : List GroupNo) (old new : View) (r : Act) → lies_there per v groups ≡ true → Acts by (DiskPart (Spool v)) old new r → SpoolCauses (answer_of r v) by per groups old new
cause_of by per v groups old new Done there acts = sparing_done by (DiskPart (Spool v)) old new acts
cause_of by per v groups old new Failed there acts = (there, acts.is_lost refl, acts.failed refl, sparing_failed by v old new acts)
cause_of by per v groups old new Halted there acts = (acts.not_operator refl, acts.halted refl, sparing_halted by (DiskPart (Spool v)) old new acts)

-- an answer after other acts, by more groups
pub cause_by : {T : Type 0} (by per : ℕ) (groups gs : List GroupNo) (old mid new : View) (r : Result T SpoolError) → ((v : ℕ) → lies_there per v groups ≡ true → lies_there per v gs ≡ true) → Goes old mid → SparesBut by false none_lost old mid → SpoolCauses r by per groups mid new → SpoolCauses r by per gs old new
cause_by by per groups gs old mid new (Ok done) wider goes spares cause = sparing_then by false none_lost old mid new spares cause
cause_by by per groups gs old mid new (Err (Lost v)) wider goes spares cause = (wider v cause.0, cause.1, omega (arith, cause.2, goes.faults (DiskPart (Spool v))), sparing_then by false (λ n. n == v) old mid new spares cause.3)
cause_by by per groups gs old mid new (Err Stopped) wider goes spares cause = (cause.0, omega (arith, cause.1, goes.stops by), sparing_then by true none_lost old mid new spares cause.2)

pub lies_among : (per v : ℕ) (groups : List GroupNo) (k : ℕ) (g : GroupNo) → slice_get groups k ≡ Some g → lies_there per v (g ∷ []) ≡ true → lies_there per v groups ≡ true
lies_among per v groups k g here there = list_any_at (λ (h : GroupNo). volume_of per h == v) groups k g (slice_get_within groups k g here) (rw (get_or_from_slice_get groups k g g here) (grind (arith, there)))

pub lies_alone : (per : ℕ) (g : GroupNo) → lies_there per (volume_of per g) (g ∷ []) ≡ true
lies_alone per g = rw (eq-eqb (volume_of per g) (volume_of per g) refl) refl

pub still_roomy : (config : Config) (old new : View) → Goes old new → AreRoomy old config → AreRoomy new config
still_roomy config old new goes roomy n some few there =
    subst (λ (size : ℕ). page_bytes * config.groups ≤ size) (sym (goes.size (Spool n))) (roomy n some few (there_by (old.lost (DiskPart (Spool n))) (λ lost. absurd (let gone = goes.lost (DiskPart (Spool n)) lost in cc))))

-- PLACE BY PLACE

pub stand_next : (per : ℕ) (pages : List (List ℕ)) (groups : List GroupNo) (old new : Spools) (i : ℕ) (g : GroupNo) → slice_get groups i ≡ Some g → Rise groups → StandBelow i old per pages groups
    → ((h : GroupNo) → h.0 ≢ g.0 → page_in new per h ≡ page_in old per h) → slice_get pages i ≡ Some (page_in new per g) → StandBelow (i + 1) new per pages groups
stand_next per pages groups old new i g at_i rise below spared here k h lt at_k = ⊎_elim
    (λ (le : i ≤ k). let e : k ≡ i = omega (arith, le, lt) in cc)
    (λ (less : k < i). below k h less at_k ∙ ap Some (sym (spared h (λ same. absurd (omega (arith, rise k i h g less at_k at_i, same))))))
    (either_way i k)

-- the pages all stand in their groups
have_pages : (disks : Spools) (per : ℕ) (pages : List (List ℕ)) (groups : List GroupNo) → length pages ≡ length groups → ((k : ℕ) (g : GroupNo) → slice_get groups k ≡ Some g → slice_get pages k ≡ Some (page_in disks per g)) → HavePages (bytes_on disks) per pages groups
have_pages disks per [] [] same stand = tt
have_pages disks per [] (g ∷ groups) same stand = absurd (omega (arith, same))
have_pages disks per (page ∷ pages) [] same stand = absurd (omega (arith, same))
have_pages disks per (page ∷ pages) (g ∷ groups) same stand =
    let first : Some page ≡ Some (page_in disks per g) = stand 0 g refl in
    (sym first, have_pages disks per pages groups (omega (arith, same)) (λ k h here. stand (suc k) h here))

-- VOLUME BY VOLUME

pub quiet_none : (disks : Spools) → AreQuiet disks disks
quiet_none disks n = record { bytes = refl; synced = λ s avoids. avoids }

pub quiet_on : (old mid new : Spools) → AreQuiet old mid → AreQuiet mid new → AreQuiet old new
quiet_on old mid new one two n = record { bytes = (two n).bytes ∙ (one n).bytes; synced = λ s avoids. (two n).synced s ((one n).synced s avoids) }

-- THE TEXT

pub text_there : ReadsTexts → HasNeededGroups → (old new : Spools) (per : ℕ) (lines : List (List ℕ)) (groups : List GroupNo) → AreLines lines → length groups ≡ groups_needed lines
    → StandBelow (length groups) old per (packed lines) groups → AreQuiet old new → All (IsSynced new per) groups → IsThere new per (Whole lines) groups
text_there reads needed old new per lines groups are as_many stand quiet synced = record {
  is = reads (bytes_on new) per lines groups are
      (have_pages new per (packed lines) groups (needed lines ∙ sym as_many)
      (λ k g here. stand k g (slice_get_within groups k g here) here ∙ ap Some (ap (λ (bytes : List ℕ). slice (start_of per g) page_bytes bytes) (sym (quiet (volume_of per g)).bytes))));
  synced = synced;
}
