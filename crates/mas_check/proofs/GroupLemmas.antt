-- Groups that are read one after another.
use Rattle.std.proofs.lemmas.List.{length-append, length-take-le, take_more}
use Rattle.std.proofs.Common.{mul-le-mul_right, ◌<◌, get_or, take, ◌≡◌, ℕ, ◌+◌, ◌*◌, ◌≤◌, nat_le, Bool, true, false, ◌&&◌, if◌then◌else◌, List, [], ◌∷◌, ◌++◌, length, Option, Some, None, option_map, refl, sym, ◌∙◌, ap, subst, arith}
use Rattle.mas_types.specs.declared.ids.Dev.TheVariants.{Spool}
use Rattle.mas_types.specs.declared.queues.Owner.{Owner}
use Rattle.mas_types.specs.Limits.{page_bytes}
use Rattle.mas_types.specs.Records.{records_in}
use Rattle.spool_plant.specs.declared.plant.Part.TheVariants.{Disk as DiskPart}
use Rattle.spool_plant.specs.View.{View, disk_now, slice}
use Rattle.spool_plant.specs.Acts.{Goes}
use Rattle.spool_volumes.specs.Volumes.{volume_of, start_of}
use Rattle.std.proofs.lemmas.Bool.{le-leb}
use Rattle.mas_check.specs.declared.groups.Group.{Group}
use Rattle.mas_check.specs.Groups.{has_text}
use Rattle.mas_check.specs.Volumes.{group_at, records_at, groups_from, lost_from}
use Rattle.mas_check.specs.Worlds.{OnlyReads}
use Rattle.mas_check.proofs.WorldLemmas.{reads_then, same_bytes}

-- ONE OWNER BEHIND OTHERS

pub groups_more : (v : View) (per at : ℕ) (owners more : List Owner) → groups_from v per at (owners ++ more) ≡ groups_from v per at owners ++ groups_from v per (at + length owners) more
groups_more v per at [] more = let e : at ≡ at + 0 = omega arith in ap (λ (n : ℕ). groups_from v per n more) e
groups_more v per at (o ∷ owners) more =
    let e : at + 1 + length owners ≡ at + length (o ∷ owners) = omega arith in
    ap (λ (gs : List Group). record { owner = o; records = if has_text o then records_at v per at else None } ∷ gs)
    (groups_more v per (at + 1) owners more ∙ ap (λ (n : ℕ). groups_from v per (at + 1) owners ++ groups_from v per n more) e)

first_none : (b : Bool) (n : ℕ) (rest : Option ℕ) → (if b then Some n else rest) ≡ None → (b ≡ false) × (rest ≡ None)
first_none true n rest e = absurd (cc)
first_none false n rest e = (refl, e)

both_none : (b : Bool) (n : ℕ) (rest : Option ℕ) → b ≡ false → rest ≡ None → (if b then Some n else rest) ≡ None
both_none true n rest e f = absurd (cc)
both_none false n rest e f = f

pub lost_none : (v : View) (per at : ℕ) (owners more : List Owner) → lost_from v per at (owners ++ more) ≡ None
    → (lost_from v per at owners ≡ None) × (lost_from v per (at + length owners) more ≡ None)
lost_none v per at [] more e = let same : at ≡ at + 0 = omega arith in (refl, subst (λ (n : ℕ). lost_from v per n more ≡ None) same e)
lost_none v per at (o ∷ owners) more e =
    let same : at + 1 + length owners ≡ at + length (o ∷ owners) = omega arith in
    let volume = volume_of per (group_at at) in
    let test = has_text o && v.lost (DiskPart (Spool volume)) in
    let parts = first_none test volume (lost_from v per (at + 1) (owners ++ more)) e in
    let rest = lost_none v per (at + 1) owners more parts.1 in
    (both_none test volume (lost_from v per (at + 1) owners) parts.0 rest.0, subst (λ (n : ℕ). lost_from v per n more ≡ None) same rest.1)

-- EARLIER AND LATER

and_before : (text a b : Bool) → (a ≡ true → b ≡ true) → (text && b) ≡ false → (text && a) ≡ false
and_before false a b stays e = refl
and_before true false b stays e = refl
and_before true true b stays e = absurd (let w = stays refl in cc)

-- where no group lies on a lost volume, none did before
pub lost_before : (old new : View) (per at : ℕ) (owners : List Owner) → Goes old new → lost_from new per at owners ≡ None → lost_from old per at owners ≡ None
lost_before old new per at [] goes e = refl
lost_before old new per at (o ∷ owners) goes e =
    let volume = volume_of per (group_at at) in
    let part = DiskPart (Spool volume) in
    let parts = first_none (has_text o && new.lost part) volume (lost_from new per (at + 1) owners) e in
    both_none (has_text o && old.lost part) volume (lost_from old per (at + 1) owners) (and_before (has_text o) (old.lost part) (new.lost part) (goes.lost part) parts.0) (lost_before old new per (at + 1) owners goes parts.1)

records_same : (tells : Type 0) (old new : View) (per g : ℕ) → tells → OnlyReads tells old new → records_at new per g ≡ records_at old per g
records_same tells old new per g told reads =
    let dev = Spool (volume_of per (group_at g)) in
    rw (reads.goes.size dev, same_bytes tells old new told reads dev) refl

-- what a call that only reads leaves
groups_same : (tells : Type 0) (old new : View) (per at : ℕ) (owners : List Owner) → tells → OnlyReads tells old new → groups_from new per at owners ≡ groups_from old per at owners
groups_same tells old new per at [] told reads = refl
groups_same tells old new per at (o ∷ owners) told reads =
    rw (records_same tells old new per at told reads, groups_same tells old new per (at + 1) owners told reads) refl

-- ONE GROUP

-- what was read of a group within its volume
pub held_read : (v : View) (per g : ℕ) (into : List ℕ) → start_of per (group_at g) + page_bytes ≤ v.size (Spool (volume_of per (group_at g)))
    → into ≡ slice (start_of per (group_at g)) page_bytes (disk_now v (Spool (volume_of per (group_at g)))).bytes → option_map length (records_in into) ≡ records_at v per g
held_read v per g into fits is =
    let test : nat_le (start_of per (group_at g) + page_bytes) (v.size (Spool (volume_of per (group_at g)))) ≡ true = le-leb _ _ fits in
    rw test (ap (λ (b : List ℕ). option_map length (records_in b)) is)

abbrev one : Owner → Option ℕ → List Group
one o records = record { owner = o; records = records } ∷ []

alone_none : (text lost : Bool) (n : ℕ) → text ≡ true → (if text && lost then Some n else None) ≡ None → lost ≡ false
alone_none true true n is e = absurd (cc)
alone_none true false n is e = refl
alone_none false lost n is e = absurd (cc)

pub found_text : (tells : Type 0) (old new : View) (per at : ℕ) (o : Owner) (records : Option ℕ) → has_text o ≡ true
    → (tells → new.lost (DiskPart (Spool (volume_of per (group_at at)))) ≡ false → records ≡ records_at old per at)
    → tells → lost_from new per at (o ∷ []) ≡ None → groups_from old per at (o ∷ []) ≡ record { owner = o; records = records } ∷ []
found_text tells old new per at o records text read told none =
    let volume = volume_of per (group_at at) in
    let there = alone_none (has_text o) (new.lost (DiskPart (Spool volume))) volume text none in
    ap (λ (b : Bool). one o (if b then records_at old per at else None)) text ∙ ap (λ (r : Option ℕ). one o r) (sym (read told there))

pub found_other : (old : View) (per at : ℕ) (o : Owner) → has_text o ≡ false → groups_from old per at (o ∷ []) ≡ record { owner = o; records = None } ∷ []
found_other old per at o text = ap (λ (b : Bool). one o (if b then records_at old per at else None)) text

-- READING

-- the groups of these owners were read
pub record HaveRead (tells : Type 0) (first now : View) (per : ℕ) (owners : List Owner) (groups : List Group) : Type 0 where
  pub reads : OnlyReads tells first now
  pub held : tells → lost_from now per 0 owners ≡ None → groups ≡ groups_from first per 0 owners
  pub count : length groups ≡ length owners

-- the groups that were read, with one more group
read_more : (tells : Type 0) (first now new : View) (per : ℕ) (owners : List Owner) (o : Owner) (groups : List Group) (g : Group) → HaveRead tells first now per owners groups → OnlyReads tells now new
    → (tells → lost_from new per (length owners) (o ∷ []) ≡ None → groups_from now per (length owners) (o ∷ []) ≡ g ∷ [])
    → HaveRead tells first new per (owners ++ o ∷ []) (groups ++ g ∷ [])
read_more tells first now new per owners o groups g have reads found = record {
  reads = reads_then tells first now new have.reads reads;
  held = λ told none.
      let zero_first : 0 + length owners ≡ length owners = omega arith in
      let parts = lost_none new per 0 owners (o ∷ []) none in
      let last : lost_from new per (length owners) (o ∷ []) ≡ None = subst (λ (n : ℕ). lost_from new per n (o ∷ []) ≡ None) zero_first parts.1 in
      let before = have.held told (lost_before now new per 0 owners reads.goes parts.0) in
      let here : groups_from first per (0 + length owners) (o ∷ []) ≡ g ∷ [] = ap (λ (n : ℕ). groups_from first per n (o ∷ [])) zero_first ∙ sym (groups_same tells first now per (length owners) (o ∷ []) told have.reads) ∙ found told last in
      ap (λ (gs : List Group). gs ++ g ∷ []) before ∙ ap (λ (gs : List Group). groups_from first per 0 owners ++ gs) (sym here) ∙ sym (groups_more first per 0 owners (o ∷ []));
  count = omega (arith, length-append groups (g ∷ []), length-append owners (o ∷ []), have.count);
}

-- the group at a place
pub read_next : (tells : Type 0) (first now new : View) (per : ℕ) (owners : List Owner) (i : ℕ) (d : Owner) (groups : List Group) (g : Group) → i < length owners → HaveRead tells first now per (take i owners) groups → OnlyReads tells now new
    → (tells → lost_from new per i (get_or owners i d ∷ []) ≡ None → groups_from now per i (get_or owners i d ∷ []) ≡ g ∷ [])
    → HaveRead tells first new per (take (i + 1) owners) (groups ++ g ∷ [])
read_next tells first now new per owners i d groups g within have reads found =
    let long : length (take i owners) ≡ i = length-take-le i owners (omega (arith, within)) in
    let here = subst (λ (n : ℕ). tells → lost_from new per n (get_or owners i d ∷ []) ≡ None → groups_from now per n (get_or owners i d ∷ []) ≡ g ∷ []) (sym long) found in
    subst (λ (os : List Owner). HaveRead tells first new per os (groups ++ g ∷ [])) (sym (take_more owners i d within)) (read_more tells first now new per (take i owners) (get_or owners i d) groups g have reads here)

-- no more groups than eight volumes have
pub few_owners : (count volumes per : ℕ) → count ≡ volumes * per → volumes ≤ 8 → count ≤ 8 * per
few_owners count volumes per is few = omega (arith, is, mul-le-mul_right per few)
