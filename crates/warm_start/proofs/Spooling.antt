-- Texts that are read from the spool volumes.
use Rattle.std.proofs.Common.{◌≡◌, ◌≢◌, ◌||◌, ◌==◌, if◌then◌else◌, ℕ, suc, ◌+◌, ◌*◌, ◌≤◌, ◌<◌, Bool, true, false, List, [], ◌∷◌, ◌++◌, length, map, take, get_or, All, Option, Some, option_map, slice_index_or, Result, Ok, Err, refl, sym, ◌∙◌, ap, subst, arith}
use Rattle.std.specs.Prelude.{IfOk}
use Rattle.std.specs.List.{list_any}
use Rattle.std.proofs.lemmas.Bool.{eqb-true, eqb-false}
use Rattle.std.proofs.lemmas.List.{map-append, take_more}
use Rattle.std.proofs.lemmas.List.Elements.{All-nil, All-cons, All-append, All-weaker}
use Rattle.std.proofs.lemmas.List.Sorted.{All-permutation}
use Rattle.mas_types.specs.declared.ids.GroupNo.{GroupNo}
use Rattle.mas_types.specs.declared.ids.Dev.TheVariants.{Spool}
use Rattle.mas_types.specs.declared.jobs.Job.{Job}
use Rattle.mas_types.specs.declared.jobs.Output.{Output as QueueOutput}
use Rattle.mas_types.specs.declared.jobs.Text.{Text}
use Rattle.mas_types.specs.declared.queues.Config.{Config}
use Rattle.mas_types.specs.declared.queues.Owner.{Owner}
use Rattle.mas_types.specs.declared.queues.Queue.{Queue}
use Rattle.mas_types.specs.declared.queues.Thing.{Thing}
use Rattle.mas_types.specs.declared.queues.Thing.TheVariants.{Deck, Output}
use Rattle.mas_types.specs.Fit.{IsConfig}
use Rattle.mas_types.specs.Limits.{page_bytes}
use Rattle.mas_types.specs.Queue.{line_count}
use Rattle.spool_plant.specs.declared.plant.Act.{Act}
use Rattle.spool_plant.specs.declared.plant.Act.TheVariants.{Done, Failed, Halted}
use Rattle.spool_plant.specs.declared.plant.Part.TheVariants.{Disk as DiskPart}
use Rattle.spool_plant.specs.View.{View, Disk, Stretch, Avoids, disk_now, slice}
use Rattle.spool_plant.specs.Acts.{Acts, Goes, Syncs, Synced}
use Rattle.ckpt_copy.specs.Moments.{goes_none}
use Rattle.lay_bytes.specs.declared.records.JobRec.{JobRec}
use Rattle.lay_bytes.specs.declared.records.OutRec.{OutRec}
use Rattle.ckpt_pages.specs.QueueOf.{job_with, output_with}
use Rattle.track_groups.specs.Groups.{is_things, groups_where}
use Rattle.track_groups.specs.Laws.{AreItsOwn}
use Rattle.track_groups.specs.Places.{groups_of}
use Rattle.spool_volumes.specs.Volumes.{Volumes, volume_of, start_of, volumes_now, bytes_unless, IsPlaced, IsSteady, AreRoomy}
use Rattle.spool_volumes.specs.Texts.{held, records_on, text_of, IsLimited}
use Rattle.spool_volumes.specs.Looks.{lie_on_lost, OnlyLooksAt, LooksAt}
use Rattle.spool_volumes.proofs.LookLemmas.{looks_then, still}
use Rattle.job_queue.specs.Jobs as jobs
use Rattle.output_queue.specs.Outputs as outputs
use Rattle.mas_complex.specs.Texts.{lost_now, spools_at, bytes_on, IsThereUnless, IsReadUnless, HasTexts}
use Rattle.mas_complex.proofs.Basics.{few_quotient}
use Rattle.mas_complex.proofs.Spooled.{same_text}
use Rattle.warm_start.specs.Spooled.{IsGiven, AreGiven}

-- what is said of a value that is there
pub if_ok : {T E : Type 0} (P Q : T → Type 0) (r : Result T E) → ((x : T) → P x → Q x) → IfOk r P → IfOk r Q
if_ok P Q (Ok x) f h = f x h
if_ok P Q (Err e) f h = h

-- LOST VOLUMES

unlost : (a b : Bool) → (a ≡ true → b ≡ true) → b ≡ false → a ≡ false
unlost true b stays e = let is : b ≡ true = stays refl in absurd (cc)
unlost false b stays e = refl

-- where a group lies on a volume that is lost before, it does so later
fewer : (old new : View) (per : ℕ) (gs : List GroupNo) → Goes old new → lie_on_lost new per gs ≡ false → lie_on_lost old per gs ≡ false
fewer old new per [] goes none = refl
fewer old new per (g ∷ gs) goes none =
    both (old.lost (DiskPart (Spool (volume_of per g)))) (new.lost (DiskPart (Spool (volume_of per g)))) (lie_on_lost old per gs) (lie_on_lost new per gs) (goes.lost (DiskPart (Spool (volume_of per g)))) (λ later. fewer old new per gs goes later) none
  where
    both : (a b c d : Bool) → (a ≡ true → b ≡ true) → (d ≡ false → c ≡ false) → (b || d) ≡ false → (a || c) ≡ false
    both true true c d stays later none = absurd (cc)
    both true false c d stays later none = let is : false ≡ true = stays refl in absurd (cc)
    both false true c d stays later none = absurd (cc)
    both false false c d stays later none = later none

all_false : (test : GroupNo → Bool) (gs : List GroupNo) → list_any test gs ≡ false → All (λ (g : GroupNo). test g ≡ false) gs
all_false test [] none = All-nil (λ (g : GroupNo). test g ≡ false)
all_false test (g ∷ gs) none =
    All-cons (λ (h : GroupNo). test h ≡ false) g gs (left (test g) (list_any test gs) none) (all_false test gs (right (test g) (list_any test gs) none))
  where
    left : (a b : Bool) → (a || b) ≡ false → a ≡ false
    left true b e = absurd (cc)
    left false b e = refl

    right : (a b : Bool) → (a || b) ≡ false → b ≡ false
    right true b e = absurd (cc)
    right false b e = e

pub roomy_later : (old new : View) (config : Config) → Goes old new → AreRoomy old config → AreRoomy new config
roomy_later old new config goes roomy n some le there =
    subst (λ (s : ℕ). page_bytes * config.groups ≤ s) (sym (goes.size (Spool n))) (roomy n some le (unlost (old.lost (DiskPart (Spool n))) (new.lost (DiskPart (Spool n))) (goes.lost (DiskPart (Spool n))) there))

-- SYNCS

-- the volumes from the first to one are synced, unless they are lost
abbrev pub AreClean : View → ℕ → Type 0
AreClean v last = (n : ℕ) → 1 ≤ n → n ≤ last → v.lost (DiskPart (Spool n)) ≡ false → (disk_now v (Spool n)).unsynced ≡ []

pub clean_more : (v : ℕ) (old new : View) (act : Act) → Acts 0 (DiskPart (Spool v)) old new act → Syncs (Spool v) old new act → ((n : ℕ) → 1 ≤ n → n < v → old.lost (DiskPart (Spool n)) ≡ false → (disk_now old (Spool n)).unsynced ≡ []) → AreClean new v
clean_more v old new act acts syncs before n some le there = by_volume (n == v) refl where
  here : (a : Act) → act ≡ a → Synced (disk_now old (Spool v)) (disk_now new (Spool v)) a → new.lost (DiskPart (Spool v)) ≡ false → (disk_now new (Spool v)).unsynced ≡ []
  here Done is synced kept = synced.1
  here Failed is synced kept = let lost : new.lost (DiskPart (Spool v)) ≡ true = acts.is_lost is in absurd (cc)
  here Halted is synced kept = absurd (omega (arith, acts.not_operator is))

  by_volume : (b : Bool) → (n == v) ≡ b → (disk_now new (Spool n)).unsynced ≡ []
  by_volume true e =
      let same : n ≡ v = eqb-true n v e in
      subst (λ (m : ℕ). (disk_now new (Spool m)).unsynced ≡ []) (sym same) (here act refl syncs.disk (subst (λ (m : ℕ). new.lost (DiskPart (Spool m)) ≡ false) same there))
  by_volume false e =
      let other : n ≢ v = eqb-false n v e in
      ap (λ (d : Disk). d.unsynced) (syncs.only.others (Spool n) (λ same. other (cc same)))
      ∙ before n some (omega (arith, other, le)) (unlost (old.lost (DiskPart (Spool n))) (new.lost (DiskPart (Spool n))) (acts.goes.lost (DiskPart (Spool n))) there)

pub clean_later : (old new : View) (last : ℕ) → OnlyLooksAt old new → AreClean old last → (n : ℕ) → 1 ≤ n → n ≤ last → new.lost (DiskPart (Spool n)) ≡ false → (s : Stretch) → Avoids (disk_now new (Spool n)).unsynced s
clean_later old new last only clean n some le there s =
    (still old new only n).unsynced s
    (subst (λ (u : List Stretch). Avoids u s) (sym (clean n some le (unlost (old.lost (DiskPart (Spool n))) (new.lost (DiskPart (Spool n))) (only.goes.lost (DiskPart (Spool n))) there))) tt)

-- GROUPS

all_if : (P : GroupNo → Type 0) (b : Bool) (xs ys : List GroupNo) → All P xs → All P ys → All P (if b then xs else ys)
all_if P true xs ys first second = first
all_if P false xs ys first second = second

where_below : (test : Owner → Bool) (at : ℕ) (gs : List Owner) → All (λ (g : GroupNo). g.0 < at + length gs) (groups_where test at gs)
where_below test at [] = All-nil (λ (g : GroupNo). g.0 < at + 0)
where_below test at (o ∷ gs) =
    let more : All (λ (g : GroupNo). g.0 < at + suc (length gs)) (groups_where test (at + 1) gs) = All-weaker (λ (g : GroupNo). g.0 < at + 1 + length gs) (λ (g : GroupNo). g.0 < at + suc (length gs)) (λ g lt. omega (arith, lt)) (groups_where test (at + 1) gs) (where_below test (at + 1) gs) in
    all_if (λ (g : GroupNo). g.0 < at + suc (length gs)) (test o) (record { 0 = at } ∷ groups_where test (at + 1) gs) (groups_where test (at + 1) gs)
    (All-cons (λ (g : GroupNo). g.0 < at + suc (length gs)) (record { 0 = at }) (groups_where test (at + 1) gs) (omega arith) more) more

pub groups_below : AreItsOwn → (gs : List Owner) (t : Thing) → All (λ (g : GroupNo). g.0 < length gs) (groups_of t gs)
groups_below own gs t =
    All-permutation (λ (g : GroupNo). g.0 < length gs) (groups_where (is_things t) 0 gs) (groups_of t gs) (own t gs)
    (All-weaker (λ (g : GroupNo). g.0 < 0 + length gs) (λ (g : GroupNo). g.0 < length gs) (λ g lt. omega (arith, lt)) (groups_where (is_things t) 0 gs) (where_below (is_things t) 0 gs))

module _ (config : Config) (is : IsConfig config) (gs : List GroupNo) (below : All (λ (g : GroupNo). g.0 < config.volumes * config.groups) gs) where
  volumes_of : All (λ (g : GroupNo). volume_of config.groups g ≤ config.volumes) gs
  volumes_of k d lt = few_quotient (slice_index_or gs k d).0 config.volumes config.groups is.groups.0 (below k d lt)

  pub placed : (v : View) → AreRoomy v config → All (IsPlaced v config.groups) gs
  placed v roomy k d lt =
      let g = slice_index_or gs k d in
      record {
        volume = omega (arith, volumes_of k d lt, is.volumes.1);
        within = λ there. let room = roomy (volume_of config.groups g) (omega arith) (volumes_of k d lt) there in omega (arith, room, is.groups.0);
      }

  -- a text that is read from volumes that are synced stands there
  pub stands : (v : View) (text : Text) → ((n : ℕ) → 1 ≤ n → n ≤ config.volumes → v.lost (DiskPart (Spool n)) ≡ false → (s : Stretch) → Avoids (disk_now v (Spool n)).unsynced s)
      → IsReadUnless (lost_now v) (bytes_on (spools_at v v.now)) config.groups text gs → IsThereUnless (lost_now v) (spools_at v v.now) config.groups text gs
  stands v text clean read none = record {
    is = read none;
    synced = λ k d lt.
        let g = slice_index_or gs k d in
        clean (volume_of config.groups g) (omega arith) (volumes_of k d lt) (all_false (λ (h : GroupNo). lost_now v (volume_of config.groups h)) gs none k d lt) (record { from = start_of config.groups g; len = page_bytes });
  }

-- TEXTS

-- a text that was read of what was shown is read of the same bytes later, with more volumes lost
pub read_later : (first now later again : View) (per : ℕ) (text : Text) (gs : List GroupNo) → ((n : ℕ) → bytes_on (spools_at again again.now) n ≡ bytes_on (spools_at first first.now) n) → Goes now later
    → IsReadUnless (lost_now now) (bytes_on (spools_at first first.now)) per text gs → IsReadUnless (lost_now later) (bytes_on (spools_at again again.now)) per text gs
read_later first now later again per text gs same goes read none =
    same_text (records_on (bytes_on (spools_at again again.now)) per) (records_on (bytes_on (spools_at first first.now)) per) (line_count text) gs
    (λ k d lt. ap (λ (o : Option (List ℕ)). held (option_map (slice (start_of per (slice_index_or gs k d)) page_bytes) o)) (same (volume_of per (slice_index_or gs k d))))
    ∙ read (fewer now later per gs goes none)

pub shown_same : (old new : View) → OnlyLooksAt old new → (n : ℕ) → bytes_on (spools_at new new.now) n ≡ bytes_on (spools_at old old.now) n
shown_same old new only n = ap Some (still old new only n).bytes

-- WHERE NO VOLUME IS LOST

in_between : (a b c : Bool) → (a ≡ true → b ≡ true) → (b ≡ true → c ≡ true) → c ≡ a → b ≡ a
in_between true b c first then_too same = first refl
in_between false b c first then_too same = unlost b c then_too same

module _ (old mid new : View) (first : Goes old mid) (then_too : Goes mid new) (steady : IsSteady old new) where
  pub steady_first : IsSteady old mid
  steady_first n =
      let p = DiskPart (Spool n) in
      in_between (old.lost p) (mid.lost p) (new.lost p) (first.lost p) (then_too.lost p) (steady n)

  pub steady_then : IsSteady mid new
  steady_then n = steady n ∙ sym (steady_first n)

volumes_same : (old new : View) → OnlyLooksAt old new → IsSteady old new → (n : ℕ) → volumes_now new n ≡ volumes_now old n
volumes_same old new only steady n = ap (λ (b : Bool). bytes_unless b (disk_now new (Spool n)).bytes) (steady n) ∙ ap (bytes_unless (old.lost (DiskPart (Spool n)))) (still old new only n).bytes

-- what the volumes of two moments give alike
pub given_same : (v w : View) (per : ℕ) (text : Text) (gs : List GroupNo) → ((n : ℕ) → volumes_now w n ≡ volumes_now v n) → IsGiven v per text gs → IsGiven w per text gs
given_same v w per text gs same given =
    same_text (records_on (volumes_now w) per) (records_on (volumes_now v) per) (line_count text) gs
    (λ k d lt. ap (λ (o : Option (List ℕ)). held (option_map (slice (start_of per (slice_index_or gs k d)) page_bytes) o)) (same (volume_of per (slice_index_or gs k d))))
    ∙ given

-- the text that was read is what is given
pub given_as : (v : View) (per count : ℕ) (text : Text) (gs : List GroupNo) → line_count text ≡ count → text ≡ text_of (records_on (volumes_now v) per) count gs → IsGiven v per text gs
given_as v per count text gs counted is = ap (λ (n : ℕ). text_of (records_on (volumes_now v) per) n gs) counted ∙ sym is

-- what the slot counts, and the text that was read
pub read_unless : (v : View) (shown : Volumes) (per count : ℕ) (text : Text) (gs : List GroupNo) → line_count text ≡ count → (lie_on_lost v per gs ≡ false → text ≡ text_of (records_on shown per) count gs) → IsReadUnless (lost_now v) shown per text gs
read_unless v shown per count text gs counted left none = ap (λ (n : ℕ). text_of (records_on shown per) n gs) counted ∙ sym (left none)

-- what records tell of a job and of an output, whose texts have as many lines as the records count
pub told_job : (r : JobRec) (text : Text) → line_count text ≡ r.cards → jobs.rec_of (job_with (λ s. text) r) ≡ jobs.unordered r
told_job r text counted = ap (λ (n : ℕ). record (jobs.unordered r) { cards = n }) counted

pub told_output : (r : OutRec) (text : Text) → line_count text ≡ r.lines → outputs.rec_of (output_with (λ s. text) r) ≡ outputs.unordered r
told_output r text counted = ap (λ (n : ℕ). record (outputs.unordered r) { lines = n }) counted

-- records that were read so far, as the things of a queue
module _ {R X C : Type 0} (shown : R → C) (shows : X → C) (text : X → Text) (groups : X → List GroupNo) (tells : Type 0) (per : ℕ) where
  abbrev pub IsReadOf : View → View → X → Type 0
  IsReadOf first now x = IsReadUnless (lost_now now) (bytes_on (spools_at first first.now)) per (text x) (groups x)

  abbrev pub IsGivenOf : View → X → Type 0
  IsGivenOf v x = IsGiven v per (text x) (groups x)

  pub record HaveTexts (first now : View) (records : List R) (things : List X) : Type 0 where
    pub looks : LooksAt tells 0 first now
    pub same : map shown records ≡ map shows things
    pub texts : tells → All (IsReadOf first now) things
    pub given : tells → IsSteady first now → All (IsGivenOf first) things
    pub limited : All (λ x. IsLimited (text x)) things

  pub one_more : (first now new : View) (records : List R) (things : List X) (r : R) (x : X) → HaveTexts first now records things → LooksAt tells 0 now new → shows x ≡ shown r → (tells → IsReadOf now new x) → (tells → IsSteady now new → IsGivenOf now x) → IsLimited (text x)
      → HaveTexts first new (records ++ r ∷ []) (things ++ x ∷ [])
  one_more first now new records things r x have looks is read is_given limited = record {
    looks = looks_then first now new tells 0 have.looks looks;
    same = map-append shown records (r ∷ []) ∙ ap (λ (cs : List C). cs ++ shown r ∷ []) have.same ∙ ap (λ (y : C). map shows things ++ y ∷ []) (sym is) ∙ sym (map-append shows things (x ∷ []));
    texts = λ told. All-append (IsReadOf first new) things (x ∷ [])
        (All-weaker (IsReadOf first now) (IsReadOf first new) (λ y was. read_later first now new first per (text y) (groups y) (λ n. refl) looks.goes was) things (have.texts told))
        (All-cons (IsReadOf first new) x [] (read_later now new new first per (text x) (groups x) (λ n. sym (shown_same first now (have.looks.during told) n)) (goes_none new) (read told)) (All-nil (IsReadOf first new)));
    given = λ told steady.
        let before = steady_first first now new have.looks.goes looks.goes steady in
        All-append (IsGivenOf first) things (x ∷ []) (have.given told before)
        (All-cons (IsGivenOf first) x []
        (given_same now first per (text x) (groups x) (λ n. sym (volumes_same first now (have.looks.during told) before n)) (is_given told (steady_then first now new have.looks.goes looks.goes steady)))
        (All-nil (IsGivenOf first)));
    limited = All-append (λ y. IsLimited (text y)) things (x ∷ []) have.limited (All-cons (λ y. IsLimited (text y)) x [] limited (All-nil (λ y. IsLimited (text y))));
  }

  -- the record at a place
  pub next_one : (first now new : View) (records : List R) (at : ℕ) (d : R) (things : List X) (x : X) → at < length records → HaveTexts first now (take at records) things → LooksAt tells 0 now new → shows x ≡ shown (get_or records at d) → (tells → IsReadOf now new x) → (tells → IsSteady now new → IsGivenOf now x) → IsLimited (text x)
      → HaveTexts first new (take (at + 1) records) (things ++ x ∷ [])
  next_one first now new records at d things x lt have looks is read is_given limited =
      subst (λ (rs : List R). HaveTexts first new rs (things ++ x ∷ [])) (sym (take_more records at d lt)) (one_more first now new (take at records) things (get_or records at d) x have looks is read is_given limited)

  -- texts that were read are read of what the volumes show later
  pub later_texts : (first now new : View) (things : List X) → OnlyLooksAt first new → Goes now new → All (IsReadOf first now) things → All (IsReadOf new new) things
  later_texts first now new things only goes all =
      All-weaker (IsReadOf first now) (IsReadOf new new) (λ x was. read_later first now new new per (text x) (groups x) (shown_same first new only) goes was) things all

  -- texts that were given are given by what the volumes give later
  pub given_later : (first new : View) (things : List X) → OnlyLooksAt first new → IsSteady first new → All (IsGivenOf first) things → All (IsGivenOf new) things
  given_later first new things only steady all =
      All-weaker (IsGivenOf first) (IsGivenOf new) (λ x was. given_same first new per (text x) (groups x) (volumes_same first new only steady) was) things all

pub are_given : (v : View) (per : ℕ) (owners : List Owner) (Q : Queue) → Q.owners ≡ owners → All (λ j. IsGiven v per j.text (groups_of (Deck j.number) owners)) Q.jobs → All (λ o. IsGiven v per o.text (groups_of (Output o.job o.index) owners)) Q.outputs → AreGiven v per Q
are_given v per owners Q same decks outputs = record {
  decks = subst (λ (os : List Owner). All (λ (j : Job). IsGiven v per j.text (groups_of (Deck j.number) os)) Q.jobs) (sym same) decks;
  outputs = subst (λ (os : List Owner). All (λ (o : QueueOutput). IsGiven v per o.text (groups_of (Output o.job o.index) os)) Q.outputs) (sym same) outputs;
}

-- a queue whose owners are these, with texts that were read from volumes that are synced
module _ (config : Config) (is : IsConfig config) (owners : List Owner) (own : AreItsOwn) (long : length owners ≡ config.volumes * config.groups) (v : View)
    (clean : (n : ℕ) → 1 ≤ n → n ≤ config.volumes → v.lost (DiskPart (Spool n)) ≡ false → (s : Stretch) → Avoids (disk_now v (Spool n)).unsynced s) where
  there : (thing : Thing) (text : Text) → IsReadUnless (lost_now v) (bytes_on (spools_at v v.now)) config.groups text (groups_of thing owners) → IsThereUnless (lost_now v) (spools_at v v.now) config.groups text (groups_of thing owners)
  there thing text read =
      stands config is (groups_of thing owners) (subst (λ (n : ℕ). All (λ (g : GroupNo). g.0 < n) (groups_of thing owners)) long (groups_below own owners thing)) v text clean read

  pub has_texts : (Q : Queue) → Q.owners ≡ owners
      → All (λ j. IsReadUnless (lost_now v) (bytes_on (spools_at v v.now)) config.groups j.text (groups_of (Deck j.number) owners)) Q.jobs
      → All (λ o. IsReadUnless (lost_now v) (bytes_on (spools_at v v.now)) config.groups o.text (groups_of (Output o.job o.index) owners)) Q.outputs
      → HasTexts (lost_now v) (spools_at v v.now) config.groups Q
  has_texts Q same decks outputs = record {
    decks = subst (λ (os : List Owner). All (λ (j : Job). IsThereUnless (lost_now v) (spools_at v v.now) config.groups j.text (groups_of (Deck j.number) os)) Q.jobs) (sym same)
        (λ k d lt. there (Deck (slice_index_or Q.jobs k d).number) (slice_index_or Q.jobs k d).text (decks k d lt));
    outputs = subst (λ (os : List Owner). All (λ (o : QueueOutput). IsThereUnless (lost_now v) (spools_at v v.now) config.groups o.text (groups_of (Output o.job o.index) os)) Q.outputs) (sym same)
        (λ k d lt. there (Output (slice_index_or Q.outputs k d).job (slice_index_or Q.outputs k d).index) (slice_index_or Q.outputs k d).text (outputs k d lt));
  }
