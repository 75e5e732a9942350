-- A text that stands in groups of a member stands there while others take their turns: no byte of its groups differs,
-- and what was synced still is.
use Rattle.std.proofs.Common.{◌≡◌, ◌∙◌, inl, inr, ⊎_elim, ◌||◌, not, nat_le, ℕ, zero, suc, ◌+◌, Bool, true, false, List, [], ◌∷◌, All, Some, drop, take, map, ap, refl, subst, sym, arith}
use Rattle.std.specs.Prelude.{slice_index_or}
use Rattle.std.specs.List.{list_any}
use Rattle.std.proofs.lemmas.Bool.{le-leb, or_parts as or_false}
use Rattle.std.proofs.lemmas.Bool.Decides.{nat_tests}
use Rattle.std.proofs.lemmas.List.Elements.{All-cons, All-head, All-nil, All-tail}
use Rattle.mas_types.specs.declared.ids.GroupNo.{GroupNo}
use Rattle.mas_types.specs.declared.ids.MemberId.{MemberId}
use Rattle.mas_types.specs.declared.ids.Page.{Page}
use Rattle.mas_types.specs.declared.ids.Dev.TheVariants.{Spool}
use Rattle.mas_types.specs.declared.jobs.OutSpec.{OutSpec}
use Rattle.mas_types.specs.declared.jobs.Text.{Text}
use Rattle.mas_types.specs.declared.jobs.Text.TheVariants.{Whole}
use Rattle.mas_types.specs.declared.queues.Owner.{Owner}
use Rattle.mas_types.specs.Owners.{groups_needed}
use Rattle.mas_types.specs.Queue.{line_count}
use Rattle.spool_plant.specs.View.{Apart, Avoids, Stretch}
use Rattle.spool_volumes.specs.Texts.{held, records_on}
use Rattle.spool_volumes.specs.Volumes.{volume_of}
use Rattle.mas_complex.specs.Texts.{IsThere, Spools, bytes_on}
use Rattle.mas_complex.proofs.Spooled.{Spared, same_text}
use Rattle.gate_facts.specs.Values.{SyncedGroups}
use Rattle.gate_turns.specs.Desks.{Disks, group_on, groups_from, groups_on, is_unsynced, meets, page_stretch}
use Rattle.member_work.specs.Spooled.{AreSpooled}

-- UNSYNCED STRETCHES

meets_not : (r s : Stretch) → Apart r s → meets r s ≡ false
meets_not r s apart = ⊎_elim
    (λ le. let is : nat_le (r.from + r.len) s.from ≡ true = le-leb (r.from + r.len) s.from le in ap (λ (t : Bool). not (t || nat_le (s.from + s.len) r.from)) is)
    (λ le.
    let is : nat_le (s.from + s.len) r.from ≡ true = le-leb (s.from + s.len) r.from le in
    ap (λ (t : Bool). not (nat_le (r.from + r.len) s.from || t)) is ∙ either (nat_le (r.from + r.len) s.from))
    apart where
      either : (t : Bool) → not (t || true) ≡ false
      either true = refl
      either false = refl

apart_not : (r s : Stretch) → meets r s ≡ false → Apart r s
apart_not r s is = by_tests (nat_le (r.from + r.len) s.from) (nat_le (s.from + s.len) r.from) refl refl is where
  by_tests : (a b : Bool) → nat_le (r.from + r.len) s.from ≡ a → nat_le (s.from + s.len) r.from ≡ b → not (a || b) ≡ false → Apart r s
  by_tests true b one two none = inl (grind (arith, nat_tests, one))
  by_tests false true one two none = inr (grind (arith, nat_tests, two))
  by_tests false false one two none = absurd (cc)

pub avoids_synced : (rs : List Stretch) (s : Stretch) → Avoids rs s → list_any (λ r. meets r s) rs ≡ false
avoids_synced [] s all = refl
avoids_synced (r ∷ rs) s all = rw (meets_not r s all.0) (avoids_synced rs s all.1)

pub synced_avoids : (rs : List Stretch) (s : Stretch) → list_any (λ r. meets r s) rs ≡ false → Avoids rs s
synced_avoids [] s is = tt
synced_avoids (r ∷ rs) s is = let parts = or_false (meets r s) (list_any (λ t. meets t s) rs) is in (apart_not r s parts.0, synced_avoids rs s parts.1)

-- THE MEMBER'S GROUPS, as its desk shows them

still_false : (a b : Bool) → (a ≡ true → b ≡ true) → b ≡ false → a ≡ false
still_false true b follows none = absurd (let is : b ≡ true = follows refl in let bad : true ≡ false = sym is ∙ none in cc)
still_false false b follows none = refl

module _ (per : ℕ) (old new : Disks) where
  abbrev on_old : Spools
  on_old n = old (Spool n)

  abbrev on_new : Spools
  on_new n = new (Spool n)

  abbrev pub Kept : GroupNo → Type 0
  Kept g = Spared per on_old on_new g

  one_spared : (g : GroupNo) → (group_on new per g).bytes ≡ (group_on old per g).bytes → ((group_on new per g).unsynced ≡ true → (group_on old per g).unsynced ≡ true) → Kept g
  one_spared g bytes synced = record {
    page = ap (λ (p : Page). p.0) bytes;
    synced = λ was. synced_avoids (on_new (volume_of per g)).unsynced (page_stretch per g)
        (still_false (is_unsynced (on_new (volume_of per g)) (page_stretch per g)) (is_unsynced (on_old (volume_of per g)) (page_stretch per g)) synced
        (avoids_synced (on_old (volume_of per g)).unsynced (page_stretch per g) was));
  }

  mapped_spared : (gs : List GroupNo) → SyncedGroups (map (group_on new per) gs) (map (group_on old per) gs) → All Kept gs
  mapped_spared [] synced = All-nil Kept
  mapped_spared (g ∷ gs) synced = All-cons Kept g gs (one_spared g synced.1 synced.2) (mapped_spared gs synced.3)

  pub groups_spared : (m : MemberId) (was is : List Owner) → groups_from m 0 is ≡ groups_from m 0 was → SyncedGroups (groups_on new per m is) (groups_on old per m was) → All Kept (groups_from m 0 was)
  unfolding groups_on
  groups_spared m was is same synced = mapped_spared (groups_from m 0 was) (subst (λ (gs : List GroupNo). SyncedGroups (map (group_on new per) gs) (map (group_on old per) (groups_from m 0 was))) same synced)

  -- a text in them
  pub there_still : (text : Text) (gs : List GroupNo) → All Kept gs → IsThere on_old per text gs → IsThere on_new per text gs
  there_still text gs spared there = record {
    is = same_text (records_on (bytes_on on_new) per) (records_on (bytes_on on_old) per) (line_count text) gs (λ k d lt. same_records (slice_index_or gs k d) (spared k d lt)) ∙ there.is;
    synced = λ k d lt. (spared k d lt).synced (there.synced k d lt);
  } where
    same_records : (g : GroupNo) → Kept g → records_on (bytes_on on_new) per g ≡ records_on (bytes_on on_old) per g
    same_records g kept = ap (λ (page : List ℕ). held (Some page)) kept.page

  take_all : (n : ℕ) (gs : List GroupNo) → All Kept gs → All Kept (take n gs)
  take_all zero gs all = All-nil Kept
  take_all (suc n) [] all = All-nil Kept
  take_all (suc n) (g ∷ gs) all = All-cons Kept g (take n gs) (All-head Kept g gs all) (take_all n gs (All-tail Kept g gs all))

  drop_all : (n : ℕ) (gs : List GroupNo) → All Kept gs → All Kept (drop n gs)
  drop_all zero gs all = all
  drop_all (suc n) [] all = All-nil Kept
  drop_all (suc n) (g ∷ gs) all = drop_all n gs (All-tail Kept g gs all)

  pub some_still : (n : ℕ) (text : Text) (gs : List GroupNo) → All Kept gs → IsThere on_old per text (take n gs) → IsThere on_new per text (take n gs)
  some_still n text gs spared there = there_still text (take n gs) (take_all n gs spared) there

  -- and the texts of outputs
  shares_still : (specs : List OutSpec) (gs : List GroupNo) → All Kept gs → AreSpooled on_old per specs gs → AreSpooled on_new per specs gs
  shares_still [] gs spared there = tt
  shares_still (s ∷ specs) gs spared there =
      (there_still (Whole s.text) (take (groups_needed s.text) gs) (take_all (groups_needed s.text) gs spared) there.0, shares_still specs (drop (groups_needed s.text) gs) (drop_all (groups_needed s.text) gs spared) there.1)

  pub outputs_still : (n : ℕ) (specs : List OutSpec) (gs : List GroupNo) → All Kept gs → AreSpooled on_old per specs (take n gs) → AreSpooled on_new per specs (take n gs)
  outputs_still n specs gs spared there = shares_still specs (take n gs) (take_all n gs spared) there
