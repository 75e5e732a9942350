-- Takes and settings keep the sound parts.
use Rattle.std.proofs.Common.{◌≡◌, ℕ, zero, suc, ◌-◌, Bool, true, false, ◌&&◌, ◌||◌, nat_lt, List, [], ◌∷◌, length, refl, ap, ◌∙◌}
use Rattle.std.specs.Prelude.{◌==◌, if◌then◌else◌}
use Rattle.std.specs.List.{list_any, All}
use Rattle.std.proofs.lemmas.List.Elements.{All-cons, All-head, All-tail, All-nil, All-weaker}
use Rattle.mas_types.specs.declared.ids.MemberId.{MemberId}
use Rattle.mas_types.specs.declared.queues.Owner.{Owner}
use Rattle.mas_types.specs.declared.queues.Owner.TheVariants as owner
use Rattle.mas_types.specs.declared.queues.Setting.{Setting}
use Rattle.mas_types.specs.declared.queues.LineCount.{LineCount}
use Rattle.mas_types.specs.declared.queues.Queue.{Queue}
use Rattle.mas_types.specs.Owners.{is_free, taken, is_deck_of, is_output_of}
use Rattle.mas_types.specs.Queue.{is_member, change_setting, change_wire}
use Rattle.mas_types.specs.Limits.{wires_most}
use Rattle.mas_types.specs.Lists.{change_at}
use Rattle.mas_types.specs.Ids.{is_somebody}
use Rattle.mas_types.specs.Commands.Input.{take_row}
use Rattle.mas_types.specs.Fit.{AreDistinct, IsSetting}
use Rattle.mas_types.specs.Sound.{IsSound, is_owner_there, same_place, is_place_before_there, HasDeckGroup, HasOutputGroup}
use Rattle.queue_laws.proofs.Finds.{test_cases}

-- A STEP OF TAKE

taken_cases : (m : MemberId) (want : ℕ) (g : Owner) (gs : List Owner) (P : List Owner → Type 0) → (is_free g ≡ true → P (owner.Member m ∷ taken m (want - 1) gs)) → P (g ∷ taken m want gs) → P (taken m want (g ∷ gs))
taken_cases m want g gs P free kept =
    test_cases (is_free g && nat_lt 0 want) (P (taken m want (g ∷ gs)))
    (λ e. rw e (free (free_first (is_free g) (nat_lt 0 want) e)))
    (λ e. rw e kept)
  where
    free_first : (a b : Bool) → (a && b) ≡ true → a ≡ true
    free_first true b h = refl
    free_first false b h = absurd (cc)

pub length-taken : (m : MemberId) (want : ℕ) (gs : List Owner) → length (taken m want gs) ≡ length gs
length-taken m want [] = refl
length-taken m want (g ∷ gs) = taken_cases m want g gs (λ hs. length hs ≡ length (g ∷ gs)) (λ e. ap suc (length-taken m (want - 1) gs)) (ap suc (length-taken m want gs))

pub is_free_is : (g : Owner) → is_free g ≡ true → g ≡ owner.Free
is_free_is owner.Free h = refl
is_free_is (owner.Member m) h = absurd (cc)
is_free_is (owner.Deck n p) h = absurd (cc)
is_free_is (owner.Output n i p) h = absurd (cc)

-- what holds of no Free group and of no group of the member holds of the same groups as before
pub any-taken : (t : Owner → Bool) (m : MemberId) → t owner.Free ≡ false → t (owner.Member m) ≡ false → (want : ℕ) (gs : List Owner) → list_any t (taken m want gs) ≡ list_any t gs
any-taken t m free member want [] = refl
any-taken t m free member want (g ∷ gs) =
    taken_cases m want g gs (λ hs. list_any t hs ≡ list_any t (g ∷ gs))
    (λ e. let was : g ≡ owner.Free = is_free_is g e in rw (was, free, member) (any-taken t m free member (want - 1) gs))
    (ap (λ b. t g || b) (any-taken t m free member want gs))

-- what holds of each group and of the member's holds of each
pub All-taken : (P : Owner → Type 0) (m : MemberId) → P (owner.Member m) → (want : ℕ) (gs : List Owner) → All P gs → All P (taken m want gs)
All-taken P m member want [] all = All-nil P
All-taken P m member want (g ∷ gs) all =
    taken_cases m want g gs (All P)
    (λ e. All-cons P (owner.Member m) (taken m (want - 1) gs) member (All-taken P m member (want - 1) gs (All-tail P g gs all)))
    (All-cons P g (taken m want gs) (All-head P g gs all) (All-taken P m member want gs (All-tail P g gs all)))

no_place_free : (g : Owner) → same_place g owner.Free ≡ false
no_place_free owner.Free = refl
no_place_free (owner.Member m) = refl
no_place_free (owner.Deck n p) = refl
no_place_free (owner.Output n i p) = refl

no_place_member : (m : MemberId) (g : Owner) → same_place g (owner.Member m) ≡ false
no_place_member m owner.Free = refl
no_place_member m (owner.Member k) = refl
no_place_member m (owner.Deck n p) = refl
no_place_member m (owner.Output n i p) = refl

none_same_member : (m : MemberId) (gs : List Owner) → list_any (same_place (owner.Member m)) gs ≡ false
none_same_member m [] = refl
none_same_member m (g ∷ gs) = none_same_member m gs

AreDistinct-taken : (m : MemberId) (want : ℕ) (gs : List Owner) → AreDistinct same_place gs → AreDistinct same_place (taken m want gs)
AreDistinct-taken m want [] d = d
AreDistinct-taken m want (g ∷ gs) d =
    taken_cases m want g gs (AreDistinct same_place)
    (λ e. (none_same_member m (taken m (want - 1) gs), AreDistinct-taken m (want - 1) gs d.1))
    (any-taken (same_place g) m (no_place_free g) (no_place_member m g) want gs ∙ d.0, AreDistinct-taken m want gs d.1)

before-taken : (m : MemberId) (want : ℕ) (gs : List Owner) (g : Owner) → is_place_before_there gs g ≡ true → is_place_before_there (taken m want gs) g ≡ true
before-taken m want gs owner.Free h = refl
before-taken m want gs (owner.Member k) h = refl
before-taken m want gs (owner.Deck n zero) h = refl
before-taken m want gs (owner.Deck n (suc p)) h = any-taken (same_place (owner.Deck n p)) m refl refl want gs ∙ h
before-taken m want gs (owner.Output n i zero) h = refl
before-taken m want gs (owner.Output n i (suc p)) h = any-taken (same_place (owner.Output n i p)) m refl refl want gs ∙ h

pub take_sound : (Q : Queue) (m : MemberId) (want : ℕ) → IsSound Q → is_member Q.config m ≡ true → IsSound (take_row Q m want).effect
take_sound Q m want sound member = record {
  config = sound.config;
  few_jobs = sound.few_jobs;
  few_outputs = sound.few_outputs;
  each_group = length-taken m want Q.owners ∙ sound.each_group;
  each_member = sound.each_member;
  few_routes = sound.few_routes;
  each_line = sound.each_line;
  last = sound.last;
  members = sound.members;
  jobs = sound.jobs;
  decks = All-weaker (HasDeckGroup Q.owners) (HasDeckGroup (taken m want Q.owners)) (λ j deck some. any-taken (is_deck_of j.number) m refl refl want Q.owners ∙ deck some) Q.jobs sound.decks;
  outputs = sound.outputs;
  groups = All-weaker (HasOutputGroup Q.owners) (HasOutputGroup (taken m want Q.owners)) (λ o group some. any-taken (is_output_of o.job o.index) m refl refl want Q.owners ∙ group some) Q.outputs sound.groups;
  owners = All-taken (λ g. is_owner_there Q.config Q.jobs Q.outputs g ≡ true) m member want Q.owners sound.owners;
  numbers = sound.numbers;
  keys = sound.keys;
  printers = sound.printers;
  places = AreDistinct-taken m want Q.owners sound.places;
  no_gaps = All-taken (λ g. is_place_before_there (taken m want Q.owners) g ≡ true) m refl want Q.owners (All-weaker (λ g. is_place_before_there Q.owners g ≡ true) (λ g. is_place_before_there (taken m want Q.owners) g ≡ true) (before-taken m want Q.owners) Q.owners sound.no_gaps);
}

-- SETTINGS

length-change_at : {A : Type 0} (k : ℕ) (f : A → A) (xs : List A) → length (change_at k f xs) ≡ length xs
length-change_at k f [] = refl
length-change_at zero f (x ∷ xs) = refl
length-change_at (suc k) f (x ∷ xs) = ap suc (length-change_at k f xs)

All-change_at : {A : Type 0} (P : A → Type 0) (k : ℕ) (f : A → A) (xs : List A) → ((x : A) → P x → P (f x)) → All P xs → All P (change_at k f xs)
All-change_at P k f [] new all = All-nil P
All-change_at P zero f (x ∷ xs) new all = All-cons P (f x) xs (new x (All-head P x xs all)) (All-tail P x xs all)
All-change_at P (suc k) f (x ∷ xs) new all = All-cons P x (change_at k f xs) (All-head P x xs all) (All-change_at P k f xs new (All-tail P x xs all))

-- what holds of both holds of the one that a test chooses
guarded : {A : Type 0} (P : List A → Type 0) (b : Bool) (kept changed : List A) → P kept → P changed → P (if b then changed else kept)
guarded P true kept changed old new = new
guarded P false kept changed old new = old

pub settings_sound : (Q : Queue) (m : MemberId) (f : Setting → Setting) → IsSound Q → ((s : Setting) → IsSetting s → IsSetting (f s)) → IsSound (change_setting m f Q)
settings_sound Q m f sound new = record {
  config = sound.config;
  few_jobs = sound.few_jobs;
  few_outputs = sound.few_outputs;
  each_group = sound.each_group;
  each_member = guarded (λ xs. length xs ≡ Q.config.members) (is_somebody m) Q.members (change_at (m.0 - 1) f Q.members) sound.each_member (length-change_at (m.0 - 1) f Q.members ∙ sound.each_member);
  few_routes = sound.few_routes;
  each_line = sound.each_line;
  last = sound.last;
  members = guarded (All IsSetting) (is_somebody m) Q.members (change_at (m.0 - 1) f Q.members) sound.members (All-change_at IsSetting (m.0 - 1) f Q.members new sound.members);
  jobs = sound.jobs;
  decks = sound.decks;
  outputs = sound.outputs;
  groups = sound.groups;
  owners = sound.owners;
  numbers = sound.numbers;
  keys = sound.keys;
  printers = sound.printers;
  places = sound.places;
  no_gaps = sound.no_gaps;
}

-- LINES

pub wires_sound : (Q : Queue) (l : ℕ) (f : LineCount → LineCount) → IsSound Q → IsSound (change_wire l f Q)
wires_sound Q l f sound = record {
  config = sound.config;
  few_jobs = sound.few_jobs;
  few_outputs = sound.few_outputs;
  each_group = sound.each_group;
  each_member = sound.each_member;
  few_routes = sound.few_routes;
  each_line = guarded (λ xs. length xs ≡ wires_most) (l == 0) (change_at (l - 1) f Q.lines) Q.lines (length-change_at (l - 1) f Q.lines ∙ sound.each_line) sound.each_line;
  last = sound.last;
  members = sound.members;
  jobs = sound.jobs;
  decks = sound.decks;
  outputs = sound.outputs;
  groups = sound.groups;
  owners = sound.owners;
  numbers = sound.numbers;
  keys = sound.keys;
  printers = sound.printers;
  places = sound.places;
  no_gaps = sound.no_gaps;
}
