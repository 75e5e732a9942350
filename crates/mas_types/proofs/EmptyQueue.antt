-- The default values are within the limits, and the empty queue of a configuration has the sound parts.
use Rattle.std.proofs.Common.{◌≡◌, ℕ, zero, suc, ◌*◌, ◌≤◌, Bool, true, false, not, List, [], ◌∷◌, length, replicate, refl, arith}
use Rattle.std.specs.List.{All, list_all, list_any}
use Rattle.std.specs.Prelude.{◌&&◌, codes}
use Rattle.std.proofs.lemmas.Bool.{and_parts, not-true as not_true}
use Rattle.std.proofs.lemmas.List.{length-replicate}
use Rattle.std.proofs.lemmas.List.Elements.{All-cons, All-nil, All-replicate}
use Rattle.mas_types.specs.declared.ids.Class.{Class}
use Rattle.mas_types.specs.declared.queues.Config.{Config}
use Rattle.mas_types.specs.declared.queues.Owner.{Owner}
use Rattle.mas_types.specs.declared.queues.Owner.TheVariants as owner
use Rattle.mas_types.specs.declared.queues.Route.{Route}
use Rattle.mas_types.specs.Fit.{AreClasses, AreDistinct, IsConfig, IsSetting, is_class_byte}
use Rattle.mas_types.specs.Ids.{same_class}
use Rattle.mas_types.specs.Limits.{routes_most}
use Rattle.mas_types.specs.Sound.{IsSound, is_owner_there, is_place_before_there, same_place}
use Rattle.mas_types.specs.Starts.{all_classes, default_config, default_setting, empty_queue}

-- DISTINCT ITEMS, as a test

abbrev are_distinct : {A : Type 0} → (A → A → Bool) → List A → Bool
are_distinct same [] = true
are_distinct same (x ∷ xs) = not (list_any (same x) xs) && are_distinct same xs

distinct_from : {A : Type 0} (same : A → A → Bool) (xs : List A) → are_distinct same xs ≡ true → AreDistinct same xs
distinct_from same [] h = tt
distinct_from same (x ∷ xs) h =
    let parts = and_parts (not (list_any (same x) xs)) (are_distinct same xs) h in
    (not_true (list_any (same x) xs) parts.0, distinct_from same xs parts.1)

all_from : {A : Type 0} (p : A → Bool) (xs : List A) → list_all p xs ≡ true → All (λ x. p x ≡ true) xs
all_from p [] h = All-nil (λ x. p x ≡ true)
all_from p (x ∷ xs) h =
    let parts = and_parts (p x) (list_all p xs) h in All-cons (λ y. p y ≡ true) x xs parts.0 (all_from p xs parts.1)

-- THE DEFAULT VALUES

classes_fit : AreClasses all_classes
classes_fit = record {
  some = omega arith;
  few = omega arith;
  each = all_from (λ (c : Class). is_class_byte c.0) all_classes refl;
  distinct = distinct_from same_class all_classes refl;
}

pub default_setting-fits : IsSetting default_setting
default_setting-fits = record {
  init = classes_fit;
  prt = classes_fit;
  forms = (codes "STD", refl, refl);
  lines = (omega arith, omega arith);
}

pub default_config-fits : IsConfig default_config
default_config-fits = record {
  members = (omega arith, omega arith);
  jobs = (omega arith, omega arith, refl);
  outputs = (omega arith, omega arith, refl);
  volumes = (omega arith, omega arith);
  groups = (omega arith, omega arith);
  hold = (omega arith, omega arith);
  dormancy = omega arith;
  node = (codes "HERE", refl, refl);
}

-- GROUPS THAT ARE FREE

none_same : (n : ℕ) → list_any (same_place owner.Free) (replicate n owner.Free) ≡ false
none_same zero = refl
none_same (suc n) = none_same n

distinct_free : (n : ℕ) → AreDistinct same_place (replicate n owner.Free)
distinct_free zero = tt
distinct_free (suc n) = (none_same n, distinct_free n)

-- THE QUEUE

pub empty_queue-sound : (config : Config) (routes : List Route) → IsConfig config → length routes ≤ routes_most → IsSound (empty_queue config routes)
empty_queue-sound config routes fits few =
    let groups = config.volumes * config.groups in
    let owners : List Owner = replicate (config.volumes * config.groups) owner.Free in
    record {
      config = fits;
      few_jobs = omega arith;
      few_outputs = omega arith;
      each_group = length-replicate groups owner.Free;
      each_member = length-replicate config.members default_setting;
      few_routes = few;
      each_line = refl;
      last = omega arith;
      members = All-replicate IsSetting config.members default_setting default_setting-fits;
      jobs = All-nil _;
      decks = All-nil _;
      outputs = All-nil _;
      groups = All-nil _;
      owners = All-replicate (λ (g : Owner). is_owner_there config [] [] g ≡ true) groups owner.Free refl;
      numbers = tt;
      keys = tt;
      printers = tt;
      places = distinct_free groups;
      no_gaps = All-replicate (λ (g : Owner). is_place_before_there owners g ≡ true) groups owner.Free refl;
    }
