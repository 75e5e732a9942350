-- What a CONFIG line says is within the limits.
use Rattle.std.proofs.Common.{◌≡◌, subst, ℕ, ◌%◌, ◌==◌, ◌≤◌, nat_le, true, List, [], ◌∷◌, ◌++◌, length, codes, Option, Some, None, option_map, unwrap_or, lit≤, refl}
use Rattle.std.specs.Prelude.{All, IfSome, is_some}
use Rattle.std.specs.Str.{bytes_eq}
use Rattle.std.proofs.lemmas.Bool.{eqb-true, leb-true, and_parts}
use Rattle.std.proofs.lemmas.Option.{cond_some, option_and_then_some}
use Rattle.std.proofs.lemmas.List.Elements.{All-nil, All-push}
use Rattle.mas_types.specs.declared.ids.Name8.{Name8}
use Rattle.mas_types.specs.declared.queues.Route.{Route}
use Rattle.mas_types.specs.Fit.{IsConfig, IsName}
use Rattle.mas_types.specs.Limits.{members_most, jobs_least, jobs_most, jobs_step, outputs_least, outputs_most, outputs_step, volumes_most, groups_most, hold_most, dormancy_most, routes_most, wires_most}
use Rattle.mas_types.specs.Names.{is_name_text, padded}
use Rattle.mas_types.specs.Starts.{default_config}
use Rattle.script_lang.specs.declared.config.Given.{Given}
use Rattle.script_lang.specs.declared.config.Setup.{Setup}
use Rattle.script_lang.specs.Config.{number_in, multiple_of, name_in, between_commas, between_pluses, halves_at_equals, halves_at_colon, route_from, route_of_halves, route_of, routes_behind, once, with_size, with_other, with_key, with_halves, with_operands, nothing_given, config_of, setup_of, are_apart, is_sound, if_sound, configured}
use Rattle.script_laws.specs.Limits.{IsBetween, IsRoute}
use Rattle.script_lang.specs.Lines.{word_at}
use Rattle.script_laws.proofs.AskFits.{number-within}
use Rattle.script_laws.proofs.ByCases.{if_some, not_some, one_some}

-- VALUES

-- a number from the least to the greatest that is a multiple of the step
abbrev pub IsMultiple : ℕ → ℕ → ℕ → ℕ → Type 0
IsMultiple least most step n = (least ≤ n) × (n ≤ most) × (n % step ≡ 0)

multiple_of_some : (least most step : ℕ) (o : Option ℕ) (n : ℕ) → ((k : ℕ) → o ≡ Some k → IsBetween least most k) → multiple_of step o ≡ Some n → IsMultiple least most step n
multiple_of_some least most step None n h e = not_some n (IsMultiple least most step n) e
multiple_of_some least most step (Some k) n h e =
    let found = cond_some (k % step == 0) k n e in
    let whole : k % step ≡ 0 = eqb-true _ _ found.0 in
    let within = h k refl in
    subst (IsMultiple least most step) found.1 (within.0, within.1, whole)

multiple-within : (least most step : ℕ) (text : List ℕ) (n : ℕ) → multiple_of step (number_in least most text) ≡ Some n → IsMultiple least most step n
multiple-within least most step text n e = multiple_of_some least most step (number_in least most text) n (number-within least most text) e

name-within : (text : List ℕ) (name : Name8) → name_in text ≡ Some name → IsName name
name-within text name e =
    let found = cond_some (is_name_text text) (record { 0 = padded text }) name e in
    subst IsName found.1 (text, found.0, refl)

route_from_some : (name : Option Name8) (line : Option ℕ) (r : Route) → ((n : Name8) → name ≡ Some n → IsName n) → ((l : ℕ) → line ≡ Some l → IsBetween 1 wires_most l) → route_from name line ≡ Some r → IsRoute r
route_from_some None line r named lined e = not_some r (IsRoute r) e
route_from_some (Some n) None r named lined e = not_some r (IsRoute r) e
route_from_some (Some n) (Some l) r named lined e = one_some (record { name = n; line = l }) r IsRoute (record { name = named n refl; line = lined l refl }) e

route_of_some : (h : Option (List ℕ × List ℕ)) (r : Route) → route_of_halves h ≡ Some r → IsRoute r
route_of_some None r e = not_some r (IsRoute r) e
route_of_some (Some (name, line)) r e = route_from_some (name_in name) (number_in 1 wires_most line) r (name-within name) (number-within 1 wires_most line) e

routes-within : (before : List Route) (texts : List (List ℕ)) (rs : List Route) → All IsRoute before → routes_behind before texts ≡ Some rs → All IsRoute rs
routes-within before [] rs all e = one_some before rs (All IsRoute) all e
routes-within before (text ∷ texts) rs all e =
    option_and_then_some (λ r. routes_behind (before ++ r ∷ []) texts) (route_of text) rs e
    (λ r is more. routes-within (before ++ r ∷ []) texts rs (All-push IsRoute before r all (route_of_some (halves_at_colon text) r is)) more)

-- KEYS

-- what was given so far is within the limits: MEMBERS, JOBS, OUTPUTS, VOLUMES, GROUPS, HOLD, DORMANCY, NODE and ROUTES
abbrev pub IsGiven : Given → Type 0
IsGiven g =
    IfSome g.members (IsBetween 1 members_most)
    × IfSome g.jobs (IsMultiple jobs_least jobs_most jobs_step)
    × IfSome g.outputs (IsMultiple outputs_least outputs_most outputs_step)
    × IfSome g.volumes (IsBetween 1 volumes_most)
    × IfSome g.groups (IsBetween 1 groups_most)
    × IfSome g.hold (IsBetween 1 hold_most)
    × IfSome g.dormancy (IsBetween 0 dormancy_most)
    × IfSome g.node IsName
    × IfSome g.routes (All IsRoute)

given_more : {A : Type 0} (f : A → Given) (before value : Option A) (h : Given) → ((x : A) → value ≡ Some x → IsGiven (f x)) → option_map f (once before value) ≡ Some h → IsGiven h
given_more f (Some x) value h more e = not_some h (IsGiven h) e
given_more f None None h more e = not_some h (IsGiven h) e
given_more f None (Some x) h more e = one_some (f x) h IsGiven (more x refl) e

other-given : (g : Given) (key value : List ℕ) (h : Given) → IsGiven g → with_other g key value ≡ Some h → IsGiven h
other-given g key value h is e =
    if_some (bytes_eq key (codes "HOLD")) _ _ h (IsGiven h)
    (λ k e. given_more (λ n. record g { hold = Some n }) g.hold (number_in 1 hold_most value) h (λ n v. (is.0, is.1, is.2, is.3, is.4, number-within 1 hold_most value n v, is.6, is.7, is.8)) e)
    (λ k e. if_some (bytes_eq key (codes "DORMANCY")) _ _ h (IsGiven h)
    (λ k e. given_more (λ n. record g { dormancy = Some n }) g.dormancy (number_in 0 dormancy_most value) h (λ n v. (is.0, is.1, is.2, is.3, is.4, is.5, number-within 0 dormancy_most value n v, is.7, is.8)) e)
    (λ k e. if_some (bytes_eq key (codes "NODE")) _ _ h (IsGiven h)
    (λ k e. given_more (λ n. record g { node = Some n }) g.node (name_in value) h (λ n v. (is.0, is.1, is.2, is.3, is.4, is.5, is.6, name-within value n v, is.8)) e)
    (λ k e. not_some h (IsGiven h) e) e) e) e

size-given : (g : Given) (key value : List ℕ) (h : Given) → IsGiven g → with_size g key value ≡ Some h → IsGiven h
size-given g key value h is e =
    if_some (bytes_eq key (codes "MEMBERS")) _ _ h (IsGiven h)
    (λ k e. given_more (λ n. record g { members = Some n }) g.members (number_in 1 members_most value) h (λ n v. (number-within 1 members_most value n v, is.1, is.2, is.3, is.4, is.5, is.6, is.7, is.8)) e)
    (λ k e. if_some (bytes_eq key (codes "JOBS")) _ _ h (IsGiven h)
    (λ k e. given_more (λ n. record g { jobs = Some n }) g.jobs (multiple_of jobs_step (number_in jobs_least jobs_most value)) h (λ n v. (is.0, multiple-within jobs_least jobs_most jobs_step value n v, is.2, is.3, is.4, is.5, is.6, is.7, is.8)) e)
    (λ k e. if_some (bytes_eq key (codes "OUTPUTS")) _ _ h (IsGiven h)
    (λ k e. given_more (λ n. record g { outputs = Some n }) g.outputs (multiple_of outputs_step (number_in outputs_least outputs_most value)) h (λ n v. (is.0, is.1, multiple-within outputs_least outputs_most outputs_step value n v, is.3, is.4, is.5, is.6, is.7, is.8)) e)
    (λ k e. if_some (bytes_eq key (codes "VOLUMES")) _ _ h (IsGiven h)
    (λ k e. given_more (λ n. record g { volumes = Some n }) g.volumes (number_in 1 volumes_most value) h (λ n v. (is.0, is.1, is.2, number-within 1 volumes_most value n v, is.4, is.5, is.6, is.7, is.8)) e)
    (λ k e. if_some (bytes_eq key (codes "GROUPS")) _ _ h (IsGiven h)
    (λ k e. given_more (λ n. record g { groups = Some n }) g.groups (number_in 1 groups_most value) h (λ n v. (is.0, is.1, is.2, is.3, number-within 1 groups_most value n v, is.5, is.6, is.7, is.8)) e)
    (λ k e. other-given g key value h is e) e) e) e) e) e

routes_given : (g : Given) (o : Option (List Route)) (h : Given) → IsGiven g → ((rs : List Route) → o ≡ Some rs → All IsRoute rs) → option_map (λ rs. record g { routes = Some rs }) o ≡ Some h → IsGiven h
routes_given g None h is all e = not_some h (IsGiven h) e
routes_given g (Some rs) h is all e = one_some (record g { routes = Some rs }) h IsGiven (is.0, is.1, is.2, is.3, is.4, is.5, is.6, is.7, all rs refl) e

key-given : (g : Given) (key value : List ℕ) (h : Given) → IsGiven g → with_key g key value ≡ Some h → IsGiven h
key-given g key value h is e =
    if_some (bytes_eq key (codes "ROUTES")) _ _ h (IsGiven h)
    (λ k e. if_some (is_some g.routes) _ _ h (IsGiven h)
    (λ k e. not_some h (IsGiven h) e)
    (λ k e. routes_given g (routes_behind [] (between_pluses value)) h is (λ rs v. routes-within [] (between_pluses value) rs (All-nil IsRoute) v) e) e)
    (λ k e. size-given g key value h is e) e

halves-given : (g : Given) (o : Option (List ℕ × List ℕ)) (h : Given) → IsGiven g → with_halves g o ≡ Some h → IsGiven h
halves-given g None h is e = not_some h (IsGiven h) e
halves-given g (Some (key, value)) h is e = key-given g key value h is e

operands-given : (g : Given) (operands : List (List ℕ)) (h : Given) → IsGiven g → with_operands g operands ≡ Some h → IsGiven h
operands-given g [] h is e = one_some g h IsGiven is e
operands-given g (operand ∷ operands) h is e =
    option_and_then_some (λ f. with_operands f operands) (with_halves g (halves_at_equals operand)) h e
    (λ f v more. operands-given f operands h (halves-given g (halves_at_equals operand) f is v) more)

-- THE WHOLE LINE

or_else : {A : Type 0} (P : A → Type 0) (o : Option A) (d : A) → IfSome o P → P d → P (unwrap_or o d)
or_else P None d some h = h
or_else P (Some x) d some h = some

pub default-within : IsConfig default_config
default-within = record {
  members = (lit≤ tt, lit≤ tt);
  jobs = (lit≤ tt, lit≤ tt, refl);
  outputs = (lit≤ tt, lit≤ tt, refl);
  volumes = (lit≤ tt, lit≤ tt);
  groups = (lit≤ tt, lit≤ tt);
  hold = (lit≤ tt, lit≤ tt);
  dormancy = lit≤ tt;
  node = (codes "HERE", refl, refl);
}

config-within : (g : Given) → IsGiven g → IsConfig (config_of g)
config-within g is = record {
  members = or_else (IsBetween 1 members_most) g.members default_config.members is.0 default-within.members;
  jobs = or_else (IsMultiple jobs_least jobs_most jobs_step) g.jobs default_config.jobs is.1 default-within.jobs;
  outputs = or_else (IsMultiple outputs_least outputs_most outputs_step) g.outputs default_config.outputs is.2 default-within.outputs;
  volumes = or_else (IsBetween 1 volumes_most) g.volumes default_config.volumes is.3 default-within.volumes;
  groups = or_else (IsBetween 1 groups_most) g.groups default_config.groups is.4 default-within.groups;
  hold = or_else (IsBetween 1 hold_most) g.hold default_config.hold is.5 default-within.hold;
  dormancy = (or_else (IsBetween 0 dormancy_most) g.dormancy default_config.dormancy is.6 (lit≤ tt, lit≤ tt)).1;
  node = or_else IsName g.node default_config.node is.7 default-within.node;
}

-- a configuration and its routes are within the limits
pub record IsSetup (setup : Setup) : Type 0 where
  pub config : IsConfig setup.config
  pub few : length setup.routes ≤ routes_most
  pub routes : All IsRoute setup.routes
  pub apart : are_apart setup.config.node setup.routes ≡ true

nothing-given : IsGiven nothing_given
nothing-given = (tt, tt, tt, tt, tt, tt, tt, tt, tt)

none_given : IsSetup (setup_of nothing_given)
none_given = record { config = config-within nothing_given nothing-given; few = lit≤ tt; routes = All-nil IsRoute; apart = refl }

sound-setup : (g : Given) (setup : Setup) → IsGiven g → if_sound (Some (setup_of g)) ≡ Some setup → IsSetup setup
sound-setup g setup is e =
    let found = cond_some (is_sound (setup_of g)) (setup_of g) setup e in
    let both = and_parts (nat_le (length (setup_of g).routes) routes_most) (are_apart (setup_of g).config.node (setup_of g).routes) found.0 in
    subst IsSetup found.1 (record {
      config = config-within g is;
      few = leb-true _ _ both.0;
      routes = or_else (All IsRoute) g.routes [] is.8 (All-nil IsRoute);
      apart = both.1;
    })

given-setup : (o : Option Given) (setup : Setup) → ((g : Given) → o ≡ Some g → IsGiven g) → if_sound (option_map setup_of o) ≡ Some setup → IsSetup setup
given-setup None setup h e = not_some setup (IsSetup setup) e
given-setup (Some g) setup h e = sound-setup g setup (h g refl) e

pub setup-within : (words : List (List ℕ)) (setup : Setup) → configured words ≡ Some setup → IsSetup setup
setup-within words setup e =
    if_some (length words == 1) _ _ setup (IsSetup setup)
    (λ is e. one_some (setup_of nothing_given) setup IsSetup none_given e)
    (λ is e. if_some (length words == 2) _ _ setup (IsSetup setup)
    (λ is e. given-setup (with_operands nothing_given (between_commas (word_at words 1))) setup (λ g v. operands-given nothing_given (between_commas (word_at words 1)) g nothing-given v) e)
    (λ is e. not_some setup (IsSetup setup) e) e) e
