-- What a CONFIG line says.
use Rattle.std.specs.Prelude.{ℕ, ◌%◌, ◌==◌, nat_le, Bool, true, not, ◌&&◌, if◌then◌else◌, List, [], ◌∷◌, length, codes, ◌++◌, Option, Some, None, option_map, option_and_then, unwrap_or, is_some}
use Rattle.std.specs.List.{list_any, slice_split}
use Rattle.std.specs.Str.{bytes_eq}
use Rattle.mas_types.specs.declared.ids.Name8.{Name8}
use Rattle.mas_types.specs.declared.queues.Config.{Config}
use Rattle.mas_types.specs.declared.queues.Route.{Route}
use Rattle.mas_types.specs.Ids.{same_name}
use Rattle.mas_types.specs.Limits.{members_most, jobs_least, jobs_most, jobs_step, outputs_least, outputs_most, outputs_step, volumes_most, groups_most, hold_most, dormancy_most, routes_most, wires_most}
use Rattle.mas_types.specs.Names.{is_name_text, padded}
use Rattle.mas_types.specs.Numerals.{is_numeral, value_of}
use Rattle.mas_types.specs.Starts.{default_config}
use Rattle.script_lang.specs.declared.config.Given.{Given}
use Rattle.script_lang.specs.declared.config.Setup.{Setup}
use Rattle.script_lang.specs.Lines.{word_at}

-- VALUES

-- a number from the least to the greatest, of 1 to 10 digits
abbrev pub number_in : ℕ → ℕ → List ℕ → Option ℕ
number_in least most text = if is_numeral text && nat_le (value_of text) most && nat_le least (value_of text) then Some
    (value_of text) else None

-- the number, if it is a multiple of the step
abbrev pub multiple_of : ℕ → Option ℕ → Option ℕ
multiple_of step None = None
multiple_of step (Some n) = if n % step == 0 then Some n else None

abbrev pub name_in : List ℕ → Option Name8
name_in text = if is_name_text text then Some (record { 0 = padded text }) else None

-- the parts of a text between commas
abbrev pub between_commas : List ℕ → List (List ℕ)
between_commas text = slice_split (λ b. b == 44) text

-- the parts of a text between plus signs
abbrev pub between_pluses : List ℕ → List (List ℕ)
between_pluses text = slice_split (λ b. b == 43) text

-- what stands before the first of such a byte, and behind it; none where it doesn't stand there just once
abbrev pub halves : List (List ℕ) → Option (List ℕ × List ℕ)
halves (front ∷ back ∷ []) = Some (front, back)
halves others = None

-- key=value
abbrev pub halves_at_equals : List ℕ → Option (List ℕ × List ℕ)
halves_at_equals text = halves (slice_split (λ b. b == 61) text)

-- NAME:line
abbrev pub halves_at_colon : List ℕ → Option (List ℕ × List ℕ)
halves_at_colon text = halves (slice_split (λ b. b == 58) text)

abbrev pub route_from : Option Name8 → Option ℕ → Option Route
route_from (Some name) (Some line) = Some (record { name = name; line = line })
route_from others line = None

abbrev pub route_of_halves : Option (List ℕ × List ℕ) → Option Route
route_of_halves None = None
route_of_halves (Some (name, line)) = route_from (name_in name) (number_in 1 wires_most line)

abbrev pub route_of : List ℕ → Option Route
route_of text = route_of_halves (halves_at_colon text)

-- the routes of texts, behind those before them; none where one is no route
abbrev pub routes_behind : List Route → List (List ℕ) → Option (List Route)
routes_behind before [] = Some before
routes_behind before (text ∷ texts) = option_and_then (λ r. routes_behind (before ++ r ∷ []) texts) (route_of text)

-- KEYS

-- a value that is given for the first time
abbrev pub once : {A : Type 0} → Option A → Option A → Option A
once (Some before) value = None
once None value = value

abbrev pub with_other : Given → List ℕ → List ℕ → Option Given
with_other g key value =
    if bytes_eq key (codes "HOLD") then option_map (λ n. record g { hold = Some n }) (once g.hold (number_in 1 hold_most value))
    else if bytes_eq key (codes "DORMANCY") then option_map (λ n. record g { dormancy = Some n }) (once g.dormancy (number_in 0 dormancy_most value))
    else if bytes_eq key (codes "NODE") then option_map (λ n. record g { node = Some n }) (once g.node (name_in value))
    else None

-- One key with its value; none where the key is none or was given before, or its value isn't within the limits. MEMBERS
-- to GROUPS say how many there are of something.
abbrev pub with_size : Given → List ℕ → List ℕ → Option Given
with_size g key value =
    if bytes_eq key (codes "MEMBERS") then option_map (λ n. record g { members = Some n }) (once g.members (number_in 1 members_most value))
    else if bytes_eq key (codes "JOBS") then option_map (λ n. record g { jobs = Some n }) (once g.jobs (multiple_of jobs_step (number_in jobs_least jobs_most value)))
    else if bytes_eq key (codes "OUTPUTS") then option_map (λ n. record g { outputs = Some n }) (once g.outputs (multiple_of outputs_step (number_in outputs_least outputs_most value)))
    else if bytes_eq key (codes "VOLUMES") then option_map (λ n. record g { volumes = Some n }) (once g.volumes (number_in 1 volumes_most value))
    else if bytes_eq key (codes "GROUPS") then option_map (λ n. record g { groups = Some n }) (once g.groups (number_in 1 groups_most value))
    else with_other g key value

abbrev pub with_routes : Given → List ℕ → Option Given
with_routes g value = if is_some g.routes then None else option_map (λ rs. record g { routes = Some rs })
    (routes_behind [] (between_pluses value))

abbrev pub with_key : Given → List ℕ → List ℕ → Option Given
with_key g key value = if bytes_eq key (codes "ROUTES") then with_routes g value else with_size g key value

abbrev pub with_halves : Given → Option (List ℕ × List ℕ) → Option Given
with_halves g None = None
with_halves g (Some (key, value)) = with_key g key value

-- what operands give, behind others
abbrev pub with_operands : Given → List (List ℕ) → Option Given
with_operands g [] = Some g
with_operands g (operand ∷ operands) = option_and_then (λ h. with_operands h operands)
    (with_halves g (halves_at_equals operand))

-- THE WHOLE LINE

abbrev pub nothing_given : Given
nothing_given = record {
  members = None;
  jobs = None;
  outputs = None;
  volumes = None;
  groups = None;
  hold = None;
  dormancy = None;
  node = None;
  routes = None;
}

-- what is not given has its default
abbrev pub config_of : Given → Config
config_of g = record {
  members = unwrap_or g.members default_config.members;
  jobs = unwrap_or g.jobs default_config.jobs;
  outputs = unwrap_or g.outputs default_config.outputs;
  volumes = unwrap_or g.volumes default_config.volumes;
  groups = unwrap_or g.groups default_config.groups;
  hold = unwrap_or g.hold default_config.hold;
  dormancy = unwrap_or g.dormancy default_config.dormancy;
  node = unwrap_or g.node default_config.node;
}

abbrev pub setup_of : Given → Setup
setup_of g = record { config = config_of g; routes = unwrap_or g.routes [] }

-- no two routes have one name, and none has the own node's
abbrev pub are_apart : Name8 → List Route → Bool
are_apart own [] = true
are_apart own (r ∷ rs) = not (same_name r.name own) && not (list_any (λ s. same_name r.name s.name) rs) && are_apart own
    rs

-- a setup has at most 63 routes, with different names
abbrev pub is_sound : Setup → Bool
is_sound setup = nat_le (length setup.routes) routes_most && are_apart setup.config.node setup.routes

abbrev pub if_sound : Option Setup → Option Setup
if_sound None = None
if_sound (Some setup) = if is_sound setup then Some setup else None

-- what operands between commas say
abbrev pub setup_in : List ℕ → Option Setup
setup_in operands = if_sound (option_map setup_of (with_operands nothing_given (between_commas operands)))

-- what a line of these words says, the first of which is CONFIG; none where it says no configuration
abbrev pub configured : List (List ℕ) → Option Setup
configured words =
    if length words == 1 then Some (setup_of nothing_given)
    else if length words == 2 then setup_in (word_at words 1)
    else None
