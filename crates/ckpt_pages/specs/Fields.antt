-- The fields of the header, of the nodes and of the entries of members, lines and routes, and what their bytes say.
use Rattle.std.specs.Prelude.{ℕ, List, [], ◌∷◌, map, take, drop}
use Rattle.std.specs.List.{slice_index}
use Rattle.std.specs.Int.{w16, w32, w64, from_be_bytes}
use Rattle.mas_types.specs.declared.ids.Class.{Class}
use Rattle.mas_types.specs.declared.queues.Setting.{Setting}
use Rattle.mas_types.specs.declared.queues.Route.{Route}
use Rattle.mas_types.specs.declared.queues.LineCount.{LineCount}
use Rattle.mas_types.specs.Limits.{members_most, jobs_least, jobs_most, outputs_least, outputs_most, volumes_most, groups_most, hold_most, dormancy_most, number_most, routes_most, wires_most, printer_lines_most}
use Rattle.lay_bytes.specs.declared.fields.Field.{Field}
use Rattle.lay_bytes.specs.declared.fields.Field.TheVariants as field
use Rattle.lay_bytes.specs.Slots.{piece_at, byte_in, name_in}
use Rattle.ckpt_pages.specs.declared.header.Header.{Header}

-- MASCKPT1 as a number
abbrev pub mark_of_header : ℕ
mark_of_header = 5566822162898113585

-- a level and an order are below 2 ^ 63
abbrev pub age_most : ℕ
age_most = 9223372036854775807

-- the first 1,024 bytes of page 0
abbrev pub header_fields : List Field
header_fields =
    field.Long mark_of_header mark_of_header ∷ field.Long 1 age_most ∷ field.Byte 1 1 ∷ field.Byte 1 members_most
    ∷ field.Byte 1 volumes_most ∷ field.Zeros 1
    ∷ field.Half jobs_least jobs_most ∷ field.Half outputs_least outputs_most ∷ field.Half 1 groups_most
    ∷ field.Half 1 hold_most ∷ field.Half 0 dormancy_most
    ∷ field.Zeros 2 ∷ field.Word 0 number_most ∷ field.Zeros 4 ∷ field.Long 0 age_most ∷ field.Zeros 976 ∷ []

abbrev pub header_in : List (List ℕ) → Header
header_in ps = record {
  level = from_be_bytes w64 (piece_at ps 1);
  members = byte_in ps 3;
  volumes = byte_in ps 4;
  jobs = from_be_bytes w16 (piece_at ps 6);
  outputs = from_be_bytes w16 (piece_at ps 7);
  groups = from_be_bytes w16 (piece_at ps 8);
  hold = from_be_bytes w16 (piece_at ps 9);
  dormancy = from_be_bytes w16 (piece_at ps 10);
  last = record { 0 = from_be_bytes w32 (piece_at ps 12) };
  order = from_be_bytes w64 (piece_at ps 14);
}

-- the first 128 bytes of page 2: the own name and the number of routes
abbrev pub node_fields : List Field
node_fields = field.Name ∷ field.Byte 0 routes_most ∷ field.Zeros 119 ∷ []

-- the entry of a member
abbrev pub setting_fields : List Field
setting_fields = field.Byte 1 1 ∷ field.Classes ∷ field.Classes ∷ field.Name ∷ field.Half 1 printer_lines_most
    ∷ field.Zeros 43 ∷ []

-- the classes that a number and then the classes give
abbrev pub classes_in : List ℕ → List Class
classes_in bytes = map (λ b. record { 0 = b }) (take (slice_index bytes 0) (drop 1 bytes))

abbrev pub setting_in : List (List ℕ) → Setting
setting_in ps = record {
  init = classes_in (piece_at ps 1);
  prt = classes_in (piece_at ps 2);
  forms = name_in ps 3;
  lines = from_be_bytes w16 (piece_at ps 4);
}

-- the entry of a line
abbrev pub line_fields : List Field
line_fields = field.Word 0 4294967295 ∷ field.Word 0 4294967295 ∷ field.Word 0 number_most ∷ field.Zeros 4 ∷ []

abbrev pub line_in : List (List ℕ) → LineCount
line_in ps = record {
  sent = from_be_bytes w32 (piece_at ps 0);
  got = from_be_bytes w32 (piece_at ps 1);
  current = record { 0 = from_be_bytes w32 (piece_at ps 2) };
}

-- the entry of a route
abbrev pub route_fields : List Field
route_fields = field.Name ∷ field.Byte 1 wires_most ∷ field.Zeros 7 ∷ []

abbrev pub route_in : List (List ℕ) → Route
route_in ps = record { name = name_in ps 0; line = byte_in ps 1 }
