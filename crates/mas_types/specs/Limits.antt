-- The limits of the spool, each named once.
use Rattle.std.specs.Prelude.{ℕ}

-- the bytes of a page and of a track group
abbrev pub page_bytes : ℕ
page_bytes = 4096

-- the pages of a checkpoint
abbrev pub pages_least : ℕ
pages_least = 6

abbrev pub pages_most : ℕ
pages_most = 323

abbrev pub members_most : ℕ
members_most = 8

-- the greatest job number
abbrev pub number_most : ℕ
number_most = 99999

-- the jobs that a configuration has room for, a multiple of the step
abbrev pub jobs_least : ℕ
jobs_least = 16

abbrev pub jobs_most : ℕ
jobs_most = 2048

abbrev pub jobs_step : ℕ
jobs_step = 16

-- the outputs that a configuration has room for, a multiple of the step
abbrev pub outputs_least : ℕ
outputs_least = 32

abbrev pub outputs_most : ℕ
outputs_most = 4096

abbrev pub outputs_step : ℕ
outputs_step = 32

-- the spool volumes, and the track groups of each
abbrev pub volumes_most : ℕ
volumes_most = 8

abbrev pub groups_most : ℕ
groups_most = 4096

-- the commands of a hold, and the attempts of a dormancy
abbrev pub hold_most : ℕ
hold_most = 9999

abbrev pub dormancy_most : ℕ
dormancy_most = 9999

-- the nodes besides the own one
abbrev pub routes_most : ℕ
routes_most = 63

-- the lines to other nodes
abbrev pub wires_most : ℕ
wires_most = 8

abbrev pub name_bytes : ℕ
name_bytes = 8

abbrev pub prio_most : ℕ
prio_most = 15

-- the classes, A to Z and 0 to 9
abbrev pub classes_most : ℕ
classes_most = 36

-- the outputs of a job
abbrev pub index_most : ℕ
index_most = 32

-- the steps of a job
abbrev pub job_steps_most : ℕ
job_steps_most = 64

-- the lines of a text, and the cards of a deck
abbrev pub text_lines_most : ℕ
text_lines_most = 9999

abbrev pub card_bytes : ℕ
card_bytes = 80

-- the bytes of a line of a text
abbrev pub line_bytes : ℕ
line_bytes = 132

-- the lines that a printer prints at a time
abbrev pub printer_lines_most : ℕ
printer_lines_most = 9999

abbrev pub script_bytes : ℕ
script_bytes = 16777216

abbrev pub script_line_bytes : ℕ
script_line_bytes = 255

-- the steps of a script
abbrev pub steps_most : ℕ
steps_most = 99999
