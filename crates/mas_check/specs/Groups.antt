-- The groups of texts, and which of them hold no records of their text.
use Rattle.std.specs.Prelude.{ℕ, ◌+◌, ◌==◌, nat_lt, Bool, true, false, not, ◌&&◌, ◌||◌, if◌then◌else◌, List, [], ◌∷◌, Option, Some, None, is_some, unwrap_or}
use Rattle.std.specs.List.{list_any}
use Rattle.mas_types.specs.declared.ids.JobNo.{JobNo}
use Rattle.mas_types.specs.declared.ids.OutNo.{OutNo}
use Rattle.mas_types.specs.declared.queues.Owner.{Owner}
use Rattle.mas_types.specs.declared.queues.Owner.TheVariants as owner
use Rattle.mas_types.specs.Ids.{same_number, same_index}
use Rattle.lay_bytes.specs.declared.records.JobRec.{JobRec}
use Rattle.lay_bytes.specs.declared.records.OutRec.{OutRec}
use Rattle.ckpt_tables.specs.declared.tables.Tables.{Tables}
use Rattle.ckpt_pages.specs.Sound.{first_wrong}
use Rattle.mas_check.specs.declared.groups.Group.{Group}

-- the group is of a deck or of an output
abbrev pub has_text : Owner → Bool
has_text (owner.Deck job place) = true
has_text (owner.Output job index place) = true
has_text _ = false

-- the two groups are of one text
abbrev pub same_text : Owner → Owner → Bool
same_text (owner.Deck n p) (owner.Deck m q) = same_number n m
same_text (owner.Output n i p) (owner.Output m j q) = same_number n m && same_index i j
same_text _ _ = false

-- the two groups are of one text, and the second stands after the first
abbrev pub is_behind : Owner → Owner → Bool
is_behind (owner.Deck n p) (owner.Deck m q) = same_number n m && nat_lt p q
is_behind (owner.Output n i p) (owner.Output m j q) = same_number n m && same_index i j && nat_lt p q
is_behind _ _ = false

-- the group is the last of its text: no group of the text stands after it
abbrev pub is_last : List Group → Owner → Bool
is_last groups o = not (list_any (λ g. is_behind o g.owner) groups)

-- the records that all groups of its text hold; one that holds none adds none
abbrev pub records_of : Owner → List Group → ℕ
records_of o [] = 0
records_of o (g ∷ groups) = (if same_text o g.owner then unwrap_or g.records 0 else 0) + records_of o groups

-- the cards that the slot of a job counts, 0 where there is none
abbrev pub cards_in : JobNo → List (Option JobRec) → ℕ
cards_in n [] = 0
cards_in n (None ∷ slots) = cards_in n slots
cards_in n (Some j ∷ slots) = if same_number j.number n then j.cards else cards_in n slots

-- the lines that the slot of an output counts
abbrev pub prints_in : JobNo → OutNo → List (Option OutRec) → ℕ
prints_in n i [] = 0
prints_in n i (None ∷ slots) = prints_in n i slots
prints_in n i (Some o ∷ slots) =
    if same_number o.job n && same_index o.index i then o.lines else prints_in n i slots

-- the lines that the slot of a group's text counts
abbrev pub lines_of : Tables → Owner → ℕ
lines_of t (owner.Deck n place) = cards_in n t.jobs
lines_of t (owner.Output n i place) = prints_in n i t.outputs
lines_of t _ = 0

-- A group of a text that holds no records of it: its page holds none, or it is the last group of its text,
-- and the records of the text are not as many as its slot counts.
abbrev pub is_wrong_group : Tables → List Group → Group → Bool
is_wrong_group t groups g =
    has_text g.owner
    && (not (is_some g.records) || (is_last groups g.owner && not (records_of g.owner groups == lines_of t g.owner)))

-- the first group that is wrong
abbrev pub wrong_group : Tables → List Group → Option ℕ
wrong_group t groups = first_wrong (λ before g. is_wrong_group t groups g) [] 0 groups
