-- The text of groups in the order of their places.
use Rattle.std.specs.Prelude.{◌≡◌, ◌≤◌, ℕ, ◌-◌, ◌==◌, Bool, if◌then◌else◌, List, [], ◌∷◌, ◌++◌, length, Option, Some, None, slice_get, unwrap_or}
use Rattle.mas_types.specs.declared.ids.GroupNo.{GroupNo}
use Rattle.mas_types.specs.declared.jobs.Text.{Text}
use Rattle.mas_types.specs.declared.jobs.Text.TheVariants.{Whole, Gone}
use Rattle.mas_types.specs.Fit.{IsText}
use Rattle.mas_types.specs.Limits.{text_lines_most}
use Rattle.mas_types.specs.Queue.{line_count}
use Rattle.mas_types.specs.Records.{records_in}
use Rattle.spool_volumes.specs.Volumes.{Volumes, volume_of, page_of}

-- the records of a page, None where there is no page or it holds none
abbrev pub held : Option (List ℕ) → Option (List (List ℕ))
held None = None
held (Some page) = records_in page

-- what each group holds
abbrev pub Held : Type 0
Held = GroupNo → Option (List (List ℕ))

abbrev pub records_on : Volumes → ℕ → Held
records_on volumes per g = held (page_of volumes per g)

abbrev pub gone_or : GroupNo → Option (List (List ℕ)) → Option GroupNo → Option GroupNo
gone_or g None rest = Some g
gone_or g (Some lines) rest = rest

-- the first group that holds no records
abbrev pub first_gone : Held → List GroupNo → Option GroupNo
first_gone records [] = None
first_gone records (g ∷ gs) = gone_or g (records g) (first_gone records gs)

-- the records of the groups, one after another
abbrev pub all_records : Held → List GroupNo → List (List ℕ)
all_records records [] = []
all_records records (g ∷ gs) = unwrap_or (records g) [] ++ all_records records gs

abbrev pub last_of : List GroupNo → GroupNo
last_of groups = unwrap_or (slice_get groups (length groups - 1)) (record { 0 = 0 })

-- the lines, where there are as many as were counted. Else the last group counts as one that holds no records
abbrev pub whole_text : ℕ → List GroupNo → List (List ℕ) → Text
whole_text count groups lines = if length lines == count then Whole lines else Gone (last_of groups) count

abbrev pub text_unless : ℕ → List GroupNo → List (List ℕ) → Option GroupNo → Text
text_unless count groups lines (Some g) = Gone g count
text_unless count groups lines None = whole_text count groups lines

-- the text of groups, of which so many lines are counted: its lines, or gone with the first group that holds no records
abbrev pub text_of : Held → ℕ → List GroupNo → Text
text_of records count groups = text_unless count groups (all_records records groups) (first_gone records groups)

-- the first group on a volume that is lost
abbrev pub first_lost : (ℕ → Bool) → ℕ → List GroupNo → Option GroupNo
first_lost lost per [] = None
first_lost lost per (g ∷ gs) = if lost (volume_of per g) then Some g else first_lost lost per gs

-- a text, once these volumes are lost
abbrev pub text_left : (ℕ → Bool) → ℕ → List (List ℕ) → List GroupNo → Text
text_left lost per lines groups = text_unless (length lines) groups lines (first_lost lost per groups)

-- a text within the limits, where it has no more lines than a text may have
abbrev pub IsLimited : Text → Type 0
IsLimited text = line_count text ≤ text_lines_most → IsText text

-- the records of a group are added to lines
pub record Adds (records : Option (List (List ℕ))) (old new : List (List ℕ)) : Type 0 where
  pub lines : List (List ℕ)
  pub held : records ≡ Some lines
  pub is : new ≡ old ++ lines
