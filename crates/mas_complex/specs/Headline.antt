-- What holds at each moment since a shared value was made, in the words of journal, images and console.
use Rattle.mas_complex.specs.Names.{Ckpt1, Ckpt2, Spool, MemberId, Kept, Queue, Closing, kept_at, flying_at, IsSound, closing_line, View, Line, Throughout, LeavesOnly, disk_at, top, level, best, Volumes}
use Rattle.std.specs.Prelude.{◌≡◌, ◌⊎◌, ℕ, ◌+◌, ◌≤◌, ◌<◌, ◌||◌, true, false, List, [], ◌++◌, length, drop, Option, Some, None, All, Contains, IfSome}
use Rattle.mas_types.specs.declared.journals.Journal.{Journal}
use Rattle.mas_complex.specs.Meaning.{run, StandFor, is_telling}
use Rattle.mas_complex.specs.Journals.{batches_kept, has_step, journal_most}
use Rattle.mas_complex.specs.Texts.{lost_now, GivesTexts}
use Rattle.mas_complex.specs.Paper.{PaperKept}
use Rattle.mas_complex.specs.declared.renewals.Renewals.{Renewals}
use Rattle.mas_complex.specs.Renewals.{is_renewed_at}
pub use Rattle.mas_complex.specs.Crash.{whole}
use Rattle.mas_complex.specs.Crash.{IsLeft, SomeLeft, read_left, left_at, good_at, IsReadBy, ReadsAtLevel, ReadsUpTo}

-- pages are found, which stand for the queue
abbrev pub FoundFor : Queue → Option (List ℕ) → Type 0
FoundFor Q None = ⊥
FoundFor Q (Some pages) = StandFor Q pages

-- the pages that a start finds stand for the queue after the kept entries, with those in flight or without them
abbrev pub IsAfterKept : Queue → Journal → ℕ → Option (List ℕ) → Type 0
IsAfterKept base J t pages =
    FoundFor (run base (kept_at J t)) pages ⊎ FoundFor (run base (kept_at J t ++ flying_at J t)) pages

-- a copy is good at a moment
abbrev pub HasGood : Renewals → View → ℕ → Type 0
HasGood rs v t = (good_at rs v t Ckpt1 || good_at rs v t Ckpt2) ≡ true

-- at each moment at which a copy is good, for each choice of images of both
abbrev pub IsCrashSafe : (List ℕ → Option (List ℕ)) → Queue → Journal → Renewals → ℕ → View → Type 0
IsCrashSafe reads base J rs since v = (t : ℕ) → since ≤ t → t ≤ v.now → HasGood rs v t
    → (one two : Option (List ℕ)) → IsLeft (left_at v t Ckpt1) one → IsLeft (left_at v t Ckpt2) two
    → IsAfterKept base J t (best (read_left reads one) (read_left reads two))

-- What the two copies of a moment hold: there are pages that stand for the queue after the kept entries, and maybe ones
-- of the next level that stand for it with those in flight, and each image of each device reads as one of these. Where
-- no entry is in flight each image reads as the first. Those of a copy that is being replaced read as none, or as
-- pages that were kept by then.
pub record AreAlike (reads : List ℕ → Option (List ℕ)) (base : Queue) (J : Journal) (rs : Renewals) (t : ℕ)
    (v : View) : Type 0
  where
    pub was : List ℕ
    pub coming : Option (List ℕ)
    pub stands : StandFor (run base (kept_at J t)) was
    pub comes : IfSome coming (λ pages. (level pages ≡ level was + 1)
        × StandFor (run base (kept_at J t ++ flying_at J t)) pages)
    pub none : flying_at J t ≡ [] → coming ≡ None
    pub first : LeavesOnly (left_at v t Ckpt1)
        (λ image. IsReadBy (is_renewed_at rs.first t) was coming (reads image))
    pub second : LeavesOnly (left_at v t Ckpt2)
        (λ image. IsReadBy (is_renewed_at rs.second t) was coming (reads image))

-- what the two copies hold is alike at each moment
abbrev pub AreAlwaysAlike : (List ℕ → Option (List ℕ)) → Queue → Journal → Renewals → ℕ → View → Type 0
AreAlwaysAlike reads base J rs since v = (t : ℕ) → since ≤ t → t ≤ v.now
    → AreAlike reads base J rs t v

-- at a moment, for each choice of images of which one is left, the pages that a start finds stand for the queue itself
abbrev pub LeavesQueue : (List ℕ → Option (List ℕ)) → Queue → ℕ → View → Type 0
LeavesQueue reads Q t v = (one two : Option (List ℕ)) → IsLeft (left_at v t Ckpt1) one → IsLeft (left_at v t Ckpt2) two
    → SomeLeft one two
    → FoundFor Q (best (read_left reads one) (read_left reads two))

-- each batch with an entry of the step was kept by the moment
abbrev pub IsStepKept : Journal → ℕ → MemberId → ℕ → Type 0
IsStepKept J t by at = All (λ b. has_step by at b.entries ≡ true → (b.fate ≡ Kept) × (b.last ≤ t)) J.batches

-- what stands on the console after what stood there at first, at a moment
abbrev pub added : View → ℕ → ℕ → List Line
added v since t = drop (length (v.world since).console) (v.world t).console

-- at each moment, where a line that was added since tells a step, the step's entries are kept
abbrev pub AreToldKept : Journal → ℕ → View → Type 0
AreToldKept J since v = Throughout since v.now (λ t.
    (by : MemberId) (at : ℕ) (end : Closing) → is_telling end ≡ true
    → Contains (added v since t) (whole (closing_line by at end)) → IsStepKept J t by at)

-- At each moment, whatever a crash leaves of the spool volumes: each text of the queue after the kept entries is read
-- from it, and each of the queue with those in flight, unless one of its groups lies on a volume that is lost now.
abbrev pub AreTextsLeft : Queue → ℕ → Journal → View → Type 0
AreTextsLeft base since J v = (t : ℕ) → since ≤ t → t ≤ v.now → (volumes : Volumes)
    → ((n : ℕ) → IsLeft (left_at v t (Spool n)) (volumes n))
    → GivesTexts (lost_now v) volumes base.config.groups (run base (kept_at J t))
    × GivesTexts (lost_now v) volumes base.config.groups (run base (kept_at J t ++ flying_at J t))

-- At the first moment the images of the copies that read as pages read as ones of one level, with one next order. At
-- each moment they read as ones of at most that level, as many more as batches are kept, and one more for a batch in
-- flight; and each level more has raised the next order by at most so much as a batch may. Of a copy that is being
-- replaced it says nothing.
pub record AreLevelsLow (reads : List ℕ → Option (List ℕ)) (since : ℕ) (J : Journal) (rs : Renewals) (v : View) : Type 0
  where
    pub first_level : ℕ
    pub first_order : ℕ
    pub first1 : since < top → ReadsAtLevel reads first_level first_order (disk_at v since Ckpt1)
    pub first2 : since < top → ReadsAtLevel reads first_level first_order (disk_at v since Ckpt2)
    pub most1 : (t : ℕ) → since ≤ t → t ≤ v.now → is_renewed_at rs.first t ≡ false
        → ReadsUpTo reads first_level first_order (first_level + batches_kept J.batches + 1) (left_at v t Ckpt1)
    pub most2 : (t : ℕ) → since ≤ t → t ≤ v.now → is_renewed_at rs.second t ≡ false
        → ReadsUpTo reads first_level first_order (first_level + batches_kept J.batches + 1) (left_at v t Ckpt2)

-- the whole headline: what stands on paper is in it only where the base has the sound parts
pub record Headline (reads : List ℕ → Option (List ℕ)) (base : Queue) (since : ℕ) (J : Journal) (rs : Renewals)
    (v : View) : Type 0
  where
    pub crash : IsCrashSafe reads base J rs since v
    pub alike : AreAlwaysAlike reads base J rs since v
    pub texts : AreTextsLeft base since J v
    pub told : AreToldKept J since v
    pub levels : AreLevelsLow reads since J rs v
    pub few : length J.batches ≤ journal_most
    pub paper : IsSound base → ∥ PaperKept base since J.batches v ∥₁
