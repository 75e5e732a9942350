-- Lemmas on reading groups.
use Rattle.std.proofs.Common.{◌≡◌, ◌||◌, ◌&&◌, ◌==◌, ℕ, ◌+◌, ◌≤◌, nat_le, Bool, true, false, if◌then◌else◌, List, [], ◌∷◌, ◌++◌, length, All, arith, Option, Some, None, Result, Ok, option_map, unwrap_or, refl, sym, ap, subst, ◌∙◌, append_assoc}
use Rattle.std.specs.List.{list_any}
use Rattle.std.proofs.lemmas.Bool.Decides.{nat_tests}
use Rattle.std.proofs.lemmas.List.{append-nil}
use Rattle.std.proofs.lemmas.List.Elements.{All-append, All-weaker}
use Rattle.mas_types.specs.declared.ids.GroupNo.{GroupNo}
use Rattle.mas_types.specs.declared.jobs.Text.{Text}
use Rattle.mas_types.specs.declared.jobs.Text.TheVariants.{Whole, Gone}
use Rattle.mas_types.specs.declared.ids.Dev.TheVariants.{Spool}
use Rattle.mas_types.specs.Fit.{AreLines, is_text_line}
use Rattle.mas_types.specs.Limits.{line_bytes, page_bytes}
use Rattle.mas_types.specs.Records.{HoldsNoRecords, is_record, records_in}
use Rattle.spool_plant.specs.Acts.{Goes}
use Rattle.spool_plant.specs.View.{View, disk_now, slice}
use Rattle.spool_plant.specs.declared.plant.Part.TheVariants.{Disk as DiskPart}
use Rattle.spool_text.specs.Laws.{ReadsWhatIsHeld}
use Rattle.spool_volumes.specs.Volumes.{bytes_unless, volume_of, start_of, page_of, volumes_now, IsPlaced, IsSteady}
use Rattle.spool_volumes.specs.Looks.{volumes_shown, lie_on_lost, LooksAt}
use Rattle.spool_volumes.specs.Texts.{Held, held, records_on, gone_or, first_gone, all_records, last_of, whole_text, text_unless, text_of, Adds, IsLimited}
use Rattle.spool_volumes.proofs.LookLemmas.{looks_then, same_bytes}

-- nothing is read from a volume that is lost
pub page_gone : (lost : Bool) (at : ℕ) (bytes : List ℕ) → lost ≡ true → option_map (slice at page_bytes) (bytes_unless lost bytes) ≡ None
page_gone true at bytes is = refl
page_gone false at bytes is = absurd (cc)

-- what was read from a volume that isn't lost
pub page_there : (lost : Bool) (at : ℕ) (bytes into : List ℕ) → (lost ≡ true → ⊥) → into ≡ slice at page_bytes bytes → option_map (slice at page_bytes) (bytes_unless lost bytes) ≡ Some into
page_there true at bytes into there is = absurd (there refl)
page_there false at bytes into there is = ap Some (sym is)

-- an answer that is there is the other where both are given alike
pub ok_is : {E : Type 0} (a b : Bool) → (let one : Result Bool E = Ok a in one ≡ Ok b) → a ≡ b
ok_is a b is = cc

pub no_records : ReadsWhatIsHeld → (page : List ℕ) → HoldsNoRecords page → records_in page ≡ None
no_records law page none = by_records (records_in page) refl where
  by_records : (r : Option (List (List ℕ))) → records_in page ≡ r → records_in page ≡ None
  by_records None is = is
  by_records (Some lines) is = absurd (none lines ((law page lines).0 is))

-- what is read from a volume later, was there before
earlier : (f : List ℕ → List ℕ) (before later : Bool) (old new : List ℕ) (lines : List (List ℕ)) → (before ≡ true → later ≡ true) → new ≡ old → held (option_map f (bytes_unless later new)) ≡ Some lines → held (option_map f (bytes_unless before old)) ≡ Some lines
earlier f before true old new lines stays same is = absurd (cc)
earlier f true false old new lines stays same is = absurd (let l : false ≡ true = stays refl in (cc))
earlier f false false old new lines stays same is = rw (← same) is

in_between : (a b c : Bool) → (a ≡ true → b ≡ true) → (b ≡ true → c ≡ true) → c ≡ a → c ≡ b
in_between a true c first then_too same = then_too refl
in_between true false c first then_too same = absurd (let l : false ≡ true = first refl in (cc))
in_between false false c first then_too same = same

same_unless : (f : List ℕ → List ℕ) (before later : Bool) (old new : List ℕ) → later ≡ before → new ≡ old → held (option_map f (bytes_unless before old)) ≡ held (option_map f (bytes_unless later new))
same_unless f before later old new lost same = rw (lost, same) refl

all_more : (records : Held) (gs more : List GroupNo) → all_records records (gs ++ more) ≡ all_records records gs ++ all_records records more
all_more records [] more = refl
all_more records (g ∷ gs) more =
    ap (λ lines. unwrap_or (records g) [] ++ lines) (all_more records gs more) ∙ sym (append_assoc (unwrap_or (records g) []) (all_records records gs) (all_records records more))

rest_first : (g : GroupNo) (one : Option (List (List ℕ))) (rest all more : Option GroupNo) → gone_or g one rest ≡ None → (rest ≡ None → all ≡ more) → gone_or g one all ≡ more
rest_first g None rest all more is step = absurd (cc)
rest_first g (Some lines) rest all more is step = step is

gone_more : (records : Held) (gs more : List GroupNo) → first_gone records gs ≡ None → first_gone records (gs ++ more) ≡ first_gone records more
gone_more records [] more none = refl
gone_more records (g ∷ gs) more none =
    rest_first g (records g) (first_gone records gs) (first_gone records (gs ++ more)) (first_gone records more) none (λ rest. gone_more records gs more rest)

-- WHAT A VOLUME SHOWS

shown_page : (f : List ℕ → List ℕ) (lost : Bool) (bytes page : List ℕ) → option_map f (bytes_unless lost bytes) ≡ Some page → option_map f (Some bytes) ≡ Some page
shown_page f true bytes page is = absurd (cc)
shown_page f false bytes page is = is

shown_held : (f : List ℕ → List ℕ) (lost : Bool) (bytes : List ℕ) (lines : List (List ℕ)) → held (option_map f (bytes_unless lost bytes)) ≡ Some lines → held (option_map f (Some bytes)) ≡ Some lines
shown_held f true bytes lines is = absurd (cc)
shown_held f false bytes lines is = is

-- a page that is read of what isn't lost is shown
pub page_shown : (v : View) (per : ℕ) (g : GroupNo) (page : List ℕ) → page_of (volumes_now v) per g ≡ Some page → page_of (volumes_shown v) per g ≡ Some page
page_shown v per g page is = shown_page (slice (start_of per g) page_bytes) (v.lost (DiskPart (Spool (volume_of per g)))) (disk_now v (Spool (volume_of per g))).bytes page is

-- groups that hold records on what isn't lost hold the same ones on what is shown
record AreShown (v : View) (per : ℕ) (groups : List GroupNo) : Type 0 where
  none : first_gone (records_on (volumes_shown v) per) groups ≡ None
  all : all_records (records_on (volumes_shown v) per) groups ≡ all_records (records_on (volumes_now v) per) groups

shown_more : (v : View) (per : ℕ) (g : GroupNo) (gs : List GroupNo) (r : Option (List (List ℕ))) → records_on (volumes_now v) per g ≡ r → gone_or g r (first_gone (records_on (volumes_now v) per) gs) ≡ None
    → (first_gone (records_on (volumes_now v) per) gs ≡ None → AreShown v per gs) → AreShown v per (g ∷ gs)
shown_more v per g gs None is none others = absurd (cc)
shown_more v per g gs (Some lines) is none others =
    let here : records_on (volumes_shown v) per g ≡ Some lines = shown_held (slice (start_of per g) page_bytes) (v.lost (DiskPart (Spool (volume_of per g)))) (disk_now v (Spool (volume_of per g))).bytes lines is in
    let more = others none in
    record {
      none = ap (λ (r : Option (List (List ℕ))). gone_or g r (first_gone (records_on (volumes_shown v) per) gs)) here ∙ more.none;
      all = ap (λ (r : Option (List (List ℕ))). unwrap_or r [] ++ all_records (records_on (volumes_shown v) per) gs) (here ∙ sym is)
          ∙ ap (λ (l : List (List ℕ)). unwrap_or (records_on (volumes_now v) per g) [] ++ l) more.all;
    }

are_shown : (v : View) (per : ℕ) (groups : List GroupNo) → first_gone (records_on (volumes_now v) per) groups ≡ None → AreShown v per groups
are_shown v per [] none = record { none = refl; all = refl }
are_shown v per (g ∷ gs) none = shown_more v per g gs (records_on (volumes_now v) per g) refl none (λ rest. are_shown v per gs rest)

-- a group among others lies on no lost volume where none of them does
among : (test : GroupNo → Bool) (before : List GroupNo) (g : GroupNo) (rest : List GroupNo) → list_any test (before ++ g ∷ rest) ≡ false → test g ≡ false
among test [] g rest none = left (test g) (list_any test rest) none where
  left : (a b : Bool) → (a || b) ≡ false → a ≡ false
  left true b e = absurd (cc)
  left false b e = refl
among test (h ∷ before) g rest none = among test before g rest (right (test h) (list_any test (before ++ g ∷ rest)) none) where
  right : (a b : Bool) → (a || b) ≡ false → b ≡ false
  right true b e = absurd (cc)
  right false b e = e

-- LATER

-- what isn't lost later wasn't before
pub unlost : (before later : Bool) → (before ≡ true → later ≡ true) → later ≡ false → before ≡ false
unlost true later stays there = let is : later ≡ true = stays refl in absurd (cc)
unlost false later stays there = refl

-- a group still lies within its volume
pub placed_later : (old new : View) (per : ℕ) (g : GroupNo) → Goes old new → IsPlaced old per g → IsPlaced new per g
placed_later old new per g goes placed =
    let dev = Spool (volume_of per g) in
    record {
      volume = placed.volume;
      within = λ there. subst (λ (s : ℕ). start_of per g + page_bytes ≤ s) (sym (goes.size dev)) (placed.within (unlost (old.lost (DiskPart dev)) (new.lost (DiskPart dev)) (goes.lost (DiskPart dev)) there));
    }

-- THE GROUPS SO FAR

-- the records of the groups so far are the lines
pub record HaveRead (tells : Type 0) (by : ℕ) (first now : View) (per : ℕ) (groups : List GroupNo) (lines : List (List ℕ)) : Type 0 where
  pub looks : LooksAt tells by first now
  pub all : tells → all_records (records_on (volumes_now first) per) groups ≡ lines
  pub none : tells → first_gone (records_on (volumes_now first) per) groups ≡ None
  pub limited : All (λ line. is_record line ≡ true) lines

-- one group more
pub read_more : (tells : Type 0) (by : ℕ) (first now new : View) (per : ℕ) (groups : List GroupNo) (g : GroupNo) (old lines : List (List ℕ))
    → HaveRead tells by first now per groups old → LooksAt tells by now new → (tells → Adds (records_on (volumes_now now) per g) old lines) → (All (λ line. is_record line ≡ true) old → All (λ line. is_record line ≡ true) lines) → HaveRead tells by first new per (groups ++ g ∷ []) lines
read_more tells by first now new per groups g old lines have looks adds records =
    let v = volume_of per g in
    let there : tells → (l : List (List ℕ)) → records_on (volumes_now now) per g ≡ Some l → records_on (volumes_now first) per g ≡ Some l
    = λ told l is. earlier (slice (start_of per g) page_bytes) (first.lost (DiskPart (Spool v))) (now.lost (DiskPart (Spool v))) (disk_now first (Spool v)).bytes (disk_now now (Spool v)).bytes l (have.looks.goes.lost (DiskPart (Spool v))) (same_bytes first now (have.looks.during told) (Spool v)) is in
    record {
      looks = looks_then first now new tells by have.looks looks;
      all = λ told.
          let added = adds told in
          let here = there told added.lines added.held in
          all_more (records_on (volumes_now first) per) groups (g ∷ [])
          ∙ rw (have.all told, here) (ap (λ l. old ++ l) (append-nil added.lines) ∙ sym added.is);
      none = λ told.
          let added = adds told in
          let here = there told added.lines added.held in
          gone_more (records_on (volumes_now first) per) groups (g ∷ []) (have.none told) ∙ rw here refl;
      limited = records have.limited;
    }

-- the group that comes next is gone
pub gone_next : (tells : Type 0) (by : ℕ) (first now new : View) (per : ℕ) (groups : List GroupNo) (g : GroupNo) (rest : List GroupNo) (old : List (List ℕ)) → tells
    → HaveRead tells by first now per groups old → Goes now new → IsSteady first new → (IsSteady now new → records_on (volumes_now now) per g ≡ None) → first_gone (records_on (volumes_now first) per) (groups ++ g ∷ rest) ≡ Some g
gone_next tells by first now new per groups g rest old told have goes steady none =
    let part = λ (n : ℕ). DiskPart (Spool n) in
    let still : IsSteady now new = λ n. in_between (first.lost (part n)) (now.lost (part n)) (new.lost (part n)) (have.looks.goes.lost (part n)) (goes.lost (part n)) (steady n) in
    let v = volume_of per g in
    let lost : now.lost (part v) ≡ first.lost (part v) = sym (still v) ∙ steady v in
    let here : records_on (volumes_now first) per g ≡ None
    = same_unless (slice (start_of per g) page_bytes) (first.lost (part v)) (now.lost (part v)) (disk_now first (Spool v)).bytes (disk_now now (Spool v)).bytes lost (same_bytes first now (have.looks.during told) (Spool v)) ∙ none still in
    gone_more (records_on (volumes_now first) per) groups (g ∷ rest) (have.none told) ∙ rw here refl

-- the group that comes next is gone from what is shown, where none of the groups lies on a lost volume
pub left_next : (tells : Type 0) (by : ℕ) (first now new : View) (per : ℕ) (groups : List GroupNo) (g : GroupNo) (rest : List GroupNo) (old : List (List ℕ)) → tells
    → HaveRead tells by first now per groups old → (new.lost (DiskPart (Spool (volume_of per g))) ≡ false → records_on (volumes_shown now) per g ≡ None)
    → lie_on_lost new per (groups ++ g ∷ rest) ≡ false → first_gone (records_on (volumes_shown first) per) (groups ++ g ∷ rest) ≡ Some g
left_next tells by first now new per groups g rest old told have none kept =
    let v = volume_of per g in
    let there = among (λ h. new.lost (DiskPart (Spool (volume_of per h)))) groups g rest kept in
    let here : records_on (volumes_shown first) per g ≡ None = ap (λ (b : List ℕ). held (Some (slice (start_of per g) page_bytes b))) (sym (same_bytes first now (have.looks.during told) (Spool v))) ∙ none there in
    gone_more (records_on (volumes_shown first) per) groups (g ∷ rest) (are_shown first per groups (have.none told)).none ∙ rw here refl

-- all groups were read
pub left_whole : (tells : Type 0) (by : ℕ) (first now : View) (per count : ℕ) (groups : List GroupNo) (lines : List (List ℕ)) → tells → HaveRead tells by first now per groups lines
    → whole_text count groups lines ≡ text_of (records_on (volumes_shown first) per) count groups
left_whole tells by first now per count groups lines told have =
    let shown = are_shown first per groups (have.none told) in
    sym (ap (λ (o : Option GroupNo). text_unless count groups (all_records (records_on (volumes_shown first) per) groups) o) shown.none ∙ ap (whole_text count groups) (shown.all ∙ have.all told))

-- LIMITS

-- records after records
pub are_records : (old lines new : List (List ℕ)) → new ≡ old ++ lines → All (λ line. is_record line ≡ true) lines → All (λ line. is_record line ≡ true) old → All (λ line. is_record line ≡ true) new
are_records old lines new is more all = subst (All (λ line. is_record line ≡ true)) (sym is) (All-append (λ line. is_record line ≡ true) old lines all more)

record_parts : (a b : Bool) → (a && b) ≡ true → (a ≡ true) × (b ≡ true)
record_parts true b e = (refl, e)
record_parts false b e = absurd (cc)

lines_limited : (lines : List (List ℕ)) → All (λ line. is_record line ≡ true) lines → IsLimited (Whole lines)
lines_limited lines all few = record {
  few = few;
  short = All-weaker (λ line. is_record line ≡ true) (λ line. length line ≤ line_bytes) (λ line is. let le : nat_le (length line) line_bytes ≡ true = (record_parts (nat_le (length line) line_bytes) (is_text_line line) is).0 in grind (arith, nat_tests, le)) lines all;
  text = All-weaker (λ line. is_record line ≡ true) (λ line. is_text_line line ≡ true) (λ line is. (record_parts (nat_le (length line) line_bytes) (is_text_line line) is).1) lines all;
}

-- the text of lines that were records is within the limits
pub whole_limited : (count : ℕ) (groups : List GroupNo) (lines : List (List ℕ)) → All (λ line. is_record line ≡ true) lines → IsLimited (whole_text count groups lines)
whole_limited count groups lines all = by_count (length lines == count) where
  by_count : (b : Bool) → IsLimited (if b then Whole lines else Gone (last_of groups) count)
  by_count true = lines_limited lines all
  by_count false = λ few. few
