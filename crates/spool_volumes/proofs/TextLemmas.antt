-- Lemmas on texts and the pages of their groups.
use Rattle.std.proofs.Common.{◌≡◌, ℕ, Bool, true, false, List, [], ◌∷◌, ◌++◌, length, Option, Some, None, option_map, refl, sym, ap, ◌==◌, arith}
use Rattle.std.proofs.lemmas.Bool.Decides.{nat_tests}
use Rattle.mas_types.specs.declared.ids.GroupNo.{GroupNo}
use Rattle.mas_types.specs.declared.jobs.Text.TheVariants.{Whole}
use Rattle.mas_types.specs.Fit.{AreLines}
use Rattle.mas_types.specs.Limits.{page_bytes}
use Rattle.mas_types.specs.Records.{records_in}
use Rattle.spool_plant.specs.View.{Disk, slice}
use Rattle.ckpt_copy.specs.Has.{Has}
use Rattle.ckpt_copy.specs.Slices.{fits_image, has_image}
use Rattle.spool_text.specs.Texts.{joined, packed, text_of as packed_text}
use Rattle.spool_text.specs.Laws.{ReadsWhatIsPacked}
use Rattle.spool_volumes.specs.Volumes.{Volumes, volume_of, start_of}
use Rattle.spool_volumes.specs.Texts.{Held, held, records_on, first_gone, all_records, text_unless, text_of, first_lost, text_left}
use Rattle.spool_volumes.specs.Laws.{HavePages, AreThere, IsLeftOf}

-- all groups hold records, and these are the lines
pub record Reads (records : Held) (groups : List GroupNo) (lines : List (List ℕ)) : Type 0 where
  pub none : first_gone records groups ≡ None
  pub all : all_records records groups ≡ lines

one_more : (records : Held) (g : GroupNo) (gs : List GroupNo) (one rest : Option (List (List ℕ))) (lines : List (List ℕ)) → records g ≡ one → joined one rest ≡ Some lines
    → ((more : List (List ℕ)) → rest ≡ Some more → Reads records gs more) → Reads records (g ∷ gs) lines
one_more records g gs None rest lines is join others = absurd (cc)
one_more records g gs (Some found) None lines is join others = absurd (cc)
one_more records g gs (Some found) (Some more) lines is join others =
    let reads = others more refl in
    let same : found ++ more ≡ lines = cc in
    record {
      none = rw is reads.none;
      all = rw (is, reads.all) same;
    }

reads_pages : (volumes : Volumes) (per : ℕ) (pages : List (List ℕ)) (groups : List GroupNo) (lines : List (List ℕ)) → HavePages volumes per pages groups → packed_text pages ≡ Some lines
    → Reads (records_on volumes per) groups lines
reads_pages volumes per [] [] lines have is = let none : lines ≡ [] = cc in record { none = refl; all = sym none }
reads_pages volumes per [] (g ∷ gs) lines have is = absurd have
reads_pages volumes per (page ∷ pages) [] lines have is = absurd have
reads_pages volumes per (page ∷ pages) (g ∷ gs) lines have is =
    one_more (records_on volumes per) g gs (records_in page) (packed_text pages) lines (ap held have.0) is
    (λ more rest. reads_pages volumes per pages gs more have.1 rest)

same_length : (n : ℕ) → (n == n) ≡ true
same_length n = grind (arith, nat_tests)

pub whole_read : (records : Held) (groups : List GroupNo) (lines : List (List ℕ)) → Reads records groups lines → text_of records (length lines) groups ≡ Whole lines
whole_read records groups lines reads = rw (reads.all, reads.none, same_length (length lines)) refl

pub reads_texts : ReadsWhatIsPacked → (volumes : Volumes) (per : ℕ) (lines : List (List ℕ)) (groups : List GroupNo) → AreLines lines → HavePages volumes per (packed lines) groups → text_of (records_on volumes per) (length lines) groups ≡ Whole lines
reads_texts law volumes per lines groups are have =
    whole_read (records_on volumes per) groups lines (reads_pages volumes per (packed lines) groups lines have (law lines are))

-- AFTER A CRASH

-- what is read follows from which volumes are lost
pub record Follows (records : Held) (gone : Option GroupNo) (groups : List GroupNo) (lines : List (List ℕ)) : Type 0 where
  pub same : first_gone records groups ≡ gone
  pub all : gone ≡ None → all_records records groups ≡ lines

left_page : (disk : Disk) (left : Option (List ℕ)) (at : ℕ) (page : List ℕ) → Has at page_bytes page disk → IsLeftOf disk false left → option_map (slice at page_bytes) left ≡ Some page
left_page disk None at page has left = absurd left
left_page disk (Some image) at page has left = ap Some (has_image at page_bytes page disk image has (fits_image disk image left))

follows_lost : (records : Held) (g : GroupNo) (gs : List GroupNo) (lines : List (List ℕ)) → records g ≡ None → Follows records (Some g) (g ∷ gs) lines
follows_lost records g gs lines is = record { same = rw is refl; all = λ none. absurd (cc) }

follows_more : (records : Held) (g : GroupNo) (gs : List GroupNo) (gone : Option GroupNo) (one rest : Option (List (List ℕ))) (lines : List (List ℕ)) → records g ≡ one → joined one rest ≡ Some lines
    → ((more : List (List ℕ)) → rest ≡ Some more → Follows records gone gs more) → Follows records gone (g ∷ gs) lines
follows_more records g gs gone None rest lines is join others = absurd (cc)
follows_more records g gs gone (Some found) None lines is join others = absurd (cc)
follows_more records g gs gone (Some found) (Some more) lines is join others =
    let follows = others more refl in
    let same : found ++ more ≡ lines = cc in
    record {
      same = rw is follows.same;
      all = λ none. rw (is, follows.all none) same;
    }

-- the volumes after a crash
pub record Left (disks : ℕ → Disk) (lost : ℕ → Bool) (volumes : Volumes) : Type 0 where
  pub each : (n : ℕ) → IsLeftOf (disks n) (lost n) (volumes n)

lost_page : (volumes : Volumes) (per : ℕ) (g : GroupNo) → volumes (volume_of per g) ≡ None → records_on volumes per g ≡ None
lost_page volumes per g none = rw none refl

by_volume : (disks : ℕ → Disk) (lost : ℕ → Bool) (volumes : Volumes) (per : ℕ) (g : GroupNo) (gs : List GroupNo) (page : List ℕ) (rest : Option (List (List ℕ))) (lines : List (List ℕ)) (b : Bool)
    → lost (volume_of per g) ≡ b → IsLeftOf (disks (volume_of per g)) b (volumes (volume_of per g))
    → Has (start_of per g) page_bytes page (disks (volume_of per g)) → joined (records_in page) rest ≡ Some lines
    → ((more : List (List ℕ)) → rest ≡ Some more → Follows (records_on volumes per) (first_lost lost per gs) gs more)
    → Follows (records_on volumes per) (first_lost lost per (g ∷ gs)) (g ∷ gs) lines
by_volume disks lost volumes per g gs page rest lines true is left has join others =
    rw is (follows_lost (records_on volumes per) g gs lines (lost_page volumes per g left))
by_volume disks lost volumes per g gs page rest lines false is left has join others =
    let read : records_on volumes per g ≡ records_in page = ap held (left_page (disks (volume_of per g)) (volumes (volume_of per g)) (start_of per g) page has left) in
    rw is (follows_more (records_on volumes per) g gs (first_lost lost per gs) (records_in page) rest lines read join others)

follows_pages : (disks : ℕ → Disk) (lost : ℕ → Bool) (volumes : Volumes) (per : ℕ) (pages : List (List ℕ)) (groups : List GroupNo) (lines : List (List ℕ)) → Left disks lost volumes → AreThere disks per pages groups → packed_text pages ≡ Some lines
    → Follows (records_on volumes per) (first_lost lost per groups) groups lines
follows_pages disks lost volumes per [] [] lines left there is = let none : lines ≡ [] = cc in record { same = refl; all = λ h. sym none }
follows_pages disks lost volumes per [] (g ∷ gs) lines left there is = absurd there
follows_pages disks lost volumes per (page ∷ pages) [] lines left there is = absurd there
follows_pages disks lost volumes per (page ∷ pages) (g ∷ gs) lines left there is =
    by_volume disks lost volumes per g gs page (packed_text pages) lines (lost (volume_of per g)) refl (left.each (volume_of per g)) there.0 is
    (λ more rest. follows_pages disks lost volumes per pages gs more left there.1 rest)

text_follows : (records : Held) (gone : Option GroupNo) (groups : List GroupNo) (lines : List (List ℕ)) → Follows records gone groups lines → text_of records (length lines) groups ≡ text_unless (length lines) groups lines gone
text_follows records None groups lines follows = rw (follows.same, follows.all refl) refl
text_follows records (Some g) groups lines follows = rw follows.same refl

pub leaves_texts : ReadsWhatIsPacked → (disks : ℕ → Disk) (lost : ℕ → Bool) (volumes : Volumes) (per : ℕ) (lines : List (List ℕ)) (groups : List GroupNo)
    → AreLines lines → AreThere disks per (packed lines) groups → ((n : ℕ) → IsLeftOf (disks n) (lost n) (volumes n))
    → text_of (records_on volumes per) (length lines) groups ≡ text_left lost per lines groups
leaves_texts law disks lost volumes per lines groups are there each =
    text_follows (records_on volumes per) (first_lost lost per groups) groups lines
    (follows_pages disks lost volumes per (packed lines) groups lines (record { each = each }) there (law lines are))
