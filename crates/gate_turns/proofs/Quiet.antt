-- Which calls change lines, and which change begun entries.
use Rattle.std.proofs.Common.{◌≡◌, ◌≢◌, ◌⊎◌, ⊎_elim, ℕ, ◌+◌, ◌==◌, Bool, true, false, List, [], ◌∷◌, ◌++◌, Option, Some, None, refl, sym, ap, ◌∙◌, arith}
use Rattle.std.proofs.lemmas.List.{append-nil}
use Rattle.std.specs.Prelude.{if◌then◌else◌, map}
use Rattle.mas_types.specs.declared.ids.Dev.TheVariants.{Spool}
use Rattle.mas_types.specs.declared.ids.MemberId.{MemberId}
use Rattle.mas_types.specs.declared.journals.Batch.{Batch}
use Rattle.mas_types.specs.declared.journals.Entry.{Entry}
use Rattle.mas_types.specs.declared.journals.Fate.TheVariants.{Dropped, Kept}
use Rattle.mas_types.specs.Ids.{same_member}
use Rattle.spool_plant.specs.Acts.{OnDevice, Prints, Says}
use Rattle.mas_complex.specs.Journals.{begun, fated, in_flight, with_last}
use Rattle.mas_complex.specs.Parts.{Shown}
use Rattle.mas_complex.specs.Seen.{IsFatedBy}
use Rattle.gate_turns.specs.Seats.{all_seats}
use Rattle.gate_turns.specs.Words.{speaker, lines_by}
use Rattle.gate_turns.specs.Shared.{begun_by, said_of}
use Rattle.gate_turns.specs.Laws.{with_view, with_call, HasBegun, IsCall}
use Rattle.gate_turns.specs.Untouched.{SaysNothing, BooksAreQuiet, ReservesAreQuiet, GivesUpAreQuiet, SpoolActsAreQuiet, PrintsAreQuiet, CallsAreQuiet, FatesAreQuiet, LogsBeginOwn, KeepsBeginOwn, SaysChangeNamed}
use Rattle.gate_turns.proofs.Acted.{said_lines}
use Rattle.gate_turns.proofs.Called.{said_called, begun_placed, begun_ended, reserved_begun, given_up_begun}
use Rattle.gate_turns.proofs.Counts.{same_lines}
use Rattle.gate_turns.proofs.KeptSame.{begun_append}
use Rattle.gate_turns.proofs.Seats.{each_seat}
use Rattle.gate_turns.proofs.SpoolActed.{said_same}

pub books_quiet : BooksAreQuiet
books_quiet told x book reserved = (refl, refl)

pub reserves_quiet : ReservesAreQuiet
reserves_quiet told x batches reserved grown = (refl, (λ i. map (λ (s : MemberId). reserved_begun x batches s grown i) all_seats))

pub gives_up_quiet : GivesUpAreQuiet
gives_up_quiet told placed x has = (refl, (λ i. map (λ (s : MemberId). given_up_begun x placed s has i) all_seats))

-- where what was said is the same, so are the lines of each member
same_said : (told : Bool) (x y : Shown) → y.base.config.members ≡ x.base.config.members → said_of told y ≡ said_of told x → SaysNothing told x y
same_said told x y members said = λ i. map (λ (s : MemberId). lines_by (members i) s.0 (said i)) all_seats

pub spool_quiet : SpoolActsAreQuiet
spool_quiet told x view by volume result acts only before = (same_said told x (with_view x view) refl (said told only before), refl) where
  said : (z : Bool) → (z ≡ true → OnDevice (Spool volume) x.view view) → (z ≡ true → HasBegun x) → said_of z (with_view x view) ≡ said_of z x
  said false only before = refl
  said true only before = said_same x view volume acts.goes (before refl) (only refl)

pub prints_quiet : PrintsAreQuiet
prints_quiet told x view by line result acts prints before = ((λ i. map (λ (s : MemberId). lines told s prints before i) all_seats), refl) where
  lines : (z : Bool) (s : MemberId) → (z ≡ true → Prints by.0 line x.view view result) → (z ≡ true → HasBegun x) → lines_by x.base.config.members s.0 (said_of z (with_view x view)) ≡ lines_by x.base.config.members s.0 (said_of z x)
  lines false s prints before = refl
  lines true s prints before = same_lines x view by.0 s.0 line result acts.goes (prints refl) (before refl)

called_quiet : (told stopped : Bool) (x c : Shown) (by : MemberId) → IsCall by stopped told x c → SaysNothing told x (with_call x c)
called_quiet told stopped x c by call = same_said told x (with_call x c) refl (said_called x c told call.counts.goes call.apart call.begun)

pub calls_quiet : CallsAreQuiet
calls_quiet told stopped x c by call same flying = (called_quiet told stopped x c by call, (λ i. map (λ (s : MemberId). begun_by s (same i ++ in_flight (flying i))) all_seats))

pub fates_quiet : FatesAreQuiet
fates_quiet told stopped x c by found now call ends ended how = (called_quiet told stopped x c by call, (λ i. map (λ (s : MemberId). begun_same s i) all_seats)) where
  by_batch : (s : MemberId) (flying : Option Batch) → x.current ≡ flying → IsFatedBy found x.level now flying x.batches c.batches → begun_by s (c.batches ++ in_flight c.current) ≡ begun_by s (x.batches ++ in_flight x.current)
  by_batch s None none is = λ i. begun_by s (is i ++ in_flight ((ended ∙ sym none) i))
  by_batch s (Some b) flying is = by_fate (found == x.level) is where
    by_fate : (z : Bool) → c.batches ≡ with_last (fated (if z then Dropped else Kept) now b) x.batches → begun_by s (c.batches ++ in_flight c.current) ≡ begun_by s (x.batches ++ in_flight x.current)
    by_fate true is = begun_ended x c b (fated Dropped now b) flying ended ends is s refl
    by_fate false is = begun_ended x c b (fated Kept now b) flying ended ends is s refl

  begun_same : (s : MemberId) → begun_by s (c.batches ++ in_flight c.current) ≡ begun_by s (x.batches ++ in_flight x.current)
  begun_same s = ⊎_elim
      (λ kept. begun_ended x c kept.0 (fated Kept now kept.0) kept.1 ended ends kept.2 s refl)
      (λ fate. by_batch s x.current refl fate)
      how

-- what one more batch adds to the entries that a member began
one_batch : (m by : MemberId) (now : ℕ) (js : List Batch) (entries : List Entry) → begun_by m (js ++ begun now by entries ∷ []) ≡ begun_by m (js ++ []) ++ (if same_member by m then entries else [])
one_batch m by now js entries =
    begun_append m js (begun now by entries ∷ [])
    ∙ (ap (λ es. begun_by m js ++ es) (append-nil (if same_member by m then entries else []))
    ∙ ap (λ bs. begun_by m bs ++ (if same_member by m then entries else [])) (sym (append-nil js)))

pub logs_begin : LogsBeginOwn
logs_begin told stopped x c by now entries call same none flying = (
  called_quiet told stopped x c by call,
  λ m. (λ i. begun_by m (same i ++ in_flight (flying i)))
      ∙ (one_batch m by now x.batches entries ∙ ap (λ (f : Option Batch). begun_by m (x.batches ++ in_flight f) ++ (if same_member by m then entries else [])) (sym none)),
)

pub keeps_begin : KeepsBeginOwn
keeps_begin told x by now entries none ends = (
  refl,
  λ m. let b : Batch = fated Kept now (begun now by entries) in
      ap (λ (f : Option Batch). begun_by m (with_last b x.batches ++ in_flight f)) none
      ∙ (ap (begun_by m) (append-nil (with_last b x.batches))
      ∙ (begun_placed b x.batches ends m
      ∙ (ap (λ es. begun_by m x.batches ++ es) (append-nil (if same_member by m then entries else []))
      ∙ (ap (λ bs. begun_by m bs ++ (if same_member by m then entries else [])) (sym (append-nil x.batches))
      ∙ ap (λ (f : Option Batch). begun_by m (x.batches ++ in_flight f) ++ (if same_member by m then entries else [])) (sym none))))),
)

pub says_change : SaysChangeNamed
says_change told x view by line result acts says before = (
  refl,
  λ k ne. each_seat (λ a b. a ≡ b) (λ m. lines_by x.base.config.members m.0 (said_of told (with_view x view))) (λ m. lines_by x.base.config.members m.0 (said_of told x)) [] refl 0 9 k
      (λ s at lt. lines told s says before (λ same. ne (same ∙ omega (arith, at)))),
) where
  lines : (z : Bool) (s : MemberId) → (z ≡ true → Says line x.view view result) → (z ≡ true → HasBegun x) → speaker x.base.config.members line ≢ s.0
      → lines_by x.base.config.members s.0 (said_of z (with_view x view)) ≡ lines_by x.base.config.members s.0 (said_of z x)
  lines false s says before ne = refl
  lines true s says before ne = said_lines x view by line result s.0 acts.goes (says refl) (before refl) ne
