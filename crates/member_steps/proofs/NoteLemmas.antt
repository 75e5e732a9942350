-- What members noted, over calls of one of them.
use Rattle.std.proofs.Common.{◌≡◌, ◌≢◌, ⊎_elim, ℕ, false, List, [], length, slice_get, slice_set, Some, Result, Ok, Err, refl, sym, ◌∙◌, ap, subst, arith}
use Rattle.std.proofs.lemmas.Bool.{cases_lt}
use Rattle.std.proofs.lemmas.List.{get_or-set_other, length-set}
use Rattle.std.proofs.lemmas.Option.{slice_get-get_or, slice_get_past}
use Rattle.mas_types.specs.declared.ids.MemberId.{MemberId}
use Rattle.mas_types.specs.declared.ids.Page.{Page}
use Rattle.mas_complex.specs.Past.{HasNoted}
use Rattle.member_node.specs.declared.member.Member.{Member}
use Rattle.member_node.specs.declared.member.NodeNo.{NodeNo}
use Rattle.member_node.specs.Wanted.{HasHad}
use Rattle.member_steps.specs.Noting.{KeepsOwnNotes, OtherNotesStay}

-- WHAT OTHERS NOTED

-- a note written at one place leaves each other one
note_other : (had : List (List Page)) (at m : ℕ) (pages : List Page) → m ≢ at → slice_get (slice_set had at pages) m ≡ slice_get had m
note_other had at m pages ne =
    let many : length (slice_set had at pages) ≡ length had = length-set had at pages in
    ⊎_elim
    (λ lt. slice_get-get_or (slice_set had at pages) m [] (omega (arith, lt, many)) ∙ ap Some (get_or-set_other had at m pages [] ne) ∙ sym (slice_get-get_or had m [] lt))
    (λ ge. slice_get_past (slice_set had at pages) m (omega (arith, ge, many)) ∙ sym (slice_get_past had m ge))
    (cases_lt m (length had))

pub notes_none : (by : MemberId) (was : List (List Page)) → OtherNotesStay by was was
notes_none by was m ne = refl

-- nothing was noted
pub notes_same : (by : MemberId) (was is : List (List Page)) → is ≡ was → OtherNotesStay by was is
notes_same by was is same m ne = ap (λ (had : List (List Page)). slice_get had m) same

-- the member noted pages
pub notes_set : (by : MemberId) (was is : List (List Page)) (pages : List Page) → is ≡ slice_set was by.0 pages → OtherNotesStay by was is
notes_set by was is pages set m ne = ap (λ (had : List (List Page)). slice_get had m) set ∙ note_other was by.0 m pages ne

pub notes_then : (by : MemberId) (a b c : List (List Page)) → OtherNotesStay by a b → OtherNotesStay by b c → OtherNotesStay by a c
notes_then by a b c one two m ne = two m ne ∙ one m ne

-- by the name of its member
pub notes_by : (n by : MemberId) (was is : List (List Page)) → n ≡ by → OtherNotesStay n was is → OtherNotesStay by was is
notes_by n by was is same stay = subst (λ (i : MemberId). OtherNotesStay i was is) same stay

-- another member has the pages that it noted still
pub others_had : (tells : Type 0) (by : MemberId) (was is : List (List Page)) → OtherNotesStay by was is → (k : Member) → k.id.0 ≢ by.0 → HasHad tells k.fresh was k.id.0 k.checkpoint.pages → HasHad tells k.fresh is k.id.0 k.checkpoint.pages
others_had tells by was is stay k ne noted told read = stay k.id.0 ne ∙ noted told read

-- WHAT THE MEMBER NOTED

-- a member with the same pages has those that it noted
pub had_as : (tells : Type 0) (was is : List (List Page)) (m n : Member) → is ≡ was → n.id ≡ m.id → n.fresh ≡ m.fresh → n.checkpoint.pages ≡ m.checkpoint.pages
    → HasHad tells m.fresh was m.id.0 m.checkpoint.pages → HasHad tells n.fresh is n.id.0 n.checkpoint.pages
had_as tells was is m n had id fresh pages noted told read =
    let one : HasNoted was m.id.0 m.checkpoint.pages = noted told (sym fresh ∙ read) in
    let two : HasNoted is m.id.0 m.checkpoint.pages = subst (λ (l : List (List Page)). HasNoted l m.id.0 m.checkpoint.pages) (sym had) one in
    let three : HasNoted is n.id.0 m.checkpoint.pages = subst (λ (i : MemberId). HasNoted is i.0 m.checkpoint.pages) (sym id) two in
    subst (λ (ps : List Page). HasNoted is n.id.0 ps) (sym pages) three

module _ {T : Type 0} (tells : Type 0) (was is : List (List Page)) (m n : Member) where
  -- after an error the member doesn't go on
  pub keeps_error : (why : NodeNo) → OtherNotesStay m.id was is → KeepsOwnNotes {T = T} tells was is m n (Err why)
  keeps_error why others = record { own = tt; read = tt; others = others }

  -- it noted its pages
  pub keeps_noted : (r : Result T NodeNo) → HasNoted is n.id.0 n.checkpoint.pages → (m.fresh ≡ false → n.fresh ≡ false) → OtherNotesStay m.id was is → KeepsOwnNotes tells was is m n r
  keeps_noted (Ok done) noted read others = record { own = λ had told read. noted; read = read; others = others }
  keeps_noted (Err why) noted read others = record { own = tt; read = tt; others = others }

  -- it noted none, and its pages are as they were
  pub keeps_same : (r : Result T NodeNo) → is ≡ was → n.id ≡ m.id → n.fresh ≡ m.fresh → n.checkpoint.pages ≡ m.checkpoint.pages → KeepsOwnNotes tells was is m n r
  keeps_same (Ok done) had id fresh pages = record { own = had_as tells was is m n had id fresh pages; read = λ read. fresh ∙ read; others = notes_same m.id was is had }
  keeps_same (Err why) had id fresh pages = record { own = tt; read = tt; others = notes_same m.id was is had }

-- one call after another
pub keeps_then : {S T : Type 0} (tells : Type 0) (a b c : List (List Page)) (m n o : Member) (s : S) (r : Result T NodeNo) → n.id ≡ m.id → KeepsOwnNotes tells a b m n (Ok s) → KeepsOwnNotes tells b c n o r → KeepsOwnNotes tells a c m o r
keeps_then tells a b c m n o s (Ok done) id one two = record { own = λ had. two.own (one.own had); read = λ read. two.read (one.read read); others = notes_then m.id a b c one.others (notes_by n.id m.id b c id two.others) }
keeps_then tells a b c m n o s (Err why) id one two = record { own = tt; read = tt; others = notes_then m.id a b c one.others (notes_by n.id m.id b c id two.others) }

-- by an answer of another type

pub keeps_up : {S T : Type 0} (tells : Type 0) (was is : List (List Page)) (m n : Member) (r : Result S NodeNo) (why : NodeNo) → KeepsOwnNotes tells was is m n r → KeepsOwnNotes {T = T} tells was is m n (Err why)
keeps_up tells was is m n r why k = record { own = tt; read = tt; others = k.others }

pub keeps_ok : {S T : Type 0} (tells : Type 0) (was is : List (List Page)) (m n : Member) (s : S) (t : T) → KeepsOwnNotes {T = S} tells was is m n (Ok s) → KeepsOwnNotes {T = T} tells was is m n (Ok t)
keeps_ok tells was is m n s t k = record { own = k.own; read = k.read; others = k.others }
