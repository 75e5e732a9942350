-- The rule of the table, and what each step tells.
use Rattle.std.specs.Prelude.{◌≡◌, ◌≢◌, ℕ, zero, suc, ◌+◌, ◌<◌, ◌≤◌, Bool, true, false, List, [], ◌∷◌, length, map, Option, Some, None}
use mathlib.Core.Option.{some}
use mathlib.Core.Option as maybe
use lib.ListN.{get_elem?}
use Rattle.atomic_table.specs.Table.{State, Me, Step}
use Rattle.gate_facts.specs.declared.facts.Facts.{Facts}
use Rattle.mas_types.specs.declared.journals.Entry.{Entry}
use Rattle.member_gate.specs.declared.view.View.{View}
use Rattle.member_gate.specs.declared.view.Sight.{Sight}
use Rattle.gate_facts.specs.Values.{marked_at, no_desk, stopped_of, desk_of}
use Rattle.gate_facts.specs.Memory.{seats, Knows}
use Rattle.gate_facts.specs.Laws.{Apart}
use Rattle.gate_facts.specs.Ways.{EachWay}
use Rattle.member_gate.specs.Views.{sight, memory_by, AllBegin, Finds, MineGrows, refused, taking, counting, ending, opened}

-- ONE WAY

-- a view, and what it knows of the value in one of the two ways
pub record OneWay : Type 0 where
  pub live : Bool
  pub root : Bool
  pub opening : Bool
  pub has : Bool
  pub member : ℕ
  pub own : List Bool
  pub cares : List Bool
  pub holds : List Bool
  pub given : List Bool
  pub sight : Sight

abbrev pub one_way : Bool → View → OneWay
one_way told v = record {
  live = v.live;
  root = v.root;
  opening = v.opening;
  has = v.has;
  member = v.member;
  own = v.own;
  cares = v.cares;
  holds = v.holds;
  given = v.given;
  sight = sight v told;
}

abbrev pub Has : {A : Type 0} → List A → ℕ → A → Type 0
Has vs id v = get_elem? vs id ≡ some v

-- what the rule says of one view and the value
pub record Fits (is : Facts) (v : OneWay) : Type 0 where
  pub knows : v.live ≡ true → Knows v.member (memory_by v.cares v.sight) is
  pub within : length v.own ≤ length v.sight.last.kept
  pub before : length v.sight.last.kept ≤ length is.kept
  pub small : v.member < seats
  pub opens : v.opening ≡ true → v.has ≡ true
  pub itself : v.live ≡ true → marked_at v.holds v.member ≡ true
  pub heard : v.live ≡ true → AllBegin is.kept v.sight.heard

-- what the rule says of two views
pub record Distinct (v w : OneWay) : Type 0 where
  pub own : Apart v.own w.own
  pub cares : Apart v.cares w.cares
  pub holds : Apart v.holds w.holds
  pub root : v.root ≡ true → w.root ≡ true → ⊥

-- no pass of this member was made
abbrev pub NoneHolds : List OneWay → ℕ → Type 0
NoneHolds vs m = (id : ℕ) (v : OneWay) → Has vs id v → marked_at v.holds m ≡ false

-- what the rule says of the value and all views
pub record Shape (is : Facts) (vs : List OneWay) : Type 0 where
  pub each : (id : ℕ) (v : OneWay) → Has vs id v → Fits is v
  pub distinct : (i j : ℕ) (v w : OneWay) → Has vs i v → Has vs j w → i ≢ j → Distinct v w
  pub mines : (k : ℕ) (e : Entry) → get_elem? is.kept k ≡ some e → 0 < e.by.0 → stopped_of is e.by.0 ≡ false
      → (id : ℕ) × (v : OneWay) × Has vs id v × (marked_at v.own k ≡ true) × (marked_at v.holds e.by.0 ≡ true)
  pub never : (m : ℕ) → 0 < m → NoneHolds vs m → (stopped_of is m ≡ false)
      × ((k : ℕ) (e : Entry) → get_elem? is.kept k ≡ some e → e.by.0 ≢ m) × (desk_of is m ≡ no_desk)
  pub fresh : (id : ℕ) (v : OneWay) → Has vs id v → v.root ≡ true → (m : ℕ) → 0 < m → m < seats
      → marked_at v.given m ≡ false → (marked_at v.cares m ≡ true) × NoneHolds vs m

-- BOTH WAYS

module _ {V : Type 0} (tells : Type 0) (facts : V → Bool → Facts) where
  -- the value is at home, or the one seat that has the turn has it
  abbrev pub Place : List (maybe.Option (Option V)) → List View → (Bool → Facts) → ℕ → Type 0
  Place homes views is zero = (x : V) × (homes ≡ some (Some x) ∷ []) × ((told : Bool) → facts x told ≡ is told)
      × ((id : ℕ) (v : View) → Has views id v → v.has ≡ false)
  Place homes views is (suc m) = (id : ℕ) × (v : View) × Has views id v × (v.has ≡ true) × (v.member ≡ m)
      × ((told : Bool) → (sight v told).out ≡ is told)
      × (v.opening ≡ true → homes ≡ some None ∷ [])
      × ((j : ℕ) (w : View) → Has views j w → w.has ≡ true → j ≡ id)

  pub record Ruled (s : State (Option V) View) : Type 0 where
    pub value : Bool → Facts
    pub turn : ℕ
    pub count : ℕ
    pub words : s.words ≡ turn ∷ count ∷ []
    pub counts : (told : Bool) → length (value told).kept ≡ count
    pub place : Place s.homes s.views value turn
    pub shape : EachWay tells (λ told. Shape (value told) (map (one_way told) s.views))

  -- a compare and exchange of the turn word
  abbrev pub tried : Step (Option V) → Me (Option V) View → ℕ → Me (Option V) View → Type 0
  tried st m found m' = (found ≤ seats)
      × (found ≡ 0 → (x : V) × Finds tells m.0 (facts x)
      × (m' ≡ (taking m.0 (m.0.tries + 1) (facts x), (0, Some x) ∷ [])))
      × (found ≢ 0 → m' ≡ (refused m.0 found, m.1))

  -- a store of the count word
  abbrev pub counted : (Bool → Facts) → Step (Option V) → Me (Option V) View → ℕ → Me (Option V) View → Type 0
  counted is st m n m' = (m' ≡ (counting m.0 is, m.1)) × MineGrows tells m.0 m'.0 is

  -- a store of the turn word
  abbrev pub ended : Step (Option V) → Me (Option V) View → ℕ → Me (Option V) View → Type 0
  ended st m n m' = m' ≡ (ending m.0, [])

  -- the first store of the count word
  abbrev pub began : Step (Option V) → Me (Option V) View → ℕ → Me (Option V) View → Type 0
  began st m n m' = m' ≡ (opened m.0, (0, None) ∷ [])
