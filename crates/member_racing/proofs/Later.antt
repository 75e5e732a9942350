-- What a member knows of a value that it finds, by the one that it left.
use Rattle.std.proofs.Common.{◌≡◌, ◌∙◌, ◌≤◌, ◌<◌, ◌&&◌, not, ℕ, zero, suc, Bool, true, false, List, [], ◌∷◌, ◌++◌, length, Option, Some, ap, subst, sym, arith}
use Rattle.std.proofs.lemmas.Bool.{ne_eqb}
use Rattle.mas_types.specs.declared.ids.MemberId.{MemberId}
use Rattle.mas_types.specs.declared.ids.Page.{Page}
use Rattle.mas_types.specs.Ids.{is_somebody}
use Rattle.mas_types.specs.Limits.{members_most}
use Rattle.lock_cycle.specs.Books.{is_stopped}
use Rattle.spool_plant.specs.declared.plant.Plant.{Ghosts as PlantGhosts}
use Rattle.ckpt_copy.specs.declared.copying.Copying.{Ghosts as CopyGhosts}
use Rattle.ckpt_form.specs.declared.steady.Steady.{Ghosts as SteadyGhosts}
use Rattle.mas_complex.specs.declared.complex.Complex.{Complex}
use Rattle.mas_complex.specs.Journals.{in_flight}
use Rattle.mas_complex.specs.Parts.{Shown, parts_of, shown_of}
use Rattle.mas_complex.specs.Past.{HasNoted, noted_by}
use Rattle.gate_facts.specs.declared.desks.Desk.{Desk}
use Rattle.gate_facts.specs.Memory.{Knows}
use Rattle.gate_facts.specs.Values.{Synced, begun_of, desk_of, lines_of, marked_at, no_desk, stopped_of}
use Rattle.gate_facts.specs.Ways.{EachWay}
use Rattle.gate_turns.specs.Seats.{shows_stopped}
use Rattle.gate_turns.specs.Shared.{begun_by, desk_in, facts_of, said_of}
use Rattle.gate_turns.specs.Words.{lines_by}
use Rattle.gate_turns.proofs.Seats.{seat_at}
use Rattle.member_gate.specs.Views.{memory_by, sees}
use Rattle.member_node.specs.Wanted.{HasHad}
use Rattle.member_racing.specs.Waits.{given_by}
use Rattle.member_racing.proofs.Unsaid.{lines_in}

-- WHAT FACTS SHOW OF A MEMBER

module _ (m : MemberId) (some : 1 ≤ m.0) (few : m.0 ≤ members_most) where
  abbrev within : m.0 < 9
  within = omega (arith, few)

  pub somebody : is_somebody m ≡ true
  somebody = ap not (ne_eqb m.0 0 (λ is. omega (arith, some, is)))

  pub stopped_at : (told : Bool) (x : Shown) → stopped_of (facts_of told x) m.0 ≡ is_stopped x.book m
  stopped_at told x =
      seat_at (shows_stopped x.book) false 0 9 m.0 m within (omega arith)
      ∙ ap (λ (t : Bool). t && is_stopped x.book m) somebody

  pub desk_at : (told : Bool) (x : Shown) → desk_of (facts_of told x) m.0 ≡ desk_in told x m
  desk_at told x = seat_at (desk_in told x) no_desk 0 9 m.0 m within (omega arith)

  pub lines_at : (told : Bool) (x : Shown) → lines_of (facts_of told x) m.0 ≡ lines_by x.base.config.members m.0 (said_of told x)
  lines_at told x = seat_at (λ (k : MemberId). lines_by x.base.config.members k.0 (said_of told x)) [] 0 9 m.0 m within (omega arith)

  pub begun_at : (told : Bool) (x : Shown) → begun_of (facts_of told x) m.0 ≡ begun_by m (x.batches ++ in_flight x.current)
  begun_at told x = seat_at (λ (k : MemberId). begun_by k (x.batches ++ in_flight x.current)) [] 0 9 m.0 m within (omega arith)

-- A NOTE that isn't empty stands at its place
pub noted_there : (had : List (List Page)) (m : ℕ) (page : Page) (pages : List Page) → noted_by had m ≡ page ∷ pages → HasNoted had m (page ∷ pages)
noted_there [] m page pages is = absurd (cc)
noted_there (one ∷ had) zero page pages is = ap (λ (ps : List Page). let o : Option (List Page) = Some ps in o) is
noted_there (one ∷ had) (suc m) page pages is = noted_there had m page pages is

noted_is : (had : List (List Page)) (m : ℕ) (pages : List Page) → HasNoted had m pages → noted_by had m ≡ pages
noted_is [] m pages is = absurd (cc)
noted_is (one ∷ had) zero pages is = cc
noted_is (one ∷ had) (suc m) pages is = noted_is had m pages is

pub noted_on : (was is : List (List Page)) (m : ℕ) (pages : List Page) → 1 ≤ length pages → noted_by is m ≡ noted_by was m → HasNoted was m pages → HasNoted is m pages
noted_on was is m [] some same noted = absurd (omega (arith, some))
noted_on was is m (page ∷ pages) some same noted = noted_there is m page pages (same ∙ noted_is was m (page ∷ pages) noted)

-- FROM THE VALUE THAT WAS LEFT TO THE ONE THAT IS FOUND

module _ {P C : Type 0} {plants : PlantGhosts P} {steadies : SteadyGhosts C} {copies : CopyGhosts C} (m : MemberId) (cares : List Bool) where
  -- one that cares for these knows of the second value what the first one showed
  abbrev pub KnowsOf : Complex P C plants steadies copies → Complex P C plants steadies copies → Type 0
  KnowsOf x y = EachWay plants.tells (λ told. Knows m.0 (memory_by cares (sees m.0 (facts_of told (shown_of x)))) (facts_of told (shown_of y)))

  module _ (some : 1 ≤ m.0) (few : m.0 ≤ members_most) (mine : marked_at cares m.0 ≡ true) (x y : Complex P C plants steadies copies) (known : KnowsOf x y) where
    pub same_base : y.base ≡ x.base
    same_base = known.bare.base

    pub same_stop : is_stopped y.book m ≡ is_stopped x.book m
    same_stop = sym (stopped_at m some few false (shown_of y)) ∙ known.bare.stopped some ∙ stopped_at m some few false (shown_of x)

    up_in : (told : Bool) → is_stopped y.book m ≡ false → stopped_of (facts_of told (shown_of y)) m.0 ≡ false
    up_in told up = stopped_at m some few told (shown_of y) ∙ up

    synced_in : (told : Bool) → Synced (desk_of (facts_of told (shown_of y)) m.0) (desk_of (facts_of told (shown_of x)) m.0) → Synced (desk_in told (shown_of y) m) (desk_in told (shown_of x) m)
    synced_in told s =
        subst (λ (d : Desk). Synced (desk_in told (shown_of y) m) d) (desk_at m some few told (shown_of x))
        (subst (λ (d : Desk). Synced d (desk_of (facts_of told (shown_of x)) m.0)) (desk_at m some few told (shown_of y)) s)

    pub bare_desk : is_stopped y.book m ≡ false → Synced (desk_in false (shown_of y) m) (desk_in false (shown_of x) m)
    bare_desk up = synced_in false (known.bare.desk (up_in false up))

    pub told_desk : plants.tells → is_stopped y.book m ≡ false → Synced (desk_in true (shown_of y) m) (desk_in true (shown_of x) m)
    told_desk t up = synced_in true ((known.told t).desk (up_in true up))

    -- its pages are those that it noted still
    pub same_notes : is_stopped y.book m ≡ false → (fresh : Bool) (pages : List Page) → 1 ≤ length pages → HasHad plants.tells fresh (parts_of x).had m.0 pages → HasHad plants.tells fresh (parts_of y).had m.0 pages
    same_notes up fresh pages many had t read = noted_on (parts_of x).had (parts_of y).had m.0 pages many (told_desk t up).noted (had t read)

    pub same_lines : plants.tells → lines_in plants copies (parts_of y) m ≡ lines_in plants copies (parts_of x) m
    same_lines t = sym (lines_at m some few true (shown_of y)) ∙ (known.told t).lines m.0 mine ∙ lines_at m some few true (shown_of x)

    pub same_begun : given_by plants copies (parts_of y) m ≡ given_by plants copies (parts_of x) m
    same_begun = sym (begun_at m some few false (shown_of y)) ∙ known.bare.begun m.0 mine ∙ begun_at m some few false (shown_of x)
