-- What has been read of each line to another node as a run begins: nothing.
use Rattle.std.proofs.Common.{◌≡◌, ℕ, ◌-◌, ◌*◌, ◌≤◌, ◌<◌, List, [], append-nil, length, Option, Some, refl, sym, ◌∙◌, ap, subst, arith, All}
use Rattle.std.proofs.lemmas.Option.{slice_get-get_or}
use Rattle.mas_types.specs.declared.ids.MemberId.{MemberId}
use Rattle.mas_types.specs.Fit.{IsLine}
use Rattle.mas_types.specs.Limits.{wires_most}
use Rattle.spool_plant.specs.View.{taken_now}
use Rattle.spool_plant.specs.declared.plant.Plant.{Ghosts as PlantGhosts}
use Rattle.mas_complex.specs.Parts.{Parts}
use Rattle.member_quiet.proofs.Seated.{seated}
use Rattle.run_opening.specs.Wires.{AreReaders, reader_place}

-- THE LIST OF THEM

abbrev pub Readers : Type 0
Readers = List (Option (List ℕ))

-- THEIR PLACES

pub place_within : (m : MemberId) (line members : ℕ) → 1 ≤ m.0 → m.0 ≤ members → IsLine line → reader_place m line < wires_most * members
place_within m line members some few inside = omega (arith, some, few, inside.0, inside.1)

-- AS A RUN BEGINS: nothing was taken since its first moment, and each reader is new
pub readers_new : {P C : Type 0} (plants : PlantGhosts P) (x : Parts P C) (rs : Readers) → length x.book.members ≡ x.base.config.members → length rs ≡ wires_most * x.base.config.members
    → All (λ reader. reader ≡ Some []) rs
    → (plants.tells → (w m : ℕ) → taken_now (plants.view x.plant) w m ≡ ((plants.view x.plant).world x.since).taken w m) → AreReaders plants x rs
readers_new plants x rs booked many new none = record {
  many = many;
  each = λ t m line member inside is_up.
      let seat = seated x.base.config x.book m booked member in
      let few : m.0 ≤ x.base.config.members = subst (λ (k : ℕ). m.0 ≤ k) booked seat.1 in
      record {
        stream = [];
        since = none t line m.0 ∙ sym (append-nil (((plants.view x.plant).world x.since).taken line m.0));
        rest = [];
        is =
            let place = reader_place m line in
            let less = subst (λ (k : ℕ). place < k) (sym many) (place_within m line x.base.config.members seat.0 few inside) in
            slice_get-get_or rs place (Some []) less ∙ ap (λ (reader : Option (List ℕ)). Some reader) (new place (Some []) less);
        goes_on = λ more. refl;
      };
}
