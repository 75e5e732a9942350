use Rattle.std.proofs.Common.{[], ◌∷◌, refl}
use Rattle.nje_net.proofs.examples.example_of_paths.Goals as goal

pub returns-clause-paths : goal.returns-clause-paths
returns-clause-paths c = (
  (1 ∷ 2 ∷ [], (3, (record { way = (refl, (refl, (refl, (refl, (refl, (refl, refl)))))); different = (refl, (refl, tt)) }, (refl, refl)))),
  (
    (1 ∷ 2 ∷ [], (1, (record { way = (refl, (refl, (refl, (refl, (refl, (refl, refl)))))); different = (refl, (refl, tt)) }, (refl, refl)))),
    (1 ∷ [], (record { way = (refl, (refl, (refl, refl))); different = (refl, tt) }, (refl, (refl, refl)))),
  ),
)
