-- What bytes that come on a wire change.
use Rattle.std.specs.Prelude.{◌≡◌, ◌≢◌, ℕ, List, ◌++◌}
use Rattle.spool_plant.specs.View.{View}

-- more bytes wait on a wire, and nothing else has changed
pub record CameIn (wire : ℕ) (bytes : List ℕ) (old new : View) : Type 0 where
  pub here : new.waiting wire ≡ old.waiting wire ++ bytes
  pub others : (w : ℕ) → w ≢ wire → new.waiting w ≡ old.waiting w
  pub same : new ≡ record old { waiting = new.waiting }
