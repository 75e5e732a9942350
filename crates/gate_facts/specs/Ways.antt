-- Two ways to tell of a value: without its content, and with it.
use Rattle.std.specs.Prelude.{Bool, true, false}

-- what is said of a value holds without its content, and with the content where that is told
pub record EachWay (tells : Type 0) (S : Bool → Type 0) : Type 0 where
  pub bare : S false
  pub told : tells → S true
