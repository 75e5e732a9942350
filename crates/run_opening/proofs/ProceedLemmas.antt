-- What holds after any number of acts holds over two spans of them.
use Rattle.std.proofs.Common.{refl, ◌∙◌, arith}
use Rattle.spool_plant.specs.Acts.{Goes}
use Rattle.spool_plant.specs.View.{View}
use Rattle.run_opening.specs.Lines.{Proceeds}

-- VIEWS

pub proceeds_none : (v : View) → Proceeds v v
proceeds_none v = record {
  later = omega arith;
  past = λ t le. refl;
  size = λ d. refl;
  faults = λ p. omega arith;
  stops = λ m. omega arith;
  lost = λ p other is. is;
}

pub proceeds_on : (old mid new : View) → Proceeds old mid → Proceeds mid new → Proceeds old new
proceeds_on old mid new first more = record {
  later = omega (arith, first.later, more.later);
  past = λ t le. more.past t (omega (arith, first.later, le)) ∙ first.past t le;
  size = λ d. more.size d ∙ first.size d;
  faults = λ p. omega (arith, first.faults p, more.faults p);
  stops = λ m. omega (arith, first.stops m, more.stops m);
  lost = λ p other is. more.lost p other (first.lost p other is);
}

pub proceeds_of : (old new : View) → Goes old new → Proceeds old new
proceeds_of old new goes = record {
  later = goes.later;
  past = goes.past;
  size = goes.size;
  faults = goes.faults;
  stops = goes.stops;
  lost = λ p other is. goes.lost p is;
}
