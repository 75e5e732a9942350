-- Causes of calls, one after another.
use Rattle.std.proofs.Common.{◌≡◌, inr, ℕ, ◌≤◌, Result, Err, refl, sym, ◌∙◌, ap, subst, arith}
use Rattle.mas_types.specs.declared.ids.Dev.{Dev}
use Rattle.spool_plant.specs.declared.plant.Part.TheVariants.{Disk as DiskPart}
use Rattle.spool_plant.specs.declared.plant.Act.{Act}
use Rattle.spool_plant.specs.declared.plant.Act.TheVariants.{Done}
use Rattle.spool_plant.specs.View.{View}
use Rattle.spool_plant.specs.Acts.{Rose}
use Rattle.ckpt_copy.specs.declared.copying.FindNo.{FindNo}
use Rattle.ckpt_copy.specs.Causes.{Caused, answer_found}
use Rattle.ckpt_copy.specs.Moments.{goes_on, goes_none}

rose_later : (first mid last : ℕ) → first ≤ mid → Rose mid last → Rose first last
rose_later first mid last le rose = omega (arith, le, rose)

-- a call that was done, and then one with this answer
pub caused_then : (by : ℕ) (dev : Dev) (old mid new : View) (answer : Act) → Caused by dev old mid Done → Caused by dev mid new answer → Caused by dev old new answer
caused_then by dev old mid new answer first then = record {
  goes = goes_on old mid new first.goes then.goes;
  failed = λ is. rose_later _ _ _ (first.goes.faults (DiskPart dev)) (then.failed is);
  is_lost = then.is_lost;
  else_lost = λ p else. then.else_lost p else ∙ first.else_lost p (inr (λ is. cc));
  else_faults = λ p else. then.else_faults p else ∙ first.else_faults p (inr (λ is. cc));
  halted = λ is. rose_later _ _ _ (first.goes.stops by) (then.halted is);
  not_operator = then.not_operator;
  no_other_stop = λ m else. then.no_other_stop m else ∙ first.no_other_stop m (inr (λ is. cc));
  at_halt = then.at_halt;
  loses = λ d. then.loses d ∙ first.loses d;
  arms = λ m. then.arms m ∙ first.arms m;
}

pub caused_none : (by : ℕ) (dev : Dev) (v : View) → Caused by dev v v Done
caused_none by dev v = record {
  goes = goes_none v;
  failed = λ is. absurd (cc);
  is_lost = λ is. absurd (cc);
  else_lost = λ p else. refl;
  else_faults = λ p else. refl;
  halted = λ is. absurd (cc);
  not_operator = λ is. absurd (cc);
  no_other_stop = λ m else. refl;
  at_halt = λ is. absurd (cc);
  loses = λ d. refl;
  arms = λ m. refl;
}

-- an error of a find that is handed on
pub answered_on : (T : Type 0) (by : ℕ) (dev : Dev) (old new : View) (result : Result T FindNo) (e f : FindNo) → result ≡ Err e → e ≡ f → Caused by dev old new (answer_found {T = T} (Err f)) → Caused by dev old new (answer_found result)
answered_on T by dev old new result e f is same so = rw (is, same) so
