use Rattle.lock_cycle.specs.Books.{new_book}
use Rattle.lock_cycle.proofs.Awake.{awake_new, awake_moved_by, awake_tries}
use Rattle.lock_cycle.proofs.laws.law_of_dormancy.Goals as goal

pub returns-clause-never : goal.returns-clause-never
returns-clause-never c = λ count hold calls m inner until. awake_tries _ m inner until (awake_moved_by (new_book count hold 0) calls (awake_new count hold))
