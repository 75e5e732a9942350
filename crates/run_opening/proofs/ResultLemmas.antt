-- What holds of what an answer has.
use Rattle.std.proofs.Common.{Result, Ok, Err, IfOk, IfErr}

pub if_ok : {T E : Type 0} {A B : T → Type 0} (r : Result T E) → ((x : T) → A x → B x) → IfOk r A → IfOk r B
if_ok (Ok x) on a = on x a
if_ok (Err why) on a = tt

pub if_err : {T E : Type 0} {A B : E → Type 0} (r : Result T E) → ((x : E) → A x → B x) → IfErr r A → IfErr r B
if_err (Ok x) on a = tt
if_err (Err why) on a = on why a
