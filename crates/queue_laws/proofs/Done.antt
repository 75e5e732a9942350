-- Laws of the combinator that all rows share.
use Rattle.std.proofs.Common.{◌≡◌, Bool, true, false, List, ◌∷◌, Option, Some, None, refl}
use Rattle.mas_types.specs.declared.queues.Queue.{Queue}
use Rattle.mas_types.specs.declared.commands.Refusal.{Refusal}
use Rattle.mas_types.specs.declared.commands.Reply.TheVariants as reply
use Rattle.mas_types.specs.Lists.{first_some}
use Rattle.mas_types.specs.Row.{Row, settled, done, refused_where}
use Rattle.queue_laws.specs.Laws.{is_refusal}

-- a row that is refused changes nothing
pub done-refused : (Q : Queue) (row : Row) (why : Refusal) → first_some row.refusals ≡ Some why → done Q row ≡ (Q, reply.No why)
done-refused Q row why h = rw h refl

-- a row that isn't refused has its effect
pub done-effect : (Q : Queue) (row : Row) → first_some row.refusals ≡ None → done Q row ≡ (row.effect, row.answer)
done-effect Q row h = rw h refl

-- what holds of the queue, and of the effect where no refusal comes, holds of what the row leaves
pub done_keeps : (Q : Queue) (row : Row) (P : Queue → Type 0) → P Q → (first_some row.refusals ≡ None → P row.effect) → P (done Q row).0
done_keeps Q row P old new =
    elim (first_some row.refusals) as (λ o. first_some row.refusals ≡ o → P (settled Q row.effect row.answer o).0) [
      | None ↦ λ e. new e
      | Some why ↦ λ e. old
    ] refl

-- no refusal comes: the first does not, and none of the others
pub none_first : {A : Type 0} (o : Option A) (os : List (Option A)) → first_some (o ∷ os) ≡ None → (o ≡ None) × (first_some os ≡ None)
none_first None os h = (refl, h)
none_first (Some x) os h = absurd (cc)

-- a condition that does not hold
pub where_not : (b : Bool) (why : Refusal) → refused_where b why ≡ None → b ≡ false
where_not true why h = absurd (cc)
where_not false why h = refl

-- where the reply is no refusal, no refusal came
pub not_refused : (Q : Queue) (row : Row) → is_refusal (done Q row).1 ≡ false → first_some row.refusals ≡ None
not_refused Q row h = go (first_some row.refusals) h
  where
    go : (o : Option Refusal) → is_refusal (settled Q row.effect row.answer o).1 ≡ false → o ≡ None
    go None h = refl
    go (Some why) h = absurd (cc)
