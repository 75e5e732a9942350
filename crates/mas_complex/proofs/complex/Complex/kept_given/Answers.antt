use Rattle.mas_complex.proofs.Answering.{∥∥₁_map₂, past_given}
use Rattle.mas_complex.proofs.complex.Complex.kept_given.Goals as goal

pub returns : goal.returns
returns g c = let s = c.args.self.now in record { given = λ told sound. ∥∥₁_map₂ (s.paper told sound) s.place (λ on has. past_given s.base s.placed s.journal.batches has on.given) }
