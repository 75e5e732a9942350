use Rattle.duplex_pair.proofs.pair.Pair.put_half.Goals as goal

pub returns-in-Ckpt1-clause-held : goal.returns-in-Ckpt1-clause-held
returns-in-Ckpt1-clause-held g c = rw c.in-Ckpt1.is (rw c.args.self.now.first_dev at c.put.ensures.held)

pub returns-in-Ckpt2-clause-held : goal.returns-in-Ckpt2-clause-held
returns-in-Ckpt2-clause-held g c = rw c.in-Ckpt2.is (rw c.args.self.now.second_dev at c.put-in-Ckpt2.ensures.held)
