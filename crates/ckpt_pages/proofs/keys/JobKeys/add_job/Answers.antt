use Rattle.std.proofs.Common.{Some, ◌==◌, ◌&&◌, nat_eq, Bool, true, ap}
use Rattle.mas_types.specs.Ids.{same_number}
use Rattle.ckpt_pages.specs.Sound.{holds_one, has_outputs, has_deck}
use Rattle.ckpt_pages.proofs.KeyLemmas.{on_ok, and_true, more_with}
use Rattle.ckpt_pages.proofs.keys.JobKeys.add_job.Goals as goal

pub returns : goal.returns
returns c =
    let j = c.args.job.now in
    let n = j.number.0 in
    on_ok c.add-4.result (λ adds slots are. record {
      numbers = λ m. more_with (holds_one (λ i. same_number i.number m)) slots (Some j) nat_eq c.args.self.now.numbers c.add.new.set true n m.0 c.in_ok-add.ensures (and_true _) (are.numbers m);
      orders = λ o. more_with (holds_one (λ i. i.order == o)) slots (Some j) nat_eq c.args.self.now.orders c.add-2.new.set true j.order o c.in_ok-add-2.ensures (and_true _) (are.orders o);
      with_outputs = λ m. more_with (holds_one (has_outputs m)) slots (Some j) nat_eq c.args.self.now.with_outputs c.add-3.new.set c.may_have_outputs.result n m.0 c.in_ok-add-3.ensures
          (ap (λ (b : Bool). nat_eq n m.0 && b) c.may_have_outputs.ensures) (are.with_outputs m);
      past_input = λ m. more_with (holds_one (has_deck m)) slots (Some j) nat_eq c.args.self.now.past_input c.add-4.new.set c.is_past_input.result n m.0 adds
          (ap (λ (b : Bool). nat_eq n m.0 && b) c.is_past_input.ensures) (are.past_input m);
    }) c.add-4.ensures
