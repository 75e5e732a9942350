use Rattle.std.proofs.Common.{Some, ◌==◌, ◌&&◌, nat_eq, true}
use Rattle.mas_types.specs.Ids.{same_member, same_number, same_index}
use Rattle.ckpt_pages.specs.Keys.{same_print_key}
use Rattle.ckpt_pages.specs.Sound.{holds_one}
use Rattle.ckpt_pages.proofs.KeyLemmas.{on_ok, and_true, more_with}
use Rattle.ckpt_pages.proofs.keys.OutputKeys.add_output.Goals as goal

pub returns : goal.returns
returns c =
    let o = c.args.output.now in
    on_ok c.add-3.result (λ adds slots are. record {
      orders = λ r. more_with (holds_one (λ p. p.order == r)) slots (Some o) nat_eq c.args.self.now.orders c.add.new.set true o.order r c.in_ok-add.ensures (and_true _) (are.orders r);
      prints = λ n i. more_with (holds_one (λ p. same_number p.job n && same_index p.index i)) slots (Some o) same_print_key c.args.self.now.prints c.add-2.new.set true (o.job.0, o.index.0) (n.0, i.0) c.in_ok-add-2.ensures (and_true _) (are.prints n i);
      printers = λ m. more_with (holds_one (λ p. same_member p.busy m)) slots (Some o) nat_eq c.args.self.now.printers c.add-3.new.set true o.busy.0 m.0 adds (and_true _) (are.printers m);
    }) c.add-3.ensures
