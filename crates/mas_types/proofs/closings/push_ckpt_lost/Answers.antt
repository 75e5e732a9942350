use Rattle.std.proofs.Common.{◌≡◌, ◌++◌, ◌∙◌, ap, subst, List, ℕ, OnOk, append_assoc}
use Rattle.mas_types.specs.Closings.{device_word}
use Rattle.mas_types.proofs.closings.push_ckpt_lost.Goals as goal

pub returns : goal.returns
returns c =
    subst (λ (l : List ℕ). OnOk c.push_device.result (c.push_device.new.line ≡ l)) (ap (λ (l : List ℕ). l ++ device_word c.args.copy) c.in_ok-push_text.ensures ∙ append_assoc c.args.line.now _ (device_word c.args.copy)) c.push_device.ensures
