use Rattle.std.proofs.Common.{◌≡◌, ◌∙◌, ◌+◌, ℕ, [], List, Option, None, Some, length, take, drop, ap, sym, subst, arith}
use Rattle.std.proofs.lemmas.List.{take_more, take_all}
use Rattle.lay_bytes.specs.declared.records.OutRec.{OutRec}
use Rattle.ckpt_pages.specs.Keys.{AreOutputKeys}
use Rattle.ckpt_pages.specs.Sound.{first_wrong, is_wrong_output_slot}
use Rattle.ckpt_pages.proofs.KeyLemmas.{wrong_output_slot, step_on, stop_here, none_wrong}
use Rattle.ckpt_pages.proofs.indexed.first_wrong_output.Goals as goal

pub loop-i-init : goal.loop-i-init
loop-i-init c =
    let t = c.args.tables.now in
    let e : length t.jobs + 0 ≡ length t.jobs = omega arith in
    record { first = ap (λ (n : ℕ). first_wrong (is_wrong_output_slot t) [] n c.as_slice-slots.result.now) e; keys = c.requires.empty }

pub loop-i-preserved : goal.loop-i-preserved
loop-i-preserved c =
    let t = c.args.tables.now in
    let slots = c.as_slice-slots.result.now in
    let i = c.loop-i.i in
    let inv = c.loop-i.invariant in
    let same = wrong_output_slot t c.args.groups.now c.requires.groups c.args.jobs.now c.loop-i.outputs (take i slots) _ c.requires.jobs inv.keys in
    let e : length t.jobs + i + 1 ≡ length t.jobs + (i + 1) = omega arith in
    record {
      first = subst (λ (n : ℕ). first_wrong (is_wrong_output_slot t) (take (i + 1) slots) n (drop (i + 1) slots) ≡ first_wrong (is_wrong_output_slot t) [] (length t.jobs) slots) e
          (step_on (is_wrong_output_slot t) slots i (length t.jobs + i) _ _ c.loop-i-test.true inv.first (sym same ∙ sym c.is_wrong_output_slot.ensures ∙ c.if-is_wrong_output_slot.false));
      keys = subst (λ (ss : List (Option OutRec)). AreOutputKeys c.add.new.self ss) (sym (take_more slots i _ c.loop-i-test.true)) (c.in_ok-add.ensures (take i slots) inv.keys);
    }

pub returns-then-is_wrong_output_slot-clause-first : goal.returns-then-is_wrong_output_slot-clause-first
returns-then-is_wrong_output_slot-clause-first c =
    let t = c.args.tables.now in
    let slots = c.as_slice-slots.result.now in
    let i = c.loop-i.i in
    let inv = c.loop-i.invariant in
    let same = wrong_output_slot t c.args.groups.now c.requires.groups c.args.jobs.now c.loop-i.outputs (take i slots) _ c.requires.jobs inv.keys in
    let first = c.len-first.ensures in
    subst (λ (n : ℕ). Some (n + i) ≡ first_wrong (is_wrong_output_slot t) [] (length t.jobs) t.outputs) (sym first)
    (subst (λ (ss : List (Option OutRec)). Some (length t.jobs + i) ≡ first_wrong (is_wrong_output_slot t) [] (length t.jobs) ss) c.as_slice-slots.ensures
    (stop_here (is_wrong_output_slot t) slots i (length t.jobs + i) _ _ c.loop-i-test.true inv.first (sym same ∙ sym c.is_wrong_output_slot.ensures ∙ c.if-is_wrong_output_slot.true)))

pub returns-clause-first : goal.returns-clause-first
returns-clause-first c =
    let t = c.args.tables.now in
    let slots = c.as_slice-slots.result.now in
    subst (λ (ss : List (Option OutRec)). None ≡ first_wrong (is_wrong_output_slot t) [] (length t.jobs) ss) c.as_slice-slots.ensures
    (none_wrong (is_wrong_output_slot t) slots c.loop-i.i (length t.jobs + c.loop-i.i) _ c.loop-i-test.false c.loop-i.invariant.first)

pub returns-clause-keys : goal.returns-clause-keys
returns-clause-keys c none =
    let slots = c.as_slice-slots.result.now in
    subst (λ (ss : List (Option OutRec)). AreOutputKeys c.loop-i.outputs ss) (take_all c.loop-i.i slots c.loop-i-test.false ∙ c.as_slice-slots.ensures) c.loop-i.invariant.keys
