use Rattle.std.proofs.Common.{refl}
use Rattle.ckpt_pages.proofs.SlotPageLemmas.{bad_jobs}
use Rattle.ckpt_pages.proofs.TestingLemmas.{outputs_bad, owners_bad, slots_there}
use Rattle.ckpt_pages.proofs.testing.first_bad_slot.Goals as goal

pub returns-in-Some-clause-bad : goal.returns-in-Some-clause-bad
returns-in-Some-clause-bad c = bad_jobs c.args.header.now c.args.pages.now c.in-Some.bad c.requires c.in-Some.ensures.bad

pub returns-in-Some-first_bad_of-clause-bad : goal.returns-in-Some-first_bad_of-clause-bad
returns-in-Some-first_bad_of-clause-bad c = outputs_bad c.args.header.now c.args.pages.now c.in-Some-first_bad_of.bad c.requires (c.in_default.ensures.good refl) c.in-Some-first_bad_of.ensures.bad

pub returns-clause-good : goal.returns-clause-good
returns-clause-good c h = slots_there c.args.header.now c.args.pages.now (c.in_default.ensures.good refl) (c.in_default-first_bad_of.ensures.good refl) (c.first_bad_of-3.ensures.good h)

pub returns-clause-bad : goal.returns-clause-bad
returns-clause-bad c =
    owners_bad c.args.header.now c.args.pages.now c.first_bad_of-3.result c.requires (c.in_default.ensures.good refl) (c.in_default-first_bad_of.ensures.good refl) c.first_bad_of-3.ensures.bad
