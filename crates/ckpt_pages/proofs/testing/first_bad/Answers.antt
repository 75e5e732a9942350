use Rattle.std.proofs.Common.{◌∙◌, sym, [], arith}
use Rattle.ckpt_pages.proofs.RunLemmas.{page_at}
use Rattle.ckpt_pages.proofs.DecodingLemmas.{bad_1}
use Rattle.ckpt_pages.proofs.TestingLemmas.{front_there, nodes_bad, slot_bad, all_there}
use Rattle.ckpt_pages.proofs.testing.first_bad.Goals as goal

pub returns-then-not-are_entries-clause-bad : goal.returns-then-not-are_entries-clause-bad
returns-then-not-are_entries-clause-bad c =
    let is = c.in-Some.ensures.found in
    let one = page_at c.args.pages.now 1 (record { 0 = [] }) (omega (arith, is.count)) ∙ sym c.bytes_in.ensures.bytes in
    bad_1 c.in-Some.header c.args.pages.now c.bytes_in.result.now is one (c.are_entries.ensures.bad c.if-not-are_entries.true)

pub returns-then-not-are_nodes-clause-bad : goal.returns-then-not-are_nodes-clause-bad
returns-then-not-are_nodes-clause-bad c =
    let is = c.in-Some.ensures.found in
    let one = page_at c.args.pages.now 1 (record { 0 = [] }) (omega (arith, is.count)) ∙ sym c.bytes_in.ensures.bytes in
    let two = page_at c.args.pages.now 2 (record { 0 = [] }) (omega (arith, is.count)) ∙ sym c.bytes_in-2.ensures.bytes in
    nodes_bad c.in-Some.header c.args.pages.now c.bytes_in.result.now c.bytes_in-2.result.now is one c.bytes_in.ensures.size two (c.are_entries.ensures.good c.if-not-are_entries.false) (c.are_nodes.ensures.bad c.if-not-are_nodes.true)

pub returns-clause-good : goal.returns-clause-good
returns-clause-good c h =
    let is = c.in-Some.ensures.found in
    let one = page_at c.args.pages.now 1 (record { 0 = [] }) (omega (arith, is.count)) ∙ sym c.bytes_in.ensures.bytes in
    let two = page_at c.args.pages.now 2 (record { 0 = [] }) (omega (arith, is.count)) ∙ sym c.bytes_in-2.ensures.bytes in
    let front = front_there c.in-Some.header c.args.pages.now c.bytes_in.result.now c.bytes_in-2.result.now one c.bytes_in.ensures.size two (c.are_entries.ensures.good c.if-not-are_entries.false) (c.are_nodes.ensures.good c.if-not-are_nodes.false) in
    all_there c.in-Some.header c.args.pages.now is front (c.first_bad_slot.ensures.good h)

pub returns-clause-bad : goal.returns-clause-bad
returns-clause-bad c =
    let is = c.in-Some.ensures.found in
    let one = page_at c.args.pages.now 1 (record { 0 = [] }) (omega (arith, is.count)) ∙ sym c.bytes_in.ensures.bytes in
    let two = page_at c.args.pages.now 2 (record { 0 = [] }) (omega (arith, is.count)) ∙ sym c.bytes_in-2.ensures.bytes in
    let front = front_there c.in-Some.header c.args.pages.now c.bytes_in.result.now c.bytes_in-2.result.now one c.bytes_in.ensures.size two (c.are_entries.ensures.good c.if-not-are_entries.false) (c.are_nodes.ensures.good c.if-not-are_nodes.false) in
    slot_bad c.in-Some.header c.args.pages.now c.first_bad_slot.result front c.first_bad_slot.ensures.bad
