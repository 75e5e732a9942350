use Rattle.std.proofs.Common.{◌∙◌, sym, [], arith}
use Rattle.ckpt_pages.specs.declared.nodes.Nodes.{Nodes}
use Rattle.ckpt_pages.specs.Checkpoints.{IsLeastBad}
use Rattle.ckpt_pages.proofs.RunLemmas.{page_at}
use Rattle.ckpt_pages.proofs.SlotPageLemmas.{of_reader, err_is}
use Rattle.ckpt_pages.proofs.DecodingLemmas.{bad_1, bad_2, members_found, front_found}
use Rattle.ckpt_pages.proofs.decoding.read_front.Goals as goal

pub bounds-pages-1 : goal.bounds-pages-1
bounds-pages-1 c = omega (arith, c.requires.count)

pub bounds-pages-2 : goal.bounds-pages-2
bounds-pages-2 c = omega (arith, c.requires.count)

pub returns-in-Err-clause-bad : goal.returns-in-Err-clause-bad
returns-in-Err-clause-bad c =
    let here = page_at c.args.pages.now 1 (record { 0 = [] }) (omega (arith, c.requires.count)) ∙ sym c.bytes_in.ensures.bytes in
    rw c.at_page.ensures (of_reader (IsLeastBad c.args.pages.now) c.in-Err.why 1 (λ e. bad_1 c.args.header.now c.args.pages.now c.bytes_in.result.now c.requires here (c.in-Err.ensures.bad (err_is (Unit {0}) c.in-Err.why e))))

pub returns-in-Ok-read_nodes-clause-found : goal.returns-in-Ok-read_nodes-clause-found
returns-in-Ok-read_nodes-clause-found c =
    let one = page_at c.args.pages.now 1 (record { 0 = [] }) (omega (arith, c.requires.count)) ∙ sym c.bytes_in.ensures.bytes in
    let two = page_at c.args.pages.now 2 (record { 0 = [] }) (omega (arith, c.requires.count)) ∙ sym c.bytes_in-2.ensures.bytes in
    let read = rw c.new-members.ensures at c.in-Ok.ensures.ok in
    front_found c.args.header.now c.args.pages.now c.bytes_in-2.result.now c.read_entries.new.into c.in-Ok-read_nodes.nodes
    (members_found c.args.header.now c.args.pages.now c.bytes_in.result.now c.read_entries.new.into one c.bytes_in.ensures.size read) two c.in-Ok-read_nodes.ensures.found

pub returns-in-Err-read_nodes-clause-bad : goal.returns-in-Err-read_nodes-clause-bad
returns-in-Err-read_nodes-clause-bad c =
    let one = page_at c.args.pages.now 1 (record { 0 = [] }) (omega (arith, c.requires.count)) ∙ sym c.bytes_in.ensures.bytes in
    let two = page_at c.args.pages.now 2 (record { 0 = [] }) (omega (arith, c.requires.count)) ∙ sym c.bytes_in-2.ensures.bytes in
    let read = rw c.new-members.ensures at c.in-Ok.ensures.ok in
    let members = members_found c.args.header.now c.args.pages.now c.bytes_in.result.now c.read_entries.new.into one c.bytes_in.ensures.size read in
    rw c.at_page-in-Err-read_nodes.ensures (of_reader (IsLeastBad c.args.pages.now) c.in-Err-read_nodes.why 2
    (λ e. bad_2 c.args.header.now c.args.pages.now c.bytes_in-2.result.now c.read_entries.new.into c.requires members.fit members.page two (c.in-Err-read_nodes.ensures.bad (err_is Nodes c.in-Err-read_nodes.why e))))
