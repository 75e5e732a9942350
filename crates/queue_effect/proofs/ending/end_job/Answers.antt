use Rattle.std.proofs.Common.{◌≡◌, ◌<◌, ◌≤◌, true, false, length, sym, ◌∙◌, arith}
use Rattle.std.specs.Prelude.{nat_lt}
use Rattle.std.proofs.lemmas.Bool.Decides.{nat_tests}
use Rattle.lay_bytes.specs.Used.{used}
use Rattle.ckpt_pages.proofs.SlotLists.{few_used}
use Rattle.mas_types.specs.Owners.{member_count}
use Rattle.mas_types.specs.Commands.Life.{groups_of_outputs}
use Rattle.queue_effect.proofs.EndLemmas.{end_refused, ends_cancelled, ends_full, ends_lacking, ends, full_told, lacks_told}
use Rattle.queue_effect.proofs.ending.end_job.Goals as goal

pub returns-in-Err-clause-plays : goal.returns-in-Err-clause-plays
returns-in-Err-clause-plays c = λ Q stands.
    end_refused c.args.tables.now Q c.args.by c.args.job c.args.outputs.now stands c.in-Err.why (c.in-Err.ensures.refused Q stands)

pub end_with-requires-clause-slots : goal.end_with-requires-clause-slots
end_with-requires-clause-slots c =
    let few : length (used c.args.tables.now.outputs) ≤ length c.args.tables.now.outputs = few_used c.args.tables.now.outputs in
    omega arith

pub returns-then-found-clause-plays : goal.returns-then-found-clause-plays
returns-then-found-clause-plays c = λ Q stands.
    let has = c.in-Ok.ensures.some Q stands in
    ends_cancelled c.args.tables.now Q c.args.by c.args.job c.args.outputs.now stands c.end_with.new.tables c.in-Ok.found.at c.in-Ok.found.item has (c.in-Ok.ensures.allowed Q stands) c.if-found.true (c.end_with.ensures.stands Q stands has)

pub returns-then-are_outputs_full-clause-plays : goal.returns-then-are_outputs_full-clause-plays
returns-then-are_outputs_full-clause-plays c = λ Q stands.
    let has = c.in-Ok.ensures.some Q stands in
    let full = rw c.len.ensures at (sym c.are_outputs_full.ensures.value ∙ c.if-are_outputs_full.true) in
    ends_full c.args.tables.now Q c.args.by c.args.job c.args.outputs.now stands c.args.tables.now c.in-Ok.found.at c.in-Ok.found.item has (c.in-Ok.ensures.allowed Q stands) c.if-found.false
    (full_told c.args.tables.now Q c.args.outputs.now stands ∙ full)

pub returns-then-member_count-groups_of-clause-plays : goal.returns-then-member_count-groups_of-clause-plays
returns-then-member_count-groups_of-clause-plays c = λ Q stands.
    let has = c.in-Ok.ensures.some Q stands in
    let full = rw c.len.ensures at (sym c.are_outputs_full.ensures.value ∙ c.if-are_outputs_full.false) in
    let few : member_count c.args.by c.args.tables.now.owners < groups_of_outputs c.args.outputs.now =
    rw (c.as_slice.ensures, c.as_slice-2.ensures) at (rw (c.member_count.ensures, c.groups_of.ensures) at c.if-member_count-groups_of.true) in
    let lacks : nat_lt (member_count c.args.by c.args.tables.now.owners) (groups_of_outputs c.args.outputs.now) ≡ true = grind (arith, nat_tests) in
    ends_lacking c.args.tables.now Q c.args.by c.args.job c.args.outputs.now stands c.args.tables.now c.in-Ok.found.at c.in-Ok.found.item has (c.in-Ok.ensures.allowed Q stands) c.if-found.false
    (full_told c.args.tables.now Q c.args.outputs.now stands ∙ full) (lacks_told c.args.tables.now Q c.args.by c.args.outputs.now stands ∙ lacks)

pub returns-clause-plays : goal.returns-clause-plays
returns-clause-plays c = λ Q stands.
    let has = c.in-Ok.ensures.some Q stands in
    let full = rw c.len.ensures at (sym c.are_outputs_full.ensures.value ∙ c.if-are_outputs_full.false) in
    let many : groups_of_outputs c.args.outputs.now ≤ member_count c.args.by c.args.tables.now.owners =
    rw (c.as_slice.ensures, c.as_slice-2.ensures) at (rw (c.member_count.ensures, c.groups_of.ensures) at c.if-member_count-groups_of.false) in
    let enough : nat_lt (member_count c.args.by c.args.tables.now.owners) (groups_of_outputs c.args.outputs.now) ≡ false = grind (arith, nat_tests) in
    let after = rw c.as_slice-3.ensures at (c.end_with-2.ensures.stands Q stands has) in
    rw c.len-2.ensures
    (ends c.args.tables.now Q c.args.by c.args.job c.args.outputs.now stands c.end_with-2.new.tables c.in-Ok.found.at c.in-Ok.found.item has (c.in-Ok.ensures.allowed Q stands) c.if-found.false
    (full_told c.args.tables.now Q c.args.outputs.now stands ∙ full) (lacks_told c.args.tables.now Q c.args.by c.args.outputs.now stands ∙ enough) after)
