use Rattle.std.proofs.Common.{◌≡◌, true, List}
use Rattle.mas_types.specs.declared.ids.Page.{Page}
use Rattle.mas_complex.specs.Fits.{are_same}
use Rattle.member_node.specs.Redrawn.{IsSpelling}
use Rattle.member_node.proofs.DraftLemmas.{drawn_already, spelled_too, not_spelled}
use Rattle.member_node.proofs.checkpoint.redraw.Goals as goal

pub returns-in-Same-clause-drawn : goal.returns-in-Same-clause-drawn
returns-in-Same-clause-drawn c =
    let k = c.args.checkpoint.now in
    let d : (drawn : List Page) × IsSpelling c.args.checkpoint.now.tables c.args.checkpoint.now.levels drawn × (are_same c.args.checkpoint.now.pages drawn ≡ true) =
    rw c.in-Same.is at c.requires.draft in
    drawn_already k.tables k.level k.levels k.pages d.0 c.requires.spelling c.requires.leveled c.requires.sized d.1.spelled d.2

pub returns-in-Same-clause-same : goal.returns-in-Same-clause-same
returns-in-Same-clause-same c =
    let k = c.args.checkpoint.now in
    let d : (drawn : List Page) × IsSpelling c.args.checkpoint.now.tables c.args.checkpoint.now.levels drawn × (are_same c.args.checkpoint.now.pages drawn ≡ true) =
    rw c.in-Same.is at c.requires.draft in
    rw c.in-Same.is (spelled_too k.tables k.levels k.pages d.0 d.1.spelled d.2)

pub returns-in-Changed-clause-draft : goal.returns-in-Changed-clause-draft
returns-in-Changed-clause-draft c = rw c.in-Changed.is record {
  level = c.take_changes.ensures.level;
  numbers = rw c.as_slice.ensures at c.take_changes.ensures.changed;
  covered = rw c.as_slice.ensures at c.take_changes.ensures.covered;
  exact = rw c.as_slice.ensures at c.take_changes.ensures.exact;
  leveled = c.take_changes.ensures.leveled;
}

pub returns-in-Changed-clause-same : goal.returns-in-Changed-clause-same
returns-in-Changed-clause-same c =
    let k = c.args.checkpoint.now in
    let d = rw c.in-Changed.is at c.requires.draft in
    rw c.in-Changed.is (not_spelled k.tables k.levels k.pages d.drawn d.spelling.spelled d.differ)
