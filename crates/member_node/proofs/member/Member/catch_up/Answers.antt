use Rattle.std.proofs.Common.{◌≡◌, ℕ, sym, refl, subst}
use Rattle.ckpt_copy.specs.Pages.{bytes_of, level}
use Rattle.ckpt_pages.specs.declared.entries.PageNo.{PageNo}
use Rattle.ckpt_pages.specs.declared.entries.PageNo.TheVariants.{BadPage, NoMemory}
use Rattle.ckpt_pages.specs.Checkpoints.{IsCheckpoint}
use Rattle.ckpt_pages.proofs.DecodingLemmas.{one_value}
use Rattle.member_node.specs.Reads.{MayGoOn}
use Rattle.member_node.proofs.EntryLemmas.{facts_same}
use Rattle.member_node.proofs.FitLemmas.{orders_low}
use Rattle.member_node.proofs.ReadLemmas.{up_to}
use Rattle.member_node.proofs.member.Member.catch_up.Goals as goal

not_bad : (e : PageNo) (p : ℕ) → e ≡ BadPage p → e ≡ NoMemory → ⊥
not_bad e p one two = cc

pub unreachable-requires : goal.unreachable-requires
unreachable-requires c =
    let some = c.requires.spelled c.if-not-self.false in
    let e = c.in-Err-BadPage in
    not_bad e.field-0 e.field-0-0 e.field-0-is (e.ensures.only some.0 (rw c.as_slice-pages.ensures some.1))

pub can_come_up-requires-clause-spelled : goal.can_come_up-requires-clause-spelled
can_come_up-requires-clause-spelled c = c.requires.spelled c.if-not-self.false

pub returns-then-not-may_go_on-clause-refused : goal.returns-then-not-may_go_on-clause-refused
returns-then-not-may_go_on-clause-refused c is_false = (
  facts_same c.args.self.now _ _ _ _,
  λ t is may.
      let s = c.args.self.now in
      let own : IsCheckpoint s.room c.in-Ok.tables = rw c.as_slice-pages.ensures at c.in-Ok.ensures.found in
      let theirs : MayGoOn s.checkpoint.tables.config s.room c.in-Ok.tables = subst (MayGoOn s.checkpoint.tables.config s.room) (sym (one_value s.room c.in-Ok.tables t own is)) may in
      c.may_go_on.ensures.not c.if-not-may_go_on.true (rw c.as_slice-pages.ensures theirs),
)

pub take_up-requires-clause-drawn : goal.take_up-requires-clause-drawn
take_up-requires-clause-drawn c =
    let s = c.args.self.now in
    (up_to c.law_of_levels.ensures.given s.checkpoint.tables.config s.room c.in-Ok.tables c.in_ok-levels.levels (rw c.as_slice-pages.ensures at c.in-Ok.ensures.found)
    (rw c.as_slice-pages.ensures at c.law_of_page_sizes.ensures) (rw c.as_slice.ensures at c.in_ok-levels.ensures) (rw c.as_slice-pages.ensures at (c.may_go_on.ensures.may c.if-not-may_go_on.false))
    (record { tables = c.in-Ok.tables; level = level (bytes_of s.room); levels = c.in_ok-levels.levels; pages = s.room }) refl refl refl refl).drawn.spelled.each

pub take_up-requires-clause-shape : goal.take_up-requires-clause-shape
take_up-requires-clause-shape c = c.in-Ok.ensures.found.fit.shape

pub take_up-requires-clause-low : goal.take_up-requires-clause-low
take_up-requires-clause-low c = orders_low c.in-Ok.tables (c.may_go_on.ensures.may c.if-not-may_go_on.false).fit

pub returns-clause-up : goal.returns-clause-up
returns-clause-up c is behind =
    let s = c.args.self.now in
    let t = c.take_up.ensures in
    up_to c.law_of_levels.ensures.given s.checkpoint.tables.config s.room c.in-Ok.tables c.in_ok-levels.levels (rw c.as_slice-pages.ensures at c.in-Ok.ensures.found)
    (rw c.as_slice-pages.ensures at c.law_of_page_sizes.ensures) (rw c.as_slice.ensures at c.in_ok-levels.ensures) (rw c.as_slice-pages.ensures at (c.may_go_on.ensures.may c.if-not-may_go_on.false))
    c.take_up.new.self.checkpoint t.tables t.levels t.level t.pages
