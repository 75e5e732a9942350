use Rattle.std.proofs.Common.{◌≡◌, ◌∙◌, List, length, refl, sym, ap}
use Rattle.mas_types.specs.declared.ids.Page.{Page}
use Rattle.ckpt_copy.specs.Pages.{bytes_of, level}
use Rattle.ckpt_pages.specs.Checkpoints.{IsCheckpoint}
use Rattle.member_node.specs.Reads.{MayGoOn}
use Rattle.member_node.proofs.AlikeLemmas.{behind_read, own_older}
use Rattle.member_node.proofs.FitLemmas.{low_fit}
use Rattle.member_node.proofs.ReadLemmas.{up_to}
use Rattle.member_node.proofs.member.Member.come_up.Goals as goal

pub bring_up-requires-clause-older : goal.bring_up-requires-clause-older
bring_up-requires-clause-older c =
    let s = c.args.self.now in
    rw c.as_slice-pages.ensures (own_older s.checkpoint s.room s.differ.pages c.requires.drawn c.requires.may.many c.requires.few s.mirrored)

pub bring_up-requires-clause-can : goal.bring_up-requires-clause-can
bring_up-requires-clause-can c = rw c.as_slice-pages.ensures c.requires.may.can

-- the index lags behind on the pages that differ
pub follow-requires-clause-shape : goal.follow-requires-clause-shape
follow-requires-clause-shape c = c.bring_up.ensures.spelled.fit.shape

pub follow-requires-clause-behind : goal.follow-requires-clause-behind
follow-requires-clause-behind c current =
    let s = c.args.self.now in
    let is : IsCheckpoint s.room c.bring_up.new.tables = rw c.as_slice-pages.ensures at c.bring_up.ensures.spelled in
    let older = own_older s.checkpoint s.room s.differ.pages c.requires.drawn c.requires.may.many c.requires.few s.mirrored in
    behind_read s.kept.index s.checkpoint s.room s.differ.pages c.bring_up.new.tables c.requires.drawn c.requires.may.many older is c.bring_up.ensures.config (s.indexed current)

pub take_levels-requires-clause-many : goal.take_levels-requires-clause-many
take_levels-requires-clause-many c =
    let drawn = c.requires.drawn in
    drawn.leveled.count ∙ sym drawn.spelled.count ∙ sym c.requires.may.many ∙ sym (ap (length {A = Page}) c.as_slice-pages.ensures)

pub take_levels-requires-clause-few : goal.take_levels-requires-clause-few
take_levels-requires-clause-few c = rw c.as_slice-pages.ensures c.requires.few

pub returns-clause-up : goal.returns-clause-up
returns-clause-up c =
    let s = c.args.self.now in
    let t = c.bring_up.new.tables in
    let is : IsCheckpoint s.room c.bring_up.new.tables = rw c.as_slice-pages.ensures at c.bring_up.ensures.spelled in
    let may : MayGoOn s.checkpoint.tables.config s.room c.bring_up.new.tables = record {
      same = c.bring_up.ensures.config;
      fit = low_fit c.bring_up.new.tables is.fit (c.bring_up.ensures.low (s.ordered c.requires.may.read));
      low_level = c.requires.may.low_level;
      low_order = rw (c.bring_up.ensures.order, c.as_slice-pages.ensures) c.requires.may.low_order;
    } in
    let swapped : c.replace.new.dest ≡ c.args.self.now.room = c.replace.ensures.after ∙ c.replace-read.ensures.value in
    up_to c.law_of_levels.ensures.given s.checkpoint.tables.config s.room t c.take_levels.new.levels is (rw c.as_slice-pages.ensures at c.law_of_page_sizes.ensures) (rw c.as_slice-pages.ensures at c.take_levels.ensures) may
    _ refl refl (c.pages_level-level.ensures ∙ ap (λ (ps : List Page). level (bytes_of ps)) c.as_slice-pages.ensures) swapped

-- what the room was is its own, and what was its own is the room
pub invariant_of-self-clause-mirrored : goal.invariant_of-self-clause-mirrored
invariant_of-self-clause-mirrored c =
    rw (c.replace.ensures.value, c.replace.ensures.after, c.replace-read.ensures.value) (λ q from few to1 to2 off. sym (c.args.self.now.mirrored q from few to2 to1 off))

pub invariant_of-self-clause-unchanged : goal.invariant_of-self-clause-unchanged
invariant_of-self-clause-unchanged c =
    let s = c.args.self.now in
    let t = c.bring_up.new.tables in
    let is : IsCheckpoint s.room c.bring_up.new.tables = rw c.as_slice-pages.ensures at c.bring_up.ensures.spelled in
    let may : MayGoOn s.checkpoint.tables.config s.room c.bring_up.new.tables = record {
      same = c.bring_up.ensures.config;
      fit = low_fit c.bring_up.new.tables is.fit (c.bring_up.ensures.low (s.ordered c.requires.may.read));
      low_level = c.requires.may.low_level;
      low_order = rw (c.bring_up.ensures.order, c.as_slice-pages.ensures) c.requires.may.low_order;
    } in
    let up = up_to c.law_of_levels.ensures.given s.checkpoint.tables.config s.room t c.take_levels.new.levels is (rw c.as_slice-pages.ensures at c.law_of_page_sizes.ensures) (rw c.as_slice-pages.ensures at c.take_levels.ensures) may
    (record { tables = t; level = level (bytes_of s.room); levels = c.take_levels.new.levels; pages = s.room }) refl refl refl refl in
    rw (c.replace.ensures.after, c.replace-read.ensures.value) (λ p lt off. up.drawn.spelled.each p lt)

pub invariant_of-self-clause-ordered : goal.invariant_of-self-clause-ordered
invariant_of-self-clause-ordered c read = c.bring_up.ensures.low (c.args.self.now.ordered c.requires.may.read)

pub invariant_of-self-clause-indexed : goal.invariant_of-self-clause-indexed
invariant_of-self-clause-indexed c = c.follow.ensures
