use Rattle.std.proofs.Common.{◌≡◌, ℕ, ◌-◌, ◌<◌, ◌&&◌, ◌++◌, length, drop}
use Rattle.mas_types.specs.Limits.{page_bytes}
use Rattle.ckpt_tables.specs.Pages.{page_of}
use Rattle.ckpt_tables.specs.Shape.{differing, differing_from, page_count}
use Rattle.mas_complex.specs.Fits.{are_same}
use Rattle.member_node.proofs.RedrawLemmas.{spelled_from}
use Rattle.member_node.proofs.checkpoint.draft_of.Given as goal

abbrev pub invariant-loop-number : goal.invariant-loop-number
invariant-loop-number l =
    (l.numbers ++ differing_from l.number (drop l.number l.pages) (spelled_from l.tables l.levels l.number (page_count l.tables.config - l.number)) ≡ differing l.pages (spelled_from l.tables l.levels 0 (page_count l.tables.config)))
    × ((l.same && are_same (drop l.number l.pages) (spelled_from l.tables l.levels l.number (page_count l.tables.config - l.number))) ≡ are_same l.pages (spelled_from l.tables l.levels 0 (page_count l.tables.config)))
    × ((p : ℕ) → p < l.number → length (page_of l.tables l.levels p) ≡ page_bytes)
