use Rattle.std.proofs.Common.{◌≡◌, length, All}
use Rattle.mas_types.specs.Limits.{page_bytes}
use Rattle.ckpt_pages.proofs.SpellingLemmas.{IsSpelledTo}
use Rattle.ckpt_pages.proofs.encoding.encode.Given as goal

abbrev pub invariant-loop-number : goal.invariant-loop-number
invariant-loop-number l = IsSpelledTo l.tables l.levels l.number l.pages × All (λ page. length page.0 ≡ page_bytes) l.pages
