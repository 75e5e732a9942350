use Rattle.std.proofs.Common.{◌≡◌, [], ◌∷◌, ◌++◌, length}
use Rattle.std.proofs.lemmas.List.Elements.{All-push, All-same}
use Rattle.mas_types.specs.declared.ids.Page.{Page}
use Rattle.mas_types.specs.Limits.{page_bytes}
use Rattle.ckpt_pages.proofs.SpellingLemmas.{spelled_more}
use Rattle.ckpt_pages.proofs.encoding.encode.Goals as goal

pub loop-number-preserved : goal.loop-number-preserved
loop-number-preserved c = (
  spelled_more c.args.tables.now c.args.levels.now c.loop-number.number c.loop-number.pages c.push.new.self c.encode_page.new.into c.loop-number.invariant.0
      c.in_ok-push.ensures.ok c.encode_page.ensures.spelled,
  All-same (λ (page : Page). length page.0 ≡ page_bytes) c.push.new.self (c.loop-number.pages ++ c.encode_page.new.into ∷ []) c.in_ok-push.ensures.ok
      (All-push (λ (page : Page). length page.0 ≡ page_bytes) c.loop-number.pages c.encode_page.new.into c.loop-number.invariant.1 c.encode_page.ensures.sized),
)
