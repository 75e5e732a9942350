use Rattle.std.proofs.Common.{◌≡◌, ◌∙◌, length}
use Rattle.std.proofs.lemmas.List.{length-map}
use Rattle.std.proofs.lemmas.List.Elements.{All-weaker, All-map}
use Rattle.mas_types.specs.Limits.{page_bytes}
use Rattle.mas_types.specs.Records.{HoldsRecords}
use Rattle.spool_text.specs.Texts.{grouped, group_bytes}
use Rattle.spool_text.proofs.Grouping.{length-grouped_after, lines-grouped_after}
use Rattle.spool_text.proofs.Sizes.{fit-grouped, each-grouped, holds_own, length-group_bytes, FitsPage, AreOfRecords}
use Rattle.spool_text.proofs.laws.law_of_groups.Goals as goal

pub returns : goal.returns
returns c = record {
  lines = λ lines. lines-grouped_after 0 lines;
  count = λ lines. length-map (grouped lines) group_bytes ∙ length-grouped_after 0 lines;
  pages = λ lines are. All-map (λ bytes. length bytes ≡ page_bytes) group_bytes (grouped lines) (All-weaker FitsPage (λ group. length (group_bytes group) ≡ page_bytes) length-group_bytes (grouped lines) (fit-grouped lines are));
  held = λ lines are. All-weaker AreOfRecords (λ group. HoldsRecords (group_bytes group) group) holds_own (grouped lines) (each-grouped lines are);
}
