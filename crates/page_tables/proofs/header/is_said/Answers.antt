use Rattle.std.proofs.Common.{List, ℕ, sym, ap, ◌∙◌}
use Rattle.lay_bytes.specs.Fields.{pieces}
use Rattle.ckpt_pages.specs.Fields.{header_fields, header_in}
use Rattle.ckpt_pages.specs.Headers.{config_of}
use Rattle.page_tables.proofs.header.is_said.Goals as goal

pub returns-clause-same : goal.returns-clause-same
returns-clause-same c is =
    sym (c.config_in-said.ensures ∙ ap (λ (head : List ℕ). config_of (header_in (pieces 0 header_fields head)) c.args.config.now.node) c.head_of.ensures.bytes) ∙ c.is_same.ensures.same is

pub returns-clause-other : goal.returns-clause-other
returns-clause-other c is said =
    c.is_same.ensures.apart is (c.config_in-said.ensures ∙ ap (λ (head : List ℕ). config_of (header_in (pieces 0 header_fields head)) c.args.config.now.node) c.head_of.ensures.bytes ∙ said)
