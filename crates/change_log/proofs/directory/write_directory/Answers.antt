use Rattle.std.proofs.Common.{ap, ◌∙◌, ◌++◌, ◌+◌, ◌*◌, List, ℕ, length, replicate}
use Rattle.std.proofs.lemmas.List.{drop-replicate}
use Rattle.std.specs.Int.{w16, to_be_bytes}
use Rattle.mas_types.specs.Limits.{page_bytes}
use Rattle.change_log.specs.Directories.{word_bytes}
use Rattle.change_log.proofs.directory.write_directory.Goals as goal

pub returns : goal.returns
returns c =
    let numbers = c.args.numbers.now in
    c.put_directory.ensures
    ∙ ap (λ (l : List ℕ). to_be_bytes w16 (length numbers) ++ replicate 6 0 ++ c.args.level.now ++ word_bytes numbers ++ l) (drop-replicate (16 + 2 * length numbers) page_bytes 0)
