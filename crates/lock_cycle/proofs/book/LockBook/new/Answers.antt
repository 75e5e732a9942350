use Rattle.std.proofs.Common.{ap}
use Rattle.std.proofs.lemmas.List.{take-replicate}
use Rattle.lock_cycle.specs.Books.{Book, beginner}
use Rattle.mas_types.specs.Ids.{nobody}
use Rattle.mas_types.specs.Limits.{members_most}
use Rattle.lock_cycle.proofs.book.LockBook.new.Goals as goal

pub returns : goal.returns
returns c =
    ap (λ l. let b : Book = record { holder = nobody; tick = 0; hold = c.args.hold; dormancy = c.args.dormancy; members = l } in b)
    (take-replicate c.args.members members_most (beginner c.args.hold) c.requires)
