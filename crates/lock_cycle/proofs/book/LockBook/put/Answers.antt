use Rattle.std.proofs.Common.{◌≡◌, ◌-◌, ◌<◌, length, take, min, ap, ◌∙◌, arith}
use Rattle.std.proofs.Math.Seq.{take-set-lt}
use Rattle.std.proofs.lemmas.List.{length-take}
use Rattle.lock_cycle.specs.Books.{Book, with_standing}
use Rattle.lock_cycle.proofs.book.LockBook.put.Goals as goal

pub returns : goal.returns
returns c =
    let b = c.self.inside in
    let room : length (take b.members b.standings) ≡ min b.members (length b.standings) = length-take b.members b.standings in
    let same : length (take b.members b.standings) ≡ length c.args.self.now.members = ap (λ (z : Book). length z.members) c.self.view_is in
    let within : c.args.of.0 - 1 < b.members = omega arith in
    ap (λ l. record { holder = b.holder; tick = b.tick; hold = b.hold; dormancy = b.dormancy; members = l }) (take-set-lt b.members b.standings (c.args.of.0 - 1) c.args.standing within)
    ∙ ap (λ (z : Book). with_standing z c.args.of c.args.standing) c.self.view_is
