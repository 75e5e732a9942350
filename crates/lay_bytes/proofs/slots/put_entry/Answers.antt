use Rattle.std.proofs.Common.{◌≡◌, ◌∙◌, ℕ, List, [], ◌∷◌, ◌++◌, length, ap, ap₂}
use Rattle.lay_bytes.proofs.Pieces.{put_at}
use Rattle.lay_bytes.proofs.SlotLemmas.{owner_written}
use Rattle.lay_bytes.proofs.slots.put_entry.Goals as goal

pub returns : goal.returns
returns c =
    let place : length c.to_be_bytes.result ≡ 2 = ap length c.to_be_bytes.ensures in
    let job : length c.to_be_bytes-2.result ≡ 4 = ap length c.to_be_bytes-2.ensures in
    owner_written c.args.kind c.args.who c.to_be_bytes.result c.to_be_bytes-2.result c.args.entry.now c.put-3.new.into c.requires place job
    (c.put-3.ensures ∙ ap (put_at 4 c.to_be_bytes-2.result) (c.put-2.ensures ∙ ap (put_at 2 c.to_be_bytes.result) c.put.ensures))
    ∙ ap₂ (λ (p j : List ℕ). (c.args.kind ∷ []) ++ (c.args.who ∷ []) ++ p ++ j) c.to_be_bytes.ensures c.to_be_bytes-2.ensures
