-- What is left behind what was read.
use Rattle.std.proofs.Common.{◌≡◌, sym, ℕ, List, ◌++◌, length, drop, refl, append_assoc}
use Rattle.std.proofs.lemmas.List.{drop_at}

pub left_behind : (bytes left all : List ℕ) (n : ℕ) → bytes ++ left ≡ all → length bytes ≡ n → left ≡ drop n all
left_behind bytes left all n whole e = rw (← whole) (sym (drop_at bytes left n e))

-- what is left after the bytes read so far and a further piece
pub left_behind_both : (bytes piece left between all : List ℕ) → bytes ++ between ≡ all → piece ++ left ≡ between → left ≡ drop (length (bytes ++ piece)) all
left_behind_both bytes piece left between all whole came =
    let both : (bytes ++ piece) ++ left ≡ all = rw (append_assoc, came) whole in
    left_behind (bytes ++ piece) left all (length (bytes ++ piece)) both refl
