-- A part of a list that was written anew.
use Rattle.std.proofs.Common.{◌≡◌, ◌≢◌, ◌⊎◌, ⊎_elim, ℕ, ◌+◌, ◌-◌, ◌*◌, ◌≤◌, ◌<◌, List, [], ◌++◌, length, take, drop, sym, ap, ◌∙◌, append_assoc, All, arith}
use Rattle.std.proofs.lemmas.Bool.{cases_lt}
use Rattle.std.proofs.lemmas.List.{append-nil, drop_all, drop_at, drop-append-le, drop-drop, length-append, length-drop, length-take, take_all, take_at, take-append-drop, take-append-le}
use Rattle.std.proofs.lemmas.List.Elements.{All-append, All-drop, All-take}
use Rattle.ckpt_tables.specs.Pages.{part}
use Rattle.ckpt_pages.proofs.EntryLemmas.{room_below}

-- what stands after a first part of n items
behind : {X : Type 0} (head rest : List X) (n at : ℕ) → length head ≡ n → drop (n + at) (head ++ rest) ≡ drop at rest
behind head rest n at e = sym (drop-drop at n (head ++ rest)) ∙ ap (drop at) (drop_at head rest n e)

module _ {X : Type 0} (xs ys : List X) where
  pub put_length : (n c : ℕ) → n + c ≤ length xs → length ys ≡ c → length (take n xs ++ (ys ++ drop (n + c) xs)) ≡ length xs
  put_length n c room len = omega (
    arith,
    length-append (take n xs) (ys ++ drop (n + c) xs),
    length-append ys (drop (n + c) xs),
    length-take n xs,
    length-drop (n + c) xs,
    room,
    len,
  )

  pub all_put : (P : X → Type 0) (n c : ℕ) → All P xs → All P ys → All P (take n xs ++ (ys ++ drop (n + c) xs))
  all_put P n c old new = All-append P (take n xs) (ys ++ drop (n + c) xs) (All-take P n xs old) (All-append P ys (drop (n + c) xs) new (All-drop P (n + c) xs old))

  -- the part is what was written
  pub part_put : (a k c : ℕ) → a * k + c ≤ length xs → length ys ≡ c → c ≤ a → (c ≡ a) ⊎ (length xs ≡ a * k + c) → part a k (take (a * k) xs ++ (ys ++ drop (a * k + c) xs)) ≡ ys
  part_put a k c room len few whole =
      ap (take a) (drop_at (take (a * k) xs) (ys ++ drop (a * k + c) xs) (a * k) (omega (arith, length-take (a * k) xs, room))) ∙ ⊎_elim
      (λ full. take_at ys (drop (a * k + c) xs) a (len ∙ full))
      (λ last. let none : drop (a * k + c) xs ≡ [] = drop_all (a * k + c) xs (omega (arith, last)) in
      ap (λ (zs : List X). take a (ys ++ zs)) none ∙ ap (take a) (append-nil ys) ∙ take_all a ys (omega (arith, len, few)))
      whole

  -- a part before it
  before : (a q n : ℕ) (rest : List X) → a * q + a ≤ n → n ≤ length xs → part a q (take n xs ++ rest) ≡ part a q (take n xs)
  before a q n rest room inside =
      ap (take a) (drop-append-le (a * q) (take n xs) rest (omega (arith, length-take n xs, room, inside)))
      ∙ take-append-le a (drop (a * q) (take n xs)) rest (omega (arith, length-drop (a * q) (take n xs), length-take n xs, room, inside))

  -- any other part stays
  pub part_stays : (a k q c : ℕ) → a * k + c ≤ length xs → length ys ≡ c → c ≤ a → q ≢ k → part a q (take (a * k) xs ++ (ys ++ drop (a * k + c) xs)) ≡ part a q xs
  part_stays a k q c room len few other = ⊎_elim
      (λ lt. let gap = room_below a q k lt in let inside : a * k ≤ length xs = omega (arith, room) in
      before a q (a * k) (ys ++ drop (a * k + c) xs) gap inside
      ∙ sym (before a q (a * k) (drop (a * k) xs) gap inside) ∙ ap (part a q) (take-append-drop (a * k) xs))
      (λ ge. let lt : k < q = omega (arith, ge, other) in
      let gap = room_below a k q lt in
      let e : a * q ≡ a * k + c + (a * q - (a * k + c)) = omega (arith, gap, few) in
      let whole : length (take (a * k) xs ++ ys) ≡ a * k + c = omega (arith, length-append (take (a * k) xs) ys, length-take (a * k) xs, len, room) in
      ap (λ (n : ℕ). take a (drop n (take (a * k) xs ++ (ys ++ drop (a * k + c) xs)))) e
      ∙ ap (λ (zs : List X). take a (drop (a * k + c + (a * q - (a * k + c))) zs)) (sym (append_assoc (take (a * k) xs) ys (drop (a * k + c) xs)))
      ∙ ap (take a) (behind (take (a * k) xs ++ ys) (drop (a * k + c) xs) (a * k + c) (a * q - (a * k + c)) whole)
      ∙ ap (take a) (drop-drop (a * q - (a * k + c)) (a * k + c) xs)
      ∙ ap (λ (n : ℕ). take a (drop n xs)) (sym e))
      (cases_lt q k)
