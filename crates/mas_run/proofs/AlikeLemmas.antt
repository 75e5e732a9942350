-- What a line leaves of pieces that are alike, one by one, up to where it was cut.
use Rattle.mas_run.proofs.Names.{ℕ, zero, suc, ◌≤◌, List, [], ◌∷◌, drop, length, take, Option, Some, None, arith, MemberId, whole_pieces, Cause, Cut, Halt, Piece, Play, Left, left_by, adds, adds_all, adds_first, adds_part, cut_left, none_left}

-- so many pieces are alike, and the one after them, if there is one
pub data Alike (E : Piece → Piece → Type 0) : ℕ → List Piece → List Piece → Type 0 where
  NoPieces : {n : ℕ} → Alike E n [] []
  LastPiece : (p q : Piece) (ps qs : List Piece) → E p q → Alike E zero (p ∷ ps) (q ∷ qs)
  MorePieces : {n : ℕ} (p q : Piece) (ps qs : List Piece) → E p q → Alike E n ps qs → Alike E (suc n) (p ∷ ps) (q ∷ qs)

pub alike_same : (E : Piece → Piece → Type 0) → ((p : Piece) → E p p) → (n : ℕ) (ps : List Piece) → Alike E n ps ps
alike_same E same n [] = NoPieces
alike_same E same zero (p ∷ ps) = LastPiece p p ps ps (same p)
alike_same E same (suc n) (p ∷ ps) = MorePieces p p ps ps (same p) (alike_same E same n ps)

-- what each of them leaves alike, whole or cut, the line does
module _ (by : MemberId) (play : Play) (E : Piece → Piece → Type 0) (R : Left → Left → Type 0) (one : (l m : Left) (p q : Piece) → R l m → E p q → R (adds by play.locked l p) (adds by play.locked m q))
    (part : (halt : Halt) (l m : Left) (p q : Piece) → R l m → E p q → R (adds_part by play.locked halt l p) (adds_part by play.locked halt m q)) (cuts : (why : Cause) (l m : Left) → R l m → R (cut_left by why l) (cut_left by why m)) where
  all_alike : {n : ℕ} {ps qs : List Piece} → Alike E n ps qs → length ps ≤ n → (l m : Left) → R l m → R (adds_all by play.locked l ps) (adds_all by play.locked m qs)
  all_alike NoPieces few l m is = is
  all_alike (LastPiece p q ps qs same) few l m is = absurd (omega (arith, few))
  all_alike (MorePieces p q ps qs same more) few l m is = all_alike more (omega (arith, few)) (adds by play.locked l p) (adds by play.locked m q) (one l m p q is same)

  first_alike : (halt : Halt) {n : ℕ} {ps qs : List Piece} → Alike E n ps qs → (l m : Left) → R l m
      → R (adds_first by play.locked halt (adds_all by play.locked l (take n ps)) (drop n ps)) (adds_first by play.locked halt (adds_all by play.locked m (take n qs)) (drop n qs))
  first_alike halt {n = zero} NoPieces l m is = is
  first_alike halt {n = suc n} NoPieces l m is = is
  first_alike halt (LastPiece p q ps qs same) l m is = part halt l m p q is same
  first_alike halt (MorePieces p q ps qs same more) l m is = first_alike halt more (adds by play.locked l p) (adds by play.locked m q) (one l m p q is same)

  pub left_alike : (cut : Option Cut) (qs : List Piece) (c d : ℕ) → Alike E (whole_pieces cut play.pieces) play.pieces qs → R (none_left by play.book c) (none_left by play.book d) → R (left_by by cut play c) (left_by by cut (record play { pieces = qs }) d)
  left_alike None qs c d alike is = all_alike alike (omega arith) (none_left by play.book c) (none_left by play.book d) is
  left_alike (Some cut) qs c d alike is = cuts cut.cause _ _ (first_alike cut.halt alike (none_left by play.book c) (none_left by play.book d) is)
