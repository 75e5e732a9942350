-- Bytes are cut into entries of one width, and are these joined.
use Rattle.std.proofs.Common.{◌≡◌, ℕ, zero, suc, ◌+◌, ◌-◌, ◌*◌, ◌≤◌, ◌<◌, Bool, true, false, List, [], ◌∷◌, ◌++◌, length, get_or, take, drop, map, replicate, refl, sym, ap, subst, ◌∙◌, append_assoc, All, add-one, Result, Err, arith}
use Rattle.std.specs.List.{concat}
use Rattle.std.proofs.Math.Nat.{mul-suc, mul-le-mul_left}
use Rattle.std.proofs.lemmas.List.{take_at, drop_at, take-append-drop, length-append, length-take, length-drop, drop-drop, append-nil, map_push, take-take, drop-take, length_push, take_all, ext_get_or}
use Rattle.std.proofs.lemmas.List.Elements.{All-push, All-get_or, All-head, All-tail, All-nil}
use Rattle.lay_bytes.specs.Bytes.{are_zeros}
use Rattle.lay_bytes.specs.Fields.{piece}
use Rattle.lay_bytes.proofs.SlotLemmas.{zeros_of}
use Rattle.ckpt_pages.specs.declared.entries.EntryError.{EntryError}
use Rattle.ckpt_pages.specs.declared.entries.EntryError.TheVariants.{Bad}
use Rattle.ckpt_pages.specs.Reading.{AreEntries, ReadsEntries, AreNoEntries}
use Rattle.ckpt_pages.proofs.Putting.{concat-append}

take_add : (n m : ℕ) (xs : List ℕ) → take (n + m) xs ≡ take n xs ++ take m (drop n xs)
take_add n m xs =
    let a : take n (take (n + m) xs) ≡ take n xs = take-take n (n + m) xs (omega arith) in
    let b : drop n (take (n + m) xs) ≡ take m (drop n xs) = drop-take n m xs in
    sym (take-append-drop n (take (n + m) xs)) ∙ ap (λ (x : List ℕ). x ++ drop n (take (n + m) xs)) a ∙ ap (λ (x : List ℕ). take n xs ++ x) b

zeros_all : (n : ℕ) → are_zeros (replicate n 0) ≡ true
zeros_all zero = refl
zeros_all (suc n) = zeros_all n

pub zeros_rest : (at : ℕ) (bytes : List ℕ) (b : Bool) → b ≡ are_zeros (take (length bytes - at) (drop at bytes)) → are_zeros (drop at bytes) ≡ b
zeros_rest at bytes b h = ap are_zeros (sym (take_all (length bytes - at) (drop at bytes) (omega (arith, length-drop at bytes)))) ∙ sym h

-- what was handed on is what the call answered
pub bad_again : (X Y : Type 0) (r : Result X EntryError) (e e' : EntryError) → r ≡ Err e → e ≡ e' → r ≡ Err Bad → ◌≡◌ {A = Result Y EntryError} (Err e') (Err Bad)
bad_again X Y r e e' a b h = let is : e' ≡ Bad = cc in rw is refl

-- i items are read, the bytes before at
pub record IsReadTo {X : Type 0} (slot : X → List ℕ) (Fits : X → Type 0) (w i at : ℕ) (bytes : List ℕ) (old new : List X) : Type 0 where
  pub more : List X
  pub is : new ≡ old ++ more
  pub count : length more ≡ i
  pub place : at ≡ w * i
  pub fit : All Fits more
  pub text : take at bytes ≡ concat (map slot more)

pub room_below : (w q n : ℕ) → q < n → w * q + w ≤ w * n
room_below w q n lt = omega (arith, mul-suc w q, mul-le-mul_left {m = suc q} {n = n} w lt)

-- bytes for n entries have room for each of them
pub room_for : (w i at n size : ℕ) → at ≡ w * i → i < n → w * n ≤ size → at + w ≤ size
room_for w i at n size e lt room = omega (arith, e, room_below w i n lt, room)

module _ {X : Type 0} (slot : X → List ℕ) (Fits : X → Type 0) where
  pub read_none : (w : ℕ) (bytes : List ℕ) (old : List X) → IsReadTo slot Fits w 0 0 bytes old old
  read_none w bytes old = record { more = []; is = sym (append-nil old); count = refl; place = omega arith; fit = All-nil Fits; text = refl }

  pub read_more : (w i at : ℕ) (bytes : List ℕ) (old new new' : List X) (x : X) → IsReadTo slot Fits w i at bytes old new → Fits x → piece at w bytes ≡ slot x → new' ≡ new ++ x ∷ [] → IsReadTo slot Fits w (i + 1) (at + w) bytes old new'
  read_more w i at bytes old new new' x h fits is grown =
      record {
        more = h.more ++ x ∷ [];
        is = grown ∙ ap (λ (xs : List X). xs ++ x ∷ []) h.is ∙ append_assoc old h.more (x ∷ []);
        count = omega (arith, length_push h.more x, h.count);
        place = omega (arith, h.place, mul-suc w i, ap (λ (k : ℕ). w * k) (add-one i));
        fit = All-push Fits h.more x h.fit fits;
        text = take_add at w bytes ∙ ap (λ (t : List ℕ). t ++ piece at w bytes) h.text ∙ ap (λ (t : List ℕ). concat (map slot h.more) ++ t) (is ∙ sym (append-nil (slot x)))
            ∙ sym (concat-append (map slot h.more) (slot x ∷ [])) ∙ ap concat (sym (map_push slot h.more x));
      }

  pub read_step : (w w1 w2 i at : ℕ) (bytes : List ℕ) (old new new' : List X) (x : X) → IsReadTo slot Fits w i at bytes old new → w1 ≡ w → w2 ≡ w → Fits x × (take (at + w1 - at) (drop at bytes) ≡ slot x) → new' ≡ new ++ x ∷ [] → IsReadTo slot Fits w (i + 1) (at + w2) bytes old new'
  read_step w w1 w2 i at bytes old new new' x h e1 e2 found grown =
      let n : at + w1 - at ≡ w = omega (arith, e1) in
      rw e2 (read_more w i at bytes old new new' x h found.0 (ap (λ (k : ℕ). take k (drop at bytes)) (sym n) ∙ found.1) grown)

  pub read_done : (w count at : ℕ) (bytes : List ℕ) (old new : List X) → IsReadTo slot Fits w count at bytes old new → at ≤ length bytes → are_zeros (drop at bytes) ≡ true → ReadsEntries slot Fits count bytes old new
  read_done w count at bytes old new h le z =
      let size : length (concat (map slot h.more)) ≡ at = omega (arith, ap length h.text, length-take at bytes) in
      let tail : drop at bytes ≡ replicate (length bytes - length (concat (map slot h.more))) 0 = zeros_of (length bytes - length (concat (map slot h.more))) (drop at bytes) z (omega (arith, length-drop at bytes)) in
      record {
        more = h.more;
        is = h.is;
        reads = record { len = h.count; fit = h.fit; is = sym (take-append-drop at bytes) ∙ ap (λ (t : List ℕ). t ++ drop at bytes) h.text ∙ ap (λ (t : List ℕ). concat (map slot h.more) ++ t) tail };
      }

  pub read_all : (w count i at : ℕ) (bytes : List ℕ) (old new : List X) → IsReadTo slot Fits w i at bytes old new → i ≤ count → count ≤ i → w * count ≤ length bytes → true ≡ are_zeros (take (length bytes - at) (drop at bytes)) → ReadsEntries slot Fits count bytes old new
  read_all w count i at bytes old new h le ge room z =
      let same : i ≡ count = omega arith in
      let place : at ≡ w * count = h.place ∙ ap (λ (k : ℕ). w * k) same in
      read_done w count at bytes old new (subst (λ (k : ℕ). IsReadTo slot Fits w k at bytes old new) same h) (omega (arith, place, room)) (zeros_rest at bytes true z)

  module _ (w : ℕ) (long : (x : X) → Fits x → length (slot x) ≡ w) where
    pub concat_length : (xs : List X) → All Fits xs → length (concat (map slot xs)) ≡ w * length xs
    concat_length [] h = omega arith
    concat_length (x ∷ xs) h =
        let a = concat_length xs (All-tail Fits x xs h) in
        let b = long x (All-head Fits x xs h) in
        omega (arith, length-append (slot x) (concat (map slot xs)), mul-suc w (length xs), a, b)

    pub chunk_at : (xs : List X) (i at : ℕ) (d : X) (rest : List ℕ) → All Fits xs → i < length xs → at ≡ w * i → piece at w (concat (map slot xs) ++ rest) ≡ slot (get_or xs i d)
    chunk_at [] i at d rest h lt e = absurd (omega arith)
    chunk_at (x ∷ xs) zero at d rest h lt e =
        let z : at ≡ 0 = omega arith in
        rw (z, append_assoc (slot x) (concat (map slot xs)) rest) (take_at (slot x) (concat (map slot xs) ++ rest) w (long x (All-head Fits x xs h)))
    chunk_at (x ∷ xs) (suc i) at d rest h lt e =
        let z : at ≡ w + w * i = omega (arith, mul-suc w i) in
        let inner = chunk_at xs i (w * i) d rest (All-tail Fits x xs h) (omega arith) refl in
        let step : drop at ((slot x ++ concat (map slot xs)) ++ rest) ≡ drop (w * i) (concat (map slot xs) ++ rest) =
        rw (z, append_assoc (slot x) (concat (map slot xs)) rest, ← drop-drop (w * i) w, drop_at (slot x) (concat (map slot xs) ++ rest) w (long x (All-head Fits x xs h))) refl in
        ap (take w) step ∙ inner

    -- an entry of bytes that are entries
    pub entry_of : (count i at : ℕ) (bytes : List ℕ) (items : List X) (d : X) → AreEntries slot Fits count bytes items → i < count → at ≡ w * i → Fits (get_or items i d) × (piece at w bytes ≡ slot (get_or items i d))
    entry_of count i at bytes items d h lt e = (
      All-get_or Fits items i d (omega (arith, h.len)) h.fit,
      ap (piece at w) h.is ∙ chunk_at items i at d (replicate (length bytes - length (concat (map slot items))) 0) h.fit (omega (arith, h.len)) e,
    )

    -- zeros follow the entries
    pub tail_of : (count at : ℕ) (bytes : List ℕ) (items : List X) → AreEntries slot Fits count bytes items → at ≡ w * count → are_zeros (drop at bytes) ≡ true
    tail_of count at bytes items h e =
        let len : length (concat (map slot items)) ≡ at = omega (arith, concat_length items h.fit, ap (λ (n : ℕ). w * n) h.len) in
        ap (λ (p : List ℕ). are_zeros (drop at p)) h.is ∙ ap are_zeros (drop_at (concat (map slot items)) (replicate (length bytes - length (concat (map slot items))) 0) at len) ∙ zeros_all (length bytes - length (concat (map slot items)))

    -- where a piece is no entry, the bytes are no entries
    pub no_entry : (count i at w' : ℕ) (bytes : List ℕ) → i < count → at ≡ w * i → w' ≡ w → ((x : X) → Fits x → take (at + w' - at) (drop at bytes) ≡ slot x → ⊥) → AreNoEntries slot Fits count bytes
    no_entry count i at w' bytes lt e e' wrong [] h = absurd (omega (arith, h.len))
    no_entry count i at w' bytes lt e e' wrong (x ∷ xs) h =
        let p = entry_of count i at bytes (x ∷ xs) x h lt e in
        let n : at + w' - at ≡ w = omega (arith, e') in
        wrong (get_or (x ∷ xs) i x) p.0 (ap (λ (k : ℕ). take k (drop at bytes)) n ∙ p.1)

    -- where no zeros follow, the bytes are no entries
    pub no_tail : (count i at : ℕ) (bytes : List ℕ) → i ≤ count → count ≤ i → at ≡ w * i → false ≡ are_zeros (take (length bytes - at) (drop at bytes)) → AreNoEntries slot Fits count bytes
    no_tail count i at bytes le ge e wrong items h =
        let same : i ≡ count = omega arith in
        let t = tail_of count at bytes items h (e ∙ ap (λ (k : ℕ). w * k) same) in
        let f = zeros_rest at bytes false wrong in
        absurd (cc)

    -- bytes are one list of entries at most
    pub one_list : ((x y : X) → Fits x → Fits y → slot x ≡ slot y → x ≡ y) → (count : ℕ) (bytes : List ℕ) (a b : List X) → AreEntries slot Fits count bytes a → AreEntries slot Fits count bytes b → a ≡ b
    one_list apart count bytes [] [] ha hb = refl
    one_list apart count bytes [] (y ∷ ys) ha hb = absurd (omega (arith, ha.len, hb.len))
    one_list apart count bytes (x ∷ xs) b ha hb =
        ext_get_or x (x ∷ xs) b (ha.len ∙ sym hb.len) (λ i lt.
        let lt' : i < count = omega (arith, ha.len) in
        let p = entry_of count i (w * i) bytes (x ∷ xs) x ha lt' refl in
        let q = entry_of count i (w * i) bytes b x hb lt' refl in
        apart (get_or (x ∷ xs) i x) (get_or b i x) p.0 q.0 (sym p.1 ∙ q.1))
