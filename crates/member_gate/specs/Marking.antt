-- Lists of marks, by place or by member.
use Rattle.std.specs.Prelude.{ℕ, zero, suc, ◌+◌, ◌-◌, Bool, true, false, List, [], ◌∷◌, ◌++◌, replicate}

-- the items that are marked
abbrev pub marked : {A : Type 0} → List Bool → List A → List A
marked [] xs = []
marked (b ∷ bs) [] = []
marked (true ∷ bs) (x ∷ xs) = x ∷ marked bs xs
marked (false ∷ bs) (x ∷ xs) = marked bs xs

-- the marks of just n places
abbrev pub fitted : ℕ → List Bool → List Bool
fitted zero bs = []
fitted (suc n) [] = false ∷ fitted n []
fitted (suc n) (b ∷ bs) = b ∷ fitted n bs

-- the places from n up to k are marked too
abbrev pub grown : List Bool → ℕ → ℕ → List Bool
grown bs n k = fitted n bs ++ replicate (k - n) true

-- just one place is marked
abbrev pub single : ℕ → List Bool
single k = fitted k [] ++ true ∷ []

-- what is marked in the one or in the other
abbrev pub either_of : List Bool → List Bool → List Bool
either_of [] cs = cs
either_of (b ∷ bs) [] = b ∷ bs
either_of (true ∷ bs) (c ∷ cs) = true ∷ either_of bs cs
either_of (false ∷ bs) (c ∷ cs) = c ∷ either_of bs cs

-- the longer list
abbrev pub longer : {A : Type 0} → List A → List A → List A
longer [] ys = ys
longer (x ∷ xs) [] = x ∷ xs
longer (x ∷ xs) (y ∷ ys) = x ∷ longer xs ys

abbrev pub greater : ℕ → ℕ → ℕ
greater a b = a + (b - a)

-- place by place the greater number
abbrev pub greatest : List ℕ → List ℕ → List ℕ
greatest [] ys = ys
greatest (x ∷ xs) [] = x ∷ xs
greatest (x ∷ xs) (y ∷ ys) = greater x y ∷ greatest xs ys

abbrev pub head_or : {A : Type 0} → A → List A → A
head_or d [] = d
head_or d (x ∷ xs) = x

abbrev pub tail_of : {A : Type 0} → List A → List A
tail_of [] = []
tail_of (x ∷ xs) = xs

-- the first list at the marked places, and the second elsewhere
abbrev pub chosen : {A : Type 0} → A → List Bool → List A → List A → List A
chosen d [] xs ys = ys
chosen d (true ∷ bs) xs ys = head_or d xs ∷ chosen d bs (tail_of xs) (tail_of ys)
chosen d (false ∷ bs) xs ys = head_or d ys ∷ chosen d bs (tail_of xs) (tail_of ys)
