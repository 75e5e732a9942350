-- Entries of a record, and the acts that they stand for.
use Rattle.std.proofs.Common.{◌≡◌, ℕ, zero, suc, ◌+◌, ◌≤◌, ◌<◌, List, [], ◌∷◌, ◌++◌, length, take, drop, nat_lt, Bool, true, false, if◌then◌else◌, refl, sym, ◌∙◌, ap, arith, length-append, length-drop}
use Rattle.std.proofs.lemmas.List.{take_all, take-append-le, drop-append-le}
use Rattle.spool_disk.specs.declared.entry.Entry.{Entry}
use Rattle.std.proofs.lemmas.Bool.Decides.{nat_tests}
use Rattle.spool_disk.specs.Deeds.{Deed, Idle, idled}
use Rattle.spool_disk.specs.Entries.{kept_by, kept_in, deed_of, deeds_of}

nil_of : (l : List ℕ) → length l ≡ 0 → l ≡ []
nil_of [] e = refl
nil_of (x ∷ l) e = absurd (omega arith)

pub kept_push : (log : List Entry) (e : Entry) → kept_in (log ++ e ∷ []) ≡ kept_in log + kept_by e
kept_push [] e = omega arith
kept_push (f ∷ log) e = omega (arith, kept_push log e)

pub deeds_push : (log : List Entry) (arena : List ℕ) (e : Entry) (bytes : List ℕ) → kept_in log ≡ length arena → kept_by e ≡ length bytes
    → deeds_of (log ++ e ∷ []) (arena ++ bytes) ≡ deeds_of log arena ++ deed_of e bytes ∷ []
deeds_push [] arena e bytes fits kept =
    let empty : arena ≡ [] = nil_of arena (omega (arith, fits)) in
    let first : arena ++ bytes ≡ bytes = ap (λ (l : List ℕ). l ++ bytes) empty in
    let whole : take (kept_by e) bytes ≡ bytes = take_all (kept_by e) bytes (omega (arith, kept)) in
    ap (λ (l : List ℕ). deed_of e l ∷ []) (ap (take (kept_by e)) first ∙ whole)
deeds_push (f ∷ log) arena e bytes fits kept =
    let few : kept_by f ≤ length arena = omega (arith, fits) in
    let rest : kept_in log ≡ length (drop (kept_by f) arena) = omega (arith, fits, length-drop (kept_by f) arena) in
    let here : take (kept_by f) (arena ++ bytes) ≡ take (kept_by f) arena = take-append-le (kept_by f) arena bytes few in
    let there : drop (kept_by f) (arena ++ bytes) ≡ drop (kept_by f) arena ++ bytes = drop-append-le (kept_by f) arena bytes few in
    ap (λ (l : List ℕ). deed_of f l ∷ deeds_of (log ++ e ∷ []) (drop (kept_by f) (arena ++ bytes))) here
    ∙ ap (λ (l : List ℕ). deed_of f (take (kept_by f) arena) ∷ deeds_of (log ++ e ∷ []) l) there
    ∙ ap (λ (l : List Deed). deed_of f (take (kept_by f) arena) ∷ l) (deeds_push log (drop (kept_by f) arena) e bytes rest kept)

pub length-deeds : (log : List Entry) (arena : List ℕ) → length (deeds_of log arena) ≡ length log
length-deeds [] arena = refl
length-deeds (e ∷ log) arena = ap suc (length-deeds log (drop (kept_by e) arena))

pub take-deeds : (t : ℕ) (log : List Entry) (arena : List ℕ) → take t (deeds_of log arena) ≡ deeds_of (take t log) arena
take-deeds zero [] arena = refl
take-deeds (suc t) [] arena = refl
take-deeds zero (e ∷ log) arena = refl
take-deeds (suc t) (e ∷ log) arena = ap (λ (l : List Deed). deed_of e (take (kept_by e) arena) ∷ l) (take-deeds t log (drop (kept_by e) arena))

-- an entry more
pub pushed : (log log' : List Entry) (arena arena' : List ℕ) (e : Entry) (bytes : List ℕ) (done : Bool) → done ≡ true → kept_in log ≡ length arena → kept_by e ≡ length bytes
    → log' ≡ log ++ e ∷ [] → arena' ≡ (if done then arena ++ bytes else arena) → deeds_of log' arena' ≡ deeds_of log arena ++ deed_of e bytes ∷ []
pushed log log' arena arena' e bytes true is fits kept added more = ap (λ (l : List Entry). deeds_of l arena') added ∙ ap (deeds_of (log ++ e ∷ [])) more ∙ deeds_push log arena e bytes fits kept
pushed log log' arena arena' e bytes false is fits kept added more = absurd (cc)

pub pushed_kept : (log log' : List Entry) (arena arena' : List ℕ) (e : Entry) (bytes : List ℕ) (done : Bool) → done ≡ true → kept_in log ≡ length arena → kept_by e ≡ length bytes
    → log' ≡ log ++ e ∷ [] → arena' ≡ (if done then arena ++ bytes else arena) → kept_in log' ≡ length arena'
pushed_kept log log' arena arena' e bytes true is fits kept added more = ap kept_in added ∙ kept_push log e ∙ (let sums : kept_in log + kept_by e ≡ length (arena ++ bytes) = omega (arith, fits, kept, length-append arena bytes) in sums) ∙ sym (ap (λ (l : List ℕ). length l) more)
pushed_kept log log' arena arena' e bytes false is fits kept added more = absurd (cc)

-- a moment that passes
pub passed : (log : List Entry) (arena : List ℕ) (acts : ℕ) (deeds : List Deed) → length log < acts → deeds ≡ deeds_of log arena ++ Idle ∷ [] → deeds ≡ idled acts (deeds_of log arena)
passed log arena acts deeds room is =
    let test : nat_lt (length (deeds_of log arena)) acts ≡ true = ap (λ (n : ℕ). nat_lt n acts) (length-deeds log arena) ∙ (let below : nat_lt (length log) acts ≡ true = grind (arith, nat_tests) in below) in
    rw test is

pub passed_full : (log : List Entry) (arena : List ℕ) (acts : ℕ) → acts ≤ length log → deeds_of log arena ≡ idled acts (deeds_of log arena)
passed_full log arena acts full =
    let test : nat_lt (length (deeds_of log arena)) acts ≡ false = ap (λ (n : ℕ). nat_lt n acts) (length-deeds log arena) ∙ (let past : nat_lt (length log) acts ≡ false = grind (arith, nat_tests) in past) in
    rw test refl
