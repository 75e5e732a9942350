-- What block 0 of an image shows.
use Rattle.std.proofs.Common.{◌≡◌, ℕ, zero, suc, true, List, replicate, get_or, slice_index, refl, sym, ◌∙◌, ap, arith, ◌==◌}
use Rattle.std.proofs.lemmas.Bool.Decides.{nat_tests}
use Rattle.std.proofs.lemmas.List.{get_or-drop}
use Rattle.spool_plant.specs.Acts.{DiffersIn}
use Rattle.ckpt_copy.specs.declared.layout.TheConstants.{GATE_OPEN}

pub open_at : (x : ℕ) → (x == GATE_OPEN) ≡ true → x ≡ GATE_OPEN
open_at x t = grind (arith, nat_tests)

-- the form of a device of zeros, whatever its first byte is
second_of : (n byte : ℕ) → get_or (replicate n byte) 1 byte ≡ byte
second_of zero byte = refl
second_of (suc zero) byte = refl
second_of (suc (suc n)) byte = refl

pub blank_form : (size : ℕ) (image : List ℕ) → DiffersIn 0 1 (replicate size 0) image → slice_index image 1 ≡ 0
blank_form size image differs =
    sym (get_or-drop 1 image 0 0) ∙ ap (λ (l : List ℕ). get_or l 0 0) differs.after ∙ get_or-drop 1 (replicate size 0) 0
    0 ∙ second_of size 0
