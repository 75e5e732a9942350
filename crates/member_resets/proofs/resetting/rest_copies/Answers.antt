use Rattle.std.proofs.Common.{◌≡◌, true}
use Rattle.std.proofs.Math.Logic.{∥∥₁_map}
use Rattle.mas_types.specs.declared.ids.Dev.{Dev}
use Rattle.ckpt_places.specs.declared.places.Place.TheVariants.{Before}
use Rattle.duplex_pair.specs.Halves.{pick}
use Rattle.mas_complex.specs.Crash.{copy_of}
use Rattle.mas_complex.proofs.Basics.{each}
use Rattle.mas_complex.proofs.Fates.{placed_copy}
use Rattle.mas_complex.proofs.Moves.{copies_keep}
use Rattle.mas_complex.proofs.Values.{copies_of, half_of, past_of, place_of, setting_of, view_of}
use Rattle.member_resets.proofs.resetting.rest_copies.Goals as goal

-- A COPY THAT IS LOST may count as before any batch, as each other one does

pub invariant_of-complex-clause-kept : goal.invariant_of-complex-clause-kept
invariant_of-complex-clause-kept g c told =
    let s = c.args.complex.now in
    let C = g.C.Copying in
    let before = each (λ (d : Dev). (half_of s d).alive ≡ true → place_of s d ≡ pick d Before Before) c.requires.first c.requires.second in
    ∥∥₁_map (s.kept told) (λ k. copies_keep (setting_of s) (past_of s) s.current s.level (copies_of s) (λ d. copy_of C.rests C.holds (half_of s d) (pick d Before Before)) (view_of s) k
    (λ d ckpt. placed_copy (setting_of s) k.pages.was k.pages.coming d (copies_of s d) (pick d Before Before) (view_of s) (before d ckpt) (k.at d ckpt)) (λ d ckpt is. is))
