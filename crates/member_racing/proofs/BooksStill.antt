-- A member is stopped in the book by its turn only where the turn was halted.
use Rattle.std.proofs.Common.{◌≡◌, ◌≢◌, Bool, Result, Err, refl}
use Rattle.mas_types.specs.declared.ids.MemberId.{MemberId}
use Rattle.lock_cycle.specs.Books.{Book, after_seize, after_try, is_stopped}
use Rattle.spool_plant.specs.declared.plant.Plant.{Ghosts as PlantGhosts}
use Rattle.ckpt_copy.specs.declared.copying.Copying.{Ghosts as CopyGhosts}
use Rattle.mas_complex.specs.Parts.{Parts}
use Rattle.member_node.specs.declared.member.Member.{Member}
use Rattle.member_node.specs.declared.member.NodeNo.{NodeNo}
use Rattle.member_node.specs.declared.member.NodeNo.TheVariants as no_node
use Rattle.member_resets.specs.Stand.{Stand}
use Rattle.member_racing.specs.Opened.{TriesBy, done_of}
use Rattle.member_racing.specs.Stages.{Raced}
use Rattle.member_racing.specs.declared.stages.Stage.{Stage as Stands}
use Rattle.member_racing.specs.declared.stages.Stage.TheVariants as line
use Rattle.member_racing.proofs.BooksKept.{Done, tries_kept}
use Rattle.member_resets.proofs.BookLemmas.{same_calls}

-- The member is as it was in the book, unless the answer is Halted.
abbrev pub Still : MemberId → Done → Book → Book → Type 0
Still by r b c = (r ≢ Err no_node.Halted) → is_stopped c by ≡ is_stopped b by

pub tried_same : (by : MemberId) (b : Book) (inner : Bool) → is_stopped (after_try b by inner) by ≡ is_stopped b by
tried_same by b inner = (same_calls by by b).tries b inner refl

pub seized_same : (by : MemberId) (b : Book) (of : MemberId) → is_stopped (after_seize b by of) by ≡ is_stopped b by
seized_same by b of = (same_calls by by b).seizes b of refl

-- A TURN

module _ {P C : Type 0} (plants : PlantGhosts P) (copies : CopyGhosts C) (r : Raced) (x y : Parts P C) (m n : Member) (result : Result Stands NodeNo) (mine : m.id ≡ r.by) where
  pub tries_still : ((at : Stand) → r.stands ≡ line.Sits at → at.holder.by ≡ r.by) → TriesBy plants copies r x y m n result → Still r.by (done_of result) x.book y.book
  tries_still its t = λ unlike.
      tries_kept plants copies (λ (c : Book). is_stopped c r.by ≡ is_stopped x.book r.by) r x y m n result mine (same_calls r.by r.by x.book) (λ halted. absurd (unlike halted)) its t refl
