-- What a turn that was tried left in the book: calls of its member alone.
use Rattle.std.proofs.Common.{◌≡◌, ℕ, ◌≤◌, Result, subst, sym}
use Rattle.mas_types.specs.declared.ids.MemberId.{MemberId}
use Rattle.lock_cycle.specs.Books.{Book, IsMember, after_free, after_seize, after_spend, after_stop, after_try}
use Rattle.spool_plant.specs.declared.plant.Plant.{Ghosts as PlantGhosts}
use Rattle.ckpt_copy.specs.declared.copying.Copying.{Ghosts as CopyGhosts}
use Rattle.mas_complex.specs.Parts.{Parts}
use Rattle.member_node.specs.declared.member.Member.{Member}
use Rattle.member_node.specs.declared.member.NodeNo.{NodeNo}
use Rattle.member_resets.specs.Stand.{Stand}
use Rattle.member_racing.specs.Opened.{TriesBy}
use Rattle.member_racing.specs.Stages.{Raced}
use Rattle.member_racing.specs.declared.stages.Stage.{Stage as Stands}
use Rattle.member_racing.specs.declared.stages.Stage.TheVariants as line
use Rattle.member_racing.proofs.BooksKept.{tries_kept}
use Rattle.run_turns.proofs.Keeping.{CallsKeep}
use Rattle.member_racing.proofs.Books.{OnlyBy, freed_only, only_none, only_then, seized_only, spent_only, stopped_only, tried_only}

pub inside_only : (by : MemberId) (b c : Book) → OnlyBy by b c → IsMember b by → IsMember c by
inside_only by b c only inside = (inside.0, subst (λ (n : ℕ). by.0 ≤ n) (sym only.many) inside.1)

-- to a book that stands alike
pub only_as : (by : MemberId) (b c d : Book) → d ≡ c → OnlyBy by b c → OnlyBy by b d
only_as by b c d same only = subst (λ (k : Book). OnlyBy by b k) (sym same) only

module _ (by : MemberId) (b : Book) (inside : IsMember b by) where
  only_keeps : CallsKeep by (λ (c : Book). OnlyBy by b c)
  only_keeps = record {
    tries = λ c inner only. only_then by b c (after_try c by inner) only (tried_only by c (inside_only by b c only inside) inner);
    seizes = λ c of only. only_then by b c (after_seize c by of) only (seized_only by c (inside_only by b c only inside) of);
    frees = λ c inner only. only_then by b c (after_free c by inner) only (freed_only by c (inside_only by b c only inside) inner);
    spends = λ c commands only. only_then by b c (after_spend c by commands) only (spent_only by c (inside_only by b c only inside) commands);
  }

-- A TURN

module _ {P C : Type 0} (plants : PlantGhosts P) (copies : CopyGhosts C) (r : Raced) (x y : Parts P C) (m n : Member) (result : Result Stands NodeNo) (mine : m.id ≡ r.by) (inside : IsMember x.book r.by) where
  pub tries_only : ((at : Stand) → r.stands ≡ line.Sits at → at.holder.by ≡ r.by) → TriesBy plants copies r x y m n result → OnlyBy r.by x.book y.book
  tries_only its t =
      tries_kept plants copies (λ (c : Book). OnlyBy r.by x.book c) r x y m n result mine (only_keeps r.by x.book inside)
      (λ halted c only. only_then r.by x.book c (after_stop c r.by) only (stopped_only r.by c (inside_only r.by x.book c only inside))) its t (only_none r.by x.book)
