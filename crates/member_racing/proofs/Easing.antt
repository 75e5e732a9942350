-- A member is at its ease after a turn: at its seat it has given all that it took up, and has noted its pages.
use Rattle.std.proofs.Common.{◌≡◌, ◌∙◌, [], List, ap, subst, sym}
use Rattle.mas_types.specs.declared.ids.Page.{Page}
use Rattle.mas_types.specs.declared.queues.Queue.{Queue}
use Rattle.spool_plant.specs.declared.plant.Plant.{Ghosts as PlantGhosts}
use Rattle.ckpt_copy.specs.declared.copying.Copying.{Ghosts as CopyGhosts}
use Rattle.ckpt_tables.specs.Shape.{page_count}
use Rattle.mas_complex.specs.Parts.{Parts}
use Rattle.member_resets.specs.Quiet.{IsAside}
use Rattle.member_node.specs.declared.member.Member.{Member}
use Rattle.member_node.specs.Wanted.{HasHad}
use Rattle.member_sittings.specs.Whole.{IsSeat}
use Rattle.member_steps.proofs.ReadLemmas.{pages_of_run}
use Rattle.member_racing.specs.Waits.{IsAtEase}

module _ {P C : Type 0} (plants : PlantGhosts P) (copies : CopyGhosts C) where
  pub ease_seat : (y : Parts P C) (n : Member) → IsSeat plants copies y n → IsAtEase plants copies y n
  ease_seat y n seat = record {
    idle = record { nothing = seat.between.nothing; drawn = seat.between.drawn; many = seat.still.many };
    many = sym (pages_of_run y.base [] n.checkpoint n.room seat.still.config seat.between.drawn seat.still.many);
    tables = seat.still.config;
    noted = seat.still.noted;
  }

  pub ease_aside : (y : Parts P C) (n : Member) → IsAside plants copies y n → IsAtEase plants copies y n
  ease_aside y n aside = record {
    idle = aside.idle;
    many = sym (pages_of_run y.base [] n.checkpoint n.room aside.config aside.idle.drawn aside.idle.many);
    tables = aside.config;
    noted = aside.noted;
  }

  -- by the base and what was noted alone
  pub ease_as : (y z : Parts P C) (n : Member) → z.base ≡ y.base → z.had ≡ y.had → IsAtEase plants copies y n → IsAtEase plants copies z n
  ease_as y z n base had e = record {
    idle = e.idle;
    many = e.many ∙ ap (λ (q : Queue). page_count q.config) (sym base);
    tables = ap (λ (q : Queue). q.config) base ∙ e.tables;
    noted = subst (λ (h : List (List Page)). HasHad plants.tells n.fresh h n.id.0 n.checkpoint.pages) (sym had) e.noted;
  }
