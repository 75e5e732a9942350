-- Why a step closes as it does.
use Rattle.member_work.proofs.Names.{ℕ, Option, None, Some, arith, Closing, Spool, MemberId, Disk as DiskPart, View, Goes, IsFoundLost, GroupNo, HasFailed, IsReadAs, List, Read, Text}
use Rattle.mas_types.specs.declared.answers.Closing.TheVariants as closing
use Rattle.mas_types.specs.declared.commands.Reply.TheVariants as reply
use Rattle.member_work.specs.Causes.{MayRefuse}
use Rattle.member_work.proofs.PrintedLemmas.{failed_wider}
use Rattle.job_outcome.specs.declared.outcomes.Read.TheVariants as read

-- OVER A WIDER STRETCH

pub wider_found : (lost : Option ℕ) (old from till new : View) → Goes old from → Goes till new → IsFoundLost lost from till → IsFoundLost lost old new
wider_found None old from till new before after f = tt
wider_found (Some volume) old from till new before after f =
    (after.lost (DiskPart (Spool volume)) f.0, let rose = f.1 in omega (arith, rose, before.faults (DiskPart (Spool volume)), after.faults (DiskPart (Spool volume))))

module _ (told : Type 0) (per : ℕ) (by : MemberId) (at : ℕ) (old from till new : View) (before : Goes old from) (after : Goes till new) where
  wider_failed : (groups : List GroupNo) (volume : ℕ) → HasFailed per groups volume from till → HasFailed per groups volume old new
  wider_failed groups volume f = let w = wider_found (Some volume) old from till new before after (f.lost, f.rose) in record { there = f.there; lost = w.0; rose = w.1 }

  pub wider_read : (text : Text) (groups : List GroupNo) (found : Option Read) → IsReadAs told per (text, groups) found from till → IsReadAs told per (text, groups) found old new
  wider_read text groups None seen = tt
  wider_read text groups (Some (read.Lost volume)) seen = (seen.0, wider_failed groups volume seen.1)
  wider_read text groups _ seen = seen

module _ (by : MemberId) (old from till new : View) (before : Goes old from) (after : Goes till new) where
  pub wider_refusal : (end : Closing) → MayRefuse by end from till → MayRefuse by end old new
  wider_refusal (closing.Reply (reply.No why)) c = tt
  wider_refusal (closing.NoText group) c = tt
  wider_refusal (closing.SpoolLost volume) c = wider_found (Some volume) old from till new before after c
  wider_refusal closing.PrinterLost c = failed_wider by old from till new before after c
  wider_refusal _ c = absurd c
