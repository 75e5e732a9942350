-- The lines of an output that a member prints next.
use Rattle.member_acts.specs.Names.{members_most, printer_lines_most, SameWires, IsMember, is_stopped, IsOfOther, counts_of, Parts, parts_of, SpoolStops, Lines, Output, kept_all, run, output_at, HasInked, OtherCountsStay, lines_read, IsBeside, SameDisks, after_lines, SteadyGhosts, IsCounted, names_nothing, names_read}
use Rattle.std.specs.Prelude.{◌≡◌, ℕ, ◌+◌, ◌≤◌, Bool, true, false, List, ◌++◌, Option, None, Some, Result, IfOk, OnErr}
use Rattle.mas_types.specs.declared.ids.MemberId.{MemberId}
use Rattle.mas_types.specs.declared.jobs.Text.TheVariants.{Whole}
use Rattle.mas_types.specs.declared.journals.Batch.{Batch}
use Rattle.mas_types.specs.declared.queues.Queue.{Queue}
use Rattle.mas_types.specs.Queue.{printing_at, total}
use Rattle.paper_laws.specs.Next.{limit_of}
use Rattle.paper_laws.specs.Paper.{busy_in}
use Rattle.mas_complex.specs.Journals.{entries_in}
use Rattle.lay_bytes.specs.declared.records.OutRec.{OutRec}
use Rattle.spool_plant.specs.View.{View}
use Rattle.spool_plant.specs.declared.plant.Plant.{Ghosts as PlantGhosts}
use Rattle.ckpt_copy.specs.declared.copying.Copying.{Ghosts as CopyGhosts}
use Rattle.job_outcome.specs.declared.outcomes.Read.{Read}
use Rattle.mas_complex.specs.declared.complex.Complex.{Complex}
use Rattle.member_node.specs.declared.member.NodeNo.{NodeNo}
use Rattle.member_work.specs.Rounds.{HasPrinterFailed}
use Rattle.step_turns.specs.JobEnds.{printed_end}

-- an output, and the last of its lines that are printed
pub record Upto : Type 0 where
  pub output : OutRec
  pub last : ℕ

abbrev pub upto : OutRec → ℕ → Upto
upto output last = record { output = output; last = last }

-- Those lines may be printed: the output has this text and mark, and is busy at the member after the kept batches, and
-- with one in flight.
pub record MayPrintTo (base : Queue) (batches : List Batch) (current : Option Batch) (m : MemberId) (u : Upto)
    (lines : List (List ℕ)) : Type 0 where
  pub output : Output
  pub busy : printing_at (run base (kept_all batches)) m ≡ Some output
  pub job : output.job ≡ u.output.job
  pub index : output.index ≡ u.output.index
  pub mark_is : output.mark ≡ u.output.mark
  pub text : output.text ≡ Whole lines
  pub upto : u.last ≤ total output
  pub limit : u.last ≤ output.mark + limit_of (run base (kept_all batches)) m
  pub still : busy_in (output_at (run base (kept_all batches ++ entries_in current)) u.output.job u.output.index) m
      ≡ true

module _ {P C : Type 0} (plants : PlantGhosts P) where
  abbrev v : Parts P C → View
  v x = plants.view x.plant

  -- The member isn't stopped. Where content is told the lines up to this one may be printed, if the text was read.
  pub record IsToPrint (x : Parts P C) (by : MemberId) (u : Upto) (read : Read) : Type 0 where
    pub member : IsMember x.book by
    pub few : by.0 ≤ members_most
    pub up : is_stopped x.book by ≡ false
    pub other : IsOfOther x.current by
    pub some : 1 ≤ u.output.lines
    pub count : IsCounted u.output.lines read
    pub limit : u.last ≤ u.output.mark + printer_lines_most
    pub may : plants.tells → (lines : List (List ℕ)) → read ≡ Lines lines
        → MayPrintTo x.base x.batches x.current by u lines

  -- Prints of a member: no volume is written, no other printer prints, and nothing moves on a line to another node.
  pub record HasActedBeside (x y : Parts P C) (by : MemberId) : Type 0 where
    pub acts : IsBeside plants.tells (v x) (v y)
    pub disks : SameDisks plants.tells (v x) (v y)
    pub other_counts : OtherCountsStay by x.printed y.printed
    pub wires : plants.tells → SameWires (v x) (v y)

  -- Prints, by their answer, which says whether the printer was found lost: then it failed. Where the unit isn't
  -- refused for it, or for how the text was read, the lines stand on paper. Halted comes only where the member was
  -- stopped, NoMemory only when out of memory: both only where lines were read.
  pub record HasPrinted (x y : Parts P C) (by : MemberId) (u : Upto) (read : Read) (result : Result Bool NodeNo) :
      Type 0 where
    pub frame : y ≡ after_lines result by y x
    pub beside : HasActedBeside x y by
    pub inks : plants.tells → HasInked plants by
        (lines_read u.output.job u.output.index (u.output.mark + counts_of x.printed by) u.last read) x y result
    pub failed : IfOk result (λ lost. lost ≡ true → HasPrinterFailed by (v x) (v y))
    pub counted : IfOk result (λ lost. printed_end lost read ≡ None → u.last ≤ u.output.mark + counts_of y.printed by)
    pub cause : SpoolStops names_nothing result by.0 (v x) (v y)
    pub lines : OnErr result ((n : ℕ) → names_read read n ≡ false)

-- OVER THE SHARED VALUE

module _ {P C : Type 0} {plants : PlantGhosts P} {steadies : SteadyGhosts C} {copies : CopyGhosts C} where
  abbrev pub MayPrint : Complex P C plants steadies copies → MemberId → Upto → Read → Type 0
  MayPrint x by u read = IsToPrint plants (parts_of x) by u read

  abbrev pub Prints : Complex P C plants steadies copies → Complex P C plants steadies copies → MemberId → Upto → Read
      → Result Bool NodeNo → Type 0
  Prints x y by u read result = HasPrinted plants (parts_of x) (parts_of y) by u read result
