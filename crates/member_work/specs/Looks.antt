-- What the spool volumes and the printer give a unit of work.
use Rattle.member_work.specs.Names.{Text, Whole, Gone, Read}
use Rattle.std.specs.Prelude.{ℕ, Bool, false, List, [], ◌∷◌, Option, Some, None}
use Rattle.job_outcome.specs.declared.outcomes.Read.TheVariants as read

-- A unit finds the text of a job, or of an output, as the queue has it, or it was read otherwise: a volume was found
-- lost, or what is told of no content. And a volume may be found lost when the job's outputs are written, or the
-- printer where an output's lines are printed.
pub record Look : Type 0 where
  pub read : Option Read
  pub lost : Option ℕ
  pub printer : Bool

-- nothing is found lost
abbrev pub calm : Look
calm = record { read = None; lost = None; printer = false }

-- the looks of units one after another, one for each; the later ones are calm
abbrev pub first_look : List Look → Look
first_look [] = calm
first_look (look ∷ looks) = look

-- a text as the queue has it
abbrev pub as_it_is : Text → Read
as_it_is (Whole lines) = read.Lines lines
as_it_is (Gone group count) = read.Gone group

abbrev pub read_of : Option Read → Text → Read
read_of None text = as_it_is text
read_of (Some found) text = found
