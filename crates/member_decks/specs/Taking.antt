-- What is done of commands that a member gives one after another in a step, also out of memory.
use Rattle.member_decks.specs.Names.{MemberId, Command, Entry, Queue, Tell, run, HasTexts, Spools}
use Rattle.std.specs.Prelude.{◌≡◌, ℕ, ◌≤◌, Bool, List, ◌++◌, length, Result, Ok, Err}
use Rattle.ckpt_tables.specs.declared.tables.Tables.{Tables}
use Rattle.member_steps.specs.Noting.{Member}
use Rattle.member_decks.specs.Decks.{given_in}

-- these entries are the first ones of all, but not all
abbrev pub LeaveOut : List Entry → List Entry → Type 0
LeaveOut es all = (rest : List Entry) × (all ≡ es ++ rest) × (1 ≤ length rest)

-- all of the entries were given, or, out of memory, the first ones or none
abbrev pub IsPart : {T E : Type 0} → Result T E → List Entry → List Entry → Type 0
IsPart (Ok done) es all = es ≡ all
IsPart (Err why) es all = LeaveOut es all

-- entries that leave a queue's texts on volumes where this holds
abbrev pub LeaveWhere : (Spools → ℕ → Type 0) → Queue → List Entry → Type 0
LeaveWhere holds Q es = (gone : ℕ → Bool) (disks : Spools) (per : ℕ) → holds disks per → HasTexts gone disks per Q
    → HasTexts gone disks per (run Q es)

-- commands that a member gives in a step, and the queue at which the first one is given
pub record Asked : Type 0 where
  pub queue : Queue
  pub by : MemberId
  pub at : ℕ
  pub commands : List Command

abbrev pub asked : Queue → MemberId → ℕ → List Command → Asked
asked Q by at cs = record { queue = Q; by = by; at = at; commands = cs }

-- What was given of these commands, at a queue that the tables told, and what the tables tell then.
pub record Gives {T E : Type 0} (a : Asked) (holds : Spools → ℕ → Type 0) (u : Tables) (gave : List Entry)
    (result : Result T E) : Type 0 where
  pub part : IsPart result gave (given_in a.queue a.by a.at a.commands)
  pub effect : Tell u (run a.queue gave)
  pub texts : LeaveWhere holds a.queue gave

-- what a member gave of them, behind the entries of its batch
pub record GivesAt {T E : Type 0} (a : Asked) (holds : Spools → ℕ → Type 0) (m n : Member) (result : Result T E)
    : Type 0 where
  pub gave : List Entry
  pub batch : n.batch ≡ m.batch ++ gave
  pub gives : Gives a holds n.checkpoint.tables gave result
