-- Entries that a member gives in a step, one after another.
use Rattle.std.proofs.Common.{◌≡◌, ℕ, suc, List, [], ◌∷◌, ◌++◌, length, append_assoc, refl, sym, ap, ◌∙◌}
use Rattle.mas_types.specs.declared.ids.MemberId.{MemberId}
use Rattle.mas_types.specs.declared.commands.Command.{Command}
use Rattle.mas_types.specs.declared.journals.Entry.{Entry}
use Rattle.mas_types.specs.declared.queues.Queue.{Queue}
use Rattle.mas_types.specs.Run.{run}
use Rattle.mas_types.specs.Step.{step}
use Rattle.step_turns.specs.Entries.{all_entries, commands_in, entry_of, given_in}

module _ (by : MemberId) (at : ℕ) where
  pub given_length : (Q : Queue) (cs : List Command) → length (given_in Q by at cs) ≡ length cs
  given_length Q [] = refl
  given_length Q (c ∷ cs) = ap suc (given_length (step Q by c).0 cs)

  pub given_commands : (Q : Queue) (cs : List Command) → commands_in (given_in Q by at cs) ≡ cs
  given_commands Q [] = refl
  given_commands Q (c ∷ cs) = ap (λ (ds : List Command). c ∷ ds) (given_commands (step Q by c).0 cs)

  pub given_append : (Q : Queue) (cs ds : List Command) → given_in Q by at cs ++ given_in (run Q (given_in Q by at cs)) by at ds ≡ given_in Q by at (cs ++ ds)
  given_append Q [] ds = refl
  given_append Q (c ∷ cs) ds = ap (λ (es : List Entry). entry_of Q by at c ∷ es) (given_append (step Q by c).0 cs ds)

  -- commands that were given are given again as they were
  pub given_again : (Q : Queue) (cs : List Command) (es : List Entry) → es ≡ given_in Q by at cs → given_in Q by at (commands_in es) ≡ es
  given_again Q cs es is = ap (λ (fs : List Entry). given_in Q by at (commands_in fs)) is ∙ ap (given_in Q by at) (given_commands Q cs) ∙ sym is

pub run_append : (Q : Queue) (es fs : List Entry) → run Q (es ++ fs) ≡ run (run Q es) fs
run_append Q [] fs = refl
run_append Q (e ∷ es) fs = run_append (step Q e.by e.command).0 es fs

pub entries_append : (ess fss : List (List Entry)) → all_entries (ess ++ fss) ≡ all_entries ess ++ all_entries fss
entries_append [] fss = refl
entries_append (es ∷ ess) fss = ap (λ (fs : List Entry). es ++ fs) (entries_append ess fss) ∙ sym (append_assoc es (all_entries ess) (all_entries fss))
