-- The second batch of a deck's step: its job is entered with its text, or dropped.
use Rattle.member_decks.proofs.Names.{◌≡◌, ℕ, ◌≤◌, Bool, List, [], ◌∷◌, All, Option, None, Some, refl, sym, subst, arith, All-nil, All-cons, Spool, JobNo, GroupNo, MemberId, Text, Whole, Command, Entry, Queue, IsReplyNamed, View, AreTheirOwn, OthersLeaveTexts, run, HasTexts, IsThere, IsThereUnless, Spools, spools_at, IsOnlyOn, texts_after, finishing, given_in}
use Rattle.std.proofs.Math.Path.{fun_ext}
use Rattle.mas_types.specs.declared.commands.Command.TheVariants as command
use Rattle.mas_types.specs.declared.queues.Thing.{Thing}
use Rattle.mas_types.specs.declared.queues.Thing.TheVariants.{Deck}
use Rattle.mas_types.specs.Step as table
use Rattle.member_steps.specs.Entering.{EnterBringsText, groups_for}
use Rattle.member_steps.proofs.BroughtLemmas.{brought_holds}

-- A STEP'S LAST COMMAND

-- what holds of Enter and of Drop holds of it
pub finishing_all : (P : Command → Type 0) (lost : Option ℕ) (n : JobNo) (text : List (List ℕ)) → P (command.Enter n text) → P (command.Drop n) → P (finishing lost n text)
finishing_all P None n text enter drop = enter
finishing_all P (Some volume) n text enter drop = drop

pub one_named : (es : List Entry) (e : Entry) → es ≡ e ∷ [] → IsReplyNamed e.reply → All (λ (f : Entry). IsReplyNamed f.reply) es
one_named es e is named = subst (All (λ (f : Entry). IsReplyNamed f.reply)) (sym is) (All-cons (λ (f : Entry). IsReplyNamed f.reply) e [] named (All-nil (λ (f : Entry). IsReplyNamed f.reply)))

-- entries that are just one of a member's step are all of that step
pub one_of : (es : List Entry) (e : Entry) (by : MemberId) (at : ℕ) → es ≡ e ∷ [] → e.by ≡ by → e.step ≡ at → All (λ (f : Entry). (f.by ≡ by) × (f.step ≡ at)) es
one_of es e by at is one two = subst (All (λ (f : Entry). (f.by ≡ by) × (f.step ≡ at))) (sym is) (All-cons (λ (f : Entry). (f.by ≡ by) × (f.step ≡ at)) e [] (one, two) (All-nil (λ (f : Entry). (f.by ≡ by) × (f.step ≡ at))))

-- THE TEXTS AFTER A STEP'S LAST COMMAND

module _ (gone : ℕ → Bool) (disks : Spools) (per : ℕ) (Q : Queue) (m : MemberId) (at : ℕ) (own : AreTheirOwn Q) (has : HasTexts gone disks per Q) where
  abbrev StandsIn : Thing → Text → List GroupNo → Type 0
  StandsIn thing text groups = IsThereUnless gone disks per text groups

  -- each text stands, the entered one too
  pub finished_texts : OthersLeaveTexts → EnterBringsText → (lost : Option ℕ) (n : JobNo) (text : List (List ℕ))
      → (lost ≡ None → IsThere disks per (Whole text) (groups_for Q m text)) → HasTexts gone disks per (run Q (given_in Q m at (finishing lost n text ∷ [])))
  finished_texts others enter None n text there =
      let after = brought_holds StandsIn Q (record { decks = has.decks; outputs = has.outputs }) (Deck n) text (groups_for Q m text) (λ none. there refl) (table.step Q m (command.Enter n text)).0 (enter Q m n text own) in
      record { decks = after.decks; outputs = after.outputs }
  finished_texts others enter (Some volume) n text there = texts_after others gone disks per Q m (command.Drop n) refl own has

-- the volumes, where only the copies were acted on
pub spools_apart : (old new : View) → old.now ≤ new.now → IsOnlyOn old new → spools_at new new.now ≡ spools_at old old.now
spools_apart old new later only = fun_ext (λ n. only new.now later (omega arith) (Spool n) (λ same. absurd (cc)) (λ same. absurd (cc)))
