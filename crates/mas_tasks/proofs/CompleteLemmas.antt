-- A generated script is played to its end: none of its lines loses a copy or resets a member.
use Rattle.std.proofs.Common.{◌≡◌, ◌≢◌, inl, inr, ⊎_elim, ℕ, zero, suc, ◌+◌, ◌%◌, ◌≤◌, ◌==◌, Bool, true, false, if◌then◌else◌, ◌&&◌, List, [], ◌∷◌, ◌++◌, get_or, Some, None, Ok, refl, sym, ◌∙◌, ap, subst, append_assoc, arith}
use Rattle.std.proofs.lemmas.Bool.{and_parts as both}
use Rattle.std.specs.Prelude.{All}
use Rattle.std.specs.List.{flat_map, list_all, range_with_len}
use Rattle.std.proofs.lemmas.List.Folds.{list_all-append}
use Rattle.std.proofs.lemmas.List.Sums.{AllPass-from_list_all}
use Rattle.mas_types.specs.declared.answers.Status.{Status}
use Rattle.mas_types.specs.declared.ids.Dev.{Dev}
use Rattle.mas_types.specs.declared.ids.Dev.TheVariants.{Ckpt1, Ckpt2}
use Rattle.mas_types.specs.declared.ids.MemberId.{MemberId}
use Rattle.script_lang.specs.declared.types.Ask.{Ask}
use Rattle.script_lang.specs.declared.types.Ask.TheVariants as ask
use Rattle.script_lang.specs.declared.types.Script.{Script}
use Rattle.script_lang.specs.declared.types.Step.{Step}
use Rattle.script_lang.specs.Script.{Said}
use Rattle.script_laws.specs.Grammar.{step_of_member}
use Rattle.spool_plant.specs.declared.plant.Part.TheVariants.{Console, Disk as DiskPart}
use Rattle.spool_plant.specs.View.{View}
use Rattle.spool_plant.specs.Acts.{Rose}
use Rattle.gen_work.specs.Generated.{IsDeckCount, script_text}
use Rattle.script_generated.specs.Steps.{PlaysGenerated, part_steps, script_generated, script_steps, sysa, sysb}
use Rattle.run_opening.specs.Lines.{Proceeds}
use Rattle.mas_types.specs.Lists.{first_some}
use Rattle.mas_run.specs.Refusals.{calm, refusal_before_play, said_by, steps_of, IsSaid}
use Rattle.run_opening.specs.Refusals.{refused_devices, IsPlayedOut, refusal_of}
use Rattle.mas_run.specs.Runs.{ReplacesNone}
use Rattle.mas_run.specs.Statuses.{AreLeftAlone, IsLeftAlone, IsStill, TakesNone, resets_in}
use Rattle.member_node.specs.Calls.{WasLost}
use Rattle.mas_tasks.specs.Generates.{IsUnhindered}
use Rattle.mas_tasks.proofs.GenerateLemmas.{Ends, Failing, Saying, Wanting}

-- THE STEPS are decks and work

abbrev is_plain_ask : Ask → Bool
is_plain_ask (ask.Deck cards) = true
is_plain_ask (ask.Work n) = true
is_plain_ask _ = false

abbrev is_plain : Step → Bool
is_plain s = is_plain_ask s.what

abbrev last : Step
last = step_of_member sysb (ask.Work 9999)

work_plain : (due : Bool) → list_all is_plain (if due then step_of_member sysa (ask.Work 40) ∷ [] else []) ≡ true
work_plain true = refl
work_plain false = refl

parts_plain : (n from : ℕ) → list_all is_plain (flat_map part_steps (range_with_len from n) ++ last ∷ []) ≡ true
parts_plain zero from = refl
parts_plain (suc n) from =
    let steps = flat_map part_steps (range_with_len (from + 1) n) ++ last ∷ [] in
    ap (list_all is_plain) (append_assoc (part_steps from) (flat_map part_steps (range_with_len (from + 1) n)) (last ∷ []))
    ∙ list_all-append is_plain (part_steps from) steps
    ∙ ap (λ (v : Bool). v && list_all is_plain steps) (work_plain (from % 4 == 0))
    ∙ parts_plain n (from + 1)

plain_steps : (n : ℕ) → list_all is_plain (script_steps n) ≡ true
plain_steps n = parts_plain n 1

not_lost : (what : Ask) (dev : Dev) → is_plain_ask what ≡ true → what ≢ ask.Lose dev
not_lost what dev plain e = let false_is : is_plain_ask what ≡ false = ap is_plain_ask e in absurd (cc)

not_replaced : (what : Ask) (dev : Dev) → is_plain_ask what ≡ true → what ≢ ask.Replace dev
not_replaced what dev plain e = let false_is : is_plain_ask what ≡ false = ap is_plain_ask e in absurd (cc)

not_reset : (what : Ask) (of : MemberId) → is_plain_ask what ≡ true → resets_in what ≡ Some of → ⊥
not_reset (ask.Deck cards) of plain e = absurd (cc)
not_reset (ask.Work n) of plain e = absurd (cc)
not_reset (ask.Command c) of plain e = absurd (cc)
not_reset (ask.Lose dev) of plain e = absurd (cc)
not_reset ask.Lock of plain e = absurd (cc)
not_reset ask.Free of plain e = absurd (cc)
not_reset (ask.Line n) of plain e = absurd (cc)
not_reset (ask.Replace dev) of plain e = absurd (cc)
not_reset ask.Stop of plain e = absurd (cc)
not_reset (ask.StopIn fuse n) of plain e = absurd (cc)

unasked : (dev : Dev) (steps : List Step) → list_all is_plain steps ≡ true → All (λ (s : Step). s.what ≢ ask.Lose dev) steps
unasked dev steps plain k d lt = not_lost (get_or steps k d).what dev (AllPass-from_list_all is_plain steps plain k d lt)

abbrev said_as : Script → Said
said_as script = Ok script

replaces_none : (dev : Dev) (steps : List Step) → list_all is_plain steps ≡ true → ReplacesNone dev steps
replaces_none dev steps plain k d lt = not_replaced (get_or steps k d).what dev (AllPass-from_list_all is_plain steps plain k d lt)

said_generated : (decks : ℕ) (script : Script) → PlaysGenerated → IsDeckCount decks → IsSaid true false (script_text decks) script → script ≡ script_generated decks
said_generated decks script plays count said =
    let same : said_as (script_generated decks) ≡ said_as script = sym (plays (calm true false) decks count refl) ∙ said in
    cc

-- no line of a generated script replaces a copy, however it was read
pub generated_renews : (decks : ℕ) (script : Script) → PlaysGenerated → IsDeckCount decks → IsSaid true false (script_text decks) script → (d : Dev) → ReplacesNone d script.steps
generated_renews decks script plays count said d =
    subst (λ (s : Script). ReplacesNone d s.steps) (sym (said_generated decks script plays count said)) (replaces_none d (script_steps decks) (plain_steps decks))

takes_none : (old new : View) (before steps : List Step) → list_all is_plain steps ≡ true → TakesNone old new before steps
takes_none old new before [] plain = tt
takes_none old new before (s ∷ steps) plain =
    let parts = both (is_plain s) (list_all is_plain steps) plain in
    (λ of e. absurd (not_reset s.what of parts.0 e), takes_none old new (s ∷ before) steps parts.1)

-- WHAT HOLDS OF THE WHOLE RUN holds of its lines

rose_on : (a b c : ℕ) → b ≤ c → Rose a b → Rose a c
rose_on a b c le rose = omega (arith, le, rose)

module _ (v0 v1 v2 : View) (goes : Proceeds v1 v2) (loses : (d : Dev) → v2.loses d ≡ v1.loses d) where
  was_lost : (d : Dev) → WasLost d v0 v1 → WasLost d v0 v2
  was_lost d was = ⊎_elim (λ failed. inl (rose_on (v0.faults (DiskPart d)) (v1.faults (DiskPart d)) (v2.faults (DiskPart d)) (goes.faults (DiskPart d)) failed))
      (λ lost. inr (subst (Rose (v0.loses d)) (sym (loses d)) lost)) was

  alone_by : (dev : Dev) (steps : List Step) → list_all is_plain steps ≡ true → IsLeftAlone dev [] v0 v2 → IsLeftAlone dev steps v0 v1
  alone_by dev steps plain a = record {
    there = a.there;
    counted = a.counted;
    failed = λ rose. a.failed (rose_on (v0.faults (DiskPart dev)) (v1.faults (DiskPart dev)) (v2.faults (DiskPart dev)) (goes.faults (DiskPart dev)) rose);
    unasked = unasked dev steps plain;
  }

  left_alone : (steps : List Step) → list_all is_plain steps ≡ true → AreLeftAlone [] v0 v2 → AreLeftAlone steps v0 v1
  left_alone steps plain alone = ⊎_elim
      (λ one. inl (alone_by Ckpt1 steps plain one.0, ⊎_elim (λ two. inl (alone_by Ckpt2 steps plain two)) (λ lost. inr lost) one.1))
      (λ two. inr (alone_by Ckpt2 steps plain two.0, two.1))
      alone

  still_before : (tells : Type 0) (steps : List Step) → list_all is_plain steps ≡ true → IsUnhindered tells v0 v2 → IsStill tells steps 0 0 v0 v1
  still_before tells steps plain h = record {
    source = λ rose. absurd (omega (arith, rose));
    disks = ⊎_elim (λ a. inl (a.0, left_alone steps plain a.1, takes_none v0 v1 [] steps plain)) (λ not. inr (λ one two. not (was_lost Ckpt1 one) (was_lost Ckpt2 two))) h.disks;
    console = λ rose. h.console (rose_on (v0.faults Console) (v1.faults Console) (v2.faults Console) (goes.faults Console) rose);
  }

  pub still_generated : (tells : Type 0) (decks : ℕ) → PlaysGenerated → IsDeckCount decks → IsUnhindered tells v0 v2 → IsStill tells (steps_of (said_by true false (script_text decks))) 0 0 v0 v1
  still_generated tells decks plays count h =
      subst (λ (steps : List Step). IsStill tells steps 0 0 v0 v1) (sym (ap steps_of (plays (calm true false) decks count refl)))
      (still_before tells (script_steps decks) (plain_steps decks) h)

-- and the end of it, once the lines were played
pub ends_out : (tells : Type 0) (line : List ℕ) (v0 v1 v2 : View) (answer : Status) → Proceeds v0 v1 → IsUnhindered tells v0 v2 → Ends tells line v1 v2 answer → IsPlayedOut true answer
ends_out tells line v0 v1 v2 _ goes h (Saying said) = tt
ends_out tells line v0 v1 v2 _ goes h (Failing said) = absurd (h.console (omega (arith, goes.faults Console, said.acts.failed refl)))
ends_out tells line v0 v1 v2 _ goes h (Wanting same) = tt

-- a generated script is refused only for a device that is too small
pub refusal_generated : (decks : ℕ) (v : View) → PlaysGenerated → IsDeckCount decks → first_some (refused_devices (script_generated decks).config v) ≡ None
    → refusal_before_play true false (script_text decks) v ≡ None
refusal_generated decks v plays count none = ap (refusal_of true v) (plays (calm true false) decks count refl) ∙ none
