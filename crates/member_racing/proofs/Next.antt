-- A member that waits for its next turn waits still, whatever the others did.
use Rattle.std.proofs.Common.{◌≡◌, ◌∙◌, ◌≤◌, ◌<◌, ℕ, Bool, true, false, List, length, All, ap, subst, sym, arith}
use Rattle.mas_types.specs.declared.journals.Entry.{Entry}
use Rattle.mas_types.specs.declared.queues.Config.{Config}
use Rattle.mas_types.specs.declared.queues.Queue.{Queue}
use Rattle.mas_types.specs.Fit.{IsConfig}
use Rattle.mas_types.specs.Limits.{members_most}
use Rattle.mas_types.specs.Queue.{is_member}
use Rattle.mas_types.specs.Sound.{IsSound}
use Rattle.lock_cycle.specs.Books.{is_stopped}
use Rattle.script_lang.specs.declared.types.Ask.{Ask}
use Rattle.spool_plant.specs.declared.plant.Plant.{Ghosts as PlantGhosts}
use Rattle.ckpt_copy.specs.declared.copying.Copying.{Ghosts as CopyGhosts}
use Rattle.ckpt_form.specs.declared.steady.Steady.{Ghosts as SteadyGhosts}
use Rattle.ckpt_tables.specs.Shape.{page_count}
use Rattle.mas_complex.specs.declared.complex.Complex.{Complex}
use Rattle.mas_complex.specs.Parts.{parts_of}
use Rattle.gate_facts.specs.Values.{marked_at}
use Rattle.member_node.specs.declared.member.Member.{Member}
use Rattle.member_sittings.specs.Whole.{HasUntold}
use Rattle.member_racing.specs.Asked.{IsAsked}
use Rattle.member_racing.specs.Stages.{first_unsaid}
use Rattle.member_racing.specs.Waits.{IsAtEase, WaitsAt, Waits}
use Rattle.member_racing.specs.declared.stages.Stage.{Stage as Stands}
use Rattle.member_racing.proofs.Later.{KnowsOf, same_base, same_begun, same_lines, same_notes, same_stop}
use Rattle.member_racing.proofs.Members.{few_of, named_own, some_of}
use Rattle.member_racing.proofs.Unsaid.{untold_on}

-- there is a page at least
pub some_page : (c : Config) → 1 ≤ page_count c
some_page c = omega arith

-- WHAT IT FINDS

module _ {P C : Type 0} {plants : PlantGhosts P} {steadies : SteadyGhosts C} {copies : CopyGhosts C} (m : Member) (cares : List Bool) (mine : marked_at cares m.id.0 ≡ true)
    (x y : Complex P C plants steadies copies) (known : KnowsOf m.id cares x y) (at : ℕ) (what : Ask) (s : Stands) (was : Waits x m at what s) where
  some : 1 ≤ m.id.0
  some = some_of x.base.config m.id was.member

  few : m.id.0 ≤ members_most
  few = few_of x.base.config m.id was.member was.config

  base : y.base ≡ x.base
  base = same_base m.id cares some few mine x y known

  -- its own pages are the noted ones still
  at_ease : is_stopped y.book m.id ≡ false → IsAtEase plants copies (parts_of y) m
  at_ease up =
      let e : IsAtEase plants copies (parts_of x) m = was.ease (sym (same_stop m.id cares some few mine x y known) ∙ up) in
      let many : 1 ≤ length m.checkpoint.pages = let a = e.idle.many in let b = e.many in let c = some_page x.base.config in omega (arith, a, b, c) in
      record {
        idle = e.idle;
        many = e.many ∙ ap (λ (q : Queue). page_count q.config) (sym base);
        tables = ap (λ (q : Queue). q.config) base ∙ e.tables;
        noted = same_notes m.id cares some few mine x y known up m.fresh m.checkpoint.pages many e.noted;
      }

  untold : (later : ℕ) → HasUntold plants copies (parts_of x) m.id later → HasUntold plants copies (parts_of y) m.id later
  untold later was_so =
      untold_on plants copies (parts_of x) (parts_of y) m.id later base (named_own x.base.config m.id was.member) (same_lines m.id cares some few mine x y known) was_so

  -- so it waits still, if what its step waits for is as it was
  pub waits_on : (WaitsAt plants copies (parts_of x) m at s → WaitsAt plants copies (parts_of y) m at s) → Waits y m at what s
  waits_on stands = record {
    config = subst (λ (q : Queue). IsConfig q.config) (sym base) was.config;
    sound = λ t. subst IsSound (sym base) (was.sound t);
    member = ap (λ (q : Queue). is_member q.config m.id) base ∙ was.member;
    few = was.few;
    asked = subst (λ (q : Queue). IsAsked q m.id what) (sym base) was.asked;
    ease = at_ease;
    given = subst (λ (es : List Entry). All (λ (e : Entry). e.step ≤ at) es) (sym (same_begun m.id cares some few mine x y known)) was.given;
    earlier = λ down.
        subst (λ (es : List Entry). All (λ (e : Entry). e.step < first_unsaid at s) es) (sym (same_begun m.id cares some few mine x y known)) (was.earlier (sym (same_stop m.id cares some few mine x y known) ∙ down));
    untold = λ later from most. untold later (was.untold later from most);
    stands = stands was.stands;
  }
