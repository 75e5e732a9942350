-- What a line leaves that only closes, by what became of the act that says it.
use Rattle.std.proofs.Common.{◌≡◌, ◌<◌, ⊎_elim, ◌∙◌, ◌++◌, ℕ, false, List, Option, Some, None, Result, Ok, Err, append-nil, ap, refl, subst, sym, arith}
use Rattle.mas_types.specs.declared.answers.Closing.{Closing}
use Rattle.mas_types.specs.declared.ids.MemberId.{MemberId}
use Rattle.mas_types.specs.Closings.{closing_line}
use Rattle.mas_types.specs.Ids.{nobody}
use Rattle.lock_cycle.specs.declared.answers.LockNo.{LockNo}
use Rattle.lock_cycle.specs.Books.{Book, IsMember, after_stop, is_stopped}
use Rattle.spool_plant.specs.declared.plant.Act.TheVariants.{Done, Failed, Halted as ActHalted}
use Rattle.spool_plant.specs.declared.plant.Part.TheVariants.{Console}
use Rattle.spool_plant.specs.declared.plant.Plant.{Ghosts as PlantGhosts}
use Rattle.spool_plant.specs.View.{Line, View}
use Rattle.spool_plant.specs.Acts.{Acts, Said, Says}
use Rattle.mas_complex.specs.Locking.{IsUp}
use Rattle.mas_complex.specs.Parts.{Parts}
use Rattle.member_node.specs.declared.member.NodeNo.{NodeNo}
use Rattle.member_node.specs.declared.member.NodeNo.TheVariants.{ConsoleFault, Halted, NoMemory}
use Rattle.member_node.specs.Calls.{console_now}
use Rattle.member_node.proofs.SpareLemmas.{spares_done, spares_failed, spares_halted, spares_none}
use Rattle.member_steps.proofs.SayLemmas.{console_none, console_on}
use Rattle.member_steps.specs.Saying.{OnConsole}
use Rattle.step_turns.specs.declared.states.Release.TheVariants.{Keep}
use Rattle.run_turns.specs.Admissions.{Admission, Denied, Refused, denied_closing, tried}
use Rattle.run_turns.specs.Cuts.{Left, left_by}
use Rattle.run_turns.specs.Pieces.{closes_with}
use Rattle.run_turns.specs.Scenes.{Scene}
use Rattle.run_turns.specs.Sights.{Cut, Ends, Stops}
use Rattle.member_lines.specs.Closes.{HasClosed, HasStood, IsHaltedAtLine, IsSayer, IsTested, at_line, before_line, left_at}

module _ {P C : Type 0} (plants : PlantGhosts P) (S : Scene) (by : MemberId) (at : ℕ) (sayer : MemberId) (end : Closing) (x y : Parts P C) (same : S.book ≡ x.book) where
  abbrev V : View
  V = plants.view x.plant

  abbrev W : View
  W = plants.view y.plant

  abbrev A : Admission
  A = Refused sayer end

  abbrev line : List ℕ
  line = closing_line by at end

  -- the book is as it was, unless the member was stopped
  halted_book : (cut : Option Cut) → IsHaltedAtLine cut → (left_at S by at A cut).book ≡ after_stop S.book by
  halted_book cut h = subst (λ (c : Option Cut). (left_at S by at A c).book ≡ after_stop S.book by) (sym h.is) refl

  module _ (acts : Acts sayer.0 Console V W Done) (says : plants.tells → Says line V W Done) (book : y.book ≡ x.book) where
    pub closed_done : HasClosed plants S by at A sayer x y (Ok tt)
    closed_done = record {
      acts = console_on plants.tells sayer.0 line V V W Done (console_none plants.tells V) acts says;
      spares = spares_done sayer.0 Console V W acts;
      cause = tt;
      book = λ cut is. subst (λ (c : Option Cut). y.book ≡ (left_at S by at A c).book) (sym is) (book ∙ sym same);
      console = λ t. record { cut = None; is_cut = refl; lines = (says t).console };
    }

  module _ (acts : Acts sayer.0 Console V W Failed) (says : plants.tells → Says line V W Failed) (book : y.book ≡ x.book) where
    pub closed_failed : HasClosed plants S by at A sayer x y (Err ConsoleFault)
    closed_failed = record {
      acts = console_on plants.tells sayer.0 line V V W Failed (console_none plants.tells V) acts says;
      spares = spares_failed sayer.0 Console V W acts;
      cause = acts.failed refl;
      book = λ cut is. subst (λ (c : Option Cut). y.book ≡ (left_at S by at A c).book) (sym is) (book ∙ sym same);
      console = λ t. record { cut = at_line 0 None Ends; is_cut = refl; lines = (says t).console ∙ sym (append-nil (console_now V)) };
    }

  module _ (acts : Acts sayer.0 Console V W ActHalted) (says : plants.tells → Says line V W ActHalted) (book : y.book ≡ after_stop x.book by) where
    stood : Said line (console_now V) (console_now W) ActHalted → HasStood plants S by at A x y (Err Halted)
    stood said = ⊎_elim
        (λ none. record {
          cut = at_line 0 None Stops;
          is_cut = record { lines = 0; tail = None; few = omega arith; is = refl };
          lines = none ∙ sym (append-nil (console_now V));
        })
        (λ some. ⊎_elim
        (λ part. record {
          cut = at_line 0 (Some part.0) Stops;
          is_cut = record { lines = 0; tail = Some part.0; few = omega arith; is = refl };
          lines = part.1;
        })
        (λ all. record {
          cut = at_line 1 None Stops;
          is_cut = record { lines = 1; tail = None; few = omega arith; is = refl };
          lines = all;
        })
        some)
        said

    pub closed_halted : HasClosed plants S by at A sayer x y (Err Halted)
    closed_halted = record {
      acts = console_on plants.tells sayer.0 line V V W ActHalted (console_none plants.tells V) acts says;
      spares = spares_halted sayer.0 Console V W acts;
      cause = acts.halted refl;
      book = λ cut is. book ∙ ap (λ (b : Book). after_stop b by) (sym same) ∙ sym (halted_book cut is);
      console = λ t. stood (says t).console;
    }

  pub closed_none : y ≡ x → HasClosed plants S by at A sayer x y (Err NoMemory)
  closed_none is = subst (λ (z : Parts P C). HasClosed plants S by at A sayer x z (Err NoMemory)) (sym is) (record {
    acts = console_none plants.tells V;
    spares = spares_none sayer.0 V;
    cause = refl;
    book = λ cut e. subst (λ (c : Option Cut). x.book ≡ (left_at S by at A c).book) (sym e) (sym same);
    console = λ t. record { cut = before_line Ends; is_cut = refl; lines = sym (append-nil (console_now V)) };
  })

-- a line that is denied, by what is left of the refusal with the same words
module _ {P C : Type 0} (plants : PlantGhosts P) (S : Scene) (by : MemberId) (at : ℕ) (why : LockNo) (x y : Parts P C) (tried_so : tried S.book by (Denied why) ≡ x.book) where
  same_left : (cut : Option Cut) → left_at S by at (Denied why) cut ≡ left_at (record S { book = x.book }) by at (Refused by (denied_closing why)) cut
  same_left cut = ap (λ (b : Book). left_by by cut (record {
    sayer = by;
    pieces = closes_with by at (denied_closing why) Keep;
    book = b;
    locked = false;
    queue = S.queue;
    flight = S.flight;
  }) (S.counts by)) tried_so

  pub denied_so : (result : Result (Unit {0}) NodeNo) → HasClosed plants (record S { book = x.book }) by at (Refused by (denied_closing why)) by x y result → HasClosed plants S by at (Denied why) by x y result
  denied_so result h = record {
    acts = h.acts;
    spares = h.spares;
    cause = h.cause;
    book = λ cut is. h.book cut is ∙ sym (ap (λ (l : Left). l.book) (same_left cut));
    console = λ t. record {
      cut = (h.console t).cut;
      is_cut = (h.console t).is_cut;
      lines = (h.console t).lines ∙ ap (λ (ls : List Line). console_now (plants.view x.plant) ++ ls) (sym (ap (λ (l : Left). l.lines) (same_left (h.console t).cut)));
    };
  }

-- a line refused so is tested at any scene with the book
pub refused_tested : (S : Scene) (by sayer : MemberId) (end : Closing) (book : Book) → IsTested (record S { book = book }) by (Refused sayer end) book
refused_tested S by sayer end book = record { book = refl; flight = λ e. absurd (cc) }

-- WHO SAYS A LINE is up, and is one of the members if it may be stopped
module _ (b : Book) (sayer by : MemberId) (says : IsSayer b sayer by) where
  nobody_is_none : sayer ≡ nobody → 0 < sayer.0 → ⊥
  nobody_is_none is some = let none : sayer.0 ≡ 0 = ap (λ (m : MemberId). m.0) is in omega (arith, none, some)

  pub sayer_up : IsUp b sayer
  sayer_up some = ⊎_elim
      (λ none. absurd (nobody_is_none none some))
      (λ own. subst (λ (m : MemberId). is_stopped b m ≡ false) (sym own.0) own.2)
      says

  pub sayer_seated : 0 < sayer.0 → IsMember b by
  sayer_seated some = ⊎_elim (λ none. absurd (nobody_is_none none some)) (λ own. own.1) says

-- THE OPERATOR says that a member stopped
module _ {P : Type 0} (plants : PlantGhosts P) (line : List ℕ) (v w : View) where
  pub says_done : Acts 0 Console v w Done → (plants.tells → Says line v w Done) → OnConsole plants.tells v w
  says_done acts says = console_on plants.tells 0 line v v w Done (console_none plants.tells v) acts says

  pub says_failed : Acts 0 Console v w Failed → (plants.tells → Says line v w Failed) → OnConsole plants.tells v w
  says_failed acts says = console_on plants.tells 0 line v v w Failed (console_none plants.tells v) acts says
