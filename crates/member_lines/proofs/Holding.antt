-- A member that holds the lock says how its line closes, and leaves the lock or keeps it.
use Rattle.std.proofs.Common.{◌≡◌, ◌∙◌, ◌-◌, ◌++◌, ℕ, true, false, List, [], Option, None, Ok, Err, ap, refl, subst, sym, arith}
use Rattle.std.proofs.lemmas.List.{set-get_or}
use Rattle.mas_types.specs.declared.answers.Closing.{Closing}
use Rattle.mas_types.specs.declared.answers.Closing.TheVariants as closing
use Rattle.mas_types.specs.declared.commands.Reply.TheVariants as reply
use Rattle.mas_types.specs.declared.ids.MemberId.{MemberId}
use Rattle.mas_types.specs.declared.journals.Entry.{Entry}
use Rattle.lock_cycle.specs.declared.standings.Standing.{Standing}
use Rattle.lock_cycle.specs.Books.{Book, after_spend, after_stop, after_try, beginner, is_holder, is_stopped, left_of, standing, with_standing}
use Rattle.spool_plant.specs.declared.plant.Plant.{Ghosts as PlantGhosts}
use Rattle.spool_plant.specs.View.{Line}
use Rattle.mas_complex.specs.Parts.{Parts}
use Rattle.member_node.specs.declared.member.NodeNo.{NodeNo}
use Rattle.member_node.specs.declared.member.NodeNo.TheVariants.{BothLost, ConsoleFault, Halted, NoMemory}
use Rattle.member_node.specs.Calls.{console_now}
use Rattle.step_turns.specs.declared.states.Release.{Release}
use Rattle.step_turns.specs.declared.states.Release.TheVariants.{Keep, Outer}
use Rattle.run_turns.specs.Admissions.{Frees, Locks, Refused}
use Rattle.run_turns.specs.Cuts.{Left}
use Rattle.run_turns.specs.Pieces.{entered, released_by, spent}
use Rattle.run_turns.specs.Scenes.{Scene}
use Rattle.run_turns.specs.Sights.{Cause, Cut, Ends, Stops}
use Rattle.run_turns.proofs.Alone.{at_holder}
use Rattle.member_lines.specs.Closes.{HasClosed, HasClosedBy, IsCutAs, at_line, before_line, holds_at, left_at}

-- a hold of which nothing is spent
spent_none : (b : Book) (m : MemberId) → after_spend b m 0 ≡ b
spent_none b m =
    let whole : left_of b m - 0 ≡ left_of b m = omega arith in
    ap (λ (n : ℕ). with_standing b m (record (standing b m) { left = n })) whole
    ∙ ap (λ (members : List Standing). record b { members = members }) (set-get_or b.members (m.0 - 1) (beginner 0))

-- it closes with the word that it is done
abbrev pub says_ok : Closing
says_ok = closing.Reply reply.Plain

module _ (by : MemberId) (at : ℕ) (end : Closing) where
  -- what is left by a cut of a line that is refused with the same words
  abbrev pub refused_at : Scene → Book → Option Cut → Left
  refused_at S b cut = left_at (record S { book = b }) by at (Refused by end) cut

  module _ (S : Scene) (b : Book) (holds : is_holder b by ≡ true) (release : Release) where
    has : entered b by ≡ b
    has = at_holder (is_stopped b by) (is_holder b by) b _ holds

    still_spent : spent (entered b by) by [] ≡ b
    still_spent = ap (λ (c : Book). after_spend c by 0) has ∙ spent_none b by

    abbrev SameBook : Option Cut → Type 0
    SameBook cut = (holds_at by at end S b release cut).book ≡ (refused_at S b cut).book

    abbrev SameLines : Option Cut → Type 0
    SameLines cut = (holds_at by at end S b release cut).lines ≡ (refused_at S b cut).lines

    book_at : (n : ℕ) (tail : Option (List ℕ)) (cause : Cause) → SameBook (at_line n tail cause)
    book_at n tail Stops = ap (λ (c : Book). after_stop c by) has
    book_at n tail Ends = has

    pub cut_book : (e : NodeNo) (cut : Option Cut) → IsCutAs {T = Unit {0}} (Err e) cut → SameBook cut
    cut_book BothLost cut is = absurd is
    cut_book ConsoleFault cut is = subst (λ (c : Option Cut). SameBook c) (sym is) (book_at 0 None Ends)
    cut_book NoMemory cut is = subst (λ (c : Option Cut). SameBook c) (sym is) has
    cut_book Halted cut is = subst (λ (c : Option Cut). SameBook c) (sym is.is) (book_at is.lines is.tail Stops)

    pub cut_lines : (e : NodeNo) (cut : Option Cut) → IsCutAs {T = Unit {0}} (Err e) cut → SameLines cut
    cut_lines BothLost cut is = absurd is
    cut_lines ConsoleFault cut is = subst (λ (c : Option Cut). SameLines c) (sym is) refl
    cut_lines NoMemory cut is = subst (λ (c : Option Cut). SameLines c) (sym is) refl
    cut_lines Halted cut is = subst (λ (c : Option Cut). SameLines c) (sym is.is) refl

    -- the book once the line stands
    pub whole_book : (holds_at by at end S b release None).book ≡ released_by release b by
    whole_book = ap (λ (c : Book). released_by release c by) still_spent

  -- WHAT IS LEFT, by what is left of the refusal with the same words
  module _ {P C : Type 0} (plants : PlantGhosts P) (S : Scene) (left : Option Cut → Left) (release : Release) (x y : Parts P C) (holds : is_holder x.book by ≡ true)
      (same : (cut : Option Cut) → left cut ≡ holds_at by at end S x.book release cut) where
    -- the line couldn't be said
    pub unsaid_so : (e : NodeNo) → HasClosed plants (record S { book = x.book }) by at (Refused by end) by x y (Err e) → HasClosedBy plants left by x y (Err e)
    unsaid_so e h = record {
      acts = h.acts;
      spares = h.spares;
      cause = h.cause;
      book = λ cut is. h.book cut is ∙ sym (cut_book S x.book holds release e cut is) ∙ sym (ap (λ (l : Left). l.book) (same cut));
      console = λ t. record {
        cut = (h.console t).cut;
        is_cut = (h.console t).is_cut;
        lines = (h.console t).lines
            ∙ ap (λ (ls : List Line). console_now (plants.view x.plant) ++ ls) (sym (cut_lines S x.book holds release e (h.console t).cut (h.console t).is_cut) ∙ sym (ap (λ (l : Left). l.lines) (same (h.console t).cut)));
      };
    }

    -- the line stands, and then the lock is left or kept
    module _ (z : Parts P C) (plant : z.plant ≡ y.plant) (book : z.book ≡ released_by release x.book by) where
      pub said_so : HasClosed plants (record S { book = x.book }) by at (Refused by end) by x y (Ok tt) → HasClosedBy plants left by x z (Ok tt)
      said_so h =
          let w : HasClosed plants (record S { book = x.book }) by at (Refused by end) by x (record y { plant = z.plant }) (Ok tt) =
          subst (λ (p : P). HasClosed plants (record S { book = x.book }) by at (Refused by end) by x (record y { plant = p }) (Ok tt)) (sym plant) h in
          let its_book : z.book ≡ (left None).book = book ∙ sym (whole_book S x.book holds release) ∙ sym (ap (λ (l : Left). l.book) (same None)) in
          record {
            acts = w.acts;
            spares = w.spares;
            cause = w.cause;
            book = λ cut is. subst (λ (c : Option Cut). z.book ≡ (left c).book) (sym is) its_book;
            console = λ t. record {
              cut = None;
              is_cut = refl;
              lines = (w.console t).lines
                  ∙ ap (λ (c : Option Cut). console_now (plants.view x.plant) ++ (refused_at S x.book c).lines) (w.console t).is_cut
                  ∙ ap (λ (ls : List Line). console_now (plants.view x.plant) ++ ls) (sym (ap (λ (l : Left). l.lines) (same None)));
            };
          }

-- LINES OF A SCENE at which nothing flies
pub is_empty : (S : Scene) → S.flight ≡ None → S ≡ record S { flight = None }
is_empty S none = ap (λ (f : Option (List Entry)). record S { flight = f }) none

-- which say that all is done
module _ (by : MemberId) (at : ℕ) (S : Scene) (b : Book) (none : S.flight ≡ None) where
  pub frees_as : S.book ≡ b → (cut : Option Cut) → left_at S by at Frees cut ≡ holds_at by at says_ok S b Outer cut
  frees_as book cut = ap (λ (Z : Scene). left_at Z by at Frees cut) (is_empty S none) ∙ ap (λ (c : Book). holds_at by at says_ok S c Outer cut) book

  pub locks_as : after_try S.book by false ≡ b → (cut : Option Cut) → left_at S by at Locks cut ≡ holds_at by at says_ok S b Keep cut
  locks_as book cut = ap (λ (Z : Scene). left_at Z by at Locks cut) (is_empty S none) ∙ ap (λ (c : Book). holds_at by at says_ok S c Keep cut) book
