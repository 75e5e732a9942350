-- Chains of turns, and what one is where nobody else takes turns.
use Rattle.std.proofs.Common.{◌≡◌, ◌≢◌, ℕ, ◌<◌, Bool, true, false, List, [], ◌∷◌, length, Option, Some, None, Result, Ok, Err, refl, sym, ap, ◌∙◌, subst, arith}
use Rattle.std.specs.Prelude.{◌⊎◌, IfOk, IfErr, IfSome, OnOk}
use Rattle.mas_types.specs.declared.ids.MemberId.{MemberId}
use Rattle.spool_plant.specs.declared.plant.Plant.{Ghosts as PlantGhosts}
use Rattle.ckpt_copy.specs.declared.copying.Copying.{Ghosts as CopyGhosts}
use Rattle.ckpt_form.specs.declared.steady.Steady.{Ghosts as SteadyGhosts}
use Rattle.mas_complex.specs.declared.complex.Complex.{Complex}
use Rattle.mas_complex.specs.Journals.{kept_all}
use Rattle.mas_complex.specs.Parts.{Parts, parts_of, shown_of}
use Rattle.gate_facts.specs.declared.facts.Facts.{Facts}
use Rattle.gate_facts.specs.Memory.{MayGiveBack}
use Rattle.gate_turns.specs.Shared.{facts_of}
use Rattle.gate_turns.specs.Turning.{EachWay, MayHandBack}
use Rattle.queue_laws.proofs.RunLaws.{runs_keep_configuration}
use Rattle.member_node.specs.declared.member.Member.{Member}
use Rattle.member_node.specs.declared.member.NodeNo.{NodeNo}
use Rattle.member_decks.proofs.OpenLemmas.{on_ok}
use Rattle.step_turns.specs.Courses.{sittings_most}
use Rattle.step_turns.specs.declared.states.Holder.{Holder}
use Rattle.step_turns.specs.declared.states.State.{State}
use Rattle.step_turns.specs.declared.states.State.TheVariants.{Told}
use Rattle.member_sittings.specs.Sat.{Start}
use Rattle.member_sittings.specs.Whole.{IsSeat, queue_of}
use Rattle.member_hand.specs.Chains.{End, MayLeave, MayTakeTurns, Pause, PlaysPiece, TakesTurns, Turn, turn_to}
use Rattle.member_hand.specs.Plays.{HasPlayed, IsAfterPiece, IsAfterStep, MayPlay, Pieced, Played, played_in}
use Rattle.member_hand.specs.Sits.{start_of}
use Rattle.member_hand.specs.declared.sits.Stand.{Stand}
use Rattle.member_hand.proofs.Ending.{journal_is, told_played}
use Rattle.member_hand.proofs.Following.{step_then}
use Rattle.member_hand.proofs.PieceLemmas.{found_told, played_frame}

-- a step that goes on isn't told
more_steps : (s n : State) → sittings_most n < sittings_most s → s ≢ Told
more_steps s n falls told = let none : sittings_most s ≡ 0 = ap sittings_most told in absurd (omega (arith, none, falls))

module _ {P C : Type 0} {plants : PlantGhosts P} {steadies : SteadyGhosts C} {copies : CopyGhosts C} where
  -- a chain may begin with any of more values
  pub from_found : (follows : (Complex P C plants steadies copies) → (Complex P C plants steadies copies) → Type 0) (F G : (Complex P C plants steadies copies) → Type 0) → ((x : Complex P C plants steadies copies) → F x → G x) → (p : Pause) (ts : List (Turn (Complex P C plants steadies copies))) (e : End (Complex P C plants steadies copies)) (r : Result (Unit {0}) NodeNo)
      → TakesTurns follows F p ts e r → TakesTurns follows G p ts e r
  from_found follows F G more p [] e r chain = (more e.found chain.0, chain.1)
  from_found follows F G more p (t ∷ ts) e r chain = (more t.found chain.0, chain.1, chain.2)

  -- what a turn leaves may be handed back, by its answer
  pub may_leave : (finds : (Complex P C plants steadies copies) → Type 0) (follows : (Complex P C plants steadies copies) → (Complex P C plants steadies copies) → Type 0) (rests : Complex P C plants steadies copies → Type 0) (bound : Option ℕ) (cares : Bool → List Bool) (p : Pause) → MayTakeTurns finds follows rests bound cares p
      → (q : Pause) (x y : Complex P C plants steadies copies) (n : Member) (is : Option (List ℕ)) (r : Result Stand NodeNo) → q.member.id ≡ p.member.id → (finds x ⊎ ((w : Complex P C plants steadies copies) × follows w x)) → MayPlay x q.member (start_of q.stand)
      → parts_of y ≡ played_in (parts_of y) (parts_of x) → n.id ≡ q.member.id → IfOk r (Pieced x y (start_of q.stand) q.reader is) → IfOk r (IsAfterPiece x y q.member n (start_of q.stand))
      → IfErr r (λ why. Played x y q.member (start_of q.stand) q.reader is (Err why)) → MayLeave rests bound cares x y
  may_leave finds follows rests bound cares p may q x y n is (Ok at) same found play frame id piece next cut =
      may.whole q (turn_to (record { found = x; left = y; member = n; reader = is }) at) same found play (record { frame = frame; id = id; piece = piece; next = next })
  may_leave finds follows rests bound cares p may q x y n is (Err why) same found play frame id piece next cut =
      may.broken q (record { found = x; left = y; member = n; reader = is }) why same found play (record { frame = frame; id = id; played = cut })

  -- and where it has the value so, is bound so, and cares so
  pub handed_back : (rests : Complex P C plants steadies copies → Type 0) (x y : Complex P C plants steadies copies) (was bound : Option ℕ) (cared cares : Bool → List Bool) (taken : Bool → Facts) (held : Option (Complex P C plants steadies copies)) → bound ≡ was
      → ((told : Bool) → cares told ≡ cared told) → IfSome bound (λ m. EachWay plants.tells (λ told. taken told ≡ facts_of told (shown_of x))) → held ≡ Some y → MayLeave rests was cared x y
      → IfSome bound (λ m. IfSome held (λ z. MayHandBack plants.tells (rests z) m cares taken (shown_of z)))
  handed_back rests x y None bound cared cares taken held same cares_so took has may = subst (λ (o : Option ℕ). IfSome o (λ m. IfSome held (λ z. MayHandBack plants.tells (rests z) m cares taken (shown_of z)))) (sym same) tt
  handed_back rests x y (Some m) bound cared cares taken held same cares_so took has may =
      let found = subst (λ (o : Option ℕ). IfSome o (λ m. EachWay plants.tells (λ told. taken told ≡ facts_of told (shown_of x)))) same took in
      let each : (told : Bool) → taken told ≡ facts_of told (shown_of x) → MayGiveBack m (cared told) (facts_of told (shown_of x)) (facts_of told (shown_of y)) → MayGiveBack m (cares told) (taken told) (facts_of told (shown_of y)) =
      λ told e back. subst (λ (c : List Bool). MayGiveBack m c (taken told) (facts_of told (shown_of y))) (sym (cares_so told))
      (subst (λ (f : Facts). MayGiveBack m (cared told) f (facts_of told (shown_of y))) (sym e) back) in
      subst (λ (o : Option ℕ). IfSome o (λ m. IfSome held (λ z. MayHandBack plants.tells (rests z) m cares taken (shown_of z)))) (sym same)
      (subst (λ (o : Option (Complex P C plants steadies copies)). IfSome o (λ z. MayHandBack plants.tells (rests z) m cares taken (shown_of z))) (sym has)
      (record { rest = may.rest; theirs = record { bare = each false found.bare may.theirs.bare; told = λ t. each true (found.told t) (may.theirs.told t) } }))

  -- WHERE NOBODY ELSE TAKES TURNS

  -- what is found is what was left
  pub alone_may : (x : Complex P C plants steadies copies) (p : Pause) (cares : Bool → List Bool) → MayPlay x p.member (start_of p.stand) → (w : Complex P C plants steadies copies) → w ≡ x
      → MayTakeTurns (λ z. z ≡ w) (λ y z. z ≡ y) (λ z. Unit {0}) None cares p
  alone_may x p cares may w same = record {
    first = λ z e. subst (λ u. MayPlay u p.member (start_of p.stand)) (sym (e ∙ same)) may;
    next = λ y z q id e m. subst (λ u. MayPlay u q.member (start_of q.stand)) (sym e) m;
    whole = λ q t id found m plays. tt;
    broken = λ q e why id found m plays. tt;
  }

  -- the step from a pause on, played at once
  pub record PlaysAsOne (x : Complex P C plants steadies copies) (p : Pause) (e : End (Complex P C plants steadies copies)) (r : Result (Unit {0}) NodeNo) : Type 0 where
    pub base : e.left.base ≡ x.base
    pub since : e.left.since ≡ x.since
    pub renewals : e.left.renewals ≡ x.renewals
    pub id : e.member.id ≡ p.member.id
    pub played : HasPlayed plants copies (start_of p.stand) (parts_of x) (parts_of e.left) (length p.member.room) p.reader e.reader r
    pub next : OnOk r (IsAfterStep x e.left p.member e.member (start_of p.stand))

  -- a piece, and the step from there on
  piece_and : (p : Pause) (t : Turn (Complex P C plants steadies copies)) (e : End (Complex P C plants steadies copies)) (r : Result (Unit {0}) NodeNo) → PlaysPiece p t → PlaysAsOne t.left t.after e r → PlaysAsOne t.found p e r
  piece_and p t e r one rest =
      let goes = one.next.goes in
      let quiet = one.next.aside.quiet in
      let level = goes.level in
      let falls = goes.falls in
      let base = ap (λ (q : Parts P C). q.base) one.frame in
      record {
        base = rest.base ∙ base;
        since = rest.since ∙ ap (λ (q : Parts P C). q.since) one.frame;
        renewals = rest.renewals ∙ ap (λ (q : Parts P C). q.renewals) one.frame;
        id = rest.id ∙ one.id;
        played = step_then plants copies (start_of p.stand) (parts_of t.found) (parts_of t.left) (parts_of e.left) (length p.member.room) (more_steps p.stand.state t.after.stand.state falls)
            (sym (journal_is plants copies (parts_of t.left) quiet.none quiet.unplaced)) base (runs_keep_configuration t.found.base (kept_all t.found.journal.batches)).config
            r (start_of t.after.stand) one.piece.acts.course.goes rest.played.acts.course.goes p.reader t.after.reader e.reader goes.comes falls goes.few one.piece
            (subst (λ (k : ℕ). HasPlayed plants copies (start_of t.after.stand) (parts_of t.left) (parts_of e.left) k t.after.reader e.reader r) one.next.room rest.played);
        next = on_ok r (λ n. let more = n.level in record {
          aside = n.aside;
          room = n.room ∙ one.next.room;
          level = omega (arith, level, falls, more);
          seat = subst (λ (by : MemberId). e.left.book.holder ≡ by → IsSeat plants copies (parts_of e.left) e.member) (ap (λ (h : Holder). h.by) one.piece.one.holder) n.seat;
        }) rest.next;
      }

  -- a step that is told leaves nothing more
  told_one : (p : Pause) (e : End (Complex P C plants steadies copies)) (at : Stand) → PlaysPiece p (turn_to e at) → at.state ≡ Told → PlaysAsOne e.left (record { member = e.member; stand = at; reader = e.reader }) e (Ok tt)
  told_one p e at one told = record {
    base = refl;
    since = refl;
    renewals = refl;
    id = refl;
    played = told_played plants copies (start_of at) (parts_of e.left) (length e.member.room) one.next.aside.quiet told
        (λ t. found_told e.found.base.config.groups p.stand.holder.by (plants.view e.found.plant) (plants.view e.left.plant) (queue_of (parts_of e.left)) at.state at.found told (one.piece.told t).finds) e.reader;
    next = record {
      aside = one.next.aside;
      room = refl;
      level = omega arith;
      seat = subst (λ (by : MemberId). e.left.book.holder ≡ by → IsSeat plants copies (parts_of e.left) e.member) (sym (ap (λ (h : Holder). h.by) one.piece.one.holder)) one.next.seat;
    };
  }

  pub as_one : (x : Complex P C plants steadies copies) (p : Pause) (ts : List (Turn (Complex P C plants steadies copies))) (e : End (Complex P C plants steadies copies)) (r : Result (Unit {0}) NodeNo) → TakesTurns (λ y z. z ≡ y) (λ z. z ≡ x) p ts e r → PlaysAsOne x p e r
  as_one x p [] e (Ok done) chain =
      subst (λ z. PlaysAsOne z p e (Ok done)) chain.0 (let at = chain.1.0 in piece_and p (turn_to e at) e (Ok done) chain.1.1 (told_one p e at chain.1.1 chain.1.2))
  as_one x p [] e (Err why) chain =
      let one = chain.1 in
      subst (λ z. PlaysAsOne z p e (Err why)) chain.0 (record { base = ap (λ (q : Parts P C). q.base) one.frame; since = ap (λ (q : Parts P C). q.since) one.frame; renewals = ap (λ (q : Parts P C). q.renewals) one.frame; id = one.id; played = one.played; next = tt })
  as_one x p (t ∷ ts) e r chain = subst (λ z. PlaysAsOne z p e r) chain.0 (piece_and p t e r chain.1 (as_one t.left t.after ts e r chain.2))

  -- a value that ends as the chain left it
  pub record EndsAs (x w : Complex P C plants steadies copies) (m n : Member) (s : Start) (was is : Option (List ℕ)) (r : Result (Unit {0}) NodeNo) : Type 0 where
    pub frame : parts_of w ≡ played_in (parts_of w) (parts_of x)
    pub id : n.id ≡ m.id
    pub played : Played x w m s was is r
    pub next : OnOk r (IsAfterStep x w m n s)

  pub at_end : (x w y : Complex P C plants steadies copies) (p : Pause) (e : End (Complex P C plants steadies copies)) (r : Result (Unit {0}) NodeNo) → w ≡ y → y ≡ e.left → PlaysAsOne x p e r → EndsAs x w p.member e.member (start_of p.stand) p.reader e.reader r
  at_end x w y p e r one two plays =
      subst (λ z. EndsAs x z p.member e.member (start_of p.stand) p.reader e.reader r) (sym (one ∙ two))
      (record { frame = played_frame (parts_of x) (parts_of e.left) plays.base plays.since plays.renewals; id = plays.id; played = plays.played; next = plays.next })
