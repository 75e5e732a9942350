use Rattle.member_sittings.proofs.Names.{◌≡◌, ◌≤◌, ℕ, true, List, [], ◌∷◌, ◌++◌, None, Some, Result, Ok, ◌∙◌, refl, sym, ap, subst, arith, MemberId, Entry, Config, Queue, groups_needed, member_count, is_member, Tables, kept_all, run, parts_of, entry_of, Opened, Tell, Member, ends_as, given_in, opening, AreOf, LeaveOut, tells_some, closed_of, groups_few, job_opened, entries_closing_reply as closing_reply, Away, SpoolDeck, nothing_found, HasGroups, deck_end, ends_in, IsToCut, IsToKeep, Fresh, Told, lines_by}
use Rattle.mas_types.specs.declared.commands.Command.TheVariants.{Begin}
use Rattle.mas_types.specs.declared.queues.Owner.{Owner}
use Rattle.member_decks.proofs.DeckLemmas.{given_of, opened_enough}
use Rattle.member_sittings.proofs.KeepLemmas.{sat_given_up}
use Rattle.member_sittings.proofs.TurnLemmas.{sits_by, DeckTurn, FirstPart, all_of_one, deck_sits, opened_alike, opened_with, opens_shaped, with_closed, with_ready}
use Rattle.member_sittings.proofs.SeatLemmas.{Opens, cuts_opened, front_is, keeps_opened, of_strip, one_some, opened_of, or_one, strip}
use Rattle.step_turns.specs.declared.states.Task.TheVariants.{Deck as DeckTask}
use Rattle.member_sittings.proofs.sittings.sit_deck.Given as given
use Rattle.member_sittings.specs.Sat.{begins}
use Rattle.member_sittings.proofs.sittings.sit_deck.Goals as goal
use Rattle.member_sittings.proofs.sittings.sit_deck.Goals.{After-open_deck}

-- THE COMMANDS OF THE OPENING, whatever came of them

module _ (g : given.Over) (c : After-open_deck g) where
  abbrev M : Member
  M = c.args.member.now

  abbrev N : Member
  N = c.open_deck.new.member

  abbrev TheQueue : Queue
  TheQueue = run c.args.complex.now.base (kept_all c.args.complex.now.journal.batches)

  abbrev needed : ℕ
  needed = groups_needed c.args.deck.text

  groups : c.groups_needed-groups.result ≡ needed
  groups = c.groups_needed-groups.ensures

  few_needed : c.groups_needed-groups.result ≤ 10000
  few_needed = let most = groups_few c.args.deck.text c.requires.deck.text in omega (arith, most, groups)

  module _ {T E : Type 0} (r : Result T E) (opens : Opens c.args.holder.step c.args.deck.fields c.groups_needed-groups.result M N r) where
    -- what was given may be kept, if anything
    may_cut : IsToCut g.P.Plant g.C.Copying (parts_of c.args.complex.now) N c.args.holder
    may_cut =
        let d = c.open_deck.ensures in
        cuts_opened g.P.Plant g.C.Copying (parts_of c.args.complex.now) M N c.args.holder c.args.deck.fields c.groups_needed-groups.result r c.requires.may (record { id = d.id; room = d.room; here = d.here; fresh = d.fresh; level = d.level; levels = d.levels; pages = d.pages; config = d.config; spelling = d.spelling; fit = d.fit }) c.requires.deck.fields few_needed opens d.order d.done d.sound c.kept_texts.ensures.kept

    of_holder : AreOf c.args.holder.by c.args.holder.step N.batch
    of_holder = subst (λ (i : MemberId). AreOf i c.args.holder.step N.batch) (sym c.requires.may.holder) (opened_of c.args.holder.step c.args.deck.fields c.groups_needed-groups.result M N r opens)

  -- it was opened so
  module _ {E : Type 0} (o : Opened) (opens : Opens {E = E} c.args.holder.step c.args.deck.fields c.groups_needed-groups.result M N (Ok o))
      (ends : (q : Queue) → Tell M.checkpoint.tables q → o ≡ ends_as q M.id c.args.deck.fields c.groups_needed-groups.result) where
    may_keep_it : IsToKeep g.P.Plant g.C.Copying (parts_of c.args.complex.now) N c.args.holder
    may_keep_it = keeps_opened g.P.Plant g.C.Copying (parts_of c.args.complex.now) M N c.args.holder c.args.deck.fields c.groups_needed-groups.result o opens (may_cut (Ok o) opens)

    first_of : (q : Queue) → Tell M.checkpoint.tables q → N.batch ≡ given_in q M.id c.args.holder.step (opening q M.id c.args.deck.fields needed)
    first_of q tells = subst (λ (k : ℕ). N.batch ≡ given_in q M.id c.args.holder.step (opening q M.id c.args.deck.fields k)) groups (opens q tells).part

    ends_of : (q : Queue) → Tell M.checkpoint.tables q → o ≡ ends_as q M.id c.args.deck.fields needed
    ends_of q tells = subst (λ (k : ℕ). o ≡ ends_as q M.id c.args.deck.fields k) groups (ends q tells)

    first_told : g.P.Plant.tells → N.batch ≡ FirstPart TheQueue c.args.holder c.args.deck.fields c.args.deck.text nothing_found
    first_told t = first_of TheQueue (c.requires.may.sits.seat.between.queue t) ∙ ap (λ (i : MemberId). given_in TheQueue i c.args.holder.step (opening TheQueue i c.args.deck.fields needed)) (sym c.requires.may.holder)

    ends_told : g.P.Plant.tells → opened_with (job_opened TheQueue c.args.holder.by c.args.deck.fields needed) ≡ o
    ends_told t =
        let ends = ends_of TheQueue (c.requires.may.sits.seat.between.queue t) ∙ ap (λ (i : MemberId). ends_as TheQueue i c.args.deck.fields needed) (sym c.requires.may.holder) in
        sym (opened_alike TheQueue c.args.holder.by c.args.deck.fields needed) ∙ sym ends

pub open_deck-requires-clause-member : goal.open_deck-requires-clause-member
open_deck-requires-clause-member g c = let s = c.requires.may.sits.seat.still in subst (λ (k : Config). is_member k c.args.member.now.id ≡ true) s.config s.holds.member

pub open_deck-requires-clause-order : goal.open_deck-requires-clause-order
open_deck-requires-clause-order g c =
    let groups : c.groups_needed-groups.result ≡ groups_needed c.args.deck.text = c.groups_needed-groups.ensures in
    omega (arith, groups, (groups_few c.args.deck.text c.requires.deck.text), c.requires.may.bounds.order)

-- OUT OF MEMORY

pub give_up_sitting-requires : goal.give_up_sitting-requires
give_up_sitting-requires g c = may_cut g (goal.at.give_up_sitting-requires g c).After-open_deck _ c.in_default.ensures.opening

pub returns-in_default : goal.returns-in_default
returns-in_default g c =
    let w = (goal.at.returns-in_default g c).After-open_deck in
    let h = c.args.holder in
    let fields = c.args.deck.fields in
    let text = c.args.deck.text in
    let Q : Queue = TheQueue g w in
    let First : List Entry = FirstPart Q h fields text nothing_found in
    let T = DeckTurn Q h fields text nothing_found in
    let m = c.args.member.now in
    let es = c.open_deck.new.member.batch in
    let e : Entry = entry_of Q h.by h.step (Begin fields) in
    let rest : List Entry = or_one e (strip es First) in
    let cut = c.give_up_sitting.ensures.cut in
    let gave_up = sat_given_up g.P.Plant h.by h refl T.next T.lines (parts_of c.args.complex.now) (parts_of c.give_up_sitting.new.complex) es rest _ (one_some e (strip es First)) cut.acts cut.leaves cut.counts in
    record {
      frame = c.give_up_sitting.ensures.frame;
      id = c.give_up_sitting.ensures.id ∙ c.open_deck.ensures.id;
      sat = record {
        sitting = ends_in h ((es ++ rest) ∷ []) T.next T.lines;
        is = λ t.
            let part_m = (c.in_default.ensures.opening Q (c.requires.may.sits.seat.between.queue t)).part in
            let part_n : LeaveOut es (given_in Q m.id h.step (opening Q m.id fields (needed g w))) = subst (λ (k : ℕ). LeaveOut es (given_in Q m.id h.step (opening Q m.id fields k))) (groups g w) part_m in
            let part : LeaveOut es First = subst (λ (i : MemberId). LeaveOut es (given_in Q i h.step (opening Q i fields (needed g w)))) (sym c.requires.may.holder) part_n in
            ap (λ (es : List Entry). ends_in h (es ∷ []) T.next T.lines) (front_is es First e part) ∙ sym (deck_sits Q h fields text nothing_found (job_opened Q h.by fields (needed g w)) refl);
        of = all_of_one h.by h.step (es ++ rest) (of_strip h.by h.step es First e (refl, refl) (of_holder g w _ c.in_default.ensures.opening) (given_of h.by h.step (opening Q h.by fields (needed g w)) Q));
        shaped = opens_shaped h fields text nothing_found (job_opened Q h.by fields (needed g w)) First (es ++ rest);
        sat = gave_up.sat;
        tight = gave_up.tight;
      };
      again = tt;
      goes = tt;
    }

-- BEGIN OR A TAKE WAS REFUSED

pub close_deck-requires-clause-may : goal.close_deck-requires-clause-may
close_deck-requires-clause-may g c = may_keep_it g (goal.at.close_deck-requires-clause-may g c).After-open_deck c.in-Ok.opened c.in-Ok.ensures.opening c.in-Ok.ensures.opened

pub returns-in_default-opened : goal.returns-in_default-opened
returns-in_default-opened g c =
    let w = (goal.at.returns-in_default-opened g c).After-open_deck in
    let o = c.in-Ok.opened in
    let k = c.in-Ok.ensures in
    let h = c.args.holder in
    let fields = c.args.deck.fields in
    let text = c.args.deck.text in
    let n = c.open_deck.new.member in
    let d = c.open_deck.ensures in
    let few = few_needed g w in
    sits_by g.P.Plant g.C.Copying (begins h (Fresh (DeckTask fields text))) Told (lines_by h.by h.step None (closing_reply n.batch)) (parts_of c.args.complex.now) (parts_of c.close_deck.new.complex) c.args.member.now n c.close_deck.new.member c.close_deck.result d.id d.level (omega (arith, d.order, few)) c.close_deck.ensures
    (λ t.
    let closed = with_closed (job_opened (TheQueue g w) h.by fields (needed g w)) (ends_told g w o k.opening k.opened t ∙ closed_of o c.in_default-opened.not-Ready) in
    ap (λ (es : List Entry). deck_end h es None) (first_told g w o k.opening k.opened t) ∙ sym (deck_sits (TheQueue g w) h fields text nothing_found None closed))
    (of_holder g w (Ok o) k.opening) (record { few = omega arith; release = refl; says = (refl, (closing_reply n.batch, refl)) }) (λ A a. a) tt

-- THE GROUPS ARE THERE

pub pause_sitting-requires : goal.pause_sitting-requires
pause_sitting-requires g c = may_keep_it g (goal.at.pause_sitting-requires g c).After-open_deck c.in-Ok.opened c.in-Ok.ensures.opening c.in-Ok.ensures.opened

pub returns : goal.returns
returns g c =
    let w = (goal.at.returns g c).After-open_deck in
    let o = c.in-Ok.opened in
    let k = c.in-Ok.ensures in
    let job = c.in-Ready.job in
    let h = c.args.holder in
    let fields = c.args.deck.fields in
    let text = c.args.deck.text in
    let m = c.args.member.now in
    let n = c.open_deck.new.member in
    let l = c.pause_sitting.new.member in
    let d = c.open_deck.ensures in
    let e = c.pause_sitting.ensures in
    let few = few_needed g w in
    let sh = tells_some m.checkpoint.tables in
    let has = opened_enough m.id h.step fields (needed g w) sh.0 job (sym (ends_of g w o k.opening k.opened sh.0 sh.1) ∙ c.in-Ready.is) in
    let owners : (run sh.0 (given_in sh.0 m.id h.step (opening sh.0 m.id fields (needed g w)))).owners ≡ l.checkpoint.tables.owners =
    ap (λ (es : List Entry). (run sh.0 es).owners) (sym (first_of g w o k.opening k.opened sh.0 sh.1)) ∙ (k.opening sh.0 sh.1).effect.owners ∙ sym (ap (λ (u : Tables). u.owners) e.tables) in
    let enough : needed g w ≤ member_count l.id l.checkpoint.tables.owners =
    subst (λ (i : MemberId). needed g w ≤ member_count i l.checkpoint.tables.owners) (sym (e.id ∙ d.id)) (subst (λ (os : List Owner). needed g w ≤ member_count m.id os) owners has) in
    let groups_there : HasGroups l text = record { lines = c.requires.deck.text; enough = enough } in
    sits_by g.P.Plant g.C.Copying (begins h (Fresh (DeckTask fields text))) (Away (SpoolDeck job text)) [] (parts_of c.args.complex.now) (parts_of c.pause_sitting.new.complex) m n l c.pause_sitting.result d.id d.level (omega (arith, d.order, few)) e
    (λ t.
    let ready = with_ready (job_opened (TheQueue g w) h.by fields (needed g w)) job (ends_told g w o k.opening k.opened t ∙ c.in-Ready.is) in
    ap (λ (es : List Entry). ends_in h (es ∷ []) (Away (SpoolDeck job text)) []) (first_told g w o k.opening k.opened t) ∙ sym (deck_sits (TheQueue g w) h fields text nothing_found (Some job) ready))
    (of_holder g w (Ok o) k.opening) (record { few = omega arith; release = refl; says = (refl, refl) }) (λ A a. a) groups_there
