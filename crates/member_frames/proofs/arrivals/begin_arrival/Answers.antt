use Rattle.std.proofs.Common.{◌≡◌, ◌∙◌, ◌+◌, ◌*◌, ◌≤◌, ℕ, true, List, [], ◌∷◌, ◌++◌, length, None, Some, refl, sym, ap, subst, arith}
use Rattle.mas_types.specs.declared.answers.Closing.TheVariants as closing
use Rattle.mas_types.specs.declared.commands.Command.TheVariants.{Begin}
use Rattle.mas_types.specs.declared.ids.MemberId.{MemberId}
use Rattle.mas_types.specs.declared.journals.Entry.{Entry}
use Rattle.mas_types.specs.declared.queues.Config.{Config}
use Rattle.mas_types.specs.declared.queues.Owner.{Owner}
use Rattle.mas_types.specs.declared.queues.Queue.{Queue}
use Rattle.mas_types.specs.Owners.{groups_needed, member_count}
use Rattle.mas_types.specs.Queue.{is_member}
use Rattle.ckpt_tables.specs.declared.tables.Tables.{Tables}
use Rattle.mas_complex.specs.Journals.{kept_all}
use Rattle.mas_complex.specs.Meaning.{run}
use Rattle.mas_complex.specs.Parts.{parts_of}
use Rattle.member_steps.specs.Steps.{entry_of}
use Rattle.member_steps.proofs.StepLemmas.{if_ok}
use Rattle.member_decks.specs.Decks.{ends_as, given_in, opening}
use Rattle.member_decks.specs.Steps.{AreOf}
use Rattle.member_decks.specs.Taking.{LeaveOut}
use Rattle.member_decks.proofs.DeckLemmas.{closed_of, given_of, groups_few, opened_enough}
use Rattle.member_decks.proofs.OpenLemmas.{tells_some}
use Rattle.step_turns.specs.Decks.{job_opened}
use Rattle.step_turns.specs.Entries.{closing_reply}
use Rattle.step_turns.specs.declared.states.State.TheVariants.{Away, Told}
use Rattle.step_turns.specs.declared.states.Aside.TheVariants.{SpoolArrival}
use Rattle.step_turns.specs.declared.states.State.{State}
use Rattle.member_sittings.specs.Asides.{HasGroups}
use Rattle.member_sittings.specs.Ends.{deck_end, ends_in}
use Rattle.member_sittings.specs.Sat.{IsSatOn}
use Rattle.member_sittings.proofs.KeepLemmas.{sat_given_up}
use Rattle.member_sittings.proofs.SeatLemmas.{cuts_opened, front_is, keeps_opened, of_strip, one_some, opened_of, or_one, strip}
use Rattle.member_sittings.proofs.TurnLemmas.{all_of_one, opened_alike, with_closed, with_ready}
use Rattle.member_frames.proofs.Answered.{fewer_left, fewer_told}
use Rattle.member_frames.proofs.Arriving.{ArrivalTurn, Firsts, arrival_closes, arrival_few, arrival_says, arrival_sits, arrival_waits, ends_next, fewer_away}
use Rattle.member_frames.proofs.SatLemmas.{waits_left}
use Rattle.member_frames.proofs.arrivals.begin_arrival.Goals as goal

pub open_deck-requires-clause-member : goal.open_deck-requires-clause-member
open_deck-requires-clause-member g c = let s = c.requires.may.sits.seat.still in subst (λ (k : Config). is_member k c.args.member.now.id ≡ true) s.config s.holds.member

pub open_deck-requires-clause-order : goal.open_deck-requires-clause-order
open_deck-requires-clause-order g c =
    let need : ℕ = groups_needed c.args.read.text in
    let groups : c.groups_needed-groups.result ≡ need = c.groups_needed-groups.ensures in
    let few = groups_few c.args.read.text c.requires.text in
    let order = c.requires.may.bounds.order in
    omega (arith, groups, few, order)

-- OUT OF MEMORY

pub give_up_sitting-requires : goal.give_up_sitting-requires
give_up_sitting-requires g c =
    let x = parts_of c.args.complex.now in
    let m = c.args.member.now in
    let n = c.open_deck.new.member in
    let d = c.open_deck.ensures in
    let h = c.args.holder in
    let fields = c.args.read.fields in
    let few = groups_few c.args.read.text c.requires.text in
    let groups : c.groups_needed-groups.result ≡ groups_needed c.args.read.text = c.groups_needed-groups.ensures in
    cuts_opened g.P.Plant g.C.Copying x m n h fields c.groups_needed-groups.result _ c.requires.may (record { id = d.id; room = d.room; here = d.here; fresh = d.fresh; level = d.level; levels = d.levels; pages = d.pages; config = d.config; spelling = d.spelling; fit = d.fit }) c.requires.fields (omega (arith, few, groups)) c.in_default.ensures.opening d.order d.done d.sound c.kept_texts.ensures.kept

pub returns-in_default-clause-begins : goal.returns-in_default-clause-begins
returns-in_default-clause-begins g c =
    let P = g.P.Plant in
    let x = c.args.complex.now in
    let m = c.args.member.now in
    let n = c.open_deck.new.member in
    let h = c.args.holder in
    let z = c.give_up_sitting.new.complex in
    let cut = c.give_up_sitting.ensures.cut in
    let fields = c.args.read.fields in
    let text = c.args.read.text in
    let need : ℕ = groups_needed text in
    let groups : c.groups_needed-groups.result ≡ need = c.groups_needed-groups.ensures in
    let Q : Queue = run x.base (kept_all x.journal.batches) in
    let First : List Entry = Firsts Q h c.args.read c.args.service in
    let T = ArrivalTurn Q h c.args.read c.args.service in
    let of_m : AreOf m.id h.step n.batch = opened_of h.step fields c.groups_needed-groups.result m n _ c.in_default.ensures.opening in
    let of : AreOf h.by h.step n.batch = subst (λ (i : MemberId). AreOf i h.step n.batch) (sym c.requires.may.holder) of_m in
    let e : Entry = entry_of Q h.by h.step (Begin fields) in
    let rest : List Entry = or_one e (strip n.batch First) in
    let gave_up = sat_given_up P h.by h refl T.next T.lines (parts_of x) (parts_of z) n.batch rest _ (one_some e (strip n.batch First)) cut.acts cut.leaves cut.counts in
    record {
      sitting = ends_in h ((n.batch ++ rest) ∷ []) T.next T.lines;
      is = λ t.
          let part_m = (c.in_default.ensures.opening Q (c.requires.may.sits.seat.between.queue t)).part in
          let part_n : LeaveOut n.batch (given_in Q m.id h.step (opening Q m.id fields need)) = subst (λ (k : ℕ). LeaveOut n.batch (given_in Q m.id h.step (opening Q m.id fields k))) groups part_m in
          let part : LeaveOut n.batch First = subst (λ (i : MemberId). LeaveOut n.batch (given_in Q i h.step (opening Q i fields need))) (sym c.requires.may.holder) part_n in
          ap (λ (es : List Entry). ends_in h (es ∷ []) T.next T.lines) (front_is n.batch First e part) ∙ sym (arrival_sits Q h c.args.read c.args.service);
      of = all_of_one h.by h.step (n.batch ++ rest) (of_strip h.by h.step n.batch First e (refl, refl) of (given_of h.by h.step (opening Q h.by fields need) Q));
      few = arrival_few h c.args.read c.args.service (job_opened Q h.by fields need) First (n.batch ++ rest);
      says = arrival_says h c.args.read c.args.service (job_opened Q h.by fields need) First;
      release = refl;
      sat = gave_up.sat;
    }

-- BEGIN OR A TAKE WAS REFUSED

pub close_deck-requires-clause-may : goal.close_deck-requires-clause-may
close_deck-requires-clause-may g c =
    let x = parts_of c.args.complex.now in
    let m = c.args.member.now in
    let n = c.open_deck.new.member in
    let d = c.open_deck.ensures in
    let h = c.args.holder in
    let fields = c.args.read.fields in
    let few = groups_few c.args.read.text c.requires.text in
    let groups : c.groups_needed-groups.result ≡ groups_needed c.args.read.text = c.groups_needed-groups.ensures in
    keeps_opened g.P.Plant g.C.Copying x m n h fields c.groups_needed-groups.result _ c.in-Ok.ensures.opening
    (cuts_opened g.P.Plant g.C.Copying x m n h fields c.groups_needed-groups.result _ c.requires.may (record { id = d.id; room = d.room; here = d.here; fresh = d.fresh; level = d.level; levels = d.levels; pages = d.pages; config = d.config; spelling = d.spelling; fit = d.fit }) c.requires.fields (omega (arith, few, groups)) c.in-Ok.ensures.opening d.order d.done d.sound c.kept_texts.ensures.kept)

pub returns-in_default-opened-clause-begins : goal.returns-in_default-opened-clause-begins
returns-in_default-opened-clause-begins g c =
    let x = c.args.complex.now in
    let m = c.args.member.now in
    let n = c.open_deck.new.member in
    let h = c.args.holder in
    let fields = c.args.read.fields in
    let text = c.args.read.text in
    let need : ℕ = groups_needed text in
    let groups : c.groups_needed-groups.result ≡ need = c.groups_needed-groups.ensures in
    let Q : Queue = run x.base (kept_all x.journal.batches) in
    let First : List Entry = Firsts Q h c.args.read c.args.service in
    let of_m : AreOf m.id h.step n.batch = opened_of h.step fields c.groups_needed-groups.result m n _ c.in-Ok.ensures.opening in
    record {
      sitting = deck_end h n.batch None;
      is = λ t.
          let tells = c.requires.may.sits.seat.between.queue t in
          let first_m : n.batch ≡ given_in Q m.id h.step (opening Q m.id fields need) = subst (λ (k : ℕ). n.batch ≡ given_in Q m.id h.step (opening Q m.id fields k)) groups (c.in-Ok.ensures.opening Q tells).part in
          let first : n.batch ≡ First = first_m ∙ ap (λ (i : MemberId). given_in Q i h.step (opening Q i fields need)) (sym c.requires.may.holder) in
          let ends_m : c.in-Ok.opened ≡ ends_as Q m.id fields need = subst (λ (k : ℕ). c.in-Ok.opened ≡ ends_as Q m.id fields k) groups (c.in-Ok.ensures.opened Q tells) in
          let ends : ends_as Q h.by fields need ≡ c.in-Ok.opened = sym (ends_m ∙ ap (λ (i : MemberId). ends_as Q i fields need) (sym c.requires.may.holder)) in
          let closed : job_opened Q h.by fields need ≡ None = with_closed (job_opened Q h.by fields need) (sym (opened_alike Q h.by fields need) ∙ ends ∙ closed_of c.in-Ok.opened c.in_default-opened.not-Ready) in
          ap (λ (es : List Entry). deck_end h es None) first ∙ sym (arrival_closes Q h c.args.read c.args.service closed);
      of = all_of_one h.by h.step n.batch (subst (λ (i : MemberId). AreOf i h.step n.batch) (sym c.requires.may.holder) of_m);
      few = omega arith;
      says = (closing.Reply (closing_reply n.batch), refl, tt);
      release = refl;
      sat = c.close_deck.ensures.sat.sat;
    }

pub returns-in_default-opened-clause-waits : goal.returns-in_default-opened-clause-waits
returns-in_default-opened-clause-waits g c =
    let es : List Entry = c.open_deck.new.member.batch in
    let r = c.close_deck.result in
    waits_left g.P.Plant.tells c.close_deck.new.member r Told tt (ends_next (deck_end c.args.holder es None) r c.close_deck.ensures.sat.sat.ends)

pub returns-in_default-opened-clause-again : goal.returns-in_default-opened-clause-again
returns-in_default-opened-clause-again g c =
    let x = c.args.complex.now in
    let m = c.args.member.now in
    let z = c.close_deck.new.complex in
    let l = c.close_deck.new.member in
    let d = c.open_deck.ensures in
    let few = groups_few c.args.read.text c.requires.text in
    let groups : c.groups_needed-groups.result ≡ groups_needed c.args.read.text = c.groups_needed-groups.ensures in
    let tables = ap (λ (t : Tables). t.order) c.close_deck.ensures.tables in
    if_ok _ (λ e. IsSatOn g.P.Plant g.C.Copying (parts_of x) (parts_of z) m l c.args.holder.step e) c.close_deck.result
    (λ e on. record { sits = on.sits; grown = record { order = omega (arith, d.order, few, groups, tables); high = rw d.level at on.grown.high; reached = on.grown.reached } }) c.close_deck.ensures.again

pub returns-in_default-opened-clause-fewer : goal.returns-in_default-opened-clause-fewer
returns-in_default-opened-clause-fewer g c =
    let n : ℕ = length c.args.service.frames in
    let es : List Entry = c.open_deck.new.member.batch in
    let r = c.close_deck.result in
    fewer_told (2 * n + 3) (2 * n + 2) r (omega arith) (ends_next (deck_end c.args.holder es None) r c.close_deck.ensures.sat.sat.ends)

-- THE GROUPS ARE THERE

pub pause_sitting-requires : goal.pause_sitting-requires
pause_sitting-requires g c =
    let x = parts_of c.args.complex.now in
    let m = c.args.member.now in
    let n = c.open_deck.new.member in
    let d = c.open_deck.ensures in
    let h = c.args.holder in
    let fields = c.args.read.fields in
    let few = groups_few c.args.read.text c.requires.text in
    let groups : c.groups_needed-groups.result ≡ groups_needed c.args.read.text = c.groups_needed-groups.ensures in
    keeps_opened g.P.Plant g.C.Copying x m n h fields c.groups_needed-groups.result _ c.in-Ok.ensures.opening
    (cuts_opened g.P.Plant g.C.Copying x m n h fields c.groups_needed-groups.result _ c.requires.may (record { id = d.id; room = d.room; here = d.here; fresh = d.fresh; level = d.level; levels = d.levels; pages = d.pages; config = d.config; spelling = d.spelling; fit = d.fit }) c.requires.fields (omega (arith, few, groups)) c.in-Ok.ensures.opening d.order d.done d.sound c.kept_texts.ensures.kept)

pub returns-clause-begins : goal.returns-clause-begins
returns-clause-begins g c =
    let x = c.args.complex.now in
    let m = c.args.member.now in
    let n = c.open_deck.new.member in
    let h = c.args.holder in
    let fields = c.args.read.fields in
    let text = c.args.read.text in
    let job = c.in-Ready.job in
    let need : ℕ = groups_needed text in
    let groups : c.groups_needed-groups.result ≡ need = c.groups_needed-groups.ensures in
    let Q : Queue = run x.base (kept_all x.journal.batches) in
    let First : List Entry = Firsts Q h c.args.read c.args.service in
    let of_m : AreOf m.id h.step n.batch = opened_of h.step fields c.groups_needed-groups.result m n _ c.in-Ok.ensures.opening in
    record {
      sitting = ends_in h (n.batch ∷ []) (Away (SpoolArrival c.args.read.number job text c.args.service)) [];
      is = λ t.
          let tells = c.requires.may.sits.seat.between.queue t in
          let first_m : n.batch ≡ given_in Q m.id h.step (opening Q m.id fields need) = subst (λ (k : ℕ). n.batch ≡ given_in Q m.id h.step (opening Q m.id fields k)) groups (c.in-Ok.ensures.opening Q tells).part in
          let first : n.batch ≡ First = first_m ∙ ap (λ (i : MemberId). given_in Q i h.step (opening Q i fields need)) (sym c.requires.may.holder) in
          let ends_m : c.in-Ok.opened ≡ ends_as Q m.id fields need = subst (λ (k : ℕ). c.in-Ok.opened ≡ ends_as Q m.id fields k) groups (c.in-Ok.ensures.opened Q tells) in
          let ends : ends_as Q h.by fields need ≡ c.in-Ok.opened = sym (ends_m ∙ ap (λ (i : MemberId). ends_as Q i fields need) (sym c.requires.may.holder)) in
          let ready : job_opened Q h.by fields need ≡ Some job = with_ready (job_opened Q h.by fields need) job (sym (opened_alike Q h.by fields need) ∙ ends ∙ c.in-Ready.is) in
          ap (λ (es : List Entry). ends_in h (es ∷ []) (Away (SpoolArrival c.args.read.number job text c.args.service)) []) first ∙ sym (arrival_waits Q h c.args.read c.args.service job ready);
      of = all_of_one h.by h.step n.batch (subst (λ (i : MemberId). AreOf i h.step n.batch) (sym c.requires.may.holder) of_m);
      few = omega arith;
      says = refl;
      release = refl;
      sat = c.pause_sitting.ensures.sat.sat;
    }

pub returns-clause-waits : goal.returns-clause-waits
returns-clause-waits g c =
    let m = c.args.member.now in
    let n = c.open_deck.new.member in
    let l = c.pause_sitting.new.member in
    let at = c.args.holder.step in
    let fields = c.args.read.fields in
    let text = c.args.read.text in
    let d = c.open_deck.ensures in
    let e = c.pause_sitting.ensures in
    let need : ℕ = groups_needed text in
    let groups : c.groups_needed-groups.result ≡ need = c.groups_needed-groups.ensures in
    let sh = tells_some m.checkpoint.tables in
    let o = c.in-Ok.ensures.opening sh.0 sh.1 in
    let first : n.batch ≡ given_in sh.0 m.id at (opening sh.0 m.id fields need) = subst (λ (i : ℕ). n.batch ≡ given_in sh.0 m.id at (opening sh.0 m.id fields i)) groups o.part in
    let ends : c.in-Ok.opened ≡ ends_as sh.0 m.id fields need = subst (λ (i : ℕ). c.in-Ok.opened ≡ ends_as sh.0 m.id fields i) groups (c.in-Ok.ensures.opened sh.0 sh.1) in
    let has = opened_enough m.id at fields need sh.0 c.in-Ready.job (sym ends ∙ c.in-Ready.is) in
    let owners : (run sh.0 (given_in sh.0 m.id at (opening sh.0 m.id fields need))).owners ≡ l.checkpoint.tables.owners =
    ap (λ (es : List Entry). (run sh.0 es).owners) (sym first) ∙ o.effect.owners ∙ sym (ap (λ (u : Tables). u.owners) e.tables) in
    let enough : need ≤ member_count l.id l.checkpoint.tables.owners =
    subst (λ (i : MemberId). need ≤ member_count i l.checkpoint.tables.owners) (sym (e.id ∙ d.id)) (subst (λ (os : List Owner). need ≤ member_count m.id os) owners has) in
    let groups_there : HasGroups l text = record { lines = c.requires.text; enough = enough } in
    let r = c.args.read in
    let next : State = Away (SpoolArrival r.number c.in-Ready.job r.text c.args.service) in
    waits_left g.P.Plant.tells l c.pause_sitting.result next (c.requires.servable, c.requires.more, groups_there) (ends_next (ends_in c.args.holder (n.batch ∷ []) next []) c.pause_sitting.result e.sat.sat.ends)

pub returns-clause-again : goal.returns-clause-again
returns-clause-again g c =
    let x = c.args.complex.now in
    let m = c.args.member.now in
    let z = c.pause_sitting.new.complex in
    let l = c.pause_sitting.new.member in
    let d = c.open_deck.ensures in
    let few = groups_few c.args.read.text c.requires.text in
    let groups : c.groups_needed-groups.result ≡ groups_needed c.args.read.text = c.groups_needed-groups.ensures in
    let tables = ap (λ (t : Tables). t.order) c.pause_sitting.ensures.tables in
    if_ok _ (λ e. IsSatOn g.P.Plant g.C.Copying (parts_of x) (parts_of z) m l c.args.holder.step e) c.pause_sitting.result
    (λ e on. record { sits = on.sits; grown = record { order = omega (arith, d.order, few, groups, tables); high = rw d.level at on.grown.high; reached = on.grown.reached } }) c.pause_sitting.ensures.again

pub returns-clause-fewer : goal.returns-clause-fewer
returns-clause-fewer g c =
    let r = c.args.read in
    let n : ℕ = length c.args.service.frames in
    let es : List Entry = c.open_deck.new.member.batch in
    let next : State = Away (SpoolArrival r.number c.in-Ready.job r.text c.args.service) in
    fewer_left (2 * n + 3) (2 * n + 2) c.pause_sitting.result next (fewer_away r.number c.in-Ready.job r.text c.args.service) (ends_next (ends_in c.args.holder (es ∷ []) next []) c.pause_sitting.result c.pause_sitting.ensures.sat.sat.ends)
