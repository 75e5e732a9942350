use Rattle.std.proofs.Common.{◌≡◌, ◌∙◌, ◌+◌, ◌*◌, ◌≤◌, ◌<◌, ◌^◌, ℕ, true, false, List, [], ◌∷◌, ◌++◌, length, None, Some, refl, sym, ap, subst, arith}
use Rattle.std.proofs.Math.Logic.{∥∥₁_map}
use Rattle.mas_types.specs.declared.commands.Command.{Command}
use Rattle.mas_types.specs.declared.commands.Command.TheVariants as command
use Rattle.mas_types.specs.declared.commands.Reply.{Reply}
use Rattle.mas_types.specs.declared.ids.MemberId.{MemberId}
use Rattle.mas_types.specs.declared.journals.Entry.{Entry}
use Rattle.mas_types.specs.declared.queues.Config.{Config}
use Rattle.mas_types.specs.declared.queues.Queue.{Queue}
use Rattle.mas_types.specs.Closings.{reply_lines}
use Rattle.mas_types.specs.Queue.{is_member}
use Rattle.queue_laws.specs.Laws.{is_refusal}
use Rattle.ckpt_tables.specs.declared.tables.Tables.{Tables}
use Rattle.queue_telling.specs.Telling.{TellSound}
use Rattle.mas_complex.specs.Journals.{kept_all}
use Rattle.mas_complex.specs.Meaning.{run, step}
use Rattle.mas_complex.specs.Parts.{parts_of}
use Rattle.mas_complex.specs.Texts.{HasTexts, lost_now, spools_at}
use Rattle.member_node.specs.declared.member.Member.{Member}
use Rattle.member_node.proofs.TextLemmas.{texts_after}
use Rattle.member_node.proofs.WriteLemmas.{none_out, run_append}
use Rattle.member_steps.specs.Steps.{entry_of, entry_with, reply_to}
use Rattle.member_steps.proofs.StepLemmas.{if_ok, only_entry}
use Rattle.member_decks.specs.Decks.{closing_reply, given_in}
use Rattle.member_decks.proofs.FinishLemmas.{one_of}
use Rattle.member_decks.proofs.OpenLemmas.{reply_done}
use Rattle.step_turns.specs.Serving.{counts_got}
use Rattle.step_turns.specs.Sittings.{sit}
use Rattle.step_turns.specs.declared.states.State.{State}
use Rattle.step_turns.specs.declared.states.Aside.TheVariants.{Acknowledge, SpoolArrival}
use Rattle.step_turns.specs.declared.states.State.TheVariants.{Away, Told}
use Rattle.member_sittings.specs.Asides.{deck_found}
use Rattle.member_sittings.specs.Ends.{deck_end, ends_in}
use Rattle.member_sittings.specs.Sat.{HasCut, IsSatOn}
use Rattle.member_sittings.specs.Whole.{Commanded, IsToCut, queue_of}
use Rattle.member_sittings.proofs.KeepLemmas.{sat_given_up}
use Rattle.member_sittings.proofs.SeatLemmas.{keeps_one}
use Rattle.member_sittings.proofs.TurnLemmas.{all_of_one}
use Rattle.member_frames.proofs.Answered.{fewer_left, fewer_told}
use Rattle.member_frames.proofs.Arriving.{ends_next}
use Rattle.member_frames.proofs.Getting.{arrival_got, arrival_refused, away_shaped, drop_closes, gives_two, got_fewer, got_of, got_servable, got_shaped, got_texts, is_refused, not_refused, of_more, told_shaped, two_entries, two_named, two_of}
use Rattle.member_frames.proofs.Idle.{sat_nothing}
use Rattle.member_frames.proofs.SatLemmas.{waits_left}
use Rattle.member_frames.proofs.arrivals.get_arrival.Goals as goal

-- GOT

pub do_command-requires-clause-command : goal.do_command-requires-clause-command
do_command-requires-clause-command g c = (c.requires.servable.line, c.requires.text)

pub do_command-requires-clause-giver : goal.do_command-requires-clause-giver
do_command-requires-clause-giver g c = let holds = c.requires.may.sits.seat.still.holds in (holds.some, holds.few)

pub do_command-requires-clause-order : goal.do_command-requires-clause-order
do_command-requires-clause-order g c = let order = c.requires.may.bounds.order in omega (arith, order)

pub returns-in_default-clause-sat : goal.returns-in_default-clause-sat
returns-in_default-clause-sat g c =
    let P = g.P.Plant in
    let x = c.args.complex.now in
    let h = c.args.holder in
    let d = c.args.stored in
    let s = c.args.service in
    let b = c.requires.may.sits.seat.between in
    let Q : Queue = run x.base (kept_all x.journal.batches) in
    record {
      sitting = sit Q h (Away (SpoolArrival d.number d.job d.text s)) (deck_found None);
      is = λ t. refl;
      of = got_of Q h d.number d.job d.text s;
      shaped = got_shaped Q h d.number d.job d.text s;
      sat = sat_nothing P h.by (sit Q h (Away (SpoolArrival d.number d.job d.text s)) (deck_found None)) (parts_of x) (none_out x.journal.batches x.journal.batches x.placed x.current refl b.unplaced b.none);
      tight = tt;
    }

-- GOT WAS REFUSED

pub do_command-requires-in-No-clause-here : goal.do_command-requires-in-No-clause-here
do_command-requires-in-No-clause-here g c = c.do_command.ensures.behind ∙ c.requires.may.sits.seat.still.here

pub do_command-requires-in-No-clause-giver : goal.do_command-requires-in-No-clause-giver
do_command-requires-in-No-clause-giver g c = let holds = c.requires.may.sits.seat.still.holds in rw c.do_command.ensures.id (holds.some, holds.few)

pub do_command-requires-in-No-clause-order : goal.do_command-requires-in-No-clause-order
do_command-requires-in-No-clause-order g c =
    let order = c.requires.may.bounds.order in
    let one = c.do_command.ensures.order in
    omega (arith, order, one)

-- out of memory for Drop: Got is kept without it

pub give_up_sitting-requires : goal.give_up_sitting-requires
give_up_sitting-requires g c =
    let P = g.P.Plant in
    let x = parts_of c.args.complex.now in
    let m = c.args.member.now in
    let n = c.do_command.new.self in
    let e = c.do_command.ensures in
    let k = c.in-Ok.ensures in
    let d = c.args.stored in
    let got : Command = command.Got c.args.service.line d.number d.job d.text in
    let h = c.args.holder in
    let sits = c.requires.may.sits in
    let b = sits.seat.between in
    let v = P.view x.plant in
    let Q : Queue = queue_of x in
    let gone = lost_now v in
    let disks = spools_at v v.now in
    let per = x.base.config.groups in
    let p = k.pushed in
    let kept = keeps_one P g.C.Copying x m n h got c.requires.may
    (record {
      did = record { id = e.id; room = e.room; here = e.behind ∙ sits.seat.still.here; fresh = e.fresh; level = e.level; levels = e.levels; pages = e.pages; config = e.config; spelling = e.spelling; fit = e.fit };
      reply = p.0;
      batch = only_entry m.batch n.batch (entry_with m.id h.step got p.0) p.1 b.nothing;
      told = λ t. only_entry m.batch n.batch (entry_of Q m.id h.step got) (k.entry Q (b.queue t)) b.nothing;
      order = e.order;
      done = k.done;
      sound = λ t. k.sound;
    })
    (record {
      may = sits.seat.still.holds.member;
      fit = (c.requires.servable.line, c.requires.text);
      unmarked = refl;
      texts = λ t.
          let own = c.law_of_texts.ensures.told m.checkpoint.tables Q (b.sound t) (b.queue t) in
          ∥∥₁_map (c.kept_texts.ensures.kept t) (λ has. subst (HasTexts gone disks per) (sym (run_append x.base (kept_all x.batches) (entry_of Q m.id h.step got ∷ []))) (got_texts gone disks per Q m.id own has c.law_of_entered_texts.ensures.got c.args.service.line d.number d.job d.text (c.requires.spooled refl t)));
    }) in
    subst (λ (k : Member). IsToCut P g.C.Copying x k h) (sym c.in_default-do_command.ensures.err) (record { gives = kept.gives; bounds = kept.bounds; holder = kept.holder })

pub returns-in_default-do_command-clause-sat : goal.returns-in_default-do_command-clause-sat
returns-in_default-do_command-clause-sat g c =
    let P = g.P.Plant in
    let x = c.args.complex.now in
    let m = c.args.member.now in
    let n = c.do_command.new.self in
    let h = c.args.holder in
    let z = c.give_up_sitting.new.complex in
    let k = c.in-Ok.ensures in
    let d = c.args.stored in
    let s = c.args.service in
    let at = h.step in
    let cut = subst (λ (k : Member). HasCut P h.by k.batch (parts_of x) (parts_of z) c.give_up_sitting.result) c.in_default-do_command.ensures.err c.give_up_sitting.ensures.cut in
    let got : Command = command.Got s.line d.number d.job d.text in
    let b = c.requires.may.sits.seat.between in
    let Q : Queue = run x.base (kept_all x.journal.batches) in
    let Q1 : Queue = (step Q h.by got).0 in
    let p = k.pushed in
    let e = entry_with m.id at got p.0 in
    let pushed : n.batch ≡ e ∷ [] = only_entry m.batch n.batch e p.1 b.nothing in
    let f : Entry = entry_of Q1 h.by at (command.Drop d.job) in
    let r : Reply = reply_to Q h.by got in
    let lines = reply_lines h.by at r in
    let gave_up = sat_given_up P h.by h refl Told lines (parts_of x) (parts_of z) n.batch (f ∷ []) _ (omega arith) cut.acts cut.leaves cut.counts in
    record {
      sitting = ends_in h ((n.batch ++ f ∷ []) ∷ []) Told lines;
      is = λ t.
          let tells = b.queue t in
          let named : n.batch ≡ entry_of Q m.id at got ∷ [] = only_entry m.batch n.batch (entry_of Q m.id at got) (k.entry Q tells) b.nothing in
          let of_h : n.batch ≡ entry_of Q h.by at got ∷ [] = named ∙ ap (λ (i : MemberId). entry_of Q i at got ∷ []) (sym c.requires.may.holder) in
          let answered : reply_to Q m.id got ≡ c.last_reply.result.now = reply_done m.batch n.batch (entry_of Q m.id at got) c.last_reply.result.now (k.entry Q tells) c.last_reply.ensures in
          let refused : is_refusal (reply_to Q h.by got) ≡ true = ap (λ (i : MemberId). is_refusal (reply_to Q i got)) c.requires.may.holder ∙ is_refused (reply_to Q m.id got) _ (answered ∙ c.in-No.is) in
          ap (λ (es : List Entry). ends_in h ((es ++ f ∷ []) ∷ []) Told lines) of_h ∙ sym (arrival_refused Q h d.number d.job d.text s refused);
      of = all_of_one h.by at (n.batch ++ f ∷ []) (of_more h.by at n.batch f (one_of n.batch e h.by at pushed (sym c.requires.may.holder) refl) (refl, refl));
      shaped = told_shaped h d.number d.job d.text s (n.batch ++ f ∷ []) r;
      sat = gave_up.sat;
      tight = tt;
    }

-- the job is dropped

pub close_deck-requires-clause-may : goal.close_deck-requires-clause-may
close_deck-requires-clause-may g c =
    let P = g.P.Plant in
    let C = g.C.Copying in
    let x = c.args.complex.now in
    let m = c.args.member.now in
    let n1 = c.do_command.new.self in
    let n = c.do_command-in-No.new.self in
    let e1 = c.do_command.ensures in
    let e = c.do_command-in-No.ensures in
    let k1 = c.in-Ok.ensures in
    let k = c.in-Ok-do_command.ensures in
    let d = c.args.stored in
    let got : Command = command.Got c.args.service.line d.number d.job d.text in
    let drops : Command = command.Drop d.job in
    let at = c.args.holder.step in
    let sits = c.requires.may.sits in
    let b = sits.seat.between in
    let v = P.view x.plant in
    let Q : Queue = run x.base (kept_all x.journal.batches) in
    let Q1 : Queue = (step Q m.id got).0 in
    let gone = lost_now v in
    let disks = spools_at v v.now in
    let per = x.base.config.groups in
    let p1 = k1.pushed in
    let p = k.pushed in
    let same : n.batch ≡ n1.batch ++ entry_with m.id at drops p.0 ∷ [] = p.1 ∙ ap (λ (i : MemberId). n1.batch ++ entry_with i at drops p.0 ∷ []) e1.id in
    let two : n.batch ≡ entry_with m.id at got p1.0 ∷ entry_with m.id at drops p.0 ∷ [] = two_entries m.batch n1.batch n.batch (entry_with m.id at got p1.0) (entry_with m.id at drops p.0) p1.1 same b.nothing in
    let member : is_member x.base.config m.id ≡ true = sits.seat.still.holds.member in
    let of_tables : is_member m.checkpoint.tables.config m.id ≡ true = subst (λ (q : Config). is_member q m.id ≡ true) sits.seat.still.config member in
    let did : Commanded m n = record {
      id = e.id ∙ e1.id;
      room = e.room ∙ e1.room;
      here = e.behind ∙ e1.behind ∙ sits.seat.still.here;
      fresh = e.fresh ∙ e1.fresh;
      level = e.level ∙ e1.level;
      levels = e.levels ∙ e1.levels;
      pages = e.pages ∙ e1.pages;
      config = e.config ∙ e1.config;
      spelling = e.spelling;
      fit = e.fit;
    } in
    let bounds = c.requires.may.bounds in
    let high = bounds.high in
    let reached = bounds.reached in
    let order1 = e1.order in
    let order2 = e.order in
    let sound1 : P.tells → TellSound n1.checkpoint.tables = λ t. let s = b.sound t in k1.sound s (ap (λ (q : Config). is_member q m.id) s.told.config ∙ of_tables) in
    let sound2 : P.tells → TellSound n.checkpoint.tables = λ t. let s = sound1 t in k.sound s (ap (λ (i : MemberId). is_member s.queue.config i) e1.id ∙ ap (λ (q : Config). is_member q m.id) (s.told.config ∙ e1.config) ∙ of_tables) in
    record {
      gives = gives_two P C (parts_of x) m n did at sits got drops p1.0 p.0 two member member (c.requires.servable.line, c.requires.text) tt refl refl (omega (arith, order1, order2))
          (λ R done. k.done R (k1.done R done)) sound2
          (λ t.
          let tells = b.queue t in
          let tells1 = k1.effect Q tells in
          let own = c.law_of_texts.ensures.told m.checkpoint.tables Q (b.sound t) tells in
          let own1 = c.law_of_texts.ensures.told n1.checkpoint.tables Q1 (sound1 t) tells1 in
          let next : n.batch ≡ n1.batch ++ entry_of Q1 m.id at drops ∷ [] = k.entry Q1 tells1 ∙ ap (λ (i : MemberId). n1.batch ++ entry_of Q1 i at drops ∷ []) e1.id in
          let named : n.batch ≡ entry_of Q m.id at got ∷ entry_of Q1 m.id at drops ∷ [] = two_entries m.batch n1.batch n.batch (entry_of Q m.id at got) (entry_of Q1 m.id at drops) (k1.entry Q tells) next b.nothing in
          ∥∥₁_map (c.kept_texts.ensures.kept t) (λ has. subst (HasTexts gone disks per) (sym (run_append x.base (kept_all x.journal.batches) n.batch ∙ ap (run Q) named))
          (texts_after c.law_of_texts.ensures.texts gone disks per Q1 m.id drops refl own1
          (got_texts gone disks per Q m.id own has c.law_of_entered_texts.ensures.got c.args.service.line d.number d.job d.text (c.requires.spooled refl t)))));
      some = subst (λ (es : List Entry). 1 ≤ length es) (sym two) (omega arith);
      bounds = record { high = subst (λ (i : ℕ). i + 1 < 2 ^ 63) (sym did.level) (omega (arith, high)); reached = omega (arith, reached); first = bounds.first; second = bounds.second };
      holder = c.requires.may.holder ∙ sym did.id;
    }

pub close_deck-requires-clause-named : goal.close_deck-requires-clause-named
close_deck-requires-clause-named g c =
    let m = c.args.member.now in
    let n1 = c.do_command.new.self in
    let n = c.do_command-in-No.new.self in
    let d = c.args.stored in
    let at = c.args.holder.step in
    let p1 = c.in-Ok.ensures.pushed in
    let p = c.in-Ok-do_command.ensures.pushed in
    let e : Entry = entry_with m.id at (command.Got c.args.service.line d.number d.job d.text) p1.0 in
    let f : Entry = entry_with n1.id at (command.Drop d.job) p.0 in
    two_named n.batch e f (two_entries m.batch n1.batch n.batch e f p1.1 p.1 c.requires.may.sits.seat.between.nothing) p1.2 p.2

pub returns-in-No-clause-sat : goal.returns-in-No-clause-sat
returns-in-No-clause-sat g c =
    let P = g.P.Plant in
    let x = c.args.complex.now in
    let m = c.args.member.now in
    let n1 = c.do_command.new.self in
    let n = c.do_command-in-No.new.self in
    let h = c.args.holder in
    let k1 = c.in-Ok.ensures in
    let k = c.in-Ok-do_command.ensures in
    let d = c.args.stored in
    let s = c.args.service in
    let at = h.step in
    let id = c.do_command.ensures.id in
    let got : Command = command.Got s.line d.number d.job d.text in
    let drops : Command = command.Drop d.job in
    let b = c.requires.may.sits.seat.between in
    let Q : Queue = run x.base (kept_all x.journal.batches) in
    let Q1 : Queue = (step Q m.id got).0 in
    let p1 = k1.pushed in
    let p = k.pushed in
    let e : Entry = entry_with m.id at got p1.0 in
    let f : Entry = entry_with n1.id at drops p.0 in
    let two : n.batch ≡ e ∷ f ∷ [] = two_entries m.batch n1.batch n.batch e f p1.1 p.1 b.nothing in
    record {
      sitting = deck_end h n.batch None;
      is = λ t.
          let tells = b.queue t in
          let next : n.batch ≡ n1.batch ++ entry_of Q1 m.id at drops ∷ [] = k.entry Q1 (k1.effect Q tells) ∙ ap (λ (i : MemberId). n1.batch ++ entry_of Q1 i at drops ∷ []) id in
          let named : n.batch ≡ given_in Q m.id at (got ∷ drops ∷ []) = two_entries m.batch n1.batch n.batch (entry_of Q m.id at got) (entry_of Q1 m.id at drops) (k1.entry Q tells) next b.nothing in
          let of_h : n.batch ≡ given_in Q h.by at (got ∷ drops ∷ []) = named ∙ ap (λ (i : MemberId). given_in Q i at (got ∷ drops ∷ [])) (sym c.requires.may.holder) in
          let answered : reply_to Q m.id got ≡ c.last_reply.result.now = reply_done m.batch n1.batch (entry_of Q m.id at got) c.last_reply.result.now (k1.entry Q tells) c.last_reply.ensures in
          let refused : is_refusal (reply_to Q h.by got) ≡ true = ap (λ (i : MemberId). is_refusal (reply_to Q i got)) c.requires.may.holder ∙ is_refused (reply_to Q m.id got) _ (answered ∙ c.in-No.is) in
          ap (λ (es : List Entry). deck_end h es None) of_h ∙ drop_closes Q h d.number d.job d.text s ∙ sym (arrival_refused Q h d.number d.job d.text s refused);
      of = all_of_one h.by at n.batch (two_of h.by at n.batch e f two (sym c.requires.may.holder, refl) (id ∙ sym c.requires.may.holder, refl));
      shaped = told_shaped h d.number d.job d.text s n.batch (closing_reply n.batch);
      sat = c.close_deck.ensures.sat.sat;
      tight = tt;
    }

pub returns-in-No-clause-again : goal.returns-in-No-clause-again
returns-in-No-clause-again g c =
    let x = c.args.complex.now in
    let m = c.args.member.now in
    let z = c.close_deck.new.complex in
    let l = c.close_deck.new.member in
    let one = c.do_command.ensures in
    let two = c.do_command-in-No.ensures in
    let order1 = one.order in
    let order2 = two.order in
    let tables = ap (λ (t : Tables). t.order) c.close_deck.ensures.tables in
    if_ok _ (λ e. IsSatOn g.P.Plant g.C.Copying (parts_of x) (parts_of z) m l c.args.holder.step e) c.close_deck.result
    (λ e on. record { sits = on.sits; grown = record { order = omega (arith, order1, order2, tables); high = rw (two.level, one.level) at on.grown.high; reached = on.grown.reached } }) c.close_deck.ensures.again

pub returns-in-No-clause-waits : goal.returns-in-No-clause-waits
returns-in-No-clause-waits g c =
    let es : List Entry = c.do_command-in-No.new.self.batch in
    let r = c.close_deck.result in
    waits_left g.P.Plant.tells c.close_deck.new.member r Told tt (ends_next (deck_end c.args.holder es None) r c.close_deck.ensures.sat.sat.ends)

pub returns-in-No-clause-fewer : goal.returns-in-No-clause-fewer
returns-in-No-clause-fewer g c =
    let n : ℕ = length c.args.service.frames in
    let es : List Entry = c.do_command-in-No.new.self.batch in
    let r = c.close_deck.result in
    fewer_told (2 * n + 2) (2 * n + 1) r (omega arith) (ends_next (deck_end c.args.holder es None) r c.close_deck.ensures.sat.sat.ends)

-- THE JOB IS GOT

pub overflow_add-got : goal.overflow_add-got
overflow_add-got g c = let few = c.requires.servable.few in omega (arith, few)

pub pause_sitting-requires : goal.pause_sitting-requires
pause_sitting-requires g c =
    let P = g.P.Plant in
    let x = parts_of c.args.complex.now in
    let m = c.args.member.now in
    let n = c.do_command.new.self in
    let e = c.do_command.ensures in
    let k = c.in-Ok.ensures in
    let d = c.args.stored in
    let got : Command = command.Got c.args.service.line d.number d.job d.text in
    let h = c.args.holder in
    let sits = c.requires.may.sits in
    let b = sits.seat.between in
    let v = P.view x.plant in
    let Q : Queue = queue_of x in
    let gone = lost_now v in
    let disks = spools_at v v.now in
    let per = x.base.config.groups in
    let p = k.pushed in
    let kept = keeps_one P g.C.Copying x m n h got c.requires.may
    (record {
      did = record { id = e.id; room = e.room; here = e.behind ∙ sits.seat.still.here; fresh = e.fresh; level = e.level; levels = e.levels; pages = e.pages; config = e.config; spelling = e.spelling; fit = e.fit };
      reply = p.0;
      batch = only_entry m.batch n.batch (entry_with m.id h.step got p.0) p.1 b.nothing;
      told = λ t. only_entry m.batch n.batch (entry_of Q m.id h.step got) (k.entry Q (b.queue t)) b.nothing;
      order = e.order;
      done = k.done;
      sound = λ t. k.sound;
    })
    (record {
      may = sits.seat.still.holds.member;
      fit = (c.requires.servable.line, c.requires.text);
      unmarked = refl;
      texts = λ t.
          let own = c.law_of_texts.ensures.told m.checkpoint.tables Q (b.sound t) (b.queue t) in
          ∥∥₁_map (c.kept_texts.ensures.kept t) (λ has. subst (HasTexts gone disks per) (sym (run_append x.base (kept_all x.batches) (entry_of Q m.id h.step got ∷ []))) (got_texts gone disks per Q m.id own has c.law_of_entered_texts.ensures.got c.args.service.line d.number d.job d.text (c.requires.spooled refl t)));
    }) in
    kept

pub returns-clause-sat : goal.returns-clause-sat
returns-clause-sat g c =
    let x = c.args.complex.now in
    let m = c.args.member.now in
    let n = c.do_command.new.self in
    let h = c.args.holder in
    let k = c.in-Ok.ensures in
    let d = c.args.stored in
    let s = c.args.service in
    let at = h.step in
    let got : Command = command.Got s.line d.number d.job d.text in
    let b = c.requires.may.sits.seat.between in
    let Q : Queue = run x.base (kept_all x.journal.batches) in
    let p = k.pushed in
    let e = entry_with m.id at got p.0 in
    let pushed : n.batch ≡ e ∷ [] = only_entry m.batch n.batch e p.1 b.nothing in
    let next : State = Away (Acknowledge (Some d.number) (counts_got s)) in
    record {
      sitting = ends_in h (n.batch ∷ []) next [];
      is = λ t.
          let tells = b.queue t in
          let named : n.batch ≡ entry_of Q m.id at got ∷ [] = only_entry m.batch n.batch (entry_of Q m.id at got) (k.entry Q tells) b.nothing in
          let of_h : n.batch ≡ entry_of Q h.by at got ∷ [] = named ∙ ap (λ (i : MemberId). entry_of Q i at got ∷ []) (sym c.requires.may.holder) in
          let answered : reply_to Q m.id got ≡ c.last_reply.result.now = reply_done m.batch n.batch (entry_of Q m.id at got) c.last_reply.result.now (k.entry Q tells) c.last_reply.ensures in
          let there : is_refusal (reply_to Q h.by got) ≡ false = ap (λ (i : MemberId). is_refusal (reply_to Q i got)) c.requires.may.holder ∙ not_refused (reply_to Q m.id got) (λ why is. c.in_default-last_reply.not-No why (sym answered ∙ is)) in
          ap (λ (es : List Entry). ends_in h (es ∷ []) next []) of_h ∙ sym (arrival_got Q h d.number d.job d.text s there);
      of = all_of_one h.by at n.batch (one_of n.batch e h.by at pushed (sym c.requires.may.holder) refl);
      shaped = away_shaped h d.number d.job d.text s n.batch;
      sat = c.pause_sitting.ensures.sat.sat;
      tight = tt;
    }

pub returns-clause-again : goal.returns-clause-again
returns-clause-again g c =
    let x = c.args.complex.now in
    let m = c.args.member.now in
    let z = c.pause_sitting.new.complex in
    let l = c.pause_sitting.new.member in
    let d = c.do_command.ensures in
    let order = d.order in
    let tables = ap (λ (t : Tables). t.order) c.pause_sitting.ensures.tables in
    if_ok _ (λ e. IsSatOn g.P.Plant g.C.Copying (parts_of x) (parts_of z) m l c.args.holder.step e) c.pause_sitting.result
    (λ e on. record { sits = on.sits; grown = record { order = omega (arith, order, tables); high = rw d.level at on.grown.high; reached = on.grown.reached } }) c.pause_sitting.ensures.again

pub returns-clause-waits : goal.returns-clause-waits
returns-clause-waits g c =
    let s = c.args.service in
    let es : List Entry = c.do_command.new.self.batch in
    let next : State = Away (Acknowledge (Some c.args.stored.number) (counts_got s)) in
    let r = c.pause_sitting.result in
    waits_left g.P.Plant.tells c.pause_sitting.new.member r next (got_servable s c.requires.servable c.requires.more) (ends_next (ends_in c.args.holder (es ∷ []) next []) r c.pause_sitting.ensures.sat.sat.ends)

pub returns-clause-fewer : goal.returns-clause-fewer
returns-clause-fewer g c =
    let s = c.args.service in
    let n : ℕ = length s.frames in
    let es : List Entry = c.do_command.new.self.batch in
    let next : State = Away (Acknowledge (Some c.args.stored.number) (counts_got s)) in
    let r = c.pause_sitting.result in
    fewer_left (2 * n + 2) (2 * n + 1) r next (got_fewer c.args.stored.number s) (ends_next (ends_in c.args.holder (es ∷ []) next []) r c.pause_sitting.ensures.sat.sat.ends)
