use Rattle.std.proofs.Common.{◌≡◌, ◌∙◌, List, [], ◌∷◌, Option, refl, sym, ap, subst, arith}
use Rattle.std.proofs.Math.Logic.{∥∥₁_map}
use Rattle.mas_types.specs.declared.commands.Command.{Command}
use Rattle.mas_types.specs.declared.commands.Command.TheVariants as command
use Rattle.mas_types.specs.declared.ids.MemberId.{MemberId}
use Rattle.mas_types.specs.declared.journals.Entry.{Entry}
use Rattle.mas_types.specs.declared.queues.Queue.{Queue}
use Rattle.ckpt_tables.specs.declared.tables.Tables.{Tables}
use Rattle.mas_complex.specs.Journals.{kept_all}
use Rattle.mas_complex.specs.Meaning.{run}
use Rattle.mas_complex.specs.Parts.{parts_of}
use Rattle.mas_complex.specs.Texts.{HasTexts, lost_now, spools_at}
use Rattle.member_node.proofs.TextLemmas.{texts_after}
use Rattle.member_node.proofs.WriteLemmas.{none_out, run_append}
use Rattle.member_steps.specs.Steps.{entry_of, entry_with}
use Rattle.member_steps.proofs.StepLemmas.{if_ok, only_entry}
use Rattle.member_decks.proofs.FinishLemmas.{one_of}
use Rattle.member_decks.proofs.OpenLemmas.{reply_done}
use Rattle.step_turns.specs.Entries.{reply_to}
use Rattle.step_turns.specs.Serving.{offered}
use Rattle.step_turns.specs.declared.states.Offer.{Offer}
use Rattle.step_turns.specs.declared.states.State.TheVariants.{Away}
use Rattle.step_turns.specs.declared.states.Aside.TheVariants.{Exchange}
use Rattle.member_sittings.specs.Ends.{ends_in}
use Rattle.member_sittings.specs.Sat.{IsEndOf, IsSatOn}
use Rattle.member_sittings.proofs.KeepLemmas.{sat_none}
use Rattle.member_sittings.proofs.SeatLemmas.{keeps_one}
use Rattle.member_sittings.proofs.TurnLemmas.{all_of_one}
use Rattle.member_frames.proofs.Answered.{if_ok as if_answered}
use Rattle.member_frames.specs.Waits.{IsOfferThere}
use Rattle.member_frames.proofs.Loaded.{load_sits}
use Rattle.member_frames.proofs.SatLemmas.{waits_left}
use Rattle.member_sittings.specs.Whole.{queue_of}
use Rattle.member_frames.proofs.loading.sit_load.Goals as goal

pub do_command-requires-clause-command : goal.do_command-requires-clause-command
do_command-requires-clause-command g c = c.requires.line

pub do_command-requires-clause-giver : goal.do_command-requires-clause-giver
do_command-requires-clause-giver g c = let holds = c.requires.may.sits.seat.still.holds in (holds.some, holds.few)

pub do_command-requires-clause-order : goal.do_command-requires-clause-order
do_command-requires-clause-order g c = let order = c.requires.may.bounds.order in omega (arith, order)

pub returns-in_default-clause-sat : goal.returns-in_default-clause-sat
returns-in_default-clause-sat g c =
    let P = g.P.Plant in
    let x = c.args.complex.now in
    let h = c.args.holder in
    let l = c.args.line in
    let b = c.requires.may.sits.seat.between in
    let Q : Queue = run x.base (kept_all x.journal.batches) in
    let e : Entry = entry_of Q h.by h.step (command.Load l) in
    let a = Exchange l (offered (run Q (e ∷ [])) l (reply_to Q h.by (command.Load l))) in
    let none = sat_none P h (Away a) [] (parts_of x) (e ∷ []) (omega arith) (none_out x.journal.batches x.journal.batches x.placed x.current refl b.unplaced b.none) in
    record {
      sitting = ends_in h ((e ∷ []) ∷ []) (Away a) [];
      is = λ t. sym (load_sits Q h l);
      of = all_of_one h.by h.step (e ∷ []) (one_of (e ∷ []) e h.by h.step refl refl refl);
      shaped = record { few = omega arith; release = refl; says = (refl, refl) };
      sat = none.sat;
      tight = tt;
    }

pub pause_sitting-requires : goal.pause_sitting-requires
pause_sitting-requires g c =
    let P = g.P.Plant in
    let x = parts_of c.args.complex.now in
    let m = c.args.member.now in
    let n = c.do_command.new.self in
    let e = c.do_command.ensures in
    let k = c.in-Ok.ensures in
    let load : Command = command.Load c.args.line in
    let h = c.args.holder in
    let sits = c.requires.may.sits in
    let b = sits.seat.between in
    let v = P.view x.plant in
    let Q : Queue = queue_of x in
    let gone = lost_now v in
    let disks = spools_at v v.now in
    let per = x.base.config.groups in
    let p = k.pushed in
    let kept = keeps_one P g.C.Copying x m n h load c.requires.may
    (record {
      did = record { id = e.id; room = e.room; here = e.behind ∙ sits.seat.still.here; fresh = e.fresh; level = e.level; levels = e.levels; pages = e.pages; config = e.config; spelling = e.spelling; fit = e.fit };
      reply = p.0;
      batch = only_entry m.batch n.batch (entry_with m.id h.step load p.0) p.1 b.nothing;
      told = λ t. only_entry m.batch n.batch (entry_of Q m.id h.step load) (k.entry Q (b.queue t)) b.nothing;
      order = e.order;
      done = k.done;
      sound = λ t. k.sound;
    })
    (record {
      may = sits.seat.still.holds.member;
      fit = c.requires.line;
      unmarked = refl;
      texts = λ t.
          let own = c.law_of_texts.ensures.told m.checkpoint.tables Q (b.sound t) (b.queue t) in
          ∥∥₁_map (c.kept_texts.ensures.kept t) (λ has. subst (HasTexts gone disks per) (sym (run_append x.base (kept_all x.batches) (entry_of Q m.id h.step load ∷ []))) (texts_after c.law_of_texts.ensures.texts gone disks per Q m.id load refl own has));
    }) in
    kept

pub returns-clause-sat : goal.returns-clause-sat
returns-clause-sat g c =
    let x = c.args.complex.now in
    let m = c.args.member.now in
    let n = c.do_command.new.self in
    let h = c.args.holder in
    let k = c.in-Ok.ensures in
    let at = h.step in
    let l = c.args.line in
    let load : Command = command.Load l in
    let Q : Queue = run x.base (kept_all x.journal.batches) in
    let p = k.pushed in
    let e = entry_with m.id at load p.0 in
    let b = c.requires.may.sits.seat.between in
    let pushed : n.batch ≡ e ∷ [] = only_entry m.batch n.batch e p.1 b.nothing in
    let offer : Option Offer = c.offered-offer.result in
    record {
      sitting = ends_in h (n.batch ∷ []) (Away (Exchange l offer)) [];
      is = λ t.
          let tells = b.queue t in
          let named : n.batch ≡ entry_of Q m.id at load ∷ [] = only_entry m.batch n.batch (entry_of Q m.id at load) (k.entry Q tells) b.nothing in
          let got : reply_to Q m.id load ≡ c.last_reply.result.now = reply_done m.batch n.batch (entry_of Q m.id at load) c.last_reply.result.now (k.entry Q tells) c.last_reply.ensures in
          let of_member : offer ≡ offered (run Q (entry_of Q m.id at load ∷ [])) l (reply_to Q m.id load) =
          c.offered-offer.ensures.is (run Q (entry_of Q m.id at load ∷ [])) (k.effect Q tells) ∙ ap (offered (run Q (entry_of Q m.id at load ∷ [])) l) (sym got) in
          let is_offer : offer ≡ offered (run Q (entry_of Q h.by at load ∷ [])) l (reply_to Q h.by load) =
          of_member ∙ ap (λ (i : MemberId). offered (run Q (entry_of Q i at load ∷ [])) l (reply_to Q i load)) (sym c.requires.may.holder) in
          ap (λ (es : List Entry). ends_in h (es ∷ []) (Away (Exchange l offer)) []) named
          ∙ ap (λ (i : MemberId). ends_in h ((entry_of Q i at load ∷ []) ∷ []) (Away (Exchange l offer)) []) (sym c.requires.may.holder)
          ∙ ap (λ (o : Option Offer). ends_in h ((entry_of Q h.by at load ∷ []) ∷ []) (Away (Exchange l o)) []) is_offer
          ∙ sym (load_sits Q h l);
      of = all_of_one h.by at n.batch (one_of n.batch e h.by at pushed (sym c.requires.may.holder) refl);
      shaped = record { few = omega arith; release = refl; says = (refl, refl) };
      sat = c.pause_sitting.ensures.sat.sat;
      tight = tt;
    }

pub returns-clause-again : goal.returns-clause-again
returns-clause-again g c =
    let x = c.args.complex.now in
    let m = c.args.member.now in
    let z = c.pause_sitting.new.complex in
    let l = c.pause_sitting.new.member in
    let d = c.do_command.ensures in
    let tables = ap (λ (t : Tables). t.order) c.pause_sitting.ensures.tables in
    if_ok _ (λ e. IsSatOn g.P.Plant g.C.Copying (parts_of x) (parts_of z) m l c.args.holder.step e) c.pause_sitting.result
    (λ e on. record { sits = on.sits; grown = record { order = omega (arith, d.order, tables); high = rw d.level at on.grown.high; reached = on.grown.reached } }) c.pause_sitting.ensures.again

pub returns-clause-waits : goal.returns-clause-waits
returns-clause-waits g c =
    let h = c.args.holder in
    let a = Exchange c.args.line c.offered-offer.result in
    let n = c.do_command.new.self in
    let z = c.pause_sitting in
    waits_left g.P.Plant.tells z.new.member z.result (Away a) (c.requires.line, subst (λ (t : Tables). IsOfferThere t c.offered-offer.result) (sym z.ensures.tables) c.offered-offer.ensures.there)
    (if_answered z.result (λ e. IsEndOf (ends_in h (n.batch ∷ []) (Away a) []) e) (λ e. e.next ≡ Away a) (λ e is. is.next) z.ensures.sat.sat.ends)
