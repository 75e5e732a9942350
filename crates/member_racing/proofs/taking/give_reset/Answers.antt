use Rattle.std.proofs.Common.{◌≡◌, ◌∙◌, ℕ, List, [], ◌∷◌, ap, refl, subst, sym, arith}
use Rattle.std.proofs.Math.Logic.{∥∥₁_map}
use Rattle.mas_types.specs.declared.commands.Command.{Command}
use Rattle.mas_types.specs.declared.commands.Command.TheVariants as command
use Rattle.mas_types.specs.declared.ids.MemberId.{MemberId}
use Rattle.mas_types.specs.declared.journals.Entry.{Entry}
use Rattle.mas_types.specs.declared.queues.Queue.{Queue}
use Rattle.ckpt_tables.specs.declared.tables.Tables.{Tables}
use Rattle.mas_complex.specs.Journals.{kept_all}
use Rattle.mas_complex.specs.Meaning.{run}
use Rattle.mas_complex.specs.Parts.{parts_of}
use Rattle.mas_complex.specs.Texts.{lost_now, spools_at}
use Rattle.member_node.proofs.WriteLemmas.{none_out}
use Rattle.member_steps.specs.Steps.{entry_of, entry_with, reply_to}
use Rattle.member_steps.proofs.StepLemmas.{if_ok, only_entry, step_texts}
use Rattle.member_decks.proofs.FinishLemmas.{one_of}
use Rattle.member_sittings.specs.Ends.{ends_in}
use Rattle.member_sittings.specs.Sat.{IsSatAs, IsSatOn}
use Rattle.member_sittings.proofs.KeepLemmas.{sat_none}
use Rattle.member_sittings.proofs.SeatLemmas.{keeps_one}
use Rattle.member_sittings.proofs.TurnLemmas.{all_of_one}
use Rattle.step_turns.specs.Sittings.{Sitting}
use Rattle.step_turns.specs.declared.states.Release.TheVariants.{Inner}
use Rattle.step_turns.specs.declared.states.State.TheVariants.{Told}
use Rattle.race_turns.specs.Turns.{reset_sitting}
use Rattle.member_steps.specs.Saying.{TellKept}
use Rattle.member_sittings.proofs.Telling.{tells_none}
use Rattle.member_sittings.specs.Whole.{queue_of}
use Rattle.member_racing.proofs.taking.give_reset.Goals as goal

pub do_command-requires-clause-order : goal.do_command-requires-clause-order
do_command-requires-clause-order g c = let order = c.requires.may.bounds.order in omega (arith, order)

pub returns-in_default-clause-gave : goal.returns-in_default-clause-gave
returns-in_default-clause-gave g c =
    let P = g.P.Plant in
    let x = c.args.complex.now in
    let h = c.args.holder in
    let b = c.requires.may.sits.seat.between in
    let Q : Queue = run x.base (kept_all x.journal.batches) in
    let d : Command = command.Reset c.args.of in
    let e : Entry = entry_of Q h.by h.step d in
    record {
      sitting = ends_in h ((e ∷ []) ∷ []) Told [];
      is = λ t. refl;
      shaped = (reply_to Q h.by d, refl);
      own = all_of_one h.by h.step (e ∷ []) (one_of (e ∷ []) e h.by h.step refl refl refl);
      sat = sat_none P h Told [] (parts_of x) (e ∷ []) (omega arith) (none_out x.journal.batches x.journal.batches x.placed x.current refl b.unplaced b.none);
    }

pub end_sitting-requires : goal.end_sitting-requires
end_sitting-requires g c =
    let P = g.P.Plant in
    let x = parts_of c.args.complex.now in
    let m = c.args.member.now in
    let n = c.do_command.new.self in
    let e = c.do_command.ensures in
    let k = c.in-Ok.ensures in
    let d : Command = command.Reset c.args.of in
    let h = c.args.holder in
    let b = c.requires.may.sits.seat.between in
    let may = c.requires.givable in
    let v = P.view x.plant in
    let Q : Queue = queue_of x in
    let p = k.pushed in
    let now = (g.P.Plant.view x.plant).now in
    record {
      may = keeps_one P g.C.Copying x m n h d c.requires.may
          (record {
            did = record { id = e.id; room = e.room; here = e.behind ∙ c.requires.may.sits.seat.still.here; fresh = e.fresh; level = e.level; levels = e.levels; pages = e.pages; config = e.config; spelling = e.spelling; fit = e.fit };
            reply = p.0;
            batch = only_entry m.batch n.batch (entry_with m.id h.step d p.0) p.1 b.nothing;
            told = λ t. only_entry m.batch n.batch (entry_of Q m.id h.step d) (k.entry Q (b.queue t)) b.nothing;
            order = e.order;
            done = k.done;
            sound = λ t. k.sound;
          })
          (record {
            may = may.may;
            fit = may.fit;
            unmarked = may.unmarked;
            texts = λ t. ∥∥₁_map (c.kept_texts.ensures.kept t) (λ has. step_texts c.law_of_texts.ensures.texts c.law_of_texts.ensures.told (lost_now v) (spools_at v v.now) x.base.config.groups x.base x.base x.batches x.batches
                m.checkpoint.tables m.id h.step d (entry_of Q m.id h.step d ∷ []) may.plain (b.sound t) (b.queue t) refl refl refl has);
          });
      kept = λ told. subst (λ (ls : List (List ℕ)). TellKept ls x.batches now) (sym c.new-lines.ensures) (tells_none x.batches now);
      quiet = tt;
    }

pub returns-clause-gave : goal.returns-clause-gave
returns-clause-gave g c =
    let x = c.args.complex.now in
    let m = c.args.member.now in
    let n = c.do_command.new.self in
    let h = c.args.holder in
    let k = c.in-Ok.ensures in
    let at = h.step in
    let of = c.args.of in
    let d : Command = command.Reset of in
    let Q : Queue = run x.base (kept_all x.journal.batches) in
    let b = c.requires.may.sits.seat.between in
    let p = k.pushed in
    let e : Entry = entry_with m.id at d p.0 in
    record {
      sitting = ends_in h (n.batch ∷ []) Told [];
      is = λ t.
          let named : n.batch ≡ entry_of Q m.id at d ∷ [] = only_entry m.batch n.batch (entry_of Q m.id at d) (k.entry Q (b.queue t)) b.nothing in
          ap (λ (es : List Entry). let u : Sitting = record { batches = es ∷ []; next = Told; lines = []; release = Inner } in u) named
          ∙ ap (λ (i : MemberId). reset_sitting Q i at of) (sym c.requires.may.holder);
      shaped = (
        p.0,
        ap (λ (es : List Entry). ends_in h (es ∷ []) Told []) (only_entry m.batch n.batch e p.1 b.nothing)
            ∙ ap (λ (i : MemberId). ends_in h ((entry_with i at d p.0 ∷ []) ∷ []) Told []) (sym c.requires.may.holder),
      );
      own = all_of_one h.by at n.batch (one_of n.batch e h.by at (only_entry m.batch n.batch e p.1 b.nothing) (sym c.requires.may.holder) refl);
      sat = subst (λ (ls : List (List ℕ)). IsSatAs g.P.Plant h.by (ends_in h (n.batch ∷ []) Told ls) (parts_of x) (parts_of c.end_sitting.new.complex) c.end_sitting.result) c.new-lines.ensures c.end_sitting.ensures.sat;
    }

pub returns-clause-again : goal.returns-clause-again
returns-clause-again g c =
    let x = c.args.complex.now in
    let m = c.args.member.now in
    let z = c.end_sitting.new.complex in
    let l = c.end_sitting.new.member in
    let d = c.do_command.ensures in
    let tables = ap (λ (t : Tables). t.order) c.end_sitting.ensures.tables in
    if_ok _ (λ e. IsSatOn g.P.Plant g.C.Copying (parts_of x) (parts_of z) m l c.args.holder.step e) c.end_sitting.result
    (λ e on. record { sits = on.sits; grown = record { order = omega (arith, d.order, tables); high = rw d.level at on.grown.high; reached = on.grown.reached } }) c.end_sitting.ensures.again
