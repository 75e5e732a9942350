use Rattle.std.proofs.Common.{◌≡◌, ◌∙◌, ◌<◌, ◌^◌, ◌≤◌, ℕ, false, List, [], ◌∷◌, ap, refl, subst, sym, arith}
use Rattle.std.proofs.Math.Logic.{∥∥₁_map}
use Rattle.mas_types.specs.declared.answers.Closing.{Closing}
use Rattle.mas_types.specs.declared.commands.Command.{Command}
use Rattle.mas_types.specs.declared.commands.Command.TheVariants as command
use Rattle.mas_types.specs.declared.ids.MemberId.{MemberId}
use Rattle.mas_types.specs.declared.journals.Entry.{Entry}
use Rattle.mas_types.specs.declared.queues.Queue.{Queue}
use Rattle.mas_types.specs.Closings.{AreMembersNamed, closing_line}
use Rattle.mas_types.specs.Limits.{members_most}
use Rattle.ckpt_tables.specs.declared.tables.Tables.{Tables}
use Rattle.mas_complex.specs.Journals.{kept_all}
use Rattle.mas_complex.specs.Meaning.{run}
use Rattle.mas_complex.specs.Parts.{parts_of}
use Rattle.mas_complex.specs.Texts.{lost_now, spools_at}
use Rattle.member_node.specs.Batches.{last_reply}
use Rattle.member_node.proofs.WriteLemmas.{none_out}
use Rattle.member_steps.specs.Saying.{TellKept}
use Rattle.member_steps.specs.Steps.{AreKeptFrom, entry_of, entry_with, reply_to}
use Rattle.member_steps.proofs.FateLemmas.{closing_tells}
use Rattle.member_steps.proofs.StepLemmas.{if_ok, only_entry, some_of_one, step_texts}
use Rattle.member_sittings.proofs.FinishLemmas.{one_of}
use Rattle.member_sittings.specs.Ends.{ends_in}
use Rattle.member_sittings.specs.Sat.{IsSatOn}
use Rattle.member_sittings.proofs.KeepLemmas.{sat_none}
use Rattle.member_sittings.proofs.SeatLemmas.{keeps_one}
use Rattle.member_sittings.proofs.TurnLemmas.{all_of_one}
use Rattle.step_turns.specs.declared.states.State.TheVariants.{Told}
use Rattle.run_turns.specs.Pieces.{piece_of, reset_closing}
use Rattle.member_lines.proofs.Resetting.{closes_named, reset_sits}
use Rattle.member_sittings.specs.Whole.{queue_of}
use Rattle.member_lines.proofs.resets.sit_reset.Goals as goal

pub do_command-requires-clause-order : goal.do_command-requires-clause-order
do_command-requires-clause-order g c = let order = c.requires.may.bounds.order in omega (arith, order)

pub returns-in_default-clause-resets : goal.returns-in_default-clause-resets
returns-in_default-clause-resets g c =
    let P = g.P.Plant in
    let x = c.args.complex.now in
    let h = c.args.holder in
    let b = c.requires.may.sits.seat.between in
    let Q : Queue = run x.base (kept_all x.journal.batches) in
    let d : Command = command.Reset c.args.of in
    let e : Entry = entry_of Q h.by h.step d in
    let lines : List (List ℕ) = closing_line h.by h.step (reset_closing c.args.of (reply_to Q h.by d)) ∷ [] in
    record {
      sitting = ends_in h ((e ∷ []) ∷ []) Told lines;
      is = λ t. sym (reset_sits Q h c.args.of);
      shaped = (reply_to Q h.by d, refl);
      own = all_of_one h.by h.step (e ∷ []) (one_of (e ∷ []) e h.by h.step refl refl refl);
      sat = sat_none P h Told lines (parts_of x) (e ∷ []) (omega arith) (none_out x.journal.batches x.journal.batches x.placed x.current refl b.unplaced b.none);
    }

pub returns-in_default-one_line-clause-resets : goal.returns-in_default-one_line-clause-resets
returns-in_default-one_line-clause-resets g c =
    let P = g.P.Plant in
    let x = c.args.complex.now in
    let h = c.args.holder in
    let b = c.requires.may.sits.seat.between in
    let Q : Queue = run x.base (kept_all x.journal.batches) in
    let d : Command = command.Reset c.args.of in
    let e : Entry = entry_of Q h.by h.step d in
    let lines : List (List ℕ) = closing_line h.by h.step (reset_closing c.args.of (reply_to Q h.by d)) ∷ [] in
    record {
      sitting = ends_in h ((e ∷ []) ∷ []) Told lines;
      is = λ t. sym (reset_sits Q h c.args.of);
      shaped = (reply_to Q h.by d, refl);
      own = all_of_one h.by h.step (e ∷ []) (one_of (e ∷ []) e h.by h.step refl refl refl);
      sat = sat_none P h Told lines (parts_of x) (e ∷ []) (omega arith) (none_out x.journal.batches x.journal.batches x.placed x.current refl b.unplaced b.none);
    }

pub last_reply-requires : goal.last_reply-requires
last_reply-requires g c =
    let m = c.args.member.now in
    let n = c.do_command.new.self in
    let p = c.in-Ok.ensures.pushed in
    let e : Entry = entry_with m.id c.args.holder.step (command.Reset c.args.of) p.0 in
    some_of_one n.batch e (only_entry m.batch n.batch e p.1 c.requires.may.sits.seat.between.nothing)

pub one_line-requires-clause-by : goal.one_line-requires-clause-by
one_line-requires-clause-by g c =
    subst (λ (m : MemberId). m.0 ≤ members_most) (sym c.requires.may.holder) c.requires.may.sits.seat.still.holds.few

pub one_line-requires-clause-named : goal.one_line-requires-clause-named
one_line-requires-clause-named g c =
    let m = c.args.member.now in
    let n = c.do_command.new.self in
    let p = c.in-Ok.ensures.pushed in
    let e : Entry = entry_with m.id c.args.holder.step (command.Reset c.args.of) p.0 in
    let one : n.batch ≡ e ∷ [] = only_entry m.batch n.batch e p.1 c.requires.may.sits.seat.between.nothing in
    let said : c.last_reply.result.now ≡ p.0 = c.last_reply.ensures ∙ ap last_reply one in
    subst (λ (z : Closing). AreMembersNamed z) (sym (c.reset_closing-end.ensures ∙ ap (reset_closing c.args.of) said)) (closes_named c.args.of p.0 c.requires.of p.2)

pub end_sitting-requires : goal.end_sitting-requires
end_sitting-requires g c =
    let P = g.P.Plant in
    let x = parts_of c.args.complex.now in
    let m = c.args.member.now in
    let n = c.do_command.new.self in
    let e = c.do_command.ensures in
    let k = c.in-Ok.ensures in
    let d : Command = command.Reset c.args.of in
    let h = c.args.holder in
    let b = c.requires.may.sits.seat.between in
    let may = c.requires.givable in
    let v = P.view x.plant in
    let Q : Queue = queue_of x in
    let p = k.pushed in
    let now = (g.P.Plant.view x.plant).now in
    let small : c.args.holder.step < 2 ^ 64 = omega arith in
    let kept : AreKeptFrom h.by h.step x.batches now = subst (λ (i : MemberId). AreKeptFrom i h.step x.batches now) (sym c.requires.may.holder) c.requires.may.sits.step in
    record {
      may = keeps_one P g.C.Copying x m n h d c.requires.may
          (record {
            did = record { id = e.id; room = e.room; here = e.behind ∙ c.requires.may.sits.seat.still.here; fresh = e.fresh; level = e.level; levels = e.levels; pages = e.pages; config = e.config; spelling = e.spelling; fit = e.fit };
            reply = p.0;
            batch = only_entry m.batch n.batch (entry_with m.id h.step d p.0) p.1 b.nothing;
            told = λ t. only_entry m.batch n.batch (entry_of Q m.id h.step d) (k.entry Q (b.queue t)) b.nothing;
            order = e.order;
            done = k.done;
            sound = λ t. k.sound;
          })
          (record {
            may = may.may;
            fit = may.fit;
            unmarked = may.unmarked;
            texts = λ t. ∥∥₁_map (c.kept_texts.ensures.kept t) (λ has. step_texts c.law_of_texts.ensures.texts c.law_of_texts.ensures.told (lost_now v) (spools_at v v.now) x.base.config.groups x.base x.base x.batches x.batches
                m.checkpoint.tables m.id h.step d (entry_of Q m.id h.step d ∷ []) may.plain (b.sound t) (b.queue t) refl refl refl has);
          });
      kept = λ told. subst (λ (ls : List (List ℕ)). TellKept ls x.batches now) (sym c.in-Ok-one_line.ensures) (closing_tells h.by h.step small x.batches now kept c.reset_closing-end.result);
      quiet = tt;
    }

pub returns-clause-resets : goal.returns-clause-resets
returns-clause-resets g c =
    let x = c.args.complex.now in
    let m = c.args.member.now in
    let n = c.do_command.new.self in
    let h = c.args.holder in
    let k = c.in-Ok.ensures in
    let at = h.step in
    let of = c.args.of in
    let d : Command = command.Reset of in
    let Q : Queue = run x.base (kept_all x.journal.batches) in
    let b = c.requires.may.sits.seat.between in
    let p = k.pushed in
    let e : Entry = entry_with m.id at d p.0 in
    let lines : List (List ℕ) = c.in-Ok-one_line.lines in
    let one : n.batch ≡ e ∷ [] = only_entry m.batch n.batch e p.1 b.nothing in
    let answered : c.last_reply.result.now ≡ p.0 = c.last_reply.ensures ∙ ap last_reply one in
    let its_line : lines ≡ closing_line h.by at (reset_closing of p.0) ∷ [] =
    c.in-Ok-one_line.ensures ∙ ap (λ (z : Closing). closing_line h.by at z ∷ []) (c.reset_closing-end.ensures ∙ ap (reset_closing of) answered) in
    record {
      sitting = ends_in h (n.batch ∷ []) Told lines;
      is = λ t.
          let named : n.batch ≡ entry_of Q m.id at d ∷ [] = only_entry m.batch n.batch (entry_of Q m.id at d) (k.entry Q (b.queue t)) b.nothing in
          let said : c.last_reply.result.now ≡ reply_to Q m.id d = c.last_reply.ensures ∙ ap last_reply named in
          let its_lines : lines ≡ closing_line h.by at (reset_closing of (reply_to Q m.id d)) ∷ [] =
          c.in-Ok-one_line.ensures ∙ ap (λ (z : Closing). closing_line h.by at z ∷ []) (c.reset_closing-end.ensures ∙ ap (reset_closing of) said) in
          ap (λ (es : List Entry). piece_of (ends_in h (es ∷ []) Told lines) false [] ∷ []) named
          ∙ ap (λ (ls : List (List ℕ)). piece_of (ends_in h ((entry_of Q m.id at d ∷ []) ∷ []) Told ls) false [] ∷ []) its_lines
          ∙ ap (λ (i : MemberId). piece_of (ends_in h ((entry_of Q i at d ∷ []) ∷ []) Told (closing_line h.by at (reset_closing of (reply_to Q i d)) ∷ [])) false [] ∷ []) (sym c.requires.may.holder)
          ∙ sym (reset_sits Q h of);
      shaped = (
        p.0,
        ap (λ (es : List Entry). ends_in h (es ∷ []) Told lines) (only_entry m.batch n.batch e p.1 b.nothing)
            ∙ ap (λ (i : MemberId). ends_in h ((entry_with i at d p.0 ∷ []) ∷ []) Told lines) (sym c.requires.may.holder)
            ∙ ap (λ (ls : List (List ℕ)). ends_in h ((entry_with h.by at d p.0 ∷ []) ∷ []) Told ls) its_line,
      );
      own = all_of_one h.by at n.batch (one_of n.batch e h.by at (only_entry m.batch n.batch e p.1 b.nothing) (sym c.requires.may.holder) refl);
      sat = c.end_sitting.ensures.sat;
    }

pub returns-clause-again : goal.returns-clause-again
returns-clause-again g c =
    let x = c.args.complex.now in
    let m = c.args.member.now in
    let z = c.end_sitting.new.complex in
    let l = c.end_sitting.new.member in
    let d = c.do_command.ensures in
    let tables = ap (λ (t : Tables). t.order) c.end_sitting.ensures.tables in
    if_ok _ (λ e. IsSatOn g.P.Plant g.C.Copying (parts_of x) (parts_of z) m l c.args.holder.step e) c.end_sitting.result
    (λ e on. record { sits = on.sits; grown = record { order = omega (arith, d.order, tables); high = rw d.level at on.grown.high; reached = on.grown.reached } }) c.end_sitting.ensures.again
