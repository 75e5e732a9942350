use Rattle.member_sittings.proofs.Names.{◌<◌, ◌^◌, ℕ, List, [], ◌∷◌, ◌∙◌, refl, sym, ap, subst, arith, ∥∥₁_map, MemberId, Entry, Queue, reply_lines, parts_of, lost_now, spools_at, entry_of, entry_with, reply_to, TellKept, reply_tells, step_texts, one_of, Told, nothing_found, ends_in, queue_of, Fresh}
use Rattle.member_sittings.proofs.SeatLemmas.{keeps_one}
use Rattle.member_sittings.proofs.TurnLemmas.{sits_none, sits_by, command_sits}
use Rattle.member_sittings.specs.Sat.{begins}
use Rattle.step_turns.specs.declared.states.Task.TheVariants.{Give}
use Rattle.member_sittings.proofs.sittings.sit_command.Goals as goal

pub returns-in_default : goal.returns-in_default
returns-in_default g c =
    let x = parts_of c.args.complex.now in
    let m = c.args.member.now in
    let h = c.args.holder in
    let d = c.args.command in
    let Q : Queue = queue_of x in
    let e : Entry = entry_of Q h.by h.step d in
    sits_none g.P.Plant g.C.Copying (begins h (Fresh (Give d))) Told (reply_lines h.by h.step (reply_to Q h.by d)) x m c.give.new.member (e ∷ []) c.give.ensures.id (omega arith) c.requires.may.sits.seat (λ t. sym (command_sits Q h d nothing_found))
    (one_of (e ∷ []) e h.by h.step refl refl refl) (record { few = omega arith; release = refl; says = (reply_to Q h.by d, refl) }) (λ A a. a)

pub end_sitting-requires : goal.end_sitting-requires
end_sitting-requires g c =
    let P = g.P.Plant in
    let x = parts_of c.args.complex.now in
    let m = c.args.member.now in
    let d = c.give.ensures in
    let k = c.in-Ok.ensures in
    let h = c.args.holder in
    let b = c.requires.may.sits.seat.between in
    let may = c.requires.givable in
    let v = P.view x.plant in
    let given = c.in-Ok.ensures.given in
    let small : h.step < 2 ^ 64 = omega arith in
    record {
      may = keeps_one P g.C.Copying x m c.give.new.member h c.args.command c.requires.may
          (record {
            did = record { id = d.id; room = d.room; here = d.behind ∙ c.requires.may.sits.seat.still.here; fresh = d.fresh; level = d.level; levels = d.levels; pages = d.pages; config = d.config; spelling = d.spelling; fit = d.fit };
            reply = k.given.0;
            batch = k.given.2;
            told = λ t. k.entry _ (b.queue t);
            order = d.order;
            done = k.done;
            sound = λ t. k.sound;
          })
          (record {
            may = may.may;
            fit = may.fit;
            unmarked = may.unmarked;
            texts = λ t. ∥∥₁_map (c.kept_texts.ensures.kept t) (λ has. step_texts c.law_of_texts.ensures.texts c.law_of_texts.ensures.told (lost_now v) (spools_at v v.now) x.base.config.groups x.base x.base x.batches x.batches
                m.checkpoint.tables m.id h.step c.args.command (entry_of (queue_of x) m.id h.step c.args.command ∷ []) may.plain (b.sound t) (b.queue t) refl refl refl has);
          });
      kept = λ told. subst (λ (ls : List (List ℕ)). TellKept ls x.batches v.now) (sym given.1) (reply_tells m.id h.step small x.batches v.now c.requires.may.sits.step given.0);
      quiet = tt;
    }

pub returns : goal.returns
returns g c =
    let x = parts_of c.args.complex.now in
    let m = c.args.member.now in
    let n = c.give.new.member in
    let h = c.args.holder in
    let k = c.in-Ok.ensures in
    let at = h.step in
    let d = c.args.command in
    let Q : Queue = queue_of x in
    let e : Entry = entry_with m.id at d k.given.0 in
    let lines : List (List ℕ) = c.in-Ok.lines in
    sits_by g.P.Plant g.C.Copying (begins h (Fresh (Give d))) Told lines x (parts_of c.end_sitting.new.complex) m n c.end_sitting.new.member c.end_sitting.result c.give.ensures.id c.give.ensures.level (omega (arith, c.give.ensures.order)) c.end_sitting.ensures
    (λ t.
    let told = c.requires.may.sits.seat.between.queue t in
    ap (λ (es : List Entry). ends_in h (es ∷ []) Told lines) (k.entry Q told)
    ∙ ap (λ (ls : List (List ℕ)). ends_in h ((entry_of Q m.id at d ∷ []) ∷ []) Told ls) (k.lines Q told)
    ∙ ap (λ (i : MemberId). ends_in h ((entry_of Q i at d ∷ []) ∷ []) Told (reply_lines i at (reply_to Q i d))) (sym c.requires.may.holder)
    ∙ sym (command_sits Q h d nothing_found))
    (one_of n.batch e h.by at k.given.2 (sym c.requires.may.holder) refl)
    (record {
      few = omega arith;
      release = refl;
      says = (
        k.given.0,
        ap (λ (es : List Entry). ends_in h (es ∷ []) Told lines) k.given.2
            ∙ ap (λ (ls : List (List ℕ)). ends_in h ((e ∷ []) ∷ []) Told ls) k.given.1
            ∙ ap (λ (i : MemberId). ends_in h ((entry_with i at d k.given.0 ∷ []) ∷ []) Told (reply_lines i at k.given.0)) (sym c.requires.may.holder),
      );
    })
    (λ A a. a) refl
