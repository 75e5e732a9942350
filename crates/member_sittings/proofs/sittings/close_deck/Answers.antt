use Rattle.member_sittings.proofs.Names.{◌∙◌, ap, refl, subst, sym, arith, ◌<◌, ◌^◌, ℕ, List, MemberId, parts_of, none_out, TellKept, closing_reply, lines_by, Told}
use Rattle.member_sittings.proofs.KeepLemmas.{sat_none}
use Rattle.member_sittings.proofs.Telling.{deck_tells}
use Rattle.member_sittings.specs.Ends.{ending}
use Rattle.member_sittings.specs.Sat.{EndsAs}
use Rattle.member_sittings.proofs.sittings.close_deck.Goals as goal

pub returns-in_default : goal.returns-in_default
returns-in_default g c =
    let x = c.args.complex.now in
    let m = c.args.member.now in
    let h = c.args.holder in
    let still = c.requires.may.gives.still in
    record {
      frame = refl;
      id = refl;
      tables = refl;
      sat = sat_none g.P.Plant h Told (lines_by h.by h.step c.args.lost (closing_reply m.batch)) (parts_of x) m.batch c.requires.may.some (none_out x.journal.batches x.journal.batches x.placed x.current refl still.unplaced still.none);
      again = tt;
    }

pub returns : goal.returns
returns g c =
    let x = parts_of c.args.complex.now in
    let z = parts_of c.end_sitting.new.complex in
    let m = c.args.member.now in
    let h = c.args.holder in
    let lines = c.in-Ok.ensures ∙ ap (λ (i : MemberId). lines_by i h.step c.args.lost (closing_reply m.batch)) (sym c.requires.may.holder) in
    subst (λ (ls : List (List ℕ)). EndsAs g.P.Plant g.C.Copying (ending h Told ls) x z m c.end_sitting.new.member c.end_sitting.result) lines c.end_sitting.ensures

pub end_sitting-requires : goal.end_sitting-requires
end_sitting-requires g c =
    let x = parts_of c.args.complex.now in
    let m = c.args.member.now in
    let now = (g.P.Plant.view x.plant).now in
    let small : c.args.holder.step < 2 ^ 64 = omega arith in
    record {
      may = c.requires.may;
      kept = λ told. subst (λ (ls : List (List ℕ)). TellKept ls x.batches now) (sym c.in-Ok.ensures) (deck_tells m.id c.args.holder.step small x.batches now c.requires.may.gives.step c.args.lost (closing_reply m.batch));
      quiet = tt;
    }
