use Rattle.mas_run.proofs.Names.{rules, refl, ◌≡◌, ◌+◌, ◌≤◌, ◌++◌, Ok, Err, sym, subst, in_flight, Parts, parts_of, unreserved_in, NodeNo, earlier_kept, IfRuns, AreKeptFrom, LineDone, HaveRead, Halted}
use Rattle.mas_run.proofs.LeftLemmas.{if_ok}
use Rattle.mas_run.proofs.AskLemmas.{played_line, stopped_line, readers_said}
use Rattle.mas_run.proofs.KnownLemmas.{few_by}
use Rattle.mas_run.proofs.running.Running.play_asked.Given.{Over}
use Rattle.mas_run.proofs.running.Running.play_asked.Goals.{In-Err-Halted}
use Rattle.mas_run.proofs.running.Running.play_asked.Goals as goal

-- ITS MEMBER WAS HALTED

halted : (g : Over) (c : In-Err-Halted g) → LineDone c.args.self.now.complex c.play_member.new.self.complex c.play_member.new.self.members c.args.step c.args.by c.args.asked.now (Err Halted)
halted g c =
    subst (λ (e : NodeNo). LineDone c.args.self.now.complex c.play_member.new.self.complex c.play_member.new.self.members c.args.step c.args.by c.args.asked.now (Err e)) c.in-Err-Halted.field-0-is
    c.in-Err-Halted.ensures.done

pub say_stopped-requires : goal.say_stopped-requires
say_stopped-requires g c =
    let w = unreserved_in (parts_of c.play_member.new.self.complex) in
    record {
      by = few_by c.args.by c.args.asked.now c.requires.member c.requires.played.fits.by;
      kept = λ told. subst (λ (w : Parts _ _). AreKeptFrom c.args.by (c.args.step + 1) (w.batches ++ in_flight w.current) (g.P.Plant.view w.plant).now) (sym c.give_up_reserved.ensures)
          (earlier_kept c.args.by (c.args.step + 1) (g.P.Plant.view w.plant).now (w.batches ++ in_flight w.current) ((halted g (goal.at.say_stopped-requires g c).In-Err-Halted).halted refl).earlier);
    }

pub returns-in-Err-Halted : goal.returns-in-Err-Halted
returns-in-Err-Halted g c =
    let P = g.P.Plant in
    let y = c.play_member.new.self.complex in
    let rs = c.play_member.new.self.readers in
    let mid = c.give_up_reserved.new.self in
    let z = c.say_stopped.new.complex in
    let frame : parts_of mid ≡ unreserved_in (parts_of y) = c.give_up_reserved.ensures in
    let done = halted g (goal.at.returns-in-Err-Halted g c).In-Err-Halted in
    let is = done.halted refl in
    let s = c.say_stopped.ensures in
    let heard : HaveRead y rs = subst (λ (k : NodeNo). IfRuns {T = Unit {0}} (Err k) (HaveRead y rs)) c.in-Err-Halted.field-0-is c.in-Err-Halted.ensures.heard in
    record {
      line = stopped_line c.args.self.now.complex y c.args.self.now.members c.play_member.new.self.members c.args.step c.args.by c.args.asked.now c.requires.member c.requires.between
          done mid z frame c.say_stopped.result s.frame s.says c.requires.few;
      heard = if_ok c.say_stopped.result (HaveRead z rs)
          (λ e. readers_said P (parts_of mid) (parts_of y) (parts_of z) frame s.frame s.says.acts (subst (λ (w : Parts _ _). w.since ≤ (P.view w.plant).now) (sym frame) is.begun) is.booked rs heard);
    }

-- IT WASN'T

pub returns-in-Ok-clause-line : goal.returns-in-Ok-clause-line
returns-in-Ok-clause-line g c =
    played_line c.args.self.now.complex c.play_member.new.self.complex c.args.self.now.members c.play_member.new.self.members c.args.step c.args.by c.args.asked.now c.requires.member c.requires.between (Ok tt)
    (λ is. absurd (cc)) c.in-Ok.ensures.done

pub returns-in-Err-clause-line : goal.returns-in-Err-clause-line
returns-in-Err-clause-line g c =
    let other : c.in-Err.why ≡ Halted → ⊥ = search rules in
    played_line c.args.self.now.complex c.play_member.new.self.complex c.args.self.now.members c.play_member.new.self.members c.args.step c.args.by c.args.asked.now c.requires.member c.requires.between
    (Err c.in-Err.why) (λ is. other (cc)) c.in-Err.ensures.done
