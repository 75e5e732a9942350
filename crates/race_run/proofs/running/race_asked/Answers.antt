use Rattle.std.proofs.Common.{◌≡◌, ◌∙◌, inl, sym, ap, subst}
use Rattle.mas_types.specs.declared.ids.Dev.{Dev}
use Rattle.spool_plant.specs.View.{View}
use Rattle.mas_complex.specs.Journals.{kept_all}
use Rattle.mas_complex.specs.Parts.{parts_of}
use Rattle.member_node.specs.Calls.{Grows}
use Rattle.member_sittings.specs.Sat.{journal_of}
use Rattle.run_opening.specs.Lines.{Proceeds}
use Rattle.run_opening.specs.Statuses.{is_of_play}
use Rattle.race_run.proofs.BeginLemmas.{can_begin, may_prepare, nothing_flies, nothing_placed}
use Rattle.race_run.proofs.EndLemmas.{cause_by, ends_done, ends_other, race_by, race_cause, race_goes, race_grows, race_is, race_kind, refused_cause, refused_kind, refused_race, safe_by, said_as}
use Rattle.race_ends.proofs.FrameLemmas.{base_on, journal_on, renewals_on, since_on}
use Rattle.race_ends.proofs.HistoryLemmas.{history_same, saying_none}
use Rattle.race_run.proofs.JournalLemmas.{kept_is}
use Rattle.race_run.proofs.running.race_asked.Goals as goal

pub prepare-requires-clause-may : goal.prepare-requires-clause-may
prepare-requires-clause-may g c = may_prepare c.args.run.complex c.args.run.members c.requires.between c.requires.shows

pub race_value-status-requires-clause-begin : goal.race_value-status-requires-clause-begin
race_value-status-requires-clause-begin g c κs within =
    can_begin c.args.run.complex c.prepare.new.complex c.args.run.members c.args.course.now.lines.now c.requires.between c.requires.fresh c.requires.shows c.requires.untouched c.requires.unrenewed
    c.prepare.ensures.frame c.in_default.ensures.prepares c.requires.few c.requires.played c.requires.raced

-- A LINE COULDN'T BE REFUSED

pub returns-in-Err-clause-base : goal.returns-in-Err-clause-base
returns-in-Err-clause-base g c = c.end_run.ensures.base ∙ base_on c.args.run.complex c.prepare.new.complex c.prepare.ensures.frame

pub returns-in-Err-clause-since : goal.returns-in-Err-clause-since
returns-in-Err-clause-since g c = c.end_run.ensures.since ∙ since_on c.args.run.complex c.prepare.new.complex c.prepare.ensures.frame

pub returns-in-Err-clause-kind : goal.returns-in-Err-clause-kind
returns-in-Err-clause-kind g c =
    let x = c.args.run.complex in
    ap is_of_play (c.end_run.ensures.status ∙ c.status_of.ensures)
    ∙ refused_kind x c.prepare.new.complex c.args.course.now.lines.now (nothing_flies x c.args.run.members c.requires.between c.requires.shows) (nothing_placed x c.args.run.members c.requires.between c.requires.shows)
    c.prepare.ensures.frame c.requires.there1 c.requires.there2 c.in-Err.why c.in-Err.ensures.prepares

pub returns-in-Err-clause-goes : goal.returns-in-Err-clause-goes
returns-in-Err-clause-goes g c = subst (λ (w : View). Proceeds (g.P.Plant.view c.args.run.complex.plant) w) (sym (ap g.P.Plant.view c.end_run.ensures.plant)) c.in-Err.ensures.prepares.goes

pub returns-in-Err-clause-grow : goal.returns-in-Err-clause-grow
returns-in-Err-clause-grow g c =
    subst (λ (w : View). (d : Dev) → Grows ((g.P.Plant.view c.args.run.complex.plant).loses d) (w.loses d)) (sym (ap g.P.Plant.view c.end_run.ensures.plant)) (λ d. inl (c.in-Err.ensures.prepares.loses d))

pub returns-in-Err-clause-cause : goal.returns-in-Err-clause-cause
returns-in-Err-clause-cause g c =
    let x = c.args.run.complex in
    let P = g.P.Plant in
    let e = c.end_run.ensures in
    cause_by x.pair.first.alive x.pair.second.alive c.end_run.result.status _ (P.view x.plant) (P.view c.end_run.result.plant) (P.view c.prepare.new.complex.plant) (e.status ∙ c.status_of.ensures) (ap P.view e.plant)
    (refused_cause x c.prepare.new.complex c.args.course.now.lines.now (nothing_flies x c.args.run.members c.requires.between c.requires.shows) (nothing_placed x c.args.run.members c.requires.between c.requires.shows)
    c.prepare.ensures.frame c.requires.there1 c.requires.there2 c.in-Err.why c.in-Err.ensures.prepares)

pub returns-in-Err-clause-race : goal.returns-in-Err-clause-race
returns-in-Err-clause-race g c =
    let x = c.args.run.complex in
    let m = c.prepare.new.complex in
    let P = g.P.Plant in
    let e = c.end_run.ensures in
    let r = c.end_run.result in
    let steps = c.args.course.now.lines.now in
    let base = e.base ∙ base_on c.args.run.complex c.prepare.new.complex c.prepare.ensures.frame in
    let since = e.since ∙ since_on c.args.run.complex c.prepare.new.complex c.prepare.ensures.frame in
    let renewals = renewals_on c.args.run.complex c.prepare.new.complex c.prepare.ensures.frame ∙ c.requires.unrenewed in
    let safe = safe_by P.tells r.base x.base r.since x.since r.journal m.renewals (P.view r.plant) (P.view m.plant) base since renewals (ap P.view e.plant) c.requires.between.sound e.headline in
    race_by P.tells steps r.status _ r.base x.base x.journal.batches r.journal r.since x.since (P.view x.plant) (P.view r.plant) (P.view m.plant) (e.status ∙ c.status_of.ensures) base since (ap P.view e.plant)
    (refused_race x m steps (nothing_flies x c.args.run.members c.requires.between c.requires.shows) (nothing_placed x c.args.run.members c.requires.between c.requires.shows)
    c.prepare.ensures.frame c.requires.there1 c.requires.there2 c.in-Err.why c.in-Err.ensures.prepares c.requires.some r.journal e.journal safe)

-- THE MEMBERS RACED

-- their lines ended the run

pub returns-in_default-status : goal.returns-in_default-status
returns-in_default-status g c =
    let P = g.P.Plant in
    let x = c.args.run.complex in
    let m = c.prepare.new.complex in
    let y = c.race_value-status.result.1 in
    let e = c.end_run-in_default-status.ensures in
    let r = c.end_run-in_default-status.result in
    let raced = c.race_value-status.ensures.raced in
    let steps = c.args.course.now.lines.now in
    let base_is = e.base ∙ raced.base ∙ base_on c.args.run.complex c.prepare.new.complex c.prepare.ensures.frame in
    let since_is = e.since ∙ raced.since ∙ since_on c.args.run.complex c.prepare.new.complex c.prepare.ensures.frame in
    let safe = safe_by P.tells r.base x.base r.since x.since r.journal y.renewals (P.view r.plant) (P.view y.plant) base_is since_is (raced.from.renewals) (ap P.view e.plant) c.requires.between.sound e.headline in
    record {
      base = base_is;
      since = since_is;
      kind = ap is_of_play e.status ∙ race_kind x m steps (nothing_flies x c.args.run.members c.requires.between c.requires.shows) (nothing_placed x c.args.run.members c.requires.between c.requires.shows) c.prepare.ensures.frame c.requires.there1 c.requires.there2 c.in_default.ensures.prepares y c.race_value-status.result.0 raced (P.view y.plant) (saying_none (P.view y.plant)) c.race_value-status.result.0 r.journal e.journal (ends_other P.tells c.race_value-status.result.0 r.journal (P.view y.plant) c.in_default-status.not-Done);
      goes = subst (λ (w : View). Proceeds (P.view x.plant) w) (sym (ap P.view e.plant)) (race_goes x m steps (nothing_flies x c.args.run.members c.requires.between c.requires.shows) (nothing_placed x c.args.run.members c.requires.between c.requires.shows) c.prepare.ensures.frame c.requires.there1 c.requires.there2 c.in_default.ensures.prepares y c.race_value-status.result.0 raced (P.view y.plant) (saying_none (P.view y.plant)) c.race_value-status.result.0 r.journal e.journal (ends_other P.tells c.race_value-status.result.0 r.journal (P.view y.plant) c.in_default-status.not-Done));
      grow = subst (λ (w : View). (d : Dev) → Grows ((P.view x.plant).loses d) (w.loses d)) (sym (ap P.view e.plant)) (race_grows x m steps (nothing_flies x c.args.run.members c.requires.between c.requires.shows) (nothing_placed x c.args.run.members c.requires.between c.requires.shows) c.prepare.ensures.frame c.requires.there1 c.requires.there2 c.in_default.ensures.prepares y c.race_value-status.result.0 raced (P.view y.plant) (saying_none (P.view y.plant)) c.race_value-status.result.0 r.journal e.journal (ends_other P.tells c.race_value-status.result.0 r.journal (P.view y.plant) c.in_default-status.not-Done));
      cause = cause_by x.pair.first.alive x.pair.second.alive r.status c.race_value-status.result.0 (P.view x.plant) (P.view r.plant) (P.view y.plant) e.status (ap P.view e.plant) (race_cause x m steps (nothing_flies x c.args.run.members c.requires.between c.requires.shows) (nothing_placed x c.args.run.members c.requires.between c.requires.shows) c.prepare.ensures.frame c.requires.there1 c.requires.there2 c.in_default.ensures.prepares y c.race_value-status.result.0 raced (P.view y.plant) (saying_none (P.view y.plant)) c.race_value-status.result.0 r.journal e.journal (ends_other P.tells c.race_value-status.result.0 r.journal (P.view y.plant) c.in_default-status.not-Done));
      race = race_by P.tells steps r.status c.race_value-status.result.0 r.base x.base x.journal.batches r.journal r.since x.since (P.view x.plant) (P.view r.plant) (P.view y.plant) e.status base_is since_is (ap P.view e.plant)
          (race_is x m steps (nothing_flies x c.args.run.members c.requires.between c.requires.shows) (nothing_placed x c.args.run.members c.requires.between c.requires.shows) c.prepare.ensures.frame c.requires.there1 c.requires.there2 c.in_default.ensures.prepares y c.race_value-status.result.0 raced (P.view y.plant) (saying_none (P.view y.plant)) c.race_value-status.result.0 r.journal e.journal (ends_other P.tells c.race_value-status.result.0 r.journal (P.view y.plant) c.in_default-status.not-Done) safe);
    }

-- each line closed, and the history was to be said

pub returns-clause-base : goal.returns-clause-base
returns-clause-base g c =
    let P = g.P.Plant in
    let x = c.args.run.complex in
    let m = c.prepare.new.complex in
    let y = c.race_value-status.result.1 in
    let z = c.say_history-answer.new.complex in
    let e = c.end_run-2.ensures in
    let r = c.end_run-2.result in
    let raced = c.race_value-status.ensures.raced in
    let steps = c.args.course.now.lines.now in
    let journal : r.journal.batches ≡ journal_of (parts_of y) = e.journal ∙ journal_on y z c.say_history-answer.ensures.frame in
    e.base ∙ base_on y z c.say_history-answer.ensures.frame ∙ raced.base ∙ base_on c.args.run.complex c.prepare.new.complex c.prepare.ensures.frame

pub returns-clause-since : goal.returns-clause-since
returns-clause-since g c =
    let P = g.P.Plant in
    let x = c.args.run.complex in
    let m = c.prepare.new.complex in
    let y = c.race_value-status.result.1 in
    let z = c.say_history-answer.new.complex in
    let e = c.end_run-2.ensures in
    let r = c.end_run-2.result in
    let raced = c.race_value-status.ensures.raced in
    let steps = c.args.course.now.lines.now in
    let journal : r.journal.batches ≡ journal_of (parts_of y) = e.journal ∙ journal_on y z c.say_history-answer.ensures.frame in
    e.since ∙ since_on y z c.say_history-answer.ensures.frame ∙ raced.since ∙ since_on c.args.run.complex c.prepare.new.complex c.prepare.ensures.frame

pub returns-clause-kind : goal.returns-clause-kind
returns-clause-kind g c =
    let P = g.P.Plant in
    let x = c.args.run.complex in
    let m = c.prepare.new.complex in
    let y = c.race_value-status.result.1 in
    let z = c.say_history-answer.new.complex in
    let e = c.end_run-2.ensures in
    let r = c.end_run-2.result in
    let raced = c.race_value-status.ensures.raced in
    let steps = c.args.course.now.lines.now in
    let journal : r.journal.batches ≡ journal_of (parts_of y) = e.journal ∙ journal_on y z c.say_history-answer.ensures.frame in
    ap is_of_play e.status ∙ race_kind x m steps (nothing_flies x c.args.run.members c.requires.between c.requires.shows) (nothing_placed x c.args.run.members c.requires.between c.requires.shows) c.prepare.ensures.frame c.requires.there1 c.requires.there2 c.in_default.ensures.prepares y c.race_value-status.result.0 raced (P.view z.plant) c.say_history-answer.ensures.acts c.say_history-answer.result r.journal journal (ends_done P.tells c.race_value-status.result.0 c.say_history-answer.result r.journal (P.view y.plant) (P.view z.plant) c.in-Done.is (said_as P.tells c.say_history-answer.result y.journal r.journal (P.view y.plant) (P.view z.plant) (history_same y.journal r.journal (sym (kept_is y) ∙ ap kept_all (sym journal))) c.say_history-answer.ensures.says))

pub returns-clause-goes : goal.returns-clause-goes
returns-clause-goes g c =
    let P = g.P.Plant in
    let x = c.args.run.complex in
    let m = c.prepare.new.complex in
    let y = c.race_value-status.result.1 in
    let z = c.say_history-answer.new.complex in
    let e = c.end_run-2.ensures in
    let r = c.end_run-2.result in
    let raced = c.race_value-status.ensures.raced in
    let steps = c.args.course.now.lines.now in
    let journal : r.journal.batches ≡ journal_of (parts_of y) = e.journal ∙ journal_on y z c.say_history-answer.ensures.frame in
    subst (λ (w : View). Proceeds (P.view x.plant) w) (sym (ap P.view e.plant)) (race_goes x m steps (nothing_flies x c.args.run.members c.requires.between c.requires.shows) (nothing_placed x c.args.run.members c.requires.between c.requires.shows) c.prepare.ensures.frame c.requires.there1 c.requires.there2 c.in_default.ensures.prepares y c.race_value-status.result.0 raced (P.view z.plant) c.say_history-answer.ensures.acts c.say_history-answer.result r.journal journal (ends_done P.tells c.race_value-status.result.0 c.say_history-answer.result r.journal (P.view y.plant) (P.view z.plant) c.in-Done.is (said_as P.tells c.say_history-answer.result y.journal r.journal (P.view y.plant) (P.view z.plant) (history_same y.journal r.journal (sym (kept_is y) ∙ ap kept_all (sym journal))) c.say_history-answer.ensures.says)))

pub returns-clause-grow : goal.returns-clause-grow
returns-clause-grow g c =
    let P = g.P.Plant in
    let x = c.args.run.complex in
    let m = c.prepare.new.complex in
    let y = c.race_value-status.result.1 in
    let z = c.say_history-answer.new.complex in
    let e = c.end_run-2.ensures in
    let r = c.end_run-2.result in
    let raced = c.race_value-status.ensures.raced in
    let steps = c.args.course.now.lines.now in
    let journal : r.journal.batches ≡ journal_of (parts_of y) = e.journal ∙ journal_on y z c.say_history-answer.ensures.frame in
    subst (λ (w : View). (d : Dev) → Grows ((P.view x.plant).loses d) (w.loses d)) (sym (ap P.view e.plant)) (race_grows x m steps (nothing_flies x c.args.run.members c.requires.between c.requires.shows) (nothing_placed x c.args.run.members c.requires.between c.requires.shows) c.prepare.ensures.frame c.requires.there1 c.requires.there2 c.in_default.ensures.prepares y c.race_value-status.result.0 raced (P.view z.plant) c.say_history-answer.ensures.acts c.say_history-answer.result r.journal journal (ends_done P.tells c.race_value-status.result.0 c.say_history-answer.result r.journal (P.view y.plant) (P.view z.plant) c.in-Done.is (said_as P.tells c.say_history-answer.result y.journal r.journal (P.view y.plant) (P.view z.plant) (history_same y.journal r.journal (sym (kept_is y) ∙ ap kept_all (sym journal))) c.say_history-answer.ensures.says)))

pub returns-clause-cause : goal.returns-clause-cause
returns-clause-cause g c =
    let P = g.P.Plant in
    let x = c.args.run.complex in
    let m = c.prepare.new.complex in
    let y = c.race_value-status.result.1 in
    let z = c.say_history-answer.new.complex in
    let e = c.end_run-2.ensures in
    let r = c.end_run-2.result in
    let raced = c.race_value-status.ensures.raced in
    let steps = c.args.course.now.lines.now in
    let journal : r.journal.batches ≡ journal_of (parts_of y) = e.journal ∙ journal_on y z c.say_history-answer.ensures.frame in
    cause_by x.pair.first.alive x.pair.second.alive r.status c.say_history-answer.result (P.view x.plant) (P.view r.plant) (P.view z.plant) e.status (ap P.view e.plant) (race_cause x m steps (nothing_flies x c.args.run.members c.requires.between c.requires.shows) (nothing_placed x c.args.run.members c.requires.between c.requires.shows) c.prepare.ensures.frame c.requires.there1 c.requires.there2 c.in_default.ensures.prepares y c.race_value-status.result.0 raced (P.view z.plant) c.say_history-answer.ensures.acts c.say_history-answer.result r.journal journal (ends_done P.tells c.race_value-status.result.0 c.say_history-answer.result r.journal (P.view y.plant) (P.view z.plant) c.in-Done.is (said_as P.tells c.say_history-answer.result y.journal r.journal (P.view y.plant) (P.view z.plant) (history_same y.journal r.journal (sym (kept_is y) ∙ ap kept_all (sym journal))) c.say_history-answer.ensures.says)))

pub returns-clause-race : goal.returns-clause-race
returns-clause-race g c =
    let P = g.P.Plant in
    let x = c.args.run.complex in
    let m = c.prepare.new.complex in
    let y = c.race_value-status.result.1 in
    let z = c.say_history-answer.new.complex in
    let e = c.end_run-2.ensures in
    let r = c.end_run-2.result in
    let raced = c.race_value-status.ensures.raced in
    let steps = c.args.course.now.lines.now in
    let journal : r.journal.batches ≡ journal_of (parts_of y) = e.journal ∙ journal_on y z c.say_history-answer.ensures.frame in
    let base = e.base ∙ base_on y z c.say_history-answer.ensures.frame ∙ raced.base ∙ base_on c.args.run.complex c.prepare.new.complex c.prepare.ensures.frame in
    let since = e.since ∙ since_on y z c.say_history-answer.ensures.frame ∙ raced.since ∙ since_on c.args.run.complex c.prepare.new.complex c.prepare.ensures.frame in
    let safe = safe_by P.tells r.base x.base r.since x.since r.journal z.renewals (P.view r.plant) (P.view z.plant) base since (renewals_on y z c.say_history-answer.ensures.frame ∙ raced.from.renewals) (ap P.view e.plant) c.requires.between.sound e.headline in
    race_by P.tells steps r.status c.say_history-answer.result r.base x.base x.journal.batches r.journal r.since x.since (P.view x.plant) (P.view r.plant) (P.view z.plant) e.status base since (ap P.view e.plant)
    (race_is x m steps (nothing_flies x c.args.run.members c.requires.between c.requires.shows) (nothing_placed x c.args.run.members c.requires.between c.requires.shows) c.prepare.ensures.frame c.requires.there1 c.requires.there2 c.in_default.ensures.prepares y c.race_value-status.result.0 raced (P.view z.plant) c.say_history-answer.ensures.acts c.say_history-answer.result r.journal journal (ends_done P.tells c.race_value-status.result.0 c.say_history-answer.result r.journal (P.view y.plant) (P.view z.plant) c.in-Done.is (said_as P.tells c.say_history-answer.result y.journal r.journal (P.view y.plant) (P.view z.plant) (history_same y.journal r.journal (sym (kept_is y) ∙ ap kept_all (sym journal))) c.say_history-answer.ensures.says)) safe)
