use Rattle.std.specs.Prelude.{true}
use Rattle.member_units.proofs.Names.{Err, [], ◌≡◌, ◌+◌, ◌*◌, suc, ap, refl, arith, Queue, Run, Away, Found, aside_done, aside_most, aside_turn, aside_units, bounds, wrote_of, outside, place_of, queue_here, of_cut, apart_none, frame_of, played_as, plays_units, sat_of, says_units, low_bounds, works_sits, stops_by, text_within, wrote_within, kept_here, All-nil, ReadText, IsWithin, TurnWithin, Aside, Holder, played_error, follow_in, is_text, SittingEnd, cut, cut_few}
use Rattle.job_outcome.specs.Outcomes.{outcome_of}
use Rattle.member_node.specs.declared.member.NodeNo.TheVariants.{NoMemory}
use Rattle.member_steps.proofs.CountLemmas.{counted_error}
use Rattle.member_giving.proofs.Keeping.{keeping_none, keeping_wanted}
use Rattle.member_units.proofs.Parts.{roomy_low}
use Rattle.mas_complex.specs.Parts.{parts_of}
use Rattle.member_units.proofs.sitting.resume_work.Goals as goal

pub action_from-requires : goal.action_from-requires
action_from-requires g c =
    let x = c.args.complex.now in
    let m = c.args.member.now in
    record {
      works = works_sits x m c.args.holder c.requires.sits.sits c.requires.sits.bounds c.requires.sits.holder c.requires.base_sound;
      bare = record { low = low_bounds x m c.requires.sits.bounds; nothing = c.requires.sits.sits.seat.between.nothing };
      may = c.requires.may;
    }

-- out of memory for what becomes of the text
unread_within : (h : Holder) (found : Found) (Q : Queue) (a : Aside) → is_text a ≡ true → TurnWithin h found (aside_most a) (aside_done a + aside_units a) (aside_turn h Q a found)
unread_within h found Q (ReadText runs n fields p) is = text_within h found (3 * p.left + 3) (p.done + suc p.left) Q n p (omega arith) (omega arith) (outcome_of runs fields found.read) (stops_by runs fields found)
unread_within h found Q _ is = absurd (cc)

pub returns-in_default : goal.returns-in_default
returns-in_default g c =
    let P = g.P.Plant in
    let x = c.args.complex.now in
    let m = c.args.member.now in
    let h = c.args.holder in
    let a = c.args.aside in
    let f = c.args.found in
    let o = outside x in
    let t = aside_turn h (queue_here x m) a f in
    let nothing = c.requires.sits.sits.seat.between.nothing in
    let w = works_sits x m h c.requires.sits.sits c.requires.sits.bounds c.requires.sits.holder c.requires.base_sound in
    let units = aside_done a + aside_units a in
    let within = unread_within h f (queue_here x m) a c.in_default.ensures.text in
    record {
      frame = frame_of x x m m refl;
      id = refl;
      sat = sat_of x x m h (Away a) f (wrote_of [] t) (Err NoMemory) (plays_units P (parts_of x) m.id a f c.requires.may) (says_units P (parts_of x) m.id h a f c.requires.may) nothing w.still
          (λ told. ap (λ (Q : Queue). wrote_of [] (aside_turn h Q a f)) (kept_here x m nothing))
          (played_error P.tells h (IsWithin h (bounds (aside_most a) units f)) 0 {S = SittingEnd} NoMemory (wrote_of [] t) (wrote_of [] t) [] (place_of x m) o (λ told. refl) (of_cut h.by h.step [] t.parts (All-nil _) within.its) (wrote_within h f units (aside_most a) 0 (cut [] t.parts) t (aside_most a) (cut_few [] t.parts) (omega arith) within) tt
          (apart_none P.tells h.by o) (keeping_wanted P.tells h.by [] o o (keeping_none P.tells h.by o)) (counted_error {T = SittingEnd} h.by [] o.printed o.printed NoMemory refl));
      fresh = λ p same none. absurd (cc);
      leaves = tt;
    }

-- THE SITTING IS PLAYED

pub play-requires : goal.play-requires
play-requires g c =
    let x = c.args.complex.now in
    let m = c.args.member.now in
    let first = c.in-Ok.ensures.is in
    record {
      works = works_sits x m c.args.holder c.requires.sits.sits c.requires.sits.bounds c.requires.sits.holder c.requires.base_sound;
      nothing = c.requires.sits.sits.seat.between.nothing;
      room = roomy_low x m (low_bounds x m c.requires.sits.bounds) _ (omega (arith, c.requires.units, first.upto.level)) (omega (arith, c.requires.level, first.upto.level));
      units = omega (arith, c.requires.units, first.upto.units);
      may = first.may;
    }

pub returns : goal.returns
returns g c =
    let P = g.P.Plant in
    let x = c.args.complex.now in
    let m = c.args.member.now in
    let h = c.args.holder in
    let a = c.args.aside in
    let f = c.args.found in
    let nothing = c.requires.sits.sits.seat.between.nothing in
    let w = works_sits x m h c.requires.sits.sits c.requires.sits.bounds c.requires.sits.holder c.requires.base_sound in
    let first = c.in-Ok.ensures.is in
    let t = aside_turn h (queue_here x m) a f in
    record {
      frame = frame_of x c.play.new.complex m c.play.new.member c.play.ensures.run;
      id = ap (λ (r : Run). r.id) c.play.ensures.run;
      sat = sat_of x c.play.new.complex m h (Away a) f (wrote_of [] t) c.play.result (plays_units P (parts_of x) m.id a f c.requires.may) (says_units P (parts_of x) m.id h a f c.requires.may) nothing w.still
          (λ told. ap (λ (Q : Queue). wrote_of [] (aside_turn h Q a f)) (kept_here x m nothing))
          (played_as P.tells h (IsWithin h (bounds (aside_most a) (aside_done a + aside_units a) f)) 0 _ (wrote_of [] t) (place_of x m) (outside c.play.new.complex) c.play.result (λ told. ap (wrote_of []) (first.is told)) (c.play.ensures.plays (follow_in x.level (Away a)) f first.upto first.caused));
      fresh = λ p same none. absurd (cc);
      leaves = c.play.ensures.leaves (follow_in x.level (Away a)) first.upto;
    }
