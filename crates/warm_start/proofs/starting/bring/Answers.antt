use Rattle.std.proofs.Common.{◌≡◌, List, ℕ, ◌∙◌, arith}
use Rattle.mas_types.specs.declared.ids.Dev.TheVariants.{Ckpt1, Ckpt2}
use Rattle.spool_plant.specs.View.{disk_now}
use Rattle.ckpt_copy.specs.Pages.{bytes_of, level}
use Rattle.ckpt_copy.specs.Moments.{goes_on}
use Rattle.ckpt_copy.specs.Reading.{EachReads}
use Rattle.duplex_pair.specs.Halves.{SameOrLost}
use Rattle.duplex_pair.specs.Both.{Touched}
use Rattle.duplex_pair.proofs.Composing.{both_then}
use Rattle.duplex_pair.proofs.Mends.{held_then}
use Rattle.warm_start.specs.Starting.{IsHeld}
use Rattle.warm_start.proofs.Starts.{starts_acted, acted_unstopped, gone_on, both_weaker, own_of, own_lags, less_lost, less_held, held_since, held_touched, first_now, one_failed, second_now}
use Rattle.warm_start.proofs.starting.bring.Goals as goal

pub returns-clause-goes : goal.returns-clause-goes
returns-clause-goes g c =
    let view = g.P.Plant.view in
    goes_on (view c.args.plant.now) (view c.lose_unfit.new.plant) (view c.mend.new.plant) c.lose_unfit.ensures.goes c.mend.ensures.acted.goes

pub returns-clause-starts : goal.returns-clause-starts
returns-clause-starts g c = λ old s.
    let view = g.P.Plant.view in
    let p = c.lose_unfit.new.pair in
    let q = c.mend.new.self in
    let mid = view c.lose_unfit.new.plant in
    let new = view c.mend.new.plant in
    starts_acted old mid new p.first.alive q.first.alive p.second.alive q.second.alive (c.lose_unfit.ensures.starts old s)
    (acted_unstopped p.first.alive q.first.alive p.second.alive q.second.alive _ mid new c.mend.ensures.acted)

pub returns-clause-gone1 : goal.returns-clause-gone1
returns-clause-gone1 g c = λ told before.
    let C = g.C.Copying in
    let view = g.P.Plant.view in
    let p = c.lose_unfit.new.pair in
    let q = c.mend.new.self in
    let mid = view c.lose_unfit.new.plant in
    let new = view c.mend.new.plant in
    let F = c.args.start.now.found.pages in
    let one = own_of C.count C.room C.room_most C.ready C.rests g.P.Plant.tells Ckpt1 mid p.first.copy p.first.alive p.first.found F told p.first.alive c.lose_unfit.ensures.fits1 in
    let two = own_of C.count C.room C.room_most C.ready C.rests g.P.Plant.tells Ckpt2 mid p.second.copy p.second.alive p.second.found F told p.second.alive c.lose_unfit.ensures.fits2 in
    let pages = c.as_slice.result.now in
    let during = c.mend.ensures.during told one two
    (λ is. rw c.as_slice.ensures (own_lags C.count C.room C.room_most C.ready C.rests g.P.Plant.tells Ckpt1 mid p.first.copy p.first.alive p.first.found F told p.first.alive c.lose_unfit.ensures.fits1 is))
    (λ is. rw c.as_slice.ensures (own_lags C.count C.room C.room_most C.ready C.rests g.P.Plant.tells Ckpt2 mid p.second.copy p.second.alive p.second.found F told p.second.alive c.lose_unfit.ensures.fits2 is)) in
    gone_on Ckpt1 p.first.alive q.first.alive (EachReads C.reads one (bytes_of pages)) mid new during.goes.later (c.lose_unfit.ensures.gone1 told before) (c.mend.ensures.gone1 told)
    (during.first new.now during.goes.later (omega arith))

pub returns-clause-gone2 : goal.returns-clause-gone2
returns-clause-gone2 g c = λ told before.
    let C = g.C.Copying in
    let view = g.P.Plant.view in
    let p = c.lose_unfit.new.pair in
    let q = c.mend.new.self in
    let mid = view c.lose_unfit.new.plant in
    let new = view c.mend.new.plant in
    let F = c.args.start.now.found.pages in
    let one = own_of C.count C.room C.room_most C.ready C.rests g.P.Plant.tells Ckpt1 mid p.first.copy p.first.alive p.first.found F told p.first.alive c.lose_unfit.ensures.fits1 in
    let two = own_of C.count C.room C.room_most C.ready C.rests g.P.Plant.tells Ckpt2 mid p.second.copy p.second.alive p.second.found F told p.second.alive c.lose_unfit.ensures.fits2 in
    let pages = c.as_slice.result.now in
    let during = c.mend.ensures.during told one two
    (λ is. rw c.as_slice.ensures (own_lags C.count C.room C.room_most C.ready C.rests g.P.Plant.tells Ckpt1 mid p.first.copy p.first.alive p.first.found F told p.first.alive c.lose_unfit.ensures.fits1 is))
    (λ is. rw c.as_slice.ensures (own_lags C.count C.room C.room_most C.ready C.rests g.P.Plant.tells Ckpt2 mid p.second.copy p.second.alive p.second.found F told p.second.alive c.lose_unfit.ensures.fits2 is)) in
    gone_on Ckpt2 p.second.alive q.second.alive (EachReads C.reads two (bytes_of pages)) mid new during.goes.later (c.lose_unfit.ensures.gone2 told before) (c.mend.ensures.gone2 told)
    (during.second new.now during.goes.later (omega arith))

pub returns-clause-during : goal.returns-clause-during
returns-clause-during g c = λ told.
    let C = g.C.Copying in
    let view = g.P.Plant.view in
    let p = c.lose_unfit.new.pair in
    let old = view c.args.plant.now in
    let mid = view c.lose_unfit.new.plant in
    let new = view c.mend.new.plant in
    let F = c.args.start.now.found.pages in
    let B : List ℕ = bytes_of F in
    let f1 = c.lose_unfit.ensures.fits1 in
    let f2 = c.lose_unfit.ensures.fits2 in
    let one = own_of C.count C.room C.room_most C.ready C.rests g.P.Plant.tells Ckpt1 mid p.first.copy p.first.alive p.first.found F told p.first.alive f1 in
    let two = own_of C.count C.room C.room_most C.ready C.rests g.P.Plant.tells Ckpt2 mid p.second.copy p.second.alive p.second.found F told p.second.alive f2 in
    let lags1 = own_lags C.count C.room C.room_most C.ready C.rests g.P.Plant.tells Ckpt1 mid p.first.copy p.first.alive p.first.found F told p.first.alive f1 in
    let lags2 = own_lags C.count C.room C.room_most C.ready C.rests g.P.Plant.tells Ckpt2 mid p.second.copy p.second.alive p.second.found F told p.second.alive f2 in
    let d1 = disk_now old Ckpt1 in
    let d2 = disk_now old Ckpt2 in
    let m1 = disk_now mid Ckpt1 in
    let m2 = disk_now mid Ckpt2 in
    let lost = c.lose_unfit.ensures.during told in
    let mended = rw c.as_slice.ensures at (c.mend.ensures.during told one two (λ is. rw c.as_slice.ensures (lags1 is)) (λ is. rw c.as_slice.ensures (lags2 is))) in
    both_then (IsHeld C.reads d1 B) (IsHeld C.reads d2 B) old mid new
    (both_weaker (SameOrLost d1) (SameOrLost d2) (IsHeld C.reads d1 B) (IsHeld C.reads d2 B) old mid (λ d s. less_held C.reads d1 d B (less_lost d1 d s)) (λ d s. less_held C.reads d2 d B (less_lost d2 d s)) lost)
    (both_weaker (Touched p.first.alive (EachReads C.reads one B) m1) (Touched p.second.alive (EachReads C.reads two B) m2) (IsHeld C.reads d1 B) (IsHeld C.reads d2 B) mid new
    (λ d t. held_since C.reads d1 m1 d B (less_lost d1 m1 (first_now (SameOrLost d1) (SameOrLost d2) old mid lost)) (held_touched C.reads p.first.alive m1 d one B (λ is. g.met.C.Copying.rests_now p.first.copy one m1 (lags1 is).rest) t))
    (λ d t. held_since C.reads d2 m2 d B (less_lost d2 m2 (second_now (SameOrLost d1) (SameOrLost d2) old mid lost)) (held_touched C.reads p.second.alive m2 d two B (λ is. g.met.C.Copying.rests_now p.second.copy two m2 (lags2 is).rest) t))
    mended)

pub returns-clause-rests1 : goal.returns-clause-rests1
returns-clause-rests1 g c =
    let C = g.C.Copying in
    let view = g.P.Plant.view in
    let p = c.lose_unfit.new.pair in
    let mid = view c.lose_unfit.new.plant in
    let F = c.args.start.now.found.pages in
    held_then c.mend.result c.mend.ensures.mended1 (λ mended told is.
    let one = own_of C.count C.room C.room_most C.ready C.rests g.P.Plant.tells Ckpt1 mid p.first.copy p.first.alive p.first.found F told p.first.alive c.lose_unfit.ensures.fits1 in
    let two = own_of C.count C.room C.room_most C.ready C.rests g.P.Plant.tells Ckpt2 mid p.second.copy p.second.alive p.second.found F told p.second.alive c.lose_unfit.ensures.fits2 in
    rw c.as_slice.ensures at (mended told is one two
    (λ a. rw c.as_slice.ensures (own_lags C.count C.room C.room_most C.ready C.rests g.P.Plant.tells Ckpt1 mid p.first.copy p.first.alive p.first.found F told p.first.alive c.lose_unfit.ensures.fits1 a))
    (λ a. rw c.as_slice.ensures (own_lags C.count C.room C.room_most C.ready C.rests g.P.Plant.tells Ckpt2 mid p.second.copy p.second.alive p.second.found F told p.second.alive c.lose_unfit.ensures.fits2 a))))

pub returns-clause-rests2 : goal.returns-clause-rests2
returns-clause-rests2 g c =
    let C = g.C.Copying in
    let view = g.P.Plant.view in
    let p = c.lose_unfit.new.pair in
    let mid = view c.lose_unfit.new.plant in
    let F = c.args.start.now.found.pages in
    held_then c.mend.result c.mend.ensures.mended2 (λ mended told is.
    let one = own_of C.count C.room C.room_most C.ready C.rests g.P.Plant.tells Ckpt1 mid p.first.copy p.first.alive p.first.found F told p.first.alive c.lose_unfit.ensures.fits1 in
    let two = own_of C.count C.room C.room_most C.ready C.rests g.P.Plant.tells Ckpt2 mid p.second.copy p.second.alive p.second.found F told p.second.alive c.lose_unfit.ensures.fits2 in
    rw c.as_slice.ensures at (mended told is one two
    (λ a. rw c.as_slice.ensures (own_lags C.count C.room C.room_most C.ready C.rests g.P.Plant.tells Ckpt1 mid p.first.copy p.first.alive p.first.found F told p.first.alive c.lose_unfit.ensures.fits1 a))
    (λ a. rw c.as_slice.ensures (own_lags C.count C.room C.room_most C.ready C.rests g.P.Plant.tells Ckpt2 mid p.second.copy p.second.alive p.second.found F told p.second.alive c.lose_unfit.ensures.fits2 a))))

pub returns-clause-kept1 : goal.returns-clause-kept1
returns-clause-kept1 g c = λ stays. c.mend.ensures.acted.loses Ckpt1 ∙ c.lose_unfit.ensures.kept1 stays

pub returns-clause-kept2 : goal.returns-clause-kept2
returns-clause-kept2 g c = λ stays. c.mend.ensures.acted.loses Ckpt2 ∙ c.lose_unfit.ensures.kept2 stays

pub returns-clause-dead1 : goal.returns-clause-dead1
returns-clause-dead1 g c = λ dead. c.mend.ensures.acted.loses Ckpt1 ∙ c.lose_unfit.ensures.dead1 dead

pub returns-clause-dead2 : goal.returns-clause-dead2
returns-clause-dead2 g c = λ dead. c.mend.ensures.acted.loses Ckpt2 ∙ c.lose_unfit.ensures.dead2 dead

pub returns-clause-failed : goal.returns-clause-failed
returns-clause-failed g c = λ is old s.
    let view = g.P.Plant.view in
    let p = c.lose_unfit.new.pair in
    let q = c.mend.new.self in
    let found = level (bytes_of c.args.start.now.found.pages) in
    one_failed (p.first.found ≡ found) (p.second.found ≡ found) old (view c.lose_unfit.new.plant) (view c.mend.new.plant) p.first.alive q.first.alive p.second.alive q.second.alive _
    (c.lose_unfit.ensures.starts old s) c.mend.ensures.acted (c.mend.ensures.both is) c.lose_unfit.ensures.one
