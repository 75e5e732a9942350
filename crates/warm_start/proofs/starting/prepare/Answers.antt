use Rattle.std.proofs.Common.{◌∙◌, ◌≤◌, ℕ, length, subst, sym}
use Rattle.std.proofs.lemmas.Result.{err_from_is_err_and}
use Rattle.mas_types.specs.declared.ids.Dev.TheVariants.{Ckpt1, Ckpt2}
use Rattle.ckpt_copy.specs.Moments.{goes_on}
use Rattle.warm_start.proofs.Prepared.{gone_read1, gone_read2, looked_all, looked_only, chosen_read, starts_lost}
use Rattle.warm_start.proofs.SoundTold.{sound_told}
use Rattle.warm_start.proofs.Spooling.{roomy_later, steady_then}
use Rattle.warm_start.proofs.Starts.{starts_read}
use Rattle.warm_start.proofs.starting.prepare.Goals as goal

pub spooled_queue-requires-clause-spelling : goal.spooled_queue-requires-clause-spelling
spooled_queue-requires-clause-spelling g c = c.in_ok-found.ensures.chosen.usable.0.fit

-- WHERE THE COPIES GIVE NOTHING

pub returns-in_err-found-clause-goes : goal.returns-in_err-found-clause-goes
returns-in_err-found-clause-goes g c = c.find.ensures.acted.goes

pub returns-in_err-found-clause-loses : goal.returns-in_err-found-clause-loses
returns-in_err-found-clause-loses g c = c.find.ensures.acted.loses

pub returns-in_err-found-clause-during : goal.returns-in_err-found-clause-during
returns-in_err-found-clause-during g c told =
    let P = g.P.Plant in
    looked_only (P.view c.args.plant.now) (P.view c.find.new.plant) (c.find.ensures.during told)

pub returns-in_err-found-clause-cause : goal.returns-in_err-found-clause-cause
returns-in_err-found-clause-cause g c =
    let p = err_from_is_err_and c.from_residual.result c.from_residual.ensures.1 in
    rw (p.1, p.2) c.in_err-found.ensures.cause

pub returns-in_err-found-clause-lost : goal.returns-in_err-found-clause-lost
returns-in_err-found-clause-lost g c =
    let P = g.P.Plant in
    let C = g.C.Copying in
    let n = c.find.new.pair in
    let p = err_from_is_err_and c.from_residual.result c.from_residual.ensures.1 in
    rw (p.1, p.2)
    (starts_lost C.reads P.tells C.needs (P.view c.args.plant.now) (P.view c.find.new.plant) n.first.alive n.second.alive _ c.find.ensures.acted c.in_err-found.ensures.cause)

-- WHERE THERE IS NO MEMORY FOR THE TEXTS

pub returns-in_default-clause-goes : goal.returns-in_default-clause-goes
returns-in_default-clause-goes g c =
    let P = g.P.Plant in
    goes_on (P.view c.args.plant.now) (P.view c.find.new.plant) (P.view c.spooled_queue.new.plant) c.find.ensures.acted.goes c.spooled_queue.ensures.looks.goes

pub returns-in_default-clause-loses : goal.returns-in_default-clause-loses
returns-in_default-clause-loses g c d = c.spooled_queue.ensures.looks.loses d ∙ c.find.ensures.acted.loses d

pub returns-in_default-clause-gone1 : goal.returns-in_default-clause-gone1
returns-in_default-clause-gone1 g c told =
    let P = g.P.Plant in
    gone_read1 P.tells (P.view c.find.new.plant) (P.view c.spooled_queue.new.plant) c.spooled_queue.ensures.looks c.find.new.pair.first.alive told (c.find.ensures.gone1 told)

pub returns-in_default-clause-gone2 : goal.returns-in_default-clause-gone2
returns-in_default-clause-gone2 g c told =
    let P = g.P.Plant in
    gone_read2 P.tells (P.view c.find.new.plant) (P.view c.spooled_queue.new.plant) c.spooled_queue.ensures.looks c.find.new.pair.second.alive told (c.find.ensures.gone2 told)

pub returns-in_default-clause-during : goal.returns-in_default-clause-during
returns-in_default-clause-during g c told =
    let P = g.P.Plant in
    looked_all (P.view c.args.plant.now) (P.view c.find.new.plant) (P.view c.spooled_queue.new.plant) (c.find.ensures.during told) (c.spooled_queue.ensures.looks.during told)

-- WHERE THERE IS

pub returns-clause-goes : goal.returns-clause-goes
returns-clause-goes g c =
    let P = g.P.Plant in
    goes_on (P.view c.args.plant.now) (P.view c.find.new.plant) (P.view c.spooled_queue.new.plant) c.find.ensures.acted.goes c.spooled_queue.ensures.looks.goes

pub returns-clause-loses : goal.returns-clause-loses
returns-clause-loses g c d = c.spooled_queue.ensures.looks.loses d ∙ c.find.ensures.acted.loses d

pub returns-clause-gone1 : goal.returns-clause-gone1
returns-clause-gone1 g c told =
    let P = g.P.Plant in
    gone_read1 P.tells (P.view c.find.new.plant) (P.view c.spooled_queue.new.plant) c.spooled_queue.ensures.looks c.find.new.pair.first.alive told (c.find.ensures.gone1 told)

pub returns-clause-gone2 : goal.returns-clause-gone2
returns-clause-gone2 g c told =
    let P = g.P.Plant in
    gone_read2 P.tells (P.view c.find.new.plant) (P.view c.spooled_queue.new.plant) c.spooled_queue.ensures.looks c.find.new.pair.second.alive told (c.find.ensures.gone2 told)

pub returns-clause-during : goal.returns-clause-during
returns-clause-during g c told =
    let P = g.P.Plant in
    looked_all (P.view c.args.plant.now) (P.view c.find.new.plant) (P.view c.spooled_queue.new.plant) (c.find.ensures.during told) (c.spooled_queue.ensures.looks.during told)

pub returns-clause-starts : goal.returns-clause-starts
returns-clause-starts g c =
    let P = g.P.Plant in
    let n = c.find.new.pair in
    starts_read (P.view c.args.plant.now) (P.view c.find.new.plant) (P.view c.spooled_queue.new.plant) P.tells n.first.alive n.second.alive c.in_ok-found.ensures.starts c.spooled_queue.ensures.looks

pub returns-clause-large : goal.returns-clause-large
returns-clause-large g c =
    let C = g.C.Copying in
    let pages = c.in_ok-found.found.start.found.pages in
    let size = c.spooled_queue.ensures.looks.goes.size in (
      subst (λ (s : ℕ). C.needs (length pages) ≤ s) (sym (size Ckpt1)) c.in_ok-found.ensures.large.0,
      subst (λ (s : ℕ). C.needs (length pages) ≤ s) (sym (size Ckpt2)) c.in_ok-found.ensures.large.1,
    )

pub returns-clause-sound : goal.returns-clause-sound
returns-clause-sound g c =
    let t = c.in_ok-found.found.start.found.tables in
    let usable = c.in_ok-found.ensures.chosen.usable in
    sound_told t c.in-Ok.base c.in-Ok.ensures.tell (c.law_of_told_queues.ensures.sound t usable.0.fit usable.1.sound) c.in-Ok.ensures.limited

pub returns-clause-roomy : goal.returns-clause-roomy
returns-clause-roomy g c =
    let P = g.P.Plant in
    roomy_later (P.view c.find.new.plant) (P.view c.spooled_queue.new.plant) c.in_ok-found.found.start.found.tables.config c.spooled_queue.ensures.looks.goes c.in_ok-found.ensures.roomy

pub returns-clause-chosen : goal.returns-clause-chosen
returns-clause-chosen g c =
    let P = g.P.Plant in
    let C = g.C.Copying in
    let n = c.find.new.pair in
    let mid = P.view c.find.new.plant in
    let new = P.view c.spooled_queue.new.plant in
    let looks = c.spooled_queue.ensures.looks in
    chosen_read P.tells mid new looks C.count C.room C.room_most C.room_in C.ready C.reads C.rests (P.view c.args.plant.now) n.first.copy n.second.copy n.first.alive n.second.alive n.first.found n.second.found c.in_ok-found.found.start
    (λ ready. g.met.C.Copying.stays_ready n.first.copy mid new looks.goes ready) (λ ready. g.met.C.Copying.stays_ready n.second.copy mid new looks.goes ready) c.in_ok-found.ensures.chosen

pub returns-clause-given : goal.returns-clause-given
returns-clause-given g c told steady =
    let P = g.P.Plant in
    c.in-Ok.ensures.given told (steady_then (P.view c.args.plant.now) (P.view c.find.new.plant) (P.view c.spooled_queue.new.plant) c.find.ensures.acted.goes c.spooled_queue.ensures.looks.goes steady)
