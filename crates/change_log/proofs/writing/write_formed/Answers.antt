use Rattle.std.proofs.Common.{arith, length, ◌≤◌, ◌*◌, ℕ, List, ap, sym, ◌∙◌}
use Rattle.mas_types.specs.Limits.{page_bytes}
use Rattle.spool_plant.specs.View.{disk_now}
use Rattle.ckpt_copy.specs.Pages.{bytes_of}
use Rattle.change_log.specs.Logs.{log_size}
use Rattle.change_log.specs.LogStates.{IsReady}
use Rattle.ckpt_copy.specs.Moments.{meanwhile_end}
use Rattle.ckpt_copy.proofs.Spreading.{spread_first, spread_on}
use Rattle.change_log.proofs.LogForming.{formed_now, head_spreads, head_put}
use Rattle.change_log.proofs.Paging.{slice_length}
use Rattle.change_log.proofs.writing.write_formed.Goals as goal

pub returns-in_err-write_act-clause-during : goal.returns-in_err-write_act-clause-during
returns-in_err-write_act-clause-during g c told =
    spread_first c.args.dev 1 _ 1 11 _ _ (omega arith) (omega arith) (head_spreads c.args.dev _ _ _ _ c.log_head.ensures (c.write_act.ensures.during told))

pub returns-in_err-write_pages-clause-during : goal.returns-in_err-write_pages-clause-during
returns-in_err-write_pages-clause-during g c told =
    spread_on c.args.dev 1 _ _ _ _ _ _ (omega arith) (omega arith)
    (spread_first c.args.dev 1 _ 1 11 _ _ (omega arith) (omega arith) (head_spreads c.args.dev _ _ _ _ c.log_head.ensures (c.write_act.ensures.during told))) (c.write_pages.ensures.during told)

pub returns-clause-during : goal.returns-clause-during
returns-clause-during g c told =
    spread_on c.args.dev 1 _ _ _ _ _ _ (omega arith) (omega arith)
    (spread_first c.args.dev 1 _ 1 11 _ _ (omega arith) (omega arith) (head_spreads c.args.dev _ _ _ _ c.log_head.ensures (c.write_act.ensures.during told))) (c.write_pages.ensures.during told)

pub returns-clause-written : goal.returns-clause-written
returns-clause-written g c told enough =
    let new = c.write_pages.new.plant in
    let size : log_size (length c.args.pages.now) ≤ length (disk_now (g.P.Plant.view new) c.args.dev).bytes =
    omega (arith, c.requires.size, g.met.P.Plant.sized new told (g.P.Plant.view new).now (omega arith) c.args.dev, c.write_act.ensures.cause.goes.size c.args.dev, c.write_pages.ensures.cause.goes.size c.args.dev) in
    let ready : IsReady (length c.args.pages.now) (length (disk_now (g.P.Plant.view new) c.args.dev).bytes) = record { enough = enough; few = c.requires.few; large = size } in
    formed_now (length c.args.pages.now) (bytes_of c.args.pages.now) (disk_now (g.P.Plant.view c.write_act.new.plant) c.args.dev) (disk_now (g.P.Plant.view new) c.args.dev) ready
    (head_put _ _ (disk_now (g.P.Plant.view c.write_act.new.plant) c.args.dev) c.log_head.ensures (c.in_ok-write_act.ensures.put told)) (meanwhile_end _ _ _ _ (c.write_pages.ensures.during told)) (c.in_ok-write_pages.ensures.put told)
    (ap (λ (l : List ℕ). length l) (sym (c.in_ok-write_pages.ensures.put told).there) ∙ slice_length page_bytes (page_bytes * length c.args.pages.now) (disk_now (g.P.Plant.view new) c.args.dev).bytes (omega (arith, size)))
