use Rattle.std.proofs.Common.{subst, sym, arith, true, is_some, ap, ◌≡◌, ◌∙◌, ℕ, List, length, min, take, drop}
use Rattle.std.proofs.lemmas.List.{take_min, drop_min}
use Rattle.spool_disk.specs.declared.health.Health.{Health}
use Rattle.spool_disk.specs.Health.{health_at, since_of}
use Rattle.spool_disk.specs.Entries.{kept_in}
use Rattle.spool_disk.specs.Begins.{restarted}
use Rattle.spool_disk.specs.Known.{known_health}
use Rattle.spool_disk.specs.MemView.{mem_view}
use Rattle.spool_disk.proofs.Restart.{restarted_since, restarted_still}
use Rattle.spool_disk.proofs.Replaying.{kept_parts}
use Rattle.spool_disk.proofs.Crashed.{crashed, crashed_lost}
use Rattle.spool_disk.proofs.memory.MemPlant.crash_at.Goals as goal

pub crashed_base-requires : goal.crashed_base-requires
crashed_base-requires c =
    let s = c.args.self.now in
    omega (arith, ap kept_in (c.split_at.ensures.front ∙ ap (take c.min-end.result) c.deref.ensures.value), kept_parts c.min-end.result s.kept.log.items, s.kept.fits, ap (λ (l : List ℕ). length l) c.deref-2.ensures.value)

pub begin-requires-clause-first : goal.begin-requires-clause-first
begin-requires-clause-first c place =
    let is = c.in_ok-parts.ensures.each place in
    omega (arith, ap (λ (h : Health). since_of h.since) is, restarted_since c.args.t (known_health place c.split_at.result.1.now (health_at c.deref-3.result.now place)))

pub begin-requires-clause-none : goal.begin-requires-clause-none
begin-requires-clause-none c place =
    ap (λ (h : Health). h.faults) (c.in_ok-parts.ensures.each place)

pub begin-requires-clause-lost : goal.begin-requires-clause-lost
begin-requires-clause-lost c place =
    subst (λ (h : Health). is_some h.since ≡ true → h.lost ≡ true) (sym (c.in_ok-parts.ensures.each place)) (restarted_still c.args.t (known_health place c.split_at.result.1.now (health_at c.deref-3.result.now place)))

pub returns-clause-view : goal.returns-clause-view
returns-clause-view c =
    let s = c.args.self.now in
    let end : c.min-end.result ≡ min c.args.t (length s.kept.log.items) = omega (arith, c.min-end.ensures, c.len.ensures, s.kept.log.ok) in
    let front = c.split_at.ensures.front ∙ ap (take c.min-end.result) c.deref.ensures.value ∙ ap (λ (n : ℕ). take n s.kept.log.items) end ∙ take_min c.args.t s.kept.log.items in
    let behind = c.split_at.ensures.back ∙ ap (drop c.min-end.result) c.deref.ensures.value ∙ ap (λ (n : ℕ). drop n s.kept.log.items) end ∙ drop_min c.args.t s.kept.log.items in
    crashed c.args.choice s c.args.t c.in_ok-base.base c.in_ok-parts.parts.items _ c.split_at.result.0.now c.deref-2.result.now front c.deref-2.ensures.value c.in_ok-base.ensures.sizes c.in_ok-base.ensures.each c.in_ok-base.ensures.lines
    c.split_at.result.1.now behind
    (λ k. c.in_ok-parts.ensures.each k ∙ ap (λ (l : List Health). restarted c.args.t (known_health k c.split_at.result.1.now (health_at l k))) c.deref-3.ensures.value) c.in_ok-begin.ensures.view

pub returns-clause-lost : goal.returns-clause-lost
returns-clause-lost c part =
    let s = c.args.self.now in
    let end : c.min-end.result ≡ min c.args.t (length s.kept.log.items) = omega (arith, c.min-end.ensures, c.len.ensures, s.kept.log.ok) in
    let front = c.split_at.ensures.front ∙ ap (take c.min-end.result) c.deref.ensures.value ∙ ap (λ (n : ℕ). take n s.kept.log.items) end ∙ take_min c.args.t s.kept.log.items in
    let behind = c.split_at.ensures.back ∙ ap (drop c.min-end.result) c.deref.ensures.value ∙ ap (λ (n : ℕ). drop n s.kept.log.items) end ∙ drop_min c.args.t s.kept.log.items in
    crashed_lost c.args.choice s c.args.t c.in_ok-base.base c.in_ok-parts.parts.items (mem_view c.in_ok-begin.field-0) c.split_at.result.0.now c.deref-2.result.now front c.deref-2.ensures.value c.in_ok-base.ensures.sizes c.in_ok-base.ensures.each c.in_ok-base.ensures.lines
    c.split_at.result.1.now behind
    (λ k. c.in_ok-parts.ensures.each k ∙ ap (λ (l : List Health). restarted c.args.t (known_health k c.split_at.result.1.now (health_at l k))) c.deref-3.ensures.value) c.in_ok-begin.ensures.view part
