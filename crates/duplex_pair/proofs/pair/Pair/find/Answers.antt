use Rattle.std.proofs.Common.{refl, sym, ◌∙◌, ap, subst, true, false, ◌≡◌, ◌&&◌, not, inl, inr, List, Result, IsErrOf}
use Rattle.mas_types.specs.declared.ids.Dev.{Dev}
use Rattle.mas_types.specs.declared.ids.Dev.TheVariants.{Ckpt1, Ckpt2}
use Rattle.mas_types.specs.declared.ids.Page.{Page}
use Rattle.spool_plant.specs.declared.plant.Part.TheVariants.{Disk as DiskPart}
use Rattle.spool_plant.specs.View.{View, disk_now}
use Rattle.spool_plant.specs.Acts.{Goes}
use Rattle.ckpt_copy.specs.Moments.{goes_on}
use Rattle.duplex_pair.specs.declared.errors.PairFindNo.{PairFindNo}
use Rattle.duplex_pair.specs.declared.errors.PairFindNo.TheVariants.{NotValid}
use Rattle.ckpt_copy.specs.Changes.{NoMore}
use Rattle.duplex_pair.specs.Both.{PairActed}
use Rattle.duplex_pair.specs.Halves.{Acted}
use Rattle.duplex_pair.proofs.Composing.{acted_first, acted_second, acted_then, both_calls, ne12, ne21, other_disk}
use Rattle.duplex_pair.proofs.FindActs.{found_all, goes_beside, none_goes, unstopped}
use Rattle.duplex_pair.proofs.Chosen.{more_then, none_first, none_swapped, after_seen, chosen_found, alive_goes, alive_stays, alive_less, part12, part21}
use Rattle.duplex_pair.proofs.pair.Pair.find.Goals as goal

pub returns-in_err-second-clause-during : goal.returns-in_err-second-clause-during
returns-in_err-second-clause-during g c told =
    let old = g.P.Plant.view c.args.plant.now in
    both_calls (NoMore (disk_now old Ckpt1)) NoMore Ckpt1 Ckpt2 old (g.P.Plant.view c.look.new.plant) (g.P.Plant.view c.look-2.new.plant) refl refl (c.look.ensures.during told) (c.look-2.ensures.during told)

pub returns-clause-during : goal.returns-clause-during
returns-clause-during g c told =
    let old = g.P.Plant.view c.args.plant.now in
    let one = g.P.Plant.view c.look.new.plant in
    let two = g.P.Plant.view c.look-2.new.plant in
    let three = g.P.Plant.view c.lose_where.new.plant in
    let new = g.P.Plant.view c.lose_where-2.new.plant in
    more_then old two new
    (both_calls (NoMore (disk_now old Ckpt1)) NoMore Ckpt1 Ckpt2 old one two refl refl (c.look.ensures.during told) (c.look-2.ensures.during told))
    (both_calls (NoMore (disk_now two Ckpt1)) NoMore Ckpt1 Ckpt2 two three new refl refl (c.lose_where.ensures.during told) (c.lose_where-2.ensures.during told))

pub returns-clause-none1 : goal.returns-clause-none1
returns-clause-none1 g c err told is =
    let C = g.C.Copying in
    let view = g.P.Plant.view in
    let one = view c.look.new.plant in
    let two = view c.look-2.new.plant in
    let three = view c.lose_where.new.plant in
    let new = view c.lose_where-2.new.plant in
    none_first C.count C.room C.room_most C.ready C.reads C.rests g.P.Plant.tells Ckpt1 one new c.args.self.now.first.copy c.look.new.self.first.copy c.look.new.self.first.alive c.lose_where-2.new.self.first.alive c.in_ok-first.first c.in_ok-second.second
    (subst (λ (r : Result (List Page) PairFindNo). IsErrOf r NotValid) c.chosen_of.ensures err) c.in_ok-first.ensures.seen
    (λ now. subst (λ h. h.alive ≡ true) c.look-2.ensures.other (alive_less c.look-2.new.self.first.alive c.is_to_go-first_goes.result c.lose_where.new.self.first.alive c.lose_where.ensures.alive (subst (λ h. h.alive ≡ true) c.lose_where-2.ensures.other now))) is told
    (λ stays. other_disk Ckpt2 Ckpt1 (NoMore (disk_now three Ckpt2)) three new ne12 (c.lose_where-2.ensures.during told) ∙ ap (λ p. disk_now (view p) Ckpt1) (c.lose_where.ensures.idle (c.is_to_go-first_goes.ensures ∙ stays)) ∙ other_disk Ckpt2 Ckpt1 (NoMore (disk_now one Ckpt2)) one two ne12 (c.look-2.ensures.during told))

pub returns-clause-none2 : goal.returns-clause-none2
returns-clause-none2 g c err told is =
    let C = g.C.Copying in
    let view = g.P.Plant.view in
    let two = view c.look-2.new.plant in
    let three = view c.lose_where.new.plant in
    let new = view c.lose_where-2.new.plant in
    none_first C.count C.room C.room_most C.ready C.reads C.rests g.P.Plant.tells Ckpt2 two new c.look.new.self.second.copy c.look-2.new.self.second.copy c.look-2.new.self.second.alive c.lose_where-2.new.self.second.alive c.in_ok-second.second c.in_ok-first.first
    (none_swapped c.in_ok-first.first c.in_ok-second.second (subst (λ (r : Result (List Page) PairFindNo). IsErrOf r NotValid) c.chosen_of.ensures err)) c.in_ok-second.ensures.seen
    (λ now. subst (λ h. h.alive ≡ true) c.lose_where.ensures.other (alive_less c.lose_where.new.self.second.alive c.is_to_go-second_goes.result c.lose_where-2.new.self.second.alive c.lose_where-2.ensures.alive now)) is told
    (λ stays. ap (λ p. disk_now (view p) Ckpt2) (c.lose_where-2.ensures.idle (c.is_to_go-second_goes.ensures ∙ stays)) ∙ other_disk Ckpt1 Ckpt2 (NoMore (disk_now two Ckpt1)) two three ne21 (c.lose_where.ensures.during told))

pub returns-clause-found : goal.returns-clause-found
returns-clause-found g c =
    let C = g.C.Copying in
    let view = g.P.Plant.view in
    let one = view c.look.new.plant in
    let two = view c.look-2.new.plant in
    let three = view c.lose_where.new.plant in
    let new = view c.lose_where-2.new.plant in
    let L = c.in_ok-first.first in
    let M = c.in_ok-second.second in
    let a = c.look.new.self in
    let b = c.look-2.new.self in
    let d = c.lose_where.new.self in
    let f = c.lose_where-2.new.self in
    let to_four : Goes two new = goes_on two three new c.lose_where.ensures.goes c.lose_where-2.ensures.goes in
    let same1 : f.first.copy ≡ a.first.copy = ap (λ h. h.copy) c.lose_where-2.ensures.other ∙ c.lose_where.ensures.copy ∙ ap (λ h. h.copy) c.look-2.ensures.other in
    let same2 : f.second.copy ≡ b.second.copy = c.lose_where-2.ensures.copy ∙ ap (λ h. h.copy) c.lose_where.ensures.other in
    let alive1 : f.first.alive ≡ (a.first.alive && not c.is_to_go-first_goes.result) = ap (λ h. h.alive) c.lose_where-2.ensures.other ∙ c.lose_where.ensures.alive ∙ ap (λ h. h.alive && not c.is_to_go-first_goes.result) c.look-2.ensures.other in
    let alive2 : f.second.alive ≡ (b.second.alive && not c.is_to_go-second_goes.result) = c.lose_where-2.ensures.alive ∙ ap (λ h. h.alive && not c.is_to_go-second_goes.result) c.lose_where.ensures.other in
    rw (c.chosen_of.ensures) (chosen_found C.count C.room C.room_most C.ready C.reads C.rests g.P.Plant.tells new f.first.copy f.second.copy f.first.alive f.second.alive f.first.found f.second.found L M
    (after_seen C.count C.room C.room_most C.ready C.reads C.rests g.P.Plant.tells Ckpt1 one new c.args.self.now.first.copy a.first.copy f.first.copy a.first.alive f.first.alive a.first.found f.first.found same1
    (ap (λ h. h.found) c.lose_where-2.ensures.other ∙ c.lose_where.ensures.found ∙ ap (λ h. h.found) c.look-2.ensures.other) L M c.in_ok-first.ensures.seen c.in_ok-first.ensures.level
    (λ goes. alive_goes a.first.alive c.is_to_go-first_goes.result f.first.alive alive1 (c.is_to_go-first_goes.ensures ∙ goes))
    (λ stays. alive_stays a.first.alive c.is_to_go-first_goes.result f.first.alive alive1 (c.is_to_go-first_goes.ensures ∙ stays))
    (alive_less a.first.alive c.is_to_go-first_goes.result f.first.alive alive1)
    (λ stays. c.lose_where-2.ensures.else_lost (DiskPart Ckpt1) (inl part12) ∙ c.lose_where.ensures.else_lost (DiskPart Ckpt1) (inr (c.is_to_go-first_goes.ensures ∙ stays)) ∙ c.look-2.ensures.acted.else_lost (DiskPart Ckpt1) (inl part12))
    (λ ready. subst (λ x. C.ready x new) (sym same1) (g.met.C.Copying.stays_ready a.first.copy one new (goes_on one two new c.look-2.ensures.acted.goes to_four) ready))
    (λ stays told. other_disk Ckpt2 Ckpt1 (NoMore (disk_now three Ckpt2)) three new ne12 (c.lose_where-2.ensures.during told) ∙ ap (λ p. disk_now (view p) Ckpt1) (c.lose_where.ensures.idle (c.is_to_go-first_goes.ensures ∙ stays)) ∙ other_disk Ckpt2 Ckpt1 (NoMore (disk_now one Ckpt2)) one two ne12 (c.look-2.ensures.during told)))
    (after_seen C.count C.room C.room_most C.ready C.reads C.rests g.P.Plant.tells Ckpt2 two new a.second.copy b.second.copy f.second.copy b.second.alive f.second.alive b.second.found f.second.found same2
    (c.lose_where-2.ensures.found ∙ ap (λ h. h.found) c.lose_where.ensures.other) M L c.in_ok-second.ensures.seen c.in_ok-second.ensures.level
    (λ goes. alive_goes b.second.alive c.is_to_go-second_goes.result f.second.alive alive2 (c.is_to_go-second_goes.ensures ∙ goes))
    (λ stays. alive_stays b.second.alive c.is_to_go-second_goes.result f.second.alive alive2 (c.is_to_go-second_goes.ensures ∙ stays))
    (alive_less b.second.alive c.is_to_go-second_goes.result f.second.alive alive2)
    (λ stays. c.lose_where-2.ensures.else_lost (DiskPart Ckpt2) (inr (c.is_to_go-second_goes.ensures ∙ stays)) ∙ c.lose_where.ensures.else_lost (DiskPart Ckpt2) (inl part21))
    (λ ready. subst (λ x. C.ready x new) (sym same2) (g.met.C.Copying.stays_ready b.second.copy two new to_four ready))
    (λ stays told. ap (λ p. disk_now (view p) Ckpt2) (c.lose_where-2.ensures.idle (c.is_to_go-second_goes.ensures ∙ stays)) ∙ other_disk Ckpt1 Ckpt2 (NoMore (disk_now two Ckpt1)) two three ne21 (c.lose_where.ensures.during told))))

pub returns-clause-acted : goal.returns-clause-acted
returns-clause-acted g c =
    let C = g.C.Copying in
    let view = g.P.Plant.view in
    let by = c.args.by.0 in
    let was = c.args.self.now in
    let old : View = view c.args.plant.now in
    let one : View = view c.look.new.plant in
    let two : View = view c.look-2.new.plant in
    let three : View = view c.lose_where.new.plant in
    let new : View = view c.lose_where-2.new.plant in
    let L = c.in_ok-first.first in
    let M = c.in_ok-second.second in
    let a = c.look.new.self in
    let b = c.look-2.new.self in
    let d = c.lose_where.new.self in
    let f = c.lose_where-2.new.self in
    let g1 = c.is_to_go-first_goes.result in
    let g2 = c.is_to_go-second_goes.result in
    let alive1 : f.first.alive ≡ (a.first.alive && not g1) = ap (λ h. h.alive) c.lose_where-2.ensures.other ∙ c.lose_where.ensures.alive ∙ ap (λ h. h.alive && not g1) c.look-2.ensures.other in
    let alive2 : f.second.alive ≡ (b.second.alive && not g2) = c.lose_where-2.ensures.alive ∙ ap (λ h. h.alive && not g2) c.lose_where.ensures.other in
    let looks : PairActed by was.first.alive a.first.alive was.second.alive b.second.alive false old two =
    acted_then by old one two was.first.alive a.first.alive a.first.alive was.second.alive was.second.alive b.second.alive false
    (acted_first by old one was.first.alive a.first.alive was.second.alive false Ckpt1 refl c.in_ok-first.ensures.acted)
    (acted_second by one two was.second.alive b.second.alive a.first.alive false Ckpt2 refl (subst (λ h. Acted by Ckpt2 h.alive b.second.alive false one two) c.look.ensures.other c.in_ok-second.ensures.acted)) in
    rw (alive1, alive2, c.chosen_of.ensures, unstopped L M) (found_all by was.first.alive was.second.alive old two three new a.first.alive b.second.alive g1 g2 looks
    c.lose_where.ensures.loses (λ e. ap view (c.lose_where.ensures.idle e)) c.lose_where-2.ensures.loses (λ e. ap view (c.lose_where-2.ensures.idle e))
    (λ e. let x = goes_beside C.count C.room C.room_most C.ready C.reads C.rests g.P.Plant.tells Ckpt1 Ckpt2 one two was.first.copy a.first.copy a.second.copy b.second.copy a.first.alive b.second.alive L M c.in_ok-first.ensures.seen c.in_ok-second.ensures.seen (sym c.is_to_go-first_goes.ensures ∙ e) in
    (x.0, x.1, c.is_to_go-second_goes.ensures ∙ x.2))
    (λ e. let x = goes_beside C.count C.room C.room_most C.ready C.reads C.rests g.P.Plant.tells Ckpt2 Ckpt1 two one a.second.copy b.second.copy was.first.copy a.first.copy b.second.alive a.first.alive M L c.in_ok-second.ensures.seen c.in_ok-first.ensures.seen (sym c.is_to_go-second_goes.ensures ∙ e) in
    (x.0, x.1, c.is_to_go-first_goes.ensures ∙ x.2)))

pub returns-clause-unlost : goal.returns-clause-unlost
returns-clause-unlost g c =
    let view = g.P.Plant.view in
    let old : View = view c.args.plant.now in
    let new : View = view c.lose_where-2.new.plant in
    rw (c.chosen_of.ensures) (none_goes ((dev : Dev) → new.loses dev ≡ old.loses dev) c.in_ok-first.first c.in_ok-second.second
    (λ none1 none2 dev. ap (λ p. (view p).loses dev) (c.lose_where-2.ensures.idle (c.is_to_go-second_goes.ensures ∙ none2) ∙ c.lose_where.ensures.idle (c.is_to_go-first_goes.ensures ∙ none1))
    ∙ c.in_ok-second.ensures.acted.loses dev ∙ c.in_ok-first.ensures.acted.loses dev))
