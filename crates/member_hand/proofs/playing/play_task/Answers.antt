use Rattle.std.proofs.Common.{◌∙◌, refl, sym, subst}
use Rattle.member_hand.specs.Chains.{End, Pause, begun}
use Rattle.member_hand.proofs.Chaining.{PlaysAsOne, alone_may, as_one, at_end}
use Rattle.member_hand.proofs.playing.play_task.Goals as goal

pub play_in_turns-requires-clause-may : goal.play_in_turns-requires-clause-may
play_in_turns-requires-clause-may g c =
    alone_may c.args.complex.now (begun c.args.member.now c.args.holder c.args.task c.args.reader.now) _ c.requires c.new-hand.result.value.now (c.new-hand.ensures.finds c.new-hand.result.value.now refl)

pub returns-clause-frame : goal.returns-clause-frame
returns-clause-frame g c =
    let x = c.args.complex.now in
    let y = c.play_in_turns.new.turns.value.now in
    let p : Pause = begun c.args.member.now c.args.holder c.args.task c.args.reader.now in
    let chain = c.play_in_turns.ensures.chain in
    let e : End _ = record { found = chain.found; left = chain.left; member = c.play_in_turns.new.member; reader = c.play_in_turns.new.reader } in
    let plays = subst (λ z. PlaysAsOne z p e c.play_in_turns.result) (c.new-hand.ensures.finds c.new-hand.result.value.now refl) (as_one c.new-hand.result.value.now p chain.turns e c.play_in_turns.result chain.chain) in
    (at_end x c.complex-1.given.0 y p e c.play_in_turns.result (c.complex-1.given.1 (sym c.new-hand.ensures.place ∙ sym c.play_in_turns.ensures.place)) (chain.leaves y refl) plays).frame

pub returns-clause-played : goal.returns-clause-played
returns-clause-played g c =
    let x = c.args.complex.now in
    let y = c.play_in_turns.new.turns.value.now in
    let p : Pause = begun c.args.member.now c.args.holder c.args.task c.args.reader.now in
    let chain = c.play_in_turns.ensures.chain in
    let e : End _ = record { found = chain.found; left = chain.left; member = c.play_in_turns.new.member; reader = c.play_in_turns.new.reader } in
    let plays = subst (λ z. PlaysAsOne z p e c.play_in_turns.result) (c.new-hand.ensures.finds c.new-hand.result.value.now refl) (as_one c.new-hand.result.value.now p chain.turns e c.play_in_turns.result chain.chain) in
    (at_end x c.complex-1.given.0 y p e c.play_in_turns.result (c.complex-1.given.1 (sym c.new-hand.ensures.place ∙ sym c.play_in_turns.ensures.place)) (chain.leaves y refl) plays).played

pub returns-clause-next : goal.returns-clause-next
returns-clause-next g c =
    let x = c.args.complex.now in
    let y = c.play_in_turns.new.turns.value.now in
    let p : Pause = begun c.args.member.now c.args.holder c.args.task c.args.reader.now in
    let chain = c.play_in_turns.ensures.chain in
    let e : End _ = record { found = chain.found; left = chain.left; member = c.play_in_turns.new.member; reader = c.play_in_turns.new.reader } in
    let plays = subst (λ z. PlaysAsOne z p e c.play_in_turns.result) (c.new-hand.ensures.finds c.new-hand.result.value.now refl) (as_one c.new-hand.result.value.now p chain.turns e c.play_in_turns.result chain.chain) in
    (at_end x c.complex-1.given.0 y p e c.play_in_turns.result (c.complex-1.given.1 (sym c.new-hand.ensures.place ∙ sym c.play_in_turns.ensures.place)) (chain.leaves y refl) plays).next

pub returns-clause-id : goal.returns-clause-id
returns-clause-id g c =
    let p : Pause = begun c.args.member.now c.args.holder c.args.task c.args.reader.now in
    let chain = c.play_in_turns.ensures.chain in
    let e : End _ = record { found = chain.found; left = chain.left; member = c.play_in_turns.new.member; reader = c.play_in_turns.new.reader } in
    (as_one c.new-hand.result.value.now p chain.turns e c.play_in_turns.result chain.chain).id
