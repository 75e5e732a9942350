use Rattle.member_giving.proofs.Names.{◌≡◌, true, Ok, subst, ◌∙◌, refl, arith, Config, is_member, Done, tells_some, Err, sym, MayEndBy}
use Rattle.member_giving.proofs.Given.{ends_may, gave_few, given_done, given_not, part_longer, part_low, part_own, part_taken, part_works}
use Rattle.member_giving.proofs.Working.{same_run}
use Rattle.member_giving.proofs.parts.give_part.Goals as goal

pub do_part-requires : goal.do_part-requires
do_part-requires g c =
    let w = c.requires.works in
    record {
      can = record { some = w.still.holds.some; by = w.still.holds.few; here = w.still.here; member = subst (λ (k : Config). is_member k c.args.member.now.id ≡ true) w.still.config w.still.holds.member; spelling = w.draws.spelling; fit = w.fit };
      order = part_low c.args.complex.now c.args.member.now c.args.holder w c.args.part c.requires.room c.requires.may;
      own = part_own c.args.complex.now c.args.member.now c.args.holder w c.args.part c.requires.may;
    }

-- OUT OF MEMORY

pub give_up-requires-clause-works : goal.give_up-requires-clause-works
give_up-requires-clause-works g c = part_works c.args.complex.now c.args.member.now c.do_part.new.member c.args.holder c.requires.works c.args.part _ c.requires.may c.do_part.ensures.does c.kept_texts.ensures.kept

pub give_up-requires-clause-high : goal.give_up-requires-clause-high
give_up-requires-clause-high g c = let level = c.do_part.ensures.does.has.level in let room = c.requires.room.high in omega (arith, level, room)

pub returns-in_default : goal.returns-in_default
returns-in_default g c =
    let x = c.args.complex.now in
    let m = c.args.member.now in
    let n = c.do_part.new.member in
    let h = c.args.holder in
    record {
      run = c.give_up.ensures.run ∙ same_run x x m n h refl refl refl refl c.do_part.ensures.does.has.id;
      given = given_not x m n h c.requires.works c.args.part (Err _) c.in_default.ensures.does c.give_up.new.complex c.give_up.new.member c.give_up.result _ refl c.give_up.ensures.gives_up;
      named = tt;
      works = tt;
      order = tt;
      high = tt;
      reached = tt;
      longer = tt;
      ends = λ found may. tt;
      taken = λ done. absurd (cc);
    }

-- THE COMMANDS WERE GIVEN

pub returns : goal.returns
returns g c =
    let x = c.args.complex.now in
    let m = c.args.member.now in
    let n = c.do_part.new.member in
    let h = c.args.holder in
    let p = c.args.part in
    let w = c.requires.works in
    let end = c.in-Ok.end in
    let does = c.in-Ok.ensures.does in
    let s = tells_some m.checkpoint.tables in
    record {
      run = same_run x x m n h refl refl refl refl does.has.id;
      given = given_done x m n h w p (Ok end) does end refl;
      named = c.in-Ok.ensures.named;
      works = part_works x m n h w p (Ok end) c.requires.may does c.kept_texts.ensures.kept;
      order = let few = gave_few x m n h w p (Ok end) does in let order = does.has.order in omega (arith, few, order);
      high = does.has.level;
      reached = refl;
      longer = part_longer m n h p end does;
      ends = λ found may. subst (MayEndBy found) (sym (does.end s.0 s.1)) (ends_may found m.id h.step s.0 p may);
      taken = λ done. let same : end ≡ Done = cc in part_taken m n h p end does (part_own x m h w p c.requires.may) same;
    }
