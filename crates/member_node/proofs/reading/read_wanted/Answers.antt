use Rattle.std.proofs.Common.{◌∙◌, sym, arith}
use Rattle.duplex_pair.proofs.ActCounting.{no_acts}
use Rattle.member_node.proofs.HeaderLemmas.{none_wanted, pages_low}
use Rattle.member_node.proofs.MirrorLemmas.{header_pages, mirror_kept, mirror_some, mirror_unchanged}
use Rattle.member_node.proofs.ReadLemmas.{on_ok, read_none}
use Rattle.member_node.proofs.SpareLemmas.{spares_none}
use Rattle.member_node.proofs.reading.read_wanted.Goals as goal

pub read_above-requires-clause-calm1 : goal.read_above-requires-clause-calm1
read_above-requires-clause-calm1 g c = record { before = c.requires.calm1.before; as_many = λ on. c.mirror.ensures.many ∙ c.requires.calm1.as_many on }

pub read_above-requires-clause-calm2 : goal.read_above-requires-clause-calm2
read_above-requires-clause-calm2 g c = record { before = c.requires.calm2.before; as_many = λ on. c.mirror.ensures.many ∙ c.requires.calm2.as_many on }

pub read_above-requires-clause-some : goal.read_above-requires-clause-some
read_above-requires-clause-some g c = omega (arith, c.requires.some, c.mirror.ensures.many)

pub read_above-requires-clause-few : goal.read_above-requires-clause-few
read_above-requires-clause-few g c = omega (arith, c.requires.few, c.mirror.ensures.many)

pub returns-clause-many : goal.returns-clause-many
returns-clause-many g c = c.read_above.ensures.many ∙ c.mirror.ensures.many

pub returns-clause-header : goal.returns-clause-header
returns-clause-header g c = on_ok c.read_above.result c.read_above.ensures.header (λ same. same ∙ c.mirror.ensures.header)

pub returns-clause-none : goal.returns-clause-none
returns-clause-none g c = mirror_kept c.read_above.result c.mirror.new.room c.read_above.new.room c.args.own.now c.read_above.ensures.none c.mirror.ensures.mirrors

pub returns-clause-pages : goal.returns-clause-pages
returns-clause-pages g c =
    let old = c.args.room.now in
    let mid = c.mirror.new.room in
    on_ok c.read_above.result c.read_above.ensures.pages (λ pages told was one two at same.
    pages told was one two (header_pages was old mid c.mirror.ensures.header at) (mirror_unchanged c.args.level was c.args.own.now old mid c.requires.as_many c.mirror.ensures.many c.mirror.ensures.mirrors same))

pub returns-clause-differ : goal.returns-clause-differ
returns-clause-differ g c =
    let mid = c.mirror.new.room in
    on_ok c.read_above.result c.read_above.ensures.differ (λ same q from few to1 to2 off. same q off ∙ c.mirror.ensures.mirrors q from to2)

pub is_own_header-requires-clause-some1 : goal.is_own_header-requires-clause-some1
is_own_header-requires-clause-some1 g c = omega (arith, c.requires.some, c.mirror.ensures.many)

pub is_own_header-requires-clause-some2 : goal.is_own_header-requires-clause-some2
is_own_header-requires-clause-some2 g c = omega (arith, c.requires.some, c.requires.as_many)

-- page 0 is the member's own: nothing is wanted, and no act is made
pub returns-then-is_own_header-clause-none : goal.returns-then-is_own_header-clause-none
returns-then-is_own_header-clause-none g c nothing = c.mirror.ensures.mirrors

pub returns-then-is_own_header-clause-differ : goal.returns-then-is_own_header-clause-differ
returns-then-is_own_header-clause-differ g c = mirror_some c.mirror.new.differ.pages c.mirror.new.room c.args.own.now c.mirror.ensures.mirrors

pub returns-then-is_own_header-clause-count : goal.returns-then-is_own_header-clause-count
returns-then-is_own_header-clause-count g c =
    let own = c.is_own_header.ensures c.if-is_own_header.true in
    none_wanted c.args.level c.mirror.new.room c.args.own.now own.1 (c.mirror.ensures.many ∙ sym c.requires.as_many) (c.requires.low own.0)

pub returns-then-is_own_header-clause-read : goal.returns-then-is_own_header-clause-read
returns-then-is_own_header-clause-read g c =
    let P = g.P.Plant in
    let x = c.args.complex.now in
    record {
      acts = read_none P.tells x.pair.first.alive x.pair.second.alive (P.view x.plant);
      cause = c.requires.alive;
      spares = spares_none c.args.by.0 (P.view x.plant);
    }

pub returns-then-is_own_header-clause-acts : goal.returns-then-is_own_header-clause-acts
returns-then-is_own_header-clause-acts g c =
    let x = c.args.complex.now in
    no_acts x.pair.first.alive x.pair.second.alive (g.P.Plant.view x.plant).now

pub returns-then-is_own_header-clause-pages : goal.returns-then-is_own_header-clause-pages
returns-then-is_own_header-clause-pages g c told was one two at same =
    let own = c.is_own_header.ensures c.if-is_own_header.true in
    let m = c.mirror.ensures in
    pages_low c.args.level was c.args.room.now c.mirror.new.room c.args.own.now c.requires.as_many m.many m.header own.1 m.mirrors (c.requires.low own.0) at same
