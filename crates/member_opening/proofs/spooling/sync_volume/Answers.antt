use Rattle.std.proofs.Common.{◌≡◌, ◌∙◌, ℕ, [], ◌∷◌, Bool, true, false, subst, sym}
use Rattle.member_decks.specs.Spooling.{lies_there}
use Rattle.member_node.proofs.SpareLemmas.{sparing_none}
use Rattle.member_decks.proofs.PageLemmas.{act_on, acts_none, cause_of, lies_alone, lies_among}
use Rattle.member_opening.proofs.spooling.sync_volume.Goals as goal

pub returns-then-not-lies_there-clause-acts : goal.returns-then-not-lies_there-clause-acts
returns-then-not-lies_there-clause-acts g c = acts_none g.P.Plant.tells c.args.by.0 (g.P.Plant.view c.args.complex.now.plant)

pub returns-clause-acts : goal.returns-clause-acts
returns-clause-acts g c =
    let P = g.P.Plant in
    act_on P.tells c.args.by.0 c.args.volume (P.view c.args.complex.now.plant) (P.view c.spool_sync.new.self.plant) c.spool_sync.result c.spool_sync.ensures.acts (λ t. (c.spool_sync.ensures.content t).only)

pub returns-then-not-lies_there-clause-synced : goal.returns-then-not-lies_there-clause-synced
returns-then-not-lies_there-clause-synced g c told k h here on =
    let lies = rw c.config.ensures at c.lies_there.ensures in
    let none : lies_there c.args.complex.now.base.config.groups c.args.volume c.args.groups.now ≡ false = sym lies ∙ c.if-not-lies_there.true in
    let there = lies_among c.args.complex.now.base.config.groups c.args.volume c.args.groups.now k h here (subst (λ (v : ℕ). lies_there c.args.complex.now.base.config.groups v (h ∷ []) ≡ true) on (lies_alone c.args.complex.now.base.config.groups h)) in
    absurd (cc (there, none))

pub returns-then-not-lies_there-clause-cause : goal.returns-then-not-lies_there-clause-cause
returns-then-not-lies_there-clause-cause g c = sparing_none c.args.by.0 (g.P.Plant.view c.args.complex.now.plant)

pub returns-clause-cause : goal.returns-clause-cause
returns-clause-cause g c =
    let P = g.P.Plant in
    let x = c.args.complex.now in
    let y = c.spool_sync.new.self in
    let lies = rw c.config.ensures at c.lies_there.ensures in
    rw c.answer.ensures
    (cause_of c.args.by.0 x.base.config.groups c.args.volume c.args.groups.now (P.view x.plant) (P.view y.plant) c.spool_sync.result (there _ c.if-not-lies_there.false lies) c.spool_sync.ensures.acts) where
      there : (b : Bool) → b ≡ true → b ≡ lies_there c.args.complex.now.base.config.groups c.args.volume c.args.groups.now → lies_there c.args.complex.now.base.config.groups c.args.volume c.args.groups.now ≡ true
      there b is same = sym same ∙ is
