use Rattle.member_acts.proofs.Names.{refl, ◌≢◌, ◌∙◌, Err, ap, subst, sym, arith, drop, take, ◌≡◌, ℕ, ◌≤◌, List, ◌∷◌, All, length, groups_of_outputs, IsOutSpec, kept_all, run, IsGroupOf, IsHeldBy, spools_at, Rise, StandBelow, AreWritten, All-drop, All-head, All-tail, All-take, err_from_is_err_and, GroupNo, OutSpec, Queue, groups_needed, Parts, parts_of, on_ok, acts_none, acts_on, kept_none, kept_then, still_roomy, sparing_none, behind_long, cause_by, first_fits, lies_behind, lies_front, rise_behind, rise_front, still_stand, length-take-le}
use Rattle.queue_effect.proofs.EndLemmas.{no_items}
use Rattle.queue_effect.proofs.GroupLemmas.{groups_small}
use Rattle.spool_text.specs.Texts.{packed}
use Rattle.member_acts.specs.Outputs.{IsToWrite}
use Rattle.member_acts.proofs.spooling.+write_outputs.Given as given
use Rattle.member_acts.proofs.spooling.+write_outputs.Goals as goal
use Rattle.member_acts.proofs.spooling.+write_outputs.Goals.{After-groups_needed}

-- NO OUTPUT IS LEFT

pub returns-in_default : goal.returns-in_default
returns-in_default g t c =
    let P = g.P.Plant in
    let x = c.args.complex.now in
    let v = P.view x.plant in
    record {
      on = record { frame = refl; acts = acts_none P.tells c.args.by.0 v; cause = sparing_none c.args.by.0 v; spares = λ told. kept_none x.base.config.groups c.args.groups.now (spools_at v v.now) };
      stand = λ told roomy. subst (λ (ss : List OutSpec). AreWritten (spools_at v v.now) x.base.config.groups ss c.args.groups.now) (sym (no_items c.args.specs.now c.in_default.ensures.cases)) tt;
    }

-- THE FIRST ONE, and the groups that it needs

module _ (g : given.Over) (t : ℕ) (c : After-groups_needed g t) where
  fit : All IsOutSpec (c.in-Some.spec.now ∷ c.in-Some.rest.now)
  fit = rw c.in-Some.ensures.cases.0 at c.requires.outputs

  long : length c.args.groups.now ≡ groups_of_outputs (c.in-Some.spec.now ∷ c.in-Some.rest.now)
  long = c.requires.as_many ∙ ap groups_of_outputs c.in-Some.ensures.cases.0

  enough : c.groups_needed.result ≤ length c.args.groups.now
  enough = let n = c.groups_needed.ensures in let fits = first_fits c.in-Some.spec.now c.in-Some.rest.now c.args.groups.now long in omega (arith, n, fits)

pub groups_needed-requires : goal.groups_needed-requires
groups_needed-requires g t c =
    let fit : All IsOutSpec (c.in-Some.spec.now ∷ c.in-Some.rest.now) = rw c.in-Some.ensures.cases.0 at c.requires.outputs in
    (All-head IsOutSpec c.in-Some.spec.now c.in-Some.rest.now fit).text

pub split_at-requires : goal.split_at-requires
split_at-requires g t c = enough g t (goal.at.split_at-requires g t c).After-groups_needed

pub write_pages-requires : goal.write_pages-requires
write_pages-requires g t c =
    let w = (goal.at.write_pages-requires g t c).After-groups_needed in
    let s : OutSpec = c.in-Some.spec.now in
    let gs : List GroupNo = c.args.groups.now in
    let k : ℕ = c.groups_needed.result in
    let n : k ≡ groups_needed s.text = c.groups_needed.ensures in
    let text = (All-head IsOutSpec s c.in-Some.rest.now (fit g t w)).text in
    let many = length-take-le k gs (enough g t w) in
    let front : c.split_at.result.0.now ≡ take k gs = c.split_at.ensures.front in
    let x = c.args.complex.now in
    let Held = λ (h : GroupNo). IsHeldBy c.args.by h (run x.base (kept_all x.journal.batches)) in
    record {
      up = c.requires.up;
      none = c.requires.none;
      text = text;
      few = subst (λ (l : List GroupNo). length l ≤ 65536) (sym front) (omega (arith, many, n, (groups_small s.text text)));
      as_many = ap (λ (l : List GroupNo). length l) front ∙ many ∙ n;
      rise = subst Rise (sym front) (rise_front k gs c.requires.rise);
      within = subst (All (IsGroupOf x.base.config)) (sym front) (All-take (IsGroupOf x.base.config) k gs c.requires.within);
      held = λ told. subst (All Held) (sym front) (All-take Held k gs (c.requires.held told));
    }

pub returns-in_err-write_pages : goal.returns-in_err-write_pages
returns-in_err-write_pages g t c =
    let P = g.P.Plant in
    let x = c.args.complex.now in
    let gs : List GroupNo = c.args.groups.now in
    let k : ℕ = c.groups_needed.result in
    let front : c.split_at.result.0.now ≡ take k gs = c.split_at.ensures.front in
    let e = c.write_pages.ensures in
    let y = c.write_pages.new.complex in
    let p = err_from_is_err_and c.from_residual.result c.from_residual.ensures.1 in
    let cause = rw front at c.in_err-write_pages.ensures.cause in
    rw (p.1, p.2) (record {
      on = record {
        frame = e.frame;
        acts = e.acts;
        cause = cause_by {T = Unit {0}} c.args.by.0 x.base.config.groups (take k gs) gs (P.view x.plant) (P.view x.plant) (P.view y.plant) (Err c.in_err-write_pages.field-0.0) (λ v there. lies_front x.base.config.groups v k gs there) (acts_none P.tells c.args.by.0 (P.view x.plant)).goes (sparing_none c.args.by.0 (P.view x.plant)) cause;
        spares = λ told h none. e.spares told h (subst (All (λ (j : GroupNo). h.0 ≢ j.0)) (sym front) (All-take (λ (j : GroupNo). h.0 ≢ j.0) k gs none));
      };
      stand = tt;
    })

-- THE OTHER OUTPUTS

pub write_outputs-requires : goal.write_outputs-requires
write_outputs-requires g t c κs lives =
    let w = (goal.at.write_outputs-requires g t c).After-groups_needed in
    let x = c.args.complex.now in
    let s : OutSpec = c.in-Some.spec.now in
    let rest : List OutSpec = c.in-Some.rest.now in
    let gs : List GroupNo = c.args.groups.now in
    let k : ℕ = c.groups_needed.result in
    let n : k ≡ groups_needed s.text = c.groups_needed.ensures in
    let behind : c.split_at.result.1.now ≡ drop k gs = c.split_at.ensures.back in
    let y = c.write_pages.new.complex in
    let e = c.write_pages.ensures in
    let base : y.base ≡ x.base = ap (λ p. p.base) e.frame in
    let book : y.book ≡ x.book = ap (λ p. p.book) e.frame in
    let current : y.current ≡ x.current = ap (λ p. p.current) e.frame in
    let batches : y.journal.batches ≡ x.journal.batches = ap (λ p. p.batches) e.frame in
    let Held = λ (h : GroupNo). IsHeldBy c.args.by h (run x.base (kept_all x.journal.batches)) in
    let may : IsToWrite g.P.Plant (parts_of y) c.args.by c.split_at.result.1.now rest = record {
      up = rw book c.requires.up;
      none = current ∙ c.requires.none;
      some = rw base c.requires.some;
      outputs = All-tail IsOutSpec s rest (fit g t w);
      as_many = ap (λ (l : List GroupNo). length l) behind ∙ ap (λ (i : ℕ). length (drop i gs)) n ∙ behind_long s rest gs (long g t w);
      rise = subst Rise (sym behind) (rise_behind k gs c.requires.rise);
      within = subst (λ (b : Queue). All (IsGroupOf b.config) c.split_at.result.1.now) (sym base) (subst (All (IsGroupOf x.base.config)) (sym behind) (All-drop (IsGroupOf x.base.config) k gs c.requires.within));
      held = λ told. rw (base, batches) (subst (All Held) (sym behind) (All-drop Held k gs (c.requires.held told)));
    } in
    (omega (arith, c.in-Some.ensures.cases.1), (lives.0, (lives.1, may)))

pub returns : goal.returns
returns g t c =
    let P = g.P.Plant in
    let x = c.args.complex.now in
    let gs : List GroupNo = c.args.groups.now in
    let k : ℕ = c.groups_needed.result in
    let behind : c.split_at.result.1.now ≡ drop k gs = c.split_at.ensures.back in
    let y = c.write_pages.new.complex in
    let e = c.write_pages.ensures in
    let base : y.base ≡ x.base = ap (λ p. p.base) e.frame in
    let z = c.write_outputs.new.complex in
    let w = c.write_outputs.ensures in
    let front : c.split_at.result.0.now ≡ take k gs = c.split_at.ensures.front in
    record {
      on = record {
        frame = w.on.frame ∙ ap (λ (p : Parts _ _). record p { plant = z.plant }) e.frame;
        acts = acts_on P.tells c.args.by.0 (P.view x.plant) (P.view y.plant) (P.view z.plant) e.acts w.on.acts;
        cause = cause_by c.args.by.0 x.base.config.groups (drop k gs) gs (P.view x.plant) (P.view y.plant) (P.view z.plant) c.write_outputs.result (λ v there. lies_behind x.base.config.groups v k gs there) e.acts.goes c.in_ok-write_pages.ensures.cause (rw (base, behind) at w.on.cause);
        spares = λ told h none.
            let first = e.spares told h (subst (All (λ (j : GroupNo). h.0 ≢ j.0)) (sym front) (All-take (λ (j : GroupNo). h.0 ≢ j.0) k gs none)) in
            let others = rw base at (w.on.spares told h (subst (All (λ (j : GroupNo). h.0 ≢ j.0)) (sym behind) (All-drop (λ (j : GroupNo). h.0 ≢ j.0) k gs none))) in
            kept_then x.base.config.groups h (spools_at (P.view x.plant) (P.view x.plant).now) (spools_at (P.view y.plant) (P.view y.plant).now) (spools_at (P.view z.plant) (P.view z.plant).now) first others;
      };
      stand =
          let s : OutSpec = c.in-Some.spec.now in
          let rest : List OutSpec = c.in-Some.rest.now in
          let n : k ≡ groups_needed s.text = c.groups_needed.ensures in
          let le = enough g t (goal.at.returns g t c).After-groups_needed in
          let per = x.base.config.groups in
          let mid = spools_at (P.view y.plant) (P.view y.plant).now in
          let new = spools_at (P.view z.plant) (P.view z.plant).now in
          on_ok c.write_outputs.result (λ others told roomy.
          let here : StandBelow (length (take k gs)) mid per (packed s.text) (take k gs) = subst (λ (l : List GroupNo). StandBelow (length l) mid per (packed s.text) l) front (c.in_ok-write_pages.ensures.stand told roomy) in
          let at_k : StandBelow k mid per (packed s.text) (take k gs) = subst (λ (i : ℕ). StandBelow i mid per (packed s.text) (take k gs)) (length-take-le k gs le) here in
          let spares = λ (h : GroupNo) (none : All (λ (j : GroupNo). h.0 ≢ j.0) (drop k gs)). (rw base at (w.on.spares told h (subst (All (λ (j : GroupNo). h.0 ≢ j.0)) (sym behind) none))).page in
          let first : StandBelow k new per (packed s.text) (take k gs) = still_stand k per (packed s.text) gs mid new c.requires.rise spares at_k in
          let behind_written : AreWritten new per rest (drop k gs) = rw (base, behind) at (others told (rw base (still_roomy x.base.config (P.view x.plant) (P.view y.plant) e.acts.goes roomy))) in
          subst (λ (ss : List OutSpec). AreWritten new per ss gs) (sym c.in-Some.ensures.cases.0)
          (subst (λ (i : ℕ). StandBelow i new per (packed s.text) (take i gs)) n first, subst (λ (i : ℕ). AreWritten new per rest (drop i gs)) n behind_written))
          w.stand;
    }
