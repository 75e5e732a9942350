-- Lines that are said one after another.
use Rattle.std.proofs.Common.{◌≡◌, inl, inr, ⊎_elim, ℕ, ◌<◌, ◌≤◌, List, [], ◌∷◌, ◌++◌, length, map, take, append_assoc, append-nil, refl, sym, ◌∙◌, ap, arith}
use Rattle.std.proofs.lemmas.List.{map-append}
use Rattle.spool_plant.specs.declared.plant.Part.TheVariants.{Console}
use Rattle.spool_plant.specs.declared.plant.Act.TheVariants.{Done, Failed}
use Rattle.spool_plant.specs.View.{View, Line, World, disk_at}
use Rattle.spool_plant.specs.Acts.{Goes, Acts, Says, next}
use Rattle.ckpt_copy.specs.Moments.{either_way, goes_on, goes_none}
use Rattle.mas_complex.specs.Headline.{whole}
use Rattle.member_node.specs.Calls.{console_now}
use Rattle.mas_tasks.specs.Saying.{Adds, AddsSome}

pub adds_none : (tells : Type 0) (v : View) → Adds tells [] v v
adds_none tells v = record {
  goes = goes_none v;
  lost = λ p not. refl;
  loses = λ d. refl;
  stops = λ m. refl;
  disks = λ told t from le d. let now : t ≡ v.now = omega arith in ap (λ (n : ℕ). disk_at v n d) now;
  papers = λ told t from le m. let now : t ≡ v.now = omega arith in ap (λ (n : ℕ). (v.world n).paper m) now;
  console = λ told. sym (append-nil (console_now v));
}

-- a moment of two calls, one after the other, neither of which changes a part of the world
then_now : {T : Type 0} (part : World → T) (v0 v1 v2 : View) (t : ℕ) → v2.now ≡ next v1.now → Goes v1 v2 → ((s : ℕ) → v0.now ≤ s → s ≤ v1.now → part (v1.world s) ≡ part (v0.world v0.now)) → v0.now ≤ v1.now
    → part (v2.world v2.now) ≡ part (v1.world v1.now) → v0.now ≤ t → t ≤ v2.now → part (v2.world t) ≡ part (v0.world v0.now)
then_now part v0 v1 v2 t time goes before later same from le = ⊎_elim
    (λ early. ap part (goes.past t early) ∙ before t from early)
    (λ late. let now : t ≡ v2.now = omega (arith, time) in ap (λ (n : ℕ). part (v2.world n)) now ∙ same ∙ before v1.now later (omega arith))
    (either_way t v1.now)

module _ (tells : Type 0) (lines : List (List ℕ)) (line : List ℕ) (v0 v1 v2 : View) (adds : Adds tells lines v0 v1) where
  -- a line more
  pub adds_more : (by : ℕ) → Acts by Console v1 v2 Done → (tells → Says line v1 v2 Done) → Adds tells (lines ++ line ∷ []) v0 v2
  adds_more by act says = record {
    goes = goes_on v0 v1 v2 adds.goes act.goes;
    lost = λ p not. act.else_lost p (inl not) ∙ adds.lost p not;
    loses = λ d. act.loses d ∙ adds.loses d;
    stops = λ m. act.no_other_stop m (inr (λ e. absurd (cc))) ∙ adds.stops m;
    disks = λ told t from le d. then_now (λ (w : World). w.disk d) v0 v1 v2 t act.time act.goes (λ s at to. adds.disks told s at to d) adds.goes.later ((says told).disks d) from le;
    papers = λ told t from le m. then_now (λ (w : World). w.paper m) v0 v1 v2 t act.time act.goes (λ s at to. adds.papers told s at to m) adds.goes.later ((says told).paper m) from le;
    console = λ told. (says told).console ∙ ap (λ (l : List Line). l ++ whole line ∷ []) (adds.console told)
        ∙ append_assoc (console_now v0) (map whole lines) (whole line ∷ []) ∙ ap (λ (l : List Line). console_now v0 ++ l) (sym (map-append whole lines (line ∷ [])));
  }

  -- a line that can't be said
  pub adds_same : (by : ℕ) → Acts by Console v1 v2 Failed → (tells → Says line v1 v2 Failed) → Adds tells lines v0 v2
  adds_same by act says = record {
    goes = goes_on v0 v1 v2 adds.goes act.goes;
    lost = λ p not. act.else_lost p (inl not) ∙ adds.lost p not;
    loses = λ d. act.loses d ∙ adds.loses d;
    stops = λ m. act.no_other_stop m (inr (λ e. absurd (cc))) ∙ adds.stops m;
    disks = λ told t from le d. then_now (λ (w : World). w.disk d) v0 v1 v2 t act.time act.goes (λ s at to. adds.disks told s at to d) adds.goes.later ((says told).disks d) from le;
    papers = λ told t from le m. then_now (λ (w : World). w.paper m) v0 v1 v2 t act.time act.goes (λ s at to. adds.papers told s at to m) adds.goes.later ((says told).paper m) from le;
    console = λ told. (says told).console ∙ adds.console told;
  }

pub adds_front : (tells : Type 0) (all : List (List ℕ)) (n by : ℕ) (line : List ℕ) (v0 v1 v2 : View) → Adds tells (take n all) v0 v1 → n < length all → Acts by Console v1 v2 Failed → (tells → Says line v1 v2 Failed) → AddsSome tells all v0 v2
adds_front tells all n by line v0 v1 v2 adds few act says = record {
  said = n;
  few = few;
  adds = adds_same tells (take n all) line v0 v1 v2 adds by act says;
  failed = omega (arith, adds.goes.faults Console, act.failed refl);
}
