use Rattle.mas_complex.proofs.Answering.{refl, subst, sym, ◌∙◌, ap, List, Option, ◌-◌, ◌^◌, None, Batch, Entry, Flying, entries_reserved, parts_of, begins, facts_at, view_of, IsSome}
use Rattle.mas_complex.proofs.complex.Complex.begin.Goals as goal

pub invariant_of-self : goal.invariant_of-self
invariant_of-self g c =
    let s = c.args.self.now in
    let was = sym c.take.ensures.value ∙ c.in-Some.is in
    let b : Batch = record { first = c.now-first.result; last = 2 ^ 64 - 1; by = c.args.by; fate = Flying; entries = c.in-Some.entries } in
    begins g.P.Plant g.C.Steady g.C.Copying (parts_of s) (view_of s) (facts_at s None c.requires.none) b (s.place_reserved (subst (λ (o : Option (List Entry)). IsSome o) (sym was) refl)) refl c.now-first.ensures c.requires.may.holds
    (entries_reserved s.reserved) (ap entries_reserved was)
    (record { own = c.requires.own; short = s.short_reserved; replied = c.requires.replied; allowed = c.requires.allowed; untold = c.requires.untold; texts = c.requires.texts }) c.take.new.self c.count_anew.new.printed c.take.ensures.after c.count_anew.ensures
