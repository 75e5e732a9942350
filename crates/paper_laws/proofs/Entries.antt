-- Entries one after another.
use Rattle.std.proofs.Common.{◌≡◌, List, [], ◌∷◌, Option, Some, None, refl, ap}
use Rattle.mas_types.specs.declared.ids.JobNo.{JobNo}
use Rattle.mas_types.specs.declared.ids.OutNo.{OutNo}
use Rattle.mas_types.specs.declared.jobs.Output.{Output}
use Rattle.mas_types.specs.declared.queues.Queue.{Queue}
use Rattle.mas_types.specs.declared.journals.Entry.{Entry}
use Rattle.mas_types.specs.Queue.{output_at}
use Rattle.mas_types.specs.Step.{step}
use Rattle.paper_laws.specs.Leaving.{IsTakenBy, EntriesTakeOutputs}
use Rattle.paper_laws.proofs.Effects.{commands_take}

-- the first entry takes it
at_first : (base : Queue) (e : Entry) (es : List Entry) (n : JobNo) (i : OutNo) (o : Output) → output_at base n i ≡ Some o → output_at (step base e.by e.command).0 n i ≡ None → IsTakenBy base (e ∷ es) n i
at_first base e es n i o there gone = record {
  before = [];
  entry = e;
  after = es;
  place = refl;
  output = o;
  there = there;
  gone = gone;
  may = commands_take base e.by e.command n i o there gone;
}

-- a later one does
behind : (base : Queue) (e : Entry) (es : List Entry) (n : JobNo) (i : OutNo) → IsTakenBy (step base e.by e.command).0 es n i → IsTakenBy base (e ∷ es) n i
behind base e es n i t = record {
  before = e ∷ t.before;
  entry = t.entry;
  after = t.after;
  place = ap (λ rest. e ∷ rest) t.place;
  output = t.output;
  there = t.there;
  gone = t.gone;
  may = t.may;
}

-- the output is found after the first entry, or it isn't
by_what_is_found : (base : Queue) (e : Entry) (es : List Entry) (n : JobNo) (i : OutNo) (o : Output) (found : Option Output) → output_at base n i ≡ Some o → output_at (step base e.by e.command).0 n i ≡ found
    → ((x : Output) → found ≡ Some x → IsTakenBy (step base e.by e.command).0 es n i) → IsTakenBy base (e ∷ es) n i
by_what_is_found base e es n i o None there is later = at_first base e es n i o there is
by_what_is_found base e es n i o (Some x) there is later = behind base e es n i (later x refl)

pub entries_take : EntriesTakeOutputs
entries_take base [] n i o there gone = absurd (cc)
entries_take base (e ∷ es) n i o there gone =
    by_what_is_found base e es n i o (output_at (step base e.by e.command).0 n i) there refl (λ x is. entries_take (step base e.by e.command).0 es n i x is gone)
