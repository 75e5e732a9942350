-- Queues whose jobs, outputs and groups are told apart.
use Rattle.std.proofs.Common.{◌≡◌, ◌&&◌, ◌||◌, not, Bool, true, false, List, [], ◌∷◌, map, Option, Some, None, All, refl, sym, ◌∙◌, ap, subst}
use Rattle.std.specs.Prelude.{is_some}
use Rattle.std.specs.Option.{option_map, option_map_or}
use Rattle.std.specs.List.{list_any, find}
use Rattle.std.proofs.lemmas.List.Elements.{All-weaker}
use Rattle.mas_types.specs.declared.ids.JobNo.{JobNo}
use Rattle.mas_types.specs.declared.ids.OutNo.{OutNo}
use Rattle.mas_types.specs.declared.jobs.Job.{Job}
use Rattle.mas_types.specs.declared.jobs.Output.{Output}
use Rattle.mas_types.specs.declared.queues.Config.{Config}
use Rattle.mas_types.specs.declared.queues.Owner.{Owner}
use Rattle.mas_types.specs.declared.queues.Owner.TheVariants as owner
use Rattle.mas_types.specs.declared.queues.Queue.{Queue}
use Rattle.mas_types.specs.Fit.{AreDistinct, IsConfig}
use Rattle.mas_types.specs.Ids.{same_number, same_index}
use Rattle.mas_types.specs.Queue.{has_number, has_key, in_input}
use Rattle.mas_types.specs.Sound.{IsSound, is_there, is_owner_there}
use Rattle.lay_bytes.specs.declared.records.JobRec.{JobRec}
use Rattle.lay_bytes.specs.declared.records.OutRec.{OutRec}
use Rattle.ckpt_tables.specs.declared.tables.Tables.{Tables}
use Rattle.job_queue.specs.Jobs as jobs
use Rattle.output_queue.specs.Outputs as outputs
use Rattle.queue_laws.proofs.Finds.{test_cases}
use Rattle.queue_telling.specs.Telling.{Tell, TellSound}
use Rattle.queue_texts.specs.Leaving.{AreTheirOwn}

pub sound_own : (Q : Queue) → IsSound Q → AreTheirOwn Q
sound_own Q sound = record { config = sound.config; numbers = sound.numbers; keys = sound.keys; owners = sound.owners }

-- LISTS THAT SHOW THE SAME

module _ {X C : Type 0} (shows : X → C) where
  -- a test of what is shown
  any_alike : (test : C → Bool) (xs ys : List X) → map shows xs ≡ map shows ys → list_any (λ x. test (shows x)) xs ≡ list_any (λ x. test (shows x)) ys
  any_alike test [] [] e = refl
  any_alike test [] (y ∷ ys) e = absurd (cc)
  any_alike test (x ∷ xs) [] e = absurd (cc)
  any_alike test (x ∷ xs) (y ∷ ys) e =
      let here : shows x ≡ shows y = cc in
      let rest : map shows xs ≡ map shows ys = cc in
      ap (λ (c : C). test c || list_any (λ z. test (shows z)) xs) here ∙ ap (λ (b : Bool). test (shows y) || b) (any_alike test xs ys rest)

  found_alike : (test : C → Bool) (xs ys : List X) → map shows xs ≡ map shows ys → option_map shows (find (λ x. test (shows x)) xs) ≡ option_map shows (find (λ x. test (shows x)) ys)
  found_alike test [] [] e = refl
  found_alike test [] (y ∷ ys) e = absurd (cc)
  found_alike test (x ∷ xs) [] e = absurd (cc)
  found_alike test (x ∷ xs) (y ∷ ys) e =
      let here : shows x ≡ shows y = cc in
      let rest : map shows xs ≡ map shows ys = cc in
      test_cases (test (shows y)) (option_map shows (find (λ z. test (shows z)) (x ∷ xs)) ≡ option_map shows (find (λ z. test (shows z)) (y ∷ ys)))
      (λ t. let s : test (shows x) ≡ true = ap test here ∙ t in rw (s, t) (ap Some here))
      (λ t. let s : test (shows x) ≡ false = ap test here ∙ t in rw (s, t) (found_alike test xs ys rest))

  distinct_alike : (same : C → C → Bool) (xs ys : List X) → map shows xs ≡ map shows ys → AreDistinct (λ a b. same (shows a) (shows b)) xs → AreDistinct (λ a b. same (shows a) (shows b)) ys
  distinct_alike same [] [] e d = d
  distinct_alike same [] (y ∷ ys) e d = absurd (cc)
  distinct_alike same (x ∷ xs) [] e d = absurd (cc)
  distinct_alike same (x ∷ xs) (y ∷ ys) e d =
      let here : shows x ≡ shows y = cc in
      let rest : map shows xs ≡ map shows ys = cc in (
        sym (any_alike (same (shows y)) xs ys rest) ∙ subst (λ (c : C). list_any (λ z. same c (shows z)) xs ≡ false) here d.0,
        distinct_alike same xs ys rest d.1,
      )

-- WHOSE A GROUP IS

is_some_map : {A B : Type 0} (f : A → B) (o : Option A) → is_some (option_map f o) ≡ is_some o
is_some_map f None = refl
is_some_map f (Some x) = refl

job_there : (n : JobNo) (js ks : List Job) → map jobs.rec_of js ≡ map jobs.rec_of ks → is_there (λ j. not (in_input j.phase)) js n ≡ is_there (λ j. not (in_input j.phase)) ks n
job_there n js ks e = passes (find (has_number n) js) (find (has_number n) ks) (found_alike jobs.rec_of (λ (r : JobRec). same_number r.number n) js ks e) where
  passes : (a b : Option Job) → option_map jobs.rec_of a ≡ option_map jobs.rec_of b → option_map_or (λ j. not (in_input j.phase)) a false ≡ option_map_or (λ j. not (in_input j.phase)) b false
  passes None None e = refl
  passes None (Some y) e = absurd (cc)
  passes (Some x) None e = absurd (cc)
  passes (Some x) (Some y) e = let same : jobs.rec_of x ≡ jobs.rec_of y = cc in ap (λ (r : JobRec). not (in_input r.phase)) same

output_there : (n : JobNo) (i : OutNo) (os ps : List Output) → map outputs.rec_of os ≡ map outputs.rec_of ps → is_some (find (has_key n i) os) ≡ is_some (find (has_key n i) ps)
output_there n i os ps e =
    sym (is_some_map outputs.rec_of (find (has_key n i) os))
    ∙ ap (λ (o : Option OutRec). is_some o) (found_alike outputs.rec_of (λ (r : OutRec). same_number r.job n && same_index r.index i) os ps e)
    ∙ is_some_map outputs.rec_of (find (has_key n i) ps)

owner_alike : (c : Config) (js ks : List Job) (os ps : List Output) → map jobs.rec_of js ≡ map jobs.rec_of ks → map outputs.rec_of os ≡ map outputs.rec_of ps → (g : Owner) → is_owner_there c js os g ≡ true → is_owner_there c ks ps g ≡ true
owner_alike c js ks os ps one two owner.Free is = refl
owner_alike c js ks os ps one two (owner.Member m) is = is
owner_alike c js ks os ps one two (owner.Deck n p) is = sym (job_there n js ks one) ∙ is
owner_alike c js ks os ps one two (owner.Output n i p) is = sym (output_there n i os ps two) ∙ is

pub told_own : (t : Tables) (Q : Queue) → TellSound t → Tell t Q → AreTheirOwn Q
told_own t Q s told =
    let config : s.queue.config ≡ Q.config = s.told.config ∙ sym told.config in
    let same_jobs : map jobs.rec_of s.queue.jobs ≡ map jobs.rec_of Q.jobs = sym s.told.jobs ∙ told.jobs in
    let same_outputs : map outputs.rec_of s.queue.outputs ≡ map outputs.rec_of Q.outputs = sym s.told.outputs ∙ told.outputs in
    let same_owners : s.queue.owners ≡ Q.owners = s.told.owners ∙ sym told.owners in
    record {
      config = subst IsConfig config s.sound.config;
      numbers = distinct_alike jobs.rec_of (λ (a b : JobRec). same_number a.number b.number) s.queue.jobs Q.jobs same_jobs s.sound.numbers;
      keys = distinct_alike outputs.rec_of (λ (a b : OutRec). same_number b.job a.job && same_index b.index a.index) s.queue.outputs Q.outputs same_outputs s.sound.keys;
      owners = subst (λ (gs : List Owner). All (λ g. is_owner_there Q.config Q.jobs Q.outputs g ≡ true) gs) same_owners
          (All-weaker (λ g. is_owner_there s.queue.config s.queue.jobs s.queue.outputs g ≡ true) (λ g. is_owner_there Q.config Q.jobs Q.outputs g ≡ true)
          (λ g is. subst (λ (c : Config). is_owner_there c Q.jobs Q.outputs g ≡ true) config (owner_alike s.queue.config s.queue.jobs Q.jobs s.queue.outputs Q.outputs same_jobs same_outputs g is)) s.queue.owners s.sound.owners);
    }
