-- The commands that change one output keep the sound parts.
use Rattle.std.proofs.Common.{◌≡◌, ℕ, ◌+◌, ◌-◌, ◌≤◌, min, Bool, true, false, ◌&&◌, List, [], ◌∷◌, map, Option, Some, None, refl, ap, ◌∙◌, inl, inr, arith}
use Rattle.std.proofs.lemmas.Bool.{or_parts as or_false}
use Rattle.std.specs.Prelude.{option_map, if◌then◌else◌, is_some}
use Rattle.std.specs.List.{find, list_any, All}
use Rattle.std.proofs.lemmas.Bool.Decides.{nat_tests}
use Rattle.std.proofs.lemmas.List.Elements.{All-head, All-tail, All-weaker, All-map}
use Rattle.std.proofs.lemmas.List.{length-map}
use Rattle.mas_types.specs.declared.ids.MemberId.{MemberId}
use Rattle.mas_types.specs.declared.ids.JobNo.{JobNo}
use Rattle.mas_types.specs.declared.ids.OutNo.{OutNo}
use Rattle.mas_types.specs.declared.ids.Class.{Class}
use Rattle.mas_types.specs.declared.jobs.Output.{Output}
use Rattle.mas_types.specs.declared.queues.Owner.{Owner}
use Rattle.mas_types.specs.declared.queues.Owner.TheVariants as owner
use Rattle.mas_types.specs.declared.queues.Queue.{Queue}
use Rattle.mas_types.specs.Lists.{change_first, first_some}
use Rattle.mas_types.specs.Ids.{same_member, is_somebody}
use Rattle.mas_types.specs.Queue.{has_key, change_output, output_at, prints_at, printing_at, total, is_member}
use Rattle.mas_types.specs.Selection.{is_for_printer}
use Rattle.mas_types.specs.Commands.Printing.{picked_by, marked, mark_row, back_row, forward_row, pick_row, in_use}
use Rattle.mas_types.specs.Commands.Operator.{set_out_row, out_row, is_held_of, released}
use Rattle.mas_types.specs.Fit.{AreDistinct}
use Rattle.mas_types.specs.Sound.{IsSound, IsSoundOutput, HasOutputGroup, is_owner_there, same_key, same_printer}
use Rattle.queue_laws.proofs.Done.{none_first}
use Rattle.queue_laws.proofs.Finds.{test_cases, find-change_same, find-change_apart, find-map, find_none}
use Rattle.queue_laws.proofs.Kept.{key_cases, key_alike}
use Rattle.queue_laws.proofs.Chosen.{change_first-none}
use Rattle.queue_laws.proofs.Others.{both_first, change-by_key}
use Rattle.queue_laws.proofs.Soundness.{All-change, length-change, AreDistinct-change}
use Rattle.queue_laws.proofs.SoundJobs.{busy_member}
use Rattle.queue_laws.proofs.Freed.{AreDistinct-map}

-- what a change of the output of that key has to keep
pub record IsSafeOutput (Q : Queue) (n : JobNo) (i : OutNo) (f : Output → Output) : Type 0 where
  pub job : (o : Output) → (f o).job ≡ o.job
  pub index : (o : Output) → (f o).index ≡ o.index
  pub text : (o : Output) → (f o).text ≡ o.text
  pub right : (o : Output) → output_at Q n i ≡ Some o → IsSoundOutput Q.config Q.jobs o → IsSoundOutput Q.config Q.jobs (f o)
  pub printers : AreDistinct same_printer (change_first (has_key n i) f Q.outputs)

keys_kept : (f : Output → Output) → ((o : Output) → (f o).job ≡ o.job) → ((o : Output) → (f o).index ≡ o.index) → (k : JobNo) (l : OutNo) (o : Output) → has_key k l (f o) ≡ has_key k l o
keys_kept f jobs indexes k l o = rw (jobs o, indexes o) refl

is_some_map : {A B : Type 0} (f : A → B) (o : Option A) → is_some (option_map f o) ≡ is_some o
is_some_map f None = refl
is_some_map f (Some x) = refl

key_there : (Q : Queue) (n : JobNo) (i : OutNo) (f : Output → Output) → IsSafeOutput Q n i f → (k : JobNo) (l : OutNo) → is_some (find (has_key k l) (change_first (has_key n i) f Q.outputs)) ≡ is_some (find (has_key k l) Q.outputs)
key_there Q n i f safe k l =
    elim (key_cases k n l i) [
      | inl w ↦ ap is_some (find-change_same (has_key k l) (has_key n i) f Q.outputs (key_alike k n l i w.0 w.1) (keys_kept f safe.job safe.index k l)) ∙ is_some_map f (find (has_key k l) Q.outputs)
      | inr w ↦ ap is_some (find-change_apart (has_key k l) (has_key n i) f Q.outputs w (keys_kept f safe.job safe.index k l))
    ]

owner_there : (Q : Queue) (n : JobNo) (i : OutNo) (f : Output → Output) → IsSafeOutput Q n i f → (g : Owner) → is_owner_there Q.config Q.jobs Q.outputs g ≡ true → is_owner_there Q.config Q.jobs (change_first (has_key n i) f Q.outputs) g ≡ true
owner_there Q n i f safe owner.Free there = refl
owner_there Q n i f safe (owner.Member m) there = there
owner_there Q n i f safe (owner.Deck k place) there = there
owner_there Q n i f safe (owner.Output k l place) there = key_there Q n i f safe k l ∙ there

pub sound-change_output : (Q : Queue) (n : JobNo) (i : OutNo) (f : Output → Output) → IsSound Q → IsSafeOutput Q n i f → IsSound (change_output n i f Q)
sound-change_output Q n i f sound safe = record {
  config = sound.config;
  few_jobs = sound.few_jobs;
  few_outputs = rw (length-change (has_key n i) f Q.outputs) sound.few_outputs;
  each_group = sound.each_group;
  each_member = sound.each_member;
  few_routes = sound.few_routes;
  each_line = sound.each_line;
  last = sound.last;
  members = sound.members;
  jobs = sound.jobs;
  decks = sound.decks;
  outputs = All-change (has_key n i) f (IsSoundOutput Q.config Q.jobs) Q.outputs sound.outputs safe.right;
  groups = All-change (has_key n i) f (HasOutputGroup Q.owners) Q.outputs sound.groups (λ o found group. rw (safe.text o, safe.job o, safe.index o) group);
  owners = All-weaker (λ g. is_owner_there Q.config Q.jobs Q.outputs g ≡ true) (λ g. is_owner_there Q.config Q.jobs (change_first (has_key n i) f Q.outputs) g ≡ true) (owner_there Q n i f safe) Q.owners sound.owners;
  numbers = sound.numbers;
  keys = AreDistinct-change (has_key n i) f same_key (λ x y. rw (safe.job x, safe.index x) refl) (λ x y. rw (safe.job y, safe.index y) refl) Q.outputs sound.keys;
  printers = safe.printers;
  places = sound.places;
  no_gaps = sound.no_gaps;
}

-- A CHANGE THAT LEAVES THE PRINTER

pub steady : (Q : Queue) (n : JobNo) (i : OutNo) (f : Output → Output) → IsSound Q → ((o : Output) → (f o).busy ≡ o.busy) → AreDistinct same_printer (change_first (has_key n i) f Q.outputs)
steady Q n i f sound busies = AreDistinct-change (has_key n i) f same_printer (λ x y. rw (busies x) refl) (λ x y. rw (busies y) refl) Q.outputs sound.printers

pub class_sound : (Q : Queue) (n : JobNo) (i : OutNo) (class : Class) (m : MemberId) → IsSound Q → IsSound (set_out_row Q m n i class).effect
class_sound Q n i class m sound = sound-change_output Q n i (λ o. record o { class = class }) sound (record {
  job = λ o. refl;
  index = λ o. refl;
  text = λ o. refl;
  right = λ o found s. record { index = s.index; copies = s.copies; lines = s.lines; job = s.job; busy = s.busy; text = s.text; mark = s.mark };
  printers = steady Q n i (λ o. record o { class = class }) sound (λ o. refl);
})

-- THE FIRST OUTPUT THAT A TEST PICKS

pub first_output_sound : (Q : Queue) (p : Output → Bool) (f : Output → Output) → IsSound Q → ((x : Output) → find p Q.outputs ≡ Some x → IsSafeOutput Q x.job x.index f) → IsSound (record Q { outputs = change_first p f Q.outputs })
first_output_sound Q p f sound safe = go (find p Q.outputs) refl
  where
    go : (o : Option Output) → find p Q.outputs ≡ o → IsSound (record Q { outputs = change_first p f Q.outputs })
    go None first = rw (change_first-none p f Q.outputs first) sound
    go (Some x) first = rw (change-by_key Q.outputs p f x sound.keys first) (sound-change_output Q x.job x.index f sound (safe x first))

-- a mark that is at most the total
pub marked_sound : (Q : Queue) (p : Output → Bool) (mark : Output → ℕ) → IsSound Q → ((o : Output) → o.mark ≤ total o → mark o ≤ total o) → IsSound (record Q { outputs = change_first p (marked mark) Q.outputs })
marked_sound Q p mark sound within = first_output_sound Q p (marked mark) sound (λ x first. record {
  job = λ o. refl;
  index = λ o. refl;
  text = λ o. refl;
  right = λ o found s. record { index = s.index; copies = s.copies; lines = s.lines; job = s.job; busy = s.busy; text = s.text; mark = within o s.mark };
  printers = steady Q x.job x.index (marked mark) sound (λ o. refl);
})

pub mark_sound : (Q : Queue) (m : MemberId) (n : JobNo) (i : OutNo) (at : ℕ) → IsSound Q → IsSound (mark_row Q m n i at).effect
mark_sound Q m n i at sound = marked_sound Q (has_key n i) (λ o. min at (total o)) sound (λ o was. omega arith)

pub back_sound : (Q : Queue) (m : MemberId) (lines : ℕ) → IsSound Q → IsSound (back_row Q m lines).effect
back_sound Q m lines sound = marked_sound Q (prints_at m) (λ o. o.mark - lines) sound (λ o was. omega arith)

pub forward_sound : (Q : Queue) (m : MemberId) (lines : ℕ) → IsSound Q → IsSound (forward_row Q m lines).effect
forward_sound Q m lines sound = marked_sound Q (prints_at m) (λ o. min (o.mark + lines) (total o)) sound (λ o was. omega arith)

-- PICK

and_false : (a : Bool) → (a && false) ≡ false
and_false true = refl
and_false false = refl

member_flip : (a b : MemberId) → same_member a b ≡ false → same_member b a ≡ false
member_flip a b h = grind (arith, nat_tests)

module _ (m : MemberId) (p : Output → Bool) where
  -- an output of another member is apart from the picked one
  any-picked : (x : Output) → same_member x.busy m ≡ false → (xs : List Output) → list_any (same_printer x) xs ≡ false → list_any (same_printer x) (change_first p (picked_by m) xs) ≡ false
  any-picked x apart [] none = refl
  any-picked x apart (y ∷ ys) none =
      let parts = or_false (same_printer x y) (list_any (same_printer x) ys) none in
      test_cases (p y) (list_any (same_printer x) (change_first p (picked_by m) (y ∷ ys)) ≡ false)
      (λ e. rw (e, apart, and_false (is_somebody x.busy)) parts.1)
      (λ e. rw (e, parts.0) (any-picked x apart ys parts.1))

  -- no output is busy at the member yet
  none_at : (xs : List Output) → All (λ y. same_member y.busy m ≡ false) xs → list_any (λ b. is_somebody m && same_member m b.busy) xs ≡ false
  none_at [] all = refl
  none_at (y ∷ ys) all =
      let apart = member_flip y.busy m (All-head (λ y. same_member y.busy m ≡ false) y ys all) in
      rw (apart, and_false (is_somebody m)) (none_at ys (All-tail (λ y. same_member y.busy m ≡ false) y ys all))

  printers-picked : (xs : List Output) → All (λ y. same_member y.busy m ≡ false) xs → AreDistinct same_printer xs → AreDistinct same_printer (change_first p (picked_by m) xs)
  printers-picked [] all d = d
  printers-picked (y ∷ ys) all d =
      let rest = All-tail (λ y. same_member y.busy m ≡ false) y ys all in
      test_cases (p y) (AreDistinct same_printer (change_first p (picked_by m) (y ∷ ys)))
      (λ e. rw e (none_at ys rest, d.1))
      (λ e. rw e (any-picked y (All-head (λ y. same_member y.busy m ≡ false) y ys all) ys d.0, printers-picked ys rest d.1))

in_use_none : (m : MemberId) (o : Option Output) → in_use m o ≡ None → o ≡ None
in_use_none m None h = refl
in_use_none m (Some o) h = absurd (cc)

-- no output is busy at a member that prints none
none_prints : (Q : Queue) (m : MemberId) → is_member Q.config m ≡ true → in_use m (printing_at Q m) ≡ None → find (prints_at m) Q.outputs ≡ None
none_prints Q m member free = rw (both_first (is_somebody m) _ member) at (in_use_none m (printing_at Q m) free)

pub pick_sound : (Q : Queue) (m : MemberId) → IsSound Q → is_member Q.config m ≡ true → first_some (pick_row Q m).refusals ≡ None → IsSound (pick_row Q m).effect
pick_sound Q m sound member none =
    let free = none_prints Q m member (none_first _ _ none).0 in
    first_output_sound Q (is_for_printer Q m) (picked_by m) sound (λ x first. record {
      job = λ o. refl;
      index = λ o. refl;
      text = λ o. refl;
      right = λ o found s. record { index = s.index; copies = s.copies; lines = s.lines; job = s.job; busy = busy_member (is_somebody m) _ member; text = s.text; mark = s.mark };
      printers = printers-picked m (has_key x.job x.index) Q.outputs (find_none (prints_at m) Q.outputs free) sound.printers;
    })

-- OUT

module _ (n : JobNo) where
  abbrev out_after : Output → Output
  out_after o = if is_held_of n o then released o else o

  out_kept : (P : Output → Type 0) → ((o : Output) → P o → P (released o)) → (o : Output) → P o → P (out_after o)
  out_kept P new o p = test_cases (is_held_of n o) (P (out_after o)) (λ e. rw e (new o p)) (λ e. rw e p)

  out_same : {B : Type 0} (field : Output → B) → ((o : Output) → field (released o) ≡ field o) → (o : Output) → field (out_after o) ≡ field o
  out_same field same o = test_cases (is_held_of n o) (field (out_after o) ≡ field o) (λ e. rw e (same o)) (λ e. rw e refl)

  out_key : (k : JobNo) (l : OutNo) (o : Output) → has_key k l (out_after o) ≡ has_key k l o
  out_key k l = out_same (has_key k l) (λ o. refl)

  owner_out : (Q : Queue) (g : Owner) → is_owner_there Q.config Q.jobs Q.outputs g ≡ true → is_owner_there Q.config Q.jobs (map out_after Q.outputs) g ≡ true
  owner_out Q owner.Free there = refl
  owner_out Q (owner.Member m) there = there
  owner_out Q (owner.Deck k place) there = there
  owner_out Q (owner.Output k l place) there = ap is_some (find-map (has_key k l) out_after Q.outputs (out_key k l)) ∙ is_some_map out_after (find (has_key k l) Q.outputs) ∙ there

  pub out_sound : (Q : Queue) → IsSound Q → IsSound (out_row Q n).effect
  out_sound Q sound = record {
    config = sound.config;
    few_jobs = sound.few_jobs;
    few_outputs = rw (length-map Q.outputs out_after) sound.few_outputs;
    each_group = sound.each_group;
    each_member = sound.each_member;
    few_routes = sound.few_routes;
    each_line = sound.each_line;
    last = sound.last;
    members = sound.members;
    jobs = sound.jobs;
    decks = sound.decks;
    outputs = All-map (IsSoundOutput Q.config Q.jobs) out_after Q.outputs (All-weaker (IsSoundOutput Q.config Q.jobs) (λ o. IsSoundOutput Q.config Q.jobs (out_after o)) (out_kept (IsSoundOutput Q.config Q.jobs) (λ o s. record { index = s.index; copies = s.copies; lines = s.lines; job = s.job; busy = s.busy; text = s.text; mark = s.mark })) Q.outputs sound.outputs);
    groups = All-map (HasOutputGroup Q.owners) out_after Q.outputs (All-weaker (HasOutputGroup Q.owners) (λ o. HasOutputGroup Q.owners (out_after o)) (out_kept (HasOutputGroup Q.owners) (λ o group. group)) Q.outputs sound.groups);
    owners = All-weaker (λ g. is_owner_there Q.config Q.jobs Q.outputs g ≡ true) (λ g. is_owner_there Q.config Q.jobs (map out_after Q.outputs) g ≡ true) (owner_out Q) Q.owners sound.owners;
    numbers = sound.numbers;
    keys = AreDistinct-map out_after same_key (λ x y h. rw (out_same (λ o. o.job) (λ o. refl) x, out_same (λ o. o.index) (λ o. refl) x, out_same (λ o. o.job) (λ o. refl) y, out_same (λ o. o.index) (λ o. refl) y) h) Q.outputs sound.keys;
    printers = AreDistinct-map out_after same_printer (λ x y h. rw (out_same (λ o. o.busy) (λ o. refl) x, out_same (λ o. o.busy) (λ o. refl) y) h) Q.outputs sound.printers;
    places = sound.places;
    no_gaps = sound.no_gaps;
  }
