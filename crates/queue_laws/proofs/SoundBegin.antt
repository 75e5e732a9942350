-- Begin keeps the sound parts.
use Rattle.std.proofs.Common.{◌≡◌, ℕ, ◌<◌, ◌≤◌, Bool, true, false, not, ◌||◌, nat_le, List, [], ◌∷◌, ◌++◌, length, Option, Some, None, refl, ◌∙◌, arith, length-append, inl, inr}
use Rattle.std.proofs.lemmas.Bool.{or_parts}
use Rattle.std.specs.Option.{option_map_or}
use Rattle.std.specs.List.{find, list_any}
use Rattle.std.proofs.lemmas.Bool.Decides.{leb_tells}
use Rattle.std.proofs.lemmas.List.Elements.{All-push, All-nil, All-weaker}
use Rattle.mas_types.specs.declared.ids.MemberId.{MemberId}
use Rattle.mas_types.specs.declared.ids.JobNo.{JobNo}
use Rattle.mas_types.specs.declared.jobs.Job.{Job}
use Rattle.mas_types.specs.declared.jobs.JobFields.{JobFields}
use Rattle.mas_types.specs.declared.queues.Owner.{Owner}
use Rattle.mas_types.specs.declared.queues.Owner.TheVariants as owner
use Rattle.mas_types.specs.declared.queues.Queue.{Queue}
use Rattle.mas_types.specs.declared.commands.Refusal.TheVariants as refusal
use Rattle.mas_types.specs.Lists.{first_some}
use Rattle.mas_types.specs.Ids.{same_number, is_somebody}
use Rattle.mas_types.specs.Queue.{has_number, in_input, knows_node}
use Rattle.mas_types.specs.Number.{next_number}
use Rattle.mas_types.specs.Row.{refused_where}
use Rattle.mas_types.specs.Commands.Input.{new_job, begin_row}
use Rattle.mas_types.specs.Queue.{is_member}
use Rattle.mas_types.specs.Fit.{AreDistinct, is_text_line}
use Rattle.mas_types.specs.Sound.{IsSound, IsSoundJob, IsSoundOutput, HasDeckGroup, is_there, is_owner_there, may_have_outputs}
use Rattle.queue_laws.proofs.Done.{where_not}
use Rattle.queue_laws.proofs.Finds.{find-append}
use Rattle.queue_laws.proofs.Others.{second_none}
use Rattle.queue_laws.proofs.SoundJobs.{busy_member}
use Rattle.queue_laws.proofs.NewNumber.{next_number_free, free_from_right, after_right}

pub any-append : {A : Type 0} (p : A → Bool) (xs ys : List A) → list_any p (xs ++ ys) ≡ (list_any p xs || list_any p ys)
any-append p [] ys = refl
any-append p (x ∷ xs) ys = rw (any-append p xs ys) (or_assoc (p x) (list_any p xs) (list_any p ys))
  where
    or_assoc : (a b c : Bool) → (a || (b || c)) ≡ ((a || b) || c)
    or_assoc true b c = refl
    or_assoc false b c = refl

pub AreDistinct-push : {A : Type 0} (same : A → A → Bool) (xs : List A) (x : A) → AreDistinct same xs → list_any (λ y. same y x) xs ≡ false → AreDistinct same (xs ++ x ∷ [])
AreDistinct-push same [] x d new = (refl, tt)
AreDistinct-push same (y ∷ ys) x d new =
    let parts = or_parts (same y x) (list_any (λ y. same y x) ys) new in
    (any-append (same y) ys (x ∷ []) ∙ none_or (list_any (same y) ys) (same y x) d.0 parts.0, AreDistinct-push same ys x d.1 parts.1)
  where
    none_or : (a b : Bool) → a ≡ false → b ≡ false → (a || (b || false)) ≡ false
    none_or a b ha hb = rw (ha, hb) refl

-- what is there is there still among more jobs
pub is_there-append : (test : Job → Bool) (js ks : List Job) (n : JobNo) → is_there test js n ≡ true → is_there test (js ++ ks) n ≡ true
is_there-append test js ks n there = go (find (has_number n) js) refl there
  where
    go : (o : Option Job) → find (has_number n) js ≡ o → option_map_or test o false ≡ true → is_there test (js ++ ks) n ≡ true
    go None e h = absurd (cc)
    go (Some j) e h = rw (find-append (has_number n) js ks j e) h

owner_there : (Q : Queue) (ks : List Job) (g : Owner) → is_owner_there Q.config Q.jobs Q.outputs g ≡ true → is_owner_there Q.config (Q.jobs ++ ks) Q.outputs g ≡ true
owner_there Q ks owner.Free there = refl
owner_there Q ks (owner.Member m) there = there
owner_there Q ks (owner.Deck n place) there = is_there-append (λ j. not (in_input j.phase)) Q.jobs ks n there
owner_there Q ks (owner.Output n i place) there = there

pub begin_sound : (Q : Queue) (m : MemberId) (fields : JobFields) → IsSound Q → is_member Q.config m ≡ true → first_some (begin_row Q m fields).refusals ≡ None → IsSound (begin_row Q m fields).effect
begin_sound Q m fields sound member none =
    let n = next_number Q.jobs Q.last in
    let x = new_job m n fields in
    let first = after_right Q.last.0 in
    let right = free_from_right Q.jobs _ (length Q.jobs) first.0 first.1 in
    let room : nat_le Q.config.jobs (length Q.jobs) ≡ false = where_not (nat_le Q.config.jobs (length Q.jobs)) refusal.JobsFull (second_none (refused_where (not (knows_node Q fields.node)) refusal.NoNode) (refused_where (nat_le Q.config.jobs (length Q.jobs)) refusal.JobsFull) [] none) in
    let less : length Q.jobs < Q.config.jobs = below Q.config.jobs (length Q.jobs) room in
    record {
      config = sound.config;
      few_jobs = omega (arith, length-append Q.jobs (x ∷ []), less);
      few_outputs = sound.few_outputs;
      each_group = sound.each_group;
      each_member = sound.each_member;
      few_routes = sound.few_routes;
      each_line = sound.each_line;
      last = right.1;
      members = sound.members;
      jobs = All-push (IsSoundJob Q.config) Q.jobs x sound.jobs (record {
        number = right;
        busy = busy_member (is_somebody m) _ member;
        busy_phase = λ _. refl;
        text = record { few = omega arith; short = All-nil (λ (line : List ℕ). length line ≤ 132); text = All-nil (λ (line : List ℕ). is_text_line line ≡ true) };
        no_cards = λ _. refl;
      });
      decks = All-push (HasDeckGroup Q.owners) Q.jobs x sound.decks (λ some. absurd (omega arith));
      outputs = All-weaker (IsSoundOutput Q.config Q.jobs) (IsSoundOutput Q.config (Q.jobs ++ x ∷ [])) (λ o s. record {
        index = s.index;
        copies = s.copies;
        lines = s.lines;
        job = is_there-append (λ j. may_have_outputs j.phase) Q.jobs (x ∷ []) o.job s.job;
        busy = s.busy;
        text = s.text;
        mark = s.mark;
      }) Q.outputs sound.outputs;
      groups = sound.groups;
      owners = All-weaker (λ g. is_owner_there Q.config Q.jobs Q.outputs g ≡ true) (λ g. is_owner_there Q.config (Q.jobs ++ x ∷ []) Q.outputs g ≡ true) (owner_there Q (x ∷ [])) Q.owners sound.owners;
      numbers = AreDistinct-push (λ a b. same_number a.number b.number) Q.jobs x sound.numbers (next_number_free Q.jobs Q.last (omega (arith, less, sound.config.jobs.1)));
      keys = sound.keys;
      printers = sound.printers;
      places = sound.places;
      no_gaps = sound.no_gaps;
    }
  where
    below : (a b : ℕ) → nat_le a b ≡ false → b < a
    below a b h = elim (leb_tells a b) [ inl w ↦ absurd (let e = w.0 in cc) | inr w ↦ w.1 ]
