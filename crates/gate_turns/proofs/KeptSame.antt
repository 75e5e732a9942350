-- A value in which a member kept a batch without a write may be given back.
use Rattle.std.proofs.Common.{◌≡◌, ◌≢◌, ℕ, ◌+◌, ◌⊎◌, Bool, true, false, List, [], ◌∷◌, ◌++◌, None, refl, sym, ap, subst, ◌∙◌, inl, append_assoc, arith}
use Rattle.std.proofs.Math.Logic.{∥∥₁_elim}
use Rattle.std.proofs.lemmas.Bool.{ne_eqb}
use Rattle.std.proofs.lemmas.List.{append-nil}
use Rattle.std.proofs.lemmas.List.Elements.{All-head, All-tail}
use Rattle.std.specs.Prelude.{if◌then◌else◌, All}
use Rattle.mas_types.specs.declared.ids.MemberId.{MemberId}
use Rattle.mas_types.specs.declared.journals.Batch.{Batch}
use Rattle.mas_types.specs.declared.journals.Entry.{Entry}
use Rattle.mas_types.specs.declared.journals.Fate.TheVariants.{Kept}
use Rattle.mas_types.specs.declared.queues.Queue.{Queue}
use Rattle.mas_types.specs.Ids.{same_member}
use Rattle.mas_types.specs.Journal.{is_kept}
use Rattle.gate_facts.specs.declared.desks.Desk.{Desk}
use Rattle.gate_facts.specs.declared.desks.Group.{Group}
use Rattle.gate_facts.specs.Values.{marked_at, no_desk, stopped_of, SyncedGroups, Synced}
use Rattle.gate_facts.specs.Memory.{EachOf}
use Rattle.gate_facts.proofs.Lists.{true_false}
use Rattle.gate_facts.proofs.Values.{synced_refl, later_refl}
use Rattle.spool_plant.specs.View.{disk_now}
use Rattle.mas_complex.specs.Journals.{kept_all, in_flight, begun, fated, with_last, EndsInPlace}
use Rattle.mas_complex.specs.Meaning.{run}
use Rattle.mas_complex.proofs.Batches.{kept_all_append, with_last-append}
use Rattle.gate_turns.specs.Seats.{has_lock}
use Rattle.gate_turns.specs.Desks.{no_hold, groups_on}
use Rattle.gate_turns.specs.Shared.{begun_by, pages_had, groups_of, desk_in, marks_of, facts_of}
use Rattle.gate_turns.specs.Laws.{with_kept, KeepsMayGoBack}
use Rattle.mas_complex.proofs.Basics.{entries_set}
use Rattle.gate_turns.proofs.Counts.{batches_leave}
use Rattle.gate_turns.proofs.Seats.{each_seat}
use Rattle.gate_turns.proofs.BookLemmas.{holder_is}
use Rattle.gate_turns.proofs.Booked.{same_hold}

pub begun_append : (m : MemberId) (js ks : List Batch) → begun_by m (js ++ ks) ≡ begun_by m js ++ begun_by m ks
begun_append m [] ks = refl
begun_append m (b ∷ js) ks = ap (λ es. (if same_member b.by m then b.entries else []) ++ es) (begun_append m js ks) ∙ sym (append_assoc (if same_member b.by m then b.entries else []) (begun_by m js) (begun_by m ks))

-- a journal whose last place is taken by a batch that is kept
module _ (b : Batch) (kept : b.fate ≡ Kept) (js : List Batch) (ends : ∥ EndsInPlace js ∥₁) where
  pub kept_more : kept_all (with_last b js) ≡ kept_all js ++ b.entries
  kept_more = ∥∥₁_elim ends (entries_set (kept_all (with_last b js)) (kept_all js ++ b.entries)) (λ p.
      ap (λ l. kept_all (with_last b l)) p.is
      ∙ (ap kept_all (with_last-append b p.before p.place)
      ∙ (kept_all_append p.before (b ∷ [])
      ∙ (ap (λ f. kept_all p.before ++ ((if is_kept f then b.entries else []) ++ [])) kept
      ∙ (ap (λ es. kept_all p.before ++ es) (append-nil b.entries)
      ∙ sym (ap (λ es. es ++ b.entries) (ap kept_all p.is ∙ (kept_all_append p.before (p.place ∷ []) ∙ (ap (λ f. kept_all p.before ++ ((if is_kept f then p.place.entries else []) ++ [])) p.free.dropped ∙ append-nil (kept_all p.before))))))))))

  -- the entries that another member began
  begun_same : (m : MemberId) (ks : List Batch) → m.0 ≢ b.by.0 → begun_by m (with_last b js ++ ks) ≡ begun_by m (js ++ ks)
  begun_same m ks ne = ∥∥₁_elim ends (entries_set (begun_by m (with_last b js ++ ks)) (begun_by m (js ++ ks))) (λ p.
      begun_append m (with_last b js) ks
      ∙ (ap (λ es. es ++ begun_by m ks)
      (ap (λ l. begun_by m (with_last b l)) p.is
      ∙ (ap (begun_by m) (with_last-append b p.before p.place)
      ∙ (begun_append m p.before (b ∷ [])
      ∙ (ap (λ z. begun_by m p.before ++ ((if z then b.entries else []) ++ [])) (ne_eqb b.by.0 m.0 (λ e. ne (sym e)))
      ∙ sym (ap (begun_by m) p.is ∙ (begun_append m p.before (p.place ∷ []) ∙ ap (λ es. begun_by m p.before ++ (es ++ [])) (none (same_member p.place.by m) p.place.entries p.free.empty)))))))
      ∙ sym (begun_append m js ks))) where
        none : (z : Bool) (es : List Entry) → es ≡ [] → (if z then es else []) ≡ []
        none true es e = e
        none false es e = refl

pub own_each : (by : MemberId) (stopped : Entry → Type 0) (es : List Entry) → All (λ e. e.by ≡ by) es → EachOf (λ e. (e.by.0 ≡ by.0) ⊎ stopped e) es
own_each by stopped [] all = tt
own_each by stopped (e ∷ es) all = (inl (ap (λ (m : MemberId). m.0) (All-head (λ (d : Entry). d.by ≡ by) e es all)), own_each by stopped es (All-tail (λ (d : Entry). d.by ≡ by) e es all))

pub same_groups : (a b : List Group) → a ≡ b → SyncedGroups a b
same_groups a b e = subst (λ c. SyncedGroups a c) e (synced_refl (record { hold = no_hold; printed = 0; told = 0; groups = a; noted = [] })).groups

pub keeps_may : KeepsMayGoBack
keeps_may x by now entries told cares reserved own none ends holds same mine =
    let b : Batch = fated Kept now (begun now by entries) in
    let more : kept_all (with_last b x.batches) ≡ kept_all x.batches ++ entries = kept_more b refl x.batches ends in
    record {
      base = refl;
      kept = (entries, more, own_each by (λ (e : Entry). stopped_of (facts_of told (with_kept x now by entries)) e.by.0 ≡ true) entries own);
      still_stopped = λ k e. e;
      still_up = λ k ne e. e;
      begun = λ k e. each_seat (λ p q. p ≡ q) (λ m. begun_by m (with_last b x.batches ++ in_flight x.current)) (λ m. begun_by m (x.batches ++ in_flight x.current)) [] refl 0 9 k
          (λ s at lt. begun_same b refl x.batches ends s (in_flight x.current) (other k s (not_own k e) at));
      lines = λ k e. refl;
      desks = λ k ne up. each_seat (λ (d e : Desk). Synced d e) (desk_in told (with_kept x now by entries)) (desk_in told x) no_desk (synced_refl no_desk) 0 9 k (λ s at lt. record {
        hold = same_hold (pages_had told x) x.current x.first x.second (has_lock x.book s) (has_lock x.book s) None x.reserved refl
            (λ has. absurd (other k s ne at (sym (holder_is x.book s has) ∙ ap (λ (m : MemberId). m.0) holds)));
        printed = batches_leave by entries x.printed s (other k s ne at);
        told = refl;
        groups = calm told s (λ t. ap (run x.base) more ∙ same t);
        noted = refl;
      });
      other_stops = λ k e. refl;
      other_loses = λ none d. inl refl;
      marks = later_refl [] (marks_of x);
    } where
      not_own : (k : ℕ) → marked_at cares k ≡ false → k ≢ by.0
      not_own k e same = true_false (marked_at cares k) (ap (marked_at cares) same ∙ mine) e

      other : (k : ℕ) (s : MemberId) → k ≢ by.0 → s.0 ≡ 0 + k → s.0 ≢ by.0
      other k s ne at same = ne (zero_on k ∙ (sym at ∙ same)) where
        zero_on : (n : ℕ) → n ≡ 0 + n
        zero_on n = omega arith

      calm : (z : Bool) (s : MemberId) → (z ≡ true → run x.base (kept_all (with_last (fated Kept now (begun now by entries)) x.batches)) ≡ run x.base (kept_all x.batches))
          → SyncedGroups (groups_of z (with_kept x now by entries) s) (groups_of z x s)
      calm false s q = tt
      calm true s q = same_groups (groups_of true (with_kept x now by entries) s) (groups_of true x s) (ap (λ (Q : Queue). groups_on (disk_now x.view) x.base.config.groups s Q.owners) (q refl))
