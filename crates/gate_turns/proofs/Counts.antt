-- Printed lines: a member counts its own alone.
use Rattle.std.proofs.Common.{◌≡◌, ◌≢◌, ℕ, Bool, true, false, List, [], length, if◌then◌else◌, refl, subst, ap, ◌∙◌}
use Rattle.std.proofs.lemmas.List.{get_or-set_other}
use Rattle.std.specs.Prelude.{slice_index_or, slice_set, drop}
use Rattle.std.specs.List.{list_any}
use Rattle.mas_types.specs.declared.ids.MemberId.{MemberId}
use Rattle.spool_plant.specs.declared.plant.Act.{Act}
use Rattle.spool_plant.specs.declared.plant.Act.TheVariants.{Done, Failed, Halted}
use Rattle.spool_plant.specs.declared.plant.Part.TheVariants.{Printer}
use Rattle.spool_plant.specs.View.{View, World, Line, disk_now}
use Rattle.spool_plant.specs.Acts.{Goes, Prints}
use Rattle.gate_facts.specs.declared.desks.Group.{Group}
use Rattle.gate_facts.specs.Values.{SyncedGroups}
use Rattle.gate_facts.proofs.Values.{synced_refl}
use Rattle.paper_laws.specs.Counts.{begins_anew}
use Rattle.mas_complex.specs.Journals.{kept_all}
use Rattle.mas_complex.specs.Meaning.{run}
use Rattle.mas_complex.specs.Paper.{counts_of, printed_by}
use Rattle.mas_complex.specs.Parts.{Shown}
use Rattle.gate_turns.specs.Words.{lines_by}
use Rattle.gate_turns.specs.Desks.{kept_pages, no_hold, groups_on}
use Rattle.gate_turns.specs.Shared.{said_since}
use Rattle.gate_turns.specs.Laws.{BatchesLeaveCounts, HasBegun, PrintsMayGoBack}
use Rattle.gate_turns.proofs.Acted.{Spares, counted, whole_texts}

pub batches_leave : BatchesLeaveCounts
batches_leave by entries printed m ne = either (list_any (begins_anew by) entries) where
  either : (b : Bool) → slice_index_or (if b then slice_set printed by.0 0 else printed) m.0 0 ≡ slice_index_or printed m.0 0
  either true = get_or-set_other printed by.0 m.0 0 0 ne
  either false = refl

prints_leave : (by : MemberId) (result : Act) (printed : List ℕ) (m : MemberId) → m.0 ≢ by.0 → counts_of (printed_by by result printed) m ≡ counts_of printed m
prints_leave by Done printed m ne = get_or-set_other printed by.0 m.0 _ 0 ne
prints_leave by Failed printed m ne = refl
prints_leave by Halted printed m ne = refl

-- the console and the devices stay as they are
pub same_lines : (x : Shown) (view : View) (by k : ℕ) (line : List ℕ) (result : Act) → Goes x.view view → Prints by line x.view view result → HasBegun x
    → lines_by x.base.config.members k (said_since x.since view) ≡ lines_by x.base.config.members k (said_since x.since x.view)
same_lines x view by k line result goes prints before =
    ap (λ (w : World). lines_by x.base.config.members k (whole_texts (drop (length w.console) (view.world view.now).console))) (goes.past x.since before.0)
    ∙ ap (λ (ls : List Line). lines_by x.base.config.members k (whole_texts (drop (length (x.view.world x.since).console) ls))) prints.console

printed_spares : (x : Shown) (view : View) (by : MemberId) (line : List ℕ) (result : Act) (told : Bool) → Goes x.view view → (told ≡ true → Prints by.0 line x.view view result) → (told ≡ true → HasBegun x) → Spares told x view by.0
printed_spares x view by line result false goes prints before = record { lines = λ k ne. refl; pages = refl; groups = λ k ne. tt }
printed_spares x view by line result true goes prints before = record {
  lines = λ k ne. same_lines x view by.0 k.0 line result goes (prints refl) (before refl);
  pages = λ i. kept_pages x.reads x.level x.first_alive x.second_alive (λ d. (prints refl).disks d i);
  groups = λ k ne. same_groups (groups_on (disk_now view) x.base.config.groups k (run x.base (kept_all x.batches)).owners) (groups_on (disk_now x.view) x.base.config.groups k (run x.base (kept_all x.batches)).owners)
      (λ i. groups_on (λ d. (prints refl).disks d i) x.base.config.groups k (run x.base (kept_all x.batches)).owners);
} where
  same_groups : (a b : List Group) → a ≡ b → SyncedGroups a b
  same_groups a b e = subst (λ c. SyncedGroups a c) e (synced_refl (record { hold = no_hold; printed = 0; told = 0; groups = a; noted = [] })).groups

pub prints_may : PrintsMayGoBack
prints_may x view by line result told cares acts prints before mine =
    counted x view (printed_by by result x.printed) by (Printer by) result acts told cares mine (printed_spares x view by line result told acts.goes prints before) (prints_leave by result x.printed)
