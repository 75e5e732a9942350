-- How many groups texts take, and the places of outputs.
use Rattle.std.proofs.Common.{◌≡◌, ℕ, ◌+◌, ◌<◌, ◌≤◌, List, [], ◌∷◌, ◌++◌, length, get_or, drop, refl, ap, sym, ◌∙◌, append_assoc, length-append}
use Rattle.std.proofs.lemmas.Bool.{le-leb, lt-leb}
use Rattle.std.proofs.lemmas.List.Sums.{sum_by-cons}
use Rattle.mas_types.specs.declared.ids.JobNo.{JobNo}
use Rattle.mas_types.specs.declared.jobs.OutSpec.{OutSpec}
use Rattle.mas_types.specs.declared.jobs.Output.{Output}
use Rattle.mas_types.specs.declared.queues.Owner.{Owner}
use Rattle.mas_types.specs.declared.queues.Owner.TheVariants as owner
use Rattle.mas_types.specs.Owners.{groups_after, groups_needed, output_places}
use Rattle.mas_types.specs.Commands.Life.{groups_of_outputs, new_output, new_outputs, places_of_outputs}
use Rattle.queue_laws.proofs.HandedOut.{length-places}
use Rattle.model_queue.proofs.Writes.{drop_here}

-- a line that fits the present group
pub groups_after-fits : (used : ℕ) (line : List ℕ) (lines : List (List ℕ)) → used + length line + 2 ≤ 4096 → groups_after used (line ∷ lines) ≡ groups_after (used + length line + 1) lines
groups_after-fits used line lines h = rw (le-leb (used + length line + 2) 4096 h) refl

-- one that doesn't
pub groups_after-over : (used : ℕ) (line : List ℕ) (lines : List (List ℕ)) → 4096 < used + length line + 2 → groups_after used (line ∷ lines) ≡ 1 + groups_after (length line + 1) lines
groups_after-over used line lines h = rw (lt-leb (used + length line + 2) 4096 h) refl

pub length-places_of_outputs : (n : JobNo) (i : ℕ) (specs : List OutSpec) → length (places_of_outputs n i specs) ≡ groups_of_outputs specs
length-places_of_outputs n i [] = refl
length-places_of_outputs n i (s ∷ specs) =
    length-append (output_places n (record { 0 = i }) (groups_needed s.text)) (places_of_outputs n (i + 1) specs)
    ∙ rw (length-places (λ p. owner.Output n (record { 0 = i }) p) 0 (groups_needed s.text), length-places_of_outputs n (i + 1) specs) (sym (sum_by-cons (λ s. groups_needed s.text) s specs))

module _ (n : JobNo) (specs : List OutSpec) (k : ℕ) (s : OutSpec) (inside : k < length specs) (is : s ≡ get_or specs k s) where
  left : drop k specs ≡ s ∷ drop (k + 1) specs
  left = drop_here specs k inside s ∙ ap (λ (x : OutSpec). x ∷ drop (k + 1) specs) (sym is)

  -- the places of one output more
  pub output_places_more : (i : ℕ) (front all : List Owner) → front ++ places_of_outputs n i (drop k specs) ≡ all
      → (front ++ output_places n (record { 0 = i }) (groups_needed s.text)) ++ places_of_outputs n (i + 1) (drop (k + 1) specs) ≡ all
  output_places_more i front all so_far =
      append_assoc front (output_places n (record { 0 = i }) (groups_needed s.text)) (places_of_outputs n (i + 1) (drop (k + 1) specs)) ∙ rw left at so_far

  -- one output more
  pub outputs_more : (i : ℕ) (front all : List Output) → front ++ new_outputs n i (drop k specs) ≡ all
      → (front ++ new_output n i s ∷ []) ++ new_outputs n (i + 1) (drop (k + 1) specs) ≡ all
  outputs_more i front all so_far = append_assoc front (new_output n i s ∷ []) (new_outputs n (i + 1) (drop (k + 1) specs)) ∙ rw left at so_far
