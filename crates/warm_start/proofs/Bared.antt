-- Tables tell their queue without its texts.
use Rattle.std.proofs.Common.{◌≡◌, ℕ, ◌==◌, Bool, true, false, List, [], ◌∷◌, All, refl, sym}
use Rattle.std.proofs.lemmas.Bool.{eqb-true}
use Rattle.std.proofs.lemmas.List.Elements.{All-nil, All-cons}
use Rattle.mas_types.specs.Queue.{line_count}
use Rattle.lay_bytes.specs.declared.records.JobRec.{JobRec}
use Rattle.lay_bytes.specs.declared.records.OutRec.{OutRec}
use Rattle.ckpt_tables.specs.declared.tables.Tables.{Tables}
use Rattle.lay_bytes.specs.Used.{used}
use Rattle.ckpt_pages.specs.QueueOf.{queue_of}
use Rattle.queue_telling.specs.Telling.{Tell}
use Rattle.queue_tables.proofs.ToldLemmas.{tell_given}
use Rattle.warm_start.specs.Bare.{bare_text, bare_deck, bare_print}

bare_lines : (n : ℕ) → line_count (bare_text n) ≡ n
bare_lines n = by_test (n == 0) refl where
  by_test : (b : Bool) → (n == 0) ≡ b → line_count (bare_text n) ≡ n
  by_test true e = rw e (sym (eqb-true n 0 e))
  by_test false e = rw e refl

pub bare_told : (t : Tables) → Tell t (queue_of t bare_deck bare_print)
bare_told t = tell_given t bare_deck bare_print (record { decks = decks (used t.jobs); prints = prints (used t.outputs) }) where
  decks : (rs : List JobRec) → All (λ r. line_count (bare_deck r) ≡ r.cards) rs
  decks [] = All-nil (λ r. line_count (bare_deck r) ≡ r.cards)
  decks (r ∷ rs) = All-cons (λ s. line_count (bare_deck s) ≡ s.cards) r rs (bare_lines r.cards) (decks rs)

  prints : (rs : List OutRec) → All (λ r. line_count (bare_print r) ≡ r.lines) rs
  prints [] = All-nil (λ r. line_count (bare_print r) ≡ r.lines)
  prints (r ∷ rs) = All-cons (λ s. line_count (bare_print s) ≡ s.lines) r rs (bare_lines r.lines) (prints rs)
