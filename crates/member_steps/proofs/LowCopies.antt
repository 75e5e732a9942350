-- The queue after the kept batches has the sound parts, and copies that stand for it read as low tables of it.
use Rattle.std.proofs.Common.{◌≡◌, ℕ, ◌+◌, ◌*◌, ◌≤◌, Bool, true, List, ◌++◌, append-nil, length, All, Option, Some, None, sym, ◌∙◌, ap, subst}
use Rattle.std.proofs.lemmas.Option.{same_Some as some_same}
use Rattle.std.proofs.Math.Logic.{∥∥₁_map}
use Rattle.mas_types.specs.declared.ids.Page.{Page}
use Rattle.mas_types.specs.declared.journals.Batch.{Batch}
use Rattle.mas_types.specs.declared.journals.Entry.{Entry}
use Rattle.mas_types.specs.declared.queues.Queue.{Queue}
use Rattle.mas_types.specs.Limits.{page_bytes}
use Rattle.mas_types.specs.Run.{run}
use Rattle.mas_types.specs.Sound.{IsSound}
use Rattle.mas_complex.proofs.Papers.{given_kept_all}
use Rattle.queue_laws.proofs.RunLaws.{runs_keep_configuration, runs_keep_sound}
use Rattle.ckpt_copy.specs.Pages.{bytes_of}
use Rattle.ckpt_tables.specs.declared.tables.Tables.{Tables}
use Rattle.ckpt_pages.specs.Checkpoints.{IsCheckpoint}
use Rattle.ckpt_pages.proofs.DecodingLemmas.{one_value}
use Rattle.queue_telling.specs.Orders.{HaveOrders}
use Rattle.queue_telling.specs.Telling.{Tell}
use Rattle.member_node.proofs.OrderLemmas.{orders_are}
use Rattle.member_node.proofs.SoundTables.{told_are_sound}
use Rattle.member_node.proofs.LawLemmas.{sound_fit}
use Rattle.mas_complex.proofs.Found.{order_spelled}
use Rattle.mas_complex.specs.Crash.{next_order, order_first, orders_most}
use Rattle.mas_complex.specs.Journals.{in_flight, kept_all}
use Rattle.mas_complex.specs.Meaning.{StandFor}
use Rattle.mas_complex.specs.Paper.{AreGivenIn}
use Rattle.member_node.proofs.ReadLemmas.{same_pages}
use Rattle.member_node.specs.Reads.{ReadsLow, orders_after}
use Rattle.member_steps.proofs.Codes.{tell_is}
use Rattle.member_steps.specs.Steps.{IsToldSound}
use Rattle.member_steps.proofs.SoundQueues.{sound_is}

-- THE QUEUE

-- entries that may be given leave the sound parts
pub kept_sound : (base : Queue) (bs : List Batch) (c : Option Batch) → c ≡ None → IsSound base → ∥ AreGivenIn base (bs ++ in_flight c) ∥₁ → IsSound (run base (kept_all bs))
kept_sound base bs c none sound given =
    let same : bs ++ in_flight c ≡ bs = ap (λ (o : Option Batch). bs ++ in_flight o) none ∙ append-nil bs in
    sound_is (run base (kept_all bs)) (∥∥₁_map given (λ g. runs_keep_sound base (kept_all bs) sound (given_kept_all base bs (subst (λ (l : List Batch). AreGivenIn base l) same g))))

pub sound_told : (Q : Queue) → IsSound Q → IsToldSound Q
sound_told Q sound t told = record { queue = Q; told = told; sound = sound }

-- WHAT A COPY READS

-- pages that stand for a queue are spelled by tables that tell it
module _ (Q : Queue) (found : List ℕ) (s : StandFor Q found) (pages : List Page) (u : Tables) (sized : All (λ page. length page.0 ≡ page_bytes) pages) (same : found ≡ bytes_of pages) (is : IsCheckpoint pages u) where
  pages_are : s.pages ≡ pages
  pages_are = same_pages s.pages pages s.sized sized (s.joined ∙ same)

  own : IsCheckpoint s.pages s.tell.tables
  own = record { level = s.level; levels = s.tell.levels; fit = s.tell.fit; ages = s.tell.ages; spell = s.tell.spell }

  tables_are : s.tell.tables ≡ u
  tables_are = one_value pages s.tell.tables u (subst (λ (ps : List Page). IsCheckpoint ps s.tell.tables) pages_are own) is

  spelled_tell : Tell u Q
  spelled_tell = subst (λ (t : Tables). Tell t Q) tables_are s.tell.tell

  spelled_orders : HaveOrders u
  spelled_orders = subst HaveOrders tables_are s.tell.orders

pub low_found : (told : Type 0) (alive : Bool) (base : Queue) (es : List Entry) (n : ℕ) (found : List ℕ) (read : Option (List ℕ)) → (told → IsSound (run base es)) → (told → ∥ StandFor (run base es) found ∥₁)
    → next_order found ≤ order_first + orders_most * n → (told → alive ≡ true → read ≡ Some found) → ReadsLow told alive base.config n read
low_found told alive base es n found read sound stands low reads t on pages u sized is spelled =
    let Q = run base es in
    let same : found ≡ bytes_of pages = some_same found (bytes_of pages) (sym (reads t on) ∙ is) in
    let tell : Tell u Q = tell_is u Q (∥∥₁_map (stands t) (λ s. spelled_tell Q found s pages u sized same spelled)) in
    let orders : HaveOrders u = orders_are u (∥∥₁_map (stands t) (λ s. spelled_orders Q found s pages u sized same spelled)) in
    record {
      same = sym tell.config ∙ (runs_keep_configuration base es).config;
      fit = sound_fit u spelled.fit.shape (told_are_sound u Q tell (sound t) orders);
      order = subst (λ (k : ℕ). k ≤ orders_after n) (order_spelled u spelled.levels pages spelled.fit spelled.spell sized) (subst (λ (bs : List ℕ). next_order bs ≤ orders_after n) same low);
    }
