-- An entry that a batch gets.
use Rattle.std.proofs.Common.{◌≡◌, ℕ, suc, zero, ◌+◌, ◌-◌, ◌*◌, ◌≤◌, Bool, true, false, List, [], ◌∷◌, ◌++◌, length, slice_get, slice_set, Some, Result, Ok, Err, OnErr, refl, sym, ◌∙◌, ap, subst, arith, All, append-nil}
use Rattle.std.specs.Coded.{Coded-set, coded_bool, coded_list, coded_ℕ}
use Rattle.std.specs.List.{remove}
use Rattle.std.proofs.lemmas.List.{length-append}
use Rattle.std.proofs.lemmas.List.Edits.{remove-append_right}
use Rattle.mas_types.specs.declared.ids.MemberId.{MemberId}
use Rattle.mas_types.specs.declared.ids.Page.{Page}
use Rattle.mas_types.specs.Limits.{page_bytes}
use Rattle.mas_types.specs.declared.commands.Command.{Command}
use Rattle.mas_types.specs.declared.commands.Reply.{Reply}
use Rattle.mas_types.specs.declared.journals.Entry.{Entry}
use Rattle.mas_types.specs.declared.queues.Queue.{Queue}
use Rattle.mas_types.specs.Step.{row_of}
use Rattle.ckpt_copy.specs.Pages.{bytes_of}
use Rattle.ckpt_tables.specs.declared.tables.Tables.{Tables}
use Rattle.ckpt_tables.specs.Shape.{HasSpelling, AreLevels, page_count}
use Rattle.queue_telling.specs.Orders.{HaveOrders}
use Rattle.queue_telling.specs.Telling.{Tell, PagesTell}
use Rattle.queue_indexed.specs.Standing.{AreFit, Plays}
use Rattle.mas_complex.specs.Crash.{next_order}
use Rattle.mas_complex.specs.Meaning.{step, run}
use Rattle.mas_complex.specs.Replies.{HaveReplies}
use Rattle.member_node.specs.declared.checkpoint.Checkpoint.{Checkpoint}
use Rattle.member_node.specs.declared.member.Member.{Member}
use Rattle.member_node.specs.Batches.{HasDone, last_reply}
use Rattle.queue_indexed.specs.KeptIndex.{KeptIndex}
use Rattle.queue_indexed.specs.Behind.{IsKept}
use Rattle.queue_indexed.proofs.CodedSlots.{of_prop}
use Rattle.page_marks.specs.declared.marks.Marks.{Marks}
use Rattle.page_marks.specs.Marks.{is_marked, Touches}
use Rattle.member_node.specs.Drawn.{AreDrawn, AreUnmarkedDrawn}
use Rattle.member_node.specs.Mirrors.{IsMirrorBut}
use Rattle.page_tables.specs.Bringing.{are_orders_low}
use Rattle.member_node.proofs.DrawnLemmas.{drawn_order, drawn_tell}
use Rattle.member_node.proofs.WriteLemmas.{run_append}

-- the last item written anew
pub set_last : {X : Type 0} (xs : List X) (p e : X) (n : ℕ) → n ≡ length xs → slice_set (xs ++ p ∷ []) n e ≡ xs ++ e ∷ []
set_last [] p e zero is = refl
set_last [] p e (suc n) is = absurd (omega (arith, is))
set_last (x ∷ xs) p e zero is = absurd (omega (arith, is))
set_last (x ∷ xs) p e (suc n) is = let rest = set_last xs p e n (omega (arith, is)) in ap (λ (l : List _). x ∷ l) rest

-- a place that is added and then written
pub given_entry : (batch more done : List Entry) (place e : Entry) (at : ℕ) → more ≡ batch ++ place ∷ [] → at ≡ length batch → done ≡ slice_set more at e → done ≡ batch ++ e ∷ []
given_entry batch more done place e at one two three = three ∙ ap (λ (l : List Entry). slice_set l at e) one ∙ set_last batch place e at two

-- a place that is added and then taken away
pub taken_entry : (batch more done : List Entry) (place : Entry) (at : ℕ) → more ≡ batch ++ place ∷ [] → at ≡ length batch → done ≡ remove more at → done ≡ batch
taken_entry batch more done place at one two three =
    let here : at - length batch ≡ 0 = omega (arith, two) in
    three ∙ ap (λ (l : List Entry). remove l at) one ∙ remove-append_right batch (place ∷ []) (length batch) at refl (omega (arith, two))
    ∙ ap (λ (n : ℕ). batch ++ remove (place ∷ []) n) here ∙ append-nil batch

-- the reply to the last entry
pub last_is : (es : List Entry) (e : Entry) (n : ℕ) → n + 1 ≡ length es → slice_get es n ≡ Some e → last_reply es ≡ e.reply
last_is [] e n many here = absurd (omega (arith, many))
last_is (x ∷ []) e zero many here = let same : x ≡ e = cc in ap (λ (y : Entry). y.reply) same
last_is (x ∷ []) e (suc n) many here = absurd (omega (arith, many))
last_is (x ∷ y ∷ es) e zero many here = absurd (omega (arith, many))
last_is (x ∷ y ∷ es) e (suc n) many here = last_is (y ∷ es) e n (omega (arith, many)) here

-- THE COMMANDS DONE

replies_append : (Q : Queue) (es fs : List Entry) → HaveReplies Q es → HaveReplies (run Q es) fs → HaveReplies Q (es ++ fs)
replies_append Q [] fs one two = two
replies_append Q (e ∷ es) fs one two = (one.0, replies_append (step Q e.by e.command).0 es fs one.1 two)

leveled_too : (t u : Tables) (at : ℕ) (levels : List ℕ) → u.config ≡ t.config → AreLevels t at levels → AreLevels u at levels
leveled_too t u at levels same is = record { count = is.count ∙ ap page_count (sym same); first = is.first; each = is.each; most = is.most }

more_orders : (n k o a b c : ℕ) → n ≤ k + 32 * b → k ≤ o + 32 * a → c ≡ a + b → n ≤ o + 32 * c
more_orders n k o a b c one two many = omega (arith, one, two, many)

-- commands more, with their replies
pub all_done : (Q : Queue) (entries more : List Entry) (k n : Checkpoint) → HasDone Q entries k → n.pages ≡ k.pages → n.level ≡ k.level → n.levels ≡ k.levels → n.tables.config ≡ k.tables.config
    → HasSpelling n.tables → AreFit n.tables → HaveOrders n.tables → n.tables.order ≤ k.tables.order + 32 * length more → HaveReplies (run Q entries) more → Tell n.tables (run (run Q entries) more) → HasDone Q (entries ++ more) n
all_done Q entries more k n done pages level levels config spelling fit orders raised replied queue = record {
  pages = subst (λ (ps : List Page). PagesTell ps n.level Q) (sym pages) (subst (λ (l : ℕ). PagesTell k.pages l Q) (sym level) done.pages);
  leveled = leveled_too k.tables n.tables n.level n.levels config (subst (λ (l : ℕ). AreLevels k.tables l n.levels) (sym level) (subst (AreLevels k.tables k.level) (sym levels) done.leveled));
  as_many = ap length pages ∙ done.as_many ∙ ap page_count (sym config);
  sized = subst (All (λ page. length page.0 ≡ page_bytes)) (sym pages) done.sized;
  spelling = spelling;
  fit = fit;
  orders = orders;
  raised = subst (λ (ps : List Page). n.tables.order ≤ next_order (bytes_of ps) + 32 * length (entries ++ more)) (sym pages)
      (more_orders n.tables.order k.tables.order (next_order (bytes_of k.pages)) (length entries) (length more) (length (entries ++ more)) raised done.raised (length-append entries more));
  queue = subst (Tell n.tables) (sym (run_append Q entries more)) queue;
  replied = replies_append Q entries more done.replied replied;
}

-- one command more
pub more_done : (Q : Queue) (entries : List Entry) (k n : Checkpoint) (e : Entry) → HasDone Q entries k → n.pages ≡ k.pages → n.level ≡ k.level → n.levels ≡ k.levels → n.tables.config ≡ k.tables.config
    → HasSpelling n.tables → AreFit n.tables → HaveOrders n.tables → n.tables.order ≤ k.tables.order + 32 → e.reply ≡ (step (run Q entries) e.by e.command).1 → Tell n.tables (step (run Q entries) e.by e.command).0 → HasDone Q (entries ++ e ∷ []) n
more_done Q entries k n e done pages level levels config spelling fit orders raised reply queue = all_done Q entries (e ∷ []) k n done pages level levels config spelling fit orders raised (reply, tt) queue

-- nothing was done yet
pub nothing_done : (Q : Queue) (k : Checkpoint) → AreDrawn k.tables k.level k.levels k.pages → AreFit k.tables → HaveOrders k.tables → Tell k.tables Q → HasDone Q [] k
nothing_done Q k drawn fit orders told = record {
  pages = drawn_tell k.tables k.level k.levels k.pages Q drawn orders told;
  leveled = drawn.leveled;
  as_many = drawn.spelled.count;
  sized = drawn.sized;
  spelling = drawn.spelling;
  fit = fit;
  orders = orders;
  raised = none_more k.tables.order (next_order (bytes_of k.pages)) (drawn_order k.tables k.level k.levels k.pages drawn);
  queue = told;
  replied = tt;
} where
  none_more : (k o : ℕ) → o ≡ k → k ≤ o + 32 * 0
  none_more k o is = omega (arith, is)

-- WHAT WAS PLAYED ON TABLES

pub given_reply : (old new : Tables) (m : MemberId) (c : Command) (r : Reply) → Plays old new (λ Q. row_of Q m c) r → (Q : Queue) → Tell old Q → r ≡ (step Q m c).1
given_reply old new m c r plays Q told = sym (plays Q told).reply

pub given_tells : (old new : Tables) (m : MemberId) (c : Command) (r : Reply) → Plays old new (λ Q. row_of Q m c) r → (Q : Queue) → Tell old Q → Tell new (step Q m c).0
given_tells old new m c r plays Q told = (plays Q told).stands

-- what holds anyway holds after an error
pub err_any : {T E A : Type 0} (r : Result T E) → A → OnErr r A
err_any (Ok x) a = tt
err_any (Err e) a = a

-- NOTHING WAS DONE

unchanged_prop : (marks : List Bool) (t : Tables) (levels : List ℕ) (pages : List Page) → IsProp (AreUnmarkedDrawn marks t levels pages)
unchanged_prop marks t levels pages x y i p lt none = Coded-set (coded_list coded_ℕ) _ _ (x p lt none) (y p lt none) i

mirrored_prop : (marks : List Bool) (room own : List Page) → IsProp (IsMirrorBut marks room own)
mirrored_prop marks room own x y i q from few to1 to2 none = Coded-set (coded_list coded_ℕ) _ _ (x q from few to1 to2 none) (y q from few to1 to2 none) i

ordered_prop : (t : Tables) (fresh : Bool) → IsProp (fresh ≡ false → are_orders_low t ≡ true)
ordered_prop t fresh x y i is = Coded-set coded_bool _ _ (x is) (y is) i

kept_prop : (kept : KeptIndex) (t : Tables) → IsProp (IsKept kept t)
kept_prop kept t x y i is = of_prop kept.index t (x is) (y is) i

abbrev Unchanged : Member → Tables → Marks → Type 0
Unchanged k t marks = AreUnmarkedDrawn marks.pages t k.checkpoint.levels k.checkpoint.pages

abbrev Mirrored : Member → Type 0
Mirrored k = IsMirrorBut k.differ.pages k.room k.checkpoint.pages

abbrev Ordered : Member → Tables → Type 0
Ordered k t = k.fresh ≡ false → are_orders_low t ≡ true

-- the facts of a member's type are the same facts, whoever gave them
pub facts_same : (k : Member) (mirrored : Mirrored k) (unchanged : Unchanged k k.checkpoint.tables k.marks) (ordered : Ordered k k.checkpoint.tables) (indexed : IsKept k.kept k.checkpoint.tables)
    → record k { mirrored = mirrored; unchanged = unchanged; ordered = ordered; indexed = indexed } ≡ k
facts_same k mirrored unchanged ordered indexed =
    ap (λ (u : Unchanged k k.checkpoint.tables k.marks). record k { mirrored = mirrored; unchanged = u; ordered = ordered; indexed = indexed }) (unchanged_prop k.marks.pages k.checkpoint.tables k.checkpoint.levels k.checkpoint.pages unchanged k.unchanged)
    ∙ ap (λ (u : Ordered k k.checkpoint.tables). record k { mirrored = mirrored; ordered = u; indexed = indexed }) (ordered_prop k.checkpoint.tables k.fresh ordered k.ordered)
    ∙ ap (λ (u : IsKept k.kept k.checkpoint.tables). record k { mirrored = mirrored; indexed = u }) (kept_prop k.kept k.checkpoint.tables indexed k.indexed)
    ∙ ap (λ (u : Mirrored k). record k { mirrored = u }) (mirrored_prop k.differ.pages k.room k.checkpoint.pages mirrored k.mirrored)

-- a member with its own tables, batch, marks and index is itself
pub member_same : (k : Member) (t : Tables) (es : List Entry) (marks : Marks) (kept : KeptIndex) (mirrored : Mirrored k) (unchanged : Unchanged k t marks) (ordered : Ordered k t) (indexed : IsKept kept t)
    → t ≡ k.checkpoint.tables → es ≡ k.batch → marks ≡ k.marks → kept ≡ k.kept
    → record k { checkpoint = record k.checkpoint { tables = t }; batch = es; marks = marks; kept = kept; mirrored = mirrored; unchanged = unchanged; ordered = ordered; indexed = indexed } ≡ k
member_same k t es marks kept mirrored unchanged ordered indexed same_tables same_batch same_marks same_kept = at_tables unchanged ordered indexed where
  with_tables : (s : Tables) (m : Marks) (x : KeptIndex) → Unchanged k s m → Ordered k s → IsKept x s → Member
  with_tables s m x w o i = record k { checkpoint = record k.checkpoint { tables = s }; batch = es; marks = m; kept = x; mirrored = mirrored; unchanged = w; ordered = o; indexed = i }

  own : (w : Unchanged k k.checkpoint.tables k.marks) (o : Ordered k k.checkpoint.tables) (i : IsKept k.kept k.checkpoint.tables) → with_tables k.checkpoint.tables k.marks k.kept w o i ≡ k
  own w o i =
      ap (λ (l : List Entry). record k { batch = l; mirrored = mirrored; unchanged = w; ordered = o; indexed = i }) same_batch
      ∙ facts_same k mirrored w o i

  at_kept : (w : Unchanged k k.checkpoint.tables k.marks) (o : Ordered k k.checkpoint.tables) (i : IsKept kept k.checkpoint.tables) → with_tables k.checkpoint.tables k.marks kept w o i ≡ k
  at_kept = subst (λ (x : KeptIndex). (w : Unchanged k k.checkpoint.tables k.marks) (o : Ordered k k.checkpoint.tables) (i : IsKept x k.checkpoint.tables) → with_tables k.checkpoint.tables k.marks x w o i ≡ k) (sym same_kept) own

  at_mark : (w : Unchanged k k.checkpoint.tables marks) (o : Ordered k k.checkpoint.tables) (i : IsKept kept k.checkpoint.tables) → with_tables k.checkpoint.tables marks kept w o i ≡ k
  at_mark = subst (λ (m : Marks). (w : Unchanged k k.checkpoint.tables m) (o : Ordered k k.checkpoint.tables) (i : IsKept kept k.checkpoint.tables) → with_tables k.checkpoint.tables m kept w o i ≡ k) (sym same_marks) at_kept

  at_tables : (w : Unchanged k t marks) (o : Ordered k t) (i : IsKept kept t) → with_tables t marks kept w o i ≡ k
  at_tables = subst (λ (s : Tables). (w : Unchanged k s marks) (o : Ordered k s) (i : IsKept kept s) → with_tables s marks kept w o i ≡ k) (sym same_tables) at_mark

-- pages that commands didn't mark are still those of the tables
pub still_unchanged : (k : Member) (marks : List Bool) (t : Tables) → Touches k.marks.pages marks k.checkpoint.tables t → AreUnmarkedDrawn marks t k.checkpoint.levels k.checkpoint.pages
still_unchanged k marks t touches p lt none = k.unchanged p lt (was (is_marked k.marks.pages p) refl) ∙ sym (touches.alike p none k.checkpoint.levels) where
  was : (b : Bool) → is_marked k.marks.pages p ≡ b → is_marked k.marks.pages p ≡ false
  was true is = let now : is_marked marks p ≡ true = touches.rise p is in absurd (cc)
  was false is = is
