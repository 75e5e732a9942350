-- The lines of one step tell no later one, whoever's it is.
use Rattle.std.proofs.Common.{◌≡◌, ℕ, suc, ◌<◌, ◌≤◌, ◌^◌, ◌==◌, ◌&&◌, Bool, true, false, List, [], ◌∷◌, ◌++◌, codes, drop, length, map, take, All, Option, Some, None, refl, sym, ◌∙◌, ap, subst, arith, ◌||◌}
use Rattle.std.proofs.lemmas.Bool.{eqb-true}
use Rattle.std.proofs.lemmas.List.Elements.{All-head, All-tail}
use Rattle.mas_types.specs.declared.answers.Closing.{Closing}
use Rattle.mas_types.specs.declared.answers.Closing.TheVariants as closing
use Rattle.mas_types.specs.declared.commands.Reply.{Reply}
use Rattle.mas_types.specs.declared.commands.Reply.TheVariants as reply
use Rattle.mas_types.specs.declared.ids.MemberId.{MemberId}
use Rattle.mas_types.specs.declared.journals.Entry.{Entry}
use Rattle.mas_types.specs.Limits.{steps_most}
use Rattle.mas_types.specs.Closings.{closing_line, closing_text, detail_lines, reply_lines}
use Rattle.mas_types.specs.Ids.{same_member}
use Rattle.mas_types.specs.declared.queues.Queue.{Queue}
use Rattle.spool_plant.specs.View.{Line, View}
use Rattle.spool_plant.specs.declared.plant.Plant.{Ghosts as PlantGhosts}
use Rattle.ckpt_copy.specs.declared.copying.Copying.{Ghosts as CopyGhosts}
use Rattle.mas_complex.specs.Crash.{EachTells, IsUntold, setting}
use Rattle.mas_complex.specs.Journals.{has_step}
use Rattle.mas_complex.specs.Meaning.{Closes}
use Rattle.mas_complex.specs.Parts.{Parts}
use Rattle.member_lines.proofs.Earlier.{line_of, same_step}
use Rattle.member_node.specs.Calls.{console_now}
use Rattle.member_sittings.specs.Whole.{HasUntold}
use Rattle.run_turns.specs.Cuts.{Left, adds, adds_all, adds_first, broken, left_by, lines_cut, none_left, torn, whole}
use Rattle.run_turns.specs.Pieces.{Piece, Play}
use Rattle.run_turns.specs.Sights.{Cut, Halt, Saying, Waiting, Writing}

by_test : {A : Type 0} (b : Bool) → (b ≡ true → A) → (b ≡ false → A) → A
by_test true f g = f refl
by_test false f g = g refl

-- LINES OF A STEP: each has its member's name, its number, and something after it

abbrev pub AreOfStep : MemberId → ℕ → List (List ℕ) → Type 0
AreOfStep by at [] = Unit {0}
AreOfStep by at (l ∷ ls) = ((rest : List ℕ) × (l ≡ line_of by at rest)) × AreOfStep by at ls

pub both_of : (by : MemberId) (at : ℕ) (xs ys : List (List ℕ)) → AreOfStep by at xs → AreOfStep by at ys → AreOfStep by at (xs ++ ys)
both_of by at [] ys one two = two
both_of by at (x ∷ xs) ys one two = (one.0, both_of by at xs ys one.1 two)

pub some_of : (by : MemberId) (at n : ℕ) (xs : List (List ℕ)) → AreOfStep by at xs → AreOfStep by at (take n xs)
some_of by at ℕ.zero xs are = tt
some_of by at (suc n) [] are = tt
some_of by at (suc n) (x ∷ xs) are = (are.0, some_of by at n xs are.1)

pub closing_of : (by : MemberId) (at : ℕ) (end : Closing) → AreOfStep by at (closing_line by at end ∷ [])
closing_of by at end = ((closing_text end, refl), tt)

details_of : (by : MemberId) (at : ℕ) (shown : List (List ℕ)) → AreOfStep by at (detail_lines by at shown)
details_of by at [] = tt
details_of by at (text ∷ shown) = ((codes "-" ++ 32 ∷ text, refl), details_of by at shown)

pub reply_of : (by : MemberId) (at : ℕ) (r : Reply) → AreOfStep by at (reply_lines by at r)
reply_of by at reply.Plain = closing_of by at (closing.Reply reply.Plain)
reply_of by at (reply.Job job) = closing_of by at (closing.Reply (reply.Job job))
reply_of by at (reply.Output job index) = closing_of by at (closing.Reply (reply.Output job index))
reply_of by at (reply.Count n) = closing_of by at (closing.Reply (reply.Count n))
reply_of by at (reply.No why) = closing_of by at (closing.Reply (reply.No why))
reply_of by at (reply.Shown shown) = both_of by at (detail_lines by at shown) (closing_line by at (closing.Reply (reply.Shown shown)) ∷ [])
    (details_of by at shown) (closing_of by at (closing.Reply (reply.Shown shown)))

-- the lines of pieces
abbrev pub EachSays : MemberId → ℕ → List Piece → Type 0
EachSays by at [] = Unit {0}
EachSays by at (p ∷ ps) = AreOfStep by at p.sitting.lines × EachSays by at ps

-- THEY TELL NO LATER STEP

module _ (by : MemberId) (at k : ℕ) (less : at < k) (small : k < 2 ^ 64) (es : List Entry) (of : All (λ (e : Entry). e.step ≡ k) es) where
  abbrev Later : List Line → Type 0
  Later ls = EachTells Closes ls (λ m s. has_step m s es ≡ false)

  skips : (z w rest : Bool) → w ≡ false → rest ≡ false → ((z && w) || rest) ≡ false
  skips true true rest is more = absurd (cc)
  skips true false rest is more = more
  skips false w rest is more = more

  none_in : (rest : List ℕ) (m : MemberId) (s : ℕ) → Closes (line_of by at rest) m s → (fs : List Entry) → All (λ (e : Entry). e.step ≡ k) fs → has_step m s fs ≡ false
  none_in rest m s closes [] are = refl
  none_in rest m s closes (e ∷ fs) are =
      let here : e.step ≡ k = All-head (λ (f : Entry). f.step ≡ k) e fs are in
      let other : (e.step == s) ≡ false = by_test (e.step == s)
      (λ is. absurd (let number : s ≡ k = sym (eqb-true e.step s is) ∙ here in
      let same : at ≡ s = same_step by m at s rest (closing_text closes.end) (omega (arith, less, small)) (omega (arith, number, small)) closes.is in
      omega (arith, number, same, less)))
      (λ is. is) in
      skips (same_member e.by m) (e.step == s) (has_step m s fs) other (none_in rest m s closes fs (All-tail (λ (f : Entry). f.step ≡ k) e fs are))

  pub whole_later : (ls : List (List ℕ)) → AreOfStep by at ls → Later (map whole ls)
  whole_later [] are = tt
  whole_later (l ∷ ls) are = (
    (λ is m s closes. none_in are.0.0 m s (subst (λ (x : List ℕ). Closes x m s) are.0.1 closes) es of),
    whole_later ls are.1,
  )

  pub both_later : (xs ys : List Line) → Later xs → Later ys → Later (xs ++ ys)
  both_later [] ys one two = two
  both_later (x ∷ xs) ys one two = (one.0, both_later xs ys one.1 two)

  -- a torn line tells nothing
  torn_later : (tail : Option (List ℕ)) (ls : List (List ℕ)) → Later (torn tail ls)
  torn_later None ls = tt
  torn_later (Some text) [] = tt
  torn_later (Some text) (l ∷ ls) = ((λ is m s closes. absurd (torn_whole is)), tt) where
    torn_whole : false ≡ true → ⊥
    torn_whole e = absurd (cc)

  pub broken_later : (n : ℕ) (tail : Option (List ℕ)) (ls : List (List ℕ)) → AreOfStep by at ls → Later (broken n tail ls)
  broken_later n tail ls are = both_later (map whole (take n ls)) (torn tail (drop n ls)) (whole_later (take n ls) (some_of by at n ls are)) (torn_later tail (drop n ls))

  -- WHAT A LINE LEAVES on the console, of pieces whose lines are of its step

  each_first : (n : ℕ) (ps : List Piece) → EachSays by at ps → EachSays by at (take n ps)
  each_first ℕ.zero ps each = tt
  each_first (suc n) [] each = tt
  each_first (suc n) (p ∷ ps) each = (each.0, each_first n ps each.1)

  each_rest : (n : ℕ) (ps : List Piece) → EachSays by at ps → EachSays by at (drop n ps)
  each_rest ℕ.zero ps each = each
  each_rest (suc n) [] each = tt
  each_rest (suc n) (p ∷ ps) each = each_rest n ps each.1

  module _ (locked : Bool) where
    all_later : (ps : List Piece) (l : Left) → Later l.lines → EachSays by at ps → Later (adds_all by locked l ps).lines
    all_later [] l so each = so
    all_later (p ∷ ps) l so each = all_later ps (adds by locked l p)
        (both_later l.lines (map whole p.sitting.lines) so (whole_later p.sitting.lines each.0)) each.1

    cut_later : (halt : Halt) (ls : List (List ℕ)) → AreOfStep by at ls → Later (lines_cut by halt ls)
    cut_later (Writing n b) ls are = tt
    cut_later (Saying n tail) ls are = broken_later n tail ls are
    cut_later (Waiting n tail) ls are = tt

    first_later : (halt : Halt) (ps : List Piece) (l : Left) → Later l.lines → EachSays by at ps → Later (adds_first by locked halt l ps).lines
    first_later halt [] l so each = so
    first_later halt (p ∷ ps) l so each = both_later l.lines (lines_cut by halt p.sitting.lines) so (cut_later halt p.sitting.lines each.0)

  pub left_later : (cut : Option Cut) (play : Play) (count : ℕ) → EachSays by at play.pieces → Later (left_by by cut play count).lines
  left_later None play count each = all_later play.locked play.pieces (none_left by play.book count) tt each
  left_later (Some cut) play count each = first_later play.locked cut.halt (drop cut.sittings play.pieces) _
      (all_later play.locked (take cut.sittings play.pieces) (none_left by play.book count) tt (each_first cut.sittings play.pieces each))
      (each_rest cut.sittings play.pieces each)

-- THE CONSOLE after a line: a step that was untold is, if none of the line's lines tells it

module _ (es : List Entry) where
  abbrev pub Untells : List Line → Type 0
  Untells ls = EachTells Closes ls (λ m s. has_step m s es ≡ false)

  untells_both : (xs ys : List Line) → Untells xs → Untells ys → Untells (xs ++ ys)
  untells_both [] ys one two = two
  untells_both (x ∷ xs) ys one two = (one.0, untells_both xs ys one.1 two)

  untells_rest : (n : ℕ) (ls : List Line) → Untells ls → Untells (drop n ls)
  untells_rest ℕ.zero ls each = each
  untells_rest (suc n) [] each = tt
  untells_rest (suc n) (l ∷ ls) each = untells_rest n ls each.1

  untells_more : (n : ℕ) (xs ys : List Line) → Untells (drop n xs) → Untells ys → Untells (drop n (xs ++ ys))
  untells_more ℕ.zero xs ys one two = untells_both xs ys one two
  untells_more (suc n) [] ys one two = untells_rest (suc n) ys two
  untells_more (suc n) (x ∷ xs) ys one two = untells_more n xs ys one two

  pub untold_more : (reads : List ℕ → Option (List ℕ)) (base : Queue) (since : ℕ) (v w : View) (ls : List Line) → since ≤ v.now → ((t : ℕ) → t ≤ v.now → w.world t ≡ v.world t)
      → console_now w ≡ console_now v ++ ls → Untells ls → IsUntold (setting reads base since) v es → IsUntold (setting reads base since) w es
  untold_more reads base since v w ls le past is each untold =
      let said : drop (length (w.world since).console) (console_now w) ≡ drop (length (v.world since).console) (console_now v ++ ls) =
      ap (λ (l : List Line). drop (length (w.world since).console) l) is ∙ ap (λ x. drop (length x.console) (console_now v ++ ls)) (past since le) in
      subst Untells (sym said) (untells_more (length (v.world since).console) (console_now v) ls untold each)

-- lines that tell no step after this one
abbrev pub TellNone : ℕ → List Line → Type 0
TellNone at ls = (k : ℕ) → at < k → k ≤ steps_most → (es : List Entry) → All (λ (e : Entry). e.step ≡ k) es → Untells es ls

pub left_tells : (by : MemberId) (at : ℕ) (cut : Option Cut) (play : Play) (count : ℕ) → EachSays by at play.pieces → TellNone at (left_by by cut play count).lines
left_tells by at cut play count each = λ k less small es of. left_later by at k less (omega (arith, small)) es of cut play count each

-- so no later step of a member is told, once a line of an earlier step was said
module _ {P C : Type 0} (plants : PlantGhosts P) (copies : CopyGhosts C) (x y : Parts P C) (base : y.base ≡ x.base) (since : y.since ≡ x.since)
    (begun : x.since ≤ (plants.view x.plant).now) (past : (t : ℕ) → t ≤ (plants.view x.plant).now → (plants.view y.plant).world t ≡ (plants.view x.plant).world t) (ls : List Line)
    (said : plants.tells → console_now (plants.view y.plant) ≡ console_now (plants.view x.plant) ++ ls) where
  pub untold_then : (by : MemberId) (k : ℕ) → ((es : List Entry) → All (λ (e : Entry). e.step ≡ k) es → Untells es ls) → HasUntold plants copies x by k → HasUntold plants copies y by k
  untold_then by k each untold = λ t es of.
      subst (λ (b : Queue). IsUntold (setting copies.reads b y.since) (plants.view y.plant) es) (sym base)
      (subst (λ (n : ℕ). IsUntold (setting copies.reads x.base n) (plants.view y.plant) es) (sym since)
      (untold_more es copies.reads x.base x.since (plants.view x.plant) (plants.view y.plant) ls begun past (said t)
      (each es (λ i d lt. (of i d lt).1)) (untold t es of)))
