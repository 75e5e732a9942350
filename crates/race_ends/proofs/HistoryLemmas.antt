-- The lines of a history, which close no step.
use Rattle.std.proofs.Common.{◌≡◌, ◌∙◌, ◌+◌, ◌*◌, ◌^◌, ◌<◌, ◌≤◌, ℕ, zero, suc, Bool, true, false, if◌then◌else◌, List, [], ◌∷◌, ◌++◌, length, map, filter, take, slice_get, All, Some, append_assoc, inl, inr, refl, sym, ap, subst, arith}
use Rattle.std.proofs.lemmas.List.{map-append, take_all}
use Rattle.std.proofs.lemmas.List.Elements.{All-append, All-cons, All-head, All-nil, All-tail}
use Rattle.mas_types.specs.declared.commands.Refusal.{Refusal}
use Rattle.mas_types.specs.declared.commands.Refusal.TheVariants as refusal
use Rattle.mas_types.specs.declared.commands.Reply.{Reply}
use Rattle.mas_types.specs.declared.commands.Reply.TheVariants as reply
use Rattle.mas_types.specs.declared.ids.MemberId.{MemberId}
use Rattle.mas_types.specs.declared.journals.Batch.{Batch}
use Rattle.mas_types.specs.declared.journals.Entry.{Entry}
use Rattle.mas_types.specs.declared.journals.Journal.{Journal}
use Rattle.mas_types.specs.Closings.{IsRefusalNamed, IsReplyNamed, closing_text}
use Rattle.mas_types.specs.Histories.{history, history_end, history_line, history_lines}
use Rattle.mas_types.specs.Journal.{entries_of, is_kept, kept_list}
use Rattle.mas_types.specs.Numerals.{in_digits}
use Rattle.mas_types.specs.Shown.{member_word}
use Rattle.brief_journal.specs.declared.entries.BriefEntry.{BriefEntry}
use Rattle.brief_journal.specs.declared.entries.BriefReply.{BriefReply}
use Rattle.brief_journal.specs.declared.entries.BriefReply.TheVariants as answer
use Rattle.brief_journal.specs.Brief.{brief_of, brief_reply, entry_of, reply_of}
use Rattle.cmd_report.specs.Named.{IsEntryNamed}
use Rattle.spool_plant.specs.declared.plant.Act.TheVariants.{Done, Failed}
use Rattle.spool_plant.specs.declared.plant.Part.TheVariants.{Console, Disk}
use Rattle.spool_plant.specs.Acts.{Acts}
use Rattle.spool_plant.specs.View.{Line, View}
use Rattle.ckpt_copy.specs.Moments.{goes_none, goes_on}
use Rattle.mas_complex.specs.Headline.{whole}
use Rattle.mas_complex.specs.Journals.{AreFew, entries_most, journal_most, kept_all}
use Rattle.mas_complex.specs.Meaning.{Closes}
use Rattle.gate_turns.specs.Told.{member_in}
use Rattle.gate_turns.specs.Words.{word_at, words_of}
use Rattle.gate_turns.proofs.TellLemmas.{member_read, part_one, word_lacks}
use Rattle.member_node.specs.Calls.{console_now}
use Rattle.race_ends.specs.Histories.{IsSaying}

-- NAMES

pub other_refusal : (why : Refusal) → ((m : MemberId) → why ≡ refusal.InUse m → ⊥) → IsRefusalNamed why
other_refusal (refusal.InUse m) other = absurd (other m refl)
other_refusal _ other = tt

pub other_reply : (r : BriefReply) → ((why : Refusal) → r ≡ answer.No why → ⊥) → IsReplyNamed (reply_of r)
other_reply (answer.No why) other = absurd (other why refl)
other_reply _ other = tt

-- an entry names members that have names, if it does so in brief
abbrev pub IsBriefNamed : BriefEntry → Type 0
IsBriefNamed b = IsEntryNamed (entry_of b)

reply_whole : (r : Reply) → IsReplyNamed (reply_of (brief_reply r)) → IsReplyNamed r
reply_whole (reply.No why) h = h
reply_whole _ h = tt

pub named_whole : (es : List Entry) → All IsBriefNamed (map brief_of es) → All IsEntryNamed es
named_whole [] all = All-nil IsEntryNamed
named_whole (e ∷ es) all =
    let h = All-head IsBriefNamed (brief_of e) (map brief_of es) all in
    All-cons IsEntryNamed e es (h.0, reply_whole e.reply h.1) (named_whole es (All-tail IsBriefNamed (brief_of e) (map brief_of es) all))

-- WHAT IS KEPT

kept_one : (b : Batch) (t : Bool) (bs : List Batch) → entries_of (if t then b ∷ bs else bs) ≡ (if t then b.entries else []) ++ entries_of bs
kept_one b true bs = refl
kept_one b false bs = refl

pub kept_same : (bs : List Batch) → entries_of (filter (λ (b : Batch). is_kept b.fate) bs) ≡ kept_all bs
kept_same [] = refl
kept_same (b ∷ bs) = kept_one b (is_kept b.fate) (filter (λ (c : Batch). is_kept c.fate) bs) ∙ ap (λ (es : List Entry). (if is_kept b.fate then b.entries else []) ++ es) (kept_same bs)

pub few_kept : (placed : Bool) (J : Journal) → AreFew placed J.batches → length J.batches ≤ journal_most → length (kept_list J) < 2 ^ 63
few_kept placed J few many =
    let same = ap length (kept_same J.batches) in
    let most : entries_most * length J.batches ≤ 2 ^ 14 * 2 ^ 40 = omega (arith, many) in
    omega (arith, same, few, most)

-- so a history goes by the kept entries alone
pub history_same : (J K : Journal) → kept_all J.batches ≡ kept_all K.batches → history J ≡ history K
history_same J K same = ap (λ (es : List Entry). history_lines 1 es ++ history_end (length es) ∷ []) (kept_same J.batches ∙ same ∙ sym (kept_same K.batches))

-- A LINE OF IT CLOSES NO STEP: its first word is no member's name

abbrev pub IsNoClosing : List ℕ → Type 0
IsNoClosing line = (m : MemberId) (s : ℕ) → Closes line m s → ⊥

no_name : (m : MemberId) → 72 ∷ [] ≡ member_word m → ⊥
no_name m is =
    let none : m.0 ≡ 0 = sym (ap (λ (w : List ℕ). (member_in w).0) is ∙ ap (λ (k : MemberId). k.0) (member_read m.0)) in
    let four : 1 ≡ 4 = ap length (is ∙ ap (λ (n : ℕ). let k : MemberId = record { 0 = n } in member_word k) none) in
    absurd (omega (arith, four))

no_closing : (rest : List ℕ) → IsNoClosing (72 ∷ 32 ∷ rest)
no_closing rest m s closes =
    no_name m (ap (λ (l : List ℕ). word_at (words_of l) 0) closes.is
    ∙ ap (λ (ws : List (List ℕ)). word_at ws 0) (part_one 32 (member_word m) (in_digits 5 s ++ 32 ∷ closing_text closes.end) (word_lacks m.0)))

entries_close : (place : ℕ) (es : List Entry) → All IsNoClosing (history_lines place es)
entries_close place [] = All-nil IsNoClosing
entries_close place (e ∷ es) = All-cons IsNoClosing (history_line place e) (history_lines (place + 1) es) (no_closing _) (entries_close (place + 1) es)

pub history_closes : (J : Journal) → All IsNoClosing (history J)
history_closes J =
    All-append IsNoClosing (history_lines 1 (kept_list J)) (history_end (length (kept_list J)) ∷ []) (entries_close 1 (kept_list J))
    (All-cons IsNoClosing (history_end (length (kept_list J))) [] (no_closing _) (All-nil IsNoClosing))

-- SAYING IT

pub saying_none : (v : View) → IsSaying v v
saying_none v = record {
  goes = goes_none v;
  lost = λ d. refl;
  faults = λ d. refl;
  stops = λ m. refl;
  loses = λ d. refl;
  arms = λ m. refl;
}

pub saying_done : (v0 v1 v2 : View) → IsSaying v0 v1 → Acts 0 Console v1 v2 Done → IsSaying v0 v2
saying_done v0 v1 v2 s a = record {
  goes = goes_on v0 v1 v2 s.goes a.goes;
  lost = λ d. a.else_lost (Disk d) (inl (λ e. absurd (cc))) ∙ s.lost d;
  faults = λ d. a.else_faults (Disk d) (inl (λ e. absurd (cc))) ∙ s.faults d;
  stops = λ m. a.no_other_stop m (inr (λ e. absurd (cc))) ∙ s.stops m;
  loses = λ d. a.loses d ∙ s.loses d;
  arms = λ m. a.arms m ∙ s.arms m;
}

pub saying_failed : (v0 v1 v2 : View) → IsSaying v0 v1 → Acts 0 Console v1 v2 Failed → IsSaying v0 v2
saying_failed v0 v1 v2 s a = record {
  goes = goes_on v0 v1 v2 s.goes a.goes;
  lost = λ d. a.else_lost (Disk d) (inl (λ e. absurd (cc))) ∙ s.lost d;
  faults = λ d. a.else_faults (Disk d) (inl (λ e. absurd (cc))) ∙ s.faults d;
  stops = λ m. a.no_other_stop m (inr (λ e. absurd (cc))) ∙ s.stops m;
  loses = λ d. a.loses d ∙ s.loses d;
  arms = λ m. a.arms m ∙ s.arms m;
}

-- one line more, and the end of them
module _ (lines : List (List ℕ)) (old : View) where
  pub says_next : (at : ℕ) (line : List ℕ) (v w : View) → at < length lines → slice_get lines at ≡ Some line
      → console_now v ≡ console_now old ++ map whole (take at lines) → console_now w ≡ console_now v ++ whole line ∷ []
      → console_now w ≡ console_now old ++ map whole (take (at + 1) lines)
  says_next at line v w lt here before said =
      said ∙ ap (λ (ls : List Line). ls ++ whole line ∷ []) before ∙ append_assoc (console_now old) (map whole (take at lines)) (whole line ∷ [])
      ∙ ap (λ (ls : List Line). console_now old ++ ls) (sym (map-append whole (take at lines) (line ∷ [])) ∙ ap (map whole) (sym (take_next lines at line lt here)))
    where
      take_next : (xs : List (List ℕ)) (k : ℕ) (x : List ℕ) → k < length xs → slice_get xs k ≡ Some x → take (k + 1) xs ≡ take k xs ++ x ∷ []
      take_next [] k x lt is = absurd (omega (arith, lt))
      take_next (y ∷ ys) zero x lt is = ap (λ (z : List ℕ). z ∷ []) (let same : y ≡ x = cc in same)
      take_next (y ∷ ys) (suc k) x lt is =
          let e : suc k + 1 ≡ suc (k + 1) = omega arith in
          ap (λ (n : ℕ). take n (y ∷ ys)) e ∙ ap (λ (zs : List (List ℕ)). y ∷ zs) (take_next ys k x (omega (arith, lt)) is)

  pub says_all : (at : ℕ) (v : View) → length lines ≤ at → console_now v ≡ console_now old ++ map whole (take at lines) → console_now v ≡ console_now old ++ map whole lines
  says_all at v le said = said ∙ ap (λ (ls : List (List ℕ)). console_now old ++ map whole ls) (take_all at lines le)

-- the line at a place of lines that are a history
pub line_closes : (J : Journal) (lines : List (List ℕ)) → lines ≡ history J → (at : ℕ) (line : List ℕ) → slice_get lines at ≡ Some line → IsNoClosing line
line_closes J lines is at line here = closes_at lines at (subst (λ (ls : List (List ℕ)). All IsNoClosing ls) (sym is) (history_closes J)) here where
  closes_at : (ls : List (List ℕ)) (k : ℕ) → All IsNoClosing ls → slice_get ls k ≡ Some line → IsNoClosing line
  closes_at [] k all none = absurd (cc)
  closes_at (l ∷ ls) zero all one = subst IsNoClosing (let same : l ≡ line = cc in same) (All-head IsNoClosing l ls all)
  closes_at (l ∷ ls) (suc k) all one = closes_at ls k (All-tail IsNoClosing l ls all) one
