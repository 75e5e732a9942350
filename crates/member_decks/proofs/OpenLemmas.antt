-- Commands of a step, as they are done one after another.
use Rattle.member_decks.proofs.Names.{◌≡◌, ℕ, zero, suc, ◌≤◌, false, List, [], ◌∷◌, ◌++◌, length, All, Result, Ok, Err, append_assoc, append-nil, refl, sym, ◌∙◌, ap, subst, arith, length-append, All-push, MemberId, Command, Text, Gone, Reply, Entry, Queue, IsReplyNamed, Tables, Tell, TellSound, OthersLeaveTexts, ToldAreTheirOwn, run, step, HasTexts, Spools, last_reply, texts_after, run_append, entry_of, given_in, takes, asked, Asked, Gives, GivesAt, IsPart}
use Rattle.member_steps.specs.Noting.{Member}
use Rattle.lay_bytes.specs.declared.records.JobRec.{JobRec}
use Rattle.lay_bytes.specs.declared.records.OutRec.{OutRec}
pub use Rattle.ckpt_pages.proofs.KeyLemmas.{on_ok}
use Rattle.ckpt_pages.specs.QueueOf.{queue_of}
use Rattle.member_steps.proofs.ToldLemmas.{tell_given}
use Rattle.member_steps.specs.Leaving.{brings_text}
use Rattle.member_decks.proofs.DeckLemmas.{given_append}
pub use Rattle.std.proofs.lemmas.Bool.{not-false as is_not, not-true as not_is}

-- TABLES

-- whatever tables tell some queue, if only its texts are gone
pub tells_some : (t : Tables) → (Q : Queue) × Tell t Q
tells_some t =
    let deck : JobRec → Text = λ j. Gone (record { 0 = 0 }) j.cards in
    let print : OutRec → Text = λ o. Gone (record { 0 = 0 }) o.lines in
    (queue_of t deck print, tell_given t deck print (record { decks = λ k d lt. refl; prints = λ k d lt. refl }))

-- THE LAST REPLY

pub last_push : (es : List Entry) (e : Entry) → last_reply (es ++ e ∷ []) ≡ e.reply
last_push (x ∷ y ∷ es) e = last_push (y ∷ es) e
last_push _ e = refl

-- is that to the command done last
pub reply_done : (batch mid : List Entry) (e : Entry) (r : Reply) → mid ≡ batch ++ e ∷ [] → r ≡ last_reply mid → e.reply ≡ r
reply_done batch mid e r is last = sym (last ∙ ap last_reply is ∙ last_push batch e)

pub named_push : (batch mid : List Entry) (e : Entry) → mid ≡ batch ++ e ∷ [] → IsReplyNamed e.reply → All (λ (f : Entry). IsReplyNamed f.reply) batch → All (λ (f : Entry). IsReplyNamed f.reply) mid
named_push batch mid e is named all = rw is (All-push (λ (f : Entry). IsReplyNamed f.reply) batch e all named)

-- COMMANDS THAT A MEMBER GAVE, one after another

pub some_taken : (Q : Queue) (by : MemberId) (at times missing : ℕ) → 1 ≤ missing → missing ≤ times → 1 ≤ length (given_in Q by at (takes times Q by missing))
some_taken Q by at zero missing some le = absurd (omega (arith, some, le))
some_taken Q by at (suc times) zero some le = absurd (omega (arith, some))
some_taken Q by at (suc times) (suc missing) some le = omega arith

-- one, which brings no text
pub gives_one : {T E : Type 0} → OthersLeaveTexts → ToldAreTheirOwn → (Q : Queue) (by : MemberId) (at : ℕ) (c : Command) (m n : Member) (t : T) → brings_text c ≡ false → n.batch ≡ m.batch ++ entry_of Q by at c ∷ [] → Tell m.checkpoint.tables Q → Tell n.checkpoint.tables (step Q by c).0
    → GivesAt {E = E} (asked Q by at (c ∷ [])) (λ disks per. TellSound m.checkpoint.tables) m n (Ok t)
gives_one others own Q by at c m n t plain one told after = record {
  gave = entry_of Q by at c ∷ [];
  batch = one;
  gives = record { part = refl; effect = after; texts = λ gone disks per s has. texts_after others gone disks per Q by c plain (own m.checkpoint.tables Q s told) has };
}

-- all that is in a batch
pub gives_all : {T E : Type 0} (a : Asked) (holds : Spools → ℕ → Type 0) (m n : Member) (r : Result T E) → m.batch ≡ [] → GivesAt a holds m n r → Gives a holds n.checkpoint.tables n.batch r
gives_all a holds m n r none k = subst (λ (es : List Entry). Gives a holds n.checkpoint.tables es r) (sym (k.batch ∙ ap (λ (es : List Entry). es ++ k.gave) none)) k.gives

module _ (Q : Queue) (by : MemberId) (at : ℕ) (cs : List Command) (holds : Spools → ℕ → Type 0) where
  abbrev first : List Entry
  first = given_in Q by at cs

  -- none: there were none, or memory was out
  pub gives_none : {T E : Type 0} (m : Member) (r : Result T E) → IsPart r [] first → Tell m.checkpoint.tables Q → GivesAt (asked Q by at cs) holds m m r
  gives_none m r part told = record { gave = []; batch = sym (append-nil m.batch); gives = record { part = part; effect = told; texts = λ gone disks per h has. has } }

  pub gives_told : {T E : Type 0} (m n : Member) (t : T) → GivesAt {E = E} (asked Q by at cs) holds m n (Ok t) → Tell n.checkpoint.tables (run Q first)
  gives_told m n t k = subst (λ (es : List Entry). Tell n.checkpoint.tables (run Q es)) k.gives.part k.gives.effect

  part_then : {T E : Type 0} (ds : List Command) (r : Result T E) (gave : List Entry) → IsPart r gave (given_in (run Q first) by at ds) → IsPart r (first ++ gave) (given_in Q by at (cs ++ ds))
  part_then ds (Ok t) gave part = ap (λ (es : List Entry). first ++ es) part ∙ sym (given_append by at cs ds Q)
  part_then ds (Err e) gave part = (part.0, given_append by at cs ds Q ∙ ap (λ (es : List Entry). first ++ es) part.1 ∙ sym (append_assoc first gave part.0), part.2)

  -- these, and then others
  pub gives_then : {S T E : Type 0} (ds : List Command) (after : Spools → ℕ → Type 0) (m n o : Member) (s : S) (r : Result T E) → ((disks : Spools) (per : ℕ) → holds disks per → after disks per) → GivesAt {E = E} (asked Q by at cs) holds m n (Ok s) → GivesAt (asked (run Q first) by at ds) after n o r
      → GivesAt (asked Q by at (cs ++ ds)) holds m o r
  gives_then ds after m n o s r to one two = record {
    gave = first ++ two.gave;
    batch = two.batch ∙ ap (λ (es : List Entry). es ++ two.gave) (one.batch ∙ ap (λ (es : List Entry). m.batch ++ es) one.gives.part) ∙ append_assoc m.batch first two.gave;
    gives = record {
      part = part_then ds r two.gave two.gives.part;
      effect = rw (run_append Q first two.gave) two.gives.effect;
      texts = λ gone disks per h has. rw (run_append Q first two.gave) (two.gives.texts gone disks per (to disks per h) (subst (λ (es : List Entry). HasTexts gone disks per (run Q es)) one.gives.part (one.gives.texts gone disks per h has)));
    };
  }

  -- the first ones of these, and others were to come
  pub gives_cut : {S T E : Type 0} (ds : List Command) (m n : Member) (e : E) → GivesAt {T = S} (asked Q by at cs) holds m n (Err e) → GivesAt {T = T} (asked Q by at (cs ++ ds)) holds m n (Err e)
  gives_cut ds m n e k =
      let rest = k.gives.part.0 in
      let more = given_in (run Q first) by at ds in
      let long = length-append rest more in
      let all = given_append by at cs ds Q ∙ ap (λ (es : List Entry). es ++ more) k.gives.part.1 ∙ append_assoc k.gave rest more in
      record { gave = k.gave; batch = k.batch; gives = record { part = (rest ++ more, all, omega (arith, long, k.gives.part.2)); effect = k.gives.effect; texts = k.gives.texts } }
