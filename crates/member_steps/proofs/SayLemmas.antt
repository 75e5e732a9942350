-- Lines that are said one after another.
use Rattle.std.proofs.Common.{◌≡◌, ◌≢◌, inl, inr, ⊎_elim, ℕ, suc, zero, ◌+◌, ◌≤◌, ◌<◌, Bool, true, false, List, [], ◌∷◌, ◌++◌, length, map, take, slice_get, Option, Some, None, Result, Ok, Err, append_assoc, append-nil, refl, sym, ◌∙◌, ap, subst, arith}
use Rattle.std.proofs.lemmas.List.{map-append, take_all}
use Rattle.std.proofs.Math.Seq.{take-length}
use Rattle.mas_types.specs.declared.ids.Dev.{Dev}
use Rattle.mas_types.specs.declared.ids.Dev.TheVariants.{Ckpt1, Ckpt2, Spool}
use Rattle.mas_types.specs.declared.ids.Page.{Page}
use Rattle.spool_plant.specs.declared.plant.Part.TheVariants.{Disk as DiskPart, Console}
use Rattle.spool_plant.specs.declared.plant.Act.{Act}
use Rattle.spool_plant.specs.declared.plant.Act.TheVariants.{Failed, Halted as ActHalted}
use Rattle.spool_plant.specs.View.{View, Line}
use Rattle.spool_plant.specs.Acts.{Acts, Says, Said as SaidLine}
use Rattle.ckpt_copy.specs.Moments.{goes_on, goes_none}
use Rattle.mas_complex.specs.Headline.{whole}
use Rattle.mas_complex.specs.Parts.{Parts}
use Rattle.mas_complex.specs.CallCounts.{PairState, pair_at}
use Rattle.member_node.specs.declared.member.NodeNo.{NodeNo}
use Rattle.member_node.specs.declared.member.NodeNo.TheVariants.{BothLost, Halted, ConsoleFault, NoMemory}
use Rattle.member_node.specs.Calls.{Course, console_now}
use Rattle.member_node.specs.Copies.{Half, IsAtRest}
use Rattle.member_node.specs.Lines.{said_as, IsAnswerOfSay}
use Rattle.member_node.specs.Spares.{Spares}
use Rattle.member_node.proofs.CourseLemmas.{no, only_none, only_on, only_said, papers_act, papers_none, papers_on, rose_later, wires_none, wires_then}
use Rattle.member_node.proofs.SpareLemmas.{spares_failed, spares_halted, spares_then}
use Rattle.member_steps.specs.Saying.{torn, HasSaid, HaveSaid, OnConsole, Said, SaidBy, SayCauses, said_nothing, said_of, torn_line}
use Rattle.member_steps.specs.Steps.{StepCauses}

-- two calls one after the other in which the plant alone changes
pub frame_then : {P C : Type 0} (x y z : Parts P C) (one two : P) → y ≡ record x { plant = one } → z ≡ record y { plant = two } → z ≡ record x { plant = two }
frame_then {P} {C} x y z one two first then = then ∙ ap (λ (w : Parts P C). record w { plant = two }) first

-- ACTS ON THE CONSOLE

disk_not_console : (d : Dev) → DiskPart d ≢ Console
disk_not_console d e = absurd (cc)

pub console_none : (told : Type 0) (v : View) → OnConsole told v v
console_none told v = record { goes = goes_none v; lost = λ d. refl; faults = λ d. refl; loses = λ d. refl; disks = λ t d. refl; others = λ t. only_none v; papers = λ t. papers_none v; wires = λ t. wires_none v }

pub console_on : (told : Type 0) (by : ℕ) (line : List ℕ) (v0 v1 v2 : View) (said : Act) → OnConsole told v0 v1 → Acts by Console v1 v2 said → (told → Says line v1 v2 said) → OnConsole told v0 v2
console_on told by line v0 v1 v2 said x act says = record {
  goes = goes_on v0 v1 v2 x.goes act.goes;
  lost = λ d. act.else_lost (DiskPart d) (inl (disk_not_console d)) ∙ x.lost d;
  faults = λ d. act.else_faults (DiskPart d) (inl (disk_not_console d)) ∙ x.faults d;
  loses = λ d. act.loses d ∙ x.loses d;
  disks = λ t d. (says t).disks d ∙ x.disks t d;
  others = λ t. only_on v0 v1 v2 x.goes.later act.goes (x.others t) (only_said by line v1 v2 said act (says t));
  papers = λ t. papers_on v0 v1 v2 x.goes.later act.goes (x.papers t) (papers_act v1 v2 act.goes act.time (says t).paper);
  wires = λ t. wires_then v0 v1 v2 (x.wires t) (says t).wires;
}

-- its cause, which copies count as alive being as they were
pub say_causes : (r : Result (Unit {0}) NodeNo) (by : ℕ) (x : PairState) (w : View) → SayCauses r by x.view w → StepCauses r by x (pair_at x.first x.second w)
say_causes (Ok done) by x w cause = inr (refl, refl)
say_causes (Err ConsoleFault) by x w cause = (inr (refl, refl), cause)
say_causes (Err Halted) by x w cause = (inr (refl, refl), cause)
say_causes _ by x w cause = absurd cause

-- a copy at rest reads as it did
pub rests_as : (told : Type 0) (h : Half) (pages : List Page) (read : Option (List ℕ)) → (told → read ≡ h.read) → IsAtRest told h pages → IsAtRest told (record h { read = read }) pages
rests_as told h pages read same rests = record { before = rests.before; as_many = rests.as_many; reads = λ t on. same t ∙ rests.reads t on }

-- no copy is lost by acts on the console
pub console_course : (told : Type 0) (a b : Bool) (v1 v2 : View) → OnConsole told v1 v2 → Course (pair_at a b v1) (pair_at a b v2)
console_course told a b v1 v2 x = record {
  goes = x.goes;
  failed1 = λ is not. absurd (no a is not);
  failed2 = λ is not. absurd (no b is not);
  there1 = λ is there. x.lost Ckpt1 ∙ there;
  there2 = λ is there. x.lost Ckpt2 ∙ there;
  alive1 = λ is. is;
  alive2 = λ is. is;
  grow = λ d. inl (x.loses d);
  once1 = inl (x.loses Ckpt1);
  once2 = inl (x.loses Ckpt2);
  volumes = record { lost = λ n other. x.lost (Spool n); faults = λ n other. x.faults (Spool n) };
}

-- ONE LINE MORE

take_next : (lines : List (List ℕ)) (n : ℕ) (line : List ℕ) → n < length lines → slice_get lines n ≡ Some line → take (suc n) lines ≡ take n lines ++ line ∷ []
take_next [] n line lt here = absurd (omega (arith, lt))
take_next (first ∷ lines) zero line lt here = let same : first ≡ line = cc in ap (λ (l : List ℕ). l ∷ []) same
take_next (first ∷ lines) (suc n) line lt here = ap (λ (l : List (List ℕ)). first ∷ l) (take_next lines n line (omega (arith, lt)) here)

-- one line more stands on the console
pub said_next : (lines : List (List ℕ)) (n k : ℕ) (line : List ℕ) (was mid now : List Line) → n < length lines → slice_get lines n ≡ Some line → k ≡ suc n → mid ≡ was ++ map whole (take n lines) → now ≡ mid ++ whole line ∷ []
    → now ≡ was ++ map whole (take k lines)
said_next lines n k line was mid now lt here is before said =
    said ∙ ap (λ (l : List Line). l ++ whole line ∷ []) before ∙ append_assoc was (map whole (take n lines)) (whole line ∷ [])
    ∙ ap (λ (l : List Line). was ++ l) (sym (map-append whole (take n lines) (line ∷ [])))
    ∙ ap (λ (l : List (List ℕ)). was ++ map whole l) (sym (take_next lines n line lt here)) ∙ ap (λ (m : ℕ). was ++ map whole (take m lines)) (sym is)

-- WHAT WAS SAID of lines, by the answer

module _ (A : Type 0) (lines : List (List ℕ)) (was now : List Line) where
  -- nothing
  pub said_none : {T : Type 0} (e : NodeNo) → (e ≡ ConsoleFault → ⊥) → now ≡ was → HasSaid {T = T} A lines was now (Err e)
  said_none NoMemory never same = record { said = said_nothing; is = same ∙ sym (append-nil was); by_answer = refl; once_kept = inl refl }
  said_none BothLost never same = record { said = said_nothing; is = same ∙ sym (append-nil was); by_answer = refl; once_kept = inl refl }
  said_none Halted never same = record { said = said_nothing; is = same ∙ sym (append-nil was); by_answer = omega arith; once_kept = inl refl }
  said_none ConsoleFault never same = absurd (never refl)

  -- so many lines, whole
  whole_said : (n : ℕ) → now ≡ was ++ map whole (take n lines) → now ≡ was ++ said_of (record { lines = n; torn = None }) lines
  whole_said n is = is ∙ ap (λ (l : List Line). was ++ l) (sym (append-nil (map whole (take n lines))))

-- nothing was said, where no line is to be said
pub none_said : {T : Type 0} (A : Type 0) (was now : List Line) (r : Result T NodeNo) → HasSaid A [] was now r → now ≡ was
none_said {T} A was now r s = s.is ∙ ap (λ (l : List Line). was ++ l) (nothing s.said.lines s.said.torn (few r s.said s.by_answer)) ∙ append-nil was where
  few : (r : Result T NodeNo) (s : Said) → SaidBy r [] s → s.lines + length (torn_line s.torn) ≤ 0
  few (Err ConsoleFault) s is = absurd (omega (arith, is.0))
  few (Err Halted) s is = is
  few _ s is = subst (λ (q : Said). q.lines + length (torn_line q.torn) ≤ 0) (sym is) (omega arith)

  nothing : (n : ℕ) (t : Option (List ℕ)) → n + length (torn_line t) ≤ 0 → said_of (record { lines = n; torn = t }) [] ≡ []
  nothing n (Some text) le = absurd (omega (arith, le))
  nothing zero None le = refl
  nothing (suc n) None le = refl

-- after acts that said nothing, and once another thing holds
pub said_on : {T : Type 0} (A B : Type 0) (lines : List (List ℕ)) (was mid now : List Line) (r : Result T NodeNo) → mid ≡ was → (A → B) → HasSaid A lines mid now r → HasSaid B lines was now r
said_on A B lines was mid now r same to s = record { said = s.said; is = s.is ∙ ap (λ (l : List Line). l ++ said_of s.said lines) same; by_answer = s.by_answer; once_kept = ⊎_elim (λ none. inl none) (λ a. inr (to a)) s.once_kept }

module _ (told : Type 0) (by : ℕ) (lines : List (List ℕ)) (n : ℕ) (v0 v1 : View) (acts : OnConsole told v0 v1) (spares : Spares by false v0 v1) (front : told → console_now v1 ≡ console_now v0 ++ map whole (take n lines)) where
  -- all lines are said
  pub said_all : length lines ≤ n → HaveSaid {T = Unit {0}} told by lines v0 v1 (Ok tt)
  said_all all = record {
    acts = acts;
    cause = tt;
    spares = spares;
    console = λ t. record {
      said = record { lines = length lines; torn = None };
      is = whole_said (Unit {0}) lines (console_now v0) (console_now v1) (length lines) (front t ∙ ap (λ (l : List (List ℕ)). console_now v0 ++ map whole l) (take_all n lines all ∙ sym (take-length lines)));
      by_answer = refl;
      once_kept = inr tt;
    };
    some = λ e. absurd (cc);
  }

  -- the next line couldn't be said
  pub said_out : (line : List ℕ) (v2 : View) (e : NodeNo) → n < length lines → slice_get lines n ≡ Some line → IsAnswerOfSay {T = Unit {0}} (Err e) → Acts by Console v1 v2 (said_as {T = Unit {0}} (Err e)) → (told → Says line v1 v2 (said_as {T = Unit {0}} (Err e)))
      → HaveSaid {T = Unit {0}} told by lines v0 v2 (Err e)
  said_out line v2 BothLost lt here is act says = absurd is
  said_out line v2 NoMemory lt here is act says = absurd is
  said_out line v2 ConsoleFault lt here is act says = record {
    acts = console_on told by line v0 v1 v2 Failed acts act says;
    cause = rose_later (v0.faults Console) (v1.faults Console) (v2.faults Console) (acts.goes.faults Console) (act.failed refl);
    spares = spares_then by false v0 v1 v2 spares (spares_failed by Console v1 v2 act);
    console = λ t. record { said = record { lines = n; torn = None }; is = whole_said (Unit {0}) lines (console_now v0) (console_now v2) n ((says t).console ∙ front t); by_answer = (lt, refl); once_kept = inr tt };
    some = λ e. absurd (cc);
  }
  said_out line v2 Halted lt here is act says = record {
    acts = console_on told by line v0 v1 v2 ActHalted acts act says;
    cause = rose_later (v0.stops by) (v1.stops by) (v2.stops by) (acts.goes.stops by) (act.halted refl);
    spares = spares_then by true v0 v1 v2 spares (spares_halted by Console v1 v2 act);
    console = λ t. broken (front t) (says t).console;
    some = λ e. omega (arith, lt);
  } where
    -- so many whole
    stops : (k : ℕ) → k ≤ length lines → console_now v2 ≡ console_now v0 ++ map whole (take k lines) → HasSaid {T = Unit {0}} (Unit {0}) lines (console_now v0) (console_now v2) (Err Halted)
    stops k le is = record { said = record { lines = k; torn = None }; is = whole_said (Unit {0}) lines (console_now v0) (console_now v2) k is; by_answer = omega (arith, le); once_kept = inr tt }

    broken : console_now v1 ≡ console_now v0 ++ map whole (take n lines) → SaidLine line (console_now v1) (console_now v2) ActHalted → HasSaid {T = Unit {0}} (Unit {0}) lines (console_now v0) (console_now v2) (Err Halted)
    broken before said = ⊎_elim
        (λ none. stops n (omega (arith, lt)) (none ∙ before))
        (λ more. ⊎_elim
        (λ part. record { said = record { lines = n; torn = Some part.0 }; is = part.1 ∙ ap (λ (l : List Line). l ++ torn part.0 ∷ []) before ∙ append_assoc (console_now v0) (map whole (take n lines)) (torn part.0 ∷ []); by_answer = omega (arith, lt); once_kept = inr tt })
        (λ all. stops (suc n) (omega (arith, lt)) (said_next lines n (suc n) line (console_now v0) (console_now v1) (console_now v2) lt here refl before all))
        more)
        said
