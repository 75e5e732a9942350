-- Acts on a line, one after another.
use Rattle.std.proofs.Common.{◌≡◌, ◌≢◌, ⊎_elim, inl, inr, ℕ, ◌+◌, ◌≤◌, min, true, false, List, [], ◌++◌, drop, length, take, Ok, Err, refl, sym, ◌∙◌, ap, subst, arith}
use Rattle.std.proofs.Math.Seq.{take-add, take-length}
use Rattle.std.proofs.lemmas.List.{append_assoc, append-nil, length-take, take-append-drop, take_min}
use Rattle.mas_types.specs.declared.ids.Dev.TheVariants.{Ckpt1, Ckpt2, Spool}
use Rattle.mas_types.specs.declared.ids.MemberId.{MemberId}
use Rattle.lock_cycle.specs.Books.{Book}
use Rattle.spool_plant.specs.declared.plant.Act.{Act}
use Rattle.spool_plant.specs.declared.plant.Act.TheVariants.{Done, Failed, Halted as ActHalted}
use Rattle.spool_plant.specs.declared.plant.Part.TheVariants.{Disk as DiskPart, Wire}
use Rattle.spool_plant.specs.declared.plant.Took.{Took}
use Rattle.spool_plant.specs.declared.plant.Took.TheVariants.{Bytes as TookBytes, Failed as TookFailed, Halted as TookHalted}
use Rattle.spool_plant.specs.View.{Avoids, Disk, View, disk_now, given_now, taken_now}
use Rattle.spool_plant.specs.Acts.{Acts, GivesOn, Takes, act_of}
use Rattle.ckpt_copy.specs.Moments.{goes_none, goes_on}
use Rattle.mas_complex.specs.Locking.{IsUp}
use Rattle.mas_complex.specs.Parts.{Parts}
use Rattle.mas_complex.specs.Texts.{spools_at}
use Rattle.member_node.specs.declared.member.NodeNo.TheVariants.{Halted, NoMemory}
use Rattle.member_node.specs.Calls.{none_lost}
use Rattle.member_node.specs.Spares.{SparesBut}
use Rattle.member_node.proofs.CourseLemmas.{papers_act, papers_none, papers_on, rose_later}
use Rattle.member_node.proofs.SpareLemmas.{sparing_beside, sparing_done, sparing_halted, sparing_none, sparing_then}
use Rattle.member_decks.specs.Spooling.{IsQuiet}
use Rattle.member_decks.proofs.PageLemmas.{quiet_none, quiet_on}
use Rattle.member_wires.specs.declared.acts.End.{End}
use Rattle.member_wires.specs.Acts.{AreOnLine, GivesBytes, HasGivenBytes, HasTakenBytes, TakesAll, TakesInto, given_answer}

-- only the plant differs
pub frame_on : {P C : Type 0} (x y z : Parts P C) (p q : P) → y ≡ record x { plant = p } → z ≡ record y { plant = q } → z ≡ record x { plant = q }
frame_on {P} {C} x y z p q one two = two ∙ ap (λ (w : Parts P C). record w { plant = q }) one

-- so the member is up still
pub up_after : {P C : Type 0} (x y : Parts P C) (p : P) (m : MemberId) → y ≡ record x { plant = p } → IsUp x.book m → IsUp y.book m
up_after {P} {C} x y p m one up = subst (λ (b : Book). IsUp b m) (sym (ap (λ (w : Parts P C). w.book) one)) up

-- a volume that is as it was
quiet_same : (old new : Disk) → new ≡ old → IsQuiet old new
quiet_same old new same = record { bytes = ap (λ (k : Disk). k.bytes) same; synced = λ s avoids. subst (λ (k : Disk). Avoids k.unsynced s) (sym same) avoids }

no_volume : (l n : ℕ) → DiskPart (Spool n) ≢ Wire l
no_volume l n same = absurd (cc)

pub on_line_none : (told : Type 0) (end : End) (v : View) → AreOnLine told end v v
on_line_none told end v = record {
  goes = goes_none v;
  else_lost = λ p apart spool. refl;
  loses = λ d. refl;
  arms = λ m. refl;
  first = λ t. refl;
  second = λ t. refl;
  reads = λ t. quiet_none (spools_at v v.now);
  console = λ t. refl;
  papers = λ t. papers_none v;
  given = λ t w m other. refl;
  taken = λ t w m other. refl;
  waiting = λ t w other. refl;
}

pub on_line_then : (told : Type 0) (end : End) (old mid new : View) → AreOnLine told end old mid → AreOnLine told end mid new → AreOnLine told end old new
on_line_then told end old mid new one two = record {
  goes = goes_on old mid new one.goes two.goes;
  else_lost = λ p apart spool. two.else_lost p apart spool ∙ one.else_lost p apart spool;
  loses = λ d. two.loses d ∙ one.loses d;
  arms = λ m. two.arms m ∙ one.arms m;
  first = λ t. two.first t ∙ one.first t;
  second = λ t. two.second t ∙ one.second t;
  reads = λ t. quiet_on (spools_at old old.now) (spools_at mid mid.now) (spools_at new new.now) (one.reads t) (two.reads t);
  console = λ t. two.console t ∙ one.console t;
  papers = λ t. papers_on old mid new one.goes.later two.goes (one.papers t) (two.papers t);
  given = λ t w m other. two.given t w m other ∙ one.given t w m other;
  taken = λ t w m other. two.taken t w m other ∙ one.taken t w m other;
  waiting = λ t w other. two.waiting t w other ∙ one.waiting t w other;
}

-- GIVING

pub on_line_given : (told : Type 0) (end : End) (bytes : List ℕ) (old new : View) (r : Act) → Acts end.by.0 (Wire end.line) old new r
    → (told → GivesOn end.line end.by.0 bytes old new r) → AreOnLine told end old new
on_line_given told end bytes old new r acts content = record {
  goes = acts.goes;
  else_lost = λ p apart spool. acts.else_lost p (inl apart);
  loses = acts.loses;
  arms = acts.arms;
  first = λ t. (content t).disks Ckpt1;
  second = λ t. (content t).disks Ckpt2;
  reads = λ t n. quiet_same (disk_now old (Spool n)) (disk_now new (Spool n)) ((content t).disks (Spool n));
  console = λ t. (content t).console;
  papers = λ t. papers_act old new acts.goes acts.time (content t).paper;
  given = λ t w m other. (content t).others w m other;
  taken = λ t w m other. (content t).taken w m;
  waiting = λ t w other. (content t).waiting w;
}

module _ (told : Type 0) (end : End) (bytes : List ℕ) (old new : View) where
  -- the first of the bytes, no more than there are
  some_given : (r : Act) → (n : ℕ) × (given_now new end.line end.by.0 ≡ given_now old end.line end.by.0 ++ take n bytes)
      → (count : ℕ) × (count ≤ length bytes) × (given_now new end.line end.by.0 ≡ given_now old end.line end.by.0 ++ take count bytes)
  some_given r some = (
    min some.0 (length bytes),
    omega arith,
    some.1 ∙ ap (λ (more : List ℕ). given_now old end.line end.by.0 ++ more) (sym (take_min some.0 bytes)),
  )

  gave_by : (r : Act) → GivesOn end.line end.by.0 bytes old new r → HasGivenBytes end bytes old new (given_answer r)
  gave_by Done content = record {
    count = length bytes;
    by_answer = refl;
    given = content.given ∙ ap (λ (more : List ℕ). given_now old end.line end.by.0 ++ more) (sym (take-length bytes));
    taken = content.taken end.line end.by.0;
    waiting = content.waiting;
  }
  gave_by Failed content =
      let some = some_given Failed content.given in
      record { count = some.0; by_answer = some.1; given = some.2; taken = content.taken end.line end.by.0; waiting = content.waiting }
  gave_by ActHalted content =
      let some = some_given ActHalted content.given in
      record { count = some.0; by_answer = some.1; given = some.2; taken = content.taken end.line end.by.0; waiting = content.waiting }

  pub gives_by : (r : Act) → Acts end.by.0 (Wire end.line) old new r → (told → GivesOn end.line end.by.0 bytes old new r) → GivesBytes told end bytes old new (given_answer r)
  gives_by Done acts content = record {
    acts = on_line_given told end bytes old new Done acts content;
    stops = sparing_done end.by.0 (Wire end.line) old new acts;
    failed = tt;
    gave = λ t. gave_by Done (content t);
  }
  gives_by Failed acts content = record {
    acts = on_line_given told end bytes old new Failed acts content;
    stops = sparing_beside end.by.0 (Wire end.line) old new (no_volume end.line) acts;
    failed = record { lost = acts.is_lost refl; rose = acts.failed refl };
    gave = λ t. gave_by Failed (content t);
  }
  gives_by ActHalted acts content = record {
    acts = on_line_given told end bytes old new ActHalted acts content;
    stops = (sparing_halted end.by.0 (Wire end.line) old new acts, acts.halted refl);
    failed = tt;
    gave = λ t. gave_by ActHalted (content t);
  }

-- out of memory nothing is given
pub gives_none : (told : Type 0) (end : End) (bytes : List ℕ) (v : View) → GivesBytes told end bytes v v (Err NoMemory)
gives_none told end bytes v = record {
  acts = on_line_none told end v;
  stops = sparing_none end.by.0 v;
  failed = tt;
  gave = λ t. record {
    count = 0;
    by_answer = refl;
    given = sym (append-nil (given_now v end.line end.by.0));
    taken = refl;
    waiting = λ w. refl;
  };
}

-- there is nothing to give
pub gives_nothing : (told : Type 0) (end : End) (v : View) → GivesBytes told end [] v v (Ok false)
gives_nothing told end v = record {
  acts = on_line_none told end v;
  stops = sparing_none end.by.0 v;
  failed = tt;
  gave = λ t. record {
    count = 0;
    by_answer = refl;
    given = sym (append-nil (given_now v end.line end.by.0));
    taken = refl;
    waiting = λ w. refl;
  };
}

-- TAKING

pub on_line_taken : (told : Type 0) (end : End) (into : List ℕ) (old new : View) (r : Took) → Acts end.by.0 (Wire end.line) old new (act_of r)
    → (told → Takes end.line end.by.0 old new into r) → AreOnLine told end old new
on_line_taken told end into old new r acts content = record {
  goes = acts.goes;
  else_lost = λ p apart spool. acts.else_lost p (inl apart);
  loses = acts.loses;
  arms = acts.arms;
  first = λ t. (content t).disks Ckpt1;
  second = λ t. (content t).disks Ckpt2;
  reads = λ t n. quiet_same (disk_now old (Spool n)) (disk_now new (Spool n)) ((content t).disks (Spool n));
  console = λ t. (content t).console;
  papers = λ t. papers_act old new acts.goes acts.time (content t).paper;
  given = λ t w m other. (content t).given w m;
  taken = λ t w m other. (content t).others w m other;
  waiting = λ t w other. (content t).waiting w other;
}

pub took_none : (told : Type 0) (end : End) (v : View) → HasTakenBytes told end [] v v
took_none told end v = record {
  taken = λ t. sym (append-nil (taken_now v end.line end.by.0));
  waited = λ t. refl;
  given = λ t. refl;
}

module _ (told : Type 0) (end : End) (bytes : List ℕ) (old mid new : View) (took : HasTakenBytes told end bytes old mid) where
  -- some more came
  pub took_more : (n : ℕ) (into : List ℕ) → (told → Takes end.line end.by.0 mid new into (TookBytes n)) → HasTakenBytes told end (bytes ++ take n into) old new
  took_more n into content = record {
    taken = λ t.
        let c = content t in
        c.took.3
        ∙ ap (λ (more : List ℕ). taken_now mid end.line end.by.0 ++ more) (sym c.took.1)
        ∙ ap (λ (all : List ℕ). all ++ take n into) (took.taken t)
        ∙ append_assoc (taken_now old end.line end.by.0) bytes (take n into);
    waited = λ t.
        let c = content t in
        took.waited t
        ∙ ap (λ (w : List ℕ). bytes ++ w) (sym (take-append-drop n (mid.waiting end.line)) ∙ ap (λ (w : List ℕ). w ++ drop n (mid.waiting end.line)) (sym c.took.1) ∙ ap (λ (w : List ℕ). take n into ++ w) (sym c.took.2))
        ∙ sym (append_assoc bytes (take n into) (new.waiting end.line));
    given = λ t. (content t).given end.line end.by.0 ∙ took.given t;
  }

  took_still : (told → (new.waiting end.line ≡ mid.waiting end.line) × (taken_now new end.line end.by.0 ≡ taken_now mid end.line end.by.0))
      → (told → given_now new end.line end.by.0 ≡ given_now mid end.line end.by.0) → HasTakenBytes told end bytes old new
  took_still same given = record {
    taken = λ t. (same t).1 ∙ took.taken t;
    waited = λ t. took.waited t ∙ ap (λ (w : List ℕ). bytes ++ w) (sym (same t).0);
    given = λ t. given t ∙ took.given t;
  }

  -- none came: nothing waited, or there was no room
  pub took_nothing : (into : List ℕ) → (told → Takes end.line end.by.0 mid new into (TookBytes 0)) → HasTakenBytes told end bytes old new
  took_nothing into content = took_still (λ t. ((content t).took.2, (content t).took.3 ∙ append-nil (taken_now mid end.line end.by.0)))
      (λ t. (content t).given end.line end.by.0)

  pub took_failed : (into : List ℕ) → (told → Takes end.line end.by.0 mid new into TookFailed) → HasTakenBytes told end bytes old new
  took_failed into content = took_still (λ t. (content t).took) (λ t. (content t).given end.line end.by.0)

  pub took_halted : (into : List ℕ) → (told → Takes end.line end.by.0 mid new into TookHalted) → HasTakenBytes told end bytes old new
  took_halted into content = took_still (λ t. (content t).took) (λ t. (content t).given end.line end.by.0)

-- where none came though there was room, nothing waits
pub nothing_waits : (told : Type 0) (end : End) (room count : ℕ) (old new : View) (into : List ℕ) → 1 ≤ length into → (told → Takes end.line end.by.0 old new into (TookBytes 0)) → TakesAll told end room count new
nothing_waits told end room count old new into some content t =
    let c = content t in
    ⊎_elim (λ (none : old.waiting end.line ≡ []). inr (c.took.2 ∙ none)) (λ (full : into ≡ []). absurd (omega (arith, some, ap length full))) (c.took.4 refl)

-- so many bytes were taken so far
pub record HasTakenSo (told : Type 0) (end : End) (old new : View) (into : List ℕ) (count : ℕ) : Type 0 where
  pub acts : AreOnLine told end old new
  pub spares : SparesBut end.by.0 false none_lost old new
  pub few : count ≤ length into
  pub took : HasTakenBytes told end (take count into) old new

pub so_none : (told : Type 0) (end : End) (v : View) (into : List ℕ) → HasTakenSo told end v v into 0
so_none told end v into = record { acts = on_line_none told end v; spares = sparing_none end.by.0 v; few = omega arith; took = took_none told end v }

module _ (told : Type 0) (end : End) (old mid new : View) (was is : List ℕ) (count : ℕ) (so : HasTakenSo told end old mid was count) (same : take count is ≡ take count was) where
  so_took : HasTakenBytes told end (take count is) old mid
  so_took = subst (λ (bytes : List ℕ). HasTakenBytes told end bytes old mid) (sym same) so.took

  -- some more came
  pub so_more : (n : ℕ) → count + n ≤ length is → Acts end.by.0 (Wire end.line) mid new Done → (told → Takes end.line end.by.0 mid new (drop count is) (TookBytes n)) → HasTakenSo told end old new is (count + n)
  so_more n few acts content = record {
    acts = on_line_then told end old mid new so.acts (on_line_taken told end (drop count is) mid new (TookBytes n) acts content);
    spares = sparing_then end.by.0 false none_lost old mid new so.spares (sparing_done end.by.0 (Wire end.line) mid new acts);
    few = few;
    took = subst (λ (bytes : List ℕ). HasTakenBytes told end bytes old new) (sym (take-add count n is)) (took_more told end (take count is) old mid new so_took n (drop count is) content);
  }

  -- none came though there is room: nothing waits
  pub so_all : 1 ≤ length (drop count is) → Acts end.by.0 (Wire end.line) mid new Done → (told → Takes end.line end.by.0 mid new (drop count is) (TookBytes 0))
      → TakesInto told end is old new (Ok (record { count = count; lost = false }))
  so_all some acts content = record {
    acts = on_line_then told end old mid new so.acts (on_line_taken told end (drop count is) mid new (TookBytes 0) acts content);
    stops = sparing_then end.by.0 false none_lost old mid new so.spares (sparing_done end.by.0 (Wire end.line) mid new acts);
    took = (
      took_nothing told end (take count is) old mid new so_took (drop count is) content,
      λ lost. absurd (cc),
      λ there. nothing_waits told end (length is) count mid new (drop count is) some content,
    );
  }

  pub so_failed : Acts end.by.0 (Wire end.line) mid new Failed → (told → Takes end.line end.by.0 mid new (drop count is) TookFailed)
      → TakesInto told end is old new (Ok (record { count = count; lost = true }))
  so_failed acts content = record {
    acts = on_line_then told end old mid new so.acts (on_line_taken told end (drop count is) mid new TookFailed acts content);
    stops = sparing_then end.by.0 false none_lost old mid new so.spares (sparing_beside end.by.0 (Wire end.line) mid new (no_volume end.line) acts);
    took = (
      took_failed told end (take count is) old mid new so_took (drop count is) content,
      λ lost. record { lost = acts.is_lost refl; rose = rose_later (old.faults (Wire end.line)) (mid.faults (Wire end.line)) (new.faults (Wire end.line)) (so.acts.goes.faults (Wire end.line)) (acts.failed refl) },
      λ there. absurd (cc),
    );
  }

  pub so_halted : count ≤ length is → Acts end.by.0 (Wire end.line) mid new ActHalted → (told → Takes end.line end.by.0 mid new (drop count is) TookHalted)
      → TakesInto told end is old new (Err Halted)
  so_halted few acts content = record {
    acts = on_line_then told end old mid new so.acts (on_line_taken told end (drop count is) mid new TookHalted acts content);
    stops = (
      sparing_then end.by.0 true none_lost old mid new so.spares (sparing_halted end.by.0 (Wire end.line) mid new acts),
      rose_later (old.stops end.by.0) (mid.stops end.by.0) (new.stops end.by.0) (so.acts.goes.stops end.by.0) (acts.halted refl),
    );
    took = (take count is, let n = length-take count is in omega (arith, n), took_halted told end (take count is) old mid new so_took (drop count is) content);
  }

-- there is no room for more
pub so_full : (told : Type 0) (end : End) (old new : View) (into : List ℕ) (count : ℕ) → HasTakenSo told end old new into count → length into ≤ count → TakesInto told end into old new (Ok (record { count = count; lost = false }))
so_full told end old new into count so full = record {
  acts = so.acts;
  stops = so.spares;
  took = (so.took, λ lost. absurd (cc), λ there t. inl (let few = so.few in omega (arith, few, full)));
}
