-- Acts that are passed on.
use Rattle.std.proofs.Common.{◌≡◌, ◌≢◌, inr, ⊎_elim, ℕ, ◌+◌, ◌≤◌, ◌<◌, List, [], ◌∷◌, ◌++◌, length, slice_index, replicate, refl, sym, subst, ◌∙◌, ap, arith, get_or-set_same, get_or-set_other}
use Rattle.std.specs.Prelude.{All, Bool}
use Rattle.std.proofs.lemmas.List.Elements.{All-nil}
use Rattle.std.proofs.Math.Path.{fun_ext}
use Rattle.mas_types.specs.declared.ids.Dev.{Dev}
use Rattle.spool_plant.specs.declared.plant.Part.{Part}
use Rattle.spool_plant.specs.declared.plant.Act.{Act}
use Rattle.spool_plant.specs.declared.plant.Act.TheVariants.{Done, Failed, Halted}
use Rattle.spool_plant.specs.View.{View, World, Line}
use Rattle.spool_plant.specs.Acts.{Goes, Acts, Loses, Arms, Renews, next, top}
use Rattle.spool_disk.proofs.Acting.{rises}
use Rattle.spool_disk.proofs.Restart.{zero_at}
use Rattle.plant_fuse.specs.declared.stops.Stops.{Stops}
use Rattle.plant_fuse.specs.Counted.{counted}
use Rattle.plant_fuse.specs.Torn.{Halved, lines_at, torn_before, torn_from}
use Rattle.plant_fuse.specs.Closing.{Closes, halt_then, halved_by}
use Rattle.plant_fuse.specs.FuseViews.{consoles, papers, world_of, fused_view, AreWithin, ShowsInner}
use Rattle.plant_fuse.proofs.Marks.{torn_past, torn_none, lines_past}

-- a world with other lines
abbrev build : World → List Line → (ℕ → List Line) → World
build w console paper = record { disk = w.disk; console = console; paper = paper; taken = w.taken; given = w.given }

pub each_before : (v : View) (hs : List Halved) → AreWithin v hs → All (λ h. h.1 < v.now) hs
each_before v hs within k d lt = (within k d lt).before

-- what holds at a past moment, whatever is halved now
module _ (old new : View) (goes : Goes old new) (hs : List Halved) where
  pub old_console : (i : ℕ) → i ≤ old.now → consoles new.world i ≡ consoles old.world i
  old_console i le = ap (λ (w : World). w.console) (goes.past i le)

  pub old_paper : (m i : ℕ) → i ≤ old.now → papers new.world m i ≡ papers old.world m i
  old_paper m i le = ap (λ (w : World). w.paper m) (goes.past i le)

  pub past_same : (t : ℕ) → t ≤ old.now → world_of new.world hs t ≡ world_of old.world hs t
  past_same t le =
      ap (λ (w : World). build w (lines_at (consoles new.world) 0 hs t) (λ m. lines_at (papers new.world m) (m + 1) hs t)) (goes.past t le)
      ∙ ap (λ (c : List Line). build (old.world t) c (λ m. lines_at (papers new.world m) (m + 1) hs t)) (same_lines (consoles old.world) (consoles new.world) 0 old_console)
      ∙ ap (build (old.world t) (lines_at (consoles old.world) 0 hs t)) (fun_ext (λ m. same_lines (papers old.world m) (papers new.world m) (m + 1) (old_paper m)))
    where
      same_lines : (a b : ℕ → List Line) (place : ℕ) → ((i : ℕ) → i ≤ old.now → b i ≡ a i) → lines_at b place hs t ≡ lines_at a place hs t
      same_lines a b place past = ap (λ (ns : List ℕ). torn_from ns 0 (b t)) (torn_past a b place old.now past hs t le) ∙ ap (torn_from (torn_before a place hs t) 0) (past t le)

  pub past_push : (p t : ℕ) → t ≤ old.now → world_of new.world (hs ++ (p, old.now) ∷ []) t ≡ world_of old.world hs t
  past_push p t le =
      let hs' : List Halved = hs ++ (p, old.now) ∷ [] in
      ap (λ (w : World). build w (lines_at (consoles new.world) 0 hs' t) (λ m. lines_at (papers new.world m) (m + 1) hs' t)) (goes.past t le)
      ∙ ap (λ (c : List Line). build (old.world t) c (λ m. lines_at (papers new.world m) (m + 1) hs' t)) (lines_past (consoles old.world) (consoles new.world) 0 old.now hs old_console p t le)
      ∙ ap (build (old.world t) (lines_at (consoles old.world) 0 hs t)) (fun_ext (λ m. lines_past (papers old.world m) (papers new.world m) (m + 1) old.now hs (old_paper m) p t le))

-- an act that passed on the half of a line
pub past_halved : (old new : View) → Goes old new → (hs : List Halved) (p : ℕ) (passed : Act) (t : ℕ) → t ≤ old.now → world_of new.world (halved_by passed (p, old.now) hs) t ≡ world_of old.world hs t
past_halved old new goes hs p Done t le = past_push old new goes hs p t le
past_halved old new goes hs p Failed t le = past_same old new goes hs t le
past_halved old new goes hs p Halted t le = past_push old new goes hs p t le

-- an act that is passed on, with its answer
module _ (by : ℕ) (part : Part) (old new : View) (hs hs' : List Halved) (stops stops' : Stops) (arms : List ℕ) (past : (t : ℕ) → t ≤ old.now → world_of new.world hs' t ≡ world_of old.world hs t) where
  pub passed_acts : (result : Act) → Acts by part old new result → stops'.counts ≡ stops.counts → stops'.last ≡ halt_then result stops.last new.now → Acts by part (fused_view old hs stops arms) (fused_view new hs' stops' arms) result
  passed_acts result act same last = record {
    time = act.time;
    goes = record {
      later = act.goes.later;
      past = past;
      size = act.goes.size;
      faults = act.goes.faults;
      stops = λ m. let is = at m in omega (arith, act.goes.stops m, is);
      lost = act.goes.lost;
      arms = λ m. refl;
    };
    failed = act.failed;
    is_lost = act.is_lost;
    stays_lost = act.stays_lost;
    else_lost = act.else_lost;
    else_faults = act.else_faults;
    halted = λ f. let rose = act.halted f in let is = at by in omega (arith, rose, is);
    not_operator = act.not_operator;
    no_other_stop = λ m ne. ap (λ (k : ℕ). k + slice_index stops'.counts m) (act.no_other_stop m ne) ∙ ap (λ (k : ℕ). old.stops m + k) (at m);
    at_halt = λ is. last ∙ ap (λ (r : Act). halt_then r stops.last new.now) is;
    else_halt = λ ne. last ∙ not_halted result ne;
    last = act.last;
    loses = act.loses;
    arms = λ m. refl;
  } where
    not_halted : (r : Act) → r ≢ Halted → halt_then r stops.last new.now ≡ stops.last
    not_halted Done ne = refl
    not_halted Failed ne = refl
    not_halted Halted ne = absurd (ne refl)

    at : (m : ℕ) → slice_index stops'.counts m ≡ slice_index stops.counts m
    at m = ap (λ (l : List ℕ). slice_index l m) same

  -- one that halts, of which what was passed on was done
  pub halted_acts : 0 < by → slice_index stops.counts by ≤ top → by < length stops.counts → Acts by part old new Done → stops'.counts ≡ counted stops.counts by → stops'.last ≡ new.now
      → Acts by part (fused_view old hs stops arms) (fused_view new hs' stops' arms) Halted
  halted_acts member fits there act counts last = record {
    time = act.time;
    goes = record {
      later = act.goes.later;
      past = past;
      size = act.goes.size;
      faults = act.goes.faults;
      stops = λ m. let is = at m in omega (arith, act.goes.stops m, rises stops.counts by m fits there, is);
      lost = act.goes.lost;
      arms = λ m. refl;
    };
    failed = λ f. absurd (cc);
    is_lost = λ f. absurd (cc);
    stays_lost = λ was f. absurd (cc);
    else_lost = λ p other. act.else_lost p (inr (λ f. absurd (cc)));
    else_faults = λ p other. act.else_faults p (inr (λ f. absurd (cc)));
    halted = λ f. let same : slice_index (counted stops.counts by) by ≡ next (slice_index stops.counts by) = get_or-set_same stops.counts by _ 0 there in let is = at by in omega (arith, same, act.goes.stops by, is);
    not_operator = λ f. member;
    no_other_stop = λ m other. ⊎_elim
        (λ ne. ap (λ (k : ℕ). k + slice_index stops'.counts m) (act.no_other_stop m (inr (λ f. absurd (cc)))) ∙ ap (λ (k : ℕ). old.stops m + k) (at m ∙ get_or-set_other stops.counts by m _ 0 ne))
        (λ f. absurd (f refl))
        other;
    at_halt = λ f. last;
    else_halt = λ f. absurd (f refl);
    last = λ at. let failed : Done ≡ Failed = act.last at in absurd (cc);
    loses = act.loses;
    arms = λ m. refl;
  } where
    at : (m : ℕ) → slice_index stops'.counts m ≡ slice_index (counted stops.counts by) m
    at m = ap (λ (l : List ℕ). slice_index l m) counts

  pub closed_acts : (passed result : Act) → 0 < by → slice_index stops.counts by ≤ top → by < length stops.counts → Acts by part old new passed → Closes by passed stops.counts stops'.counts result → stops'.last ≡ halt_then result stops.last new.now
      → Acts by part (fused_view old hs stops arms) (fused_view new hs' stops' arms) result
  closed_acts Done result member fits there act closed last =
      subst (λ (r : Act). Acts by part (fused_view old hs stops arms) (fused_view new hs' stops' arms) r) (sym closed.0)
      (halted_acts member fits there act closed.1 (last ∙ ap (λ (r : Act). halt_then r stops.last new.now) closed.0))
  closed_acts Failed result member fits there act closed last =
      subst (λ (r : Act). Acts by part (fused_view old hs stops arms) (fused_view new hs' stops' arms) r) (sym closed.0)
      (passed_acts Failed act closed.1 (last ∙ ap (λ (r : Act). halt_then r stops.last new.now) closed.0))
  closed_acts Halted result member fits there act closed last =
      subst (λ (r : Act). Acts by part (fused_view old hs stops arms) (fused_view new hs' stops' arms) r) (sym closed.0)
      (passed_acts Halted act closed.1 (last ∙ ap (λ (r : Act). halt_then r stops.last new.now) closed.0))

-- a call that loses a device
pub passed_loses : (part : Part) (old new : View) (hs : List Halved) (stops : Stops) (arms : List ℕ) → Loses part old new → Loses part (fused_view old hs stops arms) (fused_view new hs stops arms)
passed_loses part old new hs stops arms act = record {
  time = act.time;
  goes = record {
    later = act.goes.later;
    past = past_same old new act.goes hs;
    size = act.goes.size;
    faults = act.goes.faults;
    stops = λ m. omega (arith, act.goes.stops m);
    lost = act.goes.lost;
    arms = λ m. refl;
  };
  is_lost = act.is_lost;
  else_lost = act.else_lost;
  faults = act.faults;
  stops = λ m. ap (λ (k : ℕ). k + slice_index stops.counts m) (act.stops m);
  halt = refl;
  counted = act.counted;
  small = act.small;
  else_counted = act.else_counted;
  arms = λ m. refl;
}

-- a view with other parts lost: what a renewal leaves except its device's loss goes on from what was
abbrev pub with_lost : View → (Part → Bool) → View
with_lost v lost = record { now = v.now; world = v.world; size = v.size; lost = lost; faults = v.faults; stops = v.stops; loses = v.loses; waiting = v.waiting; arms = v.arms; halt = v.halt }

pub renews_goes : (dev : Dev) (old new : View) (result : Act) → Renews dev old new result → Goes old (with_lost new old.lost)
renews_goes dev old new result act = record { later = act.later; past = act.past; size = act.size; faults = act.faults; stops = λ m. omega (arith, act.stops m); lost = λ p was. was; arms = act.arms }

pub passed_renews : (dev : Dev) (old new : View) (hs : List Halved) (stops : Stops) (arms : List ℕ) (result : Act) → Renews dev old new result → Renews dev (fused_view old hs stops arms) (fused_view new hs stops arms) result
passed_renews dev old new hs stops arms result act = record {
  time = act.time;
  later = act.later;
  past = past_same old (with_lost new old.lost) (renews_goes dev old new result act) hs;
  size = act.size;
  faults = act.faults;
  failed = act.failed;
  is_lost = act.is_lost;
  is_there = act.is_there;
  else_lost = act.else_lost;
  else_faults = act.else_faults;
  no_halt = act.no_halt;
  stops = λ m. ap (λ (k : ℕ). k + slice_index stops.counts m) (act.stops m);
  halt = refl;
  last = act.last;
  loses = act.loses;
  arms = λ m. refl;
}

-- a call that arms a stop
pub arms_one : (v : View) (hs : List Halved) (stops : Stops) (arms : List ℕ) (member : ℕ) → member < length arms → Arms member (fused_view v hs stops arms) (fused_view v hs stops (counted arms member))
arms_one v hs stops arms member there = record {
  same = refl;
  counted = get_or-set_same arms member _ 0 there;
  else_counted = λ m ne. get_or-set_other arms member m _ 0 ne;
}

-- a plant of which nothing is armed or halved shows its inner plant
pub shows_inner : (v : View) (stops : Stops) → stops.counts ≡ replicate 256 0 → stops.last ≡ 0 → ShowsInner v (fused_view v [] stops (replicate 256 0))
shows_inner v stops counts last = record {
  now = refl;
  world = λ t.
      ap (λ (c : List Line). build (v.world t) c (λ m. lines_at (papers v.world m) (m + 1) [] t)) (torn_none [] 0 (consoles v.world t) (All-nil (λ (m : ℕ). m < 0)))
      ∙ ap (build (v.world t) (consoles v.world t)) (fun_ext (λ m. torn_none [] 0 (papers v.world m t) (All-nil (λ (m : ℕ). m < 0))));
  size = λ d. refl;
  lost = λ p. refl;
  faults = λ p. refl;
  stops = λ m. let none : slice_index stops.counts m ≡ 0 = ap (λ (l : List ℕ). slice_index l m) counts ∙ zero_at 256 m in omega (arith, none);
  loses = λ d. refl;
  waiting = λ w. refl;
  arms = λ m. zero_at 256 m;
  halt = last;
}
