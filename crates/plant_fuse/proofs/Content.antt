-- What acts that are passed on do to the world that a plant with fuses shows.
use Rattle.std.proofs.Common.{◌≡◌, ◌≢◌, ◌⊎◌, inl, inr, ⊎_elim, ℕ, ◌+◌, ◌≤◌, ◌<◌, true, false, List, [], ◌∷◌, ◌++◌, length, take, drop, refl, sym, subst, ◌∙◌, ap, arith, length-append}
use Rattle.std.specs.Prelude.{All, Bool, slice_index_or}
use Rattle.std.proofs.lemmas.List.{length-take, take-take, take_all, append-nil}
use Rattle.std.proofs.lemmas.List.Elements.{All-nil, All-cons, All-append}
use Rattle.mas_types.specs.declared.ids.Dev.{Dev}
use Rattle.spool_plant.specs.declared.plant.Act.{Act}
use Rattle.spool_plant.specs.declared.plant.Act.TheVariants.{Done, Failed, Halted}
use Rattle.spool_plant.specs.declared.plant.Took.{Took}
use Rattle.spool_plant.specs.declared.plant.Took.TheVariants.{Bytes as TookBytes, Failed as TookFailed, Halted as TookHalted}
use Rattle.spool_plant.specs.View.{View, Line, disk_now, taken_now, given_now}
use Rattle.spool_plant.specs.declared.plant.Part.{Part}
use Rattle.spool_plant.specs.declared.plant.Part.TheVariants.{Console}
use Rattle.spool_plant.specs.Acts.{Goes, Acts, SamePaper, SameWires, OnDevice, Reads, Writes, Syncs, Said, Says, Prints, Given, GivesOn, FitsInto, TookFrom, Takes, LosesThere, Renews, RenewsThere, act_of, top}
use Rattle.spool_disk.proofs.Acting.{same_or_not}
use Rattle.spool_disk.proofs.Restart.{split}
use Rattle.plant_fuse.specs.Torn.{Halved, is_torn, lines_at}
use Rattle.plant_fuse.specs.Closing.{Closes, halved_by}
use Rattle.plant_fuse.specs.declared.stops.Stops.{Stops}
use Rattle.plant_fuse.specs.FuseViews.{consoles, papers, fused_view, IsWithin, AreWithin}
use Rattle.plant_fuse.proofs.Marks.{lines_same, lines_added, lines_torn, lines_elsewhere, torn_here, torn_nothing}
use Rattle.plant_fuse.proofs.Passing.{each_before, old_console, old_paper, with_lost, renews_goes}

on_console : (v : View) (hs : List Halved) → AreWithin v hs → All (λ h. h.0 ≡ 0 → length (consoles v.world h.1) < length (consoles v.world (h.1 + 1)) → length (consoles v.world h.1) < length (consoles v.world v.now)) hs
on_console v hs within k d lt = (within k d lt).console

on_paper : (v : View) (hs : List Halved) (m : ℕ) → AreWithin v hs → All (λ h. h.0 ≡ m + 1 → length (papers v.world m h.1) < length (papers v.world m (h.1 + 1)) → length (papers v.world m h.1) < length (papers v.world m v.now)) hs
on_paper v hs m within k d lt = (within k d lt).paper m

first_of : (n k : ℕ) (l : List ℕ) → (m : ℕ) × (take n (take k l) ≡ take m l)
first_of n k l = ⊎_elim (λ le. (n, take-take n k l le)) (λ lt. (k, take_all n (take k l) (omega (arith, length-take k l, lt)))) (split n k)

take-zero : (l : List ℕ) → take 0 l ≡ []
take-zero [] = refl
take-zero (x ∷ l) = refl

drop-zero : (l : List ℕ) → drop 0 l ≡ l
drop-zero [] = refl
drop-zero (x ∷ l) = refl

-- a line that is added, whatever is torn before it
module _ (line : List ℕ) (old new shown shown' : List Line) (same : new ≡ old → shown' ≡ shown) (added : (more : List Line) → new ≡ old ++ more → shown' ≡ shown ++ more) where
  pub said_through : (r : Act) → Said line old new r → Said line shown shown' r
  said_through Done is = added (record { text = line; whole = true } ∷ []) is
  said_through Failed is = same is
  said_through Halted (inl is) = inl (same is)
  said_through Halted (inr (inl (text, is))) = inr (inl (text, added (record { text = text; whole = false } ∷ []) is))
  said_through Halted (inr (inr is)) = inr (inr (added (record { text = line; whole = true } ∷ []) is))

module _ (old new : View) (hs : List Halved) (s : Stops) (a : List ℕ) (s' : Stops) (a' : List ℕ) (goes : Goes old new) (within : AreWithin old hs) where
  console_same : consoles new.world new.now ≡ consoles old.world old.now → lines_at (consoles new.world) 0 hs new.now ≡ lines_at (consoles old.world) 0 hs old.now
  console_same = lines_same (consoles old.world) (consoles new.world) 0 old.now new.now hs (old_console old new goes hs) goes.later (each_before old hs within)

  console_added : (more : List Line) → consoles new.world new.now ≡ consoles old.world old.now ++ more → lines_at (consoles new.world) 0 hs new.now ≡ lines_at (consoles old.world) 0 hs old.now ++ more
  console_added more = lines_added (consoles old.world) (consoles new.world) 0 old.now new.now hs (old_console old new goes hs) goes.later (each_before old hs within) (on_console old hs within) more

  paper_same : (m : ℕ) → papers new.world m new.now ≡ papers old.world m old.now → lines_at (papers new.world m) (m + 1) hs new.now ≡ lines_at (papers old.world m) (m + 1) hs old.now
  paper_same m = lines_same (papers old.world m) (papers new.world m) (m + 1) old.now new.now hs (old_paper old new goes hs m) goes.later (each_before old hs within)

  paper_added : (m : ℕ) (more : List Line) → papers new.world m new.now ≡ papers old.world m old.now ++ more → lines_at (papers new.world m) (m + 1) hs new.now ≡ lines_at (papers old.world m) (m + 1) hs old.now ++ more
  paper_added m more = lines_added (papers old.world m) (papers new.world m) (m + 1) old.now new.now hs (old_paper old new goes hs m) goes.later (each_before old hs within) (on_paper old hs m within) more

  abbrev before : View
  before = fused_view old hs s a

  abbrev after : View
  after = fused_view new hs s' a'

  wires_passed : SameWires old new → SameWires before after
  wires_passed x = record { waiting = x.waiting; taken = x.taken; given = x.given }

  papers_passed : SamePaper old new → SamePaper before after
  papers_passed x m = paper_same m (x m)

  device_passed : (dev : Dev) → OnDevice dev old new → OnDevice dev before after
  device_passed dev x = record { others = x.others; console = console_same x.console; paper = papers_passed x.paper; wires = wires_passed x.wires }

  pub reads_passed : (dev : Dev) (at : ℕ) (into : List ℕ) (r : Act) → Reads dev at old new into r → Reads dev at before after into r
  reads_passed dev at into r x = record { disk = x.disk; lost = x.lost; only = device_passed dev x.only }

  pub writes_passed : (dev : Dev) (at : ℕ) (bytes : List ℕ) (r : Act) → Writes dev at bytes old new r → Writes dev at bytes before after r
  writes_passed dev at bytes r x = record { disk = x.disk; lost = x.lost; only = device_passed dev x.only }

  pub syncs_passed : (dev : Dev) (r : Act) → Syncs dev old new r → Syncs dev before after r
  syncs_passed dev r x = record { disk = x.disk; lost = x.lost; only = device_passed dev x.only }

  pub loses_passed : (dev : Dev) → LosesThere dev old new → LosesThere dev before after
  loses_passed dev x = record { disk = x.disk; lost = x.lost; only = device_passed dev x.only }

  pub says_passed : (line : List ℕ) (r : Act) → Says line old new r → Says line before after r
  says_passed line r x = record {
    console = said_through line (consoles old.world old.now) (consoles new.world new.now) (lines_at (consoles old.world) 0 hs old.now) (lines_at (consoles new.world) 0 hs new.now) console_same console_added r x.console;
    disks = x.disks;
    paper = papers_passed x.paper;
    wires = wires_passed x.wires;
  }

  pub prints_passed : (member : ℕ) (line : List ℕ) (r : Act) → Prints member line old new r → Prints member line before after r
  prints_passed member line r x = record {
    paper = said_through line (papers old.world member old.now) (papers new.world member new.now) (lines_at (papers old.world member) (member + 1) hs old.now) (lines_at (papers new.world member) (member + 1) hs new.now)
        (paper_same member) (paper_added member) r x.paper;
    others = λ m ne. paper_same m (x.others m ne);
    disks = x.disks;
    console = console_same x.console;
    wires = wires_passed x.wires;
  }

  pub gives_passed : (wire member : ℕ) (bytes : List ℕ) (r : Act) → GivesOn wire member bytes old new r → GivesOn wire member bytes before after r
  gives_passed wire member bytes r x = record {
    given = x.given;
    others = x.others;
    taken = x.taken;
    waiting = x.waiting;
    disks = x.disks;
    console = console_same x.console;
    paper = papers_passed x.paper;
  }

  pub takes_passed : (wire member : ℕ) (into : List ℕ) (r : Took) → Takes wire member old new into r → Takes wire member before after into r
  takes_passed wire member into r x = record {
    took = x.took;
    others = x.others;
    waiting = x.waiting;
    given = x.given;
    disks = x.disks;
    console = console_same x.console;
    paper = papers_passed x.paper;
  }

  -- acts that halt
  pub write_closed : (by : ℕ) (dev : Dev) (at k : ℕ) (bytes some : List ℕ) (passed r : Act) → some ≡ take k bytes → Writes dev at some old new passed → Closes by passed s.counts s'.counts r → Writes dev at bytes before after r
  write_closed by dev at k bytes some passed r is x closes = by_act passed x closes where
    few : length some ≤ length bytes
    few = omega (arith, ap (λ (l : List ℕ). length l) is, length-take k bytes)

    by_act : (p : Act) → Writes dev at some old new p → Closes by p s.counts s'.counts r → Writes dev at bytes before after r
    by_act Done x closes = subst (λ (q : Act). Writes dev at bytes before after q) (sym closes.0)
        (record { disk = ((length some, few, x.disk.0), x.disk.2); lost = λ f. absurd (cc); only = device_passed dev x.only })
    by_act Failed x closes = subst (λ (q : Act). Writes dev at bytes before after q) (sym closes.0)
        (record { disk = ⊎_elim (λ d. inl (d.0, (omega (arith, d.1, few)), d.2)) (λ u. inr u) x.disk; lost = x.lost; only = device_passed dev x.only })
    by_act Halted x closes = subst (λ (q : Act). Writes dev at bytes before after q) (sym closes.0)
        (record { disk = ((x.disk.0.0, omega (arith, x.disk.0.1, few), x.disk.0.2), x.disk.1); lost = λ f. absurd (cc); only = device_passed dev x.only })

  pub sync_closed : (by : ℕ) (dev : Dev) (at : ℕ) (into : List ℕ) (passed r : Act) → Reads dev at old new into passed → Closes by passed s.counts s'.counts r → Syncs dev before after r
  sync_closed by dev at into Done r x closes = subst (λ (q : Act). Syncs dev before after q) (sym closes.0) (record { disk = x.disk.0; lost = λ f. absurd (cc); only = device_passed dev x.only })
  sync_closed by dev at into Failed r x closes = subst (λ (q : Act). Syncs dev before after q) (sym closes.0) (record { disk = x.disk; lost = x.lost; only = device_passed dev x.only })
  sync_closed by dev at into Halted r x closes = subst (λ (q : Act). Syncs dev before after q) (sym closes.0) (record { disk = x.disk; lost = λ f. absurd (cc); only = device_passed dev x.only })

  pub read_closed : (by : ℕ) (dev : Dev) (at at' : ℕ) (into into' : List ℕ) (passed r : Act) → Reads dev at old new into passed → Closes by passed s.counts s'.counts r → Reads dev at' before after into' r
  read_closed by dev at at' into into' Done r x closes = subst (λ (q : Act). Reads dev at' before after into' q) (sym closes.0) (record { disk = x.disk.0; lost = λ f. absurd (cc); only = device_passed dev x.only })
  read_closed by dev at at' into into' Failed r x closes = subst (λ (q : Act). Reads dev at' before after into' q) (sym closes.0) (record { disk = x.disk; lost = x.lost; only = device_passed dev x.only })
  read_closed by dev at at' into into' Halted r x closes = subst (λ (q : Act). Reads dev at' before after into' q) (sym closes.0) (record { disk = x.disk; lost = λ f. absurd (cc); only = device_passed dev x.only })

  pub give_closed : (by wire member k : ℕ) (bytes some : List ℕ) (passed r : Act) → some ≡ take k bytes → GivesOn wire member some old new passed → Closes by passed s.counts s'.counts r → GivesOn wire member bytes before after r
  give_closed by wire member k bytes some passed r is x closes = by_act passed x closes where
    gives : (q : Act) → ((w m : ℕ) → (w ≢ wire) ⊎ (m ≢ member) → given_now new w m ≡ given_now old w m) → ((w m : ℕ) → taken_now new w m ≡ taken_now old w m) → ((w : ℕ) → new.waiting w ≡ old.waiting w)
        → ((d : Dev) → disk_now new d ≡ disk_now old d) → consoles new.world new.now ≡ consoles old.world old.now → SamePaper old new → Given bytes (given_now old wire member) (given_now new wire member) q → GivesOn wire member bytes before after q
    gives q others taken waiting disks console paper given = record { given = given; others = others; taken = taken; waiting = waiting; disks = disks; console = console_same console; paper = papers_passed paper }

    -- some of the first bytes
    some_given : (n : ℕ) → given_now new wire member ≡ given_now old wire member ++ take n some → (m : ℕ) × (given_now new wire member ≡ given_now old wire member ++ take m bytes)
    some_given n given =
        let first = first_of n k bytes in
        (first.0, given ∙ ap (λ (l : List ℕ). given_now old wire member ++ take n l) is ∙ ap (λ (l : List ℕ). given_now old wire member ++ l) first.1)

    by_act : (p : Act) → GivesOn wire member some old new p → Closes by p s.counts s'.counts r → GivesOn wire member bytes before after r
    by_act Done x closes = subst (λ (q : Act). GivesOn wire member bytes before after q) (sym closes.0)
        (gives Halted x.others x.taken x.waiting x.disks x.console x.paper (k, x.given ∙ ap (λ (l : List ℕ). given_now old wire member ++ l) is))
    by_act Failed x closes = subst (λ (q : Act). GivesOn wire member bytes before after q) (sym closes.0) (gives Failed x.others x.taken x.waiting x.disks x.console x.paper (some_given x.given.0 x.given.1))
    by_act Halted x closes = subst (λ (q : Act). GivesOn wire member bytes before after q) (sym closes.0) (gives Halted x.others x.taken x.waiting x.disks x.console x.paper (some_given x.given.0 x.given.1))

  pub take_closed : (by wire member : ℕ) (into into' : List ℕ) (passed r : Took) (closed : Act) → FitsInto 0 passed → Takes wire member old new into passed → Closes by (act_of passed) s.counts s'.counts closed → act_of r ≡ closed → Takes wire member before after into' r
  take_closed by wire member into into' passed r closed fits x closes is = by_took passed fits x closes where
    takes : (q : Took) → TookFrom (old.waiting wire) (new.waiting wire) (taken_now old wire member) (taken_now new wire member) into' q → Takes wire member before after into' q
    takes q took = record { took = took; others = x.others; waiting = x.waiting; given = x.given; disks = x.disks; console = console_same x.console; paper = papers_passed x.paper }

    failed : (q : Took) → act_of q ≡ Failed → q ≡ TookFailed
    failed (TookBytes n) e = absurd (cc)
    failed TookFailed e = refl
    failed TookHalted e = absurd (cc)

    halted : (q : Took) → act_of q ≡ Halted → q ≡ TookHalted
    halted (TookBytes n) e = absurd (cc)
    halted TookFailed e = absurd (cc)
    halted TookHalted e = refl

    by_took : (p : Took) → FitsInto 0 p → Takes wire member old new into p → Closes by (act_of p) s.counts s'.counts closed → Takes wire member before after into' r
    by_took (TookBytes n) fits y closes =
        let none : n ≡ 0 = omega (arith, fits) in
        let waits = y.took.2 ∙ ap (λ (m : ℕ). drop m (old.waiting wire)) none ∙ drop-zero (old.waiting wire) in
        let taken = y.took.3 ∙ ap (λ (m : ℕ). taken_now old wire member ++ take m (old.waiting wire)) none ∙ ap (λ (l : List ℕ). taken_now old wire member ++ l) (take-zero (old.waiting wire)) ∙ append-nil (taken_now old wire member) in
        subst (Takes wire member before after into') (sym (halted r (is ∙ closes.0))) (takes TookHalted (waits, taken))
    by_took TookFailed fits y closes = subst (Takes wire member before after into') (sym (failed r (is ∙ closes.0))) (takes TookFailed y.took)
    by_took TookHalted fits y closes = subst (Takes wire member before after into') (sym (halted r (is ∙ closes.0))) (takes TookHalted y.took)

  -- one more moment was made by an act that didn't fail
  module _ (by : ℕ) (part : Part) (passed : Act) (act : Acts by part old new passed) (small : old.now ≤ top) where
    one_more : passed ≢ Failed → new.now ≡ old.now + 1
    one_more ne = ⊎_elim (λ late. let at : old.now ≡ top = omega (arith, late, small) in absurd (ne (act.last at))) (λ below. omega (arith, act.time, below)) (split top old.now)

    -- lines of a place at that moment
    module _ (lines lines' : ℕ → List Line) (place : ℕ) (past : (i : ℕ) → i ≤ old.now → lines' i ≡ lines i)
        (small_ones : All (λ h. h.0 ≡ place → length (lines h.1) < length (lines (h.1 + 1)) → length (lines h.1) < length (lines old.now)) hs) where
      grown_line : new.now ≡ old.now + 1 → (l : Line) → lines' new.now ≡ lines old.now ++ l ∷ [] → is_torn lines' place new.now (place, old.now) ≡ true
      grown_line one l added =
          let then_is : lines' (old.now + 1) ≡ lines old.now ++ l ∷ [] = ap lines' (sym one) ∙ added in
          let more : length (lines' old.now) < length (lines' (old.now + 1)) = omega (arith, ap (λ (ls : List Line). length ls) (past old.now (omega arith)), ap (λ (ls : List Line). length ls) then_is, length-append (lines old.now) (l ∷ [])) in
          ap (λ (t : ℕ). is_torn lines' place t (place, old.now)) one ∙ torn_here lines' place old.now more

      not_grown : new.now ≡ old.now + 1 → (p : ℕ) → lines' new.now ≡ lines old.now → is_torn lines' place new.now (p, old.now) ≡ false
      not_grown one p same =
          let then_is : lines' (old.now + 1) ≡ lines' old.now = ap lines' (sym one) ∙ same ∙ sym (past old.now (omega arith)) in
          ap (λ (t : ℕ). is_torn lines' place t (p, old.now)) one ∙ torn_nothing lines' place p old.now then_is

      pub halved_torn : new.now ≡ old.now + 1 → (l : Line) → lines' new.now ≡ lines old.now ++ l ∷ [] → lines_at lines' place (hs ++ (place, old.now) ∷ []) new.now ≡ lines_at lines place hs old.now ++ record { text = l.text; whole = false } ∷ []
      halved_torn one l added = lines_torn lines lines' place old.now new.now hs past goes.later (each_before old hs within) small_ones l (grown_line one l added) added

      pub halved_same : new.now ≡ old.now + 1 → (p : ℕ) → lines' new.now ≡ lines old.now → lines_at lines' place (hs ++ (p, old.now) ∷ []) new.now ≡ lines_at lines place hs old.now
      halved_same one p same = lines_elsewhere lines lines' place old.now new.now hs past goes.later (each_before old hs within) (p, old.now) (not_grown one p same) same

      -- what a halved line leaves, of what the half of it left
      pub said_halved : new.now ≡ old.now + 1 → (line some : List ℕ) → Said some (lines old.now) (lines' new.now) Halted → Said line (lines_at lines place hs old.now) (lines_at lines' place (hs ++ (place, old.now) ∷ []) new.now) Halted
      said_halved one line some (inl same) = inl (halved_same one place same)
      said_halved one line some (inr (inl (text, added))) = inr (inl (text, halved_torn one (record { text = text; whole = false }) added))
      said_halved one line some (inr (inr added)) = inr (inl (some, halved_torn one (record { text = some; whole = true }) added))

  pub say_closed : (by : ℕ) (line some : List ℕ) (passed r : Act) → Acts by Console old new passed → old.now ≤ top → Says some old new passed → Closes by passed s.counts s'.counts r → Says line before (fused_view new (halved_by passed (0, old.now) hs) s' a') r
  say_closed by line some Failed r act small x closes = subst (λ (q : Act). Says line before after q) (sym closes.0) (says_passed line Failed (record { console = x.console; disks = x.disks; paper = x.paper; wires = x.wires }))
  say_closed by line some Done r act small x closes =
      let one = one_more by Console Done act small (λ f. absurd (cc)) in
      subst (λ (q : Act). Says line before (fused_view new (hs ++ (0, old.now) ∷ []) s' a') q) (sym closes.0) (record {
        console = said_halved by Console Done act small (consoles old.world) (consoles new.world) 0 (old_console old new goes hs) (on_console old hs within) one line some (inr (inr x.console));
        disks = x.disks;
        paper = λ m. halved_same by Console Done act small (papers old.world m) (papers new.world m) (m + 1) (old_paper old new goes hs m) (on_paper old hs m within) one 0 (x.paper m);
        wires = record { waiting = x.wires.waiting; taken = x.wires.taken; given = x.wires.given };
      })
  say_closed by line some Halted r act small x closes =
      let one = one_more by Console Halted act small (λ f. absurd (cc)) in
      subst (λ (q : Act). Says line before (fused_view new (hs ++ (0, old.now) ∷ []) s' a') q) (sym closes.0) (record {
        console = said_halved by Console Halted act small (consoles old.world) (consoles new.world) 0 (old_console old new goes hs) (on_console old hs within) one line some x.console;
        disks = x.disks;
        paper = λ m. halved_same by Console Halted act small (papers old.world m) (papers new.world m) (m + 1) (old_paper old new goes hs m) (on_paper old hs m within) one 0 (x.paper m);
        wires = record { waiting = x.wires.waiting; taken = x.wires.taken; given = x.wires.given };
      })

  -- a printer's line
  module _ (by : ℕ) (part : Part) (member : ℕ) (line some : List ℕ) (passed : Act) (act : Acts by part old new passed) (small : old.now ≤ top) (x : Prints member some old new passed) (one : new.now ≡ old.now + 1) where
    halved_print : Said some (papers old.world member old.now) (papers new.world member new.now) Halted → Prints member line before (fused_view new (hs ++ (member + 1, old.now) ∷ []) s' a') Halted
    halved_print said = record {
      paper = said_halved by part passed act small (papers old.world member) (papers new.world member) (member + 1) (old_paper old new goes hs member) (on_paper old hs member within) one line some said;
      others = λ m ne. halved_same by part passed act small (papers old.world m) (papers new.world m) (m + 1) (old_paper old new goes hs m) (on_paper old hs m within) one (member + 1) (x.others m ne);
      disks = x.disks;
      console = halved_same by part passed act small (consoles old.world) (consoles new.world) 0 (old_console old new goes hs) (on_console old hs within) one (member + 1) x.console;
      wires = record { waiting = x.wires.waiting; taken = x.wires.taken; given = x.wires.given };
    }

  pub print_closed : (by : ℕ) (part : Part) (member : ℕ) (line some : List ℕ) (passed r : Act) → Acts by part old new passed → old.now ≤ top → Prints member some old new passed → Closes by passed s.counts s'.counts r
      → Prints member line before (fused_view new (halved_by passed (member + 1, old.now) hs) s' a') r
  print_closed by part member line some Failed r act small x closes = subst (λ (q : Act). Prints member line before after q) (sym closes.0) (prints_passed member line Failed (record { paper = x.paper; others = x.others; disks = x.disks; console = x.console; wires = x.wires }))
  print_closed by part member line some Done r act small x closes =
      subst (λ (q : Act). Prints member line before (fused_view new (hs ++ (member + 1, old.now) ∷ []) s' a') q) (sym closes.0)
      (halved_print by part member line some Done act small x (one_more by part Done act small (λ f. absurd (cc))) (inr (inr x.paper)))
  print_closed by part member line some Halted r act small x closes =
      subst (λ (q : Act). Prints member line before (fused_view new (hs ++ (member + 1, old.now) ∷ []) s' a') q) (sym closes.0)
      (halved_print by part member line some Halted act small x (one_more by part Halted act small (λ f. absurd (cc))) x.paper)

-- what was halved stays within
pub record Grows (old new : View) : Type 0 where
  pub console : length (consoles old.world old.now) ≤ length (consoles new.world new.now)
  pub paper : (m : ℕ) → length (papers old.world m old.now) ≤ length (papers new.world m new.now)

said_longer : (line : List ℕ) (old new : List Line) (r : Act) → Said line old new r → length old ≤ length new
said_longer line old new Done is = omega (arith, ap (λ (l : List Line). length l) is, length-append old (record { text = line; whole = true } ∷ []))
said_longer line old new Failed is = omega (arith, ap (λ (l : List Line). length l) is)
said_longer line old new Halted (inl is) = omega (arith, ap (λ (l : List Line). length l) is)
said_longer line old new Halted (inr (inl (text, is))) = omega (arith, ap (λ (l : List Line). length l) is, length-append old (record { text = text; whole = false } ∷ []))
said_longer line old new Halted (inr (inr is)) = omega (arith, ap (λ (l : List Line). length l) is, length-append old (record { text = line; whole = true } ∷ []))

same_longer : (old new : List Line) → new ≡ old → length old ≤ length new
same_longer old new is = omega (arith, ap (λ (l : List Line). length l) is)

pub grows_device : (dev : Dev) (old new : View) → OnDevice dev old new → Grows old new
grows_device dev old new x = record { console = same_longer (consoles old.world old.now) (consoles new.world new.now) x.console; paper = λ m. same_longer (papers old.world m old.now) (papers new.world m new.now) (x.paper m) }

pub grows_say : (line : List ℕ) (old new : View) (r : Act) → Says line old new r → Grows old new
grows_say line old new r x = record { console = said_longer line (consoles old.world old.now) (consoles new.world new.now) r x.console; paper = λ m. same_longer (papers old.world m old.now) (papers new.world m new.now) (x.paper m) }

pub grows_print : (member : ℕ) (line : List ℕ) (old new : View) (r : Act) → Prints member line old new r → Grows old new
grows_print member line old new r x = record {
  console = same_longer (consoles old.world old.now) (consoles new.world new.now) x.console;
  paper = λ m. ⊎_elim
      (λ same. subst (λ (k : ℕ). length (papers old.world k old.now) ≤ length (papers new.world k new.now)) (sym same) (said_longer line (papers old.world member old.now) (papers new.world member new.now) r x.paper))
      (λ ne. same_longer (papers old.world m old.now) (papers new.world m new.now) (x.others m ne))
      (same_or_not m member);
}

pub grows_give : (wire member : ℕ) (bytes : List ℕ) (old new : View) (r : Act) → GivesOn wire member bytes old new r → Grows old new
grows_give wire member bytes old new r x = record { console = same_longer (consoles old.world old.now) (consoles new.world new.now) x.console; paper = λ m. same_longer (papers old.world m old.now) (papers new.world m new.now) (x.paper m) }

pub grows_take : (wire member : ℕ) (into : List ℕ) (old new : View) (r : Took) → Takes wire member old new into r → Grows old new
grows_take wire member into old new r x = record { console = same_longer (consoles old.world old.now) (consoles new.world new.now) x.console; paper = λ m. same_longer (papers old.world m old.now) (papers new.world m new.now) (x.paper m) }

module _ (old new : View) (goes : Goes old new) (grows : Grows old new) where
  still_one : (h : Halved) → IsWithin old h → IsWithin new h
  still_one h w = record {
    before = omega (arith, w.before, goes.later);
    console = λ at more. longer (consoles old.world) (consoles new.world) (old_console old new goes []) grows.console (w.console at) more;
    paper = λ m at more. longer (papers old.world m) (papers new.world m) (old_paper old new goes [] m) (grows.paper m) (w.paper m at) more;
  } where
    longer : (a b : ℕ → List Line) → ((i : ℕ) → i ≤ old.now → b i ≡ a i) → length (a old.now) ≤ length (b new.now) → (length (a h.1) < length (a (h.1 + 1)) → length (a h.1) < length (a old.now)) → length (b h.1) < length (b (h.1 + 1)) → length (b h.1) < length (b new.now)
    longer a b past le was more =
        let here : length (b h.1) ≡ length (a h.1) = ap (λ (l : List Line). length l) (past h.1 (omega (arith, w.before))) in
        let there : length (b (h.1 + 1)) ≡ length (a (h.1 + 1)) = ap (λ (l : List Line). length l) (past (h.1 + 1) (omega (arith, w.before))) in
        omega (arith, here, le, was (omega (arith, more, here, there)))

  pub still_within : (hs : List Halved) → AreWithin old hs → AreWithin new hs
  still_within hs within k d lt = still_one (slice_index_or hs k d) (within k d lt)

  pub within_halved : (p : ℕ) (hs : List Halved) (passed : Act) → (passed ≢ Failed → new.now ≡ old.now + 1) → AreWithin old hs → AreWithin new (halved_by passed (p, old.now) hs)
  within_halved p hs Failed one within = still_within hs within
  within_halved p hs Done one within = All-append (IsWithin new) hs ((p, old.now) ∷ []) (still_within hs within) (All-cons (IsWithin new) (p, old.now) [] (last p (one (λ f. absurd (cc)))) (All-nil (IsWithin new))) where
    last : (p : ℕ) → new.now ≡ old.now + 1 → IsWithin new (p, old.now)
    last p one = record { before = omega (arith, one); console = λ at more. subst (λ (t : ℕ). length (consoles new.world old.now) < length (consoles new.world t)) (sym one) more; paper = λ m at more. subst (λ (t : ℕ). length (papers new.world m old.now) < length (papers new.world m t)) (sym one) more }
  within_halved p hs Halted one within = All-append (IsWithin new) hs ((p, old.now) ∷ []) (still_within hs within) (All-cons (IsWithin new) (p, old.now) [] (last p (one (λ f. absurd (cc)))) (All-nil (IsWithin new))) where
    last : (p : ℕ) → new.now ≡ old.now + 1 → IsWithin new (p, old.now)
    last p one = record { before = omega (arith, one); console = λ at more. subst (λ (t : ℕ). length (consoles new.world old.now) < length (consoles new.world t)) (sym one) more; paper = λ m at more. subst (λ (t : ℕ). length (papers new.world m old.now) < length (papers new.world m t)) (sym one) more }

-- a renewal
keeps_lost : (dev : Dev) (old new : View) (lost : Part → Bool) → OnDevice dev old new → OnDevice dev old (with_lost new lost)
keeps_lost dev old new lost x = record { others = x.others; console = x.console; paper = x.paper; wires = record { waiting = x.wires.waiting; taken = x.wires.taken; given = x.wires.given } }

module _ (dev : Dev) (old new : View) (hs : List Halved) (result : Act) (act : Renews dev old new result) (within : AreWithin old hs) (x : RenewsThere dev old new result) where
  pub renews_passed : (s : Stops) (a : List ℕ) → RenewsThere dev (fused_view old hs s a) (fused_view new hs s a) result
  renews_passed s a = record {
    disk = x.disk;
    lost = x.lost;
    only = keeps_lost dev (fused_view old hs s a) (fused_view (with_lost new old.lost) hs s a) new.lost
        (device_passed old (with_lost new old.lost) hs s a s a (renews_goes dev old new result act) within dev (keeps_lost dev old new old.lost x.only));
  }

  pub renews_within : AreWithin new hs
  renews_within k d lt = record { before = w.before; console = w.console; paper = w.paper } where
    w : IsWithin (with_lost new old.lost) (slice_index_or hs k d)
    w = still_within old (with_lost new old.lost) (renews_goes dev old new result act) (grows_device dev old (with_lost new old.lost) (keeps_lost dev old new old.lost x.only)) hs within k d lt

-- a plant that made one moment, unless it failed
pub made_one : (by : ℕ) (part : Part) (old new : View) (passed : Act) → Acts by part old new passed → old.now ≤ top → passed ≢ Failed → new.now ≡ old.now + 1
made_one by part old new passed act small ne = ⊎_elim (λ late. let at : old.now ≡ top = omega (arith, late, small) in absurd (ne (act.last at))) (λ below. omega (arith, act.time, below)) (split top old.now)
