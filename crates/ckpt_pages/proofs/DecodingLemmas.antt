-- What pages spell is found, and is one value.
use Rattle.std.proofs.Common.{◌≡◌, ℕ, ◌+◌, ◌-◌, ◌*◌, ◌/◌, ◌%◌, ◌≤◌, ◌<◌, List, [], ◌∷◌, length, get_or, drop, map, replicate, Option, None, Result, Ok, Err, refl, sym, ap, subst, ◌∙◌, All, inl, inr, arith}
use Rattle.std.specs.Prelude.{IfOk, IfErr, MatchResult, min}
use Rattle.std.proofs.lemmas.Bool.{cases_lt}
use Rattle.std.proofs.lemmas.List.{ext_get_or, get_or-take, get_or-drop}
use Rattle.mas_types.specs.declared.ids.Name8.{Name8}
use Rattle.mas_types.specs.declared.ids.Page.{Page}
use Rattle.mas_types.specs.declared.queues.LineCount.{LineCount}
use Rattle.mas_types.specs.declared.queues.Owner.{Owner}
use Rattle.mas_types.specs.declared.queues.Owner.TheVariants as owner
use Rattle.mas_types.specs.declared.queues.Route.{Route}
use Rattle.mas_types.specs.declared.queues.Setting.{Setting}
use Rattle.mas_types.specs.Fit.{IsSetting}
use Rattle.mas_types.specs.Starts.{default_setting, no_count}
use Rattle.lay_bytes.specs.declared.records.JobRec.{JobRec}
use Rattle.lay_bytes.specs.declared.records.OutRec.{OutRec}
use Rattle.lay_bytes.specs.Slots.{job_slot, output_slot, owner_entry, IsJobRec, IsOutRec, IsOwner, IfUsed}
use Rattle.lay_bytes.proofs.SlotLemmas.{job_length, job_one, output_length, output_one, owner_length, owner_one}
use Rattle.ckpt_pages.specs.declared.entries.PageNo.{PageNo}
use Rattle.ckpt_pages.specs.declared.entries.PageNo.TheVariants.{BadPage, NoMemory}
use Rattle.ckpt_pages.specs.declared.header.Header.{Header}
use Rattle.ckpt_pages.specs.declared.nodes.Nodes.{Nodes}
use Rattle.ckpt_pages.specs.declared.slots.Slots.{Slots}
use Rattle.ckpt_tables.specs.declared.tables.Tables.{Tables}
use Rattle.ckpt_tables.specs.Shape.{HasSpelling}
use Rattle.ckpt_pages.specs.Headers.{IsHeader, NoHeader, header_with}
use Rattle.ckpt_pages.specs.Nodes.{AreNodes, node_page}
use Rattle.ckpt_tables.specs.Pages.{filled, filled_to, part, page_in, page_of, setting_entry}
use Rattle.ckpt_pages.specs.Reading.{ReadsEntries, AreNoEntries, IfBadPage}
use Rattle.ckpt_pages.specs.Slots.{made, AreSlots, AreFront}
use Rattle.mas_types.specs.declared.jobs.Text.{Text}
use Rattle.mas_types.specs.declared.queues.Queue.{Queue}
use Rattle.ckpt_pages.specs.QueueOf.{queue_of}
use Rattle.ckpt_pages.specs.StandsFor.{StandsFor}
use Rattle.ckpt_pages.specs.Checkpoints.{IsCheckpoint, IsSpelling, IsLeastBad}
use Rattle.ckpt_pages.specs.Kinds.{setting_size, setting_apart}
use Rattle.ckpt_pages.proofs.EntryLemmas.{one_list}
use Rattle.ckpt_pages.proofs.HeaderLemmas.{numbers_apart, numbers_of, cut_of}
use Rattle.ckpt_pages.proofs.NodeLemmas.{nodes_one}
use Rattle.ckpt_pages.proofs.CheckpointLemmas.{spelled_before, all_spelled, job_page, output_page, owner_page, any_name, any_is_name, any_members, any_lines, any_routes, any_jobs, any_outputs, any_owners}
use Rattle.ckpt_pages.proofs.SlotPageLemmas.{page_entries, part_entries, same_header}

-- ---- the least page that is no spelling

pub bad_0 : (pages : List Page) → NoHeader pages → IsLeastBad pages 0
bad_0 pages none = record {
  within = λ some. absurd (omega arith);
  before = λ q lt. absurd (omega arith);
  bad = λ s. none s.tables s.level s.levels s.fit s.ages s.count s.header;
}

pub bad_1 : (h : Header) (pages : List Page) (bytes : List ℕ) → IsHeader h pages → page_in pages 1 ≡ bytes → AreNoEntries setting_entry IsSetting h.members bytes → IsLeastBad pages 1
bad_1 h pages bytes is here none =
    let total : 1 < length pages = omega (arith, is.count) in
    record {
      within = λ some. total;
      before = spelled_before h any_name (replicate h.members default_setting) (replicate 8 no_count) [] (replicate h.jobs None) (replicate h.outputs None) (replicate (h.volumes * h.groups) owner.Free) pages is
          (record { node_fit = any_is_name; members_are = any_members h; lines_are = any_lines; routes_are = any_routes; jobs_are = any_jobs h; outputs_are = any_outputs h; owners_are = any_owners h })
          1
          (record {
            second = λ some. absurd (omega (arith, some));
            third = λ some. absurd (omega (arith, some));
            of_jobs = λ q lt some. absurd (omega (arith, lt));
            of_outputs = λ q lt some. absurd (omega (arith, lt));
            of_owners = λ q lt some. absurd (omega (arith, lt));
          })
          (omega (arith, total));
      bad = λ s.
          let same = same_header pages h is s.tables s.level s.levels s.fit s.ages s.header in
          let count : s.tables.config.members ≡ h.members = ap (λ (k : Header). k.members) (sym same) in
          none s.tables.members (page_entries setting_entry IsSetting 128 setting_size h.members bytes s.tables.members s.fit.shape.settings (s.fit.shape.members ∙ count) (omega (arith, is.numbers.members.1)) (sym here ∙ s.is));
    }

-- the nodes of tables are those of their page 2
pub nodes_of : (t : Tables) (page : List ℕ) → HasSpelling t → page ≡ node_page t.config.node t.lines t.routes → AreNodes page (record { node = t.config.node; lines = t.lines; routes = t.routes })
nodes_of t page fit e = record { node = fit.shape.config.node; count = fit.shape.lines; lines = fit.lines; few = fit.shape.routes; routes = fit.routes; is = e }

pub bad_2 : (h : Header) (pages : List Page) (bytes : List ℕ) (members : List Setting) → IsHeader h pages → (length members ≡ h.members) × All IsSetting members → page_in pages 1 ≡ filled (map setting_entry members) → page_in pages 2 ≡ bytes
    → ((n : Nodes) → AreNodes bytes n → ⊥) → IsLeastBad pages 2
bad_2 h pages bytes members is are one here none =
    let total : 2 < length pages = omega (arith, is.count) in
    record {
      within = λ some. total;
      before = spelled_before h any_name members (replicate 8 no_count) [] (replicate h.jobs None) (replicate h.outputs None) (replicate (h.volumes * h.groups) owner.Free) pages is
          (record { node_fit = any_is_name; members_are = are; lines_are = any_lines; routes_are = any_routes; jobs_are = any_jobs h; outputs_are = any_outputs h; owners_are = any_owners h })
          2
          (record {
            second = λ some. one;
            third = λ some. absurd (omega (arith, some));
            of_jobs = λ q lt some. absurd (omega (arith, lt));
            of_outputs = λ q lt some. absurd (omega (arith, lt));
            of_owners = λ q lt some. absurd (omega (arith, lt));
          })
          (omega (arith, total));
      bad = λ s. none (record { node = s.tables.config.node; lines = s.tables.lines; routes = s.tables.routes }) (nodes_of s.tables bytes s.fit (sym here ∙ s.is));
    }

-- ---- what is found

-- the members of page 1
pub record AreMembers (h : Header) (members : List Setting) (pages : List Page) : Type 0 where
  pub fit : (length members ≡ h.members) × All IsSetting members
  pub page : page_in pages 1 ≡ filled (map setting_entry members)

pub members_found : (h : Header) (pages : List Page) (bytes : List ℕ) (members : List Setting) → page_in pages 1 ≡ bytes → length bytes ≡ 4096 → ReadsEntries setting_entry IsSetting h.members bytes [] members → AreMembers h members pages
members_found h pages bytes members here size r = record {
  fit = (ap length r.is ∙ r.reads.len, subst (All IsSetting) (sym r.is) r.reads.fit);
  page = here ∙ r.reads.is ∙ ap (λ (k : ℕ). filled_to k (map setting_entry r.more)) size ∙ ap (λ (xs : List Setting). filled (map setting_entry xs)) (sym r.is);
}

pub front_found : (h : Header) (pages : List Page) (bytes : List ℕ) (members : List Setting) (nodes : Nodes) → AreMembers h members pages → page_in pages 2 ≡ bytes → AreNodes bytes nodes → AreFront h nodes.node members nodes.lines nodes.routes pages
front_found h pages bytes members nodes m here n = record {
  node_fit = n.node;
  members_are = m.fit;
  lines_are = (n.count, n.lines);
  routes_are = (n.few, n.routes);
  second = m.page;
  third = here ∙ n.is;
}

pub tables_found : (h : Header) (node : Name8) (members : List Setting) (lines : List LineCount) (routes : List Route) (s : Slots) (pages : List Page) → IsHeader h pages → AreFront h node members lines routes pages → AreSlots h pages s
    → IsCheckpoint pages (made h node members lines routes s.jobs s.outputs s.owners)
tables_found h node members lines routes s pages is front slots =
    all_spelled h node members lines routes s.jobs s.outputs s.owners pages is
    (record {
      node_fit = front.node_fit;
      members_are = front.members_are;
      lines_are = front.lines_are;
      routes_are = front.routes_are;
      jobs_are = (slots.of_jobs.len, slots.of_jobs.fit);
      outputs_are = (slots.of_outputs.len, slots.of_outputs.fit);
      owners_are = (slots.of_owners.len, slots.of_owners.fit);
    })
    (record {
      second = λ some. front.second;
      third = λ some. front.third;
      of_jobs = λ q lt some. slots.of_jobs.each q some;
      of_outputs = λ q lt some. slots.of_outputs.each q some;
      of_owners = λ q lt some. slots.of_owners.each q some;
    })

-- ---- one value

-- lists with the same parts are the same
by_parts : {X : Type 0} (a : ℕ) (xs ys : List X) → 0 < a → length xs ≡ length ys → ((q : ℕ) → a * q < length xs → part a q xs ≡ part a q ys) → xs ≡ ys
by_parts a [] [] some len same = refl
by_parts a [] (y ∷ ys) some len same = absurd (omega (arith, len))
by_parts {X = X} a (x ∷ xs) ys some len same =
    ext_get_or x (x ∷ xs) ys len (λ i lt.
    let q : ℕ = i / a in
    let k : ℕ = i % a in
    let sum : a * (i / a) + i % a ≡ i = omega (arith, some) in
    let room : i % a < a = omega (arith, some) in
    let e = same (i / a) (omega (arith, sum, lt)) in
    ap (λ (n : ℕ). get_or (x ∷ xs) n x) (sym sum) ∙ sym (get_or-drop (a * (i / a)) (x ∷ xs) (i % a) x) ∙ sym (get_or-take a (drop (a * (i / a)) (x ∷ xs)) (i % a) x room)
    ∙ ap (λ (part : List X). get_or part (i % a) x) e
    ∙ get_or-take a (drop (a * (i / a)) ys) (i % a) x room ∙ get_or-drop (a * (i / a)) ys (i % a) x ∙ ap (λ (n : ℕ). get_or ys n x) sum)

one_run : {X : Type 0} (slot : X → List ℕ) (Fits : X → Type 0) (w : ℕ) (long : (x : X) → Fits x → length (slot x) ≡ w) (apart : (x y : X) → Fits x → Fits y → slot x ≡ slot y → x ≡ y)
    (a first : ℕ) (pages : List Page) (xs ys : List X) → 0 < a → w * a ≤ 4096 → All Fits xs → All Fits ys → length xs ≡ length ys
    → ((q : ℕ) → a * q < length xs → page_in pages (first + q) ≡ filled (map slot (part a q xs))) → ((q : ℕ) → a * q < length ys → page_in pages (first + q) ≡ filled (map slot (part a q ys))) → xs ≡ ys
one_run slot Fits w long apart a first pages xs ys some room fx fy len px py =
    by_parts a xs ys some len (λ q lt.
    one_list slot Fits w long apart (min (length xs - a * q) a) (page_in pages (first + q)) (part a q xs) (part a q ys)
    (part_entries slot Fits w long a (length xs) q (page_in pages (first + q)) xs fx refl room (px q lt))
    (part_entries slot Fits w long a (length xs) q (page_in pages (first + q)) ys fy (sym len) room (py q (omega (arith, lt, len)))))

same_made : (h h' : Header) (n n' : Name8) (ms ms' : List Setting) (ls ls' : List LineCount) (rs rs' : List Route) (js js' : List (Option JobRec)) (os os' : List (Option OutRec)) (gs gs' : List Owner)
    → h ≡ h' → n ≡ n' → ms ≡ ms' → ls ≡ ls' → rs ≡ rs' → js ≡ js' → os ≡ os' → gs ≡ gs' → made h n ms ls rs js os gs ≡ made h' n' ms' ls' rs' js' os' gs'
same_made h h' n n' ms ms' ls ls' rs rs' js js' os os' gs gs' e1 e2 e3 e4 e5 e6 e7 e8 = rw (e1, e2, e3, e4, e5, e6, e7, e8) refl

page_is : (pages : List Page) (t : Tables) (c : IsCheckpoint pages t) (p : ℕ) → p < length pages → page_in pages p ≡ page_of t c.levels p
page_is pages t c p lt = c.spell.each p lt

jobs_page : (pages : List Page) (t : Tables) → IsCheckpoint pages t → (q : ℕ) → 16 * q < length t.jobs → page_in pages (3 + q) ≡ filled (map job_slot (part 16 q t.jobs))
jobs_page pages t c q lt =
    let jobs = c.fit.shape.jobs in
    let end : 3 + q < 3 + t.config.jobs / 16 = omega (arith, lt, jobs, c.fit.shape.config.jobs.2) in
    let e : 3 + q - 3 ≡ q = omega arith in
    c.spell.each (3 + q) (omega (arith, end, c.spell.count)) ∙ job_page t c.levels (3 + q) (omega arith) end ∙ ap (λ (k : ℕ). filled (map job_slot (part 16 k t.jobs))) e

outputs_page : (pages : List Page) (t : Tables) → IsCheckpoint pages t → (q : ℕ) → 32 * q < length t.outputs → page_in pages (3 + t.config.jobs / 16 + q) ≡ filled (map output_slot (part 32 q t.outputs))
outputs_page pages t c q lt =
    let outputs = c.fit.shape.outputs in
    let end : 3 + t.config.jobs / 16 + q < 3 + t.config.jobs / 16 + t.config.outputs / 32 = omega (arith, lt, outputs, c.fit.shape.config.outputs.2) in
    let e : 3 + t.config.jobs / 16 + q - (3 + t.config.jobs / 16) ≡ q = omega arith in
    c.spell.each (3 + t.config.jobs / 16 + q) (omega (arith, end, c.spell.count)) ∙ output_page t c.levels (3 + t.config.jobs / 16 + q) (omega arith) end ∙ ap (λ (k : ℕ). filled (map output_slot (part 32 k t.outputs))) e

owners_page : (pages : List Page) (t : Tables) → IsCheckpoint pages t → (q : ℕ) → 512 * q < length t.owners → page_in pages (3 + t.config.jobs / 16 + t.config.outputs / 32 + q) ≡ filled (map owner_entry (part 512 q t.owners))
owners_page pages t c q lt =
    let owners = c.fit.shape.owners in
    let e : 3 + t.config.jobs / 16 + t.config.outputs / 32 + q - (3 + t.config.jobs / 16 + t.config.outputs / 32) ≡ q = omega arith in
    c.spell.each (3 + t.config.jobs / 16 + t.config.outputs / 32 + q) (omega (arith, lt, owners, c.spell.count)) ∙ owner_page t c.levels (3 + t.config.jobs / 16 + t.config.outputs / 32 + q) (omega arith)
    ∙ ap (λ (k : ℕ). filled (map owner_entry (part 512 k t.owners))) e

pub one_value : (pages : List Page) (t u : Tables) → IsCheckpoint pages t → IsCheckpoint pages u → t ≡ u
one_value pages t u c d =
    let some : 2 < length pages = omega (arith, c.spell.count) in
    let one = cut_of t c.level c.levels (page_in pages 0) c.ages (c.spell.each 0 (omega arith)) in
    let two = cut_of u d.level d.levels (page_in pages 0) d.ages (d.spell.each 0 (omega arith)) in
    let head : header_with t c.level ≡ header_with u d.level =
    numbers_apart (header_with t c.level) (header_with u d.level) (numbers_of t c.level c.levels c.fit c.ages) (numbers_of u d.level d.levels d.fit d.ages) (sym one.head ∙ two.head) in
    let members_count : u.config.members ≡ t.config.members = ap (λ (h : Header). h.members) (sym head) in
    let few : 128 * t.config.members ≤ 4096 = omega (arith, c.fit.shape.config.members.1) in
    let members : t.members ≡ u.members =
    one_list setting_entry IsSetting 128 setting_size setting_apart t.config.members (page_in pages 1) t.members u.members
    (page_entries setting_entry IsSetting 128 setting_size t.config.members (page_in pages 1) t.members c.fit.shape.settings c.fit.shape.members few (c.spell.each 1 (omega arith)))
    (page_entries setting_entry IsSetting 128 setting_size t.config.members (page_in pages 1) u.members d.fit.shape.settings (d.fit.shape.members ∙ members_count) few (d.spell.each 1 (omega arith))) in
    let nodes = nodes_one (page_in pages 2) (record { node = t.config.node; lines = t.lines; routes = t.routes }) (record { node = u.config.node; lines = u.lines; routes = u.routes })
    (nodes_of t (page_in pages 2) c.fit (c.spell.each 2 some)) (nodes_of u (page_in pages 2) d.fit (d.spell.each 2 some)) in
    let jobs_count : t.config.jobs ≡ u.config.jobs = ap (λ (h : Header). h.jobs) head in
    let jobs_length : length t.jobs ≡ length u.jobs = c.fit.shape.jobs ∙ jobs_count ∙ sym d.fit.shape.jobs in
    let jobs : t.jobs ≡ u.jobs = one_run job_slot (IfUsed IsJobRec) 256 job_length job_one 16 3 pages t.jobs u.jobs (omega arith) (omega arith) c.fit.jobs d.fit.jobs jobs_length (jobs_page pages t c) (jobs_page pages u d) in
    let outputs_count : t.config.outputs ≡ u.config.outputs = ap (λ (h : Header). h.outputs) head in
    let outputs_length : length t.outputs ≡ length u.outputs = c.fit.shape.outputs ∙ outputs_count ∙ sym d.fit.shape.outputs in
    let outputs_first : 3 + u.config.jobs / 16 ≡ 3 + t.config.jobs / 16 = ap (λ (k : ℕ). 3 + k / 16) (sym jobs_count) in
    let outputs : t.outputs ≡ u.outputs =
    one_run output_slot (IfUsed IsOutRec) 128 output_length output_one 32 (3 + t.config.jobs / 16) pages t.outputs u.outputs (omega arith) (omega arith) c.fit.outputs d.fit.outputs outputs_length (outputs_page pages t c)
    (λ q lt. ap (λ (k : ℕ). page_in pages (k + q)) (sym outputs_first) ∙ outputs_page pages u d q lt) in
    let owners_count : t.config.volumes * t.config.groups ≡ u.config.volumes * u.config.groups = ap (λ (h : Header). h.volumes * h.groups) head in
    let owners_length : length t.owners ≡ length u.owners = c.fit.shape.owners ∙ owners_count ∙ sym d.fit.shape.owners in
    let owners_first : 3 + u.config.jobs / 16 + u.config.outputs / 32 ≡ 3 + t.config.jobs / 16 + t.config.outputs / 32 = ap (λ (h : Header). 3 + h.jobs / 16 + h.outputs / 32) (sym head) in
    let owners : t.owners ≡ u.owners =
    one_run owner_entry IsOwner 8 owner_length owner_one 512 (3 + t.config.jobs / 16 + t.config.outputs / 32) pages t.owners u.owners (omega arith) (omega arith) c.fit.owners d.fit.owners owners_length (owners_page pages t c)
    (λ q lt. ap (λ (k : ℕ). page_in pages (k + q)) (sym owners_first) ∙ owners_page pages u d q lt) in
    same_made (header_with t c.level) (header_with u d.level) t.config.node u.config.node t.members u.members t.lines u.lines t.routes u.routes t.jobs u.jobs t.outputs u.outputs t.owners u.owners
    head (ap (λ (n : Nodes). n.node) nodes) members (ap (λ (n : Nodes). n.lines) nodes) (ap (λ (n : Nodes). n.routes) nodes) jobs outputs owners

-- pages have one level at most
one_level : (pages : List Page) (t u : Tables) (c : IsCheckpoint pages t) (d : IsCheckpoint pages u) → c.level ≡ d.level
one_level pages t u c d =
    let some : 0 < length pages = omega (arith, c.spell.count) in
    let one = cut_of t c.level c.levels (page_in pages 0) c.ages (c.spell.each 0 some) in
    let two = cut_of u d.level d.levels (page_in pages 0) d.ages (d.spell.each 0 some) in
    ap (λ (h : Header). h.level)
    (numbers_apart (header_with t c.level) (header_with u d.level) (numbers_of t c.level c.levels c.fit c.ages) (numbers_of u d.level d.levels d.fit d.ages) (sym one.head ∙ two.head))

abbrev checkpoint_of : (pages : List Page) (level : ℕ) (deck : JobRec → Text) (print : OutRec → Text) (Q : Queue) (s : StandsFor pages level deck print Q) → IsCheckpoint pages s.tables
checkpoint_of pages level deck print Q s = record { level = level; levels = s.levels; fit = s.fit; ages = s.ages; spell = s.spell }

pub one_queue : (pages : List Page) (level age : ℕ) (deck : JobRec → Text) (print : OutRec → Text) (Q R : Queue) → StandsFor pages level deck print Q → StandsFor pages age deck print R → (Q ≡ R) × (level ≡ age)
one_queue pages level age deck print Q R s r =
    let c = checkpoint_of pages level deck print Q s in
    let d = checkpoint_of pages age deck print R r in
    let same : s.tables ≡ r.tables = one_value pages s.tables r.tables c d in
    (sym s.is ∙ ap (λ (t : Tables). queue_of t deck print) same ∙ r.is, one_level pages s.tables r.tables c d)

-- ---- no other answer

spelling_of : (pages : List Page) (t : Tables) (p : ℕ) → IsCheckpoint pages t → p < length pages → IsSpelling pages p
spelling_of pages t p c lt = record {
  tables = t;
  level = c.level;
  levels = c.levels;
  fit = c.fit;
  ages = c.ages;
  count = c.spell.count;
  header = c.spell.each 0 (omega (arith, c.spell.count));
  is = c.spell.each p lt;
}

not_bad : (pages : List Page) (t : Tables) (p : ℕ) → IsCheckpoint pages t → IsLeastBad pages p → ⊥
not_bad pages t p c bad = bad.bad (spelling_of pages t p c (inside p bad.within))
  where
    inside : (p : ℕ) → (1 ≤ p → p < length pages) → p < length pages
    inside p h = elim (cases_lt p 1) [
      | inl zero_is ↦ omega (arith, zero_is, c.spell.count)
      | inr some ↦ h some
    ]

pub no_other : (pages : List Page) (r : Result Tables PageNo) → IfOk r (IsCheckpoint pages) → IfErr r (λ e. IfBadPage e (IsLeastBad pages)) → (t : Tables) → IsCheckpoint pages t → MatchResult r (λ x. x ≡ t) (λ e. e ≡ NoMemory)
no_other pages (Ok x) found bad t c = one_value pages x t found c
no_other pages (Err (BadPage p)) found bad t c = absurd (not_bad pages t p c bad)
no_other pages (Err NoMemory) found bad t c = refl
