-- Page 2: what is read is spelled so, and what is spelled so is read.
use Rattle.std.proofs.Common.{◌≡◌, ℕ, ◌-◌, ◌*◌, ◌≤◌, ◌<◌, List, [], ◌∷◌, ◌++◌, length, get_or, take, drop, map, replicate, true, None, Some, refl, sym, ap, subst, ◌∙◌, append_assoc, All, arith}
use Rattle.std.specs.List.{concat, slice_index}
use Rattle.std.proofs.lemmas.List.{length-append, length-replicate, get_or-take, get_or-drop}
use Rattle.mas_types.specs.declared.ids.Name8.{Name8}
use Rattle.mas_types.specs.declared.queues.LineCount.{LineCount}
use Rattle.mas_types.specs.declared.queues.Route.{Route}
use Rattle.mas_types.specs.Fit.{IsName}
use Rattle.mas_types.specs.Limits.{routes_most}
use Rattle.mas_types.specs.Names.{is_name8}
use Rattle.lay_bytes.specs.Fields.{piece, first_bad, pieces}
use Rattle.lay_bytes.proofs.Pieces.{AreSpelled, each_stands, join_pieces, cons_same, between, is_most, spelled_again, fits_piece}
use Rattle.lay_bytes.proofs.SlotLemmas.{byte_takes, zeros_take, none_some}
use Rattle.lay_bytes.proofs.NameLemmas.{name_from, name_to}
use Rattle.ckpt_pages.specs.declared.nodes.Nodes.{Nodes}
use Rattle.ckpt_tables.specs.Shape.{IsRoute, IsLineCount}
use Rattle.ckpt_pages.specs.Fields.{node_fields}
use Rattle.ckpt_pages.specs.Nodes.{names_of, node_page, AreNodes}
use Rattle.ckpt_tables.specs.Pages.{filled_to, line_entry, route_entry}
use Rattle.ckpt_pages.specs.Reading.{AreEntries, ReadsEntries, AreNoEntries}
use Rattle.ckpt_pages.specs.Kinds.{line_size, line_apart, route_size, route_apart}
use Rattle.ckpt_pages.proofs.Putting.{concat-append}
use Rattle.ckpt_pages.proofs.EntryLemmas.{concat_length, one_list}
use Rattle.ckpt_pages.proofs.HeaderLemmas.{split_front, join_front}

-- the lines and zeros, and then the routes
abbrev behind_names : List LineCount → List Route → List (List ℕ)
behind_names lines routes = map line_entry lines ++ (replicate 768 0 ∷ map route_entry routes)

lines_length : (lines : List LineCount) → All IsLineCount lines → length lines ≡ 8 → length (concat (map line_entry lines)) ≡ 128
lines_length lines fit len = concat_length line_entry IsLineCount 16 line_size lines fit ∙ ap (λ (n : ℕ). 16 * n) len

-- the lines with their zeros are one piece
one_piece : (lines : List LineCount) (routes : List Route) → concat (behind_names lines routes) ≡ concat ((concat (map line_entry lines) ++ replicate 768 0) ∷ map route_entry routes)
one_piece lines routes = concat-append (map line_entry lines) (replicate 768 0 ∷ map route_entry routes) ∙ sym (append_assoc (concat (map line_entry lines)) (replicate 768 0) (concat (map route_entry routes)))

one_filled : (size : ℕ) (lines : List LineCount) (routes : List Route) → filled_to size (behind_names lines routes) ≡ filled_to size ((concat (map line_entry lines) ++ replicate 768 0) ∷ map route_entry routes)
one_filled size lines routes = ap (λ (x : List ℕ). x ++ replicate (size - length x) 0) (one_piece lines routes)

piece_length : (lines : List LineCount) → length (concat (map line_entry lines)) ≡ 128 → length (concat (map line_entry lines) ++ replicate 768 0) ≡ 896
piece_length lines len = omega (arith, length-append (concat (map line_entry lines)) (replicate 768 0), length-replicate {A = ℕ} 768 0, len)

-- 128 bytes of lines and zeros up to 896
lines_filled : (lines : List LineCount) → length (concat (map line_entry lines)) ≡ 128 → concat (map line_entry lines) ++ replicate 768 0 ≡ filled_to 896 (map line_entry lines)
lines_filled lines len = let n : 768 ≡ 896 - length (concat (map line_entry lines)) = omega (arith, len) in ap (λ (k : ℕ). concat (map line_entry lines) ++ replicate k 0) n

-- page 2 in three
pub record IsCutInThree (node : Name8) (lines : List LineCount) (routes : List Route) (head middle tail : List ℕ) : Type 0 where
  pub first : head ≡ concat (names_of node (length routes))
  pub second : middle ≡ filled_to 896 (map line_entry lines)
  pub third : tail ≡ filled_to 3072 (map route_entry routes)

names_length : (node : Name8) (count : ℕ) → length node.0 ≡ 8 → length (concat (names_of node count)) ≡ 128
names_length node count len = omega (arith, length-append node.0 (count ∷ (replicate 119 0 ++ [])), len)

pub cut_page : (page head rest middle tail : List ℕ) (n : Nodes) → AreNodes page n → head ≡ take 128 page → rest ≡ drop 128 page → middle ≡ take 896 rest → tail ≡ drop 896 rest
    → IsCutInThree n.node n.lines n.routes head middle tail
cut_page page head rest middle tail n h e1 e2 e3 e4 =
    let name = name_from n.node h.node in
    let size = lines_length n.lines h.lines h.count in
    let a = split_front (concat (names_of n.node (length n.routes))) (behind_names n.lines n.routes) 128 4096 (names_length n.node (length n.routes) name.0) in
    let b = split_front (concat (map line_entry n.lines) ++ replicate 768 0) (map route_entry n.routes) 896 3968 (piece_length n.lines size) in
    let rest_is : rest ≡ filled_to 3968 ((concat (map line_entry n.lines) ++ replicate 768 0) ∷ map route_entry n.routes) = e2 ∙ ap (drop 128) h.is ∙ a.1 ∙ one_filled 3968 n.lines n.routes in
    record {
      first = e1 ∙ ap (take 128) h.is ∙ a.0;
      second = e3 ∙ ap (take 896) rest_is ∙ b.0 ∙ lines_filled n.lines size;
      third = e4 ∙ ap (drop 896) rest_is ∙ b.1;
    }

pub join_page : (page head rest middle tail : List ℕ) (node : Name8) (lines : List LineCount) (routes : List Route) → IsName node → All IsLineCount lines → length lines ≡ 8
    → head ≡ take 128 page → rest ≡ drop 128 page → middle ≡ take 896 rest → tail ≡ drop 896 rest → IsCutInThree node lines routes head middle tail → page ≡ node_page node lines routes
join_page page head rest middle tail node lines routes name fit len e1 e2 e3 e4 h =
    let size = lines_length lines fit len in
    let rest_is : rest ≡ filled_to 3968 ((concat (map line_entry lines) ++ replicate 768 0) ∷ map route_entry routes) =
    join_front rest (concat (map line_entry lines) ++ replicate 768 0) (map route_entry routes) 896 3968 (piece_length lines size) (sym e3 ∙ h.second ∙ sym (lines_filled lines size)) (sym e4 ∙ h.third) in
    join_front page (concat (names_of node (length routes))) (behind_names lines routes) 128 4096 (names_length node (length routes) (name_from node name).0) (sym e1 ∙ h.first) (sym e2 ∙ rest_is ∙ sym (one_filled 3968 lines routes))

-- ---- the names

names_spelled : (node : Name8) (count : ℕ) → IsName node → count ≤ routes_most → AreSpelled node_fields (names_of node count)
names_spelled node count name few = (name_from node name, ((refl, between 0 routes_most count (omega arith) few), ((refl, refl), tt)))

-- what the first bytes say
pub record SaysNames (head : List ℕ) (node : Name8) (count : ℕ) : Type 0 where
  pub name : IsName node
  pub few : count ≤ routes_most
  pub is : head ≡ concat (names_of node count)

pub names_take : (head : List ℕ) (node : Name8) → length head ≡ 128 → ((i : ℕ) → get_or head i 0 < 256) → first_bad 0 node_fields head ≡ None → node.0 ≡ piece 0 8 head → SaysNames head node (slice_index (piece 8 1 head) 0)
names_take head node len fits good e =
    let s = each_stands 0 node_fields head (omega (arith, len)) fits good in
    let name = s.0 in let count = s.1.0 in let rest = s.1.1.0 in
    let same : names_of node (slice_index (piece 8 1 head) 0) ≡ pieces 0 node_fields head = cons_same _ _ _ _ e (cons_same _ _ _ _ (byte_takes _ refl refl count) (cons_same _ _ _ _ (zeros_take 119 rest) refl)) in
    record {
      name = name_to node (ap length e ∙ name.len) (subst (λ (x : List ℕ). is_name8 x ≡ true) (sym e) name.stands);
      few = is_most 0 routes_most _ count.stands;
      is = sym (join_pieces 0 node_fields head (sym len)) ∙ ap concat (sym same);
    }

pub names_said : (head : List ℕ) (node : Name8) (count : ℕ) → IsName node → count ≤ routes_most → head ≡ concat (names_of node count) → (first_bad 0 node_fields head ≡ None) × (slice_index (piece 8 1 head) 0 ≡ count)
names_said head node count name few e =
    let r = spelled_again node_fields (names_of node count) (names_spelled node count name few) in
    let cut : pieces 0 node_fields head ≡ names_of node count = ap (pieces 0 node_fields) e ∙ r.cut in
    let second : piece 8 1 head ≡ count ∷ [] = cc in
    (ap (first_bad 0 node_fields) e ∙ r.good, ap (λ (x : List ℕ). slice_index x 0) second)

-- ---- what the reader finds

pub head_fits : (page head : List ℕ) → head ≡ take 128 page → ((i : ℕ) → get_or page i 0 < 256) → (i : ℕ) → get_or head i 0 < 256
head_fits page head e fits i = subst (λ (x : List ℕ). get_or x i 0 < 256) (sym e) (fits_piece 0 128 page fits i)

count_at : (head : List ℕ) → slice_index (piece 8 1 head) 0 ≡ slice_index head 8
count_at head = get_or-take 1 (drop 8 head) 0 0 (omega arith) ∙ get_or-drop 8 head 0 0

pub few_routes : (page head : List ℕ) → head ≡ take 128 page → length head ≡ 128 → ((i : ℕ) → get_or page i 0 < 256) → first_bad 0 node_fields head ≡ None → slice_index head 8 ≤ 63
few_routes page head e len fits good =
    let h = names_take head (record { 0 = piece 0 8 head }) len (head_fits page head e fits) good refl in
    omega (arith, h.few, count_at head)

abbrev cut_simply : (page : List ℕ) (n : Nodes) → AreNodes page n → IsCutInThree n.node n.lines n.routes (take 128 page) (take 896 (drop 128 page)) (drop 896 (drop 128 page))
cut_simply page n h = cut_page page (take 128 page) (drop 128 page) (take 896 (drop 128 page)) (drop 896 (drop 128 page)) n h refl refl refl refl

pub no_names : (page head : List ℕ) (k : ℕ) → head ≡ take 128 page → first_bad 0 node_fields head ≡ Some k → (n : Nodes) → AreNodes page n → ⊥
no_names page head k e bad n h = none_some _ _ (names_said head n.node (length n.routes) h.node h.few (e ∙ (cut_simply page n h).first)).0 bad

count_is : (page head : List ℕ) → head ≡ take 128 page → (n : Nodes) → AreNodes page n → slice_index head 8 ≡ length n.routes
count_is page head e n h = sym (count_at head) ∙ (names_said head n.node (length n.routes) h.node h.few (e ∙ (cut_simply page n h).first)).1

pub no_lines : (page rest middle : List ℕ) → rest ≡ drop 128 page → middle ≡ take 896 rest → length middle ≡ 896 → AreNoEntries line_entry IsLineCount 8 middle → (n : Nodes) → AreNodes page n → ⊥
no_lines page rest middle e1 e2 len none n h =
    none n.lines (record { len = h.count; fit = h.lines; is = e2 ∙ ap (take 896) e1 ∙ (cut_simply page n h).second ∙ ap (λ (k : ℕ). filled_to k (map line_entry n.lines)) (sym len) })

pub no_routes : (page head rest tail : List ℕ) → head ≡ take 128 page → rest ≡ drop 128 page → tail ≡ drop 896 rest → length tail ≡ 3072 → AreNoEntries route_entry IsRoute (slice_index head 8) tail → (n : Nodes) → AreNodes page n → ⊥
no_routes page head rest tail e0 e1 e2 len none n h =
    none n.routes (record { len = sym (count_is page head e0 n h); fit = h.routes; is = e2 ∙ ap (drop 896) e1 ∙ (cut_simply page n h).third ∙ ap (λ (k : ℕ). filled_to k (map route_entry n.routes)) (sym len) })

pub nodes_found : (page head rest middle tail : List ℕ) (node : Name8) (lines : List LineCount) (routes : List Route)
    → head ≡ take 128 page → rest ≡ drop 128 page → middle ≡ take 896 rest → tail ≡ drop 896 rest → length head ≡ 128 → length middle ≡ 896 → length tail ≡ 3072
    → ((i : ℕ) → get_or page i 0 < 256) → first_bad 0 node_fields head ≡ None → node.0 ≡ piece 0 8 head
    → ReadsEntries line_entry IsLineCount 8 middle [] lines → ReadsEntries route_entry IsRoute (slice_index head 8) tail [] routes
    → AreNodes page (record { node = node; lines = lines; routes = routes })
nodes_found page head rest middle tail node lines routes e0 e1 e2 e3 len0 len1 len2 fits good named rl rr =
    let s = names_take head node len0 (head_fits page head e0 fits) good named in
    let count : length lines ≡ 8 = ap length rl.is ∙ rl.reads.len in
    let all_lines : All IsLineCount lines = subst (All IsLineCount) (sym rl.is) rl.reads.fit in
    let many : length routes ≡ slice_index (piece 8 1 head) 0 = ap length rr.is ∙ rr.reads.len ∙ sym (count_at head) in
    let cut : IsCutInThree node lines routes head middle tail = record {
      first = s.is ∙ ap (λ (k : ℕ). concat (names_of node k)) (sym many);
      second = rl.reads.is ∙ ap (λ (k : ℕ). filled_to k (map line_entry rl.more)) len1 ∙ ap (λ (xs : List LineCount). filled_to 896 (map line_entry xs)) (sym rl.is);
      third = rr.reads.is ∙ ap (λ (k : ℕ). filled_to k (map route_entry rr.more)) len2 ∙ ap (λ (xs : List Route). filled_to 3072 (map route_entry xs)) (sym rr.is);
    } in
    record {
      node = s.name;
      count = count;
      lines = all_lines;
      few = omega (arith, many, s.few);
      routes = subst (All IsRoute) (sym rr.is) rr.reads.fit;
      is = join_page page head rest middle tail node lines routes s.name all_lines count e0 e1 e2 e3 cut;
    }

-- ---- one value

same_nodes : (n n' : Name8) (ls ls' : List LineCount) (rs rs' : List Route) → n ≡ n' → ls ≡ ls' → rs ≡ rs' → ◌≡◌ {A = Nodes} (record { node = n; lines = ls; routes = rs }) (record { node = n'; lines = ls'; routes = rs' })
same_nodes n n' ls ls' rs rs' e1 e2 e3 = rw (e1, e2, e3) refl

names_cut : (page : List ℕ) (n : Nodes) → AreNodes page n → pieces 0 node_fields (take 128 page) ≡ names_of n.node (length n.routes)
names_cut page n h = ap (pieces 0 node_fields) (cut_simply page n h).first ∙ (spelled_again node_fields (names_of n.node (length n.routes)) (names_spelled n.node (length n.routes) h.node h.few)).cut

-- pages spell one value of nodes at most
pub nodes_one : (page : List ℕ) (n k : Nodes) → AreNodes page n → AreNodes page k → n ≡ k
nodes_one page n k hn hk =
    let names : names_of n.node (length n.routes) ≡ names_of k.node (length k.routes) = sym (names_cut page n hn) ∙ names_cut page k hk in
    let text : n.node.0 ≡ k.node.0 = cc in
    let second : length n.routes ∷ [] ≡ length k.routes ∷ [] = cc in
    let count : length n.routes ≡ length k.routes = cc in
    let node : n.node ≡ k.node = ap (λ (t : List ℕ). record { 0 = t }) text in
    let cn = cut_simply page n hn in
    let ck = cut_simply page k hk in
    let lines_n : AreEntries line_entry IsLineCount 8 (filled_to 896 (map line_entry n.lines)) n.lines = record { len = hn.count; fit = hn.lines; is = ap (λ (z : ℕ). filled_to z (map line_entry n.lines)) (sym (whole_lines n.lines hn.lines hn.count)) } in
    let lines_k : AreEntries line_entry IsLineCount 8 (filled_to 896 (map line_entry n.lines)) k.lines = record {
      len = hk.count;
      fit = hk.lines;
      is = sym cn.second ∙ ck.second ∙ ap (λ (z : ℕ). filled_to z (map line_entry k.lines)) (sym (whole_lines n.lines hn.lines hn.count));
    } in
    let lines : n.lines ≡ k.lines = one_list line_entry IsLineCount 16 line_size line_apart 8 (filled_to 896 (map line_entry n.lines)) n.lines k.lines lines_n lines_k in
    let size = whole_routes n.routes hn.routes hn.few in
    let routes_n : AreEntries route_entry IsRoute (length n.routes) (filled_to 3072 (map route_entry n.routes)) n.routes = record { len = refl; fit = hn.routes; is = ap (λ (z : ℕ). filled_to z (map route_entry n.routes)) (sym size) } in
    let routes_k : AreEntries route_entry IsRoute (length n.routes) (filled_to 3072 (map route_entry n.routes)) k.routes = record { len = sym count; fit = hk.routes; is = sym cn.third ∙ ck.third ∙ ap (λ (z : ℕ). filled_to z (map route_entry k.routes)) (sym size) } in
    let routes : n.routes ≡ k.routes = one_list route_entry IsRoute 16 route_size route_apart (length n.routes) (filled_to 3072 (map route_entry n.routes)) n.routes k.routes routes_n routes_k in
    same_nodes n.node k.node n.lines k.lines n.routes k.routes node lines routes
  where
    whole_lines : (lines : List LineCount) → All IsLineCount lines → length lines ≡ 8 → length (filled_to 896 (map line_entry lines)) ≡ 896
    whole_lines lines fit len =
        let size = lines_length lines fit len in
        omega (arith, length-append (concat (map line_entry lines)) (replicate (896 - length (concat (map line_entry lines))) 0), length-replicate {A = ℕ} (896 - length (concat (map line_entry lines))) 0, size)

    whole_routes : (routes : List Route) → All IsRoute routes → length routes ≤ routes_most → length (filled_to 3072 (map route_entry routes)) ≡ 3072
    whole_routes routes fit few =
        let size = concat_length route_entry IsRoute 16 route_size routes fit in
        omega (arith, length-append (concat (map route_entry routes)) (replicate (3072 - length (concat (map route_entry routes))) 0), length-replicate {A = ℕ} (3072 - length (concat (map route_entry routes))) 0, size, few)
