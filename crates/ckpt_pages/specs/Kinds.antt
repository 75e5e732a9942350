-- Lines, routes, settings and levels: laws, which the impls of `Entry` cite. What is read is spelled so, and what is
-- spelled so is read.
use Rattle.std.proofs.Common.{◌≡◌, ℕ, ◌≤◌, ◌<◌, ◌^◌, List, length, get_or, None, refl, sym, ap, subst, ◌∙◌, arith}
use Rattle.std.specs.List.{concat, slice_index}
use Rattle.std.proofs.lemmas.List.{take_all}
use Rattle.std.specs.Int.{w16, w32, w64, from_be_bytes, to_be_bytes}
use Rattle.std.proofs.lemmas.Nat.{from_be_bytes-to_be_bytes_2, from_be_bytes-to_be_bytes_4, from_be_bytes-to_be_bytes_8}
use Rattle.mas_types.specs.declared.ids.Class.{Class}
use Rattle.mas_types.specs.declared.ids.Name8.{Name8}
use Rattle.mas_types.specs.declared.queues.Setting.{Setting}
use Rattle.mas_types.specs.declared.queues.Route.{Route}
use Rattle.mas_types.specs.declared.queues.LineCount.{LineCount}
use Rattle.mas_types.specs.Limits.{number_most, wires_most, printer_lines_most}
use Rattle.mas_types.specs.Fit.{IsSetting}
use Rattle.lay_bytes.specs.Fields.{piece, first_bad, pieces}
use Rattle.lay_bytes.proofs.Pieces.{AreSpelled, long_back, each_stands, join_pieces, cons_same, between, is_least, is_most}
use Rattle.lay_bytes.proofs.SlotLemmas.{half_again, word_again, byte_takes, half_takes, word_takes, zeros_take, below_from, known}
use Rattle.lay_bytes.proofs.NameLemmas.{name_from, name_to}
use Rattle.ckpt_tables.specs.Shape.{IsRoute, IsLineCount}
use Rattle.ckpt_tables.specs.Pages.{classes_entry, setting_pieces, setting_entry, line_pieces, line_entry, route_pieces, route_entry}
use Rattle.ckpt_pages.specs.Fields.{setting_fields, setting_in, classes_in, line_fields, line_in, route_fields, route_in}
use Rattle.ckpt_pages.specs.Classes.{classes_size, classes_stand, classes_again, classes_take, few_classes}
use Rattle.ckpt_pages.specs.Spelled.{good_of, size_of, apart_of}

-- LEVELS

pub level_size : (l : ℕ) → l < 2 ^ 64 → length (to_be_bytes w64 l) ≡ 8
level_size l h = refl

pub level_apart : (l m : ℕ) → l < 2 ^ 64 → m < 2 ^ 64 → to_be_bytes w64 l ≡ to_be_bytes w64 m → l ≡ m
level_apart l m hl hm e = sym (from_be_bytes-to_be_bytes_8 l hl) ∙ ap (from_be_bytes w64) e ∙
    from_be_bytes-to_be_bytes_8 m hm

pub level_takes : (bytes : List ℕ) (l : ℕ) → length bytes ≡ 8 → ((i : ℕ) → get_or bytes i 0 < 256) → l < 2 ^ 64
    → l ≡ from_be_bytes w64 (piece 0 8 bytes) → (l < 2 ^ 64) × (bytes ≡ to_be_bytes w64 l)
level_takes bytes l len fits lt e =
    let whole : piece 0 8 bytes ≡ bytes = take_all 8 bytes (omega (arith, len)) in
    (lt, sym (long_back bytes len fits) ∙ ap (to_be_bytes w64) (ap (from_be_bytes w64) (sym whole) ∙ sym e))

-- SETTINGS

setting_spelled : (s : Setting) → IsSetting s → AreSpelled setting_fields (setting_pieces s)
setting_spelled s h = (
  (refl, refl),
  (
    (classes_size s.init h.init.few, classes_stand s.init h.init),
    (
      (classes_size s.prt h.prt.few, classes_stand s.prt h.prt),
      (
        name_from s.forms h.forms,
        (
          (
            refl,
            half_again 1 printer_lines_most s.lines (omega (arith, h.lines.1)) h.lines.0 h.lines.1,
          ),
          ((refl, refl), tt),
        ),
      ),
    ),
  ),
)

abbrev setting_made : Setting → List Class → List Class → ℕ → Setting
setting_made s init prt lines = record { init = init; prt = prt; forms = s.forms; lines = lines }

setting_again : (s : Setting) → IsSetting s → setting_in (setting_pieces s) ≡ s
setting_again s h =
    ap (λ (cs : List Class). setting_made s cs (classes_in (classes_entry s.prt))
    (from_be_bytes w16 (to_be_bytes w16 s.lines))) (classes_again s.init)
    ∙ ap (λ (cs : List Class). setting_made s s.init cs (from_be_bytes w16 (to_be_bytes w16 s.lines)))
    (classes_again s.prt)
    ∙ ap (λ (n : ℕ). setting_made s s.init s.prt n) (from_be_bytes-to_be_bytes_2 s.lines (omega (arith, h.lines.1)))

pub setting_takes : (bytes : List ℕ) → length bytes ≡ 128 → ((i : ℕ) → get_or bytes i 0 < 256)
    → first_bad 0 setting_fields bytes ≡ None
    → IsSetting (setting_in (pieces 0 setting_fields bytes))
    × (bytes ≡ setting_entry (setting_in (pieces 0 setting_fields bytes)))
setting_takes bytes len fits good =
    let s = each_stands 0 setting_fields bytes (omega (arith, len)) fits good in
    let one = s.0 in let init = s.1.0 in let prt = s.1.1.0 in let forms = s.1.1.1.0 in let lines = s.1.1.1.1.0 in let
    rest = s.1.1.1.1.1.0 in
    let first = classes_take (piece 1 37 bytes) init.len init.stands in
    let second = classes_take (piece 38 37 bytes) prt.len prt.stands in
    let same : setting_pieces (setting_in (pieces 0 setting_fields bytes)) ≡ pieces 0 setting_fields bytes =
    cons_same _ _ _ _ (byte_takes 1 (known 1 _ (is_least 1 1 _ one.stands) (is_most 1 1 _ one.stands)) refl one)
    (cons_same _ _ _ _ first.1 (cons_same _ _ _ _ second.1
    (cons_same _ _ _ _ refl (cons_same _ _ _ _ (half_takes refl lines)
    (cons_same _ _ _ _ (zeros_take 43 rest) refl))))) in (
      record {
        init = first.0;
        prt = second.0;
        forms = name_to (record { 0 = piece 75 8 bytes }) forms.len forms.stands;
        lines = (is_least 1 printer_lines_most _ lines.stands, is_most 1 printer_lines_most _ lines.stands);
      },
      sym (join_pieces 0 setting_fields bytes (sym len)) ∙ ap concat (sym same),
    )

abbrev setting_of : List Class → List Class → Name8 → ℕ → Setting
setting_of init prt forms lines = record { init = init; prt = prt; forms = forms; lines = lines }

-- the setting that is made of what the bytes say
pub setting_found : (bytes : List ℕ) (init prt : List Class) (forms : Name8) (lines : ℕ) → length bytes ≡ 128
    → ((i : ℕ) → get_or bytes i 0 < 256) → first_bad 0 setting_fields bytes ≡ None
    → init ≡ classes_in (piece 1 37 bytes) → prt ≡ classes_in (piece 38 37 bytes) → forms.0 ≡ piece 75 8 bytes
    → lines ≡ from_be_bytes w16 (piece 83 2 bytes)
    → IsSetting (setting_of init prt forms lines) × (bytes ≡ setting_entry (setting_of init prt forms lines))
setting_found bytes init prt forms lines len fits good e1 e2 e3 e4 =
    let name : forms ≡ record { 0 = piece 75 8 bytes } = ap (λ (t : List ℕ). record { 0 = t }) e3 in
    let is : setting_of init prt forms lines ≡ setting_in (pieces 0 setting_fields bytes) =
    ap (λ (x : List Class). setting_of x prt forms lines) e1 ∙ ap
    (λ (x : List Class). setting_of (classes_in (piece 1 37 bytes)) x forms lines) e2
    ∙ ap (λ (x : Name8). setting_of (classes_in (piece 1 37 bytes)) (classes_in (piece 38 37 bytes)) x lines) name
    ∙ ap (λ (x : ℕ). setting_of (classes_in (piece 1 37 bytes)) (classes_in (piece 38 37 bytes))
    (record { 0 = piece 75 8 bytes }) x) e4 in
    subst (λ (s : Setting). IsSetting s × (bytes ≡ setting_entry s)) (sym is) (setting_takes bytes len fits good)

-- the classes of an entry are few
pub setting_counts : (bytes : List ℕ) → length bytes ≡ 128 → ((i : ℕ) → get_or bytes i 0 < 256)
    → first_bad 0 setting_fields bytes ≡ None
    → (slice_index (piece 1 37 bytes) 0 ≤ 36) × (slice_index (piece 38 37 bytes) 0 ≤ 36)
setting_counts bytes len fits good =
    let s = each_stands 0 setting_fields bytes (omega (arith, len)) fits good in
    let init = s.1.0 in let prt = s.1.1.0 in
    (few_classes (piece 1 37 bytes) init.len init.stands, few_classes (piece 38 37 bytes) prt.len prt.stands)

pub setting_good : (s : Setting) → IsSetting s → first_bad 0 setting_fields (setting_entry s) ≡ None
setting_good = good_of setting_fields setting_pieces setting_in IsSetting setting_spelled setting_again

pub setting_size : (s : Setting) → IsSetting s → length (setting_entry s) ≡ 128
setting_size = size_of setting_fields setting_pieces setting_in IsSetting setting_spelled setting_again

pub setting_apart : (s r : Setting) → IsSetting s → IsSetting r → setting_entry s ≡ setting_entry r → s ≡ r
setting_apart = apart_of setting_fields setting_pieces setting_in IsSetting setting_spelled setting_again

-- LINES

line_spelled : (l : LineCount) → IsLineCount l → AreSpelled line_fields (line_pieces l)
line_spelled l h = (
  (refl, word_again 0 4294967295 l.sent h.sent (omega arith) (omega (arith, h.sent))),
  (
    (refl, word_again 0 4294967295 l.got h.got (omega arith) (omega (arith, h.got))),
    (
      (refl, word_again 0 number_most l.current.0 (omega (arith, h.current)) (omega arith) h.current),
      ((refl, refl), tt),
    ),
  ),
)

abbrev line_made : ℕ → ℕ → ℕ → LineCount
line_made sent got current = record { sent = sent; got = got; current = record { 0 = current } }

line_again : (l : LineCount) → IsLineCount l → line_in (line_pieces l) ≡ l
line_again l h =
    ap (λ (n : ℕ). line_made n (from_be_bytes w32 (to_be_bytes w32 l.got))
    (from_be_bytes w32 (to_be_bytes w32 l.current.0))) (from_be_bytes-to_be_bytes_4 l.sent h.sent)
    ∙ ap (λ (n : ℕ). line_made l.sent n (from_be_bytes w32 (to_be_bytes w32 l.current.0)))
    (from_be_bytes-to_be_bytes_4 l.got h.got)
    ∙ ap (λ (n : ℕ). line_made l.sent l.got n) (from_be_bytes-to_be_bytes_4 l.current.0 (omega (arith, h.current)))

pub line_takes : (bytes : List ℕ) → length bytes ≡ 16 → ((i : ℕ) → get_or bytes i 0 < 256)
    → first_bad 0 line_fields bytes ≡ None
    → IsLineCount (line_in (pieces 0 line_fields bytes)) × (bytes ≡ line_entry (line_in (pieces 0 line_fields bytes)))
line_takes bytes len fits good =
    let s = each_stands 0 line_fields bytes (omega (arith, len)) fits good in
    let sent = s.0 in let got = s.1.0 in let current = s.1.1.0 in let rest = s.1.1.1.0 in
    let same : line_pieces (line_in (pieces 0 line_fields bytes)) ≡ pieces 0 line_fields bytes =
    cons_same _ _ _ _ (word_takes refl sent)
    (cons_same _ _ _ _ (word_takes refl got)
    (cons_same _ _ _ _ (word_takes refl current) (cons_same _ _ _ _ (zeros_take 4 rest) refl))) in (
      record {
        sent = below_from 4294967295 _ (is_most 0 4294967295 _ sent.stands);
        got = below_from 4294967295 _ (is_most 0 4294967295 _ got.stands);
        current = is_most 0 number_most _ current.stands;
      },
      sym (join_pieces 0 line_fields bytes (sym len)) ∙ ap concat (sym same),
    )

pub line_good : (l : LineCount) → IsLineCount l → first_bad 0 line_fields (line_entry l) ≡ None
line_good = good_of line_fields line_pieces line_in IsLineCount line_spelled line_again

pub line_size : (l : LineCount) → IsLineCount l → length (line_entry l) ≡ 16
line_size = size_of line_fields line_pieces line_in IsLineCount line_spelled line_again

pub line_apart : (l m : LineCount) → IsLineCount l → IsLineCount m → line_entry l ≡ line_entry m → l ≡ m
line_apart = apart_of line_fields line_pieces line_in IsLineCount line_spelled line_again

-- ROUTES

route_spelled : (r : Route) → IsRoute r → AreSpelled route_fields (route_pieces r)
route_spelled r h = (
  name_from r.name h.name,
  ((refl, between 1 wires_most r.line h.line.0 h.line.1), ((refl, refl), tt)),
)

route_again : (r : Route) → IsRoute r → route_in (route_pieces r) ≡ r
route_again r h = refl

pub route_takes : (bytes : List ℕ) → length bytes ≡ 16 → ((i : ℕ) → get_or bytes i 0 < 256)
    → first_bad 0 route_fields bytes ≡ None
    → IsRoute (route_in (pieces 0 route_fields bytes)) × (bytes ≡ route_entry (route_in (pieces 0 route_fields bytes)))
route_takes bytes len fits good =
    let s = each_stands 0 route_fields bytes (omega (arith, len)) fits good in
    let name = s.0 in let line = s.1.0 in let rest = s.1.1.0 in
    let same : route_pieces (route_in (pieces 0 route_fields bytes)) ≡ pieces 0 route_fields bytes =
    cons_same _ _ _ _ refl (cons_same _ _ _ _ (byte_takes _ refl refl line)
    (cons_same _ _ _ _ (zeros_take 7 rest) refl)) in (
      record {
        name = name_to (record { 0 = piece 0 8 bytes }) name.len name.stands;
        line
            = (is_least 1 wires_most _ line.stands, is_most 1 wires_most _ line.stands);
      },
      sym (join_pieces 0 route_fields bytes (sym len)) ∙ ap concat (sym same),
    )

pub route_good : (r : Route) → IsRoute r → first_bad 0 route_fields (route_entry r) ≡ None
route_good = good_of route_fields route_pieces route_in IsRoute route_spelled route_again

pub route_size : (r : Route) → IsRoute r → length (route_entry r) ≡ 16
route_size = size_of route_fields route_pieces route_in IsRoute route_spelled route_again

pub route_apart : (r s : Route) → IsRoute r → IsRoute s → route_entry r ≡ route_entry s → r ≡ s
route_apart = apart_of route_fields route_pieces route_in IsRoute route_spelled route_again
