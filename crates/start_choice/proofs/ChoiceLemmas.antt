-- What a start makes of the same pages.
use Rattle.std.proofs.Common.{◌≡◌, ◌≤◌, true, List, [], ◌∷◌, length, refl, sym, subst}
use Rattle.std.proofs.lemmas.Bool.{and_parts as and_both}
use Rattle.std.specs.Str.{bytes_eq}
use Rattle.std.proofs.lemmas.Slice.Eq.{bytes_eq-Decides}
use Rattle.mas_types.specs.declared.ids.Page.{Page}
use Rattle.mas_types.specs.Limits.{pages_most}
use Rattle.ckpt_tables.specs.declared.tables.Tables.{Tables}
use Rattle.duplex_pair.specs.declared.errors.Look.{Look}
use Rattle.duplex_pair.specs.declared.errors.Look.TheVariants as look
use Rattle.mas_complex.specs.Fits.{are_same}
use Rattle.start_choice.specs.declared.choosing.Good.{Good as GoodPages}
use Rattle.start_choice.specs.declared.choosing.Judged.{Judged}
use Rattle.start_choice.specs.declared.choosing.Judged.TheVariants.{Good, Bad}
use Rattle.start_choice.specs.Usable.{AreOf}
use Rattle.start_choice.specs.Choosing.{IsJudged, IsSomeJudged, HasFew, IsFew}

-- pages that are equal, page by page, are the same
pub same_is : (xs ys : List Page) → are_same xs ys ≡ true → xs ≡ ys
same_is [] [] e = refl
same_is [] (y ∷ ys) e = absurd (cc)
same_is (x ∷ xs) [] e = absurd (cc)
same_is (x ∷ xs) (y ∷ ys) e =
    let both = and_both (bytes_eq x.0 y.0) (are_same xs ys) e in
    let first = (bytes_eq-Decides x.0 y.0).0 both.0 in
    let rest = same_is xs ys both.1 in
    λ d. (record { 0 = first d }) ∷ rest d

-- what a start made of a copy is what it makes of some copy
pub some_judged : (seen : Look) (judged : Judged) → IsJudged seen judged → HasFew judged → IsSomeJudged judged
some_judged look.Lost (Good good) is few = absurd (cc)
some_judged look.Lost (Bad why) is few = few
some_judged look.Unread (Good good) is few = absurd (cc)
some_judged look.Unread (Bad why) is few = few
some_judged (look.Pages pages) (Good good) is few = (subst (λ (ps : List Page). AreOf ps good.tables) (sym is.0) is.1, few)
some_judged (look.Pages pages) (Bad why) is few = few

-- the same pages have the tables of the other copy
pub judged_again : (good : GoodPages) (pages : List Page) (tables : Tables) → AreOf good.pages good.tables → are_same good.pages pages ≡ true → tables ≡ good.tables → IsJudged (look.Pages pages) (Good (record { pages = pages; tables = tables }))
judged_again good pages tables are same is =
    (refl, subst (λ (t : Tables). AreOf pages t) (sym is) (subst (λ (ps : List Page). AreOf ps good.tables) (same_is good.pages pages same) are))

pub few_again : (good : GoodPages) (pages : List Page) (tables : Tables) → IsFew good → are_same good.pages pages ≡ true → HasFew (Good (record { pages = pages; tables = tables }))
few_again good pages tables few same = subst (λ (ps : List Page). length ps ≤ pages_most) (same_is good.pages pages same) few
