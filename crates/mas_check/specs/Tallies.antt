-- What the groups of a text come to, and which groups hold no records of their text by that.
use Rattle.std.specs.Prelude.{◌≡◌, ℕ, ◌+◌, ◌*◌, ◌≤◌, ◌==◌, nat_eq, nat_lt, max, Bool, not, ◌&&◌, ◌||◌, if◌then◌else◌, List, [], ◌∷◌, is_some, unwrap_or}
use Rattle.std.specs.HashMap.{HashMap, get}
use Rattle.mas_types.specs.declared.queues.Owner.{Owner}
use Rattle.mas_types.specs.declared.queues.Owner.TheVariants as owner
use Rattle.ckpt_tables.specs.declared.tables.Tables.{Tables}
use Rattle.mas_check.specs.declared.groups.Group.{Group}
use Rattle.mas_check.specs.declared.tallies.Tally.{Tally}
use Rattle.mas_check.specs.declared.tallies.Tallies.{Tallies}
use Rattle.mas_check.specs.Groups.{has_text, same_text, records_of, lines_of}

-- THE TALLY OF A TEXT

-- the tally of no groups
abbrev pub no_groups : Tally
no_groups = record { last = 0; records = 0 }

-- a tally with one more group
abbrev pub with_group : Tally → ℕ → ℕ → Tally
with_group t place records = record { last = max t.last place; records = t.records + records }

abbrev pub place_of : Owner → ℕ
place_of (owner.Deck job place) = place
place_of (owner.Output job index place) = place
place_of _ = 0

-- the greatest place of a text's groups
abbrev pub last_of : Owner → List Group → ℕ
last_of o [] = 0
last_of o (g ∷ groups) = if same_text o g.owner then max (place_of g.owner) (last_of o groups) else last_of o groups

abbrev pub tally_of : Owner → List Group → Tally
tally_of o groups = record { last = last_of o groups; records = records_of o groups }

-- TALLIES BY KEY

abbrev pub tally_in : {K S : Type 0} → (K → K → Bool) → HashMap K Tally S → K → Tally
tally_in eq tallies key = unwrap_or (get eq tallies key) no_groups

-- a group was counted in under a key
abbrev pub Counts : {K S : Type 0} → (K → K → Bool) → HashMap K Tally S → K → ℕ → ℕ → HashMap K Tally S → Type 0
Counts {K} eq old key place records new =
    (q : K) → tally_in eq new q ≡ (if eq key q then with_group (tally_in eq old key) place records else tally_in eq old
    q)

-- a job's number and an output's index
abbrev pub same_key : ℕ × ℕ → ℕ × ℕ → Bool
same_key a b = nat_eq a.0 b.0 && nat_eq a.1 b.1

-- the tally of a group's text
abbrev pub tally_at : Tallies → Owner → Tally
tally_at tallies (owner.Deck n place) = tally_in nat_eq tallies.decks n.0
tally_at tallies (owner.Output n i place) = tally_in same_key tallies.prints (n.0, i.0)
tally_at tallies _ = no_groups

-- the tallies are those of all texts to which the groups belong
abbrev pub AreTallies : Tallies → List Group → Type 0
AreTallies tallies groups = (o : Owner) → tally_at tallies o ≡ tally_of o groups

-- a group has fewer than 65,536 records
abbrev pub HaveFew : ℕ → Tallies → Type 0
HaveFew count tallies = (o : Owner) → (tally_at tallies o).records ≤ 65535 * count

-- A GROUP

-- the page of a group of a text holds none, or it is the last group of its text, and the records of the text are not as
-- many as its slot counts
abbrev pub is_wrong_group : Tables → Tallies → Group → Bool
is_wrong_group t tallies g =
    has_text g.owner
    && (not (is_some g.records)
    || (not (nat_lt (place_of g.owner) (tally_at tallies g.owner).last) && not
    ((tally_at tallies g.owner).records == lines_of t g.owner)))
