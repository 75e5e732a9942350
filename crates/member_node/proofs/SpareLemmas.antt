-- What a member's calls don't do, one after another.
use Rattle.std.proofs.Common.{◌≡◌, ◌≢◌, inl, inr, ⊎_elim, ℕ, ◌==◌, Bool, true, false, refl, ◌∙◌, arith}
use Rattle.std.proofs.lemmas.Bool.Decides.{nat_tests}
use Rattle.mas_types.specs.declared.ids.Dev.TheVariants.{Spool}
use Rattle.spool_plant.specs.declared.plant.Part.{Part}
use Rattle.spool_plant.specs.declared.plant.Part.TheVariants.{Disk as DiskPart}
use Rattle.spool_plant.specs.declared.plant.Act.TheVariants.{Done, Failed, Halted as ActHalted}
use Rattle.spool_plant.specs.View.{View}
use Rattle.spool_plant.specs.Acts.{Acts}
use Rattle.duplex_pair.specs.Both.{PairActed}
use Rattle.member_node.specs.Calls.{none_lost}
use Rattle.member_node.specs.Spares.{Spares, SparesBut}
use Rattle.member_node.proofs.CourseLemmas.{stay_act, stay_both, stay_more, stay_none, stay_then}

pub spares_none : (by : ℕ) (v : View) → Spares by false v v
spares_none by v = record { volumes = λ n. refl; stops = λ m free. refl; operator = λ e. absurd (cc); at_halt = λ e. absurd (cc) }

pub spares_then : (by : ℕ) (stopped : Bool) (v0 v1 v2 : View) → Spares by false v0 v1 → Spares by stopped v1 v2 → Spares by stopped v0 v2
spares_then by stopped v0 v1 v2 one two = record { volumes = λ n. two.volumes n ∙ one.volumes n; stops = λ m free. two.stops m free ∙ one.stops m (inr refl); operator = two.operator; at_halt = two.at_halt }

-- a call in which nobody was stopped is one of each member
pub spares_for : (by any : ℕ) (old new : View) → Spares any false old new → Spares by false old new
spares_for by any old new s = record { volumes = s.volumes; stops = λ m free. s.stops m (inr refl); operator = λ e. absurd (cc); at_halt = λ e. absurd (cc) }

-- a call on the pair
pub spares_pair : (by : ℕ) (a a' b b' stopped : Bool) (old new : View) → PairActed by a a' b b' stopped old new → Spares by stopped old new
spares_pair by a a' b b' stopped old new acted = record { volumes = λ n. acted.loses (Spool n); stops = acted.no_other_stop; operator = acted.not_operator; at_halt = acted.at_halt }

-- one act, which was done or failed, or in which the member was stopped
pub spares_done : (by : ℕ) (part : Part) (old new : View) → Acts by part old new Done → Spares by false old new
spares_done by part old new act = record { volumes = λ n. act.loses (Spool n); stops = λ m free. act.no_other_stop m (inr (λ e. absurd (cc))); operator = λ e. absurd (cc); at_halt = λ e. absurd (cc) }

pub spares_failed : (by : ℕ) (part : Part) (old new : View) → Acts by part old new Failed → Spares by false old new
spares_failed by part old new act = record { volumes = λ n. act.loses (Spool n); stops = λ m free. act.no_other_stop m (inr (λ e. absurd (cc))); operator = λ e. absurd (cc); at_halt = λ e. absurd (cc) }

pub spares_halted : (by : ℕ) (part : Part) (old new : View) → Acts by part old new ActHalted → Spares by true old new
spares_halted by part old new act = record {
  volumes = λ n. act.loses (Spool n);
  stops = λ m free. act.no_other_stop m (inl (⊎_elim (λ other. other) (λ e. absurd (cc)) free));
  operator = λ e. act.not_operator refl;
  at_halt = λ e. act.at_halt refl;
}

-- THE SAME WITH THE VOLUMES

pub sparing_none : (by : ℕ) (v : View) → SparesBut by false none_lost v v
sparing_none by v = record { spares = spares_none by v; volumes = stay_none none_lost v }

pub sparing_then : (by : ℕ) (stopped : Bool) (but : ℕ → Bool) (v0 v1 v2 : View) → SparesBut by false none_lost v0 v1 → SparesBut by stopped but v1 v2 → SparesBut by stopped but v0 v2
sparing_then by stopped but v0 v1 v2 one two = record { spares = spares_then by stopped v0 v1 v2 one.spares two.spares; volumes = stay_then but v0 v1 v2 one.volumes two.volumes }

pub sparing_done : (by : ℕ) (part : Part) (old new : View) → Acts by part old new Done → SparesBut by false none_lost old new
sparing_done by part old new act = record { spares = spares_done by part old new act; volumes = stay_act by part none_lost old new Done (λ n other. inr (λ e. absurd (cc))) act }

pub sparing_halted : (by : ℕ) (part : Part) (old new : View) → Acts by part old new ActHalted → SparesBut by true none_lost old new
sparing_halted by part old new act = record { spares = spares_halted by part old new act; volumes = stay_act by part none_lost old new ActHalted (λ n other. inr (λ e. absurd (cc))) act }

-- an act that failed on a volume, or on a part that is none
pub sparing_failed : (by v : ℕ) (old new : View) → Acts by (DiskPart (Spool v)) old new Failed → SparesBut by false (λ n. n == v) old new
sparing_failed by v old new act = record { spares = spares_failed by (DiskPart (Spool v)) old new act; volumes = stay_act by (DiskPart (Spool v)) (λ n. n == v) old new Failed (λ n other. inl (λ same. apart n other same)) act } where
  apart : (n : ℕ) → (n == v) ≡ false → DiskPart (Spool n) ≢ DiskPart (Spool v)
  apart n other same = let e : n ≡ v = cc in grind (arith, nat_tests)

pub sparing_beside : (by : ℕ) (part : Part) (old new : View) → ((n : ℕ) → DiskPart (Spool n) ≢ part) → Acts by part old new Failed → SparesBut by false none_lost old new
sparing_beside by part old new other act = record { spares = spares_failed by part old new act; volumes = stay_act by part none_lost old new Failed (λ n none. inl (other n)) act }

-- where more volumes may be lost, and where the first acts name them
pub sparing_more : (by : ℕ) (stopped : Bool) (few but : ℕ → Bool) (v w : View) → ((n : ℕ) → but n ≡ false → few n ≡ false) → SparesBut by stopped few v w → SparesBut by stopped but v w
sparing_more by stopped few but v w fewer x = record { spares = x.spares; volumes = stay_more few but v w fewer x.volumes }

pub sparing_before : (by : ℕ) (stopped : Bool) (but : ℕ → Bool) (v0 v1 v2 : View) → SparesBut by false but v0 v1 → SparesBut by stopped none_lost v1 v2 → SparesBut by stopped but v0 v2
sparing_before by stopped but v0 v1 v2 one two = record { spares = spares_then by stopped v0 v1 v2 one.spares two.spares; volumes = stay_both but v0 v1 v2 one.volumes (stay_more none_lost but v1 v2 (λ n other. refl) two.volumes) }
