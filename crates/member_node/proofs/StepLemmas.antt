-- A write of a batch whose place is reserved, by how it ended.
use Rattle.std.proofs.Common.{◌≡◌, inl, inr, ◌++◌, Bool, true, false, List, [], ◌∷◌, Option, Some, None, Ok, Err, refl, arith, IsSome}
use Rattle.mas_types.specs.declared.ids.MemberId.{MemberId}
use Rattle.mas_types.specs.declared.journals.Batch.{Batch}
use Rattle.mas_types.specs.declared.journals.Entry.{Entry}
use Rattle.mas_types.specs.declared.journals.Fate.TheVariants.{Kept}
use Rattle.spool_plant.specs.View.{View}
use Rattle.duplex_pair.specs.Halves.{IsBothLost, SomeAlive}
use Rattle.duplex_pair.specs.Both.{PairActed}
use Rattle.mas_complex.specs.Journals.{begun, entries_reserved, fated, with_last, end_of}
use Rattle.mas_complex.specs.CallCounts.{pair_at}
use Rattle.member_node.specs.declared.member.NodeNo.TheVariants.{BothLost, Halted}
use Rattle.member_node.specs.Calls.{Apart}
use Rattle.member_node.specs.Writes.{IsWrite, journal_at}
use Rattle.member_node.proofs.CourseLemmas.{apart_none, course_none, course_of}
use Rattle.member_node.proofs.SpareLemmas.{spares_none, spares_pair}
use Rattle.member_node.proofs.WriteLemmas.{kept_out, flying_out}

-- the entries that are reserved
pub reserved_is : (reserved : Option (List Entry)) → IsSome reserved → reserved ≡ Some (entries_reserved reserved)
reserved_is None some = absurd (cc)
reserved_is (Some es) some = refl

module _ (T : Type 0) (told : Type 0) (by : MemberId) (es : List Entry) (front was batches : List Batch) (place : Batch) (one : was ≡ front ++ place ∷ []) (placed : Bool) (current : Option Batch) (a b : Bool) (v0 : View) where
  -- no page changed
  pub write_same : batches ≡ with_last (fated Kept v0.now (begun v0.now by es)) was → placed ≡ false → current ≡ None → (done : T)
      → IsWrite told by.0 (begun v0.now by es) (journal_at front (pair_at a b v0)) (journal_at (end_of placed current batches) (pair_at a b v0)) (Ok done)
  write_same is unplaced none done = record {
    course = course_none a b v0;
    loses = λ d. refl;
    cause = inr (refl, refl);
    spares = spares_none by.0 v0;
    journal = (v0.now, omega arith, omega arith, kept_out front was batches place (fated Kept v0.now (begun v0.now by es)) placed current one is unplaced none);
    apart = λ t. apart_none v0;
  }

  module _ (a' b' : Bool) (v1 : View) (apart : told → Apart v0 v1) where
    pub write_done : PairActed by.0 a a' b b' false v0 v1 → SomeAlive a' b' → batches ≡ with_last (fated Kept v1.now (begun v0.now by es)) was → placed ≡ false → current ≡ None → (done : T)
        → IsWrite told by.0 (begun v0.now by es) (journal_at front (pair_at a b v0)) (journal_at (end_of placed current batches) (pair_at a' b' v1)) (Ok done)
    write_done acted some is unplaced none done = record {
      course = course_of by.0 a a' b b' false v0 v1 acted;
      loses = acted.loses;
      cause = inl some;
      spares = spares_pair by.0 a a' b b' false v0 v1 acted;
      journal = (v1.now, acted.goes.later, omega arith, kept_out front was batches place (fated Kept v1.now (begun v0.now by es)) placed current one is unplaced none);
      apart = apart;
    }

    pub write_lost : PairActed by.0 a a' b b' false v0 v1 → IsBothLost a' b' → batches ≡ was → current ≡ Some (begun v0.now by es)
        → IsWrite {T = T} told by.0 (begun v0.now by es) (journal_at front (pair_at a b v0)) (journal_at (end_of placed current batches) (pair_at a' b' v1)) (Err BothLost)
    write_lost acted both is flies = record {
      course = course_of by.0 a a' b b' false v0 v1 acted;
      loses = acted.loses;
      cause = both;
      spares = spares_pair by.0 a a' b b' false v0 v1 acted;
      journal = flying_out front was batches place (begun v0.now by es) placed current one is flies;
      apart = apart;
    }

    pub write_stopped : PairActed by.0 a a' b b' true v0 v1 → batches ≡ was → current ≡ Some (begun v0.now by es)
        → IsWrite {T = T} told by.0 (begun v0.now by es) (journal_at front (pair_at a b v0)) (journal_at (end_of placed current batches) (pair_at a' b' v1)) (Err Halted)
    write_stopped acted is flies = record {
      course = course_of by.0 a a' b b' true v0 v1 acted;
      loses = acted.loses;
      cause = (inl (acted.stands refl), acted.halted refl);
      spares = spares_pair by.0 a a' b b' true v0 v1 acted;
      journal = flying_out front was batches place (begun v0.now by es) placed current one is flies;
      apart = apart;
    }
