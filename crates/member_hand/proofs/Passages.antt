-- What becomes of the copies in a step, one act after another.
use Rattle.std.proofs.Common.{inl, ◌∙◌, Bool}
pub use Rattle.std.proofs.lemmas.Bool.{or_parts as or_none}
use Rattle.mas_types.specs.declared.ids.Dev.TheVariants.{Ckpt1, Ckpt2}
use Rattle.spool_plant.specs.View.{View}
use Rattle.ckpt_copy.specs.Moments.{goes_on}
use Rattle.member_node.specs.Calls.{Course}
use Rattle.member_node.proofs.CourseLemmas.{either_alive, grow_grow, lost_later, lost_more, no}
use Rattle.member_work.specs.Printing.{IsBeside}
use Rattle.member_hand.specs.Plays.{Passage}
use Rattle.mas_complex.specs.CallCounts.{pair_at}

pub passage_of : (a a' b b' : Bool) (v w : View) → Course (pair_at a b v) (pair_at a' b' w) → Passage a a' b b' v w
passage_of a a' b b' v w c = record {
  goes = c.goes;
  failed1 = c.failed1;
  failed2 = c.failed2;
  there1 = c.there1;
  there2 = c.there2;
  alive1 = c.alive1;
  alive2 = c.alive2;
  grow = c.grow;
}

pub passage_then : (a a' a'' b b' b'' : Bool) (v0 v1 v2 : View) → Passage a a' b b' v0 v1 → Passage a' a'' b' b'' v1 v2 → Passage a a'' b b'' v0 v2
passage_then a a' a'' b b' b'' v0 v1 v2 x y = record {
  goes = goes_on v0 v1 v2 x.goes y.goes;
  failed1 = λ was not. either_alive a'
      (λ is. lost_later Ckpt1 v0 v1 v2 x.goes (x.grow Ckpt1) (y.failed1 is not))
      (λ gone. lost_more Ckpt1 v0 v1 v2 (x.failed1 was gone) y.goes (y.grow Ckpt1));
  failed2 = λ was not. either_alive b'
      (λ is. lost_later Ckpt2 v0 v1 v2 x.goes (x.grow Ckpt2) (y.failed2 is not))
      (λ gone. lost_more Ckpt2 v0 v1 v2 (x.failed2 was gone) y.goes (y.grow Ckpt2));
  there1 = λ is there. y.there1 is (x.there1 (y.alive1 is) there);
  there2 = λ is there. y.there2 is (x.there2 (y.alive2 is) there);
  alive1 = λ is. x.alive1 (y.alive1 is);
  alive2 = λ is. x.alive2 (y.alive2 is);
  grow = λ d. grow_grow (v0.loses d) (v1.loses d) (v2.loses d) (x.grow d) (y.grow d);
}

-- acts beside the copies lose none of them
pub passage_beside : (told : Type 0) (is1 is2 : Bool) (v w : View) → IsBeside told v w → Passage is1 is1 is2 is2 v w
passage_beside told is1 is2 v w acts = record {
  goes = acts.goes;
  failed1 = λ is not. absurd (no is1 is not);
  failed2 = λ is not. absurd (no is2 is not);
  there1 = λ is there. acts.lost1 ∙ there;
  there2 = λ is there. acts.lost2 ∙ there;
  alive1 = λ is. is;
  alive2 = λ is. is;
  grow = λ d. inl (acts.loses d);
}
