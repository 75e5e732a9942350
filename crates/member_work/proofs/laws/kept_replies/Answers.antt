use Rattle.member_work.proofs.Names.{[], ap, false, subst, sym, true, Bool, List, ◌∙◌, ◌∷◌, Batch, Entry, Queue, kept_all, run, past_kept, replied_both, replied_front, replied_rest, without_last-append, ∥∥₁_map₂}
use Rattle.mas_complex.specs.Journals.{HasPlace, in_flight, past_batches, without_last}
use Rattle.mas_complex.specs.Replies.{AreReplied, HaveReplies}
use Rattle.member_work.proofs.laws.kept_replies.Goals as goal

-- the place of a batch to come has no entries
with_place : (Q : Queue) (placed : Bool) (J : List Batch) → HasPlace placed J → AreReplied Q (past_batches placed J) → AreReplied Q J
with_place Q false J has are = are
with_place Q true J p are =
    subst (AreReplied Q) (sym p.is) (replied_both Q p.before (p.place ∷ []) (subst (AreReplied Q) (ap without_last p.is ∙ without_last-append p.before p.place) are)
    (subst (λ (es : List Entry). HaveReplies (run Q (kept_all p.before)) es) (sym p.free.empty) tt, tt))

pub returns : goal.returns
returns g c told =
    let x = c.args.complex.now in
    let J = x.journal.batches in
    let fs = in_flight x.current in
    ∥∥₁_map₂ x.place (x.replied told) (λ has are. replied_both x.base J fs (with_place x.base x.placed J has (replied_front x.base (past_batches x.placed J) fs are))
    (subst (λ (es : List Entry). AreReplied (run x.base es) fs) (past_kept x.placed J x.place) (replied_rest x.base (past_batches x.placed J) fs are)))
