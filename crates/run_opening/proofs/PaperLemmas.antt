-- Papers, and the sides of a plant, over moments.
use Rattle.std.proofs.Common.{◌≤◌, ◌∙◌, ⊎_elim, ap, arith}
use Rattle.spool_plant.specs.Acts.{Goes}
use Rattle.spool_plant.specs.View.{View, World, Throughout}
use Rattle.ckpt_copy.specs.Meanwhile.{SameSides}
use Rattle.mas_complex.specs.Paper.{SamePapers}
use Rattle.member_node.specs.Calls.{Apart}
use Rattle.run_opening.proofs.VolumeLemmas.{by_order}

-- printers and wires that are as they were
pub papers_of : (old new : View) → Throughout old.now new.now (λ t. SameSides (old.world old.now) (new.world t)) → SamePapers old new
papers_of old new sides t from to m = (sides t from to).paper m

-- printers that stayed through two spans of acts
pub papers_on : (v0 v1 v2 : View) → v0.now ≤ v1.now → Goes v1 v2 → SamePapers v0 v1 → SamePapers v1 v2 → SamePapers v0 v2
papers_on v0 v1 v2 later goes one two t from to m = ⊎_elim
    (λ before. ap (λ (w : World). w.paper m) (goes.past t before) ∙ one t from before m)
    (λ after. two t after to m ∙ one v1.now later (let same : v1.now ≤ v1.now = omega arith in same) m)
    (by_order t v1.now)

pub sides_on : (a b c : World) → SameSides a b → SameSides b c → SameSides a c
sides_on a b c one two = record {
  paper = λ m. two.paper m ∙ one.paper m;
  taken = λ w m. two.taken w m ∙ one.taken w m;
  given = λ w m. two.given w m ∙ one.given w m;
}

-- calls on the copies leave them
pub sides_apart : (old new : View) → old.now ≤ new.now → Apart old new → SameSides (old.world old.now) (new.world new.now)
sides_apart old new later apart = record {
  paper = apart.papers new.now later (let here : new.now ≤ new.now = omega arith in here);
  taken = apart.wires.taken;
  given = apart.wires.given;
}
