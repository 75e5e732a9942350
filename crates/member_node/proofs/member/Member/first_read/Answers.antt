use Rattle.member_node.proofs.MirrorLemmas.{first_mirror}
use Rattle.member_node.proofs.ReadLemmas.{first_page_of, on_ok}
use Rattle.member_node.proofs.member.Member.first_read.Goals as goal

pub returns-clause-page : goal.returns-clause-page
returns-clause-page g c =
    on_ok c.read_one.result c.read_one.ensures.page (λ page told was one two. first_page_of c.args.self.now.room c.as_mut_slice-room.result.now c.read_one.new.into was c.as_mut_slice-room.ensures.value c.requires.some (page told was one two))

pub invariant_of-self-clause-mirrored : goal.invariant_of-self-clause-mirrored
invariant_of-self-clause-mirrored g c =
    let s = c.args.self.now in
    first_mirror s.differ.pages s.room c.as_mut_slice-room.result.now s.checkpoint.pages c.read_one.new.into c.as_mut_slice-room.ensures.value c.requires.some s.mirrored
