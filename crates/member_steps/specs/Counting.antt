-- How many lines the members have printed since they last took up an output or moved a mark, after a call.
use Rattle.std.specs.Prelude.{◌≡◌, ◌≢◌, ℕ, List, Result, OnOk}
use Rattle.mas_types.specs.declared.ids.MemberId.{MemberId}
use Rattle.mas_types.specs.declared.journals.Entry.{Entry}
use Rattle.paper_laws.specs.Counts.{counts_after}
use Rattle.mas_complex.specs.Paper.{counts_of}
use Rattle.member_node.specs.declared.member.NodeNo.{NodeNo}

-- A call in which a member kept these entries: where it ends well the member's count begins anew if one of them says
-- so, and else stays. No other member's count differs, whatever the answer.
pub record HasCounted {T : Type 0} (by : MemberId) (es : List Entry) (was now : List ℕ) (result : Result T NodeNo) :
    Type 0 where
  pub own : OnOk result (counts_of now by ≡ counts_after es (counts_of was) by)
  pub others : (m : MemberId) → m ≢ by → counts_of now m ≡ counts_of was m
