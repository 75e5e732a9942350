-- What is set of a member, and the resets.
use Rattle.std.specs.Prelude.{ℕ, not, List, [], ◌∷◌}
use Rattle.mas_types.specs.declared.ids.MemberId.{MemberId}
use Rattle.mas_types.specs.declared.ids.Class.{Class}
use Rattle.mas_types.specs.declared.ids.Name8.{Name8}
use Rattle.mas_types.specs.declared.queues.Queue.{Queue}
use Rattle.mas_types.specs.declared.commands.Refusal.TheVariants as refusal
use Rattle.mas_types.specs.declared.commands.Reply.TheVariants as reply
use Rattle.mas_types.specs.Ids.{same_member}
use Rattle.mas_types.specs.Queue.{is_member, change_setting}
use Rattle.mas_types.specs.Reset.{reset}
use Rattle.mas_types.specs.Row.{Row, refused_where}

-- SET INIT, SET PRT

abbrev pub set_init_row : Queue → MemberId → List Class → Row
set_init_row Q m classes = record {
  refusals = [];
  effect = change_setting m (λ s. record s { init = classes }) Q;
  answer = reply.Plain;
}

abbrev pub set_prt_row : Queue → MemberId → List Class → Name8 → ℕ → Row
set_prt_row Q m classes forms lines = record {
  refusals = [];
  effect = change_setting m (λ s. record s { prt = classes; forms = forms; lines = lines }) Q;
  answer = reply.Plain;
}

-- RESET, RESTART

abbrev pub reset_row : Queue → MemberId → Row
reset_row Q of_member = record {
  refusals = refused_where (not (is_member Q.config of_member)) refusal.NoMember ∷ [];
  effect = reset (λ h. same_member h of_member) Q;
  answer = reply.Plain;
}

abbrev pub restart_row : Queue → Row
restart_row Q = record { refusals = []; effect = reset (is_member Q.config) Q; answer = reply.Plain }
