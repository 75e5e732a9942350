-- Tables tell a queue by equations alone, which need no choice.
use Rattle.std.proofs.Common.{◌≡◌, ℕ, suc, zero, Bool, List, refl}
use Rattle.std.proofs.Math.Logic.{∥∥₁_elim}
use Rattle.std.specs.Coded.{Coded, Coded-set, coded_list, coded_ℕ, coded_bool, coded×, code_by}
use Rattle.mas_types.specs.declared.ids.Class.{Class}
use Rattle.mas_types.specs.declared.ids.JobNo.{JobNo}
use Rattle.mas_types.specs.declared.ids.MemberId.{MemberId}
use Rattle.mas_types.specs.declared.ids.Name8.{Name8}
use Rattle.mas_types.specs.declared.ids.OutNo.{OutNo}
use Rattle.mas_types.specs.declared.ids.Prio.{Prio}
use Rattle.mas_types.specs.declared.jobs.JobFields.{JobFields}
use Rattle.mas_types.specs.declared.jobs.Phase.{Phase}
use Rattle.mas_types.specs.declared.jobs.Phase.TheVariants as phase
use Rattle.mas_types.specs.declared.queues.Config.{Config}
use Rattle.mas_types.specs.declared.queues.LineCount.{LineCount}
use Rattle.mas_types.specs.declared.queues.Owner.{Owner}
use Rattle.mas_types.specs.declared.queues.Owner.TheVariants as owner
use Rattle.mas_types.specs.declared.queues.Queue.{Queue}
use Rattle.mas_types.specs.declared.queues.Route.{Route}
use Rattle.mas_types.specs.declared.queues.Setting.{Setting}
use Rattle.lay_bytes.specs.declared.records.JobRec.{JobRec}
use Rattle.lay_bytes.specs.declared.records.OutRec.{OutRec}
use Rattle.ckpt_tables.specs.declared.tables.Tables.{Tables}
use Rattle.queue_telling.specs.Telling.{Tell}

-- NUMBERS AND NAMES

abbrev coded_member : Coded MemberId
coded_member = code_by ℕ coded_ℕ (λ m. m.0) (λ n. record { 0 = n }) (λ _. refl)

abbrev coded_job : Coded JobNo
coded_job = code_by ℕ coded_ℕ (λ m. m.0) (λ n. record { 0 = n }) (λ _. refl)

abbrev coded_index : Coded OutNo
coded_index = code_by ℕ coded_ℕ (λ m. m.0) (λ n. record { 0 = n }) (λ _. refl)

abbrev coded_class : Coded Class
coded_class = code_by ℕ coded_ℕ (λ m. m.0) (λ n. record { 0 = n }) (λ _. refl)

abbrev coded_prio : Coded Prio
coded_prio = code_by ℕ coded_ℕ (λ m. m.0) (λ n. record { 0 = n }) (λ _. refl)

abbrev coded_name : Coded Name8
coded_name = code_by (List ℕ) (coded_list coded_ℕ) (λ m. m.0) (λ n. record { 0 = n }) (λ _. refl)

abbrev phase_code : Phase → ℕ
phase_code phase.Input = 0
phase_code phase.Convert = 1
phase_code phase.Execute = 2
phase_code phase.Output = 3
phase_code phase.Hardcopy = 4
phase_code phase.Purge = 5
phase_code phase.Xmit = 6

abbrev phase_from : ℕ → Phase
phase_from zero = phase.Input
phase_from (suc zero) = phase.Convert
phase_from (suc (suc zero)) = phase.Execute
phase_from (suc (suc (suc zero))) = phase.Output
phase_from (suc (suc (suc (suc zero)))) = phase.Hardcopy
phase_from (suc (suc (suc (suc (suc zero))))) = phase.Purge
phase_from (suc (suc (suc (suc (suc (suc n)))))) = phase.Xmit

phase_back : (p : Phase) → phase_from (phase_code p) ≡ p
phase_back phase.Input = refl
phase_back phase.Convert = refl
phase_back phase.Execute = refl
phase_back phase.Output = refl
phase_back phase.Hardcopy = refl
phase_back phase.Purge = refl
phase_back phase.Xmit = refl

abbrev coded_phase : Coded Phase
coded_phase = code_by ℕ coded_ℕ phase_code phase_from phase_back

-- THE PARTS OF A QUEUE

abbrev coded_config : Coded Config
coded_config =
    code_by (((ℕ × ℕ) × (ℕ × ℕ)) × ((ℕ × ℕ) × (ℕ × Name8))) (coded× (coded× (coded× coded_ℕ coded_ℕ) (coded× coded_ℕ coded_ℕ)) (coded× (coded× coded_ℕ coded_ℕ) (coded× coded_ℕ coded_name)))
    (λ c. (((c.members, c.jobs), (c.outputs, c.volumes)), ((c.groups, c.hold), (c.dormancy, c.node))))
    (λ p. record { members = p.0.0.0; jobs = p.0.0.1; outputs = p.0.1.0; volumes = p.0.1.1; groups = p.1.0.0; hold = p.1.0.1; dormancy = p.1.1.0; node = p.1.1.1 }) (λ _. refl)

abbrev coded_fields : Coded JobFields
coded_fields =
    code_by (((Name8 × Class) × (Class × Prio)) × (((Bool × Bool) × (Bool × Name8)) × (Name8 × Name8)))
    (coded× (coded× (coded× coded_name coded_class) (coded× coded_class coded_prio)) (coded× (coded× (coded× coded_bool coded_bool) (coded× coded_bool coded_name)) (coded× coded_name coded_name)))
    (λ f. (((f.name, f.class), (f.msgclass, f.prio)), (((f.held, f.scan), (f.restart, f.dest)), (f.node, f.origin))))
    (λ p. record { name = p.0.0.0; class = p.0.0.1; msgclass = p.0.1.0; prio = p.0.1.1; held = p.1.0.0.0; scan = p.1.0.0.1; restart = p.1.0.1.0; dest = p.1.0.1.1; node = p.1.1.0; origin = p.1.1.1 }) (λ _. refl)

abbrev coded_job_rec : Coded JobRec
coded_job_rec =
    code_by (((JobNo × JobFields) × (Phase × Bool)) × ((MemberId × ℕ) × ℕ)) (coded× (coded× (coded× coded_job coded_fields) (coded× coded_phase coded_bool)) (coded× (coded× coded_member coded_ℕ) coded_ℕ))
    (λ r. (((r.number, r.fields), (r.phase, r.cancelled)), ((r.busy, r.cards), r.order)))
    (λ p. record { number = p.0.0.0; fields = p.0.0.1; phase = p.0.1.0; cancelled = p.0.1.1; busy = p.1.0.0; cards = p.1.0.1; order = p.1.1 }) (λ _. refl)

abbrev coded_out_rec : Coded OutRec
coded_out_rec =
    code_by (((JobNo × OutNo) × (Class × Name8)) × (((Name8 × ℕ) × (Bool × MemberId)) × ((ℕ × ℕ) × ℕ)))
    (coded× (coded× (coded× coded_job coded_index) (coded× coded_class coded_name)) (coded× (coded× (coded× coded_name coded_ℕ) (coded× coded_bool coded_member)) (coded× (coded× coded_ℕ coded_ℕ) coded_ℕ)))
    (λ r. (((r.job, r.index), (r.class, r.dest)), (((r.forms, r.copies), (r.held, r.busy)), ((r.mark, r.lines), r.order))))
    (λ p. record { job = p.0.0.0; index = p.0.0.1; class = p.0.1.0; dest = p.0.1.1; forms = p.1.0.0.0; copies = p.1.0.0.1; held = p.1.0.1.0; busy = p.1.0.1.1; mark = p.1.1.0.0; lines = p.1.1.0.1; order = p.1.1.1 }) (λ _. refl)

-- the code of a group's owner: which kind it is, and its job, index, place and member
abbrev owner_code : Owner → (ℕ × JobNo) × ((OutNo × ℕ) × MemberId)
owner_code owner.Free = ((0, record { 0 = 0 }), ((record { 0 = 0 }, 0), record { 0 = 0 }))
owner_code (owner.Member m) = ((1, record { 0 = 0 }), ((record { 0 = 0 }, 0), m))
owner_code (owner.Deck job place) = ((2, job), ((record { 0 = 0 }, place), record { 0 = 0 }))
owner_code (owner.Output job index place) = ((3, job), ((index, place), record { 0 = 0 }))

abbrev owner_by : ℕ → JobNo → OutNo → ℕ → MemberId → Owner
owner_by zero job index place m = owner.Free
owner_by (suc zero) job index place m = owner.Member m
owner_by (suc (suc zero)) job index place m = owner.Deck job place
owner_by (suc (suc (suc n))) job index place m = owner.Output job index place

owner_back : (o : Owner) → (let p = owner_code o in owner_by p.0.0 p.0.1 p.1.0.0 p.1.0.1 p.1.1) ≡ o
owner_back owner.Free = refl
owner_back (owner.Member m) = refl
owner_back (owner.Deck job place) = refl
owner_back (owner.Output job index place) = refl

abbrev coded_owner : Coded Owner
coded_owner =
    code_by ((ℕ × JobNo) × ((OutNo × ℕ) × MemberId)) (coded× (coded× coded_ℕ coded_job) (coded× (coded× coded_index coded_ℕ) coded_member))
    owner_code (λ p. owner_by p.0.0 p.0.1 p.1.0.0 p.1.0.1 p.1.1) owner_back

abbrev coded_setting : Coded Setting
coded_setting =
    code_by ((List Class × List Class) × (Name8 × ℕ)) (coded× (coded× (coded_list coded_class) (coded_list coded_class)) (coded× coded_name coded_ℕ))
    (λ s. ((s.init, s.prt), (s.forms, s.lines))) (λ p. record { init = p.0.0; prt = p.0.1; forms = p.1.0; lines = p.1.1 }) (λ _. refl)

abbrev coded_route : Coded Route
coded_route = code_by (Name8 × ℕ) (coded× coded_name coded_ℕ) (λ r. (r.name, r.line)) (λ p. record { name = p.0; line = p.1 }) (λ _. refl)

abbrev coded_count : Coded LineCount
coded_count = code_by ((ℕ × ℕ) × JobNo) (coded× (coded× coded_ℕ coded_ℕ) coded_job) (λ l. ((l.sent, l.got), l.current)) (λ p. record { sent = p.0.0; got = p.0.1; current = p.1 }) (λ _. refl)

-- THE QUEUE

pub tell_is : (t : Tables) (Q : Queue) → ∥ Tell t Q ∥₁ → Tell t Q
tell_is t Q some = record {
  config = ∥∥₁_elim some (Coded-set coded_config _ _) (λ x. x.config);
  jobs = ∥∥₁_elim some (Coded-set (coded_list coded_job_rec) _ _) (λ x. x.jobs);
  outputs = ∥∥₁_elim some (Coded-set (coded_list coded_out_rec) _ _) (λ x. x.outputs);
  owners = ∥∥₁_elim some (Coded-set (coded_list coded_owner) _ _) (λ x. x.owners);
  members = ∥∥₁_elim some (Coded-set (coded_list coded_setting) _ _) (λ x. x.members);
  routes = ∥∥₁_elim some (Coded-set (coded_list coded_route) _ _) (λ x. x.routes);
  lines = ∥∥₁_elim some (Coded-set (coded_list coded_count) _ _) (λ x. x.lines);
  last = ∥∥₁_elim some (Coded-set coded_job _ _) (λ x. x.last);
}
