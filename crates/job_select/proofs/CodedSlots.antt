-- Slots are coded, so that it has one proof that an index is of tables.
use Rattle.std.proofs.Common.{◌≡◌, ℕ, zero, suc, Bool, List, refl, ap, ◌∙◌}
use Rattle.std.specs.Coded.{Coded, Coded-set, coded_list, coded_option, coded_ℕ, coded_bool, coded×, code_by}
use Rattle.mas_types.specs.declared.jobs.JobFields.{JobFields}
use Rattle.mas_types.specs.declared.jobs.Phase.{Phase}
use Rattle.mas_types.specs.declared.jobs.Phase.TheVariants as phase
use Rattle.lay_bytes.specs.declared.records.JobRec.{JobRec}
use Rattle.lay_bytes.specs.declared.records.OutRec.{OutRec}
use Rattle.ckpt_tables.specs.declared.tables.Tables.{Tables}
use Rattle.job_select.specs.declared.index.Index.{Index}
use Rattle.job_select.specs.Indexes.{IsOf}

abbrev phase_code : Phase → ℕ
phase_code phase.Input = 0
phase_code phase.Convert = 1
phase_code phase.Execute = 2
phase_code phase.Output = 3
phase_code phase.Hardcopy = 4
phase_code phase.Purge = 5
phase_code phase.Xmit = 6

abbrev phase_from : ℕ → Phase
phase_from zero = phase.Input
phase_from (suc zero) = phase.Convert
phase_from (suc (suc zero)) = phase.Execute
phase_from (suc (suc (suc zero))) = phase.Output
phase_from (suc (suc (suc (suc zero)))) = phase.Hardcopy
phase_from (suc (suc (suc (suc (suc zero))))) = phase.Purge
phase_from (suc (suc (suc (suc (suc (suc n)))))) = phase.Xmit

phase_back : (p : Phase) → phase_from (phase_code p) ≡ p
phase_back phase.Input = refl
phase_back phase.Convert = refl
phase_back phase.Execute = refl
phase_back phase.Output = refl
phase_back phase.Hardcopy = refl
phase_back phase.Purge = refl
phase_back phase.Xmit = refl

abbrev coded_phase : Coded Phase
coded_phase = code_by ℕ coded_ℕ phase_code phase_from phase_back

abbrev coded_bytes : Coded (List ℕ)
coded_bytes = coded_list coded_ℕ

abbrev coded_fields : Coded JobFields
coded_fields =
    code_by (((List ℕ × List ℕ) × (List ℕ × List ℕ)) × (((ℕ × ℕ) × ℕ) × ((Bool × Bool) × Bool)))
    (coded× (coded× (coded× coded_bytes coded_bytes) (coded× coded_bytes coded_bytes)) (coded× (coded× (coded× coded_ℕ coded_ℕ) coded_ℕ) (coded× (coded× coded_bool coded_bool) coded_bool)))
    (λ f. (((f.name.0, f.dest.0), (f.node.0, f.origin.0)), (((f.class.0, f.msgclass.0), f.prio.0), ((f.held, f.scan), f.restart))))
    (λ p. record {
      name = record { 0 = p.0.0.0 };
      dest = record { 0 = p.0.0.1 };
      node = record { 0 = p.0.1.0 };
      origin = record { 0 = p.0.1.1 };
      class = record { 0 = p.1.0.0.0 };
      msgclass = record { 0 = p.1.0.0.1 };
      prio = record { 0 = p.1.0.1 };
      held = p.1.1.0.0;
      scan = p.1.1.0.1;
      restart = p.1.1.1;
    })
    (λ _. refl)

coded_job : Coded JobRec
coded_job =
    code_by ((JobFields × Phase) × ((ℕ × Bool) × (ℕ × (ℕ × ℕ))))
    (coded× (coded× coded_fields coded_phase) (coded× (coded× coded_ℕ coded_bool) (coded× coded_ℕ (coded× coded_ℕ coded_ℕ))))
    (λ r. ((r.fields, r.phase), ((r.number.0, r.cancelled), (r.busy.0, (r.cards, r.order)))))
    (λ p. record {
      number = record { 0 = p.1.0.0 };
      fields = p.0.0;
      phase = p.0.1;
      cancelled = p.1.0.1;
      busy = record { 0 = p.1.1.0 };
      cards = p.1.1.1.0;
      order = p.1.1.1.1;
    })
    (λ _. refl)

coded_output : Coded OutRec
coded_output =
    code_by ((List ℕ × List ℕ) × (((ℕ × ℕ) × (ℕ × ℕ)) × ((Bool × ℕ) × (ℕ × (ℕ × ℕ)))))
    (coded× (coded× coded_bytes coded_bytes) (coded× (coded× (coded× coded_ℕ coded_ℕ) (coded× coded_ℕ coded_ℕ)) (coded× (coded× coded_bool coded_ℕ) (coded× coded_ℕ (coded× coded_ℕ coded_ℕ)))))
    (λ r. ((r.dest.0, r.forms.0), (((r.job.0, r.index.0), (r.class.0, r.copies)), ((r.held, r.busy.0), (r.mark, (r.lines, r.order))))))
    (λ p. record {
      job = record { 0 = p.1.0.0.0 };
      index = record { 0 = p.1.0.0.1 };
      class = record { 0 = p.1.0.1.0 };
      dest = record { 0 = p.0.0 };
      forms = record { 0 = p.0.1 };
      copies = p.1.0.1.1;
      held = p.1.1.0.0;
      busy = record { 0 = p.1.1.0.1 };
      mark = p.1.1.1.0;
      lines = p.1.1.1.1.0;
      order = p.1.1.1.1.1;
    })
    (λ _. refl)

-- that an index is of tables has one proof
pub of_prop : (index : Index) (t : Tables) (x y : IsOf index t) → x ≡ y
of_prop index t x y =
    ap (λ (e : index.jobs ≡ t.jobs). record x { jobs = e }) (Coded-set (coded_list (coded_option coded_job)) _ _ x.jobs y.jobs)
    ∙ ap (λ (e : index.outputs ≡ t.outputs). record y { outputs = e }) (Coded-set (coded_list (coded_option coded_output)) _ _ x.outputs y.outputs)
