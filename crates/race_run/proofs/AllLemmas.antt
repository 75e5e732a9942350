-- The last value of a race, of which the root pass knows what the members' passes knew.
use Rattle.std.proofs.Common.{◌≡◌, ◌∙◌, ℕ, zero, suc, ◌+◌, ◌<◌, true, List, [], ◌∷◌, length, Option, Some, Result, slice_get, refl, sym, ap, subst, arith}
use Rattle.std.specs.Result.{is_err}
use Rattle.mas_types.specs.declared.answers.Status.{Status}
use Rattle.mas_types.specs.declared.ids.MemberId.{MemberId}
use Rattle.mas_types.specs.declared.queues.Queue.{Queue}
use Rattle.script_lang.specs.declared.types.Step.{Step}
use Rattle.spool_plant.specs.View.{View as Shown}
use Rattle.gate_facts.specs.declared.facts.Facts.{Facts}
use Rattle.gate_facts.specs.Memory.{Knows}
use Rattle.gate_facts.specs.Values.{begun_of, lines_of as said_of}
use Rattle.member_gate.specs.declared.view.View.{View}
use Rattle.member_gate.specs.declared.view.Sight.{Sight}
use Rattle.member_gate.specs.Views.{giving, given_to, memory_in, sight}
use Rattle.member_node.specs.declared.member.Member.{Member}
use Rattle.member_node.specs.declared.member.NodeNo.{NodeNo}
use Rattle.run_opening.specs.Statuses.{status_of}
use Rattle.race_run.specs.Races.{seen_in}
use Rattle.race_run.specs.Racing.{AreRaced}
use Rattle.race_run.specs.Rounds.{RacedOn}
use Rattle.race_run.specs.Values.{AreNew}
use Rattle.race_run.proofs.MemberLemmas.{HasAllOf, HasOf, IsNewPass, one_raced}
use Rattle.race_run.proofs.RoundLemmas.{AllKnow, AreFrom, answers_of, giving_sight}

module _ (tells : Type 0) (told : tells) (entry : Shown) (steps : List Step) (start is : Facts) (top : View)
    (new : AreNew start) (knows : Knows top.member (memory_in top true) is) where
  -- how the lines of a member ended, and what the last value has of them
  pub record IsDone (answer : Option Status) (m : MemberId) : Type 0 where
    pub ended : Result (Unit {0}) NodeNo
    pub of : HasAllOf start.base m (seen_in start.base entry m) (length start.kept) steps (is_err ended) is
    pub status : answer ≡ Some (status_of ended)

  new_pass : (m : MemberId) (root : View) → 0 < m.0 → (sight root true).last ≡ start
      → IsNewPass m (length start.kept) (memory_in (given_to m.0 root) true)
  new_pass m root some last = record {
    seen = ap (λ (f : Facts). length f.kept) last;
    begun = ap (λ (f : Facts). begun_of f m.0) last ∙ (new m.0 some).0;
    said = ap (λ (f : Facts). said_of f m.0) last ∙ (new m.0 some).1;
    printed = refl;
    stopped = refl;
  }

  pub done_at : (d at : ℕ) (root : View) (ms : List Member) (end : View) (answer : Status)
      → (raced : RacedOn tells entry steps root ms end answer) → 0 < at → (sight root true).last ≡ start → AreFrom at ms
      → AllKnow tells entry steps true top is.kept root ms end answer raced → d < length ms → (n : MemberId) → n.0 ≡ at + d
      → IsDone (slice_get (answers_of tells entry steps root ms end answer raced) d) n
  done_at d at root [] end answer raced some last from know lt n number = absurd (omega (arith, lt))
  done_at (suc d) at root (m ∷ ms) end answer (mid, v, one, rest, more, raced, joins, least_is) some last from know lt n number =
      done_at d (at + 1) (giving m.id.0 root) ms mid rest more (omega arith) (ap (λ (s : Sight). s.last) (giving_sight true m.id.0 root) ∙ last)
      from.1 know.2 (omega (arith, lt)) n (omega (arith, number))
  done_at zero at root (m ∷ ms) end answer (mid, v, one, rest, more, raced, joins, least_is) some last from know lt n number =
      let here : n.0 ≡ at = omega (arith, number) in
      let same : m.id ≡ n = from.0 ∙ (λ i. record { 0 = sym here i }) in
      let by : ℕ = m.id.0 in
      let positive : 0 < m.id.0 = (let e = ap (λ (k : MemberId). k.0) from.0 in omega (arith, e, some)) in
      let has : HasOf m.id (memory_in v true) is = record {
        kept = know.1;
        begun = knows.begun by know.0.cares ∙ know.0.begun;
        said = knows.lines by know.0.cares ∙ know.0.lines;
      } in
      let base : (memory_in (given_to m.id.0 root) true).base ≡ start.base = ap (λ (f : Facts). f.base) last in
      let lines = subst (λ (q : Queue). AreRaced q m.id (seen_in q entry m.id) 1 steps (memory_in (given_to m.id.0 root) true) (memory_in v true) one) base (raced.raced told) in
      subst (λ (k : MemberId). IsDone (Some (status_of one)) k) same (record {
        ended = one;
        of = one_raced start.base m.id (seen_in start.base entry m.id) (length start.kept) steps (memory_in (given_to m.id.0 root) true) (memory_in v true) one is
            (new_pass m.id root positive last) lines has;
        status = refl;
      })
