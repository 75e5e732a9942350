use Rattle.member_units.proofs.Names.{◌≡◌, ℕ, Some, ◌∙◌, ap, refl, sym, subst, arith, is_some, JobNo, OutNo, Queue, output_at, chunk_end, PrintLines, lines_of}
use Rattle.mas_types.specs.declared.jobs.Output.{Output}
use Rattle.std.specs.Prelude.{Option}
use Rattle.member_work.specs.Printing.{IsPrinting}
use Rattle.member_work.proofs.PrintedLemmas.{chunk_of, output_key, told_output}
use Rattle.member_units.proofs.nexts.next_lines.Goals as goal

pub returns-in-Some : goal.returns-in-Some
returns-in-Some c =
    let m = c.args.member.now in
    let t = m.checkpoint.tables in
    let f = c.in-Some.found in
    let p = c.args.progress in
    let some = rw c.as_slice.ensures at c.in-Some.ensures.some in
    let here = rw c.as_slice.ensures at c.in-Some.ensures.here in
    let rec = told_output t c.args.job c.args.output f.at f.item c.requires.spelling some here in
    let key = output_key t c.args.job c.args.output f.at f.item some in
    let named : (Q : Queue) → output_at Q f.item.job f.item.index ≡ output_at Q c.args.job c.args.output = λ Q. ap (λ (n : JobNo). output_at Q n f.item.index) key.0 ∙ ap (λ (i : OutNo). output_at Q c.args.job i) key.1 in
    let chunk = chunk_of t m.id f.item c.chunk_end.result rec c.chunk_end.ensures.limit c.chunk_end.ensures.total c.chunk_end.ensures.is in
    record {
      is = λ Q told.
          let has = some Q.outputs told.outputs in
          let found = named Q ∙ has.found in
          let same = rec.same Q has.item told found in
          let end : ℕ = chunk_end Q m.id has.item in
          sym (ap (lines_of m.id p Q) has.found
          ∙ ap (λ (n : JobNo). Some (PrintLines n has.item.index end p)) same.0
          ∙ ap (λ (i : OutNo). Some (PrintLines f.item.job i end p)) same.1
          ∙ ap (λ (k : ℕ). Some (PrintLines f.item.job f.item.index k p)) (sym (chunk.is Q has.item told found)));
      awaited = λ printing. record {
        ready = record {
          index = rec.index;
          there = λ Q told. ap (λ (o : Option Output). is_some o) (named Q ∙ (some Q.outputs told.outputs).found);
          printing = λ Q told sound. subst (λ (n : JobNo). IsPrinting Q m.id n f.item.index) (sym key.0) (subst (λ (i : OutNo). IsPrinting Q m.id c.args.job i) (sym key.1) (printing Q told sound));
          chunk = λ Q o told there. chunk.is Q o told there;
        };
        units = refl;
        done = refl;
        most = omega arith;
      };
    }

pub returns-in-None : goal.returns-in-None
returns-in-None c =
    let none = rw c.as_slice.ensures at c.in-None.ensures.none in
    record { is = λ Q told. sym (ap (lines_of c.args.member.now.id c.args.progress Q) (none Q.outputs told.outputs)); awaited = λ printing. tt }
