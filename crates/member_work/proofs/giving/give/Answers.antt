use Rattle.member_work.proofs.Names.{◌*◌, ◌+◌, ◌≤◌, length, TellSound, ◌∙◌, ap, refl, subst, sym, arith, [], ◌∷◌, IsNamedEnd, end_by, entry_of, err_from_is_err_and, last_reply, last_push, AreOf, All-push, Entry, ◌≡◌}
use Rattle.member_work.proofs.GivingLemmas.{gives_none, leaves_texts, named_end, one_longer}
use Rattle.member_work.proofs.giving.give.Goals as goal

pub returns-in_err-do_command-clause-does : goal.returns-in_err-do_command-clause-does
returns-in_err-do_command-clause-does c =
    let m = c.args.member.now in
    let d = c.do_command.ensures in
    let p = err_from_is_err_and c.from_residual.result c.from_residual.ensures.1 in
    let same = c.in_err-do_command.ensures.err in
    rw (p.1, p.2) (record {
      has = rw same (record { id = refl; room = refl; behind = refl; fresh = refl; level = refl; levels = refl; pages = refl; config = refl; spelling = c.requires.spelling; fit = c.requires.fit; own = λ of. of; grows = omega arith; still = λ none. refl; done = λ Q done. done; sound = λ s. s; order = omega arith });
      gives = λ Q told. gives_none Q m.id c.args.step (c.args.command ∷ []) _ m c.do_command.new.self _ (omega arith) same told;
      end = tt;
    })

pub last_reply-requires : goal.last_reply-requires
last_reply-requires c =
    let longer = one_longer c.args.member.now.batch c.do_command.new.self.batch _ c.in_ok-do_command.ensures.pushed.1 in
    omega (arith, longer)

pub returns : goal.returns
returns c =
    let m = c.args.member.now in
    let n = c.do_command.new.self in
    let d = c.do_command.ensures in
    let k = c.in_ok-do_command.ensures in
    let p = k.pushed in
    let longer = one_longer m.batch n.batch _ p.1 in
    let own : AreOf m.id c.args.step m.batch → AreOf m.id c.args.step n.batch = λ of. subst (AreOf m.id c.args.step) (sym p.1) (All-push (λ (e : Entry). (e.by ≡ m.id) × (e.step ≡ c.args.step)) m.batch _ of (refl, refl)) in
    let grows : length m.batch ≤ length n.batch = omega (arith, longer) in
    let still : length n.batch ≡ length m.batch → n ≡ m = λ same. absurd (omega (arith, longer, same)) in
    let sound : TellSound m.checkpoint.tables → TellSound n.checkpoint.tables = λ s. k.sound s (c.requires.own.may s) in
    let order : n.checkpoint.tables.order + 32 * length m.batch ≤ m.checkpoint.tables.order + 32 * length n.batch = let le = d.order in omega (arith, le, longer) in
    record {
      does = record {
        has = assumption (d, k.done, own, grows, still, sound, order);
        gives = λ Q told. record { gave = entry_of Q m.id c.args.step c.args.command ∷ []; batch = k.entry Q told; gives = record { part = refl; effect = k.effect Q told; texts = leaves_texts c.law_of_texts.ensures.texts c.law_of_texts.ensures.told Q m.id c.args.step c.args.command m.checkpoint.tables told } };
        end = λ Q told. c.end_by.ensures ∙ ap end_by (c.last_reply.ensures ∙ ap last_reply (k.entry Q told) ∙ last_push m.batch (entry_of Q m.id c.args.step c.args.command));
      };
      named = subst IsNamedEnd (sym (c.end_by.ensures ∙ ap end_by (c.last_reply.ensures ∙ ap last_reply p.1 ∙ last_push m.batch _))) (named_end p.0 p.2);
      err = tt;
    }
