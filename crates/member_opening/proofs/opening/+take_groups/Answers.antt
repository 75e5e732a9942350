use Rattle.std.proofs.Common.{◌≡◌, ◌∙◌, ℕ, ◌-◌, ◌≤◌, [], ◌∷◌, not, true, ap, refl, subst, sym, arith}
use Rattle.std.proofs.lemmas.Result.{err_from_is_err_and}
use Rattle.mas_types.specs.declared.commands.Command.TheVariants as command
use Rattle.mas_types.specs.declared.commands.Reply.TheVariants as reply
use Rattle.mas_types.specs.declared.ids.MemberId.{MemberId}
use Rattle.mas_types.specs.declared.queues.Config.{Config}
use Rattle.mas_types.specs.declared.queues.Queue.{Queue}
use Rattle.mas_types.specs.Queue.{is_member}
use Rattle.queue_telling.specs.Telling.{Tell, TellSound}
use Rattle.mas_complex.specs.Meaning.{step}
use Rattle.member_steps.specs.Steps.{entry_of}
use Rattle.member_steps.proofs.StepLemmas.{if_ok}
use Rattle.member_decks.specs.Decks.{are_refused, given_in, takes}
use Rattle.member_decks.specs.Taking.{GivesAt, asked}
use Rattle.member_decks.proofs.OpenLemmas.{gives_none, gives_one, gives_then, named_push, reply_done, some_taken, tells_some}
use Rattle.member_decks.proofs.TakeLemmas.{take_counts, take_first, take_last, take_none}
use Rattle.member_opening.proofs.opening.+take_groups.Goals as goal
use Rattle.member_opening.proofs.opening.+take_groups.Goals.{In-Count}

-- the Take gave so many groups
module _ (t : ℕ) (c : In-Count t) where
  got : (Q : Queue) → Tell c.args.member.now.checkpoint.tables Q → (step Q c.args.member.now.id (command.Take c.args.missing)).1 ≡ reply.Count c.in-Count.taken
  got Q told =
      let m = c.args.member.now in
      reply_done m.batch c.do_command.new.self.batch (entry_of Q m.id c.args.step (command.Take c.args.missing)) c.last_reply.result.now (c.in_ok-do_command.ensures.entry Q told) c.last_reply.ensures ∙ c.in-Count.is

  counts : 1 ≤ c.args.missing → (1 ≤ c.in-Count.taken) × (c.in-Count.taken ≤ c.args.missing)
  counts some = let s = tells_some c.args.member.now.checkpoint.tables in take_counts s.0 c.args.member.now.id c.args.missing c.in-Count.taken some (got s.0 s.1)

  sound : TellSound c.args.member.now.checkpoint.tables → TellSound c.do_command.new.self.checkpoint.tables
  sound s = c.in_ok-do_command.ensures.sound s (ap (λ (k : Config). is_member k c.args.member.now.id) s.told.config ∙ c.requires.member)

pub returns-then-missing-eq0-clause-taking : goal.returns-then-missing-eq0-clause-taking
returns-then-missing-eq0-clause-taking t c Q times le told =
    let m = c.args.member.now in
    rw (take_none Q m.id times c.args.missing (omega arith)).0 (gives_none Q m.id c.args.step [] _ m _ refl told)

pub returns-then-missing-eq0-clause-all : goal.returns-then-missing-eq0-clause-all
returns-then-missing-eq0-clause-all t c Q times le told = ap not (sym (take_none Q c.args.member.now.id times c.args.missing (omega arith)).1)

pub returns-in_err-do_command-clause-taking : goal.returns-in_err-do_command-clause-taking
returns-in_err-do_command-clause-taking t c Q times le told =
    let m = c.args.member.now in
    let wanted = takes times Q m.id c.args.missing in
    let p = err_from_is_err_and c.from_residual.result c.from_residual.ensures.1 in
    rw (p.1, p.2, c.in_err-do_command.ensures.err) (gives_none Q m.id c.args.step wanted _ m _ (given_in Q m.id c.args.step wanted, refl, some_taken Q m.id c.args.step times c.args.missing (omega arith) le) told)

pub overflow_sub-missing : goal.overflow_sub-missing
overflow_sub-missing t c = (counts t (goal.at.overflow_sub-missing t c).In-Count (omega arith)).1

pub take_groups-requires : goal.take_groups-requires
take_groups-requires t c =
    let d = c.do_command.ensures in
    let both = counts t (goal.at.take_groups-requires t c).In-Count (omega arith) in
    let more = both.0 in
    let fewer = both.1 in
    let order = d.order in (
      omega arith,
      (
        rw d.id c.requires.some,
        (
          rw d.id c.requires.by,
          (
            d.behind ∙ c.requires.here,
            (rw (d.config, d.id) c.requires.member, (d.spelling, (d.fit, omega arith))),
          ),
        ),
      ),
    )

pub returns-in-Count-clause-taking : goal.returns-in-Count-clause-taking
returns-in-Count-clause-taking t c Q times le told =
    let m = c.args.member.now in
    let n = c.do_command.new.self in
    let d = c.in_ok-do_command.ensures in
    let w = (goal.at.returns-in-Count-clause-taking t c).In-Count in
    let take = command.Take c.args.missing in
    let laws = c.law_of_texts.ensures in
    let next = take_first Q m.id times c.args.missing c.in-Count.taken (omega arith) le (got t w Q told) in
    rw next.2 (gives_then Q m.id c.args.step (take ∷ []) _ _ _ m n c.take_groups.new.member true c.take_groups.result (λ disks per s. sound t w s) (gives_one laws.texts laws.told Q m.id c.args.step take m n true refl (d.entry Q told) told (d.effect Q told))
    (subst (λ (i : MemberId). GivesAt (asked (step Q m.id take).0 i c.args.step (takes next.0 (step Q m.id take).0 i (c.args.missing - c.in-Count.taken))) (λ disks per. TellSound n.checkpoint.tables) n c.take_groups.new.member c.take_groups.result) d.id (c.take_groups.ensures.taking _ next.0 next.1 (d.effect Q told))))

pub returns-in-Count-clause-all : goal.returns-in-Count-clause-all
returns-in-Count-clause-all t c =
    let m = c.args.member.now in
    let d = c.in_ok-do_command.ensures in
    let w = (goal.at.returns-in-Count-clause-all t c).In-Count in
    if_ok _ (λ all. (Q : Queue) (times : ℕ) → c.args.missing ≤ times → Tell m.checkpoint.tables Q → all ≡ not (are_refused times Q m.id c.args.missing)) c.take_groups.result
    (λ all rest Q times le told.
    let next = take_first Q m.id times c.args.missing c.in-Count.taken (omega arith) le (got t w Q told) in
    rest _ next.0 next.1 (d.effect Q told) ∙ ap (λ (i : MemberId). not (are_refused next.0 (step Q m.id (command.Take c.args.missing)).0 i (c.args.missing - c.in-Count.taken))) d.id ∙ ap not (sym next.3))
    c.take_groups.ensures.all

pub returns-in-Count-clause-named : goal.returns-in-Count-clause-named
returns-in-Count-clause-named t c all =
    let p = c.in_ok-do_command.ensures.pushed in
    c.take_groups.ensures.named (named_push c.args.member.now.batch c.do_command.new.self.batch _ p.1 p.2 all)

pub returns-in-Count-clause-done : goal.returns-in-Count-clause-done
returns-in-Count-clause-done t c Q done = c.take_groups.ensures.done Q (c.in_ok-do_command.ensures.done Q done)

pub returns-in-Count-clause-sound : goal.returns-in-Count-clause-sound
returns-in-Count-clause-sound t c s = c.take_groups.ensures.sound (sound t (goal.at.returns-in-Count-clause-sound t c).In-Count s)

pub returns-in-Count-clause-order : goal.returns-in-Count-clause-order
returns-in-Count-clause-order t c =
    let both = counts t (goal.at.returns-in-Count-clause-order t c).In-Count (omega arith) in
    let more = both.0 in
    let fewer = both.1 in
    let first = c.do_command.ensures.order in
    let rest = c.take_groups.ensures.order in
    omega arith

pub returns-in_default : goal.returns-in_default
returns-in_default t c =
    let m = c.args.member.now in
    let n = c.do_command.new.self in
    let d = c.in_ok-do_command.ensures in
    let take = command.Take c.args.missing in
    let laws = c.law_of_texts.ensures in
    let last : (Q : Queue) (times : ℕ) → c.args.missing ≤ times → Tell m.checkpoint.tables Q → (takes times Q m.id c.args.missing ≡ take ∷ []) × (are_refused times Q m.id c.args.missing ≡ true) =
    λ Q times le told. take_last Q m.id times c.args.missing (omega (arith, le)) (omega arith)
    (λ k got. c.in_default.not-Count k (sym (reply_done m.batch n.batch (entry_of Q m.id c.args.step take) c.last_reply.result.now (d.entry Q told) c.last_reply.ensures) ∙ got)) in
    record {
      id = d.id;
      room = d.room;
      here = d.behind ∙ c.requires.here;
      fresh = d.fresh;
      level = d.level;
      levels = d.levels;
      pages = d.pages;
      taking = λ Q times le told. rw (last Q times le told).0 (gives_one laws.texts laws.told Q m.id c.args.step take m n _ refl (d.entry Q told) told (d.effect Q told));
      all = λ Q times le told. ap not (sym (last Q times le told).1);
      named = λ all. named_push m.batch n.batch _ d.pushed.1 d.pushed.2 all;
      done = d.done;
      sound = λ u. d.sound u (ap (λ (k : Config). is_member k m.id) u.told.config ∙ c.requires.member);
      spelling = d.spelling;
      fit = d.fit;
      order = let one = d.order in omega arith;
      config = d.config;
    }
