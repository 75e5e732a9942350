use Rattle.std.proofs.Common.{◌≡◌, ◌∙◌, Bool, true, false, List, ◌++◌, [], ◌∷◌, All, Result, Ok, ap, refl, subst, sym, arith}
use Rattle.std.proofs.lemmas.List.Elements.{All-nil}
use Rattle.std.proofs.lemmas.Result.{err_from_is_err_and}
use Rattle.mas_types.specs.declared.commands.Command.{Command}
use Rattle.mas_types.specs.declared.commands.Command.TheVariants as command
use Rattle.mas_types.specs.declared.commands.Reply.TheVariants as reply
use Rattle.mas_types.specs.declared.ids.NoMemory.{NoMemory}
use Rattle.mas_types.specs.declared.ids.MemberId.{MemberId}
use Rattle.mas_types.specs.declared.journals.Entry.{Entry}
use Rattle.mas_types.specs.declared.queues.Config.{Config}
use Rattle.mas_types.specs.declared.queues.Queue.{Queue}
use Rattle.mas_types.specs.Closings.{IsReplyNamed}
use Rattle.mas_types.specs.Queue.{is_member}
use Rattle.queue_telling.specs.Telling.{Tell, TellSound}
use Rattle.mas_complex.specs.Meaning.{run, step}
use Rattle.member_node.specs.Batches.{HasDone}
use Rattle.member_node.specs.declared.member.Member.{Member}
use Rattle.member_decks.specs.declared.opening.Opened.TheVariants.{Closed}
use Rattle.member_steps.specs.Steps.{entry_of}
use Rattle.member_decks.specs.Decks.{ends_as, given_in, opening, takes}
use Rattle.member_decks.specs.Taking.{Gives, GivesAt, asked}
use Rattle.member_decks.proofs.DeckLemmas.{begins_alone, begins_job}
use Rattle.member_decks.proofs.OpenLemmas.{gives_all, gives_cut, gives_none, gives_one, gives_then, gives_told, is_not, named_push, not_is, reply_done}
use Rattle.member_opening.proofs.opening.open_deck.Goals as goal
use Rattle.member_opening.proofs.opening.open_deck.Goals.{In-Job, In_ok-do_command}

-- BEGIN WAS DONE

module _ (c : In_ok-do_command) where
  abbrev M : Member
  M = c.args.member.now

  abbrev N : Member
  N = c.do_command.new.self

  abbrev begin : Command
  begin = command.Begin c.args.fields

  sound : TellSound M.checkpoint.tables → TellSound N.checkpoint.tables
  sound s = c.in_ok-do_command.ensures.sound s (ap (λ (k : Config). is_member k M.id) s.told.config ∙ c.requires.member)

  named : All (λ (f : Entry). IsReplyNamed f.reply) N.batch
  named = let p = c.in_ok-do_command.ensures.pushed in named_push M.batch N.batch _ p.1 p.2 (rw c.requires.nothing (All-nil (λ (f : Entry). IsReplyNamed f.reply)))

  done : (Q : Queue) → HasDone Q [] M.checkpoint → HasDone Q N.batch N.checkpoint
  done Q none = c.in_ok-do_command.ensures.done Q (rw c.requires.nothing none)

  -- and then these commands
  module _ (Q : Queue) (told : Tell M.checkpoint.tables Q) where
    begun : GivesAt {E = NoMemory} (asked Q M.id c.args.step (begin ∷ [])) (λ disks per. TellSound M.checkpoint.tables) M N (let r : Result Bool NoMemory = Ok true in r)
    begun = let d = c.in_ok-do_command.ensures in gives_one c.law_of_texts.ensures.texts c.law_of_texts.ensures.told Q M.id c.args.step begin M N true refl (d.entry Q told) told (d.effect Q told)

    told1 : Tell N.checkpoint.tables (step Q M.id begin).0
    told1 = c.in_ok-do_command.ensures.effect Q told

    -- the member is the same
    own : {T : Type 0} (cs : MemberId → List Command) (o : Member) (r : Result T NoMemory) → GivesAt (asked (step Q M.id begin).0 N.id c.args.step (cs N.id)) (λ disks per. TellSound N.checkpoint.tables) N o r → GivesAt (asked (step Q M.id begin).0 M.id c.args.step (cs M.id)) (λ disks per. TellSound N.checkpoint.tables) N o r
    own cs o r k = subst (λ (i : MemberId). GivesAt (asked (step Q M.id begin).0 i c.args.step (cs i)) (λ disks per. TellSound N.checkpoint.tables) N o r) c.do_command.ensures.id k

    behind : {T : Type 0} (cs : List Command) (o : Member) (r : Result T NoMemory) → opening Q M.id c.args.fields c.args.groups ≡ begin ∷ cs → GivesAt (asked (step Q M.id begin).0 M.id c.args.step cs) (λ disks per. TellSound N.checkpoint.tables) N o r
        → Gives (asked Q M.id c.args.step (opening Q M.id c.args.fields c.args.groups)) (λ disks per. TellSound M.checkpoint.tables) o.checkpoint.tables o.batch r
    behind cs o r is k = rw is (gives_all (asked Q M.id c.args.step (begin ∷ cs)) _ M o r c.requires.nothing (gives_then Q M.id c.args.step (begin ∷ []) _ cs _ M N o true r (λ disks per s. sound s) begun k))

-- the job is there
got : (c : In-Job) (Q : Queue) → Tell c.args.member.now.checkpoint.tables Q → (step Q c.args.member.now.id (command.Begin c.args.fields)).1 ≡ reply.Job c.in-Job.job
got c Q told =
    let m = c.args.member.now in
    reply_done m.batch c.do_command.new.self.batch (entry_of Q m.id c.args.step (command.Begin c.args.fields)) c.last_reply.result.now (c.in_ok-do_command.ensures.entry Q told) c.last_reply.ensures ∙ c.in-Job.is

-- OUT OF MEMORY FOR BEGIN

pub returns-in_err-do_command-clause-opening : goal.returns-in_err-do_command-clause-opening
returns-in_err-do_command-clause-opening c Q told =
    let m = c.args.member.now in
    let all = opening Q m.id c.args.fields c.args.groups in
    let p = err_from_is_err_and c.from_residual.result c.from_residual.ensures.1 in
    rw (p.1, p.2, c.in_err-do_command.ensures.err) (gives_all (asked Q m.id c.args.step all) _ m m _ c.requires.nothing (gives_none Q m.id c.args.step all _ m _ (given_in Q m.id c.args.step all, refl, omega arith) told))

pub returns-in_err-do_command-clause-named : goal.returns-in_err-do_command-clause-named
returns-in_err-do_command-clause-named c = rw (c.in_err-do_command.ensures.err, c.requires.nothing) (All-nil (λ (f : Entry). IsReplyNamed f.reply))

pub returns-in_err-do_command-clause-done : goal.returns-in_err-do_command-clause-done
returns-in_err-do_command-clause-done c Q done = rw (c.in_err-do_command.ensures.err, c.requires.nothing) done

-- BEGIN WAS REFUSED

pub returns-in_default : goal.returns-in_default
returns-in_default c =
    let w = (goal.at.returns-in_default c).In_ok-do_command in
    let m = c.args.member.now in
    let n = c.do_command.new.self in
    let d = c.in_ok-do_command.ensures in
    let alone : (Q : Queue) → Tell m.checkpoint.tables Q → (opening Q m.id c.args.fields c.args.groups ≡ command.Begin c.args.fields ∷ []) × (ends_as Q m.id c.args.fields c.args.groups ≡ Closed) =
    λ Q told. begins_alone m.id c.args.fields c.args.groups Q
    (λ k is. c.in_default.not-Job k (sym (reply_done m.batch n.batch (entry_of Q m.id c.args.step (command.Begin c.args.fields)) c.last_reply.result.now (d.entry Q told) c.last_reply.ensures) ∙ is)) in
    record {
      id = d.id;
      room = d.room;
      here = d.behind ∙ c.requires.here;
      fresh = d.fresh;
      level = d.level;
      levels = d.levels;
      pages = d.pages;
      opening = λ Q told. behind w Q told [] n _ (alone Q told).0 (gives_none (step Q m.id (command.Begin c.args.fields)).0 m.id c.args.step [] _ n _ refl (told1 w Q told));
      opened = λ Q told. sym (alone Q told).1;
      named = named w;
      done = done w;
      sound = sound w;
      spelling = d.spelling;
      fit = d.fit;
      order = let one = d.order in omega arith;
      config = d.config;
    }

-- OUT OF MEMORY FOR A TAKE

pub returns-in_err-take_groups-clause-opening : goal.returns-in_err-take_groups-clause-opening
returns-in_err-take_groups-clause-opening c Q told =
    let at = goal.at.returns-in_err-take_groups-clause-opening c in
    let m = c.args.member.now in
    let n = c.do_command.new.self in
    let l = c.take_groups.new.member in
    let Q1 : Queue = (step Q m.id (command.Begin c.args.fields)).0 in
    let p = err_from_is_err_and c.from_residual-in_err-take_groups.result c.from_residual-in_err-take_groups.ensures.1 in
    let taking = own at.In_ok-do_command Q told (λ i. takes c.args.groups Q1 i c.args.groups) l _ (c.in_err-take_groups.ensures.taking Q1 c.args.groups (omega arith) (told1 at.In_ok-do_command Q told)) in
    rw (p.1, p.2) (behind at.In_ok-do_command Q told _ l _ (begins_job m.id c.args.fields c.args.groups Q c.in-Job.job _ (got at.In-Job Q told) refl).0 (gives_cut Q1 m.id c.args.step (takes c.args.groups Q1 m.id c.args.groups) _ _ n l _ taking))

pub returns-in_err-take_groups-clause-named : goal.returns-in_err-take_groups-clause-named
returns-in_err-take_groups-clause-named c = c.take_groups.ensures.named (named (goal.at.returns-in_err-take_groups-clause-named c).In_ok-do_command)

pub returns-in_err-take_groups-clause-done : goal.returns-in_err-take_groups-clause-done
returns-in_err-take_groups-clause-done c Q none = c.take_groups.ensures.done Q (done (goal.at.returns-in_err-take_groups-clause-done c).In_ok-do_command Q none)

pub returns-in_err-take_groups-clause-sound : goal.returns-in_err-take_groups-clause-sound
returns-in_err-take_groups-clause-sound c s = c.take_groups.ensures.sound (sound (goal.at.returns-in_err-take_groups-clause-sound c).In_ok-do_command s)

-- THE GROUPS WERE TAKEN

pub returns-then-branch-clause-opening : goal.returns-then-branch-clause-opening
returns-then-branch-clause-opening c Q told =
    let at = goal.at.returns-then-branch-clause-opening c in
    let m = c.args.member.now in
    let l = c.take_groups.new.member in
    let Q1 : Queue = (step Q m.id (command.Begin c.args.fields)).0 in
    let k = c.in_ok-take_groups.ensures in
    let all = not_is _ (sym (rw c.do_command.ensures.id at (k.all Q1 c.args.groups (omega arith) (told1 at.In_ok-do_command Q told))) ∙ c.if-branch.true) in
    let its = takes c.args.groups Q1 m.id c.args.groups in
    let taking = own at.In_ok-do_command Q told (λ i. takes c.args.groups Q1 i c.args.groups) l _ (k.taking Q1 c.args.groups (omega arith) (told1 at.In_ok-do_command Q told)) in
    behind at.In_ok-do_command Q told (its ++ []) l _ (begins_job m.id c.args.fields c.args.groups Q c.in-Job.job false (got at.In-Job Q told) all).0
    (gives_then Q1 m.id c.args.step its _ [] (λ disks per. TellSound l.checkpoint.tables) c.do_command.new.self l l _ _ (λ disks per s. k.sound s) taking
    (gives_none (run Q1 (given_in Q1 m.id c.args.step its)) m.id c.args.step [] _ l _ refl (gives_told Q1 m.id c.args.step its _ c.do_command.new.self l _ taking)))

pub returns-then-branch-clause-opened : goal.returns-then-branch-clause-opened
returns-then-branch-clause-opened c Q told =
    let at = goal.at.returns-then-branch-clause-opened c in
    let m = c.args.member.now in
    let all = not_is _ (sym (rw c.do_command.ensures.id at (c.in_ok-take_groups.ensures.all (step Q m.id (command.Begin c.args.fields)).0 c.args.groups (omega arith) (told1 at.In_ok-do_command Q told))) ∙ c.if-branch.true) in
    sym (begins_job m.id c.args.fields c.args.groups Q c.in-Job.job false (got at.In-Job Q told) all).1

pub returns-then-branch-clause-named : goal.returns-then-branch-clause-named
returns-then-branch-clause-named c = c.take_groups.ensures.named (named (goal.at.returns-then-branch-clause-named c).In_ok-do_command)

pub returns-then-branch-clause-done : goal.returns-then-branch-clause-done
returns-then-branch-clause-done c Q none = c.take_groups.ensures.done Q (done (goal.at.returns-then-branch-clause-done c).In_ok-do_command Q none)

pub returns-then-branch-clause-sound : goal.returns-then-branch-clause-sound
returns-then-branch-clause-sound c s = c.take_groups.ensures.sound (sound (goal.at.returns-then-branch-clause-sound c).In_ok-do_command s)

-- A TAKE WAS REFUSED, AND OUT OF MEMORY FOR DROP

pub returns-in_err-do_command-2-clause-opening : goal.returns-in_err-do_command-2-clause-opening
returns-in_err-do_command-2-clause-opening c Q told =
    let at = goal.at.returns-in_err-do_command-2-clause-opening c in
    let m = c.args.member.now in
    let n = c.do_command.new.self in
    let l = c.take_groups.new.member in
    let drop = command.Drop c.in-Job.job in
    let Q1 : Queue = (step Q m.id (command.Begin c.args.fields)).0 in
    let its = takes c.args.groups Q1 m.id c.args.groups in
    let Q2 : Queue = run Q1 (given_in Q1 m.id c.args.step its) in
    let k = c.in_ok-take_groups.ensures in
    let refused = is_not _ (sym (rw c.do_command.ensures.id at (k.all Q1 c.args.groups (omega arith) (told1 at.In_ok-do_command Q told))) ∙ c.if-branch.false) in
    let taking = own at.In_ok-do_command Q told (λ i. takes c.args.groups Q1 i c.args.groups) l _ (k.taking Q1 c.args.groups (omega arith) (told1 at.In_ok-do_command Q told)) in
    let p = err_from_is_err_and c.from_residual-in_err-do_command-2.result c.from_residual-in_err-do_command-2.ensures.1 in
    rw (p.1, p.2, c.in_err-do_command-2.ensures.err) (behind at.In_ok-do_command Q told (its ++ drop ∷ []) l _ (begins_job m.id c.args.fields c.args.groups Q c.in-Job.job true (got at.In-Job Q told) refused).0
    (gives_then Q1 m.id c.args.step its _ (drop ∷ []) (λ disks per. TellSound l.checkpoint.tables) n l l _ _ (λ disks per s. k.sound s) taking
    (gives_none Q2 m.id c.args.step (drop ∷ []) _ l _ (given_in Q2 m.id c.args.step (drop ∷ []), refl, omega arith) (gives_told Q1 m.id c.args.step its _ n l _ taking))))

pub returns-in_err-do_command-2-clause-named : goal.returns-in_err-do_command-2-clause-named
returns-in_err-do_command-2-clause-named c = rw c.in_err-do_command-2.ensures.err (c.take_groups.ensures.named (named (goal.at.returns-in_err-do_command-2-clause-named c).In_ok-do_command))

pub returns-in_err-do_command-2-clause-done : goal.returns-in_err-do_command-2-clause-done
returns-in_err-do_command-2-clause-done c Q none = rw c.in_err-do_command-2.ensures.err (c.take_groups.ensures.done Q (done (goal.at.returns-in_err-do_command-2-clause-done c).In_ok-do_command Q none))

pub returns-in_err-do_command-2-clause-sound : goal.returns-in_err-do_command-2-clause-sound
returns-in_err-do_command-2-clause-sound c s = rw c.in_err-do_command-2.ensures.err (c.take_groups.ensures.sound (sound (goal.at.returns-in_err-do_command-2-clause-sound c).In_ok-do_command s))

-- AND THE JOB IS DROPPED

pub returns-clause-opening : goal.returns-clause-opening
returns-clause-opening c Q told =
    let at = goal.at.returns-clause-opening c in
    let m = c.args.member.now in
    let n = c.do_command.new.self in
    let l = c.take_groups.new.member in
    let drop = command.Drop c.in-Job.job in
    let Q1 : Queue = (step Q m.id (command.Begin c.args.fields)).0 in
    let its = takes c.args.groups Q1 m.id c.args.groups in
    let Q2 : Queue = run Q1 (given_in Q1 m.id c.args.step its) in
    let k = c.in_ok-take_groups.ensures in
    let w = c.do_command-2.new.self in
    let last = c.in_ok-do_command-2.ensures in
    let laws = c.law_of_texts.ensures in
    let refused = is_not _ (sym (rw c.do_command.ensures.id at (k.all Q1 c.args.groups (omega arith) (told1 at.In_ok-do_command Q told))) ∙ c.if-branch.false) in
    let taking = own at.In_ok-do_command Q told (λ i. takes c.args.groups Q1 i c.args.groups) l _ (k.taking Q1 c.args.groups (omega arith) (told1 at.In_ok-do_command Q told)) in
    let told2 = gives_told Q1 m.id c.args.step its _ n l _ taking in
    let same = k.id ∙ c.do_command.ensures.id in
    behind at.In_ok-do_command Q told (its ++ drop ∷ []) w _ (begins_job m.id c.args.fields c.args.groups Q c.in-Job.job true (got at.In-Job Q told) refused).0
    (gives_then Q1 m.id c.args.step its _ (drop ∷ []) (λ disks per. TellSound l.checkpoint.tables) n l w _ _ (λ disks per s. k.sound s) taking
    (gives_one laws.texts laws.told Q2 m.id c.args.step drop l w _ refl (rw same at (last.entry Q2 told2)) told2 (rw same at (last.effect Q2 told2))))

pub returns-clause-opened : goal.returns-clause-opened
returns-clause-opened c Q told =
    let at = goal.at.returns-clause-opened c in
    let m = c.args.member.now in
    let refused = is_not _ (sym (rw c.do_command.ensures.id at (c.in_ok-take_groups.ensures.all (step Q m.id (command.Begin c.args.fields)).0 c.args.groups (omega arith) (told1 at.In_ok-do_command Q told))) ∙ c.if-branch.false) in
    sym (begins_job m.id c.args.fields c.args.groups Q c.in-Job.job true (got at.In-Job Q told) refused).1

pub returns-clause-named : goal.returns-clause-named
returns-clause-named c =
    let p = c.in_ok-do_command-2.ensures.pushed in
    named_push c.take_groups.new.member.batch c.do_command-2.new.self.batch _ p.1 p.2 (c.in_ok-take_groups.ensures.named (named (goal.at.returns-clause-named c).In_ok-do_command))

pub returns-clause-done : goal.returns-clause-done
returns-clause-done c Q none = c.in_ok-do_command-2.ensures.done Q (c.in_ok-take_groups.ensures.done Q (done (goal.at.returns-clause-done c).In_ok-do_command Q none))

pub returns-clause-sound : goal.returns-clause-sound
returns-clause-sound c s =
    let m = c.args.member.now in
    let d = c.in_ok-do_command.ensures in
    let k = c.in_ok-take_groups.ensures in
    let u = k.sound (sound (goal.at.returns-clause-sound c).In_ok-do_command s) in
    c.in_ok-do_command-2.ensures.sound u (ap (λ (g : Config). is_member g c.take_groups.new.member.id) (u.told.config ∙ k.config ∙ d.config) ∙ rw (k.id, d.id) c.requires.member)
