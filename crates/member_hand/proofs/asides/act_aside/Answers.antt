use Rattle.std.proofs.Common.{List, refl, sym, subst}
use Rattle.mas_types.specs.declared.jobs.OutSpec.{OutSpec}
use Rattle.member_frames.specs.Asides.{MayWriteOutputs, WritesOutputs}
use Rattle.member_hand.proofs.asides.act_aside.Goals as goal

-- A DECK'S TEXT

pub spool_deck-requires : goal.spool_deck-requires
spool_deck-requires g c = rw c.in-SpoolDeck.is at c.requires.may

pub returns-in-SpoolDeck-clause-frame : goal.returns-in-SpoolDeck-clause-frame
returns-in-SpoolDeck-clause-frame g c = rw c.in-SpoolDeck.is c.spool_deck.ensures.frame

pub returns-in-SpoolDeck-clause-reader : goal.returns-in-SpoolDeck-clause-reader
returns-in-SpoolDeck-clause-reader g c = rw c.in-SpoolDeck.is refl

pub returns-in-SpoolDeck-clause-acts : goal.returns-in-SpoolDeck-clause-acts
returns-in-SpoolDeck-clause-acts g c = rw c.in-SpoolDeck.is c.spool_deck.ensures

-- A JOB'S TEXT

pub read_job_text-requires : goal.read_job_text-requires
read_job_text-requires g c = rw c.in-ReadText.is at c.requires.may

pub returns-in-ReadText-clause-frame : goal.returns-in-ReadText-clause-frame
returns-in-ReadText-clause-frame g c = rw c.in-ReadText.is c.read_job_text.ensures.frame

pub returns-in-ReadText-clause-reader : goal.returns-in-ReadText-clause-reader
returns-in-ReadText-clause-reader g c = rw c.in-ReadText.is refl

pub returns-in-ReadText-clause-acts : goal.returns-in-ReadText-clause-acts
returns-in-ReadText-clause-acts g c = rw c.in-ReadText.is c.read_job_text.ensures

-- A JOB'S OUTPUTS

pub write_outputs-requires : goal.write_outputs-requires
write_outputs-requires g c =
    let may = rw c.in-SpoolOutputs.is at c.requires.may in
    subst (λ (specs : List OutSpec). MayWriteOutputs c.args.complex.now c.args.member.now specs) (sym c.as_slice.ensures) may

pub returns-in-SpoolOutputs-clause-frame : goal.returns-in-SpoolOutputs-clause-frame
returns-in-SpoolOutputs-clause-frame g c = rw c.in-SpoolOutputs.is c.write_outputs.ensures.frame

pub returns-in-SpoolOutputs-clause-reader : goal.returns-in-SpoolOutputs-clause-reader
returns-in-SpoolOutputs-clause-reader g c = rw c.in-SpoolOutputs.is refl

pub returns-in-SpoolOutputs-clause-acts : goal.returns-in-SpoolOutputs-clause-acts
returns-in-SpoolOutputs-clause-acts g c =
    rw c.in-SpoolOutputs.is
    (subst (λ (specs : List OutSpec). WritesOutputs c.args.complex.now c.write_outputs.new.complex c.args.member.now specs c.write_outputs.result) c.as_slice.ensures c.write_outputs.ensures)

-- AN OUTPUT'S LINES

pub print_next_lines-requires : goal.print_next_lines-requires
print_next_lines-requires g c = rw c.in-PrintLines.is at c.requires.may

pub returns-in-PrintLines-clause-frame : goal.returns-in-PrintLines-clause-frame
returns-in-PrintLines-clause-frame g c = rw c.in-PrintLines.is c.print_next_lines.ensures.frame

pub returns-in-PrintLines-clause-reader : goal.returns-in-PrintLines-clause-reader
returns-in-PrintLines-clause-reader g c = rw c.in-PrintLines.is refl

pub returns-in-PrintLines-clause-acts : goal.returns-in-PrintLines-clause-acts
returns-in-PrintLines-clause-acts g c = rw c.in-PrintLines.is c.print_next_lines.ensures

-- AN EXCHANGE

pub exchange-requires : goal.exchange-requires
exchange-requires g c = rw c.in-Exchange.is at c.requires.may

pub returns-in-Exchange-clause-frame : goal.returns-in-Exchange-clause-frame
returns-in-Exchange-clause-frame g c = rw c.in-Exchange.is c.exchange.ensures.frame

pub returns-in-Exchange-clause-reader : goal.returns-in-Exchange-clause-reader
returns-in-Exchange-clause-reader g c = rw c.in-Exchange.is tt

pub returns-in-Exchange-clause-acts : goal.returns-in-Exchange-clause-acts
returns-in-Exchange-clause-acts g c = rw c.in-Exchange.is c.exchange.ensures.exchanges

-- THE TEXT OF A JOB THAT CAME

pub spool_deck-requires-in-SpoolArrival : goal.spool_deck-requires-in-SpoolArrival
spool_deck-requires-in-SpoolArrival g c = rw c.in-SpoolArrival.is at c.requires.may

pub returns-in-SpoolArrival-clause-frame : goal.returns-in-SpoolArrival-clause-frame
returns-in-SpoolArrival-clause-frame g c = rw c.in-SpoolArrival.is c.spool_deck-in-SpoolArrival.ensures.frame

pub returns-in-SpoolArrival-clause-reader : goal.returns-in-SpoolArrival-clause-reader
returns-in-SpoolArrival-clause-reader g c = rw c.in-SpoolArrival.is refl

pub returns-in-SpoolArrival-clause-acts : goal.returns-in-SpoolArrival-clause-acts
returns-in-SpoolArrival-clause-acts g c = rw c.in-SpoolArrival.is c.spool_deck-in-SpoolArrival.ensures

-- AN ACKNOWLEDGEMENT

pub acknowledge-requires : goal.acknowledge-requires
acknowledge-requires g c = rw c.in-Acknowledge.is at c.requires.may

pub returns-in-Acknowledge-clause-frame : goal.returns-in-Acknowledge-clause-frame
returns-in-Acknowledge-clause-frame g c = rw c.in-Acknowledge.is c.acknowledge.ensures.frame

pub returns-in-Acknowledge-clause-reader : goal.returns-in-Acknowledge-clause-reader
returns-in-Acknowledge-clause-reader g c = rw c.in-Acknowledge.is refl

pub returns-in-Acknowledge-clause-acts : goal.returns-in-Acknowledge-clause-acts
returns-in-Acknowledge-clause-acts g c = rw c.in-Acknowledge.is c.acknowledge.ensures.acknowledges
