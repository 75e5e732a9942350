use Rattle.std.proofs.Common.{arith}
use Rattle.queue_tables.proofs.OrderLemmas.{sound_orders}
use Rattle.queue_tables.proofs.SoundTables.{told_are_sound}
use Rattle.queue_commands.proofs.GivenLemmas.{giver_few, given_sound, given_named, given_spelling, given_config}
use Rattle.queue_commands.proofs.giving.give.Goals as goal

pub apply-requires-clause-member : goal.apply-requires-clause-member
apply-requires-clause-member c = giver_few c.args.by c.args.command.now c.requires.giver

pub returns-in-Ok-clause-sound : goal.returns-in-Ok-clause-sound
returns-in-Ok-clause-sound c s may = given_sound c.args.tables.now c.apply.new.tables c.args.by c.args.command.now c.in-Ok.reply c.requires.command c.in-Ok.ensures.plays s may

pub returns-in-Ok-clause-faultless : goal.returns-in-Ok-clause-faultless
returns-in-Ok-clause-faultless c sound s may =
    let t = c.args.tables.now in
    let is = given_sound t c.apply.new.tables c.args.by c.args.command.now c.in-Ok.reply c.requires.command c.in-Ok.ensures.plays s may in
    told_are_sound c.apply.new.tables is.queue is.told is.sound (c.apply.ensures.orders (sound_orders t sound))

pub returns-in-Ok-clause-named : goal.returns-in-Ok-clause-named
returns-in-Ok-clause-named c =
    given_named c.args.tables.now c.apply.new.tables c.args.by c.args.command.now c.requires.giver c.read_numbers.ensures c.requires.command c.requires.spelling
    c.law_of_told_queues.ensures.tell c.in-Ok.reply c.in-Ok.ensures.plays

pub returns-in-Ok-clause-spelling : goal.returns-in-Ok-clause-spelling
returns-in-Ok-clause-spelling c =
    given_spelling c.args.tables.now c.apply.new.tables c.args.by c.args.command.now c.requires.giver c.read_numbers.ensures c.requires.command c.requires.spelling
    c.law_of_told_queues.ensures.tell c.in-Ok.reply c.in-Ok.ensures.plays c.apply.ensures.fits (omega (arith, c.apply.ensures.order, c.requires.order))

pub returns-in-Ok-clause-config : goal.returns-in-Ok-clause-config
returns-in-Ok-clause-config c =
    given_config c.args.tables.now c.apply.new.tables c.args.by c.args.command.now c.requires.giver c.read_numbers.ensures c.requires.command c.requires.spelling
    c.law_of_told_queues.ensures.tell c.in-Ok.reply c.in-Ok.ensures.plays

pub returns-in-Ok-clause-touches : goal.returns-in-Ok-clause-touches
returns-in-Ok-clause-touches c = c.apply.ensures.touches c.requires.fit

pub returns-in-Err-clause-touches : goal.returns-in-Err-clause-touches
returns-in-Err-clause-touches c = c.apply.ensures.touches c.requires.fit
