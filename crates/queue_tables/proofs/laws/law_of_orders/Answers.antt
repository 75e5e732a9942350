use Rattle.queue_tables.proofs.OrderLemmas.{empty_orders, sound_orders}
use Rattle.queue_tables.proofs.SoundTables.{told_are_sound}
use Rattle.queue_tables.proofs.laws.law_of_orders.Goals as goal

pub returns : goal.returns
returns c = record { sound = sound_orders; told = told_are_sound; empty = empty_orders }
