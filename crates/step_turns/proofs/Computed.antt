-- The worked examples, by computation.
use Rattle.std.proofs.Common.{refl}
use Rattle.std.specs.Fmt.{digits}
use Rattle.step_turns.specs.Examples.{CommandIsOneSitting, CopiesArePrinted, DeckIsTwoSittings, DeckSpendsTheLock, DeckUnderLock, FullBatchIsWritten, FullSpoolClosesTheDeck, FullSpoolRefusesTheUnit, LostPrinterRefusesTheUnit, LostTextRefusesTheUnit, LostVolumeDropsTheDeck, LostVolumeRefusesTheUnit, NullJobIsThreeSittings, OneUnitIsDone, OthersActBetween, SpentHoldIsGivenUp, SpentHoldUnderLock}

pub deck_is_two_sittings : DeckIsTwoSittings
unfolding digits
deck_is_two_sittings = (refl, refl)

pub deck_under_lock : DeckUnderLock
deck_under_lock = refl

pub deck_spends_the_lock : DeckSpendsTheLock
deck_spends_the_lock = refl

pub full_spool_closes_the_deck : FullSpoolClosesTheDeck
unfolding digits
full_spool_closes_the_deck = (refl, refl)

pub lost_volume_drops_the_deck : LostVolumeDropsTheDeck
unfolding digits
lost_volume_drops_the_deck = (refl, refl)

pub command_is_one_sitting : CommandIsOneSitting
unfolding digits
command_is_one_sitting = (refl, refl)

pub others_act_between : OthersActBetween
unfolding digits
others_act_between = (refl, refl)

pub null_job_is_three_sittings : NullJobIsThreeSittings
unfolding digits
null_job_is_three_sittings = (refl, refl)

pub one_unit_is_done : OneUnitIsDone
unfolding digits
one_unit_is_done = (refl, refl)

pub spent_hold_is_given_up : SpentHoldIsGivenUp
unfolding digits
spent_hold_is_given_up = refl

pub spent_hold_under_lock : SpentHoldUnderLock
unfolding digits
spent_hold_under_lock = refl

pub full_batch_is_written : FullBatchIsWritten
full_batch_is_written = refl

pub copies_are_printed : CopiesArePrinted
unfolding digits
copies_are_printed = (refl, refl)

pub full_spool_refuses_the_unit : FullSpoolRefusesTheUnit
unfolding digits
full_spool_refuses_the_unit = (refl, refl)

pub lost_volume_refuses_the_unit : LostVolumeRefusesTheUnit
unfolding digits
lost_volume_refuses_the_unit = (refl, refl)

pub lost_text_refuses_the_unit : LostTextRefusesTheUnit
unfolding digits
lost_text_refuses_the_unit = (refl, refl)

pub lost_printer_refuses_the_unit : LostPrinterRefusesTheUnit
unfolding digits
lost_printer_refuses_the_unit = (refl, refl)
