-- The definitions that a run computes with, in one word: a proof that names it opens them all.
use Rattle.std.specs.Fmt.{digits}
use Rattle.cc_lists.specs.Least.{closure}
use Rattle.cc_model.specs.Asks.{command_of}
use Rattle.cc_model.specs.Checks.{refusal_of, reply_if_taken}
use Rattle.cc_model.specs.Deeds.{deed_of}
use Rattle.cc_model.specs.Graph.{done_to, changed}
use Rattle.cc_model.specs.Cascade.{drain, drained}
use Rattle.cc_model.specs.Exposure.{exposed}
use Rattle.cc_model.specs.Effects.{hold_native, store_native, move_slot, make_native, done_in, effects}
use Rattle.cc_model.specs.Colours.{marked}
use Rattle.cc_model.specs.Sweep.{sweep, rounds, collect_scripts}
use Rattle.cc_model.specs.Snapshot.{white_natives}
use Rattle.cc_model.specs.End.{unlink, take_away, unit}
use Rattle.cc_model.specs.Collecting.{units_done, slice, collect, gc}
use Rattle.cc_model.specs.Derivations.{walk}
use Rattle.cc_model.specs.Run.{mutate, do_ask}

unfoldable pub all_of_a_run : Unit {0}
unfolding digits closure command_of refusal_of reply_if_taken deed_of done_to changed drain drained exposed hold_native store_native move_slot make_native done_in effects marked sweep rounds collect_scripts white_natives unlink take_away unit units_done slice collect gc mutate walk do_ask
all_of_a_run = tt
