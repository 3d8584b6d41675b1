-- What is refused of settings, with the tables of refusals, opened: `unfolding opened` where it is to be computed. Assumes nothing.
use Prim.{Unit, tt}
use Rattle.refusals.proofs.Opened as refusals
use Rattle.settings.specs.Settings.{label_refused, below, above, all_spaces, characters_from, trace_faults, judged}
use Rattle.settings.specs.Flags.{flags_of}
use Rattle.settings.specs.Faults.{path_faults, settings_faults, alone_faults, settings_answer, settings_check, settings_place}

unfoldable pub opened : Unit {0}
unfolding refusals.opened label_refused below above all_spaces characters_from trace_faults judged flags_of path_faults settings_faults alone_faults settings_answer settings_check settings_place
opened = tt
