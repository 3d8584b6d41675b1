-- `card::card_settings_check`: number and place are those of the settings' answer. Assumes nothing.
use Rattle.card.proofs.Shown.{shown}
use Rattle.card.proofs.card_settings_check.Goals as goal

pub returns : goal.returns
returns c = search shown
