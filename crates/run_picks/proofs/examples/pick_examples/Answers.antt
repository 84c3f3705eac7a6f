use Rattle.run_picks.proofs.FirstPicks.{state_zero, word_zero, picks_of_two, picks_of_three}
use Rattle.run_picks.proofs.examples.pick_examples.Goals as goal

pub returns : goal.returns
returns c =
    record { state = state_zero; first_word = word_zero; of_two = picks_of_two; of_three = picks_of_three }
