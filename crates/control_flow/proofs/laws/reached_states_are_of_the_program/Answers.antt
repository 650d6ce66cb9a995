use Rattle.control_flow.proofs.Reached.{reached_input, reached_label, reached_places}
use Rattle.control_flow.proofs.laws.reached_states_are_of_the_program.Goals as goal

pub returns : goal.returns
returns c = record { labels = reached_label; places = reached_places; inputs = reached_input }
