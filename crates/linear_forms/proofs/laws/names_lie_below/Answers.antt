use Rattle.linear_forms.proofs.Naming.{number_names, test_names}
use Rattle.linear_forms.proofs.laws.names_lie_below.Goals as goal

pub returns : goal.returns
returns c = record { numbers = number_names; tests = test_names }
