-- The form that the names of a list have.
use Rattle.std.specs.Prelude.{ℕ, Bool, List}
use Rattle.pop_io.specs.Names.{variable_name, state_name}
use Rattle.net_json.specs.declared.names.NameForm.{NameForm}
use Rattle.net_json.specs.declared.names.NameForm.TheVariants.{Variable, State}

abbrev pub form_of : NameForm → List ℕ → Bool
form_of Variable = variable_name
form_of State = state_name
