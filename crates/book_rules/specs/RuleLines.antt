-- What the code answers for a line of a book and for its parts: what they say, or that they have another form.
use Rattle.std.specs.Prelude.{ℕ, List, if◌then◌else◌, Option, Some, None}
use Rattle.definitions.specs.Numbers.{value_of}
use Rattle.definitions.specs.Books.{is_rule_number, is_state, state_of, is_action, action_of, is_rule}
use Rattle.definitions.specs.LoadedBooks.{loaded_at}
use Rattle.definitions.specs.declared.books.Action.{Action}
use Rattle.definitions.specs.declared.books.LoadedRule.{LoadedRule}
use Rattle.definitions.specs.declared.books.State.{State}

unfoldable pub parsed_rule_number : List ℕ → Option ℕ
parsed_rule_number l = if is_rule_number l then Some (value_of 10 0 l) else None

unfoldable pub parsed_state : List ℕ → Option State
parsed_state l = if is_state l then Some (state_of l) else None

unfoldable pub parsed_action : List ℕ → Option Action
parsed_action l = if is_action l then Some (action_of l) else None

-- the rule of a line by its place in the line
unfoldable pub parsed_rule : List ℕ → Option LoadedRule
parsed_rule l = if is_rule l then Some (loaded_at 0 l) else None
