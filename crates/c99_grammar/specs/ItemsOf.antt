-- The table of the code as contracts see it.
use Rattle.c99_grammar.specs.declared.items.Ask.{Ask}
use Rattle.c99_grammar.specs.declared.items.Ask.TheVariants as ask
use Rattle.c99_grammar.specs.declared.items.Test.{Test}
use Rattle.c99_grammar.specs.declared.items.Test.TheVariants as test
use Rattle.c99_grammar.specs.declared.items.Action.{Action}
use Rattle.c99_grammar.specs.declared.items.Action.TheVariants as action
use Rattle.c99_grammar.specs.declared.items.Item.{Item, One, Part, EndOfText, Act, Then', Choice', Maybe', Many', Deep}
use Rattle.c99_grammar.specs.declared.items.Alternative.{Alternative}
use Rattle.c99_grammar.specs.Items as spec
use Rattle.c99_grammar.specs.Items.{◌·◌}

abbrev pub ask_of : Ask → spec.Ask
ask_of (ask.Is classes) = spec.is classes.now
ask_of (ask.IsNot classes) = spec.is_not classes.now
ask_of (ask.Begins p) = spec.begins p
ask_of (ask.IsOrBegins classes p) = spec.either (spec.is classes.now) (spec.begins p)

abbrev pub test_of : Test → spec.Test
test_of test.Own = spec.own
test_of test.Otherwise = spec.otherwise
test_of (test.Next a) = spec.next (ask_of a)
test_of (test.NextTwo a b) = spec.next_two (ask_of a) (ask_of b)

abbrev pub action_of : Action → spec.Action
action_of action.Scope = spec.scope
action_of action.End = spec.end
action_of action.Declare = spec.declare
action_of action.Name = spec.name
action_of action.Keep = spec.keep
action_of action.Again = spec.again

abbrev pub item_of : Item → spec.Item
item_of (One classes) = spec.one classes.now
item_of (Part p) = spec.part p
item_of EndOfText = spec.end_of_text
item_of (Act a) = spec.act (action_of a)
item_of (Then' p a q b) = item_of a · item_of b
item_of (Choice' p a q b) = spec.choice (item_of a) (item_of b)
item_of (Maybe' p a) = spec.maybe (item_of a)
item_of (Many' t p a) = spec.many (test_of t) (item_of a)
item_of (Deep p) = spec.deep (spec.part p)

abbrev pub alternative_of : Alternative → spec.Alternative
alternative_of a = record { test = test_of a.test; body = item_of a.body }
