-- Reasons as code holds them.
use Rattle.std.specs.Prelude.{Option}
use Rattle.std.specs.Option.{option_map}
use Rattle.trim_rules.specs.declared.reasons.Reason.{Reason}
use Rattle.trim_rules.specs.declared.reasons.Reason.TheVariants as lent
use Rattle.trim_rules.specs.declared.reasons.Why as declared
use Rattle.trim_rules.specs.declared.reasons.Why.TheVariants as own
use Rattle.trim_rules.specs.Staying.{Why, computed, fragment, name, definition, pragma}

-- a reason whose name is lent
abbrev pub reason : Reason → Why
reason lent.Computed = computed
reason lent.Fragment = fragment
reason (lent.Name text) = name text.now
reason (lent.Definition text) = definition text.now
reason lent.Pragma = pragma

-- .. and one with a name of its own
abbrev pub why : declared.Why → Why
why own.Computed = computed
why own.Fragment = fragment
why (own.Name text) = name text
why (own.Definition text) = definition text
why own.Pragma = pragma
