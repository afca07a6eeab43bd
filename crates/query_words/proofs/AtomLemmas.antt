-- What atoms are.
use Rattle.std.proofs.Common.{◌≡◌, ℕ, ◌+◌, Bool, true, false, List, [], ◌∷◌, ◌++◌, Ok, Some, length, drop, refl, ap, sym, ◌∙◌}
use Rattle.std.specs.Prelude.{◌==◌}
use Rattle.std.specs.List.{take_while}
use Rattle.query_words.specs.declared.attributes.Attribute.{Attribute}
use Rattle.query_words.specs.declared.steps.Step.{Step}
use Rattle.query_words.specs.declared.steps.Step.TheVariants.{Has}
use Rattle.query_words.specs.Attributes.{attribute_of}
use Rattle.query_words.specs.Queries.{Is, Named}
use Rattle.query_words.specs.Reading.{atom, attribute_read, begins_name, is_of_pattern, pattern_read, read, word_of}
use Rattle.query_words.specs.Steps.{IsCompiled, IsFault, IsSpelled}
use Rattle.query_words.proofs.StepLemmas.{runs_has, runs_spelled}

pub pattern_compiled : (at : ℕ) (pattern : List ℕ) (old new : List Step) (x : Step) → (length pattern == 0) ≡ false → IsSpelled pattern x
    → new ≡ old ++ x ∷ [] → IsCompiled (pattern_read at pattern) old new (at + length pattern)
pattern_compiled at [] old new x some says is = absurd (cc)
pattern_compiled at (c ∷ pattern) old new x some says is = record {
  query = Named (c ∷ pattern);
  is = refl;
  runs = runs_spelled old new x (c ∷ pattern) says is;
}

pub attribute_compiled : (at : ℕ) (word : List ℕ) (attribute : Attribute) (old new : List Step) → new ≡ old ++ Has attribute ∷ []
    → IsCompiled (attribute_read at word (Some attribute)) old new (at + length word)
attribute_compiled at word attribute old new is = record {
  query = Is attribute;
  is = refl;
  runs = runs_has old new attribute is;
}

-- `name=` stands at the front
pub atom_named : (at : ℕ) (rest : List ℕ) → begins_name rest ≡ true → atom at rest ≡ pattern_read (at + 5) (take_while is_of_pattern (drop 5 rest))
unfolding atom
atom_named at rest name = rw name refl

pub atom_is : (at : ℕ) (rest : List ℕ) → begins_name rest ≡ false → atom at rest ≡ attribute_read at (word_of rest) (attribute_of (word_of rest))
unfolding atom
atom_is at rest other = rw other refl
