use Rattle.lexer.proofs.InverseLemmas.{characters_placed, places_inverse}
use Rattle.lexer.proofs.inverse.places_are_inverse.Goals as goal

pub returns : goal.returns
returns c = record { some = characters_placed; inverse = places_inverse }
