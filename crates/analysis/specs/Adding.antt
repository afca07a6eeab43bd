-- Tokens that are added to a table of classes, in the order of their places.
use Rattle.std.specs.Prelude.{ℕ, ◌+◌, ◌^◌, ◌≡◌, ◌<◌, ◌≤◌, List, [], Some, slice_get}
use Rattle.cs_base.specs.declared.positions.Part.{Part}
use Rattle.cs_base.specs.declared.positions.Pos.{Pos}
use Rattle.eclass_map.specs.ClassTable.{Table, AreLinks, HasParts, added_tokens, character_count}

-- no token ends behind the character
pub record EndBy (end : Pos) (tokens : List Part) : Type 0 where
  pub file : (k : ℕ) (token : Part) → slice_get tokens k ≡ Some token → token.start.file ≤ end.file
  pub at : (k : ℕ) (token : Part) → slice_get tokens k ≡ Some token → token.start.file ≡ end.file → token.start.at + token.len ≤ end.at

-- What is true of a table to which tokens are added: they end by the character, so many characters they have
-- together, and none are linked yet.
pub record IsAdding (classes : Table) (end : Pos) (count : ℕ) : Type 0 where
  pub ends : EndBy end (added_tokens classes)
  pub counted : count ≡ character_count classes
  pub links : AreLinks [] classes
  pub parts : HasParts classes

-- A token can be added behind so many characters that end by this one: it has some, it begins there or later, and
-- numbers do not run out.
pub record Follows (end : Pos) (count : ℕ) (token : Part) : Type 0 where
  pub some : 0 < token.len
  pub file : end.file ≤ token.start.file
  pub at : end.file ≡ token.start.file → end.at ≤ token.start.at
  pub within : token.start.at + token.len < 2 ^ 32
  pub short : count + token.len < 2 ^ 32
