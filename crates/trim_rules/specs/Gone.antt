-- Tokens that go, item by item.
use Rattle.std.specs.Prelude.{ℕ, ◌≡◌, if◌then◌else◌, List, [], ◌∷◌, length}
use Rattle.std.specs.List.{flat_map}
use Rattle.cs_base.specs.declared.positions.Part.{Part}
use Rattle.cs_base.specs.declared.positions.Pos.{Pos}
use Rattle.analysis.specs.Below.include_tree.Walk.{ItemText, item_text}
use Rattle.analysis.specs.Below.lexer.Tokens.{tokens_of}
use Rattle.analysis.specs.Below.line_shape.declared.items.Item.{Item}
use Rattle.analysis.specs.Below.source_files.KeptFiles.{KeptValue}
use Rattle.trim_rules.specs.Trimmed.{is_line, lines_in, behind_hash}

-- an item of a file with its tokens, if it is one of these lines
abbrev pub in_line : List Pos → KeptValue → Item → List ItemText
in_line lines f i = if is_line lines i.at then item_text (tokens_of f.number f.bytes) i ∷ [] else []

-- the tokens that go of these items, and how many of them are lines
pub record AreGone (lines : List Pos) (f : KeptValue) (items : List Item) (parts : List Part) (count : ℕ) : Type 0 where
  pub parts_are : parts ≡ flat_map behind_hash (flat_map (in_line lines f) items)
  pub count_is : count ≡ length (flat_map (in_line lines f) items)

-- .. of the lines in a file
pub record AreAllGone (lines : List Pos) (f : KeptValue) (parts : List Part) (count : ℕ) : Type 0 where
  pub parts_are : parts ≡ flat_map behind_hash (lines_in lines f)
  pub count_is : count ≡ length (lines_in lines f)
