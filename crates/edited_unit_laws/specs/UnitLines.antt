-- The items of files and the operands of conditions as units see them, under a renaming (ISO/IEC 9899:1999, 6.10,
-- 6.10.1).
use Rattle.std.specs.Prelude.{ℕ, ◌≡◌, Bool, List, map}
use Rattle.std.specs.Option.{option_map}
use Rattle.cs_base.specs.Token.{Token}
use Rattle.line_shape.specs.Items.{lines_of}
use Rattle.unit_steps.specs.Below.cond_eval.Evaluation.{condition}
use Rattle.macro_expand.specs.Renaming.{Renaming, renamed}
use Rattle.unit_steps.specs.Conditions.{Piece, Plain, Asks, pieces_from}
use Rattle.include_tree.specs.Walk.{ItemText, item_texts}
use Rattle.edited_unit_laws.specs.Lines.{Each, KeepsToken, KeepsLine, renamed_kind}

-- an item with its tokens, renamed
abbrev pub renamed_item_text : Renaming → ItemText → ItemText
renamed_item_text r i = record { kind = renamed_kind r i.kind; at = r.move i.at; toks = map (renamed r) i.toks }

-- a piece of a condition, renamed
abbrev pub renamed_piece : Renaming → Piece → Piece
renamed_piece r (Plain t) = Plain (renamed r t)
renamed_piece r (Asks word name) = Asks (renamed r word) (renamed r name)

-- The renamed tokens of a file have the same items, one for each, with the renamed tokens.
abbrev pub ItemTextsAreRenamed : Type 0
ItemTextsAreRenamed = (r : Renaming) (toks : List Token) (firsts : List Bool) → Each (KeepsToken r) toks → Each (KeepsLine r) (lines_of toks firsts)
    → item_texts (map (renamed r) toks) firsts ≡ map (renamed_item_text r) (item_texts toks firsts)

-- The renamed tokens of a condition ask for the renamed operands of `defined` (6.10.1 paragraph 1).
abbrev pub OperandsAreRenamed : Type 0
OperandsAreRenamed = (r : Renaming) (skip : ℕ) (toks : List Token) → Each (KeepsToken r) toks
    → pieces_from skip (map (renamed r) toks) ≡ option_map (map (renamed_piece r)) (pieces_from skip toks)

-- The renamed tokens of a controlling expression have its value, or its fault.
abbrev pub ConditionsStay : Type 0
ConditionsStay = (r : Renaming) (toks : List Token) → Each (KeepsToken r) toks → condition (map (renamed r) toks) ≡ condition toks
