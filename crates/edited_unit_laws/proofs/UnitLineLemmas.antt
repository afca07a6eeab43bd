-- Items and conditions of units under a renaming.
use Rattle.std.proofs.Common.{◌≡◌, ℕ, zero, suc, ◌-◌, ◌&&◌, List, [], ◌∷◌, map, drop, Option, Some, None, inl, inr, refl}
use Rattle.std.specs.Option.{option_map}
use Rattle.std.proofs.lemmas.Bool.{cases_Bool}
use Rattle.std.proofs.lemmas.List.{take-map, drop-map}
use Rattle.cs_base.specs.Token.{Token}
use Rattle.line_shape.specs.declared.items.Item.{Item}
use Rattle.line_shape.specs.Items.{items_of}
use Rattle.line_shape.specs.Signs.{is_name, is_open, is_close}
use Rattle.macro_expand.specs.Renaming.{Renaming, renamed}
use Rattle.unit_steps.specs.Conditions.{Piece, Plain, Asks, is_defined, in_parentheses, operand_of, onto_pieces, asks_with, pieces_from}
use Rattle.include_tree.specs.Walk.{item_text}
use Rattle.edited_unit_laws.specs.Conditions.{AllCountAlike}
use Rattle.edited_unit_laws.specs.Lines.{Each, KeepsToken, renamed_item}
use Rattle.edited_unit_laws.specs.UnitLines.{renamed_item_text, renamed_piece, ItemTextsAreRenamed, OperandsAreRenamed, ConditionsStay}
use Rattle.edited_unit_laws.proofs.ValueLemmas.{conditions_count_alike}
use Rattle.edited_unit_laws.proofs.MacroLineLemmas.{open-kept, close-kept}
use Rattle.edited_unit_laws.proofs.ItemLemmas.{items_are_renamed}

-- ---- items with their tokens

text-renamed : (r : Renaming) (toks : List Token) (i : Item)
    → item_text (map (renamed r) toks) (renamed_item r i) ≡ renamed_item_text r (item_text toks i)
text-renamed r toks i =
    rw (drop-map (renamed r) i.from toks, take-map (renamed r) (i.to - i.from) (drop i.from toks)) refl

texts-renamed : (r : Renaming) (toks : List Token) (items : List Item)
    → map (item_text (map (renamed r) toks)) (map (renamed_item r) items) ≡ map (renamed_item_text r) (map (item_text toks) items)
texts-renamed r toks [] = refl
texts-renamed r toks (i ∷ items) = rw (text-renamed r toks i, texts-renamed r toks items) refl

pub item_texts_are_renamed : ItemTextsAreRenamed
item_texts_are_renamed r toks firsts kept keeps =
    rw (items_are_renamed r toks firsts kept keeps) (texts-renamed r toks (items_of toks firsts))

-- ---- operands of `defined`

parentheses-renamed : (r : Renaming) (toks : List Token) → Each (KeepsToken r) toks
    → in_parentheses (map (renamed r) toks) ≡ option_map (renamed r) (in_parentheses toks)
parentheses-renamed r [] kept = refl
parentheses-renamed r (a ∷ []) kept = refl
parentheses-renamed r (a ∷ b ∷ []) kept = refl
parentheses-renamed r (a ∷ b ∷ c ∷ toks) kept =
    rw (open-kept r a kept.0, close-kept r c kept.1.1.0) (elim (cases_Bool (is_open a && is_name b && is_close c)) [
      | inl stands ↦ rw stands refl
      | inr not_so ↦ rw not_so refl
    ])

-- an operand, renamed, with the number of its tokens
abbrev renamed_operand : Renaming → Token × ℕ → Token × ℕ
renamed_operand r o = (renamed r o.0, o.1)

three-renamed : (r : Renaming) (o : Option Token)
    → option_map {T = Token} {U = Token × ℕ} (λ name. (name, 3)) (option_map (renamed r) o)
    ≡ option_map (renamed_operand r) (option_map {T = Token} {U = Token × ℕ} (λ name. (name, 3)) o)
three-renamed r None = refl
three-renamed r (Some name) = refl

operand-renamed : (r : Renaming) (toks : List Token) → Each (KeepsToken r) toks
    → operand_of (map (renamed r) toks) ≡ option_map (renamed_operand r) (operand_of toks)
operand-renamed r [] kept = refl
operand-renamed r (t ∷ toks) kept =
    elim (cases_Bool (is_name t)) [
      | inl named ↦ rw named refl
      | inr other ↦ rw (other, parentheses-renamed r (t ∷ toks) kept) (three-renamed r (in_parentheses (t ∷ toks)))
    ]

onto-renamed : (r : Renaming) (p : Piece) (ps : Option (List Piece))
    → onto_pieces (renamed_piece r p) (option_map (map (renamed_piece r)) ps) ≡ option_map (map (renamed_piece r)) (onto_pieces p ps)
onto-renamed r p None = refl
onto-renamed r p (Some ps) = refl

asks-renamed : (r : Renaming) (word : Token) (new old : ℕ → Option (List Piece)) (o : Option (Token × ℕ))
    → ((skip : ℕ) → new skip ≡ option_map (map (renamed_piece r)) (old skip))
    → asks_with (renamed r word) new (option_map (renamed_operand r) o) ≡ option_map (map (renamed_piece r)) (asks_with word old o)
asks-renamed r word new old None same = refl
asks-renamed r word new old (Some o) same = rw (same o.1) (onto-renamed r (Asks word o.0) (old o.1))

pub operands_are_renamed : OperandsAreRenamed
unfolding pieces_from
operands_are_renamed r zero [] kept = refl
operands_are_renamed r (suc skip) [] kept = refl
operands_are_renamed r (suc skip) (t ∷ toks) kept = operands_are_renamed r skip toks kept.1
operands_are_renamed r zero (t ∷ toks) kept =
    elim (cases_Bool (is_defined t)) [
      | inl word ↦ rw (kept.0.asks, word, operand-renamed r toks kept.1)
          (asks-renamed r t (λ skip. pieces_from skip (map (renamed r) toks)) (λ skip. pieces_from skip toks) (operand_of toks)
          (λ skip. operands_are_renamed r skip toks kept.1))
      | inr other ↦ rw (kept.0.asks, other, operands_are_renamed r 0 toks kept.1) (onto-renamed r (Plain t) (pieces_from 0 toks))
    ]

-- ---- values

counts-alike : (r : Renaming) (toks : List Token) → Each (KeepsToken r) toks → AllCountAlike (map (renamed r) toks) toks
counts-alike r [] kept = tt
counts-alike r (t ∷ toks) kept = ((refl, kept.0.others), counts-alike r toks kept.1)

pub conditions_stay : ConditionsStay
conditions_stay r toks kept = conditions_count_alike (map (renamed r) toks) toks (counts-alike r toks kept)
