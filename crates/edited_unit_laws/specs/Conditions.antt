-- Controlling expressions in which identifiers are spelled otherwise (ISO/IEC 9899:1999, 6.10.1).
use Rattle.std.specs.Prelude.{◌≡◌, true, List, [], ◌∷◌}
use Rattle.cs_base.specs.Token.{Token}
use Rattle.unit_steps.specs.Below.cond_eval.Evaluation.{condition}
use Rattle.edited_unit_laws.specs.Lines.{is_fixed}

-- Two tokens count alike: they are of one kind, and spelled alike unless they are identifiers or string literals.
abbrev pub CountAlike : Token → Token → Type 0
CountAlike t u = (t.kind ≡ u.kind) × (is_fixed t.kind ≡ true → t.text ≡ u.text)

-- so do the tokens of two lists, one by one
abbrev pub AllCountAlike : List Token → List Token → Type 0
AllCountAlike [] [] = Unit {0}
AllCountAlike (t ∷ toks) (u ∷ others) = CountAlike t u × AllCountAlike toks others
AllCountAlike _ _ = ⊥

-- The value of a controlling expression, or its fault, depends on the kinds of its tokens, and on the
-- spellings of those that are neither identifiers nor string literals: an identifier counts as 0 (6.10.1 paragraph 3), and a
-- string literal is none of its operands (6.6 paragraph 6).
abbrev pub ConditionsCountAlike : Type 0
ConditionsCountAlike = (toks others : List Token) → AllCountAlike toks others → condition toks ≡ condition others
