use Rattle.std.proofs.Common.{◌≡◌, ℕ, true, false, Some, List, [], ◌∷◌, codes, length, replicate, refl, ap, ◌∙◌}
use Rattle.cs_base.specs.Token.{Token, token}
use Rattle.cs_base.specs.Padding.{padded}
use Rattle.cs_base.specs.declared.tokens.Kind.TheVariants.{Ident, Punct}
use Rattle.line_shape.specs.declared.items.ItemKind.TheVariants.{Define}
use Rattle.line_shape.specs.Signs.{is_hash, is_paste, is_open, is_close, is_comma, is_ellipsis, is_va_args, is_unfit_name}
use Rattle.line_shape.specs.Directives.{directive_spelled}
use Rattle.line_shape.specs.MacroLine.{macro_of}
use Rattle.line_shape.specs.BadLines.{cause_on, is_operand}
use Rattle.line_shape.specs.Items.{line_kind, directive_kind}
use Rattle.expansion_rows.proofs.definition_tests.variadic_definition.Goals as goal

abbrev sign : List ℕ → Token
sign text = token Punct text (padded (length text) []) false (record { file = 1; at = 0 }) 1 true

abbrev word : Token
word = token Ident (codes "define") (replicate 6 (Some (record { file = 1; at = 0 }))) false (record { file = 1; at = 0 }) 1 true

abbrev name : Token
name = token Ident (codes "F") (Some (record { file = 1; at = 0 }) ∷ []) false (record { file = 1; at = 0 }) 1 true

is_define_line : line_kind (sign (codes "#") ∷ word ∷ name ∷ sign (codes "(") ∷ sign (codes "...") ∷ sign (codes ")") ∷ []) ≡ Define
unfolding is_hash is_paste is_open is_close is_comma is_ellipsis is_va_args is_unfit_name directive_spelled macro_of cause_on is_operand directive_kind
is_define_line = refl

-- tokens that are these make a define line
is_defined : (a b c d e f : Token) → a ≡ sign (codes "#") → b ≡ word → c ≡ name → d ≡ sign (codes "(") → e ≡ sign (codes "...") → f ≡ sign (codes ")")
    → line_kind (a ∷ b ∷ c ∷ d ∷ e ∷ f ∷ []) ≡ Define
is_defined a b c d e f p q r s t u =
    ap (λ v. line_kind (v ∷ b ∷ c ∷ d ∷ e ∷ f ∷ [])) p
    ∙ ap (λ v. line_kind (sign (codes "#") ∷ v ∷ c ∷ d ∷ e ∷ f ∷ [])) q
    ∙ ap (λ v. line_kind (sign (codes "#") ∷ word ∷ v ∷ d ∷ e ∷ f ∷ [])) r
    ∙ ap (λ v. line_kind (sign (codes "#") ∷ word ∷ name ∷ v ∷ e ∷ f ∷ [])) s
    ∙ ap (λ v. line_kind (sign (codes "#") ∷ word ∷ name ∷ sign (codes "(") ∷ v ∷ f ∷ [])) t
    ∙ ap (λ v. line_kind (sign (codes "#") ∷ word ∷ name ∷ sign (codes "(") ∷ sign (codes "...") ∷ v ∷ [])) u
    ∙ is_define_line

pub of-requires : goal.of-requires
of-requires c = record {
  defines = is_defined c.in_ok-sign.field-0 c.in_ok-word_define.field-0 c.in_ok-letter.field-0 c.in_ok-sign-2.field-0 c.in_ok-sign-3.field-0 c.in_ok-sign-4.field-0
      c.in_ok-sign.ensures c.in_ok-word_define.ensures c.in_ok-letter.ensures c.in_ok-sign-2.ensures c.in_ok-sign-3.ensures c.in_ok-sign-4.ensures;
}
