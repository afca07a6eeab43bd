-- The class of a token, which no declaration in sight has a say in (ISO/IEC 9899:1999, 6.4.1, 6.4.6).
use Rattle.std.specs.Prelude.{ℕ, List, [], ◌∷◌, if◌then◌else◌}
use Rattle.std.specs.Str.{bytes_eq}
use Rattle.cs_base.specs.Token.{Token}
use Rattle.cs_base.specs.declared.tokens.Kind.{Kind}
use Rattle.cs_base.specs.declared.tokens.Kind.TheVariants as kind
use Rattle.c99_grammar.specs.declared.classes.Class.{Class}
use Rattle.c99_grammar.specs.declared.classes.Class.TheVariants.{Identifier, Constant, CharConstant, StringLiteral, NoClass}
use Rattle.c99_grammar.specs.Spellings.{Spelled, punctuators}
use Rattle.c99_grammar.specs.Standard.{Grammar}

unfoldable pub spelled_class : List Spelled → List ℕ → Class → Class
spelled_class [] text other = other
spelled_class (s ∷ more) text other = if bytes_eq text s.0 then s.1 else spelled_class more text other

-- the class of a token, where each identifier that is no keyword counts as no typedef name
abbrev pub class_of_kind : Grammar → Kind → List ℕ → Class
class_of_kind g kind.Ident text = spelled_class g.keywords text Identifier
class_of_kind g kind.Punct text = spelled_class punctuators text NoClass
class_of_kind g kind.Number text = Constant
class_of_kind g kind.Char text = CharConstant
class_of_kind g kind.Str text = StringLiteral
class_of_kind g _ text = NoClass

unfoldable pub base_class : Grammar → Token → Class
base_class g t = class_of_kind g t.kind t.text
