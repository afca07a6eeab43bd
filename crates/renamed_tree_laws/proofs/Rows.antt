-- What is asked of short texts.
use Rattle.std.proofs.Common.{ℕ, ◌≡◌, Bool, true, false, List, [], ◌∷◌, refl}
use Rattle.std.specs.Prelude.{codes}
use Rattle.c99_grammar.specs.declared.dialects.Dialect.TheVariants.{Iso}
use Rattle.c99_grammar.specs.declared.dialects.Edition.TheVariants.{C99}
use Rattle.cs_base.specs.Token.{Token}
use Rattle.cs_base.specs.declared.tokens.Kind.TheVariants.{Ident, Punct}
use Rattle.c99_read.specs.Reading.{read_within, take_one, at_end, enter}
use Rattle.c99_grammar.specs.Standard.{iso}
use Rattle.c99_read.specs.State.{class_at, acted, opened, closed}
use Rattle.c99_grammar.specs.TokenClasses.{spelled_class, base_class}
use Rattle.c99_read.proofs.ReadRows.{tok}
use Rattle.renamed_tree_laws.specs.Along.{all_along, along_within}
use Rattle.renamed_tree_laws.specs.Respelled.{is_kind_so, is_token_so, is_node_so}

abbrev word : List ℕ → Token
word text = tok Ident text

abbrev sign : List ℕ → Token
sign text = tok Punct text

-- struct { int MEMBER; } y; typedef int NAME; USE x;
abbrev members : List ℕ → List ℕ → List ℕ → List Token
members member name use_ =
    word (codes "struct") ∷ sign (codes "{") ∷ word (codes "int") ∷ word member ∷ sign (codes ";") ∷ sign (codes "}") ∷ word (codes "y") ∷ sign (codes ";") ∷
    word (codes "typedef") ∷ word (codes "int") ∷ word name ∷ sign (codes ";") ∷ word use_ ∷ word (codes "x") ∷ sign (codes ";") ∷ []

-- typedef int T; int f(int (NAME));
abbrev parenthesised : List ℕ → List Token
parenthesised name =
    word (codes "typedef") ∷ word (codes "int") ∷ word (codes "T") ∷ sign (codes ";") ∷ word (codes "int") ∷ word (codes "f") ∷ sign (codes "(") ∷
    word (codes "int") ∷ sign (codes "(") ∷ word name ∷ sign (codes ")") ∷ sign (codes ")") ∷ sign (codes ";") ∷ []

-- typedef int T; int f(NAME) int NAME; { T: return (USE); }
abbrev old_style : List ℕ → List ℕ → List ℕ → List Token
old_style name label use_ =
    word (codes "typedef") ∷ word (codes "int") ∷ word (codes "T") ∷ sign (codes ";") ∷ word (codes "int") ∷ word (codes "f") ∷ sign (codes "(") ∷
    word name ∷ sign (codes ")") ∷ word (codes "int") ∷ word name ∷ sign (codes ";") ∷ sign (codes "{") ∷ word label ∷ sign (codes ":") ∷
    word (codes "return") ∷ sign (codes "(") ∷ word use_ ∷ sign (codes ")") ∷ sign (codes ";") ∷ sign (codes "}") ∷ []

abbrev names_so : List Token → List Token → Bool
names_so a b =
    all_along (iso C99) (λ s. is_token_so (Iso C99) a b s.built.label.production s.built.label.alternative s.names.scopes s.at)
    (λ p n s. is_node_so (Iso C99) b p n s.names.scopes s.at) a

-- the member is another name; the use is not
pub members-apart : names_so (members (codes "T") (codes "T") (codes "T")) (members (codes "T") (codes "U") (codes "U")) ≡ true
unfolding along_within read_within take_one at_end enter spelled_class base_class class_at acted opened closed
members-apart = refl

pub use-left : names_so (members (codes "T") (codes "T") (codes "T")) (members (codes "T") (codes "U") (codes "T")) ≡ false
unfolding along_within read_within take_one at_end enter spelled_class base_class class_at acted opened closed
use-left = refl

-- a parameter's name in parentheses may be any name but that of a typedef
pub parameter-free : names_so (parenthesised (codes "x")) (parenthesised (codes "y")) ≡ true
unfolding along_within read_within take_one at_end enter spelled_class base_class class_at acted opened closed
parameter-free = refl

pub parameter-taken : names_so (parenthesised (codes "x")) (parenthesised (codes "T")) ≡ false
unfolding along_within read_within take_one at_end enter spelled_class base_class class_at acted opened closed
parameter-taken = refl

-- where it is one, it is a type name
pub type-kept : names_so (parenthesised (codes "T")) (parenthesised (codes "T")) ≡ true
unfolding along_within read_within take_one at_end enter spelled_class base_class class_at acted opened closed
type-kept = refl

-- a label may be respelled by itself, a parameter with its uses
pub label-apart : names_so (old_style (codes "a") (codes "T") (codes "a")) (old_style (codes "b") (codes "L") (codes "b")) ≡ true
unfolding along_within read_within take_one at_end enter spelled_class base_class class_at acted opened closed
label-apart = refl

pub list-taken : names_so (old_style (codes "a") (codes "T") (codes "a")) (old_style (codes "T") (codes "L") (codes "T")) ≡ false
unfolding along_within read_within take_one at_end enter spelled_class base_class class_at acted opened closed
list-taken = refl

-- the same, asked by kinds alone
abbrev kinds_so : List Token → List Token → Bool
kinds_so a b =
    all_along (iso C99) (λ s. is_kind_so (Iso C99) b s.built.label.production s.built.label.alternative s.names.scopes s.at)
    (λ p n s. is_node_so (Iso C99) b p n s.names.scopes s.at) a

pub members-apart-kinds : kinds_so (members (codes "T") (codes "T") (codes "T")) (members (codes "T") (codes "U") (codes "U")) ≡ true
unfolding along_within read_within take_one at_end enter spelled_class base_class class_at acted opened closed
members-apart-kinds = refl

pub use-left-kinds : kinds_so (members (codes "T") (codes "T") (codes "T")) (members (codes "T") (codes "U") (codes "T")) ≡ false
unfolding along_within read_within take_one at_end enter spelled_class base_class class_at acted opened closed
use-left-kinds = refl
