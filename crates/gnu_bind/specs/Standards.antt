-- Texts that use nothing of GNU C, as far as binding asks.
use Rattle.std.specs.Prelude.{ℕ, ◌+◌, ◌==◌, ◌%◌, ◌≡◌, Bool, true, false, ◌&&◌, ◌||◌, not, if◌then◌else◌, List, Ok}
use Rattle.cs_base.specs.Token.{Token}
use Rattle.c99_tree.specs.Tree.{Forest, none, token, node, Node}
use Rattle.c99_tree.specs.declared.production.Label.{Label}
use Rattle.c99_tree.specs.declared.production.Production.{Production}
use Rattle.c99_tree.specs.declared.production.Production.TheVariants.{External, FunBody, Declaration, Declarator, SuRest, Members, InitItem, Cond, Unary, Primary, TypeName, Main, Block, BlockItem, AutoDecl, Attr, AttrItem, AttrWord, AsmName, Operand, Association, MemberPath, AsmPart, AsmOperand}
use Rattle.c99_tree.specs.contracts.production.ProductionPartialEq.TheImpl.{ghosts}
use Rattle.c_types.specs.Trees.{is_node, has_node}
use Rattle.c_types.specs.Declarations.{spelling_at}
use Rattle.scope_bind.specs.Below.name_chains.Frames.{outermost}
use Rattle.scope_bind.specs.Bound.{Bound, binding_of}
use Rattle.cs_base.specs.Reserved.{is_built_in, is_function_word}
use Rattle.cs_base.specs.Units.{is_gnu}
use Rattle.cs_base.specs.declared.ws_units.Standard.{Standard}
use Rattle.gnu_bind.specs.Words.{is_fetch, is_extension}
use Rattle.gnu_bind.specs.Senses.{omits_second, declares_labels}
use Rattle.gnu_bind.specs.Roles.{is_brace}
use Rattle.gnu_bind.specs.Walk.{has_braces}
use Rattle.gnu_bind.specs.Bound.{gnu_binding_of, binding_by}

-- no token is spelled as such a word
pub record HasNoWord (toks : List Token) : Type 0 where
  pub functions : (k : ℕ) → is_built_in (spelling_at toks k) ≡ false
  pub names : (k : ℕ) → is_function_word (spelling_at toks k) ≡ false
  pub fetches : (k : ℕ) → is_fetch (spelling_at toks k) ≡ false
  pub extensions : (k : ℕ) → is_extension (spelling_at toks k) ≡ false

-- a production of the standards
abbrev pub is_shared : Production → Bool
is_shared AutoDecl = false
is_shared Attr = false
is_shared AttrItem = false
is_shared AttrWord = false
is_shared AsmName = false
is_shared Operand = false
is_shared Association = false
is_shared MemberPath = false
is_shared AsmPart = false
is_shared AsmOperand = false
is_shared _ = true

-- a token stands so among the children of a node in the standards
abbrev pub is_token_place : Production → ℕ → ℕ → Bool
is_token_place SuRest a k = not (is_brace a k)
is_token_place InitItem a k = not ((a == 2) && (k == 0))
is_token_place Unary a k = not ((a == 4) && (k == 1))
is_token_place BlockItem a k = not ((a == 7) && (k % 2 == 1))
is_token_place p a k = is_shared p

-- and a node of the second production does so below one of the first
abbrev pub is_child : Production → Production → Bool
is_child p Block = not (ghosts.eq p Primary)
is_child p TypeName = not (ghosts.eq p Main)
is_child p q = is_shared q

-- the alternative is one of the standards, as far as the type of an expression asks
abbrev pub is_old : Production → ℕ → Bool
is_old Primary a = not ((a == 6) || (a == 9))
is_old Unary a = not (a == 4)
is_old p a = true

-- a node stands among some children
abbrev pub has_some : Forest → Bool
has_some none = false
has_some (token i rest) = has_some rest
has_some (node l first under rest) = true

-- no token stands in front of a node
abbrev pub is_unextended : Forest → Bool
is_unextended none = true
is_unextended (node l first under rest) = true
is_unextended (token i rest) = not (has_some rest)

-- a block stands below
abbrev pub has_block : Forest → Bool
has_block none = false
has_block (token i rest) = has_block rest
has_block (node l first under rest) = is_node l Block || (has_block under || has_block rest)

-- a node has a form of the standards
abbrev pub is_form : Production → Forest → Bool
is_form External under = is_unextended under
is_form Declaration under = is_unextended under
is_form Declarator under = not (has_block under)
is_form Cond under = not (omits_second under)
is_form Block under = not (declares_labels under)
is_form FunBody under = not (declares_labels under)
is_form p under = true

-- a structure or union with braces has members
abbrev pub is_filled : Label → Forest → Bool
is_filled l under = has_node Members under || not (has_braces l under)

-- So it is with all below node l, where so many children stand before these.
abbrev pub is_standard : Label → ℕ → Forest → Bool
is_standard l k none = true
is_standard l k (token i rest) = is_token_place l.production l.alternative k && is_standard l (k + 1) rest
is_standard l k (node m first under rest) =
    ((is_shared l.production && is_old l.production l.alternative) && (is_child l.production m.production && (is_old m.production m.alternative && (is_form m.production under && is_filled m under))))
    && (is_standard m 0 under && is_standard l (k + 1) rest)

-- such a text, where it binds by the standards, binds so by GNU C: of the others some call what no declaration is visible of
abbrev pub StandardTextsBindAlike : Type 0
StandardTextsBindAlike =
    (toks : List Token) (tree : Node) (b : Bound) → HasNoWord toks → is_standard (outermost 0).label 0 tree.under ≡ true → binding_of toks tree ≡ Ok b
    → gnu_binding_of toks tree ≡ Ok b

-- a text binds by an edition of ISO/IEC 9899 as by all of them, and by each standard of GNU C as by GNU C
abbrev pub StandardsBindAlike : Type 0
StandardsBindAlike =
    (s : Standard) (toks : List Token) (tree : Node) → binding_by s toks tree ≡ (if is_gnu s then gnu_binding_of toks tree else binding_of toks tree)
