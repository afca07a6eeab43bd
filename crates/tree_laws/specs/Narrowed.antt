-- What C99 says in place of a tree of C11 (ISO/IEC 9899:1999 and 9899:2011, Annex A.2).
use Rattle.std.specs.Prelude.{ℕ, ◌==◌, ◌≡◌, Bool, true, false, ◌&&◌, ◌||◌, not, if◌then◌else◌, List, Result}
use Rattle.std.specs.List.{list_all, list_any}
use Rattle.std.specs.Str.{bytes_eq}
use Rattle.cs_base.specs.Token.{Token}
use Rattle.c99_grammar.specs.declared.dialects.Edition.TheVariants.{C99, C11}
use Rattle.c99_tree.specs.Tree.{Forest, none, token, node, Node, node_of}
use Rattle.c99_tree.specs.declared.production.Label.{Label}
use Rattle.c99_tree.specs.declared.production.Production.{Production}
use Rattle.c99_tree.specs.declared.production.Production.TheVariants.{External, Declaration, Member, MemRest, Mod}
use Rattle.c99_grammar.specs.Spellings.{keywords_added}
use Rattle.c99_grammar.specs.Standard.{iso}
use Rattle.c_types.specs.declared.declarations.Fault.{Fault}
use Rattle.scope_bind.specs.Bound.{Bound, binding_of}
use Rattle.tree_laws.specs.ReadTexts.{Reads}

-- the number by C99 of an alternative that both standards have
abbrev pub number : Production → ℕ → ℕ
number External n = if n == 3 then 2 else n
number Declaration n = if n == 2 then 1 else n
number Member n = if n == 3 then 2 else n
number Mod n = if n == 8 then 7 else n
number _ n = n

abbrev pub renumbered : Label → Label
renumbered l = record l { alternative = number l.production l.alternative }

abbrev pub is_member : Production → Bool
is_member Member = true
is_member _ = false

-- members behind one list of specifiers (C11 6.7.2.1)
abbrev pub is_line : Label → Bool
is_line l = is_member l.production && (l.alternative == 3)

-- what stands behind the specifiers stands beside them by C99, and not in a node of its own
abbrev pub spread : Forest → Forest
spread (node l first under (node m second below none)) = node l first under below
spread f = f

abbrev pub spread_if : Bool → Forest → Forest
spread_if line f = if line then spread f else f

abbrev pub narrowed : Forest → Forest
narrowed none = none
narrowed (token i rest) = token i (narrowed rest)
narrowed (node l first under rest) = node (renumbered l) first (spread_if (is_line l) (narrowed under)) (narrowed rest)

abbrev pub narrowed_node : Node → Node
narrowed_node n = node_of (renumbered n.label) n.first (spread_if (is_line n.label) (narrowed n.under))

abbrev pub is_rest : Production → Bool
is_rest MemRest = true
is_rest _ = false

-- a semicolon alone behind the specifiers of members, as C11 has it (6.7.2.1)
abbrev pub is_lone : Label → Bool
is_lone l = is_rest l.production && (l.alternative == 1)

abbrev pub has_lone : Forest → Bool
has_lone none = false
has_lone (token i rest) = has_lone rest
has_lone (node l first under rest) = is_lone l || (has_lone under || has_lone rest)

abbrev pub has_lone_below : Node → Bool
has_lone_below n = is_lone n.label || has_lone n.under

-- no token is a word that C11 adds (6.4.1)
abbrev pub has_no_added_word : List Token → Bool
has_no_added_word toks = list_all (λ t. not (list_any (λ w. bytes_eq t.text w.0) keywords_added)) toks

-- ---- Reading

-- what C99 reads of a text without these, C11 reads, and no semicolon stands alone there
abbrev pub TextsOfC99AreReadByC11 : Type 0
TextsOfC99AreReadByC11 =
    (toks : List Token) (tree : Node) → has_no_added_word toks ≡ true → Reads (iso C99) toks tree
    → (wider : Node) × (Reads (iso C11) toks wider × ((tree ≡ narrowed_node wider) × (has_lone_below wider ≡ false)))

-- what C11 reads of it, C99 reads, if no semicolon stands alone there
abbrev pub TextsOfC11AreReadByC99 : Type 0
TextsOfC11AreReadByC99 =
    (toks : List Token) (tree : Node) → has_no_added_word toks ≡ true → Reads (iso C11) toks tree → has_lone_below tree ≡ false
    → Reads (iso C99) toks (narrowed_node tree)

-- ---- Binding

-- the tree by C11 of such a text, and the narrowed one, have one binding, or one first fault
abbrev pub TextsBindAlike : Type 0
TextsBindAlike =
    (toks : List Token) (tree : Node) → has_no_added_word toks ≡ true → Reads (iso C11) toks tree → has_lone_below tree ≡ false
    → binding_of toks (narrowed_node tree) ≡ binding_of toks tree

-- what C99 reads, and binds or refuses, C11 reads, and binds so or refuses for the same fault
abbrev pub TextsOfC99AreBoundByC11 : Type 0
TextsOfC99AreBoundByC11 =
    (toks : List Token) (tree : Node) (answer : Result Bound Fault) → has_no_added_word toks ≡ true → Reads (iso C99) toks tree
    → binding_of toks tree ≡ answer → (wider : Node) × (Reads (iso C11) toks wider × (binding_of toks wider ≡ answer))

-- .. and the other way, if no semicolon stands alone there
abbrev pub TextsOfC11AreBoundByC99 : Type 0
TextsOfC11AreBoundByC99 =
    (toks : List Token) (tree : Node) (answer : Result Bound Fault) → has_no_added_word toks ≡ true → Reads (iso C11) toks tree
    → has_lone_below tree ≡ false → binding_of toks tree ≡ answer
    → (narrow : Node) × (Reads (iso C99) toks narrow × (binding_of toks narrow ≡ answer))
