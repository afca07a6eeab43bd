-- Binding under a renaming of identifiers (ISO/IEC 9899:1999, 6.2.1).
use Rattle.std.specs.Prelude.{ℕ, ◌≡◌, Bool, true, List, [], ◌∷◌, length, codes, Ok}
use Rattle.std.specs.List.{All, list_any, list_all}
use Rattle.std.specs.Str.{bytes_eq}
use Rattle.cs_base.specs.Token.{Token}
use Rattle.c99_tree.specs.Tree.{Node}
use Rattle.c_types.specs.Declarations.{spelling_at, alike}
use Rattle.scope_bind.specs.Bound.{Bound, binding_of}
use Rattle.scope_bind.specs.declared.bound.Name.{Name}

-- the spellings that binding asks for by themselves; all others it compares with one another
abbrev pub own_words : List (List ℕ)
own_words =
    codes "union" ∷ codes "__func__" ∷ codes "++" ∷ codes "--" ∷ codes "&" ∷ codes "*" ∷ codes "-" ∷ []

abbrev pub is_own_word : List ℕ → Bool
is_own_word word = list_any (λ w. bytes_eq w word) own_words

-- a token that is spelled as token j anew was spelled as it
abbrev pub StaysApart : List Token → List Token → ℕ → Type 0
StaysApart old new j = (i : ℕ) → alike new i j ≡ true → alike old i j ≡ true

-- A renaming of a text whose identifiers are bound so. As many tokens stand in both; the words that binding asks for
-- stay; no token gets the spelling of a name that it had not; and all names of an entity go together.
pub record NamesAreRenamed (old new : List Token) (names : List Name) : Type 0 where
  pub as_long : length new ≡ length old
  pub words : (word : List ℕ) (k : ℕ) → is_own_word word ≡ true → bytes_eq (spelling_at new k) word ≡ bytes_eq (spelling_at old k) word
  pub apart : All (λ (n : Name). StaysApart old new n.index) names
  pub together : list_all (λ n. alike new n.index n.entity) names ≡ true

-- a text that is renamed so, and read to the same tree, binds name for name as before
abbrev pub RenamedBindAlike : Type 0
RenamedBindAlike =
    (old new : List Token) (tree : Node) (b : Bound) → binding_of old tree ≡ Ok b → NamesAreRenamed old new b.names → binding_of new tree ≡ Ok b
