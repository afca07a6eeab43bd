-- What an item adds where its tokens stand beside, and what it asks for where none does (ISO/IEC 9899:1999, 6.2.1).
use Rattle.std.specs.Prelude.{ℕ, ◌≡◌, Bool, true, ◌&&◌, not, List, []}
use Rattle.cs_base.specs.Token.{Token}
use Rattle.c99_tree.specs.Tree.{Forest, none, token, node}
use Rattle.c99_tree.specs.declared.production.Label.{Label}
use Rattle.scope_bind.specs.Named.{Scope}
use Rattle.reordered_tree_laws.specs.Adding.{is_adding}
use Rattle.reordered_tree_laws.specs.Beside.{is_apart}

-- each token below some children passes the test, and the first one of each node
abbrev pub tokens_pass : (ℕ → Bool) → Forest → Bool
tokens_pass test none = true
tokens_pass test (token i rest) = test i && tokens_pass test rest
tokens_pass test (node l first under rest) = test first && (tokens_pass test under && tokens_pass test rest)

-- A part like an item adds nothing but what stands beside, where its tokens do.
abbrev pub ItemsAddTheirTokens : Type 0
ItemsAddTheirTokens =
    (foreign : ℕ → Bool) (within : Bool) (l : Label) (f : Forest) → is_adding (λ i. true) within l f ≡ true → tokens_pass foreign f ≡ true
    → is_adding foreign within l f ≡ true

-- It asks for none of no declarations, where none of its tokens stands beside.
abbrev pub NothingIsAskedFor : Type 0
NothingIsAskedFor =
    (toks : List Token) (foreign : ℕ → Bool) (f : Forest) (within : Bool) (l : Label) (k : ℕ) (scope : Scope) → is_adding (λ i. true) within l f ≡ true
    → tokens_pass (λ i. not (foreign i)) f ≡ true → is_apart foreign toks [] l k scope f ≡ true
