-- Two lists of tokens of which the second respells names of the first (ISO/IEC 9899:1999, 6.2.1, 6.4.2.1 and 6.7.7).
use Rattle.std.specs.Prelude.{ℕ, ◌+◌, ◌≡◌, ◌||◌, Bool, true, not, List, [], ◌∷◌, Option, None, Some, length, if◌then◌else◌, ◌==◌}
use Rattle.std.specs.Option.{option_map_or}
use Rattle.std.specs.Str.{bytes_eq}
use Rattle.c99_grammar.specs.declared.dialects.Dialect.{Dialect}
use Rattle.cs_base.specs.Token.{Token}
use Rattle.c99_tree.specs.declared.production.Production.{Production}
use Rattle.c99_tree.specs.declared.production.Production.TheVariants.{Main, Primary, Params, Pdirect}
use Rattle.c99_grammar.specs.Standard.{grammar}
use Rattle.c99_read.specs.State.{declaration, base_at, spelling_at, is_identifier, is_typedef_at}
use Rattle.renamed_tree_laws.specs.Along.{all_along}

-- the type of the reader's declarations, which it keeps to itself
abbrev pub Given : {A B : Type 0} → (A → B) → Type 0
Given {A} {B} f = B

abbrev pub Declaration : Type 0
Declaration = Given (declaration 0)

-- the latest declaration in a scope that has the spelling of token k
abbrev pub declared_in : List Token → List Declaration → ℕ → Option Declaration
declared_in toks [] k = None
declared_in toks (d ∷ older) k = if bytes_eq (spelling_at toks k) (spelling_at toks d.name_at) then Some d else declared_in toks older k

abbrev pub or_outer : Option Declaration → Option Declaration → Option Declaration
or_outer None outer = outer
or_outer (Some d) outer = Some d

-- the declaration that token k denotes in these scopes (6.2.1 paragraph 4)
abbrev pub denoted : List Token → List (List Declaration) → ℕ → Option Declaration
denoted toks [] k = None
denoted toks (scope ∷ outer) k = or_outer (declared_in toks scope k) (denoted toks outer k)

module _ (std : Dialect) where
  -- What is asked of a name in these scopes, so that it is read as the same kind of name: a type name is a typedef name
  -- (6.7.2 paragraph 2); a primary expression is none (6.5.1 paragraph 2), and a name in an identifier list is none before
  -- it is declared there (6.7.5.3 paragraph 3).
  module _ (toks : List Token) where
    -- token k, where it is an identifier, is no typedef name
    abbrev pub is_bare_so : List (List Declaration) → ℕ → Bool
    is_bare_so scopes k = not (is_identifier (base_at (grammar std) toks k)) || not (is_typedef_at toks scopes k)

    abbrev pub is_kind_so : Production → ℕ → List (List Declaration) → ℕ → Bool
    is_kind_so Main n scopes k = if n == 4 then is_typedef_at toks scopes k else true
    is_kind_so Primary n scopes k = if n == 1 then is_bare_so scopes k else true
    is_kind_so Params n scopes k = if n == 1 then is_bare_so scopes k else true
    is_kind_so _ n scopes k = true

    -- An identifier behind the parenthesis that begins a parameter's declarator is the declared name: it is no typedef
    -- name (6.7.5.3 paragraph 11).
    abbrev pub is_node_so : Production → ℕ → List (List Declaration) → ℕ → Bool
    is_node_so Pdirect n scopes k = if n == 2 then is_bare_so scopes (k + 1) else true
    is_node_so _ n scopes k = true

  module _ (a b : List Token) where
    -- As many tokens, of the same classes but for typedef names; and along the reading of the first list, names of the
    -- second one are of the kinds that are read.
    pub record IsReadSo : Type 0 where
      pub as_long : length a ≡ length b
      pub classes : (k : ℕ) → base_at (grammar std) a k ≡ base_at (grammar std) b k
      pub kinds : all_along (grammar std) (λ s. is_kind_so b s.built.label.production s.built.label.alternative s.names.scopes s.at)
          (λ p n s. is_node_so b p n s.names.scopes s.at) a ≡ true

    -- token k, and the token that declared what it denotes, are spelled alike anew
    abbrev pub is_named_so : List (List Declaration) → ℕ → Bool
    is_named_so scopes k = option_map_or (λ d. bytes_eq (spelling_at b k) (spelling_at b d.name_at)) (denoted a scopes k) true

    -- A type name and a primary expression name what they named; a name in an identifier list, which names nothing before
    -- it is declared there, is no typedef name.
    abbrev pub is_token_so : Production → ℕ → List (List Declaration) → ℕ → Bool
    is_token_so Main n scopes k = if n == 4 then is_named_so scopes k else true
    is_token_so Primary n scopes k = if n == 1 then is_named_so scopes k else true
    is_token_so Params n scopes k = if n == 1 then is_bare_so b scopes k else true
    is_token_so _ n scopes k = true

    -- As many tokens, of the same classes but for typedef names; identifiers that are spelled alike anew were so before;
    -- and, along the reading of the first list, names name what they named.
    pub record IsRespelled : Type 0 where
      pub as_long : length a ≡ length b
      pub classes : (k : ℕ) → base_at (grammar std) a k ≡ base_at (grammar std) b k
      pub apart : (i j : ℕ) → is_identifier (base_at (grammar std) a i) ≡ true → is_identifier (base_at (grammar std) a j) ≡ true
          → bytes_eq (spelling_at b i) (spelling_at b j) ≡ true → bytes_eq (spelling_at a i) (spelling_at a j) ≡ true
      pub names : all_along (grammar std) (λ s. is_token_so s.built.label.production s.built.label.alternative s.names.scopes s.at)
          (λ p n s. is_node_so b p n s.names.scopes s.at) a ≡ true
