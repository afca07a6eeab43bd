-- What is known where no token stands beside: nothing that does (ISO/IEC 9899:1999, 6.2.1).
use Rattle.std.specs.Prelude.{ℕ, ◌≡◌, Bool, true, false, ◌&&◌, not, List}
use Rattle.std.specs.List.{All}
use Rattle.cs_base.specs.Token.{Token}
use Rattle.c99_tree.specs.Tree.{Forest, none, token, node}
use Rattle.c_types.specs.declared.declarations.Space.TheVariants.{Members as members, Inner as inner, Unnamed as unnamed}
use Rattle.name_chains.specs.Frames.{State}
use Rattle.scope_bind.specs.Named.{Space, Declaration}
use Rattle.scope_bind.specs.Walk.{walked}
use Rattle.reordered_tree_laws.specs.Beside.{IsOwn, IsOwnFrame}

-- the number of a structure or union to which a name space belongs
abbrev pub space_number : Space → ℕ
space_number (members n) = n
space_number (inner n) = n
space_number (unnamed n) = n
space_number _ = 0

module _ (foreign : ℕ → Bool) where
  -- no token below some children stands beside
  abbrev pub is_clear : Forest → Bool
  is_clear none = true
  is_clear (token i rest) = not (foreign i) && is_clear rest
  is_clear (node l first under rest) = not (foreign first) && (is_clear under && is_clear rest)

  -- neither the name of a declaration nor its entity, its type or the structure or union whose member it is does
  pub record IsOwnName (d : Declaration) : Type 0 where
    pub ctype : IsOwn foreign d.ctype
    pub entity : foreign d.entity ≡ false
    pub name : foreign d.name_at ≡ false
    pub space : foreign (space_number d.space) ≡ false

  -- nothing that is known does
  pub record IsOwnState (s : State) : Type 0 where
    pub declared : All IsOwnName s.facts.declared
    pub frame : IsOwnFrame foreign s.frame

-- A part none of whose tokens stands beside makes known nothing that does.
abbrev pub PartsStayOwn : Type 0
PartsStayOwn =
    (toks : List Token) (foreign : ℕ → Bool) (f : Forest) (s : State) → foreign 0 ≡ false → is_clear foreign f ≡ true → IsOwnState foreign s
    → IsOwnState foreign (walked toks f s)
