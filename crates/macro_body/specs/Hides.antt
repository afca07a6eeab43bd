-- Tokens with their hide sets. The standard says that a name is no longer available for further
-- replacement (ISO/IEC 9899:1999, 6.10.3.4 paragraph 2); here each token carries the set of the names
-- that are not available to it. The standard leaves open what becomes of a name whose call reaches past
-- the end of its replacement; the intersections below are this project's choice.
use Rattle.std.specs.Prelude.{ℕ, Bool, not, List, [], ◌++◌, map}
use Rattle.std.specs.List.{filter, list_any}
use Rattle.std.specs.Str.{bytes_eq}
use Rattle.cs_base.specs.Token.{Token}

-- A token and its hide set.
pub record Hidden : Type 0 where
  pub tok : Token
  pub hides : List (List ℕ)

-- a token with this hide set
abbrev pub hidden : Token → List (List ℕ) → Hidden
hidden tok hides = record { tok = tok; hides = hides }

-- a name is in a hide set
abbrev pub hides_name : List (List ℕ) → List ℕ → Bool
hides_name hides name = list_any (bytes_eq name) hides

-- the names that are in both sets
abbrev pub in_both : List (List ℕ) → List (List ℕ) → List (List ℕ)
in_both xs ys = filter (hides_name ys) xs

-- those of the names that are not in a hide set
abbrev pub lacking : List (List ℕ) → List (List ℕ) → List (List ℕ)
lacking hides names = filter (λ name. not (hides_name hides name)) names

-- a hide set with further names: those that it has already are not added again
abbrev pub with_names : List (List ℕ) → List (List ℕ) → List (List ℕ)
with_names hides names = hides ++ lacking hides names

-- a token whose hide set has these names too
abbrev pub hide_more : List (List ℕ) → Hidden → Hidden
hide_more names h = hidden h.tok (with_names h.hides names)

-- tokens with empty hide sets
abbrev pub unhidden : List Token → List Hidden
unhidden ts = map (λ t. hidden t []) ts

-- the tokens alone
abbrev pub toks_of : List Hidden → List Token
toks_of hs = map (λ h. h.tok) hs
