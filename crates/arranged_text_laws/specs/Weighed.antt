-- Lists in other elements (this project's): where each element of a text brings some others, as bytes bring characters and
-- characters tokens, the cut of a text is one of what it brings.
use Rattle.std.specs.Prelude.{ℕ, ◌+◌, List, [], ◌∷◌, take, drop}
use Rattle.std.specs.List.{flat_map}
use Rattle.list_cuts.specs.Cuts.{Cut, done, keep, list, Items, ended, item, span_of}

-- all that elements bring, one behind the other
abbrev pub together : {X : Type 0} → List (List X) → List X
together xss = flat_map (λ xs. xs) xss

-- their sum
abbrev pub total : List ℕ → ℕ
total [] = 0
total (w ∷ ws) = w + total ws

unfoldable mutual
  -- The cut of what is brought, where element k brings so many.
  pub weighed : Cut → List ℕ → Cut
  weighed done ws = done
  weighed (keep n c) ws = keep (total (take n ws)) (weighed c (drop n ws))
  weighed (list is c) ws = list (weighed_items is ws) (weighed c (drop (span_of is) ws))

  pub weighed_items : Items → List ℕ → Items
  weighed_items ended ws = ended
  weighed_items (item n c gap more) ws =
      item (total (take n ws)) (weighed c (take n ws)) (total (take gap (drop n ws))) (weighed_items more (drop (n + gap) ws))
