-- What follows in an expansion, as the program keeps it: what is left of results that were put before others,
-- each a frame with the names that are not available to it, and below them what was lent.
use Rattle.std.specs.Prelude.{◌≡◌, ◌++◌, Bool, true, false, ℕ, List, [], ◌∷◌, map, reverse, IsTrue}
use Rattle.std.specs.List.{list_all}
use Rattle.macro_body.specs.Hides.{Hidden, hide_more, unhidden}
use Rattle.macro_expand.specs.declared.rest.Frame.{Frame}
use Rattle.macro_expand.specs.declared.rest.Lent.{Lent}
use Rattle.macro_expand.specs.declared.rest.Lent.TheVariants as lent

-- what was lent: the tokens of a run have empty hide sets
abbrev pub lent_toks : Lent → List Hidden
lent_toks (lent.Run toks) = unhidden toks.now
lent_toks (lent.Argument toks) = toks.now

-- what is left of a result, whose next token is kept at the end: each token with the names of its frame too
abbrev pub rest_of : List (List ℕ) → List Hidden → List Hidden
rest_of names toks = map (hide_more names) (reverse toks)

-- the rests of the frames from the top one down, which is kept at the end, and what is below them
abbrev pub rests_above : List Frame → List Hidden → List Hidden
rests_above [] low = low
rests_above (f ∷ fs) low = rests_above fs (rest_of f.names f.toks.items ++ low)

-- a token is left
abbrev pub goes_on : List Hidden → Bool
goes_on [] = false
goes_on (t ∷ ts) = true

-- each frame has a token left
abbrev pub AreFilled : List Frame → Type 0
AreFilled frames = IsTrue (list_all (λ f. goes_on f.toks.items) frames)

-- nothing is left of the top frame only where no frame is below it
abbrev pub IsRaised : List Hidden → List Frame → Type 0
IsRaised toks below = toks ≡ [] → below ≡ []
