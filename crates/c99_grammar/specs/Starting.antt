-- Where productions and items start, by the classes of the next token and of the one behind it.
use Rattle.std.specs.Prelude.{Bool, true, false, [], ◌∷◌, if◌then◌else◌, ◌&&◌, ◌||◌, not}
use Rattle.std.specs.List.{list_any}
use Rattle.c99_tree.specs.declared.production.Production.{Production}
use Rattle.c99_grammar.specs.declared.classes.Class.{Class}
use Rattle.c99_grammar.specs.declared.classes.Class.TheVariants.{End}
use Rattle.c99_grammar.specs.Classes.{among}
use Rattle.c99_grammar.specs.Items.{Item, one, part, end_of_text, act, ◌·◌, choice, maybe, many, deep, Test, own, otherwise, next, next_two, Ask, is, is_not, begins, either}
use Rattle.c99_grammar.specs.Standard.{Grammar}

-- actions and optional items are passed over
abbrev pub is_passed : Item → Bool
is_passed (act a) = true
is_passed (maybe a) = true
is_passed (many t a) = true
is_passed (a · b) = is_passed a && is_passed b
is_passed _ = false

module _ (g : Grammar) where
  -- what is asked of a token
  abbrev pub asks : Ask → Class → Bool
  asks (is classes) c = among classes c
  asks (is_not classes) c = not (among classes c)
  asks (begins p) c = among (g.first p) c
  asks (either a b) c = asks a c || asks b c

  -- c before d is such a pair
  abbrev pub is_pair : Class × Ask → Class → Class → Bool
  is_pair pair c d = among (pair.0 ∷ []) c && asks pair.1 d

  -- the production starts with c, or with c where d stands behind
  abbrev pub production_starts : Production → Class → Class → Bool
  production_starts p c d = among (g.first p) c || list_any (λ pair. is_pair pair c d) (g.pairs p)

  -- the test holds of c before d; `started` says whether its item starts there
  abbrev pub holds : Test → Bool → Class → Class → Bool
  holds own started c d = started
  holds otherwise started c d = true
  holds (next a) started c d = asks a c
  holds (next_two a b) started c d = asks a c && asks b d

  -- the item starts with c before d
  abbrev pub starts : Item → Class → Class → Bool
  starts (one classes) c d = among classes c
  starts (part p) c d = production_starts p c d
  starts end_of_text c d = among (End ∷ []) c
  starts (act a) c d = false
  starts (a · b) c d = if is_passed a then starts a c d || starts b c d else starts a c d
  starts (choice a b) c d = starts a c d || starts b c d
  starts (maybe a) c d = starts a c d
  starts (many t a) c d = holds t (starts a c d) c d
  starts (deep a) c d = starts a c d
