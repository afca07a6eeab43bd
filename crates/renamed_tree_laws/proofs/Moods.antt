-- What the table says of the next token where an item is read: how far it is known to be the same in both lists.
use Rattle.std.proofs.Common.{ℕ, ◌+◌, Bool, true, false, ◌&&◌, ◌||◌, not, if◌then◌else◌, ◌==◌, List, [], ◌∷◌}
use Rattle.std.specs.List.{list_all}
use Rattle.c99_grammar.specs.declared.dialects.Dialect.{Dialect}
use Rattle.c99_grammar.specs.declared.dialects.Dialect.TheVariants.{Iso, Gnu}
use Rattle.c99_tree.specs.declared.production.Label.{Label}
use Rattle.c99_tree.specs.declared.production.Production.{Production}
use Rattle.c99_tree.specs.declared.production.Production.TheVariants.{ExtRest, Declaration, DeclRest, InitDecl, Specs, SuRest, Members, MemRest, Mdecl, EnRest, Enumerators, Enumerator, Declarator, Direct, Suffix, Params, Pdecl, Pdirect, InitList, InitItem, Expr, Assign, Cond, Lor, Land, Bor, Bxor, Band, Equal, Relate, Shift, Add, Mul, Cast, Unary, SizeRest, Primary, Main, BlockItem, Statement, Sub, AttrItem, AttrWord, Operand, MemberPath}
use Rattle.c99_grammar.specs.Classes.{among}
use Rattle.c99_grammar.specs.Items.{Item, one, part, end_of_text, act, ◌·◌, choice, maybe, many, deep, Test, own, otherwise, next, next_two, Ask, is, is_not, begins, either, scope, Alternative}
use Rattle.c99_grammar.specs.Standard.{grammar}
use Rattle.c99_read.specs.State.{is_identifier, has_name}
use Rattle.c99_grammar.specs.Starting.{is_passed, production_starts}
use Rattle.renamed_tree_laws.proofs.Private.{Class, identifier, typedef_name, colon, colons, fronts, covers}
use Rattle.renamed_tree_laws.proofs.Twins.{agree, blind}
use Rattle.renamed_tree_laws.proofs.Could.{could_hold, could_start}

-- Of the next token nothing is known; it is the same in both lists or stands before a colon; it is the same; it is no name.
pub data Mood : Type 0 where
  any : Mood
  label : Mood
  calm : Mood
  solid : Mood

abbrev pub at_least : Mood → Mood → Bool
at_least m any = true
at_least any n = false
at_least m label = true
at_least label n = false
at_least m calm = true
at_least calm n = false
at_least solid solid = true

abbrev pub weaker : Mood → Mood → Mood
weaker m n = if at_least m n then n else m

abbrev pub stronger : Mood → Mood → Mood
stronger m n = if at_least m n then m else n

-- a token of these classes: it is read by what it denotes, or is no name, or nothing is known
abbrev pub taken : List Class → Mood
taken L = if among L identifier then (if among L typedef_name then any else calm) else (if among L typedef_name then calm else solid)

-- in GNU C a member stands before a colon and its initializer
abbrev item_mood : Dialect → Mood
item_mood (Iso e) = calm
item_mood Gnu = label

-- what is known before an item of which this was read, whatever the next one is
abbrev pub start_mood : Dialect → Production → Mood
start_mood d ExtRest = any
start_mood d DeclRest = any
start_mood d InitDecl = any
start_mood d SuRest = any
start_mood d MemRest = any
start_mood d Mdecl = any
start_mood d EnRest = any
start_mood d Enumerators = any
start_mood d Enumerator = any
start_mood d Declarator = any
start_mood d Direct = any
start_mood d Pdecl = any
start_mood d Pdirect = any
start_mood d Statement = label
start_mood d BlockItem = label
start_mood d Sub = label
start_mood d AttrItem = any
start_mood d AttrWord = any
start_mood d MemberPath = any
start_mood d InitList = item_mood d
start_mood d InitItem = item_mood d
start_mood d _ = calm

-- what must be known behind the production
abbrev pub end_mood : Production → Mood
end_mood Members = calm
end_mood _ = any

-- .. and where its second token, behind one of those, is the same in both lists
abbrev pub is_second : Production → Bool
is_second Cast = true
is_second Unary = true
is_second SizeRest = true
is_second Primary = true
is_second Suffix = true
is_second Pdirect = true
is_second Operand = true
is_second BlockItem = true
is_second Statement = true
is_second Declaration = true
is_second Specs = true
is_second Expr = true
is_second Assign = true
is_second Cond = true
is_second Lor = true
is_second Land = true
is_second Bor = true
is_second Bxor = true
is_second Band = true
is_second Equal = true
is_second Relate = true
is_second Shift = true
is_second Add = true
is_second Mul = true
is_second _ = false

-- .. because it is asked of this alternative
abbrev pub is_asked : Production → ℕ → Bool
is_asked Pdirect n = n == 2
is_asked _ n = false

-- a token of these classes is asked for what it denotes, as a child of such a node
abbrev pub is_told : Production → ℕ → List Class → Bool
is_told Main n L = (n == 4) && not (among L identifier)
is_told Primary n L = (n == 1) && not (among L typedef_name)
is_told Params n L = (n == 1) && not (among L typedef_name)
is_told _ n L = false

-- the classes are a colon's alone
abbrev pub is_colon : List Class → Bool
is_colon L = covers (λ c. not (among L c) || among colons c) && (not (among L typedef_name) || among colons typedef_name)

abbrev pub takes_colon : Item → Bool
takes_colon (one L) = is_colon L
takes_colon (a · b) = takes_colon a
takes_colon _ = false

abbrev pub before_colon : Mood → Item → Mood
before_colon any b = if takes_colon b then label else any
before_colon _ b = any

abbrev pub labelled_mood : Item → Item → Mood
labelled_mood (one L) b = before_colon (taken L) b
labelled_mood _ b = any

-- what is known before the item, where this is known behind it
abbrev pub mood : Dialect → Item → Mood → Mood
mood d (one L) m = taken L
mood d (part p) m = start_mood d p
mood d end_of_text m = solid
mood d (act scope) m = m
mood d (act _) m = if at_least m solid then solid else any
mood d (a · b) m = stronger (labelled_mood a b) (mood d a (mood d b m))
mood d (choice a b) m = weaker (mood d a m) (mood d b m)
mood d (maybe a) m = weaker (mood d a m) m
mood d (many t a) m = weaker (mood d a any) m
mood d (deep a) m = mood d a m

abbrev pub is_calm_behind : Dialect → Item → Item → Bool
is_calm_behind d (one L) b = at_least (mood d b any) calm
is_calm_behind d _ b = false

-- a token that is repeated: what stands behind one of these
abbrev pub many_calm : Dialect → Item → Item → Bool
many_calm d (many t (one L)) b = at_least (mood d (many t (one L)) (mood d b any)) calm
many_calm d _ b = false

-- the second token is the same, where the first one is one of those
abbrev pub second_known : Dialect → Item → Bool
second_known d (one L) = covers (λ c. not (among L c && among fronts c)) && not (among L typedef_name && among fronts typedef_name)
second_known d (part p) = is_second p
second_known d (a · b) = second_known d a || (is_calm_behind d a b || (many_calm d a b && second_known d b))
second_known d (deep a) = second_known d a
second_known d _ = false

abbrev pub each_list : List Class → Bool
each_list L = true

abbrev pub told_where : Mood → Bool → Bool
told_where calm told = told
told_where _ told = true

abbrev pub named_where : Bool → List Class → Bool
named_where true L = covers (λ c. not (among L c) || is_identifier c)
named_where false L = true

-- a token that is read by what it denotes is asked for it, and a declared name is an identifier
abbrev pub placed : Label → Item → Bool
placed l (one L) = told_where (taken L) (is_told l.production l.alternative L) && named_where (has_name l) L
placed l (part p) = true
placed l end_of_text = true
placed l (act a) = true
placed l (a · b) = placed l a && placed l b
placed l (choice a b) = placed l a && placed l b
placed l (maybe a) = placed l a
placed l (many t a) = placed l a
placed l (deep a) = placed l a

-- ---- Alternatives

abbrev pub is_paren : Ask → Bool
is_paren (is L) = covers (λ c. not (among L c) || among fronts c) && (not (among L typedef_name) || among fronts typedef_name)
is_paren _ = false

-- where the test does not hold, no name stands before a colon
abbrev pub raised : Mood → Test → Mood
raised label (next_two (is L) (is M)) =
    if (among L identifier && among L typedef_name) && covers (λ c. not (among colons c) || among M c) then calm else label
raised m t = m

-- the second token that the test asks for is no typedef name
abbrev pub is_bare_test : Test → Bool
is_bare_test (next_two x (is M)) = not (among M typedef_name)
is_bare_test _ = false

module _ (std : Dialect) where
  -- ---- The second token

  -- the class is none of those, or the alternative does not start with it
  abbrev pub not_front : Test → Item → Class → Bool
  not_front t body c = not (among fronts c) || not (could_hold (grammar std) t (could_start (grammar std) body c) c)

  abbrev pub front_free : Test → Item → Bool
  front_free t body = covers (not_front t body) && not_front t body typedef_name

  abbrev pub second_where : Bool → Bool → Test → Item → Bool
  second_where false asked t body = true
  second_where true true t body = is_bare_test t
  second_where true false t body = front_free t body || second_known std body

  -- ---- Tests

  -- before a colon the production does not tell a typedef name from another
  abbrev pub joint : Production → Bool
  joint p = agree (production_starts (grammar std) p identifier colon) (production_starts (grammar std) p typedef_name colon)

  -- how lists of classes are seen: `sees` of the first token, and `parts` of a production that may start with it
  abbrev pub asks_same : (List Class → Bool) → Ask → Bool
  asks_same sees (is L) = sees L
  asks_same sees (is_not L) = sees L
  asks_same sees (begins p) = sees ((grammar std).first p)
  asks_same sees (either a b) = asks_same sees a && asks_same sees b

  abbrev pub test_same : (List Class → Bool) → Test → Bool → Bool
  test_same sees own started = started
  test_same sees otherwise started = true
  test_same sees (next a) started = asks_same sees a
  test_same sees (next_two a b) started = asks_same sees a && asks_same blind b

  abbrev pub starts_same : (List Class → Bool) → (Production → Bool) → Item → Bool
  starts_same sees parts (one L) = sees L
  starts_same sees parts (part p) = parts p
  starts_same sees parts end_of_text = true
  starts_same sees parts (act a) = true
  starts_same sees parts (a · b) = starts_same sees parts a && (if is_passed a then starts_same sees parts b else true)
  starts_same sees parts (choice a b) = starts_same sees parts a && starts_same sees parts b
  starts_same sees parts (maybe a) = starts_same sees parts a
  starts_same sees parts (many t a) = test_same sees t (starts_same sees parts a)
  starts_same sees parts (deep a) = starts_same sees parts a

  -- what a pair asks of the second token has the same answer in both lists
  abbrev pub pair_behind : Class × Ask → Bool
  pair_behind x = asks_same blind x.1

  abbrev pub each_part : Production → Bool
  each_part p = list_all pair_behind ((grammar std).pairs p)

  abbrev pub blind_pair : Class × Ask → Bool
  blind_pair x = blind (x.0 ∷ []) && pair_behind x

  abbrev pub blind_part : Production → Bool
  blind_part p = blind ((grammar std).first p) && list_all blind_pair ((grammar std).pairs p)

  -- the test has the same answer in both lists, where so much is known
  abbrev pub decides : Mood → Test → Item → Bool
  decides any t a = test_same blind t (starts_same blind blind_part a)
  decides label t a = test_same blind t (starts_same blind joint a) && test_same each_list t (starts_same each_list each_part a)
  decides _ t a = test_same each_list t (starts_same each_list each_part a)

  -- the repetitions and options of an item are decided alike, where this is known behind it
  abbrev pub fits : Mood → Item → Bool
  fits m (one L) = true
  fits m (part p) = at_least m (end_mood p)
  fits m end_of_text = true
  fits m (act a) = true
  fits m (a · b) = fits (mood std b m) a && fits m b
  fits m (choice a b) =
      (decides (mood std (choice a b) m) own a && decides (mood std (choice a b) m) own b) && (fits m a && fits m b)
  fits m (maybe a) = decides (mood std (maybe a) m) own a && fits m a
  fits m (many t a) = decides (mood std (many t a) m) t a && fits (mood std (many t a) m) a
  fits m (deep a) = decides (mood std a m) own a && fits m a

  -- the second token that the test asks for may be a name, where the first one is a parenthesis
  abbrev pub decides_second : Bool → Mood → Test → Item → Bool
  decides_second second m (next_two x y) a = (decides m (next_two x y) a) || (second && (is_paren x && asks_same blind x))
  decides_second second m t a = decides m t a

  -- the tests of alternatives have the same answers
  abbrev pub decided : Bool → Mood → List Alternative → Bool
  decided second m [] = true
  decided second m (a ∷ more) = decides_second second m a.test a.body && decided second (raised m a.test) more

  -- an alternative of the production is as the table of moods says
  abbrev pub is_known : Production → ℕ → Alternative → Bool
  is_known p n a =
      at_least (mood std a.body any) (start_mood std p) && (second_where (is_second p) (is_asked p n) a.test a.body &&
      (placed (record { production = p; alternative = n }) a.body && fits (end_mood p) a.body))

  abbrev pub are_known : Production → ℕ → List Alternative → Bool
  are_known p n [] = true
  are_known p n (a ∷ more) = is_known p n a && are_known p (n + 1) more

  abbrev pub is_production_known : Production → Bool
  is_production_known p = are_known p 1 ((grammar std).table p) && decided (is_second p) (start_mood std p) ((grammar std).table p)
