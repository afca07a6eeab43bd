-- A text is read as it is behind a typedef.
use Rattle.std.proofs.Common.{ℕ, zero, suc, ◌+◌, ◌*◌, ◌<◌, ◌≡◌, Bool, true, false, ◌&&◌, ◌||◌, not, if◌then◌else◌, ◌==◌, List, [], ◌∷◌, length, None, Ok, Err, nat_lt, refl, sym, ap, ◌∙◌, inl, inr, arith, eqb-true}
use Rattle.std.specs.Prelude.{Result}
use Rattle.std.specs.List.{list_all}
use Rattle.std.proofs.lemmas.Bool.{false≢true, lt-ltb}
use Rattle.c99_grammar.specs.declared.dialects.Edition.{Edition}
use Rattle.c99_grammar.specs.declared.dialects.Edition.TheVariants.{C99, C11}
use Rattle.cs_base.specs.Token.{Token}
use Rattle.cs_base.proofs.BoolLemmas.{or_right}
use Rattle.c99_tree.specs.Tree.{Forest, none, token, node, Node, node_of, leaf, put}
use Rattle.c99_tree.specs.declared.production.Label.{Label}
use Rattle.c99_tree.specs.declared.production.Production.{Production}
use Rattle.c99_tree.specs.declared.production.Production.TheVariants.{TranslationUnit, External, ExtRest, ExtTail, FunBody, Declaration, DeclRest, InitDecl, Sassert, Specs, Main, Mod, Qual, Word, StructSpec, SuRest, Members, Member, MemRest, Mdecl, EnumSpec, EnRest, Enumerators, Enumerator, Declarator, Pointer, Direct, Suffix, Bound, Params, Param, Pdecl, Pdirect, TypeName, Adecl, Adirect, Init, InitList, InitItem, Designator, Expr, Assign, Asgop, Cond, Lor, Land, Bor, Bxor, Band, Equal, Relate, Shift, Add, Mul, Cast, CastRest, Unary, SizeRest, SizeLit, Primary, Post, Args, Block, BlockItem, Statement, Sub, ForInit, AutoDecl, Attr, AttrItem, AttrWord, AsmName, Operand, Association, MemberPath, AsmPart, AsmOperand}
use Rattle.c99_grammar.specs.declared.classes.Class.{Class}
use Rattle.c99_grammar.specs.declared.classes.Class.TheVariants.{Typedef, Int, Semicolon, End}
use Rattle.c99_grammar.specs.Classes.{among}
use Rattle.c99_grammar.specs.First.{order}
use Rattle.c99_grammar.specs.Items.{Item, part, end_of_text, ◌·◌, choice, many, own, declare, again, names}
use Rattle.c99_grammar.specs.Spellings.{Spelled}
use Rattle.c99_grammar.specs.Standard.{Grammar, iso}
use Rattle.c99_grammar.specs.TokenClasses.{base_class, spelled_class}
use Rattle.c99_grammar.proofs.StandardLemmas.{by_edition}
use Rattle.c99_read.specs.State.{State, declaration, class_at, acted, opened, closed}
use Rattle.c99_read.specs.Reading.{Goal, produce, repeat, Step, Stop, syntax, and_then, take_one, at_end, may, step, read_within, at_first, tree_of, read_of}
use Rattle.c99_read.specs.Sound.{IsSound}
use Rattle.c99_read.proofs.C99Sound.{iso-sound}
use Rattle.reordered_text_laws.specs.ByClasses.{joined}
use Rattle.reordered_text_laws.specs.InOrder.{with_words}
use Rattle.reordered_text_laws.proofs.Permuted.{labelled}
use Rattle.reordered_text_laws.proofs.TextsInOrder.{settles}
use Rattle.reordered_text_laws.specs.Fronted.{fronted, used, Fits, up, raised, dirty, front_forest, with_front, TextsAreReadBehindATypedef}
use Rattle.reordered_text_laws.proofs.FrontTrees.{behind_four, dirty-raised, dirty-joined}
use Rattle.reordered_text_laws.proofs.FrontGrows.{grown_end}
use Rattle.reordered_text_laws.proofs.FrontSteps.{acts, is_main_one, Beside, Went, Sim, sim_then, end_same, turns_same}

module _ (std : Edition) where
  quiet : (p : Production) → list_all (λ a. not (is_main_one p && acts a.body)) ((iso std).table p) ≡ true
  quiet TranslationUnit = refl
  quiet External = by_edition (λ s. list_all (λ a. not (is_main_one External && acts a.body)) ((iso s).table External) ≡ true) refl refl std
  quiet ExtRest = refl
  quiet ExtTail = refl
  quiet FunBody = refl
  quiet Declaration = by_edition (λ s. list_all (λ a. not (is_main_one Declaration && acts a.body)) ((iso s).table Declaration) ≡ true) refl refl std
  quiet DeclRest = refl
  quiet InitDecl = refl
  quiet Sassert = by_edition (λ s. list_all (λ a. not (is_main_one Sassert && acts a.body)) ((iso s).table Sassert) ≡ true) refl refl std
  quiet Specs = refl
  quiet Main = refl
  quiet Mod = by_edition (λ s. list_all (λ a. not (is_main_one Mod && acts a.body)) ((iso s).table Mod) ≡ true) refl refl std
  quiet Qual = refl
  quiet Word = refl
  quiet StructSpec = refl
  quiet SuRest = refl
  quiet Members = refl
  quiet Member = by_edition (λ s. list_all (λ a. not (is_main_one Member && acts a.body)) ((iso s).table Member) ≡ true) refl refl std
  quiet MemRest = by_edition (λ s. list_all (λ a. not (is_main_one MemRest && acts a.body)) ((iso s).table MemRest) ≡ true) refl refl std
  quiet Mdecl = refl
  quiet EnumSpec = refl
  quiet EnRest = refl
  quiet Enumerators = refl
  quiet Enumerator = refl
  quiet Declarator = refl
  quiet Pointer = refl
  quiet Direct = refl
  quiet Suffix = refl
  quiet Bound = refl
  quiet Params = refl
  quiet Param = refl
  quiet Pdecl = refl
  quiet Pdirect = refl
  quiet TypeName = refl
  quiet Adecl = refl
  quiet Adirect = refl
  quiet Init = refl
  quiet InitList = refl
  quiet InitItem = refl
  quiet Designator = refl
  quiet Expr = refl
  quiet Assign = refl
  quiet Asgop = refl
  quiet Cond = refl
  quiet Lor = refl
  quiet Land = refl
  quiet Bor = refl
  quiet Bxor = refl
  quiet Band = refl
  quiet Equal = refl
  quiet Relate = refl
  quiet Shift = refl
  quiet Add = refl
  quiet Mul = refl
  quiet Cast = refl
  quiet CastRest = refl
  quiet Unary = refl
  quiet SizeRest = refl
  quiet SizeLit = refl
  quiet Primary = refl
  quiet Post = refl
  quiet Args = refl
  quiet Block = refl
  quiet BlockItem = refl
  quiet Statement = refl
  quiet Sub = refl
  quiet ForInit = refl
  quiet AutoDecl = refl
  quiet Attr = refl
  quiet AttrItem = refl
  quiet AttrWord = refl
  quiet AsmName = refl
  quiet Operand = refl
  quiet Association = refl
  quiet MemberPath = refl
  quiet AsmPart = refl
  quiet AsmOperand = refl

-- ---- What stands in front

abbrev at_unit : List Token → State
at_unit toks = opened TranslationUnit 1 (at_first toks)

-- the state behind it
abbrev behind_front : Edition → List Token → State
behind_front s z = record {
  toks = fronted z;
  at = 4;
  names = record { scopes = (declaration 2 true ∷ []) ∷ []; ended = []; heads = []; kept = [] };
  near = false;
  built = node_of (labelled TranslationUnit 1) 0 (front_forest s);
}

abbrev further : ℕ → ℕ
further n = up (up (up n))

abbrev specs_forest : Forest → Forest
specs_forest rest = node (labelled Specs 1) 0 (node (labelled Mod 1) 0 (token 0 none) (node (labelled Main 1) 1 (node (labelled Word 4) 1 (token 1 none) none) none)) rest

abbrev rest_forest : Forest
rest_forest = node (labelled ExtRest 2) 2 (node (labelled Declarator 1) 2 (node (labelled Direct 1) 2 (token 2 none) none) (node (labelled ExtTail 2) 3 (token 3 none) none)) none

-- the states between the parts
abbrev in_front : ℕ → List Token → State
in_front w z = record {
  toks = fronted z;
  at = 0;
  names = record { scopes = [] ∷ []; ended = []; heads = []; kept = [] };
  near = false;
  built = node_of (labelled External w) 0 none;
}

abbrev behind_specs : ℕ → List Token → State
behind_specs w z = record {
  toks = fronted z;
  at = 2;
  names = record { scopes = [] ∷ []; ended = []; heads = []; kept = [] };
  near = true;
  built = node_of (labelled External w) 0 (specs_forest none);
}

abbrev behind_rest : ℕ → List Token → State
behind_rest w z = record {
  toks = fronted z;
  at = 4;
  names = record { scopes = (declaration 2 true ∷ []) ∷ []; ended = []; heads = []; kept = [] };
  near = true;
  built = node_of (labelled External w) 0 (specs_forest rest_forest);
}

abbrev less_further : ℕ → ℕ
less_further n = suc (suc (suc (up (up n))))

-- ---- .. in parts

module _ (r : Edition) (w : ℕ) (z : List Token) where
  abbrev reads : ℕ → Goal → State → Step
  reads n goal s = read_within (iso r) n 0 goal s

  abbrev a_state : ℕ → Bool → Label → ℕ → Forest → State
  a_state at near l first under = record {
    toks = fronted z;
    at = at;
    names = record { scopes = [] ∷ []; ended = []; heads = []; kept = [] };
    near = near;
    built = node_of l first under;
  }

  abbrev mod_forest : Forest → Forest
  mod_forest more = node (labelled Mod 1) 0 (token 0 none) more

  abbrev main_forest : Forest
  main_forest = node (labelled Main 1) 1 (node (labelled Word 4) 1 (token 1 none) none) none

  abbrev name_forest : Forest → Forest
  name_forest more = node (labelled Declarator 1) 2 (node (labelled Direct 1) 2 (token 2 none) none) more

  abbrev in_specs : State
  in_specs = a_state 0 false (labelled Specs 1) 0 none

  abbrev behind_mod : State
  behind_mod = a_state 1 false (labelled Specs 1) 0 (mod_forest none)

  abbrev behind_main : State
  behind_main = a_state 2 false (labelled Specs 1) 0 (mod_forest main_forest)

  abbrev in_rest : State
  in_rest = a_state 2 true (labelled ExtRest 2) 2 none

  abbrev behind_name : State
  behind_name = a_state 3 true (labelled ExtRest 2) 2 (name_forest none)

  abbrev declared_name : State
  declared_name = record behind_name { names = record { scopes = [] ∷ ((declaration 2 true ∷ []) ∷ []); ended = []; heads = []; kept = [] } }

  abbrev behind_tail : State
  behind_tail = record {
    toks = fronted z;
    at = 4;
    names = record { scopes = (declaration 2 true ∷ []) ∷ []; ended = []; heads = []; kept = [] };
    near = true;
    built = node_of (labelled ExtRest 2) 2 (name_forest (node (labelled ExtTail 2) 3 (token 3 none) none));
  }

  -- a token is taken
  abbrev with_token : State → State
  with_token x = record x { at = x.at + 1; built = record x.built { under = put x.built.under (leaf x.at) } }

  taken_so : (L : List Class) (x : State) → nat_lt x.at (length x.toks) ≡ true → among L (class_at (iso r) x x.at) ≡ true → take_one (iso r) L x ≡ Ok (with_token x)
  unfolding take_one
  taken_so L x e k =
      ap (λ b. if b && among L (class_at (iso r) x x.at) then Ok (with_token x) else Err (syntax x.at)) e
      ∙ ap (λ b. if b then Ok (with_token x) else Err (syntax x.at)) k

  abbrev in_mod : State
  in_mod = a_state 0 false (labelled Mod 1) 0 none

  abbrev in_main : State
  in_main = a_state 1 false (labelled Main 1) 1 none

  abbrev in_word : State
  in_word = a_state 1 false (labelled Word 4) 1 none

  abbrev in_main_behind : State
  in_main_behind = a_state 2 false (labelled Main 1) 1 (node (labelled Word 4) 1 (token 1 none) none)

  -- the names while the declarator is open
  abbrev named_state : ℕ → Label → Forest → State
  named_state at l under = record {
    toks = fronted z;
    at = at;
    names = record { scopes = [] ∷ []; ended = []; heads = record { scopes_open = 1; given = None } ∷ []; kept = [] };
    near = true;
    built = node_of l 2 under;
  }

  abbrev in_declarator : State
  in_declarator = named_state 2 (labelled Declarator 1) none

  abbrev in_direct : State
  in_direct = named_state 2 (labelled Direct 1) none

  abbrev in_tail : State
  in_tail = record {
    toks = fronted z;
    at = 3;
    names = record { scopes = (declaration 2 true ∷ []) ∷ []; ended = []; heads = []; kept = [] };
    near = true;
    built = node_of (labelled ExtTail 2) 3 none;
  }

  -- what the table says of each part, but for the tokens that are taken
  abbrev PartOf_specs : Type 0
  PartOf_specs = (n : ℕ) → reads (suc n) (produce Specs) (in_front w z)
      ≡ and_then (and_then (and_then (reads n (produce Mod) in_specs) (reads n (repeat own (part Mod)))) (reads n (produce Main))) (λ s'. Ok (closed Specs (in_front w z) s'))

  abbrev PartOf_word_typedef : Type 0
  PartOf_word_typedef = (n : ℕ) → reads (suc n) (produce Mod) in_specs ≡ and_then (take_one (iso r) (Typedef ∷ []) in_mod) (λ s'. Ok (closed Mod in_specs s'))

  abbrev PartOf_is_typedef : Type 0
  PartOf_is_typedef = among (Typedef ∷ []) (class_at (iso r) in_mod 0) ≡ true

  abbrev PartOf_no_more : Type 0
  PartOf_no_more = (n : ℕ) → reads (suc n) (repeat own (part Mod)) behind_mod ≡ Ok behind_mod

  abbrev PartOf_main : Type 0
  PartOf_main = (n : ℕ) → reads (suc n) (produce Main) behind_mod
      ≡ and_then (and_then (reads n (produce Word) in_main) (step (iso r) (read_within (iso r) n) 0 (many own (choice (part Word) (part Mod))))) (λ s'. Ok (closed Main behind_mod s'))

  abbrev PartOf_word_int : Type 0
  PartOf_word_int = (n : ℕ) → reads (suc n) (produce Word) in_main ≡ and_then (take_one (iso r) (Int ∷ []) in_word) (λ s'. Ok (closed Word in_main s'))

  abbrev PartOf_is_int : Type 0
  PartOf_is_int = among (Int ∷ []) (class_at (iso r) in_word 1) ≡ true

  abbrev PartOf_no_word : Type 0
  PartOf_no_word = (n : ℕ) → step (iso r) (read_within (iso r) n) 0 (many own (choice (part Word) (part Mod))) in_main_behind ≡ Ok in_main_behind

  abbrev PartOf_rest : Type 0
  PartOf_rest = (n : ℕ) → reads (suc n) (produce ExtRest) (behind_specs w z)
      ≡ and_then (and_then (reads n (produce Declarator) in_rest) (λ s'. reads n (produce ExtTail) (acted (iso r) again (acted (iso r) declare s')))) (λ s'. Ok (closed ExtRest (behind_specs w z) s'))

  abbrev PartOf_declarator : Type 0
  PartOf_declarator = (n : ℕ) → reads (suc n) (produce Declarator) in_rest ≡ and_then (reads n (produce Direct) in_declarator) (λ s'. Ok (closed Declarator in_rest s'))

  abbrev PartOf_direct : Type 0
  PartOf_direct = (n : ℕ) → reads (suc n) (produce Direct) in_declarator
      ≡ and_then (and_then (take_one (iso r) names in_direct) (step (iso r) (read_within (iso r) n) 0 (many own (part Suffix)))) (λ s'. Ok (closed Direct in_declarator s'))

  abbrev PartOf_is_name : Type 0
  PartOf_is_name = among names (class_at (iso r) in_direct 2) ≡ true

  abbrev PartOf_no_suffix : Type 0
  PartOf_no_suffix = (n : ℕ) → step (iso r) (read_within (iso r) n) 0 (many own (part Suffix)) (with_token in_direct) ≡ Ok (with_token in_direct)

  abbrev PartOf_tail : Type 0
  PartOf_tail = (n : ℕ) → reads (suc n) (produce ExtTail) declared_name ≡ and_then (take_one (iso r) (Semicolon ∷ []) in_tail) (λ s'. Ok (closed ExtTail declared_name s'))

  abbrev PartOf_is_end : Type 0
  PartOf_is_end = among (Semicolon ∷ []) (class_at (iso r) in_tail 3) ≡ true

  record Parts : Type 0 where
    specs : PartOf_specs
    word_typedef : PartOf_word_typedef
    is_typedef : PartOf_is_typedef
    no_more : PartOf_no_more
    main : PartOf_main
    word_int : PartOf_word_int
    is_int : PartOf_is_int
    no_word : PartOf_no_word
    rest : PartOf_rest
    declarator : PartOf_declarator
    direct : PartOf_direct
    is_name : PartOf_is_name
    no_suffix : PartOf_no_suffix
    tail : PartOf_tail
    is_end : PartOf_is_end

  less_up : (i : ℕ) → i < 4 → nat_lt i (length (fronted z)) ≡ true
  less_up i e = lt-ltb i (length (fronted z)) (omega (arith, e))

  module _ (parts : Parts) where
    open parts use {specs, word_typedef, is_typedef, no_more, main, word_int, is_int, no_word, rest, declarator, direct, is_name, no_suffix, tail, is_end}

    mod_read : (n : ℕ) → reads (suc n) (produce Mod) in_specs ≡ Ok behind_mod
    unfolding closed
    mod_read n = word_typedef n ∙ ap (λ x. and_then x (λ s'. Ok (closed Mod in_specs s'))) (taken_so (Typedef ∷ []) in_mod (less_up 0 (omega arith)) is_typedef)

    word_read : (n : ℕ) → reads (suc n) (produce Word) in_main ≡ Ok in_main_behind
    unfolding closed
    word_read n = word_int n ∙ ap (λ x. and_then x (λ s'. Ok (closed Word in_main s'))) (taken_so (Int ∷ []) in_word (less_up 1 (omega arith)) is_int)

    main_read : (n : ℕ) → reads (suc (suc n)) (produce Main) behind_mod ≡ Ok behind_main
    unfolding closed
    main_read n =
        main (suc n)
        ∙ (ap (λ x. and_then (and_then x (step (iso r) (read_within (iso r) (suc n)) 0 (many own (choice (part Word) (part Mod))))) (λ s'. Ok (closed Main behind_mod s'))) (word_read n)
        ∙ ap (λ x. and_then x (λ s'. Ok (closed Main behind_mod s'))) (no_word (suc n)))

    direct_read : (n : ℕ) → reads (suc n) (produce Direct) in_declarator ≡ Ok (named_state 3 (labelled Declarator 1) (node (labelled Direct 1) 2 (token 2 none) none))
    unfolding closed
    direct_read n =
        direct n
        ∙ (ap (λ x. and_then (and_then x (step (iso r) (read_within (iso r) n) 0 (many own (part Suffix)))) (λ s'. Ok (closed Direct in_declarator s'))) (taken_so names in_direct (less_up 2 (omega arith)) is_name)
        ∙ ap (λ x. and_then x (λ s'. Ok (closed Direct in_declarator s'))) (no_suffix n))

    name_read : (n : ℕ) → reads (suc (suc n)) (produce Declarator) in_rest ≡ Ok behind_name
    unfolding closed
    name_read n = declarator (suc n) ∙ ap (λ x. and_then x (λ s'. Ok (closed Declarator in_rest s'))) (direct_read n)

    tail_read : (n : ℕ) → reads (suc n) (produce ExtTail) declared_name ≡ Ok behind_tail
    unfolding closed
    tail_read n = tail n ∙ ap (λ x. and_then x (λ s'. Ok (closed ExtTail declared_name s'))) (taken_so (Semicolon ∷ []) in_tail (less_up 3 (omega arith)) is_end)

    specs_read : (n : ℕ) → reads (less_further n) (produce Specs) (in_front w z) ≡ Ok (behind_specs w z)
    unfolding closed
    specs_read n =
        let k : ℕ = suc (up (up n)) in
        specs (suc k)
        ∙ (ap (λ x. and_then (and_then (and_then x (reads (suc k) (repeat own (part Mod)))) (reads (suc k) (produce Main))) (λ s'. Ok (closed Specs (in_front w z) s'))) (mod_read k)
        ∙ (ap (λ x. and_then (and_then x (reads (suc k) (produce Main))) (λ s'. Ok (closed Specs (in_front w z) s'))) (no_more k)
        ∙ ap (λ x. and_then x (λ s'. Ok (closed Specs (in_front w z) s'))) (main_read (up (up n)))))

    rest_read : (n : ℕ) → reads (less_further n) (produce ExtRest) (behind_specs w z) ≡ Ok (behind_rest w z)
    unfolding closed acted
    rest_read n =
        let k : ℕ = suc (up (up n)) in
        rest (suc k)
        ∙ (ap (λ x. and_then (and_then x (λ s'. reads (suc k) (produce ExtTail) (acted (iso r) again (acted (iso r) declare s')))) (λ s'. Ok (closed ExtRest (behind_specs w z) s'))) (name_read (up (up n)))
        ∙ ap (λ x. and_then x (λ s'. Ok (closed ExtRest (behind_specs w z) s'))) (tail_read k))

specs_part_99 : (z : List Token) → PartOf_specs C99 2 z
unfolding read_within class_at acted opened base_class spelled_class
specs_part_99 z = λ n. refl

word_typedef_99 : (z : List Token) → PartOf_word_typedef C99 2 z
unfolding read_within class_at acted opened base_class spelled_class
word_typedef_99 z = λ n. refl

is_typedef_99 : (z : List Token) → PartOf_is_typedef C99 2 z
unfolding read_within class_at acted opened base_class spelled_class
is_typedef_99 z = refl

no_more_99 : (z : List Token) → PartOf_no_more C99 2 z
unfolding read_within class_at acted opened base_class spelled_class
no_more_99 z = λ n. refl

main_99 : (z : List Token) → PartOf_main C99 2 z
unfolding read_within class_at acted opened base_class spelled_class
main_99 z = λ n. refl

word_int_99 : (z : List Token) → PartOf_word_int C99 2 z
unfolding read_within class_at acted opened base_class spelled_class
word_int_99 z = λ n. refl

is_int_99 : (z : List Token) → PartOf_is_int C99 2 z
unfolding read_within class_at acted opened base_class spelled_class
is_int_99 z = refl

no_word_99 : (z : List Token) → PartOf_no_word C99 2 z
unfolding read_within class_at acted opened base_class spelled_class
no_word_99 z = λ n. refl

rest_part_99 : (z : List Token) → PartOf_rest C99 2 z
unfolding read_within class_at acted opened base_class spelled_class
rest_part_99 z = λ n. refl

declarator_99 : (z : List Token) → PartOf_declarator C99 2 z
unfolding read_within class_at acted opened base_class spelled_class
declarator_99 z = λ n. refl

direct_99 : (z : List Token) → PartOf_direct C99 2 z
unfolding read_within class_at acted opened base_class spelled_class
direct_99 z = λ n. refl

is_name_99 : (z : List Token) → PartOf_is_name C99 2 z
unfolding read_within class_at acted opened base_class spelled_class
is_name_99 z = refl

no_suffix_99 : (z : List Token) → PartOf_no_suffix C99 2 z
unfolding read_within class_at acted opened base_class spelled_class
no_suffix_99 z = λ n. refl

tail_99 : (z : List Token) → PartOf_tail C99 2 z
unfolding read_within class_at acted opened base_class spelled_class
tail_99 z = λ n. refl

is_end_99 : (z : List Token) → PartOf_is_end C99 2 z
unfolding read_within class_at acted opened base_class spelled_class
is_end_99 z = refl

parts_99 : (z : List Token) → Parts C99 2 z
parts_99 z = record { specs = specs_part_99 z; word_typedef = word_typedef_99 z; is_typedef = is_typedef_99 z; no_more = no_more_99 z; main = main_99 z; word_int = word_int_99 z; is_int = is_int_99 z; no_word = no_word_99 z; rest = rest_part_99 z; declarator = declarator_99 z; direct = direct_99 z; is_name = is_name_99 z; no_suffix = no_suffix_99 z; tail = tail_99 z; is_end = is_end_99 z }

specs_99 : (z : List Token) (n : ℕ) → read_within (iso C99) (less_further n) 0 (produce Specs) (in_front 2 z) ≡ Ok (behind_specs 2 z)
specs_99 z n = specs_read C99 2 z (parts_99 z) n

rest_99 : (z : List Token) (n : ℕ) → read_within (iso C99) (less_further n) 0 (produce ExtRest) (behind_specs 2 z) ≡ Ok (behind_rest 2 z)
rest_99 z n = rest_read C99 2 z (parts_99 z) n

specs_part_11 : (z : List Token) → PartOf_specs C11 3 z
unfolding read_within class_at acted opened base_class spelled_class
specs_part_11 z = λ n. refl

word_typedef_11 : (z : List Token) → PartOf_word_typedef C11 3 z
unfolding read_within class_at acted opened base_class spelled_class
word_typedef_11 z = λ n. refl

is_typedef_11 : (z : List Token) → PartOf_is_typedef C11 3 z
unfolding read_within class_at acted opened base_class spelled_class
is_typedef_11 z = refl

no_more_11 : (z : List Token) → PartOf_no_more C11 3 z
unfolding read_within class_at acted opened base_class spelled_class
no_more_11 z = λ n. refl

main_11 : (z : List Token) → PartOf_main C11 3 z
unfolding read_within class_at acted opened base_class spelled_class
main_11 z = λ n. refl

word_int_11 : (z : List Token) → PartOf_word_int C11 3 z
unfolding read_within class_at acted opened base_class spelled_class
word_int_11 z = λ n. refl

is_int_11 : (z : List Token) → PartOf_is_int C11 3 z
unfolding read_within class_at acted opened base_class spelled_class
is_int_11 z = refl

no_word_11 : (z : List Token) → PartOf_no_word C11 3 z
unfolding read_within class_at acted opened base_class spelled_class
no_word_11 z = λ n. refl

rest_part_11 : (z : List Token) → PartOf_rest C11 3 z
unfolding read_within class_at acted opened base_class spelled_class
rest_part_11 z = λ n. refl

declarator_11 : (z : List Token) → PartOf_declarator C11 3 z
unfolding read_within class_at acted opened base_class spelled_class
declarator_11 z = λ n. refl

direct_11 : (z : List Token) → PartOf_direct C11 3 z
unfolding read_within class_at acted opened base_class spelled_class
direct_11 z = λ n. refl

is_name_11 : (z : List Token) → PartOf_is_name C11 3 z
unfolding read_within class_at acted opened base_class spelled_class
is_name_11 z = refl

no_suffix_11 : (z : List Token) → PartOf_no_suffix C11 3 z
unfolding read_within class_at acted opened base_class spelled_class
no_suffix_11 z = λ n. refl

tail_11 : (z : List Token) → PartOf_tail C11 3 z
unfolding read_within class_at acted opened base_class spelled_class
tail_11 z = λ n. refl

is_end_11 : (z : List Token) → PartOf_is_end C11 3 z
unfolding read_within class_at acted opened base_class spelled_class
is_end_11 z = refl

parts_11 : (z : List Token) → Parts C11 3 z
parts_11 z = record { specs = specs_part_11 z; word_typedef = word_typedef_11 z; is_typedef = is_typedef_11 z; no_more = no_more_11 z; main = main_11 z; word_int = word_int_11 z; is_int = is_int_11 z; no_word = no_word_11 z; rest = rest_part_11 z; declarator = declarator_11 z; direct = direct_11 z; is_name = is_name_11 z; no_suffix = no_suffix_11 z; tail = tail_11 z; is_end = is_end_11 z }

specs_11 : (z : List Token) (n : ℕ) → read_within (iso C11) (less_further n) 0 (produce Specs) (in_front 3 z) ≡ Ok (behind_specs 3 z)
specs_11 z n = specs_read C11 3 z (parts_11 z) n

rest_11 : (z : List Token) (n : ℕ) → read_within (iso C11) (less_further n) 0 (produce ExtRest) (behind_specs 3 z) ≡ Ok (behind_rest 3 z)
rest_11 z n = rest_read C11 3 z (parts_11 z) n

definition_99 : (z : List Token) (n : ℕ) → read_within (iso C99) (suc n) 0 (produce External) (at_unit (fronted z))
    ≡ and_then (and_then (read_within (iso C99) n 0 (produce Specs) (in_front 2 z)) (read_within (iso C99) n 0 (produce ExtRest))) (λ s'. Ok (closed External (at_unit (fronted z)) s'))
unfolding read_within class_at opened base_class spelled_class
definition_99 z n = refl

definition_11 : (z : List Token) (n : ℕ) → read_within (iso C11) (suc n) 0 (produce External) (at_unit (fronted z))
    ≡ and_then (and_then (read_within (iso C11) n 0 (produce Specs) (in_front 3 z)) (read_within (iso C11) n 0 (produce ExtRest))) (λ s'. Ok (closed External (at_unit (fronted z)) s'))
unfolding read_within class_at opened base_class spelled_class
definition_11 z n = refl

done_99 : (z : List Token) (r q : Step) → r ≡ Ok (behind_specs 2 z) → q ≡ Ok (behind_rest 2 z) → (f : State → Step) → f (behind_specs 2 z) ≡ q
    → and_then (and_then r f) (λ s'. Ok (closed External (at_unit (fronted z)) s')) ≡ Ok (behind_front C99 z)
unfolding closed opened
done_99 z r q e k f h = ap (λ x. and_then (and_then x f) (λ s'. Ok (closed External (at_unit (fronted z)) s'))) e ∙ ap (λ x. and_then x (λ s'. Ok (closed External (at_unit (fronted z)) s'))) (h ∙ k)

done_11 : (z : List Token) (r q : Step) → r ≡ Ok (behind_specs 3 z) → q ≡ Ok (behind_rest 3 z) → (f : State → Step) → f (behind_specs 3 z) ≡ q
    → and_then (and_then r f) (λ s'. Ok (closed External (at_unit (fronted z)) s')) ≡ Ok (behind_front C11 z)
unfolding closed opened
done_11 z r q e k f h = ap (λ x. and_then (and_then x f) (λ s'. Ok (closed External (at_unit (fronted z)) s'))) e ∙ ap (λ x. and_then x (λ s'. Ok (closed External (at_unit (fronted z)) s'))) (h ∙ k)

front_read : (s : Edition) (z : List Token) (n : ℕ) → read_within (iso s) (further n) 0 (produce External) (at_unit (fronted z)) ≡ Ok (behind_front s z)
front_read s z n =
    by_edition (λ r. read_within (iso r) (further n) 0 (produce External) (at_unit (fronted z)) ≡ Ok (behind_front r z))
    (definition_99 z (less_further n) ∙ done_99 z (read_within (iso C99) (less_further n) 0 (produce Specs) (in_front 2 z)) (read_within (iso C99) (less_further n) 0 (produce ExtRest) (behind_specs 2 z))
    (specs_99 z n) (rest_99 z n) (read_within (iso C99) (less_further n) 0 (produce ExtRest)) refl)
    (definition_11 z (less_further n) ∙ done_11 z (read_within (iso C11) (less_further n) 0 (produce Specs) (in_front 3 z)) (read_within (iso C11) (less_further n) 0 (produce ExtRest) (behind_specs 3 z))
    (specs_11 z n) (rest_11 z n) (read_within (iso C11) (less_further n) 0 (produce ExtRest)) refl)
    s

-- ---- Trees

abbrev read_as : Node → Result Node Stop
read_as n = Ok n

node_is : (a b : Node) → read_as a ≡ read_as b → a ≡ b
node_is a b e = cc

abbrev rest_of : Forest → Forest
rest_of (node l first under rest) = rest
rest_of f = f

abbrev down : ℕ → ℕ
down zero = zero
down (suc zero) = zero
down (suc (suc zero)) = zero
down (suc (suc (suc zero))) = zero
down (suc (suc (suc (suc k)))) = k

abbrev lowered : Forest → Forest
lowered none = none
lowered (token i rest) = token (down i) (lowered rest)
lowered (node l first under rest) = node l (down first) (lowered under) (lowered rest)

lowered-raised : (f : Forest) → lowered (raised f) ≡ f
lowered-raised none = refl
lowered-raised (token i rest) = ap (token i) (lowered-raised rest)
lowered-raised (node l first under rest) = ap (λ f. node l first f (lowered (raised rest))) (lowered-raised under) ∙ ap (node l first under) (lowered-raised rest)

behind_is : (s : Edition) (f h : Forest) → joined (front_forest s) (raised f) ≡ joined (front_forest s) (raised h) → f ≡ h
behind_is s f h e = sym (lowered-raised f) ∙ (ap (λ k. lowered (rest_of k)) e ∙ lowered-raised h)

end_class : (h : Grammar) (z : List Token) → (0 == length z) ≡ true → class_at h (at_first z) 0 ≡ End
unfolding class_at
end_class h [] e = refl
end_class h (t ∷ z) e = absurd (let same : 0 ≡ suc (length z) = eqb-true 0 (suc (length z)) e in omega (arith, same))

ends_so : (t t' : State) → at_end t ≡ Ok t' → (t.at == length t.toks) ≡ true
unfolding at_end
ends_so t t' e = by (t.at == length t.toks) refl e
  where
    by : (c : Bool) → (t.at == length t.toks) ≡ c → (if c then Ok t else Err (syntax t.at)) ≡ Ok t' → (t.at == length t.toks) ≡ true
    by true h k = h
    by false h k = absurd (cc)

-- ---- The text

module _ (s : Edition) (words : List Spelled) (z : List Token) (fits : (k : ℕ) → Fits z (iso s) (with_words words (iso s)) k) where
  abbrev g : Grammar
  g = iso s

  abbrev h : Grammar
  h = with_words words (iso s)

  abbrev definitions : Item
  definitions = many own (part External)

  abbrev unit : Item
  unit = definitions · end_of_text

  abbrev unit_label : Label
  unit_label = labelled TranslationUnit 1

  -- steps that are enough for both
  abbrev many_steps : ℕ
  many_steps = 64 * up (length z) + order TranslationUnit

  abbrev many_less : ℕ
  many_less = suc (suc (suc (up (up many_steps))))

  abbrev steps : ℕ
  steps = further many_steps

  abbrev rest_up : Step
  rest_up = and_then (read_within g steps 0 (repeat own (part External)) (behind_front s z)) at_end

  abbrev rest : Step
  rest = and_then (read_within h steps 0 (repeat own (part External)) (at_unit z)) at_end

  abbrev done_up : Step → Step
  done_up r = and_then r (λ s'. Ok (closed TranslationUnit (at_first (fronted z)) s'))

  abbrev done : Step → Step
  done r = and_then r (λ t'. Ok (closed TranslationUnit (at_first z) t'))

  begun_unit : may g own unit (at_first (fronted z)) ≡ true
  unfolding class_at base_class spelled_class
  begun_unit = by_edition (λ r. may (iso r) own unit (at_first (fronted z)) ≡ true) refl refl s

  begun_first : may g own (part External) (at_unit (fronted z)) ≡ true
  unfolding class_at base_class spelled_class opened
  begun_first = by_edition (λ r. may (iso r) own (part External) (at_unit (fronted z)) ≡ true) refl refl s

  if_yes : (c : Bool) (r r' : Step) → c ≡ true → (if c then r else r') ≡ r
  if_yes c r r' e = ap (λ x. if x then r else r') e

  read_up : read_within g (suc steps) 0 (produce TranslationUnit) (at_first (fronted z)) ≡ done_up rest_up
  unfolding read_within
  read_up =
      if_yes (may g own unit (at_first (fronted z))) (done_up (and_then (step g (read_within g steps) 0 definitions (at_unit (fronted z))) at_end)) (Err (syntax 0)) begun_unit
      ∙ ap (λ r. done_up (and_then r at_end))
      (if_yes (may g own (part External) (at_unit (fronted z))) (and_then (read_within g steps 0 (produce External) (at_unit (fronted z))) (read_within g steps 0 (repeat own (part External)))) (Ok (at_unit (fronted z)))
      begun_first
      ∙ ap (λ r. and_then r (read_within g steps 0 (repeat own (part External)))) (front_read s z many_steps))

  read_plain : read_within h steps 0 (produce TranslationUnit) (at_first z) ≡ (if may h own unit (at_first z) then done rest else Err (syntax 0))
  unfolding read_within
  read_plain = refl

  beside : Beside z g words (front_forest s) (behind_front s z) (at_unit z)
  unfolding opened
  beside = record {
    text = refl;
    text' = refl;
    at = refl;
    names = refl;
    near = refl;
    label = refl;
    begins = λ e. absurd (false≢true e);
    outer = λ e. refl;
    under = refl;
    others = record { scopes = (tt, tt); opens = tt; ended = tt; heads = tt; kept = tt };
    clean = refl;
  }

  both_rest : Sim z g words (front_forest s) (behind_front s z) (at_unit z) rest_up rest
  both_rest =
      sim_then z g words (front_forest s) (behind_front s z) (at_unit z) (read_within g steps 0 (repeat own (part External)) (behind_front s z)) (read_within h steps 0 (repeat own (part External)) (at_unit z))
      at_end at_end beside.label (turns_same z g words fits (quiet s) steps 0 own (part External) (front_forest s) (behind_front s z) (at_unit z) beside (λ e. absurd (false≢true e)))
      (λ s'. grown_end (behind_four (used z)) g s') (λ t'. grown_end (used z) h t') (λ s' t' b e. end_same z g words fits (front_forest s) s' t' b)

  sound : IsSound h
  sound = record { sound = (iso-sound s).sound }

  text_up : read_of g (fronted z) ≡ tree_of (done_up rest_up)
  text_up = ap tree_of (sym (settles g (iso-sound s) (suc steps) 0 (produce TranslationUnit) (at_first (fronted z)) refl (omega arith)) ∙ read_up)

  text_plain : read_of h z ≡ tree_of (if may h own unit (at_first z) then done rest else Err (syntax 0))
  text_plain = ap tree_of (sym (settles h sound steps 0 (produce TranslationUnit) (at_first z) refl (omega arith)) ∙ read_plain)

  -- what the two trees are
  went_tree : (s' t' : State) → Went z g words (front_forest s) (at_unit z) s' t' → tree_of (done_up (Ok s')) ≡ Ok (with_front s t'.built)
  unfolding opened closed
  went_tree s' t' w =
      ap (λ l. Ok (node_of l s'.built.first s'.built.under)) w.beside.label
      ∙ (ap (λ k. Ok (node_of t'.built.label k s'.built.under)) (w.beside.outer refl ∙ w.first) ∙ ap (λ f. Ok (node_of t'.built.label 0 f)) w.beside.under)

  plain_tree : (t' : State) → tree_of (done (Ok t')) ≡ Ok t'.built
  unfolding closed
  plain_tree t' = refl

  clean_up : (f : Forest) → dirty (used z) unit_label f ≡ false → dirty (behind_four (used z)) unit_label (joined (front_forest s) (raised f)) ≡ false
  clean_up f e = dirty-joined (behind_four (used z)) unit_label (front_forest s) (raised f) ∙ (dirty-raised (used z) unit_label f ∙ e)

  -- ---- In front

  pub front_kept : (tree : Node) → dirty (used z) unit_label tree.under ≡ false → read_of h z ≡ Ok tree → read_of g (fronted z) ≡ Ok (with_front s tree)
  unfolding opened
  front_kept tree clean e = by (may h own unit (at_first z)) rest rest_up refl both_rest (sym text_plain ∙ e)
    where
      by : (c : Bool) (r ru : Step) → rest_up ≡ ru → Sim z g words (front_forest s) (behind_front s z) (at_unit z) ru r → tree_of (if c then done r else Err (syntax 0)) ≡ Ok tree
          → read_of g (fronted z) ≡ Ok (with_front s tree)
      by false r ru f m k = absurd (cc)
      by true (Err stop) ru f m k = absurd (cc)
      by true (Ok t') (Err stop) f m k =
          let is : t'.built ≡ tree = node_is t'.built tree (sym (plain_tree t') ∙ k) in
          absurd (false≢true (sym (ap (λ (n : Node). dirty (used z) unit_label n.under) is ∙ clean) ∙ m))
      by true (Ok t') (Ok s') f (inr d) k =
          let is : t'.built ≡ tree = node_is t'.built tree (sym (plain_tree t') ∙ k) in
          absurd (false≢true (sym (ap (λ (n : Node). dirty (used z) unit_label n.under) is ∙ clean) ∙ d.1))
      by true (Ok t') (Ok s') f (inl w) k =
          let is : t'.built ≡ tree = node_is t'.built tree (sym (plain_tree t') ∙ k) in
          text_up ∙ (ap (λ r. tree_of (done_up r)) f ∙ (went_tree s' t' w ∙ ap (λ (n : Node). Ok (with_front s n)) is))

  -- ---- Without it

  tested_by : (m : Bool) → may h own (part External) (at_unit z) ≡ m → (t' : State)
      → and_then (if m then and_then (read_within h many_less 0 (produce External) (at_unit z)) (read_within h many_less 0 (repeat own (part External))) else Ok (at_unit z)) at_end ≡ Ok t'
      → may h own unit (at_first z) ≡ true
  unfolding opened
  tested_by true e t' k = ap (λ b. b || among (End ∷ []) (class_at h (at_first z) 0)) e
  tested_by false e t' k = or_right (may h own (part External) (at_first z)) (among (End ∷ []) (class_at h (at_first z) 0)) (ap (among (End ∷ [])) (end_class h z (ends_so (at_unit z) t' k)))

  tested : (t' : State) → rest ≡ Ok t' → may h own unit (at_first z) ≡ true
  unfolding read_within
  tested t' k = tested_by (may h own (part External) (at_unit z)) refl t' k

  pub front_gone : (tree : Node) → dirty (used z) unit_label tree.under ≡ false → tree.first ≡ 0 → read_of g (fronted z) ≡ Ok (with_front s tree) → read_of h z ≡ Ok tree
  unfolding opened closed
  front_gone tree clean zero_first e = by rest_up rest refl both_rest (sym text_up ∙ e)
    where
      up_is : (s' : State) → tree_of (done_up (Ok s')) ≡ Ok (with_front s tree) → s'.built ≡ with_front s tree
      up_is s' k = node_is s'.built (with_front s tree) k

      by : (ru r : Step) → rest ≡ r → Sim z g words (front_forest s) (behind_front s z) (at_unit z) ru r → tree_of (done_up ru) ≡ Ok (with_front s tree) → read_of h z ≡ Ok tree
      by (Err stop) r f m k = absurd (cc)
      by (Ok s') (Err stop) f m k =
          absurd (false≢true (sym (ap (λ (n : Node). dirty (behind_four (used z)) unit_label n.under) (up_is s' k) ∙ clean_up tree.under clean) ∙ m))
      by (Ok s') (Ok t') f (inr d) k =
          absurd (false≢true (sym (ap (λ (n : Node). dirty (behind_four (used z)) unit_label n.under) (up_is s' k) ∙ clean_up tree.under clean) ∙ d.0))
      by (Ok s') (Ok t') f (inl w) k =
          let is = up_is s' k in
          let label : t'.built.label ≡ tree.label = sym w.beside.label ∙ ap (λ (n : Node). n.label) is in
          let under : t'.built.under ≡ tree.under = behind_is s t'.built.under tree.under (sym w.beside.under ∙ ap (λ (n : Node). n.under) is) in
          text_plain
          ∙ (ap (λ c. tree_of (if c then done rest else Err (syntax 0))) (tested t' f)
          ∙ (ap (λ r. tree_of (done r)) f ∙ (plain_tree t'
          ∙ (ap (λ l. Ok (node_of l t'.built.first t'.built.under)) label ∙ (ap (λ k'. Ok (node_of tree.label k' t'.built.under)) (w.first ∙ sym zero_first)
          ∙ ap (λ f'. Ok (node_of tree.label tree.first f')) under)))))

pub behind_a_typedef : TextsAreReadBehindATypedef
behind_a_typedef s words z tree fits clean zero_first = (front_kept s words z fits tree clean, front_gone s words z fits tree clean zero_first)
