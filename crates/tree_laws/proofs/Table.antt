-- Each production reads to a node that agrees with the outline of binding.
use Rattle.std.proofs.Common.{ℕ, zero, suc, ◌+◌, ◌≡◌, Bool, true, false, ◌&&◌, ◌||◌, not, if◌then◌else◌, List, [], ◌∷◌, length, Ok, Err, inl, inr, refl, ap, arith}
use Rattle.std.proofs.lemmas.Bool.{false≢true, and_parts, or_cases, not-true}
use Rattle.c99_grammar.specs.declared.dialects.Edition.{Edition}
use Rattle.cs_base.specs.Token.{Token}
use Rattle.c99_tree.specs.declared.production.Production.{Production}
use Rattle.c99_tree.specs.declared.production.Production.TheVariants.{TranslationUnit, External, ExtRest, ExtTail, FunBody, Declaration, DeclRest, InitDecl, Sassert, Specs, Main, Mod, Qual, Word, StructSpec, SuRest, Members, Member, MemRest, Mdecl, EnumSpec, EnRest, Enumerators, Enumerator, Declarator, Pointer, Direct, Suffix, Bound, Params, Param, Pdecl, Pdirect, TypeName, Adecl, Adirect, Init, InitList, InitItem, Designator, Expr, Assign, Asgop, Cond, Lor, Land, Bor, Bxor, Band, Equal, Relate, Shift, Add, Mul, Cast, CastRest, Unary, SizeRest, SizeLit, Primary, Post, Args, Block, BlockItem, Statement, Sub, ForInit, AutoDecl, Attr, AttrItem, AttrWord, AsmName, Operand, Association, MemberPath, AsmPart, AsmOperand}
use Rattle.c99_grammar.specs.Classes.{among}
use Rattle.c99_grammar.specs.Items.{Item, many, end_of_text, own, Alternative, plain}
use Rattle.c99_grammar.specs.Standard.{c99, iso}
use Rattle.c99_grammar.proofs.StandardLemmas.{by_edition}
use Rattle.c99_read.specs.Sound.{never_empty, is_met, goal_has_token}
use Rattle.c99_read.specs.State.{State, class_at, opened}
use Rattle.c99_read.specs.Reading.{Goal, produce, repeat, Step, may, step, pick, read_within}
use Rattle.c99_read.proofs.Moves.{Moves, Moves-read_within}
use Rattle.c99_read.proofs.C99Sound.{iso-sound}
use Rattle.c_types.specs.Trees.{is_at}
use Rattle.tree_laws.specs.TypedefNames.{is_bodiless}
use Rattle.tree_laws.proofs.Parts.{first_body, second_body, second_test, asked_first, rest_of, front_of, classes_of}
use Rattle.tree_laws.proofs.TypedefClasses.{bare}
use Rattle.tree_laws.proofs.Rules.{labelled, is_simple, fine}
use Rattle.tree_laws.proofs.Goes.{After, Goes, Makes, Body}
use Rattle.tree_laws.proofs.TypedefSteps.{Reads, Grows, goes_step, closing, fine_body}
use Rattle.tree_laws.proofs.Taking.{primary_body, main_body}
use Rattle.tree_laws.proofs.Declaring.{init_body, parameter_body}
use Rattle.tree_laws.proofs.Listing.{listing, IsOdd, more_listed, many_listed, list_body as names_body}
use Rattle.tree_laws.proofs.Scoping.{is_whole, whole_fine, block_body, list_body, whole_step}
use Rattle.tree_laws.proofs.Enumerating.{enumerator_body}
use Rattle.tree_laws.proofs.Parentheses.{parentheses_body}

-- an alternative of items in which nothing is declared and no scope begins, or one that is a scope
abbrev pub is_fine : Production → ℕ → Alternative → Bool
is_fine p n a = is_simple p n && (not (is_at (labelled p n) Pdirect 2) && fine (labelled p n) a.body)

abbrev pub is_ok : Production → ℕ → Alternative → Bool
is_ok p n a = is_fine p n a || (is_whole p n && whole_fine (labelled p n) a.body)

abbrev pub all_ok : Production → ℕ → List Alternative → Bool
all_ok p n [] = true
all_ok p n (a ∷ more) = is_ok p n a && all_ok p (n + 1) more

abbrev pub later_of : List Alternative → List Alternative
later_of [] = []
later_of (a ∷ more) = more

abbrev pub nth_of : ℕ → List Alternative → Alternative
nth_of k [] = plain end_of_text
nth_of zero (a ∷ more) = a
nth_of (suc k) (a ∷ more) = nth_of k more

after_test : (P : State → Type 0) (b : Bool) (r r' : Step) → (b ≡ true → After P r) → After P r' → After P (if b then r else r')
after_test P true r r' m m' = m refl
after_test P false r r' m m' = m'

module _ (std : Edition) where
  module _ (toks : List Token) where
    module _ (below : ℕ → Goal → State → Step) (reads : Reads std toks below)
        (moves : (depth : ℕ) (goal : Goal) (s : State) → is_met goal ≡ true → Moves (goal_has_token goal) s (below depth goal s)) (depth : ℕ) where
      ok_fine : (p : Production) (n : ℕ) (a : Alternative) (s : State) → is_fine p n a ≡ true → After (Body std toks p n s) (step (iso std) below depth a.body (opened p n s))
      ok_fine p n a s k =
          let first = and_parts (is_simple p n) (not (is_at (labelled p n) Pdirect 2) && fine (labelled p n) a.body) k in
          let second = and_parts (not (is_at (labelled p n) Pdirect 2)) (fine (labelled p n) a.body) first.1 in
          (fine_body std) toks below reads depth p n a.body s first.0 (not-true (is_at (labelled p n) Pdirect 2) second.0) second.1

      ok_whole : (p : Production) (n : ℕ) (a : Alternative) (s : State) → (is_whole p n && whole_fine (labelled p n) a.body) ≡ true
          → After (Body std toks p n s) (step (iso std) below depth a.body (opened p n s))
      ok_whole p n a s k =
          let both = and_parts (is_whole p n) (whole_fine (labelled p n) a.body) k in
          (whole_step std) toks below reads moves p n depth a.body s both.0 both.1

      ok_body : (p : Production) (n : ℕ) (a : Alternative) (s : State) → is_ok p n a ≡ true → After (Body std toks p n s) (step (iso std) below depth a.body (opened p n s))
      ok_body p n a s h =
          elim (or_cases (is_fine p n a) (is_whole p n && whole_fine (labelled p n) a.body) h) [
            | inl k ↦ ok_fine p n a s k
            | inr k ↦ ok_whole p n a s k
          ]

      -- each alternative that may be read makes the items of a node
      abbrev pub Bodies : Production → ℕ → List Alternative → State → Type 0
      Bodies p n [] s = Unit {0}
      Bodies p n (a ∷ more) s =
          (may (iso std) a.test a.body s ≡ true → After (Body std toks p n s) (step (iso std) below depth a.body (opened p n s))) × Bodies p (n + 1) more s

      ok_bodies : (p : Production) (n : ℕ) (alternatives : List Alternative) (s : State) → all_ok p n alternatives ≡ true → Bodies p n alternatives s
      ok_bodies p n [] s h = tt
      ok_bodies p n (a ∷ more) s h =
          let both = and_parts (is_ok p n a) (all_ok p (n + 1) more) h in
          (λ m. ok_body p n a s both.0, ok_bodies p (n + 1) more s both.1)

      picked : (p : Production) (n : ℕ) (alternatives : List Alternative) (s : State) → Bodies p n alternatives s
          → After (Makes std toks p s) (pick (iso std) below depth p n alternatives s)
      picked p n [] s h = tt
      picked p n (a ∷ more) s h =
          after_test (Makes std toks p s) (may (iso std) a.test a.body s) _ _ (λ m. closing std toks below reads depth p n a.body s (h.0 m)) (picked p (n + 1) more s h.1)

      abbrev list_items : Item
      list_items = second_body (c99.table Suffix)

      abbrev block_items : Item
      block_items = first_body (c99.table Block)

      abbrev parenthesised : Item
      parenthesised = second_body (c99.table Pdirect)

      bare_test : (s : State) → may (iso std) (second_test (c99.table Pdirect)) parenthesised s ≡ true → among bare (class_at (iso std) s (s.at + 1)) ≡ true
      bare_test s m = (and_parts (among (asked_first (second_test (c99.table Pdirect))) (class_at (iso std) s s.at)) (among bare (class_at (iso std) s (s.at + 1))) m).1

      module _ (again : (depth first : ℕ) (s : State) → IsOdd s → After (Goes std toks listing first s) (below depth (repeat own more_listed) s)) where
        bodies_of : (p : Production) (s : State) → is_bodiless p ≡ true → Bodies p 1 ((iso std).table p) s
        bodies_of TranslationUnit s h = absurd (false≢true h)
        bodies_of External s h = absurd (false≢true h)
        bodies_of ExtRest s h = absurd (false≢true h)
        bodies_of ExtTail s h = absurd (false≢true h)
        bodies_of FunBody s h = absurd (false≢true h)
        bodies_of Primary s h = (λ m. primary_body std toks s, ok_bodies Primary 2 (later_of (c99.table Primary)) s refl)
        bodies_of Main s h = (
          λ m. ok_body Main 1 (nth_of 0 (c99.table Main)) s refl,
          (λ m. ok_body Main 2 (nth_of 1 (c99.table Main)) s refl, (λ m. ok_body Main 3 (nth_of 2 (c99.table Main)) s refl, (λ m. main_body std toks below reads depth s, tt))),
        )
        bodies_of Params s h = (λ m. names_body std toks below again depth s, (λ m. ok_body Params 2 (nth_of 1 (c99.table Params)) s refl, tt))
        bodies_of Param s h = (λ m. parameter_body std toks below reads depth s, tt)
        bodies_of InitDecl s h = (λ m. init_body std toks below reads depth s, tt)
        bodies_of Enumerator s h = (λ m. enumerator_body std toks below reads depth s, tt)
        bodies_of Suffix s h = (
          λ m. ok_body Suffix 1 (nth_of 0 (c99.table Suffix)) s refl,
          (
            λ m. list_body std toks below reads depth s (classes_of (front_of list_items)) (classes_of (rest_of (rest_of (rest_of (rest_of (rest_of list_items))))))
                (front_of (rest_of (rest_of list_items))) refl,
            tt,
          ),
        )
        bodies_of Block s h = (
          λ m. block_body std toks below reads depth s (classes_of (front_of block_items)) (classes_of (rest_of (rest_of (rest_of (rest_of block_items)))))
              (front_of (rest_of (rest_of block_items))) refl,
          tt,
        )
        bodies_of Pdirect s h = (
          λ m. ok_body Pdirect 1 (nth_of 0 (c99.table Pdirect)) s refl,
          (
            λ m. parentheses_body std toks below reads moves depth s (classes_of (front_of parenthesised)) (rest_of parenthesised) (bare_test s m) refl refl refl,
            (λ m. ok_body Pdirect 3 (nth_of 2 (c99.table Pdirect)) s refl, tt),
          ),
        )
        bodies_of Declaration s h = ok_bodies Declaration 1 ((iso std).table Declaration) s (by_edition (λ v. all_ok Declaration 1 ((iso v).table Declaration) ≡ true) refl refl std)
        bodies_of DeclRest s h = ok_bodies DeclRest 1 (c99.table DeclRest) s refl
        bodies_of Sassert s h = ok_bodies Sassert 1 ((iso std).table Sassert) s (by_edition (λ v. all_ok Sassert 1 ((iso v).table Sassert) ≡ true) refl refl std)
        bodies_of Specs s h = ok_bodies Specs 1 (c99.table Specs) s refl
        bodies_of Mod s h = ok_bodies Mod 1 ((iso std).table Mod) s (by_edition (λ v. all_ok Mod 1 ((iso v).table Mod) ≡ true) refl refl std)
        bodies_of Qual s h = ok_bodies Qual 1 (c99.table Qual) s refl
        bodies_of Word s h = ok_bodies Word 1 (c99.table Word) s refl
        bodies_of StructSpec s h = ok_bodies StructSpec 1 (c99.table StructSpec) s refl
        bodies_of SuRest s h = ok_bodies SuRest 1 (c99.table SuRest) s refl
        bodies_of Members s h = ok_bodies Members 1 (c99.table Members) s refl
        bodies_of Member s h = ok_bodies Member 1 ((iso std).table Member) s (by_edition (λ v. all_ok Member 1 ((iso v).table Member) ≡ true) refl refl std)
        bodies_of MemRest s h = ok_bodies MemRest 1 ((iso std).table MemRest) s (by_edition (λ v. all_ok MemRest 1 ((iso v).table MemRest) ≡ true) refl refl std)
        bodies_of Mdecl s h = ok_bodies Mdecl 1 (c99.table Mdecl) s refl
        bodies_of EnumSpec s h = ok_bodies EnumSpec 1 (c99.table EnumSpec) s refl
        bodies_of EnRest s h = ok_bodies EnRest 1 (c99.table EnRest) s refl
        bodies_of Enumerators s h = ok_bodies Enumerators 1 (c99.table Enumerators) s refl
        bodies_of Declarator s h = ok_bodies Declarator 1 (c99.table Declarator) s refl
        bodies_of Pointer s h = ok_bodies Pointer 1 (c99.table Pointer) s refl
        bodies_of Direct s h = ok_bodies Direct 1 (c99.table Direct) s refl
        bodies_of Bound s h = ok_bodies Bound 1 (c99.table Bound) s refl
        bodies_of Pdecl s h = ok_bodies Pdecl 1 (c99.table Pdecl) s refl
        bodies_of TypeName s h = ok_bodies TypeName 1 (c99.table TypeName) s refl
        bodies_of Adecl s h = ok_bodies Adecl 1 (c99.table Adecl) s refl
        bodies_of Adirect s h = ok_bodies Adirect 1 (c99.table Adirect) s refl
        bodies_of Init s h = ok_bodies Init 1 (c99.table Init) s refl
        bodies_of InitList s h = ok_bodies InitList 1 (c99.table InitList) s refl
        bodies_of InitItem s h = ok_bodies InitItem 1 (c99.table InitItem) s refl
        bodies_of Designator s h = ok_bodies Designator 1 (c99.table Designator) s refl
        bodies_of Expr s h = ok_bodies Expr 1 (c99.table Expr) s refl
        bodies_of Assign s h = ok_bodies Assign 1 (c99.table Assign) s refl
        bodies_of Asgop s h = ok_bodies Asgop 1 (c99.table Asgop) s refl
        bodies_of Cond s h = ok_bodies Cond 1 (c99.table Cond) s refl
        bodies_of Lor s h = ok_bodies Lor 1 (c99.table Lor) s refl
        bodies_of Land s h = ok_bodies Land 1 (c99.table Land) s refl
        bodies_of Bor s h = ok_bodies Bor 1 (c99.table Bor) s refl
        bodies_of Bxor s h = ok_bodies Bxor 1 (c99.table Bxor) s refl
        bodies_of Band s h = ok_bodies Band 1 (c99.table Band) s refl
        bodies_of Equal s h = ok_bodies Equal 1 (c99.table Equal) s refl
        bodies_of Relate s h = ok_bodies Relate 1 (c99.table Relate) s refl
        bodies_of Shift s h = ok_bodies Shift 1 (c99.table Shift) s refl
        bodies_of Add s h = ok_bodies Add 1 (c99.table Add) s refl
        bodies_of Mul s h = ok_bodies Mul 1 (c99.table Mul) s refl
        bodies_of Cast s h = ok_bodies Cast 1 (c99.table Cast) s refl
        bodies_of CastRest s h = ok_bodies CastRest 1 (c99.table CastRest) s refl
        bodies_of Unary s h = ok_bodies Unary 1 (c99.table Unary) s refl
        bodies_of SizeRest s h = ok_bodies SizeRest 1 (c99.table SizeRest) s refl
        bodies_of SizeLit s h = ok_bodies SizeLit 1 (c99.table SizeLit) s refl
        bodies_of Post s h = ok_bodies Post 1 (c99.table Post) s refl
        bodies_of Args s h = ok_bodies Args 1 (c99.table Args) s refl
        bodies_of BlockItem s h = ok_bodies BlockItem 1 (c99.table BlockItem) s refl
        bodies_of Statement s h = ok_bodies Statement 1 (c99.table Statement) s refl
        bodies_of Sub s h = ok_bodies Sub 1 (c99.table Sub) s refl
        bodies_of ForInit s h = ok_bodies ForInit 1 (c99.table ForInit) s refl
        bodies_of AutoDecl s h = ok_bodies AutoDecl 1 (c99.table AutoDecl) s refl
        bodies_of Attr s h = ok_bodies Attr 1 (c99.table Attr) s refl
        bodies_of AttrItem s h = ok_bodies AttrItem 1 (c99.table AttrItem) s refl
        bodies_of AttrWord s h = ok_bodies AttrWord 1 (c99.table AttrWord) s refl
        bodies_of AsmName s h = ok_bodies AsmName 1 (c99.table AsmName) s refl
        bodies_of Operand s h = ok_bodies Operand 1 (c99.table Operand) s refl
        bodies_of Association s h = ok_bodies Association 1 (c99.table Association) s refl
        bodies_of MemberPath s h = ok_bodies MemberPath 1 (c99.table MemberPath) s refl
        bodies_of AsmPart s h = ok_bodies AsmPart 1 (c99.table AsmPart) s refl
        bodies_of AsmOperand s h = ok_bodies AsmOperand 1 (c99.table AsmOperand) s refl

    -- ---- Reading, with so many steps inside each other

    pub listed_within : (fuel depth first : ℕ) (s : State) → IsOdd s → After (Goes std toks listing first s) (read_within (iso std) fuel depth (repeat own more_listed) s)
    unfolding read_within
    listed_within zero depth first s odd = tt
    listed_within (suc fuel) depth first s odd = many_listed std toks (read_within (iso std) fuel) (λ d f s' o. listed_within fuel d f s' o) first depth s odd

    pub moves_within : (fuel depth : ℕ) (goal : Goal) (s : State) → is_met goal ≡ true → Moves (goal_has_token goal) s (read_within (iso std) fuel depth goal s)
    moves_within fuel depth goal s met = Moves-read_within (iso std) (iso-sound std) fuel depth goal s met

    grown : (p : Production) (s : State) (r : Step) → After (Makes std toks p s) r → Moves (never_empty p) s r → After (λ s'. Makes std toks p s s' × Grows p s s') r
    grown p s (Err stop) m g = tt
    grown p s (Ok s') m g = (m, λ h. (let f = g.1 h in let e = ap length m.same_text in omega arith))

    pub reads_within : (fuel : ℕ) → Reads std toks (read_within (iso std) fuel)
    unfolding read_within
    reads_within zero = record { made = λ depth p s h. tt; more = λ depth t a l first s h i. tt }
    reads_within (suc fuel) = record {
      made = λ depth p s h.
          grown p s (pick (iso std) (read_within (iso std) fuel) depth p 1 ((iso std).table p) s)
          (picked (read_within (iso std) fuel) (reads_within fuel) (moves_within fuel) depth p 1 ((iso std).table p) s
          (bodies_of (read_within (iso std) fuel) (reads_within fuel) (moves_within fuel) depth (λ d f s' o. listed_within fuel d f s' o) p s h))
          (moves_within (suc fuel) depth (produce p) s refl);
      more = λ depth t a l first s h i. goes_step std toks (read_within (iso std) fuel) (reads_within fuel) (many t a) l first depth s h i;
    }

    -- what the alternatives of each production make
    pub bodies_within : (fuel depth : ℕ) (p : Production) (s : State) → is_bodiless p ≡ true
        → Bodies (read_within (iso std) fuel) (reads_within fuel) (moves_within fuel) depth p 1 ((iso std).table p) s
    bodies_within fuel depth p s h =
        bodies_of (read_within (iso std) fuel) (reads_within fuel) (moves_within fuel) depth (λ d f s' o. listed_within fuel d f s' o) p s h
