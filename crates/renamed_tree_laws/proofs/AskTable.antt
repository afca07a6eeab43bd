-- What is asked along each production of C99, where the second text's names agree with the tree.
use Rattle.std.proofs.Common.{ℕ, zero, suc, ◌+◌, ◌≡◌, Bool, true, false, ◌&&◌, not, List, [], ◌∷◌, inl, inr, refl}
use Rattle.std.proofs.lemmas.Bool.{false≢true, and_parts, or_cases, not-true}
use Rattle.c99_grammar.specs.declared.dialects.Edition.{Edition}
use Rattle.cs_base.specs.Token.{Token}
use Rattle.c99_tree.specs.declared.production.Production.{Production}
use Rattle.c99_tree.specs.declared.production.Production.TheVariants.{TranslationUnit, External, ExtRest, ExtTail, FunBody, Declaration, DeclRest, InitDecl, Sassert, Specs, Main, Mod, Qual, Word, StructSpec, SuRest, Members, Member, MemRest, Mdecl, EnumSpec, EnRest, Enumerators, Enumerator, Declarator, Pointer, Direct, Suffix, Bound, Params, Param, Pdecl, Pdirect, TypeName, Adecl, Adirect, Init, InitList, InitItem, Designator, Expr, Assign, Asgop, Cond, Lor, Land, Bor, Bxor, Band, Equal, Relate, Shift, Add, Mul, Cast, CastRest, Unary, SizeRest, SizeLit, Primary, Post, Args, Block, BlockItem, Statement, Sub, ForInit, AutoDecl, Attr, AttrItem, AttrWord, AsmName, Operand, Association, MemberPath, AsmPart, AsmOperand}
use Rattle.c99_grammar.specs.Items.{Item, many, own, Alternative}
use Rattle.c99_grammar.specs.Standard.{c99, iso}
use Rattle.c99_grammar.proofs.StandardLemmas.{by_edition}
use Rattle.c99_read.specs.Sound.{is_met, goal_has_token}
use Rattle.c99_read.specs.State.{State, base_at, opened}
use Rattle.c99_read.specs.Reading.{Goal, repeat, Step, step, read_within}
use Rattle.c99_read.proofs.Moves.{Moves}
use Rattle.c_types.specs.Trees.{is_at}
use Rattle.tree_laws.specs.TypedefNames.{is_bodiless}
use Rattle.tree_laws.proofs.Parts.{first_body, second_body, rest_of, front_of, classes_of}
use Rattle.tree_laws.proofs.Rules.{labelled, is_simple, fine}
use Rattle.tree_laws.proofs.Goes.{After, IsIn, Goes}
use Rattle.tree_laws.proofs.TypedefSteps.{Reads}
use Rattle.tree_laws.proofs.Listing.{listing, IsOdd, more_listed}
use Rattle.tree_laws.proofs.Scoping.{is_whole, whole_fine}
use Rattle.tree_laws.proofs.Table.{is_fine, is_ok, all_ok, later_of, nth_of, listed_within, moves_within, reads_within, bodies_within}
use Rattle.renamed_tree_laws.specs.Along.{along_within}
use Rattle.renamed_tree_laws.proofs.Asking.{of_token, of_node, Asks, along, Asked, asks_step, BodyAsks, fine_asks, AskedBodies, picked_asks}
use Rattle.renamed_tree_laws.proofs.KindTokens.{primary_asks, main_asks, many_asks, list_asks as names_asks}
use Rattle.renamed_tree_laws.proofs.NamingTokens.{init_asks, parameter_asks, enumerator_asks, parentheses_asks}
use Rattle.renamed_tree_laws.proofs.ScopeTokens.{block_asks, list_asks, whole_asks}

whole_plain : (p : Production) (n : ℕ) → is_whole p n ≡ true → is_at (labelled p n) Pdirect 2 ≡ false
whole_plain Pdirect n h = absurd (false≢true h)
whole_plain _ n h = refl

module _ (std : Edition) where
  module _ (a b : List Token) (same : (k : ℕ) → base_at (iso std) a k ≡ base_at (iso std) b k) where
    module _ (below : ℕ → Goal → State → Step) (along_below : ℕ → Goal → State → Bool) (reads : Reads std a below) (asked : Asked std a b below along_below)
        (moves : (depth : ℕ) (goal : Goal) (s : State) → is_met goal ≡ true → Moves (goal_has_token goal) s (below depth goal s)) (depth : ℕ) where
      -- what is asked along one alternative
      abbrev AlongBody : Production → ℕ → Item → State → Type 0
      AlongBody p n body s = After (BodyAsks std a b p n (of_node std a b p n s && along std a b below along_below depth body (opened p n s)) s) (step (iso std) below depth body (opened p n s))

      ok_fine : (p : Production) (n : ℕ) (x : Alternative) (s : State) → is_fine p n x ≡ true → AlongBody p n x.body s
      ok_fine p n x s k =
          let first = and_parts (is_simple p n) (not (is_at (labelled p n) Pdirect 2) && fine (labelled p n) x.body) k in
          let second = and_parts (not (is_at (labelled p n) Pdirect 2)) (fine (labelled p n) x.body) first.1 in
          (fine_asks std) a b below along_below reads asked depth p n x.body s first.0 (not-true (is_at (labelled p n) Pdirect 2) second.0) second.1

      ok_whole : (p : Production) (n : ℕ) (x : Alternative) (s : State) → (is_whole p n && whole_fine (labelled p n) x.body) ≡ true → AlongBody p n x.body s
      ok_whole p n x s k =
          let both = and_parts (is_whole p n) (whole_fine (labelled p n) x.body) k in
          (whole_asks std) a b below along_below reads asked moves p n depth x.body s both.0 (whole_plain p n both.0) both.1

      ok_asked : (p : Production) (n : ℕ) (x : Alternative) (s : State) → is_ok p n x ≡ true → AlongBody p n x.body s
      ok_asked p n x s h =
          elim (or_cases (is_fine p n x) (is_whole p n && whole_fine (labelled p n) x.body) h) [
            | inl k ↦ ok_fine p n x s k
            | inr k ↦ ok_whole p n x s k
          ]

      abbrev AllAsked : Production → ℕ → List Alternative → State → Type 0
      AllAsked p n alternatives s = AskedBodies std a b below along_below reads asked moves depth p n alternatives s

      ok_asks : (p : Production) (n : ℕ) (alternatives : List Alternative) (s : State) → all_ok p n alternatives ≡ true → AllAsked p n alternatives s
      ok_asks p n [] s h = tt
      ok_asks p n (x ∷ more) s h =
          let both = and_parts (is_ok p n x) (all_ok p (n + 1) more) h in
          (λ m. ok_asked p n x s both.0, ok_asks p (n + 1) more s both.1)

      abbrev list_items : Item
      list_items = second_body (c99.table Suffix)

      abbrev block_items : Item
      block_items = first_body (c99.table Block)

      abbrev parenthesised : Item
      parenthesised = second_body (c99.table Pdirect)

      module _ (again : (depth first : ℕ) (s : State) → IsOdd s → After (Goes std a listing first s) (below depth (repeat own more_listed) s))
          (again_asks : (depth first : ℕ) (s : State) → IsOdd s → IsIn listing first s
          → After (Asks std a b listing (along_below depth (repeat own more_listed) s) s) (below depth (repeat own more_listed) s)) where
        asked_of : (p : Production) (s : State) → is_bodiless p ≡ true → AllAsked p 1 ((iso std).table p) s
        asked_of TranslationUnit s h = absurd (false≢true h)
        asked_of External s h = absurd (false≢true h)
        asked_of ExtRest s h = absurd (false≢true h)
        asked_of ExtTail s h = absurd (false≢true h)
        asked_of FunBody s h = absurd (false≢true h)
        asked_of Primary s h = (λ m. primary_asks std a b s, ok_asks Primary 2 (later_of (c99.table Primary)) s refl)
        asked_of Main s h = (
          λ m. ok_asked Main 1 (nth_of 0 (c99.table Main)) s refl,
          (λ m. ok_asked Main 2 (nth_of 1 (c99.table Main)) s refl, (λ m. ok_asked Main 3 (nth_of 2 (c99.table Main)) s refl, (λ m. main_asks std a b below along_below reads asked depth s, tt))),
        )
        asked_of Params s h = (λ m. names_asks std a b same below along_below again again_asks depth s, (λ m. ok_asked Params 2 (nth_of 1 (c99.table Params)) s refl, tt))
        asked_of Param s h = (λ m. parameter_asks std a b below along_below reads asked depth s, tt)
        asked_of InitDecl s h = (λ m. init_asks std a b below along_below reads asked depth s, tt)
        asked_of Enumerator s h = (λ m. enumerator_asks std a b below along_below reads asked depth s, tt)
        asked_of Suffix s h = (
          λ m. ok_asked Suffix 1 (nth_of 0 (c99.table Suffix)) s refl,
          (
            λ m. list_asks std a b below along_below reads asked depth s (classes_of (front_of list_items)) (classes_of (rest_of (rest_of (rest_of (rest_of (rest_of list_items))))))
                (front_of (rest_of (rest_of list_items))) refl,
            tt,
          ),
        )
        asked_of Block s h = (
          λ m. block_asks std a b below along_below reads asked depth s (classes_of (front_of block_items)) (classes_of (rest_of (rest_of (rest_of (rest_of block_items)))))
              (front_of (rest_of (rest_of block_items))) refl,
          tt,
        )
        asked_of Pdirect s h = (
          λ m. ok_asked Pdirect 1 (nth_of 0 (c99.table Pdirect)) s refl,
          (
            λ m. parentheses_asks std a b below along_below reads asked depth moves (classes_of (front_of parenthesised)) (rest_of parenthesised) s refl refl refl,
            (λ m. ok_asked Pdirect 3 (nth_of 2 (c99.table Pdirect)) s refl, tt),
          ),
        )
        asked_of Declaration s h = ok_asks Declaration 1 ((iso std).table Declaration) s (by_edition (λ v. all_ok Declaration 1 ((iso v).table Declaration) ≡ true) refl refl std)
        asked_of DeclRest s h = ok_asks DeclRest 1 (c99.table DeclRest) s refl
        asked_of Sassert s h = ok_asks Sassert 1 ((iso std).table Sassert) s (by_edition (λ v. all_ok Sassert 1 ((iso v).table Sassert) ≡ true) refl refl std)
        asked_of Specs s h = ok_asks Specs 1 (c99.table Specs) s refl
        asked_of Mod s h = ok_asks Mod 1 ((iso std).table Mod) s (by_edition (λ v. all_ok Mod 1 ((iso v).table Mod) ≡ true) refl refl std)
        asked_of Qual s h = ok_asks Qual 1 (c99.table Qual) s refl
        asked_of Word s h = ok_asks Word 1 (c99.table Word) s refl
        asked_of StructSpec s h = ok_asks StructSpec 1 (c99.table StructSpec) s refl
        asked_of SuRest s h = ok_asks SuRest 1 (c99.table SuRest) s refl
        asked_of Members s h = ok_asks Members 1 (c99.table Members) s refl
        asked_of Member s h = ok_asks Member 1 ((iso std).table Member) s (by_edition (λ v. all_ok Member 1 ((iso v).table Member) ≡ true) refl refl std)
        asked_of MemRest s h = ok_asks MemRest 1 ((iso std).table MemRest) s (by_edition (λ v. all_ok MemRest 1 ((iso v).table MemRest) ≡ true) refl refl std)
        asked_of Mdecl s h = ok_asks Mdecl 1 (c99.table Mdecl) s refl
        asked_of EnumSpec s h = ok_asks EnumSpec 1 (c99.table EnumSpec) s refl
        asked_of EnRest s h = ok_asks EnRest 1 (c99.table EnRest) s refl
        asked_of Enumerators s h = ok_asks Enumerators 1 (c99.table Enumerators) s refl
        asked_of Declarator s h = ok_asks Declarator 1 (c99.table Declarator) s refl
        asked_of Pointer s h = ok_asks Pointer 1 (c99.table Pointer) s refl
        asked_of Direct s h = ok_asks Direct 1 (c99.table Direct) s refl
        asked_of Bound s h = ok_asks Bound 1 (c99.table Bound) s refl
        asked_of Pdecl s h = ok_asks Pdecl 1 (c99.table Pdecl) s refl
        asked_of TypeName s h = ok_asks TypeName 1 (c99.table TypeName) s refl
        asked_of Adecl s h = ok_asks Adecl 1 (c99.table Adecl) s refl
        asked_of Adirect s h = ok_asks Adirect 1 (c99.table Adirect) s refl
        asked_of Init s h = ok_asks Init 1 (c99.table Init) s refl
        asked_of InitList s h = ok_asks InitList 1 (c99.table InitList) s refl
        asked_of InitItem s h = ok_asks InitItem 1 (c99.table InitItem) s refl
        asked_of Designator s h = ok_asks Designator 1 (c99.table Designator) s refl
        asked_of Expr s h = ok_asks Expr 1 (c99.table Expr) s refl
        asked_of Assign s h = ok_asks Assign 1 (c99.table Assign) s refl
        asked_of Asgop s h = ok_asks Asgop 1 (c99.table Asgop) s refl
        asked_of Cond s h = ok_asks Cond 1 (c99.table Cond) s refl
        asked_of Lor s h = ok_asks Lor 1 (c99.table Lor) s refl
        asked_of Land s h = ok_asks Land 1 (c99.table Land) s refl
        asked_of Bor s h = ok_asks Bor 1 (c99.table Bor) s refl
        asked_of Bxor s h = ok_asks Bxor 1 (c99.table Bxor) s refl
        asked_of Band s h = ok_asks Band 1 (c99.table Band) s refl
        asked_of Equal s h = ok_asks Equal 1 (c99.table Equal) s refl
        asked_of Relate s h = ok_asks Relate 1 (c99.table Relate) s refl
        asked_of Shift s h = ok_asks Shift 1 (c99.table Shift) s refl
        asked_of Add s h = ok_asks Add 1 (c99.table Add) s refl
        asked_of Mul s h = ok_asks Mul 1 (c99.table Mul) s refl
        asked_of Cast s h = ok_asks Cast 1 (c99.table Cast) s refl
        asked_of CastRest s h = ok_asks CastRest 1 (c99.table CastRest) s refl
        asked_of Unary s h = ok_asks Unary 1 (c99.table Unary) s refl
        asked_of SizeRest s h = ok_asks SizeRest 1 (c99.table SizeRest) s refl
        asked_of SizeLit s h = ok_asks SizeLit 1 (c99.table SizeLit) s refl
        asked_of Post s h = ok_asks Post 1 (c99.table Post) s refl
        asked_of Args s h = ok_asks Args 1 (c99.table Args) s refl
        asked_of BlockItem s h = ok_asks BlockItem 1 (c99.table BlockItem) s refl
        asked_of Statement s h = ok_asks Statement 1 (c99.table Statement) s refl
        asked_of Sub s h = ok_asks Sub 1 (c99.table Sub) s refl
        asked_of ForInit s h = ok_asks ForInit 1 (c99.table ForInit) s refl
        asked_of AutoDecl s h = ok_asks AutoDecl 1 (c99.table AutoDecl) s refl
        asked_of Attr s h = ok_asks Attr 1 (c99.table Attr) s refl
        asked_of AttrItem s h = ok_asks AttrItem 1 (c99.table AttrItem) s refl
        asked_of AttrWord s h = ok_asks AttrWord 1 (c99.table AttrWord) s refl
        asked_of AsmName s h = ok_asks AsmName 1 (c99.table AsmName) s refl
        asked_of Operand s h = ok_asks Operand 1 (c99.table Operand) s refl
        asked_of Association s h = ok_asks Association 1 (c99.table Association) s refl
        asked_of MemberPath s h = ok_asks MemberPath 1 (c99.table MemberPath) s refl
        asked_of AsmPart s h = ok_asks AsmPart 1 (c99.table AsmPart) s refl
        asked_of AsmOperand s h = ok_asks AsmOperand 1 (c99.table AsmOperand) s refl

    -- ---- Reading, with so many steps inside each other

    abbrev pub along_fuel : ℕ → ℕ → Goal → State → Bool
    along_fuel fuel = along_within (iso std) (of_token std a b) (of_node std a b) fuel

    listed_asks : (fuel depth first : ℕ) (s : State) → IsOdd s → IsIn listing first s
        → After (Asks std a b listing (along_fuel fuel depth (repeat own more_listed) s) s) (read_within (iso std) fuel depth (repeat own more_listed) s)
    unfolding read_within along_within
    listed_asks zero depth first s odd i = tt
    listed_asks (suc fuel) depth first s odd i =
        (many_asks std) a b same (read_within (iso std) fuel) (along_fuel fuel) (λ d f s' o. listed_within std a fuel d f s' o) (λ d f s' o i'. listed_asks fuel d f s' o i') first depth s odd i

    pub asked_within : (fuel : ℕ) → Asked std a b (read_within (iso std) fuel) (along_fuel fuel)
    unfolding read_within along_within
    asked_within zero = record { made = λ depth p l s h. tt; more = λ depth t item l first s h i. tt }
    asked_within (suc fuel) = record {
      made = λ depth p l s h.
          (picked_asks std) a b (read_within (iso std) fuel) (along_fuel fuel) (reads_within std a fuel) (asked_within fuel) (moves_within std a fuel) depth p 1 ((iso std).table p) s l
          (bodies_within std a fuel depth p s h)
          (asked_of (read_within (iso std) fuel) (along_fuel fuel) (reads_within std a fuel) (asked_within fuel) (moves_within std a fuel) depth
          (λ d f s' o. listed_within std a fuel d f s' o) (λ d f s' o i'. listed_asks fuel d f s' o i') p s h);
      more = λ depth t item l first s h i. asks_step std a b (read_within (iso std) fuel) (along_fuel fuel) (reads_within std a fuel) (asked_within fuel) (many t item) l first depth s h i;
    }
