-- The rows of the table: those that both standards have, and those that differ.
use Rattle.std.proofs.Common.{ℕ, zero, suc, ◌+◌, ◌≡◌, Bool, true, false, ◌&&◌, ◌||◌, not, if◌then◌else◌, List, [], ◌∷◌, Result, Ok, Err, inl, inr, refl, sym, ap, subst, ◌∙◌}
use Rattle.std.proofs.lemmas.Bool.{and_parts, and_from, or_parts, cases_Bool, not-true, false≢true, cond-true, cond-false}
use Rattle.cs_base.specs.Token.{Token}
use Rattle.c99_grammar.specs.declared.dialects.Edition.TheVariants.{C99, C11}
use Rattle.c99_tree.specs.Tree.{Forest, none, Node, node_of, inner, lone}
use Rattle.c99_tree.specs.declared.production.Production.{Production}
use Rattle.c99_tree.specs.declared.production.Production.TheVariants.{TranslationUnit, External, ExtRest, ExtTail, FunBody, Declaration, DeclRest, InitDecl, Sassert, Specs, Main, Mod, Qual, Word, StructSpec, SuRest, Members, Member, MemRest, Mdecl, EnumSpec, EnRest, Enumerators, Enumerator, Declarator, Pointer, Direct, Suffix, Bound, Params, Param, Pdecl, Pdirect, TypeName, Adecl, Adirect, Init, InitList, InitItem, Designator, Expr, Assign, Asgop, Cond, Lor, Land, Bor, Bxor, Band, Equal, Relate, Shift, Add, Mul, Cast, CastRest, Unary, SizeRest, SizeLit, Primary, Post, Args, Block, BlockItem, Statement, Sub, ForInit, AutoDecl, Attr, AttrItem, AttrWord, AsmName, Operand, Association, MemberPath, AsmPart, AsmOperand}
use Rattle.c99_grammar.specs.declared.classes.Class.{Class}
use Rattle.c99_grammar.specs.declared.classes.Class.TheVariants.{Comma, Semicolon, Colon, StaticAssert, Noreturn, Typedef, Extern, Static, Auto, Register, Inline, LeftParen, Star, Identifier, TypedefName}
use Rattle.c99_grammar.specs.Classes.{is_same, among}
use Rattle.c99_grammar.specs.Grammar.{table, externals, declarations, modifiers, member_lines}
use Rattle.c99_grammar.specs.Items.{Item, part, ◌·◌, many, tok, own}
use Rattle.c99_read.specs.Sound.{is_met}
use Rattle.c99_read.specs.State.{State, class_at, opened, closed}
use Rattle.c99_read.specs.Reading.{Stop, syntax, Goal, produce, repeat, Step, and_then, may, step, alternative, pick, read_within, whole, steps_for, tree_of, at_first}
use Rattle.c99_read.proofs.C99Sound.{iso-sound}
use Rattle.c99_read.proofs.Suffices.{whole-runs}
use Rattle.tree_laws.specs.Narrowed.{number, is_member, is_line, is_rest, narrowed, narrowed_node, has_no_added_word, TextsOfC99AreReadByC11}
use Rattle.tree_laws.proofs.StandardClasses.{c99, c11, fine, class_fine, part_fits, fits}
use Rattle.tree_laws.proofs.Standing.{is_members, only, kids_within, is_good, part_formed, formed_lone, part_free}
use Rattle.tree_laws.proofs.StandardTrees.{lone-narrowed}
use Rattle.tree_laws.proofs.Lines.{no_semicolon, opened_none, members_item, One, closed_specs, in_line, behind, held_lines, stands_of, twice, line_closed, at_behind, seen_behind}
use Rattle.tree_laws.proofs.StandardSteps.{labelled, Context, seen, At, Sim, sim_if, sim_then, sim_may, Numbers, goal_fits, at_opened, opened_seen, sim_step, sim_alternative, sim_pick}

shared_numbers_of : (p : Production) → (m : ℕ) → is_member p ≡ false → number p m ≡ m → is_line (labelled p m) ≡ false
shared_numbers_of p m e h = rw e refl

-- a member is read where one starts
refused_within : (fuel depth : ℕ) (s : State) → may c99 own (part Mdecl) s ≡ false → (stop : Stop) × (read_within c99 fuel depth (produce Mdecl) s ≡ Err stop)
unfolding read_within
refused_within zero depth s h = (syntax s.at, refl)
refused_within (suc fuel) depth s h =
    let c : Class = class_at c99 s s.at in
    let all = (or_parts (among (LeftParen ∷ Star ∷ Colon ∷ Identifier ∷ TypedefName ∷ []) c) (false && among (Colon ∷ []) (class_at c99 s (s.at + 1))) h).0 in
    let one = or_parts (is_same LeftParen c) _ all in
    let two = or_parts (is_same Star c) _ one.1 in
    let three = or_parts (is_same Colon c) _ two.1 in
    let colon : among (Colon ∷ []) c ≡ false = rw three.0 refl in
    let declarator : (among (LeftParen ∷ Star ∷ Identifier ∷ TypedefName ∷ []) c || (false && among (Colon ∷ []) (class_at c99 s (s.at + 1)))) ≡ false = rw (one.0, two.0, three.1) refl in
    (syntax s.at, cond-false (among (Colon ∷ []) c) _ _ colon ∙ cond-false (among (LeftParen ∷ Star ∷ Identifier ∷ TypedefName ∷ []) c || (false && among (Colon ∷ []) (class_at c99 s (s.at + 1)))) _ _ declarator)

same_run : (c : Context) (toks : List Token) (plain : has_no_added_word toks ≡ true) (strict : Bool) (r r' q : Step) → r' ≡ q → Sim toks plain strict c r q → Sim toks plain strict c r r'
same_run c toks plain strict r r' q e m = subst (Sim toks plain strict c r) (sym e) m

module _ (toks : List Token) (plain : has_no_added_word toks ≡ true) (strict : Bool) where
  pub shared_numbers : (c : Context) (p : Production) (m : ℕ) → is_member p ≡ false → number p m ≡ m → is_rest p ≡ false → only c.wide.production p ≡ true
      → Numbers toks plain strict c p m m
  shared_numbers c p m e h r holder = record { numbered = h; no_line = rw e refl; no_rest = r; stands = holder; held = λ l. e }

  plain_state : (c : Context) (s : State) → At toks plain strict c s → has_no_added_word s.toks ≡ true
  plain_state c s at = ap has_no_added_word at.text ∙ plain

  -- no declaration of an assertion begins here, and no word `_Noreturn` stands here
  pub no_assertion : (c : Context) (s : State) → At toks plain strict c s → may c11 own (part Sassert) s ≡ false
  no_assertion c s at =
      none_of (class_at c11 s s.at) (class_fine s s.built (plain_state c s at) s.at)
    where
      none_of : (k : Class) → fine k ≡ true → (among (StaticAssert ∷ []) k || (false && among (Colon ∷ []) (class_at c11 s (s.at + 1)))) ≡ false
      none_of k f = let e = (or_parts (is_same Noreturn k) (among (StaticAssert ∷ []) k) (not-true (among (Noreturn ∷ StaticAssert ∷ []) k) f)).1 in rw e refl

  pub no_noreturn : (c : Context) (s : State) → At toks plain strict c s → may c11 own (tok Noreturn) s ≡ false
  no_noreturn c s at =
      none_of (class_at c11 s s.at) (class_fine s s.built (plain_state c s at) s.at)
    where
      none_of : (k : Class) → fine k ≡ true → among (Noreturn ∷ []) k ≡ false
      none_of k f = let e = (or_parts (is_same Noreturn k) (among (StaticAssert ∷ []) k) (not-true (among (Noreturn ∷ StaticAssert ∷ []) k) f)).0 in rw e refl

  -- what C11 adds in between is not taken
  passed : (c : Context) (r r' q : Step) (b : Bool) → b ≡ false → Sim toks plain strict c r q → Sim toks plain strict c r (if b then r' else q)
  passed c r r' q b e m = subst (λ x. Sim toks plain strict c r (if x then r' else q)) (sym e) m

  module _ (below : ℕ → Goal → State → Step)
      (same : (c : Context) (depth : ℕ) (goal : Goal) (s : State) → goal_fits toks plain strict c goal ≡ true → At toks plain strict c s
      → Sim toks plain strict c (below depth goal (seen c s)) (whole c11 depth goal s))
      (refused : (depth : ℕ) (s : State) → may c99 own (part Mdecl) s ≡ false → (stop : Stop) × (below depth (produce Mdecl) s ≡ Err stop)) where
    one_more : (c : Context) (p : Production) (n m : ℕ) (body : Item) (depth : ℕ) (s : State) (q q' : Step) → Numbers toks plain strict c p n m
        → fits (is_members p) (not (is_members p)) p body ≡ true → At toks plain strict c s → Sim toks plain strict c q q'
        → Sim toks plain strict c (if may c99 own body (seen c s) then alternative c99 below depth p n body (seen c s) else q)
        (if may c11 own body s then alternative c11 (whole c11) depth p m body s else q')
    one_more c p n m body depth s q q' k h at later =
        sim_if toks plain strict c _ _ _ _ _ _ (sim_may toks plain strict c s at (is_members p) (not (is_members p)) p own body refl h)
        (sim_alternative toks plain strict below same c p n m body depth s k h at) later

    sim_external : (c : Context) (depth : ℕ) (s : State) → only c.wide.production External ≡ true → At toks plain strict c s
        → Sim toks plain strict c (pick c99 below depth External 1 (externals C99) (seen c s)) (pick c11 (whole c11) depth External 1 (externals C11) s)
    sim_external c depth s holder at =
        one_more c External 1 1 (tok Semicolon) depth s _ _ (record { numbered = refl; no_line = refl; no_rest = refl; stands = holder; held = λ l. refl }) refl at
        (passed c _ _ _ (may c11 own (part Sassert) s) (no_assertion c s at)
        (one_more c External 2 3 (part Specs · part ExtRest) depth s _ _ (record { numbered = refl; no_line = refl; no_rest = refl; stands = holder; held = λ l. refl }) refl at tt))

    sim_declaration : (c : Context) (depth : ℕ) (s : State) → only c.wide.production Declaration ≡ true → At toks plain strict c s
        → Sim toks plain strict c (pick c99 below depth Declaration 1 (declarations C99) (seen c s)) (pick c11 (whole c11) depth Declaration 1 (declarations C11) s)
    sim_declaration c depth s holder at =
        passed c _ _ _ (may c11 own (part Sassert) s) (no_assertion c s at)
        (one_more c Declaration 1 2 (part Specs · part DeclRest) depth s _ _ (record { numbered = refl; no_line = refl; no_rest = refl; stands = holder; held = λ l. refl }) refl at tt)

    sim_mod : (c : Context) (depth : ℕ) (s : State) → only c.wide.production Mod ≡ true → At toks plain strict c s
        → Sim toks plain strict c (pick c99 below depth Mod 1 (modifiers C99) (seen c s)) (pick c11 (whole c11) depth Mod 1 (modifiers C11) s)
    sim_mod c depth s holder at =
        one_more c Mod 1 1 (tok Typedef) depth s _ _ (record { numbered = refl; no_line = refl; no_rest = refl; stands = holder; held = λ l. refl }) refl at
        (one_more c Mod 2 2 (tok Extern) depth s _ _ (record { numbered = refl; no_line = refl; no_rest = refl; stands = holder; held = λ l. refl }) refl at
        (one_more c Mod 3 3 (tok Static) depth s _ _ (record { numbered = refl; no_line = refl; no_rest = refl; stands = holder; held = λ l. refl }) refl at
        (one_more c Mod 4 4 (tok Auto) depth s _ _ (record { numbered = refl; no_line = refl; no_rest = refl; stands = holder; held = λ l. refl }) refl at
        (one_more c Mod 5 5 (tok Register) depth s _ _ (record { numbered = refl; no_line = refl; no_rest = refl; stands = holder; held = λ l. refl }) refl at
        (one_more c Mod 6 6 (tok Inline) depth s _ _ (record { numbered = refl; no_line = refl; no_rest = refl; stands = holder; held = λ l. refl }) refl at
        (passed c _ _ _ (may c11 own (tok Noreturn) s) (no_noreturn c s at)
        (one_more c Mod 7 8 (part Qual) depth s _ _ (record { numbered = refl; no_line = refl; no_rest = refl; stands = holder; held = λ l. refl }) refl at tt)))))))

    -- ---- Members

    specs_one : (depth : ℕ) (s x : State) → s.built.under ≡ none → whole c11 depth (produce Specs) s ≡ Ok x → One x.built.under
    specs_one depth s x e is =
        closed_specs s x (may c11 own (many own (part Mod) · part Main) s) (step c11 (whole c11) depth (many own (part Mod) · part Main) (opened Specs 1 s))
        (syntax s.at) e (sym (whole-runs c11 (iso-sound C11) depth (produce Specs) s refl) ∙ is)

    module _ (c : Context) (depth : ℕ) (s : State) (lines : c.lines ≡ true) (holder : only c.wide.production Member ≡ true) (at : At toks plain strict c s) where
      taken_line : (y : State) → At toks plain strict (in_line s.at) y → One y.built.under
          → Sim toks plain strict c (and_then (step c99 below depth members_item (seen (in_line s.at) y)) (λ x. Ok (closed Member (seen c s) x)))
          (and_then (alternative c11 (whole c11) depth MemRest 2 members_item y) (λ x. Ok (closed Member s x)))
      taken_line y at_y one =
          subst
          (λ r. Sim toks plain strict c (and_then (step c99 below depth members_item (seen (in_line s.at) y)) (λ x. Ok (closed Member (seen c s) x))) r)
          (sym (twice (step c11 (whole c11) depth members_item (opened MemRest 2 y)) (closed MemRest y) (λ x. Ok (closed Member s x))))
          (sim_then toks plain strict (behind s.at y) c _ _ _ _
          (subst (λ x. Sim toks plain strict (behind s.at y) (step c99 below depth members_item x) (step c11 (whole c11) depth members_item (opened MemRest 2 y))) (sym (seen_behind toks plain strict s y at_y))
          (sim_step toks plain strict below same (behind s.at y) members_item depth (opened MemRest 2 y) refl (at_behind toks plain strict s y at_y)))
          (λ z at_z. line_closed toks plain strict c s lines holder at y z at_y one at_z))

      rest_line : (y : State) → At toks plain strict (in_line s.at) y → One y.built.under
          → Sim toks plain strict c (and_then (step c99 below depth members_item (seen (in_line s.at) y)) (λ x. Ok (closed Member (seen c s) x)))
          (and_then (whole c11 depth (produce MemRest) y) (λ x. Ok (closed Member s x)))
      rest_line y at_y one = elim (cases_Bool (may c11 own members_item y)) [
        | inl begins ↦
            subst
            (λ r. Sim toks plain strict c (and_then (step c99 below depth members_item (seen (in_line s.at) y)) (λ x. Ok (closed Member (seen c s) x))) (and_then r (λ x. Ok (closed Member s x))))
            (sym (whole-runs c11 (iso-sound C11) depth (produce MemRest) y refl
            ∙ (cond-false (may c11 own (tok Semicolon) y) _ _ (no_semicolon (class_at c11 y y.at) (class_at c11 y (y.at + 1)) begins)
            ∙ cond-true (may c11 own members_item y) _ _ begins)))
            (taken_line y at_y one)
        | inr other ↦
            let by_c99 : may c99 own (part Mdecl) (seen (in_line s.at) y) ≡ false = sim_may toks plain strict (in_line s.at) y at_y false false MemRest own members_item refl refl ∙ other in
            let ends = refused depth (seen (in_line s.at) y) by_c99 in
            subst
            (λ r. Sim toks plain strict c (and_then (and_then r (step c99 below depth (many own (tok Comma · part Mdecl) · tok Semicolon))) (λ x. Ok (closed Member (seen c s) x)))
            (and_then (whole c11 depth (produce MemRest) y) (λ x. Ok (closed Member s x))))
            (sym ends.1) tt
      ]

      specs_then : (r r' : Step) → Sim toks plain strict (in_line s.at) r r' → ((x : State) → r' ≡ Ok x → One x.built.under)
          → Sim toks plain strict c (and_then (and_then r (step c99 below depth members_item)) (λ x. Ok (closed Member (seen c s) x)))
          (and_then (and_then r' (step c11 (whole c11) depth (part MemRest))) (λ x. Ok (closed Member s x)))
      specs_then (Err stop) r' m one = tt
      specs_then (Ok x) r' m one =
          subst
          (λ q. Sim toks plain strict c (and_then (step c99 below depth members_item x) (λ x. Ok (closed Member (seen c s) x)))
          (and_then (and_then q (step c11 (whole c11) depth (part MemRest))) (λ x. Ok (closed Member s x))))
          (sym m.1.0)
          (subst
          (λ w. Sim toks plain strict c (and_then (step c99 below depth members_item w) (λ x. Ok (closed Member (seen c s) x)))
          (and_then (whole c11 depth (produce MemRest) m.0) (λ x. Ok (closed Member s x))))
          (sym m.1.1.0)
          (rest_line m.0 m.1.1.1 (one m.0 m.1.0)))

      line_alternative : Sim toks plain strict c (alternative c99 below depth Member 2 (part Specs · members_item) (seen c s))
          (alternative c11 (whole c11) depth Member 3 (part Specs · part MemRest) s)
      line_alternative =
          specs_then (below depth (produce Specs) (opened Member 2 (seen c s))) (whole c11 depth (produce Specs) (opened Member 3 s))
          (subst (λ x. Sim toks plain strict (in_line s.at) (below depth (produce Specs) x) (whole c11 depth (produce Specs) (opened Member 3 s))) (sym (opened_seen toks plain strict c Member 2 3 s))
          (same (in_line s.at) depth (produce Specs) (opened Member 3 s) refl (at_opened toks plain strict c Member 2 3 s at)))
          (λ x is. specs_one depth (opened Member 3 s) x (opened_none Member 3 s) is)

    sim_member : (c : Context) (depth : ℕ) (s : State) → c.lines ≡ true → only c.wide.production Member ≡ true → At toks plain strict c s
        → Sim toks plain strict c (pick c99 below depth Member 1 (member_lines C99) (seen c s)) (pick c11 (whole c11) depth Member 1 (member_lines C11) s)
    sim_member c depth s lines holder at =
        one_more c Member 1 1 (tok Semicolon) depth s _ _
        (record { numbered = refl; no_line = refl; no_rest = refl; stands = holder; held = λ l. absurd (false≢true (sym l ∙ lines)) }) refl at
        (passed c _ _ _ (may c11 own (part Sassert) s) (no_assertion c s at)
        (sim_if toks plain strict c _ _ _ _ _ _ (sim_may toks plain strict c s at false false Specs own (part Specs · members_item) refl refl)
        (line_alternative c depth s lines holder at) tt))

    sim_row : (p : Production) (c : Context) (depth : ℕ) (s : State) → part_fits c.lines c.wide.production p ≡ true → At toks plain strict c s
        → Sim toks plain strict c (pick c99 below depth p 1 (table p C99) (seen c s)) (pick c11 (whole c11) depth p 1 (table p C11) s)
    sim_row TranslationUnit c depth s h at = sim_pick toks plain strict below same c TranslationUnit (table TranslationUnit C99) depth 1 s (λ m. shared_numbers c TranslationUnit m refl refl refl (stands_of c.lines c.wide.production TranslationUnit h)) refl at
    sim_row External c depth s h at = sim_external c depth s (stands_of c.lines c.wide.production External h) at
    sim_row ExtRest c depth s h at = sim_pick toks plain strict below same c ExtRest (table ExtRest C99) depth 1 s (λ m. shared_numbers c ExtRest m refl refl refl (stands_of c.lines c.wide.production ExtRest h)) refl at
    sim_row ExtTail c depth s h at = sim_pick toks plain strict below same c ExtTail (table ExtTail C99) depth 1 s (λ m. shared_numbers c ExtTail m refl refl refl (stands_of c.lines c.wide.production ExtTail h)) refl at
    sim_row FunBody c depth s h at = sim_pick toks plain strict below same c FunBody (table FunBody C99) depth 1 s (λ m. shared_numbers c FunBody m refl refl refl (stands_of c.lines c.wide.production FunBody h)) refl at
    sim_row Declaration c depth s h at = sim_declaration c depth s (stands_of c.lines c.wide.production Declaration h) at
    sim_row DeclRest c depth s h at = sim_pick toks plain strict below same c DeclRest (table DeclRest C99) depth 1 s (λ m. shared_numbers c DeclRest m refl refl refl (stands_of c.lines c.wide.production DeclRest h)) refl at
    sim_row InitDecl c depth s h at = sim_pick toks plain strict below same c InitDecl (table InitDecl C99) depth 1 s (λ m. shared_numbers c InitDecl m refl refl refl (stands_of c.lines c.wide.production InitDecl h)) refl at
    sim_row Sassert c depth s h at = tt
    sim_row Specs c depth s h at = sim_pick toks plain strict below same c Specs (table Specs C99) depth 1 s (λ m. shared_numbers c Specs m refl refl refl (stands_of c.lines c.wide.production Specs h)) refl at
    sim_row Main c depth s h at = sim_pick toks plain strict below same c Main (table Main C99) depth 1 s (λ m. shared_numbers c Main m refl refl refl (stands_of c.lines c.wide.production Main h)) refl at
    sim_row Mod c depth s h at = sim_mod c depth s (stands_of c.lines c.wide.production Mod h) at
    sim_row Qual c depth s h at = sim_pick toks plain strict below same c Qual (table Qual C99) depth 1 s (λ m. shared_numbers c Qual m refl refl refl (stands_of c.lines c.wide.production Qual h)) refl at
    sim_row Word c depth s h at = sim_pick toks plain strict below same c Word (table Word C99) depth 1 s (λ m. shared_numbers c Word m refl refl refl (stands_of c.lines c.wide.production Word h)) refl at
    sim_row StructSpec c depth s h at = sim_pick toks plain strict below same c StructSpec (table StructSpec C99) depth 1 s (λ m. shared_numbers c StructSpec m refl refl refl (stands_of c.lines c.wide.production StructSpec h)) refl at
    sim_row SuRest c depth s h at = sim_pick toks plain strict below same c SuRest (table SuRest C99) depth 1 s (λ m. shared_numbers c SuRest m refl refl refl (stands_of c.lines c.wide.production SuRest h)) refl at
    sim_row Members c depth s h at = sim_pick toks plain strict below same c Members (table Members C99) depth 1 s (λ m. shared_numbers c Members m refl refl refl (stands_of c.lines c.wide.production Members h)) refl at
    sim_row Member c depth s h at = sim_member c depth s (held_lines c.lines c.wide.production h) (stands_of c.lines c.wide.production Member h) at
    sim_row MemRest c depth s h at = tt
    sim_row Mdecl c depth s h at = sim_pick toks plain strict below same c Mdecl (table Mdecl C99) depth 1 s (λ m. shared_numbers c Mdecl m refl refl refl (stands_of c.lines c.wide.production Mdecl h)) refl at
    sim_row EnumSpec c depth s h at = sim_pick toks plain strict below same c EnumSpec (table EnumSpec C99) depth 1 s (λ m. shared_numbers c EnumSpec m refl refl refl (stands_of c.lines c.wide.production EnumSpec h)) refl at
    sim_row EnRest c depth s h at = sim_pick toks plain strict below same c EnRest (table EnRest C99) depth 1 s (λ m. shared_numbers c EnRest m refl refl refl (stands_of c.lines c.wide.production EnRest h)) refl at
    sim_row Enumerators c depth s h at = sim_pick toks plain strict below same c Enumerators (table Enumerators C99) depth 1 s (λ m. shared_numbers c Enumerators m refl refl refl (stands_of c.lines c.wide.production Enumerators h)) refl at
    sim_row Enumerator c depth s h at = sim_pick toks plain strict below same c Enumerator (table Enumerator C99) depth 1 s (λ m. shared_numbers c Enumerator m refl refl refl (stands_of c.lines c.wide.production Enumerator h)) refl at
    sim_row Declarator c depth s h at = sim_pick toks plain strict below same c Declarator (table Declarator C99) depth 1 s (λ m. shared_numbers c Declarator m refl refl refl (stands_of c.lines c.wide.production Declarator h)) refl at
    sim_row Pointer c depth s h at = sim_pick toks plain strict below same c Pointer (table Pointer C99) depth 1 s (λ m. shared_numbers c Pointer m refl refl refl (stands_of c.lines c.wide.production Pointer h)) refl at
    sim_row Direct c depth s h at = sim_pick toks plain strict below same c Direct (table Direct C99) depth 1 s (λ m. shared_numbers c Direct m refl refl refl (stands_of c.lines c.wide.production Direct h)) refl at
    sim_row Suffix c depth s h at = sim_pick toks plain strict below same c Suffix (table Suffix C99) depth 1 s (λ m. shared_numbers c Suffix m refl refl refl (stands_of c.lines c.wide.production Suffix h)) refl at
    sim_row Bound c depth s h at = sim_pick toks plain strict below same c Bound (table Bound C99) depth 1 s (λ m. shared_numbers c Bound m refl refl refl (stands_of c.lines c.wide.production Bound h)) refl at
    sim_row Params c depth s h at = sim_pick toks plain strict below same c Params (table Params C99) depth 1 s (λ m. shared_numbers c Params m refl refl refl (stands_of c.lines c.wide.production Params h)) refl at
    sim_row Param c depth s h at = sim_pick toks plain strict below same c Param (table Param C99) depth 1 s (λ m. shared_numbers c Param m refl refl refl (stands_of c.lines c.wide.production Param h)) refl at
    sim_row Pdecl c depth s h at = sim_pick toks plain strict below same c Pdecl (table Pdecl C99) depth 1 s (λ m. shared_numbers c Pdecl m refl refl refl (stands_of c.lines c.wide.production Pdecl h)) refl at
    sim_row Pdirect c depth s h at = sim_pick toks plain strict below same c Pdirect (table Pdirect C99) depth 1 s (λ m. shared_numbers c Pdirect m refl refl refl (stands_of c.lines c.wide.production Pdirect h)) refl at
    sim_row TypeName c depth s h at = sim_pick toks plain strict below same c TypeName (table TypeName C99) depth 1 s (λ m. shared_numbers c TypeName m refl refl refl (stands_of c.lines c.wide.production TypeName h)) refl at
    sim_row Adecl c depth s h at = sim_pick toks plain strict below same c Adecl (table Adecl C99) depth 1 s (λ m. shared_numbers c Adecl m refl refl refl (stands_of c.lines c.wide.production Adecl h)) refl at
    sim_row Adirect c depth s h at = sim_pick toks plain strict below same c Adirect (table Adirect C99) depth 1 s (λ m. shared_numbers c Adirect m refl refl refl (stands_of c.lines c.wide.production Adirect h)) refl at
    sim_row Init c depth s h at = sim_pick toks plain strict below same c Init (table Init C99) depth 1 s (λ m. shared_numbers c Init m refl refl refl (stands_of c.lines c.wide.production Init h)) refl at
    sim_row InitList c depth s h at = sim_pick toks plain strict below same c InitList (table InitList C99) depth 1 s (λ m. shared_numbers c InitList m refl refl refl (stands_of c.lines c.wide.production InitList h)) refl at
    sim_row InitItem c depth s h at = sim_pick toks plain strict below same c InitItem (table InitItem C99) depth 1 s (λ m. shared_numbers c InitItem m refl refl refl (stands_of c.lines c.wide.production InitItem h)) refl at
    sim_row Designator c depth s h at = sim_pick toks plain strict below same c Designator (table Designator C99) depth 1 s (λ m. shared_numbers c Designator m refl refl refl (stands_of c.lines c.wide.production Designator h)) refl at
    sim_row Expr c depth s h at = sim_pick toks plain strict below same c Expr (table Expr C99) depth 1 s (λ m. shared_numbers c Expr m refl refl refl (stands_of c.lines c.wide.production Expr h)) refl at
    sim_row Assign c depth s h at = sim_pick toks plain strict below same c Assign (table Assign C99) depth 1 s (λ m. shared_numbers c Assign m refl refl refl (stands_of c.lines c.wide.production Assign h)) refl at
    sim_row Asgop c depth s h at = sim_pick toks plain strict below same c Asgop (table Asgop C99) depth 1 s (λ m. shared_numbers c Asgop m refl refl refl (stands_of c.lines c.wide.production Asgop h)) refl at
    sim_row Cond c depth s h at = sim_pick toks plain strict below same c Cond (table Cond C99) depth 1 s (λ m. shared_numbers c Cond m refl refl refl (stands_of c.lines c.wide.production Cond h)) refl at
    sim_row Lor c depth s h at = sim_pick toks plain strict below same c Lor (table Lor C99) depth 1 s (λ m. shared_numbers c Lor m refl refl refl (stands_of c.lines c.wide.production Lor h)) refl at
    sim_row Land c depth s h at = sim_pick toks plain strict below same c Land (table Land C99) depth 1 s (λ m. shared_numbers c Land m refl refl refl (stands_of c.lines c.wide.production Land h)) refl at
    sim_row Bor c depth s h at = sim_pick toks plain strict below same c Bor (table Bor C99) depth 1 s (λ m. shared_numbers c Bor m refl refl refl (stands_of c.lines c.wide.production Bor h)) refl at
    sim_row Bxor c depth s h at = sim_pick toks plain strict below same c Bxor (table Bxor C99) depth 1 s (λ m. shared_numbers c Bxor m refl refl refl (stands_of c.lines c.wide.production Bxor h)) refl at
    sim_row Band c depth s h at = sim_pick toks plain strict below same c Band (table Band C99) depth 1 s (λ m. shared_numbers c Band m refl refl refl (stands_of c.lines c.wide.production Band h)) refl at
    sim_row Equal c depth s h at = sim_pick toks plain strict below same c Equal (table Equal C99) depth 1 s (λ m. shared_numbers c Equal m refl refl refl (stands_of c.lines c.wide.production Equal h)) refl at
    sim_row Relate c depth s h at = sim_pick toks plain strict below same c Relate (table Relate C99) depth 1 s (λ m. shared_numbers c Relate m refl refl refl (stands_of c.lines c.wide.production Relate h)) refl at
    sim_row Shift c depth s h at = sim_pick toks plain strict below same c Shift (table Shift C99) depth 1 s (λ m. shared_numbers c Shift m refl refl refl (stands_of c.lines c.wide.production Shift h)) refl at
    sim_row Add c depth s h at = sim_pick toks plain strict below same c Add (table Add C99) depth 1 s (λ m. shared_numbers c Add m refl refl refl (stands_of c.lines c.wide.production Add h)) refl at
    sim_row Mul c depth s h at = sim_pick toks plain strict below same c Mul (table Mul C99) depth 1 s (λ m. shared_numbers c Mul m refl refl refl (stands_of c.lines c.wide.production Mul h)) refl at
    sim_row Cast c depth s h at = sim_pick toks plain strict below same c Cast (table Cast C99) depth 1 s (λ m. shared_numbers c Cast m refl refl refl (stands_of c.lines c.wide.production Cast h)) refl at
    sim_row CastRest c depth s h at = sim_pick toks plain strict below same c CastRest (table CastRest C99) depth 1 s (λ m. shared_numbers c CastRest m refl refl refl (stands_of c.lines c.wide.production CastRest h)) refl at
    sim_row Unary c depth s h at = sim_pick toks plain strict below same c Unary (table Unary C99) depth 1 s (λ m. shared_numbers c Unary m refl refl refl (stands_of c.lines c.wide.production Unary h)) refl at
    sim_row SizeRest c depth s h at = sim_pick toks plain strict below same c SizeRest (table SizeRest C99) depth 1 s (λ m. shared_numbers c SizeRest m refl refl refl (stands_of c.lines c.wide.production SizeRest h)) refl at
    sim_row SizeLit c depth s h at = sim_pick toks plain strict below same c SizeLit (table SizeLit C99) depth 1 s (λ m. shared_numbers c SizeLit m refl refl refl (stands_of c.lines c.wide.production SizeLit h)) refl at
    sim_row Primary c depth s h at = sim_pick toks plain strict below same c Primary (table Primary C99) depth 1 s (λ m. shared_numbers c Primary m refl refl refl (stands_of c.lines c.wide.production Primary h)) refl at
    sim_row Post c depth s h at = sim_pick toks plain strict below same c Post (table Post C99) depth 1 s (λ m. shared_numbers c Post m refl refl refl (stands_of c.lines c.wide.production Post h)) refl at
    sim_row Args c depth s h at = sim_pick toks plain strict below same c Args (table Args C99) depth 1 s (λ m. shared_numbers c Args m refl refl refl (stands_of c.lines c.wide.production Args h)) refl at
    sim_row Block c depth s h at = sim_pick toks plain strict below same c Block (table Block C99) depth 1 s (λ m. shared_numbers c Block m refl refl refl (stands_of c.lines c.wide.production Block h)) refl at
    sim_row BlockItem c depth s h at = sim_pick toks plain strict below same c BlockItem (table BlockItem C99) depth 1 s (λ m. shared_numbers c BlockItem m refl refl refl (stands_of c.lines c.wide.production BlockItem h)) refl at
    sim_row Statement c depth s h at = sim_pick toks plain strict below same c Statement (table Statement C99) depth 1 s (λ m. shared_numbers c Statement m refl refl refl (stands_of c.lines c.wide.production Statement h)) refl at
    sim_row Sub c depth s h at = sim_pick toks plain strict below same c Sub (table Sub C99) depth 1 s (λ m. shared_numbers c Sub m refl refl refl (stands_of c.lines c.wide.production Sub h)) refl at
    sim_row ForInit c depth s h at = sim_pick toks plain strict below same c ForInit (table ForInit C99) depth 1 s (λ m. shared_numbers c ForInit m refl refl refl (stands_of c.lines c.wide.production ForInit h)) refl at
    sim_row AutoDecl c depth s h at = sim_pick toks plain strict below same c AutoDecl (table AutoDecl C99) depth 1 s (λ m. shared_numbers c AutoDecl m refl refl refl (stands_of c.lines c.wide.production AutoDecl h)) refl at
    sim_row Attr c depth s h at = sim_pick toks plain strict below same c Attr (table Attr C99) depth 1 s (λ m. shared_numbers c Attr m refl refl refl (stands_of c.lines c.wide.production Attr h)) refl at
    sim_row AttrItem c depth s h at = sim_pick toks plain strict below same c AttrItem (table AttrItem C99) depth 1 s (λ m. shared_numbers c AttrItem m refl refl refl (stands_of c.lines c.wide.production AttrItem h)) refl at
    sim_row AttrWord c depth s h at = sim_pick toks plain strict below same c AttrWord (table AttrWord C99) depth 1 s (λ m. shared_numbers c AttrWord m refl refl refl (stands_of c.lines c.wide.production AttrWord h)) refl at
    sim_row AsmName c depth s h at = sim_pick toks plain strict below same c AsmName (table AsmName C99) depth 1 s (λ m. shared_numbers c AsmName m refl refl refl (stands_of c.lines c.wide.production AsmName h)) refl at
    sim_row Operand c depth s h at = sim_pick toks plain strict below same c Operand (table Operand C99) depth 1 s (λ m. shared_numbers c Operand m refl refl refl (stands_of c.lines c.wide.production Operand h)) refl at
    sim_row Association c depth s h at = sim_pick toks plain strict below same c Association (table Association C99) depth 1 s (λ m. shared_numbers c Association m refl refl refl (stands_of c.lines c.wide.production Association h)) refl at
    sim_row MemberPath c depth s h at = sim_pick toks plain strict below same c MemberPath (table MemberPath C99) depth 1 s (λ m. shared_numbers c MemberPath m refl refl refl (stands_of c.lines c.wide.production MemberPath h)) refl at
    sim_row AsmPart c depth s h at = sim_pick toks plain strict below same c AsmPart (table AsmPart C99) depth 1 s (λ m. shared_numbers c AsmPart m refl refl refl (stands_of c.lines c.wide.production AsmPart h)) refl at
    sim_row AsmOperand c depth s h at = sim_pick toks plain strict below same c AsmOperand (table AsmOperand C99) depth 1 s (λ m. shared_numbers c AsmOperand m refl refl refl (stands_of c.lines c.wide.production AsmOperand h)) refl at

module _ (toks : List Token) (plain : has_no_added_word toks ≡ true) (strict : Bool) where
  pub sim_within : (fuel : ℕ) (c : Context) (depth : ℕ) (goal : Goal) (s : State) → goal_fits toks plain strict c goal ≡ true → At toks plain strict c s
      → Sim toks plain strict c (read_within c99 fuel depth goal (seen c s)) (whole c11 depth goal s)
  unfolding read_within
  sim_within zero c depth goal s h at = tt
  sim_within (suc fuel) c depth (produce p) s h at =
      same_run c toks plain strict _ _ _ (whole-runs c11 (iso-sound C11) depth (produce p) s refl)
      (sim_row toks plain strict (read_within c99 fuel) (sim_within fuel) (refused_within fuel) p c depth s h at)
  sim_within (suc fuel) c depth (repeat t a) s h at =
      same_run c toks plain strict _ _ _ (whole-runs c11 (iso-sound C11) depth (repeat t a) s ((and_parts (is_met (repeat t a)) _ h).0))
      (sim_step toks plain strict (read_within c99 fuel) (sim_within fuel) c (many t a) depth s h at)

  abbrev pub start : Context
  start = record {
    label = labelled TranslationUnit 1;
    first = 0;
    front = none;
    wide = labelled TranslationUnit 1;
    wide_first = 0;
    lines = false;
    names = true;
  }

  unit : Sim toks plain strict start (whole c99 0 (produce TranslationUnit) (at_first toks)) (whole c11 0 (produce TranslationUnit) (at_first toks))
  unfolding whole
  unit =
      sim_within (steps_for (produce TranslationUnit) (at_first toks)) start 0 (produce TranslationUnit) (at_first toks) refl
      (record { text = refl; built_is = refl; members = λ e. refl; free = λ e. (refl, refl); sound = refl; stands = refl })

  abbrev got : Node → Result Node Stop → Node
  got d (Ok tree) = tree
  got d (Err stop) = d

  -- the tree of a unit by C11
  pub root_sound : (s : State) → At toks plain strict start s → part_formed strict (inner (lone s.built.under s.built)) ≡ true
  root_sound s at =
      let u : Forest = s.built.under in
      let good : is_good strict s.built.label u ≡ true =
      ap (λ (b : Node). is_good strict b.label u) at.built_is ∙ and_from _ _ (kids_within TranslationUnit u at.stands) refl in
      formed_lone strict u s.built at.sound (and_from _ _ good at.sound)

  tree_told : (tree : Node) (r r' : Step) → Sim toks plain strict start r r' → tree_of r ≡ Ok tree
      → (wider : Node) × ((tree_of r' ≡ Ok wider) × ((tree ≡ narrowed_node wider) × (part_formed strict (inner wider) ≡ true)))
  tree_told tree (Err stop) r' m e = cc
  tree_told tree (Ok s) r' m e =
      let s' : State = m.0 in
      let u : Forest = s'.built.under in
      let node_seen : node_of (labelled TranslationUnit 1) 0 (narrowed u) ≡ narrowed_node s'.built = sym (ap narrowed_node m.1.1.1.built_is) in (
        lone u s'.built,
        (
          ap tree_of m.1.0,
          (
            sym (ap (got tree) e) ∙ (ap (λ (x : State). lone x.built.under x.built) m.1.1.0 ∙ (ap (lone (narrowed u)) node_seen ∙ lone-narrowed u s'.built)),
            root_sound s' m.1.1.1,
          ),
        ),
      )

pub read_by_both : TextsOfC99AreReadByC11
read_by_both toks tree plain e =
    let told = tree_told toks plain true tree (whole c99 0 (produce TranslationUnit) (at_first toks)) (whole c11 0 (produce TranslationUnit) (at_first toks)) (unit toks plain true) e in
    (told.0, (told.1.0, (told.1.1.0, part_free told.0 told.1.1.1)))
