-- In the table of each edition a list begins what it may begin, and is tested there alike.
use Rattle.std.proofs.Common.{ℕ, suc, zero, ◌+◌, ◌≡◌, Bool, true, false, ◌||◌, List, [], ◌∷◌, length, refl, ap, inl, inr}
use Rattle.std.specs.List.{list_all}
use Rattle.std.proofs.lemmas.Bool.{and_parts}
use Rattle.c99_grammar.specs.declared.dialects.Dialect.TheVariants.{Iso}
use Rattle.c99_grammar.specs.declared.dialects.Edition.{Edition}
use Rattle.c99_tree.specs.declared.production.Production.{Production}
use Rattle.c99_tree.specs.declared.production.Production.TheVariants.{TranslationUnit, External, ExtRest, ExtTail, FunBody, Declaration, DeclRest, InitDecl, Sassert, Specs, Main, Mod, Qual, Word, StructSpec, SuRest, Members, Member, MemRest, Mdecl, EnumSpec, EnRest, Enumerators, Enumerator, Declarator, Pointer, Direct, Suffix, Bound, Params, Param, Pdecl, Pdirect, TypeName, Adecl, Adirect, Init, InitList, InitItem, Designator, Expr, Assign, Asgop, Cond, Lor, Land, Bor, Bxor, Band, Equal, Relate, Shift, Add, Mul, Cast, CastRest, Unary, SizeRest, SizeLit, Primary, Post, Args, Block, BlockItem, Statement, Sub, ForInit, AutoDecl, Attr, AttrItem, AttrWord, AsmName, Operand, Association, MemberPath, AsmPart, AsmOperand}
use Rattle.c99_grammar.specs.declared.classes.Class.{Class}
use Rattle.c99_grammar.specs.declared.classes.Class.TheVariants.{LeftBracket, RightBracket, LeftParen, Star, Dot, Arrow, PlusPlus, MinusMinus, Static, Identifier}
use Rattle.c99_grammar.specs.Classes.{is_same}
use Rattle.c99_grammar.specs.Items.{Item, part, ◌·◌, choice, maybe, many, deep, own, tok, any_name, Alternative}
use Rattle.c99_grammar.specs.Standard.{iso}
use Rattle.c99_grammar.proofs.StandardLemmas.{by_edition}
use Rattle.c99_read.specs.Reading.{produce, repeat}
use Rattle.list_cuts.specs.Cuts.{IsOrder}
use Rattle.reordered_tree_laws.specs.Reordered.{is_parenthesised, permuted}
use Rattle.reordered_text_laws.specs.ByClasses.{read_by_classes}
use Rattle.reordered_text_laws.proofs.Found.{stopped}
use Rattle.reordered_text_laws.proofs.Stops.{item_alike, closes}
use Rattle.reordered_text_laws.proofs.Local.{goal_text}
use Rattle.reordered_text_laws.proofs.Free.{tests_free}
use Rattle.reordered_text_laws.proofs.Tables.{ending, tells}
use Rattle.reordered_text_laws.proofs.FreeTables.{tests}
use Rattle.reordered_text_laws.proofs.Permuted.{labelled, not_among, full-child}
use Rattle.reordered_text_laws.proofs.Near.{shut, at_most}
use Rattle.reordered_text_laws.proofs.Fronts.{production_front, item_front}
use Rattle.reordered_text_laws.proofs.Anew.{Goods, Child_so, Children, AllSettled, child_itself, anew_suc, anew_item, anew_first}
use Rattle.reordered_text_laws.proofs.AnewLists.{call_child, list_child}

module _ (std : Edition) where
  fronts : (p : Production) → list_all (λ a. at_most (item_front a.body) (production_front p)) ((iso std).table p) ≡ true
  fronts TranslationUnit = refl
  fronts External = by_edition (λ s. list_all (λ a. at_most (item_front a.body) (production_front External)) ((iso s).table External) ≡ true) refl refl std
  fronts ExtRest = refl
  fronts ExtTail = refl
  fronts FunBody = refl
  fronts Declaration = by_edition (λ s. list_all (λ a. at_most (item_front a.body) (production_front Declaration)) ((iso s).table Declaration) ≡ true) refl refl std
  fronts DeclRest = refl
  fronts InitDecl = refl
  fronts Sassert = by_edition (λ s. list_all (λ a. at_most (item_front a.body) (production_front Sassert)) ((iso s).table Sassert) ≡ true) refl refl std
  fronts Specs = refl
  fronts Main = refl
  fronts Mod = by_edition (λ s. list_all (λ a. at_most (item_front a.body) (production_front Mod)) ((iso s).table Mod) ≡ true) refl refl std
  fronts Qual = refl
  fronts Word = refl
  fronts StructSpec = refl
  fronts SuRest = refl
  fronts Members = refl
  fronts Member = by_edition (λ s. list_all (λ a. at_most (item_front a.body) (production_front Member)) ((iso s).table Member) ≡ true) refl refl std
  fronts MemRest = by_edition (λ s. list_all (λ a. at_most (item_front a.body) (production_front MemRest)) ((iso s).table MemRest) ≡ true) refl refl std
  fronts Mdecl = refl
  fronts EnumSpec = refl
  fronts EnRest = refl
  fronts Enumerators = refl
  fronts Enumerator = refl
  fronts Declarator = refl
  fronts Pointer = refl
  fronts Direct = refl
  fronts Suffix = refl
  fronts Bound = refl
  fronts Params = refl
  fronts Param = refl
  fronts Pdecl = refl
  fronts Pdirect = refl
  fronts TypeName = refl
  fronts Adecl = refl
  fronts Adirect = refl
  fronts Init = refl
  fronts InitList = refl
  fronts InitItem = refl
  fronts Designator = refl
  fronts Expr = refl
  fronts Assign = refl
  fronts Asgop = refl
  fronts Cond = refl
  fronts Lor = refl
  fronts Land = refl
  fronts Bor = refl
  fronts Bxor = refl
  fronts Band = refl
  fronts Equal = refl
  fronts Relate = refl
  fronts Shift = refl
  fronts Add = refl
  fronts Mul = refl
  fronts Cast = refl
  fronts CastRest = refl
  fronts Unary = refl
  fronts SizeRest = refl
  fronts SizeLit = refl
  fronts Primary = refl
  fronts Post = refl
  fronts Args = refl
  fronts Block = refl
  fronts BlockItem = refl
  fronts Statement = refl
  fronts Sub = refl
  fronts ForInit = refl
  fronts AutoDecl = refl
  fronts Attr = refl
  fronts AttrItem = refl
  fronts AttrWord = refl
  fronts AsmName = refl
  fronts Operand = refl
  fronts Association = refl
  fronts MemberPath = refl
  fronts AsmPart = refl
  fronts AsmOperand = refl

three_of : (a b c d : Bool) → (a || (b || (c || (d || false)))) ≡ false → (a || (b || (c || false))) ≡ false
three_of true b c d e = e
three_of false true c d e = e
three_of false false true d e = e
three_of false false false d e = refl

module _ (s : Edition) (class_of : ℕ → Class) (order : List ℕ) (lists : ℕ → Bool) where
  all_shut : (alternatives : List Alternative) → AllSettled s class_of order lists shut alternatives
  all_shut [] = tt
  all_shut (a ∷ more) = (tt, all_shut more)

  settled : (p : Production) → AllSettled s class_of order lists (production_front p) ((iso s).table p)
  settled Post = (refl, (refl, (refl, (refl, (refl, (refl, tt))))))
  settled Suffix = (inl refl, (inl refl, tt))
  settled Pdecl = (inl refl, (inl refl, tt))
  settled Pdirect = (inl refl, (inr (λ c h. h), (inl refl, tt)))
  settled Adecl = (inl refl, (inl refl, tt))
  settled Adirect = (inr (λ c h. three_of (is_same LeftBracket c) (is_same LeftParen c) (is_same Star c) (is_same Identifier c) h), (inl refl, tt))
  settled p = all_shut ((iso s).table p)

  module _ (is_order : IsOrder (length order) order) where
    module _ (fuel : ℕ) (goods : Goods s class_of order lists fuel) where
      plain_child : (p : Production) (n : ℕ) (body : Item) → is_parenthesised (labelled p n) ≡ false → Child_so s class_of order lists fuel p n body
      plain_child p n body plain = λ depth xs u h k le full e. (
          let apart = not_among order lists (labelled p n) u.read plain in
          child_itself s class_of order lists fuel goods p n body depth xs u h k le (full-child order lists p n u.read apart full) (ap (λ b. permuted order lists b u.read) apart) e)

      plain_children : (p : Production) → ((n : ℕ) → is_parenthesised (labelled p n) ≡ false) → (alternatives : List Alternative) (n : ℕ) → Children s class_of order lists fuel p n alternatives
      plain_children p plain [] n = tt
      plain_children p plain (a ∷ more) n = (plain_child p n a.body (plain n), plain_children p plain more (n + 1))

      children : (p : Production) → Children s class_of order lists fuel p 1 ((iso s).table p)
      children Post = (
        plain_child Post 1 (tok LeftBracket · deep (part Expr) · tok RightBracket) refl,
        (
          call_child s class_of order lists is_order fuel goods,
          (
            plain_child Post 3 (tok Dot · any_name) refl,
            (plain_child Post 4 (tok Arrow · any_name) refl, (plain_child Post 5 (tok PlusPlus) refl, (plain_child Post 6 (tok MinusMinus) refl, tt))),
          ),
        ),
      )
      children Suffix = (
        plain_child Suffix 1 (tok LeftBracket · many own (choice (part Qual) (tok Static)) · maybe (deep (part Bound)) · tok RightBracket) refl,
        (list_child s class_of order lists is_order fuel goods, tt),
      )
      children p = plain_children p (λ n. refl) ((iso s).table p) 1

    pub goods : (fuel : ℕ) → Goods s class_of order lists fuel
    unfolding read_by_classes
    goods zero depth goal xs t fine full e = absurd (stopped t e)
    goods (suc fuel) depth (produce p) xs t fine full e =
        let text = goal_text (iso s) ending (tells (Iso s)) class_of (suc fuel) depth (produce p) xs t e in
        anew_suc s class_of order lists (production_front p) (ending p ≡ true) (λ m ys. read_by_classes (iso s) class_of m depth (produce p) ys) t
        (anew_first s class_of order lists fuel p ((iso s).table p) depth 1 xs t (children fuel (goods fuel) p) (settled p) ((tells (Iso s)).alike p fine) ((tells (Iso s)).closing p) (tests s p) (fronts s p)
        full (text.1 fine) text.0 e)
    goods (suc fuel) depth (repeat q a) xs t fine full e =
        let both' = and_parts (item_alike (iso s) (many q a)) (tests_free (iso s) (many q a)) fine in
        anew_suc s class_of order lists (item_front a) (closes (iso s) ending (many q a) ≡ true) (λ m ys. read_by_classes (iso s) class_of m depth (repeat q a) ys) t
        (anew_item s class_of order lists fuel (goods fuel) (many q a) depth xs t both'.0 both'.1 full e)
