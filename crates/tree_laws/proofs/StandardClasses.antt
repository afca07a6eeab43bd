-- Classes of tokens and what starts with them, by both standards, where no token is a word that C11 adds.
use Rattle.std.proofs.Common.{ℕ, zero, suc, ◌+◌, ◌≡◌, Bool, true, false, ◌&&◌, ◌||◌, not, if◌then◌else◌, ◌==◌, List, [], ◌∷◌, ◌++◌, length, slice_get, refl, sym, ap, ◌∙◌}
use Rattle.std.specs.List.{list_all, list_any}
use Rattle.std.specs.Option.{option_map_or}
use Rattle.std.specs.Str.{bytes_eq}
use Rattle.std.proofs.lemmas.Bool.{and_parts, or_parts, not-true, false≢true, cond-false}
use Rattle.cs_base.specs.Token.{Token}
use Rattle.c99_grammar.specs.declared.dialects.Edition.TheVariants.{C99, C11}
use Rattle.cs_base.specs.declared.tokens.Kind.{Kind}
use Rattle.cs_base.specs.declared.tokens.Kind.TheVariants as kind
use Rattle.c99_tree.specs.declared.production.Production.{Production}
use Rattle.c99_tree.specs.declared.production.Production.TheVariants.{TranslationUnit, External, ExtRest, ExtTail, FunBody, Declaration, DeclRest, InitDecl, Sassert, Specs, Main, Mod, Qual, Word, StructSpec, SuRest, Members, Member, MemRest, Mdecl, EnumSpec, EnRest, Enumerators, Enumerator, Declarator, Pointer, Direct, Suffix, Bound, Params, Param, Pdecl, Pdirect, TypeName, Adecl, Adirect, Init, InitList, InitItem, Designator, Expr, Assign, Asgop, Cond, Lor, Land, Bor, Bxor, Band, Equal, Relate, Shift, Add, Mul, Cast, CastRest, Unary, SizeRest, SizeLit, Primary, Post, Args, Block, BlockItem, Statement, Sub, ForInit, AutoDecl, Attr, AttrItem, AttrWord, AsmName, Operand, Association, MemberPath, AsmPart, AsmOperand}
use Rattle.c99_grammar.specs.declared.classes.Class.{Class}
use Rattle.c99_grammar.specs.declared.classes.Class.TheVariants.{Noreturn, StaticAssert, Identifier, TypedefName, End, NoClass}
use Rattle.c99_grammar.specs.Classes.{is_same, among}
use Rattle.c99_grammar.specs.Spellings.{Spelled, keywords, keywords_added, punctuators}
use Rattle.c99_grammar.specs.Standard.{Grammar, iso}
use Rattle.c99_grammar.specs.First.{first, shared, added, by_c11}
use Rattle.c99_grammar.specs.Items.{Item, one, part, end_of_text, act, ◌·◌, choice, maybe, many, deep, Test, own, otherwise, next, next_two, Ask, is, is_not, begins, either, Action, declare, name}
use Rattle.c99_grammar.specs.Starting.{is_passed, production_starts, asks, holds, starts, is_pair}
use Rattle.c99_grammar.specs.TokenClasses.{spelled_class, class_of_kind, base_class}
use Rattle.c99_grammar.proofs.AmongLemmas.{among-append, among-none, among-all}
use Rattle.c99_read.specs.State.{State, base_at, is_identifier, is_typedef_at, class_at}
use Rattle.c99_tree.specs.Tree.{Node}
use Rattle.c99_read.specs.Sound.{is_met}
use Rattle.c99_read.specs.Reading.{repeat, may}
use Rattle.tree_laws.specs.Narrowed.{is_member, has_no_added_word}
use Rattle.tree_laws.proofs.Standing.{only}

abbrev pub c99 : Grammar
c99 = iso C99

abbrev pub c11 : Grammar
c11 = iso C11

-- ---- Classes

-- the words that C11 adds to what productions start with
abbrev pub fine : Class → Bool
fine c = not (among (Noreturn ∷ StaticAssert ∷ []) c)

spelled_apart : (xs ys : List Spelled) (text : List ℕ) (other : Class) → list_any (λ w. bytes_eq text w.0) ys ≡ false
    → spelled_class (xs ++ ys) text other ≡ spelled_class xs text other
unfolding spelled_class
spelled_apart [] [] text other h = refl
spelled_apart [] (y ∷ ys) text other h =
    let parts = or_parts (bytes_eq text y.0) (list_any (λ w. bytes_eq text w.0) ys) h in
    cond-false (bytes_eq text y.0) y.1 (spelled_class ys text other) parts.0 ∙ spelled_apart [] ys text other parts.1
spelled_apart (x ∷ xs) ys text other h = ap (λ c. if bytes_eq text x.0 then x.1 else c) (spelled_apart xs ys text other h)

kind_same : (k : Kind) (text : List ℕ) → list_any (λ w. bytes_eq text w.0) keywords_added ≡ false → class_of_kind c11 k text ≡ class_of_kind c99 k text
kind_same kind.Ident text h = spelled_apart keywords keywords_added text Identifier h
kind_same kind.Number text h = refl
kind_same kind.Char text h = refl
kind_same kind.Str text h = refl
kind_same kind.Punct text h = refl
kind_same kind.Other text h = refl
kind_same kind.Header text h = refl

class_same : (t : Token) → not (list_any (λ w. bytes_eq t.text w.0) keywords_added) ≡ true → base_class c11 t ≡ base_class c99 t
unfolding base_class
class_same t h = kind_same t.kind t.text (not-true (list_any (λ w. bytes_eq t.text w.0) keywords_added) h)

each_same : (ts : List Token) (k : ℕ) (other : Class) → has_no_added_word ts ≡ true
    → option_map_or (base_class c11) (slice_get ts k) other ≡ option_map_or (base_class c99) (slice_get ts k) other
each_same [] k other h = refl
each_same (t ∷ ts) zero other h =
    class_same t ((and_parts (not (list_any (λ w. bytes_eq t.text w.0) keywords_added)) (has_no_added_word ts) h).0)
each_same (t ∷ ts) (suc k) other h =
    each_same ts k other ((and_parts (not (list_any (λ w. bytes_eq t.text w.0) keywords_added)) (has_no_added_word ts) h).1)

-- the class of each token is the same by both
pub base_same : (ts : List Token) → has_no_added_word ts ≡ true → (k : ℕ) → base_at c99 ts k ≡ base_at c11 ts k
base_same ts h k = sym (each_same ts k (if k == length ts then End else NoClass) h)

spelled_fine : (xs : List Spelled) (text : List ℕ) (other : Class) → list_all (λ w. fine w.1) xs ≡ true → fine other ≡ true
    → fine (spelled_class xs text other) ≡ true
unfolding spelled_class
spelled_fine [] text other all last = last
spelled_fine (x ∷ xs) text other all last =
    let parts = and_parts (fine x.1) (list_all (λ w. fine w.1) xs) all in
    by (bytes_eq text x.0) parts.0 (spelled_fine xs text other parts.1 last)
  where
    by : (b : Bool) → fine x.1 ≡ true → fine (spelled_class xs text other) ≡ true → fine (if b then x.1 else spelled_class xs text other) ≡ true
    by true h k = h
    by false h k = k

kind_fine : (k : Kind) (text : List ℕ) → fine (class_of_kind c99 k text) ≡ true
kind_fine kind.Ident text = spelled_fine keywords text Identifier refl refl
kind_fine kind.Number text = refl
kind_fine kind.Char text = refl
kind_fine kind.Str text = refl
kind_fine kind.Punct text = spelled_fine punctuators text NoClass refl refl
kind_fine kind.Other text = refl
kind_fine kind.Header text = refl

base_fine : (ts : List Token) (k : ℕ) (other : Class) → fine other ≡ true → fine (option_map_or (base_class c99) (slice_get ts k) other) ≡ true
unfolding base_class
base_fine [] k other h = h
base_fine (t ∷ ts) zero other h = kind_fine t.kind t.text
base_fine (t ∷ ts) (suc k) other h = base_fine ts k other h

end_fine : (b : Bool) → fine (if b then End else NoClass) ≡ true
end_fine true = refl
end_fine false = refl

typedef_fine : (b : Bool) (c : Class) → fine c ≡ true → fine (if b then TypedefName else c) ≡ true
typedef_fine true c h = refl
typedef_fine false c h = h

-- ---- What starts

-- these have no alternative by C99
abbrev pub is_new : Production → Bool
is_new Sassert = true
is_new MemRest = true
is_new _ = false

module _ (c : Class) (h : fine c ≡ true) where
  none_of_two : among (Noreturn ∷ StaticAssert ∷ []) c ≡ false
  none_of_two = not-true (among (Noreturn ∷ StaticAssert ∷ []) c) h

  none_of_one : among (Noreturn ∷ []) c ≡ false
  none_of_one = let e = (or_parts (is_same Noreturn c) (among (StaticAssert ∷ []) c) none_of_two).0 in rw e refl

  added_none : (p : Production) → is_new p ≡ false → among (added p) c ≡ false
  added_none TranslationUnit n = none_of_two
  added_none External n = none_of_two
  added_none ExtRest n = refl
  added_none ExtTail n = refl
  added_none FunBody n = none_of_two
  added_none Declaration n = none_of_two
  added_none DeclRest n = refl
  added_none InitDecl n = refl
  added_none Sassert n = absurd (false≢true (sym n))
  added_none Specs n = none_of_one
  added_none Main n = refl
  added_none Mod n = none_of_one
  added_none Qual n = refl
  added_none Word n = refl
  added_none StructSpec n = refl
  added_none SuRest n = refl
  added_none Members n = none_of_two
  added_none Member n = none_of_two
  added_none MemRest n = absurd (false≢true (sym n))
  added_none Mdecl n = refl
  added_none EnumSpec n = refl
  added_none EnRest n = refl
  added_none Enumerators n = refl
  added_none Enumerator n = refl
  added_none Declarator n = refl
  added_none Pointer n = refl
  added_none Direct n = refl
  added_none Suffix n = refl
  added_none Bound n = refl
  added_none Params n = none_of_one
  added_none Param n = none_of_one
  added_none Pdecl n = refl
  added_none Pdirect n = refl
  added_none TypeName n = none_of_one
  added_none Adecl n = refl
  added_none Adirect n = refl
  added_none Init n = refl
  added_none InitList n = refl
  added_none InitItem n = refl
  added_none Designator n = refl
  added_none Expr n = refl
  added_none Assign n = refl
  added_none Asgop n = refl
  added_none Cond n = refl
  added_none Lor n = refl
  added_none Land n = refl
  added_none Bor n = refl
  added_none Bxor n = refl
  added_none Band n = refl
  added_none Equal n = refl
  added_none Relate n = refl
  added_none Shift n = refl
  added_none Add n = refl
  added_none Mul n = refl
  added_none Cast n = refl
  added_none CastRest n = refl
  added_none Unary n = refl
  added_none SizeRest n = refl
  added_none SizeLit n = refl
  added_none Primary n = refl
  added_none Post n = refl
  added_none Args n = refl
  added_none Block n = refl
  added_none BlockItem n = none_of_two
  added_none Statement n = refl
  added_none Sub n = refl
  added_none ForInit n = none_of_two
  added_none AutoDecl n = refl
  added_none Attr n = refl
  added_none AttrItem n = refl
  added_none AttrWord n = refl
  added_none AsmName n = refl
  added_none Operand n = refl
  added_none Association n = refl
  added_none MemberPath n = refl
  added_none AsmPart n = refl
  added_none AsmOperand n = refl

  first_same : (p : Production) → is_new p ≡ false → among (first p C99) c ≡ among (first p C11) c
  first_same p n =
      sym (among-append (shared p) (by_c11 (added p) C99) c)
      ∙ (ap (λ b. among (shared p) c || b) (sym (among-none (added p) c) ∙ (sym (added_none p n) ∙ among-all (added p) c))
      ∙ among-append (shared p) (by_c11 (added p) C11) c)

abbrev pub asks_fits : Ask → Bool
asks_fits (is classes) = true
asks_fits (is_not classes) = true
asks_fits (begins p) = not (is_new p)
asks_fits (either a b) = asks_fits a && asks_fits b

abbrev pub test_fits : Test → Bool
test_fits own = true
test_fits otherwise = true
test_fits (next a) = asks_fits a
test_fits (next_two a b) = asks_fits a && asks_fits b

abbrev pub is_silent : Action → Bool
is_silent declare = false
is_silent name = false
is_silent _ = true

-- a production of C99, where members may stand or not, in a node of the first
abbrev pub part_fits : Bool → Production → Production → Bool
part_fits lines holder p = not (is_new p) && ((lines || not (is_member p)) && only holder p)

-- an item of the table of C99; `lines` says whether members may stand in it, `names` whether it may declare, and `holder`
-- in which node it is read
abbrev pub fits : Bool → Bool → Production → Item → Bool
fits lines names holder (one classes) = true
fits lines names holder (part p) = part_fits lines holder p
fits lines names holder end_of_text = true
fits lines names holder (act a) = names || is_silent a
fits lines names holder (a · b) = fits lines names holder a && fits lines names holder b
fits lines names holder (choice a b) = fits lines names holder a && fits lines names holder b
fits lines names holder (maybe a) = fits lines names holder a
fits lines names holder (many t a) = is_met (repeat t a) && (test_fits t && fits lines names holder a)
fits lines names holder (deep a) = fits lines names holder a

asks_same : (a : Ask) (c : Class) → fine c ≡ true → asks_fits a ≡ true → asks c99 a c ≡ asks c11 a c
asks_same (is classes) c f h = refl
asks_same (is_not classes) c f h = refl
asks_same (begins p) c f h = first_same c f p (not-true (is_new p) h)
asks_same (either a b) c f h =
    let parts = and_parts (asks_fits a) (asks_fits b) h in
    ap (λ x. x || asks c99 b c) (asks_same a c f parts.0) ∙ ap (λ y. asks c11 a c || y) (asks_same b c f parts.1)

module _ (c d : Class) (f : fine c ≡ true) (g : fine d ≡ true) where
  holds_same : (t : Test) (b : Bool) → test_fits t ≡ true → holds c99 t b c d ≡ holds c11 t b c d
  holds_same own b h = refl
  holds_same otherwise b h = refl
  holds_same (next a) b h = asks_same a c f h
  holds_same (next_two a k) b h =
      let parts = and_parts (asks_fits a) (asks_fits k) h in
      ap (λ x. x && asks c99 k d) (asks_same a c f parts.0) ∙ ap (λ y. asks c11 a c && y) (asks_same k d g parts.1)

  -- what is asked behind a class is the same by both
  pairs_alike : (p : Production) → list_any (λ x. is_pair c99 x c d) (c99.pairs p) ≡ list_any (λ x. is_pair c11 x c d) (c11.pairs p)
  pairs_alike Statement = refl
  pairs_alike Sub = refl
  pairs_alike _ = refl

  production_same : (p : Production) → is_new p ≡ false → production_starts c99 p c d ≡ production_starts c11 p c d
  production_same p n =
      ap (λ b. b || list_any (λ x. is_pair c99 x c d) (c99.pairs p)) (first_same c f p n) ∙ ap (λ b. among (c11.first p) c || b) (pairs_alike p)

  starts_same : (lines names : Bool) (holder : Production) (item : Item) → fits lines names holder item ≡ true → starts c99 item c d ≡ starts c11 item c d
  starts_same lines names holder (one classes) h = refl
  starts_same lines names holder (part p) h = production_same p (not-true (is_new p) ((and_parts (not (is_new p)) ((lines || not (is_member p)) && only holder p) h).0))
  starts_same lines names holder end_of_text h = refl
  starts_same lines names holder (act a) h = refl
  starts_same lines names holder (a · b) h =
      let parts = and_parts (fits lines names holder a) (fits lines names holder b) h in
      ap (λ x. if is_passed a then x || starts c99 b c d else x) (starts_same lines names holder a parts.0)
      ∙ ap (λ y. if is_passed a then starts c11 a c d || y else starts c11 a c d) (starts_same lines names holder b parts.1)
  starts_same lines names holder (choice a b) h =
      let parts = and_parts (fits lines names holder a) (fits lines names holder b) h in
      ap (λ x. x || starts c99 b c d) (starts_same lines names holder a parts.0) ∙ ap (λ y. starts c11 a c d || y) (starts_same lines names holder b parts.1)
  starts_same lines names holder (maybe a) h = starts_same lines names holder a h
  starts_same lines names holder (many t a) h =
      let parts = and_parts (test_fits t) (fits lines names holder a) ((and_parts (is_met (repeat t a)) (test_fits t && fits lines names holder a) h).1) in
      ap (λ b. holds c99 t b c d) (starts_same lines names holder a parts.1) ∙ holds_same t (starts c11 a c d) parts.0
  starts_same lines names holder (deep a) h = starts_same lines names holder a h

-- ---- A state

module _ (s : State) (built : Node) (plain : has_no_added_word s.toks ≡ true) where
  abbrev other : State
  other = record s { built = built }

  pub class_alike : (k : ℕ) → class_at c99 other k ≡ class_at c11 s k
  unfolding class_at
  class_alike k =
      ap (λ c. if is_identifier c && is_typedef_at s.toks s.names.scopes k then TypedefName else c)
      (sym (each_same s.toks k (if k == length s.toks then End else NoClass) plain))

  pub class_fine : (k : ℕ) → fine (class_at c11 s k) ≡ true
  unfolding class_at
  class_fine k =
      let e = each_same s.toks k (if k == length s.toks then End else NoClass) plain in
      typedef_fine (is_identifier (base_at c11 s.toks k) && is_typedef_at s.toks s.names.scopes k) (base_at c11 s.toks k)
      (ap fine e ∙ base_fine s.toks k (if k == length s.toks then End else NoClass) (end_fine (k == length s.toks)))

  pub may_same : (lines names : Bool) (holder : Production) (t : Test) (item : Item) → test_fits t ≡ true → fits lines names holder item ≡ true → may c99 t item other ≡ may c11 t item s
  may_same lines names holder t item of_test of_item =
      let c : Class = class_at c11 s s.at in
      let d : Class = class_at c11 s (s.at + 1) in
      ap (λ x. holds c99 t (starts c99 item x (class_at c99 other (s.at + 1))) x (class_at c99 other (s.at + 1))) (class_alike s.at)
      ∙ (ap (λ y. holds c99 t (starts c99 item c y) c y) (class_alike (s.at + 1))
      ∙ (ap (λ b. holds c99 t b c d) (starts_same c d (class_fine s.at) (class_fine (s.at + 1)) lines names holder item of_item)
      ∙ holds_same c d (class_fine s.at) (class_fine (s.at + 1)) t (starts c11 item c d) of_test))
