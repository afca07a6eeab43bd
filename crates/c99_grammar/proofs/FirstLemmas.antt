-- The first sets are those of the table: a production starts with a class where some alternative does.
use Rattle.std.proofs.Common.{ℕ, zero, suc, ◌<◌, ◌≡◌, Bool, true, false, not, List, [], ◌∷◌, length, get_or, refl, sym, ap, ◌∙◌, lit<, arith}
use Rattle.std.specs.List.{list_all}
use Rattle.std.proofs.lemmas.Bool.{and_parts}
use Rattle.c99_grammar.specs.declared.dialects.Dialect.{Dialect}
use Rattle.c99_grammar.specs.declared.dialects.Dialect.TheVariants.{Iso, Gnu}
use Rattle.c99_grammar.specs.declared.dialects.Edition.{Edition}
use Rattle.c99_tree.specs.declared.production.Production.{Production}
use Rattle.c99_tree.specs.declared.production.Production.TheVariants.{TranslationUnit, External, ExtRest, ExtTail, FunBody, Declaration, DeclRest, InitDecl, Sassert, Specs, Main, Mod, Qual, Word, StructSpec, SuRest, Members, Member, MemRest, Mdecl, EnumSpec, EnRest, Enumerators, Enumerator, Declarator, Pointer, Direct, Suffix, Bound, Params, Param, Pdecl, Pdirect, TypeName, Adecl, Adirect, Init, InitList, InitItem, Designator, Expr, Assign, Asgop, Cond, Lor, Land, Bor, Bxor, Band, Equal, Relate, Shift, Add, Mul, Cast, CastRest, Unary, SizeRest, SizeLit, Primary, Post, Args, Block, BlockItem, Statement, Sub, ForInit, AutoDecl, Attr, AttrItem, AttrWord, AsmName, Operand, Association, MemberPath, AsmPart, AsmOperand}
use Rattle.c99_grammar.specs.declared.classes.Class.{Class}
use Rattle.c99_grammar.specs.declared.classes.Class.TheVariants as class
use Rattle.c99_grammar.specs.First.{every}
use Rattle.c99_grammar.specs.FirstSets.{alternative_starts, FirstSetsAreTheTables}
use Rattle.c99_grammar.specs.Starting.{production_starts}
use Rattle.c99_grammar.specs.Standard.{grammar}
use Rattle.c99_grammar.proofs.StandardLemmas.{by_edition, by_dialect}

same_bool : Bool → Bool → Bool
same_bool true b = b
same_bool false b = not b

same_bool-true : (a b : Bool) → same_bool a b ≡ true → a ≡ b
unfolding same_bool
same_bool-true true b e = sym e
same_bool-true false true e = e
same_bool-true false false e = refl

-- each class stands in the list of all
place : (c : Class) → (k : ℕ) × (k < length every) × (get_or every k c ≡ c)
place class.Auto = (0, lit< tt, refl)
place class.Break = (1, lit< tt, refl)
place class.Case = (2, lit< tt, refl)
place class.Char = (3, lit< tt, refl)
place class.Const = (4, lit< tt, refl)
place class.Continue = (5, lit< tt, refl)
place class.Default = (6, lit< tt, refl)
place class.Do = (7, lit< tt, refl)
place class.Double = (8, lit< tt, refl)
place class.Else = (9, lit< tt, refl)
place class.Enum = (10, lit< tt, refl)
place class.Extern = (11, lit< tt, refl)
place class.Float = (12, lit< tt, refl)
place class.For = (13, lit< tt, refl)
place class.Goto = (14, lit< tt, refl)
place class.If = (15, lit< tt, refl)
place class.Inline = (16, lit< tt, refl)
place class.Int = (17, lit< tt, refl)
place class.Long = (18, lit< tt, refl)
place class.Register = (19, lit< tt, refl)
place class.Restrict = (20, lit< tt, refl)
place class.Return = (21, lit< tt, refl)
place class.Short = (22, lit< tt, refl)
place class.Signed = (23, lit< tt, refl)
place class.Sizeof = (24, lit< tt, refl)
place class.Static = (25, lit< tt, refl)
place class.Struct = (26, lit< tt, refl)
place class.Switch = (27, lit< tt, refl)
place class.Typedef = (28, lit< tt, refl)
place class.Union = (29, lit< tt, refl)
place class.Unsigned = (30, lit< tt, refl)
place class.Void = (31, lit< tt, refl)
place class.Volatile = (32, lit< tt, refl)
place class.While = (33, lit< tt, refl)
place class.BoolWord = (34, lit< tt, refl)
place class.ComplexWord = (35, lit< tt, refl)
place class.ImaginaryWord = (36, lit< tt, refl)
place class.Alignas = (37, lit< tt, refl)
place class.Alignof = (38, lit< tt, refl)
place class.Atomic = (39, lit< tt, refl)
place class.Generic = (40, lit< tt, refl)
place class.Noreturn = (41, lit< tt, refl)
place class.StaticAssert = (42, lit< tt, refl)
place class.ThreadLocal = (43, lit< tt, refl)
place class.AsmWord = (44, lit< tt, refl)
place class.TypeofWord = (45, lit< tt, refl)
place class.AttributeWord = (46, lit< tt, refl)
place class.ExtensionWord = (47, lit< tt, refl)
place class.LocalLabelWord = (48, lit< tt, refl)
place class.AutoTypeWord = (49, lit< tt, refl)
place class.RealPartWord = (50, lit< tt, refl)
place class.VaArgWord = (51, lit< tt, refl)
place class.OffsetofWord = (52, lit< tt, refl)
place class.TypesCompatibleWord = (53, lit< tt, refl)
place class.LeftBracket = (54, lit< tt, refl)
place class.RightBracket = (55, lit< tt, refl)
place class.LeftParen = (56, lit< tt, refl)
place class.RightParen = (57, lit< tt, refl)
place class.LeftBrace = (58, lit< tt, refl)
place class.RightBrace = (59, lit< tt, refl)
place class.Dot = (60, lit< tt, refl)
place class.Arrow = (61, lit< tt, refl)
place class.PlusPlus = (62, lit< tt, refl)
place class.MinusMinus = (63, lit< tt, refl)
place class.Amp = (64, lit< tt, refl)
place class.Star = (65, lit< tt, refl)
place class.Plus = (66, lit< tt, refl)
place class.Minus = (67, lit< tt, refl)
place class.Tilde = (68, lit< tt, refl)
place class.Bang = (69, lit< tt, refl)
place class.Slash = (70, lit< tt, refl)
place class.Percent = (71, lit< tt, refl)
place class.ShiftLeft = (72, lit< tt, refl)
place class.ShiftRight = (73, lit< tt, refl)
place class.Less = (74, lit< tt, refl)
place class.Greater = (75, lit< tt, refl)
place class.LessEq = (76, lit< tt, refl)
place class.GreaterEq = (77, lit< tt, refl)
place class.EqEq = (78, lit< tt, refl)
place class.BangEq = (79, lit< tt, refl)
place class.Caret = (80, lit< tt, refl)
place class.Bar = (81, lit< tt, refl)
place class.AmpAmp = (82, lit< tt, refl)
place class.BarBar = (83, lit< tt, refl)
place class.Question = (84, lit< tt, refl)
place class.Colon = (85, lit< tt, refl)
place class.Semicolon = (86, lit< tt, refl)
place class.Ellipsis = (87, lit< tt, refl)
place class.Eq = (88, lit< tt, refl)
place class.StarEq = (89, lit< tt, refl)
place class.SlashEq = (90, lit< tt, refl)
place class.PercentEq = (91, lit< tt, refl)
place class.PlusEq = (92, lit< tt, refl)
place class.MinusEq = (93, lit< tt, refl)
place class.ShiftLeftEq = (94, lit< tt, refl)
place class.ShiftRightEq = (95, lit< tt, refl)
place class.AmpEq = (96, lit< tt, refl)
place class.CaretEq = (97, lit< tt, refl)
place class.BarEq = (98, lit< tt, refl)
place class.Comma = (99, lit< tt, refl)
place class.Hash = (100, lit< tt, refl)
place class.HashHash = (101, lit< tt, refl)
place class.Identifier = (102, lit< tt, refl)
place class.TypedefName = (103, lit< tt, refl)
place class.Constant = (104, lit< tt, refl)
place class.CharConstant = (105, lit< tt, refl)
place class.StringLiteral = (106, lit< tt, refl)
place class.End = (107, lit< tt, refl)
place class.NoClass = (108, lit< tt, refl)

list_all-get : (P : Class → Bool) (xs : List Class) (k : ℕ) (d : Class) → list_all P xs ≡ true → k < length xs → P (get_or xs k d) ≡ true
list_all-get P [] k d all within = absurd (omega arith)
list_all-get P (x ∷ xs) zero d all within = (and_parts (P x) (list_all P xs) all).0
list_all-get P (x ∷ xs) (suc k) d all within = list_all-get P xs k d (and_parts (P x) (list_all P xs) all).1 (omega arith)

all_of : (P : Class → Bool) → list_all P every ≡ true → (c : Class) → P c ≡ true
all_of P all c =
    let at = place c in
    ap P (sym at.2) ∙ list_all-get P every at.0 c all at.1

is_right : Production → Dialect → Class → Class → Bool
is_right p s c d = same_bool (production_starts (grammar s) p c d) (alternative_starts s p c d)

abbrev IsRight : Production → Dialect → Type 0
IsRight p s = list_all (λ c. list_all (λ d. is_right p s c d) every) every ≡ true

right_at-TranslationUnit : (s : Edition) → IsRight TranslationUnit (Iso s)
unfolding is_right same_bool
right_at-TranslationUnit = by_edition (λ s. IsRight TranslationUnit (Iso s)) refl refl

right_at-External : (s : Edition) → IsRight External (Iso s)
unfolding is_right same_bool
right_at-External = by_edition (λ s. IsRight External (Iso s)) refl refl

right_at-ExtRest : (s : Edition) → IsRight ExtRest (Iso s)
unfolding is_right same_bool
right_at-ExtRest s = refl

right_at-ExtTail : (s : Edition) → IsRight ExtTail (Iso s)
unfolding is_right same_bool
right_at-ExtTail = by_edition (λ s. IsRight ExtTail (Iso s)) refl refl

right_at-FunBody : (s : Edition) → IsRight FunBody (Iso s)
unfolding is_right same_bool
right_at-FunBody = by_edition (λ s. IsRight FunBody (Iso s)) refl refl

right_at-Declaration : (s : Edition) → IsRight Declaration (Iso s)
unfolding is_right same_bool
right_at-Declaration = by_edition (λ s. IsRight Declaration (Iso s)) refl refl

right_at-DeclRest : (s : Edition) → IsRight DeclRest (Iso s)
unfolding is_right same_bool
right_at-DeclRest s = refl

right_at-InitDecl : (s : Edition) → IsRight InitDecl (Iso s)
unfolding is_right same_bool
right_at-InitDecl s = refl

right_at-Sassert : (s : Edition) → IsRight Sassert (Iso s)
unfolding is_right same_bool
right_at-Sassert = by_edition (λ s. IsRight Sassert (Iso s)) refl refl

right_at-Specs : (s : Edition) → IsRight Specs (Iso s)
unfolding is_right same_bool
right_at-Specs = by_edition (λ s. IsRight Specs (Iso s)) refl refl

right_at-Main : (s : Edition) → IsRight Main (Iso s)
unfolding is_right same_bool
right_at-Main = by_edition (λ s. IsRight Main (Iso s)) refl refl

right_at-Mod : (s : Edition) → IsRight Mod (Iso s)
unfolding is_right same_bool
right_at-Mod = by_edition (λ s. IsRight Mod (Iso s)) refl refl

right_at-Qual : (s : Edition) → IsRight Qual (Iso s)
unfolding is_right same_bool
right_at-Qual s = refl

right_at-Word : (s : Edition) → IsRight Word (Iso s)
unfolding is_right same_bool
right_at-Word s = refl

right_at-StructSpec : (s : Edition) → IsRight StructSpec (Iso s)
unfolding is_right same_bool
right_at-StructSpec s = refl

right_at-SuRest : (s : Edition) → IsRight SuRest (Iso s)
unfolding is_right same_bool
right_at-SuRest s = refl

right_at-Members : (s : Edition) → IsRight Members (Iso s)
unfolding is_right same_bool
right_at-Members = by_edition (λ s. IsRight Members (Iso s)) refl refl

right_at-Member : (s : Edition) → IsRight Member (Iso s)
unfolding is_right same_bool
right_at-Member = by_edition (λ s. IsRight Member (Iso s)) refl refl

right_at-MemRest : (s : Edition) → IsRight MemRest (Iso s)
unfolding is_right same_bool
right_at-MemRest = by_edition (λ s. IsRight MemRest (Iso s)) refl refl

right_at-Mdecl : (s : Edition) → IsRight Mdecl (Iso s)
unfolding is_right same_bool
right_at-Mdecl s = refl

right_at-EnumSpec : (s : Edition) → IsRight EnumSpec (Iso s)
unfolding is_right same_bool
right_at-EnumSpec s = refl

right_at-EnRest : (s : Edition) → IsRight EnRest (Iso s)
unfolding is_right same_bool
right_at-EnRest s = refl

right_at-Enumerators : (s : Edition) → IsRight Enumerators (Iso s)
unfolding is_right same_bool
right_at-Enumerators s = refl

right_at-Enumerator : (s : Edition) → IsRight Enumerator (Iso s)
unfolding is_right same_bool
right_at-Enumerator s = refl

right_at-Declarator : (s : Edition) → IsRight Declarator (Iso s)
unfolding is_right same_bool
right_at-Declarator s = refl

right_at-Pointer : (s : Edition) → IsRight Pointer (Iso s)
unfolding is_right same_bool
right_at-Pointer s = refl

right_at-Direct : (s : Edition) → IsRight Direct (Iso s)
unfolding is_right same_bool
right_at-Direct s = refl

right_at-Suffix : (s : Edition) → IsRight Suffix (Iso s)
unfolding is_right same_bool
right_at-Suffix s = refl

right_at-Bound : (s : Edition) → IsRight Bound (Iso s)
unfolding is_right same_bool
right_at-Bound s = refl

right_at-Params : (s : Edition) → IsRight Params (Iso s)
unfolding is_right same_bool
right_at-Params = by_edition (λ s. IsRight Params (Iso s)) refl refl

right_at-Param : (s : Edition) → IsRight Param (Iso s)
unfolding is_right same_bool
right_at-Param = by_edition (λ s. IsRight Param (Iso s)) refl refl

right_at-Pdecl : (s : Edition) → IsRight Pdecl (Iso s)
unfolding is_right same_bool
right_at-Pdecl s = refl

right_at-Pdirect : (s : Edition) → IsRight Pdirect (Iso s)
unfolding is_right same_bool
right_at-Pdirect s = refl

right_at-TypeName : (s : Edition) → IsRight TypeName (Iso s)
unfolding is_right same_bool
right_at-TypeName = by_edition (λ s. IsRight TypeName (Iso s)) refl refl

right_at-Adecl : (s : Edition) → IsRight Adecl (Iso s)
unfolding is_right same_bool
right_at-Adecl s = refl

right_at-Adirect : (s : Edition) → IsRight Adirect (Iso s)
unfolding is_right same_bool
right_at-Adirect s = refl

right_at-Init : (s : Edition) → IsRight Init (Iso s)
unfolding is_right same_bool
right_at-Init s = refl

right_at-InitList : (s : Edition) → IsRight InitList (Iso s)
unfolding is_right same_bool
right_at-InitList s = refl

right_at-InitItem : (s : Edition) → IsRight InitItem (Iso s)
unfolding is_right same_bool
right_at-InitItem s = refl

right_at-Designator : (s : Edition) → IsRight Designator (Iso s)
unfolding is_right same_bool
right_at-Designator s = refl

right_at-Expr : (s : Edition) → IsRight Expr (Iso s)
unfolding is_right same_bool
right_at-Expr s = refl

right_at-Assign : (s : Edition) → IsRight Assign (Iso s)
unfolding is_right same_bool
right_at-Assign s = refl

right_at-Asgop : (s : Edition) → IsRight Asgop (Iso s)
unfolding is_right same_bool
right_at-Asgop s = refl

right_at-Cond : (s : Edition) → IsRight Cond (Iso s)
unfolding is_right same_bool
right_at-Cond s = refl

right_at-Lor : (s : Edition) → IsRight Lor (Iso s)
unfolding is_right same_bool
right_at-Lor s = refl

right_at-Land : (s : Edition) → IsRight Land (Iso s)
unfolding is_right same_bool
right_at-Land s = refl

right_at-Bor : (s : Edition) → IsRight Bor (Iso s)
unfolding is_right same_bool
right_at-Bor s = refl

right_at-Bxor : (s : Edition) → IsRight Bxor (Iso s)
unfolding is_right same_bool
right_at-Bxor s = refl

right_at-Band : (s : Edition) → IsRight Band (Iso s)
unfolding is_right same_bool
right_at-Band s = refl

right_at-Equal : (s : Edition) → IsRight Equal (Iso s)
unfolding is_right same_bool
right_at-Equal s = refl

right_at-Relate : (s : Edition) → IsRight Relate (Iso s)
unfolding is_right same_bool
right_at-Relate s = refl

right_at-Shift : (s : Edition) → IsRight Shift (Iso s)
unfolding is_right same_bool
right_at-Shift s = refl

right_at-Add : (s : Edition) → IsRight Add (Iso s)
unfolding is_right same_bool
right_at-Add s = refl

right_at-Mul : (s : Edition) → IsRight Mul (Iso s)
unfolding is_right same_bool
right_at-Mul s = refl

right_at-Cast : (s : Edition) → IsRight Cast (Iso s)
unfolding is_right same_bool
right_at-Cast = by_edition (λ s. IsRight Cast (Iso s)) refl refl

right_at-CastRest : (s : Edition) → IsRight CastRest (Iso s)
unfolding is_right same_bool
right_at-CastRest s = refl

right_at-Unary : (s : Edition) → IsRight Unary (Iso s)
unfolding is_right same_bool
right_at-Unary s = refl

right_at-SizeRest : (s : Edition) → IsRight SizeRest (Iso s)
unfolding is_right same_bool
right_at-SizeRest = by_edition (λ s. IsRight SizeRest (Iso s)) refl refl

right_at-SizeLit : (s : Edition) → IsRight SizeLit (Iso s)
unfolding is_right same_bool
right_at-SizeLit s = refl

right_at-Primary : (s : Edition) → IsRight Primary (Iso s)
unfolding is_right same_bool
right_at-Primary s = refl

right_at-Post : (s : Edition) → IsRight Post (Iso s)
unfolding is_right same_bool
right_at-Post s = refl

right_at-Args : (s : Edition) → IsRight Args (Iso s)
unfolding is_right same_bool
right_at-Args s = refl

right_at-Block : (s : Edition) → IsRight Block (Iso s)
unfolding is_right same_bool
right_at-Block s = refl

right_at-BlockItem : (s : Edition) → IsRight BlockItem (Iso s)
unfolding is_right same_bool
right_at-BlockItem = by_edition (λ s. IsRight BlockItem (Iso s)) refl refl

right_at-Statement : (s : Edition) → IsRight Statement (Iso s)
unfolding is_right same_bool
right_at-Statement s = refl

right_at-Sub : (s : Edition) → IsRight Sub (Iso s)
unfolding is_right same_bool
right_at-Sub s = refl

right_at-ForInit : (s : Edition) → IsRight ForInit (Iso s)
unfolding is_right same_bool
right_at-ForInit = by_edition (λ s. IsRight ForInit (Iso s)) refl refl

right_at-AutoDecl : (s : Edition) → IsRight AutoDecl (Iso s)
unfolding is_right same_bool
right_at-AutoDecl s = refl

right_at-Attr : (s : Edition) → IsRight Attr (Iso s)
unfolding is_right same_bool
right_at-Attr s = refl

right_at-AttrItem : (s : Edition) → IsRight AttrItem (Iso s)
unfolding is_right same_bool
right_at-AttrItem s = refl

right_at-AttrWord : (s : Edition) → IsRight AttrWord (Iso s)
unfolding is_right same_bool
right_at-AttrWord s = refl

right_at-AsmName : (s : Edition) → IsRight AsmName (Iso s)
unfolding is_right same_bool
right_at-AsmName s = refl

right_at-Operand : (s : Edition) → IsRight Operand (Iso s)
unfolding is_right same_bool
right_at-Operand s = refl

right_at-Association : (s : Edition) → IsRight Association (Iso s)
unfolding is_right same_bool
right_at-Association s = refl

right_at-MemberPath : (s : Edition) → IsRight MemberPath (Iso s)
unfolding is_right same_bool
right_at-MemberPath s = refl

right_at-AsmPart : (s : Edition) → IsRight AsmPart (Iso s)
unfolding is_right same_bool
right_at-AsmPart s = refl

right_at-AsmOperand : (s : Edition) → IsRight AsmOperand (Iso s)
unfolding is_right same_bool
right_at-AsmOperand s = refl

iso_right_at : (p : Production) (s : Edition) → IsRight p (Iso s)
iso_right_at TranslationUnit s = right_at-TranslationUnit s
iso_right_at External s = right_at-External s
iso_right_at ExtRest s = right_at-ExtRest s
iso_right_at ExtTail s = right_at-ExtTail s
iso_right_at FunBody s = right_at-FunBody s
iso_right_at Declaration s = right_at-Declaration s
iso_right_at DeclRest s = right_at-DeclRest s
iso_right_at InitDecl s = right_at-InitDecl s
iso_right_at Sassert s = right_at-Sassert s
iso_right_at Specs s = right_at-Specs s
iso_right_at Main s = right_at-Main s
iso_right_at Mod s = right_at-Mod s
iso_right_at Qual s = right_at-Qual s
iso_right_at Word s = right_at-Word s
iso_right_at StructSpec s = right_at-StructSpec s
iso_right_at SuRest s = right_at-SuRest s
iso_right_at Members s = right_at-Members s
iso_right_at Member s = right_at-Member s
iso_right_at MemRest s = right_at-MemRest s
iso_right_at Mdecl s = right_at-Mdecl s
iso_right_at EnumSpec s = right_at-EnumSpec s
iso_right_at EnRest s = right_at-EnRest s
iso_right_at Enumerators s = right_at-Enumerators s
iso_right_at Enumerator s = right_at-Enumerator s
iso_right_at Declarator s = right_at-Declarator s
iso_right_at Pointer s = right_at-Pointer s
iso_right_at Direct s = right_at-Direct s
iso_right_at Suffix s = right_at-Suffix s
iso_right_at Bound s = right_at-Bound s
iso_right_at Params s = right_at-Params s
iso_right_at Param s = right_at-Param s
iso_right_at Pdecl s = right_at-Pdecl s
iso_right_at Pdirect s = right_at-Pdirect s
iso_right_at TypeName s = right_at-TypeName s
iso_right_at Adecl s = right_at-Adecl s
iso_right_at Adirect s = right_at-Adirect s
iso_right_at Init s = right_at-Init s
iso_right_at InitList s = right_at-InitList s
iso_right_at InitItem s = right_at-InitItem s
iso_right_at Designator s = right_at-Designator s
iso_right_at Expr s = right_at-Expr s
iso_right_at Assign s = right_at-Assign s
iso_right_at Asgop s = right_at-Asgop s
iso_right_at Cond s = right_at-Cond s
iso_right_at Lor s = right_at-Lor s
iso_right_at Land s = right_at-Land s
iso_right_at Bor s = right_at-Bor s
iso_right_at Bxor s = right_at-Bxor s
iso_right_at Band s = right_at-Band s
iso_right_at Equal s = right_at-Equal s
iso_right_at Relate s = right_at-Relate s
iso_right_at Shift s = right_at-Shift s
iso_right_at Add s = right_at-Add s
iso_right_at Mul s = right_at-Mul s
iso_right_at Cast s = right_at-Cast s
iso_right_at CastRest s = right_at-CastRest s
iso_right_at Unary s = right_at-Unary s
iso_right_at SizeRest s = right_at-SizeRest s
iso_right_at SizeLit s = right_at-SizeLit s
iso_right_at Primary s = right_at-Primary s
iso_right_at Post s = right_at-Post s
iso_right_at Args s = right_at-Args s
iso_right_at Block s = right_at-Block s
iso_right_at BlockItem s = right_at-BlockItem s
iso_right_at Statement s = right_at-Statement s
iso_right_at Sub s = right_at-Sub s
iso_right_at ForInit s = right_at-ForInit s
iso_right_at AutoDecl s = right_at-AutoDecl s
iso_right_at Attr s = right_at-Attr s
iso_right_at AttrItem s = right_at-AttrItem s
iso_right_at AttrWord s = right_at-AttrWord s
iso_right_at AsmName s = right_at-AsmName s
iso_right_at Operand s = right_at-Operand s
iso_right_at Association s = right_at-Association s
iso_right_at MemberPath s = right_at-MemberPath s
iso_right_at AsmPart s = right_at-AsmPart s
iso_right_at AsmOperand s = right_at-AsmOperand s

gnu_right_at-TranslationUnit : IsRight TranslationUnit Gnu
unfolding is_right same_bool
gnu_right_at-TranslationUnit = refl

gnu_right_at-External : IsRight External Gnu
unfolding is_right same_bool
gnu_right_at-External = refl

gnu_right_at-ExtRest : IsRight ExtRest Gnu
unfolding is_right same_bool
gnu_right_at-ExtRest = refl

gnu_right_at-ExtTail : IsRight ExtTail Gnu
unfolding is_right same_bool
gnu_right_at-ExtTail = refl

gnu_right_at-FunBody : IsRight FunBody Gnu
unfolding is_right same_bool
gnu_right_at-FunBody = refl

gnu_right_at-Declaration : IsRight Declaration Gnu
unfolding is_right same_bool
gnu_right_at-Declaration = refl

gnu_right_at-DeclRest : IsRight DeclRest Gnu
unfolding is_right same_bool
gnu_right_at-DeclRest = refl

gnu_right_at-InitDecl : IsRight InitDecl Gnu
unfolding is_right same_bool
gnu_right_at-InitDecl = refl

gnu_right_at-Sassert : IsRight Sassert Gnu
unfolding is_right same_bool
gnu_right_at-Sassert = refl

gnu_right_at-Specs : IsRight Specs Gnu
unfolding is_right same_bool
gnu_right_at-Specs = refl

gnu_right_at-Main : IsRight Main Gnu
unfolding is_right same_bool
gnu_right_at-Main = refl

gnu_right_at-Mod : IsRight Mod Gnu
unfolding is_right same_bool
gnu_right_at-Mod = refl

gnu_right_at-Qual : IsRight Qual Gnu
unfolding is_right same_bool
gnu_right_at-Qual = refl

gnu_right_at-Word : IsRight Word Gnu
unfolding is_right same_bool
gnu_right_at-Word = refl

gnu_right_at-StructSpec : IsRight StructSpec Gnu
unfolding is_right same_bool
gnu_right_at-StructSpec = refl

gnu_right_at-SuRest : IsRight SuRest Gnu
unfolding is_right same_bool
gnu_right_at-SuRest = refl

gnu_right_at-Members : IsRight Members Gnu
unfolding is_right same_bool
gnu_right_at-Members = refl

gnu_right_at-Member : IsRight Member Gnu
unfolding is_right same_bool
gnu_right_at-Member = refl

gnu_right_at-MemRest : IsRight MemRest Gnu
unfolding is_right same_bool
gnu_right_at-MemRest = refl

gnu_right_at-Mdecl : IsRight Mdecl Gnu
unfolding is_right same_bool
gnu_right_at-Mdecl = refl

gnu_right_at-EnumSpec : IsRight EnumSpec Gnu
unfolding is_right same_bool
gnu_right_at-EnumSpec = refl

gnu_right_at-EnRest : IsRight EnRest Gnu
unfolding is_right same_bool
gnu_right_at-EnRest = refl

gnu_right_at-Enumerators : IsRight Enumerators Gnu
unfolding is_right same_bool
gnu_right_at-Enumerators = refl

gnu_right_at-Enumerator : IsRight Enumerator Gnu
unfolding is_right same_bool
gnu_right_at-Enumerator = refl

gnu_right_at-Declarator : IsRight Declarator Gnu
unfolding is_right same_bool
gnu_right_at-Declarator = refl

gnu_right_at-Pointer : IsRight Pointer Gnu
unfolding is_right same_bool
gnu_right_at-Pointer = refl

gnu_right_at-Direct : IsRight Direct Gnu
unfolding is_right same_bool
gnu_right_at-Direct = refl

gnu_right_at-Suffix : IsRight Suffix Gnu
unfolding is_right same_bool
gnu_right_at-Suffix = refl

gnu_right_at-Bound : IsRight Bound Gnu
unfolding is_right same_bool
gnu_right_at-Bound = refl

gnu_right_at-Params : IsRight Params Gnu
unfolding is_right same_bool
gnu_right_at-Params = refl

gnu_right_at-Param : IsRight Param Gnu
unfolding is_right same_bool
gnu_right_at-Param = refl

gnu_right_at-Pdecl : IsRight Pdecl Gnu
unfolding is_right same_bool
gnu_right_at-Pdecl = refl

gnu_right_at-Pdirect : IsRight Pdirect Gnu
unfolding is_right same_bool
gnu_right_at-Pdirect = refl

gnu_right_at-TypeName : IsRight TypeName Gnu
unfolding is_right same_bool
gnu_right_at-TypeName = refl

gnu_right_at-Adecl : IsRight Adecl Gnu
unfolding is_right same_bool
gnu_right_at-Adecl = refl

gnu_right_at-Adirect : IsRight Adirect Gnu
unfolding is_right same_bool
gnu_right_at-Adirect = refl

gnu_right_at-Init : IsRight Init Gnu
unfolding is_right same_bool
gnu_right_at-Init = refl

gnu_right_at-InitList : IsRight InitList Gnu
unfolding is_right same_bool
gnu_right_at-InitList = refl

gnu_right_at-InitItem : IsRight InitItem Gnu
unfolding is_right same_bool
gnu_right_at-InitItem = refl

gnu_right_at-Designator : IsRight Designator Gnu
unfolding is_right same_bool
gnu_right_at-Designator = refl

gnu_right_at-Expr : IsRight Expr Gnu
unfolding is_right same_bool
gnu_right_at-Expr = refl

gnu_right_at-Assign : IsRight Assign Gnu
unfolding is_right same_bool
gnu_right_at-Assign = refl

gnu_right_at-Asgop : IsRight Asgop Gnu
unfolding is_right same_bool
gnu_right_at-Asgop = refl

gnu_right_at-Cond : IsRight Cond Gnu
unfolding is_right same_bool
gnu_right_at-Cond = refl

gnu_right_at-Lor : IsRight Lor Gnu
unfolding is_right same_bool
gnu_right_at-Lor = refl

gnu_right_at-Land : IsRight Land Gnu
unfolding is_right same_bool
gnu_right_at-Land = refl

gnu_right_at-Bor : IsRight Bor Gnu
unfolding is_right same_bool
gnu_right_at-Bor = refl

gnu_right_at-Bxor : IsRight Bxor Gnu
unfolding is_right same_bool
gnu_right_at-Bxor = refl

gnu_right_at-Band : IsRight Band Gnu
unfolding is_right same_bool
gnu_right_at-Band = refl

gnu_right_at-Equal : IsRight Equal Gnu
unfolding is_right same_bool
gnu_right_at-Equal = refl

gnu_right_at-Relate : IsRight Relate Gnu
unfolding is_right same_bool
gnu_right_at-Relate = refl

gnu_right_at-Shift : IsRight Shift Gnu
unfolding is_right same_bool
gnu_right_at-Shift = refl

gnu_right_at-Add : IsRight Add Gnu
unfolding is_right same_bool
gnu_right_at-Add = refl

gnu_right_at-Mul : IsRight Mul Gnu
unfolding is_right same_bool
gnu_right_at-Mul = refl

gnu_right_at-Cast : IsRight Cast Gnu
unfolding is_right same_bool
gnu_right_at-Cast = refl

gnu_right_at-CastRest : IsRight CastRest Gnu
unfolding is_right same_bool
gnu_right_at-CastRest = refl

gnu_right_at-Unary : IsRight Unary Gnu
unfolding is_right same_bool
gnu_right_at-Unary = refl

gnu_right_at-SizeRest : IsRight SizeRest Gnu
unfolding is_right same_bool
gnu_right_at-SizeRest = refl

gnu_right_at-SizeLit : IsRight SizeLit Gnu
unfolding is_right same_bool
gnu_right_at-SizeLit = refl

gnu_right_at-Primary : IsRight Primary Gnu
unfolding is_right same_bool
gnu_right_at-Primary = refl

gnu_right_at-Post : IsRight Post Gnu
unfolding is_right same_bool
gnu_right_at-Post = refl

gnu_right_at-Args : IsRight Args Gnu
unfolding is_right same_bool
gnu_right_at-Args = refl

gnu_right_at-Block : IsRight Block Gnu
unfolding is_right same_bool
gnu_right_at-Block = refl

gnu_right_at-BlockItem : IsRight BlockItem Gnu
unfolding is_right same_bool
gnu_right_at-BlockItem = refl

gnu_right_at-Statement : IsRight Statement Gnu
unfolding is_right same_bool
gnu_right_at-Statement = refl

gnu_right_at-Sub : IsRight Sub Gnu
unfolding is_right same_bool
gnu_right_at-Sub = refl

gnu_right_at-ForInit : IsRight ForInit Gnu
unfolding is_right same_bool
gnu_right_at-ForInit = refl

gnu_right_at-AutoDecl : IsRight AutoDecl Gnu
unfolding is_right same_bool
gnu_right_at-AutoDecl = refl

gnu_right_at-Attr : IsRight Attr Gnu
unfolding is_right same_bool
gnu_right_at-Attr = refl

gnu_right_at-AttrItem : IsRight AttrItem Gnu
unfolding is_right same_bool
gnu_right_at-AttrItem = refl

gnu_right_at-AttrWord : IsRight AttrWord Gnu
unfolding is_right same_bool
gnu_right_at-AttrWord = refl

gnu_right_at-AsmName : IsRight AsmName Gnu
unfolding is_right same_bool
gnu_right_at-AsmName = refl

gnu_right_at-Operand : IsRight Operand Gnu
unfolding is_right same_bool
gnu_right_at-Operand = refl

gnu_right_at-Association : IsRight Association Gnu
unfolding is_right same_bool
gnu_right_at-Association = refl

gnu_right_at-MemberPath : IsRight MemberPath Gnu
unfolding is_right same_bool
gnu_right_at-MemberPath = refl

gnu_right_at-AsmPart : IsRight AsmPart Gnu
unfolding is_right same_bool
gnu_right_at-AsmPart = refl

gnu_right_at-AsmOperand : IsRight AsmOperand Gnu
unfolding is_right same_bool
gnu_right_at-AsmOperand = refl

gnu_right_at : (p : Production) → IsRight p Gnu
gnu_right_at TranslationUnit = gnu_right_at-TranslationUnit
gnu_right_at External = gnu_right_at-External
gnu_right_at ExtRest = gnu_right_at-ExtRest
gnu_right_at ExtTail = gnu_right_at-ExtTail
gnu_right_at FunBody = gnu_right_at-FunBody
gnu_right_at Declaration = gnu_right_at-Declaration
gnu_right_at DeclRest = gnu_right_at-DeclRest
gnu_right_at InitDecl = gnu_right_at-InitDecl
gnu_right_at Sassert = gnu_right_at-Sassert
gnu_right_at Specs = gnu_right_at-Specs
gnu_right_at Main = gnu_right_at-Main
gnu_right_at Mod = gnu_right_at-Mod
gnu_right_at Qual = gnu_right_at-Qual
gnu_right_at Word = gnu_right_at-Word
gnu_right_at StructSpec = gnu_right_at-StructSpec
gnu_right_at SuRest = gnu_right_at-SuRest
gnu_right_at Members = gnu_right_at-Members
gnu_right_at Member = gnu_right_at-Member
gnu_right_at MemRest = gnu_right_at-MemRest
gnu_right_at Mdecl = gnu_right_at-Mdecl
gnu_right_at EnumSpec = gnu_right_at-EnumSpec
gnu_right_at EnRest = gnu_right_at-EnRest
gnu_right_at Enumerators = gnu_right_at-Enumerators
gnu_right_at Enumerator = gnu_right_at-Enumerator
gnu_right_at Declarator = gnu_right_at-Declarator
gnu_right_at Pointer = gnu_right_at-Pointer
gnu_right_at Direct = gnu_right_at-Direct
gnu_right_at Suffix = gnu_right_at-Suffix
gnu_right_at Bound = gnu_right_at-Bound
gnu_right_at Params = gnu_right_at-Params
gnu_right_at Param = gnu_right_at-Param
gnu_right_at Pdecl = gnu_right_at-Pdecl
gnu_right_at Pdirect = gnu_right_at-Pdirect
gnu_right_at TypeName = gnu_right_at-TypeName
gnu_right_at Adecl = gnu_right_at-Adecl
gnu_right_at Adirect = gnu_right_at-Adirect
gnu_right_at Init = gnu_right_at-Init
gnu_right_at InitList = gnu_right_at-InitList
gnu_right_at InitItem = gnu_right_at-InitItem
gnu_right_at Designator = gnu_right_at-Designator
gnu_right_at Expr = gnu_right_at-Expr
gnu_right_at Assign = gnu_right_at-Assign
gnu_right_at Asgop = gnu_right_at-Asgop
gnu_right_at Cond = gnu_right_at-Cond
gnu_right_at Lor = gnu_right_at-Lor
gnu_right_at Land = gnu_right_at-Land
gnu_right_at Bor = gnu_right_at-Bor
gnu_right_at Bxor = gnu_right_at-Bxor
gnu_right_at Band = gnu_right_at-Band
gnu_right_at Equal = gnu_right_at-Equal
gnu_right_at Relate = gnu_right_at-Relate
gnu_right_at Shift = gnu_right_at-Shift
gnu_right_at Add = gnu_right_at-Add
gnu_right_at Mul = gnu_right_at-Mul
gnu_right_at Cast = gnu_right_at-Cast
gnu_right_at CastRest = gnu_right_at-CastRest
gnu_right_at Unary = gnu_right_at-Unary
gnu_right_at SizeRest = gnu_right_at-SizeRest
gnu_right_at SizeLit = gnu_right_at-SizeLit
gnu_right_at Primary = gnu_right_at-Primary
gnu_right_at Post = gnu_right_at-Post
gnu_right_at Args = gnu_right_at-Args
gnu_right_at Block = gnu_right_at-Block
gnu_right_at BlockItem = gnu_right_at-BlockItem
gnu_right_at Statement = gnu_right_at-Statement
gnu_right_at Sub = gnu_right_at-Sub
gnu_right_at ForInit = gnu_right_at-ForInit
gnu_right_at AutoDecl = gnu_right_at-AutoDecl
gnu_right_at Attr = gnu_right_at-Attr
gnu_right_at AttrItem = gnu_right_at-AttrItem
gnu_right_at AttrWord = gnu_right_at-AttrWord
gnu_right_at AsmName = gnu_right_at-AsmName
gnu_right_at Operand = gnu_right_at-Operand
gnu_right_at Association = gnu_right_at-Association
gnu_right_at MemberPath = gnu_right_at-MemberPath
gnu_right_at AsmPart = gnu_right_at-AsmPart
gnu_right_at AsmOperand = gnu_right_at-AsmOperand

right_at : (p : Production) (d : Dialect) → IsRight p d
right_at p = by_dialect (IsRight p) (λ s. iso_right_at p s) (gnu_right_at p)

pub first_sets : FirstSetsAreTheTables
unfolding is_right
first_sets s p c d =
    same_bool-true _ _ (all_of (is_right p s c) (all_of (λ k. list_all (λ n. is_right p s k n) every) (right_at p s) c) d)
