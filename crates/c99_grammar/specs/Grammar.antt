-- The grammars of C99 and C11 as data (ISO/IEC 9899:1999 and 9899:2011, Annex A.2): each production with its alternatives.
-- Differs: it is wider in places, and each construct that may nest is marked `deep`. docs/PROFILE.md
-- says where. The productions have the names that the labels of trees give them, and those of no alternative are not
-- of that edition. The editions differ in the rows that have a definition of their own; `GnuGrammar` has those of GNU C.
use Rattle.std.specs.Prelude.{List, [], ◌∷◌}
use Rattle.c99_grammar.specs.declared.dialects.Edition.{Edition}
use Rattle.c99_grammar.specs.declared.dialects.Edition.TheVariants.{C99, C11}
use Rattle.c99_tree.specs.declared.production.Production.{Production}
use Rattle.c99_tree.specs.declared.production.Production.TheVariants.{TranslationUnit, External, ExtRest, ExtTail, FunBody, Declaration, DeclRest, InitDecl, Sassert, Specs, Main, Mod, Qual, Word, StructSpec, SuRest, Members, Member, MemRest, Mdecl, EnumSpec, EnRest, Enumerators, Enumerator, Declarator, Pointer, Direct, Suffix, Bound, Params, Param, Pdecl, Pdirect, TypeName, Adecl, Adirect, Init, InitList, InitItem, Designator, Expr, Assign, Asgop, Cond, Lor, Land, Bor, Bxor, Band, Equal, Relate, Shift, Add, Mul, Cast, CastRest, Unary, SizeRest, SizeLit, Primary, Post, Args, Block, BlockItem, Statement, Sub, ForInit}
use Rattle.c99_grammar.specs.declared.classes.Class.TheVariants.{Auto, Break, Case, Char, Const, Continue, Default, Do, Double, Else, Enum, Extern, Float, For, Goto, If, Inline, Int, Long, Register, Restrict, Return, Short, Signed, Sizeof, Static, Struct, Switch, Typedef, Union, Unsigned, Void, Volatile, While, BoolWord, ComplexWord, ImaginaryWord, Alignas, Alignof, Atomic, Generic, Noreturn, StaticAssert, ThreadLocal, LeftBracket, RightBracket, LeftParen, RightParen, LeftBrace, RightBrace, Dot, Arrow, PlusPlus, MinusMinus, Amp, Star, Plus, Minus, Tilde, Bang, Slash, Percent, ShiftLeft, ShiftRight, Less, Greater, LessEq, GreaterEq, EqEq, BangEq, Caret, Bar, AmpAmp, BarBar, Question, Colon, Semicolon, Ellipsis, Eq, StarEq, SlashEq, PercentEq, PlusEq, MinusEq, ShiftLeftEq, ShiftRightEq, AmpEq, CaretEq, BarEq, Comma, Identifier, TypedefName, Constant, CharConstant, StringLiteral}
use Rattle.c99_grammar.specs.Items.{one, part, end_of_text, act, ◌·◌, choice, maybe, many, deep, tok, any_name, some, names, own, otherwise, next, next_two, is, is_not, begins, either, scope, end, declare, name, keep, again, Alternative, plain, when}

-- external-declaration (6.9; C11 6.7.10)
abbrev pub externals : Edition → List Alternative
externals C99 =
    plain (tok Semicolon) ∷
    plain (part Specs · part ExtRest) ∷ []
externals C11 =
    plain (tok Semicolon) ∷
    plain (part Sassert) ∷
    plain (part Specs · part ExtRest) ∷ []

-- declaration (6.7; C11 6.7.10)
abbrev pub declarations : Edition → List Alternative
declarations C99 = plain (part Specs · part DeclRest) ∷ []
declarations C11 =
    plain (part Sassert) ∷
    plain (part Specs · part DeclRest) ∷ []

-- static_assert-declaration (C11 6.7.10)
abbrev pub static_assertions : Edition → List Alternative
static_assertions C99 = []
static_assertions C11 =
    plain (tok StaticAssert · tok LeftParen · deep (part Cond) · tok Comma · some (tok StringLiteral) · tok RightParen ·
    tok Semicolon) ∷ []

-- storage-class-specifier, function-specifier and type-qualifier (6.7.1, 6.7.3, 6.7.4; C11 6.7.4)
abbrev pub modifiers : Edition → List Alternative
modifiers C99 =
    plain (tok Typedef) ∷
    plain (tok Extern) ∷
    plain (tok Static) ∷
    plain (tok Auto) ∷
    plain (tok Register) ∷
    plain (tok Inline) ∷
    plain (part Qual) ∷ []
modifiers C11 =
    plain (tok Typedef) ∷
    plain (tok Extern) ∷
    plain (tok Static) ∷
    plain (tok Auto) ∷
    plain (tok Register) ∷
    plain (tok Inline) ∷
    plain (tok Noreturn) ∷
    plain (part Qual) ∷ []

-- struct-declaration (6.7.2.1; C11 6.7.10)
abbrev pub member_lines : Edition → List Alternative
member_lines C99 =
    plain (tok Semicolon) ∷
    plain (part Specs · part Mdecl · many own (tok Comma · part Mdecl) · tok Semicolon) ∷ []
member_lines C11 =
    plain (tok Semicolon) ∷
    plain (part Sassert) ∷
    plain (part Specs · part MemRest) ∷ []

-- what follows the specifiers of members; a lone `;` makes an anonymous member (C11 6.7.2.1 paragraphs 2 and 13)
abbrev pub member_rests : Edition → List Alternative
member_rests C99 = []
member_rests C11 =
    plain (tok Semicolon) ∷
    plain (part Mdecl · many own (tok Comma · part Mdecl) · tok Semicolon) ∷ []

-- The production decides first, so that a row of both editions is the same for any edition.
abbrev pub table : Production → Edition → List Alternative
-- ---- External definitions (6.9)
table TranslationUnit s = plain (many own (part External) · end_of_text) ∷ []
table External s = externals s
table ExtRest s =
    plain (tok Semicolon) ∷
    plain (part Declarator · act declare · act again · part ExtTail) ∷ []
-- The names of the parameters are visible where a body or its declaration list is asked for (6.2.1 paragraph 4).
table ExtTail s =
    when (next (either (is (LeftBrace ∷ [])) (begins Specs))) (part FunBody) ∷
    when otherwise (act end · maybe (tok Eq · deep (part Init)) · many own (tok Comma · part InitDecl) ·
    tok Semicolon) ∷ []
table FunBody s =
    plain (many own (part Declaration) · tok LeftBrace · many own (deep (part BlockItem)) · act end ·
    tok RightBrace) ∷ []
table Declaration s = declarations s
table DeclRest s =
    plain (tok Semicolon) ∷
    plain (part InitDecl · many own (tok Comma · part InitDecl) · tok Semicolon) ∷ []
table InitDecl s = plain (part Declarator · act declare · maybe (tok Eq · deep (part Init))) ∷ []
table Sassert s = static_assertions s
-- ---- Declarations (6.7 to 6.7.2)
table Specs s = plain (many own (part Mod) · part Main) ∷ []
table Main s =
    plain (part Word · many own (choice (part Word) (part Mod))) ∷
    plain (part StructSpec · many own (part Mod)) ∷
    plain (part EnumSpec · many own (part Mod)) ∷
    plain (tok TypedefName · many own (part Mod)) ∷ []
table Mod s = modifiers s
table Qual s =
    plain (tok Const) ∷
    plain (tok Restrict) ∷
    plain (tok Volatile) ∷ []
table Word s =
    plain (tok Void) ∷
    plain (tok Char) ∷
    plain (tok Short) ∷
    plain (tok Int) ∷
    plain (tok Long) ∷
    plain (tok Float) ∷
    plain (tok Double) ∷
    plain (tok Signed) ∷
    plain (tok Unsigned) ∷
    plain (tok BoolWord) ∷
    plain (tok ComplexWord) ∷
    plain (tok ImaginaryWord) ∷ []
table StructSpec s = plain (one (Struct ∷ Union ∷ []) · part SuRest) ∷ []
table SuRest s =
    plain (any_name · maybe (tok LeftBrace · deep (part Members) · tok RightBrace)) ∷
    plain (tok LeftBrace · deep (part Members) · tok RightBrace) ∷ []
table Members s = plain (some (part Member)) ∷ []
table Member s = member_lines s
table MemRest s = member_rests s
table Mdecl s =
    plain (tok Colon · deep (part Cond)) ∷
    plain (part Declarator · maybe (tok Colon · deep (part Cond))) ∷ []
table EnumSpec s = plain (tok Enum · part EnRest) ∷ []
table EnRest s =
    plain (any_name · maybe (tok LeftBrace · deep (part Enumerators) · tok RightBrace)) ∷
    plain (tok LeftBrace · deep (part Enumerators) · tok RightBrace) ∷ []
table Enumerators s =
    plain (part Enumerator · many (next_two (is (Comma ∷ [])) (is names)) (tok Comma ·
    part Enumerator) · maybe (tok Comma)) ∷ []
table Enumerator s = plain (any_name · maybe (tok Eq · deep (part Cond)) · act name) ∷ []
-- ---- Declarators and type names (6.7.5, 6.7.6)
table Declarator s = plain (many own (part Pointer) · part Direct) ∷ []
table Pointer s = plain (tok Star · many own (part Qual)) ∷ []
table Direct s =
    plain (any_name · many own (part Suffix)) ∷
    plain (tok LeftParen · deep (part Declarator) · tok RightParen · many own (part Suffix)) ∷ []
table Suffix s =
    plain (tok LeftBracket · many own (choice (part Qual) (tok Static)) ·
    maybe (deep (part Bound)) · tok RightBracket) ∷
    plain (tok LeftParen · act scope · maybe (deep (part Params)) · act end · act keep ·
    tok RightParen) ∷ []
table Bound s =
    when (next_two (is (Star ∷ [])) (is (RightBracket ∷ []))) (tok Star) ∷
    plain (part Assign) ∷ []
table Params s =
    plain (tok Identifier · act name · many own (tok Comma · tok Identifier · act name)) ∷
    plain (part Param · many (next_two (is (Comma ∷ [])) (is_not (Ellipsis ∷ []))) (tok Comma ·
    part Param) · maybe (tok Comma · tok Ellipsis)) ∷ []
table Param s = plain (part Specs · maybe (part Pdecl) · act declare) ∷ []
table Pdecl s =
    plain (some (part Pointer) · maybe (part Pdirect)) ∷
    plain (part Pdirect) ∷ []
table Pdirect s =
    plain (any_name · many own (part Suffix)) ∷
    when (next_two (is (LeftParen ∷ [])) (is (LeftBracket ∷ LeftParen ∷ Star ∷ Identifier ∷ []))) (tok LeftParen ·
    deep (part Pdecl) · tok RightParen · many own (part Suffix)) ∷
    plain (some (part Suffix)) ∷ []
table TypeName s = plain (part Specs · maybe (part Adecl)) ∷ []
table Adecl s =
    plain (some (part Pointer) · maybe (part Adirect)) ∷
    plain (part Adirect) ∷ []
table Adirect s =
    when (next_two (is (LeftParen ∷ [])) (is (LeftBracket ∷ LeftParen ∷ Star ∷ []))) (tok LeftParen ·
    deep (part Adecl) · tok RightParen · many own (part Suffix)) ∷
    plain (some (part Suffix)) ∷ []
-- ---- Initialization (6.7.8)
table Init s =
    plain (tok LeftBrace · deep (part InitList) · tok RightBrace) ∷
    plain (part Assign) ∷ []
table InitList s =
    plain (part InitItem · many (next_two (is (Comma ∷ [])) (is_not (RightBrace ∷ []))) (tok Comma ·
    part InitItem) · maybe (tok Comma)) ∷ []
table InitItem s =
    plain (some (part Designator) · tok Eq · part Init) ∷
    plain (part Init) ∷ []
table Designator s =
    plain (tok Dot · any_name) ∷
    plain (tok LeftBracket · deep (part Cond) · tok RightBracket) ∷ []
-- ---- Expressions (6.5)
table Expr s = plain (part Assign · many own (tok Comma · part Assign)) ∷ []
table Assign s = plain (part Cond · maybe (part Asgop · deep (part Assign))) ∷ []
table Asgop s =
    plain (tok Eq) ∷
    plain (tok StarEq) ∷
    plain (tok SlashEq) ∷
    plain (tok PercentEq) ∷
    plain (tok PlusEq) ∷
    plain (tok MinusEq) ∷
    plain (tok ShiftLeftEq) ∷
    plain (tok ShiftRightEq) ∷
    plain (tok AmpEq) ∷
    plain (tok CaretEq) ∷
    plain (tok BarEq) ∷ []
table Cond s =
    plain (part Lor · maybe (tok Question · deep (part Expr) · tok Colon · deep (part Cond))) ∷ []
table Lor s = plain (part Land · many own (tok BarBar · part Land)) ∷ []
table Land s = plain (part Bor · many own (tok AmpAmp · part Bor)) ∷ []
table Bor s = plain (part Bxor · many own (tok Bar · part Bxor)) ∷ []
table Bxor s = plain (part Band · many own (tok Caret · part Band)) ∷ []
table Band s = plain (part Equal · many own (tok Amp · part Equal)) ∷ []
table Equal s = plain (part Relate · many own (one (EqEq ∷ BangEq ∷ []) · part Relate)) ∷ []
table Relate s =
    plain (part Shift · many own (one (Less ∷ Greater ∷ LessEq ∷ GreaterEq ∷ []) · part Shift)) ∷ []
table Shift s = plain (part Add · many own (one (ShiftLeft ∷ ShiftRight ∷ []) · part Add)) ∷ []
table Add s = plain (part Mul · many own (one (Plus ∷ Minus ∷ []) · part Mul)) ∷ []
table Mul s = plain (part Cast · many own (one (Star ∷ Slash ∷ Percent ∷ []) · part Cast)) ∷ []
table Cast s =
    when (next_two (is (LeftParen ∷ [])) (begins Specs)) (tok LeftParen · deep (part TypeName) ·
    tok RightParen · part CastRest) ∷
    plain (part Unary) ∷ []
table CastRest s =
    plain (tok LeftBrace · deep (part InitList) · tok RightBrace · many own (part Post)) ∷
    plain (deep (part Cast)) ∷ []
table Unary s =
    plain (one (PlusPlus ∷ MinusMinus ∷ Amp ∷ Star ∷ Plus ∷ Minus ∷ Tilde ∷ Bang ∷ []) ·
    deep (part Cast)) ∷
    plain (tok Sizeof · part SizeRest) ∷
    plain (part Primary · many own (part Post)) ∷ []
table SizeRest s =
    when (next_two (is (LeftParen ∷ [])) (begins Specs)) (tok LeftParen · deep (part TypeName) ·
    tok RightParen · maybe (part SizeLit)) ∷
    plain (deep (part Unary)) ∷ []
table SizeLit s =
    plain (tok LeftBrace · deep (part InitList) · tok RightBrace · many own (part Post)) ∷ []
table Primary s =
    plain (tok Identifier) ∷
    plain (tok Constant) ∷
    plain (tok CharConstant) ∷
    plain (some (tok StringLiteral)) ∷
    plain (tok LeftParen · deep (part Expr) · tok RightParen) ∷ []
table Post s =
    plain (tok LeftBracket · deep (part Expr) · tok RightBracket) ∷
    plain (tok LeftParen · maybe (deep (part Args)) · tok RightParen) ∷
    plain (tok Dot · any_name) ∷
    plain (tok Arrow · any_name) ∷
    plain (tok PlusPlus) ∷
    plain (tok MinusMinus) ∷ []
table Args s = plain (part Assign · many own (tok Comma · part Assign)) ∷ []
-- ---- Statements (6.8)
table Block s =
    plain (tok LeftBrace · act scope · many own (deep (part BlockItem)) · act end ·
    tok RightBrace) ∷ []
table BlockItem s =
    when (next_two (is names) (is (Colon ∷ []))) (part Statement) ∷
    plain (part Declaration) ∷
    plain (part Statement) ∷ []
table Statement s =
    when (next_two (is names) (is (Colon ∷ []))) (any_name · tok Colon · deep (part Statement)) ∷
    plain (tok Case · deep (part Cond) · tok Colon · deep (part Statement)) ∷
    plain (tok Default · tok Colon · deep (part Statement)) ∷
    plain (part Block) ∷
    plain (act scope · tok If · tok LeftParen · deep (part Expr) · tok RightParen · part Sub ·
    maybe (tok Else · part Sub) · act end) ∷
    plain (act scope · tok Switch · tok LeftParen · deep (part Expr) · tok RightParen · part Sub ·
    act end) ∷
    plain (act scope · tok While · tok LeftParen · deep (part Expr) · tok RightParen · part Sub ·
    act end) ∷
    plain (act scope · tok Do · part Sub · tok While · tok LeftParen · deep (part Expr) ·
    tok RightParen · tok Semicolon · act end) ∷
    plain (act scope · tok For · tok LeftParen · part ForInit · maybe (deep (part Expr)) ·
    tok Semicolon · maybe (deep (part Expr)) · tok RightParen · part Sub · act end) ∷
    plain (tok Goto · any_name · tok Semicolon) ∷
    plain (tok Continue · tok Semicolon) ∷
    plain (tok Break · tok Semicolon) ∷
    plain (tok Return · maybe (deep (part Expr)) · tok Semicolon) ∷
    plain (tok Semicolon) ∷
    plain (deep (part Expr) · tok Semicolon) ∷ []
table Sub s = plain (act scope · deep (part Statement) · act end) ∷ []
table ForInit s =
    plain (part Declaration) ∷
    plain (tok Semicolon) ∷
    plain (deep (part Expr) · tok Semicolon) ∷ []
-- ---- Productions of GNU C alone
table _ s = []
