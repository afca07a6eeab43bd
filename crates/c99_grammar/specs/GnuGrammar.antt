-- The grammar of GNU C as data, as gcc reads it: the rows that are not C11's.
-- Differs: it is wider in places. Attributes and assembler names stand in odd places too; `[` before `[` begins attributes
-- without a look at a third token. docs/PROFILE.md says where.
use Rattle.std.specs.Prelude.{List, [], ◌∷◌}
use Rattle.c99_grammar.specs.declared.dialects.Edition.TheVariants.{C11}
use Rattle.c99_tree.specs.declared.production.Production.{Production}
use Rattle.c99_tree.specs.declared.production.Production.TheVariants.{External, ExtRest, ExtTail, FunBody, Declaration, DeclRest, InitDecl, Sassert, Specs, Main, Mod, Qual, Word, StructSpec, SuRest, Members, Member, MemRest, Mdecl, EnumSpec, EnRest, Enumerator, Declarator, Pointer, Direct, Suffix, Bound, Params, Pdecl, Pdirect, TypeName, Adecl, Adirect, Init, InitList, InitItem, Designator, Expr, Assign, Cond, Lor, Cast, CastRest, Unary, SizeRest, SizeLit, Primary, Post, Args, Block, BlockItem, Statement, Sub, ForInit, AutoDecl, Attr, AttrItem, AttrWord, AsmName, Operand, Association, MemberPath, AsmPart, AsmOperand}
use Rattle.c99_grammar.specs.declared.classes.Class.TheVariants.{Auto, Break, Case, Const, Continue, Default, Do, Else, Enum, Extern, For, Goto, If, Inline, Register, Restrict, Return, Signed, Sizeof, Static, Struct, Switch, Typedef, Union, Volatile, While, Alignas, Alignof, Atomic, Generic, Noreturn, StaticAssert, ThreadLocal, AsmWord, TypeofWord, AttributeWord, ExtensionWord, LocalLabelWord, AutoTypeWord, RealPartWord, VaArgWord, OffsetofWord, TypesCompatibleWord, LeftBracket, RightBracket, LeftParen, RightParen, LeftBrace, RightBrace, Dot, Arrow, PlusPlus, MinusMinus, Amp, Star, Plus, Minus, Tilde, Bang, AmpAmp, Question, Colon, Semicolon, Ellipsis, Eq, Comma, Identifier, TypedefName, Constant, CharConstant, StringLiteral}
use Rattle.c99_grammar.specs.Items.{one, part, act, ◌·◌, choice, maybe, many, deep, tok, any_name, some, names, own, otherwise, next, next_two, is, is_not, begins, either, scope, end, name, keep, Alternative, plain, when}
use Rattle.c99_grammar.specs.Grammar.{table}

-- external-declaration (6.9): also an asm declaration, and `__extension__` in front
abbrev pub external_of_gnu : List Alternative
external_of_gnu =
    plain (tok Semicolon) ∷
    plain (part Sassert) ∷
    plain (many own (tok ExtensionWord) · part Specs · part ExtRest) ∷
    plain (tok AsmWord · tok LeftParen · some (tok StringLiteral) · tok RightParen · tok Semicolon) ∷ []

-- declarators of a declaration at file level, attributes in front of each but the first
abbrev pub ext_tail_of_gnu : List Alternative
ext_tail_of_gnu =
    when (next (either (is (LeftBrace ∷ [])) (begins Specs))) (part FunBody) ∷
    when otherwise (act end · maybe (tok Eq · deep (part Init)) · many own (tok Comma · many own (part Attr) ·
    part InitDecl) · tok Semicolon) ∷ []

-- declaration (6.7): also `__auto_type`, and `__extension__` in front
abbrev pub declaration_of_gnu : List Alternative
declaration_of_gnu =
    plain (part Sassert) ∷
    plain (many own (tok ExtensionWord) · part Specs · part DeclRest) ∷
    plain (part AutoDecl) ∷ []

-- init-declarator-list (6.7), attributes in front of each but the first
abbrev pub decl_rest_of_gnu : List Alternative
decl_rest_of_gnu =
    plain (tok Semicolon) ∷
    plain (part InitDecl · many own (tok Comma · many own (part Attr) · part InitDecl) · tok Semicolon) ∷ []

-- a name of the type of its initializer, visible behind it
abbrev pub auto_decl_of_gnu : List Alternative
auto_decl_of_gnu =
    plain (tok AutoTypeWord · many own (part Qual) · any_name · many own (part Attr) · tok Eq · deep (part Init) ·
    act name · tok Semicolon) ∷ []

-- struct-declaration (6.7.2.1), `__extension__` in front
abbrev pub member_of_gnu : List Alternative
member_of_gnu =
    plain (tok Semicolon) ∷
    plain (part Sassert) ∷
    plain (many own (tok ExtensionWord) · part Specs · part MemRest) ∷ []

-- static_assert-declaration (C11 6.7.10), perhaps with no string
abbrev pub sassert_of_gnu : List Alternative
sassert_of_gnu =
    plain (tok StaticAssert · tok LeftParen · deep (part Cond) · maybe (tok Comma · some (tok StringLiteral)) ·
    tok RightParen · tok Semicolon) ∷ []

-- attributes, `__attribute__((..))` or `[[..]]`
abbrev pub attr_of_gnu : List Alternative
attr_of_gnu =
    plain (tok AttributeWord · tok LeftParen · tok LeftParen · maybe (part AttrItem) · many own (tok Comma ·
    maybe (part AttrItem)) · tok RightParen · tok RightParen) ∷
    when (next_two (is (LeftBracket ∷ [])) (is (LeftBracket ∷ []))) (tok LeftBracket · tok LeftBracket ·
    maybe (part AttrItem) · many own (tok Comma · maybe (part AttrItem)) · tok RightBracket · tok RightBracket) ∷ []

-- an attribute, perhaps of a vendor, perhaps with arguments
abbrev pub attr_item_of_gnu : List Alternative
attr_item_of_gnu =
    plain (part AttrWord · maybe (tok Colon · tok Colon · any_name) · maybe (tok LeftParen ·
    maybe (deep (part Args)) · tok RightParen)) ∷ []

-- the word of an attribute: an identifier or a word of the language
abbrev pub attr_word_of_gnu : List Alternative
attr_word_of_gnu =
    plain (any_name) ∷
    plain (tok Const) ∷
    plain (tok Inline) ∷
    plain (tok Volatile) ∷
    plain (tok Signed) ∷
    plain (tok Restrict) ∷ []

-- the name that a declaration has in assembler texts
abbrev pub asm_name_of_gnu : List Alternative
asm_name_of_gnu =
    plain (tok AsmWord · tok LeftParen · some (tok StringLiteral) · tok RightParen) ∷ []

-- specifiers beside the type (6.7.1, 6.7.3, 6.7.4; C11 6.7.1, 6.7.5): also attributes
abbrev pub mod_of_gnu : List Alternative
mod_of_gnu =
    plain (tok Typedef) ∷
    plain (tok Extern) ∷
    plain (tok Static) ∷
    plain (tok Auto) ∷
    plain (tok Register) ∷
    plain (tok Inline) ∷
    plain (tok Noreturn) ∷
    plain (part Qual) ∷
    plain (tok ThreadLocal) ∷
    plain (part Attr) ∷
    plain (tok Alignas · part Operand) ∷ []

-- type-qualifier (6.7.3; C11 6.7.3, 6.7.2.4 paragraph 4)
abbrev pub qual_of_gnu : List Alternative
qual_of_gnu =
    plain (tok Const) ∷
    plain (tok Restrict) ∷
    plain (tok Volatile) ∷
    when (next_two (is (Atomic ∷ [])) (is_not (LeftParen ∷ []))) (tok Atomic) ∷ []

-- type-specifier (6.7.2; C11 6.7.2.4): also `typeof`
abbrev pub main_of_gnu : List Alternative
main_of_gnu =
    plain (part Word · many own (choice (part Word) (part Mod))) ∷
    plain (part StructSpec · many own (part Mod)) ∷
    plain (part EnumSpec · many own (part Mod)) ∷
    plain (tok TypedefName · many own (part Mod)) ∷
    plain (tok TypeofWord · part Operand · many own (part Mod)) ∷
    when (next_two (is (Atomic ∷ [])) (is (LeftParen ∷ []))) (tok Atomic · tok LeftParen · deep (part TypeName) ·
    tok RightParen · many own (part Mod)) ∷ []

-- a type or an expression in parentheses
abbrev pub operand_of_gnu : List Alternative
operand_of_gnu =
    when (next_two (is (LeftParen ∷ [])) (either (is (LeftBracket ∷ [])) (begins Specs))) (tok LeftParen ·
    deep (part TypeName) · tok RightParen) ∷
    plain (tok LeftParen · deep (part Expr) · tok RightParen) ∷ []

-- struct-or-union-specifier (6.7.2.1), attributes behind the word
abbrev pub struct_spec_of_gnu : List Alternative
struct_spec_of_gnu =
    plain (one (Struct ∷ Union ∷ []) · many own (part Attr) · part SuRest) ∷ []

-- its tag and members, of which there may be none
abbrev pub su_rest_of_gnu : List Alternative
su_rest_of_gnu =
    plain (any_name · maybe (tok LeftBrace · maybe (deep (part Members)) · tok RightBrace)) ∷
    plain (tok LeftBrace · maybe (deep (part Members)) · tok RightBrace) ∷ []

-- struct-declarator (6.7.2.1), attributes behind
abbrev pub mdecl_of_gnu : List Alternative
mdecl_of_gnu =
    plain (tok Colon · deep (part Cond) · many own (part Attr)) ∷
    plain (part Declarator · maybe (tok Colon · deep (part Cond)) · many own (part Attr)) ∷ []

-- enum-specifier (6.7.2.2), attributes behind the word
abbrev pub enum_spec_of_gnu : List Alternative
enum_spec_of_gnu =
    plain (tok Enum · many own (part Attr) · part EnRest) ∷ []

-- enumerator (6.7.2.2), attributes behind the name
abbrev pub enumerator_of_gnu : List Alternative
enumerator_of_gnu =
    plain (any_name · many own (part Attr) · maybe (tok Eq · deep (part Cond)) · act name) ∷ []

-- declarator (6.7.5), an assembler name and attributes behind
abbrev pub declarator_of_gnu : List Alternative
declarator_of_gnu =
    plain (many own (part Pointer) · part Direct · maybe (part AsmName) · many own (part Attr)) ∷ []

-- pointer (6.7.5), attributes among the qualifiers
abbrev pub pointer_of_gnu : List Alternative
pointer_of_gnu =
    plain (tok Star · many own (choice (part Qual) (part Attr))) ∷ []

-- direct-declarator (6.7.5), attributes behind the parenthesis
abbrev pub direct_of_gnu : List Alternative
direct_of_gnu =
    plain (any_name · many own (part Suffix)) ∷
    plain (tok LeftParen · many own (part Attr) · deep (part Declarator) · tok RightParen · many own (part Suffix)) ∷ []

-- array and function declarators (6.7.5.2, 6.7.5.3); `[[` begins attributes
abbrev pub suffix_of_gnu : List Alternative
suffix_of_gnu =
    when (next_two (is (LeftBracket ∷ [])) (is_not (LeftBracket ∷ []))) (tok LeftBracket ·
    many own (choice (part Qual) (tok Static)) · maybe (deep (part Bound)) · tok RightBracket) ∷
    plain (tok LeftParen · act scope · maybe (deep (part Params)) · act end · act keep · tok RightParen) ∷ []

-- declarator of a parameter (6.7.5, 6.7.6), attributes behind
abbrev pub pdecl_of_gnu : List Alternative
pdecl_of_gnu =
    plain (some (part Pointer) · maybe (part Pdirect) · many own (part Attr)) ∷
    plain (part Pdirect · many own (part Attr)) ∷ []

-- its direct part, attributes behind the parenthesis
abbrev pub pdirect_of_gnu : List Alternative
pdirect_of_gnu =
    plain (any_name · many own (part Suffix)) ∷
    when (next_two (is (LeftParen ∷ [])) (is (LeftBracket ∷ LeftParen ∷ Star ∷ Identifier ∷ AttributeWord ∷
    []))) (tok LeftParen · many own (part Attr) · deep (part Pdecl) · tok RightParen · many own (part Suffix)) ∷
    plain (some (part Suffix)) ∷ []

-- direct-abstract-declarator (6.7.6), attributes behind the parenthesis
abbrev pub adirect_of_gnu : List Alternative
adirect_of_gnu =
    when (next_two (is (LeftParen ∷ [])) (is (LeftBracket ∷ LeftParen ∷ Star ∷ AttributeWord ∷ []))) (tok LeftParen ·
    many own (part Attr) · deep (part Adecl) · tok RightParen · many own (part Suffix)) ∷
    plain (some (part Suffix)) ∷ []

-- initializer (6.7.8), perhaps empty
abbrev pub init_of_gnu : List Alternative
init_of_gnu =
    plain (tok LeftBrace · maybe (deep (part InitList)) · tok RightBrace) ∷
    plain (part Assign) ∷ []

-- designation and initializer (6.7.8): `=` may be missing, and a member may stand before a colon
abbrev pub init_item_of_gnu : List Alternative
init_item_of_gnu =
    plain (some (part Designator) · maybe (tok Eq) · part Init) ∷
    when (next_two (is names) (is (Colon ∷ []))) (any_name · tok Colon · part Init) ∷
    plain (part Init) ∷ []

-- designator (6.7.8): also a range
abbrev pub designator_of_gnu : List Alternative
designator_of_gnu =
    plain (tok Dot · any_name) ∷
    when (next_two (is (LeftBracket ∷ [])) (is_not (LeftBracket ∷ []))) (tok LeftBracket · deep (part Cond) ·
    maybe (tok Ellipsis · deep (part Cond)) · tok RightBracket) ∷ []

-- conditional-expression (6.5.15): the second operand may be missing
abbrev pub cond_of_gnu : List Alternative
cond_of_gnu =
    plain (part Lor · maybe (tok Question · maybe (deep (part Expr)) · tok Colon · deep (part Cond))) ∷ []

-- cast-expression (6.5.4)
abbrev pub cast_of_gnu : List Alternative
cast_of_gnu =
    when (next_two (is (LeftParen ∷ [])) (either (is (LeftBracket ∷ [])) (begins Specs))) (tok LeftParen ·
    deep (part TypeName) · tok RightParen · part CastRest) ∷
    plain (part Unary) ∷ []

-- operand of `sizeof` and `_Alignof` (6.5.3.4; C11 6.5.3.4)
abbrev pub size_rest_of_gnu : List Alternative
size_rest_of_gnu =
    when (next_two (is (LeftParen ∷ [])) (either (is (LeftBracket ∷ [])) (begins Specs))) (tok LeftParen ·
    deep (part TypeName) · tok RightParen · maybe (part SizeLit)) ∷
    plain (deep (part Unary)) ∷ []

-- the list of a compound literal may be empty (6.5.2.5)
abbrev pub cast_rest_of_gnu : List Alternative
cast_rest_of_gnu =
    plain (tok LeftBrace · maybe (deep (part InitList)) · tok RightBrace · many own (part Post)) ∷
    plain (deep (part Cast)) ∷ []

-- unary-expression (6.5.3; C11 6.5.3.4): also `__extension__`, `__real__` and the address of a label
abbrev pub unary_of_gnu : List Alternative
unary_of_gnu =
    plain (one (PlusPlus ∷ MinusMinus ∷ Amp ∷ Star ∷ Plus ∷ Minus ∷ Tilde ∷ Bang ∷ ExtensionWord ∷ RealPartWord ∷
    []) · deep (part Cast)) ∷
    plain (one (Sizeof ∷ Alignof ∷ []) · part SizeRest) ∷
    plain (part Primary · many own (part Post)) ∷
    plain (tok AmpAmp · any_name) ∷ []

-- the list of a compound literal may be empty (6.5.2.5)
abbrev pub size_lit_of_gnu : List Alternative
size_lit_of_gnu =
    plain (tok LeftBrace · maybe (deep (part InitList)) · tok RightBrace · many own (part Post)) ∷ []

-- primary-expression (6.5.1; C11 6.5.1.1): also a block, and four built-in forms
abbrev pub primary_of_gnu : List Alternative
primary_of_gnu =
    plain (tok Identifier) ∷
    plain (tok Constant) ∷
    plain (tok CharConstant) ∷
    plain (some (tok StringLiteral)) ∷
    plain (tok LeftParen · choice (deep (part Expr)) (deep (part Block)) · tok RightParen) ∷
    plain (tok Generic · tok LeftParen · deep (part Assign) · some (tok Comma · part Association) · tok RightParen) ∷
    plain (tok VaArgWord · tok LeftParen · deep (part Assign) · tok Comma · deep (part TypeName) · tok RightParen) ∷
    plain (tok OffsetofWord · tok LeftParen · deep (part TypeName) · tok Comma · part MemberPath · tok RightParen) ∷
    plain (tok TypesCompatibleWord · tok LeftParen · deep (part TypeName) · tok Comma · deep (part TypeName) ·
    tok RightParen) ∷ []

-- generic-association (C11 6.5.1.1)
abbrev pub association_of_gnu : List Alternative
association_of_gnu =
    plain (tok Default · tok Colon · deep (part Assign)) ∷
    plain (deep (part TypeName) · tok Colon · deep (part Assign)) ∷ []

-- the member that `__builtin_offsetof` asks for
abbrev pub member_path_of_gnu : List Alternative
member_path_of_gnu =
    plain (any_name · many own (choice (tok Dot · any_name) (tok LeftBracket · deep (part Expr) ·
    tok RightBracket))) ∷ []

-- postfix-expression (6.5.2); `[[` begins attributes
abbrev pub post_of_gnu : List Alternative
post_of_gnu =
    when (next_two (is (LeftBracket ∷ [])) (is_not (LeftBracket ∷ []))) (tok LeftBracket · deep (part Expr) ·
    tok RightBracket) ∷
    plain (tok LeftParen · maybe (deep (part Args)) · tok RightParen) ∷
    plain (tok Dot · any_name) ∷
    plain (tok Arrow · any_name) ∷
    plain (tok PlusPlus) ∷
    plain (tok MinusMinus) ∷ []

-- block-item (6.8.2): also attributes in front, and local labels
abbrev pub block_item_of_gnu : List Alternative
block_item_of_gnu =
    when (next_two (is names) (is (Colon ∷ []))) (part Statement) ∷
    when (next_two (is (ExtensionWord ∷ [])) (either (is (LeftBracket ∷ [])) (begins Specs))) (part Declaration) ∷
    when (next (is (ExtensionWord ∷ []))) (part Statement) ∷
    plain (some (part Attr) · deep (part BlockItem)) ∷
    plain (part Declaration) ∷
    plain (part Statement) ∷
    plain (tok LocalLabelWord · any_name · many own (tok Comma · any_name) · tok Semicolon) ∷ []

-- statement (6.8): a label stands before any block-item or none; ranges, computed jumps, asm statements, attributes
abbrev pub statement_of_gnu : List Alternative
statement_of_gnu =
    when (next_two (is names) (is (Colon ∷ []))) (any_name · tok Colon · maybe (deep (part BlockItem))) ∷
    plain (tok Case · deep (part Cond) · maybe (tok Ellipsis · deep (part Cond)) · tok Colon ·
    maybe (deep (part BlockItem))) ∷
    plain (tok Default · tok Colon · maybe (deep (part BlockItem))) ∷
    plain (part Block) ∷
    plain (act scope · tok If · tok LeftParen · deep (part Expr) · tok RightParen · part Sub · maybe (tok Else ·
    part Sub) · act end) ∷
    plain (act scope · tok Switch · tok LeftParen · deep (part Expr) · tok RightParen · part Sub · act end) ∷
    plain (act scope · tok While · tok LeftParen · deep (part Expr) · tok RightParen · part Sub · act end) ∷
    plain (act scope · tok Do · part Sub · tok While · tok LeftParen · deep (part Expr) · tok RightParen ·
    tok Semicolon · act end) ∷
    plain (act scope · tok For · tok LeftParen · part ForInit · maybe (deep (part Expr)) · tok Semicolon ·
    maybe (deep (part Expr)) · tok RightParen · part Sub · act end) ∷
    when (next_two (is (Goto ∷ [])) (is names)) (tok Goto · any_name · tok Semicolon) ∷
    plain (tok Continue · tok Semicolon) ∷
    plain (tok Break · tok Semicolon) ∷
    plain (tok Return · maybe (deep (part Expr)) · tok Semicolon) ∷
    plain (tok Semicolon) ∷
    plain (deep (part Expr) · tok Semicolon) ∷
    plain (tok Goto · tok Star · deep (part Expr) · tok Semicolon) ∷
    plain (tok AsmWord · many own (one (Volatile ∷ Inline ∷ Goto ∷ [])) · tok LeftParen · some (tok StringLiteral) ·
    many own (part AsmPart) · tok RightParen · tok Semicolon) ∷
    plain (some (part Attr) · tok Semicolon) ∷ []

-- a part of an asm statement behind a colon: names, or operands
abbrev pub asm_part_of_gnu : List Alternative
asm_part_of_gnu =
    when (next_two (is (Colon ∷ [])) (is names)) (tok Colon · any_name · many own (tok Comma · any_name)) ∷
    plain (tok Colon · maybe (part AsmOperand · many own (tok Comma · part AsmOperand))) ∷ []

-- its operand: a name in brackets, its constraint, and an expression
abbrev pub asm_operand_of_gnu : List Alternative
asm_operand_of_gnu =
    plain (maybe (tok LeftBracket · any_name · tok RightBracket) · some (tok StringLiteral) · maybe (tok LeftParen ·
    deep (part Expr) · tok RightParen)) ∷ []

-- Its rows. Those that have no definition here are C11's.
abbrev pub gnu_table : Production → List Alternative
gnu_table External = external_of_gnu
gnu_table ExtTail = ext_tail_of_gnu
gnu_table Declaration = declaration_of_gnu
gnu_table DeclRest = decl_rest_of_gnu
gnu_table Sassert = sassert_of_gnu
gnu_table Main = main_of_gnu
gnu_table Mod = mod_of_gnu
gnu_table Qual = qual_of_gnu
gnu_table StructSpec = struct_spec_of_gnu
gnu_table SuRest = su_rest_of_gnu
gnu_table Member = member_of_gnu
gnu_table Mdecl = mdecl_of_gnu
gnu_table EnumSpec = enum_spec_of_gnu
gnu_table Enumerator = enumerator_of_gnu
gnu_table Declarator = declarator_of_gnu
gnu_table Pointer = pointer_of_gnu
gnu_table Direct = direct_of_gnu
gnu_table Suffix = suffix_of_gnu
gnu_table Pdecl = pdecl_of_gnu
gnu_table Pdirect = pdirect_of_gnu
gnu_table Adirect = adirect_of_gnu
gnu_table Init = init_of_gnu
gnu_table InitItem = init_item_of_gnu
gnu_table Designator = designator_of_gnu
gnu_table Cond = cond_of_gnu
gnu_table Cast = cast_of_gnu
gnu_table CastRest = cast_rest_of_gnu
gnu_table Unary = unary_of_gnu
gnu_table SizeRest = size_rest_of_gnu
gnu_table SizeLit = size_lit_of_gnu
gnu_table Primary = primary_of_gnu
gnu_table Post = post_of_gnu
gnu_table BlockItem = block_item_of_gnu
gnu_table Statement = statement_of_gnu
gnu_table AutoDecl = auto_decl_of_gnu
gnu_table Attr = attr_of_gnu
gnu_table AttrItem = attr_item_of_gnu
gnu_table AttrWord = attr_word_of_gnu
gnu_table AsmName = asm_name_of_gnu
gnu_table Operand = operand_of_gnu
gnu_table Association = association_of_gnu
gnu_table MemberPath = member_path_of_gnu
gnu_table AsmPart = asm_part_of_gnu
gnu_table AsmOperand = asm_operand_of_gnu
gnu_table p = table p C11
