-- A line of members: by C11 what stands behind the specifiers has a node of its own.
use Rattle.std.proofs.Common.{ℕ, ◌≡◌, Bool, true, false, ◌&&◌, ◌||◌, not, ◌==◌, if◌then◌else◌, List, [], ◌∷◌, Ok, Err, refl, sym, ap, subst, ◌∙◌}
use Rattle.std.proofs.lemmas.Bool.{and_parts, and_from, false≢true}
use Rattle.cs_base.specs.Token.{Token}
use Rattle.c99_tree.specs.Tree.{Forest, none, node, Node, node_of, inner, put}
use Rattle.c99_tree.specs.declared.production.Label.{Label}
use Rattle.c99_tree.specs.declared.production.Production.{Production}
use Rattle.c99_tree.specs.declared.production.Production.TheVariants.{Specs, Member, MemRest, Mdecl}
use Rattle.c99_grammar.specs.declared.classes.Class.{Class}
use Rattle.c99_grammar.specs.declared.classes.Class.TheVariants.{Auto, Break, Case, Char, Const, Continue, Default, Do, Double, Else, Enum, Extern, Float, For, Goto, If, Inline, Int, Long, Register, Restrict, Return, Short, Signed, Sizeof, Static, Struct, Switch, Typedef, Union, Unsigned, Void, Volatile, While, BoolWord, ComplexWord, ImaginaryWord, Alignas, Alignof, Atomic, Generic, Noreturn, StaticAssert, ThreadLocal, AsmWord, TypeofWord, AttributeWord, ExtensionWord, LocalLabelWord, AutoTypeWord, RealPartWord, VaArgWord, OffsetofWord, TypesCompatibleWord, LeftBracket, RightBracket, LeftParen, RightParen, LeftBrace, RightBrace, Dot, Arrow, PlusPlus, MinusMinus, Amp, Star, Plus, Minus, Tilde, Bang, Slash, Percent, ShiftLeft, ShiftRight, Less, Greater, LessEq, GreaterEq, EqEq, BangEq, Caret, Bar, AmpAmp, BarBar, Question, Colon, Semicolon, Ellipsis, Eq, StarEq, SlashEq, PercentEq, PlusEq, MinusEq, ShiftLeftEq, ShiftRightEq, AmpEq, CaretEq, BarEq, Comma, Hash, HashHash, Identifier, TypedefName, Constant, CharConstant, StringLiteral, End, NoClass}
use Rattle.c99_grammar.specs.Classes.{among}
use Rattle.c99_grammar.specs.Items.{Item, part, ◌·◌, many, tok, own}
use Rattle.c99_read.specs.State.{State, opened, closed}
use Rattle.c99_read.specs.Reading.{Stop, Step, and_then}
use Rattle.tree_laws.specs.Narrowed.{is_member, is_rest, spread, narrowed, narrowed_node, has_no_added_word}
use Rattle.tree_laws.proofs.Standing.{only, within, kids, kids-put, kids_within, is_line_body, is_good, formed, part_formed, formed-put}
use Rattle.tree_laws.proofs.StandardClasses.{is_new, part_fits}
use Rattle.tree_laws.proofs.StandardTrees.{joined, joined-none, joined-put, narrowed-put}
use Rattle.tree_laws.proofs.StandardSteps.{labelled, Context, seen, inside, At, Sim}

-- what stands behind the specifiers of members does not begin with a semicolon
pub no_semicolon : (c d : Class) → (among (LeftParen ∷ Star ∷ Colon ∷ Identifier ∷ TypedefName ∷ []) c || (false && among (Colon ∷ []) d)) ≡ true → among (Semicolon ∷ []) c ≡ false
no_semicolon Auto d h = refl
no_semicolon Break d h = refl
no_semicolon Case d h = refl
no_semicolon Char d h = refl
no_semicolon Const d h = refl
no_semicolon Continue d h = refl
no_semicolon Default d h = refl
no_semicolon Do d h = refl
no_semicolon Double d h = refl
no_semicolon Else d h = refl
no_semicolon Enum d h = refl
no_semicolon Extern d h = refl
no_semicolon Float d h = refl
no_semicolon For d h = refl
no_semicolon Goto d h = refl
no_semicolon If d h = refl
no_semicolon Inline d h = refl
no_semicolon Int d h = refl
no_semicolon Long d h = refl
no_semicolon Register d h = refl
no_semicolon Restrict d h = refl
no_semicolon Return d h = refl
no_semicolon Short d h = refl
no_semicolon Signed d h = refl
no_semicolon Sizeof d h = refl
no_semicolon Static d h = refl
no_semicolon Struct d h = refl
no_semicolon Switch d h = refl
no_semicolon Typedef d h = refl
no_semicolon Union d h = refl
no_semicolon Unsigned d h = refl
no_semicolon Void d h = refl
no_semicolon Volatile d h = refl
no_semicolon While d h = refl
no_semicolon BoolWord d h = refl
no_semicolon ComplexWord d h = refl
no_semicolon ImaginaryWord d h = refl
no_semicolon Alignas d h = refl
no_semicolon Alignof d h = refl
no_semicolon Atomic d h = refl
no_semicolon Generic d h = refl
no_semicolon Noreturn d h = refl
no_semicolon StaticAssert d h = refl
no_semicolon ThreadLocal d h = refl
no_semicolon AsmWord d h = refl
no_semicolon TypeofWord d h = refl
no_semicolon AttributeWord d h = refl
no_semicolon ExtensionWord d h = refl
no_semicolon LocalLabelWord d h = refl
no_semicolon AutoTypeWord d h = refl
no_semicolon RealPartWord d h = refl
no_semicolon VaArgWord d h = refl
no_semicolon OffsetofWord d h = refl
no_semicolon TypesCompatibleWord d h = refl
no_semicolon LeftBracket d h = refl
no_semicolon RightBracket d h = refl
no_semicolon LeftParen d h = refl
no_semicolon RightParen d h = refl
no_semicolon LeftBrace d h = refl
no_semicolon RightBrace d h = refl
no_semicolon Dot d h = refl
no_semicolon Arrow d h = refl
no_semicolon PlusPlus d h = refl
no_semicolon MinusMinus d h = refl
no_semicolon Amp d h = refl
no_semicolon Star d h = refl
no_semicolon Plus d h = refl
no_semicolon Minus d h = refl
no_semicolon Tilde d h = refl
no_semicolon Bang d h = refl
no_semicolon Slash d h = refl
no_semicolon Percent d h = refl
no_semicolon ShiftLeft d h = refl
no_semicolon ShiftRight d h = refl
no_semicolon Less d h = refl
no_semicolon Greater d h = refl
no_semicolon LessEq d h = refl
no_semicolon GreaterEq d h = refl
no_semicolon EqEq d h = refl
no_semicolon BangEq d h = refl
no_semicolon Caret d h = refl
no_semicolon Bar d h = refl
no_semicolon AmpAmp d h = refl
no_semicolon BarBar d h = refl
no_semicolon Question d h = refl
no_semicolon Colon d h = refl
no_semicolon Semicolon d h = cc
no_semicolon Ellipsis d h = refl
no_semicolon Eq d h = refl
no_semicolon StarEq d h = refl
no_semicolon SlashEq d h = refl
no_semicolon PercentEq d h = refl
no_semicolon PlusEq d h = refl
no_semicolon MinusEq d h = refl
no_semicolon ShiftLeftEq d h = refl
no_semicolon ShiftRightEq d h = refl
no_semicolon AmpEq d h = refl
no_semicolon CaretEq d h = refl
no_semicolon BarEq d h = refl
no_semicolon Comma d h = refl
no_semicolon Hash d h = refl
no_semicolon HashHash d h = refl
no_semicolon Identifier d h = refl
no_semicolon TypedefName d h = refl
no_semicolon Constant d h = refl
no_semicolon CharConstant d h = refl
no_semicolon StringLiteral d h = refl
no_semicolon End d h = refl
no_semicolon NoClass d h = refl

pub opened_none : (p : Production) (n : ℕ) (s : State) → (opened p n s).built.under ≡ none
unfolding opened
opened_none p n s = refl

-- what stands behind the specifiers of members
abbrev pub members_item : Item
members_item = part Mdecl · many own (tok Comma · part Mdecl) · tok Semicolon

-- the one child is a node
abbrev pub One : Forest → Type 0
One f = (l : Label) × ((first : ℕ) × ((under : Forest) × (f ≡ node l first under none)))

pub closed_specs : (s x : State) (b : Bool) (r : Step) (stop : Stop) → s.built.under ≡ none
    → (if b then and_then r (λ z. Ok (closed Specs s z)) else Err stop) ≡ Ok x → One x.built.under
unfolding closed
closed_specs s x true (Ok z) stop e is =
    (z.built.label, (z.built.first, (z.built.under, sym (ap (state_under x) is) ∙ ap (λ f. put f (inner z.built)) e)))
  where
    state_under : State → Step → Forest
    state_under d (Ok y) = y.built.under
    state_under d (Err st) = d.built.under
closed_specs s x true (Err st) stop e is = cc
closed_specs s x false r stop e is = cc

-- the node of a line of members
abbrev pub in_line : ℕ → Context
in_line at = inside Member 2 3 at

-- the members behind the specifiers, by C99 in the node of these
abbrev pub behind : ℕ → State → Context
behind at y = record {
  label = labelled Member 2;
  first = at;
  front = narrowed y.built.under;
  wide = labelled MemRest 2;
  wide_first = y.at;
  lines = false;
  names = false;
}

pub held_lines : (b : Bool) (holder : Production) → part_fits b holder Member ≡ true → b ≡ true
held_lines true holder h = refl
held_lines false holder h = cc

pub stands_of : (b : Bool) (holder p : Production) → part_fits b holder p ≡ true → only holder p ≡ true
stands_of b holder p h = (and_parts (b || not (is_member p)) (only holder p) ((and_parts (not (is_new p)) ((b || not (is_member p)) && only holder p) h).1)).1

spread-put : (f : Forest) (m : Node) → One f → spread (put (narrowed f) (inner m)) ≡ joined (narrowed f) m.under
spread-put f m one =
    subst (λ g. spread (put (narrowed g) (inner m)) ≡ joined (narrowed g) m.under) (sym one.1.1.1) refl

pub twice : (r : Step) (f : State → State) (g : State → Step) → and_then (and_then r (λ z. Ok (f z))) g ≡ and_then r (λ z. g (f z))
twice (Ok s) f g = refl
twice (Err stop) f g = refl

module _ (toks : List Token) (plain : has_no_added_word toks ≡ true) (strict : Bool) where
  -- the one child of a line that is not closed is of specifiers
  line_body : (f : Forest) (m : Node) → One f → kids (only Member) f ≡ true → is_rest m.label.production ≡ true → is_line_body (put f (inner m)) ≡ true
  line_body f m one h r =
      subst (λ g. kids (only Member) g ≡ true → is_line_body (put g (inner m)) ≡ true) (sym one.1.1.1)
      (λ k. and_from _ _ ((and_parts (only Member one.0.production) true k).0) r) h

  -- what is so of the parts of a line is so of it
  pub line_sound : (y : State) (z : Node) (at j : ℕ) → At toks plain strict (in_line at) y → One y.built.under → z.label ≡ labelled MemRest j
      → not ((j == 1) && strict) ≡ true → kids (only MemRest) z.under ≡ true → formed strict z.under ≡ true
      → part_formed strict (inner (record y.built { under = put y.built.under (inner z) })) ≡ true
  line_sound y z at j at_y one label no_lone stands sound =
      let good_rest : is_good strict z.label z.under ≡ true =
      ap (λ (l : Label). is_good strict l z.under) label ∙ and_from _ _ (kids_within MemRest z.under stands) no_lone in
      let body : is_line_body (put y.built.under (inner z)) ≡ true =
      line_body y.built.under z one at_y.stands (ap (λ (l : Label). is_rest l.production) label) in
      let kept : kids (within Member) (put y.built.under (inner z)) ≡ true =
      kids-put (within Member) y.built.under (inner z) (kids_within Member y.built.under at_y.stands) (ap (λ (l : Label). not (is_member l.production)) label) in
      let good : is_good strict y.built.label (put y.built.under (inner z)) ≡ true =
      ap (λ (b : Node). is_good strict b.label (put y.built.under (inner z))) at_y.built_is ∙ and_from _ _ body (and_from _ _ kept refl) in
      and_from _ _ good (formed-put strict y.built.under (inner z) at_y.sound (and_from _ _ good_rest sound))

  module _ (c : Context) (s : State) (lines : c.lines ≡ true) (holder : only c.wide.production Member ≡ true) (at : At toks plain strict c s) where
    pub line_closed : (y z : State) → At toks plain strict (in_line s.at) y → One y.built.under → At toks plain strict (behind s.at y) z
        → Sim toks plain strict c (Ok (closed Member (seen c s) (seen (behind s.at y) z))) (Ok (closed Member s (closed MemRest y z)))
    unfolding closed
    line_closed y z at_y one at_z =
        let u : Forest = s.built.under in
        let v : Forest = narrowed z.built.under in
        let wide : Node = record y.built { under = put y.built.under (inner z.built) } in
        let rest : spread (narrowed (put y.built.under (inner z.built))) ≡ joined (narrowed y.built.under) v =
        ap spread (sym (narrowed-put y.built.under (inner z.built)))
        ∙ (ap (λ (n : Node). spread (put (narrowed y.built.under) (inner (narrowed_node n)))) at_z.built_is
        ∙ spread-put y.built.under (node_of (labelled MemRest 2) y.at v) one) in
        let whole_line : narrowed_node wide ≡ node_of (labelled Member 2) s.at (joined (narrowed y.built.under) v) =
        ap (λ (n : Node). narrowed_node (record n { under = put y.built.under (inner z.built) })) at_y.built_is
        ∙ ap (node_of (labelled Member 2) s.at) rest in
        let built : put (joined c.front (narrowed u)) (inner (node_of (labelled Member 2) s.at (joined (narrowed y.built.under) v)))
        ≡ joined c.front (narrowed (put u (inner wide))) =
        ap (λ n. put (joined c.front (narrowed u)) (inner n)) (sym whole_line)
        ∙ (joined-put c.front (narrowed u) (inner (narrowed_node wide)) ∙ ap (joined c.front) (narrowed-put u (inner wide))) in (
          closed Member s (closed MemRest y z),
          (
            refl,
            (
              ap (λ f. record z { near = s.near; built = node_of c.label c.first f }) built,
              record {
                text = at_z.text;
                built_is = ap (λ (b : Node). record b { under = put u (inner wide) }) at.built_is;
                members = λ e. absurd (false≢true (sym e ∙ lines));
                free = at.free;
                sound = formed-put strict u (inner wide) at.sound
                    (line_sound y z.built s.at 2 at_y one (ap (λ (b : Node). b.label) at_z.built_is) refl at_z.stands at_z.sound);
                stands = kids-put (only c.wide.production) u (inner wide) at.stands
                    (ap (λ (b : Node). only c.wide.production b.label.production) at_y.built_is ∙ holder);
              },
            ),
          ),
        )

  module _ (s y : State) (at_y : At toks plain strict (in_line s.at) y) where
    pub at_behind : At toks plain strict (behind s.at y) (opened MemRest 2 y)
    unfolding opened
    at_behind = record { text = at_y.text; built_is = refl; members = λ e. refl; free = λ e. absurd (false≢true e); sound = refl; stands = refl }

    pub seen_behind : seen (in_line s.at) y ≡ seen (behind s.at y) (opened MemRest 2 y)
    unfolding opened
    seen_behind = ap (λ f. record y { built = node_of (labelled Member 2) s.at f }) (sym (joined-none (narrowed y.built.under)))
