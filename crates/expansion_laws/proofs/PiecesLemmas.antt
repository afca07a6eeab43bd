-- Where the tokens of an expansion come from.
use Rattle.std.proofs.Common.{◌≡◌, ℕ, zero, suc, ◌&&◌, Bool, true, false, List, [], ◌∷◌, ◌++◌, Option, Some, None, Ok, refl, sym, ap, ◌∙◌, subst}
use Rattle.std.specs.Prelude.{slice_get}
use Rattle.std.specs.List.{list_all, flat_map}
use Rattle.std.proofs.lemmas.Grind.{flat_map-append}
use Rattle.std.proofs.lemmas.List.Folds.{list_all-append}
use Rattle.std.proofs.lemmas.Bool.{and_parts}
use Rattle.cs_base.specs.declared.tokens.Kind.{Kind}
use Rattle.cs_base.specs.declared.positions.Pos.{Pos}
use Rattle.cs_base.specs.Token.{Token}
use Rattle.lexer.specs.Characters.{double_quote}
use Rattle.lexer.specs.OneToken.{one_token_of}
use Rattle.macro_body.specs.Below.paste_origin.Pasting.{joined, pasted_as, glue_of}
use Rattle.macro_body.specs.Below.paste_origin.Strings.{stringize_of, spellings_of}
use Rattle.macro_body.specs.Hides.{toks_of}
use Rattle.macro_body.specs.Notes.{Note, Replaced}
use Rattle.macro_body.specs.Substitution.{put_in}
use Rattle.macro_expand.specs.Expansion.{Setting}
use Rattle.expansion_laws.specs.Telling.{IsAmong}
use Rattle.expansion_laws.specs.Pieces.{IsOneOf, IsMadeOf, Characters, IsWhole, MacrosAreWhole, NoteIsWhole, TokensAreWhole, StandsWith, PlacesAreOfTheRun}
use Rattle.expansion_laws.proofs.ListLemmas.{each_tok, toks_at, each_note, notes_at, all_notes, hidden_toks}
use Rattle.expansion_laws.proofs.RuleLemmas.{Rules}
use Rattle.expansion_laws.proofs.ClosureLemmas.{expansion_keeps}
use Rattle.expansion_laws.proofs.TellingLemmas.{string_is, Any}

-- What is pasted.

-- the token that two make, of some kind
pub pasted_is : (x y z : Token) (kind : Option Kind) → pasted_as x y kind ≡ Ok z → (k : Kind) × (kind ≡ Some k) × (joined x y k ≡ z)
pasted_is x y z None e = absurd (cc)
pasted_is x y z (Some k) e = (k, refl, cc)

pub glue_is : (x y z : Token) → glue_of x y ≡ Ok z → (k : Kind) × (one_token_of (x.text ++ y.text) ≡ Some k) × (joined x y k ≡ z)
unfolding glue_of
glue_is x y z e = pasted_is x y z (one_token_of (x.text ++ y.text)) e

-- Pieces.

one_of_both : (P : Token → Type 0) (xs ys : List Token) → ((t : Token) → IsOneOf xs t → P t) → ((t : Token) → IsOneOf ys t → P t)
    → (t : Token) (k : ℕ) → slice_get (xs ++ ys) k ≡ Some t → P t
one_of_both P [] ys h1 h2 t k e = h2 t (k, e)
one_of_both P (x ∷ xs) ys h1 h2 t zero e = h1 t (0, e)
one_of_both P (x ∷ xs) ys h1 h2 t (suc k) e = one_of_both P xs ys (λ u at. h1 u (suc at.0, at.1)) h2 t k e

-- a token whose characters and origins are those of two others
pub made_of_both : (files : List Token) (x y z : Token) → z.text ≡ x.text ++ y.text → z.origins ≡ x.origins ++ y.origins
    → IsMadeOf files x → IsMadeOf files y → IsMadeOf files z
made_of_both files x y z text origins hx hy = record {
  pieces = hx.pieces ++ hy.pieces;
  each = λ piece at. one_of_both (IsOneOf files) hx.pieces hy.pieces hx.each hy.each piece at.0 at.1;
  text = let a = hx.text in let b = hy.text in
      text ∙ ap (λ (l : List ℕ). l ++ y.text) a ∙ ap (λ (l : List ℕ). flat_map (λ (piece : Token). piece.text) hx.pieces ++ l) b
      ∙ sym (flat_map-append (λ (piece : Token). piece.text) hx.pieces hy.pieces);
  origins = let a = hx.origins in let b = hy.origins in
      origins ∙ ap (λ (l : List (Option Pos)). l ++ y.origins) a ∙ ap (λ (l : List (Option Pos)). flat_map (λ (piece : Token). piece.origins) hx.pieces ++ l) b
      ∙ sym (flat_map-append (λ (piece : Token). piece.origins) hx.pieces hy.pieces);
}

pub pasted_whole : (among : Characters) (files : List Token) (name x y z : Token) → IsWhole among files x → IsWhole among files y → glue_of x y ≡ Ok z
    → IsWhole among files (put_in name x.gap z)
pasted_whole among files name x y z hx hy is =
    let i = glue_is x y z is in
    subst (λ (t : Token). IsWhole among files (put_in name x.gap t)) i.2 (λ h.
    let both = and_parts (list_all among x.text) (list_all among y.text) (sym (list_all-append among x.text y.text) ∙ h) in
    made_of_both files x y (put_in name x.gap (joined x y i.0)) refl refl (hx both.0) (hy both.1))

pub quoted_fails : (among : Characters) (text rest : List ℕ) → among double_quote ≡ false → text ≡ double_quote ∷ rest → list_all among text ≡ true → ⊥
quoted_fails among text rest quote is h =
    let first : (among double_quote && list_all among rest) ≡ true = ap (list_all among) (sym is) ∙ h in
    let no : false ≡ true = rw quote at first in
    absurd (cc)

-- a string is spelled with a `"`
pub string_whole : (among : Characters) (files : List Token) (name : Token) (gap : Bool) (toks : List Token) (s : Token) → among double_quote ≡ false → stringize_of toks ≡ Ok s
    → IsWhole among files (put_in name gap s)
string_whole among files name gap toks s quote is = λ h.
    absurd (quoted_fails among s.text (spellings_of toks ++ double_quote ∷ []) quote (ap (λ (t : Token). t.text) (string_is toks s is)) h)

-- other labels change nothing
pub whole_as : (among : Characters) (files : List Token) (t u : Token) → u.text ≡ t.text → u.origins ≡ t.origins → IsWhole among files t → IsWhole among files u
whole_as among files t u text origins whole = λ h.
    let made = whole (ap (list_all among) (sym text) ∙ h) in
    record { pieces = made.pieces; each = made.each; text = text ∙ made.text; origins = origins ∙ made.origins }

rules_whole : (among : Characters) (files : List Token) (set : Setting) (notes : List Note) → among double_quote ≡ false
    → MacrosAreWhole among files set.table notes → Rules (IsWhole among files) (IsAmong notes) (NoteIsWhole among files) set
rules_whole among files set notes quote macros = record {
  spaced = λ t gap h. whole_as among files t (record t { gap = gap }) refl refl h;
  moved = λ t h. whole_as among files t (record t { direct = false }) refl refl h;
  bodies = λ name m here found. each_tok (λ t. (gap : Bool) → IsWhole among files (put_in name gap t)) m.body
      (λ t k at gap. whole_as among files t (put_in name gap t) refl refl (macros.bodies name.text m found t (k, at)));
  lines = λ name m before here found is brought. macros.lines name m before found is brought;
  numbers = λ name n here low brought. macros.numbers name n brought;
  paths = λ name m here found is. λ h. absurd (quoted_fails among _ _ quote refl h);
  strings = λ name gap toks s here all is. string_whole among files name gap toks s quote is;
  pastes = λ name x y z here px py is told. pasted_whole among files name x y z px py is;
  replaced = λ name m before here is found. here;
  linked = λ name m here is found links. (here, macros.names name.text m found links);
  stringized = λ toks s all is. λ t at. toks_at (IsWhole among files) toks all t at.0 at.1;
  pasted = λ name x y z px py pz is. (px, py, pz);
  counted = λ name n here z. z;
}

pub tokens_are_whole : TokensAreWhole
tokens_are_whole = λ among files table path run work e quote is whole macros.
    let set : Setting = record { table = table; path = path } in
    let good = expansion_keeps (IsWhole among files) (IsAmong e.notes) (NoteIsWhole among files) table path (rules_whole among files set e.notes quote macros) run work e
    (each_tok (IsWhole among files) run (λ t k at. whole t (k, at))) is (each_note (IsAmong e.notes) e.notes (λ n k at. (k, at))) in
    record {
      toks = λ t at. toks_at (IsWhole among files) (toks_of e.toks) (hidden_toks (IsWhole among files) e.toks good.0) t at.0 at.1;
      notes = λ note at. notes_at (NoteIsWhole among files) e.notes good.1 note at.0 at.1;
    }

-- Places.

abbrev NameStands : List Token → Note → Type 0
NameStands run (Replaced name m before) = StandsWith run name
NameStands run _ = Unit {0}

stands_there : (run : List Token) (name t : Token) → StandsWith run name → t.at ≡ name.at → t.line ≡ name.line → StandsWith run t
stands_there run name t h at line = record { token = h.token; one = h.one; at = at ∙ h.at; line = line ∙ h.line }

rules_stand : (run : List Token) (set : Setting) → Rules (StandsWith run) Any (NameStands run) set
rules_stand run set = record {
  spaced = λ t gap h. stands_there run t (record t { gap = gap }) h refl refl;
  moved = λ t h. stands_there run t (record t { direct = false }) h refl refl;
  bodies = λ name m here found. each_tok (λ t. (gap : Bool) → StandsWith run (put_in name gap t)) m.body (λ t k at gap. stands_there run name (put_in name gap t) here refl refl);
  lines = λ name m before here found is brought. stands_there run name _ here refl refl;
  numbers = λ name n here low brought. stands_there run name _ here refl refl;
  paths = λ name m here found is. stands_there run name _ here refl refl;
  strings = λ name gap toks s here all is. stands_there run name (put_in name gap s) here refl refl;
  pastes = λ name x y z here px py is told. stands_there run name (put_in name x.gap z) here refl refl;
  replaced = λ name m before here is found. here;
  linked = λ name m here is found links. tt;
  stringized = λ toks s all is. tt;
  pasted = λ name x y z px py pz is. tt;
  counted = λ name n here z. tt;
}

pub places_are_of_the_run : PlacesAreOfTheRun
places_are_of_the_run = λ table path run work e is.
    let set : Setting = record { table = table; path = path } in
    let good = expansion_keeps (StandsWith run) Any (NameStands run) table path (rules_stand run set) run work e
    (each_tok (StandsWith run) run (λ t k at. record { token = t; one = (k, at); at = refl; line = refl })) is (all_notes e.notes) in
    record {
      toks = λ t at. toks_at (StandsWith run) (toks_of e.toks) (hidden_toks (StandsWith run) e.toks good.0) t at.0 at.1;
      names = λ name m before at. notes_at (NameStands run) e.notes good.1 (Replaced name m before) at.0 at.1;
    }
