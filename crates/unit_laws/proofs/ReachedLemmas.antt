-- The tokens of a unit are made of what it takes from the items that it reached.
use Rattle.std.proofs.Common.{◌≡◌, ℕ, zero, suc, ◌+◌, Bool, false, List, [], ◌∷◌, ◌++◌, length, Some, refl, sym, subst}
use Rattle.std.specs.Prelude.{slice_get}
use Rattle.std.proofs.lemmas.Option.{none-some, same_Some}
use Rattle.cs_base.specs.declared.positions.Pos.{Pos}
use Rattle.cs_base.specs.declared.tokens.Kind.TheVariants.{Ident}
use Rattle.cs_base.specs.Token.{Token, token}
use Rattle.lexer.specs.Characters.{double_quote}
use Rattle.unit_steps.specs.declared.events.Reached.{Reached}
use Rattle.source_files.specs.Files.{Table, SourceFile}
use Rattle.unit_steps.specs.Notes.{Note, Reaches, reached, reached_of, events_of}
use Rattle.unit_steps.specs.Conditions.{answer_for}
use Rattle.source_files.specs.Sources.{source_at}
use Rattle.unit_steps.specs.Texts.{UnitTextValue, reached_in, unit_text}
use Rattle.include_tree.specs.Walk.{ItemText, items_in}
use Rattle.macro_body.specs.Substitution.{put_in, number_token}
use Rattle.expansion_laws.specs.Pieces.{Characters, IsWhole, AreWhole}
use Rattle.expansion_laws.proofs.ListLemmas.{toks_at, each_tok}
use Rattle.expansion_laws.proofs.PiecesLemmas.{whole_as, pasted_whole, string_whole, quoted_fails}
use Rattle.unit_laws.specs.UnitItems.{taken, ReachedAreWhole, ReachedTokensAreWhole}
use Rattle.unit_laws.specs.UnitLinks.{IsIn}
use Rattle.unit_laws.specs.UnitTokens.{NumbersAreWhole}
use Rattle.unit_laws.proofs.DoneLemmas.{UnitRules, PlaceHas, TakenHas}
use Rattle.unit_laws.proofs.NoteLemmas.{in_at, LinkHas, EventHas}
use Rattle.unit_laws.proofs.TextLemmas.{text_is, unit_text_has, line_event, number_among, answer_among}

-- ---- items that a unit tells that it reached

later : (x : Reached) (r : Reached) (rs : List Reached) → IsIn rs r → IsIn (x ∷ rs) r
later x r rs i = (suc i.0, i.1)

behind : (xs rs : List Reached) (r : Reached) → IsIn rs r → IsIn (xs ++ rs) r
behind [] rs r i = i
behind (x ∷ xs) rs r i = later x r (xs ++ rs) (behind xs rs r i)

-- the item of a note that reaches one is told
pub reached_told : (notes : List Note) (events number k : ℕ) (evaluated : Bool) (before j : ℕ) → slice_get notes j ≡ Some (Reaches number k evaluated before)
    → (r : Reached) × IsIn (reached_in events notes) r × (r.file ≡ number) × (r.item ≡ k) × (r.evaluated ≡ evaluated)
unfolding reached_in
reached_told [] events number k evaluated before j e = absurd (none-some _ e)
reached_told (note ∷ notes) events number k evaluated before zero e =
    let same : note ≡ Reaches number k evaluated before = same_Some note (Reaches number k evaluated before) e in
    let P : Note → Type 0 = λ n. IsIn (reached_of events n ++ reached_in (events + length (events_of n)) notes) (reached number k evaluated events before) in
    (reached number k evaluated events before, subst P (sym same) (0, refl), refl, refl, refl)
reached_told (note ∷ notes) events number k evaluated before (suc j) e =
    let r = reached_told notes (events + length (events_of note)) number k evaluated before j e in
    (r.0, behind (reached_of events note) (reached_in (events + length (events_of note)) notes) r.0 r.1, r.2, r.3, r.4)

-- ---- whole tokens

-- something without a spelling stands anywhere
empty_at : Pos → Token
empty_at at = token Ident [] [] false at 0 false

empty_whole : (among : Characters) (files : List Token) (at : Pos) → PlaceHas (IsWhole among files) at
unfolding empty_at
empty_whole among files at = (
  empty_at at,
  ((λ all. record { pieces = []; each = λ piece there. absurd (none-some piece there.1); text = refl; origins = refl }), refl),
)

module _ (among : Characters) (files : List Token) (text : UnitTextValue) (notes : List Note) (toks : List Token) (table : Table) (quote : among double_quote ≡ false)
    (is_text : unit_text toks notes ≡ text) (whole : ReachedAreWhole among files table text) (numbers : NumbersAreWhole among files text) where
  items_whole : (number k : ℕ) (evaluated : Bool) (before : ℕ) (file : SourceFile) (i : ItemText) → source_at table number ≡ Some file → slice_get (items_in file) k ≡ Some i
      → IsIn notes (Reaches number k evaluated before) → TakenHas (IsWhole among files) evaluated i
  items_whole number k evaluated before file i is at told =
      let r = reached_told notes 0 number k evaluated before told.0 told.1 in
      let P : UnitTextValue → Type 0 = λ x. IsIn x.reached r.0 in
      let there : IsIn text.reached r.0 = subst P is_text r.1 in
      let kept : source_at table r.0.file ≡ Some file = subst (λ (n : ℕ). source_at table n ≡ Some file) (sym r.2) is in
      let item : slice_get (items_in file) r.0.item ≡ Some i = subst (λ (n : ℕ). slice_get (items_in file) n ≡ Some i) (sym r.3) at in
      let all : AreWhole among files (taken i.kind evaluated i.toks) = subst (λ (b : Bool). AreWhole among files (taken i.kind b i.toks)) r.4 (whole r.0 file i there kept item) in
      record {
        toks = each_tok (IsWhole among files) (taken i.kind evaluated i.toks) (λ t n e. all t (n, e));
        at = λ include. empty_whole among files i.at;
      }

  pub rules_reached : UnitRules (IsWhole among files) (IsIn notes) table
  rules_reached = record {
    spaced = λ t gap h. whole_as among files t (record t { gap = gap }) refl refl h;
    moved = λ t h. whole_as among files t (record t { direct = false }) refl refl h;
    placed = λ name t gap here h. whole_as among files t (put_in name gap t) refl refl h;
    items = items_whole;
    lines = λ name run before more here spelled brought.
        let e = line_event text notes toks name run before more is_text spelled brought in
        numbers.lines e.0 name e.1.0 e.1.1;
    numbers = λ name n run before here low brought. numbers.answers (number_token name n) (number_among text notes toks (number_token name n) run before is_text brought);
    answers = λ word b here brought. numbers.answers (answer_for word b) (answer_among text notes toks (answer_for word b) is_text brought);
    paths = λ path name here. λ h. absurd (quoted_fails among _ _ quote refl h);
    strings = λ name gap ts s here all made. string_whole among files name gap ts s quote made;
    pastes = λ name x y z run before here px py made told. pasted_whole among files name x y z px py made;
  }

pub reached_tokens_are_whole : ReachedTokensAreWhole
reached_tokens_are_whole = λ among files source number unit before p quote is whole numbers.
    let i = text_is source number unit before p is in
    let reached_whole : ReachedAreWhole among files i.did.state.table p.text = subst (λ (t : Table). ReachedAreWhole among files t p.text) (sym i.table) whole in
    let P : Token → Type 0 = IsWhole among files in
    let has = unit_text_has P source number unit before p i (rules_reached among files p.text i.did.notes i.did.value i.did.state.table quote i.text reached_whole numbers) in
    record {
      toks = λ t at. toks_at P p.text.toks has.toks t at.0 at.1;
      links = λ l at. (let here = in_at (LinkHas P) p.text.links has.links l at.0 at.1 in (here.0, here.1));
      pasted = λ t at. toks_at P p.text.pasted has.pasted t at.0 at.1;
      stringized = λ t at. toks_at P p.text.stringized has.stringized t at.0 at.1;
      header = λ t at. toks_at P p.text.header has.header t at.0 at.1;
      names = λ e name at is. (let here = in_at (EventHas P) p.text.events has.events e at.0 at.1 in here.name name is);
    }
