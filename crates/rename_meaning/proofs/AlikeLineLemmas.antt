-- Uses of parameters stay alike with these, in each line of each kept file.
use Rattle.std.proofs.Common.{◌≡◌, ℕ, suc, ◌+◌, ◌<◌, Bool, true, false, List, [], ◌∷◌, length, drop, Option, Some, None, inl, inr, refl, sym, ap, subst, ◌∙◌, arith}
use Rattle.std.specs.Prelude.{slice_get}
use Rattle.std.specs.List.{flat_map, list_any}
use Rattle.std.specs.Option.{option_map_or, option_and_then}
use Rattle.std.proofs.lemmas.Bool.{cases_Bool, both_ways, false_from_ne_true}
use Rattle.std.proofs.lemmas.Option.{none-some, same_Some, slice_get_within}
use Rattle.cs_base.specs.declared.positions.Part.{Part}
use Rattle.cs_base.specs.declared.positions.Pos.{Pos}
use Rattle.cs_base.specs.Token.{Token}
use Rattle.cs_base.proofs.ListLemmas.{any_at}
use Rattle.lexer.specs.Places.{pos}
use Rattle.lexer.specs.Tokens.{tokens_of, firsts_of}
use Rattle.lexer.proofs.OriginLemmas.{length-origins, origin_in}
use Rattle.line_shape.specs.declared.items.ItemKind.{ItemKind}
use Rattle.line_shape.specs.declared.items.ItemKind.TheVariants as kind
use Rattle.line_shape.specs.Items.{lines_of, line_kind}
use Rattle.line_shape.specs.MacroLine.{is_function_like}
use Rattle.line_shape.specs.Signs.{is_hash}
use Rattle.macro_body.specs.Defining.{defined_by}
use Rattle.unit_steps.specs.declared.events.Reached.{Reached}
use Rattle.source_files.specs.Files.{Table}
use Rattle.source_files.specs.KeptFiles.{KeptValue, kept_at}
use Rattle.unit_steps.specs.Texts.{UnitTextValue}
use Rattle.include_tree.specs.Walk.{ItemText, item_texts, items_in}
use Rattle.analysis.specs.Below.eclass_map.Positions.{holds}
use Rattle.analysis.proofs.Below.eclass_map.TokenFacts.{holding}
use Rattle.part_respell.specs.Respelled.{spelled}
use Rattle.offences.specs.Tokens.{holds_member}
use Rattle.edited_unit_laws.specs.Lines.{Each, defines, parameters_of}
use Rattle.unit_laws.specs.UnitItems.{taken}
use Rattle.unit_laws.specs.ToldNames.{LinksAgree}
use Rattle.unit_laws.specs.Uses.{UsesHaveLinks, IsReachedItem}
use Rattle.unit_laws.proofs.UseLemmas.{uses_are_linked}
use Rattle.analysis.specs.Analysed.{Analysed}
use Rattle.analysis.specs.Analysis.{UnitAnalysis, AnalysisValue}
use Rattle.analysis.specs.BroughtNumbers.{all_brought}
use Rattle.analysis.specs.FileTokens.{numbers_brought, span_of}
use Rattle.analysis.specs.Naming.{item_at, Names}
use Rattle.analysis.proofs.NamingLemmas.{split_at, any_in}
use Rattle.analysis.proofs.PlaceNameLemmas.{kept_number}
use Rattle.rename_meaning.specs.Allowed.{IsAllowed}
use Rattle.rename_meaning.specs.KeptLines.{UsesStayAlike, LineStaysAlike}
use Rattle.edited_unit_laws.proofs.ListLemmas.{In}
use Rattle.rename_meaning.proofs.ApartLemmas.{any_member, free-stays, file_told, held_parted}
use Rattle.rename_meaning.proofs.DirectiveLemmas.{none_in, in_drop, in_together, lines-together, taken_listed}
use Rattle.edited_unit_laws.proofs.FileLemmas.{token_stands}
use Rattle.rename_meaning.proofs.KeptLemmas.{token_held, once}
use Rattle.rename_meaning.proofs.KeptTokenLemmas.{each_of}
use Rattle.rename_meaning.proofs.MemberLemmas.{over_in}
use Rattle.edited_unit_laws.proofs.TableTokenLemmas.{file_token, span_is}
use Rattle.rename_meaning.proofs.NoneLemmas.{none_stand, no_line}
use Rattle.rename_meaning.proofs.ProcessedLemmas.{taken_reached, taken_by, flat_element, part_in_token, member_lies}
use Rattle.rename_meaning.proofs.SpellLemmas.{is_from}
use Rattle.edited_unit_laws.proofs.TracedLemmas.{source_of_kept}
use Rattle.edited_unit_laws.proofs.AnalysedUnitLemmas.{unit_is, number_origin}
use Rattle.rename_meaning.specs.ReachedLines.{LinesStayAlikeWhereNamed}
use Rattle.rename_meaning.proofs.KeptNameLemmas.{links_agree}
use Rattle.rename_meaning.proofs.LineItemLemmas.{item_is_line, define_line}
use Rattle.rename_meaning.proofs.ParameterLemmas.{parameter_in, uses_alike}

-- ---- parameters

parameter_listed : (toks : List Token) (p : Token) → In p (parameters_of toks) → In p toks
parameter_listed toks p i = elim (cases_Bool (is_function_like toks)) [
  | inr object ↦ let none : In p [] = rw object at i in absurd (none_in p none)
  | inl function ↦ (parameter_in toks p i function).0
]

-- ---- what is taken from a reached item

-- The token is taken from this item of this file, which a unit reached.
record IsTakenOf (a : AnalysisValue) (n : ℕ) (f : KeptValue) (w : Token) : Type 0 where
  unit : UnitAnalysis
  among : In unit a.units
  reached : Reached
  told : In reached unit.text.reached
  number : reached.file ≡ n
  item : ItemText
  at : item_at reached.item f ≡ Some item
  taken_from : In w (taken item.kind reached.evaluated item.toks)

record IsReachedOf (table : Table) (r : Reached) (t : Token) : Type 0 where
  file : KeptValue
  is_kept : kept_at table r.file ≡ Some file
  item : ItemText
  at : item_at r.item file ≡ Some item
  taken_from : In t (taken item.kind r.evaluated item.toks)

reached_of : (table : Table) (r : Reached) (t : Token) (o : Option KeptValue) → kept_at table r.file ≡ o
    → In t (option_map_or (λ (i : ItemText). taken i.kind r.evaluated i.toks) (option_and_then (item_at r.item) o) []) → IsReachedOf table r t
reached_of table r t None is j = absurd (none-some t j.1)
reached_of table r t (Some k) is j = by (item_at r.item k) refl j
  where
    by : (i : Option ItemText) → item_at r.item k ≡ i → In t (option_map_or (λ (i : ItemText). taken i.kind r.evaluated i.toks) i []) → IsReachedOf table r t
    by None at n = absurd (none-some t n.1)
    by (Some i) at n = record { file = k; is_kept = is; item = i; at = at; taken_from = n }

-- the tokens of which an item is made are those of its file
item_listed : (r : ℕ) (f : KeptValue) (i : ItemText) → item_at r f ≡ Some i → In i (item_texts (tokens_of f.number f.bytes) (firsts_of f.bytes))
item_listed r f i at = (r, at)

module _ (a : Analysed) (members : List Part) (name : List ℕ) (h : IsAllowed a members name) (n : ℕ) (f : KeptValue) (is : kept_at a.value.table n ≡ Some f) where
  abbrev file_toks : List Token
  file_toks = tokens_of f.number f.bytes

  abbrev file_lines : List (List Token)
  file_lines = lines_of file_toks (firsts_of f.bytes)

  abbrev S : Token → List ℕ
  S = spelled members name

  line_listed : (line : List Token) (t : Token) → In line file_lines → In t line → In t file_toks
  line_listed line t i j = subst (λ (ts : List Token). In t ts) (lines-together file_toks (firsts_of f.bytes)) (in_together file_lines line t i j)

  free_same : (t : Token) → In t file_toks → holds_member members t ≡ false → S t ≡ t.text
  free_same t i free = free-stays a.value members name (none_stand a.value members name h.first) t (file_told a members name h n f is t i) free

  -- the characters of what a unit took lie in a token of this file
  taken_here : (w t : Token) (u : UnitAnalysis) (r : Reached) (p : Pos) (place : ℕ) → In u a.value.units → In r u.text.reached → In t (taken_reached a.value.table r)
      → In w file_toks → slice_get t.origins place ≡ Some (Some p) → holds (span_of w) p ≡ true → p.file ≡ f.number → IsTakenOf a.value n f w
  taken_here w t u r p place in_u in_r in_t in_w at held file =
      let from = reached_of a.value.table r t (kept_at a.value.table r.file) refl in_t in
      let g : KeptValue = from.file in
      let own = listed_of g from.item r.evaluated t (item_listed r.item g from.item from.at) from.taken_from in
      let stands = token_stands g.number g.bytes t own in
      let less : place < length t.text =
      (let b = slice_get_within t.origins place (Some p) at in
      let l = ap length stands.origins ∙ length-origins g.number t.at.at (length t.text) in
      omega (arith, b, l)) in
      let origin : Some (pos g.number (t.at.at + place)) ≡ Some p =
      same_Some (Some (pos g.number (t.at.at + place))) (Some p)
      (sym (origin_in g.number t.at.at (length t.text) place less) ∙ ap (λ (os : List (Option Pos)). slice_get os place) (sym stands.origins) ∙ at) in
      let start : pos g.number (t.at.at + place) ≡ p = same_Some (pos g.number (t.at.at + place)) p origin in
      let number : r.file ≡ n =
      sym (kept_number a.value.table r.file g from.is_kept) ∙ ap (λ (q : Pos). q.file) start ∙ file ∙ kept_number a.value.table n f is in
      let same : g ≡ f = same_Some g f (sym from.is_kept ∙ ap (kept_at a.value.table) number ∙ is) in
      let own_here : In t file_toks = subst (λ (k : KeptValue). In t (tokens_of k.number k.bytes)) same own in
      let over_t : holds (span_of t) (pos f.number (t.at.at + place)) ≡ true = token_held a members name h n f is t place own_here less in
      let at_start : pos f.number (t.at.at + place) ≡ p = ap (λ (k : KeptValue). pos k.number (t.at.at + place)) (sym same) ∙ start in
      let over : holds (span_of t) p ≡ true = subst (λ (q : Pos). holds (span_of t) q ≡ true) at_start over_t in
      let one : w ≡ t = once a members name h n f is w t p in_w own_here file held over in
      record {
        unit = u;
        among = in_u;
        reached = r;
        told = in_r;
        number = number;
        item = from.item;
        at = ap (λ (k : KeptValue). item_at r.item k) (sym same) ∙ from.at;
        taken_from = subst (λ (x : Token). In x (taken from.item.kind r.evaluated from.item.toks)) (sym one) from.taken_from;
      }
    where
      listed_of : (k : KeptValue) (i : ItemText) (evaluated : Bool) (x : Token) → In i (item_texts (tokens_of k.number k.bytes) (firsts_of k.bytes)) → In x (taken i.kind evaluated i.toks)
          → In x (tokens_of k.number k.bytes)
      listed_of k i evaluated x j l = taken_listed (tokens_of k.number k.bytes) (firsts_of k.bytes) i evaluated x j l

  -- a definition that is taken from has its links in the unit
  taken_uses : (w : Token) (k : IsTakenOf a.value n f w) → k.item.kind ≡ kind.Define → UsesHaveLinks k.unit.text k.item
  taken_uses w k define =
      let u = unit_is h.source h.workspace a.value h.accepted k.unit k.among in
      let text = u.text in
      let P : UnitTextValue → Type 0 = λ v. In k.reached v.reached in
      let Q : UnitTextValue → Type 0 = λ v. IsReachedItem a.value.table v k.reached in
      let r = subst Q u.own (uses_are_linked u.source u.number u.unit u.before text a.value.table u.is_text u.grown k.reached (subst P (sym u.own) k.told)) in
      let s = source_of_kept a.value.table k.reached.file r.file r.is_kept in
      let same : s.kept ≡ f = same_Some s.kept f (sym s.is_kept ∙ ap (kept_at a.value.table) k.number ∙ is) in
      let items : items_in r.file ≡ item_texts file_toks (firsts_of f.bytes) =
      ap (λ (ts : List Token). item_texts ts r.file.text.firsts) s.toks ∙ ap (λ (fs : List Bool). item_texts (tokens_of s.kept.number s.kept.bytes) fs) s.firsts
      ∙ ap (λ (g : KeptValue). item_texts (tokens_of g.number g.bytes) (firsts_of g.bytes)) same in
      let one : r.item ≡ k.item = same_Some r.item k.item (sym r.at ∙ ap (λ (is : List ItemText). slice_get is k.reached.item) items ∙ k.at) in
      subst (λ (i : ItemText). UsesHaveLinks k.unit.text i) one (r.uses (ap (λ (i : ItemText). i.kind) one ∙ define))

  -- a token of this file that holds a member is taken from a reached item
  held_taken : (path : List ℕ) (line column : ℕ) → Names a.value path line column (Some h.class.part) → (w : Token) → In w file_toks → holds_member members w ≡ true
      → IsTakenOf a.value n f w
  held_taken path line column named w listed held =
      let stands = token_stands f.number f.bytes w listed in
      let found_m = any_member members f.number w.at.at (length w.text) (ap (λ (os : List (Option Pos)). list_any (is_from members) os) (sym stands.origins) ∙ held) in
      let k = found_m.0 in
      let m = found_m.1 in
      let p : Pos = pos f.number (w.at.at + k) in
      let over = over_in a.value members h.class.part h.class.listed p m found_m.3 in
      let parted = held_parted a members name h n f is w listed held in
      let token = span_is a.value w (file_token a.value n f w is listed parted) in
      let is_part = (h.class.listed.each over.0.0 m over.0.1).is_part in
      let start = part_in_token a.value m (span_of w) p is_part token over.1 (token_held a members name h n f is w k listed found_m.2) in
      let file : m.start.file ≡ f.number = (holding m p over.1).file in
      let lies = member_lies a members name h path line column named m over.0 in
      split_at (IsTakenOf a.value n f w) lies.token (flat_map (taken_by a.value) a.value.units) (all_brought a.value.units) lies.among.0 lies.among.1
      (λ j.
      let u = flat_element (taken_by a.value) lies.token a.value.units j in
      let r = flat_element (taken_reached a.value.table) lies.token u.0.text.reached u.2 in
      taken_here w lies.token u.0 r.0 m.start lies.place u.1 r.1 r.2 listed lies.at start file)
      (λ j.
      let u = flat_element (λ (v : UnitAnalysis). numbers_brought v.text) lies.token a.value.units j in
      let is_u = unit_is h.source h.workspace a.value h.accepted u.0 u.1 in
      let zero_file = number_origin a.value u.0 u.1 is_u lies.token u.2 lies.place m.start lies.at in
      absurd (no_line a.value members name (none_stand a.value members name h.first) m over.0 zero_file))

  -- where no token of a line behind its word holds a member, all stay
  free_alike : (line operands : List Token) → In line file_lines → ((t : Token) → In t operands → In t line) → list_any (holds_member members) operands ≡ false
      → UsesStayAlike members name (drop 1 operands)
  free_alike line operands in_lines each none =
      let toks : List Token = drop 1 operands in
      let free : (t : Token) → In t toks → S t ≡ t.text = λ t i.
      (let j = in_drop t 1 operands i in
      free_same t (line_listed line t in_lines (each t j))
      (false_from_ne_true (holds_member members t) (λ held. both_ways (list_any (holds_member members) operands) none (any_at (holds_member members) operands j.0 t j.1 held)))) in
      each_of (λ (p : Token). Each (λ (t : Token). t.text ≡ p.text → S t ≡ S p) toks) (parameters_of toks) (λ p ip.
      each_of (λ (t : Token). t.text ≡ p.text → S t ≡ S p) toks (λ t it same. free t it ∙ same ∙ sym (free p (parameter_listed toks p ip))))

  define_alike : (path : List ℕ) (line column : ℕ) → Names a.value path line column (Some h.class.part) → (hash word : Token) (operands : List Token) → In (hash ∷ word ∷ operands) file_lines → is_hash hash ≡ true → defines word ≡ true
      → UsesStayAlike members name (drop 1 operands)
  define_alike path line column named hash word operands in_lines is_one def =
      let words : List Token = hash ∷ word ∷ operands in
      let far : (t : Token) → In t operands → In t words = λ t i. (suc (suc i.0), i.1) in
      elim (cases_Bool (list_any (holds_member members) operands)) [
        | inr none ↦ free_alike words operands in_lines far none
        | inl some ↦
            let w = any_in (holds_member members) operands some in
            let in_line = far w.0 w.1 in
            let k = held_taken path line column named w.0 (line_listed words w.0 in_lines in_line) w.2 in
            let d = define_line hash word operands is_one def in
            let same = item_is_line f.number f.bytes k.item k.reached.evaluated words w.0 (item_listed k.reached.item f k.item k.at) k.taken_from in_lines in_line d.0 in
            let P : ItemKind → List Token → Type 0 = λ kd ts. In w.0 (taken kd k.reached.evaluated ts) in
            let from : In w.0 (taken (line_kind words) k.reached.evaluated k.item.toks) = subst (λ (kd : ItemKind). In w.0 (taken kd k.reached.evaluated k.item.toks)) same.0 k.taken_from in
            let define : line_kind words ≡ kind.Define = d.1 k.reached.evaluated k.item.toks w.0 from in
            let uses = taken_uses w.0 k (same.0 ∙ define) in
            let agree : LinksAgree S k.unit.text = links_agree a members name h k.unit k.among in
            uses_alike S f.number hash word operands uses.definition (λ t i. token_stands f.number f.bytes t (line_listed words t in_lines (far t (in_drop t 1 operands i))))
            (ap defined_by (sym same.1) ∙ uses.defined) (λ l j. agree l (uses.links l j))
      ]

  line_alike : (path : List ℕ) (line column : ℕ) → Names a.value path line column (Some h.class.part) → (words : List Token) → In words file_lines → LineStaysAlike members name words
  line_alike path line column named [] i = tt
  line_alike path line column named (hash ∷ []) i = tt
  line_alike path line column named (hash ∷ word ∷ operands) i = λ is_one def. define_alike path line column named hash word operands i is_one def

pub lines_stay_alike_where_named : LinesStayAlikeWhereNamed
lines_stay_alike_where_named = λ a members name path line column h named n f is.
    each_of (LineStaysAlike members name) (lines_of (tokens_of f.number f.bytes) (firsts_of f.bytes)) (λ words i. line_alike a members name h n f is path line column named words i)
