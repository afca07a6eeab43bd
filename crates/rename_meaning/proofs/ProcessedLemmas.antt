-- Members of a class that a place names lie in what units take from the items of their files.
use Rattle.std.proofs.Common.{◌≡◌, ℕ, zero, suc, ◌+◌, ◌-◌, ◌<◌, ◌&&◌, Bool, true, false, List, [], ◌∷◌, ◌++◌, length, map, drop, Option, Some, None, inl, inr, refl, sym, ap, subst, ◌∙◌, arith, append-nil}
use Rattle.std.specs.Prelude.{slice_get}
use Rattle.std.specs.List.{flat_map, list_any}
use Rattle.std.specs.Option.{option_map_or, option_and_then}
use Rattle.std.specs.Str.{bytes_eq}
use Rattle.std.proofs.lemmas.Bool.{cases_Bool, cases_lt, and_parts, false_from_ne_true}
use Rattle.std.proofs.lemmas.Option.{same_Some, slice_get_within}
use Rattle.cs_base.specs.declared.positions.Part.{Part}
use Rattle.cs_base.specs.declared.positions.Pos.{Pos}
use Rattle.cs_base.specs.declared.tokens.Link.{Link}
use Rattle.cs_base.specs.Token.{Token}
use Rattle.cs_base.proofs.OriginLemmas.{origin_cases as origin_there}
use Rattle.cs_base.proofs.PlaceLemmas.{pos_is as same_pos}
use Rattle.lexer.specs.Characters.{is_word}
use Rattle.lexer.specs.Places.{pos}
use Rattle.lexer.specs.Tokens.{tokens_of, firsts_of}
use Rattle.lexer.proofs.OriginLemmas.{length-origins, origin_in}
use Rattle.line_shape.specs.declared.items.ItemKind.{ItemKind}
use Rattle.line_shape.specs.declared.items.ItemKind.TheVariants as kind
use Rattle.line_shape.specs.declared.items.GnuLine.TheVariants as gnu
use Rattle.line_shape.specs.Items.{lines_of}
use Rattle.line_shape.specs.Signs.{is_name}
use Rattle.line_shape.proofs.SignLemmas.{name_kept as named_parted}
use Rattle.unit_steps.specs.declared.events.Reached.{Reached}
use Rattle.source_files.specs.Files.{Table}
use Rattle.source_files.specs.KeptFiles.{KeptValue, kept_at}
use Rattle.include_tree.specs.Walk.{ItemText, item_texts, items_in}
use Rattle.include_tree.proofs.StayingLemmas.{source-grown}
use Rattle.analysis.specs.Below.eclass_map.Chain.{here, along as then_link, back}
use Rattle.analysis.specs.Below.eclass_map.ClassTable.{LinkedBy, part_of_file}
use Rattle.analysis.specs.Below.eclass_map.Positions.{along, holds}
use Rattle.analysis.proofs.Below.eclass_map.TokenFacts.{holding, holds_from}
use Rattle.expansion_laws.specs.Pieces.{IsOneOf, IsMadeOf, IsWhole}
use Rattle.expansion_laws.specs.Spelled.{is_spelled}
use Rattle.expansion_laws.proofs.ListLemmas.{toks_at, toks_pass}
use Rattle.unit_laws.specs.UnitItems.{expanded_name, taken, ReachedAreWhole}
use Rattle.unit_laws.specs.UnitTokens.{UnitIsWhole}
use Rattle.analysis.specs.Analysed.{Analysed}
use Rattle.analysis.specs.Analysis.{UnitAnalysis, AnalysisValue}
use Rattle.analysis.specs.BroughtNumbers.{all_brought}
use Rattle.analysis.specs.FileTokens.{numbers_brought, span_of, IsFileToken}
use Rattle.analysis.specs.Links.{linked_pairs, links_of, pair_of}
use Rattle.analysis.specs.Naming.{computed_name, nameable, item_at, names_in_item, names_reached, names_processed, is_processed, where_processed, named_position, file_named, character_of, Names}
use Rattle.analysis.specs.Parts.{AreSame, IsPart, IsStart}
use Rattle.analysis.proofs.NamingLemmas.{split_at, in_left, in_right, filter_in, any_in}
use Rattle.analysis.proofs.PlaceNameLemmas.{kept_number}
use Rattle.analysis.proofs.TokenPlaceLemmas.{token_placed}
use Rattle.offences.specs.Tokens.{holds_member}
use Rattle.edited_unit_laws.specs.Lines.{Each}
use Rattle.unit_laws.proofs.NameLemmas.{kind_words, only_one}
use Rattle.rename_meaning.specs.Allowed.{IsAllowed}
use Rattle.rename_meaning.specs.KeptFiles.{WordIsFree}
use Rattle.rename_meaning.specs.NamedClasses.{WordsAreFreeWhereNamed}
use Rattle.edited_unit_laws.proofs.ListLemmas.{In, AllOf, all_of, in_flat}
use Rattle.rename_meaning.proofs.DirectiveLemmas.{word_of, word_not_taken, word_listed, word_first, word_later, taken_listed}
use Rattle.rename_meaning.proofs.KeptLemmas.{token_held, once}
use Rattle.edited_unit_laws.proofs.FileLemmas.{token_stands}
use Rattle.rename_meaning.proofs.SpellLemmas.{is_from}
use Rattle.rename_meaning.proofs.LinkLemmas.{Both, links_have}
use Rattle.rename_meaning.proofs.MemberLemmas.{over_in}
use Rattle.edited_unit_laws.proofs.TableTokenLemmas.{file_token, span_is}
use Rattle.rename_meaning.proofs.NoneLemmas.{none_stand, no_line}
use Rattle.edited_unit_laws.proofs.TracedLemmas.{source_of_kept, spelled_fits}
use Rattle.edited_unit_laws.proofs.AnalysedUnitLemmas.{IsUnit, unit_is, unit_spelled, number_origin, unit_whole_by}
use Rattle.rename_meaning.proofs.ApartLemmas.{any_member, held_parted}

-- ---- what units take

-- the tokens that are taken from a reached item
abbrev pub taken_reached : Table → Reached → List Token
taken_reached table r = option_map_or (λ (i : ItemText). taken i.kind r.evaluated i.toks) (option_and_then (item_at r.item) (kept_at table r.file)) []

abbrev pub taken_by : AnalysisValue → UnitAnalysis → List Token
taken_by a u = flat_map (taken_reached a.table) u.text.reached

-- those that are taken in some unit, and the numbers that units brought
abbrev pub all_taken : AnalysisValue → List Token
all_taken a = flat_map (taken_by a) a.units ++ all_brought a.units

one_made : (files : List Token) (t : Token) → IsOneOf files t → IsMadeOf files t
one_made files t at = record {
  pieces = t ∷ [];
  each = λ piece there. subst (IsOneOf files) (only_one t piece there.0 there.1) at;
  text = sym (append-nil t.text);
  origins = sym (append-nil t.origins);
}

module _ (a : AnalysisValue) where
  taken_in : (u : UnitAnalysis) (r : Reached) (t : Token) → In u a.units → In r u.text.reached → In t (taken_reached a.table r) → In t (all_taken a)
  taken_in u r t i j k =
      in_left t (flat_map (taken_by a) a.units) (all_brought a.units)
      (in_flat (taken_by a) a.units u t i (in_flat (taken_reached a.table) u.text.reached r t j k))

  brought_in : (u : UnitAnalysis) (t : Token) → In u a.units → In t (numbers_brought u.text) → In t (all_taken a)
  brought_in u t i j =
      in_right t (flat_map (taken_by a) a.units) (all_brought a.units) (in_flat (λ (v : UnitAnalysis). numbers_brought v.text) a.units u t i j)

  reached_is : (r : Reached) (k : KeptValue) (i : ItemText) → kept_at a.table r.file ≡ Some k → item_at r.item k ≡ Some i
      → taken_reached a.table r ≡ taken i.kind r.evaluated i.toks
  reached_is r k i is at =
      ap (λ (o : Option KeptValue). option_map_or (λ (j : ItemText). taken j.kind r.evaluated j.toks) (option_and_then (item_at r.item) o) []) is
      ∙ ap (λ (o : Option ItemText). option_map_or (λ (j : ItemText). taken j.kind r.evaluated j.toks) o []) at

-- ---- the tokens of a unit

module _ (a : AnalysisValue) (u : UnitAnalysis) (i : In u a.units) (h : IsUnit a.table u) where
  reached_whole : ReachedAreWhole is_word (all_taken a) h.text.after.table u.text
  reached_whole = λ r file item j kept at t there words.
      let later = source-grown h.text.after.table a.table r.file file h.grown kept in
      let s = source_of_kept a.table r.file file later in
      let same : item_texts (tokens_of s.kept.number s.kept.bytes) (firsts_of s.kept.bytes) ≡ items_in file =
      sym (ap (λ (ts : List Token). item_texts ts file.text.firsts) s.toks ∙ ap (λ (fs : List Bool). item_texts (tokens_of s.kept.number s.kept.bytes) fs) s.firsts) in
      let item_is : item_at r.item s.kept ≡ Some item = ap (λ (is : List ItemText). slice_get is r.item) same ∙ at in
      let own : taken_reached a.table r ≡ taken item.kind r.evaluated item.toks = reached_is a r s.kept item s.is_kept item_is in
      one_made (all_taken a) t (taken_in a u r t i j (subst (λ (ts : List Token). In t ts) (sym own) there))

  unit_whole : UnitIsWhole is_word (all_taken a) u.text
  unit_whole = unit_whole_by a u i h (all_taken a) reached_whole (λ t j. one_made (all_taken a) t (brought_in a u t i j))

-- ---- characters of them

-- the character is one of a token that a unit took, or of a number
pub record Lies (a : AnalysisValue) (p : Pos) : Type 0 where
  pub token : Token
  pub among : In token (all_taken a)
  pub place : ℕ
  pub at : slice_get token.origins place ≡ Some (Some p)

module _ (a : AnalysisValue) where
  flat_lies : (pieces : List Token) (k : ℕ) (p : Pos) → ((piece : Token) → IsOneOf pieces piece → IsOneOf (all_taken a) piece)
      → slice_get (flat_map (λ (piece : Token). piece.origins) pieces) k ≡ Some (Some p) → Lies a p
  flat_lies [] k p each e = absurd (cc)
  flat_lies (t ∷ pieces) k p each e =
      split_at _ (Some p) t.origins (flat_map (λ (piece : Token). piece.origins) pieces) k e
      (λ j. record { token = t; among = each t (0, refl); place = j.0; at = j.1 })
      (λ j. flat_lies pieces j.0 p (λ piece there. each piece (suc there.0, there.1)) j.1)

  made_lies : (t : Token) (k : ℕ) (p : Pos) → IsMadeOf (all_taken a) t → slice_get t.origins k ≡ Some (Some p) → Lies a p
  made_lies t k p made e =
      let origins : slice_get (flat_map (λ (piece : Token). piece.origins) made.pieces) k ≡ Some (Some p) =
      ap (λ (os : List (Option Pos)). slice_get os k) (sym made.origins) ∙ e in
      flat_lies made.pieces k p made.each origins

-- what is known of a token of a unit
pub record IsReady (a : AnalysisValue) (t : Token) : Type 0 where
  pub whole : IsWhole is_word (all_taken a) t
  pub spelled : is_spelled t ≡ true

ready_made : (a : AnalysisValue) (t : Token) → IsReady a t → is_name t ≡ true → IsMadeOf (all_taken a) t
ready_made a t h named =
    let whole = h.whole in
    whole (kind_words t.kind t.text named (spelled_fits t h.spelled))

module _ (a : Analysed) (members : List Part) (name : List ℕ) (h : IsAllowed a members name) where
  unit_ready : (u : UnitAnalysis) → In u a.value.units → AllOf (IsReady a.value) u.text.toks × AllOf (Both (IsReady a.value)) u.text.links
  unit_ready u i =
      let is = unit_is h.source h.workspace a.value h.accepted u i in
      let whole = unit_whole a.value u i is in
      let spelled = unit_spelled a.value u i is in (
        all_of (IsReady a.value) u.text.toks (λ t j. record {
          whole = whole.toks t j;
          spelled = toks_at (λ v. is_spelled v ≡ true) u.text.toks (toks_pass is_spelled u.text.toks spelled.toks) t j.0 j.1;
        }),
        all_of (Both (IsReady a.value)) u.text.links (λ l j.
            let w = whole.links l j in
            let s = spelled.links l j in
            (record { whole = w.0; spelled = s.0 }, record { whole = w.1; spelled = s.1 })),
      )

  -- both characters of a link lie so
  linked_lies : (p q : Pos) → LinkedBy (linked_pairs a.value) p q → Lies a.value p × Lies a.value q
  linked_lies p q linked =
      let l = pair_in (links_of a.value) linked.place linked.first linked.second linked.at in
      let k = links_have (IsReady a.value) a.value unit_ready l.0 l.1 in
      let both = and_parts (is_name l.0.x && is_name l.0.y) (bytes_eq l.0.x.text l.0.y.text) k.1 in
      let names = and_parts (is_name l.0.x) (is_name l.0.y) both.0 in
      let link = linked.link in
      let first : slice_get l.0.x.origins link.place ≡ Some (Some p) =
      subst (λ (t : Token). slice_get t.origins link.place ≡ Some (Some p)) (sym l.2) (origin_there linked.first link.place p link.first) in
      let second : slice_get l.0.y.origins link.place ≡ Some (Some q) =
      subst (λ (t : Token). slice_get t.origins link.place ≡ Some (Some q)) (sym l.3) (origin_there linked.second link.place q link.second) in (
        made_lies a.value l.0.x link.place p (ready_made a.value l.0.x k.0.0 names.0) first,
        made_lies a.value l.0.y link.place q (ready_made a.value l.0.y k.0.1 names.1) second,
      )
    where
      pair_in : (ls : List Link) (k : ℕ) (x y : Token) → slice_get (map pair_of ls) k ≡ Some (x, y) → (l : Link) × In l ls × (l.x ≡ x) × (l.y ≡ y)
      pair_in [] k x y e = absurd (cc)
      pair_in (l ∷ ls) zero x y e =
          let same : pair_of l ≡ (x, y) = same_Some (pair_of l) (x, y) e in
          (l, (0, refl), ap (λ (c : Token × Token). c.0) same, ap (λ (c : Token × Token). c.1) same)
      pair_in (l ∷ ls) (suc k) x y e = let r = pair_in ls k x y e in (r.0, (suc r.1.0, r.1.1), r.2, r.3)

  same_lies : (p q : Pos) → AreSame a.value p q → Lies a.value p → Lies a.value q
  same_lies p q here lies = lies
  same_lies p q (then_link {q = r} link rest) lies = same_lies r q rest (linked_lies p r link).1
  same_lies p q (back {q = r} link rest) lies = same_lies r q rest (linked_lies r p link).0

-- ---- what a place names

position_processed : (a : AnalysisValue) (o : Option Pos) (p : Pos) → option_and_then (where_processed a) o ≡ Some p → is_processed a p ≡ true
position_processed a None p e = absurd (cc)
position_processed a (Some q) p e = elim (cases_Bool (is_processed a q)) [
  | inl is ↦ let same : q ≡ p = (let here : Some q ≡ Some p = rw is at e in same_Some q p here) in ap (is_processed a) (sym same) ∙ is
  | inr is_not ↦ let none : None ≡ Some p = rw is_not at e in absurd (cc)
]

named_processed : (a : AnalysisValue) (path : List ℕ) (line column : ℕ) (p : Pos) → named_position a path line column ≡ Some p → is_processed a p ≡ true
unfolding named_position
named_processed a path line column p e = position_processed a (option_and_then (character_of line column) (file_named path 0 a.table)) p e

same_taken : (k : ItemKind) (evaluated : Bool) (toks : List Token) → nameable k evaluated toks ≡ taken k evaluated toks
same_taken kind.Run evaluated toks = refl
same_taken kind.Define evaluated toks = refl
same_taken kind.Undef evaluated toks = refl
same_taken kind.Ifdef evaluated toks = refl
same_taken kind.Ifndef evaluated toks = refl
same_taken kind.If true toks = refl
same_taken kind.If false toks = refl
same_taken kind.Elif true toks = refl
same_taken kind.Elif false toks = refl
same_taken kind.Include evaluated toks = names_same (drop 2 toks)
  where
    names_same : (ts : List Token) → computed_name ts ≡ expanded_name ts
    names_same [] = refl
    names_same (t ∷ ts) = refl
same_taken kind.Else evaluated toks = refl
same_taken kind.Endif evaluated toks = refl
same_taken kind.Line evaluated toks = refl
same_taken kind.Error evaluated toks = refl
same_taken kind.Pragma evaluated toks = refl
same_taken kind.Empty evaluated toks = refl
same_taken (kind.Bad cause at nests) evaluated toks = refl
same_taken (kind.Gnu gnu.IncludeNext) evaluated toks = refl
same_taken (kind.Gnu gnu.Message) evaluated toks = refl
same_taken (kind.Gnu gnu.Elifdef) true toks = refl
same_taken (kind.Gnu gnu.Elifdef) false toks = refl
same_taken (kind.Gnu gnu.Elifndef) true toks = refl
same_taken (kind.Gnu gnu.Elifndef) false toks = refl

-- a token that is taken from an item of a kept file
pub record TakenFrom (table : Table) (t : Token) : Type 0 where
  pub number : ℕ
  pub file : KeptValue
  pub is_kept : kept_at table number ≡ Some file
  pub item : ItemText
  pub evaluated : Bool
  pub there : In item (item_texts (tokens_of file.number file.bytes) (firsts_of file.bytes))
  pub taken_from : In t (taken item.kind evaluated item.toks)

taken_from_by : (table : Table) (r : Reached) (t : Token) (o : Option KeptValue) → kept_at table r.file ≡ o
    → In t (option_map_or (λ (i : ItemText). taken i.kind r.evaluated i.toks) (option_and_then (item_at r.item) o) []) → TakenFrom table t
taken_from_by table r t None is j = absurd (let e = j.1 in cc)
taken_from_by table r t (Some k) is j = by (item_at r.item k) refl j
  where
    by : (i : Option ItemText) → item_at r.item k ≡ i → In t (option_map_or (λ (i : ItemText). taken i.kind r.evaluated i.toks) i []) → TakenFrom table t
    by None at n = absurd (let e = n.1 in cc)
    by (Some i) at n = record { number = r.file; file = k; is_kept = is; item = i; evaluated = r.evaluated; there = (r.item, at); taken_from = n }

reached_from : (table : Table) (r : Reached) (t : Token) → In t (taken_reached table r) → TakenFrom table t
reached_from table r t j = taken_from_by table r t (kept_at table r.file) refl j

pub flat_element : {X Y : Type 0} (f : X → List Y) (y : Y) (xs : List X) → In y (flat_map f xs) → (x : X) × In x xs × In y (f x)
flat_element f y [] i = absurd (let e = i.1 in cc)
flat_element f y (x ∷ xs) i =
    split_at _ y (f x) (flat_map f xs) i.0 i.1 (λ j. (x, (0, refl), j))
    (λ j. let r = flat_element f y xs j in (r.0, (suc r.1.0, r.1.1), r.2))

named_taken_by : (r : Reached) (t : Token) (o : Option ItemText) → In t (option_map_or (names_in_item r.evaluated) o [])
    → In t (option_map_or (λ (i : ItemText). taken i.kind r.evaluated i.toks) o []) × (is_name t ≡ true)
named_taken_by r t None j = absurd (let e = j.1 in cc)
named_taken_by r t (Some i) j =
    let f = filter_in is_name t (nameable i.kind r.evaluated i.toks) j in
    (subst (λ (ts : List Token). In t ts) (same_taken i.kind r.evaluated i.toks) f.0, f.1)

module _ (a : AnalysisValue) where
  -- a processed identifier is taken
  processed_taken : (t : Token) → In t (names_processed a) → In t (all_taken a) × TakenFrom a.table t × (is_name t ≡ true)
  unfolding names_processed
  processed_taken t i =
      let u = flat_element (λ (v : UnitAnalysis). flat_map (names_reached a.table) v.text.reached) t a.units i in
      let r = flat_element (names_reached a.table) t u.0.text.reached u.2 in
      let n = named_taken_by r.0 t (option_and_then (item_at r.0.item) (kept_at a.table r.0.file)) r.2 in
      (taken_in a u.0 r.0 t u.1 r.1 n.0, reached_from a.table r.0 t n.0, n.1)

  -- a part that holds a character of a file token begins in it
  pub part_in_token : (part token : Part) (p : Pos) → IsPart a part → IsFileToken a token → holds part p ≡ true → holds token p ≡ true → holds token part.start ≡ true
  part_in_token part token p is file held also =
      let h = holding part p held in
      let k = holding token p also in
      let same : token.start.file ≡ part.start.file = k.file ∙ sym h.file in
      elim (cases_lt part.start.at token.start.at) [
        | inl less ↦
            let o = token.start.at - part.start.at in
            let there : along part.start o ≡ token.start = same_pos (along part.start o) token.start (sym same) (omega (arith, less)) in
            let goes = is.goes_on o (omega (arith, less)) (omega (arith, less, h, k)) in
            let start : IsStart a token.start = (token.start, (token, file, refl), here) in
            let P : Pos → Type 0 = IsStart a in
            absurd (goes.1 (subst P (sym there) start))
        | inr most ↦ holds_from token part.start (record { file = same; from = most; less = omega (arith, h, k, most) })
      ]

  -- a token of a kept file that holds a character has it among its origins
  held_origin : (n : ℕ) (f : KeptValue) (t : Token) (p : Pos) → kept_at a.table n ≡ Some f → In t (tokens_of f.number f.bytes) → holds (span_of t) p ≡ true
      → (k : ℕ) × (slice_get t.origins k ≡ Some (Some p)) × (p ≡ pos f.number (t.at.at + k))
  held_origin n f t p is i held =
      let stands = token_stands f.number f.bytes t i in
      let span = (token_placed f.number f.bytes i.0 t i.1).span in
      let h = holding (part_of_file f.number t.at.at (length t.text)) p (subst (λ (q : Part). holds q p ≡ true) span held) in
      let k = p.at - t.at.at in
      let at : p ≡ pos f.number (t.at.at + k) = sym (same_pos (pos f.number (t.at.at + k)) p h.file (omega (arith, h))) in
      let origin = origin_in f.number t.at.at (length t.text) k h.less in
      (k, ap (λ (os : List (Option Pos)). slice_get os k) stands.origins ∙ origin ∙ ap (λ (q : Pos). Some (Some q)) (sym at), at)

-- ---- members

each_of : {X : Type 0} (P : X → Type 0) (xs : List X) → ((x : X) → In x xs → P x) → Each P xs
each_of P [] h = tt
each_of P (x ∷ xs) h = (h x (0, refl), each_of P xs (λ y i. h y (suc i.0, i.1)))

module _ (a : Analysed) (members : List Part) (name : List ℕ) (h : IsAllowed a members name) where
  -- a part that a place names begins in what a unit took
  start_lies : (path : List ℕ) (line column : ℕ) → Names a.value path line column (Some h.class.part) → Lies a.value h.class.part.start
  start_lies path line column named =
      let p = named.0 in
      let over = any_in (λ (t : Token). holds (span_of t) p) (names_processed a.value) (named_processed a.value path line column p named.1) in
      let t = over.0 in
      let processed = processed_taken a.value t over.1 in
      let from = processed.1 in
      let listed = taken_listed (tokens_of from.file.number from.file.bytes) (firsts_of from.file.bytes) from.item from.evaluated t from.there from.taken_from in
      let token = span_is a.value t (file_token a.value from.number from.file t from.is_kept listed (named_parted t.kind processed.2)) in
      let held = part_in_token a.value h.class.part (span_of t) p named.2 token named.3 over.2 in
      let origin = held_origin a.value from.number from.file t h.class.part.start from.is_kept listed held in
      record { token = t; among = processed.0; place = origin.0; at = origin.1 }

  -- so does each member
  pub member_lies : (path : List ℕ) (line column : ℕ) → Names a.value path line column (Some h.class.part) → (m : Part) → In m members → Lies a.value m.start
  member_lies path line column named m i =
      let listed = h.class.listed in
      same_lies a members name h h.class.part.start m.start (listed.each i.0 m i.1).same (start_lies path line column named)

  module _ (n : ℕ) (f : KeptValue) (is : kept_at a.value.table n ≡ Some f) (path : List ℕ) (line column : ℕ) (named : Names a.value path line column (Some h.class.part)) where
    abbrev file_toks : List Token
    file_toks = tokens_of f.number f.bytes

    abbrev file_lines : List (List Token)
    file_lines = lines_of file_toks (firsts_of f.bytes)

    -- the word would be taken from an item
    word_taken : (words : List Token) (word t : Token) (m : Part) (place : ℕ) → In words file_lines → In word (word_of words) → In word file_toks → In t (flat_map (taken_by a.value) a.value.units)
        → slice_get t.origins place ≡ Some (Some m.start) → holds (span_of word) m.start ≡ true → m.start.file ≡ f.number → ⊥
    word_taken words word t m place in_lines is_word listed among at held file =
        let u = flat_element (taken_by a.value) t a.value.units among in
        let r = flat_element (taken_reached a.value.table) t u.0.text.reached u.2 in
        let from = reached_from a.value.table r.0 t r.2 in
        let own = taken_listed (tokens_of from.file.number from.file.bytes) (firsts_of from.file.bytes) from.item from.evaluated t from.there from.taken_from in
        let stands = token_stands from.file.number from.file.bytes t own in
        let less : place < length t.text =
        (let w = slice_get_within t.origins place (Some m.start) at in
        let l = ap length stands.origins ∙ length-origins from.file.number t.at.at (length t.text) in
        omega (arith, w, l)) in
        let origin : Some (pos from.file.number (t.at.at + place)) ≡ Some m.start =
        same_Some (Some (pos from.file.number (t.at.at + place))) (Some m.start)
        (sym (origin_in from.file.number t.at.at (length t.text) place less) ∙ ap (λ (os : List (Option Pos)). slice_get os place) (sym stands.origins) ∙ at) in
        let start : pos from.file.number (t.at.at + place) ≡ m.start = same_Some (pos from.file.number (t.at.at + place)) m.start origin in
        let number : from.number ≡ n =
        sym (kept_number a.value.table from.number from.file from.is_kept) ∙ ap (λ (p : Pos). p.file) start ∙ file ∙ kept_number a.value.table n f is in
        let same : from.file ≡ f =
        same_Some from.file f (sym from.is_kept ∙ ap (kept_at a.value.table) number ∙ is) in
        let own_here : In t file_toks = subst (λ (g : KeptValue). In t (tokens_of g.number g.bytes)) same own in
        let there : In from.item (item_texts file_toks (firsts_of f.bytes)) = subst (λ (g : KeptValue). In from.item (item_texts (tokens_of g.number g.bytes) (firsts_of g.bytes))) same from.there in
        let over_t : holds (span_of t) (pos f.number (t.at.at + place)) ≡ true = token_held a members name h n f is t place own_here less in
        let at_start : pos f.number (t.at.at + place) ≡ m.start = ap (λ (g : KeptValue). pos g.number (t.at.at + place)) (sym same) ∙ start in
        let over : holds (span_of t) m.start ≡ true = subst (λ (p : Pos). holds (span_of t) p ≡ true) at_start over_t in
        let one : word ≡ t = once a members name h n f is word t m.start listed own_here file held over in
        word_not_taken f.number f.bytes words word t from.item from.evaluated in_lines is_word there from.taken_from (ap (λ (x : Token). x.at.at) one)

    word_free : (words : List Token) (word : Token) → In words file_lines → In word (word_of words) → holds_member members word ≡ false
    word_free words word in_lines is_word = false_from_ne_true (holds_member members word) (λ held.
        let listed = word_listed file_toks (firsts_of f.bytes) words word in_lines is_word in
        let stands = token_stands f.number f.bytes word listed in
        let found_m = any_member members f.number word.at.at (length word.text) (ap (λ (os : List (Option Pos)). list_any (is_from members) os) (sym stands.origins) ∙ held) in
        let k = found_m.0 in
        let m = found_m.1 in
        let p : Pos = pos f.number (word.at.at + k) in
        let over = over_in a.value members h.class.part h.class.listed p m found_m.3 in
        let parted = held_parted a members name h n f is word listed held in
        let token = span_is a.value word (file_token a.value n f word is listed parted) in
        let is_part = (h.class.listed.each over.0.0 m over.0.1).is_part in
        let start = part_in_token a.value m (span_of word) p is_part token over.1 (token_held a members name h n f is word k listed found_m.2) in
        let file : m.start.file ≡ f.number = (holding m p over.1).file in
        let lies = member_lies path line column named m over.0 in
        split_at ⊥ lies.token (flat_map (taken_by a.value) a.value.units) (all_brought a.value.units) lies.among.0 lies.among.1
        (λ j. word_taken words word lies.token m lies.place in_lines is_word listed j lies.at start file)
        (λ j.
        let u = flat_element (λ (v : UnitAnalysis). numbers_brought v.text) lies.token a.value.units j in
        let is_u = unit_is h.source h.workspace a.value h.accepted u.0 u.1 in
        let zero_file = number_origin a.value u.0 u.1 is_u lies.token u.2 lies.place m.start lies.at in
        no_line a.value members name (none_stand a.value members name h.first) m over.0 zero_file))

    line_free : (words : List Token) → In words file_lines → WordIsFree members words
    line_free [] i = tt
    line_free (hash ∷ []) i = tt
    line_free (hash ∷ word ∷ operands) i = λ is_one. (
      word_free (hash ∷ word ∷ operands) word i (word_first hash word operands is_one),
      λ stands. each_of (λ t. holds_member members t ≡ false) operands (λ t j. word_free (hash ∷ word ∷ operands) t i (word_later hash word operands t is_one stands j)),
    )

pub words_are_free_where_named : WordsAreFreeWhereNamed
words_are_free_where_named = λ a members name path line column h named n f is.
    each_of (WordIsFree members) (lines_of (tokens_of f.number f.bytes) (firsts_of f.bytes)) (λ words i. line_free a members name h n f is path line column named words i)
