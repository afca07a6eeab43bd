-- Texts in which no token is spelled by the empty word, in place of others in which no identifier is.
use Rattle.std.proofs.Common.{ℕ, suc, ◌+◌, ◌<◌, ◌≤◌, ◌≡◌, Bool, true, false, ◌&&◌, ◌||◌, not, if◌then◌else◌, ◌==◌, ◌%◌, List, [], ◌∷◌, length, Some, slice_get, refl, sym, ap, ◌∙◌, arith}
use Rattle.std.specs.Prelude.{find}
use Rattle.std.specs.Option.{option_map_or}
use Rattle.std.specs.Str.{bytes_eq}
use Rattle.std.proofs.lemmas.Slice.Eq.{bytes_eq-Decides}
use Rattle.c99_grammar.specs.declared.dialects.Edition.{Edition}
use Rattle.cs_base.specs.Token.{Token}
use Rattle.cs_base.proofs.BoolLemmas.{no_case, not_both}
use Rattle.c99_tree.specs.Tree.{Forest, none, token, node}
use Rattle.c99_tree.specs.declared.production.Label.{Label}
use Rattle.c99_tree.specs.declared.production.Production.{Production}
use Rattle.c99_tree.specs.declared.production.Production.TheVariants.{TranslationUnit, Main, Params, Primary, Pdirect}
use Rattle.c99_grammar.specs.Standard.{iso}
use Rattle.c99_grammar.specs.TokenClasses.{base_class}
use Rattle.c99_read.specs.State.{base_at, spelling_at, is_identifier}
use Rattle.c_types.specs.Trees.{is_at}
use Rattle.c_types.specs.Declarations.{alike}
use Rattle.name_chains.specs.Frames.{at_first as before}
use Rattle.tree_laws.specs.TreesOfTexts.{is_name_place}
use Rattle.tree_laws.specs.Agreeing.{agrees}
use Rattle.tree_laws.proofs.Outline.{Entry, Outline, stepped, begun, ended, outlined, is_open, typedef_among, token_agrees, node_agrees, all_agree}
use Rattle.tree_laws.proofs.Outlines.{outline, agrees_same}
use Rattle.reordered_text_laws.specs.Fronted.{used, labelled_as}
use Rattle.reordered_text_laws.proofs.FrontClasses.{other_way}
use Rattle.reordered_text_laws.proofs.FrontKeyed.{typed_place, primary_place, listed_place}
use Rattle.reordered_text_laws.proofs.MarkedTokens.{AllAt}
use Rattle.reordered_text_laws.proofs.Reworded.{class_is, zeros, length-zeros, same_length, bytes_in, bytes_of, reworded, length-reworded, base_same, got_some, got_none, base_some, base_none, end_other, spelled_some, spelled_none, each_token, none_behind, filled_text}

module _ (s : Edition) (toks : List Token) where
  -- other tokens are spelled by zeros where they had the empty word
  abbrev pub plain : List Token
  plain = reworded s (bytes_in toks) (λ k t. t) toks

  abbrev named : ℕ → Bool
  named i = is_identifier (base_at (iso s) toks i)

  pub length-plain : length plain ≡ length toks
  length-plain = length-reworded s (bytes_in toks) (λ k t. t) toks 0

  pub plain_base : (k : ℕ) → base_at (iso s) plain k ≡ base_at (iso s) toks k
  plain_base k = base_same s (bytes_in toks) (λ k t. t) toks (λ k t e. class_is (base_class (iso s) t) e) k

  abbrev plain_token : Token → Token
  plain_token t = if is_identifier (base_class (iso s) t) then t else (if bytes_eq [] t.text then record t { text = zeros (suc (bytes_in toks)) } else t)

  plain_some : (k : ℕ) (t : Token) → slice_get toks k ≡ Some t → spelling_at plain k ≡ (plain_token t).text
  plain_some k t e = spelled_some plain k (plain_token t) (got_some s (bytes_in toks) (λ k t. t) toks k t e)

  name_at : (k : ℕ) (t : Token) → slice_get toks k ≡ Some t → named k ≡ is_identifier (base_class (iso s) t)
  name_at k t e = ap is_identifier (base_some (iso s) toks k t e)

  -- an identifier keeps its spelling
  name_spelled : (k : ℕ) → named k ≡ true → spelling_at plain k ≡ spelling_at toks k
  name_spelled k n =
      each_token toks k (λ e. absurd (not_both _ n (ap is_identifier (base_none (iso s) toks k e) ∙ end_other (k == length toks))))
      (λ t e. plain_some k t e
      ∙ (ap (λ b. (if b then t else (if bytes_eq [] t.text then record t { text = zeros (suc (bytes_in toks)) } else t)).text) (sym (name_at k t e) ∙ n)
      ∙ sym (spelled_some toks k t e)))

  module _ (full : (k : ℕ) → named k ≡ true → used toks k ≡ false) where
    pub plain_full : (k : ℕ) → k < length toks → used plain k ≡ false
    plain_full k lt =
        each_token toks k (λ e. absurd (none_behind toks k e lt))
        (λ t e. ap (bytes_eq []) (plain_some k t e) ∙ by t (is_identifier (base_class (iso s) t)) (λ n. ap (bytes_eq []) (sym (spelled_some toks k t e)) ∙ full k (name_at k t e ∙ n)))
      where
        by : (t : Token) (c : Bool) → (c ≡ true → bytes_eq [] t.text ≡ false)
            → bytes_eq [] (if c then t else (if bytes_eq [] t.text then record t { text = zeros (suc (bytes_in toks)) } else t)).text ≡ false
        by t true f = f refl
        by t false f = filled_text (bytes_in toks) t

    -- it is spelled as the same tokens
    alike_plain : (i j : ℕ) → named i ≡ true → alike plain i j ≡ alike toks i j
    alike_plain i j n =
        ap (λ w. bytes_eq w (spelling_at plain j)) (name_spelled i n)
        ∙ each_token toks j (λ e. ap (bytes_eq (spelling_at toks i)) (spelled_none plain j (got_none s (bytes_in toks) (λ k t. t) toks j e) ∙ sym (spelled_none toks j e)))
        (λ t e. ap (bytes_eq (spelling_at toks i)) (plain_some j t e)
        ∙ (by t (is_identifier (base_class (iso s) t)) (bytes_eq [] t.text) refl ∙ ap (bytes_eq (spelling_at toks i)) (sym (spelled_some toks j t e))))
      where
        few : length (spelling_at toks i) ≤ bytes_in toks
        few =
            each_token toks i (λ e. (let short : length (spelling_at toks i) ≡ 0 = ap length (spelled_none toks i e) in omega (arith, short)))
            (λ t e. (let short : length (spelling_at toks i) ≡ length t.text = ap length (spelled_some toks i t e) in let less : length t.text ≤ bytes_in toks = bytes_of toks i t e in omega (arith, short, less)))

        by : (t : Token) (c b : Bool) → bytes_eq [] t.text ≡ b
            → bytes_eq (spelling_at toks i) (if c then t else (if b then record t { text = zeros (suc (bytes_in toks)) } else t)).text ≡ bytes_eq (spelling_at toks i) t.text
        by t true b e = refl
        by t false false e = refl
        by t false true e =
            no_case (bytes_eq (spelling_at toks i) (zeros (suc (bytes_in toks))))
            (λ h. (let same : length (spelling_at toks i) ≡ length (zeros (suc (bytes_in toks))) = same_length (spelling_at toks i) (zeros (suc (bytes_in toks))) h in
            let long : length (zeros (suc (bytes_in toks))) ≡ suc (bytes_in toks) = length-zeros (suc (bytes_in toks)) in let short : length (spelling_at toks i) ≤ bytes_in toks = few in omega (arith, same, long, short)))
            ∙ sym (ap (bytes_eq (spelling_at toks i)) (sym ((bytes_eq-Decides [] t.text).0 e)) ∙ other_way (spelling_at toks i) (full i n))

    among_plain : (i : ℕ) (es : List Entry) → named i ≡ true → typedef_among s plain i es ≡ typedef_among s toks i es
    among_plain i [] n = refl
    among_plain i (e ∷ es) n =
        ap (λ b. option_map_or (λ (x : Entry). x.typedef) (if b && is_open i e then Some e else find (λ x. alike plain i x.name_at && is_open i x) es) false) (alike_plain i e.name_at n)
        ∙ by (alike toks i e.name_at && is_open i e) (among_plain i es n)
      where
        by : (c : Bool) → typedef_among s plain i es ≡ typedef_among s toks i es
            → option_map_or (λ (x : Entry). x.typedef) (if c then Some e else find (λ x. alike plain i x.name_at && is_open i x) es) false
            ≡ option_map_or (λ (x : Entry). x.typedef) (if c then Some e else find (λ x. alike toks i x.name_at && is_open i x) es) false
        by true k = refl
        by false k = k

    -- ---- What is asked

    -- where a name stands, an identifier does
    abbrev pub NamedAt : Label → ℕ → ℕ → Type 0
    NamedAt l k i = is_name_place l k ≡ true → named i ≡ true

    if_same : (c x y : Bool) → (c ≡ true → x ≡ y) → (if c then x else true) ≡ (if c then y else true)
    if_same true x y f = f refl
    if_same false x y f = refl

    token_same : (p : Production) (a k i : ℕ) (es : List Entry) → NamedAt (labelled_as p a) k i → token_agrees s plain p a k i es ≡ token_agrees s toks p a k i es
    token_same Main a k i es h = if_same ((a == 4) && (k == 0)) _ _ (λ c. among_plain i es (h (typed_place a k c)))
    token_same Primary a k i es h = if_same (a == 1) _ _ (λ c. ap not (among_plain i es (h (primary_place a k c))))
    token_same Params a k i es h = if_same ((a == 1) && (k % 2 == 0)) _ _ (λ c. ap not (among_plain i es (h (listed_place a k c))))
    token_same _ a k i es h = refl

    node_same : (l : Label) (first : ℕ) (es : List Entry) → node_agrees s plain l first es ≡ node_agrees s toks l first es
    node_same l first es =
        ap (λ c. if is_at l Pdirect 2 then not (is_identifier c) || not (typedef_among s plain (first + 1) es) else true) (plain_base (first + 1))
        ∙ if_same (is_at l Pdirect 2) _ _ (λ c. by (named (first + 1)) refl)
      where
        by : (c : Bool) → named (first + 1) ≡ c → (not (named (first + 1)) || not (typedef_among s plain (first + 1) es)) ≡ (not (named (first + 1)) || not (typedef_among s toks (first + 1) es))
        by true e = ap (λ b. not (named (first + 1)) || not b) (among_plain (first + 1) es e)
        by false e = ap (λ b. not b || not (typedef_among s plain (first + 1) es)) e ∙ sym (ap (λ b. not b || not (typedef_among s toks (first + 1) es)) e)

    all_same : (f : Forest) (o : Outline) → AllAt NamedAt o.label o.nth f → all_agree s plain f o ≡ all_agree s toks f o
    all_same none o h = refl
    all_same (token i rest) o h =
        ap (λ b. b && all_agree s plain rest (stepped i o)) (token_same o.label.production o.label.alternative o.nth i o.entries h.0)
        ∙ ap (λ b. token_agrees s toks o.label.production o.label.alternative o.nth i o.entries && b) (all_same rest (stepped i o) h.1)
    all_same (node l first under rest) o h =
        let into : Outline = begun l first under o in
        let behind : Outline = ended l first under o (outlined under into) in
        ap (λ b. b && (all_agree s plain under into && all_agree s plain rest behind)) (node_same l first o.entries)
        ∙ (ap (λ b. node_agrees s toks l first o.entries && (b && all_agree s plain rest behind)) (all_same under into h.0)
        ∙ ap (λ b. node_agrees s toks l first o.entries && (all_agree s toks under into && b)) (all_same rest behind h.1))

    -- the names of both texts agree with the same trees
    pub plain_agrees : (f : Forest) → AllAt NamedAt (labelled_as TranslationUnit 1) 0 f → agrees s plain f (before (length plain)) ≡ agrees s toks f (before (length toks))
    plain_agrees f h =
        ap (λ n. agrees s plain f (before n)) length-plain
        ∙ (agrees_same s plain f (before (length toks)) ∙ (all_same f (outline (before (length toks))) h ∙ sym (agrees_same s toks f (before (length toks)))))
