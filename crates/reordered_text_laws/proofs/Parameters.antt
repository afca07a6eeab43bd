-- The parameters of a list are read in any order.
use Rattle.std.proofs.Common.{ℕ, suc, zero, ◌≡◌, true, false, ◌&&◌, not, List, [], ◌∷◌, ◌++◌, Option, None, Some, refl, sym, ap, subst, ◌∙◌, inl, inr}
use Rattle.std.proofs.lemmas.Bool.{false≢true}
use Rattle.std.proofs.lemmas.List.{append_assoc}
use Rattle.cs_base.proofs.BoolLemmas.{no_case}
use Rattle.c99_grammar.specs.declared.dialects.Dialect.{Dialect}
use Rattle.c99_tree.specs.Tree.{Forest, none, token, node}
use Rattle.c99_tree.specs.declared.production.Production.TheVariants.{Params, Param}
use Rattle.c99_grammar.specs.declared.classes.Class.{Class}
use Rattle.c99_grammar.specs.declared.classes.Class.TheVariants.{Comma, RightParen, Ellipsis, Identifier}
use Rattle.c99_grammar.specs.Classes.{among}
use Rattle.c99_grammar.specs.Items.{Item, part, act, ◌·◌, maybe, many, own, tok, name, Test, next_two, is, is_not, Alternative, plain}
use Rattle.c99_grammar.specs.Standard.{iso, grammar}
use Rattle.c99_grammar.specs.Starting.{production_starts}
use Rattle.c99_grammar.proofs.StandardLemmas.{by_edition, by_dialect}
use Rattle.c99_read.specs.Reading.{Goal, produce}
use Rattle.reordered_text_laws.specs.ByClasses.{joined, tokens_of, Taken, taken, then_read, child_of, as_child, here, behind, may_read, read_one, read_item, read_first, read_by_classes}
use Rattle.reordered_text_laws.specs.Lists.{Others, others_of, listed_with, AreCommas, IsTail, EndsItem}
use Rattle.reordered_text_laws.specs.ReorderedTexts.{ParametersAreReadInAnyOrder}
use Rattle.reordered_text_laws.proofs.Found.{stopped, found_is, between, then_is, branch, if_yes, if_no, inner_is}
use Rattle.reordered_text_laws.proofs.Whole.{tokens_of-joined}
use Rattle.reordered_text_laws.proofs.Orders.{steps_more, IsItem, AreItems, item_later, item_is, another, items_apart, Goes, ends_others, items_together, one_comma, comma_is}
use Rattle.reordered_text_laws.proofs.Tables.{ending, tells}
use Rattle.reordered_text_laws.proofs.Starts.{starts_so}
use Rattle.reordered_text_laws.proofs.Arguments.{in_order}

ellipsis_is : (c : Class) → among (Ellipsis ∷ []) c ≡ true → c ≡ Ellipsis
ellipsis_is Ellipsis e = refl
ellipsis_is _ e = absurd (false≢true e)

identifier_is : (c : Class) → among (Identifier ∷ []) c ≡ true → c ≡ Identifier
identifier_is Identifier e = refl
identifier_is _ e = absurd (false≢true e)

-- a parameter begins neither with `...` nor with an identifier
no_ellipsis : (s : Dialect) (c d : Class) → production_starts (grammar s) Param c d ≡ true → among (Ellipsis ∷ []) c ≡ false
no_ellipsis s c d h =
    no_case (among (Ellipsis ∷ []) c)
    (λ e. false≢true (by_dialect (λ r. false ≡ production_starts (grammar r) Param Ellipsis d) (by_edition (λ r. false ≡ production_starts (iso r) Param Ellipsis d) refl refl) refl s ∙ (ap (λ x. production_starts (grammar s) Param x d) (sym (ellipsis_is c e)) ∙ h)))

no_identifier : (s : Dialect) (c d : Class) → production_starts (grammar s) Param c d ≡ true → among (Identifier ∷ []) c ≡ false
no_identifier s c d h =
    no_case (among (Identifier ∷ []) c)
    (λ e. false≢true (by_dialect (λ r. false ≡ production_starts (grammar r) Param Identifier d) (by_edition (λ r. false ≡ production_starts (iso r) Param Identifier d) refl refl) refl s ∙ (ap (λ x. production_starts (grammar s) Param x d) (sym (identifier_is c e)) ∙ h)))

module _ (s : Dialect) (class_of : ℕ → Class) where
  abbrev reads : ℕ → ℕ → Goal → List ℕ → Option Taken
  reads = read_by_classes (grammar s) class_of

  abbrev further : Test
  further = next_two (is (Comma ∷ [])) (is_not (Ellipsis ∷ []))

  abbrev next_one : Item
  next_one = another (grammar s) ending (tells s) class_of Param refl refl further

  abbrev last : Item
  last = maybe (tok Comma · tok Ellipsis)

  abbrev body : Item
  body = part Param · many further next_one · last

  abbrev listing : Item
  listing = tok Identifier · act name · many own (tok Comma · tok Identifier · act name)

  abbrev Parameter : ℕ → ℕ → Forest → Type 0
  Parameter fuel depth f = IsItem (grammar s) ending (tells s) class_of Param refl refl fuel depth f

  abbrev Parameters : ℕ → ℕ → Others → Type 0
  Parameters fuel depth more = AreItems (grammar s) ending (tells s) class_of Param refl refl fuel depth more

  goes : (fuel depth : ℕ) → Goes (grammar s) ending (tells s) class_of Param refl refl further fuel depth
  goes fuel depth i f zs comma item end =
      ap (λ c. among (Comma ∷ []) c && not (among (Ellipsis ∷ []) (here (grammar s) class_of (tokens_of f ++ zs)))) comma
      ∙ ap not (no_ellipsis s (here (grammar s) class_of (tokens_of f ++ zs)) (behind (grammar s) class_of (tokens_of f ++ zs))
      (starts_so s class_of fuel depth Param (tokens_of f ++ zs) (taken f zs) (item zs end)))

  -- ---- The end of the list

  abbrev last_read : ℕ → ℕ → List ℕ → Option Taken
  last_read fuel depth xs = read_item (grammar s) class_of (reads fuel) depth last xs

  abbrev pub Ended : Forest → List ℕ → Type 0
  Ended tail zs = EndsItem (here (grammar s) class_of (tokens_of tail ++ zs)) × (may_read (grammar s) class_of further next_one (tokens_of tail ++ zs) ≡ false)

  tail_ended : (tail : Forest) (zs : List ℕ) → IsTail class_of tail → here (grammar s) class_of zs ≡ RightParen → Ended tail zs
  tail_ended none zs h end = (inr end, ap (λ c. among (Comma ∷ []) c && not (among (Ellipsis ∷ []) (behind (grammar s) class_of zs))) end)
  tail_ended (token i (token j none)) zs h end = (
    inl h.0,
    ap (λ c. among (Comma ∷ []) c && not (among (Ellipsis ∷ []) (class_of j))) h.0 ∙ ap (λ c. not (among (Ellipsis ∷ []) c)) h.1,
  )
  tail_ended (token i none) zs h end = absurd h
  tail_ended (token i (token j (token k rest))) zs h end = absurd h
  tail_ended (token i (token j (node l first under rest))) zs h end = absurd h
  tail_ended (token i (node l first under rest)) zs h end = absurd h
  tail_ended (node l first under rest) zs h end = absurd h

  one_read : (c : Class) (i : ℕ) (ys : List ℕ) → among (c ∷ []) (class_of i) ≡ true → read_one (grammar s) class_of (c ∷ []) (i ∷ ys) ≡ Some (taken (token i none) ys)
  one_read c i ys e = if_yes (among (c ∷ []) (class_of i)) (Some (taken (token i none) ys)) None e

  tail_read : (fuel depth : ℕ) (tail : Forest) (zs : List ℕ) → IsTail class_of tail → here (grammar s) class_of zs ≡ RightParen
      → last_read fuel depth (tokens_of tail ++ zs) ≡ Some (taken tail zs)
  tail_read fuel depth none zs h end = if_no (may_read (grammar s) class_of own (tok Comma · tok Ellipsis) zs) _ _ (ap (among (Comma ∷ [])) end)
  tail_read fuel depth (token i (token j none)) zs h end =
      if_yes (may_read (grammar s) class_of own (tok Comma · tok Ellipsis) (i ∷ j ∷ zs)) _ _ (ap (among (Comma ∷ [])) h.0)
      ∙ then_is (read_one (grammar s) class_of (Comma ∷ []) (i ∷ j ∷ zs)) (read_one (grammar s) class_of (Ellipsis ∷ [])) (taken (token i none) (j ∷ zs)) (taken (token j none) zs)
      (one_read Comma i (j ∷ zs) (ap (among (Comma ∷ [])) h.0)) (one_read Ellipsis j zs (ap (among (Ellipsis ∷ [])) h.1))
  tail_read fuel depth (token i none) zs h end = absurd h
  tail_read fuel depth (token i (token j (token k rest))) zs h end = absurd h
  tail_read fuel depth (token i (token j (node l first under rest))) zs h end = absurd h
  tail_read fuel depth (token i (node l first under rest)) zs h end = absurd h
  tail_read fuel depth (node l first under rest) zs h end = absurd h

  -- what is read at the end is such an end
  record Tail (xs : List ℕ) (t : Taken) : Type 0 where
    is : IsTail class_of t.read
    text : xs ≡ tokens_of t.read ++ t.left

  two_so : (xs : List ℕ) (t : Taken) → then_read (read_one (grammar s) class_of (Comma ∷ []) xs) (read_one (grammar s) class_of (Ellipsis ∷ [])) ≡ Some t → Tail xs t
  two_so xs t e =
      let m = between (read_one (grammar s) class_of (Comma ∷ []) xs) (read_one (grammar s) class_of (Ellipsis ∷ [])) t e in
      subst (Tail xs) m.whole (first xs m.first m.reads m.second m.more)
    where
      second : (i : ℕ) (ys : List ℕ) (v : Taken) → class_of i ≡ Comma → read_one (grammar s) class_of (Ellipsis ∷ []) ys ≡ Some v
          → Tail (i ∷ ys) (taken (joined (token i none) v.read) v.left)
      second i [] v c e = absurd (stopped v e)
      second i (j ∷ ys) v c e =
          let d = one_comma (among (Ellipsis ∷ []) (class_of j)) j ys v e in
          subst (λ (w : Taken). Tail (i ∷ j ∷ ys) (taken (joined (token i none) w.read) w.left)) d.1 (record { is = (c, ellipsis_is (class_of j) d.0); text = refl })

      first : (xs : List ℕ) (u : Taken) → read_one (grammar s) class_of (Comma ∷ []) xs ≡ Some u → (v : Taken) → read_one (grammar s) class_of (Ellipsis ∷ []) u.left ≡ Some v
          → Tail xs (taken (joined u.read v.read) v.left)
      first [] u e v h = absurd (stopped u e)
      first (i ∷ ys) u e v h =
          let c = one_comma (among (Comma ∷ []) (class_of i)) i ys u e in
          subst (λ (w : Taken). Tail (i ∷ ys) (taken (joined w.read v.read) v.left)) c.1
          (second i ys v (comma_is (class_of i) c.0) (ap (λ (w : Taken). read_one (grammar s) class_of (Ellipsis ∷ []) w.left) c.1 ∙ h))

  tail_so : (fuel depth : ℕ) (xs : List ℕ) (t : Taken) → last_read fuel depth xs ≡ Some t → Tail xs t
  tail_so fuel depth xs t e =
      branch (may_read (grammar s) class_of own (tok Comma · tok Ellipsis) xs) _ _ t
      (λ c e'. two_so xs t e')
      (λ c e'. subst (Tail xs) (found_is (taken none xs) t e') (record { is = tt; text = refl }))
      e

  -- ---- The list

  list_text : (first : Forest) (more : Others) (tail : Forest) (zs : List ℕ)
      → tokens_of (listed_with first more tail) ++ zs ≡ tokens_of first ++ (tokens_of (others_of more) ++ (tokens_of tail ++ zs))
  list_text first more tail zs =
      ap (λ ys. ys ++ zs) (tokens_of-joined first (joined (others_of more) tail))
      ∙ (append_assoc (tokens_of first) (tokens_of (joined (others_of more) tail)) zs
      ∙ ap (λ ys. tokens_of first ++ ys) (ap (λ ys. ys ++ zs) (tokens_of-joined (others_of more) tail) ∙ append_assoc (tokens_of (others_of more)) (tokens_of tail) zs))

  -- the rows of parameters, which are the same for each dialect
  params_rows : (grammar s).table Params ≡ plain listing ∷ (plain body ∷ [])
  params_rows =
      by_dialect
      (λ d. (grammar d).table Params ≡ plain listing
      ∷ (plain (part Param · many (next_two (is (Comma ∷ [])) (is_not (Ellipsis ∷ []))) (tok Comma · part Param) · maybe (tok Comma · tok Ellipsis)) ∷ []))
      (λ v. refl) refl s

  by_rows : (n depth : ℕ) (xs : List ℕ) → read_first (grammar s) class_of (reads n) depth Params 1 ((grammar s).table Params) xs
      ≡ read_first (grammar s) class_of (reads n) depth Params 1 (plain listing ∷ (plain body ∷ [])) xs
  by_rows n depth xs = ap (λ (rows : List Alternative). read_first (grammar s) class_of (reads n) depth Params 1 rows xs) params_rows

  pub together : (fuel depth : ℕ) (first : Forest) (more : Others) (tail : Forest) (zs : List ℕ) → Parameter fuel depth first → Parameters fuel depth more → AreCommas class_of more
      → IsTail class_of tail → here (grammar s) class_of zs ≡ RightParen
      → reads (suc (steps_more fuel more)) depth (produce Params) (tokens_of (listed_with first more tail) ++ zs) ≡ Some (taken (child_of Params 2 (listed_with first more tail)) zs)
  unfolding read_by_classes
  together fuel depth first more tail zs item items commas is_tail end =
      let n : ℕ = steps_more fuel more in
      let at_end : List ℕ = tokens_of tail ++ zs in
      let behind_it : List ℕ = tokens_of (others_of more) ++ at_end in
      let text : List ℕ = tokens_of first ++ behind_it in
      let ended = tail_ended tail zs is_tail end in
      let ends' = ends_others (grammar s) ending (tells s) class_of Param refl refl further more at_end commas ended.0 in
      let begun = starts_so s class_of fuel depth Param text (taken first behind_it) (item behind_it ends') in
      let rest : read_item (grammar s) class_of (reads n) depth (many further next_one · last) behind_it ≡ Some (taken (joined (others_of more) tail) zs) =
      then_is (read_item (grammar s) class_of (reads n) depth (many further next_one) behind_it) (last_read n depth) (taken (others_of more) at_end) (taken tail zs)
      (items_together (grammar s) ending (tells s) class_of Param refl refl further fuel depth more at_end (goes fuel depth) items commas ended.0 ended.1)
      (tail_read n depth tail zs is_tail end) in
      let inside : read_item (grammar s) class_of (reads n) depth body text ≡ Some (taken (listed_with first more tail) zs) =
      then_is (reads n depth (produce Param) text) (read_item (grammar s) class_of (reads n) depth (many further next_one · last)) (taken first behind_it) (taken (joined (others_of more) tail) zs)
      (item_later (grammar s) ending (tells s) class_of Param refl refl fuel depth first more item behind_it ends') rest in
      ap (reads (suc n) depth (produce Params)) (list_text first more tail zs)
      ∙ (by_rows n depth text
      ∙ if_no (may_read (grammar s) class_of own listing text) _ _ (no_identifier s (here (grammar s) class_of text) (behind (grammar s) class_of text) begun)
      ∙ (if_yes (may_read (grammar s) class_of own body text) (as_child Params 2 (read_item (grammar s) class_of (reads n) depth body text)) None begun
      ∙ ap (as_child Params 2) inside))

  abbrev Found_so : ℕ → ℕ → Taken → Type 0
  Found_so fuel depth t =
      (first : Forest) × ((more : Others) × ((tail : Forest) × ((t.read ≡ child_of Params 2 (listed_with first more tail))
      × ((AreCommas class_of more × IsTail class_of tail) × (Parameter fuel depth first × Parameters fuel depth more)))))

  pub found : (fuel depth : ℕ) (xs : List ℕ) (t : Taken) → here (grammar s) class_of t.left ≡ RightParen → among (Identifier ∷ []) (here (grammar s) class_of xs) ≡ false
      → reads (suc fuel) depth (produce Params) xs ≡ Some t → Found_so fuel depth t
  unfolding read_by_classes
  found fuel depth xs t end plain e =
      branch (may_read (grammar s) class_of own listing xs) _ _ t
      (λ c e'. absurd (false≢true (sym plain ∙ c)))
      (λ c e'.
      branch (may_read (grammar s) class_of own body xs) (as_child Params 2 (read_item (grammar s) class_of (reads fuel) depth body xs)) None t
      (λ c' e''.
      let m = inner_is Params 2 (read_item (grammar s) class_of (reads fuel) depth body xs) t e'' in
      let k = between (reads fuel depth (produce Param) xs) (read_item (grammar s) class_of (reads fuel) depth (many further next_one · last)) m.inside m.reads in
      let k' = between (read_item (grammar s) class_of (reads fuel) depth (many further next_one) k.first.left) (last_read fuel depth) k.second k.more in
      let left : k'.second.left ≡ t.left = ap (λ (w : Taken). w.left) k'.whole ∙ (ap (λ (w : Taken). w.left) k.whole ∙ ap (λ (w : Taken). w.left) m.whole) in
      let tail = tail_so fuel depth k'.first.left k'.second k'.more in
      let ended = tail_ended k'.second.read k'.second.left tail.is (ap (here (grammar s) class_of) left ∙ end) in
      let rest = items_apart (grammar s) ending (tells s) class_of Param refl refl further fuel depth k.first.left k'.first k'.reads
      (subst (λ ys. EndsItem (here (grammar s) class_of ys)) (sym tail.text) ended.0) in (
        k.first.read,
        (
          rest.more,
          (
            k'.second.read,
            (
              ap (λ (w : Taken). w.read) (sym m.whole)
                  ∙ ap (child_of Params 2) (ap (λ (w : Taken). w.read) (sym k.whole)
                  ∙ ap (joined k.first.read) (ap (λ (w : Taken). w.read) (sym k'.whole) ∙ ap (λ f. joined f k'.second.read) rest.read)),
              (
                (rest.commas, tail.is),
                (item_is (grammar s) ending (tells s) class_of Param refl refl fuel depth xs k.first k.reads rest.ends, rest.items),
              ),
            ),
          ),
        ),
      ))
      (λ c' e''. absurd (stopped t e'')) e')
      (sym (by_rows fuel depth xs) ∙ e)

pub parameters_in_any_order : ParametersAreReadInAnyOrder
unfolding read_by_classes
parameters_in_any_order s class_of zero depth xs t e end plain = absurd (stopped t e)
parameters_in_any_order s class_of (suc fuel) depth xs t e end plain =
    let f = found s class_of fuel depth xs t end plain e in (
      f.0,
      (
        f.1.0,
        (
          f.1.1.0,
          (
            f.1.1.1.0,
            (
              f.1.1.1.1.0,
              λ other others zs moved commas end'.
                  let so = in_order s class_of Param refl refl fuel depth f.0 f.1.0 other others moved f.1.1.1.1.1.0 f.1.1.1.1.1.1 in
                  (suc (steps_more fuel others), together s class_of fuel depth other others f.1.1.0 zs so.0 so.1 commas f.1.1.1.1.0.1 end'),
            ),
          ),
        ),
      ),
    )
