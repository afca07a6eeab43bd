-- A list of items is taken apart, and put together from other items, each of which is read wherever it stands.
use Rattle.std.proofs.Common.{ℕ, suc, zero, ◌≡◌, Bool, true, false, if◌then◌else◌, List, [], ◌∷◌, ◌++◌, Option, None, Some, refl, sym, ap, subst, ◌∙◌, inl, inr}
use Rattle.std.proofs.lemmas.Bool.{false≢true}
use Rattle.std.proofs.lemmas.List.{append_assoc}
use Rattle.c99_tree.specs.Tree.{Forest, none, token}
use Rattle.c99_tree.specs.declared.production.Production.{Production}
use Rattle.c99_grammar.specs.declared.classes.Class.{Class}
use Rattle.c99_grammar.specs.declared.classes.Class.TheVariants.{Comma}
use Rattle.c99_grammar.specs.Classes.{among}
use Rattle.c99_grammar.specs.Items.{Item, part, ◌·◌, many, tok, Test}
use Rattle.c99_grammar.specs.Standard.{Grammar}
use Rattle.c99_read.specs.Reading.{Goal, produce, repeat}
use Rattle.c99_read.specs.Sound.{never_empty}
use Rattle.reordered_text_laws.specs.ByClasses.{joined, tokens_of, Taken, taken, then_read, here, may_read, read_one, read_item, read_by_classes}
use Rattle.reordered_text_laws.specs.Lists.{Others, others_of, AreCommas, EndsItem}
use Rattle.reordered_text_laws.proofs.Found.{stopped, found_is, between, then_is, branch, if_yes, if_no}
use Rattle.reordered_text_laws.proofs.Whole.{tokens_of-joined}
use Rattle.reordered_text_laws.proofs.Later.{one_more}
use Rattle.reordered_text_laws.proofs.Local.{Tells, locally}

pub comma_is : (c : Class) → among (Comma ∷ []) c ≡ true → c ≡ Comma
comma_is Comma e = refl
comma_is _ e = absurd (false≢true e)

-- as many steps more as there are items
abbrev pub steps_more : ℕ → Others → ℕ
steps_more fuel [] = fuel
steps_more fuel (x ∷ more) = suc (steps_more fuel more)

pub one_comma : (c : Bool) (i : ℕ) (more : List ℕ) (t : Taken) → (if c then Some (taken (token i none) more) else None) ≡ Some t → (c ≡ true) × (taken (token i none) more ≡ t)
one_comma true i more t e = (refl, found_is (taken (token i none) more) t e)
one_comma false i more t e = absurd (stopped t e)

module _ (g : Grammar) (ending : Production → Bool) (tells : Tells g ending) (class_of : ℕ → Class) (q : Production) (closes : ending q ≡ true) (never : never_empty q ≡ true) where
  abbrev reads : ℕ → ℕ → Goal → List ℕ → Option Taken
  reads = read_by_classes g class_of

  abbrev item_read : ℕ → ℕ → Item → List ℕ → Option Taken
  item_read fuel = read_item g class_of (reads fuel)

  -- the item is read before anything that ends one
  abbrev pub IsItem : ℕ → ℕ → Forest → Type 0
  IsItem fuel depth f = (zs : List ℕ) → EndsItem (here g class_of zs) → reads fuel depth (produce q) (tokens_of f ++ zs) ≡ Some (taken f zs)

  abbrev pub AreItems : ℕ → ℕ → Others → Type 0
  AreItems fuel depth [] = Unit {0}
  AreItems fuel depth (x ∷ more) = IsItem fuel depth x.1 × AreItems fuel depth more

  item_more : (fuel depth : ℕ) (f : Forest) → IsItem fuel depth f → IsItem (suc fuel) depth f
  item_more fuel depth f h = λ zs e. one_more g class_of fuel depth (produce q) (tokens_of f ++ zs) (taken f zs) (h zs e)

  items_more : (fuel depth : ℕ) (more : Others) → AreItems fuel depth more → AreItems (suc fuel) depth more
  items_more fuel depth [] h = tt
  items_more fuel depth (x ∷ more) h = (item_more fuel depth x.1 h.0, items_more fuel depth more h.1)

  pub item_later : (fuel depth : ℕ) (f : Forest) (more : Others) → IsItem fuel depth f → IsItem (steps_more fuel more) depth f
  item_later fuel depth f [] h = h
  item_later fuel depth f (x ∷ more) h = item_more (steps_more fuel more) depth f (item_later fuel depth f more h)

  -- an item that was read before what ends it
  pub item_is : (fuel depth : ℕ) (xs : List ℕ) (t : Taken) → reads fuel depth (produce q) xs ≡ Some t → EndsItem (here g class_of t.left) → IsItem fuel depth t.read
  item_is fuel depth xs t e end = λ zs h. locally g ending tells class_of fuel depth (produce q) xs t zs never (inr (closes, (end, h))) e

  module _ (test : Test) where
    abbrev pub another : Item
    another = tok Comma · part q

    -- ---- Taken apart

    -- items behind their commas were read, and then this is left
    pub record Apart (fuel depth : ℕ) (xs : List ℕ) (t : Taken) : Type 0 where
      pub more : Others
      pub read : t.read ≡ others_of more
      pub items : AreItems fuel depth more
      pub commas : AreCommas class_of more
      pub ends : EndsItem (here g class_of xs)
      pub stops : may_read g class_of test another t.left ≡ false

    -- one item behind its comma
    record One (fuel depth : ℕ) (xs : List ℕ) (u : Taken) : Type 0 where
      at : ℕ
      rest : List ℕ
      child : Taken
      text : xs ≡ at ∷ rest
      comma : class_of at ≡ Comma
      reads_child : reads fuel depth (produce q) rest ≡ Some child
      is : u ≡ taken (token at child.read) child.left

    one_apart : (fuel depth : ℕ) (xs : List ℕ) (u : Taken) → item_read fuel depth another xs ≡ Some u → One fuel depth xs u
    one_apart fuel depth [] u e = absurd (stopped u e)
    one_apart fuel depth (i ∷ rest) u e =
        let m = between (read_one g class_of (Comma ∷ []) (i ∷ rest)) (item_read fuel depth (part q)) u e in
        let c = one_comma (among (Comma ∷ []) (class_of i)) i rest m.first m.reads in
        record {
          at = i;
          rest = rest;
          child = m.second;
          text = refl;
          comma = comma_is (class_of i) c.0;
          reads_child = ap (λ (w : Taken). reads fuel depth (produce q) w.left) c.1 ∙ m.more;
          is = sym m.whole ∙ ap (λ (w : Taken). taken (joined w.read m.second.read) m.second.left) (sym c.1);
        }

    none_more : (fuel depth : ℕ) (xs : List ℕ) (t : Taken) → Some (taken none xs) ≡ Some t → EndsItem (here g class_of t.left)
        → may_read g class_of test another xs ≡ false → Apart fuel depth xs t
    none_more fuel depth xs t e end stop =
        let is : taken none xs ≡ t = found_is (taken none xs) t e in
        record {
          more = [];
          read = ap (λ (w : Taken). w.read) (sym is);
          items = tt;
          commas = tt;
          ends = subst (λ ys. EndsItem (here g class_of ys)) (ap (λ (w : Taken). w.left) (sym is)) end;
          stops = ap (λ (w : Taken). may_read g class_of test another w.left) (sym is) ∙ stop;
        }

    -- one item behind its comma, and what is apart behind it
    one_more_apart : (fuel depth : ℕ) (xs : List ℕ) (t u v : Taken) → One (suc fuel) depth xs u → Apart fuel depth u.left v → taken (joined u.read v.read) v.left ≡ t
        → Apart (suc fuel) depth xs t
    one_more_apart fuel depth xs t u v first rest whole =
        let left : u.left ≡ first.child.left = ap (λ (w : Taken). w.left) first.is in
        record {
          more = (first.at, first.child.read) ∷ rest.more;
          read = ap (λ (w : Taken). w.read) (sym whole) ∙ (ap (λ (w : Taken). joined w.read v.read) first.is ∙ ap (λ f. token first.at (joined first.child.read f)) rest.read);
          items = (
            item_is (suc fuel) depth first.rest first.child first.reads_child (subst (λ ys. EndsItem (here g class_of ys)) left rest.ends),
            items_more fuel depth rest.more rest.items,
          );
          commas = (first.comma, rest.commas);
          ends = subst (λ ys. EndsItem (here g class_of ys)) (sym first.text) (inl first.comma);
          stops = ap (λ (w : Taken). may_read g class_of test another w.left) (sym whole) ∙ rest.stops;
        }

    unread : (depth : ℕ) (xs : List ℕ) (u : Taken) → One 0 depth xs u → ⊥
    unfolding read_by_classes
    unread depth xs u first = stopped first.child first.reads_child

    pub items_apart : (fuel depth : ℕ) (xs : List ℕ) (t : Taken) → item_read fuel depth (many test another) xs ≡ Some t → EndsItem (here g class_of t.left)
        → Apart fuel depth xs t
    unfolding read_by_classes
    items_apart zero depth xs t e end =
        branch {P = Apart 0 depth xs t} (may_read g class_of test another xs) (then_read (item_read 0 depth another xs) (reads 0 depth (repeat test another))) (Some (taken none xs)) t
        (λ c e'.
        let m = between (item_read 0 depth another xs) (reads 0 depth (repeat test another)) t e' in
        absurd (unread depth xs m.first (one_apart 0 depth xs m.first m.reads)))
        (λ c e'. none_more 0 depth xs t e' end c)
        e
    items_apart (suc fuel) depth xs t e end =
        branch {P = Apart (suc fuel) depth xs t} (may_read g class_of test another xs)
        (then_read (item_read (suc fuel) depth another xs) (reads (suc fuel) depth (repeat test another))) (Some (taken none xs)) t
        (λ c e'.
        let m = between (item_read (suc fuel) depth another xs) (reads (suc fuel) depth (repeat test another)) t e' in
        let left : t.left ≡ m.second.left = ap (λ (w : Taken). w.left) (sym m.whole) in
        one_more_apart fuel depth xs t m.first m.second (one_apart (suc fuel) depth xs m.first m.reads)
        (items_apart fuel depth m.first.left m.second m.more (subst (λ ys. EndsItem (here g class_of ys)) left end)) m.whole)
        (λ c e'. none_more (suc fuel) depth xs t e' end c)
        e

    -- ---- Put together

    -- the test holds of a comma before an item
    abbrev pub Goes : ℕ → ℕ → Type 0
    Goes fuel depth = (i : ℕ) (f : Forest) (zs : List ℕ) → class_of i ≡ Comma → IsItem fuel depth f → EndsItem (here g class_of zs)
        → may_read g class_of test another (i ∷ (tokens_of f ++ zs)) ≡ true

    pub ends_others : (more : Others) (zs : List ℕ) → AreCommas class_of more → EndsItem (here g class_of zs) → EndsItem (here g class_of (tokens_of (others_of more) ++ zs))
    ends_others [] zs h end = end
    ends_others (x ∷ more) zs h end = inl h.0

    comma_read : (i : ℕ) (ys : List ℕ) → class_of i ≡ Comma → read_one g class_of (Comma ∷ []) (i ∷ ys) ≡ Some (taken (token i none) ys)
    comma_read i ys e = if_yes (among (Comma ∷ []) (class_of i)) (Some (taken (token i none) ys)) None (ap (among (Comma ∷ [])) e)

    text_of : (x : ℕ × Forest) (more : Others) (zs : List ℕ)
        → tokens_of (others_of (x ∷ more)) ++ zs ≡ x.0 ∷ (tokens_of x.1 ++ (tokens_of (others_of more) ++ zs))
    text_of x more zs =
        ap (λ ys. x.0 ∷ (ys ++ zs)) (tokens_of-joined x.1 (others_of more))
        ∙ ap (λ ys. x.0 ∷ ys) (append_assoc (tokens_of x.1) (tokens_of (others_of more)) zs)

    pub items_together : (fuel depth : ℕ) (more : Others) (zs : List ℕ) → Goes fuel depth → AreItems fuel depth more → AreCommas class_of more
        → EndsItem (here g class_of zs) → may_read g class_of test another zs ≡ false
        → item_read (steps_more fuel more) depth (many test another) (tokens_of (others_of more) ++ zs) ≡ Some (taken (others_of more) zs)
    unfolding read_by_classes
    items_together fuel depth [] zs goes items commas end stop = if_no (may_read g class_of test another zs) _ _ stop
    items_together fuel depth (x ∷ more) zs goes items commas end stop =
        let behind_it : List ℕ = tokens_of (others_of more) ++ zs in
        let ends' = ends_others more zs commas.1 end in
        let n : ℕ = suc (steps_more fuel more) in
        let first : item_read n depth another (x.0 ∷ (tokens_of x.1 ++ behind_it)) ≡ Some (taken (token x.0 x.1) behind_it) =
        then_is (read_one g class_of (Comma ∷ []) (x.0 ∷ (tokens_of x.1 ++ behind_it))) (item_read n depth (part q)) (taken (token x.0 none) (tokens_of x.1 ++ behind_it)) (taken x.1 behind_it)
        (comma_read x.0 (tokens_of x.1 ++ behind_it) commas.0) (item_later fuel depth x.1 (x ∷ more) items.0 behind_it ends') in
        ap (item_read n depth (many test another)) (text_of x more zs)
        ∙ (if_yes (may_read g class_of test another (x.0 ∷ (tokens_of x.1 ++ behind_it))) _ _ (goes x.0 x.1 behind_it commas.0 items.0 ends')
        ∙ then_is (item_read n depth another (x.0 ∷ (tokens_of x.1 ++ behind_it))) (reads n depth (repeat test another)) (taken (token x.0 x.1) behind_it) (taken (others_of more) zs)
        first (items_together fuel depth more zs goes items.1 commas.1 end stop))
