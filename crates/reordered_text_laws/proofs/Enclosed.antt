-- A list in its parentheses is read.
use Rattle.std.proofs.Common.{ℕ, ◌+◌, ◌≡◌, true, ◌&&◌, List, [], ◌∷◌, ◌++◌, Option, None, Some, nat_lt, refl, sym, ap, ◌∙◌}
use Rattle.std.proofs.lemmas.Bool.{false≢true}
use Rattle.c99_grammar.specs.declared.dialects.Dialect.{Dialect}
use Rattle.c99_tree.specs.Tree.{Forest, none, token}
use Rattle.c99_tree.specs.declared.production.Production.{Production}
use Rattle.c99_grammar.specs.declared.classes.Class.{Class}
use Rattle.c99_grammar.specs.declared.classes.Class.TheVariants.{LeftParen, RightParen}
use Rattle.c99_grammar.specs.Classes.{among}
use Rattle.c99_grammar.specs.Items.{Item, part, ◌·◌, maybe, deep, own, tok}
use Rattle.c99_grammar.specs.Standard.{grammar}
use Rattle.c99_read.specs.Reading.{Goal, produce, deepest}
use Rattle.reordered_text_laws.specs.ByClasses.{joined, Taken, taken, may_read, read_one, read_item, read_by_classes}
use Rattle.reordered_text_laws.specs.ReorderedTexts.{enclosed}
use Rattle.reordered_text_laws.proofs.Found.{stopped, between, then_is, if_yes}
use Rattle.reordered_text_laws.proofs.Orders.{one_comma}
use Rattle.reordered_text_laws.proofs.Starts.{starts_so}

open_is : (c : Class) → among (LeftParen ∷ []) c ≡ true → c ≡ LeftParen
open_is LeftParen e = refl
open_is _ e = absurd (false≢true e)

close_is : (c : Class) → among (RightParen ∷ []) c ≡ true → c ≡ RightParen
close_is RightParen e = refl
close_is _ e = absurd (false≢true e)

module _ (s : Dialect) (class_of : ℕ → Class) where
  one_read : (c : Class) (i : ℕ) (ys : List ℕ) → class_of i ≡ c → among (c ∷ []) c ≡ true → read_one (grammar s) class_of (c ∷ []) (i ∷ ys) ≡ Some (taken (token i none) ys)
  one_read c i ys e h = if_yes (among (c ∷ []) (class_of i)) (Some (taken (token i none) ys)) None (ap (among (c ∷ [])) e ∙ h)

  -- the token that was read, with its class
  record One (c : Class) (xs : List ℕ) (t : Taken) : Type 0 where
    at : ℕ
    text : xs ≡ at ∷ t.left
    class : among (c ∷ []) (class_of at) ≡ true
    is : taken (token at none) t.left ≡ t

  one_so : (c : Class) (xs : List ℕ) (t : Taken) → read_one (grammar s) class_of (c ∷ []) xs ≡ Some t → One c xs t
  one_so c [] t e = absurd (stopped t e)
  one_so c (i ∷ ys) t e =
      let h = one_comma (among (c ∷ []) (class_of i)) i ys t e in
      let left : ys ≡ t.left = ap (λ (w : Taken). w.left) h.1 in
      record { at = i; text = ap (λ zs. i ∷ zs) left; class = h.0; is = ap (λ zs. taken (token i none) zs) (sym left) ∙ h.1 }

  -- the list is of this production
  module _ (q : Production) where
    abbrev reads : ℕ → ℕ → Goal → List ℕ → Option Taken
    reads = read_by_classes (grammar s) class_of

    abbrev item_read : ℕ → ℕ → Item → List ℕ → Option Taken
    item_read fuel = read_item (grammar s) class_of (reads fuel)

    abbrev pub inside : Item
    inside = deep (part q)

    abbrev rest : Item
    rest = maybe inside · tok RightParen

    abbrev pub enclosing : Item
    enclosing = tok LeftParen · rest

    pub enclosed_read : (fuel depth opening closing : ℕ) (list : Forest) (ys zs : List ℕ) → class_of opening ≡ LeftParen → class_of closing ≡ RightParen → nat_lt depth deepest ≡ true
        → reads fuel (depth + 1) (produce q) (ys ++ (closing ∷ zs)) ≡ Some (taken list (closing ∷ zs))
        → item_read fuel depth enclosing (opening ∷ (ys ++ (closing ∷ zs))) ≡ Some (taken (enclosed opening list closing) zs)
    enclosed_read fuel depth opening closing list ys zs is_open is_close less e =
        let text : List ℕ = ys ++ (closing ∷ zs) in
        let begun = starts_so s class_of fuel (depth + 1) q text (taken list (closing ∷ zs)) e in
        let args : item_read fuel depth (maybe inside) text ≡ Some (taken list (closing ∷ zs)) =
        if_yes (may_read (grammar s) class_of own inside text) (item_read fuel depth inside text) (Some (taken none text)) begun
        ∙ (if_yes (may_read (grammar s) class_of own (part q) text && nat_lt depth deepest) (reads fuel (depth + 1) (produce q) text) None
        (ap (λ b. b && nat_lt depth deepest) begun ∙ less) ∙ e) in
        then_is (read_one (grammar s) class_of (LeftParen ∷ []) (opening ∷ text)) (item_read fuel depth rest) (taken (token opening none) text) (taken (joined list (token closing none)) zs)
        (one_read LeftParen opening text is_open refl)
        (then_is (item_read fuel depth (maybe inside) text) (read_one (grammar s) class_of (RightParen ∷ [])) (taken list (closing ∷ zs)) (taken (token closing none) zs) args
        (one_read RightParen closing zs is_close refl))

    -- what stands between the parentheses
    pub record Enclosed (fuel depth : ℕ) (u : Taken) : Type 0 where
      pub opening : ℕ
      pub closing : ℕ
      pub from : List ℕ
      pub list : Taken
      pub is_open : class_of opening ≡ LeftParen
      pub is_close : class_of closing ≡ RightParen
      pub reads_list : item_read fuel depth (maybe inside) from ≡ Some list
      pub behind_list : list.left ≡ closing ∷ u.left
      pub is : u.read ≡ enclosed opening list.read closing

    pub enclosed_so : (fuel depth : ℕ) (xs : List ℕ) (u : Taken) → item_read fuel depth enclosing xs ≡ Some u → Enclosed fuel depth u
    enclosed_so fuel depth xs u e =
        let k = between (read_one (grammar s) class_of (LeftParen ∷ []) xs) (item_read fuel depth rest) u e in
        let o = one_so LeftParen xs k.first k.reads in
        let k' = between (item_read fuel depth (maybe inside) k.first.left) (read_one (grammar s) class_of (RightParen ∷ [])) k.second k.more in
        let c = one_so RightParen k'.first.left k'.second k'.more in
        let left : k'.second.left ≡ u.left = ap (λ (w : Taken). w.left) k'.whole ∙ ap (λ (w : Taken). w.left) k.whole in
        record {
          opening = o.at;
          closing = c.at;
          from = k.first.left;
          list = k'.first;
          is_open = open_is (class_of o.at) o.class;
          is_close = close_is (class_of c.at) c.class;
          reads_list = k'.reads;
          behind_list = c.text ∙ ap (λ ys. c.at ∷ ys) left;
          is = tree k.first k.second k'.first k'.second u o.at c.at k.whole k'.whole (ap (λ (w : Taken). w.read) (sym o.is)) (ap (λ (w : Taken). w.read) (sym c.is));
        }
      where
        tree : (a b d f u : Taken) (i j : ℕ) → taken (joined a.read b.read) b.left ≡ u → taken (joined d.read f.read) f.left ≡ b → a.read ≡ token i none → f.read ≡ token j none
            → u.read ≡ enclosed i d.read j
        tree a b d f u i j whole whole' e h =
            ap (λ (w : Taken). w.read) (sym whole)
            ∙ (ap (λ k. joined k b.read) e ∙ ap (token i) (ap (λ (w : Taken). w.read) (sym whole') ∙ ap (joined d.read) h))
