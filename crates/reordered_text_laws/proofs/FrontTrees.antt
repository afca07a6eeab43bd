-- Trees of texts behind four tokens more.
use Rattle.std.proofs.Common.{ℕ, zero, suc, ◌≡◌, Bool, true, false, ◌&&◌, ◌||◌, if◌then◌else◌, Some, refl, sym, ap, ◌∙◌}
use Rattle.c99_tree.specs.Tree.{Forest, none, token, node, Node, node_of, leaf, inner, put, Part, lone, collapsed}
use Rattle.c99_tree.specs.declared.production.Label.{Label}
use Rattle.c99_tree.specs.declared.production.Production.{Production}
use Rattle.c99_read.specs.State.{is_declaring, has_name, name_below, last_declared, is_typedef_word, is_main, typedef_word_in, is_typedef_part, has_typedef, collapses, finished}
use Rattle.reordered_text_laws.specs.ByClasses.{joined}
use Rattle.reordered_text_laws.specs.Fronted.{up, raised, strays, dirty}
use Rattle.reordered_text_laws.proofs.FrontNames.{up_option}

abbrev pub raised_node : Node → Node
raised_node n = node_of n.label (up n.first) (raised n.under)

pub raised-leaf : (f : Forest) (i : ℕ) → put (raised f) (leaf (up i)) ≡ raised (put f (leaf i))
raised-leaf none i = refl
raised-leaf (token j rest) i = ap (token (up j)) (raised-leaf rest i)
raised-leaf (node l first under rest) i = ap (node l (up first) (raised under)) (raised-leaf rest i)

pub raised-inner : (f : Forest) (n : Node) → put (raised f) (inner (raised_node n)) ≡ raised (put f (inner n))
raised-inner none n = refl
raised-inner (token j rest) n = ap (token (up j)) (raised-inner rest n)
raised-inner (node l first under rest) n = ap (node l (up first) (raised under)) (raised-inner rest n)

pub put-joined : (pre f : Forest) (p : Part) → put (joined pre f) p ≡ joined pre (put f p)
put-joined none f p = refl
put-joined (token j rest) f p = ap (token j) (put-joined rest f p)
put-joined (node l first under rest) f p = ap (node l first under) (put-joined rest f p)

lone-raised : (f : Forest) (n : Node) → n.under ≡ f → raised_node (lone f n) ≡ lone (raised f) (raised_node n)
lone-raised none n e = refl
lone-raised (token i rest) n e = refl
lone-raised (node l first under none) n e = refl
lone-raised (node l first under (token i rest)) n e = refl
lone-raised (node l first under (node m second below rest)) n e = refl

pub finished-raised : (p : Production) (n : Node) → finished p (raised_node n) ≡ raised_node (finished p n)
finished-raised p n = by (collapses p)
  where
    by : (c : Bool) → (if c then collapsed (raised_node n) else raised_node n) ≡ raised_node (if c then collapsed n else n)
    by true = sym (lone-raised n.under n refl)
    by false = refl

below-raised : (l : Label) (f : Forest) → name_below l (raised f) ≡ up_option (name_below l f)
below-raised l none = refl
below-raised l (token i rest) = by (has_name l) (below-raised l rest)
  where
    by : (c : Bool) → name_below l (raised rest) ≡ up_option (name_below l rest)
        → (if c then Some (up i) else name_below l (raised rest)) ≡ up_option (if c then Some i else name_below l rest)
    by true e = refl
    by false e = e
below-raised l (node m first under rest) = by (is_declaring m.production) (below-raised m under) (below-raised l rest)
  where
    by : (c : Bool) → name_below m (raised under) ≡ up_option (name_below m under) → name_below l (raised rest) ≡ up_option (name_below l rest)
        → (if c then name_below m (raised under) else name_below l (raised rest)) ≡ up_option (if c then name_below m under else name_below l rest)
    by true e k = e
    by false e k = k

pub last-raised : (f : Forest) → last_declared (raised f) ≡ up_option (last_declared f)
last-raised none = refl
last-raised (token i rest) = last-raised rest
last-raised (node l first under none) = below-raised l under
last-raised (node l first under (token i rest)) = last-raised (token i rest)
last-raised (node l first under (node m second below rest)) = last-raised (node m second below rest)

words-raised : (f : Forest) → typedef_word_in (raised f) ≡ typedef_word_in f
words-raised none = refl
words-raised (token i rest) = words-raised rest
words-raised (node l first under rest) = ap (λ b. is_typedef_word l || b) (words-raised rest)

pub typedef-raised : (f : Forest) → has_typedef (raised f) ≡ has_typedef f
typedef-raised none = refl
typedef-raised (token i rest) = typedef-raised rest
typedef-raised (node l first under rest) =
    ap (λ b. (is_typedef_word l || (is_main l.production && b)) || has_typedef (raised rest)) (words-raised under)
    ∙ ap (λ b. is_typedef_part l under || b) (typedef-raised rest)

-- ---- Tokens that stray

-- of the tokens behind four others
abbrev pub behind_four : (ℕ → Bool) → ℕ → Bool
behind_four used zero = false
behind_four used (suc zero) = false
behind_four used (suc (suc zero)) = false
behind_four used (suc (suc (suc zero))) = false
behind_four used (suc (suc (suc (suc i)))) = used i

module _ (used : ℕ → Bool) where
  pub dirty-raised : (l : Label) (f : Forest) → dirty (behind_four used) l (raised f) ≡ dirty used l f
  dirty-raised l none = refl
  dirty-raised l (token i rest) = ap (λ b. strays used l i || b) (dirty-raised l rest)
  dirty-raised l (node m first under rest) = ap (λ b. b || dirty (behind_four used) l (raised rest)) (dirty-raised m under) ∙ ap (λ b. dirty used m under || b) (dirty-raised l rest)

  or_joined : (a b c : Bool) → (a || (b || c)) ≡ ((a || b) || c)
  or_joined true b c = refl
  or_joined false b c = refl

  pub dirty-joined : (l : Label) (a b : Forest) → dirty used l (joined a b) ≡ (dirty used l a || dirty used l b)
  dirty-joined l none b = refl
  dirty-joined l (token i rest) b = ap (λ x. strays used l i || x) (dirty-joined l rest b) ∙ or_joined (strays used l i) (dirty used l rest) (dirty used l b)
  dirty-joined l (node m first under rest) b = ap (λ x. dirty used m under || x) (dirty-joined l rest b) ∙ or_joined (dirty used m under) (dirty used l rest) (dirty used l b)
