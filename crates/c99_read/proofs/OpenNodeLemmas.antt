-- A node whose last child waits beside the others.
use Rattle.std.proofs.Common.{ℕ, ◌≡◌, Bool, true, false, ◌||◌, List, Option, None, Some, refl, ap, ◌∙◌, arith}
use Rattle.std.proofs.Math.Bool.{or_assoc}
use Rattle.cs_base.specs.Token.{Token}
use Rattle.c99_tree.specs.Tree.{Forest, none, token, node, Node, inner, put, count_of, collapsed}
use Rattle.c99_read.specs.OpenNode.{with_last}
use Rattle.c99_grammar.specs.Standard.{Grammar}
use Rattle.c99_read.specs.State.{last_identifier, last_declared, name_below, has_typedef, is_typedef_part}

-- no child: the only one is that which waits
pub collapsed-last : (n last : Node) → count_of n.under ≡ 0 → last ≡ collapsed (record n { under = put n.under (inner last) })
collapsed-last n last empty = by n.under empty
  where
    by : (f : Forest) → count_of f ≡ 0 → last ≡ collapsed (record n { under = put f (inner last) })
    by none e = refl
    by (token i rest) e = absurd (omega (arith, e))
    by (node l first under rest) e = absurd (omega (arith, e))

pub last_declared-put : (f : Forest) (last : Node) → name_below last.label last.under ≡ last_declared (put f (inner last))
last_declared-put none last = refl
last_declared-put (token i rest) last = last_declared-put rest last
last_declared-put (node l first under none) last = refl
last_declared-put (node l first under (token i rest)) last = last_declared-put rest last
last_declared-put (node l first under (node m second below rest)) last = last_declared-put (node m second below rest) last

pub has_typedef-put : (f : Forest) (last : Node) → (has_typedef f || is_typedef_part last.label last.under) ≡ has_typedef (put f (inner last))
has_typedef-put none last = by (is_typedef_part last.label last.under)
  where
    by : (b : Bool) → b ≡ (b || false)
    by true = refl
    by false = refl
has_typedef-put (token i rest) last = has_typedef-put rest last
has_typedef-put (node l first under rest) last =
    or_assoc (is_typedef_part l under) (has_typedef rest) (is_typedef_part last.label last.under)
    ∙ ap (λ b. is_typedef_part l under || b) (has_typedef-put rest last)

pub last_identifier-put : (g : Grammar) (toks : List Token) (f : Forest) (last : Node) (found : Option ℕ)
    → last_identifier g toks f found ≡ last_identifier g toks (put f (inner last)) found
last_identifier-put g toks none last found = refl
last_identifier-put g toks (token i rest) last found = last_identifier-put g toks rest last _
last_identifier-put g toks (node l first under rest) last found = last_identifier-put g toks rest last found

pub last_identifier-with : (g : Grammar) (toks : List Token) (n : Node) (last : Option Node) (found : Option ℕ)
    → last_identifier g toks n.under found ≡ last_identifier g toks (with_last n last).under found
last_identifier-with g toks n None found = refl
last_identifier-with g toks n (Some last) found = last_identifier-put g toks n.under last found
