-- The walk over a tree of GNU C that is told in two parts: over the one, and then over the other.
use Rattle.std.proofs.Common.{◌≡◌, List, refl}
use Rattle.cs_base.specs.Token.{Token}
use Rattle.c99_tree.specs.Tree.{Forest, none, token, node}
use Rattle.c99_tree.specs.Joined.{joined}
use Rattle.scope_bind.specs.Below.name_chains.Frames.{State}
use Rattle.gnu_bind.specs.declared.senses.Sense.{Sense}
use Rattle.gnu_bind.specs.Senses.{sense_in}
use Rattle.gnu_bind.specs.Walk.{read, begun, ended, walked}

pub walks_join : (toks : List Token) (a : Sense) (f h : Forest) (s : State) → walked toks a (joined f h) s ≡ walked toks a h (walked toks a f s)
unfolding walked
walks_join toks a none h s = refl
walks_join toks a (token i rest) h s = walks_join toks a rest h (read toks a i s)
walks_join toks a (node l first under rest) h s =
    let below : Sense = sense_in toks l.production under s.frame a in
    walks_join toks a rest h (ended toks a l first under s (walked toks below under (begun toks l first under below s)))
