-- Texts that are alike are bound alike by GNU C.
use Rattle.std.proofs.Common.{ℕ, ◌≡◌, List, length, refl, ap, ◌∙◌}
use Rattle.cs_base.specs.Token.{Token}
use Rattle.c99_tree.specs.Tree.{Forest, none, token, node}
use Rattle.c_types.specs.Declarations.{alike}
use Rattle.gnu_bind.specs.Below.scope_bind.Below.name_chains.Frames.{State, at_first}
use Rattle.gnu_bind.specs.Below.scope_bind.Bound.{bound_after}
use Rattle.gnu_bind.specs.declared.senses.Sense.{Sense}
use Rattle.gnu_bind.specs.Bound.{gnu_binding_of}
use Rattle.gnu_bind.specs.Senses.{sense_in, usual_sense}
use Rattle.gnu_bind.specs.Walk.{begun, read, ended, walked}
use Rattle.same_readings.specs.Alike.{AllSayTheSame}
use Rattle.same_readings.specs.AlikeLaws.{AlikeTextsBindAlike}
use Rattle.same_readings.proofs.AlikeNodes.{begun_same, sense_same, read_same, ended_same}

module _ (a b : List Token) (spelled : (i j : ℕ) → alike b i j ≡ alike a i j) (words : AllSayTheSame a b) where
  walked_same : (s : Sense) (f : Forest) (t : State) → walked b s f t ≡ walked a s f t
  unfolding walked
  walked_same s none t = refl
  walked_same s (token i rest) t = ap (walked b s rest) (read_same a b spelled words s i t) ∙ walked_same s rest (read a s i t)
  walked_same s (node l first under rest) t =
      let below : Sense = sense_in a l.production under t.frame s in
      let before : State = begun a l first under below t in
      let inside : State = walked a below under before in
      ap (λ (x : Sense). walked b s rest (ended b s l first under t (walked b x under (begun b l first under x t)))) (sense_same a b spelled words l.production under t.frame s)
      ∙ (ap (λ (x : State). walked b s rest (ended b s l first under t (walked b below under x))) (begun_same a b spelled words l first under below t)
      ∙ (ap (λ (x : State). walked b s rest (ended b s l first under t x)) (walked_same below under before)
      ∙ (ap (walked b s rest) (ended_same a b spelled words s l first under t inside)
      ∙ walked_same s rest (ended a s l first under t inside))))

pub alike_texts_bind_alike : AlikeTextsBindAlike
unfolding gnu_binding_of
alike_texts_bind_alike a b tree as_long spelled words =
    ap (λ (n : ℕ). bound_after tree.under ((walked b usual_sense tree.under (at_first n)).facts)) as_long
    ∙ ap (λ (t : State). bound_after tree.under t.facts) (walked_same a b spelled words usual_sense tree.under (at_first (length a)))
