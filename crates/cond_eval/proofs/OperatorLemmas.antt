-- Operators that are known by one look.
use Rattle.std.proofs.Common.{◌≡◌, ℕ, true, List, None, Some, sym, ap}
use Rattle.std.specs.Prelude.{codes}
use Rattle.std.specs.Str.{bytes_eq}
use Rattle.cs_base.proofs.FileMapLemmas.{bytes_eq-equal}
use Rattle.cond_eval.specs.declared.operators.Operator.TheVariants.{And, Or}
use Rattle.cond_eval.specs.Operators.{operator_of}

pub close_none : (text : List ℕ) → bytes_eq text (codes ")") ≡ true → None ≡ operator_of text
unfolding operator_of
close_none text same = sym (ap operator_of (bytes_eq-equal text (codes ")") same))

pub and_known : (text : List ℕ) → bytes_eq text (codes "&&") ≡ true → Some And ≡ operator_of text
unfolding operator_of
and_known text same = sym (ap operator_of (bytes_eq-equal text (codes "&&") same))

pub or_known : (text : List ℕ) → bytes_eq text (codes "||") ≡ true → Some Or ≡ operator_of text
unfolding operator_of
or_known text same = sym (ap operator_of (bytes_eq-equal text (codes "||") same))
