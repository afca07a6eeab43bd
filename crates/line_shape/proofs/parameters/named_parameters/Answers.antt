use Rattle.std.proofs.Common.{◌≡◌, sym, ap, ◌∙◌, ◌++◌, ◌∷◌, [], ◌+◌, List, length, drop, arith}
use Rattle.std.proofs.lemmas.List.{take_rest, length-drop}
use Rattle.cs_base.specs.Token.{Token}
use Rattle.line_shape.specs.Walk.{parameters_from}
use Rattle.line_shape.proofs.ParameterLemmas.{two_first, from-ellipsis, from-refused, from-named, from-last, from-more, from-short}
use Rattle.line_shape.proofs.SignLemmas.{ellipsis-no_comma}
use Rattle.line_shape.proofs.parameters.named_parameters.Goals as goal

pub returns-then-is_ellipsis-clause-answer : goal.returns-then-is_ellipsis-clause-answer
returns-then-is_ellipsis-clause-answer c =
    let two = two_first c.parameters.rest.now c.first-item.result c.sign-item.result c.in-len2-up.len_at_least c.first-item.is c.sign-item.is in
    (rw c.is_close.ensures at c.ended.ensures) ∙ sym (from-ellipsis c.parameters.names c.parameters.at _ _ _ _ two (sym c.is_ellipsis.ensures ∙ c.if-is_ellipsis.true)) ∙ c.parameters.invariant.rest

pub parameters-preserved : goal.parameters-preserved
parameters-preserved c =
    let rest = c.parameters.rest.now in
    let two = two_first rest c.first-item.result c.sign-item.result c.in-len2-up.len_at_least c.first-item.is c.sign-item.is in
    let added = rw c.if-not-branch.false at c.in_ok-add_parameter.ensures in
    let more = from-more c.parameters.names c.parameters.at rest c.first-item.result c.sign-item.result _ two (sym c.is_ellipsis.ensures ∙ c.if-is_ellipsis.false) added.0 (sym c.is_comma.ensures ∙ c.if-not-is_comma.false) in
    record {
      rest =
          rw added.1 (ap (λ (xs : List Token). parameters_from (c.parameters.names ++ c.first-item.result.text ∷ []) (c.parameters.at + 2) xs) (take_rest rest 2)
          ∙ sym more ∙ c.parameters.invariant.rest);
      len =
          let left : c.parameters.at + 2 + length (drop 2 rest) ≡ length c.args.toks.now = omega (arith, length-drop 2 rest, c.parameters.invariant.len, c.in-len2-up.len_at_least) in
          ap (λ (xs : List Token). c.parameters.at + 2 + length xs) (take_rest rest 2) ∙ left;
    }

pub returns-then-not-branch-clause-answer : goal.returns-then-not-branch-clause-answer
returns-then-not-branch-clause-answer c =
    let rest = c.parameters.rest.now in
    let two = two_first rest c.first-item.result c.sign-item.result c.in-len2-up.len_at_least c.first-item.is c.sign-item.is in
    let refused = rw c.if-not-branch.true at c.in_ok-add_parameter.ensures in
    sym (from-refused c.parameters.names c.parameters.at rest c.first-item.result c.sign-item.result _ two (sym c.is_ellipsis.ensures ∙ c.if-is_ellipsis.false) refused)
    ∙ c.parameters.invariant.rest

pub returns-then-is_ellipsis-2-clause-answer : goal.returns-then-is_ellipsis-2-clause-answer
returns-then-is_ellipsis-2-clause-answer c =
    let rest = c.parameters.rest.now in
    let two = two_first rest c.first-item.result c.sign-item.result c.in-len2-up.len_at_least c.first-item.is c.sign-item.is in
    let added = rw c.if-not-branch.false at c.in_ok-add_parameter.ensures in
    let is = sym c.is_ellipsis-in-len2-up.ensures ∙ c.if-is_ellipsis-2.true in
    let named = from-named c.parameters.names c.parameters.at rest c.first-item.result c.sign-item.result _ two (sym c.is_ellipsis.ensures ∙ c.if-is_ellipsis.false) added.0 (ellipsis-no_comma c.sign-item.result is) is in
    (rw (added.1, take_rest rest 2) at c.ended_named.ensures) ∙ sym named ∙ c.parameters.invariant.rest

pub returns-then-not-is_comma-clause-answer : goal.returns-then-not-is_comma-clause-answer
returns-then-not-is_comma-clause-answer c =
    let rest = c.parameters.rest.now in
    let two = two_first rest c.first-item.result c.sign-item.result c.in-len2-up.len_at_least c.first-item.is c.sign-item.is in
    let added = rw c.if-not-branch.false at c.in_ok-add_parameter.ensures in
    let last = from-last c.parameters.names c.parameters.at rest c.first-item.result c.sign-item.result _ two (sym c.is_ellipsis.ensures ∙ c.if-is_ellipsis.false) added.0 (sym c.is_comma.ensures ∙ c.if-not-is_comma.true)
    (sym c.is_ellipsis-in-len2-up.ensures ∙ c.if-is_ellipsis-2.false) in
    (rw (c.is_close-then-not-is_comma.ensures, added.1) at c.ended-then-not-is_comma.ensures) ∙ sym last ∙ c.parameters.invariant.rest

pub returns-clause-answer : goal.returns-clause-answer
returns-clause-answer c = sym (from-short c.parameters.names c.parameters.at c.parameters.rest.now c.in_default.len_below) ∙ c.parameters.invariant.rest
