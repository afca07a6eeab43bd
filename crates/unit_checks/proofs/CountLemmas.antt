-- The units of a workspace, one after another: their lines, and how many are accepted.
use Rattle.std.proofs.Common.{◌≡◌, ℕ, ◌+◌, ◌<◌, ◌≤◌, Bool, true, false, List, [], ◌++◌, length, get_or, drop, sym, ap, ◌∙◌, append_assoc, append-nil, arith, add-zero}
use Rattle.std.specs.Prelude.{if◌then◌else◌, nat_lt}
use Rattle.std.proofs.lemmas.List.{at_drop_more, at_drop_all}
use Rattle.cs_base.specs.Units.{UnitValue}
use Rattle.ws_file.specs.Workspace.{WorkspaceValue}
use Rattle.include_tree.specs.Below.source_files.Files.{Source}
use Rattle.unit_checks.specs.Checked.{accepted_line, check_text, count_from, lines_from, some_refused, unit_count, unit_line}

module _ (source : Source) (units : List UnitValue) (i : ℕ) (unit : UnitValue) (within : i < length units) (is : unit ≡ get_or units i unit) where
  lines-here : lines_from source (i + 1) (drop i units) ≡ unit_line source (i + 1) unit ++ lines_from source (i + 1 + 1) (drop (i + 1) units)
  unfolding lines_from
  lines-here =
      at_drop_more (lines_from source (i + 1)) units i unit within
      ∙ ap (λ (u : UnitValue). unit_line source (i + 1) u ++ lines_from source (i + 1 + 1) (drop (i + 1) units)) (sym is)

  count-here : count_from source (i + 1) (drop i units) ≡ unit_count source (i + 1) unit + count_from source (i + 1 + 1) (drop (i + 1) units)
  unfolding count_from
  count-here =
      at_drop_more (count_from source (i + 1)) units i unit within
      ∙ ap (λ (u : UnitValue). unit_count source (i + 1) u + count_from source (i + 1 + 1) (drop (i + 1) units)) (sym is)

  -- one unit more
  pub lines_next : (before now whole : List ℕ) → before ++ lines_from source (i + 1) (drop i units) ≡ whole → now ≡ before ++ unit_line source (i + 1) unit
      → now ++ lines_from source (i + 1 + 1) (drop (i + 1) units) ≡ whole
  lines_next before now whole so_far here =
      let rest = lines_from source (i + 1 + 1) (drop (i + 1) units) in
      ap (λ (xs : List ℕ). xs ++ rest) here ∙ append_assoc before (unit_line source (i + 1) unit) rest
      ∙ ap (λ (xs : List ℕ). before ++ xs) (sym lines-here) ∙ so_far

  pub count_next : (before one whole : ℕ) → before + count_from source (i + 1) (drop i units) ≡ whole → one ≡ unit_count source (i + 1) unit
      → (before + one) + count_from source (i + 1 + 1) (drop (i + 1) units) ≡ whole
  count_next before one whole so_far here =
      let step : count_from source (i + 1) (drop i units) ≡ unit_count source (i + 1) unit + count_from source (i + 1 + 1) (drop (i + 1) units) = count-here in
      omega (arith, step, here, so_far)

module _ (source : Source) (units : List UnitValue) (i : ℕ) (past : length units ≤ i) where
  pub lines_end : (now whole : List ℕ) → now ++ lines_from source (i + 1) (drop i units) ≡ whole → now ≡ whole
  unfolding lines_from
  lines_end now whole so_far =
      sym (append-nil now) ∙ ap (λ (xs : List ℕ). now ++ xs) (sym (at_drop_all (lines_from source (i + 1)) units i past)) ∙ so_far

  pub count_end : (now whole : ℕ) → now + count_from source (i + 1) (drop i units) ≡ whole → now ≡ whole
  unfolding count_from
  count_end now whole so_far =
      sym (add-zero now) ∙ ap (λ (n : ℕ). now + n) (sym (at_drop_all (count_from source (i + 1)) units i past)) ∙ so_far

-- one unit at most
pub one_of : (b : Bool) (count : ℕ) → count ≡ (if b then 1 else 0) → count ≤ 1
one_of true count is = omega (arith, is)
one_of false count is = omega (arith, is)

-- all units
pub whole_text : (ws : WorkspaceValue) (units : List UnitValue) (source : Source) (first lines now : List ℕ) (count : ℕ) → units ≡ ws.units → first ≡ []
    → lines ≡ first ++ lines_from source 1 units → count ≡ count_from source 1 units → now ≡ lines ++ accepted_line count (length units)
    → now ≡ check_text source ws
whole_text ws units source first lines now count same empty told counted is =
    is ∙ ap (λ (n : ℕ). lines ++ accepted_line n (length units)) counted
    ∙ ap (λ (xs : List ℕ). xs ++ accepted_line (count_from source 1 units) (length units)) (told ∙ ap (λ (xs : List ℕ). xs ++ lines_from source 1 units) empty)
    ∙ ap (λ (us : List UnitValue). lines_from source 1 us ++ accepted_line (count_from source 1 us) (length us)) same

pub whole_refused : (ws : WorkspaceValue) (units : List UnitValue) (source : Source) (count : ℕ) → units ≡ ws.units → count ≡ count_from source 1 units
    → nat_lt count (length units) ≡ some_refused source ws
whole_refused ws units source count same counted =
    ap (λ (n : ℕ). nat_lt n (length units)) counted ∙ ap (λ (us : List UnitValue). nat_lt (count_from source 1 us) (length us)) same
