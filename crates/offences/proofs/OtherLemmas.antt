-- Members that reach past the tables of their files.
use Rattle.std.proofs.Common.{◌≡◌, ◌+◌, ◌≤◌, true, List, [], ◌∷◌, Option, inl, inr, refl, sym, ap, arith}
use Rattle.std.specs.Prelude.{filter}
use Rattle.std.proofs.lemmas.Bool.{cases_Bool, both_ways, lt-ltb}
use Rattle.cs_base.specs.declared.positions.Part.{Part}
use Rattle.cs_base.specs.declared.positions.Pos.{Pos}
use Rattle.analysis.specs.Below.eclass_map.Positions.{holds}
use Rattle.analysis.proofs.Below.eclass_map.TokenFacts.{holding}
use Rattle.part_respell.specs.Respelled.{member_over}
use Rattle.offences.specs.declared.moves.FileMove.{FileMove}
use Rattle.offences.specs.Moves.{is_outside, table_size}

module _ (files : List (Option FileMove)) (p : Pos) (past : table_size files p.file ≤ p.at) where
  -- a member that holds what the tables do not tell reaches past them
  reaches : (m : Part) → holds m p ≡ true → is_outside files m ≡ true
  reaches m held =
      let h = holding m p held in
      let file : table_size files m.start.file ≡ table_size files p.file = ap (table_size files) h.file in
      let from = h.from in
      let less = h.less in
      lt-ltb (table_size files m.start.file) (m.start.at + m.len) (omega (arith, past, file, from, less))

  -- so it is found among those that do
  pub others_over : (members : List Part) → member_over (filter (is_outside files) members) p ≡ member_over members p
  others_over [] = refl
  others_over (m ∷ members) = elim (cases_Bool (is_outside files m)) [
    | inl out ↦ elim (cases_Bool (holds m p)) [
      | inl held ↦ rw (out, held) refl
      | inr other ↦ rw (out, other) (others_over members)
    ]
    | inr in_ ↦ elim (cases_Bool (holds m p)) [
      | inl held ↦ absurd (both_ways (is_outside files m) in_ (reaches m held))
      | inr other ↦ rw (in_, other) (others_over members)
    ]
  ]
