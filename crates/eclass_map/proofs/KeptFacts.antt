-- The empty table, and a table told by equal parts.
use Rattle.std.proofs.Common.{◌≡◌, List, [], refl, sym, arith, subst}
use Rattle.std.proofs.lemmas.Option.{none-some}
use Rattle.cs_base.specs.declared.positions.Pos.{Pos}
use Rattle.eclass_map.specs.declared.token_list.Added.{Added}
use Rattle.class_labels.specs.Labels.{Labels, spot, no_labels}
use Rattle.class_labels.specs.Table.{IsTable}
use Rattle.eclass_map.specs.Positions.{index_at}
use Rattle.eclass_map.specs.ClassTable.{Table}
use Rattle.eclass_map.specs.Kept.{IsKept}

abbrev pub table_of : List Added → List Pos → Labels → Table
table_of tokens places labels = record { tokens = tokens; places = places; labels = labels }

table_empty : IsTable no_labels
table_empty = record {
  each = refl;
  some = λ c below. absurd (omega arith);
  known = λ k s at. absurd (none-some s at);
  once = λ c below. absurd (omega arith);
  counted = omega arith;
  classes = λ c below. absurd (omega arith);
}

pub kept_empty : IsKept (table_of [] [] no_labels)
unfolding index_at
kept_empty = record {
  table = table_empty;
  tokens = record {
    ordered = λ i j r s less at_i at_j. absurd (none-some r at_i);
    some = λ k r at. absurd (none-some r at);
    numbered = λ k r at. absurd (none-some r at);
  };
  long = refl;
  short = omega arith;
  placed = λ p i at. absurd (none-some i at);
  numbered = λ i p at. absurd (none-some p at);
  ends = λ k r at. absurd (none-some r at);
  fits = λ k r at. absurd (none-some r at);
  opens = λ i s b at. absurd (none-some s at);
  opened = λ i c at. absurd (none-some (spot c 0) at);
}

pub kept_as : (tokens tokens' : List Added) (places places' : List Pos) (labels labels' : Labels) → tokens ≡ tokens' → places ≡ places' → labels ≡ labels' → IsKept (table_of tokens' places' labels') → IsKept (table_of tokens places labels)
kept_as tokens tokens' places places' labels labels' e f g h =
    let P : List Added → Type 0 = λ v. IsKept (table_of v places' labels') in
    let Q : List Pos → Type 0 = λ v. IsKept (table_of tokens v labels') in
    let R : Labels → Type 0 = λ v. IsKept (table_of tokens places v) in
    subst R (sym g) (subst Q (sym f) (subst P (sym e) h))
