-- The orders of nodes and of edges.
use Rattle.std.proofs.Common.{◌≡◌, ℕ, List, [], ◌∷◌, true, false, ap, sym, refl, ◌∙◌, inl, inr, arith}
use Rattle.std.specs.Prelude.{◌==◌, ◌&&◌, nat_lt}
use Rattle.std.specs.Cmp.Lexicographic.{slice_cmp}
use Rattle.std.specs.List.Sorted.{IsStrictlySortedBy}
use Rattle.std.specs.Ordering.{nat_cmp, ordering_then}
use Rattle.std.specs.declared.cmp.Ordering.{Ordering}
use Rattle.std.specs.declared.cmp.Ordering.TheVariants.{Less, Equal, Greater}
use Rattle.std.proofs.lemmas.Bool.{cases_Bool, eqb-true, le-ltb, or_cases, and_parts}
use Rattle.std.proofs.lemmas.Cmp.{then_total, on_total, nat_list_cmp_total, nat_cmp_total, tied_itself}
use Rattle.cs_base.specs.declared.positions.Pos.{Pos}
use Rattle.cs_base.proofs.OrderLemmas.{nat_cmp-tie, tied as text-tie}
use Rattle.analysis.specs.Below.source_files.Files.{Table}
use Rattle.calls_of.specs.declared.nodes.Node.{Node}
use Rattle.calls_of.specs.declared.nodes.NodeKind.{NodeKind}
use Rattle.calls_of.specs.declared.nodes.NodeKind.TheVariants.{Macro, Function}
use Rattle.calls_of.specs.declared.nodes.Edge.{Edge}
use Rattle.calls_of.specs.Graph.{comes_before, are_in_order}
use Rattle.calls_of.specs.Graphs.{kind_number, path_of, pos_cmp, kind_cmp, node_cmp}
use Rattle.calls_of.specs.Numbers.{edge_cmp}
use Rattle.calls_of.proofs.OrderLemmas.{IsStrict}

-- ---- ties

pub then_tie : (o p : Ordering) → ordering_then o p ≡ Equal → (o ≡ Equal) × (p ≡ Equal)
then_tie Less p e = cc
then_tie Equal p e = (refl, e)
then_tie Greater p e = cc

kind-tie : (a b : NodeKind) → nat_cmp (kind_number a) (kind_number b) ≡ Equal → a ≡ b
kind-tie Macro Macro e = refl
kind-tie Macro Function e = cc
kind-tie Function Macro e = cc
kind-tie Function Function e = refl

same_node : (m n : Node) → m.kind ≡ n.kind → m.at.file ≡ n.at.file → m.at.at ≡ n.at.at → m.name ≡ n.name → m ≡ n
same_node m n kind file at name =
    let made : NodeKind → ℕ → ℕ → List ℕ → Node = λ k f p t. record { kind = k; at = record { file = f; at = p }; name = t } in
    ap (λ (k : NodeKind). made k m.at.file m.at.at m.name) kind
    ∙ ap (λ (f : ℕ). made n.kind f m.at.at m.name) file
    ∙ ap (λ (p : ℕ). made n.kind n.at.file p m.name) at
    ∙ ap (made n.kind n.at.file n.at.at) name

-- ---- nodes

node-tie : (table : Table) (m n : Node) → node_cmp table m n ≡ Equal → m ≡ n
node-tie table m n e =
    let outer = then_tie (pos_cmp table m.at n.at) (ordering_then (slice_cmp nat_cmp m.name n.name) (kind_cmp m n)) e in
    let place = then_tie (slice_cmp nat_cmp (path_of table m.at.file) (path_of table n.at.file)) (nat_cmp m.at.at n.at.at) outer.0 in
    let inner = then_tie (slice_cmp nat_cmp m.name n.name) (kind_cmp m n) outer.1 in
    let last = then_tie (nat_cmp (kind_number m.kind) (kind_number n.kind)) (nat_cmp m.at.file n.at.file) inner.1 in
    same_node m n (kind-tie m.kind n.kind last.0) (nat_cmp-tie m.at.file n.at.file last.1) (nat_cmp-tie m.at.at n.at.at place.1) (text-tie m.name n.name inner.0)

pub node_cmp-strict : (table : Table) → IsStrict (node_cmp table)
node_cmp-strict table = record {
  total = then_total
      (then_total (on_total (λ (n : Node). path_of table n.at.file) nat_list_cmp_total) (on_total (λ (n : Node). n.at.at) nat_cmp_total))
      (then_total (on_total (λ (n : Node). n.name) nat_list_cmp_total)
      (then_total (on_total (λ (n : Node). kind_number n.kind) nat_cmp_total) (on_total (λ (n : Node). n.at.file) nat_cmp_total)));
  tie = node-tie table;
}

-- in one file no path is looked at
pub in_one_file : (table : Table) (p q : Pos) → p.file ≡ q.file → pos_cmp table p q ≡ nat_cmp p.at q.at
in_one_file table p q same =
    let tie : slice_cmp nat_cmp (path_of table p.file) (path_of table q.file) ≡ Equal =
    ap (λ (n : ℕ). slice_cmp nat_cmp (path_of table p.file) (path_of table n)) (sym same) ∙ tied_itself nat_list_cmp_total (path_of table p.file) in
    ap (λ (o : Ordering). ordering_then o (nat_cmp p.at q.at)) tie

-- ---- edges

edge-tie : (e f : Edge) → edge_cmp e f ≡ Equal → e ≡ f
edge-tie e f h =
    let parts = then_tie (nat_cmp e.caller f.caller) (nat_cmp e.callee f.callee) h in
    let made : ℕ → ℕ → Edge = λ i j. record { caller = i; callee = j } in
    ap (λ (i : ℕ). made i e.callee) (nat_cmp-tie e.caller f.caller parts.0) ∙ ap (made f.caller) (nat_cmp-tie e.callee f.callee parts.1)

pub edge_cmp-strict : IsStrict edge_cmp
edge_cmp-strict = record {
  total = then_total (on_total (λ (e : Edge). e.caller) nat_cmp_total) (on_total (λ (e : Edge). e.callee) nat_cmp_total);
  tie = edge-tie;
}

nat_cmp-less : (m n : ℕ) → nat_cmp m n ≡ Less → nat_lt m n ≡ true
nat_cmp-less m n e = elim (cases_Bool (nat_lt m n)) [
  | inl less ↦ less
  | inr not_less ↦ elim (cases_Bool (m == n)) [
    | inl same ↦ (let wrong : Equal ≡ Less = rw (not_less, same) at e in absurd (cc))
    | inr apart ↦ (let wrong : Greater ≡ Less = rw (not_less, apart) at e in absurd (cc))
  ]
]

edge-before : (e f : Edge) → edge_cmp e f ≡ Less → comes_before e f ≡ true
edge-before e f h = elim (cases_Bool (nat_lt e.caller f.caller)) [
  | inl less ↦ rw less refl
  | inr not_less ↦ elim (cases_Bool (e.caller == f.caller)) [
    | inl same ↦
        let second : nat_cmp e.callee f.callee ≡ Less = rw (not_less, same) at h in
        rw (not_less, same, nat_cmp-less e.callee f.callee second) refl
    | inr apart ↦ (let wrong : Greater ≡ Less = rw (not_less, apart) at h in absurd (cc))
  ]
]

pub edges-in-order : (es : List Edge) → IsStrictlySortedBy edge_cmp es → are_in_order es ≡ true
unfolding IsStrictlySortedBy
edges-in-order [] sorted = refl
edges-in-order (e ∷ []) sorted = refl
edges-in-order (e ∷ f ∷ es) sorted = rw (edge-before e f sorted.0.0, edges-in-order (f ∷ es) sorted.1) refl

nat_lt-itself : (m n : ℕ) → m ≡ n → nat_lt m n ≡ false
nat_lt-itself m n same = le-ltb m n (omega arith)

-- what comes before is less
pub before-less : (e f : Edge) → comes_before e f ≡ true → edge_cmp e f ≡ Less
before-less e f h = elim (or_cases (nat_lt e.caller f.caller) (e.caller == f.caller && nat_lt e.callee f.callee) h) [
  | inl less ↦ rw less refl
  | inr tie ↦
      let both = and_parts (e.caller == f.caller) (nat_lt e.callee f.callee) tie in
      let same : e.caller ≡ f.caller = eqb-true e.caller f.caller both.0 in
      rw (both.0, both.1, nat_lt-itself e.caller f.caller same) refl
]
