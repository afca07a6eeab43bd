-- Edits that are made over any source: what then stands at each path is what edits leave of files that hold that path alone.
use Rattle.std.proofs.Common.{◌≡◌, ◌⊎◌, ℕ, zero, suc, false, List, [], ◌∷◌, Option, None, Some, IsTrue, get_or, inl, inr, refl, sym, ap, subst, ◌∙◌}
use Rattle.std.specs.Prelude.{All, slice_get}
use Rattle.std.specs.Str.{bytes_eq}
use Rattle.std.proofs.Math.Path.{fun_ext}
use Rattle.std.proofs.lemmas.Bool.{cases_Bool}
use Rattle.std.proofs.lemmas.Option.{none-some, same_Some, slice_get_within, slice_get-get_or, get_or_from_slice_get}
use Rattle.cs_base.specs.Edit.{Edit, are_in_order, with_edits}
use Rattle.cs_base.specs.Outside.{FileMap, bytes_at}
use Rattle.cs_base.proofs.FileMapLemmas.{bytes_eq-same, bytes_eq-equal, bytes_at-with_edits, bytes_at-with_edits_other}
use Rattle.analysis.specs.Below.source_files.Files.{Source}
use Rattle.edited_files.specs.Edited.{AreMade, with_edit, with_each}
use Rattle.edited_files.proofs.OrderLemmas.{order_with}
use Rattle.edited_files.proofs.PutLemmas.{put_each}

-- files in which a path holds this, and no other path is
abbrev alone : List ℕ → Option (List ℕ) → FileMap
alone path None = []
alone path (Some bytes) = (path, bytes) ∷ []

alone_holds : (path : List ℕ) (held : Option (List ℕ)) → bytes_at path (alone path held) ≡ held
alone_holds path None = refl
alone_holds path (Some bytes) = rw (bytes_eq-same path) refl

-- a source once these edits are made
abbrev pub made : List Edit → Source → Source
made edits before path = bytes_at path (with_edits edits (alone path (before path)))

-- no edit has this path
abbrev HasNone : List Edit → List ℕ → Type 0
HasNone es path = (k : ℕ) (e : Edit) → slice_get es k ≡ Some e → bytes_eq e.path path ≡ false

none_behind : (d : Edit) (es : List Edit) (path : List ℕ) → bytes_eq d.path path ≡ false → HasNone es path → HasNone (d ∷ es) path
none_behind d es path other none zero e at = subst (λ (x : Edit). bytes_eq x.path path ≡ false) (same_Some d e at) other
none_behind d es path other none (suc k) e at = none k e at

-- an edit has it, or none has
edit_of : (path : List ℕ) (es : List Edit) → ((k : ℕ) × (e : Edit) × (slice_get es k ≡ Some e) × (e.path ≡ path)) ⊎ HasNone es path
edit_of path [] = inr (λ k e at. absurd (none-some e at))
edit_of path (d ∷ es) = elim (cases_Bool (bytes_eq d.path path)) [
  | inl same ↦ inl (zero, d, refl, bytes_eq-equal d.path path same)
  | inr other ↦ elim (edit_of path es) [
    | inl found ↦ inl (suc found.0, found.1, found.2, found.3)
    | inr none ↦ inr (none_behind d es path other none)
  ]
]

apart_each : (es : List Edit) (path : List ℕ) → HasNone es path → All (λ e. bytes_eq e.path path ≡ false) es
apart_each es path none = λ k d below. none k (get_or es k d) (slice_get-get_or es k d below)

-- files with the edits hold the bytes of each
put_at : (es : List Edit) (files : FileMap) (k : ℕ) (e : Edit) → IsTrue (are_in_order es) → slice_get es k ≡ Some e → bytes_at e.path (with_edits es files) ≡ Some e.bytes
put_at es files k e sorted at =
    subst (λ (x : Edit). bytes_at x.path (with_edits es files) ≡ Some x.bytes) (get_or_from_slice_get es k e e at)
    (bytes_at-with_edits es files k e sorted (slice_get_within es k e at))

-- ---- what stands at each path

-- some source holds them
pub made_is_made : (es : List Edit) (before : Source) → IsTrue (are_in_order es) → AreMade es before (made es before)
made_is_made es before sorted = record {
  each = λ k e at. put_at es (alone e.path (before e.path)) k e sorted at;
  others = λ path none.
      bytes_at-with_edits_other es path (alone path (before path)) (apart_each es path none) ∙ alone_holds path (before path);
}

-- and it is one
pub made_once : (es : List Edit) (before now other : Source) → AreMade es before now → AreMade es before other → now ≡ other
made_once es before now other first second = fun_ext (λ (path : List ℕ). elim (edit_of path es) [
  | inl found ↦ subst (λ (p : List ℕ). now p ≡ other p) found.3 (first.each found.0 found.1 found.2 ∙ sym (second.each found.0 found.1 found.2))
  | inr none ↦ first.others path none ∙ sym (second.others path none)
])

-- no edits change nothing
pub none_made : (before : Source) → AreMade [] before before
none_made before = record { each = λ k e at. absurd (none-some e at); others = λ path none. refl }

-- ---- edits over edits

order_each : (new es : List Edit) → IsTrue (are_in_order es) → IsTrue (are_in_order (with_each new es))
unfolding with_each
order_each [] es sorted = sorted
order_each (e ∷ new) es sorted = order_each new (with_edit e es) (order_with e es sorted)

pub made_each : (new es : List Edit) (first before now : Source) → IsTrue (are_in_order new) → IsTrue (are_in_order es)
    → AreMade es first before → AreMade new before now → AreMade (with_each new es) first now
made_each new es first before now ordered sorted earlier later =
    subst (λ (end : Source). AreMade (with_each new es) first end) (fun_ext (λ (path : List ℕ). same path))
    (made_is_made (with_each new es) first (order_each new es sorted))
  where
    same : (path : List ℕ) → made (with_each new es) first path ≡ now path
    same path =
        let files = alone path (first path) in
        let put = put_each new es files ordered sorted in
        elim (edit_of path new) [
          | inl found ↦
              subst (λ (p : List ℕ). bytes_at p (with_edits (with_each new es) files) ≡ now p) found.3
              (put.each found.0 found.1 found.2 ∙ sym (later.each found.0 found.1 found.2))
          | inr none ↦
              put.others path (apart_each new path none)
              ∙ ap (λ (s : Source). s path) (made_once es first (made es first) before (made_is_made es first sorted) earlier)
              ∙ sym (later.others path none)
        ]
