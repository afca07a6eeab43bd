-- One more edit put.
use Rattle.std.proofs.Common.{◌≡◌, ℕ, zero, suc, ◌+◌, ◌<◌, List, [], ◌∷◌, length, take, refl, arith, ap, sym, ◌∙◌, add-one}
use Rattle.std.specs.Prelude.{Option, Some, None, IfSome, slice_get}
use Rattle.std.specs.Option.{option_map}
use Rattle.cs_base.specs.Outside.{FileMap, with_file}
use Rattle.cs_base.specs.Edit.{Edit, with_edits}

with_edits-take_suc : (es : List Edit) (k : ℕ) (path bytes : List ℕ) (fs : FileMap) → k < length es
    → IfSome (slice_get es k) (λ e. path ≡ e.path) → IfSome (slice_get es k) (λ e. bytes ≡ e.bytes)
    → with_edits (take (suc k) es) fs ≡ with_file path bytes (with_edits (take k es) fs)
with_edits-take_suc [] k path bytes fs h p b = absurd (omega arith)
with_edits-take_suc (e ∷ es) zero path bytes fs h p b = rw (p, b) refl
with_edits-take_suc (e ∷ es) (suc k) path bytes fs h p b =
    let h' : k < length es = omega arith in
    with_edits-take_suc es k path bytes (with_file e.path e.bytes fs) h' p b

-- what is held once the next edit is put
pub held_more : (es : List Edit) (k : ℕ) (path bytes : List ℕ) (told before now : Option FileMap) → k < length es
    → IfSome (slice_get es k) (λ e. path ≡ e.path) → IfSome (slice_get es k) (λ e. bytes ≡ e.bytes)
    → before ≡ option_map (with_edits (take k es)) told → now ≡ option_map (with_file path bytes) before
    → now ≡ option_map (with_edits (take (k + 1) es)) told
held_more es k path bytes None before now h p b e f = f ∙ ap (option_map (with_file path bytes)) e
held_more es k path bytes (Some fs) before now h p b e f =
    rw (f, e, add-one) (ap (λ (files : FileMap). Some files) (sym (with_edits-take_suc es k path bytes fs h p b)))
