-- Texts of units each token, link and event of which stays.
use Rattle.std.proofs.Common.{◌≡◌, map, sym}
use Rattle.std.specs.Option.{option_map}
use Rattle.include_tree.specs.Below.unit_steps.declared.events.Event.{Event}
use Rattle.include_tree.specs.Below.unit_steps.Texts.{UnitTextValue, text_of}
use Rattle.analysis.specs.Analysis.{UnitAnalysis, unit_analysis}
use Rattle.analysis.specs.Changed.{Renaming, renamed_event, renamed_link, renamed_text, renamed_token, renamed_unit_analysis}

pub event_same : (r : Renaming) (e : Event) → r.move e.at ≡ e.at → option_map r.move e.def ≡ e.def → option_map (renamed_token r) e.name ≡ e.name
    → renamed_event r e ≡ e
event_same r e at def name = λ i. record { kind = e.kind; name = name i; at = at i; def = def i; file = e.file; before = e.before }

pub text_same : (r : Renaming) (k : UnitTextValue) → map (renamed_token r) k.toks ≡ k.toks → map (renamed_link r) k.links ≡ k.links
    → map (renamed_token r) k.pasted ≡ k.pasted → map (renamed_token r) k.stringized ≡ k.stringized → map (renamed_token r) k.header ≡ k.header
    → map (renamed_token r) k.answers ≡ k.answers → map (renamed_event r) k.events ≡ k.events → renamed_text r k ≡ k
text_same r k toks links pasted stringized header answers events =
    λ i. text_of (toks i) (links i) (pasted i) (stringized i) (header i) (answers i) k.reached (events i)

pub unit_same : (r : Renaming) (u : UnitAnalysis) → renamed_text r u.text ≡ u.text → u ≡ renamed_unit_analysis r u
unit_same r u same = sym (λ i. unit_analysis u.standard (same i) u.tree u.bound)
