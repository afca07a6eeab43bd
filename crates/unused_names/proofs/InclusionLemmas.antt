-- Where an inclusion ends.
use Rattle.std.proofs.Common.{◌≡◌, ℕ, ◌+◌, ◌-◌, ◌<◌, ◌≤◌, List, Option, Some, None, length, get_or, drop, inl, inr, sym, ap, ◌∙◌, arith}
use Rattle.std.specs.Prelude.{◌==◌, if◌then◌else◌}
use Rattle.std.specs.Option.{option_map_or}
use Rattle.std.proofs.lemmas.Bool.{cases_Bool}
use Rattle.std.proofs.lemmas.List.{at_drop_more, at_drop_all}
use Rattle.std.proofs.lemmas.Option.{same_Some}
use Rattle.analysis.specs.Below.unit_steps.declared.events.Event.{Event}
use Rattle.analysis.specs.Below.unit_steps.declared.events.EventKind.{EventKind}
use Rattle.analysis.specs.Below.unit_steps.declared.events.EventKind.TheVariants as kind
use Rattle.unused_names.specs.Inclusions.{end_from, open_behind}

end_step : (events : List Event) (number inner : ℕ) (e : Event) → number < length events → e ≡ get_or events number e
    → end_from number inner (drop number events)
    ≡ option_map_or (λ now. end_from (number + 1) now (drop (number + 1) events)) (open_behind e.kind inner) number
unfolding end_from
end_step events number inner e within is =
    at_drop_more (end_from number inner) events number e within
    ∙ ap (λ (f : Event). option_map_or (λ now. end_from (number + 1) now (drop (number + 1) events)) (open_behind f.kind inner) number) (sym is)

-- the search goes on behind an event, or ends at it
pub end_more : (events : List Event) (number inner now : ℕ) (e : Event) → number < length events → e ≡ get_or events number e
    → Some now ≡ open_behind e.kind inner
    → end_from (number + 1) now (drop (number + 1) events) ≡ end_from number inner (drop number events)
end_more events number inner now e within is at =
    ap (λ (o : Option ℕ). option_map_or (λ now. end_from (number + 1) now (drop (number + 1) events)) o number) at ∙ sym (end_step events number inner e within is)

pub end_here : (events : List Event) (number inner : ℕ) (e : Event) → number < length events → e ≡ get_or events number e
    → None ≡ open_behind e.kind inner → number ≡ end_from number inner (drop number events)
end_here events number inner e within is at =
    ap (λ (o : Option ℕ). option_map_or (λ now. end_from (number + 1) now (drop (number + 1) events)) o number) at ∙ sym (end_step events number inner e within is)

pub end_past : (events : List Event) (number inner : ℕ) → length events ≤ number → end_from number inner (drop number events) ≡ number
unfolding end_from
end_past events number inner past = at_drop_all (end_from number inner) events number past

-- no more than one more is open behind an event
fewer : (inner now : ℕ) → Some now ≡ Some (inner - 1) → now ≤ inner + 1
fewer inner now at = let same : now ≡ inner - 1 = same_Some now (inner - 1) at in omega arith

leaves : (inner now : ℕ) → Some now ≡ (if inner == 0 then None else Some (inner - 1)) → now ≤ inner + 1
leaves inner now at = elim (cases_Bool (inner == 0)) [
  | inl none ↦ (let at' : Some now ≡ None = rw none at at in absurd (cc))
  | inr some ↦ fewer inner now (rw some at at)
]

stays : (inner now : ℕ) → Some now ≡ Some inner → now ≤ inner + 1
stays inner now at = let same : now ≡ inner = same_Some now inner at in omega arith

pub few_open : (k : EventKind) (inner now : ℕ) → Some now ≡ open_behind k inner → now ≤ inner + 1
few_open kind.Enter inner now at = let same : now ≡ inner + 1 = same_Some now (inner + 1) at in omega arith
few_open kind.Leave inner now at = leaves inner now at
few_open kind.Replaced inner now at = stays inner now at
few_open kind.Defined inner now at = stays inner now at
few_open kind.Undefined inner now at = stays inner now at
few_open kind.Tested inner now at = stays inner now at
few_open kind.Left inner now at = stays inner now at
few_open kind.Once inner now at = stays inner now at
few_open kind.Passed inner now at = stays inner now at
