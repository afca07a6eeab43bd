-- Why an edit is refused (this project's).
use Rattle.std.specs.Prelude.{Option, Some, None}
use Rattle.analysis.specs.Analysis.{AnalysisValue}
use Rattle.analysis.specs.Places.{place_at}
use Rattle.offences.specs.declared.firsts.Offence.{Offence}
use Rattle.offences.specs.declared.refusals.PlanFault.{PlanFault}
use Rattle.offences.specs.declared.refusals.PlanFault.TheVariants.{Refused, Memory}
use Rattle.offences.specs.declared.refusals.Refusal.{Refusal}
use Rattle.offences.specs.declared.refusals.Refusal.TheVariants as refusal

-- the refusal for an offence
abbrev pub refused_for : AnalysisValue → Offence → Refusal
refused_for a o = refusal.Offence (place_at a.table o.at) o.cause

-- the refusal for which a plan gives no edits: none for want of memory alone
abbrev pub refusal_of : PlanFault → Option Refusal
refusal_of (Refused why) = Some why
refusal_of Memory = None
