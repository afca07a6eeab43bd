-- What the public contracts rest on.
pub mod Sections
pub mod OpeningStep
pub mod Including
pub mod Asking
pub mod Walk
pub mod Unit
pub mod Preprocessed
pub mod Laws
pub mod PseudoFiles
pub mod Again
-- What contracts see of private fields.
pub mod GivenFiles
pub mod ItemTexts
pub mod OpenSections
pub mod Walking
pub mod Leads
pub mod Fronts
-- Words of the crates below, passed on.
pub mod Below
