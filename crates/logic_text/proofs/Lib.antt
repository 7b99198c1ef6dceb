pub mod GoalTexts
pub mod CertTexts
pub mod Turns
pub mod Signatures
pub mod Formulas
pub mod Wholes
pub mod Fitting
