mod ControlLaws
pub mod ScanLaws
mod ScanShapes
mod ScanTerms
