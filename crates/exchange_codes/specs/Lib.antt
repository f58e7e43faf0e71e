pub mod ByNumber
pub mod Listed
