pub mod RowLaws
pub mod PayloadLaws
pub mod Places
