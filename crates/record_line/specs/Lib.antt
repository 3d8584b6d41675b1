pub mod RecordLine
pub mod Inner
