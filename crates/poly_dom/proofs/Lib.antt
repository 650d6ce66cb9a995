pub mod AddedRows
pub mod Turning
