pub mod Faults
pub mod Source
pub mod Sink
pub mod ReadEnd
pub mod Schedule
pub mod MemorySource
pub mod MemorySink
