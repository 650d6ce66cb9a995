mod Asking
mod Reading
mod Examples
mod Walking
mod PairRows
mod PairFaults
mod PairRequests
