pub mod Rows
pub mod OpenCalls
pub mod Moves
pub mod Pushing
pub mod SnapshotIndex
pub mod AdmissionList
pub mod KeptAdmission
