pub mod AdmittingLemmas
pub mod CallingLemmas
pub mod CarryingLemmas
pub mod LearnedPlans
pub mod LimitLemmas
pub mod RegisteringLemmas
