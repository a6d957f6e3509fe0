pub mod Chains
pub mod Near
pub mod Sums
pub mod Systems
pub mod Comparison
pub mod Elimination
pub mod Perturbation
pub mod Run
