pub mod Wide
pub mod WideHost
pub mod WideLaws
