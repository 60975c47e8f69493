pub use Rattle.agreement_laws.specs.machine_rules
pub use Rattle.frame_machine
pub use Rattle.agreement_laws.specs.agreement_rules
pub mod Meant
