pub mod ArmVariables
pub mod FieldLaws
pub mod Gathering
pub mod LabelLoops
pub mod Signals
pub mod Tests
