-- What is reached from where a walk begins.

pub data Reached {P : Type 0} (begins : P → Type 0) (follows : P → P → Type 0) : P → Type 0 where
  begun : (x : P) → begins x → Reached begins follows x
  onward : (x y : P) → Reached begins follows x → follows x y → Reached begins follows y
