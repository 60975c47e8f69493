-- What a call is made on, as far as it tells: a folder, the input, `out`, the counter of steps and `err` (rule of this project).
use Rattle.std.specs.Prelude.{ℕ, List, Option}
use Rattle.mesa_base.specs.Outside.{Files}
use Rattle.line_pieces.specs.Outputs.{Stream}

-- a folder: its files where it tells them, how many calls on each name were asked, and how many failed, or found no such file
pub record Shelf : Type 0 where
  pub files : Option Files
  pub calls : List ℕ → ℕ
  pub faults : List ℕ → ℕ
  pub misses : List ℕ → ℕ

abbrev pub shelf : Option Files → (calls faults misses : List ℕ → ℕ) → Shelf
shelf files calls faults misses = record { files = files; calls = calls; faults = faults; misses = misses }

-- an input: the bytes that are left where it tells them, and how many calls on it failed
pub record Feed : Type 0 where
  pub left : Option (List ℕ)
  pub faults : ℕ

abbrev pub feed : Option (List ℕ) → ℕ → Feed
feed left faults = record { left = left; faults = faults }

-- what a run is made on: what it reads, what it writes, and the steps that were counted
pub record Scene : Type 0 where
  pub input : Feed
  pub out : Stream
  pub steps : ℕ

abbrev pub scene : Feed → Stream → ℕ → Scene
scene input out steps = record { input = input; out = out; steps = steps }

pub record World : Type 0 where
  pub folder : Shelf
  pub scene : Scene
  pub err : Stream

abbrev pub world : Shelf → Scene → Stream → World
world folder scene err = record { folder = folder; scene = scene; err = err }
