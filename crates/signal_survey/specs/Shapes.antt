-- Tables of which each row has its number of cells, with nothing in them.
use Rattle.std.specs.Prelude.{◌≡◌, ℕ, ◌<◌, zero, suc, List, length, Contains, Option, Some, None}
use Rattle.code_forms.specs.declared.module_code.ModuleCode.{ModuleCode}
use Rattle.object_files.specs.declared.image.Image.{Image}
use Rattle.machine_rules.specs.LookUps.{code_of}
use Rattle.place_walks.specs.declared.place.Place.{Place}
use Rattle.place_walks.specs.Edges.{IsEmpty}
use Rattle.place_walks.specs.Table.{part}

-- of the first so many rows each has its cells
pub record HasShape (width : ℕ → ℕ) (count : ℕ) (table : List (List (List Place))) : Type 0 where
  pub rows : length table ≡ count
  pub empty : IsEmpty table
  pub cells : (i : ℕ) → i < count → length (part table i) ≡ width i

pub record IsEmptyRow (count : ℕ) (row : List (List Place)) : Type 0 where
  pub many : length row ≡ count
  pub empty : (k : ℕ) (x : Place) → Contains (part row k) x → ⊥

abbrev pub signals_in : Option ModuleCode → ℕ
signals_in None = 0
signals_in (Some m) = length m.signals

abbrev pub procedures_in : Option ModuleCode → ℕ
procedures_in None = 0
procedures_in (Some m) = length m.procedures

-- four for the predeclared signals, then one for each signal of an instance
abbrev pub raisers_width : Image → ℕ → ℕ
raisers_width image zero = 4
raisers_width image (suc j) = signals_in (code_of image j)

-- one for each procedure of an instance
abbrev pub callers_width : Image → ℕ → ℕ
callers_width image j = procedures_in (code_of image j)
