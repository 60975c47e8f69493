-- Which text an item of a DIRECTORY names, by the bases of all texts.
use Rattle.std.specs.Prelude.{◌≡◌, ℕ, Bool, List, ◌++◌, map, bytes_eq, codes, find, position, filter_map, Option, None, if◌then◌else◌}
use Rattle.std.specs.List.{cons_option}
use Rattle.syntax_trees.specs.declared.syntax.DirectoryItem.{DirectoryItem}
use Rattle.include_rules.specs.declared.entries.TextEntry.{TextEntry}

-- the text with this base
abbrev pub number_in : (bases : List (List ℕ)) → (base : List ℕ) → Option ℕ
number_in bases base = position (λ b. bytes_eq b base) bases

-- the text that an item names, if any; one named IODefs names none
abbrev pub number_of_item : (bases : List (List ℕ)) → DirectoryItem → Option ℕ
number_of_item bases d = if bytes_eq d.name.name (codes "IODefs") then None else number_in bases d.file

-- what each text names
abbrev pub rows_of : (bases : List (List ℕ)) → List TextEntry → List (List ℕ)
rows_of bases texts = map (λ (t : TextEntry). filter_map (number_of_item bases) t.module.directory) texts

-- whatever is sought, the same is found first
pub record FindsAs (xs ys : List ℕ) : Type 0 where
  pub found : (p : ℕ → Bool) → find p xs ≡ find p ys

-- a number, if there is one, was put at the end or stood there before
pub record Adds (old new : List ℕ) (number : Option ℕ) : Type 0 where
  pub before : (rest : List ℕ) → FindsAs (new ++ rest) (old ++ cons_option number rest)
