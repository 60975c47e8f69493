-- Which texts a text names (rule of this project). Texts go by their numbers, from 0.
use Rattle.std.specs.Prelude.{ℕ, zero, suc, Bool, true, not, ◌&&◌, List, [], ◌∷◌, map, nat_eq, bytes_eq, codes, position, find, filter_map, Option, if◌then◌else◌}
use Rattle.syntax_trees.specs.declared.syntax.DirectoryItem.{DirectoryItem}
use Rattle.include_rules.specs.declared.entries.TextEntry.{TextEntry}

-- the FROM texts of a DIRECTORY, in order; an item named IODefs takes the built-in interface and names none
unfoldable pub from_texts : List DirectoryItem → List (List ℕ)
from_texts [] = []
from_texts (d ∷ ds) = if bytes_eq d.name.name (codes "IODefs") then from_texts ds else d.file ∷ from_texts ds

-- the text with this base
abbrev pub number_of : List TextEntry → (base : List ℕ) → Option ℕ
number_of texts base = position (λ (t : TextEntry). bytes_eq t.base base) texts

-- the texts that a text names, itself among them perhaps, in the order of its DIRECTORY
abbrev pub named : List TextEntry → TextEntry → List ℕ
named texts t = filter_map (number_of texts) (from_texts t.module.directory)

-- those of each text
abbrev pub naming : List TextEntry → List (List ℕ)
naming texts = map (named texts) texts

-- those of one of them
unfoldable pub named_by : (names : List (List ℕ)) → ℕ → List ℕ
named_by [] k = []
named_by (ns ∷ names) zero = ns
named_by (ns ∷ names) (suc k) = named_by names k

-- not yet taken
unfoldable pub is_left : (taken : List ℕ) → ℕ → Bool
is_left [] k = true
is_left (t ∷ taken) k = not (nat_eq t k) && is_left taken k

-- the first text that it names and that is not yet taken
abbrev pub first_left : (names : List (List ℕ)) → (taken : List ℕ) → ℕ → Option ℕ
first_left names taken k = find (is_left taken) (named_by names k)
