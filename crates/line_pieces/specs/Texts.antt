-- How paths and stamps are written (rule of this project).
use Rattle.std.specs.Prelude.{ℕ, ◌+◌, ◌/◌, ◌%◌, ◌^◌, List, [], ◌∷◌, ◌++◌, flat_map, map, nat_lt, codes, if◌then◌else◌}

-- a name with a dot behind it
abbrev pub with_dot : List ℕ → List ℕ
with_dot name = name ++ codes "."

-- a name with a blank before it
abbrev pub with_blank : List ℕ → List ℕ
with_blank name = codes " " ++ name

-- the names of a path and a last name, with dots between
abbrev pub dotted : List (List ℕ) → List ℕ → List ℕ
dotted names last = flat_map with_dot names ++ last

-- names with dots between
abbrev pub path_text : List (List ℕ) → List ℕ
path_text [] = []
path_text (name ∷ []) = name
path_text (name ∷ next ∷ names) = with_dot name ++ path_text (next ∷ names)

abbrev pub hexadecimal_digit : ℕ → ℕ
hexadecimal_digit d = if nat_lt d 10 then 48 + d else 55 + d

-- the digit of a number that counts these units
abbrev pub digit_at : ℕ → (unit : ℕ) → ℕ
digit_at n unit = hexadecimal_digit ((n / unit) % 16)

-- 12 hexadecimal digits, upper case
abbrev pub stamp_text : ℕ → List ℕ
stamp_text n = map (digit_at n)
    (16 ^ 11 ∷ 16 ^ 10 ∷ 16 ^ 9 ∷ 16 ^ 8 ∷ 16 ^ 7 ∷ 16 ^ 6 ∷ 16 ^ 5 ∷ 16 ^ 4 ∷ 16 ^ 3 ∷ 16 ^ 2 ∷ 16 ∷ 1 ∷ [])
