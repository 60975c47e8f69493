-- Words of variables and of operands (rule of this project).
use Rattle.std.specs.Prelude.{ℕ, ◌+◌, List, [], ◌∷◌, ◌++◌, length, take, drop, reverse, replicate}
use Rattle.object_files.specs.mesa_types.specs.Longs.{long_of}

-- so many zeros
abbrev pub zeros : ℕ → List ℕ
zeros n = replicate n 0

-- so many words from a slot on; past the last slot they are zeros
abbrev pub words_at : List ℕ → ℕ → ℕ → List ℕ
words_at words slot n = take n (drop slot words ++ zeros n)

-- the words from a slot on are these
abbrev pub put_words : List ℕ → ℕ → List ℕ → List ℕ
put_words words slot new = take slot (words ++ zeros slot) ++ new ++ drop (slot + length new) words

-- operands, after these words were pushed from left to right
abbrev pub push : List ℕ → List ℕ → List ℕ
push [] operands = operands
push (w ∷ words) operands = push words (w ∷ operands)

-- so many operands, in the order in which they were pushed
abbrev pub popped : ℕ → List ℕ → List ℕ
popped n operands = reverse (take n operands)

-- the operands under so many
abbrev pub under : ℕ → List ℕ → List ℕ
under n operands = drop n operands

-- goes on with the topmost operand and those under it
abbrev pub on_top : {A : Type 0} → List ℕ → (ℕ → List ℕ → A) → A
on_top [] k = k 0 []
on_top (x ∷ rest) k = k x rest

-- goes on with the two topmost ones, the one pushed first on the left, and those under them
abbrev pub on_two : {A : Type 0} → List ℕ → (ℕ → ℕ → List ℕ → A) → A
on_two operands k = on_top operands λ y rest. on_top rest λ x more. k x y more

-- goes on with the LONG number whose two words are the topmost operands, the more significant one pushed first, and those under it
abbrev pub on_long : {A : Type 0} → List ℕ → (ℕ → List ℕ → A) → A
on_long operands k = on_two operands λ more less rest. k (long_of more less) rest

-- goes on with two LONG numbers, the one pushed first on the left, and those under them
abbrev pub on_two_longs : {A : Type 0} → List ℕ → (ℕ → ℕ → List ℕ → A) → A
on_two_longs operands k = on_long operands λ y rest. on_long rest λ x more. k x y more
