-- Where a procedure's variables lie, and the instructions that read and write them and their parts (rule of this project). Variables
-- lie one behind the other in order: parameters, results, then those of blocks and arms, each in slots of its own; globals alike.
-- Behind the variables of a procedure lie 16 scratch words, then its hidden words in the order of the text: three for each FOR or
-- THROUGH and one for each SELECT, or two where its selector is LONG, each in a slot of its own.
use Rattle.std.specs.Prelude.{ℕ, zero, suc, ◌+◌, List, [], ◌∷◌}
use Rattle.mesa_types.specs.declared.typed_parts.Home.{Home}
use Rattle.mesa_types.specs.declared.typed_parts.Home.TheVariants.{Global, Local}
use Rattle.mesa_types.specs.Typed.{Kinds, NoKinds, AndKind, Exprs, NoExprs, AndExpr, Suffixes, NoSuffix, Field, Index}
use Rattle.mesa_types.specs.Shapes.{words_in, words_before}
use Rattle.mesa_types.specs.Counts.{words_of}
use Rattle.code_forms.specs.declared.instruction.Instruction.{Instruction}
use Rattle.code_forms.specs.declared.instruction.Instruction.TheVariants.{LoadL, StoreL, LoadG, StoreG, LoadLX, StoreLX, LoadGX, StoreGX, ZeroL, ZeroG}
use Rattle.code_rules.specs.Reading.{Coded}
use Rattle.code_rules.specs.OwnCode.{pop_code}

-- the words of the variable of a number, and of so many variables from one on
abbrev pub words_at : Kinds → ℕ → ℕ
words_at NoKinds n = 0
words_at (AndKind k ks) zero = words_in k
words_at (AndKind k ks) (suc n) = words_at ks n

abbrev pub words_from : Kinds → (first count : ℕ) → ℕ
words_from ks first zero = 0
words_from ks first (suc count) = words_at ks first + words_from ks (suc first) count

-- the slot of a variable of the frame, and of a global
abbrev pub local_slot : Coded → ℕ → ℕ
local_slot P n = words_before P.locals n

abbrev pub global_slot : Coded → ℕ → ℕ
global_slot P n = words_before P.globals n

-- so many words of a variable, from some offset in it on
abbrev pub load : Coded → Home → (offset words : ℕ) → Instruction
load P (Local n) offset words = LoadL (local_slot P n + offset) words
load P (Global n) offset words = LoadG (global_slot P n + offset) words

abbrev pub store : Coded → Home → (offset words : ℕ) → Instruction
store P (Local n) offset words = StoreL (local_slot P n + offset) words
store P (Global n) offset words = StoreG (global_slot P n + offset) words

-- from the offset on the operand stack on, within the variable
abbrev pub load_within : Coded → Home → (words : ℕ) → Instruction
load_within P (Local n) words = LoadLX (local_slot P n) (words_at P.locals n) words
load_within P (Global n) words = LoadGX (global_slot P n) (words_at P.globals n) words

abbrev pub store_within : Coded → Home → (words : ℕ) → Instruction
store_within P (Local n) words = StoreLX (local_slot P n) (words_at P.locals n) words
store_within P (Global n) words = StoreGX (global_slot P n) (words_at P.globals n) words

abbrev pub clear : Coded → Home → (words : ℕ) → Instruction
clear P (Local n) words = ZeroL (local_slot P n) words
clear P (Global n) words = ZeroG (global_slot P n) words

-- the words of the fields among suffixes, and whether there is an index among them
abbrev pub fields_of : Suffixes → ℕ
fields_of NoSuffix = 0
fields_of (Field n offset s) = offset + fields_of s
fields_of (Index r first n words e s) = fields_of s

abbrev pub HasIndex : Suffixes → Type 0
HasIndex NoSuffix = ⊥
HasIndex (Field n offset s) = HasIndex s
HasIndex (Index r first n words e s) = Unit {0}

abbrev pub HasNoIndex : Suffixes → Type 0
HasNoIndex NoSuffix = Unit {0}
HasNoIndex (Field n offset s) = HasNoIndex s
HasNoIndex (Index r first n words e s) = ⊥

-- Declared variables.

-- each is set to zero
abbrev pub zero_code : Coded → List Home → (words : ℕ) → List Instruction
zero_code P [] words = []
zero_code P (h ∷ hs) words = clear P h words ∷ zero_code P hs words

-- each is set to the first one's value
abbrev pub copy_code : Coded → Home → List Home → (words : ℕ) → List Instruction
copy_code P first [] words = []
copy_code P first (h ∷ hs) words = load P first 0 words ∷ store P h 0 words ∷ copy_code P first hs words

-- each is set to the value on the operand stack
abbrev pub spread_code : Coded → List Home → (words : ℕ) → List Instruction
spread_code P [] words = pop_code words
spread_code P (h ∷ hs) words = store P h 0 words ∷ copy_code P h hs words

-- the words of each of some values
abbrev pub sizes : Exprs → List ℕ
sizes NoExprs = []
sizes (AndExpr e es) = words_of e ∷ sizes es
