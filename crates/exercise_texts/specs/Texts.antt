-- The texts of the exercise: a number is handed along a chain of instances, each of which adds one, and the last one asks back by a signal where the
-- number is odd (rule of this project).
use Rattle.std.specs.Prelude.{ℕ, zero, suc, ◌+◌, List, [], ◌∷◌, ◌++◌, flat_map, decimal, codes}

-- each line is ended by a line feed
abbrev pub lines : List (List ℕ) → List ℕ
lines texts = flat_map (λ text. text ++ codes "\n") texts

-- the definitions whose interfaces the exercise has, under the stamps 0000000000AA and 0000000000AB; they stand in no file
abbrev pub step_defs_text : List ℕ
step_defs_text = lines (
    codes "StepDefs: DEFINITIONS = BEGIN"
    ∷ codes "Step: PROCEDURE [n: INTEGER] RETURNS [INTEGER]; END."
    ∷ [])

abbrev pub sig_defs_text : List ℕ
sig_defs_text = lines (
    codes "SigDefs: DEFINITIONS = BEGIN"
    ∷ codes "Odd: SIGNAL [n: INTEGER] RETURNS [INTEGER]; END."
    ∷ [])

-- Link.mesa: hands on one more than it was given
abbrev pub link_text : List ℕ
link_text = lines (
    codes "DIRECTORY StepDefs: FROM \"StepDefs\";"
    ∷ codes "Link: PROGRAM IMPORTS StepDefs EXPORTS StepDefs = BEGIN"
    ∷ codes "Step: PUBLIC PROCEDURE [n: INTEGER] RETURNS [INTEGER] ="
    ∷ codes "BEGIN RETURN[StepDefs.Step[n + 1]]; END;"
    ∷ codes "END."
    ∷ [])

-- Last.mesa: gives the number back, or what is answered to its signal
abbrev pub last_text : List ℕ
last_text = lines (
    codes "DIRECTORY StepDefs: FROM \"StepDefs\", SigDefs: FROM \"SigDefs\";"
    ∷ codes "Last: PROGRAM EXPORTS StepDefs, SigDefs = BEGIN"
    ∷ codes "Odd: PUBLIC SIGNAL [n: INTEGER] RETURNS [INTEGER] = CODE;"
    ∷ codes "Step: PUBLIC PROCEDURE [n: INTEGER] RETURNS [INTEGER] ="
    ∷ codes "BEGIN IF n MOD 2 = 1 THEN RETURN[SIGNAL Odd[n]]; RETURN[n]; END;"
    ∷ codes "END."
    ∷ [])

-- Main.mesa: answers the signal by twice the number, and prints what comes back
abbrev pub main_text : List ℕ
main_text = lines (
    codes "DIRECTORY StepDefs: FROM \"StepDefs\", SigDefs: FROM \"SigDefs\","
    ∷ codes "IODefs: FROM \"IODefs\";"
    ∷ codes "Main: PROGRAM IMPORTS StepDefs, SigDefs, IODefs = BEGIN"
    ∷ codes "IODefs.WriteDecimal[StepDefs.Step[0 ! SigDefs.Odd => RESUME[n + n]]];"
    ∷ codes "IODefs.WriteChar[12C];"
    ∷ codes "END."
    ∷ [])

-- the line of a link, from 1 on: it gives its own record, and takes that of the next one
abbrev pub link_line : ℕ → List ℕ
link_line i = codes "[r" ++ (decimal i ++ (codes "] _ a" ++ (decimal i ++ (codes ": Link[r" ++ (decimal (i + 1) ++ codes "];\n")))))

-- the lines of so many links, in their order
unfoldable pub link_lines : ℕ → List ℕ
link_lines zero = []
link_lines (suc links) = link_lines links ++ link_line (suc links)

-- what stands before the links
abbrev pub chain_head : List ℕ
chain_head = codes "Chain: CONFIGURATION IMPORTS IODefs CONTROL Main = BEGIN\n"

-- what stands behind them: the last link takes the record of Last
abbrev pub chain_end : ℕ → List ℕ
chain_end links = codes "[r" ++ (decimal (links + 1) ++ codes ", SigDefs] _ Last;\nMain[r1, SigDefs, IODefs];\nEND.\n")

-- Chain.config
abbrev pub chain_text : ℕ → List ℕ
chain_text links = chain_head ++ (link_lines links ++ chain_end links)
