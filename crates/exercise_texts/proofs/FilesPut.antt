-- A folder into which the files of the exercise are put, one after the other.
use Rattle.std.proofs.Common.{◌≡◌, ℕ, List, [], refl}
use Rattle.std.specs.Prelude.{codes}
use Rattle.mesa_base.specs.Calls.{no_calls}
use Rattle.mesa_base.specs.MemoryFolder.{MemoryFolder, folder_of, with_file}
use Rattle.exercise_texts.specs.Texts.{link_text, last_text, main_text, chain_text}
use Rattle.exercise_texts.specs.Files.{file_of_interface, exercise_list}
use Rattle.exercise_texts.specs.Interfaces.{step_defs, sig_defs}

-- the folder with a file more
abbrev put : MemoryFolder → List ℕ → List ℕ → MemoryFolder
put folder name bytes = record folder { files = with_file folder.files name bytes }

pub all_put : (links : ℕ) (failing step sig link last main chain written : List ℕ) (empty f g h i j k : MemoryFolder)
    → failing ≡ [] → step ≡ file_of_interface step_defs → sig ≡ file_of_interface sig_defs → link ≡ link_text → last ≡ last_text → main ≡ main_text
    → chain ≡ written → written ≡ chain_text links
    → empty ≡ folder_of failing
    → f ≡ put empty (codes "StepDefs.mif") step
    → g ≡ put f (codes "SigDefs.mif") sig
    → h ≡ put g (codes "Link.mesa") link
    → i ≡ put h (codes "Last.mesa") last
    → j ≡ put i (codes "Main.mesa") main
    → k ≡ put j (codes "Chain.config") chain
    → k ≡ record { files = exercise_list links; calls = no_calls []; misses = 0 }
unfolding exercise_list
all_put links failing step sig link last main chain written empty f g h i j k none is_step is_sig is_link is_last is_main same is_chain is_empty is_f is_g is_h is_i is_j is_k =
    rw (is_k, is_j, is_i, is_h, is_g, is_f, is_empty, none, is_step, is_sig, is_link, is_last, is_main, same, is_chain) refl
