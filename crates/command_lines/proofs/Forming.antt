-- Which words are those of a form.
use Rattle.std.proofs.Common.{◌≡◌, ℕ, ◌<◌, ◌≤◌, ◌^◌, true, List, [], ◌∷◌, sym, subst, codes, decimal}
use Rattle.config_rules.specs.Components.{is_file_base}
use Rattle.command_passes.specs.command_rules.specs.Forms.{Source, source_file, FileKind, kind_file, most_links, Go, Show, Upgrade, Exercise, HasForm, go, list, upgrade, exercise}

-- go NAME.mesa TURNS, go NAME.config TURNS
pub has_go : (name count : List ℕ) (source : Source) (base : List ℕ) (turns : ℕ) → is_file_base base ≡ true → turns < 2 ^ 64
    → name ≡ source_file source base → count ≡ decimal turns → HasForm (codes "go" ∷ name ∷ count ∷ []) (Go source base turns)
has_go name count source base turns named bounded e f =
    subst (λ n. HasForm (codes "go" ∷ n ∷ count ∷ []) (Go source base turns)) (sym e)
    (subst (λ m. HasForm (codes "go" ∷ source_file source base ∷ m ∷ []) (Go source base turns)) (sym f) (go source base turns named bounded))

-- list FILE
pub has_list : (name : List ℕ) (kind : FileKind) (base : List ℕ) → is_file_base base ≡ true → name ≡ kind_file kind base
    → HasForm (codes "list" ∷ name ∷ []) (Show kind base)
has_list name kind base named e = subst (λ n. HasForm (codes "list" ∷ n ∷ []) (Show kind base)) (sym e) (list kind base named)

-- upgrade FILE
pub has_upgrade : (name : List ℕ) (kind : FileKind) (base : List ℕ) → is_file_base base ≡ true → name ≡ kind_file kind base
    → HasForm (codes "upgrade" ∷ name ∷ []) (Upgrade kind base)
has_upgrade name kind base named e = subst (λ n. HasForm (codes "upgrade" ∷ n ∷ []) (Upgrade kind base)) (sym e) (upgrade kind base named)

-- exercise N TURNS
pub has_exercise : (number count : List ℕ) (links turns : ℕ) → 1 ≤ links → links ≤ most_links → turns < 2 ^ 64 → number ≡ decimal links
    → count ≡ decimal turns → HasForm (codes "exercise" ∷ number ∷ count ∷ []) (Exercise links turns)
has_exercise number count links turns some few bounded e f =
    subst (λ n. HasForm (codes "exercise" ∷ n ∷ count ∷ []) (Exercise links turns)) (sym e)
    (subst (λ m. HasForm (codes "exercise" ∷ decimal links ∷ m ∷ []) (Exercise links turns)) (sym f) (exercise links turns some few bounded))
