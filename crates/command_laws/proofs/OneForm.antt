-- A command line has one form at most.
use Rattle.std.proofs.Common.{◌≡◌, ℕ, ◌<◌, ◌≤◌, ◌^◌, List, [], ◌∷◌, ◌++◌, length, nat_eq, Some, codes, decimal, refl, sym, ◌∙◌, ap, subst, arith}
use Rattle.std.specs.Prelude.{if◌then◌else◌}
use Rattle.std.proofs.lemmas.Fmt.{decimal_injective}
use Rattle.std.proofs.lemmas.List.{append_cancel_right}
use Rattle.std.proofs.lemmas.Option.{same_Some}
use Rattle.mesa_base.specs.Stamp.{stamp_of}
use Rattle.command_rules.specs.Forms.{Source, OfModule, OfConfig, source_file, FileKind, InterfaceFile, ObjectFile, ImageFile, kind_file, most_links, Form, Compile, Define, Bind, Run, Go, Show, Upgrade, Exercise, Plan, Survey, HasForm, compile, define, bind, run, go, list, upgrade, exercise, plan, survey}

-- ---- the names of files

last_or : ℕ → List ℕ → ℕ
last_or d [] = d
last_or d (x ∷ xs) = last_or x xs

last_behind : (xs : List ℕ) (d y : ℕ) (ys : List ℕ) → last_or d (xs ++ y ∷ ys) ≡ last_or y ys
unfolding last_or
last_behind [] d y ys = refl
last_behind (x ∷ xs) d y ys = last_behind xs x y ys

differ : ◌≡◌ {A = ℕ} 97 103 → ⊥
differ e = omega (arith, e)

-- their last letters differ
no_both : (a b : List ℕ) → a ++ codes ".mesa" ≡ b ++ codes ".config" → ⊥
unfolding last_or
no_both a b e = differ (sym (last_behind a 0 46 (codes "mesa")) ∙ ap (last_or 0) e ∙ last_behind b 0 46 (codes "config"))

same_file : (s t : Source) (a b : List ℕ) → source_file s a ≡ source_file t b → (s ≡ t) × (a ≡ b)
same_file OfModule OfModule a b e = (refl, append_cancel_right a b (codes ".mesa") e)
same_file OfModule OfConfig a b e = absurd (no_both a b e)
same_file OfConfig OfModule a b e = absurd (no_both b a (sym e))
same_file OfConfig OfConfig a b e = (refl, append_cancel_right a b (codes ".config") e)

-- the kind of a file that is listed or upgraded, by its last letter
kind_at : ℕ → FileKind
kind_at last = if nat_eq last 102 then InterfaceFile else (if nat_eq last 98 then ObjectFile else ImageFile)

kind_told : (kind : FileKind) (base : List ℕ) → kind_at (last_or 0 (kind_file kind base)) ≡ kind
unfolding kind_at last_or
kind_told InterfaceFile base = ap kind_at (last_behind base 0 46 (codes "mif"))
kind_told ObjectFile base = ap kind_at (last_behind base 0 46 (codes "mob"))
kind_told ImageFile base = ap kind_at (last_behind base 0 46 (codes "mim"))

base_told : (kind : FileKind) (a b : List ℕ) → kind_file kind a ≡ kind_file kind b → a ≡ b
base_told InterfaceFile a b e = append_cancel_right a b (codes ".mif") e
base_told ObjectFile a b e = append_cancel_right a b (codes ".mob") e
base_told ImageFile a b e = append_cancel_right a b (codes ".mim") e

same_kind : (s t : FileKind) (a b : List ℕ) → kind_file s a ≡ kind_file t b → (s ≡ t) × (a ≡ b)
same_kind s t a b e =
    let k : s ≡ t = sym (kind_told s a) ∙ ap (λ f. kind_at (last_or 0 f)) e ∙ kind_told t b in
    (k, base_told t a b (subst (λ z. kind_file z a ≡ kind_file t b) k e))

-- ---- words

first : List (List ℕ) → List ℕ
first [] = []
first (a ∷ rest) = a

second : List (List ℕ) → List ℕ
second [] = []
second (a ∷ rest) = first rest

third : List (List ℕ) → List ℕ
third [] = []
third (a ∷ rest) = second rest

others : List (List ℕ) → List (List ℕ)
others [] = []
others (a ∷ rest) = rest

-- the last word, and those before it
front : List (List ℕ) → List (List ℕ)
front [] = []
front (a ∷ []) = []
front (a ∷ b ∷ rest) = a ∷ front (b ∷ rest)

last_word : List (List ℕ) → List ℕ
last_word [] = []
last_word (a ∷ []) = a
last_word (a ∷ b ∷ rest) = last_word (b ∷ rest)

front_of : (xs : List (List ℕ)) (x : List ℕ) → front (xs ++ x ∷ []) ≡ xs
unfolding front
front_of [] x = refl
front_of (a ∷ []) x = refl
front_of (a ∷ b ∷ rest) x = ap (λ l. a ∷ l) (front_of (b ∷ rest) x)

last_of : (xs : List (List ℕ)) (x : List ℕ) → last_word (xs ++ x ∷ []) ≡ x
unfolding last_word
last_of [] x = refl
last_of (a ∷ []) x = refl
last_of (a ∷ b ∷ rest) x = last_of (b ∷ rest) x

same_ends : (xs ys : List (List ℕ)) (x y : List ℕ) → xs ++ x ∷ [] ≡ ys ++ y ∷ [] → (xs ≡ ys) × (x ≡ y)
same_ends xs ys x y e = (sym (front_of xs x) ∙ ap front e ∙ front_of ys y, sym (last_of xs x) ∙ ap last_word e ∙ last_of ys y)

data Said (words : List (List ℕ)) : Form → Type 0 where
  is_compile : (base : List ℕ) → words ≡ codes "compile" ∷ base ∷ [] → Said words (Compile base)
  is_define : (base word : List ℕ) (stamp : ℕ) → words ≡ codes "compile" ∷ base ∷ word ∷ [] → stamp_of word ≡ Some stamp → Said words (Define base stamp)
  is_bind : (base : List ℕ) → words ≡ codes "bind" ∷ base ∷ [] → Said words (Bind base)
  is_run : (bases : List (List ℕ)) (turns : ℕ) → words ≡ codes "run" ∷ bases ++ decimal turns ∷ [] → turns < 2 ^ 64 → Said words (Run bases turns)
  is_go : (source : Source) (base : List ℕ) (turns : ℕ) → words ≡ codes "go" ∷ source_file source base ∷ decimal turns ∷ [] → turns < 2 ^ 64
      → Said words (Go source base turns)
  is_list : (kind : FileKind) (base : List ℕ) → words ≡ codes "list" ∷ kind_file kind base ∷ [] → Said words (Show kind base)
  is_upgrade : (kind : FileKind) (base : List ℕ) → words ≡ codes "upgrade" ∷ kind_file kind base ∷ [] → Said words (Upgrade kind base)
  is_exercise : (links turns : ℕ) → words ≡ codes "exercise" ∷ decimal links ∷ decimal turns ∷ [] → links < 2 ^ 64 → turns < 2 ^ 64
      → Said words (Exercise links turns)
  is_plan : (bases : List (List ℕ)) → words ≡ codes "plan" ∷ bases → Said words (Plan bases)
  is_survey : (base : List ℕ) → words ≡ codes "survey" ∷ base ∷ [] → Said words (Survey base)

few_links : (links : ℕ) → links ≤ most_links → links < 2 ^ 64
few_links links few = omega (arith, few)

said : (words : List (List ℕ)) (form : Form) → HasForm words form → Said words form
said words form (compile base is) = is_compile base refl
said words form (define base word stamp is told) = is_define base word stamp refl told
said words form (bind base is) = is_bind base refl
said words form (run bases turns some most are few) = is_run bases turns refl few
said words form (go source base turns is few) = is_go source base turns refl few
said words form (list kind base is) = is_list kind base refl
said words form (upgrade kind base is) = is_upgrade kind base refl
said words form (exercise links turns some most few) = is_exercise links turns refl (few_links links most) few
said words form (plan bases some most all distinct) = is_plan bases refl
said words form (survey base is) = is_survey base refl

-- ---- forms of two kinds differ in the first word, or in how many words there are

data Kind : Type 0 where
  Compiles : Kind
  Defines : Kind
  Binds : Kind
  Runs : Kind
  Goes : Kind
  Shows : Kind
  Upgrades : Kind
  Exercises : Kind
  Plans : Kind
  Surveys : Kind

kind_of : Form → Kind
kind_of (Compile base) = Compiles
kind_of (Define base stamp) = Defines
kind_of (Bind base) = Binds
kind_of (Run bases turns) = Runs
kind_of (Go source base turns) = Goes
kind_of (Show kind base) = Shows
kind_of (Upgrade kind base) = Upgrades
kind_of (Exercise links turns) = Exercises
kind_of (Plan bases) = Plans
kind_of (Survey base) = Surveys

first_letter : List ℕ → ℕ
first_letter [] = 0
first_letter (x ∷ xs) = x

letter : List (List ℕ) → ℕ
letter words = first_letter (first words)

-- by the first letter of the first word, and how many words there are
kind_by : (letter many : ℕ) → Kind
kind_by letter many =
    if nat_eq letter 99 then (if nat_eq many 2 then Compiles else Defines)
    else (if nat_eq letter 98 then Binds
    else (if nat_eq letter 114 then Runs
    else (if nat_eq letter 103 then Goes
    else (if nat_eq letter 108 then Shows
    else (if nat_eq letter 117 then Upgrades
    else (if nat_eq letter 112 then Plans
    else (if nat_eq letter 115 then Surveys else Exercises)))))))

its_kind : (words : List (List ℕ)) (f : Form) → Said words f → kind_by (letter words) (length words) ≡ kind_of f
unfolding kind_of kind_by letter first first_letter
its_kind words f (is_compile base e) = ap (λ w. kind_by (letter w) (length w)) e
its_kind words f (is_define base word stamp e told) = ap (λ w. kind_by (letter w) (length w)) e
its_kind words f (is_bind base e) = ap (λ w. kind_by (letter w) (length w)) e
its_kind words f (is_run bases turns e few) = ap (λ w. kind_by (letter w) (length w)) e
its_kind words f (is_go source base turns e few) = ap (λ w. kind_by (letter w) (length w)) e
its_kind words f (is_list kind base e) = ap (λ w. kind_by (letter w) (length w)) e
its_kind words f (is_upgrade kind base e) = ap (λ w. kind_by (letter w) (length w)) e
its_kind words f (is_exercise links turns e some few) = ap (λ w. kind_by (letter w) (length w)) e
its_kind words f (is_plan bases e) = ap (λ w. kind_by (letter w) (length w)) e
its_kind words f (is_survey base e) = ap (λ w. kind_by (letter w) (length w)) e

one_kind : (words : List (List ℕ)) (f g : Form) → Said words f → Said words g → kind_of f ≡ kind_of g
one_kind words f g x y = sym (its_kind words f x) ∙ its_kind words g y

go_is : (s t : Source) (a b : List ℕ) (n m : ℕ) → (s ≡ t) × (a ≡ b) → n ≡ m → Go s a n ≡ Go t b m
go_is s t a b n m p e = ap (λ z. Go z a n) p.0 ∙ ap (λ z. Go t z n) p.1 ∙ ap (λ z. Go t b z) e

one_said : (words : List (List ℕ)) (f g : Form) → Said words f → Said words g → kind_of f ≡ kind_of g → f ≡ g
unfolding first second third others kind_of
one_said words f g (is_compile a e) (is_compile b d) same = ap Compile (ap second (sym e ∙ d))
one_said words f g (is_define a v n e told) (is_define b w m d also) same =
    ap (λ z. Define z n) (ap second (sym e ∙ d)) ∙ ap (Define b) (same_Some n m (sym told ∙ ap stamp_of (ap third (sym e ∙ d)) ∙ also))
one_said words f g (is_bind a e) (is_bind b d) same = ap Bind (ap second (sym e ∙ d))
one_said words f g (is_run xs n e few) (is_run ys m d less) same =
    let both = same_ends xs ys (decimal n) (decimal m) (ap others (sym e ∙ d)) in
    ap (λ z. Run z n) both.0 ∙ ap (Run ys) (decimal_injective n m few less both.1)
one_said words f g (is_go s a n e few) (is_go t b m d less) same =
    go_is s t a b n m (same_file s t a b (ap second (sym e ∙ d))) (decimal_injective n m few less (ap third (sym e ∙ d)))
one_said words f g (is_list s a e) (is_list t b d) same =
    let p = same_kind s t a b (ap second (sym e ∙ d)) in ap (λ z. Show z a) p.0 ∙ ap (Show t) p.1
one_said words f g (is_upgrade s a e) (is_upgrade t b d) same =
    let p = same_kind s t a b (ap second (sym e ∙ d)) in ap (λ z. Upgrade z a) p.0 ∙ ap (Upgrade t) p.1
one_said words f g (is_exercise l n e few less) (is_exercise k m d one some) same =
    ap (λ z. Exercise z n) (decimal_injective l k few one (ap second (sym e ∙ d)))
    ∙ ap (λ z. Exercise k z) (decimal_injective n m less some (ap third (sym e ∙ d)))
one_said words f g (is_plan a e) (is_plan b d) same = ap Plan (ap others (sym e ∙ d))
one_said words f g (is_survey a e) (is_survey b d) same = ap Survey (ap second (sym e ∙ d))
one_said words f g x y same = cc

pub one_form : (words : List (List ℕ)) (f g : Form) → HasForm words f → HasForm words g → f ≡ g
one_form words f g x y =
    let a = said words f x in let b = said words g y in
    one_said words f g a b (one_kind words f g a b)
