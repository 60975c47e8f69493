-- A call that compiles texts has one size sum.
use Rattle.std.proofs.Common.{◌≡◌, ℕ, List, [], ◌∷◌, refl, sym, ◌∙◌, ap, ap₂, subst}
use Rattle.std.specs.List.{AllZip}
use Rattle.mesa_base.specs.Outside.{Files}
use Rattle.mesa_types.specs.Typed.{Module}
use Rattle.image_sizes.specs.Trees.{size_sum}
use Rattle.command_rules.specs.Configurations.{Configured, source_in}
use Rattle.command_rules.specs.Exercise.{chain}
use Rattle.command_rules.specs.Forms.{Form, Source, OfConfig, Compile, Define, Bind, Run, Go, Show, Upgrade, Exercise, Plan, Survey, module_file}
use Rattle.command_laws.proofs.Came.{same_value}
use Rattle.exercise_texts.specs.Files.{exercise_files}
use Rattle.command_sizes.specs.Grounds.{Grounds}
use Rattle.command_sizes.specs.Laws.{HasGoTexts, HasTexts, SumsAreTold}
use Rattle.command_sizes.specs.Sum.{HasGoSum, HasSize, HasSum, IsSizeSum, size_with}
use Rattle.command_sizes.proofs.Configuring.{IsFrom}
use Rattle.command_sizes.proofs.Reading.{IsMade}
use Rattle.command_sizes.proofs.Short.{some_is, one_tree}
use Rattle.command_sizes.proofs.Known.{from_file, knows}

-- a module that comes of a file has a text with a size
size_of : (files : Files) (base : List ℕ) (m : Module) → IsMade files (module_file base) m → (size : ℕ) × HasSize files base size
size_of files base m x = (size_with files x.text x.tree, record { text = x.text; tree = x.tree; held = x.held; begins = x.begins; is = refl })

module _ (grounds : Grounds) (files : Files) where
  sizes_of : (bases : List (List ℕ)) (ms : List Module) → AllZip (IsFrom files) bases ms → (sizes : List ℕ) × AllZip (HasSize files) bases sizes
  sizes_of [] [] h = ([], tt)
  sizes_of [] (m ∷ ms) h = absurd h
  sizes_of (b ∷ bases) [] h = absurd h
  sizes_of (b ∷ bases) (m ∷ ms) h =
      let first = size_of files b m (from_file grounds files b m h.0) in
      let more = sizes_of bases ms h.1 in
      (first.0 ∷ more.0, (first.1, more.1))

  pub sum_of : (c : Configured) → AllZip (IsFrom files) c.bases c.modules → (sum : ℕ) × HasSum files c sum
  sum_of c h = let s = sizes_of c.bases c.modules h in (size_sum c.tree s.0, record { sizes = s.0; their = s.1; is = refl })

  one_size : (base : List ℕ) (a b : ℕ) → HasSize files base a → HasSize files base b → a ≡ b
  one_size base a b x y =
      let text : x.text ≡ y.text = some_is x.text y.text (sym x.held ∙ y.held) in
      let tree = one_tree grounds.texts x.text y.text x.tree y.tree text x.begins y.begins in
      x.is ∙ ap (λ t. size_with files t x.tree) text ∙ ap (size_with files y.text) tree ∙ sym y.is

  one_list : (bases : List (List ℕ)) (xs ys : List ℕ) → AllZip (HasSize files) bases xs → AllZip (HasSize files) bases ys → xs ≡ ys
  one_list [] [] [] h k = refl
  one_list [] [] (y ∷ ys) h k = absurd k
  one_list [] (x ∷ xs) ys h k = absurd h
  one_list (b ∷ bases) [] ys h k = absurd h
  one_list (b ∷ bases) (x ∷ xs) [] h k = absurd k
  one_list (b ∷ bases) (x ∷ xs) (y ∷ ys) h k = ap₂ (λ z zs. z ∷ zs) (one_size b x y h.0 k.0) (one_list bases xs ys h.1 k.1)

  one_sum : (c d : Configured) (a b : ℕ) → c ≡ d → HasSum files c a → HasSum files d b → a ≡ b
  one_sum c d a b e x y =
      let z = subst (λ (k : Configured). HasSum files k a) e x in
      z.is ∙ ap (size_sum d.tree) (one_list d.bases z.sizes y.sizes z.their y.their) ∙ sym y.is

module _ (grounds : Grounds) where
  one_go : (source : Source) (base : List ℕ) (files : Files) (a b : ℕ) → HasGoSum source base files a → HasGoSum source base files b → a ≡ b
  one_go source base files a b x y =
      one_sum grounds files x.1 y.1 a b
      (same_value (source_in source base) files x.1 y.1 (grounds.exact.sources source base) (record { trail = x.0; comes = x.2 }) (record { trail = y.0; comes = y.2 })) x.3 y.3

  some_go : (source : Source) (base : List ℕ) (files : Files) → HasGoTexts source base files → (sum : ℕ) × HasGoSum source base files sum
  some_go source base files it =
      let s = sum_of grounds files it.1 (knows grounds source base files it.0 it.1 it.2).modules in
      (s.0, (it.0, it.1, it.2, s.1))

  one : (form : Form) (files : Files) (sum other : ℕ) → IsSizeSum form files sum → IsSizeSum form files other → sum ≡ other
  one (Compile base) files a b x y = one_size grounds files base a b x y
  one (Define base stamp) files a b x y = absurd x
  one (Bind base) files a b x y = absurd x
  one (Run bases turns) files a b x y = absurd x
  one (Go source base turns) files a b x y = one_go source base files a b x y
  one (Show kind base) files a b x y = absurd x
  one (Upgrade kind base) files a b x y = absurd x
  one (Exercise links turns) files a b x y = one_go OfConfig chain (exercise_files links) a b x y
  one (Plan bases) files a b x y = absurd x
  one (Survey base) files a b x y = absurd x

  some : (form : Form) (files : Files) → HasTexts form files → (sum : ℕ) × IsSizeSum form files sum
  some (Compile base) files it = size_of files base it.1 (from_file grounds files base it.1 (record { trail = it.0; comes = it.2 }))
  some (Define base stamp) files it = absurd it
  some (Bind base) files it = absurd it
  some (Run bases turns) files it = absurd it
  some (Go source base turns) files it = some_go source base files it
  some (Show kind base) files it = absurd it
  some (Upgrade kind base) files it = absurd it
  some (Exercise links turns) files it = some_go OfConfig chain (exercise_files links) it
  some (Plan bases) files it = absurd it
  some (Survey base) files it = absurd it

  pub sums_are_told : SumsAreTold
  sums_are_told = record { some = some; one = one }
