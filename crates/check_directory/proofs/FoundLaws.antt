-- The interfaces that a list names, one after the other.
use Rattle.std.proofs.Common.{◌≡◌, ℕ, ◌+◌, ◌<◌, ◌≤◌, List, [], ◌∷◌, ◌++◌, drop, length, get_or, Option, Some, None, option_map, refl, sym, ap, ◌∙◌}
use Rattle.std.specs.Option.{option_copied}
use Rattle.std.proofs.lemmas.List.{append-nil, drop_all}
use denote.Ref.{Bor}
use Rattle.mesa_base.specs.declared.identifier.Identifier.{Identifier}
use Rattle.syntax_trees.specs.declared.syntax.DirectoryItem.{DirectoryItem}
use Rattle.interface_records.specs.declared.interface.Interface.{Interface}
use Rattle.check_rules.specs.Directory.{interface_at, names_in, place_in, put_some, those_of}
use Rattle.interface_records.specs.PlainTypes.{PlainInterface, plain_interface}
use Rattle.check_directory.specs.Interfaces.{found}
use Rattle.check_directory.proofs.PlaceLaws.{at_drop}

abbrev plain_of : Option (Bor Interface) → Option PlainInterface
plain_of o = option_map plain_interface (option_copied o)

more : (those : List (Bor Interface)) (i : Bor Interface) (rest : List PlainInterface) → found those ++ plain_interface i.now ∷ rest ≡ found (those ++ i ∷ []) ++ rest
more [] i rest = refl
more (j ∷ those) i rest = ap (λ is. plain_interface j.now ∷ is) (more those i rest)

module _ (ds : List DirectoryItem) (is : List PlainInterface) (those : List (Bor Interface)) (xs : List Identifier) (n : ℕ) where
  at : (x : Identifier) (o : Option PlainInterface) → n < length xs → x ≡ get_or xs n x → o ≡ interface_at is (place_in 0 (names_in ds) x.name)
      → found those ++ those_of ds is (drop n xs) ≡ found those ++ put_some o (those_of ds is (drop (n + 1) xs))
  unfolding those_of
  at x o inside here h =
      ap (λ ys. found those ++ those_of ds is ys) (at_drop xs n x inside here)
      ∙ ap (λ p. found those ++ put_some p (those_of ds is (drop (n + 1) xs))) (sym h)

  pub one_found : (longer : List (Bor Interface)) (x : Identifier) (i : Bor Interface) → n < length xs → x ≡ get_or xs n x → longer ≡ those ++ i ∷ []
      → plain_of (Some i) ≡ interface_at is (place_in 0 (names_in ds) x.name)
      → found those ++ those_of ds is (drop n xs) ≡ found longer ++ those_of ds is (drop (n + 1) xs)
  one_found longer x i inside here l h =
      at x (Some (plain_interface i.now)) inside here h
      ∙ more those i (those_of ds is (drop (n + 1) xs))
      ∙ ap (λ fs. found fs ++ those_of ds is (drop (n + 1) xs)) (sym l)

  pub none_found : (same : List (Bor Interface)) (x : Identifier) → n < length xs → x ≡ get_or xs n x → same ≡ those → None ≡ interface_at is (place_in 0 (names_in ds) x.name)
      → found those ++ those_of ds is (drop n xs) ≡ found same ++ those_of ds is (drop (n + 1) xs)
  none_found same x inside here l h = at x None inside here h ∙ ap (λ fs. found fs ++ those_of ds is (drop (n + 1) xs)) (sym l)

  pub found_end : length xs ≤ n → found those ++ those_of ds is (drop n xs) ≡ found those
  unfolding those_of
  found_end outside = ap (λ ys. found those ++ those_of ds is ys) (drop_all n xs outside) ∙ append-nil (found those)
