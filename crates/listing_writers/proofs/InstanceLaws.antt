-- The turns of the loop over the instances of an image, each with the links of its number.
use Rattle.std.proofs.Common.{◌≡◌, ℕ, ◌+◌, ◌<◌, ◌≤◌, List, [], ◌∷◌, ◌++◌, length, take, get_or, sym, ap, ◌∙◌, append_assoc, arith}
use Rattle.std.specs.Prelude.{slice_get}
use Rattle.std.proofs.lemmas.List.{append-nil, length-take-le, take_all, take_more}
use Rattle.object_files.specs.declared.image.Instance.{Instance}
use Rattle.object_files.specs.declared.image.Link.{Link}
use Rattle.listing_rules.specs.Images.{instance_line, table_lines, instances_from}
use Rattle.listing_writers.proofs.Chains.{three}

module _ (every : List Instance) (tables : List (List Link)) where
  -- the lines of an instance of this number
  abbrev lines_at : ℕ → Instance → List ℕ
  lines_at n x = instance_line x ++ table_lines every (slice_get tables n)

  last_instance : (at : ℕ) (xs : List Instance) (x : Instance)
      → instances_from every tables at (xs ++ x ∷ []) ≡ instances_from every tables at xs ++ lines_at (at + length xs) x
  unfolding instances_from
  last_instance at [] x =
      ap (λ (t : List ℕ). instance_line x ++ t) (append-nil (table_lines every (slice_get tables at)))
      ∙ ap (λ (n : ℕ). lines_at n x) (let e : at ≡ at + 0 = omega arith in e)
  last_instance at (y ∷ ys) x =
      let there = table_lines every (slice_get tables at) in
      ap (λ (t : List ℕ). instance_line y ++ (there ++ t)) (last_instance (at + 1) ys x)
      ∙ ap (λ (n : ℕ). instance_line y ++ (there ++ (instances_from every tables (at + 1) ys ++ lines_at n x))) (let e : at + 1 + length ys ≡ at + length (y ∷ ys) = omega arith in e)
      ∙ ap (λ (t : List ℕ). instance_line y ++ t) (sym (append_assoc there (instances_from every tables (at + 1) ys) (lines_at (at + length (y ∷ ys)) x)))
      ∙ sym (append_assoc (instance_line y) (there ++ instances_from every tables (at + 1) ys) (lines_at (at + length (y ∷ ys)) x))

  pub no_instance_yet : (start : List ℕ) (all : List Instance) → start ≡ start ++ instances_from every tables 0 (take 0 all)
  unfolding instances_from
  no_instance_yet start all = sym (append-nil start)

  next_instance : (all : List Instance) (i : ℕ) (x : Instance) → i < length all → x ≡ get_or all i x
      → instances_from every tables 0 (take i all) ++ lines_at i x ≡ instances_from every tables 0 (take (i + 1) all)
  next_instance all i x less is =
      let count : i ≡ 0 + length (take i all) = omega (arith, length-take-le i all (omega arith)) in
      ap (λ (n : ℕ). instances_from every tables 0 (take i all) ++ lines_at n x) count
      ∙ sym (last_instance 0 (take i all) x)
      ∙ ap (λ (y : Instance). instances_from every tables 0 (take i all ++ y ∷ [])) is
      ∙ ap (λ (xs : List Instance). instances_from every tables 0 xs) (sym (take_more all i x less))

  pub instance_more : (start out mid new : List ℕ) (all : List Instance) (i : ℕ) (x : Instance) → i < length all → x ≡ get_or all i x
      → out ≡ start ++ instances_from every tables 0 (take i all) → mid ≡ out ++ instance_line x → new ≡ mid ++ table_lines every (slice_get tables i)
      → new ≡ start ++ instances_from every tables 0 (take (i + 1) all)
  instance_more start out mid new all i x less is so first second =
      three start out mid new (instances_from every tables 0 (take i all)) (instance_line x) (table_lines every (slice_get tables i)) so first second
      ∙ ap (λ (t : List ℕ). start ++ t) (next_instance all i x less is)

  pub instances_done : (start out : List ℕ) (all : List Instance) (i : ℕ) → all ≡ every → length all ≤ i
      → out ≡ start ++ instances_from every tables 0 (take i all) → out ≡ start ++ instances_from every tables 0 every
  instances_done start out all i same past so =
      so ∙ ap (λ (xs : List Instance). start ++ instances_from every tables 0 xs) (take_all i all past ∙ same)
