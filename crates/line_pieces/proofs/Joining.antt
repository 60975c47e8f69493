-- The pieces of a line, one after the other.
use Rattle.std.proofs.Common.{◌≡◌, ℕ, zero, suc, ◌+◌, ◌<◌, ◌≤◌, List, [], ◌∷◌, ◌++◌, length, take, drop, get_or, flat_map, refl, sym, ap, ◌∙◌, append_assoc, append-nil, arith}
use Rattle.line_pieces.specs.declared.pieces.Piece.{Piece}
use Rattle.line_pieces.specs.Joined.{bytes_of, joined}
use Rattle.line_pieces.specs.Texts.{path_text, with_dot}

-- ---- pieces

joined-taken : (ps : List Piece) (i : ℕ) (p : Piece) → i < length ps → p ≡ get_or ps i p → joined (take (suc i) ps) ≡ joined (take i ps) ++ bytes_of p
joined-taken [] i p h is = absurd (omega arith)
joined-taken (q ∷ ps) zero p h is = append-nil (bytes_of q) ∙ ap bytes_of (sym is)
joined-taken (q ∷ ps) (suc i) p h is = ap (λ z. bytes_of q ++ z) (joined-taken ps i p (omega arith) is) ∙ sym (append_assoc (bytes_of q) (joined (take i ps)) (bytes_of p))

pub joined-next : (ps : List Piece) (i : ℕ) (p : Piece) → i < length ps → p ≡ get_or ps i p → joined (take (i + 1) ps) ≡ joined (take i ps) ++ bytes_of p
joined-next ps i p h is = let e : i + 1 ≡ suc i = omega arith in ap (λ n. joined (take n ps)) e ∙ joined-taken ps i p h is

pub joined-split : (ps : List Piece) (i : ℕ) (p : Piece) → i < length ps → p ≡ get_or ps i p
    → joined ps ≡ joined (take i ps) ++ (bytes_of p ++ joined (drop (suc i) ps))
joined-split [] i p h is = absurd (omega arith)
joined-split (q ∷ ps) zero p h is = ap (λ x. bytes_of x ++ joined ps) (sym is)
joined-split (q ∷ ps) (suc i) p h is =
    ap (λ z. bytes_of q ++ z) (joined-split ps i p (omega arith) is) ∙ sym (append_assoc (bytes_of q) (joined (take i ps)) (bytes_of p ++ joined (drop (suc i) ps)))

pub joined-whole : (ps : List Piece) (i : ℕ) → i ≤ length ps → length ps ≤ i → joined (take i ps) ≡ joined ps
joined-whole [] zero h k = refl
joined-whole [] (suc i) h k = refl
joined-whole (p ∷ ps) zero h k = absurd (omega arith)
joined-whole (p ∷ ps) (suc i) h k = ap (λ z. bytes_of p ++ z) (joined-whole ps i (omega arith) (omega arith))

-- ---- names, each with something beside it

module _ (f : List ℕ → List ℕ) where
  names-taken : (xs : List (List ℕ)) (i : ℕ) (x : List ℕ) → i < length xs → x ≡ get_or xs i x
      → flat_map f (take (suc i) xs) ≡ flat_map f (take i xs) ++ f x
  names-taken [] i x h is = absurd (omega arith)
  names-taken (y ∷ xs) zero x h is = append-nil (f y) ∙ ap f (sym is)
  names-taken (y ∷ xs) (suc i) x h is =
      ap (λ z. f y ++ z) (names-taken xs i x (omega arith) is) ∙ sym (append_assoc (f y) (flat_map f (take i xs)) (f x))

  pub names-next : (xs : List (List ℕ)) (i : ℕ) (x : List ℕ) → i < length xs → x ≡ get_or xs i x
      → flat_map f (take (i + 1) xs) ≡ flat_map f (take i xs) ++ f x
  names-next xs i x h is = let e : i + 1 ≡ suc i = omega arith in ap (λ n. flat_map f (take n xs)) e ∙ names-taken xs i x h is

  pub names-split : (xs : List (List ℕ)) (i : ℕ) (x : List ℕ) → i < length xs → x ≡ get_or xs i x
      → flat_map f xs ≡ flat_map f (take i xs) ++ (f x ++ flat_map f (drop (suc i) xs))
  names-split [] i x h is = absurd (omega arith)
  names-split (y ∷ xs) zero x h is = ap (λ z. f z ++ flat_map f xs) (sym is)
  names-split (y ∷ xs) (suc i) x h is =
      ap (λ z. f y ++ z) (names-split xs i x (omega arith) is)
      ∙ sym (append_assoc (f y) (flat_map f (take i xs)) (f x ++ flat_map f (drop (suc i) xs)))

  pub names-whole : (xs : List (List ℕ)) (i : ℕ) → i ≤ length xs → length xs ≤ i → flat_map f (take i xs) ≡ flat_map f xs
  names-whole [] zero h k = refl
  names-whole [] (suc i) h k = refl
  names-whole (x ∷ xs) zero h k = absurd (omega arith)
  names-whole (x ∷ xs) (suc i) h k = ap (λ z. f x ++ z) (names-whole xs i (omega arith) (omega arith))

-- a path is its names but the last, each with a dot behind it, and the last
pub path-last : (xs : List (List ℕ)) (x : List ℕ) → path_text (xs ++ x ∷ []) ≡ flat_map with_dot xs ++ x
path-last [] x = refl
path-last (y ∷ []) x = ap (λ z. z ++ x) (sym (append-nil (with_dot y)))
path-last (y ∷ z ∷ zs) x = ap (λ t. with_dot y ++ t) (path-last (z ∷ zs) x) ∙ sym (append_assoc (with_dot y) (flat_map with_dot (z ∷ zs)) x)

pub path-is : (path before : List (List ℕ)) (last : List ℕ) → path ≡ before ++ last ∷ [] → path_text path ≡ flat_map with_dot before ++ last
path-is path before last e = ap path_text e ∙ path-last before last
