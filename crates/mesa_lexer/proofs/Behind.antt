-- The position behind bytes, one byte further on.
use Rattle.std.proofs.Common.{◌≡◌, ℕ, suc, ◌+◌, ◌≤◌, Bool, true, false, ◌&&◌, ◌||◌, ◌==◌, not, cond, if◌then◌else◌, List, [], ◌∷◌, ◌++◌, length, reverse, arith, refl, sym, ap, ◌∙◌}
use Rattle.std.proofs.lemmas.Bool.{eqb-true}
use Rattle.std.proofs.lemmas.List.{append_assoc, append-nil, reverse-append, length-reverse}
use Rattle.std.proofs.lemmas.List.Sums.{prefix_len-le-length}
use Rattle.mesa_lexer.specs.Blanks.{ends_line, begins_with}
use Rattle.mesa_lexer.specs.Places.{line_ends, in_last_line, place_after}
use Rattle.mesa_lexer.specs.Positions.{ends_with, IsBehind, step_over, passed, place_of}
use Rattle.mesa_lexer.specs.declared.position.Position.{Position}

ends_with_push : (b : ℕ) (xs : List ℕ) (c : ℕ) → ends_with b (xs ++ c ∷ []) ≡ (c == b)
ends_with_push b [] c = refl
ends_with_push b (x ∷ []) c = refl
ends_with_push b (x ∷ y ∷ xs) c = ends_with_push b (y ∷ xs) c

-- what one more byte adds to the line ends
abbrev added : ℕ → Bool → ℕ
added b after_return = if (b == 10) && after_return then 0 else (if ends_line b then 1 else 0)

-- 10 and 13 as tests of the last byte and of the new one
two_ends : (p q r s : Bool) → (p && q) ≡ false → (r && s) ≡ false
    → (if p || (q && not r) then 1 else 0) + ((if r || (s && true) then 1 else 0) + 0) ≡ (if p || (q && true) then 1 else 0) + 0 + (if r && q then 0 else (if r || s then 1 else 0))
two_ends true true r s e f = cc
two_ends p q true true e f = cc
two_ends true false true false e f = refl
two_ends true false false true e f = refl
two_ends true false false false e f = refl
two_ends false true true false e f = refl
two_ends false true false true e f = refl
two_ends false true false false e f = refl
two_ends false false true false e f = refl
two_ends false false false true e f = refl
two_ends false false false false e f = refl

not_both : (b : ℕ) → ((b == 10) && (b == 13)) ≡ false
not_both b = go (b == 10) refl
  where
    go : (t : Bool) → (b == 10) ≡ t → (t && (b == 13)) ≡ false
    go true e = rw (eqb-true b 10 e) refl
    go false e = refl

line_ends_push : (xs : List ℕ) (b : ℕ) → line_ends (xs ++ b ∷ []) ≡ line_ends xs + added b (ends_with 13 xs)
line_ends_push [] b = go (b == 10) (b == 13)
  where
    go : (r s : Bool) → (if r || (s && true) then 1 else 0) + 0 ≡ 0 + (if r && false then 0 else (if r || s then 1 else 0))
    go true s = refl
    go false true = refl
    go false false = refl
line_ends_push (x ∷ []) b = two_ends (x == 10) (x == 13) (b == 10) (b == 13) (not_both x) (not_both b)
line_ends_push (x ∷ y ∷ xs) b =
    let more = line_ends_push (y ∷ xs) b in
    let n : ℕ = if (x == 10) || ((x == 13) && not (y == 10)) then 1 else 0 in
    ap (λ m. n + m) more ∙ (let l : ℕ = line_ends (y ∷ xs) in let a : ℕ = added b (ends_with 13 (y ∷ xs)) in omega arith)

last_line_push : (xs : List ℕ) (b : ℕ) → in_last_line (xs ++ b ∷ []) ≡ cond (not (ends_line b)) (1 + in_last_line xs) 0
last_line_push xs b = rw (reverse-append xs (b ∷ [])) refl

step_behind : (position : Position) (before : List ℕ) (b : ℕ) → IsBehind position before → IsBehind (step_over position b) (before ++ b ∷ [])
step_behind position before b behind = go (ends_line b) refl
  where
    line_added : position.line + added b position.after_return ≡ 1 + line_ends (before ++ b ∷ [])
    line_added =
        let l = behind.line_is in
        let push = line_ends_push before b in
        rw behind.return_is (let a : ℕ = added b (ends_with 13 before) in omega (arith, push, l))

    go : (t : Bool) → ends_line b ≡ t
        → IsBehind (cond t (record { line = if (b == 10) && position.after_return then position.line else position.line + 1; column = 1; after_return = b == 13 })
        (record { line = position.line; column = position.column + 1; after_return = false })) (before ++ b ∷ [])
    go true e = record {
      line_is = by_feed ((b == 10) && position.after_return) refl;
      column_is = rw (last_line_push before b) (rw e refl);
      return_is = sym (ends_with_push 13 before b);
    }
      where
        by_feed : (f : Bool) → ((b == 10) && position.after_return) ≡ f → (if f then position.line else position.line + 1) ≡ 1 + line_ends (before ++ b ∷ [])
        by_feed true f = let a = rw f at line_added in omega (arith, a)
        by_feed false f = rw e at (rw f at line_added)
    go false e = record {
      line_is = by_feed (b == 10) refl;
      column_is = rw (last_line_push before b) (rw e (let c = behind.column_is in omega (arith, c)));
      return_is = sym (ends_with_push 13 before b ∙ by_return (b == 13) refl);
    }
      where
        by_return : (f : Bool) → (b == 13) ≡ f → (b == 13) ≡ false
        by_return true f = let h = rw (eqb-true b 13 f) at e in cc
        by_return false f = f

        by_feed : (f : Bool) → (b == 10) ≡ f → position.line ≡ 1 + line_ends (before ++ b ∷ [])
        by_feed true f = let h = rw (eqb-true b 10 f) at e in cc
        by_feed false f = let e' = rw f at e in let a = rw e' at (rw f at line_added) in omega (arith, a)

pub passed_behind : (bytes : List ℕ) (position : Position) (before : List ℕ) → IsBehind position before → IsBehind (passed position bytes) (before ++ bytes)
passed_behind [] position before behind = rw (append-nil before) behind
passed_behind (b ∷ bytes) position before behind =
    rw append_assoc at (passed_behind bytes (step_over position b) (before ++ b ∷ []) (step_behind position before b behind))

-- the place is that behind these bytes
pub place_behind : (position : Position) (before : List ℕ) (tokens : ℕ) → IsBehind position before
    → place_of position tokens ≡ place_after before tokens
unfolding place_after
place_behind position before tokens behind =
    ap (λ (l : ℕ). record { token = tokens; line = l; column = position.column }) behind.line_is
    ∙ ap (λ (c : ℕ). record { token = tokens; line = 1 + line_ends before; column = c }) behind.column_is

line_ends_few : (xs : List ℕ) → line_ends xs ≤ length xs
line_ends_few [] = omega arith
line_ends_few (x ∷ xs) = go ((x == 10) || ((x == 13) && not (begins_with 10 xs))) (line_ends_few xs)
  where
    go : (t : Bool) → line_ends xs ≤ length xs → (if t then 1 else 0) + line_ends xs ≤ suc (length xs)
    go true few = omega arith
    go false few = omega arith

-- lines and columns are at most one above the bytes
pub few_lines : (position : Position) (before : List ℕ) → IsBehind position before → (position.line ≤ length before + 1) × (position.column ≤ length before + 1)
few_lines position before behind =
    let l = behind.line_is in
    let c = behind.column_is in
    let few = line_ends_few before in
    let short = prefix_len-le-length (λ b. not (ends_line b)) (reverse before) in
    (omega arith, let short' = rw (length-reverse before) at short in omega (arith, c, short'))
