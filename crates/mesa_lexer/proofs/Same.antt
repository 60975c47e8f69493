-- At one place one thing stands.
use Rattle.std.proofs.Common.{◌≡◌, ℕ, zero, suc, ◌<◌, Bool, true, false, ◌==◌, List, [], ◌∷◌, ◌++◌, take, ◌⊎◌, inl, inr, arith, refl, sym, ap, subst, ◌∙◌}
use Rattle.std.proofs.lemmas.Bool.{cases_order, not-true}
use Rattle.std.proofs.lemmas.List.{append_cancel_right, append-nil}
use Rattle.mesa_lexer.specs.Blanks.{begins_with, IsGap}
use Rattle.mesa_lexer.specs.Forms.{Form, Inside, empty, more, Writes, plain, quote, an_arrow, Lexeme, Whole, Longest}
use Rattle.mesa_lexer.specs.Tokens.{NoGap, IsToken}
use Rattle.mesa_lexer.specs.declared.token.Kind.{Kind}
use Rattle.mesa_lexer.specs.declared.token.Kind.TheVariants as k
use Rattle.mesa_lexer.proofs.Decoding.{decodes}
use Rattle.mesa_lexer.proofs.Gaps.{gap_is}
use Rattle.mesa_lexer.proofs.Strings.{Quoted, closed, opened, unquoted, quoted, inside_rest, inside_stops}

-- an inside has one value
inside_same : {bytes v w : List ℕ} → Inside bytes v → Inside bytes w → v ≡ w
inside_same {bytes} {v} {w} one two =
    let rest = inside_rest one [] w (rw (append-nil bytes) two) in
    let none : rest.0 ≡ [] = value_nil rest.1 refl in
    sym (rest.2 ∙ ap (λ l. v ++ l) none ∙ append-nil v)
  where
    value_nil : {bytes w : List ℕ} → Inside bytes w → bytes ≡ [] → w ≡ []
    value_nil empty e = refl
    value_nil (more {bytes = bytes} writes inside) e = absurd (no_writing writes e)
      where
        no_writing : {item : List ℕ} {b : ℕ} → Writes item b → item ++ bytes ≡ [] → ⊥
        no_writing (plain held) e = cc
        no_writing quote e = cc
        no_writing an_arrow e = cc

-- an inside and its quote are no inside
not_both : {bytes v w : List ℕ} → Inside bytes v → Inside (bytes ++ 34 ∷ []) w → ⊥
not_both {bytes} {v} {w} inside whole =
    let rest = inside_rest inside (34 ∷ []) w whole in
    let e = inside_stops rest.1 refl in
    cc

quoted_same : {b1 b2 : List ℕ} {x y : Lexeme} → Quoted b1 x → Quoted b2 y → b1 ≡ b2 → x ≡ y
quoted_same (closed {bytes = p} {value = v} one) (closed {bytes = q} {value = w} two) e =
    let tails : p ++ 34 ∷ [] ≡ q ++ 34 ∷ [] = cc in
    let same : p ≡ q = append_cancel_right p q (34 ∷ []) tails in
    ap (λ value. Whole (k.Text value)) (inside_same (subst (λ l. Inside l v) same one) two)
quoted_same (closed {bytes = p} one) (opened {bytes = q} {value = w} two) e =
    let tails : p ++ 34 ∷ [] ≡ q = cc in
    absurd (not_both one (subst (λ l. Inside l w) (sym tails) two))
quoted_same (opened {bytes = p} {value = v} one) (closed {bytes = q} two) e =
    let tails : p ≡ q ++ 34 ∷ [] = cc in
    absurd (not_both two (subst (λ l. Inside l v) tails one))
quoted_same (opened one) (opened two) e = refl

unquoted_begins : (bytes : List ℕ) → unquoted bytes ≡ true → begins_with 34 bytes ≡ false
unquoted_begins [] e = refl
unquoted_begins (b ∷ bytes) e = not-true (b == 34) e

-- bytes are the form of one token
pub form_same : (bytes : List ℕ) (x y : Lexeme) → Form bytes x → Form bytes y → x ≡ y
form_same bytes x y one two = go (unquoted bytes) refl
  where
    go : (u : Bool) → unquoted bytes ≡ u → x ≡ y
    go true e =
        let left = decodes one (unquoted_begins bytes e) in
        let right = decodes two (unquoted_begins bytes e) in
        cc
    go false e = quoted_same (quoted one e) (quoted two e) refl

-- one form is the longest
pub longest_same : {rest : List ℕ} {m n : ℕ} {x y : Lexeme} → Longest rest m x → Longest rest n y → (m ≡ n) × (x ≡ y)
longest_same {rest} {m} {n} {x} {y} one two = go (cases_order m n)
  where
    go : (m ≡ n) ⊎ ((m < n) ⊎ (n < m)) → (m ≡ n) × (x ≡ y)
    go (inl same) = (same, form_same (take n rest) x y (subst (λ l. Form (take l rest) x) same one.is_form) two.is_form)
    go (inr (inl less)) = absurd (one.no_longer n y less two.is_there two.is_form)
    go (inr (inr less)) = absurd (two.no_longer m x less one.is_there one.is_form)

pub token_same : {rest : List ℕ} {m n : ℕ} {one two : Kind} → IsToken rest m one → IsToken rest n two → (m ≡ n) × (one ≡ two)
token_same a b =
    let both = longest_same a.longest b.longest in
    let kinds = both.1 in
    (both.0, cc)

pub gap_same : {rest : List ℕ} {m n : ℕ} → IsGap rest m → IsGap rest n → m ≡ n
gap_same one two = (gap_is one).0 ∙ sym (gap_is two).0

-- no form is empty
pub form_some : (y : Lexeme) → ¬ Form [] y
form_some y form = let h = decodes form refl in cc

pub token_some : (rest : List ℕ) (n : ℕ) (y : Lexeme) → Longest rest n y → 0 < n
token_some rest zero y long = absurd (form_some y long.is_form)
token_some rest (suc n) y long = omega arith

-- nothing stands at the end
pub no_gap_at_end : NoGap []
no_gap_at_end n gap = let all = gap_is gap in let a = all.1 in let b = all.2 in absurd (omega arith)

pub no_token_at_end : (n : ℕ) (y : Lexeme) → ¬ Longest [] n y
no_token_at_end zero y long = form_some y long.is_form
no_token_at_end (suc n) y long = let t = long.is_there in absurd (omega arith)
