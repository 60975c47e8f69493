-- Something stands at each place before a text's end.
use Rattle.std.proofs.Common.{◌≡◌, ℕ, suc, Bool, true, false, ◌==◌, List, [], ◌∷◌, length, arith, refl}
use Rattle.std.proofs.lemmas.Bool.{and_parts, eqb-true}
use Rattle.mesa_base.specs.Name.{is_letter, is_digit}
use Rattle.mesa_lexer.specs.Blanks.{is_blank, begins_with_hyphens, blank, comment}
use Rattle.mesa_lexer.specs.Lexed.{Stands, identifier_lexed, number_lexed, character_lexed, ended, mark_within, comment_len}
use Rattle.mesa_lexer.specs.declared.lexed.Lexed.{Lexed}
use Rattle.mesa_lexer.specs.declared.lexed.Lexed.TheVariants.{Gap}
use Rattle.mesa_lexer.proofs.Gaps.{goes_on}
use Rattle.mesa_lexer.proofs.Longer.{no_gap}
use Rattle.mesa_lexer.proofs.Names.{identifier_stands}
use Rattle.mesa_lexer.proofs.Numbers.{number_stands}
use Rattle.mesa_lexer.proofs.Characters.{character_stands}
use Rattle.mesa_lexer.proofs.Strings.{text_stands, runs_somewhere}
use Rattle.mesa_lexer.proofs.MarkForms.{mark_stands}

pub comment_stands : (b : ℕ) (rest : List ℕ) → begins_with_hyphens (b ∷ rest) ≡ true → (a : ℕ) × ((behind : List ℕ) × (rest ≡ a ∷ behind) × Stands (b ∷ rest) (Gap (suc (suc (comment_len behind)))))
comment_stands b [] held = let parts = and_parts (b == 45) false held in cc
comment_stands b (a ∷ behind) held = (a, (behind, refl, comment held (goes_on behind)))

pub something_stands : (b : ℕ) (rest : List ℕ) → (p : Lexed) × Stands (b ∷ rest) p
something_stands b rest = by_blank (is_blank b) refl
  where
    by_quote : is_blank b ≡ false → begins_with_hyphens (b ∷ rest) ≡ false → is_letter b ≡ false → is_digit b ≡ false → (b == 39) ≡ false
        → (q : Bool) → (b == 34) ≡ q → (p : Lexed) × Stands (b ∷ rest) p
    by_quote unblank plain no_letter no_digit no_apostrophe true e =
        let runs = runs_somewhere (length rest) rest (omega arith) in
        (ended rest runs.0 runs.1.0, rw (eqb-true b 34 e) (text_stands runs.1.1))
    by_quote unblank plain no_letter no_digit no_apostrophe false e =
        (mark_within 3 (b ∷ rest), mark_stands b rest (record { gapless = no_gap b rest unblank plain; no_letter = no_letter; no_digit = no_digit; no_apostrophe = no_apostrophe; no_quote = e }))

    by_apostrophe : is_blank b ≡ false → begins_with_hyphens (b ∷ rest) ≡ false → is_letter b ≡ false → is_digit b ≡ false → (q : Bool) → (b == 39) ≡ q → (p : Lexed) × Stands (b ∷ rest) p
    by_apostrophe unblank plain no_letter no_digit true e = (character_lexed rest, rw (eqb-true b 39 e) (character_stands rest))
    by_apostrophe unblank plain no_letter no_digit false e = by_quote unblank plain no_letter no_digit e (b == 34) refl

    by_digit : is_blank b ≡ false → begins_with_hyphens (b ∷ rest) ≡ false → is_letter b ≡ false → (q : Bool) → is_digit b ≡ q → (p : Lexed) × Stands (b ∷ rest) p
    by_digit unblank plain no_letter true e = (number_lexed (b ∷ rest), number_stands b rest e)
    by_digit unblank plain no_letter false e = by_apostrophe unblank plain no_letter e (b == 39) refl

    by_letter : is_blank b ≡ false → begins_with_hyphens (b ∷ rest) ≡ false → (q : Bool) → is_letter b ≡ q → (p : Lexed) × Stands (b ∷ rest) p
    by_letter unblank plain true e = (identifier_lexed (b ∷ rest), identifier_stands b rest e)
    by_letter unblank plain false e = by_digit unblank plain e (is_digit b) refl

    by_hyphens : is_blank b ≡ false → (q : Bool) → begins_with_hyphens (b ∷ rest) ≡ q → (p : Lexed) × Stands (b ∷ rest) p
    by_hyphens unblank true e =
        let it = comment_stands b rest e in
        (Gap (suc (suc (comment_len it.1.0))), it.1.2)
    by_hyphens unblank false e = by_letter unblank e (is_letter b) refl

    by_blank : (q : Bool) → is_blank b ≡ q → (p : Lexed) × Stands (b ∷ rest) p
    by_blank true e = (Gap 1, blank e)
    by_blank false e = by_hyphens e (begins_with_hyphens (b ∷ rest)) refl
