-- What comes of bytes that were read up to a byte past a limit comes of the whole file.
use Rattle.std.proofs.Common.{◌≡◌, ℕ, ◌≤◌, List, length, take, min, refl, sym, ◌∙◌, ap, subst, arith}
use Rattle.std.proofs.lemmas.List.{length-take, take_min}
use Rattle.std.proofs.Math.Seq.{take-length}
use Rattle.mesa_lexer.specs.Tokens.{HasLexFault, text_too_long, no_token, not_in_text, open_text, too_large, too_long}
use Rattle.mesa_lexer.specs.declared.fault.LexFault.{LexFault}
use Rattle.mesa_lexer.specs.declared.fault.LexFault.TheVariants as lex
use Rattle.syntax_trees.specs.declared.syntax.Module.{Module}
use Rattle.command_rules.specs.checked_texts.specs.declared.purpose.Purpose.{Purpose}
use Rattle.command_rules.specs.checked_texts.specs.declared.text_fault.TextFault.{TextFault}
use Rattle.command_rules.specs.checked_texts.specs.Texts as text
use Rattle.command_rules.specs.written_trees.specs.Laws.{IsTreeOf}
use Rattle.command_rules.specs.Modules.{Begins, begun, refused}
use Rattle.command_rules.specs.Passes.{Has}
use Rattle.command_rules.proofs.Passing.{Moves}
use Rattle.command_passes.proofs.Files.{NeverAbsent}

is_whole : (part whole : List ℕ) → part ≡ take 1048577 whole → length part ≤ 1048576 → part ≡ whole
is_whole part whole e few =
    let short : length whole ≤ 1048576 = omega (arith, ap length e ∙ length-take 1048577 whole) in
    let all : min 1048577 (length whole) ≡ length whole = omega arith in
    e ∙ sym (take_min 1048577 whole) ∙ ap (λ n. take n whole) all ∙ take-length whole

-- a text with another lexical fault is not too long
lexical_short : (text : List ℕ) (why : LexFault) → HasLexFault text why → (why ≡ lex.TextTooLong → ⊥) → length text ≤ 1048576
lexical_short text lex.TextTooLong (text_too_long long) other = absurd (other refl)
lexical_short text (lex.BadByte _) (no_token stops none) other = stops.not_long
lexical_short text (lex.BadByte _) (not_in_text stops longest within) other = stops.not_long
lexical_short text (lex.OpenString _) (open_text stops longest last) other = stops.not_long
lexical_short text (lex.NumberTooLarge _) (too_large stops longest large) other = stops.not_long
lexical_short text (lex.TokenTooLong _) (too_long stops longest long) other = stops.not_long
lexical_short text lex.Memory x other = elim x [ ]

lexical_moves : (part whole : List ℕ) (why : LexFault) → part ≡ take 1048577 whole → (why ≡ lex.TextTooLong → ⊥)
    → HasLexFault part why → HasLexFault whole why
lexical_moves part whole why e other h = subst (λ t. HasLexFault t why) (is_whole part whole e (lexical_short part why h other)) h

pub lexical_whole : (part whole : List ℕ) (why : LexFault) → part ≡ take 1048577 whole → HasLexFault part why → HasLexFault whole why
lexical_whole part whole lex.TextTooLong e (text_too_long long) =
    text_too_long (omega (arith, long, ap length e ∙ length-take 1048577 whole))
lexical_whole part whole (lex.BadByte place) e h = lexical_moves part whole (lex.BadByte place) e (λ no. cc) h
lexical_whole part whole (lex.OpenString place) e h = lexical_moves part whole (lex.OpenString place) e (λ no. cc) h
lexical_whole part whole (lex.NumberTooLarge place) e h = lexical_moves part whole (lex.NumberTooLarge place) e (λ no. cc) h
lexical_whole part whole (lex.TokenTooLong place) e h = lexical_moves part whole (lex.TokenTooLong place) e (λ no. cc) h
lexical_whole part whole lex.Memory e x = elim x [ ]

pub tree_whole : (part whole : List ℕ) (tree : Module) → part ≡ take 1048577 whole → IsTreeOf part tree → IsTreeOf whole tree
tree_whole part whole tree e h = subst (λ t. IsTreeOf t tree) (is_whole part whole e h.are_its_own.not_long) h

pub no_tree_whole : (part whole : List ℕ) (why : TextFault) → part ≡ take 1048577 whole → text.HasNoTree part why → text.HasNoTree whole why
no_tree_whole part whole _ e (text.lexical why h) = text.lexical why (lexical_whole part whole why e h)
no_tree_whole part whole _ e (text.syntactic why h) =
    text.syntactic why (subst (λ t. text.HasSyntaxFault t why) (is_whole part whole e h.has_tokens.not_long) h)

early_whole : (purpose : Purpose) (part whole : List ℕ) (why : TextFault) → part ≡ take 1048577 whole → text.HasEarlyFault part purpose why
    → text.HasEarlyFault whole purpose why
early_whole purpose part whole _ e (text.no_tree why h) = text.no_tree why (no_tree_whole part whole why e h)
early_whole purpose part whole _ e (text.wrong tree why h is) = text.wrong tree why (tree_whole part whole tree e h) is

pub begins_moves : (file : List ℕ) (purpose : Purpose) → Moves 1048576 (Begins file purpose)
begins_moves file purpose part whole _ e (begun tree h) =
    subst (λ t. Begins file purpose t (Has (part, tree))) (is_whole part whole e h.is_tree.are_its_own.not_long) (begun tree h)
begins_moves file purpose part whole _ e (refused why h) = refused why (early_whole purpose part whole why e h)

pub begins_absent : (file : List ℕ) (purpose : Purpose) (bytes : List ℕ) → NeverAbsent (Begins file purpose bytes)
begins_absent file purpose bytes other x = elim x [ ]
