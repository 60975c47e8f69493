use Rattle.std.proofs.Common.{sym, ◌∙◌}
use Rattle.mesa_lexer.proofs.Choices.{blank_first, hyphens_first, letter_first, digit_first, apostrophe_first, mark_first, stands_of}
use Rattle.mesa_lexer.proofs.scan.lex.Goals as goal

pub returns-then-is_blank : goal.returns-then-is_blank
returns-then-is_blank c = blank_first c.args.rest.now c.requires (sym c.is_blank.ensures ∙ c.if-is_blank.true)

pub returns-then-begins_with_hyphens : goal.returns-then-begins_with_hyphens
returns-then-begins_with_hyphens c =
    rw c.comment.ensures.count (hyphens_first c.args.rest.now (sym c.begins_with_hyphens.ensures.value ∙ c.if-begins_with_hyphens.true)).0

pub returns-then-is_letter : goal.returns-then-is_letter
returns-then-is_letter c =
    stands_of c.args.rest.now c.identifier.result (letter_first c.args.rest.now c.requires (sym c.is_letter.ensures ∙ c.if-is_letter.true)) c.identifier.ensures

pub returns-then-is_digit : goal.returns-then-is_digit
returns-then-is_digit c = rw c.number.ensures (digit_first c.args.rest.now c.requires (sym c.is_digit.ensures ∙ c.if-is_digit.true))

pub returns-then-first-eq39 : goal.returns-then-first-eq39
returns-then-first-eq39 c = rw c.character.ensures (apostrophe_first c.args.rest.now c.requires c.if-first-eq39.true)

pub returns-else-first-eq34 : goal.returns-else-first-eq34
returns-else-first-eq34 c =
    rw c.mark.ensures (mark_first c.args.rest.now c.requires
    (sym c.is_blank.ensures ∙ c.if-is_blank.false)
    (sym c.begins_with_hyphens.ensures.value ∙ c.if-begins_with_hyphens.false)
    (sym c.is_letter.ensures ∙ c.if-is_letter.false)
    (sym c.is_digit.ensures ∙ c.if-is_digit.false)
    c.if-first-eq39.false c.if-first-eq34.false)
