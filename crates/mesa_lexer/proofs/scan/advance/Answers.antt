use Rattle.std.proofs.Common.{ap, ◌∙◌}
use Rattle.mesa_lexer.specs.Positions.{place_of}
use Rattle.mesa_lexer.specs.Advances.{gap, nothing, stray, cut, large, long}
use Rattle.mesa_lexer.proofs.Scanning.{step_token}
use Rattle.mesa_lexer.proofs.scan.advance.Goals as goal

pub returns-in-Gap-clause-ok : goal.returns-in-Gap-clause-ok
returns-in-Gap-clause-ok c = gap (rw c.in-Gap.is at c.in_ok-count.ensures)

pub returns-in_ok-push-in-Token-clause-ok : goal.returns-in_ok-push-in-Token-clause-ok
returns-in_ok-push-in-Token-clause-ok c =
    rw c.in_ok-push-in-Token.ensures.ok (step_token (rw c.in-Token.is at c.in_ok-count.ensures) (c.place-place.ensures ∙ ap (place_of c.args.position) c.len.ensures))

pub returns-in-NoToken-clause-err : goal.returns-in-NoToken-clause-err
returns-in-NoToken-clause-err c other = rw c.place-place.ensures (rw c.len.ensures (nothing (rw c.in-NoToken.is at c.in_ok-count.ensures)))

pub returns-in-Stray-clause-err : goal.returns-in-Stray-clause-err
returns-in-Stray-clause-err c other = rw c.place.ensures (rw c.behind.ensures (rw c.len-in-Stray.ensures (stray (rw c.in-Stray.is at c.in_ok-count.ensures))))

pub returns-in-Open-clause-err : goal.returns-in-Open-clause-err
returns-in-Open-clause-err c other = rw c.place-place.ensures (rw c.len.ensures (cut (rw c.in-Open.is at c.in_ok-count.ensures)))

pub returns-in-TooLarge-clause-err : goal.returns-in-TooLarge-clause-err
returns-in-TooLarge-clause-err c other = rw c.place-place.ensures (rw c.len.ensures (large (rw c.in-TooLarge.is at c.in_ok-count.ensures)))

pub returns-in-TooLong-clause-err : goal.returns-in-TooLong-clause-err
returns-in-TooLong-clause-err c other = rw c.place-place.ensures (rw c.len.ensures (long (rw c.in-TooLong.is at c.in_ok-count.ensures)))
