use Rattle.line_pieces.proofs.pieces.send_piece.Goals as goal

pub returns-in-Digits-clause-cut : goal.returns-in-Digits-clause-cut
returns-in-Digits-clause-cut g c = λ short. rw c.in-Digits.is (rw c.stamp_digits.ensures at (c.send-in-Digits.ensures.cut short))
