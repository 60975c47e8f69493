use Rattle.std.proofs.Common.{arith}
use Rattle.code_counts.proofs.WordLaws.{select_hidden, select_long_hidden}
use Rattle.code_counts.proofs.hidden.+hidden.Goals as goal

pub hidden_words-returns-in-Select : goal.hidden_words-returns-in-Select
hidden_words-returns-in-Select t c =
    omega (
      arith,
      select_hidden c.args.s.now c.in-Select.e _ _ c.as_slice-in-Select.result.now c.get-in-Select.result.now
          c.in-Select.is c.as_slice-in-Select.ensures c.get-in-Select.ensures,
    )

pub hidden_words-returns-in-SelectLong : goal.hidden_words-returns-in-SelectLong
hidden_words-returns-in-SelectLong t c =
    omega (
      arith,
      select_long_hidden c.args.s.now c.in-SelectLong.e _ _ c.as_slice-in-SelectLong.result.now c.get-in-SelectLong.result.now
          c.in-SelectLong.is c.as_slice-in-SelectLong.ensures c.get-in-SelectLong.ensures,
    )
