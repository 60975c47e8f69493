use Rattle.code_trees.proofs.operator_code.put_operator.Goals as goal

pub returns-in_ok-put_character_sum-in-AddToCharacter : goal.returns-in_ok-put_character_sum-in-AddToCharacter
returns-in_ok-put_character_sum-in-AddToCharacter c =
    rw c.in-AddToCharacter.is (c.in_ok-put_character_sum-in-AddToCharacter.ensures c.args.scratch)
