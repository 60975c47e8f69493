use Rattle.std.proofs.Common.{[], ◌∷◌, ◌++◌, sym, ap}
use Rattle.check_scopes.proofs.Innermost.{ok_also}
use Rattle.check_rules.specs.Mentions.{Text, Made}
use Rattle.check_mentions.specs.Parts.{ahead, of_part}
use Rattle.check_mentions.proofs.GatherLaws.{all_is, same_left, with_behind}
use Rattle.check_mentions.proofs.gathered.Gathered.part.Goals as goal

pub returns-in-Text : goal.returns-in-Text
returns-in-Text c =
    let rest = ahead c.args.parts.now in
    ok_also c.text.result
    (λ h. all_is c.args.self.now c.text.new.self ((Text c.in-Text.text.now ∷ []) ++ rest) (of_part c.args.part ++ rest) rest (ap (λ p. of_part p ++ rest) (sym c.in-Text.is))
    (with_behind c.args.self.now c.text.new.self (Text c.in-Text.text.now ∷ []) [] rest h))
    c.text.ensures

pub returns-in-Made : goal.returns-in-Made
returns-in-Made c =
    let rest = ahead c.args.parts.now in
    ok_also c.made.result
    (λ h. all_is c.args.self.now c.made.new.self ((Made c.in-Made.token ∷ []) ++ rest) (of_part c.args.part ++ rest) rest (ap (λ p. of_part p ++ rest) (sym c.in-Made.is))
    (with_behind c.args.self.now c.made.new.self (Made c.in-Made.token ∷ []) [] rest h))
    c.made.ensures

pub returns-in_default : goal.returns-in_default
returns-in_default c =
    ok_also c.open.result (λ e. same_left c.args.self.now (of_part c.args.part ++ ahead c.args.parts.now) (ahead c.open.new.self) c.requires e) c.open.ensures
