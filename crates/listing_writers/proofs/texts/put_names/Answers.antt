use Rattle.std.proofs.Common.{ℕ, List, ap}
use Rattle.listing_rules.specs.Lines.{between}
use Rattle.listing_writers.proofs.Chains.{same_text}
use Rattle.listing_writers.proofs.LineLaws.{names_are}
use Rattle.listing_writers.proofs.texts.put_names.Goals as goal

pub returns : goal.returns
returns c =
    same_text c.put_between.result c.args.out.now c.put_between.new.out _ _ (ap (λ (ns : List (List ℕ)). between c.args.mark.now ns) (names_are c.args.names.now)) c.put_between.ensures
