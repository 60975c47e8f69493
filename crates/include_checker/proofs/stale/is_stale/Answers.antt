use Rattle.std.proofs.Common.{map, rules, tests, sym, ◌∙◌}
use Rattle.std.proofs.lemmas.Iterator.{YieldsList-from_slice}
use Rattle.std.proofs.lemmas.Iterator.Search.{any_from_yields_List}
use Rattle.include_rules.specs.Stale.{faced, is_made_old}
use Rattle.include_rules.specs.declared.entries.FileEntry.{FileEntry}
use Rattle.include_checker.proofs.Staling.{list_any-map}
use Rattle.include_checker.proofs.stale.is_stale.Goals as goal

pub returns : goal.returns
returns c =
    let files = c.args.files.now in
    any_from_yields_List (λ (x : FileEntry). is_made_old (map faced files) c.args.text (faced x)) _ _ c.any.result c.any.ensures.ran (YieldsList-from_slice files cc) (λ x b q k. search (rules, tests))
    ∙ sym (list_any-map (is_made_old (map faced files) c.args.text) faced files)
